use Rattle.std.proofs.Common.{◌≡◌, ℕ, ◌==◌, ◌&&◌, ◌||◌, Bool, true, false, not, Option, Some, None, List, [], ◌∷◌, refl, sym, ap, ◌∙◌, subst}
use Rattle.std.proofs.lemmas.Bool.{eq-eqb, eqb-true}
use Rattle.std.specs.List.{AllByRecursion, list_all}
use Rattle.std.specs.Prelude.{slice_index, if◌then◌else◌}
use Rattle.dds_base.specs.BrickList.{has}
use Rattle.dds_base.specs.NodeSet.{has_node}
use Rattle.dds_base.specs.Op.{the_key}
use Rattle.dds_base.specs.declared.leaf.Leaf.{Leaf}
use Rattle.dds_base.specs.declared.node_set.NodeSet.{NodeSet}
use Rattle.dds_base.specs.declared.number.NodeNo.{NodeNo}
use Rattle.dds_base.specs.declared.op.Met.{Met}
use Rattle.dds_base.specs.declared.op.Met.TheVariants as met
use Rattle.dds_base.specs.declared.op.Op.{Op}
use Rattle.dds_base.specs.declared.op.Op.TheVariants as op
use Rattle.dds_base.specs.declared.op.Reply.TheVariants as reply
use Rattle.dds_call_rows.specs.Library as rows
use Rattle.dds_call_rows.specs.Library.{CallTurn}
use Rattle.dds_core.specs.LibraryTurn.{call_row}
use Rattle.dds_groups.specs.Leaves.{live, newer}
use Rattle.dds_history.specs.Map.{reply_with}
use Rattle.dds_law_leaf.proofs.Book.{Each, InMap}
use Rattle.dds_law_leaf.proofs.Maps.{in-for, in-put}
use Rattle.dds_letters.specs.declared.letter.Letter.{Letter}
use Rattle.dds_letters.specs.declared.letter.Letter.TheVariants as letter
use Rattle.dds_letters.specs.declared.refusal.Answer.{Answer}
use Rattle.dds_letters.specs.declared.refusal.Answer.TheVariants as answer
use Rattle.dds_letters.specs.declared.refusal.Ballot.{Ballot}
use Rattle.dds_letters.specs.declared.refusal.Ballot.TheVariants as ballot
use Rattle.dds_letters.specs.declared.refusal.Denial.{Denial}
use Rattle.dds_letters.specs.declared.refusal.Denial.TheVariants as denial
use Rattle.dds_letters.specs.declared.refusal.Refusal.{Refusal}
use Rattle.dds_letters.specs.declared.refusal.Refusal.TheVariants as refusal
use Rattle.dds_states.specs.Leaf.{leaf_for}
use Rattle.dds_states.specs.Turn.{is_none_left, unknown, without}
use Rattle.dds_states.specs.declared.library_state.Desk.{Desk}
use Rattle.dds_states.specs.declared.library_state.OpenCall.{OpenCall}
use Rattle.dds_states.specs.declared.library_state.Phase.{Phase}
use Rattle.dds_states.specs.declared.library_state.Phase.TheVariants as phase
use Rattle.dds_states.specs.declared.library_state.Request.{Request}
use Rattle.dds_states.specs.declared.library_state.TheConstants.{RETRIES}
use Rattle.dds_trie.specs.Trie.{LeafMap, put}
use Rattle.dds_world.specs.Groups.{answer_leaf, call_leaf, denial_leaf, refusal_leaf}
use Rattle.dds_world.specs.Treated.{attempt_list, list_of_leaf}
use Rattle.dds_calls.proofs.Fills.{Fills, IsFilled}

-- What a call has met where its turn ends with Again, or with a look for a newer map: a stopped brick is one of its attempt or of the
-- leaf in its library's map.

-- of what the turn ends with, by the map that it leaves
pub record Ends (Q : LeafMap → Met → Type 0) (t : CallTurn) : Type 0 where
  pub told : (m : Met) → t.went.reply ≡ Some (reply.Again m) → Q t.desk.map m
  pub asks : (x : OpenCall) (w : List NodeNo) (n : Option Leaf) (m : Met) → t.went.call ≡ Some x → x.phase ≡ phase.Asking w n m → Q t.desk.map m

same-met : (a b : Met) → Some (reply.Again a) ≡ Some (reply.Again b) → a ≡ b
same-met a b e = cc

again-ends : (Q : LeafMap → Met → Type 0) (d : Desk) (m : Met) → Q d.map m → Ends Q (rows.replies d (reply.Again m))
again-ends Q d m h = record { told = λ x e. subst (Q d.map) (same-met m x e) h; asks = λ x w n k e f. cc }

asking-is : (c x : OpenCall) (w v : List NodeNo) (n k : Option Leaf) (m q : Met) → Some c ≡ Some x → c.phase ≡ phase.Asking w n m → x.phase ≡ phase.Asking v k q
    → m ≡ q
asking-is c x w v n k m q e f g =
    let is : c ≡ x = cc in
    let both : phase.Asking w n m ≡ phase.Asking v k q = sym f ∙ ap (λ (y : OpenCall). y.phase) is ∙ g in
    cc

looks-ends : (Q : LeafMap → Met → Type 0) (d : Desk) (r : Request) (m : Met) (ns : List NodeNo) → Q d.map m → Ends Q (rows.asks d r m ns)
looks-ends Q d r m [] h = again-ends Q (rows.counted d) m h
looks-ends Q d r m (n ∷ ns) h =
    record { told = λ x e. cc; asks = λ x w k q e f. subst (Q d.map) (asking-is _ x (n ∷ ns) w None k m q e refl f) h }

ends-if : (Q : LeafMap → Met → Type 0) (b : Bool) (t u : CallTurn) → (b ≡ true → Ends Q t) → (b ≡ false → Ends Q u) → Ends Q (if b then t else u)
ends-if Q true t u f g = f refl
ends-if Q false t u f g = g refl

ask-ends : (Q : LeafMap → Met → Type 0) (d : Desk) (r : Request) (m : Met) → Q d.map m → Ends Q (rows.ask d r m)
ask-ends Q d r m h = ends-if Q (r.retries == RETRIES) _ _ (λ e. again-ends Q d m h) (λ e. looks-ends Q d r m (rows.live_bricks d) h)

-- a stopped brick of the leaf in the map
abbrev pub InTheMap : NodeSet → ℕ → LeafMap → ℕ → Type 0
InTheMap known key map b = (has (list_of_leaf (leaf_for map key)) b ≡ true) × (has_node known b ≡ true)

first-known : (list : List NodeNo) (known : NodeSet) → is_none_left list ≡ false → unknown list known ≡ []
    → (has list (slice_index list 0) ≡ true) × (has_node known (slice_index list 0) ≡ true)
first-known [] known h e = cc
first-known (n ∷ ns) known h e = (ap (λ b. b || has ns n) (eq-eqb n n refl), by (has_node known n) refl e)
  where
    by : (b : Bool) → has_node known n ≡ b → (if b then live ns (has_node known) else n ∷ live ns (has_node known)) ≡ [] → has_node known n ≡ true
    by true k f = k
    by false k f = cc

phase_of : OpenCall → Phase
phase_of c = c.phase

-- a call that stays open, and asks for nothing
open-ends : (Q : LeafMap → Met → Type 0) (d : Desk) (ls : List (NodeNo × Letter)) (c : OpenCall)
    → ((w : List NodeNo) (n : Option Leaf) (m : Met) → c.phase ≡ phase.Asking w n m → Q d.map m) → Ends Q (rows.stays d ls c)
open-ends Q d ls c f =
    record {
      told = λ m e. cc;
      asks = λ x w n m e g. let is : c ≡ x = cc in f w n m (ap (λ (y : OpenCall). y.phase) is ∙ g);
    }

attempt-ends : (Q : LeafMap → Met → Type 0) (d : Desk) (r : Request) (leaf : Leaf) (ms : List NodeNo) (o : Op) → Ends Q (rows.attempt_begins d r leaf ms o)
attempt-ends Q d r leaf ms (op.Get key) = open-ends Q (rows.counted d) _ _ (λ w n m e. cc)
attempt-ends Q d r leaf ms other = open-ends Q (rows.counted d) _ _ (λ w n m e. cc)

abbrev OfMap : (LeafMap → Met → Type 0) → NodeSet → ℕ → Type 0
OfMap Q known key = (map : LeafMap) (b : ℕ) → InTheMap known key map b → Q map (met.Stopped b)

with-ends : (Q : LeafMap → Met → Type 0) (d : Desk) (r : Request) (leaf : Leaf) (ms : List NodeNo) → OfMap Q d.known (the_key r.op)
    → leaf_for d.map (the_key r.op) ≡ Some leaf → unknown leaf.list d.known ≡ ms → IsFilled leaf → Ends Q (rows.begins_with d r leaf ms)
with-ends Q d r leaf [] q there none filled =
    let k = first-known leaf.list d.known filled none in
    let b = slice_index leaf.list 0 in
    ask-ends Q d r (met.Stopped b) (q d.map b (ap (λ o. has (list_of_leaf o) b) there ∙ k.0, k.1))
with-ends Q d r leaf (m ∷ ms) q there some filled = attempt-ends Q d r leaf (m ∷ ms) r.op

at-ends : (Q : LeafMap → Met → Type 0) (d : Desk) (r : Request) (o : Option Leaf) → OfMap Q d.known (the_key r.op) → leaf_for d.map (the_key r.op) ≡ o
    → Each IsFilled o → Ends Q (rows.begins_at d r o)
at-ends Q d r None q there filled = record { told = λ m e. cc; asks = λ x w n m e f. cc }
at-ends Q d r (Some leaf) q there filled = with-ends Q d r leaf (unknown leaf.list d.known) q there refl filled

pub begin-ends : (Q : LeafMap → Met → Type 0) (d : Desk) (r : Request) → OfMap Q d.known (the_key r.op) → InMap IsFilled d.map → Ends Q (rows.begin d r)
begin-ends Q d r q h = at-ends Q d r (leaf_for d.map (the_key r.op)) q refl (in-for IsFilled d.map (the_key r.op) h)

-- An open call's turn

-- how a call came to have met that a brick stopped
pub data StopSeen (c : OpenCall) (from : NodeNo) (l : Letter) (known : NodeSet) (map : LeafMap) (b : ℕ) : Type 0 where
  had : (w : List NodeNo) (n : Option Leaf) → c.phase ≡ phase.Asking w n (met.Stopped b) → StopSeen c from l known map b
  in_list : has (attempt_list c.phase) b ≡ true → b ≡ from → l ≡ letter.Notice → StopSeen c from l known map b
  in_map : InTheMap known (the_key c.request.op) map b → StopSeen c from l known map b

abbrev pub Seen : OpenCall → NodeNo → Letter → NodeSet → LeafMap → Met → Type 0
Seen c from l known map (met.Stopped b) = StopSeen c from l known map b
Seen c from l known map other = Unit {0}

kept-seen : (c : OpenCall) (from : NodeNo) (l : Letter) (known : NodeSet) (map : LeafMap) (w : List NodeNo) (n : Option Leaf) (m : Met)
    → c.phase ≡ phase.Asking w n m → Seen c from l known map m
kept-seen c from l known map w n (met.Stopped b) e = had w n e
kept-seen c from l known map w n (met.Lease b) e = tt
kept-seen c from l known map w n (met.Lock b) e = tt
kept-seen c from l known map w n (met.Stale b) e = tt

no-again : (o : Op) (flag : Bool) (m : Met) → Some (reply_with o flag) ≡ Some (reply.Again m) → ⊥
no-again (op.Get key) flag m e = cc
no-again (op.Put key value) flag m e = cc
no-again (op.Remove key) flag m e = cc
no-again (op.Swap key expected value) flag m e = cc

-- those that an update waits for are its members
abbrev pub Members : Phase → Type 0
Members (phase.Preparing leaf list waiting) = AllByRecursion (λ n. has list n ≡ true) waiting
Members other = Unit {0}

member-of : (list waiting : List NodeNo) (y : NodeNo) → AllByRecursion (λ n. has list n ≡ true) waiting → has waiting y ≡ true → has list y ≡ true
member-of list [] y h e = cc
member-of list (n ∷ ns) y h e = by (n == y) refl e (λ k. member-of list ns y h.1 k)
  where
    by : (b : Bool) → (n == y) ≡ b → (b || has ns y) ≡ true → (has ns y ≡ true → has list y ≡ true) → has list y ≡ true
    by true is f g = ap (has list) (sym (eqb-true n y is)) ∙ h.0
    by false is f g = g f

module _ (d : Desk) (c : OpenCall) (from : NodeNo) (l : Letter) where
  Q : LeafMap → Met → Type 0
  Q map m = Seen c from l d.known map m

  idle-ends : Ends Q (rows.stays d [] c)
  unfolding Q
  idle-ends = open-ends Q d [] c (λ w n m e. kept-seen c from l d.known d.map w n m e)

  again : (map : LeafMap) (retries : ℕ) (pushed : Bool) → InMap IsFilled map
      → Ends Q (rows.begin (record d { map = map }) (record c.request { retries = retries; pushed = pushed }))
  unfolding Q
  again map retries pushed h =
      begin-ends Q (record d { map = map }) (record c.request { retries = retries; pushed = pushed }) (λ u b k. in_map k) h

  repairs-ends : (to : NodeNo) (theirs : Leaf) (mine : Option Leaf) → InMap IsFilled d.map → IsFilled theirs
      → Ends Q (rows.repairs d (rows.retried c.request) to theirs mine)
  repairs-ends to theirs None h k = again (put d.map theirs) (rows.retried c.request).retries c.request.pushed (in-put IsFilled d.map theirs k h)
  repairs-ends to theirs (Some mine) h k =
      let n = (rows.retried c.request).retries in
      ends-if Q (newer mine theirs && not c.request.pushed) _ _ (λ e. let t = again d.map n true h in record { told = t.told; asks = t.asks })
      (λ e. ends-if Q (rows.same_leaf mine theirs) _ _ (λ f. again d.map n c.request.pushed h)
      (λ f. again (put d.map theirs) n c.request.pushed (in-put IsFilled d.map theirs k h)))

  stale-ends : (to : NodeNo) (leaf : Option Leaf) → InMap IsFilled d.map → Each IsFilled leaf → Ends Q (rows.stale d c.request to leaf)
  unfolding Q
  stale-ends to None h k = ask-ends Q d c.request (met.Stale to) tt
  stale-ends to (Some theirs) h k =
      ends-if Q (c.request.retries == RETRIES) _ _ (λ e. again-ends Q d (met.Stale to) tt)
      (λ e. repairs-ends to theirs (leaf_for d.map (the_key c.request.op)) h k)

  refused-ends : (to : NodeNo) (why : Refusal) → InMap IsFilled d.map → Each IsFilled (refusal_leaf why) → Ends Q (rows.refused d c.request to why)
  unfolding Q
  refused-ends to refusal.Lease h k = again-ends Q d (met.Lease to) tt
  refused-ends to refusal.Lock h k = again-ends Q d (met.Lock to) tt
  refused-ends to (refusal.Stale leaf) h k = stale-ends to leaf h k

  denied-ends : (to : NodeNo) (why : Denial) → InMap IsFilled d.map → Each IsFilled (denial_leaf why) → Ends Q (rows.denied d c.request to why)
  denied-ends to (denial.Refused why) h k = refused-ends to why h k
  denied-ends to denial.Full h k = record { told = λ m e. cc; asks = λ x w n m e f. cc }

  got-ends : (a : Answer) (p : Phase) → InMap IsFilled d.map → Each IsFilled (answer_leaf a) → Ends Q (rows.got_in d c from a p)
  got-ends answer.Absent (phase.Getting leaf brick) h k = record { told = λ m e. cc; asks = λ x w n m e f. cc }
  got-ends (answer.Value value) (phase.Getting leaf brick) h k = record { told = λ m e. cc; asks = λ x w n m e f. cc }
  got-ends (answer.Refused why) (phase.Getting leaf brick) h k = refused-ends from why h k
  got-ends a other h k = idle-ends

  prepared-ends : (leaf : Leaf) (list waiting : List NodeNo) → Ends Q (rows.prepared_on d c leaf list waiting)
  prepared-ends leaf list waiting =
      ends-if Q (is_none_left waiting) _ _ (λ e. open-ends Q d _ _ (λ w n m f. cc)) (λ e. open-ends Q d _ _ (λ w n m f. cc))

  ballot-ends : (leaf : Leaf) (list waiting : List NodeNo) (v : Ballot) → Ends Q (rows.vote_counted d c leaf list waiting from v)
  ballot-ends leaf list waiting ballot.Yes = prepared-ends leaf list (without waiting from)
  ballot-ends leaf list waiting (ballot.No why) = open-ends Q d _ _ (λ w n m f. cc)

  vote-ends : (v : Ballot) (p : Phase) → Ends Q (rows.vote_in d c from v p)
  vote-ends v (phase.Preparing leaf list waiting) =
      ends-if Q (has waiting from) _ _ (λ e. ballot-ends leaf list waiting v) (λ e. idle-ends)
  vote-ends v other = idle-ends

  applied-ends : (flag : Bool) (p : Phase) → Ends Q (rows.applied_in d c from flag p)
  applied-ends flag (phase.Committing leaf list waiting was) =
      ends-if Q (is_none_left (without waiting from)) _ _
      (λ e. record { told = λ m f. absurd (no-again c.request.op _ m f); asks = λ x w n m f g. cc }) (λ e. open-ends Q d _ _ (λ w n m f. cc))
  applied-ends flag other = idle-ends

  aborting-ends : (waiting : List NodeNo) (why : Denial) (brick : NodeNo) → InMap IsFilled d.map → Each IsFilled (denial_leaf why)
      → Ends Q (rows.aborted_on d c waiting why brick)
  aborting-ends waiting why brick h k =
      ends-if Q (is_none_left waiting) _ _ (λ e. denied-ends brick why h k) (λ e. open-ends Q d _ _ (λ w n m f. cc))

  aborted-ends : (p : Phase) → InMap IsFilled d.map → Each IsFilled (call_leaf p) → Ends Q (rows.aborted_in d c from p)
  aborted-ends (phase.Aborting waiting why brick) h k = aborting-ends (without waiting from) why brick h k
  aborted-ends other h k = idle-ends

  newer-filled : (told : Leaf) (kept : Option Leaf) → IsFilled told → Each IsFilled kept → Each IsFilled (rows.newer_of told kept)
  newer-filled told None h k = h
  newer-filled told (Some kept) h k = by (newer told kept)
    where
      by : (b : Bool) → Each IsFilled (if b then Some told else Some kept)
      by true = h
      by false = k

  newest-filled : (leaf kept : Option Leaf) → Each IsFilled leaf → Each IsFilled kept → Each IsFilled (rows.newest_of leaf kept)
  newest-filled None kept h k = k
  newest-filled (Some told) kept h k = newer-filled told kept h k

  all-ends : (newest : Option Leaf) (m : Met) → InMap IsFilled d.map → Each IsFilled newest → Q d.map m → Ends Q (rows.told_all d c.request newest m)
  all-ends None m h k q = again-ends Q d m q
  all-ends (Some leaf) m h k q = again (put d.map leaf) c.request.retries c.request.pushed (in-put IsFilled d.map leaf k h)

  asking-ends : (waiting w : List NodeNo) (newest n : Option Leaf) (m : Met) → c.phase ≡ phase.Asking w n m → InMap IsFilled d.map → Each IsFilled newest
      → Ends Q (rows.told_on d c waiting newest m)
  unfolding Q
  asking-ends waiting w newest n m e h k =
      let q = kept-seen c from l d.known d.map w n m e in
      ends-if Q (is_none_left waiting) _ _ (λ f. all-ends newest m h k q)
      (λ f. open-ends Q d _ _ (λ v i u g. let is : m ≡ u = cc in subst (Q d.map) is q))

  told-ends : (leaf : Option Leaf) (p : Phase) → c.phase ≡ p → InMap IsFilled d.map → Each IsFilled (call_leaf p) → Each IsFilled leaf
      → Ends Q (rows.told_in d c from leaf p)
  told-ends leaf (phase.Asking waiting newest m) e h k j =
      asking-ends (without waiting from) waiting (rows.newest_of leaf newest) newest m e h (newest-filled leaf newest j k)
  told-ends leaf other e h k j = idle-ends

  lost-ends : (leaf : Leaf) (was : Option Bool) → Ends Q (rows.lost_or_applied d c leaf was)
  lost-ends leaf None = record { told = λ m e. cc; asks = λ x w n m e f. cc }
  lost-ends leaf (Some was) = record { told = λ m e. absurd (no-again c.request.op was m e); asks = λ x w n m e f. cc }

  without-ends : (p : Phase) → l ≡ letter.Notice → c.phase ≡ p → rows.call_concerns p from ≡ true → Members p → InMap IsFilled d.map
      → Each IsFilled (call_leaf p) → Ends Q (rows.goes_without d c from p)
  unfolding Q
  without-ends (phase.Getting leaf brick) n e w s h k = again d.map c.request.retries c.request.pushed h
  without-ends (phase.Preparing leaf list waiting) n e w s h k =
      let mine : has (attempt_list c.phase) from ≡ true = ap (λ p. has (attempt_list p) from) e ∙ member-of list waiting from s w in
      ends-if Q (list_all (λ i. has_node d.known i) list) _ _ (λ f. ask-ends Q d c.request (met.Stopped from) (in_list mine refl n))
      (λ f. prepared-ends leaf list (without waiting from))
  without-ends (phase.Committing leaf list waiting was) n e w s h k =
      ends-if Q (is_none_left (without waiting from)) _ _ (λ f. lost-ends leaf was) (λ f. open-ends Q d _ _ (λ v i m g. cc))
  without-ends (phase.Aborting waiting why brick) n e w s h k = aborting-ends (without waiting from) why brick h k
  without-ends (phase.Asking waiting newest m) n e w s h k = asking-ends (without waiting from) waiting newest newest m e h k

pub row-ends : (d : Desk) (c : OpenCall) (from : NodeNo) (l : Letter) → InMap IsFilled d.map → Each IsFilled (call_leaf c.phase) → Fills l → Members c.phase
    → Ends (λ map m. Seen c from l d.known map m) (call_row d c from l)
unfolding Q
row-ends d c from (letter.Got txn a) h k f s = got-ends d c from (letter.Got txn a) a c.phase h f
row-ends d c from (letter.Vote txn vote) h k f s = vote-ends d c from (letter.Vote txn vote) vote c.phase
row-ends d c from (letter.Applied txn was) h k f s = applied-ends d c from (letter.Applied txn was) was c.phase
row-ends d c from (letter.Aborted txn) h k f s = aborted-ends d c from (letter.Aborted txn) c.phase h k
row-ends d c from (letter.MapTell txn leaf) h k f s = told-ends d c from (letter.MapTell txn leaf) leaf c.phase refl h k f
row-ends d c from letter.Notice h k f s =
    ends-if _ (rows.call_concerns c.phase from) _ _ (λ e. without-ends d c from letter.Notice c.phase refl refl e s h k)
    (λ e. idle-ends d c from letter.Notice)
row-ends d c from other h k f s = idle-ends d c from other
