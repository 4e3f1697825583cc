use Rattle.std.proofs.Common.{◌≡◌, ℕ, ◌&&◌, ◌==◌, Bool, true, false, not, Option, Some, None, List, [], ◌∷◌, refl, ap}
use Rattle.std.specs.List.{list_all}
use Rattle.std.specs.Prelude.{slice_index, if◌then◌else◌}
use Rattle.dds_base.specs.BrickList.{has}
use Rattle.dds_base.specs.NodeSet.{has_node}
use Rattle.dds_base.specs.Number.{Txn}
use Rattle.dds_base.specs.Op.{is_get, the_key}
use Rattle.dds_base.specs.declared.leaf.Leaf.{Leaf}
use Rattle.dds_base.specs.declared.number.NodeNo.{NodeNo}
use Rattle.dds_base.specs.declared.op.Met.{Met}
use Rattle.dds_base.specs.declared.op.Met.TheVariants as met
use Rattle.dds_base.specs.declared.op.Op.{Op}
use Rattle.dds_base.specs.declared.op.Op.TheVariants as op
use Rattle.dds_base.specs.declared.op.Reply.TheVariants as reply
use Rattle.dds_call_rows.specs.Library.{CallTurn, aborted_in, aborted_on, applied_in, ask, asks, attempt_begins, begin, begins_at, begins_with, behind}
use Rattle.dds_call_rows.specs.Library.{call_concerns, denied, first_flag, get_begins, goes_without, got_from, got_in, live_bricks, lost_or_applied}
use Rattle.dds_call_rows.specs.Library.{newest_of, prepared_on, refused, repairs, replies, retried, same_leaf, stale, stays, told_all, told_in, told_on}
use Rattle.dds_call_rows.specs.Library.{update_begins, vote_counted, vote_in}
use Rattle.dds_core.specs.LibraryTurn.{call_row}
use Rattle.dds_groups.specs.Leaves.{newer}
use Rattle.dds_history.specs.Map.{reply_with}
use Rattle.dds_letters.specs.declared.letter.Letter.{Letter}
use Rattle.dds_letters.specs.declared.letter.Letter.TheVariants as letter
use Rattle.dds_letters.specs.declared.refusal.Answer.{Answer}
use Rattle.dds_letters.specs.declared.refusal.Answer.TheVariants as answer
use Rattle.dds_letters.specs.declared.refusal.Ballot.{Ballot}
use Rattle.dds_letters.specs.declared.refusal.Ballot.TheVariants as ballot
use Rattle.dds_letters.specs.declared.refusal.Denial.{Denial}
use Rattle.dds_letters.specs.declared.refusal.Denial.TheVariants as denial
use Rattle.dds_letters.specs.declared.refusal.Refusal.{Refusal}
use Rattle.dds_letters.specs.declared.refusal.Refusal.TheVariants as refusal
use Rattle.dds_order_rows.specs.OwnOrder.{met_of}
use Rattle.dds_states.specs.Leaf.{leaf_for}
use Rattle.dds_states.specs.Turn.{is_none_left, to_each, unknown, without}
use Rattle.dds_states.specs.declared.library_state.Desk.{Desk}
use Rattle.dds_states.specs.declared.library_state.OpenCall.{OpenCall}
use Rattle.dds_states.specs.declared.library_state.Phase.{Phase}
use Rattle.dds_states.specs.declared.library_state.Phase.TheVariants as phase
use Rattle.dds_states.specs.declared.library_state.Request.{Request}
use Rattle.dds_states.specs.declared.library_state.TheConstants.{RETRIES}
use Rattle.dds_trie.specs.Trie.{LeafMap, put}

-- All that a letter can do to an open call, one constructor for each outcome, with what was found on the way.

-- an attempt begins, or the call asks for a newer map or is answered Again because of something met, of which M holds
pub data Begins (M : Met → Type 0) (d : Desk) (r : Request) : CallTurn → Type 0 where
  gets : (leaf : Leaf) (m : NodeNo) (ms : List NodeNo) (key : ℕ) → leaf_for d.map (the_key r.op) ≡ Some leaf → unknown leaf.list d.known ≡ m ∷ ms
      → r.op ≡ op.Get key → Begins M d r (get_begins d r leaf (got_from (m ∷ ms) r) key)
  prepares : (leaf : Leaf) (m : NodeNo) (ms : List NodeNo) → leaf_for d.map (the_key r.op) ≡ Some leaf → unknown leaf.list d.known ≡ m ∷ ms
      → is_get r.op ≡ false → Begins M d r (update_begins d r leaf (m ∷ ms))
  looks : (m : Met) (n : NodeNo) (ns : List NodeNo) → live_bricks d ≡ n ∷ ns → M m → Begins M d r (asks d r m (n ∷ ns))
  alone : (m : Met) → live_bricks d ≡ [] → M m → Begins M d r (asks d r m [])
  gives_up : (m : Met) → M m → Begins M d r (replies d (reply.Again m))
  no_leaf : leaf_for d.map (the_key r.op) ≡ None → Begins M d r (begins_at d r None)

-- a call that has no attempt yet can have met only that bricks have stopped
pub record IsStop (m : Met) : Type 0 where
  pub brick : NodeNo
  pub is : met.Stopped brick ≡ m

-- what an open call may have met at a letter: a refusal in it, or the one for which its attempt was aborted, or what it
-- kept while it asked for a newer map, or that a brick has stopped
pub data Meets (c : OpenCall) (from : NodeNo) (l : Letter) (m : Met) : Type 0 where
  in_letter : (txn : Txn) (why : Refusal) → l ≡ letter.Got txn (answer.Refused why) → met_of why from ≡ m → Meets c from l m
  in_vote : (waiting : List NodeNo) (why : Refusal) (brick : NodeNo) → c.phase ≡ phase.Aborting waiting (denial.Refused why) brick → met_of why brick ≡ m
      → Meets c from l m
  kept : (waiting : List NodeNo) (newest : Option Leaf) → c.phase ≡ phase.Asking waiting newest m → Meets c from l m
  a_stop : IsStop m → Meets c from l m

abbrev pub ArePushes : List (NodeNo × Letter) → Type 0
ArePushes [] = Unit {0}
ArePushes ((to, letter.Push leaf) ∷ ls) = ArePushes ls
ArePushes (other ∷ ls) = ⊥

abbrev pub Waited : List NodeNo → Type 0
Waited waiting = is_none_left waiting ≡ false

pub data CallDoes (d : Desk) (c : OpenCall) (from : NodeNo) (l : Letter) : CallTurn → Type 0 where
  idles : CallDoes d c from l (stays d [] c)
  reads : (leaf : Leaf) (brick : NodeNo) (txn : Txn) (value : List ℕ) → c.phase ≡ phase.Getting leaf brick → l ≡ letter.Got txn (answer.Value value)
      → CallDoes d c from l (replies d (reply.Value value))
  reads_none : (leaf : Leaf) (brick : NodeNo) (txn : Txn) → c.phase ≡ phase.Getting leaf brick → l ≡ letter.Got txn answer.Absent
      → CallDoes d c from l (replies d reply.Absent)
  full : (waiting : List NodeNo) (brick : NodeNo) → c.phase ≡ phase.Aborting waiting denial.Full brick → CallDoes d c from l (replies d (reply.Full brick))
  tries : (map : LeafMap) (retries : ℕ) (pushed : Bool) (ls : List (NodeNo × Letter)) (t : CallTurn) → ArePushes ls
      → Begins (Meets c from l) (record d { map = map }) (record c.request { retries = retries; pushed = pushed }) t → CallDoes d c from l (behind ls t)
  votes : (leaf : Leaf) (list waiting : List NodeNo) → c.phase ≡ phase.Preparing leaf list waiting → has waiting from ≡ true → Waited (without waiting from)
      → CallDoes d c from l (stays d [] (record c { phase = phase.Preparing leaf list (without waiting from) }))
  commits : (leaf : Leaf) (list waiting : List NodeNo) → c.phase ≡ phase.Preparing leaf list waiting → has waiting from ≡ true
      → is_none_left (without waiting from) ≡ true
      → CallDoes d c from l (stays d (to_each (unknown list d.known) (letter.Commit c.txn))
      (record c { phase = phase.Committing leaf list (unknown list d.known) None }))
  aborts : (leaf : Leaf) (list waiting : List NodeNo) (txn : Txn) (why : Denial) → c.phase ≡ phase.Preparing leaf list waiting → has waiting from ≡ true
      → l ≡ letter.Vote txn (ballot.No why) → CallDoes d c from l (stays d (to_each (unknown list d.known) (letter.Abort c.txn))
      (record c { phase = phase.Aborting (unknown list d.known) why from }))
  applies : (leaf : Leaf) (list waiting : List NodeNo) (was next : Option Bool) → c.phase ≡ phase.Committing leaf list waiting was
      → Waited (without waiting from) → CallDoes d c from l (stays d [] (record c { phase = phase.Committing leaf list (without waiting from) next }))
  done : (leaf : Leaf) (list waiting : List NodeNo) (was : Option Bool) (flag : Bool) → c.phase ≡ phase.Committing leaf list waiting was
      → is_none_left (without waiting from) ≡ true → CallDoes d c from l (replies d (reply_with c.request.op flag))
  loses : (leaf : Leaf) (list waiting : List NodeNo) → c.phase ≡ phase.Committing leaf list waiting None → l ≡ letter.Notice
      → is_none_left (without waiting from) ≡ true → CallDoes d c from l (replies d (reply.Lost leaf.name))
  waits_aborted : (waiting : List NodeNo) (why : Denial) (brick : NodeNo) → c.phase ≡ phase.Aborting waiting why brick → Waited (without waiting from)
      → CallDoes d c from l (stays d [] (record c { phase = phase.Aborting (without waiting from) why brick }))
  waits_told : (waiting : List NodeNo) (newest next : Option Leaf) (m : Met) → c.phase ≡ phase.Asking waiting newest m → Waited (without waiting from)
      → CallDoes d c from l (stays d [] (record c { phase = phase.Asking (without waiting from) next m }))

if-does : {d : Desk} {c : OpenCall} {from : NodeNo} {l : Letter} (b : Bool) (t u : CallTurn) → (b ≡ true → CallDoes d c from l t)
    → (b ≡ false → CallDoes d c from l u) → CallDoes d c from l (if b then t else u)
if-does true t u f g = f refl
if-does false t u f g = g refl

begins-looks : (M : Met → Type 0) (d : Desk) (r : Request) (m : Met) (ns : List NodeNo) → live_bricks d ≡ ns → M m → Begins M d r (asks d r m ns)
begins-looks M d r m [] e h = alone m e h
begins-looks M d r m (n ∷ ns) e h = looks m n ns e h

begins-if : (M : Met → Type 0) (d : Desk) (r : Request) (m : Met) (b : Bool) → M m
    → Begins M d r (if b then replies d (reply.Again m) else asks d r m (live_bricks d))
begins-if M d r m true h = gives_up m h
begins-if M d r m false h = begins-looks M d r m (live_bricks d) refl h

begins-op : (M : Met → Type 0) (d : Desk) (r : Request) (leaf : Leaf) (m : NodeNo) (ms : List NodeNo) (o : Op) → leaf_for d.map (the_key r.op) ≡ Some leaf
    → unknown leaf.list d.known ≡ m ∷ ms → r.op ≡ o → Begins M d r (attempt_begins d r leaf (m ∷ ms) o)
begins-op M d r leaf m ms (op.Get key) e f g = gets leaf m ms key e f g
begins-op M d r leaf m ms other e f g = prepares leaf m ms e f (ap is_get g)

-- where no member lives, a stop is what was met
abbrev OfStops : (Met → Type 0) → Type 0
OfStops M = (m : Met) → IsStop m → M m

begins-with : (M : Met → Type 0) (d : Desk) (r : Request) (leaf : Leaf) (ms : List NodeNo) → OfStops M → leaf_for d.map (the_key r.op) ≡ Some leaf
    → unknown leaf.list d.known ≡ ms → Begins M d r (begins_with d r leaf ms)
begins-with M d r leaf [] s e f =
    let m = met.Stopped (slice_index leaf.list 0) in
    begins-if M d r m (r.retries == RETRIES) (s m (record { brick = slice_index leaf.list 0; is = refl }))
begins-with M d r leaf (m ∷ ms) s e f = begins-op M d r leaf m ms r.op e f refl

begins-at : (M : Met → Type 0) (d : Desk) (r : Request) (o : Option Leaf) → OfStops M → leaf_for d.map (the_key r.op) ≡ o → Begins M d r (begins_at d r o)
begins-at M d r None s e = no_leaf e
begins-at M d r (Some leaf) s e = begins-with M d r leaf (unknown leaf.list d.known) s e refl

begins : (M : Met → Type 0) (d : Desk) (r : Request) → OfStops M → Begins M d r (begin d r)
begins M d r s = begins-at M d r (leaf_for d.map (the_key r.op)) s refl

-- a call that comes begins so
pub new-begins : (d : Desk) (r : Request) → Begins IsStop d r (begin d r)
new-begins d r = begins IsStop d r (λ m s. s)

-- tries again, with this map and request
again : {from : NodeNo} {l : Letter} (d : Desk) (c : OpenCall) (map : LeafMap) (retries : ℕ) (pushed : Bool)
    → CallDoes d c from l (begin (record d { map = map }) (record c.request { retries = retries; pushed = pushed }))
again {from = from} {l = l} d c map retries pushed =
    let e = record d { map = map } in
    let r = record c.request { retries = retries; pushed = pushed } in
    tries map retries pushed [] (begin e r) tt (begins (Meets c from l) e r (λ m s. a_stop s))

does-ask : {from : NodeNo} {l : Letter} (d : Desk) (c : OpenCall) (m : Met) → Meets c from l m → CallDoes d c from l (ask d c.request m)
does-ask {from = from} {l = l} d c m h =
    tries d.map c.request.retries c.request.pushed [] (ask d c.request m) tt (begins-if (Meets c from l) d c.request m (c.request.retries == RETRIES) h)

ends : {from : NodeNo} {l : Letter} (d : Desk) (c : OpenCall) (m : Met) → Meets c from l m → CallDoes d c from l (replies d (reply.Again m))
ends d c m h = tries d.map c.request.retries c.request.pushed [] (replies d (reply.Again m)) tt (gives_up m h)

does-repairs : {from : NodeNo} {l : Letter} (d : Desk) (c : OpenCall) (to : NodeNo) (theirs : Leaf) (mine : Option Leaf)
    → CallDoes d c from l (repairs d (retried c.request) to theirs mine)
does-repairs d c to theirs None = again d c (put d.map theirs) (retried c.request).retries c.request.pushed
does-repairs {from = from} {l = l} d c to theirs (Some mine) =
    let n = (retried c.request).retries in
    let r = record (retried c.request) { pushed = true } in
    if-does (newer mine theirs && not c.request.pushed) _ _
    (λ e. tries d.map n true ((to, letter.Push mine) ∷ []) (begin d r) tt (begins (Meets c from l) d r (λ m s. a_stop s)))
    (λ e. if-does (same_leaf mine theirs) _ _ (λ f. again d c d.map n c.request.pushed) (λ f. again d c (put d.map theirs) n c.request.pushed))

does-stale : {from : NodeNo} {l : Letter} (d : Desk) (c : OpenCall) (to : NodeNo) (leaf : Option Leaf) → Meets c from l (met.Stale to)
    → CallDoes d c from l (stale d c.request to leaf)
does-stale d c to None h = does-ask d c (met.Stale to) h
does-stale d c to (Some theirs) h =
    if-does (c.request.retries == RETRIES) _ _ (λ e. ends d c (met.Stale to) h) (λ e. does-repairs d c to theirs (leaf_for d.map (the_key c.request.op)))

does-refused : {from : NodeNo} {l : Letter} (d : Desk) (c : OpenCall) (to : NodeNo) (why : Refusal) → Meets c from l (met_of why to)
    → CallDoes d c from l (refused d c.request to why)
does-refused d c to refusal.Lease h = ends d c (met.Lease to) h
does-refused d c to refusal.Lock h = ends d c (met.Lock to) h
does-refused d c to (refusal.Stale leaf) h = does-stale d c to leaf h

does-denied : {from : NodeNo} {l : Letter} (d : Desk) (c : OpenCall) (waiting : List NodeNo) (to : NodeNo) (why : Denial)
    → c.phase ≡ phase.Aborting waiting why to → CallDoes d c from l (denied d c.request to why)
does-denied d c waiting to (denial.Refused why) e = does-refused d c to why (in_vote waiting why to e refl)
does-denied d c waiting to denial.Full e = full waiting to e

does-got : (d : Desk) (c : OpenCall) (from : NodeNo) (txn : Txn) (a : Answer) (p : Phase) → c.phase ≡ p
    → CallDoes d c from (letter.Got txn a) (got_in d c from a p)
does-got d c from txn answer.Absent (phase.Getting leaf brick) e = reads_none leaf brick txn e refl
does-got d c from txn (answer.Value value) (phase.Getting leaf brick) e = reads leaf brick txn value e refl
does-got d c from txn (answer.Refused why) (phase.Getting leaf brick) e = does-refused d c from why (in_letter txn why refl refl)
does-got d c from txn a other e = idles

does-votes : {l : Letter} (d : Desk) (c : OpenCall) (from : NodeNo) (leaf : Leaf) (list waiting : List NodeNo) → c.phase ≡ phase.Preparing leaf list waiting
    → has waiting from ≡ true → CallDoes d c from l (prepared_on d c leaf list (without waiting from))
does-votes d c from leaf list waiting e h =
    if-does (is_none_left (without waiting from)) _ _ (λ f. commits leaf list waiting e h f) (λ f. votes leaf list waiting e h f)

does-ballot : (d : Desk) (c : OpenCall) (from : NodeNo) (txn : Txn) (v : Ballot) (leaf : Leaf) (list waiting : List NodeNo)
    → c.phase ≡ phase.Preparing leaf list waiting → has waiting from ≡ true → CallDoes d c from (letter.Vote txn v) (vote_counted d c leaf list waiting from v)
does-ballot d c from txn ballot.Yes leaf list waiting e h = does-votes d c from leaf list waiting e h
does-ballot d c from txn (ballot.No why) leaf list waiting e h = aborts leaf list waiting txn why e h refl

does-vote : (d : Desk) (c : OpenCall) (from : NodeNo) (txn : Txn) (v : Ballot) (p : Phase) → c.phase ≡ p
    → CallDoes d c from (letter.Vote txn v) (vote_in d c from v p)
does-vote d c from txn v (phase.Preparing leaf list waiting) e =
    if-does (has waiting from) _ _ (λ h. does-ballot d c from txn v leaf list waiting e h) (λ h. idles)
does-vote d c from txn v other e = idles

does-applied : {l : Letter} (d : Desk) (c : OpenCall) (from : NodeNo) (flag : Bool) (p : Phase) → c.phase ≡ p → CallDoes d c from l (applied_in d c from flag p)
does-applied d c from flag (phase.Committing leaf list waiting was) e =
    let kept = first_flag was flag in
    if-does (is_none_left (without waiting from)) _ _ (λ f. done leaf list waiting was kept e f) (λ f. applies leaf list waiting was (Some kept) e f)
does-applied d c from flag other e = idles

does-aborting : {l : Letter} (d : Desk) (c : OpenCall) (from : NodeNo) (waiting : List NodeNo) (why : Denial) (brick : NodeNo)
    → c.phase ≡ phase.Aborting waiting why brick → CallDoes d c from l (aborted_on d c (without waiting from) why brick)
does-aborting d c from waiting why brick e =
    if-does (is_none_left (without waiting from)) _ _ (λ f. does-denied d c waiting brick why e) (λ f. waits_aborted waiting why brick e f)

does-aborted : {l : Letter} (d : Desk) (c : OpenCall) (from : NodeNo) (p : Phase) → c.phase ≡ p → CallDoes d c from l (aborted_in d c from p)
does-aborted d c from (phase.Aborting waiting why brick) e = does-aborting d c from waiting why brick e
does-aborted d c from other e = idles

does-all : {from : NodeNo} {l : Letter} (d : Desk) (c : OpenCall) (newest : Option Leaf) (m : Met) → Meets c from l m
    → CallDoes d c from l (told_all d c.request newest m)
does-all d c None m h = ends d c m h
does-all d c (Some leaf) m h = again d c (put d.map leaf) c.request.retries c.request.pushed

does-asking : {l : Letter} (d : Desk) (c : OpenCall) (from : NodeNo) (waiting : List NodeNo) (newest next : Option Leaf) (m : Met)
    → c.phase ≡ phase.Asking waiting newest m → CallDoes d c from l (told_on d c (without waiting from) next m)
does-asking d c from waiting newest next m e =
    if-does (is_none_left (without waiting from)) _ _ (λ f. does-all d c next m (kept waiting newest e)) (λ f. waits_told waiting newest next m e f)

does-told : {l : Letter} (d : Desk) (c : OpenCall) (from : NodeNo) (leaf : Option Leaf) (p : Phase) → c.phase ≡ p
    → CallDoes d c from l (told_in d c from leaf p)
does-told d c from leaf (phase.Asking waiting newest m) e = does-asking d c from waiting newest (newest_of leaf newest) m e
does-told d c from leaf other e = idles

does-lost : (d : Desk) (c : OpenCall) (from : NodeNo) (leaf : Leaf) (list waiting : List NodeNo) (was : Option Bool)
    → c.phase ≡ phase.Committing leaf list waiting was → is_none_left (without waiting from) ≡ true
    → CallDoes d c from letter.Notice (lost_or_applied d c leaf was)
does-lost d c from leaf list waiting None e f = loses leaf list waiting e refl f
does-lost d c from leaf list waiting (Some was) e f = done leaf list waiting (Some was) was e f

does-without : (d : Desk) (c : OpenCall) (from : NodeNo) (p : Phase) → c.phase ≡ p → call_concerns p from ≡ true
    → CallDoes d c from letter.Notice (goes_without d c from p)
does-without d c from (phase.Getting leaf brick) e h = again d c d.map c.request.retries c.request.pushed
does-without d c from (phase.Preparing leaf list waiting) e h =
    if-does (list_all (λ n. has_node d.known n) list) _ _
    (λ f. does-ask d c (met.Stopped from) (a_stop (record { brick = from; is = refl })))
    (λ f. does-votes d c from leaf list waiting e h)
does-without d c from (phase.Committing leaf list waiting was) e h =
    if-does (is_none_left (without waiting from)) _ _ (λ f. does-lost d c from leaf list waiting was e f) (λ f. applies leaf list waiting was was e f)
does-without d c from (phase.Aborting waiting why brick) e h = does-aborting d c from waiting why brick e
does-without d c from (phase.Asking waiting newest m) e h = does-asking d c from waiting newest newest m e

pub call-does : (d : Desk) (c : OpenCall) (from : NodeNo) (l : Letter) → CallDoes d c from l (call_row d c from l)
call-does d c from (letter.Got txn a) = does-got d c from txn a c.phase refl
call-does d c from (letter.Vote txn vote) = does-vote d c from txn vote c.phase refl
call-does d c from (letter.Applied txn was) = does-applied d c from was c.phase refl
call-does d c from (letter.Aborted txn) = does-aborted d c from c.phase refl
call-does d c from (letter.MapTell txn leaf) = does-told d c from leaf c.phase refl
call-does d c from letter.Notice = if-does (call_concerns c.phase from) _ _ (λ h. does-without d c from c.phase refl h) (λ h. idles)
call-does d c from other = idles
