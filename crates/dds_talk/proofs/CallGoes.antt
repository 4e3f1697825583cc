use Rattle.std.proofs.Common.{◌≡◌, ℕ, ◌≤◌, Bool, true, false, List, [], Option, Some, None, refl, sym, ap, ◌∙◌, subst}
use Rattle.std.specs.List.{list_all}
use Rattle.std.specs.Prelude.{if◌then◌else◌, not, ◌&&◌}
use Rattle.dds_base.specs.BrickList.{has}
use Rattle.dds_base.specs.NodeSet.{has_node}
use Rattle.dds_base.specs.Number.{Txn, same_txn}
use Rattle.dds_base.specs.declared.leaf.Leaf.{Leaf}
use Rattle.dds_base.specs.declared.number.NodeNo.{NodeNo}
use Rattle.dds_base.specs.declared.op.Met.{Met}
use Rattle.dds_base.specs.declared.op.Met.TheVariants as met
use Rattle.dds_base.specs.declared.op.Reply.TheVariants as reply
use Rattle.dds_call_rows.specs.Library as library
use Rattle.dds_call_rows.specs.Library.{CallTurn}
use Rattle.dds_core.specs.LibraryTurn.{call_row}
use Rattle.dds_groups.proofs.Members.{has-live}
use Rattle.dds_history.specs.Map.{reply_with}
use Rattle.dds_letters.specs.declared.letter.Letter.{Letter}
use Rattle.dds_letters.specs.declared.letter.Letter.TheVariants as letter
use Rattle.dds_letters.specs.declared.refusal.Answer.{Answer}
use Rattle.dds_letters.specs.declared.refusal.Answer.TheVariants as answer
use Rattle.dds_letters.specs.declared.refusal.Ballot.{Ballot}
use Rattle.dds_letters.specs.declared.refusal.Ballot.TheVariants as ballot
use Rattle.dds_letters.specs.declared.refusal.Denial.{Denial}
use Rattle.dds_states.specs.Turn.{is_none_left, to_each, unknown, without}
use Rattle.dds_states.specs.declared.library_state.Desk.{Desk}
use Rattle.dds_states.specs.declared.library_state.OpenCall.{OpenCall}
use Rattle.dds_states.specs.declared.library_state.Phase.{Phase}
use Rattle.dds_states.specs.declared.library_state.Phase.TheVariants.{Getting, Preparing, Committing, Aborting, Asking}
use Rattle.dds_states.specs.declared.library_state.TxnNumbers.{TxnNumbers}
use Rattle.dds_net.specs.Net.{Sizes, gains, is_in}
use Rattle.dds_talk.proofs.Begun.{Begun, answers, ask-begun, begin-begun, denied-begun, refused-begun, told-begun}
use Rattle.dds_talk.proofs.Letters.{about-each, about-none, group-live, none-each}
use Rattle.dds_talk.proofs.Parts.{same-self}
use Rattle.dds_talk.specs.Parts.{IsFor}
use Rattle.dds_talk.specs.Seen.{IsGroup, asked, asks, of, one}
use Rattle.dds_talk.specs.Table.{Ask}
use Rattle.dds_talk.specs.Table.Ask.{commit, abort}

-- A call's turn, as the attempts see it: the call goes on with its attempt, or is over, or goes on with another one.

pub data Goes (z : Sizes) (n : TxnNumbers) (c : OpenCall) (list : List ℕ) (r : CallTurn) : Type 0 where
  on : (x : OpenCall) → r.went.call ≡ Some x → x.txn ≡ c.txn → IsFor list x.phase → r.desk.numbers.next ≡ n.next
      → ((m : ℕ) → is_in z m ≡ true → has list m ≡ false → asks c.txn (gains z r.went.letters m) ≡ [])
      → ((t : Txn) (m : ℕ) → same_txn c.txn t ≡ false → asks t (gains z r.went.letters m) ≡ []) → Goes z n c list r
  over : Begun z n r → Goes z n c list r

goes-stays : (z : Sizes) (d : Desk) (c : OpenCall) (list : List NodeNo) (phase : Phase) → IsFor list phase
    → Goes z d.numbers c list (library.stays d [] (record c { phase = phase }))
goes-stays z d c list phase e =
    on (record c { phase = phase }) refl refl e refl (λ m i h. about-none asked c.txn z m [] tt) (λ t m h. about-none asked t z m [] tt)

has-none : (list : List ℕ) (d : Desk) (m : ℕ) → has list m ≡ false → has (unknown list d.known) m ≡ false
has-none list d m h = has-live list (has_node d.known) m ∙ ap (λ b. b && not (has_node d.known m)) h

goes-sends : (z : Sizes) → z.bricks ≤ 64 → (d : Desk) (c : OpenCall) (list : List NodeNo) (phase : Phase) (l : Letter) (x : Ask) → IsGroup z list
    → asked l ≡ Some (c.txn, x) → IsFor list phase → Goes z d.numbers c list (library.stays d (to_each (unknown list d.known) l) (record c { phase = phase }))
goes-sends z few d c list phase l x g e i =
    on (record c { phase = phase }) refl refl i refl
    (λ m inside h. about-each asked c.txn z l x (unknown list d.known) m few inside (group-live z list (has_node d.known) g)
    (ap (of c.txn) e ∙ ap (λ b. one b x) (same-self c.txn)) ∙ ap (λ b. one b x) (has-none list d m h))
    (λ t m h. about-none asked t z m (to_each (unknown list d.known) l) (none-each asked t l (unknown list d.known) (ap (of t) e ∙ ap (λ b. one b x) h)))

goes-if : (z : Sizes) (d : Desk) (c : OpenCall) (list : List NodeNo) (b : Bool) (r q : CallTurn) → Goes z d.numbers c list r → Goes z d.numbers c list q
    → Goes z d.numbers c list (if b then r else q)
goes-if z d c list true r q g h = g
goes-if z d c list false r q g h = h

goes-kept : (z : Sizes) (d : Desk) (c : OpenCall) (list : List NodeNo) (phase : Phase) → c.phase ≡ phase → IsFor list phase
    → Goes z d.numbers c list (library.stays d [] c)
goes-kept z d c list phase p i = goes-stays z d c list c.phase (subst (IsFor list) (sym p) i)

module _ (z : Sizes) (few : z.bricks ≤ 64) where
  goes-prepared : (d : Desk) (c : OpenCall) (leaf : Leaf) (list waiting : List NodeNo) → IsGroup z list
      → Goes z d.numbers c list (library.prepared_on d c leaf list waiting)
  goes-prepared d c leaf list waiting g =
      goes-if z d c list (is_none_left waiting) _ _
      (goes-sends z few d c list (Committing leaf list (unknown list d.known) None) (letter.Commit c.txn) commit g refl refl)
      (goes-stays z d c list (Preparing leaf list waiting) refl)

  goes-counted : (d : Desk) (c : OpenCall) (leaf : Leaf) (list waiting : List NodeNo) (f : ℕ) (v : Ballot) → IsGroup z list
      → Goes z d.numbers c list (library.vote_counted d c leaf list waiting f v)
  goes-counted d c leaf list waiting f ballot.Yes g = goes-prepared d c leaf list (without waiting f) g
  goes-counted d c leaf list waiting f (ballot.No why) g =
      goes-sends z few d c list (Aborting (unknown list d.known) why f) (letter.Abort c.txn) abort g refl tt

  goes-vote : (d : Desk) (c : OpenCall) (phase : Phase) (list : List NodeNo) (f : ℕ) (v : Ballot) → c.phase ≡ phase → IsFor list phase → IsGroup z list
      → Goes z d.numbers c list (library.vote_in d c f v phase)
  goes-vote d c (Preparing leaf members waiting) list f v p i g =
      subst (λ ns. Goes z d.numbers c ns (library.vote_in d c f v (Preparing leaf members waiting))) i
      (goes-if z d c members (has waiting f) _ _ (goes-counted d c leaf members waiting f v (subst (IsGroup z) (sym i) g))
      (goes-kept z d c members (Preparing leaf members waiting) p refl))
  goes-vote d c other list f v p i g = goes-kept z d c list other p i

  goes-applied : (d : Desk) (c : OpenCall) (phase : Phase) (list : List NodeNo) (f : ℕ) (was : Bool) → c.phase ≡ phase → IsFor list phase
      → Goes z d.numbers c list (library.applied_in d c f was phase)
  goes-applied d c (Committing leaf members waiting flag) list f was p i =
      goes-if z d c list (is_none_left (without waiting f)) _ _ (over (answers z d (reply_with c.request.op (library.first_flag flag was))))
      (goes-stays z d c list (Committing leaf members (without waiting f) (Some (library.first_flag flag was))) i)
  goes-applied d c other list f was p i = goes-kept z d c list other p i

  goes-aborting : (d : Desk) (c : OpenCall) (waiting : List NodeNo) (why : Denial) (brick : NodeNo) (list : List NodeNo)
      → Goes z d.numbers c list (library.aborted_on d c waiting why brick)
  goes-aborting d c waiting why brick list =
      goes-if z d c list (is_none_left waiting) _ _ (over (denied-begun z few d c.request brick why)) (goes-stays z d c list (Aborting waiting why brick) tt)

  goes-aborted : (d : Desk) (c : OpenCall) (phase : Phase) (list : List NodeNo) (f : ℕ) → c.phase ≡ phase → IsFor list phase
      → Goes z d.numbers c list (library.aborted_in d c f phase)
  goes-aborted d c (Aborting waiting why brick) list f p i = goes-aborting d c (without waiting f) why brick list
  goes-aborted d c other list f p i = goes-kept z d c list other p i

  pub got-begun : (d : Desk) (c : OpenCall) (f : NodeNo) (a : Answer) → Begun z d.numbers (library.got_with d c f a)
  got-begun d c f answer.Absent = answers z d reply.Absent
  got-begun d c f (answer.Value value) = answers z d (reply.Value value)
  got-begun d c f (answer.Refused why) = refused-begun z few d c.request f why

  goes-got : (d : Desk) (c : OpenCall) (phase : Phase) (list : List NodeNo) (f : NodeNo) (a : Answer) → c.phase ≡ phase → IsFor list phase
      → Goes z d.numbers c list (library.got_in d c f a phase)
  goes-got d c (Getting leaf brick) list f a p i = over (got-begun d c f a)
  goes-got d c other list f a p i = goes-kept z d c list other p i

  goes-asking : (d : Desk) (c : OpenCall) (waiting : List NodeNo) (newest : Option Leaf) (m : Met) (list : List NodeNo)
      → Goes z d.numbers c list (library.told_on d c waiting newest m)
  goes-asking d c waiting newest m list =
      goes-if z d c list (is_none_left waiting) _ _ (over (told-begun z few d c.request newest m)) (goes-stays z d c list (Asking waiting newest m) tt)

  goes-told : (d : Desk) (c : OpenCall) (phase : Phase) (list : List NodeNo) (f : NodeNo) (leaf : Option Leaf) → c.phase ≡ phase → IsFor list phase
      → Goes z d.numbers c list (library.told_in d c f leaf phase)
  goes-told d c (Asking waiting newest m) list f leaf p i = goes-asking d c (without waiting f) (library.newest_of leaf newest) m list
  goes-told d c other list f leaf p i = goes-kept z d c list other p i

  lost-begun : (d : Desk) (c : OpenCall) (leaf : Leaf) (was : Option Bool) → Begun z d.numbers (library.lost_or_applied d c leaf was)
  lost-begun d c leaf None = answers z d (reply.Lost leaf.name)
  lost-begun d c leaf (Some was) = answers z d (reply_with c.request.op was)

  goes-without : (d : Desk) (c : OpenCall) (phase : Phase) (list : List NodeNo) (y : NodeNo) → c.phase ≡ phase → IsFor list phase → IsGroup z list
      → Goes z d.numbers c list (library.goes_without d c y phase)
  goes-without d c (Getting leaf brick) list y p i g = over (begin-begun z few d c.request)
  goes-without d c (Preparing leaf members waiting) list y p i g =
      subst (λ ns. Goes z d.numbers c ns (library.prepared_without d c y leaf members (without waiting y))) i
      (goes-if z d c members (list_all (λ n. has_node d.known n) members) _ _ (over (ask-begun z d c.request (met.Stopped y)))
      (goes-prepared d c leaf members (without waiting y) (subst (IsGroup z) (sym i) g)))
  goes-without d c (Committing leaf members waiting was) list y p i g =
      goes-if z d c list (is_none_left (without waiting y)) _ _ (over (lost-begun d c leaf was)) (goes-stays z d c list (Committing leaf members
      (without waiting y) was) i)
  goes-without d c (Aborting waiting why brick) list y p i g = goes-aborting d c (without waiting y) why brick list
  goes-without d c (Asking waiting newest m) list y p i g = goes-asking d c (without waiting y) newest m list

  pub call-goes : (d : Desk) (c : OpenCall) (from : NodeNo) (l : Letter) (list : List NodeNo) → IsFor list c.phase → IsGroup z list
      → Goes z d.numbers c list (call_row d c from l)
  call-goes d c from (letter.Got txn a) list i g = goes-got d c c.phase list from a refl i
  call-goes d c from (letter.Vote txn vote) list i g = goes-vote d c c.phase list from vote refl i g
  call-goes d c from (letter.Applied txn was) list i g = goes-applied d c c.phase list from was refl i
  call-goes d c from (letter.Aborted txn) list i g = goes-aborted d c c.phase list from refl i
  call-goes d c from (letter.MapTell txn leaf) list i g = goes-told d c c.phase list from leaf refl i
  call-goes d c from letter.Notice list i g =
      goes-if z d c list (library.call_concerns c.phase from) _ _ (goes-without d c c.phase list from refl i g) (goes-kept z d c list c.phase refl i)
  call-goes d c from other list i g = goes-kept z d c list c.phase refl i
