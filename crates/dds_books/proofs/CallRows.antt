use Rattle.std.proofs.Common.{◌≡◌, ℕ, ◌==◌, Bool, true, false, not, Option, Some, None, List, []}
use Rattle.std.proofs.Common.{refl}
use Rattle.std.specs.List.{AllByRecursion}
use Rattle.std.specs.Prelude.{if◌then◌else◌}
use Rattle.dds_base.specs.BrickList.{has}
use Rattle.dds_base.specs.NodeSet.{has_node}
use Rattle.dds_base.specs.Number.{Txn}
use Rattle.dds_base.specs.Op.{is_get}
use Rattle.dds_base.specs.declared.leaf.Leaf.{Leaf}
use Rattle.dds_base.specs.declared.node_set.NodeSet.{NodeSet}
use Rattle.dds_base.specs.declared.number.NodeNo.{NodeNo}
use Rattle.dds_base.specs.declared.op.Met.{Met}
use Rattle.dds_call_rows.specs.Library as rows
use Rattle.dds_core.proofs.Lists.{all-filter}
use Rattle.dds_groups.specs.Leaves.{newer}
use Rattle.dds_letters.specs.declared.letter.Letter.{Letter}
use Rattle.dds_letters.specs.declared.letter.Letter.TheVariants as letter
use Rattle.dds_letters.specs.declared.refusal.Answer.{Answer}
use Rattle.dds_letters.specs.declared.refusal.Answer.TheVariants as answer
use Rattle.dds_letters.specs.declared.refusal.Ballot.{Ballot}
use Rattle.dds_letters.specs.declared.refusal.Ballot.TheVariants as ballot
use Rattle.dds_letters.specs.declared.refusal.Denial.{Denial}
use Rattle.dds_net.specs.Net.{Sizes}
use Rattle.dds_states.specs.Turn.{is_none_left, to_each, unknown, without}
use Rattle.dds_states.specs.declared.library_state.Desk.{Desk}
use Rattle.dds_states.specs.declared.library_state.OpenCall.{OpenCall}
use Rattle.dds_states.specs.declared.library_state.Phase.{Phase}
use Rattle.dds_states.specs.declared.library_state.Phase.TheVariants as phase
use Rattle.dds_states.specs.declared.library_state.Request.{Request}
use Rattle.dds_books.proofs.Fine.{said-each}
use Rattle.dds_books.proofs.Numbers.{all-has, bricks-unknown}
use Rattle.dds_books.specs.Placed.{AnswerOk, AreBricks, AreMembers, BallotOk, CallOk, DenialOk, IsBrick, LeafOk}
use Rattle.dds_books.specs.Placed.{LetterOk, OfSome, PhaseOk}
use Rattle.dds_core.specs.LibraryTurn.{call_row}
use Rattle.dds_books.proofs.Waiting.{AreLeft, awaited, each-lives, left-without, some-live}
use Rattle.dds_books.proofs.Waiting.{unknown-awaited, unknown-members}
use Rattle.dds_books.proofs.CallBegins.{DeskOk, FineAt, Own, answered, begin-adopted, denied-fine, fine-when}
use Rattle.dds_books.proofs.CallBegins.{goes-on, own-from, refused-fine, with-phase}

-- What a letter that isn't a notice does to a call is fine.

-- Votes

pub commits-fine : {z : Sizes} {old : NodeSet} (d : Desk) (c : OpenCall) (leaf : Leaf) (list : List NodeNo) → DeskOk z d
    → CallOk z d.numbers.library d.numbers.next old c → is_get c.request.op ≡ false → AreBricks z list → is_none_left (unknown list d.known) ≡ false
    → FineAt z d (rows.commits d c leaf list)
commits-fine {z = z} d c leaf list h k e bricks some =
    let library = d.numbers.library in
    let next = d.numbers.next in
    goes-on d (to_each (unknown list d.known) (letter.Commit c.txn)) _ h.leaves
    (said-each (Own library next) z library (unknown list d.known) (letter.Commit c.txn) (IsBrick z)
    (bricks-unknown list d.known bricks).bricks (λ n there. own-from library next n c.txn (k.library, k.below) there))
    (with-phase c (phase.Committing leaf list (unknown list d.known) None) k
    (e, unknown-members list d.known bricks some, each-lives list (has_node d.known)))

pub aborts-fine : {z : Sizes} {old : NodeSet} (d : Desk) (c : OpenCall) (list : List NodeNo) (from : NodeNo) (why : Denial) → DeskOk z d
    → CallOk z d.numbers.library d.numbers.next old c → is_get c.request.op ≡ false → AreBricks z list → is_none_left (unknown list d.known) ≡ false
    → DenialOk z why → IsBrick z from → FineAt z d (rows.aborts d c list from why)
aborts-fine {z = z} d c list from why h k e bricks some g there =
    let library = d.numbers.library in
    let next = d.numbers.next in
    goes-on d (to_each (unknown list d.known) (letter.Abort c.txn)) _ h.leaves
    (said-each (Own library next) z library (unknown list d.known) (letter.Abort c.txn) (IsBrick z)
    (bricks-unknown list d.known bricks).bricks (λ n there. own-from library next n c.txn (k.library, k.below) there))
    (with-phase c (phase.Aborting (unknown list d.known) why from) k (e, unknown-awaited list d.known bricks some, g, there))

pub prepared-fine : {z : Sizes} {old : NodeSet} (d : Desk) (c : OpenCall) (leaf : Leaf) (list ws : List NodeNo) → DeskOk z d
    → CallOk z d.numbers.library d.numbers.next old c → is_get c.request.op ≡ false → AreBricks z list → AreLeft z d.known ws
    → AllByRecursion (λ n. has list n ≡ true) ws → is_none_left (unknown list d.known) ≡ false → FineAt z d (rows.prepared_on d c leaf list ws)
prepared-fine d c leaf list ws h k e bricks left members some =
    fine-when _ _ _ (λ f. commits-fine d c leaf list h k e bricks some) (λ f. goes-on d [] _ h.leaves tt
    (with-phase c (phase.Preparing leaf list ws) k (e, record { list_ok = bricks; awaited = awaited ws left f; members = members })))

-- Applied, Aborted, MapTell

pub aborted-fine : {z : Sizes} {old : NodeSet} (d : Desk) (c : OpenCall) (ws : List NodeNo) (why : Denial) (brick : NodeNo) → DeskOk z d
    → CallOk z d.numbers.library d.numbers.next old c → is_get c.request.op ≡ false → AreLeft z d.known ws → DenialOk z why → IsBrick z brick
    → FineAt z d (rows.aborted_on d c ws why brick)
aborted-fine d c ws why brick h k e left g there =
    fine-when _ _ _ (λ f. denied-fine d c.request brick why h there g) (λ f. goes-on d [] _ h.leaves tt
    (with-phase c (phase.Aborting ws why brick) k (e, awaited ws left f, g, there)))

told-all-fine : {z : Sizes} (d : Desk) (r : Request) (newest : Option Leaf) (m : Met) → DeskOk z d → OfSome (LeafOk z) newest
    → FineAt z d (rows.told_all d r newest m)
told-all-fine d r None m h k = answered d _ h.leaves
told-all-fine d r (Some leaf) m h k = begin-adopted d r leaf h k

pub told-fine : {z : Sizes} {old : NodeSet} (d : Desk) (c : OpenCall) (ws : List NodeNo) (newest : Option Leaf) (m : Met) → DeskOk z d
    → CallOk z d.numbers.library d.numbers.next old c → AreLeft z d.known ws → OfSome (LeafOk z) newest → FineAt z d (rows.told_on d c ws newest m)
told-fine d c ws newest m h k left g =
    fine-when _ _ _ (λ f. told-all-fine d c.request newest m h g) (λ f. goes-on d [] _ h.leaves tt
    (with-phase c (phase.Asking ws newest m) k (awaited ws left f, g)))

newer-if : (z : Sizes) (c : Bool) (a b : Leaf) → LeafOk z a → LeafOk z b → OfSome (LeafOk z) (if c then Some a else Some b)
newer-if z true a b h k = h
newer-if z false a b h k = k

newest-ok : (z : Sizes) (a b : Option Leaf) → OfSome (LeafOk z) a → OfSome (LeafOk z) b → OfSome (LeafOk z) (rows.newest_of a b)
newest-ok z None b h k = k
newest-ok z (Some told) None h k = h
newest-ok z (Some told) (Some kept) h k = newer-if z (newer told kept) told kept h k

-- A letter at the call, where the library knows the same nodes

pub idle : {z : Sizes} (d : Desk) (c : OpenCall) → DeskOk z d → CallOk z d.numbers.library d.numbers.next d.known c → FineAt z d (rows.stays d [] c)
idle d c h k = goes-on d [] c h.leaves tt k

got-fine : {z : Sizes} (d : Desk) (c : OpenCall) (from : NodeNo) (a : Answer) (p : Phase) → DeskOk z d
    → CallOk z d.numbers.library d.numbers.next d.known c → IsBrick z from → AnswerOk z a → FineAt z d (rows.got_in d c from a p)
got-fine d c from answer.Absent (phase.Getting leaf brick) h k there g = answered d _ h.leaves
got-fine d c from (answer.Value value) (phase.Getting leaf brick) h k there g = answered d _ h.leaves
got-fine d c from (answer.Refused why) (phase.Getting leaf brick) h k there g = refused-fine d c.request from why h there g
got-fine d c from a other h k there g = idle d c h k

counted-fine : {z : Sizes} (d : Desk) (c : OpenCall) (leaf : Leaf) (list waiting : List NodeNo) (from : NodeNo) (vote : Ballot) → DeskOk z d
    → CallOk z d.numbers.library d.numbers.next d.known c → is_get c.request.op ≡ false → AreMembers z d.known list waiting → has waiting from ≡ true
    → BallotOk z vote → FineAt z d (rows.vote_counted d c leaf list waiting from vote)
counted-fine {z = z} d c leaf list waiting from vote h k e m mine g =
    let some = some-live list (has_node d.known) from (all-has _ waiting from m.members mine) (all-has _ waiting from m.awaited.unknown mine) in
    by-vote vote some g
  where
    by-vote : (v : Ballot) → is_none_left (unknown list d.known) ≡ false → BallotOk z v → FineAt z d (rows.vote_counted d c leaf list waiting from v)
    by-vote ballot.Yes some g =
        prepared-fine d c leaf list (without waiting from) h k e m.list_ok (left-without waiting from m.awaited)
        (all-filter _ (λ n. not (n == from)) waiting m.members) some
    by-vote (ballot.No why) some g =
        aborts-fine d c list from why h k e m.list_ok some g (all-has (IsBrick z) waiting from m.awaited.bricks.bricks mine)

vote-fine : {z : Sizes} (d : Desk) (c : OpenCall) (from : NodeNo) (vote : Ballot) (p : Phase) → DeskOk z d
    → CallOk z d.numbers.library d.numbers.next d.known c → PhaseOk z d.known c.request.op p → BallotOk z vote → FineAt z d (rows.vote_in d c from vote p)
vote-fine d c from vote (phase.Preparing leaf list waiting) h k m g =
    fine-when _ _ _ (λ e. counted-fine d c leaf list waiting from vote h k m.0 m.1 e g) (λ e. idle d c h k)
vote-fine d c from vote other h k m g = idle d c h k

applied-fine : {z : Sizes} (d : Desk) (c : OpenCall) (from : NodeNo) (flag : Bool) (p : Phase) → DeskOk z d
    → CallOk z d.numbers.library d.numbers.next d.known c → PhaseOk z d.known c.request.op p → FineAt z d (rows.applied_in d c from flag p)
applied-fine d c from flag (phase.Committing leaf list waiting was) h k m =
    let ws = without waiting from in
    fine-when _ _ _ (λ e. answered d _ h.leaves) (λ e. goes-on d [] _ h.leaves tt
    (with-phase c (phase.Committing leaf list ws (Some (rows.first_flag was flag))) k (
      m.0,
      record {
        list_ok = m.1.list_ok;
        awaited = awaited ws (left-without waiting from m.1.awaited) e;
        members = all-filter _ (λ n. not (n == from)) waiting m.1.members;
      },
      tt,
    )))
applied-fine d c from flag other h k m = idle d c h k

aborted-in-fine : {z : Sizes} (d : Desk) (c : OpenCall) (from : NodeNo) (p : Phase) → DeskOk z d
    → CallOk z d.numbers.library d.numbers.next d.known c → PhaseOk z d.known c.request.op p → FineAt z d (rows.aborted_in d c from p)
aborted-in-fine d c from (phase.Aborting waiting why brick) h k m =
    aborted-fine d c (without waiting from) why brick h k m.0 (left-without waiting from m.1) m.2 m.3
aborted-in-fine d c from other h k m = idle d c h k

told-in-fine : {z : Sizes} (d : Desk) (c : OpenCall) (from : NodeNo) (leaf : Option Leaf) (p : Phase) → DeskOk z d
    → CallOk z d.numbers.library d.numbers.next d.known c → PhaseOk z d.known c.request.op p → OfSome (LeafOk z) leaf
    → FineAt z d (rows.told_in d c from leaf p)
told-in-fine {z = z} d c from leaf (phase.Asking waiting newest why) h k m g =
    told-fine d c (without waiting from) _ why h k (left-without waiting from m.0) (newest-ok z leaf newest g m.1)
told-in-fine d c from leaf other h k m g = idle d c h k

-- a letter that isn't a notice
pub call-fine : (T : Txn → Type 0) {z : Sizes} (from at : ℕ) (d : Desk) (c : OpenCall) (l : Letter) → (l ≡ letter.Notice → ⊥) → LetterOk T z from at l
    → DeskOk z d → CallOk z d.numbers.library d.numbers.next d.known c → FineAt z d (call_row d c from l)
call-fine T from at d c (letter.Got txn a) ne k h g = got-fine d c from a c.phase h g k.0.sender k.1
call-fine T from at d c (letter.Vote txn vote) ne k h g = vote-fine d c from vote c.phase h g g.its_phase k.1
call-fine T from at d c (letter.Applied txn was) ne k h g = applied-fine d c from was c.phase h g g.its_phase
call-fine T from at d c (letter.Aborted txn) ne k h g = aborted-in-fine d c from c.phase h g g.its_phase
call-fine T from at d c (letter.MapTell txn leaf) ne k h g = told-in-fine d c from leaf c.phase h g g.its_phase k.1
call-fine T from at d c letter.Notice ne k h g = absurd (ne refl)
call-fine T from at d c other ne k h g = idle d c h g
