use Rattle.std.proofs.Common.{◌≡◌, ℕ, ◌+◌, ◌<◌, ◌≤◌, Bool, true, false, Option, Some, None, List, [], ◌∷◌}
use Rattle.std.proofs.Common.{refl, ap, subst, arith}
use Rattle.std.specs.List.{AllByRecursion}
use Rattle.std.specs.Prelude.{if◌then◌else◌, slice_index}
use Rattle.dds_base.specs.BrickList.{has}
use Rattle.dds_base.specs.NodeSet.{has_node}
use Rattle.dds_base.specs.Number.{Txn}
use Rattle.dds_base.specs.Op.{is_get, the_key}
use Rattle.dds_base.specs.declared.leaf.Leaf.{Leaf}
use Rattle.dds_base.specs.declared.node_set.NodeSet.{NodeSet}
use Rattle.dds_base.specs.declared.number.NodeNo.{NodeNo}
use Rattle.dds_base.specs.declared.op.Met.{Met}
use Rattle.dds_base.specs.declared.op.Met.TheVariants as met
use Rattle.dds_base.specs.declared.op.Op.{Op}
use Rattle.dds_base.specs.declared.op.Op.TheVariants as op
use Rattle.dds_base.specs.declared.op.Reply.{Reply}
use Rattle.dds_base.specs.declared.op.Reply.TheVariants as reply
use Rattle.dds_call_rows.specs.Library as rows
use Rattle.dds_call_rows.specs.Library.{CallTurn}
use Rattle.dds_core.proofs.Lists.{all-both, this-one}
use Rattle.dds_letters.specs.declared.letter.Letter.{Letter}
use Rattle.dds_letters.specs.declared.letter.Letter.TheVariants as letter
use Rattle.dds_letters.specs.declared.refusal.Denial.{Denial}
use Rattle.dds_letters.specs.declared.refusal.Denial.TheVariants as denial
use Rattle.dds_letters.specs.declared.refusal.Refusal.{Refusal}
use Rattle.dds_letters.specs.declared.refusal.Refusal.TheVariants as refusal
use Rattle.dds_net.specs.Net.{Sizes}
use Rattle.dds_states.specs.Turn.{numbers_from, to_each, unknown}
use Rattle.dds_states.specs.declared.library_state.Desk.{Desk}
use Rattle.dds_states.specs.declared.library_state.OpenCall.{OpenCall}
use Rattle.dds_states.specs.declared.library_state.Phase.{Phase}
use Rattle.dds_states.specs.declared.library_state.Phase.TheVariants as phase
use Rattle.dds_states.specs.declared.library_state.Request.{Request}
use Rattle.dds_books.proofs.Fine.{AllSaid, said-each}
use Rattle.dds_books.proofs.Numbers.{all-there, bricks-all, bricks-live, bricks-unknown, leaf-for-ok, live-unknown, put-ok}
use Rattle.dds_books.specs.Placed.{AreBricks, CallOk, DenialOk, IsBrick, IsFrom, LeafOk, LeavesOk}
use Rattle.dds_books.specs.Placed.{OfSome, PhaseOk, RefusalOk}
use Rattle.dds_books.proofs.Waiting.{asked-one}

-- A call's turn that is fine: its phase fits, and its letters go to bricks. An attempt begins; a call that was refused.

-- an attempt that this library has made
abbrev pub Own : ℕ → ℕ → Txn → Type 0
Own library next txn = (txn.library ≡ library) × (txn.number < next)

-- one call's turn, from a desk with these numbers
pub record CallFine (z : Sizes) (library next : ℕ) (known : NodeSet) (t : CallTurn) : Type 0 where
  pub leaves : LeavesOk z t.desk.map
  pub more : next ≤ t.desk.numbers.next
  pub letters : AllSaid (Own library t.desk.numbers.next) z library t.went.letters
  pub call : (x : OpenCall) → t.went.call ≡ Some x → CallOk z library t.desk.numbers.next known x

pub record DeskOk (z : Sizes) (d : Desk) : Type 0 where
  pub leaves : LeavesOk z d.map
  pub bricks : d.numbers.bricks ≡ z.bricks

abbrev pub FineAt : Sizes → Desk → CallTurn → Type 0
FineAt z d t = CallFine z d.numbers.library d.numbers.next d.known t

pub fine-if : {z : Sizes} {library next : ℕ} {known : NodeSet} (c : Bool) {t u : CallTurn} → CallFine z library next known t
    → CallFine z library next known u → CallFine z library next known (if c then t else u)
fine-if true f g = f
fine-if false f g = g

pub fine-when : {z : Sizes} {library next : ℕ} {known : NodeSet} (c : Bool) (t u : CallTurn) → (c ≡ true → CallFine z library next known t)
    → (c ≡ false → CallFine z library next known u) → CallFine z library next known (if c then t else u)
fine-when true t u f g = f refl
fine-when false t u f g = g refl

-- The call is answered, or goes on

pub answered : {z : Sizes} (d : Desk) (r : Reply) → LeavesOk z d.map → FineAt z d (rows.replies d r)
answered d r h = record { leaves = h; more = omega arith; letters = tt; call = λ x e. cc }

-- letters of its own attempt
pub own-from : {z : Sizes} (library next : ℕ) (n : ℕ) (txn : Txn) → Own library next txn → IsBrick z n → IsFrom (Own library next) z library n txn
own-from library next n txn h there = record { library = h.0; made = h; receiver = there }

pub goes-on : {z : Sizes} (d : Desk) (ls : List (NodeNo × Letter)) (c : OpenCall) → LeavesOk z d.map
    → AllSaid (Own d.numbers.library d.numbers.next) z d.numbers.library ls
    → CallOk z d.numbers.library d.numbers.next d.known c → FineAt z d (rows.stays d ls c)
goes-on {z = z} d ls c h k g =
    record {
      leaves = h;
      more = omega arith;
      letters = k;
      call = λ x e. this-one (CallOk z d.numbers.library d.numbers.next d.known) c x e g;
    }

-- the call with another phase
pub with-phase : {z : Sizes} {library next : ℕ} {known old : NodeSet} (c : OpenCall) (p : Phase) → CallOk z library next old c
    → PhaseOk z known c.request.op p → CallOk z library next known (record c { phase = p })
with-phase c p h k = record { library = h.library; below = h.below; its_phase = k }

-- An attempt begins

-- it takes the next number
new-call : {z : Sizes} (d : Desk) (ls : List (NodeNo × Letter)) (r : Request) (p : Phase) → LeavesOk z d.map
    → AllSaid (Own d.numbers.library (d.numbers.next + 1)) z d.numbers.library ls → PhaseOk z d.known r.op p
    → FineAt z d (rows.stays (rows.counted d) ls (record { request = r; txn = rows.next_txn d; phase = p }))
new-call {z = z} d ls r p h k g =
    let c : OpenCall = record { request = r; txn = rows.next_txn d; phase = p } in
    record {
      leaves = h;
      more = omega arith;
      letters = k;
      call = λ x e. this-one (CallOk z d.numbers.library (d.numbers.next + 1) d.known) c x e
          (record { library = refl; below = omega arith; its_phase = g });
    }

asks-fine : {z : Sizes} (d : Desk) (r : Request) (m : Met) (ns : List NodeNo) → DeskOk z d → rows.live_bricks d ≡ ns → FineAt z d (rows.asks d r m ns)
asks-fine d r m [] h e = record { leaves = h.leaves; more = omega arith; letters = tt; call = λ x f. cc }
asks-fine {z = z} d r m (n ∷ ns) h e =
    let bricks = bricks-live (numbers_from d.numbers.bricks 0) (has_node d.known) (bricks-all d.numbers.bricks h.bricks) in
    let these : AreBricks z (n ∷ ns) = subst (AreBricks z) e bricks in
    let unknowns : AllByRecursion (λ k. has_node d.known k ≡ false) (n ∷ ns) =
    subst (AllByRecursion (λ k. has_node d.known k ≡ false)) e (live-unknown (numbers_from d.numbers.bricks 0) (has_node d.known)) in
    let l = letter.MapAsk (rows.next_txn d) r.caller r.call (the_key r.op) in
    let library = d.numbers.library in
    let next = d.numbers.next + 1 in
    new-call d (to_each (n ∷ ns) l) (rows.retried r) (phase.Asking (n ∷ ns) None m) h.leaves
    (said-each (Own library next) z library (n ∷ ns) l (IsBrick z) these.bricks
    (λ k there. own-from library next k (rows.next_txn d) (refl, omega arith) there))
    (record { some = refl; bricks = these; unknown = unknowns }, tt)

pub ask-fine : {z : Sizes} (d : Desk) (r : Request) (m : Met) → DeskOk z d → FineAt z d (rows.ask d r m)
ask-fine d r m h = fine-if _ (answered d (reply.Again m) h.leaves) (asks-fine d r m (rows.live_bricks d) h refl)

get-fine : {z : Sizes} (d : Desk) (r : Request) (leaf : Leaf) (m : NodeNo) (ms : List NodeNo) (key : ℕ) → DeskOk z d → LeafOk z leaf
    → unknown leaf.list d.known ≡ m ∷ ms → is_get r.op ≡ true → FineAt z d (rows.get_begins d r leaf (rows.got_from (m ∷ ms) r) key)
get-fine {z = z} d r leaf m ms key h k e f =
    let bricks : AreBricks z (m ∷ ms) = subst (AreBricks z) e (bricks-unknown leaf.list d.known k) in
    let unknowns : AllByRecursion (λ n. has_node d.known n ≡ false) (m ∷ ms) =
    subst (AllByRecursion (λ n. has_node d.known n ≡ false)) e (live-unknown leaf.list (has_node d.known)) in
    let brick = rows.got_from (m ∷ ms) r in
    let inside = asked-one (IsBrick z) m ms r bricks.bricks in
    let library = d.numbers.library in
    let next = d.numbers.next + 1 in
    new-call d ((brick, letter.Get (rows.next_txn d) r.caller r.call key leaf.name leaf.stamp) ∷ []) r (phase.Getting leaf brick) h.leaves
    (own-from library next brick (rows.next_txn d) (refl, omega arith) inside, tt)
    (f, record { inside = inside; unknown = asked-one (λ n. has_node d.known n ≡ false) m ms r unknowns })

update-fine : {z : Sizes} (d : Desk) (r : Request) (leaf : Leaf) (m : NodeNo) (ms : List NodeNo) → DeskOk z d → LeafOk z leaf
    → unknown leaf.list d.known ≡ m ∷ ms → is_get r.op ≡ false → FineAt z d (rows.update_begins d r leaf (m ∷ ms))
update-fine {z = z} d r leaf m ms h k e f =
    let bricks : AreBricks z (m ∷ ms) = subst (AreBricks z) e (bricks-unknown leaf.list d.known k) in
    let unknowns : AllByRecursion (λ n. has_node d.known n ≡ false) (m ∷ ms) =
    subst (AllByRecursion (λ n. has_node d.known n ≡ false)) e (live-unknown leaf.list (has_node d.known)) in
    let l = letter.Prepare (rows.next_txn d) r.caller r.call (rows.below d) leaf.name leaf.stamp (m ∷ ms) r.op in
    let library = d.numbers.library in
    let next = d.numbers.next + 1 in
    new-call d (to_each (m ∷ ms) l) r (phase.Preparing leaf (m ∷ ms) (m ∷ ms)) h.leaves
    (said-each (Own library next) z library (m ∷ ms) l (λ n. IsBrick z n × (has (m ∷ ms) n ≡ true))
    (all-both (IsBrick z) (λ n. has (m ∷ ms) n ≡ true) (m ∷ ms) bricks.bricks (all-there (m ∷ ms)))
    (λ n there. (own-from library next n (rows.next_txn d) (refl, omega arith) there.0, bricks, there.1)))
    (f, record { list_ok = bricks; awaited = record { some = refl; bricks = bricks; unknown = unknowns }; members = all-there (m ∷ ms) })

attempt-fine : {z : Sizes} (d : Desk) (r : Request) (leaf : Leaf) (m : NodeNo) (ms : List NodeNo) (o : Op) → DeskOk z d → LeafOk z leaf
    → unknown leaf.list d.known ≡ m ∷ ms → r.op ≡ o → FineAt z d (rows.attempt_begins d r leaf (m ∷ ms) o)
attempt-fine d r leaf m ms (op.Get key) h k e f = get-fine d r leaf m ms key h k e (ap is_get f)
attempt-fine d r leaf m ms (op.Put key value) h k e f = update-fine d r leaf m ms h k e (ap is_get f)
attempt-fine d r leaf m ms (op.Remove key) h k e f = update-fine d r leaf m ms h k e (ap is_get f)
attempt-fine d r leaf m ms (op.Swap key expected value) h k e f = update-fine d r leaf m ms h k e (ap is_get f)

begins-with : {z : Sizes} (d : Desk) (r : Request) (leaf : Leaf) (ms : List NodeNo) → DeskOk z d → LeafOk z leaf → unknown leaf.list d.known ≡ ms
    → FineAt z d (rows.begins_with d r leaf ms)
begins-with d r leaf [] h k e = ask-fine d r (met.Stopped (slice_index leaf.list 0)) h
begins-with d r leaf (m ∷ ms) h k e = attempt-fine d r leaf m ms r.op h k e refl

begins-at : {z : Sizes} (d : Desk) (r : Request) (o : Option Leaf) → DeskOk z d → OfSome (LeafOk z) o → FineAt z d (rows.begins_at d r o)
begins-at d r None h k = record { leaves = h.leaves; more = omega arith; letters = tt; call = λ x f. cc }
begins-at d r (Some leaf) h k = begins-with d r leaf (unknown leaf.list d.known) h k refl

pub begin-fine : {z : Sizes} (d : Desk) (r : Request) → DeskOk z d → FineAt z d (rows.begin d r)
begin-fine {z = z} d r h = begins-at d r _ h (leaf-for-ok z d.map (the_key r.op) h.leaves)

-- A refusal, with its leaf

pub adopts-ok : {z : Sizes} (d : Desk) (leaf : Leaf) → DeskOk z d → LeafOk z leaf → DeskOk z (rows.adopts d leaf)
adopts-ok {z = z} d leaf h k = record { leaves = put-ok z d.map leaf h.leaves k; bricks = h.bricks }

pub begin-adopted : {z : Sizes} (d : Desk) (r : Request) (leaf : Leaf) → DeskOk z d → LeafOk z leaf → FineAt z d (rows.begin (rows.adopts d leaf) r)
begin-adopted d r leaf h k = begin-fine (rows.adopts d leaf) r (adopts-ok d leaf h k)

pushed : {z : Sizes} {library next : ℕ} {known : NodeSet} (to : NodeNo) (mine : Leaf) (t : CallTurn) → IsBrick z to → LeafOk z mine
    → CallFine z library next known t → CallFine z library next known (rows.behind ((to, letter.Push mine) ∷ []) t)
pushed to mine t there k h = record { leaves = h.leaves; more = h.more; letters = ((there, k), h.letters); call = h.call }

repairs-fine : {z : Sizes} (d : Desk) (r : Request) (from : NodeNo) (theirs : Leaf) (mine : Option Leaf) → DeskOk z d → IsBrick z from → LeafOk z theirs
    → OfSome (LeafOk z) mine → FineAt z d (rows.repairs d r from theirs mine)
repairs-fine d r from theirs None h there k g = begin-adopted d r theirs h k
repairs-fine d r from theirs (Some mine) h there k g =
    fine-if _ (pushed from mine _ there g (begin-fine d (record r { pushed = true }) h))
    (fine-if _ (begin-fine d r h) (begin-adopted d r theirs h k))

stale-fine : {z : Sizes} (d : Desk) (r : Request) (from : NodeNo) (o : Option Leaf) → DeskOk z d → IsBrick z from → OfSome (LeafOk z) o
    → FineAt z d (rows.stale d r from o)
stale-fine d r from None h there k = ask-fine d r (met.Stale from) h
stale-fine {z = z} d r from (Some theirs) h there k =
    fine-if _ (answered d (reply.Again (met.Stale from)) h.leaves)
    (repairs-fine d (rows.retried r) from theirs _ h there k (leaf-for-ok z d.map (the_key r.op) h.leaves))

pub refused-fine : {z : Sizes} (d : Desk) (r : Request) (from : NodeNo) (why : Refusal) → DeskOk z d → IsBrick z from → RefusalOk z why
    → FineAt z d (rows.refused d r from why)
refused-fine d r from refusal.Lease h there k = answered d _ h.leaves
refused-fine d r from refusal.Lock h there k = answered d _ h.leaves
refused-fine d r from (refusal.Stale leaf) h there k = stale-fine d r from leaf h there k

pub denied-fine : {z : Sizes} (d : Desk) (r : Request) (from : NodeNo) (why : Denial) → DeskOk z d → IsBrick z from → DenialOk z why
    → FineAt z d (rows.denied d r from why)
denied-fine d r from (denial.Refused why) h there k = refused-fine d r from why h there k
denied-fine d r from denial.Full h there k = answered d _ h.leaves
