use Rattle.std.proofs.Common.{◌≡◌, ℕ, Bool, true, false, not, Option, Some, None, List, [], ◌∷◌, refl, subst}
use Rattle.std.specs.FinMap.{get}
use Rattle.std.specs.List.{AllByRecursion}
use Rattle.std.specs.Prelude.{if◌then◌else◌, find, is_some}
use Rattle.dds_base.specs.Name.{Name}
use Rattle.dds_base.specs.Number.{Txn, StampOf}
use Rattle.dds_base.specs.Op.{the_key}
use Rattle.dds_core.proofs.CallTurns.{same-is}
use Rattle.dds_base.specs.declared.leaf.Leaf.{Leaf}
use Rattle.dds_base.specs.declared.op.Op.{Op}
use Rattle.dds_base.specs.declared.pending.Pending.{Pending}
use Rattle.dds_brick_rows.specs.Calls as calls
use Rattle.dds_brick_rows.specs.Refusal.{as_denial, get_refusal, is_found, is_locked, joins_key, joins_over, lease_refusal, stale_against}
use Rattle.dds_brick_rows.specs.Refusal.{update_denial, update_refusal}
use Rattle.dds_brick_rows.specs.Take as takes
use Rattle.dds_groups.specs.Leaves.{sibling}
use Rattle.dds_letters.specs.declared.refusal.Denial.TheVariants as denial
use Rattle.dds_letters.specs.declared.refusal.Refusal.{Refusal}
use Rattle.dds_letters.specs.declared.refusal.Refusal.TheVariants as refusal
use Rattle.dds_locks.specs.First.{without_first}
use Rattle.dds_locks.specs.Leases.{lease_covers, leased}
use Rattle.dds_locks.specs.Pending as pending
use Rattle.dds_net.specs.Net.{Sizes}
use Rattle.dds_states.specs.Leaf.{leaf_for}
use Rattle.dds_states.specs.Turn.{first_some, when}
use Rattle.dds_states.specs.declared.brick_state.BrickState.{BrickState}
use Rattle.dds_trie.specs.Trie.{LeafMap}
use Rattle.dds_books.proofs.Numbers.{first-ok, leaf-for-ok, put-ok, remove-ok, when-ok}
use Rattle.dds_books.specs.Placed.{AnswerOk, DenialOk, LeafOk, LeavesOk, OfSome}
use Rattle.dds_books.specs.Placed.{RefusalOk}

-- Leaves in refusals and in maps are groups of bricks; pending transactions, one of a number and the others.

-- Leaves in refusals

stale-if : (z : Sizes) (c : Bool) (leaf : Leaf) → LeafOk z leaf → OfSome (RefusalOk z) (if c then None else Some (refusal.Stale (Some leaf)))
stale-if z true leaf h = tt
stale-if z false leaf h = h

stale-ok : (z : Sizes) (o : Option Leaf) (name : Name) (stamp : StampOf) → OfSome (LeafOk z) o → OfSome (RefusalOk z) (stale_against o name stamp)
stale-ok z None name stamp h = tt
stale-ok z (Some leaf) name stamp h = stale-if z _ leaf h

pub get-refusal-ok : (z : Sizes) (s : BrickState) (key : ℕ) (name : Name) (stamp : StampOf) → LeavesOk z s.leaves
    → OfSome (RefusalOk z) (get_refusal s key name stamp)
get-refusal-ok z s key name stamp h =
    first-ok (RefusalOk z) _ _ (when-ok (RefusalOk z) _ refusal.Lease tt)
    (first-ok (RefusalOk z) _ _ (stale-ok z (leaf_for s.leaves key) name stamp (leaf-for-ok z s.leaves key h)) (when-ok (RefusalOk z) _ refusal.Lock tt))

update-refusal-ok : (z : Sizes) (s : BrickState) (key : ℕ) (name : Name) (stamp : StampOf) → LeavesOk z s.leaves
    → OfSome (RefusalOk z) (update_refusal s key name stamp)
update-refusal-ok z s key name stamp h =
    let a : Option Refusal = when (joins_key s.order key) refusal.Lease in
    let b : Option Refusal = stale_against (leaf_for s.leaves key) name stamp in
    let c : Option Refusal = when (lease_covers s.locks.leases key) refusal.Lease in
    let d : Option Refusal = when (is_locked s key) refusal.Lock in
    first-ok (RefusalOk z) a (first_some b (first_some c d)) (when-ok (RefusalOk z) (joins_key s.order key) refusal.Lease tt)
    (first-ok (RefusalOk z) b (first_some c d) (stale-ok z (leaf_for s.leaves key) name stamp (leaf-for-ok z s.leaves key h))
    (first-ok (RefusalOk z) c d (when-ok (RefusalOk z) (lease_covers s.locks.leases key) refusal.Lease tt)
    (when-ok (RefusalOk z) (is_locked s key) refusal.Lock tt)))

as-denial-ok : (z : Sizes) (o : Option Refusal) → OfSome (RefusalOk z) o → OfSome (DenialOk z) (as_denial o)
as-denial-ok z None h = tt
as-denial-ok z (Some r) h = h

pub update-denial-ok : (z : Sizes) (s : BrickState) (o : Op) (name : Name) (stamp : StampOf) → LeavesOk z s.leaves
    → OfSome (DenialOk z) (update_denial s o name stamp)
update-denial-ok z s o name stamp h =
    first-ok (DenialOk z) _ _ (as-denial-ok z _ (update-refusal-ok z s (the_key o) name stamp h)) (when-ok (DenialOk z) _ denial.Full tt)

-- a lease is refused
pub lease-refusal-ok : (z : Sizes) (s : BrickState) (name : Name) (stamp : Option StampOf) → LeavesOk z s.leaves
    → OfSome (RefusalOk z) (lease_refusal s name stamp)
lease-refusal-ok z s name stamp h =
    let found = is_found stamp (get s.leaves name) in
    let a : Option Refusal = when (joins_over s.order name) refusal.Lease in
    let b : Option Refusal = when (not found) (refusal.Stale (leaf_for s.leaves name.bits)) in
    let c : Option Refusal = when (is_some (leased s.locks.leases name)) refusal.Lease in
    let d : Option Refusal = when (pending.any_under s.locks.pending name) refusal.Lock in
    first-ok (RefusalOk z) a (first_some b (first_some c d)) (when-ok (RefusalOk z) (joins_over s.order name) refusal.Lease tt)
    (first-ok (RefusalOk z) b (first_some c d)
    (when-ok (RefusalOk z) (not found) (refusal.Stale (leaf_for s.leaves name.bits)) (leaf-for-ok z s.leaves name.bits h))
    (first-ok (RefusalOk z) c d (when-ok (RefusalOk z) (is_some (leased s.locks.leases name)) refusal.Lease tt)
    (when-ok (RefusalOk z) (pending.any_under s.locks.pending name) refusal.Lock tt)))

pub found-ok : (z : Sizes) (value : Option (List ℕ)) → AnswerOk z (calls.answer_of value)
found-ok z None = tt
found-ok z (Some value) = tt

-- Leaves that take the place of one

half-ok : (z : Sizes) (c : Bool) (a b : Leaf) → LeafOk z a → LeafOk z b → LeafOk z (if c then a else b)
half-ok z true a b h k = h
half-ok z false a b h k = k

leaves-if : (z : Sizes) (c : Bool) (m n : LeafMap) → LeavesOk z m → LeavesOk z n → LeavesOk z (if c then m else n)
leaves-if z true m n h k = h
leaves-if z false m n h k = k

pub replaced-ok : (z : Sizes) (m : LeafMap) (own leaf : Leaf) → LeavesOk z m → LeafOk z leaf → LeavesOk z (takes.replaced m own leaf)
replaced-ok z m own leaf h k =
    leaves-if z _ _ _ (put-ok z m leaf h k)
    (put-ok z _ (takes.high_of leaf) (put-ok z _ (takes.low_of leaf) (remove-ok z m own.name h) (half-ok z (takes.is_low leaf.name) leaf (sibling leaf) k k))
    (half-ok z (takes.is_low leaf.name) (sibling leaf) leaf k k))

-- Pending transactions: one of a number, and the others

first-if : {X : Type 0} (P : X → Type 0) (c : Bool) (x : X) (xs ys : List X) → P x → AllByRecursion P xs → AllByRecursion P ys
    → AllByRecursion P (if c then xs else x ∷ ys)
first-if P true x xs ys h k g = k
first-if P false x xs ys h k g = (h, g)

pub all-without-first : {X : Type 0} (P : X → Type 0) (test : X → Bool) (xs : List X) → AllByRecursion P xs → AllByRecursion P (without_first test xs)
all-without-first P test [] h = tt
all-without-first P test (x ∷ xs) h = first-if P (test x) x xs (without_first test xs) h.0 h.1 (all-without-first P test xs h.1)

find-if : {X : Type 0} (P : X → Type 0) (c : Bool) (x : X) (o : Option X) → P x → OfSome P o → OfSome P (if c then Some x else o)
find-if P true x o h k = h
find-if P false x o h k = k

pub find-ok : {X : Type 0} (P : X → Type 0) (test : X → Bool) (xs : List X) → AllByRecursion P xs → OfSome P (find test xs)
find-ok P test [] h = tt
find-ok P test (x ∷ xs) h = find-if P (test x) x (find test xs) h.0 (find-ok P test xs h.1)

test-if : {X : Type 0} (test : X → Bool) (c : Bool) (y x : X) (o : Option X) → test y ≡ c → (if c then Some y else o) ≡ Some x
    → (o ≡ Some x → test x ≡ true) → test x ≡ true
test-if test true y x o f g k = let is : y ≡ x = cc in subst (λ i. test i ≡ true) is f
test-if test false y x o f g k = k g

find-test : {X : Type 0} (test : X → Bool) (xs : List X) (x : X) → find test xs ≡ Some x → test x ≡ true
find-test test [] x e = cc
find-test test (y ∷ ys) x e = test-if test (test y) y x (find test ys) refl e (λ g. find-test test ys x g)

pub has-txn : (ps : List Pending) (txn : Txn) (p : Pending) → pending.first_of ps txn ≡ Some p → p.txn ≡ txn
has-txn ps txn p e = same-is p.txn txn (find-test (pending.is_numbered txn) ps p e)
