-- What a leaf has from its predecessor, and that the leaves made for a join and a split are its successors.
use Rattle.std.proofs.Common.{◌≡◌, ℕ, ◌+◌, ◌-◌, ◌^◌, ◌<◌, ◌==◌, ◌&&◌, Bool, true, false, cond, ltb, length, take, get_or, List, [], ◌∷◌}
use Rattle.std.proofs.Common.{◌++◌, Some, None, IsTrue, refl, ap, ◌∙◌, arith}
use Rattle.std.proofs.lemmas.Bool.Decides.{nat_tests}
use Rattle.std.proofs.lemmas.List.{length_push, get_or_push}
use Rattle.std.proofs.Math.Seq.{take-append_seam}
use Rattle.dds_base.specs.Name.{Name, same_name}
use Rattle.dds_base.specs.Number.{StampOf}
use Rattle.dds_base.specs.BrickList.{has}
use Rattle.dds_base.specs.declared.leaf.Leaf.{Leaf}
use Rattle.dds_groups.specs.declared.successor.Change.{Change}
use Rattle.dds_groups.specs.declared.successor.Change.TheVariants.{Join, Split}
use Rattle.dds_groups.specs.Names.{is_half, low_half, high_half}
use Rattle.dds_groups.proofs.NameHalves.{low-is-half, high-is-half, other-low, other-high}
use Rattle.dds_groups.specs.Leaves.{same_stamp, follows, is_join, is_split, successor, is_some_of, is_joined_list, joined, low_child, high_child, sibling}

stamp : ℕ → ℕ → StampOf
stamp maker count = record { maker = maker; count = count }

same-stamps : (a b : StampOf) → same_stamp a b ≡ true → a ≡ b
unfolding stamp
same-stamps a b h =
    let m : a.maker ≡ b.maker = grind (arith, nat_tests, h) in
    let c : a.count ≡ b.count = grind (arith, nat_tests, h) in
    ap (λ k. stamp k a.count) m ∙ ap (λ k. stamp b.maker k) c

name : ℕ → ℕ → Name
name bits depth = record { bits = bits; depth = depth }

same-names : (a b : Name) → same_name a b ≡ true → b ≡ a
unfolding name
same-names a b h =
    let m : b.bits ≡ a.bits = grind (arith, nat_tests, h) in
    let d : b.depth ≡ a.depth = grind (arith, nat_tests, h) in
    ap (λ k. name k b.depth) m ∙ ap (λ k. name a.bits k) d

follows-of : (old new : Leaf) (change : Change) → successor old new ≡ Some change → follows old new ≡ true
follows-of old new change h =
    elim (follows old new) as (λ b. cond b (cond (is_join old new) (Some Join) (cond (is_split old new) (Some Split) None)) None ≡ Some change → b ≡ true)
    [ true ↦ λ k. refl | false ↦ λ k. cc ] h

-- a successor's predecessor is the leaf that it comes from
pub successor-prev : (old new : Leaf) (change : Change) → successor old new ≡ Some change → new.prev ≡ old.stamp
successor-prev old new change h = let f = follows-of old new change h in same-stamps new.prev old.stamp (grind (arith, nat_tests, f))

-- a successor's epoch is one more
pub successor-epoch : (old new : Leaf) (change : Change) → successor old new ≡ Some change → new.epoch ≡ old.epoch + 1
successor-epoch old new change h = let f = follows-of old new change h in grind (arith, nat_tests, f)

join-of : (f j s : Bool) → cond f (cond j (Some Join) (cond s (Some Split) None)) None ≡ Some Join → j ≡ true
join-of true true s h = refl
join-of true false true h = cc
join-of true false false h = cc
join-of false j s h = cc

split-of : (f j s : Bool) → cond f (cond j (Some Join) (cond s (Some Split) None)) None ≡ Some Split → s ≡ true
split-of true true s h = cc
split-of true false true h = refl
split-of true false false h = cc
split-of false j s h = cc

first-of : (a b : Bool) → (a && b) ≡ true → a ≡ true
first-of true b h = refl
first-of false b h = h

-- a Join successor has the name of the leaf that it comes from
pub join-name : (old new : Leaf) → successor old new ≡ Some Join → new.name ≡ old.name
join-name old new h =
    let j : is_join old new ≡ true = join-of (follows old new) (is_join old new) (is_split old new) h in
    same-names old.name new.name (grind (arith, nat_tests, j))

-- a Split successor is named as a half
pub split-name : (old new : Leaf) → successor old new ≡ Some Split → is_half old.name new.name ≡ true
split-name old new h =
    let s : is_split old new ≡ true = split-of (follows old new) (is_join old new) (is_split old new) h in
    first-of _ _ (first-of _ _ s)

self-stamp : (a : StampOf) → same_stamp a a ≡ true
self-stamp a = grind (arith, nat_tests)

self-name : (a : Name) → same_name a a ≡ true
self-name a = grind (arith, nat_tests)

self-number : (a : ℕ) → (a == a) ≡ true
self-number a = grind (arith, nat_tests)

joined-list : (old members : List ℕ) (joiner : ℕ) → IsTrue (is_some_of old members) → is_joined_list old joiner (members ++ joiner ∷ []) ≡ true
joined-list old members joiner some =
    let len : length (members ++ joiner ∷ []) ≡ length members + 1 = length_push members joiner in
    let at : length members + 1 - 1 ≡ length members = omega arith in
    let front : take (length members) (members ++ joiner ∷ []) ≡ members = take-append_seam members (joiner ∷ []) in
    let last : get_or (members ++ joiner ∷ []) (length members) 0 ≡ joiner = get_or_push members joiner 0 (length members) refl in
    let least : ltb 0 (length members + 1) ≡ true = grind (arith, nat_tests) in
    rw (len, at, front, some, least, last, self-number joiner) refl

-- the joiner's leaf is a Join successor
pub joined-successor : (old : Leaf) (members : List ℕ) (joiner count : ℕ) → IsTrue (is_some_of old.list members) → has old.list joiner ≡ false →
    successor old (joined old members joiner count) ≡ Some Join
joined-successor old members joiner count some new =
    rw (self-stamp old.stamp, self-number (old.epoch + 1), self-name old.name, new, joined-list old.list members joiner some) refl

-- a name that is no half of itself is not its half's
other-depth : (a b : Name) → b.depth ≡ a.depth + 1 → same_name a b ≡ false
other-depth a b e = grind (arith, nat_tests, e)

-- both children are Split successors
pub low-successor : (old : Leaf) (members : List ℕ) (maker count : ℕ) → old.name.bits < 2 ^ old.name.depth → IsTrue (is_some_of old.list members) →
    has members maker ≡ true → successor old (low_child old members maker count) ≡ Some Split
low-successor old members maker count range some there =
    let deeper : same_name old.name (low_half old.name) ≡ false = other-depth old.name (low_half old.name) refl in
    let half : is_half old.name (low_half old.name) ≡ true = low-is-half old.name range in
    rw (self-stamp old.stamp, self-number (old.epoch + 1), deeper, half, some, there) refl

pub high-successor : (old : Leaf) (members : List ℕ) (maker count : ℕ) → old.name.bits < 2 ^ old.name.depth → IsTrue (is_some_of old.list members) →
    has members maker ≡ true → successor old (high_child old members maker count) ≡ Some Split
high-successor old members maker count range some there =
    let deeper : same_name old.name (high_half old.name) ≡ false = other-depth old.name (high_half old.name) refl in
    let half : is_half old.name (high_half old.name) ≡ true = high-is-half old.name range in
    rw (self-stamp old.stamp, self-number (old.epoch + 1), deeper, half, some, there) refl

-- the children are each other's sibling
pub sibling-low : (old : Leaf) (members : List ℕ) (maker count : ℕ) → old.name.bits < 2 ^ old.name.depth →
    sibling (low_child old members maker count) ≡ high_child old members maker count
sibling-low old members maker count range =
    ap (λ (n : Name). let x : Leaf = record (low_child old members maker count) { name = n } in x) (other-low old.name range)

pub sibling-high : (old : Leaf) (members : List ℕ) (maker count : ℕ) → old.name.bits < 2 ^ old.name.depth →
    sibling (high_child old members maker count) ≡ low_child old members maker count
sibling-high old members maker count range =
    ap (λ (n : Name). let x : Leaf = record (low_child old members maker count) { name = n } in x) (other-high old.name range)
