use Rattle.std.proofs.Common.{◌≡◌, ℕ, ◌==◌, ◌&&◌, ◌||◌, ◌⊎◌, inl, inr, Bool, true, false, cond, not, Option, Some, None, refl, sym}
use Rattle.std.proofs.lemmas.Bool.{and_parts, both_ways, cases_Bool}
use Rattle.std.specs.Prelude.{is_some, nat_lt, if◌then◌else◌}
use Rattle.dds_base.specs.BrickList.{has}
use Rattle.dds_base.specs.declared.leaf.Leaf.{Leaf}
use Rattle.dds_brick_rows.specs.Take as takes
use Rattle.dds_groups.proofs.Members.{has-some}
use Rattle.dds_groups.proofs.Steps.{join-name}
use Rattle.dds_groups.specs.Leaves.{follows, is_join, is_some_of, is_split, newer, same_stamp, sibling, successor}
use Rattle.dds_groups.specs.Names.{is_half}
use Rattle.dds_groups.specs.Take.{is_better_rival, maker_known}
use Rattle.dds_groups.specs.declared.successor.Change.{Change}
use Rattle.dds_groups.specs.declared.successor.Change.TheVariants.{Join, Split}
use Rattle.dds_law_leaf.proofs.Book.{Book, InMap, Known}
use Rattle.dds_law_leaf.proofs.Making.{stamp-is}
use Rattle.dds_law_leaf.proofs.Maps.{in-put, in-remove}
use Rattle.dds_parents.proofs.Lists.{AllList, beside-lists}
use Rattle.dds_trie.specs.Trie.{LeafMap}

-- A leaf in the place of another one: whom a split's leaf lists was listed before; and what is so of both halves is so of the leaves after it.

split-of : (f j s : Bool) → cond f (cond j (Some Join) (cond s (Some Split) None)) None ≡ Some Split → s ≡ true
split-of true true s h = cc
split-of true false true h = refl
split-of true false false h = cc
split-of false j s h = cc

lists-some : (old new : Leaf) (n : ℕ) → is_some_of old.list new.list ≡ true → has new.list n ≡ true → has old.list n ≡ true
lists-some old new n h k = elim (cases_Bool (has old.list n)) [
  | inl e ↦ e
  | inr none ↦ absurd (both_ways (has new.list n) (has-some old.list new.list n h none) k)
]

-- of a successor with another name
pub split-lists : (old new : Leaf) (q : Option Change) → successor old new ≡ q → is_some q ≡ true → (new.name ≡ old.name → ⊥) → (n : ℕ)
    → has new.list n ≡ true → has old.list n ≡ true
split-lists old new None e h other n k = cc
split-lists old new (Some Join) e h other n k = absurd (other (join-name old new e))
split-lists old new (Some Split) e h other n k =
    let s : is_split old new ≡ true = split-of (follows old new) (is_join old new) (is_split old new) e in
    let a = and_parts (is_half old.name new.name && is_some_of old.list new.list) (has new.list new.stamp.maker) s in
    lists-some old new n (and_parts (is_half old.name new.name) (is_some_of old.list new.list) a.0).1 k

rival-prev : (known : ℕ → Bool) (mine leaf : Leaf) → is_better_rival known mine leaf ≡ true → mine.prev ≡ leaf.prev
rival-prev known mine leaf h =
    let one = same_stamp mine.prev leaf.prev in
    let two = mine.epoch == leaf.epoch in
    let three = not (same_stamp mine.stamp leaf.stamp) in
    let four = maker_known known mine.stamp in
    let a = and_parts (one && two && three && four) (newer leaf mine) h in
    let b = and_parts (one && two && three) four a.0 in
    let c = and_parts (one && two) three b.0 in
    stamp-is mine.prev leaf.prev (and_parts one two c.0).0

pub came-members : (b : Book) (gone : ℕ → Type 0) (known : ℕ → Bool) (mine leaf : Leaf) → AllList b gone → ((n : ℕ) → known n ≡ true → gone n)
    → Known b mine → Known b leaf → (leaf.name ≡ mine.name → ⊥) → (is_some (successor mine leaf) || is_better_rival known mine leaf) ≡ true
    → (is_some (successor mine leaf) ≡ false → maker_known known leaf.stamp ≡ true) → (n : ℕ) → has leaf.list n ≡ true
    → (has mine.list n ≡ true) ⊎ gone n
came-members b gone known mine leaf h f first also other comes maker n k = by (is_some (successor mine leaf)) refl comes
  where
    by : (c : Bool) → is_some (successor mine leaf) ≡ c → (c || is_better_rival known mine leaf) ≡ true → (has mine.list n ≡ true) ⊎ gone n
    by true e i = inl (split-lists mine leaf (successor mine leaf) refl e other n k)
    by false e i =
        let stopped = f leaf.stamp.maker (and_parts (nat_lt leaf.stamp.maker 80) (known leaf.stamp.maker) (maker e)).1 in
        beside-lists b gone h leaf mine also first (sym (rival-prev known mine leaf i)) stopped n k

-- maps
in-when : (P : Leaf → Type 0) (c : Bool) (m k : LeafMap) → (c ≡ true → InMap P m) → (c ≡ false → InMap P k) → InMap P (if c then m else k)
in-when P true m k f g = f refl
in-when P false m k f g = g refl

one-of : (P : Leaf → Type 0) (c : Bool) (x y : Leaf) → P x → P y → P (if c then x else y)
one-of P true x y h k = h
one-of P false x y h k = k

pub in-replaced : (P : Leaf → Type 0) (m : LeafMap) (mine leaf : Leaf) → P leaf → ((mine.name.depth == leaf.name.depth) ≡ false → P (sibling leaf))
    → InMap P m → InMap P (takes.replaced m mine leaf)
in-replaced P m mine leaf k f h =
    in-when P (mine.name.depth == leaf.name.depth) _ _ (λ e. in-put P m leaf k h) (λ e.
    let low = one-of P (takes.is_low leaf.name) leaf (sibling leaf) k (f e) in
    let high = one-of P (takes.is_low leaf.name) (sibling leaf) leaf (f e) k in
    in-put P _ (takes.high_of leaf) high (in-put P _ (takes.low_of leaf) low (in-remove P m mine.name h)))
