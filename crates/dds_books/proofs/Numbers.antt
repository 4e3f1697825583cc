use Rattle.std.proofs.Common.{◌≡◌, ℕ, zero, suc, ◌+◌, ◌<◌, ◌≤◌, ◌⊎◌, inl, inr, ◌==◌, ◌||◌, Bool, true, false, not, cond, eqb, Option, Some, None}
use Rattle.std.proofs.Common.{List, [], ◌∷◌, ◌++◌, refl, sym, ◌∙◌, subst, arith}
use Rattle.std.proofs.lemmas.Bool.{eqb-true, eqb-false, eq-eqb}
use Rattle.std.specs.FinMap.{get, remove, empty, get-empty}
use Rattle.std.specs.List.{AllByRecursion}
use Rattle.std.specs.Prelude.{filter, if◌then◌else◌}
use Rattle.dds_base.specs.BrickList.{has}
use Rattle.dds_base.specs.Name.{Name}
use Rattle.dds_base.specs.NodeSet.{has_node}
use Rattle.dds_base.specs.declared.leaf.Leaf.{Leaf}
use Rattle.dds_base.specs.declared.node_set.NodeSet.{NodeSet}
use Rattle.dds_core.proofs.Lists.{all-append, all-filter, all-map}
use Rattle.dds_groups.specs.Leaves.{live}
use Rattle.dds_net.proofs.Pairwise.{Pairwise, pairs-append, pairs-filter}
use Rattle.dds_net.specs.Net.{Sizes}
use Rattle.dds_states.specs.Leaf.{leaf_for}
use Rattle.dds_states.specs.Turn.{first_some, numbers_from, unknown, unknown_others, when, without}
use Rattle.dds_trie.proofs.Cuts.{get-cut, get-with, get-without}
use Rattle.dds_trie.specs.Trie.{LeafMap, cut, is_under, leaf_within, name_at, name_cmp, or_else, put}
use Rattle.dds_books.specs.Placed.{AreBricks, IsBrick, LeafOk, LeavesOk, OfSome}

-- Lists of bricks, and the leaves of a map.

-- what is so of each that lives, and of each two
all-live-if : {X : Type 0} (P : X → Type 0) (c : Bool) (x : X) (xs : List X) → P x → AllByRecursion P xs → AllByRecursion P (if c then xs else x ∷ xs)
all-live-if P true x xs h k = k
all-live-if P false x xs h k = (h, k)

pub all-live : (P : ℕ → Type 0) (xs : List ℕ) (known : ℕ → Bool) → AllByRecursion P xs → AllByRecursion P (live xs known)
all-live P [] known h = tt
all-live P (x ∷ xs) known h = all-live-if P (known x) x (live xs known) h.0 (all-live P xs known h.1)

pairs-live-if : (R : ℕ → ℕ → Type 0) (c : Bool) (x : ℕ) (xs : List ℕ) → AllByRecursion (R x) xs → Pairwise R xs → Pairwise R (if c then xs else x ∷ xs)
pairs-live-if R true x xs h k = k
pairs-live-if R false x xs h k = (h, k)

pub pairs-live : (R : ℕ → ℕ → Type 0) (xs : List ℕ) (known : ℕ → Bool) → Pairwise R xs → Pairwise R (live xs known)
pairs-live R [] known h = tt
pairs-live R (x ∷ xs) known h = pairs-live-if R (known x) x (live xs known) (all-live (R x) xs known h.0) (pairs-live R xs known h.1)

-- those that live aren't known
live-unknown-if : (known : ℕ → Bool) (c : Bool) (x : ℕ) (xs : List ℕ) → known x ≡ c → AllByRecursion (λ n. known n ≡ false) xs
    → AllByRecursion (λ n. known n ≡ false) (if c then xs else x ∷ xs)
live-unknown-if known true x xs e h = h
live-unknown-if known false x xs e h = (e, h)

pub live-unknown : (xs : List ℕ) (known : ℕ → Bool) → AllByRecursion (λ n. known n ≡ false) (live xs known)
live-unknown [] known = tt
live-unknown (x ∷ xs) known = live-unknown-if known (known x) x (live xs known) refl (live-unknown xs known)

-- lists of bricks
pub bricks-live : {z : Sizes} (xs : List ℕ) (known : ℕ → Bool) → AreBricks z xs → AreBricks z (live xs known)
bricks-live {z = z} xs known h = record { bricks = all-live (IsBrick z) xs known h.bricks; apart = pairs-live _ xs known h.apart }

pub bricks-filter : {z : Sizes} (p : ℕ → Bool) (xs : List ℕ) → AreBricks z xs → AreBricks z (filter p xs)
bricks-filter {z = z} p xs h = record { bricks = all-filter (IsBrick z) p xs h.bricks; apart = pairs-filter _ p xs h.apart }

pub bricks-unknown : {z : Sizes} (xs : List ℕ) (known : NodeSet) → AreBricks z xs → AreBricks z (unknown xs known)
bricks-unknown xs known h = bricks-live xs (has_node known) h

pub bricks-without : {z : Sizes} (xs : List ℕ) (n : ℕ) → AreBricks z xs → AreBricks z (without xs n)
bricks-without xs n h = bricks-filter (λ m. not (m == n)) xs h

pub bricks-others : {z : Sizes} (xs : List ℕ) (me : ℕ) (known : NodeSet) → AreBricks z xs → AreBricks z (unknown_others xs me known)
bricks-others xs me known h = bricks-without (unknown xs known) me (bricks-unknown xs known h)

pub bricks-none : {z : Sizes} → AreBricks z []
bricks-none = record { bricks = tt; apart = tt }

-- each is another one than a number that isn't there
or-none : (a b : Bool) → (a || b) ≡ false → (a ≡ false) × (b ≡ false)
or-none true b e = cc
or-none false b e = (refl, e)

pub not-there : (xs : List ℕ) (n : ℕ) → has xs n ≡ false → AllByRecursion (λ x. x ≡ n → ⊥) xs
not-there [] n e = tt
not-there (x ∷ xs) n e = let p = or-none (x == n) (has xs n) e in (eqb-false x n p.0, not-there xs n p.1)

pub bricks-more : {z : Sizes} (xs : List ℕ) (n : ℕ) → AreBricks z xs → IsBrick z n → AllByRecursion (λ x. x ≡ n → ⊥) xs → AreBricks z (xs ++ n ∷ [])
bricks-more {z = z} xs n h inside apart =
    record {
      bricks = all-append (IsBrick z) xs (n ∷ []) h.bricks (inside, tt);
      apart = pairs-append (λ a b. a ≡ b → ⊥) xs (n ∷ []) h.apart (tt, tt) (all-map _ (λ x. AllByRecursion (λ b. x ≡ b → ⊥) (n ∷ [])) xs
          (λ x ne. (ne, tt)) apart);
    }

-- numbers in order
pub all-from : (P : ℕ → Type 0) (k first : ℕ) → ((n : ℕ) → first ≤ n → n < first + k → P n) → AllByRecursion P (numbers_from k first)
all-from P zero first f = tt
all-from P (suc k) first f = (f first (omega arith) (omega arith), all-from P k (first + 1) (λ n low high. f n (omega (arith, low)) (omega (arith, high))))

pairs-from : (k first : ℕ) → Pairwise (λ a b. a ≡ b → ⊥) (numbers_from k first)
pairs-from zero first = tt
pairs-from (suc k) first = (all-from (λ b. first ≡ b → ⊥) k (first + 1) (λ n low high e. omega (arith, low, e)), pairs-from k (first + 1))

pub bricks-all : {z : Sizes} (bricks : ℕ) → bricks ≡ z.bricks → AreBricks z (numbers_from bricks 0)
bricks-all {z = z} bricks e = record { bricks = all-from (IsBrick z) bricks 0 (λ n low high. omega (arith, high, e)); apart = pairs-from bricks 0 }

-- a member of a list, by its test
or-case : (a b : Bool) → (a || b) ≡ true → (a ≡ true) ⊎ (b ≡ true)
or-case true b e = inl refl
or-case false b e = inr e

pub all-has : (P : ℕ → Type 0) (xs : List ℕ) (n : ℕ) → AllByRecursion P xs → has xs n ≡ true → P n
all-has P [] n h e = cc
all-has P (x ∷ xs) n h e = elim (or-case (x == n) (has xs n) e) [
  | inl same ↦ subst P (eqb-true x n same) h.0
  | inr there ↦ all-has P xs n h.1 there
]

pub or-right : (a b : Bool) → b ≡ true → (a || b) ≡ true
or-right true b e = refl
or-right false b e = e

has-more : (x : ℕ) (xs ys : List ℕ) → AllByRecursion (λ n. has ys n ≡ true) xs → AllByRecursion (λ n. has (x ∷ ys) n ≡ true) xs
has-more x xs ys h = all-map (λ n. has ys n ≡ true) _ xs (λ n e. or-right (x == n) (has ys n) e) h

pub has-first : (x : ℕ) (xs : List ℕ) → has (x ∷ xs) x ≡ true
has-first x xs = let e : eqb x x ≡ true = eq-eqb x x refl in rw e refl

pub all-there : (xs : List ℕ) → AllByRecursion (λ n. has xs n ≡ true) xs
all-there [] = tt
all-there (x ∷ xs) = (has-first x xs, has-more x xs xs (all-there xs))

-- Options

pub some-ok : {X : Type 0} (P : X → Type 0) (o : Option X) → ((x : X) → o ≡ Some x → P x) → OfSome P o
some-ok P None f = tt
some-ok P (Some x) f = f x refl

pub is-ok : {X : Type 0} (P : X → Type 0) (o : Option X) (x : X) → OfSome P o → o ≡ Some x → P x
is-ok P None x h e = cc
is-ok P (Some y) x h e = let is : y ≡ x = cc in subst P is h

pub first-ok : {X : Type 0} (P : X → Type 0) (a b : Option X) → OfSome P a → OfSome P b → OfSome P (first_some a b)
first-ok P None b h k = k
first-ok P (Some x) b h k = h

pub when-ok : {X : Type 0} (P : X → Type 0) (c : Bool) (x : X) → P x → OfSome P (when c x)
when-ok P true x h = h
when-ok P false x h = tt

-- The leaves of a map

or-leaf : (P : Leaf → Type 0) (a b : Option Leaf) → OfSome P a → OfSome P b → OfSome P (or_else a b)
or-leaf P None b h k = k
or-leaf P (Some x) b h k = h

within-ok : (z : Sizes) (m : LeafMap) (depth key : ℕ) → LeavesOk z m → OfSome (LeafOk z) (leaf_within m depth key)
unfolding leaf_within
within-ok z m zero key h = some-ok (LeafOk z) _ (λ leaf e. h (name_at key 0) leaf e)
within-ok z m (suc depth) key h = or-leaf (LeafOk z) _ _ (some-ok (LeafOk z) _ (λ leaf e. h (name_at key (suc depth)) leaf e)) (within-ok z m depth key h)

pub leaf-for-ok : (z : Sizes) (m : LeafMap) (key : ℕ) → LeavesOk z m → OfSome (LeafOk z) (leaf_for m key)
leaf-for-ok z m key h = within-ok z m _ key h

pub get-ok : (z : Sizes) (m : LeafMap) (name : Name) → LeavesOk z m → OfSome (LeafOk z) (get m name)
get-ok z m name h = some-ok (LeafOk z) (get m name) (λ leaf e. h name leaf e)

cond-some : {X : Type 0} (P : X → Type 0) (c : Bool) (a b : Option X) (x : X) → OfSome P a → OfSome P b → cond c a b ≡ Some x → P x
cond-some P true a b x h k e = is-ok P a x h e
cond-some P false a b x h k e = is-ok P b x k e

cut-ok : (z : Sizes) (m : LeafMap) (top : Name) → LeavesOk z m → LeavesOk z (cut m top)
cut-ok z m top h name leaf e = cond-some (LeafOk z) (not (is_under top name)) (get m name) None leaf (get-ok z m name h) tt (sym (get-cut m top name) ∙ e)

pub put-ok : (z : Sizes) (m : LeafMap) (new : Leaf) → LeavesOk z m → LeafOk z new → LeavesOk z (put m new)
put-ok z m new h k name leaf e =
    cond-some (LeafOk z) _ (Some new) (get (cut m new.name) name) leaf k (get-ok z (cut m new.name) name (cut-ok z m new.name h))
    (sym (get-with (cut m new.name) new.name new name) ∙ e)

pub remove-ok : (z : Sizes) (m : LeafMap) (old : Name) → LeavesOk z m → LeavesOk z (remove m old)
remove-ok z m old h name leaf e = cond-some (LeafOk z) _ None (get m name) leaf tt (get-ok z m name h) (sym (get-without m old name) ∙ e)

pub empty-ok : (z : Sizes) → LeavesOk z empty
empty-ok z name leaf e = let no : None ≡ Some leaf = sym (get-empty name_cmp name) ∙ e in cc
