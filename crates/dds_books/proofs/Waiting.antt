use Rattle.std.proofs.Common.{◌≡◌, ℕ, zero, suc, ◌%◌, ◌<◌, ◌⊎◌, inl, inr, ◌==◌, ◌&&◌, ◌||◌, Bool, true, false, not, List, [], ◌∷◌}
use Rattle.std.proofs.Common.{length, refl, sym, ap, ◌∙◌, arith, get_or}
use Rattle.std.proofs.lemmas.Bool.{eqb-true}
use Rattle.std.proofs.lemmas.Nat.{mod_below}
use Rattle.std.specs.List.{AllByRecursion, list_all}
use Rattle.std.specs.Prelude.{if◌then◌else◌}
use Rattle.dds_base.specs.BrickList.{has}
use Rattle.dds_base.specs.NodeSet.{has_node}
use Rattle.dds_base.specs.declared.node_set.NodeSet.{NodeSet}
use Rattle.dds_base.specs.declared.number.NodeNo.{NodeNo}
use Rattle.dds_call_rows.specs.Library as rows
use Rattle.dds_core.proofs.Lists.{all-filter, all-map}
use Rattle.dds_groups.specs.Leaves.{live}
use Rattle.dds_net.specs.Net.{Sizes}
use Rattle.dds_states.specs.Turn.{is_none_left, unknown, without}
use Rattle.dds_states.specs.declared.library_state.Request.{Request}
use Rattle.dds_books.proofs.Numbers.{has-first, or-right}
use Rattle.dds_books.proofs.Numbers.{all-live, all-there, bricks-unknown, bricks-without, live-unknown}
use Rattle.dds_books.specs.Placed.{AreAwaited, AreBricks, AreMembers}

-- Members that live and aren't known, and who is waited for.

-- Lists of nodes

-- the one that is asked
some-at : (P : ℕ → Type 0) (xs : List ℕ) (i d : ℕ) → i < length xs → AllByRecursion P xs → P (get_or xs i d)
some-at P [] i d h k = absurd (omega (arith, h))
some-at P (x ∷ xs) zero d h k = k.0
some-at P (x ∷ xs) (suc i) d h k = some-at P xs i d (omega (arith, h)) k.1

pub asked-one : (P : ℕ → Type 0) (m : NodeNo) (ms : List NodeNo) (r : Request) → AllByRecursion P (m ∷ ms) → P (rows.got_from (m ∷ ms) r)
asked-one P m ms r h = some-at P (m ∷ ms) (r.caller % length (m ∷ ms)) 0 (mod_below r.caller (length (m ∷ ms)) (omega arith)) h

-- a member that isn't known lives
live-if : (known : ℕ → Bool) (c : Bool) (x : ℕ) (xs : List ℕ) → known x ≡ c → known x ≡ false → is_none_left (if c then xs else x ∷ xs) ≡ false
live-if known true x xs e f = let no : true ≡ false = sym e ∙ f in cc
live-if known false x xs e f = refl

skips : (c : Bool) (x : ℕ) (xs : List ℕ) → is_none_left xs ≡ false → is_none_left (if c then xs else x ∷ xs) ≡ false
skips true x xs e = e
skips false x xs e = refl

pub or-parts : (a b : Bool) → (a || b) ≡ true → (a ≡ true) ⊎ (b ≡ true)
or-parts true b e = inl refl
or-parts false b e = inr e

pub some-live : (xs : List ℕ) (known : ℕ → Bool) (n : ℕ) → has xs n ≡ true → known n ≡ false → is_none_left (live xs known) ≡ false
some-live [] known n h e = cc
some-live (x ∷ xs) known n h e = elim (or-parts (x == n) (has xs n) h) [
  | inl same ↦ live-if known (known x) x (live xs known) refl (ap known (eqb-true x n same) ∙ e)
  | inr there ↦ skips (known x) x (live xs known) (some-live xs known n there e)
]

-- where not all are known, one lives
not-all : (known : ℕ → Bool) (c : Bool) (x : ℕ) (xs ys : List ℕ) → known x ≡ c → (c && list_all known xs) ≡ false
    → (list_all known xs ≡ false → is_none_left ys ≡ false) → is_none_left (if c then ys else x ∷ ys) ≡ false
not-all known true x xs ys e h f = f h
not-all known false x xs ys e h f = refl

pub left-live : (xs : List ℕ) (known : ℕ → Bool) → list_all known xs ≡ false → is_none_left (live xs known) ≡ false
left-live [] known h = cc
left-live (x ∷ xs) known h = not-all known (known x) x xs (live xs known) refl h (λ k. left-live xs known k)

-- each member lives or is known
abbrev pub LivesOrKnown : (ℕ → Bool) → List ℕ → ℕ → Type 0
LivesOrKnown known ws n = (has ws n ≡ true) ⊎ (known n ≡ true)

one-more : (known : ℕ → Bool) (x : ℕ) (ws : List ℕ) (n : ℕ) → LivesOrKnown known ws n → LivesOrKnown known (x ∷ ws) n
one-more known x ws n h = elim h [
  | inl e ↦ inl (or-right (x == n) (has ws n) e)
  | inr e ↦ inr e
]

each-if : (known : ℕ → Bool) (c : Bool) (x : ℕ) (xs ws : List ℕ) → known x ≡ c → AllByRecursion (LivesOrKnown known ws) xs
    → AllByRecursion (LivesOrKnown known (if c then ws else x ∷ ws)) (x ∷ xs)
each-if known true x xs ws e h = (inr e, h)
each-if known false x xs ws e h = (inl (has-first x ws), all-map (LivesOrKnown known ws) _ xs (λ n k. one-more known x ws n k) h)

pub each-lives : (xs : List ℕ) (known : ℕ → Bool) → AllByRecursion (LivesOrKnown known (live xs known)) xs
each-lives [] known = tt
each-lives (x ∷ xs) known = each-if known (known x) x xs (live xs known) refl (each-lives xs known)

-- Who is waited for

-- who is left of those that are waited for, perhaps none
pub record AreLeft (z : Sizes) (known : NodeSet) (waiting : List ℕ) : Type 0 where
  pub bricks : AreBricks z waiting
  pub unknown : AllByRecursion (λ n. has_node known n ≡ false) waiting

pub awaited : {z : Sizes} {known : NodeSet} (ws : List ℕ) → AreLeft z known ws → is_none_left ws ≡ false → AreAwaited z known ws
awaited ws h e = record { some = e; bricks = h.bricks; unknown = h.unknown }

pub left-without : {z : Sizes} {known : NodeSet} (ws : List ℕ) (n : ℕ) → AreAwaited z known ws → AreLeft z known (without ws n)
left-without ws n h = record { bricks = bricks-without ws n h.bricks; unknown = all-filter _ (λ m. not (m == n)) ws h.unknown }

-- all who aren't known
pub unknown-awaited : {z : Sizes} (list : List ℕ) (known : NodeSet) → AreBricks z list → is_none_left (unknown list known) ≡ false
    → AreAwaited z known (unknown list known)
unknown-awaited list known h e =
    record { some = e; bricks = bricks-unknown list known h; unknown = live-unknown list (has_node known) }

pub unknown-members : {z : Sizes} (list : List ℕ) (known : NodeSet) → AreBricks z list → is_none_left (unknown list known) ≡ false
    → AreMembers z known list (unknown list known)
unknown-members list known h e =
    record { list_ok = h; awaited = unknown-awaited list known h e; members = all-live _ list (has_node known) (all-there list) }
