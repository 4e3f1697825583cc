use Rattle.std.proofs.Common.{◌≡◌, ℕ, ◌+◌, ◌-◌, ◌^◌, ◌<◌, ◌≤◌, Bool, true, false, Option, Some, None, List, [], ◌∷◌, refl, sym, subst, arith}
use Rattle.std.proofs.lemmas.Bool.Decides.{nat_tests}
use Rattle.std.specs.List.{AllByRecursion}
use Rattle.std.specs.Prelude.{nat_lt, if◌then◌else◌}
use Rattle.dds_base.specs.Name.{Name}
use Rattle.dds_base.specs.declared.leaf.Leaf.{Leaf}
use Rattle.dds_base.specs.declared.number.NodeNo.{NodeNo}
use Rattle.dds_core.proofs.Lists.{all-append, all-map}
use Rattle.dds_groups.specs.Names.{low_half, other_half}
use Rattle.dds_law_leaf.proofs.Book.{Each, InLetter, InMap, Leafing, leafing}
use Rattle.dds_law_leaf.proofs.Turns.{Plain}
use Rattle.dds_law_own.proofs.Halves.{low-few, twice}
use Rattle.dds_letters.specs.declared.letter.Letter.{Letter}
use Rattle.dds_script.specs.Ranges.{IsName}
use Rattle.dds_states.specs.Turn.{BrickTurn, and_then, sends, still, to_each}
use Rattle.dds_states.specs.declared.brick_state.BrickState.{BrickState}
use Rattle.dds_states.specs.declared.brick_state.OpenOrder.{OpenOrder}
use Rattle.dds_states.specs.declared.brick_state.Task.{Task}
use Rattle.dds_states.specs.declared.brick_state.Task.TheVariants.{Join, Split}
use Rattle.dds_world.specs.Groups.{letter_leaf, made_leaf}

-- Leaves whose names are partitions', at a brick and in its turns.
--
-- | part | why it is needed | which rows keep it |
-- |---|---|---|
-- | `leaves`: own leaves have partitions' names | claimed | Push, Lease and Install take the letter's leaf or a half beside it |
-- | `order`: so do an order's leaf and what it makes | it is served | Granted; what begins to install |
-- | a split's leaf can be halved, and what it makes is a half | its halves have names | the order Split, which refuses the deepest ones |

abbrev pub IsFit : Leaf → Type 0
IsFit leaf = IsName leaf.name

abbrev pub IsShallow : Leaf → Type 0
IsShallow leaf = leaf.name.depth ≤ 15

abbrev pub IsHalf : Leaf → Type 0
IsHalf leaf = 1 ≤ leaf.name.depth

-- of an order's leaf and what it makes
abbrev pub MayHalve : Task → Option Leaf → Option Leaf → Type 0
MayHalve (Join via) leaf made = Unit {0}
MayHalve Split leaf made = Each IsShallow leaf × Each IsHalf made

abbrev pub FitOrder : Option OpenOrder → Type 0
FitOrder None = Unit {0}
FitOrder (Some o) = Each IsFit o.leaf × Each IsFit (made_leaf o.phase) × MayHalve o.task o.leaf (made_leaf o.phase)

abbrev pub FitLeafing : Leafing → Type 0
FitLeafing x = InMap IsFit x.leaves × FitOrder x.order

pub record Fit (s : BrickState) : Type 0 where
  pub is : FitLeafing (leafing s)

abbrev pub FitLetters : List (NodeNo × Letter) → Type 0
FitLetters ls = AllByRecursion (λ (p : NodeNo × Letter). InLetter IsFit p.1) ls

pub record Fits (t : BrickTurn) : Type 0 where
  pub state : Fit t.state
  pub letters : FitLetters t.out.letters

-- names
pub low-named : (n : Name) → IsName n → n.depth ≤ 15 → IsName (low_half n)
low-named n h le = record { depth = omega (arith, le); bits = low-few n h.bits }

other-if : (c : Bool) (x p : ℕ) → x < p + p → nat_lt x p ≡ c → (if c then x + p else x - p) < p + p
other-if true x p h e = let lt : x < p = grind (arith, nat_tests, e) in omega (arith, lt)
other-if false x p h e = omega (arith, h)

pub other-named : (n : Name) → IsName n → 1 ≤ n.depth → IsName (other_half n)
other-named n h le =
    let p = 2 ^ (n.depth - 1) in
    let both = twice n.depth le in
    record {
      depth = h.depth;
      bits = subst (λ k. (other_half n).bits < k) (sym both) (other-if (nat_lt n.bits p) n.bits p (subst (λ k. n.bits < k) both h.bits) refl);
    }

-- turns
pub letters-each : (ns : List NodeNo) (l : Letter) → InLetter IsFit l → FitLetters (to_each ns l)
letters-each [] l h = tt
letters-each (n ∷ ns) l h = (h, letters-each ns l h)

pub fits : (t : BrickTurn) → Fit t.state → FitLetters t.out.letters → Fits t
fits t h k = record { state = h; letters = k }

pub fits-still : (u : BrickState) → Fit u → Fits (still u)
fits-still u h = fits (still u) h tt

pub fits-if : (c : Bool) {t u : BrickTurn} → Fits t → Fits u → Fits (if c then t else u)
fits-if true h k = h
fits-if false h k = k

pub fits-when : (c : Bool) {t u : BrickTurn} → (c ≡ true → Fits t) → (c ≡ false → Fits u) → Fits (if c then t else u)
fits-when true h k = h refl
fits-when false h k = k refl

-- letters, and then a turn
pub fits-then : (u : BrickState) (ls : List (NodeNo × Letter)) (row : BrickState → BrickTurn) → FitLetters ls → Fits (row u)
    → Fits (and_then (sends u ls) row)
fits-then u ls row h k = record { state = k.state; letters = all-append _ ls (row u).out.letters h k.letters }

no-leaves : (ls : List (NodeNo × Letter)) → AllByRecursion (λ (p : NodeNo × Letter). letter_leaf p.1 ≡ None) ls → FitLetters ls
no-leaves ls h = all-map _ _ ls (λ l k. subst (Each IsFit) (sym k) tt) h

pub fits-plain : (s : BrickState) (t : BrickTurn) → Fit s → Plain (leafing s) t → Fits t
fits-plain s t h p = fits t (record { is = subst FitLeafing (sym p.same) h.is }) (no-leaves t.out.letters p.letters)

-- a turn, and then one that leaves leaves alone
pub then-plain : (t : BrickTurn) (row : BrickState → BrickTurn) → Fits t → ((u : BrickState) → Plain (leafing u) (row u)) → Fits (and_then t row)
then-plain t row h f =
    let p = f t.state in
    record {
      state = record { is = subst FitLeafing (sym p.same) h.state.is };
      letters = all-append _ t.out.letters (row t.state).out.letters h.letters (no-leaves (row t.state).out.letters p.letters);
    }
