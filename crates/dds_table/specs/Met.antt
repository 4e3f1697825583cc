-- The keys and the pages that a walk has met, as sets.
use Rattle.std.specs.Prelude.{ℕ, ◌≡◌, ◌==◌, ◌||◌, List}
use Rattle.std.specs.Ordering.{nat_cmp}
use Rattle.std.specs.List.{list_any}
use Rattle.std.specs.BTreeSet.{BTreeSet, contains}
use Rattle.dds_base.specs.declared.pair.Pair.{Pair}
use Rattle.dds_table.specs.declared.walk.Walk.{Walk}
use Rattle.dds_table.specs.declared.met.Met.{Met}

-- the set has the number of each item, and no other
abbrev pub AreNumbersOf : {X : Type 0} → (X → ℕ) → BTreeSet ℕ → List X → Type 0
AreNumbersOf number set xs = (q : ℕ) → contains nat_cmp set q ≡ list_any (λ x. number x == q) xs

-- the set has the key of each pair
abbrev pub AreKeysOf : BTreeSet ℕ → List Pair → Type 0
AreKeysOf set pairs = AreNumbersOf (λ (pair : Pair). pair.key) set pairs

-- the set has each page
abbrev pub ArePagesOf : BTreeSet ℕ → List ℕ → Type 0
ArePagesOf set seen = AreNumbersOf (λ (page : ℕ). page) set seen

-- a number was added to a set
abbrev pub Adds : BTreeSet ℕ → ℕ → BTreeSet ℕ → Type 0
Adds was number now = (q : ℕ) → contains nat_cmp now q ≡ (number == q || contains nat_cmp was q)

-- what a walk has met
pub record IsMetBy (walk : Walk) (met : Met) : Type 0 where
  pub keys : AreKeysOf met.keys walk.pairs
  pub pages : ArePagesOf met.pages walk.seen
