use Rattle.std.specs.Prelude.{◌≡◌, ℕ, ◌<◌, None, Bool, ◌==◌, ◌&&◌, not, nat_lt}
use Rattle.std.specs.Ordering.{nat_cmp, ordering_then}
use Rattle.std.specs.declared.cmp.Ordering.{Ordering}
use Rattle.std.specs.FinMap.{FinMap, retain_keys}
use Rattle.std.specs.BTreeMap.{BTreeMap}
use Rattle.std.specs.BTreeMap as tree
use Rattle.dds_base.specs.Number.{Txn}

-- the order of transactions: by library, then by number
abbrev pub txn_cmp : Txn → Txn → Ordering
txn_cmp a b = ordering_then (nat_cmp a.library b.library) (nat_cmp a.number b.number)

-- the outcome noted last of each transaction that one was noted of: true for committed, false for aborted
abbrev pub OutcomeMap : Type 0
OutcomeMap = FinMap txn_cmp Bool

-- the transaction is the library's, with a number below the bound
abbrev pub is_below : ℕ → ℕ → Txn → Bool
is_below library below t = t.library == library && nat_lt t.number below

-- the outcomes without that library's below the bound
abbrev pub trimmed : OutcomeMap → ℕ → ℕ → OutcomeMap
trimmed m library below = retain_keys m (λ t. not (is_below library below t))

-- no transaction of a brick has an outcome
abbrev pub IsOfLibraries : BTreeMap Txn Bool → Type 0
IsOfLibraries noted = (t : Txn) → t.library < 64 → tree.get txn_cmp noted t ≡ None
