use Rattle.std.specs.Prelude.{◌≡◌, ℕ, Bool, ◌==◌, List, [], ◌∷◌, Option, Some, None, unwrap_or, ◌+◌, if◌then◌else◌}
use Rattle.std.specs.List.{find, list_any}
use Rattle.std.specs.Ordering.{nat_cmp}
use Rattle.std.specs.BTreeMap.{BTreeMap}
use Rattle.std.specs.BTreeMap as tree
use Rattle.dds_base.specs.Number.{Txn, same_txn}
use Rattle.dds_base.specs.Name.{Name, covers}
use Rattle.dds_base.specs.Op.{the_key}
use Rattle.dds_base.specs.declared.pending.Pending.{Pending}
use Rattle.dds_locks.specs.First.{without_first}
use Rattle.dds_locks.specs.Outcomes.{txn_cmp}

-- the transaction that has the key locked: the first pending one on it
abbrev pub holder : List Pending → ℕ → Option Txn
holder [] key = None
holder (p ∷ ps) key = if the_key p.op == key then Some p.txn else holder ps key

-- the pending transaction has this number
abbrev pub is_numbered : Txn → Pending → Bool
is_numbered txn p = same_txn p.txn txn

-- the first pending transaction of this number
abbrev pub first_of : List Pending → Txn → Option Pending
first_of ps txn = find (is_numbered txn) ps

-- the pending transactions without the first of this number
abbrev pub without : List Pending → Txn → List Pending
without ps txn = without_first (is_numbered txn) ps

-- some pending transaction is on a key of the name
abbrev pub any_under : List Pending → Name → Bool
any_under ps name = list_any (λ p. covers name (the_key p.op)) ps

-- how many pending transactions have this number
abbrev pub times : List Pending → Txn → ℕ
times [] txn = 0
times (p ∷ ps) txn = if same_txn p.txn txn then times ps txn + 1 else times ps txn

-- no two pending transactions are on one key
abbrev pub IsApart : List Pending → Type 0
IsApart [] = Unit {0}
IsApart (p ∷ ps) = (holder ps (the_key p.op) ≡ None) × IsApart ps

-- what a tree from transactions to counts has for a transaction, 0 where it has none
abbrev pub count_at : BTreeMap Txn ℕ → Txn → ℕ
count_at counts txn = unwrap_or (tree.get txn_cmp counts txn) 0

-- the first tree has the holder of each key, and the second how often each transaction is pending
pub record IsIndexed (ps : List Pending) (keys : BTreeMap ℕ Txn) (counts : BTreeMap Txn ℕ) : Type 0 where
  pub apart : IsApart ps
  pub held : (key : ℕ) → tree.get nat_cmp keys key ≡ holder ps key
  pub counted : (txn : Txn) → count_at counts txn ≡ times ps txn
