use Rattle.std.specs.Prelude.{ℕ, Bool, ◌==◌, ◌&&◌, List, [], ◌∷◌, Option, Some, None, if◌then◌else◌}
use Rattle.std.specs.List.{list_any}
use Rattle.dds_base.specs.Name.{Name, covers, overlaps, same_name}
use Rattle.dds_locks.specs.First.{without_first}
use Rattle.dds_locks.specs.declared.leases.Lease.{Lease}

-- the holder of the first lease given that overlaps the name
abbrev pub leased : List Lease → Name → Option ℕ
leased [] name = None
leased (l ∷ ls) name = if overlaps l.name name then Some l.holder else leased ls name

-- a lease's name covers the key
abbrev pub lease_covers : List Lease → ℕ → Bool
lease_covers ls key = list_any (λ l. covers l.name key) ls

-- the name of the first lease of this holder that overlaps the name
abbrev pub lease_of : List Lease → Name → ℕ → Option Name
lease_of [] name holder = None
lease_of (l ∷ ls) name holder =
    if l.holder == holder && overlaps l.name name then Some l.name else lease_of ls name holder

-- the lease is this holder's of this name
abbrev pub is_lease : Name → ℕ → Lease → Bool
is_lease name holder l = l.holder == holder && same_name l.name name

-- a lease of this name and holder stands
abbrev pub is_given : List Lease → Name → ℕ → Bool
is_given ls name holder = list_any (is_lease name holder) ls

-- the leases without the first of this name and holder
abbrev pub released : List Lease → Name → ℕ → List Lease
released ls name holder = without_first (is_lease name holder) ls

-- the leases of all other holders
abbrev pub released_all : List Lease → ℕ → List Lease
released_all [] holder = []
released_all (l ∷ ls) holder = if l.holder == holder then released_all ls holder else l ∷ released_all ls holder
