-- The pairs of a table are parted among the tables of its name's halves.
use Rattle.std.proofs.Common.{ℕ, ◌≡◌, ◌<◌, ◌^◌, ◌%◌, ◌==◌, ◌⊎◌, ◌||◌, ◌&&◌, inl, inr, cond, Bool, true, false, List, [], ◌∷◌, get_or}
use Rattle.std.proofs.Common.{Option, Some, None, is_some, refl, sym, ap, subst, ◌∙◌, arith}
use Rattle.std.specs.FinMap.{nat_cmp-IsAntisymmetric, get, contains_key, get-retain_keys, get-empty}
use Rattle.std.specs.Ordering.{nat_cmp}
use Rattle.std.proofs.lemmas.Bool.Decides.{nat_tests}
use Rattle.std.proofs.lemmas.Nat.{pow_pos}
use Rattle.dds_disk.specs.Pages.{Pages}
use Rattle.dds_base.specs.Name.{Name, covers, same_name}
use Rattle.dds_base.specs.Place.{bucket as bucket_no}
use Rattle.dds_groups.specs.Names.{low_half, high_half}
use Rattle.dds_groups.proofs.NameHalves.{halves-cover, halves-apart}
use Rattle.dds_chains.specs.Content.{Map, content}
use Rattle.dds_chains.specs.Index.{AreKeysOf, IsIndex, IsTable, found, slot_value}
use Rattle.dds_table.specs.Split.{covered, KeysAreOf, IsParted}
use Rattle.dds_table.specs.Store.{named, maps_of, map_named, AllIndex, AllTables}
use Rattle.dds_chains.specs.declared.table.Slot.{Slot}
use Rattle.dds_chains.specs.declared.table.Chains.{Chains}
use Rattle.dds_chains.proofs.Adding.{is-at}
use Rattle.dds_chains.proofs.Contents.{content-found}

-- a key that a chain has is covered by the table's name
found-covered : (a : Pages) (name : Name) (b : ℕ) (slots : List Slot) (q : ℕ) → AreKeysOf name b slots → is_some (found a slots q) ≡ true → covers name q ≡ true
found-covered a name b [] q h e = cc
found-covered a name b (s ∷ ss) q h e = (elim (s.key == q) as (λ t. (s.key == q) ≡ t → is_some (cond t (Some (slot_value a s)) (found a ss q)) ≡ true →
    covers name q ≡ true) [
      | true ↦ λ t e. subst (λ (k : ℕ). covers name k ≡ true) (is-at s.key q t) h.1
      | false ↦ λ t e. found-covered a name b ss q h.3 e
    ]) refl e

content-covered : (a : Pages) (table : Chains) → IsIndex table → IsTable a table → KeysAreOf table.name (content a table.root)
content-covered a table x t q h =
    found-covered a table.name (bucket_no q) (get_or table.buckets.items (bucket_no q) []) q (x.keys (bucket_no q))
    (ap is_some (sym (content-found a table q x t)) ∙ h)

same-covers : (a b : Name) (q : ℕ) → same_name a b ≡ true → covers a q ≡ true → covers b q ≡ true
same-covers a b q s h = grind (arith, nat_tests, s, h)

-- so each table's keys are
pub maps-covered : (a : Pages) (tables : List Chains) (name : Name) → AllIndex tables → AllTables a tables →
    KeysAreOf name (map_named (maps_of a (named tables)) name)
maps-covered a [] name x t q h = let e : contains_key (map_named (maps_of a (named [])) name) q ≡ false = ap is_some (get-empty nat_cmp q) in cc
maps-covered a (s ∷ ss) name x t q h = (elim (same_name s.name name) as (λ u. same_name s.name name ≡ u →
    contains_key (cond u (content a s.root) (map_named (maps_of a (named ss)) name)) q ≡ true → covers name q ≡ true) [
      | true ↦ λ u h. same-covers s.name name q u (content-covered a s x.0 t.0 q h)
      | false ↦ λ u h. maps-covered a ss name x.1 t.1 q h
    ]) refl h

get-covered : (m : Map) (half : Name) (q : ℕ) → get (covered m half) q ≡ cond (covers half q) (get m q) None
get-covered m half q = get-retain_keys m (covers half) q (λ x t. ap (covers half) (sym (nat_cmp-IsAntisymmetric q x t)))

-- a name that covers a key has bits in range
in-range : (name : Name) (q : ℕ) → covers name q ≡ true → name.bits < 2 ^ name.depth
in-range name q h =
    let some : 0 < 2 ^ name.depth = pow_pos name.depth in
    let below : q % 2 ^ name.depth < 2 ^ name.depth = omega (arith, some) in
    grind (arith, nat_tests, h, below)

-- of two tests just one holds
one-holds : (l h : Bool) (whole low high : Option (List ℕ)) (value : List ℕ) → (l || h) ≡ true → (l && h) ≡ false → low ≡ cond l whole None →
    high ≡ cond h whole None → whole ≡ Some value → ((low ≡ Some value) × (high ≡ None)) ⊎ ((low ≡ None) × (high ≡ Some value))
one-holds true true whole low high value some apart lo hi is = cc
one-holds true false whole low high value some apart lo hi is = inl (lo ∙ is, hi)
one-holds false true whole low high value some apart lo hi is = inr (lo, hi ∙ is)
one-holds false false whole low high value some apart lo hi is = cc

was-there : (c : Bool) (whole half : Option (List ℕ)) (value : List ℕ) → half ≡ cond c whole None → half ≡ Some value → whole ≡ Some value
was-there true whole half value e is = sym e ∙ is
was-there false whole half value e is = cc

pub parted : (m : Map) (name : Name) → KeysAreOf name m → IsParted m (covered m (low_half name)) (covered m (high_half name))
parted m name keys = record {
  once = λ q value is.
      let c : covers name q ≡ true = keys q (ap is_some is) in
      one-holds (covers (low_half name) q) (covers (high_half name) q) (get m q) (get (covered m (low_half name)) q) (get (covered m (high_half name)) q)
      value (sym (halves-cover name q (in-range name q c)) ∙ c) (halves-apart name q) (get-covered m (low_half name) q) (get-covered m (high_half name) q)
      is;
  of_low = λ q value is. was-there (covers (low_half name) q) (get m q) (get (covered m (low_half name)) q) value (get-covered m (low_half name) q) is;
  of_high = λ q value is. was-there (covers (high_half name) q) (get m q) (get (covered m (high_half name)) q) value (get-covered m (high_half name) q) is;
}
