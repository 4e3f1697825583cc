-- What a store knows of its keys, over any disk.
use Rattle.std.proofs.Common.{ℕ, zero, suc, ◌≡◌, ◌<◌, cond, true, false, List, [], ◌∷◌, length, get_or, set, Some, refl, sym, ap, ◌∙◌, arith}
use Rattle.std.specs.Option.{option_map}
use Rattle.dds_base.specs.Name.{Name, same_name}
use Rattle.dds_base.specs.Place.{bucket as bucket_no}
use Rattle.dds_chains.specs.Part.{in_chain, has_key}
use Rattle.dds_table.specs.Store.{named, slots_of, place_named}
use Rattle.dds_table.specs.Lawful.{slots_named, knows}
use Rattle.dds_chains.specs.declared.table.Slot.{Slot}
use Rattle.dds_chains.specs.declared.table.Chains.{Chains}
use Rattle.dds_chains.proofs.Slots.{later, before, first-not}

-- the slots of a name's table
slots-named : (tables : List Chains) (name : Name) (i : ℕ) (t : Chains) → place_named (named tables) name ≡ Some i → t ≡ get_or tables i t →
    slots_named (named tables) (slots_of tables) name ≡ t.buckets.items
slots-named [] name i t h e = cc
slots-named (x ∷ xs) name zero t h e = (elim (same_name x.name name) as (λ u. same_name x.name name ≡ u →
    cond u (Some 0) (option_map suc (place_named (named xs) name)) ≡ Some 0 →
    cond u x.buckets.items (slots_named (named xs) (slots_of xs) name) ≡ t.buckets.items) [
      | true ↦ λ u h. ap (λ (y : Chains). y.buckets.items) (sym e)
      | false ↦ λ u h. absurd (later (place_named (named xs) name) h)
    ]) refl h
slots-named (x ∷ xs) name (suc i) t h e =
    (elim (same_name x.name name) as (λ u. same_name x.name name ≡ u → cond u (Some 0) (option_map suc (place_named (named xs) name)) ≡ Some (suc i) →
    cond u x.buckets.items (slots_named (named xs) (slots_of xs) name) ≡ t.buckets.items) [
      | true ↦ λ u h. absurd (first-not h)
      | false ↦ λ u h. slots-named xs name i t (before (place_named (named xs) name) i h) e
    ]) refl h

-- what is known of a table's keys is known of its name
pub knows-at : (tables : List Chains) (name : Name) (i : ℕ) (t : Chains) (q : ℕ) → place_named (named tables) name ≡ Some i → t ≡ get_or tables i t →
    has_key t q ≡ knows (named tables) (slots_of tables) name q
knows-at tables name i t q h e = ap (λ (bs : List (List Slot)). in_chain (get_or bs (bucket_no q) []) q) (sym (slots-named tables name i t h e))

get-set : (tables : List Chains) (i : ℕ) (now : Chains) → i < length tables → now ≡ get_or (set tables i now) i now
get-set [] i now below = absurd (omega arith)
get-set (x ∷ xs) zero now below = refl
get-set (x ∷ xs) (suc i) now below = get-set xs i now (omega arith)

pub knows-set : (tables : List Chains) (name : Name) (i : ℕ) (now : Chains) (q : ℕ) → place_named (named tables) name ≡ Some i → i < length tables →
    named (set tables i now) ≡ named tables → knows (named (set tables i now)) (slots_of (set tables i now)) name q ≡ has_key now q
knows-set tables name i now q h below e = sym (knows-at (set tables i now) name i now q (ap (λ ns. place_named ns name) e ∙ h) (get-set tables i now below))
