-- Which of a store's slots lead to a page that was refused.
use Rattle.std.proofs.Common.{ℕ, zero, suc, ◌≡◌, ◌<◌, true, false, cond, List, [], ◌∷◌, length, get_or, set, Some, refl, sym, ap, subst, ◌∙◌, arith}
use Rattle.std.specs.List.{remove}
use Rattle.std.specs.Option.{option_map}
use Rattle.dds_cache.specs.Kept.{Kept}
use Rattle.dds_base.specs.Name.{Name, same_name}
use Rattle.dds_table.specs.Store.{named, slots_of, place_named, without_slots}
use Rattle.dds_chains.specs.Lawful.{Refused, IsTableRefused, WherePage}
use Rattle.dds_table.specs.Lawful.{IsRefused}
use Rattle.dds_chains.specs.declared.fault.TableFault.{TableFault}
use Rattle.dds_chains.specs.declared.fault.TableFault.TheVariants.{Disk, Page, Memory}
use Rattle.dds_chains.specs.declared.table.Slot.{Slot}
use Rattle.dds_chains.specs.declared.table.Chains.{Chains}
use Rattle.dds_chains.proofs.Slots.{later, before, first-not}

slots-at : (tables : List Chains) (i : ℕ) (t : Chains) → i < length tables → t ≡ get_or tables i t → t.buckets.items ≡ get_or (slots_of tables) i []
slots-at [] i t below e = absurd (omega arith)
slots-at (x ∷ xs) zero t below e = ap (λ (u : Chains). u.buckets.items) e
slots-at (x ∷ xs) (suc i) t below e = slots-at xs i t (omega arith) e

-- the slots of the tables without one of a name
pub slots-less : (tables : List Chains) (name : Name) (i : ℕ) → place_named (named tables) name ≡ Some i →
    slots_of (remove tables i) ≡ without_slots (named tables) (slots_of tables) name
slots-less [] name i h = cc
slots-less (x ∷ xs) name zero h = (elim (same_name x.name name) as (λ u. same_name x.name name ≡ u →
    cond u (Some 0) (option_map suc (place_named (named xs) name)) ≡ Some 0 →
    slots_of xs ≡ cond u (slots_of xs) (x.buckets.items ∷ without_slots (named xs) (slots_of xs) name)) [
      | true ↦ λ u h. refl
      | false ↦ λ u h. absurd (later (place_named (named xs) name) h)
    ]) refl h
slots-less (x ∷ xs) name (suc i) h = (elim (same_name x.name name) as (λ u. same_name x.name name ≡ u →
    cond u (Some 0) (option_map suc (place_named (named xs) name)) ≡ Some (suc i) →
    x.buckets.items ∷ slots_of (remove xs i) ≡ cond u (slots_of xs) (x.buckets.items ∷ without_slots (named xs) (slots_of xs) name)) [
      | true ↦ λ u h. absurd (first-not h)
      | false ↦ λ u h. ap (λ (ss : List (List (List Slot))). x.buckets.items ∷ ss) (slots-less xs name i (before (place_named (named xs) name) i h))
    ]) refl h

refused-in : (kept : Kept) (all : List (List (List Slot))) (i : ℕ) (buckets : List (List Slot)) (e : TableFault) → buckets ≡ get_or all i [] →
    IsTableRefused kept buckets e → IsRefused kept all e
refused-in kept all i buckets Disk is h = tt
refused-in kept all i buckets (Page p) is h = (i, h.0, subst (λ (bs : List (List Slot)). Refused kept (get_or bs h.0 []) p) is h.1)
refused-in kept all i buckets Memory is h = tt

pub refused-at : (kept : Kept) (tables : List Chains) (i : ℕ) (t : Chains) (e : TableFault) → i < length tables → t ≡ get_or tables i t →
    IsTableRefused kept t.buckets.items e → IsRefused kept (slots_of tables) e
refused-at kept tables i t e below is h = refused-in kept (slots_of tables) i t.buckets.items e (slots-at tables i t below is) h

-- where a page is refused, the slots stay
slots-same : (tables : List Chains) (i : ℕ) (t : Chains) → i < length tables → t ≡ get_or tables i t → slots_of (set tables i t) ≡ slots_of tables
slots-same [] i t below e = absurd (omega arith)
slots-same (x ∷ xs) zero t below e = ap (λ (u : Chains). u.buckets.items ∷ slots_of xs) e
slots-same (x ∷ xs) (suc i) t below e = ap (λ (ss : List (List (List Slot))). x.buckets.items ∷ ss) (slots-same xs i t (omega arith) e)

pub slots-stay : (tables : List Chains) (i : ℕ) (t now : Chains) (e : TableFault) → i < length tables → t ≡ get_or tables i t → WherePage (now ≡ t) e →
    WherePage (slots_of (set tables i now) ≡ slots_of tables) e
slots-stay tables i t now Disk below is h = tt
slots-stay tables i t now (Page p) below is h = ap (λ (u : Chains). slots_of (set tables i u)) h ∙ slots-same tables i t below is
slots-stay tables i t now Memory below is h = tt

pub refused-stays : (kept : Kept) (old now : List (List (List Slot))) (e : TableFault) → WherePage (now ≡ old) e → IsRefused kept old e → IsRefused kept now e
refused-stays kept old now Disk same h = tt
refused-stays kept old now (Page p) same h = subst (λ (ss : List (List (List Slot))). IsRefused kept ss (Page p)) (sym same) h
refused-stays kept old now Memory same h = tt
