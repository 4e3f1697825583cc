-- Taking the words of the opening.
use Rattle.std.proofs.Common.{◌≡◌, ℕ, ◌≤◌, true, false, List, [], ◌∷◌, ◌++◌, codes, length, Some, refl, ap, inl, inr}
use Rattle.std.specs.Fmt.{decimal}
use Rattle.dds_base.specs.Name.{Name}
use Rattle.dds_base.specs.declared.leaf.Leaf.{Leaf as LeafOf}
use Rattle.dds_script.proofs.Unique.{no-met, no-repeat}
use Rattle.dds_script.specs.Fields.{IsBelow, IsListWord, IsNameWord}
use Rattle.dds_script.specs.Grammar.{IsFaultAt, IsOpened, IsUncovered, MovesBy, opening_stands, takes_old}
use Rattle.dds_script.specs.Grammar.MovesBy.{leaf, old}
use Rattle.dds_script.specs.Opening.{meets, opening_leaf, stale_at, stale_leaf}
use Rattle.dds_script.specs.Ranges.{IsGroup}
use Rattle.dds_script.specs.Text.{list_text, name_text}
use Rattle.dds_script.specs.declared.form.Form.TheVariants.{Leaf, Old}
use Rattle.dds_script.specs.declared.place.Place.{Place}
use Rattle.dds_script.specs.declared.place.Place.TheVariants as places
use Rattle.dds_script.specs.declared.reader.Reader.{Reader}
use Rattle.dds_script.specs.declared.script_error.ScriptKind.TheVariants as kinds

pub leaf-moves : (s : Reader) (name_word list_word : List ℕ) (name : Name) (list : List ℕ) (leaves : List LeafOf) (l : LeafOf) → s.place ≡ places.Leaves →
    IsNameWord name_word name → IsListWord s.ranges.bricks list_word list × IsGroup s.ranges.bricks list → meets s.leaves name ≡ false →
    l ≡ opening_leaf (length s.leaves) name list → leaves ≡ s.leaves ++ l ∷ [] →
    MovesBy s (codes "leaf" ∷ name_word ∷ list_word ∷ []) (record s { leaves = leaves })
leaf-moves s name_word list_word name list leaves l place n g m le e =
    let ws : codes "leaf" ∷ name_word ∷ list_word ∷ [] ≡ codes "leaf" ∷ name_text name ∷ list_text list
    ∷ [] = (let a = n.0 in let b = g.0.spelled in cc (a, b)) in
    rw (e, le) (leaf s (codes "leaf" ∷ name_word ∷ list_word ∷ []) name list place ws n.1 g.1 m)

pub old-stands : (p : Place) → takes_old p ≡ true → opening_stands p Old ≡ true
old-stands places.BeforeCluster h = absurd cc
old-stands places.Leaves h = refl
old-stands places.Old h = refl
old-stands places.Body h = absurd cc

-- an opening that may end has no uncovered key
pub opened-covered : (p : Place) (s : Reader) → IsOpened p s → IsUncovered p s → ⊥
opened-covered places.BeforeCluster s o u = o
opened-covered places.Leaves s o u = u o
opened-covered places.Old s o u = u
opened-covered places.Body s o u = u

pub old-moves : (s : Reader) (library_word name_word list_word : List ℕ) (library : ℕ) (name : Name) (list : List ℕ) (stale : List LeafOf) (l : LeafOf) →
    takes_old s.place ≡ true → IsOpened s.place s → IsBelow s.ranges.libraries library_word library → IsNameWord name_word name →
    IsListWord s.ranges.bricks list_word list × IsGroup s.ranges.bricks list → l ≡ stale_leaf library (stale_at library s.stale) name list →
    stale ≡ s.stale ++ l ∷ [] → MovesBy s (codes "old" ∷ library_word ∷ name_word ∷ list_word ∷ []) (record s { place = places.Old; stale = stale })
old-moves s library_word name_word list_word library name list stale l place opened b n g le e =
    let ws : codes "old" ∷ library_word ∷ name_word ∷ list_word ∷ [] ≡ codes "old" ∷ decimal library ∷ name_text name ∷ list_text list
    ∷ [] = (let x = b.spelled in let y = n.0 in let z = g.0.spelled in cc (x, y, z)) in
    rw (e, le) (old s (codes "old" ∷ library_word ∷ name_word ∷ list_word ∷ []) library name list place opened ws b.below n.1 g.1)
