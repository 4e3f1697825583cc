-- No line is both accepted and at fault.
use Rattle.std.proofs.Common.{◌≡◌, ℕ, ◌<◌, ◌≤◌, inl, inr, Bool, true, false, List, [], ◌∷◌, codes, length, Option, Some, None, refl, ap, subst, arith}
use Rattle.std.proofs.lemmas.Bool.Decides.{nat_tests}
use Rattle.std.specs.Fmt.{decimal}
use Rattle.dds_base.specs.Name.{Name}
use Rattle.dds_script.proofs.Behind.{stands-at}
use Rattle.dds_script.proofs.Spelled.{spelled-right}
use Rattle.dds_script.proofs.Taking.{old-stands, opened-covered}
use Rattle.dds_script.proofs.Unique.{no-met, no-repeat}
use Rattle.dds_script.specs.Fields.{IsListWord, NumbersAre}
use Rattle.dds_script.specs.Forms.{form_of, is_body}
use Rattle.dds_script.specs.Grammar.{IsCoverFaultBy, IsFaultAt, IsFaultOf, IsOpened, IsOpeningFault, MovesBy, may_stand, takes_old}
use Rattle.dds_script.specs.Grammar.MovesBy.{cluster, leaf, old, line}
use Rattle.dds_script.specs.Lines.{AreRight}
use Rattle.dds_script.specs.Ranges.{IsGroup, IsName, IsRanges}
use Rattle.dds_script.specs.Text.{list_text, name_text}
use Rattle.dds_script.specs.declared.form.Form.{Form}
use Rattle.dds_script.specs.declared.form.Form.TheVariants.{Cluster, Leaf, Old}
use Rattle.dds_script.specs.declared.line.Line.{Line}
use Rattle.dds_script.specs.declared.place.Place.{Place}
use Rattle.dds_script.specs.declared.place.Place.TheVariants as places
use Rattle.dds_script.specs.declared.ranges.Ranges.{Ranges}
use Rattle.dds_script.specs.Opening.{meets}
use Rattle.dds_script.specs.declared.reader.Reader.{Reader}
use Rattle.dds_script.specs.declared.script_error.ScriptKind.{ScriptKind}
use Rattle.dds_script.specs.declared.script_error.ScriptKind.TheVariants as kinds

pub true-false : (b : Bool) → b ≡ true → b ≡ false → ⊥
true-false true e f = cc f
true-false false e f = cc e

opened-stands : (s : Reader) (p : Place) (f : Form) → s.place ≡ p → IsOpened p s → is_body f ≡ true → may_stand s.place f ≡ true
opened-stands s places.BeforeCluster f e o h = absurd o
opened-stands s places.Leaves f e o h = stands-at s places.Leaves f e h
opened-stands s places.Old f e o h = stands-at s places.Old f e h
opened-stands s places.Body f e o h = stands-at s places.Body f e h

line-apart : (s : Reader) (form : Option Form) (ws : List (List ℕ)) (kind : ScriptKind) → AreRight s.ranges form ws → IsOpened s.place s →
    IsFaultOf s form ws kind → ⊥
line-apart s None ws kind a o f = a
line-apart s (Some g) ws kinds.NoEnd a o f = f
line-apart s (Some g) ws kinds.Form a o f = f
line-apart s (Some g) ws kinds.Place a o f = true-false _ (opened-stands s s.place g refl o a.0) f
line-apart s (Some g) ws kinds.Number a o f = f.1 a.1
line-apart s (Some g) ws kinds.Value a o f = f.2 a.2
line-apart s (Some g) ws kinds.Cover a o f = opened-covered s.place s o (subst (λ (b : Bool). IsCoverFaultBy b s g ws) a.0 f.3)

cluster-apart : (s : Reader) (r : Ranges) (ws : List (List ℕ)) (kind : ScriptKind) → ws ≡ codes "cluster" ∷ decimal r.bricks ∷ decimal r.libraries
    ∷ decimal r.callers ∷ [] → IsRanges r → s.place ≡ places.BeforeCluster → IsFaultAt s Cluster ws kind → ⊥
cluster-apart s r ws kinds.NoEnd w is e f = f
cluster-apart s r ws kinds.Form w is e f = f
cluster-apart s r ws kinds.Place w is e f = true-false _ (ap (λ (p : Place). may_stand p Cluster) e) f
cluster-apart s r ws kinds.Number w is e f =
    let n : NumbersAre s.ranges Cluster ws =
    rw w (
      (r.bricks, record { spelled = refl; least = is.some_brick; most = is.bricks }),
      (r.libraries, record { spelled = refl; least = is.some_library; most = is.libraries }),
      (r.callers, record { spelled = refl; least = is.some_caller; most = is.callers }),
    ) in
    f.1 n
cluster-apart s r ws kinds.Value w is e f = f.2 tt
cluster-apart s r ws kinds.Cover w is e f = f.3

-- a group is a list
pub group-list : (bricks : ℕ) (word list : List ℕ) → word ≡ list_text list → IsGroup bricks list → IsListWord bricks word list
group-list bricks word list w g =
    let h = g.group in
    record { spelled = w; some = grind (arith, nat_tests, h); most = grind (arith, nat_tests, h); below = g.below }

leaf-apart : (s : Reader) (name : Name) (list : List ℕ) (ws : List (List ℕ)) (kind : ScriptKind) → ws ≡ codes "leaf" ∷ name_text name ∷ list_text list ∷ [] →
    s.ranges.bricks ≤ 64 → IsName name → IsGroup s.ranges.bricks list → meets s.leaves name ≡ false → s.place ≡ places.Leaves → IsFaultAt s Leaf ws kind → ⊥
leaf-apart s name list ws kinds.NoEnd w b n g m e f = f
leaf-apart s name list ws kinds.Form w b n g m e f = f
leaf-apart s name list ws kinds.Place w b n g m e f = true-false _ (ap (λ (p : Place). may_stand p Leaf) e) f
leaf-apart s name list ws kinds.Number w b n g m e f =
    let h : NumbersAre s.ranges Leaf ws = rw w ((name, (refl, n)), (list, group-list s.ranges.bricks (list_text list) list refl g)) in
    f.1 h
leaf-apart s name list ws kinds.Value w b n g m e f = f.2 tt
leaf-apart s name list ws kinds.Cover w b n g m e f =
    let c : IsOpeningFault s Leaf (codes "leaf" ∷ name_text name ∷ list_text list ∷ []) = subst (λ (x : List (List ℕ)). IsOpeningFault s Leaf x) w f.3 in
    elim c [
      | inl again ↦ no-repeat s.ranges.bricks (list_text list) list b (group-list s.ranges.bricks (list_text list) list refl g) g again
      | inr met ↦ no-met s.leaves (name_text name) name (refl, n) m met
    ]

old-apart : (s : Reader) (library : ℕ) (name : Name) (list : List ℕ) (ws : List (List ℕ)) (kind : ScriptKind) →
    ws ≡ codes "old" ∷ decimal library ∷ name_text name ∷ list_text list ∷ [] → s.ranges.bricks ≤ 64 → library < s.ranges.libraries → IsName name →
    IsGroup s.ranges.bricks list → takes_old s.place ≡ true → IsOpened s.place s → IsFaultAt s Old ws kind → ⊥
old-apart s library name list ws kinds.NoEnd w b l n g e o f = f
old-apart s library name list ws kinds.Form w b l n g e o f = f
old-apart s library name list ws kinds.Place w b l n g e o f = true-false _ (old-stands s.place e) f
old-apart s library name list ws kinds.Number w b l n g e o f =
    let h : NumbersAre s.ranges Old ws = rw w (
      (library, record { spelled = refl; below = l }),
      (name, (refl, n)),
      (list, group-list s.ranges.bricks (list_text list) list refl g),
    ) in
    f.1 h
old-apart s library name list ws kinds.Value w b l n g e o f = f.2 tt
old-apart s library name list ws kinds.Cover w b l n g e o f =
    let c : IsOpeningFault s Old (codes "old" ∷ decimal library ∷ name_text name ∷ list_text list ∷ []) =
    subst (λ (x : List (List ℕ)). IsOpeningFault s Old x) w f.3 in
    elim c [
      | inl bare ↦ opened-covered s.place s o bare
      | inr again ↦ no-repeat s.ranges.bricks (list_text list) list b (group-list s.ranges.bricks (list_text list) list refl g) g again
    ]

pub not-empty : (ws : List (List ℕ)) → 0 < length ws → ws ≡ [] → ⊥
not-empty [] h e = omega (arith, h)
not-empty (w ∷ ws) h e = cc e

pub words-apart : (s : Reader) (ws : List (List ℕ)) (next : Reader) (kind : ScriptKind) → IsRanges s.ranges → 0 < length ws → MovesBy s ws next →
    IsFaultOf s (form_of ws) ws kind → ⊥
words-apart _ _ _ kind is some (line s ws l opened spelled) f =
    line-apart s (form_of ws) ws kind (spelled-right s.ranges ws l is (not-empty ws some) spelled) opened f
words-apart _ _ _ kind is some (cluster s ws r place spelled ranges) f =
    let form : form_of ws ≡ Some Cluster = ap form_of spelled in
    cluster-apart s r ws kind spelled ranges place (subst (λ (x : Option Form). IsFaultOf s x ws kind) form f)
words-apart _ _ _ kind is some (leaf s ws name list place spelled named group apart) f =
    let form : form_of ws ≡ Some Leaf = ap form_of spelled in
    leaf-apart s name list ws kind spelled is.bricks named group apart place (subst (λ (x : Option Form). IsFaultOf s x ws kind) form f)
words-apart _ _ _ kind is some (old s ws library name list place opened spelled below named group) f =
    let form : form_of ws ≡ Some Old = ap form_of spelled in
    old-apart s library name list ws kind spelled is.bricks below named group place opened (subst (λ (x : Option Form). IsFaultOf s x ws kind) form f)
