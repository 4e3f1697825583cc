-- A text leads to one state at most, and has no fault where it leads to one.
use Rattle.std.proofs.Common.{◌≡◌, ℕ, ◌≤◌, ◌++◌, inl, inr, Bool, true, false, not, List, [], ◌∷◌, codes, Option, Some, None, refl, ap, sym}
use Rattle.std.proofs.Common.{◌∙◌, subst, arith, if◌then◌else◌}
use Rattle.std.specs.Fmt.{decimal}
use Rattle.dds_base.specs.Name.{Name}
use Rattle.dds_script.proofs.Apart.{group-list, not-empty, true-false, words-apart}
use Rattle.dds_script.proofs.OneLine.{one-line}
use Rattle.dds_script.proofs.Parting.{words-some}
use Rattle.dds_script.proofs.SameLine.{same-decimal}
use Rattle.dds_script.proofs.Spelled.{spelled-right}
use Rattle.dds_script.proofs.Unique.{same-list, same-name}
use Rattle.dds_script.specs.Fields.{IsLineOf}
use Rattle.dds_script.specs.Forms.{form_of, is_body}
use Rattle.dds_script.specs.Grammar.{IsFaultAt, IsFaultOf, MovesBy, Takes, opening_stands}
use Rattle.dds_script.specs.Grammar.MovesBy.{cluster, leaf, old, line}
use Rattle.dds_script.specs.Lines.{AreRight, HasWords, IsBlank, text_form}
use Rattle.dds_script.specs.Ranges.{IsGroup, IsName, IsRanges}
use Rattle.dds_script.specs.Text.{list_text, name_text}
use Rattle.dds_script.specs.Words.{is_blank, word, words}
use Rattle.dds_script.specs.declared.form.Form.{Form}
use Rattle.dds_script.specs.declared.form.Form.TheVariants.{Blank, Cluster, Leaf, Old}
use Rattle.dds_script.specs.declared.line.Line.{Line}
use Rattle.dds_script.specs.declared.place.Place.{Place}
use Rattle.dds_script.specs.declared.place.Place.TheVariants as places
use Rattle.dds_script.specs.declared.ranges.Ranges.{Ranges}
use Rattle.dds_script.specs.declared.reader.Reader.{Reader}
use Rattle.dds_script.specs.declared.script_error.ScriptKind.{ScriptKind}
use Rattle.dds_script.specs.declared.script_error.ScriptKind.TheVariants as kinds

some-form : (a b : Form) → Some a ≡ Some b → a ≡ b
some-form a b e = cc

-- a line of the opening is no line behind it
not-body : (r : Ranges) (ws : List (List ℕ)) (l : Line) (f : Form) → IsRanges r → (ws ≡ [] → ⊥) → IsLineOf r ws l → form_of ws ≡ Some f → is_body f ≡ false → ⊥
not-body r ws l f is some h e b =
    let a : AreRight r (Some f) ws = subst (λ (x : Option Form). AreRight r x ws) e (spelled-right r ws l is some h) in
    true-false (is_body f) a.0 b

same-ranges : (a b : Ranges) (ws : List (List ℕ)) → IsRanges a → IsRanges b → ws ≡ codes "cluster" ∷ decimal a.bricks ∷ decimal a.libraries
    ∷ decimal a.callers ∷ [] → ws ≡ codes "cluster" ∷ decimal b.bricks ∷ decimal b.libraries ∷ decimal b.callers ∷ [] → a ≡ b
same-ranges a b ws x y e f =
    let g = sym e ∙ f in
    let p : a.bricks ≡ b.bricks = same-decimal a.bricks b.bricks (omega (arith, x.bricks)) (omega (arith, y.bricks)) (ap (λ (w : List (List ℕ)). word w 1) g) in
    let q : a.libraries ≡ b.libraries = same-decimal a.libraries b.libraries (omega (arith, x.libraries)) (omega (arith, y.libraries))
    (ap (λ (w : List (List ℕ)). word w 2) g) in
    let s : a.callers ≡ b.callers = same-decimal a.callers b.callers (omega (arith, x.callers)) (omega (arith, y.callers))
    (ap (λ (w : List (List ℕ)). word w 3) g) in
    ap (λ (n : ℕ). record { bricks = n; libraries = a.libraries; callers = a.callers }) p
    ∙ (ap (λ (n : ℕ). record { bricks = b.bricks; libraries = n; callers = a.callers }) q
    ∙ ap (λ (n : ℕ). record { bricks = b.bricks; libraries = b.libraries; callers = n }) s)

texts-name : (a b : Name) → IsName a → IsName b → name_text a ≡ name_text b → a ≡ b
texts-name a b x y e = same-name (name_text b) a b (sym e, x) (refl, y)

texts-list : (bricks : ℕ) (a b : List ℕ) → bricks ≤ 64 → IsGroup bricks a → IsGroup bricks b → list_text a ≡ list_text b → a ≡ b
texts-list bricks a b m x y e = same-list bricks (list_text b) a b (omega (arith, m)) (group-list bricks (list_text b) a (sym e) x)
    (group-list bricks (list_text b) b refl y)

pub one-move : (s : Reader) (ws : List (List ℕ)) (a b : Reader) → IsRanges s.ranges → (ws ≡ [] → ⊥) → MovesBy s ws a → MovesBy s ws b → a ≡ b
one-move _ _ _ _ is some (cluster s ws r p e i) (cluster _ _ q p' e' i') =
    ap (λ (x : Ranges). record s { place = places.Leaves; ranges = x }) (same-ranges r q ws i i' e e')
one-move _ _ _ _ is some (cluster s ws r p e i) (leaf _ _ name list p' e' n g m) = absurd (let x = some-form Cluster Leaf (ap form_of (sym e ∙ e')) in cc x)
one-move _ _ _ _ is some (cluster s ws r p e i) (old _ _ library name list p' o e' l n g) =
    absurd (let x = some-form Cluster Old (ap form_of (sym e ∙ e')) in cc x)
one-move _ _ _ _ is some (cluster s ws r p e i) (line _ _ l o h) = absurd (not-body s.ranges ws l Cluster is some h (ap form_of e) refl)
one-move _ _ _ _ is some (leaf s ws name list p e n g m) (cluster _ _ r p' e' i) = absurd (let x = some-form Leaf Cluster (ap form_of (sym e ∙ e')) in cc x)
one-move _ _ _ _ is some (leaf s ws name list p e n g m) (leaf _ _ name' list' p' e' n' g' m') =
    let x = texts-name name name' n n' (ap (λ (w : List (List ℕ)). word w 1) (sym e ∙ e')) in
    let y = texts-list s.ranges.bricks list list' is.bricks g g' (ap (λ (w : List (List ℕ)). word w 2) (sym e ∙ e')) in
    rw (x, y) refl
one-move _ _ _ _ is some (leaf s ws name list p e n g m) (old _ _ library name' list' p' o e' l n' g') =
    absurd (let x = some-form Leaf Old (ap form_of (sym e ∙ e')) in cc x)
one-move _ _ _ _ is some (leaf s ws name list p e n g m) (line _ _ l o h) = absurd (not-body s.ranges ws l Leaf is some h (ap form_of e) refl)
one-move _ _ _ _ is some (old s ws library name list p o e l n g) (cluster _ _ r p' e' i) =
    absurd (let x = some-form Old Cluster (ap form_of (sym e ∙ e')) in cc x)
one-move _ _ _ _ is some (old s ws library name list p o e l n g) (leaf _ _ name' list' p' e' n' g' m) =
    absurd (let x = some-form Old Leaf (ap form_of (sym e ∙ e')) in cc x)
one-move _ _ _ _ is some (old s ws library name list p o e l n g) (old _ _ library' name' list' p' o' e' l' n' g') =
    let z = same-decimal library library' (omega (arith, l, is.libraries)) (omega (arith, l', is.libraries))
    (ap (λ (w : List (List ℕ)). word w 1) (sym e ∙ e')) in
    let x = texts-name name name' n n' (ap (λ (w : List (List ℕ)). word w 2) (sym e ∙ e')) in
    let y = texts-list s.ranges.bricks list list' is.bricks g g' (ap (λ (w : List (List ℕ)). word w 3) (sym e ∙ e')) in
    rw (z, x, y) refl
one-move _ _ _ _ is some (old s ws library name list p o e l n g) (line _ _ a o' h) = absurd (not-body s.ranges ws a Old is some h (ap form_of e) refl)
one-move _ _ _ _ is some (line s ws a o h) (cluster _ _ r p e i) = absurd (not-body s.ranges ws a Cluster is some h (ap form_of e) refl)
one-move _ _ _ _ is some (line s ws a o h) (leaf _ _ name list p e n g m) = absurd (not-body s.ranges ws a Leaf is some h (ap form_of e) refl)
one-move _ _ _ _ is some (line s ws a o h) (old _ _ library name list p o' e l n g) = absurd (not-body s.ranges ws a Old is some h (ap form_of e) refl)
one-move _ _ _ _ is some (line s ws a o h) (line _ _ b o' k) =
    ap (λ (x : Line). record s { place = places.Body; lines = s.lines ++ x ∷ [] }) (one-line s.ranges ws a b is some h k)

words-there : (text : List ℕ) → words text ≡ [] → ⊥
words-there text e = not-empty (words text) (words-some text) e

blank-words : (text : List ℕ) → IsBlank text → HasWords text → ⊥
blank-words text b w = true-false (is_blank text) b.1 w.1

-- a text leads to one state
pub one-next : (s : Reader) (text : List ℕ) (a b : Reader) → IsRanges s.ranges → Takes s text a → Takes s text b → a ≡ b
one-next s text a b is x y = elim x [
  | inl p ↦ elim y [ inl q ↦ p.1 ∙ sym q.1 | inr q ↦ absurd (blank-words text p.0 q.0) ]
  | inr p ↦ elim y [ inl q ↦ absurd (blank-words text q.0 p.0) | inr q ↦ one-move s (words text) a b is (words-there text) p.1 q.1 ]
]

form-words : (text : List ℕ) → HasWords text → text_form text ≡ form_of (words text)
form-words text w =
    ap (λ (b : Bool). if not b then None else if is_blank text then Some Blank else form_of (words text)) w.0
    ∙ ap (λ (b : Bool). if b then Some Blank else form_of (words text)) w.1

form-blank : (text : List ℕ) → IsBlank text → text_form text ≡ Some Blank
form-blank text w =
    ap (λ (b : Bool). if not b then None else if is_blank text then Some Blank else form_of (words text)) w.0
    ∙ ap (λ (b : Bool). if b then Some Blank else form_of (words text)) w.1

blank-stands : (p : Place) → opening_stands p Blank ≡ true
blank-stands places.BeforeCluster = refl
blank-stands places.Leaves = refl
blank-stands places.Old = refl
blank-stands places.Body = refl

blank-apart : (s : Reader) (ws : List (List ℕ)) (kind : ScriptKind) → IsFaultAt s Blank ws kind → ⊥
blank-apart s ws kinds.NoEnd f = f
blank-apart s ws kinds.Form f = f
blank-apart s ws kinds.Place f = true-false _ (blank-stands s.place) f
blank-apart s ws kinds.Number f = f.1 tt
blank-apart s ws kinds.Value f = f.2 tt
blank-apart s ws kinds.Cover f = f.3

-- a text that leads to a state has no fault
pub no-fault : (s : Reader) (text : List ℕ) (next : Reader) (kind : ScriptKind) → IsRanges s.ranges → Takes s text next →
    IsFaultOf s (text_form text) (words text) kind → ⊥
no-fault s text next kind is t f = elim t [
  | inl b ↦ blank-apart s (words text) kind (subst (λ (x : Option Form). IsFaultOf s x (words text) kind) (form-blank text b.0) f)
  | inr w ↦ words-apart s (words text) next kind is (words-some text) w.1 (subst (λ (x : Option Form). IsFaultOf s x (words text) kind) (form-words text w.0) f)
]
