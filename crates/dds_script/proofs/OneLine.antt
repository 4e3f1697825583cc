-- Words are one line at most.
use Rattle.std.proofs.Common.{◌≡◌, ℕ, ◌^◌, ◌<◌, ◌≤◌, List, [], Option, Some, None, refl, ap, sym, ◌∙◌, subst, arith}
use Rattle.std.specs.Fmt.{decimal}
use Rattle.dds_base.specs.Name.{Name}
use Rattle.dds_base.specs.declared.op.Op.TheVariants as op
use Rattle.dds_script.proofs.SameLine.{same-decimal, same-node, same-value}
use Rattle.dds_script.proofs.Spelled.{apart-word}
use Rattle.dds_script.proofs.Unique.{same-name}
use Rattle.dds_script.specs.Fields.{IsBelow, IsBrickWord, IsLineOf, IsNameWord, IsNodeWord, IsWithin, line_words}
use Rattle.dds_script.specs.Forms.{form_of}
use Rattle.dds_script.specs.Ranges.{IsInRanges, IsRanges}
use Rattle.dds_script.specs.Reading.{IsNumber, IsValueWord}
use Rattle.dds_script.specs.Text.{brick_text}
use Rattle.dds_script.specs.Words.{word}
use Rattle.dds_script.specs.declared.form.Form.{Form}
use Rattle.dds_script.specs.declared.form.Form.TheVariants.{Blank, Cluster, Leaf, Old, Get, Put, Remove, Swap, Stop, Join, Split, Fifo}
use Rattle.dds_script.specs.declared.form.Form.TheVariants.{Newest, Seed, Events, Quiet, Post, Take, Show}
use Rattle.dds_script.specs.declared.line.Line.{Line}
use Rattle.dds_script.specs.declared.line.Line.TheVariants as line
use Rattle.dds_script.specs.declared.line.Picker.TheVariants as picker
use Rattle.dds_script.specs.declared.ranges.Ranges.{Ranges}

-- the line has the form, and its words are what it names
abbrev IsOf : Ranges → Form → List (List ℕ) → Line → Type 0
IsOf r Blank ws l = ⊥
IsOf r Cluster ws l = ⊥
IsOf r Leaf ws l = ⊥
IsOf r Old ws l = ⊥
IsOf r Get ws l = (caller : ℕ) × (key : ℕ) × (l ≡ line.Call caller (op.Get key)) × IsBelow r.callers (word ws 0) caller × IsNumber (word ws 2) key
IsOf r Put ws l = (caller : ℕ) × (key : ℕ) × (value : List ℕ) × (l ≡ line.Call caller (op.Put key value)) × IsBelow r.callers (word ws 0) caller
    × IsNumber (word ws 2) key × IsValueWord (word ws 3) value
IsOf r Remove ws l = (caller : ℕ) × (key : ℕ) × (l ≡ line.Call caller (op.Remove key)) × IsBelow r.callers (word ws 0) caller × IsNumber (word ws 2) key
IsOf r Swap ws l = (caller : ℕ) × (key : ℕ) × (expected : List ℕ) × (value : List ℕ) × (l ≡ line.Call caller (op.Swap key expected value))
    × IsBelow r.callers (word ws 0) caller × IsNumber (word ws 2) key × IsValueWord (word ws 3) expected × IsValueWord (word ws 4) value
IsOf r Stop ws l = (node : ℕ) × (l ≡ line.Stop node) × IsNodeWord r (word ws 1) node
IsOf r Join ws l = (brick : ℕ) × (name : Name) × (via : ℕ) × (l ≡ line.Join brick name via) × IsBrickWord r.bricks (word ws 1) brick
    × IsNameWord (word ws 2) name × IsBrickWord r.bricks (word ws 3) via
IsOf r Split ws l = (brick : ℕ) × (name : Name) × (l ≡ line.Split brick name) × IsBrickWord r.bricks (word ws 1) brick × IsNameWord (word ws 2) name
IsOf r Fifo ws l = l ≡ line.Pick picker.Fifo
IsOf r Newest ws l = l ≡ line.Pick picker.Newest
IsOf r Seed ws l = (seed : ℕ) × (l ≡ line.Pick (picker.Seed seed)) × IsNumber (word ws 2) seed
IsOf r Events ws l = (count : ℕ) × (l ≡ line.Events count) × IsWithin 0 1000000 (word ws 1) count
IsOf r Quiet ws l = l ≡ line.Quiet
IsOf r Post ws l = (node : ℕ) × (l ≡ line.Post node) × IsNodeWord r (word ws 1) node
IsOf r Take ws l = (node : ℕ) × (from : ℕ) × (l ≡ line.Take node from) × IsNodeWord r (word ws 1) node × IsNodeWord r (word ws 2) from
IsOf r Show ws l = (brick : ℕ) × (l ≡ line.Show brick) × IsBrickWord r.bricks (word ws 1) brick

abbrev IsOfSome : Ranges → Option Form → List (List ℕ) → Line → Type 0
IsOfSome r None ws l = ⊥
IsOfSome r (Some f) ws l = IsOf r f ws l

of-line : (r : Ranges) (l : Line) → IsRanges r → IsInRanges r l → (l ≡ line.Nothing → ⊥) → IsOfSome r (form_of (line_words l)) (line_words l) l
of-line r (line.Call caller (op.Get key)) is h n =
    let small : caller < 2 ^ 64 = omega (arith, h.0, is.callers) in
    rw (
      apart-word caller 108 _ small (omega arith),
      apart-word caller 115 _ small (omega arith),
      apart-word caller 116 _ small (omega arith),
      apart-word caller 112 _ small (omega arith),
    ) (caller, key, refl, record { spelled = refl; below = h.0 }, (refl, h.1))
of-line r (line.Call caller (op.Remove key)) is h n =
    let small : caller < 2 ^ 64 = omega (arith, h.0, is.callers) in
    rw (
      apart-word caller 108 _ small (omega arith),
      apart-word caller 115 _ small (omega arith),
      apart-word caller 116 _ small (omega arith),
      apart-word caller 112 _ small (omega arith),
    ) (caller, key, refl, record { spelled = refl; below = h.0 }, (refl, h.1))
of-line r (line.Call caller (op.Put key value)) is h n =
    let small : caller < 2 ^ 64 = omega (arith, h.0, is.callers) in
    rw (apart-word caller 99 _ small (omega arith), apart-word caller 111 _ small (omega arith), apart-word caller 106 _ small (omega arith)) (
      caller,
      key,
      value,
      refl,
      record { spelled = refl; below = h.0 },
      (refl, h.1.0),
      (refl, h.1.1),
    )
of-line r (line.Call caller (op.Swap key expected value)) is h n =
    (caller, key, expected, value, refl, record { spelled = refl; below = h.0 }, (refl, h.1.0), (refl, h.1.1), (refl, h.1.2))
of-line r (line.Stop node) is h n = (node, refl, (refl, h))
of-line r (line.Join brick name via) is h n = (brick, name, via, refl, (refl, h.0), (refl, h.1), (refl, h.2))
of-line r (line.Split brick name) is h n = (brick, name, refl, (refl, h.0), (refl, h.1))
of-line r (line.Pick picker.Fifo) is h n = refl
of-line r (line.Pick picker.Newest) is h n = refl
of-line r (line.Pick (picker.Seed seed)) is h n = (seed, refl, (refl, h))
of-line r (line.Events count) is h n = (count, refl, record { spelled = refl; least = omega arith; most = h })
of-line r line.Quiet is h n = refl
of-line r (line.Post node) is h n = (node, refl, (refl, h))
of-line r (line.Take node from) is h n = (node, from, refl, (refl, h.0), (refl, h.1))
of-line r (line.Show brick) is h n = (brick, refl, (refl, h))
of-line r line.Nothing is h n = absurd (n refl)

same-number : (w : List ℕ) (a b : ℕ) → IsNumber w a → IsNumber w b → a ≡ b
same-number w a b x y = same-decimal a b x.1 y.1 (sym x.0 ∙ y.0)

same-below : (limit : ℕ) (w : List ℕ) (a b : ℕ) → limit ≤ 64 → IsBelow limit w a → IsBelow limit w b → a ≡ b
same-below limit w a b m x y = same-decimal a b (omega (arith, m, x.below)) (omega (arith, m, y.below)) (sym x.spelled ∙ y.spelled)

same-brick : (bricks : ℕ) (w : List ℕ) (a b : ℕ) → bricks ≤ 64 → IsBrickWord bricks w a → IsBrickWord bricks w b → a ≡ b
same-brick bricks w a b m x y =
    let e : brick_text a ≡ brick_text b = sym x.0 ∙ y.0 in
    let t : decimal a ≡ decimal b = cc in
    same-decimal a b (omega (arith, m, x.1)) (omega (arith, m, y.1)) t

same-of : (r : Ranges) (f : Form) (ws : List (List ℕ)) (a b : Line) → IsRanges r → IsOf r f ws a → IsOf r f ws b → a ≡ b
same-of r Blank ws a b is x y = absurd x
same-of r Cluster ws a b is x y = absurd x
same-of r Leaf ws a b is x y = absurd x
same-of r Old ws a b is x y = absurd x
same-of r Get ws a b is x y =
    let p = same-below r.callers (word ws 0) x.0 y.0 is.callers x.3 y.3 in
    let q = same-number (word ws 2) x.1 y.1 x.4 y.4 in
    x.2 ∙ (ap (λ (n : ℕ). line.Call n (op.Get x.1)) p ∙ (ap (λ (n : ℕ). line.Call y.0 (op.Get n)) q ∙ sym y.2))
same-of r Remove ws a b is x y =
    let p = same-below r.callers (word ws 0) x.0 y.0 is.callers x.3 y.3 in
    let q = same-number (word ws 2) x.1 y.1 x.4 y.4 in
    x.2 ∙ (ap (λ (n : ℕ). line.Call n (op.Remove x.1)) p ∙ (ap (λ (n : ℕ). line.Call y.0 (op.Remove n)) q ∙ sym y.2))
same-of r Put ws a b is x y =
    let p = same-below r.callers (word ws 0) x.0 y.0 is.callers x.4 y.4 in
    let q = same-number (word ws 2) x.1 y.1 x.5 y.5 in
    let v = same-value x.2 y.2 x.6.1 y.6.1 (sym x.6.0 ∙ y.6.0) in
    x.3 ∙ (ap (λ (n : ℕ). line.Call n (op.Put x.1 x.2)) p
    ∙ (ap (λ (n : ℕ). line.Call y.0 (op.Put n x.2)) q ∙ (ap (λ (n : List ℕ). line.Call y.0 (op.Put y.1 n)) v ∙ sym y.3)))
same-of r Swap ws a b is x y =
    let p = same-below r.callers (word ws 0) x.0 y.0 is.callers x.5 y.5 in
    let q = same-number (word ws 2) x.1 y.1 x.6 y.6 in
    let u = same-value x.2 y.2 x.7.1 y.7.1 (sym x.7.0 ∙ y.7.0) in
    let v = same-value x.3 y.3 x.8.1 y.8.1 (sym x.8.0 ∙ y.8.0) in
    x.4 ∙ (ap (λ (n : ℕ). line.Call n (op.Swap x.1 x.2 x.3)) p
    ∙ (ap (λ (n : ℕ). line.Call y.0 (op.Swap n x.2 x.3)) q
    ∙ (ap (λ (n : List ℕ). line.Call y.0 (op.Swap y.1 n x.3)) u ∙ (ap (λ (n : List ℕ). line.Call y.0 (op.Swap y.1 y.2 n)) v ∙ sym y.4))))
same-of r Stop ws a b is x y = x.1 ∙ (ap line.Stop (same-node r x.0 y.0 is x.2.1 y.2.1 (sym x.2.0 ∙ y.2.0)) ∙ sym y.1)
same-of r Join ws a b is x y =
    let p = same-brick r.bricks (word ws 1) x.0 y.0 is.bricks x.4 y.4 in
    let n = same-name (word ws 2) x.1 y.1 x.5 y.5 in
    let v = same-brick r.bricks (word ws 3) x.2 y.2 is.bricks x.6 y.6 in
    x.3 ∙ (ap (λ (m : ℕ). line.Join m x.1 x.2) p ∙ (ap (λ (m : Name). line.Join y.0 m x.2) n ∙ (ap (λ (m : ℕ). line.Join y.0 y.1 m) v ∙ sym y.3)))
same-of r Split ws a b is x y =
    let p = same-brick r.bricks (word ws 1) x.0 y.0 is.bricks x.3 y.3 in
    let n = same-name (word ws 2) x.1 y.1 x.4 y.4 in
    x.2 ∙ (ap (λ (m : ℕ). line.Split m x.1) p ∙ (ap (λ (m : Name). line.Split y.0 m) n ∙ sym y.2))
same-of r Fifo ws a b is x y = x ∙ sym y
same-of r Newest ws a b is x y = x ∙ sym y
same-of r Seed ws a b is x y = x.1 ∙ (ap (λ (n : ℕ). line.Pick (picker.Seed n)) (same-number (word ws 2) x.0 y.0 x.2 y.2) ∙ sym y.1)
same-of r Events ws a b is x y =
    let q = same-decimal x.0 y.0 (omega (arith, x.2.most)) (omega (arith, y.2.most)) (sym x.2.spelled ∙ y.2.spelled) in
    x.1 ∙ (ap line.Events q ∙ sym y.1)
same-of r Quiet ws a b is x y = x ∙ sym y
same-of r Post ws a b is x y = x.1 ∙ (ap line.Post (same-node r x.0 y.0 is x.2.1 y.2.1 (sym x.2.0 ∙ y.2.0)) ∙ sym y.1)
same-of r Take ws a b is x y =
    let p = same-node r x.0 y.0 is x.3.1 y.3.1 (sym x.3.0 ∙ y.3.0) in
    let q = same-node r x.1 y.1 is x.4.1 y.4.1 (sym x.4.0 ∙ y.4.0) in
    x.2 ∙ (ap (λ (m : ℕ). line.Take m x.1) p ∙ (ap (λ (m : ℕ). line.Take y.0 m) q ∙ sym y.2))
same-of r Show ws a b is x y = x.1 ∙ (ap line.Show (same-brick r.bricks (word ws 1) x.0 y.0 is.bricks x.2 y.2) ∙ sym y.1)

same-some : (r : Ranges) (form : Option Form) (ws : List (List ℕ)) (a b : Line) → IsRanges r → IsOfSome r form ws a → IsOfSome r form ws b → a ≡ b
same-some r None ws a b is x y = absurd x
same-some r (Some f) ws a b is x y = same-of r f ws a b is x y

of-words : (r : Ranges) (ws : List (List ℕ)) (l : Line) → IsRanges r → (ws ≡ [] → ⊥) → IsLineOf r ws l → IsOfSome r (form_of ws) ws l
of-words r ws l is some h =
    subst (λ (w : List (List ℕ)). IsOfSome r (form_of w) w l) (sym h.0) (of-line r l is h.1 (λ e. some (h.0 ∙ ap line_words e)))

pub one-line : (r : Ranges) (ws : List (List ℕ)) (a b : Line) → IsRanges r → (ws ≡ [] → ⊥) → IsLineOf r ws a → IsLineOf r ws b → a ≡ b
one-line r ws a b is some x y = same-some r (form_of ws) ws a b is (of-words r ws a is some x) (of-words r ws b is some y)
