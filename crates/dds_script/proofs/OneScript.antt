-- Bytes are one script at most, and none where they have a fault.
use Rattle.std.proofs.Common.{◌≡◌, ℕ, List, [], ◌∷◌, ◌++◌, length, Result, Ok, Err, IfOk, IfErr, ap, sym, ◌∙◌, subst, arith, append_assoc, append-nil}
use Rattle.dds_script.proofs.Keeping.{sound-first, sound-takes}
use Rattle.dds_script.proofs.Marks.{cut-one, cut-none}
use Rattle.dds_script.proofs.OneMove.{no-fault, one-next}
use Rattle.dds_script.specs.Grammar.{Accepts, AreTexts, IsEndFault, IsNoScript, IsOpened, IsRefused, IsScriptError, Reads, Takes}
use Rattle.dds_script.specs.Grammar.{first_reader, lines_text, script_of}
use Rattle.dds_script.specs.Grammar.IsRefused.{ended, no_end, refused}
use Rattle.dds_script.specs.Opening.{ScriptOf}
use Rattle.dds_script.specs.Sound.{IsSound}
use Rattle.dds_script.specs.Words.{HasNo}
use Rattle.dds_script.specs.declared.place.Place.{Place}
use Rattle.dds_script.specs.declared.place.Place.TheVariants as places
use Rattle.dds_script.specs.declared.reader.Reader.{Reader}
use Rattle.dds_script.specs.declared.script_error.ScriptError.{ScriptError}
use Rattle.dds_script.specs.declared.script_error.ScriptError.TheVariants.{Fault, Memory}
use Rattle.dds_script.specs.declared.script_error.ScriptKind.{ScriptKind}

nothing : (text more : List ℕ) (mark : ℕ) → text ++ mark ∷ more ≡ [] → ⊥
nothing [] more mark e = absurd cc
nothing (x ∷ text) more mark e = absurd cc

-- the same texts lead to the same state
pub one-reading : (s : Reader) (ts us : List (List ℕ)) (a b : Reader) → IsSound s → AreTexts ts → AreTexts us → lines_text ts ≡ lines_text us → Reads s ts a →
    Reads s us b → a ≡ b
one-reading s [] [] a b h x y e r q = r ∙ sym q
one-reading s [] (u ∷ us) a b h x y e r q = absurd (nothing u (lines_text us) 10 (sym e))
one-reading s (t ∷ ts) [] a b h x y e r q = absurd (nothing t (lines_text ts) 10 e)
one-reading s (t ∷ ts) (u ∷ us) a b h x y e r q =
    let c = cut-one 10 t u (lines_text ts) (lines_text us) x.0 y.0 e in
    let n : r.0 ≡ q.0 = one-next s t r.0 q.0 h.ranges r.1 (subst (λ (w : List ℕ). Takes s w q.0) (sym c.0) q.1) in
    one-reading r.0 ts us a b (sound-takes s t r.0 r.1 h) x.1 y.1 c.1 r.2 (subst (λ (w : Reader). Reads w us b) (sym n) q.2)

opened-end : (p : Place) (s : Reader) (kind : ScriptKind) → IsOpened p s → IsEndFault p s kind → ⊥
opened-end places.BeforeCluster s kind o f = o
opened-end places.Leaves s kind o f = f.1 o
opened-end places.Old s kind o f = f
opened-end places.Body s kind o f = f

-- behind the same texts a script goes on or ends where another reading is refused
refused-here : (s : Reader) (ts : List (List ℕ)) (a : Reader) (rest : List ℕ) (kind : ScriptKind) → IsSound s → AreTexts ts → lines_text ts ≡ rest →
    Reads s ts a → IsOpened a.place a → IsRefused s rest kind → ⊥
refused-here s [] a _ kind h x e r o (ended _ _ f) = opened-end s.place s kind (subst (λ (w : Reader). IsOpened w.place w) r o) f
refused-here s [] a _ kind h x e r o (no_end _ rest some none) = omega (arith, some, ap length e)
refused-here s [] a _ kind h x e r o (refused _ text more _ none f) = nothing text more 10 (sym e)
refused-here s (t ∷ ts) a _ kind h x e r o (ended _ _ f) = nothing t (lines_text ts) 10 e
refused-here s (t ∷ ts) a _ kind h x e r o (no_end _ rest some none) = cut-none 10 t (lines_text ts) (subst (λ (w : List ℕ). HasNo 10 w) (sym e) none)
refused-here s (t ∷ ts) a _ kind h x e r o (refused _ text more _ none f) =
    let c = cut-one 10 t text (lines_text ts) more x.0 none e in
    no-fault s text r.0 kind h.ranges (subst (λ (w : List ℕ). Takes s w r.0) c.0 r.1) f

refused-later : (s : Reader) (ts us : List (List ℕ)) (a b : Reader) (rest : List ℕ) (kind : ScriptKind) → IsSound s → AreTexts ts → AreTexts us →
    lines_text ts ≡ lines_text us ++ rest → Reads s ts a → IsOpened a.place a → Reads s us b → IsRefused b rest kind → ⊥
refused-later s ts [] a b rest kind h x y e r o q f = refused-here s ts a rest kind h x e r o (subst (λ (w : Reader). IsRefused w rest kind) q f)
refused-later s [] (u ∷ us) a b rest kind h x y e r o q f = nothing u (lines_text us ++ rest) 10 (sym (append_assoc u (10 ∷ lines_text us) rest) ∙ sym e)
refused-later s (t ∷ ts) (u ∷ us) a b rest kind h x y e r o q f =
    let c = cut-one 10 t u (lines_text ts) (lines_text us ++ rest) x.0 y.0 (e ∙ append_assoc u (10 ∷ lines_text us) rest) in
    let n : r.0 ≡ q.0 = one-next s t r.0 q.0 h.ranges r.1 (subst (λ (w : List ℕ). Takes s w q.0) (sym c.0) q.1) in
    refused-later r.0 ts us a b rest kind (sound-takes s t r.0 r.1 h) x.1 y.1 c.1 r.2 o (subst (λ (w : Reader). Reads w us b) (sym n) q.2) f

-- bytes with a fault are no script
pub not-both : (bytes : List ℕ) (error : ScriptError) → IsScriptError bytes error → IsNoScript bytes error
not-both bytes (Fault fault) f = λ script a.
    let whole : lines_text a.all.texts ≡ lines_text f.before.texts ++ f.rest = sym (append-nil (lines_text a.all.texts)) ∙ (sym a.all.whole ∙ f.before.whole) in
    refused-later first_reader a.all.texts f.before.texts a.state f.state f.rest fault.kind sound-first a.all.cut f.before.cut whole a.all.reads a.opened
    f.before.reads f.refuses
not-both bytes Memory f = tt

-- bytes are one script
pub one-script : (bytes : List ℕ) (a b : ScriptOf) → Accepts bytes a → Accepts bytes b → a ≡ b
one-script bytes a b x y =
    let whole : lines_text x.all.texts ≡ lines_text y.all.texts = sym (append-nil (lines_text x.all.texts))
    ∙ (sym x.all.whole ∙ (y.all.whole ∙ append-nil (lines_text y.all.texts))) in
    let e = one-reading first_reader x.all.texts y.all.texts x.state y.state sound-first x.all.cut y.all.cut whole x.all.reads y.all.reads in
    x.same ∙ (ap script_of e ∙ sym y.same)

pub err-both : (bytes : List ℕ) (result : Result ScriptOf ScriptError) → IfErr result (λ error. IsScriptError bytes error) →
    IfErr result (λ error. IsNoScript bytes error)
err-both bytes (Ok script) h = tt
err-both bytes (Err error) h = not-both bytes error h

pub ok-one : (bytes : List ℕ) (result : Result ScriptOf ScriptError) → IfOk result (λ script. Accepts bytes script) →
    IfOk result (λ script. (other : ScriptOf) → Accepts bytes other → other ≡ script)
ok-one bytes (Ok script) h = λ other a. one-script bytes other script a h
ok-one bytes (Err error) h = tt
