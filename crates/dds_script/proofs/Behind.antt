-- Taking a line behind the opening.
use Rattle.std.proofs.Common.{◌≡◌, ℕ, Bool, true, List, Option, Some, None, ap, sym, ◌∙◌, subst, if◌then◌else◌}
use Rattle.dds_script.specs.Forms.{is_body}
use Rattle.dds_script.specs.Grammar.{IsCoverFaultBy, IsEndFault, IsFaultOf, IsUncovered, is_behind_cluster, may_stand, opening_stands}
use Rattle.dds_script.specs.Lines.{AreRight, RefusesNumber, RefusesValue}
use Rattle.dds_script.specs.Sound.{late}
use Rattle.dds_script.specs.declared.form.Form.{Form}
use Rattle.dds_script.specs.declared.line.Line.{Line}
use Rattle.dds_script.specs.declared.place.Place.{Place}
use Rattle.dds_script.specs.declared.place.Place.TheVariants as places
use Rattle.dds_script.specs.declared.ranges.Ranges.{Ranges}
use Rattle.dds_script.specs.declared.reader.Reader.{Reader}
use Rattle.dds_script.specs.declared.script_error.ScriptKind.{ScriptKind}
use Rattle.dds_script.specs.declared.script_error.ScriptKind.TheVariants as kinds

-- where a line behind the opening may stand
stands : (p : Place) (f : Form) → is_body f ≡ true → may_stand p f ≡ is_behind_cluster p
stands p f h = ap (λ (b : Bool). if b then is_behind_cluster p else opening_stands p f) h

pub stands-at : (s : Reader) (p : Place) (f : Form) → s.place ≡ p → is_body f ≡ true → may_stand s.place f ≡ is_behind_cluster p
stands-at s p f e h = ap (λ (x : Place). may_stand x f) e ∙ stands p f h

-- a wrong word, or the place before the cluster line
pub late-number : (s : Reader) (form : Option Form) (ws : List (List ℕ)) (p : Place) (kind : ScriptKind) → s.place ≡ p → kind ≡ late p kinds.Number →
    RefusesNumber s.ranges form ws → IsFaultOf s form ws kind
late-number s None ws p kind e k h = absurd h
late-number s (Some f) ws places.BeforeCluster kind e k h =
    subst (λ (x : ScriptKind). IsFaultOf s (Some f) ws x) (sym k) (stands-at s places.BeforeCluster f e h.0)
late-number s (Some f) ws places.Leaves kind e k h = subst (λ (x : ScriptKind). IsFaultOf s (Some f) ws x) (sym k) (stands-at s places.Leaves f e h.0, h.1)
late-number s (Some f) ws places.Old kind e k h = subst (λ (x : ScriptKind). IsFaultOf s (Some f) ws x) (sym k) (stands-at s places.Old f e h.0, h.1)
late-number s (Some f) ws places.Body kind e k h = subst (λ (x : ScriptKind). IsFaultOf s (Some f) ws x) (sym k) (stands-at s places.Body f e h.0, h.1)

pub late-value : (s : Reader) (form : Option Form) (ws : List (List ℕ)) (p : Place) (kind : ScriptKind) → s.place ≡ p → kind ≡ late p kinds.Value →
    RefusesValue s.ranges form ws → IsFaultOf s form ws kind
late-value s None ws p kind e k h = absurd h
late-value s (Some f) ws places.BeforeCluster kind e k h =
    subst (λ (x : ScriptKind). IsFaultOf s (Some f) ws x) (sym k) (stands-at s places.BeforeCluster f e h.0)
late-value s (Some f) ws places.Leaves kind e k h = subst (λ (x : ScriptKind). IsFaultOf s (Some f) ws x) (sym k) (stands-at s places.Leaves f e h.0, h.1, h.2)
late-value s (Some f) ws places.Old kind e k h = subst (λ (x : ScriptKind). IsFaultOf s (Some f) ws x) (sym k) (stands-at s places.Old f e h.0, h.1, h.2)
late-value s (Some f) ws places.Body kind e k h = subst (λ (x : ScriptKind). IsFaultOf s (Some f) ws x) (sym k) (stands-at s places.Body f e h.0, h.1, h.2)

-- an opening that may not end before the line
pub gate-fault : (s : Reader) (form : Option Form) (ws : List (List ℕ)) (p : Place) (kind : ScriptKind) → s.place ≡ p → IsEndFault p s kind →
    AreRight s.ranges form ws → IsFaultOf s form ws kind
gate-fault s None ws p kind e g a = absurd a
gate-fault s (Some f) ws places.BeforeCluster kind e g a =
    subst (λ (x : ScriptKind). IsFaultOf s (Some f) ws x) (sym g) (stands-at s places.BeforeCluster f e a.0)
gate-fault s (Some f) ws places.Leaves kind e g a =
    let bare : IsUncovered s.place s = subst (λ (x : Place). IsUncovered x s) (sym e) g.1 in
    let cover : IsCoverFaultBy (is_body f) s f ws = subst (λ (b : Bool). IsCoverFaultBy b s f ws) (sym a.0) bare in
    subst (λ (x : ScriptKind). IsFaultOf s (Some f) ws x) (sym g.0) (stands-at s places.Leaves f e a.0, a.1, a.2, cover)
gate-fault s (Some f) ws places.Old kind e g a = absurd g
gate-fault s (Some f) ws places.Body kind e g a = absurd g
