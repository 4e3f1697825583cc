use Rattle.std.proofs.Common.{◌≡◌, ℕ, ◌==◌, Bool, true, false, List, [], refl, sym, ap, ◌∙◌, subst}
use Rattle.std.specs.List.{AllByRecursion}
use Rattle.std.specs.Prelude.{if◌then◌else◌}
use Rattle.dds_history.specs.Map.{Map}
use Rattle.dds_letters.specs.declared.letter.Letter.{Letter}
use Rattle.dds_net.specs.Event.{IsDeaf, IsLiving, Stops, brick_stops, library_stops, stops}
use Rattle.dds_net.specs.Net.{Net, Node, Sizes, a_brick, a_library, changed, nowhere}
use Rattle.dds_states.specs.declared.brick_state.OpenOrder.{OpenOrder}
use Rattle.dds_values.specs.Values.{table}
use Rattle.dds_copies.proofs.Carried.{parts-moved}
use Rattle.dds_copies.proofs.Outside.{points-keep}
use Rattle.dds_copies.specs.Copies.{JoinsCopy, TellsNext}
use Rattle.dds_copies.specs.Outside.{JoinsCopyOn}

-- A node that stops keeps what joins of the others have copied.

deaf-not : (x : Node) → IsDeaf x → IsLiving x → ⊥
deaf-not nowhere h k = absurd k
deaf-not (a_brick s) h k = let no : true ≡ false = sym h ∙ k in cc
deaf-not (a_library s) h k = let no : true ≡ false = sym h ∙ k in cc

other-if : (x y : Node) (c : Bool) → IsDeaf y → IsLiving (if c then y else x) → c ≡ false
other-if x y true h k = absurd (deaf-not y h k)
other-if x y false h k = refl

parts-left : (m : Map) (o : OpenOrder) (source k : ℕ) (z : Sizes) (n : Net) (at : ℕ) (x y : Node) (kept : ℕ → List Letter) → Stops z n at x kept
    → AllByRecursion (TellsNext m o) (n.channel source k) → AllByRecursion (TellsNext m o) ((changed n (stops z n at y kept)).channel source k)
parts-left m o source k z n at nowhere y kept f h = absurd f.live
parts-left m o source k z n at (a_brick s) y kept f h = parts-moved m o source k z [] n (brick_stops at s kept) f (λ b e g. tt) h
parts-left m o source k z n at (a_library s) y kept f h = parts-moved m o source k z [] n (library_stops at s kept) f (λ b e g. tt) h

pub stops-keep : (m : Map) (z : Sizes) (n : Net) (at : ℕ) (x y : Node) (kept : ℕ → List Letter) → Stops z n at x kept → IsDeaf y → JoinsCopy m n
    → JoinsCopy m (changed n (stops z n at y kept))
stops-keep m z n at x y kept f deaf h k s o here live ordered join =
    let ne = other-if (n.node k) y (k == at) deaf (subst IsLiving (sym here) live) in
    let was : n.node k ≡ a_brick s = sym (ap (λ c. if c then y else n.node k) ne) ∙ here in
    let g = h k s o was live ordered join in
    record { copied = g.copied; parts = λ source e. parts-left m o source k z n at x y kept f (g.parts source e) }

pub copies-on : JoinsCopyOn
copies-on =
    record {
      points = points-keep;
      stops = λ made z n at x y kept f deaf h. stops-keep (table made) z n at x y kept f deaf h;
    }
