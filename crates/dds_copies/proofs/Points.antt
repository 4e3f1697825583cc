use Rattle.std.proofs.Common.{◌≡◌, ℕ, ◌==◌, ◌++◌, Bool, true, false, Option, None, refl, sym, ap, ◌∙◌, subst}
use Rattle.std.proofs.lemmas.Bool.{both_ways}
use Rattle.std.specs.FinMap.{get}
use Rattle.std.specs.Prelude.{if◌then◌else◌}
use Rattle.dds_base.specs.Name.{Name, covers}
use Rattle.dds_base.specs.Op.{the_key}
use Rattle.dds_base.specs.declared.op.Op.{Op}
use Rattle.dds_history.proofs.Bindings.{get-after}
use Rattle.dds_history.specs.Map.{Map, after, bound_after}
use Rattle.dds_letters.specs.declared.letter.Letter.{Letter}
use Rattle.dds_letters.specs.declared.letter.Letter.TheVariants as letter
use Rattle.dds_order_rows.specs.Orders.{pairs_after}
use Rattle.dds_pairs.proofs.Bindings.{same-key}
use Rattle.dds_states.specs.declared.brick_state.OpenOrder.{OpenOrder}
use Rattle.dds_states.specs.declared.brick_state.OrderPhase.{OrderPhase}
use Rattle.dds_states.specs.declared.brick_state.OrderPhase.TheVariants.{Copying, Installing, Leasing}
use Rattle.dds_world.specs.Values.{AreCopied}
use Rattle.dds_copies.proofs.Tables.{same-under}
use Rattle.dds_copies.specs.Copies.{IsNextPart, TellsNext}

-- A point that doesn't come under a join's name leaves what the join copies.

outside-if : (m : Map) (op : Op) (name : Name) (key : ℕ) (c : Bool) → (the_key op == key) ≡ c → covers name (the_key op) ≡ false → covers name key ≡ true
    → (if c then bound_after (get m key) op else get m key) ≡ get m key
outside-if m op name key true e out over =
    absurd (both_ways (covers name key) (subst (λ k. covers name k ≡ false) (same-key (the_key op) key e) out) over)
outside-if m op name key false e out over = refl

pub same-outside : (m : Map) (op : Op) (name : Name) (from : Option ℕ) → covers name (the_key op) ≡ false
    → pairs_after (after m op) name from ≡ pairs_after m name from
same-outside m op name from out =
    same-under (after m op) m name from
    (λ key over. get-after m op key ∙ outside-if m op name key (the_key op == key) refl out over)

pub still-copied : (m n : Map) (o : OpenOrder) (phase : OrderPhase) → ((from : Option ℕ) → pairs_after n o.name from ≡ pairs_after m o.name from)
    → AreCopied m o phase → AreCopied n o phase
still-copied m n o Leasing f h = tt
still-copied m n o (Copying source) f h = ap (λ l. o.copied ++ l) (f _) ∙ h ∙ sym (f None)
still-copied m n o (Installing made) f h = h ∙ sym (f None)

pub still-told : (m n : Map) (o : OpenOrder) (l : Letter) → ((from : Option ℕ) → pairs_after n o.name from ≡ pairs_after m o.name from)
    → TellsNext m o l → TellsNext n o l
still-told m n o (letter.CopyPart number last pairs) f h =
    λ e. subst (λ rest. IsNextPart rest last pairs) (sym (f _)) (h e)
still-told m n o other f h = tt
