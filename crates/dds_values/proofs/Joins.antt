use Rattle.std.proofs.Common.{◌≡◌, ◌==◌, ℕ, true, false, cond, Some, List, [], ◌∷◌, refl, sym, ap, ◌∙◌, subst}
use Rattle.std.proofs.lemmas.Bool.{both_ways, eqb-true}
use Rattle.std.specs.FinMap.{get, insert}
use Rattle.std.specs.List.{AllByRecursion}
use Rattle.dds_base.specs.Name.{Name, covers}
use Rattle.dds_base.specs.declared.pair.Pair.{Pair}
use Rattle.dds_brick_rows.specs.Refusal.{is_join}
use Rattle.dds_cluster.specs.declared.trace.Made.{Made}
use Rattle.dds_history.proofs.Bindings.{get-bound}
use Rattle.dds_history.specs.Map.{Map}
use Rattle.dds_law_own.proofs.Changes.{own}
use Rattle.dds_order_rows.specs.OwnOrder.{bound}
use Rattle.dds_orders.proofs.Covered.{false-of}
use Rattle.dds_pairs.proofs.Apart.{covered-apart}
use Rattle.dds_states.specs.declared.brick_state.BrickState.{BrickState}
use Rattle.dds_states.specs.declared.brick_state.OpenOrder.{OpenOrder}
use Rattle.dds_values.proofs.Splits.{IsPlaced}
use Rattle.dds_values.specs.Below.{ComesHeld, IsAs, LeavesKeepHeld}

-- At the end of its own join a brick binds the pairs that it copied, which lie under the join's name: what its leaves covered before stays.

bound-out : (name : Name) (ps : List Pair) (m : Map) (key : ℕ) → AllByRecursion (λ (x : Pair). covers name x.key ≡ true) ps → covers name key ≡ false
    → get (bound m ps) key ≡ get m key
bound-out name [] m key h out = refl
bound-out name (p ∷ ps) m key h out =
    let other : (p.key == key) ≡ false = false-of (p.key == key) (λ c.
    both_ways (covers name key) out (subst (λ k. covers name k ≡ true) (eqb-true p.key key c) h.0)) in
    bound-out name ps (insert m p.key p.value) key h.1 out ∙ get-bound m p.key p.value key ∙ ap (λ c. cond c (Some p.value) (get m key)) other

pub join-keeps : (ms : List Made) (me : ℕ) (s u : BrickState) (p o : OpenOrder) → IsPlaced me s → s.order ≡ Some p → IsAs p o → is_join o.task ≡ true
    → u.pairs ≡ bound s.pairs o.copied → ComesHeld ms s u → LeavesKeepHeld ms s u
join-keeps ms me s u p o h open_order it join pairs comes =
    record {
      stays = λ key now was.
          let out = covered-apart me (own s) p key h.both open_order (ap is_join (sym it.1) ∙ join) was in
          ap (λ m. get m key) pairs ∙ bound-out o.name o.copied s.pairs key it.2 (ap (λ n. covers n key) it.0 ∙ out);
      comes = comes;
    }
