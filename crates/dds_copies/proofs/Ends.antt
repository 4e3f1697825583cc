use Rattle.std.proofs.Common.{◌≡◌, ℕ, true, Option, Some, None, List, refl, subst}
use Rattle.std.proofs.lemmas.Bool.{both_ways}
use Rattle.std.specs.FinMap.{get}
use Rattle.std.specs.Prelude.{is_some}
use Rattle.dds_base.specs.Name.{covers}
use Rattle.dds_base.specs.declared.leaf.Leaf.{Leaf}
use Rattle.dds_brick_rows.specs.Refusal.{is_join}
use Rattle.dds_history.specs.Map.{Map}
use Rattle.dds_law_own.proofs.Changes.{own}
use Rattle.dds_law_own.proofs.Keeps.{NodeOk}
use Rattle.dds_law_own.proofs.Parted.{IsBoth}
use Rattle.dds_net.proofs.Nodes.{brick-node}
use Rattle.dds_order_rows.specs.Orders.{pairs_after}
use Rattle.dds_order_rows.specs.OwnOrder.{serving}
use Rattle.dds_pairs.proofs.Apart.{covered-apart}
use Rattle.dds_pairs.proofs.LieKeeps.{NodeLies, run-lying}
use Rattle.dds_pairs.proofs.Lies.{Lies}
use Rattle.dds_states.specs.declared.brick_state.BrickState.{BrickState}
use Rattle.dds_states.specs.declared.brick_state.OpenOrder.{OpenOrder}
use Rattle.dds_states.specs.declared.brick_state.Task.{Task}
use Rattle.dds_states.specs.declared.brick_state.Task.TheVariants.{Join, Split}
use Rattle.dds_world.specs.Places.{reached}
use Rattle.dds_copies.proofs.Finishes.{finish-holds}
use Rattle.dds_copies.specs.Copies.{HoldsUnder}
use Rattle.dds_copies.specs.Ends.{JoinsEndWithTheTable}

-- A brick has no pair under its open join's name, since its pairs lie under its leaves; so what it copied is all that it has there.

none-of : (x : Option (List ℕ)) → (is_some x ≡ true → ⊥) → x ≡ None
none-of None f = refl
none-of (Some v) f = absurd (f refl)

pub none-under : (me : ℕ) (s : BrickState) (o : OpenOrder) (key : ℕ) → IsBoth me (own s) → Lies s → s.order ≡ Some o → is_join o.task ≡ true
    → covers o.name key ≡ true → get s.pairs key ≡ None
none-under me s o key both lies e join over =
    none-of (get s.pairs key) (λ b. both_ways (covers o.name key) (covered-apart me (own s) o key both e join (lies key b)) over)

joined : (table : Map) (s : BrickState) (o : OpenOrder) (made : Leaf) (t : Task) → is_join t ≡ true → o.copied ≡ pairs_after table o.name None
    → ((key : ℕ) → covers o.name key ≡ true → get s.pairs key ≡ None) → HoldsUnder table o.name (serving s o made t)
joined table s o made (Join via) e all none key over = finish-holds table s o key all none over
joined table s o made Split e all none key over = cc

pub joins-end : JoinsEndWithTheTable
joins-end o journal brick s q table made h run there e join all =
    let w = reached o journal in
    let g = run-lying o journal h run in
    let both : IsBoth brick (own s) = subst (NodeOk brick) (brick-node w brick s there) (g.named.copied.own brick) in
    let lies : Lies s = subst (NodeLies brick) (brick-node w brick s there) (g.lies brick) in
    joined table s q made q.task join all (λ key over. none-under brick s q key both lies e join over)
