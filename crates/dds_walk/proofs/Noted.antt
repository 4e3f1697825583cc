-- Which orders are open after a step: only for an input it matters whether the step is possible.
use Rattle.std.proofs.Common.{◌≡◌, Bool, true, false, List, [], Option, None, refl}
use Rattle.std.specs.Prelude.{slice_set, if◌then◌else◌}
use Rattle.std.specs.List.{list_any}
use Rattle.dds_states.specs.declared.turn.Replied.{Replied}
use Rattle.dds_transcript.specs.declared.report_line.OrderKind.{OrderKind}
use Rattle.dds_cluster.specs.Trace.{is_possible, replies_in}
use Rattle.dds_cluster.specs.Turn.{turn}
use Rattle.dds_cluster.specs.declared.step.Step.{Step}
use Rattle.dds_cluster.specs.declared.step.Step.TheVariants as step
use Rattle.dds_cluster.specs.declared.trace.Trace.{Trace}
use Rattle.dds_walk.specs.Walk.{is_order_reply, may_note, noted, orders_by}

-- a step that isn't possible answers nothing
none-answered : (b : Bool) (replies : List Replied) (set orders : List (Option OrderKind)) →
    (if list_any is_order_reply (if b then replies else []) then set else orders)
    ≡ (if b then (if list_any is_order_reply (if b then replies else []) then set else orders) else orders)
none-answered true replies set orders = refl
none-answered false replies set orders = refl

same-either : (b : Bool) (orders : List (Option OrderKind)) → orders ≡ (if b then orders else orders)
same-either true orders = refl
same-either false orders = refl

pub orders_noted : (t : Trace) (orders : List (Option OrderKind)) (s : Step) →
    noted orders (may_note t s) (list_any is_order_reply (replies_in t s)) s
    ≡ (if is_possible t s then orders_by orders (list_any is_order_reply (replies_in t s)) s else orders)
orders_noted t orders (step.Input node i) = refl
orders_noted t orders (step.Handle node from) =
    none-answered (is_possible t (step.Handle node from)) (turn t.steps t.world (step.Handle node from)).replies (slice_set orders node None) orders
orders_noted t orders (step.Post node) = same-either (is_possible t (step.Post node)) orders
orders_noted t orders (step.Stop node) = same-either (is_possible t (step.Stop node)) orders
