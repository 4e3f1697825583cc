use Rattle.std.proofs.Common.{ℕ, inl, inr, List, ◌++◌, ap, ◌∙◌}
use Rattle.dds_base.specs.Number.{Txn}
use Rattle.dds_base.specs.declared.number.CallNo.{CallNo}
use Rattle.dds_base.specs.declared.number.NodeNo.{NodeNo}
use Rattle.dds_base.specs.declared.op.Met.{Met}
use Rattle.dds_base.specs.declared.op.Met.TheVariants as met
use Rattle.dds_letters.specs.declared.letter.Letter.{Letter}
use Rattle.dds_letters.specs.declared.refusal.Denial.{Denial}
use Rattle.dds_letters.specs.declared.refusal.Denial.TheVariants as denial
use Rattle.dds_letters.specs.declared.refusal.Refusal.{Refusal}
use Rattle.dds_script.specs.Opening.{OpeningOf}
use Rattle.dds_states.specs.declared.brick_state.BrickState.{BrickState}
use Rattle.dds_world.specs.Refusals.{CallWasRefused, GetWasRefused, LeaseWasRefused, OrderWasRefused, TookBefore, UpdateWasDenied, WasMet}
use Rattle.dds_cluster.specs.World.{World, brick_at}
use Rattle.dds_cluster.specs.declared.step.Step.{Step}
use Rattle.dds_net.proofs.Journals.{handles-later, step-later, world-later}

-- What was refused in a journal was so too where the journal has grown.

abbrev took-later : (o : OpeningOf) (journal more : List Step) (brick : NodeNo) (l : Letter) (s : BrickState) → TookBefore o journal brick l s
    → TookBefore o (journal ++ more) brick l s
took-later o journal more brick l s t = record { at = t.at; handles = handles-later o journal more t.at brick l s t.handles }

abbrev pub get-later : (o : OpeningOf) (journal more : List Step) (brick : NodeNo) (txn : Txn) (why : Refusal) → GetWasRefused o journal brick txn why
    → GetWasRefused o (journal ++ more) brick txn why
get-later o journal more brick txn why g =
    record {
      caller = g.caller;
      call = g.call;
      key = g.key;
      name = g.name;
      stamp = g.stamp;
      state = g.state;
      took = took-later o journal more brick _ g.state g.took;
      true_then = g.true_then;
    }

abbrev pub update-later : (o : OpeningOf) (journal more : List Step) (brick : NodeNo) (txn : Txn) (why : Denial) → UpdateWasDenied o journal brick txn why
    → UpdateWasDenied o (journal ++ more) brick txn why
update-later o journal more brick txn why g =
    record {
      caller = g.caller;
      call = g.call;
      below = g.below;
      name = g.name;
      stamp = g.stamp;
      list = g.list;
      op = g.op;
      state = g.state;
      took = took-later o journal more brick _ g.state g.took;
      true_then = g.true_then;
    }

pub lease-later : (o : OpeningOf) (journal more : List Step) (brick asker : NodeNo) (number : ℕ) (why : Refusal)
    → LeaseWasRefused o journal brick asker number why → LeaseWasRefused o (journal ++ more) brick asker number why
lease-later o journal more brick asker number why g =
    record { what = g.what; state = g.state; took = took-later o journal more brick _ g.state g.took; sender = g.sender; true_then = g.true_then }

call-later : (o : OpeningOf) (journal more : List Step) (caller : ℕ) (call : CallNo) (m : Met) → CallWasRefused o journal caller call m
    → CallWasRefused o (journal ++ more) caller call m
call-later o journal more caller call m (inl g) =
    inl (record {
      brick = g.brick;
      txn = g.txn;
      why = g.why;
      was = get-later o journal more g.brick g.txn g.why g.was;
      caller_is = g.caller_is;
      call_is = g.call_is;
      met = g.met;
    })
call-later o journal more caller call m (inr g) =
    inr (record {
      brick = g.brick;
      txn = g.txn;
      why = g.why;
      was = update-later o journal more g.brick g.txn
          (denial.Refused g.why) g.was;
      caller_is = g.caller_is;
      call_is = g.call_is;
      met = g.met;
    })

pub met-later : (o : OpeningOf) (journal more : List Step) (caller : ℕ) (call : CallNo) (m : Met) → WasMet o journal caller call m
    → WasMet o (journal ++ more) caller call m
met-later o journal more caller call (met.Stopped brick) h = tt
met-later o journal more caller call (met.Lease brick) h = call-later o journal more caller call (met.Lease brick) h
met-later o journal more caller call (met.Lock brick) h = call-later o journal more caller call (met.Lock brick) h
met-later o journal more caller call (met.Stale brick) h = call-later o journal more caller call (met.Stale brick) h

pub order-later : (o : OpeningOf) (journal more : List Step) (at : ℕ) (m : Met) → OrderWasRefused o journal at m → OrderWasRefused o (journal ++ more) at m
order-later o journal more at m (inl g) =
    inl (record {
      node = g.node;
      brick = g.brick;
      state = g.state;
      open_order = g.open_order;
      why = g.why;
      step = step-later journal more at _ g.step;
      there = ap (λ (w : World). brick_at w g.node) (world-later o journal more at _ g.step) ∙ g.there;
      is_open = g.is_open;
      was = lease-later o journal more g.brick g.node g.open_order.number g.why g.was;
      met = g.met;
    })
order-later o journal more at m (inr g) =
    inr (record {
      node = g.node;
      state = g.state;
      name = g.name;
      leaf = g.leaf;
      why = g.why;
      step = step-later journal more at _ g.step;
      there = ap (λ (w : World). brick_at w g.node) (world-later o journal more at _ g.step) ∙ g.there;
      own = g.own;
      true_then = g.true_then;
      met = g.met;
    })
