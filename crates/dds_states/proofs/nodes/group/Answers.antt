use Rattle.std.proofs.Common.{◌≡◌, ◌∙◌, sym, take, arith}
use Rattle.std.proofs.lemmas.Grind.{common_steps}
use Rattle.dds_base.specs.BrickList.{is_brick_list}
use Rattle.dds_states.proofs.Groups.{there-is}
use Rattle.dds_states.proofs.nodes.group.Goals as goal

pub returns-in-Some : goal.returns-in-Some
returns-in-Some c =
    let all : take c.loop-node.node-index c.args.nodes.now ≡ c.args.nodes.now = grind (arith, common_steps) in
    there-is (is_brick_list c.as_slice.result.now) _ _ (sym c.in-Some.ensures) ∙ c.as_slice.ensures.value ∙ c.loop-node.invariant ∙ all
