use Rattle.std.proofs.Common.{◌∙◌, arith}
use Rattle.std.proofs.lemmas.Grind.{common_steps}
use Rattle.dds_groups.proofs.Lists.{some-more, some-end}
use Rattle.dds_groups.proofs.successor.is_some_of.Goals as goal

pub loop-place-preserved : goal.loop-place-preserved
loop-place-preserved c =
    let more = some-more c.args.old.now c.args.list.now c.loop-place.place c.loop-place.met c.args.count (omega arith) (omega arith) c.requires in
    record {
      within = c.met_with-met.ensures.range;
      rest = c.loop-place.invariant.rest
          ∙ rw (c.met_with-met.ensures.value, c.number.ensures.value, c.at.ensures.value) more;
    }

pub returns : goal.returns
returns c =
    let h = some-end c.args.old.now c.args.list.now c.loop-place.place c.loop-place.met c.args.count (omega arith) (omega arith) c.requires in
    grind (arith, common_steps)
