use Rattle.dds_script.proofs.take_opening.unopened.Goals as goal

pub cover_all-requires-clause-placed : goal.cover_all-requires-clause-placed
cover_all-requires-clause-placed c = (c.args.reader.now.ranges.bricks, rw c.as_slice.ensures c.requires.leaves)
