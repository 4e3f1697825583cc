use Rattle.std.proofs.Common.{map, ◌∙◌, arith, ap}
use Rattle.std.proofs.lemmas.List.{length-map}
use Rattle.dds_chains.specs.Index.{first_page}
use Rattle.dds_chains.proofs.Roots.{root-room, root-next, root-done}
use Rattle.dds_chains.proofs.table.Chains.write_root_in.Goals as goal

pub put_8-requires : goal.put_8-requires
put_8-requires c = root-room c.buckets.writer c.args.self.now.len (map first_page c.args.self.now.buckets.items) c.buckets.bucket c.buckets.invariant
    c.buckets-test.true

pub buckets-preserved : goal.buckets-preserved
buckets-preserved c =
    root-next c.buckets.writer c.put_8.new.self c.args.self.now.len c.args.self.now.buckets.items c.buckets.bucket c.first_page.result c.index-slots.result.now
    c.buckets.invariant (omega (arith, c.buckets-test.true, c.requires.long)) c.index-slots.ensures
    (c.first_page.ensures ∙ ap first_page c.as_slice.ensures) c.put_8.ensures.written

pub returns : goal.returns
returns c =
    let l = length-map c.args.self.now.buckets.items first_page in
    root-done c.buckets.writer c.args.self.now.len (map first_page c.args.self.now.buckets.items) c.buckets.bucket c.buckets.invariant
    (omega (arith, l, c.requires.long, c.buckets-test.false))
