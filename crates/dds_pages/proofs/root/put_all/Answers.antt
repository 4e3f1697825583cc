use Rattle.std.proofs.Common.{arith}
use Rattle.std.proofs.lemmas.List.{length-take}
use Rattle.dds_pages.proofs.RootPages.{put-room}
use Rattle.dds_pages.proofs.root.put_all.Goals as goal

pub put_8-requires : goal.put_8-requires
put_8-requires c =
    let l = length-take c.buckets.bucket c.args.firsts.now in
    let h = put-room c.args.writer.now c.buckets.writer c.args.firsts.now c.buckets.bucket c.buckets.invariant (omega arith) in
    omega arith
