use Rattle.std.proofs.Common.{◌≡◌, subst}
use Rattle.std.specs.Prelude.{OnOk}
use Rattle.dds_walk.specs.Walk.{played}
use Rattle.dds_walk.specs.declared.walk.Walk.{Walk}
use Rattle.dds_walk.proofs.playing.play_next.Goals as goal

pub returns : goal.returns
returns c =
    subst (λ (u : Walk). OnOk c.play.result (c.play.new.walk ≡ played u c.args.step)) c.skip.ensures c.play.ensures
