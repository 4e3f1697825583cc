use Rattle.std.proofs.Common.{◌≡◌, ◌∙◌, sym, ap}
use Rattle.dds_letters.specs.declared.letter.Letter.{Letter}
use Rattle.dds_cluster.specs.Turn.{handle, node_does}
use Rattle.dds_cluster.specs.World.{World, link}
use Rattle.dds_cluster.proofs.Handling.{handle-first}
use Rattle.dds_cluster.proofs.cluster.Cluster.handle.Goals as goal

pub returns-clause-world : goal.returns-clause-world
returns-clause-world c =
    let e : handle c.args.self.now c.args.at c.args.node c.args.from (link c.args.self.now c.args.from c.args.node)
    ≡ node_does c.take.new.self c.args.at c.args.node c.args.from c.in_ok-letter.letter =
    handle-first c.args.self.now c.args.at c.args.node c.args.from (link c.args.self.now c.args.from c.args.node) c.in-Some.framed c.in-Some.ensures.first
    ∙ ap (λ (u : World). node_does u c.args.at c.args.node c.args.from c.in-Some.framed.letter) (sym c.in-Some.ensures.rest)
    ∙ ap (λ (l : Letter). node_does c.take.new.self c.args.at c.args.node c.args.from l) (sym c.in_ok-letter.ensures) in
    rw e c.does.ensures.world

pub returns-clause-made : goal.returns-clause-made
returns-clause-made c =
    let e : handle c.args.self.now c.args.at c.args.node c.args.from (link c.args.self.now c.args.from c.args.node)
    ≡ node_does c.take.new.self c.args.at c.args.node c.args.from c.in_ok-letter.letter =
    handle-first c.args.self.now c.args.at c.args.node c.args.from (link c.args.self.now c.args.from c.args.node) c.in-Some.framed c.in-Some.ensures.first
    ∙ ap (λ (u : World). node_does u c.args.at c.args.node c.args.from c.in-Some.framed.letter) (sym c.in-Some.ensures.rest)
    ∙ ap (λ (l : Letter). node_does c.take.new.self c.args.at c.args.node c.args.from l) (sym c.in_ok-letter.ensures) in
    rw e c.does.ensures.made

pub returns-clause-replies : goal.returns-clause-replies
returns-clause-replies c =
    let e : handle c.args.self.now c.args.at c.args.node c.args.from (link c.args.self.now c.args.from c.args.node)
    ≡ node_does c.take.new.self c.args.at c.args.node c.args.from c.in_ok-letter.letter =
    handle-first c.args.self.now c.args.at c.args.node c.args.from (link c.args.self.now c.args.from c.args.node) c.in-Some.framed c.in-Some.ensures.first
    ∙ ap (λ (u : World). node_does u c.args.at c.args.node c.args.from c.in-Some.framed.letter) (sym c.in-Some.ensures.rest)
    ∙ ap (λ (l : Letter). node_does c.take.new.self c.args.at c.args.node c.args.from l) (sym c.in_ok-letter.ensures) in
    rw e c.does.ensures.replies
