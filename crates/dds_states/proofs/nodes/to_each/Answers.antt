use Rattle.std.proofs.Common.{[], ◌∷◌, ◌++◌, ◌∙◌, ap, List}
use Rattle.dds_base.specs.declared.number.NodeNo.{NodeNo}
use Rattle.dds_letters.specs.declared.letter.Letter.{Letter}
use Rattle.dds_states.proofs.Sending.{last-too}
use Rattle.dds_states.proofs.nodes.to_each.Goals as goal

pub returns : goal.returns
returns c =
    c.in_ok-push.ensures.ok ∙ ap (λ (t : List (NodeNo × Letter)). t ++ (c.in-Some.last.now, c.args.letter) ∷ []) c.in_ok-outbox.ensures
    ∙ last-too c.args.nodes.now c.in-Some.others.now c.in-Some.last.now c.args.letter c.in-Some.ensures.cases.0
