use Rattle.std.proofs.Common.{◌∙◌, ap, sym, List}
use Rattle.dds_base.specs.declared.number.NodeNo.{NodeNo}
use Rattle.dds_letters.specs.declared.letter.Letter.TheVariants as letter
use Rattle.dds_states.specs.Turn.{letters_out, to_each}
use Rattle.dds_order_rows.proofs.Installing.{asks-members}
use Rattle.dds_order_rows.proofs.going_on.installs_from.Goals as goal

pub returns-clause-out : goal.returns-clause-out
returns-clause-out c =
    let install = letter.Install c.args.order.number c.args.made in
    let sent = c.in_ok-letters.ensures ∙ ap (λ (nodes : List NodeNo). to_each nodes install) c.as_slice.ensures in
    asks-members c.args.state.now c.args.order c.args.made c.args.members c.letters.result (sym c.is_empty.ensures ∙ c.if-is_empty.false)
    (c.letters.ensures ∙ ap letters_out sent)
