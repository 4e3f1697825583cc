use Rattle.std.proofs.Common.{sym}
use Rattle.dds_chains.proofs.Changing.{unchanged, was-none, was-some}
use Rattle.dds_chains.proofs.Knowing.{none-known, some-known, none-out}
use Rattle.dds_chains.proofs.change.unbind.Goals as goal

pub returns-in-None-clause-told : goal.returns-in-None-clause-told
returns-in-None-clause-told g c = λ a is t. unchanged a _ _ c.args.table.now c.chain.result.now c.args.key _ is c.requires.index t c.chain.ensures
    (sym c.in-None.ensures.value)

pub returns-in-None-clause-was : goal.returns-in-None-clause-was
returns-in-None-clause-was g c = λ a is t. was-none a c.args.table.now c.chain.result.now c.args.key c.requires.index t c.chain.ensures
    (sym c.in-None.ensures.value)

pub returns-in_ok-remove_pair-in-Some-clause-was : goal.returns-in_ok-remove_pair-in-Some-clause-was
returns-in_ok-remove_pair-in-Some-clause-was g c = λ a is t. was-some a c.args.table.now c.chain.result.now c.args.key c.in-Some.place c.requires.index t
    c.chain.ensures (sym c.in-Some.ensures.value)

pub returns-in-None-clause-known : goal.returns-in-None-clause-known
returns-in-None-clause-known g c = none-known c.args.table.now c.chain.result.now c.args.key c.chain.ensures (sym c.in-None.ensures.value)

pub returns-in-None-clause-keys : goal.returns-in-None-clause-keys
returns-in-None-clause-keys g c = none-out c.args.table.now c.args.key
    (none-known c.args.table.now c.chain.result.now c.args.key c.chain.ensures (sym c.in-None.ensures.value))

pub returns-in_ok-remove_pair-in-Some-clause-known : goal.returns-in_ok-remove_pair-in-Some-clause-known
returns-in_ok-remove_pair-in-Some-clause-known g c = some-known c.args.table.now c.chain.result.now c.args.key c.in-Some.place c.chain.ensures
    (sym c.in-Some.ensures.value)
