use Rattle.std.proofs.Common.{sym, arith}
use Rattle.dds_chains.proofs.Changing.{changed-twice, was-none, was-some, none-new}
use Rattle.dds_chains.proofs.Knowing.{none-known, some-known, put-again}
use Rattle.dds_chains.proofs.change.bind.Goals as goal

pub add_pair-requires-clause-new : goal.add_pair-requires-clause-new
add_pair-requires-clause-new g c = none-new c.args.table.now c.chain.result.now c.args.key c.chain.ensures (sym c.in-None.ensures.value)

pub returns-in_ok-add_pair-in-None-clause-told : goal.returns-in_ok-add_pair-in-None-clause-told
returns-in_ok-add_pair-in-None-clause-told g c = λ a is t room.
    c.in_ok-add_pair-in-None.ensures.told a is t (room (sym (was-none a c.args.table.now c.chain.result.now c.args.key c.requires.index t c.chain.ensures
    (sym c.in-None.ensures.value))))

pub returns-in_ok-add_pair-in-None-clause-was : goal.returns-in_ok-add_pair-in-None-clause-was
returns-in_ok-add_pair-in-None-clause-was g c = λ a is t. was-none a c.args.table.now c.chain.result.now c.args.key c.requires.index t c.chain.ensures
    (sym c.in-None.ensures.value)

pub returns-in_ok-add_pair-in-Some-clause-told : goal.returns-in_ok-add_pair-in-Some-clause-told
returns-in_ok-add_pair-in-Some-clause-told g c = λ a is t room.
    let w = c.in_ok-remove_pair-in-Some.ensures.told a is t in
    let l = c.in_ok-remove_pair-in-Some.ensures.less a is t in
    changed-twice a _ _ _ _ c.args.table.now _ _ c.args.key c.args.value.now _ _ c.in_ok-remove_pair-in-Some.ensures.number w
    (c.in_ok-add_pair-in-Some.ensures.told w.b w.is_told w.table (omega (arith, l, c.requires.index.few)))

pub returns-in_ok-add_pair-in-Some-clause-was : goal.returns-in_ok-add_pair-in-Some-clause-was
returns-in_ok-add_pair-in-Some-clause-was g c = λ a is t. was-some a c.args.table.now c.chain.result.now c.args.key c.in-Some.place c.requires.index t
    c.chain.ensures (sym c.in-Some.ensures.value)

pub returns-in_ok-add_pair-in-None-clause-known : goal.returns-in_ok-add_pair-in-None-clause-known
returns-in_ok-add_pair-in-None-clause-known g c = none-known c.args.table.now c.chain.result.now c.args.key c.chain.ensures (sym c.in-None.ensures.value)

pub returns-in_ok-add_pair-in-Some-clause-known : goal.returns-in_ok-add_pair-in-Some-clause-known
returns-in_ok-add_pair-in-Some-clause-known g c = some-known c.args.table.now c.chain.result.now c.args.key c.in-Some.place c.chain.ensures
    (sym c.in-Some.ensures.value)

pub returns-in_ok-add_pair-in-Some-clause-keys : goal.returns-in_ok-add_pair-in-Some-clause-keys
returns-in_ok-add_pair-in-Some-clause-keys g c = put-again c.args.table.now c.remove_pair.new.table c.add_pair-in-Some.new.table c.args.key
    c.in_ok-remove_pair-in-Some.ensures.keys c.in_ok-add_pair-in-Some.ensures.keys
