use Rattle.std.proofs.Common.{sym, suc, drop}
use Rattle.dds_chains.specs.Index.{first_page}
use Rattle.dds_chains.proofs.Slots.{get-none, get-some, slot-stored}
use Rattle.dds_chains.proofs.Knowing.{none-known, some-known, ok-known}
use Rattle.dds_chains.proofs.pairs.get.Goals as goal

pub returns-in-None-clause-told : goal.returns-in-None-clause-told
returns-in-None-clause-told g c = λ a is t. get-none a c.args.table.now c.chain-slots.result.now c.args.key c.requires t c.chain-slots.ensures
    (sym c.in-None.ensures.value)

pub returns-in-Some-clause-told : goal.returns-in-Some-clause-told
returns-in-Some-clause-told g c = λ a is t.
    let s = slot-stored a c.args.table.now c.chain-slots.result.now c.args.key c.in-Some.place c.index-slots-place.result t c.chain-slots.ensures
    c.in-Some.ensures.within c.index-slots-place.is in
    get-some a c.args.table.now c.chain-slots.result.now c.args.key c.in-Some.place c.index-slots-place.result c.requires t c.chain-slots.ensures
    (sym c.in-Some.ensures.value) c.index-slots-place.is c.read_value.result
    (c.read_value.ensures.told a (first_page (drop (suc c.in-Some.place) c.chain-slots.result.now)) is s.0 s.1)

pub returns-in-Some-clause-lawful : goal.returns-in-Some-clause-lawful
returns-in-Some-clause-lawful g c = λ a is t.
    let s = slot-stored a c.args.table.now c.chain-slots.result.now c.args.key c.in-Some.place c.index-slots-place.result t c.chain-slots.ensures
    c.in-Some.ensures.within c.index-slots-place.is in
    c.read_value.ensures.lawful a (first_page (drop (suc c.in-Some.place) c.chain-slots.result.now)) is s.0 s.1

pub returns-in-None-clause-known : goal.returns-in-None-clause-known
returns-in-None-clause-known g c = none-known c.args.table.now c.chain-slots.result.now c.args.key c.chain-slots.ensures (sym c.in-None.ensures.value)

pub returns-in-Some-clause-known : goal.returns-in-Some-clause-known
returns-in-Some-clause-known g c = ok-known c.read_value.result _ c.read_value.ensures.some
    (some-known c.args.table.now c.chain-slots.result.now c.args.key c.in-Some.place c.chain-slots.ensures (sym c.in-Some.ensures.value))
