use Rattle.std.proofs.Common.{arith, suc, drop, ◌-◌, ◌∷◌, [], ℕ}
use Rattle.dds_chains.specs.Index.{first_page}
use Rattle.dds_chains.proofs.Chains.{stored-page, first-page-small}
use Rattle.dds_chains.proofs.Slots.{stored-at}
use Rattle.dds_chains.proofs.Removing.{bridge-first, bridge-later, after-is}
use Rattle.dds_chains.proofs.Refusing.{chain-silent}
use Rattle.dds_chains.proofs.removal.bridge.Goals as goal

pub returns-then-place-eq0-clause-told : goal.returns-then-place-eq0-clause-told
returns-then-place-eq0-clause-told g c = λ a is h single. bridge-first a c.args.slots.now c.args.place _ is c.if-place-eq0.true h

pub returns-in-Ok-clause-told : goal.returns-in-Ok-clause-told
returns-in-Ok-clause-told g c = λ a is h single.
    let at : ℕ = c.args.place - 1 in
    let next : ℕ = first_page (drop (suc (c.args.place - 1)) c.args.slots.now) in
    let s = stored-at a c.args.slots.now (c.args.place - 1) c.index-slots-place.result h (omega (arith, c.requires.within)) c.index-slots-place.is in
    let small = first-page-small a (drop (suc (c.args.place - 1)) c.args.slots.now) s.1 in
    bridge-later a c.args.slots.now c.args.place c.index-slots-place.result next c.first_page-after.result s.0 _ small h single c.if-place-eq0.false
    c.requires.within c.index-slots-place.is (after-is c.args.slots.now c.args.place c.first_page-after.result c.first_page-after.ensures)
    (c.in-Ok.ensures.told a (record { key = c.index-slots-place.result.key; held = s.0.held } ∷ []) next is
    (stored-page a c.index-slots-place.result next s.0 small))

pub returns-in-Err-clause-lawful : goal.returns-in-Err-clause-lawful
returns-in-Err-clause-lawful g c = λ a is h.
    let next : ℕ = first_page (drop (suc (c.args.place - 1)) c.args.slots.now) in
    let s = stored-at a c.args.slots.now (c.args.place - 1) c.index-slots-place.result h (omega (arith, c.requires.within)) c.index-slots-place.is in
    let small = first-page-small a (drop (suc (c.args.place - 1)) c.args.slots.now) s.1 in
    c.in-Err.ensures.lawful a _ is (stored-page a c.index-slots-place.result next s.0 small)

pub returns-in-Err-clause-refused : goal.returns-in-Err-clause-refused
returns-in-Err-clause-refused g c = chain-silent _ c.args.slots.now (c.args.place - 1) c.index-slots-place.result c.in-Err.fault
    (omega (arith, c.requires.within)) c.index-slots-place.is c.in-Err.ensures.refused
