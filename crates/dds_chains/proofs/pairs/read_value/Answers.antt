use Rattle.std.proofs.Common.{refl, sym, ◌∙◌, ap, Some}
use Rattle.dds_chains.proofs.Fetching.{no-refusal}
use Rattle.dds_chains.proofs.Chains.{stored-page, stored-value}
use Rattle.dds_chains.proofs.Refusing.{stored-is, first-held}
use Rattle.dds_chains.proofs.Slots.{stored-pairs, stored-place}
use Rattle.dds_chains.proofs.pairs.read_value.Goals as goal

pub returns-in-Err-clause-lawful : goal.returns-in-Err-clause-lawful
returns-in-Err-clause-lawful g c = λ a next is h n. no-refusal _ _ _ c.in-Err.fault (stored-page a c.args.slot.now next h n) (c.in-Err.ensures.told a is)

pub returns-then-not-is_pair_of-clause-lawful : goal.returns-then-not-is_pair_of-clause-lawful
returns-then-not-is_pair_of-clause-lawful g c = λ a next is h n.
    let e = stored-is a c.args.slot.now next h c.pairs-pairs.result.now
    (c.pairs-pairs.ensures.value ∙ stored-pairs a c.args.slot.now next h n c.in-Ok.bucket (c.in-Ok.ensures.told a is)) in
    let f = sym c.is_pair_of.ensures ∙ c.if-not-is_pair_of.true in cc

pub returns-in-Ok-fetch-clause-told : goal.returns-in-Ok-fetch-clause-told
returns-in-Ok-fetch-clause-told g c = λ a next is h n.
    let e = first-held c.pairs-pairs.result.now c.index-pairs-0.result c.args.slot.now.key h.held
    (c.pairs-pairs.ensures.value ∙ stored-pairs a c.args.slot.now next h n c.in-Ok.bucket (c.in-Ok.ensures.told a is)) c.index-pairs-0.is in
    let p = stored-place a c.args.slot.now next h c.index-pairs-0.result.held c.args.slot.now.overflow e refl in
    ap Some (c.in-Ok-fetch.ensures.told a h.value (c.in-Ok.ensures.same ∙ is) p.1 ∙ sym (stored-value a c.args.slot.now next h n))

pub returns-clause-lawful : goal.returns-clause-lawful
returns-clause-lawful g c = λ a next is h n.
    let e = first-held c.pairs-pairs.result.now c.index-pairs-0.result c.args.slot.now.key h.held
    (c.pairs-pairs.ensures.value ∙ stored-pairs a c.args.slot.now next h n c.in-Ok.bucket (c.in-Ok.ensures.told a is)) c.index-pairs-0.is in
    let p = stored-place a c.args.slot.now next h c.index-pairs-0.result.held c.args.slot.now.overflow e refl in
    c.in-Err-fetch.ensures.lawful a h.value (c.in-Ok.ensures.same ∙ is) p.1
