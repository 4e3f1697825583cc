use Rattle.std.proofs.Common.{length, sym, arith, subst, ℕ, ◌<◌, ◌^◌, ◌-◌}
use Rattle.dds_chains.proofs.Writing.{chain-placed}
use Rattle.dds_chains.proofs.value.place.Goals as goal

pub returns-clause-held : goal.returns-clause-held
returns-clause-held g c =
    let some : 4000 < length c.bytes-bytes.result.now = omega arith in
    let first = c.in_ok-overflow.ensures.first (omega arith) in
    (some, c.bytes-bytes.ensures.range, subst (λ (n : ℕ). n < 2 ^ 64 - 1) (sym c.first_of-first.ensures) first)

pub returns-clause-told : goal.returns-clause-told
returns-clause-told g c = λ a is. chain-placed a _ _ _ _ c.bytes-bytes.result.now c.args.value.now _ (c.in_ok-overflow.ensures.told a is)
    c.first_of-first.ensures c.in_ok-overflow.ensures.few c.bytes-bytes.ensures.value
