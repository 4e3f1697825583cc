use Rattle.std.proofs.Common.{◌≡◌, ◌-◌, length, take, drop, arith}
use Rattle.std.proofs.lemmas.Bool.Decides.{Decides-eqb}
use Rattle.std.proofs.lemmas.Grind.{common_steps}
use Rattle.std.proofs.lemmas.Slice.Eq.{starts_is}
use Rattle.dds_script.proofs.words.after.Goals as goal

pub returns-then-starts_with : goal.returns-then-starts_with
returns-then-starts_with c =
    let text = c.args.text.now in
    let beginning = c.args.beginning.now in
    let e : take (length text - length beginning) (drop (length beginning) text) ≡ drop (length beginning) text = grind (arith, common_steps) in
    rw e ((starts_is Decides-eqb text beginning _ c.starts_with.ensures.value).0 c.if-starts_with.true)

pub returns-else-starts_with : goal.returns-else-starts_with
returns-else-starts_with c =
    λ rest e. let t = (starts_is Decides-eqb c.args.text.now c.args.beginning.now _ c.starts_with.ensures.value).1 rest e
    in absurd (cc (t, c.if-starts_with.false))
