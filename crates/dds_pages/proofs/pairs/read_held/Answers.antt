use Rattle.std.proofs.Common.{◌≤◌, ◌∙◌, sym, subst, arith}
use Rattle.dds_pages.specs.Bucket.{most}
use Rattle.dds_pages.proofs.PairPages.{chain-read, here-read}
use Rattle.dds_pages.proofs.pairs.read_held.Goals as goal

pub returns-then-is_long : goal.returns-then-is_long
returns-then-is_long c =
    chain-read c.args.form c.args.page.now c.args.at c.number2_at-len.result c.number8_at-first.result c.number2_at-len.ensures c.number8_at-first.ensures
    (sym c.is_long.ensures ∙ c.if-is_long.true) (subst (λ n. n ≤ most c.args.form) (sym c.number2_at-len.ensures) c.requires.short) c.if-first.false
    c.number8_at-first.type_inv

pub returns : goal.returns
returns c =
    here-read c.args.form c.args.page.now c.args.at c.number2_at-len.result c.from.result c.in_ok-value.value c.number2_at-len.ensures (omega arith)
    c.in_ok-value.ensures.value c.in_ok-value.ensures.len
    (sym c.is_long.ensures ∙ c.if-is_long.false) (subst (λ n. n ≤ most c.args.form) (sym c.number2_at-len.ensures) c.requires.short)
