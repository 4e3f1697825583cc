use Rattle.std.proofs.Common.{◌≡◌, ◌+◌, List, true, ap, sym, ◌∙◌, subst, drop, arith}
use Rattle.dds_base.specs.declared.pair.Pair.{Pair}
use Rattle.dds_table.specs.Old.{add_all, is_fresh, AreCovered}
use Rattle.dds_table.specs.Met.{AreKeysOf}
use Rattle.dds_table.proofs.Meeting.{one-more}
use Rattle.dds_table.proofs.OldPages.{here-at, add-fresh, covered-fresh}
use Rattle.dds_table.proofs.walk.add_all.Goals as goal

pub value_of-requires : goal.value_of-requires
value_of-requires c = here-at c.args.more.now c.adding.pair-index c.pair-item.result c.requires.here (omega (arith, c.adding-test.true)) c.pair-item.is

pub adding-preserved : goal.adding-preserved
adding-preserved c =
    let pushed = c.in_ok-push.ensures.ok in
    let fresh : is_fresh c.args.at c.args.name c.adding.pairs c.pair-item.result.key ≡ true =
    sym (c.if-not-is_fresh.ensures c.adding.pairs c.adding.invariant.keys) in
    record {
      covered = subst (AreCovered c.args.name) (sym pushed) (covered-fresh c.args.at c.args.name c.adding.pairs _ c.adding.invariant.covered fresh);
      keys = subst (AreKeysOf c.add.new.numbers) (sym pushed)
          (one-more (λ (pair : Pair). pair.key) c.adding.keys c.add.new.numbers c.adding.pairs _ c.adding.invariant.keys c.in_ok-add.ensures);
      rest = add-fresh c.args.at c.args.name c.adding.pairs c.args.more.now c.adding.pair-index c.pair-item.result c.in_ok-value.value _
          (omega (arith, c.adding-test.true)) c.pair-item.is c.in_ok-value.ensures fresh c.adding.invariant.rest
          ∙ ap (λ (ps : List Pair). add_all c.args.at c.args.name ps (drop (c.adding.pair-index + 1) c.args.more.now)) (sym pushed);
    }
