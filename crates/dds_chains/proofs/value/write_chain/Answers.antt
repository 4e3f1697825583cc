use Rattle.std.proofs.Common.{refl, ◌∙◌, arith, ◌-◌}
use Rattle.dds_chains.proofs.Writing.{writing-start, writing-more, writing-done, writing-first}
use Rattle.dds_chains.proofs.value.write_chain.Goals as goal

pub pages-init : goal.pages-init
pages-init g c = (writing-start _ _ _ c.args.bytes.now _ _ c.new-pages.result c.new-pages.ensures refl c.requires.most refl, refl)

pub pages-preserved : goal.pages-preserved
pages-preserved g c = (
  writing-more _ _ _ _ _ _ _ _ _ c.args.bytes.now _ (c.pages.left - 1) c.pages.left c.min-end.result _ _ c.pages.next _ c.pages.invariant.0 (omega arith)
      c.requires.single c.in-Ok.ensures.number c.in-Ok.ensures.below c.in-Ok.ensures.told c.min-end.ensures refl c.in_ok-insert.ensures.ok
      c.in-Ok.ensures.untold,
  c.in-Ok.ensures.steady ∙ c.pages.invariant.1,
)

pub returns-clause-told : goal.returns-clause-told
returns-clause-told g c = writing-done c.pages.invariant.0 c.pages-test.false

pub returns-clause-first : goal.returns-clause-first
returns-clause-first g c = writing-first c.pages.invariant.0 c.pages-test.false
