use Rattle.std.proofs.Common.{sym, ◌∙◌, ap, arith, length, length-append, ◌-◌, Some, None, [], ◌∷◌}
use Rattle.std.specs.FinMap.{get}
use Rattle.dds_chains.specs.Content.{content}
use Rattle.dds_chains.proofs.Parts.{next-content, part-none, part-some, part-more, not-absent}
use Rattle.dds_chains.proofs.part.read_part.Goals as goal

pub returns-in-None-clause-told : goal.returns-in-None-clause-told
returns-in-None-clause-told g c = λ a is t.
    part-none (content a c.args.table.now.root) c.args.start c.pairs.after c.args.most (c.args.most - c.pairs._pair) c.pairs.pairs
    (c.pairs.invariant.part a is t) (next-content a c.args.table.now c.pairs.after None c.requires t c.in-None.ensures)

pub returns-in-Ok-None-clause-told : goal.returns-in-Ok-None-clause-told
returns-in-Ok-None-clause-told g c = λ a is t.
    let n = next-content a c.args.table.now c.pairs.after (Some c.in-Some.key) c.requires t c.in-Some.ensures in
    absurd (not-absent _ (get (content a c.args.table.now.root) c.in-Some.key) (c.in-Ok-None.ensures.told a (c.pairs.invariant.same ∙ is) t)
    c.in-Ok-None.field-0-is n.0)

pub pairs-preserved : goal.pairs-preserved
pairs-preserved g c = record {
  part = λ a is t.
      part-more (content a c.args.table.now.root) c.args.start c.pairs.after c.args.most c.pairs._pair c.pairs.pairs c.push.new.self
      (record { key = c.in-Some.key; value = c.in-Ok-Some.value }) (c.pairs.invariant.part a is t) (omega arith)
      (next-content a c.args.table.now c.pairs.after (Some c.in-Some.key) c.requires t c.in-Some.ensures)
      (sym c.in-Ok-Some.field-0-is ∙ c.in-Ok-Some.ensures.told a (c.pairs.invariant.same ∙ is) t) c.in_ok-push.ensures.ok;
  long = let e = ap length c.in_ok-push.ensures.ok in let l = length-append c.pairs.pairs (record { key = c.in-Some.key; value = c.in-Ok-Some.value } ∷ [])
      in omega (arith, e, l, c.pairs.invariant.long);
  same = c.in-Ok-Some.ensures.same ∙ c.pairs.invariant.same;
  free = c.in-Ok-Some.ensures.free ∙ c.pairs.invariant.free;
  fresh = c.in-Ok-Some.ensures.fresh ∙ c.pairs.invariant.fresh;
  steady = c.in-Ok-Some.ensures.steady ∙ c.pairs.invariant.steady;
}

pub returns-in-None-next_key-clause-told : goal.returns-in-None-next_key-clause-told
returns-in-None-next_key-clause-told g c = λ a is t.
    part-none (content a c.args.table.now.root) c.args.start c.pairs.after c.args.most (c.args.most - c.pairs._pair) c.pairs.pairs
    (c.pairs.invariant.part a is t) (next-content a c.args.table.now c.pairs.after None c.requires t c.in-None-next_key.ensures)

pub returns-in-Some-next_key-clause-told : goal.returns-in-Some-next_key-clause-told
returns-in-Some-next_key-clause-told g c = λ a is t.
    part-some (content a c.args.table.now.root) c.args.start c.pairs.after c.args.most (c.args.most - c.pairs._pair) c.in-Some-next_key.field-0 c.pairs.pairs
    (c.pairs.invariant.part a is t) (omega arith) (next-content a c.args.table.now c.pairs.after (Some c.in-Some-next_key.field-0) c.requires t
    c.in-Some-next_key.ensures)
