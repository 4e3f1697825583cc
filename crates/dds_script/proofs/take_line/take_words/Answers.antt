use Rattle.std.proofs.Common.{◌≡◌, [], ◌∷◌, codes}
use Rattle.dds_script.specs.Words.{words}
use Rattle.dds_script.proofs.take_line.take_words.Goals as goal

pub returns-then-same : goal.returns-then-same
returns-then-same c =
    let a = c.same.ensures.same.0 c.if-same.true in
    let w = c.in-Three.ensures in
    let e : words c.args.text.now ≡ codes "leaf" ∷ c.in-Three.b.now ∷ c.in-Three.c.now ∷ [] = cc (a, w) in
    rw e c.take_leaf.ensures

pub returns-then-same-3 : goal.returns-then-same-3
returns-then-same-3 c =
    let a = c.same-in-Four-2.ensures.same.0 c.if-same-3.true in
    let w = c.in-Four.ensures in
    let e : words c.args.text.now ≡ codes "old" ∷ c.in-Four.b.now ∷ c.in-Four.c.now ∷ c.in-Four.d.now ∷ [] = cc (a, w) in
    rw e c.take_old.ensures
