use Rattle.std.proofs.Common.{◌≡◌, ◌≤◌, ◌+◌, ◌-◌, ◌∙◌, drop, length, sym, ap, arith}
use Rattle.std.proofs.lemmas.Grind.{common_steps}
use Rattle.dds_trie.specs.Nodes.{seen}
use Rattle.dds_trie.proofs.Seeing.{seen-from, seen-none}
use Rattle.dds_trie.proofs.leaves.sorted.Goals as goal

pub loop-left-init : goal.loop-left-init
loop-left-init c =
    (c.new-sorted.ensures ∙ sym (seen-none (drop (length c.args.nodes.now) c.args.nodes.now) (grind (arith, common_steps))), omega arith)

pub loop-left-preserved : goal.loop-left-preserved
loop-left-preserved c =
    let i = c.loop-left.left - 1 in
    let h : i + 1 ≡ c.loop-left.left = omega (arith, c.loop-left-test.true) in
    let less : i + 1 ≤ length c.args.nodes.now = omega (arith, h, c.loop-left.invariant.1) in (
      c.in_ok-bind.ensures ∙ seen-from c.args.nodes.now i c.index-nodes-left.result c.loop-left.sorted (omega (arith, less)) c.index-nodes-left.is
          (c.loop-left.invariant.0 ∙ ap (λ n. seen (drop n c.args.nodes.now)) (sym h)),
      omega (arith, less),
    )
