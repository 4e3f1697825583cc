use Rattle.std.proofs.Common.{◌≡◌, ℕ, ◌<◌, ◌≤◌, ◌==◌, ◌||◌, Bool, true, false, refl, sym, ap, ◌∙◌, arith}
use Rattle.std.proofs.lemmas.Bool.Decides.{nat_tests}
use Rattle.std.specs.Prelude.{nat_lt}
use Rattle.dds_base.proofs.Sets.{added-brick, added-library, with-brick, with-library}
use Rattle.dds_base.specs.NodeSet.{has_node, with_node}
use Rattle.dds_base.specs.declared.node_set.NodeSet.{NodeSet}

-- whom a set has with a node more
pub has-with : (s : NodeSet) (node other : ℕ) → node < 80 → has_node (with_node s node) other ≡ (other == node || has_node s other)
has-with s node other h =
    elim (nat_lt node 64) as (λ b. nat_lt node 64 ≡ b → has_node (with_node s node) other ≡ (other == node || has_node s other)) [
      | true ↦ λ e. let low : node < 64 = grind (arith, nat_tests, e) in ap (λ t. has_node t other) (sym (with-brick s node low)) ∙ added-brick s node other low
      | false ↦ λ e. let high : 64 ≤ node = grind (arith, nat_tests, e) in ap (λ t. has_node t other) (sym (with-library s node high h))
          ∙ added-library s node other high h
    ] refl
