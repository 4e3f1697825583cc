use Rattle.dds_trie.specs.declared.nodes.Node.{Node}
use Rattle.std.proofs.Common.{◌≡◌, ◌∷◌, [], List, ap, sym, ◌∙◌, subst}
use Rattle.dds_trie.specs.Nodes.{place, seen, IsTrie}
use Rattle.dds_trie.proofs.Sightings.{seen-push}
use Rattle.dds_trie.proofs.Walks.{place-first}
use Rattle.dds_trie.proofs.Links.{trie-root, alone, started}
use Rattle.dds_trie.proofs.nodes.root.Goals as goal

one : (c : goal.In_ok-push) → c.push.new.self ≡ c.bare.result ∷ []
one c = alone c.args.nodes.now c.push.new.self c.bare.result (sym c.is_empty.ensures ∙ c.if-is_empty.true) c.in_ok-push.ensures.ok

pub returns-in_ok-push-clause-trie : goal.returns-in_ok-push-clause-trie
returns-in_ok-push-clause-trie c =
    subst IsTrie (sym (one c)) (trie-root c.bare.result (ap (λ (n : Node). n.name) c.bare.ensures ∙ c.name_at.ensures) (ap (λ (n : Node). n.low) c.bare.ensures)
    (ap (λ (n : Node). n.high) c.bare.ensures))

pub returns-in_ok-push-clause-seen : goal.returns-in_ok-push-clause-seen
returns-in_ok-push-clause-seen c =
    ap seen c.in_ok-push.ensures.ok ∙ seen-push c.args.nodes.now c.bare.result (ap (λ (n : Node). n.leaf) c.bare.ensures)

pub returns-in_ok-push-clause-ok : goal.returns-in_ok-push-clause-ok
returns-in_ok-push-clause-ok c k = ap (λ (ns : List Node). place ns k 0) (one c) ∙ place-first (c.bare.result ∷ []) k

pub returns-else-is_empty-clause-ok : goal.returns-else-is_empty-clause-ok
returns-else-is_empty-clause-ok c k = started c.args.nodes.now (sym c.is_empty.ensures ∙ c.if-is_empty.false) k
