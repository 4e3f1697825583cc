use Rattle.dds_trie.specs.declared.nodes.Node.{Node}
use Rattle.std.proofs.Common.{◌≡◌, ◌++◌, ◌∷◌, [], ◌<◌, get_or, set, length, length-append, Some, ap, sym, ◌∙◌, arith}
use Rattle.std.proofs.lemmas.List.{get_or_default, get_or_append_left}
use Rattle.dds_trie.specs.Nodes.{linked_to, blank, is_high}
use Rattle.dds_trie.proofs.Links.{IsLinked, trie-linked, seen-linked, kept-linked, new-linked}
use Rattle.dds_trie.proofs.nodes.add.Goals as goal

link : (c : goal.After-replace) → IsLinked c.args.nodes.now c.replace.new.self c.bare.result c.args.key c.args.depth c.args.from
link c =
    let within = c.requires.trie.there c.args.key c.args.depth c.args.from c.requires.from in
    let ns = c.args.nodes.now in
    let from = c.args.from in
    let longer : length ns < length (ns ++ c.bare.result ∷ []) = grind (arith, length-append) in
    let node : c.at.result.now ≡ get_or ns from blank = c.at.ensures ∙ ap (λ xs. get_or xs from c.at.result.now) c.in_ok-push.ensures.ok
    ∙ get_or_default (ns ++ c.bare.result ∷ []) from c.at.result.now blank (omega (arith, longer, within))
    ∙ get_or_append_left ns (c.bare.result ∷ []) blank from within in
    record {
      trie = c.requires.trie;
      at = c.requires.from;
      free = c.requires.free;
      name = ap (λ (n : Node). n.name) c.bare.ensures ∙ c.name_at.ensures;
      low = ap (λ (n : Node). n.low) c.bare.ensures;
      high = ap (λ (n : Node). n.high) c.bare.ensures;
      leaf = ap (λ (n : Node). n.leaf) c.bare.ensures;
      made = c.replace.ensures.items ∙ ap (λ xs. set xs from c.link.new.node) c.in_ok-push.ensures.ok
          ∙ ap (set (ns ++ c.bare.result ∷ []) from) (c.link.ensures ∙ ap (λ b. linked_to c.at.result.now b c.len-at.result) c.is_high.ensures
          ∙ ap (λ (n : Node). linked_to n (is_high c.args.key c.args.depth) c.len-at.result) node
          ∙ ap (linked_to (get_or ns from blank) (is_high c.args.key c.args.depth)) c.len-at.ensures);
    }

pub returns-clause-trie : goal.returns-clause-trie
returns-clause-trie c = trie-linked _ _ _ _ _ _ (link c)

pub returns-clause-seen : goal.returns-clause-seen
returns-clause-seen c = seen-linked _ _ _ _ _ _ (link c)

pub returns-clause-kept : goal.returns-clause-kept
returns-clause-kept c = kept-linked _ _ _ _ _ _ (link c)

pub returns-clause-ok : goal.returns-clause-ok
returns-clause-ok c = new-linked _ _ _ _ _ _ (link c) ∙ ap Some (sym c.len-at.ensures)
