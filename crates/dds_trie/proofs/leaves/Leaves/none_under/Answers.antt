use Rattle.std.proofs.Common.{◌≡◌, not, None, ap, sym, ◌∙◌}
use Rattle.dds_trie.specs.Nodes.{place}
use Rattle.dds_trie.proofs.Sightings.{none-under, is-none}
use Rattle.dds_trie.proofs.leaves.Leaves.none_under.Goals as goal

pub returns : goal.returns
returns c is =
    let off : place c.self.inside.nodes c.args.name.bits c.args.name.depth ≡ None =
    sym (c.place_of.ensures.value ∙ ap (λ ns. place ns c.args.name.bits c.args.name.depth) c.as_slice.ensures)
    ∙ is-none c.place_of.result (c.is_none.ensures ∙ ap not is) in
    rw (← c.self.view_is) (none-under c.self.inside.nodes c.args.name c.self.invariant c.place_of.ensures.valid off)
