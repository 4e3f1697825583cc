use Rattle.std.proofs.Common.{◌∙◌, ap, ◌++◌, ◌∷◌, [], List}
use Rattle.dds_pages.specs.declared.bucket.PagePair.{PagePair}
use Rattle.dds_chains.proofs.Adding.{one-fits}
use Rattle.dds_chains.proofs.pairs.pair_page.Goals as goal

pub of-requires : goal.of-requires
of-requires c =
    one-fits c.args.key c.args.held c.push.new.self (c.in_ok-push.ensures.ok
    ∙ ap (λ (ps : List PagePair). ps ++ record { key = c.args.key; held = c.args.held } ∷ []) c.new-pairs.ensures) c.requires
