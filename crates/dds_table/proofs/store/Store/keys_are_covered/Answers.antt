use Rattle.std.proofs.Common.{◌≡◌, Some, ap, ◌∙◌}
use Rattle.dds_table.proofs.Stores.{unless-false}
use Rattle.dds_table.proofs.Parted.{maps-covered}
use Rattle.dds_table.proofs.store.Store.keys_are_covered.Goals as goal

pub returns : goal.returns
returns g c = λ a is.
    let s = unless-false c.self.inside.failed _ (ap (λ s. s.failed) c.self.view_is ∙ c.requires.live) c.self.invariant.0 in
    let told : g.D.Disk.pages c.self.inside.space.cache.disk ≡ Some a = ap (λ s. g.D.Disk.pages s.cache.disk) c.self.view_is ∙ is in
    rw (← c.self.view_is) (maps-covered a c.self.inside.tables.items c.args.name s.index (s.stored a told))
