use Rattle.dds_cache.proofs.Kept.{sound-look, found-used, held-is-read}
use Rattle.dds_cache.proofs.cache.Cache.find.Goals as goal

pub invariant_of-self : goal.invariant_of-self
invariant_of-self g c =
    sound-look _ c.args.page c.look.new.into c.look.result c.self.invariant c.look.ensures.found c.look.ensures.missing

pub returns-clause-found : goal.returns-clause-found
returns-clause-found g c = λ t.
    let h = c.look.ensures.found t in
    let e = found-used c.look.new.pages c.args.page c.look.new.into c.self.invariant h.0 h.1 in
    rw (← c.self.view_is) (h.0, λ i. record { disk = c.self.inside.disk; kept = (e i).entries; capacity = c.self.inside.capacity })

pub returns-clause-gives : goal.returns-clause-gives
returns-clause-gives g c = λ t.
    rw (← c.self.view_is) (held-is-read _ c.self.inside.pages.entries c.args.page c.look.new.into c.self.invariant.of_disk (c.look.ensures.found t).0)
