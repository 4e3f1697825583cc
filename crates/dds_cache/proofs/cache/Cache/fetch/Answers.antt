use Rattle.dds_cache.proofs.Kept.{first-within, sound-read, trimmed}
use Rattle.dds_cache.proofs.cache.Cache.fetch.Goals as goal

pub trim-requires : goal.trim-requires
trim-requires g c =
    first-within c.hold.new.pages c.args.page c.in_ok-copy.copy c.self.invariant c.in_ok-hold.ensures.ok

pub invariant_of-self-2 : goal.invariant_of-self-2
invariant_of-self-2 g c =
    sound-read _ _ c.args.page c.read_from.new.into c.self.invariant c.in_ok-read_from.ensures.gives
    (trimmed c.self.inside.pages c.hold.new.pages _ _ _ _ _ c.in_ok-hold.ensures.ok c.trim.ensures c.in_ok-copy.ensures)
