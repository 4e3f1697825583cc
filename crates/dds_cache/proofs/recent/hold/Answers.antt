use Rattle.std.proofs.Common.{◌∙◌, ap}
use Rattle.lru.specs.LruCache.{lru_cache}
use Rattle.dds_cache.specs.Kept.{Kept}
use Rattle.dds_cache.proofs.Kept.{put-seen}
use Rattle.dds_cache.proofs.recent.hold.Goals as goal

pub returns-clause-ok : goal.returns-clause-ok
returns-clause-ok c =
    c.in_ok-put.ensures.entries ∙ ap (λ (kept : Kept). lru_cache kept c.args.pages.now.cap) (put-seen _ _ _ _ c.requires)
