use Rattle.std.proofs.Common.{ℕ, List, ◌≡◌, ◌∙◌, ap, sym, Some}
use Rattle.lru.specs.LruCache.{lru_cache}
use Rattle.dds_cache.specs.Kept.{Kept, held}
use Rattle.dds_cache.proofs.Kept.{promoted-seen}
use Rattle.dds_cache.proofs.recent.look.Goals as goal

pub returns-clause-found : goal.returns-clause-found
returns-clause-found c = λ _.
    let same = ap (λ (bytes : List ℕ). Some bytes) (sym c.copy_to.ensures) in
    let is : held c.args.pages.now.entries c.args.number ≡ Some c.copy_to.new.into = sym c.in-Some.ensures ∙ same in
    (is, c.promote.ensures.entries ∙ ap (λ (kept : Kept). lru_cache kept c.args.pages.now.cap) (promoted-seen _ _ _ is))
