use Rattle.dds_disk.proofs.Maps.{insert-seen}
use Rattle.dds_disk.proofs.page_map.PageMap.write.Goals as goal

pub returns-clause-ok : goal.returns-clause-ok
returns-clause-ok c = rw (← c.self.view_is) (insert-seen _ _ _ _ _ c.in_ok-page.ensures c.in_ok-insert.ensures.updates.0)
