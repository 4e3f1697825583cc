use Rattle.std.proofs.Common.{◌∙◌, sym}
use Rattle.dds_disk.proofs.Maps.{get-seen}
use Rattle.dds_disk.proofs.page_map.PageMap.find.Goals as goal

pub returns : goal.returns
returns c = rw (← c.self.view_is) (c.get.ensures.value ∙ sym (get-seen _ _))
