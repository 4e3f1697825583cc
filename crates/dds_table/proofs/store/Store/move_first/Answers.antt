use Rattle.std.proofs.Common.{None, List, length, sym, ap, ◌∙◌}
use Rattle.std.specs.FinMap.{get}
use Rattle.dds_table.specs.Store.{Named, maps_of, map_named}
use Rattle.dds_chains.proofs.Adding.{then-ok}
use Rattle.dds_table.proofs.Turns.{first-bound, nothing-moved, pair-moved, no-length, some-length}
use Rattle.dds_table.proofs.store.Store.move_first.Goals as goal

pub returns-then-is_empty-clause-told : goal.returns-then-is_empty-clause-told
returns-then-is_empty-clause-told g c = λ a is.
    nothing-moved (g.D.Disk.pages c.part.new.self.cache.disk) a c.part.new.self.tables c.args.self.now.tables c.args.name c.in_ok-part.part.pairs
    c.in_ok-part.part.last (c.in_ok-part.ensures.told a is) (no-length (length c.in_ok-part.part.pairs) (sym c.is_empty.ensures ∙ c.if-is_empty.true))
    (c.in_ok-part.ensures.pages ∙ is) c.in_ok-part.ensures.tables

pub move_pair-requires-clause-bound : goal.move_pair-requires-clause-bound
move_pair-requires-clause-bound g c = λ a is.
    ap (λ (ts : List Named). get (map_named (maps_of a ts) c.args.name) c.at-pair.result.now.key) c.in_ok-part.ensures.tables
    ∙ first-bound (map_named (maps_of a c.args.self.now.tables) c.args.name) None 1 c.in_ok-part.part.pairs c.in_ok-part.part.last c.at-pair.result.now
    (c.in_ok-part.ensures.told a (sym c.in_ok-part.ensures.pages ∙ is))
    (some-length (length c.in_ok-part.part.pairs) (sym c.is_empty.ensures ∙ c.if-is_empty.false)) c.at-pair.ensures

pub returns-clause-told : goal.returns-clause-told
returns-clause-told g c = λ a is.
    let told = c.in_ok-part.ensures.pages ∙ is in
    let bound = ap (λ (ts : List Named). get (map_named (maps_of a ts) c.args.name) c.at-pair.result.now.key) c.in_ok-part.ensures.tables
    ∙ first-bound (map_named (maps_of a c.args.self.now.tables) c.args.name) None 1 c.in_ok-part.part.pairs c.in_ok-part.part.last c.at-pair.result.now
    (c.in_ok-part.ensures.told a is) (some-length (length c.in_ok-part.part.pairs) (sym c.is_empty.ensures ∙ c.if-is_empty.false)) c.at-pair.ensures in
    then-ok c.move_pair.result (c.move_pair.ensures.told a told)
    (pair-moved (g.D.Disk.pages c.move_pair.new.self.cache.disk) c.move_pair.new.self.tables a c.args.self.now.tables c.part.new.self.tables c.args.name
    c.at-pair.result.now.key c.at-pair.result.now.value c.in_ok-part.ensures.tables bound)
