use Rattle.std.proofs.Common.{sym, ◌∙◌, arith}
use Rattle.dds_table.specs.Store.{named}
use Rattle.dds_table.proofs.TablePlaces.{place-within, length-named}
use Rattle.dds_table.proofs.places.place_in.Goals as goal

pub returns-in-Some-clause-within : goal.returns-in-Some-clause-within
returns-in-Some-clause-within c =
    let at = place-within (named c.args.tables.now) c.args.name.now c.in-Some.place.now (sym (c.in-Some.ensures.value ∙ c.requires.placed c.args.name.now)) in
    let l = length-named c.args.tables.now in
    omega (arith, at, l)
