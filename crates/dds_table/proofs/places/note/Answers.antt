use Rattle.std.proofs.Common.{◌≡◌, cond, Some, None, is_some, length, ap, sym, ◌∙◌}
use Rattle.std.specs.BTreeMap as tree
use Rattle.dds_table.specs.Places.{name_cmp}
use Rattle.dds_base.specs.Name.{same_name}
use Rattle.dds_table.specs.Store.{named, place_named}
use Rattle.dds_table.proofs.TablePlaces.{note-there, note-new, names-alike, is-none, length-named}
use Rattle.dds_table.proofs.places.note.Goals as goal

pub returns-then-contains_key : goal.returns-then-contains_key
returns-then-contains_key c root n =
    c.requires n ∙ note-there (named c.args.tables.now) c.args.name n root (sym (ap is_some (c.requires c.args.name)) ∙ sym c.if-contains_key.ensures)

pub returns : goal.returns
returns c root n =
    let ts = named c.args.tables.now in
    let none : place_named ts c.args.name ≡ None = is-none (place_named ts c.args.name)
    (sym (ap is_some (c.requires c.args.name)) ∙ sym c.if-contains_key.ensures) in
    c.in_ok-insert.ensures.updates.0 n ∙ ap (λ b. cond b (Some (length c.args.tables.now)) (tree.get name_cmp c.args.places.now n)) (names-alike c.args.name n)
    ∙ ap (cond (same_name c.args.name n) (Some (length c.args.tables.now))) (c.requires n)
    ∙ ap (λ k. cond (same_name c.args.name n) (Some k) (place_named ts n)) (sym (length-named c.args.tables.now)) ∙ note-new ts c.args.name n root none
