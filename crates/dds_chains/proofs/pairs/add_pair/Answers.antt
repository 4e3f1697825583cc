use Rattle.std.proofs.Common.{ℕ, ◌∙◌, ap, arith, ◌+◌, ◌∷◌, []}
use Rattle.std.specs.FinMap.{insert}
use Rattle.dds_chains.specs.Index.{first_page, table_uses, vacant}
use Rattle.dds_pages.specs.Bucket.{bucket_bytes}
use Rattle.dds_pages.specs.Fields.{padded}
use Rattle.dds_chains.specs.declared.table.Slot.{Slot}
use Rattle.dds_chains.proofs.Adding.{then-ok, ok-of, pair-added, number-added, index-added, moved}
use Rattle.dds_chains.proofs.Knowing.{has-added}
use Rattle.dds_chains.proofs.pairs.add_pair.Goals as goal

pub returns-clause-number : goal.returns-clause-number
returns-clause-number g c =
    let slot : Slot = record { key = c.args.key; page = c.in_ok-page.page; len = c.len_of-len.result; overflow = c.in_ok-held.field-0.overflow } in
    ok-of c.write_root.result
    (moved c.take.new.self.free.items c.write_root.new.space.free.items c.take.new.self.fresh c.write_root.new.space.fresh (λ n. table_uses n c.link.new.self)
    (λ n. vacant n c.args.space.now.free.items c.args.space.now.fresh + table_uses n c.args.table.now)
    (c.write_root.ensures.free ∙ c.in_ok-write.ensures.free) (c.write_root.ensures.fresh ∙ c.in_ok-write.ensures.fresh)
    (number-added _ _ _ _ _ _ c.args.table.now c.link.new.self slot c.in_ok-held.ensures.number c.in_ok-page.ensures.number c.requires.index.long
    c.in_ok-link.ensures.root c.in_ok-link.ensures.buckets))

pub returns-clause-index : goal.returns-clause-index
returns-clause-index g c =
    ok-of c.write_root.result
    (index-added c.args.table.now c.link.new.self (record {
      key = c.args.key;
      page = c.in_ok-page.page;
      len = c.len_of-len.result;
      overflow = c.in_ok-held.field-0.overflow;
    }) c.requires.index c.requires.covers c.requires.new c.in_ok-link.ensures.name c.in_ok-link.ensures.len
    c.in_ok-link.ensures.buckets)

pub returns-clause-told : goal.returns-clause-told
returns-clause-told g c = λ a is t room.
    let slot : Slot = record { key = c.args.key; page = c.in_ok-page.page; len = c.len_of-len.result; overflow = c.in_ok-held.field-0.overflow } in
    let w = c.in_ok-held.ensures.told a is in
    let e2 = c.in_ok-write.ensures.told w.b (ap (λ k. g.D.Disk.pages k.disk) c.in_ok-page.ensures.cache ∙ w.is_told) in
    let index = index-added c.args.table.now c.link.new.self slot c.requires.index c.requires.covers c.requires.new c.in_ok-link.ensures.name
    c.in_ok-link.ensures.len c.in_ok-link.ensures.buckets in
    then-ok c.write_root.result (c.write_root.ensures.told (insert w.b c.in_ok-page.page (padded c.write_in.new.writer)) e2)
    (λ e. pair-added a _ _ _ _ _ _ c.args.table.now c.link.new.self slot c.in_ok-held.field-0.held c.args.value.now (padded c.write_in.new.writer) _ _ w
    c.in_ok-held.ensures.held c.in_ok-held.ensures.number c.in_ok-page.ensures.number c.in_ok-page.ensures.below (omega arith) c.len_of-len.ensures
    c.requires.single c.requires.index t room index c.in_ok-link.ensures.root c.in_ok-link.ensures.len c.in_ok-link.ensures.buckets
    (c.write_in.ensures ∙ ap bucket_bytes c.in_ok-bucket.ensures
    ∙ ap (λ (next : ℕ). bucket_bytes (record { pairs = record { key = c.args.key; held = c.in_ok-held.field-0.held } ∷ []; next = next }))
    (c.first_page-next.ensures ∙ ap first_page c.chain.ensures)) e)

pub returns-clause-keys : goal.returns-clause-keys
returns-clause-keys g c =
    let slot : Slot = record { key = c.args.key; page = c.in_ok-page.page; len = c.len_of-len.result; overflow = c.in_ok-held.field-0.overflow } in
    ok-of c.write_root.result (has-added c.args.table.now c.link.new.self slot c.requires.index.long c.in_ok-link.ensures.buckets)
