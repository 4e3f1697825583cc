use Rattle.std.proofs.Common.{ℕ, List, sym, ◌∙◌, ap, arith, ◌+◌, ◌≤◌, subst}
use Rattle.dds_base.specs.Place.{bucket as bucket_no}
use Rattle.dds_chains.specs.Index.{table_uses, vacant, chain_uses, IsChain}
use Rattle.dds_chains.specs.Answers.{Bridged}
use Rattle.dds_chains.specs.declared.table.Slot.{Slot}
use Rattle.dds_chains.proofs.Uses.{bucket-within}
use Rattle.dds_chains.proofs.Adding.{then-ok, ok-of, moved}
use Rattle.dds_chains.proofs.Removing.{index-out, number-out, pair-removed, less-out, gone-out}
use Rattle.dds_chains.proofs.Knowing.{has-removed}
use Rattle.dds_chains.proofs.removal.remove_pair.Goals as goal

pub returns-clause-index : goal.returns-clause-index
returns-clause-index g c =
    ok-of c.write_root.result (index-out c.args.table.now c.unlink-slot.new.self c.args.key c.args.place c.requires.index c.unlink-slot.ensures.name
    c.unlink-slot.ensures.len c.unlink-slot.ensures.buckets)

pub returns-clause-number : goal.returns-clause-number
returns-clause-number g c =
    ok-of c.write_root.result
    (moved c.release.new.space.free.items c.write_root.new.space.free.items c.release.new.space.fresh c.write_root.new.space.fresh
    (λ n. table_uses n c.unlink-slot.new.self) (λ n. vacant n c.args.space.now.free.items c.args.space.now.fresh + table_uses n c.args.table.now)
    c.write_root.ensures.free c.write_root.ensures.fresh
    (number-out c.args.space.now.free.items c.bridge.new.space.free.items c.release.new.space.free.items c.args.space.now.fresh c.bridge.new.space.fresh
    c.release.new.space.fresh c.args.table.now c.unlink-slot.new.self c.args.key c.args.place c.unlink-slot.result c.requires.index.long c.requires.within
    c.unlink-slot.ensures.slot c.in_ok-bridge.ensures.free c.in_ok-bridge.ensures.fresh c.in_ok-release.ensures.number c.unlink-slot.ensures.root
    c.unlink-slot.ensures.buckets))

pub returns-clause-told : goal.returns-clause-told
returns-clause-told g c = λ a is t.
    let h : IsChain a c.chain.result.now = subst (IsChain a) (sym c.chain.ensures) (t.chains (bucket_no c.args.key)) in
    let few : (n : ℕ) → chain_uses n c.chain.result.now ≤ 1 =
    λ n. subst (λ (ss : List Slot). chain_uses n ss ≤ 1) (sym c.chain.ensures)
    (let k = bucket-within n c.args.table.now.buckets.items (bucket_no c.args.key) in omega (arith, k, c.requires.single n)) in
    let w0 = c.in_ok-bridge.ensures.told a is h few in
    let w = subst (λ (ss : List Slot). Bridged a ss c.args.place (g.D.Disk.pages c.bridge.new.space.cache.disk)) c.chain.ensures w0 in
    then-ok c.write_root.result (c.write_root.ensures.told w.b (ap (λ k. g.D.Disk.pages k.disk) c.in_ok-release.ensures.cache ∙ w.is_told))
    (λ e. pair-removed a _ _ c.args.table.now c.unlink-slot.new.self c.args.key c.args.place c.unlink-slot.result _ _ w c.requires.index
    (index-out c.args.table.now c.unlink-slot.new.self c.args.key c.args.place c.requires.index c.unlink-slot.ensures.name c.unlink-slot.ensures.len
    c.unlink-slot.ensures.buckets) t c.requires.there c.requires.within c.unlink-slot.ensures.slot c.requires.single c.unlink-slot.ensures.root
    c.unlink-slot.ensures.len c.unlink-slot.ensures.buckets e)

pub returns-clause-less : goal.returns-clause-less
returns-clause-less g c = λ a is t. ok-of c.write_root.result
    (less-out a c.args.table.now c.unlink-slot.new.self c.args.key c.args.place c.requires.index t c.requires.within c.unlink-slot.ensures.len
    c.unlink-slot.ensures.buckets)

pub returns-clause-gone : goal.returns-clause-gone
returns-clause-gone g c = ok-of c.write_root.result (gone-out c.args.table.now c.unlink-slot.new.self c.args.key c.args.place c.requires.index c.requires.there
    c.unlink-slot.ensures.buckets)

pub returns-clause-keys : goal.returns-clause-keys
returns-clause-keys g c = ok-of c.write_root.result (has-removed c.args.table.now c.unlink-slot.new.self c.args.key c.args.place c.requires.index
    c.requires.there c.unlink-slot.ensures.buckets)
