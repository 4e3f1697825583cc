use Rattle.std.proofs.Common.{◌≡◌, inl, inr, Some, sym, ap, ◌∙◌}
use Rattle.dds_base.specs.BrickList.{has}
use Rattle.dds_law_leaf.proofs.Book.{Body, Known, body}
use Rattle.dds_law_leaf.proofs.Ever.{known-leaf}
use Rattle.dds_letters.specs.declared.letter.Letter.TheVariants as letter
use Rattle.dds_net.proofs.Runs.{sized-run}
use Rattle.dds_net.proofs.Ways.{travels}
use Rattle.dds_net.specs.Net.{net, sizes_of}
use Rattle.dds_parents.proofs.Keeps.{Gone}
use Rattle.dds_parents.proofs.Parents.{gone-not}
use Rattle.dds_world.specs.Places.{reached}
use Rattle.dds_pending.proofs.Fits.{IsPrepared, PrepareOk}
use Rattle.dds_pending.proofs.Runs.{run-fitting}
use Rattle.dds_pending.specs.Sent.{PreparesListTheLive}

-- What the invariant says of the Prepares on their way in a world, and of the leaves that stand there.

some-is : (x y : Body) → Some x ≡ Some y → x ≡ y
some-is x y e = cc

pub prepares-list : PreparesListTheLive
prepares-list o journal from to txn caller call below name stamp list op leaf h run on_way there is other t has_it live =
    let z = sizes_of o in
    let w = reached o journal in
    let gone = Gone (net z w) in
    let g = run-fitting o journal h run in
    let b = g.known.book in
    let ok : IsPrepared b gone stamp list =
    travels (PrepareOk b gone) z w from to (letter.Prepare txn caller call below name stamp list op) (sized-run o journal) on_way (g.prepares from to) in
    let known : Known b leaf = known-leaf z w leaf (sized-run o journal) g.known there in
    let same : body leaf ≡ ok.body = some-is (body leaf) ok.body (sym known ∙ ap b is ∙ ok.there) in
    elim (ok.lists other (sym (ap (λ (x : Body). has x.list other) same) ∙ has_it)) [
      | inl i ↦ i
      | inr stopped ↦ absurd (gone-not z w other t live stopped)
    ]
