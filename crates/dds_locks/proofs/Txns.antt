-- Transactions are in a total order.
use Rattle.std.proofs.Common.{◌≡◌, ℕ, refl, ap, ◌∙◌}
use Rattle.std.specs.Ordering.{nat_cmp, ordering_then}
use Rattle.std.specs.declared.cmp.Ordering.{Ordering}
use Rattle.std.specs.declared.cmp.Ordering.TheVariants.{Less, Equal, Greater}
use Rattle.std.specs.Cmp.{IsTotalOrder, nat_cmp_total, on_total, then_total}
use Rattle.std.specs.FinMap.{IsAntisymmetric, nat_cmp-IsAntisymmetric}
use Rattle.dds_base.specs.Number.{Txn}
use Rattle.dds_locks.specs.Outcomes.{txn_cmp}

pub txn_total : IsTotalOrder txn_cmp
txn_total = then_total (on_total (λ (t : Txn). t.library) nat_cmp_total) (on_total (λ (t : Txn). t.number) nat_cmp_total)

txn : ℕ → ℕ → Txn
txn library number = record { library = library; number = number }

first-equal : (a b : Ordering) → ordering_then a b ≡ Equal → a ≡ Equal
first-equal Less b h = h
first-equal Equal b h = refl
first-equal Greater b h = h

second-equal : (a b : Ordering) → ordering_then a b ≡ Equal → b ≡ Equal
second-equal Less b h = cc
second-equal Equal b h = h
second-equal Greater b h = cc

pub txn_antisymmetric : IsAntisymmetric txn_cmp
unfolding txn
txn_antisymmetric a b h =
    let l : a.library ≡ b.library = nat_cmp-IsAntisymmetric a.library b.library (first-equal _ _ h) in
    let n : a.number ≡ b.number = nat_cmp-IsAntisymmetric a.number b.number (second-equal (nat_cmp a.library b.library) _ h) in
    ap (λ k. txn k a.number) l ∙ ap (λ k. txn b.library k) n
