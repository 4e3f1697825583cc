-- What a contract sees of a queue between two stages.
use Rattle.std.specs.Prelude.{ℕ, List, refl}
use Rattle.std.specs.Coded.{Coded, code_by, coded×, coded_list, coded_ℕ}

-- the items, first in first, and how many there may be
pub record QueueState (T : Type 0) : Type 0 where
  pub items : List T
  pub capacity : ℕ

abbrev pub queue : {T : Type 0} → List T → ℕ → QueueState T
queue items capacity = record { items = items; capacity = capacity }

abbrev pub queue_code : {T : Type 0} → Coded T → Coded (QueueState T)
queue_code {T = T} c =
    code_by (List T × ℕ) (coded× (coded_list c) coded_ℕ) (λ q. (q.items, q.capacity)) (λ p. record { items = p.0; capacity = p.1 }) (λ _. refl)
