-- What stages send, of one event and of a list of events. `sends` is a stage's own meaning.
use Rattle.std.specs.Prelude.{ℕ, ◌≡◌, List, [], ◌∷◌, ◌++◌, Bool, true, false, refl}
use Rattle.std.specs.Coded.{Coded, code_by, coded×, coded_bool}
use Rattle.dds_stage.specs.Queue.{QueueState, queue}

-- one event's list stands behind what was in the queue, whose capacity is as before
pub record SentOne {S E T : Type 0} (sends : S → E → S → List T → Type 0) (old : S) (event : E) (new : S) (before after : QueueState T) : Type 0 where
  pub sent : List T
  pub meaning : sends old event new sent
  pub added : after ≡ queue (before.items ++ sent) before.capacity

-- the first event's list, and then the others' from the state that it left
pub record SentFirst {S E T : Type 0} (sends : S → E → S → List T → Type 0) (others : S → List T → Type 0) (old : S) (event : E) (all : List T) : Type 0 where
  pub middle : S
  pub sent : List T
  pub rest : List T
  pub meaning : sends old event middle sent
  pub then : others middle rest
  pub whole : all ≡ sent ++ rest

-- what a list of events sends, in order, each from the state that the one before left
abbrev pub Sends : {S E T : Type 0} → (S → E → S → List T → Type 0) → S → List E → S → List T → Type 0
Sends sends old [] new all = (new ≡ old) × (all ≡ [])
Sends sends old (event ∷ events) new all = SentFirst sends (λ middle rest. Sends sends middle events new rest) old event all

-- the composition of two stages' meanings: what the first sends of an event, and what the second sends of that
pub record Composed {A B E M T : Type 0} (first : A → E → A → List M → Type 0) (second : B → M → B → List T → Type 0) (a : A) (b : B) (event : E) (a' : A)
    (b' : B) (before after : List T) : Type 0 where
  pub between : List M
  pub sent : List T
  pub of_first : first a event a' between
  pub of_second : Sends second b between b' sent
  pub added : after ≡ before ++ sent

-- what a list of events adds behind a list
pub record SentAll {S E T : Type 0} (sends : S → E → S → List T → Type 0) (old : S) (events : List E) (new : S) (before after : List T) : Type 0 where
  pub sent : List T
  pub meaning : Sends sends old events new sent
  pub added : after ≡ before ++ sent

-- what one event adds behind a list
pub record AddedOne {S E T : Type 0} (sends : S → E → S → List T → Type 0) (old : S) (event : E) (new : S) (before after : List T) : Type 0 where
  pub sent : List T
  pub meaning : sends old event new sent
  pub added : after ≡ before ++ sent

-- some of the events were taken: whatever the rest sends from now on, the whole sends that behind what was sent so far
pub record SentSoFar {S E T : Type 0} (sends : S → E → S → List T → Type 0) (old : S) (events : List E) (now : S) (rest : List E)
    (before after : List T) : Type 0 where
  pub sent : List T
  pub added : after ≡ before ++ sent
  pub whole : (new : S) (more : List T) → Sends sends now rest new more → Sends sends old events new (sent ++ more)

-- two stages, and whether there was no memory for an event
pub record PumpState (A B : Type 0) : Type 0 where
  pub first : A
  pub second : B
  pub failed : Bool

abbrev pub pump_code : {A B : Type 0} → Coded A → Coded B → Coded (PumpState A B)
pump_code {A = A} {B = B} a b =
    code_by (A × (B × Bool)) (coded× a (coded× b coded_bool))
    (λ p. (p.first, (p.second, p.failed))) (λ q. record { first = q.0; second = q.1.0; failed = q.1.1 }) (λ _. refl)

-- both queues are empty and have room for what one event sends, unless there was no memory
abbrev pub AreReady : {M T : Type 0} → Bool → ℕ → ℕ → QueueState M → QueueState T → Type 0
AreReady true m n between behind = Unit {0}
AreReady false m n between behind = (between ≡ queue [] m) × (behind ≡ queue [] n)
