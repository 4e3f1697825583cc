use Rattle.std.proofs.Common.{◌≡◌, Bool, true, false, Option, Some, None, List, [], ◌∷◌, refl, ap, ◌∙◌}
use Rattle.std.specs.List.{AllByRecursion}
use Rattle.std.specs.Prelude.{ℕ, if◌then◌else◌}
use Rattle.dds_base.specs.declared.leaf.Leaf.{Leaf}
use Rattle.dds_base.specs.declared.node_set.NodeSet.{NodeSet}
use Rattle.dds_base.specs.declared.number.NodeNo.{NodeNo}
use Rattle.dds_base.specs.declared.pending.Pending.{Pending}
use Rattle.dds_brick_rows.specs.Take as takes
use Rattle.dds_core.proofs.Lists.{all-append, all-map}
use Rattle.dds_core.proofs.Tells.{Given, Gives, Sends, Sent, Tells, Who}
use Rattle.dds_letters.specs.declared.letter.Letter.{Letter}
use Rattle.dds_letters.specs.declared.letter.Letter.TheVariants as letter
use Rattle.dds_locks.specs.Outcomes.{OutcomeMap}
use Rattle.dds_states.specs.Turn.{BrickTurn, and_then, sends, still, to_each}
use Rattle.dds_states.specs.declared.brick_state.BrickState.{BrickState}
use Rattle.dds_states.specs.declared.brick_state.Deferred.{Deferred}
use Rattle.dds_states.specs.declared.brick_state.Resolving.{Resolving}

-- Turns that leave a brick's transactions alone: what is pending, noted, deferred and being resolved. They send letters of
-- orders alone. The rows for orders are such turns.

-- a letter of orders; what is said of a refused lease is a parameter
abbrev pub Orders : Sent → NodeNo → Letter → Type 0
Orders L to (letter.Push leaf) = Unit {0}
Orders L to (letter.Lease number what) = Unit {0}
Orders L to (letter.Granted number leaf) = Unit {0}
Orders L to (letter.LeaseRefused number why) = L to (letter.LeaseRefused number why)
Orders L to (letter.Release number name) = Unit {0}
Orders L to (letter.CopyAsk number name place) = Unit {0}
Orders L to (letter.CopyPart number last pairs) = Unit {0}
Orders L to (letter.Install number leaf) = Unit {0}
Orders L to (letter.Installed number name) = Unit {0}
Orders L to other = ⊥

abbrev pub AllOrders : Sent → List (NodeNo × Letter) → Type 0
AllOrders L ls = AllByRecursion (λ (p : NodeNo × Letter). Orders L p.0 p.1) ls

-- who a brick is, and what it has of transactions
pub record Whole : Type 0 where
  pub who : Who
  pub pending : List Pending
  pub outcomes : OutcomeMap
  pub deferred : List Deferred
  pub resolving : List Resolving

abbrev pub whole : BrickState → Whole
whole s =
    record {
      who = record { number = s.number; stopped = s.stopped; known = s.known };
      pending = s.locks.pending;
      outcomes = s.locks.outcomes;
      deferred = s.deferred;
      resolving = s.resolving;
    }

pub record Rests (L : Sent) (M : Given) (s : BrickState) (t : BrickTurn) : Type 0 where
  pub same : whole t.state ≡ whole s
  pub letters : AllOrders L t.out.letters
  pub replies : AllByRecursion (Gives M) t.out.replies

order-sends : (L : Sent) (to : NodeNo) (l : Letter) → Orders L to l → Sends L to l
order-sends L to (letter.LeaseRefused number why) h = h
order-sends L to (letter.Get txn caller call key name stamp) h = h
order-sends L to (letter.Prepare txn caller call below name stamp list op) h = h
order-sends L to letter.Notice h = h
order-sends L to (letter.Got txn a) h = absurd h
order-sends L to (letter.Vote txn vote) h = absurd h
order-sends L to other h = tt

pub rests-tells : {L : Sent} {M : Given} {s : BrickState} {t : BrickTurn} → Rests L M s t → Tells L M s t
rests-tells {L = L} {t = t} h =
    record {
      same = ap (λ (w : Whole). w.who) h.same;
      letters = all-map (λ (p : NodeNo × Letter). Orders L p.0 p.1) _ t.out.letters (λ p k. order-sends L p.0 p.1 k) h.letters;
      replies = h.replies;
    }

pub orders-each : (L : Sent) (nodes : List NodeNo) (l : Letter) → ((n : NodeNo) → Orders L n l) → AllOrders L (to_each nodes l)
orders-each L [] l h = tt
orders-each L (n ∷ ns) l h = (h n, orders-each L ns l h)

-- turns that change other things alone
pub rests-still : {L : Sent} {M : Given} (s u : BrickState) → whole u ≡ whole s → Rests L M s (still u)
rests-still s u e = record { same = e; letters = tt; replies = tt }

pub rests-sends : {L : Sent} {M : Given} (s u : BrickState) (ls : List (NodeNo × Letter)) → whole u ≡ whole s → AllOrders L ls → Rests L M s (sends u ls)
rests-sends s u ls e h = record { same = e; letters = h; replies = tt }

-- turns put together
pub rests-then : {L : Sent} {M : Given} (s : BrickState) (t : BrickTurn) (row : BrickState → BrickTurn) → Rests L M s t
    → ((u : BrickState) → Rests L M u (row u)) → Rests L M s (and_then t row)
rests-then s t row h f =
    let g = f t.state in
    record {
      same = g.same ∙ h.same;
      letters = all-append _ t.out.letters (row t.state).out.letters h.letters g.letters;
      replies = all-append _ t.out.replies
          (row t.state).out.replies h.replies g.replies;
    }

pub rests-if : {L : Sent} {M : Given} {s : BrickState} (c : Bool) {t u : BrickTurn} → Rests L M s t → Rests L M s u → Rests L M s (if c then t else u)
rests-if true h g = h
rests-if false h g = g

pub rests-when : {L : Sent} {M : Given} {s : BrickState} (c : Bool) {t u : BrickTurn} → (c ≡ true → Rests L M s t) → Rests L M s u
    → Rests L M s (if c then t else u)
rests-when true h g = h refl
rests-when false h g = g

pub rests-from : {L : Sent} {M : Given} (s u : BrickState) (t : BrickTurn) → whole u ≡ whole s → Rests L M u t → Rests L M s t
rests-from s u t e h = record { same = h.same ∙ e; letters = h.letters; replies = h.replies }

-- a leaf that is taken changes leaves alone
whole-if : (s u : BrickState) (b : Bool) → whole u ≡ whole s → whole (if b then u else s) ≡ whole s
whole-if s u true e = e
whole-if s u false e = refl

take-over-whole : (s : BrickState) (leaf : Leaf) (own : Option Leaf) → whole (takes.take_over s leaf own) ≡ whole s
take-over-whole s leaf None = refl
take-over-whole s leaf (Some own) = whole-if s _ _ refl

pub take-whole : (s : BrickState) (leaf : Leaf) → whole (takes.take s leaf) ≡ whole s
take-whole s leaf = take-over-whole s leaf _
