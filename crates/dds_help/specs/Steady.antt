-- What a brick put off, and whom its resolvings wait for, by what the brick alone knows.
use Rattle.std.specs.Prelude.{ℕ, ◌≡◌, Bool, true, false}
use Rattle.std.specs.List.{AllByRecursion}
use Rattle.dds_base.specs.BrickList.{has}
use Rattle.dds_base.specs.declared.node_set.NodeSet.{NodeSet}
use Rattle.dds_brick_rows.specs.Resolution.{is_ready}
use Rattle.dds_states.specs.Turn.{is_none_left, unknown_others}
use Rattle.dds_states.specs.declared.brick_state.BrickState.{BrickState}
use Rattle.dds_states.specs.declared.brick_state.Deferred.{Deferred}
use Rattle.dds_states.specs.declared.brick_state.Question.{Question}
use Rattle.dds_states.specs.declared.brick_state.Question.TheVariants.{Help, Query}
use Rattle.dds_states.specs.declared.brick_state.Resolving.{Resolving}
use Rattle.dds_net.specs.Net.{Net, Node, nowhere, a_brick, a_library}

-- a question can be treated: a call for help where the brick itself can be the resolver, another one where its sender can be
abbrev pub is_due : NodeSet → ℕ → Deferred → Question → Bool
is_due known at d Help = is_ready known d.txn d.list at
is_due known at d Query = is_ready known d.txn d.list d.from

abbrev pub IsPutOff : NodeSet → ℕ → Deferred → Type 0
IsPutOff known at d = is_due known at d d.question ≡ false

-- a resolving waits for some other members, none known to have stopped
pub record Waits (known : NodeSet) (at : ℕ) (r : Resolving) : Type 0 where
  pub some : is_none_left r.waiting ≡ false
  pub others : AllByRecursion (λ n. has (unknown_others r.list at known) n ≡ true) r.waiting

-- | part        | why it is needed                                     | what keeps it                                                       |
-- | `deferred`  | in a quiet world all are ready, so nothing is put off | Help and Query put off what isn't ready; a Notice asks all again    |
-- | `resolving` | in a quiet world nobody is waited for, so nothing is  | a resolving is kept where one is waited for; a Notice lets each one |
-- |             | being resolved                                       | go on without the node                                              |
pub record Steady (known : NodeSet) (at : ℕ) (s : BrickState) : Type 0 where
  pub deferred : AllByRecursion (IsPutOff known at) s.deferred
  pub resolving : AllByRecursion (Waits known at) s.resolving

-- of each node
abbrev pub SteadyAt : ℕ → Node → Type 0
SteadyAt at nowhere = Unit {0}
SteadyAt at (a_brick s) = (s.number ≡ at) × Steady s.known at s
SteadyAt at (a_library s) = Unit {0}

abbrev pub AreSteady : Net → Type 0
AreSteady n = (at : ℕ) → SteadyAt at (n.node at)
