-- What is so of an answer that was given.
use Rattle.std.proofs.Common.{◌≡◌, ℕ, ◌<◌, true, false, List, [], ◌∷◌, refl}
use Rattle.std.proofs.lemmas.Bool.{both_ways}
use Rattle.std.specs.List.{AllByRecursion}
use Rattle.dds_base.specs.Op.{is_get}
use Rattle.dds_base.specs.declared.number.CallNo.{CallNo}
use Rattle.dds_base.specs.declared.op.Reply.{Reply}
use Rattle.dds_base.specs.declared.op.Reply.TheVariants as reply
use Rattle.dds_world.specs.Stands.{is_result}
use Rattle.dds_client_view.proofs.Asked.{OpenIsAsked}
use Rattle.dds_client_view.proofs.Order.{IsAt, made-at}
use Rattle.dds_cluster.specs.Lists.{is_asked}
use Rattle.dds_client_view.proofs.Once.{OtherTold}
use Rattle.dds_net.proofs.Pairwise.{Pairwise}
use Rattle.dds_client_view.proofs.Shut.{ReplySays}
use Rattle.dds_client_view.specs.Client.{is_loss}
use Rattle.dds_cluster.specs.declared.trace.Asked.{Asked}
use Rattle.dds_cluster.specs.declared.trace.Caller.{Caller}
use Rattle.dds_cluster.specs.declared.trace.Made as trace
use Rattle.dds_cluster.specs.declared.trace.Told.{Told}
use Rattle.dds_core.proofs.Tells.{Given, Gives}
use Rattle.dds_core.specs.Brick.{live_brick_turn}
use Rattle.dds_net.specs.Event.{Event, History, brick_takes, points_of}
use Rattle.dds_once.proofs.Shut.{IsShut}
use Rattle.dds_states.specs.declared.turn.Replied.{Replied}
use Rattle.dds_states.specs.declared.turn.Replied.TheVariants as replied

-- an update's point that is of the call stands before a place
abbrev pub IsEarlier : ℕ → ℕ → CallNo → trace.Made → Type 0
IsEarlier place caller call m = is_get m.entry.op ≡ false → m.entry.caller ≡ caller → m.entry.call ≡ call → m.place < place

-- a call is no get, if it is this one
abbrev pub IsUpdate : ℕ → CallNo → Asked → Type 0
IsUpdate caller call x = x.caller ≡ caller → x.call ≡ call → is_get x.op ≡ false

abbrev pub LosesUpdate : List Asked → ℕ → CallNo → Reply → Type 0
LosesUpdate asked caller call r = is_loss r ≡ true → AllByRecursion (IsUpdate caller call) asked

-- What is so of an answer.
--
-- | part     | why it is needed       | which events keep it                                                               |
-- | `shut`   | no point comes later   | an answer closes the call, and its caller makes no call with this number again     |
-- | `before` | the claim              | what is applied is of an open call; the points before an answer have earlier places |
-- | `lost`   | a get isn't lost       | a call that commits is an update; a call is asked once                             |
-- | `was_asked` | it is to a call     | an open call is its caller's open one, which was asked                             |
pub record Ends (cs : List Caller) (asked : List Asked) (made : List trace.Made) (r : Told) : Type 0 where
  pub shut : IsShut cs r.caller r.call
  pub before : AllByRecursion (IsEarlier r.place r.caller r.call) made
  pub lost : LosesUpdate asked r.caller r.call r.reply
  pub was_asked : is_asked asked r.caller r.call ≡ true

pub record AreEnded (h : History) : Type 0 where
  pub open_calls : OpenIsAsked h.callers h.asked
  pub apart : Pairwise OtherTold h.told
  pub places : AllByRecursion (λ (m : trace.Made). m.place < h.steps) h.made
  pub ends : AllByRecursion (Ends h.callers h.asked h.made) h.told

pub points-at : (place : ℕ) (e : Event) → AllByRecursion (IsAt place) (points_of place e)
points-at place (brick_takes at from l s) = made-at place l (live_brick_turn s from l).out.points
points-at place other = tt

pub no-calls : (M : Given) (P : ℕ → CallNo → Reply → Type 0) (rs : List Replied) → AllByRecursion (Gives M) rs → AllByRecursion (ReplySays P) rs
no-calls M P [] h = tt
no-calls M P (replied.Order r ∷ rs) h = (tt, no-calls M P rs h.1)
no-calls M P (replied.Call read caller call r ∷ rs) h = absurd h.0

pub no-loss : (r : Reply) → is_loss r ≡ false → is_loss r ≡ true → ⊥
no-loss r e f = both_ways (is_loss r) e f

pub result-no-loss : (r : Reply) → is_result r ≡ true → is_loss r ≡ false
result-no-loss (reply.Lost name) e = cc
result-no-loss other e = refl
