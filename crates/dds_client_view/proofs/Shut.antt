-- A call that was answered is never open again.
use Rattle.std.proofs.Common.{◌≡◌, ℕ, List, [], ◌∷◌, refl}
use Rattle.std.specs.List.{AllByRecursion}
use Rattle.std.specs.Prelude.{slice_get}
use Rattle.dds_base.specs.declared.number.CallNo.{CallNo}
use Rattle.dds_base.specs.declared.op.Reply.{Reply}
use Rattle.dds_cluster.specs.Trace.{all_closed, closed_by, closes, told_at}
use Rattle.dds_cluster.specs.declared.trace.Caller.{Caller}
use Rattle.dds_cluster.specs.declared.trace.Told.{Told}
use Rattle.dds_core.proofs.Lists.{all-map}
use Rattle.dds_once.proofs.Shut.{IsShut, all-closed-shut, answered-shut}
use Rattle.dds_once.proofs.Used.{IsUsed, closed-used}
use Rattle.dds_states.specs.declared.turn.Replied.{Replied}
use Rattle.dds_states.specs.declared.turn.Replied.TheVariants as replied

-- what is so of each call that a turn answers, and of its answer
abbrev pub ReplySays : (ℕ → CallNo → Reply → Type 0) → Replied → Type 0
ReplySays P (replied.Call read caller call reply) = P caller call reply
ReplySays P (replied.Order reply) = Unit {0}

says-map : (P Q : ℕ → CallNo → Reply → Type 0) (r : Replied) → ((k : ℕ) (call : CallNo) (x : Reply) → P k call x → Q k call x) → ReplySays P r → ReplySays Q r
says-map P Q (replied.Call read caller call reply) f h = f caller call reply h
says-map P Q (replied.Order reply) f h = tt

pub told-says : (P : ℕ → CallNo → Reply → Type 0) (Q : Told → Type 0) (place : ℕ) (rs : List Replied)
    → ((r : Told) → r.place ≡ place → P r.caller r.call r.reply → Q r) → AllByRecursion (ReplySays P) rs → AllByRecursion Q (told_at place rs)
told-says P Q place [] f h = tt
told-says P Q place (replied.Call read caller call reply ∷ rs) f h =
    (f (record { place = place; read = read; caller = caller; call = call; reply = reply }) refl h.0, told-says P Q place rs f h.1)
told-says P Q place (replied.Order reply ∷ rs) f h = told-says P Q place rs f h.1

pub replies-shut : (Q : ℕ → CallNo → Reply → Type 0) (cs : List Caller) (rs : List Replied)
    → AllByRecursion (ReplySays (λ k call x. IsUsed cs k call × Q k call x)) rs
    → AllByRecursion (ReplySays (λ k call x. IsShut (all_closed cs rs) k call × Q k call x)) rs
replies-shut Q cs [] h = tt
replies-shut Q cs (r ∷ rs) h = (
  first r h.0,
  replies-shut Q (closed_by cs r) rs
      (all-map (ReplySays (λ k call x. IsUsed cs k call × Q k call x)) (ReplySays (λ k call x. IsUsed (closed_by cs r) k call × Q k call x)) rs
      (λ q g. says-map (λ k call x. IsUsed cs k call × Q k call x) (λ k call x. IsUsed (closed_by cs r) k call × Q k call x) q
      (λ k call x w. (closed-used cs r k call w.0, w.1)) g) h.1),
)
  where
    first : (q : Replied) → ReplySays (λ k call x. IsUsed cs k call × Q k call x) q
        → ReplySays (λ k call x. IsShut (all_closed (closed_by cs q) rs) k call × Q k call x) q
    first (replied.Call read caller call reply) g = (
      all-closed-shut (closes cs caller (slice_get cs caller)) rs caller call (answered-shut cs caller call (slice_get cs caller) refl g.0),
      g.1,
    )
    first (replied.Order reply) g = tt
