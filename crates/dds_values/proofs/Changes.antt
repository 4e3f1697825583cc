use Rattle.std.proofs.Common.{◌≡◌, ℕ, ◌==◌, Bool, true, false, cond, Option, Some, None, is_some, List, [], ◌∷◌, refl, sym, ap, ◌∙◌, subst}
use Rattle.std.proofs.lemmas.Bool.{both_ways, eqb-true}
use Rattle.std.specs.List.{AllByRecursion}
use Rattle.dds_base.specs.Number.{Txn}
use Rattle.dds_base.specs.Op.{the_key}
use Rattle.dds_base.specs.declared.number.NodeNo.{NodeNo}
use Rattle.dds_base.specs.declared.pending.Pending.{Pending}
use Rattle.dds_cluster.specs.declared.trace.Made.{Made}
use Rattle.dds_core.specs.Brick.{live_brick_turn}
use Rattle.dds_core.specs.Notice.{learns, order_part}
use Rattle.dds_letters.specs.declared.letter.Letter.{Letter}
use Rattle.dds_letters.specs.declared.letter.Letter.TheVariants as letter
use Rattle.dds_locks.specs.Pending.{holder}
use Rattle.dds_states.specs.Leaf.{leaf_for}
use Rattle.dds_states.specs.declared.brick_state.BrickState.{BrickState}
use Rattle.dds_values.specs.Below.{IsCovered, LeavesKeepHeld}
use Rattle.dds_values.specs.Values.{HoldsTable, IsHeldAt, IsLeftBy, before, bound_in}

-- A brick whose leaves change goes on holding what it should.

-- nothing is pending on a key that no leaf covers
free-if : (s : BrickState) (p : Pending) (rest : Option Txn) (key : ℕ) (b : Bool) → (the_key p.op == key) ≡ b → IsCovered s p
    → is_some (leaf_for s.leaves key) ≡ false → rest ≡ None → cond b (Some p.txn) rest ≡ None
free-if s p rest key true e covered un free =
    absurd (both_ways (is_some (leaf_for s.leaves key)) un
    (ap (λ k. is_some (leaf_for s.leaves k)) (sym (eqb-true (the_key p.op) key e)) ∙ covered))
free-if s p rest key false e covered un free = free

pub uncovered-free : (s : BrickState) (ps : List Pending) (key : ℕ) → AllByRecursion (IsCovered s) ps → is_some (leaf_for s.leaves key) ≡ false
    → holder ps key ≡ None
uncovered-free s [] key h un = refl
uncovered-free s (p ∷ ps) key h un =
    free-if s p (holder ps key) key (the_key p.op == key) refl h.0 un (uncovered-free s ps key h.1 un)

change-held : (made : List Made) (s u : BrickState) (key : ℕ) (b : Bool) → is_some (leaf_for s.leaves key) ≡ b → u.locks.pending ≡ s.locks.pending
    → AllByRecursion (IsCovered s) s.locks.pending → LeavesKeepHeld made s u → HoldsTable made s → is_some (leaf_for u.leaves key) ≡ true
    → IsHeldAt made u key
change-held made s u key true e same covered k h now =
    k.stays key now e ∙ h.held key e ∙ sym (ap (λ ps. bound_in (before made (holder ps key)) key) same)
change-held made s u key false e same covered k h now =
    k.comes key now e
    ∙ sym (ap (λ o. bound_in (before made o) key)
    (ap (λ ps. holder ps key) same ∙ uncovered-free s s.locks.pending key covered e))

pub leaves-held : (made : List Made) (s u : BrickState) → u.locks.pending ≡ s.locks.pending → AllByRecursion (IsCovered s) s.locks.pending
    → LeavesKeepHeld made s u → HoldsTable made s → HoldsTable made u
leaves-held made s u same covered k h =
    record {
      held = λ key now. change-held made s u key (is_some (leaf_for s.leaves key)) refl same covered k h now;
      after = subst (AllByRecursion (IsLeftBy made)) (sym same) h.after;
    }

-- at each letter that a brick takes: for a notice, where its open order has gone on
abbrev pub LeavesAt : List Made → BrickState → NodeNo → Letter → Type 0
LeavesAt made s from (letter.Push leaf) = LeavesKeepHeld made s (live_brick_turn s from (letter.Push leaf)).state
LeavesAt made s from (letter.Lease number what) = LeavesKeepHeld made s (live_brick_turn s from (letter.Lease number what)).state
LeavesAt made s from (letter.Granted number leaf) = LeavesKeepHeld made s (live_brick_turn s from (letter.Granted number leaf)).state
LeavesAt made s from (letter.LeaseRefused number why) = LeavesKeepHeld made s (live_brick_turn s from (letter.LeaseRefused number why)).state
LeavesAt made s from (letter.Release number name) = LeavesKeepHeld made s (live_brick_turn s from (letter.Release number name)).state
LeavesAt made s from (letter.CopyAsk number name place) = LeavesKeepHeld made s (live_brick_turn s from (letter.CopyAsk number name place)).state
LeavesAt made s from (letter.CopyPart number last pairs) = LeavesKeepHeld made s (live_brick_turn s from (letter.CopyPart number last pairs)).state
LeavesAt made s from (letter.Install number leaf) = LeavesKeepHeld made s (live_brick_turn s from (letter.Install number leaf)).state
LeavesAt made s from (letter.Installed number name) = LeavesKeepHeld made s (live_brick_turn s from (letter.Installed number name)).state
LeavesAt made s from letter.Notice = LeavesKeepHeld made s (order_part (learns s from) from).state
LeavesAt made s from other = Unit {0}

-- at those at which the brick's own order goes on
abbrev pub OwnKept : List Made → BrickState → NodeNo → Letter → Type 0
OwnKept made s from (letter.Granted number leaf) = LeavesAt made s from (letter.Granted number leaf)
OwnKept made s from (letter.CopyPart number last pairs) = LeavesAt made s from (letter.CopyPart number last pairs)
OwnKept made s from (letter.Installed number name) = LeavesAt made s from (letter.Installed number name)
OwnKept made s from letter.Notice = LeavesAt made s from letter.Notice
OwnKept made s from other = Unit {0}
