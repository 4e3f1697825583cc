use Rattle.std.proofs.Common.{◌≡◌, ℕ, true, Some, List, sym, ap, ◌∙◌}
use Rattle.dds_brick_rows.specs.Refusal.{is_join}
use Rattle.dds_cluster.specs.declared.trace.Caller.{Caller}
use Rattle.dds_cluster.specs.declared.trace.Made.{Made}
use Rattle.dds_core.specs.Brick.{live_brick_turn}
use Rattle.dds_core.specs.Notice.{learns, order_part}
use Rattle.dds_law_own.proofs.Owned.{orderly}
use Rattle.dds_letters.specs.declared.letter.Letter.{Letter}
use Rattle.dds_letters.specs.declared.letter.Letter.TheVariants as letter
use Rattle.dds_net.specs.Event.{Event, Fits, History, Takes, nothing, unheard, unasked, brick_takes, brick_told, brick_stops, library_asked, library_stops}
use Rattle.dds_net.specs.Event.{library_takes}
use Rattle.dds_net.specs.Net.{Net, Sizes, a_brick}
use Rattle.dds_pairs.proofs.NameKeeps.{keyed-at}
use Rattle.dds_states.specs.declared.brick_state.BrickState.{BrickState}
use Rattle.dds_states.specs.declared.brick_state.OpenOrder.{OpenOrder}
use Rattle.dds_values.specs.Below.{LeavesKept, OwnLeavesAt, WhereServed}
use Rattle.dds_values.specs.Values.{table}
use Rattle.dds_copies.proofs.Before.{Before, its-names, its-own, its-pairs}
use Rattle.dds_copies.proofs.Ends.{none-under}
use Rattle.dds_copies.proofs.JoinHears.{copies-now, hears-next}
use Rattle.dds_copies.proofs.Served.{Serves, ServesAt, own-serves, serves-held}

-- Where a brick serves the leaf that its own join made, it holds the table for the keys that it comes to cover.

module _ (z : Sizes) (cs : List Caller) (made : List Made) (n : Net) (g : Before z made n) (at from : ℕ) (l : Letter) (s : BrickState)
    (f : Takes z n at from l (a_brick s)) where
  its-serves : (p : OpenOrder) → s.order ≡ Some p → is_join p.task ≡ true → ServesAt (table made) s p from l
  its-serves p there join =
      own-serves (table made) s p there join at (orderly at s.order p there (its-own z made n g at s f.here).0.order)
      (copies-now z cs made n g at from l s f p there join) from l (hears-next z cs made n g at from l s f p there join)

  -- an order that is a join later is one before
  where-served : (u : BrickState) → ((p : OpenOrder) → s.order ≡ Some p → is_join p.task ≡ true → Serves (table made) s.leaves s.pairs p u)
      → WhereServed made s u
  where-served u its p o leaf there it join leaves pairs =
      let was = ap is_join (sym it.1) ∙ join in
      let both = its-own z made n g at s f.here in
      serves-held made s u p (keyed-at at s both) (its-names z made n g at s f.here).is.0
      (λ key over. none-under at s p key both (its-pairs z made n g at s f.here) there was over) (its p there was)

own-leaves : (z : Sizes) (cs : List Caller) (made : List Made) (n : Net) → Before z made n → (at from : ℕ) (l : Letter) (s : BrickState)
    → Takes z n at from l (a_brick s) → OwnLeavesAt made s from l
own-leaves z cs made n g at from (letter.Granted number leaf) s f =
    let l = letter.Granted number leaf in
    where-served z cs made n g at from l s f (live_brick_turn s from l).state (its-serves z cs made n g at from l s f)
own-leaves z cs made n g at from (letter.CopyPart number last pairs) s f =
    let l = letter.CopyPart number last pairs in
    where-served z cs made n g at from l s f (live_brick_turn s from l).state (its-serves z cs made n g at from l s f)
own-leaves z cs made n g at from (letter.Installed number name) s f =
    let l = letter.Installed number name in
    where-served z cs made n g at from l s f (live_brick_turn s from l).state (its-serves z cs made n g at from l s f)
own-leaves z cs made n g at from letter.Notice s f =
    where-served z cs made n g at from letter.Notice s f (order_part (learns s from) from).state (its-serves z cs made n g at from letter.Notice s f)
own-leaves z cs made n g at from other s f = tt

pub leaves-kept : (z : Sizes) (h : History) (n : Net) → Before z h.made n → (e : Event) → Fits z h.callers n e → LeavesKept h e
leaves-kept z h n g (brick_takes at from l s) f = own-leaves z h.callers h.made n g at from l s f
leaves-kept z h n g nothing f = tt
leaves-kept z h n g (unheard at from l) f = tt
leaves-kept z h n g (unasked at caller call o) f = tt
leaves-kept z h n g (brick_told at o s) f = tt
leaves-kept z h n g (brick_stops at s left) f = tt
leaves-kept z h n g (library_takes at from l s) f = tt
leaves-kept z h n g (library_asked at caller call o s) f = tt
leaves-kept z h n g (library_stops at s left) f = tt
