use Rattle.std.proofs.Common.{◌≡◌, ℕ, ◌&&◌, Bool, true, false, Option, Some, None, refl, sym, ap, ◌∙◌, subst}
use Rattle.std.specs.FinMap.{get}
use Rattle.std.specs.Prelude.{is_some, if◌then◌else◌}
use Rattle.dds_base.specs.BrickList.{has}
use Rattle.dds_base.specs.Name.{Name}
use Rattle.dds_base.specs.NodeSet.{has_node}
use Rattle.dds_base.specs.Number.{StampOf, Txn}
use Rattle.dds_base.specs.declared.leaf.Leaf.{Leaf}
use Rattle.dds_base.specs.declared.number.NodeNo.{NodeNo}
use Rattle.dds_base.specs.declared.op.Order.{Order}
use Rattle.dds_base.specs.declared.pending.Pending.{Pending}
use Rattle.dds_brick_rows.specs.Calls as calls
use Rattle.dds_brick_rows.specs.Refusal.{get_refusal, lease_refusal, update_denial}
use Rattle.dds_brick_rows.specs.Take as takes
use Rattle.dds_brick_rows.specs.declared.resolution.News.TheVariants as news
use Rattle.dds_core.proofs.LetterTells.{Any, Each, letter-rests, order_part}
use Rattle.dds_core.proofs.OrderTells.{order-rests}
use Rattle.dds_core.proofs.Rests.{Whole, whole}
use Rattle.dds_core.specs.Brick.{brick_input, live_brick_turn}
use Rattle.dds_core.specs.Notice as notices
use Rattle.dds_groups.specs.Leaves.{successor}
use Rattle.dds_groups.specs.Take.{may_take}
use Rattle.dds_law_leaf.proofs.Book.{Leafing}
use Rattle.dds_law_leaf.proofs.Plain as plain
use Rattle.dds_letters.specs.declared.letter.Letter.{Letter}
use Rattle.dds_letters.specs.declared.letter.Letter.TheVariants as letter
use Rattle.dds_letters.specs.declared.refusal.Denial.{Denial}
use Rattle.dds_letters.specs.declared.refusal.Refusal.{Refusal}
use Rattle.dds_letters.specs.declared.refusal.Wanted.{Wanted}
use Rattle.dds_letters.specs.declared.refusal.Wanted.TheVariants as wanted
use Rattle.dds_locks.specs.Leases.{is_given, lease_of}
use Rattle.dds_locks.specs.Pending.{IsApart}
use Rattle.dds_maps.specs.Own.{own_leaf}
use Rattle.dds_order_rows.specs.Orders as orders
use Rattle.dds_pairs.proofs.Binds.{told}
use Rattle.dds_pairs.proofs.NameTurns.{Keyed}
use Rattle.dds_pending.proofs.Leads.{Leads, letter-leads, order-leads}
use Rattle.dds_states.specs.Turn.{BrickTurn}
use Rattle.dds_states.specs.declared.brick_state.BrickState.{BrickState}
use Rattle.dds_room.proofs.Gains as own_rows
use Rattle.dds_room.proofs.Gains.{Gains, none}
use Rattle.dds_room.proofs.Prepares.{pended-apart, pended-room}
use Rattle.dds_room.proofs.RoomAfter.{Before, fewer-room, gains-room, later-room}
use Rattle.dds_room.proofs.Takes as rows
use Rattle.dds_room.proofs.Takes.{Fewer, alike}
use Rattle.dds_room.specs.Room.{HasRoom}

-- A brick has room after each letter and each order.

pub record After (u : BrickState) : Type 0 where
  pub room : HasRoom u
  pub apart : IsApart u.locks.pending

-- rows that leave pairs
took-if : (c : Bool) (s u : BrickState) → u.pairs ≡ s.pairs → (if c then u else s).pairs ≡ s.pairs
took-if true s u e = e
took-if false s u e = refl

took : (s : BrickState) (leaf : Leaf) (mine : Option Leaf) → (takes.take_over s leaf mine).pairs ≡ s.pairs
took s leaf None = refl
took s leaf (Some mine) =
    took-if (may_take s.number mine leaf (has_node s.known) (takes.is_free s mine.name)) s (record s { leaves = takes.replaced s.leaves mine leaf }) refl

granted : (s : BrickState) (from : NodeNo) (number : ℕ) (name : Name) (leaf : Option Leaf) → (orders.granted s from number name leaf).state.pairs ≡ s.pairs
granted s from number name None = refl
granted s from number name (Some leaf) = refl

answered : (s : BrickState) (from : NodeNo) (number : ℕ) (name : Name) (r : Option Refusal)
    → (orders.lease_answered s from number name r).state.pairs ≡ s.pairs
answered s from number name None = granted s from number name (get s.leaves name)
answered s from number name (Some why) = refl

lease_row : (s : BrickState) (from : NodeNo) (number : ℕ) (what : Wanted) → (orders.lease_row s from number what).state.pairs ≡ s.pairs
lease_row s from number (wanted.Name name) = answered s from number name (lease_refusal s name None)
lease_row s from number (wanted.Leaf leaf) =
    let t = takes.take s leaf in
    answered t from number leaf.name (lease_refusal t leaf.name (Some leaf.stamp)) ∙ took s leaf (own_leaf s.leaves leaf.name)

turn-if : (s : BrickState) (c : Bool) (t u : BrickTurn) → t.state.pairs ≡ s.pairs → u.state.pairs ≡ s.pairs → (if c then t else u).state.pairs ≡ s.pairs
turn-if s true t u e f = e
turn-if s false t u e f = f

installed_over : (s : BrickState) (from : NodeNo) (number : ℕ) (leaf : Leaf) (mine : Option Leaf)
    → (orders.installed_over s from number leaf mine).state.pairs ≡ s.pairs
installed_over s from number leaf None = refl
installed_over s from number leaf (Some mine) = turn-if s (is_some (successor mine leaf)) _ _ refl refl

install_row : (s : BrickState) (from : NodeNo) (number : ℕ) (leaf : Leaf) → (orders.install_row s from number leaf).state.pairs ≡ s.pairs
install_row s from number leaf =
    turn-if s (is_some (lease_of s.locks.leases leaf.name from) && has leaf.list s.number) _ _
    (installed_over s from number leaf (own_leaf s.leaves leaf.name)) refl

copy_ask_row : (s : BrickState) (from : NodeNo) (number : ℕ) (name : Name) (place : Option ℕ)
    → (orders.copy_ask_row s from number name place).state.pairs ≡ s.pairs
copy_ask_row s from number name place = turn-if s (is_given s.locks.leases name from && is_some (get s.leaves name)) _ _ refl refl

-- rows of calls that leave pending transactions too
got : (s : BrickState) (from : NodeNo) (txn : Txn) (key : ℕ) (r : Option Refusal) → Fewer s (calls.got s from txn key r).state
got s from txn key None = alike s s refl refl
got s from txn key (Some why) = alike s s refl refl

pending-of : (s u : BrickState) → whole u ≡ whole s → u.locks.pending ≡ s.locks.pending
pending-of s u e = ap (λ (w : Whole). w.pending) e

module _ (me : ℕ) (s : BrickState) (h : Before me s) where
  of-fewer : (from : NodeNo) (l : Letter) → Keyed (live_brick_turn s from l).state.leaves → Fewer s (live_brick_turn s from l).state
      → After (live_brick_turn s from l).state
  of-fewer from l now f =
      record {
        room = fewer-room me s (live_brick_turn s from l).state h now (letter-leads me s from l h.both.0.order) f;
        apart = f.apart h.apart;
      }

  of-gains : (from : NodeNo) (l : Letter) → Keyed (live_brick_turn s from l).state.leaves
      → whole (live_brick_turn s from l).state ≡ whole s → Gains s (live_brick_turn s from l).state → After (live_brick_turn s from l).state
  of-gains from l now w g =
      let pending = pending-of s (live_brick_turn s from l).state w in
      record {
        room = gains-room me s (live_brick_turn s from l).state h now (letter-leads me s from l h.both.0.order) pending g;
        apart = subst IsApart (sym pending) h.apart;
      }

  -- a Prepare
  voted : (from : NodeNo) (p : Pending) (library below : ℕ) (name : Name) (stamp : StampOf) (d : Option Denial) → update_denial s p.op name stamp ≡ d
      → Keyed s.leaves → After (calls.voted (calls.trim s library below) from p d).state
  voted from p library below name stamp None e keyed =
      record {
        room = pended-room me s p name stamp h e (calls.voted (calls.trim s library below) from p None).state refl refl refl;
        apart = pended-apart me s p name stamp h e;
      }
  voted from p library below name stamp (Some d) e keyed =
      record { room = later-room s (calls.trim s library below) keyed h.apart refl (λ q t. t) h.room; apart = h.apart }

  -- a notice: what it does for orders, and then the rest, which leaves leaves alone
  notice : (y : NodeNo) → Keyed (notices.notice_row s y).state.leaves → After (notices.notice_row s y).state
  notice y now =
      let a = (notices.order_part (notices.learns s y) y).state in
      let b = (notices.resolving_part a y).state in
      let c = (notices.deferred_part b).state in
      let d = (notices.pending_part c y).state in
      let leaves : d.leaves ≡ a.leaves =
      ap (λ (x : Leafing). x.leaves) ((plain.pending_part c y).same ∙ (plain.deferred_part b).same ∙ (plain.all_hear a y news.Stopped).same) in
      let pending : a.locks.pending ≡ s.locks.pending =
      ap (λ (w : Whole). w.pending) (order_part {L = Any} {M = Each} (notices.learns s y) y).same in
      let keyed : Keyed a.leaves = subst Keyed leaves now in
      let leads = subst (λ m. Leads s m) leaves (letter-leads me s y letter.Notice h.both.0.order) in
      let first = gains-room me s a h keyed leads pending (own_rows.order_part s h.small y) in
      let rest = rows.behind a y in
      let apart = rest.apart (subst IsApart (sym pending) h.apart) in
      record { room = later-room a d keyed apart leaves rest.taken first; apart = apart }

  pub turn-room : (from : NodeNo) (l : Letter) → Keyed s.leaves → Keyed (live_brick_turn s from l).state.leaves → After (live_brick_turn s from l).state
  turn-room from (letter.Get txn caller call key name stamp) was now =
      of-fewer from (letter.Get txn caller call key name stamp) now (got s from txn key (get_refusal s key name stamp))
  turn-room from (letter.Prepare txn caller call below name stamp list op) was now =
      voted from (record { txn = txn; caller = caller; call = call; op = op; list = list }) txn.library below name stamp
      (update_denial s op name stamp) refl was
  turn-room from (letter.Commit txn) was now = of-fewer from (letter.Commit txn) now (rows.commit_row s from txn)
  turn-room from (letter.Abort txn) was now = of-fewer from (letter.Abort txn) now (rows.abort_row s from txn)
  turn-room from (letter.Push leaf) was now =
      of-gains from (letter.Push leaf) now (letter-rests s from from (letter.Push leaf) tt).same (none (took s leaf (own_leaf s.leaves leaf.name)))
  turn-room from (letter.Help txn list) was now = of-fewer from (letter.Help txn list) now (rows.help_row s from txn list)
  turn-room from (letter.Query txn list) was now = of-fewer from (letter.Query txn list) now (rows.query_row s from txn list)
  turn-room from (letter.Status txn status) was now = of-fewer from (letter.Status txn status) now (rows.all_hear s from (news.Told txn status))
  turn-room from (letter.Outcome txn commit) was now = of-fewer from (letter.Outcome txn commit) now (rows.outcome_row s txn commit)
  turn-room from (letter.Lease number what) was now =
      of-gains from (letter.Lease number what) now (letter-rests s from from (letter.Lease number what) tt).same (none (lease_row s from number what))
  turn-room from (letter.Granted number leaf) was now =
      of-gains from (letter.Granted number leaf) now (letter-rests s from from (letter.Granted number leaf) tt).same
      (own_rows.granted_row s h.small from number leaf)
  turn-room from (letter.LeaseRefused number why) was now =
      of-gains from (letter.LeaseRefused number why) now (letter-rests s from from (letter.LeaseRefused number why) tt).same
      (own_rows.lease_refused_row s h.small from number why)
  turn-room from (letter.Release number name) was now =
      of-gains from (letter.Release number name) now (letter-rests s from from (letter.Release number name) tt).same (none refl)
  turn-room from (letter.CopyAsk number name place) was now =
      of-gains from (letter.CopyAsk number name place) now (letter-rests s from from (letter.CopyAsk number name place) tt).same
      (none (copy_ask_row s from number name place))
  turn-room from (letter.CopyPart number last pairs) was now =
      of-gains from (letter.CopyPart number last pairs) now (letter-rests s from from (letter.CopyPart number last pairs) tt).same
      (own_rows.copy_part_row s h.small from number last pairs)
  turn-room from (letter.Install number leaf) was now =
      of-gains from (letter.Install number leaf) now (letter-rests s from from (letter.Install number leaf) tt).same (none (install_row s from number leaf))
  turn-room from (letter.Installed number name) was now =
      of-gains from (letter.Installed number name) now (letter-rests s from from (letter.Installed number name) tt).same
      (own_rows.installed_row s h.small from number)
  turn-room from letter.Notice was now = notice from now
  turn-room from other was now = of-fewer from other now (alike s s refl refl)

  -- an order that comes
  pub told-room : (o : Order) → Keyed (brick_input s o).state.leaves → After (brick_input s o).state
  told-room o now =
      let pending = pending-of s (brick_input s o).state (order-rests {L = Any} s o).same in
      record {
        room = gains-room me s (brick_input s o).state h now (order-leads s o) pending (none (told s o));
        apart = subst IsApart (sym pending) h.apart;
      }
