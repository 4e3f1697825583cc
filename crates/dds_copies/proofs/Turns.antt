use Rattle.std.proofs.Common.{◌≡◌, ℕ, ◌&&◌, Bool, true, false, Option, Some, None, List, [], ◌∷◌, refl, sym, ◌∙◌}
use Rattle.std.specs.FinMap.{get}
use Rattle.std.specs.List.{AllByRecursion}
use Rattle.std.specs.Prelude.{is_some, if◌then◌else◌}
use Rattle.dds_base.specs.BrickList.{has}
use Rattle.dds_base.specs.Name.{Name}
use Rattle.dds_base.specs.declared.leaf.Leaf.{Leaf}
use Rattle.dds_base.specs.declared.number.NodeNo.{NodeNo}
use Rattle.dds_brick_rows.specs.Refusal.{lease_refusal}
use Rattle.dds_brick_rows.specs.Take as takes
use Rattle.dds_brick_rows.specs.declared.resolution.News.TheVariants as news
use Rattle.dds_core.proofs.Lists.{all-append}
use Rattle.dds_core.specs.Brick.{live_brick_turn}
use Rattle.dds_core.specs.Notice as notices
use Rattle.dds_groups.specs.Leaves.{successor}
use Rattle.dds_history.specs.Map.{Map}
use Rattle.dds_letters.specs.declared.letter.Letter.{Letter}
use Rattle.dds_letters.specs.declared.letter.Letter.TheVariants as letter
use Rattle.dds_letters.specs.declared.refusal.Refusal.{Refusal}
use Rattle.dds_letters.specs.declared.refusal.Wanted.{Wanted}
use Rattle.dds_letters.specs.declared.refusal.Wanted.TheVariants as wanted
use Rattle.dds_locks.specs.Leases.{is_given, lease_of}
use Rattle.dds_maps.specs.Own.{own_leaf}
use Rattle.dds_order_rows.specs.Orders as orders
use Rattle.dds_orders.proofs.Deeds.{AreOthers, is_of_orders}
use Rattle.dds_states.specs.Turn.{BrickTurn, and_then}
use Rattle.dds_states.specs.declared.brick_state.BrickState.{BrickState}
use Rattle.dds_states.specs.declared.brick_state.OpenOrder.{OpenOrder}
use Rattle.dds_copies.proofs.OrderRows as own
use Rattle.dds_copies.proofs.OrderRows.{same-order}
use Rattle.dds_copies.proofs.OtherRows as others
use Rattle.dds_copies.proofs.OtherRows.{Leaves}
use Rattle.dds_copies.specs.Copies.{AsksNext}
use Rattle.dds_copies.specs.Turns.{JoinCopies, JoinGoes, JoinHears, TurnsKeepCopies}

-- A whole turn of a brick keeps what its open join has copied the table's, and what it asks for is what follows.

other-asks : (o : OpenOrder) (l : Letter) → is_of_orders l ≡ false → AsksNext o l
other-asks o (letter.CopyAsk number name place) h = cc
other-asks o other h = tt

others-ask : (o : OpenOrder) (ls : List (NodeNo × Letter)) → AreOthers ls → AllByRecursion (λ (p : NodeNo × Letter). AsksNext o p.1) ls
others-ask o [] h = tt
others-ask o (l ∷ ls) h = (other-asks o l.1 h.0, others-ask o ls h.1)

left : (table : Map) (s : BrickState) (t : BrickTurn) → Leaves s t → JoinCopies table s → JoinGoes table t
left table s t g h = same-order table s t g.order (λ o. others-ask o t.out.letters g.others) h

-- a turn, and then one that leaves the order
then-left : (table : Map) (t : BrickTurn) (row : BrickState → BrickTurn) → JoinGoes table t → Leaves t.state (row t.state) → JoinGoes table (and_then t row)
then-left table t row h g =
    record {
      copies = λ q e. h.copies q (sym g.order ∙ e);
      asks = λ q e j. all-append (λ (p : NodeNo × Letter). AsksNext q p.1) t.out.letters (row t.state).out.letters
          (h.asks q (sym g.order ∙ e) j) (others-ask q (row t.state).out.letters g.others);
    }

goes-if : (table : Map) (c : Bool) (t u : BrickTurn) → JoinGoes table t → JoinGoes table u → JoinGoes table (if c then t else u)
goes-if table true t u f g = f
goes-if table false t u f g = g

-- orders of other bricks
granted : (table : Map) (s : BrickState) (from : NodeNo) (number : ℕ) (name : Name) (leaf : Option Leaf) → JoinCopies table s
    → JoinGoes table (orders.granted s from number name leaf)
granted table s from number name None h = same-order table s _ refl (λ o. tt) h
granted table s from number name (Some leaf) h = same-order table s _ refl (λ o. (tt, tt)) h

lease_answered : (table : Map) (s : BrickState) (from : NodeNo) (number : ℕ) (name : Name) (r : Option Refusal) → JoinCopies table s
    → JoinGoes table (orders.lease_answered s from number name r)
lease_answered table s from number name None h = granted table s from number name (get s.leaves name) h
lease_answered table s from number name (Some why) h = same-order table s _ refl (λ o. (tt, tt)) h

lease_row : (table : Map) (s : BrickState) (from : NodeNo) (number : ℕ) (what : Wanted) → JoinCopies table s
    → JoinGoes table (orders.lease_row s from number what)
lease_row table s from number (wanted.Name name) h = lease_answered table s from number name (lease_refusal s name None) h
lease_row table s from number (wanted.Leaf leaf) h =
    let t = takes.take s leaf in
    lease_answered table t from number leaf.name (lease_refusal t leaf.name (Some leaf.stamp)) (λ o e. h o (sym (others.take s leaf) ∙ e))

copy_ask_row : (table : Map) (s : BrickState) (from : NodeNo) (number : ℕ) (name : Name) (place : Option ℕ) → JoinCopies table s
    → JoinGoes table (orders.copy_ask_row s from number name place)
copy_ask_row table s from number name place h =
    goes-if table (is_given s.locks.leases name from && is_some (get s.leaves name)) _ _ (same-order table s _ refl (λ o. (tt, tt)) h)
    (same-order table s _ refl (λ o. tt) h)

installed_over : (table : Map) (s : BrickState) (from : NodeNo) (number : ℕ) (leaf : Leaf) (mine : Option Leaf) → JoinCopies table s
    → JoinGoes table (orders.installed_over s from number leaf mine)
installed_over table s from number leaf None h = same-order table s _ refl (λ o. tt) h
installed_over table s from number leaf (Some mine) h =
    goes-if table (is_some (successor mine leaf)) _ _ (same-order table s _ refl (λ o. (tt, tt)) h) (same-order table s _ refl (λ o. tt) h)

install_row : (table : Map) (s : BrickState) (from : NodeNo) (number : ℕ) (leaf : Leaf) → JoinCopies table s
    → JoinGoes table (orders.install_row s from number leaf)
install_row table s from number leaf h =
    goes-if table (is_some (lease_of s.locks.leases leaf.name from) && has leaf.list s.number) _ _
    (installed_over table s from number leaf (own_leaf s.leaves leaf.name) h) (same-order table s _ refl (λ o. tt) h)

notice_row : (table : Map) (s : BrickState) (y : NodeNo) → JoinCopies table s → JoinGoes table (notices.notice_row s y)
notice_row table s y h =
    let a = notices.order_part (notices.learns s y) y in
    let b = and_then a (λ t. notices.resolving_part t y) in
    let c = and_then b notices.deferred_part in
    then-left table c (λ t. notices.pending_part t y)
    (then-left table b notices.deferred_part (then-left table a (λ t. notices.resolving_part t y) (own.order_part table (notices.learns s y) y h)
    (others.all_hear a.state y news.Stopped)) (others.deferred_part b.state)) (others.pending_part c.state y)

pub turn : (table : Map) (s : BrickState) (from : NodeNo) (l : Letter) → JoinCopies table s → JoinHears table s from l
    → JoinGoes table (live_brick_turn s from l)
turn table s from (letter.Get txn caller call key name stamp) h k = left table s _ (others.get_row s from txn key name stamp) h
turn table s from (letter.Prepare txn caller call below name stamp list op) h k =
    left table s _ (others.prepare_row s from (record { txn = txn; caller = caller; call = call; op = op; list = list }) below name stamp) h
turn table s from (letter.Commit txn) h k = left table s _ (others.commit_row s from txn) h
turn table s from (letter.Abort txn) h k = left table s _ (others.abort_row s from txn) h
turn table s from (letter.Push leaf) h k = same-order table s _ (others.take s leaf) (λ o. tt) h
turn table s from (letter.MapAsk txn caller call key) h k = same-order table s _ refl (λ o. (tt, tt)) h
turn table s from (letter.Help txn list) h k = left table s _ (others.help_row s from txn list) h
turn table s from (letter.Query txn list) h k = left table s _ (others.query_row s from txn list) h
turn table s from (letter.Status txn status) h k = left table s _ (others.all_hear s from (news.Told txn status)) h
turn table s from (letter.Outcome txn commit) h k = left table s _ (others.outcome_row s txn commit) h
turn table s from (letter.Lease number what) h k = lease_row table s from number what h
turn table s from (letter.Granted number leaf) h k = own.granted_row table s from number leaf h
turn table s from (letter.LeaseRefused number why) h k = own.lease_refused_row table s from number why h
turn table s from (letter.Release number name) h k = same-order table s _ refl (λ o. tt) h
turn table s from (letter.CopyAsk number name place) h k = copy_ask_row table s from number name place h
turn table s from (letter.CopyPart number last pairs) h k = own.copy_part_row table s from number last pairs h k
turn table s from (letter.Install number leaf) h k = install_row table s from number leaf h
turn table s from (letter.Installed number name) h k = own.installed_row table s from number h
turn table s from letter.Notice h k = notice_row table s from h
turn table s from (letter.Got txn a) h k = same-order table s _ refl (λ o. tt) h
turn table s from (letter.Vote txn vote) h k = same-order table s _ refl (λ o. tt) h
turn table s from (letter.Applied txn was) h k = same-order table s _ refl (λ o. tt) h
turn table s from (letter.Aborted txn) h k = same-order table s _ refl (λ o. tt) h
turn table s from (letter.MapTell txn leaf) h k = same-order table s _ refl (λ o. tt) h

pub turns-keep : TurnsKeepCopies
turns-keep = record { hears = turn; told = own.told }
