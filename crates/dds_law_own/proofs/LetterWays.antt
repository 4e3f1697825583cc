use Rattle.std.proofs.Common.{◌≡◌, ◌<◌, false, refl}
use Rattle.dds_base.specs.NodeSet.{has_node}
use Rattle.dds_base.specs.declared.number.NodeNo.{NodeNo}
use Rattle.dds_base.specs.declared.op.Order.{Order}
use Rattle.dds_base.specs.declared.op.Order.TheVariants as the_order
use Rattle.dds_brick_rows.specs.Take as takes
use Rattle.dds_brick_rows.specs.declared.resolution.News.TheVariants as news
use Rattle.dds_core.specs.Brick.{brick_input, live_brick_turn}
use Rattle.dds_core.specs.Notice as notices
use Rattle.dds_letters.specs.declared.letter.Letter.{Letter}
use Rattle.dds_letters.specs.declared.letter.Letter.TheVariants as letter
use Rattle.dds_states.specs.declared.brick_state.BrickState.{BrickState}
use Rattle.dds_law_own.proofs.Changes.{Goes, after, does, goes-then, learns, one, own, releases, same}
use Rattle.dds_law_own.proofs.OrderWays as orders
use Rattle.dds_law_own.proofs.Ways as rows

-- The changes of a live brick's turn at each letter, and at an order.

-- a node's number, that of one that isn't known to have stopped; and the letter is no notice of the brick itself
pub record IsOfAnother (s : BrickState) (from : NodeNo) (l : Letter) : Type 0 where
  pub below : from < 80
  pub unknown : has_node s.known from ≡ false
  pub other : l ≡ letter.Notice → from ≡ s.number → ⊥

notice-way : (s : BrickState) (y : NodeNo) → y < 80 → (y ≡ s.number → ⊥) → Goes (own s) (notices.notice_row s y)
notice-way s y below ne =
    let a = notices.learns s y in
    let b = (notices.order_part a y).state in
    let c = (notices.resolving_part b y).state in
    let d = (notices.deferred_part c).state in
    after _ (one (learns y below ne)) (goes-then _ (λ t. notices.pending_part t y) (goes-then _ notices.deferred_part
    (goes-then _ (λ t. notices.resolving_part t y) (orders.order_part a y) (rows.all_hear b y news.Stopped)) (rows.deferred_part c)) (rows.pending_part d y))

pub letter-way : (s : BrickState) (from : NodeNo) (l : Letter) → IsOfAnother s from l → Goes (own s) (live_brick_turn s from l)
letter-way s from (letter.Get txn caller call key name stamp) h = rows.get_row s from txn key name stamp
letter-way s from (letter.Prepare txn caller call below name stamp list op) h =
    rows.prepare_row s from (record { txn = txn; caller = caller; call = call; op = op; list = list }) below name stamp
letter-way s from (letter.Commit txn) h = rows.commit_row s from txn
letter-way s from (letter.Abort txn) h = rows.abort_row s from txn
letter-way s from (letter.Push leaf) h = after (takes.push_row s leaf) (rows.take s leaf) (same (takes.push_row s leaf))
letter-way s from (letter.Help txn list) h = rows.help_row s from txn list
letter-way s from (letter.Query txn list) h = rows.query_row s from txn list
letter-way s from (letter.Status txn status) h = rows.all_hear s from (news.Told txn status)
letter-way s from (letter.Outcome txn commit) h = rows.outcome_row s txn commit
letter-way s from (letter.Lease number what) h = rows.lease_row s from number what h.unknown
letter-way s from (letter.Granted number leaf) h = orders.granted_row s from number leaf
letter-way s from (letter.LeaseRefused number why) h = orders.lease_refused_row s from number why
letter-way s from (letter.Release number name) h = does _ (releases name from)
letter-way s from (letter.CopyAsk number name after) h = rows.copy_ask_row s from number name after
letter-way s from (letter.CopyPart number last pairs) h = orders.copy_part_row s from number last pairs
letter-way s from (letter.Install number leaf) h = rows.install_row s from number leaf
letter-way s from (letter.Installed number name) h = orders.installed_row s from number
letter-way s from letter.Notice h = notice-way s from h.below (h.other refl)
letter-way s from other h = same _

pub order-way : (s : BrickState) (o : Order) → Goes (own s) (brick_input s o)
order-way s (the_order.Join brick name via) = orders.join_order s name via
order-way s (the_order.Split brick name) = orders.split_order s name
