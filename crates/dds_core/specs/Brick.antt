-- What a brick does: one definition for each letter and order.
use Rattle.std.specs.Prelude.{if◌then◌else◌}
use Rattle.dds_base.specs.declared.number.NodeNo.{NodeNo}
use Rattle.dds_base.specs.declared.op.Order.{Order}
use Rattle.dds_base.specs.declared.op.Order.TheVariants as order
use Rattle.dds_letters.specs.declared.letter.Letter.{Letter}
use Rattle.dds_letters.specs.declared.letter.Letter.TheVariants as letter
use Rattle.dds_states.specs.Turn.{BrickTurn, still}
use Rattle.dds_brick_rows.specs.Calls.{get_row, prepare_row, commit_row, abort_row, map_ask_row}
use Rattle.dds_brick_rows.specs.Take.{push_row}
use Rattle.dds_order_rows.specs.Orders.{lease_row, release_row, copy_ask_row, install_row}
use Rattle.dds_order_rows.specs.OwnOrder.{join_order, split_order, granted_row, lease_refused_row, copy_part_row, installed_row}
use Rattle.dds_brick_rows.specs.Resolution.{help_row, query_row, status_row, outcome_row}
use Rattle.dds_core.specs.Notice.{notice_row}
use Rattle.dds_states.specs.declared.brick_state.BrickState.{BrickState}

-- what a letter does at a live brick; letters to libraries do nothing
abbrev pub live_brick_turn : BrickState → NodeNo → Letter → BrickTurn
live_brick_turn s from (letter.Get txn caller call key name stamp) = get_row s from txn key name stamp
live_brick_turn s from (letter.Prepare txn caller call below name stamp list op) =
    prepare_row s from record { txn = txn; caller = caller; call = call; op = op; list = list } below name stamp
live_brick_turn s from (letter.Commit txn) = commit_row s from txn
live_brick_turn s from (letter.Abort txn) = abort_row s from txn
live_brick_turn s from (letter.Push leaf) = push_row s leaf
live_brick_turn s from (letter.MapAsk txn caller call key) = map_ask_row s from txn key
live_brick_turn s from (letter.Help txn list) = help_row s from txn list
live_brick_turn s from (letter.Query txn list) = query_row s from txn list
live_brick_turn s from (letter.Status txn status) = status_row s from txn status
live_brick_turn s from (letter.Outcome txn commit) = outcome_row s txn commit
live_brick_turn s from (letter.Lease number what) = lease_row s from number what
live_brick_turn s from (letter.Granted number leaf) = granted_row s from number leaf
live_brick_turn s from (letter.LeaseRefused number refusal) = lease_refused_row s from number refusal
live_brick_turn s from (letter.Release number name) = release_row s from name
live_brick_turn s from (letter.CopyAsk number name after) = copy_ask_row s from number name after
live_brick_turn s from (letter.CopyPart number last pairs) = copy_part_row s from number last pairs
live_brick_turn s from (letter.Install number leaf) = install_row s from number leaf
live_brick_turn s from (letter.Installed number name) = installed_row s from number
live_brick_turn s from letter.Notice = notice_row s from
live_brick_turn s from (letter.Got txn answer) = still s
live_brick_turn s from (letter.Vote txn vote) = still s
live_brick_turn s from (letter.Applied txn was) = still s
live_brick_turn s from (letter.Aborted txn) = still s
live_brick_turn s from (letter.MapTell txn leaf) = still s

-- what a letter does at a brick: nothing at a stopped one
abbrev pub brick_turn : BrickState → NodeNo → Letter → BrickTurn
brick_turn s from l = if s.stopped then still s else live_brick_turn s from l

-- what an order does at the brick that it names
abbrev pub brick_input : BrickState → Order → BrickTurn
brick_input s (order.Join brick name via) = join_order s name via
brick_input s (order.Split brick name) = split_order s name
