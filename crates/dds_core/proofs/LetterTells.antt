use Rattle.std.proofs.Common.{◌≡◌, ℕ, Option, Some, None, List, [], ◌∷◌, refl}
use Rattle.std.specs.FinMap.{get}
use Rattle.dds_base.specs.Name.{Name}
use Rattle.dds_base.specs.Number.{Txn, StampOf}
use Rattle.dds_base.specs.declared.leaf.Leaf.{Leaf}
use Rattle.dds_base.specs.declared.number.CallNo.{CallNo}
use Rattle.dds_base.specs.declared.number.CallerNo.{CallerNo}
use Rattle.dds_base.specs.declared.number.NodeNo.{NodeNo}
use Rattle.dds_base.specs.declared.op.Met.{Met}
use Rattle.dds_base.specs.declared.op.Op.{Op}
use Rattle.dds_base.specs.declared.op.OrderReply.TheVariants as answered
use Rattle.dds_brick_rows.specs.Calls.{answer_of}
use Rattle.dds_brick_rows.specs.Refusal.{get_refusal, update_denial}
use Rattle.dds_brick_rows.specs.Take as takes
use Rattle.dds_brick_rows.specs.declared.resolution.News.TheVariants as news
use Rattle.dds_core.specs.Brick.{live_brick_turn}
use Rattle.dds_core.specs.Notice as notices
use Rattle.dds_letters.specs.declared.letter.Letter.{Letter}
use Rattle.dds_letters.specs.declared.letter.Letter.TheVariants as letter
use Rattle.dds_letters.specs.declared.refusal.Answer.TheVariants as answer
use Rattle.dds_letters.specs.declared.refusal.Ballot.TheVariants as ballot
use Rattle.dds_letters.specs.declared.refusal.Denial.{Denial}
use Rattle.dds_letters.specs.declared.refusal.Refusal.{Refusal}
use Rattle.dds_letters.specs.declared.refusal.Wanted.{Wanted}
use Rattle.dds_order_rows.specs.Denials.{lease_denial}
use Rattle.dds_order_rows.specs.OwnOrder.{met_of}
use Rattle.dds_states.specs.Turn.{unknown, without}
use Rattle.dds_states.specs.declared.brick_state.BrickState.{BrickState}
use Rattle.dds_states.specs.declared.brick_state.Deferred.{Deferred}
use Rattle.dds_states.specs.declared.brick_state.OpenOrder.{OpenOrder}
use Rattle.dds_states.specs.declared.brick_state.OrderPhase.{OrderPhase}
use Rattle.dds_states.specs.declared.brick_state.OrderPhase.TheVariants.{Leasing, Copying, Installing}
use Rattle.dds_states.specs.declared.brick_state.Question.{Question}
use Rattle.dds_states.specs.declared.brick_state.Question.TheVariants.{Help, Query}
use Rattle.dds_core.proofs.BrickTells as rows
use Rattle.dds_core.proofs.OrderTells as orders
use Rattle.dds_core.proofs.Rests.{Orders, Rests, rests-if, rests-still, rests-tells, take-whole}
use Rattle.dds_core.proofs.Tells.{Given, Sent, Tells, tells-from, tells-if, tells-sends, tells-still, tells-then}

-- A live brick's turn at each letter: what it says of its refusals, and that it knows the sender of a notice afterwards.

module _ {L : Sent} {M : Given} where
  copies_again : (s : BrickState) (o : OpenOrder) (leaf : Option Leaf) → Rests L M s (notices.copies_again s o leaf)
  copies_again s o None = orders.going_on s o
  copies_again s o (Some leaf) = orders.copies s o leaf

  order_goes : (s : BrickState) (o : OpenOrder) (y : NodeNo) (phase : OrderPhase) → Rests L M s (notices.order_goes s o y phase)
  order_goes s o y Leasing = rests-if _ (orders.ends s o answered.NoSource tt) (orders.leases_on s (record o { waiting = without o.waiting y }))
  order_goes s o y (Copying source) = copies_again s o o.leaf
  order_goes s o y (Installing made) = orders.installs_on s (record o { waiting = without o.waiting y }) made

  pub order_part : (s : BrickState) (y : NodeNo) → Rests L M s (notices.order_part s y)
  order_part s y = rests-if _ (orders.with_order s _ s.order (λ t o e. order_goes t o y o.phase)) (rests-still s s refl)

  asked_again : (s : BrickState) (d : Deferred) (q : Question) → Tells L M s (notices.asked_again s d q)
  asked_again s d Help = rows.help_row s d.from d.txn d.list
  asked_again s d Query = rows.query_row s d.from d.txn d.list

  asked_all_again : (s : BrickState) (ds : List Deferred) → Tells L M s (notices.asked_all_again s ds)
  asked_all_again s [] = tells-still s s refl
  asked_all_again s (d ∷ ds) = tells-then s _ _ (asked_again s d d.question) (λ u. asked_all_again u ds)

  deferred_part : (s : BrickState) → Tells L M s (notices.deferred_part s)
  deferred_part s = tells-from s (record s { deferred = [] }) _ refl (asked_all_again (record s { deferred = [] }) s.deferred)

  helped_by : (s : BrickState) (y : NodeNo) (txn : Txn) (list fs : List ℕ) → Tells L M s (notices.helped_by s y txn list fs)
  helped_by s y txn list [] = tells-still s s refl
  helped_by s y txn list (f ∷ fs) = tells-if _ (rows.resolve s txn list) (tells-if _ (tells-sends s s _ refl (tt, tt)) (tells-still s s refl))

  pending_goes : (s : BrickState) (y : NodeNo) (txn : Txn) (list : List ℕ) → Tells L M s (notices.pending_goes s y txn list)
  pending_goes s y txn list = tells-if _ (helped_by s y txn list (unknown list s.known)) (tells-still s s refl)

  pendings_go : (s : BrickState) (y : NodeNo) (ps : List (Txn × List ℕ)) → Tells L M s (notices.pendings_go s y ps)
  pendings_go s y [] = tells-still s s refl
  pendings_go s y (p ∷ ps) = tells-then s _ _ (pending_goes s y p.0 p.1) (λ u. pendings_go u y ps)

  pending_part : (s : BrickState) (y : NodeNo) → Tells L M s (notices.pending_part s y)
  pending_part s y = pendings_go s y (notices.numbered s.locks.pending)

  notice_row : (s : BrickState) (y : NodeNo) → Tells L M (notices.learns s y) (notices.notice_row s y)
  notice_row s y =
      let l = notices.learns s y in
      let first = tells-then l _ (λ t. notices.resolving_part t y) (rests-tells (order_part l y)) (λ u. rows.all_hear u y news.Stopped) in
      let second = tells-then l _ notices.deferred_part first (λ u. deferred_part u) in
      tells-then l _ (λ t. notices.pending_part t y) second (λ u. pending_part u y)

-- a letter that refuses nothing
abbrev pub RefusesNothing : Letter → Type 0
RefusesNothing (letter.Got txn (answer.Refused why)) = ⊥
RefusesNothing (letter.Vote txn (ballot.No why)) = ⊥
RefusesNothing (letter.LeaseRefused number why) = ⊥
RefusesNothing other = Unit {0}

-- what a brick's answer to a letter says: it refuses nothing, or what was refused was refused by the brick's test
pub data Says (s : BrickState) (from : NodeNo) (l : Letter) (to : NodeNo) (sent : Letter) : Type 0 where
  grants : RefusesNothing sent → Says s from l to sent
  get_refused : (txn : Txn) (caller : CallerNo) (call : CallNo) (key : ℕ) (name : Name) (stamp : StampOf) (why : Refusal)
      → l ≡ letter.Get txn caller call key name stamp → sent ≡ letter.Got txn (answer.Refused why) → get_refusal s key name stamp ≡ Some why
      → Says s from l to sent
  denied : (txn : Txn) (caller : CallerNo) (call : CallNo) (below : ℕ) (name : Name) (stamp : StampOf) (list : List NodeNo) (o : Op) (why : Denial)
      → l ≡ letter.Prepare txn caller call below name stamp list o → sent ≡ letter.Vote txn (ballot.No why) → update_denial s o name stamp ≡ Some why
      → Says s from l to sent
  lease_refused : (number : ℕ) (what : Wanted) (why : Refusal) → l ≡ letter.Lease number what → sent ≡ letter.LeaseRefused number why → to ≡ from
      → lease_denial s what ≡ Some why → Says s from l to sent

-- what the open order may be answered at a letter: a member refused its lease
pub record MetAt (s : BrickState) (from : NodeNo) (l : Letter) (m : Met) : Type 0 where
  pub number : ℕ
  pub why : Refusal
  pub is : l ≡ letter.LeaseRefused number why
  pub met : met_of why from ≡ m
  pub order : OpenOrder
  pub there : s.order ≡ Some order
  pub same : order.number ≡ number

found : (txn : Txn) (value : Option (List ℕ)) → RefusesNothing (letter.Got txn (answer_of value))
found txn None = tt
found txn (Some value) = tt

-- the brick knows the sender of a notice
abbrev pub heard : BrickState → NodeNo → Letter → BrickState
heard s from letter.Notice = notices.learns s from
heard s from other = s

pub letter-tells : (s : BrickState) (from : NodeNo) (l : Letter) → Tells (Says s from l) (MetAt s from l) (heard s from l) (live_brick_turn s from l)
letter-tells s from (letter.Get txn caller call key name stamp) =
    rows.get_row s from txn key name stamp (grants (found txn (get s.pairs key))) (λ why e. get_refused txn caller call key name stamp why refl refl e)
letter-tells s from (letter.Prepare txn caller call below name stamp list op) =
    rows.prepare_row s from (record { txn = txn; caller = caller; call = call; op = op; list = list }) below name stamp (grants tt)
    (λ why e. denied txn caller call below name stamp list op why refl refl e)
letter-tells s from (letter.Commit txn) = rows.commit_row s from txn
letter-tells s from (letter.Abort txn) = rows.abort_row s from txn
letter-tells s from (letter.Push leaf) = rows.push_row s leaf
letter-tells s from (letter.MapAsk txn caller call key) = rows.map_ask_row s from txn key
letter-tells s from (letter.Help txn list) = rows.help_row s from txn list
letter-tells s from (letter.Query txn list) = rows.query_row s from txn list
letter-tells s from (letter.Status txn status) = rows.all_hear s from (news.Told txn status)
letter-tells s from (letter.Outcome txn commit) = rows.outcome_row s txn commit
letter-tells s from (letter.Lease number what) = rests-tells (orders.lease_row s from number what (λ why e. lease_refused number what why refl refl refl e))
letter-tells s from (letter.Granted number leaf) = rests-tells (orders.granted_row s from number leaf)
letter-tells s from (letter.LeaseRefused number why) =
    rests-tells (orders.lease_refused_row s from number why
    (λ o e k. record { number = number; why = why; is = refl; met = refl; order = o; there = e; same = k }))
letter-tells s from (letter.Release number name) = rests-tells (orders.release_row s from name)
letter-tells s from (letter.CopyAsk number name after) = rests-tells (orders.copy_ask_row s from number name after)
letter-tells s from (letter.CopyPart number last pairs) = rests-tells (orders.copy_part_row s from number last pairs)
letter-tells s from (letter.Install number leaf) = rests-tells (orders.install_row s from number leaf)
letter-tells s from (letter.Installed number name) = rests-tells (orders.installed_row s from number)
letter-tells s from letter.Notice = notice_row s from
letter-tells s from other = tells-still s s refl

-- the letters of orders leave transactions alone
abbrev pub Any : Sent
Any to l = Unit {0}

abbrev pub Each : Given
Each m = Unit {0}

pub letter-rests : (s : BrickState) (from to : NodeNo) (l : Letter) → Orders Any to l → Rests Any Each s (live_brick_turn s from l)
letter-rests s from to (letter.Push leaf) h = rests-still s (takes.take s leaf) (take-whole s leaf)
letter-rests s from to (letter.Lease number what) h = orders.lease_row s from number what (λ why e. tt)
letter-rests s from to (letter.Granted number leaf) h = orders.granted_row s from number leaf
letter-rests s from to (letter.LeaseRefused number why) h = orders.lease_refused_row s from number why (λ o e k. tt)
letter-rests s from to (letter.Release number name) h = orders.release_row s from name
letter-rests s from to (letter.CopyAsk number name after) h = orders.copy_ask_row s from number name after
letter-rests s from to (letter.CopyPart number last pairs) h = orders.copy_part_row s from number last pairs
letter-rests s from to (letter.Install number leaf) h = orders.install_row s from number leaf
letter-rests s from to (letter.Installed number name) h = orders.installed_row s from number
letter-rests s from to other h = absurd h
