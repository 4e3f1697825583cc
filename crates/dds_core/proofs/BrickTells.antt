use Rattle.std.proofs.Common.{◌≡◌, ℕ, Bool, true, false, Option, Some, None, List, [], ◌∷◌, refl}
use Rattle.std.specs.FinMap.{get}
use Rattle.std.specs.Prelude.{if◌then◌else◌}
use Rattle.dds_base.specs.Name.{Name}
use Rattle.dds_base.specs.Number.{Txn, StampOf}
use Rattle.dds_base.specs.declared.leaf.Leaf.{Leaf}
use Rattle.dds_base.specs.declared.number.NodeNo.{NodeNo}
use Rattle.dds_base.specs.declared.pending.Pending.{Pending}
use Rattle.dds_brick_rows.specs.Calls as calls
use Rattle.dds_brick_rows.specs.Refusal.{get_refusal, update_denial}
use Rattle.dds_brick_rows.specs.Resolution as resolution
use Rattle.dds_brick_rows.specs.Take as takes
use Rattle.dds_brick_rows.specs.declared.resolution.News.{News}
use Rattle.dds_letters.specs.declared.letter.Letter.TheVariants as letter
use Rattle.dds_letters.specs.declared.refusal.Answer.TheVariants as answer
use Rattle.dds_letters.specs.declared.refusal.Ballot.TheVariants as ballot
use Rattle.dds_letters.specs.declared.refusal.Denial.{Denial}
use Rattle.dds_letters.specs.declared.refusal.Refusal.{Refusal}
use Rattle.dds_states.specs.Turn.{sends, unknown_others}
use Rattle.dds_states.specs.declared.brick_state.BrickState.{BrickState}
use Rattle.dds_states.specs.declared.brick_state.Resolving.{Resolving}
use Rattle.dds_core.proofs.Rests.{rests-still, rests-tells, take-whole}
use Rattle.dds_core.proofs.Tells.{Given, Sent, Tells, sent-each, tells-from, tells-if, tells-sends, tells-still, tells-then, who}

-- The rows of a brick for calls, for leaves that it is told, and to resolve transactions.

module _ {L : Sent} {M : Given} where
  got : (s : BrickState) (from : NodeNo) (txn : Txn) (key : ℕ) (r : Option Refusal) → L from (letter.Got txn (calls.answer_of (get s.pairs key)))
      → ((why : Refusal) → r ≡ Some why → L from (letter.Got txn (answer.Refused why))) → Tells L M s (calls.got s from txn key r)
  got s from txn key None h k = record { same = refl; letters = (h, tt); replies = tt }
  got s from txn key (Some r) h k = tells-sends s s _ refl (k r refl, tt)

  pub get_row : (s : BrickState) (from : NodeNo) (txn : Txn) (key : ℕ) (name : Name) (stamp : StampOf)
      → L from (letter.Got txn (calls.answer_of (get s.pairs key))) → ((why : Refusal) → get_refusal s key name stamp ≡ Some why
      → L from (letter.Got txn (answer.Refused why))) → Tells L M s (calls.get_row s from txn key name stamp)
  get_row s from txn key name stamp h k = got s from txn key (get_refusal s key name stamp) h k

  voted : (s : BrickState) (from : NodeNo) (p : Pending) (d : Option Denial) → L from (letter.Vote p.txn ballot.Yes)
      → ((why : Denial) → d ≡ Some why → L from (letter.Vote p.txn (ballot.No why))) → Tells L M s (calls.voted s from p d)
  voted s from p None h k = record { same = refl; letters = (h, tt); replies = tt }
  voted s from p (Some d) h k = tells-sends s s _ refl (k d refl, tt)

  pub prepare_row : (s : BrickState) (from : NodeNo) (p : Pending) (below : ℕ) (name : Name) (stamp : StampOf) → L from (letter.Vote p.txn ballot.Yes)
      → ((why : Denial) → update_denial s p.op name stamp ≡ Some why → L from (letter.Vote p.txn (ballot.No why)))
      → Tells L M s (calls.prepare_row s from p below name stamp)
  prepare_row s from p below name stamp h k = let v = voted (calls.trim s p.txn.library below) from p
      (update_denial s p.op name stamp) h k in record { same = v.same; letters = v.letters; replies = v.replies }

  applied : (s u : BrickState) (p : Pending) → who u ≡ who s → Tells L M s (calls.applied u p)
  applied s u p e = record { same = e; letters = tt; replies = tt }

  commit_found : (s u : BrickState) (from : NodeNo) (p : Option Pending) → who u ≡ who s → Tells L M s (calls.commit_found u from p)
  commit_found s u from None e = tells-still s u e
  commit_found s u from (Some p) e = tells-then s (calls.applied u p) _ (applied s u p e)
      (λ v. tells-sends v v ((from, letter.Applied p.txn (calls.flag_at u p)) ∷ []) refl (tt, tt))

  pub commit_row : (s : BrickState) (from : NodeNo) (txn : Txn) → Tells L M s (calls.commit_row s from txn)
  commit_row s from txn = commit_found s (calls.dropped s txn) from _ refl

  aborting : (s u : BrickState) (from : NodeNo) (txn : Txn) (p : Option Pending) → who u ≡ who s
      → Tells L M s (sends (calls.aborted u p) ((from, letter.Aborted txn) ∷ []))
  aborting s u from txn None e = tells-sends s u _ e (tt, tt)
  aborting s u from txn (Some p) e = record { same = e; letters = (tt, tt); replies = tt }

  pub abort_row : (s : BrickState) (from : NodeNo) (txn : Txn) → Tells L M s (calls.abort_row s from txn)
  abort_row s from txn = aborting s (calls.dropped s txn) from txn _ refl

  pub map_ask_row : (s : BrickState) (from : NodeNo) (txn : Txn) (key : ℕ) → Tells L M s (calls.map_ask_row s from txn key)
  map_ask_row s from txn key = tells-sends s s _ refl (tt, tt)

module _ {L : Sent} {M : Given} where
  pub push_row : (s : BrickState) (leaf : Leaf) → Tells L M s (takes.push_row s leaf)
  push_row s leaf = rests-tells (rests-still s (takes.take s leaf) (take-whole s leaf))

  -- resolving
  settled : (s u : BrickState) (commit : Bool) (p : Option Pending) → who u ≡ who s → Tells L M s (resolution.settled u commit p)
  settled s u commit None e = tells-still s u e
  settled s u true (Some p) e = applied s u p e
  settled s u false (Some p) e = tells-still s _ e

  pub outcome_row : (s : BrickState) (txn : Txn) (commit : Bool) → Tells L M s (resolution.outcome_row s txn commit)
  outcome_row s txn commit = settled s (calls.dropped s txn) commit _ refl

  decides : (s : BrickState) (r : Resolving) → Tells L M s (resolution.decides s r)
  decides s r = tells-then s (resolution.outcome_row s r.txn (resolution.verdict r)) _ (outcome_row s r.txn (resolution.verdict r))
      (λ u. tells-sends u u _ refl (sent-each L (unknown_others r.list u.number u.known) (letter.Outcome r.txn (resolution.verdict r)) (λ n. tt)))

  resolves_on : (s : BrickState) (r : Resolving) → Tells L M s (resolution.resolves_on s r)
  resolves_on s r = tells-if _ (decides s r) (tells-still s _ refl)

  pub resolve : (s : BrickState) (txn : Txn) (list : List ℕ) → Tells L M s (resolution.resolve s txn list)
  resolve s txn list = tells-then s _ _ (tells-sends s s _ refl (sent-each L (unknown_others list s.number s.known) (letter.Query txn list) (λ n. tt)))
      (λ u. resolves_on u (resolution.started s txn list))

  pub help_row : (s : BrickState) (from : NodeNo) (txn : Txn) (list : List ℕ) → Tells L M s (resolution.help_row s from txn list)
  help_row s from txn list = tells-if _ (tells-if _ (tells-still s s refl) (resolve s txn list)) (tells-still s _ refl)

  pub query_row : (s : BrickState) (from : NodeNo) (txn : Txn) (list : List ℕ) → Tells L M s (resolution.query_row s from txn list)
  query_row s from txn list = tells-if _ (tells-sends s s _ refl (tt, tt)) (tells-still s _ refl)

  resolving_goes : (s : BrickState) (from : NodeNo) (news : News) (r : Resolving) → Tells L M s (resolution.resolving_goes s from news r)
  resolving_goes s from news r = tells-if _ (resolves_on s (resolution.with_news r from news)) (tells-still s _ refl)

  resolvings_go : (s : BrickState) (from : NodeNo) (news : News) (rs : List Resolving) → Tells L M s (resolution.resolvings_go s from news rs)
  resolvings_go s from news [] = tells-still s s refl
  resolvings_go s from news (r ∷ rs) = tells-then s _ _ (resolving_goes s from news r) (λ u. resolvings_go u from news rs)

  -- what a member tells, at each resolving that waits for it
  pub all_hear : (s : BrickState) (from : NodeNo) (news : News) → Tells L M s (resolution.all_hear s from news)
  all_hear s from news = tells-from s (record s { resolving = [] }) _ refl (resolvings_go (record s { resolving = [] }) from news s.resolving)
