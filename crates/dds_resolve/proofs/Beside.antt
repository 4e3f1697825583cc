use Rattle.std.proofs.Common.{◌≡◌, ℕ, ◌≤◌, ◌==◌, ◌||◌, Bool, true, false, List}
use Rattle.std.proofs.Common.{None, arith}
use Rattle.std.proofs.lemmas.Bool.Decides.{nat_tests}
use Rattle.std.specs.FinMap.{get}
use Rattle.std.specs.List.{AllByRecursion}
use Rattle.dds_base.specs.BrickList.{has}
use Rattle.dds_base.specs.NodeSet.{has_node}
use Rattle.dds_base.specs.Number.{Txn}
use Rattle.dds_base.specs.declared.node_set.NodeSet.{NodeSet}
use Rattle.dds_base.specs.declared.number.NodeNo.{NodeNo}
use Rattle.dds_base.specs.declared.pending.TxnStatus.{TxnStatus}
use Rattle.dds_core.proofs.Lists.{all-append}
use Rattle.dds_core.specs.Brick.{live_brick_turn}
use Rattle.dds_letters.specs.declared.letter.Letter.{Letter}
use Rattle.dds_letters.specs.declared.letter.Letter.TheVariants as letter
use Rattle.dds_net.proofs.Puts.{pairs-changed}
use Rattle.dds_net.specs.Event.{takes, without_first}
use Rattle.dds_net.specs.Net.{Net, Node, a_brick, Sizes, changed, gains}
use Rattle.dds_states.specs.Turn.{BrickTurn, unknown_others}
use Rattle.dds_states.specs.declared.brick_state.BrickState.{BrickState}
use Rattle.dds_talk.specs.Books.{Books, is_yes}
use Rattle.dds_talk.specs.Resolve.{Agreed}
use Rattle.dds_talk.specs.Seen.{Alone, Once, is_pending}
use Rattle.dds_resolve.proofs.CallRows.{Untrimmed}
use Rattle.dds_resolve.proofs.Here.{OwnLetter}
use Rattle.dds_resolve.proofs.OneResolver.{NoTeam}
use Rattle.dds_resolve.proofs.Ready.{Readies}
use Rattle.dds_resolve.proofs.ResolverLetters.{Settling}
use Rattle.dds_resolve.proofs.Grounds.{gains-ok, rest-ok}
use Rattle.dds_resolve.proofs.TeamTurns.{AllOk, Good}
use Rattle.dds_resolve.proofs.TeamNotices.{NoticeOk}
use Rattle.dds_resolve.proofs.Turned.{Turned}
use Rattle.dds_resolve.specs.Resolved.{Resolve}
use Rattle.dds_resolve.specs.Resolving.{own_at}
use Rattle.dds_resolve.specs.Team.{BrickOk, LetterOk}
use Rattle.dds_resolve.specs.Teams.{BrickIs, Teams, ground}

-- A brick's turn keeps the conversations of all live resolvers.

-- what is used of the other parts of two-phase commit, at a brick that takes a letter
pub record Beside (z : Sizes) (w : Net) (b : Books) (n from : ℕ) (s : BrickState) (l : Letter) : Type 0 where
  -- `note`, before and after: an attempt is pending once, and nothing is noted of it then
  pub once : Once s.locks.pending
  pub free : (t : Txn) → is_pending (live_brick_turn s from l).state.locks.pending t ≡ true → get (live_brick_turn s from l).state.locks.outcomes t ≡ None
  -- `calls`: no node stands twice in a list
  pub alone : (t : Txn) (known : NodeSet) → (ground z w b.list).frozen t ≡ true → Alone (unknown_others (b.list t) n known)
  -- `decide` and `kept`: live members of an attempt that is open at a stopped library fit what was decided
  pub agree : (t : Txn) (m : ℕ) (y : BrickState) → w.node m ≡ a_brick y → y.stopped ≡ false → has (b.list t) m ≡ true → (ground z w b.list).frozen t ≡ true →
      Agreed (b.decided t) (own_at y t)
  pub settled : (t : Txn) → (ground z w b.list).frozen t ≡ true → has (b.list t) n ≡ true → Settling l →
      Agreed (b.decided t) (own_at (live_brick_turn s from l).state t)
  -- `noted`, of attempts that the brick doesn't resolve
  pub noted : (t : Txn) → NoTeam (ground z w b.list) t n → is_yes (get (live_brick_turn s from l).state.locks.outcomes t) ≡ true → b.decided t ≡ true
  -- the bound of prepares
  pub trims : (t : Txn) → (ground z w b.list).frozen t ≡ true → Untrimmed s t l
  -- letters are from whom they say
  pub sender : OwnLetter from l
  pub speaker : (x : Txn) (st : TxnStatus) → l ≡ letter.Status x st → (y : BrickState) × (w.node from ≡ a_brick y)

pub swap : (a b : ℕ) → (a == b) ≡ false → (b == a) ≡ false
swap a b e = grind (arith, nat_tests, e)

-- the letters on their way after the turn
pub letters-after : (z : Sizes) (w : Net) (list : Txn → List ℕ) (n from : ℕ) (y : Node) (ls : List (NodeNo × Letter)) → z.bricks ≤ 64 →
    AllOk (ground z w list) n ls → Teams z w list
    → (a c : ℕ) → AllByRecursion (LetterOk (ground z w list) a c) ((changed w (takes z w n from y ls)).channel a c)
letters-after z w list n from y ls few ok t =
    let g = ground z w list in
    let mine = (λ (d : ℕ). all-append (LetterOk g n d) (without_first w n from n d) (gains z ls d) (rest-ok (LetterOk g n d) w n from n d (t.letters n d))
    (gains-ok z w list n d ls few ok)) in
    pairs-changed (λ a d x y e f. AllByRecursion (LetterOk g a d) e) w (takes z w n from y ls)
    (record { own = mine n; from = λ d nd. mine d; to = λ a na. rest-ok (LetterOk g a n) w n from a n (t.letters a n) }) t.letters

-- all that is so where a brick takes a letter
pub record Case (z : Sizes) (w v : Net) (b : Books) (n from : ℕ) (s : BrickState) (l : Letter) (rest : List Letter) : Type 0 where
  pub step : Turned w v n from s l rest (live_brick_turn s from l)
  pub ok : BrickOk (ground z w b.list) n s
  pub good : Good (ground z w b.list) n (live_brick_turn s from l)
  pub bricks : (m : ℕ) (y : BrickState) → w.node m ≡ a_brick y → BrickIs (ground z w b.list) m y
  pub letters : (a c : ℕ) → AllByRecursion (LetterOk (ground z w b.list) a c) (v.channel a c)
  pub letter_ok : LetterOk (ground z w b.list) from n l
  pub notice : NoticeOk (ground z w b.list) from l
  pub unknown : has_node s.known from ≡ false
  pub readies : Readies s.known n s
  pub stays : (live_brick_turn s from l).state.stopped ≡ false
  pub beside : Beside z w b n from s l
  pub resolve : Resolve w b.list b.decided

abbrev pub now_decided : Books → BrickTurn → Txn → Bool
now_decided b r t = b.decided t || is_yes (get r.state.locks.outcomes t)
