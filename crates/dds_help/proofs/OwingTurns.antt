use Rattle.std.proofs.Common.{◌≡◌, ℕ, ◌<◌, ◌==◌, ◌&&◌, ◌||◌, true, not, List, [], ◌∷◌, refl, ap}
use Rattle.std.proofs.lemmas.Bool.{and_parts}
use Rattle.std.specs.List.{AllByRecursion}
use Rattle.dds_base.specs.BrickList.{has}
use Rattle.dds_base.specs.NodeSet.{has_node}
use Rattle.dds_base.specs.Number.{Txn}
use Rattle.dds_base.specs.declared.number.NodeNo.{NodeNo}
use Rattle.dds_brick_rows.specs.Resolution as rows
use Rattle.dds_brick_rows.specs.declared.resolution.News.TheVariants as news
use Rattle.dds_core.proofs.LetterTells.{Any, Each, letter-rests, order_part}
use Rattle.dds_core.proofs.Rests.{Whole}
use Rattle.dds_core.specs.Brick.{live_brick_turn}
use Rattle.dds_core.specs.Notice as notices
use Rattle.dds_letters.specs.declared.letter.Letter.{Letter}
use Rattle.dds_letters.specs.declared.letter.Letter.TheVariants as letter
use Rattle.dds_states.specs.Turn.{and_then, sends, still, unknown}
use Rattle.dds_states.specs.declared.brick_state.BrickState.{BrickState}
use Rattle.dds_resolve.proofs.CallRows.{IsCall, call-plain}
use Rattle.dds_resolve.proofs.MemberSteps.{outcome-deferred}
use Rattle.dds_resolve.proofs.ResolverTurns.{outcome-ends}
use Rattle.dds_resolve.proofs.TeamNotices.{NoticeOk, NumberedOk, first-team, frame-good, learns-ok, numbered-all, pending-good, resolver-team}
use Rattle.dds_resolve.proofs.TeamTurns.{all-asked-good, good-then, hear-good}
use Rattle.dds_resolve.specs.Team.{BrickOk, Ground, LetterOk, Members}
use Rattle.dds_help.proofs.Owing.{Mate, Owed, Owes, all-asked-owed, hear-owed, help-owed, help-this, owed-if, owed-then, query-owed, resolve-owed, same-owes}
use Rattle.dds_help.proofs.Owing.Owed.{owes}
use Rattle.dds_help.proofs.Owing.Owes.{asks, puts_off, resolves, treats}
use Rattle.dds_help.specs.Helped.{asks_help}

-- The whole turn of the member that can be asked for help.

-- all that was put off is asked again
aside-owes : {t : Txn} (u : BrickState) → Owes t [] [] u → Owes t [] u.deferred (record u { deferred = [] })
aside-owes u (resolves j) = resolves j
aside-owes u (puts_off j) = asks j
aside-owes u (treats j) = cc
aside-owes u (asks j) = cc

module _ {g : Ground} {at : ℕ} {t : Txn} {m : ℕ} where
  -- the pending ones of a notice
  helped-owed : (u : BrickState) (y : NodeNo) (x : Txn) (list fs : List ℕ) → unknown list u.known ≡ fs → BrickOk g at u → Members g x list at →
      g.stopped x.library ≡ true → g.frozen x ≡ true → Mate g at t m → Owes t [] [] u → Owed t m [] [] (notices.helped_by u y x list fs)
  helped-owed u y x list [] e b h k o mate w = owes w
  helped-owed u y x list (f ∷ fs) e b h k o mate w =
      let team = first-team u x list f fs e b h k o in
      owed-if (f == u.number) (rows.resolve u x list) _ (λ i. resolve-owed u x list b (resolver-team u x list f i b team) mate w)
      (λ i. owed-if (y == x.library || has (rows.before list f) y) (sends u _) (still u) (λ j. owes w) (λ j. owes w))

  pending-owed : (u : BrickState) (y : NodeNo) (x : Txn) (list : List ℕ) → BrickOk g at u → NumberedOk g at (x, list) → Mate g at t m →
      Owes t [] [] u → Owed t m [] [] (notices.pending_goes u y x list)
  pending-owed u y x list b h mate w =
      owed-if (has_node u.known x.library && not (rows.is_resolved u x)) (notices.helped_by u y x list (unknown list u.known)) (still u)
      (λ e. let k = b.known x.library (and_parts (has_node u.known x.library) (not (rows.is_resolved u x)) e).0 in
      helped-owed u y x list (unknown list u.known) refl b h.0 k (h.1 k) mate w)
      (λ e. owes w)

  pendings-owed : (u : BrickState) (y : NodeNo) (ps : List (Txn × List ℕ)) → BrickOk g at u → AllByRecursion (NumberedOk g at) ps → Mate g at t m →
      Owes t [] [] u → Owed t m [] [] (notices.pendings_go u y ps)
  pendings-owed u y [] b h mate w = owes w
  pendings-owed u y (p ∷ ps) b h mate w =
      owed-then (notices.pending_goes u y p.0 p.1) (λ v. notices.pendings_go v y ps) (pending-owed u y p.0 p.1 b h.0 mate w)
      (λ i. pendings-owed (notices.pending_goes u y p.0 p.1).state y ps (pending-good u y p.0 p.1 b h.0).state h.1 mate i)

  notice-owed : (s : BrickState) (y : NodeNo) → y < 80 → g.stopped y ≡ true → BrickOk g at s → Mate g at t m → Owes t [] [] s →
      Owed t m [] [] (notices.notice_row s y)
  notice-owed s y low e b mate w =
      let l = notices.learns s y in
      let frame = order_part {L = Any} {M = Each} l y in
      let one-good = frame-good {M = Each} l (notices.order_part l y) (order_part l y) (learns-ok s y low e b) in
      let one : Owed t m [] [] (notices.order_part l y) =
      owes (same-owes l (notices.order_part l y).state (ap (λ (w : Whole). w.deferred) frame.same) (ap (λ (w : Whole). w.resolving) frame.same)
      (same-owes s l refl refl w)) in
      let two-good = good-then (notices.order_part l y) (λ u. notices.resolving_part u y) one-good (λ u k. hear-good u y news.Stopped k) in
      let two = owed-then (notices.order_part l y) (λ u. notices.resolving_part u y) one
      (λ i. hear-owed (notices.order_part l y).state y news.Stopped one-good.state mate i) in
      let q = and_then (notices.order_part l y) (λ u. notices.resolving_part u y) in
      let three-good = good-then q notices.deferred_part two-good
      (λ u k. all-asked-good (record u { deferred = [] }) u.deferred
      (record { number = k.number; known = k.known; pending = k.pending; deferred = tt; resolving = k.resolving }) k.deferred) in
      let v = q.state in
      let k = two-good.state in
      let three = owed-then q notices.deferred_part two
      (λ i. all-asked-owed (record v { deferred = [] }) v.deferred
      (record { number = k.number; known = k.known; pending = k.pending; deferred = tt; resolving = k.resolving }) k.deferred mate (aside-owes v i)) in
      let x = and_then q notices.deferred_part in
      owed-then x (λ u. notices.pending_part u y) three
      (λ i. pendings-owed x.state y (notices.numbered x.state.locks.pending) three-good.state
      (numbered-all g at x.state.locks.pending three-good.state.pending) mate i)

-- every letter
plain-owed : {t : Txn} {m : ℕ} (s : BrickState) (from : ℕ) (l : Letter) → IsCall l → Owes t [] [] s → Owed t m [] [] (live_brick_turn s from l)
plain-owed s from l i w = let p = call-plain s from l i in owes (same-owes s (live_brick_turn s from l).state p.deferred p.resolving w)

pub brick-owed : {g : Ground} {at : ℕ} {t : Txn} {m : ℕ} (s : BrickState) (from : NodeNo) (l : Letter) → BrickOk g at s → LetterOk g from at l →
    NoticeOk g from l → Mate g at t m → Owes t [] [] s → Owed t m [] [] (live_brick_turn s from l)
brick-owed s from (letter.Get txn caller call key name stamp) b h n mate w = plain-owed s from (letter.Get txn caller call key name stamp) tt w
brick-owed s from (letter.Prepare txn caller call below name stamp list op) b h n mate w =
    plain-owed s from (letter.Prepare txn caller call below name stamp list op) tt w
brick-owed s from (letter.Commit txn) b h n mate w = plain-owed s from (letter.Commit txn) tt w
brick-owed s from (letter.Abort txn) b h n mate w = plain-owed s from (letter.Abort txn) tt w
brick-owed s from (letter.MapAsk txn caller call key) b h n mate w = plain-owed s from (letter.MapAsk txn caller call key) tt w
brick-owed s from (letter.Got txn a) b h n mate w = owes w
brick-owed s from (letter.Vote txn vote) b h n mate w = owes w
brick-owed s from (letter.Applied txn was) b h n mate w = owes w
brick-owed s from (letter.Aborted txn) b h n mate w = owes w
brick-owed s from (letter.MapTell txn leaf) b h n mate w = owes w
brick-owed s from (letter.Help txn list) b h n mate w = help-owed s from txn list b h mate w
brick-owed s from (letter.Query txn list) b h n mate w = query-owed s from txn list w
brick-owed s from (letter.Status txn st) b h n mate w = hear-owed s from (news.Told txn st) b mate w
brick-owed s from (letter.Outcome txn c) b h n mate w =
    owes (same-owes s (rows.outcome_row s txn c).state (outcome-deferred s txn c) (outcome-ends s txn c).resolving w)
brick-owed s from letter.Notice b h n mate w = notice-owed s from n.0 n.1 b mate w
brick-owed s from other b h n mate w =
    let k = (letter-rests s from from other tt).same in
    owes (same-owes s (live_brick_turn s from other).state (ap (λ (w : Whole). w.deferred) k) (ap (λ (w : Whole). w.resolving) k) w)

-- it is asked for help
pub brick-asked : {g : Ground} {at : ℕ} {t : Txn} {m : ℕ} (s : BrickState) (from : NodeNo) (l : Letter) → asks_help t l ≡ true → BrickOk g at s →
    LetterOk g from at l → Mate g at t m → Owed t m [] [] (live_brick_turn s from l)
brick-asked s from (letter.Help txn list) e b h mate = help-this s from txn list b h mate e
brick-asked s from other e b h mate = cc
