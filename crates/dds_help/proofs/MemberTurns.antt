use Rattle.std.proofs.Common.{◌≡◌, ℕ, ◌<◌, ◌==◌, ◌||◌, inl, inr, true, false, Option, Some, None, List, [], ◌∷◌}
use Rattle.std.proofs.Common.{refl, sym, ap, ◌∙◌}
use Rattle.std.proofs.lemmas.Bool.{cases_Bool}
use Rattle.std.specs.List.{list_any}
use Rattle.dds_base.specs.NodeSet.{has_node, with_node}
use Rattle.dds_base.specs.Number.{Txn, same_txn}
use Rattle.dds_base.specs.declared.number.NodeNo.{NodeNo}
use Rattle.dds_base.specs.declared.pending.Pending.{Pending}
use Rattle.dds_brick_rows.specs.Calls as calls
use Rattle.dds_brick_rows.specs.Refusal.{update_denial}
use Rattle.dds_brick_rows.specs.Resolution as rows
use Rattle.dds_brick_rows.specs.declared.resolution.News.TheVariants as news
use Rattle.dds_core.proofs.Known.{has-with}
use Rattle.dds_core.proofs.LetterTells.{Any, letter-rests}
use Rattle.dds_core.proofs.Rests.{Orders, Whole}
use Rattle.dds_core.specs.Brick.{live_brick_turn}
use Rattle.dds_core.specs.Notice as notices
use Rattle.dds_letters.specs.declared.letter.Letter.{Letter}
use Rattle.dds_letters.specs.declared.letter.Letter.TheVariants as letter
use Rattle.dds_letters.specs.declared.refusal.Denial.{Denial}
use Rattle.dds_locks.specs.Pending.{first_of}
use Rattle.dds_states.specs.Turn.{BrickTurn, unknown}
use Rattle.dds_states.specs.declared.brick_state.BrickState.{BrickState}
use Rattle.dds_talk.proofs.Parts.{is-same}
use Rattle.dds_talk.specs.Seen.{Once}
use Rattle.dds_resolve.proofs.CallRows.{call-plain}
use Rattle.dds_resolve.proofs.Here.{OwnLetter}
use Rattle.dds_help.proofs.Lists.{apart-swap, first-before, first-dark, first-gone, first-other, first-push, sent_to, some-first}
use Rattle.dds_help.proofs.MemberNotices.{Noticed, Treated, notice-knows, notice-treats, now-pending}
use Rattle.dds_help.proofs.MemberNotices.Treated.{asks, gone, neither, resolved}
use Rattle.dds_help.proofs.Stays.{Stays, hear-stays, help-stays, outcome-stays, outcome-this, query-stays}
use Rattle.dds_help.proofs.Stays.Now.{stays}
use Rattle.dds_help.specs.Helped.{Stranded, asks_help, first_unknown, tells_outcome}

-- A brick's turn, where afterwards an attempt is pending whose library it knows to have stopped: it resolves the attempt, asks for help, or
-- all was so before.

pub data Serves (t : Txn) (p : Pending) (f at : ℕ) (s : BrickState) (l : Letter) (r : BrickTurn) : Type 0 where
  itself : rows.is_resolved r.state t ≡ true → Serves t p f at s l r
  anew : (f == at) ≡ false → sent_to f (asks_help t) r.out.letters ≡ true → Serves t p f at s l r
  before :
      Stranded s t p → first_unknown p.list s.known ≡ Some f → (rows.is_resolved s t ≡ true → rows.is_resolved r.state t ≡ true) →
      tells_outcome t l ≡ false →
      Serves t p f at s l r

-- what calls do to what is pending
commit-pending : (s u : BrickState) (from : NodeNo) (q : Option Pending) → (calls.commit_found u from q).state.locks.pending ≡ u.locks.pending
commit-pending s u from None = refl
commit-pending s u from (Some q) = refl

abort-pending : (u : BrickState) (q : Option Pending) → (calls.aborted u q).locks.pending ≡ u.locks.pending
abort-pending u None = refl
abort-pending u (Some q) = refl

dropped-was : (t : Txn) {p : Pending} (s : BrickState) (x : Txn) → Once s.locks.pending → first_of (calls.dropped s x).locks.pending t ≡ Some p →
    first_of s.locks.pending t ≡ Some p
dropped-was t {p = p} s x once e = elim (cases_Bool (same_txn x t)) [
  | inl i ↦ let bad : None ≡ Some p = sym (first-gone s.locks.pending x once) ∙ ap (first_of (calls.dropped s x).locks.pending) (is-same x t i) ∙ e in cc
  | inr i ↦ sym (first-other s.locks.pending x t i) ∙ e
]

voted-was : (t : Txn) {p : Pending} (s u : BrickState) (from : NodeNo) (q : Pending) (d : Option Denial) → u.locks.pending ≡ s.locks.pending →
    same_txn q.txn t ≡ false → first_of (calls.voted u from q d).state.locks.pending t ≡ Some p → first_of s.locks.pending t ≡ Some p
voted-was t s u from q None k ne e = ap (λ ps. first_of ps t) (sym k) ∙ sym (first-push u.locks.pending q t ne) ∙ e
voted-was t s u from q (Some d) k ne e = ap (λ ps. first_of ps t) (sym k) ∙ e

got-pending : (s : BrickState) (from : NodeNo) (x : Txn) (key : ℕ) (o : Option _) → (calls.got s from x key o).state.locks.pending ≡ s.locks.pending
got-pending s from x key None = refl
got-pending s from x key (Some r) = refl

begin-stays : {t : Txn} (s : BrickState) → Once s.locks.pending → Stays s.known s.number t (first_of s.locks.pending t) (rows.is_resolved s t) [] s
begin-stays s once = record { knows = refl; number = refl; once = once; now = stays refl (λ i. inl i) }

-- turns that learn nothing
module _ {t : Txn} {p : Pending} {f at : ℕ} where
  same-serves : (s : BrickState) (l : Letter) (r : BrickTurn) → s.stopped ≡ false → r.state.known ≡ s.known → Stranded r.state t p →
      first_unknown p.list r.state.known ≡ Some f → (first_of r.state.locks.pending t ≡ Some p → first_of s.locks.pending t ≡ Some p) →
      (rows.is_resolved s t ≡ true → rows.is_resolved r.state t ≡ true) → tells_outcome t l ≡ false → Serves t p f at s l r
  same-serves s l r live k h first old more quiet =
      before (record { live = live; pending = old h.pending; library = sym (ap (λ n. has_node n t.library) k) ∙ h.library })
      (ap (λ n. first_unknown p.list n) (sym k) ∙ first) more quiet

  frame-serves : (s : BrickState) (l : Letter) (r : BrickTurn) → s.stopped ≡ false → r.state.known ≡ s.known → r.state.locks.pending ≡ s.locks.pending →
      r.state.resolving ≡ s.resolving → Stranded r.state t p → first_unknown p.list r.state.known ≡ Some f → tells_outcome t l ≡ false →
      Serves t p f at s l r
  frame-serves s l r live k e g h first quiet =
      same-serves s l r live k h first (λ i. ap (λ ps. first_of ps t) (sym e) ∙ i) (λ i. ap (list_any (rows.is_of t)) g ∙ i) quiet

  stays-serves : (s : BrickState) (l : Letter) (r : BrickTurn) → s.stopped ≡ false → Once s.locks.pending →
      Stays s.known s.number t (first_of s.locks.pending t) (rows.is_resolved s t) [] r.state → Stranded r.state t p →
      first_unknown p.list r.state.known ≡ Some f → tells_outcome t l ≡ false → Serves t p f at s l r
  stays-serves s l r live once k h first quiet =
      let end = now-pending r.state k h.pending in
      same-serves s l r live k.knows h first (λ i. end.0) end.1 quiet

-- a notice
noticed-serves : {t : Txn} {p : Pending} {f at : ℕ} (s : BrickState) (y : NodeNo) → y < 80 → s.stopped ≡ false → Once s.locks.pending →
    s.number ≡ at → Stranded (notices.notice_row s y).state t p → first_unknown p.list (notices.notice_row s y).state.known ≡ Some f →
    Serves t p f at s letter.Notice (notices.notice_row s y)
noticed-serves {t = t} {p = p} {f = f} {at = at} s y low live once number h first =
    let r = notices.notice_row s y in
    let knows = notice-knows s y once in
    let fs = some-first (unknown p.list (with_node s.known y)) f (ap (λ k. first_unknown p.list k) (sym knows) ∙ first) in
    let library : has_node (with_node s.known y) t.library ≡ true = ap (λ k. has_node k t.library) (sym knows) ∙ h.library in
    let n = notice-treats {me = at} s y p f fs.0 number once h.pending fs.1 library in
    pick r fs.0 fs.1 library n n.treated
  where
    pick : (r : BrickTurn) (fs : List ℕ) → unknown p.list (with_node s.known y) ≡ f ∷ fs → has_node (with_node s.known y) t.library ≡ true →
        Noticed t at y s p f (notices.notice_row s y) → Treated t p.list f at y (notices.notice_row s y) →
        Serves t p f at s letter.Notice (notices.notice_row s y)
    pick r fs e k n (gone i) = let bad : None ≡ Some p = sym i ∙ h.pending in cc
    pick r fs e k n (resolved i) = itself i
    pick r fs e k n (asks i j) = anew i j
    pick r fs e k n (neither i j l) =
        before (record {
          live = live;
          pending = n.was;
          library = sym (has-with s.known y t.library low ∙ ap (λ b. b || has_node s.known t.library) (apart-swap y t.library j)) ∙ k;
        })
        (first-before p.list (has_node s.known) (has_node (with_node s.known y)) y f fs (λ m. has-with s.known y m low)
        (first-dark p.list (has_node (with_node s.known y)) f fs e) l e)
        n.stays_resolved refl

-- a letter of orders
pub record Taken (at from : ℕ) (l : Letter) (s : BrickState) : Type 0 where
  pub live : s.stopped ≡ false
  pub once : Once s.locks.pending
  pub number : s.number ≡ at
  pub low : from < 80
  pub sender : OwnLetter from l
  pub unknown : has_node s.known from ≡ false

orders : {t : Txn} {p : Pending} {f at : ℕ} (s : BrickState) (from : NodeNo) (l : Letter) → Orders Any from l → tells_outcome t l ≡ false →
    Taken at from l s → Stranded (live_brick_turn s from l).state t p → first_unknown p.list (live_brick_turn s from l).state.known ≡ Some f →
    Serves t p f at s l (live_brick_turn s from l)
orders s from l o quiet k h first =
    let e = (letter-rests s from from l o).same in
    frame-serves s l (live_brick_turn s from l) k.live (ap (λ (w : Whole). w.who.known) e) (ap (λ (w : Whole). w.pending) e)
    (ap (λ (w : Whole). w.resolving) e) h first quiet

-- every letter
pub member-turn : {t : Txn} {p : Pending} {f at : ℕ} (s : BrickState) (from : NodeNo) (l : Letter) → Taken at from l s →
    Stranded (live_brick_turn s from l).state t p → first_unknown p.list (live_brick_turn s from l).state.known ≡ Some f →
    Serves t p f at s l (live_brick_turn s from l)
member-turn s from (letter.Get txn caller call key name stamp) k h first =
    let l = letter.Get txn caller call key name stamp in
    let q = call-plain s from l tt in
    frame-serves s l (live_brick_turn s from l) k.live q.known (got-pending s from txn key _) q.resolving h first refl
member-turn {t = t} s from (letter.Prepare txn caller call below name stamp list op) k h first =
    let l = letter.Prepare txn caller call below name stamp list op in
    let q = call-plain s from l tt in
    elim (cases_Bool (same_txn txn t)) [
      | inl i ↦
          let of : t.library ≡ from = ap (λ (x : Txn). x.library) (sym (is-same txn t i)) ∙ sym k.sender in
          let bad : true ≡ false = sym h.library ∙ ap (λ n. has_node n t.library) q.known ∙ ap (has_node s.known) of ∙ k.unknown in
          cc
      | inr i ↦
          same-serves s l (live_brick_turn s from l) k.live q.known h first
          (λ e. voted-was t s (calls.trim s txn.library below) from (record { txn = txn; caller = caller; call = call; op = op; list = list })
          (update_denial (calls.trim s txn.library below) op name stamp) refl i e)
          (λ e. ap (list_any (rows.is_of t)) q.resolving ∙ e) refl
    ]
member-turn {t = t} s from (letter.Commit txn) k h first =
    let l = letter.Commit txn in
    let q = call-plain s from l tt in
    same-serves s l (live_brick_turn s from l) k.live q.known h first
    (λ e. dropped-was t s txn k.once (ap (λ ps. first_of ps t) (sym (commit-pending (calls.dropped s txn) (calls.dropped s txn) from _)) ∙ e))
    (λ e. ap (list_any (rows.is_of t)) q.resolving ∙ e) refl
member-turn {t = t} s from (letter.Abort txn) k h first =
    let l = letter.Abort txn in
    let q = call-plain s from l tt in
    same-serves s l (live_brick_turn s from l) k.live q.known h first
    (λ e. dropped-was t s txn k.once (ap (λ ps. first_of ps t) (sym (abort-pending (calls.dropped s txn) _)) ∙ e))
    (λ e. ap (list_any (rows.is_of t)) q.resolving ∙ e) refl
member-turn s from (letter.MapAsk txn caller call key) k h first =
    frame-serves s _ (live_brick_turn s from (letter.MapAsk txn caller call key)) k.live refl refl refl h first refl
member-turn s from (letter.Got txn a) k h first = frame-serves s _ (live_brick_turn s from (letter.Got txn a)) k.live refl refl refl h first refl
member-turn s from (letter.Vote txn vote) k h first = frame-serves s _ (live_brick_turn s from (letter.Vote txn vote)) k.live refl refl refl h first refl
member-turn s from (letter.Applied txn was) k h first = frame-serves s _ (live_brick_turn s from (letter.Applied txn was)) k.live refl refl refl h first refl
member-turn s from (letter.Aborted txn) k h first = frame-serves s _ (live_brick_turn s from (letter.Aborted txn)) k.live refl refl refl h first refl
member-turn s from (letter.MapTell txn leaf) k h first = frame-serves s _ (live_brick_turn s from (letter.MapTell txn leaf)) k.live refl refl refl h first refl
member-turn s from (letter.Help txn list) k h first =
    stays-serves s (letter.Help txn list) (rows.help_row s from txn list) k.live k.once (help-stays s from txn list (begin-stays s k.once)) h first refl
member-turn s from (letter.Query txn list) k h first =
    stays-serves s (letter.Query txn list) (rows.query_row s from txn list) k.live k.once (query-stays s from txn list (begin-stays s k.once)) h first refl
member-turn s from (letter.Status txn st) k h first =
    stays-serves s (letter.Status txn st) (rows.status_row s from txn st) k.live k.once (hear-stays s from (news.Told txn st) (begin-stays s k.once)) h first
    refl
member-turn {t = t} {p = p} s from (letter.Outcome txn c) k h first = elim (cases_Bool (same_txn txn t)) [
  | inl i ↦ let bad : None ≡ Some p = sym (outcome-this t s txn c k.once i) ∙ h.pending in cc
  | inr i ↦ stays-serves s (letter.Outcome txn c) (rows.outcome_row s txn c) k.live k.once (outcome-stays s txn c (begin-stays s k.once)) h first i
]
member-turn s from letter.Notice k h first = noticed-serves s from k.low k.live k.once k.number h first
member-turn s from (letter.Push leaf) k h first = orders s from (letter.Push leaf) tt refl k h first
member-turn s from (letter.Lease number what) k h first = orders s from (letter.Lease number what) tt refl k h first
member-turn s from (letter.Granted number leaf) k h first = orders s from (letter.Granted number leaf) tt refl k h first
member-turn s from (letter.LeaseRefused number why) k h first = orders s from (letter.LeaseRefused number why) tt refl k h first
member-turn s from (letter.Release number name) k h first = orders s from (letter.Release number name) tt refl k h first
member-turn s from (letter.CopyAsk number name place) k h first = orders s from (letter.CopyAsk number name place) tt refl k h first
member-turn s from (letter.CopyPart number last pairs) k h first = orders s from (letter.CopyPart number last pairs) tt refl k h first
member-turn s from (letter.Install number leaf) k h first = orders s from (letter.Install number leaf) tt refl k h first
member-turn s from (letter.Installed number name) k h first = orders s from (letter.Installed number name) tt refl k h first
