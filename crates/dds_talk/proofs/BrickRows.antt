use Rattle.std.proofs.Common.{◌≡◌, ℕ, ◌++◌, ◌||◌, Bool, true, false, List, [], ◌∷◌, Option, Some, None, is_some, refl, sym, ap, ◌∙◌, subst}
use Rattle.std.proofs.lemmas.List.{append-nil}
use Rattle.dds_base.specs.Name.{Name}
use Rattle.dds_base.specs.Number.{Txn, StampOf, same_txn}
use Rattle.dds_base.specs.declared.number.NodeNo.{NodeNo}
use Rattle.dds_base.specs.declared.pending.Pending.{Pending}
use Rattle.dds_brick_rows.specs.Calls as calls
use Rattle.dds_brick_rows.specs.Refusal.{update_denial}
use Rattle.dds_letters.specs.declared.letter.Letter.{Letter}
use Rattle.dds_letters.specs.declared.letter.Letter.TheVariants as letter
use Rattle.dds_letters.specs.declared.refusal.Ballot.TheVariants as ballot
use Rattle.dds_letters.specs.declared.refusal.Denial.{Denial}
use Rattle.dds_locks.proofs.Locked.{found-numbered}
use Rattle.dds_locks.specs.Pending.{first_of}
use Rattle.dds_states.specs.Turn.{BrickTurn}
use Rattle.dds_states.specs.declared.brick_state.BrickState.{BrickState}
use Rattle.dds_net.specs.Net.{Sizes, gains}
use Rattle.dds_talk.proofs.Letters.{IsAsker, NoneAbout, about-none, about-own}
use Rattle.dds_talk.proofs.Moves.{Hears, member-hears}
use Rattle.dds_talk.proofs.Moves.Hears.{votes_yes, votes_no, applies, aborts, aborts_none, aborts_done, aborts_twice}
use Rattle.dds_talk.proofs.Parts.{Agrees, is-same, noted-other, noted-this, pending-gone, pending-other, pending-push, trim-agrees}
use Rattle.dds_talk.specs.Seen.{Once, at, at_of, is_pending, noting, one, said, says}
use Rattle.dds_talk.specs.Table.{Ask, Say, At, View, Talks}
use Rattle.dds_talk.specs.Table.Ask.{prepare, commit, abort}
use Rattle.dds_talk.specs.Table.Say.{yes, no, applied, aborted}
use Rattle.dds_talk.specs.Table.At.{Unprepared, Prepared}

-- A brick's turn at a library's letter of an attempt, as each attempt sees it.

-- nothing is heard of it, or one letter is, and one is said
pub data Half : List Ask → At → At → List Say → Type 0 where
  still : (a : At) → Half [] a a []
  hears : {x : Ask} {a b : At} {y : Say} → Hears x a y b → Half (x ∷ []) a b (y ∷ [])

-- what an attempt must be, to hear this
abbrev pub Fits : List Ask → At → Type 0
Fits [] a = Unit {0}
Fits (prepare ∷ xs) a = a ≡ Unprepared
Fits (commit ∷ xs) a = a ≡ Prepared
Fits (abort ∷ xs) a = Unit {0}

-- a turn from s to u that sends these letters
abbrev pub Row : Sizes → (Txn → Option Bool) → BrickState → List Ask → BrickTurn → Txn → Type 0
Row z noted s heard r t =
    Half heard (at s.locks.pending (noted t) t) (at r.state.locks.pending (noting r.state.locks.outcomes noted t) t)
    (says t (gains z r.out.letters t.library))

says-one : (z : Sizes) (t txn : Txn) (from : NodeNo) (l : Letter) (y : Say) → IsAsker z from → said l ≡ Some (txn, y) → from ≡ txn.library
    → says t (gains z ((from, l) ∷ []) t.library) ≡ one (same_txn txn t) y
says-one z t txn from l y f e own = about-own said t txn z from l y f.few e own f.inside

-- Prepare
half-yes : (b x : Bool) (n : Option Bool) → Half (one b prepare) (at_of x n) (at_of (x || b) n) (one b yes)
half-yes true true n = hears (votes_yes Prepared)
half-yes true false n = hears (votes_yes (at_of false n))
half-yes false true n = still Prepared
half-yes false false n = still (at_of false n)

half-no : (b : Bool) (a : At) → Half (one b prepare) a a (one b no)
half-no true a = hears (votes_no a)
half-no false a = still a

voted : (z : Sizes) (s : BrickState) (from : NodeNo) (p : Pending) (d : Option Denial) (noted : Txn → Option Bool) (t : Txn) → IsAsker z from
    → from ≡ p.txn.library → Agrees s.locks.outcomes noted → Row z noted s (one (same_txn p.txn t) prepare) (calls.voted s from p d) t
voted z s from p None noted t f own a =
    rw (a t, pending-push s.locks.pending p t, says-one z t p.txn from (letter.Vote p.txn ballot.Yes) yes f refl own)
    (half-yes (same_txn p.txn t) (is_pending s.locks.pending t) (noted t))
voted z s from p (Some d) noted t f own a =
    rw (a t, says-one z t p.txn from (letter.Vote p.txn (ballot.No d)) no f refl own) (half-no (same_txn p.txn t) (at s.locks.pending (noted t) t))

pub prepare-row : (z : Sizes) (s : BrickState) (from : NodeNo) (p : Pending) (below : ℕ) (name : Name) (stamp : StampOf) (noted : Txn → Option Bool)
    (t : Txn) → IsAsker z from → from ≡ p.txn.library → Agrees s.locks.outcomes noted
    → Row z noted s (one (same_txn p.txn t) prepare) (calls.prepare_row s from p below name stamp) t
prepare-row z s from p below name stamp noted t f own a =
    voted z (calls.trim s p.txn.library below) from p (update_denial s p.op name stamp) noted t f own (trim-agrees s.locks.outcomes noted p.txn.library below a)

-- Commit
is-p : (x : Bool) (n : Option Bool) → at_of x n ≡ Prepared → x ≡ true
is-p true n e = refl
is-p false None e = cc
is-p false (Some true) e = cc
is-p false (Some false) e = cc

commit-if : (z : Sizes) (b : Bool) (s : BrickState) (from : NodeNo) (u : Txn) (q : Option Pending) (noted : Txn → Option Bool) (t : Txn) → IsAsker z from
    → same_txn u t ≡ b → first_of s.locks.pending u ≡ q → from ≡ u.library → Agrees s.locks.outcomes noted → Once s.locks.pending
    → Fits (one b commit) (at s.locks.pending (noted t) t) → Row z noted s (one b commit) (calls.commit_found (calls.dropped s u) from q) t
commit-if z true s from u None noted t f e is own a o fit =
    let k : true ≡ false = sym (is-p (is_pending s.locks.pending t) (noted t) fit) ∙ ap (is_pending s.locks.pending) (sym (is-same u t e)) ∙ ap is_some is in
    cc
commit-if z true s from u (Some p) noted t f e is own a o fit =
    let r = calls.commit_found (calls.dropped s u) from (Some p) in
    let ut : u ≡ t = is-same u t e in
    let pu : p.txn ≡ u = is-same p.txn u (found-numbered s.locks.pending p u is) in
    let pt : p.txn ≡ t = pu ∙ ut in
    let gone : is_pending (calls.dropped s u).locks.pending t ≡ false =
    ap (is_pending (calls.dropped s u).locks.pending) (sym ut) ∙ pending-gone s.locks.pending u o in
    let noting_is : noting r.state.locks.outcomes noted t ≡ Some true =
    ap (noting r.state.locks.outcomes noted) (sym pt) ∙ noted-this s.locks.outcomes noted p.txn true in
    let flag = calls.flag_at (calls.dropped s u) p in
    rw (
      fit,
      gone,
      noting_is,
      says-one z t p.txn from (letter.Applied p.txn flag) applied f refl (own ∙ ap (λ (v : Txn). v.library) (sym pu)),
      ap (λ v. same_txn v t) pu,
      e,
    ) (hears applies)
commit-if z false s from u None noted t f e is own a o fit =
    rw (a t, pending-other s.locks.pending u t e, about-none said t z t.library [] tt) (still (at s.locks.pending (noted t) t))
commit-if z false s from u (Some p) noted t f e is own a o fit =
    let pu : p.txn ≡ u = is-same p.txn u (found-numbered s.locks.pending p u is) in
    let pe : same_txn p.txn t ≡ false = ap (λ v. same_txn v t) pu ∙ e in
    let flag = calls.flag_at (calls.dropped s u) p in
    rw (
      noted-other s.locks.outcomes noted p.txn t true a pe,
      pending-other s.locks.pending u t e,
      says-one z t p.txn from (letter.Applied p.txn flag) applied f refl (own ∙ ap (λ (v : Txn). v.library) (sym pu)),
      pe,
    )
    (still (at s.locks.pending (noted t) t))

pub commit-row : (z : Sizes) (s : BrickState) (from : NodeNo) (u : Txn) (noted : Txn → Option Bool) (t : Txn) → IsAsker z from → from ≡ u.library
    → Agrees s.locks.outcomes noted → Once s.locks.pending → Fits (one (same_txn u t) commit) (at s.locks.pending (noted t) t)
    → Row z noted s (one (same_txn u t) commit) (calls.commit_row s from u) t
commit-row z s from u noted t f own a o fit = commit-if z (same_txn u t) s from u (first_of s.locks.pending u) noted t f refl refl own a o fit

-- Abort
aborts-free : (n : Option Bool) → Half (abort ∷ []) (at_of false n) (at_of false n) (aborted ∷ [])
aborts-free None = hears aborts_none
aborts-free (Some true) = hears aborts_done
aborts-free (Some false) = hears aborts_twice

abort-if : (b : Bool) (s : BrickState) (u : Txn) (q : Option Pending) (noted : Txn → Option Bool) (t : Txn) → same_txn u t ≡ b
    → first_of s.locks.pending u ≡ q → Agrees s.locks.outcomes noted → Once s.locks.pending
    → Half (one b abort) (at s.locks.pending (noted t) t)
    (at (calls.aborted (calls.dropped s u) q).locks.pending (noting (calls.aborted (calls.dropped s u) q).locks.outcomes noted t) t) (one b aborted)
abort-if true s u None noted t e f a o =
    let ut : u ≡ t = is-same u t e in
    let free : is_pending s.locks.pending t ≡ false = ap (is_pending s.locks.pending) (sym ut) ∙ ap is_some f in
    let gone : is_pending (calls.dropped s u).locks.pending t ≡ false =
    ap (is_pending (calls.dropped s u).locks.pending) (sym ut) ∙ pending-gone s.locks.pending u o in
    rw (a t, free, gone) (aborts-free (noted t))
abort-if true s u (Some p) noted t e f a o =
    let ut : u ≡ t = is-same u t e in
    let pt : p.txn ≡ t = is-same p.txn u (found-numbered s.locks.pending p u f) ∙ ut in
    let x = calls.aborted (calls.dropped s u) (Some p) in
    let was : is_pending s.locks.pending t ≡ true = ap (is_pending s.locks.pending) (sym ut) ∙ ap is_some f in
    let gone : is_pending (calls.dropped s u).locks.pending t ≡ false =
    ap (is_pending (calls.dropped s u).locks.pending) (sym ut) ∙ pending-gone s.locks.pending u o in
    let is : noting x.locks.outcomes noted t ≡ Some false = ap (noting x.locks.outcomes noted) (sym pt) ∙ noted-this s.locks.outcomes noted p.txn false in
    rw (was, gone, is) (hears aborts)
abort-if false s u None noted t e f a o = rw (a t, pending-other s.locks.pending u t e) (still (at s.locks.pending (noted t) t))
abort-if false s u (Some p) noted t e f a o =
    let pe : same_txn p.txn t ≡ false = ap (λ v. same_txn v t) (is-same p.txn u (found-numbered s.locks.pending p u f)) ∙ e in
    rw (noted-other s.locks.outcomes noted p.txn t false a pe, pending-other s.locks.pending u t e) (still (at s.locks.pending (noted t) t))

pub abort-row : (z : Sizes) (s : BrickState) (from : NodeNo) (u : Txn) (noted : Txn → Option Bool) (t : Txn) → IsAsker z from → from ≡ u.library
    → Agrees s.locks.outcomes noted → Once s.locks.pending → Row z noted s (one (same_txn u t) abort) (calls.abort_row s from u) t
abort-row z s from u noted t f own a o =
    rw (says-one z t u from (letter.Aborted u) aborted f refl own) (abort-if (same_txn u t) s u (first_of s.locks.pending u) noted t refl refl a o)

-- a row that changes no lock, no outcome, and says nothing of attempts
pub other-row : (z : Sizes) (s : BrickState) (r : BrickTurn) (noted : Txn → Option Bool) (t : Txn) → Agrees s.locks.outcomes noted
    → r.state.locks.pending ≡ s.locks.pending → r.state.locks.outcomes ≡ s.locks.outcomes → NoneAbout said t r.out.letters → Row z noted s [] r t
other-row z s r noted t a p o q = rw (p, o, about-none said t z t.library r.out.letters q, a t) (still (at s.locks.pending (noted t) t))

-- a row's half carries `talk`
pub half-talks : {ll : Bool} {v : View} {xs o : List Ask} {a a' : At} {ys b : List Say} → Half xs a a' ys → Talks ll true v (xs ++ o) a b
    → Talks ll true v o a' (b ++ ys)
half-talks {ll = ll} {v = v} {o = o} {b = b} (still a) h = subst (λ x. Talks ll true v o a x) (sym (append-nil b)) h
half-talks (hears m) h = member-hears m h
