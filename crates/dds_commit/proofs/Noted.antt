use Rattle.std.proofs.Common.{◌≡◌, ℕ, ◌∷◌, ◌++◌, Bool, true, false, Option, Some, None, refl, sym, ap, ◌∙◌}
use Rattle.std.specs.FinMap.{get}
use Rattle.dds_base.specs.Number.{Txn, same_txn}
use Rattle.dds_base.specs.declared.number.NodeNo.{NodeNo}
use Rattle.dds_base.specs.declared.pending.Pending.{Pending}
use Rattle.dds_books.specs.Books.{Book}
use Rattle.dds_brick_rows.specs.Calls as calls
use Rattle.dds_brick_rows.specs.Refusal.{get_refusal}
use Rattle.dds_brick_rows.specs.Resolution as rows
use Rattle.dds_core.specs.Brick.{live_brick_turn}
use Rattle.dds_letters.specs.declared.letter.Letter.{Letter}
use Rattle.dds_letters.specs.declared.letter.Letter.TheVariants as letter
use Rattle.dds_letters.specs.declared.refusal.Refusal.{Refusal}
use Rattle.dds_locks.proofs.Locked.{found-numbered}
use Rattle.dds_locks.specs.Pending.{first_of}
use Rattle.dds_net.specs.Event.{History}
use Rattle.dds_net.specs.Net.{Net, a_library, Sizes}
use Rattle.dds_states.specs.declared.brick_state.BrickState.{BrickState}
use Rattle.dds_resolve.proofs.CallRows.{IsCall}
use Rattle.dds_talk.proofs.BrickDone.{commit-cw, cw-decided}
use Rattle.dds_talk.proofs.BrickEvents.{abort-old, commit-fresh, commit-left, old-decided}
use Rattle.dds_talk.proofs.BrickTakes.{Origin}
use Rattle.dds_talk.proofs.Locks.{commit-done, prepare-old}
use Rattle.dds_talk.proofs.Parts.{get-other, get-this, is-same, pending-gone, pending-other, same-self}
use Rattle.dds_talk.proofs.Tales.{dropped-none}
use Rattle.dds_talk.specs.Books.{Books}
use Rattle.dds_talk.specs.Seen.{Once, asks, is_pending, one}
use Rattle.dds_talk.specs.Table.Ask.{commit}
use Rattle.dds_commit.proofs.Opens.{conversation}
use Rattle.dds_commit.proofs.Senders.{origin}
use Rattle.dds_commit.proofs.Standing.{Case, base, letter-placed}

-- What a brick notes at a letter of a call, and at an outcome.

-- what stood before was decided
pub old : {z : Sizes} {h : History} {n : Net} {a : Book} {b : Books} {at from : ℕ} {l : Letter} {s : BrickState} → Case z h n a b at from l s → (t : Txn)
    → get s.locks.outcomes t ≡ Some true → b.decided t ≡ true
old {z = z} {n = n} {b = b} {at = at} {s = s} c t e = old-decided z n at s b t c.parts c.fits.here e

got-outcome : (s : BrickState) (from : NodeNo) (txn : Txn) (key : ℕ) (o : Option Refusal) (t : Txn)
    → get (calls.got s from txn key o).state.locks.outcomes t ≡ get s.locks.outcomes t
got-outcome s from txn key None t = refl
got-outcome s from txn key (Some why) t = refl

-- a commit comes from a library that commits
told-decided : {z : Sizes} {h : History} {n : Net} {a : Book} {b : Books} {at from : ℕ} {s : BrickState} (x : Txn)
    → Case z h n a b at from (letter.Commit x) s → b.decided x ≡ true
told-decided {z = z} {n = n} {b = b} {at = at} {from = from} {s = s} x c =
    let o : Origin n from x = origin z n at from (letter.Commit x) x commit (letter-placed c) refl in
    let here : n.node x.library ≡ a_library o.library = ap n.node o.own ∙ o.here in
    let rest = c.fits.letter.others in
    let front : asks x (n.channel x.library at) ≡ commit ∷ asks x rest = ap (λ i. asks x (n.channel i at)) o.own ∙ ap (asks x) c.fits.letter.first
    ∙ ap (λ k. one k commit ++ asks x rest) (same-self x) in
    cw-decided z b x.library o.library x at (c.parts.calls x.library o.library here)
    (commit-cw front (conversation z n b x at o.library s (base c) c.parts here c.fits.here c.fits.live))

pub call-noted : {z : Sizes} {h : History} {n : Net} {a : Book} {b : Books} {at from : ℕ} {s : BrickState} (l : Letter) → Case z h n a b at from l s
    → IsCall l → (t : Txn) → get (live_brick_turn s from l).state.locks.outcomes t ≡ Some true → b.decided t ≡ true
call-noted {from = from} {s = s} (letter.Get txn caller call key name stamp) c i t e =
    old c t (sym (got-outcome s from txn key (get_refusal s key name stamp) t) ∙ e)
call-noted {from = from} {s = s} (letter.Prepare txn caller call below name stamp list op) c i t e =
    old c t (prepare-old s from (record { txn = txn; caller = caller; call = call; op = op; list = list }) below name stamp t true e)
call-noted {n = n} {b = b} {at = at} {from = from} {s = s} (letter.Commit x) c i t e =
    let ok = c.parts.note at s c.fits.here in
    elim (same_txn x t) as (λ q. same_txn x t ≡ q → b.decided t ≡ true) [
      | true ↦ λ q. ap b.decided (sym (is-same x t q)) ∙ told-decided x c
      | false ↦ λ q. old c t (sym (commit-fresh s from x t q (commit-done s from x (first_of s.locks.pending x) t refl ok.once)
          (commit-left s from x (first_of s.locks.pending x))) ∙ e)
    ] refl
call-noted {s = s} (letter.Abort x) c i t e = old c t (abort-old s x (first_of s.locks.pending x) t e)
call-noted (letter.MapAsk txn caller call key) c i t e = old c t e
call-noted (letter.Got txn a) c i t e = old c t e
call-noted (letter.Vote txn vote) c i t e = old c t e
call-noted (letter.Applied txn was) c i t e = old c t e
call-noted (letter.Aborted txn) c i t e = old c t e
call-noted (letter.MapTell txn leaf) c i t e = old c t e
call-noted other c i t e = absurd i

-- an outcome ends its own attempt, where that is pending, and leaves all others
pub data OutcomeDone (s u : BrickState) (x : Txn) (o : Bool) (t : Txn) : Type 0 where
  kept : is_pending u.locks.pending t ≡ is_pending s.locks.pending t → get u.locks.outcomes t ≡ get s.locks.outcomes t → OutcomeDone s u x o t
  told : x ≡ t → is_pending u.locks.pending t ≡ false → get u.locks.outcomes t ≡ Some o → OutcomeDone s u x o t

ends-told : (s u : BrickState) (x : Txn) (p : Pending) (o : Bool) (t : Txn) → u.locks.pending ≡ (calls.dropped s x).locks.pending
    → u.locks.outcomes ≡ (calls.noted (calls.dropped s x) p.txn o).locks.outcomes → first_of s.locks.pending x ≡ Some p → Once s.locks.pending
    → OutcomeDone s u x o t
ends-told s u x p o t pe oe f once =
    let px : p.txn ≡ x = is-same p.txn x (found-numbered s.locks.pending p x f) in
    elim (same_txn x t) as (λ b. same_txn x t ≡ b → OutcomeDone s u x o t) [
      | true ↦ λ e. let xt : x ≡ t = is-same x t e in told xt
          (ap (λ ps. is_pending ps t) pe ∙ ap (is_pending (calls.dropped s x).locks.pending) (sym xt) ∙ pending-gone s.locks.pending x once)
          (ap (λ m. get m t) oe ∙ ap (λ v. get (calls.noted (calls.dropped s x) v o).locks.outcomes t) (px ∙ xt) ∙ get-this s.locks.outcomes t o)
      | false ↦ λ e. kept (ap (λ ps. is_pending ps t) pe ∙ pending-other s.locks.pending x t e)
          (ap (λ m. get m t) oe ∙ get-other s.locks.outcomes p.txn t o (ap (λ v. same_txn v t) px ∙ e))
    ] refl

settled-done : (s : BrickState) (x : Txn) (o : Bool) (q : Option Pending) (t : Txn) → first_of s.locks.pending x ≡ q → Once s.locks.pending
    → OutcomeDone s (rows.settled (calls.dropped s x) o q).state x o t
settled-done s x o None t f once = kept (dropped-none s x t f once) refl
settled-done s x true (Some p) t f once = ends-told s (calls.applied (calls.dropped s x) p).state x p true t refl refl f once
settled-done s x false (Some p) t f once = ends-told s (calls.aborted (calls.dropped s x) (Some p)) x p false t refl refl f once

pub outcome-done : (s : BrickState) (x : Txn) (o : Bool) (t : Txn) → Once s.locks.pending → OutcomeDone s (rows.outcome_row s x o).state x o t
outcome-done s x o t once = settled-done s x o (first_of s.locks.pending x) t refl once
