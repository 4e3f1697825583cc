use Rattle.std.proofs.Common.{◌≡◌, ℕ, ◌||◌, Bool, true, false, Option, Some, None, refl, sym, ap, ◌∙◌, subst}
use Rattle.std.specs.FinMap.{get}
use Rattle.dds_base.specs.BrickList.{has}
use Rattle.dds_base.specs.Number.{Txn}
use Rattle.dds_books.specs.Books.{Book}
use Rattle.dds_core.proofs.LetterTells.{letter-rests, letter-tells}
use Rattle.dds_core.proofs.Rests.{Whole}
use Rattle.dds_core.proofs.Tells.{Who}
use Rattle.dds_core.specs.Brick.{live_brick_turn}
use Rattle.dds_letters.specs.declared.letter.Letter.{Letter}
use Rattle.dds_letters.specs.declared.letter.Letter.TheVariants as letter
use Rattle.dds_net.specs.Event.{History, brick_takes, moved}
use Rattle.dds_net.specs.Net.{Net, Sizes}
use Rattle.dds_states.specs.Turn.{first_some}
use Rattle.dds_states.specs.declared.brick_state.BrickState.{BrickState}
use Rattle.dds_resolve.proofs.Beside.{Beside}
use Rattle.dds_resolve.proofs.CallRows.{IsCall}
use Rattle.dds_resolve.proofs.Deciders.{MayDecide, idle-same, knowing, no-team-idle}
use Rattle.dds_resolve.proofs.MemberTurns.{own-same}
use Rattle.dds_resolve.proofs.OneResolver.{NoTeam}
use Rattle.dds_resolve.proofs.ResolverLetters.{Settling}
use Rattle.dds_resolve.specs.Resolving.{own_at}
use Rattle.dds_resolve.specs.Teams.{ground, is_frozen}
use Rattle.dds_talk.specs.Books.{Books, is_yes, with_brick}
use Rattle.dds_talk.specs.Parts.{Commit}
use Rattle.dds_talk.specs.Resolve.{Agreed}
use Rattle.dds_talk.specs.Seen.{at_of}
use Rattle.dds_commit.proofs.Agreeing.{agreed-if}
use Rattle.dds_commit.proofs.Going.{step}
use Rattle.dds_commit.proofs.Noted.{OutcomeDone, call-noted, old, outcome-done}
use Rattle.dds_commit.proofs.Noted.OutcomeDone.{kept, told}
use Rattle.dds_commit.proofs.Settling.{outcome-is}
use Rattle.dds_commit.proofs.Standing.{Case, agree, alone, brick-ok, letter-team, library-apart, notice, readies, sender, speaker, trims, unknown}

-- What two-phase commit gives the parts on resolving, at a brick that takes a letter: before the letter and after it.

lives-on : (s : BrickState) (l : Letter) (from : ℕ) → s.stopped ≡ false → (live_brick_turn s from l).state.stopped ≡ false
lives-on s letter.Notice from e = ap (λ (w : Who). w.stopped) (letter-tells s from letter.Notice).same ∙ e
lives-on s other from e = ap (λ (w : Who). w.stopped) (letter-tells s from other).same ∙ e

pub yes-some : (o : Option Bool) → is_yes o ≡ true → o ≡ Some true
yes-some None e = cc
yes-some (Some true) e = refl
yes-some (Some false) e = cc

none-first : (g o : Option Bool) → first_some g o ≡ None → g ≡ None
none-first None o e = refl
none-first (Some c) o e = cc

or-same : (d : Bool) (o : Option Bool) → (o ≡ Some true → d ≡ true) → (d || is_yes o) ≡ d
or-same true o f = refl
or-same false None f = refl
or-same false (Some true) f = sym (f refl)
or-same false (Some false) f = refl

told-agrees : (d o : Bool) → o ≡ d → Agreed d (at_of false (Some o))
told-agrees true true e = tt
told-agrees true false e = cc
told-agrees false true e = cc
told-agrees false false e = tt

module _ {z : Sizes} {h : History} {n : Net} {a : Book} {b : Books} {at from : ℕ} {s : BrickState} where
  -- a letter of a call: by the parts after it
  call-settled : (l : Letter) (c : Case z h n a b at from l s)
      → Commit z (moved z n (brick_takes at from l s)) (with_brick at (live_brick_turn s from l).state b) → IsCall l → (t : Txn)
      → (ground z n b.list).frozen t ≡ true → has (b.list t) at ≡ true → Agreed (b.decided t) (own_at (live_brick_turn s from l).state t)
  call-settled l c after i t frozen listed =
      let u = (live_brick_turn s from l).state in
      let v = moved z n (brick_takes at from l s) in
      let stays : v.node t.library ≡ n.node t.library = (step c).nodes t.library (library-apart c t frozen) in
      let same : (with_brick at u b).decided t ≡ b.decided t = or-same (b.decided t) (get u.locks.outcomes t) (λ e. call-noted l c i t e) in
      subst (λ d. Agreed d (own_at u t)) same
      (agreed-if z v (with_brick at u b) t at u after (step c).is (lives-on s l from c.fits.live) (λ y here. unknown c t.library y (sym stays ∙ here)) listed
      (ap (λ x. is_frozen x t) stays ∙ frozen))

  outcome-settled : (x : Txn) (o : Bool) (c : Case z h n a b at from (letter.Outcome x o) s) → (t : Txn)
      → (ground z n b.list).frozen t ≡ true → has (b.list t) at ≡ true → OutcomeDone s (live_brick_turn s from (letter.Outcome x o)).state x o t
      → Agreed (b.decided t) (own_at (live_brick_turn s from (letter.Outcome x o)).state t)
  outcome-settled x o c t frozen listed (kept pe oe) =
      subst (Agreed (b.decided t)) (sym (own-same s (live_brick_turn s from (letter.Outcome x o)).state t pe oe))
      (agree c t at s c.fits.here c.fits.live listed frozen)
  outcome-settled x o c t frozen listed (told xt pe oe) =
      let u = (live_brick_turn s from (letter.Outcome x o)).state in
      subst (Agreed (b.decided t)) (sym (ap (λ p. at_of p (get u.locks.outcomes t)) pe ∙ ap (at_of false) oe))
      (told-agrees (b.decided t) o ((outcome-is x o c).0 ∙ ap b.decided xt))

  settled-at : (l : Letter) (c : Case z h n a b at from l s)
      → Commit z (moved z n (brick_takes at from l s)) (with_brick at (live_brick_turn s from l).state b) → (t : Txn) → (ground z n b.list).frozen t ≡ true
      → has (b.list t) at ≡ true → Settling l → Agreed (b.decided t) (own_at (live_brick_turn s from l).state t)
  settled-at (letter.Outcome x o) c after t frozen listed i =
      outcome-settled x o c t frozen listed (outcome-done s x o t (c.parts.note at s c.fits.here).once)
  settled-at other c after t frozen listed i = call-settled other c after i t frozen listed

  -- what is noted of an attempt that the brick doesn't resolve
  outcome-noted : (x : Txn) (o : Bool) (c : Case z h n a b at from (letter.Outcome x o) s) → (t : Txn)
      → OutcomeDone s (live_brick_turn s from (letter.Outcome x o)).state x o t
      → get (live_brick_turn s from (letter.Outcome x o)).state.locks.outcomes t ≡ Some true → b.decided t ≡ true
  outcome-noted x o c t (kept pe oe) e = old c t (sym oe ∙ e)
  outcome-noted x o c t (told xt pe oe) e =
      ap b.decided (sym xt) ∙ sym (outcome-is x o c).0 ∙ some-is (sym oe ∙ e)
    where
      some-is : {p q : Bool} → Some p ≡ Some q → p ≡ q
      some-is e = cc

  idle-noted : (l : Letter) (c : Case z h n a b at from l s) → MayDecide l → (t : Txn) → NoTeam (ground z n b.list) t at
      → get (live_brick_turn s from l).state.locks.outcomes t ≡ Some true → b.decided t ≡ true
  idle-noted l c i t none e =
      let k = idle-same from l i (brick-ok c) (readies c) (letter-team c) (notice c) t
      (no-team-idle (ground z n b.list) (knowing s from l) at t none) in
      old c t (sym k.outcomes ∙ e)

  noted-at : (l : Letter) (c : Case z h n a b at from l s) → (t : Txn) → NoTeam (ground z n b.list) t at
      → get (live_brick_turn s from l).state.locks.outcomes t ≡ Some true → b.decided t ≡ true
  noted-at (letter.Get txn caller call key name stamp) c t none e = call-noted (letter.Get txn caller call key name stamp) c tt t e
  noted-at (letter.Prepare txn caller call below name stamp list op) c t none e =
      call-noted (letter.Prepare txn caller call below name stamp list op) c tt t e
  noted-at (letter.Commit txn) c t none e = call-noted (letter.Commit txn) c tt t e
  noted-at (letter.Abort txn) c t none e = call-noted (letter.Abort txn) c tt t e
  noted-at (letter.MapAsk txn caller call key) c t none e = call-noted (letter.MapAsk txn caller call key) c tt t e
  noted-at (letter.Got txn what) c t none e = call-noted (letter.Got txn what) c tt t e
  noted-at (letter.Vote txn vote) c t none e = call-noted (letter.Vote txn vote) c tt t e
  noted-at (letter.Applied txn was) c t none e = call-noted (letter.Applied txn was) c tt t e
  noted-at (letter.Aborted txn) c t none e = call-noted (letter.Aborted txn) c tt t e
  noted-at (letter.MapTell txn leaf) c t none e = call-noted (letter.MapTell txn leaf) c tt t e
  noted-at (letter.Help txn list) c t none e = idle-noted (letter.Help txn list) c tt t none e
  noted-at (letter.Query txn list) c t none e = idle-noted (letter.Query txn list) c tt t none e
  noted-at (letter.Status txn status) c t none e = idle-noted (letter.Status txn status) c tt t none e
  noted-at letter.Notice c t none e = idle-noted letter.Notice c tt t none e
  noted-at (letter.Outcome x o) c t none e =
      outcome-noted x o c t (outcome-done s x o t (c.parts.note at s c.fits.here).once) e
  noted-at other c t none e = old c t (sym (ap (λ (w : Whole). get w.outcomes t) (letter-rests s from from other tt).same) ∙ e)

  pub beside : (l : Letter) (c : Case z h n a b at from l s)
      → Commit z (moved z n (brick_takes at from l s)) (with_brick at (live_brick_turn s from l).state b) → Beside z n b at from s l
  beside l c after =
      let u = (live_brick_turn s from l).state in
      let ok = after.note at u (step c).is in
      record {
        once = (c.parts.note at s c.fits.here).once;
        free = λ t p. none-first (get u.locks.outcomes t) ((with_brick at u b).noted at t) (ok.agrees t ∙ ok.free t p);
        alone = λ t known e. alone c t known e;
        agree = λ t m y is lives listed e. agree c t m y is lives listed e;
        settled = λ t e listed i. settled-at l c after t e listed i;
        noted = λ t none e. noted-at l c t none (yes-some (get u.locks.outcomes t) e);
        trims = λ t e. trims c t e;
        sender = sender c;
        speaker = λ x st e. speaker c x st e;
      }
