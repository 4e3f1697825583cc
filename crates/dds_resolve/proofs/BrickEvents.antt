use Rattle.std.proofs.Common.{◌≡◌, ℕ, ◌≤◌, false, ap, ◌∙◌, subst}
use Rattle.std.specs.List.{AllByRecursion}
use Rattle.dds_core.proofs.LetterTells.{letter-tells}
use Rattle.dds_core.proofs.Tells.{Who}
use Rattle.dds_core.specs.Brick.{live_brick_turn}
use Rattle.dds_law_notice.proofs.Keeps.{AreLinked}
use Rattle.dds_letters.specs.declared.letter.Letter.{Letter}
use Rattle.dds_letters.specs.declared.letter.Letter.TheVariants as letter
use Rattle.dds_net.proofs.Runs.{IsBuilt}
use Rattle.dds_net.specs.Event.{Takes, brick_takes, moved}
use Rattle.dds_net.specs.Net.{Net, a_brick, Sizes}
use Rattle.dds_states.specs.declared.brick_state.BrickState.{BrickState}
use Rattle.dds_talk.specs.Books.{Books}
use Rattle.dds_resolve.proofs.Here.{unknown-sender}
use Rattle.dds_resolve.proofs.Ready.{Readies}
use Rattle.dds_resolve.proofs.Grounds.{begins}
use Rattle.dds_resolve.proofs.TeamKeeps.{notice-ok, turn-good}
use Rattle.dds_resolve.proofs.Turned.{brick-turned}
use Rattle.dds_resolve.specs.Resolved.{Resolve}
use Rattle.dds_resolve.specs.Team.{LetterOk}
use Rattle.dds_resolve.specs.Teams.{NodeOk, OpensOf, Teams, ground}
use Rattle.dds_resolve.proofs.Beside.{Beside, letters-after, Case, now_decided}
use Rattle.dds_resolve.proofs.Keeps.{resolve-after}

-- A brick takes a letter, in the world: it keeps the conversations of all live resolvers.

turn-lives : (s : BrickState) (from : ℕ) (l : Letter) → s.stopped ≡ false → (live_brick_turn s from l).state.stopped ≡ false
turn-lives s from letter.Notice e = ap (λ (w : Who). w.stopped) (letter-tells s from letter.Notice).same ∙ e
turn-lives s from other e = ap (λ (w : Who). w.stopped) (letter-tells s from other).same ∙ e

-- what is so where it takes it
case-of : (z : Sizes) → z.bricks ≤ 64 → z.libraries ≤ 16 → (w : Net) (n from : ℕ) (l : Letter) (s : BrickState) (b : Books) → IsBuilt z w →
    (f : Takes z w n from l (a_brick s)) → AreLinked z w → Teams z w b.list
    → OpensOf (ground z w b.list) (brick_takes n from l s) → Readies s.known n s → Beside z w b n from s l → Resolve w b.list b.decided
    → Case z w (moved z w (brick_takes n from l s)) b n from s l f.letter.others
case-of z few some w n from l s b built f links t opens readies beside resolve =
    let g = ground z w b.list in
    let r = live_brick_turn s from l in
    let good = turn-good z w b.list n from l s few some f.here f.letter links opens t in
    let bricks = (λ (m : ℕ) (y : BrickState) (e : w.node m ≡ a_brick y). subst (NodeOk g m) e (t.nodes m)) in
    let first = subst (AllByRecursion (LetterOk g from n)) f.letter.first (t.letters from n) in
    record {
      step = brick-turned z w b.list n from s l few built f.here f.live f.letter good.letters;
      ok = begins s (bricks n s f.here) opens.0;
      good = good;
      bricks = bricks;
      letters = letters-after z w b.list n from (a_brick r.state) r.out.letters few good.letters t;
      letter_ok = first.0;
      notice = notice-ok z w b.list n from l few some f.letter links;
      unknown = unknown-sender z w n from l s links f.letter f.here;
      readies = readies;
      stays = turn-lives s from l f.live;
      beside = beside;
      resolve = resolve;
    }

pub resolve-takes : (z : Sizes) → z.bricks ≤ 64 → z.libraries ≤ 16 → (w : Net) (n from : ℕ) (l : Letter) (s : BrickState) (b : Books) → IsBuilt z w →
    Takes z w n from l (a_brick s) → AreLinked z w → Teams z w b.list
    → OpensOf (ground z w b.list) (brick_takes n from l s) → Readies s.known n s → Beside z w b n from s l → Resolve w b.list b.decided
    → Resolve (moved z w (brick_takes n from l s)) b.list (now_decided b (live_brick_turn s from l))
resolve-takes z few some w n from l s b built f links t opens readies beside resolve =
    resolve-after {z = z} {w = w} {v = moved z w (brick_takes n from l s)} {b = b} {n = n} {from = from} {s = s} {l = l} {rest = f.letter.others}
    (case-of z few some w n from l s b built f links t opens readies beside resolve)
