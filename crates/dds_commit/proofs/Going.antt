use Rattle.std.proofs.Common.{◌≡◌, ℕ, true, false, ap, ◌∙◌, subst}
use Rattle.dds_base.specs.BrickList.{has}
use Rattle.dds_base.specs.NodeSet.{has_node}
use Rattle.dds_base.specs.Number.{Txn}
use Rattle.dds_base.specs.declared.pending.TxnStatus.{TxnStatus}
use Rattle.dds_books.specs.Books.{Book}
use Rattle.dds_core.specs.Brick.{live_brick_turn}
use Rattle.dds_letters.specs.declared.letter.Letter.{Letter}
use Rattle.dds_letters.specs.declared.letter.Letter.TheVariants as letter
use Rattle.dds_net.specs.Event.{History, brick_takes, moved}
use Rattle.dds_net.specs.Net.{Net, a_brick, Sizes}
use Rattle.dds_states.specs.declared.brick_state.BrickState.{BrickState}
use Rattle.dds_resolve.proofs.Deciders.{MayDecide}
use Rattle.dds_resolve.proofs.Here.{blind-here, unknown-sender}
use Rattle.dds_resolve.proofs.ResolverLetters.{Settling, resolver-letter}
use Rattle.dds_resolve.proofs.ResolverSteps.{Going}
use Rattle.dds_resolve.proofs.Seats.{seats, seats-there}
use Rattle.dds_resolve.proofs.TeamKeeps.{turn-good}
use Rattle.dds_resolve.proofs.TeamTurns.{Good}
use Rattle.dds_resolve.proofs.Turned.{Turned, brick-turned}
use Rattle.dds_resolve.specs.Resolved.{Pair}
use Rattle.dds_resolve.specs.Resolving.{own_at}
use Rattle.dds_resolve.specs.Team.{LetterOk, Team}
use Rattle.dds_resolve.specs.Teams.{ground, is_stopped}
use Rattle.dds_talk.specs.Books.{Books}
use Rattle.dds_talk.specs.Resolve.{Agreed}
use Rattle.dds_commit.proofs.Standing.{Case, agree, alone, brick-ok, letter-team, notice, opens, readies, sender, speaker, trims}

-- A resolver's turn where it may decide, by all parts before.

no-settling : (l : Letter) → MayDecide l → Settling l → ⊥
no-settling (letter.Help txn list) i h = h
no-settling (letter.Query txn list) i h = h
no-settling (letter.Status txn status) i h = h
no-settling letter.Notice i h = h
no-settling other i h = absurd i

module _ {z : Sizes} {h : History} {n : Net} {a : Book} {b : Books} {at from : ℕ} {l : Letter} {s : BrickState} (c : Case z h n a b at from l s) where
  pub good : Good (ground z n b.list) at (live_brick_turn s from l)
  good = turn-good z n b.list at from l s c.few c.some c.fits.here c.fits.letter c.low.0 (opens c) c.resolve.teams

  pub step : Turned n (moved z n (brick_takes at from l s)) at from s l c.fits.letter.others (live_brick_turn s from l)
  step = brick-turned z n b.list at from s l c.few c.built c.fits.here c.fits.live c.fits.letter good.letters

  pub sender-unknown : has_node s.known from ≡ false
  sender-unknown = unknown-sender z n at from l s c.low.0 c.fits.letter c.fits.here

  speaking : (x : Txn) (st : TxnStatus) → l ≡ letter.Status x st → (y : BrickState) × Pair n b.list x at from s y
  speaking x st e =
      let y = speaker c x st e in
      let told = subst (LetterOk (ground z n b.list) from at) e (letter-team c) in (
        y.0,
        record {
          resolver = c.fits.here;
          lives = c.fits.live;
          member = y.1;
          apart = told.apart;
          in_list = ap (λ k. has k from) told.team.members.listed ∙ told.team.members.member;
          unknown = sender-unknown;
        },
      )

  pub going : (t : Txn) → Team (ground z n b.list) t (b.list t) at at → (Settling l → Agreed (b.decided t) (own_at (live_brick_turn s from l).state t))
      → Going n (moved z n (brick_takes at from l s)) b.list t at s (live_brick_turn s from l) (b.decided t)
  going t team settled =
      let mine = (λ (m : ℕ) (y : BrickState) (e : n.node m ≡ a_brick y) (i : y.stopped ≡ false) (k : has (b.list t) m ≡ true).
      agree c t m y e i k team.frozen) in
      resolver-letter {g = ground z n b.list} l (record {
        step = step;
        team = team;
        ok = brick-ok c;
        readies = readies c;
        alone = λ known. alone c t known team.frozen;
        seats = seats n b.list b.decided t at s c.fits.here c.fits.live c.resolve.resolve mine;
        there = seats-there n b.list b.decided t at s c.fits.here c.fits.live c.resolve.resolve mine;
        own = mine at s c.fits.here c.fits.live team.resolver;
        seen = c.resolve.resolve.seen t at s c.fits.here c.fits.live;
        once = (c.parts.note at s c.fits.here).once;
        letter_ok = letter-team c;
        notice = notice c;
        untrimmed = trims c t team.frozen;
        blind = blind-here (ground z n b.list) s.known t at at at from l sender-unknown (sender c) (letter-team c) team
            (ap is_stopped c.fits.here ∙ c.fits.live);
        settled = settled;
        speaker = speaking;
      })

  pub may-go : (t : Txn) → MayDecide l → Team (ground z n b.list) t (b.list t) at at
      → Going n (moved z n (brick_takes at from l s)) b.list t at s (live_brick_turn s from l) (b.decided t)
  may-go t i team = going t team (λ q. absurd (no-settling l i q))
