use Rattle.std.proofs.Common.{ℕ, ◌<◌, ◌≤◌, refl, subst}
use Rattle.dds_books.specs.Books.{Book}
use Rattle.dds_books.specs.Calls.{SentOk}
use Rattle.dds_books.specs.Placed.{ArePlaced, LetterOk, LibraryOk, Made, NodeOk}
use Rattle.dds_core.specs.Brick.{live_brick_turn}
use Rattle.dds_letters.specs.declared.letter.Letter.{Letter}
use Rattle.dds_letters.specs.declared.letter.Letter.TheVariants as letter
use Rattle.dds_net.proofs.Letters.{first-all}
use Rattle.dds_net.proofs.Places.{node-below}
use Rattle.dds_net.specs.Event.{Event, brick_takes, library_takes, library_asked, Fits}
use Rattle.dds_net.specs.Event.{History, asked_turn, goes, moved}
use Rattle.dds_net.specs.Net.{Net, a_library, Sizes}
use Rattle.dds_states.specs.declared.library_state.LibraryState.{LibraryState}
use Rattle.dds_talk.proofs.BrickTakes.{Resolves}
use Rattle.dds_talk.proofs.Changes.{put-here}
use Rattle.dds_talk.proofs.Keeps.{Owes}
use Rattle.dds_talk.proofs.LibraryTakes.{LibraryOwes}
use Rattle.dds_talk.proofs.TaleDone.{AllSettle}
use Rattle.dds_talk.specs.Books as talk
use Rattle.dds_commit.proofs.Guides.{letter-owes, library-groups, notice-owes}
use Rattle.dds_commit.proofs.Low.{Low}
use Rattle.dds_commit.proofs.Senders.{bounded, origin, speaker}

-- What the links and the books give two-phase commit at each event; what a brick settles is given.

library-letter : (z : Sizes) (n : Net) (at from : ℕ) (l : Letter) (s : LibraryState) → z.bricks ≤ 64 → from < 80 → ArePlaced z n → LibraryOk z at s
    → LetterOk (Made n) z from at l → LibraryOwes z n at from l s
library-letter z n at from letter.Notice s few low g ok k = notice-owes z n at from s few low ok
library-letter z n at from other s few low g ok k =
    letter-owes (Made n) z n at from other s few (λ e. cc) refl k ok (λ txn y e. speaker z n at from other txn y few g k e)

-- what a brick settles at a letter that resolves attempts
abbrev pub Settled : Sizes → Net → Event → talk.Books → Type 0
Settled z n (brick_takes at from l s) b = Resolves l → AllSettle (moved z n (brick_takes at from l s)) at s (live_brick_turn s from l).state b
Settled z n other b = Unit {0}

module _ (z : Sizes) (few : z.bricks ≤ 64) (some : z.libraries ≤ 16) where
  pub owes : (h : History) (n : Net) (e : Event) (a c : Book) (b : talk.Books) → Fits z h.callers n e → Low z h n a → Low z (goes h e) (moved z n e) c
      → Settled z n e b → Owes z n e b
  owes h n (brick_takes at from l s) a c b f low later settled =
      let k = first-all (LetterOk (Made n) z from at) z n at from l f.letter (low.2.letters from at) in
      let sent = first-all (SentOk from (n.node from)) z n at from l f.letter (low.1.letters from at) in
      record {
        is = record {
          origin = λ txn x e. origin z n at from l txn x k e;
          bound = λ t library here up. bounded z n at from l t library k sent here up;
          settles = settled;
        };
      }
  owes h n (library_takes at from l s) a c b f low later settled =
      let k = first-all (LetterOk (Made n) z from at) z n at from l f.letter (low.2.letters from at) in
      library-letter z n at from l s few (node-below z from few some f.letter.sender) low.2 (subst (NodeOk (Made n) z at) f.here (low.2.nodes at)) k
  owes h n (library_asked at caller call o s) a c b f low later settled =
      let e = library_asked at caller call o s in
      let u = asked_turn s caller call o in
      record {
        is = library-groups z at u.state few
            (subst (NodeOk (Made (moved z n e)) z at) (put-here at (a_library u.state) n.node) (later.2.nodes at));
      }
  owes h n other a c b f low later settled = record { is = tt }
