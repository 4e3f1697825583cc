use Rattle.std.proofs.Common.{◌≡◌, ℕ, ◌≤◌, ◌++◌, List, ◌∷◌, subst}
use Rattle.std.specs.List.{AllByRecursion}
use Rattle.dds_attempts.proofs.Runs.{Stands}
use Rattle.dds_base.specs.declared.number.NodeNo.{NodeNo}
use Rattle.dds_books.specs.Books.{Book}
use Rattle.dds_books.specs.Calls.{LibraryIs}
use Rattle.dds_books.specs.Placed.{LetterOk, Made as IsMade}
use Rattle.dds_cluster.specs.Trace.{all_kept}
use Rattle.dds_cluster.specs.Turn.{points_made}
use Rattle.dds_cluster.specs.declared.trace.Made.{Made}
use Rattle.dds_core.proofs.LetterTells.{Says, letter-tells}
use Rattle.dds_calls.proofs.Asked.{all-each}
use Rattle.dds_core.proofs.Lists.{all-append, all-both, all-is, all-map}
use Rattle.dds_core.specs.Brick.{live_brick_turn}
use Rattle.dds_letters.specs.declared.letter.Letter.{Letter}
use Rattle.dds_net.proofs.Carried.{AllCarried, nodes-moved}
use Rattle.dds_net.proofs.Letters.{first-all}
use Rattle.dds_net.proofs.Pairwise.{Pairwise, pairs-append}
use Rattle.dds_net.specs.Event.{Fits, History, goes, moved, brick_takes}
use Rattle.dds_net.specs.Net.{Net, a_brick, Sizes, gains}
use Rattle.dds_outcomes.proofs.Entries.{NodeHas}
use Rattle.dds_outcomes.proofs.PendingRows.{AllPending}
use Rattle.dds_outcomes.proofs.Points.{kept-all}
use Rattle.dds_states.specs.Turn.{BrickTurn}
use Rattle.dds_states.specs.declared.brick_state.BrickState.{BrickState}
use Rattle.dds_talk.specs.Books as talk
use Rattle.dds_answered.proofs.Backed.{IsUpdate}
use Rattle.dds_answered.proofs.Channels.{rest-channels, takes-channels}
use Rattle.dds_answered.proofs.Claim.{AreBacked}
use Rattle.dds_answered.proofs.Reading.{OtherRead, ReadBy, kept-pairs, points-once, points-read}
use Rattle.dds_answered.proofs.Sent.{OtherGet, no-get}
use Rattle.dds_answered.proofs.Sought.{Sought}
use Rattle.dds_answered.proofs.Updates.{pending-updates}
use Rattle.dds_answered.proofs.Unread.{AreRead, GetUnread, IsSought, NoGet, NotReadOf, ToCome, all-none, gains-none}
use Rattle.dds_answered.proofs.Unread.{same-place, takes-apart, unread-with}

-- A brick takes a letter: where it is a Get, its attempt hasn't read, and no other Get of it is on its way.

module _ (z : Sizes) (few : z.bricks ≤ 64) (h : History) (n : Net) (b : Book × talk.Books) (g : Sought) (k : Stands z h n b) (base : AreBacked h n b.0)
    (r : AreRead z h n g) (at from : ℕ) (l : Letter) (s : BrickState) (f : Fits z h.callers n (brick_takes at from l s)) where
  abbrev turn : BrickTurn
  turn = live_brick_turn s from l

  abbrev points : List Made
  points = points_made h.steps l turn.out.points

  updates : AllPending IsUpdate s
  updates = pending-updates b.0 s base.updates (subst (NodeHas b.0 at) f.here (k.last.pending at))

  reads : AllByRecursion (ReadBy l) points
  reads = points-read h.steps s from l updates

  sent : LetterOk (IsMade n) z from at l
  sent = first-all (LetterOk (IsMade n) z from at) z n at from l f.letter (k.parts.0.2.letters from at)

  first : GetUnread z g h.made from at l
  first = first-all (GetUnread z g h.made from at) z n at from l f.letter (r.letters from at)

  none : AllByRecursion (λ (p : NodeNo × Letter). NoGet p.1) turn.out.letters
  none = all-none (Says s from l) turn.out.letters (letter-tells s from l).letters

  abbrev Unread : ℕ → ℕ → List Letter → Type 0
  Unread a d c = AllByRecursion (GetUnread z g (h.made ++ all_kept h.made points) a d) c

  others-unread : Unread from at f.letter.others
  others-unread =
      let letters : AllByRecursion (GetUnread z g h.made from at) (l ∷ f.letter.others) =
      subst (AllByRecursion (GetUnread z g h.made from at)) f.letter.first (r.letters from at) in
      let apart : Pairwise OtherGet (l ∷ f.letter.others) = subst (Pairwise OtherGet) f.letter.first (r.apart from at) in
      all-map (λ m. GetUnread z g h.made from at m × OtherGet l m) _ f.letter.others
      (λ m q t e. unread-with z g h.made points l at t (λ p. q.1 t p e) reads (q.0 t e))
      (all-both (GetUnread z g h.made from at) (OtherGet l) f.letter.others letters.1 apart.0)

  channel-unread : (a d : ℕ) → ((a ≡ from) × (d ≡ at) → ⊥) → Unread a d (n.channel a d)
  channel-unread a d ne =
      all-map (λ m. LetterOk (IsMade n) z a d m × GetUnread z g h.made a d m) _ (n.channel a d)
      (λ m q t e.
      unread-with z g h.made points l d t
      (λ p. ne (same-place z g h.made (IsMade n) from at a d l m t few sent q.0 p e (first t p) (q.1 t e))) reads (q.1 t e))
      (all-both (LetterOk (IsMade n) z a d) (GetUnread z g h.made a d) (n.channel a d) (k.parts.0.2.letters a d) (r.letters a d))

  letters-then : AllCarried (GetUnread z g (h.made ++ all_kept h.made points)) (moved z n (brick_takes at from l s))
  letters-then =
      takes-channels Unread Unread z n at from (a_brick turn.state) turn.out.letters
      (rest-channels Unread z n at from l f.letter others-unread channel-unread) (λ a d c q. q)
      (λ d c q. all-append _ c (gains z turn.out.letters d) q
      (all-map NoGet _ (gains z turn.out.letters d) (λ m i t e. absurd (no-get m t i e)) (gains-none z d turn.out.letters none)))

  new-sought : AllByRecursion (IsSought g) points
  new-sought = all-map (ReadBy l) (IsSought g) points (λ m q get. let u = first m.txn (q get) in (u.to, u.there)) reads

  between : AllByRecursion (λ x. AllByRecursion (OtherRead x) (all_kept h.made points)) h.made
  between =
      all-each _ h.made (λ i x there.
      kept-all (OtherRead x) h.made points
      (all-map (ReadBy l) (OtherRead x) points
      (λ m q gx gm same. all-is (NotReadOf m.txn) h.made i x (first m.txn (q gm)).unread there gx same) reads))

  pub brick-reads : AreRead z (goes h (brick_takes at from l s)) (moved z n (brick_takes at from l s)) g
  brick-reads =
      record {
        to_come = nodes-moved (λ i x. LibraryIs (ToCome g i) x) z n (brick_takes at from l s) r.to_come tt;
        letters = letters-then;
        apart = takes-apart z n at from (a_brick turn.state) turn.out.letters none r.apart;
        sought = all-append (IsSought g) h.made (all_kept h.made points) r.sought (kept-all (IsSought g) h.made points new-sought);
        once = pairs-append OtherRead h.made (all_kept h.made points) r.once
            (kept-pairs OtherRead h.made points (points-once h.steps s from l updates)) between;
      }
