use Rattle.std.proofs.Common.{◌≤◌, ◌++◌, true, [], subst}
use Rattle.dds_attempts.proofs.Runs.{Stands}
use Rattle.dds_base.specs.declared.number.NodeNo.{NodeNo}
use Rattle.dds_books.specs.Books.{Book, booked}
use Rattle.dds_books.specs.Calls.{LibraryIs}
use Rattle.dds_books.specs.Placed.{LetterOk, Made as IsMade}
use Rattle.dds_core.proofs.Lists.{all-map}
use Rattle.dds_core.proofs.OrderTells.{order-tells}
use Rattle.dds_core.specs.Brick.{brick_input}
use Rattle.dds_core.specs.LibraryTurn.{live_library_turn}
use Rattle.dds_letters.specs.declared.letter.Letter.{Letter}
use Rattle.dds_net.proofs.Carried.{Lands, letters-moved, nodes-moved}
use Rattle.dds_cluster.specs.World.{emptied}
use Rattle.dds_net.proofs.Letters.{rest-all}
use Rattle.dds_net.proofs.Rungs.{Both, IsKeptOver, both_books}
use Rattle.dds_net.specs.Event.{History, asked_turn, nothing, unheard, unasked, brick_takes, brick_told}
use Rattle.dds_net.specs.Event.{brick_stops, library_asked, library_stops, library_takes}
use Rattle.dds_net.specs.Net.{Net, a_brick, a_library, Sizes, gains}
use Rattle.dds_talk.specs.Books as talk
use Rattle.dds_answered.proofs.Channels.{does-channels, rest-pairs, stops-pairs, takes-channels}
use Rattle.dds_answered.proofs.Kept.{AreBackedOver}
use Rattle.dds_answered.proofs.Sent.{OtherGet, asked-sends, no-get, turn-sends}
use Rattle.dds_answered.proofs.Sought.{Sought, seeks, sought_by}
use Rattle.dds_answered.proofs.Unread.{AreRead, Apart, GetUnread, NoGet, ToCome, all-none, gains-none, more-none, quiet-letters, quiet-once, quiet-sought}
use Rattle.dds_answered.proofs.Unread.{takes-apart}
use Rattle.dds_answered.proofs.BrickReads.{brick-reads}
use Rattle.dds_answered.proofs.LibraryReads.{OnChannel, come-then, old-unread, sent-more, sought-then, unread-news}

-- Each event keeps that each attempt reads once at most.

abbrev pub AreReadOver : (z : Sizes) → (h : History) → Net → (Book × talk.Books) × Unit {0} → Sought → Type 0
AreReadOver z h n b g = AreRead z h n g

pub reads-kept : (z : Sizes) → z.bricks ≤ 64
    → IsKeptOver z ((Book × talk.Books) × Unit {0}) (both_books (λ h n e b. (booked e b.0, talk.adds h n e b.1)) (λ h n e b u. tt))
    (Both (Stands z) (AreBackedOver z)) Sought (λ h n e b g. seeks e g) (AreReadOver z)
reads-kept z few h n (brick_takes at from l s) b g built f k after r = brick-reads z few h n b.0 g k.0 k.1 r at from l s f
reads-kept z few h n (library_takes at from l s) b g built f k after r =
    let t = live_library_turn s from l in
    let sends = turn-sends s from l in
    let p = k.0.parts.0.2 in
    record {
      to_come = come-then z h n g p r at s t.state t.out f.here sends;
      letters = letters-moved (GetUnread z (sought_by t.out.letters g) (h.made ++ [])) z h.callers n (library_takes at from l s) f
          (old-unread z h n g p r at s t.state t.out f.here sends) (unread-news z h n g p r at s t.state t.out f.here sends);
      apart = takes-channels (OnChannel z h n g p r at s t.state t.out f.here sends) Apart z n at from (a_library t.state) t.out.letters
          (λ a d. (
            rest-pairs OtherGet n at from a d (r.apart a d),
            rest-all (LetterOk (IsMade n) z a d) n at from a d (p.letters a d),
          )) (λ a d c q. q.0) (sent-more z h n g p r at s t.state t.out f.here sends);
      sought = sought-then z h n g p r at s t.state t.out f.here sends;
      once = quiet-once h.made r.once;
    }
reads-kept z few h n (library_asked at caller call o s) b g built f k after r =
    let t = asked_turn s caller call o in
    let sends = asked-sends s caller call o in
    let p = k.0.parts.0.2 in
    record {
      to_come = come-then z h n g p r at s t.state t.out f.here sends;
      letters = letters-moved (GetUnread z (sought_by t.out.letters g) (h.made ++ [])) z h.callers n (library_asked at caller call o s) f
          (old-unread z h n g p r at s t.state t.out f.here sends) (unread-news z h n g p r at s t.state t.out f.here sends);
      apart = does-channels (OnChannel z h n g p r at s t.state t.out f.here sends) Apart z n at (a_library t.state) t.out.letters
          (λ a d. (r.apart a d, p.letters a d)) (λ a d c q. q.0) (sent-more z h n g p r at s t.state t.out f.here sends);
      sought = sought-then z h n g p r at s t.state t.out f.here sends;
      once = quiet-once h.made r.once;
    }
reads-kept z few h n (brick_told at o s) b g built f k after r =
    let t = brick_input s o in
    let none = all-none (λ to l. ⊥) t.out.letters (order-tells {L = λ to l. ⊥} s o).letters in
    record {
      to_come = nodes-moved (λ i x. LibraryIs (ToCome g i) x) z n (brick_told at o s) r.to_come tt;
      letters = letters-moved (GetUnread z g (h.made ++ [])) z h.callers n (brick_told at o s) f (quiet-letters z g h.made n r.letters)
          (λ d inside. all-map (λ (p : NodeNo × Letter). NoGet p.1) (Lands (GetUnread z g (h.made ++ [])) z at d) t.out.letters
          (λ p q comes u e. absurd (no-get p.1 u q e)) none);
      apart = does-channels Apart Apart z n at (a_brick t.state) t.out.letters r.apart (λ a d c q. q)
          (λ d c q. more-none c (gains z t.out.letters d) (gains-none z d t.out.letters none) q);
      sought = quiet-sought g h.made r.sought;
      once = quiet-once h.made r.once;
    }
reads-kept z few h n (brick_stops at s left) b g built f k after r =
    record {
      to_come = nodes-moved (λ i x. LibraryIs (ToCome g i) x) z n (brick_stops at s left) r.to_come tt;
      letters = letters-moved (GetUnread z g (h.made ++ [])) z h.callers n (brick_stops at s left) f (quiet-letters z g h.made n r.letters) (λ d t e. cc);
      apart = stops-pairs OtherGet z n at (a_brick (emptied s.number)) left f.left (λ l t e y. cc) r.apart;
      sought = quiet-sought g h.made r.sought;
      once = quiet-once h.made r.once;
    }
reads-kept z few h n (library_stops at s left) b g built f k after r =
    record {
      to_come = nodes-moved (λ i x. LibraryIs (ToCome g i) x) z n (library_stops at s left) r.to_come
          (subst (LibraryIs (ToCome g at)) f.here (r.to_come at));
      letters = letters-moved (GetUnread z g (h.made ++ [])) z h.callers n (library_stops at s left) f (quiet-letters z g h.made n r.letters) (λ d t e. cc);
      apart = stops-pairs OtherGet z n at (a_library (record s { stopped = true })) left f.left (λ l t e y. cc) r.apart;
      sought = quiet-sought g h.made r.sought;
      once = quiet-once h.made r.once;
    }
reads-kept z few h n (unheard at from l) b g built f k after r =
    record {
      to_come = nodes-moved (λ i x. LibraryIs (ToCome g i) x) z n (unheard at from l) r.to_come tt;
      letters = letters-moved (GetUnread z g (h.made ++ [])) z h.callers n (unheard at from l) f (quiet-letters z g h.made n r.letters) tt;
      apart = takes-apart z n at from (n.node at) [] tt r.apart;
      sought = quiet-sought g h.made r.sought;
      once = quiet-once h.made r.once;
    }
reads-kept z few h n (unasked at caller call o) b g built f k after r =
    record {
      to_come = r.to_come;
      letters = quiet-letters z g h.made n r.letters;
      apart = r.apart;
      sought = quiet-sought g h.made r.sought;
      once = quiet-once h.made r.once;
    }
reads-kept z few h n nothing b g built f k after r =
    record {
      to_come = r.to_come;
      letters = quiet-letters z g h.made n r.letters;
      apart = r.apart;
      sought = quiet-sought g h.made r.sought;
      once = quiet-once h.made r.once;
    }
