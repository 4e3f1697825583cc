use Rattle.std.proofs.Common.{◌≡◌, ℕ, ◌≤◌, Bool, Some}
use Rattle.std.specs.FinMap.{get}
use Rattle.dds_base.specs.Number.{Txn}
use Rattle.dds_books.specs.Books.{Book, booked}
use Rattle.dds_net.proofs.Runs.{Claim, IsBuilt, IsKept}
use Rattle.dds_net.specs.Event.{Event, brick_takes, brick_told, brick_stops, Fits}
use Rattle.dds_net.specs.Event.{History, goes, moved}
use Rattle.dds_net.specs.Net.{Net, Sizes}
use Rattle.dds_resolve.proofs.Whole.{Given, Parts, parts-kept}
use Rattle.dds_talk.proofs.BrickEvents.{old-decided}
use Rattle.dds_talk.proofs.Grounds.{Ground}
use Rattle.dds_talk.proofs.Keeps.{commit-keeps, noted-once}
use Rattle.dds_talk.specs.Books as talk
use Rattle.dds_talk.specs.Parts.{Commit}
use Rattle.dds_commit.proofs.Agreeing.{agreed}
use Rattle.dds_commit.proofs.Given.{beside, yes-some}
use Rattle.dds_commit.proofs.Low.{Low, low-kept}
use Rattle.dds_commit.proofs.Owed.{Settled, owes}
use Rattle.dds_commit.proofs.Says.{says-of}
use Rattle.dds_commit.proofs.Settling.{settles}
use Rattle.dds_commit.proofs.Standing.{Case, opens}

-- All parts are kept together: what a brick settles comes from the parts before; then two-phase commit holds after the event; then the parts
-- on resolving do, which take two-phase commit from before and from after.

abbrev pub All : Sizes → Claim (Book × talk.Books)
All z h n b = Low z h n b.0 × Commit z n b.1 × Parts z n b.1

module _ (z : Sizes) (few : z.bricks ≤ 64) (some : z.libraries ≤ 16) where
  settled : (h : History) (n : Net) (e : Event) (a c : Book) (b : talk.Books) → IsBuilt z n → Fits z h.callers n e → Low z h n a
      → Low z (goes h e) (moved z n e) c → Commit z n b → Parts z n b → Settled z n e b
  settled h n (brick_takes at from l s) a c b built f low later parts resolve =
      let k : Case z h n a b at from l s = record { few = few; some = some; built = built; fits = f; low = low; parts = parts; resolve = resolve } in
      λ i. settles l k later.0 i
  settled h n other a c b built f low later parts resolve = tt

  given : (h : History) (n : Net) (e : Event) (a : Book) (b : talk.Books) → IsBuilt z n → Fits z h.callers n e → Low z h n a → Commit z n b → Parts z n b
      → Commit z (moved z n e) (talk.adds h n e b) → Given z n e b
  given h n (brick_takes at from l s) a b built f low parts resolve after =
      let k : Case z h n a b at from l s = record { few = few; some = some; built = built; fits = f; low = low; parts = parts; resolve = resolve } in
      (opens k, beside l k after)
  given h n (brick_told at o s) a b built f low parts resolve after =
      λ t e. old-decided z n at s b t parts f.here (yes-some (get s.locks.outcomes t) e)
  given h n (brick_stops at s left) a b built f low parts resolve after =
      λ t listed frozen.
      agreed z n b t at s (record { few = few; some = some; linked = low.0; built = built }) parts f.here f.live listed frozen
  given h n other a b built f low parts resolve after = tt

  pub all-kept : IsKept z (Book × talk.Books) (λ h n e b. (booked e b.0, talk.adds h n e b.1)) (All z)
  all-kept h n e b built f k =
      let later = low-kept z few some h n e b.0 built f k.0 in
      let base : Ground z n = record { few = few; some = some; linked = k.0.0; built = built } in
      let after = commit-keeps z h n e b.1 base later.0 f
      (owes z few some h n e b.0 (booked e b.0) b.1 f k.0 later (settled h n e b.0 (booked e b.0) b.1 built f k.0 later k.1 k.2)) k.1 in (
        later,
        after,
        parts-kept z few some h n e b.1 built f k.0.0 (says-of z h n e b.0 (talk.adds h n e b.1) few some f k.0 after)
            (given h n e b.0 b.1 built f k.0 k.1 k.2 after) k.2,
      )

  -- and a noted outcome never changes
  pub noted-stays : (h : History) (n : Net) (e : Event) (a : Book) (b : talk.Books) → IsBuilt z n → Fits z h.callers n e → All z h n (a, b) → (k : ℕ) (t : Txn)
      (c : Bool) → b.noted k t ≡ Some c → (talk.adds h n e b).noted k t ≡ Some c
  noted-stays h n e a b built f all k t c is =
      let later = low-kept z few some h n e a built f all.0 in
      noted-once z h n e b (record { few = few; some = some; linked = all.0.0; built = built }) later.0 f
      (owes z few some h n e a (booked e a) b f all.0 later (settled h n e a (booked e a) b built f all.0 later all.1 all.2)) all.1 k t c is
