use Rattle.std.proofs.Common.{◌≡◌, ℕ, ◌≤◌, Bool, true, Some, sym, ap}
use Rattle.dds_base.specs.Number.{Txn}
use Rattle.dds_base.specs.declared.op.Order.{Order}
use Rattle.dds_cluster.specs.World.{emptied}
use Rattle.dds_core.proofs.LetterTells.{Any}
use Rattle.dds_core.proofs.OrderTells.{InputMet, order-rests}
use Rattle.dds_core.proofs.Rests.{Rests, Whole}
use Rattle.dds_core.specs.Brick.{brick_input, live_brick_turn}
use Rattle.dds_law_notice.proofs.Keeps.{AreLinked}
use Rattle.dds_law_notice.proofs.Views.{none-known}
use Rattle.dds_net.proofs.Runs.{Books, Claim, IsBuilt}
use Rattle.dds_net.proofs.Rungs.{IsKeptOver}
use Rattle.dds_net.specs.Event.{Event, nothing, unheard, unasked, brick_takes, brick_told, brick_stops, library_takes, library_asked, library_stops, Fits}
use Rattle.dds_net.specs.Event.{History, asked_turn, goes, moved, takes, does, stops}
use Rattle.dds_net.specs.Net.{Net, a_brick, a_library, Sizes, changed}
use Rattle.dds_states.specs.declared.brick_state.BrickState.{BrickState}
use Rattle.dds_talk.proofs.BrickDone.{BrickDone, brick-keeps, brick-once}
use Rattle.dds_talk.proofs.BrickEvents.{rest-done}
use Rattle.dds_talk.proofs.BrickTakes.{BrickOwes, brick-done, orders-none}
use Rattle.dds_talk.proofs.Changes.{does-rest, does-turned, stops-ended}
use Rattle.dds_talk.proofs.Deaf.{deaf-keeps}
use Rattle.dds_talk.proofs.Folds.{AreGroups}
use Rattle.dds_talk.proofs.Grounds.{Ground, library-unknown}
use Rattle.dds_talk.proofs.LibraryTakes.{LibraryOwes, asked-keeps, takes-keep}
use Rattle.dds_talk.proofs.Stops.{brick-stop-keeps, library-stop-keeps}
use Rattle.dds_talk.specs.Books as talk
use Rattle.dds_talk.specs.Parts.{Commit}
use Rattle.dds_talk.specs.Seen.{asks}

-- Each event keeps the parts of two-phase commit, where the other rungs give what it owes.

pub record Up (P : Type 0) : Type 1 where
  pub is : P

abbrev pub Owes : Sizes → Net → Event → talk.Books → Type 1
Owes z n (brick_takes at from l s) b =
    Up (BrickOwes n (moved z n (brick_takes at from l s)) at from l s (live_brick_turn s from l).state b)
Owes z n (library_takes at from l s) b = LibraryOwes z n at from l s
Owes z n (library_asked at caller call o s) b = Up (AreGroups z (asked_turn s caller call o).state)
Owes z n other b = Up (Unit {0})

-- an order at a brick, live or not
told-done : (z : Sizes) (n : Net) (at : ℕ) (o : Order) (s : BrickState) (b : talk.Books) → n.node at ≡ a_brick s → Commit z n b
    → BrickDone z n (changed n (does z n at (a_brick (brick_input s o).state) (brick_input s o).out.letters)) at s (brick_input s o).state
    (brick_input s o).out.letters b
told-done z n at o s b here parts =
    let r = brick_input s o in
    let v = changed n (does z n at (a_brick r.state) r.out.letters) in
    let rests : Rests Any (InputMet s o) s r = order-rests {L = Any} s o in
    rest-done z n v at s r b (record {
      step = does-turned z n at (a_brick s) (a_brick r.state) r.out.letters here;
      stopped = ap (λ (x : Whole). x.who.stopped) rests.same;
      knows = ap (λ (x : Whole). x.who.known) rests.same;
      pending = ap (λ (x : Whole). x.pending) rests.same;
      outcomes = ap (λ (x : Whole). x.outcomes) rests.same;
      quiet = λ t. orders-none Any r.out.letters t rests.letters;
      into = λ t ne. ap (asks t) (sym (does-rest z n at (a_brick r.state) r.out.letters t.library ne));
      parts = parts;
    })

pub commit-keeps : (z : Sizes) (h : History) (n : Net) (e : Event) (b : talk.Books) → Ground z n → AreLinked z (moved z n e) → Fits z h.callers n e
    → Owes z n e b → Commit z n b → Commit z (moved z n e) (talk.adds h n e b)
commit-keeps z h n nothing b g after f owes parts = parts
commit-keeps z h n (unasked at caller call o) b g after f owes parts = parts
commit-keeps z h n (unheard at from l) b g after f owes parts = deaf-keeps z n at from l b f.deaf f.letter parts
commit-keeps z h n (brick_takes at from l s) b g after f owes parts =
    let r = live_brick_turn s from l in
    brick-keeps z n (changed n (takes z n at from (a_brick r.state) r.out.letters)) at s r.state r.out.letters b
    (brick-done z n at from s b l (record { before = g; after = after; fits = f; owes = owes.is; parts = parts })) parts
commit-keeps z h n (brick_told at o s) b g after f owes parts =
    let r = brick_input s o in
    brick-keeps z n (changed n (does z n at (a_brick r.state) r.out.letters)) at s r.state r.out.letters b (told-done z n at o s b f.here parts) parts
commit-keeps z h n (brick_stops at s kept) b g after f owes parts =
    brick-stop-keeps z n (changed n (stops z n at (a_brick (emptied s.number)) kept)) at s kept b
    (record {
      step = stops-ended z n at (a_brick s) (a_brick (emptied s.number)) kept f.here f.left.front;
      live = f.live;
      none = none-known;
      nobody = λ k l x m library member lives. library-unknown z n k m l x g library member lives;
    }) parts
commit-keeps z h n (library_takes at from l s) b g after f owes parts =
    takes-keep z n at from s b l (record { before = g; fits = f; owes = owes; parts = parts })
commit-keeps z h n (library_asked at caller call o s) b g after f owes parts =
    asked-keeps z n at caller call o s b g f.here f.live owes.is parts
commit-keeps z h n (library_stops at s kept) b g after f owes parts =
    library-stop-keeps z n (changed n (stops z n at (a_library (record s { stopped = true })) kept)) at s kept b
    (record {
      step = stops-ended z n at (a_library s) (a_library (record s { stopped = true })) kept f.here f.left.front;
      live = f.live;
      nobody = λ m x is. library-unknown z n at m s x g f.here is f.live;
    }) parts

-- a noted outcome never changes
pub noted-once : (z : Sizes) (h : History) (n : Net) (e : Event) (b : talk.Books) → Ground z n → AreLinked z (moved z n e) → Fits z h.callers n e
    → Owes z n e b → Commit z n b → (k : ℕ) (t : Txn) (c : Bool) → b.noted k t ≡ Some c → (talk.adds h n e b).noted k t ≡ Some c
noted-once z h n (brick_takes at from l s) b g after f owes parts k t c is =
    let r = live_brick_turn s from l in
    brick-once z n (changed n (takes z n at from (a_brick r.state) r.out.letters)) at s r.state r.out.letters b
    (brick-done z n at from s b l (record { before = g; after = after; fits = f; owes = owes.is; parts = parts })) k t c is
noted-once z h n (brick_told at o s) b g after f owes parts k t c is =
    let r = brick_input s o in
    brick-once z n (changed n (does z n at (a_brick r.state) r.out.letters)) at s r.state r.out.letters b (told-done z n at o s b f.here parts) k t c is
noted-once z h n other b g after f owes parts k t c is = is

-- so they are a claim over claims that give the links and what each event owes
pub record Gives (z : Sizes) (A : Type 0) (adds_below : Books A) (below : Claim A) : Type 1 where
  pub few : z.bricks ≤ 64
  pub some : z.libraries ≤ 16
  pub links : (h : History) (n : Net) (a : A) → below h n a → AreLinked z n
  pub owes : (h : History) (n : Net) (e : Event) (a : A) (b : talk.Books) → IsBuilt z n → Fits z h.callers n e → below h n a
      → below (goes h e) (moved z n e) (adds_below h n e a) → Commit z n b → Owes z n e b

pub commit-kept-over : (z : Sizes) (A : Type 0) (adds_below : Books A) (below : Claim A) → Gives z A adds_below below
    → IsKeptOver z A adds_below below talk.Books (λ h n e a b. talk.adds h n e b) (λ h n a b. Commit z n b)
commit-kept-over z A adds_below below g h n e a b built fits low later parts =
    commit-keeps z h n e b (record { few = g.few; some = g.some; linked = g.links h n a low; built = built })
    (g.links (goes h e) (moved z n e) (adds_below h n e a) later) fits (g.owes h n e a b built fits low later parts) parts
