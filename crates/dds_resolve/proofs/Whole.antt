use Rattle.std.proofs.Common.{◌≡◌, ℕ, ◌≤◌, ◌==◌, ◌||◌, inl, inr, Bool, true, false, refl, ap, ◌∙◌}
use Rattle.std.proofs.lemmas.Bool.{eqb-true}
use Rattle.std.specs.FinMap.{get}
use Rattle.std.specs.Prelude.{if◌then◌else◌}
use Rattle.dds_base.specs.BrickList.{has}
use Rattle.dds_base.specs.Number.{Txn}
use Rattle.dds_core.specs.LibraryTurn.{live_library_turn}
use Rattle.dds_law_notice.proofs.Keeps.{AreLinked}
use Rattle.dds_net.proofs.Runs.{Claim, IsBuilt}
use Rattle.dds_net.proofs.Rungs.{IsKeptOver}
use Rattle.dds_net.specs.Event.{Event, Fits, History, asked_turn, goes, moved, nothing, unheard, unasked, brick_takes, brick_told}
use Rattle.dds_net.specs.Event.{brick_stops, library_takes, library_asked, library_stops}
use Rattle.dds_net.specs.Event.{does, stops, takes}
use Rattle.dds_net.specs.Net.{Change, Net, a_library, Sizes, changed}
use Rattle.dds_states.specs.declared.library_state.LibraryState.{LibraryState}
use Rattle.dds_talk.specs.Books.{Books, adds, is_yes, or_else, with_library}
use Rattle.dds_talk.specs.Resolve.{Agreed}
use Rattle.dds_talk.specs.Seen.{call_of, is_committing, members_in}
use Rattle.dds_resolve.proofs.LibraryEvents.{Library, Unmoved, channel-other, library-resolve, node-at, node-other}
use Rattle.dds_resolve.proofs.StopEvents.{stops-resolve, unheard-resolve}
use Rattle.dds_resolve.proofs.OrderEvents.{told-resolve}
use Rattle.dds_resolve.proofs.Beside.{Beside}
use Rattle.dds_resolve.proofs.BrickEvents.{resolve-takes}
use Rattle.dds_resolve.proofs.OneResolver.{NoTeam}
use Rattle.dds_resolve.proofs.ReadyKeeps.{AreReady, ready-kept, was-ready}
use Rattle.dds_resolve.proofs.TeamKeeps.{teams-kept}
use Rattle.dds_resolve.proofs.TeamTurns.{not-both}
use Rattle.dds_resolve.specs.Resolved.{Resolve}
use Rattle.dds_resolve.specs.Resolving.{own_at}
use Rattle.dds_resolve.specs.Teams.{OpensOf, SaysOf, Teams, ground, is_stopped}

-- The parts on resolving are kept by each event, where the other parts of two-phase commit give what is used of them.

-- | part      | what it says                                                 |
-- | `teams`   | who asks, tells and resolves is the attempt's one resolver   |
-- | `ready`   | a brick resolves an attempt once, and only where it is ready |
-- | `resolve` | the resolver's conversations                                 |
pub record Parts (z : Sizes) (n : Net) (b : Books) : Type 0 where
  pub teams : Teams z n b.list
  pub ready : AreReady n
  pub resolve : Resolve n b.list b.decided

-- what is used at each event: of a brick's turn `Beside`; nothing that a brick noted as committed wasn't decided; a member that
-- stops fits what was decided; and what libraries send has the members of the books
abbrev pub Given : Sizes → Net → Event → Books → Type 0
Given z n (brick_takes at from l s) b = OpensOf (ground z n b.list) (brick_takes at from l s) × Beside z n b at from s l
Given z n (brick_told at o s) b = (t : Txn) → is_yes (get s.locks.outcomes t) ≡ true → b.decided t ≡ true
Given z n (brick_stops at s left) b = (t : Txn) → has (b.list t) at ≡ true → (ground z n b.list).frozen t ≡ true → Agreed (b.decided t) (own_at s t)
Given z n other b = Unit {0}

opens-of : (z : Sizes) (n : Net) (e : Event) (b : Books) → Given z n e b → OpensOf (ground z n b.list) e
opens-of z n (brick_takes at from l s) b g = g.0
opens-of z n other b g = tt

-- a library that lives has no attempt with a resolver, and the books of other libraries' attempts stay
unmoved-by : (z : Sizes) (n : Net) (b : Books) (at : ℕ) (s : LibraryState) (u : LibraryState) (t : Txn) → n.node at ≡ a_library s → s.stopped ≡ false
    → Unmoved (ground z n b.list) b.list (with_library at u b).list b.decided (with_library at u b).decided t
unmoved-by z n b at s u t here live = pick (t.library == at) refl
  where
    none : (t.library == at) ≡ true → (f : ℕ) → NoTeam (ground z n b.list) t f
    none e f xs m team = not-both (is_stopped (n.node t.library)) team.library (ap (λ k. is_stopped (n.node k)) (eqb-true t.library at e) ∙ ap is_stopped here
        ∙ live)

    pick : (c : Bool) → (t.library == at) ≡ c → Unmoved (ground z n b.list) b.list (with_library at u b).list b.decided (with_library at u b).decided t
    pick true e = inr (none e)
    pick false e = inl (
      ap (λ c. if c then or_else (b.list t) (members_in (call_of u.calls t)) else b.list t) e,
      ap (λ c. if c then b.decided t || is_committing (call_of u.calls t) else b.decided t) e,
    )

library-of : (n : Net) (c : Change) (s u : LibraryState) → n.node c.at ≡ a_library s → c.node ≡ a_library u → Library n (changed n c) c.at
library-of n c s u here is = record {
  old = s;
  new = u;
  was = here;
  is = node-at n c ∙ is;
  nodes = λ i e. node-other n c i e;
  channels = λ a b e i. channel-other n c a b e i;
}

resolve-kept : (z : Sizes) → z.bricks ≤ 64 → z.libraries ≤ 16 → (h : History) (n : Net) (e : Event) (b : Books) → IsBuilt z n → Fits z h.callers n e →
    AreLinked z n → Given z n e b → Parts z n b
    → Resolve (moved z n e) (adds h n e b).list (adds h n e b).decided
resolve-kept z few some h n nothing b u f links g p = p.resolve
resolve-kept z few some h n (unasked at caller call o) b u f links g p = p.resolve
resolve-kept z few some h n (unheard at from l) b u f links g p = unheard-resolve z n at from b.list b.decided f.deaf p.resolve
resolve-kept z few some h n (brick_takes at from l s) b u f links g p =
    resolve-takes z few some n at from l s b u f links p.teams g.0 (was-ready n at s f.here p.ready) g.1 p.resolve
resolve-kept z few some h n (brick_told at o s) b u f links g p = told-resolve z n at s o b.list b.decided f.here g p.resolve
resolve-kept z few some h n (brick_stops at s left) b u f links g p =
    stops-resolve z n at s left b.list b.decided f.here f.live f.left.front p.teams g p.resolve
resolve-kept z few some h n (library_takes at from l s) b u f links g p =
    let r = live_library_turn s from l in
    library-resolve z b.list (with_library at r.state b).list b.decided (with_library at r.state b).decided
    (library-of n (takes z n at from (a_library r.state) r.out.letters) s r.state f.here refl) p.teams
    (λ t. unmoved-by z n b at s r.state t f.here f.live) p.resolve
resolve-kept z few some h n (library_asked at caller call o s) b u f links g p =
    let r = asked_turn s caller call o in
    library-resolve z b.list (with_library at r.state b).list b.decided (with_library at r.state b).decided
    (library-of n (does z n at (a_library r.state) r.out.letters) s r.state f.here refl) p.teams
    (λ t. unmoved-by z n b at s r.state t f.here f.live) p.resolve
resolve-kept z few some h n (library_stops at s left) b u f links g p =
    library-resolve z b.list b.list b.decided b.decided
    (library-of n (stops z n at (a_library (record s { stopped = true })) left) s (record s { stopped = true }) f.here refl) p.teams
    (λ t. inl (refl, refl)) p.resolve

pub parts-kept : (z : Sizes) → z.bricks ≤ 64 → z.libraries ≤ 16 → (h : History) (n : Net) (e : Event) (b : Books) → IsBuilt z n → Fits z h.callers n e →
    AreLinked z n
    → SaysOf (ground z (moved z n e) (adds h n e b).list) e → Given z n e b → Parts z n b → Parts z (moved z n e) (adds h n e b)
parts-kept z few some h n e b u f links says g p =
    record {
      teams = teams-kept z few some h n e b f links says (opens-of z n e b g) p.teams;
      ready = ready-kept z few some h n e tt u f p.ready;
      resolve = resolve-kept z few some h n e b u f links g p;
    }

-- as a rung over any other claim that has the links and gives the rest
pub record Gives (z : Sizes) (below : Claim Books) : Type 0 where
  pub links : (h : History) (n : Net) (b : Books) → below h n b → AreLinked z n
  pub says : (h : History) (n : Net) (e : Event) (b : Books) → Fits z h.callers n e → below h n b → below (goes h e) (moved z n e) (adds h n e b) →
      SaysOf (ground z (moved z n e) (adds h n e b).list) e
  pub given : (h : History) (n : Net) (e : Event) (b : Books) → Fits z h.callers n e → below h n b → below (goes h e) (moved z n e) (adds h n e b) →
      Parts z n b → Given z n e b

pub parts-over : (z : Sizes) (below : Claim Books) → z.bricks ≤ 64 → z.libraries ≤ 16 → Gives z below →
    IsKeptOver z Books adds below (Unit {0}) (λ h n e b u. tt) (λ h n b u. Parts z n b)
parts-over z below few some gives h n e b i u f k l p =
    parts-kept z few some h n e b u f (gives.links h n b k) (gives.says h n e b f k l) (gives.given h n e b f k l p) p
