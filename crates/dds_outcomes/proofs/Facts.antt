use Rattle.std.proofs.Common.{◌≡◌, ℕ, zero, suc, ◌⊎◌, inl, inr, Bool, true, false, cond, Option, Some, None, List, [], ◌∷◌, refl, sym, ap, ◌∙◌, subst}
use Rattle.std.specs.Prelude.{slice_get, take}
use Rattle.dds_base.specs.BrickList.{has}
use Rattle.dds_base.specs.Number.{Txn, same_txn}
use Rattle.dds_base.specs.declared.pending.Pending.{Pending}
use Rattle.dds_cluster.specs.Trace.{run_of}
use Rattle.dds_cluster.specs.declared.step.Step.{Step}
use Rattle.dds_core.proofs.Lists.{all-is}
use Rattle.dds_net.proofs.Journals.{net_of}
use Rattle.dds_net.proofs.Nodes.{brick-node, library-node}
use Rattle.dds_net.proofs.Runs.{net-built, sized-run}
use Rattle.dds_net.specs.Net.{Net, a_brick, a_library, Sizes, sizes_of}
use Rattle.dds_resolve.specs.Team.{Members}
use Rattle.dds_resolve.specs.Teams.{BrickIs, NodeOk, ground}
use Rattle.dds_script.specs.Opening.{OpeningOf, ranges_of}
use Rattle.dds_script.specs.Ranges.{IsRanges}
use Rattle.dds_states.specs.Turn.{first_some}
use Rattle.dds_states.specs.declared.brick_state.BrickState.{BrickState}
use Rattle.dds_states.specs.declared.library_state.LibraryState.{LibraryState}
use Rattle.dds_states.specs.declared.library_state.OpenCall.{OpenCall}
use Rattle.dds_talk.proofs.Grounds.{Ground, brick-unknown}
use Rattle.dds_talk.proofs.Parts.{is-same, same-self}
use Rattle.dds_talk.specs.Books.{Books}
use Rattle.dds_talk.specs.Parts.{Commit, IsFor, SureAt}
use Rattle.dds_talk.specs.Seen.{Apart, at, at_of, call_of, commits_now}
use Rattle.dds_world.specs.Outcomes.{DecidedByLibrary, HasMembers, Noted}
use Rattle.dds_outcomes.proofs.Places.{kept-before, kept-holds}
use Rattle.dds_outcomes.specs.Kept.{Kept}

-- What the public facts say of a place of the run, as the run's books say it.

pub ground-of : (o : OpeningOf) (journal : List Step) (b : Books) → IsRanges (ranges_of o) → Kept o journal b → Ground (sizes_of o) (net_of o journal)
ground-of o journal b ranges k =
    record {
      few = ranges.bricks;
      some = ranges.libraries;
      linked = (kept-holds o journal b k).links;
      built = net-built (sizes_of o) (run_of o journal).world (sized-run o journal);
    }

-- a list that has members stays in the books
pub none-empty : (list : List ℕ) (k : ℕ) → list ≡ [] → has list k ≡ true → ⊥
none-empty list k e h = let no : has [] k ≡ true = ap (λ (l : List ℕ). has l k) (sym e) ∙ h in cc

pub stays-list : (x y list : List ℕ) (k : ℕ) → (x ≡ []) ⊎ (y ≡ x) → x ≡ list → has list k ≡ true → y ≡ list
stays-list x y list k (inl e) f h = absurd (none-empty list k (sym f ∙ e) h)
stays-list x y list k (inr e) f h = e ∙ f

-- the members of what was pending somewhere
pub members-listed : (o : OpeningOf) (journal : List Step) (b : Books) (t : Txn) (list : List ℕ) → Kept o journal b → HasMembers o journal t list
    → b.list t ≡ list
members-listed o journal b t list k h =
    let early = kept-before o journal h.at b k in
    let front = take h.at journal in
    let holds = kept-holds o front early.books early.kept in
    let g = ground (sizes_of o) (net_of o front) early.books.list in
    let here = brick-node (run_of o front).world h.brick h.state h.there in
    let ok : BrickIs g h.brick h.state = subst (NodeOk g h.brick) here (holds.parts.teams.nodes h.brick) in
    let m = all-is (λ (p : Pending). Members g p.txn p.list h.brick) h.state.locks.pending h.place h.pending ok.pending h.is in
    let listed : early.books.list t ≡ list = ap early.books.list (sym h.same) ∙ m.listed ∙ h.members in
    stays-list (early.books.list t) (b.list t) list h.brick (early.grows.list t) listed (ap (λ (l : List ℕ). has l h.brick) (sym h.members) ∙ m.member)

-- what was noted somewhere
pub noted-booked : (o : OpeningOf) (journal : List Step) (b : Books) (k : ℕ) (t : Txn) (v : Bool) → Kept o journal b → Noted o journal k t v
    → b.noted k t ≡ Some v
noted-booked o journal b k t v kept n =
    let early = kept-before o journal n.at b kept in
    let front = take n.at journal in
    let holds = kept-holds o front early.books early.kept in
    let ok = holds.commit.note k n.state (brick-node (run_of o front).world k n.state n.there) in
    early.grows.noted k t v (sym (ok.agrees t) ∙ ap (λ g. first_some g (early.books.noted k t)) n.noted)

-- a library that commits somewhere
past-call : (x : OpenCall) (cs : List OpenCall) (c : OpenCall) → call_of cs x.txn ≡ None → call_of cs c.txn ≡ Some c → call_of (x ∷ cs) c.txn ≡ Some c
past-call x cs c none rest = pick (same_txn x.txn c.txn) refl
  where
    pick : (b : Bool) → same_txn x.txn c.txn ≡ b → cond b (Some x) (call_of cs c.txn) ≡ Some c
    pick true s = let no : None ≡ Some c = sym none ∙ ap (call_of cs) (is-same x.txn c.txn s) ∙ rest in cc
    pick false s = rest

call-there : (cs : List OpenCall) (place : ℕ) (c : OpenCall) → Apart cs → slice_get cs place ≡ Some c → call_of cs c.txn ≡ Some c
call-there [] place c a e = cc
call-there (x ∷ cs) zero c a e =
    let is : x ≡ c = cc in
    ap (λ b. cond b (Some x) (call_of cs c.txn)) (ap (λ (y : OpenCall). same_txn y.txn c.txn) is ∙ same-self c.txn) ∙ ap Some is
call-there (x ∷ cs) (suc place) c a e = past-call x cs c a.0 (call-there cs place c a.1 e)

-- what is decided, with these members
pub record IsBooked (b : Books) (t : Txn) (list : List ℕ) : Type 0 where
  pub decided : b.decided t ≡ true
  pub listed : b.list t ≡ list

pub library-booked : (o : OpeningOf) (journal : List Step) (b : Books) (t : Txn) (list : List ℕ) (k : ℕ) → Kept o journal b → has list k ≡ true
    → DecidedByLibrary o journal t list → IsBooked b t list
library-booked o journal b t list k kept member d =
    let early = kept-before o journal d.at b kept in
    let front = take d.at journal in
    let holds = kept-holds o front early.books early.kept in
    let ok = holds.commit.calls d.node d.state (library-node (run_of o front).world d.node d.state d.there) in
    let c = ok.calls d.call.txn d.call (call-there d.state.calls d.place d.call ok.apart d.is) in
    let mine : list ≡ early.books.list d.call.txn = subst (IsFor (early.books.list d.call.txn)) d.committing c.list in
    let listed : early.books.list t ≡ list = ap early.books.list (sym d.same) ∙ sym mine in
    record {
      decided = early.grows.decided t (ap early.books.decided (sym d.same) ∙ c.decided (ap commits_now d.committing));
      listed = stays-list (early.books.list t) (b.list t) list k (early.grows.list t) listed member;
    }

-- a decided attempt at a live member
pub sure-member : (z : Sizes) (n : Net) (b : Books) (t : Txn) (m : ℕ) (l : LibraryState) (s : BrickState) → Ground z n → Commit z n b
    → n.node t.library ≡ a_library l → n.node m ≡ a_brick s → s.stopped ≡ false → has (b.list t) m ≡ true → b.decided t ≡ true
    → SureAt (at s.locks.pending (b.noted m t) t)
sure-member z n b t m l s g c library here live member decided =
    (c.decide t m l s (record {
      meets = record { library = library; member = here; unknown = brick-unknown z n t.library m l s g library here live };
      live = live;
      member = member;
      decided = decided;
    })).at

pub sure-place : (pending : Bool) (noted : Option Bool) → SureAt (at_of pending noted) → (pending ≡ true) ⊎ (noted ≡ Some true)
sure-place true noted h = inl refl
sure-place false None h = absurd h
sure-place false (Some true) h = inr refl
sure-place false (Some false) h = absurd h

pub not-aborted : (pending : Bool) (noted : Option Bool) → (pending ≡ true → noted ≡ None) → noted ≡ Some false → SureAt (at_of pending noted) → ⊥
not-aborted true noted free e h = let no : None ≡ Some false = sym (free refl) ∙ e in cc
not-aborted false None free e h = h
not-aborted false (Some true) free e h = cc
not-aborted false (Some false) free e h = h
