use Rattle.std.proofs.Common.{◌≡◌, ℕ, ◌==◌, ◌⊎◌, inl, inr, Bool, true, false, List, [], refl, sym, ap, ◌∙◌, subst}
use Rattle.std.proofs.lemmas.Bool.{ne_eqb}
use Rattle.std.specs.Prelude.{if◌then◌else◌}
use Rattle.dds_base.specs.Number.{Txn}
use Rattle.dds_cluster.specs.Trace.{run_of}
use Rattle.dds_cluster.specs.declared.step.Step.{Step}
use Rattle.dds_cluster.specs.declared.trace.Caller.{Caller}
use Rattle.dds_cluster.specs.World.{emptied}
use Rattle.dds_core.specs.Brick.{brick_input, live_brick_turn}
use Rattle.dds_core.specs.LibraryTurn.{live_library_turn}
use Rattle.dds_net.proofs.Journals.{net_of}
use Rattle.dds_net.proofs.Puts.{at-put}
use Rattle.dds_net.specs.Event.{Event, Fits, History, asked_turn, history_of, moved, nothing, unheard, unasked, brick_takes, brick_told, brick_stops}
use Rattle.dds_net.specs.Event.{library_takes}
use Rattle.dds_net.specs.Event.{library_asked, library_stops}
use Rattle.dds_net.specs.Net.{Net, Node, a_brick, a_library, Sizes, put, sizes_of}
use Rattle.dds_script.specs.Opening.{OpeningOf}
use Rattle.dds_states.specs.declared.brick_state.BrickState.{BrickState}
use Rattle.dds_states.specs.declared.library_state.LibraryState.{LibraryState}
use Rattle.dds_talk.specs.Books.{Books, adds, or_else, with_library}
use Rattle.dds_talk.specs.Seen.{call_of, members_in}
use Rattle.dds_outcomes.specs.Kept.{Kept}
use Rattle.dds_outcomes.specs.Kept.Kept.{first, grown}

-- The library of an attempt that has members is one of the cluster's.

abbrev pub IsLibrary : Node → Type 0
IsLibrary x = (l : LibraryState) × (x ≡ a_library l)

abbrev pub IsMade : Net → Books → Txn → Type 0
IsMade n b t = (b.list t ≡ []) ⊎ IsLibrary (n.node t.library)

-- of the attempt's library, at the node that an event changes and at another one
abbrev At : Books → Txn → ℕ → Node → Type 0
At c t k x = k ≡ t.library → (c.list t ≡ []) ⊎ IsLibrary x

other-at : (n : Net) (b c : Books) (t : Txn) (k : ℕ) → (k ≡ t.library → c.list t ≡ b.list t) → IsMade n b t → At c t k (n.node k)
other-at n b c t k same (inl e) i = inl (same i ∙ e)
other-at n b c t k same (inr l) i = inr (subst (λ j. IsLibrary (n.node j)) (sym i) l)

no-brick : (n : Net) (b : Books) (t : Txn) (at : ℕ) (s : BrickState) (x : Node) → n.node at ≡ a_brick s → IsMade n b t → At b t at x
no-brick n b t at s x here (inl e) i = inl e
no-brick n b t at s x here (inr l) i = let no : a_library l.0 ≡ a_brick s = sym l.1 ∙ ap n.node (sym i) ∙ here in cc

if-other : (c : Bool) (x y : List ℕ) → c ≡ false → (if c then x else y) ≡ y
if-other c x y e = ap (λ d. if d then x else y) e

library-other : (at : ℕ) (u : LibraryState) (b : Books) (t : Txn) (k : ℕ) → (k ≡ at → ⊥) → k ≡ t.library → (with_library at u b).list t ≡ b.list t
library-other at u b t k ne i =
    if-other (t.library == at) (or_else (b.list t) (members_in (call_of u.calls t))) (b.list t) (ne_eqb t.library at (λ e. ne (i ∙ e)))

brick-made : (n : Net) (b : Books) (t : Txn) (at : ℕ) (s : BrickState) (x : Node) → n.node at ≡ a_brick s → IsMade n b t
    → (k : ℕ) → At b t k (put at x n.node k)
brick-made n b t at s x here h = at-put (At b t) at x n.node (no-brick n b t at s x here h) (λ k ne. other-at n b b t k (λ i. refl) h)

library-made : (n : Net) (b : Books) (t : Txn) (at : ℕ) (u : LibraryState) → IsMade n b t
    → (k : ℕ) → At (with_library at u b) t k (put at (a_library u) n.node k)
library-made n b t at u h =
    at-put (At (with_library at u b) t) at (a_library u) n.node (λ i. inr (u, refl))
    (λ k ne. other-at n b (with_library at u b) t k (library-other at u b t k ne) h)

event-made : (z : Sizes) (cs : List Caller) (h : History) (n : Net) (e : Event) (b : Books) (t : Txn) → Fits z cs n e → IsMade n b t
    → IsMade (moved z n e) (adds h n e b) t
event-made z cs h n nothing b t f g = g
event-made z cs h n (unasked at caller call o) b t f g = g
event-made z cs h n (unheard at from l) b t f g =
    at-put (At b t) at (n.node at) n.node (other-at n b b t at (λ i. refl) g) (λ k ne. other-at n b b t k (λ i. refl) g) t.library refl
event-made z cs h n (brick_takes at from l s) b t f g = brick-made n b t at s (a_brick (live_brick_turn s from l).state) f.here g t.library refl
event-made z cs h n (brick_told at o s) b t f g = brick-made n b t at s (a_brick (brick_input s o).state) f.here g t.library refl
event-made z cs h n (brick_stops at s kept) b t f g = brick-made n b t at s (a_brick (emptied s.number)) f.here g t.library refl
event-made z cs h n (library_takes at from l s) b t f g = library-made n b t at (live_library_turn s from l).state g t.library refl
event-made z cs h n (library_asked at caller call o s) b t f g = library-made n b t at (asked_turn s caller call o).state g t.library refl
event-made z cs h n (library_stops at s kept) b t f g =
    at-put (At b t) at (a_library (record s { stopped = true })) n.node (λ i. inr (record s { stopped = true }, refl))
    (λ k ne. other-at n b b t k (λ i. refl) g) t.library refl

pub kept-made : (o : OpeningOf) (journal : List Step) (b : Books) → Kept o journal b → (t : Txn) → IsMade (net_of o journal) b t
kept-made o journal b (first j c e f h) t = inl (ap (λ (c : Books). c.list t) f)
kept-made o journal b (grown j was x e c d kept same is next past stays h) t =
    let z = sizes_of o in
    subst (λ i. IsMade (net_of o i) b t) (sym same)
    (subst (λ n. IsMade n b t) (sym next.after)
    (subst (λ (y : Books). IsMade (moved z (net_of o was) e) y t) (sym is)
    (event-made z (run_of o was).callers (history_of (run_of o was)) (net_of o was) e c t next.fits (kept-made o was c kept t))))
