use Rattle.std.proofs.Common.{◌≡◌, ℕ, ◌<◌, ◌⊎◌, inl, inr, ◌==◌, ◌||◌, Bool, true, false, not, Option, Some, None, List, [], ◌∷◌, refl, sym, ap, ◌∙◌}
use Rattle.std.proofs.Common.{subst}
use Rattle.std.proofs.lemmas.Bool.{both_ways, cases_eq, eq-eqb, ne_eqb, eqb-false, eqb-true, or_left}
use Rattle.std.specs.List.{AllByRecursion}
use Rattle.std.specs.Prelude.{if◌then◌else◌}
use Rattle.dds_core.proofs.Known.{has-with}
use Rattle.dds_base.specs.BrickList.{has}
use Rattle.dds_base.specs.NodeSet.{has_node, with_node}
use Rattle.dds_base.specs.declared.leaf.Leaf.{Leaf}
use Rattle.dds_base.specs.declared.node_set.NodeSet.{NodeSet}
use Rattle.dds_base.specs.declared.number.NodeNo.{NodeNo}
use Rattle.dds_base.specs.declared.op.Met.TheVariants as met
use Rattle.dds_base.specs.declared.op.Op.{Op}
use Rattle.dds_call_rows.specs.Library as rows
use Rattle.dds_core.proofs.Lists.{all-filter, all-map}
use Rattle.dds_net.specs.Net.{Sizes}
use Rattle.dds_states.specs.Turn.{without}
use Rattle.dds_states.specs.declared.library_state.Desk.{Desk}
use Rattle.dds_states.specs.declared.library_state.OpenCall.{OpenCall}
use Rattle.dds_states.specs.declared.library_state.Phase.{Phase}
use Rattle.dds_states.specs.declared.library_state.Phase.TheVariants as phase
use Rattle.dds_books.proofs.Waiting.{AreLeft, awaited}
use Rattle.dds_books.proofs.CallBegins.{DeskOk, FineAt, answered, ask-fine, begin-fine, fine-when, goes-on}
use Rattle.dds_books.proofs.CallRows.{aborted-fine}
use Rattle.dds_books.proofs.Waiting.{left-live, or-parts}
use Rattle.dds_books.proofs.CallBegins.{with-phase}
use Rattle.dds_books.proofs.CallRows.{prepared-fine, told-fine}
use Rattle.dds_books.proofs.Numbers.{bricks-without, not-there, or-right}
use Rattle.dds_books.specs.Placed.{AreAwaited, AreMembers, CallOk, IsAsked, NoneHasTold, PhaseOk}

-- A notice at one call of a library that has learnt of it: who is waited for and lives isn't known, as before.

-- the one set has the node, and else what the other has
pub record Learnt (old new : NodeSet) (y : ℕ) : Type 0 where
  pub itself : has_node new y ≡ true
  pub others : (n : ℕ) → (n ≡ y → ⊥) → has_node new n ≡ has_node old n

pub learnt : (old : NodeSet) (y : ℕ) → y < 80 → Learnt old (with_node old y) y
learnt old y h =
    record {
      itself = has-with old y y h ∙ or_left (y == y) (has_node old y) (eq-eqb y y refl);
      others = λ n ne. has-with old y n h ∙ ap (λ b. b || has_node old n) (ne_eqb n y ne);
    }

-- Who is waited for

still-unknown : {old new : NodeSet} {y : ℕ} (ws : List ℕ) → Learnt old new y → AllByRecursion (λ n. has_node old n ≡ false) ws
    → AllByRecursion (λ n. n ≡ y → ⊥) ws → AllByRecursion (λ n. has_node new n ≡ false) ws
still-unknown [] l h k = tt
still-unknown (w ∷ ws) l h k = (l.others w k.0 ∙ h.0, still-unknown ws l h.1 k.1)

apart-if : (c : Bool) (x y : ℕ) (xs : List ℕ) → (x == y) ≡ c → AllByRecursion (λ n. n ≡ y → ⊥) xs
    → AllByRecursion (λ n. n ≡ y → ⊥) (if not c then x ∷ xs else xs)
apart-if true x y xs e h = h
apart-if false x y xs e h = (eqb-false x y e, h)

without-apart : (ws : List ℕ) (y : ℕ) → AllByRecursion (λ n. n ≡ y → ⊥) (without ws y)
without-apart [] y = tt
without-apart (x ∷ ws) y = apart-if (x == y) x y (without ws y) refl (without-apart ws y)

kept-if : (c : Bool) (x y n : ℕ) (xs : List ℕ) → (x == y) ≡ c → (n ≡ y → ⊥) → (x == n) ≡ true → has (if not c then x ∷ xs else xs) n ≡ true
kept-if true x y n xs e ne f = absurd (ne (sym (eqb-true x n f) ∙ eqb-true x y e))
kept-if false x y n xs e ne f = or_left (x == n) (has xs n) f

more-if : (c : Bool) (x n : ℕ) (xs : List ℕ) → has xs n ≡ true → has (if c then x ∷ xs else xs) n ≡ true
more-if true x n xs h = or-right (x == n) (has xs n) h
more-if false x n xs h = h

has-kept : (ws : List ℕ) (y n : ℕ) → has ws n ≡ true → (n ≡ y → ⊥) → has (without ws y) n ≡ true
has-kept [] y n h ne = h
has-kept (x ∷ ws) y n h ne = elim (or-parts (x == n) (has ws n) h) [
  | inl same ↦ kept-if (x == y) x y n (without ws y) refl ne same
  | inr there ↦ more-if (not (x == y)) x n (without ws y) (has-kept ws y n there ne)
]

left-learnt : {z : Sizes} {old new : NodeSet} {y : ℕ} (ws : List ℕ) → Learnt old new y → AreAwaited z old ws → AreLeft z new (without ws y)
left-learnt {y = y} ws l h =
    record {
      bricks = bricks-without ws y h.bricks;
      unknown = still-unknown (without ws y) l (all-filter _ (λ n. not (n == y)) ws h.unknown) (without-apart ws y);
    }

awaited-learnt : {z : Sizes} {old new : NodeSet} {y : ℕ} (ws : List ℕ) → Learnt old new y → has ws y ≡ false → AreAwaited z old ws → AreAwaited z new ws
awaited-learnt {y = y} ws l e h = record { some = h.some; bricks = h.bricks; unknown = still-unknown ws l h.unknown (not-there ws y e) }

members-learnt : {z : Sizes} {old new : NodeSet} {y : ℕ} (list ws : List ℕ) → Learnt old new y → has ws y ≡ false → AreMembers z old list ws
    → AreMembers z new list ws
members-learnt list ws l e h = record { list_ok = h.list_ok; awaited = awaited-learnt ws l e h.awaited; members = h.members }

-- members that were known are known
known-then : {old new : NodeSet} {y : ℕ} (n : ℕ) → Learnt old new y → has_node old n ≡ true → has_node new n ≡ true
known-then {new = new} {y = y} n l e = elim (cases_eq n y) [
  | inl same ↦ ap (has_node new) same ∙ l.itself
  | inr ne ↦ l.others n ne ∙ e
]

told-learnt : {old new : NodeSet} {y : ℕ} (list ws us : List ℕ) (was : Option Bool) → Learnt old new y
    → ((n : ℕ) → has ws n ≡ true → (n ≡ y → ⊥) → has us n ≡ true) → NoneHasTold old list ws was → NoneHasTold new list us was
told-learnt list ws us (Some was) l f h = tt
told-learnt {old = old} {new = new} {y = y} list ws us None l f h = all-map _ (λ n. (has us n ≡ true) ⊎ (has_node new n ≡ true)) list one h
  where
    one : (n : ℕ) → (has ws n ≡ true) ⊎ (has_node old n ≡ true) → (has us n ≡ true) ⊎ (has_node new n ≡ true)
    one n k = elim k [
      | inl e ↦ elim (cases_eq n y) [
        | inl same ↦ inr (ap (has_node new) same ∙ l.itself)
        | inr ne ↦ inl (f n e ne)
      ]
      | inr e ↦ inr (known-then n l e)
    ]

-- a call that doesn't wait for the node
asked-learnt : {z : Sizes} {old new : NodeSet} {y : ℕ} (brick : ℕ) → Learnt old new y → (brick == y) ≡ false → IsAsked z old brick → IsAsked z new brick
asked-learnt {y = y} brick l e h = record { inside = h.inside; unknown = l.others brick (eqb-false brick y e) ∙ h.unknown }

pub phase-learnt : (z : Sizes) {old new : NodeSet} {y : ℕ} (o : Op) (p : Phase) → Learnt old new y → rows.call_concerns p y ≡ false → PhaseOk z old o p
    → PhaseOk z new o p
phase-learnt z o (phase.Getting leaf brick) l e h = (h.0, asked-learnt brick l e h.1)
phase-learnt z o (phase.Preparing leaf list waiting) l e h = (h.0, members-learnt list waiting l e h.1)
phase-learnt z o (phase.Committing leaf list waiting was) l e h =
    (h.0, members-learnt list waiting l e h.1, told-learnt list waiting waiting was l (λ n k ne. k) h.2)
phase-learnt z o (phase.Aborting waiting why brick) l e h = (h.0, awaited-learnt waiting l e h.1, h.2, h.3)
phase-learnt z o (phase.Asking waiting newest why) l e h = (awaited-learnt waiting l e h.0, h.1)

-- no call waits for a node that its library knows
awaited-if : (known : NodeSet) (c : Bool) (w y : ℕ) (b : Bool) → (w == y) ≡ c → has_node known w ≡ false → has_node known y ≡ true → b ≡ false
    → (c || b) ≡ false
awaited-if known true w y b e h k g = absurd (both_ways (has_node known y) (ap (has_node known) (sym (eqb-true w y e)) ∙ h) k)
awaited-if known false w y b e h k g = g

not-awaited : (known : NodeSet) (ws : List ℕ) (y : ℕ) → AllByRecursion (λ n. has_node known n ≡ false) ws → has_node known y ≡ true → has ws y ≡ false
not-awaited known [] y h e = refl
not-awaited known (w ∷ ws) y h e = awaited-if known (w == y) w y (has ws y) refl h.0 e (not-awaited known ws y h.1 e)

not-asked : (known : NodeSet) (brick y : ℕ) → has_node known brick ≡ false → has_node known y ≡ true → (brick == y) ≡ false
not-asked known brick y h e = ne_eqb brick y (λ same. both_ways (has_node known y) (sym (ap (has_node known) same) ∙ h) e)

pub phase-silent : (z : Sizes) (known : NodeSet) (o : Op) (p : Phase) (y : ℕ) → PhaseOk z known o p → has_node known y ≡ true → rows.call_concerns p y ≡ false
phase-silent z known o (phase.Getting leaf brick) y h e = not-asked known brick y h.1.unknown e
phase-silent z known o (phase.Preparing leaf list waiting) y h e = not-awaited known waiting y h.1.awaited.unknown e
phase-silent z known o (phase.Committing leaf list waiting was) y h e = not-awaited known waiting y h.1.awaited.unknown e
phase-silent z known o (phase.Aborting waiting why brick) y h e = not-awaited known waiting y h.1.unknown e
phase-silent z known o (phase.Asking waiting newest why) y h e = not-awaited known waiting y h.0.unknown e

-- The call goes on without the node

lost-fine : {z : Sizes} (d : Desk) (c : OpenCall) (leaf : Leaf) (was : Option Bool) → DeskOk z d → FineAt z d (rows.lost_or_applied d c leaf was)
lost-fine d c leaf None h = answered d _ h.leaves
lost-fine d c leaf (Some was) h = answered d _ h.leaves

without-fine : {z : Sizes} {old : NodeSet} (d : Desk) (c : OpenCall) (y : NodeNo) (p : Phase) → DeskOk z d
    → CallOk z d.numbers.library d.numbers.next old c → PhaseOk z old c.request.op p → Learnt old d.known y → FineAt z d (rows.goes_without d c y p)
without-fine d c y (phase.Getting leaf brick) h k m l = begin-fine d c.request h
without-fine d c y (phase.Preparing leaf list waiting) h k m l =
    fine-when _ _ _ (λ e. ask-fine d c.request (met.Stopped y) h) (λ e. prepared-fine d c leaf list (without waiting y) h k m.0 m.1.list_ok
    (left-learnt waiting l m.1.awaited) (all-filter _ (λ n. not (n == y)) waiting m.1.members) (left-live list (has_node d.known) e))
without-fine d c y (phase.Committing leaf list waiting was) h k m l =
    let ws = without waiting y in
    fine-when _ _ _ (λ e. lost-fine d c leaf was h) (λ e. goes-on d [] _ h.leaves tt
    (with-phase c (phase.Committing leaf list ws was) k (
      m.0,
      record {
        list_ok = m.1.list_ok;
        awaited = awaited ws (left-learnt waiting l m.1.awaited) e;
        members = all-filter _ (λ n. not (n == y)) waiting m.1.members;
      },
      told-learnt list waiting ws was l (λ n there ne. has-kept waiting y n there ne) m.2,
    )))
without-fine d c y (phase.Aborting waiting why brick) h k m l = aborted-fine d c (without waiting y) why brick h k m.0 (left-learnt waiting l m.1) m.2 m.3
without-fine d c y (phase.Asking waiting newest why) h k m l = told-fine d c (without waiting y) newest why h k (left-learnt waiting l m.0) m.1

-- a call that is yet to be treated
pub notice-fine : {z : Sizes} {old : NodeSet} (d : Desk) (c : OpenCall) (y : NodeNo) → DeskOk z d → CallOk z d.numbers.library d.numbers.next old c
    → Learnt old d.known y → FineAt z d (rows.notice_in d c y)
notice-fine {z = z} d c y h k l =
    fine-when _ _ _ (λ e. without-fine d c y c.phase h k k.its_phase l) (λ e. goes-on d [] c h.leaves tt
    (record { library = k.library; below = k.below; its_phase = phase-learnt z c.request.op c.phase l e k.its_phase }))

-- one that has been treated
pub silent-fine : {z : Sizes} (d : Desk) (c : OpenCall) (y : NodeNo) → DeskOk z d → CallOk z d.numbers.library d.numbers.next d.known c
    → has_node d.known y ≡ true → FineAt z d (rows.notice_in d c y)
silent-fine {z = z} d c y h k e =
    subst (λ b. FineAt z d (if b then rows.goes_without d c y c.phase else rows.stays d [] c))
    (sym (phase-silent z d.known c.request.op c.phase y k.its_phase e)) (goes-on d [] c h.leaves tt k)
