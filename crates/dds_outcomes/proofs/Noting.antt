use Rattle.std.proofs.Common.{◌≡◌, ℕ, ◌==◌, ◌⊎◌, inl, inr, Bool, true, false, Option, Some, None, List, [], ◌∷◌, refl, sym, ap, ◌∙◌, subst}
use Rattle.std.proofs.lemmas.Bool.{eqb-true}
use Rattle.std.specs.FinMap.{get}
use Rattle.std.specs.Prelude.{if◌then◌else◌}
use Rattle.dds_base.specs.Number.{Txn}
use Rattle.dds_cluster.specs.declared.step.Step.{Step}
use Rattle.dds_core.specs.Brick.{brick_input, live_brick_turn}
use Rattle.dds_net.proofs.Journals.{Grown, IsNext, net_of}
use Rattle.dds_net.specs.Event.{Event, nothing, unheard, unasked, brick_takes, brick_told, brick_stops, library_takes, library_asked, library_stops}
use Rattle.dds_net.specs.Net.{Net, a_brick}
use Rattle.dds_script.specs.Opening.{OpeningOf}
use Rattle.dds_states.specs.Turn.{first_some}
use Rattle.dds_states.specs.declared.brick_state.BrickState.{BrickState}
use Rattle.dds_talk.proofs.Changes.{put-here}
use Rattle.dds_talk.specs.Books.{Books, with_brick}
use Rattle.dds_talk.specs.Seen.{noting}
use Rattle.dds_world.specs.Outcomes.{Noted}
use Rattle.dds_outcomes.proofs.Places.{noted-last, noted-later}
use Rattle.dds_outcomes.specs.Kept.{Kept, books_after}
use Rattle.dds_outcomes.specs.Kept.Kept.{first, grown}

-- What the books have of a brick, the brick had noted at some place: trimming may have dropped it since.

some-first : (x y : Option Bool) (v : Bool) → first_some x y ≡ Some v → (x ≡ Some v) ⊎ (y ≡ Some v)
some-first None y v e = inr e
some-first (Some c) y v e = inl e

-- what a brick has now, or what was noted before
new-noted : (at : ℕ) (u : BrickState) (b : Books) (k : ℕ) (t : Txn) (v : Bool) → (with_brick at u b).noted k t ≡ Some v
    → (b.noted k t ≡ Some v) ⊎ ((k ≡ at) × (get u.locks.outcomes t ≡ Some v))
new-noted at u b k t v = pick (k == at) refl
  where
    here : k ≡ at → (get u.locks.outcomes t ≡ Some v) ⊎ (b.noted at t ≡ Some v) → (b.noted k t ≡ Some v) ⊎ ((k ≡ at) × (get u.locks.outcomes t ≡ Some v))
    here e (inl h) = inr (e, h)
    here e (inr h) = inl (ap (λ j. b.noted j t) e ∙ h)

    pick : (c : Bool) → (k == at) ≡ c → (if c then noting u.locks.outcomes (b.noted at) else b.noted k) t ≡ Some v
        → (b.noted k t ≡ Some v) ⊎ ((k ≡ at) × (get u.locks.outcomes t ≡ Some v))
    pick true e h = here (eqb-true k at e) (some-first (get u.locks.outcomes t) (b.noted at t) v h)
    pick false e h = inl h

brick-step : (o : OpeningOf) (journal : List Step) (at : ℕ) (u : BrickState) (b : Books) (k : ℕ) (t : Txn) (v : Bool)
    → (net_of o journal).node at ≡ a_brick u → (with_brick at u b).noted k t ≡ Some v → (b.noted k t ≡ Some v) ⊎ Noted o journal k t v
brick-step o journal at u b k t v here h = elim (new-noted at u b k t v h) [
  | inl old ↦ inl old
  | inr new ↦ inr (noted-last o journal k t v u (ap (net_of o journal).node new.0 ∙ here) new.1)
]

event-step : (o : OpeningOf) (was : List Step) (x : Step) (e : Event) (b : Books) (k : ℕ) (t : Txn) (v : Bool) → IsNext o was x e
    → (books_after o was e b).noted k t ≡ Some v → (b.noted k t ≡ Some v) ⊎ Noted o (Grown was x) k t v
event-step o was x (brick_takes at from l s) b k t v next h =
    let u = (live_brick_turn s from l).state in
    brick-step o (Grown was x) at u b k t v (ap (λ (n : Net). n.node at) next.after ∙ put-here at (a_brick u) (net_of o was).node) h
event-step o was x (brick_told at i s) b k t v next h =
    let u = (brick_input s i).state in
    brick-step o (Grown was x) at u b k t v (ap (λ (n : Net). n.node at) next.after ∙ put-here at (a_brick u) (net_of o was).node) h
event-step o was x (library_takes at from l s) b k t v next h = inl h
event-step o was x (library_asked at caller call i s) b k t v next h = inl h
event-step o was x nothing b k t v next h = inl h
event-step o was x (unheard at from l) b k t v next h = inl h
event-step o was x (unasked at caller call i) b k t v next h = inl h
event-step o was x (brick_stops at s kept) b k t v next h = inl h
event-step o was x (library_stops at s kept) b k t v next h = inl h

pub noted-there : (o : OpeningOf) (journal : List Step) (b : Books) → Kept o journal b → (k : ℕ) (t : Txn) (v : Bool) → b.noted k t ≡ Some v
    → Noted o journal k t v
noted-there o journal b (first j c e f h) k t v now = let no : None ≡ Some v = sym (ap (λ (c : Books). c.noted k t) f) ∙ now in cc
noted-there o journal b (grown j was x e c d kept same is next past stays h) k t v now =
    subst (λ i. Noted o i k t v) (sym same)
    (elim (event-step o was x e c k t v next (sym (ap (λ (y : Books). y.noted k t) is) ∙ now)) [
      | inl old ↦ noted-later o was (x ∷ []) k t v (noted-there o was c kept k t v old)
      | inr new ↦ new
    ])
