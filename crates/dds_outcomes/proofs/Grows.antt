use Rattle.std.proofs.Common.{◌≡◌, ℕ, ◌==◌, ◌||◌, ◌⊎◌, inl, inr, Bool, true, false, List, [], ◌∷◌, refl, sym, ◌∙◌}
use Rattle.std.proofs.lemmas.Bool.{or_left}
use Rattle.std.specs.FinMap.{get}
use Rattle.std.specs.Prelude.{if◌then◌else◌}
use Rattle.dds_base.specs.Number.{Txn}
use Rattle.dds_core.specs.Brick.{brick_input, live_brick_turn}
use Rattle.dds_core.specs.LibraryTurn.{live_library_turn}
use Rattle.dds_net.specs.Event.{Event, History, asked_turn, nothing, unheard, unasked, brick_takes, brick_told, brick_stops}
use Rattle.dds_net.specs.Event.{library_takes, library_asked, library_stops}
use Rattle.dds_net.specs.Net.{Net}
use Rattle.dds_states.specs.declared.brick_state.BrickState.{BrickState}
use Rattle.dds_states.specs.declared.library_state.LibraryState.{LibraryState}
use Rattle.dds_talk.specs.Books.{Books, adds, is_yes, or_else, with_brick, with_library}
use Rattle.dds_talk.specs.Seen.{call_of, is_committing, members_in}
use Rattle.dds_outcomes.specs.Kept.{Stays}

-- The books only grow.

pub record Grows (b c : Books) : Type 0 where
  pub list : (t : Txn) → (b.list t ≡ []) ⊎ (c.list t ≡ b.list t)
  pub decided : (t : Txn) → b.decided t ≡ true → c.decided t ≡ true
  pub noted : Stays b c

pub list-through : (x y z : List ℕ) → (x ≡ []) ⊎ (y ≡ x) → (y ≡ []) ⊎ (z ≡ y) → (x ≡ []) ⊎ (z ≡ x)
list-through x y z (inl e) h = inl e
list-through x y z (inr e) (inl f) = inl (sym e ∙ f)
list-through x y z (inr e) (inr f) = inr (f ∙ e)

pub grows-itself : (b : Books) → Grows b b
grows-itself b = record { list = λ t. inr refl; decided = λ t e. e; noted = λ k t o e. e }

pub grows-through : (a b c : Books) → Grows a b → Grows b c → Grows a c
grows-through a b c g h =
    record {
      list = λ t. list-through (a.list t) (b.list t) (c.list t) (g.list t) (h.list t);
      decided = λ t e. h.decided t (g.decided t e);
      noted = λ k t o e. h.noted k t o (g.noted k t o e);
    }

-- one event
or-else-stays : (x y : List ℕ) → (x ≡ []) ⊎ (or_else x y ≡ x)
or-else-stays [] y = inl refl
or-else-stays (n ∷ ns) y = inr refl

if-stays : (c : Bool) (x y : List ℕ) → (x ≡ []) ⊎ ((if c then or_else x y else x) ≡ x)
if-stays true x y = or-else-stays x y
if-stays false x y = inr refl

if-decided : (c x y : Bool) → x ≡ true → (if c then x || y else x) ≡ true
if-decided true x y e = or_left x y e
if-decided false x y e = e

brick-list : (at : ℕ) (u : BrickState) (b : Books) (t : Txn) → (b.list t ≡ []) ⊎ ((with_brick at u b).list t ≡ b.list t)
brick-list at u b t = inr refl

brick-decided : (at : ℕ) (u : BrickState) (b : Books) (t : Txn) → b.decided t ≡ true → (with_brick at u b).decided t ≡ true
brick-decided at u b t e = or_left (b.decided t) (is_yes (get u.locks.outcomes t)) e

library-list : (at : ℕ) (u : LibraryState) (b : Books) (t : Txn) → (b.list t ≡ []) ⊎ ((with_library at u b).list t ≡ b.list t)
library-list at u b t = if-stays (t.library == at) (b.list t) (members_in (call_of u.calls t))

library-decided : (at : ℕ) (u : LibraryState) (b : Books) (t : Txn) → b.decided t ≡ true → (with_library at u b).decided t ≡ true
library-decided at u b t e = if-decided (t.library == at) (b.decided t) (is_committing (call_of u.calls t)) e

list-grows : (h : History) (n : Net) (e : Event) (b : Books) (t : Txn) → (b.list t ≡ []) ⊎ ((adds h n e b).list t ≡ b.list t)
list-grows h n (brick_takes at from l s) b t = brick-list at (live_brick_turn s from l).state b t
list-grows h n (brick_told at o s) b t = brick-list at (brick_input s o).state b t
list-grows h n (library_takes at from l s) b t = library-list at (live_library_turn s from l).state b t
list-grows h n (library_asked at caller call o s) b t = library-list at (asked_turn s caller call o).state b t
list-grows h n nothing b t = inr refl
list-grows h n (unheard at from l) b t = inr refl
list-grows h n (unasked at caller call o) b t = inr refl
list-grows h n (brick_stops at s kept) b t = inr refl
list-grows h n (library_stops at s kept) b t = inr refl

pub decided-grows : (h : History) (n : Net) (e : Event) (b : Books) (t : Txn) → b.decided t ≡ true → (adds h n e b).decided t ≡ true
decided-grows h n (brick_takes at from l s) b t d = brick-decided at (live_brick_turn s from l).state b t d
decided-grows h n (brick_told at o s) b t d = brick-decided at (brick_input s o).state b t d
decided-grows h n (library_takes at from l s) b t d = library-decided at (live_library_turn s from l).state b t d
decided-grows h n (library_asked at caller call o s) b t d = library-decided at (asked_turn s caller call o).state b t d
decided-grows h n nothing b t d = d
decided-grows h n (unheard at from l) b t d = d
decided-grows h n (unasked at caller call o) b t d = d
decided-grows h n (brick_stops at s kept) b t d = d
decided-grows h n (library_stops at s kept) b t d = d

pub event-grows : (h : History) (n : Net) (e : Event) (b : Books) → Stays b (adds h n e b) → Grows b (adds h n e b)
event-grows h n e b stays = record { list = list-grows h n e b; decided = decided-grows h n e b; noted = stays }
