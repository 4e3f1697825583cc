use Rattle.std.proofs.Common.{◌≡◌, ℕ, ◌+◌, ◌≤◌, inl, inr, Bool, Some, List, [], ◌∷◌, ◌++◌, length, refl, sym, ap, ◌∙◌, subst, arith}
use Rattle.std.proofs.Math.Seq.{take-append_seam, take-length}
use Rattle.std.proofs.lemmas.Bool.{cases_lt}
use Rattle.std.proofs.lemmas.List.{take-append-le, take_all}
use Rattle.std.specs.FinMap.{get}
use Rattle.std.specs.Prelude.{take}
use Rattle.dds_base.specs.Number.{Txn}
use Rattle.dds_cluster.specs.Trace.{run_of}
use Rattle.dds_cluster.specs.World.{World, brick_at}
use Rattle.dds_cluster.specs.declared.step.Step.{Step}
use Rattle.dds_net.proofs.Journals.{Grown, net_of}
use Rattle.dds_net.proofs.Ways.{NodeIs, is_brick, is_library, is_nowhere, node-is}
use Rattle.dds_net.specs.Event.{Event, history_of}
use Rattle.dds_net.specs.Net.{a_brick, node_at, sizes_of}
use Rattle.dds_script.specs.Opening.{OpeningOf}
use Rattle.dds_states.specs.declared.brick_state.BrickState.{BrickState}
use Rattle.dds_talk.specs.Books.{Books}
use Rattle.dds_world.specs.Outcomes.{Noted}
use Rattle.dds_world.specs.Places.{world_at}
use Rattle.dds_outcomes.proofs.Grows.{Grows, event-grows, grows-itself, grows-through}
use Rattle.dds_outcomes.specs.Kept.{Holds, Kept, Stays, books_after}
use Rattle.dds_outcomes.specs.Kept.Kept.{first, grown}

-- The places of a run: what held there, and what the books had by then.

pub kept-holds : (o : OpeningOf) (journal : List Step) (b : Books) → Kept o journal b → Holds (sizes_of o) (net_of o journal) b
kept-holds o journal b (first j c e f h) = h
kept-holds o journal b (grown j was x e c d k same is next past stays h) = h

pub event-goes : (o : OpeningOf) (was : List Step) (e : Event) (b c : Books) → c ≡ books_after o was e b → Stays b c → Grows b c
event-goes o was e b c is stays =
    subst (Grows b) (sym is) (event-grows (history_of (run_of o was)) (net_of o was) e b (subst (Stays b) is stays))

-- the books at a place, which the run's books contain
pub record Before (o : OpeningOf) (journal : List Step) (at : ℕ) (b : Books) : Type 0 where
  pub books : Books
  pub kept : Kept o (take at journal) books
  pub grows : Grows books b

whole-before : (o : OpeningOf) (journal : List Step) (at : ℕ) (b : Books) → length journal ≤ at → Kept o journal b → Before o journal at b
whole-before o journal at b le k =
    record { books = b; kept = subst (λ j. Kept o j b) (sym (take_all at journal le)) k; grows = grows-itself b }

length-grown : (xs : List Step) (y : Step) → length (Grown xs y) ≡ length xs + 1
length-grown [] y = refl
length-grown (z ∷ xs) y = let rest = length-grown xs y in omega (arith, rest)

pub kept-before : (o : OpeningOf) (journal : List Step) (at : ℕ) (b : Books) → Kept o journal b → Before o journal at b
kept-before o journal at b (first j c e f h) =
    whole-before o journal at b (let none : length journal ≡ 0 = ap length e in omega (arith, none)) (first journal b e f h)
kept-before o journal at b (grown j was x e c d k same is next past stays h) = elim (cases_lt (length was) at) [
  | inl lt ↦
      let one : length journal ≡ length was + 1 = ap length same ∙ length-grown was x in
      whole-before o journal at b (omega (arith, lt, one)) (grown journal was x e c b k same is next past stays h)
  | inr le ↦
      let early = kept-before o was at c k in
      record {
        books = early.books;
        kept = subst (λ i. Kept o i early.books) (sym (ap (take at) same ∙ take-append-le at was (x ∷ []) le)) early.kept;
        grows = grows-through early.books c b early.grows (event-goes o was e c b is stays);
      }
]

-- a brick of the nodes is one of the world
brick-if : (w : World) (n : ℕ) (s : BrickState) → NodeIs w n → node_at w n ≡ a_brick s → brick_at w n ≡ Some s
brick-if w n s (is_nowhere e) h = let no = sym e ∙ h in cc
brick-if w n s (is_brick x b e) h = let same = sym e ∙ h in let is : x ≡ s = cc in b ∙ ap Some is
brick-if w n s (is_library x b e) h = let no = sym e ∙ h in cc

pub brick-of : (o : OpeningOf) (journal : List Step) (n : ℕ) (s : BrickState) → (net_of o journal).node n ≡ a_brick s
    → brick_at (run_of o journal).world n ≡ Some s
brick-of o journal n s h = brick-if (run_of o journal).world n s (node-is (run_of o journal).world n) h

-- a world at a place is at a place of the longer journal
pub record Again (o : OpeningOf) (journal more : List Step) (at : ℕ) : Type 0 where
  pub place : ℕ
  pub same : world_at o (journal ++ more) place ≡ world_at o journal at

again : (o : OpeningOf) (journal more : List Step) (at : ℕ) → Again o journal more at
again o journal more at = elim (cases_lt (length journal) at) [
  | inl lt ↦
      record {
        place = length journal;
        same = ap (λ (steps : List Step). (run_of o steps).world)
            (take-append_seam journal more ∙ sym (take_all at journal (omega (arith, lt))));
      }
  | inr le ↦ record { place = at; same = ap (λ (steps : List Step). (run_of o steps).world) (take-append-le at journal more le) }
]

pub noted-later : (o : OpeningOf) (journal more : List Step) (k : ℕ) (t : Txn) (c : Bool) → Noted o journal k t c
    → Noted o (journal ++ more) k t c
noted-later o journal more k t c n =
    let a = again o journal more n.at in
    record { at = a.place; state = n.state; there = ap (λ (w : World). brick_at w k) a.same ∙ n.there; noted = n.noted }

-- at the end of the journal
pub noted-last : (o : OpeningOf) (journal : List Step) (k : ℕ) (t : Txn) (c : Bool) (s : BrickState)
    → (net_of o journal).node k ≡ a_brick s → get s.locks.outcomes t ≡ Some c → Noted o journal k t c
noted-last o journal k t c s here is =
    record {
      at = length journal;
      state = s;
      there = ap (λ (steps : List Step). brick_at (run_of o steps).world k) (take-length journal) ∙ brick-of o journal k s here;
      noted = is;
    }
