use Rattle.std.proofs.Common.{◌≡◌, ℕ, ◌==◌, Bool, true, false, Some, List, []}
use Rattle.std.proofs.Common.{◌∷◌, ◌++◌, find, refl, sym, ap, ◌∙◌, subst}
use Rattle.std.specs.FinMap.{get}
use Rattle.std.specs.Prelude.{if◌then◌else◌}
use Rattle.dds_base.specs.Number.{Txn, same_txn}
use Rattle.dds_base.specs.declared.number.NodeNo.{NodeNo}
use Rattle.dds_brick_rows.specs.Resolution as rows
use Rattle.dds_core.proofs.LetterTells.{Any, Each}
use Rattle.dds_core.proofs.Rests.{AllOrders, Orders, Rests, Whole}
use Rattle.dds_letters.specs.declared.letter.Letter.{Letter}
use Rattle.dds_letters.specs.declared.letter.Letter.TheVariants as letter
use Rattle.dds_locks.specs.Pending.{first_of}
use Rattle.dds_locks.specs.Status.{status}
use Rattle.dds_states.specs.Turn.{BrickTurn, still, sends, and_then, to_each, is_none_left, unknown_others}
use Rattle.dds_states.specs.declared.brick_state.BrickState.{BrickState}
use Rattle.dds_states.specs.declared.brick_state.Deferred.{Deferred}
use Rattle.dds_states.specs.declared.brick_state.Resolving.{Resolving}
use Rattle.dds_talk.specs.Resolve.{Tell}
use Rattle.dds_talk.specs.Resolve.Tell.{query, outcome}
use Rattle.dds_talk.specs.Seen.{Once, is_pending, of, one, about}
use Rattle.dds_resolve.specs.Letters.{letters_to, to_one}
use Rattle.dds_resolve.specs.Resolving.{tell_in}
use Rattle.dds_resolve.specs.Conversations.{Round}
use Rattle.dds_resolve.proofs.MemberTurns.{about-sent, outcome-calm, own-same, quiet-each, quiet-one}
use Rattle.dds_resolve.proofs.ResolverTurns.{Aside, outcome-ends}
use Rattle.dds_resolve.proofs.ResolverStages.{Stage}
use Rattle.dds_resolve.proofs.ResolverTurns.{talking-aside}
use Rattle.dds_resolve.proofs.ResolverStages.{settled-once, talking-same}

-- A notice at a resolver: its conversations about an attempt go on.

-- turns that leave the attempt alone, and keep each attempt pending once
pub record Leaves (t : Txn) (s : BrickState) (r : BrickTurn) : Type 0 where
  pub aside : Aside t s r
  pub once : Once s.locks.pending → Once r.state.locks.pending

pub stage-leaves : (z : Round) (s : BrickState) (r : BrickTurn) (sent : List (NodeNo × Letter)) → Leaves z.txn s r → Stage z s sent →
    Stage z r.state (sent ++ r.out.letters)
stage-leaves z s r sent l h =
    record {
      decided = h.decided;
      now = talking-same z (find (rows.is_of z.txn) s.resolving) (find (rows.is_of z.txn) r.state.resolving) r.state r.state (sent ++ r.out.letters)
          (sym l.aside.found) refl refl refl (talking-aside z _ s r sent l.aside h.now);
      once = l.once h.once;
    }

pub leaves-sends : {t : Txn} (s : BrickState) (ls : List (NodeNo × Letter)) → ((m : ℕ) → about tell_in t (letters_to m ls) ≡ []) → Leaves t s (sends s ls)
leaves-sends s ls q = record { aside = record { own = refl; number = refl; known = refl; found = refl; silent = q }; once = λ o. o }

pub leaves-still : {t : Txn} (s : BrickState) → Leaves t s (still s)
leaves-still s = leaves-sends s [] (λ m. refl)

pub leaves-defers : {t : Txn} (s : BrickState) (ds : List Deferred) → Leaves t s (still (record s { deferred = ds }))
leaves-defers s ds = record { aside = record { own = refl; number = refl; known = refl; found = refl; silent = λ m. refl }; once = λ o. o }

leaves-then : {t : Txn} (s : BrickState) (r : BrickTurn) (row : BrickState → BrickTurn) → Leaves t s r → ((u : BrickState) → Leaves t u (row u)) →
    Leaves t s (and_then r row)
leaves-then {t = t} s r row a f =
    let b = f r.state in
    record {
      aside = record {
        own = b.aside.own ∙ a.aside.own;
        number = b.aside.number ∙ a.aside.number;
        known = b.aside.known ∙ a.aside.known;
        found = b.aside.found ∙ a.aside.found;
        silent = λ m. about-sent tell_in t m r.out.letters (row r.state).out.letters
            ∙ ap (λ xs. xs ++ about tell_in t (letters_to m (row r.state).out.letters)) (a.aside.silent m) ∙ b.aside.silent m;
      };
      once = λ o. b.once (a.once o);
    }

pub leaves-if : {t : Txn} {s : BrickState} (c : Bool) (r q : BrickTurn) → Leaves t s r → Leaves t s q → Leaves t s (if c then r else q)
leaves-if true r q f h = f
leaves-if false r q f h = h

-- another attempt
not-of : (t x : Txn) (y : Tell) → same_txn x t ≡ false → of t (Some (x, y)) ≡ []
not-of t x y e = ap (λ b. one b y) e

pub outcome-leaves : {t : Txn} (s : BrickState) (x : Txn) (c : Bool) → same_txn x t ≡ false → Leaves t s (rows.outcome_row s x c)
outcome-leaves {t = t} s x c ne =
    let e = outcome-ends s x c in
    let k = outcome-calm {f = 0} s x c ne in
    record {
      aside = record {
        own = own-same s (rows.outcome_row s x c).state t k.pending k.outcomes;
        number = e.number;
        known = e.known;
        found = ap (find (rows.is_of t)) e.resolving;
        silent = λ m. ap (λ ls. about tell_in t (letters_to m ls)) e.letters;
      };
      once = settled-once s x c (first_of s.locks.pending x);
    }

found-other : (t : Txn) (rs : List Resolving) (r : Resolving) → rows.is_of t r ≡ false → find (rows.is_of t) (rs ++ r ∷ []) ≡ find (rows.is_of t) rs
found-other t [] r e = rw e refl
found-other t (x ∷ rs) r e = ap (λ o. if rows.is_of t x then Some x else o) (found-other t rs r e)

pub kept-leaves : {t : Txn} (s : BrickState) (r : Resolving) → same_txn r.txn t ≡ false → Leaves t s (still (record s { resolving = s.resolving ++ r ∷ [] }))
kept-leaves {t = t} s r ne = record {
  aside = record { own = refl; number = refl; known = refl; found = found-other t s.resolving r ne; silent = λ m. refl };
  once = λ o. o;
}

pub resolves-leaves : {t : Txn} (s : BrickState) (r : Resolving) → same_txn r.txn t ≡ false → Leaves t s (rows.resolves_on s r)
resolves-leaves {t = t} s r ne =
    leaves-if (is_none_left r.waiting) _ _
    (leaves-then s (rows.outcome_row s r.txn (rows.verdict r))
    (λ u. sends u (to_each (unknown_others r.list u.number u.known) (letter.Outcome r.txn (rows.verdict r))))
    (outcome-leaves s r.txn (rows.verdict r) ne)
    (λ u. leaves-sends u _ (λ m. quiet-each tell_in t m (unknown_others r.list u.number u.known) (letter.Outcome r.txn (rows.verdict r))
    (not-of t r.txn (outcome (rows.verdict r)) ne))))
    (kept-leaves s r ne)

pub resolve-leaves : {t : Txn} (s : BrickState) (x : Txn) (list : List ℕ) → same_txn x t ≡ false → Leaves t s (rows.resolve s x list)
resolve-leaves {t = t} s x list ne =
    leaves-then s (sends s (to_each (unknown_others list s.number s.known) (letter.Query x list))) (λ u. rows.resolves_on u (rows.started s x list))
    (leaves-sends s _ (λ m. quiet-each tell_in t m (unknown_others list s.number s.known) (letter.Query x list) (not-of t x query ne)))
    (λ u. resolves-leaves u (rows.started s x list) ne)

pub query-leaves : {t : Txn} (s : BrickState) (from : NodeNo) (x : Txn) (list : List ℕ) → Leaves t s (rows.query_row s from x list)
query-leaves {t = t} s from x list = leaves-if (rows.is_ready s.known x list from) _ _
    (leaves-sends s _ (λ m. quiet-one tell_in t m from (letter.Status x (status s.locks x)) refl)) (leaves-defers s _)

silent-frame : (m : ℕ) (t : Txn) (ls : List (NodeNo × Letter)) → AllOrders Any ls → about tell_in t (letters_to m ls) ≡ []
silent-frame m t [] h = refl
silent-frame m t (l ∷ ls) h = quiet-if (l.0 == m) t l.1 (letters_to m ls) (silent t l.0 l.1 h.0) (silent-frame m t ls h.1)
  where
    silent : (t : Txn) (to : NodeNo) (l : Letter) → Orders Any to l → of t (tell_in l) ≡ []
    silent t to (letter.Query txn list) h = absurd h
    silent t to (letter.Outcome txn c) h = absurd h
    silent t to other h = refl

    quiet-if : (b : Bool) (t : Txn) (l : Letter) (rest : List Letter) → of t (tell_in l) ≡ [] → about tell_in t rest ≡ [] →
        about tell_in t (to_one b l rest) ≡ []
    quiet-if true t l rest e h = ap (λ xs. xs ++ about tell_in t rest) e ∙ h
    quiet-if false t l rest e h = h

pub frame-leaves : {t : Txn} (s : BrickState) (r : BrickTurn) → Rests Any Each s r → Leaves t s r
frame-leaves {t = t} s r h =
    record {
      aside = record {
        own = own-same s r.state t (ap (λ (w : Whole). is_pending w.pending t) h.same) (ap (λ (w : Whole). get w.outcomes t) h.same);
        number = ap (λ (w : Whole). w.who.number) h.same;
        known = ap (λ (w : Whole). w.who.known) h.same;
        found = ap (λ (w : Whole). find (rows.is_of t) w.resolving) h.same;
        silent = λ m. silent-frame m t r.out.letters h.letters;
      };
      once = λ o. subst Once (sym (ap (λ (w : Whole). w.pending) h.same)) o;
    }
