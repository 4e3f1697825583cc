use Rattle.std.proofs.Common.{◌≡◌, ℕ, ◌==◌, Bool, true, false, Option, Some, None, List, [], ◌∷◌, ◌++◌}
use Rattle.std.proofs.Common.{refl, sym, ap, ◌∙◌, append_assoc}
use Rattle.std.proofs.lemmas.List.{append-nil}
use Rattle.std.specs.FinMap.{get}
use Rattle.std.specs.Prelude.{if◌then◌else◌}
use Rattle.dds_base.specs.Number.{Txn, same_txn}
use Rattle.dds_base.specs.declared.number.NodeNo.{NodeNo}
use Rattle.dds_base.specs.declared.pending.Pending.{Pending}
use Rattle.dds_brick_rows.specs.Calls as calls
use Rattle.dds_brick_rows.specs.Resolution as rows
use Rattle.dds_letters.specs.declared.letter.Letter.{Letter}
use Rattle.dds_letters.specs.declared.letter.Letter.TheVariants as letter
use Rattle.dds_locks.proofs.Locked.{found-numbered}
use Rattle.dds_locks.specs.Pending.{first_of}
use Rattle.dds_states.specs.Turn.{BrickTurn, still, sends, and_then, to_each, is_none_left, unknown_others}
use Rattle.dds_states.specs.declared.brick_state.BrickState.{BrickState}
use Rattle.dds_states.specs.declared.brick_state.Deferred.{Deferred}
use Rattle.dds_states.specs.declared.brick_state.Question.TheVariants.{Help}
use Rattle.dds_states.specs.declared.brick_state.Resolving.{Resolving}
use Rattle.dds_talk.specs.Table.{At}
use Rattle.dds_talk.specs.Seen.{of, one, is_pending, about}
use Rattle.dds_resolve.specs.Letters.{to_one, letters_to}
use Rattle.dds_talk.proofs.Letters.{about-append}
use Rattle.dds_talk.proofs.Parts.{is-same, pending-other, get-other}
use Rattle.dds_resolve.specs.Resolving.{is_asking, own_at, status_in, waits}
use Rattle.dds_resolve.specs.Team.{Ground, Team, BrickOk}
use Rattle.dds_resolve.proofs.TeamTurns as team
use Rattle.dds_resolve.proofs.TeamTurns.{Good, team-to}

-- A member's turn, as an attempt that another brick may resolve sees it: it stays as it is; questions of that resolver are put off
-- or answered.

-- what it does with that resolver's questions of the attempt: some it puts off, and some it answers
pub record Treats (f : ℕ) (t : Txn) (s : BrickState) (r : BrickTurn) (put : At → List At) (sent : List At) : Type 0 where
  pub pending : is_pending r.state.locks.pending t ≡ is_pending s.locks.pending t
  pub outcomes : get r.state.locks.outcomes t ≡ get s.locks.outcomes t
  pub known : r.state.known ≡ s.known
  pub put_off : (a : At) → waits a f t r.state.deferred ≡ waits a f t s.deferred ++ put a
  pub answered : about status_in t (letters_to f r.out.letters) ≡ sent

abbrev pub Calm : ℕ → Txn → BrickState → BrickTurn → Type 0
Calm f t s r = Treats f t s r (λ a. []) []

-- lists
pub letters-append : (n : ℕ) (a b : List (NodeNo × Letter)) → letters_to n (a ++ b) ≡ letters_to n a ++ letters_to n b
letters-append n [] b = refl
letters-append n (p ∷ a) b = pick (p.0 == n) (letters-append n a b)
  where
    pick : (c : Bool) → letters_to n (a ++ b) ≡ letters_to n a ++ letters_to n b → to_one c p.1 (letters_to n (a ++ b)) ≡ to_one c p.1 (letters_to n a)
        ++ letters_to n b
    pick true h = ap (λ ls. p.1 ∷ ls) h
    pick false h = h

pub about-sent : {X : Type 0} (v : Letter → Option (Txn × X)) (t : Txn) (n : ℕ) (a b : List (NodeNo × Letter)) →
    about v t (letters_to n (a ++ b)) ≡ about v t (letters_to n a) ++ about v t (letters_to n b)
about-sent v t n a b = ap (about v t) (letters-append n a b) ∙ about-append v t (letters_to n a) (letters_to n b)

pub quiet-if : {X : Type 0} (v : Letter → Option (Txn × X)) (b : Bool) (t : Txn) (l : Letter) (rest : List Letter) → of t (v l) ≡ [] → about v t rest ≡ [] →
    about v t (to_one b l rest) ≡ []
quiet-if v true t l rest e h = ap (λ xs. xs ++ about v t rest) e ∙ h
quiet-if v false t l rest e h = h

pub quiet-one : {X : Type 0} (v : Letter → Option (Txn × X)) (t : Txn) (n : ℕ) (to : NodeNo) (l : Letter) → of t (v l) ≡ [] →
    about v t (letters_to n ((to, l) ∷ [])) ≡ []
quiet-one v t n to l e = quiet-if v (to == n) t l [] e refl

pub quiet-each : {X : Type 0} (v : Letter → Option (Txn × X)) (t : Txn) (n : ℕ) (ns : List NodeNo) (l : Letter) → of t (v l) ≡ [] →
    about v t (letters_to n (to_each ns l)) ≡ []
quiet-each v t n [] l e = refl
quiet-each v t n (x ∷ ns) l e = quiet-if v (x == n) t l (letters_to n (to_each ns l)) e (quiet-each v t n ns l e)

pub waits-append : (a : At) (f : ℕ) (t : Txn) (xs ys : List Deferred) → waits a f t (xs ++ ys) ≡ waits a f t xs ++ waits a f t ys
waits-append a f t [] ys = refl
waits-append a f t (d ∷ xs) ys = ap (λ zs. one (is_asking f t d d.question) a ++ zs) (waits-append a f t xs ys)
    ∙ sym (append_assoc (one (is_asking f t d d.question) a) (waits a f t xs) (waits a f t ys))

-- turns
pub calm-sends : {f : ℕ} {t : Txn} (s : BrickState) (ls : List (NodeNo × Letter)) → about status_in t (letters_to f ls) ≡ [] → Calm f t s (sends s ls)
calm-sends {f = f} {t = t} s ls e = record {
  pending = refl;
  outcomes = refl;
  known = refl;
  put_off = λ a. sym (append-nil (waits a f t s.deferred));
  answered = e;
}

pub calm-still : {f : ℕ} {t : Txn} (s : BrickState) → Calm f t s (still s)
calm-still s = calm-sends s [] refl

pub calm-with : {f : ℕ} {t : Txn} (s : BrickState) (rs : List Resolving) → Calm f t s (still (record s { resolving = rs }))
calm-with {f = f} {t = t} s rs = record {
  pending = refl;
  outcomes = refl;
  known = refl;
  put_off = λ a. sym (append-nil (waits a f t s.deferred));
  answered = refl;
}

pub own-same : (s u : BrickState) (t : Txn) → is_pending u.locks.pending t ≡ is_pending s.locks.pending t → get u.locks.outcomes t ≡ get s.locks.outcomes t →
    own_at u t ≡ own_at s t
own-same s u t p o = own p o
  where
    own : is_pending u.locks.pending t ≡ is_pending s.locks.pending t → get u.locks.outcomes t ≡ get s.locks.outcomes t → own_at u t ≡ own_at s t
    own p o = rw (p, o) refl

-- one turn after another, in states that know the same and have the attempt at the same
pub treats-then : {g : Ground} {me f : ℕ} {t : Txn} (s : BrickState) (r : BrickTurn) (row : BrickState → BrickTurn) (p q : At → List At) (x y : List At) →
    Good g me r → Treats f t s r p x → ((u : BrickState) → BrickOk g me u → u.known ≡ s.known → own_at u t ≡ own_at s t → Treats f t u (row u) q y) →
    Treats f t s (and_then r row) (λ a. p a ++ q a) (x ++ y)
treats-then {f = f} {t = t} s r row p q x y good a next =
    let b = next r.state good.state a.known (own-same s r.state t a.pending a.outcomes) in
    record {
      pending = b.pending ∙ a.pending;
      outcomes = b.outcomes ∙ a.outcomes;
      known = b.known ∙ a.known;
      put_off = λ k. b.put_off k ∙ ap (λ zs. zs ++ q k) (a.put_off k) ∙ append_assoc (waits k f t s.deferred) (p k) (q k);
      answered = about-sent status_in t f r.out.letters (row r.state).out.letters
          ∙ ap (λ zs. zs ++ about status_in t (letters_to f (row r.state).out.letters)) a.answered ∙ ap (λ zs. x ++ zs) b.answered;
    }

pub calm-then : {g : Ground} {me f : ℕ} {t : Txn} (s : BrickState) (r : BrickTurn) (row : BrickState → BrickTurn) → Good g me r → Calm f t s r →
    ((u : BrickState) → BrickOk g me u → Calm f t u (row u)) → Calm f t s (and_then r row)
calm-then s r row good a next = treats-then s r row (λ k. []) (λ k. []) [] [] good a (λ u b k o. next u b)

pub treats-if : {f : ℕ} {t : Txn} {s : BrickState} {p : At → List At} {x : List At} (c : Bool) (r q : BrickTurn) → (c ≡ true → Treats f t s r p x) →
    (c ≡ false → Treats f t s q p x) → Treats f t s (if c then r else q) p x
treats-if true r q f h = f refl
treats-if false r q f h = h refl

-- another attempt is resolved
settled-calm : {f : ℕ} {t : Txn} (s : BrickState) (x : Txn) (commit : Bool) (o : Option Pending) → first_of s.locks.pending x ≡ o → same_txn x t ≡ false →
    Calm f t s (rows.settled (calls.dropped s x) commit o)
settled-calm {f = f} {t = t} s x commit None e ne =
    record {
      pending = pending-other s.locks.pending x t ne;
      outcomes = refl;
      known = refl;
      put_off = λ a. sym (append-nil (waits a f t s.deferred));
      answered = refl;
    }
settled-calm {f = f} {t = t} s x true (Some p) e ne =
    record {
      pending = pending-other s.locks.pending x t ne;
      outcomes = get-other s.locks.outcomes p.txn t true (ap (λ v. same_txn v t) (is-same p.txn x (found-numbered s.locks.pending p x e)) ∙ ne);
      known = refl;
      put_off = λ a. sym (append-nil (waits a f t s.deferred));
      answered = refl;
    }
settled-calm {f = f} {t = t} s x false (Some p) e ne =
    record {
      pending = pending-other s.locks.pending x t ne;
      outcomes = get-other s.locks.outcomes p.txn t false (ap (λ v. same_txn v t) (is-same p.txn x (found-numbered s.locks.pending p x e)) ∙ ne);
      known = refl;
      put_off = λ a. sym (append-nil (waits a f t s.deferred));
      answered = refl;
    }

pub outcome-calm : {f : ℕ} {t : Txn} (s : BrickState) (x : Txn) (commit : Bool) → same_txn x t ≡ false → Calm f t s (rows.outcome_row s x commit)
outcome-calm s x commit ne = settled-calm s x commit (first_of s.locks.pending x) refl ne

decides-calm : {g : Ground} {me f : ℕ} {t : Txn} (s : BrickState) (r : Resolving) → BrickOk g me s → same_txn r.txn t ≡ false → Calm f t s (rows.decides s r)
decides-calm {g = g} {me = me} {f = f} {t = t} s r b ne =
    calm-then {g = g} {me = me} s (rows.outcome_row s r.txn (rows.verdict r))
    (λ u. sends u (to_each (unknown_others r.list u.number u.known) (letter.Outcome r.txn (rows.verdict r))))
    (team.outcome-good s r.txn (rows.verdict r) b) (outcome-calm s r.txn (rows.verdict r) ne)
    (λ u k. calm-sends u _ (quiet-each status_in t f (unknown_others r.list u.number u.known) (letter.Outcome r.txn (rows.verdict r)) refl))

pub resolves-calm : {g : Ground} {me f : ℕ} {t : Txn} (s : BrickState) (r : Resolving) → BrickOk g me s → same_txn r.txn t ≡ false →
    Calm f t s (rows.resolves_on s r)
resolves-calm s r b ne = treats-if (is_none_left r.waiting) _ _ (λ e. decides-calm s r b ne) (λ e. calm-with s (s.resolving ++ r ∷ []))

pub resolve-calm : {g : Ground} {me f : ℕ} {t : Txn} (s : BrickState) (x : Txn) (list : List ℕ) → BrickOk g me s → same_txn x t ≡ false →
    Calm f t s (rows.resolve s x list)
resolve-calm {g = g} {me = me} {f = f} {t = t} s x list b ne =
    let ls = to_each (unknown_others list s.number s.known) (letter.Query x list) in
    let first : Calm f t s (sends s ls) = calm-sends s ls (quiet-each status_in t f (unknown_others list s.number s.known) (letter.Query x list) refl) in
    let next : Calm f t s (rows.resolves_on s (rows.started s x list)) = resolves-calm s (rows.started s x list) b ne in
    record {
      pending = next.pending;
      outcomes = next.outcomes;
      known = next.known;
      put_off = next.put_off;
      answered = about-sent status_in t f ls (rows.resolves_on s (rows.started s x list)).out.letters
          ∙ ap (λ zs. zs ++ about status_in t (letters_to f (rows.resolves_on s (rows.started s x list)).out.letters)) first.answered ∙ next.answered;
    }

-- the attempts that this member can resolve are others
abbrev pub Others : Ground → ℕ → Txn → Type 0
Others g me t = (x : Txn) (list : List ℕ) → Team g x list me me → same_txn x t ≡ false

pub help-other : {f : ℕ} {t : Txn} (s : BrickState) (from : NodeNo) (x : Txn) (list : List ℕ) → Calm f t s (rows.defers s from Help x list)
help-other {f = f} {t = t} s from x list =
    record { pending = refl; outcomes = refl; known = refl; put_off = λ a. waits-append a f t s.deferred _; answered = refl }

pub help-calm : {g : Ground} {me f : ℕ} {t : Txn} (s : BrickState) (from : NodeNo) (x : Txn) (list : List ℕ) → Others g me t → BrickOk g me s →
    Team g x list me from → Calm f t s (rows.help_row s from x list)
help-calm s from x list others b h =
    treats-if (rows.is_ready s.known x list s.number) _ _
    (λ e. treats-if (rows.is_resolved s x) _ _ (λ i. calm-still s) (λ i. resolve-calm s x list b (others x list (team-to _ h h.resolver))))
    (λ e. help-other s from x list)
