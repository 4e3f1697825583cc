use Rattle.std.proofs.Common.{◌≡◌, ℕ, ◌++◌, Bool, true, false, List, [], ◌∷◌, Option, Some, None, is_some, refl, sym, ap, ◌∙◌, subst}
use Rattle.std.proofs.lemmas.List.{append-nil}
use Rattle.std.specs.FinMap.{get}
use Rattle.dds_base.specs.Number.{Txn}
use Rattle.dds_base.specs.declared.pending.Pending.{Pending}
use Rattle.dds_brick_rows.specs.Calls as calls
use Rattle.dds_brick_rows.specs.Resolution as rows
use Rattle.dds_locks.proofs.Locked.{found-numbered}
use Rattle.dds_locks.specs.Pending.{first_of}
use Rattle.dds_states.specs.Turn.{BrickTurn}
use Rattle.dds_states.specs.declared.brick_state.BrickState.{BrickState}
use Rattle.dds_talk.proofs.Resolving as moves
use Rattle.dds_talk.specs.Table.{At}
use Rattle.dds_talk.specs.Resolve.{Side, Tell, Resolves}
use Rattle.dds_talk.specs.Resolve.Tell.{query, outcome}
use Rattle.dds_talk.proofs.Parts.{is-same, pending-gone, get-this}
use Rattle.dds_talk.specs.Seen.{one, at_of, Once, about}
use Rattle.dds_resolve.specs.Letters.{letters_to}
use Rattle.dds_resolve.specs.Resolving.{own_at, status_in, waits}
use Rattle.dds_resolve.proofs.MemberTurns.{Treats}
use Rattle.dds_resolve.proofs.MemberAnswers.{put_all, put_if, sent_all, sent_if}
use Rattle.dds_resolve.proofs.MemberNotices.{Heeds}

-- What a member's turn does to a conversation with a resolver.

-- the conversation, and what is put off, after a notice
pub record After (d : Bool) (v : Side) (o : List Tell) (R : Bool) (a : At) (b sent put : List At) : Type 0 where
  pub waiting : Bool
  pub put_off : put ≡ one waiting a
  pub now : Resolves d v o waiting R a (b ++ sent)

abbrev pub sent_now : Bool → List At → List At
sent_now true ws = ws
sent_now false ws = []

abbrev pub put_now : Bool → List At → List At
put_now true ws = []
put_now false ws = ws

not-both : {d : Bool} {v : Side} {o : List Tell} {a : At} {b : List At} → Resolves d v o true true a b → ⊥
not-both h = elim h [ ]

notice-if : {d : Bool} {v : Side} {o : List Tell} {a : At} {b : List At} (q k R : Bool) → (k ≡ true → R ≡ true) → Resolves d v o q k a b →
    After d v o R a b (sent_now R (one q a)) (put_now R (one q a))
notice-if true true R up h = absurd (not-both h)
notice-if true false true up h = record { waiting = false; put_off = refl; now = moves.ready h }
notice-if {d = d} {v = v} {o = o} {a = a} {b = b} true false false up h =
    record { waiting = true; put_off = refl; now = subst (Resolves d v o true false a) (sym (append-nil b)) h }
notice-if {d = d} {v = v} {o = o} {a = a} {b = b} false true true up h =
    record { waiting = false; put_off = refl; now = subst (Resolves d v o false true a) (sym (append-nil b)) h }
notice-if false true false up h = let q : false ≡ true = up refl in cc
notice-if {d = d} {v = v} {o = o} {a = a} {b = b} false false true up h =
    record { waiting = false; put_off = refl; now = subst (Resolves d v o false true a) (sym (append-nil b)) (moves.ready-unasked h) }
notice-if {d = d} {v = v} {o = o} {a = a} {b = b} false false false up h =
    record { waiting = false; put_off = refl; now = subst (Resolves d v o false false a) (sym (append-nil b)) h }

sent-is : (R : Bool) (f : ℕ) (t : Txn) (s : BrickState) (a : At) → sent_all R f t s.deferred a ≡ sent_now R (waits a f t s.deferred)
sent-is true f t s a = refl
sent-is false f t s a = refl

put-is : (R : Bool) (f : ℕ) (t : Txn) (s : BrickState) (a : At) → put_all R f t s.deferred a ≡ put_now R (waits a f t s.deferred)
put-is true f t s a = refl
put-is false f t s a = refl

-- a notice at a member: of what it put off, and of its conversation
pub notice-moves : {d : Bool} {v : Side} {o : List Tell} {b : List At} (q k R : Bool) (f : ℕ) (t : Txn) (s : BrickState) (r : BrickTurn) →
    (k ≡ true → R ≡ true) → waits (own_at s t) f t s.deferred ≡ one q (own_at s t) → Heeds f t R s r → Resolves d v o q k (own_at s t) b →
    After d v o R (own_at s t) b (about status_in t (letters_to f r.out.letters)) (waits (own_at s t) f t r.state.deferred)
notice-moves {d = d} {v = v} {o = o} {b = b} q k R f t s r up e heeds h =
    let a = own_at s t in
    subst (λ x. After d v o R a b x (waits a f t r.state.deferred)) (sym (heeds.answered ∙ sent-is R f t s a ∙ ap (sent_now R) e))
    (subst (After d v o R a b (sent_now R (one q a))) (sym (heeds.put_off a ∙ put-is R f t s a ∙ ap (put_now R) e)) (notice-if q k R up h))

asked-once : {d R : Bool} {v : Side} {o : List Tell} {a : At} {b : List At} → Resolves d v (query ∷ o) true R a b → ⊥
asked-once h = elim h [ ]

query-if : {d : Bool} {v : Side} {o : List Tell} {a : At} {b : List At} (q R : Bool) → Resolves d v (query ∷ o) q R a b →
    After d v o R a b (sent_if R true a) (one q a ++ put_if R true a)
query-if true R h = absurd (asked-once h)
query-if false true h = record { waiting = false; put_off = refl; now = moves.answers h }
query-if {d = d} {v = v} {o = o} {a = a} {b = b} false false h =
    record { waiting = true; put_off = refl; now = subst (Resolves d v o true false a) (sym (append-nil b)) (moves.puts-off h) }

-- a question comes to a member
pub query-moves : {d : Bool} {v : Side} {o : List Tell} {b : List At} (q R : Bool) (f : ℕ) (t : Txn) (s : BrickState) (r : BrickTurn) →
    waits (own_at s t) f t s.deferred ≡ one q (own_at s t) → Treats f t s r (put_if R true) (sent_if R true (own_at s t)) →
    Resolves d v (query ∷ o) q R (own_at s t) b →
    After d v o R (own_at s t) b (about status_in t (letters_to f r.out.letters)) (waits (own_at s t) f t r.state.deferred)
query-moves {d = d} {v = v} {o = o} {b = b} q R f t s r e treats h =
    let a = own_at s t in
    subst (λ x. After d v o R a b x (waits a f t r.state.deferred)) (sym treats.answered)
    (subst (After d v o R a b (sent_if R true a)) (sym (treats.put_off a ∙ ap (λ ws. ws ++ put_if R true a) e)) (query-if q R h))

-- an outcome comes to a member
settles : (c : Bool) (g : Option Bool) → moves.settled c (at_of false g) ≡ at_of false g
settles c None = refl
settles true (Some true) = refl
settles true (Some false) = refl
settles false (Some true) = refl
settles false (Some false) = refl

settled-own : (s : BrickState) (t : Txn) (c : Bool) (p : Option Pending) → first_of s.locks.pending t ≡ p → Once s.locks.pending →
    own_at (rows.settled (calls.dropped s t) c p).state t ≡ moves.settled c (own_at s t)
settled-own s t c None e once =
    ap (λ x. at_of x (get s.locks.outcomes t)) (pending-gone s.locks.pending t once) ∙ sym (settles c (get s.locks.outcomes t))
    ∙ sym (ap (λ x. moves.settled c (at_of (is_some x) (get s.locks.outcomes t))) e)
settled-own s t true (Some p) e once =
    let pt : p.txn ≡ t = is-same p.txn t (found-numbered s.locks.pending p t e) in
    ap (λ x. at_of x (get (calls.noted (calls.dropped s t) p.txn true).locks.outcomes t)) (pending-gone s.locks.pending t once)
    ∙ ap (λ x. at_of false (get (calls.noted (calls.dropped s t) x true).locks.outcomes t)) pt ∙ ap (at_of false) (get-this s.locks.outcomes t true)
    ∙ sym (ap (λ x. moves.settled true (at_of (is_some x) (get s.locks.outcomes t))) e)
settled-own s t false (Some p) e once =
    let pt : p.txn ≡ t = is-same p.txn t (found-numbered s.locks.pending p t e) in
    ap (λ x. at_of x (get (calls.noted (calls.dropped s t) p.txn false).locks.outcomes t)) (pending-gone s.locks.pending t once)
    ∙ ap (λ x. at_of false (get (calls.noted (calls.dropped s t) x false).locks.outcomes t)) pt ∙ ap (at_of false) (get-this s.locks.outcomes t false)
    ∙ sym (ap (λ x. moves.settled false (at_of (is_some x) (get s.locks.outcomes t))) e)

pub outcome-own : (s : BrickState) (t : Txn) (c : Bool) → Once s.locks.pending → own_at (rows.outcome_row s t c).state t ≡ moves.settled c (own_at s t)
outcome-own s t c once = settled-own s t c (first_of s.locks.pending t) refl once

pub outcome-moves : {d q R c : Bool} {v : Side} {o : List Tell} {b : List At} (s : BrickState) (t : Txn) → Once s.locks.pending →
    Resolves d v (outcome c ∷ o) q R (own_at s t) b → Resolves d v o q R (own_at (rows.outcome_row s t c).state t) b × (c ≡ d)
outcome-moves {d = d} {q = q} {R = R} {c = c} {v = v} {o = o} {b = b} s t once h =
    let k = moves.takes h in
    (subst (λ a. Resolves d v o q R a b) (sym (outcome-own s t c once)) k.0, k.1)
