use Rattle.std.proofs.Common.{◌≡◌, ℕ, ◌&&◌, Bool, true, false, not, Option, Some, None, is_some, List, [], ◌∷◌, refl, ap, ◌∙◌, subst, cond}
use Rattle.std.specs.List.{AllByRecursion}
use Rattle.std.specs.Prelude.{if◌then◌else◌, nat_le}
use Rattle.dds_base.specs.BrickList.{has}
use Rattle.dds_base.specs.NodeSet.{has_node}
use Rattle.dds_base.specs.Number.{Txn, same_txn}
use Rattle.dds_base.specs.declared.pending.Pending.{Pending}
use Rattle.dds_books.specs.Placed.{Made, MadeAt}
use Rattle.dds_core.proofs.Lists.{all-map}
use Rattle.dds_locks.specs.Pending.{first_of}
use Rattle.dds_net.specs.Net.{Net, Node, nowhere, a_brick, a_library, Sizes}
use Rattle.dds_states.specs.declared.brick_state.BrickState.{BrickState}
use Rattle.dds_states.specs.declared.library_state.LibraryState.{LibraryState}
use Rattle.dds_states.specs.declared.library_state.OpenCall.{OpenCall}
use Rattle.dds_resolve.specs.Team.{OpenIf}
use Rattle.dds_resolve.specs.Teams.{ground, is_frozen, is_stopped}
use Rattle.dds_talk.proofs.Grounds.{Ground, brick-unknown}
use Rattle.dds_talk.proofs.Parts.{same-self}
use Rattle.dds_talk.specs.Books.{Books}
use Rattle.dds_talk.specs.Parts.{Commit}
use Rattle.dds_talk.specs.Seen.{asks, at, at_of, call_of, call_view, is_open, is_pending, says, view}
use Rattle.dds_talk.specs.Table.{View, Ask, Say, At, IsTalk, Known, Talk, Talks}
use Rattle.dds_talk.specs.Table.Ask.{prepare}
use Rattle.dds_talk.specs.Table.At.{Prepared}
use Rattle.dds_talk.specs.Table.IsTalk.{unknowing, knowing}
use Rattle.dds_talk.specs.Table.Talk.{asked, early, late_yes, said_yes, told_abort, told_commit, voted}
use Rattle.dds_talk.specs.Table.Talks.{live, left}
use Rattle.dds_talk.specs.Table.View.{New, VoteDue, VoteHeard, CommitDue, CommitHeard, AbortDue, AbortHeard, Past, Off}

-- What is pending at a live brick, or asked for by a prepare on its way there, is open at its library.

abbrev OpenView : View → Type 0
OpenView New = ⊥
OpenView VoteDue = Unit {0}
OpenView VoteHeard = Unit {0}
OpenView CommitDue = Unit {0}
OpenView CommitHeard = Unit {0}
OpenView AbortDue = Unit {0}
OpenView AbortHeard = Unit {0}
OpenView Past = ⊥
OpenView Off = ⊥

-- by the table
prepared-talk : {v : View} {o : List Ask} {b : List Say} → Talk v o Prepared b → OpenView v
prepared-talk said_yes = tt
prepared-talk voted = tt
prepared-talk told_commit = tt
prepared-talk late_yes = tt
prepared-talk told_abort = tt

prepared-talks : {ll : Bool} {v : View} {o : List Ask} {b : List Say} → Talks ll true v o Prepared b → OpenView v
prepared-talks (live h) = prepared-talk h
prepared-talks (left cut h) = prepared-talk h

prepared-known : (v : View) → Known v Prepared → OpenView v
prepared-known New h = cc
prepared-known VoteDue h = tt
prepared-known VoteHeard h = tt
prepared-known CommitDue h = tt
prepared-known CommitHeard h = tt
prepared-known AbortDue h = tt
prepared-known AbortHeard h = tt
prepared-known Past h = h refl
prepared-known Off h = cc

prepared-open : {ll k : Bool} {v : View} {o : List Ask} {a : At} {b : List Say} → a ≡ Prepared → IsTalk ll true k v o a b → OpenView v
prepared-open {ll = ll} {v = v} {o = o} {b = b} e (unknowing h) = prepared-talks (subst (λ a. Talks ll true v o a b) e h)
prepared-open {v = v} e (knowing h) = prepared-known v (subst (Known v) e h)

asked-talk : {v : View} {o : List Ask} {a : At} {b : List Say} → Talk v (prepare ∷ o) a b → OpenView v
asked-talk asked = tt
asked-talk early = tt

asked-talks : {ll : Bool} {v : View} {o : List Ask} {a : At} {b : List Say} → Talks ll true v (prepare ∷ o) a b → OpenView v
asked-talks (live h) = asked-talk h
asked-talks (left cut h) = asked-talk h

asked-open : {ll k : Bool} {v : View} {p o : List Ask} {a : At} {b : List Say} → p ≡ prepare ∷ o → IsTalk ll true k v p a b → OpenView v
asked-open {ll = ll} {v = v} {a = a} {b = b} e (unknowing h) = asked-talks (subst (λ p. Talks ll true v p a b) e h)
asked-open e (knowing h) = cc

-- what the library sees of an attempt that is open
view-if : (m : ℕ) (c h : Bool) (o : Option OpenCall) → OpenView (if c then New else (if h then call_view m o else Off)) → is_some o ≡ true
view-if m true h o k = absurd k
view-if m false false o k = absurd k
view-if m false true None k = absurd k
view-if m false true (Some c) k = refl

view-open : (l : LibraryState) (list : List ℕ) (t : Txn) (m : ℕ) → OpenView (view l list t m) → is_open l t ≡ true
view-open l list t m h = view-if m (nat_le l.next t.number) (has list m) (call_of l.calls t) h

-- the attempt is open where its library has stopped
open-at : (t : Txn) (x : Node) → MadeAt t x → ((l : LibraryState) → x ≡ a_library l → is_open l t ≡ true) → is_stopped x ≡ true → is_frozen x t ≡ true
open-at t nowhere made f e = absurd made
open-at t (a_brick s) made f e = absurd made
open-at t (a_library l) made f e = ap (λ c. c && is_open l t) e ∙ f l refl

-- what a live brick and a library say of it
pub conversation : (z : Sizes) (n : Net) (b : Books) (t : Txn) (k : ℕ) (l : LibraryState) (s : BrickState) → Ground z n → Commit z n b
    → n.node t.library ≡ a_library l → n.node k ≡ a_brick s → s.stopped ≡ false
    → IsTalk (not l.stopped) true (has_node s.known t.library) (view l (b.list t) t k) (asks t (n.channel t.library k))
    (at s.locks.pending (b.noted k t) t) (says t (n.channel k t.library))
conversation z n b t k l s g parts here is lives =
    subst (λ c. IsTalk (not l.stopped) c (has_node s.known t.library) (view l (b.list t) t k) (asks t (n.channel t.library k))
    (at s.locks.pending (b.noted k t) t) (says t (n.channel k t.library))) (ap not lives)
    (parts.talk t k l s (record { library = here; member = is; unknown = brick-unknown z n t.library k l s g here is lives }))

pub pending-open : (z : Sizes) (n : Net) (b : Books) (t : Txn) (k : ℕ) (s : BrickState) → Ground z n → Commit z n b → n.node k ≡ a_brick s
    → s.stopped ≡ false → Made n t → is_pending s.locks.pending t ≡ true → OpenIf (ground z n b.list) t
pending-open z n b t k s g parts is lives made p =
    open-at t (n.node t.library) made
    (λ l here. view-open l (b.list t) t k
    (prepared-open (ap (λ c. at_of c (b.noted k t)) p) (conversation z n b t k l s g parts here is lives)))

pub asked-opens : (z : Sizes) (n : Net) (b : Books) (t : Txn) (k : ℕ) (s : BrickState) (o : List Ask) → Ground z n → Commit z n b → n.node k ≡ a_brick s
    → s.stopped ≡ false → Made n t → asks t (n.channel t.library k) ≡ prepare ∷ o → OpenIf (ground z n b.list) t
asked-opens z n b t k s o g parts is lives made e =
    open-at t (n.node t.library) made
    (λ l here. view-open l (b.list t) t k (asked-open e (conversation z n b t k l s g parts here is lives)))

-- each one that is pending
pending-more : (q : Pending) (ps : List Pending) (t : Txn) → is_pending ps t ≡ true → is_pending (q ∷ ps) t ≡ true
pending-more q ps t h =
    elim (same_txn q.txn t) as (λ b. is_some (cond b (Some q) (first_of ps t)) ≡ true) [ true ↦ refl | false ↦ h ]

pub each-pending : (ps : List Pending) → AllByRecursion (λ (p : Pending). is_pending ps p.txn ≡ true) ps
each-pending [] = tt
each-pending (q ∷ ps) = (
  ap (λ b. is_some (cond b (Some q) (first_of ps q.txn))) (same-self q.txn),
  all-map (λ (p : Pending). is_pending ps p.txn ≡ true) (λ (p : Pending). is_pending (q ∷ ps) p.txn ≡ true) ps
      (λ p h. pending-more q ps p.txn h) (each-pending ps),
)
