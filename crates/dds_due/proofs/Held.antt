use Rattle.std.proofs.Common.{◌≡◌, ℕ, Bool, true, false, not, Option, Some, None, List, [], refl, sym, ap, ◌∙◌, subst}
use Rattle.std.specs.List.{AllByRecursion}
use Rattle.std.specs.Prelude.{nat_le, if◌then◌else◌}
use Rattle.dds_base.specs.BrickList.{has}
use Rattle.dds_base.specs.NodeSet.{has_node}
use Rattle.dds_base.specs.Number.{Txn}
use Rattle.dds_base.specs.declared.pending.Pending.{Pending}
use Rattle.dds_books.proofs.There.{library-there}
use Rattle.dds_books.specs.Placed.{ArePlaced, BrickOk, Made, NodeOk, PendingOk}
use Rattle.dds_cluster.specs.World.{World, library_at}
use Rattle.dds_commit.proofs.Opens.{conversation, each-pending}
use Rattle.dds_core.proofs.Lists.{all-both, all-map}
use Rattle.dds_net.proofs.Quiet.{IsEmpty}
use Rattle.dds_net.proofs.Ways.{NodeIs, is_brick, is_library, is_nowhere, node-is}
use Rattle.dds_net.specs.Net.{Net, nowhere, a_brick, a_library, Sizes, net, node_at}
use Rattle.dds_states.specs.declared.brick_state.BrickState.{BrickState}
use Rattle.dds_states.specs.declared.library_state.LibraryState.{LibraryState}
use Rattle.dds_states.specs.declared.library_state.OpenCall.{OpenCall}
use Rattle.dds_talk.proofs.Grounds.{Ground, library-unknown}
use Rattle.dds_talk.specs.Books.{Books}
use Rattle.dds_talk.specs.Parts.{Commit}
use Rattle.dds_talk.specs.Seen.{asks, at, at_of, call_of, call_view, is_pending, says, view}
use Rattle.dds_talk.specs.Table.{Ask, At, IsTalk, Say, Talk, Talks, View}
use Rattle.dds_talk.specs.Table.At.{Prepared}
use Rattle.dds_talk.specs.Table.IsTalk.{knowing, unknowing}
use Rattle.dds_talk.specs.Table.Talk.{voted}
use Rattle.dds_talk.specs.Table.Talks.{live}
use Rattle.dds_talk.specs.Table.View.{New, Off, VoteHeard}
use Rattle.dds_due.proofs.Quiet.{knows-library, library-idle}
use Rattle.dds_due.specs.Due.{AreDue}
use Rattle.dds_due.specs.Quiet.{IsOfStopped}

-- Where nothing is on its way, what is pending at a live brick is of a library that has stopped.

-- what is prepared where nothing is on its way is of a call that prepares
prepared-talk : {v : View} {o : List Ask} {a : At} {b : List Say} → Talk v o a b → a ≡ Prepared → o ≡ [] → b ≡ [] → v ≡ VoteHeard
prepared-talk voted e f g = refl
prepared-talk other e f g = cc

prepared-talks : {v : View} {o : List Ask} {a : At} {b : List Say} → Talks true true v o a b → a ≡ Prepared → o ≡ [] → b ≡ [] → v ≡ VoteHeard
prepared-talks (live h) e f g = prepared-talk h e f g

prepared-known : {k : Bool} {v : View} {o : List Ask} {a : At} {b : List Say} → IsTalk true true k v o a b → k ≡ false → a ≡ Prepared → o ≡ [] → b ≡ []
    → v ≡ VoteHeard
prepared-known (unknowing h) k e f g = prepared-talks h e f g
prepared-known (knowing h) k e f g = cc

view-of : (m : ℕ) (a b : Bool) (o : Option OpenCall) → o ≡ None → (if a then New else (if b then call_view m o else Off)) ≡ VoteHeard → ⊥
view-of m true b o e f = cc
view-of m false false o e f = cc
view-of m false true None e f = cc
view-of m false true (Some c) e f = cc

not-heard : (l : LibraryState) (list : List ℕ) (t : Txn) (m : ℕ) → l.calls ≡ [] → view l list t m ≡ VoteHeard → ⊥
not-heard l list t m e f = view-of m (nat_le l.next t.number) (has list m) (call_of l.calls t) (ap (λ cs. call_of cs t) e) f

pub library-gone : (z : Sizes) (n : Net) (b : Books) (m : ℕ) (l : LibraryState) (s : BrickState) (p : Pending) → Ground z n → Commit z n b → IsEmpty n
    → n.node p.txn.library ≡ a_library l → n.node m ≡ a_brick s → s.stopped ≡ false → is_pending s.locks.pending p.txn ≡ true
    → (l.stopped ≡ false → l.calls ≡ []) → l.stopped ≡ true
library-gone z n b m l s p g parts empty here is live_brick pending idle = by l.stopped refl
  where
    by : (c : Bool) → l.stopped ≡ c → l.stopped ≡ true
    by true dead = dead
    by false lives =
        let t = p.txn in
        let said = conversation z n b t m l s g parts here is live_brick in
        let both : IsTalk true true (has_node s.known t.library) (view l (b.list t) t m) (asks t (n.channel t.library m))
        (at s.locks.pending (b.noted m t) t) (says t (n.channel m t.library)) =
        subst (λ d. IsTalk d true (has_node s.known t.library) (view l (b.list t) t m) (asks t (n.channel t.library m))
        (at s.locks.pending (b.noted m t) t) (says t (n.channel m t.library))) (ap not lives) said in
        absurd (not-heard l (b.list t) t m (idle lives) (prepared-known both (library-unknown z n t.library m l s g here is lives)
        (ap (λ c. at_of c (b.noted m t)) pending) (ap (asks t) (empty t.library m)) (ap (says t) (empty m t.library))))

-- what is pending, each with its library
pub record IsOf (z : Sizes) (n : Net) (s : BrickState) (p : Pending) : Type 0 where
  pub library : LibraryState
  pub here : n.node p.txn.library ≡ a_library library
  pub stopped : library.stopped ≡ true
  pub known : has_node s.known p.txn.library ≡ true

pub all-of-stopped : (z : Sizes) (n : Net) (b : Books) (m : ℕ) (s : BrickState) → Ground z n → Commit z n b → ArePlaced z n → AreDue n → IsEmpty n
    → n.node m ≡ a_brick s → s.stopped ≡ false → AllByRecursion (IsOf z n s) s.locks.pending
all-of-stopped z n b m s g parts placed due empty here alive =
    let ok : BrickOk (Made n) z m s = subst (NodeOk (Made n) z m) here (placed.nodes m) in
    all-map (λ (p : Pending). PendingOk (Made n) z m p × (is_pending s.locks.pending p.txn ≡ true)) (IsOf z n s) s.locks.pending
    (λ p k.
    let l = library-there n p.txn k.0.0 in
    let gone = library-gone z n b m l.state s p g parts empty l.here here alive k.1
    (λ lives. library-idle z n p.txn.library l.state g placed due empty l.here lives) in
    record { library = l.state; here = l.here; stopped = gone; known = knows-library z n p.txn.library m l.state s g empty l.here here gone alive })
    (all-both (PendingOk (Made n) z m) (λ (p : Pending). is_pending s.locks.pending p.txn ≡ true) s.locks.pending ok.its_locks.0
    (each-pending s.locks.pending))

-- in the world
library-at : (w : World) (k : ℕ) (l : LibraryState) → node_at w k ≡ a_library l → library_at w k ≡ Some l
library-at w k l e = by (node-is w k)
  where
    by : NodeIs w k → library_at w k ≡ Some l
    by (is_nowhere f) = let no : nowhere ≡ a_library l = sym f ∙ e in cc
    by (is_brick s there f) = let no : a_brick s ≡ a_library l = sym f ∙ e in cc
    by (is_library s there f) = let two : a_library s ≡ a_library l = sym f ∙ e in let same : s ≡ l = cc in there ∙ ap Some same

pub of-stopped : (z : Sizes) (w : World) (s : BrickState) (p : Pending) → IsOf z (net z w) s p → IsOfStopped w s p
of-stopped z w s p h =
    record { library = h.library; there = library-at w p.txn.library h.library h.here; stopped = h.stopped; known = h.known }
