use Rattle.std.proofs.Common.{◌≡◌, ℕ, ◌++◌, ◌&&◌, inl, inr, Bool, true, false, Option, Some, None, [], ◌∷◌, refl, sym, ap, ◌∙◌, subst}
use Rattle.std.proofs.lemmas.Bool.{and_parts}
use Rattle.std.specs.List.{AllByRecursion}
use Rattle.std.specs.Prelude.{if◌then◌else◌}
use Rattle.dds_base.specs.BrickList.{has}
use Rattle.dds_base.specs.Name.{Name, same_name}
use Rattle.dds_base.specs.Number.{StampOf}
use Rattle.dds_base.specs.Op.{the_key}
use Rattle.dds_base.specs.declared.leaf.Leaf.{Leaf}
use Rattle.dds_base.specs.declared.number.NodeNo.{NodeNo}
use Rattle.dds_base.specs.declared.op.Op.{Op}
use Rattle.dds_base.specs.declared.op.Order.{Order}
use Rattle.dds_base.specs.declared.pending.Pending.{Pending}
use Rattle.dds_brick_rows.specs.Calls as calls
use Rattle.dds_brick_rows.specs.Refusal.{as_denial, has_no_room, joins_key, stale_against, update_denial, update_refusal}
use Rattle.dds_core.proofs.Lists.{all-append, all-both, all-map}
use Rattle.dds_core.proofs.OrderTells.{order-rests}
use Rattle.dds_core.proofs.Rests.{Whole}
use Rattle.dds_core.specs.Brick.{brick_input, live_brick_turn}
use Rattle.dds_groups.specs.Leaves.{same_stamp}
use Rattle.dds_law_leaf.proofs.Book.{Body, Book, InMap, Known, body}
use Rattle.dds_law_leaf.proofs.Making.{stamp-is}
use Rattle.dds_law_leaf.proofs.Maps.{each-is, in-for}
use Rattle.dds_law_own.proofs.Changes.{own}
use Rattle.dds_law_own.proofs.Disjoint.{Disjoint}
use Rattle.dds_law_own.proofs.Parted.{IsBoth}
use Rattle.dds_law_own.proofs.Ways.{first-none, none-denied}
use Rattle.dds_letters.specs.declared.letter.Letter.{Letter}
use Rattle.dds_letters.specs.declared.letter.Letter.TheVariants as letter
use Rattle.dds_letters.specs.declared.refusal.Denial.{Denial}
use Rattle.dds_letters.specs.declared.refusal.Denial.TheVariants as denial
use Rattle.dds_letters.specs.declared.refusal.Refusal.{Refusal}
use Rattle.dds_letters.specs.declared.refusal.Refusal.TheVariants as refusal
use Rattle.dds_orders.proofs.Covered.{Covering, Covers}
use Rattle.dds_orders.proofs.Standing.{Standing}
use Rattle.dds_outcomes.proofs.PendingRows.{turn-all}
use Rattle.dds_states.specs.Leaf.{leaf_for}
use Rattle.dds_states.specs.Turn.{when}
use Rattle.dds_states.specs.declared.brick_state.BrickState.{BrickState}
use Rattle.dds_trie.specs.Trie.{LeafMap}
use Rattle.dds_pending.proofs.Fits.{Fits, IsPrepared, PrepareOk, Stays, found-at, fits-stays, one-over}
use Rattle.dds_pending.proofs.Leads.{Leads, letter-leads, order-leads}
use Rattle.dds_pending.proofs.Stays.{leads-stays}

-- A brick's turn keeps that pending transactions list the members of leaves.

abbrev pub AllFit : (ℕ → Type 0) → BrickState → Type 0
AllFit gone s = AllByRecursion (Fits gone s.leaves) s.locks.pending

-- what is so of a brick before its turn, of who had stopped, and afterwards
pub record Before (me : ℕ) (gone later : ℕ → Type 0) (s : BrickState) : Type 0 where
  pub both : IsBoth me (own s)
  pub stands : Standing (own s)
  pub covers : Covering (own s)
  pub fit : AllFit gone s
  pub more : (n : ℕ) → gone n → later n

pub fits-later : (gone later : ℕ → Type 0) (m : LeafMap) (p : Pending) → ((n : ℕ) → gone n → later n) → Fits gone m p → Fits later m p
fits-later gone later m p f h q leaf there over n k = elim (h q leaf there over n k) [ inl i ↦ inl i | inr i ↦ inr (f n i) ]

-- what was pending fits the leaves after the turn
kept : (me : ℕ) (gone later : ℕ → Type 0) (s : BrickState) (k : LeafMap) → Before me gone later s → Leads s k → Disjoint k
    → AllByRecursion (Fits later k) s.locks.pending
kept me gone later s k h w d =
    all-map (λ (p : Pending). Stays s.leaves k (the_key p.op) × (Covers s.leaves p × Fits gone s.leaves p)) (Fits later k) s.locks.pending
    (λ p i. fits-stays gone later s.leaves k p h.more d i.1.0 i.0 i.1.1)
    (all-both (λ (p : Pending). Stays s.leaves k (the_key p.op)) (λ (p : Pending). Covers s.leaves p × Fits gone s.leaves p) s.locks.pending
    (leads-stays me s k h.both h.stands w) (all-both (Covers s.leaves) (Fits gone s.leaves) s.locks.pending h.covers h.fit))

if-none : (c : Bool) (x : Refusal) → (if c then None else Some x) ≡ None → c ≡ true
if-none true x e = refl
if-none false x e = cc

record IsStamped (q : Option Leaf) (stamp : StampOf) : Type 0 where
  leaf : Leaf
  is : q ≡ Some leaf
  same : leaf.stamp ≡ stamp

not-stale : (q : Option Leaf) (name : Name) (stamp : StampOf) → stale_against q name stamp ≡ None → IsStamped q stamp
not-stale None name stamp e = cc
not-stale (Some l) name stamp e =
    let both = if-none (same_name l.name name && same_stamp l.stamp stamp) (refusal.Stale (Some l)) e in
    record { leaf = l; is = refl; same = stamp-is l.stamp stamp (and_parts (same_name l.name name) (same_stamp l.stamp stamp) both).1 }

stamped : (s : BrickState) (o : Op) (name : Name) (stamp : StampOf) → update_denial s o name stamp ≡ None → IsStamped (leaf_for s.leaves (the_key o)) stamp
stamped s o name stamp e =
    let key = the_key o in
    let denied = first-none (as_denial (update_refusal s key name stamp)) (when (has_no_room s o) denial.Full) e in
    let r = none-denied (update_refusal s key name stamp) denied.0 in
    let a = first-none (when (joins_key s.order key) refusal.Lease) _ r in
    let b = first-none (stale_against (leaf_for s.leaves key) name stamp) _ a.1 in
    not-stale (leaf_for s.leaves key) name stamp b.0

new-fits : (b : Book) (gone : ℕ → Type 0) (m : LeafMap) (p : Pending) (stamp : StampOf) → Disjoint m → InMap (Known b) m
    → IsStamped (leaf_for m (the_key p.op)) stamp → IsPrepared b gone stamp p.list → Fits gone m p
new-fits b gone m p stamp d known l h q leaf there over n k =
    let key = the_key p.op in
    let at = found-at m key l.leaf l.is in
    let is : leaf ≡ l.leaf = one-over m key q at.name leaf l.leaf d there at.there over at.covers in
    let its : Known b l.leaf = each-is (Known b) (leaf_for m key) l.leaf l.is (in-for (Known b) m key known) in
    let same : body l.leaf ≡ h.body = some-is (body l.leaf) h.body (sym its ∙ ap b l.same ∙ h.there) in
    h.lists n (sym (ap (λ (x : Body). has x.list n) same) ∙ sym (ap (λ (x : Leaf). has x.list n) is) ∙ k)
  where
    some-is : (x y : Body) → Some x ≡ Some y → x ≡ y
    some-is x y e = cc

voted : (gone : ℕ → Type 0) (s u : BrickState) (from : NodeNo) (p : Pending) (d : Option Denial) → u.leaves ≡ s.leaves
    → u.locks.pending ≡ s.locks.pending → AllFit gone s → (d ≡ None → Fits gone s.leaves p) → AllFit gone (calls.voted u from p d).state
voted gone s u from p None leaves pending h f =
    subst (λ m. AllByRecursion (Fits gone m) (u.locks.pending ++ p ∷ [])) (sym leaves)
    (subst (λ ps. AllByRecursion (Fits gone s.leaves) (ps ++ p ∷ [])) (sym pending)
    (all-append (Fits gone s.leaves) s.locks.pending (p ∷ []) h (f refl, tt)))
voted gone s u from p (Some why) leaves pending h f =
    subst (λ m. AllByRecursion (Fits gone m) u.locks.pending) (sym leaves) (subst (AllByRecursion (Fits gone s.leaves)) (sym pending) h)

pub letter-fits : (me : ℕ) (b : Book) (gone later : ℕ → Type 0) (s : BrickState) (from : NodeNo) (l : Letter) → Before me gone later s
    → InMap (Known b) s.leaves → PrepareOk b later l → Disjoint (live_brick_turn s from l).state.leaves → AllFit later (live_brick_turn s from l).state
letter-fits me b gone later s from (letter.Prepare txn caller call below name stamp list op) h known ok d =
    let p : Pending = record { txn = txn; caller = caller; call = call; op = op; list = list } in
    voted later s (calls.trim s txn.library below) from p (update_denial (calls.trim s txn.library below) op name stamp) refl refl
    (all-map (Fits gone s.leaves) (Fits later s.leaves) s.locks.pending (λ q k. fits-later gone later s.leaves q h.more k) h.fit)
    (λ e. new-fits b later s.leaves p stamp h.both.1.leaves known (stamped (calls.trim s txn.library below) op name stamp e) ok)
letter-fits me b gone later s from other h known ok d =
    let t = live_brick_turn s from other in
    turn-all (Fits later t.state.leaves) s from other tt (kept me gone later s t.state.leaves h (letter-leads me s from other h.both.0.order) d)

pub order-fits : (me : ℕ) (gone later : ℕ → Type 0) (s : BrickState) (o : Order) → Before me gone later s → Disjoint (brick_input s o).state.leaves
    → AllFit later (brick_input s o).state
order-fits me gone later s o h d =
    let t = brick_input s o in
    subst (AllByRecursion (Fits later t.state.leaves)) (sym (ap (λ (w : Whole). w.pending) (order-rests {L = λ to m. ⊥} s o).same))
    (kept me gone later s t.state.leaves h (order-leads s o) d)
