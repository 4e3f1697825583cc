use Rattle.std.proofs.Common.{◌≡◌, ℕ, ◌+◌, ◌≤◌, ◌==◌, ◌&&◌, ◌||◌, ◌⊎◌, inl, inr, ◌++◌, Bool, true, false, not, Option, Some}
use Rattle.std.proofs.Common.{None, List, [], ◌∷◌, refl, sym, ap, ◌∙◌, subst}
use Rattle.std.proofs.Common.{arith}
use Rattle.std.proofs.lemmas.Bool.{and_parts, both_ways, cases_Bool, or_left, or_right}
use Rattle.std.proofs.lemmas.Bool.Decides.{nat_tests}
use Rattle.std.proofs.lemmas.List.Folds.{list_any-append}
use Rattle.std.specs.FinMap.{contains_key}
use Rattle.std.specs.List.{list_any}
use Rattle.std.specs.Prelude.{is_some}
use Rattle.dds_base.specs.Name.{Name, covers}
use Rattle.dds_base.specs.Number.{StampOf}
use Rattle.dds_base.specs.Op.{the_key}
use Rattle.dds_base.specs.declared.leaf.Leaf.{Leaf}
use Rattle.dds_base.specs.declared.pending.Pending.{Pending}
use Rattle.dds_brick_rows.specs.Refusal.{as_denial, has_no_room, is_full, is_full_at, is_put, update_denial, update_refusal}
use Rattle.dds_brick_rows.specs.declared.refusal.TheConstants.{PAIRS}
use Rattle.dds_law_own.proofs.Disjoint.{Has}
use Rattle.dds_law_own.proofs.Ways.{first-none, may-pend, when-none}
use Rattle.dds_letters.specs.declared.refusal.Denial.TheVariants as denial
use Rattle.dds_locks.proofs.Locked.{apart-push}
use Rattle.dds_locks.specs.Pending.{IsApart}
use Rattle.dds_pairs.proofs.NameKeeps.{keyed-at}
use Rattle.dds_pairs.proofs.NameTurns.{Keyed}
use Rattle.dds_parents.proofs.Served.{covered-by, share-key}
use Rattle.dds_states.specs.Leaf.{leaf_for}
use Rattle.dds_states.specs.Turn.{when}
use Rattle.dds_states.specs.declared.brick_state.BrickState.{BrickState}
use Rattle.dds_room.proofs.Counts.{fewer, one-more}
use Rattle.dds_room.proofs.RoomAfter.{Before, has-room, room-at}
use Rattle.dds_room.proofs.TakenKeys.{count_under, is_put_on, is_taken, or-either, same, same-is}
use Rattle.dds_room.specs.Room.{HasRoom, taken_under}

-- A Prepare: where it is a put of a key that isn't there, there is room for one more under the key's leaf, or the brick votes no.

-- with one more pending
abbrev pended : BrickState → Pending → List Pending
pended s p = s.locks.pending ++ p ∷ []

more-taken : (s : BrickState) (p : Pending) (q : ℕ) → is_taken s.pairs (pended s p) q ≡ true
    → (is_put_on q p ≡ true) ⊎ (is_taken s.pairs s.locks.pending q ≡ true)
more-taken s p q t =
    let ps = s.locks.pending in
    elim (or-either (contains_key s.pairs q) (list_any (λ x. is_put_on q x) (pended s p)) t) [
      | inl i ↦ inr (or_left (contains_key s.pairs q) (list_any (λ x. is_put_on q x) ps) i)
      | inr i ↦ elim (or-either (list_any (λ x. is_put_on q x) ps) (is_put_on q p || false)
          (sym (list_any-append (λ x. is_put_on q x) ps (p ∷ [])) ∙ i)) [
            | inl j ↦ inr (or_right (contains_key s.pairs q) (list_any (λ x. is_put_on q x) ps) j)
            | inr j ↦ elim (or-either (is_put_on q p) false j) [ inl k ↦ inl k | inr k ↦ absurd (both_ways false refl k) ]
          ]
    ]

-- what the test says
not-full : (put free full : Bool) → (put && (free && full)) ≡ false → put ≡ true → free ≡ true → full ≡ false
not-full true true true e f g = cc
not-full true true false e f g = refl
not-full true false full e f g = cc
not-full false free full e f g = cc

room-left : (s : BrickState) (q : Option Leaf) (leaf : Leaf) → q ≡ Some leaf → is_full_at s q ≡ false → is_full s leaf ≡ false
room-left s None leaf e f = cc
room-left s (Some x) leaf e f = let is : x ≡ leaf = cc in subst (λ l. is_full s l ≡ false) is f

below : (k : ℕ) → (k == PAIRS) ≡ false → k ≤ PAIRS → k + 1 ≤ PAIRS
below k e le = grind (arith, nat_tests, e, le)

not-of : (b : Bool) → b ≡ false → not b ≡ true
not-of true e = cc
not-of false e = refl

module _ (me : ℕ) (s : BrickState) (p : Pending) (name : Name) (stamp : StampOf) (h : Before me s) (free : update_denial s p.op name stamp ≡ None) where
  abbrev key : ℕ
  key = the_key p.op

  pub pended-apart : IsApart (pended s p)
  pended-apart = apart-push s.locks.pending p h.apart (may-pend s p name stamp free).unlocked

  -- it takes nothing more
  rests : (q : Name) → Has s.leaves q → ((k : ℕ) → covers q k ≡ true → is_put_on k p ≡ true → is_taken s.pairs s.locks.pending k ≡ true)
      → taken_under (record s { locks = record s.locks { pending = pended s p } }) q ≤ PAIRS
  rests q there f =
      let le = fewer s.pairs s.pairs q q (pended s p) s.locks.pending pended-apart
      (λ k over t. (over, elim (more-taken s p k t) [ inl i ↦ f k over i | inr i ↦ i ])) in
      let room = room-at s q (keyed-at me s h.both) h.room there in
      omega (arith, le, room)

  -- a put of a key that isn't there, under its leaf
  takes : (q : Name) → Has s.leaves q → covers q key ≡ true → is_put p.op ≡ true → contains_key s.pairs key ≡ false
      → taken_under (record s { locks = record s.locks { pending = pended s p } }) q ≤ PAIRS
  takes q there over put new =
      let may = may-pend s p name stamp free in
      let at = covered-by s.leaves key may.leaf may.covers in
      let same-name : q ≡ at.name = h.both.1.leaves q at.name there (ap is_some at.there) (share-key q at.name key over at.over) in
      let named : may.leaf.name ≡ at.name = keyed-at me s h.both at.name may.leaf at.there in
      let none = first-none (as_denial (update_refusal s key name stamp)) (when (has_no_room s p.op) denial.Full) free in
      let full : is_full_at s (leaf_for s.leaves key) ≡ false =
      not-full (is_put p.op) (not (contains_key s.pairs key)) (is_full_at s (leaf_for s.leaves key)) (when-none (has_no_room s p.op) denial.Full none.1) put
      (not-of (contains_key s.pairs key) new) in
      let left : (taken_under s q == PAIRS) ≡ false =
      subst (λ n. (taken_under s n == PAIRS) ≡ false) (named ∙ sym same-name) (room-left s (leaf_for s.leaves key) may.leaf may.covers full) in
      let le = one-more s.pairs q (pended s p) s.locks.pending key pended-apart
      (λ k o t. elim (more-taken s p k t) [
        | inl i ↦ inl (and_parts (is_put p.op) (same k key) i).1
        | inr i ↦ inr i
      ]) in
      let room = below (taken_under s q) left (room-at s q (keyed-at me s h.both) h.room there) in
      omega (arith, le, room)

  of-put : (q : Name) → Has s.leaves q → covers q key ≡ true → (put there : Bool) → is_put p.op ≡ put → contains_key s.pairs key ≡ there
      → taken_under (record s { locks = record s.locks { pending = pended s p } }) q ≤ PAIRS
  of-put q has over true false e f = takes q has over e f
  of-put q has over true true e f =
      rests q has (λ k o i.
      or_left (contains_key s.pairs k) (list_any (λ x. is_put_on k x) s.locks.pending)
      (subst (λ j. contains_key s.pairs j ≡ true) (sym (same-is k key (and_parts (is_put p.op) (same k key) i).1)) f))
  of-put q has over false there e f = rests q has (λ k o i. absurd (both_ways (is_put p.op) e (and_parts (is_put p.op) (same k key) i).0))

  pub pended-room : (now : BrickState) → now.leaves ≡ s.leaves → now.pairs ≡ s.pairs → now.locks.pending ≡ pended s p → HasRoom now
  pended-room now leaves pairs pending =
      has-room now (subst Keyed (sym leaves) (keyed-at me s h.both)) (λ q there.
      let has : Has s.leaves q = subst (λ m. Has m q) leaves there in
      subst (λ k. k ≤ PAIRS) (sym (ap (λ m. count_under m q now.locks.pending) pairs ∙ ap (λ ps. count_under s.pairs q ps) pending)) (at q has))
    where
      at : (q : Name) → Has s.leaves q → taken_under (record s { locks = record s.locks { pending = pended s p } }) q ≤ PAIRS
      at q has = elim (cases_Bool (covers q key)) [
        | inl over ↦ of-put q has over (is_put p.op) (contains_key s.pairs key) refl refl
        | inr out ↦ rests q has (λ k o i.
            absurd (both_ways (covers q key) out
            (subst (λ j. covers q j ≡ true) (same-is k key (and_parts (is_put p.op) (same k key) i).1) o)))
      ]
