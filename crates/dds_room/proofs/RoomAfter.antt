use Rattle.std.proofs.Common.{◌≡◌, ℕ, ◌≤◌, ◌==◌, ◌⊎◌, inl, inr, Bool, true, false, cond, map, length, Option, Some}
use Rattle.std.proofs.Common.{None, List, [], ◌∷◌, refl, sym, ap, ◌∙◌, subst}
use Rattle.std.proofs.Common.{arith}
use Rattle.std.proofs.lemmas.Bool.{and_parts, both_ways, or_left, or_right}
use Rattle.std.proofs.lemmas.Bool.Decides.{nat_tests}
use Rattle.std.proofs.lemmas.List.{length-map}
use Rattle.std.specs.FinMap.{contains_key, get, insert}
use Rattle.std.specs.List.{AllByRecursion, list_any}
use Rattle.std.specs.Prelude.{is_some}
use Rattle.dds_base.specs.Name.{Name, covers, overlaps}
use Rattle.dds_base.specs.Op.{the_key}
use Rattle.dds_base.specs.declared.leaf.Leaf.{Leaf}
use Rattle.dds_base.specs.declared.pair.Pair.{Pair}
use Rattle.dds_base.specs.declared.pending.Pending.{Pending}
use Rattle.dds_brick_rows.specs.Refusal.{is_join, is_put}
use Rattle.dds_brick_rows.specs.declared.refusal.TheConstants.{PAIRS}
use Rattle.dds_history.proofs.Bindings.{get-bound}
use Rattle.dds_history.specs.Map.{Map}
use Rattle.dds_law_own.proofs.Changes.{own}
use Rattle.dds_law_own.proofs.Disjoint.{Has}
use Rattle.dds_law_own.proofs.Parted.{IsBoth}
use Rattle.dds_locks.specs.Pending.{IsApart}
use Rattle.dds_order_rows.specs.OwnOrder.{bound}
use Rattle.dds_orders.proofs.Covered.{Covers}
use Rattle.dds_pairs.proofs.Apart.{covered-apart, leaf-apart}
use Rattle.dds_pairs.proofs.Binds.{AllUnder}
use Rattle.dds_pairs.proofs.Lies.{Lies}
use Rattle.dds_pairs.proofs.NameKeeps.{keyed-at}
use Rattle.dds_pairs.proofs.NameTurns.{Keyed}
use Rattle.dds_pairs.proofs.Names.{Fit}
use Rattle.dds_parents.proofs.Served.{share-key}
use Rattle.dds_parents.proofs.SplitLeaves.{SplitsIn}
use Rattle.dds_pending.proofs.Leads.{Leads}
use Rattle.dds_states.specs.Leaf.{leaf_for}
use Rattle.dds_states.specs.declared.brick_state.BrickState.{BrickState}
use Rattle.dds_states.specs.declared.brick_state.OpenOrder.{OpenOrder}
use Rattle.dds_room.proofs.Counts.{few-of, fewer}
use Rattle.dds_room.proofs.Gains.{Gains, IsSmall, OrderSmall, gains, none}
use Rattle.dds_room.proofs.Leaves.{From, joined, leads-from, within}
use Rattle.dds_room.proofs.TakenKeys.{is_put_on, is_taken, or-either, same, same-is}
use Rattle.dds_room.proofs.Takes.{Fewer}
use Rattle.dds_room.specs.Room.{HasRoom, taken_under}

-- A brick has room after a turn in which no key is taken but those that its own join copied.

-- what holds before the turn
pub record Before (me : ℕ) (s : BrickState) : Type 0 where
  pub both : IsBoth me (own s)
  pub fit : Fit s
  pub splits : SplitsIn s.leaves s.order
  pub covering : AllByRecursion (Covers s.leaves) s.locks.pending
  pub lies : Lies s
  pub small : OrderSmall s.order
  pub apart : IsApart s.locks.pending
  pub room : HasRoom s

-- under the name of an own leaf
some-leaf : (q : Option Leaf) → is_some q ≡ true → (leaf : Leaf) × (q ≡ Some leaf)
some-leaf None h = cc
some-leaf (Some leaf) h = (leaf, refl)

pub room-at : (s : BrickState) (top : Name) → Keyed s.leaves → HasRoom s → Has s.leaves top → taken_under s top ≤ PAIRS
room-at s top keyed room h =
    let leaf = some-leaf (get s.leaves top) h in
    subst (λ n. taken_under s n ≤ PAIRS) (keyed top leaf.0 leaf.1) (room top leaf.0 leaf.1)

-- and from there
pub has-room : (u : BrickState) → Keyed u.leaves → ((q : Name) → Has u.leaves q → taken_under u q ≤ PAIRS) → HasRoom u
has-room u keyed f name leaf there =
    subst (λ n. taken_under u n ≤ PAIRS) (sym (keyed name leaf there)) (f name (ap is_some there))

-- a key that is taken is under a leaf, so not under the name of an open join
put-covered : (s : BrickState) (ps : List Pending) (key : ℕ) → AllByRecursion (Covers s.leaves) ps → list_any (λ p. is_put_on key p) ps ≡ true
    → is_some (leaf_for s.leaves key) ≡ true
put-covered s [] key h t = cc
put-covered s (p ∷ ps) key h t = elim (or-either (is_put_on key p) (list_any (λ x. is_put_on key x) ps) t) [
  | inl i ↦
      subst (λ k. is_some (leaf_for s.leaves k) ≡ true) (sym (same-is key (the_key p.op) (and_parts (is_put p.op) (same key (the_key p.op)) i).1)) h.0
  | inr i ↦ put-covered s ps key h.1 i
]

pub taken-covered : (me : ℕ) (s : BrickState) (key : ℕ) → Before me s → is_taken s.pairs s.locks.pending key ≡ true
    → is_some (leaf_for s.leaves key) ≡ true
taken-covered me s key h t = elim (or-either (contains_key s.pairs key) (list_any (λ p. is_put_on key p) s.locks.pending) t) [
  | inl i ↦ h.lies key i
  | inr i ↦ put-covered s s.locks.pending key h.covering i
]

none-joined : (me : ℕ) (s : BrickState) (o : OpenOrder) (key : ℕ) → Before me s → s.order ≡ Some o → is_join o.task ≡ true → covers o.name key ≡ true
    → is_taken s.pairs s.locks.pending key ≡ true → ⊥
none-joined me s o key h e join over t =
    both_ways (covers o.name key) (covered-apart me (own s) o key h.both e join (taken-covered me s key h t)) over

-- no key is taken that wasn't
module _ (me : ℕ) (s u : BrickState) (h : Before me s) (now : Keyed u.leaves) (leads : Leads s u.leaves) where
  fewer-at : Fewer s u → (q : Name) → From s q → taken_under u q ≤ PAIRS
  fewer-at f q (within top there over) =
      let le = fewer u.pairs s.pairs q top u.locks.pending s.locks.pending (f.apart h.apart) (λ key k t. (over key k, f.taken key t)) in
      let room = room-at s top (keyed-at me s h.both) h.room there in
      omega (arith, le, room)
  fewer-at f q (joined o e join is) =
      let le = few-of u.pairs q u.locks.pending [] (f.apart h.apart)
      (λ key k t. absurd (none-joined me s o key h e join (subst (λ n. covers n key ≡ true) is k) (f.taken key t))) in
      omega (arith, le)

  pub fewer-room : Fewer s u → HasRoom u
  fewer-room f = has-room u now (λ q there. fewer-at f q (leads-from me s u.leaves q h.both h.fit h.splits leads there))

-- keys of pairs that are bound beside a map's
abbrev keys_of : List Pair → List ℕ
keys_of ps = map (λ (p : Pair). p.key) ps

flip : (q k : ℕ) → (k == q) ≡ true → same q k ≡ true
flip q k e = grind (arith, nat_tests, e)

bound-if : (m : Map) (p : Pair) (ps : List Pair) (q : ℕ) (c : Bool) → (p.key == q) ≡ c → is_some (cond c (Some p.value) (get m q)) ≡ true
    → (list_any (λ k. same q k) (keys_of (p ∷ ps)) ≡ true) ⊎ (contains_key m q ≡ true)
bound-if m p ps q true e h = inl (or_left (same q p.key) (list_any (λ k. same q k) (keys_of ps)) (flip q p.key e))
bound-if m p ps q false e h = inr h

bound-among : (m : Map) (ps : List Pair) (q : ℕ) → contains_key (bound m ps) q ≡ true
    → (list_any (λ k. same q k) (keys_of ps) ≡ true) ⊎ (contains_key m q ≡ true)
bound-among m [] q h = inr h
bound-among m (p ∷ ps) q h = elim (bound-among (insert m p.key p.value) ps q h) [
  | inl i ↦ inl (or_right (same q p.key) (list_any (λ k. same q k) (keys_of ps)) i)
  | inr i ↦ bound-if m p ps q (p.key == q) refl (sym (ap is_some (get-bound m p.key p.value q)) ∙ i)
]

among-under : (name : Name) (ps : List Pair) (q : ℕ) → AllUnder name ps → list_any (λ k. same q k) (keys_of ps) ≡ true → covers name q ≡ true
among-under name [] q h t = cc
among-under name (p ∷ ps) q h t = elim (or-either (same q p.key) (list_any (λ k. same q k) (keys_of ps)) t) [
  | inl i ↦ subst (λ k. covers name k ≡ true) (sym (same-is q p.key i)) h.0
  | inr i ↦ among-under name ps q h.1 i
]

-- those that the open join copied are taken too
module _ (me : ℕ) (s u : BrickState) (h : Before me s) (now : Keyed u.leaves) (leads : Leads s u.leaves) (pending : u.locks.pending ≡ s.locks.pending) where
  gained : (o : OpenOrder) (ps : List Pair) (key : ℕ) → u.pairs ≡ bound s.pairs ps → is_taken u.pairs u.locks.pending key ≡ true
      → (list_any (λ k. same key k) (keys_of ps) ≡ true) ⊎ (is_taken s.pairs s.locks.pending key ≡ true)
  gained o ps key e t =
      elim (or-either (contains_key (bound s.pairs ps) key) (list_any (λ p. is_put_on key p) s.locks.pending)
      (subst (λ qs. is_taken (bound s.pairs ps) qs key ≡ true) pending (subst (λ m. is_taken m u.locks.pending key ≡ true) e t))) [
        | inl i ↦ elim (bound-among s.pairs ps key i) [
          | inl j ↦ inl j
          | inr j ↦ inr (or_left (contains_key s.pairs key) (list_any (λ p. is_put_on key p) s.locks.pending) j)
        ]
        | inr i ↦ inr (or_right (contains_key s.pairs key) (list_any (λ p. is_put_on key p) s.locks.pending) i)
      ]

  apart-now : IsApart u.locks.pending
  apart-now = subst IsApart (sym pending) h.apart

  same-join : (o p : OpenOrder) → s.order ≡ Some o → s.order ≡ Some p → p ≡ o
  same-join o p e f = let is : Some p ≡ Some o = sym f ∙ e in cc

  gains-at : (o : OpenOrder) (ps : List Pair) → s.order ≡ Some o → is_join o.task ≡ true → IsSmall o.name ps → u.pairs ≡ bound s.pairs ps → (q : Name)
      → From s q → taken_under u q ≤ PAIRS
  gains-at o ps e join small is q (within top there over) =
      let no = (λ (key : ℕ) (k : covers q key ≡ true) (i : list_any (λ j. same key j) (keys_of ps) ≡ true).
      both_ways (overlaps top o.name) (leaf-apart me (own s) o h.both e join top there)
      (share-key top o.name key (over key k) (among-under o.name ps key small.under i))) in
      let le = fewer u.pairs s.pairs q top u.locks.pending s.locks.pending apart-now
      (λ key k t. (over key k, elim (gained o ps key is t) [ inl i ↦ absurd (no key k i) | inr i ↦ i ])) in
      let room = room-at s top (keyed-at me s h.both) h.room there in
      omega (arith, le, room)
  gains-at o ps e join small is q (joined p f j named) =
      let name : q ≡ o.name = named ∙ ap (λ (x : OpenOrder). x.name) (same-join o p e f) in
      let le = few-of u.pairs q u.locks.pending (keys_of ps) apart-now
      (λ key k t. elim (gained o ps key is t) [
        | inl i ↦ i
        | inr i ↦ absurd (none-joined me s o key h e join (subst (λ n. covers n key ≡ true) name k) i)
      ]) in
      let size : length (keys_of ps) ≡ length ps = length-map ps (λ (p : Pair). p.key) in
      let few = small.few in
      omega (arith, le, size, few)

  pub gains-room : Gains s u → HasRoom u
  gains-room (none e) =
      fewer-room me s u h now leads (record {
        taken = λ q t. subst (λ m. is_taken m s.locks.pending q ≡ true) e (subst (λ ps. is_taken u.pairs ps q ≡ true) pending t);
        apart = λ a. subst IsApart (sym pending) a;
      })
  gains-room (gains o ps e join small is) =
      has-room u now (λ q there. gains-at o ps e join small is q (leads-from me s u.leaves q h.both h.fit h.splits leads there))

-- leaves that stay
pub later-room : (s u : BrickState) → Keyed s.leaves → IsApart u.locks.pending → u.leaves ≡ s.leaves
    → ((q : ℕ) → is_taken u.pairs u.locks.pending q ≡ true → is_taken s.pairs s.locks.pending q ≡ true) → HasRoom s → HasRoom u
later-room s u keyed apart leaves f room =
    has-room u (subst Keyed (sym leaves) keyed) (λ q there.
    let le = fewer u.pairs s.pairs q q u.locks.pending s.locks.pending apart (λ key k t. (k, f key t)) in
    let it = room-at s q keyed room (subst (λ m. Has m q) leaves there) in
    omega (arith, le, it))
