use Rattle.std.proofs.Common.{◌≡◌, ℕ, ◌==◌, ◌||◌, ◌++◌, Bool, true, false, not, Option, Some, None, List, [], ◌∷◌, inl, inr, refl, sym, ap, ◌∙◌, subst}
use Rattle.std.proofs.lemmas.Bool.{cases_Bool, cases_eq, eq-eqb, ne_eqb}
use Rattle.std.specs.Prelude.{if◌then◌else◌}
use Rattle.dds_base.specs.BrickList.{has}
use Rattle.dds_base.specs.Name.{Name}
use Rattle.dds_base.specs.Place.{last_key}
use Rattle.dds_base.specs.declared.leaf.Leaf.{Leaf}
use Rattle.dds_base.specs.declared.pair.Pair.{Pair}
use Rattle.dds_law_own.proofs.Lists.{has-kept}
use Rattle.dds_order_rows.specs.OwnOrder as order
use Rattle.dds_orders.proofs.Numbers.{has-append, has-without}
use Rattle.dds_states.specs.Turn.{without}
use Rattle.dds_states.specs.declared.brick_state.OpenOrder.{OpenOrder}
use Rattle.dds_states.specs.declared.brick_state.OrderPhase.TheVariants.{Leasing, Copying, Installing}
use Rattle.dds_order_talk.proofs.Members.{in-without, it-has, ne-one}
use Rattle.dds_order_talk.proofs.Moves.{Takes, asks_more, rests as still, takes_first, takes_grant, takes_installed, takes_part}
use Rattle.dds_order_talk.specs.Seen.{Doing, phase_view, rests, source_view, took_first, took_part, with_leaf}
use Rattle.dds_order_talk.specs.Table.{Ask, Say, View}
use Rattle.dds_order_talk.specs.Table.Ask.{copy}
use Rattle.dds_order_talk.specs.Table.Say.{granted, part, installed}
use Rattle.dds_order_talk.specs.Table.View.{Off, Waits, First, Has, Due, Done}

-- The brick's side of a conversation: how its open order sees a member before and after it goes on, and which move that is.

-- what is said by the one member, and by no other one
abbrev pub by : {X : Type 0} → ℕ → ℕ → X → List X
by from m a = if from == m then a ∷ [] else []

-- lists
pub same-has : (a b : Bool) → (a ≡ true → b ≡ true) → (b ≡ true → a ≡ true) → a ≡ b
same-has true b f g = sym (f refl)
same-has false true f g = g refl
same-has false false f g = refl

pub without-other : (ns : List ℕ) (from m : ℕ) → (m ≡ from → ⊥) → has (without ns from) m ≡ has ns m
without-other ns from m ne =
    same-has (has (without ns from) m) (has ns m) (λ h. (in-without ns from m h).1)
    (λ h. has-kept (λ k. not (k == from)) ns m (ap not (ne_eqb m from ne)) h)

append-other : (ns : List ℕ) (from m : ℕ) → (m ≡ from → ⊥) → has (ns ++ from ∷ []) m ≡ has ns m
append-other ns from m ne =
    has-append ns (from ∷ []) m ∙ ap (λ c. has ns m || c) (ne-one from m (λ e. ne (sym e))) ∙ or-none (has ns m)
  where
    or-none : (a : Bool) → (a || false) ≡ a
    or-none true = refl
    or-none false = refl

append-it : (ns : List ℕ) (from : ℕ) → has (ns ++ from ∷ []) from ≡ true
append-it ns from = has-append ns (from ∷ []) from ∙ ap (λ c. has ns from || c) (it-has from []) ∙ or-yes (has ns from)
  where
    or-yes : (a : Bool) → (a || true) ≡ true
    or-yes true = refl
    or-yes false = refl

pub by-it : {X : Type 0} (m : ℕ) (a : X) → by m m a ≡ a ∷ []
by-it m a = ap (λ c. if c then a ∷ [] else []) (eq-eqb m m refl)

pub by-other : {X : Type 0} (from m : ℕ) (a : X) → (m ≡ from → ⊥) → by from m a ≡ []
by-other from m a ne = ap (λ c. if c then a ∷ [] else []) (ne_eqb from m (λ e. ne (sym e)))

-- a view that stays is no move
pub stays-as : (x : Name) (v w : View) (s : List Say) (y : List Ask) → w ≡ v → s ≡ [] → y ≡ [] → Takes x v s w y
stays-as x v w s y e f g =
    subst (λ u. Takes x v s u y) (sym e) (subst (λ t. Takes x v t v y) (sym f) (subst (λ z. Takes x v [] v z) (sym g) (still v)))

-- a member grants, while the order leases: the first grant of a join will fix its leaf
abbrev pub doing : Option Leaf → ℕ → Leaf → Doing
doing None from leaf = took_first from leaf
doing (Some fixed) from leaf = rests

abbrev leasing_view : Bool → Bool → Doing → ℕ → Option Leaf → View
leasing_view w g d m q = if w then Waits q else (if g then with_leaf d m q Has else Off)

grant-at : (x : Name) (from : ℕ) (q : Option Leaf) (leaf : Leaf) → Takes x (Waits q) (granted leaf ∷ []) (with_leaf (doing q from leaf) from q Has) []
grant-at x from None leaf =
    subst (λ v. Takes x (Waits None) (granted leaf ∷ []) v []) (sym (ap (λ c. if c then First leaf else Off) (eq-eqb from from refl))) takes_first
grant-at x from (Some fixed) leaf = takes_grant

other-leaf : (from m : ℕ) (leaf : Leaf) (q : Option Leaf) → (m ≡ from → ⊥) → with_leaf (doing q from leaf) m q Has ≡ with_leaf rests m q Has
other-leaf from m leaf None ne = ap (λ c. if c then First leaf else Off) (ne_eqb from m (λ e. ne (sym e)))
other-leaf from m leaf (Some fixed) ne = refl

pub grant-moves : (x : Name) (o : OpenOrder) (from m : ℕ) (leaf : Leaf) → o.phase ≡ Leasing → has o.waiting from ≡ true
    → Takes x (phase_view rests o m o.phase) (by from m (granted leaf))
    (phase_view (doing o.leaf from leaf) (order.with_grant o from) m o.phase) []
grant-moves x o from m leaf phase waits =
    subst (λ p. Takes x (phase_view rests o m p) (by from m (granted leaf)) (phase_view (doing o.leaf from leaf) (order.with_grant o from) m p) [])
    (sym phase) (elim (cases_eq m from) [
      | inl e ↦ subst (λ k. Takes x (phase_view rests o k Leasing) (by from k (granted leaf))
          (phase_view (doing o.leaf from leaf) (order.with_grant o from) k Leasing) []) (sym e) itself
      | inr ne ↦ stays-as x _ _ _ [] (other ne) (by-other from m (granted leaf) ne) refl
    ])
  where
    itself : Takes x (phase_view rests o from Leasing) (by from from (granted leaf))
        (phase_view (doing o.leaf from leaf) (order.with_grant o from) from Leasing) []
    itself =
        let before : phase_view rests o from Leasing ≡ Waits o.leaf = ap (λ c. leasing_view c (has o.granted from) rests from o.leaf) waits in
        let after : phase_view (doing o.leaf from leaf) (order.with_grant o from) from Leasing ≡ with_leaf (doing o.leaf from leaf) from o.leaf Has =
        ap (λ c. leasing_view c (has (o.granted ++ from ∷ []) from) (doing o.leaf from leaf) from o.leaf) (has-without o.waiting from)
        ∙ ap (λ c. leasing_view false c (doing o.leaf from leaf) from o.leaf) (append-it o.granted from) in
        subst (λ v. Takes x v (by from from (granted leaf)) (phase_view (doing o.leaf from leaf) (order.with_grant o from) from Leasing) []) (sym before)
        (subst (λ v. Takes x (Waits o.leaf) (by from from (granted leaf)) v []) (sym after)
        (subst (λ s. Takes x (Waits o.leaf) s (with_leaf (doing o.leaf from leaf) from o.leaf Has) []) (sym (by-it from (granted leaf)))
        (grant-at x from o.leaf leaf)))

    other : (m ≡ from → ⊥) → phase_view (doing o.leaf from leaf) (order.with_grant o from) m Leasing ≡ phase_view rests o m Leasing
    other ne =
        ap (λ c. leasing_view c (has (o.granted ++ from ∷ []) m) (doing o.leaf from leaf) m o.leaf) (without-other o.waiting from m ne)
        ∙ ap (λ c. leasing_view (has o.waiting m) c (doing o.leaf from leaf) m o.leaf) (append-other o.granted from m ne)
        ∙ ap (λ v. if has o.waiting m then Waits o.leaf else (if has o.granted m then v else Off)) (other-leaf from m leaf o.leaf ne)

-- a part of the pairs comes from the member that is copied from
abbrev copying_view : Bool → Bool → Doing → ℕ → Option ℕ → Option Leaf → View
copying_view c g d m key q = if c then with_leaf d m q (source_view d key) else (if g then with_leaf d m q Has else Off)

part-at : (x : Name) (m : ℕ) (key next : Option ℕ) (q : Option Leaf) (leaf : Leaf) → q ≡ Some leaf
    → Takes x (with_leaf rests m q (source_view rests key)) (part ∷ []) (with_leaf took_part m q (source_view took_part next)) []
part-at x m key next None leaf e = cc
part-at x m key next (Some fixed) leaf e = takes_part

more-at : (x : Name) (m : ℕ) (key : Option ℕ) (q : Option Leaf) (leaf : Leaf) → q ≡ Some leaf
    → Takes x (with_leaf took_part m q (source_view took_part key)) [] (with_leaf rests m q (source_view rests key)) (copy key ∷ [])
more-at x m key None leaf e = cc
more-at x m key (Some fixed) leaf e = asks_more key

pub same-granted : (d : Doing) (m : ℕ) (g : Bool) (q : Option Leaf) (leaf : Leaf) → q ≡ Some leaf
    → (if g then with_leaf d m q Has else Off) ≡ (if g then with_leaf rests m q Has else Off)
same-granted d m g None leaf e = cc
same-granted d m g (Some fixed) leaf e = refl

pub part-moves : (x : Name) (o : OpenOrder) (source m : ℕ) (leaf : Leaf) (pairs : List Pair) → o.leaf ≡ Some leaf
    → Takes x (phase_view rests o m (Copying source)) (by source m part)
    (phase_view took_part (record o { copied = o.copied ++ pairs }) m (Copying source)) []
part-moves x o source m leaf pairs fixed = elim (cases_Bool (source == m)) [
  | inl e ↦
      subst (λ c. Takes x (copying_view c (has o.granted m) rests m key o.leaf) (if c then part ∷ [] else [])
      (copying_view c (has o.granted m) took_part m next o.leaf) []) (sym e) (part-at x m key next o.leaf leaf fixed)
  | inr e ↦
      subst (λ c. Takes x (copying_view c (has o.granted m) rests m key o.leaf) (if c then part ∷ [] else [])
      (copying_view c (has o.granted m) took_part m next o.leaf) []) (sym e)
      (stays-as x _ _ [] [] (same-granted took_part m (has o.granted m) o.leaf leaf fixed) refl refl)
]
  where
    key : Option ℕ
    key = last_key None o.copied

    next : Option ℕ
    next = last_key None (o.copied ++ pairs)

-- and it is asked for more
pub more-moves : (x : Name) (o : OpenOrder) (source m : ℕ) (leaf : Leaf) → o.leaf ≡ Some leaf
    → Takes x (phase_view took_part o m (Copying source)) [] (phase_view rests o m (Copying source)) (by source m (copy (last_key None o.copied)))
more-moves x o source m leaf fixed = elim (cases_Bool (source == m)) [
  | inl e ↦
      subst (λ c. Takes x (copying_view c (has o.granted m) took_part m key o.leaf) [] (copying_view c (has o.granted m) rests m key o.leaf)
      (if c then copy key ∷ [] else [])) (sym e) (more-at x m key o.leaf leaf fixed)
  | inr e ↦
      subst (λ c. Takes x (copying_view c (has o.granted m) took_part m key o.leaf) [] (copying_view c (has o.granted m) rests m key o.leaf)
      (if c then copy key ∷ [] else [])) (sym e)
      (stays-as x _ _ [] [] (sym (same-granted took_part m (has o.granted m) o.leaf leaf fixed)) refl refl)
]
  where
    key : Option ℕ
    key = last_key None o.copied

-- a member says that it installed the leaf
abbrev due_view : Bool → Bool → ℕ → Option Leaf → Leaf → View
due_view w g m q made = if w then with_leaf rests m q (λ leaf. Due leaf made) else (if g then with_leaf rests m q (λ leaf. Done leaf made) else Off)

installed-at : (x : Name) (m : ℕ) (q : Option Leaf) (leaf made : Leaf) → q ≡ Some leaf
    → Takes x (with_leaf rests m q (λ l. Due l made)) (installed ∷ []) (with_leaf rests m q (λ l. Done l made)) []
installed-at x m None leaf made e = cc
installed-at x m (Some fixed) leaf made e = takes_installed

pub installed-moves : (x : Name) (o : OpenOrder) (from m : ℕ) (leaf made : Leaf) → o.leaf ≡ Some leaf → has o.waiting from ≡ true
    → has o.granted from ≡ true
    → Takes x (phase_view rests o m (Installing made)) (by from m installed)
    (phase_view rests (record o { waiting = without o.waiting from }) m (Installing made)) []
installed-moves x o from m leaf made fixed waits gave = elim (cases_eq m from) [
  | inl e ↦ subst (λ k. Takes x (phase_view rests o k (Installing made)) (by from k installed)
      (phase_view rests (record o { waiting = without o.waiting from }) k (Installing made)) []) (sym e) itself
  | inr ne ↦
      stays-as x _ _ _ [] (ap (λ c. due_view c (has o.granted m) m o.leaf made) (without-other o.waiting from m ne)) (by-other from m installed ne) refl
]
  where
    itself : Takes x (phase_view rests o from (Installing made)) (by from from installed)
        (phase_view rests (record o { waiting = without o.waiting from }) from (Installing made)) []
    itself =
        let before : phase_view rests o from (Installing made) ≡ with_leaf rests from o.leaf (λ l. Due l made) =
        ap (λ c. due_view c (has o.granted from) from o.leaf made) waits in
        let after : phase_view rests (record o { waiting = without o.waiting from }) from (Installing made)
        ≡ with_leaf rests from o.leaf (λ l. Done l made) =
        ap (λ c. due_view c (has o.granted from) from o.leaf made) (has-without o.waiting from) ∙ ap (λ c. due_view false c from o.leaf made) gave in
        subst (λ v. Takes x v (by from from installed) (phase_view rests (record o { waiting = without o.waiting from }) from (Installing made)) [])
        (sym before)
        (subst (λ v. Takes x (with_leaf rests from o.leaf (λ l. Due l made)) (by from from installed) v []) (sym after)
        (subst (λ s. Takes x (with_leaf rests from o.leaf (λ l. Due l made)) s (with_leaf rests from o.leaf (λ l. Done l made)) [])
        (sym (by-it from installed)) (installed-at x from o.leaf leaf made fixed)))
