use Rattle.std.proofs.Common.{◌≡◌, ℕ, ◌+◌, ◌<◌, ◌==◌, inl, inr, Bool, true, false, Option, Some, None, refl, sym, ap, ◌∙◌, subst, arith}
use Rattle.std.proofs.lemmas.Bool.{and_parts, cases_Bool, eqb-true}
use Rattle.std.proofs.lemmas.Bool.Decides.{nat_tests}
use Rattle.std.specs.Prelude.{if◌then◌else◌}
use Rattle.dds_base.specs.BrickList.{has}
use Rattle.dds_base.specs.Number.{StampOf}
use Rattle.dds_base.specs.declared.leaf.Leaf.{Leaf}
use Rattle.dds_groups.specs.Leaves.{same_stamp}
use Rattle.dds_states.specs.Turn.{BrickTurn}
use Rattle.dds_states.specs.declared.brick_state.BrickState.{BrickState}
use Rattle.dds_law_leaf.proofs.Book.{Body, Book, Comes, Grows, IsBred, Known, Leafed, body}
use Rattle.dds_law_leaf.proofs.Turns.{Grown, Turned, grown-more, map-grown, order-grown}

-- A leaf is made: its stamp is put into the book.

abbrev pub put_in : Book → StampOf → Body → Book
put_in b st x q = if same_stamp q st then Some x else b q

pub stamp-is : (q st : StampOf) → same_stamp q st ≡ true → q ≡ st
stamp-is q st e =
    let p = and_parts (q.maker == st.maker) (q.count == st.count) e in
    λ i. record { maker = eqb-true q.maker st.maker p.0 i; count = eqb-true q.count st.count p.1 i }

pub stamp-self : (st : StampOf) → same_stamp st st ≡ true
stamp-self st = grind (arith, nat_tests)

if-some : (c : Bool) (x y : Body) (o : Option Body) → (c ≡ true → o ≡ None) → o ≡ Some y → (if c then Some x else o) ≡ Some y
if-some true x y o f e = let k = sym (f refl) ∙ e in cc
if-some false x y o f e = e

put-grown : {me : ℕ} (b : Book) (st : StampOf) (x : Body) → b st ≡ None → st.maker ≡ me → Grown me b (put_in b st x)
put-grown b st x none mine =
    record {
      grows = λ q y e. if-some (same_stamp q st) x y (b q) (λ s. ap b (stamp-is q st s) ∙ none) e;
      others = λ q ne. elim (cases_Bool (same_stamp q st)) [
        | inl e ↦ absurd (ne (ap (λ (p : StampOf). p.maker) (stamp-is q st e) ∙ mine))
        | inr e ↦ ap (λ c. if c then Some x else b q) e
      ];
    }

put-known : (b : Book) (st : StampOf) (x : Body) → put_in b st x st ≡ Some x
put-known b st x = ap (λ c. if c then Some x else b st) (stamp-self st)

other-count : (st : StampOf) (c : ℕ) → st.count < c → same_stamp (record { maker = st.maker; count = c }) st ≡ false
other-count st c h = grind (arith, nat_tests, h)

put-fresh : {me : ℕ} (b : Book) (st : StampOf) (x : Body) (c : ℕ) → st.maker ≡ me → st.count < c → b (record { maker = me; count = c }) ≡ None
    → put_in b st x (record { maker = me; count = c }) ≡ None
put-fresh {me = me} b st x c mine lt none =
    ap (λ t. if t then Some x else b (record { maker = me; count = c }))
    (subst (λ i. same_stamp (record { maker = i; count = c }) st ≡ false) mine (other-count st c lt)) ∙ none

-- it comes from a leaf of the book
comes-grown : (b c : Book) (st : StampOf) (x : Body) → Grows b c → Comes b st x → Comes c st x
comes-grown b c st x g h = record { parent = h.parent; there = g x.prev h.parent h.there; epoch = h.epoch; members = h.members }

bred-if : (b c : Book) (st q : StampOf) (x y : Body) (t : Bool) → Grows b c → same_stamp q st ≡ t → Comes b st x → (b q ≡ Some y → Comes b q y)
    → (if t then Some x else b q) ≡ Some y → Comes c q y
bred-if b c st q x y true g s new old e =
    let is : x ≡ y = cc in subst (λ z. Comes c q z) is (subst (λ z. Comes c z x) (sym (stamp-is q st s)) (comes-grown b c st x g new))
bred-if b c st q x y false g s new old e = comes-grown b c q y g (old e)

put-bred : (b : Book) (st : StampOf) (x : Body) → Grows b (put_in b st x) → Comes b st x → IsBred b → IsBred (put_in b st x)
put-bred b st x g new old q y low e = bred-if b (put_in b st x) st q x y (same_stamp q st) g refl new (old q y low) e

-- what a brick makes from a known leaf, of any name
pub record IsMade (s : BrickState) (parent made : Leaf) : Type 0 where
  pub stamp : made.stamp ≡ record { maker = s.number; count = s.made }
  pub prev : made.prev ≡ parent.stamp
  pub epoch : made.epoch ≡ parent.epoch + 1
  pub members : (n : ℕ) → (n ≡ s.number → ⊥) → has made.list n ≡ true → has parent.list n ≡ true

pub makes : {me : ℕ} {b : Book} (s : BrickState) (parent made : Leaf) (t : BrickTurn) → Leafed me b s → Known b parent → IsMade s parent made
    → ((c : Book) → Grows b c → Leafed me c (record s { made = s.made + 1 }) → Known c made → Turned me c t) → Turned me b t
makes {me = me} {b = b} s parent made t h old m f =
    let c = put_in b made.stamp (body made) in
    let maker : made.stamp.maker ≡ s.number = ap (λ (q : StampOf). q.maker) m.stamp in
    let mine : made.stamp.maker ≡ me = maker ∙ h.number in
    let count : made.stamp.count ≡ s.made = ap (λ (q : StampOf). q.count) m.stamp in
    let none : b made.stamp ≡ None = ap b (m.stamp ∙ ap (λ i. record { maker = i; count = s.made }) h.number) ∙ h.fresh s.made (omega arith) in
    let g : Grown me b c = put-grown b made.stamp (body made) none mine in
    let comes : Comes b made.stamp (body made) = record {
      parent = body parent;
      there = ap b m.prev ∙ old;
      epoch = m.epoch;
      members = λ n ne. m.members n (λ e. ne (e ∙ sym maker));
    } in
    let k = f c g.grows (record {
      number = h.number;
      fresh = λ i le. put-fresh b made.stamp (body made) i mine (omega (arith, le, count)) (h.fresh i (omega (arith, le)));
      leaves = map-grown b c s g.grows h.leaves;
      order = order-grown b c s.order g.grows h.order;
    }) (put-known b made.stamp (body made)) in
    record {
      next = k.next;
      grown = grown-more me b c k.next g k.grown;
      bred = λ q. k.bred (put-bred b made.stamp (body made) g.grows comes q);
      state = k.state;
      letters = k.letters;
    }
