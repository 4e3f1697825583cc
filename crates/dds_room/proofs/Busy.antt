use Rattle.std.proofs.Common.{◌≡◌, ℕ, ◌<◌, ◌&&◌, ◌⊎◌, inl, inr, ◌++◌, Bool, true, false, is_some, Option, Some, None, List, [], ◌∷◌, refl, sym, ap, ◌∙◌, subst}
use Rattle.std.proofs.Common.{append_assoc}
use Rattle.std.proofs.lemmas.Bool.{and_parts, both_ways, eq-eqb}
use Rattle.std.proofs.lemmas.List.{append-nil}
use Rattle.std.specs.Prelude.{if◌then◌else◌}
use Rattle.dds_base.specs.Name.{same_name}
use Rattle.dds_base.specs.declared.leaf.Leaf.{Leaf}
use Rattle.dds_base.specs.declared.number.NodeNo.{NodeNo}
use Rattle.dds_base.specs.declared.pair.Pair.{Pair}
use Rattle.dds_core.specs.Brick.{live_brick_turn}
use Rattle.dds_letters.specs.declared.letter.Letter.{Letter}
use Rattle.dds_letters.specs.declared.letter.Letter.TheVariants as letter
use Rattle.dds_net.proofs.Projections.{gains-append}
use Rattle.dds_net.specs.Net.{Sizes, gains, is_in, lands, when_in}
use Rattle.dds_order_rows.specs.OwnOrder as order
use Rattle.dds_order_talk.proofs.BrickTurns.{none-gained}
use Rattle.dds_order_talk.proofs.Holds.{name-self}
use Rattle.dds_order_talk.proofs.Projections.{asks-append, says-append}
use Rattle.dds_order_talk.proofs.Sendings.{lands-same}
use Rattle.dds_order_talk.specs.Seen.{ask_of, asks, says, work_asks}
use Rattle.dds_order_talk.specs.Table.Ask.{copy}
use Rattle.dds_orders.proofs.Deeds.{Deed, Leaves, Seat, Stage, Staged, Trip, arrives, asks_more, closes, copies}
use Rattle.dds_orders.proofs.Deeds.{copies_none, does_next, drops, fixes, is_of_orders, joins}
use Rattle.dds_orders.proofs.Deeds.{loses, makes, nothing_owed, part_owed, pends, refuses, says as tells, seat, serves, splits, splits_none, stays, takes}
use Rattle.dds_orders.proofs.Deeds.{told_order}
use Rattle.dds_orders.proofs.Turns.{Hears, Turns, copies_not, denies, gives, grants, grants_not, hears_other, installed_not, installs, installs_not}
use Rattle.dds_orders.proofs.Turns.{is_installed, is_refused, learns, owed, refused_not, releases, sends_none, sends_part}
use Rattle.dds_orders.proofs.Turns.{copies as copies_part}
use Rattle.dds_states.specs.declared.brick_state.BrickState.{BrickState}
use Rattle.dds_states.specs.declared.brick_state.OpenOrder.{OpenOrder}
use Rattle.dds_states.specs.declared.brick_state.OrderPhase.{OrderPhase}
use Rattle.dds_states.specs.declared.brick_state.OrderPhase.TheVariants.{Copying}

-- The brick of an order that copies from a member: something is asked of the member, or a part is on its way from it, but within a turn behind a part
-- that was heard; and then more is asked for, or the leaf is made.

abbrev pub Busy : OpenOrder → List Letter → List Letter → Type 0
Busy o out back = asks (Some o) o.name out ≡ [] → says (Some o) o.name back ≡ [] → ⊥

pub nothing-first : {X : Type 0} (xs ys : List X) → xs ++ ys ≡ [] → (xs ≡ []) × (ys ≡ [])
nothing-first [] ys e = (refl, e)
nothing-first (x ∷ xs) ys e = cc

-- more on its way
pub more-out : (o : OpenOrder) (out more back : List Letter) → Busy o out back → Busy o (out ++ more) back
more-out o out more back h e f =
    h (nothing-first (asks (Some o) o.name out) (asks (Some o) o.name more) (sym (asks-append (Some o) o.name out more) ∙ e)).0 f

pub more-back : (o : OpenOrder) (out back more : List Letter) → Busy o out back → Busy o out (back ++ more)
more-back o out back more h e f =
    h e (nothing-first (says (Some o) o.name back) (says (Some o) o.name more) (sym (says-append (Some o) o.name back more) ∙ f)).0

-- the order asks the member
ask-is : (o : OpenOrder) (key : Option ℕ) → ask_of (Some o) o.name (letter.CopyAsk o.number o.name key) ≡ copy key ∷ []
ask-is o key =
    ap (λ c. work_asks c (same_name o.name o.name) (copy key)) (eq-eqb o.number o.number refl) ∙ ap (λ c. work_asks true c (copy key)) (name-self o.name)

same-phase : (a b : ℕ) → Copying a ≡ Copying b → a ≡ b
same-phase a b e = cc

not-leasing : (p : OrderPhase) (b : ℕ) → order.is_leasing p ≡ true → p ≡ Copying b → ⊥
not-leasing p b h e = both_ways (order.is_leasing p) (ap order.is_leasing e) h

not-installing : (p : OrderPhase) (b : ℕ) → order.is_installing p ≡ true → p ≡ Copying b → ⊥
not-installing p b h e = both_ways (order.is_installing p) (ap order.is_installing e) h

no-leaf : (q : Option Leaf) → q ≡ None → is_some q ≡ true → ⊥
no-leaf None e h = cc
no-leaf (Some leaf) e h = cc

not-owed : (a : Stage) → a ≡ nothing_owed → a ≡ part_owed → ⊥
not-owed a e f = let no : nothing_owed ≡ part_owed = sym e ∙ f in cc

not-told : (a : Stage) → a ≡ told_order → a ≡ part_owed → ⊥
not-told a e f = let no : told_order ≡ part_owed = sym e ∙ f in cc

the-same : (o p : OpenOrder) → Some o ≡ Some p → o ≡ p
the-same o p e = cc

-- a letter is heard: the order is busy beside it, or it is the part that the order takes
pub record Comes (from : NodeNo) (l : Letter) (o : OpenOrder) : Type 0 where
  pub number : ℕ
  pub last : Bool
  pub pairs : List Pair
  pub is : l ≡ letter.CopyPart number last pairs
  pub found : order.is_at number (λ (q : OpenOrder). order.is_source from q.phase && order.fits q pairs) (Some o) ≡ true

pub record Hearing (from : NodeNo) (l : Letter) (o : OpenOrder) (out back : List Letter) : Type 0 where
  pub leaf : is_some o.leaf ≡ true
  pub busy : Busy o out back ⊎ Comes from l o

module _ (z : Sizes) (b : ℕ) (low : b < 64) (inside : is_in z b ≡ true) where
  -- what an order that copies from the member has
  pub record Goes (a : Stage) (o : OpenOrder) (out back : List Letter) : Type 0 where
    pub leaf : is_some o.leaf ≡ true
    pub busy : (a ≡ part_owed) ⊎ Busy o out back

  abbrev pub At : Stage → Seat → List Letter → List Letter → Type 0
  At a x out back = (o : OpenOrder) → x.own.order ≡ Some o → o.phase ≡ Copying b → Goes a o out back

  pub sent-one : (source : ℕ) (l : Letter) → source ≡ b → gains z ((source, l) ∷ []) b ≡ l ∷ []
  sent-one source l e =
      ap (λ c. when_in c (if lands z source b then l ∷ [] else [])) inside
      ∙ ap (λ c. if c then l ∷ [] else []) (lands-same z source b low inside ∙ eq-eqb source b e)

  asked-now : (o : OpenOrder) (source : ℕ) (key : Option ℕ) (out back : List Letter) → source ≡ b
      → Busy o (out ++ gains z ((source, letter.CopyAsk o.number o.name key) ∷ []) b) back
  asked-now o source key out back e none f =
      let l = letter.CopyAsk o.number o.name key in
      let all : asks (Some o) o.name (out ++ l ∷ []) ≡ [] = subst (λ g. asks (Some o) o.name (out ++ g) ≡ []) (sent-one source l e) none in
      let last = nothing-first (asks (Some o) o.name out) (asks (Some o) o.name (l ∷ [])) (sym (asks-append (Some o) o.name out (l ∷ [])) ∙ all) in
      let no : copy key ∷ [] ≡ [] = sym (ap (λ k. k ++ []) (ask-is o key)) ∙ last.1 in
      cc

  -- a stage that owes no part
  rested : (a c : Stage) (o : OpenOrder) (out more back : List Letter) → (a ≡ part_owed → ⊥) → Goes a o out back → Goes c o (out ++ more) back
  rested a c o out more back never h =
      record { leaf = h.leaf; busy = elim h.busy [ inl i ↦ absurd (never i) | inr i ↦ inr (more-out o out more back i) ] }

  left : (a c : Stage) (x : Seat) (o : OpenOrder) (out more back : List Letter) → x.own.order ≡ Some o → Leaves x a c → Goes a o out back
      → Goes c o (out ++ more) back
  left a c x o out more back e (stays same) h =
      record { leaf = h.leaf; busy = elim h.busy [ inl i ↦ inl (sym same ∙ i) | inr i ↦ inr (more-out o out more back i) ] }
  left a c x o out more back e (refuses is next) h = rested a c o out more back (not-told a is) h
  left a c x o out more back e (copies_none p there none is next) h =
      absurd (no-leaf o.leaf (ap (λ (y : OpenOrder). y.leaf) (the-same o p (sym e ∙ there)) ∙ none) h.leaf)
  left a c x o out more back e (splits_none p there none split next) h =
      absurd (no-leaf o.leaf (ap (λ (y : OpenOrder). y.leaf) (the-same o p (sym e ∙ there)) ∙ none) h.leaf)

  -- another order: as this one but for its lists
  abbrev As : OpenOrder → Stage → List Letter → List Letter → Type 0
  As p a out back = p.phase ≡ Copying b → Goes a p out back

  this-one : (p : OpenOrder) (a : Stage) (out back : List Letter) → As p a out back → (o : OpenOrder) → Some p ≡ Some o
      → o.phase ≡ Copying b → Goes a o out back
  this-one p a out back h o e phase =
      let is = the-same p o e in
      subst (λ q. Goes a q out back) is (h (ap (λ (q : OpenOrder). q.phase) is ∙ phase))

  deed-at : (a c : Stage) (x y : Seat) (ls : List (NodeNo × Letter)) (out back : List Letter) (d : Deed x ls y) → Staged a c d → At a x out back
      → At c y (out ++ gains z ls b) back
  deed-at a c x _ ls out back (tells _ others) q h = λ o e phase. left a c x o out (gains z ls b) back e q (h o e phase)
  deed-at a c x y ls out back (takes mine leaf may) q h =
      λ o e phase. rested a c o out (gains z ls b) back (not-owed a q.0) (h o e phase)
  deed-at a c x y ls out back (pends p may) q h =
      λ o e phase. rested a c o out (gains z ls b) back (not-owed a q.0) (h o e phase)
  deed-at a c x y ls out back (drops txn) q h =
      λ o e phase. rested a c o out (gains z ls b) back (not-owed a q.0) (h o e phase)
  deed-at a c x y ls out back (joins name via may) q h = this-one _ c (out ++ gains z ls b) back (λ phase. cc)
  deed-at a c x y ls out back (splits leaf may) q h = this-one _ c (out ++ gains z ls b) back (λ phase. cc)
  deed-at a c x y ls out back (loses o m e known) q h =
      this-one _ c (out ++ gains z ls b) back (λ phase.
      let k = rested a c o out (gains z ls b) back (not-owed a q.0) (h o e phase) in record { leaf = k.leaf; busy = k.busy })
  deed-at a c x y ls out back (fixes o from leaf e may) q h =
      this-one _ c (out ++ gains z ls b) back (λ phase. absurd (not-leasing o.phase b may.leasing phase))
  deed-at a c x y ls out back (copies o leaf source e may) q h =
      this-one _ c (out ++ gains z ls b) back (λ phase. record {
        leaf = ap is_some may.fixed;
        busy = inr (asked-now (record o { copied = []; phase = Copying source }) source None out back (same-phase source b phase));
      })
  deed-at a c x _ ls out back (asks_more o source e phase) q h =
      λ p f its.
      let is = the-same o p (sym e ∙ f) in
      let from : source ≡ b = same-phase source b (sym phase ∙ ap (λ (y : OpenOrder). y.phase) is ∙ its) in
      record {
        leaf = (h p f its).leaf;
        busy = inr (subst (λ (y : OpenOrder). Busy y (out ++ gains z ls b) back) is (asked-now o source _ out back from));
      }
  deed-at a c x y ls out back (makes o made nodes e may) q h = this-one _ c (out ++ gains z ls b) back (λ phase. cc)
  deed-at a c x y ls out back (closes o e) q h = λ p f phase. cc
  deed-at a c x y ls out back (serves o made e phase) q h = λ p f phase. cc

  pub trip-at : (a c : Stage) (x y : Seat) (ls : List (NodeNo × Letter)) (out back : List Letter) → Trip a x ls c y → At a x out back
      → At c y (out ++ gains z ls b) back
  trip-at a _ x _ _ out back (arrives _ _) h =
      subst (λ g. At a x g back) (sym (ap (λ g. out ++ g) (none-gained z b) ∙ append-nil out)) h
  trip-at a c x z0 _ out back (does_next _ e _ _ y _ ls ms d q w) h =
      subst (λ g. At c z0 g back) (append_assoc out (gains z ls b) (gains z ms b) ∙ ap (λ g. out ++ g) (sym (gains-append z b ls ms)))
      (trip-at e c y z0 ms (out ++ gains z ls b) back w (deed-at a e x y ls out back d q h))

  -- before a letter is heard
  abbrev pub Before : NodeNo → Letter → Seat → List Letter → List Letter → Type 0
  Before from l x out back = (o : OpenOrder) → x.own.order ≡ Some o → o.phase ≡ Copying b → Hearing from l o out back

  -- a letter that isn't a part
  other : (from : NodeNo) (l : Letter) (x : Seat) (out more back : List Letter) → ((number : ℕ) (last : Bool) (pairs : List Pair)
      → l ≡ letter.CopyPart number last pairs → ⊥) → Before from l x out back → At nothing_owed x (out ++ more) back
  other from l x out more back never h o e phase =
      let k = h o e phase in
      record {
        leaf = k.leaf;
        busy = elim k.busy [ inl i ↦ inr (more-out o out more back i) | inr i ↦ absurd (never i.number i.last i.pairs i.is) ];
      }

  abbrev order_letter : Letter → Bool
  order_letter (letter.CopyPart number last pairs) = true
  order_letter other = false

  not-part : (l : Letter) → order_letter l ≡ false → (number : ℕ) (last : Bool) (pairs : List Pair) → l ≡ letter.CopyPart number last pairs → ⊥
  not-part l f number last pairs e = both_ways (order_letter l) f (ap order_letter e)

  refused-part : (from : NodeNo) (x : Seat) (number : ℕ) (last : Bool) (pairs : List Pair) (out more back : List Letter)
      → order.is_at number (λ (q : OpenOrder). order.is_source from q.phase && order.fits q pairs) x.own.order ≡ false
      → Before from (letter.CopyPart number last pairs) x out back → At nothing_owed x (out ++ more) back
  refused-part from x number last pairs out more back never h o e phase =
      let k = h o e phase in
      record {
        leaf = k.leaf;
        busy = elim k.busy [
          | inl i ↦ inr (more-out o out more back i)
          | inr i ↦
              let same : number ≡ i.number = numbers number i.number last i.last pairs i.pairs i.is in
              let all : pairs ≡ i.pairs = contents number i.number last i.last pairs i.pairs i.is in
              let taken = subst (λ k. order.is_at k (λ (q : OpenOrder). order.is_source from q.phase && order.fits q pairs) (Some o) ≡ true) (sym same)
              (subst (λ ps. order.is_at i.number (λ (q : OpenOrder). order.is_source from q.phase && order.fits q ps) (Some o) ≡ true) (sym all) i.found) in
              absurd (both_ways (order.is_at number (λ (q : OpenOrder). order.is_source from q.phase && order.fits q pairs) (Some o))
              (subst (λ q. order.is_at number (λ (p : OpenOrder). order.is_source from p.phase && order.fits p pairs) q ≡ false) e never) taken)
        ];
      }
    where
      numbers : (a c : ℕ) (d f : Bool) (ps qs : List Pair) → letter.CopyPart a d ps ≡ letter.CopyPart c f qs → a ≡ c
      numbers a c d f ps qs e = cc

      contents : (a c : ℕ) (d f : Bool) (ps qs : List Pair) → letter.CopyPart a d ps ≡ letter.CopyPart c f qs → ps ≡ qs
      contents a c d f ps qs e = cc

  heard-at : (from : NodeNo) (l : Letter) (x y : Seat) (ls : List (NodeNo × Letter)) (out back : List Letter) (h : Hears from x l ls y)
      → Before from l x out back → At (owed h) y (out ++ gains z ls b) back
  heard-at from l x y ls out back (gives number what leaf there free stamp unknown) g = other from l x out (gains z ls b) back (not-part l refl) g
  heard-at from l x _ ls out back (denies number what why) g = other from l x out (gains z ls b) back (not-part l refl) g
  heard-at from l x y ls out back (releases number name) g = other from l x out (gains z ls b) back (not-part l refl) g
  heard-at from l x _ ls out back (sends_part number name place last pairs given there) g = other from l x out (gains z ls b) back (not-part l refl) g
  heard-at from l x _ ls out back (sends_none number name place e) g = other from l x out (gains z ls b) back (not-part l refl) g
  heard-at from l x y ls out back (installs number leaf mine may) g = other from l x out (gains z ls b) back (not-part l refl) g
  heard-at from l x _ ls out back (installs_not number leaf f) g = other from l x out (gains z ls b) back (not-part l refl) g
  heard-at from l x y ls out back (grants number leaf o f) g =
      this-one _ _ (out ++ gains z ls b) back (λ phase. absurd (not-leasing o.phase b (and_parts (order.is_leasing o.phase) _ f.passes).0 phase))
  heard-at from l x _ ls out back (grants_not number leaf e) g = other from l x out (gains z ls b) back (not-part l refl) g
  heard-at from l x y ls out back (is_refused number why o f) g = λ p e phase. cc
  heard-at from l x _ ls out back (refused_not number why e) g = other from l x out (gains z ls b) back (not-part l refl) g
  heard-at from l x y ls out back (copies_part number last pairs o f) g =
      this-one _ part_owed (out ++ gains z ls b) back (λ phase. record { leaf = (g o f.there phase).leaf; busy = inl refl })
  heard-at from l x _ ls out back (copies_not number last pairs e) g = refused-part from x number last pairs out (gains z ls b) back e g
  heard-at from l x y ls out back (is_installed number name o f) g =
      this-one _ nothing_owed (out ++ gains z ls b) back (λ phase. absurd (not-installing o.phase b f.passes phase))
  heard-at from l x _ ls out back (installed_not number name e) g = other from l x out (gains z ls b) back (not-part l refl) g
  heard-at from l x y ls out back (learns below ne) g = other from l x out (gains z ls b) back (not-part l refl) g
  heard-at from l x _ ls out back (hears_other _ e) g = other from l x out (gains z ls b) back (λ number last pairs f. no-part l number last pairs e f) g
    where
      no-part : (l : Letter) (number : ℕ) (last : Bool) (pairs : List Pair) → is_of_orders l ≡ false → l ≡ letter.CopyPart number last pairs → ⊥
      no-part l number last pairs e f = both_ways (is_of_orders l) e (ap is_of_orders f)

  -- a turn
  pub turn-at : (s : BrickState) (from : NodeNo) (l : Letter) (out back : List Letter) → Turns from (seat s) l (live_brick_turn s from l)
      → Before from l (seat s) out back → At nothing_owed (seat (live_brick_turn s from l).state) (out ++ gains z (live_brick_turn s from l).out.letters b) back
  turn-at s from l out back t h =
      let first : Before from l t.first out back = λ o e phase. h o (sym t.first_order ∙ e) phase in
      let u = seat (live_brick_turn s from l).state in
      let heard = heard-at from l t.first t.next t.answers out back t.hears first in
      let done = trip-at (owed t.hears) nothing_owed t.next u t.letters (out ++ gains z t.answers b) back t.trip heard in
      subst (λ ls. At nothing_owed u (out ++ gains z ls b) back) (sym t.all)
      (subst (λ g. At nothing_owed u g back)
      (append_assoc out (gains z t.answers b) (gains z t.letters b) ∙ ap (λ g. out ++ g) (sym (gains-append z b t.answers t.letters))) done)

  -- so where nothing is owed, it is busy
  pub at-busy : (x : Seat) (out back : List Letter) → At nothing_owed x out back → (o : OpenOrder) → x.own.order ≡ Some o
      → o.phase ≡ Copying b → Busy o out back
  at-busy x out back h o e phase = elim (h o e phase).busy [ inl i ↦ absurd (not-owed nothing_owed refl i) | inr i ↦ i ]
