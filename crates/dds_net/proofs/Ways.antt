use Rattle.std.proofs.Common.{◌≡◌, ℕ, zero, suc, ◌+◌, ◌-◌, ◌<◌, ◌≤◌, ◌⊎◌, inl, inr, ◌==◌, ◌&&◌, Bool, true, false, Option, Some, None, List, [], ◌∷◌, ◌++◌}
use Rattle.std.proofs.Common.{length, refl, sym, ap, ◌∙◌, subst, arith}
use Rattle.std.proofs.lemmas.Bool.{and_from, cases_lt, eq-eqb}
use Rattle.std.specs.List.{AllByRecursion}
use Rattle.std.specs.Prelude.{slice_get, slice_index_or, if◌then◌else◌}
use Rattle.dds_letters.specs.declared.letter.Letter.{Letter}
use Rattle.dds_states.specs.declared.brick_state.BrickState.{BrickState}
use Rattle.dds_states.specs.declared.library_state.LibraryState.{LibraryState}
use Rattle.dds_cluster.proofs.Sizes.{IsSized}
use Rattle.dds_world.specs.Places.{Travels}
use Rattle.dds_cluster.specs.World.{World, brick_at, library_at, link, place}
use Rattle.dds_cluster.specs.declared.step.Message.{Message}
use Rattle.dds_net.specs.Net.{nowhere, a_brick, a_library, Sizes, box, channel, channel_at, is_in, lane, letters_of, node_at, node_in, place_in, sent, when_in}
use Rattle.dds_net.proofs.Links.{row-length}
use Rattle.dds_net.proofs.Nodes.{brick-place, library-place}
use Rattle.dds_net.proofs.Places.{high-in, is-in, low-in, place-is}

-- What the nodes and channels say of the world.

-- a fact of all letters of a channel, and one of them
all-at : (P : Letter → Type 0) (ms : List Message) (at : ℕ) (m : Message) → AllByRecursion P (letters_of ms) → slice_get ms at ≡ Some m → P m.letter
all-at P [] at m h e = cc
all-at P (x ∷ ms) zero m h e = let is : x ≡ m = cc in subst (λ (y : Message). P y.letter) is h.0
all-at P (x ∷ ms) (suc at) m h e = all-at P ms at m h.1 e

on-link : (P : Letter → Type 0) (xs ys : List Message) → AllByRecursion P (letters_of (xs ++ ys)) → AllByRecursion P (letters_of xs)
on-link P [] ys h = tt
on-link P (x ∷ xs) ys h = (h.0, on-link P xs ys h.1)

in-outbox : (P : Letter → Type 0) (xs ys : List Message) → AllByRecursion P (letters_of (xs ++ ys)) → AllByRecursion P (letters_of ys)
in-outbox P [] ys h = h
in-outbox P (x ∷ xs) ys h = in-outbox P xs ys h.1

sent-first : (P : Letter → Type 0) (c : Bool) (m : Message) (ms : List Message) → c ≡ true → AllByRecursion P (letters_of (if c then m ∷ ms else ms))
    → P m.letter
sent-first P true m ms e h = h.0
sent-first P false m ms e h = cc

sent-rest : (P : Letter → Type 0) (c : Bool) (m : Message) (ms : List Message) → AllByRecursion P (letters_of (if c then m ∷ ms else ms))
    → AllByRecursion P (letters_of ms)
sent-rest P true m ms h = h.1
sent-rest P false m ms h = h

sent-at : (P : Letter → Type 0) (b j : ℕ) (ms : List Message) (at : ℕ) (m : Message) → AllByRecursion P (letters_of (sent b j ms)) → slice_get ms at ≡ Some m
    → place_in b m.to ≡ j → P m.letter
sent-at P b j [] at m h e p = cc
sent-at P b j (x ∷ ms) zero m h e p =
    let is : x ≡ m = cc in
    subst (λ (y : Message). P y.letter) is (sent-first P (place_in b x.to == j) x (sent b j ms)
    (eq-eqb (place_in b x.to) j (ap (λ (y : Message). place_in b y.to) is ∙ p)) h)
sent-at P b j (x ∷ ms) (suc at) m h e p = sent-at P b j ms at m (sent-rest P (place_in b x.to == j) x (sent b j ms) h) e p

guarded : (c : Bool) (ls : List Letter) → c ≡ true → when_in c ls ≡ ls
guarded true ls e = refl
guarded false ls e = cc

pub channel-is : (z : Sizes) (w : World) (a b : ℕ) → is_in z a ≡ true → is_in z b ≡ true
    → channel_at z w a b ≡ letters_of (channel w z.bricks (place_in z.bricks a) (place_in z.bricks b))
channel-is z w a b ha hb = guarded (is_in z a && is_in z b) _ (and_from (is_in z a) (is_in z b) ha hb)

pub travels : (P : Letter → Type 0) (z : Sizes) (w : World) (from to : ℕ) (l : Letter) → IsSized z.bricks z.libraries w → Travels w from to l
    → AllByRecursion P (channel_at z w from to) → P l
travels P z w from to l g t h =
    let i = place_in z.bricks from in
    let j = place_in z.bricks to in
    let k = subst (AllByRecursion P) (channel-is z w from to (sym (is-in z w from g) ∙ t.sender) (sym (is-in z w to g) ∙ t.receiver)) h in
    subst P t.letter (elim t.place [
      | inl on ↦
          let e : link w from to ≡ lane w i j = ap (λ p. lane w p (place w to)) (place-is z w from g) ∙ ap (lane w i) (place-is z w to g) in
          all-at P (lane w i j) t.at t.message (on-link P (lane w i j) (sent z.bricks j (box w i)) k) (sym (ap (λ ms. slice_get ms t.at) e) ∙ on)
      | inr on ↦
          sent-at P z.bricks j (box w i) t.at t.message (in-outbox P (lane w i j) (sent z.bricks j (box w i)) k)
          (sym (ap (λ p. slice_get (box w p) t.at) (place-is z w from g)) ∙ on.0) (ap (place_in z.bricks) on.1)
    ])

-- the node at a place
pub record IsAt (z : Sizes) (i : ℕ) : Type 0 where
  pub node : ℕ
  pub inside : is_in z node ≡ true
  pub place : place_in z.bricks node ≡ i

node-at : (z : Sizes) (i : ℕ) → z.bricks ≤ 64 → i < z.bricks + z.libraries → IsAt z i
node-at z i few h = elim (cases_lt i z.bricks) [
  | inl low ↦ record { node = i; inside = low-in z i (omega (arith, few, low)) low; place = brick-place z.bricks i (omega (arith, few, low)) }
  | inr high ↦
      let p = library-place z.bricks (64 + (i - z.bricks)) (omega arith) in
      record { node = 64 + (i - z.bricks); inside = high-in z (64 + (i - z.bricks)) (omega arith) (omega (arith, high, h)); place = p ∙ omega (arith, high) }
]

beyond : {X : Type 0} (xs : List X) (i : ℕ) (d : X) → length xs ≤ i → slice_index_or xs i d ≡ d
beyond [] i d h = refl
beyond (x ∷ xs) zero d h = absurd (omega (arith, h))
beyond (x ∷ xs) (suc i) d h = beyond xs i d (omega (arith, h))

-- what a link holds: the front of what is on its way between two nodes, or nothing
pub data LinkIs (z : Sizes) (w : World) (ms : List Message) : Type 0 where
  no_link : ms ≡ [] → LinkIs z w ms
  some_link : (a b : ℕ) → is_in z b ≡ true → (more : List Message) → channel_at z w a b ≡ letters_of (ms ++ more) → LinkIs z w ms

link-if : (z : Sizes) (w : World) (p q : ℕ) → z.bricks ≤ 64 → IsSized z.bricks z.libraries w → (p < z.bricks + z.libraries) ⊎ (z.bricks + z.libraries ≤ p)
    → (q < z.bricks + z.libraries) ⊎ (z.bricks + z.libraries ≤ q) → LinkIs z w (lane w p q)
link-if z w p q few g (inr far) k = let s = g.links in no_link (ap (λ row. slice_index_or row q []) (beyond w.links p [] (omega (arith, s, far))))
link-if z w p q few g (inl h) (inr far) =
    let s = g.links in
    let r = row-length (z.bricks + z.libraries) w.links p g.rows (omega (arith, s, h)) in
    no_link (beyond (slice_index_or w.links p []) q [] (omega (arith, r, far)))
link-if z w p q few g (inl h) (inl k) =
    let a = node-at z p few h in
    let b = node-at z q few k in
    some_link a.node b.node b.inside (sent z.bricks q (box w p))
    (channel-is z w a.node b.node a.inside b.inside
    ∙ ap (λ i. letters_of (channel w z.bricks i (place_in z.bricks b.node))) a.place
    ∙ ap (λ j. letters_of (channel w z.bricks p j)) b.place)

pub link-is : (z : Sizes) (w : World) (from to : ℕ) → z.bricks ≤ 64 → IsSized z.bricks z.libraries w → LinkIs z w (link w from to)
link-is z w from to few g =
    link-if z w (place w from) (place w to) few g (cases_lt (place w from) (z.bricks + z.libraries)) (cases_lt (place w to) (z.bricks + z.libraries))

-- the link of two nodes
front-empty : (xs ys : List Message) → letters_of (xs ++ ys) ≡ [] → xs ≡ []
front-empty [] ys e = refl
front-empty (x ∷ xs) ys e = cc

pub nothing-on : (z : Sizes) (w : World) (a b : ℕ) → IsSized z.bricks z.libraries w → is_in z a ≡ true → is_in z b ≡ true → channel_at z w a b ≡ []
    → link w a b ≡ []
nothing-on z w a b g ha hb e =
    let i = place_in z.bricks a in
    let j = place_in z.bricks b in
    ap (λ p. lane w p (place w b)) (place-is z w a g) ∙ ap (lane w i) (place-is z w b g)
    ∙ front-empty (lane w i j) (sent z.bricks j (box w i)) (sym (channel-is z w a b ha hb) ∙ e)

-- the brick or library at a number
pub data NodeIs (w : World) (n : ℕ) : Type 0 where
  is_nowhere : node_at w n ≡ nowhere → NodeIs w n
  is_brick : (s : BrickState) → brick_at w n ≡ Some s → node_at w n ≡ a_brick s → NodeIs w n
  is_library : (s : LibraryState) → library_at w n ≡ Some s → node_at w n ≡ a_library s → NodeIs w n

node-if : (w : World) (n : ℕ) (x : Option BrickState) (y : Option LibraryState) → brick_at w n ≡ x → library_at w n ≡ y → NodeIs w n
node-if w n None None e f = is_nowhere (ap (λ o. node_in o (library_at w n)) e ∙ ap (node_in None) f)
node-if w n None (Some s) e f = is_library s f (ap (λ o. node_in o (library_at w n)) e ∙ ap (node_in None) f)
node-if w n (Some s) y e f = is_brick s e (ap (λ o. node_in o (library_at w n)) e)

pub node-is : (w : World) (n : ℕ) → NodeIs w n
node-is w n = node-if w n (brick_at w n) (library_at w n) refl refl
