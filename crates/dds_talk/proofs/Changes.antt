use Rattle.std.proofs.Common.{◌≡◌, ℕ, inl, inr, ◌==◌, Bool, true, false, List, [], ◌∷◌, ◌++◌, Option, Some, None, refl, sym, ap, ◌∙◌, subst, eqb}
use Rattle.std.proofs.lemmas.Bool.{cases_eq, eq-eqb, ne_eqb}
use Rattle.std.proofs.lemmas.List.{append-nil}
use Rattle.std.specs.Prelude.{drop, if◌then◌else◌}
use Rattle.dds_base.specs.Number.{Txn, same_txn}
use Rattle.dds_base.specs.declared.number.NodeNo.{NodeNo}
use Rattle.dds_letters.specs.declared.letter.Letter.{Letter}
use Rattle.dds_letters.specs.declared.letter.Letter.TheVariants as letter
use Rattle.dds_net.proofs.Puts.{first-taken, other-from, other-to}
use Rattle.dds_net.specs.Event.{IsFirst, IsFront, does, notice_to, stops, takes}
use Rattle.dds_net.specs.Net.{Change, Net, Node, Sizes, changed, gains, put}
use Rattle.dds_talk.proofs.Letters.{about-append}
use Rattle.dds_talk.proofs.Parts.{is-same}
use Rattle.dds_talk.specs.Seen.{about, of, one}

-- What a change of one node does to the nodes and the channels.

pub put-here : {X : Type 0} (n : ℕ) (x : X) (f : ℕ → X) → put n x f n ≡ x
put-here n x f = let e : eqb n n ≡ true = eq-eqb n n refl in rw e refl

pub put-other : {X : Type 0} (n : ℕ) (x : X) (f : ℕ → X) (i : ℕ) → (i ≡ n → ⊥) → put n x f i ≡ f i
put-other n x f i ne = let e : eqb i n ≡ false = ne_eqb i n ne in rw e refl

from-here : (w : Net) (c : Change) (b : ℕ) → (changed w c).channel c.at b ≡ c.left b ++ c.gains b
from-here w c b = let e : eqb c.at c.at ≡ true = eq-eqb c.at c.at refl in rw e refl

to-here : (w : Net) (c : Change) (a : ℕ) → (a ≡ c.at → ⊥) → (changed w c).channel a c.at ≡ c.rest a
to-here w c a ne = let e : eqb a c.at ≡ false = ne_eqb a c.at ne in let f : eqb c.at c.at ≡ true = eq-eqb c.at c.at refl in rw (e, f) refl

far-away : (w : Net) (c : Change) (a b : ℕ) → (a ≡ c.at → ⊥) → (b ≡ c.at → ⊥) → (changed w c).channel a b ≡ w.channel a b
far-away w c a b na nb = let e : eqb a c.at ≡ false = ne_eqb a c.at na in let f : eqb b c.at ≡ false = ne_eqb b c.at nb in rw (e, f) refl

-- a node has become another one, and sent these letters
pub record Turned (z : Sizes) (w v : Net) (n : ℕ) (x y : Node) (ls : List (NodeNo × Letter)) : Type 0 where
  pub here : w.node n ≡ x
  pub is : v.node n ≡ y
  pub others : (i : ℕ) → (i ≡ n → ⊥) → v.node i ≡ w.node i
  pub from : (b : ℕ) → (b ≡ n → ⊥) → v.channel n b ≡ w.channel n b ++ gains z ls b
  pub far : (a b : ℕ) → (a ≡ n → ⊥) → (b ≡ n → ⊥) → v.channel a b ≡ w.channel a b

pub takes-turned : (z : Sizes) (w : Net) (at from : ℕ) (x y : Node) (ls : List (NodeNo × Letter)) → w.node at ≡ x
    → Turned z w (changed w (takes z w at from y ls)) at x y ls
takes-turned z w at from x y ls here =
    let c = takes z w at from y ls in
    record {
      here = here;
      is = put-here at y w.node;
      others = λ i ne. put-other at y w.node i ne;
      from = λ b ne. from-here w c b ∙ ap (λ r. r ++ gains z ls b) (other-to w at from at b ne);
      far = λ a b na nb. far-away w c a b na nb;
    }

pub does-turned : (z : Sizes) (w : Net) (at : ℕ) (x y : Node) (ls : List (NodeNo × Letter)) → w.node at ≡ x
    → Turned z w (changed w (does z w at y ls)) at x y ls
does-turned z w at x y ls here =
    let c = does z w at y ls in
    record {
      here = here;
      is = put-here at y w.node;
      others = λ i ne. put-other at y w.node i ne;
      from = λ b ne. from-here w c b;
      far = λ a b na nb. far-away w c a b na nb;
    }

-- what comes to it: the first letter of a channel is gone, where one was taken
pub record Taken (w v : Net) (n from : ℕ) (l : Letter) : Type 0 where
  pub first : w.channel from n ≡ l ∷ v.channel from n
  pub others : (a : ℕ) → (a ≡ n → ⊥) → (a ≡ from → ⊥) → v.channel a n ≡ w.channel a n

pub is-taken : (z : Sizes) (w : Net) (at from : ℕ) (l : Letter) (y : Node) (ls : List (NodeNo × Letter)) → (from ≡ at → ⊥) → IsFirst z w at from l
    → Taken w (changed w (takes z w at from y ls)) at from l
is-taken z w at from l y ls apart f =
    let c = takes z w at from y ls in
    record {
      first = f.first ∙ ap (λ r. l ∷ r) (sym (to-here w c from apart ∙ first-taken w at from ∙ ap (drop 1) f.first));
      others = λ a na nf. to-here w c a na ∙ other-from w at from a at nf;
    }

pub does-rest : (z : Sizes) (w : Net) (at : ℕ) (y : Node) (ls : List (NodeNo × Letter)) (a : ℕ) → (a ≡ at → ⊥)
    → (changed w (does z w at y ls)).channel a at ≡ w.channel a at
does-rest z w at y ls a ne = to-here w (does z w at y ls) a ne

-- a node takes its own letter: what comes from others stays
pub takes-rest : (z : Sizes) (w : Net) (at from : ℕ) (y : Node) (ls : List (NodeNo × Letter)) (a : ℕ) → (a ≡ at → ⊥) → (a ≡ from → ⊥)
    → (changed w (takes z w at from y ls)).channel a at ≡ w.channel a at
takes-rest z w at from y ls a na nf = to-here w (takes z w at from y ls) a na ∙ other-from w at from a at nf

-- a node has stopped
pub record Ended (z : Sizes) (w v : Net) (n : ℕ) (x y : Node) (kept : ℕ → List Letter) : Type 0 where
  pub here : w.node n ≡ x
  pub is : v.node n ≡ y
  pub others : (i : ℕ) → (i ≡ n → ⊥) → v.node i ≡ w.node i
  pub front : (b : ℕ) → IsFront (kept b) (w.channel n b)
  pub from : (b : ℕ) → v.channel n b ≡ kept b ++ notice_to z n b
  pub far : (a b : ℕ) → (a ≡ n → ⊥) → v.channel a b ≡ w.channel a b

stop-far : (z : Sizes) (w : Net) (at : ℕ) (y : Node) (kept : ℕ → List Letter) (a b : ℕ) → (a ≡ at → ⊥)
    → (changed w (stops z w at y kept)).channel a b ≡ w.channel a b
stop-far z w at y kept a b ne = elim (cases_eq b at) [
  | inl e ↦ subst (λ i. (changed w (stops z w at y kept)).channel a i ≡ w.channel a i) (sym e) (to-here w (stops z w at y kept) a ne)
  | inr nb ↦ far-away w (stops z w at y kept) a b ne nb
]

pub stops-ended : (z : Sizes) (w : Net) (at : ℕ) (x y : Node) (kept : ℕ → List Letter) → w.node at ≡ x → ((b : ℕ) → IsFront (kept b) (w.channel at b))
    → Ended z w (changed w (stops z w at y kept)) at x y kept
stops-ended z w at x y kept here f =
    record {
      here = here;
      is = put-here at y w.node;
      others = λ i ne. put-other at y w.node i ne;
      front = f;
      from = λ b. from-here w (stops z w at y kept) b;
      far = λ a b ne. stop-far z w at y kept a b ne;
    }

-- the letter that is taken, as an attempt sees it
abbrev pub IsOwn : {X : Type 0} → (Txn → ℕ) → ℕ → Option (Txn × X) → Type 0
IsOwn of_node from None = Unit {0}
IsOwn of_node from (Some p) = of_node p.0 ≡ from

not-own : {X : Type 0} (t : Txn) (from : ℕ) (y : Option (Txn × X)) → IsOwn (λ u. u.library) from y → (t.library ≡ from → ⊥) → of t y ≡ []
not-own t from None h ne = refl
not-own t from (Some p) h ne = elim (same_txn p.0 t) as (λ b. same_txn p.0 t ≡ b → one b p.1 ≡ []) [
  | true ↦ λ k. absurd (ne (sym (ap (λ (u : Txn). u.library) (is-same p.0 t k)) ∙ h))
  | false ↦ λ k. refl
] refl

-- at a member: of the attempt's library, no other node sends letters of it
pub into-member : {X : Type 0} (v : Letter → Option (Txn × X)) (w u : Net) (n from : ℕ) (l : Letter) (t : Txn) → Taken w u n from l
    → IsOwn (λ x. x.library) from (v l) → (t.library ≡ n → ⊥) → about v t (w.channel t.library n) ≡ of t (v l) ++ about v t (u.channel t.library n)
into-member v w u n from l t k own ne = elim (cases_eq t.library from) [
  | inl e ↦ subst (λ i. about v t (w.channel i n) ≡ of t (v l) ++ about v t (u.channel i n)) (sym e) (ap (about v t) k.first)
  | inr nf ↦ sym (ap (λ xs. xs ++ about v t (u.channel t.library n)) (not-own t from (v l) own nf) ∙ ap (about v t) (k.others t.library ne nf))
]

-- at a library: what is heard of an attempt from a node
abbrev pub heard_of : {X : Type 0} → (Letter → Option (Txn × X)) → ℕ → Letter → Txn → ℕ → List X
heard_of v from l t m = if m == from then of t (v l) else []

pub into-library : {X : Type 0} (v : Letter → Option (Txn × X)) (w u : Net) (n from : ℕ) (l : Letter) (t : Txn) (m : ℕ) → Taken w u n from l
    → (m ≡ n → ⊥) → about v t (w.channel m n) ≡ heard_of v from l t m ++ about v t (u.channel m n)
into-library v w u n from l t m k ne = elim (cases_eq m from) [
  | inl e ↦
      let q : eqb m from ≡ true = eq-eqb m from e in
      rw q (subst (λ i. about v t (w.channel i n) ≡ of t (v l) ++ about v t (u.channel i n)) (sym e) (ap (about v t) k.first))
  | inr nf ↦ let q : eqb m from ≡ false = ne_eqb m from nf in rw q (sym (ap (about v t) (k.others m ne nf)))
]

-- a notice says nothing of attempts
pub about-kept : {X : Type 0} (v : Letter → Option (Txn × X)) (t : Txn) (z : Sizes) (n b : ℕ) (kept : List Letter) → v letter.Notice ≡ None
    → about v t (kept ++ notice_to z n b) ≡ about v t kept
about-kept v t z n b kept e =
    about-append v t kept (notice_to z n b) ∙ ap (λ xs. about v t kept ++ xs) (none _) ∙ append-nil (about v t kept)
  where
    none : (c : Bool) → about v t (if c then letter.Notice ∷ [] else []) ≡ []
    none true = ap (λ o. of t o ++ []) e
    none false = refl
