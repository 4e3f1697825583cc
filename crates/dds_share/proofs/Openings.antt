use Rattle.std.proofs.Common.{◌≡◌, ℕ, Bool, true, false, Option, None, Some, List, [], ◌∷◌, refl, sym, ap, ◌∙◌, subst}
use Rattle.std.proofs.lemmas.Bool.{both_ways}
use Rattle.std.specs.List.{AllByRecursion}
use Rattle.std.specs.Prelude.{filter, if◌then◌else◌}
use Rattle.dds_base.specs.BrickList.{has}
use Rattle.dds_base.specs.Name.{Name, overlaps}
use Rattle.dds_base.specs.declared.leaf.Leaf.{Leaf}
use Rattle.dds_cluster.specs.Trace.{start}
use Rattle.dds_cluster.specs.World.{new_brick}
use Rattle.dds_law_own.proofs.Halves.{overlap-sym}
use Rattle.dds_law_own.proofs.Lists.{ByName, each-is, in-all, in-empty, none-passes}
use Rattle.dds_net.proofs.Opening.{IsNew, new_a_brick, new_a_library, no_node, start-channel, start-node}
use Rattle.dds_net.specs.Net.{Node, a_brick, a_library, net, nowhere, sizes_of}
use Rattle.dds_order_talk.proofs.Runs.{run-within}
use Rattle.dds_parents.proofs.Openings.{start-listed}
use Rattle.dds_parents.proofs.Splits.{run-split}
use Rattle.dds_script.specs.Opening.{AreApart, IsOpening, OpeningOf}
use Rattle.dds_states.specs.declared.brick_state.BrickState.{BrickState}
use Rattle.dds_share.proofs.Facts.{AreLow}
use Rattle.dds_share.proofs.Over.{over-both}
use Rattle.dds_share.proofs.Parts.{FromBrick}
use Rattle.dds_share.proofs.Together.{AreTogether}

-- Before the first step: bricks have the opening's leaves that list them, and no orders.

-- a leaf of a list
data Among : List Leaf → Leaf → Type 0 where
  first : {l : Leaf} {ls : List Leaf} → Among (l ∷ ls) l
  later : {k l : Leaf} {ls : List Leaf} → Among ls l → Among (k ∷ ls) l

clear-of : (ls : List Leaf) (k l : Leaf) → AllByRecursion (λ (x : Leaf). overlaps x.name k.name ≡ false) ls → Among ls l → overlaps l.name k.name ≡ true → ⊥
clear-of _ k l all first e = both_ways (overlaps l.name k.name) all.0 e
clear-of _ k l all (later h) e = clear-of _ k l all.1 h e

one-among : (ls : List Leaf) (x y : Leaf) → AreApart ls → Among ls x → Among ls y → overlaps x.name y.name ≡ true → x ≡ y
one-among _ x y apart first first e = refl
one-among (l ∷ ls) x y apart first (later h) e =
    absurd (clear-of ls x y (none-passes (λ (k : Leaf). overlaps k.name x.name) ls apart.0) h (overlap-sym x.name y.name e))
one-among (l ∷ ls) x y apart (later h) first e = absurd (clear-of ls y x (none-passes (λ (k : Leaf). overlaps k.name y.name) ls apart.0) h e)
one-among (l ∷ ls) x y apart (later h) (later k) e = one-among ls x y apart.1 h k e

-- the leaves of a brick
abbrev IsOf : List Leaf → ℕ → Name → Leaf → Type 0
IsOf ls me name leaf = (leaf.name ≡ name) × Among ls leaf × (has leaf.list me ≡ true)

kept-if : (all : List Leaf) (me : ℕ) (c : Bool) (l : Leaf) (ls : List Leaf) → has l.list me ≡ c → Among all l
    → AllByRecursion (λ (x : Leaf). IsOf all me x.name x) ls → AllByRecursion (λ (x : Leaf). IsOf all me x.name x) (if c then l ∷ ls else ls)
kept-if all me true l ls e h k = ((refl, h, e), k)
kept-if all me false l ls e h k = k

all-of-it : (all : List Leaf) (me : ℕ) (ls : List Leaf) → ((l : Leaf) → Among ls l → Among all l)
    → AllByRecursion (λ (x : Leaf). IsOf all me x.name x) (filter (λ (l : Leaf). has l.list me) ls)
all-of-it all me [] f = tt
all-of-it all me (l ∷ ls) f = kept-if all me (has l.list me) l _ refl (f l first) (all-of-it all me ls (λ k h. f k (later h)))

brick-has : (o : OpeningOf) (me : ℕ) → ByName (IsOf o.leaves me) (new_brick o.leaves me).leaves
brick-has o me =
    in-all (IsOf o.leaves me) _ (filter (λ (l : Leaf). has l.list me) o.leaves) (all-of-it o.leaves me o.leaves (λ l h. h)) (in-empty (IsOf o.leaves me))

-- a node of the opening
abbrev IsFirst : OpeningOf → ℕ → Node → Type 0
IsFirst o k nowhere = Unit {0}
IsFirst o k (a_brick s) = ByName (IsOf o.leaves k) s.leaves × (s.order ≡ None)
IsFirst o k (a_library s) = Unit {0}

first-node : (o : OpeningOf) (k : ℕ) (x : Node) → IsNew o k x → IsFirst o k x
first-node o k x (no_node e) = subst (IsFirst o k) (sym e) tt
first-node o k x (new_a_brick e) = subst (IsFirst o k) (sym e) (brick-has o k, refl)
first-node o k x (new_a_library high e) = subst (IsFirst o k) (sym e) tt

pub start-together : (o : OpeningOf) → IsOpening o → AreTogether (net (sizes_of o) (start o).world)
start-together o h =
    record {
      share = λ a b spot s t leaf other x y.
          let p = its a s x.here in
          let q = its b t y.here in
          let l = each-is _ _ leaf x.over.there (p.0 x.over.name) in
          let k = each-is _ _ other y.over.there (q.0 y.over.name) in
          let meet = subst (λ i. overlaps leaf.name i ≡ true) (sym k.0) (subst (λ i. overlaps i y.over.name ≡ true) (sym l.0)
          (over-both x.over.name y.over.name spot x.over.over y.over.over)) in
          ap (λ (z : Leaf). has z.list b) (one-among o.leaves leaf other h.apart l.1 k.1 meet) ∙ k.2;
      granted = λ j b spot s t q other x ne y over. absurd (none (its j s x.here).1 x.there);
      apart = λ j k spot s t q p x y ne over also. none (its j s x.here).1 x.there;
      fixed = λ j s q here live there join phase. absurd (none (its j s here).1 there);
    }
  where
    its : (k : ℕ) (s : BrickState) → (net (sizes_of o) (start o).world).node k ≡ a_brick s → IsFirst o k (a_brick s)
    its k s e = subst (IsFirst o k) e (first-node o k _ (start-node o k))

    none : {X : Type 0} {q : Option X} {p : X} → q ≡ None → q ≡ Some p → ⊥
    none {X = X} {p = p} e f = let no : None ≡ Some p = sym e ∙ f in cc

pub start-low : (o : OpeningOf) → IsOpening o → AreLow (sizes_of o) (net (sizes_of o) (start o).world)
start-low o h =
    record {
      listed = start-listed o h;
      split = run-split o [] h refl;
      within = run-within o [] h refl;
      parts = λ a b. subst (AllByRecursion (FromBrick a ((net (sizes_of o) (start o).world).node a))) (sym (start-channel o a b)) tt;
    }
