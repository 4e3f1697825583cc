use Rattle.std.proofs.Common.{◌≡◌, ℕ, ◌-◌, ◌==◌, ◌++◌, Bool, true, false, List, [], ◌∷◌, refl, sym, ap, ◌∙◌, subst, arith}
use Rattle.std.specs.FinMap.{empty}
use Rattle.std.specs.List.{AllByRecursion}
use Rattle.std.specs.Prelude.{filter, ◌+◌, if◌then◌else◌}
use Rattle.dds_base.specs.BrickList.{has}
use Rattle.dds_base.specs.Name.{covers}
use Rattle.dds_base.specs.declared.leaf.Leaf.{Leaf}
use Rattle.dds_cluster.specs.Trace.{start}
use Rattle.dds_cluster.specs.World.{new_brick}
use Rattle.dds_core.proofs.Lists.{all-filter}
use Rattle.dds_law_leaf.proofs.Book.{InMap}
use Rattle.dds_law_leaf.proofs.Maps.{in-all, in-empty}
use Rattle.dds_law_own.proofs.Changes.{own}
use Rattle.dds_law_own.proofs.Keeps as law_own
use Rattle.dds_law_own.proofs.Parted.{IsBoth}
use Rattle.dds_maps.specs.Judge.{put_all}
use Rattle.dds_net.proofs.Opening.{IsNew, new_a_brick, new_a_library, no_node, start-channel, start-node}
use Rattle.dds_net.specs.Net.{Net, Node, a_brick, net, sizes_of}
use Rattle.dds_orders.proofs.Over.{has-itself}
use Rattle.dds_pairs.proofs.Grows.{Over, cover-of, put-over}
use Rattle.dds_pairs.proofs.NameKeeps.{NodeNamed, keyed-at, start-names}
use Rattle.dds_pairs.proofs.Names.{Fit}
use Rattle.dds_script.specs.Opening.{AreStaleLeaves, IsOpening, OpeningOf}
use Rattle.dds_states.specs.declared.brick_state.BrickState.{BrickState}
use Rattle.dds_talk.proofs.Start.{is-brick}
use Rattle.dds_trie.specs.Trie.{LeafMap, put}
use Rattle.dds_listed.proofs.Listed.{AllAnswer, LetterOk, MembersAnswer, NodeOk}
use Rattle.dds_listed.specs.Answers.{serves}

-- Before the first step the members of each of the opening's leaves serve it; the stale leaves, of epoch 0, are the libraries'.

all-over : (m : LeafMap) (ls : List Leaf) (key : ℕ) → Over m key → Over (put_all m ls) key
all-over m [] key h = h
all-over m (l ∷ ls) key h = all-over (put m l) ls key (put-over m l key h)

-- a brick's leaves cover the keys of each leaf that lists it
abbrev Covered : ℕ → LeafMap → Leaf → Type 0
Covered me m leaf = has leaf.list me ≡ true → (key : ℕ) → covers leaf.name key ≡ true → Over m key

covered-if : (me : ℕ) (m : LeafMap) (c : Bool) (l : Leaf) (ls : List Leaf) → has l.list me ≡ c
    → ((k : LeafMap) → AllByRecursion (Covered me (put_all k (filter (λ (x : Leaf). has x.list me) ls))) ls)
    → AllByRecursion (Covered me (put_all m (if c then l ∷ filter (λ (x : Leaf). has x.list me) ls else filter (λ (x : Leaf). has x.list me) ls))) (l ∷ ls)
covered-if me m true l ls e f = (
  λ lists key over.
      all-over (put m l) (filter (λ (x : Leaf). has x.list me) ls) key (record { name = l.name; there = has-itself m l; over = over }),
  f (put m l),
)
covered-if me m false l ls e f = (λ lists. let no : false ≡ true = sym e ∙ lists in cc, f m)

all-covered : (me : ℕ) (ls : List Leaf) (m : LeafMap) → AllByRecursion (Covered me (put_all m (filter (λ (x : Leaf). has x.list me) ls))) ls
all-covered me [] m = tt
all-covered me (l ∷ ls) m = covered-if me m (has l.list me) l ls refl (all-covered me ls)

module _ (o : OpeningOf) (h : IsOpening o) where
  abbrev first : Net
  first = net (sizes_of o) (start o).world

  all-answer : AllByRecursion (MembersAnswer first) o.leaves
  all-answer = all-from o.leaves (λ me. all-covered me o.leaves empty)
    where
      its-leaves : (b : ℕ) (t : BrickState) → first.node b ≡ a_brick t → put_all empty (filter (λ (l : Leaf). has l.list b) o.leaves) ≡ t.leaves
      its-leaves b t here = ap (λ (s : BrickState). s.leaves) (is-brick o b (first.node b) t (start-node o b) here)

      answers : (leaf : Leaf) → ((me : ℕ) → Covered me (put_all empty (filter (λ (l : Leaf). has l.list me) o.leaves)) leaf) → MembersAnswer first leaf
      answers leaf f new b t here live lists =
          let both : IsBoth b (own t) = subst (law_own.NodeOk b) here ((start-names o h).copied.own b) in
          let fit : Fit t = subst (NodeNamed b) here ((start-names o h).nodes b) in
          serves (λ key over.
          cover-of t.leaves key (keyed-at b t both) fit.is.0 (subst (λ m. Over m key) (its-leaves b t here) (f b lists key over)))

      all-from : (ls : List Leaf) → ((me : ℕ) → AllByRecursion (Covered me (put_all empty (filter (λ (l : Leaf). has l.list me) o.leaves))) ls)
          → AllByRecursion (MembersAnswer first) ls
      all-from [] f = tt
      all-from (l ∷ ls) f = (answers l (λ me. (f me).0), all-from ls (λ me. (f me).1))

  old-answer : (before ls : List Leaf) → AreStaleLeaves o.libraries before ls → AllByRecursion (MembersAnswer first) ls
  old-answer before [] s = tt
  old-answer before (l ∷ ls) s = (
    λ new. let epoch : l.epoch ≡ 0 = ap (λ (x : Leaf). x.epoch) s.0.2 in absurd (omega (arith, new, epoch)),
    old-answer (before ++ l ∷ []) ls s.1,
  )

  node-answers : (k : ℕ) (x : Node) → IsNew o k x → NodeOk first k x
  node-answers k x (no_node e) = subst (NodeOk first k) (sym e) tt
  node-answers k x (new_a_brick e) =
      let P = MembersAnswer first in
      let mine = filter (λ (l : Leaf). has l.list k) o.leaves in
      let leaves : InMap P (new_brick o.leaves k).leaves = in-all P _ mine (all-filter P (λ (l : Leaf). has l.list k) o.leaves all-answer) (in-empty P) in
      subst (NodeOk first k) (sym e) (leaves, tt)
  node-answers k x (new_a_library high e) =
      let P = MembersAnswer first in
      let n = k - 64 in
      let mine = filter (λ (l : Leaf). l.stamp.maker == 64 + n) o.old in
      let old = all-filter P (λ (l : Leaf). l.stamp.maker == 64 + n) o.old (old-answer [] o.old h.old_numbers) in
      subst (NodeOk first k) (sym e) (record { map = in-all P _ mine old (in-all P _ o.leaves all-answer (in-empty P)); calls = tt })

  pub start-answers : AllAnswer (net (sizes_of o) (start o).world)
  start-answers =
      record {
        nodes = λ k. node-answers k _ (start-node o k);
        letters = λ a b. subst (AllByRecursion (LetterOk first a b)) (sym (start-channel o a b)) tt;
      }
