use Rattle.std.proofs.Common.{◌≡◌, ℕ, zero, suc, ◌%◌, ◌^◌, ◌⊎◌, inl, inr, true, Option, Some, None, List, refl, sym, ap, ◌∙◌}
use Rattle.std.proofs.lemmas.Bool.{eq-eqb}
use Rattle.std.specs.FinMap.{get}
use Rattle.std.specs.List.{AllByRecursion}
use Rattle.std.specs.Prelude.{is_some}
use Rattle.dds_base.proofs.Names.{shares-at}
use Rattle.dds_base.specs.BrickList.{has}
use Rattle.dds_base.specs.Name.{Name, covers}
use Rattle.dds_base.specs.Number.{StampOf}
use Rattle.dds_base.specs.Op.{the_key}
use Rattle.dds_base.specs.declared.leaf.Leaf.{Leaf}
use Rattle.dds_base.specs.declared.name.TheConstants.{DEPTH}
use Rattle.dds_base.specs.declared.number.NodeNo.{NodeNo}
use Rattle.dds_base.specs.declared.pending.Pending.{Pending}
use Rattle.dds_law_leaf.proofs.Book.{AreKnown, Body, Book}
use Rattle.dds_law_own.proofs.Disjoint.{Disjoint}
use Rattle.dds_letters.specs.declared.letter.Letter.{Letter}
use Rattle.dds_letters.specs.declared.letter.Letter.TheVariants as letter
use Rattle.dds_net.proofs.Carried.{AllCarried}
use Rattle.dds_net.specs.Net.{Net, Node, nowhere, a_brick, a_library, Sizes}
use Rattle.dds_orders.proofs.Stood.{AreStood}
use Rattle.dds_orders.proofs.Turns.{same-leaf}
use Rattle.dds_parents.proofs.Keeps.{Gone}
use Rattle.dds_states.specs.Leaf.{leaf_for}
use Rattle.dds_trie.proofs.Lookups.{within-more, within-none}
use Rattle.dds_trie.specs.Trie.{LeafMap, leaf_within, name_at, or_else}

-- The invariant.
--
-- | part | why it is needed | which rows keep it |
-- |---|---|---|
-- | `prepares`: the stamp that a Prepare tells is in the book, and each    | a brick prepares where its | what begins an update: its list is the leaf's      |
-- | member of the book's list is in the Prepare's list or has stopped      | leaf has the stamp         | but for those that the library knows as stopped    |
-- | `pending`: each member of a brick's leaf over a pending key is in the  | claimed                    | Prepare; what changes leaves leaves those over a   |
-- | transaction's list or has stopped                                      |                            | pending key                                        |

-- each member of the first list is in the second one or has stopped
abbrev pub ListsOrGone : (ℕ → Type 0) → List NodeNo → List NodeNo → Type 0
ListsOrGone gone list other = (n : ℕ) → has list n ≡ true → (has other n ≡ true) ⊎ gone n

pub record IsPrepared (b : Book) (gone : ℕ → Type 0) (stamp : StampOf) (list : List NodeNo) : Type 0 where
  pub body : Body
  pub there : b stamp ≡ Some body
  pub lists : ListsOrGone gone body.list list

abbrev pub PrepareOk : Book → (ℕ → Type 0) → Letter → Type 0
PrepareOk b gone (letter.Prepare txn caller call below name stamp list op) = IsPrepared b gone stamp list
PrepareOk b gone other = Unit {0}

abbrev pub Fits : (ℕ → Type 0) → LeafMap → Pending → Type 0
Fits gone m p = (q : Name) (leaf : Leaf) → get m q ≡ Some leaf → covers q (the_key p.op) ≡ true → ListsOrGone gone leaf.list p.list

abbrev pub NodeFits : (ℕ → Type 0) → Node → Type 0
NodeFits gone nowhere = Unit {0}
NodeFits gone (a_brick s) = AllByRecursion (Fits gone s.leaves) s.locks.pending
NodeFits gone (a_library s) = Unit {0}

pub record AreFitting (z : Sizes) (n : Net) : Type 0 where
  pub stood : AreStood z n
  pub known : AreKnown n
  pub prepares : AllCarried (λ a b l. PrepareOk known.book (Gone n) l) n
  pub pending : (k : ℕ) → NodeFits (Gone n) (n.node k)

-- what a look-up finds stands under one of the key's names
pub record FoundAt (m : LeafMap) (key : ℕ) (leaf : Leaf) : Type 0 where
  pub name : Name
  pub there : get m name ≡ Some leaf
  pub covers : covers name key ≡ true

name-covers : (key d : ℕ) → covers (name_at key d) key ≡ true
name-covers key d = eq-eqb (key % 2 ^ d) (key % 2 ^ d) refl

found-if : (m : LeafMap) (key d : ℕ) (leaf : Leaf) (x y : Option Leaf) → get m (name_at key d) ≡ x → or_else x y ≡ Some leaf
    → (y ≡ Some leaf → FoundAt m key leaf) → FoundAt m key leaf
found-if m key d leaf None y e h f = f h
found-if m key d leaf (Some l) y e h f = record { name = name_at key d; there = e ∙ h; covers = name-covers key d }

found-within : (m : LeafMap) (n key : ℕ) (leaf : Leaf) → leaf_within m n key ≡ Some leaf → FoundAt m key leaf
found-within m zero key leaf h = record { name = name_at key 0; there = sym (within-none m key) ∙ h; covers = name-covers key 0 }
found-within m (suc n) key leaf h =
    found-if m key (suc n) leaf (get m (name_at key (suc n))) (leaf_within m n key) refl (sym (within-more m n key) ∙ h) (found-within m n key leaf)

pub found-at : (m : LeafMap) (key : ℕ) (leaf : Leaf) → leaf_for m key ≡ Some leaf → FoundAt m key leaf
found-at m key leaf h = found-within m DEPTH key leaf h

pub one-over : (m : LeafMap) (key : ℕ) (p q : Name) (a b : Leaf) → Disjoint m → get m p ≡ Some a → get m q ≡ Some b → covers p key ≡ true
    → covers q key ≡ true → a ≡ b
one-over m key p q a b d e f over also =
    let is : p ≡ q = d p q (ap is_some e) (ap is_some f) (shares-at p q key over also) in
    same-leaf (get m q) a b (sym (ap (get m) is) ∙ e) f

-- the leaves over the key stay
abbrev pub Stays : LeafMap → LeafMap → ℕ → Type 0
Stays m k key = (q : Name) (leaf : Leaf) → covers q key ≡ true → get m q ≡ Some leaf → get k q ≡ Some leaf

some-leaf : (x : Option Leaf) → is_some x ≡ true → (leaf : Leaf) × (x ≡ Some leaf)
some-leaf None h = cc
some-leaf (Some leaf) h = (leaf, refl)

pub fits-stays : (gone later : ℕ → Type 0) (m k : LeafMap) (p : Pending) → ((n : ℕ) → gone n → later n) → Disjoint k
    → is_some (leaf_for m (the_key p.op)) ≡ true → Stays m k (the_key p.op) → Fits gone m p → Fits later k p
fits-stays gone later m k p g d covered stays h q leaf there over n has_it =
    let key = the_key p.op in
    let l = some-leaf (leaf_for m key) covered in
    let at = found-at m key l.0 l.1 in
    let is : leaf ≡ l.0 = one-over k key q at.name leaf l.0 d there (stays at.name l.0 at.covers at.there) over at.covers in
    elim (h at.name l.0 at.there at.covers n (sym (ap (λ (x : Leaf). has x.list n) is) ∙ has_it)) [ inl i ↦ inl i | inr i ↦ inr (g n i) ]
