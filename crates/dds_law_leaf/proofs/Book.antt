use Rattle.std.specs.Prelude.{ℕ, ◌≡◌, ◌+◌, ◌<◌, ◌≤◌, true, false, List, Option, Some, None}
use Rattle.std.specs.FinMap.{get}
use Rattle.std.specs.List.{AllByRecursion}
use Rattle.dds_base.specs.BrickList.{has}
use Rattle.dds_base.specs.Name.{Name}
use Rattle.dds_base.specs.Number.{StampOf}
use Rattle.dds_base.specs.declared.leaf.Leaf.{Leaf}
use Rattle.dds_letters.specs.declared.letter.Letter.{Letter}
use Rattle.dds_states.specs.declared.brick_state.BrickState.{BrickState}
use Rattle.dds_states.specs.declared.brick_state.OpenOrder.{OpenOrder}
use Rattle.dds_states.specs.declared.library_state.LibraryState.{LibraryState}
use Rattle.dds_states.specs.declared.library_state.OpenCall.{OpenCall}
use Rattle.dds_trie.specs.Trie.{LeafMap}
use Rattle.dds_world.specs.Groups.{call_leaf, letter_leaf, made_leaf}
use Rattle.dds_net.proofs.Carried.{AllCarried}
use Rattle.dds_net.specs.Net.{Net, Node, nowhere, a_brick, a_library}

-- The invariant: there is a book of the stamps that leaves were given, and each leaf is as the book says.
--
-- | part | why it is needed | which rows keep it |
-- |---|---|---|
-- | each leaf of a node or letter is known: the book has its body (`Known`) | claimed: a stamp has one body | all: a leaf comes from where it stood or |
-- |                                                                         |                               | from a letter; halves share a stamp      |
-- | a live brick has its own number, and the book none of its stamps from   | the stamp of a leaf that it   | what begins to install: it makes a leaf, |
-- | its counter on (`LeafedBy`)                                             | makes is new in the book      | and counts it                            |
-- | a brick's stamp came from one of the book, one epoch before, and has no | not claimed: laws on groups   | what begins to install                   |
-- | member more but the maker (`IsBred`)                                    | stand on it                   |                                          |

-- all of a leaf but its name and stamp
pub record Body : Type 0 where
  pub epoch : ℕ
  pub prev : StampOf
  pub list : List ℕ

abbrev pub body : Leaf → Body
body leaf = record { epoch = leaf.epoch; prev = leaf.prev; list = leaf.list }

-- what the leaves of a stamp have in common, of each stamp that was given to leaves
abbrev pub Book : Type 0
Book = StampOf → Option Body

abbrev pub Known : Book → Leaf → Type 0
Known b leaf = b leaf.stamp ≡ Some (body leaf)

-- the second book has all that the first one has
abbrev pub Grows : Book → Book → Type 0
Grows b c = (st : StampOf) (x : Body) → b st ≡ Some x → c st ≡ Some x

-- a stamp's leaves came from those of another stamp
pub record Comes (b : Book) (st : StampOf) (x : Body) : Type 0 where
  pub parent : Body
  pub there : b x.prev ≡ Some parent
  pub epoch : x.epoch ≡ parent.epoch + 1
  pub members : (n : ℕ) → (n ≡ st.maker → ⊥) → has x.list n ≡ true → has parent.list n ≡ true

abbrev pub IsBred : Book → Type 0
IsBred b = (st : StampOf) (x : Body) → st.maker < 64 → b st ≡ Some x → Comes b st x

-- something is so of the leaf, if there is one
abbrev pub Each : (Leaf → Type 0) → Option Leaf → Type 0
Each P None = Unit {0}
Each P (Some leaf) = P leaf

abbrev pub InMap : (Leaf → Type 0) → LeafMap → Type 0
InMap P m = (name : Name) → Each P (get m name)

abbrev pub InOrder : (Leaf → Type 0) → Option OpenOrder → Type 0
InOrder P None = Unit {0}
InOrder P (Some o) = Each P o.leaf × Each P (made_leaf o.phase)

abbrev pub InCall : (Leaf → Type 0) → OpenCall → Type 0
InCall P c = Each P (call_leaf c.phase)

abbrev pub InLetter : (Leaf → Type 0) → Letter → Type 0
InLetter P l = Each P (letter_leaf l)

-- what of a brick says which leaves it has and makes
pub record Leafing : Type 0 where
  pub number : ℕ
  pub leaves : LeafMap
  pub order : Option OpenOrder
  pub made : ℕ

abbrev pub leafing : BrickState → Leafing
leafing s = record { number = s.number; leaves = s.leaves; order = s.order; made = s.made }

-- a brick of this number with known leaves, that has still to make those of stamps from its counter on
pub record LeafedBy (me : ℕ) (b : Book) (x : Leafing) : Type 0 where
  pub number : x.number ≡ me
  pub fresh : (c : ℕ) → x.made ≤ c → b (record { maker = me; count = c }) ≡ None
  pub leaves : InMap (Known b) x.leaves
  pub order : InOrder (Known b) x.order

abbrev pub Leafed : ℕ → Book → BrickState → Type 0
Leafed me b s = LeafedBy me b (leafing s)

pub record InLibrary (P : Leaf → Type 0) (s : LibraryState) : Type 0 where
  pub map : InMap P s.map
  pub calls : AllByRecursion (InCall P) s.calls

-- a stopped brick makes no leaf more
pub record BrickOk (me : ℕ) (b : Book) (s : BrickState) : Type 0 where
  pub leaves : InMap (Known b) s.leaves
  pub order : InOrder (Known b) s.order
  pub live : s.stopped ≡ false → Leafed me b s

abbrev pub NodeOk : Book → ℕ → Node → Type 0
NodeOk b k nowhere = Unit {0}
NodeOk b k (a_brick s) = BrickOk k b s
NodeOk b k (a_library s) = InLibrary (Known b) s

-- of the letters on their way, from whatever node to whatever node
abbrev pub LetterOk : Book → ℕ → ℕ → Letter → Type 0
LetterOk b from to l = InLetter (Known b) l

pub record AreKnown (n : Net) : Type 0 where
  pub book : Book
  pub bred : IsBred book
  pub nodes : (k : ℕ) → NodeOk book k (n.node k)
  pub letters : AllCarried (LetterOk book) n
