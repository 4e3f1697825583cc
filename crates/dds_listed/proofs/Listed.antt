use Rattle.std.specs.Prelude.{ℕ, ◌≡◌, ◌≤◌, true, false}
use Rattle.dds_base.specs.BrickList.{has}
use Rattle.dds_base.specs.declared.leaf.Leaf.{Leaf}
use Rattle.dds_law_leaf.proofs.Book.{InLetter, InLibrary, InMap, InOrder}
use Rattle.dds_letters.specs.declared.letter.Letter.{Letter}
use Rattle.dds_net.proofs.Carried.{AllCarried}
use Rattle.dds_net.specs.Net.{Net, Node, nowhere, a_brick, a_library}
use Rattle.dds_states.specs.declared.brick_state.BrickState.{BrickState}
use Rattle.dds_listed.specs.Answers.{Answers}

-- The invariant: each live brick answers for each leaf that lists it, wherever the leaf stands, but for the opening's stale leaves.
--
-- | part | why it is needed | what keeps it |
-- |---|---|---|
-- | `nodes`, of own leaves         | claimed: a join's name is none of a leaf that lists the joiner | a leaf that is taken or installed stood in a letter; |
-- |                                |                                                                | of a split's sibling the leaf in whose place it      |
-- |                                |                                                                | comes answers; what an order made is served          |
-- | `nodes`, of an order's leaves  | what it made is served, and goes into Install                  | a leaf lists the maker and live members that granted: |
-- |                                |                                                                | these have the order's leaf, the maker installs      |
-- | `nodes`, of libraries' leaves  | they are pushed                                                | they come from letters                               |
-- | `letters`                      | leaves are taken from them                                     | each stands at its sender                            |
--
-- A live brick goes on to answer: its leaves cover what they covered (`leaves_change_once` and leases), and a join that installs ends by
-- serving what it made.

-- of each live brick that the leaf lists, if the leaf isn't one of the stale ones of the opening, which may list any brick
abbrev pub MembersAnswer : Net → Leaf → Type 0
MembersAnswer n leaf =
    1 ≤ leaf.epoch → (b : ℕ) (t : BrickState) → n.node b ≡ a_brick t → t.stopped ≡ false → has leaf.list b ≡ true → Answers t leaf

abbrev pub NodeOk : Net → ℕ → Node → Type 0
NodeOk n k nowhere = Unit {0}
NodeOk n k (a_brick s) = InMap (MembersAnswer n) s.leaves × InOrder (MembersAnswer n) s.order
NodeOk n k (a_library s) = InLibrary (MembersAnswer n) s

abbrev pub LetterOk : Net → ℕ → ℕ → Letter → Type 0
LetterOk n a b l = InLetter (MembersAnswer n) l

pub record AllAnswer (n : Net) : Type 0 where
  pub nodes : (k : ℕ) → NodeOk n k (n.node k)
  pub letters : AllCarried (LetterOk n) n
