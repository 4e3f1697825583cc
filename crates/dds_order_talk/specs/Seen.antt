-- What two bricks and the letters between them say of one name and of the open order of one of them.
use Rattle.std.specs.Prelude.{ℕ, ◌≡◌, ◌==◌, ◌&&◌, ◌++◌, not, Bool, true, false, List, [], ◌∷◌, Option, Some, None, if◌then◌else◌}
use Rattle.std.specs.FinMap.{get}
use Rattle.dds_base.specs.BrickList.{has}
use Rattle.dds_base.specs.Name.{Name, same_name}
use Rattle.dds_base.specs.NodeSet.{has_node}
use Rattle.dds_base.specs.Place.{last_key}
use Rattle.dds_base.specs.declared.leaf.Leaf.{Leaf}
use Rattle.dds_base.specs.declared.number.NodeNo.{NodeNo}
use Rattle.dds_groups.specs.Leaves.{sibling}
use Rattle.dds_groups.specs.Names.{low_half, other_half}
use Rattle.dds_letters.specs.declared.letter.Letter.{Letter}
use Rattle.dds_letters.specs.declared.letter.Letter.TheVariants as letter
use Rattle.dds_letters.specs.declared.refusal.Wanted.{Wanted}
use Rattle.dds_letters.specs.declared.refusal.Wanted.TheVariants as wanted
use Rattle.dds_locks.specs.Leases.{is_given}
use Rattle.dds_net.specs.Net.{Net, a_brick}
use Rattle.dds_states.specs.declared.brick_state.BrickState.{BrickState}
use Rattle.dds_states.specs.declared.brick_state.OpenOrder.{OpenOrder}
use Rattle.dds_states.specs.declared.brick_state.OrderPhase.{OrderPhase}
use Rattle.dds_states.specs.declared.brick_state.OrderPhase.TheVariants.{Leasing, Copying, Installing}
use Rattle.dds_trie.specs.Trie.{LeafMap}
use Rattle.dds_order_talk.specs.Table.{Ask, Say, Talks, View}
use Rattle.dds_order_talk.specs.Table.Ask.{old, release, lease, copy, install, stray}
use Rattle.dds_order_talk.specs.Table.Say.{granted, refused, part, installed}
use Rattle.dds_order_talk.specs.Table.View.{Off, Waits, First, Has, Source, Heard, Due, Done}

abbrev pub one : {X : Type 0} → Bool → X → List X
one true x = x ∷ []
one false x = []

-- a number is that of the open order; and that order is one of the name
abbrev pub is_its : Option OpenOrder → ℕ → Bool
is_its None number = false
is_its (Some o) number = o.number == number

abbrev pub is_named : Option OpenOrder → Name → Bool
is_named None x = false
is_named (Some o) x = same_name o.name x

abbrev pub wanted_name : Wanted → Name
wanted_name (wanted.Name x) = x
wanted_name (wanted.Leaf leaf) = leaf.name

-- what a letter asks about the name: a lease, of the open order or of one that has ended; and to copy or to install, where the letter is
-- of the open order and that is of the name. Such a letter of an order that has ended isn't told by its name
abbrev pub lease_asks : Bool → Name → Wanted → List Ask
lease_asks true x what = lease what ∷ []
lease_asks false x what = one (same_name (wanted_name what) x) old

abbrev pub work_asks : Bool → Bool → Ask → List Ask
work_asks true named a = one named a
work_asks false named a = stray ∷ []

abbrev pub ask_of : Option OpenOrder → Name → Letter → List Ask
ask_of q x (letter.Lease number what) = lease_asks (is_its q number && is_named q x) x what
ask_of q x (letter.Release number name) = one (same_name name x) release
ask_of q x (letter.CopyAsk number name key) = work_asks (is_its q number) (is_named q x) (copy key)
ask_of q x (letter.Install number leaf) = work_asks (is_its q number) (is_named q x) (install leaf)
ask_of q x other = []

-- what a letter says of the open order, where that is of the name
abbrev pub say_of : Option OpenOrder → Name → Letter → List Say
say_of q x (letter.Granted number leaf) = one (is_its q number && is_named q x) (granted leaf)
say_of q x (letter.LeaseRefused number why) = one (is_its q number && is_named q x) refused
say_of q x (letter.CopyPart number last pairs) = one (is_its q number && is_named q x) part
say_of q x (letter.Installed number name) = one (is_its q number && is_named q x) installed
say_of q x other = []

abbrev pub asks : Option OpenOrder → Name → List Letter → List Ask
asks q x [] = []
asks q x (l ∷ ls) = ask_of q x l ++ asks q x ls

abbrev pub says : Option OpenOrder → Name → List Letter → List Say
says q x [] = []
says q x (l ∷ ls) = say_of q x l ++ says q x ls

-- within a turn: a first grant was heard, and the order's leaf isn't fixed yet; a part was heard, and no more is asked for yet
pub data Doing : Type 0 where
  rests : Doing
  took_first : NodeNo → Leaf → Doing
  took_part : Doing

-- how an order sees a member that its brick doesn't know to have stopped
abbrev pub first_view : Doing → ℕ → View
first_view (took_first n leaf) m = if n == m then First leaf else Off
first_view rests m = Off
first_view took_part m = Off

abbrev pub with_leaf : Doing → ℕ → Option Leaf → (Leaf → View) → View
with_leaf d m None v = first_view d m
with_leaf d m (Some leaf) v = v leaf

abbrev pub granted_view : Doing → OpenOrder → ℕ → (Leaf → View) → View
granted_view d o m v = if has o.granted m then with_leaf d m o.leaf v else Off

abbrev pub source_view : Doing → Option ℕ → Leaf → View
source_view took_part key leaf = Heard leaf
source_view rests key leaf = Source leaf key
source_view (took_first n first) key leaf = Source leaf key

abbrev pub phase_view : Doing → OpenOrder → ℕ → OrderPhase → View
phase_view d o m Leasing = if has o.waiting m then Waits o.leaf else granted_view d o m Has
phase_view d o m (Copying source) =
    if source == m then with_leaf d m o.leaf (source_view d (last_key None o.copied)) else granted_view d o m Has
phase_view d o m (Installing made) =
    if has o.waiting m then with_leaf d m o.leaf (λ leaf. Due leaf made) else granted_view d o m (λ leaf. Done leaf made)

abbrev pub view : Doing → Option OpenOrder → Name → ℕ → View
view d None x m = Off
view d (Some o) x m = if same_name o.name x then phase_view d o m o.phase else Off

-- what the member has of the name
pub record Own (m : LeafMap) (x : Name) (leaf : Leaf) : Type 0 where
  pub name : leaf.name ≡ x
  pub is : get m x ≡ Some leaf

pub data New (m : LeafMap) (x : Name) (made : Leaf) : Type 0 where
  joined : made.name ≡ x → get m x ≡ Some made → New m x made
  split : made.name ≡ low_half x → get m (low_half x) ≡ Some made → get m (other_half (low_half x)) ≡ Some (sibling made) → New m x made

-- the conversation of two bricks about a name, by the channels between them, where the first doesn't know that the other has stopped
abbrev pub BrickTalk : Doing → ℕ → ℕ → Name → BrickState → BrickState → List Letter → List Letter → Type 0
BrickTalk d j m x s t out back =
    has_node s.known m ≡ false
    → Talks x (Own t.leaves x) (New t.leaves x) (not s.stopped) (not t.stopped) (view d s.order x m) (asks s.order x out)
    (is_given t.locks.leases x j) (says s.order x back)

-- every two bricks talk so, about each name
abbrev pub OrdersTalk : Net → Type 0
OrdersTalk n =
    (j m : ℕ) (x : Name) (s t : BrickState)
    → n.node j ≡ a_brick s → n.node m ≡ a_brick t → (j == m) ≡ false → BrickTalk rests j m x s t (n.channel j m) (n.channel m j)

-- where a live brick joins a name and has no leaf of it yet, no live other brick's leaf of that name lists the brick that joins
abbrev pub JoinersAreUnlisted : Net → Type 0
JoinersAreUnlisted n =
    (j m : ℕ) (s t : BrickState) (p : OpenOrder) (leaf : Leaf) → n.node j ≡ a_brick s → n.node m ≡ a_brick t → s.stopped ≡ false
    → t.stopped ≡ false → (m ≡ j → ⊥) → s.order ≡ Some p → p.leaf ≡ None → get t.leaves p.name ≡ Some leaf → has leaf.list j ≡ false

-- copying goes on: between a live brick that copies and the live member that it copies from, a CopyAsk or a CopyPart of the order is on its
-- way, so that no part was heard that didn't fit
abbrev pub PartsGoOn : Net → Type 0
PartsGoOn n =
    (j m : ℕ) (s t : BrickState) (o : OpenOrder) → n.node j ≡ a_brick s → n.node m ≡ a_brick t → s.stopped ≡ false → t.stopped ≡ false
    → s.order ≡ Some o → o.phase ≡ Copying m → asks (Some o) o.name (n.channel j m) ≡ [] → says (Some o) o.name (n.channel m j) ≡ [] → ⊥
