use Rattle.std.proofs.Common.{◌≡◌, ℕ, ◌+◌, Bool, true, false, Option, Some, None, List, [], ◌∷◌, sym, subst}
use Rattle.std.specs.FinMap.{get}
use Rattle.std.specs.List.{AllByRecursion}
use Rattle.std.specs.Prelude.{if◌then◌else◌}
use Rattle.dds_base.specs.declared.leaf.Leaf.{Leaf}
use Rattle.dds_base.specs.declared.number.NodeNo.{NodeNo}
use Rattle.dds_base.specs.declared.op.Met.TheVariants as met
use Rattle.dds_base.specs.declared.op.Order.{Order}
use Rattle.dds_base.specs.declared.op.Order.TheVariants as the_order
use Rattle.dds_base.specs.declared.op.OrderReply.{OrderReply}
use Rattle.dds_base.specs.declared.op.OrderReply.TheVariants as answered
use Rattle.dds_core.proofs.Lists.{all-append, all-map}
use Rattle.dds_core.specs.Brick.{brick_input}
use Rattle.dds_core.specs.Notice as notices
use Rattle.dds_law_leaf.proofs.Book.{Each, InLetter, leafing}
use Rattle.dds_law_leaf.proofs.Turns.{Plain}
use Rattle.dds_letters.specs.declared.letter.Letter.{Letter}
use Rattle.dds_letters.specs.declared.letter.Letter.TheVariants as letter
use Rattle.dds_letters.specs.declared.refusal.Wanted.TheVariants as wanted
use Rattle.dds_order_rows.specs.OwnOrder as own_order
use Rattle.dds_order_rows.specs.Orders as orders
use Rattle.dds_states.specs.Turn.{BrickTurn, and_then, sends, still, to_each, unknown, unknown_others, without}
use Rattle.dds_states.specs.declared.brick_state.BrickState.{BrickState}
use Rattle.dds_states.specs.declared.brick_state.OpenOrder.{OpenOrder}
use Rattle.dds_states.specs.declared.brick_state.OrderPhase.{OrderPhase}
use Rattle.dds_states.specs.declared.brick_state.OrderPhase.TheVariants.{Leasing, Copying, Installing}
use Rattle.dds_states.specs.declared.brick_state.Task.{Task}
use Rattle.dds_states.specs.declared.brick_state.Task.TheVariants as task
use Rattle.dds_world.specs.Groups.{letter_leaf}

-- A brick's own order sends no letter with a leaf but Lease and Install.

abbrev pub Told : (Leaf → Type 0) → Letter → Type 0
Told P (letter.Lease number what) = Unit {0}
Told P (letter.Install number leaf) = Unit {0}
Told P other = InLetter P other

abbrev pub AllTold : (Leaf → Type 0) → List (NodeNo × Letter) → Type 0
AllTold P ls = AllByRecursion (λ (p : NodeNo × Letter). Told P p.1) ls

told-each : (P : Leaf → Type 0) (ns : List NodeNo) (l : Letter) → Told P l → AllTold P (to_each ns l)
told-each P [] l h = tt
told-each P (n ∷ ns) l h = (h, told-each P ns l h)

none-told : (P : Leaf → Type 0) (l : Letter) → letter_leaf l ≡ None → Told P l
none-told P (letter.Lease number what) e = tt
none-told P (letter.Install number leaf) e = tt
none-told P other e = subst (Each P) (sym e) tt

pub record TellsOwn (P : Leaf → Type 0) (t : BrickTurn) : Type 0 where
  pub letters : AllTold P t.out.letters

module _ {P : Leaf → Type 0} where
  pub tells : (t : BrickTurn) → AllTold P t.out.letters → TellsOwn P t
  tells t h = record { letters = h }

  -- turns put together
  pub after : (t : BrickTurn) (row : BrickState → BrickTurn) → TellsOwn P t → ((u : BrickState) → TellsOwn P (row u)) → TellsOwn P (and_then t row)
  after t row h f =
      record { letters = all-append (λ (p : NodeNo × Letter). Told P p.1) t.out.letters (row t.state).out.letters h.letters (f t.state).letters }

  pub either : (c : Bool) {t u : BrickTurn} → TellsOwn P t → TellsOwn P u → TellsOwn P (if c then t else u)
  either true h k = h
  either false h k = k

  pub quiet : (s : BrickState) → TellsOwn P (still s)
  quiet s = tells (still s) tt

  sends-each : (s : BrickState) (ns : List NodeNo) (l : Letter) → Told P l → TellsOwn P (sends s (to_each ns l))
  sends-each s ns l h = tells (sends s (to_each ns l)) (told-each P ns l h)

  pub answers : (s : BrickState) (reply : OrderReply) → TellsOwn P (own_order.answers s reply)
  answers s reply = tells (own_order.answers s reply) tt

  pub plain-tells : (s : BrickState) (t : BrickTurn) → Plain (leafing s) t → TellsOwn P t
  plain-tells s t p =
      tells t (all-map (λ (l : NodeNo × Letter). letter_leaf l.1 ≡ None) (λ l. Told P l.1) t.out.letters (λ l k. none-told P l.1 k) p.letters)

  -- own orders
  closes : (s : BrickState) (o : OpenOrder) (nodes : List NodeNo) (reply : OrderReply)
      → TellsOwn P (and_then (sends (own_order.closed s o) (to_each nodes (letter.Release o.number o.name))) (λ t. own_order.answers t reply))
  closes s o nodes reply =
      after (sends (own_order.closed s o) (to_each nodes (letter.Release o.number o.name))) (λ t. own_order.answers t reply)
      (sends-each (own_order.closed s o) nodes (letter.Release o.number o.name) tt) (λ u. answers u reply)

  pub ends : (s : BrickState) (o : OpenOrder) (reply : OrderReply) → TellsOwn P (own_order.ends s o reply)
  ends s o reply = closes s o (unknown o.asked s.known) reply

  finishes : (s : BrickState) (o : OpenOrder) (made : Leaf) → TellsOwn P (own_order.finishes s o made)
  finishes s o made = closes (own_order.serving s o made o.task) o (unknown o.granted s.known) answered.Done

  installs_from : (s : BrickState) (o : OpenOrder) (made : Leaf) (nodes : List NodeNo) → TellsOwn P (own_order.installs_from s o made nodes)
  installs_from s o made [] = finishes s o made
  installs_from s o made (n ∷ ns) = tells _ (told-each P (n ∷ ns) (letter.Install o.number made) tt)

  installs : (s : BrickState) (o : OpenOrder) (leaf : Leaf) → TellsOwn P (own_order.installs s o leaf)
  installs s o leaf = installs_from (record s { made = s.made + 1 }) o (own_order.made_leaf s o leaf o.task) (without (own_order.parting s o leaf) s.number)

  copies_from : (s : BrickState) (o : OpenOrder) (nodes : List ℕ) → TellsOwn P (own_order.copies_from s o nodes)
  copies_from s o [] = ends s o answered.NoSource
  copies_from s o (n ∷ ns) = record { letters = (tt, tt) }

  copies : (s : BrickState) (o : OpenOrder) (leaf : Leaf) → TellsOwn P (own_order.copies s o leaf)
  copies s o leaf = copies_from s o (own_order.sources s o leaf)

  leased_all : (s : BrickState) (o : OpenOrder) (leaf : Leaf) (t : Task) → TellsOwn P (own_order.leased_all s o leaf t)
  leased_all s o leaf (task.Join via) = copies s o leaf
  leased_all s o leaf task.Split = installs s o leaf

  leased_all_at : (s : BrickState) (o : OpenOrder) (leaf : Option Leaf) → TellsOwn P (own_order.leased_all_at s o leaf)
  leased_all_at s o None = record { letters = tt }
  leased_all_at s o (Some leaf) = leased_all s o leaf o.task

  leases_on : (s : BrickState) (o : OpenOrder) → TellsOwn P (own_order.leases_on s o)
  leases_on s o = either _ (leased_all_at s o o.leaf) (quiet (own_order.going_on s o))

  split_opens : (s : BrickState) (leaf : Leaf) → TellsOwn P (own_order.split_opens s leaf)
  split_opens s leaf =
      after (sends (record (orders.leasing s leaf.name s.number) { orders = s.orders + 1 })
      (to_each (unknown_others leaf.list s.number s.known) (letter.Lease s.orders (wanted.Leaf leaf))))
      (λ t. own_order.leases_on t (own_order.new_split s leaf))
      (sends-each _ (unknown_others leaf.list s.number s.known) (letter.Lease s.orders (wanted.Leaf leaf)) tt) (λ u. leases_on u (own_order.new_split s leaf))

  split_named : (s : BrickState) (leaf : Option Leaf) → TellsOwn P (own_order.split_named s leaf)
  split_named s None = answers s answered.NotServing
  split_named s (Some leaf) =
      either _ (answers s answered.Deepest) (either _ (answers s answered.Worn) (either _ (answers s (answered.Refused (met.Lease s.number)))
      (either _ (answers s (answered.Refused (met.Lock s.number))) (split_opens s leaf))))

  pub told-tells : (s : BrickState) (o : Order) → TellsOwn P (brick_input s o)
  told-tells s (the_order.Join brick name via) =
      either _ (answers s answered.Stopped) (either _ (answers s answered.OrderOpen) (either _ (answers s answered.AlreadyThere)
      (either _ (answers s answered.NoSource) (tells (own_order.join_opens s name via) (tt, tt)))))
  told-tells s (the_order.Split brick name) =
      either _ (answers s answered.Stopped) (either _ (answers s answered.OrderOpen) (split_named s (get s.leaves name)))

  -- letters to the open order
  pub with_order : (s : BrickState) (row : BrickState → OpenOrder → BrickTurn) (q : Option OpenOrder)
      → ((t : BrickState) (o : OpenOrder) → TellsOwn P (row t o)) → TellsOwn P (own_order.with_order s row q)
  with_order s row None f = quiet s
  with_order s row (Some o) f = f (record s { order = None }) o

  pub at_order : (s : BrickState) (number : ℕ) (test : OpenOrder → Bool) (row : BrickState → OpenOrder → BrickTurn)
      → ((t : BrickState) (o : OpenOrder) → TellsOwn P (row t o)) → TellsOwn P (own_order.at_order s number test row)
  at_order s number test row f = either _ (with_order s row s.order f) (quiet s)

  fixed : (s : BrickState) (o : OpenOrder) (from : NodeNo) (leaf : Leaf) → TellsOwn P (own_order.fixed s o from leaf)
  fixed s o from leaf =
      after (sends s (to_each (unknown_others leaf.list from s.known) (letter.Lease o.number (wanted.Leaf leaf))))
      (λ t. own_order.leases_on t (own_order.widened s o from leaf))
      (sends-each s (unknown_others leaf.list from s.known) (letter.Lease o.number (wanted.Leaf leaf)) tt) (λ u. leases_on u (own_order.widened s o from leaf))

  granted_join : (s : BrickState) (o : OpenOrder) (from : NodeNo) (leaf : Leaf) (mine : Option Leaf)
      → TellsOwn P (own_order.granted_join s o from leaf mine)
  granted_join s o from leaf None = either _ (ends s o answered.Worn) (either _ (ends s o answered.GroupFull) (fixed s o from leaf))
  granted_join s o from leaf (Some mine) = leases_on s o

  pub grants : (s : BrickState) (o : OpenOrder) (from : NodeNo) (leaf : Leaf) (t : Task) → TellsOwn P (own_order.grants s o from leaf t)
  grants s o from leaf (task.Join via) = granted_join s o from leaf o.leaf
  grants s o from leaf task.Split = leases_on s o

  copied_all : (s : BrickState) (o : OpenOrder) (leaf : Option Leaf) → TellsOwn P (own_order.copied_all s o leaf)
  copied_all s o None = quiet (own_order.going_on s o)
  copied_all s o (Some leaf) = installs s o leaf

  pub copied_on : (s : BrickState) (o : OpenOrder) (source : NodeNo) (last : Bool) → TellsOwn P (own_order.copied_on s o source last)
  copied_on s o source true = copied_all s o o.leaf
  copied_on s o source false = record { letters = (tt, tt) }

  installs_on : (s : BrickState) (o : OpenOrder) (made : Leaf) → TellsOwn P (own_order.installs_on s o made)
  installs_on s o made = either _ (finishes s o made) (quiet (own_order.going_on s o))

  pub installed_in : (s : BrickState) (o : OpenOrder) (phase : OrderPhase) → TellsOwn P (own_order.installed_in s o phase)
  installed_in s o Leasing = quiet s
  installed_in s o (Copying source) = quiet s
  installed_in s o (Installing made) = installs_on s o made

  -- where a node stops
  copies_again : (s : BrickState) (o : OpenOrder) (leaf : Option Leaf) → TellsOwn P (notices.copies_again s o leaf)
  copies_again s o None = quiet (own_order.going_on s o)
  copies_again s o (Some leaf) = copies s o leaf

  pub order_goes : (s : BrickState) (o : OpenOrder) (y : NodeNo) (phase : OrderPhase) → TellsOwn P (notices.order_goes s o y phase)
  order_goes s o y Leasing = either _ (ends s o answered.NoSource) (leases_on s (record o { waiting = without o.waiting y }))
  order_goes s o y (Copying source) = copies_again s o o.leaf
  order_goes s o y (Installing made) = installs_on s (record o { waiting = without o.waiting y }) made
