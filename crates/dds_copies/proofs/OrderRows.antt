use Rattle.std.proofs.Common.{◌≡◌, ℕ, ◌+◌, ◌==◌, ◌&&◌, ◌||◌, ◌++◌, Bool, true, false, Option, Some, None, List, [], ◌∷◌, refl, sym, ap, ◌∙◌, subst}
use Rattle.std.proofs.lemmas.Bool.{and_parts, eqb-true}
use Rattle.std.specs.FinMap.{keys, get}
use Rattle.std.specs.List.{AllByRecursion, list_any}
use Rattle.std.specs.Prelude.{is_some, length, nat_le, if◌then◌else◌}
use Rattle.dds_base.specs.Name.{overlaps}
use Rattle.dds_base.specs.NodeSet.{has_node}
use Rattle.dds_base.specs.declared.brick_list.TheConstants.{MEMBERS}
use Rattle.dds_base.specs.declared.leaf.Leaf.{Leaf}
use Rattle.dds_base.specs.declared.number.NodeNo.{NodeNo}
use Rattle.dds_base.specs.declared.op.Order.{Order}
use Rattle.dds_base.specs.declared.op.Order.TheVariants as the_order
use Rattle.dds_base.specs.declared.op.OrderReply.{OrderReply}
use Rattle.dds_base.specs.declared.op.OrderReply.TheVariants as answered
use Rattle.dds_base.specs.declared.pair.Pair.{Pair}
use Rattle.dds_brick_rows.specs.Refusal.{is_join}
use Rattle.dds_core.proofs.Lists.{all-append}
use Rattle.dds_core.specs.Brick.{brick_input}
use Rattle.dds_core.specs.Notice as notices
use Rattle.dds_groups.specs.Leaves.{live}
use Rattle.dds_history.specs.Map.{Map}
use Rattle.dds_letters.specs.declared.letter.Letter.{Letter}
use Rattle.dds_letters.specs.declared.letter.Letter.TheVariants as letter
use Rattle.dds_letters.specs.declared.refusal.Refusal.{Refusal}
use Rattle.dds_letters.specs.declared.refusal.Wanted.TheVariants as wanted
use Rattle.dds_locks.specs.Leases.{leased}
use Rattle.dds_locks.specs.Pending.{any_under}
use Rattle.dds_order_rows.specs.Orders as orders
use Rattle.dds_order_rows.specs.Orders.{pairs_after}
use Rattle.dds_order_rows.specs.OwnOrder as order
use Rattle.dds_orders.proofs.Turns.{source-is}
use Rattle.dds_states.specs.Turn.{BrickTurn, and_then, is_none_left, sends, still, unknown_others, without}
use Rattle.dds_states.specs.declared.brick_state.BrickState.{BrickState}
use Rattle.dds_states.specs.declared.brick_state.OpenOrder.{OpenOrder}
use Rattle.dds_states.specs.declared.brick_state.OrderPhase.{OrderPhase}
use Rattle.dds_states.specs.declared.brick_state.OrderPhase.TheVariants.{Copying, Installing, Leasing}
use Rattle.dds_states.specs.declared.brick_state.Task.{Task}
use Rattle.dds_states.specs.declared.brick_state.Task.TheVariants.{Join, Split}
use Rattle.dds_world.specs.Values.{AreCopied}
use Rattle.dds_copies.proofs.Joins.{asks-each}
use Rattle.dds_copies.proofs.Parts.{all-copied, more-copied, with_part}
use Rattle.dds_copies.specs.Copies.{AsksNext, TellsNext}
use Rattle.dds_copies.specs.Turns.{JoinCopies, JoinGoes}

-- The rows of a brick's own order: what an open join has copied stays the table's, and what it asks for is what follows.

-- of an order that is a join
abbrev Ok : Map → OpenOrder → Type 0
Ok table o = is_join o.task ≡ true → AreCopied table o o.phase

abbrev AllAsk : OpenOrder → List (NodeNo × Letter) → Type 0
AllAsk o ls = AllByRecursion (λ (p : NodeNo × Letter). AsksNext o p.1) ls

one-is : (table : Map) (o q : OpenOrder) → Ok table o → Some o ≡ Some q → Ok table q
one-is table o q h e = let is : o ≡ q = cc in subst (Ok table) is h

one-asks : (o q : OpenOrder) (ls : List (NodeNo × Letter)) → AllAsk o ls → Some o ≡ Some q → AllAsk q ls
one-asks o q ls h e = let is : o ≡ q = cc in subst (λ x. AllAsk x ls) is h

over : (table : Map) (t : BrickTurn) → t.state.order ≡ None → JoinGoes table t
over table t none = record { copies = λ q e j. absurd (no q (sym none ∙ e)); asks = λ q e j. absurd (no q (sym none ∙ e)) }
  where
    no : (q : OpenOrder) → None ≡ Some q → ⊥
    no q e = cc

goes-on : (table : Map) (t : BrickTurn) (o : OpenOrder) → t.state.order ≡ Some o → Ok table o → AllAsk o t.out.letters → JoinGoes table t
goes-on table t o is h asks =
    record { copies = λ q e. one-is table o q h (sym is ∙ e); asks = λ q e j. one-asks o q t.out.letters asks (sym is ∙ e) }

goes-if : (table : Map) (c : Bool) (t u : BrickTurn) → (c ≡ true → JoinGoes table t) → (c ≡ false → JoinGoes table u) → JoinGoes table (if c then t else u)
goes-if table true t u f g = f refl
goes-if table false t u f g = g refl

stays : (table : Map) (s : BrickState) (o : OpenOrder) → Ok table o → JoinGoes table (still (order.going_on s o))
stays table s o h = goes-on table _ o refl h tt

ends : (table : Map) (s : BrickState) (o : OpenOrder) (reply : OrderReply) → JoinGoes table (order.ends s o reply)
ends table s o reply = over table _ refl

finishes : (table : Map) (s : BrickState) (o : OpenOrder) (made : Leaf) → JoinGoes table (order.finishes s o made)
finishes table s o made = over table _ refl

installs_from : (table : Map) (s : BrickState) (o : OpenOrder) (made : Leaf) (nodes : List NodeNo)
    → (is_join o.task ≡ true → o.copied ≡ pairs_after table o.name None) → JoinGoes table (order.installs_from s o made nodes)
installs_from table s o made [] all = finishes table s o made
installs_from table s o made (n ∷ ns) all =
    let q = record o { waiting = n ∷ ns; phase = Installing made } in
    goes-on table _ q refl all (asks-each q (n ∷ ns) (letter.Install o.number made) tt)

installs : (table : Map) (s : BrickState) (o : OpenOrder) (leaf : Leaf) → (is_join o.task ≡ true → o.copied ≡ pairs_after table o.name None)
    → JoinGoes table (order.installs s o leaf)
installs table s o leaf all = installs_from table (record s { made = s.made + 1 }) o _ _ all

copies_from : (table : Map) (s : BrickState) (o : OpenOrder) (nodes : List NodeNo) → JoinGoes table (order.copies_from s o nodes)
copies_from table s o [] = ends table s o answered.NoSource
copies_from table s o (n ∷ ns) =
    goes-on table _ (record o { copied = []; phase = Copying n }) refl (λ j. refl) ((λ e. (refl, refl)), tt)

leased_all : (table : Map) (s : BrickState) (o : OpenOrder) (leaf : Leaf) (t : Task) → o.task ≡ t → JoinGoes table (order.leased_all s o leaf t)
leased_all table s o leaf (Join via) e = copies_from table s o (order.sources s o leaf)
leased_all table s o leaf Split e = installs table s o leaf (λ j. absurd (no (sym (ap is_join e) ∙ j)))
  where
    no : false ≡ true → ⊥
    no f = cc

leased_all_at : (table : Map) (s : BrickState) (o : OpenOrder) (leaf : Option Leaf) → Ok table o → JoinGoes table (order.leased_all_at s o leaf)
leased_all_at table s o None h = stays table s o h
leased_all_at table s o (Some leaf) h = leased_all table s o leaf o.task refl

leases_on : (table : Map) (s : BrickState) (o : OpenOrder) → Ok table o → JoinGoes table (order.leases_on s o)
leases_on table s o h =
    goes-if table (is_none_left o.waiting) _ _ (λ e. leased_all_at table s o o.leaf h) (λ e. stays table s o h)

-- letters that ask for no pairs, and then a turn
more : (table : Map) (ls : List (NodeNo × Letter)) (s : BrickState) (row : BrickState → BrickTurn) → ((o : OpenOrder) → AllAsk o ls)
    → JoinGoes table (row s) → JoinGoes table (and_then (sends s ls) row)
more table ls s row asks h =
    record {
      copies = h.copies;
      asks = λ q e j. all-append (λ (p : NodeNo × Letter). AsksNext q p.1) ls (row s).out.letters (asks q) (h.asks q e j);
    }

fixes : (table : Map) (s : BrickState) (o : OpenOrder) (from : NodeNo) (leaf : Leaf) → Ok table o → JoinGoes table (order.fixes s o from leaf)
fixes table s o from leaf h =
    goes-if table (order.is_worn leaf) _ _ (λ e. ends table s o answered.Worn) (λ e.
    goes-if table (nat_le MEMBERS (length (live leaf.list (has_node s.known)))) _ _ (λ f. ends table s o answered.GroupFull)
    (λ f. more table _ s (λ t. order.leases_on t (order.widened s o from leaf))
    (λ q. asks-each q (unknown_others leaf.list from s.known) (letter.Lease o.number (wanted.Leaf leaf)) tt)
    (leases_on table s (order.widened s o from leaf) h)))

granted_join : (table : Map) (s : BrickState) (o : OpenOrder) (from : NodeNo) (leaf : Leaf) (q : Option Leaf) → Ok table o
    → JoinGoes table (order.granted_join s o from leaf q)
granted_join table s o from leaf None h = fixes table s o from leaf h
granted_join table s o from leaf (Some fixed) h = leases_on table s o h

grants : (table : Map) (s : BrickState) (o : OpenOrder) (from : NodeNo) (leaf : Leaf) (t : Task) → Ok table o → JoinGoes table (order.grants s o from leaf t)
grants table s o from leaf (Join via) h = granted_join table s o from leaf o.leaf h
grants table s o from leaf Split h = leases_on table s o h

-- the last pairs
copied_all : (table : Map) (s : BrickState) (o : OpenOrder) (leaf : Option Leaf) → Ok table o
    → (is_join o.task ≡ true → o.copied ≡ pairs_after table o.name None) → JoinGoes table (order.copied_all s o leaf)
copied_all table s o None h all = stays table s o h
copied_all table s o (Some leaf) h all = installs table s o leaf all

copied_on : (table : Map) (s : BrickState) (o : OpenOrder) (source : NodeNo) (last : Bool) → Ok table o
    → (last ≡ true → is_join o.task ≡ true → o.copied ≡ pairs_after table o.name None) → JoinGoes table (order.copied_on s o source last)
copied_on table s o source true h all = copied_all table s o o.leaf h (all refl)
copied_on table s o source false h all = goes-on table _ o refl h ((λ e. (refl, refl)), tt)

comes : (table : Map) (s : BrickState) (o : OpenOrder) (source : NodeNo) (number : ℕ) (last : Bool) (pairs : List Pair) → o.phase ≡ Copying source
    → number ≡ o.number → Ok table o → (is_join o.task ≡ true → TellsNext table o (letter.CopyPart number last pairs))
    → JoinGoes table (order.copied_on s (with_part o pairs) source last)
comes table s o source number last pairs phase same h part =
    let was = (λ (j : is_join o.task ≡ true). subst (AreCopied table o) phase (h j)) in
    copied_on table s (with_part o pairs) source last
    (λ j. subst (AreCopied table (with_part o pairs)) (sym phase) (more-copied table o source last pairs (was j) (part j same)))
    (λ e j. all-copied table o source pairs (was j)
    (subst (λ b. TellsNext table o (letter.CopyPart number b pairs)) e (part j) same))

-- members that install, and a notice
installs_on : (table : Map) (s : BrickState) (o : OpenOrder) (made : Leaf) → Ok table o → JoinGoes table (order.installs_on s o made)
installs_on table s o made h = goes-if table (is_none_left o.waiting) _ _ (λ e. finishes table s o made) (λ e. stays table s o h)

installed_in : (table : Map) (s : BrickState) (o : OpenOrder) (phase : OrderPhase) → order.is_installing phase ≡ true → Ok table o
    → JoinGoes table (order.installed_in s o phase)
installed_in table s o Leasing e h = cc
installed_in table s o (Copying source) e h = cc
installed_in table s o (Installing made) e h = installs_on table s o made h

copies_again : (table : Map) (s : BrickState) (o : OpenOrder) (leaf : Option Leaf) → Ok table o → JoinGoes table (notices.copies_again s o leaf)
copies_again table s o None h = stays table s o h
copies_again table s o (Some leaf) h = copies_from table s o (order.sources s o leaf)

pub order_goes : (table : Map) (s : BrickState) (o : OpenOrder) (y : NodeNo) (phase : OrderPhase) → (is_join o.task ≡ true → AreCopied table o o.phase)
    → JoinGoes table (notices.order_goes s o y phase)
order_goes table s o y Leasing h =
    goes-if table (notices.is_lost o y o.task) _ _ (λ e. ends table s o answered.NoSource)
    (λ e. leases_on table s (record o { waiting = without o.waiting y }) h)
order_goes table s o y (Copying source) h = copies_again table s o o.leaf h
order_goes table s o y (Installing made) h = installs_on table s (record o { waiting = without o.waiting y }) made h

-- letters to the open order
abbrev Owes : Map → BrickState → ℕ → (OpenOrder → Bool) → (BrickState → OpenOrder → BrickTurn) → Type 0
Owes table s number test row =
    (o : OpenOrder) → s.order ≡ Some o → o.number ≡ number → test o ≡ true → JoinGoes table (row (record s { order = None }) o)

pub same-order : (table : Map) (s : BrickState) (t : BrickTurn) → t.state.order ≡ s.order → ((o : OpenOrder) → AllByRecursion (λ (p : NodeNo × Letter).
    AsksNext o p.1) t.out.letters) → JoinCopies table s → JoinGoes table t
same-order table s t is asks h = record { copies = λ q e. h q (sym is ∙ e); asks = λ q e j. asks q }

with-order : (table : Map) (s : BrickState) (number : ℕ) (test : OpenOrder → Bool) (row : BrickState → OpenOrder → BrickTurn) (q : Option OpenOrder)
    → s.order ≡ q → order.is_at number test q ≡ true → Owes table s number test row → JoinGoes table (order.with_order s row q)
with-order table s number test row None is e f = cc
with-order table s number test row (Some o) is e f =
    let a = and_parts (o.number == number) (test o) e in
    f o is (eqb-true o.number number a.0) a.1

at-order : (table : Map) (s : BrickState) (number : ℕ) (test : OpenOrder → Bool) (row : BrickState → OpenOrder → BrickTurn) → JoinCopies table s
    → Owes table s number test row → JoinGoes table (order.at_order s number test row)
at-order table s number test row h f =
    goes-if table (order.is_at number test s.order) _ _ (λ e. with-order table s number test row s.order refl e f)
    (λ e. same-order table s (still s) refl (λ o. tt) h)

pub granted_row : (table : Map) (s : BrickState) (from : NodeNo) (number : ℕ) (leaf : Leaf) → JoinCopies table s
    → JoinGoes table (order.granted_row s from number leaf)
granted_row table s from number leaf h =
    at-order table s number (order.takes_grant s.number leaf) (λ t o. order.grants t (order.with_grant o from) from leaf o.task) h
    (λ o is same e. grants table (record s { order = None }) (order.with_grant o from) from leaf o.task (h o is))

pub lease_refused_row : (table : Map) (s : BrickState) (from : NodeNo) (number : ℕ) (why : Refusal) → JoinCopies table s
    → JoinGoes table (order.lease_refused_row s from number why)
lease_refused_row table s from number why h =
    at-order table s number (λ o. order.is_leasing o.phase) (λ t o. order.ends t o (answered.Refused (order.met_of why from))) h
    (λ o is same e. ends table (record s { order = None }) o (answered.Refused (order.met_of why from)))

pub copy_part_row : (table : Map) (s : BrickState) (from : NodeNo) (number : ℕ) (last : Bool) (pairs : List Pair) → JoinCopies table s
    → ((o : OpenOrder) → s.order ≡ Some o → is_join o.task ≡ true → o.phase ≡ Copying from → TellsNext table o (letter.CopyPart number last pairs))
    → JoinGoes table (order.copy_part_row s from number last pairs)
copy_part_row table s from number last pairs h part =
    at-order table s number (λ o. order.is_source from o.phase && order.fits o pairs)
    (λ t o. order.copied_on t (record o { copied = o.copied ++ pairs }) from last) h
    (λ o is same e.
    let phase = source-is from o.phase (and_parts (order.is_source from o.phase) (order.fits o pairs) e).0 in
    comes table (record s { order = None }) o from number last pairs phase (sym same) (h o is) (λ j. part o is j phase))

pub installed_row : (table : Map) (s : BrickState) (from : NodeNo) (number : ℕ) → JoinCopies table s → JoinGoes table (order.installed_row s from number)
installed_row table s from number h =
    at-order table s number (λ o. order.is_installing o.phase) (λ t o. order.installed_in t (record o { waiting = without o.waiting from }) o.phase) h
    (λ o is same e. installed_in table (record s { order = None }) (record o { waiting = without o.waiting from }) o.phase e (h o is))

with-some : (table : Map) (s : BrickState) (y : NodeNo) (q : Option OpenOrder) → s.order ≡ q → JoinCopies table s
    → JoinGoes table (order.with_order s (λ t o. notices.order_goes t o y o.phase) q)
with-some table s y None is h = same-order table s (still s) refl (λ o. tt) h
with-some table s y (Some o) is h = order_goes table (record s { order = None }) o y o.phase (h o is)

pub order_part : (table : Map) (s : BrickState) (y : NodeNo) → JoinCopies table s → JoinGoes table (notices.order_part s y)
order_part table s y h =
    goes-if table (notices.concerns_some y s.order) _ _ (λ e. with-some table s y s.order refl h) (λ e. same-order table s (still s) refl (λ o. tt) h)

-- an order that comes
answers : (table : Map) (s : BrickState) (r : OrderReply) → JoinCopies table s → JoinGoes table (order.answers s r)
answers table s r h = same-order table s (order.answers s r) refl (λ o. tt) h

split_opens : (table : Map) (s : BrickState) (leaf : Leaf) → JoinGoes table (order.split_opens s leaf)
split_opens table s leaf =
    let u = record (orders.leasing s leaf.name s.number) { orders = s.orders + 1 } in
    more table _ u (λ t. order.leases_on t (order.new_split s leaf))
    (λ q. asks-each q (unknown_others leaf.list s.number s.known) (letter.Lease s.orders (wanted.Leaf leaf)) tt)
    (leases_on table u (order.new_split s leaf) (λ j. tt))

split_leaf : (table : Map) (s : BrickState) (leaf : Leaf) → JoinCopies table s → JoinGoes table (order.split_leaf s leaf)
split_leaf table s leaf h =
    goes-if table (leaf.name.depth == 16) _ _ (λ e. answers table s answered.Deepest h) (λ e.
    goes-if table (order.is_worn leaf) _ _ (λ f. answers table s answered.Worn h) (λ f.
    goes-if table (is_some (leased s.locks.leases leaf.name)) _ _ (λ g. answers table s _ h) (λ g.
    goes-if table (any_under s.locks.pending leaf.name) _ _ (λ k. answers table s _ h) (λ k. split_opens table s leaf))))

split_named : (table : Map) (s : BrickState) (leaf : Option Leaf) → JoinCopies table s → JoinGoes table (order.split_named s leaf)
split_named table s None h = answers table s answered.NotServing h
split_named table s (Some leaf) h = split_leaf table s leaf h

pub told : (table : Map) (s : BrickState) (o : Order) → JoinCopies table s → JoinGoes table (brick_input s o)
told table s (the_order.Join brick name via) h =
    goes-if table s.stopped _ _ (λ e. answers table s answered.Stopped h) (λ e.
    goes-if table (is_some s.order) _ _ (λ f. answers table s answered.OrderOpen h) (λ f.
    goes-if table (list_any (λ other. overlaps other name) (keys s.leaves)) _ _ (λ g. answers table s answered.AlreadyThere h) (λ g.
    goes-if table (via == s.number || has_node s.known via) _ _ (λ k. answers table s answered.NoSource h)
    (λ k. goes-on table (order.join_opens s name via) (order.opens s (Join via) name None (via ∷ [])) refl (λ j. tt) (tt, tt)))))
told table s (the_order.Split brick name) h =
    goes-if table s.stopped _ _ (λ e. answers table s answered.Stopped h) (λ e.
    goes-if table (is_some s.order) _ _ (λ f. answers table s answered.OrderOpen h) (λ f. split_named table s (get s.leaves name) h))
