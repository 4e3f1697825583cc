use Rattle.std.proofs.Common.{◌≡◌, ℕ, ◌+◌, Bool, true, false, Option, Some, None, List, [], ◌∷◌, refl, sym, ap, ◌∙◌}
use Rattle.std.proofs.lemmas.Bool.{and_parts}
use Rattle.std.specs.Prelude.{is_some, nat_le, length, if◌then◌else◌}
use Rattle.dds_base.specs.BrickList.{has}
use Rattle.dds_base.specs.Name.{Name}
use Rattle.dds_base.specs.NodeSet.{has_node}
use Rattle.dds_base.specs.declared.brick_list.TheConstants.{MEMBERS}
use Rattle.dds_base.specs.declared.leaf.Leaf.{Leaf}
use Rattle.dds_base.specs.declared.node_set.NodeSet.{NodeSet}
use Rattle.dds_base.specs.declared.number.NodeNo.{NodeNo}
use Rattle.dds_base.specs.declared.op.OrderReply.{OrderReply}
use Rattle.dds_base.specs.declared.op.OrderReply.TheVariants as answered
use Rattle.dds_base.specs.declared.pair.Pair.{Pair}
use Rattle.dds_brick_rows.specs.Refusal.{is_join}
use Rattle.dds_core.specs.Notice as notices
use Rattle.dds_groups.specs.Leaves.{live}
use Rattle.dds_law_own.proofs.Changes.{Own, served}
use Rattle.dds_law_own.proofs.OrderWays.{closed-if, served-if}
use Rattle.dds_letters.specs.declared.letter.Letter.{Letter}
use Rattle.dds_letters.specs.declared.letter.Letter.TheVariants as letter
use Rattle.dds_net.proofs.Puts.{if-keeps}
use Rattle.dds_order_rows.specs.OwnOrder as order
use Rattle.dds_orders.proofs.Asked.{or-left}
use Rattle.dds_orders.proofs.Numbers.{has-append}
use Rattle.dds_states.specs.Turn.{BrickTurn, is_none_left, without}
use Rattle.dds_states.specs.declared.brick_state.BrickState.{BrickState}
use Rattle.dds_states.specs.declared.brick_state.OpenOrder.{OpenOrder}
use Rattle.dds_states.specs.declared.brick_state.OrderPhase.{OrderPhase}
use Rattle.dds_states.specs.declared.brick_state.OrderPhase.TheVariants.{Copying, Installing, Leasing}
use Rattle.dds_states.specs.declared.brick_state.Task.{Task}
use Rattle.dds_states.specs.declared.brick_state.Task.TheVariants.{Join, Split}
use Rattle.dds_trie.specs.Trie.{LeafMap}

-- What the rows of a brick's own order do to an open join: it leases on, or goes on, or begins to copy, or has copied more, or is over.

-- one order at two moments
pub record Same (p o : OpenOrder) : Type 0 where
  pub number : o.number ≡ p.number
  pub name : o.name ≡ p.name
  pub granted : (n : ℕ) → has p.granted n ≡ true → has o.granted n ≡ true

-- a letter after which a member isn't waited for
pub data IsAnswer (p : OpenOrder) : Letter → Type 0 where
  installs : (name : Name) → IsAnswer p (letter.Installed p.number name)
  stops : IsAnswer p letter.Notice

pub data IsPart (p : OpenOrder) : Letter → Type 0 where
  is_part : (last : Bool) (pairs : List Pair) → IsPart p (letter.CopyPart p.number last pairs)

-- the brick after a letter, where the join p was open before; it had this number, knew these nodes, and had these leaves
pub data JoinGoes (number : ℕ) (known : NodeSet) (m : LeafMap) (p : OpenOrder) (from : NodeNo) (l : Letter) (u : BrickTurn) : Type 0 where
  leases : (o : OpenOrder) → u.state.order ≡ Some o → Same p o → order.is_leasing o.phase ≡ true → u.state.leaves ≡ m
      → JoinGoes number known m p from l u
  goes_on : (o : OpenOrder) → u.state.order ≡ Some o → Same p o → o.phase ≡ p.phase → o.copied ≡ p.copied → o.leaf ≡ p.leaf
      → u.state.leaves ≡ m → JoinGoes number known m p from l u
  begins : (o : OpenOrder) (source : NodeNo) → u.state.order ≡ Some o → Same p o → o.copied ≡ [] → o.phase ≡ Copying source → is_some o.leaf ≡ true
      → u.state.leaves ≡ m → JoinGoes number known m p from l u
  copies : (o : OpenOrder) → u.state.order ≡ Some o → Same p o → p.phase ≡ Copying from → IsPart p l → o.leaf ≡ p.leaf
      → u.state.leaves ≡ m → JoinGoes number known m p from l u
  ended : u.state.order ≡ None → u.state.leaves ≡ m → JoinGoes number known m p from l u
  installed : (made : Leaf) → p.phase ≡ Installing made → is_none_left (without p.waiting from) ≡ true → IsAnswer p l → u.state.order ≡ None
      → u.state.leaves ≡ served m p made p.task → JoinGoes number known m p from l u
  at_once : (leaf : Leaf) (v : BrickState) (o : OpenOrder) → p.phase ≡ Copying from → IsPart p l → p.leaf ≡ Some leaf → o.granted ≡ p.granted
      → v.number ≡ number → v.known ≡ known → without (order.parting v o leaf) v.number ≡ [] → u.state.order ≡ None
      → u.state.leaves ≡ served m p (order.made_leaf v o leaf p.task) p.task → JoinGoes number known m p from l u

pub same-order : (p : OpenOrder) → Same p p
same-order p = record { number = refl; name = refl; granted = λ n k. k }

served-same : (m : LeafMap) (o p : OpenOrder) (made : Leaf) (t : Task) → is_join t ≡ true → served m o made t ≡ served m p made t
served-same m o p made (Join via) e = refl
served-same m o p made Split e = cc

module _ (p : OpenOrder) (join : is_join p.task ≡ true) (from : NodeNo) (l : Letter) (number : ℕ) (known : NodeSet) where
  abbrev Goes : LeafMap → BrickTurn → Type 0
  Goes m t = JoinGoes number known m p from l t

  goes-when : (m : LeafMap) (c : Bool) {t u : BrickTurn} → (c ≡ true → Goes m t) → (c ≡ false → Goes m u) → Goes m (if c then t else u)
  goes-when m c {t = t} {u = u} f g = if-keeps (Goes m) c t u f g

  pub ends : (s : BrickState) (o : OpenOrder) (reply : OrderReply) → Goes s.leaves (order.ends s o reply)
  ends s o reply = ended refl (ap (λ (x : Own). x.leaves) (closed-if s o (is_join o.task)))

  -- it copies, or leases on
  copies_from : (s : BrickState) (o : OpenOrder) (leaf : Leaf) (nodes : List NodeNo) → o.leaf ≡ Some leaf → Same p o
      → Goes s.leaves (order.copies_from s o nodes)
  copies_from s o leaf [] fixed same = ends s o answered.NoSource
  copies_from s o leaf (n ∷ ns) fixed same =
      begins (record o { copied = []; phase = Copying n }) n refl (record { number = same.number; name = same.name; granted = same.granted }) refl refl
      (ap is_some fixed) refl

  leased_all : (s : BrickState) (o : OpenOrder) (leaf : Leaf) (t : Task) → o.leaf ≡ Some leaf → is_join t ≡ true → Same p o
      → Goes s.leaves (order.leased_all s o leaf t)
  leased_all s o leaf (Join via) fixed e same = copies_from s o leaf (order.sources s o leaf) fixed same
  leased_all s o leaf Split fixed e same = cc

  leased_all_at : (s : BrickState) (o : OpenOrder) (leaf : Option Leaf) → o.leaf ≡ leaf → o.task ≡ p.task → order.is_leasing o.phase ≡ true → Same p o
      → Goes s.leaves (order.leased_all_at s o leaf)
  leased_all_at s o None fixed task leasing same = leases o refl same leasing refl
  leased_all_at s o (Some leaf) fixed task leasing same = leased_all s o leaf o.task fixed (ap is_join task ∙ join) same

  pub leases_on : (s : BrickState) (o : OpenOrder) → o.task ≡ p.task → order.is_leasing o.phase ≡ true → Same p o → Goes s.leaves (order.leases_on s o)
  leases_on s o task leasing same =
      goes-when s.leaves (is_none_left o.waiting) (λ e. leased_all_at s o o.leaf refl task leasing same) (λ e. leases o refl same leasing refl)

  fixing : (s : BrickState) (o : OpenOrder) (sender : NodeNo) (leaf : Leaf) → o.task ≡ p.task → order.is_leasing o.phase ≡ true → Same p o
      → Goes s.leaves (order.fixes s o sender leaf)
  fixing s o sender leaf task leasing same =
      goes-when s.leaves (order.is_worn leaf) (λ e. ends s o answered.Worn)
      (λ e. goes-when s.leaves (nat_le MEMBERS (length (live leaf.list (has_node s.known)))) (λ f. ends s o answered.GroupFull)
      (λ f. widening (leases_on s (order.widened s o sender leaf) task leasing
      (record { number = same.number; name = same.name; granted = same.granted }))))
    where
      widening : Goes s.leaves (order.leases_on s (order.widened s o sender leaf)) → Goes s.leaves (order.fixed s o sender leaf)
      widening (leases o e f g h) = leases o e f g h
      widening (goes_on o e f g i j k) = goes_on o e f g i j k
      widening (begins o n e f g i j k) = begins o n e f g i j k
      widening (copies o e f g i j k) = copies o e f g i j k
      widening (ended e f) = ended e f
      widening (installed made e f g i j) = installed made e f g i j
      widening (at_once leaf v o e f g i j k q r w) = at_once leaf v o e f g i j k q r w

  granted_join : (s : BrickState) (o : OpenOrder) (sender : NodeNo) (leaf : Leaf) (q : Option Leaf) → o.task ≡ p.task → order.is_leasing o.phase ≡ true
      → Same p o → Goes s.leaves (order.granted_join s o sender leaf q)
  granted_join s o sender leaf None task leasing same = fixing s o sender leaf task leasing same
  granted_join s o sender leaf (Some fixed) task leasing same = leases_on s o task leasing same

  grants : (s : BrickState) (o : OpenOrder) (sender : NodeNo) (leaf : Leaf) (t : Task) → is_join t ≡ true → o.task ≡ p.task
      → order.is_leasing o.phase ≡ true → Same p o → Goes s.leaves (order.grants s o sender leaf t)
  grants s o sender leaf (Join via) e task leasing same = granted_join s o sender leaf o.leaf task leasing same
  grants s o sender leaf Split e task leasing same = cc

  pub granted : (s : BrickState) (sender : NodeNo) (leaf : Leaf) → order.takes_grant s.number leaf p ≡ true
      → Goes s.leaves (order.grants (record s { order = None }) (order.with_grant p sender) sender leaf p.task)
  granted s sender leaf e =
      let leasing = (and_parts (order.is_leasing p.phase) _ e).0 in
      grants (record s { order = None }) (order.with_grant p sender) sender leaf p.task join refl leasing (record {
        number = refl;
        name = refl;
        granted = λ n k. has-append p.granted (sender ∷ []) n ∙ or-left (has p.granted n) (has (sender ∷ []) n) k;
      })

  -- members install its leaf
  finishes : (s : BrickState) (o : OpenOrder) (made : Leaf) → o.task ≡ p.task
      → (order.finishes s o made).state.leaves ≡ served s.leaves p made p.task
  finishes s o made task =
      ap (λ (x : Own). x.leaves) (served-if s o made o.task) ∙ ap (served s.leaves o made) task ∙ served-same s.leaves o p made p.task join

  installs_on : (s : BrickState) (o : OpenOrder) (made : Leaf) → o.task ≡ p.task → o.phase ≡ p.phase → o.copied ≡ p.copied → o.leaf ≡ p.leaf
      → p.phase ≡ Installing made
      → o.waiting ≡ without p.waiting from → IsAnswer p l → Same p o → Goes s.leaves (order.installs_on s o made)
  installs_on s o made task phase copied leaf installing waiting answer same =
      goes-when s.leaves (is_none_left o.waiting)
      (λ e. installed made installing (sym (ap is_none_left waiting) ∙ e) answer refl (finishes s o made task))
      (λ e. goes_on o refl same phase copied leaf refl)

  abbrev pub without_it : OpenOrder
  without_it = record p { waiting = without p.waiting from }

  pub installed_in : (s : BrickState) (phase : OrderPhase) → p.phase ≡ phase → IsAnswer p l
      → Goes s.leaves (order.installed_in (record s { order = None }) without_it phase)
  installed_in s Leasing e answer = ended refl refl
  installed_in s (Copying source) e answer = ended refl refl
  installed_in s (Installing made) e answer =
      installs_on (record s { order = None }) without_it made refl refl refl refl e refl answer (record { number = refl; name = refl; granted = λ n k. k })

  -- it copied
  installs_from : (s v : BrickState) (o : OpenOrder) (leaf : Leaf) (nodes : List NodeNo) → o.task ≡ p.task → p.phase ≡ Copying from → IsPart p l
      → o.leaf ≡ p.leaf → p.leaf ≡ Some leaf → o.granted ≡ p.granted → v.number ≡ number → v.known ≡ known → without (order.parting v o leaf) v.number ≡ nodes
      → Same p o → Goes s.leaves (order.installs_from s o (order.made_leaf v o leaf o.task) nodes)
  installs_from s v o leaf [] task phase part leaf_is fixed gave number_is known_is none same =
      at_once leaf v o phase part fixed gave number_is known_is none refl
      (finishes s o (order.made_leaf v o leaf o.task) task ∙ ap (λ t. served s.leaves p (order.made_leaf v o leaf t) p.task) task)
  installs_from s v o leaf (n ∷ ns) task phase part leaf_is fixed gave number_is known_is some same =
      copies (record o { waiting = n ∷ ns; phase = Installing (order.made_leaf v o leaf o.task) }) refl
      (record { number = same.number; name = same.name; granted = same.granted }) phase part leaf_is refl

  copied_all : (s : BrickState) (o : OpenOrder) (leaf : Option Leaf) → o.task ≡ p.task → p.phase ≡ Copying from → IsPart p l
      → o.leaf ≡ p.leaf → p.leaf ≡ leaf → o.granted ≡ p.granted → s.number ≡ number → s.known ≡ known → Same p o → Goes s.leaves (order.copied_all s o leaf)
  copied_all s o None task phase part leaf_is fixed gave number_is known_is same = copies o refl same phase part leaf_is refl
  copied_all s o (Some leaf) task phase part leaf_is fixed gave number_is known_is same =
      installs_from (record s { made = s.made + 1 }) s o leaf (without (order.parting s o leaf) s.number) task phase part leaf_is fixed gave number_is
      known_is refl same

  pub copied_on : (s : BrickState) (o : OpenOrder) (source : NodeNo) (last : Bool) → o.task ≡ p.task → p.phase ≡ Copying from → IsPart p l
      → o.leaf ≡ p.leaf → o.granted ≡ p.granted → s.number ≡ number → s.known ≡ known → Same p o → Goes s.leaves (order.copied_on s o source last)
  copied_on s o source true task phase part leaf gave number_is known_is same =
      copied_all s o o.leaf task phase part leaf (sym leaf) gave number_is known_is same
  copied_on s o source false task phase part leaf gave number_is known_is same = copies o refl same phase part leaf refl

  -- a notice
  copies_again : (s : BrickState) (leaf : Option Leaf) → p.leaf ≡ leaf → Goes s.leaves (notices.copies_again s p leaf)
  copies_again s None fixed = goes_on p refl (same-order p) refl refl refl refl
  copies_again s (Some leaf) fixed = copies_from s p leaf (order.sources s p leaf) fixed (same-order p)

  pub order_goes : (s : BrickState) (phase : OrderPhase) → p.phase ≡ phase → IsAnswer p l → Goes s.leaves (notices.order_goes s p from phase)
  order_goes s Leasing e answer =
      goes-when s.leaves (notices.is_lost p from p.task) (λ f. ends s p answered.NoSource)
      (λ f. leases_on s without_it refl (ap order.is_leasing e) (record { number = refl; name = refl; granted = λ n k. k }))
  order_goes s (Copying source) e answer = copies_again s p.leaf refl
  order_goes s (Installing made) e answer =
      installs_on s without_it made refl refl refl refl e refl answer (record { number = refl; name = refl; granted = λ n k. k })
