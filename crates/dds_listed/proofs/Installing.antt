use Rattle.std.proofs.Common.{◌≡◌, ℕ, Bool, true, false, Option, Some, None, refl, sym, ap, ◌∙◌, subst}
use Rattle.std.proofs.lemmas.Bool.{and_parts}
use Rattle.std.specs.Prelude.{◌&&◌, ◌++◌}
use Rattle.dds_base.specs.declared.leaf.Leaf.{Leaf}
use Rattle.dds_base.specs.declared.number.NodeNo.{NodeNo}
use Rattle.dds_base.specs.declared.op.OrderReply.TheVariants as answered
use Rattle.dds_brick_rows.specs.Refusal.{is_join}
use Rattle.dds_core.specs.Brick.{live_brick_turn}
use Rattle.dds_core.specs.Notice as notices
use Rattle.dds_law_leaf.proofs.Book.{Leafing}
use Rattle.dds_law_own.proofs.Changes.{Own, served}
use Rattle.dds_law_own.proofs.OrderWays.{served-if, test-at}
use Rattle.dds_letters.specs.declared.letter.Letter.{Letter}
use Rattle.dds_net.proofs.Puts.{if-keeps}
use Rattle.dds_order_rows.specs.OwnOrder as order
use Rattle.dds_orders.proofs.Turns.{source-is}
use Rattle.dds_share.proofs.JoinTurns.{IsOfOrder, Rests, copies_on, grants, letter-rests, notice-same, of_order, refuses, rests, says_so, tells}
use Rattle.dds_states.specs.Turn.{BrickTurn, is_none_left, without}
use Rattle.dds_states.specs.declared.brick_state.BrickState.{BrickState}
use Rattle.dds_states.specs.declared.brick_state.OpenOrder.{OpenOrder}
use Rattle.dds_states.specs.declared.brick_state.OrderPhase.{OrderPhase}
use Rattle.dds_states.specs.declared.brick_state.OrderPhase.TheVariants.{Copying, Installing}
use Rattle.dds_states.specs.declared.brick_state.Task.{Task}
use Rattle.dds_states.specs.declared.brick_state.Task.TheVariants.{Join, Split}
use Rattle.dds_trie.specs.Trie.{LeafMap, put}

-- A join that installs what it made goes on to do so at each letter, or serves it.

pub data InstallsOn (m : LeafMap) (p : OpenOrder) (made : Leaf) (u : BrickTurn) : Type 0 where
  goes_on : (o : OpenOrder) → u.state.order ≡ Some o → o.task ≡ p.task → o.leaf ≡ p.leaf → o.phase ≡ Installing made → InstallsOn m p made u
  is_served : u.state.leaves ≡ put m made → InstallsOn m p made u

join-served : (m : LeafMap) (o : OpenOrder) (made : Leaf) (t : Task) → is_join t ≡ true → served m o made t ≡ put m made
join-served m o made (Join via) e = refl
join-served m o made Split e = cc

phase-not : (p : OpenOrder) (made : Leaf) → p.phase ≡ Installing made → order.is_leasing p.phase ≡ true → ⊥
phase-not p made e h = let no : false ≡ true = sym (ap order.is_leasing e) ∙ h in cc

source-not : (p : OpenOrder) (made : Leaf) (from : NodeNo) → p.phase ≡ Installing made → order.is_source from p.phase ≡ true → ⊥
source-not p made from e h = let no : Installing made ≡ Copying from = sym e ∙ source-is from p.phase h in cc

module _ (s : BrickState) (p : OpenOrder) (made : Leaf) (there : s.order ≡ Some p) (join : is_join p.task ≡ true) (phase : p.phase ≡ Installing made)
  where
    abbrev Goes : BrickTurn → Type 0
    Goes t = InstallsOn s.leaves p made t

    stays : (t : BrickTurn) → t.state.order ≡ s.order → Goes t
    stays t e = goes_on p (e ∙ there) refl refl phase

    installs_on : (t : BrickState) (o : OpenOrder) → t.leaves ≡ s.leaves → o.task ≡ p.task → o.leaf ≡ p.leaf → o.phase ≡ Installing made
        → Goes (order.installs_on t o made)
    installs_on t o leaves task leaf its =
        if-keeps Goes (is_none_left o.waiting) _ _
        (λ e. is_served (ap (λ (x : Own). x.leaves) (served-if t o made o.task) ∙ join-served t.leaves o made o.task (ap is_join task ∙ join)
        ∙ ap (λ m. put m made) leaves))
        (λ e. goes_on o refl task leaf its)

    -- a letter to the open order
    with-order : (t : BrickState) (row : BrickState → OpenOrder → BrickTurn) (q : Option OpenOrder) → q ≡ Some p
        → Goes (row (record t { order = None }) p) → Goes (order.with_order t row q)
    with-order t row None e h = cc
    with-order t row (Some o) e h = let is : p ≡ o = cc in subst (λ (x : OpenOrder). Goes (row (record t { order = None }) x)) is h

    at-order : (number : ℕ) (test : OpenOrder → Bool) (row : BrickState → OpenOrder → BrickTurn)
        → (test p ≡ true → Goes (row (record s { order = None }) p)) → Goes (order.at_order s number test row)
    at-order number test row f =
        if-keeps Goes (order.is_at number test s.order) _ _
        (λ e. with-order s row s.order there (f (test-at number test s.order p e there)))
        (λ e. stays _ refl)

    installed_in : (from : NodeNo) (q : OrderPhase) → q ≡ Installing made
        → Goes (order.installed_in (record s { order = None }) (record p { waiting = without p.waiting from }) q)
    installed_in from q e =
        subst (λ x. Goes (order.installed_in (record s { order = None }) (record p { waiting = without p.waiting from }) x)) (sym e)
        (installs_on (record s { order = None }) (record p { waiting = without p.waiting from }) refl refl refl phase)

    order_goes : (from : NodeNo) (q : OrderPhase) → q ≡ Installing made → Goes (notices.order_goes (record (notices.learns s from) { order = None }) p from q)
    order_goes from q e =
        subst (λ x. Goes (notices.order_goes (record (notices.learns s from) { order = None }) p from x)) (sym e)
        (installs_on (record (notices.learns s from) { order = None }) (record p { waiting = without p.waiting from }) refl refl refl phase)

    like : (t u : BrickTurn) → u.state.order ≡ t.state.order → u.state.leaves ≡ t.state.leaves → Goes t → Goes u
    like t u e f (goes_on o g task leaf its) = goes_on o (e ∙ g) task leaf its
    like t u e f (is_served leaves) = is_served (f ∙ leaves)

    notice_row : (from : NodeNo) → Goes (notices.notice_row s from)
    notice_row from =
        let a = notices.learns s from in
        let same = notice-same s from in
        like (notices.order_part a from) (notices.notice_row s from) (ap (λ (x : Leafing). x.order) same) (ap (λ (x : Leafing). x.leaves) same)
        (if-keeps Goes (notices.concerns_some from a.order) _ _
        (λ e. with-order a (λ t o. notices.order_goes t o from o.phase) s.order there (order_goes from p.phase phase))
        (λ e. stays _ refl))

    of-order : (from : NodeNo) (l : Letter) → IsOfOrder l → Goes (live_brick_turn s from l)
    of-order from _ (grants number leaf) =
        at-order number (order.takes_grant s.number leaf) (λ t o. order.grants t (order.with_grant o from) from leaf o.task)
        (λ h. absurd (phase-not p made phase (and_parts (order.is_leasing p.phase) _ h).0))
    of-order from _ (refuses number why) =
        at-order number (λ o. order.is_leasing o.phase) (λ t o. order.ends t o (answered.Refused (order.met_of why from)))
        (λ h. absurd (phase-not p made phase h))
    of-order from _ (copies_on number last pairs) =
        at-order number (λ o. order.is_source from o.phase && order.fits o pairs)
        (λ t o. order.copied_on t (record o { copied = o.copied ++ pairs }) from last)
        (λ h. absurd (source-not p made from phase (and_parts (order.is_source from p.phase) (order.fits p pairs) h).0))
    of-order from _ (says_so number name) =
        at-order number (λ o. order.is_installing o.phase) (λ t o. order.installed_in t (record o { waiting = without o.waiting from }) o.phase)
        (λ h. installed_in from p.phase phase)
    of-order from _ tells = notice_row from

    pub letter-installs : (from : NodeNo) (l : Letter) → Goes (live_brick_turn s from l)
    letter-installs from l = by (letter-rests s from l)
      where
        by : Rests s l (live_brick_turn s from l) → Goes (live_brick_turn s from l)
        by (rests e take) = stays _ e
        by (of_order k) = of-order from l k
