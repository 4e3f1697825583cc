use Rattle.std.proofs.Common.{◌≡◌, ℕ, ◌<◌, ◌^◌, inl, inr, true, false, Option, Some, None, List, [], refl, sym, ap, ◌∙◌, subst}
use Rattle.std.proofs.lemmas.Bool.{both_ways, cases_Bool}
use Rattle.std.specs.List.{AllByRecursion}
use Rattle.std.specs.Prelude.{is_some}
use Rattle.dds_base.specs.BrickList.{has}
use Rattle.dds_base.specs.Name.{Name, covers}
use Rattle.dds_base.specs.declared.leaf.Leaf.{Leaf}
use Rattle.dds_base.specs.declared.number.NodeNo.{NodeNo}
use Rattle.dds_base.specs.declared.op.Order.{Order}
use Rattle.dds_base.specs.declared.op.Order.TheVariants as the_order
use Rattle.dds_brick_rows.specs.Refusal.{is_join}
use Rattle.dds_cluster.specs.declared.trace.Caller.{Caller}
use Rattle.dds_core.specs.Brick.{brick_input}
use Rattle.dds_law_leaf.proofs.Book as books
use Rattle.dds_law_leaf.proofs.Book.{BrickOk, InLetter, InMap, InOrder, Leafed}
use Rattle.dds_law_leaf.proofs.Keeps.{stopped-order}
use Rattle.dds_law_leaf.proofs.Maps.{each-map}
use Rattle.dds_law_notice.proofs.Views.{knows, view}
use Rattle.dds_law_own.proofs.Changes.{own}
use Rattle.dds_law_own.proofs.Keeps as law_own
use Rattle.dds_law_own.proofs.Parted.{IsBoth}
use Rattle.dds_letters.specs.declared.letter.Letter.{Letter}
use Rattle.dds_net.proofs.Carried.{nodes-moved}
use Rattle.dds_net.proofs.Puts.{if-keeps}
use Rattle.dds_net.specs.Event.{Event, Fits, brick_told, moved}
use Rattle.dds_net.specs.Net.{Net, Sizes, a_brick}
use Rattle.dds_orders.proofs.Turns.{order-goes}
use Rattle.dds_orders.proofs.Deeds.{seat}
use Rattle.dds_pairs.proofs.Grows.{Grows, cover-of, leads-grows}
use Rattle.dds_pairs.proofs.NameKeeps.{AreNamed, NodeNamed, keyed-at}
use Rattle.dds_pairs.proofs.Names.{Fit, IsFit}
use Rattle.dds_parents.proofs.Keeps.{Gone, gone-later, known-gone}
use Rattle.dds_parents.proofs.Lists.{lists-later}
use Rattle.dds_parents.proofs.Splits.{NodeSplits}
use Rattle.dds_pending.proofs.Leads.{order-leads}
use Rattle.dds_serving.proofs.Once.{change-once}
use Rattle.dds_share.proofs.Opens.{order-still}
use Rattle.dds_share.proofs.Turned.{put-same}
use Rattle.dds_states.specs.Leaf.{leaf_for}
use Rattle.dds_states.specs.Turn.{BrickTurn}
use Rattle.dds_states.specs.declared.brick_state.BrickState.{BrickState}
use Rattle.dds_states.specs.declared.brick_state.OpenOrder.{OpenOrder}
use Rattle.dds_states.specs.declared.brick_state.OrderPhase.TheVariants.{Installing}
use Rattle.dds_listed.proofs.Begun.{As, Begun, IsWhole}
use Rattle.dds_listed.proofs.Fresh.{NodeFresh}
use Rattle.dds_listed.proofs.FreshTurns.{FreshSeat}
use Rattle.dds_listed.proofs.Grounds.{Grounds}
use Rattle.dds_listed.proofs.Keeps.{Gives, WasSo, in-order, itself-was, members-later}
use Rattle.dds_listed.proofs.Later.{told-was}
use Rattle.dds_listed.proofs.Listed.{MembersAnswer, NodeOk}
use Rattle.dds_listed.proofs.Made.{made-covers}
use Rattle.dds_listed.proofs.MadeFine.{GrantedCover, begun-members, few-of, made-name, maker-answers}
use Rattle.dds_listed.proofs.Makes.{NodeMakes}
use Rattle.dds_listed.proofs.OwnLeaves.{Changed, change-answer}
use Rattle.dds_listed.proofs.OrderAnswers.{letters-answer, order-answers}
use Rattle.dds_listed.proofs.TellsOrders.{told-tells}
use Rattle.dds_listed.proofs.ToldTrips.{ToldEnds, told-ends}
use Rattle.dds_listed.specs.Answers.{Answers}

-- So does a brick's turn where it is told an order.

brick-is : (a b : BrickState) → a_brick a ≡ a_brick b → a ≡ b
brick-is a b e = cc

-- a brick that has an order open says so
still-quiet : (s : BrickState) (c : Order) → is_some s.order ≡ true → (brick_input s c).out.letters ≡ []
still-quiet s (the_order.Join brick name via) h =
    if-keeps (λ (t : BrickTurn). t.out.letters ≡ []) s.stopped _ _ (λ e. refl)
    (λ e. if-keeps (λ (t : BrickTurn). t.out.letters ≡ []) (is_some s.order) _ _ (λ i. refl) (λ no. absurd (both_ways (is_some s.order) no h)))
still-quiet s (the_order.Split brick name) h =
    if-keeps (λ (t : BrickTurn). t.out.letters ≡ []) s.stopped _ _ (λ e. refl)
    (λ e. if-keeps (λ (t : BrickTurn). t.out.letters ≡ []) (is_some s.order) _ _ (λ i. refl) (λ no. absurd (both_ways (is_some s.order) no h)))

module _ (z : Sizes) (cs : List Caller) (n : Net) (at : ℕ) (c : Order) (s : BrickState) (f : Fits z cs n (brick_told at c s)) (g : Grounds z n)
    (later : AreNamed z (moved z n (brick_told at c s)))
  where
    abbrev e : Event
    e = brick_told at c s

    abbrev m : Net
    m = moved z n e

    abbrev t : BrickTurn
    t = brick_input s c

    abbrev P : Leaf → Type 0
    P = MembersAnswer m

    was : WasSo n at (a_brick t.state)
    was = told-was z cs n at c s f g.named later

    up : (leaf : Leaf) → MembersAnswer n leaf → P leaf
    up = members-later n m (nodes-moved (WasSo n) z n e (λ k. itself-was n k (n.node k) refl) was)

    here : m.node at ≡ a_brick t.state
    here = put-same n.node at at (a_brick t.state) refl

    both : IsBoth at (own s)
    both = subst (law_own.NodeOk at) f.here (g.named.copied.own at)

    now : IsBoth at (own t.state)
    now = subst (law_own.NodeOk at) here (later.copied.own at)

    fit : Fit s
    fit = subst (NodeNamed at) f.here (g.named.nodes at)

    fit-now : Fit t.state
    fit-now = subst (NodeNamed at) here (later.nodes at)

    grows : Grows s.leaves t.state.leaves
    grows = leads-grows at s t.state.leaves both (keyed-at at t.state now) fit-now.is.0 (order-leads s c)

    ok : NodeOk m at (a_brick s)
    ok =
        let it : NodeOk n at (a_brick s) = subst (NodeOk n at) f.here (g.answer.nodes at) in
        (λ name. each-map (MembersAnswer n) P _ up (it.0 name), in-order (MembersAnswer n) P s.order up it.1)

    -- nothing is done
    idle : t.state ≡ s → t.out.letters ≡ [] → Gives n m at t
    idle same quiet =
        record {
          was = was;
          state = subst (λ u. NodeOk m at (a_brick u)) (sym same) ok;
          letters = subst (AllByRecursion (λ (p : NodeNo × Letter). InLetter P p.1)) (sym quiet) tt;
        }

    module _ (live : s.stopped ≡ false) (none : s.order ≡ None) where
      changed : Changed z m at s None t
      changed =
          let known = g.all.low.listed.known in
          let b = known.book in
          let brick : BrickOk at b s = subst (books.NodeOk b at) f.here (known.nodes at) in
          let leafed : Leafed at b s = brick.live live in
          let fresh : FreshSeat (seat s) = subst (NodeFresh at) f.here (g.fresh.nodes at) in
          record {
            here = here;
            named = later;
            both = both;
            fit = fit;
            grows = grows;
            answer = ok;
            heard = tt;
            heard_fit = tt;
            book = b;
            lists = λ st x is. lists-later b b (Gone n) (Gone m) st x (λ q y i. i) (gone-later z cs n e f) (g.all.low.listed.lists st x is);
            knows = λ k i. gone-later z cs n e f k
                (known-gone z n at k g.all.low.listed.asked.links f.inside (ap (λ x. knows (view x) k) f.here ∙ i));
            leafed = leafed.leaves;
            heard_known = tt;
            fresh = fresh.0;
            splits = subst (NodeSplits at) f.here (g.all.low.split.splits at);
            makes = subst (NodeMakes at) f.here (g.makes at);
          }

      abbrev Fine : Leaf → Type 0
      Fine leaf = P leaf × IsFit leaf

      ends : ToldEnds at Fine s.leaves (seat t.state) t.out.letters
      ends = told-ends at Fine (order-goes s c).trip refl both none (λ name. each-both _ (ok.0 name) (fit.is.0 name))
        where
          each-both : (x : Option Leaf) → books.Each P x → books.Each IsFit x → books.Each Fine x
          each-both None a b = tt
          each-both (Some leaf) a b = (a, b)

      members : (first : OpenOrder) → ends.first ≡ Some first → GrantedCover m at first
      members first is k u there live_one other gave key over =
          let no : false ≡ true = ap (λ ns. has ns k) (sym (ends.none first is)) ∙ gave in
          cc

      split-of : (first o : OpenOrder) (made : Leaf) → ends.first ≡ Some first → Begun at Fine first made → t.state.order ≡ Some o
          → o.phase ≡ Installing made → As first o → is_join o.task ≡ false → (key : ℕ) → covers made.name key ≡ true
          → is_some (leaf_for t.state.leaves key) ≡ true
      split-of first o made is b there phase like task key over =
          let k = ends.splits first is (ap is_join (sym like.2) ∙ task) in
          let bits = subst (λ (x : Name). x.bits < 2 ^ x.depth) (sym like.1) (few-of at Fine first made b b.of_leaf.1) in
          let its = made-covers o.name o.task key bits (subst (λ x. covers x key ≡ true) (made-name at t.state o made now there phase) over) in
          grows key (cover-of s.leaves key (keyed-at at s both) fit.is.0 (record {
            name = first.name;
            there = ap is_some k.there;
            over = subst (λ x. covers x key ≡ true) like.1 its;
          }))

      begun : (first o : OpenOrder) (made : Leaf) → ends.first ≡ Some first → t.state.order ≡ Some o → o.phase ≡ Installing made → As first o
          → IsWhole o → Begun at Fine first made → P made
      begun first o made is there phase like whole b =
          begun-members m at Fine first o made t.state b b.of_leaf.1 now there phase like (members first is) (λ u mine.
          subst (λ x. Answers x made) (brick-is t.state u (sym here ∙ mine))
          (maker-answers t.state o made there phase whole (split-of first o made is b there phase like)))

      opens-gives : Gives n m at t
      opens-gives =
          let leaves = change-answer z m at s None t changed (change-once.orders s c) in
          let own_order = order-answers at P Fine ends.first t.state.order (λ leaf h. h.0) begun ends.stands in
          record {
            was = was;
            state = (leaves, own_order);
            letters = letters-answer P Fine t (λ leaf h. h.0) own_order ends.asks (told-tells s c).letters;
          }

    by-order : s.stopped ≡ false → (q : Option OpenOrder) → s.order ≡ q → Gives n m at t
    by-order live None there = opens-gives live there
    by-order live (Some p) there = idle (order-still s p c there) (still-quiet s c (ap is_some there))

    pub told-gives : Gives n m at t
    told-gives = elim (cases_Bool s.stopped) [
      | inl dead ↦ let is = stopped-order s c dead in idle (ap (λ (u : BrickTurn). u.state) is) (ap (λ (u : BrickTurn). u.out.letters) is)
      | inr live ↦ by-order live s.order refl
    ]
