use Rattle.std.proofs.Common.{◌≡◌, ℕ, ◌≤◌, ◌<◌, ◌^◌, inl, inr, true, false, Option, Some, None, List, ◌∷◌, refl, sym, ap, ◌∙◌, subst}
use Rattle.std.proofs.lemmas.Bool.{both_ways, cases_Bool}
use Rattle.std.specs.Prelude.{is_some}
use Rattle.dds_base.specs.BrickList.{has}
use Rattle.dds_base.specs.Name.{Name, covers}
use Rattle.dds_base.specs.declared.leaf.Leaf.{Leaf}
use Rattle.dds_brick_rows.specs.Refusal.{is_join}
use Rattle.dds_cluster.specs.declared.trace.Caller.{Caller}
use Rattle.dds_core.specs.Brick.{live_brick_turn}
use Rattle.dds_law_leaf.proofs.Book as books
use Rattle.dds_law_leaf.proofs.Book.{BrickOk, Each, InLetter, InMap, InOrder, Leafed}
use Rattle.dds_law_leaf.proofs.Keeps as heard_known
use Rattle.dds_law_leaf.proofs.Maps.{each-map}
use Rattle.dds_law_notice.proofs.Views.{knows, view}
use Rattle.dds_law_own.proofs.Changes.{own}
use Rattle.dds_law_own.proofs.Keeps as law_own
use Rattle.dds_law_own.proofs.Keeps.{of-another}
use Rattle.dds_law_own.proofs.Parted.{IsBoth}
use Rattle.dds_letters.specs.declared.letter.Letter.{Letter}
use Rattle.dds_letters.specs.declared.letter.Letter.TheVariants as letter
use Rattle.dds_net.proofs.Carried.{nodes-moved}
use Rattle.dds_net.proofs.Letters.{first-all}
use Rattle.dds_net.specs.Event.{Event, Fits, brick_takes, moved}
use Rattle.dds_net.specs.Net.{Net, Sizes, a_brick}
use Rattle.dds_order_rows.specs.OwnOrder as order
use Rattle.dds_order_talk.proofs.Fitting.{NodeFits}
use Rattle.dds_order_talk.proofs.BrickSide as side
use Rattle.dds_order_talk.proofs.Letters as within
use Rattle.dds_order_talk.proofs.Members.{AskedOk}
use Rattle.dds_orders.proofs.Deeds.{seat}
use Rattle.dds_orders.proofs.Numbers.{the-order}
use Rattle.dds_orders.specs.Law.{said_of}
use Rattle.dds_pairs.proofs.Grows.{Grows, cover-of, leads-grows}
use Rattle.dds_pairs.proofs.NameKeeps.{AreNamed, NodeNamed, keyed-at}
use Rattle.dds_pairs.proofs.Names.{Fit, FitOrder, IsFit}
use Rattle.dds_parents.proofs.Keeps.{Gone, gone-later, known-gone}
use Rattle.dds_parents.proofs.Lists.{lists-later}
use Rattle.dds_parents.proofs.SplitLeaves.{SplitsIn}
use Rattle.dds_parents.proofs.Splits.{NodeSplits}
use Rattle.dds_pending.proofs.Leads.{letter-leads}
use Rattle.dds_serving.proofs.Once.{change-once}
use Rattle.dds_share.proofs.Facts.{asked-of}
use Rattle.dds_share.proofs.Turned.{put-other, put-same}
use Rattle.dds_states.specs.Leaf.{leaf_for}
use Rattle.dds_states.specs.Turn.{BrickTurn}
use Rattle.dds_states.specs.declared.brick_state.BrickState.{BrickState}
use Rattle.dds_states.specs.declared.brick_state.OpenOrder.{OpenOrder}
use Rattle.dds_states.specs.declared.brick_state.OrderPhase.TheVariants.{Installing, Leasing}
use Rattle.dds_world.specs.Groups.{letter_leaf, made_leaf}
use Rattle.dds_listed.proofs.Begun.{As, Begun, IsWhole}
use Rattle.dds_listed.proofs.Fresh.{NodeFresh}
use Rattle.dds_listed.proofs.FreshTurns.{FreshSeat}
use Rattle.dds_listed.proofs.Granted.{granted-covers, says-covers}
use Rattle.dds_listed.proofs.Grounds.{Grounds}
use Rattle.dds_listed.proofs.Keeps.{Gives, WasSo, in-order, itself-was, members-later}
use Rattle.dds_listed.proofs.Later.{takes-was}
use Rattle.dds_listed.proofs.Listed.{LetterOk, MembersAnswer, NodeOk}
use Rattle.dds_listed.proofs.Made.{made-covers}
use Rattle.dds_listed.proofs.MadeFine.{GrantedCover, begun-members, few-of, made-name, maker-answers}
use Rattle.dds_listed.proofs.Makes.{NodeMakes, OrderMakes}
use Rattle.dds_listed.proofs.OrderTurns.{Heard, HeardOk, OrderEnds, letter-ends}
use Rattle.dds_listed.proofs.OwnLeaves.{Changed, change-answer}
use Rattle.dds_listed.proofs.Tells.{tells-own}
use Rattle.dds_listed.specs.Answers.{Answers}
use Rattle.dds_listed.proofs.OrderAnswers.{fits-whole, letters-answer, made-phase, order-answers}

-- A brick's turn at a letter leaves and sends leaves whose live members answer.

-- where an order's leaf comes from: it is the order's, or what the order made, or the letter grants it
pub data Source (q : Option OpenOrder) (l : Letter) (leaf : Leaf) : Type 0 where
  of_order : (p : OpenOrder) → q ≡ Some p → p.leaf ≡ Some leaf → Source q l leaf
  of_made : (p : OpenOrder) → q ≡ Some p → p.phase ≡ Installing leaf → Source q l leaf
  of_grant : (p : OpenOrder) → q ≡ Some p → l ≡ letter.Granted p.number leaf → Source q l leaf

brick-is : (a b : BrickState) → a_brick a ≡ a_brick b → a ≡ b
brick-is a b e = cc

module _ (z : Sizes) (cs : List Caller) (n : Net) (at from : ℕ) (l : Letter) (s : BrickState) (few : z.bricks ≤ 64) (some : z.libraries ≤ 16)
    (f : Fits z cs n (brick_takes at from l s)) (g : Grounds z n) (later : AreNamed z (moved z n (brick_takes at from l s)))
  where
    abbrev e : Event
    e = brick_takes at from l s

    abbrev m : Net
    m = moved z n e

    abbrev t : BrickTurn
    t = live_brick_turn s from l

    was : WasSo n at (a_brick t.state)
    was = takes-was z cs n at from l s f g.named later

    up : (leaf : Leaf) → MembersAnswer n leaf → MembersAnswer m leaf
    up = members-later n m (nodes-moved (WasSo n) z n e (λ k. itself-was n k (n.node k) refl) was)

    here : m.node at ≡ a_brick t.state
    here = put-same n.node at at (a_brick t.state) refl

    both : IsBoth at (own s)
    both = subst (law_own.NodeOk at) f.here (g.named.copied.own at)

    now : IsBoth at (own t.state)
    now = subst (law_own.NodeOk at) here (later.copied.own at)

    fit : Fit s
    fit = subst (NodeNamed at) f.here (g.named.nodes at)

    fit-now : Fit t.state
    fit-now = subst (NodeNamed at) here (later.nodes at)

    grows : Grows s.leaves t.state.leaves
    grows = leads-grows at s t.state.leaves both (keyed-at at t.state now) fit-now.is.0 (letter-leads at s from l both.0.order)

    ok : NodeOk n at (a_brick s)
    ok = subst (NodeOk n at) f.here (g.answer.nodes at)

    heard : Each (MembersAnswer m) (letter_leaf l)
    heard = each-map (MembersAnswer n) (MembersAnswer m) (letter_leaf l) up (first-all (LetterOk n from at) z n at from l f.letter (g.answer.letters from at))

    heard-fit : Each IsFit (letter_leaf l)
    heard-fit = first-all (InLetter IsFit) z n at from l f.letter (g.named.letters from at)

    splits : SplitsIn s.leaves s.order
    splits = subst (NodeSplits at) f.here (g.all.low.split.splits at)

    makes : OrderMakes s.order
    makes = subst (NodeMakes at) f.here (g.makes at)

    changed : Changed z m at s (letter_leaf l) t
    changed =
        let known = g.all.low.listed.known in
        let b = known.book in
        let brick : BrickOk at b s = subst (books.NodeOk b at) f.here (known.nodes at) in
        let leafed : Leafed at b s = brick.live f.live in
        let fresh : FreshSeat (seat s) = subst (NodeFresh at) f.here (g.fresh.nodes at) in
        record {
          here = here;
          named = later;
          both = both;
          fit = fit;
          grows = grows;
          answer = (λ name. each-map (MembersAnswer n) (MembersAnswer m) _ up (ok.0 name), in-order (MembersAnswer n) (MembersAnswer m) s.order up ok.1);
          heard = heard;
          heard_fit = heard-fit;
          book = b;
          lists = λ st x is. lists-later b b (Gone n) (Gone m) st x (λ q y i. i) (gone-later z cs n e f) (g.all.low.listed.lists st x is);
          knows = λ k i. gone-later z cs n e f k
              (known-gone z n at k g.all.low.listed.asked.links f.letter.receiver (ap (λ x. knows (view x) k) f.here ∙ i));
          leafed = leafed.leaves;
          heard_known = heard_known.heard z n at from l known f.letter;
          fresh = fresh.0;
          splits = splits;
          makes = makes;
        }

    -- the own order
    abbrev Fine : Leaf → Type 0
    Fine leaf = MembersAnswer m leaf × IsFit leaf × Source s.order l leaf

    sound : (q : Option OpenOrder) → s.order ≡ q → InOrder (MembersAnswer m) q → FitOrder q → InOrder Fine q
    sound None is h k = tt
    sound (Some o) is h k = (
      each-both o.leaf (λ leaf i a b. (a, b, of_order o is i)) h.0 k.0,
      each-both (made_leaf o.phase) (λ made i a b. (a, b, of_made o is (made-phase o.phase made i))) h.1 k.1,
    )
      where
        each-both : (x : Option Leaf) → ((leaf : Leaf) → x ≡ Some leaf → MembersAnswer m leaf → IsFit leaf → Fine leaf) → Each (MembersAnswer m) x
            → Each IsFit x → Each Fine x
        each-both None f a b = tt
        each-both (Some leaf) f a b = f leaf refl a b

    told : HeardOk Fine s.order l
    told o leaf there is = (subst (InLetter (MembersAnswer m)) is heard, subst (InLetter IsFit) is heard-fit, of_grant o there is)

    ends : OrderEnds at Fine from l s t
    ends =
        letter-ends at Fine s from l (of-another z n at from l s few some g.all.low.listed.asked.links f both.0.number) both makes
        (sound s.order refl changed.answer.1 fit.is.1)
        (λ o i. let fits : side.Fits s.order = subst (NodeFits at) f.here (g.fits at) in fits-whole o (fits o i)) told

    -- what the order made in the turn: those that granted it cover its keys
    module _ (first : OpenOrder) (made : Leaf) (h : Heard from l s.order first) (b : Begun at Fine first made) where
      abbrev p : OpenOrder
      p = h.was

      asked : AskedOk at s.orders p
      asked = asked-of z n g.all at s p f.here h.there

      not-installing : order.is_installing p.phase ≡ false
      not-installing = ap order.is_installing (sym h.phase) ∙ b.before

      module _ (c : ℕ) (u : BrickState) (there : n.node c ≡ a_brick u) (live : u.stopped ≡ false) (other : c ≡ at → ⊥) (key : ℕ)
          (over : covers p.name key ≡ true)
        where
          abbrev Has : Type 0
          Has = is_some (leaf_for u.leaves key) ≡ true

          says : (leaf : Leaf) → c ≡ from → l ≡ letter.Granted p.number leaf → Has
          says leaf is grant =
              says-covers z n g.all g.named at c s u p f.here there f.live live other h.there p.number leaf f.letter.others refl
              (ap (λ k. n.channel k at) is ∙ f.letter.first ∙ ap (λ x. x ∷ f.letter.others) grant) key over

          granted : (leaf : Leaf) → p.leaf ≡ Some leaf → has p.granted c ≡ true → Has
          granted leaf fixed gave =
              granted-covers z n g.all g.named at c s u p f.here there f.live live other h.there leaf fixed gave apart not-installing key over
            where
              apart : p.phase ≡ Leasing → has p.waiting c ≡ false
              apart i = elim (cases_Bool (has p.waiting c)) [
                | inl k ↦ absurd (both_ways (has p.granted c) (asked.leases c (ap order.is_leasing i) k).1 gave)
                | inr k ↦ k
              ]

          -- who grants was asked
          grants-asked : (leaf : Leaf) → l ≡ letter.Granted p.number leaf → has p.asked from ≡ true
          grants-asked leaf is =
              let it = first-all (within.LetterOk n.node from at) z n at from l f.letter (g.all.low.within.letters from at) in
              let k : within.Asked (a_brick s) p.number from =
              subst (λ x. within.Asked x p.number from) f.here (it.answers p.number (ap said_of is)) in
              (k f.live).of p h.there refl

          by-grant : (leaf : Leaf) (q : Option Leaf) → p.leaf ≡ q → l ≡ letter.Granted p.number leaf → has p.granted c ≡ true → Has
          by-grant leaf None none is gave = says leaf (asked.first c from none (asked.granted c gave) (grants-asked leaf is)) is
          by-grant leaf (Some fixed) i is gave = granted fixed i gave

          by-source : (leaf : Leaf) → Source s.order l leaf → has p.granted c ≡ true → Has
          by-source leaf (of_order o i fixed) gave =
              granted leaf (subst (λ (x : OpenOrder). x.leaf ≡ Some leaf) (the-order o p (sym i ∙ h.there)) fixed) gave
          by-source leaf (of_made o i phase) gave =
              let mine : p.phase ≡ Installing leaf = subst (λ (x : OpenOrder). x.phase ≡ Installing leaf) (the-order o p (sym i ∙ h.there)) phase in
              absurd (both_ways (order.is_installing p.phase) not-installing (ap order.is_installing mine))
          by-source leaf (of_grant o i is) gave =
              by-grant leaf p.leaf refl (subst (λ (x : OpenOrder). l ≡ letter.Granted x.number leaf) (the-order o p (sym i ∙ h.there)) is) gave

          covered : has first.granted c ≡ true → Has
          covered gave = elim (h.gave c gave) [
            | inl k ↦ by-source b.may.may.leaf b.of_leaf.2 k
            | inr k ↦ says k.1.leaf k.0 k.1.is
          ]

      members : GrantedCover m at first
      members c u there live other gave key over =
          covered c u (sym (put-other n.node at c (a_brick t.state) other) ∙ there) live other key (subst (λ k. covers k key ≡ true) h.name over) gave

    split-of : (first o : OpenOrder) (made : Leaf) → Heard from l s.order first → Begun at Fine first made → t.state.order ≡ Some o
        → o.phase ≡ Installing made → As first o → is_join o.task ≡ false → (key : ℕ) → covers made.name key ≡ true
        → is_some (leaf_for t.state.leaves key) ≡ true
    split-of first o made h b there phase like task key over =
        let k = splits h.was h.there (ap is_join (sym (like.2 ∙ h.task)) ∙ task) in
        let bits = subst (λ (x : Name). x.bits < 2 ^ x.depth) (sym like.1) (few-of at Fine first made b b.of_leaf.1) in
        let its = made-covers o.name o.task key bits (subst (λ x. covers x key ≡ true) (made-name at t.state o made now there phase) over) in
        grows key (cover-of s.leaves key (keyed-at at s both) fit.is.0 (record {
          name = h.was.name;
          there = ap is_some k.there;
          over = subst (λ x. covers x key ≡ true) (like.1 ∙ h.name) its;
        }))

    begun : (first o : OpenOrder) (made : Leaf) → ends.first ≡ Some first → t.state.order ≡ Some o → o.phase ≡ Installing made → As first o
        → IsWhole o → Begun at Fine first made → MembersAnswer m made
    begun first o made is there phase like whole b =
        let h = ends.heard first is in
        begun-members m at Fine first o made t.state b b.of_leaf.1 now there phase like (members first made h b) (λ u mine.
        subst (λ x. Answers x made) (brick-is t.state u (sym here ∙ mine))
        (maker-answers t.state o made there phase whole (split-of first o made h b there phase like)))

    pub takes-gives : Gives n m at t
    takes-gives =
        let leaves = change-answer z m at s (letter_leaf l) t changed (change-once.letters s from l) in
        let own_order = order-answers at (MembersAnswer m) Fine ends.first t.state.order (λ leaf h. h.0) begun ends.stands in
        record {
          was = was;
          state = (leaves, own_order);
          letters = letters-answer (MembersAnswer m) Fine t (λ leaf h. h.0) own_order ends.asks (tells-own (MembersAnswer m) s from l leaves).letters;
        }
