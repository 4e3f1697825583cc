use Rattle.std.proofs.Common.{◌≡◌, ℕ, ◌<◌, ◌==◌, ◌&&◌, ◌⊎◌, inl, inr, ◌++◌, Bool, true, false, Some, List, [], ◌∷◌, refl, sym, ap, ◌∙◌, subst}
use Rattle.std.proofs.lemmas.Bool.{and_from, eq-eqb, eqb-true, ne_eqb}
use Rattle.std.specs.FinMap.{get}
use Rattle.std.specs.List.{AllByRecursion}
use Rattle.std.specs.Prelude.{is_some, length, nat_le, take, if◌then◌else◌}
use Rattle.dds_base.specs.Name.{same_name}
use Rattle.dds_base.specs.declared.number.NodeNo.{NodeNo}
use Rattle.dds_base.specs.declared.op.Order.{Order}
use Rattle.dds_base.specs.declared.pair.Pair.{Pair}
use Rattle.dds_brick_rows.specs.Refusal.{is_join}
use Rattle.dds_cluster.specs.World.{emptied}
use Rattle.dds_cluster.specs.declared.trace.Caller.{Caller}
use Rattle.dds_cluster.specs.declared.trace.Made.{Made}
use Rattle.dds_core.specs.Brick.{brick_input, live_brick_turn}
use Rattle.dds_core.specs.LibraryTurn.{live_library_turn}
use Rattle.dds_letters.specs.declared.copied_pairs.TheConstants.{COPIED}
use Rattle.dds_letters.specs.declared.letter.Letter.{Letter}
use Rattle.dds_letters.specs.declared.letter.Letter.TheVariants as letter
use Rattle.dds_locks.specs.Leases.{is_given}
use Rattle.dds_net.proofs.Letters.{first-all}
use Rattle.dds_net.proofs.PairTakes.{pairs-does, pairs-takes}
use Rattle.dds_net.proofs.Puts.{Pairs, pairs-changed}
use Rattle.dds_net.specs.Event.{Event, nothing, unheard, unasked, brick_takes, brick_told, brick_stops, library_takes, library_asked, library_stops}
use Rattle.dds_net.specs.Event.{Fits, Ordered, Takes, asked_turn, does, moved, notice_to, stops, takes}
use Rattle.dds_net.specs.Net.{Net, Node, nowhere, a_brick, a_library, Sizes, changed, gains}
use Rattle.dds_order_rows.specs.Orders.{copy_part, pairs_after}
use Rattle.dds_order_rows.specs.OwnOrder as order
use Rattle.dds_order_talk.proofs.Holds.{name-self}
use Rattle.dds_order_talk.proofs.Projections.{says-append}
use Rattle.dds_order_talk.specs.Seen.{asks, one, say_of, says}
use Rattle.dds_order_talk.specs.Table.Say.{part}
use Rattle.dds_orders.proofs.Deeds.{nothing_owed, seat, told_order}
use Rattle.dds_orders.proofs.Numbered as numbered
use Rattle.dds_orders.proofs.Numbered.{told-stopped}
use Rattle.dds_orders.proofs.Turns.{letter-turns, order-goes}
use Rattle.dds_pairs.proofs.NameKeeps.{keyed-at}
use Rattle.dds_share.proofs.Facts.{inside-of, unknown-of}
use Rattle.dds_states.specs.Turn.{still}
use Rattle.dds_states.specs.declared.brick_state.BrickState.{BrickState}
use Rattle.dds_states.specs.declared.brick_state.OpenOrder.{OpenOrder}
use Rattle.dds_states.specs.declared.brick_state.OrderPhase.TheVariants.{Copying}
use Rattle.dds_values.specs.Values.{table}
use Rattle.dds_copies.proofs.Asked.{joins-ask}
use Rattle.dds_copies.proofs.Before.{Before, its-counts, its-names, its-own, of-another}
use Rattle.dds_copies.proofs.Leased.{leased-holds}
use Rattle.dds_copies.specs.Copies.{AsksNext, TellsNext}
use Rattle.dds_world.specs.Values.{AreCopied}
use Rattle.dds_room.proofs.Busy.{Busy, Comes, at-busy, more-back, nothing-first, sent-one, trip-at, turn-at}
use Rattle.dds_room.proofs.Copying.{OrderJoins, is_copying}
use Rattle.dds_room.proofs.Fits.{comes-from}
use Rattle.dds_room.proofs.Going.{GoesWith, Going, NodeJoins, deaf-from, deaf-to, gone-from, grows-with, no-member, with-itself}
use Rattle.dds_room.proofs.Lines.{Line, Said, a_copy, a_part, asked-of, asks_else, asks_nothing, line-of, not-else, not-other, said-of, silent, speaks, Asked}
use Rattle.dds_room.proofs.RoomAfter.{room-at}
use Rattle.dds_room.proofs.RoomKeeps.{AreRoomy, NodeRoom, RoomOk}

-- Each event keeps that parts go on, over what joins have copied and the room of their sources.

the-number : (o : OpenOrder) (number : ℕ) → (o.number == number) ≡ true → number ≡ o.number
the-number o number e = sym (eqb-true o.number number e)

module _ (z : Sizes) (made : List Made) (n : Net) (g : Before z made n) (r : AreRoomy z n) (joins : (k : ℕ) → NodeJoins k (n.node k)) where
  low-of : (k : ℕ) (s : BrickState) → n.node k ≡ a_brick s → k < 64
  low-of k s here = let ok : numbered.BrickOk k s = subst (numbered.NodeOk k) here ((its-counts z made n g).nodes k) in ok.low

  is-join-of : (k m : ℕ) (s : BrickState) (o : OpenOrder) → n.node k ≡ a_brick s → s.order ≡ Some o → o.phase ≡ Copying m → is_join o.task ≡ true
  is-join-of k m s o here e phase = let all : OrderJoins s.order = subst (NodeJoins k) here (joins k) in all o e (ap is_copying phase)

  its-leaf : (k m : ℕ) (s : BrickState) (o : OpenOrder) → n.node k ≡ a_brick s → s.stopped ≡ false → s.order ≡ Some o → o.phase ≡ Copying m
      → is_some o.leaf ≡ true
  its-leaf k m s o here live e phase = g.together.fixed k s o here live e (is-join-of k m s o here e phase) (ap order.is_leasing phase)

  its-line : (j m : ℕ) (s t : BrickState) (o : OpenOrder) → (j ≡ m → ⊥) → n.node j ≡ a_brick s → n.node m ≡ a_brick t → s.stopped ≡ false
      → t.stopped ≡ false → s.order ≡ Some o → o.phase ≡ Copying m → Line j t o (n.channel j m) (n.channel m j)
  its-line j m s t o ne here there live also e phase =
      line-of j m s t o (n.channel j m) (n.channel m j) live also (unknown-of z n g.all j m s t here there also) e phase
      (its-leaf j m s o here live e phase) (g.all.talk j m o.name s t here there (ne_eqb j m ne))

  -- the part that comes from the source fits
  fits-here : (j m : ℕ) (s t : BrickState) (o : OpenOrder) (number : ℕ) (last : Bool) (pairs : List Pair) (others : List Letter) → (j ≡ m → ⊥)
      → n.node j ≡ a_brick s → n.node m ≡ a_brick t → s.stopped ≡ false → t.stopped ≡ false → s.order ≡ Some o → o.phase ≡ Copying m
      → n.channel m j ≡ letter.CopyPart number last pairs ∷ others → (o.number == number) ≡ true → order.fits o pairs ≡ true
  fits-here j m s t o number last pairs others ne here there live also e phase first its =
      let line = its-line j m s t o ne here there live also e phase in
      let copy = g.copy j s o here live e (is-join-of j m s o here e phase) in
      let all : AllByRecursion (TellsNext (table made) o) (letter.CopyPart number last pairs ∷ others) =
      subst (AllByRecursion (TellsNext (table made) o)) first (copy.parts m phase) in
      let room : RoomOk t = subst (NodeRoom m) there (r.nodes m) in
      comes-from (table made) t o m last pairs (subst (AreCopied (table made) o) phase copy.copied) (all.0 (the-number o number its))
      (leased-holds made m t o.name j (its-own z made n g m t there) (its-names z made n g m t there) (g.holds m t there also) line.given line.there)
      (room-at t o.name (keyed-at m t (its-own z made n g m t there)) room.room line.there)

  -- the order's brick takes a letter from the source
  hears-of : (at from : NodeNo) (l : Letter) (s t : BrickState) (f : Takes z n at from l (a_brick s)) → (at ≡ from → ⊥) → n.node from ≡ a_brick t
      → t.stopped ≡ false → (o : OpenOrder) → s.order ≡ Some o → o.phase ≡ Copying from → Busy o (n.channel at from) (l ∷ f.letter.others)
      → Busy o (n.channel at from) f.letter.others ⊎ Comes from l o
  hears-of at from l s t f ne there also o e phase h = by (said-of o l)
    where
      by : Said o l → Busy o (n.channel at from) f.letter.others ⊎ Comes from l o
      by (silent none) = inl (λ i j. h i (ap (λ a. a ++ says (Some o) o.name f.letter.others) none ∙ j))
      by (a_part number last pairs is its) =
          inr (record {
            number = number;
            last = last;
            pairs = pairs;
            is = is;
            found = and_from (o.number == number) (order.is_source from o.phase && order.fits o pairs) its
                (and_from (order.is_source from o.phase) (order.fits o pairs) (ap (order.is_source from) phase ∙ eq-eqb from from refl)
                (fits-here at from s t o number last pairs f.letter.others ne f.here there f.live also e phase
                (f.letter.first ∙ ap (λ i. i ∷ f.letter.others) is) its));
          })
      by (speaks say is other) =
          let line = its-line at from s t o ne f.here there f.live also e phase in
          absurd (not-else say (says (Some o) o.name (n.channel from at)) (says (Some o) o.name f.letter.others)
          (ap (says (Some o) o.name) f.letter.first ∙ ap (λ a. a ++ says (Some o) o.name f.letter.others) is) other line.said)

  -- the source takes a letter from it
  part-said : (o : OpenOrder) (number : ℕ) (last : Bool) (pairs : List Pair) → (o.number == number) ≡ true
      → say_of (Some o) o.name (letter.CopyPart number last pairs) ≡ part ∷ []
  part-said o number last pairs its =
      ap (λ c. one (c && same_name o.name o.name) part) its ∙ ap (λ c. one c part) (name-self o.name)

  part-busy : (o : OpenOrder) (number : ℕ) (last : Bool) (pairs : List Pair) (out back more : List Letter) → (o.number == number) ≡ true
      → more ≡ letter.CopyPart number last pairs ∷ [] → Busy o out (back ++ more)
  part-busy o number last pairs out back more its e none f =
      let all = sym (says-append (Some o) o.name back more) ∙ f in
      let rest = (nothing-first (says (Some o) o.name back) (says (Some o) o.name more) all).1 in
      let bad : part ∷ [] ≡ [] =
      sym (ap (λ a. a ++ []) (part-said o number last pairs its)) ∙ sym (ap (says (Some o) o.name) e) ∙ rest in
      cc

  sent-if : (from : NodeNo) (number : ℕ) (s t : BrickState) (found : List Pair) (c : Bool) → n.node from ≡ a_brick t → c ≡ true
      → gains z (if c then copy_part found from number s else still s).out.letters from
      ≡ letter.CopyPart number (nat_le (length found) COPIED) (take COPIED found) ∷ []
  sent-if from number s t found true there e =
      sent-one z from (low-of from t there) (inside-of z n g.all from t there) from
      (letter.CopyPart number (nat_le (length found) COPIED) (take COPIED found)) refl
  sent-if from number s t found false there e = cc

  answers : (at from : NodeNo) (l : Letter) (s t : BrickState) (f : Takes z n at from l (a_brick s)) → (from ≡ at → ⊥) → n.node from ≡ a_brick t
      → t.stopped ≡ false → (o : OpenOrder) → t.order ≡ Some o → o.phase ≡ Copying at → Busy o (l ∷ f.letter.others) (n.channel at from)
      → Busy o f.letter.others (n.channel at from ++ gains z (live_brick_turn s from l).out.letters from)
  answers at from l s t f ne there also o e phase h = by (asked-of o l)
    where
      line : Line from s o (n.channel from at) (n.channel at from)
      line = its-line from at t s o ne there f.here also f.live e phase

      by : Asked o l → Busy o f.letter.others (n.channel at from ++ gains z (live_brick_turn s from l).out.letters from)
      by (asks_nothing none) =
          more-back o f.letter.others (n.channel at from) (gains z (live_brick_turn s from l).out.letters from)
          (λ i j. h (ap (λ a. a ++ asks (Some o) o.name f.letter.others) none ∙ i) j)
      by (asks_else ask is other) =
          absurd (not-other ask (asks (Some o) o.name (n.channel from at)) (asks (Some o) o.name f.letter.others)
          (ap (asks (Some o) o.name) f.letter.first ∙ ap (λ a. a ++ asks (Some o) o.name f.letter.others) is) other line.asked)
      by (a_copy number name place is its) =
          let asks_next = joins-ask z n g.all g.together (its-counts z made n g) from t s o at there also e (is-join-of from at t o there e phase) phase
          f.here f.live in
          let first : AsksNext o l = first-all (AsksNext o) z n at from l f.letter asks_next in
          let named = (subst (AsksNext o) is first (the-number o number its)).0 in
          let found = pairs_after s.pairs name place in
          let may : (is_given s.locks.leases name from && is_some (get s.leaves name)) ≡ true =
          and_from (is_given s.locks.leases name from) (is_some (get s.leaves name)) (subst (λ i. is_given s.locks.leases i from ≡ true) (sym named) line.given)
          (subst (λ i. is_some (get s.leaves i) ≡ true) (sym named) line.there) in
          let sent : gains z (live_brick_turn s from l).out.letters from ≡ letter.CopyPart number (nat_le (length found) COPIED) (take COPIED found) ∷ [] =
          ap (λ i. gains z (live_brick_turn s from i).out.letters from) is
          ∙ sent-if from number s t found (is_given s.locks.leases name from && is_some (get s.leaves name)) there may in
          part-busy o number (nat_le (length found) COPIED) (take COPIED found) f.letter.others (n.channel at from)
          (gains z (live_brick_turn s from l).out.letters from) its sent

  -- the brick with the order, behind its turn
  stopped-same : (s : BrickState) (from : NodeNo) (l : Letter) → s.stopped ≡ false → (live_brick_turn s from l).state.stopped ≡ false → s.stopped ≡ false
  stopped-same s from l live also = live

  own-goes : (at b from : NodeNo) (l : Letter) (s t : BrickState) (f : Takes z n at from l (a_brick s)) (out back : List Letter) → n.node b ≡ a_brick t
      → ((o : OpenOrder) → s.order ≡ Some o → o.phase ≡ Copying b → Busy o out back ⊎ Comes from l o) → (o : OpenOrder)
      → (live_brick_turn s from l).state.order ≡ Some o → o.phase ≡ Copying b → Busy o (out ++ gains z (live_brick_turn s from l).out.letters b) back
  own-goes at b from l s t f out back there h =
      let low = low-of b t there in
      let inside = inside-of z n g.all b t there in
      let u = seat (live_brick_turn s from l).state in
      at-busy z b low inside u (out ++ gains z (live_brick_turn s from l).out.letters b) back
      (turn-at z b low inside s from l out back (letter-turns s from l (of-another z made n g at from l s f))
      (λ o e phase. record { leaf = its-leaf at b s o f.here f.live e phase; busy = h o e phase }))

  module _ (at from : NodeNo) (l : Letter) (s : BrickState) (f : Takes z n at from l (a_brick s)) where
    abbrev Sent : ℕ → List Letter
    Sent b = gains z (live_brick_turn s from l).out.letters b

    abbrev After : Node
    After = a_brick (live_brick_turn s from l).state

    out-case : (b : ℕ) (y : Node) → n.node b ≡ y → (b ≡ at → ⊥) → GoesWith at b s y (n.channel at b) (n.channel b at)
        → GoesWith at b (live_brick_turn s from l).state y (n.channel at b ++ Sent b) (n.channel b at)
    out-case b nowhere there ne h = tt
    out-case b (a_library t) there ne h = tt
    out-case b (a_brick t) there ne h = λ apart live also.
        own-goes at b from l s t f (n.channel at b) (n.channel b at) there (λ o e phase. inl (h apart f.live also o e phase))

    reply-case : (y : Node) → n.node from ≡ y → (from ≡ at → ⊥) → GoesWith at from s y (n.channel at from) (l ∷ f.letter.others)
        → GoesWith at from (live_brick_turn s from l).state y (n.channel at from ++ Sent from) f.letter.others
    reply-case nowhere there ne h = tt
    reply-case (a_library t) there ne h = tt
    reply-case (a_brick t) there ne h = λ apart live also.
        own-goes at from from l s t f (n.channel at from) f.letter.others there
        (λ o e phase. hears-of at from l s t f apart there also o e phase (h apart f.live also o e phase))

    heard-case : (x : Node) → n.node from ≡ x → (from ≡ at → ⊥) → Going from at x (a_brick s) (l ∷ f.letter.others) (n.channel at from)
        → Going from at x After f.letter.others (n.channel at from ++ Sent from)
    heard-case nowhere there ne h = tt
    heard-case (a_library t) there ne h = tt
    heard-case (a_brick t) there ne h = λ apart live also o e phase. answers at from l s t f apart there live o e phase (h apart live f.live o e phase)

    takes-goes : Pairs Going n → Pairs Going (changed n (takes z n at from After (live_brick_turn s from l).out.letters))
    takes-goes h =
        pairs-takes Going z n at from l After (live_brick_turn s from l).out.letters f.letter (record {
          out = λ b nb nf k. out-case b (n.node b) refl nb (subst (λ x. Going at b x (n.node b) (n.channel at b) (n.channel b at)) f.here k);
          back = λ a na nf k. grows-with a at (n.node a) s (live_brick_turn s from l).state (n.channel a at) (n.channel at a) (Sent a) (λ e. f.live)
              (subst (λ y. Going a at (n.node a) y (n.channel a at) (n.channel at a)) f.here k);
          reply = λ ne k. reply-case (n.node from) refl ne
              (subst (λ x. Going at from x (n.node from) (n.channel at from) (l ∷ f.letter.others)) f.here k);
          heard = λ ne k. heard-case (n.node from) refl ne
              (subst (λ y. Going from at (n.node from) y (l ∷ f.letter.others) (n.channel at from)) f.here k);
          own = λ ne k. with-itself at After After (n.channel at at ++ Sent at) (n.channel at at ++ Sent at);
          own_heard = λ e k. with-itself at After After (f.letter.others ++ Sent at) (f.letter.others ++ Sent at);
        }) h

  -- a brick is told an order
  module _ (at : ℕ) (c : Order) (s : BrickState) (f : Ordered z n at c s) where
    abbrev Told : BrickState
    Told = (brick_input s c).state

    was-live : Told.stopped ≡ false → s.stopped ≡ false
    was-live live = sym (told-stopped s c) ∙ live

    told-case : (b : ℕ) (y : Node) → n.node b ≡ y → GoesWith at b s y (n.channel at b) (n.channel b at)
        → GoesWith at b Told y (n.channel at b ++ gains z (brick_input s c).out.letters b) (n.channel b at)
    told-case b nowhere there h = tt
    told-case b (a_library t) there h = tt
    told-case b (a_brick t) there h = λ apart live also.
        let low = low-of b t there in
        let inside = inside-of z n g.all b t there in
        at-busy z b low inside (seat Told) (n.channel at b ++ gains z (brick_input s c).out.letters b) (n.channel b at)
        (trip-at z b low inside told_order nothing_owed (seat s) (seat Told) (brick_input s c).out.letters (n.channel at b) (n.channel b at)
        (order-goes s c).trip
        (λ o e phase. record {
          leaf = its-leaf at b s o f.here (was-live live) e phase;
          busy = inr (h apart (was-live live) also o e phase);
        }))

    told-goes : Pairs Going n → Pairs Going (changed n (does z n at (a_brick Told) (brick_input s c).out.letters))
    told-goes h =
        pairs-does Going z n at (a_brick Told) (brick_input s c).out.letters (record {
          out = λ b nb k. told-case b (n.node b) refl (subst (λ x. Going at b x (n.node b) (n.channel at b) (n.channel b at)) f.here k);
          back = λ a na k. grows-with a at (n.node a) s Told (n.channel a at) (n.channel at a) (gains z (brick_input s c).out.letters a) was-live
              (subst (λ y. Going a at (n.node a) y (n.channel a at) (n.channel at a)) f.here k);
          own = λ k. with-itself at (a_brick Told) (a_brick Told) (n.channel at at ++ gains z (brick_input s c).out.letters at)
              (n.channel at at ++ gains z (brick_input s c).out.letters at);
        }) h

  -- each event
  pub goes-kept : (cs : List Caller) (e : Event) → Fits z cs n e → Pairs Going n → Pairs Going (moved z n e)
  goes-kept cs nothing f h = h
  goes-kept cs (unasked at caller call o) f h = h
  goes-kept cs (unheard at from l) f h =
      pairs-takes Going z n at from l (n.node at) [] f.letter (record {
        out = λ b nb nf k. deaf-from at b (n.node at) (n.node b) _ _ f.deaf;
        back = λ a na nf k. deaf-to a at (n.node a) (n.node at) _ _ f.deaf;
        reply = λ ne k. deaf-from at from (n.node at) (n.node from) _ _ f.deaf;
        heard = λ ne k. deaf-to from at (n.node from) (n.node at) _ _ f.deaf;
        own = λ ne k. with-itself at (n.node at) (n.node at) _ _;
        own_heard = λ e k. with-itself at (n.node at) (n.node at) _ _;
      }) h
  goes-kept cs (brick_takes at from l s) f h = takes-goes at from l s f h
  goes-kept cs (brick_told at c s) f h = told-goes at c s f h
  goes-kept cs (brick_stops at s kept) f h =
      pairs-changed Going n (stops z n at (a_brick (emptied s.number)) kept) (record {
        own = with-itself at (a_brick (emptied s.number)) (a_brick (emptied s.number)) (kept at ++ notice_to z at at) (kept at ++ notice_to z at at);
        from = λ b nb. gone-from at b (emptied s.number) (n.node b) _ _ refl;
        to = λ a na. deaf-to a at (n.node a) (a_brick (emptied s.number)) _ _ refl;
      }) h
  goes-kept cs (library_takes at from l s) f h =
      let u = (live_library_turn s from l).state in
      pairs-takes Going z n at from l (a_library u) (live_library_turn s from l).out.letters f.letter (record {
        out = λ b nb nf k. tt;
        back = λ a na nf k. no-member a at (n.node a) u _ _;
        reply = λ ne k. tt;
        heard = λ ne k. no-member from at (n.node from) u _ _;
        own = λ ne k. tt;
        own_heard = λ e k. tt;
      }) h
  goes-kept cs (library_asked at caller call o s) f h =
      let t = asked_turn s caller call o in
      pairs-does Going z n at (a_library t.state) t.out.letters
      (record { out = λ b nb k. tt; back = λ a na k. no-member a at (n.node a) t.state _ _; own = λ k. tt }) h
  goes-kept cs (library_stops at s kept) f h =
      let u = record s { stopped = true } in
      pairs-changed Going n (stops z n at (a_library u) kept) (record { own = tt; from = λ b nb. tt; to = λ a na. no-member a at (n.node a) u _ _ }) h
