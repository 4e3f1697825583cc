use Rattle.std.proofs.Common.{◌≡◌, ℕ, ◌++◌, inl, inr, Bool, true, false, not, Option, Some, None, List, [], ◌∷◌, refl, sym, ap, ◌∙◌, subst, append_assoc}
use Rattle.std.proofs.lemmas.Bool.{and_parts}
use Rattle.std.proofs.lemmas.List.{append-nil}
use Rattle.std.specs.List.{AllByRecursion}
use Rattle.dds_base.specs.BrickList.{has}
use Rattle.dds_base.specs.Name.{Name}
use Rattle.dds_base.specs.NodeSet.{has_node}
use Rattle.dds_base.specs.Place.{last_key}
use Rattle.dds_base.specs.declared.leaf.Leaf.{Leaf}
use Rattle.dds_base.specs.declared.number.NodeNo.{NodeNo}
use Rattle.dds_base.specs.declared.node_set.NodeSet.{NodeSet}
use Rattle.dds_core.proofs.Lists.{all-append, all-map}
use Rattle.dds_groups.proofs.Members.{has-live}
use Rattle.dds_letters.specs.declared.letter.Letter.{Letter}
use Rattle.dds_letters.specs.declared.letter.Letter.TheVariants as letter
use Rattle.dds_letters.specs.declared.refusal.Wanted.TheVariants as wanted
use Rattle.dds_net.proofs.Projections.{gains-append}
use Rattle.dds_net.specs.Net.{Sizes, gains, is_in, when_in}
use Rattle.dds_order_rows.specs.OwnOrder as order
use Rattle.dds_orders.proofs.Counting as counting
use Rattle.dds_orders.proofs.Counting.{not-none}
use Rattle.dds_orders.proofs.Deeds.{Deed, Leaves, MayWiden, Seat, Stage, Staged, Trip, arrives, asks_more, closes, copies, does_next, drops, fixes}
use Rattle.dds_orders.proofs.Deeds.{is_of_orders, joins}
use Rattle.dds_orders.proofs.Deeds.{leaf_owed, loses, makes, new_order, nothing_owed, part_owed, pends, says, serves, split_asked, splits, stays, takes}
use Rattle.dds_orders.proofs.Deeds.{refuses, copies_none, splits_none, told_order, widened}
use Rattle.dds_orders.proofs.Numbers.{others-asked}
use Rattle.dds_orders.proofs.Standing.{deed-both, deed-stands}
use Rattle.dds_states.specs.Turn.{unknown, unknown_others, without}
use Rattle.dds_states.specs.declared.brick_state.BrickState.{BrickState}
use Rattle.dds_states.specs.declared.brick_state.OpenOrder.{OpenOrder}
use Rattle.dds_states.specs.declared.brick_state.OrderPhase.TheVariants.{Copying, Installing}
use Rattle.dds_states.specs.declared.brick_state.Task.TheVariants.{Join, Split}
use Rattle.dds_order_talk.proofs.BrickSide.{Fits, IsCounted, OrderFits, Other, Owed, Side, all-gains, at-order, at-stage}
use Rattle.dds_order_talk.proofs.BrickDeeds.{closing-over, copies-on}
use Rattle.dds_order_talk.proofs.BrickSide.{leaves-speaks, none-fits, once-others}
use Rattle.dds_order_talk.proofs.BrickDeeds.{fixes-on, loses-on, makes-on, more-on, opens-asking, serving-over}
use Rattle.dds_order_talk.proofs.BrickSide.{speaks-beside, that-fits}
use Rattle.dds_order_talk.proofs.Kept.{kept-deed}
use Rattle.dds_order_talk.proofs.Members.{Asks, append-parts, in-without}
use Rattle.dds_order_talk.proofs.Projections.{IsNotAsked}
use Rattle.dds_order_talk.proofs.Speaking.{Speaks, doing_of, speaks-on, speaks-opens, speaks-over}
use Rattle.dds_order_talk.proofs.Sendings.{Once}
use Rattle.dds_order_talk.specs.Seen.{rests, took_first, took_part}
use Rattle.dds_order_talk.specs.Table.AsksFor.{by_leaf, by_name}

-- A trip of a brick's deeds keeps its conversations with one member.

-- a deed changes nothing of what the brick knows
pub deed-known : (x y : Seat) (ls : List (NodeNo × Letter)) → Deed x ls y → y.own.known ≡ x.own.known
deed-known x _ ls (says _ others) = refl
deed-known x y ls (takes mine leaf may) = refl
deed-known x y ls (pends p may) = refl
deed-known x y ls (drops txn) = refl
deed-known x y ls (joins name via may) = refl
deed-known x y ls (splits leaf may) = refl
deed-known x y ls (loses o m e known) = refl
deed-known x y ls (fixes o from leaf e may) = refl
deed-known x y ls (copies o leaf source e may) = refl
deed-known x _ ls (asks_more o source e phase) = refl
deed-known x y ls (makes o made nodes e may) = refl
deed-known x y ls (closes o e) = refl
deed-known x y ls (serves o made e phase) = refl

the-leaf : (a b : Leaf) → Some a ≡ Some b → a ≡ b
the-leaf a b e = cc

-- letters of no order
other-number : (number : ℕ) (l : Letter) → is_of_orders l ≡ false → IsNotAsked number l
other-number number l e = let k = others-asked l e in λ n f. absurd (not-none n (sym k.0 ∙ f))

pub none-gained : (z : Sizes) (m : ℕ) → gains z [] m ≡ []
none-gained z m = in-none (is_in z m)
  where
    in-none : (c : Bool) → when_in c [] ≡ []
    in-none true = refl
    in-none false = refl

-- what the deeds leave of an order
pub others-in : (ns : List NodeNo) (me : ℕ) (known : NodeSet) (n : ℕ) → has (unknown_others ns me known) n ≡ true → has ns n ≡ true
others-in ns me known n h =
    (and_parts (has ns n) (not (has_node known n)) (sym (has-live ns (has_node known) n) ∙ (in-without (unknown ns known) me n h).1)).0

new-fits : (x : Seat) (name : Name) (via : NodeNo) → OrderFits (new_order x (Join via) name None (via ∷ []))
new-fits x name via =
    record {
      joins = λ e. refl;
      fixed = λ e f. let no : true ≡ false = e in cc;
      once = λ leaf e. absurd (not-none leaf e);
      lists = λ leaf e. absurd (not-none leaf e);
    }

split-fits : (x : Seat) (leaf : Leaf) → Once leaf.list → OrderFits (new_order x Split leaf.name (Some leaf) (split_asked x leaf))
split-fits x leaf once =
    record {
      joins = λ e. absurd (not-none leaf (sym e));
      fixed = λ e f. absurd (not-none leaf (sym f));
      once = λ l e. subst (λ (k : Leaf). Once k.list) (the-leaf leaf l e) once;
      lists = λ l e n g. subst (λ (k : Leaf). has k.list n ≡ true) (the-leaf leaf l e) (others-in leaf.list x.own.number x.own.known n g);
    }

wide-fits : (j : ℕ) (x : Seat) (o : OpenOrder) (from : NodeNo) (leaf : Leaf) → Asks j x → x.own.order ≡ Some o → MayWiden x o from leaf
    → Once leaf.list → has leaf.list from ≡ true → OrderFits (widened x o from leaf)
wide-fits j x o from leaf asks there may once lists =
    let ok = asks.order o there in
    let new = unknown_others leaf.list from x.own.known in
    let all : (n : ℕ) → has (o.asked ++ new) n ≡ true → has leaf.list n ≡ true = λ n g. elim (append-parts o.asked new n g) [
      | inl a ↦ ap (has leaf.list) (ok.first n from may.may.none a (ok.granted from may.granted)) ∙ lists
      | inr a ↦ others-in leaf.list from x.own.known n a
    ] in
    record {
      joins = λ e. absurd (not-none leaf (sym e));
      fixed = λ e f. absurd (not-none leaf (sym f));
      once = λ l e. subst (λ (k : Leaf). Once k.list) (the-leaf leaf l e) once;
      lists = λ l e n g. subst (λ (k : Leaf). has k.list n ≡ true) (the-leaf leaf l e) (all n g);
    }

pub deed-fits : (j : ℕ) (a b : Stage) (x y : Seat) (ls : List (NodeNo × Letter)) (out back : List Letter) (d : Deed x ls y) → Staged a b d → Asks j x
    → Fits x.own.order → Owed a x out back → Fits y.own.order
deed-fits j a b x _ ls out back (says _ others) q asks f w = f
deed-fits j a b x y ls out back (takes mine leaf may) q asks f w = f
deed-fits j a b x y ls out back (pends p may) q asks f w = f
deed-fits j a b x y ls out back (drops txn) q asks f w = f
deed-fits j a b x y ls out back (joins name via may) q asks f w = that-fits _ (new-fits x name via)
deed-fits j a b x y ls out back (splits leaf may) q asks f w =
    let owed : Owed told_order x out back = subst (λ s. Owed s x out back) q.0 w in
    that-fits _ (split-fits x leaf (owed.2 may.at leaf may.there))
deed-fits j a b x y ls out back (loses o m e known) q asks f w =
    let it = f o e in
    that-fits (record o { waiting = without o.waiting m }) (record { joins = it.joins; fixed = it.fixed; once = it.once; lists = it.lists })
deed-fits j a b x y ls out back (fixes o from leaf e may) q asks f w =
    let owed : Owed (leaf_owed from leaf) x out back = subst (λ s. Owed s x out back) q.0 w in
    that-fits _ (wide-fits j x o from leaf asks e may owed.0 owed.1)
deed-fits j a b x y ls out back (copies o leaf source e may) q asks f w =
    let it = f o e in
    that-fits (record o { copied = []; phase = Copying source }) (record {
      joins = it.joins;
      fixed = λ g k. absurd (not-none leaf (sym k ∙ may.fixed));
      once = it.once;
      lists = it.lists;
    })
deed-fits j a b x _ ls out back (asks_more o source e phase) q asks f w = f
deed-fits j a b x y ls out back (makes o made nodes e may) q asks f w =
    let it = f o e in
    that-fits (record o { waiting = nodes; phase = Installing made }) (record {
      joins = it.joins;
      fixed = λ g k. absurd (not-none may.may.leaf (sym k ∙ may.may.fixed));
      once = it.once;
      lists = it.lists;
    })
deed-fits j a b x y ls out back (closes o e) q asks f w = none-fits
deed-fits j a b x y ls out back (serves o made e phase) q asks f w = none-fits

-- and of what is owed
still-owed : (a : Stage) (x : Seat) (out more back : List Letter) → AllByRecursion (λ l. is_of_orders l ≡ false) more → Owed a x out back
    → Owed a x (out ++ more) back
still-owed told_order x out more back h w =
    (all-append (IsNotAsked x.orders) out more w.0 (all-map _ (IsNotAsked x.orders) more (λ l e. other-number x.orders l e) h), w.1, w.2)
still-owed nothing_owed x out more back h w = tt
still-owed (leaf_owed from leaf) x out more back h w = w
still-owed part_owed x out more back h w = tt

leaves-owed : (a b : Stage) (x : Seat) (out more back : List Letter) → Leaves x a b → AllByRecursion (λ l. is_of_orders l ≡ false) more
    → Owed a x out back → Owed b x (out ++ more) back
leaves-owed a b x out more back (stays e) h w = subst (λ s. Owed s x (out ++ more) back) e (still-owed a x out more back h w)
leaves-owed a b x out more back (refuses e f) h w = subst (λ s. Owed s x (out ++ more) back) (sym f) tt
leaves-owed a b x out more back (copies_none o there none e f) h w = subst (λ s. Owed s x (out ++ more) back) (sym f) tt
leaves-owed a b x out more back (splits_none o there none t f) h w = subst (λ s. Owed s x (out ++ more) back) (sym f) tt

nothing-left : (b : Stage) (y : Seat) (out back : List Letter) → b ≡ nothing_owed → Owed b y out back
nothing-left b y out back e = subst (λ s. Owed s y out back) (sym e) tt

pub deed-owed : (a b : Stage) (x y : Seat) (ls : List (NodeNo × Letter)) (out more back : List Letter) (d : Deed x ls y) → Staged a b d
    → (AllByRecursion (λ (p : NodeNo × Letter). is_of_orders p.1 ≡ false) ls → AllByRecursion (λ l. is_of_orders l ≡ false) more)
    → Owed a x out back → Owed b y (out ++ more) back
deed-owed a b x _ ls out more back (says _ others) q h w = leaves-owed a b x out more back q (h others) w
deed-owed a b x y ls out more back (takes mine leaf may) q h w = nothing-left b y (out ++ more) back q.1
deed-owed a b x y ls out more back (pends p may) q h w = nothing-left b y (out ++ more) back q.1
deed-owed a b x y ls out more back (drops txn) q h w = nothing-left b y (out ++ more) back q.1
deed-owed a b x y ls out more back (joins name via may) q h w = nothing-left b y (out ++ more) back q.1
deed-owed a b x y ls out more back (splits leaf may) q h w = nothing-left b y (out ++ more) back q.1
deed-owed a b x y ls out more back (loses o m e known) q h w = nothing-left b y (out ++ more) back q.1
deed-owed a b x y ls out more back (fixes o from leaf e may) q h w = nothing-left b y (out ++ more) back q.1
deed-owed a b x y ls out more back (copies o leaf source e may) q h w = nothing-left b y (out ++ more) back q.1
deed-owed a b x _ ls out more back (asks_more o source e phase) q h w = nothing-left b x (out ++ more) back q.1
deed-owed a b x y ls out more back (makes o made nodes e may) q h w = nothing-left b y (out ++ more) back q.1
deed-owed a b x y ls out more back (closes o e) q h w = nothing-left b y (out ++ more) back q.next
deed-owed a b x y ls out more back (serves o made e phase) q h w = nothing-left b y (out ++ more) back q.1

-- what is said
beside : (z : Sizes) (j m : ℕ) (t : BrickState) (a b : Stage) (q : Option OpenOrder) (out back : List Letter) → (a ≡ nothing_owed) × (b ≡ nothing_owed)
    → Speaks j m t (doing_of a) q out back → Speaks j m t (doing_of b) q (out ++ gains z [] m) back
beside z j m t a b q out back e h =
    at-stage j m t a b q (out ++ gains z [] m) back (e.0 ∙ sym e.1)
    (speaks-beside j m t (doing_of a) q out back (gains z [] m) (all-gains (λ l. is_of_orders l ≡ false) z m [] tt) h)

more-speaks : (z : Sizes) (j m : ℕ) (t : BrickState) (x : Seat) (o : OpenOrder) (source : NodeNo) (q : Option Leaf) (out back : List Letter)
    → Other z j m x.own.known → o.leaf ≡ q → o.phase ≡ Copying source → OrderFits o → Speaks j m t took_part (Some o) out back
    → Speaks j m t rests (Some o) (out ++ gains z ((source, letter.CopyAsk o.number o.name (last_key None o.copied)) ∷ []) m) back
more-speaks z j m t x o source None out back w e phase f h = absurd (f.fixed (ap order.is_leasing phase) e)
more-speaks z j m t x o source (Some leaf) out back w e phase f h =
    speaks-on j m t took_part rests o o back back (gains z ((source, letter.CopyAsk o.number o.name (last_key None o.copied)) ∷ []) m) out
    (more-on z j m x o source leaf back w phase e) h

deed-speaks : (z : Sizes) (j m : ℕ) (t : BrickState) (a b : Stage) (x y : Seat) (ls : List (NodeNo × Letter)) (out back : List Letter) (d : Deed x ls y)
    → Staged a b d → Other z j m x.own.known → Side j m t a x out back → Speaks j m t (doing_of b) y.own.order (out ++ gains z ls m) back
deed-speaks z j m t a b x _ ls out back (says _ others) q w h =
    speaks-beside j m t (doing_of b) x.own.order out back (gains z ls m) (all-gains (λ l. is_of_orders l ≡ false) z m ls others)
    (leaves-speaks j m t a b x out back q h.fits h.speaks)
deed-speaks z j m t a b x y ls out back (takes mine leaf may) q w h = beside z j m t a b x.own.order out back q h.speaks
deed-speaks z j m t a b x y ls out back (pends p may) q w h = beside z j m t a b x.own.order out back q h.speaks
deed-speaks z j m t a b x y ls out back (drops txn) q w h = beside z j m t a b x.own.order out back q h.speaks
deed-speaks z j m t a b x y ls out back (joins name via may) q w h =
    let p = new_order x (Join via) name None (via ∷ []) in
    let owed : Owed told_order x out back = subst (λ s. Owed s x out back) q.0 h.owed in
    let said = at-order j m t rests x.own.order None out back may.none (at-stage j m t a told_order x.own.order out back q.0 h.speaks) in
    at-stage j m t nothing_owed b (Some p) (out ++ gains z ls m) back (sym q.1)
    (speaks-opens j m t p out back (gains z ls m)
    (opens-asking z m x p (wanted.Name name) out back w.low w.inside refl refl by_name refl (tt, tt) owed.0 owed.1) said)
deed-speaks z j m t a b x y ls out back (splits leaf may) q w h =
    let p = new_order x Split leaf.name (Some leaf) (split_asked x leaf) in
    let owed : Owed told_order x out back = subst (λ s. Owed s x out back) q.0 h.owed in
    let said = at-order j m t rests x.own.order None out back may.none (at-stage j m t a told_order x.own.order out back q.0 h.speaks) in
    at-stage j m t nothing_owed b (Some p) (out ++ gains z ls m) back (sym q.1)
    (speaks-opens j m t p out back (gains z ls m)
    (opens-asking z m x p (wanted.Leaf leaf) out back w.low w.inside refl refl (by_leaf refl) refl
    (once-others leaf.list x.own.number x.own.known (owed.2 may.at leaf may.there)) owed.0 owed.1) said)
deed-speaks z j m t a b x y ls out back (loses o g e known) q w h =
    let p = record o { waiting = without o.waiting g } in
    at-stage j m t nothing_owed b (Some p) (out ++ gains z ls m) back (sym q.1)
    (speaks-on j m t rests rests o p back back (gains z ls m) out (loses-on z j m x o g back w known)
    (at-order j m t rests x.own.order (Some o) out back e (at-stage j m t a nothing_owed x.own.order out back q.0 h.speaks)))
deed-speaks z j m t a b x y ls out back (fixes o from leaf e may) q w h =
    let owed : Owed (leaf_owed from leaf) x out back = subst (λ s. Owed s x out back) q.0 h.owed in
    let p = widened x o from leaf in
    at-stage j m t nothing_owed b (Some p) (out ++ gains z ls m) back (sym q.1)
    (speaks-on j m t (took_first from leaf) rests o p back back (gains z ls m) out (fixes-on z j m x o from leaf back w h.asks e may owed.0)
    (at-order j m t (took_first from leaf) x.own.order (Some o) out back e (at-stage j m t a (leaf_owed from leaf) x.own.order out back q.0 h.speaks)))
deed-speaks z j m t a b x y ls out back (copies o leaf source e may) q w h =
    let p = record o { copied = []; phase = Copying source } in
    at-stage j m t nothing_owed b (Some p) (out ++ gains z ls m) back (sym q.1)
    (speaks-on j m t rests rests o p back back (gains z ls m) out (copies-on z j m x o leaf source back w may q.2)
    (at-order j m t rests x.own.order (Some o) out back e (at-stage j m t a nothing_owed x.own.order out back q.0 h.speaks)))
deed-speaks z j m t a b x _ ls out back (asks_more o source e phase) q w h =
    at-stage j m t nothing_owed b x.own.order (out ++ gains z ls m) back (sym q.1)
    (at-order j m t rests (Some o) x.own.order (out ++ gains z ls m) back (sym e)
    (more-speaks z j m t x o source o.leaf out back w refl phase (h.fits o e)
    (at-order j m t took_part x.own.order (Some o) out back e (at-stage j m t a part_owed x.own.order out back q.0 h.speaks))))
deed-speaks z j m t a b x y ls out back (makes o made nodes e may) q w h =
    let p = record o { waiting = nodes; phase = Installing made } in
    at-stage j m t nothing_owed b (Some p) (out ++ gains z ls m) back (sym q.1)
    (speaks-on j m t (doing_of a) rests o p back back (gains z ls m) out (makes-on z j m a x o made nodes back w h.asks e may (h.fits o e) q.0)
    (at-order j m t (doing_of a) x.own.order (Some o) out back e h.speaks))
deed-speaks z j m t a b x y ls out back (closes o e) q w h =
    at-stage j m t nothing_owed b None (out ++ gains z ls m) back (sym q.next)
    (speaks-over j m t (doing_of a) rests o back back out (gains z ls m)
    (closing-over z j m (doing_of a) x o back out w h.stood h.asks e q.before q.unsourced h.counted)
    (at-order j m t (doing_of a) x.own.order (Some o) out back e h.speaks))
deed-speaks z j m t a b x y ls out back (serves o made e phase) q w h =
    at-stage j m t nothing_owed b None (out ++ gains z ls m) back (sym q.1)
    (speaks-over j m t rests rests o back back out (gains z ls m) (serving-over z j m x o made back out w h.stood e phase q.2 h.counted)
    (at-order j m t rests x.own.order (Some o) out back e (at-stage j m t a nothing_owed x.own.order out back q.0 h.speaks)))

-- a deed, and a trip of them
pub side-deed : (z : Sizes) (j m : ℕ) (t : BrickState) (a b : Stage) (x y : Seat) (ls : List (NodeNo × Letter)) (out back : List Letter) (d : Deed x ls y)
    → Staged a b d → Other z j m x.own.known → Side j m t a x out back → Side j m t b y (out ++ gains z ls m) back
side-deed z j m t a b x y ls out back d q w h =
    let k = counting.kept-deed j x y ls d h.numbers in
    record {
      speaks = deed-speaks z j m t a b x y ls out back d q w h;
      stood = record { both = deed-both j x y ls d h.stood.both; stands = deed-stands j x y ls d h.stood.both h.stood.stands };
      asks = (kept-deed j x y ls d h.asks).next;
      numbers = k.next;
      counted = all-append (IsCounted y) out (gains z ls m)
          (all-map (IsCounted x) (IsCounted y) out (λ l f n e. k.later n l (f n e)) h.counted)
          (all-gains (IsCounted y) z m ls (all-map _ _ ls (λ p c n e. (c.asked n e).0) k.sent));
      fits = deed-fits j a b x y ls out back d q h.asks h.fits h.owed;
      owed = deed-owed a b x y ls out (gains z ls m) back d q (λ others. all-gains (λ l. is_of_orders l ≡ false) z m ls others) h.owed;
    }

pub side-trip : (z : Sizes) (j m : ℕ) (t : BrickState) (a b : Stage) (x y : Seat) (ls : List (NodeNo × Letter)) (out back : List Letter)
    → Trip a x ls b y → Other z j m x.own.known → Side j m t a x out back → Side j m t b y (out ++ gains z ls m) back
side-trip z j m t a _ x _ _ out back (arrives _ _) w h =
    let e : gains z [] m ≡ [] = none-gained z m in
    subst (λ g. Side j m t a x g back) (sym (ap (λ g. out ++ g) e ∙ append-nil out)) h
side-trip z j m t a b x z0 _ out back (does_next _ c _ _ y _ ls ms d q v) w h =
    let first = side-deed z j m t a c x y ls out back d q w h in
    let known = deed-known x y ls d in
    let other : Other z j m y.own.known = record { low = w.low; inside = w.inside; other = w.other; unknown = ap (λ k. has_node k m) known ∙ w.unknown } in
    let rest = side-trip z j m t c b y z0 ms (out ++ gains z ls m) back v other first in
    subst (λ g. Side j m t b z0 g back) (append_assoc out (gains z ls m) (gains z ms m) ∙ ap (λ g. out ++ g) (sym (gains-append z m ls ms))) rest
