use Rattle.std.proofs.Common.{◌≡◌, ℕ, ◌<◌, ◌==◌, ◌||◌, Bool, true, false, Option, Some, None, List, [], ◌∷◌, refl, sym, ap, ◌∙◌, subst}
use Rattle.std.proofs.lemmas.Bool.{both_ways, eqb-true}
use Rattle.std.specs.List.{AllByRecursion}
use Rattle.std.specs.Prelude.{if◌then◌else◌}
use Rattle.dds_base.specs.BrickList.{has}
use Rattle.dds_base.specs.Name.{Name, same_name}
use Rattle.dds_base.specs.NodeSet.{has_node}
use Rattle.dds_base.specs.Place.{last_key}
use Rattle.dds_base.specs.declared.leaf.Leaf.{Leaf}
use Rattle.dds_base.specs.declared.number.NodeNo.{NodeNo}
use Rattle.dds_books.proofs.Numbers.{pairs-live}
use Rattle.dds_core.proofs.Lists.{all-map}
use Rattle.dds_groups.specs.Leaves.{live}
use Rattle.dds_law_own.proofs.Owned.{orderly}
use Rattle.dds_law_own.proofs.Lists.{each-is}
use Rattle.dds_letters.specs.declared.letter.Letter.{Letter}
use Rattle.dds_letters.specs.declared.letter.Letter.TheVariants as letter
use Rattle.dds_letters.specs.declared.refusal.Wanted.{Wanted}
use Rattle.dds_letters.specs.declared.refusal.Wanted.TheVariants as wanted
use Rattle.dds_net.proofs.Pairwise.{pairs-filter}
use Rattle.dds_net.specs.Net.{Sizes, gains, is_in}
use Rattle.dds_order_rows.specs.OwnOrder as order
use Rattle.dds_orders.proofs.Deeds.{IsReady, IsUnsourced, MakesAt, MayBegin, MayCopy, MayWiden, Seat, Stage, by_leases, by_pairs}
use Rattle.dds_orders.proofs.Deeds.{is_of_orders}
use Rattle.dds_orders.proofs.Deeds.{widened}
use Rattle.dds_orders.proofs.Numbers.{has-append, has-without}
use Rattle.dds_orders.proofs.Standing.{Stood}
use Rattle.dds_states.specs.Turn.{is_none_left, to_each, unknown, unknown_others, without}
use Rattle.dds_states.specs.declared.brick_state.OpenOrder.{OpenOrder}
use Rattle.dds_states.specs.declared.brick_state.OrderPhase.TheVariants.{Copying, Installing, Leasing}
use Rattle.dds_order_talk.proofs.BrickViews.{closing-ends, idle-view, lost-view, makers-granted, none-waits, serving-ends, serving-off}
use Rattle.dds_order_talk.proofs.BrickViews.{unasked-off, unknown-has}
use Rattle.dds_order_talk.proofs.Holds.{name-self}
use Rattle.dds_order_talk.proofs.Members.{Asks, not-has}
use Rattle.dds_order_talk.proofs.Moves.{Ends, Takes}
use Rattle.dds_order_talk.proofs.OrderBegins.{copy-moves, fix-moves, last-moves, make-moves, open-moves, to_some}
use Rattle.dds_order_talk.proofs.OrderViews.{by, more-moves, stays-as}
use Rattle.dds_order_talk.proofs.Projections.{IsLeaseOf, IsNotAsked, IsNotSaid, new-asks, new-says, others-ask}
use Rattle.dds_order_talk.proofs.Sendings.{Once, apart-copy, apart-install, apart-lease, apart-releases, each-asks, each-asks-none, own-copy, own-install}
use Rattle.dds_order_talk.proofs.Sendings.{own-lease, release-asks, released-times, times}
use Rattle.dds_order_talk.proofs.Speaking.{GoesOn, IsOver, Opens, doing_of}
use Rattle.dds_order_talk.specs.Seen.{Doing, asks, phase_view, rests, took_first, took_part, wanted_name}
use Rattle.dds_order_talk.specs.Seen.{says as said}
use Rattle.dds_order_talk.specs.Table.{AsksFor}
use Rattle.dds_order_talk.specs.Table.Ask.{copy, install, lease}
use Rattle.dds_order_talk.specs.Table.View.{Off}
use Rattle.dds_order_talk.proofs.BrickSide.{IsCounted, OrderFits, Other, leasing-is, not-known, once-others, source-other}
use Rattle.dds_order_talk.proofs.BrickSide.{all-gains}

-- Each deed of a brick is a move of its conversations with one member.

-- what an order opens with
pub opens-asking : (z : Sizes) (m : ℕ) (x : Seat) (p : OpenOrder) (what : Wanted) (out back : List Letter) → m < 64 → is_in z m ≡ true
    → p.phase ≡ Leasing → p.granted ≡ [] → AsksFor p.name p.leaf what → wanted_name what ≡ p.name → Once p.waiting
    → AllByRecursion (IsNotAsked p.number) out → AllByRecursion (IsNotSaid p.number) back
    → Opens m p out back (gains z (to_each p.waiting (letter.Lease p.number what)) m)
opens-asking z m x p what out back low inside phase none asks_for name once new also =
    record {
      asked = to_some p.waiting m (lease what);
      move = subst (λ f. Takes p.name Off [] (phase_view rests p m f) (to_some p.waiting m (lease what))) (sym phase)
          (open-moves p.name p m what (ap (λ ns. has ns m) none) asks_for);
      out_is = λ n. new-asks p n out new;
      back_is = λ n. new-says p n back also;
      sends = each-asks z m p.waiting (Some p) p.name (letter.Lease p.number what) (lease what) low inside once (own-lease p what (name-self p.name));
      sends_apart = λ n e. each-asks-none z m p.waiting (Some p) n (letter.Lease p.number what) low inside once (apart-lease p n what name e);
    }

-- a join's leaf is fixed
pub fixes-on : (z : Sizes) (j m : ℕ) (x : Seat) (o : OpenOrder) (from : NodeNo) (leaf : Leaf) (back : List Letter) → Other z j m x.own.known → Asks j x
    → x.own.order ≡ Some o → MayWiden x o from leaf → Once leaf.list
    → GoesOn m (took_first from leaf) rests o (widened x o from leaf) back back
    (gains z (to_each (unknown_others leaf.list from x.own.known) (letter.Lease o.number (wanted.Leaf leaf))) m)
fixes-on z j m x o from leaf back w asks there may once =
    let new = unknown_others leaf.list from x.own.known in
    let ok = asks.order o there in
    let only = (λ (n : ℕ) (g : has o.granted n ≡ true). ok.first n from may.may.none (ok.granted n g) (ok.granted from may.granted)) in
    let idle : has o.waiting m ≡ false =
    not-has o.waiting m (λ k.
    let r = ok.leases m may.leasing k in
    let same : m ≡ from = ok.first m from may.may.none r.0 (ok.granted from may.granted) in
    both_ways (has o.granted m) r.1 (ap (has o.granted) same ∙ may.granted)) in
    let p = widened x o from leaf in
    let each = once-others leaf.list from x.own.known once in
    let move = fix-moves o.name o p from m leaf new may.may.none refl refl idle
    (has-append o.waiting new m ∙ ap (λ c. c || has new m) idle) (only m)
    (λ e. ap (has new) e ∙ has-without (unknown leaf.list x.own.known) from) may.may.name in
    record {
      number = refl;
      name = refl;
      said = [];
      asked = to_some new m (lease (wanted.Leaf leaf));
      move = subst (λ f. Takes o.name (phase_view (took_first from leaf) o m f) [] (phase_view rests p m f) (to_some new m (lease (wanted.Leaf leaf))))
          (sym (leasing-is o.phase may.leasing)) move;
      hears = refl;
      sends = each-asks z m new (Some o) o.name (letter.Lease o.number (wanted.Leaf leaf)) (lease (wanted.Leaf leaf)) w.low w.inside each
          (own-lease o (wanted.Leaf leaf) (name-self o.name));
      hears_apart = λ n e. refl;
      sends_apart = λ n e. each-asks-none z m new (Some o) n (letter.Lease o.number (wanted.Leaf leaf)) w.low w.inside each
          (apart-lease o n (wanted.Leaf leaf) may.may.name e);
    }

-- a member is copied from
or-none : (a : Bool) → (a || false) ≡ a
or-none true = refl
or-none false = refl

copy-sends : (z : Sizes) (m : ℕ) (o : OpenOrder) (source : NodeNo) (key : Option ℕ) → m < 64 → is_in z m ≡ true
    → asks (Some o) o.name (gains z ((source, letter.CopyAsk o.number o.name key) ∷ []) m) ≡ by source m (copy key)
copy-sends z m o source key low inside =
    each-asks z m (source ∷ []) (Some o) o.name (letter.CopyAsk o.number o.name key) (copy key) low inside (tt, tt)
    (own-copy o o.name key (name-self o.name)) ∙ ap (λ c. if c then copy key ∷ [] else []) (or-none (source == m))

copy-apart : (z : Sizes) (m : ℕ) (o : OpenOrder) (source : NodeNo) (key : Option ℕ) (n : Name) → m < 64 → is_in z m ≡ true
    → same_name o.name n ≡ false → asks (Some o) n (gains z ((source, letter.CopyAsk o.number o.name key) ∷ []) m) ≡ []
copy-apart z m o source key n low inside e =
    each-asks-none z m (source ∷ []) (Some o) n (letter.CopyAsk o.number o.name key) low inside (tt, tt) (apart-copy o n o.name key e)

idle-waits : (o : OpenOrder) (m : ℕ) → IsReady o → order.is_leasing o.phase ≡ true → has o.waiting m ≡ false
idle-waits o m ready e = none-waits o.waiting m (ready.none e)

pub copies-on : (z : Sizes) (j m : ℕ) (x : Seat) (o : OpenOrder) (leaf : Leaf) (source : NodeNo) (back : List Letter) → Other z j m x.own.known
    → MayCopy x o leaf source → IsUnsourced x o
    → GoesOn m rests rests o (record o { copied = []; phase = Copying source }) back back
    (gains z ((source, letter.CopyAsk o.number o.name None) ∷ []) m)
copies-on z j m x o leaf source back w may free =
    let p = record o { copied = []; phase = Copying source } in
    let was = idle-view o m o.phase may.ready.before (source-other x o m free w.unknown) (idle-waits o m may.ready) in
    record {
      number = refl;
      name = refl;
      said = [];
      asked = by source m (copy None);
      move = subst (λ v. Takes o.name v [] (phase_view rests p m (Copying source)) (by source m (copy None))) (sym was)
          (copy-moves o.name o source m leaf may.fixed may.granted);
      hears = refl;
      sends = copy-sends z m o source None w.low w.inside;
      hears_apart = λ n e. refl;
      sends_apart = λ n e. copy-apart z m o source None n w.low w.inside e;
    }

-- more pairs are asked for
pub more-on : (z : Sizes) (j m : ℕ) (x : Seat) (o : OpenOrder) (source : NodeNo) (leaf : Leaf) (back : List Letter) → Other z j m x.own.known
    → o.phase ≡ Copying source → o.leaf ≡ Some leaf
    → GoesOn m took_part rests o o back back (gains z ((source, letter.CopyAsk o.number o.name (last_key None o.copied)) ∷ []) m)
more-on z j m x o source leaf back w phase fixed =
    record {
      number = refl;
      name = refl;
      said = [];
      asked = by source m (copy (last_key None o.copied));
      move = subst (λ p. Takes o.name (phase_view took_part o m p) [] (phase_view rests o m p) (by source m (copy (last_key None o.copied)))) (sym phase)
          (more-moves o.name o source m leaf fixed);
      hears = refl;
      sends = copy-sends z m o source (last_key None o.copied) w.low w.inside;
      hears_apart = λ n e. refl;
      sends_apart = λ n e. copy-apart z m o source (last_key None o.copied) n w.low w.inside e;
    }

-- a leaf is made
makes-moves : (z : Sizes) (j m : ℕ) (a : Stage) (x : Seat) (o : OpenOrder) (made : Leaf) (nodes : List NodeNo) → Other z j m x.own.known → Asks j x
    → x.own.order ≡ Some o → MayBegin x o made nodes → OrderFits o → MakesAt o a
    → Takes o.name (phase_view (doing_of a) o m o.phase) []
    (phase_view rests (record o { waiting = nodes; phase = Installing made }) m (Installing made)) (to_some nodes m (install made))
makes-moves z j m a x o made nodes w asks there may fits (by_leases leasing e) =
    let leaf = may.may.leaf in
    let p = record o { waiting = nodes; phase = Installing made } in
    let same = makers-granted x o made nodes m may (λ f. w.other (f ∙ asks.number)) w.unknown
    (λ g. fits.lists leaf may.may.fixed m ((asks.order o there).granted m g)) in
    let was = idle-view o m o.phase may.ready.before (λ n f. let no : true ≡ false = sym leasing ∙ ap order.is_leasing f in cc) (idle-waits o m may.ready) in
    subst (λ s. Takes o.name (phase_view (doing_of s) o m o.phase) [] (phase_view rests p m (Installing made)) (to_some nodes m (install made))) (sym e)
    (subst (λ v. Takes o.name v [] (phase_view rests p m (Installing made)) (to_some nodes m (install made))) (sym was)
    (make-moves o.name o m leaf made nodes may.may.fixed same))
makes-moves z j m a x o made nodes w asks there may fits (by_pairs source phase e) =
    let leaf = may.may.leaf in
    let p = record o { waiting = nodes; phase = Installing made } in
    let same = makers-granted x o made nodes m may (λ f. w.other (f ∙ asks.number)) w.unknown
    (λ g. fits.lists leaf may.may.fixed m ((asks.order o there).granted m g)) in
    subst (λ s. Takes o.name (phase_view (doing_of s) o m o.phase) [] (phase_view rests p m (Installing made)) (to_some nodes m (install made))) (sym e)
    (subst (λ f. Takes o.name (phase_view took_part o m f) [] (phase_view rests p m (Installing made)) (to_some nodes m (install made))) (sym phase)
    (last-moves o.name o source m leaf made nodes may.may.fixed same ((asks.order o there).source source phase)))

makers-once : (x : Seat) (o : OpenOrder) (made : Leaf) (nodes : List NodeNo) (may : MayBegin x o made nodes) → Once may.may.leaf.list → Once nodes
makers-once x o made nodes may h =
    let s = may.may.state in
    let leaf = may.may.leaf in
    subst Once (sym may.nodes_are)
    (pairs-filter _ _ (order.parting s o leaf) (pairs-filter _ _ (live leaf.list (has_node s.known))
    (pairs-live (λ m n. m ≡ n → ⊥) leaf.list (has_node s.known) h)))

pub makes-on : (z : Sizes) (j m : ℕ) (a : Stage) (x : Seat) (o : OpenOrder) (made : Leaf) (nodes : List NodeNo) (back : List Letter)
    → Other z j m x.own.known → Asks j x → x.own.order ≡ Some o → MayBegin x o made nodes → OrderFits o → MakesAt o a
    → GoesOn m (doing_of a) rests o (record o { waiting = nodes; phase = Installing made }) back back
    (gains z (to_each nodes (letter.Install o.number made)) m)
makes-on z j m a x o made nodes back w asks there may fits at =
    let each = makers-once x o made nodes may (fits.once may.may.leaf may.may.fixed) in
    record {
      number = refl;
      name = refl;
      said = [];
      asked = to_some nodes m (install made);
      move = makes-moves z j m a x o made nodes w asks there may fits at;
      hears = refl;
      sends = each-asks z m nodes (Some o) o.name (letter.Install o.number made) (install made) w.low w.inside each
          (own-install o made (name-self o.name));
      hears_apart = λ n e. refl;
      sends_apart = λ n e. each-asks-none z m nodes (Some o) n (letter.Install o.number made) w.low w.inside each (apart-install o n made e);
    }

-- a member is lost
pub loses-on : (z : Sizes) (j m : ℕ) (x : Seat) (o : OpenOrder) (y : NodeNo) (back : List Letter) → Other z j m x.own.known → has_node x.own.known y ≡ true
    → GoesOn m rests rests o (record o { waiting = without o.waiting y }) back back (gains z [] m)
loses-on z j m x o y back w known =
    record {
      number = refl;
      name = refl;
      said = [];
      asked = [];
      move = stays-as o.name _ _ [] [] (lost-view o y m o.phase (not-known x.own.known y m known w.unknown)) refl refl;
      hears = refl;
      sends = (others-ask (Some o) o.name (gains z [] m) (all-gains (λ l. is_of_orders l ≡ false) z m [] tt)).0;
      hears_apart = λ n e. refl;
      sends_apart = λ n e. (others-ask (Some o) n (gains z [] m) (all-gains (λ l. is_of_orders l ≡ false) z m [] tt)).0;
    }

-- the leases that an order asked for are of its name
same-as : (a b : Name) → a ≡ b → same_name a b ≡ true
same-as a b e = ap (λ n. same_name n b) e ∙ name-self b

pub lease-of : (j : ℕ) (x : Seat) (o : OpenOrder) (l : Letter) → Stood j x → x.own.order ≡ Some o → IsCounted x l → IsLeaseOf o l
lease-of j x o (letter.Lease number (wanted.Name name)) h there c =
    λ e. same-as name o.name ((c number refl).of o there (eqb-true o.number number e))
lease-of j x o (letter.Lease number (wanted.Leaf leaf)) h there c =
    λ e. same-as leaf.name o.name (each-is _ o.leaf leaf ((c number refl).of o there (eqb-true o.number number e))
    (orderly j x.own.order o there h.both.0.order).leaf).0
lease-of j x o other h there c = tt

all-leases : (j : ℕ) (x : Seat) (o : OpenOrder) (out : List Letter) → Stood j x → x.own.order ≡ Some o → AllByRecursion (IsCounted x) out
    → AllByRecursion (IsLeaseOf o) out
all-leases j x o out h there c = all-map (IsCounted x) (IsLeaseOf o) out (λ l k. lease-of j x o l h there k) c

-- the order ends
ends-with : (z : Sizes) (m : ℕ) (d : Doing) (o : OpenOrder) (nodes : List NodeNo) (back out : List Letter) → m < 64 → is_in z m ≡ true
    → Ends (phase_view d o m o.phase) [] → (has nodes m ≡ false → phase_view d o m o.phase ≡ Off) → AllByRecursion (IsLeaseOf o) out
    → IsOver m d o back out (gains z (to_each nodes (letter.Release o.number o.name)) m)
ends-with z m d o nodes back out low inside e f h =
    record {
      said = [];
      others = said (Some o) o.name back;
      asked = times m nodes;
      ends = e;
      hears = refl;
      released = released-times (phase_view d o m o.phase) m nodes f;
      sends = release-asks z m nodes None o.name o.name o.number low inside (name-self o.name);
      sends_apart = λ n g. apart-releases z m nodes None n o.name o.number g;
      leases = h;
    }

pub closing-over : (z : Sizes) (j m : ℕ) (d : Doing) (x : Seat) (o : OpenOrder) (back out : List Letter) → Other z j m x.own.known → Stood j x → Asks j x
    → x.own.order ≡ Some o → order.is_installing o.phase ≡ false → IsUnsourced x o → AllByRecursion (IsCounted x) out
    → IsOver m d o back out (gains z (to_each (unknown o.asked x.own.known) (letter.Release o.number o.name)) m)
closing-over z j m d x o back out w stood asks there before free counted =
    let ok = asks.order o there in
    let apart = source-other x o m free w.unknown in
    ends-with z m d o (unknown o.asked x.own.known) back out w.low w.inside (closing-ends d o m o.phase before apart)
    (λ e.
    let none : has o.asked m ≡ false = sym (unknown-has o.asked x.own.known m w.unknown) ∙ e in
    unasked-off d o m o.phase before apart (λ l. not-has o.waiting m (λ k. both_ways (has o.asked m) none (ok.leases m l k).0))
    (not-has o.granted m (λ k. both_ways (has o.asked m) none (ok.granted m k))))
    (all-leases j x o out stood there counted)

pub serving-over : (z : Sizes) (j m : ℕ) (x : Seat) (o : OpenOrder) (made : Leaf) (back out : List Letter) → Other z j m x.own.known → Stood j x
    → x.own.order ≡ Some o → o.phase ≡ Installing made → is_none_left o.waiting ≡ true → AllByRecursion (IsCounted x) out
    → IsOver m rests o back out (gains z (to_each (unknown o.granted x.own.known) (letter.Release o.number o.name)) m)
serving-over z j m x o made back out w stood there phase none counted =
    let idle = none-waits o.waiting m none in
    ends-with z m rests o (unknown o.granted x.own.known) back out w.low w.inside
    (subst (λ p. Ends (phase_view rests o m p) []) (sym phase) (serving-ends o m made idle))
    (λ e. subst (λ p. phase_view rests o m p ≡ Off) (sym phase)
    (serving-off o m made idle (sym (unknown-has o.granted x.own.known m w.unknown) ∙ e))) (all-leases j x o out stood there counted)
