use Rattle.std.proofs.Common.{◌≡◌, ℕ, ◌==◌, ◌&&◌, ◌++◌, Bool, true, false, Option, Some, None, List, [], ◌∷◌, refl, sym, ap, ◌∙◌, subst}
use Rattle.std.proofs.lemmas.Bool.{and_parts, eq-eqb}
use Rattle.std.proofs.lemmas.List.{append-nil}
use Rattle.std.specs.Prelude.{if◌then◌else◌}
use Rattle.dds_base.specs.BrickList.{has}
use Rattle.dds_base.specs.Name.{Name, same_name}
use Rattle.dds_base.specs.declared.leaf.Leaf.{Leaf}
use Rattle.dds_base.specs.declared.number.NodeNo.{NodeNo}
use Rattle.dds_base.specs.declared.pair.Pair.{Pair}
use Rattle.dds_core.proofs.Lists.{all-append, all-map}
use Rattle.dds_letters.specs.declared.letter.Letter.{Letter}
use Rattle.dds_letters.specs.declared.letter.Letter.TheVariants as letter
use Rattle.dds_net.specs.Net.{Sizes, gains}
use Rattle.dds_order_rows.specs.OwnOrder as order
use Rattle.dds_orders.proofs.Counting as counting
use Rattle.dds_orders.proofs.Counting.{not-none}
use Rattle.dds_orders.proofs.Deeds.{Seat, nothing_owed, owed_at}
use Rattle.dds_orders.proofs.Standing.{heard-stood}
use Rattle.dds_orders.proofs.Turns.{Hears, copies_not, denies, gives, grants, grants_not, hears_other, installed_not, installs, installs_not}
use Rattle.dds_orders.proofs.Turns.{is_installed, is_refused, learns, owed, refused_not, releases, sends_none, sends_part, source-is}
use Rattle.dds_orders.proofs.Turns.{copies as copies_part}
use Rattle.dds_orders.specs.Law.{asked_of}
use Rattle.dds_states.specs.Turn.{to_each, unknown, without}
use Rattle.dds_states.specs.declared.brick_state.BrickState.{BrickState}
use Rattle.dds_states.specs.declared.brick_state.OpenOrder.{OpenOrder}
use Rattle.dds_states.specs.declared.brick_state.OrderPhase.{OrderPhase}
use Rattle.dds_states.specs.declared.brick_state.OrderPhase.TheVariants.{Copying, Installing, Leasing}
use Rattle.dds_order_talk.proofs.BrickSide.{Fits, IsCounted, OrderFits, Other, Owed, Side, all-gains, at-order, leasing-is, none-fits, that-fits}
use Rattle.dds_order_talk.proofs.BrickDeeds.{closing-over}
use Rattle.dds_order_talk.proofs.BrickHears.{Heard, IsUnlisted, Told, all-unasked, drops-untaken, heard-none, heard-says, installed-taken, not-taken, of_it}
use Rattle.dds_order_talk.proofs.BrickHears.{of_another, refusal-taken, same-speaks}
use Rattle.dds_order_talk.proofs.BrickTurns.{none-gained}
use Rattle.dds_order_talk.proofs.BrickViews.{closing-ends}
use Rattle.dds_order_talk.proofs.HearsOthers.{kept-heard}
use Rattle.dds_order_talk.proofs.Holds.{name-self}
use Rattle.dds_order_talk.proofs.Moves.{Ends, Takes}
use Rattle.dds_order_talk.proofs.Moves.{is_refused as refused_ends}
use Rattle.dds_order_talk.proofs.OrderViews.{by, by-it, by-other, doing, grant-moves, installed-moves, part-moves}
use Rattle.dds_order_talk.proofs.Projections.{other-asks}
use Rattle.dds_order_talk.proofs.Sendings.{Once}
use Rattle.dds_order_talk.proofs.Speakers.{IsWaits, drops-part, is_waits, says-first}
use Rattle.dds_order_talk.proofs.Speaking.{Line, Speaks, doing_of, speaks-on, speaks-over}
use Rattle.dds_order_talk.specs.Seen.{Doing, asks, one, phase_view, rests, say_of, says, took_part}
use Rattle.dds_order_talk.specs.Table.{Say, View}
use Rattle.dds_order_talk.specs.Table.Say.{granted, refused, part, installed}
use Rattle.dds_order_talk.specs.Table.View.{Off}

-- Each letter that a brick hears is a move of its conversations with one member.

-- what a letter says of the order that it finds, and of other names
one-both : (a b : Bool) (s : Say) → a ≡ true → b ≡ true → one (a && b) s ≡ s ∷ []
one-both true true s e f = refl
one-both true false s e f = cc
one-both false b s e f = cc

pub one-none : (a b : Bool) (s : Say) → b ≡ false → one (a && b) s ≡ []
one-none true true s e = cc
one-none true false s e = refl
one-none false b s e = refl

pub found-says : (o : OpenOrder) (number : ℕ) (s : Say) → o.number ≡ number → one (o.number == number && same_name o.name o.name) s ≡ s ∷ []
found-says o number s e = one-both (o.number == number) (same_name o.name o.name) s (eq-eqb o.number number e) (name-self o.name)

-- the order goes on, with nothing sent
on-hearing : (z : Sizes) (j m from : ℕ) (t : BrickState) (l : Letter) (number : ℕ) (a : Say) (d : Doing) (o p : OpenOrder) (out back rest : List Letter)
    → Heard from m l back rest → ((n : Name) → say_of (Some o) n l ≡ one (o.number == number && same_name o.name n) a) → o.number ≡ number
    → p.number ≡ o.number → p.name ≡ o.name → Takes o.name (phase_view rests o m o.phase) (by from m a) (phase_view d p m p.phase) []
    → Speaks j m t rests (Some o) out back → Speaks j m t d (Some p) (out ++ gains z [] m) rest
on-hearing z j m from t l number a d o p out back rest g s same e f move h =
    speaks-on j m t rests d o p back rest (gains z [] m) out (record {
      number = e;
      name = f;
      said = by from m a;
      asked = [];
      move = move;
      hears = heard-says from m l back rest (Some o) o.name a g (s o.name ∙ found-says o number a same);
      sends = all-unasked (Some o) o.name (gains z [] m) (all-gains (λ k. asked_of k ≡ None) z m [] tt);
      hears_apart = λ n k. heard-none from m l back rest (Some o) n g (s n ∙ one-none (o.number == number) (same_name o.name n) a k);
      sends_apart = λ n k. all-unasked (Some o) n (gains z [] m) (all-gains (λ k. asked_of k ≡ None) z m [] tt);
    }) h

-- nothing is sent
no-gain : (z : Sizes) (j m : ℕ) (t : BrickState) (q : Option OpenOrder) (out rest : List Letter) → Speaks j m t rests q out rest
    → Speaks j m t rests q (out ++ gains z [] m) rest
no-gain z j m t q out rest h =
    subst (λ c. Speaks j m t rests q c rest) (sym (ap (λ g. out ++ g) (none-gained z m) ∙ append-nil out)) h

-- a grant
doing-is : (q : Option Leaf) (from : NodeNo) (leaf : Leaf) → doing_of (owed_at q from leaf) ≡ doing q from leaf
doing-is None from leaf = refl
doing-is (Some fixed) from leaf = refl

-- the order ends, refused by the member or by another one
refused-ends : (from m : ℕ) (l : Letter) (back rest : List Letter) (v : View) → Heard from m l back rest → Ends v [] → (from ≡ m → Ends v (refused ∷ []))
    → Ends v (by from m refused)
refused-ends from m l back rest v (of_it e f) h k =
    subst (Ends v) (sym (ap (λ i. by i m refused) e ∙ by-it m refused)) (k e)
refused-ends from m l back rest v (of_another ne f) h k = subst (Ends v) (sym (by-other from m refused ne)) h

by-refusal : (v : View) → IsWaits v → Ends v (refused ∷ [])
by-refusal v (is_waits what e) = subst (λ w. Ends w (refused ∷ [])) (sym e) refused_ends

pub own-line : (j m : ℕ) (t : BrickState) (o : OpenOrder) (out back : List Letter) → Speaks j m t rests (Some o) out back
    → Line m t o.name (phase_view rests o m o.phase) (asks (Some o) o.name out) j (says (Some o) o.name back)
own-line j m t o out back h =
    subst (λ c. Line m t o.name (if c then phase_view rests o m o.phase else Off) (asks (Some o) o.name out) j (says (Some o) o.name back)) (name-self o.name)
    (h o.name)

refused-over : (z : Sizes) (j m from : ℕ) (t : BrickState) (l : Letter) (number : ℕ) (x : Seat) (o : OpenOrder) (out back rest : List Letter)
    → Other z j m x.own.known → Side j m t nothing_owed x out back → Heard from m l back rest → x.own.order ≡ Some o → o.number ≡ number
    → order.is_leasing o.phase ≡ true → ((n : Name) → say_of (Some o) n l ≡ one (o.number == number && same_name o.name n) refused)
    → Speaks j m t rests None (out ++ gains z (to_each (unknown o.asked x.own.known) (letter.Release o.number o.name)) m) rest
refused-over z j m from t l number x o out back rest w h g there same leasing s =
    let sent = gains z (to_each (unknown o.asked x.own.known) (letter.Release o.number o.name)) m in
    let at = at-order j m t rests x.own.order (Some o) out back there h.speaks in
    let phase = leasing-is o.phase leasing in
    let before : order.is_installing o.phase ≡ false = ap order.is_installing phase in
    let no_source : (n : NodeNo) → o.phase ≡ Copying n → ⊥ = λ n e. let no : Leasing ≡ Copying n = sym phase ∙ e in cc in
    let base = closing-over z j m rests x o back out w h.stood h.asks there before (λ n e. absurd (no_source n e)) h.counted in
    let says_it = s o.name ∙ found-says o number refused same in
    let hears = heard-says from m l back rest (Some o) o.name refused g says_it in
    let ends = refused-ends from m l back rest (phase_view rests o m o.phase) g (closing-ends rests o m o.phase before (λ n e. absurd (no_source n e)))
    (λ e. by-refusal (phase_view rests o m o.phase) (says-first
    (subst (λ b. Line m t o.name (phase_view rests o m o.phase) (asks (Some o) o.name out) j b)
    (hears ∙ ap (λ b. b ++ says (Some o) o.name rest) (ap (λ i. by i m refused) e ∙ by-it m refused)) (own-line j m t o out back at)))) in
    speaks-over j m t rests rests o back rest out sent (record {
      said = by from m refused;
      others = says (Some o) o.name rest;
      asked = base.asked;
      ends = ends;
      hears = hears;
      released = base.released;
      sends = base.sends;
      sends_apart = base.sends_apart;
      leases = base.leases;
    }) at

part-heard : (z : Sizes) (j m from : ℕ) (t : BrickState) (l : Letter) (number : ℕ) (x : Seat) (o : OpenOrder) (pairs : List Pair)
    (out back rest : List Letter) (q : Option Leaf) → o.leaf ≡ q → o.phase ≡ Copying from → Heard from m l back rest
    → ((n : Name) → say_of (Some o) n l ≡ one (o.number == number && same_name o.name n) part) → o.number ≡ number → OrderFits o
    → Speaks j m t rests (Some o) out back → Speaks j m t took_part (Some (record o { copied = o.copied ++ pairs })) (out ++ gains z [] m) rest
part-heard z j m from t l number x o pairs out back rest None fixed phase g s same fits h =
    absurd (fits.fixed (ap order.is_leasing phase) fixed)
part-heard z j m from t l number x o pairs out back rest (Some leaf) fixed phase g s same fits h =
    let p = record o { copied = o.copied ++ pairs } in
    on-hearing z j m from t l number part took_part o p out back rest g s same refl refl
    (subst (λ f. Takes o.name (phase_view rests o m f) (by from m part) (phase_view took_part p m f) []) (sym phase)
    (part-moves o.name o from m leaf pairs fixed)) h

installed-with : (z : Sizes) (j m from : ℕ) (t : BrickState) (l : Letter) (number : ℕ) (o : OpenOrder) (made : Leaf)
    (out back rest : List Letter) (q : Option Leaf) → o.leaf ≡ q → o.phase ≡ Installing made → Heard from m l back rest
    → ((n : Name) → say_of (Some o) n l ≡ one (o.number == number && same_name o.name n) installed) → o.number ≡ number → OrderFits o
    → has o.waiting from ≡ true → has o.granted from ≡ true
    → Speaks j m t rests (Some o) out back → Speaks j m t rests (Some (record o { waiting = without o.waiting from })) (out ++ gains z [] m) rest
installed-with z j m from t l number o made out back rest None fixed phase g s same fits waits gave h =
    absurd (fits.fixed (ap order.is_leasing phase) fixed)
installed-with z j m from t l number o made out back rest (Some leaf) fixed phase g s same fits waits gave h =
    let p = record o { waiting = without o.waiting from } in
    on-hearing z j m from t l number installed rests o p out back rest g s same refl refl
    (subst (λ f. Takes o.name (phase_view rests o m f) (by from m installed) (phase_view rests p m f) []) (sym phase)
    (installed-moves o.name o from m leaf made fixed waits gave)) h

installed-heard : (z : Sizes) (j m from : ℕ) (t : BrickState) (l : Letter) (number : ℕ) (o : OpenOrder) (f : OrderPhase)
    (out back rest : List Letter) → o.phase ≡ f → order.is_installing f ≡ true → Heard from m l back rest
    → ((n : Name) → say_of (Some o) n l ≡ one (o.number == number && same_name o.name n) installed) → o.number ≡ number → OrderFits o
    → has o.waiting from ≡ true → ((made : Leaf) (n : ℕ) → o.phase ≡ Installing made → has o.waiting n ≡ true → has o.granted n ≡ true)
    → Speaks j m t rests (Some o) out back → Speaks j m t rests (Some (record o { waiting = without o.waiting from })) (out ++ gains z [] m) rest
installed-heard z j m from t l number o Leasing out back rest phase is g s same fits waits gave h = cc
installed-heard z j m from t l number o (Copying source) out back rest phase is g s same fits waits gave h = cc
installed-heard z j m from t l number o (Installing made) out back rest phase is g s same fits waits gave h =
    installed-with z j m from t l number o made out back rest o.leaf refl phase g s same fits waits (gave made from phase waits) h

heard-speaks : (z : Sizes) (j m from : ℕ) (t : BrickState) (l : Letter) (x y : Seat) (ls : List (NodeNo × Letter)) (out back rest : List Letter)
    (d : Hears from x l ls y) → Other z j m x.own.known → Side j m t nothing_owed x out back → Told j from l x → IsUnlisted j t l x.own.order
    → Heard from m l back rest → Speaks j m t (doing_of (owed d)) y.own.order (out ++ gains z ls m) rest
heard-speaks z j m from t l x y ls out back rest (gives number what leaf there free stamp unknown) w h f u g =
    same-speaks j m from t l x.own.order out back rest (gains z ls m) g (λ n. refl) (all-gains (λ k. asked_of k ≡ None) z m ls (refl, tt)) h.speaks
heard-speaks z j m from t l x _ ls out back rest (denies number what why) w h f u g =
    same-speaks j m from t l x.own.order out back rest (gains z ls m) g (λ n. refl) (all-gains (λ k. asked_of k ≡ None) z m ls (refl, tt)) h.speaks
heard-speaks z j m from t l x y ls out back rest (releases number name) w h f u g =
    same-speaks j m from t l x.own.order out back rest (gains z ls m) g (λ n. refl) (all-gains (λ k. asked_of k ≡ None) z m ls tt) h.speaks
heard-speaks z j m from t l x _ ls out back rest (sends_part number name place last pairs given there) w h f u g =
    same-speaks j m from t l x.own.order out back rest (gains z ls m) g (λ n. refl) (all-gains (λ k. asked_of k ≡ None) z m ls (refl, tt)) h.speaks
heard-speaks z j m from t l x _ ls out back rest (sends_none number name place e) w h f u g =
    same-speaks j m from t l x.own.order out back rest (gains z ls m) g (λ n. refl) (all-gains (λ k. asked_of k ≡ None) z m ls tt) h.speaks
heard-speaks z j m from t l x y ls out back rest (installs number leaf mine may) w h f u g =
    same-speaks j m from t l x.own.order out back rest (gains z ls m) g (λ n. refl) (all-gains (λ k. asked_of k ≡ None) z m ls (refl, tt)) h.speaks
heard-speaks z j m from t l x _ ls out back rest (installs_not number leaf may) w h f u g =
    same-speaks j m from t l x.own.order out back rest (gains z ls m) g (λ n. refl) (all-gains (λ k. asked_of k ≡ None) z m ls tt) h.speaks
heard-speaks z j m from t l x y ls out back rest (grants number leaf o finds) w h f u g =
    let leasing = (and_parts (order.is_leasing o.phase) _ finds.passes).0 in
    subst (λ d. Speaks j m t d (Some (order.with_grant o from)) (out ++ gains z [] m) rest) (sym (doing-is o.leaf from leaf))
    (on-hearing z j m from t l number (granted leaf) (doing o.leaf from leaf) o (order.with_grant o from) out back rest g (λ n. refl) finds.same refl refl
    (grant-moves o.name o from m leaf (leasing-is o.phase leasing) (f.waits number leaf o refl finds.there finds.same leasing))
    (at-order j m t rests x.own.order (Some o) out back finds.there h.speaks))
heard-speaks z j m from t l x _ ls out back rest (grants_not number leaf e) w h f u g =
    no-gain z j m t x.own.order out rest
    (not-taken j m from t l number (granted leaf) (order.takes_grant x.own.number leaf) x.own.order x.own.order out back rest refl g (λ o n. refl) e
    (λ same o there its untakes.
    drops-untaken j m t x o number leaf out rest h.stood there untakes (λ i k q e k2. u i k q e (there ∙ k2))) h.speaks)
heard-speaks z j m from t l x y ls out back rest (is_refused number why o finds) w h f u g =
    refused-over z j m from t l number x o out back rest w h g finds.there finds.same finds.passes (λ n. refl)
heard-speaks z j m from t l x _ ls out back rest (refused_not number why e) w h f u g =
    no-gain z j m t x.own.order out rest
    (not-taken j m from t l number refused (λ q. order.is_leasing q.phase) x.own.order x.own.order out back rest refl g (λ o n. refl) e
    (λ same o there its untakes. refusal-taken j m t o out rest untakes) h.speaks)
heard-speaks z j m from t l x y ls out back rest (copies_part number last pairs o finds) w h f u g =
    let phase = source-is from o.phase (and_parts (order.is_source from o.phase) (order.fits o pairs) finds.passes).0 in
    part-heard z j m from t l number x o pairs out back rest o.leaf refl phase g (λ n. refl) finds.same (h.fits o finds.there)
    (at-order j m t rests x.own.order (Some o) out back finds.there h.speaks)
heard-speaks z j m from t l x _ ls out back rest (copies_not number last pairs e) w h f u g =
    no-gain z j m t x.own.order out rest
    (not-taken j m from t l number part (λ q. order.is_source from q.phase && order.fits q pairs) x.own.order x.own.order out back rest refl g (λ o n. refl) e
    (λ same o there its untakes k. drops-part k) h.speaks)
heard-speaks z j m from t l x y ls out back rest (is_installed number name o finds) w h f u g =
    installed-heard z j m from t l number o o.phase out back rest refl finds.passes g (λ n. refl) finds.same (h.fits o finds.there)
    (f.installs number name o refl finds.there finds.same finds.passes) (h.asks.order o finds.there).installs
    (at-order j m t rests x.own.order (Some o) out back finds.there h.speaks)
heard-speaks z j m from t l x _ ls out back rest (installed_not number name e) w h f u g =
    no-gain z j m t x.own.order out rest
    (not-taken j m from t l number installed (λ q. order.is_installing q.phase) x.own.order x.own.order out back rest refl g (λ o n. refl) e
    (λ same o there its untakes. installed-taken j m t o out rest untakes) h.speaks)
heard-speaks z j m from t l x y ls out back rest (learns below other) w h f u g =
    same-speaks j m from t l x.own.order out back rest (gains z ls m) g (λ n. refl) (all-gains (λ k. asked_of k ≡ None) z m ls tt) h.speaks
heard-speaks z j m from t l x _ ls out back rest (hears_other _ e) w h f u g =
    same-speaks j m from t l x.own.order out back rest (gains z ls m) g (λ n. (other-asks x.own.order n l e).1)
    (all-gains (λ k. asked_of k ≡ None) z m ls tt) h.speaks

-- what is wanted of the order afterwards
pub heard-fits : (from : ℕ) (l : Letter) (x y : Seat) (ls : List (NodeNo × Letter)) → Hears from x l ls y → Fits x.own.order → Fits y.own.order
heard-fits from l x y ls (gives number what leaf there free stamp unknown) f = f
heard-fits from l x _ ls (denies number what why) f = f
heard-fits from l x y ls (releases number name) f = f
heard-fits from l x _ ls (sends_part number name place last pairs given there) f = f
heard-fits from l x _ ls (sends_none number name place e) f = f
heard-fits from l x y ls (installs number leaf mine may) f = f
heard-fits from l x _ ls (installs_not number leaf may) f = f
heard-fits from l x y ls (grants number leaf o finds) f =
    let it = f o finds.there in
    that-fits (order.with_grant o from) (record { joins = it.joins; fixed = it.fixed; once = it.once; lists = it.lists })
heard-fits from l x _ ls (grants_not number leaf e) f = f
heard-fits from l x y ls (is_refused number why o finds) f = none-fits
heard-fits from l x _ ls (refused_not number why e) f = f
heard-fits from l x y ls (copies_part number last pairs o finds) f =
    let it = f o finds.there in
    that-fits (record o { copied = o.copied ++ pairs }) (record { joins = it.joins; fixed = it.fixed; once = it.once; lists = it.lists })
heard-fits from l x _ ls (copies_not number last pairs e) f = f
heard-fits from l x y ls (is_installed number name o finds) f =
    let it = f o finds.there in
    that-fits (record o { waiting = without o.waiting from }) (record { joins = it.joins; fixed = it.fixed; once = it.once; lists = it.lists })
heard-fits from l x _ ls (installed_not number name e) f = f
heard-fits from l x y ls (learns below other) f = f
heard-fits from l x _ ls (hears_other _ e) f = f

granted-owed : (q : Option Leaf) (from : NodeNo) (leaf : Leaf) (y : Seat) (out back : List Letter) → Once leaf.list × (has leaf.list from ≡ true)
    → Owed (owed_at q from leaf) y out back
granted-owed None from leaf y out back h = h
granted-owed (Some fixed) from leaf y out back h = tt

pub heard-owed : (from : ℕ) (l : Letter) (x y z : Seat) (ls : List (NodeNo × Letter)) (out back : List Letter) (d : Hears from x l ls y)
    → ((number : ℕ) (leaf : Leaf) → l ≡ letter.Granted number leaf → Once leaf.list × (has leaf.list from ≡ true)) → Owed (owed d) z out back
heard-owed from l x y z ls out back (gives number what leaf there free stamp unknown) f = tt
heard-owed from l x _ z ls out back (denies number what why) f = tt
heard-owed from l x y z ls out back (releases number name) f = tt
heard-owed from l x _ z ls out back (sends_part number name place last pairs given there) f = tt
heard-owed from l x _ z ls out back (sends_none number name place e) f = tt
heard-owed from l x y z ls out back (installs number leaf mine may) f = tt
heard-owed from l x _ z ls out back (installs_not number leaf may) f = tt
heard-owed from l x y z ls out back (grants number leaf o finds) f = granted-owed o.leaf from leaf z out back (f number leaf refl)
heard-owed from l x _ z ls out back (grants_not number leaf e) f = tt
heard-owed from l x y z ls out back (is_refused number why o finds) f = tt
heard-owed from l x _ z ls out back (refused_not number why e) f = tt
heard-owed from l x y z ls out back (copies_part number last pairs o finds) f = tt
heard-owed from l x _ z ls out back (copies_not number last pairs e) f = tt
heard-owed from l x y z ls out back (is_installed number name o finds) f = tt
heard-owed from l x _ z ls out back (installed_not number name e) f = tt
heard-owed from l x y z ls out back (learns below other) f = tt
heard-owed from l x _ z ls out back (hears_other _ e) f = tt

answer-counted : (j from : ℕ) (l : Letter) (y : Seat) (p : NodeNo × Letter) → counting.Answered j from l y p → IsCounted y p.1
answer-counted j from l y p (counting.own s) n e = (s.asked n e).0
answer-counted j from l y p (counting.answers to none asks) n e = absurd (not-none n (sym none ∙ e))

pub side-hears : (z : Sizes) (j m from : ℕ) (t : BrickState) (l : Letter) (x y : Seat) (ls : List (NodeNo × Letter)) (out back rest : List Letter)
    (d : Hears from x l ls y) → Other z j m x.own.known → Side j m t nothing_owed x out back → Told j from l x → IsUnlisted j t l x.own.order
    → Heard from m l back rest → Side j m t (owed d) y (out ++ gains z ls m) rest
side-hears z j m from t l x y ls out back rest d w h f u g =
    let k = counting.kept-heard j from l x y ls d f.said_other h.numbers in
    record {
      speaks = heard-speaks z j m from t l x y ls out back rest d w h f u g;
      stood = heard-stood j from l x y ls d f.asked_other h.stood;
      asks = (kept-heard j from l x y ls d f.within h.asks).next;
      numbers = k.next;
      counted = all-append (IsCounted y) out (gains z ls m)
          (all-map (IsCounted x) (IsCounted y) out (λ i c n e. k.later n i (c n e)) h.counted)
          (all-gains (IsCounted y) z m ls (all-map _ _ ls (λ p c. answer-counted j from l y p c) k.sent));
      fits = heard-fits from l x y ls d h.fits;
      owed = heard-owed from l x y y ls (out ++ gains z ls m) rest d f.lists;
    }
