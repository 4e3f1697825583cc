use Rattle.std.proofs.Common.{◌≡◌, ℕ, ◌++◌, inl, inr, true, Some, None, List, [], ◌∷◌, refl, sym, ap}
use Rattle.std.proofs.Common.{◌∙◌}
use Rattle.std.proofs.lemmas.Bool.{and_parts}
use Rattle.std.specs.List.{AllByRecursion}
use Rattle.dds_base.specs.BrickList.{has}
use Rattle.dds_base.specs.declared.number.NodeNo.{NodeNo}
use Rattle.dds_core.proofs.Lists.{all-map}
use Rattle.dds_letters.specs.declared.letter.Letter.{Letter}
use Rattle.dds_order_rows.specs.OwnOrder as order
use Rattle.dds_states.specs.Turn.{unknown, without}
use Rattle.dds_states.specs.declared.brick_state.OpenOrder.{OpenOrder}
use Rattle.dds_orders.proofs.Deeds.{Seat}
use Rattle.dds_orders.proofs.Numbers.{none-append}
use Rattle.dds_orders.proofs.Turns.{Hears, copies_not, denies, gives, grants, grants_not, hears_other, installed_not, installs, installs_not}
use Rattle.dds_orders.proofs.Turns.{is_installed, is_refused, learns, refused_not, releases, sends_none, sends_part}
use Rattle.dds_orders.proofs.Turns.{copies as copies_part}
use Rattle.dds_orders.specs.Law.{asked_of, said_of}
use Rattle.dds_order_talk.proofs.Members.{AskedOk, Asks, Later, Sent, Within, append-parts, closed-later, closed-ok}
use Rattle.dds_order_talk.proofs.Members.{in-without, ne-one, on-ok, one-only, order-later}
use Rattle.dds_order_talk.proofs.Members.{over-it, same-later, same-ok, sent-each}
use Rattle.dds_order_talk.proofs.Kept.{phase-made, phase-copies, phase-installs}

-- Each letter that a brick hears keeps whom its open order has to do with.

-- what a brick sends as it hears a letter is a letter of its own, or the answer to a letter that asks it
pub data Answered (from : ℕ) (l : Letter) (y : Seat) (p : NodeNo × Letter) : Type 0 where
  own : Sent y p → Answered from l y p
  answers : p.0 ≡ from → asked_of p.1 ≡ None → ((number : ℕ) → said_of p.1 ≡ Some number → asked_of l ≡ Some number) → Answered from l y p

pub record KeptBy (me from : ℕ) (l : Letter) (x : Seat) (ls : List (NodeNo × Letter)) (y : Seat) : Type 0 where
  pub next : Asks me y
  pub later : Later x y
  pub sent : AllByRecursion (Answered from l y) ls

heard-same : (me from : ℕ) (l : Letter) (x y : Seat) (ls : List (NodeNo × Letter)) → y.own.number ≡ x.own.number → y.own.order ≡ x.own.order
    → y.orders ≡ x.orders → AllByRecursion (Answered from l y) ls → Asks me x → KeptBy me from l x ls y
heard-same me from l x y ls n e f s h = record { next = same-ok me x y n e f h; later = same-later x y e (sym f); sent = s }

heard-on : (me from : ℕ) (l : Letter) (x y : Seat) (o p : OpenOrder) → x.own.order ≡ Some o → y.own.order ≡ Some p → y.own.number ≡ me
    → x.orders ≡ y.orders → p.number ≡ o.number → p.asked ≡ o.asked → AskedOk me y.orders p → KeptBy me from l x [] y
heard-on me from l x y o p e f n same is asked ok =
    record { next = on-ok me y p n f ok; later = order-later x y o p e f same is (λ m k. ap (λ ns. has ns m) asked ∙ k); sent = tt }

-- a letter from a member says a number that the brick gave, and if that order is open, the member was asked
pub kept-heard : (me from : ℕ) (l : Letter) (x y : Seat) (ls : List (NodeNo × Letter)) → Hears from x l ls y
    → ((number : ℕ) → said_of l ≡ Some number → Within x number from) → Asks me x → KeptBy me from l x ls y
kept-heard me from l x y ls (gives number what leaf there free stamp unknown) f h =
    heard-same me from l x y ls refl refl refl (answers refl refl (λ n e. e), tt) h
kept-heard me from l x y ls (denies number what why) f h = heard-same me from l x y ls refl refl refl (answers refl refl (λ n e. e), tt) h
kept-heard me from l x y ls (releases number name) f h = heard-same me from l x y ls refl refl refl tt h
kept-heard me from l x y ls (sends_part number name place last pairs given there) f h =
    heard-same me from l x y ls refl refl refl (answers refl refl (λ n e. e), tt) h
kept-heard me from l x y ls (sends_none number name place e) f h = heard-same me from l x y ls refl refl refl tt h
kept-heard me from l x y ls (installs number leaf mine may) f h = heard-same me from l x y ls refl refl refl (answers refl refl (λ n e. e), tt) h
kept-heard me from l x y ls (installs_not number leaf may_not) f h = heard-same me from l x y ls refl refl refl tt h
kept-heard me from l x y ls (grants number leaf o finds) f h =
    let ok = h.order o finds.there in
    let asked : has o.asked from ≡ true = (f number refl).of o finds.there finds.same in
    let leasing = (and_parts (order.is_leasing o.phase) _ finds.passes).0 in
    heard-on me from l x y o (order.with_grant o from) finds.there refl h.number refl refl refl (record {
      given = ok.given;
      itself = ok.itself;
      granted = λ n k. elim (append-parts o.granted (from ∷ []) n k) [
        | inl a ↦ ok.granted n a
        | inr a ↦ ap (has o.asked) (one-only from n a) ∙ asked
      ];
      leases = λ n l k.
          let r = in-without o.waiting from n k in
          let was = ok.leases n l r.1 in
          (was.0, none-append o.granted (from ∷ []) n was.1 (ne-one from n (λ e. r.0 (sym e))));
      source = λ n e. absurd (phase-copies o.phase n leasing e);
      installs = λ made n e k. absurd (phase-made o.phase made leasing e);
      first = ok.first;
    })
kept-heard me from l x y ls (grants_not number leaf e) f h = heard-same me from l x y ls refl refl refl tt h
kept-heard me from l x y ls (is_refused number why o finds) f h =
    let ok = h.order o finds.there in
    record {
      next = closed-ok me y h.number refl;
      later = closed-later x y refl refl;
      sent = all-map (Sent y) (Answered from l y) ls (λ p s. own s)
          (sent-each y (unknown o.asked x.own.known) o.number _ refl refl (λ n k. over-it y o.number n refl ok.given));
    }
kept-heard me from l x y ls (refused_not number why e) f h = heard-same me from l x y ls refl refl refl tt h
kept-heard me from l x y ls (copies_part number last pairs o finds) f h =
    let ok = h.order o finds.there in
    heard-on me from l x y o (record o { copied = o.copied ++ pairs }) finds.there refl h.number refl refl refl (record {
      given = ok.given;
      itself = ok.itself;
      granted = ok.granted;
      leases = ok.leases;
      source = ok.source;
      installs = ok.installs;
      first = ok.first;
    })
kept-heard me from l x y ls (copies_not number last pairs e) f h = heard-same me from l x y ls refl refl refl tt h
kept-heard me from l x y ls (is_installed number name o finds) f h =
    let ok = h.order o finds.there in
    heard-on me from l x y o (record o { waiting = without o.waiting from }) finds.there refl h.number refl refl refl (record {
      given = ok.given;
      itself = ok.itself;
      granted = ok.granted;
      leases = λ n l k. absurd (phase-installs o.phase finds.passes l);
      source = ok.source;
      installs = λ made n e k. ok.installs made n e (in-without o.waiting from n k).1;
      first = ok.first;
    })
kept-heard me from l x y ls (installed_not number name e) f h = heard-same me from l x y ls refl refl refl tt h
kept-heard me from l x y ls (learns below other) f h = heard-same me from l x y ls refl refl refl tt h
kept-heard me from l x y ls (hears_other _ e) f h = heard-same me from l x y ls refl refl refl tt h
