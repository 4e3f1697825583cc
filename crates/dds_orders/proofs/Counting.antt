use Rattle.std.proofs.Common.{◌≡◌, ℕ, ◌+◌, ◌<◌, ◌++◌, true, false, Some, None, List, [], ◌∷◌, refl, sym, ap, ◌∙◌}
use Rattle.std.proofs.Common.{subst, arith}
use Rattle.std.specs.List.{AllByRecursion}
use Rattle.dds_base.specs.BrickList.{has}
use Rattle.dds_base.specs.Place.{last_key}
use Rattle.dds_base.specs.declared.leaf.Leaf.{Leaf}
use Rattle.dds_base.specs.declared.number.NodeNo.{NodeNo}
use Rattle.dds_core.proofs.Lists.{all-append, all-map}
use Rattle.dds_letters.specs.declared.letter.Letter.{Letter}
use Rattle.dds_letters.specs.declared.letter.Letter.TheVariants as letter
use Rattle.dds_letters.specs.declared.refusal.Wanted.TheVariants as wanted
use Rattle.dds_order_rows.specs.OwnOrder as order
use Rattle.dds_states.specs.Turn.{unknown, unknown_others, without}
use Rattle.dds_states.specs.declared.brick_state.OpenOrder.{OpenOrder}
use Rattle.dds_states.specs.declared.brick_state.OrderPhase.{OrderPhase}
use Rattle.dds_states.specs.declared.brick_state.OrderPhase.TheVariants.{Copying, Installing, Leasing}
use Rattle.dds_states.specs.declared.brick_state.Task.TheVariants.{Join, Split}
use Rattle.dds_orders.proofs.Deeds.{Deed, Path, Seat, asks_more, closes, copies, drops, fixes, joins, loses, makes, new_order, over, pends, says, serves}
use Rattle.dds_orders.proofs.Deeds.{split_asked, splits, step, takes, widened}
use Rattle.dds_orders.proofs.Numbers.{Counted, GoesOn, Kept, Later, Numbering, OrderOk, Sent, closed-later, closed-ok, has-ne, has-without, ne-has}
use Rattle.dds_orders.proofs.Numbers.{none-append, none-others, none-unknown, on-ok, order-later, other-sent, same-later, same-ok, sent-each, sent-later}
use Rattle.dds_orders.proofs.Numbers.{sent-one, the-order}
use Rattle.dds_orders.proofs.Turns.{Hears, copies_not, denies, gives, grants, grants_not, hears_other, installed_not, installs, installs_not}
use Rattle.dds_orders.proofs.Turns.{is_installed, is_refused, learns, refused_not, releases, sends_none, sends_part}
use Rattle.dds_orders.proofs.Turns.{copies as copies_part}
use Rattle.dds_orders.specs.Law.{IsOf, asked_of, said_of}

-- Each deed of a brick keeps what is so of the numbers of its orders.

-- a deed that changes nothing of the open order, and sends no letter of one
kept-same : (me : ℕ) (x y : Seat) → y.own.number ≡ x.own.number → y.own.order ≡ x.own.order → y.orders ≡ x.orders → Numbering me x → Kept me x [] y
kept-same me x y n e f h = record { next = same-ok me x y n e f h; later = same-later x y e (sym f); sent = tt }

-- an order begins
new-later : (x y : Seat) (p : OpenOrder) → y.own.order ≡ Some p → p.number ≡ x.orders → y.orders ≡ x.orders + 1 → Later x y
new-later x y p e first more number l c =
    let lt = c.given in
    record {
      given = omega (arith, lt, more);
      of = λ o f n.
          let is : p ≡ o = the-order p o (sym e ∙ f) in
          let same : x.orders ≡ number = sym first ∙ ap (λ (q : OpenOrder). q.number) is ∙ n in
          absurd (omega (arith, lt, same));
    }

pub not-none : {X : Type 0} (x : X) → None ≡ Some x → ⊥
not-none x e = cc

leasing-only : (n : ℕ) → Leasing ≡ Copying n → ⊥
leasing-only n e = cc

installing-only : (made : Leaf) (n : ℕ) → Installing made ≡ Copying n → ⊥
installing-only made n e = cc

not-before : (p : OrderPhase) (made : Leaf) → order.is_installing p ≡ false → p ≡ Installing made → ⊥
not-before p made e f = let no : true ≡ false = sym (ap order.is_installing f) ∙ e in cc

pub copying-is : (a b : ℕ) → Copying a ≡ Copying b → a ≡ b
copying-is a b e = cc

-- the order that is open, in a letter of it
of-it : (y : Seat) (p : OpenOrder) (number : ℕ) (l : Letter) → y.own.order ≡ Some p → number < y.orders → IsOf p l → Counted y number l
of-it y p number l e lt h = record { given = lt; of = λ o f n. subst (λ (q : OpenOrder). IsOf q l) (the-order p o (sym e ∙ f)) h }

-- and in one of an order that is over
over-it : (y : Seat) (number : ℕ) (l : Letter) → y.own.order ≡ None → number < y.orders → Counted y number l
over-it y number l e lt = record { given = lt; of = λ o f n. absurd (not-none o (sym e ∙ f)) }

pub kept-deed : (me : ℕ) (x y : Seat) (ls : List (NodeNo × Letter)) → Deed x ls y → Numbering me x → Kept me x ls y
kept-deed me x _ ls (says _ others) h =
    record {
      next = h;
      later = λ number l c. c;
      sent = all-map _ (Sent me x) ls (λ p k. other-sent me x p k) others;
    }
kept-deed me x y ls (takes mine leaf may) h = kept-same me x y refl refl refl h
kept-deed me x y ls (pends p may) h = kept-same me x y refl refl refl h
kept-deed me x y ls (drops txn) h = kept-same me x y refl refl refl h
kept-deed me x y ls (joins name via may) h =
    let o = new_order x (Join via) name None (via ∷ []) in
    let more : x.orders < x.orders + 1 = omega arith in
    let ne : via ≡ me → ⊥ = (λ e. may.other (e ∙ sym h.number)) in
    record {
      next = on-ok me y o h.number refl (record { given = more; asked = ne-has via me ne; granted = refl; source = λ n e. absurd (leasing-only n e) });
      later = new-later x y o refl refl refl;
      sent = (
        sent-one me y via x.orders (letter.Lease x.orders (wanted.Name name)) refl refl
            (of-it y o x.orders (letter.Lease x.orders (wanted.Name name)) refl more refl) ne,
        tt,
      );
    }
kept-deed me x y ls (splits leaf may) h =
    let o = new_order x Split leaf.name (Some leaf) (split_asked x leaf) in
    let more : x.orders < x.orders + 1 = omega arith in
    let none : has (split_asked x leaf) me ≡ false = subst (λ i. has (split_asked x leaf) i ≡ false) h.number
    (has-without (unknown leaf.list x.own.known) x.own.number) in
    record {
      next = on-ok me y o h.number refl (record { given = more; asked = none; granted = refl; source = λ n e. absurd (leasing-only n e) });
      later = new-later x y o refl refl refl;
      sent = sent-each me y (split_asked x leaf) x.orders (letter.Lease x.orders (wanted.Leaf leaf)) refl refl
          (of-it y o x.orders (letter.Lease x.orders (wanted.Leaf leaf)) refl more refl) none;
    }
kept-deed me x y ls (loses o n e k) h =
    let p = record o { waiting = without o.waiting n } in
    let ok = h.order o e in
    record {
      next = on-ok me y p h.number refl (record { given = ok.given; asked = ok.asked; granted = ok.granted; source = ok.source });
      later = order-later x y o p e refl refl
          (record { number = refl; name = refl; leaf = λ l f. f; leasing = λ f. f; made = λ l f. f });
      sent = tt;
    }
kept-deed me x y ls (fixes o from leaf e may) h =
    let p = widened x o from leaf in
    let ok = h.order o e in
    let apart : has leaf.list me ≡ false = subst (λ i. has leaf.list i ≡ false) h.number may.may.apart in
    let none = none-others leaf.list from x.own.known me apart in
    record {
      next = on-ok me y p h.number refl (record {
        given = ok.given;
        asked = none-append o.asked (unknown_others leaf.list from x.own.known) me ok.asked none;
        granted = ok.granted;
        source = ok.source;
      });
      later = order-later x y o p e refl refl
          (record { number = refl; name = refl; leaf = λ l f. absurd (not-none l (sym may.may.none ∙ f)); leasing = λ f. f; made = λ l f. f });
      sent = sent-each me y (unknown_others leaf.list from x.own.known) o.number (letter.Lease o.number (wanted.Leaf leaf)) refl refl
          (of-it y p o.number (letter.Lease o.number (wanted.Leaf leaf)) refl ok.given refl) none;
    }
kept-deed me x y ls (copies o leaf source e may) h =
    let p = record o { copied = []; phase = Copying source } in
    let ok = h.order o e in
    let ne = has-ne o.granted source me may.granted ok.granted in
    record {
      next = on-ok me y p h.number refl (record {
        given = ok.given;
        asked = ok.asked;
        granted = ok.granted;
        source = λ n f. subst (λ i. i ≡ me → ⊥) (copying-is source n f) ne;
      });
      later = order-later x y o p e refl refl
          (record { number = refl; name = refl; leaf = λ l f. f; leasing = λ f. refl; made = λ l f. absurd (not-before o.phase l may.ready.before f) });
      sent = (
        sent-one me y source o.number (letter.CopyAsk o.number o.name None) refl refl
            (of-it y p o.number (letter.CopyAsk o.number o.name None) refl ok.given (refl, refl)) ne,
        tt,
      );
    }
kept-deed me x _ ls (asks_more o source e phase) h =
    let ok = h.order o e in
    let place = last_key None o.copied in
    record {
      next = h;
      later = λ number l c. c;
      sent = (
        sent-one me x source o.number (letter.CopyAsk o.number o.name place) refl refl
            (of-it x o o.number (letter.CopyAsk o.number o.name place) e ok.given (refl, ap order.is_leasing phase)) (ok.source source phase),
        tt,
      );
    }
kept-deed me x y ls (makes o made nodes e may) h =
    let p = record o { waiting = nodes; phase = Installing made } in
    let ok = h.order o e in
    let mine : has nodes x.own.number ≡ false = ap (λ ns. has ns x.own.number) may.nodes_are
    ∙ has-without (order.parting may.may.state o may.may.leaf) x.own.number in
    let none : has nodes me ≡ false = subst (λ i. has nodes i ≡ false) h.number mine in
    record {
      next = on-ok me y p h.number refl (record {
        given = ok.given;
        asked = ok.asked;
        granted = ok.granted;
        source = λ n f. absurd (installing-only made n f);
      });
      later = order-later x y o p e refl refl
          (record { number = refl; name = refl; leaf = λ l f. f; leasing = λ f. refl; made = λ l f. absurd (not-before o.phase l may.ready.before f) });
      sent = sent-each me y nodes o.number (letter.Install o.number made) refl refl
          (of-it y p o.number (letter.Install o.number made) refl ok.given refl) none;
    }
kept-deed me x y ls (closes o e) h =
    let ok = h.order o e in
    record {
      next = closed-ok me y h.number refl;
      later = closed-later x y refl refl;
      sent = sent-each me y (unknown o.asked x.own.known) o.number (letter.Release o.number o.name) refl refl
          (over-it y o.number (letter.Release o.number o.name) refl ok.given) (none-unknown o.asked x.own.known me ok.asked);
    }
kept-deed me x y ls (serves o made e phase) h =
    let ok = h.order o e in
    record {
      next = closed-ok me y h.number refl;
      later = closed-later x y refl refl;
      sent = sent-each me y (unknown o.granted x.own.known) o.number (letter.Release o.number o.name) refl refl
          (over-it y o.number (letter.Release o.number o.name) refl ok.given) (none-unknown o.granted x.own.known me ok.granted);
    }

pub kept-path : (me : ℕ) (x z : Seat) (ls : List (NodeNo × Letter)) → Path x ls z → Numbering me x → Kept me x ls z
kept-path me x _ _ (over _) h = record { next = h; later = λ number l c. c; sent = tt }
kept-path me x z _ (step _ y _ ls ms d w) h =
    let a = kept-deed me x y ls d h in
    let b = kept-path me y z ms w a.next in
    record {
      next = b.next;
      later = λ number l c. b.later number l (a.later number l c);
      sent = all-append (Sent me z) ls ms (sent-later me y z ls b.later a.sent) b.sent;
    }

-- what a brick sends as it hears a letter is a letter of its own, or the answer to a letter that asks it
pub data Answered (me from : ℕ) (l : Letter) (y : Seat) (p : NodeNo × Letter) : Type 0 where
  own : Sent me y p → Answered me from l y p
  answers : p.0 ≡ from → asked_of p.1 ≡ None → ((number : ℕ) → said_of p.1 ≡ Some number → asked_of l ≡ Some number) → Answered me from l y p

pub record KeptBy (me from : ℕ) (l : Letter) (x : Seat) (ls : List (NodeNo × Letter)) (y : Seat) : Type 0 where
  pub next : Numbering me y
  pub later : Later x y
  pub sent : AllByRecursion (Answered me from l y) ls

heard-same : (me from : ℕ) (l : Letter) (x y : Seat) (ls : List (NodeNo × Letter)) → y.own.number ≡ x.own.number → y.own.order ≡ x.own.order
    → y.orders ≡ x.orders → AllByRecursion (Answered me from l y) ls → Numbering me x → KeptBy me from l x ls y
heard-same me from l x y ls n e f s h = record { next = same-ok me x y n e f h; later = same-later x y e (sym f); sent = s }

heard-on : (me from : ℕ) (l : Letter) (x y : Seat) (o p : OpenOrder) → x.own.order ≡ Some o → y.own.order ≡ Some p → y.own.number ≡ me
    → x.orders ≡ y.orders → GoesOn o p → OrderOk me y.orders p → KeptBy me from l x [] y
heard-on me from l x y o p e f n same g ok = record { next = on-ok me y p n f ok; later = order-later x y o p e f same g; sent = tt }

pub kept-heard : (me from : ℕ) (l : Letter) (x y : Seat) (ls : List (NodeNo × Letter)) → Hears from x l ls y
    → ((number : ℕ) → said_of l ≡ Some number → from ≡ me → ⊥) → Numbering me x → KeptBy me from l x ls y
kept-heard me from l x y ls (gives number what leaf there free stamp unknown) ne h =
    heard-same me from l x y ls refl refl refl (answers refl refl (λ n e. e), tt) h
kept-heard me from l x y ls (denies number what why) ne h = heard-same me from l x y ls refl refl refl (answers refl refl (λ n e. e), tt) h
kept-heard me from l x y ls (releases number name) ne h = heard-same me from l x y ls refl refl refl tt h
kept-heard me from l x y ls (sends_part number name place last pairs given there) ne h =
    heard-same me from l x y ls refl refl refl (answers refl refl (λ n e. e), tt) h
kept-heard me from l x y ls (sends_none number name place e) ne h = heard-same me from l x y ls refl refl refl tt h
kept-heard me from l x y ls (installs number leaf mine may) ne h = heard-same me from l x y ls refl refl refl (answers refl refl (λ n e. e), tt) h
kept-heard me from l x y ls (installs_not number leaf f) ne h = heard-same me from l x y ls refl refl refl tt h
kept-heard me from l x y ls (grants number leaf o f) ne h =
    let ok = h.order o f.there in
    heard-on me from l x y o (order.with_grant o from) f.there refl h.number refl
    (record { number = refl; name = refl; leaf = λ k e. e; leasing = λ e. e; made = λ k e. e })
    (record {
      given = ok.given;
      asked = ok.asked;
      granted = none-append o.granted (from ∷ []) me ok.granted (ne-has from me (ne number refl));
      source = ok.source;
    })
kept-heard me from l x y ls (grants_not number leaf e) ne h = heard-same me from l x y ls refl refl refl tt h
kept-heard me from l x y ls (is_refused number why o f) ne h =
    let ok = h.order o f.there in
    record {
      next = closed-ok me y h.number refl;
      later = closed-later x y refl refl;
      sent = all-map (Sent me y) (Answered me from l y) ls (λ p s. own s)
          (sent-each me y (unknown o.asked x.own.known) o.number (letter.Release o.number o.name) refl refl
          (over-it y o.number (letter.Release o.number o.name) refl ok.given) (none-unknown o.asked x.own.known me ok.asked));
    }
kept-heard me from l x y ls (refused_not number why e) ne h = heard-same me from l x y ls refl refl refl tt h
kept-heard me from l x y ls (copies_part number last pairs o f) ne h =
    let ok = h.order o f.there in
    heard-on me from l x y o (record o { copied = o.copied ++ pairs }) f.there refl h.number refl
    (record { number = refl; name = refl; leaf = λ k e. e; leasing = λ e. e; made = λ k e. e })
    (record { given = ok.given; asked = ok.asked; granted = ok.granted; source = ok.source })
kept-heard me from l x y ls (copies_not number last pairs e) ne h = heard-same me from l x y ls refl refl refl tt h
kept-heard me from l x y ls (is_installed number name o f) ne h =
    let ok = h.order o f.there in
    heard-on me from l x y o (record o { waiting = without o.waiting from }) f.there refl h.number refl
    (record { number = refl; name = refl; leaf = λ k e. e; leasing = λ e. e; made = λ k e. e })
    (record { given = ok.given; asked = ok.asked; granted = ok.granted; source = ok.source })
kept-heard me from l x y ls (installed_not number name e) ne h = heard-same me from l x y ls refl refl refl tt h
kept-heard me from l x y ls (learns below other) ne h = heard-same me from l x y ls refl refl refl tt h
kept-heard me from l x y ls (hears_other _ e) ne h = heard-same me from l x y ls refl refl refl tt h
