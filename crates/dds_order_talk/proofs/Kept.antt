use Rattle.std.proofs.Common.{◌≡◌, ℕ, ◌+◌, ◌<◌, ◌==◌, ◌&&◌, ◌||◌, inl, inr, Bool, true, false, not, Some, None, List, [], ◌∷◌, refl, sym, ap}
use Rattle.std.proofs.Common.{◌∙◌, subst, arith}
use Rattle.dds_base.specs.BrickList.{has}
use Rattle.dds_base.specs.declared.leaf.Leaf.{Leaf}
use Rattle.dds_base.specs.declared.number.NodeNo.{NodeNo}
use Rattle.dds_brick_rows.specs.Refusal.{is_join}
use Rattle.dds_core.proofs.Lists.{all-append, all-map}
use Rattle.dds_groups.specs.Leaves.{live}
use Rattle.dds_base.specs.NodeSet.{has_node}
use Rattle.dds_letters.specs.declared.letter.Letter.{Letter}
use Rattle.dds_order_rows.specs.OwnOrder as order
use Rattle.dds_orders.proofs.Counting.{copying-is, not-none}
use Rattle.dds_states.specs.Turn.{unknown, unknown_others, without}
use Rattle.dds_states.specs.declared.brick_state.OpenOrder.{OpenOrder}
use Rattle.dds_states.specs.declared.brick_state.OrderPhase.{OrderPhase}
use Rattle.dds_states.specs.declared.brick_state.OrderPhase.TheVariants.{Copying, Installing, Leasing}
use Rattle.dds_states.specs.declared.brick_state.Task.TheVariants.{Join, Split}
use Rattle.dds_orders.proofs.Deeds.{Deed, MayBegin, Path, Seat, asks_more, closes, copies, drops, fixes, joins, loses, makes, new_order, over, pends, says}
use Rattle.dds_orders.proofs.Deeds.{serves, split_asked, splits, step, takes, widened}
use Rattle.dds_orders.proofs.Numbers.{has-without, none-append, none-others}
use Rattle.dds_order_talk.proofs.Members.{Asks, Kept, Sent, append-parts, closed-later, closed-ok, has-passes, in-first, in-second}
use Rattle.dds_order_talk.proofs.Members.{in-unknown, in-without, it-has, ne-one, new-later, not-has, of-it, on-ok, one-only, order-later}
use Rattle.dds_order_talk.proofs.Members.{other-sent, over-it, same-later, same-number, same-ok, sent-each, sent-later, sent-one}

-- Each deed of a brick keeps whom its open order has to do with.

-- phases
leasing-not-copying : (n : ℕ) → Leasing ≡ Copying n → ⊥
leasing-not-copying n e = cc

leasing-not-made : (made : Leaf) → Leasing ≡ Installing made → ⊥
leasing-not-made made e = cc

copying-not-made : (n : ℕ) (made : Leaf) → Copying n ≡ Installing made → ⊥
copying-not-made n made e = cc

made-not-copying : (made : Leaf) (n : ℕ) → Installing made ≡ Copying n → ⊥
made-not-copying made n e = cc

pub phase-made : (p : OrderPhase) (made : Leaf) → order.is_leasing p ≡ true → p ≡ Installing made → ⊥
phase-made p made h e = let no : true ≡ false = sym h ∙ ap order.is_leasing e in cc

pub phase-copies : (p : OrderPhase) (n : ℕ) → order.is_leasing p ≡ true → p ≡ Copying n → ⊥
phase-copies p n h e = let no : true ≡ false = sym h ∙ ap order.is_leasing e in cc

pub phase-installs : (p : OrderPhase) → order.is_installing p ≡ true → order.is_leasing p ≡ true → ⊥
phase-installs Leasing h k = cc
phase-installs (Copying source) h k = cc
phase-installs (Installing made) h k = cc

-- who takes part, other than the brick itself, has granted
takes-granted : (me n : ℕ) (g j : Bool) → (n ≡ me → ⊥) → (g || (j && n == me)) ≡ true → g ≡ true
takes-granted me n true j ne h = refl
takes-granted me n false true ne h = absurd (ne (same-number n me h))
takes-granted me n false false ne h = let no : false ≡ true = h in cc

pub begun-granted : (x : Seat) (o : OpenOrder) (made : Leaf) (nodes : List NodeNo) → MayBegin x o made nodes → (n : ℕ) → has nodes n ≡ true
    → has o.granted n ≡ true
begun-granted x o made nodes may n h =
    let s = may.may.state in
    let leaf = may.may.leaf in
    let r = in-without (order.parting s o leaf) x.own.number n (ap (λ ns. has ns n) (sym may.nodes_are) ∙ h) in
    let p = has-passes (order.takes_part s o) (live leaf.list (has_node s.known)) n r.1 in
    takes-granted s.number n (has o.granted n) (not (is_join o.task)) (λ e. r.0 (e ∙ may.may.number)) p.0

-- each deed keeps it
kept-same : (me : ℕ) (x y : Seat) → y.own.number ≡ x.own.number → y.own.order ≡ x.own.order → y.orders ≡ x.orders → Asks me x → Kept me x [] y
kept-same me x y n e f h = record { next = same-ok me x y n e f h; later = same-later x y e (sym f); sent = tt }

pub kept-deed : (me : ℕ) (x y : Seat) (ls : List (NodeNo × Letter)) → Deed x ls y → Asks me x → Kept me x ls y
kept-deed me x _ ls (says _ others) h =
    record { next = h; later = λ number n c. c; sent = all-map _ (Sent x) ls (λ p k. other-sent x p k) others }
kept-deed me x y ls (takes mine leaf may) h = kept-same me x y refl refl refl h
kept-deed me x y ls (pends p may) h = kept-same me x y refl refl refl h
kept-deed me x y ls (drops txn) h = kept-same me x y refl refl refl h
kept-deed me x y ls (joins name via may) h =
    let o = new_order x (Join via) name None (via ∷ []) in
    let more : x.orders < x.orders + 1 = omega arith in
    record {
      next = on-ok me y o h.number refl (record {
        given = more;
        itself = ne-one via me (λ e. may.other (e ∙ sym h.number));
        granted = λ n k. let no : false ≡ true = k in cc;
        leases = λ n l k. (k, refl);
        source = λ n e. absurd (leasing-not-copying n e);
        installs = λ made n e k. absurd (leasing-not-made made e);
        first = λ a b e k j. one-only via a k ∙ sym (one-only via b j);
      });
      later = new-later x y o refl refl refl;
      sent = (sent-one y via x.orders _ refl refl (of-it y o x.orders via refl more (it-has via [])), tt);
    }
kept-deed me x y ls (splits leaf may) h =
    let asked = split_asked x leaf in
    let o = new_order x Split leaf.name (Some leaf) asked in
    let more : x.orders < x.orders + 1 = omega arith in
    let none : has asked me ≡ false = subst (λ i. has asked i ≡ false) h.number (has-without (unknown leaf.list x.own.known) x.own.number) in
    record {
      next = on-ok me y o h.number refl (record {
        given = more;
        itself = none;
        granted = λ n k. let no : false ≡ true = k in cc;
        leases = λ n l k. (k, refl);
        source = λ n e. absurd (leasing-not-copying n e);
        installs = λ made n e k. absurd (leasing-not-made made e);
        first = λ a b e k j. absurd (not-none leaf (sym e));
      });
      later = new-later x y o refl refl refl;
      sent = sent-each y asked x.orders _ refl refl (λ n k. of-it y o x.orders n refl more k);
    }
kept-deed me x y ls (loses o m e known) h =
    let p = record o { waiting = without o.waiting m } in
    let ok = h.order o e in
    record {
      next = on-ok me y p h.number refl (record {
        given = ok.given;
        itself = ok.itself;
        granted = ok.granted;
        leases = λ n l k. ok.leases n l (in-without o.waiting m n k).1;
        source = ok.source;
        installs = λ made n f k. ok.installs made n f (in-without o.waiting m n k).1;
        first = ok.first;
      });
      later = order-later x y o p e refl refl refl (λ n k. k);
      sent = tt;
    }
kept-deed me x y ls (fixes o from leaf e may) h =
    let p = widened x o from leaf in
    let ok = h.order o e in
    let new = unknown_others leaf.list from x.own.known in
    let apart : has leaf.list me ≡ false = subst (λ i. has leaf.list i ≡ false) h.number may.may.apart in
    record {
      next = on-ok me y p h.number refl (record {
        given = ok.given;
        itself = none-append o.asked new me ok.itself (none-others leaf.list from x.own.known me apart);
        granted = λ n k. in-first o.asked new n (ok.granted n k);
        leases = λ n l k. elim (append-parts o.waiting new n k) [
          | inl a ↦ (let was = ok.leases n l a in (in-first o.asked new n was.0, was.1))
          | inr a ↦ (
            in-second o.asked new n a,
            not-has o.granted n
                (λ g. in-unknown leaf.list from x n a (ok.first n from may.may.none (ok.granted n g) (ok.granted from may.granted))),
          )
        ];
        source = ok.source;
        installs = λ made n f k. absurd (phase-made o.phase made may.leasing f);
        first = λ a b f k j. absurd (not-none leaf (sym f));
      });
      later = order-later x y o p e refl refl refl (λ n k. in-first o.asked new n k);
      sent = sent-each y new o.number _ refl refl (λ n k. of-it y p o.number n refl ok.given (in-second o.asked new n k));
    }
kept-deed me x y ls (copies o leaf source e may) h =
    let p = record o { copied = []; phase = Copying source } in
    let ok = h.order o e in
    record {
      next = on-ok me y p h.number refl (record {
        given = ok.given;
        itself = ok.itself;
        granted = ok.granted;
        leases = λ n l k. let no : false ≡ true = l in cc;
        source = λ n f. subst (λ i. has o.granted i ≡ true) (copying-is source n f) may.granted;
        installs = λ made n f k. absurd (copying-not-made source made f);
        first = ok.first;
      });
      later = order-later x y o p e refl refl refl (λ n k. k);
      sent = (sent-one y source o.number _ refl refl (of-it y p o.number source refl ok.given (ok.granted source may.granted)), tt);
    }
kept-deed me x _ ls (asks_more o source e phase) h =
    let ok = h.order o e in
    record {
      next = h;
      later = λ number n c. c;
      sent = (sent-one x source o.number _ refl refl (of-it x o o.number source e ok.given (ok.granted source (ok.source source phase))), tt);
    }
kept-deed me x y ls (makes o made nodes e may) h =
    let p = record o { waiting = nodes; phase = Installing made } in
    let ok = h.order o e in
    let gave = begun-granted x o made nodes may in
    record {
      next = on-ok me y p h.number refl (record {
        given = ok.given;
        itself = ok.itself;
        granted = ok.granted;
        leases = λ n l k. let no : false ≡ true = l in cc;
        source = λ n f. absurd (made-not-copying made n f);
        installs = λ m n f k. gave n k;
        first = ok.first;
      });
      later = order-later x y o p e refl refl refl (λ n k. k);
      sent = sent-each y nodes o.number _ refl refl (λ n k. of-it y p o.number n refl ok.given (ok.granted n (gave n k)));
    }
kept-deed me x y ls (closes o e) h =
    let ok = h.order o e in
    record {
      next = closed-ok me y h.number refl;
      later = closed-later x y refl refl;
      sent = sent-each y (unknown o.asked x.own.known) o.number _ refl refl (λ n k. over-it y o.number n refl ok.given);
    }
kept-deed me x y ls (serves o made e phase) h =
    let ok = h.order o e in
    record {
      next = closed-ok me y h.number refl;
      later = closed-later x y refl refl;
      sent = sent-each y (unknown o.granted x.own.known) o.number _ refl refl (λ n k. over-it y o.number n refl ok.given);
    }

pub kept-path : (me : ℕ) (x z : Seat) (ls : List (NodeNo × Letter)) → Path x ls z → Asks me x → Kept me x ls z
kept-path me x _ _ (over _) h = record { next = h; later = λ number n c. c; sent = tt }
kept-path me x z _ (step _ y _ ls ms d w) h =
    let a = kept-deed me x y ls d h in
    let b = kept-path me y z ms w a.next in
    record {
      next = b.next;
      later = λ number n c. b.later number n (a.later number n c);
      sent = all-append (Sent z) ls ms (sent-later y z ls b.later a.sent) b.sent;
    }
