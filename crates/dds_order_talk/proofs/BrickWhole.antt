use Rattle.std.proofs.Common.{◌≡◌, ℕ, ◌==◌, ◌&&◌, ◌||◌, ◌++◌, Bool, true, false, Some, List, [], ◌∷◌, refl, sym, ap, ◌∙◌, subst, append_assoc}
use Rattle.std.proofs.lemmas.List.{append-nil}
use Rattle.dds_base.specs.BrickList.{has}
use Rattle.dds_base.specs.Name.{Name, same_name}
use Rattle.dds_base.specs.NodeSet.{has_node}
use Rattle.dds_base.specs.declared.leaf.Leaf.{Leaf}
use Rattle.dds_base.specs.declared.number.NodeNo.{NodeNo}
use Rattle.dds_core.proofs.Known.{has-with}
use Rattle.dds_letters.specs.declared.letter.Letter.{Letter}
use Rattle.dds_letters.specs.declared.letter.Letter.TheVariants as letter
use Rattle.dds_net.proofs.Projections.{gains-append}
use Rattle.dds_net.specs.Net.{Sizes, gains}
use Rattle.dds_orders.proofs.Deeds.{Path, Seat, nothing_owed, over, seat, step}
use Rattle.dds_orders.proofs.Turns.{Hears, Turns, copies_not, denies, gives, grants, grants_not, hears_other, installed_not, installs, installs_not}
use Rattle.dds_orders.proofs.Turns.{is_installed, is_refused, learns, owed, refused_not, releases, sends_none, sends_part}
use Rattle.dds_orders.proofs.Turns.{copies as copies_part}
use Rattle.dds_states.specs.Turn.{BrickTurn}
use Rattle.dds_states.specs.declared.brick_state.BrickState.{BrickState}
use Rattle.dds_states.specs.declared.brick_state.OpenOrder.{OpenOrder}
use Rattle.dds_order_talk.proofs.BrickSide.{Other, Side, at-order}
use Rattle.dds_order_talk.proofs.BrickHeard.{found-says, own-line, side-hears}
use Rattle.dds_order_talk.proofs.BrickHears.{Heard, IsUnlisted, Told}
use Rattle.dds_order_talk.proofs.BrickTurns.{deed-known, none-gained, side-trip}
use Rattle.dds_order_talk.proofs.Speakers.{due-phase, is_due, is_waits, says-first, waits-phase}
use Rattle.dds_order_talk.proofs.Speaking.{Line}
use Rattle.dds_order_talk.specs.Seen.{asks, one, phase_view, rests, say_of, says}
use Rattle.dds_order_talk.specs.Table.{Say}
use Rattle.dds_order_talk.specs.Table.Say.{granted, installed}

-- A brick's whole turn at a letter, and its conversations with one member.

-- a brick forgets nobody that has stopped
pub path-known : (x z : Seat) (ls : List (NodeNo × Letter)) → Path x ls z → z.own.known ≡ x.own.known
path-known x _ _ (over _) = refl
path-known x z _ (step _ y _ ls ms d w) = path-known y z ms w ∙ deed-known x y ls d

or-parts : (a b : Bool) → (a || b) ≡ false → b ≡ false
or-parts true b e = cc
or-parts false b e = e

heard-known : (from : ℕ) (l : Letter) (x y : Seat) (ls : List (NodeNo × Letter)) (m : ℕ) → Hears from x l ls y → has_node y.own.known m ≡ false
    → has_node x.own.known m ≡ false
heard-known from l x y ls m (gives number what leaf there free stamp unknown) e = e
heard-known from l x _ ls m (denies number what why) e = e
heard-known from l x y ls m (releases number name) e = e
heard-known from l x _ ls m (sends_part number name place last pairs given there) e = e
heard-known from l x _ ls m (sends_none number name place c) e = e
heard-known from l x y ls m (installs number leaf mine may) e = e
heard-known from l x _ ls m (installs_not number leaf may) e = e
heard-known from l x y ls m (grants number leaf o finds) e = e
heard-known from l x _ ls m (grants_not number leaf c) e = e
heard-known from l x y ls m (is_refused number why o finds) e = e
heard-known from l x _ ls m (refused_not number why c) e = e
heard-known from l x y ls m (copies_part number last pairs o finds) e = e
heard-known from l x _ ls m (copies_not number last pairs c) e = e
heard-known from l x y ls m (is_installed number name o finds) e = e
heard-known from l x _ ls m (installed_not number name c) e = e
heard-known from l x y ls m (learns below other) e =
    or-parts (m == from) (has_node x.own.known m) (sym (has-with x.own.known from m below) ∙ e)
heard-known from l x _ ls m (hears_other _ c) e = e

pub turn-known : {from : NodeNo} {x : Seat} {l : Letter} {t : BrickTurn} (m : ℕ) → Turns from x l t → has_node t.state.known m ≡ false
    → has_node x.own.known m ≡ false
turn-known {from = from} {x = x} {l = l} {t = t} m u e =
    let a = ap (λ k. has_node k m) (sym (path-known u.next (seat t.state) u.letters u.goes)) ∙ e in
    let b = heard-known from l u.first u.next u.answers m u.hears a in
    ap (λ k. has_node k m) (sym (path-known x u.first [] u.takes)) ∙ b

-- a whole turn
pub side-turn : {from : NodeNo} {x : Seat} {l : Letter} {bt : BrickTurn} (z : Sizes) (j m : ℕ) (t : BrickState) (u : Turns from x l bt)
    (out back rest : List Letter) → Other z j m bt.state.known → Side j m t nothing_owed x out back → Told j from l u.first
    → IsUnlisted j t l u.first.own.order → Heard from m l back rest → Side j m t nothing_owed (seat bt.state) (out ++ gains z bt.out.letters m) rest
side-turn {from = from} {x = x} {l = l} {bt = bt} z j m t u out back rest w h f apart g =
    let end = path-known u.next (seat bt.state) u.letters u.goes in
    let last : Other z j m u.next.own.known =
    record { low = w.low; inside = w.inside; other = w.other; unknown = ap (λ k. has_node k m) (sym end) ∙ w.unknown } in
    let mid : Other z j m u.first.own.known =
    record { low = w.low; inside = w.inside; other = w.other; unknown = heard-known from l u.first u.next u.answers m u.hears last.unknown } in
    let begin : Other z j m x.own.known =
    record {
      low = w.low;
      inside = w.inside;
      other = w.other;
      unknown = ap (λ k. has_node k m) (sym (path-known x u.first [] u.takes)) ∙ mid.unknown;
    } in
    let a = side-trip z j m t nothing_owed nothing_owed x u.first [] out back u.idle begin h in
    let b = side-hears z j m from t l u.first u.next u.answers (out ++ gains z [] m) back rest u.hears mid a f apart g in
    let c = side-trip z j m t (owed u.hears) nothing_owed u.next (seat bt.state) u.letters ((out ++ gains z [] m) ++ gains z u.answers m) rest u.trip last b in
    let sent : ((out ++ gains z [] m) ++ gains z u.answers m) ++ gains z u.letters m ≡ out ++ gains z bt.out.letters m =
    ap (λ o. (o ++ gains z u.answers m) ++ gains z u.letters m) (ap (λ s. out ++ s) (none-gained z m) ∙ append-nil out)
    ∙ append_assoc out (gains z u.answers m) (gains z u.letters m) ∙ ap (λ s. out ++ s) (sym (gains-append z m u.answers u.letters))
    ∙ ap (λ ls. out ++ gains z ls m) (sym u.all) in
    subst (λ o. Side j m t nothing_owed (seat bt.state) o rest) sent c

-- who grants, or has installed, is waited for
line-said : (j m : ℕ) (t : BrickState) (x : Seat) (o : OpenOrder) (number : ℕ) (l : Letter) (a : Say) (out rest : List Letter)
    → Side j m t nothing_owed x out (l ∷ rest) → x.own.order ≡ Some o → o.number ≡ number
    → say_of (Some o) o.name l ≡ one (o.number == number && same_name o.name o.name) a
    → Line m t o.name (phase_view rests o m o.phase) (asks (Some o) o.name out) j (a ∷ says (Some o) o.name rest)
line-said j m t x o number l a out rest h there same s =
    subst (λ b. Line m t o.name (phase_view rests o m o.phase) (asks (Some o) o.name out) j (b ++ says (Some o) o.name rest))
    (s ∙ found-says o number a same) (own-line j m t o out (l ∷ rest) (at-order j m t rests x.own.order (Some o) out (l ∷ rest) there h.speaks))

pub grants-waited : (j m : ℕ) (t : BrickState) (x : Seat) (o : OpenOrder) (number : ℕ) (leaf : Leaf) (out rest : List Letter)
    → Side j m t nothing_owed x out (letter.Granted number leaf ∷ rest) → x.own.order ≡ Some o → o.number ≡ number → has o.waiting m ≡ true
grants-waited j m t x o number leaf out rest h there same =
    elim (says-first (line-said j m t x o number (letter.Granted number leaf) (granted leaf) out rest h there same refl)) [
      | is_waits what e ↦ (waits-phase o m o.phase what e).waits
    ]

pub installed-waited : (j m : ℕ) (t : BrickState) (x : Seat) (o : OpenOrder) (number : ℕ) (name : Name) (out rest : List Letter)
    → Side j m t nothing_owed x out (letter.Installed number name ∷ rest) → x.own.order ≡ Some o → o.number ≡ number → has o.waiting m ≡ true
installed-waited j m t x o number name out rest h there same =
    elim (says-first (line-said j m t x o number (letter.Installed number name) installed out rest h there same refl)) [
      | is_due leaf made e ↦ (due-phase o m o.phase leaf made e).1
    ]
