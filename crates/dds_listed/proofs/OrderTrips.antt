use Rattle.std.proofs.Common.{◌≡◌, ℕ, ◌+◌, ◌==◌, ◌∷◌, inr, Bool, true, false, not, Option, Some, List, [], refl, sym, ap, ◌∙◌, subst}
use Rattle.std.proofs.lemmas.Bool.{and_parts, both_ways, eq-eqb, ne_eqb}
use Rattle.std.specs.List.{AllByRecursion}
use Rattle.std.specs.Prelude.{is_some}
use Rattle.dds_base.specs.BrickList.{has}
use Rattle.dds_base.specs.NodeSet.{has_node}
use Rattle.dds_base.specs.declared.leaf.Leaf.{Leaf}
use Rattle.dds_base.specs.declared.number.NodeNo.{NodeNo}
use Rattle.dds_core.proofs.Lists.{all-append, all-map}
use Rattle.dds_groups.proofs.Members.{has-live}
use Rattle.dds_groups.specs.Leaves.{live}
use Rattle.dds_law_leaf.proofs.Book.{Each}
use Rattle.dds_law_leaf.proofs.Maps.{each-is}
use Rattle.dds_law_own.proofs.Lists.{has-kept}
use Rattle.dds_law_own.proofs.Parted.{IsBoth}
use Rattle.dds_letters.specs.declared.letter.Letter.{Letter}
use Rattle.dds_letters.specs.declared.letter.Letter.TheVariants as letter
use Rattle.dds_letters.specs.declared.refusal.Wanted.TheVariants as wanted
use Rattle.dds_order_rows.specs.OwnOrder as order
use Rattle.dds_order_talk.proofs.Members.{has-passes, in-without}
use Rattle.dds_orders.proofs.Counting.{not-none}
use Rattle.dds_orders.proofs.Deeds.{AreOthers, Deed, Leaves, MayBegin, Seat, Stage, Staged, Trip, arrives, asks_more, closes, copies, copies_none, does_next}
use Rattle.dds_orders.proofs.Deeds.{drops, fixes, is_of_orders, joins, leaf_owed, loses, makes, nothing_owed, part_owed, pends, refuses, says, serves, splits}
use Rattle.dds_orders.proofs.Deeds.{splits_none, stays, takes, told_order, widened}
use Rattle.dds_orders.proofs.Asked.{or-left}
use Rattle.dds_orders.proofs.Covered.{false-of}
use Rattle.dds_orders.proofs.Numbers.{the-order}
use Rattle.dds_orders.proofs.Standing.{deed-both}
use Rattle.dds_states.specs.Turn.{is_none_left, to_each, unknown, unknown_others, without}
use Rattle.dds_states.specs.declared.brick_state.OpenOrder.{OpenOrder}
use Rattle.dds_states.specs.declared.brick_state.OrderPhase.{OrderPhase}
use Rattle.dds_states.specs.declared.brick_state.OrderPhase.TheVariants.{Copying, Installing}
use Rattle.dds_world.specs.Groups.{wanted_leaf}
use Rattle.dds_listed.proofs.Begun.{Begun, StandsAs, that-stands}

-- How the open order stands behind the deeds of a turn, and whom it asks: the leaves of what it sends are so, and what it sends to install
-- is still installed at the end.

-- what was made is installed, at one that isn't known to have stopped
pub record IsInstalling (x : Seat) (made : Leaf) : Type 0 where
  pub o : OpenOrder
  pub there : x.own.order ≡ Some o
  pub phase : o.phase ≡ Installing made
  pub at : NodeNo
  pub waits : has o.waiting at ≡ true
  pub unknown : has_node x.own.known at ≡ false

installing-is : (p : OrderPhase) (made : Leaf) → p ≡ Installing made → order.is_installing p ≡ true
installing-is p made e = ap order.is_installing e

copying-not : (p : OrderPhase) (made : Leaf) (source : NodeNo) → p ≡ Installing made → p ≡ Copying source → ⊥
copying-not p made source e f = let no : Installing made ≡ Copying source = sym e ∙ f in cc

none-left : (ns : List ℕ) (n : ℕ) → is_none_left ns ≡ true → has ns n ≡ true → ⊥
none-left [] n e h = let no : false ≡ true = h in cc
none-left (m ∷ ns) n e h = cc

told-not : told_order ≡ nothing_owed → ⊥
told-not e = cc

leaf-not : (from : NodeNo) (leaf : Leaf) → leaf_owed from leaf ≡ nothing_owed → ⊥
leaf-not from leaf e = cc

-- with nothing owed before a deed, nothing is owed behind it
still-nothing : (x : Seat) (a b : Stage) → Leaves x a b → a ≡ nothing_owed → b ≡ nothing_owed
still-nothing x a b (stays e) f = sym e ∙ f
still-nothing x a b (refuses e g) f = g
still-nothing x a b (copies_none o e g i j) f = j
still-nothing x a b (splits_none o e g i j) f = j

module _ (made : Leaf) where
  its-phase : (x : Seat) (o : OpenOrder) → x.own.order ≡ Some o → IsInstalling x made → o.phase ≡ Installing made
  its-phase x o e h = subst (λ (p : OpenOrder). p.phase ≡ Installing made) (the-order h.o o (sym h.there ∙ e)) h.phase

  -- what doesn't install ends or begins nothing then
  not-before : {X : Type 0} (x : Seat) (o : OpenOrder) → x.own.order ≡ Some o → order.is_installing o.phase ≡ false → IsInstalling x made → X
  not-before x o e f h = absurd (both_ways (order.is_installing o.phase) f (installing-is o.phase made (its-phase x o e h)))

  deed-installing : (a b : Stage) (x y : Seat) (ls : List (NodeNo × Letter)) (d : Deed x ls y) → Staged a b d → a ≡ nothing_owed → IsInstalling x made
      → (b ≡ nothing_owed) × IsInstalling y made
  deed-installing a b x _ ls (says _ others) q f h = (still-nothing x a b q f, h)
  deed-installing a b x y ls (takes mine leaf may) q f h =
      (q.1, record { o = h.o; there = h.there; phase = h.phase; at = h.at; waits = h.waits; unknown = h.unknown })
  deed-installing a b x y ls (pends p may) q f h =
      (q.1, record { o = h.o; there = h.there; phase = h.phase; at = h.at; waits = h.waits; unknown = h.unknown })
  deed-installing a b x y ls (drops txn) q f h =
      (q.1, record { o = h.o; there = h.there; phase = h.phase; at = h.at; waits = h.waits; unknown = h.unknown })
  deed-installing a b x y ls (joins name via may) q f h = absurd (told-not (sym q.0 ∙ f))
  deed-installing a b x y ls (splits leaf may) q f h = absurd (told-not (sym q.0 ∙ f))
  deed-installing a b x y ls (loses o n e known) q f h =
      let same : h.o ≡ o = the-order h.o o (sym h.there ∙ e) in
      let waits : has o.waiting h.at ≡ true = subst (λ (p : OpenOrder). has p.waiting h.at ≡ true) same h.waits in
      let ne : h.at ≡ n → ⊥ = (λ i. both_ways (has_node x.own.known n) (ap (has_node x.own.known) (sym i) ∙ h.unknown) known) in
      let left : has (without o.waiting n) h.at ≡ true = has-kept (λ k. not (k == n)) o.waiting h.at (ap not (ne_eqb h.at n ne)) waits in
      (q.1, record { o = record o { waiting = without o.waiting n }; there = refl; phase = its-phase x o e h; at = h.at; waits = left; unknown = h.unknown })
  deed-installing a b x y ls (fixes o from leaf e may) q f h = absurd (leaf-not from leaf (sym q.0 ∙ f))
  deed-installing a b x y ls (copies o leaf source e may) q f h = not-before x o e may.ready.before h
  deed-installing a b x _ ls (asks_more o source e phase) q f h = absurd (copying-not o.phase made source (its-phase x o e h) phase)
  deed-installing a b x y ls (makes o other nodes e may) q f h = not-before x o e may.ready.before h
  deed-installing a b x y ls (closes o e) q f h = not-before x o e q.before h
  deed-installing a b x y ls (serves o other e phase) q f h =
      absurd (none-left o.waiting h.at q.2 (subst (λ (p : OpenOrder). has p.waiting h.at ≡ true) (the-order h.o o (sym h.there ∙ e)) h.waits))

  pub trip-installing : {a c : Stage} {x z : Seat} {ls : List (NodeNo × Letter)} → Trip a x ls c z → a ≡ nothing_owed → IsInstalling x made
      → IsInstalling z made
  trip-installing (arrives _ _) f h = h
  trip-installing (does_next a b c x y z ls ms d q w) f h = let k = deed-installing a b x y ls d q f h in trip-installing w k.0 k.1

-- of a letter: a leaf that is asked for, and one that is to be installed
abbrev pub AskOk : (Leaf → Type 0) → Seat → Letter → Type 0
AskOk P z (letter.Lease number what) = Each P (wanted_leaf what)
AskOk P z (letter.Install number made) = IsInstalling z made
AskOk P z other = Unit {0}

abbrev pub AllAsk : (Leaf → Type 0) → Seat → List (NodeNo × Letter) → Type 0
AllAsk P z ls = AllByRecursion (λ (p : NodeNo × Letter). AskOk P z p.1) ls

-- what is owed
abbrev pub OwedOk : (Leaf → Type 0) → Stage → Type 0
OwedOk P told_order = ⊥
OwedOk P nothing_owed = Unit {0}
OwedOk P (leaf_owed from leaf) = P leaf
OwedOk P part_owed = Unit {0}

pub nothing-ok : (P : Leaf → Type 0) (b : Stage) → b ≡ nothing_owed → OwedOk P b
nothing-ok P b e = subst (OwedOk P) (sym e) tt

pub each-asks : (P : Leaf → Type 0) (z : Seat) (ns : List NodeNo) (l : Letter) → AskOk P z l → AllAsk P z (to_each ns l)
each-asks P z [] l h = tt
each-asks P z (n ∷ ns) l h = (h, each-asks P z ns l h)

other-asks : (P : Leaf → Type 0) (z : Seat) (l : Letter) → is_of_orders l ≡ false → AskOk P z l
other-asks P z (letter.Lease number what) e = cc
other-asks P z (letter.Install number made) e = cc
other-asks P z other e = tt

pub others-ask : (P : Leaf → Type 0) (z : Seat) (ls : List (NodeNo × Letter)) → AreOthers ls → AllAsk P z ls
others-ask P z ls h = all-map (λ (p : NodeNo × Letter). is_of_orders p.1 ≡ false) (λ p. AskOk P z p.1) ls (λ p k. other-asks P z p.1 k) h

leaves-ok : (P : Leaf → Type 0) (x : Seat) (a b : Stage) → Leaves x a b → OwedOk P a → OwedOk P b
leaves-ok P x a b (stays e) h = subst (OwedOk P) e h
leaves-ok P x a b (refuses e g) h = nothing-ok P b g
leaves-ok P x a b (copies_none o e g i j) h = nothing-ok P b j
leaves-ok P x a b (splits_none o e g i j) h = nothing-ok P b j

in-live : (xs : List ℕ) (known : ℕ → Bool) (n : ℕ) → has (live xs known) n ≡ true → known n ≡ false
in-live xs known n h = false-of (known n) (λ k. both_ways (not (known n)) (ap not k) (and_parts (has xs n) (not (known n)) (sym (has-live xs known n) ∙ h)).1)

made-is : (a b : Leaf) → Installing a ≡ Installing b → a ≡ b
made-is a b e = cc

-- who is made to install waits, and isn't known to have stopped
pub made-installing : (x : Seat) (o : OpenOrder) (made : Leaf) (n : NodeNo) (ns : List NodeNo) → MayBegin x o made (n ∷ ns)
    → IsInstalling
    (record x { own = record x.own { order = Some (record o { waiting = n ∷ ns; phase = Installing made }) }; made = x.made + 1 }) made
made-installing x o made n ns may =
    let s = may.may.state in
    let head : has (n ∷ ns) n ≡ true = or-left (n == n) (has ns n) (eq-eqb n n refl) in
    let r = in-without (order.parting s o may.may.leaf) x.own.number n (ap (λ ms. has ms n) (sym may.nodes_are) ∙ head) in
    let p = has-passes (order.takes_part s o) (live may.may.leaf.list (has_node s.known)) n r.1 in
    record {
      o = record o { waiting = n ∷ ns; phase = Installing made };
      there = refl;
      phase = refl;
      at = n;
      waits = head;
      unknown = ap (λ k. has_node k n) (sym may.may.known) ∙ in-live may.may.leaf.list (has_node s.known) n p.1;
    }

module _ (me : ℕ) (P : Leaf → Type 0) (q : Option OpenOrder) where
  -- behind a deed, and at the turn's end
  record Deeded (b : Stage) (y : Seat) (ls : List (NodeNo × Letter)) : Type 0 where
    stands : StandsAs me P q y.own.order
    owed : OwedOk P b
    asks : (z : Seat) → (b ≡ nothing_owed → (made : Leaf) → IsInstalling y made → IsInstalling z made) → AllAsk P z ls

  made-asks : (b : Stage) (x y : Seat) (o : OpenOrder) (made : Leaf) (nodes : List NodeNo) → MayBegin x o made nodes → b ≡ nothing_owed
      → y ≡ record x { own = record x.own { order = Some (record o { waiting = nodes; phase = Installing made }) }; made = x.made + 1 }
      → (z : Seat) → (b ≡ nothing_owed → (made : Leaf) → IsInstalling y made → IsInstalling z made)
      → AllAsk P z (to_each nodes (letter.Install o.number made))
  made-asks b x y o made [] may e is z f = tt
  made-asks b x y o made (n ∷ ns) may e is z f =
      each-asks P z (n ∷ ns) (letter.Install o.number made)
      (f e made (subst (λ (u : Seat). IsInstalling u made) (sym is) (made-installing x o made n ns may)))

  deed-ends : (a b : Stage) (x y : Seat) (ls : List (NodeNo × Letter)) (d : Deed x ls y) → Staged a b d → OwedOk P a → IsBoth me x.own
      → StandsAs me P q x.own.order → Deeded b y ls
  deed-ends a b x _ ls (says _ others) s o i h =
      record { stands = h; owed = leaves-ok P x a b s o; asks = λ z f. others-ask P z ls others }
  deed-ends a b x y ls (takes mine leaf may) s o i h = record { stands = h; owed = nothing-ok P b s.1; asks = λ z f. tt }
  deed-ends a b x y ls (pends p may) s o i h = record { stands = h; owed = nothing-ok P b s.1; asks = λ z f. tt }
  deed-ends a b x y ls (drops txn) s o i h = record { stands = h; owed = nothing-ok P b s.1; asks = λ z f. tt }
  deed-ends a b x y ls (joins name via may) s o i h = absurd (subst (OwedOk P) s.0 o)
  deed-ends a b x y ls (splits leaf may) s o i h = absurd (subst (OwedOk P) s.0 o)
  deed-ends a b x y ls (loses p n e known) s o i h =
      record {
        stands = that-stands me P q (record p { waiting = without p.waiting n })
            (let k = h p e in
            record {
              first = k.first;
              was = k.was;
              stands = record { like = k.stands.like; leaf = k.stands.leaf; phase = k.stands.phase; made = k.stands.made; whole = k.stands.whole };
            });
        owed = nothing-ok P b s.1;
        asks = λ z f. tt;
      }
  deed-ends a b x y ls (fixes p from leaf e may) s o i h =
      let its : P leaf = subst (OwedOk P) s.0 o in
      record {
        stands = that-stands me P q (widened x p from leaf)
            (let k = h p e in
            record {
              first = k.first;
              was = k.was;
              stands = record { like = k.stands.like; leaf = its; phase = k.stands.phase; made = k.stands.made; whole = λ c. refl };
            });
        owed = nothing-ok P b s.1;
        asks = λ z f. each-asks P z (unknown_others leaf.list from x.own.known) (letter.Lease p.number (wanted.Leaf leaf)) its;
      }
  deed-ends a b x y ls (copies p leaf source e may) s o i h =
      record {
        stands = that-stands me P q (record p { copied = []; phase = Copying source })
            (let k = h p e in
            record {
              first = k.first;
              was = k.was;
              stands = record {
                like = k.stands.like;
                leaf = k.stands.leaf;
                phase = λ c. absurd (both_ways (order.is_installing p.phase) may.ready.before (ap order.is_installing (k.stands.phase c) ∙ c));
                made = λ made c. absurd (copying-not (Copying source) made source c refl);
                whole = λ c. let no : false ≡ true = c in cc;
              };
            });
        owed = nothing-ok P b s.1;
        asks = λ z f. (tt, tt);
      }
  deed-ends a b x _ ls (asks_more p source e phase) s o i h = record { stands = h; owed = nothing-ok P b s.1; asks = λ z f. (tt, tt) }
  deed-ends a b x y ls (makes p made nodes e may) s o i h =
      let k = h p e in
      let before : order.is_installing k.first.phase ≡ false = false-of (order.is_installing k.first.phase)
      (λ c. both_ways (order.is_installing p.phase) may.ready.before (ap order.is_installing (k.stands.phase c) ∙ c)) in
      record {
        stands = that-stands me P q (record p { waiting = nodes; phase = Installing made })
            (record {
              first = k.first;
              was = k.was;
              stands = record {
                like = k.stands.like;
                leaf = k.stands.leaf;
                phase = λ c. absurd (both_ways (order.is_installing k.first.phase) before c);
                made = λ other c. inr (subst (Begun me P k.first) (made-is made other c) (record {
                  at = x;
                  o = p;
                  nodes = nodes;
                  there = e;
                  may = may;
                  both = i;
                  like = k.stands.like;
                  of_leaf = each-is P p.leaf may.may.leaf may.may.fixed k.stands.leaf;
                  before = before;
                }));
                whole = λ c. ap is_some may.may.fixed;
              };
            });
        owed = nothing-ok P b s.1;
        asks = made-asks b x y p made nodes may s.1 refl;
      }
  deed-ends a b x y ls (closes p e) s o i h =
      record {
        stands = λ r c. absurd (not-none r c);
        owed = nothing-ok P b s.next;
        asks = λ z f. each-asks P z (unknown p.asked x.own.known) (letter.Release p.number p.name) tt;
      }
  deed-ends a b x y ls (serves p made e phase) s o i h =
      record {
        stands = λ r c. absurd (not-none r c);
        owed = nothing-ok P b s.1;
        asks = λ z f. each-asks P z (unknown p.granted x.own.known) (letter.Release p.number p.name) tt;
      }

  pub trip-ends : {a c : Stage} {x z : Seat} {ls : List (NodeNo × Letter)} → Trip a x ls c z → OwedOk P a → IsBoth me x.own
      → StandsAs me P q x.own.order → StandsAs me P q z.own.order × AllAsk P z ls
  trip-ends (arrives _ _) o i h = (h, tt)
  trip-ends (does_next a b c x y z ls ms d s w) o i h =
      let k = deed-ends a b x y ls d s o i h in
      let r = trip-ends w k.owed (deed-both me x y ls d i) k.stands in (
        r.0,
        all-append (λ (p : NodeNo × Letter). AskOk P z p.1) ls ms (k.asks z (λ e made g. trip-installing made w e g)) r.1,
      )
