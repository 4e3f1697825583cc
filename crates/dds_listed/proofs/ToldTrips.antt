use Rattle.std.proofs.Common.{◌≡◌, ℕ, ◌++◌, true, false, Option, Some, None, List, [], ◌∷◌, refl, sym, ap, ◌∙◌, subst}
use Rattle.std.proofs.lemmas.Bool.{both_ways}
use Rattle.std.specs.FinMap.{get}
use Rattle.dds_base.specs.declared.leaf.Leaf.{Leaf}
use Rattle.dds_base.specs.declared.number.NodeNo.{NodeNo}
use Rattle.dds_brick_rows.specs.Refusal.{is_join}
use Rattle.dds_core.proofs.Lists.{all-append}
use Rattle.dds_law_leaf.proofs.Book.{InMap}
use Rattle.dds_law_leaf.proofs.Maps.{each-is}
use Rattle.dds_law_own.proofs.Parted.{IsBoth}
use Rattle.dds_letters.specs.declared.letter.Letter.{Letter}
use Rattle.dds_letters.specs.declared.letter.Letter.TheVariants as letter
use Rattle.dds_letters.specs.declared.refusal.Wanted.TheVariants as wanted
use Rattle.dds_order_rows.specs.OwnOrder as order
use Rattle.dds_orders.proofs.Counting.{not-none}
use Rattle.dds_orders.proofs.Deeds.{Leaves, Seat, Stage, Trip, arrives, asks_more, closes, copies, copies_none, does_next, drops, fixes, joins}
use Rattle.dds_orders.proofs.Deeds.{loses, makes, new_order, nothing_owed, pends, refuses, says, serves, split_asked, splits}
use Rattle.dds_orders.proofs.Deeds.{splits_none, stays, takes, told_order}
use Rattle.dds_orders.proofs.Numbers.{the-order}
use Rattle.dds_orders.proofs.Standing.{deed-both, keyed}
use Rattle.dds_parents.proofs.SplitLeaves.{SplitsIn}
use Rattle.dds_parents.specs.SplitLeaves.{HasSplitLeaf}
use Rattle.dds_states.specs.declared.brick_state.OpenOrder.{OpenOrder}
use Rattle.dds_states.specs.declared.brick_state.OrderPhase.TheVariants.{Leasing}
use Rattle.dds_states.specs.declared.brick_state.Task.TheVariants.{Join, Split}
use Rattle.dds_trie.specs.Trie.{LeafMap}
use Rattle.dds_listed.proofs.Begun.{IsWhole, StandsAs, first-stands}
use Rattle.dds_listed.proofs.OrderTrips.{AllAsk, AskOk, each-asks, nothing-ok, others-ask, trip-ends}

-- A brick with no open order is told one: the order behind the turn, if there is one, was granted by nobody when it began, and a split had
-- its leaf among the brick's own.

pub record ToldEnds (me : ℕ) (P : Leaf → Type 0) (m : LeafMap) (z : Seat) (ls : List (NodeNo × Letter)) : Type 0 where
  pub first : Option OpenOrder
  pub none : (o : OpenOrder) → first ≡ Some o → o.granted ≡ []
  pub splits : SplitsIn m first
  pub stands : StandsAs me P first z.own.order
  pub asks : AllAsk P z ls

told-not : told_order ≡ nothing_owed → ⊥
told-not e = cc

-- a new order doesn't install
new-whole : (o p : OpenOrder) → Some o ≡ Some p → o.phase ≡ Leasing → IsWhole p
new-whole o p e leasing = λ k.
    let no : false ≡ true = ap order.is_installing (sym leasing ∙ ap (λ (q : OpenOrder). q.phase) (the-order o p e)) ∙ k in
    cc

module _ (me : ℕ) (P : Leaf → Type 0) where
  -- a new order with its letters, and what follows
  with-new : (m : LeafMap) {b c : Stage} {y z : Seat} {ms : List (NodeNo × Letter)} (ls : List (NodeNo × Letter)) (o : OpenOrder)
      → Trip b y ms c z → b ≡ nothing_owed → IsBoth me y.own → y.own.order ≡ Some o → o.granted ≡ []
      → StandsAs me P (Some o) (Some o) → SplitsIn m (Some o) → AllAsk P z ls
      → ToldEnds me P m z (ls ++ ms)
  with-new m {b = b} {y = y} {z = z} {ms = ms} ls o w e both there none stands its_leaf asks =
      let r = trip-ends me P (Some o) w (nothing-ok P b e) both (subst (StandsAs me P (Some o)) (sym there) stands) in
      record {
        first = Some o;
        none = λ p i. ap (λ (q : OpenOrder). q.granted) (sym (the-order o p i)) ∙ none;
        splits = its_leaf;
        stands = r.0;
        asks = all-append (λ (p : NodeNo × Letter). AskOk P z p.1) ls ms asks r.1;
      }

  -- none
  with-none : (m : LeafMap) {b c : Stage} {y z : Seat} {ms : List (NodeNo × Letter)} (ls : List (NodeNo × Letter)) → Trip b y ms c z → b ≡ nothing_owed
      → IsBoth me y.own → y.own.order ≡ None → AllAsk P z ls → ToldEnds me P m z (ls ++ ms)
  with-none m {b = b} {y = y} {z = z} {ms = ms} ls w e both none asks =
      let r = trip-ends me P None w (nothing-ok P b e) both (λ o i. absurd (not-none o (sym none ∙ i))) in
      record {
        first = None;
        none = λ p i. absurd (not-none p i);
        splits = λ p i. absurd (not-none p i);
        stands = r.0;
        asks = all-append (λ (p : NodeNo × Letter). AskOk P z p.1) ls ms asks r.1;
      }

  pub told-ends : {a c : Stage} {x z : Seat} {ls : List (NodeNo × Letter)} → Trip a x ls c z → a ≡ told_order → IsBoth me x.own → x.own.order ≡ None
      → InMap P x.own.leaves → ToldEnds me P x.own.leaves z ls
  told-ends (arrives a x) e both none own =
      record {
        first = None;
        none = λ p i. absurd (not-none p i);
        splits = λ p i. absurd (not-none p i);
        stands = λ o i. absurd (not-none o (sym none ∙ i));
        asks = tt;
      }
  told-ends {z = z} (does_next a b c x _ _ ls ms (says _ others) q w) e both none own = by q (λ i. told-ends w i both none own)
    where
      asks : AllAsk P z ls
      asks = others-ask P z ls others

      by : Leaves x a b → (b ≡ told_order → ToldEnds me P x.own.leaves z ms) → ToldEnds me P x.own.leaves z (ls ++ ms)
      by (stays i) f =
          let r = f (sym i ∙ e) in
          record {
            first = r.first;
            none = r.none;
            splits = r.splits;
            stands = r.stands;
            asks = all-append (λ (p : NodeNo × Letter). AskOk P z p.1) ls ms asks r.asks;
          }
      by (refuses i k) f = with-none x.own.leaves ls w k both none asks
      by (copies_none o i k n v) f = absurd (not-none o (sym none ∙ i))
      by (splits_none o i k n v) f = absurd (not-none o (sym none ∙ i))
  told-ends (does_next a b c x y z ls ms (takes mine leaf may) q w) e both none own = absurd (told-not (sym e ∙ q.0))
  told-ends (does_next a b c x y z ls ms (pends p may) q w) e both none own = absurd (told-not (sym e ∙ q.0))
  told-ends (does_next a b c x y z ls ms (drops txn) q w) e both none own = absurd (told-not (sym e ∙ q.0))
  told-ends (does_next a b c x y z ls ms (joins name via may) q w) e both none own =
      let o = new_order x (Join via) name None (via ∷ []) in
      with-new x.own.leaves ls o w q.1 (deed-both me x y ls (joins name via may) both) refl refl
      (first-stands me P (Some o) (tt, tt) (λ p i. new-whole o p i refl))
      (λ p i task. absurd (both_ways (is_join p.task) task (ap (λ (r : OpenOrder). is_join r.task) (sym (the-order o p i))))) (tt, tt)
  told-ends {z = z} (does_next a b c x y _ ls ms (splits leaf may) q w) e both none own =
      let its : P leaf = each-is P (get x.own.leaves may.at) leaf may.there (own may.at) in
      let o = new_order x Split leaf.name (Some leaf) (split_asked x leaf) in
      let name : leaf.name ≡ may.at = keyed me x.own leaf both.0 may.at may.there in
      let stands_in : HasSplitLeaf x.own.leaves o = record { leaf = leaf; fixed = refl; there = ap (get x.own.leaves) name ∙ may.there } in
      with-new x.own.leaves ls o w q.1 (deed-both me x y ls (splits leaf may) both) refl refl
      (first-stands me P (Some o) (its, tt) (λ p i. new-whole o p i refl)) (λ p i task. subst (HasSplitLeaf x.own.leaves) (the-order o p i) stands_in)
      (each-asks P z (split_asked x leaf) (letter.Lease x.orders (wanted.Leaf leaf)) its)
  told-ends (does_next a b c x y z ls ms (loses o n i known) q w) e both none own = absurd (not-none o (sym none ∙ i))
  told-ends (does_next a b c x y z ls ms (fixes o from leaf i may) q w) e both none own = absurd (not-none o (sym none ∙ i))
  told-ends (does_next a b c x y z ls ms (copies o leaf source i may) q w) e both none own = absurd (not-none o (sym none ∙ i))
  told-ends (does_next a b c x _ z ls ms (asks_more o source i phase) q w) e both none own = absurd (not-none o (sym none ∙ i))
  told-ends (does_next a b c x y z ls ms (makes o made nodes i may) q w) e both none own = absurd (not-none o (sym none ∙ i))
  told-ends (does_next a b c x y z ls ms (closes o i) q w) e both none own = absurd (not-none o (sym none ∙ i))
  told-ends (does_next a b c x y z ls ms (serves o made i phase) q w) e both none own = absurd (not-none o (sym none ∙ i))
