use Rattle.std.proofs.Common.{◌≡◌, ℕ, ◌&&◌, inl, inr, Bool, true, false, Option, Some, is_some, List, refl, sym, subst}
use Rattle.std.proofs.lemmas.Bool.{and_parts, cases_eq}
use Rattle.std.specs.FinMap.{get}
use Rattle.std.specs.List.{AllByRecursion}
use Rattle.std.specs.Prelude.{if◌then◌else◌}
use Rattle.dds_base.specs.Name.{Name}
use Rattle.dds_base.specs.declared.number.NodeNo.{NodeNo}
use Rattle.dds_base.specs.declared.pair.Pair.{Pair}
use Rattle.dds_brick_rows.specs.Refusal.{is_join}
use Rattle.dds_cluster.specs.declared.trace.Made.{Made}
use Rattle.dds_core.proofs.Lists.{all-map}
use Rattle.dds_core.specs.Brick.{live_brick_turn}
use Rattle.dds_law_own.proofs.LetterWays.{IsOfAnother}
use Rattle.dds_letters.specs.declared.letter.Letter.{Letter}
use Rattle.dds_letters.specs.declared.letter.Letter.TheVariants as letter
use Rattle.dds_locks.specs.Leases.{is_given}
use Rattle.dds_net.proofs.Carried.{News}
use Rattle.dds_net.proofs.Letters.{first-all}
use Rattle.dds_net.specs.Event.{Takes}
use Rattle.dds_net.specs.Net.{Net, Sizes, a_brick, is_in, lands}
use Rattle.dds_order_rows.specs.Orders.{copy_part, pairs_after}
use Rattle.dds_orders.proofs.Numbered.{lands-one}
use Rattle.dds_states.specs.Turn.{still}
use Rattle.dds_states.specs.declared.brick_state.BrickState.{BrickState}
use Rattle.dds_states.specs.declared.brick_state.OpenOrder.{OpenOrder}
use Rattle.dds_states.specs.declared.brick_state.OrderPhase.TheVariants.{Copying}
use Rattle.dds_values.specs.Values.{table}
use Rattle.dds_copies.proofs.Asked.{joins-ask}
use Rattle.dds_copies.proofs.Before.{Before, its-counts, its-names, its-own, of-another}
use Rattle.dds_copies.proofs.Carried.{Tell, landed-news, other-news}
use Rattle.dds_copies.proofs.Leased.{leased-holds}
use Rattle.dds_copies.proofs.Tells.{tells}
use Rattle.dds_copies.specs.Copies.{AsksNext, HoldsUnder, TellsNext}
use Rattle.dds_copies.specs.Turns.{IsAsked}

-- The source of a join takes a letter: what it sends to the join's brick is the next part of the table, or nothing of it.

-- the part goes to who asks for it
copy-to : (table : _) (z : Sizes) (k : ℕ) (o : OpenOrder) (s : BrickState) (from : NodeNo) (number : ℕ) (pairs : List Pair) (c : Bool)
    → (lands z from k ≡ true → ⊥)
    → AllByRecursion (λ (m : NodeNo × Letter). lands z m.0 k ≡ true → TellsNext table o m.1) (if c then copy_part pairs from number s else still s).out.letters
copy-to table z k o s from number pairs true ne = ((λ there. absurd (ne there)), tt)
copy-to table z k o s from number pairs false ne = tt

module _ (z : Sizes) (made : List Made) (n : Net) (g : Before z made n) (at from : ℕ) (l : Letter) (s : BrickState) (f : Takes z n at from l (a_brick s))
    (k : ℕ) (t : BrickState) (o : OpenOrder) (here : n.node k ≡ a_brick t) (live : t.stopped ≡ false) (there : t.order ≡ Some o)
    (join : is_join o.task ≡ true) where
  -- the letter asks for what follows
  is-asked : (number : ℕ) (name : Name) (place : Option ℕ) → l ≡ letter.CopyAsk number name place → from ≡ k → o.phase ≡ Copying at → number ≡ o.number
      → IsAsked (table made) s from o name place
  is-asked number name place letter_is sender phase same =
      let asks = joins-ask z n g.all g.together (its-counts z made n g) k t s o at here live there join phase f.here f.live in
      let first : AsksNext o l = first-all (AsksNext o) z n at from l f.letter (subst (λ i. AllByRecursion (AsksNext o) (n.channel i at)) (sym sender) asks) in
      let it = subst (AsksNext o) letter_is first same in
      record {
        named = it.0;
        at = it.1;
        holds = λ e.
            let a = and_parts (is_given s.locks.leases name from) (is_some (get s.leaves name)) e in
            subst (λ i. HoldsUnder (table made) i s) it.0
            (leased-holds made at s name from (its-own z made n g at s f.here) (its-names z made n g at s f.here) (g.holds at s f.here f.live) a.0 a.1);
      }

  abbrev Told : Letter → Type 0
  Told m = AllByRecursion (λ (p : NodeNo × Letter). lands z p.0 k ≡ true → TellsNext (table made) o p.1) (live_brick_turn s from m).out.letters

  all-told : (m : Letter) → AllByRecursion (λ (p : NodeNo × Letter). TellsNext (table made) o p.1) (live_brick_turn s from m).out.letters → Told m
  all-told m h = all-map (λ (p : NodeNo × Letter). TellsNext (table made) o p.1) _ (live_brick_turn s from m).out.letters (λ p q lands_there. q) h

  told : (m : Letter) → l ≡ m → o.phase ≡ Copying at → is_in z k ≡ true → Told m
  told (letter.CopyAsk number name place) e phase inside = elim (cases_eq from k) [
    | inl is ↦
        all-told (letter.CopyAsk number name place) (tells (table made) s from (letter.CopyAsk number name place) o
        (subst (IsOfAnother s from) e (of-another z made n g at from l s f)) (is-asked number name place e is phase))
    | inr ne ↦
        copy-to (table made) z k o s from number (pairs_after s.pairs name place) (is_given s.locks.leases name from && is_some (get s.leaves name))
        (λ there. ne (lands-one z from k g.few f.letter.sender inside there))
  ]
  told other e phase inside =
      all-told other (tells (table made) s from other o (subst (IsOfAnother s from) e (of-another z made n g at from l s f)) tt)

  pub source-news : (source : NodeNo) → o.phase ≡ Copying source → News (Tell (table made) o source k) z at (live_brick_turn s from l).out.letters
  source-news source phase = elim (cases_eq at source) [
    | inl is ↦ landed-news (table made) o source k z at (live_brick_turn s from l).out.letters
        (told l refl (subst (λ i. o.phase ≡ Copying i) (sym is) phase))
    | inr ne ↦ other-news (table made) o source k z at (live_brick_turn s from l).out.letters ne
  ]
