use Rattle.std.proofs.Common.{◌≡◌, ℕ, ◌&&◌, Bool, true, false, Option, None, List, refl, subst}
use Rattle.std.proofs.lemmas.Bool.{and_parts}
use Rattle.std.specs.FinMap.{get}
use Rattle.std.specs.List.{AllByRecursion}
use Rattle.std.specs.Prelude.{is_some, if◌then◌else◌}
use Rattle.dds_base.specs.Name.{Name}
use Rattle.dds_base.specs.Place.{last_key}
use Rattle.dds_base.specs.declared.number.NodeNo.{NodeNo}
use Rattle.dds_cluster.specs.declared.trace.Made.{Made}
use Rattle.dds_core.specs.Brick.{live_brick_turn}
use Rattle.dds_law_own.proofs.Changes.{own}
use Rattle.dds_law_own.proofs.Owned.{Free}
use Rattle.dds_law_own.proofs.Parted.{IsBoth}
use Rattle.dds_letters.specs.declared.letter.Letter.{Letter}
use Rattle.dds_letters.specs.declared.letter.Letter.TheVariants as letter
use Rattle.dds_locks.specs.Leases.{is_given}
use Rattle.dds_locks.specs.Pending.{any_under}
use Rattle.dds_order_rows.specs.Orders.{copy_part, pairs_after}
use Rattle.dds_orders.proofs.Covered.{given-is}
use Rattle.dds_pairs.proofs.Grows.{cover-of}
use Rattle.dds_pairs.proofs.NameKeeps.{keyed-at}
use Rattle.dds_pairs.proofs.Names.{Fit}
use Rattle.dds_states.specs.Turn.{still}
use Rattle.dds_states.specs.declared.brick_state.BrickState.{BrickState}
use Rattle.dds_states.specs.declared.brick_state.OpenOrder.{OpenOrder}
use Rattle.dds_values.specs.Values.{HoldsTable, table}
use Rattle.dds_copies.proofs.Sources.{sent-if, source-holds}
use Rattle.dds_copies.specs.Copies.{AsksNext, HoldsUnder, TellsNext}

-- A brick that has given a lease and has the leaf of its name holds the table there, since nothing is pending under a lease: so what it
-- answers at a CopyAsk is the next part.

pub free-under : (me : ℕ) (s : BrickState) (name : Name) (to : NodeNo) → IsBoth me (own s) → is_given s.locks.leases name to ≡ true
    → any_under s.locks.pending name ≡ false
free-under me s name to both given =
    let it = given-is (Free s.locks.pending) s.locks.leases name to both.0.free given in
    subst (λ n. any_under s.locks.pending n ≡ false) it.1 it.2

pub leased-holds : (made : List Made) (me : ℕ) (s : BrickState) (name : Name) (to : NodeNo) → IsBoth me (own s) → Fit s → HoldsTable made s
    → is_given s.locks.leases name to ≡ true → is_some (get s.leaves name) ≡ true → HoldsUnder (table made) name s
leased-holds made me s name to both fit h given there =
    source-holds made s name h (free-under me s name to both given)
    (λ key over. cover-of s.leaves key (keyed-at me s both) fit.is.0 (record { name = name; there = there; over = over }))

answered : (made : List Made) (me : ℕ) (s : BrickState) (to : NodeNo) (number : ℕ) (o : OpenOrder) (name : Name) (place : Option ℕ) (c : Bool)
    → (is_given s.locks.leases name to && is_some (get s.leaves name)) ≡ c → IsBoth me (own s) → Fit s → HoldsTable made s
    → name ≡ o.name → place ≡ last_key None o.copied
    → AllByRecursion (λ (p : NodeNo × Letter). TellsNext (table made) o p.1)
    (if c then copy_part (pairs_after s.pairs name place) to number s else still s).out.letters
answered made me s to number o name place false e both fit h named at = tt
answered made me s to number o name place true e both fit h named at =
    let a = and_parts (is_given s.locks.leases name to) (is_some (get s.leaves name)) e in
    sent-if (table made) s to number o name place true named at
    (subst (λ n. HoldsUnder (table made) n s) named (leased-holds made me s name to both fit h a.0 a.1))

pub source-answers : (made : List Made) (me : ℕ) (s : BrickState) (to : NodeNo) (number : ℕ) (o : OpenOrder) (name : Name) (place : Option ℕ)
    → IsBoth me (own s) → Fit s → HoldsTable made s → number ≡ o.number → AsksNext o (letter.CopyAsk number name place)
    → AllByRecursion (λ (p : NodeNo × Letter). TellsNext (table made) o p.1) (live_brick_turn s to (letter.CopyAsk number name place)).out.letters
source-answers made me s to number o name place both fit h same asks =
    let k = asks same in
    answered made me s to number o name place (is_given s.locks.leases name to && is_some (get s.leaves name)) refl both fit h k.0 k.1
