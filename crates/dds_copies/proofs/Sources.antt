use Rattle.std.proofs.Common.{◌≡◌, ℕ, ◌==◌, ◌&&◌, ◌||◌, Bool, true, false, Option, Some, None, List, [], ◌∷◌, refl, ap, ◌∙◌, subst}
use Rattle.std.proofs.lemmas.Bool.{both_ways}
use Rattle.std.specs.FinMap.{get}
use Rattle.std.specs.List.{AllByRecursion}
use Rattle.std.specs.Prelude.{is_some, length, nat_le, take, if◌then◌else◌}
use Rattle.dds_base.specs.Name.{Name, covers}
use Rattle.dds_base.specs.Number.{Txn}
use Rattle.dds_base.specs.Op.{the_key}
use Rattle.dds_base.specs.Place.{last_key}
use Rattle.dds_base.specs.declared.number.NodeNo.{NodeNo}
use Rattle.dds_base.specs.declared.pending.Pending.{Pending}
use Rattle.dds_cluster.specs.declared.trace.Made.{Made}
use Rattle.dds_core.specs.Brick.{live_brick_turn}
use Rattle.dds_history.specs.Map.{Map}
use Rattle.dds_letters.specs.declared.copied_pairs.TheConstants.{COPIED}
use Rattle.dds_letters.specs.declared.letter.Letter.{Letter}
use Rattle.dds_letters.specs.declared.letter.Letter.TheVariants as letter
use Rattle.dds_locks.specs.Leases.{is_given}
use Rattle.dds_locks.specs.Pending.{any_under, holder}
use Rattle.dds_order_rows.specs.Orders.{copy_part, pairs_after}
use Rattle.dds_pairs.proofs.Bindings.{same-key}
use Rattle.dds_states.specs.Leaf.{leaf_for}
use Rattle.dds_states.specs.Turn.{still}
use Rattle.dds_states.specs.declared.brick_state.BrickState.{BrickState}
use Rattle.dds_states.specs.declared.brick_state.OpenOrder.{OpenOrder}
use Rattle.dds_values.specs.Values.{HoldsTable, before, bound_in, table}
use Rattle.dds_copies.proofs.Tables.{same-under}
use Rattle.dds_copies.specs.Copies.{AsksNext, HoldsUnder, IsNextPart, TellsNext, rest_of}

-- The source of a join holds the table under the join's name, and answers with the next part of it.

-- nothing pending under a name holds none of its keys
none-holds-if : (p : Pending) (rest : Option Txn) (key : ℕ) (name : Name) (c : Bool) → (the_key p.op == key) ≡ c → covers name key ≡ true
    → covers name (the_key p.op) ≡ false → rest ≡ None → (if c then Some p.txn else rest) ≡ None
none-holds-if p rest key name true e over free h =
    absurd (both_ways (covers name key) (subst (λ k. covers name k ≡ false) (same-key (the_key p.op) key e) free) over)
none-holds-if p rest key name false e over free h = h

pub neither : (a b : Bool) → (a || b) ≡ false → (a ≡ false) × (b ≡ false)
neither true b h = cc
neither false b h = (refl, h)

pub none-holds : (ps : List Pending) (name : Name) (key : ℕ) → any_under ps name ≡ false → covers name key ≡ true → holder ps key ≡ None
none-holds [] name key h over = refl
none-holds (p ∷ ps) name key h over =
    let k = neither (covers name (the_key p.op)) (any_under ps name) h in
    none-holds-if p (holder ps key) key name (the_key p.op == key) refl over k.0 (none-holds ps name key k.1 over)

-- a brick that serves the keys of a name, where nothing is pending under it, holds the table there
pub source-holds : (made : List Made) (s : BrickState) (name : Name) → HoldsTable made s → any_under s.locks.pending name ≡ false
    → ((key : ℕ) → covers name key ≡ true → is_some (leaf_for s.leaves key) ≡ true) → HoldsUnder (table made) name s
source-holds made s name h free serves key over =
    h.held key (serves key over) ∙ ap (λ q. bound_in (before made q) key) (none-holds s.locks.pending name key free over)

-- its answer
pub sent-if : (m : Map) (s : BrickState) (to : NodeNo) (number : ℕ) (o : OpenOrder) (name : Name) (place : Option ℕ) (c : Bool) → name ≡ o.name
    → place ≡ last_key None o.copied → HoldsUnder m o.name s
    → AllByRecursion (λ (p : NodeNo × Letter). TellsNext m o p.1)
    (if c then copy_part (pairs_after s.pairs name place) to number s else still s).out.letters
sent-if m s to number o name place false named at h = tt
sent-if m s to number o name place true named at h =
    let same : pairs_after s.pairs name place ≡ rest_of m o =
    ap (λ n. pairs_after s.pairs n place) named ∙ ap (pairs_after s.pairs o.name) at ∙ same-under s.pairs m o.name (last_key None o.copied) h in
    let found = pairs_after s.pairs name place in
    (λ e. subst (λ l. IsNextPart l (nat_le (length found) COPIED) (take COPIED found)) same (record { are = refl; ends = refl }), tt)

pub part-sent : (m : Map) (s : BrickState) (to : NodeNo) (number : ℕ) (o : OpenOrder) (name : Name) (place : Option ℕ) → number ≡ o.number
    → AsksNext o (letter.CopyAsk number name place) → HoldsUnder m o.name s
    → AllByRecursion (λ (p : NodeNo × Letter). TellsNext m o p.1) (live_brick_turn s to (letter.CopyAsk number name place)).out.letters
part-sent m s to number o name place same asks h =
    let k = asks same in
    sent-if m s to number o name place (is_given s.locks.leases name to && is_some (get s.leaves name)) k.0 k.1 h
