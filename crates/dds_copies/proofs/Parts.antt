use Rattle.std.proofs.Common.{◌≡◌, ℕ, zero, suc, ◌≤◌, ◌++◌, Bool, true, None, List, [], ◌∷◌, refl, sym, ap, ◌∙◌, append_assoc, arith}
use Rattle.std.proofs.lemmas.Bool.Decides.{nat_tests}
use Rattle.std.proofs.lemmas.List.{take-append-drop}
use Rattle.std.specs.Prelude.{drop, length, nat_le, take}
use Rattle.dds_base.specs.declared.number.NodeNo.{NodeNo}
use Rattle.dds_base.specs.declared.pair.Pair.{Pair}
use Rattle.dds_history.specs.Map.{Map}
use Rattle.dds_letters.specs.declared.copied_pairs.TheConstants.{COPIED}
use Rattle.dds_order_rows.specs.Orders.{pairs_after}
use Rattle.dds_states.specs.declared.brick_state.OpenOrder.{OpenOrder}
use Rattle.dds_states.specs.declared.brick_state.OrderPhase.TheVariants.{Copying}
use Rattle.dds_world.specs.Values.{AreCopied}
use Rattle.dds_copies.proofs.Tables.{rest-after}
use Rattle.dds_copies.specs.Copies.{IsNextPart, rest_of}

-- A part of the table's pairs comes to the join: what was copied is still a beginning of them, and behind the last part it is all of them.

-- where nothing was copied
pub none-copied : (table : Map) (o : OpenOrder) (source : NodeNo) → AreCopied table (record o { copied = [] }) (Copying source)
none-copied table o source = refl

take-all : (n : ℕ) (ps : List Pair) → length ps ≤ n → take n ps ≡ ps
take-all zero [] h = refl
take-all zero (p ∷ ps) h = absurd (too-long (length ps) h)
  where
    too-long : (k : ℕ) → suc k ≤ 0 → ⊥
    too-long k h = omega (arith, h)
take-all (suc n) [] h = refl
take-all (suc n) (p ∷ ps) h = let le : length ps ≤ n = omega (arith, h) in ap (λ l. p ∷ l) (take-all n ps le)

-- the order with a part more
abbrev pub with_part : OpenOrder → List Pair → OpenOrder
with_part o pairs = record o { copied = o.copied ++ pairs }

pub more-copied : (table : Map) (o : OpenOrder) (source : NodeNo) (last : Bool) (pairs : List Pair) → AreCopied table o (Copying source)
    → IsNextPart (rest_of table o) last pairs → AreCopied table (with_part o pairs) (Copying source)
more-copied table o source last pairs h part =
    let rest = rest_of table o in
    let n = COPIED in
    let split : pairs ++ drop n rest ≡ rest = ap (λ l. l ++ drop n rest) part.are ∙ take-append-drop n rest in
    let all : (o.copied ++ pairs) ++ drop n rest ≡ pairs_after table o.name None =
    append_assoc o.copied pairs (drop n rest) ∙ ap (λ l. o.copied ++ l) split ∙ h in
    ap (λ l. (o.copied ++ pairs) ++ l) (rest-after table o.name (o.copied ++ pairs) (drop n rest) (sym all)) ∙ all

pub all-copied : (table : Map) (o : OpenOrder) (source : NodeNo) (pairs : List Pair) → AreCopied table o (Copying source)
    → IsNextPart (rest_of table o) true pairs → o.copied ++ pairs ≡ pairs_after table o.name None
all-copied table o source pairs h part =
    let rest = rest_of table o in
    let few : length rest ≤ COPIED = short (length rest) (sym part.ends) in
    ap (λ l. o.copied ++ l) (part.are ∙ take-all COPIED rest few) ∙ h
  where
    short : (k : ℕ) → nat_le k COPIED ≡ true → k ≤ COPIED
    short k e = grind (arith, nat_tests, e)
