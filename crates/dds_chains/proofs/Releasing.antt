-- Counting the pages that are taken back.
use Rattle.std.proofs.Common.{ℕ, ◌≡◌, ◌+◌, ◌<◌, List, [], ◌∷◌, ◌++◌, length, take, get_or, Option, Some, ap, subst, ◌∙◌, arith}
use Rattle.std.specs.Option.{option_to_list}
use Rattle.std.proofs.lemmas.List.{take_more}
use Rattle.dds_chains.specs.Index.{slot_uses, chain_uses, buckets_use, table_uses, tables_use}
use Rattle.dds_chains.specs.declared.table.Slot.{Slot}
use Rattle.dds_chains.specs.declared.table.Chains.{Chains}

pub uses-push : (n : ℕ) (tables : List Chains) (t : Chains) → tables_use n (tables ++ t ∷ []) ≡ tables_use n tables + table_uses n t
uses-push n [] t = omega arith
uses-push n (x ∷ xs) t = let r = uses-push n xs t in omega arith

uses-chain : (n : ℕ) (slots : List Slot) (slot s : Slot) → slot ≡ s → chain_uses n (slots ++ s ∷ []) ≡ chain_uses n slots + slot_uses n slot
uses-chain n [] slot s e = let k = ap (slot_uses n) e in omega arith
uses-chain n (x ∷ xs) slot s e = let r = uses-chain n xs slot s e in omega arith

uses-buckets : (n : ℕ) (buckets : List (List Slot)) (slots s : List Slot) → slots ≡ s →
    buckets_use n (buckets ++ s ∷ []) ≡ buckets_use n buckets + chain_uses n slots
uses-buckets n [] slots s e = let k = ap (chain_uses n) e in omega arith
uses-buckets n (x ∷ xs) slots s e = let r = uses-buckets n xs slots s e in omega arith

-- the counts of a chain's and a table's pages, as they are taken back
pub chain-more : (n : ℕ) (items slots : List Slot) (i : ℕ) (slot : Slot) → items ≡ slots → i < length items → slot ≡ get_or items i slot →
    chain_uses n (take (i + 1) slots) ≡ chain_uses n (take i slots) + slot_uses n slot
chain-more n items slots i slot e below is = subst (λ (ss : List Slot). chain_uses n (take (i + 1) ss) ≡ chain_uses n (take i ss) + slot_uses n slot) e
    (ap (chain_uses n) (take_more items i slot below) ∙ uses-chain n (take i items) slot (get_or items i slot) is)

pub buckets-more : (n : ℕ) (items buckets : List (List Slot)) (i : ℕ) (slots : List Slot) → items ≡ buckets → i < length items →
    slots ≡ get_or items i slots → buckets_use n (take (i + 1) buckets) ≡ buckets_use n (take i buckets) + chain_uses n slots
buckets-more n items buckets i slots e below is =
    subst (λ (bs : List (List Slot)). buckets_use n (take (i + 1) bs) ≡ buckets_use n (take i bs) + chain_uses n slots) e
    (ap (buckets_use n) (take_more items i slots below) ∙ uses-buckets n (take i items) slots (get_or items i slots) is)

-- the table that was dropped last
pub popped : (n : ℕ) (old new : List Chains) (o : Option Chains) (t : Chains) → old ≡ new ++ option_to_list o → o ≡ Some t →
    tables_use n old ≡ tables_use n new + table_uses n t
popped n old new o t e is = ap (tables_use n) (e ∙ ap (λ (p : Option Chains). new ++ option_to_list p) is) ∙ uses-push n new t
