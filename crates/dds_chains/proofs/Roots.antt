-- Writing a root page.
use Rattle.std.proofs.Common.{ℕ, zero, suc, ◌≡◌, ◌+◌, ◌<◌, ◌≤◌, List, [], ◌∷◌, ◌++◌, length, take, map, get_or, ◌∙◌, ap, arith, append_assoc, length-append}
use Rattle.std.specs.List.{flat_map}
use Rattle.std.proofs.lemmas.List.{length-take, length-map, take_all}
use Rattle.dds_pages.specs.Fields.{spelled, padded}
use Rattle.dds_pages.specs.Root.{root_head, root_bytes}
use Rattle.dds_pages.proofs.Numbers.{length-spelled}
use Rattle.dds_pages.proofs.RootPages.{put-next, put-room}
use Rattle.dds_chains.specs.Index.{first_page}
use Rattle.dds_chains.specs.declared.table.Slot.{Slot}

head-long : (pairs : ℕ) → length (root_head 2 pairs) ≡ 16
head-long pairs =
    let a = length-spelled 1 1 in
    let b = length-spelled 1 2 in
    let c = length-spelled 2 0 in
    let d = length-spelled 4 pairs in
    let e = length-spelled 8 0 in
    simp length-append (omega (arith, a, b, c, d, e))

-- there is room for the next first page
pub root-room : (was : List ℕ) (pairs : ℕ) (firsts : List ℕ) (i : ℕ) → was ≡ root_head 2 pairs ++ flat_map (spelled 8) (take i firsts) → i < 256 →
    length was + 8 ≤ 4096
root-room was pairs firsts i h below =
    let t = length-take i firsts in
    let r = put-room (root_head 2 pairs) was firsts i h (omega (arith, t)) in
    let l = head-long pairs in
    omega (arith, r, l)

first-at : (buckets : List (List Slot)) (i : ℕ) (slots : List Slot) → i < length buckets → slots ≡ get_or buckets i slots →
    first_page slots ≡ get_or (map first_page buckets) i 0
first-at [] i slots below e = absurd (omega arith)
first-at (x ∷ xs) zero slots below e = ap first_page e
first-at (x ∷ xs) (suc i) slots below e = first-at xs i slots (omega arith) e

pub root-next : (was now : List ℕ) (pairs : ℕ) (buckets : List (List Slot)) (i first : ℕ) (slots : List Slot) →
    was ≡ root_head 2 pairs ++ flat_map (spelled 8) (take i (map first_page buckets)) → i < length buckets → slots ≡ get_or buckets i slots →
    first ≡ first_page slots → now ≡ was ++ spelled 8 first →
    now ≡ root_head 2 pairs ++ flat_map (spelled 8) (take (i + 1) (map first_page buckets))
root-next was now pairs buckets i first slots h below e is more =
    let l = length-map buckets first_page in
    more ∙ put-next (root_head 2 pairs) was (map first_page buckets) i first h (omega (arith, l)) (is ∙ first-at buckets i slots below e)

joined : (a b c d e f : List ℕ) → (a ++ (b ++ (c ++ (d ++ e)))) ++ f ≡ a ++ (b ++ (c ++ (d ++ (e ++ f))))
joined a b c d e f =
    append_assoc a (b ++ (c ++ (d ++ e))) f
    ∙ ap (λ (r : List ℕ). a ++ r) (append_assoc b (c ++ (d ++ e)) f
    ∙ ap (λ (r : List ℕ). b ++ r) (append_assoc c (d ++ e) f ∙ ap (λ (r : List ℕ). c ++ r) (append_assoc d e f)))

pub root-done : (was : List ℕ) (pairs : ℕ) (firsts : List ℕ) (i : ℕ) → was ≡ root_head 2 pairs ++ flat_map (spelled 8) (take i firsts) → length firsts ≤ i →
    padded was ≡ root_bytes 2 (record { pairs = pairs; firsts = firsts })
root-done was pairs firsts i h long =
    ap padded (h ∙ ap (λ (xs : List ℕ). root_head 2 pairs ++ flat_map (spelled 8) xs) (take_all i firsts long)
    ∙ joined (spelled 1 1) (spelled 1 2) (spelled 2 0) (spelled 4 pairs) (spelled 8 0) (flat_map (spelled 8) firsts))
