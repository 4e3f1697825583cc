-- The pairs of a table in the order of their places.
use Rattle.std.proofs.Common.{ℕ, zero, suc, ◌≡◌, ◌+◌, ◌-◌, ◌<◌, ◌≤◌, ◌==◌, ◌&&◌, ◌||◌, cond, nat_lt, Bool, true, false, List, [], ◌∷◌, ◌++◌}
use Rattle.std.proofs.Common.{length, take, get_or, Option, Some, None, is_some, refl, sym, ap, subst, ◌∙◌, arith, append_assoc}
use Rattle.std.specs.Option.{option_map}
use Rattle.std.proofs.lemmas.List.{take_more, take_all, append-nil}
use Rattle.std.proofs.lemmas.Bool.Decides.{nat_tests}
use Rattle.std.specs.FinMap.{get, contains_key}
use Rattle.dds_disk.specs.Pages.{Pages}
use Rattle.dds_base.specs.Name.{Name}
use Rattle.dds_chains.specs.Content.{Map, content}
use Rattle.dds_base.specs.Place.{bucket as bucket_no}
use Rattle.dds_chains.specs.Index.{place_of, found, slot_value, IsIndex, IsTable, AreKeysOf}
use Rattle.dds_chains.specs.Part.{IsNext, in_chain, has_key, IsPart, earlier}
use Rattle.dds_base.specs.Place.{is_after}
use Rattle.dds_base.specs.Place.{is_before}
use Rattle.dds_chains.specs.declared.table.Slot.{Slot}
use Rattle.dds_chains.specs.declared.table.Chains.{Chains}
use Rattle.dds_base.specs.declared.pair.Pair.{Pair}
use Rattle.dds_chains.proofs.Adding.{is-at}
use Rattle.dds_chains.proofs.Contents.{content-found}

pub next-none : (after : Option ℕ) → IsNext (in_chain []) after None
next-none after q h = cc

order : (b c d p q r : ℕ) → (nat_lt b c || (b == c && nat_lt p q)) ≡ true → (nat_lt c d || (c == d && nat_lt q r)) ≡ true →
    (nat_lt b d || (b == d && nat_lt p r)) ≡ true
order b c d p q r h k = grind (arith, nat_tests)

before-trans : (p q r : ℕ) → is_before p q ≡ true → is_before q r ≡ true → is_before p r ≡ true
before-trans p q r h k = order (bucket_no p) (bucket_no q) (bucket_no r) p q r h k

not-self : (b p : ℕ) → (nat_lt b b || (b == b && nat_lt p p)) ≡ false
not-self b p = grind (arith, nat_tests)

before-self : (p : ℕ) → is_before p p ≡ false
before-self p = not-self (bucket_no p) p

later-bucket : (b c p q : ℕ) → b < c → (nat_lt c b || (c == b && nat_lt q p)) ≡ false
later-bucket b c p q h = grind (arith, nat_tests)

pub not-before : (p q : ℕ) → bucket_no p < bucket_no q → is_before q p ≡ false
not-before p q h = later-bucket (bucket_no p) (bucket_no q) p q h

is-or : (a b : Bool) → (a || b) ≡ true → b ≡ false → a ≡ true
is-or true b h k = refl
is-or false b h k = cc

self-key : (k : ℕ) → (k == k) ≡ true
self-key k = grind (arith, nat_tests)

or-true : (a : Bool) → (a || true) ≡ true
or-true true = refl
or-true false = refl

-- a fact of the keys that passed before, and of one more
split : (has : ℕ → Bool) (key : ℕ) (P : ℕ → Type 0) → ((q : ℕ) → has q ≡ true → P q) → P key → (q : ℕ) → (has q || (key == q)) ≡ true → P q
split has key P h k q e = (elim (key == q) as (λ t. (key == q) ≡ t → P q) [
  | true ↦ λ t. subst P (is-at key q t) k
  | false ↦ λ t. h q (is-or (has q) (key == q) e t)
]) refl

not-earlier : (q key old : ℕ) → is_before q old ≡ false → is_before key old ≡ true → is_before q key ≡ false
not-earlier q key old h u = (elim (is_before q key) as (λ t. is_before q key ≡ t → t ≡ false) [
  | true ↦ λ t. let k = before-trans q key old t u in cc
  | false ↦ λ t. refl
]) refl

earlier-next : (has : ℕ → Bool) (after best : Option ℕ) (key : ℕ) → IsNext has after best → IsNext (λ q. has q || (key == q)) after (earlier best after key)
earlier-next has after None key h = (elim (is_after after key) as (λ t. is_after after key ≡ t →
    IsNext (λ q. has q || (key == q)) after (cond t (Some key) None)) [
      | true ↦ λ t. (
        ap (λ (b : Bool). has key || b) (self-key key) ∙ or-true (has key),
        t,
        λ q e a. split has key (λ q. is_after after q ≡ true → is_before q key ≡ false) (λ q e a. let n = h q e in cc) (λ a. before-self key) q e a,
      )
      | false ↦ λ t. λ q e. split has key (λ q. is_after after q ≡ false) h t q e
    ]) refl
earlier-next has after (Some old) key h =
    (elim (is_after after key) as (λ t. is_after after key ≡ t →
    IsNext (λ q. has q || (key == q)) after (cond t (Some (cond (is_before key old) key old)) (Some old))) [
      | true ↦ λ t. (elim (is_before key old) as (λ u. is_before key old ≡ u → IsNext (λ q. has q || (key == q)) after (Some (cond u key old))) [
        | true ↦ λ u. (
          ap (λ (b : Bool). has key || b) (self-key key) ∙ or-true (has key),
          t,
          λ q e a. split has key (λ q. is_after after q ≡ true → is_before q key ≡ false) (λ q e a. not-earlier q key old (h.2 q e a) u)
              (λ a. before-self key) q e a,
        )
        | false ↦ λ u. (
          ap (λ (b : Bool). b || (key == old)) h.0,
          h.1,
          λ q e a. split has key (λ q. is_after after q ≡ true → is_before q old ≡ false) h.2 (λ a. u) q e a,
        )
      ]) refl
      | false ↦ λ t. (
        ap (λ (b : Bool). b || (key == old)) h.0,
        h.1,
        λ q e a. split has key (λ q. is_after after q ≡ true → is_before q old ≡ false) h.2 (λ a. cc) q e a,
      )
    ]) refl

some-map : (o : Option ℕ) → is_some (option_map suc o) ≡ is_some o
some-map None = refl
some-map (Some n) = refl

in-more : (slots : List Slot) (s : Slot) (q : ℕ) → in_chain (slots ++ s ∷ []) q ≡ (in_chain slots q || (s.key == q))
in-more [] s q = elim (s.key == q) as (λ t. is_some (cond t (Some 0) (option_map suc None)) ≡ t) [ true ↦ refl | false ↦ refl ]
in-more (x ∷ xs) s q = elim (x.key == q)
    as (λ t. is_some (cond t (Some 0) (option_map suc (place_of (xs ++ s ∷ []) q)))
    ≡ (is_some (cond t (Some 0) (option_map suc (place_of xs q))) || (s.key == q))) [
      | true ↦ refl
      | false ↦ some-map (place_of (xs ++ s ∷ []) q) ∙ in-more xs s q ∙ ap (λ (b : Bool). b || (s.key == q)) (sym (some-map (place_of xs q)))
    ]

next-same : (has now : ℕ → Bool) (after best : Option ℕ) → ((q : ℕ) → now q ≡ has q) → IsNext has after best → IsNext now after best
next-same has now after None e h = λ q t. h q (sym (e q) ∙ t)
next-same has now after (Some k) e h = (e k ∙ h.0, h.1, λ q t a. h.2 q (sym (e q) ∙ t) a)

pub next-more : (slots : List Slot) (i : ℕ) (slot : Slot) (after best now : Option ℕ) → IsNext (in_chain (take i slots)) after best → i < length slots →
    slot ≡ get_or slots i slot → now ≡ earlier best after slot.key → IsNext (in_chain (take (i + 1) slots)) after now
next-more slots i slot after best now h below is e =
    subst (λ (o : Option ℕ). IsNext (in_chain (take (i + 1) slots)) after o) (sym e)
    (next-same (λ q. in_chain (take i slots) q || (slot.key == q)) (in_chain (take (i + 1) slots)) after (earlier best after slot.key)
    (λ q. ap (λ (ss : List Slot). in_chain ss q) (take_more slots i slot below ∙ ap (λ (s : Slot). take i slots ++ s ∷ []) (sym is))
    ∙ in-more (take i slots) slot q) (earlier-next (in_chain (take i slots)) after best slot.key h))

pub next-all : (slots : List Slot) (i : ℕ) (after best : Option ℕ) → IsNext (in_chain (take i slots)) after best → length slots ≤ i →
    IsNext (in_chain slots) after best
next-all slots i after best h done = subst (λ (ss : List Slot). IsNext (in_chain ss) after best) (take_all i slots done) h

in-chain-bucket : (name : Name) (b : ℕ) (slots : List Slot) (q : ℕ) → AreKeysOf name b slots → in_chain slots q ≡ true → bucket_no q ≡ b
in-chain-bucket name b [] q h t = cc
in-chain-bucket name b (s ∷ ss) q h t = (elim (s.key == q) as (λ u. (s.key == q) ≡ u → is_some (cond u (Some 0) (option_map suc (place_of ss q))) ≡ true →
    bucket_no q ≡ b) [
      | true ↦ λ u t. ap bucket_no (sym (is-at s.key q u)) ∙ h.0
      | false ↦ λ u t. in-chain-bucket name b ss q h.3 (sym (some-map (place_of ss q)) ∙ t)
    ]) refl t

at-any : (xs : List (List Slot)) (i : ℕ) (d e : List Slot) → i < length xs → get_or xs i d ≡ get_or xs i e
at-any [] i d e h = absurd (omega arith)
at-any (x ∷ xs) zero d e h = refl
at-any (x ∷ xs) (suc i) d e h = at-any xs i d e (omega arith)

below-test : (n m : ℕ) → nat_lt n m ≡ true → n < m
below-test n m h = grind (arith, nat_tests)

above-test : (n m : ℕ) → nat_lt n m ≡ false → (n == m) ≡ false → m < n
above-test n m h k = grind (arith, nat_tests)

-- the first key of the first bucket that has one
pub found-next : (t : Chains) (slots : List Slot) (b : ℕ) (after found : Option ℕ) → IsIndex t → b < length t.buckets.items →
    slots ≡ get_or t.buckets.items b slots → ((q : ℕ) → bucket_no q < b → has_key t q ≡ true → is_after after q ≡ false) →
    IsNext (in_chain slots) after found → is_some found ≡ true → IsNext (has_key t) after found
found-next t slots b after None x below e inv h some = cc
found-next t slots b after (Some k) x below e inv h some =
    let s : slots ≡ get_or t.buckets.items b [] = e ∙ at-any t.buckets.items b slots [] below in
    let kb : bucket_no k ≡ b = in-chain-bucket t.name b (get_or t.buckets.items b []) k (x.keys b) (ap (λ (ss : List Slot). in_chain ss k) (sym s) ∙ h.0) in
    let there : has_key t k ≡ true = ap (λ (j : ℕ). in_chain (get_or t.buckets.items j []) k) kb ∙ ap (λ (ss : List Slot). in_chain ss k) (sym s) ∙ h.0 in (
      there,
      h.1,
      λ q has a. (elim (nat_lt (bucket_no q) b) as (λ u. nat_lt (bucket_no q) b ≡ u → is_before q k ≡ false) [
        | true ↦ λ u. let n = inv q (below-test (bucket_no q) b u) has in cc
        | false ↦ λ u. (elim (bucket_no q == b) as (λ v. (bucket_no q == b) ≡ v → is_before q k ≡ false) [
          | true ↦ λ v. let qb : bucket_no q ≡ b = is-at (bucket_no q) b v in
              h.2 q (ap (λ (ss : List Slot). in_chain ss q) s ∙ sym (ap (λ (j : ℕ). in_chain (get_or t.buckets.items j []) q) qb) ∙ has) a
          | false ↦ λ v. let above = above-test (bucket_no q) b u v in not-before k q (omega arith)
        ]) refl
      ]) refl,
    )

pub found-in : (a : Pages) (slots : List Slot) (q : ℕ) → is_some (found a slots q) ≡ in_chain slots q
found-in a [] q = refl
found-in a (s ∷ ss) q = elim (s.key == q)
    as (λ u. is_some (cond u (Some (slot_value a s)) (found a ss q)) ≡ is_some (cond u (Some 0) (option_map suc (place_of ss q)))) [
      | true ↦ refl
      | false ↦ found-in a ss q ∙ sym (some-map (place_of ss q))
    ]

has-content : (a : Pages) (t : Chains) → IsIndex t → IsTable a t → (q : ℕ) → contains_key (content a t.root) q ≡ has_key t q
has-content a t x tab q = ap is_some (content-found a t q x tab) ∙ found-in a (get_or t.buckets.items (bucket_no q) []) q

pub next-content : (a : Pages) (t : Chains) (after o : Option ℕ) → IsIndex t → IsTable a t → IsNext (has_key t) after o →
    IsNext (λ q. contains_key (content a t.root) q) after o
next-content a t after o x tab h = next-same (has_key t) (λ q. contains_key (content a t.root) q) after o (has-content a t x tab) h

none-left : (m : Map) (after : Option ℕ) (n : ℕ) → IsNext (λ q. contains_key m q) after None → IsPart m after n [] true
none-left m after zero h = h
none-left m after (suc n) h = h

-- what is known while pairs are read
abbrev pub Continues : Map → Option ℕ → ℕ → List Pair → Option ℕ → ℕ → Type 0
Continues m start most pairs after left = (rest : List Pair) (last : Bool) → IsPart m after left rest last → IsPart m start most (pairs ++ rest) last

pub part-start : (m : Map) (start : Option ℕ) (most : ℕ) (pairs : List Pair) → pairs ≡ [] → Continues m start most pairs start (most - 0)
part-start m start most pairs e rest last h =
    subst (λ (ps : List Pair). IsPart m start most (ps ++ rest) last) (sym e) (subst (λ (n : ℕ). IsPart m start n rest last) (omega arith) h)

pub part-none : (m : Map) (start after : Option ℕ) (most left : ℕ) (pairs : List Pair) → Continues m start most pairs after left →
    IsNext (λ q. contains_key m q) after None → IsPart m start most pairs true
part-none m start after most left pairs c h = subst (λ (ps : List Pair). IsPart m start most ps true) (append-nil pairs) (c [] true (none-left m after left h))

pub part-some : (m : Map) (start after : Option ℕ) (most left key : ℕ) (pairs : List Pair) → Continues m start most pairs after left → left ≡ 0 →
    IsNext (λ q. contains_key m q) after (Some key) → IsPart m start most pairs false
part-some m start after most left key pairs c e h =
    subst (λ (ps : List Pair). IsPart m start most ps false) (append-nil pairs) (c [] false (subst (λ (n : ℕ). IsPart m after n [] false) (sym e) (key, h)))

pub part-more : (m : Map) (start after : Option ℕ) (most i : ℕ) (pairs now : List Pair) (pair : Pair) → Continues m start most pairs after (most - i) →
    i < most → IsNext (λ q. contains_key m q) after (Some pair.key) → Some pair.value ≡ get m pair.key → now ≡ pairs ++ pair ∷ [] →
    Continues m start most now (Some pair.key) (most - (i + 1))
part-more m start after most i pairs now pair c below h v e rest last p =
    let n : most - i ≡ suc (most - (i + 1)) = omega arith in
    let whole : pairs ++ (pair ∷ rest) ≡ now ++ rest = sym (ap (λ (ps : List Pair). ps ++ rest) e ∙ append_assoc pairs (pair ∷ []) rest) in
    subst (λ (ps : List Pair). IsPart m start most ps last) whole
    (c (pair ∷ rest) last (subst (λ (k : ℕ). IsPart m after k (pair ∷ rest) last) (sym n) (h, sym v, p)))

pub not-absent : (o found : Option (List ℕ)) → o ≡ found → o ≡ None → is_some found ≡ true → ⊥
not-absent None found e n s = let k = ap is_some e in cc
not-absent (Some v) found e n s = cc
