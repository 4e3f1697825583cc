-- The words for lists of bricks.
use Rattle.std.proofs.Common.{◌≡◌, ◌==◌, ℕ, ◌<◌, ◌≤◌, true, false, List, [], ◌∷◌, ◌++◌, length, map, refl, ap, sym, ◌∙◌, arith, append-nil}
use Rattle.std.proofs.Common.{length-append, inl, lit<, if◌then◌else◌}
use Rattle.std.proofs.lemmas.Bool.Decides.{nat_tests}
use Rattle.std.specs.Fmt.{decimal}
use Rattle.std.specs.List.{flat_map}
use Rattle.dds_script.proofs.Numbers.{decimal-hasno}
use Rattle.dds_script.proofs.Parting.{cut-none, cut-mark, cut-some}
use Rattle.dds_script.specs.Fields.{IsBelow, IsListWord}
use Rattle.dds_script.specs.Ranges.{AreBelow}
use Rattle.dds_script.specs.Text.{list_text, further_text}
use Rattle.dds_script.specs.Words.{HasNo, cut, put_first}

abbrev behind : ℕ → List (List ℕ) → List ℕ
behind mark [] = []
behind mark (t ∷ ts) = mark ∷ (t ++ behind mark ts)

-- the texts with the mark between them
abbrev rejoin : ℕ → List (List ℕ) → List ℕ
rejoin mark [] = []
rejoin mark (t ∷ ts) = t ++ behind mark ts

behind-some : (mark : ℕ) (ts : List (List ℕ)) → 0 < length ts → behind mark ts ≡ mark ∷ rejoin mark ts
behind-some mark [] h = absurd (omega (arith, h))
behind-some mark (t ∷ ts) h = refl

rejoin-put : (mark x : ℕ) (ts : List (List ℕ)) → rejoin mark (put_first x ts) ≡ x ∷ rejoin mark ts
rejoin-put mark x [] = refl
rejoin-put mark x (t ∷ ts) = refl

rejoin-cut : (mark : ℕ) (xs : List ℕ) → rejoin mark (cut mark xs) ≡ xs
rejoin-cut mark [] = refl
rejoin-cut mark (x ∷ xs) = elim (x == mark) as (λ b. (x == mark) ≡ b → rejoin mark (if b then [] ∷ cut mark xs else put_first x (cut mark xs)) ≡ x ∷ xs) [
  | true ↦ λ e. let m : mark ≡ x = grind (arith, nat_tests, e) in
      behind-some mark (cut mark xs) (cut-some mark xs) ∙ (ap (λ (l : List ℕ). mark ∷ l) (rejoin-cut mark xs) ∙ ap (λ (n : ℕ). n ∷ xs) m)
  | false ↦ λ e. rejoin-put mark x (cut mark xs) ∙ ap (λ (l : List ℕ). x ∷ l) (rejoin-cut mark xs)
] refl

further-behind : (list : List ℕ) → flat_map further_text list ≡ behind 44 (map decimal list)
further-behind [] = refl
further-behind (x ∷ list) = ap (λ (l : List ℕ). 44 ∷ (decimal x ++ l)) (further-behind list)

list-rejoin : (list : List ℕ) → list_text list ≡ rejoin 44 (map decimal list)
list-rejoin [] = refl
list-rejoin (x ∷ list) = ap (λ (l : List ℕ). decimal x ++ l) (further-behind list)

brick-hasno : (bricks x : ℕ) → bricks ≤ 255 → x < bricks → HasNo 44 (decimal x)
brick-hasno bricks x b h = decimal-hasno 44 x (inl (lit< tt)) (omega (arith, b, h))

cut-rejoin : (bricks x : ℕ) (list : List ℕ) → bricks ≤ 255 → x < bricks → AreBelow bricks list → cut 44 (rejoin 44 (decimal x ∷ map decimal list)) ≡ decimal x
    ∷ map decimal list
cut-rejoin bricks x [] b h all = rw (append-nil (decimal x)) (cut-none 44 (decimal x) (brick-hasno bricks x b h))
cut-rejoin bricks x (y ∷ list) b h all =
    cut-mark 44 (decimal x) (rejoin 44 (decimal y ∷ map decimal list)) (brick-hasno bricks x b h)
    ∙ ap (λ (l : List (List ℕ)). decimal x ∷ l) (cut-rejoin bricks y list b all.0 all.1)

-- the texts between the commas of a list's word are its numbers
pub list-cut : (bricks : ℕ) (word list : List ℕ) → bricks ≤ 255 → IsListWord bricks word list → cut 44 word ≡ map decimal list
list-cut bricks word [] b is = absurd (omega (arith, is.some))
list-cut bricks word (x ∷ list) b is =
    ap (cut 44) (is.spelled ∙ list-rejoin (x ∷ list)) ∙ cut-rejoin bricks x list b is.below.0 is.below.1

length-map : (list : List ℕ) → length (map decimal list) ≡ length list
length-map [] = refl
length-map (x ∷ list) = omega (arith, length-map list)

-- the word whose texts between the commas are numbers of bricks is their list
pub list-word : (bricks : ℕ) (word list : List ℕ) (left : List (List ℕ)) → cut 44 word ≡ map decimal list ++ left → left ≡ [] → length list ≤ 8 →
    AreBelow bricks list → IsListWord bricks word list
list-word bricks word list left e none most below =
    let c : cut 44 word ≡ map decimal list = e ∙ rw none (append-nil (map decimal list)) in
    record {
      spelled = sym (rejoin-cut 44 word) ∙ (ap (rejoin 44) c ∙ sym (list-rejoin list));
      some = omega (arith, cut-some 44 word, ap length c, length-map list);
      most = most;
      below = below;
    }

-- eight numbers, and more behind them
pub no-long-list : (bricks : ℕ) (word list : List ℕ) (left : List (List ℕ)) → bricks ≤ 255 → cut 44 word ≡ map decimal list ++ left → length list ≡ 8 →
    0 < length left → (x : List ℕ) → IsListWord bricks word x → ⊥
no-long-list bricks word list left b e full more x is =
    let c = list-cut bricks word x b is in
    omega (arith, ap length (sym c ∙ e), length-append (map decimal list) left, length-map list, length-map x, is.most, full, more)

found-in : (bricks : ℕ) (x : List ℕ) (first : List ℕ) (before after : List (List ℕ)) → AreBelow bricks x → map decimal x ≡ before ++ first ∷ after →
    (y : ℕ) × IsBelow bricks first y
found-in bricks [] first [] after all e = absurd cc
found-in bricks [] first (t ∷ before) after all e = absurd cc
found-in bricks (y ∷ x) first [] after all e = (y, record { spelled = cc; below = all.0 })
found-in bricks (y ∷ x) first (t ∷ before) after all e =
    let tail : map decimal x ≡ before ++ first ∷ after = cc in
    found-in bricks x first before after all.1 tail

-- a text that is no number of a brick
pub no-list : (bricks : ℕ) (word list first : List ℕ) (left after : List (List ℕ)) → bricks ≤ 255 → cut 44 word ≡ map decimal list ++ left →
    left ≡ first ∷ after → ((y : ℕ) → IsBelow bricks first y → ⊥) → (x : List ℕ) → IsListWord bricks word x → ⊥
no-list bricks word list first left after b e l none x is =
    let f = found-in bricks x first (map decimal list) after is.below (sym (list-cut bricks word x b is) ∙ (e ∙ rw l refl)) in
    none f.0 f.1

below-push : (bricks : ℕ) (list : List ℕ) (x : ℕ) → AreBelow bricks list → x < bricks → AreBelow bricks (list ++ x ∷ [])
below-push bricks [] x all h = (h, tt)
below-push bricks (y ∷ list) x all h = (all.0, below-push bricks list x all.1 h)

map-push : (list : List ℕ) (x : ℕ) (rest : List (List ℕ)) → map decimal (list ++ x ∷ []) ++ rest ≡ map decimal list ++ decimal x ∷ rest
map-push [] x rest = refl
map-push (y ∷ list) x rest = ap (λ (l : List (List ℕ)). decimal y ∷ l) (map-push list x rest)

-- one number more
pub list-more : (bricks : ℕ) (word list new first : List ℕ) (left after : List (List ℕ)) (x : ℕ) → cut 44 word ≡ map decimal list ++ left →
    left ≡ first ∷ after → IsBelow bricks first x → new ≡ list ++ x ∷ [] → AreBelow bricks list →
    (cut 44 word ≡ map decimal new ++ after) × AreBelow bricks new
list-more bricks word list new first left after x e l is n all =
    (e ∙ rw (l, is.spelled, n) (sym (map-push list x after)), rw n (below-push bricks list x all is.below))
