use Rattle.std.proofs.Common.{◌≡◌, ℕ, ◌==◌, ◌&&◌, ◌||◌, ◌++◌, inl, inr, Bool, true, false, cond, nat_lt, Option, Some, None, List, [], ◌∷◌, refl, sym, ap, ◌∙◌}
use Rattle.std.proofs.Common.{subst, arith}
use Rattle.std.proofs.lemmas.Bool.{and_parts, both_ways, cases_Bool}
use Rattle.std.proofs.lemmas.Bool.Decides.{nat_tests}
use Rattle.std.specs.FinMap.{get}
use Rattle.dds_base.specs.Name.{Name, covers}
use Rattle.dds_base.specs.Place.{bucket, is_after, is_before, last_key, rise_after}
use Rattle.dds_base.specs.declared.pair.Pair.{Pair}
use Rattle.dds_history.specs.Map.{Map}
use Rattle.dds_order_rows.specs.Orders.{pairs_after}
use Rattle.dds_pairs.proofs.Bindings.{after-binds, after-rises, bound_by, other-before, same-key, self-key}

-- Pairs in order of place are known by what they bind; so are a table's pairs under a name, and those of them behind a beginning.

-- the order of places
trans-of : (b c d p q r : ℕ) → (nat_lt b c || (b == c && nat_lt p q)) ≡ true → (nat_lt c d || (c == d && nat_lt q r)) ≡ true
    → (nat_lt b d || (b == d && nat_lt p r)) ≡ true
trans-of b c d p q r h k = grind (arith, nat_tests)

before-trans : (p q r : ℕ) → is_before p q ≡ true → is_before q r ≡ true → is_before p r ≡ true
before-trans p q r h k = trans-of (bucket p) (bucket q) (bucket r) p q r h k

not-self : (b p : ℕ) → (nat_lt b b || (b == b && nat_lt p p)) ≡ false
not-self b p = grind (arith, nat_tests)

pub before-self : (p : ℕ) → is_before p p ≡ false
before-self p = not-self (bucket p) p

after-before : (after : Option ℕ) (p q : ℕ) → is_after after p ≡ true → is_before p q ≡ true → is_after after q ≡ true
after-before None p q h k = refl
after-before (Some a) p q h k = before-trans a p q h k

false-by : (c : Bool) → (c ≡ true → ⊥) → c ≡ false
false-by true f = absurd (f refl)
false-by false f = refl

-- keys that pairs in order don't bind
absent-if : (p : Pair) (ps : List Pair) (key : ℕ) (c : Bool) → (p.key == key) ≡ c → (c ≡ true → ⊥) → bound_by ps key ≡ None
    → cond c (Some p.value) (bound_by ps key) ≡ None
absent-if p ps key true e f h = absurd (f refl)
absent-if p ps key false e f h = h

pub absent : (after : Option ℕ) (ps : List Pair) (key : ℕ) → rise_after after ps ≡ true → is_after after key ≡ false → bound_by ps key ≡ None
absent after [] key h e = refl
absent after (p ∷ ps) key h e =
    let parts = and_parts (is_after after p.key) (rise_after (Some p.key) ps) h in
    absent-if p ps key (p.key == key) refl
    (λ c. both_ways (is_after after key) e (subst (λ k. is_after after k ≡ true) (same-key p.key key c) parts.0))
    (absent (Some p.key) ps key parts.1 (false-by (is_before p.key key) (λ b. both_ways (is_after after key) e (after-before after p.key key parts.0 b))))

-- the first key of one list isn't before that of the other
not-before : (x y : Pair) (xs ys : List Pair) → rise_after (Some y.key) ys ≡ true → is_before x.key y.key ≡ true
    → bound_by (x ∷ xs) x.key ≡ bound_by (y ∷ ys) x.key → ⊥
not-before x y xs ys h b e =
    let ne : (y.key == x.key) ≡ false = false-by (y.key == x.key) (λ c. both_ways (is_before x.key y.key)
    (subst (λ k. is_before x.key k ≡ false) (sym (same-key y.key x.key c)) (before-self x.key)) b) in
    let back : is_before y.key x.key ≡ false = false-by (is_before y.key x.key) (λ c. both_ways (is_before x.key x.key) (before-self x.key)
    (before-trans x.key y.key x.key b c)) in
    let none = absent (Some y.key) ys x.key h back in
    let here : bound_by (x ∷ xs) x.key ≡ Some x.value = ap (λ c. cond c (Some x.value) (bound_by xs x.key)) (self-key x.key) in
    let there : bound_by (y ∷ ys) x.key ≡ None = ap (λ c. cond c (Some y.value) (bound_by ys x.key)) ne ∙ none in
    let no : Some x.value ≡ None = sym here ∙ e ∙ there in
    cc

firsts : (x y : Pair) (xs ys : List Pair) → rise_after (Some x.key) xs ≡ true → rise_after (Some y.key) ys ≡ true
    → ((key : ℕ) → bound_by (x ∷ xs) key ≡ bound_by (y ∷ ys) key) → x.key ≡ y.key
firsts x y xs ys h k f = elim (cases_Bool (y.key == x.key)) [
  | inl c ↦ sym (same-key y.key x.key c)
  | inr c ↦ elim (cases_Bool (is_before x.key y.key)) [
    | inl b ↦ absurd (not-before x y xs ys k b (f x.key))
    | inr b ↦ absurd (not-before y x ys xs h (other-before x.key y.key b c) (sym (f y.key)))
  ]
]

values : (x y : Pair) (xs ys : List Pair) → x.key ≡ y.key → bound_by (x ∷ xs) x.key ≡ bound_by (y ∷ ys) x.key → x.value ≡ y.value
values x y xs ys k e =
    let here : bound_by (x ∷ xs) x.key ≡ Some x.value = ap (λ c. cond c (Some x.value) (bound_by xs x.key)) (self-key x.key) in
    let there : bound_by (y ∷ ys) x.key ≡ Some y.value =
    ap (λ c. cond c (Some y.value) (bound_by ys x.key)) (ap (λ q. q == x.key) (sym k) ∙ self-key x.key) in
    some-is x.value y.value (sym here ∙ e ∙ there)
  where
    some-is : (a b : List ℕ) → Some a ≡ Some b → a ≡ b
    some-is a b e = cc

tail-if : (x y : Pair) (xs ys : List Pair) (key : ℕ) (c : Bool) → (x.key == key) ≡ c → x.key ≡ y.key → rise_after (Some x.key) xs ≡ true
    → rise_after (Some y.key) ys ≡ true → cond c (Some x.value) (bound_by xs key) ≡ cond c (Some y.value) (bound_by ys key)
    → bound_by xs key ≡ bound_by ys key
tail-if x y xs ys key true e k h i f =
    let is = same-key x.key key e in
    absent (Some x.key) xs key h (subst (λ q. is_before x.key q ≡ false) is (before-self x.key))
    ∙ sym (absent (Some y.key) ys key i (subst (λ q. is_before y.key q ≡ false) (sym k ∙ is) (before-self y.key)))
tail-if x y xs ys key false e k h i f = f

pub same-pairs : (after : Option ℕ) (xs ys : List Pair) → rise_after after xs ≡ true → rise_after after ys ≡ true
    → ((key : ℕ) → bound_by xs key ≡ bound_by ys key) → xs ≡ ys
same-pairs after [] [] h k f = refl
same-pairs after [] (y ∷ ys) h k f =
    let no : None ≡ Some y.value = f y.key ∙ ap (λ c. cond c (Some y.value) (bound_by ys y.key)) (self-key y.key) in cc
same-pairs after (x ∷ xs) [] h k f =
    let no : None ≡ Some x.value = sym (f x.key) ∙ ap (λ c. cond c (Some x.value) (bound_by xs x.key)) (self-key x.key) in cc
same-pairs after (x ∷ xs) (y ∷ ys) h k f =
    let a = and_parts (is_after after x.key) (rise_after (Some x.key) xs) h in
    let b = and_parts (is_after after y.key) (rise_after (Some y.key) ys) k in
    let key = firsts x y xs ys a.1 b.1 f in
    let value = values x y xs ys key (f x.key) in
    let first : x ≡ y = (λ i. record { key = key i; value = value i }) in
    let rest = same-pairs (Some x.key) xs ys a.1 (subst (λ q. rise_after (Some q) ys ≡ true) (sym key) b.1)
    (λ q. tail-if x y xs ys q (x.key == q) refl key a.1 b.1
    (f q ∙ ap (λ p. cond (p == q) (Some y.value) (bound_by ys q)) (sym key))) in
    ap (λ p. p ∷ xs) first ∙ ap (λ l. y ∷ l) rest

-- a table's pairs under a name are as another one's that has the same there
cond-if : (c d : Bool) (x y : Option (List ℕ)) → (c ≡ true → x ≡ y) → cond (c && d) x None ≡ cond (c && d) y None
cond-if true true x y f = f refl
cond-if true false x y f = refl
cond-if false d x y f = refl

pub same-under : (m n : Map) (name : Name) (after : Option ℕ) → ((key : ℕ) → covers name key ≡ true → get m key ≡ get n key)
    → pairs_after m name after ≡ pairs_after n name after
same-under m n name after f =
    same-pairs None (pairs_after m name after) (pairs_after n name after) (after-rises m name after) (after-rises n name after)
    (λ key. after-binds m name after key ∙ cond-if (covers name key) (is_after after key) (get m key) (get n key) (f key)
    ∙ sym (after-binds n name after key))

-- what stands behind a beginning
rise-end : (after : Option ℕ) (xs ys : List Pair) → rise_after after (xs ++ ys) ≡ true → rise_after (last_key after xs) ys ≡ true
rise-end after [] ys h = h
rise-end after (x ∷ xs) ys h = rise-end (Some x.key) xs ys (and_parts (is_after after x.key) (rise_after (Some x.key) (xs ++ ys)) h).1

rise-start : (after : Option ℕ) (ps : List Pair) → rise_after after ps ≡ true → rise_after None ps ≡ true
rise-start after [] h = refl
rise-start after (p ∷ ps) h = (and_parts (is_after after p.key) (rise_after (Some p.key) ps) h).1

-- the last key of pairs isn't before the first
not-last : (k : ℕ) (xs ys : List Pair) → rise_after (Some k) (xs ++ ys) ≡ true → is_after (last_key (Some k) xs) k ≡ false
not-last k [] ys h = before-self k
not-last k (x ∷ xs) ys h =
    let a = and_parts (is_before k x.key) (rise_after (Some x.key) (xs ++ ys)) h in
    false-by (is_after (last_key (Some x.key) xs) k) (λ c. both_ways (is_after (last_key (Some x.key) xs) x.key) (not-last x.key xs ys a.1)
    (after-before (last_key (Some x.key) xs) k x.key c a.0))

none-if : (c : Bool) (x : Option (List ℕ)) → (c ≡ false → x ≡ None) → x ≡ cond c x None
none-if true x f = refl
none-if false x f = f refl

behind-if : (x : Pair) (rest : List Pair) (key : ℕ) (c d : Bool) (b : Option (List ℕ)) → (x.key == key) ≡ c → (c ≡ true → d ≡ false)
    → b ≡ cond d (bound_by rest key) None → b ≡ cond d (cond c (Some x.value) (bound_by rest key)) None
behind-if x rest key true true b e f h = let no : true ≡ false = f refl in cc
behind-if x rest key true false b e f h = h
behind-if x rest key false d b e f h = h

behind : (after : Option ℕ) (xs ys : List Pair) (key : ℕ) → rise_after after (xs ++ ys) ≡ true
    → bound_by ys key ≡ cond (is_after (last_key after xs) key) (bound_by (xs ++ ys) key) None
behind after [] ys key h = none-if (is_after after key) (bound_by ys key) (λ e. absent after ys key h e)
behind after (x ∷ xs) ys key h =
    let a = and_parts (is_after after x.key) (rise_after (Some x.key) (xs ++ ys)) h in
    behind-if x (xs ++ ys) key (x.key == key) (is_after (last_key (Some x.key) xs) key) (bound_by ys key) refl
    (λ c. subst (λ q. is_after (last_key (Some x.key) xs) q ≡ false) (same-key x.key key c) (not-last x.key xs ys a.1))
    (behind (Some x.key) xs ys key a.1)

either-way : (c d : Bool) (x : Option (List ℕ)) → cond (c && d) x None ≡ cond d (cond (c && true) x None) None
either-way true true x = refl
either-way true false x = refl
either-way false true x = refl
either-way false false x = refl

pub rest-after : (m : Map) (name : Name) (xs ys : List Pair) → pairs_after m name None ≡ xs ++ ys → pairs_after m name (last_key None xs) ≡ ys
rest-after m name xs ys e =
    let rises : rise_after None (xs ++ ys) ≡ true = subst (λ l. rise_after None l ≡ true) e (after-rises m name None) in
    let last = last_key None xs in
    same-pairs None (pairs_after m name last) ys (after-rises m name last) (rise-start last ys (rise-end None xs ys rises))
    (λ key. after-binds m name last key ∙ either-way (covers name key) (is_after last key) (get m key)
    ∙ ap (λ x. cond (is_after last key) x None) (sym (after-binds m name None key) ∙ ap (λ l. bound_by l key) e)
    ∙ sym (behind None xs ys key rises))
