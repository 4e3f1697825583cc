use Rattle.std.proofs.Common.{◌≡◌, ℕ, suc, ◌+◌, ◌==◌, ◌&&◌, ◌||◌, Bool, true, false, cond, nat_lt, Option, Some, None, List, [], ◌∷◌, ◌++◌, refl, sym, ap, ◌∙◌}
use Rattle.std.proofs.Common.{subst, T, is_some, take, drop, arith}
use Rattle.std.proofs.lemmas.Bool.{and_from, and_parts}
use Rattle.std.proofs.lemmas.Bool.Decides.{nat_tests}
use Rattle.std.specs.FinMap.{entries, entries_sorted, get, get-entries, is_sorted}
use Rattle.std.specs.FinMap.Entries.{below_all, find}
use Rattle.std.specs.Ordering.{is_lt, nat_cmp}
use Rattle.std.specs.Prelude.{if◌then◌else◌}
use Rattle.dds_base.specs.Name.{Name, covers}
use Rattle.dds_base.specs.Place.{bucket, is_after, is_before, rise_after}
use Rattle.dds_base.specs.declared.pair.Pair.{Pair}
use Rattle.dds_history.proofs.Bindings.{alike}
use Rattle.dds_history.specs.Map.{Map, pairs_of}
use Rattle.dds_order_rows.specs.Orders.{in_order, pairs_after, place_for, placed}

-- A map's pairs under a name, in order of place: what they bind each key to, and that their places rise.

-- what some pairs bind a key to
abbrev pub bound_by : List Pair → ℕ → Option (List ℕ)
bound_by [] key = None
bound_by (p ∷ ps) key = cond (p.key == key) (Some p.value) (bound_by ps key)

-- the order of places
pub same-key : (a b : ℕ) → (a == b) ≡ true → a ≡ b
same-key a b e = grind (arith, nat_tests, e)

pub self-key : (a : ℕ) → (a == a) ≡ true
self-key a = grind (arith, nat_tests)

one-first : (b c p q : ℕ) → (nat_lt b c || (b == c && nat_lt p q)) ≡ false → (q == p) ≡ false → (nat_lt c b || (c == b && nat_lt q p)) ≡ true
one-first b c p q e f = grind (arith, nat_tests, e, f)

pub other-before : (p q : ℕ) → is_before p q ≡ false → (q == p) ≡ false → is_before q p ≡ true
other-before p q e f = one-first (bucket p) (bucket q) p q e f

-- a pair is put in its place
abbrev placing : Pair → List Pair → List Pair
placing p [] = p ∷ []
placing p (q ∷ ps) = if is_before p.key q.key then p ∷ q ∷ ps else q ∷ placing p ps

put-at : (p q : Pair) (ps : List Pair) (n : ℕ) → take (n + 1) (q ∷ ps) ++ p ∷ drop (n + 1) (q ∷ ps) ≡ q ∷ (take n ps ++ p ∷ drop n ps)
put-at p q ps n =
    let is : n + 1 ≡ suc n = omega arith in
    subst (λ k. take k (q ∷ ps) ++ p ∷ drop k (q ∷ ps) ≡ q ∷ (take n ps ++ p ∷ drop n ps)) (sym is) refl

placed-if : (p q : Pair) (ps : List Pair) (c : Bool) → placed p ps ≡ placing p ps
    → take (if c then 0 else place_for ps p.key + 1) (q ∷ ps) ++ p ∷ drop (if c then 0 else place_for ps p.key + 1) (q ∷ ps)
    ≡ (if c then p ∷ q ∷ ps else q ∷ placing p ps)
placed-if p q ps true e = refl
placed-if p q ps false e = put-at p q ps (place_for ps p.key) ∙ ap (λ l. q ∷ l) e

placed-is : (p : Pair) (ps : List Pair) → placed p ps ≡ placing p ps
placed-is p [] = refl
placed-is p (q ∷ ps) = placed-if p q ps (is_before p.key q.key) (placed-is p ps)

-- the places still rise
none-here : (q : Pair) (ps : List Pair) (key : ℕ) (c : Bool) → (q.key == key) ≡ c → cond c (Some q.value) (bound_by ps key) ≡ None
    → ((q.key == key) ≡ false) × (bound_by ps key ≡ None)
none-here q ps key true e h = cc
none-here q ps key false e h = (e, h)

rising-if : (after : Option ℕ) (p q : Pair) (ps : List Pair) (c : Bool) → is_before p.key q.key ≡ c → rise_after after (q ∷ ps) ≡ true
    → is_after after p.key ≡ true → (is_before q.key p.key ≡ true → rise_after (Some q.key) (placing p ps) ≡ true) → (q.key == p.key) ≡ false
    → rise_after after (if c then p ∷ q ∷ ps else q ∷ placing p ps) ≡ true
rising-if after p q ps true e h k f ne =
    let parts = and_parts (is_after after q.key) (rise_after (Some q.key) ps) h in
    and_from (is_after after p.key) (rise_after (Some p.key) (q ∷ ps)) k (and_from (is_before p.key q.key) (rise_after (Some q.key) ps) e parts.1)
rising-if after p q ps false e h k f ne =
    let parts = and_parts (is_after after q.key) (rise_after (Some q.key) ps) h in
    and_from (is_after after q.key) (rise_after (Some q.key) (placing p ps)) parts.0 (f (other-before p.key q.key e ne))

placing-rises : (after : Option ℕ) (p : Pair) (ps : List Pair) → rise_after after ps ≡ true → is_after after p.key ≡ true → bound_by ps p.key ≡ None
    → rise_after after (placing p ps) ≡ true
placing-rises after p [] h k free = and_from (is_after after p.key) true k refl
placing-rises after p (q ∷ ps) h k free =
    let parts = and_parts (is_after after q.key) (rise_after (Some q.key) ps) h in
    let none = none-here q ps p.key (q.key == p.key) refl free in
    rising-if after p q ps (is_before p.key q.key) refl h k (λ b. placing-rises (Some q.key) p ps parts.1 b none.1) none.0

-- what is bound with the pair
swapped : (p q : Pair) (key : ℕ) (x : Option (List ℕ)) (c d : Bool) → (q.key == key) ≡ c → (p.key == key) ≡ d → (q.key == p.key) ≡ false
    → cond c (Some q.value) (cond d (Some p.value) x) ≡ cond d (Some p.value) (cond c (Some q.value) x)
swapped p q key x true true e f ne =
    let is : q.key ≡ p.key = same-key q.key key e ∙ sym (same-key p.key key f) in
    let no : true ≡ false = sym (self-key q.key) ∙ ap (λ k. q.key == k) is ∙ ne in
    cc
swapped p q key x true false e f ne = refl
swapped p q key x false d e f ne = refl

placing-if : (p q : Pair) (ps : List Pair) (key : ℕ) (c : Bool) → (q.key == p.key) ≡ false
    → bound_by (placing p ps) key ≡ cond (p.key == key) (Some p.value) (bound_by ps key)
    → bound_by (if c then p ∷ q ∷ ps else q ∷ placing p ps) key ≡ cond (p.key == key) (Some p.value) (bound_by (q ∷ ps) key)
placing-if p q ps key true ne h = refl
placing-if p q ps key false ne h =
    ap (λ x. cond (q.key == key) (Some q.value) x) h ∙ swapped p q key (bound_by ps key) (q.key == key) (p.key == key) refl refl ne

placing-binds : (p : Pair) (ps : List Pair) (key : ℕ) → bound_by ps p.key ≡ None
    → bound_by (placing p ps) key ≡ cond (p.key == key) (Some p.value) (bound_by ps key)
placing-binds p [] key free = refl
placing-binds p (q ∷ ps) key free =
    let none = none-here q ps p.key (q.key == p.key) refl free in
    placing-if p q ps key (is_before p.key q.key) none.0 (placing-binds p ps key none.1)

-- pairs that bind each key once, of keys that those found so far don't bind
abbrev pub Once : List Pair → Type 0
Once [] = Unit {0}
Once (p ∷ ps) = (bound_by ps p.key ≡ None) × Once ps

abbrev Fresh : List Pair → List Pair → Type 0
Fresh found ps = (key : ℕ) → is_some (bound_by ps key) ≡ true → bound_by found key ≡ None

-- one more is found, where it passes
abbrev chosen : Bool → Pair → List Pair → List Pair
chosen c p found = if c then placed p found else found

same-both : {X : Type 0} (c : Bool) (x : X) → x ≡ cond c x x
same-both true x = refl
same-both false x = refl

chosen-binds : (c : Bool) (p : Pair) (found : List Pair) (key : ℕ) → bound_by found p.key ≡ None
    → bound_by (chosen c p found) key ≡ cond (p.key == key) (cond c (Some p.value) (bound_by found key)) (bound_by found key)
chosen-binds true p found key free = ap (λ l. bound_by l key) (placed-is p found) ∙ placing-binds p found key free
chosen-binds false p found key free = same-both (p.key == key) (bound_by found key)

chosen-rises : (c : Bool) (p : Pair) (found : List Pair) → bound_by found p.key ≡ None → rise_after None found ≡ true
    → rise_after None (chosen c p found) ≡ true
chosen-rises true p found free h = subst (λ l. rise_after None l ≡ true) (sym (placed-is p found)) (placing-rises None p found h refl free)
chosen-rises false p found free h = h

-- what is bound by pairs that pass, or else by those found before
abbrev pick : Bool → Option (List ℕ) → Option (List ℕ) → Option (List ℕ)
pick c None x = x
pick c (Some value) x = cond c (Some value) x

abbrev passes : Name → Option ℕ → ℕ → Bool
passes name after key = covers name key && is_after after key

itself-some : (p : Pair) (ps : List Pair) → is_some (bound_by (p ∷ ps) p.key) ≡ true
itself-some p ps = ap (λ c. is_some (cond c (Some p.value) (bound_by ps p.key))) (self-key p.key)

free-of : (found : List Pair) (p : Pair) (ps : List Pair) → Fresh found (p ∷ ps) → bound_by found p.key ≡ None
free-of found p ps f = f p.key (itself-some p ps)

none-some : (x : Option (List ℕ)) → x ≡ None → is_some x ≡ true → ⊥
none-some None e h = cc
none-some (Some v) e h = cc

fresh-if : (c d : Bool) (p : Pair) (ps found : List Pair) (key : ℕ) → (p.key == key) ≡ d → bound_by ps p.key ≡ None → bound_by found p.key ≡ None
    → (is_some (cond d (Some p.value) (bound_by ps key)) ≡ true → bound_by found key ≡ None) → is_some (bound_by ps key) ≡ true
    → cond d (cond c (Some p.value) (bound_by found key)) (bound_by found key) ≡ None
fresh-if c true p ps found key e once free f h =
    absurd (none-some (bound_by ps key) (subst (λ k. bound_by ps k ≡ None) (same-key p.key key e) once) h)
fresh-if c false p ps found key e once free f h = f h

still-fresh : (c : Bool) (p : Pair) (ps found : List Pair) → bound_by ps p.key ≡ None → Fresh found (p ∷ ps) → Fresh (chosen c p found) ps
still-fresh c p ps found once f key h =
    let free = free-of found p ps f in
    chosen-binds c p found key free ∙ fresh-if c (p.key == key) p ps found key refl once free (f key) h

picked-if : (d : Bool) (p : Pair) (ps found : List Pair) (key : ℕ) (test : ℕ → Bool) → (p.key == key) ≡ d → bound_by ps p.key ≡ None
    → pick (test key) (bound_by ps key) (cond d (cond (test p.key) (Some p.value) (bound_by found key)) (bound_by found key))
    ≡ pick (test key) (cond d (Some p.value) (bound_by ps key)) (bound_by found key)
picked-if true p ps found key test e once =
    let is = same-key p.key key e in
    ap (λ x. pick (test key) x (cond (test p.key) (Some p.value) (bound_by found key))) (subst (λ k. bound_by ps k ≡ None) is once)
    ∙ ap (λ k. cond (test k) (Some p.value) (bound_by found key)) is
picked-if false p ps found key test e once = refl

pub record Ordered (name : Name) (after : Option ℕ) (ps found result : List Pair) : Type 0 where
  pub rises : rise_after None result ≡ true
  pub binds : (key : ℕ) → bound_by result key ≡ pick (passes name after key) (bound_by ps key) (bound_by found key)

ordered : (name : Name) (after : Option ℕ) (ps found : List Pair) → Once ps → Fresh found ps → rise_after None found ≡ true
    → Ordered name after ps found (in_order found name after ps)
ordered name after [] found once f h = record { rises = h; binds = λ key. refl }
ordered name after (p ∷ ps) found once f h =
    let c = passes name after p.key in
    let free = free-of found p ps f in
    let k = ordered name after ps (chosen c p found) once.1 (still-fresh c p ps found once.0 f) (chosen-rises c p found free h) in
    record {
      rises = k.rises;
      binds = λ key. k.binds key ∙ ap (pick (passes name after key) (bound_by ps key)) (chosen-binds c p found key free)
          ∙ picked-if (p.key == key) p ps found key (passes name after) refl once.0;
    }

-- a map's pairs bind what the map does, each key once
find-is : (es : List (ℕ × List ℕ)) (key : ℕ) → bound_by (pairs_of es) key ≡ find nat_cmp key es
find-is [] key = refl
find-is (e ∷ es) key =
    ap (λ x. cond (e.0 == key) (Some e.1) x) (find-is es key) ∙ ap (λ c. cond c (Some e.1) (find nat_cmp key es)) (sym (alike key e.0))

above : (k e : ℕ) → is_lt (nat_cmp k e) ≡ true → (e == k) ≡ false
above k e h = grind (arith, nat_tests, h)

apart-below : (k : ℕ) (es : List (ℕ × List ℕ)) → below_all nat_cmp k es ≡ true → bound_by (pairs_of es) k ≡ None
apart-below k [] h = refl
apart-below k (e ∷ es) h =
    let parts = and_parts (is_lt (nat_cmp k e.0)) (below_all nat_cmp k es) h in
    ap (λ c. cond c (Some e.1) (bound_by (pairs_of es) k)) (above k e.0 parts.0) ∙ apart-below k es parts.1

once-of : (es : List (ℕ × List ℕ)) → is_sorted nat_cmp es ≡ true → Once (pairs_of es)
once-of [] h = tt
once-of (e ∷ es) h =
    let parts = and_parts (below_all nat_cmp e.0 es) (is_sorted nat_cmp es) h in (apart-below e.0 es parts.0, once-of es parts.1)

true-of : (b : Bool) → T b → b ≡ true
true-of true h = refl
true-of false h = absurd h

pick-none : (c : Bool) (x : Option (List ℕ)) → pick c x None ≡ cond c x None
pick-none true None = refl
pick-none false None = refl
pick-none true (Some v) = refl
pick-none false (Some v) = refl

all-ordered : (m : Map) (name : Name) (after : Option ℕ) → Ordered name after (pairs_of (entries m)) [] (pairs_after m name after)
all-ordered m name after =
    ordered name after (pairs_of (entries m)) [] (once-of (entries m) (true-of _ (entries_sorted m))) (λ key h. refl) refl

pub after-rises : (m : Map) (name : Name) (after : Option ℕ) → rise_after None (pairs_after m name after) ≡ true
after-rises m name after = (all-ordered m name after).rises

pub after-binds : (m : Map) (name : Name) (after : Option ℕ) (key : ℕ)
    → bound_by (pairs_after m name after) key ≡ cond (covers name key && is_after after key) (get m key) None
after-binds m name after key =
    (all-ordered m name after).binds key ∙ pick-none (passes name after key) (bound_by (pairs_of (entries m)) key)
    ∙ ap (λ x. cond (passes name after key) x None) (find-is (entries m) key ∙ sym (get-entries m key))
