-- The keys and the pages that a walk has met.
use Rattle.std.proofs.Common.{ℕ, ◌≡◌, ◌≢◌, ◌-◌, ◌^◌, Option, Some, Result, Err, subst, ◌==◌, ◌||◌, Bool, true, false, cond, List, [], ◌∷◌}
use Rattle.std.proofs.Common.{◌++◌, refl, sym, ap, ◌∙◌, arith}
use Rattle.std.proofs.lemmas.Bool.Decides.{nat_tests}
use Rattle.std.proofs.lemmas.List.Folds.{list_any-append}
use Rattle.std.specs.Ordering.{nat_cmp}
use Rattle.std.specs.List.{list_any}
use Rattle.std.specs.BTreeMap.{is_at}
use Rattle.std.specs.BTreeSet.{BTreeSet, contains, IsEmpty, Updates}
use Rattle.dds_disk.specs.Pages.{Pages, page_at}
use Rattle.dds_base.specs.Name.{Name}
use Rattle.dds_pages.specs.Bucket.{Bucket}
use Rattle.dds_pages.specs.Said.{old_bucket_in}
use Rattle.dds_table.specs.declared.fault.LiftFault.{LiftFault}
use Rattle.dds_table.specs.declared.walk.Walk.{Walk}
use Rattle.dds_table.specs.Old.{turn, bucket_turn, page_turn, IsTurn}
use Rattle.dds_table.specs.Met.{AreNumbersOf, Adds}

at-number : (k q : ℕ) → is_at (nat_cmp k) q ≡ (k == q)
at-number k q = grind (arith, nat_tests)

or-cond : (b c : Bool) → cond b true c ≡ (b || c)
or-cond true c = refl
or-cond false c = refl

pub added : (was now : BTreeSet ℕ) (k : ℕ) → Updates nat_cmp was now k true → Adds was k now
added was now k u q = u.0 q ∙ ap (λ (b : Bool). cond b true (contains nat_cmp was q)) (at-number k q) ∙ or-cond (k == q) (contains nat_cmp was q)

pub none-yet : {X : Type 0} (number : X → ℕ) (set : BTreeSet ℕ) → IsEmpty set → AreNumbersOf number set []
none-yet number set h q = ap (list_any (is_at (nat_cmp q))) h

or-last : (a b : Bool) → (a || b) ≡ (b || (a || false))
or-last true true = refl
or-last true false = refl
or-last false true = refl
or-last false false = refl

pub one-more : {X : Type 0} (number : X → ℕ) (was now : BTreeSet ℕ) (xs : List X) (x : X) → AreNumbersOf number was xs → Adds was (number x) now →
    AreNumbersOf number now (xs ++ x ∷ [])
one-more {X = X} number was now xs x h a q =
    a q ∙ ap (λ (b : Bool). number x == q || b) (h q) ∙ or-last (number x == q) (list_any (λ (y : X). number y == q) xs)
    ∙ sym (list_any-append (λ (y : X). number y == q) xs (x ∷ []))

-- a turn of a walk that isn't behind its bucket's last page
not-behind : (page : ℕ) → page ≢ 2 ^ 64 - 1 → (page == 2 ^ 64 - 1) ≡ false
not-behind page h = grind (arith, nat_tests, h)

turn-on : (p : Pages) (name : Name) (firsts : List ℕ) (walk : Walk) (seen : Bool) → walk.page ≢ 2 ^ 64 - 1 →
    list_any (λ (other : ℕ). other == walk.page) walk.seen ≡ seen →
    turn p name firsts walk ≡ cond seen (Err walk.page) (page_turn name walk (old_bucket_in (page_at p walk.page)))
turn-on p name firsts walk seen on h =
    ap (λ (b : Bool). cond b (bucket_turn firsts walk)
    (cond (list_any (λ (other : ℕ). other == walk.page) walk.seen) (Err walk.page) (page_turn name walk (old_bucket_in (page_at p walk.page)))))
    (not-behind walk.page on)
    ∙ ap (λ (b : Bool). cond b (Err walk.page) (page_turn name walk (old_bucket_in (page_at p walk.page)))) h

pub turn-seen : (p : Pages) (name : Name) (firsts : List ℕ) (walk : Walk) → walk.page ≢ 2 ^ 64 - 1 →
    list_any (λ (other : ℕ). other == walk.page) walk.seen ≡ true → turn p name firsts walk ≡ Err walk.page
turn-seen p name firsts walk on h = turn-on p name firsts walk true on h

pub turn-taken : (p : Pages) (name : Name) (firsts : List ℕ) (walk now : Walk) (bucket : Bucket) (r : Result Bool LiftFault) → walk.page ≢ 2 ^ 64 - 1 →
    list_any (λ (other : ℕ). other == walk.page) walk.seen ≡ false → old_bucket_in (page_at p walk.page) ≡ Some bucket →
    IsTurn (page_turn name walk (Some bucket)) walk now r → IsTurn (turn p name firsts walk) walk now r
turn-taken p name firsts walk now bucket r on unseen is h =
    subst (λ (t : Result (Option Walk) ℕ). IsTurn t walk now r) (sym (turn-on p name firsts walk false on unseen ∙ ap (page_turn name walk) is)) h
