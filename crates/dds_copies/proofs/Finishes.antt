use Rattle.std.proofs.Common.{◌≡◌, ℕ, ◌==◌, ◌&&◌, Bool, true, false, cond, Option, Some, None, List, [], ◌∷◌, refl, ap, ◌∙◌, subst}
use Rattle.std.proofs.lemmas.Bool.{and_parts}
use Rattle.std.specs.FinMap.{get, insert}
use Rattle.dds_base.specs.Name.{covers}
use Rattle.dds_base.specs.Place.{is_after, is_before, rise_after}
use Rattle.dds_base.specs.declared.pair.Pair.{Pair}
use Rattle.dds_history.proofs.Bindings.{get-bound}
use Rattle.dds_history.specs.Map.{Map}
use Rattle.dds_order_rows.specs.Orders.{pairs_after}
use Rattle.dds_order_rows.specs.OwnOrder.{bound}
use Rattle.dds_pairs.proofs.Bindings.{after-binds, after-rises, bound_by, same-key}
use Rattle.dds_states.specs.declared.brick_state.BrickState.{BrickState}
use Rattle.dds_states.specs.declared.brick_state.OpenOrder.{OpenOrder}
use Rattle.dds_copies.proofs.Tables.{absent, before-self}

-- At a join's end its brick holds the table under the join's name, and has the rest as before.

-- what pairs in order of place bind, beside those of a map
abbrev pub or_first : Option (List ℕ) → Option (List ℕ) → Option (List ℕ)
or_first None x = x
or_first (Some v) x = Some v

bound-if : (p : Pair) (ps : List Pair) (m : Map) (key : ℕ) (c : Bool) → (p.key == key) ≡ c → rise_after (Some p.key) ps ≡ true
    → or_first (bound_by ps key) (cond c (Some p.value) (get m key)) ≡ or_first (cond c (Some p.value) (bound_by ps key)) (get m key)
bound-if p ps m key true e h =
    ap (λ x. or_first x (Some p.value)) (absent (Some p.key) ps key h (subst (λ q. is_before p.key q ≡ false) (same-key p.key key e) (before-self p.key)))
bound-if p ps m key false e h = refl

pub get-bound-all : (after : Option ℕ) (ps : List Pair) (m : Map) (key : ℕ) → rise_after after ps ≡ true
    → get (bound m ps) key ≡ or_first (bound_by ps key) (get m key)
get-bound-all after [] m key h = refl
get-bound-all after (p ∷ ps) m key h =
    let a = and_parts (is_after after p.key) (rise_after (Some p.key) ps) h in
    get-bound-all (Some p.key) ps (insert m p.key p.value) key a.1 ∙ ap (or_first (bound_by ps key)) (get-bound m p.key p.value key)
    ∙ bound-if p ps m key (p.key == key) refl a.1

or-none : (x : Option (List ℕ)) → or_first x None ≡ x
or-none None = refl
or-none (Some v) = refl

held-if : (c : Bool) (x : Option (List ℕ)) → c ≡ true → cond (c && true) x None ≡ x
held-if true x e = refl
held-if false x e = cc

other-if : (c : Bool) (x y : Option (List ℕ)) → c ≡ false → or_first (cond (c && true) x None) y ≡ y
other-if true x y e = cc
other-if false x y e = refl

-- where the brick has no pair under the name
pub finish-holds : (table : Map) (s : BrickState) (o : OpenOrder) (key : ℕ) → o.copied ≡ pairs_after table o.name None
    → ((q : ℕ) → covers o.name q ≡ true → get s.pairs q ≡ None) → covers o.name key ≡ true → get (bound s.pairs o.copied) key ≡ get table key
finish-holds table s o key e none over =
    ap (λ l. get (bound s.pairs l) key) e
    ∙ get-bound-all None (pairs_after table o.name None) s.pairs key (after-rises table o.name None)
    ∙ ap (or_first (bound_by (pairs_after table o.name None) key)) (none key over) ∙ or-none _
    ∙ after-binds table o.name None key ∙ held-if (covers o.name key) (get table key) over

pub finish-leaves : (table : Map) (s : BrickState) (o : OpenOrder) (key : ℕ) → o.copied ≡ pairs_after table o.name None
    → covers o.name key ≡ false → get (bound s.pairs o.copied) key ≡ get s.pairs key
finish-leaves table s o key e out =
    ap (λ l. get (bound s.pairs l) key) e
    ∙ get-bound-all None (pairs_after table o.name None) s.pairs key (after-rises table o.name None)
    ∙ ap (λ x. or_first x (get s.pairs key)) (after-binds table o.name None key) ∙ other-if (covers o.name key) (get table key) (get s.pairs key) out
