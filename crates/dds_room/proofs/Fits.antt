use Rattle.std.proofs.Common.{◌≡◌, ℕ, zero, suc, ◌+◌, ◌≤◌, ◌==◌, ◌&&◌, inl, inr, Bool, true, false, cond, map, Option}
use Rattle.std.proofs.Common.{Some, None, List, [], ◌∷◌, refl, sym, ap, ◌∙◌, subst}
use Rattle.std.proofs.Common.{arith}
use Rattle.std.proofs.lemmas.Bool.{and_from, and_parts}
use Rattle.std.proofs.lemmas.Bool.Decides.{nat_tests}
use Rattle.std.proofs.lemmas.List.{length-append, length-map}
use Rattle.std.specs.FinMap.{contains_key, get}
use Rattle.std.specs.List.{AllByRecursion, IsDistinct, list_all, list_any}
use Rattle.std.specs.Prelude.{is_some, length, nat_le, take}
use Rattle.dds_base.specs.Name.{Name, covers}
use Rattle.dds_base.specs.Place.{is_after, last_key, rise_after}
use Rattle.dds_base.specs.declared.pair.Pair.{Pair}
use Rattle.dds_brick_rows.specs.Refusal.{pairs_under}
use Rattle.dds_brick_rows.specs.declared.refusal.TheConstants.{PAIRS}
use Rattle.dds_core.proofs.Lists.{all-map}
use Rattle.dds_copies.proofs.Tables.{absent, before-self, same-under}
use Rattle.dds_copies.specs.Copies.{HoldsUnder, IsNextPart, rest_of}
use Rattle.dds_history.specs.Map.{Map}
use Rattle.dds_letters.specs.declared.copied_pairs.TheConstants.{COPIED}
use Rattle.dds_order_rows.specs.Orders.{pairs_after}
use Rattle.dds_order_rows.specs.OwnOrder.{fits, starts_after}
use Rattle.dds_pairs.proofs.Bindings.{after-binds, after-rises, bound_by, self-key}
use Rattle.dds_states.specs.declared.brick_state.BrickState.{BrickState}
use Rattle.dds_states.specs.declared.brick_state.OpenOrder.{OpenOrder}
use Rattle.dds_states.specs.declared.brick_state.OrderPhase.TheVariants.{Copying}
use Rattle.dds_world.specs.Values.{AreCopied}
use Rattle.dds_room.proofs.Counts.{few-pairs}
use Rattle.dds_room.proofs.TakenKeys.{or-either, same, same-is}
use Rattle.dds_room.specs.Room.{taken_under}

-- The next part of a table's pairs fits: what was copied with it is a beginning of the table's pairs under the name, which a source with room holds.

-- each pair of some is bound by them
bound-self : (p : Pair) (ps : List Pair) → is_some (bound_by (p ∷ ps) p.key) ≡ true
bound-self p ps = ap (λ c. is_some (cond c (Some p.value) (bound_by ps p.key))) (self-key p.key)

bound-later : (p : Pair) (ps : List Pair) (key : ℕ) (c : Bool) → is_some (bound_by ps key) ≡ true
    → is_some (cond c (Some p.value) (bound_by ps key)) ≡ true
bound-later p ps key true h = refl
bound-later p ps key false h = h

each-bound : (ps : List Pair) → AllByRecursion (λ (p : Pair). is_some (bound_by ps p.key) ≡ true) ps
each-bound [] = tt
each-bound (p ∷ ps) = (
  bound-self p ps,
  all-map (λ (q : Pair). is_some (bound_by ps q.key) ≡ true) (λ (q : Pair). is_some (bound_by (p ∷ ps) q.key) ≡ true) ps
      (λ q h. bound-later p ps q.key (p.key == q.key) h) (each-bound ps),
)

-- those of a map under a name and after a key lie there
passed : (c : Bool) (x : Option (List ℕ)) → is_some (cond c x None) ≡ true → c ≡ true
passed true x h = refl
passed false x h = cc

is-there : (c : Bool) (x : Option (List ℕ)) → is_some (cond c x None) ≡ true → is_some x ≡ true
is-there true x h = h
is-there false x h = cc

abbrev Lies : Name → Option ℕ → Pair → Type 0
Lies name after p = (covers name p.key && is_after after p.key) ≡ true

all-lie : (m : Map) (name : Name) (after : Option ℕ) → AllByRecursion (Lies name after) (pairs_after m name after)
all-lie m name after =
    all-map (λ (p : Pair). is_some (bound_by (pairs_after m name after) p.key) ≡ true) (Lies name after) (pairs_after m name after)
    (λ p h. passed (covers name p.key && is_after after p.key) (get m p.key) (sym (ap is_some (after-binds m name after p.key)) ∙ h))
    (each-bound (pairs_after m name after))

all-take : (P : Pair → Type 0) (n : ℕ) (ps : List Pair) → AllByRecursion P ps → AllByRecursion P (take n ps)
all-take P zero ps h = tt
all-take P (suc n) [] h = tt
all-take P (suc n) (p ∷ ps) h = (h.0, all-take P n ps h.1)

-- so a beginning of them passes the tests of a part
covers-all : (name : Name) (after : Option ℕ) (ps : List Pair) → AllByRecursion (Lies name after) ps → list_all (λ (p : Pair). covers name p.key) ps ≡ true
covers-all name after [] h = refl
covers-all name after (p ∷ ps) h =
    and_from (covers name p.key) (list_all (λ (q : Pair). covers name q.key) ps) (and_parts (covers name p.key) (is_after after p.key) h.0).0
    (covers-all name after ps h.1)

starts : (name : Name) (after : Option ℕ) (ps : List Pair) → AllByRecursion (Lies name after) ps → starts_after after ps ≡ true
starts name after [] h = refl
starts name after (p ∷ ps) h = (and_parts (covers name p.key) (is_after after p.key) h.0).1

-- how many there are
abbrev keys_of : List Pair → List ℕ
keys_of ps = map (λ (p : Pair). p.key) ps

none-if : (key : ℕ) (p : Pair) (x : Option (List ℕ)) (c : Bool) → (p.key == key) ≡ c → cond c (Some p.value) x ≡ None → (same key p.key ≡ false) × (x ≡ None)
none-if key p x true e h = cc
none-if key p x false e h = (grind (arith, nat_tests, e), h)

unbound : (ps : List Pair) (key : ℕ) → bound_by ps key ≡ None → AllByRecursion (λ k. same key k ≡ false) (keys_of ps)
unbound [] key h = tt
unbound (p ∷ ps) key h = let r = none-if key p (bound_by ps key) (p.key == key) refl h in (r.0, unbound ps key r.1)

rise-once : (after : Option ℕ) (ps : List Pair) → rise_after after ps ≡ true → IsDistinct same (keys_of ps)
unfolding IsDistinct
rise-once after [] h = tt
rise-once after (p ∷ ps) h =
    let a = and_parts (is_after after p.key) (rise_after (Some p.key) ps) h in
    (unbound ps p.key (absent (Some p.key) ps p.key a.1 (before-self p.key)), rise-once (Some p.key) ps a.1)

among-all : (P : ℕ → Type 0) (ps : List Pair) (q : ℕ) → AllByRecursion (λ (p : Pair). P p.key) ps → list_any (λ k. same q k) (keys_of ps) ≡ true → P q
among-all P [] q h i = cc
among-all P (p ∷ ps) q h i = elim (or-either (same q p.key) (list_any (λ k. same q k) (keys_of ps)) i) [
  | inl e ↦ subst P (sym (same-is q p.key e)) h.0
  | inr e ↦ among-all P ps q h.1 e
]

few-after : (m : Map) (name : Name) → length (pairs_after m name None) ≤ pairs_under m name
few-after m name =
    let ps = pairs_after m name None in
    let all = all-map (λ (p : Pair). is_some (bound_by ps p.key) ≡ true)
    (λ (p : Pair). (covers name p.key ≡ true) × (contains_key m p.key ≡ true)) ps
    (λ p h.
    let k = sym (ap is_some (after-binds m name None p.key)) ∙ h in
    let over = passed (covers name p.key && true) (get m p.key) k in
    ((and_parts (covers name p.key) true over).0, is-there (covers name p.key && true) (get m p.key) k)) (each-bound ps) in
    let le = few-pairs m name (keys_of ps) (rise-once None ps (after-rises m name None))
    (λ q i. among-all (λ k. (covers name k ≡ true) × (contains_key m k ≡ true)) ps q all i) in
    let size : length (keys_of ps) ≡ length ps = length-map ps (λ (p : Pair). p.key) in
    omega (arith, le, size)

length-take : (n : ℕ) (ps : List Pair) → length (take n ps) ≤ length ps
length-take zero ps = omega arith
length-take (suc n) [] = omega arith
length-take (suc n) (p ∷ ps) = let h = length-take n ps in omega (arith, h)

-- the source's room
source-few : (table : Map) (s : BrickState) (name : Name) → HoldsUnder table name s → taken_under s name ≤ PAIRS
    → length (pairs_after table name None) ≤ PAIRS
source-few table s name holds room =
    let le = few-after s.pairs name in
    let same : length (pairs_after s.pairs name None) ≡ length (pairs_after table name None) = ap length (same-under s.pairs table name None holds) in
    omega (arith, le, room, same)

within : (n k : ℕ) → n ≤ k → nat_le n k ≡ true
within n k h = grind (arith, nat_tests, h)

pub part-fits : (table : Map) (o : OpenOrder) (source : ℕ) (last : Bool) (pairs : List Pair) → AreCopied table o (Copying source)
    → IsNextPart (rest_of table o) last pairs → length (pairs_after table o.name None) ≤ PAIRS → fits o pairs ≡ true
part-fits table o source last pairs copied part few =
    let after = last_key None o.copied in
    let rest = rest_of table o in
    let all : AllByRecursion (Lies o.name after) pairs =
    subst (AllByRecursion (Lies o.name after)) (sym part.are) (all-take (Lies o.name after) COPIED rest (all-lie table o.name after)) in
    let size : length pairs ≡ length (take COPIED rest) = ap length part.are in
    let less = length-take COPIED rest in
    let whole : length o.copied + length rest ≡ length (pairs_after table o.name None) = sym (length-append o.copied rest) ∙ ap length copied in
    let le : length o.copied + length pairs ≤ PAIRS = sizes (length o.copied) (length pairs) (length (take COPIED rest)) (length rest)
    (length (pairs_after table o.name None)) size less whole few in
    and_from (list_all (λ (p : Pair). covers o.name p.key) pairs) (starts_after after pairs && nat_le (length o.copied + length pairs) PAIRS)
    (covers-all o.name after pairs all)
    (and_from (starts_after after pairs) (nat_le (length o.copied + length pairs) PAIRS) (starts o.name after pairs all)
    (within (length o.copied + length pairs) PAIRS le))
  where
    sizes : (c p t r w : ℕ) → p ≡ t → t ≤ r → c + r ≡ w → w ≤ PAIRS → c + p ≤ PAIRS
    sizes c p t r w e f g h = omega (arith, e, f, g, h)

-- from a source that holds the table
pub comes-from : (table : Map) (s : BrickState) (o : OpenOrder) (source : ℕ) (last : Bool) (pairs : List Pair) → AreCopied table o (Copying source)
    → IsNextPart (rest_of table o) last pairs → HoldsUnder table o.name s → taken_under s o.name ≤ PAIRS → fits o pairs ≡ true
comes-from table s o source last pairs copied part holds room =
    part-fits table o source last pairs copied part (source-few table s o.name holds room)
