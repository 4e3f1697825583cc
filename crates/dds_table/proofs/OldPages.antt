-- What a page of version 1 that was read says, and where a walk goes.
use Rattle.std.proofs.Common.{ℕ, ◌≡◌, ◌==◌, ◌&&◌, ◌<◌, ◌+◌, List, [], ◌∷◌, ◌++◌, Bool, true, false, not, cond, Option, Some, None, Result}
use Rattle.std.proofs.Common.{Ok, Err, IsTrue, length, get_or, drop, zero, suc, refl, sym, ap, ◌∙◌, arith}
use Rattle.std.proofs.Math.Seq.{drop-cons}
use Rattle.dds_base.specs.Name.{Name, covers}
use Rattle.dds_base.specs.Place.{bucket as bucket_no}
use Rattle.std.specs.List.{list_any}
use Rattle.dds_base.specs.declared.pair.Pair.{Pair}
use Rattle.dds_disk.specs.Pages.{Pages, page_at}
use Rattle.dds_pages.specs.Fields.{form_1}
use Rattle.dds_pages.specs.declared.fault.PageFault.{PageFault}
use Rattle.dds_pages.specs.declared.fault.PageFault.TheVariants.{NotAPage, Memory}
use Rattle.dds_pages.specs.declared.bucket.PagePair.{PagePair}
use Rattle.dds_pages.specs.Root.{Root, IsRootRead}
use Rattle.dds_pages.specs.Bucket.{Bucket, IsBucketRead, IsHere, AreHere}
use Rattle.dds_table.specs.declared.walk.Walk.{Walk}
use Rattle.dds_table.specs.Old.{add_all, is_fresh, here_value, turn, walk_in, walk_then, counted, start_of, AreCovered, Ends, Walks}
use Rattle.dds_table.specs.Old.{IsWalked, IsWalk, IsTurn, IsCounted}
use Rattle.dds_pages.specs.Said.{old_root_in, old_bucket_in}
use Rattle.dds_table.specs.declared.fault.LiftFault.{LiftFault}
use Rattle.dds_table.specs.declared.fault.LiftFault.TheVariants.{Old, Page, Store, Memory as NoRoom}

pub root-accepted : (bytes : List ℕ) (root : Root) → IsRootRead 1 bytes (Ok root) → old_root_in bytes ≡ Some root
unfolding old_root_in
root-accepted bytes root h = rw h.0 (ap (λ (x : Root). Some x) (sym h.1))

pub root-refused : (bytes : List ℕ) (e : PageFault) (at : ℕ) → e ≡ NotAPage at → IsRootRead 1 bytes (Err e) → old_root_in bytes ≡ None
unfolding old_root_in
root-refused bytes (NotAPage at) k e h = rw h refl
root-refused bytes Memory k e h = cc

pub old-accepted : (bytes : List ℕ) (bucket : Bucket) → IsBucketRead form_1 bytes (Ok bucket) → old_bucket_in bytes ≡ Some bucket
unfolding old_bucket_in
old-accepted bytes bucket h = rw h.0 (ap (λ (x : Bucket). Some x) (sym h.1))

pub old-refused : (bytes : List ℕ) (e : PageFault) (at : ℕ) → e ≡ NotAPage at → IsBucketRead form_1 bytes (Err e) → old_bucket_in bytes ≡ None
unfolding old_bucket_in
old-refused bytes (NotAPage at) k e h = rw h refl
old-refused bytes Memory k e h = cc

-- each pair's value stands in its page
pub here-at : (pairs : List PagePair) (i : ℕ) (pair : PagePair) → AreHere pairs → i < length pairs → pair ≡ get_or pairs i pair → IsHere pair.held
here-at [] i pair h lt e = absurd (omega (arith, lt))
here-at (p ∷ ps) zero pair h lt e = rw e h.0
here-at (p ∷ ps) (suc i) pair h lt e = here-at ps i pair h.1 (omega (arith, lt)) e

-- one pair of a page more
pub add-next : (at : ℕ) (name : Name) (pairs : List Pair) (more : List PagePair) (i : ℕ) (pair : PagePair) (was : Option (List Pair)) → i < length more →
    pair ≡ get_or more i pair → was ≡ add_all at name pairs (drop i more) →
    was ≡ cond (is_fresh at name pairs pair.key) (add_all at name (pairs ++ record { key = pair.key; value = here_value pair.held } ∷ []) (drop (suc i) more))
    None
add-next at name pairs more i pair was lt e h =
    let split : drop i more ≡ pair ∷ drop (suc i) more = drop-cons more i pair lt ∙ ap (λ (p : PagePair). p ∷ drop (suc i) more) (sym e) in
    h ∙ ap (add_all at name pairs) split

pub covered-more : (name : Name) (pairs : List Pair) (pair : Pair) → AreCovered name pairs → IsTrue (covers name pair.key) →
    AreCovered name (pairs ++ pair ∷ [])
covered-more name [] pair h c = (c, tt)
covered-more name (p ∷ ps) pair h c = (h.0, covered-more name ps pair h.1 c)

pub covered-at : (name : Name) (pairs : List Pair) (i : ℕ) (pair : Pair) → AreCovered name pairs → i < length pairs → pair ≡ get_or pairs i pair →
    IsTrue (covers name pair.key)
covered-at name [] i pair h lt e = absurd (omega (arith, lt))
covered-at name (p ∷ ps) zero pair h lt e = rw e h.0
covered-at name (p ∷ ps) (suc i) pair h lt e = covered-at name ps i pair h.1 (omega (arith, lt)) e

-- a walk that goes on ends where it ends from there
pub walk-more : (p : Pages) (name : Name) (firsts : List ℕ) (w v : Walk) (k : ℕ) (end : Option (Result (List Pair) ℕ)) → turn p name firsts w ≡ Ok (Some v) →
    walk_in k p name firsts v ≡ end → walk_in (suc k) p name firsts w ≡ end
unfolding walk_in
walk-more p name firsts w v k end t h = ap (λ r. walk_then r w.pairs (walk_in k p name firsts)) t ∙ h

pub walk-done : (p : Pages) (name : Name) (firsts : List ℕ) (w : Walk) → turn p name firsts w ≡ Ok None → walk_in 1 p name firsts w ≡ Some (Ok w.pairs)
unfolding walk_in
walk-done p name firsts w t = ap (λ r. walk_then r w.pairs (walk_in 0 p name firsts)) t

pub walk-refused : (p : Pages) (name : Name) (firsts : List ℕ) (w : Walk) (page : ℕ) → turn p name firsts w ≡ Err page →
    walk_in 1 p name firsts w ≡ Some (Err page)
unfolding walk_in
walk-refused p name firsts w page t = ap (λ r. walk_then r w.pairs (walk_in 0 p name firsts)) t

-- a walk from its start that has come to a place ends where it ends from there
abbrev pub EndsFrom : Pages → Name → List ℕ → Walk → Walk → Type 0
EndsFrom p name firsts start walk = (k : ℕ) (end : Result (List Pair) ℕ) → walk_in k p name firsts walk ≡ Some end → Ends p name firsts start end

pub ends-start : (p : Pages) (name : Name) (firsts : List ℕ) (start walk : Walk) → walk ≡ start → EndsFrom p name firsts start walk
ends-start p name firsts start walk e k end h = record { turns = k; ended = ap (walk_in k p name firsts) (sym e) ∙ h }

pub ends-more : (p : Pages) (name : Name) (firsts : List ℕ) (start w v : Walk) (b : Bool) → b ≡ true → EndsFrom p name firsts start w →
    IsTurn (turn p name firsts w) w v (Ok b) → EndsFrom p name firsts start v
ends-more p name firsts start w v true e h t k end ended = h (suc k) end (walk-more p name firsts w v k (Some end) t ended)
ends-more p name firsts start w v false e h t k end ended = cc

of-root : (p : Pages) (name : Name) (page : ℕ) (root : Root) (answer : Result (List Pair) ℕ) → old_root_in (page_at p page) ≡ Some root →
    Walks p name page root answer → IsWalked p name page (old_root_in (page_at p page)) answer
of-root p name page root answer e h = rw e h

pub walk-counted : (p : Pages) (name : Name) (page : ℕ) (root : Root) (w v : Walk) (b : Bool) (r : Result (List Pair) LiftFault) → b ≡ false →
    old_root_in (page_at p page) ≡ Some root → EndsFrom p name root.firsts (start_of page root) w → IsTurn (turn p name root.firsts w) w v (Ok b) →
    IsCounted (counted page root.pairs (Ok v.pairs)) r → IsWalk p name page r
walk-counted p name page root w v true r b e h t c = cc
walk-counted p name page root w v false r b e h t c =
    let ends = h 1 (Ok w.pairs) (walk-done p name root.firsts w t.0) in
    let same : counted page root.pairs (Ok v.pairs) ≡ counted page root.pairs (Ok w.pairs) = ap (λ (x : Walk). counted page root.pairs (Ok x.pairs)) t.1 in
    over r (λ answer a. of-root p name page root answer e (record { end = Ok w.pairs; ends = ends; are = a })) same c
  where
    over : (r : Result (List Pair) LiftFault) →
        ((answer : Result (List Pair) ℕ) → answer ≡ counted page root.pairs (Ok w.pairs) → IsWalked p name page (old_root_in (page_at p page)) answer) →
        counted page root.pairs (Ok v.pairs) ≡ counted page root.pairs (Ok w.pairs) → IsCounted (counted page root.pairs (Ok v.pairs)) r →
        IsWalk p name page r
    over (Ok pairs) f s c = f (Ok pairs) (sym c ∙ s)
    over (Err (Page refused)) f s c = f (Err refused) (sym c ∙ s)
    over (Err Old) f s c = absurd c
    over (Err (Store fault)) f s c = absurd c
    over (Err NoRoom) f s c = absurd c

pub walk-fault : (p : Pages) (name : Name) (page : ℕ) (root : Root) (w v : Walk) (fault : LiftFault) → old_root_in (page_at p page) ≡ Some root →
    EndsFrom p name root.firsts (start_of page root) w → IsTurn (turn p name root.firsts w) w v (Err fault) → IsWalk p name page (Err fault)
walk-fault p name page root w v (Page refused) e h t =
    of-root p name page root (Err refused) e (record { end = Err refused; ends = h 1 (Err refused) (walk-refused p name root.firsts w refused t); are = refl })
walk-fault p name page root w v Old e h t = tt
walk-fault p name page root w v (Store fault) e h t = tt
walk-fault p name page root w v NoRoom e h t = tt

fresh-covers : (at : ℕ) (name : Name) (pairs : List Pair) (key : ℕ) → is_fresh at name pairs key ≡ true → IsTrue (covers name key)
fresh-covers at name pairs key h = middle (bucket_no key == at) (covers name key) (not (list_any (λ (pair : Pair). pair.key == key) pairs)) h
  where
    middle : (a b c : Bool) → (a && b && c) ≡ true → b ≡ true
    middle true true c h = refl
    middle true false c h = cc
    middle false b c h = cc

pub covered-fresh : (at : ℕ) (name : Name) (pairs : List Pair) (pair : Pair) → AreCovered name pairs → is_fresh at name pairs pair.key ≡ true →
    AreCovered name (pairs ++ pair ∷ [])
covered-fresh at name pairs pair h f = covered-more name pairs pair h (fresh-covers at name pairs pair.key f)

pub add-fresh : (at : ℕ) (name : Name) (pairs : List Pair) (more : List PagePair) (i : ℕ) (pair : PagePair) (value : List ℕ) (was : Option (List Pair)) →
    i < length more → pair ≡ get_or more i pair → value ≡ here_value pair.held → is_fresh at name pairs pair.key ≡ true →
    was ≡ add_all at name pairs (drop i more) →
    was ≡ add_all at name (pairs ++ record { key = pair.key; value = value } ∷ []) (drop (i + 1) more)
add-fresh at name pairs more i pair value was lt e v f h =
    let one : i + 1 ≡ suc i = omega arith in
    add-next at name pairs more i pair was lt e h
    ∙ ap (λ b. cond b (add_all at name (pairs ++ record { key = pair.key; value = here_value pair.held } ∷ []) (drop (suc i) more)) None) f
    ∙ ap (λ x. add_all at name (pairs ++ record { key = pair.key; value = x } ∷ []) (drop (suc i) more)) (sym v)
    ∙ ap (λ n. add_all at name (pairs ++ record { key = pair.key; value = value } ∷ []) (drop n more)) (sym one)
