use Rattle.std.proofs.Common.{◌≡◌, ℕ, ◌==◌, ◌&&◌, ◌||◌, ◌⊎◌, inl, inr, ◌++◌, Bool, true, false, not, Option, Some, None}
use Rattle.std.proofs.Common.{List, [], ◌∷◌, refl, sym, ap, ◌∙◌, subst}
use Rattle.std.proofs.Common.{arith}
use Rattle.std.proofs.lemmas.Bool.{and_from, or_left, or_right}
use Rattle.std.proofs.lemmas.Bool.Decides.{nat_tests}
use Rattle.std.specs.FinMap.{contains_key, get}
use Rattle.std.specs.List.{find, list_any}
use Rattle.std.specs.Prelude.{is_some, if◌then◌else◌}
use Rattle.dds_base.specs.BrickList.{has}
use Rattle.dds_base.specs.NodeSet.{has_node}
use Rattle.dds_base.specs.Number.{Txn}
use Rattle.dds_base.specs.Op.{the_key}
use Rattle.dds_base.specs.declared.number.NodeNo.{NodeNo}
use Rattle.dds_base.specs.declared.op.Op.{Op}
use Rattle.dds_base.specs.declared.op.Op.TheVariants.{Get, Put, Remove, Swap}
use Rattle.dds_base.specs.declared.pending.Pending.{Pending}
use Rattle.dds_brick_rows.specs.Calls as calls
use Rattle.dds_brick_rows.specs.Refusal.{is_put}
use Rattle.dds_brick_rows.specs.Resolution as rows
use Rattle.dds_brick_rows.specs.declared.resolution.News.{News}
use Rattle.dds_brick_rows.specs.declared.resolution.News.TheVariants as news
use Rattle.dds_core.specs.Notice as notices
use Rattle.dds_history.proofs.Bindings.{get-after}
use Rattle.dds_history.specs.Map.{Map, after, bound_after, is_bound_to}
use Rattle.dds_letters.specs.declared.letter.Letter.TheVariants as letter
use Rattle.dds_locks.proofs.Locked.{apart-without}
use Rattle.dds_locks.specs.First.{without_first}
use Rattle.dds_locks.specs.Pending.{IsApart, first_of, is_numbered}
use Rattle.dds_states.specs.Turn.{BrickTurn, still, sends, is_none_left, unknown}
use Rattle.dds_states.specs.declared.brick_state.BrickState.{BrickState}
use Rattle.dds_states.specs.declared.brick_state.Deferred.{Deferred}
use Rattle.dds_states.specs.declared.brick_state.Question.{Question}
use Rattle.dds_states.specs.declared.brick_state.Question.TheVariants.{Help, Query}
use Rattle.dds_states.specs.declared.brick_state.Resolving.{Resolving}
use Rattle.dds_room.proofs.TakenKeys.{is_put_on, is_taken, or-either, same}

-- Where transactions end, no key is taken that wasn't: a pending put becomes a pair, a swap binds only a key that is bound, and the rest unbinds keys.

pub record Fewer (s u : BrickState) : Type 0 where
  pub taken : (q : ℕ) → is_taken u.pairs u.locks.pending q ≡ true → is_taken s.pairs s.locks.pending q ≡ true
  pub apart : IsApart s.locks.pending → IsApart u.locks.pending

pub fewer-then : {s u w : BrickState} → Fewer s u → Fewer u w → Fewer s w
fewer-then h k = record { taken = λ q t. h.taken q (k.taken q t); apart = λ a. k.apart (h.apart a) }

-- the same pairs and pending transactions
pub alike : (s u : BrickState) → u.pairs ≡ s.pairs → u.locks.pending ≡ s.locks.pending → Fewer s u
alike s u e f =
    record {
      taken = λ q t. subst (λ m. is_taken m s.locks.pending q ≡ true) e (subst (λ ps. is_taken u.pairs ps q ≡ true) f t);
      apart = λ a. subst IsApart (sym f) a;
    }

-- what stands among pending transactions
without-if : (other : Pending → Bool) (p : Pending) (ps rest : List Pending) (c : Bool) → list_any other (if c then ps else p ∷ rest) ≡ true
    → (list_any other rest ≡ true → list_any other ps ≡ true) → list_any other (p ∷ ps) ≡ true
without-if other p ps rest true h f = or_right (other p) (list_any other ps) h
without-if other p ps rest false h f = elim (or-either (other p) (list_any other rest) h) [
  | inl i ↦ or_left (other p) (list_any other ps) i
  | inr i ↦ or_right (other p) (list_any other ps) (f i)
]

without-any : (test other : Pending → Bool) (ps : List Pending) → list_any other (without_first test ps) ≡ true → list_any other ps ≡ true
without-any test other [] h = h
without-any test other (p ∷ ps) h = without-if other p ps (without_first test ps) (test p) h (λ i. without-any test other ps i)

found-if : (other : Pending → Bool) (x p : Pending) (ps : List Pending) (rest : Option Pending) (c : Bool) → (if c then Some x else rest) ≡ Some p
    → other p ≡ true → (rest ≡ Some p → list_any other ps ≡ true) → list_any other (x ∷ ps) ≡ true
found-if other x p ps rest true e h f =
    let is : x ≡ p = cc in or_left (other x) (list_any other ps) (subst (λ i. other i ≡ true) (sym is) h)
found-if other x p ps rest false e h f = or_right (other x) (list_any other ps) (f e)

found-any : (test other : Pending → Bool) (ps : List Pending) (p : Pending) → find test ps ≡ Some p → other p ≡ true → list_any other ps ≡ true
found-any test other [] p e h = cc
found-any test other (x ∷ ps) p e h = found-if other x p ps (find test ps) (test x) e h (λ i. found-any test other ps p i h)

-- an operation is applied: a key that it binds was bound, or it is a put of it
swapped : (x : Option (List ℕ)) (expected value : List ℕ) (c : Bool) → is_bound_to x expected ≡ c → is_some (if c then Some value else x) ≡ true
    → is_some x ≡ true
swapped None expected value true e h = cc
swapped (Some v) expected value true e h = refl
swapped x expected value false e h = h

bound-by : (x : Option (List ℕ)) (o : Op) → is_some (bound_after x o) ≡ true → (is_put o ≡ true) ⊎ (is_some x ≡ true)
bound-by x (Get key) h = inr h
bound-by x (Put key value) h = inl refl
bound-by x (Remove key) h = cc
bound-by x (Swap key expected value) h = inr (swapped x expected value (is_bound_to x expected) refl h)

same-of : (q k : ℕ) → (k == q) ≡ true → same q k ≡ true
same-of q k e = grind (arith, nat_tests, e)

applied-if : (x : Option (List ℕ)) (o : Op) (q : ℕ) (c : Bool) → (the_key o == q) ≡ c → is_some (if c then bound_after x o else x) ≡ true
    → ((is_put o && same q (the_key o)) ≡ true) ⊎ (is_some x ≡ true)
applied-if x o q true e h = elim (bound-by x o h) [ inl i ↦ inl (and_from (is_put o) (same q (the_key o)) i (same-of q (the_key o) e)) | inr i ↦ inr i ]
applied-if x o q false e h = inr h

applied : (m : Map) (o : Op) (q : ℕ) → contains_key (after m o) q ≡ true → ((is_put o && same q (the_key o)) ≡ true) ⊎ (contains_key m q ≡ true)
applied m o q h = applied-if (get m q) o q (the_key o == q) refl (sym (ap is_some (get-after m o q)) ∙ h)

-- a transaction ends
pub dropped : (s : BrickState) (txn : Txn) → Fewer s (calls.dropped s txn)
dropped s txn =
    let ps = s.locks.pending in
    record {
      taken = λ q t. elim (or-either (contains_key s.pairs q) (list_any (λ p. is_put_on q p) (without_first (is_numbered txn) ps)) t) [
        | inl i ↦ or_left (contains_key s.pairs q) (list_any (λ p. is_put_on q p) ps) i
        | inr i ↦ or_right (contains_key s.pairs q) (list_any (λ p. is_put_on q p) ps) (without-any (is_numbered txn) (λ p. is_put_on q p) ps i)
      ];
      apart = apart-without (is_numbered txn) ps;
    }

ended : (s : BrickState) (txn : Txn) (p : Pending) → first_of s.locks.pending txn ≡ Some p → Fewer s (calls.applied (calls.dropped s txn) p).state
ended s txn p e =
    let ps = s.locks.pending in
    let rest = without_first (is_numbered txn) ps in
    record {
      taken = λ q t. elim (or-either (contains_key (after s.pairs p.op) q) (list_any (λ x. is_put_on q x) rest) t) [
        | inl i ↦ elim (applied s.pairs p.op q i) [
          | inl j ↦ or_right (contains_key s.pairs q) (list_any (λ x. is_put_on q x) ps) (found-any (is_numbered txn) (λ x. is_put_on q x) ps p e j)
          | inr j ↦ or_left (contains_key s.pairs q) (list_any (λ x. is_put_on q x) ps) j
        ]
        | inr i ↦ or_right (contains_key s.pairs q) (list_any (λ x. is_put_on q x) ps) (without-any (is_numbered txn) (λ x. is_put_on q x) ps i)
      ];
      apart = apart-without (is_numbered txn) ps;
    }

settled : (s : BrickState) (txn : Txn) (c : Bool) (q : Option Pending) → first_of s.locks.pending txn ≡ q
    → Fewer s (rows.settled (calls.dropped s txn) c q).state
settled s txn c None e = dropped s txn
settled s txn true (Some p) e = ended s txn p e
settled s txn false (Some p) e = let h = dropped s txn in record { taken = h.taken; apart = h.apart }

fewer-if : (s : BrickState) (c : Bool) (t u : BrickTurn) → Fewer s t.state → Fewer s u.state → Fewer s (if c then t else u).state
fewer-if s true t u h k = h
fewer-if s false t u h k = k

stays : (s : BrickState) → Fewer s s
stays s = record { taken = λ q t. t; apart = λ a. a }

-- resolving
pub outcome_row : (s : BrickState) (txn : Txn) (commit : Bool) → Fewer s (rows.outcome_row s txn commit).state
outcome_row s txn commit = settled s txn commit (first_of s.locks.pending txn) refl

decides : (s : BrickState) (r : Resolving) → Fewer s (rows.decides s r).state
decides s r = let h = outcome_row s r.txn (rows.verdict r) in record { taken = h.taken; apart = h.apart }

keeps : (s : BrickState) (rs : List Resolving) → Fewer s (record s { resolving = rs })
keeps s rs = alike s (record s { resolving = rs }) refl refl

resolves_on : (s : BrickState) (r : Resolving) → Fewer s (rows.resolves_on s r).state
resolves_on s r = fewer-if s (is_none_left r.waiting) (rows.decides s r) _ (decides s r) (keeps s (s.resolving ++ r ∷ []))

resolve : (s : BrickState) (txn : Txn) (list : List ℕ) → Fewer s (rows.resolve s txn list).state
resolve s txn list = let h = resolves_on s (rows.started s txn list) in record { taken = h.taken; apart = h.apart }

defers : (s : BrickState) (from : NodeNo) (q : Question) (txn : Txn) (list : List ℕ) → Fewer s (rows.defers s from q txn list).state
defers s from q txn list = alike s _ refl refl

pub help_row : (s : BrickState) (from : NodeNo) (txn : Txn) (list : List ℕ) → Fewer s (rows.help_row s from txn list).state
help_row s from txn list =
    fewer-if s (rows.is_ready s.known txn list s.number) (if rows.is_resolved s txn then still s else rows.resolve s txn list)
    (rows.defers s from Help txn list) (fewer-if s (rows.is_resolved s txn) (still s) (rows.resolve s txn list) (stays s) (resolve s txn list))
    (defers s from Help txn list)

pub query_row : (s : BrickState) (from : NodeNo) (txn : Txn) (list : List ℕ) → Fewer s (rows.query_row s from txn list).state
query_row s from txn list = fewer-if s (rows.is_ready s.known txn list from) _ (rows.defers s from Query txn list) (stays s) (defers s from Query txn list)

resolvings_go : (s : BrickState) (from : NodeNo) (n : News) (rs : List Resolving) → Fewer s (rows.resolvings_go s from n rs).state
resolvings_go s from n [] = stays s
resolvings_go s from n (r ∷ rs) =
    let u = still (record s { resolving = s.resolving ++ r ∷ [] }) in
    let first = fewer-if s (rows.is_awaited r from n) (rows.resolves_on s (rows.with_news r from n)) u (resolves_on s (rows.with_news r from n))
    (keeps s (s.resolving ++ r ∷ [])) in
    let k = fewer-then first (resolvings_go (rows.resolving_goes s from n r).state from n rs) in
    record { taken = k.taken; apart = k.apart }

pub all_hear : (s : BrickState) (from : NodeNo) (n : News) → Fewer s (rows.all_hear s from n).state
all_hear s from n = fewer-then (keeps s []) (resolvings_go (record s { resolving = [] }) from n s.resolving)

-- a notice, behind what it does for orders
asked_again : (s : BrickState) (d : Deferred) (q : Question) → Fewer s (notices.asked_again s d q).state
asked_again s d Help = help_row s d.from d.txn d.list
asked_again s d Query = query_row s d.from d.txn d.list

asked_all_again : (s : BrickState) (ds : List Deferred) → Fewer s (notices.asked_all_again s ds).state
asked_all_again s [] = stays s
asked_all_again s (d ∷ ds) =
    let k = fewer-then (asked_again s d d.question) (asked_all_again (notices.asked_again s d d.question).state ds) in
    record { taken = k.taken; apart = k.apart }

deferred_part : (s : BrickState) → Fewer s (notices.deferred_part s).state
deferred_part s = fewer-then (alike s (record s { deferred = [] }) refl refl) (asked_all_again (record s { deferred = [] }) s.deferred)

helped_by : (s : BrickState) (y : NodeNo) (txn : Txn) (list fs : List ℕ) → Fewer s (notices.helped_by s y txn list fs).state
helped_by s y txn list [] = stays s
helped_by s y txn list (f ∷ fs) =
    let c = y == txn.library || has (rows.before list f) y in
    let asks = sends s ((f, letter.Help txn list) ∷ []) in
    fewer-if s (f == s.number) (rows.resolve s txn list) (if c then asks else still s) (resolve s txn list) (fewer-if s c asks (still s) (stays s) (stays s))

pendings_go : (s : BrickState) (y : NodeNo) (ps : List (Txn × List ℕ)) → Fewer s (notices.pendings_go s y ps).state
pendings_go s y [] = stays s
pendings_go s y (p ∷ ps) =
    let first = fewer-if s (has_node s.known p.0.library && not (rows.is_resolved s p.0)) (notices.helped_by s y p.0 p.1 (unknown p.1 s.known)) (still s)
    (helped_by s y p.0 p.1 (unknown p.1 s.known)) (stays s) in
    let k = fewer-then first (pendings_go (notices.pending_goes s y p.0 p.1).state y ps) in
    record { taken = k.taken; apart = k.apart }

pub behind : (s : BrickState) (y : NodeNo)
    → Fewer s (notices.pending_part (notices.deferred_part (notices.resolving_part s y).state).state y).state
behind s y =
    let u = (rows.all_hear s y news.Stopped).state in
    let v = (notices.deferred_part u).state in
    fewer-then (all_hear s y news.Stopped) (fewer-then (deferred_part u) (pendings_go v y (notices.numbered v.locks.pending)))

-- Commit and Abort
found : (s : BrickState) (from : NodeNo) (txn : Txn) (q : Option Pending) → first_of s.locks.pending txn ≡ q
    → Fewer s (calls.commit_found (calls.dropped s txn) from q).state
found s from txn None e = dropped s txn
found s from txn (Some p) e = let h = ended s txn p e in record { taken = h.taken; apart = h.apart }

pub commit_row : (s : BrickState) (from : NodeNo) (txn : Txn) → Fewer s (calls.commit_row s from txn).state
commit_row s from txn = found s from txn (first_of s.locks.pending txn) refl

aborted : (s : BrickState) (txn : Txn) (q : Option Pending) → Fewer s (calls.aborted (calls.dropped s txn) q)
aborted s txn None = dropped s txn
aborted s txn (Some p) = let h = dropped s txn in record { taken = h.taken; apart = h.apart }

pub abort_row : (s : BrickState) (from : NodeNo) (txn : Txn) → Fewer s (calls.abort_row s from txn).state
abort_row s from txn = aborted s txn (first_of s.locks.pending txn)
