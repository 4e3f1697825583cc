use Rattle.std.proofs.Common.{◌≡◌, ℕ, ◌<◌, ◌==◌, ◌&&◌, ◌||◌, Bool, true, false, not, Some, None, List, [], ◌∷◌, ◌++◌, find}
use Rattle.std.proofs.Common.{refl, sym, ap, ◌∙◌, subst, append_assoc}
use Rattle.std.proofs.lemmas.Bool.{and_parts, eqb-true}
use Rattle.std.specs.List.{AllByRecursion, list_all, list_any}
use Rattle.std.specs.Prelude.{if◌then◌else◌}
use Rattle.dds_base.specs.NodeSet.{has_node}
use Rattle.dds_base.specs.Number.{Txn, same_txn}
use Rattle.dds_base.specs.declared.node_set.NodeSet.{NodeSet}
use Rattle.dds_base.specs.declared.number.NodeNo.{NodeNo}
use Rattle.dds_brick_rows.specs.Resolution as rows
use Rattle.dds_brick_rows.specs.declared.resolution.News.{News}
use Rattle.dds_brick_rows.specs.declared.resolution.News.TheVariants as news
use Rattle.dds_core.proofs.LetterTells.{Any, Each, order_part}
use Rattle.dds_core.proofs.Lists.{all-append, all-map}
use Rattle.dds_core.proofs.Rests.{Whole}
use Rattle.dds_core.specs.Notice as notices
use Rattle.dds_letters.specs.declared.letter.Letter.TheVariants as letter
use Rattle.dds_states.specs.Turn.{BrickTurn, is_none_left, sends, still, unknown}
use Rattle.dds_states.specs.declared.brick_state.BrickState.{BrickState}
use Rattle.dds_states.specs.declared.brick_state.Deferred.{Deferred}
use Rattle.dds_states.specs.declared.brick_state.Question.{Question}
use Rattle.dds_states.specs.declared.brick_state.Question.TheVariants.{Help, Query}
use Rattle.dds_states.specs.declared.brick_state.Resolving.{Resolving}
use Rattle.dds_talk.proofs.Parts.{is-same, same-swap}
use Rattle.dds_resolve.proofs.MemberSteps.{grown-ready, learns-more}
use Rattle.dds_resolve.proofs.MemberNotices.{news-txn}
use Rattle.dds_resolve.proofs.Hearing.{OnceIn}
use Rattle.dds_resolve.proofs.ResolverTurns.{outcome-ends}
use Rattle.dds_resolve.proofs.TeamNotices.{first-unknown}
use Rattle.dds_resolve.specs.Law.{Differ, txns}

-- A brick resolves an attempt once, and only where it knows the attempt's library and all members before itself: a turn keeps that.

txns-append : (xs ys : List Resolving) → txns (xs ++ ys) ≡ txns xs ++ txns ys
txns-append [] ys = refl
txns-append (x ∷ xs) ys = ap (λ zs. x.txn ∷ zs) (txns-append xs ys)

drop-all : (P : Txn → Type 0) (us : List Txn) (x : Txn) (bs : List Txn) → AllByRecursion P (us ++ x ∷ bs) → AllByRecursion P (us ++ bs)
drop-all P [] x bs h = h.1
drop-all P (a ∷ us) x bs h = (h.0, drop-all P us x bs h.1)

differ-drop : (us : List Txn) (x : Txn) (bs : List Txn) → Differ (us ++ x ∷ bs) → Differ (us ++ bs)
differ-drop [] x bs h = h.1
differ-drop (a ∷ us) x bs h = (drop-all (λ y. same_txn a y ≡ false) us x bs h.0, differ-drop us x bs h.1)

differ-push : (us : List Txn) (x : Txn) → AllByRecursion (λ y. same_txn y x ≡ false) us → Differ us → Differ (us ++ x ∷ [])
differ-push [] x h d = (tt, tt)
differ-push (a ∷ us) x h d = (all-append (λ y. same_txn a y ≡ false) us (x ∷ []) d.0 (h.0, tt), differ-push us x h.1 d.1)

unresolved : (t : Txn) (rs : List Resolving) → list_any (rows.is_of t) rs ≡ false → AllByRecursion (λ y. same_txn y t ≡ false) (txns rs)
unresolved t [] e = tt
unresolved t (r ∷ rs) e = pick (rows.is_of t r) refl (λ h. unresolved t rs h) e
  where
    pick : (c : Bool) → rows.is_of t r ≡ c → (list_any (rows.is_of t) rs ≡ false → AllByRecursion (λ y. same_txn y t ≡ false) (txns rs)) →
        (c || list_any (rows.is_of t) rs) ≡ false → AllByRecursion (λ y. same_txn y t ≡ false) (txns (r ∷ rs))
    pick true i w h = cc
    pick false i w h = (i, w h)

-- so an attempt is found once
none-of : (t : Txn) (rs : List Resolving) → AllByRecursion (λ y. same_txn t y ≡ false) (txns rs) → find (rows.is_of t) rs ≡ None
none-of t [] h = refl
none-of t (r ∷ rs) h = ap (λ c. if c then Some r else find (rows.is_of t) rs) (same-swap r.txn t ∙ h.0) ∙ none-of t rs h.1

pub once-in : (t : Txn) (rs : List Resolving) → Differ (txns rs) → OnceIn t rs
once-in t [] d = tt
once-in t (r ∷ rs) d = (λ e. subst (λ x. find (rows.is_of x) rs ≡ None) (is-same r.txn t e) (none-of r.txn rs d.0), once-in t rs d.1)

-- a brick that knows these nodes
abbrev pub ReadyIn : NodeSet → ℕ → Resolving → Type 0
ReadyIn known at r = rows.is_ready known r.txn r.list at ≡ true

pub record Readies (known : NodeSet) (at : ℕ) (s : BrickState) : Type 0 where
  pub knows : s.known ≡ known
  pub number : s.number ≡ at
  pub ready : AllByRecursion (ReadyIn known at) s.resolving
  pub once : Differ (txns s.resolving)

pub same-readies : {K : NodeSet} {at : ℕ} (s u : BrickState) → u.known ≡ s.known → u.number ≡ s.number → u.resolving ≡ s.resolving → Readies K at s →
    Readies K at u
same-readies {K = K} {at = at} s u e f g h =
    record {
      knows = e ∙ h.knows;
      number = f ∙ h.number;
      ready = subst (AllByRecursion (ReadyIn K at)) (sym g) h.ready;
      once = subst (λ rs. Differ (txns rs)) (sym g) h.once;
    }

readies-if : {K : NodeSet} {at : ℕ} (c : Bool) (t u : BrickTurn) → (c ≡ true → Readies K at t.state) → (c ≡ false → Readies K at u.state) →
    Readies K at (if c then t else u).state
readies-if true t u f g = f refl
readies-if false t u f g = g refl

-- what is still to be treated beside the brick's list
abbrev Beside : BrickState → List Txn → Type 0
Beside s ts = Differ (txns s.resolving ++ ts)

record Goes (known : NodeSet) (at : ℕ) (s : BrickState) (ts : List Txn) : Type 0 where
  readies : Readies known at s
  beside : Beside s ts

keeps-goes : {K : NodeSet} {at : ℕ} (s : BrickState) (r : Resolving) (x : Txn) (ts : List Txn) → r.txn ≡ x → ReadyIn K at r → Goes K at s (x ∷ ts) →
    Goes K at (record s { resolving = s.resolving ++ r ∷ [] }) ts
keeps-goes {K = K} {at = at} s r x ts e ready h =
    let beside : Differ (txns (s.resolving ++ r ∷ []) ++ ts) = subst (λ zs. Differ (zs ++ ts)) (sym (txns-append s.resolving (r ∷ [])))
    (subst Differ (sym (append_assoc (txns s.resolving) (r.txn ∷ []) ts)) (subst (λ y. Differ (txns s.resolving ++ y ∷ ts)) (sym e) h.beside)) in
    record {
      readies = record {
        knows = h.readies.knows;
        number = h.readies.number;
        ready = all-append (ReadyIn K at) s.resolving (r ∷ []) h.readies.ready (ready, tt);
        once = front (txns (s.resolving ++ r ∷ [])) ts beside;
      };
      beside = beside;
    }
  where
    front-all : (P : Txn → Type 0) (us bs : List Txn) → AllByRecursion P (us ++ bs) → AllByRecursion P us
    front-all P [] bs k = tt
    front-all P (a ∷ us) bs k = (k.0, front-all P us bs k.1)

    front : (us bs : List Txn) → Differ (us ++ bs) → Differ us
    front [] bs k = tt
    front (a ∷ us) bs k = (front-all (λ y. same_txn a y ≡ false) us bs k.0, front us bs k.1)

decides-goes : {K : NodeSet} {at : ℕ} (s : BrickState) (r : Resolving) (x : Txn) (ts : List Txn) → Goes K at s (x ∷ ts) → Goes K at (rows.decides s r).state ts
decides-goes {K = K} {at = at} s r x ts h =
    let e = outcome-ends s r.txn (rows.verdict r) in
    record {
      readies = same-readies s (rows.decides s r).state e.known e.number e.resolving h.readies;
      beside = subst (λ rs. Differ (txns rs ++ ts)) (sym e.resolving) (differ-drop (txns s.resolving) x ts h.beside);
    }

goes-if : {K : NodeSet} {at : ℕ} {ts : List Txn} (c : Bool) (t u : BrickTurn) → Goes K at t.state ts → Goes K at u.state ts →
    Goes K at (if c then t else u).state ts
goes-if true t u f g = f
goes-if false t u f g = g

resolves-goes : {K : NodeSet} {at : ℕ} (s : BrickState) (r : Resolving) (x : Txn) (ts : List Txn) → r.txn ≡ x → ReadyIn K at r → Goes K at s (x ∷ ts) →
    Goes K at (rows.resolves_on s r).state ts
resolves-goes s r x ts e ready h = goes-if (is_none_left r.waiting) (rows.decides s r) (still (record s { resolving = s.resolving ++ r ∷ [] }))
    (decides-goes s r x ts h) (keeps-goes s r x ts e ready h)

resolve-readies : {K : NodeSet} {at : ℕ} (s : BrickState) (t : Txn) (list : List ℕ) → rows.is_ready K t list at ≡ true → rows.is_resolved s t ≡ false →
    Readies K at s → Readies K at (rows.resolve s t list).state
resolve-readies s t list ready new h =
    (resolves-goes s (rows.started s t list) t [] refl ready
    (record { readies = h; beside = differ-push (txns s.resolving) t (unresolved t s.resolving new) h.once })).readies

-- Help, Query
pub help-readies : {K : NodeSet} {at : ℕ} (s : BrickState) (from : NodeNo) (t : Txn) (list : List ℕ) → Readies K at s →
    Readies K at (rows.help_row s from t list).state
help-readies {K = K} {at = at} s from t list h =
    readies-if (rows.is_ready s.known t list s.number) _ _
    (λ e. readies-if (rows.is_resolved s t) (still s) (rows.resolve s t list) (λ i. h)
    (λ i. resolve-readies s t list (ap (λ k. rows.is_ready k t list at) (sym h.knows) ∙ ap (rows.is_ready s.known t list) (sym h.number) ∙ e) i h))
    (λ e. same-readies s (rows.defers s from Help t list).state refl refl refl h)

pub query-readies : {K : NodeSet} {at : ℕ} (s : BrickState) (from : NodeNo) (t : Txn) (list : List ℕ) → Readies K at s →
    Readies K at (rows.query_row s from t list).state
query-readies s from t list h = readies-if (rows.is_ready s.known t list from) _ _ (λ e. h)
    (λ e. same-readies s (rows.defers s from Query t list).state refl refl refl h)

-- what a member tells
news-ready : (K : NodeSet) (at : ℕ) (r : Resolving) (from : NodeNo) (n : News) → ReadyIn K at r → ReadyIn K at (rows.with_news r from n)
news-ready K at r from news.Stopped h = h
news-ready K at r from (news.Told t st) h = h

goes-on : {K : NodeSet} {at : ℕ} (s : BrickState) (from : NodeNo) (n : News) (rs : List Resolving) → AllByRecursion (ReadyIn K at) rs →
    Goes K at s (txns rs) → Goes K at (rows.resolvings_go s from n rs).state []
goes-on s from n [] a h = h
goes-on {K = K} {at = at} s from n (r ∷ rs) a h =
    goes-on (rows.resolving_goes s from n r).state from n rs a.1
    (goes-if (rows.is_awaited r from n) (rows.resolves_on s (rows.with_news r from n)) (still (record s { resolving = s.resolving ++ r ∷ [] }))
    (resolves-goes s (rows.with_news r from n) r.txn (txns rs) (news-txn r from n) (news-ready K at r from n a.0) h)
    (keeps-goes s r r.txn (txns rs) refl a.0 h))

pub hear-readies : {K : NodeSet} {at : ℕ} (s : BrickState) (from : NodeNo) (n : News) → Readies K at s → Readies K at (rows.all_hear s from n).state
hear-readies s from n h =
    (goes-on (record s { resolving = [] }) from n s.resolving h.ready
    (record { readies = record { knows = h.knows; number = h.number; ready = tt; once = tt }; beside = h.once })).readies

-- a notice
pub asked-readies : {K : NodeSet} {at : ℕ} (s : BrickState) (d : Deferred) (q : Question) → Readies K at s → Readies K at (notices.asked_again s d q).state
asked-readies s d Help h = help-readies s d.from d.txn d.list h
asked-readies s d Query h = query-readies s d.from d.txn d.list h

pub all-asked-readies : {K : NodeSet} {at : ℕ} (s : BrickState) (ds : List Deferred) → Readies K at s → Readies K at (notices.asked_all_again s ds).state
all-asked-readies s [] h = h
all-asked-readies s (d ∷ ds) h = all-asked-readies (notices.asked_again s d d.question).state ds (asked-readies s d d.question h)

pub all-known : (known : NodeSet) (ns : List ℕ) → AllByRecursion (λ n. has_node known n ≡ true) ns → list_all (λ n. has_node known n) ns ≡ true
all-known known [] h = refl
all-known known (n ∷ ns) h = both (has_node known n) (list_all (λ n. has_node known n) ns) h.0 (all-known known ns h.1)
  where
    both : (a b : Bool) → a ≡ true → b ≡ true → (a && b) ≡ true
    both true b i j = j
    both false b i j = cc

pub both-true : (a b : Bool) → a ≡ true → b ≡ true → (a && b) ≡ true
both-true true b i j = j
both-true false b i j = cc

helped-readies : {K : NodeSet} {at : ℕ} (s : BrickState) (y : NodeNo) (t : Txn) (list fs : List ℕ) → unknown list s.known ≡ fs →
    has_node s.known t.library ≡ true → rows.is_resolved s t ≡ false → Readies K at s → Readies K at (notices.helped_by s y t list fs).state
helped-readies s y t list [] e k new h = h
helped-readies {K = K} {at = at} s y t list (f ∷ fs) e k new h =
    let first = first-unknown list (has_node s.known) f fs e in
    let ready : rows.is_ready s.known t list f ≡ true = both-true (has_node s.known t.library) _ k (all-known s.known (rows.before list f) first.0) in
    readies-if (f == s.number) _ _
    (λ i. resolve-readies s t list (ap (λ x. rows.is_ready x t list at) (sym h.knows)
    ∙ ap (rows.is_ready s.known t list) (sym (eqb-true f s.number i ∙ h.number)) ∙ ready) new h)
    (λ i. same-if _ h)
  where
    same-if : (c : Bool) → Readies K at s → Readies K at (if c then sends s ((f, letter.Help t list) ∷ []) else still s).state
    same-if true k = k
    same-if false k = k

pub pending-readies : {K : NodeSet} {at : ℕ} (s : BrickState) (y : NodeNo) (t : Txn) (list : List ℕ) → Readies K at s →
    Readies K at (notices.pending_goes s y t list).state
pending-readies s y t list h =
    readies-if (has_node s.known t.library && not (rows.is_resolved s t)) (notices.helped_by s y t list (unknown list s.known)) (still s)
    (λ e. let k = and_parts (has_node s.known t.library) (not (rows.is_resolved s t)) e in
    helped-readies s y t list (unknown list s.known) refl k.0 (not-true (rows.is_resolved s t) k.1) h)
    (λ e. h)
  where
    not-true : (b : Bool) → not b ≡ true → b ≡ false
    not-true true e = cc
    not-true false e = refl

pendings-readies : {K : NodeSet} {at : ℕ} (s : BrickState) (y : NodeNo) (ps : List (Txn × List ℕ)) → Readies K at s →
    Readies K at (notices.pendings_go s y ps).state
pendings-readies s y [] h = h
pendings-readies s y (p ∷ ps) h = pendings-readies (notices.pending_goes s y p.0 p.1).state y ps (pending-readies s y p.0 p.1 h)

pub start-readies : {at : ℕ} (s : BrickState) (y : NodeNo) → y < 80 → Readies s.known at s → Readies (notices.learns s y).known at (notices.learns s y)
start-readies {at = at} s y low h =
    let l = notices.learns s y in
    record {
      knows = refl;
      number = h.number;
      ready = all-map (ReadyIn s.known at) (ReadyIn l.known at) s.resolving (λ r e. grown-ready s.known l.known r.txn r.list at (learns-more s y low) e)
          h.ready;
      once = h.once;
    }

pub notice-readies : {at : ℕ} (s : BrickState) (y : NodeNo) → y < 80 → Readies s.known at s →
    Readies (notices.learns s y).known at (notices.notice_row s y).state
notice-readies {at = at} s y low h =
    let l = notices.learns s y in
    let o = notices.order_part l y in
    let same = (order_part {L = Any} {M = Each} l y).same in
    let one = same-readies l o.state (ap (λ (w : Whole). w.who.known) same) (ap (λ (w : Whole). w.who.number) same) (ap (λ (w : Whole). w.resolving) same)
    (start-readies s y low h) in
    let two = hear-readies o.state y news.Stopped one in
    let u = (rows.all_hear o.state y news.Stopped).state in
    let three = all-asked-readies (record u { deferred = [] }) u.deferred (same-readies u (record u { deferred = [] }) refl refl refl two) in
    let v = (notices.deferred_part u).state in
    pendings-readies v y (notices.numbered v.locks.pending) three
