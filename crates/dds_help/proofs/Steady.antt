use Rattle.std.proofs.Common.{◌≡◌, ℕ, ◌<◌, ◌==◌, ◌&&◌, ◌||◌, Bool, true, false, not, List, [], ◌∷◌, ◌++◌, refl, sym, ap, ◌∙◌, subst, arith}
use Rattle.std.proofs.lemmas.Bool.Decides.{nat_tests}
use Rattle.std.specs.List.{AllByRecursion}
use Rattle.std.specs.Prelude.{if◌then◌else◌}
use Rattle.dds_base.specs.BrickList.{has}
use Rattle.dds_base.specs.NodeSet.{has_node, with_node}
use Rattle.dds_base.specs.Number.{Txn}
use Rattle.dds_base.specs.declared.node_set.NodeSet.{NodeSet}
use Rattle.dds_base.specs.declared.number.NodeNo.{NodeNo}
use Rattle.dds_brick_rows.specs.Resolution as rows
use Rattle.dds_brick_rows.specs.declared.resolution.News.{News}
use Rattle.dds_brick_rows.specs.declared.resolution.News.TheVariants as news
use Rattle.dds_core.proofs.Known.{has-with}
use Rattle.dds_core.proofs.LetterTells.{Any, Each, order_part}
use Rattle.dds_core.proofs.Lists.{all-append, all-filter}
use Rattle.dds_core.proofs.Rests.{Whole}
use Rattle.dds_core.specs.Notice as notices
use Rattle.dds_groups.proofs.Members.{has-live}
use Rattle.dds_letters.specs.declared.letter.Letter.TheVariants as letter
use Rattle.dds_states.specs.Turn.{BrickTurn, is_none_left, sends, still, unknown, unknown_others, without}
use Rattle.dds_states.specs.declared.brick_state.BrickState.{BrickState}
use Rattle.dds_states.specs.declared.brick_state.Deferred.{Deferred}
use Rattle.dds_states.specs.declared.brick_state.Question.{Question}
use Rattle.dds_states.specs.declared.brick_state.Question.TheVariants.{Help, Query}
use Rattle.dds_states.specs.declared.brick_state.Resolving.{Resolving}
use Rattle.dds_talk.proofs.Letters.{has-without}
use Rattle.dds_resolve.proofs.MemberSteps.{outcome-deferred}
use Rattle.dds_resolve.proofs.ResolverTurns.{outcome-ends}
use Rattle.dds_help.specs.Steady.{IsPutOff, Waits}

-- A brick's rows put off what isn't ready alone, and keep a resolving where a member is waited for.

-- between the parts of a turn, with what is said so far of questions put off, and of resolvings
pub record Has (known : NodeSet) (at : ℕ) (Q : Deferred → Type 0) (R : Resolving → Type 0) (s : BrickState) : Type 0 where
  pub knows : s.known ≡ known
  pub number : s.number ≡ at
  pub deferred : AllByRecursion Q s.deferred
  pub resolving : AllByRecursion R s.resolving

pub same-has : {K : NodeSet} {at : ℕ} {Q : Deferred → Type 0} {R : Resolving → Type 0} (s u : BrickState) → u.known ≡ s.known → u.number ≡ s.number →
    u.deferred ≡ s.deferred → u.resolving ≡ s.resolving → Has K at Q R s → Has K at Q R u
same-has {Q = Q} {R = R} s u e f g i h =
    record {
      knows = e ∙ h.knows;
      number = f ∙ h.number;
      deferred = subst (AllByRecursion Q) (sym g) h.deferred;
      resolving = subst (AllByRecursion R) (sym i) h.resolving;
    }

has-if : {K : NodeSet} {at : ℕ} {Q : Deferred → Type 0} {R : Resolving → Type 0} (c : Bool) (t u : BrickTurn) → (c ≡ true → Has K at Q R t.state) →
    (c ≡ false → Has K at Q R u.state) → Has K at Q R (if c then t else u).state
has-if true t u f g = f refl
has-if false t u f g = g refl

-- resolving
keeps-has : {K : NodeSet} {at : ℕ} {Q : Deferred → Type 0} {R : Resolving → Type 0} (s : BrickState) (r : Resolving) → R r → Has K at Q R s →
    Has K at Q R (record s { resolving = s.resolving ++ r ∷ [] })
keeps-has {R = R} s r w h =
    record { knows = h.knows; number = h.number; deferred = h.deferred; resolving = all-append R s.resolving (r ∷ []) h.resolving (w, tt) }

resolves-has : {K : NodeSet} {at : ℕ} {Q : Deferred → Type 0} {R : Resolving → Type 0} (s : BrickState) (r : Resolving) →
    (is_none_left r.waiting ≡ false → R r) → Has K at Q R s → Has K at Q R (rows.resolves_on s r).state
resolves-has s r w h =
    let e = outcome-ends s r.txn (rows.verdict r) in
    has-if (is_none_left r.waiting) _ (still (record s { resolving = s.resolving ++ r ∷ [] }))
    (λ i. same-has s (rows.decides s r).state e.known e.number (outcome-deferred s r.txn (rows.verdict r)) e.resolving h)
    (λ i. keeps-has s r (w i) h)

all-self : (ns : List ℕ) (P : ℕ → Type 0) → ((n : ℕ) → has ns n ≡ true → P n) → AllByRecursion P ns
all-self [] P f = tt
all-self (n ∷ ns) P f = (f n (self n (has ns n)), all-self ns P (λ m e. f m (later (n == m) (has ns m) e)))
  where
    self : (n : ℕ) (b : Bool) → (n == n || b) ≡ true
    self n b = grind (arith, nat_tests)

    later : (a b : Bool) → b ≡ true → (a || b) ≡ true
    later true b e = refl
    later false b e = e

resolve-has : {K : NodeSet} {at : ℕ} {Q : Deferred → Type 0} (s : BrickState) (t : Txn) (list : List ℕ) → Has K at Q (Waits K at) s →
    Has K at Q (Waits K at) (rows.resolve s t list).state
resolve-has {K = K} {at = at} s t list h =
    resolves-has s (rows.started s t list)
    (λ e. record {
      some = e;
      others = all-self (unknown_others list s.number s.known) _
          (λ n i. subst (λ k. has (unknown_others list at k) n ≡ true) h.knows (subst (λ a. has (unknown_others list a s.known) n ≡ true) h.number i));
    }) h

-- Help, Query
defers-has : {K : NodeSet} {at : ℕ} {Q : Deferred → Type 0} {R : Resolving → Type 0} (s : BrickState) (d : Deferred) → Q d → Has K at Q R s →
    Has K at Q R (record s { deferred = s.deferred ++ d ∷ [] })
defers-has {Q = Q} s d w h =
    record { knows = h.knows; number = h.number; deferred = all-append Q s.deferred (d ∷ []) h.deferred (w, tt); resolving = h.resolving }

same-ready : {K : NodeSet} {at : ℕ} {s : BrickState} {Q : Deferred → Type 0} {R : Resolving → Type 0} (t : Txn) (list : List ℕ) (f : ℕ) (b : Bool) →
    Has K at Q R s → rows.is_ready s.known t list f ≡ b → rows.is_ready K t list f ≡ b
same-ready t list f b h e = ap (λ k. rows.is_ready k t list f) (sym h.knows) ∙ e

pub help-has : {K : NodeSet} {at : ℕ} (s : BrickState) (from : NodeNo) (t : Txn) (list : List ℕ) → Has K at (IsPutOff K at) (Waits K at) s →
    Has K at (IsPutOff K at) (Waits K at) (rows.help_row s from t list).state
help-has {K = K} {at = at} s from t list h =
    has-if (rows.is_ready s.known t list s.number) _ (rows.defers s from Help t list)
    (λ e. has-if (rows.is_resolved s t) (still s) (rows.resolve s t list) (λ i. h) (λ i. resolve-has s t list h))
    (λ e. defers-has s (record { from = from; question = Help; txn = t; list = list })
    (ap (rows.is_ready K t list) (sym h.number) ∙ same-ready t list s.number false h e) h)

pub query-has : {K : NodeSet} {at : ℕ} (s : BrickState) (from : NodeNo) (t : Txn) (list : List ℕ) → Has K at (IsPutOff K at) (Waits K at) s →
    Has K at (IsPutOff K at) (Waits K at) (rows.query_row s from t list).state
query-has s from t list h =
    has-if (rows.is_ready s.known t list from) (sends s _) (rows.defers s from Query t list) (λ e. h)
    (λ e. defers-has s (record { from = from; question = Query; txn = t; list = list }) (same-ready t list from false h e) h)

-- what a member tells: what is said of a resolving before, and after it
pub record Hears (R W : Resolving → Type 0) (from : ℕ) (n : News) : Type 0 where
  pub heard : (r : Resolving) → R r → is_none_left (rows.with_news r from n).waiting ≡ false → W (rows.with_news r from n)
  pub kept : (r : Resolving) → R r → rows.is_awaited r from n ≡ false → W r

resolvings-has : {K : NodeSet} {at : ℕ} {Q : Deferred → Type 0} {R W : Resolving → Type 0} (s : BrickState) (from : NodeNo) (n : News) (rs : List Resolving) →
    Hears R W from n → AllByRecursion R rs → Has K at Q W s → Has K at Q W (rows.resolvings_go s from n rs).state
resolvings-has s from n [] f a h = h
resolvings-has s from n (r ∷ rs) f a h =
    resolvings-has (rows.resolving_goes s from n r).state from n rs f a.1
    (has-if (rows.is_awaited r from n) (rows.resolves_on s (rows.with_news r from n)) (still (record s { resolving = s.resolving ++ r ∷ [] }))
    (λ e. resolves-has s (rows.with_news r from n) (f.heard r a.0) h) (λ e. keeps-has s r (f.kept r a.0 e) h))

pub hear-has : {K : NodeSet} {at : ℕ} {Q : Deferred → Type 0} {R W : Resolving → Type 0} (s : BrickState) (from : NodeNo) (n : News) → Hears R W from n →
    Has K at Q R s → Has K at Q W (rows.all_hear s from n).state
hear-has s from n f h =
    resolvings-has (record s { resolving = [] }) from n s.resolving f h.resolving
    (record { knows = h.knows; number = h.number; deferred = h.deferred; resolving = tt })

fewer-wait : {K : NodeSet} {at : ℕ} (r : Resolving) (from : ℕ) (n : News) → Waits K at r → is_none_left (rows.with_news r from n).waiting ≡ false →
    Waits K at (rows.with_news r from n)
fewer-wait r from news.Stopped h e = record { some = e; others = all-filter _ _ r.waiting h.others }
fewer-wait r from (news.Told t st) h e = record { some = e; others = all-filter _ _ r.waiting h.others }

pub hears-same : (K : NodeSet) (at from : ℕ) (n : News) → Hears (Waits K at) (Waits K at) from n
hears-same K at from n = record { heard = λ r h e. fewer-wait r from n h e; kept = λ r h e. h }

-- a node is known, and isn't waited for any more
still-other : (list : List ℕ) (at : ℕ) (K : NodeSet) (y n : ℕ) → y < 80 → (n == y) ≡ false → has (unknown_others list at K) n ≡ true →
    has (unknown_others list at (with_node K y)) n ≡ true
still-other list at K y n low e h =
    let was : (not (has_node K n)) ≡ (not (has_node (with_node K y) n)) = ap not (sym (has-with K y n low ∙ ap (λ b. b || has_node K n) e)) in
    has-without (unknown list (with_node K y)) at n ∙ ap (λ b. b && not (n == at))
    (has-live list (has_node (with_node K y)) n ∙ ap (λ b. has list n && b) (sym was) ∙ sym (has-live list (has_node K) n))
    ∙ sym (has-without (unknown list K) at n) ∙ h

apart-from : (ns : List ℕ) (y : ℕ) → has ns y ≡ false → AllByRecursion (λ n. (n == y) ≡ false) ns
apart-from [] y e = tt
apart-from (n ∷ ns) y e = let p = parts (n == y) (has ns y) e in (p.0, apart-from ns y p.1)
  where
    parts : (a b : Bool) → (a || b) ≡ false → (a ≡ false) × (b ≡ false)
    parts true b e = cc
    parts false b e = (refl, e)

others-without : (list ns : List ℕ) (at : ℕ) (K : NodeSet) (y : ℕ) → y < 80 → AllByRecursion (λ n. has (unknown_others list at K) n ≡ true) ns →
    AllByRecursion (λ n. has (unknown_others list at (with_node K y)) n ≡ true) (without ns y)
others-without list [] at K y low h = tt
others-without list (n ∷ ns) at K y low h = pick (n == y) refl (others-without list ns at K y low h.1)
  where
    pick : (c : Bool) → (n == y) ≡ c → AllByRecursion (λ n. has (unknown_others list at (with_node K y)) n ≡ true) (without ns y) →
        AllByRecursion (λ n. has (unknown_others list at (with_node K y)) n ≡ true) (if not c then n ∷ without ns y else without ns y)
    pick true e w = w
    pick false e w = (still-other list at K y n low e h.0, w)

others-apart : (list ns : List ℕ) (at : ℕ) (K : NodeSet) (y : ℕ) → y < 80 → AllByRecursion (λ n. (n == y) ≡ false) ns →
    AllByRecursion (λ n. has (unknown_others list at K) n ≡ true) ns → AllByRecursion (λ n. has (unknown_others list at (with_node K y)) n ≡ true) ns
others-apart list [] at K y low a h = tt
others-apart list (n ∷ ns) at K y low a h = (still-other list at K y n low a.0 h.0, others-apart list ns at K y low a.1 h.1)

pub hears-stopped : (K : NodeSet) (at y : ℕ) → y < 80 → Hears (Waits K at) (Waits (with_node K y) at) y news.Stopped
hears-stopped K at y low =
    record {
      heard = λ r h e. record { some = e; others = others-without r.list r.waiting at K y low h.others };
      kept = λ r h e. record { some = h.some; others = others-apart r.list r.waiting at K y low (apart-from r.waiting y e) h.others };
    }

-- a notice
asked-has : {K : NodeSet} {at : ℕ} (s : BrickState) (d : Deferred) (q : Question) → Has K at (IsPutOff K at) (Waits K at) s →
    Has K at (IsPutOff K at) (Waits K at) (notices.asked_again s d q).state
asked-has s d Help h = help-has s d.from d.txn d.list h
asked-has s d Query h = query-has s d.from d.txn d.list h

all-asked-has : {K : NodeSet} {at : ℕ} (s : BrickState) (ds : List Deferred) → Has K at (IsPutOff K at) (Waits K at) s →
    Has K at (IsPutOff K at) (Waits K at) (notices.asked_all_again s ds).state
all-asked-has s [] h = h
all-asked-has s (d ∷ ds) h = all-asked-has (notices.asked_again s d d.question).state ds (asked-has s d d.question h)

helped-has : {K : NodeSet} {at : ℕ} {Q : Deferred → Type 0} (s : BrickState) (y : NodeNo) (t : Txn) (list fs : List ℕ) → Has K at Q (Waits K at) s →
    Has K at Q (Waits K at) (notices.helped_by s y t list fs).state
helped-has s y t list [] h = h
helped-has {K = K} {at = at} {Q = Q} s y t list (f ∷ fs) h = has-if (f == s.number) (rows.resolve s t list) _ (λ e. resolve-has s t list h) (λ e. either _ h)
  where
    either : (c : Bool) → Has K at Q (Waits K at) s → Has K at Q (Waits K at) (if c then sends s ((f, letter.Help t list) ∷ []) else still s).state
    either true k = k
    either false k = k

pendings-has : {K : NodeSet} {at : ℕ} {Q : Deferred → Type 0} (s : BrickState) (y : NodeNo) (ps : List (Txn × List ℕ)) → Has K at Q (Waits K at) s →
    Has K at Q (Waits K at) (notices.pendings_go s y ps).state
pendings-has s y [] h = h
pendings-has s y (p ∷ ps) h =
    pendings-has (notices.pending_goes s y p.0 p.1).state y ps
    (has-if (has_node s.known p.0.library && not (rows.is_resolved s p.0)) (notices.helped_by s y p.0 p.1 (unknown p.1 s.known)) (still s)
    (λ e. helped-has s y p.0 p.1 (unknown p.1 s.known) h) (λ e. h))

pub notice-has : {at : ℕ} (s : BrickState) (y : NodeNo) → y < 80 → Has s.known at (IsPutOff s.known at) (Waits s.known at) s →
    Has (with_node s.known y) at (IsPutOff (with_node s.known y) at) (Waits (with_node s.known y) at) (notices.notice_row s y).state
notice-has {at = at} s y low h =
    let l = notices.learns s y in
    let K = with_node s.known y in
    let o = notices.order_part l y in
    let same = (order_part {L = Any} {M = Each} l y).same in
    let start : Has K at (IsPutOff s.known at) (Waits s.known at) l =
    record { knows = refl; number = h.number; deferred = h.deferred; resolving = h.resolving } in
    let one = same-has l o.state (ap (λ (w : Whole). w.who.known) same) (ap (λ (w : Whole). w.who.number) same) (ap (λ (w : Whole). w.deferred) same)
    (ap (λ (w : Whole). w.resolving) same) start in
    let two = hear-has o.state y news.Stopped (hears-stopped s.known at y low) one in
    let u = (rows.all_hear o.state y news.Stopped).state in
    let three = all-asked-has (record u { deferred = [] }) u.deferred
    (record { knows = two.knows; number = two.number; deferred = tt; resolving = two.resolving }) in
    let v = (notices.deferred_part u).state in
    pendings-has v y (notices.numbered v.locks.pending) three
