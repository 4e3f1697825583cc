use Rattle.std.proofs.Common.{◌≡◌, ℕ, ◌==◌, ◌&&◌, Bool, true, false, Some, List, [], ◌∷◌, ◌++◌}
use Rattle.std.proofs.Common.{refl, sym, ap, ◌∙◌, subst, arith}
use Rattle.std.proofs.lemmas.Bool.{and_parts, eqb-true}
use Rattle.std.proofs.lemmas.Bool.Decides.{nat_tests}
use Rattle.std.proofs.lemmas.List.{append-nil}
use Rattle.std.specs.List.{AllByRecursion}
use Rattle.std.specs.FinMap.{get}
use Rattle.dds_base.specs.Number.{Txn, same_txn}
use Rattle.dds_base.specs.declared.number.NodeNo.{NodeNo}
use Rattle.dds_brick_rows.specs.Resolution as rows
use Rattle.dds_core.specs.Notice as notices
use Rattle.dds_letters.specs.declared.letter.Letter.{Letter}
use Rattle.dds_letters.specs.declared.letter.Letter.TheVariants as letter
use Rattle.dds_locks.specs.Status.{status}
use Rattle.dds_states.specs.Turn.{BrickTurn}
use Rattle.dds_states.specs.declared.brick_state.BrickState.{BrickState}
use Rattle.dds_states.specs.declared.brick_state.Deferred.{Deferred}
use Rattle.dds_states.specs.declared.brick_state.Question.{Question}
use Rattle.dds_states.specs.declared.brick_state.Question.TheVariants.{Help, Query}
use Rattle.dds_talk.specs.Table.{At}
use Rattle.dds_talk.specs.Table.At.{Unprepared, Prepared, Committed, Aborted}
use Rattle.dds_talk.specs.Seen.{of, one, about}
use Rattle.dds_resolve.specs.Letters.{to_one}
use Rattle.dds_resolve.proofs.Statuses.{as_status, status-at}
use Rattle.dds_talk.proofs.Parts.{is-same}
use Rattle.dds_resolve.specs.Resolving.{is_asking, own_at, status_at, status_in, waits}
use Rattle.dds_resolve.specs.Team.{Ground, Team, DeferredOk, AskedOk, BrickOk}
use Rattle.dds_resolve.proofs.TeamTurns as team
use Rattle.dds_resolve.proofs.TeamTurns.{Good, team-to}
use Rattle.dds_resolve.proofs.MemberTurns.{Treats, Calm, quiet-if, waits-append, calm-sends, calm-still, treats-then, treats-if, Others, help-calm}

-- A resolver's question at a member: it is put off, or answered.

-- Query
pub status-is : (s : BrickState) (t : Txn) → status_at (status s.locks t) ≡ own_at s t
status-is s t = ap status_at (status-at s.locks (get s.locks.outcomes t) t refl) ∙ back (own_at s t)
  where
    back : (a : At) → status_at (as_status a) ≡ a
    back Unprepared = refl
    back Prepared = refl
    back Committed = refl
    back Aborted = refl

abbrev pub put_if : Bool → Bool → At → List At
put_if true asking a = []
put_if false asking a = one asking a

abbrev pub sent_if : Bool → Bool → At → List At
sent_if true asking a = one asking a
sent_if false asking a = []

pub put-none : (R : Bool) (a : At) → put_if R false a ≡ []
put-none true a = refl
put-none false a = refl

pub sent-none : (R : Bool) (a : At) → sent_if R false a ≡ []
sent-none true a = refl
sent-none false a = refl

pub treats-as : {f : ℕ} {t : Txn} {s : BrickState} {r : BrickTurn} {p : At → List At} {x : List At} (q : At → List At) (y : List At) → ((a : At) → p a ≡ q a) →
    x ≡ y → Treats f t s r p x → Treats f t s r q y
treats-as {f = f} {t = t} {s = s} q y e i h =
    record {
      pending = h.pending;
      outcomes = h.outcomes;
      known = h.known;
      put_off = λ a. h.put_off a ∙ ap (λ zs. waits a f t s.deferred ++ zs) (e a);
      answered = h.answered ∙ i;
    }

-- an answer to another resolver, or of another attempt
other-answer : (a b : Bool) (f : ℕ) (t x : Txn) (from : NodeNo) (l : Letter) (k : At) → status_in l ≡ Some (x, k) → (from == f) ≡ a → same_txn x t ≡ b →
    (a && b) ≡ false → about status_in t (to_one (from == f) l []) ≡ []
other-answer true true f t x from l k i e h n = cc
other-answer true false f t x from l k i e h n = let q : of t (status_in l) ≡ [] = ap (of t) i ∙ ap (λ b. one b k) h in
    quiet-if status_in (from == f) t l [] q refl
other-answer false b f t x from l k i e h n = rw e refl

pub query-other : {f : ℕ} {t : Txn} (s : BrickState) (from : NodeNo) (x : Txn) (list : List ℕ) → (from == f && same_txn x t) ≡ false →
    Calm f t s (rows.query_row s from x list)
query-other {f = f} {t = t} s from x list ne =
    treats-if (rows.is_ready s.known x list from) _ _
    (λ e. calm-sends s _ (other-answer (from == f) (same_txn x t) f t x from (letter.Status x (status s.locks x)) _ refl refl refl ne))
    (λ e. record {
      pending = refl;
      outcomes = refl;
      known = refl;
      put_off = λ a. waits-append a f t s.deferred _
          ∙ ap (λ b. waits a f t s.deferred ++ (one b a ++ [])) ne;
      answered = refl;
    })

pub self-number : (a : ℕ) → (a == a) ≡ true
self-number a = grind (arith, nat_tests)

query-mine : {t : Txn} (R : Bool) (s : BrickState) (f : NodeNo) (list : List ℕ) → same_txn t t ≡ true → rows.is_ready s.known t list f ≡ R →
    Treats f t s (rows.query_row s f t list) (put_if R true) (sent_if R true (own_at s t))
query-mine {t = t} true s f list self e =
    let q : (f == f) ≡ true = self-number f in
    rw e record {
      pending = refl;
      outcomes = refl;
      known = refl;
      put_off = λ a. sym (append-nil (waits a f t s.deferred));
      answered = rw (q, self) (ap (λ a. a ∷ []) (status-is s t));
    }
query-mine {t = t} false s f list self e =
    let q : (f == f) ≡ true = self-number f in
    rw e record {
      pending = refl;
      outcomes = refl;
      known = refl;
      put_off = λ a. let i : (f == f && same_txn t t) ≡ true = rw (q, self) refl in
          waits-append a f t s.deferred _ ∙ ap (λ b. waits a f t s.deferred ++ (one b a ++ [])) i;
      answered = refl;
    }

one-list : {xs ys : List ℕ} (o : List ℕ) → o ≡ xs → o ≡ ys → xs ≡ ys
one-list o e f = sym e ∙ f

pub query-treats : {g : Ground} {me f : ℕ} {t : Txn} (R : Bool) (s : BrickState) (from : NodeNo) (x : Txn) (list mine : List ℕ) → g.list t ≡ mine →
    rows.is_ready s.known t mine f ≡ R → Team g x list from me →
    Treats f t s (rows.query_row s from x list) (put_if R (from == f && same_txn x t)) (sent_if R (from == f && same_txn x t) (own_at s t))
query-treats {g = g} {me = me} {f = f} {t = t} R s from x list mine listed e h = pick (from == f && same_txn x t) refl
  where
    pick : (c : Bool) → (from == f && same_txn x t) ≡ c → Treats f t s (rows.query_row s from x list) (put_if R c) (sent_if R c (own_at s t))
    pick false i = treats-as (put_if R false) (sent_if R false (own_at s t)) (λ a. sym (put-none R a)) (sym (sent-none R (own_at s t)))
        (query-other s from x list i)
    pick true i =
        let p = and_parts (from == f) (same_txn x t) i in
        let ff : from ≡ f = eqb-true from f p.0 in
        let xt : x ≡ t = is-same x t p.1 in
        let same : list ≡ mine = one-list (g.list t) (subst (λ v. g.list v ≡ list) xt h.members.listed) listed in
        let self : same_txn t t ≡ true = subst (λ v. same_txn v t ≡ true) xt p.1 in
        subst (λ v. Treats f t s (rows.query_row s v x list) (put_if R true) (sent_if R true (own_at s t))) (sym ff)
        (subst (λ v. Treats f t s (rows.query_row s f v list) (put_if R true) (sent_if R true (own_at s t))) (sym xt)
        (subst (λ v. Treats f t s (rows.query_row s f t v) (put_if R true) (sent_if R true (own_at s t))) (sym same) (query-mine R s f mine self e)))

-- the deferred letters, one after another
abbrev pub put_all : Bool → ℕ → Txn → List Deferred → At → List At
put_all true f t ds a = []
put_all false f t ds a = waits a f t ds

abbrev pub sent_all : Bool → ℕ → Txn → List Deferred → At → List At
sent_all true f t ds a = waits a f t ds
sent_all false f t ds a = []

pub put-more : (R : Bool) (f : ℕ) (t : Txn) (d : Deferred) (ds : List Deferred) (a : At) →
    put_if R (is_asking f t d d.question) a ++ put_all R f t ds a ≡ put_all R f t (d ∷ ds) a
put-more true f t d ds a = refl
put-more false f t d ds a = refl

pub sent-more : (R : Bool) (f : ℕ) (t : Txn) (d : Deferred) (ds : List Deferred) (a : At) →
    sent_if R (is_asking f t d d.question) a ++ sent_all R f t ds a ≡ sent_all R f t (d ∷ ds) a
sent-more true f t d ds a = refl
sent-more false f t d ds a = refl

pub nothing-put : (R : Bool) (f : ℕ) (t : Txn) (a : At) → [] ≡ put_all R f t [] a
nothing-put true f t a = refl
nothing-put false f t a = refl

pub nothing-sent : (R : Bool) (f : ℕ) (t : Txn) (a : At) → [] ≡ sent_all R f t [] a
nothing-sent true f t a = refl
nothing-sent false f t a = refl

asked-treats : {g : Ground} {me f : ℕ} {t : Txn} (R : Bool) (s : BrickState) (d : Deferred) (q : Question) (mine : List ℕ) → Others g me t → g.list t ≡ mine →
    rows.is_ready s.known t mine f ≡ R → BrickOk g me s → AskedOk g me d q →
    Treats f t s (notices.asked_again s d q) (put_if R (is_asking f t d q)) (sent_if R (is_asking f t d q) (own_at s t))
asked-treats {f = f} {t = t} R s d Help mine others listed e b h =
    treats-as (put_if R false) (sent_if R false (own_at s t)) (λ a. sym (put-none R a)) (sym (sent-none R (own_at s t)))
    (help-calm s d.from d.txn d.list others b h)
asked-treats R s d Query mine others listed e b h = query-treats R s d.from d.txn d.list mine listed e h.0

pub all-treats : {g : Ground} {me f : ℕ} {t : Txn} (R : Bool) (s : BrickState) (ds : List Deferred) (mine : List ℕ) → Others g me t → g.list t ≡ mine →
    rows.is_ready s.known t mine f ≡ R → BrickOk g me s → AllByRecursion (DeferredOk g me) ds →
    Treats f t s (notices.asked_all_again s ds) (put_all R f t ds) (sent_all R f t ds (own_at s t))
all-treats {f = f} {t = t} R s [] mine others listed e b h =
    treats-as (put_all R f t []) (sent_all R f t [] (own_at s t)) (nothing-put R f t) (nothing-sent R f t (own_at s t)) (calm-still s)
all-treats {g = g} {me = me} {f = f} {t = t} R s (d ∷ ds) mine others listed e b h =
    treats-as (put_all R f t (d ∷ ds)) (sent_all R f t (d ∷ ds) (own_at s t)) (put-more R f t d ds) (sent-more R f t d ds (own_at s t))
    (treats-then s (notices.asked_again s d d.question) (λ u. notices.asked_all_again u ds) (put_if R (is_asking f t d d.question)) (put_all R f t ds)
    (sent_if R (is_asking f t d d.question) (own_at s t)) (sent_all R f t ds (own_at s t)) (team.asked-good s d d.question refl b h.0)
    (asked-treats R s d d.question mine others listed e b h.0)
    (λ u k known own. subst (λ a. Treats f t u (notices.asked_all_again u ds) (put_all R f t ds) (sent_all R f t ds a)) own
    (all-treats R u ds mine others listed (ap (λ v. rows.is_ready v t mine f) known ∙ e) k h.1)))
