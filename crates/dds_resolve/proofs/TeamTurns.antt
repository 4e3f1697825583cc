use Rattle.std.proofs.Common.{◌≡◌, ℕ, ◌==◌, ◌||◌, Bool, true, false, not, Option, Some, None, List, [], ◌∷◌}
use Rattle.std.proofs.Common.{◌++◌, find, refl, sym, ap, ◌∙◌, subst, arith}
use Rattle.std.proofs.lemmas.Bool.{and_parts}
use Rattle.std.proofs.lemmas.Bool.Decides.{nat_tests}
use Rattle.std.specs.List.{AllByRecursion}
use Rattle.std.specs.Prelude.{if◌then◌else◌}
use Rattle.dds_base.specs.BrickList.{has}
use Rattle.dds_base.specs.NodeSet.{has_node}
use Rattle.dds_base.specs.Number.{Txn}
use Rattle.dds_base.specs.declared.node_set.NodeSet.{NodeSet}
use Rattle.dds_base.specs.declared.number.NodeNo.{NodeNo}
use Rattle.dds_base.specs.declared.pending.Pending.{Pending}
use Rattle.dds_brick_rows.specs.Calls as calls
use Rattle.dds_brick_rows.specs.Resolution as rows
use Rattle.dds_brick_rows.specs.declared.resolution.News.{News}
use Rattle.dds_brick_rows.specs.declared.resolution.News.TheVariants as news
use Rattle.dds_core.specs.Notice as notices
use Rattle.dds_groups.proofs.Members.{has-live}
use Rattle.dds_letters.specs.declared.letter.Letter.{Letter}
use Rattle.dds_letters.specs.declared.letter.Letter.TheVariants as letter
use Rattle.dds_locks.specs.First.{without_first}
use Rattle.dds_locks.specs.Pending.{first_of}
use Rattle.dds_core.proofs.Lists.{all-append}
use Rattle.dds_states.specs.Turn.{BrickTurn, still, sends, and_then, to_each, is_none_left, unknown, unknown_others}
use Rattle.dds_states.specs.declared.brick_state.BrickState.{BrickState}
use Rattle.dds_states.specs.declared.brick_state.Deferred.{Deferred}
use Rattle.dds_states.specs.declared.brick_state.Question.{Question}
use Rattle.dds_states.specs.declared.brick_state.Question.TheVariants.{Help, Query}
use Rattle.dds_states.specs.declared.brick_state.Resolving.{Resolving}
use Rattle.dds_talk.proofs.Letters.{has-without}
use Rattle.dds_resolve.specs.Team.{Ground, Team, LetterOk, PendingOk, AskedOk, DeferredOk, ResolvingOk, BrickOk}

-- A brick's turn keeps who resolves an attempt of a stopped library, over one ground.

abbrev pub AllOk : Ground → ℕ → List (NodeNo × Letter) → Type 0
AllOk g at ls = AllByRecursion (λ (p : NodeNo × Letter). LetterOk g at p.0 p.1) ls

pub record Good (g : Ground) (at : ℕ) (r : BrickTurn) : Type 0 where
  pub state : BrickOk g at r.state
  pub letters : AllOk g at r.out.letters

pub good-still : {g : Ground} {at : ℕ} {s : BrickState} → BrickOk g at s → Good g at (still s)
good-still b = record { state = b; letters = tt }

pub good-sends : {g : Ground} {at : ℕ} (s : BrickState) (ls : List (NodeNo × Letter)) → BrickOk g at s → AllOk g at ls → Good g at (sends s ls)
good-sends s ls b h = record { state = b; letters = h }

pub good-then : {g : Ground} {at : ℕ} (r : BrickTurn) (row : BrickState → BrickTurn) → Good g at r → ((u : BrickState) → BrickOk g at u → Good g at (row u)) →
    Good g at (and_then r row)
good-then r row a f =
    let b = f r.state a.state in
    record { state = b.state; letters = all-append _ r.out.letters (row r.state).out.letters a.letters b.letters }

pub good-if : {g : Ground} {at : ℕ} (c : Bool) (r q : BrickTurn) → (c ≡ true → Good g at r) → (c ≡ false → Good g at q) → Good g at (if c then r else q)
good-if true r q f h = f refl
good-if false r q f h = h refl

-- a test holds or not
pub not-both : (b : Bool) → b ≡ true → b ≡ false → ⊥
not-both b e f = let q = sym e ∙ f in cc

-- lists
pub without-all : {X : Type 0} (P : X → Type 0) (test : X → Bool) (xs : List X) → AllByRecursion P xs → AllByRecursion P (without_first test xs)
without-all P test [] h = tt
without-all P test (x ∷ xs) h = pick (test x) h.0 h.1 (without-all P test xs h.1)
  where
    pick : (c : Bool) → P x → AllByRecursion P xs → AllByRecursion P (without_first test xs) → AllByRecursion P (if c then xs else x ∷ without_first test xs)
    pick true i k w = k
    pick false i k w = (i, w)

abbrev pub IfSome : {X : Type 0} → (X → Type 0) → Option X → Type 0
IfSome P None = Unit {0}
IfSome P (Some x) = P x

pub found-all : {X : Type 0} (P : X → Type 0) (test : X → Bool) (xs : List X) → AllByRecursion P xs → IfSome P (find test xs)
found-all P test [] h = tt
found-all P test (x ∷ xs) h = pick (test x) h.0 (found-all P test xs h.1)
  where
    pick : (c : Bool) → P x → IfSome P (find test xs) → IfSome P (if c then Some x else find test xs)
    pick true i w = i
    pick false i w = w

pub each-has : (P : ℕ → Letter → Type 0) (ns : List NodeNo) (l : Letter) → ((n : ℕ) → has ns n ≡ true → P n l) →
    AllByRecursion (λ (p : NodeNo × Letter). P p.0 p.1) (to_each ns l)
each-has P [] l f = tt
each-has P (n ∷ ns) l f =
    let self : (n == n || has ns n) ≡ true = grind (arith, nat_tests) in
    (f n self, each-has P ns l (λ m h. f m (later (n == m) (has ns m) h)))
  where
    later : (a b : Bool) → b ≡ true → (a || b) ≡ true
    later true b e = refl
    later false b e = e

pub unknown-has : (list : List ℕ) (known : NodeSet) (n : ℕ) → has (unknown list known) n ≡ true → has list n ≡ true
unknown-has list known n h = (and_parts (has list n) (not (has_node known n)) (sym (has-live list (has_node known) n) ∙ h)).0

pub others-has : (list : List ℕ) (me : ℕ) (known : NodeSet) (n : ℕ) → has (unknown_others list me known) n ≡ true → has list n ≡ true
others-has list me known n h = unknown-has list known n
    (and_parts (has (unknown list known) n) (not (n == me)) (sym (has-without (unknown list known) me n) ∙ h)).0

me-apart : (at : ℕ) (list : List ℕ) (me : ℕ) (known : NodeSet) (n : ℕ) → me ≡ at → has (unknown_others list me known) n ≡ true → (at == n) ≡ false
me-apart at list me known n e h = swap n at
    (ap (λ k. n == k) (sym e) ∙ not-true (n == me)
    (and_parts (has (unknown list known) n) (not (n == me)) (sym (has-without (unknown list known) me n) ∙ h)).1)
  where
    not-true : (b : Bool) → not b ≡ true → b ≡ false
    not-true true e = cc
    not-true false e = refl

    swap : (a b : ℕ) → (a == b) ≡ false → (b == a) ≡ false
    swap a b e = grind (arith, nat_tests, e)

pub team-to : {g : Ground} {t : Txn} {list : List ℕ} {f m : ℕ} (n : ℕ) → Team g t list f m → has list n ≡ true → Team g t list f n
team-to n h e = record {
  members = record { listed = h.members.listed; inside = h.members.inside; member = e };
  resolver = h.resolver;
  library = h.library;
  frozen = h.frozen;
  first = h.first;
}

-- Outcome
pub dropped-ok : {g : Ground} {at : ℕ} {s : BrickState} (t : Txn) → BrickOk g at s → BrickOk g at (calls.dropped s t)
dropped-ok {g = g} {at = at} {s = s} t b = record {
  number = b.number;
  known = b.known;
  pending = without-all (PendingOk g at) _ s.locks.pending b.pending;
  deferred = b.deferred;
  resolving = b.resolving;
}

settled-good : {g : Ground} {at : ℕ} (s : BrickState) (commit : Bool) (p : Option Pending) → BrickOk g at s → Good g at (rows.settled s commit p)
settled-good s commit None b = good-still b
settled-good s true (Some p) b = record {
  state =
      record { number = b.number; known = b.known; pending = b.pending; deferred = b.deferred; resolving = b.resolving };
  letters = tt;
}
settled-good s false (Some p) b = record {
  state =
      record { number = b.number; known = b.known; pending = b.pending; deferred = b.deferred; resolving = b.resolving };
  letters = tt;
}

pub outcome-good : {g : Ground} {at : ℕ} (s : BrickState) (t : Txn) (commit : Bool) → BrickOk g at s → Good g at (rows.outcome_row s t commit)
outcome-good s t commit b = settled-good (calls.dropped s t) commit (first_of s.locks.pending t) (dropped-ok t b)

-- resolving
pub decides-good : {g : Ground} {at : ℕ} (s : BrickState) (r : Resolving) → BrickOk g at s → ResolvingOk g at r → Good g at (rows.decides s r)
decides-good {g = g} {at = at} s r b h =
    good-then (rows.outcome_row s r.txn (rows.verdict r))
    (λ u. sends u (to_each (unknown_others r.list u.number u.known) (letter.Outcome r.txn (rows.verdict r)))) (outcome-good s r.txn (rows.verdict r) b)
    (λ u k. good-sends u _ k (each-has (LetterOk g at) (unknown_others r.list u.number u.known) (letter.Outcome r.txn (rows.verdict r))
    (λ n e. record {
      list = r.list;
      team = team-to n h (others-has r.list u.number u.known n e);
      apart = me-apart at r.list u.number u.known n k.number e;
    })))

pub keeps-good : {g : Ground} {at : ℕ} (s : BrickState) (r : Resolving) → BrickOk g at s → ResolvingOk g at r →
    Good g at (still (record s { resolving = s.resolving ++ r ∷ [] }))
keeps-good {g = g} {at = at} s r b h = record {
  state =
      record {
        number = b.number;
        known = b.known;
        pending = b.pending;
        deferred = b.deferred;
        resolving = all-append (ResolvingOk g at) s.resolving (r ∷ []) b.resolving (h, tt);
      };
  letters = tt;
}

pub resolves-good : {g : Ground} {at : ℕ} (s : BrickState) (r : Resolving) → BrickOk g at s → ResolvingOk g at r → Good g at (rows.resolves_on s r)
resolves-good s r b h = good-if (is_none_left r.waiting) _ _ (λ e. decides-good s r b h) (λ e. keeps-good s r b h)

pub resolve-good : {g : Ground} {at : ℕ} (s : BrickState) (t : Txn) (list : List ℕ) → BrickOk g at s → Team g t list at at → Good g at (rows.resolve s t list)
resolve-good {g = g} {at = at} s t list b h =
    good-then (sends s (to_each (unknown_others list s.number s.known) (letter.Query t list))) (λ u. rows.resolves_on u (rows.started s t list))
    (record {
      state = b;
      letters = each-has (LetterOk g at) (unknown_others list s.number s.known) (letter.Query t list)
          (λ n e. (team-to n h (others-has list s.number s.known n e), me-apart at list s.number s.known n b.number e));
    })
    (λ u k. resolves-good u (rows.started s t list) k h)

pub defers-good : {g : Ground} {at : ℕ} (s : BrickState) (d : Deferred) → BrickOk g at s → DeferredOk g at d →
    Good g at (still (record s { deferred = s.deferred ++ d ∷ [] }))
defers-good {g = g} {at = at} s d b h = record {
  state =
      record {
        number = b.number;
        known = b.known;
        pending = b.pending;
        deferred = all-append (DeferredOk g at) s.deferred (d ∷ []) b.deferred (h, tt);
        resolving = b.resolving;
      };
  letters = tt;
}

pub help-good : {g : Ground} {at : ℕ} (s : BrickState) (from : NodeNo) (t : Txn) (list : List ℕ) → BrickOk g at s → Team g t list at from →
    Good g at (rows.help_row s from t list)
help-good {g = g} {at = at} s from t list b h =
    good-if (rows.is_ready s.known t list s.number) _ _
    (λ e. good-if (rows.is_resolved s t) _ _ (λ f. good-still b) (λ f. resolve-good s t list b (team-to at h h.resolver))) (λ e. defers-good s _ b h)

pub query-good : {g : Ground} {at : ℕ} (s : BrickState) (from : NodeNo) (t : Txn) (list : List ℕ) → BrickOk g at s →
    Team g t list from at × ((from == at) ≡ false) → Good g at (rows.query_row s from t list)
query-good {g = g} {at = at} s from t list b h =
    good-if (rows.is_ready s.known t list from) _ _ (λ e. record { state = b; letters = (record { list = list; team = h.0; apart = h.1 }, tt) })
    (λ e. defers-good s _ b h)

-- what a member tells, at each resolving
with-news-ok : {g : Ground} {at : ℕ} (r : Resolving) (from : NodeNo) (n : News) → ResolvingOk g at r → ResolvingOk g at (rows.with_news r from n)
with-news-ok r from news.Stopped h = h
with-news-ok r from (news.Told t st) h = h

pub resolving-good : {g : Ground} {at : ℕ} (s : BrickState) (from : NodeNo) (n : News) (r : Resolving) → BrickOk g at s → ResolvingOk g at r →
    Good g at (rows.resolving_goes s from n r)
resolving-good s from n r b h = good-if (rows.is_awaited r from n) _ _ (λ e. resolves-good s (rows.with_news r from n) b (with-news-ok r from n h))
    (λ e. keeps-good s r b h)

pub resolvings-good : {g : Ground} {at : ℕ} (s : BrickState) (from : NodeNo) (n : News) (rs : List Resolving) → BrickOk g at s →
    AllByRecursion (ResolvingOk g at) rs → Good g at (rows.resolvings_go s from n rs)
resolvings-good s from n [] b h = good-still b
resolvings-good s from n (r ∷ rs) b h =
    good-then (rows.resolving_goes s from n r) (λ u. rows.resolvings_go u from n rs) (resolving-good s from n r b h.0)
    (λ u k. resolvings-good u from n rs k h.1)

pub hear-good : {g : Ground} {at : ℕ} (s : BrickState) (from : NodeNo) (n : News) → BrickOk g at s → Good g at (rows.all_hear s from n)
hear-good s from n b =
    resolvings-good (record s { resolving = [] }) from n s.resolving
    (record { number = b.number; known = b.known; pending = b.pending; deferred = b.deferred; resolving = tt }) b.resolving

pub asked-good : {g : Ground} {at : ℕ} (s : BrickState) (d : Deferred) (q : Question) → d.question ≡ q → BrickOk g at s → DeferredOk g at d →
    Good g at (notices.asked_again s d q)
asked-good {g = g} {at = at} s d Help e b h = help-good s d.from d.txn d.list b (subst (AskedOk g at d) e h)
asked-good {g = g} {at = at} s d Query e b h = query-good s d.from d.txn d.list b (subst (AskedOk g at d) e h)

pub all-asked-good : {g : Ground} {at : ℕ} (s : BrickState) (ds : List Deferred) → BrickOk g at s → AllByRecursion (DeferredOk g at) ds →
    Good g at (notices.asked_all_again s ds)
all-asked-good s [] b h = good-still b
all-asked-good s (d ∷ ds) b h = good-then (notices.asked_again s d d.question) (λ u. notices.asked_all_again u ds) (asked-good s d d.question refl b h.0)
    (λ u k. all-asked-good u ds k h.1)
