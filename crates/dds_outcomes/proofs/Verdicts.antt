use Rattle.std.proofs.Common.{◌≡◌, ℕ, ◌||◌, ◌⊎◌, inl, inr, ◌++◌, Bool, true, false, not, List, [], ◌∷◌, Option, Some, None, is_some}
use Rattle.std.proofs.Common.{refl, sym, ap, ◌∙◌}
use Rattle.std.proofs.lemmas.Bool.{and_parts}
use Rattle.std.specs.FinMap.{get}
use Rattle.std.specs.List.{AllByRecursion}
use Rattle.std.specs.Prelude.{if◌then◌else◌}
use Rattle.dds_base.specs.BrickList.{has}
use Rattle.dds_base.specs.Number.{Txn, same_txn}
use Rattle.dds_base.specs.declared.number.NodeNo.{NodeNo}
use Rattle.dds_base.specs.declared.pending.Pending.{Pending}
use Rattle.dds_base.specs.declared.pending.TxnStatus.{TxnStatus}
use Rattle.dds_brick_rows.specs.Calls as calls
use Rattle.dds_brick_rows.specs.Resolution as rows
use Rattle.dds_brick_rows.specs.declared.resolution.News.{News}
use Rattle.dds_brick_rows.specs.declared.resolution.News.TheVariants as news
use Rattle.dds_core.proofs.Lists.{all-append, all-map}
use Rattle.dds_letters.specs.declared.letter.Letter.{Letter}
use Rattle.dds_letters.specs.declared.letter.Letter.TheVariants as letter
use Rattle.dds_locks.proofs.Locked.{found-numbered}
use Rattle.dds_locks.specs.Pending.{first_of}
use Rattle.dds_locks.specs.State.{LockState}
use Rattle.dds_resolve.proofs.Statuses.{as_status, status-at}
use Rattle.dds_resolve.specs.Law.{Differ, txns}
use Rattle.dds_states.specs.Turn.{BrickTurn, still, sends, and_then, to_each, is_none_left, unknown_others}
use Rattle.dds_states.specs.declared.brick_state.BrickState.{BrickState}
use Rattle.dds_states.specs.declared.brick_state.Resolving.{Resolving}
use Rattle.dds_talk.proofs.Letters.{NoneAbout}
use Rattle.dds_talk.proofs.Parts.{is-same, pending-other}
use Rattle.dds_talk.proofs.Tales.{Done, Tale, outcome-tale, tale-kept, tale-still}
use Rattle.dds_talk.proofs.Tales.Done.{same, ended}
use Rattle.dds_talk.specs.Seen.{Once, at_of, is_pending, said}
use Rattle.dds_outcomes.proofs.Marks.{applied-here, quiet-each, stays-done, tale-over}

-- A commit that a brick tells as a resolver was decided before the turn, or the brick has noted it by the turn's end.

-- `D` says which commits were decided before the turn
abbrev pub Sure : (Txn → Bool) → LockState → Txn → Type 0
Sure D k t = (D t ≡ true) ⊎ ((get k.outcomes t ≡ Some true) × (is_pending k.pending t ≡ false))

abbrev pub SaidOk : (Txn → Bool) → LockState → Letter → Type 0
SaidOk D k (letter.Outcome txn c) = c ≡ true → Sure D k txn
SaidOk D k other = Unit {0}

abbrev pub AllSaid : (Txn → Bool) → LockState → List (NodeNo × Letter) → Type 0
AllSaid D k ls = AllByRecursion (λ (p : NodeNo × Letter). SaidOk D k p.1) ls

-- what a resolving saw is so: a commit was decided; and where it saw neither commit nor no, the attempt is pending here
pub record Fair (D : Txn → Bool) (k : LockState) (r : Resolving) : Type 0 where
  pub commit : r.saw_commit ≡ true → Sure D k r.txn
  pub open_here : r.saw_commit ≡ false → r.saw_no ≡ false → is_pending k.pending r.txn ≡ true

abbrev pub HeardOk : (Txn → Bool) → News → Type 0
HeardOk D news.Stopped = Unit {0}
HeardOk D (news.Told txn st) = rows.is_commit st ≡ true → D txn ≡ true

-- a turn of a brick whose attempts are each pending once
pub record Speaks (D : Txn → Bool) (s : BrickState) (r : BrickTurn) : Type 0 where
  pub tale : Tale s r
  pub said_ok : AllSaid D r.state.locks r.out.letters

sure-later : (D : Txn → Bool) (s u : BrickState) (t : Txn) → Done s u t → Sure D s.locks t → Sure D u.locks t
sure-later D s u t d (inl h) = inl h
sure-later D s u t d (inr h) = inr (stays-done s u t d h.0 h.1)

said-later : (D : Txn → Bool) (s u : BrickState) (l : Letter) → ((t : Txn) → Done s u t) → SaidOk D s.locks l → SaidOk D u.locks l
said-later D s u (letter.Outcome txn c) d h = λ e. sure-later D s u txn (d txn) (h e)
said-later D s u other d h = tt

done-then : (s u v : BrickState) (t : Txn) → Done s u t → Done u v t → Done s v t
done-then s u v t (same a b) (same c d) = same (c ∙ a) (d ∙ b)
done-then s u v t (same a b) (ended c p q r) = ended c (sym a ∙ p) q r
done-then s u v t (ended c p q r) (same e f) = ended c p (e ∙ q) (f ∙ r)
done-then s u v t (ended c p q r) (ended d e f g) = let no : false ≡ true = sym q ∙ e in cc

pub speaks-after : (D : Txn → Bool) (s : BrickState) (r : BrickTurn) (row : BrickState → BrickTurn) → Once s.locks.pending → Speaks D s r
    → Speaks D r.state (row r.state) → Speaks D s (and_then r row)
speaks-after D s r row o a c =
    let v = (row r.state).state in
    record {
      tale = record {
        once = λ k. c.tale.once (a.tale.once k);
        done = λ k t. done-then s r.state v t (a.tale.done k t) (c.tale.done (a.tale.once k) t);
        apart = λ k. c.tale.apart (a.tale.apart k);
        quiet = λ t. all-append _ r.out.letters (row r.state).out.letters (a.tale.quiet t) (c.tale.quiet t);
      };
      said_ok = all-append (λ (p : NodeNo × Letter). SaidOk D v.locks p.1) r.out.letters (row r.state).out.letters
          (all-map (λ (p : NodeNo × Letter). SaidOk D r.state.locks p.1) (λ (p : NodeNo × Letter). SaidOk D v.locks p.1) r.out.letters
          (λ p h. said-later D r.state v p.1 (c.tale.done (a.tale.once o)) h) a.said_ok) c.said_ok;
    }

pub speaks-if : (D : Txn → Bool) (s : BrickState) (c : Bool) (r q : BrickTurn) → (c ≡ true → Speaks D s r) → Speaks D s q → Speaks D s (if c then r else q)
speaks-if D s true r q h g = h refl
speaks-if D s false r q h g = g

pub speaks-still : (D : Txn → Bool) (s u : BrickState) → u.locks ≡ s.locks → Speaks D s (still u)
speaks-still D s u e = record { tale = tale-still s u e; said_ok = tt }

pub speaks-kept : (D : Txn → Bool) (s : BrickState) (ls : List (NodeNo × Letter)) → ((t : Txn) → NoneAbout said t ls) → AllSaid D s.locks ls
    → Speaks D s (sends s ls)
speaks-kept D s ls q h = record { tale = tale-kept s s ls refl q; said_ok = h }

pub each-said : (D : Txn → Bool) (k : LockState) (ns : List NodeNo) (l : Letter) → SaidOk D k l → AllSaid D k (to_each ns l)
each-said D k [] l h = tt
each-said D k (n ∷ ns) l h = (h, each-said D k ns l h)

-- Outcome
settled-silent : (D : Txn → Bool) (s : BrickState) (x : Txn) (c : Bool) (q : Option Pending)
    → AllSaid D (rows.settled (calls.dropped s x) c q).state.locks (rows.settled (calls.dropped s x) c q).out.letters
settled-silent D s x c None = tt
settled-silent D s x true (Some p) = tt
settled-silent D s x false (Some p) = tt

pub outcome-speaks : (D : Txn → Bool) (s : BrickState) (x : Txn) (c : Bool) → Speaks D s (rows.outcome_row s x c)
outcome-speaks D s x c = record { tale = outcome-tale s x c; said_ok = settled-silent D s x c (first_of s.locks.pending x) }

-- an attempt that is pending is committed where that is decided
settled-now : (s : BrickState) (x : Txn) (c : Bool) (q : Option Pending) → first_of s.locks.pending x ≡ q → is_some q ≡ true → c ≡ true
    → Once s.locks.pending
    → (get (rows.settled (calls.dropped s x) c q).state.locks.outcomes x ≡ Some true)
    × (is_pending (rows.settled (calls.dropped s x) c q).state.locks.pending x ≡ false)
settled-now s x c None f i e o = cc
settled-now s x false (Some p) f i e o = cc
settled-now s x true (Some p) f i e o =
    let h = applied-here s x p f o in
    let px : p.txn ≡ x = is-same p.txn x (found-numbered s.locks.pending p x f) in (
      ap (get (calls.applied (calls.dropped s x) p).state.locks.outcomes) (sym px) ∙ h.0,
      ap (is_pending (calls.dropped s x).locks.pending) (sym px) ∙ h.1,
    )

sure-if : (D : Txn → Bool) (s : BrickState) (r : Resolving) (saw denied : Bool) → r.saw_commit ≡ saw → r.saw_no ≡ denied → Once s.locks.pending
    → Fair D s.locks r → (saw || not denied) ≡ true → Sure D (rows.outcome_row s r.txn (rows.verdict r)).state.locks r.txn
sure-if D s r true denied a b o f e =
    sure-later D s (rows.outcome_row s r.txn (rows.verdict r)).state r.txn ((outcome-tale s r.txn (rows.verdict r)).done o r.txn) (f.commit a)
sure-if D s r false true a b o f e = cc
sure-if D s r false false a b o f e =
    let c : rows.verdict r ≡ true = ap (λ k. k || not r.saw_no) a ∙ ap not b in
    inr (settled-now s r.txn (rows.verdict r) (first_of s.locks.pending r.txn) refl (f.open_here a b) c o)

decides-speaks : (D : Txn → Bool) (s : BrickState) (r : Resolving) → Once s.locks.pending → Fair D s.locks r → Speaks D s (rows.decides s r)
decides-speaks D s r o f =
    let u = (rows.outcome_row s r.txn (rows.verdict r)).state in
    let ns = unknown_others r.list u.number u.known in
    speaks-after D s (rows.outcome_row s r.txn (rows.verdict r))
    (λ t. sends t (to_each (unknown_others r.list t.number t.known) (letter.Outcome r.txn (rows.verdict r)))) o (outcome-speaks D s r.txn (rows.verdict r))
    (speaks-kept D u (to_each ns (letter.Outcome r.txn (rows.verdict r))) (quiet-each (letter.Outcome r.txn (rows.verdict r)) ns refl)
    (each-said D u.locks ns (letter.Outcome r.txn (rows.verdict r)) (λ e. sure-if D s r r.saw_commit r.saw_no refl refl o f e)))

resolves-speaks : (D : Txn → Bool) (s : BrickState) (r : Resolving) → Once s.locks.pending → Fair D s.locks r → Speaks D s (rows.resolves_on s r)
resolves-speaks D s r o f =
    speaks-if D s (is_none_left r.waiting) _ _ (λ e. decides-speaks D s r o f) (speaks-still D s (record s { resolving = s.resolving ++ r ∷ [] }) refl)

-- a resolving that starts has seen the brick's own status
saw-commit : (p : Bool) (g : Option Bool) → rows.is_commit (as_status (at_of p g)) ≡ true → (g ≡ Some true) × (p ≡ false)
saw-commit true g e = cc
saw-commit false None e = cc
saw-commit false (Some true) e = (refl, refl)
saw-commit false (Some false) e = cc

saw-none : (p : Bool) (g : Option Bool) → rows.is_commit (as_status (at_of p g)) ≡ false → rows.is_no (as_status (at_of p g)) ≡ false → p ≡ true
saw-none true g e f = refl
saw-none false None e f = cc
saw-none false (Some true) e f = cc
saw-none false (Some false) e f = cc

started-fair : (D : Txn → Bool) (s : BrickState) (x : Txn) (list : List ℕ) → Fair D s.locks (rows.started s x list)
started-fair D s x list =
    let st = status-at s.locks (get s.locks.outcomes x) x refl in
    record {
      commit = λ e. inr (saw-commit (is_pending s.locks.pending x) (get s.locks.outcomes x) (ap rows.is_commit (sym st) ∙ e));
      open_here = λ e f. saw-none (is_pending s.locks.pending x) (get s.locks.outcomes x) (ap rows.is_commit (sym st) ∙ e) (ap rows.is_no (sym st) ∙ f);
    }

pub resolve-speaks : (D : Txn → Bool) (s : BrickState) (x : Txn) (list : List ℕ) → Once s.locks.pending → Speaks D s (rows.resolve s x list)
resolve-speaks D s x list o =
    let ns = unknown_others list s.number s.known in
    speaks-after D s (sends s (to_each ns (letter.Query x list))) (λ t. rows.resolves_on t (rows.started s x list)) o
    (speaks-kept D s (to_each ns (letter.Query x list)) (quiet-each (letter.Query x list) ns refl) (each-said D s.locks ns (letter.Query x list) tt))
    (resolves-speaks D s (rows.started s x list) o (started-fair D s x list))

-- what a member tells
both-false : (a b : Bool) → (a || b) ≡ false → (a ≡ false) × (b ≡ false)
both-false true b e = cc
both-false false b e = (refl, e)

told-commit : (D : Txn → Bool) (k : LockState) (r : Resolving) (t : Txn) (st : TxnStatus) (saw : Bool) → r.saw_commit ≡ saw → r.txn ≡ t
    → Fair D k r → (rows.is_commit st ≡ true → D t ≡ true) → (saw || rows.is_commit st) ≡ true → Sure D k r.txn
told-commit D k r t st true a i f h e = f.commit a
told-commit D k r t st false a i f h e = inl (ap D i ∙ h e)

news-fair : (D : Txn → Bool) (k : LockState) (r : Resolving) (from : NodeNo) (n : News) → HeardOk D n → rows.is_awaited r from n ≡ true → Fair D k r
    → Fair D k (rows.with_news r from n)
news-fair D k r from news.Stopped h a f = record { commit = f.commit; open_here = f.open_here }
news-fair D k r from (news.Told t st) h a f =
    let i = is-same r.txn t (and_parts (rows.is_of t r) (has r.waiting from) a).0 in
    record {
      commit = λ e. told-commit D k r t st r.saw_commit refl i f h e;
      open_here = λ e g. f.open_here (both-false r.saw_commit (rows.is_commit st) e).0 (both-false r.saw_no (rows.is_no st) g).0;
    }

resolving-speaks : (D : Txn → Bool) (s : BrickState) (y : NodeNo) (n : News) (r : Resolving) → Once s.locks.pending → HeardOk D n → Fair D s.locks r
    → Speaks D s (rows.resolving_goes s y n r)
resolving-speaks D s y n r o h f =
    speaks-if D s (rows.is_awaited r y n) _ _ (λ a. resolves-speaks D s (rows.with_news r y n) o (news-fair D s.locks r y n h a f))
    (speaks-still D s (record s { resolving = s.resolving ++ r ∷ [] }) refl)

-- the attempts of other resolvings stay pending
settled-other : (s : BrickState) (x : Txn) (c : Bool) (q : Option Pending) (t : Txn) → same_txn x t ≡ false
    → is_pending (rows.settled (calls.dropped s x) c q).state.locks.pending t ≡ is_pending s.locks.pending t
settled-other s x c None t e = pending-other s.locks.pending x t e
settled-other s x true (Some p) t e = pending-other s.locks.pending x t e
settled-other s x false (Some p) t e = pending-other s.locks.pending x t e

abbrev SamePending : BrickState → Txn → BrickTurn → Type 0
SamePending s t r = is_pending r.state.locks.pending t ≡ is_pending s.locks.pending t

same-if : (s : BrickState) (t : Txn) (c : Bool) (r q : BrickTurn) → SamePending s t r → SamePending s t q → SamePending s t (if c then r else q)
same-if s t true r q h g = h
same-if s t false r q h g = g

news-txn : (r : Resolving) (from : NodeNo) (n : News) → (rows.with_news r from n).txn ≡ r.txn
news-txn r from news.Stopped = refl
news-txn r from (news.Told t st) = refl

resolves-other : (s : BrickState) (r : Resolving) (t : Txn) → same_txn r.txn t ≡ false → SamePending s t (rows.resolves_on s r)
resolves-other s r t e =
    same-if s t (is_none_left r.waiting) (rows.decides s r) (still (record s { resolving = s.resolving ++ r ∷ [] }))
    (settled-other s r.txn (rows.verdict r) (first_of s.locks.pending r.txn) t e) refl

resolving-other : (s : BrickState) (y : NodeNo) (n : News) (r : Resolving) (t : Txn) → same_txn r.txn t ≡ false
    → SamePending s t (rows.resolving_goes s y n r)
resolving-other s y n r t e =
    same-if s t (rows.is_awaited r y n) (rows.resolves_on s (rows.with_news r y n)) (still (record s { resolving = s.resolving ++ r ∷ [] }))
    (resolves-other s (rows.with_news r y n) t (ap (λ x. same_txn x t) (news-txn r y n) ∙ e)) refl

fairs-later : (D : Txn → Bool) (s : BrickState) (y : NodeNo) (n : News) (r : Resolving) (rs : List Resolving)
    → ((t : Txn) → Done s (rows.resolving_goes s y n r).state t)
    → AllByRecursion (λ t. same_txn r.txn t ≡ false) (txns rs) → AllByRecursion (Fair D s.locks) rs
    → AllByRecursion (Fair D (rows.resolving_goes s y n r).state.locks) rs
fairs-later D s y n r [] d a f = tt
fairs-later D s y n r (x ∷ rs) d a f = (
  record {
    commit = λ e. sure-later D s (rows.resolving_goes s y n r).state x.txn (d x.txn) (f.0.commit e);
    open_here = λ e g. resolving-other s y n r x.txn a.0 ∙ f.0.open_here e g;
  },
  fairs-later D s y n r rs d a.1 f.1,
)

resolvings-speak : (D : Txn → Bool) (s : BrickState) (y : NodeNo) (n : News) (rs : List Resolving) → Once s.locks.pending → HeardOk D n
    → Differ (txns rs) → AllByRecursion (Fair D s.locks) rs → Speaks D s (rows.resolvings_go s y n rs)
resolvings-speak D s y n [] o h a f = speaks-still D s s refl
resolvings-speak D s y n (r ∷ rs) o h a f =
    let one = resolving-speaks D s y n r o h f.0 in
    let u = (rows.resolving_goes s y n r).state in
    speaks-after D s (rows.resolving_goes s y n r) (λ v. rows.resolvings_go v y n rs) o one
    (resolvings-speak D u y n rs (one.tale.once o) h a.1 (fairs-later D s y n r rs (one.tale.done o) a.0 f.1))

pub hear-speaks : (D : Txn → Bool) (s : BrickState) (y : NodeNo) (n : News) → Once s.locks.pending → HeardOk D n → Differ (txns s.resolving)
    → AllByRecursion (Fair D s.locks) s.resolving → Speaks D s (rows.all_hear s y n)
hear-speaks D s y n o h a f =
    let k = resolvings-speak D (record s { resolving = [] }) y n s.resolving o h a f in
    record { tale = tale-over s (record s { resolving = [] }) (rows.all_hear s y n) refl k.tale; said_ok = k.said_ok }
