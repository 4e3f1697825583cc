use Rattle.std.proofs.Common.{◌≡◌, ℕ, ◌==◌, ◌&&◌, ◌||◌, ◌⊎◌, inl, inr, Bool, true, false, List, [], ◌∷◌, ◌++◌, find, Option, Some, None}
use Rattle.std.proofs.Common.{refl, sym, ap, ◌∙◌, subst}
use Rattle.std.proofs.lemmas.Bool.{and_parts, eqb-true}
use Rattle.std.specs.List.{AllByRecursion}
use Rattle.std.specs.Prelude.{if◌then◌else◌}
use Rattle.dds_base.specs.BrickList.{has}
use Rattle.dds_base.specs.Number.{Txn, same_txn}
use Rattle.dds_brick_rows.specs.Resolution as rows
use Rattle.dds_letters.specs.declared.letter.Letter.{Letter}
use Rattle.dds_letters.specs.declared.letter.Letter.TheVariants as letter
use Rattle.dds_states.specs.declared.brick_state.BrickState.{BrickState}
use Rattle.dds_states.specs.declared.brick_state.Deferred.{Deferred}
use Rattle.dds_states.specs.declared.brick_state.Question.{Question}
use Rattle.dds_states.specs.declared.brick_state.Question.TheVariants.{Help, Query}
use Rattle.dds_states.specs.declared.brick_state.Resolving.{Resolving}
use Rattle.dds_talk.specs.Table.{At}
use Rattle.dds_talk.specs.Resolve.Resolves.{rest}
use Rattle.dds_talk.specs.Seen.{about, of, one}
use Rattle.dds_talk.proofs.Parts.{is-same}
use Rattle.dds_resolve.proofs.TeamTurns.{not-both}
use Rattle.dds_resolve.specs.Resolving.{is_asking, own_at, status_in, tell_in, waits}
use Rattle.dds_net.specs.Net.{Net}
use Rattle.dds_talk.specs.Resolve.{Agreed}
use Rattle.dds_talk.specs.Table.At.{Unprepared, Committed}
use Rattle.dds_brick_rows.specs.Resolution.{is_ready}
use Rattle.dds_resolve.specs.Resolved.{Alive, LeftOver, Lost, ToldOk}
use Rattle.dds_resolve.specs.Team.{Ground, Team, LetterOk, AskedOk, DeferredOk, ResolvingOk}
use Rattle.dds_resolve.specs.Teams.{BrickIs}
use Rattle.dds_resolve.proofs.MemberTurns.{Others}

-- Of two resolvers of an attempt one has stopped; and who can't be its resolver has no part in resolving it.

before-first : (stopped : ℕ → Bool) (list : List ℕ) (f n : ℕ) → stopped f ≡ false → stopped n ≡ false → has list f ≡ true → has list n ≡ true →
    AllByRecursion (λ k. stopped k ≡ true) (rows.before list f) → AllByRecursion (λ k. stopped k ≡ true) (rows.before list n) → f ≡ n
before-first stopped [] f n lf ln hf hn bf bn = cc
before-first stopped (x ∷ xs) f n lf ln hf hn bf bn = pick (x == f) (x == n) refl refl hf hn bf bn (before-first stopped xs f n lf ln)
  where
    clash : stopped x ≡ true → (k : ℕ) → (x == k) ≡ true → stopped k ≡ false → f ≡ n
    clash s k e h = let q : true ≡ false = sym s ∙ ap stopped (eqb-true x k e) ∙ h in cc

    pick : (a b : Bool) → (x == f) ≡ a → (x == n) ≡ b → (a || has xs f) ≡ true → (b || has xs n) ≡ true →
        AllByRecursion (λ k. stopped k ≡ true) (if a then [] else x ∷ rows.before xs f) →
        AllByRecursion (λ k. stopped k ≡ true) (if b then [] else x ∷ rows.before xs n) →
        (has xs f ≡ true → has xs n ≡ true → AllByRecursion (λ k. stopped k ≡ true) (rows.before xs f) →
        AllByRecursion (λ k. stopped k ≡ true) (rows.before xs n) → f ≡ n) → f ≡ n
    pick true true e i h k p q w = sym (eqb-true x f e) ∙ eqb-true x n i
    pick true false e i h k p q w = clash q.0 f e lf
    pick false true e i h k p q w = clash p.0 n i ln
    pick false false e i h k p q w = w h k p.1 q.1

pub one-resolver : {g : Ground} {t : Txn} {list : List ℕ} (f n m k : ℕ) → g.stopped f ≡ false → g.stopped n ≡ false → Team g t list f m → Team g t list n k →
    f ≡ n
one-resolver {g = g} {list = list} f n m k lf ln a b = before-first g.stopped list f n lf ln a.resolver b.resolver a.first b.first

-- while a resolver lives, a live member resolves other attempts
pub others-of : {g : Ground} {t : Txn} {list : List ℕ} (f me m : ℕ) → g.stopped f ≡ false → g.stopped me ≡ false → (f ≡ me → ⊥) → Team g t list f m →
    Others g me t
others-of {g = g} {t = t} {list = list} f me m lf lme ne team x xs k = pick (same_txn x t) refl
  where
    pick : (c : Bool) → same_txn x t ≡ c → same_txn x t ≡ false
    pick false e = e
    pick true e =
        let xt : x ≡ t = is-same x t e in
        let mine : Team g t xs me me = subst (λ v. Team g v xs me me) xt k in
        let same : xs ≡ list = sym mine.members.listed ∙ team.members.listed in
        absurd (ne (one-resolver f me m me lf lme team (subst (λ v. Team g t v me me) same mine)))

-- no resolver of the attempt
abbrev pub NoTeam : Ground → Txn → ℕ → Type 0
NoTeam g t f = (list : List ℕ) (m : ℕ) → Team g t list f m → ⊥

no-one : {X : Type 0} (t x : Txn) (y : X) → (x ≡ t → ⊥) → of t (Some (x, y)) ≡ []
no-one t x y ne = pick (same_txn x t) refl
  where
    pick : (c : Bool) → same_txn x t ≡ c → one c y ≡ []
    pick true e = absurd (ne (is-same x t e))
    pick false e = refl

no-tell : (g : Ground) (t : Txn) (f m : ℕ) (l : Letter) → NoTeam g t f → LetterOk g f m l → of t (tell_in l) ≡ []
no-tell g t f m (letter.Query x list) idle h = no-one t x _ (λ e. idle list m (subst (λ v. Team g v list f m) e h.0))
no-tell g t f m (letter.Outcome x c) idle h = no-one t x _ (λ e. idle h.list m (subst (λ v. Team g v h.list f m) e h.team))
no-tell g t f m other idle h = refl

no-status : (g : Ground) (t : Txn) (f m : ℕ) (l : Letter) → NoTeam g t f → LetterOk g m f l → of t (status_in l) ≡ []
no-status g t f m (letter.Status x st) idle h = no-one t x _ (λ e. idle h.list m (subst (λ v. Team g v h.list f m) e h.team))
no-status g t f m other idle h = refl

nothing : {X : Type 0} (v : Letter → Option (Txn × X)) (t : Txn) (ls : List Letter) (Ok : Letter → Type 0) → ((l : Letter) → Ok l → of t (v l) ≡ []) →
    AllByRecursion Ok ls → about v t ls ≡ []
nothing v t [] Ok none h = refl
nothing v t (l ∷ ls) Ok none h = ap (λ xs. xs ++ about v t ls) (none l h.0) ∙ nothing v t ls Ok none h.1

pub no-resolving : (g : Ground) (t : Txn) (f : ℕ) (rs : List Resolving) → NoTeam g t f → AllByRecursion (ResolvingOk g f) rs → find (rows.is_of t) rs ≡ None
no-resolving g t f [] idle h = refl
no-resolving g t f (r ∷ rs) idle h = pick (rows.is_of t r) refl (no-resolving g t f rs idle h.1)
  where
    pick : (c : Bool) → rows.is_of t r ≡ c → find (rows.is_of t) rs ≡ None → (if c then Some r else find (rows.is_of t) rs) ≡ None
    pick true e w = absurd (idle r.list f (subst (λ v. Team g v r.list f f) (is-same r.txn t e) h.0))
    pick false e w = w

not-asking : (g : Ground) (t : Txn) (f m : ℕ) (d : Deferred) (q : Question) → NoTeam g t f → AskedOk g m d q → is_asking f t d q ≡ false
not-asking g t f m d Help idle h = refl
not-asking g t f m d Query idle h = pick (d.from == f && same_txn d.txn t) refl
  where
    pick : (c : Bool) → (d.from == f && same_txn d.txn t) ≡ c → (d.from == f && same_txn d.txn t) ≡ false
    pick false e = e
    pick true e =
        let k = and_parts (d.from == f) (same_txn d.txn t) e in
        absurd (idle d.list m (subst (λ v. Team g v d.list f m) (is-same d.txn t k.1) (subst (λ v. Team g d.txn d.list v m) (eqb-true d.from f k.0) h.0)))

no-waits : (g : Ground) (t : Txn) (f m : ℕ) (a : At) (ds : List Deferred) → NoTeam g t f → AllByRecursion (DeferredOk g m) ds → waits a f t ds ≡ []
no-waits g t f m a [] idle h = refl
no-waits g t f m a (d ∷ ds) idle h = ap (λ c. one c a ++ waits a f t ds) (not-asking g t f m d d.question idle h.0) ∙ no-waits g t f m a ds idle h.1

-- a brick that can't be the resolver: its conversations rest, whatever was decided
pub rests-alive : (w : Net) (g : Ground) (d : Bool) (t : Txn) (list : List ℕ) (f m : ℕ) (x y : BrickState) → NoTeam g t f → BrickIs g f x → BrickIs g m y
    → AllByRecursion (LetterOk g f m) (w.channel f m) → AllByRecursion (LetterOk g m f) (w.channel m f) → Alive w d t list f m x y
rests-alive w g d t list f m x y idle ok mate out back =
    let tells = nothing tell_in t (w.channel f m) (LetterOk g f m) (λ l h. no-tell g t f m l idle h) out in
    let statuses = nothing status_in t (w.channel m f) (LetterOk g m f) (λ l h. no-status g t f m l idle h) back in
    let none = no-resolving g t f x.resolving idle ok.resolving in
    record { put = false; waiting = no-waits g t f m (own_at y t) y.deferred idle mate.deferred; now = rw (tells, statuses, none) rest }

-- how far a member might be
abbrev calm : Bool → At
calm true = Committed
calm false = Unprepared

calm-agreed : (d : Bool) → Agreed d (calm d)
calm-agreed true = tt
calm-agreed false = tt

pub rests-lost : (w : Net) (g : Ground) (d : Bool) (t : Txn) (f m : ℕ) (x : BrickState) → NoTeam g t f → BrickIs g f x →
    AllByRecursion (LetterOk g m f) (w.channel m f) → Lost w d t f m x
rests-lost w g d t f m x idle ok back =
    let statuses = nothing status_in t (w.channel m f) (LetterOk g m f) (λ l h. no-status g t f m l idle h) back in
    let none = no-resolving g t f x.resolving idle ok.resolving in
    record { out = []; put = false; ready = true; at = calm d; cut = []; agreed = calm-agreed d; now = rw (statuses, none) rest }

pub rests-left : (w : Net) (g : Ground) (d : Bool) (t : Txn) (list : List ℕ) (f m : ℕ) (y : BrickState) → NoTeam g t f →
    AllByRecursion (LetterOk g f m) (w.channel f m) → LeftOver w d t list f m y
rests-left w g d t list f m y idle out =
    let tells = nothing tell_in t (w.channel f m) (LetterOk g f m) (λ l h. no-tell g t f m l idle h) out in
    record { told = subst (AllByRecursion (ToldOk d (is_ready y.known t list f))) (sym tells) tt }

-- whether a brick can be an attempt's resolver is decided
all-or : (p : ℕ → Bool) (xs : List ℕ) → AllByRecursion (λ n. p n ≡ true) xs ⊎ (AllByRecursion (λ n. p n ≡ true) xs → ⊥)
all-or p [] = inl tt
all-or p (x ∷ xs) = pick (p x) refl (all-or p xs)
  where
    pick : (c : Bool) → p x ≡ c → AllByRecursion (λ n. p n ≡ true) xs ⊎ (AllByRecursion (λ n. p n ≡ true) xs → ⊥) →
        AllByRecursion (λ n. p n ≡ true) (x ∷ xs) ⊎ (AllByRecursion (λ n. p n ≡ true) (x ∷ xs) → ⊥)
    pick true e (inl h) = inl (e, h)
    pick true e (inr h) = inr (λ k. h k.1)
    pick false e h = inr (λ k. not-both (p x) k.0 e)

pub team-or : (g : Ground) (t : Txn) (f : ℕ) → Team g t (g.list t) f f ⊎ NoTeam g t f
team-or g t f = pick (has (g.list t) f) (g.stopped t.library) (g.frozen t) refl refl refl (all-or g.stopped (rows.before (g.list t) f))
    (all-or g.inside (g.list t))
  where
    its : (xs : List ℕ) (m : ℕ) → Team g t xs f m → Team g t (g.list t) f m
    its xs m h = subst (λ v. Team g t v f m) (sym h.members.listed) h

    pick : (a b c : Bool) → has (g.list t) f ≡ a → g.stopped t.library ≡ b → g.frozen t ≡ c →
        AllByRecursion (λ n. g.stopped n ≡ true) (rows.before (g.list t) f) ⊎ (AllByRecursion (λ n. g.stopped n ≡ true) (rows.before (g.list t) f) → ⊥)
        → AllByRecursion (λ n. g.inside n ≡ true) (g.list t) ⊎ (AllByRecursion (λ n. g.inside n ≡ true) (g.list t) → ⊥) → Team g t (g.list t) f f ⊎ NoTeam g t f
    pick true true true i j k (inl p) (inl q) =
        inl (record { members = record { listed = refl; inside = q; member = i }; resolver = i; library = j; frozen = k; first = p })
    pick true true true i j k (inr p) q = inr (λ xs m h. p (its xs m h).first)
    pick true true true i j k (inl p) (inr q) = inr (λ xs m h. q (its xs m h).members.inside)
    pick false b c i j k p q = inr (λ xs m h. not-both (has (g.list t) f) (its xs m h).resolver i)
    pick true false c i j k p q = inr (λ xs m h. not-both (g.stopped t.library) h.library j)
    pick true true false i j k p q = inr (λ xs m h. not-both (g.frozen t) h.frozen k)
