use Rattle.std.proofs.Common.{◌≡◌, ℕ, ◌==◌, ◌&&◌, Bool, true, false, not, Some, None, List, []}
use Rattle.std.proofs.Common.{◌∷◌, ◌++◌, find, refl, sym, ap, ◌∙◌, subst, append_assoc}
use Rattle.std.proofs.lemmas.Bool.{and_parts}
use Rattle.std.proofs.lemmas.List.{append-nil}
use Rattle.std.specs.Prelude.{if◌then◌else◌}
use Rattle.dds_base.specs.BrickList.{has}
use Rattle.dds_base.specs.Number.{Txn, same_txn}
use Rattle.dds_base.specs.declared.number.NodeNo.{NodeNo}
use Rattle.dds_brick_rows.specs.Resolution as rows
use Rattle.dds_brick_rows.specs.declared.resolution.News.{News}
use Rattle.dds_brick_rows.specs.declared.resolution.News.TheVariants as news
use Rattle.dds_letters.specs.declared.letter.Letter.{Letter}
use Rattle.dds_states.specs.declared.brick_state.BrickState.{BrickState}
use Rattle.dds_states.specs.declared.brick_state.Resolving.{Resolving}
use Rattle.dds_talk.specs.Resolve.{Resolves, Side, Tell}
use Rattle.dds_talk.specs.Resolve.Side.{Wait, Heard}
use Rattle.dds_talk.specs.Seen.{Once, about}
use Rattle.dds_resolve.specs.Letters.{letters_to}
use Rattle.dds_talk.proofs.Letters.{has-without}
use Rattle.dds_talk.proofs.Parts.{is-same, same-self, same-swap}
use Rattle.dds_base.specs.declared.pending.TxnStatus.{TxnStatus}
use Rattle.dds_talk.specs.Resolve.{Agreed}
use Rattle.dds_talk.specs.Resolve.Side.{Rest}
use Rattle.dds_resolve.specs.Resolving.{side_of, status_at, tell_in}
use Rattle.dds_resolve.specs.Conversations.{Round, RoundOk, Talking}
use Rattle.dds_resolve.proofs.MemberAnswers.{self-number}
use Rattle.dds_resolve.proofs.MemberNotices.{news-txn}
use Rattle.dds_talk.specs.Table.{At}
use Rattle.dds_resolve.proofs.ResolverStages.{Stage, kept-stage, resolves-stage}
use Rattle.dds_resolve.proofs.ResolverTurns.{talking-aside}
use Rattle.dds_resolve.proofs.ResolverStages.{stage-if, status-heard, talking-same}
use Rattle.dds_resolve.proofs.Leaving.{Leaves, stage-leaves, leaves-if, kept-leaves, resolves-leaves}

-- What a member tells a resolver, at all that it resolves.

-- an attempt is resolved once
abbrev pub OnceIn : Txn → List Resolving → Type 0
OnceIn t [] = Unit {0}
OnceIn t (r ∷ rs) = (rows.is_of t r ≡ true → find (rows.is_of t) rs ≡ None) × OnceIn t rs

-- The resolvings hear what a member tells, one after another: this attempt's is still ahead, and nothing was decided so far; or it
-- was treated, or there is none. `back` is what is on its way back before it is heard.
abbrev pub hearing : Round → (ℕ → List At) → Round
hearing z back = record z { back = back }

pub data Left (back : ℕ → List At) (z : Round) (rs : List Resolving) (s : BrickState) (sent : List (NodeNo × Letter)) : Type 0 where
  ahead : find (rows.is_of z.txn) s.resolving ≡ None → OnceIn z.txn rs → Talking (hearing z back) z.before (find (rows.is_of z.txn) rs) s sent →
      Once s.locks.pending → Left back z rs s sent
  behind : find (rows.is_of z.txn) rs ≡ None → Stage z s sent → Left back z rs s sent

-- what the news do to the attempt's conversations, where the brick resolves it and where it doesn't
pub record Told (back : ℕ → List At) (z : Round) (from : ℕ) (n : News) : Type 0 where
  pub awaited : (r : Resolving) (s : BrickState) (sent : List (NodeNo × Letter)) → r.txn ≡ z.txn → rows.is_awaited r from n ≡ true →
      Talking (hearing z back) z.before (Some r) s sent → Talking z z.before (Some (rows.with_news r from n)) s sent
  pub kept : (r : Resolving) (s : BrickState) (sent : List (NodeNo × Letter)) → r.txn ≡ z.txn → rows.is_awaited r from n ≡ false →
      Talking (hearing z back) z.before (Some r) s sent → Talking z z.before (Some r) s sent
  pub none : (s : BrickState) (sent : List (NodeNo × Letter)) → Talking (hearing z back) z.before None s sent → Talking z z.before None s sent

mine-goes : (back : ℕ → List At) (z : Round) (from : ℕ) (n : News) (r : Resolving) (s : BrickState) (sent : List (NodeNo × Letter)) → RoundOk z →
    Told back z from n → r.txn ≡ z.txn → find (rows.is_of z.txn) s.resolving ≡ None → Once s.locks.pending →
    Talking (hearing z back) z.before (Some r) s sent → Stage z (rows.resolving_goes s from n r).state (sent ++ (rows.resolving_goes s from n r).out.letters)
mine-goes back z from n r s sent ok told mine none once h =
    stage-if z (rows.is_awaited r from n) _ _ sent
    (λ e. resolves-stage z (rows.with_news r from n) s sent ok once (news-txn r from n ∙ mine) none (told.awaited r s sent mine e h))
    (λ e. kept-stage z r s sent mine none once (told.kept r s sent mine e h))

other-goes : {t : Txn} (s : BrickState) (from : ℕ) (n : News) (r : Resolving) → same_txn r.txn t ≡ false → Leaves t s (rows.resolving_goes s from n r)
other-goes {t = t} s from n r ne = leaves-if (rows.is_awaited r from n) _ _
    (resolves-leaves s (rows.with_news r from n) (ap (λ x. same_txn x t) (news-txn r from n) ∙ ne)) (kept-leaves s r ne)

first-found : (t : Txn) (r : Resolving) (rs : List Resolving) (c : Bool) → rows.is_of t r ≡ c →
    find (rows.is_of t) (r ∷ rs) ≡ (if c then Some r else find (rows.is_of t) rs)
first-found t r rs c e = ap (λ k. if k then Some r else find (rows.is_of t) rs) e

one-goes : (back : ℕ → List At) (z : Round) (from : ℕ) (n : News) (r : Resolving) (rs : List Resolving) (s : BrickState) (sent : List (NodeNo × Letter))
    (c : Bool) → rows.is_of z.txn r ≡ c → RoundOk z → Told back z from n → Left back z (r ∷ rs) s sent →
    Left back z rs (rows.resolving_goes s from n r).state (sent ++ (rows.resolving_goes s from n r).out.letters)
one-goes back z from n r rs s sent true e ok told (ahead none alone h once) =
    behind (alone.0 e) (mine-goes back z from n r s sent ok told (is-same r.txn z.txn e) none once
    (talking-same (hearing z back) _ (Some r) s s sent (first-found z.txn r rs true e) refl refl refl h))
one-goes back z from n r rs s sent false e ok told (ahead none alone h once) =
    let l = other-goes s from n r e in
    ahead (l.aside.found ∙ none) alone.1 (talking-aside (hearing z back) _ s (rows.resolving_goes s from n r) sent l.aside
    (talking-same (hearing z back) _ (find (rows.is_of z.txn) rs) s s sent (first-found z.txn r rs false e) refl refl refl h)) (l.once once)
one-goes back z from n r rs s sent true e ok told (behind none h) = let q : Some r ≡ None = sym (first-found z.txn r rs true e) ∙ none in cc
one-goes back z from n r rs s sent false e ok told (behind none h) =
    behind (sym (first-found z.txn r rs false e) ∙ none) (stage-leaves z s (rows.resolving_goes s from n r) sent (other-goes s from n r e) h)

ended : (back : ℕ → List At) (z : Round) (from : ℕ) (n : News) (s : BrickState) (sent : List (NodeNo × Letter)) → Told back z from n → Left back z [] s sent →
    Stage z s sent
ended back z from n s sent told (ahead none alone h once) =
    record {
      decided = z.before;
      now = talking-same z None (find (rows.is_of z.txn) s.resolving) s s sent (sym none) refl refl refl (told.none s sent h);
      once = once;
    }
ended back z from n s sent told (behind none h) = h

pub all-go : (back : ℕ → List At) (z : Round) (from : ℕ) (n : News) (rs : List Resolving) (s : BrickState) (sent : List (NodeNo × Letter)) → RoundOk z →
    Told back z from n → Left back z rs s sent → Stage z (rows.resolvings_go s from n rs).state (sent ++ (rows.resolvings_go s from n rs).out.letters)
all-go back z from n [] s sent ok told h = subst (Stage z s) (sym (append-nil sent)) (ended back z from n s sent told h)
all-go back z from n (r ∷ rs) s sent ok told h =
    let u = rows.resolving_goes s from n r in
    subst (Stage z (rows.resolvings_go u.state from n rs).state) (append_assoc sent u.out.letters (rows.resolvings_go u.state from n rs).out.letters)
    (all-go back z from n rs u.state (sent ++ u.out.letters) ok told (one-goes back z from n r rs s sent (rows.is_of z.txn r) refl ok told h))

-- all resolvings of a brick
pub hear-stage : (back : ℕ → List At) (z : Round) (s : BrickState) (from : ℕ) (n : News) (sent : List (NodeNo × Letter)) → RoundOk z → Told back z from n →
    OnceIn z.txn s.resolving → Once s.locks.pending → Talking (hearing z back) z.before (find (rows.is_of z.txn) s.resolving) s sent →
    Stage z (rows.all_hear s from n).state (sent ++ (rows.all_hear s from n).out.letters)
hear-stage back z s from n sent ok told alone once h =
    let u = record s { resolving = [] } in
    all-go back z from n s.resolving u sent ok told (ahead refl alone (talking-same (hearing z back) _ _ s u sent refl refl refl refl h) once)

-- a node has stopped that isn't among those of the round
unwaited-same : (r : Resolving) (y m : ℕ) → (m == y) ≡ false → side_of (Some r) m ≡ side_of (Some (rows.unwaited r y)) m
unwaited-same r y m e = sym (ap (λ c. side_of_if c) (has-without r.waiting y m ∙ also (has r.waiting m) (m == y) e))
  where
    side_of_if : Bool → Side
    side_of_if c = if c then Wait else Heard r.saw_commit r.saw_no

    also : (a b : Bool) → b ≡ false → (a && not b) ≡ a
    also true b e = ap not e
    also false b e = refl

pub stopped-told : (z : Round) (y : ℕ) → ((m : ℕ) → z.live m ≡ true → (m == y) ≡ false) → Told z.back z y news.Stopped
stopped-told z y apart =
    record {
      awaited = λ r s sent mine e h. record {
        grows = h.grows;
        why = h.why;
        all_ready = h.all_ready;
        each = λ m i. subst (λ v. Resolves z.before v (z.to m ++ about tell_in z.txn (letters_to m sent)) (z.put_off m) (z.ready m) (z.at m) (z.back m))
            (unwaited-same r y m (apart m i)) (h.each m i);
        mates = h.mates;
        own = h.own;
        seen = record { list = h.seen.list; commit = h.seen.commit; no = h.seen.no; own = h.seen.own };
        number = h.number;
        known = h.known;
      };
      kept = λ r s sent mine e h. h;
      none = λ s sent h. h;
    }

-- a status of another attempt
is-mine : (t x : Txn) (r : Resolving) → same_txn x t ≡ false → r.txn ≡ t → rows.is_of x r ≡ false
is-mine t x r ne e = ap (λ k. same_txn k x) e ∙ same-swap t x ∙ ne

pub other-told : (z : Round) (from : ℕ) (x : Txn) (st : TxnStatus) → same_txn x z.txn ≡ false → Told z.back z from (news.Told x st)
other-told z from x st ne =
    record {
      awaited = λ r s sent mine e h. let q : true ≡ false = sym e ∙ ap (λ b. b && has r.waiting from) (is-mine z.txn x r ne mine) in cc;
      kept = λ r s sent mine e h. h;
      none = λ s sent h. h;
    }

-- a status of this attempt: from one of those of the round, whose conversation says that it is waited for; or from one that has
-- stopped and isn't among them
never-rest : {d q r : Bool} {o : List Tell} {a e : At} {b : List At} → Resolves d Rest o q r a (e ∷ b) → ⊥
never-rest h = elim h [ ]

never-heard : {d q r c n : Bool} {o : List Tell} {a e : At} {b : List At} → Resolves d (Heard c n) o q r a (e ∷ b) → ⊥
never-heard h = elim h [ ]

pub status-told : (z : Round) (from : ℕ) (st : TxnStatus) → z.live from ≡ true → Agreed z.before (status_at st) →
    Told (λ m. if m == from then status_at st ∷ z.back m else z.back m) z from (news.Told z.txn st)
status-told z from st lives agreed =
    let self : (from == from) ≡ true = self-number from in
    record {
      awaited = λ r s sent mine e h. status-heard z r s from st sent h (and_parts (rows.is_of z.txn r) (has r.waiting from) e).1 agreed;
      kept = λ r s sent mine e h. absurd (never-heard
          (subst (λ v. Resolves z.before v (z.to from ++ about tell_in z.txn (letters_to from sent)) (z.put_off from) (z.ready from) (z.at from)
          (status_at st ∷ z.back from))
          (heard-by r from (second (rows.is_of z.txn r) (has r.waiting from) (ap (λ k. same_txn k z.txn) mine ∙ same-self z.txn) e))
          (at-self (z.back from) self (h.each from lives))));
      none = λ s sent h. absurd (never-rest (at-self (z.back from) self (h.each from lives)));
    }
  where
    second : (a b : Bool) → a ≡ true → (a && b) ≡ false → b ≡ false
    second true b i e = e
    second false b i e = cc

    heard-by : (r : Resolving) (m : ℕ) → has r.waiting m ≡ false → side_of (Some r) m ≡ Heard r.saw_commit r.saw_no
    heard-by r m e = ap (λ c. if c then Wait else Heard r.saw_commit r.saw_no) e

    at-self : {d q r : Bool} {v : Side} {o : List Tell} {a : At} {x : List At} (y : List At) → (from == from) ≡ true →
        Resolves d v o q r a (if from == from then x else y) → Resolves d v o q r a x
    at-self {d = d} {q = q} {r = r} {v = v} {o = o} {a = a} {x = x} y e h = subst (λ c. Resolves d v o q r a (if c then x else y)) e h
