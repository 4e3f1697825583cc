use Rattle.std.proofs.Common.{◌≡◌, ℕ, ◌==◌, ◌||◌, ◌⊎◌, inl, inr, Bool, true, false, not, List, [], ◌∷◌, ◌++◌}
use Rattle.std.proofs.Common.{refl, sym, ap, ◌∙◌, subst}
use Rattle.std.specs.List.{AllByRecursion, list_any}
use Rattle.std.specs.Prelude.{if◌then◌else◌}
use Rattle.dds_base.specs.BrickList.{has}
use Rattle.dds_base.specs.NodeSet.{has_node}
use Rattle.dds_base.specs.Number.{Txn, same_txn}
use Rattle.dds_base.specs.declared.number.NodeNo.{NodeNo}
use Rattle.dds_brick_rows.specs.Resolution as rows
use Rattle.dds_brick_rows.specs.declared.resolution.News.{News}
use Rattle.dds_brick_rows.specs.declared.resolution.News.TheVariants as news
use Rattle.dds_core.specs.Notice as notices
use Rattle.dds_groups.proofs.Members.{has-live}
use Rattle.dds_letters.specs.declared.letter.Letter.TheVariants as letter
use Rattle.dds_states.specs.Turn.{BrickTurn, and_then, is_none_left, sends, still, to_each, unknown, unknown_others}
use Rattle.dds_states.specs.declared.brick_state.BrickState.{BrickState}
use Rattle.dds_states.specs.declared.brick_state.Deferred.{Deferred}
use Rattle.dds_states.specs.declared.brick_state.Question.{Question}
use Rattle.dds_states.specs.declared.brick_state.Question.TheVariants.{Help, Query}
use Rattle.dds_states.specs.declared.brick_state.Resolving.{Resolving}
use Rattle.dds_talk.proofs.Letters.{has-without}
use Rattle.dds_talk.proofs.Parts.{is-same}
use Rattle.dds_resolve.proofs.MemberNotices.{news-txn}
use Rattle.dds_resolve.proofs.MemberSteps.{outcome-deferred}
use Rattle.dds_resolve.proofs.ResolverTurns.{outcome-ends, same-nodes}
use Rattle.dds_resolve.proofs.TeamTurns.{Good, help-good, query-good, resolving-good, team-to}
use Rattle.dds_resolve.specs.Team.{AskedOk, BrickOk, DeferredOk, Ground, ResolvingOk, Team}
use Rattle.dds_help.proofs.Lists.{any-last, any-left, any-right, both-true, each-sent, or-either, or-left, or-right, sent_to}
use Rattle.dds_help.specs.Helped.{is_help, puts_off_help, tells_outcome}

-- A turn of the member that can be asked for help: what it owes another live member of an attempt it goes on owing, or tells that member
-- the outcome.

-- it resolves the attempt, or put off a call for help with it; or that is among the resolvings, or the questions, yet to be treated
pub data Owes (t : Txn) (rs : List Resolving) (ds : List Deferred) (u : BrickState) : Type 0 where
  resolves : rows.is_resolved u t ≡ true → Owes t rs ds u
  puts_off : puts_off_help t u.deferred ≡ true → Owes t rs ds u
  treats : list_any (rows.is_of t) rs ≡ true → Owes t rs ds u
  asks : puts_off_help t ds ≡ true → Owes t rs ds u

pub data Owed (t : Txn) (m : ℕ) (rs : List Resolving) (ds : List Deferred) (r : BrickTurn) : Type 0 where
  owes : Owes t rs ds r.state → Owed t m rs ds r
  told : sent_to m (tells_outcome t) r.out.letters ≡ true → Owed t m rs ds r

-- the other member, live
pub record Mate (g : Ground) (at : ℕ) (t : Txn) (m : ℕ) : Type 0 where
  pub lives : g.stopped m ≡ false
  pub listed : has (g.list t) m ≡ true
  pub apart : (m == at) ≡ false

pub owed-if : {t : Txn} {m : ℕ} {rs : List Resolving} {ds : List Deferred} (c : Bool) (r q : BrickTurn) → (c ≡ true → Owed t m rs ds r) →
    (c ≡ false → Owed t m rs ds q) → Owed t m rs ds (if c then r else q)
owed-if true r q f g = f refl
owed-if false r q f g = g refl

pub owed-then : {t : Txn} {m : ℕ} {rs qs : List Resolving} {ds es : List Deferred} (r : BrickTurn) (row : BrickState → BrickTurn) → Owed t m rs ds r →
    (Owes t rs ds r.state → Owed t m qs es (row r.state)) → Owed t m qs es (and_then r row)
owed-then {t = t} {m = m} {qs = qs} {es = es} r row (owes h) f = later (f h)
  where
    later : Owed t m qs es (row r.state) → Owed t m qs es (and_then r row)
    later (owes k) = owes k
    later (told e) = told (any-right _ r.out.letters (row r.state).out.letters e)
owed-then r row (told e) f = told (any-left _ r.out.letters (row r.state).out.letters e)

-- the state has the same of resolving
pub same-owes : {t : Txn} {rs : List Resolving} {ds : List Deferred} (s u : BrickState) → u.deferred ≡ s.deferred → u.resolving ≡ s.resolving → Owes t rs ds s →
    Owes t rs ds u
same-owes {t = t} s u e f (resolves h) = resolves (ap (list_any (rows.is_of t)) f ∙ h)
same-owes {t = t} s u e f (puts_off h) = puts_off (ap (puts_off_help t) e ∙ h)
same-owes s u e f (treats h) = treats h
same-owes s u e f (asks h) = asks h

-- a member that can be told
told-others : {g : Ground} {at : ℕ} {t : Txn} {m : ℕ} (u : BrickState) (r : Resolving) → BrickOk g at u → ResolvingOk g at r → Mate g at t m →
    rows.is_of t r ≡ true → has (unknown_others r.list u.number u.known) m ≡ true
told-others {g = g} {at = at} {t = t} {m = m} u r b h mate e =
    let list : has r.list m ≡ true = ap (λ ns. has ns m) (sym h.members.listed ∙ ap g.list (is-same r.txn t e)) ∙ mate.listed in
    let unknown-one : has_node u.known m ≡ false = dark (has_node u.known m) refl in
    let apart : (m == u.number) ≡ false = ap (λ n. m == n) b.number ∙ mate.apart in
    has-without (unknown r.list u.known) u.number m
    ∙ both-true (has (unknown r.list u.known) m) (not (m == u.number))
    (has-live r.list (has_node u.known) m ∙ both-true (has r.list m) (not (has_node u.known m)) list (ap not unknown-one)) (ap not apart)
  where
    dark : (c : Bool) → has_node u.known m ≡ c → has_node u.known m ≡ false
    dark true k = let bad : false ≡ true = sym mate.lives ∙ b.known m k in cc
    dark false k = k

-- changes of what is owed
module _ {t : Txn} where
  kept-owes : {rs : List Resolving} {ds : List Deferred} (u : BrickState) (r q : Resolving) → rows.is_of t q ≡ rows.is_of t r → Owes t (q ∷ rs) ds u →
      Owes t rs ds (record u { resolving = u.resolving ++ r ∷ [] })
  kept-owes u r q e (resolves j) = resolves (any-left (rows.is_of t) u.resolving (r ∷ []) j)
  kept-owes u r q e (puts_off j) = puts_off j
  kept-owes {rs = rs} {ds = ds} u r q e (treats j) = pick (or-either (rows.is_of t q) (list_any (rows.is_of t) rs) j)
    where
      pick : (rows.is_of t q ≡ true) ⊎ (list_any (rows.is_of t) rs ≡ true) → Owes t rs ds (record u { resolving = u.resolving ++ r ∷ [] })
      pick (inl a) = resolves (any-last (rows.is_of t) u.resolving r (sym e ∙ a))
      pick (inr a) = treats a
  kept-owes u r q e (asks j) = asks j

  one-more : {rs : List Resolving} {ds : List Deferred} (u : BrickState) (r : Resolving) → Owes t rs ds u → Owes t (r ∷ rs) ds u
  one-more u r (resolves j) = resolves j
  one-more u r (puts_off j) = puts_off j
  one-more u r (treats j) = treats (or-right (rows.is_of t r) _ j)
  one-more u r (asks j) = asks j

  defers-owes : {rs : List Resolving} {ds : List Deferred} (u : BrickState) (d : Deferred) → Owes t rs ds u →
      Owes t rs ds (record u { deferred = u.deferred ++ d ∷ [] })
  defers-owes u d (resolves j) = resolves j
  defers-owes u d (puts_off j) = puts_off (any-left _ u.deferred (d ∷ []) j)
  defers-owes u d (treats j) = treats j
  defers-owes u d (asks j) = asks j

  emptied-owes : {ds : List Deferred} (u : BrickState) → Owes t [] ds u → Owes t u.resolving ds (record u { resolving = [] })
  emptied-owes u (resolves j) = treats j
  emptied-owes u (puts_off j) = puts_off j
  emptied-owes u (treats j) = cc
  emptied-owes u (asks j) = asks j

  rest-asks : {rs : List Resolving} {ds : List Deferred} (u : BrickState) (d : Deferred) → is_help t d d.question ≡ false → Owes t rs (d ∷ ds) u →
      Owes t rs ds u
  rest-asks u d e (resolves j) = resolves j
  rest-asks u d e (puts_off j) = puts_off j
  rest-asks u d e (treats j) = treats j
  rest-asks {ds = ds} u d e (asks j) = asks (rest (is_help t d d.question) e j)
    where
      rest : (c : Bool) → c ≡ false → (c || puts_off_help t ds) ≡ true → puts_off_help t ds ≡ true
      rest true i j = cc
      rest false i j = j

pub query-owed : {t : Txn} {m : ℕ} {rs : List Resolving} {ds : List Deferred} (u : BrickState) (from : NodeNo) (x : Txn) (list : List ℕ) → Owes t rs ds u →
    Owed t m rs ds (rows.query_row u from x list)
query-owed u from x list k =
    owed-if (rows.is_ready u.known x list from) (sends u _) (rows.defers u from Query x list) (λ i. owes k) (λ i. owes (defers-owes u _ k))

news-ok : {g : Ground} {at : ℕ} (r : Resolving) (from : NodeNo) (n : News) → ResolvingOk g at r → ResolvingOk g at (rows.with_news r from n)
news-ok r from news.Stopped h = h
news-ok r from (news.Told x st) h = h

asked-good : {g : Ground} {at : ℕ} (u : BrickState) (d : Deferred) (q : Question) → d.question ≡ q → BrickOk g at u → DeferredOk g at d →
    Good g at (notices.asked_again u d q)
asked-good {g = g} {at = at} u d Help e b h = help-good u d.from d.txn d.list b (subst (AskedOk g at d) e h)
asked-good {g = g} {at = at} u d Query e b h = query-good u d.from d.txn d.list b (subst (AskedOk g at d) e h)

-- one is treated: it decides, or is kept
module _ {g : Ground} {at : ℕ} {t : Txn} {m : ℕ} where
  decides-owed : {rs : List Resolving} {ds : List Deferred} (u : BrickState) (r q : Resolving) → BrickOk g at u → ResolvingOk g at r → Mate g at t m →
      rows.is_of t q ≡ rows.is_of t r → Owes t (q ∷ rs) ds u → Owed t m rs ds (rows.decides u r)
  decides-owed {rs = rs} {ds = ds} u r q b h mate e k = pick (rows.is_of t r) refl k
    where
      rest : (c : Bool) → c ≡ false → (c || list_any (rows.is_of t) rs) ≡ true → list_any (rows.is_of t) rs ≡ true
      rest true i j = cc
      rest false i j = j

      pick : (c : Bool) → rows.is_of t r ≡ c → Owes t (q ∷ rs) ds u → Owed t m rs ds (rows.decides u r)
      pick true i k =
          told (any-right _ (rows.outcome_row u r.txn (rows.verdict r)).out.letters _
          (each-sent m (tells_outcome t) _ (letter.Outcome r.txn (rows.verdict r))
          (ap (λ ns. has ns m) (same-nodes r.list r.list _ _ _ _ refl (outcome-ends u r.txn (rows.verdict r)).number
          (outcome-ends u r.txn (rows.verdict r)).known) ∙ told-others u r b h mate i) i))
      pick false i (resolves j) =
          owes (same-owes u (rows.decides u r).state (outcome-deferred u r.txn (rows.verdict r)) (outcome-ends u r.txn (rows.verdict r)).resolving
          (resolves j))
      pick false i (puts_off j) =
          owes (same-owes u (rows.decides u r).state (outcome-deferred u r.txn (rows.verdict r)) (outcome-ends u r.txn (rows.verdict r)).resolving
          (puts_off j))
      pick false i (treats j) = owes (treats (rest (rows.is_of t q) (e ∙ i) j))
      pick false i (asks j) = owes (asks j)

  resolves-owed : {rs : List Resolving} {ds : List Deferred} (u : BrickState) (r q : Resolving) → BrickOk g at u → ResolvingOk g at r → Mate g at t m →
      rows.is_of t q ≡ rows.is_of t r → Owes t (q ∷ rs) ds u → Owed t m rs ds (rows.resolves_on u r)
  resolves-owed u r q b h mate e k =
      owed-if (is_none_left r.waiting) (rows.decides u r) (still (record u { resolving = u.resolving ++ r ∷ [] }))
      (λ i. decides-owed u r q b h mate e k) (λ i. owes (kept-owes u r q e k))

  -- any attempt, and this one
  pub resolve-owed : {rs : List Resolving} {ds : List Deferred} (u : BrickState) (x : Txn) (list : List ℕ) → BrickOk g at u → Team g x list at at →
      Mate g at t m → Owes t rs ds u → Owed t m rs ds (rows.resolve u x list)
  resolve-owed u x list b h mate k =
      let r = rows.started u x list in
      owed-then (sends u (to_each (unknown_others list u.number u.known) (letter.Query x list))) (λ v. rows.resolves_on v r) (owes k)
      (λ i. resolves-owed u r r b h mate refl (one-more u r i))

  resolve-this : {rs : List Resolving} {ds : List Deferred} (u : BrickState) (x : Txn) (list : List ℕ) → BrickOk g at u → Team g x list at at →
      Mate g at t m → same_txn x t ≡ true → Owed t m rs ds (rows.resolve u x list)
  resolve-this {rs = rs} {ds = ds} u x list b h mate e =
      let r = rows.started u x list in
      let now : Owes t (r ∷ rs) ds u = treats (or-left (rows.is_of t r) _ e) in
      owed-then (sends u (to_each (unknown_others list u.number u.known) (letter.Query x list))) (λ v. rows.resolves_on v r)
      (owes now) (λ i. resolves-owed u r r b h mate refl i)

  -- Help, Query
  pub help-owed : {rs : List Resolving} {ds : List Deferred} (u : BrickState) (from : NodeNo) (x : Txn) (list : List ℕ) → BrickOk g at u →
      Team g x list at from → Mate g at t m → Owes t rs ds u → Owed t m rs ds (rows.help_row u from x list)
  help-owed u from x list b h mate k =
      owed-if (rows.is_ready u.known x list u.number) _ (rows.defers u from Help x list)
      (λ e. owed-if (rows.is_resolved u x) (still u) (rows.resolve u x list) (λ i. owes k)
      (λ i. resolve-owed u x list b (team-to at h h.resolver) mate k))
      (λ e. owes (defers-owes u _ k))

  pub help-this : {rs : List Resolving} {ds : List Deferred} (u : BrickState) (from : NodeNo) (x : Txn) (list : List ℕ) → BrickOk g at u →
      Team g x list at from → Mate g at t m → same_txn x t ≡ true → Owed t m rs ds (rows.help_row u from x list)
  help-this u from x list b h mate e =
      owed-if (rows.is_ready u.known x list u.number) _ (rows.defers u from Help x list)
      (λ i. owed-if (rows.is_resolved u x) (still u) (rows.resolve u x list)
      (λ j. owes (resolves (ap (rows.is_resolved u) (sym (is-same x t e)) ∙ j)))
      (λ j. resolve-this u x list b (team-to at h h.resolver) mate e))
      (λ i. owes (puts_off (any-last _ u.deferred (record { from = from; question = Help; txn = x; list = list }) e)))

  -- what a member tells
  resolvings-owed : {ds : List Deferred} (u : BrickState) (from : NodeNo) (n : News) (rs : List Resolving) → BrickOk g at u →
      AllByRecursion (ResolvingOk g at) rs → Mate g at t m → Owes t rs ds u → Owed t m [] ds (rows.resolvings_go u from n rs)
  resolvings-owed u from n [] b h mate k = owes k
  resolvings-owed u from n (r ∷ rs) b h mate k =
      owed-then (rows.resolving_goes u from n r) (λ v. rows.resolvings_go v from n rs)
      (owed-if (rows.is_awaited r from n) (rows.resolves_on u (rows.with_news r from n)) (still (record u { resolving = u.resolving ++ r ∷ [] }))
      (λ i. resolves-owed u (rows.with_news r from n) r b (news-ok r from n h.0) mate (sym (ap (λ x. same_txn x t) (news-txn r from n))) k)
      (λ i. owes (kept-owes u r r refl k)))
      (λ i. resolvings-owed (rows.resolving_goes u from n r).state from n rs (resolving-good u from n r b h.0).state h.1 mate i)

  pub hear-owed : {ds : List Deferred} (u : BrickState) (from : NodeNo) (n : News) → BrickOk g at u → Mate g at t m → Owes t [] ds u →
      Owed t m [] ds (rows.all_hear u from n)
  hear-owed u from n b mate k =
      resolvings-owed (record u { resolving = [] }) from n u.resolving
      (record { number = b.number; known = b.known; pending = b.pending; deferred = b.deferred; resolving = tt }) b.resolving mate (emptied-owes u k)

  -- the questions put off
  asked-owed : {rs : List Resolving} {ds : List Deferred} (u : BrickState) (d : Deferred) (q : Question) (c : Bool) → d.question ≡ q →
      is_help t d q ≡ c → BrickOk g at u → DeferredOk g at d → Mate g at t m → Owes t rs (d ∷ ds) u → Owed t m rs ds (notices.asked_again u d q)
  asked-owed u d Help true e i b h mate k = help-this u d.from d.txn d.list b (subst (AskedOk g at d) e h) mate i
  asked-owed u d Help false e i b h mate k =
      help-owed u d.from d.txn d.list b (subst (AskedOk g at d) e h) mate (rest-asks u d (ap (is_help t d) e ∙ i) k)
  asked-owed u d Query true e i b h mate k = cc
  asked-owed u d Query false e i b h mate k = query-owed u d.from d.txn d.list (rest-asks u d (ap (is_help t d) e ∙ i) k)

  pub all-asked-owed : (u : BrickState) (ds : List Deferred) → BrickOk g at u → AllByRecursion (DeferredOk g at) ds → Mate g at t m → Owes t [] ds u →
      Owed t m [] [] (notices.asked_all_again u ds)
  all-asked-owed u [] b h mate k = owes k
  all-asked-owed u (d ∷ ds) b h mate k =
      owed-then (notices.asked_again u d d.question) (λ v. notices.asked_all_again v ds)
      (asked-owed u d d.question (is_help t d d.question) refl refl b h.0 mate k)
      (λ i. all-asked-owed (notices.asked_again u d d.question).state ds (asked-good u d d.question refl b h.0).state h.1 mate i)
