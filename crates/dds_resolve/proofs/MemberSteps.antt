use Rattle.std.proofs.Common.{◌≡◌, ℕ, ◌<◌, ◌==◌, ◌&&◌, ◌||◌, Bool, true, false, List, [], ◌∷◌, ◌++◌, Option, Some, None, refl, sym, ap}
use Rattle.std.proofs.Common.{◌∙◌, subst}
use Rattle.std.proofs.lemmas.Bool.{and_parts, eqb-true}
use Rattle.std.proofs.lemmas.List.{append-nil}
use Rattle.std.specs.List.{list_all}
use Rattle.std.specs.Prelude.{if◌then◌else◌}
use Rattle.dds_base.specs.NodeSet.{has_node}
use Rattle.dds_base.specs.Number.{Txn, same_txn}
use Rattle.dds_base.specs.declared.node_set.NodeSet.{NodeSet}
use Rattle.dds_base.specs.declared.pending.Pending.{Pending}
use Rattle.dds_brick_rows.specs.Calls as calls
use Rattle.dds_brick_rows.specs.Resolution as rows
use Rattle.dds_core.proofs.Known.{has-with}
use Rattle.dds_core.specs.Notice as notices
use Rattle.dds_letters.specs.declared.letter.Letter.{Letter}
use Rattle.dds_letters.specs.declared.letter.Letter.TheVariants as letter
use Rattle.dds_net.specs.Net.{Net}
use Rattle.dds_states.specs.Turn.{BrickTurn}
use Rattle.dds_states.specs.declared.brick_state.BrickState.{BrickState}
use Rattle.dds_states.specs.declared.brick_state.Deferred.{Deferred}
use Rattle.dds_talk.proofs.Parts.{same-self}
use Rattle.dds_talk.specs.Resolve.{Resolves, Side, Tell}
use Rattle.dds_talk.specs.Resolve.Tell.{query, outcome}
use Rattle.dds_talk.specs.Seen.{about, of, one, Once}
use Rattle.dds_talk.specs.Table.{At}
use Rattle.dds_resolve.proofs.MemberMoves.{notice-moves, outcome-moves, query-moves}
use Rattle.dds_resolve.proofs.MemberTurns.{Calm, Others, Treats, own-same}
use Rattle.dds_resolve.proofs.MemberAnswers.{put_if, query-treats, self-number, sent_if}
use Rattle.dds_resolve.proofs.MemberNotices.{Heeds, notice-heeds}
use Rattle.dds_resolve.proofs.ResolverTurns.{outcome-ends}
use Rattle.dds_resolve.proofs.Turned.{Turned}
use Rattle.dds_resolve.proofs.Unready.{unready-any}
use Rattle.dds_resolve.specs.Letters.{letters_to}
use Rattle.dds_resolve.specs.Resolved.{Member}
use Rattle.dds_resolve.specs.Resolving.{is_asking, own_at, status_in, tell_in, waits}
use Rattle.dds_resolve.specs.Team.{Ground, Team, BrickOk}

-- What a member's turn does to a conversation with a resolver, in the world.

-- ready stays ready
more-ready : (p q : ℕ → Bool) (ns : List ℕ) → ((n : ℕ) → p n ≡ true → q n ≡ true) → list_all p ns ≡ true → list_all q ns ≡ true
more-ready p q [] f h = refl
more-ready p q (n ∷ ns) f h =
    let k = and_parts (p n) (list_all p ns) h in
    both (q n) (list_all q ns) (f n k.0) (more-ready p q ns f k.1)
  where
    both : (a b : Bool) → a ≡ true → b ≡ true → (a && b) ≡ true
    both true b i j = j
    both false b i j = cc

pub grown-ready : (a b : NodeSet) (t : Txn) (list : List ℕ) (f : ℕ) → ((n : ℕ) → has_node a n ≡ true → has_node b n ≡ true) →
    rows.is_ready a t list f ≡ true → rows.is_ready b t list f ≡ true
grown-ready a b t list f more e =
    let k = and_parts (has_node a t.library) (list_all (λ n. has_node a n) (rows.before list f)) e in
    both (has_node b t.library) _ (more t.library k.0) (more-ready (λ n. has_node a n) (λ n. has_node b n) (rows.before list f) more k.1)
  where
    both : (a b : Bool) → a ≡ true → b ≡ true → (a && b) ≡ true
    both true b i j = j
    both false b i j = cc

pub learns-more : (s : BrickState) (y : ℕ) → y < 80 → (n : ℕ) → has_node s.known n ≡ true → has_node (notices.learns s y).known n ≡ true
learns-more s y low n e = has-with s.known y n low ∙ either (n == y) (has_node s.known n) e
  where
    either : (a b : Bool) → b ≡ true → (a || b) ≡ true
    either true b i = refl
    either false b i = i

-- a conversation with other words for the same
refit : {w : Net} {d : Bool} {t : Txn} {list : List ℕ} {f m : ℕ} {y : BrickState} {v : Side} {cut : List Tell} {R q : Bool} {a : At} {o : List Tell}
    {b c : List At}
    → about tell_in t (w.channel f m) ≡ o → rows.is_ready y.known t list f ≡ R → own_at y t ≡ a → c ≡ b → waits (own_at y t) f t y.deferred ≡ one q (own_at y t)
    → Resolves d v (o ++ cut) q R a b → Member w d t list f m y v cut c
refit {w = w} {d = d} {t = t} {list = list} {f = f} {m = m} {y = y} {v = v} {cut = cut} {R = R} {q = q} {a = a} {o = o} {b = b} {c = c} e i j k wait h =
    record {
      put = q;
      waiting = wait;
      now = subst (λ o. Resolves d v (o ++ cut) q (rows.is_ready y.known t list f) (own_at y t) c) (sym e)
          (subst (λ R. Resolves d v (o ++ cut) q R (own_at y t) c) (sym i)
          (subst (λ a. Resolves d v (o ++ cut) q R a c) (sym j) (subst (Resolves d v (o ++ cut) q R a) (sym k) h)));
    }

-- what is on its way to a member that takes a letter
others-taken : {w v : Net} {n from : ℕ} {s : BrickState} {l : Letter} {rest : List Letter} {r : BrickTurn} (t : Txn) (f : ℕ) → Turned w v n from s l rest r →
    (f == n) ≡ false
    → ((f == from) ≡ true → of t (tell_in l) ≡ []) → about tell_in t (v.channel f n) ≡ about tell_in t (w.channel f n)
others-taken {w = w} {v = v} {n = n} {from = from} {l = l} {rest = rest} t f step fn quiet = pick (f == from) refl
  where
    pick : (c : Bool) → (f == from) ≡ c → about tell_in t (v.channel f n) ≡ about tell_in t (w.channel f n)
    pick true e = ap (about tell_in t) (step.to f fn ∙ ap (λ b. if b then rest else w.channel f n) e)
        ∙ sym (ap (λ i. about tell_in t (w.channel i n)) (eqb-true f from e) ∙ ap (about tell_in t) step.first
        ∙ ap (λ xs. xs ++ about tell_in t rest) (quiet e))
    pick false e = ap (about tell_in t) (step.to f fn ∙ ap (λ b. if b then rest else w.channel f n) e)

mine-taken : {w v : Net} {n f : ℕ} {s : BrickState} {l : Letter} {rest : List Letter} {r : BrickTurn} → Turned w v n f s l rest r → (f == n) ≡ false →
    v.channel f n ≡ rest
mine-taken {w = w} {n = n} {f = f} {rest = rest} step fn = step.to f fn ∙ ap (λ b. if b then rest else w.channel f n) (self-number f)

-- Notice, from another node than the resolver
pub member-notice : {w v : Net} {d : Bool} {t : Txn} {list : List ℕ} {n y f : ℕ} {s : BrickState} {rest : List Letter} {side : Side} {cut : List Tell}
    {back : List At} (g : Ground)
    → Turned w v n y s letter.Notice rest (notices.notice_row s y) → y < 80 → g.stopped y ≡ true → BrickOk g n s → Others g n t → g.list t ≡ list →
    (f == n) ≡ false
    → (notices.notice_row s y).state.known ≡ (notices.learns s y).known → Member w d t list f n s side cut back
    → Member v d t list f n (notices.notice_row s y).state side cut (back ++ about status_in t (letters_to f (notices.notice_row s y).out.letters))
member-notice {w = w} {t = t} {list = list} {n = n} {y = y} {f = f} {s = s} g step low stop ok others listed fn known c =
    let r = notices.notice_row s y in
    let R = rows.is_ready (notices.learns s y).known t list f in
    let heeds : Heeds f t R s r = notice-heeds {g = g} {me = n} R s y list low stop ok others listed refl in
    let own : own_at r.state t ≡ own_at s t = own-same s r.state t heeds.pending heeds.outcomes in
    let a = notice-moves c.put (rows.is_ready s.known t list f) R f t s r
    (λ e. grown-ready s.known (notices.learns s y).known t list f (learns-more s y low) e) c.waiting heeds c.now in
    refit (others-taken t f step fn (λ e. refl)) (ap (λ k. rows.is_ready k t list f) known) own refl
    (subst (λ k. waits k f t r.state.deferred ≡ one a.waiting k) (sym own) a.put_off) a.now

-- Query of this resolver and attempt
pub member-query : {w v : Net} {d : Bool} {t : Txn} {list : List ℕ} {n f : ℕ} {s : BrickState} {rest : List Letter} {side : Side} {cut : List Tell}
    {back : List At} (g : Ground)
    → Turned w v n f s (letter.Query t list) rest (rows.query_row s f t list) → Team g t list f n → (f == n) ≡ false → Member w d t list f n s side cut back
    → Member v d t list f n (rows.query_row s f t list).state side cut (back ++ about status_in t (letters_to f (rows.query_row s f t list).out.letters))
member-query {w = w} {d = d} {t = t} {list = list} {n = n} {f = f} {s = s} {rest = rest} {side = side} {cut = cut} {back = back} g step team fn c =
    let r = rows.query_row s f t list in
    let R = rows.is_ready s.known t list f in
    let asks : (f == f && same_txn t t) ≡ true = ap (λ b. b && same_txn t t) (self-number f) ∙ same-self t in
    let treats : Treats f t s r (put_if R true) (sent_if R true (own_at s t)) =
    subst (λ b. Treats f t s r (put_if R b) (sent_if R b (own_at s t))) asks
    (query-treats {g = g} {me = n} {f = f} {t = t} R s f t list list team.members.listed refl team) in
    let own : own_at r.state t ≡ own_at s t = own-same s r.state t treats.pending treats.outcomes in
    let front : about tell_in t (w.channel f n) ≡ query ∷ about tell_in t rest = ap (about tell_in t) step.first
    ∙ ap (λ b. one b query ++ about tell_in t rest) (same-self t) in
    let a = query-moves c.put R f t s r c.waiting treats (subst (λ k. Resolves d side (k ++ cut) c.put R (own_at s t) back) front c.now) in
    refit (ap (about tell_in t) (mine-taken step fn)) (ap (λ k. rows.is_ready k t list f) treats.known) own refl
    (subst (λ k. waits k f t r.state.deferred ≡ one a.waiting k) (sym own) a.put_off) a.now

-- questions stay put off, whatever they will be answered
none-either : (k : Bool) (a b : At) (xs ys : List At) → (xs ≡ [] → ys ≡ []) → one k a ++ xs ≡ [] → one k b ++ ys ≡ []
none-either true a b xs ys f e = cc
none-either false a b xs ys f e = f e

pub no-waits : (a b : At) (f : ℕ) (t : Txn) (ds : List Deferred) → waits a f t ds ≡ [] → waits b f t ds ≡ []
no-waits a b f t [] e = refl
no-waits a b f t (d ∷ ds) e = none-either (is_asking f t d d.question) a b (waits a f t ds) (waits b f t ds) (no-waits a b f t ds) e

one-either : (k : Bool) (a b : At) (xs ys : List At) → (xs ≡ [] → ys ≡ []) → (xs ≡ a ∷ [] → ys ≡ b ∷ []) → one k a ++ xs ≡ a ∷ [] → one k b ++ ys ≡ b ∷ []
one-either true a b xs ys f g e = ap (λ zs. b ∷ zs) (f (tail-none xs e))
  where
    tail-none : (xs : List At) → a ∷ xs ≡ a ∷ [] → xs ≡ []
    tail-none [] e = refl
    tail-none (x ∷ xs) e = cc
one-either false a b xs ys f g e = g e

one-wait : (a b : At) (f : ℕ) (t : Txn) (ds : List Deferred) → waits a f t ds ≡ a ∷ [] → waits b f t ds ≡ b ∷ []
one-wait a b f t [] e = cc
one-wait a b f t (d ∷ ds) e = one-either (is_asking f t d d.question) a b (waits a f t ds) (waits b f t ds) (no-waits a b f t ds) (one-wait a b f t ds) e

other-waits : (a b : At) (f : ℕ) (t : Txn) (ds : List Deferred) (q : Bool) → waits a f t ds ≡ one q a → waits b f t ds ≡ one q b
other-waits a b f t ds true e = one-wait a b f t ds e
other-waits a b f t ds false e = no-waits a b f t ds e

-- Outcome of this resolver and attempt
pub outcome-deferred : (s : BrickState) (t : Txn) (c : Bool) → (rows.outcome_row s t c).state.deferred ≡ s.deferred
outcome-deferred s t c = settled s t c _
  where
    settled : (s : BrickState) (t : Txn) (c : Bool) (p : Option Pending) → (rows.settled (calls.dropped s t) c p).state.deferred ≡ s.deferred
    settled s t c None = refl
    settled s t true (Some p) = refl
    settled s t false (Some p) = refl

pub member-outcome : {w v : Net} {d : Bool} {t : Txn} {list : List ℕ} {n f : ℕ} {s : BrickState} {rest : List Letter} {c : Bool} {side : Side}
    {cut : List Tell} {back : List At}
    → Turned w v n f s (letter.Outcome t c) rest (rows.outcome_row s t c) → Once s.locks.pending → (f == n) ≡ false → Member w d t list f n s side cut back
    → Member v d t list f n (rows.outcome_row s t c).state side cut (back ++ about status_in t (letters_to f (rows.outcome_row s t c).out.letters)) × (c ≡ d)
member-outcome {w = w} {v = v} {d = d} {t = t} {list = list} {n = n} {f = f} {s = s} {rest = rest} {c = c} {side = side} {cut = cut} {back = back} step once
    fn h =
    let r = rows.outcome_row s t c in
    let ends = outcome-ends s t c in
    let front : about tell_in t (w.channel f n) ≡ outcome c ∷ about tell_in t rest = ap (about tell_in t) step.first
    ∙ ap (λ b. one b (outcome c) ++ about tell_in t rest) (same-self t) in
    let now = subst (λ k. Resolves d side (k ++ cut) h.put (rows.is_ready s.known t list f) (own_at s t) back) front h.now in
    let m = outcome-moves s t once now in
    let silent : back ++ about status_in t (letters_to f r.out.letters) ≡ back = ap (λ ls. back ++ about status_in t (letters_to f ls)) ends.letters
    ∙ append-nil back in
    let wait : waits (own_at r.state t) f t r.state.deferred ≡ one h.put (own_at r.state t) =
    ap (waits (own_at r.state t) f t) (outcome-deferred s t c) ∙ other-waits (own_at s t) (own_at r.state t) f t s.deferred h.put h.waiting in
    (refit (ap (about tell_in t) (mine-taken step fn)) (ap (λ k. rows.is_ready k t list f) ends.known) refl silent wait m.0, m.1)

-- a turn that leaves the attempt alone, at a letter that isn't this resolver's of this attempt
pub member-calm : {w v : Net} {d : Bool} {t : Txn} {list : List ℕ} {n from f : ℕ} {s : BrickState} {l : Letter} {rest : List Letter} {r : BrickTurn}
    {side : Side} {cut : List Tell} {back : List At}
    → Turned w v n from s l rest r → Calm f t s r → (f == n) ≡ false → ((f == from) ≡ true → of t (tell_in l) ≡ []) → Member w d t list f n s side cut back
    → Member v d t list f n r.state side cut (back ++ about status_in t (letters_to f r.out.letters))
member-calm {t = t} {list = list} {f = f} {s = s} {r = r} {back = back} step calm fn quiet c =
    let own : own_at r.state t ≡ own_at s t = own-same s r.state t calm.pending calm.outcomes in
    refit (others-taken t f step fn quiet) (ap (λ k. rows.is_ready k t list f) calm.known) own (ap (λ xs. back ++ xs) calm.answered ∙ append-nil back)
    (subst (λ k. waits k f t r.state.deferred ≡ one c.put k) (sym own) (calm.put_off (own_at s t) ∙ append-nil (waits (own_at s t) f t s.deferred)
    ∙ c.waiting)) c.now

-- a turn that may change how far the attempt is here, and leaves all else of it alone; the member isn't ready yet
pub record Bare (f : ℕ) (t : Txn) (s : BrickState) (r : BrickTurn) : Type 0 where
  pub known : r.state.known ≡ s.known
  pub deferred : r.state.deferred ≡ s.deferred
  pub silent : about status_in t (letters_to f r.out.letters) ≡ []

pub member-bare : {w v : Net} {d : Bool} {t : Txn} {list : List ℕ} {n from f : ℕ} {s : BrickState} {l : Letter} {rest : List Letter} {r : BrickTurn}
    {side : Side} {cut : List Tell} {back : List At}
    → Turned w v n from s l rest r → Bare f t s r → (f == n) ≡ false → ((f == from) ≡ true → of t (tell_in l) ≡ []) → rows.is_ready s.known t list f ≡ false
    → Member w d t list f n s side cut back → Member v d t list f n r.state side cut (back ++ about status_in t (letters_to f r.out.letters))
member-bare {w = w} {d = d} {t = t} {list = list} {n = n} {f = f} {s = s} {r = r} {side = side} {cut = cut} {back = back} step bare fn quiet unready c =
    let now = unready-any (own_at r.state t) (subst (λ R. Resolves d side (about tell_in t (w.channel f n) ++ cut) c.put R (own_at s t) back) unready c.now) in
    refit (others-taken t f step fn quiet) (ap (λ k. rows.is_ready k t list f) bare.known ∙ unready) refl (ap (λ xs. back ++ xs) bare.silent ∙ append-nil back)
    (ap (waits (own_at r.state t) f t) bare.deferred ∙ other-waits (own_at s t) (own_at r.state t) f t s.deferred c.put c.waiting) now

-- and one that leaves that as it is
pub member-same : {w v : Net} {d : Bool} {t : Txn} {list : List ℕ} {n from f : ℕ} {s : BrickState} {l : Letter} {rest : List Letter} {r : BrickTurn}
    {side : Side} {cut : List Tell} {back : List At}
    → Turned w v n from s l rest r → Bare f t s r → own_at r.state t ≡ own_at s t → (f == n) ≡ false → ((f == from) ≡ true → of t (tell_in l) ≡ [])
    → Member w d t list f n s side cut back → Member v d t list f n r.state side cut (back ++ about status_in t (letters_to f r.out.letters))
member-same {t = t} {list = list} {f = f} {s = s} {r = r} {back = back} step bare own fn quiet c =
    refit (others-taken t f step fn quiet) (ap (λ k. rows.is_ready k t list f) bare.known) own (ap (λ xs. back ++ xs) bare.silent ∙ append-nil back)
    (ap (waits (own_at r.state t) f t) bare.deferred ∙ subst (λ k. waits k f t s.deferred ≡ one c.put k) (sym own) c.waiting) c.now
