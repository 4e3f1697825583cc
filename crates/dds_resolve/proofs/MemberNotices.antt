use Rattle.std.proofs.Common.{◌≡◌, ℕ, ◌<◌, ◌==◌, ◌&&◌, ◌||◌, Bool, true, false, not, List, [], ◌∷◌, ◌++◌}
use Rattle.std.proofs.Common.{refl, sym, ap, ◌∙◌}
use Rattle.std.proofs.lemmas.Bool.{and_parts}
use Rattle.std.proofs.lemmas.List.{append-nil}
use Rattle.std.specs.List.{AllByRecursion}
use Rattle.std.specs.FinMap.{get}
use Rattle.dds_base.specs.BrickList.{has}
use Rattle.dds_base.specs.NodeSet.{has_node}
use Rattle.dds_base.specs.Number.{Txn, same_txn}
use Rattle.dds_base.specs.declared.number.NodeNo.{NodeNo}
use Rattle.dds_brick_rows.specs.Resolution as rows
use Rattle.dds_brick_rows.specs.declared.resolution.News.{News}
use Rattle.dds_brick_rows.specs.declared.resolution.News.TheVariants as news
use Rattle.dds_core.proofs.LetterTells.{Any, Each, order_part}
use Rattle.dds_core.proofs.Rests.{AllOrders, Orders, Rests, Whole}
use Rattle.dds_core.specs.Notice as notices
use Rattle.dds_letters.specs.declared.letter.Letter.{Letter}
use Rattle.dds_letters.specs.declared.letter.Letter.TheVariants as letter
use Rattle.dds_states.specs.Turn.{BrickTurn, and_then, unknown}
use Rattle.dds_states.specs.declared.brick_state.BrickState.{BrickState}
use Rattle.dds_states.specs.declared.brick_state.Deferred.{Deferred}
use Rattle.dds_states.specs.declared.brick_state.Resolving.{Resolving}
use Rattle.dds_talk.specs.Table.{At}
use Rattle.dds_talk.specs.Seen.{of, is_pending, about}
use Rattle.dds_resolve.specs.Letters.{letters_to}
use Rattle.dds_resolve.specs.Resolving.{own_at, status_in, waits}
use Rattle.dds_resolve.specs.Team.{Ground, Members, ResolvingOk, BrickOk}
use Rattle.dds_resolve.proofs.TeamTurns as team
use Rattle.dds_resolve.proofs.TeamNotices as team_notices
use Rattle.dds_resolve.proofs.TeamTurns.{Good, team-to}
use Rattle.dds_resolve.proofs.TeamNotices.{NumberedOk}
use Rattle.dds_resolve.proofs.MemberTurns.{Calm, about-sent, quiet-if, quiet-one, calm-sends, calm-still, calm-with, own-same, calm-then}
use Rattle.dds_resolve.proofs.MemberTurns.{treats-if, resolves-calm, resolve-calm, Others}
use Rattle.dds_resolve.proofs.MemberAnswers.{put_all, sent_all, all-treats}

-- A notice at a member: what it put off is answered where it has become ready.

-- the other parts of a notice
silent-frame : (f : ℕ) (t : Txn) (ls : List (NodeNo × Letter)) → AllOrders Any ls → about status_in t (letters_to f ls) ≡ []
silent-frame f t [] h = refl
silent-frame f t (l ∷ ls) h = quiet-if status_in (l.0 == f) t l.1 (letters_to f ls) (silent t l.0 l.1 h.0) (silent-frame f t ls h.1)
  where
    silent : (t : Txn) (to : NodeNo) (l : Letter) → Orders Any to l → of t (status_in l) ≡ []
    silent t to (letter.Status txn st) h = absurd h
    silent t to other h = refl

pub frame-calm : {f : ℕ} {t : Txn} (s : BrickState) (r : BrickTurn) → Rests Any Each s r → Calm f t s r
frame-calm {f = f} {t = t} s r h =
    record {
      pending = ap (λ (w : Whole). is_pending w.pending t) h.same;
      outcomes = ap (λ (w : Whole). get w.outcomes t) h.same;
      known = ap (λ (w : Whole). w.who.known) h.same;
      put_off = λ a. ap (λ (w : Whole). waits a f t w.deferred) h.same ∙ sym (append-nil (waits a f t s.deferred));
      answered = silent-frame f t r.out.letters h.letters;
    }

pub news-txn : (r : Resolving) (from : NodeNo) (n : News) → (rows.with_news r from n).txn ≡ r.txn
news-txn r from news.Stopped = refl
news-txn r from (news.Told t st) = refl

resolving-calm : {g : Ground} {me f : ℕ} {t : Txn} (s : BrickState) (from : NodeNo) (n : News) (r : Resolving) → Others g me t → BrickOk g me s →
    ResolvingOk g me r → Calm f t s (rows.resolving_goes s from n r)
resolving-calm {t = t} s from n r others b h =
    treats-if (rows.is_awaited r from n) _ _
    (λ e. resolves-calm s (rows.with_news r from n) b (ap (λ x. same_txn x t) (news-txn r from n) ∙ others r.txn r.list h))
    (λ e. calm-with s (s.resolving ++ r ∷ []))

resolvings-calm : {g : Ground} {me f : ℕ} {t : Txn} (s : BrickState) (from : NodeNo) (n : News) (rs : List Resolving) → Others g me t → BrickOk g me s →
    AllByRecursion (ResolvingOk g me) rs → Calm f t s (rows.resolvings_go s from n rs)
resolvings-calm s from n [] others b h = calm-still s
resolvings-calm {g = g} {me = me} s from n (r ∷ rs) others b h =
    calm-then {g = g} {me = me} s (rows.resolving_goes s from n r) (λ u. rows.resolvings_go u from n rs) (team.resolving-good s from n r b h.0)
    (resolving-calm s from n r others b h.0) (λ u k. resolvings-calm u from n rs others k h.1)

pub hear-calm : {g : Ground} {me f : ℕ} {t : Txn} (s : BrickState) (from : NodeNo) (n : News) → Others g me t → BrickOk g me s →
    Calm f t s (rows.all_hear s from n)
hear-calm s from n others b =
    let c = resolvings-calm (record s { resolving = [] }) from n s.resolving others
    (record { number = b.number; known = b.known; pending = b.pending; deferred = b.deferred; resolving = tt }) b.resolving in
    record { pending = c.pending; outcomes = c.outcomes; known = c.known; put_off = c.put_off; answered = c.answered }

helped-calm : {g : Ground} {me f : ℕ} {t : Txn} (s : BrickState) (y : NodeNo) (x : Txn) (list fs : List ℕ) → Others g me t → unknown list s.known ≡ fs →
    BrickOk g me s → Members g x list me → g.stopped x.library ≡ true → g.frozen x ≡ true → Calm f t s (notices.helped_by s y x list fs)
helped-calm s y x list [] others e b h k o = calm-still s
helped-calm {f = f} {t = t} s y x list (n ∷ ns) others e b h k o =
    let first = team_notices.first-team s x list n ns e b h k o in
    treats-if (n == s.number) _ _ (λ i. resolve-calm s x list b (others x list (team_notices.resolver-team s x list n i b first)))
    (λ i. treats-if (y == x.library || has (rows.before list n) y) _ _ (λ j. calm-sends s _ (quiet-one status_in t f n (letter.Help x list) refl))
    (λ j. calm-still s))

pending-calm : {g : Ground} {me f : ℕ} {t : Txn} (s : BrickState) (y : NodeNo) (x : Txn) (list : List ℕ) → Others g me t → BrickOk g me s →
    NumberedOk g me (x, list) → Calm f t s (notices.pending_goes s y x list)
pending-calm s y x list others b h =
    treats-if (has_node s.known x.library && not (rows.is_resolved s x)) _ _
    (λ e. let k = b.known x.library (and_parts (has_node s.known x.library) (not (rows.is_resolved s x)) e).0 in
    helped-calm s y x list (unknown list s.known) others refl b h.0 k (h.1 k))
    (λ e. calm-still s)

pendings-calm : {g : Ground} {me f : ℕ} {t : Txn} (s : BrickState) (y : NodeNo) (ps : List (Txn × List ℕ)) → Others g me t → BrickOk g me s →
    AllByRecursion (NumberedOk g me) ps → Calm f t s (notices.pendings_go s y ps)
pendings-calm s y [] others b h = calm-still s
pendings-calm {g = g} {me = me} s y (p ∷ ps) others b h = calm-then {g = g} {me = me} s (notices.pending_goes s y p.0 p.1) (λ u. notices.pendings_go u y ps)
    (team_notices.pending-good s y p.0 p.1 b h.0) (pending-calm s y p.0 p.1 others b h.0) (λ u k. pendings-calm u y ps others k h.1)

-- a notice: where the member has become ready it answers all that it put off, and else it puts them off again
pub record Heeds (f : ℕ) (t : Txn) (R : Bool) (s : BrickState) (r : BrickTurn) : Type 0 where
  pub pending : is_pending r.state.locks.pending t ≡ is_pending s.locks.pending t
  pub outcomes : get r.state.locks.outcomes t ≡ get s.locks.outcomes t
  pub put_off : (a : At) → waits a f t r.state.deferred ≡ put_all R f t s.deferred a
  pub answered : about status_in t (letters_to f r.out.letters) ≡ sent_all R f t s.deferred (own_at s t)

pub same-waits : (R : Bool) (f : ℕ) (t : Txn) (xs ys : List Deferred) (a : At) → waits a f t xs ≡ waits a f t ys → put_all R f t xs a ≡ put_all R f t ys a
same-waits true f t xs ys a e = refl
same-waits false f t xs ys a e = e

pub same-sent : (R : Bool) (f : ℕ) (t : Txn) (xs ys : List Deferred) (a b : At) → a ≡ b → waits a f t xs ≡ waits a f t ys →
    sent_all R f t xs a ≡ sent_all R f t ys b
same-sent true f t xs ys a b i e = e ∙ ap (λ c. waits c f t ys) i
same-sent false f t xs ys a b i e = refl

deferred-heeds : {g : Ground} {me f : ℕ} {t : Txn} (R : Bool) (s : BrickState) (r : BrickTurn) (mine : List ℕ) → Others g me t → g.list t ≡ mine →
    rows.is_ready s.known t mine f ≡ R → Good g me r → Calm f t s r → Heeds f t R s (and_then r notices.deferred_part)
deferred-heeds {g = g} {me = me} {f = f} {t = t} R s r mine others listed e good c =
    let u = record r.state { deferred = [] } in
    let k : BrickOk g me u = record {
      number = good.state.number;
      known = good.state.known;
      pending = good.state.pending;
      deferred = tt;
      resolving = good.state.resolving;
    } in
    let own = own-same s r.state t c.pending c.outcomes in
    let d = all-treats {g = g} {me = me} R u r.state.deferred mine others listed (ap (λ v. rows.is_ready v t mine f) c.known ∙ e) k good.state.deferred in
    record {
      pending = d.pending ∙ c.pending;
      outcomes = d.outcomes ∙ c.outcomes;
      put_off = λ a. d.put_off a ∙ same-waits R f t r.state.deferred s.deferred a (c.put_off a ∙ append-nil (waits a f t s.deferred));
      answered = about-sent status_in t f r.out.letters (notices.deferred_part r.state).out.letters
          ∙ ap (λ zs. zs ++ about status_in t (letters_to f (notices.deferred_part r.state).out.letters)) c.answered ∙ d.answered
          ∙ same-sent R f t r.state.deferred s.deferred (own_at u t) (own_at s t) own
          (c.put_off (own_at u t) ∙ append-nil (waits (own_at u t) f t s.deferred));
    }

heeds-then : {g : Ground} {me f : ℕ} {t : Txn} (R : Bool) (s : BrickState) (r : BrickTurn) (row : BrickState → BrickTurn) → Good g me r → Heeds f t R s r →
    ((u : BrickState) → BrickOk g me u → Calm f t u (row u)) → Heeds f t R s (and_then r row)
heeds-then {f = f} {t = t} R s r row good h next =
    let c = next r.state good.state in
    record {
      pending = c.pending ∙ h.pending;
      outcomes = c.outcomes ∙ h.outcomes;
      put_off = λ a. c.put_off a ∙ append-nil (waits a f t r.state.deferred) ∙ h.put_off a;
      answered = about-sent status_in t f r.out.letters (row r.state).out.letters ∙ ap (λ zs. about status_in t (letters_to f r.out.letters) ++ zs) c.answered
          ∙ append-nil (about status_in t (letters_to f r.out.letters)) ∙ h.answered;
    }

pub notice-heeds : {g : Ground} {me f : ℕ} {t : Txn} (R : Bool) (s : BrickState) (y : NodeNo) (mine : List ℕ) → y < 80 → g.stopped y ≡ true → BrickOk g me s →
    Others g me t → g.list t ≡ mine → rows.is_ready (notices.learns s y).known t mine f ≡ R → Heeds f t R s (notices.notice_row s y)
notice-heeds {g = g} {me = me} {f = f} {t = t} R s y mine low stop b others listed e =
    let l = notices.learns s y in
    let first = team_notices.frame-good {M = Each} l (notices.order_part l y) (order_part l y) (team_notices.learns-ok s y low stop b) in
    let two-good = team.good-then (notices.order_part l y) (λ v. notices.resolving_part v y) first (λ u k. team.hear-good u y news.Stopped k) in
    let two = calm-then {g = g} {me = me} l (notices.order_part l y) (λ v. notices.resolving_part v y) first
    (frame-calm l (notices.order_part l y) (order_part l y)) (λ u k. hear-calm u y news.Stopped others k) in
    let three-good = team.good-then (and_then (notices.order_part l y) (λ v. notices.resolving_part v y)) notices.deferred_part two-good
    (λ u k. team.all-asked-good (record u { deferred = [] }) u.deferred
    (record { number = k.number; known = k.known; pending = k.pending; deferred = tt; resolving = k.resolving }) k.deferred) in
    let three = deferred-heeds {g = g} {me = me} R l (and_then (notices.order_part l y) (λ v. notices.resolving_part v y)) mine others listed e two-good two in
    let all = heeds-then {g = g} {me = me} R l (and_then (and_then (notices.order_part l y) (λ v. notices.resolving_part v y)) notices.deferred_part)
    (λ v. notices.pending_part v y) three-good three
    (λ u k. pendings-calm u y (notices.numbered u.locks.pending) others k (team_notices.numbered-all g me u.locks.pending k.pending)) in
    record { pending = all.pending; outcomes = all.outcomes; put_off = all.put_off; answered = all.answered }
