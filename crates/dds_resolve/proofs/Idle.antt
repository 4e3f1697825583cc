use Rattle.std.proofs.Common.{◌≡◌, ℕ, ◌<◌, ◌==◌, ◌&&◌, ◌||◌, Bool, true, false, not, List, [], ◌∷◌, ◌++◌, refl, sym, ap, ◌∙◌, subst, append_assoc}
use Rattle.std.proofs.lemmas.Bool.{and_parts, eqb-true}
use Rattle.std.proofs.lemmas.List.{append-nil}
use Rattle.std.specs.List.{AllByRecursion}
use Rattle.dds_base.specs.BrickList.{has}
use Rattle.dds_base.specs.NodeSet.{has_node}
use Rattle.dds_base.specs.Number.{Txn, same_txn}
use Rattle.dds_base.specs.declared.node_set.NodeSet.{NodeSet}
use Rattle.dds_base.specs.declared.number.NodeNo.{NodeNo}
use Rattle.dds_brick_rows.specs.Resolution as rows
use Rattle.dds_brick_rows.specs.declared.resolution.News.{News}
use Rattle.dds_brick_rows.specs.declared.resolution.News.TheVariants as news
use Rattle.dds_core.proofs.LetterTells.{Any, Each, order_part}
use Rattle.dds_core.proofs.Rests.{Whole}
use Rattle.dds_core.specs.Notice as notices
use Rattle.dds_letters.specs.declared.letter.Letter.TheVariants as letter
use Rattle.dds_states.specs.Turn.{BrickTurn, and_then, unknown}
use Rattle.dds_states.specs.declared.brick_state.BrickState.{BrickState}
use Rattle.dds_states.specs.declared.brick_state.Deferred.{Deferred}
use Rattle.dds_states.specs.declared.brick_state.Question.{Question}
use Rattle.dds_states.specs.declared.brick_state.Question.TheVariants.{Help, Query}
use Rattle.dds_states.specs.declared.brick_state.Resolving.{Resolving}
use Rattle.dds_talk.specs.Seen.{about}
use Rattle.dds_talk.specs.Table.{At}
use Rattle.dds_resolve.proofs.MemberAnswers.{nothing-put, nothing-sent, put-more, put-none, put_all, put_if, query-treats, sent-more}
use Rattle.dds_resolve.proofs.MemberAnswers.{sent-none, sent_all, sent_if, treats-as}
use Rattle.dds_resolve.proofs.MemberNotices.{Heeds, frame-calm, news-txn, same-sent, same-waits}
use Rattle.dds_resolve.proofs.MemberTurns.{Calm, Treats, about-sent, calm-sends, calm-still, calm-with, help-other, own-same, quiet-one}
use Rattle.dds_resolve.proofs.MemberTurns.{resolve-calm, resolves-calm, treats-if}
use Rattle.dds_resolve.proofs.Ready.{ReadyIn, Readies, all-known, asked-readies, all-asked-readies, both-true, hear-readies}
use Rattle.dds_resolve.proofs.Ready.{pending-readies, same-readies, start-readies}
use Rattle.dds_resolve.proofs.TeamNotices.{NumberedOk, first-team, first-unknown, frame-good, learns-ok, numbered-all, pending-good, resolver-team}
use Rattle.dds_resolve.proofs.TeamTurns.{all-asked-good, asked-good, hear-good, resolving-good, team-to}
use Rattle.dds_resolve.specs.Letters.{letters_to}
use Rattle.dds_resolve.specs.Resolving.{is_asking, own_at, status_in, waits}
use Rattle.dds_resolve.specs.Team.{AskedOk, BrickOk, DeferredOk, Ground, Members, OpenIf, ResolvingOk, Team}

-- A member that isn't ready to resolve an attempt leaves it alone in a turn, also where it may be its resolver: as `MemberTurns`,
-- with what the member knows.

abbrev pub Idle : Ground → NodeSet → ℕ → Txn → Type 0
Idle g known me t = (x : Txn) (list : List ℕ) → Team g x list me me → rows.is_ready known x list me ≡ true → same_txn x t ≡ false

ready-as : (K : NodeSet) (me : ℕ) (s : BrickState) (x : Txn) (list : List ℕ) → Readies K me s → rows.is_ready s.known x list s.number ≡ true →
    rows.is_ready K x list me ≡ true
ready-as K me s x list h e = ap (λ k. rows.is_ready k x list me) (sym h.knows) ∙ ap (rows.is_ready s.known x list) (sym h.number) ∙ e

-- one turn after another
treats-after : {f : ℕ} {t : Txn} (s : BrickState) (r : BrickTurn) (row : BrickState → BrickTurn) (p q : At → List At) (x y : List At) → Treats f t s r p x →
    Treats f t r.state (row r.state) q y
    → Treats f t s (and_then r row) (λ a. p a ++ q a) (x ++ y)
treats-after {f = f} {t = t} s r row p q x y a b =
    record {
      pending = b.pending ∙ a.pending;
      outcomes = b.outcomes ∙ a.outcomes;
      known = b.known ∙ a.known;
      put_off = λ k. b.put_off k ∙ ap (λ zs. zs ++ q k) (a.put_off k) ∙ append_assoc (waits k f t s.deferred) (p k) (q k);
      answered = about-sent status_in t f r.out.letters (row r.state).out.letters
          ∙ ap (λ zs. zs ++ about status_in t (letters_to f (row r.state).out.letters)) a.answered ∙ ap (λ zs. x ++ zs) b.answered;
    }

calm-after : {f : ℕ} {t : Txn} (s : BrickState) (r : BrickTurn) (row : BrickState → BrickTurn) → Calm f t s r → Calm f t r.state (row r.state) →
    Calm f t s (and_then r row)
calm-after s r row a b = treats-after s r row (λ k. []) (λ k. []) [] [] a b

-- Help, and what a member tells
pub idle-help : {g : Ground} {me f : ℕ} {t : Txn} (K : NodeSet) (s : BrickState) (from : NodeNo) (x : Txn) (list : List ℕ) → Idle g K me t → BrickOk g me s →
    Readies K me s → Team g x list me from → Calm f t s (rows.help_row s from x list)
idle-help {me = me} K s from x list idle b ready h =
    treats-if (rows.is_ready s.known x list s.number) _ _
    (λ e. treats-if (rows.is_resolved s x) _ _ (λ i. calm-still s)
    (λ i. resolve-calm s x list b (idle x list (team-to me h h.resolver) (ready-as K me s x list ready e))))
    (λ e. help-other s from x list)

idle-goes : {g : Ground} {me f : ℕ} {t : Txn} (K : NodeSet) (s : BrickState) (from : NodeNo) (n : News) (rs : List Resolving) → Idle g K me t →
    BrickOk g me s → AllByRecursion (ResolvingOk g me) rs → AllByRecursion (ReadyIn K me) rs
    → Calm f t s (rows.resolvings_go s from n rs)
idle-goes K s from n [] idle b h k = calm-still s
idle-goes {t = t} K s from n (r ∷ rs) idle b h k =
    calm-after s (rows.resolving_goes s from n r) (λ u. rows.resolvings_go u from n rs)
    (treats-if (rows.is_awaited r from n) _ _
    (λ e. resolves-calm s (rows.with_news r from n) b (ap (λ x. same_txn x t) (news-txn r from n) ∙ idle r.txn r.list h.0 k.0))
    (λ e. calm-with s (s.resolving ++ r ∷ [])))
    (idle-goes K (rows.resolving_goes s from n r).state from n rs idle (resolving-good s from n r b h.0).state h.1 k.1)

pub idle-hear : {g : Ground} {me f : ℕ} {t : Txn} (K : NodeSet) (s : BrickState) (from : NodeNo) (n : News) → Idle g K me t → BrickOk g me s →
    Readies K me s → Calm f t s (rows.all_hear s from n)
idle-hear K s from n idle b ready =
    let c = idle-goes K (record s { resolving = [] }) from n s.resolving idle
    (record { number = b.number; known = b.known; pending = b.pending; deferred = b.deferred; resolving = tt }) b.resolving ready.ready in
    record { pending = c.pending; outcomes = c.outcomes; known = c.known; put_off = c.put_off; answered = c.answered }

-- the deferred letters
idle-asked : {g : Ground} {me f : ℕ} {t : Txn} (K : NodeSet) (R : Bool) (s : BrickState) (d : Deferred) (q : Question) (mine : List ℕ) → Idle g K me t →
    g.list t ≡ mine → rows.is_ready s.known t mine f ≡ R → BrickOk g me s → Readies K me s → AskedOk g me d q
    → Treats f t s (notices.asked_again s d q) (put_if R (is_asking f t d q)) (sent_if R (is_asking f t d q) (own_at s t))
idle-asked {t = t} K R s d Help mine idle listed e b ready h =
    treats-as (put_if R false) (sent_if R false (own_at s t)) (λ a. sym (put-none R a)) (sym (sent-none R (own_at s t)))
    (idle-help K s d.from d.txn d.list idle b ready h)
idle-asked K R s d Query mine idle listed e b ready h = query-treats R s d.from d.txn d.list mine listed e h.0

idle-all : {g : Ground} {me f : ℕ} {t : Txn} (K : NodeSet) (R : Bool) (s : BrickState) (ds : List Deferred) (mine : List ℕ) → Idle g K me t →
    g.list t ≡ mine → rows.is_ready s.known t mine f ≡ R → BrickOk g me s → Readies K me s → AllByRecursion (DeferredOk g me) ds
    → Treats f t s (notices.asked_all_again s ds) (put_all R f t ds) (sent_all R f t ds (own_at s t))
idle-all {f = f} {t = t} K R s [] mine idle listed e b ready h =
    treats-as (put_all R f t []) (sent_all R f t [] (own_at s t)) (nothing-put R f t) (nothing-sent R f t (own_at s t)) (calm-still s)
idle-all {g = g} {me = me} {f = f} {t = t} K R s (d ∷ ds) mine idle listed e b ready h =
    let r = notices.asked_again s d d.question in
    let first = idle-asked {g = g} {me = me} {f = f} {t = t} K R s d d.question mine idle listed e b ready h.0 in
    let own = own-same s r.state t first.pending first.outcomes in
    let rest = idle-all {g = g} {me = me} {f = f} {t = t} K R r.state ds mine idle listed (ap (λ v. rows.is_ready v t mine f) first.known ∙ e)
    (asked-good s d d.question refl b h.0).state (asked-readies s d d.question ready) h.1 in
    treats-as (put_all R f t (d ∷ ds)) (sent_all R f t (d ∷ ds) (own_at s t)) (put-more R f t d ds) (sent-more R f t d ds (own_at s t))
    (treats-after s r (λ u. notices.asked_all_again u ds) (put_if R (is_asking f t d d.question)) (put_all R f t ds)
    (sent_if R (is_asking f t d d.question) (own_at s t)) (sent_all R f t ds (own_at s t)) first
    (subst (λ a. Treats f t r.state (notices.asked_all_again r.state ds) (put_all R f t ds) (sent_all R f t ds a)) own rest))

-- what is pending
idle-helped : {g : Ground} {me f : ℕ} {t : Txn} (K : NodeSet) (s : BrickState) (y : NodeNo) (x : Txn) (list fs : List ℕ) → Idle g K me t →
    unknown list s.known ≡ fs → BrickOk g me s → Readies K me s → Members g x list me → has_node s.known x.library ≡ true → OpenIf g x
    → Calm f t s (notices.helped_by s y x list fs)
idle-helped K s y x list [] idle e b ready h k o = calm-still s
idle-helped {me = me} {f = f} {t = t} K s y x list (n ∷ ns) idle e b ready h k o =
    let stops = b.known x.library k in
    let first = first-team s x list n ns e b h stops (o stops) in
    let is : rows.is_ready s.known x list n ≡ true =
    both-true (has_node s.known x.library) _ k (all-known s.known (rows.before list n) (first-unknown list (has_node s.known) n ns e).0) in
    treats-if (n == s.number) _ _
    (λ i. resolve-calm s x list b (idle x list (resolver-team s x list n i b first)
    (ready-as K me s x list ready (ap (rows.is_ready s.known x list) (sym (eqb-true n s.number i)) ∙ is))))
    (λ i. treats-if (y == x.library || has (rows.before list n) y) _ _ (λ j. calm-sends s _ (quiet-one status_in t f n (letter.Help x list) refl))
    (λ j. calm-still s))

idle-pending : {g : Ground} {me f : ℕ} {t : Txn} (K : NodeSet) (s : BrickState) (y : NodeNo) (x : Txn) (list : List ℕ) → Idle g K me t → BrickOk g me s →
    Readies K me s → NumberedOk g me (x, list) → Calm f t s (notices.pending_goes s y x list)
idle-pending K s y x list idle b ready h =
    treats-if (has_node s.known x.library && not (rows.is_resolved s x)) _ _
    (λ e. idle-helped K s y x list (unknown list s.known) idle refl b ready h.0 (and_parts (has_node s.known x.library) (not (rows.is_resolved s x)) e).0 h.1)
    (λ e. calm-still s)

idle-pendings : {g : Ground} {me f : ℕ} {t : Txn} (K : NodeSet) (s : BrickState) (y : NodeNo) (ps : List (Txn × List ℕ)) → Idle g K me t → BrickOk g me s →
    Readies K me s → AllByRecursion (NumberedOk g me) ps → Calm f t s (notices.pendings_go s y ps)
idle-pendings K s y [] idle b ready h = calm-still s
idle-pendings {g = g} {me = me} K s y (p ∷ ps) idle b ready h =
    calm-after s (notices.pending_goes s y p.0 p.1) (λ u. notices.pendings_go u y ps) (idle-pending {g = g} {me = me} K s y p.0 p.1 idle b ready h.0)
    (idle-pendings {g = g} {me = me} K (notices.pending_goes s y p.0 p.1).state y ps idle (pending-good s y p.0 p.1 b h.0).state
    (pending-readies s y p.0 p.1 ready) h.1)

-- a notice
pub idle-notice : {g : Ground} {me f : ℕ} {t : Txn} (R : Bool) (s : BrickState) (y : NodeNo) (mine : List ℕ) → y < 80 → g.stopped y ≡ true → BrickOk g me s →
    Readies s.known me s → Idle g (notices.learns s y).known me t → g.list t ≡ mine
    → rows.is_ready (notices.learns s y).known t mine f ≡ R → Heeds f t R s (notices.notice_row s y)
idle-notice {g = g} {me = me} {f = f} {t = t} R s y mine low stop b ready idle listed e =
    let l = notices.learns s y in
    let K = l.known in
    let o = notices.order_part l y in
    let same = (order_part {L = Any} {M = Each} l y).same in
    let one = frame-calm {f = f} {t = t} l o (order_part l y) in
    let one-good = frame-good {M = Each} l o (order_part l y) (learns-ok s y low stop b) in
    let one-ready = same-readies l o.state (ap (λ (w : Whole). w.who.known) same) (ap (λ (w : Whole). w.who.number) same)
    (ap (λ (w : Whole). w.resolving) same) (start-readies s y low ready) in
    let h = rows.all_hear o.state y news.Stopped in
    let two = calm-after l o (λ v. notices.resolving_part v y) one (idle-hear K o.state y news.Stopped idle one-good.state one-ready) in
    let two-ok = (hear-good o.state y news.Stopped one-good.state).state in
    let two-ready = hear-readies o.state y news.Stopped one-ready in
    let u = record h.state { deferred = [] } in
    let u-ok : BrickOk g me u = record {
      number = two-ok.number;
      known = two-ok.known;
      pending = two-ok.pending;
      deferred = tt;
      resolving = two-ok.resolving;
    } in
    let u-ready = same-readies h.state u refl refl refl two-ready in
    let three = idle-all {g = g} {me = me} {f = f} {t = t} K R u h.state.deferred mine idle listed (ap (λ v. rows.is_ready v t mine f) two.known ∙ e) u-ok
    u-ready two-ok.deferred in
    let three-ok = (all-asked-good u h.state.deferred u-ok two-ok.deferred).state in
    let v = (notices.asked_all_again u h.state.deferred).state in
    let four = idle-pendings {g = g} {me = me} {f = f} {t = t} K v y (notices.numbered v.locks.pending) idle three-ok
    (all-asked-readies u h.state.deferred u-ready) (numbered-all g me v.locks.pending three-ok.pending) in
    let a = own-same l h.state t two.pending two.outcomes in
    let was = (λ (k : At). two.put_off k ∙ append-nil (waits k f t l.deferred)) in
    let first = and_then o (λ w. notices.resolving_part w y) in
    let second = and_then first notices.deferred_part in
    record {
      pending = four.pending ∙ three.pending ∙ two.pending;
      outcomes = four.outcomes ∙ three.outcomes ∙ two.outcomes;
      put_off = λ k. four.put_off k ∙ append-nil (waits k f t v.deferred) ∙ three.put_off k ∙ same-waits R f t h.state.deferred l.deferred k (was k);
      answered = about-sent status_in t f second.out.letters (notices.pending_part v y).out.letters
          ∙ ap (λ zs. about status_in t (letters_to f second.out.letters) ++ zs) four.answered
          ∙ append-nil (about status_in t (letters_to f second.out.letters))
          ∙ about-sent status_in t f first.out.letters (notices.deferred_part h.state).out.letters
          ∙ ap (λ zs. zs ++ about status_in t (letters_to f (notices.deferred_part h.state).out.letters)) two.answered ∙ three.answered
          ∙ same-sent R f t h.state.deferred l.deferred (own_at h.state t) (own_at l t) a (was (own_at h.state t));
    }
