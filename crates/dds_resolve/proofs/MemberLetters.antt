use Rattle.std.proofs.Common.{◌≡◌, ℕ, ◌==◌, ◌&&◌, Bool, true, false, List, [], ◌++◌, refl, sym, ap, ◌∙◌, subst, arith}
use Rattle.std.proofs.lemmas.Bool.{and_parts, eqb-true}
use Rattle.std.proofs.lemmas.Bool.Decides.{nat_tests}
use Rattle.dds_base.specs.Number.{Txn, same_txn}
use Rattle.dds_base.specs.declared.node_set.NodeSet.{NodeSet}
use Rattle.dds_brick_rows.specs.Resolution as rows
use Rattle.dds_brick_rows.specs.declared.resolution.News.TheVariants as news
use Rattle.dds_core.proofs.LetterTells.{letter-rests, letter-tells}
use Rattle.dds_core.proofs.Tells.{Who}
use Rattle.dds_core.specs.Brick.{live_brick_turn}
use Rattle.dds_core.specs.Notice as notices
use Rattle.dds_letters.specs.declared.letter.Letter.{Letter}
use Rattle.dds_letters.specs.declared.letter.Letter.TheVariants as letter
use Rattle.dds_net.specs.Net.{Net}
use Rattle.dds_states.specs.declared.brick_state.BrickState.{BrickState}
use Rattle.dds_talk.proofs.Parts.{is-same}
use Rattle.dds_talk.specs.Resolve.{Side, Tell}
use Rattle.dds_talk.specs.Resolve.Tell.{query, outcome}
use Rattle.dds_talk.specs.Seen.{about, of, one, Once}
use Rattle.dds_talk.specs.Table.{At}
use Rattle.dds_resolve.proofs.CallRows.{IsCall, Spares, Untrimmed, call-own, call-plain}
use Rattle.dds_resolve.proofs.MemberSteps.{Bare, outcome-deferred, member-bare, member-calm, member-notice, member-outcome, member-query, member-same}
use Rattle.dds_resolve.proofs.MemberTurns.{Others, help-calm, outcome-calm}
use Rattle.dds_resolve.proofs.MemberAnswers.{query-other}
use Rattle.dds_resolve.proofs.MemberNotices.{frame-calm, hear-calm}
use Rattle.dds_resolve.proofs.ResolverTurns.{outcome-ends}
use Rattle.dds_resolve.proofs.TeamTurns.{not-both}
use Rattle.dds_resolve.proofs.TeamNotices.{NoticeOk}
use Rattle.dds_resolve.proofs.Turned.{Turned}
use Rattle.dds_resolve.specs.Letters.{letters_to}
use Rattle.dds_resolve.specs.Resolved.{Member}
use Rattle.dds_resolve.specs.Resolving.{status_in, tell_in}
use Rattle.dds_resolve.specs.Team.{BrickOk, Ground, LetterOk, Team}

-- A member takes a letter: its conversation with a resolver of an attempt goes on.

pub notice-knows : (s : BrickState) (y : ℕ) → (notices.notice_row s y).state.known ≡ (notices.learns s y).known
notice-knows s y = ap (λ (w : Who). w.known) (letter-tells s y letter.Notice).same

-- what isn't the resolver's comes only where the member isn't ready: a library's prepare, commit or abort, and the outcome of
-- another resolver
abbrev pub Blind : NodeSet → Txn → List ℕ → ℕ → ℕ → Letter → Type 0
Blind known t list f from (letter.Prepare txn caller call below name stamp members op) = same_txn txn t ≡ true → rows.is_ready known t list f ≡ false
Blind known t list f from (letter.Commit txn) = same_txn txn t ≡ true → rows.is_ready known t list f ≡ false
Blind known t list f from (letter.Abort txn) = same_txn txn t ≡ true → rows.is_ready known t list f ≡ false
Blind known t list f from (letter.Outcome txn c) = same_txn txn t ≡ true → (from == f) ≡ false → rows.is_ready known t list f ≡ false
Blind known t list f from other = Unit {0}

-- what is so of the attempt, the resolver and the member
pub record Stands (g : Ground) (t : Txn) (list : List ℕ) (f n from : ℕ) (s : BrickState) (l : Letter) : Type 0 where
  pub ok : BrickOk g n s
  pub others : Others g n t
  pub team : Team g t list f n
  pub apart : (f == n) ≡ false
  pub letter_ok : LetterOk g from n l
  pub notice : NoticeOk g from l
  pub once : Once s.locks.pending
  pub untrimmed : Untrimmed s t l
  pub blind : Blind s.known t list f from l
  pub lives : g.stopped f ≡ false

abbrev pub After : Net → Bool → Txn → List ℕ → ℕ → ℕ → ℕ → BrickState → Letter → Side → List Tell → List At → Type 0
After v d t list f n from s l side cut back =
    Member v d t list f n (live_brick_turn s from l).state side cut (back ++ about status_in t (letters_to f (live_brick_turn s from l).out.letters))

bare-of : {f : ℕ} {t : Txn} {s : BrickState} (from : ℕ) (l : Letter) → IsCall l → Bare f t s (live_brick_turn s from l)
bare-of {f = f} {t = t} {s = s} from l h = let p = call-plain s from l h in record { known = p.known; deferred = p.deferred; silent = p.statuses t f }

-- the letter of a call that may change the attempt
call-if : {w v : Net} {d : Bool} {t : Txn} {list : List ℕ} {f n from : ℕ} {s : BrickState} {rest : List Letter} {side : Side} {cut : List Tell}
    {back : List At} (l : Letter) (x : Txn) (c : Bool) → IsCall l → of t (tell_in l) ≡ [] → (f == n) ≡ false
    → same_txn x t ≡ c → (c ≡ false → Spares t l) → Untrimmed s t l → (c ≡ true → rows.is_ready s.known t list f ≡ false)
    → Turned w v n from s l rest (live_brick_turn s from l) → Member w d t list f n s side cut back → After v d t list f n from s l side cut back
call-if {t = t} {from = from} {s = s} l x true h quiet fn e spares trims unready step c = member-bare step (bare-of from l h) fn (λ i. quiet) (unready refl) c
call-if {t = t} {from = from} {s = s} l x false h quiet fn e spares trims unready step c =
    member-same step (bare-of from l h) (call-own s from l t h (spares refl) trims) fn (λ i. quiet) c

call-same : {w v : Net} {d : Bool} {t : Txn} {list : List ℕ} {f n from : ℕ} {s : BrickState} {rest : List Letter} {side : Side} {cut : List Tell}
    {back : List At} (l : Letter) → IsCall l → of t (tell_in l) ≡ [] → (f == n) ≡ false
    → Spares t l → Untrimmed s t l → Turned w v n from s l rest (live_brick_turn s from l) → Member w d t list f n s side cut back →
    After v d t list f n from s l side cut back
call-same {t = t} {from = from} {s = s} l h quiet fn spares trims step c =
    member-same step (bare-of from l h) (call-own s from l t h spares trims) fn (λ i. quiet) c

-- Query
query-if : {w v : Net} {d : Bool} {list : List ℕ} {n : ℕ} {s : BrickState} {rest : List Letter} {side : Side} {cut : List Tell} {back : List At} (g : Ground)
    (t : Txn) (f from : ℕ) (x : Txn) (lst : List ℕ) (c : Bool) → (from == f && same_txn x t) ≡ c
    → Turned w v n from s (letter.Query x lst) rest (rows.query_row s from x lst) → Team g x lst from n → Team g t list f n → (f == n) ≡ false →
    Member w d t list f n s side cut back
    → After v d t list f n from s (letter.Query x lst) side cut back
query-if {w = w} {v = v} {d = d} {list = list} {n = n} {s = s} {rest = rest} {side = side} {cut = cut} {back = back} g t f from x lst true e step asker team
    fn c =
    let k = and_parts (from == f) (same_txn x t) e in
    let ff : from ≡ f = eqb-true from f k.0 in
    let xt : x ≡ t = is-same x t k.1 in
    let same : lst ≡ list = sym asker.members.listed ∙ ap g.list xt ∙ team.members.listed in
    subst (λ i. Turned w v n i s (letter.Query x lst) rest (rows.query_row s i x lst) → After v d t list f n i s (letter.Query x lst) side cut back) (sym ff)
    (subst (λ y. Turned w v n f s (letter.Query y lst) rest (rows.query_row s f y lst) → After v d t list f n f s (letter.Query y lst) side cut back) (sym xt)
    (subst (λ ys. Turned w v n f s (letter.Query t ys) rest (rows.query_row s f t ys) → After v d t list f n f s (letter.Query t ys) side cut back) (sym same)
    (λ st. member-query g st team fn c))) step
query-if {s = s} g t f from x lst false e step asker team fn c =
    member-calm step (query-other s from x lst e) fn (λ i. ap (λ b. one b query) (other (from == f) (same_txn x t) (swap f from i) e)) c
  where
    swap : (a b : ℕ) → (a == b) ≡ true → (b == a) ≡ true
    swap a b h = grind (arith, nat_tests, h)

    other : (a b : Bool) → a ≡ true → (a && b) ≡ false → b ≡ false
    other true b h k = k
    other false b h k = cc

-- Outcome
outcome-if : {w v : Net} {d : Bool} {list : List ℕ} {n : ℕ} {s : BrickState} {rest : List Letter} {side : Side} {cut : List Tell} {back : List At} (t : Txn)
    (f from : ℕ) (x : Txn) (o a b : Bool) → same_txn x t ≡ a → (from == f) ≡ b
    → Turned w v n from s (letter.Outcome x o) rest (rows.outcome_row s x o) → Once s.locks.pending → (f == n) ≡ false →
    Blind s.known t list f from (letter.Outcome x o) → Member w d t list f n s side cut back
    → After v d t list f n from s (letter.Outcome x o) side cut back
outcome-if {s = s} t f from x o false b e i step once fn blind c = member-calm step (outcome-calm s x o e) fn (λ k. ap (λ y. one y (outcome o)) e) c
outcome-if {w = w} {v = v} {d = d} {list = list} {n = n} {s = s} {rest = rest} {side = side} {cut = cut} {back = back} t f from x o true true e i step once fn
    blind c =
    subst (λ j. Turned w v n j s (letter.Outcome x o) rest (rows.outcome_row s x o) → After v d t list f n j s (letter.Outcome x o) side cut back)
    (sym (eqb-true from f i))
    (subst (λ y. Turned w v n f s (letter.Outcome y o) rest (rows.outcome_row s y o) → After v d t list f n f s (letter.Outcome y o) side cut back)
    (sym (is-same x t e)) (λ st. (member-outcome st once fn c).0)) step
outcome-if {s = s} t f from x o true false e i step once fn blind c =
    let ends = outcome-ends s x o in
    member-bare step (record { known = ends.known; deferred = outcome-deferred s x o; silent = ap (λ ls. about status_in t (letters_to f ls)) ends.letters })
    fn (λ k. absurd (not-both (from == f) (swap f from k) i)) (blind e i) c
  where
    swap : (a b : ℕ) → (a == b) ≡ true → (b == a) ≡ true
    swap a b h = grind (arith, nat_tests, h)

-- each letter
pub member-letter : {w v : Net} {d : Bool} {t : Txn} {list : List ℕ} {f n : ℕ} {s : BrickState} {rest : List Letter} {side : Side} {cut : List Tell}
    {back : List At} (g : Ground) (from : ℕ) (l : Letter) → Stands g t list f n from s l
    → Turned w v n from s l rest (live_brick_turn s from l) → Member w d t list f n s side cut back → After v d t list f n from s l side cut back
member-letter {t = t} g from (letter.Get txn caller call key name stamp) h step c =
    call-same (letter.Get txn caller call key name stamp) tt refl h.apart tt tt step c
member-letter {t = t} g from (letter.Prepare txn caller call below name stamp members op) h step c =
    call-if (letter.Prepare txn caller call below name stamp members op) txn (same_txn txn t) tt refl h.apart refl (λ e. e) h.untrimmed h.blind step c
member-letter {t = t} g from (letter.Commit txn) h step c = call-if (letter.Commit txn) txn (same_txn txn t) tt refl h.apart refl (λ e. e) tt h.blind step c
member-letter {t = t} g from (letter.Abort txn) h step c = call-if (letter.Abort txn) txn (same_txn txn t) tt refl h.apart refl (λ e. e) tt h.blind step c
member-letter g from (letter.MapAsk txn caller call key) h step c = call-same (letter.MapAsk txn caller call key) tt refl h.apart tt tt step c
member-letter g from (letter.Got txn a) h step c = call-same (letter.Got txn a) tt refl h.apart tt tt step c
member-letter g from (letter.Vote txn vote) h step c = call-same (letter.Vote txn vote) tt refl h.apart tt tt step c
member-letter g from (letter.Applied txn was) h step c = call-same (letter.Applied txn was) tt refl h.apart tt tt step c
member-letter g from (letter.Aborted txn) h step c = call-same (letter.Aborted txn) tt refl h.apart tt tt step c
member-letter g from (letter.MapTell txn leaf) h step c = call-same (letter.MapTell txn leaf) tt refl h.apart tt tt step c
member-letter {n = n} {s = s} g from (letter.Help txn list) h step c =
    member-calm step (help-calm {g = g} {me = n} s from txn list h.others h.ok h.letter_ok) h.apart (λ e. refl) c
member-letter {t = t} {f = f} {s = s} g from (letter.Query txn lst) h step c =
    query-if g t f from txn lst (from == f && same_txn txn t) refl step h.letter_ok.0 h.team h.apart c
member-letter {n = n} {s = s} g from (letter.Status txn st) h step c =
    member-calm step (hear-calm {g = g} {me = n} s from (news.Told txn st) h.others h.ok) h.apart (λ e. refl) c
member-letter {t = t} {f = f} {s = s} g from (letter.Outcome txn o) h step c =
    outcome-if t f from txn o (same_txn txn t) (from == f) refl refl step h.once h.apart h.blind c
member-letter {s = s} g from letter.Notice h step c =
    member-notice g step h.notice.0 h.notice.1 h.ok h.others h.team.members.listed h.apart (notice-knows s from) c
member-letter {s = s} g from other h step c = member-calm step (frame-calm s (live_brick_turn s from other) (letter-rests s from from other tt)) h.apart
    (λ e. refl) c
