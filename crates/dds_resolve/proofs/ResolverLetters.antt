use Rattle.std.proofs.Common.{◌≡◌, ℕ, ◌<◌, ◌==◌, ◌&&◌, ◌||◌, Bool, true, false, not, List, [], ◌∷◌, ◌++◌, find, Some, None, refl}
use Rattle.std.proofs.Common.{sym, ap, ◌∙◌, subst, arith}
use Rattle.std.proofs.lemmas.Bool.{and_parts, eqb-true}
use Rattle.std.proofs.lemmas.Bool.Decides.{nat_tests}
use Rattle.std.specs.List.{AllByRecursion}
use Rattle.std.specs.Prelude.{if◌then◌else◌}
use Rattle.dds_base.specs.BrickList.{has}
use Rattle.dds_base.specs.NodeSet.{has_node}
use Rattle.dds_base.specs.Number.{Txn, same_txn}
use Rattle.dds_base.specs.declared.node_set.NodeSet.{NodeSet}
use Rattle.dds_base.specs.declared.number.NodeNo.{NodeNo}
use Rattle.dds_base.specs.declared.pending.TxnStatus.{TxnStatus}
use Rattle.dds_brick_rows.specs.Resolution as rows
use Rattle.dds_brick_rows.specs.declared.resolution.News.{News}
use Rattle.dds_brick_rows.specs.declared.resolution.News.TheVariants as news
use Rattle.dds_core.proofs.Known.{has-with}
use Rattle.dds_core.proofs.BrickTells as tells
use Rattle.dds_core.proofs.LetterTells.{Any, Each, letter-rests}
use Rattle.dds_core.proofs.Rests.{Whole}
use Rattle.dds_core.proofs.Tells.{Who}
use Rattle.dds_core.specs.Brick.{live_brick_turn}
use Rattle.dds_core.specs.Notice as notices
use Rattle.dds_groups.proofs.Members.{has-live}
use Rattle.dds_letters.specs.declared.letter.Letter.{Letter}
use Rattle.dds_letters.specs.declared.letter.Letter.TheVariants as letter
use Rattle.dds_net.specs.Net.{Net}
use Rattle.dds_states.specs.Turn.{BrickTurn, unknown, unknown_others}
use Rattle.dds_states.specs.declared.brick_state.BrickState.{BrickState}
use Rattle.dds_states.specs.declared.brick_state.Resolving.{Resolving}
use Rattle.dds_talk.proofs.Letters.{has-without}
use Rattle.dds_talk.proofs.Parts.{is-same, same-self}
use Rattle.dds_talk.proofs.Resolving as moves
use Rattle.dds_talk.specs.Resolve.{Agreed, Resolves}
use Rattle.dds_talk.specs.Seen.{about, Alone, of, one, Once}
use Rattle.dds_talk.specs.Table.{At}
use Rattle.dds_resolve.proofs.CallRows.{IsCall, Spares, Untrimmed, call-own, call-plain}
use Rattle.dds_resolve.proofs.MemberLetters.{Blind, notice-knows}
use Rattle.dds_resolve.proofs.MemberAnswers.{self-number}
use Rattle.dds_resolve.proofs.Ready.{ReadyIn, Readies, once-in}
use Rattle.dds_resolve.proofs.Leaving.{frame-leaves}
use Rattle.dds_resolve.proofs.Hearing.{hear-stage, other-told}
use Rattle.dds_resolve.proofs.ResolverNotices.{alike-of, help-stage, notice-stage}
use Rattle.dds_resolve.proofs.Leaving.{outcome-leaves, query-leaves, stage-leaves}
use Rattle.dds_resolve.proofs.Hearing.{status-told}
use Rattle.dds_resolve.proofs.ResolverSteps.{Going, Seating, back_of, going, others-there, rebased, round, starts}
use Rattle.dds_resolve.proofs.ResolverTurns.{Aside, outcome-ends, talking-aside}
use Rattle.dds_resolve.proofs.ResolverStages.{Stage, talking-same}
use Rattle.dds_resolve.proofs.Seats.{Seated, is_seated, seat-agreed, seat-heard, seat-now, seat-same, seat_of}
use Rattle.dds_resolve.proofs.TeamTurns.{not-both}
use Rattle.dds_resolve.proofs.TeamNotices.{NoticeOk}
use Rattle.dds_resolve.proofs.Turned.{Turned}
use Rattle.dds_resolve.specs.Conversations.{RoundOk, SeenOk, Talking}
use Rattle.dds_resolve.specs.Letters.{letters_to}
use Rattle.dds_resolve.specs.Resolved.{Pair}
use Rattle.dds_resolve.specs.Resolving.{own_at, side, status_at, status_in, tell_in}
use Rattle.dds_resolve.specs.Team.{BrickOk, Ground, LetterOk, ResolvingOk, Team}

-- An attempt's resolver takes a letter: its conversations about it go on.

-- a letter at which nothing is decided
abbrev pub Settling : Letter → Type 0
Settling (letter.Outcome txn c) = Unit {0}
Settling other = IsCall other

-- what is so of the attempt and its resolver
pub record Resolver (w v : Net) (g : Ground) (d : Bool) (t : Txn) (n from : ℕ) (s : BrickState) (l : Letter) (rest : List Letter) : Type 0 where
  pub step : Turned w v n from s l rest (live_brick_turn s from l)
  pub team : Team g t (g.list t) n n
  pub ok : BrickOk g n s
  pub readies : Readies s.known n s
  pub alone : (known : NodeSet) → Alone (unknown_others (g.list t) n known)
  pub seats : Seating w d t (g.list t) n s
  pub there : (m : ℕ) (y : BrickState) → Pair w g.list t n m s y → is_seated (seats m) ≡ true
  pub own : Agreed d (own_at s t)
  pub seen : SeenOk d (g.list t) (own_at s t) (find (rows.is_of t) s.resolving)
  pub once : Once s.locks.pending
  pub letter_ok : LetterOk g from n l
  pub notice : NoticeOk g from l
  pub untrimmed : Untrimmed s t l
  pub blind : Blind s.known t (g.list t) n from l
  pub settled : Settling l → Agreed d (own_at (live_brick_turn s from l).state t)
  pub speaker : (x : Txn) (st : TxnStatus) → l ≡ letter.Status x st → (y : BrickState) × Pair w g.list x n from s y

round-ok : (w v : Net) (d : Bool) (t : Txn) (list : List ℕ) (n : ℕ) (s : BrickState) (known : NodeSet) (q : Seating w d t list n s) →
    Alone (unknown_others list n known) → RoundOk (round w v d t list n s known q)
round-ok w v d t list n s known q alone = record { alone = alone; live = λ m e. (and_parts (is_seated (q m)) (has (unknown_others list n known) m) e).1 }

-- who sits there is another node, that isn't known
apart-from : (list : List ℕ) (n : ℕ) (known : NodeSet) (m : ℕ) → has (unknown_others list n known) m ≡ true → ((m == n) ≡ false) × (has_node known m ≡ false)
apart-from list n known m e =
    let k = and_parts (has (unknown list known) m) (not (m == n)) (sym (has-without (unknown list known) n m) ∙ e) in
    let j = and_parts (has list m) (not (has_node known m)) (sym (has-live list (has_node known) m) ∙ k.0) in
    (not-true (m == n) k.1, not-true (has_node known m) j.1)
  where
    not-true : (b : Bool) → not b ≡ true → b ≡ false
    not-true true e = cc
    not-true false e = refl

-- what is on its way back, where the letter isn't a status of the attempt
back-same : {w v : Net} {n from : ℕ} {s : BrickState} {l : Letter} {rest : List Letter} {r : BrickTurn} (t : Txn) (m : ℕ) → Turned w v n from s l rest r →
    (m == n) ≡ false → of t (status_in l) ≡ []
    → about status_in t (w.channel m n) ≡ about status_in t (v.channel m n)
back-same {w = w} {v = v} {n = n} {from = from} {rest = rest} t m step mn quiet = pick (m == from) refl
  where
    pick : (c : Bool) → (m == from) ≡ c → about status_in t (w.channel m n) ≡ about status_in t (v.channel m n)
    pick true e = ap (λ i. about status_in t (w.channel i n)) (eqb-true m from e) ∙ ap (about status_in t) step.first
        ∙ ap (λ xs. xs ++ about status_in t rest) quiet
        ∙ sym (ap (about status_in t) (step.to m mn ∙ ap (λ b. if b then rest else w.channel m n) e))
    pick false e = sym (ap (about status_in t) (step.to m mn ∙ ap (λ b. if b then rest else w.channel m n) e))

-- the beginning of a turn at a letter that isn't a status of the attempt
begin : {w v : Net} {g : Ground} {d : Bool} {t : Txn} {n from : ℕ} {s : BrickState} {l : Letter} {rest : List Letter} (h : Resolver w v g d t n from s l rest)
    (u : BrickState) (known : NodeSet) → of t (status_in l) ≡ []
    → Agreed d (own_at u t) → SeenOk d (g.list t) (own_at u t) (find (rows.is_of t) s.resolving) → u.number ≡ n → u.known ≡ known
    → Talking (round w v d t (g.list t) n s known h.seats) d (find (rows.is_of t) s.resolving) u []
begin {w = w} {v = v} {g = g} {d = d} {t = t} {n = n} {s = s} h u known quiet own seen number knows =
    let z = round w v d t (g.list t) n s known h.seats in
    rebased z (back_of w d t (g.list t) n s h.seats) z.back (find (rows.is_of t) s.resolving) u []
    (λ m i. seat-same (about status_in t (w.channel m n)) (about status_in t (v.channel m n)) (h.seats m)
    (back-same t m h.step (apart-from (g.list t) n known m (and_parts (is_seated (h.seats m)) (has (unknown_others (g.list t) n known) m) i).1).0
    quiet))
    (starts w v d t (g.list t) n s u known h.seats own seen number knows)

stage-of : {w v : Net} {g : Ground} {d : Bool} {t : Txn} {n from : ℕ} {s : BrickState} {l : Letter} {rest : List Letter}
    (h : Resolver w v g d t n from s l rest) → of t (status_in l) ≡ [] → Stage (round w v d t (g.list t) n s s.known h.seats) s []
stage-of {d = d} {s = s} h quiet = record { decided = d; now = begin h s s.known quiet h.own h.seen h.readies.number refl; once = h.once }

ends-with : {w v : Net} {g : Ground} {d : Bool} {t : Txn} {n from : ℕ} {s : BrickState} {l : Letter} {rest : List Letter}
    (h : Resolver w v g d t n from s l rest) (known : NodeSet) → (live_brick_turn s from l).state.known ≡ known
    → Stage (round w v d t (g.list t) n s known h.seats) (live_brick_turn s from l).state (live_brick_turn s from l).out.letters →
    Going w v g.list t n s (live_brick_turn s from l) d
ends-with {w = w} {v = v} {g = g} {d = d} {t = t} {n = n} {from = from} {s = s} {l = l} {rest = rest} h known knows stage =
    going w v g.list d t n from s l rest (live_brick_turn s from l) known h.seats h.there knows h.step stage.decided stage.now

-- a resolver that isn't ready resolves nothing of it
none-ready : (g : Ground) (t : Txn) (n : ℕ) (known : NodeSet) (rs : List Resolving) → AllByRecursion (ReadyIn known n) rs →
    AllByRecursion (ResolvingOk g n) rs → rows.is_ready known t (g.list t) n ≡ false → find (rows.is_of t) rs ≡ None
none-ready g t n known [] a b e = refl
none-ready g t n known (r ∷ rs) a b e = pick (rows.is_of t r) refl (none-ready g t n known rs a.1 b.1 e)
  where
    pick : (c : Bool) → rows.is_of t r ≡ c → find (rows.is_of t) rs ≡ None → (if c then Some r else find (rows.is_of t) rs) ≡ None
    pick true i k =
        let rt : r.txn ≡ t = is-same r.txn t i in
        let same : r.list ≡ g.list t = sym b.0.members.listed ∙ ap g.list rt in
        absurd (not-both (rows.is_ready known t (g.list t) n) (ap (λ x. rows.is_ready known x (g.list t) n) (sym rt)
        ∙ ap (λ x. rows.is_ready known r.txn x n) (sym same) ∙ a.0) e)
    pick false i k = k

unready-seen : {w v : Net} {g : Ground} {d : Bool} {t : Txn} {n from : ℕ} {s : BrickState} {l : Letter} {rest : List Letter}
    (h : Resolver w v g d t n from s l rest) (a : At) → rows.is_ready s.known t (g.list t) n ≡ false → SeenOk d (g.list t) a (find (rows.is_of t) s.resolving)
unready-seen {g = g} {d = d} {t = t} {n = n} {s = s} h a e =
    subst (SeenOk d (g.list t) a) (sym (none-ready g t n s.known s.resolving h.readies.ready h.ok.resolving e)) tt

-- a turn that leaves resolving alone
alone-goes : {w v : Net} {g : Ground} {d : Bool} {t : Txn} {n from : ℕ} {s : BrickState} {l : Letter} {rest : List Letter}
    (h : Resolver w v g d t n from s l rest) → Settling l → of t (status_in l) ≡ []
    → (live_brick_turn s from l).state.known ≡ s.known → (live_brick_turn s from l).state.number ≡ s.number →
    (live_brick_turn s from l).state.resolving ≡ s.resolving → ((m : ℕ) → about tell_in t (letters_to m (live_brick_turn s from l).out.letters) ≡ [])
    → SeenOk d (g.list t) (own_at (live_brick_turn s from l).state t) (find (rows.is_of t) s.resolving) → Going w v g.list t n s (live_brick_turn s from l) d
alone-goes {w = w} {v = v} {g = g} {d = d} {t = t} {n = n} {from = from} {s = s} {l = l} {rest = rest} h k quiet known number resolving silent seen =
    let r = live_brick_turn s from l in
    let z = round w v d t (g.list t) n s s.known h.seats in
    let start = begin h r.state s.known quiet (h.settled k) seen (number ∙ h.readies.number) known in
    let same : find (rows.is_of t) s.resolving ≡ find (rows.is_of t) r.state.resolving = ap (find (rows.is_of t)) (sym resolving) in
    let aside : Aside t r.state r = record { own = refl; number = refl; known = refl; found = refl; silent = silent } in
    going w v g.list d t n from s l rest r s.known h.seats h.there known h.step d
    (talking-same z _ _ r.state r.state r.out.letters same refl refl refl (talking-aside z _ r.state r [] aside start))

settling : (l : Letter) → IsCall l → Settling l
settling (letter.Outcome txn c) h = tt
settling other h = h

call-if : {w v : Net} {g : Ground} {d : Bool} {t : Txn} {n from : ℕ} {s : BrickState} {rest : List Letter} (l : Letter) (x : Txn) (c : Bool)
    (h : Resolver w v g d t n from s l rest) → IsCall l → of t (status_in l) ≡ [] → same_txn x t ≡ c → (c ≡ false → Spares t l)
    → (c ≡ true → rows.is_ready s.known t (g.list t) n ≡ false) → Going w v g.list t n s (live_brick_turn s from l) d
call-if {t = t} {from = from} {s = s} l x true h i quiet e spares unready =
    let p = call-plain s from l i in alone-goes h (settling l i) quiet p.known p.number p.resolving (p.tells t)
    (unready-seen h (own_at (live_brick_turn s from l).state t) (unready refl))
call-if {g = g} {d = d} {t = t} {from = from} {s = s} l x false h i quiet e spares unready =
    let p = call-plain s from l i in
    alone-goes h (settling l i) quiet p.known p.number p.resolving (p.tells t)
    (subst (λ a. SeenOk d (g.list t) a (find (rows.is_of t) s.resolving)) (sym (call-own s from l t i (spares refl) h.untrimmed)) h.seen)

call-same : {w v : Net} {g : Ground} {d : Bool} {t : Txn} {n from : ℕ} {s : BrickState} {rest : List Letter} (l : Letter)
    (h : Resolver w v g d t n from s l rest) → IsCall l → of t (status_in l) ≡ [] → Spares t l → Going w v g.list t n s (live_brick_turn s from l) d
call-same {g = g} {d = d} {t = t} {from = from} {s = s} l h i quiet spares =
    let p = call-plain s from l i in
    alone-goes h (settling l i) quiet p.known p.number p.resolving (p.tells t)
    (subst (λ a. SeenOk d (g.list t) a (find (rows.is_of t) s.resolving)) (sym (call-own s from l t i spares h.untrimmed)) h.seen)

-- Outcome
outcome-if : {w v : Net} {g : Ground} {d : Bool} {t : Txn} {n from : ℕ} {s : BrickState} {rest : List Letter} (x : Txn) (o c : Bool)
    (h : Resolver w v g d t n from s (letter.Outcome x o) rest) → same_txn x t ≡ c → Going w v g.list t n s (rows.outcome_row s x o) d
outcome-if {w = w} {v = v} {g = g} {d = d} {t = t} {n = n} {s = s} x o false h e =
    let z = round w v d t (g.list t) n s s.known h.seats in
    ends-with h s.known (outcome-ends s x o).known (stage-leaves z s (rows.outcome_row s x o) [] (outcome-leaves s x o e) (stage-of h refl))
outcome-if {t = t} {s = s} x o true h e =
    let k = outcome-ends s x o in
    alone-goes h tt refl k.known k.number k.resolving (λ m. ap (λ ls. about tell_in t (letters_to m ls)) k.letters)
    (unready-seen h (own_at (rows.outcome_row s x o).state t) (h.blind e h.letter_ok.apart))

-- Status
hear-knows : (s : BrickState) (from : NodeNo) (n : News) → (rows.all_hear s from n).state.known ≡ s.known
hear-knows s from n = ap (λ (w : Who). w.known) (tells.all_hear {L = Any} {M = Each} s from n).same

came-if : {w v : Net} {d : Bool} {t : Txn} {list : List ℕ} {n from : ℕ} {s : BrickState} {l : Letter} {rest : List Letter} {r : BrickTurn} (x : At) (m : ℕ)
    (q : Seated w d t list n m s) (c : Bool) → Turned w v n from s l rest r → (m == from) ≡ c
    → about status_in t (w.channel from n) ≡ x ∷ about status_in t (v.channel from n) → (m == n) ≡ false
    → (seat_of (about status_in t (w.channel m n)) q).back
    ≡ (if c then x ∷ (seat_of (about status_in t (v.channel m n)) q).back else (seat_of (about status_in t (v.channel m n)) q).back)
came-if {w = w} {v = v} {t = t} {n = n} {from = from} {rest = rest} x m q true step e first mn =
    seat-heard (about status_in t (w.channel m n)) (about status_in t (v.channel m n)) x q
    (subst (λ i. about status_in t (w.channel i n) ≡ x ∷ about status_in t (v.channel i n)) (sym (eqb-true m from e)) first)
came-if {w = w} {v = v} {t = t} {n = n} {from = from} {rest = rest} x m q false step e first mn =
    seat-same (about status_in t (w.channel m n)) (about status_in t (v.channel m n)) q
    (sym (ap (about status_in t) (step.to m mn ∙ ap (λ b. if b then rest else w.channel m n) e)))

status-mine : {w v : Net} {g : Ground} {d : Bool} {t : Txn} {n from : ℕ} {s : BrickState} {rest : List Letter} (st : TxnStatus)
    (h : Resolver w v g d t n from s (letter.Status t st) rest) → Going w v g.list t n s (rows.status_row s from t st) d
status-mine {w = w} {v = v} {g = g} {d = d} {t = t} {n = n} {from = from} {s = s} {rest = rest} st h =
    let z = round w v d t (g.list t) n s s.known h.seats in
    let y = h.speaker t st refl in
    let apart : (from == n) ≡ false = swap n from h.letter_ok.apart in
    let sits = h.there from y.0 y.1 in
    let lives : z.live from ≡ true = both (is_seated (h.seats from)) (has (unknown_others (g.list t) n s.known) from) sits
    (others-there (g.list t) n s.known from y.1.in_list apart y.1.unknown) in
    let first : about status_in t (w.channel from n) ≡ status_at st ∷ about status_in t (v.channel from n) = ap (about status_in t) h.step.first
    ∙ ap (λ b. one b (status_at st) ++ about status_in t rest) (same-self t)
    ∙ ap (λ xs. status_at st ∷ xs) (sym (ap (about status_in t) (h.step.to from apart ∙ ap (λ b. if b then rest else w.channel from n) (self-number from)))) in
    let now = seat-now (about status_in t (v.channel from n)) (h.seats from) sits in
    let heard = moves.hears false false (subst
    (λ bs. Resolves d (side s t from) ((seat_of (about status_in t (v.channel from n)) (h.seats from)).to ++ [])
    (seat_of (about status_in t (v.channel from n)) (h.seats from)).put_off
    (seat_of (about status_in t (v.channel from n)) (h.seats from)).ready (seat_of (about status_in t (v.channel from n)) (h.seats from)).at bs)
    (seat-heard (about status_in t (w.channel from n)) (about status_in t (v.channel from n)) (status_at st) (h.seats from) first) now) in
    let agreed : Agreed d (status_at st) = subst (Agreed d) (sym heard.2) (seat-agreed (about status_in t (v.channel from n)) (h.seats from) sits) in
    let back = (λ (m : ℕ). if m == from then status_at st ∷ z.back m else z.back m) in
    let start = rebased z (back_of w d t (g.list t) n s h.seats) back (find (rows.is_of t) s.resolving) s []
    (λ m i. came-if (status_at st) m (h.seats m) (m == from) h.step refl first
    (apart-from (g.list t) n s.known m (and_parts (is_seated (h.seats m)) (has (unknown_others (g.list t) n s.known) m) i).1).0)
    (starts w v d t (g.list t) n s s s.known h.seats h.own h.seen h.readies.number refl) in
    let stage = hear-stage back z s from (news.Told t st) [] (round-ok w v d t (g.list t) n s s.known h.seats (h.alone s.known))
    (status-told z from st lives agreed) (once-in t s.resolving h.readies.once) h.once start in
    ends-with h s.known (hear-knows s from (news.Told t st)) stage
  where
    both : (a b : Bool) → a ≡ true → b ≡ true → (a && b) ≡ true
    both true b i j = j
    both false b i j = cc

    swap : (a b : ℕ) → (a == b) ≡ false → (b == a) ≡ false
    swap a b e = grind (arith, nat_tests, e)

status-if : {w v : Net} {g : Ground} {d : Bool} {t : Txn} {n from : ℕ} {s : BrickState} {rest : List Letter} (x : Txn) (st : TxnStatus) (c : Bool)
    (h : Resolver w v g d t n from s (letter.Status x st) rest) → same_txn x t ≡ c → Going w v g.list t n s (rows.status_row s from x st) d
status-if {w = w} {v = v} {g = g} {d = d} {t = t} {n = n} {from = from} {s = s} {rest = rest} x st true h e =
    subst (λ y. Resolver w v g d t n from s (letter.Status y st) rest → Going w v g.list t n s (rows.status_row s from y st) d) (sym (is-same x t e))
    (λ k. status-mine st k) h
status-if {w = w} {v = v} {g = g} {d = d} {t = t} {n = n} {from = from} {s = s} x st false h e =
    let z = round w v d t (g.list t) n s s.known h.seats in
    ends-with h s.known (hear-knows s from (news.Told x st))
    (hear-stage z.back z s from (news.Told x st) [] (round-ok w v d t (g.list t) n s s.known h.seats (h.alone s.known)) (other-told z from x st e)
    (once-in t s.resolving h.readies.once) h.once
    (begin h s s.known (ap (λ b. one b (status_at st)) e) h.own h.seen h.readies.number refl))

-- Notice
learnt : (s : BrickState) (y m : ℕ) → y < 80 → has_node (notices.learns s y).known m ≡ false → (m == y) ≡ false
learnt s y m low e = pick (m == y) (sym (has-with s.known y m low) ∙ e)
  where
    pick : (c : Bool) → (c || has_node s.known m) ≡ false → c ≡ false
    pick true k = cc
    pick false k = refl

notice-goes : {w v : Net} {g : Ground} {d : Bool} {t : Txn} {n from : ℕ} {s : BrickState} {rest : List Letter}
    (h : Resolver w v g d t n from s letter.Notice rest) → Going w v g.list t n s (notices.notice_row s from) d
notice-goes {w = w} {v = v} {g = g} {d = d} {t = t} {n = n} {from = from} {s = s} h =
    let l = notices.learns s from in
    let z = round w v d t (g.list t) n s l.known h.seats in
    ends-with h l.known (notice-knows s from)
    (notice-stage z g n s from (round-ok w v d t (g.list t) n s l.known h.seats (h.alone l.known)) h.notice.0 h.notice.1 refl
    (λ m i. learnt s from m h.notice.0 (apart-from (g.list t) n l.known m
    (and_parts (is_seated (h.seats m)) (has (unknown_others (g.list t) n l.known) m) i).1).1) h.ok (once-in t s.resolving h.readies.once) h.once
    (begin h l l.known refl h.own h.seen h.readies.number refl))

-- each letter
pub resolver-letter : {w v : Net} {g : Ground} {d : Bool} {t : Txn} {n from : ℕ} {s : BrickState} {rest : List Letter} (l : Letter) →
    Resolver w v g d t n from s l rest → Going w v g.list t n s (live_brick_turn s from l) d
resolver-letter {t = t} (letter.Get txn caller call key name stamp) h = call-same (letter.Get txn caller call key name stamp) h tt refl tt
resolver-letter {t = t} (letter.Prepare txn caller call below name stamp members op) h =
    call-if (letter.Prepare txn caller call below name stamp members op) txn (same_txn txn t) h tt refl refl (λ e. e) h.blind
resolver-letter {t = t} (letter.Commit txn) h = call-if (letter.Commit txn) txn (same_txn txn t) h tt refl refl (λ e. e) h.blind
resolver-letter {t = t} (letter.Abort txn) h = call-if (letter.Abort txn) txn (same_txn txn t) h tt refl refl (λ e. e) h.blind
resolver-letter (letter.MapAsk txn caller call key) h = call-same (letter.MapAsk txn caller call key) h tt refl tt
resolver-letter (letter.Got txn a) h = call-same (letter.Got txn a) h tt refl tt
resolver-letter (letter.Vote txn vote) h = call-same (letter.Vote txn vote) h tt refl tt
resolver-letter (letter.Applied txn was) h = call-same (letter.Applied txn was) h tt refl tt
resolver-letter (letter.Aborted txn) h = call-same (letter.Aborted txn) h tt refl tt
resolver-letter (letter.MapTell txn leaf) h = call-same (letter.MapTell txn leaf) h tt refl tt
resolver-letter {w = w} {v = v} {g = g} {d = d} {t = t} {n = n} {from = from} {s = s} (letter.Help txn list) h =
    let z = round w v d t (g.list t) n s s.known h.seats in
    ends-with h s.known (ap (λ (w : Who). w.known) (tells.help_row {L = Any} {M = Each} s from txn list).same)
    (help-stage z s from txn list [] (round-ok w v d t (g.list t) n s s.known h.seats (h.alone s.known))
    (alike-of z g txn list refl h.letter_ok.members.listed) (stage-of h refl))
resolver-letter {w = w} {v = v} {g = g} {d = d} {t = t} {n = n} {from = from} {s = s} (letter.Query txn list) h =
    let z = round w v d t (g.list t) n s s.known h.seats in
    ends-with h s.known (ap (λ (w : Who). w.known) (tells.query_row {L = Any} {M = Each} s from txn list).same)
    (stage-leaves z s (rows.query_row s from txn list) [] (query-leaves s from txn list) (stage-of h refl))
resolver-letter {t = t} (letter.Status txn st) h = status-if txn st (same_txn txn t) h refl
resolver-letter {t = t} (letter.Outcome txn o) h = outcome-if txn o (same_txn txn t) h refl
resolver-letter letter.Notice h = notice-goes h
resolver-letter {w = w} {v = v} {g = g} {d = d} {t = t} {n = n} {from = from} {s = s} other h =
    let z = round w v d t (g.list t) n s s.known h.seats in
    let k = letter-rests s from from other tt in
    ends-with h s.known (ap (λ (w : Whole). w.who.known) k.same)
    (stage-leaves z s (live_brick_turn s from other) [] (frame-leaves s (live_brick_turn s from other) k) (stage-of h refl))
