use Rattle.std.proofs.Common.{◌≡◌, ℕ, ◌⊎◌, inl, inr, Bool, true, false, refl, sym, ap, ◌∙◌, subst}
use Rattle.std.specs.FinMap.{get}
use Rattle.dds_base.specs.Number.{Txn, same_txn}
use Rattle.dds_base.specs.declared.node_set.NodeSet.{NodeSet}
use Rattle.dds_base.specs.declared.number.NodeNo.{NodeNo}
use Rattle.dds_brick_rows.specs.Resolution as rows
use Rattle.dds_brick_rows.specs.declared.resolution.News.TheVariants as news
use Rattle.dds_core.proofs.LetterTells.{letter-rests, letter-tells}
use Rattle.dds_core.proofs.Rests.{Whole}
use Rattle.dds_core.proofs.Tells.{Who}
use Rattle.dds_core.specs.Brick.{live_brick_turn}
use Rattle.dds_core.specs.Notice as notices
use Rattle.dds_letters.specs.declared.letter.Letter.{Letter}
use Rattle.dds_letters.specs.declared.letter.Letter.TheVariants as letter
use Rattle.dds_states.specs.declared.brick_state.BrickState.{BrickState}
use Rattle.dds_talk.proofs.Parts.{is-same}
use Rattle.dds_talk.specs.Resolve.{Agreed}
use Rattle.dds_talk.specs.Seen.{is_pending}
use Rattle.dds_resolve.proofs.Idle.{Idle, idle-hear, idle-help, idle-notice}
use Rattle.dds_resolve.proofs.MemberAnswers.{query-treats}
use Rattle.dds_resolve.proofs.MemberTurns.{own-same}
use Rattle.dds_resolve.proofs.OneResolver.{NoTeam, team-or}
use Rattle.dds_resolve.proofs.Ready.{Readies}
use Rattle.dds_resolve.proofs.ResolverLetters.{Settling}
use Rattle.dds_resolve.proofs.TeamNotices.{NoticeOk}
use Rattle.dds_resolve.proofs.TeamTurns.{not-both}
use Rattle.dds_resolve.specs.Resolving.{own_at}
use Rattle.dds_resolve.specs.Team.{BrickOk, Ground, LetterOk, Team}

-- Who decides an attempt: a brick that isn't its resolver, or isn't ready, leaves it alone at Help, Query, Status and Notice.

-- what it knows in its turn
abbrev pub knowing : BrickState → NodeNo → Letter → NodeSet
knowing s from letter.Notice = (notices.learns s from).known
knowing s from other = s.known

pub known-is : (s : BrickState) (from : NodeNo) (l : Letter) → (live_brick_turn s from l).state.known ≡ knowing s from l
known-is s from letter.Notice = ap (λ (w : Who). w.known) (letter-tells s from letter.Notice).same
known-is s from other = ap (λ (w : Who). w.known) (letter-tells s from other).same

pub no-team-idle : (g : Ground) (known : NodeSet) (me : ℕ) (t : Txn) → NoTeam g t me → Idle g known me t
no-team-idle g known me t none x list team ready = pick (same_txn x t) refl
  where
    pick : (c : Bool) → same_txn x t ≡ c → same_txn x t ≡ false
    pick true e = absurd (none list me (subst (λ v. Team g v list me me) (is-same x t e) team))
    pick false e = e

pub unready-idle : (g : Ground) (known : NodeSet) (me : ℕ) (t : Txn) → rows.is_ready known t (g.list t) me ≡ false → Idle g known me t
unready-idle g known me t unready x list team ready = pick (same_txn x t) refl
  where
    pick : (c : Bool) → same_txn x t ≡ c → same_txn x t ≡ false
    pick true e =
        let is : rows.is_ready known x list me ≡ rows.is_ready known t (g.list t) me =
        ap (λ v. rows.is_ready known x v me) (sym team.members.listed) ∙ ap (λ y. rows.is_ready known y (g.list y) me) (is-same x t e) in
        absurd (not-both (rows.is_ready known t (g.list t) me) (sym is ∙ ready) unready)
    pick false e = e

-- a letter at which a brick may decide
abbrev pub MayDecide : Letter → Type 0
MayDecide (letter.Help txn list) = Unit {0}
MayDecide (letter.Query txn list) = Unit {0}
MayDecide (letter.Status txn status) = Unit {0}
MayDecide letter.Notice = Unit {0}
MayDecide other = ⊥

pub record Same (s u : BrickState) (t : Txn) : Type 0 where
  pub pending : is_pending u.locks.pending t ≡ is_pending s.locks.pending t
  pub outcomes : get u.locks.outcomes t ≡ get s.locks.outcomes t

pub idle-same : {g : Ground} {n : ℕ} {s : BrickState} (from : ℕ) (l : Letter) → MayDecide l → BrickOk g n s → Readies s.known n s → LetterOk g from n l →
    NoticeOk g from l → (t : Txn) → Idle g (knowing s from l) n t → Same s (live_brick_turn s from l).state t
idle-same {g = g} {n = n} {s = s} from (letter.Help x list) may ok readies placed notice t idle =
    let k = idle-help {g = g} {me = n} {f = 0} {t = t} s.known s from x list idle ok readies placed in
    record { pending = k.pending; outcomes = k.outcomes }
idle-same {g = g} {n = n} {s = s} from (letter.Query x list) may ok readies placed notice t idle =
    let k = query-treats {g = g} {me = n} {f = 0} {t = t} (rows.is_ready s.known t (g.list t) 0) s from x list (g.list t) refl refl placed.0 in
    record { pending = k.pending; outcomes = k.outcomes }
idle-same {g = g} {n = n} {s = s} from (letter.Status x st) may ok readies placed notice t idle =
    let k = idle-hear {g = g} {me = n} {f = 0} {t = t} s.known s from (news.Told x st) idle ok readies in
    record { pending = k.pending; outcomes = k.outcomes }
idle-same {g = g} {n = n} {s = s} from letter.Notice may ok readies placed notice t idle =
    let k = idle-notice {g = g} {me = n} {f = 0} {t = t} (rows.is_ready (notices.learns s from).known t (g.list t) 0) s from (g.list t) notice.0 notice.1 ok
    readies idle refl refl in
    record { pending = k.pending; outcomes = k.outcomes }
idle-same from other may ok readies placed notice t idle = absurd may

-- so it fits after its turn what was decided before
same-own : {s u : BrickState} (d : Bool) (t : Txn) → Same s u t → Agreed d (own_at s t) → Agreed d (own_at u t)
same-own {s = s} {u = u} d t k h = subst (Agreed d) (sym (own-same s u t k.pending k.outcomes)) h

decide-own : {g : Ground} {n : ℕ} {s : BrickState} (d : Bool) (from : ℕ) (l : Letter) → MayDecide l → BrickOk g n s → Readies s.known n s →
    LetterOk g from n l → NoticeOk g from l → (t : Txn) → Agreed d (own_at s t) → Idle g (knowing s from l) n t →
    Agreed d (own_at (live_brick_turn s from l).state t)
decide-own d from l may ok readies placed notice t agreed idle = same-own d t (idle-same from l may ok readies placed notice t idle) agreed

pub unready-own : {g : Ground} {n : ℕ} {s : BrickState} (d : Bool) (from : ℕ) (l : Letter) → BrickOk g n s → Readies s.known n s → LetterOk g from n l →
    NoticeOk g from l → (t : Txn) → (Settling l → Agreed d (own_at (live_brick_turn s from l).state t)) → Agreed d (own_at s t) →
    Idle g (knowing s from l) n t → Agreed d (own_at (live_brick_turn s from l).state t)
unready-own d from (letter.Get txn caller call key name stamp) ok readies placed notice t settled agreed idle = settled tt
unready-own d from (letter.Prepare txn caller call below name stamp list op) ok readies placed notice t settled agreed idle = settled tt
unready-own d from (letter.Commit txn) ok readies placed notice t settled agreed idle = settled tt
unready-own d from (letter.Abort txn) ok readies placed notice t settled agreed idle = settled tt
unready-own d from (letter.MapAsk txn caller call key) ok readies placed notice t settled agreed idle = settled tt
unready-own d from (letter.Got txn a) ok readies placed notice t settled agreed idle = settled tt
unready-own d from (letter.Vote txn vote) ok readies placed notice t settled agreed idle = settled tt
unready-own d from (letter.Applied txn was) ok readies placed notice t settled agreed idle = settled tt
unready-own d from (letter.Aborted txn) ok readies placed notice t settled agreed idle = settled tt
unready-own d from (letter.MapTell txn leaf) ok readies placed notice t settled agreed idle = settled tt
unready-own d from (letter.Outcome txn c) ok readies placed notice t settled agreed idle = settled tt
unready-own d from (letter.Help x list) ok readies placed notice t settled agreed idle =
    decide-own d from (letter.Help x list) tt ok readies placed notice t agreed idle
unready-own d from (letter.Query x list) ok readies placed notice t settled agreed idle =
    decide-own d from (letter.Query x list) tt ok readies placed notice t agreed idle
unready-own d from (letter.Status x st) ok readies placed notice t settled agreed idle =
    decide-own d from (letter.Status x st) tt ok readies placed notice t agreed idle
unready-own d from letter.Notice ok readies placed notice t settled agreed idle = decide-own d from letter.Notice tt ok readies placed notice t agreed idle
unready-own {s = s} d from other ok readies placed notice t settled agreed idle =
    let k = letter-rests s from from other tt in
    same-own {s = s} {u = (live_brick_turn s from other).state} d t
    (record { pending = ap (λ (w : Whole). is_pending w.pending t) k.same; outcomes = ap (λ (w : Whole). get w.outcomes t) k.same }) agreed

-- an attempt that ends was the brick's to resolve
pub record Decides (g : Ground) (known : NodeSet) (n : ℕ) (t : Txn) : Type 0 where
  pub team : Team g t (g.list t) n n
  pub ready : rows.is_ready known t (g.list t) n ≡ true

pub who-decides : {g : Ground} {n : ℕ} {s : BrickState} (from : ℕ) (l : Letter) → MayDecide l → BrickOk g n s → Readies s.known n s → LetterOk g from n l →
    NoticeOk g from l → (t : Txn) → is_pending s.locks.pending t ≡ true → is_pending (live_brick_turn s from l).state.locks.pending t ≡ false →
    Decides g (knowing s from l) n t
who-decides {g = g} {n = n} {s = s} from l may ok readies placed notice t p q =
    pick (team-or g t n) (rows.is_ready (knowing s from l) t (g.list t) n) refl
  where
    gone : Idle g (knowing s from l) n t → ⊥
    gone idle = not-both (is_pending s.locks.pending t) p (sym (idle-same from l may ok readies placed notice t idle).pending ∙ q)

    pick : Team g t (g.list t) n n ⊎ NoTeam g t n → (c : Bool) → rows.is_ready (knowing s from l) t (g.list t) n ≡ c → Decides g (knowing s from l) n t
    pick (inl team) true e = record { team = team; ready = e }
    pick (inl team) false e = absurd (gone (unready-idle g (knowing s from l) n t e))
    pick (inr none) c e = absurd (gone (no-team-idle g (knowing s from l) n t none))
