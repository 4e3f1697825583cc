use Rattle.std.proofs.Common.{◌≡◌, ℕ, ◌==◌, ◌<◌, ◌≤◌, Bool, true, false, List, [], ◌∷◌, Some, None, refl, sym, ap, ◌∙◌, subst}
use Rattle.std.proofs.Common.{arith}
use Rattle.std.specs.List.{AllByRecursion}
use Rattle.std.specs.Prelude.{if◌then◌else◌, nat_le}
use Rattle.dds_base.specs.BrickList.{has}
use Rattle.dds_base.specs.NodeSet.{has_node}
use Rattle.dds_base.specs.Number.{Txn, same_txn}
use Rattle.dds_base.specs.declared.number.NodeNo.{NodeNo}
use Rattle.dds_core.proofs.CallTurns.{Concerns, OneKeeps, both-assoc, both-nothing, one_call}
use Rattle.dds_core.proofs.CallTurns.Concerns.{a_notice}
use Rattle.dds_core.specs.LibraryTurn.{at_attempt, attempts, call_row, notice_calls}
use Rattle.dds_letters.specs.declared.letter.Letter.{Letter}
use Rattle.dds_letters.specs.declared.letter.Letter.TheVariants as letter
use Rattle.dds_states.specs.Turn.{both, no_out}
use Rattle.dds_states.specs.declared.library_state.LibraryState.{LibraryState}
use Rattle.dds_states.specs.declared.library_state.OpenCall.{OpenCall}
use Rattle.dds_states.specs.declared.turn.CoreTurn.{CoreTurn}
use Rattle.dds_net.specs.Net.{Sizes, gains, is_in}
use Rattle.dds_talk.proofs.Folds.{AreGroups, Sofar, Start, by-attempt, desk, next-after, one-turn, opens-after, quiet-sees, said-sees, stands-after}
use Rattle.dds_talk.proofs.Letters.{about-gains, about-none}
use Rattle.dds_talk.proofs.Many.{Many, many-then, single}
use Rattle.dds_talk.proofs.Many.Many.{none}
use Rattle.dds_talk.proofs.Moves.{MaySay, Takes}
use Rattle.dds_talk.proofs.Others.{mid-after}
use Rattle.dds_talk.proofs.Parts.{is-same, same-self}
use Rattle.dds_talk.proofs.Turns.{Mid, OneTurn, found-is, not-new, now, turned}
use Rattle.dds_talk.specs.Books.{Books}
use Rattle.dds_talk.specs.Seen.{Apart, asked, asks, call_of, call_view, is_open, of, phase_view, said, view}
use Rattle.dds_talk.specs.Table.{Say, View}
use Rattle.dds_talk.specs.Table.View.{New, Past, Off}

-- A notice: each open call goes on without the node, in order

start-sofar : (z : Sizes) (b : Books) (k : ℕ) (s : LibraryState) → Start z b k s → Sofar z b k s s no_out
start-sofar z b k s start =
    record {
      mid = start.mid;
      known = refl;
      stopped = refl;
      next = omega arith;
      stands = λ t e low. start.stands t e;
      opens = λ t low is. is;
      sees = λ t m e inside un. let same = start.stands t e in rw (same, about-none asked t z m [] tt) none;
    }

quiet-step : (z : Sizes) (b : Books) (k : ℕ) (old : LibraryState) (from : NodeNo) (l : Letter) (s : LibraryState) (out : CoreTurn) (place : ℕ) (c : OpenCall)
    → Start z b k old → Sofar z b k old s out → OneTurn z b k place s c (desk z b k old from l s place).numbers (call_row
    (desk z b k old from l s place) c from l)
    → said l ≡ None → (l ≡ letter.Notice → (m : ℕ) → has_node old.known m ≡ false → (m == from) ≡ false)
    → Sofar z b k old (one_call s from l place c).state (both out (one_call s from l place c).out)
quiet-step z b k old from l s out place c start h one quiet ne =
    let d = desk z b k old from l s place in
    let r = call_row d c from l in
    let u = (turned s place c r).state in
    let more = h.next in
    let after = next-after z b k old from l s place c r one in
    record {
      mid = mid-after z b k place s c d.numbers r one;
      known = h.known;
      stopped = h.stopped;
      next = omega (arith, more, after);
      stands = λ t e low. stands-after z b k old from l s place c r one more t low (h.stands t e low);
      opens = λ t low is. h.opens t low (opens-after z b k old from l s place c r one more t low is);
      sees = λ t m e inside un.
          subst (Many (view old (b.list t) t m) [] (view u (now b u t) t m)) (sym (about-gains asked t z m out.letters r.went.letters))
          (many-then (h.sees t m e inside un)
          (quiet-sees z b k old from l s place c start one h.known quiet m t inside un (λ n. ne n m un) e));
    }

-- the open attempts of a library
all-attempts : (P : Txn → Type 0) (cs : List OpenCall) → Apart cs → ((t : Txn) (c : OpenCall) → call_of cs t ≡ Some c → P c.txn)
    → AllByRecursion P (attempts cs)
all-attempts P [] a h = tt
all-attempts P (x ∷ cs) a h =
    let self : same_txn x.txn x.txn ≡ true = same-self x.txn in (
      h x.txn x (rw self refl),
      all-attempts P cs a.1 (λ t c e. elim (same_txn x.txn t) as (λ q. same_txn x.txn t ≡ q → P c.txn) [
        | true ↦ λ q. let none : call_of cs t ≡ None = ap (call_of cs) (sym (is-same x.txn t q)) ∙ a.0 in let bad : None ≡ Some c = sym none ∙ e in cc
        | false ↦ λ q. h t c (rw q e)
      ] refl),
    )

-- what else is kept by each call's turn, such as that the members of open calls are groups
pub record Guide (z : Sizes) (from : NodeNo) (l : Letter) : Type 1 where
  pub Good : LibraryState → CoreTurn → Type 0
  pub keeps : OneKeeps Good from l
  pub groups : (s : LibraryState) (out : CoreTurn) → Good s out → AreGroups z s

abbrev pub IsOld : ℕ → LibraryState → Txn → Type 0
IsOld k old t = (t.library ≡ k) × (t.number < old.next)

module _ (z : Sizes) (b : Books) (k : ℕ) (old : LibraryState) (y : NodeNo) (g : Guide z y letter.Notice) where
  abbrev Both : LibraryState → CoreTurn → Type 0
  Both s out = g.Good s out × Sofar z b k old s out

  one-notice : (s : LibraryState) (out : CoreTurn) (txn : Txn) → Start z b k old → ((m : ℕ) → has_node old.known m ≡ false → (m == y) ≡ false)
      → IsOld k old txn → Both s out → Both (at_attempt s y letter.Notice (Some txn)).state (both out (at_attempt s y letter.Notice (Some txn)).out)
  one-notice s out txn start ne is h =
      by-attempt (λ t. Both t.state (both out t.out)) s y letter.Notice txn (λ e. subst (Both s) (sym (both-nothing out)) h)
      (λ place c there found.
      let good = g.keeps s out place c there (a_notice refl) h.0 in
      let same : c.txn ≡ txn = found-is s.calls txn c found in
      let low : c.txn.number < old.next = subst (λ (t : Txn). t.number < old.next) (sym same) is.1 in
      let one = one-turn z b k old y letter.Notice s place c start h.1.mid h.1.next h.1.stands there (ap (call_of s.calls) same ∙ found) low
      (g.groups (one_call s y letter.Notice place c).state (both out (one_call s y letter.Notice place c).out) good) in
      (good, quiet-step z b k old y letter.Notice s out place c start h.1 one refl (λ n m un. ne m un)))

  all-notice : (txns : List Txn) (s : LibraryState) (out : CoreTurn) → Start z b k old → ((m : ℕ) → has_node old.known m ≡ false → (m == y) ≡ false)
      → AllByRecursion (IsOld k old) txns → Both s out → Both (notice_calls s y txns).state (both out (notice_calls s y txns).out)
  all-notice [] s out start ne is h = subst (Both s) (sym (both-nothing out)) h
  all-notice (txn ∷ txns) s out start ne is h =
      let t = at_attempt s y letter.Notice (Some txn) in
      let u = notice_calls t.state y txns in
      subst (Both u.state) (both-assoc out t.out u.out)
      (all-notice txns t.state (both out t.out) start ne is.1 (one-notice s out txn start ne is.0 h))

  pub notice-sofar : Start z b k old → ((m : ℕ) → has_node old.known m ≡ false → (m == y) ≡ false) → g.Good old no_out
      → Sofar z b k old (notice_calls old y (attempts old.calls)).state (notice_calls old y (attempts old.calls)).out
  notice-sofar start ne good =
      (all-notice (attempts old.calls) old no_out start ne
      (all-attempts (IsOld k old) old.calls start.mid.apart
      (λ t c e. let m = start.mid.calls t c e in (m.library, m.below))) (good, start-sofar z b k old start)).1

-- A letter that isn't a notice

-- the library after it, and what each attempt and member saw
pub record Saw (z : Sizes) (b : Books) (k : ℕ) (s u : LibraryState) (heard : Txn → ℕ → List Say) (out : CoreTurn) : Type 0 where
  pub mid : Mid b k u
  pub known : (m : ℕ) → has_node u.known m ≡ false → has_node s.known m ≡ false
  pub stopped : u.stopped ≡ s.stopped
  pub next : s.next ≤ u.next
  pub stands : (t : Txn) → t.library ≡ k → t.number < s.next → now b u t ≡ b.list t
  pub opens : (t : Txn) → t.number < s.next → is_open u t ≡ true → is_open s t ≡ true
  pub sees : (t : Txn) (m : ℕ) → t.library ≡ k → is_in z m ≡ true → has_node u.known m ≡ false
      → Many (view s (b.list t) t m) (heard t m) (view u (now b u t) t m) (asks t (gains z out.letters m))

-- nothing is heard
pub sofar-saw : (z : Sizes) (b : Books) (k : ℕ) (s u : LibraryState) (heard : Txn → ℕ → List Say) (out : CoreTurn) → ((t : Txn) (m : ℕ) → heard t m ≡ [])
    → Sofar z b k s u out → Saw z b k s u heard out
sofar-saw z b k s u heard out quiet h =
    record {
      mid = h.mid;
      known = λ m e. ap (λ x. has_node x m) (sym h.known) ∙ e;
      stopped = h.stopped;
      next = h.next;
      stands = h.stands;
      opens = h.opens;
      sees = λ t m e inside un. subst (λ x. Many (view s (b.list t) t m) x (view u (now b u t) t m) (asks t (gains z out.letters m))) (sym (quiet t m))
          (h.sees t m e inside (ap (λ x. has_node x m) (sym h.known) ∙ un));
    }

pub kept-saw : (z : Sizes) (b : Books) (k : ℕ) (s : LibraryState) (heard : Txn → ℕ → List Say) → Start z b k s → ((t : Txn) (m : ℕ) → heard t m ≡ [])
    → Saw z b k s s heard no_out
kept-saw z b k s heard start quiet = sofar-saw z b k s s heard no_out quiet (start-sofar z b k s start)

-- one call's turn at a letter that says nothing
pub quiet-saw : (z : Sizes) (b : Books) (k : ℕ) (s : LibraryState) (from : NodeNo) (l : Letter) (txn : Txn) (heard : Txn → ℕ → List Say) (g : Guide z from l)
    → ((c : OpenCall) → c.txn ≡ txn → Concerns l c) → Start z b k s → g.Good s no_out → said l ≡ None → (l ≡ letter.Notice → ⊥)
    → ((t : Txn) (m : ℕ) → heard t m ≡ []) → Saw z b k s (at_attempt s from l (Some txn)).state heard (at_attempt s from l (Some txn)).out
quiet-saw z b k s from l txn heard g concerns start good quiet ne nothing =
    by-attempt (λ t. Saw z b k s t.state heard t.out) s from l txn (λ e. kept-saw z b k s heard start nothing)
    (λ place c there found.
    let same : c.txn ≡ txn = found-is s.calls txn c found in
    let was = start.mid.calls txn c found in
    let after = g.keeps s no_out place c there (concerns c same) good in
    let one = one-turn z b k s from l s place c start start.mid (omega arith) (λ t e low. start.stands t e) there (ap (call_of s.calls) same
    ∙ found) was.below
    (g.groups (one_call s from l place c).state (both no_out (one_call s from l place c).out) after) in
    sofar-saw z b k s (one_call s from l place c).state heard (one_call s from l place c).out nothing
    (quiet-step z b k s from l s no_out place c start (start-sofar z b k s start) one quiet (λ n m un. absurd (ne n))))

-- at one that says something
may-member : (h : Bool) (v : View) (y : Say) → MaySay (if h then v else Off) y → (h ≡ true) × MaySay v y
may-member true v y m = (refl, m)
may-member false v y m = absurd m

nothing-past : (n : Bool) (h : Bool) (y : Say) → MaySay (if n then New else (if h then Past else Off)) y → ⊥
nothing-past true h y m = m
nothing-past false true y m = m
nothing-past false false y m = m

pub said-saw : (z : Sizes) (b : Books) (k : ℕ) (s : LibraryState) (from : NodeNo) (l : Letter) (txn : Txn) (y : Say) (g : Guide z from l)
    → ((c : OpenCall) → c.txn ≡ txn → Concerns l c) → Start z b k s → g.Good s no_out → said l ≡ Some (txn, y) → MaySay (view s (b.list txn) txn from) y
    → Saw z b k s (at_attempt s from l (Some txn)).state (λ t m. if m == from then of t (said l) else []) (at_attempt s from l (Some txn)).out
said-saw z b k s from l txn y g concerns start good says may =
    by-attempt (λ t. Saw z b k s t.state (λ t m. if m == from then of t (said l) else []) t.out) s from l txn
    (λ e. absurd (nothing-past (nat_le s.next txn.number) (has (b.list txn) from) y
    (subst (λ o. MaySay (if nat_le s.next txn.number then New else (if has (b.list txn) from then call_view from o else Off)) y) e may)))
    (λ place c there found.
    let same : c.txn ≡ txn = found-is s.calls txn c found in
    let was = start.mid.calls txn c found in
    let lib = was.library in
    let mine = ap (call_of s.calls) same ∙ found in
    let after = g.keeps s no_out place c there (concerns c same) good in
    let one = one-turn z b k s from l s place c start start.mid (omega arith) (λ t e low. start.stands t e) there mine was.below
    (g.groups (one_call s from l place c).state (both no_out (one_call s from l place c).out) after) in
    let d = desk z b k s from l s place in
    let r = call_row d c from l in
    let u = (turned s place c r).state in
    let fresh : nat_le s.next c.txn.number ≡ false = not-new s.next c.txn.number was.below in
    let may-it : MaySay (view s (b.list c.txn) c.txn from) y = subst (λ t. MaySay (view s (b.list t) t from) y) (sym same) may in
    let parts = may-member (has (b.list c.txn) from) (phase_view from c.phase) y (rw (fresh, mine) at may-it) in
    record {
      mid = mid-after z b k place s c d.numbers r one;
      known = λ m e. e;
      stopped = refl;
      next = next-after z b k s from l s place c r one;
      stands = λ t e low. stands-after z b k s from l s place c r one (omega arith) t low (start.stands t e);
      opens = λ t low is. opens-after z b k s from l s place c r one (omega arith) t low is;
      sees = λ t m e inside un.
          let is = start.stands t e in
          single (subst (λ list. Takes (view s list t m) (if m == from then of t (said l) else []) (view u (now b u t) t m) (asks t
          (gains z r.went.letters m))) is
          (said-sees z b k s from l s place c y start one refl (says ∙ ap (λ (q : Txn). Some (q, y)) (sym same)) parts.1 parts.0 m t inside un e));
    })
