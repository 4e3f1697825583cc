use Rattle.std.proofs.Common.{◌≡◌, ℕ, ◌==◌, ◌<◌, ◌≤◌, Bool, true, false, List, [], ◌∷◌, Option, Some, None, is_some, zero, suc, refl, sym, ap, ◌∙◌, subst}
use Rattle.std.proofs.Common.{arith}
use Rattle.std.proofs.lemmas.Bool.{ne_eqb}
use Rattle.std.specs.List.{AllByRecursion, insert, remove}
use Rattle.std.specs.Prelude.{if◌then◌else◌, slice_get}
use Rattle.dds_base.specs.BrickList.{has}
use Rattle.dds_base.specs.NodeSet.{has_node}
use Rattle.dds_base.specs.Number.{Txn, same_txn}
use Rattle.dds_base.specs.declared.number.NodeNo.{NodeNo}
use Rattle.dds_call_rows.specs.Library.{CallTurn}
use Rattle.dds_core.proofs.CallTurns.{one_call}
use Rattle.dds_core.specs.LibraryTurn.{at_attempt, at_call, at_place, call_place, call_row, desk_of, keeps, put_back}
use Rattle.dds_letters.specs.declared.letter.Letter.{Letter}
use Rattle.dds_letters.specs.declared.letter.Letter.TheVariants as letter
use Rattle.dds_locks.proofs.Places.{found-at, found-none}
use Rattle.dds_states.specs.Turn.{LibraryTurn}
use Rattle.dds_states.specs.declared.library_state.Desk.{Desk}
use Rattle.dds_states.specs.declared.library_state.LibraryState.{LibraryState}
use Rattle.dds_states.specs.declared.library_state.OpenCall.{OpenCall}
use Rattle.dds_states.specs.declared.turn.CoreTurn.{CoreTurn}
use Rattle.dds_net.specs.Net.{Sizes, gains, is_in}
use Rattle.dds_talk.proofs.Begun.{Opened, next_of}
use Rattle.dds_talk.proofs.CallGoes.{Goes, call-goes}
use Rattle.dds_talk.proofs.CallGoes.Goes.{on, over}
use Rattle.dds_talk.proofs.CallRows.{Member}
use Rattle.dds_talk.proofs.CallTurns.{quiet-row, said-row}
use Rattle.dds_talk.proofs.Calls.{is_call}
use Rattle.dds_talk.proofs.Many.{Many}
use Rattle.dds_talk.proofs.Moves.{MaySay, Takes}
use Rattle.dds_talk.proofs.Others.{not-call, not-its, theirs}
use Rattle.dds_talk.proofs.Parts.{is-same}
use Rattle.dds_talk.proofs.Turns.{Mid, OneTurn, goes-next, mine, mine-stands, now, old-txn, other-calls, turned}
use Rattle.dds_talk.specs.Books.{Books, or_else}
use Rattle.dds_talk.specs.Parts.{IsFor}
use Rattle.dds_talk.specs.Seen.{IsGroup, asks, call_of, is_open, members_in, members_of, of, one, phase_view, said, view}
use Rattle.dds_talk.specs.Table.{Say}

-- A library's turn, as each attempt and member sees it: one call's turn, or those of all open calls in order.

abbrev no_says : List Say
no_says = []

-- the members that open calls have are groups
abbrev pub AreGroups : Sizes → LibraryState → Type 0
AreGroups z s = AllByRecursion (λ (c : OpenCall). IsGroup z (members_of c.phase)) s.calls

insert-has : (P : OpenCall → Type 0) (xs : List OpenCall) (i : ℕ) (x : OpenCall) → AllByRecursion P (insert xs i x) → P x
insert-has P xs zero x h = h.0
insert-has P [] (suc i) x h = h.0
insert-has P (y ∷ xs) (suc i) x h = insert-has P xs i x h.1

put-has : (P : OpenCall → Type 0) (rest : List OpenCall) (place : ℕ) (o : Option OpenCall) (x : OpenCall) → o ≡ Some x
    → AllByRecursion P (put_back rest place o) → P x
put-has P rest place None x e h = cc
put-has P rest place (Some y) x e h = let is : y ≡ x = cc in subst P is (insert-has P rest place y h)

-- a letter of an attempt: its call isn't open, or has its turn
by-call : (P : LibraryTurn → Type 0) (s : LibraryState) (from : NodeNo) (l : Letter) (txn : Txn) (place : ℕ) (o : Option OpenCall) → slice_get s.calls place ≡ o
    → call_of s.calls txn ≡ o → (call_of s.calls txn ≡ None → P (keeps s))
    → ((place : ℕ) (c : OpenCall) → slice_get s.calls place ≡ Some c → call_of s.calls txn ≡ Some c → P (one_call s from l place c))
    → P (at_call s from l place o)
by-call P s from l txn place None e f k h = k f
by-call P s from l txn place (Some c) e f k h = h place c e f

by-place : (P : LibraryTurn → Type 0) (s : LibraryState) (from : NodeNo) (l : Letter) (txn : Txn) (o : Option ℕ) → call_place s.calls txn ≡ o
    → (call_of s.calls txn ≡ None → P (keeps s))
    → ((place : ℕ) (c : OpenCall) → slice_get s.calls place ≡ Some c → call_of s.calls txn ≡ Some c → P (one_call s from l place c)) → P (at_place s from l o)
by-place P s from l txn None e k h = k (found-none (λ (c : OpenCall). same_txn c.txn txn) s.calls e)
by-place P s from l txn (Some place) e k h =
    by-call P s from l txn place (slice_get s.calls place) refl (found-at (λ (c : OpenCall). same_txn c.txn txn) s.calls place e) k h

pub by-attempt : (P : LibraryTurn → Type 0) (s : LibraryState) (from : NodeNo) (l : Letter) (txn : Txn) → (call_of s.calls txn ≡ None → P (keeps s))
    → ((place : ℕ) (c : OpenCall) → slice_get s.calls place ≡ Some c → call_of s.calls txn ≡ Some c → P (one_call s from l place c))
    → P (at_attempt s from l (Some txn))
by-attempt P s from l txn k h = by-place P s from l txn (call_place s.calls txn) refl k h

-- What is so of the library at the start

pub record Start (z : Sizes) (b : Books) (k : ℕ) (s : LibraryState) : Type 0 where
  pub few : z.bricks ≤ 64
  pub mid : Mid b k s
  pub stands : (t : Txn) → t.library ≡ k → now b s t ≡ b.list t
  pub unmade : (t : Txn) → t.library ≡ k → s.next ≤ t.number → b.list t ≡ []
  pub groups : (t : Txn) → t.library ≡ k → IsGroup z (b.list t)

-- and of it after some calls' turns
pub record Sofar (z : Sizes) (b : Books) (k : ℕ) (old s : LibraryState) (out : CoreTurn) : Type 0 where
  pub mid : Mid b k s
  pub known : s.known ≡ old.known
  pub stopped : s.stopped ≡ old.stopped
  pub next : old.next ≤ s.next
  pub stands : (t : Txn) → t.library ≡ k → t.number < old.next → now b s t ≡ b.list t
  pub opens : (t : Txn) → t.number < old.next → is_open s t ≡ true → is_open old t ≡ true
  pub sees : (t : Txn) (m : ℕ) → t.library ≡ k → is_in z m ≡ true → has_node old.known m ≡ false
      → Many (view old (b.list t) t m) [] (view s (now b s t) t m) (asks t (gains z out.letters m))

module _ (z : Sizes) (b : Books) (k : ℕ) (old : LibraryState) (from : NodeNo) (l : Letter) where
  abbrev pub desk : LibraryState → ℕ → Desk
  desk s place = desk_of (record s { calls = remove s.calls place }) (remove s.calls place)

  -- the turn of one call that was open at the start
  pub one-turn : (s : LibraryState) (place : ℕ) (c : OpenCall) → Start z b k old → Mid b k s → old.next ≤ s.next
      → ((t : Txn) → t.library ≡ k → t.number < old.next → now b s t ≡ b.list t) → slice_get s.calls place ≡ Some c → call_of s.calls c.txn ≡ Some c
      → c.txn.number < old.next → AreGroups z (one_call s from l place c).state
      → OneTurn z b k place s c (desk s place).numbers (call_row (desk s place) c from l)
  one-turn s place c start mid more stands there found low groups =
      let lib = (mid.calls c.txn c found).library in
      let same = stands c.txn lib low in
      record {
        mid = mid;
        there = there;
        found = found;
        stands = same;
        unmade = λ t e le. start.unmade t e (omega (arith, more, le));
        counted = (refl, refl);
        goes = call-goes z start.few (desk s place) c from l (b.list c.txn) (subst (λ list. IsFor list c.phase) same (mid.calls c.txn c found).list)
            (start.groups c.txn lib);
        group = λ x e. put-has (λ (y : OpenCall). IsGroup z (members_of y.phase)) (remove s.calls place) place (call_row
            (desk s place) c from l).went.call x e groups;
      }

  -- attempts that were made keep their calls, but for the one whose turn it is
  same-call : (s : LibraryState) (place : ℕ) (c : OpenCall) (r : CallTurn) → OneTurn z b k place s c (desk s place).numbers r
      → Goes z (desk s place).numbers c (b.list c.txn) r → old.next ≤ s.next → (t : Txn) → t.number < old.next → same_txn c.txn t ≡ false
      → call_of (turned s place c r).state.calls t ≡ call_of s.calls t
  same-call s place c r h (on x e tx i next out others) more t low ne =
      other-calls z b k place s c (desk s place).numbers r h t ne
      ∙ not-call t r.went.call (call_of s.calls t) (ap (is_call t) e ∙ not-its t x c.txn tx ne)
  same-call s place c r h (over g) more t low ne =
      other-calls z b k place s c (desk s place).numbers r h t ne ∙ not-call t r.went.call (call_of s.calls t) (not-next r.went.call g.opened)
    where
      not-next : (o : Option OpenCall) → Opened z (desk s place).numbers r o → is_call t o ≡ false
      not-next None o = refl
      not-next (Some x) o = not-its t x (next_of (desk s place).numbers) o.0 (old-txn (desk s place).numbers t (omega (arith, low, more)))

  pub opens-after : (s : LibraryState) (place : ℕ) (c : OpenCall) (r : CallTurn) → OneTurn z b k place s c (desk s place).numbers r → old.next ≤ s.next
      → (t : Txn) → t.number < old.next → is_open (turned s place c r).state t ≡ true → is_open s t ≡ true
  opens-after s place c r h more t low is =
      elim (same_txn c.txn t) as (λ q. same_txn c.txn t ≡ q → is_open s t ≡ true) [
        | true ↦ λ q. ap (λ v. is_open s v) (sym (is-same c.txn t q)) ∙ ap is_some h.found
        | false ↦ λ q. sym (ap is_some (same-call s place c r h h.goes more t low q)) ∙ is
      ] refl

  pub stands-after : (s : LibraryState) (place : ℕ) (c : OpenCall) (r : CallTurn) → OneTurn z b k place s c (desk s place).numbers r → old.next ≤ s.next
      → (t : Txn) → t.number < old.next → now b s t ≡ b.list t → now b (turned s place c r).state t ≡ b.list t
  stands-after s place c r h more t low was =
      elim (same_txn c.txn t) as (λ q. same_txn c.txn t ≡ q → now b (turned s place c r).state t ≡ b.list t) [
        | true ↦ λ q.
            let e = is-same c.txn t q in
            subst (λ v. now b (turned s place c r).state v ≡ b.list v) e (mine-stands z b k place s c (desk s place).numbers r h)
        | false ↦ λ q. ap (λ o. or_else (b.list t) (members_in o)) (same-call s place c r h h.goes more t low q) ∙ was
      ] refl

  pub next-after : (s : LibraryState) (place : ℕ) (c : OpenCall) (r : CallTurn) → OneTurn z b k place s c (desk s place).numbers r
      → s.next ≤ r.desk.numbers.next
  next-after s place c r h = goes-next z (desk s place).numbers c (b.list c.txn) r h.goes

  -- a member
  member : (s : LibraryState) (c : OpenCall) (m place : ℕ) → Start z b k old → c.txn.library ≡ k → s.known ≡ old.known → is_in z m ≡ true
      → has_node old.known m ≡ false → has (b.list c.txn) m ≡ true → Member z (desk s place) (b.list c.txn) m
  member s c m place start lib known inside un listed =
      record { few = start.few; inside = inside; group = start.groups c.txn lib; listed = listed; unknown = ap (λ x. has_node x m) known ∙ un }

  -- what each attempt sees of it, where the letter says nothing
  pub quiet-sees : (s : LibraryState) (place : ℕ) (c : OpenCall) → Start z b k old → OneTurn z b k place s c (desk s place).numbers (call_row
      (desk s place) c from l)
      → s.known ≡ old.known → said l ≡ None → (m : ℕ) (t : Txn) → is_in z m ≡ true → has_node old.known m ≡ false
      → (l ≡ letter.Notice → (m == from) ≡ false) → t.library ≡ k
      → Takes (view s (now b s t) t m) [] (view (turned s place c (call_row (desk s place) c from l)).state
      (now b (turned s place c (call_row (desk s place) c from l)).state t) t m) (asks t (gains z (call_row (desk s place) c from l).went.letters m))
  quiet-sees s place c start h known quiet m t inside un ne tl =
      let r = call_row (desk s place) c from l in
      let fine = h.mid.calls c.txn c h.found in
      let below = fine.below in
      elim (same_txn c.txn t) as (λ q. same_txn c.txn t ≡ q → Takes (view s (now b s t) t m) [] (view (turned s place c r).state (now b
      (turned s place c r).state t) t m)
      (asks t (gains z r.went.letters m))) [
        | true ↦ λ q.
            let e = is-same c.txn t q in
            subst (λ v. Takes (view s (now b s v) v m) [] (view (turned s place c r).state (now b (turned s place c r).state v) v m) (asks v
            (gains z r.went.letters m))) e
            (mine z b k place s c (desk s place).numbers r h m [] inside (λ listed. quiet-row z start.few (desk s place) c from l (b.list c.txn) m quiet
            (subst (λ list. IsFor list c.phase) h.stands fine.list) ne (member s c m place start fine.library known inside un listed)
            (old-txn (desk s place).numbers c.txn below)) (λ out. refl))
        | false ↦ λ q. theirs z b k place s c (desk s place).numbers r m t h inside tl q
      ] refl

  -- and where it is the member's
  not-from : (m : ℕ) (y : Say) (list : List ℕ) → has list from ≡ true → has list m ≡ false → one (m == from) y ≡ []
  not-from m y list h k = ap (λ q. one q y) (ne_eqb m from (λ e. two (has list from) h (ap (has list) (sym e) ∙ k)))
    where
      two : (x : Bool) → x ≡ true → x ≡ false → ⊥
      two x e f = let q : true ≡ false = sym e ∙ f in cc

  pub said-sees : (s : LibraryState) (place : ℕ) (c : OpenCall) (y : Say) → Start z b k old
      → OneTurn z b k place s c (desk s place).numbers (call_row (desk s place) c from l)
      → s.known ≡ old.known → said l ≡ Some (c.txn, y) → MaySay (phase_view from c.phase) y → has (b.list c.txn) from ≡ true → (m : ℕ) (t : Txn)
      → is_in z m ≡ true → has_node old.known m ≡ false → t.library ≡ k
      → Takes (view s (now b s t) t m) (if m == from then of t (said l) else []) (view (turned s place c (call_row (desk s place) c from l)).state
      (now b (turned s place c (call_row (desk s place) c from l)).state t) t m) (asks t (gains z (call_row (desk s place) c from l).went.letters m))
  said-sees s place c y start h known says may sender m t inside un tl =
      let r = call_row (desk s place) c from l in
      let fine = h.mid.calls c.txn c h.found in
      let below = fine.below in
      elim (same_txn c.txn t) as (λ q. same_txn c.txn t ≡ q → Takes (view s (now b s t) t m) (if m == from then of t (said l) else [])
      (view (turned s place c r).state (now b (turned s place c r).state t) t m) (asks t (gains z r.went.letters m))) [
        | true ↦ λ q.
            let e = is-same c.txn t q in
            let heard : (if m == from then of t (said l) else []) ≡ one (m == from) y =
            ap (λ o. if m == from then of t o else []) says ∙ ap (λ v. if m == from then one v y else []) q ∙ one-if (m == from) y in
            subst (λ x. Takes (view s (now b s t) t m) x (view (turned s place c r).state (now b (turned s place c r).state t) t m) (asks t
            (gains z r.went.letters m))) (sym heard)
            (subst (λ v. Takes (view s (now b s v) v m) (one (m == from) y) (view (turned s place c r).state (now b (turned s place c r).state v) v m)
            (asks v (gains z r.went.letters m))) e
            (mine z b k place s c (desk s place).numbers r h m (one (m == from) y) inside (λ listed. said-row z start.few (desk s place) c from l c.txn y
            (b.list c.txn) m says
            (subst (λ list. IsFor list c.phase) h.stands fine.list) may (member s c m place start fine.library known inside un listed)
            (old-txn (desk s place).numbers c.txn below)) (λ out. not-from m y (b.list c.txn) sender out)))
        | false ↦ λ q.
            let heard : (if m == from then of t (said l) else []) ≡ [] =
            ap (λ o. if m == from then of t o else []) says ∙ ap (λ v. if m == from then one v y else []) q ∙ none-if (m == from) in
            subst (λ x. Takes (view s (now b s t) t m) x (view (turned s place c r).state (now b (turned s place c r).state t) t m) (asks t
            (gains z r.went.letters m))) (sym heard)
            (theirs z b k place s c (desk s place).numbers r m t h inside tl q)
      ] refl
    where
      one-if : (q : Bool) (y : Say) → (if q then y ∷ [] else []) ≡ one q y
      one-if true y = refl
      one-if false y = refl

      none-if : (q : Bool) → (if q then no_says else no_says) ≡ no_says
      none-if true = refl
      none-if false = refl
