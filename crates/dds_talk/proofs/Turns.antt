use Rattle.std.proofs.Common.{◌≡◌, ℕ, ◌==◌, ◌+◌, ◌<◌, ◌≤◌, inl, inr, Bool, true, false, cond, List, [], ◌∷◌, Option, Some, None, refl, sym, ap, ◌∙◌, subst}
use Rattle.std.proofs.Common.{arith}
use Rattle.std.proofs.lemmas.Bool.Decides.{nat_tests}
use Rattle.std.specs.Prelude.{if◌then◌else◌, slice_get, nat_le}
use Rattle.std.specs.List.{remove}
use Rattle.dds_base.specs.BrickList.{has}
use Rattle.dds_base.specs.Number.{Txn, same_txn}
use Rattle.dds_call_rows.specs.Library.{CallTurn}
use Rattle.dds_core.specs.LibraryTurn.{call_turn}
use Rattle.dds_states.specs.Turn.{LibraryTurn}
use Rattle.dds_states.specs.declared.library_state.LibraryState.{LibraryState}
use Rattle.dds_states.specs.declared.library_state.OpenCall.{OpenCall}
use Rattle.dds_states.specs.declared.library_state.Phase.{Phase}
use Rattle.dds_states.specs.declared.library_state.Phase.TheVariants.{Getting, Preparing, Committing, Aborting, Asking}
use Rattle.dds_states.specs.declared.library_state.TxnNumbers.{TxnNumbers}
use Rattle.dds_net.specs.Net.{Sizes, gains, is_in}
use Rattle.dds_talk.proofs.Begun.{Opened, next_of}
use Rattle.dds_talk.proofs.CallGoes.{Goes}
use Rattle.dds_talk.proofs.CallGoes.Goes.{on, over}
use Rattle.dds_talk.proofs.CallRows.{Row, turn_view}
use Rattle.dds_talk.proofs.Calls.{IsNew, call-put, is_call}
use Rattle.dds_talk.proofs.Moves.{Takes}
use Rattle.dds_talk.proofs.Moves.Takes.{rests}
use Rattle.dds_talk.proofs.Parts.{is-same, same-self}
use Rattle.dds_talk.specs.Books.{Books, or_else}
use Rattle.dds_talk.specs.Parts.{IsFor}
use Rattle.dds_talk.specs.Seen.{Apart, IsGroup, asks, call_of, call_view, members_in, members_of, phase_view, view}
use Rattle.dds_talk.specs.Table.{View, Ask, Say}
use Rattle.dds_talk.specs.Table.View.{Past, Off}

-- One call's turn at a library, as each attempt and member sees it.

-- an attempt's members: those of the books, or else of its open call
abbrev pub now : Books → LibraryState → Txn → List ℕ
now b s t = or_else (b.list t) (members_in (call_of s.calls t))

-- a library between two calls' turns: its open attempts are its own, differ, are below `next`, and have these members
pub record MidCall (b : Books) (k : ℕ) (s : LibraryState) (c : OpenCall) : Type 0 where
  pub library : c.txn.library ≡ k
  pub below : c.txn.number < s.next
  pub list : IsFor (now b s c.txn) c.phase

pub record Mid (b : Books) (k : ℕ) (s : LibraryState) : Type 0 where
  pub number : s.number ≡ k
  pub apart : Apart s.calls
  pub calls : (t : Txn) (c : OpenCall) → call_of s.calls t ≡ Some c → MidCall b k s c

-- the numbers that a library's attempts take
abbrev pub IsCounted : LibraryState → TxnNumbers → Type 0
IsCounted s n = (n.library ≡ s.number) × (n.next ≡ s.next)

-- the library after the turn of the call that was taken out of its place
abbrev pub turned : LibraryState → ℕ → OpenCall → CallTurn → LibraryTurn
turned s place c r = call_turn (record s { calls = remove s.calls place }) place c r

pub some-same : {X : Type 0} {x y : X} → Some x ≡ Some y → x ≡ y
some-same e = cc

-- calls that are found
found-if : (b : Bool) (x c : OpenCall) (cs : List OpenCall) (t : Txn) → same_txn x.txn t ≡ b → cond b (Some x) (call_of cs t) ≡ Some c
    → (call_of cs t ≡ Some c → same_txn c.txn t ≡ true) → same_txn c.txn t ≡ true
found-if true x c cs t s e h = ap (λ (y : OpenCall). same_txn y.txn t) (sym (some-same e)) ∙ s
found-if false x c cs t s e h = h e

pub found-call : (cs : List OpenCall) (t : Txn) (c : OpenCall) → call_of cs t ≡ Some c → same_txn c.txn t ≡ true
found-call [] t c e = cc
found-call (x ∷ cs) t c e = found-if (same_txn x.txn t) x c cs t refl e (found-call cs t c)

pub found-is : (cs : List OpenCall) (t : Txn) (c : OpenCall) → call_of cs t ≡ Some c → c.txn ≡ t
found-is cs t c e = is-same c.txn t (found-call cs t c e)

-- an attempt that is yet to come isn't open
fresh-if : (b : Books) (k : ℕ) (s : LibraryState) (t : Txn) (o : Option OpenCall) → Mid b k s → call_of s.calls t ≡ o → s.next ≤ t.number → o ≡ None
fresh-if b k s t None mid e le = refl
fresh-if b k s t (Some c) mid e le =
    let low = (mid.calls t c e).below in
    let same : c.txn.number ≡ t.number = ap (λ (u : Txn). u.number) (found-is s.calls t c e) in
    absurd (omega (arith, low, same, le))

pub fresh : (b : Books) (k : ℕ) (s : LibraryState) (t : Txn) → Mid b k s → s.next ≤ t.number → call_of s.calls t ≡ None
fresh b k s t mid le = fresh-if b k s t (call_of s.calls t) mid refl le

-- lists
members-for : (list : List ℕ) (p : Phase) → list ≡ [] → IsFor list p → members_of p ≡ []
members-for list (Preparing leaf members waiting) e h = h ∙ e
members-for list (Committing leaf members waiting was) e h = h ∙ e
members-for list (Getting leaf brick) e h = refl
members-for list (Aborting waiting why brick) e h = refl
members-for list (Asking waiting newest met) e h = refl

pub for-itself : (p : Phase) → IsFor (members_of p) p
for-itself (Preparing leaf members waiting) = refl
for-itself (Committing leaf members waiting was) = refl
for-itself (Getting leaf brick) = tt
for-itself (Aborting waiting why brick) = tt
for-itself (Asking waiting newest met) = tt

pub or-stands : (list : List ℕ) (o : Option OpenCall) → ((x : OpenCall) → o ≡ Some x → IsFor list x.phase) → or_else list (members_in o) ≡ list
or-stands [] None h = refl
or-stands [] (Some x) h = members-for [] x.phase refl (h x refl)
or-stands (n ∷ ns) o h = refl

pub or-nothing : (list other : List ℕ) → list ≡ [] → or_else list other ≡ other
or-nothing [] other e = refl
or-nothing (n ∷ ns) other e = cc

-- numbers
pub not-new : (a b : ℕ) → b < a → nat_le a b ≡ false
not-new a b h = grind (arith, nat_tests, h)

pub new-le : (a b : ℕ) → a ≤ b → nat_le a b ≡ true
new-le a b h = grind (arith, nat_tests, h)

pub same-le : (a b c : ℕ) → a ≡ b → nat_le a c ≡ nat_le b c
same-le a b c e = ap (λ x. nat_le x c) e

pub next-le : (a c : ℕ) → (a == c) ≡ false → nat_le a c ≡ nat_le (a + 1) c
next-le a c e = grind (arith, nat_tests, e)

pub old-txn : (n : TxnNumbers) (t : Txn) → t.number < n.next → same_txn (next_of n) t ≡ false
old-txn n t h = grind (arith, nat_tests, h)

pub other-number : (n : TxnNumbers) (t : Txn) → t.library ≡ n.library → same_txn (next_of n) t ≡ false → (n.next == t.number) ≡ false
other-number n t e k = grind (arith, nat_tests, e, k)

-- what a turn gives
none-either : (b : Bool) (o : Option OpenCall) → o ≡ None → cond b None o ≡ None
none-either true o e = refl
none-either false o e = e

pub fresh-opened : (z : Sizes) (n : TxnNumbers) (r : CallTurn) (b : Books) (k : ℕ) (s : LibraryState) (o : Option OpenCall) → Mid b k s → IsCounted s n
    → Opened z n r o → (x : OpenCall) → o ≡ Some x → call_of s.calls x.txn ≡ None
fresh-opened z n r b k s None mid num g x e = cc
fresh-opened z n r b k s (Some y) mid num g x e =
    let is : y ≡ x = some-same e in
    subst (λ (c : OpenCall). call_of s.calls c.txn ≡ None) is
    (fresh b k s y.txn mid (subst (λ (t : Txn). s.next ≤ t.number) (sym g.0) (omega (arith, num.1))))

new-begun : (z : Sizes) (n : TxnNumbers) (r : CallTurn) (b : Books) (k : ℕ) (s : LibraryState) (c : OpenCall) (o : Option OpenCall) → Mid b k s → IsCounted s n
    → Opened z n r o → IsNew s.calls c.txn o
new-begun z n r b k s c None mid num g = tt
new-begun z n r b k s c (Some x) mid num g = none-either (same_txn c.txn x.txn) (call_of s.calls x.txn) (fresh-opened z n r b k s (Some x) mid num g x refl)

new-call : (z : Sizes) (n : TxnNumbers) (c : OpenCall) (list : List ℕ) (r : CallTurn) (b : Books) (k : ℕ) (s : LibraryState) → Mid b k s → IsCounted s n
    → Goes z n c list r → IsNew s.calls c.txn r.went.call
new-call z n c list r b k s mid num (on x e t i next out others) =
    subst (IsNew s.calls c.txn) (sym e) (let q : same_txn c.txn x.txn ≡ true = ap (same_txn c.txn) t ∙ same-self c.txn in rw q refl)
new-call z n c list r b k s mid num (over g) = new-begun z n r b k s c r.went.call mid num g.opened

pub goes-next : (z : Sizes) (n : TxnNumbers) (c : OpenCall) (list : List ℕ) (r : CallTurn) → Goes z n c list r → n.next ≤ r.desk.numbers.next
goes-next z n c list r (on x e t i next out others) = omega (arith, next)
goes-next z n c list r (over g) = elim g.next [ inl e ↦ omega (arith, e) | inr e ↦ omega (arith, e) ]

goes-outside : (z : Sizes) (n : TxnNumbers) (c : OpenCall) (list : List ℕ) (r : CallTurn) → c.txn.number < n.next → Goes z n c list r → (m : ℕ)
    → is_in z m ≡ true → has list m ≡ false → asks c.txn (gains z r.went.letters m) ≡ []
goes-outside z n c list r low (on x e t i next out others) m inside h = out m inside h
goes-outside z n c list r low (over g) m inside h = g.old c.txn m (old-txn n c.txn low)

pub goes-list : (z : Sizes) (n : TxnNumbers) (c : OpenCall) (list : List ℕ) (r : CallTurn) → c.txn.number < n.next → Goes z n c list r → (x : OpenCall)
    → r.went.call ≡ Some x → same_txn x.txn c.txn ≡ true → IsFor list x.phase
goes-list z n c list r low (on x e t i next out others) y f k = subst (λ (z : OpenCall). IsFor list z.phase) (some-same (sym e ∙ f)) i
goes-list z n c list r low (over g) y f k =
    let o : Opened z n r (Some y) = subst (Opened z n r) f g.opened in
    let q : true ≡ false = sym k ∙ ap (λ (v : Txn). same_txn v c.txn) o.0 ∙ old-txn n c.txn low in
    cc

-- One call's turn, with what it is given

pub record OneTurn (z : Sizes) (b : Books) (k place : ℕ) (s : LibraryState) (c : OpenCall) (n : TxnNumbers) (r : CallTurn) : Type 0 where
  pub mid : Mid b k s
  pub there : slice_get s.calls place ≡ Some c
  pub found : call_of s.calls c.txn ≡ Some c
  pub stands : now b s c.txn ≡ b.list c.txn
  pub unmade : (t : Txn) → t.library ≡ k → s.next ≤ t.number → b.list t ≡ []
  pub counted : IsCounted s n
  pub goes : Goes z n c (b.list c.txn) r
  pub group : (x : OpenCall) → r.went.call ≡ Some x → IsGroup z (members_of x.phase)

module _ (z : Sizes) (b : Books) (k place : ℕ) (s : LibraryState) (c : OpenCall) (n : TxnNumbers) (r : CallTurn) where
  abbrev pub u : LibraryState
  u = (turned s place c r).state

  pub is-new : OneTurn z b k place s c n r → IsNew s.calls c.txn r.went.call
  is-new h = new-call z n c (b.list c.txn) r b k s h.mid h.counted h.goes

  pub low : OneTurn z b k place s c n r → c.txn.number < n.next
  low h = let q = (h.mid.calls c.txn c h.found).below in let e = h.counted.1 in omega (arith, q, e)

  -- the calls after it
  pub mine-calls : OneTurn z b k place s c n r
      → call_of u.calls c.txn ≡ cond (is_call c.txn r.went.call) r.went.call (cond true None (call_of s.calls c.txn))
  mine-calls h =
      call-put s.calls place c r.went.call c.txn h.there h.mid.apart (is-new h)
      ∙ ap (λ x. cond (is_call c.txn r.went.call) r.went.call (cond x None (call_of s.calls c.txn))) (same-self c.txn)

  pub other-calls : OneTurn z b k place s c n r → (t : Txn) → same_txn c.txn t ≡ false
      → call_of u.calls t ≡ cond (is_call t r.went.call) r.went.call (call_of s.calls t)
  other-calls h t ne =
      call-put s.calls place c r.went.call t h.there h.mid.apart (is-new h)
      ∙ ap (λ x. cond (is_call t r.went.call) r.went.call (cond x None (call_of s.calls t))) ne

  pub mine-if : (o q : Option OpenCall) → ((x : OpenCall) → o ≡ Some x → same_txn x.txn c.txn ≡ true → IsFor (b.list c.txn) x.phase)
      → (y : OpenCall) → cond (is_call c.txn o) o (cond true None q) ≡ Some y → IsFor (b.list c.txn) y.phase
  mine-if None q h y e = cc
  mine-if (Some x) q h y e =
      elim (same_txn x.txn c.txn) as (λ v. same_txn x.txn c.txn ≡ v → cond v (Some x) None ≡ Some y → IsFor (b.list c.txn) y.phase) [
        | true ↦ λ f g. subst (λ (w : OpenCall). IsFor (b.list c.txn) w.phase) (some-same g) (h x refl f)
        | false ↦ λ f g. cc
      ] refl e

  pub mine-stands : OneTurn z b k place s c n r → now b u c.txn ≡ b.list c.txn
  mine-stands h =
      or-stands (b.list c.txn) (call_of u.calls c.txn)
      (λ y e. mine-if r.went.call (call_of s.calls c.txn) (goes-list z n c (b.list c.txn) r (low h) h.goes) y (sym (mine-calls h) ∙ e))

  -- the attempt of the call
  turn-call : (t : Txn) (m : ℕ) (o q : Option OpenCall) → call_view m (cond (is_call t o) o (cond true None q)) ≡ turn_view t m o
  turn-call t m None q = refl
  turn-call t m (Some x) q =
      elim (same_txn x.txn t) as (λ v. call_view m (cond v (Some x) None) ≡ (if v then phase_view m x.phase else Past)) [ true ↦ refl | false ↦ refl ]

  member-if : (h : Bool) (v v' : View) (x : List Say) (y : List Ask) → (h ≡ true → Takes v x v' y) → (h ≡ false → x ≡ []) → (h ≡ false → y ≡ [])
      → Takes (if h then v else Off) x (if h then v' else Off) y
  member-if true v v' x y f g k = f refl
  member-if false v v' x y f g k = rw (g refl, k refl) (rests Off)

  pub mine : OneTurn z b k place s c n r → (m : ℕ) (heard : List Say) → is_in z m ≡ true → (has (b.list c.txn) m ≡ true → Row z c m heard r)
      → (has (b.list c.txn) m ≡ false → heard ≡ [])
      → Takes (view s (now b s c.txn) c.txn m) heard (view u (now b u c.txn) c.txn m) (asks c.txn (gains z r.went.letters m))
  mine h m heard inside row out =
      let list = mine-stands h in
      let was = h.stands in
      let is = h.found in
      let q = low h in
      let e = h.counted.1 in
      let more = goes-next z n c (b.list c.txn) r h.goes in
      let before : nat_le s.next c.txn.number ≡ false = not-new s.next c.txn.number (omega (arith, q, e)) in
      let after : nat_le r.desk.numbers.next c.txn.number ≡ false = not-new r.desk.numbers.next c.txn.number (omega (arith, q, more)) in
      rw (list, was, before, after, is, mine-calls h, turn-call c.txn m r.went.call (call_of s.calls c.txn))
      (member-if (has (b.list c.txn) m) (phase_view m c.phase) (turn_view c.txn m r.went.call) heard (asks c.txn (gains z r.went.letters m)) row out
      (goes-outside z n c (b.list c.txn) r q h.goes m inside))
