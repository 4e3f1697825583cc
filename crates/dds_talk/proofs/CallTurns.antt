use Rattle.std.proofs.Common.{◌≡◌, ℕ, ◌≤◌, ◌==◌, ◌||◌, Bool, true, false, List, [], ◌∷◌, Option, Some, None, refl, sym, ap, ◌∙◌, subst}
use Rattle.std.proofs.lemmas.Bool.{and_parts, eqb-true}
use Rattle.std.specs.List.{list_all}
use Rattle.std.specs.Prelude.{if◌then◌else◌}
use Rattle.dds_base.specs.BrickList.{has}
use Rattle.dds_base.specs.NodeSet.{has_node}
use Rattle.dds_base.specs.Number.{Txn, same_txn}
use Rattle.dds_base.specs.declared.leaf.Leaf.{Leaf}
use Rattle.dds_base.specs.declared.number.NodeNo.{NodeNo}
use Rattle.dds_base.specs.declared.op.Met.{Met}
use Rattle.dds_call_rows.specs.Library as library
use Rattle.dds_call_rows.specs.Library.{CallTurn}
use Rattle.dds_core.specs.LibraryTurn.{call_row}
use Rattle.dds_letters.specs.declared.letter.Letter.{Letter}
use Rattle.dds_letters.specs.declared.letter.Letter.TheVariants as letter
use Rattle.dds_letters.specs.declared.refusal.Answer.{Answer}
use Rattle.dds_states.specs.Turn.{is_none_left, without}
use Rattle.dds_states.specs.declared.library_state.Desk.{Desk}
use Rattle.dds_states.specs.declared.library_state.OpenCall.{OpenCall}
use Rattle.dds_states.specs.declared.library_state.Phase.{Phase}
use Rattle.dds_states.specs.declared.library_state.Phase.TheVariants.{Getting, Preparing, Committing, Aborting, Asking}
use Rattle.dds_net.specs.Net.{Sizes}
use Rattle.dds_talk.proofs.Begun.{Begun, begin-begun, next_of, told-begun}
use Rattle.dds_talk.proofs.CallGoes.{got-begun}
use Rattle.dds_talk.proofs.CallRows.{Member, Row, aborted-on-row, aborted-row, applied-if, applied-row, begun-past, from_it, prepared-row, row-kept, row-stays}
use Rattle.dds_talk.proofs.CallRows.{vote-row}
use Rattle.dds_talk.proofs.Moves.{MaySay}
use Rattle.dds_talk.proofs.Moves.Takes.{rests}
use Rattle.dds_talk.specs.Parts.{IsFor}
use Rattle.dds_talk.specs.Seen.{one, phase_view, said, vote_said}
use Rattle.dds_talk.specs.Table.{Say}
use Rattle.dds_talk.specs.Table.Say.{yes, applied, aborted}
use Rattle.dds_talk.specs.Table.View.{Past}

-- A call's turn at each letter, as one member of its attempt sees it: where the letter is the member's, and where it says
-- nothing of attempts or is a notice of another node.

said-same : (p q : Txn × Say) → Some p ≡ Some q → p.1 ≡ q.1
said-same p q e = let s : p ≡ q = cc in ap (λ (w : Txn × Say). w.1) s

module _ (z : Sizes) (few : z.bricks ≤ 64) where
  -- the attempt was over, or no update's
  past-over : (d : Desk) (c : OpenCall) (m : ℕ) (r : CallTurn) → phase_view m c.phase ≡ Past → Begun z d.numbers r → same_txn (next_of d.numbers) c.txn ≡ false
      → Row z c m [] r
  past-over d c m r e b fresh = rw (e, b.old c.txn m fresh, begun-past z d.numbers r c.txn m r.went.call b.opened fresh) (rests Past)

  past-stays : (d : Desk) (c : OpenCall) (m : ℕ) (phase : Phase) → phase_view m c.phase ≡ Past → phase_view m phase ≡ Past
      → Row z c m [] (library.stays d [] (record c { phase = phase }))
  past-stays d c m phase e f = row-stays z c d m [] phase (rw (e, f) (rests Past))

  got-row : (d : Desk) (c : OpenCall) (phase : Phase) (f : NodeNo) (a : Answer) (m : ℕ) → c.phase ≡ phase → same_txn (next_of d.numbers) c.txn ≡ false
      → Row z c m [] (library.got_in d c f a phase)
  got-row d c (Getting leaf brick) f a m p fresh = past-over d c m _ (ap (phase_view m) p) (got-begun z few d c f a) fresh
  got-row d c other f a m p fresh = row-kept z c d m

  row-if : (c : OpenCall) (m : ℕ) (b : Bool) (r q : CallTurn) → (b ≡ true → Row z c m [] r) → (b ≡ false → Row z c m [] q) → Row z c m [] (if b then r else q)
  row-if c m true r q f g = f refl
  row-if c m false r q f g = g refl

  asking-row : (d : Desk) (c : OpenCall) (waiting left : List NodeNo) (was newest : Option Leaf) (old met : Met) (m : ℕ) → c.phase ≡ Asking waiting was old
      → same_txn (next_of d.numbers) c.txn ≡ false → Row z c m [] (library.told_on d c left newest met)
  asking-row d c waiting left was newest old met m p fresh =
      row-if c m (is_none_left left) _ _ (λ e. past-over d c m _ (ap (phase_view m) p) (told-begun z few d c.request newest met) fresh)
      (λ e. past-stays d c m (Asking left newest met) (ap (phase_view m) p) refl)

  told-row : (d : Desk) (c : OpenCall) (phase : Phase) (f : NodeNo) (leaf : Option Leaf) (m : ℕ) → c.phase ≡ phase → same_txn (next_of d.numbers) c.txn ≡ false
      → Row z c m [] (library.told_in d c f leaf phase)
  told-row d c (Asking waiting newest met) f leaf m p fresh = asking-row d c waiting (without waiting f) newest
      (library.newest_of leaf newest) met met m p fresh
  told-row d c other f leaf m p fresh = row-kept z c d m

  -- a notice of a node that the member isn't
  all-known : (p : ℕ → Bool) (ns : List ℕ) (m : ℕ) → list_all p ns ≡ true → has ns m ≡ true → p m ≡ true
  all-known p [] m h k = cc
  all-known p (n ∷ ns) m h k =
      let w = and_parts (p n) (list_all p ns) h in
      elim (n == m) as (λ b. (n == m) ≡ b → (b || has ns m) ≡ true → p m ≡ true) [
        | true ↦ λ e f. subst (λ i. p i ≡ true) (eqb-true n m e) w.0
        | false ↦ λ e f. all-known p ns m w.1 f
      ] refl k

  nothing-heard : (c : OpenCall) (m y : ℕ) (s : Say) (r : CallTurn) → (m == y) ≡ false → Row z c m (from_it m y s) r → Row z c m [] r
  nothing-heard c m y s r e h = subst (λ x. Row z c m x r) (ap (λ b. one b s) e) h

  not-known : (x : Bool) → x ≡ true → x ≡ false → ⊥
  not-known x e f = let q : true ≡ false = sym e ∙ f in cc

  no-call : (d : Desk) (c : OpenCall) (leaf : Leaf) (was : Option Bool) → (library.lost_or_applied d c leaf was).went.call ≡ None
  no-call d c leaf None = refl
  no-call d c leaf (Some was) = refl

  no-letters : (d : Desk) (c : OpenCall) (leaf : Leaf) (was : Option Bool) → (library.lost_or_applied d c leaf was).went.letters ≡ []
  no-letters d c leaf None = refl
  no-letters d c leaf (Some was) = refl

  without-row : (d : Desk) (c : OpenCall) (phase : Phase) (list : List NodeNo) (y : NodeNo) (m : ℕ) → c.phase ≡ phase → IsFor list phase
      → library.call_concerns phase y ≡ true → (m == y) ≡ false → Member z d list m → same_txn (next_of d.numbers) c.txn ≡ false
      → Row z c m [] (library.goes_without d c y phase)
  without-row d c (Getting leaf brick) list y m p i w ne h fresh = past-over d c m _ (ap (phase_view m) p) (begin-begun z few d c.request) fresh
  without-row d c (Preparing leaf members waiting) list y m p i w ne h fresh =
      row-if c m (list_all (λ n. has_node d.known n) members) _ _
      (λ e. absurd (not-known (has_node d.known m) (all-known (λ n. has_node d.known n) members m e (ap (λ ns. has ns m) i ∙ h.listed)) h.unknown))
      (λ e. nothing-heard c m y yes (library.prepared_on d c leaf members (without waiting y)) ne (prepared-row z d c leaf members waiting y m p w (subst
      (λ ns. Member z d ns m) (sym i) h)))
  without-row d c (Committing leaf members waiting was) list y m p i w ne h fresh =
      nothing-heard c m y applied (library.committed_without d c leaf members (without waiting y) was) ne
      (applied-if (is_none_left (without waiting y)) z d c leaf members waiting was was (library.lost_or_applied d c leaf was) y m p refl w
      (no-call d c leaf was) (no-letters d c leaf was))
  without-row d c (Aborting waiting why brick) list y m p i w ne h fresh =
      nothing-heard c m y aborted (library.aborted_on d c (without waiting y) why brick) ne (aborted-on-row z few d c waiting why brick y m p w fresh)
  without-row d c (Asking waiting newest met) list y m p i w ne h fresh = asking-row d c waiting (without waiting y) newest newest met met m p fresh

  -- a letter that says nothing
  pub quiet-row : (d : Desk) (c : OpenCall) (from : NodeNo) (l : Letter) (list : List NodeNo) (m : ℕ) → said l ≡ None → IsFor list c.phase
      → (l ≡ letter.Notice → (m == from) ≡ false) → Member z d list m → same_txn (next_of d.numbers) c.txn ≡ false → Row z c m [] (call_row d c from l)
  quiet-row d c from (letter.Got txn a) list m q i ne h fresh = got-row d c c.phase from a m refl fresh
  quiet-row d c from (letter.MapTell txn leaf) list m q i ne h fresh = told-row d c c.phase from leaf m refl fresh
  quiet-row d c from letter.Notice list m q i ne h fresh =
      row-if c m (library.call_concerns c.phase from) _ _ (λ w. without-row d c c.phase list from m refl i w (ne refl) h fresh) (λ w. row-kept z c d m)
  quiet-row d c from (letter.Vote txn vote) list m q i ne h fresh = cc
  quiet-row d c from (letter.Applied txn was) list m q i ne h fresh = cc
  quiet-row d c from (letter.Aborted txn) list m q i ne h fresh = cc
  quiet-row d c from other list m q i ne h fresh = row-kept z c d m

  -- one that says something, as the member may that sent it
  pub said-row : (d : Desk) (c : OpenCall) (from : NodeNo) (l : Letter) (txn : Txn) (y : Say) (list : List NodeNo) (m : ℕ) → said l ≡ Some (txn, y)
      → IsFor list c.phase → MaySay (phase_view from c.phase) y → Member z d list m → same_txn (next_of d.numbers) c.txn ≡ false
      → Row z c m (from_it m from y) (call_row d c from l)
  said-row d c from (letter.Vote x vote) txn y list m q i may h fresh =
      let e : vote_said vote ≡ y = said-same (x, vote_said vote) (txn, y) q in
      subst (λ y. Row z c m (from_it m from y) (library.vote_in d c from vote c.phase)) e
      (vote-row z d c c.phase list from m vote refl i (subst (MaySay (phase_view from c.phase)) (sym e) may) h)
  said-row d c from (letter.Applied x was) txn y list m q i may h fresh =
      let e : applied ≡ y = said-same (x, applied) (txn, y) q in
      subst (λ y. Row z c m (from_it m from y) (library.applied_in d c from was c.phase)) e
      (applied-row z d c c.phase from m was refl (subst (MaySay (phase_view from c.phase)) (sym e) may))
  said-row d c from (letter.Aborted x) txn y list m q i may h fresh =
      let e : aborted ≡ y = said-same (x, aborted) (txn, y) q in
      subst (λ y. Row z c m (from_it m from y) (library.aborted_in d c from c.phase)) e
      (aborted-row z few d c c.phase from m refl (subst (MaySay (phase_view from c.phase)) (sym e) may) fresh)
  said-row d c from other txn y list m q i may h fresh = cc
