use Rattle.std.proofs.Common.{◌≡◌, ℕ, ◌<◌, ◌≤◌, inl, inr, Bool, true, false, List, Option, Some, None, refl, sym, ap, ◌∙◌, subst, arith}
use Rattle.std.proofs.lemmas.Bool.{cases_eq}
use Rattle.std.proofs.lemmas.Bool.Decides.{nat_tests}
use Rattle.std.specs.FinMap.{get}
use Rattle.std.specs.Prelude.{nat_le}
use Rattle.dds_base.specs.NodeSet.{has_node}
use Rattle.dds_base.specs.Number.{Txn}
use Rattle.dds_states.specs.Turn.{first_some}
use Rattle.dds_states.specs.declared.brick_state.BrickState.{BrickState}
use Rattle.dds_states.specs.declared.library_state.LibraryState.{LibraryState}
use Rattle.dds_states.specs.declared.turn.CoreTurn.{CoreTurn}
use Rattle.dds_net.specs.Net.{Net, a_brick, a_library, Sizes}
use Rattle.dds_talk.proofs.BrickDone.{new-is, new-view}
use Rattle.dds_talk.proofs.BrickTalks.{library-same, no-both}
use Rattle.dds_talk.proofs.Folds.{AreGroups, Start}
use Rattle.dds_talk.proofs.LibraryTalks.{LibraryStep, library-calls, library-decides, library-noted, library-talks}
use Rattle.dds_talk.proofs.Locks.{at-none}
use Rattle.dds_talk.proofs.Turns.{found-is, or-stands}
use Rattle.dds_talk.specs.Books.{Books, or_else, with_library}
use Rattle.dds_talk.specs.Parts.{Commit, IsFor, AllKeep, LibraryOk}
use Rattle.dds_talk.specs.Seen.{call_of, is_open, members_in}
use Rattle.dds_talk.specs.Table.{Say}

-- A library's turn keeps all parts.

-- the library at the start of its turn
pub start-of : (z : Sizes) (b : Books) (k : ℕ) (s : LibraryState) → z.bricks ≤ 64 → LibraryOk z b k s → Start z b k s
start-of z b k s few ok =
    let stands : (t : Txn) → or_else (b.list t) (members_in (call_of s.calls t)) ≡ b.list t =
    λ t. or-stands (b.list t) (call_of s.calls t) (λ x e. subst (λ v. IsFor (b.list v) x.phase) (found-is s.calls t x e) (ok.calls t x e).list) in
    record {
      few = few;
      mid = record {
        number = ok.number;
        apart = ok.apart;
        calls = λ t c e. let m = ok.calls t c e in record {
          library = m.library ∙ ok.number;
          below = m.below;
          list = subst (λ list. IsFor list c.phase) (sym (stands c.txn)) m.list;
        };
      };
      stands = λ t e. stands t;
      unmade = ok.unmade;
      groups = ok.groups;
    }

not-true : (x : Bool) → x ≡ true → x ≡ false → ⊥
not-true x e f = let q : true ≡ false = sym e ∙ f in cc

made-if : (a n : ℕ) (d c : Bool) → nat_le a n ≡ c → (a ≤ n → d ≡ false) → d ≡ true → n < a
made-if a n d true e f g = absurd (not-true d g (f (grind (arith, nat_tests, e))))
made-if a n d false e f g = grind (arith, nat_tests, e)

made : (z : Sizes) (b : Books) (k : ℕ) (s : LibraryState) → LibraryOk z b k s → (t : Txn) → t.library ≡ k → b.decided t ≡ true → t.number < s.next
made z b k s ok t e d = made-if s.next t.number (b.decided t) (nat_le s.next t.number) refl (λ le. ok.undecided t e le) d

module _ (z : Sizes) (w v : Net) (n : ℕ) (s u : LibraryState) (heard : Txn → ℕ → List Say) (out : CoreTurn) (b : Books) where
  brick-was : LibraryStep z w v n s u heard out b → (m : ℕ) (x : BrickState) → v.node m ≡ a_brick x → w.node m ≡ a_brick x
  brick-was h m x is = sym (h.step.others m (λ e. no-both (v.node n) u x h.step.is (ap v.node (sym e) ∙ is))) ∙ is

  -- an attempt that is new: nothing was noted of it
  none-first : (g o : Option Bool) → first_some g o ≡ None → g ≡ None
  none-first None o e = refl
  none-first (Some c) o e = cc

  new-kept : Commit z w b → w.node n ≡ a_library s → (t : Txn) (m : ℕ) (x : BrickState) → w.node m ≡ a_brick x → x.stopped ≡ false
      → has_node s.known m ≡ false → t.library ≡ n → s.next ≤ t.number → b.noted m t ≡ get x.locks.outcomes t
  new-kept parts here t m x is lives un e le =
      let old = rw lives at (parts.talk t m s x (record { library = ap w.node e ∙ here; member = is; unknown = un })) in
      let none = (at-none x.locks.pending (b.noted m t) t (new-is (new-view s (b.list t) t m le) old)).1 in
      let stood = none-first (get x.locks.outcomes t) (b.noted m t) ((parts.note m x is).agrees t ∙ none) in
      none ∙ sym stood

  kept-if : LibraryStep z w v n s u heard out b → Commit z w b → (t : Txn) (m : ℕ) (x : BrickState) → w.node m ≡ a_brick x → x.stopped ≡ false
      → has_node s.known m ≡ false → t.library ≡ n → is_open u t ≡ true → (c : Bool) → nat_le s.next t.number ≡ c → b.noted m t ≡ get x.locks.outcomes t
  kept-if h parts t m x is lives un e up true le = new-kept parts h.step.here t m x is lives un e (grind (arith, nat_tests, le))
  kept-if h parts t m x is lives un e up false le =
      parts.kept t m s x (ap w.node e ∙ h.step.here) is lives (h.saw.opens t (grind (arith, nat_tests, le)) up)

  library-kept : LibraryStep z w v n s u heard out b → Commit z w b
      → ((m : ℕ) (x : BrickState) → w.node m ≡ a_brick x → x.stopped ≡ false → has_node s.known m ≡ false) → AllKeep v (with_library n u b)
  library-kept h parts un t m l x library is lives up =
      let was = brick-was h m x is in
      elim (cases_eq t.library n) [
        | inl e ↦
            let same : u ≡ l = library-same u l (sym h.step.is ∙ ap v.node (sym e) ∙ library) in
            kept-if h parts t m x was lives (un m x was lives) e (ap (λ y. is_open y t) same ∙ up) (nat_le s.next t.number) refl
        | inr ne ↦ parts.kept t m l x (sym (h.step.others t.library ne) ∙ library) was lives up
      ]

  pub library-keeps : LibraryStep z w v n s u heard out b → AreGroups z u → Commit z w b
      → ((m : ℕ) (x : BrickState) → w.node m ≡ a_brick x → x.stopped ≡ false → has_node s.known m ≡ false) → Commit z v (with_library n u b)
  library-keeps h groups parts un =
      let talk = library-talks z w v n s u heard out b h parts.talk in
      record {
        talk = talk;
        note = λ k x is. parts.note k x (brick-was h k x is);
        calls = library-calls z w v n s u heard out b h groups parts.calls;
        decide = library-decides z w v n s u heard out b h parts.decide talk (made z b n s (parts.calls n s h.step.here));
        noted = library-noted n u b parts.noted;
        kept = library-kept h parts un;
      }
