use Rattle.std.proofs.Common.{◌≡◌, ℕ, ◌<◌, ◌≤◌, ◌||◌, ◌⊎◌, inl, inr, Bool, true, false, List, [], ◌∷◌, ◌++◌, Option, Some, None, refl, sym}
use Rattle.std.proofs.Common.{ap, ◌∙◌, subst, arith, eqb}
use Rattle.std.proofs.lemmas.Bool.{cases_eq, eq-eqb, ne_eqb}
use Rattle.std.specs.List.{AllByRecursion}
use Rattle.std.specs.Prelude.{if◌then◌else◌, nat_le}
use Rattle.dds_base.specs.BrickList.{has}
use Rattle.dds_base.specs.NodeSet.{has_node}
use Rattle.dds_base.specs.Number.{Txn, same_txn}
use Rattle.dds_states.specs.declared.brick_state.BrickState.{BrickState}
use Rattle.dds_states.specs.declared.library_state.LibraryState.{LibraryState}
use Rattle.dds_states.specs.declared.library_state.OpenCall.{OpenCall}
use Rattle.dds_states.specs.declared.library_state.Phase.{Phase}
use Rattle.dds_states.specs.declared.library_state.Phase.TheVariants.{Getting, Preparing, Committing, Aborting, Asking}
use Rattle.dds_states.specs.declared.turn.CoreTurn.{CoreTurn}
use Rattle.dds_net.specs.Net.{Net, a_brick, a_library, Sizes, gains, is_in}
use Rattle.dds_talk.proofs.BrickTalks.{library-same, no-both}
use Rattle.dds_talk.proofs.Changes.{Turned}
use Rattle.dds_talk.proofs.Folds.{AreGroups, Start}
use Rattle.dds_talk.proofs.Letters.{about-append}
use Rattle.dds_talk.proofs.LibraryTurns.{Saw}
use Rattle.dds_talk.proofs.Many.{many-is, many-sure}
use Rattle.dds_talk.proofs.Sure.{IsDoing, is-sure}
use Rattle.dds_talk.proofs.Turns.{Mid, found-is, fresh, not-new, now, or-nothing, some-same}
use Rattle.dds_talk.specs.Books.{Books, or_else, with_library}
use Rattle.dds_talk.specs.Parts.{AllCall, Conversation, AllDecide, Decided, IsFor, IsSure, LibraryOk, Meeting, NotedAsDecided, AllTalk}
use Rattle.dds_talk.specs.Seen.{IsGroup, asked, asks, at, call_of, commits_now, is_committing, members_in, members_of, phase_view}
use Rattle.dds_talk.specs.Seen.{says, view}
use Rattle.dds_talk.specs.Table.{Say}
use Rattle.dds_talk.specs.Table.View.{CommitDue, CommitHeard}

-- A library's turn keeps the conversations, what is sure, and what is so of its calls.

-- the books of an attempt of the library, and of one of another library
list-here : (n : ℕ) (u : LibraryState) (b : Books) (t : Txn) → t.library ≡ n → (with_library n u b).list t ≡ now b u t
list-here n u b t e = let q : eqb t.library n ≡ true = eq-eqb t.library n e in rw q refl

list-other : (n : ℕ) (u : LibraryState) (b : Books) (t : Txn) → (t.library ≡ n → ⊥) → (with_library n u b).list t ≡ b.list t
list-other n u b t ne = let q : eqb t.library n ≡ false = ne_eqb t.library n ne in rw q refl

decided-here : (n : ℕ) (u : LibraryState) (b : Books) (t : Txn) → t.library ≡ n → (with_library n u b).decided t ≡ (b.decided t || is_committing
    (call_of u.calls t))
decided-here n u b t e = let q : eqb t.library n ≡ true = eq-eqb t.library n e in rw q refl

decided-other : (n : ℕ) (u : LibraryState) (b : Books) (t : Txn) → (t.library ≡ n → ⊥) → (with_library n u b).decided t ≡ b.decided t
decided-other n u b t ne = let q : eqb t.library n ≡ false = ne_eqb t.library n ne in rw q refl

-- a library's turn in a net, and what is known of its links
pub record LibraryStep (z : Sizes) (w v : Net) (n : ℕ) (s u : LibraryState) (heard : Txn → ℕ → List Say) (out : CoreTurn) (b : Books) : Type 0 where
  pub step : Turned z w v n (a_library s) (a_library u) out.letters
  pub into : (t : Txn) (m : ℕ) → (m ≡ n → ⊥) → says t (w.channel m n) ≡ heard t m ++ says t (v.channel m n)
  pub saw : Saw z b n s u heard out
  pub start : Start z b n s
  pub alive : s.stopped ≡ false
  pub unknown : (m : ℕ) (x : BrickState) → w.node m ≡ a_brick x → has_node x.known n ≡ false
  pub inside : (m : ℕ) (x : BrickState) → w.node m ≡ a_brick x → is_in z m ≡ true

module _ (z : Sizes) (w v : Net) (n : ℕ) (s u : LibraryState) (heard : Txn → ℕ → List Say) (out : CoreTurn) (b : Books) where
  member-apart : LibraryStep z w v n s u heard out b → (m : ℕ) (x : BrickState) → v.node m ≡ a_brick x → m ≡ n → ⊥
  member-apart h m x is e = no-both (v.node n) u x h.step.is (ap v.node (sym e) ∙ is)

  member-was : LibraryStep z w v n s u heard out b → (m : ℕ) (x : BrickState) → v.node m ≡ a_brick x → w.node m ≡ a_brick x
  member-was h m x is = sym (h.step.others m (member-apart h m x is)) ∙ is

  -- of an attempt of the library
  sent : LibraryStep z w v n s u heard out b → (t : Txn) (m : ℕ) → t.library ≡ n → (m ≡ n → ⊥)
      → asks t (v.channel t.library m) ≡ asks t (w.channel t.library m) ++ asks t (gains z out.letters m)
  sent h t m e ne =
      ap (λ i. asks t (v.channel i m)) e ∙ ap (asks t) (h.step.from m ne) ∙ about-append asked t (w.channel n m) (gains z out.letters m)
      ∙ ap (λ i. asks t (w.channel i m) ++ asks t (gains z out.letters m)) (sym e)

  own-talk : LibraryStep z w v n s u heard out b → AllTalk w b → (t : Txn) (m : ℕ) (x : BrickState) → t.library ≡ n → v.node m ≡ a_brick x
      → has_node u.known m ≡ false → Conversation v (with_library n u b) t m u x
  own-talk h talk t m x e is un =
      let was = member-was h m x is in
      let ne = member-apart h m x is in
      let old = talk t m s x (record { library = ap w.node e ∙ h.step.here; member = was; unknown = h.saw.known m un }) in
      let alive = h.alive in
      let stays : u.stopped ≡ false = h.saw.stopped ∙ h.alive in
      let nobody : has_node x.known t.library ≡ false = ap (has_node x.known) e ∙ h.unknown m x was in
      let back : says t (w.channel m t.library) ≡ heard t m ++ says t (v.channel m t.library) =
      ap (λ i. says t (w.channel m i)) e ∙ h.into t m ne ∙ ap (λ i. heard t m ++ says t (v.channel m i)) (sym e) in
      let list = list-here n u b t e in
      let before = rw alive at old in
      rw (stays, list) (many-is nobody (h.saw.sees t m e (h.inside m x was) un) back (sent h t m e ne) before)

  other-talk : LibraryStep z w v n s u heard out b → AllTalk w b → (t : Txn) (m : ℕ) (l : LibraryState) (x : BrickState) → (t.library ≡ n → ⊥)
      → Meeting v t m l x → Conversation v (with_library n u b) t m l x
  other-talk h talk t m l x ne meets =
      let apart = member-apart h m x meets.member in
      let out : v.channel t.library m ≡ w.channel t.library m = h.step.far t.library m ne apart in
      let back : v.channel m t.library ≡ w.channel m t.library = h.step.far m t.library apart ne in
      let list = list-other n u b t ne in
      rw (out, back, list) (talk t m l x (record {
        library = sym (h.step.others t.library ne) ∙ meets.library;
        member = member-was h m x meets.member;
        unknown = meets.unknown;
      }))

  pub library-talks : LibraryStep z w v n s u heard out b → AllTalk w b → AllTalk v (with_library n u b)
  library-talks h talk t m l x meets = elim (cases_eq t.library n) [
    | inl e ↦
        let same : u ≡ l = library-same u l (sym h.step.is ∙ ap v.node (sym e) ∙ meets.library) in
        subst (λ y. Conversation v (with_library n u b) t m y x) same
        (own-talk h talk t m x e meets.member (subst (λ (y : LibraryState). has_node y.known m ≡ false) (sym same) meets.unknown))
    | inr ne ↦ other-talk h talk t m l x ne meets
  ]

  -- what is sure
  doing-phase : (m : ℕ) (p : Phase) → commits_now p ≡ true → IsDoing (phase_view m p)
  doing-phase m (Committing leaf list waiting was) e = elim (has waiting m) as (λ b. IsDoing (if b then CommitDue else CommitHeard)) [ true ↦ tt | false ↦ tt ]
  doing-phase m (Getting leaf brick) e = cc
  doing-phase m (Preparing leaf list waiting) e = cc
  doing-phase m (Aborting waiting why brick) e = cc
  doing-phase m (Asking waiting newest met) e = cc

  doing-call : (list : List ℕ) (t : Txn) (m : ℕ) (o : Option OpenCall) → Mid b n u → call_of u.calls t ≡ o → is_committing o ≡ true → has list m ≡ true
      → IsDoing (view u list t m)
  doing-call list t m None mid e c h = cc
  doing-call list t m (Some x) mid e c h =
      let low : nat_le u.next t.number ≡ false =
      not-new u.next t.number (subst (λ (k : Txn). k.number < u.next) (found-is u.calls t x e) (mid.calls t x e).below) in
      rw (low, h, e) (doing-phase m x.phase c)

  or-split : (a c : Bool) → (a || c) ≡ true → (a ≡ true) ⊎ (c ≡ true)
  or-split true c e = inl refl
  or-split false c e = inr e

  own-sure : LibraryStep z w v n s u heard out b → AllDecide w b → AllTalk v (with_library n u b) → ((t : Txn) → t.library ≡ n → b.decided t ≡ true
      → t.number < s.next)
      → (t : Txn) (m : ℕ) (x : BrickState) → t.library ≡ n → Decided v (with_library n u b) t m u x → IsSure v (with_library n u b) t m u x
  own-sure h decide talk made t m x e d = elim (or-split (b.decided t) (is_committing (call_of u.calls t)) (sym (decided-here n u b t e) ∙ d.decided)) [
    | inl dec ↦
        let was = member-was h m x d.meets.member in
        let ne = member-apart h m x d.meets.member in
        let un = d.meets.unknown in
        let list = list-here n u b t e in
        let stands = h.saw.stands t e (made t e dec) in
        let old = decide t m s x (record {
          meets = record { library = ap w.node e ∙ h.step.here; member = was; unknown = h.saw.known m un };
          live = d.live;
          member = ap (λ ns. has ns m) (sym (list ∙ stands)) ∙ d.member;
          decided = dec;
        }) in
        let alive = h.alive in
        let stays : u.stopped ≡ false = h.saw.stopped ∙ h.alive in
        let before = rw alive at old in
        rw (stays, list, sent h t m e ne) (many-sure (asks t (w.channel t.library m)) (at x.locks.pending (b.noted m t) t)
        (h.saw.sees t m e (h.inside m x was) un) before)
    | inr cm ↦
        let lives = d.live in
        let now-talk = rw lives at (talk t m u x d.meets) in
        is-sure now-talk (doing-call ((with_library n u b).list t) t m (call_of u.calls t) h.saw.mid refl cm d.member)
  ]

  other-sure : LibraryStep z w v n s u heard out b → AllDecide w b → (t : Txn) (m : ℕ) (l : LibraryState) (x : BrickState) → (t.library ≡ n → ⊥)
      → Decided v (with_library n u b) t m l x → IsSure v (with_library n u b) t m l x
  other-sure h decide t m l x ne d =
      let apart = member-apart h m x d.meets.member in
      let out : v.channel t.library m ≡ w.channel t.library m = h.step.far t.library m ne apart in
      let list = list-other n u b t ne in
      rw (out, list) (decide t m l x (record {
        meets = record {
          library = sym (h.step.others t.library ne) ∙ d.meets.library;
          member = member-was h m x d.meets.member;
          unknown = d.meets.unknown;
        };
        live = d.live;
        member = ap (λ ns. has ns m) (sym list) ∙ d.member;
        decided = sym (decided-other n u b t ne) ∙ d.decided;
      }))

  pub library-decides : LibraryStep z w v n s u heard out b → AllDecide w b → AllTalk v (with_library n u b)
      → ((t : Txn) → t.library ≡ n → b.decided t ≡ true → t.number < s.next) → AllDecide v (with_library n u b)
  library-decides h decide talk made t m l x d = elim (cases_eq t.library n) [
    | inl e ↦
        let same : u ≡ l = library-same u l (sym h.step.is ∙ ap v.node (sym e) ∙ d.meets.library) in
        subst (λ y. Decided v (with_library n u b) t m y x → IsSure v (with_library n u b) t m y x) same (own-sure h decide talk made t m x e) d
    | inr ne ↦ other-sure h decide t m l x ne d
  ]

  -- calls
  all-found : (P : OpenCall → Type 0) (cs : List OpenCall) (t : Txn) (c : OpenCall) → AllByRecursion P cs → call_of cs t ≡ Some c → P c
  all-found P [] t c h e = cc
  all-found P (x ∷ cs) t c h e = elim (same_txn x.txn t) as (λ q. same_txn x.txn t ≡ q → P c) [
    | true ↦ λ q. let is : x ≡ c = some-same (sym (first q) ∙ e) in subst P is h.0
    | false ↦ λ q. all-found P cs t c h.1 (sym (next q) ∙ e)
  ] refl
    where
      first : same_txn x.txn t ≡ true → call_of (x ∷ cs) t ≡ Some x
      first q = rw q refl

      next : same_txn x.txn t ≡ false → call_of (x ∷ cs) t ≡ call_of cs t
      next q = rw q refl

  group-if : (list : List ℕ) (o : Option OpenCall) → IsGroup z list → ((c : OpenCall) → o ≡ Some c → IsGroup z (members_of c.phase))
      → IsGroup z (or_else list (members_in o))
  group-if [] None g h = g
  group-if [] (Some c) g h = h c refl
  group-if (x ∷ list) o g h = g

  or-true : (a c : Bool) → c ≡ true → (a || c) ≡ true
  or-true true c e = refl
  or-true false c e = e

  pub own-calls : LibraryStep z w v n s u heard out b → AreGroups z u → ((t : Txn) → t.library ≡ n → s.next ≤ t.number → b.decided t ≡ false)
      → LibraryOk z (with_library n u b) n u
  own-calls h groups undecided =
      let more = h.saw.next in
      record {
        number = h.saw.mid.number;
        apart = h.saw.mid.apart;
        calls = λ t c e.
            let m = h.saw.mid.calls t c e in
            record {
              library = m.library ∙ sym h.saw.mid.number;
              below = m.below;
              list = subst (λ list. IsFor list c.phase) (sym (list-here n u b c.txn m.library)) m.list;
              decided = λ q. decided-here n u b c.txn m.library ∙ or-true (b.decided c.txn) (is_committing (call_of u.calls c.txn))
                  (ap is_committing (ap (call_of u.calls) (found-is u.calls t c e) ∙ e) ∙ q);
            };
        unmade = λ t e le. list-here n u b t e ∙ or-nothing (b.list t) (members_in (call_of u.calls t)) (h.start.unmade t e (omega (arith, more, le)))
            ∙ ap members_in (fresh b n u t h.saw.mid le);
        undecided = λ t e le. decided-here n u b t e ∙ ap (λ d. d || is_committing (call_of u.calls t)) (undecided t e (omega (arith, more, le)))
            ∙ ap is_committing (fresh b n u t h.saw.mid le);
        groups = λ t e. subst (IsGroup z) (sym (list-here n u b t e)) (group-if (b.list t) (call_of u.calls t) (h.start.groups t e)
            (λ c f. all-found (λ (x : OpenCall). IsGroup z (members_of x.phase)) u.calls t c groups f));
      }

  other-calls : (k : ℕ) (y : LibraryState) → (k ≡ n → ⊥) → LibraryOk z b k y → LibraryOk z (with_library n u b) k y
  other-calls k y ne ok =
      record {
        number = ok.number;
        apart = ok.apart;
        calls = λ t c e.
            let m = ok.calls t c e in
            let far : c.txn.library ≡ n → ⊥ = λ q. ne (sym (m.library ∙ ok.number) ∙ q) in
            record {
              library = m.library;
              below = m.below;
              list = subst (λ list. IsFor list c.phase) (sym (list-other n u b c.txn far)) m.list;
              decided = λ q. decided-other n u b c.txn far ∙ m.decided q;
            };
        unmade = λ t e le. list-other n u b t (λ q. ne (sym e ∙ q)) ∙ ok.unmade t e le;
        undecided = λ t e le. decided-other n u b t (λ q. ne (sym e ∙ q)) ∙ ok.undecided t e le;
        groups = λ t e. subst (IsGroup z) (sym (list-other n u b t (λ q. ne (sym e ∙ q)))) (ok.groups t e);
      }

  pub library-calls : LibraryStep z w v n s u heard out b → AreGroups z u → AllCall z w b → AllCall z v (with_library n u b)
  library-calls h groups calls k y is = elim (cases_eq k n) [
    | inl e ↦
        let same : u ≡ y = library-same u y (sym h.step.is ∙ ap v.node (sym e) ∙ is) in
        let ok : LibraryOk z b n s = calls n s h.step.here in
        subst (λ x. LibraryOk z (with_library n u b) k x) same
        (subst (λ i. LibraryOk z (with_library n u b) i u) (sym e) (own-calls h groups (λ t f le. ok.undecided t f le)))
    | inr ne ↦ other-calls k y ne (calls k y (sym (h.step.others k ne) ∙ is))
  ]

-- the books of decisions only grow
pub decided-grows : (n : ℕ) (u : LibraryState) (b : Books) (t : Txn) → b.decided t ≡ true → (with_library n u b).decided t ≡ true
decided-grows n u b t d = elim (cases_eq t.library n) [
  | inl e ↦ decided-here n u b t e ∙ ap (λ x. x || is_committing (call_of u.calls t)) d
  | inr ne ↦ decided-other n u b t ne ∙ d
]

pub library-noted : (n : ℕ) (u : LibraryState) (b : Books) → NotedAsDecided b → NotedAsDecided (with_library n u b)
library-noted n u b h k t e = decided-grows n u b t (h k t e)
