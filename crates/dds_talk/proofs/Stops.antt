use Rattle.std.proofs.Common.{◌≡◌, ℕ, inl, inr, Bool, true, false, not, List, [], ◌∷◌, ◌++◌, Option, refl, sym, ap, ◌∙◌, subst}
use Rattle.std.proofs.lemmas.Bool.{cases_eq}
use Rattle.std.specs.FinMap.{get, get-empty}
use Rattle.dds_locks.specs.Outcomes.{txn_cmp}
use Rattle.dds_base.specs.NodeSet.{has_node, no_nodes}
use Rattle.dds_base.specs.Number.{Txn}
use Rattle.dds_letters.specs.declared.letter.Letter.{Letter}
use Rattle.dds_cluster.specs.World.{emptied}
use Rattle.dds_states.specs.Turn.{first_some}
use Rattle.dds_states.specs.declared.brick_state.BrickState.{BrickState}
use Rattle.dds_states.specs.declared.library_state.LibraryState.{LibraryState}
use Rattle.dds_net.specs.Event.{IsFront}
use Rattle.dds_net.specs.Net.{Net, a_brick, a_library, Sizes}
use Rattle.dds_talk.proofs.BrickTalks.{apart-from, brick-same, library-same, no-both}
use Rattle.dds_talk.proofs.Changes.{Ended, about-kept}
use Rattle.dds_talk.proofs.Letters.{about-append}
use Rattle.dds_talk.proofs.Moves.{library-stops, member-stops}
use Rattle.dds_talk.specs.Books.{Books}
use Rattle.dds_talk.specs.Parts.{BrickOk, Commit, Conversation, AllDecide, Decided, IsSure, LibraryOk, Meeting, NoAbort, AllTalk}
use Rattle.dds_talk.specs.Seen.{about, asked, asks, at, is_open, said, says}
use Rattle.dds_talk.specs.Table.{View, Ask, Say, At, Talks, IsTalk}
use Rattle.dds_talk.specs.Table.Ask.{prepare, commit, abort}
use Rattle.dds_talk.specs.Table.Talks.{gone}
use Rattle.dds_talk.specs.Table.IsTalk.{unknowing, knowing}

-- A stop keeps all parts: the books stay as they are.

library-is : {ml k : Bool} {v : View} {o p : List Ask} {s : At} {b c : List Say} (cut : List Ask) → k ≡ false → o ≡ p ++ cut → IsTalk true ml k v o s b
    → IsTalk false ml k v p s c
library-is {ml = ml} {v = v} {s = s} {b = b} cut e f (unknowing h) = unknowing (library-stops cut (subst (λ x. Talks true ml v x s b) f h))
library-is cut e f (knowing h) = cc

member-is : {ll k : Bool} {v : View} {o : List Ask} (p : List Ask) {s : At} (t : At) {b c : List Say} (cut : List Say) → (ll ≡ true → k ≡ false)
    → c ≡ b ++ cut → IsTalk ll true k v o s c → IsTalk ll false false v p t b
member-is {ll = ll} {v = v} {o = o} p {s = s} t cut e f (unknowing h) = unknowing (member-stops cut (subst (λ x. Talks ll true v o s x) f h))
member-is {ll = true} p t cut e f (knowing h) = let q = e refl in cc
member-is {ll = false} p t cut e f (knowing h) = unknowing gone

-- what is left of the letters of one attempt
left-of : {X : Type 0} (v : Letter → Option (Txn × X)) (t : Txn) (kept all : List Letter) (f : IsFront kept all)
    → about v t all ≡ about v t kept ++ about v t f.gone
left-of v t kept all f = ap (about v t) f.is ∙ about-append v t kept f.gone

no-abort-front : (o cut : List Ask) → NoAbort (o ++ cut) → NoAbort o
no-abort-front [] cut h = tt
no-abort-front (prepare ∷ o) cut h = no-abort-front o cut h
no-abort-front (commit ∷ o) cut h = no-abort-front o cut h
no-abort-front (abort ∷ o) cut h = absurd h

alive : (x : Bool) → not x ≡ true → x ≡ false
alive true e = cc
alive false e = refl

-- A library stops

module _ (z : Sizes) (w v : Net) (n : ℕ) (s : LibraryState) (kept : ℕ → List Letter) (b : Books) where
  abbrev stopped : LibraryState
  stopped = record s { stopped = true }

  pub record LibraryStop : Type 0 where
    pub step : Ended z w v n (a_library s) (a_library (record s { stopped = true })) kept
    pub live : s.stopped ≡ false
    pub nobody : (m : ℕ) (x : BrickState) → w.node m ≡ a_brick x → has_node x.known n ≡ false

  member-apart : LibraryStop → (m : ℕ) (x : BrickState) → v.node m ≡ a_brick x → m ≡ n → ⊥
  member-apart h m x is e = no-both (v.node n) stopped x h.step.is (ap v.node (sym e) ∙ is)

  member-was : LibraryStop → (m : ℕ) (x : BrickState) → v.node m ≡ a_brick x → w.node m ≡ a_brick x
  member-was h m x is = sym (h.step.others m (member-apart h m x is)) ∙ is

  out-left : LibraryStop → (t : Txn) (m : ℕ) → t.library ≡ n → asks t (v.channel t.library m) ≡ asks t (kept m)
  out-left h t m e = ap (λ i. asks t (v.channel i m)) e ∙ ap (asks t) (h.step.from m) ∙ about-kept asked t z n m (kept m) refl

  out-was : (h : LibraryStop) (t : Txn) (m : ℕ) → t.library ≡ n → asks t (w.channel t.library m) ≡ asks t (kept m) ++ asks t (h.step.front m).gone
  out-was h t m e = ap (λ i. asks t (w.channel i m)) e ∙ left-of asked t (kept m) (w.channel n m) (h.step.front m)

  own-talk : LibraryStop → AllTalk w b → (t : Txn) (m : ℕ) (x : BrickState) → t.library ≡ n → v.node m ≡ a_brick x → has_node s.known m ≡ false
      → Conversation v b t m stopped x
  own-talk h talk t m x e is un =
      let was = member-was h m x is in
      let live = h.live in
      let before = rw live at (talk t m s x (record { library = ap w.node e ∙ h.step.here; member = was; unknown = un })) in
      let none : has_node x.known t.library ≡ false = ap (has_node x.known) e ∙ h.nobody m x was in
      rw (out-left h t m e) (library-is (asks t (h.step.front m).gone) none (out-was h t m e) before)

  library-talks : LibraryStop → AllTalk w b → AllTalk v b
  library-talks h talk t m l x meets = elim (cases_eq t.library n) [
    | inl e ↦
        let same : stopped ≡ l = library-same stopped l (sym h.step.is ∙ ap v.node (sym e) ∙ meets.library) in
        subst (λ y. Conversation v b t m y x) same
        (own-talk h talk t m x e meets.member (subst (λ (y : LibraryState). has_node y.known m ≡ false) (sym same) meets.unknown))
    | inr ne ↦
        let out : v.channel t.library m ≡ w.channel t.library m = h.step.far t.library m ne in
        let back : v.channel m t.library ≡ w.channel m t.library = h.step.far m t.library (member-apart h m x meets.member) in
        rw (out, back) (talk t m l x (record {
          library = sym (h.step.others t.library ne) ∙ meets.library;
          member = member-was h m x meets.member;
          unknown = meets.unknown;
        }))
  ]

  own-sure : LibraryStop → AllDecide w b → (t : Txn) (m : ℕ) (x : BrickState) → t.library ≡ n → Decided v b t m stopped x → IsSure v b t m stopped x
  own-sure h decide t m x e d =
      let old = decide t m s x (record {
        meets = record { library = ap w.node e ∙ h.step.here; member = member-was h m x d.meets.member; unknown = d.meets.unknown };
        live = d.live;
        member = d.member;
        decided = d.decided;
      }) in
      rw (out-left h t m e)
      (record {
        at = old.at;
        none = no-abort-front (asks t (kept m)) (asks t (h.step.front m).gone) (subst NoAbort
            (out-was h t m e) old.none);
        view = λ q. cc;
      })

  library-decides : LibraryStop → AllDecide w b → AllDecide v b
  library-decides h decide t m l x d = elim (cases_eq t.library n) [
    | inl e ↦
        let same : stopped ≡ l = library-same stopped l (sym h.step.is ∙ ap v.node (sym e) ∙ d.meets.library) in
        subst (λ y. Decided v b t m y x → IsSure v b t m y x) same (own-sure h decide t m x e) d
    | inr ne ↦
        let out : v.channel t.library m ≡ w.channel t.library m = h.step.far t.library m ne in
        rw out (decide t m l x (record {
          meets = record {
            library = sym (h.step.others t.library ne) ∙ d.meets.library;
            member = member-was h m x d.meets.member;
            unknown = d.meets.unknown;
          };
          live = d.live;
          member = d.member;
          decided = d.decided;
        }))
  ]

  stopped-ok : (k : ℕ) → LibraryOk z b k s → LibraryOk z b k stopped
  stopped-ok k ok =
      record {
        number = ok.number;
        apart = ok.apart;
        calls = λ t c e. let m = ok.calls t c e in record { library = m.library; below = m.below; list = m.list; decided = m.decided };
        unmade = ok.unmade;
        undecided = ok.undecided;
        groups = ok.groups;
      }

  library-was : (h : LibraryStop) (P : LibraryState → Type 0) (k : ℕ) (l : LibraryState) → v.node k ≡ a_library l → (w.node k ≡ a_library l → P l)
      → (w.node k ≡ a_library s → P stopped) → P l
  library-was h P k l is f g = elim (cases_eq k n) [
    | inl e ↦
        let same : stopped ≡ l = library-same stopped l (sym h.step.is ∙ ap v.node (sym e) ∙ is) in
        subst P same (g (ap w.node e ∙ h.step.here))
    | inr ne ↦ f (sym (h.step.others k ne) ∙ is)
  ]

  pub library-stop-keeps : LibraryStop → Commit z w b → Commit z v b
  library-stop-keeps h c =
      record {
        talk = library-talks h c.talk;
        note = λ k x is. c.note k x (member-was h k x is);
        calls = λ k l is. library-was h (LibraryOk z b k) k l is (λ was. c.calls k l was) (λ was. stopped-ok k (c.calls k s was));
        decide = library-decides h c.decide;
        noted = c.noted;
        kept = λ t m l x library is lives up.
            library-was h (λ y. is_open y t ≡ true → b.noted m t ≡ get x.locks.outcomes t) t.library l library
            (λ was. c.kept t m l x was (member-was h m x is) lives) (λ was. c.kept t m s x was (member-was h m x is) lives) up;
      }

-- A brick stops

module _ (z : Sizes) (w v : Net) (n : ℕ) (s : BrickState) (kept : ℕ → List Letter) (b : Books) where
  pub record BrickStop : Type 0 where
    pub step : Ended z w v n (a_brick s) (a_brick (emptied s.number)) kept
    pub live : s.stopped ≡ false
    pub none : (i : ℕ) → has_node no_nodes i ≡ false
    -- no live library is known to a brick
    pub nobody : (k : ℕ) (l : LibraryState) (x : BrickState) (m : ℕ) → w.node k ≡ a_library l → w.node m ≡ a_brick x → l.stopped ≡ false
        → has_node x.known k ≡ false

  far-library : BrickStop → (t : Txn) (l : LibraryState) → v.node t.library ≡ a_library l → t.library ≡ n → ⊥
  far-library h t l is = apart-from v t n l (emptied s.number) is h.step.is

  here-talk : BrickStop → AllTalk w b → (t : Txn) (l : LibraryState) → v.node t.library ≡ a_library l → has_node l.known n ≡ false
      → Conversation v b t n l (emptied s.number)
  here-talk h talk t l is un =
      let far = far-library h t l is in
      let library : w.node t.library ≡ a_library l = sym (h.step.others t.library far) ∙ is in
      let live = h.live in
      let before = rw live at (talk t n l s (record { library = library; member = h.step.here; unknown = un })) in
      let back : says t (v.channel n t.library) ≡ says t (kept t.library) =
      ap (says t) (h.step.from t.library) ∙ about-kept said t z n t.library (kept t.library) refl in
      let old = left-of said t (kept t.library) (w.channel n t.library) (h.step.front t.library) in
      rw (back, h.none t.library) (member-is (asks t (v.channel t.library n)) (at (emptied s.number).locks.pending (b.noted n t) t)
      (says t (h.step.front t.library).gone) (λ q. h.nobody t.library l s n library h.step.here (alive l.stopped q)) old before)

  brick-talks : BrickStop → AllTalk w b → AllTalk v b
  brick-talks h talk t m l x meets = elim (cases_eq m n) [
    | inl e ↦ subst (λ k. (y : BrickState) → Meeting v t k l y → Conversation v b t k l y) (sym e)
        (λ y meets.
        let same : emptied s.number ≡ y = brick-same (emptied s.number) y (sym h.step.is ∙ meets.member) in
        subst (λ y. Conversation v b t n l y) same (here-talk h talk t l meets.library meets.unknown)) x meets
    | inr ne ↦
        let far = far-library h t l meets.library in
        let out : v.channel t.library m ≡ w.channel t.library m = h.step.far t.library m far in
        let back : v.channel m t.library ≡ w.channel m t.library = h.step.far m t.library ne in
        rw (out, back) (talk t m l x (record {
          library = sym (h.step.others t.library far) ∙ meets.library;
          member = sym (h.step.others m ne) ∙ meets.member;
          unknown = meets.unknown;
        }))
  ]

  -- a live brick is another one
  live-other : BrickStop → (m : ℕ) (x : BrickState) → v.node m ≡ a_brick x → x.stopped ≡ false → m ≡ n → ⊥
  live-other h m x is lives e =
      let same : emptied s.number ≡ x = brick-same (emptied s.number) x (sym h.step.is ∙ ap v.node (sym e) ∙ is) in
      let bad : true ≡ false = ap (λ (y : BrickState). y.stopped) same ∙ lives in
      cc

  brick-decides : BrickStop → AllDecide w b → AllDecide v b
  brick-decides h decide t m l x d =
      let ne = live-other h m x d.meets.member d.live in
      let far = far-library h t l d.meets.library in
      let out : v.channel t.library m ≡ w.channel t.library m = h.step.far t.library m far in
      rw out (decide t m l x (record {
        meets = record {
          library = sym (h.step.others t.library far) ∙ d.meets.library;
          member = sym (h.step.others m ne) ∙ d.meets.member;
          unknown = d.meets.unknown;
        };
        live = d.live;
        member = d.member;
        decided = d.decided;
      }))

  library-here : BrickStop → (k : ℕ) (l : LibraryState) → v.node k ≡ a_library l → w.node k ≡ a_library l
  library-here h k l is = sym (h.step.others k (λ e. no-both (v.node n) l (emptied s.number) (ap v.node (sym e) ∙ is) h.step.is)) ∙ is

  empty-ok : BrickOk (b.noted n) (emptied s.number)
  empty-ok = record { agrees = λ t. ap (λ g. first_some g (b.noted n t)) (get-empty txn_cmp t); free = λ t e. cc; once = tt; apart = tt }

  pub brick-stop-keeps : BrickStop → Commit z w b → Commit z v b
  brick-stop-keeps h c =
      record {
        talk = brick-talks h c.talk;
        note = λ k x is. elim (cases_eq k n) [
          | inl e ↦
              let same : emptied s.number ≡ x = brick-same (emptied s.number) x (sym h.step.is ∙ ap v.node (sym e) ∙ is) in
              subst (λ y. BrickOk (b.noted k) y) same (subst (λ i. BrickOk (b.noted i) (emptied s.number)) (sym e) empty-ok)
          | inr ne ↦ c.note k x (sym (h.step.others k ne) ∙ is)
        ];
        calls = λ k l is. c.calls k l (library-here h k l is);
        decide = brick-decides h c.decide;
        noted = c.noted;
        kept = λ t m l x library is lives up.
            c.kept t m l x (library-here h t.library l library) (sym (h.step.others m (live-other h m x is lives)) ∙ is) lives up;
      }
