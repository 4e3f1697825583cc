use Rattle.std.proofs.Common.{◌≡◌, ℕ, inl, inr, Bool, true, false, List, [], ◌∷◌, ◌++◌, refl, sym, ap, ◌∙◌, subst}
use Rattle.std.proofs.lemmas.Bool.{cases_eq}
use Rattle.std.proofs.lemmas.List.{append-nil}
use Rattle.dds_base.specs.Number.{Txn}
use Rattle.dds_letters.specs.declared.letter.Letter.{Letter}
use Rattle.dds_states.specs.declared.brick_state.BrickState.{BrickState}
use Rattle.dds_states.specs.declared.library_state.LibraryState.{LibraryState}
use Rattle.dds_net.specs.Event.{IsDeaf, IsFirst, takes}
use Rattle.dds_net.specs.Net.{Net, a_brick, a_library, Sizes, changed, gains, is_in, when_in}
use Rattle.dds_talk.proofs.BrickTalks.{no-both}
use Rattle.dds_talk.proofs.Changes.{Turned, is-taken, takes-rest, takes-turned}
use Rattle.dds_talk.specs.Books.{Books}
use Rattle.dds_talk.specs.Parts.{Commit, AllDecide, AllTalk}
use Rattle.dds_talk.specs.Seen.{asked, asks, of, says}
use Rattle.dds_talk.specs.Table.{View, Ask, Say, At, IsTalk}
use Rattle.dds_talk.specs.Table.Talks.{gone, left, lost}
use Rattle.dds_talk.specs.Table.IsTalk.{unknowing, knowing}

-- A letter at a node that has stopped: it is lost, which no part minds.

library-deaf : {ml k : Bool} {v : View} {o : List Ask} {s : At} {b : List Say} (c : List Say) → IsTalk false ml k v o s b → IsTalk false ml k v o s c
library-deaf c (unknowing (left cut h)) = unknowing (left cut h)
library-deaf c (unknowing gone) = unknowing gone
library-deaf c (knowing h) = knowing h

nil-end : (xs o : List Ask) → [] ≡ xs ++ o → [] ≡ o
nil-end [] o e = e
nil-end (x ∷ xs) o e = cc

member-deaf : {ll k : Bool} {v : View} {p : List Ask} {s : At} {b : List Say} (xs o : List Ask) → p ≡ xs ++ o → IsTalk ll false k v p s b
    → IsTalk ll false k v o s b
member-deaf xs o e (unknowing (lost cut h)) = unknowing (lost cut h)
member-deaf xs o e (unknowing gone) = unknowing gone
member-deaf {ll = ll} {v = v} {s = s} {b = b} xs o e (knowing h) = subst (λ q. IsTalk ll false true v q s b) (nil-end xs o e) (knowing h)

no-gain : (z : Sizes) (b : ℕ) → gains z [] b ≡ []
no-gain z b = none (is_in z b)
  where
    none : (c : Bool) → when_in c [] ≡ []
    none true = refl
    none false = refl

module _ (z : Sizes) (w : Net) (n from : ℕ) (l : Letter) (b : Books) where
  abbrev v : Net
  v = changed w (takes z w n from (w.node n) [])

  step : Turned z w v n (w.node n) (w.node n) []
  step = takes-turned z w n from (w.node n) (w.node n) [] refl

  same-node : (k : ℕ) → v.node k ≡ w.node k
  same-node k = elim (cases_eq k n) [
    | inl e ↦ ap v.node e ∙ step.is ∙ ap w.node (sym e)
    | inr ne ↦ step.others k ne
  ]

  -- the channels to others, and those to it from others than the sender
  away : (a c : ℕ) → (c ≡ n → ⊥) → v.channel a c ≡ w.channel a c
  away a c nc = elim (cases_eq a n) [
    | inl e ↦
        ap (λ i. v.channel i c) e ∙ step.from c nc ∙ ap (λ x. w.channel n c ++ x) (no-gain z c) ∙ append-nil (w.channel n c) ∙ ap (λ i. w.channel i c) (sym e)
    | inr na ↦ step.far a c na nc
  ]

  -- what it gets of one attempt
  pub record Rest (t : Txn) (a : ℕ) : Type 0 where
    pub heard : List Ask
    pub is : asks t (w.channel a n) ≡ heard ++ asks t (v.channel a n)

  into : IsFirst z w n from l → (t : Txn) (a : ℕ) → (a ≡ n → ⊥) → Rest t a
  into f t a na = elim (cases_eq a from) [
    | inl e ↦
        let apart : from ≡ n → ⊥ = λ q. na (e ∙ q) in
        let k = is-taken z w n from l (w.node n) [] apart f in
        record {
          heard = of t (asked l);
          is = ap (λ i. asks t (w.channel i n)) e ∙ ap (asks t) k.first
              ∙ ap (λ i. of t (asked l) ++ asks t (v.channel i n)) (sym e);
        }
    | inr nf ↦ record { heard = []; is = ap (asks t) (sym (takes-rest z w n from (w.node n) [] a na nf)) }
  ]

  deaf-brick : (x : BrickState) → IsDeaf (w.node n) → w.node n ≡ a_brick x → x.stopped ≡ true
  deaf-brick x d e = subst IsDeaf e d

  deaf-library : (x : LibraryState) → IsDeaf (w.node n) → w.node n ≡ a_library x → x.stopped ≡ true
  deaf-library x d e = subst IsDeaf e d

  deaf-talks : IsDeaf (w.node n) → IsFirst z w n from l → AllTalk w b → AllTalk v b
  deaf-talks d f talk t m y x meets =
      let library : w.node t.library ≡ a_library y = sym (same-node t.library) ∙ meets.library in
      let member : w.node m ≡ a_brick x = sym (same-node m) ∙ meets.member in
      let old = talk t m y x (record { library = library; member = member; unknown = meets.unknown }) in
      let apart : t.library ≡ m → ⊥ = λ e. no-both (w.node m) y x (ap w.node (sym e) ∙ library) member in
      elim (cases_eq m n) [
        | inl e ↦
            let far : t.library ≡ n → ⊥ = λ q. apart (q ∙ sym e) in
            let stopped = deaf-brick x d (ap w.node (sym e) ∙ member) in
            let back : v.channel m t.library ≡ w.channel m t.library = away m t.library far in
            let h = into f t t.library far in
            let is : asks t (w.channel t.library m) ≡ h.heard ++ asks t (v.channel t.library m) =
            ap (λ i. asks t (w.channel t.library i)) e ∙ h.is ∙ ap (λ i. h.heard ++ asks t (v.channel t.library i)) (sym e) in
            rw (back, stopped) (member-deaf h.heard (asks t (v.channel t.library m)) is (rw stopped at old))
        | inr ne ↦
            let out : v.channel t.library m ≡ w.channel t.library m = away t.library m ne in
            elim (cases_eq t.library n) [
              | inl q ↦
                  let stopped = deaf-library y d (ap w.node (sym q) ∙ library) in
                  rw (out, stopped) (library-deaf (says t (v.channel m t.library)) (rw stopped at old))
              | inr nq ↦ let back : v.channel m t.library ≡ w.channel m t.library = away m t.library nq in rw (out, back) old
            ]
      ]

  deaf-decides : IsDeaf (w.node n) → AllDecide w b → AllDecide v b
  deaf-decides d decide t m y x k =
      let library : w.node t.library ≡ a_library y = sym (same-node t.library) ∙ k.meets.library in
      let member : w.node m ≡ a_brick x = sym (same-node m) ∙ k.meets.member in
      let lives = k.live in
      let ne : m ≡ n → ⊥ = λ e. let bad : false ≡ true = sym lives ∙ deaf-brick x d (ap w.node (sym e) ∙ member) in cc in
      let out : v.channel t.library m ≡ w.channel t.library m = away t.library m ne in
      rw out (decide t m y x (record {
        meets = record { library = library; member = member; unknown = k.meets.unknown };
        live = k.live;
        member = k.member;
        decided = k.decided;
      }))

  pub deaf-keeps : IsDeaf (w.node n) → IsFirst z w n from l → Commit z w b → Commit z v b
  deaf-keeps d f c =
      record {
        talk = deaf-talks d f c.talk;
        note = λ k x is. c.note k x (sym (same-node k) ∙ is);
        calls = λ k x is. c.calls k x (sym (same-node k) ∙ is);
        decide = deaf-decides d c.decide;
        noted = c.noted;
        kept = λ t m y x library is. c.kept t m y x (sym (same-node t.library) ∙ library) (sym (same-node m) ∙ is);
      }
