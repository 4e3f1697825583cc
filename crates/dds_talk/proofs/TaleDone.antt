use Rattle.std.proofs.Common.{◌≡◌, ◌≢◌, ℕ, ◌⊎◌, inl, Bool, true, false, not, List, [], ◌++◌, Option, Some, refl, sym, ap, ◌∙◌}
use Rattle.std.proofs.Common.{subst}
use Rattle.std.proofs.lemmas.List.{append-nil}
use Rattle.std.specs.FinMap.{get}
use Rattle.dds_base.specs.NodeSet.{has_node}
use Rattle.dds_base.specs.Number.{Txn}
use Rattle.dds_states.specs.Turn.{BrickTurn, first_some}
use Rattle.dds_states.specs.declared.brick_state.BrickState.{BrickState}
use Rattle.dds_states.specs.declared.library_state.LibraryState.{LibraryState}
use Rattle.dds_net.specs.Net.{Net, Sizes, gains, put}
use Rattle.dds_talk.proofs.BrickDone.{BrickDone, cw-decided, no-outcome}
use Rattle.dds_talk.proofs.BrickEvents.{Turn, done-once, old-decided}
use Rattle.dds_talk.proofs.BrickTalks.{Here, learn-is}
use Rattle.dds_talk.proofs.Changes.{put-here}
use Rattle.dds_talk.proofs.Letters.{NoneAbout, about-append, about-none}
use Rattle.dds_talk.proofs.Locks.{Locks, done-holds}
use Rattle.dds_talk.proofs.Moves.{known-aborts, known-commits}
use Rattle.dds_talk.proofs.Tales.{Done}
use Rattle.dds_talk.proofs.Tales.Done.{same, ended}
use Rattle.dds_talk.specs.Books.{Books, with_brick}
use Rattle.dds_talk.specs.Parts.{BrickOk, Conversation, Decided, IsSure, Sure, SureAt}
use Rattle.dds_talk.specs.Seen.{asks, at, at_of, is_pending, noting, said, says, view}
use Rattle.dds_talk.specs.Table.{View, Ask, Say, At, IsTalk, Known}
use Rattle.dds_talk.specs.Table.At.{Prepared}
use Rattle.dds_talk.specs.Table.IsTalk.{unknowing, knowing}
use Rattle.dds_talk.specs.Table.View.{CommitDue}

-- A brick's turn that resolves attempts, where each that ends was settled: the brick knows its library, an abort isn't of a
-- decided attempt, and a commit was decided, or is sure of each live member by now.

pub record Settles (v : Net) (n : ℕ) (u : BrickState) (b : Books) (t : Txn) (c : Bool) : Type 0 where
  pub knows : has_node u.known t.library ≡ true
  pub aborts : c ≡ false → b.decided t ≡ false
  pub commits : c ≡ true
      → (b.decided t ≡ true) ⊎ ((m : ℕ) (l : LibraryState) (x : BrickState) → Decided v (with_brick n u b) t m l x → IsSure v (with_brick n u b) t m l x)

-- each attempt that was pending and has an outcome now
abbrev pub AllSettle : Net → ℕ → BrickState → BrickState → Books → Type 0
AllSettle v n s u b =
    (t : Txn) (c : Bool) → is_pending s.locks.pending t ≡ true → is_pending u.locks.pending t ≡ false → get u.locks.outcomes t ≡ Some c → Settles v n u b t c

-- what the brick learns: a library that it knows by now has stopped, and nothing more comes from it
pub record Learns (w v : Net) (n : ℕ) (s u : BrickState) (t : Txn) (l : LibraryState) : Type 0 where
  pub knows : has_node u.known t.library ≡ true → (has_node s.known t.library ≡ true) ⊎ ((not l.stopped ≡ false) × (asks t (v.channel t.library n) ≡ []))
  pub keeps : has_node s.known t.library ≡ true → has_node u.known t.library ≡ true
  pub into : asks t (w.channel t.library n) ≡ asks t (v.channel t.library n)

ends-is : {ll k : Bool} {v : View} {o : List Ask} {a : At} {b : List Say} (c : Bool) → k ≡ true → (c ≡ false → v ≢ CommitDue) → a ≡ Prepared
    → IsTalk ll true k v o a b
    → IsTalk ll true k v o (at_of false (Some c)) b
ends-is c kn f e (unknowing h) = cc
ends-is true kn f e (knowing {v = v} h) = knowing (known-commits v (subst (Known v) e h))
ends-is false kn f e (knowing {v = v} h) = knowing (known-aborts v (subst (Known v) e h) (f refl))

module _ (z : Sizes) (w v : Net) (n : ℕ) (s : BrickState) (r : BrickTurn) (b : Books) where
  noted-here : (t : Txn) → put n (noting r.state.locks.outcomes (b.noted n)) b.noted n t ≡ noting r.state.locks.outcomes (b.noted n) t
  noted-here t = ap (λ (f : Txn → Option Bool). f t) (put-here n (noting r.state.locks.outcomes (b.noted n)) b.noted)

  not-true : (x : Bool) → x ≡ true → x ≡ false → ⊥
  not-true x e f = let q : true ≡ false = sym e ∙ f in cc

  -- how far the attempt is afterwards
  stays-at : (t : Txn) → BrickOk (b.noted n) s → is_pending r.state.locks.pending t ≡ is_pending s.locks.pending t
      → get r.state.locks.outcomes t ≡ get s.locks.outcomes t
      → at r.state.locks.pending (noting r.state.locks.outcomes (b.noted n) t) t ≡ at s.locks.pending (b.noted n t) t
  stays-at t ok p o =
      ap (λ x. at_of x (noting r.state.locks.outcomes (b.noted n) t)) p
      ∙ ap (at_of (is_pending s.locks.pending t)) (ap (λ g. first_some g (b.noted n t)) o ∙ ok.agrees t)

  ends-at : (t : Txn) (c : Bool) → is_pending r.state.locks.pending t ≡ false → get r.state.locks.outcomes t ≡ Some c
      → at r.state.locks.pending (noting r.state.locks.outcomes (b.noted n) t) t ≡ at_of false (Some c)
  ends-at t c q o = ap (λ x. at_of x (noting r.state.locks.outcomes (b.noted n) t)) q ∙ ap (λ g. at_of false (first_some g (b.noted n t))) o

  tale-conversation : (t : Txn) (l : LibraryState) → Turn z w v n s r b → Done s r.state t → NoneAbout said t r.out.letters → Learns w v n s r.state t l
      → AllSettle v n s r.state b → Here w t n l s → Conversation w b t n l s → Conversation v (with_brick n r.state b) t n l r.state
  tale-conversation t l turn done quiet learn settle here was =
      let ok = turn.parts.note n s turn.step.here in
      let back : says t (v.channel n t.library) ≡ says t (w.channel n t.library) =
      ap (says t) (turn.step.from t.library here.apart) ∙ about-append said t (w.channel n t.library) (gains z r.out.letters t.library)
      ∙ ap (λ xs. says t (w.channel n t.library) ++ xs) (about-none said t z t.library r.out.letters quiet) ∙ append-nil (says t (w.channel n t.library)) in
      let alive = turn.alive in
      let stays = turn.stays in
      let before = rw alive at was in
      let heard = subst (λ o. IsTalk (not l.stopped) true (has_node s.known t.library) (view l (b.list t) t n) o (at s.locks.pending (b.noted n t) t)
      (says t (w.channel n t.library))) learn.into before in
      let known = learn-is (has_node r.state.known t.library) learn.knows learn.keeps heard in
      rw (stays, back, noted-here t) (parted done known)
    where
      parted : Done s r.state t
          → IsTalk (not l.stopped) true (has_node r.state.known t.library) (view l (b.list t) t n) (asks t (v.channel t.library n))
          (at s.locks.pending (b.noted n t) t) (says t (w.channel n t.library))
          → IsTalk (not l.stopped) true (has_node r.state.known t.library) (view l (b.list t) t n) (asks t (v.channel t.library n))
          (at r.state.locks.pending (noting r.state.locks.outcomes (b.noted n) t) t) (says t (w.channel n t.library))
      parted (same p o) h =
          subst (λ a. IsTalk (not l.stopped) true (has_node r.state.known t.library) (view l (b.list t) t n) (asks t (v.channel t.library n)) a
          (says t (w.channel n t.library))) (sym (stays-at t (turn.parts.note n s turn.step.here) p o)) h
      parted (ended c p q o) h =
          let k = settle t c p q o in
          let library = here.before.library in
          subst (λ a. IsTalk (not l.stopped) true (has_node r.state.known t.library) (view l (b.list t) t n) (asks t (v.channel t.library n)) a
          (says t (w.channel n t.library))) (sym (ends-at t c q o))
          (ends-is c k.knows (λ f cw. not-true (b.decided t) (cw-decided z b t.library l t n (turn.parts.calls t.library l library) cw) (k.aborts f))
          (ap (λ x. at_of x (b.noted n t)) p) h)

  sure-outcome : (t : Txn) (c : Bool) → b.decided t ≡ true → (c ≡ false → b.decided t ≡ false) → SureAt (at_of false (Some c))
  sure-outcome t true d f = tt
  sure-outcome t false d f = absurd (not-true (b.decided t) d (f refl))

  tale-sure : (t : Txn) (l : LibraryState) → Turn z w v n s r b → Done s r.state t → Learns w v n s r.state t l → AllSettle v n s r.state b
      → b.decided t ≡ true → IsSure w b t n l s → IsSure v (with_brick n r.state b) t n l r.state
  tale-sure t l turn done learn settle dec was =
      let heard = subst (λ o. Sure (not l.stopped) (view l (b.list t) t n) o (at s.locks.pending (b.noted n t) t)) learn.into was in
      rw (noted-here t) (parted done heard)
    where
      parted : Done s r.state t → Sure (not l.stopped) (view l (b.list t) t n) (asks t (v.channel t.library n)) (at s.locks.pending (b.noted n t) t)
          → Sure (not l.stopped) (view l (b.list t) t n) (asks t (v.channel t.library n))
          (at r.state.locks.pending (noting r.state.locks.outcomes (b.noted n) t) t)
      parted (same p o) h =
          subst (Sure (not l.stopped) (view l (b.list t) t n) (asks t (v.channel t.library n))) (sym (stays-at t (turn.parts.note n s turn.step.here) p o)) h
      parted (ended c p q o) h =
          subst (Sure (not l.stopped) (view l (b.list t) t n) (asks t (v.channel t.library n))) (sym (ends-at t c q o))
          (record { at = sure-outcome t c dec (settle t c p q o).aborts; none = h.none; view = h.view })

  tale-fresh : (t : Txn) → Turn z w v n s r b → Done s r.state t → AllSettle v n s r.state b → get r.state.locks.outcomes t ≡ Some true
      → (b.decided t ≡ true)
      ⊎ ((m : ℕ) (l : LibraryState) (x : BrickState) → Decided v (with_brick n r.state b) t m l x → IsSure v (with_brick n r.state b) t m l x)
  tale-fresh t turn (same p o) settle e = inl (old-decided z w n s b t turn.parts turn.step.here (sym o ∙ e))
  tale-fresh t turn (ended c p q o) settle e = let yes : c ≡ true = same-some (sym o ∙ e) in (settle t c p q o).commits yes
    where
      same-some : {x y : Bool} → Some x ≡ Some y → x ≡ y
      same-some f = cc

  pub tale-done : Turn z w v n s r b → ((t : Txn) → Done s r.state t) → Locks (b.noted n) r.state → ((t : Txn) → NoneAbout said t r.out.letters)
      → ((t : Txn) (l : LibraryState) → Here w t n l s → Learns w v n s r.state t l) → AllSettle v n s r.state b → BrickDone z w v n s r.state r.out.letters b
  tale-done turn done locks quiet learn settle =
      record {
        step = turn.step;
        lives = λ e. turn.alive;
        undecided = λ talk k l t is e le was. no-outcome z w v n s r.state r.out.letters b turn.step turn.stays turn.unknown talk k l t is e le;
        talks = λ t l here was. tale-conversation t l turn (done t) (quiet t) (learn t l here) settle here was;
        sures = λ t l here dec was. tale-sure t l turn (done t) (learn t l here) settle dec was;
        locks = locks;
        holds = λ t l is up. done-holds s r.state t (done t);
        fresh = λ t e. tale-fresh t turn (done t) settle e;
        once = λ t c e. done-once (b.noted n) s r.state t c (turn.parts.note n s turn.step.here) (done t) e;
      }
