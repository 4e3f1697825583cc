use Rattle.std.proofs.Common.{◌≡◌, ℕ, ◌≤◌, ◌==◌, ◌⊎◌, inl, inr, Bool, true, false, List, [], ◌∷◌, ◌++◌, Option, refl, sym, ap, ◌∙◌}
use Rattle.std.proofs.lemmas.Bool.{eq-eqb, eqb-true, eqb-false}
use Rattle.std.specs.List.{AllByRecursion}
use Rattle.std.specs.Prelude.{drop, if◌then◌else◌}
use Rattle.dds_base.specs.BrickList.{has}
use Rattle.dds_base.specs.Number.{Txn}
use Rattle.dds_base.specs.declared.number.NodeNo.{NodeNo}
use Rattle.dds_core.specs.Brick.{live_brick_turn}
use Rattle.dds_letters.specs.declared.letter.Letter.{Letter}
use Rattle.dds_letters.specs.declared.letter.Letter.TheVariants as letter
use Rattle.dds_net.proofs.Places.{one-place}
use Rattle.dds_net.proofs.Puts.{first-taken, if-keeps, other-from, other-to}
use Rattle.dds_net.proofs.Runs.{IsBuilt}
use Rattle.dds_net.specs.Event.{IsFirst, takes, without_first}
use Rattle.dds_net.specs.Net.{Net, a_brick, Sizes, changed, gains, is_in, landing, lands, place_in, when_in}
use Rattle.dds_states.specs.Turn.{BrickTurn}
use Rattle.dds_states.specs.declared.brick_state.BrickState.{BrickState}
use Rattle.dds_talk.specs.Seen.{about, of}
use Rattle.dds_talk.proofs.Letters.{about-append}
use Rattle.dds_resolve.proofs.TeamTurns.{AllOk, not-both}
use Rattle.dds_resolve.proofs.Grounds.{inside-of}
use Rattle.dds_resolve.specs.Letters.{letters_to, to_one}
use Rattle.dds_resolve.specs.Resolving.{status_in, tell_in}
use Rattle.dds_resolve.specs.Team.{LetterOk, Members}
use Rattle.dds_resolve.specs.Teams.{ground}

-- What a live brick's turn does to nodes and channels, as one attempt sees the letters of resolving.

pub record Turned (w v : Net) (n from : ℕ) (s : BrickState) (l : Letter) (rest : List Letter) (r : BrickTurn) : Type 0 where
  pub here : w.node n ≡ a_brick s
  pub live : s.stopped ≡ false
  pub first : w.channel from n ≡ l ∷ rest
  pub is : v.node n ≡ a_brick r.state
  pub nodes : (i : ℕ) → (i == n) ≡ false → v.node i ≡ w.node i
  pub apart : (a c : ℕ) → (a == n) ≡ false → (c == n) ≡ false → v.channel a c ≡ w.channel a c
  pub to : (a : ℕ) → (a == n) ≡ false → v.channel a n ≡ (if a == from then rest else w.channel a n)
  pub tells : (t : Txn) (m : ℕ) (y : BrickState) → w.node m ≡ a_brick y → (m == n) ≡ false
      → about tell_in t (v.channel n m) ≡ about tell_in t (w.channel n m) ++ about tell_in t (letters_to m r.out.letters)
  pub statuses : (t : Txn) (m : ℕ) (y : BrickState) → w.node m ≡ a_brick y → (m == n) ≡ false
      → about status_in t (v.channel n m) ≡ about status_in t (w.channel n m) ++ about status_in t (letters_to m r.out.letters)

-- a letter of resolving is to a node of the cluster
abbrev pub IsSure : {X : Type 0} → Sizes → (Letter → Option (Txn × X)) → Txn → NodeNo × Letter → Type 0
IsSure z v t p = (of t (v p.1) ≡ []) ⊎ (is_in z p.0 ≡ true)

member-in : {t : Txn} {xs : List ℕ} {m : ℕ} (z : Sizes) (w : Net) (list : Txn → List ℕ) → Members (ground z w list) t xs m → (k : ℕ) → has xs k ≡ true →
    is_in z k ≡ true
member-in {xs = xs} z w list h k e = inside-of (is_in z) xs k h.inside e

tell-sure : (z : Sizes) (w : Net) (list : Txn → List ℕ) (t : Txn) (at to : ℕ) (l : Letter) → LetterOk (ground z w list) at to l → IsSure z tell_in t (to, l)
tell-sure z w list t at to (letter.Query txn xs) h = inr (member-in z w list h.0.members to h.0.members.member)
tell-sure z w list t at to (letter.Outcome txn commit) h = inr (member-in z w list h.team.members to h.team.members.member)
tell-sure z w list t at to other h = inl refl

status-sure : (z : Sizes) (w : Net) (list : Txn → List ℕ) (t : Txn) (at to : ℕ) (l : Letter) → LetterOk (ground z w list) at to l → IsSure z status_in t (to, l)
status-sure z w list t at to (letter.Status txn st) h = inr (member-in z w list h.team.members to h.team.resolver)
status-sure z w list t at to other h = inl refl

-- what comes to a node of the cluster is what is sent to its number
one-comes : {X : Type 0} (z : Sizes) (v : Letter → Option (Txn × X)) (t : Txn) (m to : ℕ) (l : Letter) (a b : List Letter) → z.bricks ≤ 64 →
    is_in z m ≡ true → IsSure z v t (to, l)
    → about v t a ≡ about v t b → about v t (if lands z to m then l ∷ a else a) ≡ about v t (to_one (to == m) l b)
one-comes z v t m to l a b few i (inl e) h = pick (lands z to m) (to == m)
  where
    pick : (x y : Bool) → about v t (if x then l ∷ a else a) ≡ about v t (to_one y l b)
    pick true true = ap (λ k. of t (v l) ++ k) h
    pick true false = ap (λ k. k ++ about v t a) e ∙ h
    pick false true = h ∙ sym (ap (λ k. k ++ about v t b) e)
    pick false false = h
one-comes z v t m to l a b few i (inr j) h = pick (lands z to m) (to == m) refl refl
  where
    pick : (x y : Bool) → lands z to m ≡ x → (to == m) ≡ y → about v t (if x then l ∷ a else a) ≡ about v t (to_one y l b)
    pick true true e f = ap (λ k. of t (v l) ++ k) h
    pick false false e f = h
    pick true false e f = absurd (eqb-false to m f (one-place z to m few j i (eqb-true _ _ e)))
    pick false true e f = absurd (not-both (lands z to m) (eq-eqb _ _ (ap (place_in z.bricks) (eqb-true to m f))) e)

landing-comes : {X : Type 0} (z : Sizes) (v : Letter → Option (Txn × X)) (t : Txn) (m : ℕ) (ls : List (NodeNo × Letter)) → z.bricks ≤ 64 → is_in z m ≡ true →
    AllByRecursion (IsSure z v t) ls
    → about v t (landing z m ls) ≡ about v t (letters_to m ls)
landing-comes z v t m [] few i h = refl
landing-comes z v t m (l ∷ ls) few i h = one-comes z v t m l.0 l.1 (landing z m ls) (letters_to m ls) few i h.0 (landing-comes z v t m ls few i h.1)

pub gains-come : {X : Type 0} (z : Sizes) (v : Letter → Option (Txn × X)) (t : Txn) (m : ℕ) (ls : List (NodeNo × Letter)) → z.bricks ≤ 64 → is_in z m ≡ true →
    AllByRecursion (IsSure z v t) ls
    → about v t (gains z ls m) ≡ about v t (letters_to m ls)
gains-come z v t m ls few i h = ap (λ c. about v t (when_in c (landing z m ls))) i ∙ landing-comes z v t m ls few i h

all-sure : {X : Type 0} (z : Sizes) (w : Net) (list : Txn → List ℕ) (v : Letter → Option (Txn × X)) (t : Txn) (at : ℕ) (ls : List (NodeNo × Letter))
    → ((to : ℕ) (l : Letter) → LetterOk (ground z w list) at to l → IsSure z v t (to, l)) → AllOk (ground z w list) at ls → AllByRecursion (IsSure z v t) ls
all-sure z w list v t at [] f h = tt
all-sure z w list v t at (l ∷ ls) f h = (f l.0 l.1 h.0, all-sure z w list v t at ls f h.1)

-- a brick's node is one of the cluster
brick-inside : (z : Sizes) (w : Net) (m : ℕ) (y : BrickState) → IsBuilt z w → w.node m ≡ a_brick y → is_in z m ≡ true
brick-inside z w m y built e = pick (is_in z m) refl
  where
    pick : (c : Bool) → is_in z m ≡ c → c ≡ true
    pick true i = refl
    pick false i = let no = sym (built.outside m i) ∙ e in cc

pub brick-turned : (z : Sizes) (w : Net) (list : Txn → List ℕ) (n from : ℕ) (s : BrickState) (l : Letter) → z.bricks ≤ 64 → IsBuilt z w →
    w.node n ≡ a_brick s → s.stopped ≡ false
    → (f : IsFirst z w n from l) → AllOk (ground z w list) n (live_brick_turn s from l).out.letters
    → Turned w (changed w (takes z w n from (a_brick (live_brick_turn s from l).state) (live_brick_turn s from l).out.letters)) n from s l f.others
    (live_brick_turn s from l)
brick-turned z w list n from s l few built here live f ok =
    let r = live_brick_turn s from l in
    let c = takes z w n from (a_brick r.state) r.out.letters in
    let self : (n == n) ≡ true = eq-eqb n n refl in
    let from-here = (λ (m : ℕ) (mn : (m == n) ≡ false). own-channel m mn self) in
    record {
      here = here;
      live = live;
      first = f.first;
      is = ap (λ b. if b then a_brick r.state else w.node n) self;
      nodes = λ i e. ap (λ b. if b then a_brick r.state else w.node i) e;
      apart = λ a d e g. ap (λ b. if b then c.left d ++ c.gains d else (if d == n then c.rest a else w.channel a d)) e
          ∙ ap (λ b. if b then c.rest a else w.channel a d) g;
      to = λ a e. ap (λ b. if b then c.left n ++ c.gains n else (if n == n then c.rest a else w.channel a n)) e
          ∙ ap (λ b. if b then c.rest a else w.channel a n) self ∙ taken a;
      tells = λ t m y is mn. ap (about tell_in t) (from-here m mn) ∙ about-append tell_in t (w.channel n m) (gains z r.out.letters m)
          ∙ ap (λ k. about tell_in t (w.channel n m) ++ k)
          (gains-come z tell_in t m r.out.letters few (brick-inside z w m y built is)
          (all-sure z w list tell_in t n r.out.letters (λ to x h. tell-sure z w list t n to x h) ok));
      statuses = λ t m y is mn. ap (about status_in t) (from-here m mn) ∙ about-append status_in t (w.channel n m) (gains z r.out.letters m)
          ∙ ap (λ k. about status_in t (w.channel n m) ++ k)
          (gains-come z status_in t m r.out.letters few (brick-inside z w m y built is)
          (all-sure z w list status_in t n r.out.letters (λ to x h. status-sure z w list t n to x h) ok));
    }
  where
    own-channel : (m : ℕ) → (m == n) ≡ false → (n == n) ≡ true
        → (changed w (takes z w n from (a_brick (live_brick_turn s from l).state) (live_brick_turn s from l).out.letters)).channel n m ≡ w.channel n m
        ++ gains z (live_brick_turn s from l).out.letters m
    own-channel m mn self =
        let r = live_brick_turn s from l in
        let c = takes z w n from (a_brick r.state) r.out.letters in
        ap (λ b. if b then c.left m ++ c.gains m else (if m == n then c.rest n else w.channel n m)) self
        ∙ ap (λ k. k ++ gains z r.out.letters m) (other-to w n from n m (eqb-false m n mn))

    taken : (a : ℕ) → without_first w n from a n ≡ (if a == from then f.others else w.channel a n)
    taken a = if-keeps (λ k. without_first w n from a n ≡ k) (a == from) f.others (w.channel a n)
        (λ e. ap (λ i. without_first w n from i n) (eqb-true a from e) ∙ first-taken w n from ∙ ap (drop 1) f.first)
        (λ e. other-from w n from a n (eqb-false a from e))
