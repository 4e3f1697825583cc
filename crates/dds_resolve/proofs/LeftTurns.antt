use Rattle.std.proofs.Common.{◌≡◌, ℕ, ◌==◌, ◌⊎◌, inl, inr, Bool, true, false, List, [], ◌∷◌, ◌++◌, refl, sym, ap, ◌∙◌, subst}
use Rattle.std.proofs.lemmas.Bool.{eqb-true}
use Rattle.std.specs.List.{AllByRecursion}
use Rattle.std.specs.Prelude.{if◌then◌else◌}
use Rattle.dds_base.specs.BrickList.{has}
use Rattle.dds_base.specs.NodeSet.{has_node}
use Rattle.dds_base.specs.Number.{Txn}
use Rattle.dds_brick_rows.specs.Resolution.{is_ready}
use Rattle.dds_core.proofs.Lists.{all-map}
use Rattle.dds_core.specs.Brick.{live_brick_turn}
use Rattle.dds_letters.specs.declared.letter.Letter.{Letter}
use Rattle.dds_net.specs.Net.{Net, a_brick, Sizes}
use Rattle.dds_states.specs.declared.brick_state.BrickState.{BrickState}
use Rattle.dds_talk.specs.Books.{Books}
use Rattle.dds_talk.specs.Resolve.{Agreed, Tell}
use Rattle.dds_talk.specs.Resolve.Tell.{query, outcome}
use Rattle.dds_talk.specs.Seen.{about, of}
use Rattle.dds_talk.specs.Table.At.{Committed}
use Rattle.dds_resolve.proofs.Beside.{Case, now_decided, swap}
use Rattle.dds_resolve.proofs.Deciders.{known-is, knowing, unready-idle, unready-own}
use Rattle.dds_resolve.proofs.Here.{knows-earlier, knows-more, knows-still}
use Rattle.dds_resolve.proofs.LibraryEvents.{left-same}
use Rattle.dds_resolve.proofs.MemberSteps.{grown-ready}
use Rattle.dds_resolve.proofs.OneResolver.{NoTeam, rests-left, team-or}
use Rattle.dds_resolve.proofs.ResolverSteps.{Going, brick-same}
use Rattle.dds_resolve.proofs.TeamTurns.{not-both}
use Rattle.dds_resolve.specs.Resolved.{LeftOver, LeftPair, Pair, ToldOk}
use Rattle.dds_resolve.specs.Resolving.{own_at, tell_in}
use Rattle.dds_resolve.specs.Team.{Team}
use Rattle.dds_resolve.specs.Teams.{ground, is_stopped}

-- A brick's turn keeps what is so of the outcomes of resolvers that stopped: a later resolver decides only where all live members
-- are ready, and these know the former resolver, so have no outcome of it under way.

all-back : {X : Type 0} (P : X → Type 0) (xs ys : List X) → AllByRecursion P (xs ++ ys) → AllByRecursion P ys
all-back P [] ys h = h
all-back P (x ∷ xs) ys h = all-back P xs ys h.1

told-more : (d a b : Bool) (o : Tell) → (a ≡ true → b ≡ true) → ToldOk d a o → ToldOk d b o
told-more d a b query f h = tt
told-more d a b (outcome c) f h = (h.0, f h.1)

pub agreed-commit : (d : Bool) → Agreed d Committed → d ≡ true
agreed-commit true h = refl
agreed-commit false h = absurd h

same-as : (d e : Bool) → (d ≡ true → e ≡ true) → (e ≡ true → d ≡ true) → d ≡ e
same-as true e f g = sym (f refl)
same-as false true f g = g refl
same-as false false f g = refl

module _ {z : Sizes} {w v : Net} {b : Books} {n from : ℕ} {s : BrickState} {l : Letter} {rest : List Letter} (c : Case z w v b n from s l rest) where
  n-lives : (ground z w b.list).stopped n ≡ false
  n-lives = ap is_stopped c.step.here ∙ c.step.live

  -- it knows no live brick afterwards
  pub knows-not : (m : ℕ) (y : BrickState) → w.node m ≡ a_brick y → y.stopped ≡ false → has_node (live_brick_turn s from l).state.known m ≡ false
  knows-not m y e lives = pick (has_node (live_brick_turn s from l).state.known m) refl
    where
      pick : (k : Bool) → has_node (live_brick_turn s from l).state.known m ≡ k → k ≡ false
      pick false i = refl
      pick true i = absurd (not-both (is_stopped (w.node m)) (c.good.state.known m i) (ap is_stopped e ∙ lives))

  -- a live mate that it doesn't know
  pub mate : (t : Txn) (m : ℕ) (y : BrickState) → (m == n) ≡ false → w.node m ≡ a_brick y → y.stopped ≡ false → has (b.list t) m ≡ true →
      Pair w b.list t n m s y
  mate t m y mn e lives listed =
      record {
        resolver = c.step.here;
        lives = c.step.live;
        member = e;
        apart = swap m n mn;
        in_list = listed;
        unknown = knows-more s from (ground z w b.list) l m c.notice (knows-not m y e lives);
      }

  fewer : (P : Tell → Type 0) (t : Txn) (f : ℕ) → (f == n) ≡ false → AllByRecursion P (about tell_in t (w.channel f n)) →
      AllByRecursion P (about tell_in t (v.channel f n))
  fewer P t f fn h = pick (f == from) refl
    where
      pick : (k : Bool) → (f == from) ≡ k → AllByRecursion P (about tell_in t (v.channel f n))
      pick true i =
          subst (λ ls. AllByRecursion P (about tell_in t ls)) (sym (c.step.to f fn ∙ ap (λ k. if k then rest else w.channel f n) i))
          (all-back P (of t (tell_in l)) (about tell_in t rest)
          (subst (λ ls. AllByRecursion P (about tell_in t ls)) (ap (λ k. w.channel k n) (eqb-true f from i) ∙ c.step.first) h))
      pick false i = subst (λ ls. AllByRecursion P (about tell_in t ls)) (sym (c.step.to f fn ∙ ap (λ k. if k then rest else w.channel f n) i)) h

  -- the member takes a letter
  left-taken : (t : Txn) (f : ℕ) (x : BrickState) → (f == n) ≡ false → LeftPair w b.list t f n x s →
      LeftOver v (b.decided t) t (b.list t) f n (live_brick_turn s from l).state
  left-taken t f x fn p =
      let u = (live_brick_turn s from l).state in
      let R = is_ready s.known t (b.list t) f in
      let S = is_ready u.known t (b.list t) f in
      let more : R ≡ true → S ≡ true = (λ e. grown-ready s.known u.known t (b.list t) f
      (λ k i. knows-still s from (ground z w b.list) l k c.notice i) e) in
      record {
        told = all-map (ToldOk (b.decided t) R) (ToldOk (b.decided t) S) (about tell_in t (v.channel f n)) (λ o h. told-more (b.decided t) R S o more h)
            (fewer (ToldOk (b.decided t) R) t f fn (c.resolve.left t f n x s p).told);
      }

  kept-left : (t : Txn) (f m : ℕ) (x y : BrickState) → (f == n) ≡ false → LeftPair v b.list t f m x y → LeftOver v (b.decided t) t (b.list t) f m y
  kept-left t f m x y fn p = pick (m == n) refl
    where
      pick : (k : Bool) → (m == n) ≡ k → LeftOver v (b.decided t) t (b.list t) f m y
      pick true i =
          let mn : m ≡ n = eqb-true m n i in
          let same : (live_brick_turn s from l).state ≡ y = brick-same (live_brick_turn s from l).state y (sym c.step.is ∙ ap v.node (sym mn) ∙ p.member) in
          subst (λ k. LeftOver v (b.decided t) t (b.list t) f k y) (sym mn) (subst (λ q. LeftOver v (b.decided t) t (b.list t) f n q) same
          (left-taken t f x fn (record {
            resolver = sym (c.step.nodes f fn) ∙ p.resolver;
            stops = p.stops;
            member = c.step.here;
            lives = c.step.live;
            apart = fn;
            in_list = ap (has (b.list t)) (sym mn) ∙ p.in_list;
            unknown = knows-more s from (ground z w b.list) l f c.notice (ap (λ (q : BrickState). has_node q.known f) same ∙ p.unknown);
          })))
      pick false i =
          left-same {y = y} {q = y} (ap (about tell_in t) (c.step.apart f m fn i)) refl (c.resolve.left t f m x y (record {
            resolver = sym (c.step.nodes f fn) ∙ p.resolver;
            stops = p.stops;
            member = sym (c.step.nodes m i) ∙ p.member;
            lives = p.lives;
            apart = p.apart;
            in_list = p.in_list;
            unknown = p.unknown;
          }))

  -- a brick that decides anew is ready itself
  decides-ready : (t : Txn) → Team (ground z w b.list) t (b.list t) n n → (h : Going w v b.list t n s (live_brick_turn s from l) (b.decided t)) →
      h.decided ≡ true → (b.decided t ≡ true) ⊎ (is_ready (live_brick_turn s from l).state.known t (b.list t) n ≡ true)
  decides-ready t team h e = pick (is_ready (live_brick_turn s from l).state.known t (b.list t) n) refl (h.why e)
    where
      pick : (k : Bool) → is_ready (live_brick_turn s from l).state.known t (b.list t) n ≡ k →
          (b.decided t ≡ true) ⊎ (own_at (live_brick_turn s from l).state t ≡ Committed) →
          (b.decided t ≡ true) ⊎ (is_ready (live_brick_turn s from l).state.known t (b.list t) n ≡ true)
      pick true i h = inr i
      pick false i (inl d) = inl d
      pick false i (inr own) =
          let unready = ap (λ k. is_ready k t (b.list t) n) (sym (known-is s from l)) ∙ i in
          let idle = unready-idle (ground z w b.list) (knowing s from l) n t unready in
          let fits : Agreed (b.decided t) (own_at (live_brick_turn s from l).state t) =
          unready-own {g = ground z w b.list} {n = n} {s = s} (b.decided t) from l c.ok c.readies c.letter_ok c.notice t
          (λ k. c.beside.settled t team.frozen team.resolver k)
          (c.beside.agree t n s c.step.here c.step.live team.resolver team.frozen) idle in
          inl (agreed-commit (b.decided t) (subst (Agreed (b.decided t)) own fits))

  -- so where a member doesn't know an earlier resolver, nothing is decided anew
  decided-before : (t : Txn) (f m : ℕ) (x y : BrickState) → Team (ground z w b.list) t (b.list t) n n → Team (ground z w b.list) t (b.list t) f f →
      (h : Going w v b.list t n s (live_brick_turn s from l) (b.decided t)) → (f == n) ≡ false → LeftPair v b.list t f m x y → h.decided ≡ true →
      b.decided t ≡ true
  decided-before t f m x y mine hers h fn p e = pick (h.all_ready e) (decides-ready t mine h e)
    where
      earlier : (y : BrickState) → is_ready y.known t (b.list t) n ≡ true → has_node y.known f ≡ true
      earlier y ready = knows-earlier (ground z w b.list) y.known t f f n hers mine.resolver n-lives fn ready

      member : (k : Bool) → (m == n) ≡ k
          → ((m : ℕ) (y : BrickState) → Pair w b.list t n m s y → has_node (live_brick_turn s from l).state.known m ≡ false → y.stopped ≡ false
          → is_ready y.known t (b.list t) n ≡ true)
          → is_ready (live_brick_turn s from l).state.known t (b.list t) n ≡ true → has_node y.known f ≡ true
      member true i all own =
          let same : (live_brick_turn s from l).state ≡ y =
          brick-same (live_brick_turn s from l).state y (sym c.step.is ∙ ap v.node (sym (eqb-true m n i)) ∙ p.member) in
          sym (ap (λ (q : BrickState). has_node q.known f) same) ∙ earlier (live_brick_turn s from l).state own
      member false i all own =
          let was : w.node m ≡ a_brick y = sym (c.step.nodes m i) ∙ p.member in
          earlier y (all m y (mate t m y i was p.lives p.in_list) (knows-not m y was p.lives) p.lives)

      pick : (b.decided t ≡ true)
          ⊎ ((m : ℕ) (y : BrickState) → Pair w b.list t n m s y → has_node (live_brick_turn s from l).state.known m ≡ false → y.stopped ≡ false
          → is_ready y.known t (b.list t) n ≡ true)
          → (b.decided t ≡ true) ⊎ (is_ready (live_brick_turn s from l).state.known t (b.list t) n ≡ true) → b.decided t ≡ true
      pick (inl d) k = d
      pick (inr all) (inl d) = d
      pick (inr all) (inr own) = absurd (not-both (has_node y.known f) (member (m == n) refl all own) p.unknown)

  pub left-after : (t : Txn) (f m : ℕ) (x y : BrickState) → (f == n) ≡ false
      → (NoTeam (ground z w b.list) t n → b.decided t ≡ now_decided b (live_brick_turn s from l) t)
      → (goes : Team (ground z w b.list) t (b.list t) n n → Going w v b.list t n s (live_brick_turn s from l) (b.decided t))
      → ((team : Team (ground z w b.list) t (b.list t) n n) → (goes team).decided ≡ now_decided b (live_brick_turn s from l) t)
      → LeftPair v b.list t f m x y → LeftOver v (now_decided b (live_brick_turn s from l) t) t (b.list t) f m y
  left-after t f m x y fn rests goes is p = pick (team-or (ground z w b.list) t n) (team-or (ground z w b.list) t f)
    where
      pick : Team (ground z w b.list) t (b.list t) n n ⊎ NoTeam (ground z w b.list) t n →
          Team (ground z w b.list) t (b.list t) f f ⊎ NoTeam (ground z w b.list) t f
          → LeftOver v (now_decided b (live_brick_turn s from l) t) t (b.list t) f m y
      pick k (inr none) = rests-left v (ground z w b.list) (now_decided b (live_brick_turn s from l) t) t (b.list t) f m y none (c.letters f m)
      pick (inr none) (inl hers) = subst (λ d. LeftOver v d t (b.list t) f m y) (rests none) (kept-left t f m x y fn p)
      pick (inl mine) (inl hers) =
          let h = goes mine in
          subst (λ d. LeftOver v d t (b.list t) f m y)
          (same-as (b.decided t) h.decided h.grows (decided-before t f m x y mine hers h fn p) ∙ is mine) (kept-left t f m x y fn p)
