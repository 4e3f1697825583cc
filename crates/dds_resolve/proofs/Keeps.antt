use Rattle.std.proofs.Common.{◌≡◌, ℕ, ◌==◌, ◌||◌, ◌⊎◌, inl, inr, Bool, true, false, List, [], ◌++◌, find, refl, sym, ap, ◌∙◌, subst}
use Rattle.std.proofs.lemmas.Bool.{eqb-true, eqb-false}
use Rattle.std.specs.FinMap.{get}
use Rattle.dds_base.specs.BrickList.{has}
use Rattle.dds_base.specs.NodeSet.{has_node}
use Rattle.dds_base.specs.Number.{Txn}
use Rattle.dds_base.specs.declared.pending.TxnStatus.{TxnStatus}
use Rattle.dds_brick_rows.specs.Resolution.{is_of, is_ready}
use Rattle.dds_core.specs.Brick.{live_brick_turn}
use Rattle.dds_letters.specs.declared.letter.Letter.{Letter}
use Rattle.dds_letters.specs.declared.letter.Letter.TheVariants as letter
use Rattle.dds_net.specs.Net.{Net, a_brick, Sizes}
use Rattle.dds_states.specs.declared.brick_state.BrickState.{BrickState}
use Rattle.dds_talk.specs.Books.{Books, is_yes}
use Rattle.dds_talk.specs.Resolve.{Resolves}
use Rattle.dds_talk.specs.Seen.{about, is_pending}
use Rattle.dds_resolve.proofs.Here.{blind-here, knows-more}
use Rattle.dds_resolve.proofs.MemberLetters.{member-letter}
use Rattle.dds_resolve.proofs.OneResolver.{NoTeam, no-resolving, one-resolver, others-of, rests-alive, rests-lost, team-or}
use Rattle.dds_resolve.proofs.LeftTurns.{left-after}
use Rattle.dds_resolve.proofs.ResolverLetters.{resolver-letter}
use Rattle.dds_resolve.proofs.ResolverSteps.{Going, brick-same, decided-is}
use Rattle.dds_resolve.proofs.Seats.{seats, seats-there}
use Rattle.dds_resolve.proofs.Grounds.{ends}
use Rattle.dds_resolve.proofs.TeamTurns.{team-to, not-both}
use Rattle.dds_resolve.specs.Conversations.{SeenOk}
use Rattle.dds_resolve.specs.Resolved.{Alive, Lost, Member, Pair, Resolve}
use Rattle.dds_resolve.specs.Resolving.{own_at, side, status_in, tell_in}
use Rattle.dds_resolve.specs.Team.{LetterOk, Team}
use Rattle.dds_resolve.specs.Teams.{BrickIs, ground, is_stopped}
use Rattle.dds_resolve.proofs.Beside.{swap, Case, now_decided}

-- A brick's turn keeps the conversations of all live resolvers.

module _ {z : Sizes} {w v : Net} {b : Books} {n from : ℕ} {s : BrickState} {l : Letter} {rest : List Letter} (c : Case z w v b n from s l rest) where
  -- a live brick hasn't stopped, and the brick itself
  lives : (m : ℕ) (y : BrickState) → w.node m ≡ a_brick y → y.stopped ≡ false → (ground z w b.list).stopped m ≡ false
  lives m y e live = ap is_stopped e ∙ live

  n-lives : (ground z w b.list).stopped n ≡ false
  n-lives = lives n s c.step.here c.step.live

  -- a brick after the turn
  brick-after : (m : ℕ) (y : BrickState) → v.node m ≡ a_brick y → BrickIs (ground z w b.list) m y
  brick-after m y e = pick (m == n) refl
    where
      pick : (k : Bool) → (m == n) ≡ k → BrickIs (ground z w b.list) m y
      pick true i =
          let mn : m ≡ n = eqb-true m n i in
          let same : (live_brick_turn s from l).state ≡ y = brick-same (live_brick_turn s from l).state y (sym c.step.is ∙ ap v.node (sym mn) ∙ e) in
          subst (λ k. BrickIs (ground z w b.list) k y) (sym mn)
          (subst (BrickIs (ground z w b.list) n) same (ends (live_brick_turn s from l).state c.good.state))
      pick false i = c.bricks m y (sym (c.step.nodes m i) ∙ e)

  -- whoever can't be the resolver
  idle-alive : (d : Bool) (t : Txn) (f m : ℕ) (x y : BrickState) → NoTeam (ground z w b.list) t f → v.node f ≡ a_brick x → v.node m ≡ a_brick y →
      Alive v d t (b.list t) f m x y
  idle-alive d t f m x y none e i = rests-alive v (ground z w b.list) d t (b.list t) f m x y none (brick-after f x e) (brick-after m y i) (c.letters f m)
      (c.letters m f)

  idle-lost : (d : Bool) (t : Txn) (f m : ℕ) (x : BrickState) → NoTeam (ground z w b.list) t f → v.node f ≡ a_brick x → Lost v d t f m x
  idle-lost d t f m x none e = rests-lost v (ground z w b.list) d t f m x none (brick-after f x e) (c.letters m f)

  idle-seen : (d : Bool) (t : Txn) (f : ℕ) (x : BrickState) → NoTeam (ground z w b.list) t f → v.node f ≡ a_brick x →
      SeenOk d (b.list t) (own_at x t) (find (is_of t) x.resolving)
  idle-seen d t f x none e = subst (SeenOk d (b.list t) (own_at x t))
      (sym (no-resolving (ground z w b.list) t f x.resolving none (brick-after f x e).resolving)) tt

  -- the resolver's turn
  turn-goes : (t : Txn) → Team (ground z w b.list) t (b.list t) n n → Going w v b.list t n s (live_brick_turn s from l) (b.decided t)
  turn-goes t team =
      let agree = (λ (m : ℕ) (y : BrickState) (e : w.node m ≡ a_brick y) (i : y.stopped ≡ false) (h : has (b.list t) m ≡ true).
      c.beside.agree t m y e i h team.frozen) in
      resolver-letter {g = ground z w b.list} l (record {
        step = c.step;
        team = team;
        ok = c.ok;
        readies = c.readies;
        alone = λ known. c.beside.alone t known team.frozen;
        seats = seats w b.list b.decided t n s c.step.here c.step.live c.resolve agree;
        there = seats-there w b.list b.decided t n s c.step.here c.step.live c.resolve agree;
        own = agree n s c.step.here c.step.live team.resolver;
        seen = c.resolve.seen t n s c.step.here c.step.live;
        once = c.beside.once;
        letter_ok = c.letter_ok;
        notice = c.notice;
        untrimmed = c.beside.trims t team.frozen;
        blind = blind-here (ground z w b.list) s.known t n n n from l c.unknown c.beside.sender c.letter_ok team n-lives;
        settled = λ q. c.beside.settled t team.frozen team.resolver q;
        speaker = λ x st e. speaking x st e;
      })
    where
      speaking : (x : Txn) (st : TxnStatus) → l ≡ letter.Status x st → (y : BrickState) × Pair w b.list x n from s y
      speaking x st e =
          let y = c.beside.speaker x st e in
          let told = subst (LetterOk (ground z w b.list) from n) e c.letter_ok in (
            y.0,
            record {
              resolver = c.step.here;
              lives = c.step.live;
              member = y.1;
              apart = told.apart;
              in_list = ap (λ k. has k from) told.team.members.listed ∙ told.team.members.member;
              unknown = c.unknown;
            },
          )

  goes-decided : (t : Txn) (h : Going w v b.list t n s (live_brick_turn s from l) (b.decided t)) → h.decided ≡ now_decided b (live_brick_turn s from l) t
  goes-decided t h =
      let r = live_brick_turn s from l in
      decided-is (b.decided t) h.decided (is_pending r.state.locks.pending t) (get r.state.locks.outcomes t) (c.beside.free t) h.grows h.why h.own

  -- an attempt that the brick doesn't resolve
  same-decided : (t : Txn) → NoTeam (ground z w b.list) t n → b.decided t ≡ now_decided b (live_brick_turn s from l) t
  same-decided t none = pick (b.decided t) (is_yes (get (live_brick_turn s from l).state.locks.outcomes t)) (c.beside.noted t none)
    where
      pick : (d e : Bool) → (e ≡ true → d ≡ true) → d ≡ (d || e)
      pick true e f = refl
      pick false false f = refl
      pick false true f = f refl

  -- another resolver than the brick, which can't be one then: its conversation with the brick, and with others
  unchanged : (d : Bool) (t : Txn) (f m : ℕ) (x y : BrickState) → v.channel f m ≡ w.channel f m → v.channel m f ≡ w.channel m f →
      Alive w d t (b.list t) f m x y → Alive v d t (b.list t) f m x y
  unchanged d t f m x y e i k =
      record {
        put = k.put;
        waiting = k.waiting;
        now = subst (λ o. Resolves d (side x t m) (about tell_in t o ++ []) k.put (is_ready y.known t (b.list t) f) (own_at y t)
            (about status_in t (v.channel m f))) (sym e)
            (subst (λ o. Resolves d (side x t m) (about tell_in t (w.channel f m) ++ []) k.put (is_ready y.known t (b.list t) f) (own_at y t)
            (about status_in t o)) (sym i) k.now);
      }

  f-was : (f : ℕ) (x : BrickState) → (f == n) ≡ false → v.node f ≡ a_brick x → w.node f ≡ a_brick x
  f-was f x fn e = sym (c.step.nodes f fn) ∙ e

  with-brick : (t : Txn) (f : ℕ) (x : BrickState) → (f == n) ≡ false → v.node f ≡ a_brick x → x.stopped ≡ false → Team (ground z w b.list) t (b.list t) f f →
      has (b.list t) n ≡ true → has_node x.known n ≡ false → Alive v (b.decided t) t (b.list t) f n x (live_brick_turn s from l).state
  with-brick t f x fn e live team listed unknown =
      let g = ground z w b.list in
      let was = f-was f x fn e in
      let f-lives = lives f x was live in
      let mine = team-to n team listed in
      let old = c.resolve.alive t f n x s (record { resolver = was; lives = live; member = c.step.here; apart = fn; in_list = listed; unknown = unknown })
      c.step.live in
      let new = member-letter g from l (record {
        ok = c.ok;
        others = others-of f n n f-lives n-lives (eqb-false f n fn) mine;
        team = mine;
        apart = fn;
        letter_ok = c.letter_ok;
        notice = c.notice;
        once = c.beside.once;
        untrimmed = c.beside.trims t team.frozen;
        blind = blind-here g s.known t f n f from l c.unknown c.beside.sender c.letter_ok team f-lives;
        lives = f-lives;
      }) c.step old in
      subst (Member v (b.decided t) t (b.list t) f n (live_brick_turn s from l).state (side x t n) []) (sym (c.step.statuses t f x was fn)) new

  kept-alive : (t : Txn) (f m : ℕ) (x y : BrickState) → Team (ground z w b.list) t (b.list t) f f → (f == n) ≡ false → Pair v b.list t f m x y →
      y.stopped ≡ false → Alive v (b.decided t) t (b.list t) f m x y
  kept-alive t f m x y team fn p live = pick (m == n) refl
    where
      pick : (k : Bool) → (m == n) ≡ k → Alive v (b.decided t) t (b.list t) f m x y
      pick true i =
          let mn : m ≡ n = eqb-true m n i in
          let same : (live_brick_turn s from l).state ≡ y = brick-same (live_brick_turn s from l).state y (sym c.step.is ∙ ap v.node (sym mn) ∙ p.member) in
          subst (λ k. Alive v (b.decided t) t (b.list t) f k x y) (sym mn) (subst (λ u. Alive v (b.decided t) t (b.list t) f n x u) same
          (with-brick t f x fn p.resolver p.lives team (ap (has (b.list t)) (sym mn) ∙ p.in_list) (ap (has_node x.known) (sym mn) ∙ p.unknown)))
      pick false i =
          unchanged (b.decided t) t f m x y (c.step.apart f m fn i) (c.step.apart m f i fn)
          (c.resolve.alive t f m x y (record {
            resolver = f-was f x fn p.resolver;
            lives = p.lives;
            member = sym (c.step.nodes m i) ∙ p.member;
            apart = p.apart;
            in_list = p.in_list;
            unknown = p.unknown;
          }) live)

  -- a stopped member isn't the brick
  not-here : (m : ℕ) (y : BrickState) → v.node m ≡ a_brick y → y.stopped ≡ true → (m == n) ≡ false
  not-here m y e stops = pick (m == n) refl
    where
      pick : (k : Bool) → (m == n) ≡ k → k ≡ false
      pick false i = refl
      pick true i =
          let same : (live_brick_turn s from l).state ≡ y =
          brick-same (live_brick_turn s from l).state y (sym c.step.is ∙ ap v.node (sym (eqb-true m n i)) ∙ e) in
          absurd (not-both y.stopped stops (ap (λ (u : BrickState). u.stopped) (sym same) ∙ c.stays))

  kept-lost : (t : Txn) (f m : ℕ) (x y : BrickState) → (f == n) ≡ false → Pair v b.list t f m x y → y.stopped ≡ true → Lost v (b.decided t) t f m x
  kept-lost t f m x y fn p stops =
      let i = not-here m y p.member stops in
      let k = c.resolve.lost t f m x y (record {
        resolver = f-was f x fn p.resolver;
        lives = p.lives;
        member = sym (c.step.nodes m i) ∙ p.member;
        apart = p.apart;
        in_list = p.in_list;
        unknown = p.unknown;
      }) stops in
      record {
        out = k.out;
        put = k.put;
        ready = k.ready;
        at = k.at;
        cut = k.cut;
        agreed = k.agreed;
        now = subst (λ o. Resolves (b.decided t) (side x t m) k.out k.put k.ready k.at (about status_in t o ++ k.cut)) (sym (c.step.apart m f i fn)) k.now;
      }

  -- the brick's own
  pair-was : (t : Txn) (f m : ℕ) (x y : BrickState) → f ≡ n → (m == n) ≡ false → Pair v b.list t f m x y →
      Pair w b.list t n m s y × (has_node (live_brick_turn s from l).state.known m ≡ false) × ((live_brick_turn s from l).state ≡ x)
  pair-was t f m x y e mn p =
      let same : (live_brick_turn s from l).state ≡ x = brick-same (live_brick_turn s from l).state x (sym c.step.is ∙ ap v.node (sym e) ∙ p.resolver) in
      let unknown : has_node (live_brick_turn s from l).state.known m ≡ false = ap (λ (u : BrickState). has_node u.known m) same ∙ p.unknown in (
        record {
          resolver = c.step.here;
          lives = c.step.live;
          member = sym (c.step.nodes m mn) ∙ p.member;
          apart = swap m n mn;
          in_list = p.in_list;
          unknown = knows-more s from (ground z w b.list) l m c.notice unknown;
        },
        unknown,
        same,
      )

  others-apart : (f m : ℕ) → f ≡ n → (f == m) ≡ false → (m == n) ≡ false
  others-apart f m e h = swap n m (ap (λ k. k == m) (sym e) ∙ h)

  mine-alive : (t : Txn) (f m : ℕ) (x y : BrickState) → f ≡ n → Team (ground z w b.list) t (b.list t) n n → Pair v b.list t f m x y → y.stopped ≡ false →
      Alive v (now_decided b (live_brick_turn s from l) t) t (b.list t) f m x y
  mine-alive t f m x y e team p live =
      let h = turn-goes t team in
      let q = pair-was t f m x y e (others-apart f m e p.apart) p in
      subst (λ d. Alive v d t (b.list t) f m x y) (goes-decided t h)
      (subst (λ k. Alive v h.decided t (b.list t) k m x y) (sym e) (subst (λ u. Alive v h.decided t (b.list t) n m u y) q.2 (h.alive m y q.0 q.1 live)))

  mine-lost : (t : Txn) (f m : ℕ) (x y : BrickState) → f ≡ n → Team (ground z w b.list) t (b.list t) n n → Pair v b.list t f m x y → y.stopped ≡ true →
      Lost v (now_decided b (live_brick_turn s from l) t) t f m x
  mine-lost t f m x y e team p stops =
      let h = turn-goes t team in
      let q = pair-was t f m x y e (others-apart f m e p.apart) p in
      subst (λ d. Lost v d t f m x) (goes-decided t h)
      (subst (λ k. Lost v h.decided t k m x) (sym e) (subst (λ u. Lost v h.decided t n m u) q.2 (h.lost m y q.0 q.1 stops)))

  mine-seen : (t : Txn) (f : ℕ) (x : BrickState) → f ≡ n → Team (ground z w b.list) t (b.list t) n n → v.node f ≡ a_brick x →
      SeenOk (now_decided b (live_brick_turn s from l) t) (b.list t) (own_at x t) (find (is_of t) x.resolving)
  mine-seen t f x e team i =
      let h = turn-goes t team in
      let same : (live_brick_turn s from l).state ≡ x = brick-same (live_brick_turn s from l).state x (sym c.step.is ∙ ap v.node (sym e) ∙ i) in
      subst (λ d. SeenOk d (b.list t) (own_at x t) (find (is_of t) x.resolving)) (goes-decided t h)
      (subst (λ u. SeenOk h.decided (b.list t) (own_at u t) (find (is_of t) u.resolving)) same h.seen)

  -- two live resolvers are one
  clash : (t : Txn) (f : ℕ) (x : BrickState) → (f == n) ≡ false → v.node f ≡ a_brick x → x.stopped ≡ false → Team (ground z w b.list) t (b.list t) n n →
      Team (ground z w b.list) t (b.list t) f f → ⊥
  clash t f x fn e live mine hers = eqb-false f n fn (one-resolver f n f n (lives f x (f-was f x fn e) live) n-lives hers mine)

  pub resolve-after : Resolve v b.list (now_decided b (live_brick_turn s from l))
  resolve-after =
      record {
        alive = λ t f m x y p live. alive-if t f m x y p live (f == n) refl (team-or (ground z w b.list) t n) (team-or (ground z w b.list) t f);
        lost = λ t f m x y p stops. lost-if t f m x y p stops (f == n) refl (team-or (ground z w b.list) t n) (team-or (ground z w b.list) t f);
        left = λ t f m x y p. left-after c t f m x y (not-here f x p.resolver p.stops) (λ none. same-decided t none) (λ team. turn-goes t team)
            (λ team. goes-decided t (turn-goes t team)) p;
        seen = λ t f x e live. seen-if t f x e live (f == n) refl (team-or (ground z w b.list) t n) (team-or (ground z w b.list) t f);
      }
    where
      alive-if : (t : Txn) (f m : ℕ) (x y : BrickState) → Pair v b.list t f m x y → y.stopped ≡ false → (k : Bool) → (f == n) ≡ k →
          Team (ground z w b.list) t (b.list t) n n ⊎ NoTeam (ground z w b.list) t n →
          Team (ground z w b.list) t (b.list t) f f ⊎ NoTeam (ground z w b.list) t f
          → Alive v (now_decided b (live_brick_turn s from l) t) t (b.list t) f m x y
      alive-if t f m x y p live k i a (inr none) = idle-alive (now_decided b (live_brick_turn s from l) t) t f m x y none p.resolver p.member
      alive-if t f m x y p live true i (inl team) (inl hers) = mine-alive t f m x y (eqb-true f n i) team p live
      alive-if t f m x y p live true i (inr none) (inl hers) =
          idle-alive (now_decided b (live_brick_turn s from l) t) t f m x y (subst (NoTeam (ground z w b.list) t) (sym (eqb-true f n i)) none) p.resolver
          p.member
      alive-if t f m x y p live false i (inl team) (inl hers) = absurd (clash t f x i p.resolver p.lives team hers)
      alive-if t f m x y p live false i (inr none) (inl hers) =
          subst (λ d. Alive v d t (b.list t) f m x y) (same-decided t none) (kept-alive t f m x y hers i p live)

      lost-if : (t : Txn) (f m : ℕ) (x y : BrickState) → Pair v b.list t f m x y → y.stopped ≡ true → (k : Bool) → (f == n) ≡ k →
          Team (ground z w b.list) t (b.list t) n n ⊎ NoTeam (ground z w b.list) t n →
          Team (ground z w b.list) t (b.list t) f f ⊎ NoTeam (ground z w b.list) t f
          → Lost v (now_decided b (live_brick_turn s from l) t) t f m x
      lost-if t f m x y p stops k i a (inr none) = idle-lost (now_decided b (live_brick_turn s from l) t) t f m x none p.resolver
      lost-if t f m x y p stops true i (inl team) (inl hers) = mine-lost t f m x y (eqb-true f n i) team p stops
      lost-if t f m x y p stops true i (inr none) (inl hers) =
          idle-lost (now_decided b (live_brick_turn s from l) t) t f m x (subst (NoTeam (ground z w b.list) t) (sym (eqb-true f n i)) none) p.resolver
      lost-if t f m x y p stops false i (inl team) (inl hers) = absurd (clash t f x i p.resolver p.lives team hers)
      lost-if t f m x y p stops false i (inr none) (inl hers) = subst (λ d. Lost v d t f m x) (same-decided t none) (kept-lost t f m x y i p stops)

      seen-if : (t : Txn) (f : ℕ) (x : BrickState) → v.node f ≡ a_brick x → x.stopped ≡ false → (k : Bool) → (f == n) ≡ k →
          Team (ground z w b.list) t (b.list t) n n ⊎ NoTeam (ground z w b.list) t n →
          Team (ground z w b.list) t (b.list t) f f ⊎ NoTeam (ground z w b.list) t f
          → SeenOk (now_decided b (live_brick_turn s from l) t) (b.list t) (own_at x t) (find (is_of t) x.resolving)
      seen-if t f x e live k i a (inr none) = idle-seen (now_decided b (live_brick_turn s from l) t) t f x none e
      seen-if t f x e live true i (inl team) (inl hers) = mine-seen t f x (eqb-true f n i) team e
      seen-if t f x e live true i (inr none) (inl hers) =
          idle-seen (now_decided b (live_brick_turn s from l) t) t f x (subst (NoTeam (ground z w b.list) t) (sym (eqb-true f n i)) none) e
      seen-if t f x e live false i (inl team) (inl hers) = absurd (clash t f x i e live team hers)
      seen-if t f x e live false i (inr none) (inl hers) =
          subst (λ d. SeenOk d (b.list t) (own_at x t) (find (is_of t) x.resolving)) (same-decided t none) (c.resolve.seen t f x (f-was f x i e) live)
