use Rattle.std.proofs.Common.{◌≡◌, ℕ, ◌==◌, ◌&&◌, ◌⊎◌, inl, inr, Bool, true, false, not, List, [], ◌∷◌, ◌++◌, Option}
use Rattle.std.proofs.Common.{None, refl, sym, ap, ◌∙◌, subst}
use Rattle.std.proofs.lemmas.Bool.{eqb-true, eqb-false}
use Rattle.std.proofs.lemmas.List.{append-nil}
use Rattle.std.specs.List.{AllByRecursion}
use Rattle.dds_base.specs.BrickList.{has}
use Rattle.dds_base.specs.NodeSet.{has_node}
use Rattle.dds_base.specs.Number.{Txn}
use Rattle.dds_brick_rows.specs.Resolution.{is_ready}
use Rattle.dds_cluster.specs.World.{emptied}
use Rattle.dds_core.proofs.Lists.{all-append, all-front}
use Rattle.dds_letters.specs.declared.letter.Letter.{Letter}
use Rattle.dds_letters.specs.declared.letter.Letter.TheVariants as letter
use Rattle.dds_net.proofs.Puts.{other-to}
use Rattle.dds_net.specs.Event.{IsDeaf, IsFront, notice_to, stops, takes}
use Rattle.dds_net.specs.Net.{Change, Net, a_brick, Sizes, changed, gains, is_in, when_in}
use Rattle.dds_states.specs.declared.brick_state.BrickState.{BrickState}
use Rattle.dds_talk.proofs.Letters.{about-append}
use Rattle.dds_talk.specs.Resolve.{Agreed, Resolves}
use Rattle.dds_talk.specs.Seen.{about, of}
use Rattle.dds_resolve.proofs.OneResolver.{NoTeam, rests-lost, team-or}
use Rattle.dds_resolve.proofs.Outcomes.{all-told}
use Rattle.dds_resolve.proofs.ResolverSteps.{brick-same}
use Rattle.dds_resolve.proofs.TeamTurns.{not-both}
use Rattle.dds_resolve.specs.Resolved.{Alive, LeftOver, LeftPair, Lost, Pair, Resolve, ToldOk}
use Rattle.dds_resolve.specs.Resolving.{own_at, side, status_in, tell_in}
use Rattle.dds_resolve.specs.Team.{Ground, LetterOk, Team}
use Rattle.dds_resolve.specs.Teams.{BrickIs, NodeOk, Teams, ground, is_stopped}
use Rattle.dds_resolve.proofs.LibraryEvents.{node-at, node-other, channel-other, channel-from, alive-same, left-same, lost-same}

-- A node that stops, and one that stopped, keep the conversations of all live resolvers.

-- A brick stops: what it hasn't posted is lost
silent-notice : {X : Type 0} (v : Letter → Option (Txn × X)) (t : Txn) (c : Bool) → v letter.Notice ≡ None → about v t (when_in c (letter.Notice ∷ [])) ≡ []
silent-notice v t true e = ap (λ o. of t o ++ []) e
silent-notice v t false e = refl

notice-fits : (g : Ground) (a b : ℕ) (c : Bool) → AllByRecursion (LetterOk g a b) (when_in c (letter.Notice ∷ []))
notice-fits g a b true = (tt, tt)
notice-fits g a b false = tt

-- what a member has sent when it stops
lost-now : {w v : Net} {d : Bool} {t : Txn} {list : List ℕ} {f n : ℕ} {x s : BrickState} (kept gone more : List Letter) → w.channel n f ≡ kept ++ gone →
    v.channel n f ≡ kept ++ more → about status_in t more ≡ [] → Agreed d (own_at s t)
    → Alive w d t list f n x s → Lost v d t f n x
lost-now {w = w} {v = v} {d = d} {t = t} {list = list} {f = f} {n = n} {x = x} {s = s} kept gone more e i silent agreed h =
    let was : about status_in t (w.channel n f) ≡ about status_in t kept ++ about status_in t gone = ap (about status_in t) e
    ∙ about-append status_in t kept gone in
    let now : about status_in t (v.channel n f) ≡ about status_in t kept = ap (about status_in t) i ∙ about-append status_in t kept more
    ∙ ap (λ k. about status_in t kept ++ k) silent ∙ append-nil (about status_in t kept) in
    record {
      out = about tell_in t (w.channel f n) ++ [];
      put = h.put;
      ready = is_ready s.known t list f;
      at = own_at s t;
      cut = about status_in t gone;
      agreed = agreed;
      now = subst (Resolves d (side x t n) (about tell_in t (w.channel f n) ++ []) h.put (is_ready s.known t list f) (own_at s t))
          (was ∙ ap (λ k. k ++ about status_in t gone) (sym now)) h.now;
    }

-- what a resolver has sent when it stops
left-now : {w v : Net} {d : Bool} {t : Txn} {list : List ℕ} {n m : ℕ} {y : BrickState} (s : BrickState) (kept gone more : List Letter) →
    w.channel n m ≡ kept ++ gone → v.channel n m ≡ kept ++ more → about tell_in t more ≡ [] → Alive w d t list n m s y → LeftOver v d t list n m y
left-now {w = w} {v = v} {d = d} {t = t} {list = list} {n = n} {m = m} {y = y} s kept gone more e i silent h =
    let P = ToldOk d (is_ready y.known t list n) in
    let was : about tell_in t (w.channel n m) ≡ about tell_in t kept ++ about tell_in t gone = ap (about tell_in t) e
    ∙ about-append tell_in t kept gone in
    let now : about tell_in t (v.channel n m) ≡ about tell_in t kept = ap (about tell_in t) i ∙ about-append tell_in t kept more
    ∙ ap (λ k. about tell_in t kept ++ k) silent ∙ append-nil (about tell_in t kept) in
    let all : AllByRecursion P (about tell_in t (w.channel n m)) = subst (AllByRecursion P) (append-nil (about tell_in t (w.channel n m))) (all-told h.now) in
    record { told = subst (AllByRecursion P) (sym now) (all-front P (about tell_in t kept) (about tell_in t gone) (subst (AllByRecursion P) was all)) }

module _ (z : Sizes) (w : Net) (n : ℕ) (s : BrickState) (kept : ℕ → List Letter) (list : Txn → List ℕ) (d : Txn → Bool) (here : w.node n ≡ a_brick s)
    (live : s.stopped ≡ false)
    (front : (b : ℕ) → IsFront (kept b) (w.channel n b)) (teams : Teams z w list)
    (agree : (t : Txn) → has (list t) n ≡ true → (ground z w list).frozen t ≡ true → Agreed (d t) (own_at s t)) (h : Resolve w list d) where
  abbrev pub ending : Change
  ending = stops z w n (a_brick (emptied s.number)) kept

  -- a live brick is another one
  elsewhere : (f : ℕ) (x : BrickState) → (changed w ending).node f ≡ a_brick x → x.stopped ≡ false → (f == n) ≡ false
  elsewhere f x e lives = pick (f == n) refl
    where
      pick : (k : Bool) → (f == n) ≡ k → k ≡ false
      pick false i = refl
      pick true i =
          let same : emptied s.number ≡ x = brick-same (emptied s.number) x (sym (node-at w ending) ∙ ap (changed w ending).node (sym (eqb-true f n i)) ∙ e) in
          let q : true ≡ false = ap (λ (b : BrickState). b.stopped) same ∙ lives in cc

  stop-was : (f : ℕ) (x : BrickState) → (f == n) ≡ false → (changed w ending).node f ≡ a_brick x → w.node f ≡ a_brick x
  stop-was f x fn e = sym (node-other w ending f fn) ∙ e

  stop-between : (f : ℕ) → AllByRecursion (LetterOk (ground z w list) n f) ((changed w ending).channel n f)
  stop-between f =
      subst (AllByRecursion (LetterOk (ground z w list) n f)) (sym (channel-from w ending f))
      (all-append (LetterOk (ground z w list) n f) (kept f) (notice_to z n f)
      (all-front (LetterOk (ground z w list) n f) (kept f) (front f).gone
      (subst (AllByRecursion (LetterOk (ground z w list) n f)) (front f).is (teams.letters n f)))
      (notice-fits (ground z w list) n f (is_in z f && not (f == n))))

  stopped-here : (t : Txn) (f : ℕ) (x : BrickState) → (f == n) ≡ false → w.node f ≡ a_brick x → x.stopped ≡ false → has (list t) n ≡ true →
      has_node x.known n ≡ false → Lost (changed w ending) (d t) t f n x
  stopped-here t f x fn e lives listed unknown = pick (team-or (ground z w list) t f)
    where
      pick : Team (ground z w list) t (list t) f f ⊎ NoTeam (ground z w list) t f → Lost (changed w ending) (d t) t f n x
      pick (inl team) =
          lost-now {list = list t} {s = s} (kept f) (front f).gone (notice_to z n f) (front f).is (channel-from w ending f)
          (silent-notice status_in t (is_in z f && not (f == n)) refl) (agree t listed team.frozen)
          (h.alive t f n x s (record { resolver = e; lives = lives; member = here; apart = fn; in_list = listed; unknown = unknown }) live)
      pick (inr none) = rests-lost (changed w ending) (ground z w list) (d t) t f n x none (subst (NodeOk (ground z w list) f) e (teams.nodes f))
          (stop-between f)

  -- a brick knows no live one
  known-not : (m : ℕ) (y : BrickState) → w.node m ≡ a_brick y → y.stopped ≡ false → has_node s.known m ≡ false
  known-not m y e lives = pick (has_node s.known m) refl
    where
      pick : (k : Bool) → has_node s.known m ≡ k → k ≡ false
      pick false i = refl
      pick true i =
          let b : BrickIs (ground z w list) n s = subst (NodeOk (ground z w list) n) here (teams.nodes n) in
          absurd (not-both (is_stopped (w.node m)) (b.known m i) (ap is_stopped e ∙ lives))

  left-here : (t : Txn) (m : ℕ) (y : BrickState) → w.node m ≡ a_brick y → y.stopped ≡ false → has (list t) m ≡ true →
      (n == m) ≡ false → LeftOver (changed w ending) (d t) t (list t) n m y
  left-here t m y e lives listed apart =
      left-now {y = y} s (kept m) (front m).gone (notice_to z n m) (front m).is (channel-from w ending m)
      (silent-notice tell_in t (is_in z m && not (m == n)) refl)
      (h.alive t n m s y (record { resolver = here; lives = live; member = e; apart = apart; in_list = listed; unknown = known-not m y e lives }) lives)

  pub stops-resolve : Resolve (changed w ending) list d
  stops-resolve =
      record {
        alive = λ t f m x y p lives.
            let fn = elsewhere f x p.resolver p.lives in
            let mn = elsewhere m y p.member lives in
            alive-same x x (ap (about tell_in t) (channel-other w ending f m fn mn)) (ap (about status_in t) (channel-other w ending m f mn fn)) refl refl
            refl refl
            (h.alive t f m x y (record {
              resolver = stop-was f x fn p.resolver;
              lives = p.lives;
              member = stop-was m y mn p.member;
              apart = p.apart;
              in_list = p.in_list;
              unknown = p.unknown;
            }) lives);
        lost = λ t f m x y p stops. lost-if t f m x y p stops (m == n) refl;
        left = λ t f m x y p. left-if t f m x y p (f == n) refl;
        seen = λ t f x e lives. h.seen t f x (stop-was f x (elsewhere f x e lives) e) lives;
      }
    where
      lost-if : (t : Txn) (f m : ℕ) (x y : BrickState) → Pair (changed w ending) list t f m x y → y.stopped ≡ true → (k : Bool) → (m == n) ≡ k →
          Lost (changed w ending) (d t) t f m x
      lost-if t f m x y p stops true i =
          let fn = elsewhere f x p.resolver p.lives in
          let mn : m ≡ n = eqb-true m n i in
          subst (λ k. Lost (changed w ending) (d t) t f k x) (sym mn)
          (stopped-here t f x fn (stop-was f x fn p.resolver) p.lives (ap (has (list t)) (sym mn) ∙ p.in_list) (ap (has_node x.known) (sym mn)
          ∙ p.unknown))
      lost-if t f m x y p stops false i =
          let fn = elsewhere f x p.resolver p.lives in
          lost-same (ap (about status_in t) (channel-other w ending m f i fn)) refl
          (h.lost t f m x y (record {
            resolver = stop-was f x fn p.resolver;
            lives = p.lives;
            member = stop-was m y i p.member;
            apart = p.apart;
            in_list = p.in_list;
            unknown = p.unknown;
          }) stops)

      left-if : (t : Txn) (f m : ℕ) (x y : BrickState) → LeftPair (changed w ending) list t f m x y → (k : Bool) → (f == n) ≡ k →
          LeftOver (changed w ending) (d t) t (list t) f m y
      left-if t f m x y p true i =
          let mn = elsewhere m y p.member p.lives in
          let fn : f ≡ n = eqb-true f n i in
          subst (λ k. LeftOver (changed w ending) (d t) t (list t) k m y) (sym fn)
          (left-here t m y (stop-was m y mn p.member) p.lives p.in_list (ap (λ k. k == m) (sym fn) ∙ p.apart))
      left-if t f m x y p false i =
          let mn = elsewhere m y p.member p.lives in
          left-same {y = y} {q = y} (ap (about tell_in t) (channel-other w ending f m i mn)) refl
          (h.left t f m x y (record {
            resolver = stop-was f x i p.resolver;
            stops = p.stops;
            member = stop-was m y mn p.member;
            lives = p.lives;
            apart = p.apart;
            in_list = p.in_list;
            unknown = p.unknown;
          }))

-- A node that stopped loses a letter that comes to it
nothing-gained : (z : Sizes) (b : ℕ) → gains z [] b ≡ []
nothing-gained z b = pick (is_in z b)
  where
    pick : (c : Bool) → when_in c [] ≡ []
    pick true = refl
    pick false = refl

module _ (z : Sizes) (w : Net) (at from : ℕ) (list : Txn → List ℕ) (d : Txn → Bool) (deaf : IsDeaf (w.node at)) (h : Resolve w list d) where
  abbrev pub losing : Change
  losing = takes z w at from (w.node at) []

  deaf-was : (f : ℕ) (x : BrickState) → (changed w losing).node f ≡ a_brick x → w.node f ≡ a_brick x
  deaf-was f x e = pick (f == at) refl
    where
      pick : (k : Bool) → (f == at) ≡ k → w.node f ≡ a_brick x
      pick true i = ap w.node (eqb-true f at i) ∙ sym (node-at w losing) ∙ ap (changed w losing).node (sym (eqb-true f at i)) ∙ e
      pick false i = sym (node-other w losing f i) ∙ e

  not-deaf : (f : ℕ) (x : BrickState) → w.node f ≡ a_brick x → x.stopped ≡ false → (f == at) ≡ false
  not-deaf f x e live = pick (f == at) refl
    where
      pick : (k : Bool) → (f == at) ≡ k → k ≡ false
      pick false i = refl
      pick true i = let stops = subst IsDeaf (ap w.node (sym (eqb-true f at i)) ∙ e) deaf in let q : true ≡ false = sym stops ∙ live in cc

  deaf-same : (m f : ℕ) → (f == at) ≡ false → (changed w losing).channel m f ≡ w.channel m f
  deaf-same m f fn = pick (m == at) refl
    where
      pick : (k : Bool) → (m == at) ≡ k → (changed w losing).channel m f ≡ w.channel m f
      pick true i =
          ap (λ k. (changed w losing).channel k f) (eqb-true m at i) ∙ channel-from w losing f
          ∙ ap (λ k. k ++ gains z [] f) (other-to w at from at f (eqb-false f at fn)) ∙ ap (λ k. w.channel at f ++ k) (nothing-gained z f)
          ∙ append-nil (w.channel at f) ∙ ap (λ k. w.channel k f) (sym (eqb-true m at i))
      pick false i = channel-other w losing m f i fn

  deaf-pair : (t : Txn) (f m : ℕ) (x y : BrickState) → Pair (changed w losing) list t f m x y → Pair w list t f m x y
  deaf-pair t f m x y p = record {
    resolver = deaf-was f x p.resolver;
    lives = p.lives;
    member = deaf-was m y p.member;
    apart = p.apart;
    in_list = p.in_list;
    unknown = p.unknown;
  }

  pub unheard-resolve : Resolve (changed w losing) list d
  unheard-resolve =
      record {
        alive = λ t f m x y p lives.
            let fn = not-deaf f x (deaf-was f x p.resolver) p.lives in
            let mn = not-deaf m y (deaf-was m y p.member) lives in
            alive-same x x (ap (about tell_in t) (deaf-same f m mn)) (ap (about status_in t) (deaf-same m f fn)) refl refl refl refl
            (h.alive t f m x y (deaf-pair t f m x y p) lives);
        lost = λ t f m x y p stops. lost-same (ap (about status_in t) (deaf-same m f (not-deaf f x (deaf-was f x p.resolver) p.lives))) refl
            (h.lost t f m x y (deaf-pair t f m x y p) stops);
        left = λ t f m x y p. left-same {y = y} {q = y} (ap (about tell_in t) (deaf-same f m (not-deaf m y (deaf-was m y p.member) p.lives))) refl
            (h.left t f m x y (record {
              resolver = deaf-was f x p.resolver;
              stops = p.stops;
              member = deaf-was m y p.member;
              lives = p.lives;
              apart = p.apart;
              in_list = p.in_list;
              unknown = p.unknown;
            }));
        seen = λ t f x e lives. h.seen t f x (deaf-was f x e) lives;
      }
