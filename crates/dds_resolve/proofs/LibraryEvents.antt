use Rattle.std.proofs.Common.{◌≡◌, ℕ, ◌==◌, ◌⊎◌, inl, inr, Bool, true, false, List, [], ◌++◌, find}
use Rattle.std.proofs.Common.{refl, sym, ap, ◌∙◌, subst}
use Rattle.std.proofs.lemmas.Bool.{eq-eqb, eqb-true}
use Rattle.std.specs.List.{AllByRecursion}
use Rattle.std.specs.Prelude.{if◌then◌else◌}
use Rattle.dds_base.specs.BrickList.{has}
use Rattle.dds_base.specs.Number.{Txn}
use Rattle.dds_brick_rows.specs.Resolution.{is_of, is_ready}
use Rattle.dds_net.specs.Event.{stops}
use Rattle.dds_net.specs.Net.{Change, Net, a_brick, a_library, Sizes, changed}
use Rattle.dds_states.specs.declared.brick_state.BrickState.{BrickState}
use Rattle.dds_states.specs.declared.brick_state.Resolving.{Resolving}
use Rattle.dds_states.specs.declared.library_state.LibraryState.{LibraryState}
use Rattle.dds_talk.specs.Resolve.{Resolves, Side}
use Rattle.dds_talk.specs.Seen.{about, one}
use Rattle.dds_resolve.proofs.OneResolver.{NoTeam, no-resolving, rests-alive, rests-left, rests-lost}
use Rattle.dds_resolve.specs.Conversations.{SeenOk}
use Rattle.dds_resolve.specs.Resolved.{Alive, LeftOver, LeftPair, Lost, Pair, Resolve, ToldOk}
use Rattle.dds_resolve.specs.Resolving.{own_at, side, side_of, status_in, tell_in, waits}
use Rattle.dds_resolve.specs.Team.{Ground, LetterOk}
use Rattle.dds_resolve.specs.Teams.{BrickIs, NodeOk, Teams, ground}

-- The other events keep the conversations of all live resolvers.

-- nodes and channels that a change leaves
pub node-at : (w : Net) (c : Change) → (changed w c).node c.at ≡ c.node
node-at w c = ap (λ b. if b then c.node else w.node c.at) (eq-eqb c.at c.at refl)

pub node-other : (w : Net) (c : Change) (i : ℕ) → (i == c.at) ≡ false → (changed w c).node i ≡ w.node i
node-other w c i e = ap (λ b. if b then c.node else w.node i) e

pub channel-other : (w : Net) (c : Change) (a b : ℕ) → (a == c.at) ≡ false → (b == c.at) ≡ false → (changed w c).channel a b ≡ w.channel a b
channel-other w c a b e i = ap (λ k. if k then c.left b ++ c.gains b else (if b == c.at then c.rest a else w.channel a b)) e
    ∙ ap (λ k. if k then c.rest a else w.channel a b) i

pub channel-from : (w : Net) (c : Change) (b : ℕ) → (changed w c).channel c.at b ≡ c.left b ++ c.gains b
channel-from w c b = ap (λ k. if k then c.left b ++ c.gains b else (if b == c.at then c.rest c.at else w.channel c.at b)) (eq-eqb c.at c.at refl)

pub channel-to : (w : Net) (c : Change) (a : ℕ) → (a == c.at) ≡ false → (changed w c).channel a c.at ≡ c.rest a
channel-to w c a e = ap (λ k. if k then c.left c.at ++ c.gains c.at else (if c.at == c.at then c.rest a else w.channel a c.at)) e
    ∙ ap (λ k. if k then c.rest a else w.channel a c.at) (eq-eqb c.at c.at refl)

-- conversations of which nothing changes that is said here
pub alive-same : {w v : Net} {d : Bool} {t : Txn} {list : List ℕ} {f m : ℕ} {y q : BrickState} (x u : BrickState) →
    about tell_in t (v.channel f m) ≡ about tell_in t (w.channel f m) → about status_in t (v.channel m f) ≡ about status_in t (w.channel m f)
    → u.resolving ≡ x.resolving → own_at q t ≡ own_at y t → q.deferred ≡ y.deferred → q.known ≡ y.known → Alive w d t list f m x y → Alive v d t list f m u q
alive-same {w = w} {v = v} {d = d} {t = t} {list = list} {f = f} {m = m} {y = y} {q = q} x u e i j k a b h =
    record {
      put = h.put;
      waiting = ap (waits (own_at q t) f t) a ∙ subst (λ o. waits o f t y.deferred ≡ one h.put o) (sym k) h.waiting;
      now = subst (λ o. Resolves d (side u t m) (o ++ []) h.put (is_ready q.known t list f) (own_at q t) (about status_in t (v.channel m f))) (sym e)
          (subst (λ o. Resolves d (side u t m) (about tell_in t (w.channel f m) ++ []) h.put (is_ready q.known t list f) (own_at q t) o) (sym i)
          (subst (λ o. Resolves d (side u t m) (about tell_in t (w.channel f m) ++ []) h.put (is_ready o t list f) (own_at q t)
          (about status_in t (w.channel m f))) (sym b)
          (subst (λ o. Resolves d (side u t m) (about tell_in t (w.channel f m) ++ []) h.put (is_ready y.known t list f) o
          (about status_in t (w.channel m f))) (sym k)
          (subst (λ o. Resolves d o (about tell_in t (w.channel f m) ++ []) h.put (is_ready y.known t list f) (own_at y t)
          (about status_in t (w.channel m f))) (sym (ap (λ rs. side_in rs) j)) h.now))));
    }
  where
    side_in : List Resolving → Side
    side_in rs = side_of (find (is_of t) rs) m

pub lost-same : {w v : Net} {d : Bool} {t : Txn} {f m : ℕ} {x u : BrickState} → about status_in t (v.channel m f) ≡ about status_in t (w.channel m f) →
    u.resolving ≡ x.resolving → Lost w d t f m x → Lost v d t f m u
lost-same {w = w} {v = v} {d = d} {t = t} {f = f} {m = m} {x = x} {u = u} e j h =
    record {
      out = h.out;
      put = h.put;
      ready = h.ready;
      at = h.at;
      cut = h.cut;
      agreed = h.agreed;
      now = subst (λ o. Resolves d (side u t m) h.out h.put h.ready h.at (o ++ h.cut)) (sym e)
          (subst (λ o. Resolves d o h.out h.put h.ready h.at (about status_in t (w.channel m f) ++ h.cut)) (sym (ap (λ rs. side_in rs) j)) h.now);
    }
  where
    side_in : List Resolving → Side
    side_in rs = side_of (find (is_of t) rs) m

pub left-same : {w v : Net} {d : Bool} {t : Txn} {list : List ℕ} {f m : ℕ} {y q : BrickState} →
    about tell_in t (v.channel f m) ≡ about tell_in t (w.channel f m) → q.known ≡ y.known → LeftOver w d t list f m y → LeftOver v d t list f m q
left-same {w = w} {d = d} {t = t} {list = list} {f = f} {m = m} {q = q} e i h =
    record {
      told = subst (AllByRecursion (ToldOk d (is_ready q.known t list f))) (sym e)
          (subst (λ k. AllByRecursion (ToldOk d (is_ready k t list f)) (about tell_in t (w.channel f m))) (sym i) h.told);
    }

-- A library's turn, or its stop: bricks and what is between them stay
pub record Library (w v : Net) (at : ℕ) : Type 0 where
  pub old : LibraryState
  pub new : LibraryState
  pub was : w.node at ≡ a_library old
  pub is : v.node at ≡ a_library new
  pub nodes : (i : ℕ) → (i == at) ≡ false → v.node i ≡ w.node i
  pub channels : (a b : ℕ) → (a == at) ≡ false → (b == at) ≡ false → v.channel a b ≡ w.channel a b

apart-library : {w v : Net} {at : ℕ} (c : Library w v at) (f : ℕ) (x : BrickState) → v.node f ≡ a_brick x → (f == at) ≡ false
apart-library {v = v} {at = at} c f x e = pick (f == at) refl
  where
    pick : (k : Bool) → (f == at) ≡ k → k ≡ false
    pick false i = refl
    pick true i = let no = sym c.is ∙ ap v.node (sym (eqb-true f at i)) ∙ e in cc

-- an attempt keeps its members and whether a commit of it was decided, or nobody can be its resolver
abbrev pub Unmoved : Ground → (Txn → List ℕ) → (Txn → List ℕ) → (Txn → Bool) → (Txn → Bool) → Txn → Type 0
Unmoved g list more d e t = ((more t ≡ list t) × (e t ≡ d t)) ⊎ ((f : ℕ) → NoTeam g t f)

pub library-resolve : {w v : Net} {at : ℕ} (z : Sizes) (list more : Txn → List ℕ) (d e : Txn → Bool) → Library w v at → Teams z w list →
    ((t : Txn) → Unmoved (ground z w list) list more d e t) → Resolve w list d → Resolve v more e
library-resolve {w = w} {v = v} {at = at} z list more d e c teams unmoved h =
    record {
      alive = λ t f m x y p live. alive-if t f m x y p live (unmoved t);
      lost = λ t f m x y p stops. lost-if t f m x y p stops (unmoved t);
      left = λ t f m x y p. left-if t f m x y p (unmoved t);
      seen = λ t f x i live. seen-if t f x i live (unmoved t);
    }
  where
    was : (f : ℕ) (x : BrickState) → v.node f ≡ a_brick x → w.node f ≡ a_brick x
    was f x i = sym (c.nodes f (apart-library c f x i)) ∙ i

    brick : (f : ℕ) (x : BrickState) → v.node f ≡ a_brick x → BrickIs (ground z w list) f x
    brick f x i = subst (NodeOk (ground z w list) f) (was f x i) (teams.nodes f)

    same : (f m : ℕ) (x y : BrickState) → v.node f ≡ a_brick x → v.node m ≡ a_brick y → v.channel f m ≡ w.channel f m
    same f m x y i j = c.channels f m (apart-library c f x i) (apart-library c m y j)

    between : (f m : ℕ) (x y : BrickState) → v.node f ≡ a_brick x → v.node m ≡ a_brick y → AllByRecursion (LetterOk (ground z w list) f m) (v.channel f m)
    between f m x y i j = subst (AllByRecursion (LetterOk (ground z w list) f m)) (sym (same f m x y i j)) (teams.letters f m)

    pair : (t : Txn) (f m : ℕ) (x y : BrickState) → more t ≡ list t → Pair v more t f m x y → Pair w list t f m x y
    pair t f m x y k p = record {
      resolver = was f x p.resolver;
      lives = p.lives;
      member = was m y p.member;
      apart = p.apart;
      in_list = ap (λ l. has l m) (sym k) ∙ p.in_list;
      unknown = p.unknown;
    }

    alive-if : (t : Txn) (f m : ℕ) (x y : BrickState) → Pair v more t f m x y → y.stopped ≡ false → Unmoved (ground z w list) list more d e t →
        Alive v (e t) t (more t) f m x y
    alive-if t f m x y p live (inl k) =
        subst (λ l. Alive v (e t) t l f m x y) (sym k.0) (subst (λ b. Alive v b t (list t) f m x y) (sym k.1)
        (alive-same x x (ap (about tell_in t) (same f m x y p.resolver p.member)) (ap (about status_in t) (same m f y x p.member p.resolver)) refl refl refl
        refl (h.alive t f m x y (pair t f m x y k.0 p) live)))
    alive-if t f m x y p live (inr none) =
        rests-alive v (ground z w list) (e t) t (more t) f m x y (none f) (brick f x p.resolver) (brick m y p.member) (between f m x y p.resolver p.member)
        (between m f y x p.member p.resolver)

    lost-if : (t : Txn) (f m : ℕ) (x y : BrickState) → Pair v more t f m x y → y.stopped ≡ true → Unmoved (ground z w list) list more d e t →
        Lost v (e t) t f m x
    lost-if t f m x y p stops (inl k) = subst (λ b. Lost v b t f m x) (sym k.1)
        (lost-same (ap (about status_in t) (same m f y x p.member p.resolver)) refl (h.lost t f m x y (pair t f m x y k.0 p) stops))
    lost-if t f m x y p stops (inr none) = rests-lost v (ground z w list) (e t) t f m x (none f) (brick f x p.resolver) (between m f y x p.member p.resolver)

    left-if : (t : Txn) (f m : ℕ) (x y : BrickState) → LeftPair v more t f m x y → Unmoved (ground z w list) list more d e t →
        LeftOver v (e t) t (more t) f m y
    left-if t f m x y p (inl k) =
        subst (λ l. LeftOver v (e t) t l f m y) (sym k.0) (subst (λ b. LeftOver v b t (list t) f m y) (sym k.1)
        (left-same {y = y} {q = y} (ap (about tell_in t) (same f m x y p.resolver p.member)) refl (h.left t f m x y (record {
          resolver = was f x p.resolver;
          stops = p.stops;
          member = was m y p.member;
          lives = p.lives;
          apart = p.apart;
          in_list = ap (λ l. has l m) (sym k.0) ∙ p.in_list;
          unknown = p.unknown;
        }))))
    left-if t f m x y p (inr none) = rests-left v (ground z w list) (e t) t (more t) f m y (none f) (between f m x y p.resolver p.member)

    seen-if : (t : Txn) (f : ℕ) (x : BrickState) → v.node f ≡ a_brick x → x.stopped ≡ false → Unmoved (ground z w list) list more d e t →
        SeenOk (e t) (more t) (own_at x t) (find (is_of t) x.resolving)
    seen-if t f x i live (inl k) =
        subst (λ l. SeenOk (e t) l (own_at x t) (find (is_of t) x.resolving)) (sym k.0)
        (subst (λ b. SeenOk b (list t) (own_at x t) (find (is_of t) x.resolving)) (sym k.1) (h.seen t f x (was f x i) live))
    seen-if t f x i live (inr none) = subst (SeenOk (e t) (more t) (own_at x t))
        (sym (no-resolving (ground z w list) t f x.resolving (none f) (brick f x i).resolving)) tt
