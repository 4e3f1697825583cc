use Rattle.std.proofs.Common.{◌≡◌, ℕ, ◌==◌, ◌||◌, Bool, true, false, List, [], ◌∷◌, ◌++◌, find, Option}
use Rattle.std.proofs.Common.{refl, sym, ap, ◌∙◌, subst}
use Rattle.std.proofs.lemmas.Bool.{eqb-true}
use Rattle.std.proofs.lemmas.List.{append-nil}
use Rattle.std.specs.FinMap.{get}
use Rattle.dds_base.specs.NodeSet.{has_node}
use Rattle.dds_base.specs.Number.{Txn}
use Rattle.dds_base.specs.declared.number.NodeNo.{NodeNo}
use Rattle.dds_base.specs.declared.op.Order.{Order}
use Rattle.dds_brick_rows.specs.Resolution.{is_of}
use Rattle.dds_core.proofs.LetterTells.{Any}
use Rattle.dds_core.proofs.OrderTells.{order-rests}
use Rattle.dds_core.proofs.Rests.{AllOrders, Orders, Whole, whole}
use Rattle.dds_core.specs.Brick.{brick_input}
use Rattle.dds_letters.specs.declared.letter.Letter.{Letter}
use Rattle.dds_letters.specs.declared.letter.Letter.TheVariants as letter
use Rattle.dds_net.specs.Event.{does}
use Rattle.dds_net.specs.Net.{Change, Net, a_brick, Sizes, changed, gains}
use Rattle.dds_states.specs.declared.brick_state.BrickState.{BrickState}
use Rattle.dds_talk.proofs.Letters.{NoneAbout, about-append, about-none}
use Rattle.dds_talk.specs.Books.{is_yes}
use Rattle.dds_talk.specs.Seen.{about, is_pending, of}
use Rattle.dds_resolve.proofs.MemberTurns.{own-same}
use Rattle.dds_resolve.proofs.ResolverSteps.{brick-same}
use Rattle.dds_resolve.specs.Conversations.{SeenOk}
use Rattle.dds_resolve.specs.Resolved.{Alive, LeftOver, LeftPair, Lost, Pair, Resolve}
use Rattle.dds_resolve.specs.Resolving.{own_at, status_in, tell_in}
use Rattle.dds_resolve.proofs.LibraryEvents.{node-at, node-other, channel-other, channel-from, channel-to, alive-same, left-same, lost-same}

-- An order keeps the conversations of all live resolvers.

-- A brick is given an order
order-silent : {X : Type 0} (v : Letter → Option (Txn × X)) (t : Txn) (ls : List (NodeNo × Letter)) →
    ((to : ℕ) (l : Letter) → Orders Any to l → of t (v l) ≡ []) → AllOrders Any ls → NoneAbout v t ls
order-silent v t [] f h = tt
order-silent v t (l ∷ ls) f h = (f l.0 l.1 h.0, order-silent v t ls f h.1)

no-tell : (t : Txn) (to : ℕ) (l : Letter) → Orders Any to l → of t (tell_in l) ≡ []
no-tell t to (letter.Query txn list) h = absurd h
no-tell t to (letter.Outcome txn c) h = absurd h
no-tell t to other h = refl

no-status : (t : Txn) (to : ℕ) (l : Letter) → Orders Any to l → of t (status_in l) ≡ []
no-status t to (letter.Status txn st) h = absurd h
no-status t to other h = refl

-- a brick before an order
pub record Was (w : Net) (f : ℕ) (u : BrickState) : Type 0 where
  pub state : BrickState
  pub is : w.node f ≡ a_brick state
  pub same : whole u ≡ whole state

module _ (z : Sizes) (w : Net) (n : ℕ) (s : BrickState) (o : Order) (list : Txn → List ℕ) (d : Txn → Bool) (here : w.node n ≡ a_brick s)
    (noted : (t : Txn) → is_yes (get s.locks.outcomes t) ≡ true → d t ≡ true) (h : Resolve w list d) where
  abbrev pub doing : Change
  doing = does z w n (a_brick (brick_input s o).state) (brick_input s o).out.letters

  order-same : whole (brick_input s o).state ≡ whole s
  order-same = (order-rests {L = Any} s o).same

  order-letters : AllOrders Any (brick_input s o).out.letters
  order-letters = (order-rests {L = Any} s o).letters

  order-was : (f : ℕ) (u : BrickState) → (changed w doing).node f ≡ a_brick u → Was w f u
  order-was f u e = pick (f == n) refl
    where
      pick : (k : Bool) → (f == n) ≡ k → Was w f u
      pick true i =
          let same : (brick_input s o).state ≡ u =
          brick-same (brick_input s o).state u (sym (node-at w doing) ∙ ap (changed w doing).node (sym (eqb-true f n i)) ∙ e) in
          record { state = s; is = ap w.node (eqb-true f n i) ∙ here; same = ap whole (sym same) ∙ order-same }
      pick false i = record { state = u; is = sym (node-other w doing f i) ∙ e; same = refl }

  order-channel : {X : Type 0} (v : Letter → Option (Txn × X)) (t : Txn) (a b : ℕ) → ((to : ℕ) (l : Letter) → Orders Any to l → of t (v l) ≡ []) →
      about v t ((changed w doing).channel a b) ≡ about v t (w.channel a b)
  order-channel v t a b f = pick (a == n) (b == n) refl refl
    where
      pick : (j k : Bool) → (a == n) ≡ j → (b == n) ≡ k → about v t ((changed w doing).channel a b) ≡ about v t (w.channel a b)
      pick true k i j =
          ap (λ q. about v t ((changed w doing).channel q b)) (eqb-true a n i) ∙ ap (about v t) (channel-from w doing b)
          ∙ about-append v t (w.channel n b) (gains z (brick_input s o).out.letters b)
          ∙ ap (λ q. about v t (w.channel n b) ++ q)
          (about-none v t z b (brick_input s o).out.letters (order-silent v t (brick_input s o).out.letters f order-letters))
          ∙ append-nil (about v t (w.channel n b)) ∙ ap (λ q. about v t (w.channel q b)) (sym (eqb-true a n i))
      pick false true i j = ap (λ q. about v t ((changed w doing).channel a q)) (eqb-true b n j) ∙ ap (about v t) (channel-to w doing a i)
          ∙ ap (λ q. about v t (w.channel a q)) (sym (eqb-true b n j))
      pick false false i j = ap (about v t) (channel-other w doing a b i j)

  order-pair : (t : Txn) (f m : ℕ) (x y : BrickState) (a : Was w f x) (b : Was w m y) → Pair (changed w doing) list t f m x y →
      Pair w list t f m a.state b.state
  order-pair t f m x y a b p =
      record {
        resolver = a.is;
        lives = sym (ap (λ (q : Whole). q.who.stopped) a.same) ∙ p.lives;
        member = b.is;
        apart = p.apart;
        in_list = p.in_list;
        unknown = sym (ap (λ (q : Whole). has_node q.who.known m) a.same) ∙ p.unknown;
      }

  order-left : (t : Txn) (f m : ℕ) (x y : BrickState) (a : Was w f x) (b : Was w m y) → LeftPair (changed w doing) list t f m x y →
      LeftPair w list t f m a.state b.state
  order-left t f m x y a b p =
      record {
        resolver = a.is;
        stops = sym (ap (λ (q : Whole). q.who.stopped) a.same) ∙ p.stops;
        member = b.is;
        lives = sym (ap (λ (q : Whole). q.who.stopped) b.same) ∙ p.lives;
        apart = p.apart;
        in_list = p.in_list;
        unknown = sym (ap (λ (q : Whole). has_node q.who.known f) b.same) ∙ p.unknown;
      }

  own-was : (t : Txn) (x : BrickState) (a : BrickState) → whole x ≡ whole a → own_at x t ≡ own_at a t
  own-was t x a e = own-same a x t (ap (λ (q : Whole). is_pending q.pending t) e) (ap (λ (q : Whole). get q.outcomes t) e)

  order-resolve : Resolve (changed w doing) list d
  order-resolve =
      record {
        alive = λ t f m x y p lives.
            let a = order-was f x p.resolver in
            let b = order-was m y p.member in
            alive-same a.state x (order-channel tell_in t f m (no-tell t)) (order-channel status_in t m f (no-status t))
            (ap (λ (q : Whole). q.resolving) a.same) (own-was t y b.state b.same) (ap (λ (q : Whole). q.deferred) b.same)
            (ap (λ (q : Whole). q.who.known) b.same)
            (h.alive t f m a.state b.state (order-pair t f m x y a b p) (sym (ap (λ (q : Whole). q.who.stopped) b.same) ∙ lives));
        lost = λ t f m x y p stops.
            let a = order-was f x p.resolver in
            let b = order-was m y p.member in
            lost-same (order-channel status_in t m f (no-status t)) (ap (λ (q : Whole). q.resolving) a.same)
            (h.lost t f m a.state b.state (order-pair t f m x y a b p) (sym (ap (λ (q : Whole). q.who.stopped) b.same) ∙ stops));
        left = λ t f m x y p.
            let a = order-was f x p.resolver in
            let b = order-was m y p.member in
            left-same (order-channel tell_in t f m (no-tell t)) (ap (λ (q : Whole). q.who.known) b.same)
            (h.left t f m a.state b.state (order-left t f m x y a b p));
        seen = λ t f x e lives.
            let a = order-was f x e in
            subst (λ rs. SeenOk (d t) (list t) (own_at x t) (find (is_of t) rs)) (sym (ap (λ (q : Whole). q.resolving) a.same))
            (subst (λ k. SeenOk (d t) (list t) k (find (is_of t) a.state.resolving)) (sym (own-was t x a.state a.same))
            (h.seen t f a.state a.is (sym (ap (λ (q : Whole). q.who.stopped) a.same) ∙ lives)));
      }

  -- nothing is noted in it
  same-after : (t : Txn) → d t ≡ (d t || is_yes (get (brick_input s o).state.locks.outcomes t))
  same-after t = pick (d t) (is_yes (get (brick_input s o).state.locks.outcomes t))
      (λ e. noted t (sym (ap (λ (q : Whole). is_yes (get q.outcomes t)) order-same) ∙ e))
    where
      pick : (a c : Bool) → (c ≡ true → a ≡ true) → a ≡ (a || c)
      pick true c f = refl
      pick false false f = refl
      pick false true f = f refl

  pub told-resolve : Resolve (changed w doing) list (λ t. d t || is_yes (get (brick_input s o).state.locks.outcomes t))
  told-resolve =
      let k = order-resolve in
      record {
        alive = λ t f m x y p lives. subst (λ c. Alive (changed w doing) c t (list t) f m x y) (same-after t) (k.alive t f m x y p lives);
        lost = λ t f m x y p stops. subst (λ c. Lost (changed w doing) c t f m x) (same-after t) (k.lost t f m x y p stops);
        left = λ t f m x y p. subst (λ c. LeftOver (changed w doing) c t (list t) f m y) (same-after t) (k.left t f m x y p);
        seen = λ t f x e lives. subst (λ c. SeenOk c (list t) (own_at x t) (find (is_of t) x.resolving)) (same-after t) (k.seen t f x e lives);
      }
