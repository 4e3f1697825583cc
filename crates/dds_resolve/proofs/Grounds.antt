use Rattle.std.proofs.Common.{◌≡◌, ℕ, ◌≤◌, ◌==◌, ◌&&◌, ◌||◌, Bool, true, false, List, [], ◌∷◌, refl, sym, ap, ◌∙◌, subst}
use Rattle.std.proofs.lemmas.Bool.{and_parts, eqb-true}
use Rattle.std.specs.List.{AllByRecursion}
use Rattle.std.specs.Prelude.{drop, if◌then◌else◌}
use Rattle.dds_base.specs.BrickList.{has}
use Rattle.dds_base.specs.NodeSet.{has_node}
use Rattle.dds_base.specs.Number.{Txn}
use Rattle.dds_base.specs.declared.number.NodeNo.{NodeNo}
use Rattle.dds_base.specs.declared.pending.Pending.{Pending}
use Rattle.dds_brick_rows.specs.Resolution.{before}
use Rattle.dds_core.proofs.Lists.{all-map}
use Rattle.dds_core.proofs.Rests.{Whole, whole}
use Rattle.dds_core.specs.LibraryTurn.{live_library_turn}
use Rattle.dds_letters.specs.declared.letter.Letter.{Letter}
use Rattle.dds_letters.specs.declared.letter.Letter.TheVariants as letter
use Rattle.dds_net.proofs.Places.{one-place}
use Rattle.dds_net.proofs.Puts.{at-put, if-keeps}
use Rattle.dds_net.specs.Event.{Event, History, library_takes}
use Rattle.dds_net.specs.Event.{library_asked}
use Rattle.dds_net.specs.Event.{asked_turn, without_first}
use Rattle.dds_net.specs.Net.{Net, Node, nowhere, a_brick, a_library, Sizes, gains, is_in, landing, lands, put, when_in}
use Rattle.dds_states.specs.declared.brick_state.BrickState.{BrickState}
use Rattle.dds_states.specs.declared.brick_state.Deferred.{Deferred}
use Rattle.dds_states.specs.declared.brick_state.Question.{Question}
use Rattle.dds_states.specs.declared.brick_state.Question.TheVariants.{Help, Query}
use Rattle.dds_talk.specs.Books.{Books, adds, or_else}
use Rattle.dds_talk.specs.Seen.{call_of, members_in}
use Rattle.dds_resolve.proofs.TeamTurns.{AllOk, not-both}
use Rattle.dds_resolve.specs.Team.{Ground, Members, OpenIf, Team, Talks, LetterOk, PendingOk, AskedOk, DeferredOk, ResolvingOk, BrickOk}
use Rattle.dds_resolve.specs.Teams.{BrickIs, NodeOk, ground, is_frozen, is_stopped}

-- Each event keeps who resolves an attempt of a stopped library.

-- a later ground
pub record Within (g k : Ground) : Type 0 where
  pub stopped : (n : ℕ) → g.stopped n ≡ true → k.stopped n ≡ true
  pub frozen : (t : Txn) → g.frozen t ≡ true → k.frozen t ≡ true
  pub list : (t : Txn) (m : ℕ) → has (g.list t) m ≡ true → k.list t ≡ g.list t
  pub inside : (n : ℕ) → g.inside n ≡ true → k.inside n ≡ true

members-more : {g k : Ground} {t : Txn} {list : List ℕ} {m : ℕ} → Within g k → Members g t list m → Members k t list m
members-more {g = g} {k = k} {t = t} {list = list} {m = m} w h =
    record {
      listed = w.list t m (ap (λ xs. has xs m) h.listed ∙ h.member) ∙ h.listed;
      inside = all-map (λ n. g.inside n ≡ true) (λ n. k.inside n ≡ true) list (λ n e. w.inside n e) h.inside;
      member = h.member;
    }

team-more : {g k : Ground} {t : Txn} {list : List ℕ} {f m : ℕ} → Within g k → Team g t list f m → Team k t list f m
team-more {g = g} {k = k} {t = t} {list = list} {f = f} w h =
    record {
      members = members-more w h.members;
      resolver = h.resolver;
      library = w.stopped t.library h.library;
      frozen = w.frozen t h.frozen;
      first = all-map (λ n. g.stopped n ≡ true) (λ n. k.stopped n ≡ true) (before list f) (λ n e. w.stopped n e) h.first;
    }

pub letter-more : {g k : Ground} → Within g k → (from to : ℕ) (l : Letter) → LetterOk g from to l → LetterOk k from to l
letter-more w from to (letter.Prepare txn a c below name stamp list op) h = members-more w h
letter-more w from to (letter.Help txn list) h = team-more w h
letter-more w from to (letter.Query txn list) h = (team-more w h.0, h.1)
letter-more w from to (letter.Status txn st) h = record { list = h.list; team = team-more w h.team; apart = h.apart }
letter-more w from to (letter.Outcome txn commit) h = record { list = h.list; team = team-more w h.team; apart = h.apart }
letter-more w from to other h = tt

asked-more : {g k : Ground} → Within g k → (at : ℕ) (d : Deferred) (q : Question) → AskedOk g at d q → AskedOk k at d q
asked-more w at d Help h = team-more w h
asked-more w at d Query h = (team-more w h.0, h.1)

pub brick-more : {g k : Ground} → Within g k → (at : ℕ) (s : BrickState) → BrickIs g at s → BrickIs k at s
brick-more {g = g} {k = k} w at s b =
    record {
      number = b.number;
      known = λ n e. w.stopped n (b.known n e);
      pending = all-map (λ (p : Pending). Members g p.txn p.list at) (λ (p : Pending). Members k p.txn p.list at) s.locks.pending (λ p h. members-more w h)
          b.pending;
      deferred = all-map (DeferredOk g at) (DeferredOk k at) s.deferred (λ d h. asked-more w at d d.question h) b.deferred;
      resolving = all-map (ResolvingOk g at) (ResolvingOk k at) s.resolving (λ r h. team-more w h) b.resolving;
    }

pub node-more : {g k : Ground} → Within g k → (at : ℕ) (x : Node) → NodeOk g at x → NodeOk k at x
node-more w at nowhere h = tt
node-more w at (a_brick s) h = brick-more w at s h
node-more w at (a_library s) h = tt

pub all-more : {g k : Ground} → Within g k → (at : ℕ) (ls : List (NodeNo × Letter)) → AllOk g at ls → AllOk k at ls
all-more {g = g} {k = k} w at ls h = all-map (λ (p : NodeNo × Letter). LetterOk g at p.0 p.1) (λ (p : NodeNo × Letter). LetterOk k at p.0 p.1) ls
    (λ p i. letter-more w at p.0 p.1 i) h

-- a brick that differs in nothing that is said here
pub told-same : {g : Ground} {at : ℕ} (u s : BrickState) → whole u ≡ whole s → BrickIs g at s → BrickIs g at u
told-same {g = g} {at = at} u s e b =
    record {
      number = ap (λ (w : Whole). w.who.number) e ∙ b.number;
      known = λ n i. b.known n (sym (ap (λ (w : Whole). has_node w.who.known n) e) ∙ i);
      pending = subst (AllByRecursion (λ (p : Pending). Members g p.txn p.list at)) (sym (ap (λ (w : Whole). w.pending) e)) b.pending;
      deferred = subst (AllByRecursion (DeferredOk g at)) (sym (ap (λ (w : Whole). w.deferred) e)) b.deferred;
      resolving = subst (AllByRecursion (ResolvingOk g at)) (sym (ap (λ (w : Whole). w.resolving) e)) b.resolving;
    }

-- a letter comes to the node that it was sent to
pub inside-of : (inside : ℕ → Bool) (list : List ℕ) (m : ℕ) → AllByRecursion (λ n. inside n ≡ true) list → has list m ≡ true → inside m ≡ true
inside-of inside [] m h e = cc
inside-of inside (n ∷ ns) m h e = pick (n == m) refl (λ i. inside-of inside ns m h.1 i) e
  where
    pick : (c : Bool) → (n == m) ≡ c → (has ns m ≡ true → inside m ≡ true) → (c || has ns m) ≡ true → inside m ≡ true
    pick true i w k = sym (ap inside (eqb-true n m i)) ∙ h.0
    pick false i w k = w k

lands-at : (z : Sizes) (n : Net) (b : Txn → List ℕ) (at to c : ℕ) (l : Letter) → z.bricks ≤ 64 → LetterOk (ground z n b) at to l → is_in z c ≡ true →
    lands z to c ≡ true → LetterOk (ground z n b) at c l
lands-at z n b at to c (letter.Prepare txn x y below name stamp list op) few h i e =
    subst (λ k. Members (ground z n b) txn list k) (one-place z to c few (inside-of (is_in z) list to h.inside h.member) i (eqb-true _ _ e)) h
lands-at z n b at to c (letter.Help txn list) few h i e =
    subst (λ k. Team (ground z n b) txn list k at) (one-place z to c few (inside-of (is_in z) list to h.members.inside h.resolver) i (eqb-true _ _ e)) h
lands-at z n b at to c (letter.Query txn list) few h i e =
    subst (λ k. Team (ground z n b) txn list at k × ((at == k) ≡ false))
    (one-place z to c few (inside-of (is_in z) list to h.0.members.inside h.0.members.member) i (eqb-true _ _ e)) h
lands-at z n b at to c (letter.Status txn st) few h i e =
    subst (λ k. Talks (ground z n b) txn k at) (one-place z to c few (inside-of (is_in z) h.list to h.team.members.inside h.team.resolver) i (eqb-true _ _ e))
    h
lands-at z n b at to c (letter.Outcome txn commit) few h i e =
    subst (λ k. Talks (ground z n b) txn at k)
    (one-place z to c few (inside-of (is_in z) h.list to h.team.members.inside h.team.members.member) i (eqb-true _ _ e)) h
lands-at z n b at to c other few h i e = tt

landing-ok : (z : Sizes) (n : Net) (b : Txn → List ℕ) (at c : ℕ) (ls : List (NodeNo × Letter)) → z.bricks ≤ 64 → is_in z c ≡ true →
    AllOk (ground z n b) at ls → AllByRecursion (LetterOk (ground z n b) at c) (landing z c ls)
landing-ok z n b at c [] few i h = tt
landing-ok z n b at c (l ∷ ls) few i h =
    if-keeps (AllByRecursion (LetterOk (ground z n b) at c)) (lands z l.0 c) _ _
    (λ e. (lands-at z n b at l.0 c l.1 few h.0 i e, landing-ok z n b at c ls few i h.1)) (λ e. landing-ok z n b at c ls few i h.1)

pub gains-ok : (z : Sizes) (n : Net) (b : Txn → List ℕ) (at c : ℕ) (ls : List (NodeNo × Letter)) → z.bricks ≤ 64 → AllOk (ground z n b) at ls →
    AllByRecursion (LetterOk (ground z n b) at c) (gains z ls c)
gains-ok z n b at c ls few h = pick (is_in z c) refl
  where
    pick : (x : Bool) → is_in z c ≡ x → AllByRecursion (LetterOk (ground z n b) at c) (when_in x (landing z c ls))
    pick true e = landing-ok z n b at c ls few e h
    pick false e = tt

all-drop : {X : Type 0} (P : X → Type 0) (xs : List X) → AllByRecursion P xs → AllByRecursion P (drop 1 xs)
all-drop P [] h = tt
all-drop P (x ∷ xs) h = h.1

pub rest-ok : (P : Letter → Type 0) (n : Net) (at from a c : ℕ) → AllByRecursion P (n.channel a c) → AllByRecursion P (without_first n at from a c)
rest-ok P n at from a c h = if-keeps (AllByRecursion P) (a == from && c == at) (drop 1 (n.channel a c)) (n.channel a c) (λ e. all-drop P (n.channel a c) h)
    (λ e. h)

-- a brick at the beginning of a turn, and between its turns
both-all : {X : Type 0} (P Q : X → Type 0) (xs : List X) → AllByRecursion P xs → AllByRecursion Q xs → AllByRecursion (λ x. P x × Q x) xs
both-all P Q [] h k = tt
both-all P Q (x ∷ xs) h k = ((h.0, k.0), both-all P Q xs h.1 k.1)

pub begins : {g : Ground} {at : ℕ} (s : BrickState) → BrickIs g at s → AllByRecursion (λ (p : Pending). OpenIf g p.txn) s.locks.pending → BrickOk g at s
begins {g = g} {at = at} s b o =
    record {
      number = b.number;
      known = b.known;
      pending = both-all (λ (p : Pending). Members g p.txn p.list at) (λ (p : Pending). OpenIf g p.txn) s.locks.pending b.pending o;
      deferred = b.deferred;
      resolving = b.resolving;
    }

pub ends : {g : Ground} {at : ℕ} (s : BrickState) → BrickOk g at s → BrickIs g at s
ends {g = g} {at = at} s b =
    record {
      number = b.number;
      known = b.known;
      pending = all-map (PendingOk g at) (λ (p : Pending). Members g p.txn p.list at) s.locks.pending (λ p h. h.0) b.pending;
      deferred = b.deferred;
      resolving = b.resolving;
    }

-- the members of an attempt stay
list-if : (c : Bool) (xs ys : List ℕ) (m : ℕ) → has xs m ≡ true → (if c then or_else xs ys else xs) ≡ xs
list-if true [] ys m e = cc
list-if true (x ∷ xs) ys m e = refl
list-if false xs ys m e = refl

pub list-stays : (h : History) (n : Net) (e : Event) (b : Books) (t : Txn) (m : ℕ) → has (b.list t) m ≡ true → (adds h n e b).list t ≡ b.list t
list-stays h n (library_takes at from l s) b t m e = list-if (t.library == at) (b.list t) (members_in (call_of (live_library_turn s from l).state.calls t)) m e
list-stays h n (library_asked at caller call o s) b t m e =
    list-if (t.library == at) (b.list t) (members_in (call_of (asked_turn s caller call o).state.calls t)) m e
list-stays h n other b t m e = refl

-- the ground after an event: nodes that stopped stay so, and a library that stopped stays as it is
frozen-stops : (x : Node) (t : Txn) → is_frozen x t ≡ true → is_stopped x ≡ true
frozen-stops nowhere t e = cc
frozen-stops (a_brick s) t e = cc
frozen-stops (a_library s) t e = (and_parts s.stopped _ e).0

pub record Stays (n m : Net) : Type 0 where
  pub stopped : (a : ℕ) → is_stopped (n.node a) ≡ true → is_stopped (m.node a) ≡ true
  pub frozen : (a : ℕ) (t : Txn) → is_frozen (n.node a) t ≡ true → is_frozen (m.node a) t ≡ true

pub within : (z : Sizes) (h : History) (n m : Net) (e : Event) (b : Books) → Stays n m → Within (ground z n b.list) (ground z m (adds h n e b).list)
within z h n m e b s = record { stopped = s.stopped; frozen = λ t i. s.frozen t.library t i; list = λ t k i. list-stays h n e b t k i; inside = λ k i. i }

-- a node that has something in its place
pub put-stays : (n m : Net) (at : ℕ) (y : Node) → m.node ≡ put at y n.node → (is_stopped (n.node at) ≡ true → is_stopped y ≡ true) →
    ((t : Txn) → is_frozen (n.node at) t ≡ true → is_frozen y t ≡ true) → Stays n m
put-stays n m at y is f g =
    record {
      stopped = λ a. subst (λ (q : ℕ → Node). is_stopped (n.node a) ≡ true → is_stopped (q a) ≡ true) (sym is)
          (at-put (λ a x. is_stopped (n.node a) ≡ true → is_stopped x ≡ true) at y n.node f (λ k ne i. i) a);
      frozen = λ a t. subst (λ (q : ℕ → Node). is_frozen (n.node a) t ≡ true → is_frozen (q a) t ≡ true) (sym is)
          (at-put (λ a x. is_frozen (n.node a) t ≡ true → is_frozen x t ≡ true) at y n.node (g t) (λ k ne i. i) a);
    }

-- a live node, whatever comes in its place
pub live-stays : (n m : Net) (at : ℕ) (y : Node) → m.node ≡ put at y n.node → is_stopped (n.node at) ≡ false → Stays n m
live-stays n m at y is live =
    put-stays n m at y is (λ i. absurd (not-both (is_stopped (n.node at)) i live))
    (λ t i. absurd (not-both (is_stopped (n.node at)) (frozen-stops (n.node at) t i) live))
