use Rattle.std.proofs.Common.{◌≡◌, ℕ, ◌<◌, ◌==◌, ◌&&◌, ◌||◌, Bool, true, false, not, Option, Some, None, List, [], ◌∷◌}
use Rattle.std.proofs.Common.{refl, sym, ap, ◌∙◌, subst, arith}
use Rattle.std.proofs.lemmas.Bool.{and_parts, eqb-true}
use Rattle.std.proofs.lemmas.Bool.Decides.{nat_tests}
use Rattle.std.specs.List.{AllByRecursion}
use Rattle.std.specs.Prelude.{if◌then◌else◌}
use Rattle.dds_base.specs.BrickList.{has}
use Rattle.dds_base.specs.NodeSet.{has_node}
use Rattle.dds_base.specs.Number.{Txn}
use Rattle.dds_base.specs.declared.number.NodeNo.{NodeNo}
use Rattle.dds_base.specs.declared.pending.Pending.{Pending}
use Rattle.dds_brick_rows.specs.Calls as calls
use Rattle.dds_brick_rows.specs.Resolution as rows
use Rattle.dds_brick_rows.specs.declared.resolution.News.TheVariants as news
use Rattle.dds_core.specs.Brick.{live_brick_turn}
use Rattle.dds_core.specs.Notice as notices
use Rattle.dds_letters.specs.declared.refusal.Denial.{Denial}
use Rattle.dds_letters.specs.declared.refusal.Refusal.{Refusal}
use Rattle.dds_groups.specs.Leaves.{live}
use Rattle.dds_letters.specs.declared.letter.Letter.{Letter}
use Rattle.dds_letters.specs.declared.letter.Letter.TheVariants as letter
use Rattle.dds_core.proofs.Known.{has-with}
use Rattle.dds_locks.specs.Status.{status}
use Rattle.dds_core.proofs.Lists.{all-append, all-map}
use Rattle.dds_states.specs.Turn.{BrickTurn, sends, and_then, unknown}
use Rattle.dds_states.specs.declared.brick_state.BrickState.{BrickState}
use Rattle.dds_core.proofs.LetterTells.{Any, Each, letter-rests, order_part}
use Rattle.dds_core.proofs.Rests.{AllOrders, Orders, Rests, Whole}
use Rattle.dds_core.proofs.Tells.{Given}
use Rattle.dds_resolve.specs.Team.{Ground, OpenIf, OpenOk, Members, Team, LetterOk, PendingOk, DeferredOk, ResolvingOk, BrickOk}
use Rattle.dds_resolve.proofs.TeamTurns.{AllOk, Good, good-still, good-sends, good-then, good-if, dropped-ok, outcome-good, resolve-good}
use Rattle.dds_resolve.proofs.TeamTurns.{help-good, query-good, hear-good, all-asked-good}

-- The rest of a brick's turn keeps who resolves an attempt: a notice, the rows of calls and of orders.

-- all before the first unknown one are known
pub first-unknown : (list : List ℕ) (known : ℕ → Bool) (f : ℕ) (fs : List ℕ) → live list known ≡ f ∷ fs →
    AllByRecursion (λ n. known n ≡ true) (rows.before list f) × (has list f ≡ true)
first-unknown [] known f fs e = cc
first-unknown (n ∷ ns) known f fs e = pick (known n) refl (λ h. first-unknown ns known f fs h) e
  where
    more : (c : Bool) → known n ≡ true → AllByRecursion (λ k. known k ≡ true) (rows.before ns f) →
        AllByRecursion (λ k. known k ≡ true) (if c then [] else n ∷ rows.before ns f)
    more true k h = tt
    more false k h = (k, h)

    later : (a b : Bool) → b ≡ true → (a || b) ≡ true
    later true b h = refl
    later false b h = h

    pick : (c : Bool) → known n ≡ c → (live ns known ≡ f ∷ fs → AllByRecursion (λ k. known k ≡ true) (rows.before ns f) × (has ns f ≡ true)) →
        (if c then live ns known else n ∷ live ns known) ≡ f ∷ fs → AllByRecursion (λ k. known k ≡ true) (rows.before (n ∷ ns) f) × (has (n ∷ ns) f ≡ true)
    pick true k w h = let i = w h in (more (n == f) k i.0, later (n == f) (has ns f) i.1)
    pick false k w h =
        let is : n ≡ f = cc in
        let self : (n == f) ≡ true = grind (arith, nat_tests, is) in
        rw self (tt, refl)

pub first-team : {g : Ground} {at : ℕ} (s : BrickState) (t : Txn) (list : List ℕ) (f : ℕ) (fs : List ℕ) → unknown list s.known ≡ f ∷ fs → BrickOk g at s →
    Members g t list at → g.stopped t.library ≡ true → g.frozen t ≡ true → Team g t list f at
first-team {g = g} s t list f fs e b h k o =
    let first = first-unknown list (has_node s.known) f fs e in
    record {
      members = h;
      resolver = first.1;
      library = k;
      frozen = o;
      first = all-map (λ n. has_node s.known n ≡ true) (λ n. g.stopped n ≡ true) (rows.before list f) (λ n i. b.known n i) first.0;
    }

pub resolver-team : {g : Ground} {at : ℕ} (s : BrickState) (t : Txn) (list : List ℕ) (f : ℕ) → (f == s.number) ≡ true → BrickOk g at s → Team g t list f at →
    Team g t list at at
resolver-team {g = g} {at = at} s t list f i b team = subst (λ x. Team g t list x at) (eqb-true f s.number i ∙ b.number) team

pub helped-good : {g : Ground} {at : ℕ} (s : BrickState) (y : NodeNo) (t : Txn) (list fs : List ℕ) → unknown list s.known ≡ fs → BrickOk g at s →
    Members g t list at → g.stopped t.library ≡ true → g.frozen t ≡ true → Good g at (notices.helped_by s y t list fs)
helped-good s y t list [] e b h k o = good-still b
helped-good {g = g} {at = at} s y t list (f ∷ fs) e b h k o =
    let team = first-team s t list f fs e b h k o in
    good-if (f == s.number) _ _ (λ i. resolve-good s t list b (resolver-team s t list f i b team))
    (λ i. good-if (y == t.library || has (rows.before list f) y) _ _ (λ j. record { state = b; letters = (team, tt) }) (λ j. good-still b))

abbrev pub NumberedOk : Ground → ℕ → Txn × List ℕ → Type 0
NumberedOk g at p = Members g p.0 p.1 at × OpenIf g p.0

pub pending-good : {g : Ground} {at : ℕ} (s : BrickState) (y : NodeNo) (t : Txn) (list : List ℕ) → BrickOk g at s → NumberedOk g at (t, list) →
    Good g at (notices.pending_goes s y t list)
pending-good s y t list b h =
    good-if (has_node s.known t.library && not (rows.is_resolved s t)) _ _
    (λ e. let k = b.known t.library (and_parts (has_node s.known t.library) (not (rows.is_resolved s t)) e).0 in
    helped-good s y t list (unknown list s.known) refl b h.0 k (h.1 k))
    (λ e. good-still b)

pub pendings-good : {g : Ground} {at : ℕ} (s : BrickState) (y : NodeNo) (ps : List (Txn × List ℕ)) → BrickOk g at s → AllByRecursion (NumberedOk g at) ps →
    Good g at (notices.pendings_go s y ps)
pendings-good s y [] b h = good-still b
pendings-good s y (p ∷ ps) b h =
    good-then (notices.pending_goes s y p.0 p.1) (λ u. notices.pendings_go u y ps) (pending-good s y p.0 p.1 b h.0) (λ u k. pendings-good u y ps k h.1)

pub numbered-all : (g : Ground) (at : ℕ) (ps : List Pending) → AllByRecursion (PendingOk g at) ps → AllByRecursion (NumberedOk g at) (notices.numbered ps)
numbered-all g at [] h = tt
numbered-all g at (p ∷ ps) h = (h.0, numbered-all g at ps h.1)

-- orders
said-ok : (g : Ground) (at : ℕ) (to : ℕ) (l : Letter) → Orders Any to l → LetterOk g at to l
said-ok g at to (letter.Prepare txn a c below name stamp list op) h = absurd h
said-ok g at to (letter.Help txn list) h = absurd h
said-ok g at to (letter.Query txn list) h = absurd h
said-ok g at to (letter.Status txn st) h = absurd h
said-ok g at to (letter.Outcome txn commit) h = absurd h
said-ok g at to other h = tt

pub silent-ok : (g : Ground) (at : ℕ) (ls : List (NodeNo × Letter)) → AllOrders Any ls → AllOk g at ls
silent-ok g at ls h = all-map (λ (p : NodeNo × Letter). Orders Any p.0 p.1) _ ls (λ p k. said-ok g at p.0 p.1 k) h

pub frame-good : {g : Ground} {at : ℕ} {M : Given} (s : BrickState) (r : BrickTurn) → Rests Any M s r → BrickOk g at s → Good g at r
frame-good {g = g} {at = at} s r t b =
    record {
      state = record {
        number = ap (λ (w : Whole). w.who.number) t.same ∙ b.number;
        known = λ n e. b.known n (sym (ap (λ (w : Whole). has_node w.who.known n) t.same) ∙ e);
        pending = subst (AllByRecursion (PendingOk g at)) (sym (ap (λ (w : Whole). w.pending) t.same)) b.pending;
        deferred = subst (AllByRecursion (DeferredOk g at)) (sym (ap (λ (w : Whole). w.deferred) t.same)) b.deferred;
        resolving = subst (AllByRecursion (ResolvingOk g at)) (sym (ap (λ (w : Whole). w.resolving) t.same)) b.resolving;
      };
      letters = silent-ok g at r.out.letters t.letters;
    }

pub learns-ok : {g : Ground} {at : ℕ} (s : BrickState) (y : NodeNo) → y < 80 → g.stopped y ≡ true → BrickOk g at s → BrickOk g at (notices.learns s y)
learns-ok {g = g} {at = at} s y low e b =
    record {
      number = b.number;
      known = λ n h. pick n (n == y) refl (sym (has-with s.known y n low) ∙ h);
      pending = b.pending;
      deferred = b.deferred;
      resolving = b.resolving;
    }
  where
    pick : (n : ℕ) (c : Bool) → (n == y) ≡ c → (c || has_node s.known n) ≡ true → g.stopped n ≡ true
    pick n true i h = ap g.stopped (eqb-true n y i) ∙ e
    pick n false i h = b.known n h

pub notice-good : {g : Ground} {at : ℕ} (s : BrickState) (y : NodeNo) → y < 80 → g.stopped y ≡ true → BrickOk g at s → Good g at (notices.notice_row s y)
notice-good {g = g} {at = at} s y low e b =
    let l = notices.learns s y in
    let one = frame-good {M = Each} l (notices.order_part l y) (order_part l y) (learns-ok s y low e b) in
    let two = good-then (notices.order_part l y) (λ t. notices.resolving_part t y) one (λ u k. hear-good u y news.Stopped k) in
    let three = good-then (and_then (notices.order_part l y) (λ t. notices.resolving_part t y)) notices.deferred_part two
    (λ u k. all-asked-good (record u { deferred = [] }) u.deferred
    (record { number = k.number; known = k.known; pending = k.pending; deferred = tt; resolving = k.resolving }) k.deferred) in
    good-then (and_then (and_then (notices.order_part l y) (λ t. notices.resolving_part t y)) notices.deferred_part) (λ t. notices.pending_part t y) three
    (λ u k. pendings-good u y (notices.numbered u.locks.pending) k (numbered-all g at u.locks.pending k.pending))

-- the rows of calls
voted-good : {g : Ground} {at : ℕ} (s : BrickState) (from : NodeNo) (p : Pending) (d : Option Denial) → BrickOk g at s → PendingOk g at p →
    Good g at (calls.voted s from p d)
voted-good {g = g} {at = at} s from p None b h =
    record {
      state = record {
        number = b.number;
        known = b.known;
        pending = all-append (PendingOk g at) s.locks.pending (p ∷ []) b.pending (h, tt);
        deferred = b.deferred;
        resolving = b.resolving;
      };
      letters = (tt, tt);
    }
voted-good s from p (Some d) b h = good-sends s _ b (tt, tt)

trim-ok : {g : Ground} {at : ℕ} {s : BrickState} (library below : ℕ) → BrickOk g at s → BrickOk g at (calls.trim s library below)
trim-ok library below b = record { number = b.number; known = b.known; pending = b.pending; deferred = b.deferred; resolving = b.resolving }

commit-good : {g : Ground} {at : ℕ} (s : BrickState) (from : NodeNo) (p : Option Pending) → BrickOk g at s → Good g at (calls.commit_found s from p)
commit-good s from None b = good-still b
commit-good s from (Some p) b = record {
  state =
      record { number = b.number; known = b.known; pending = b.pending; deferred = b.deferred; resolving = b.resolving };
  letters = (tt, tt);
}

abort-good : {g : Ground} {at : ℕ} (s : BrickState) (from : NodeNo) (t : Txn) (p : Option Pending) → BrickOk g at s →
    Good g at (sends (calls.aborted s p) ((from, letter.Aborted t) ∷ []))
abort-good s from t None b = good-sends s _ b (tt, tt)
abort-good s from t (Some p) b = record {
  state =
      record { number = b.number; known = b.known; pending = b.pending; deferred = b.deferred; resolving = b.resolving };
  letters = (tt, tt);
}

got-good : {g : Ground} {at : ℕ} (s : BrickState) (from : NodeNo) (t : Txn) (key : ℕ) (o : Option Refusal) → BrickOk g at s →
    Good g at (calls.got s from t key o)
got-good s from t key None b = record { state = b; letters = (tt, tt) }
got-good s from t key (Some r) b = good-sends s _ b (tt, tt)

-- a notice is of a node of the cluster that stopped
abbrev pub NoticeOk : Ground → ℕ → Letter → Type 0
NoticeOk g from letter.Notice = (from < 80) × (g.stopped from ≡ true)
NoticeOk g from other = Unit {0}

pub brick-good : {g : Ground} {at : ℕ} (s : BrickState) (from : NodeNo) (l : Letter) → BrickOk g at s → LetterOk g from at l → NoticeOk g from l →
    OpenOk g l → Good g at (live_brick_turn s from l)
brick-good s from (letter.Get txn caller call key name stamp) b h n o = got-good s from txn key _ b
brick-good s from (letter.Prepare txn caller call below name stamp list op) b h n o =
    voted-good (calls.trim s txn.library below) from (record { txn = txn; caller = caller; call = call; op = op; list = list }) _
    (trim-ok txn.library below b) (h, o)
brick-good s from (letter.Commit txn) b h n o = commit-good (calls.dropped s txn) from _ (dropped-ok txn b)
brick-good s from (letter.Abort txn) b h n o = abort-good (calls.dropped s txn) from txn _ (dropped-ok txn b)
brick-good s from (letter.MapAsk txn caller call key) b h n o = good-sends s _ b (tt, tt)
brick-good s from (letter.Got txn a) b h n o = good-still b
brick-good s from (letter.Vote txn vote) b h n o = good-still b
brick-good s from (letter.Applied txn was) b h n o = good-still b
brick-good s from (letter.Aborted txn) b h n o = good-still b
brick-good s from (letter.MapTell txn leaf) b h n o = good-still b
brick-good s from (letter.Help txn list) b h n o = help-good s from txn list b h
brick-good s from (letter.Query txn list) b h n o = query-good s from txn list b h
brick-good s from (letter.Status txn status) b h n o = hear-good s from (news.Told txn status) b
brick-good s from (letter.Outcome txn commit) b h n o = outcome-good s txn commit b
brick-good s from letter.Notice b h n o = notice-good s from n.0 n.1 b
brick-good s from other b h n o = frame-good {M = Each} s _ (letter-rests s from from other tt) b
