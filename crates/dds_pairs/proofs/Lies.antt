use Rattle.std.proofs.Common.{◌≡◌, ℕ, ◌==◌, ◌&&◌, Bool, true, false, cond, Option, Some, None, List, [], ◌∷◌, refl, sym, ap, ◌∙◌, subst}
use Rattle.std.specs.FinMap.{get, insert}
use Rattle.std.specs.List.{AllByRecursion}
use Rattle.std.specs.Prelude.{is_some, if◌then◌else◌}
use Rattle.dds_base.specs.BrickList.{has}
use Rattle.dds_base.specs.Name.{Name, covers}
use Rattle.dds_base.specs.NodeSet.{has_node}
use Rattle.dds_base.specs.Op.{the_key}
use Rattle.dds_base.specs.declared.leaf.Leaf.{Leaf}
use Rattle.dds_base.specs.declared.number.NodeNo.{NodeNo}
use Rattle.dds_base.specs.declared.pair.Pair.{Pair}
use Rattle.dds_base.specs.declared.pending.Pending.{Pending}
use Rattle.dds_brick_rows.specs.Calls as calls
use Rattle.dds_brick_rows.specs.Refusal.{get_refusal, lease_refusal, update_denial}
use Rattle.dds_brick_rows.specs.Take as takes
use Rattle.dds_brick_rows.specs.declared.resolution.News.TheVariants as news
use Rattle.dds_core.proofs.LetterTells.{Any, Each, order_part}
use Rattle.dds_core.proofs.Lists.{all-map}
use Rattle.dds_core.proofs.Rests.{Whole}
use Rattle.dds_core.specs.Brick.{live_brick_turn}
use Rattle.dds_core.specs.Notice as notices
use Rattle.dds_groups.specs.Leaves.{successor}
use Rattle.dds_groups.specs.Take.{may_take}
use Rattle.dds_history.proofs.Bindings.{get-bound}
use Rattle.dds_history.specs.Map.{Map}
use Rattle.dds_law_leaf.proofs.Book.{InMap, Leafing}
use Rattle.dds_law_leaf.proofs.Plain as plain
use Rattle.dds_law_own.proofs.Owned.{Orderly}
use Rattle.dds_letters.specs.declared.letter.Letter.{Letter}
use Rattle.dds_letters.specs.declared.letter.Letter.TheVariants as letter
use Rattle.dds_letters.specs.declared.refusal.Denial.{Denial}
use Rattle.dds_letters.specs.declared.refusal.Refusal.{Refusal}
use Rattle.dds_letters.specs.declared.refusal.Wanted.{Wanted}
use Rattle.dds_letters.specs.declared.refusal.Wanted.TheVariants as wanted
use Rattle.dds_locks.specs.Leases.{is_given, lease_of}
use Rattle.dds_maps.specs.Own.{own_leaf}
use Rattle.dds_order_rows.specs.OwnOrder.{bound}
use Rattle.dds_order_rows.specs.Orders as orders
use Rattle.dds_orders.proofs.Covered.{Covers}
use Rattle.dds_orders.proofs.Over.{has-itself}
use Rattle.dds_states.specs.Leaf.{leaf_for}
use Rattle.dds_states.specs.Turn.{BrickTurn}
use Rattle.dds_states.specs.declared.brick_state.BrickState.{BrickState}
use Rattle.dds_trie.specs.Trie.{LeafMap, put}
use Rattle.dds_pairs.proofs.Bindings.{same-key}
use Rattle.dds_pairs.proofs.Binds as binds
use Rattle.dds_pairs.proofs.Binds.{AllUnder, Pairs, joined, same}
use Rattle.dds_pairs.proofs.Copies.{OrderCopied}
use Rattle.dds_pairs.proofs.Grows.{Grows, cover-of}
use Rattle.dds_pairs.proofs.Keys as rows
use Rattle.dds_pairs.proofs.Keys.{KeysIn, PendingIn}
use Rattle.dds_pairs.proofs.NameTurns.{Keyed}
use Rattle.dds_pairs.proofs.Names.{IsFit}

-- A turn leaves each pair of a brick under a leaf of the brick.

abbrev pub Lies : BrickState → Type 0
Lies s = KeysIn (λ key. is_some (leaf_for s.leaves key) ≡ true) s.pairs

-- what holds before the turn and of its leaves after it
pub record Before (me : ℕ) (s : BrickState) (k : LeafMap) : Type 0 where
  pub orderly : Orderly me s.order
  pub copied : OrderCopied s.order
  pub covering : AllByRecursion (Covers s.leaves) s.locks.pending
  pub lies : Lies s
  pub grows : Grows s.leaves k
  pub keyed : Keyed k
  pub fit : InMap IsFit k

abbrev Covered : LeafMap → ℕ → Type 0
Covered k key = is_some (leaf_for k key) ≡ true

-- the pairs that a join copied
bound-if : (P : ℕ → Type 0) (m : Map) (p : Pair) (key : ℕ) (c : Bool) → (p.key == key) ≡ c → KeysIn P m → P p.key
    → is_some (cond c (Some p.value) (get m key)) ≡ true → P key
bound-if P m p key true e h k b = subst P (same-key p.key key e) k
bound-if P m p key false e h k b = h key b

bound-keys : (P : ℕ → Type 0) (ps : List Pair) (m : Map) → AllByRecursion (λ (p : Pair). P p.key) ps → KeysIn P m → KeysIn P (bound m ps)
bound-keys P [] m all h = h
bound-keys P (p ∷ ps) m all h =
    bound-keys P ps (insert m p.key p.value) all.1
    (λ key b. bound-if P m p key (p.key == key) refl h all.0 (sym (ap is_some (get-bound m p.key p.value key)) ∙ b))

-- beside the leaf that is served
under-covered : (m k : LeafMap) (made : Leaf) (name : Name) (ps : List Pair) → k ≡ put m made → made.name ≡ name → Keyed k → InMap IsFit k → AllUnder name ps
    → AllByRecursion (λ (p : Pair). Covered k p.key) ps
under-covered m k made name ps is named keyed fit under =
    all-map (λ (p : Pair). covers name p.key ≡ true) (λ (p : Pair). Covered k p.key) ps
    (λ p over. cover-of k p.key keyed fit (record {
      name = made.name;
      there = subst (λ (x : LeafMap). is_some (get x made.name) ≡ true) (sym is) (has-itself m made);
      over = subst (λ n. covers n p.key ≡ true) (sym named) over;
    })) under

pairs-keys : (me : ℕ) (s u : BrickState) (k : LeafMap) → Before me s k → u.leaves ≡ k → Pairs s u → KeysIn (Covered k) u.pairs
pairs-keys me s u k h l (same is) = subst (KeysIn (Covered k)) (sym is) (λ key b. h.grows key (h.lies key b))
pairs-keys me s u k h l (joined o made ps e join named under is there) =
    subst (KeysIn (Covered k)) (sym is)
    (bound-keys (Covered k) ps s.pairs (under-covered s.leaves k made o.name ps (sym l ∙ there) named h.keyed h.fit under)
    (λ key b. h.grows key (h.lies key b)))

start-keys : (me : ℕ) (s : BrickState) (k : LeafMap) → Before me s k → rows.Keyed (Covered k) s
start-keys me s k h =
    record {
      pairs = λ key b. h.grows key (h.lies key b);
      pending = all-map (Covers s.leaves) (λ (p : Pending). Covered k (the_key p.op)) s.locks.pending (λ p c. h.grows (the_key p.op) c) h.covering;
    }

-- rows that leave pairs
got : (s : BrickState) (from : NodeNo) (txn : _) (key : ℕ) (r : Option Refusal) → (calls.got s from txn key r).state.pairs ≡ s.pairs
got s from txn key None = refl
got s from txn key (Some why) = refl

voted : (s : BrickState) (from : NodeNo) (p : Pending) (d : Option Denial) → (calls.voted s from p d).state.pairs ≡ s.pairs
voted s from p None = refl
voted s from p (Some d) = refl

aborted : (s : BrickState) (q : Option Pending) → (calls.aborted s q).pairs ≡ s.pairs
aborted s None = refl
aborted s (Some p) = refl

took-if : (c : Bool) (s u : BrickState) → u.pairs ≡ s.pairs → (if c then u else s).pairs ≡ s.pairs
took-if true s u e = e
took-if false s u e = refl

took : (s : BrickState) (leaf : Leaf) (mine : Option Leaf) → (takes.take_over s leaf mine).pairs ≡ s.pairs
took s leaf None = refl
took s leaf (Some mine) =
    took-if (may_take s.number mine leaf (has_node s.known) (takes.is_free s mine.name)) s (record s { leaves = takes.replaced s.leaves mine leaf }) refl

granted : (s : BrickState) (from : NodeNo) (number : ℕ) (name : Name) (leaf : Option Leaf) → (orders.granted s from number name leaf).state.pairs ≡ s.pairs
granted s from number name None = refl
granted s from number name (Some leaf) = refl

answered : (s : BrickState) (from : NodeNo) (number : ℕ) (name : Name) (r : Option Refusal) → (orders.lease_answered s from number name r).state.pairs ≡ s.pairs
answered s from number name None = granted s from number name (get s.leaves name)
answered s from number name (Some why) = refl

lease_row : (s : BrickState) (from : NodeNo) (number : ℕ) (what : Wanted) → (orders.lease_row s from number what).state.pairs ≡ s.pairs
lease_row s from number (wanted.Name name) = answered s from number name (lease_refusal s name None)
lease_row s from number (wanted.Leaf leaf) =
    let t = takes.take s leaf in
    answered t from number leaf.name (lease_refusal t leaf.name (Some leaf.stamp)) ∙ took s leaf (own_leaf s.leaves leaf.name)

turn-if : (s : BrickState) (c : Bool) (t u : BrickTurn) → t.state.pairs ≡ s.pairs → u.state.pairs ≡ s.pairs → (if c then t else u).state.pairs ≡ s.pairs
turn-if s true t u e f = e
turn-if s false t u e f = f

installed_over : (s : BrickState) (from : NodeNo) (number : ℕ) (leaf : Leaf) (mine : Option Leaf)
    → (orders.installed_over s from number leaf mine).state.pairs ≡ s.pairs
installed_over s from number leaf None = refl
installed_over s from number leaf (Some mine) = turn-if s (is_some (successor mine leaf)) _ _ refl refl

-- a notice: what it does for orders, and then the rest, which leaves leaves alone
notice-keys : (me : ℕ) (s : BrickState) (y : NodeNo) → Before me s (notices.notice_row s y).state.leaves
    → KeysIn (Covered (notices.notice_row s y).state.leaves) (notices.notice_row s y).state.pairs
notice-keys me s y h =
    let a = notices.order_part (notices.learns s y) y in
    let b = notices.resolving_part a.state y in
    let c = notices.deferred_part b.state in
    let d = notices.pending_part c.state y in
    let k = d.state.leaves in
    let same-leaves : k ≡ a.state.leaves =
    ap (λ (x : Leafing). x.leaves) ((plain.pending_part c.state y).same ∙ (plain.deferred_part b.state).same ∙ (plain.all_hear a.state y news.Stopped).same) in
    let pending : a.state.locks.pending ≡ s.locks.pending =
    ap (λ (w : Whole). w.pending) (order_part {L = Any} {M = Each} (notices.learns s y) y).same in
    let first = pairs-keys me s a.state k h (sym same-leaves) (binds.order_part me s y h.orderly h.copied) in
    (rows.behind (Covered k) a.state y (record { pairs = first; pending = subst (PendingIn (Covered k)) (sym pending) (start-keys me s k h).pending })).pairs

kept-keys : (me : ℕ) (s : BrickState) (from : NodeNo) (l : Letter) → Before me s (live_brick_turn s from l).state.leaves
    → Pairs s (live_brick_turn s from l).state → Lies (live_brick_turn s from l).state
kept-keys me s from l h p = pairs-keys me s (live_brick_turn s from l).state (live_brick_turn s from l).state.leaves h refl p

pub turn-keys : (me : ℕ) (s : BrickState) (from : NodeNo) (l : Letter) → Before me s (live_brick_turn s from l).state.leaves
    → Lies (live_brick_turn s from l).state
turn-keys me s from (letter.Get txn caller call key name stamp) h =
    kept-keys me s from (letter.Get txn caller call key name stamp) h (same (got s from txn key (get_refusal s key name stamp)))
turn-keys me s from (letter.Prepare txn caller call below name stamp list op) h =
    kept-keys me s from (letter.Prepare txn caller call below name stamp list op) h
    (same (voted (calls.trim s txn.library below) from _ (update_denial (calls.trim s txn.library below) op name stamp)))
turn-keys me s from (letter.Commit txn) h = (rows.commit_row _ s from txn (start-keys me s _ h)).pairs
turn-keys me s from (letter.Abort txn) h =
    kept-keys me s from (letter.Abort txn) h (same (aborted (calls.dropped s txn) _))
turn-keys me s from (letter.Push leaf) h =
    kept-keys me s from (letter.Push leaf) h (same (took s leaf (own_leaf s.leaves leaf.name)))
turn-keys me s from (letter.MapAsk txn caller call key) h =
    kept-keys me s from (letter.MapAsk txn caller call key) h (same refl)
turn-keys me s from (letter.Help txn list) h = (rows.help_row _ s from txn list (start-keys me s _ h)).pairs
turn-keys me s from (letter.Query txn list) h = (rows.query_row _ s from txn list (start-keys me s _ h)).pairs
turn-keys me s from (letter.Status txn status) h = (rows.all_hear _ s from (news.Told txn status) (start-keys me s _ h)).pairs
turn-keys me s from (letter.Outcome txn commit) h = (rows.outcome_row _ s txn commit (start-keys me s _ h)).pairs
turn-keys me s from (letter.Lease number what) h =
    kept-keys me s from (letter.Lease number what) h (same (lease_row s from number what))
turn-keys me s from (letter.Granted number leaf) h =
    kept-keys me s from (letter.Granted number leaf) h (binds.granted_row me s from number leaf h.orderly h.copied)
turn-keys me s from (letter.LeaseRefused number why) h =
    kept-keys me s from (letter.LeaseRefused number why) h (binds.lease_refused_row me s from number why h.orderly h.copied)
turn-keys me s from (letter.Release number name) h =
    kept-keys me s from (letter.Release number name) h (same refl)
turn-keys me s from (letter.CopyAsk number name after) h =
    kept-keys me s from (letter.CopyAsk number name after) h (same (turn-if s (is_given s.locks.leases name from && is_some (get s.leaves name)) _ _ refl refl))
turn-keys me s from (letter.CopyPart number last pairs) h =
    kept-keys me s from (letter.CopyPart number last pairs) h (binds.copy_part_row me s from number last pairs h.orderly h.copied)
turn-keys me s from (letter.Install number leaf) h =
    kept-keys me s from (letter.Install number leaf) h (same (turn-if s (is_some (lease_of s.locks.leases leaf.name from) && has leaf.list s.number) _ _
    (installed_over s from number leaf (own_leaf s.leaves leaf.name)) refl))
turn-keys me s from (letter.Installed number name) h =
    kept-keys me s from (letter.Installed number name) h (binds.installed_row me s from number h.orderly h.copied)
turn-keys me s from letter.Notice h = notice-keys me s from h
turn-keys me s from other h =
    kept-keys me s from other h (same refl)
