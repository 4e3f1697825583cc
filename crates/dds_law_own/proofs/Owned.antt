use Rattle.std.proofs.Common.{◌≡◌, ℕ, ◌==◌, ◌&&◌, ◌||◌, ◌++◌, Bool, true, false, not, Option, Some, None, List, [], ◌∷◌, refl, sym, ap, ◌∙◌, subst}
use Rattle.std.proofs.lemmas.Bool.{eq-eqb, ne_eqb, or_right}
use Rattle.std.specs.FinMap.{get}
use Rattle.std.specs.List.{AllByRecursion}
use Rattle.std.specs.Prelude.{if◌then◌else◌}
use Rattle.dds_base.specs.BrickList.{has}
use Rattle.dds_base.specs.Name.{Name, covers, overlaps}
use Rattle.dds_base.specs.NodeSet.{has_node, with_node}
use Rattle.dds_base.specs.Op.{the_key}
use Rattle.dds_base.specs.declared.leaf.Leaf.{Leaf}
use Rattle.dds_base.specs.declared.node_set.NodeSet.{NodeSet}
use Rattle.dds_base.specs.declared.pending.Pending.{Pending}
use Rattle.dds_brick_rows.specs.Refusal.{is_join}
use Rattle.dds_brick_rows.specs.Take.{high_of, is_low, low_of, replaced}
use Rattle.dds_core.proofs.Lists.{all-append, all-both, all-map}
use Rattle.dds_groups.proofs.Members.{has-live}
use Rattle.dds_groups.specs.Leaves.{live, sibling}
use Rattle.dds_groups.specs.Names.{low_half}
use Rattle.dds_core.proofs.Known.{has-with}
use Rattle.dds_locks.specs.First.{without_first}
use Rattle.dds_locks.specs.Leases as lease
use Rattle.dds_locks.specs.Pending as locks
use Rattle.dds_locks.specs.declared.leases.Lease.{Lease}
use Rattle.dds_net.proofs.Pairwise.{Pairwise, pairs-append}
use Rattle.dds_order_rows.specs.OwnOrder.{made_leaf, parting, takes_part}
use Rattle.dds_states.specs.declared.brick_state.BrickState.{BrickState}
use Rattle.dds_states.specs.declared.brick_state.OpenOrder.{OpenOrder}
use Rattle.dds_states.specs.declared.brick_state.OrderPhase.TheVariants.{Copying, Installing}
use Rattle.dds_states.specs.declared.brick_state.Task.{Task}
use Rattle.dds_states.specs.declared.brick_state.Task.TheVariants.{Join, Split}
use Rattle.dds_trie.specs.Trie.{LeafMap}
use Rattle.dds_world.specs.Groups as world
use Rattle.dds_law_own.proofs.Changes.{Change, IsNewJoin, IsNewSplit, MayMake, Own, closes, copies, drops, fixes, gives, installs, joins, kept_leases}
use Rattle.dds_law_own.proofs.Changes.{learns, makes, pends, releases, served, serves, splits, takes, waits}
use Rattle.dds_law_own.proofs.Lists.{ByName, Each, all-first, all-released, has-kept, has-last, in-put, in-remove, none-passes, others-released}
use Rattle.dds_law_own.proofs.Lists.{pairs-first, pairs-released}
use Rattle.dds_law_own.proofs.Lists.{passes-none, each-is}

-- The invariant, of one brick by itself.
--
-- | part | why it is needed | which rows keep it |
-- |---|---|---|
-- | `number`, `alone`: the brick has its number, and doesn't know itself | a split's leaf lists its maker | all; it has no notice of itself |
-- | `leaves`: a leaf stands under its name, and lists the brick | claimed | Push, Lease and Install; the ends of orders |
-- | `order`: an order's leaf has its name, and lists the brick where it is  | an order's end puts the made leaf | Granted, and what begins |
-- | a split's; the leaf that is made lists it                               | among the brick's                 | to install               |
-- | `apart`: leases have no key in common | claimed | Lease, the order Split |
-- | `free`: no update is pending on a key under a lease | claimed | Lease, the order Split; Prepare |
-- | `holders`: who holds a lease isn't known to have stopped | claimed | Lease, the order Split; Notice |

abbrev pub Named : ℕ → Name → Leaf → Type 0
Named me name leaf = (leaf.name ≡ name) × (has leaf.list me ≡ true)

-- the name of the leaf that an order makes
abbrev pub made_name : Name → Task → Name
made_name name (Join via) = name
made_name name Split = low_half name

pub record IsOrderly (me : ℕ) (o : OpenOrder) : Type 0 where
  pub leaf : Each (λ (l : Leaf). (l.name ≡ o.name) × (has l.list me ≡ not (is_join o.task))) o.leaf
  pub made : Each (λ (l : Leaf). (l.name ≡ made_name o.name o.task) × (has l.list me ≡ true)) (world.made_leaf o.phase)

abbrev pub Orderly : ℕ → Option OpenOrder → Type 0
Orderly me None = Unit {0}
Orderly me (Some o) = IsOrderly me o

abbrev pub Apart : Lease → Lease → Type 0
Apart a b = overlaps a.name b.name ≡ false

abbrev pub Free : List Pending → Lease → Type 0
Free ps l = locks.any_under ps l.name ≡ false

-- who holds a lease isn't known to have stopped
abbrev pub Unknown : NodeSet → Lease → Type 0
Unknown known l = has_node known l.holder ≡ false

pub record IsOwn (me : ℕ) (x : Own) : Type 0 where
  pub number : x.number ≡ me
  pub alone : has_node x.known me ≡ false
  pub leaves : ByName (Named me) x.leaves
  pub order : Orderly me x.order
  pub apart : Pairwise Apart x.leases
  pub free : AllByRecursion (Free x.pending) x.leases
  pub holders : AllByRecursion (Unknown x.known) x.leases

-- leaves
replaced-if : (me : ℕ) (c : Bool) (m n : LeafMap) → ByName (Named me) m → ByName (Named me) n → ByName (Named me) (if c then m else n)
replaced-if me true m n h k = h
replaced-if me false m n h k = k

lists-if : (me : ℕ) (c : Bool) (a b : Leaf) → has a.list me ≡ true → has b.list me ≡ true → has (if c then a else b).list me ≡ true
lists-if me true a b h k = h
lists-if me false a b h k = k

leaves-replaced : (me : ℕ) (m : LeafMap) (mine leaf : Leaf) → has leaf.list me ≡ true → ByName (Named me) m → ByName (Named me) (replaced m mine leaf)
leaves-replaced me m mine leaf h k =
    let low = lists-if me (is_low leaf.name) leaf (sibling leaf) h h in
    let high = lists-if me (is_low leaf.name) (sibling leaf) leaf h h in
    replaced-if me (mine.name.depth == leaf.name.depth) _ _ (in-put (Named me) m leaf (refl, h) k)
    (in-put (Named me) _ (high_of leaf) (refl, high) (in-put (Named me) _ (low_of leaf) (refl, low) (in-remove (Named me) m mine.name k)))

leaves-served : (me : ℕ) (m : LeafMap) (o : OpenOrder) (made : Leaf) (t : Task) → has made.list me ≡ true → ByName (Named me) m
    → ByName (Named me) (served m o made t)
leaves-served me m o made (Join via) h k = in-put (Named me) m made (refl, h) k
leaves-served me m o made Split h k =
    in-put (Named me) _ (sibling made) (refl, h) (in-put (Named me) _ made (refl, h) (in-remove (Named me) m o.name k))

-- the open order
pub orderly : (me : ℕ) (q : Option OpenOrder) (o : OpenOrder) → q ≡ Some o → Orderly me q → IsOrderly me o
orderly me None o e h = cc
orderly me (Some x) o e h = let is : x ≡ o = cc in subst (IsOrderly me) is h

made-of : (me : ℕ) (s : BrickState) (o : OpenOrder) (leaf : Leaf) (t : Task) → o.task ≡ t → s.number ≡ me → has_node s.known me ≡ false
    → leaf.name ≡ o.name → has leaf.list me ≡ not (is_join t) → ((made_leaf s o leaf t).name ≡ made_name o.name t) × (has (made_leaf s o leaf t).list me ≡ true)
made-of me s o leaf (Join via) e n k name h = (name, subst (λ i. has (parting s o leaf ++ s.number ∷ []) i ≡ true) n (has-last (parting s o leaf) s.number))
made-of me s o leaf Split e n k name h =
    let lives : has (live leaf.list (has_node s.known)) me ≡ true = has-live leaf.list (has_node s.known) me
    ∙ ap (λ c. c && not (has_node s.known me)) h ∙ ap not k in
    let itself : takes_part s o me ≡ true = ap (λ t. has o.granted me || (not (is_join t) && me == s.number)) e
    ∙ or_right (has o.granted me) (me == s.number) (eq-eqb me s.number (sym n)) in
    (ap low_half name, has-kept (takes_part s o) (live leaf.list (has_node s.known)) me itself lives)

-- leases
abbrev pub Unmet : Name → List Lease → Type 0
Unmet name ls = AllByRecursion (λ (l : Lease). overlaps l.name name ≡ false) ls

none-if : (c : Bool) (l : Lease) (ls : List Lease) (name : Name) → overlaps l.name name ≡ c → (if c then Some l.holder else lease.leased ls name) ≡ None
    → (lease.leased ls name ≡ None → Unmet name ls) → Unmet name (l ∷ ls)
none-if true l ls name f e k = cc
none-if false l ls name f e k = (f, k e)

pub none-leased : (ls : List Lease) (name : Name) → lease.leased ls name ≡ None → Unmet name ls
none-leased [] name e = tt
none-leased (l ∷ ls) name e = none-if (overlaps l.name name) l ls name refl e (none-leased ls name)

apart-more : (ls : List Lease) (l : Lease) → lease.leased ls l.name ≡ None → Pairwise Apart ls → Pairwise Apart (ls ++ l ∷ [])
apart-more ls l e h =
    pairs-append Apart ls (l ∷ []) h (tt, tt)
    (all-map (λ (k : Lease). overlaps k.name l.name ≡ false) (λ (k : Lease). AllByRecursion (Apart k) (l ∷ [])) ls (λ k f. (f, tt)) (none-leased ls l.name e))

apart-kept : (ls : List Lease) (test : Lease → Bool) (c : Bool) → Pairwise Apart ls → Pairwise Apart (if c then ls else without_first test ls)
apart-kept ls test true h = h
apart-kept ls test false h = pairs-first Apart test ls h

all-kept : (P : Lease → Type 0) (ls : List Lease) (test : Lease → Bool) (c : Bool) → AllByRecursion P ls
    → AllByRecursion P (if c then ls else without_first test ls)
all-kept P ls test true h = h
all-kept P ls test false h = all-first P test ls h

pending-more : (ps : List Pending) (p : Pending) (ls : List Lease) → lease.lease_covers ls (the_key p.op) ≡ false → AllByRecursion (Free ps) ls
    → AllByRecursion (Free (ps ++ p ∷ [])) ls
pending-more ps p ls e h =
    all-map (λ (l : Lease). Free ps l × (covers l.name (the_key p.op) ≡ false)) (Free (ps ++ p ∷ [])) ls
    (λ l k. passes-none (λ (q : Pending). covers l.name (the_key q.op)) (ps ++ p ∷ [])
    (all-append _ ps (p ∷ []) (none-passes (λ (q : Pending). covers l.name (the_key q.op)) ps k.0) (k.1, tt)))
    (all-both (Free ps) (λ (l : Lease). covers l.name (the_key p.op) ≡ false) ls h (none-passes (λ (l : Lease). covers l.name (the_key p.op)) ls e))

pending-less : (ps : List Pending) (test : Pending → Bool) (ls : List Lease) → AllByRecursion (Free ps) ls
    → AllByRecursion (Free (without_first test ps)) ls
pending-less ps test ls h =
    all-map (Free ps) (Free (without_first test ps)) ls
    (λ (l : Lease) k. passes-none (λ (q : Pending). covers l.name (the_key q.op)) (without_first test ps)
    (all-first _ test ps (none-passes (λ (q : Pending). covers l.name (the_key q.op)) ps k))) h

-- each change
module _ {me : ℕ} (x : Own) (h : IsOwn me x) where
  with-leaves : (m : LeafMap) → ByName (Named me) m → IsOwn me (record x { leaves = m })
  with-leaves m k = record { number = h.number; alone = h.alone; leaves = k; order = h.order; apart = h.apart; free = h.free; holders = h.holders }

  with-order : (q : Option OpenOrder) → Orderly me q → IsOwn me (record x { order = q })
  with-order q k = record { number = h.number; alone = h.alone; leaves = h.leaves; order = k; apart = h.apart; free = h.free; holders = h.holders }

  -- the open order with other lists
  its : (o : OpenOrder) → x.order ≡ Some o → IsOrderly me o
  its o e = orderly me x.order o e h.order

  taken : (mine leaf : Leaf) → has leaf.list x.number ≡ true → IsOwn me (record x { leaves = replaced x.leaves mine leaf })
  taken mine leaf e = with-leaves _ (leaves-replaced me x.leaves mine leaf (subst (λ i. has leaf.list i ≡ true) h.number e) h.leaves)

  given : (l : Lease) (q : Option OpenOrder) → lease.leased x.leases l.name ≡ None → Free x.pending l → Orderly me q → Unknown x.known l
      → IsOwn me (record x { order = q; leases = x.leases ++ l ∷ [] })
  given l q e f k u =
      record {
        number = h.number;
        alone = h.alone;
        leaves = h.leaves;
        order = k;
        apart = apart-more x.leases l e h.apart;
        free = all-append (Free x.pending) x.leases (l ∷ []) h.free (f, tt);
        holders = all-append (Unknown x.known) x.leases (l ∷ []) h.holders (u, tt);
      }

  over-with : (o : OpenOrder) (m : LeafMap) → ByName (Named me) m → IsOwn me (record x { leaves = m; order = None; leases = kept_leases x o })
  over-with o m k =
      record {
        number = h.number;
        alone = h.alone;
        leaves = k;
        order = tt;
        apart = apart-kept x.leases (lease.is_lease o.name x.number) (is_join o.task) h.apart;
        free = all-kept (Free x.pending) x.leases (lease.is_lease o.name x.number) (is_join o.task) h.free;
        holders = all-kept (Unknown x.known) x.leases (lease.is_lease o.name x.number) (is_join o.task) h.holders;
      }

  split-order : (o : OpenOrder) (leaf : Leaf) → IsNewSplit x o leaf → IsOrderly me o
  split-order o leaf n =
      let it = each-is (Named me n.at) (get x.leaves n.at) leaf n.there (h.leaves n.at) in
      let fits : (leaf.name ≡ o.name) × (has leaf.list me ≡ not (is_join o.task)) = (sym n.name, it.1 ∙ sym (ap (λ t. not (is_join t)) n.task)) in
      record {
        leaf = subst (Each (λ (l : Leaf). (l.name ≡ o.name) × (has l.list me ≡ not (is_join o.task)))) (sym n.fixed) fits;
        made = subst (λ p. Each (λ (l : Leaf). (l.name ≡ made_name o.name o.task) × (has l.list me ≡ true)) (world.made_leaf p)) (sym n.phase) tt;
      }

  join-order : (o : OpenOrder) → IsNewJoin x o → IsOrderly me o
  join-order o n =
      record {
        leaf = subst (Each (λ (l : Leaf). (l.name ≡ o.name) × (has l.list me ≡ not (is_join o.task)))) (sym n.leaf) tt;
        made = subst (λ p. Each (λ (l : Leaf). (l.name ≡ made_name o.name o.task) × (has l.list me ≡ true)) (world.made_leaf p)) (sym n.phase) tt;
      }

  makes-own : (o : OpenOrder) (made : Leaf) → x.order ≡ Some o → MayMake x o made
      → (made.name ≡ made_name o.name o.task) × (has made.list me ≡ true)
  makes-own o made e may =
      let leaf = may.leaf in
      let it = each-is (λ (l : Leaf). (l.name ≡ o.name) × (has l.list me ≡ not (is_join o.task))) o.leaf leaf may.fixed (its o e).leaf in
      let known : has_node may.state.known me ≡ false = ap (λ k. has_node k me) may.known ∙ h.alone in
      subst (λ (l : Leaf). (l.name ≡ made_name o.name o.task) × (has l.list me ≡ true)) (sym may.is)
      (made-of me may.state o leaf o.task refl (may.number ∙ h.number) known it.0 it.1)

pub own-kept : (me : ℕ) (x y : Own) → Change x y → IsOwn me x → IsOwn me y
own-kept me x _ (takes mine leaf may) h = taken x h mine leaf may.lists
own-kept me x _ (installs mine leaf from may) h = taken x h mine leaf may.lists
own-kept me x _ (gives name leaf holder there free unknown) h =
    given x h (record { name = name; holder = holder }) x.order free.unleased free.unlocked h.order unknown
own-kept me x _ (releases name holder) h =
    record {
      number = h.number;
      alone = h.alone;
      leaves = h.leaves;
      order = h.order;
      apart = pairs-first Apart (lease.is_lease name holder) x.leases h.apart;
      free = all-first (Free x.pending) (lease.is_lease name holder) x.leases h.free;
      holders = all-first (Unknown x.known) (lease.is_lease name holder) x.leases h.holders;
    }
own-kept me x _ (learns y below ne) h =
    record {
      number = h.number;
      alone = has-with x.known y me below ∙ ap (λ c. c || has_node x.known me) (ne_eqb me y (λ e. ne (sym e ∙ sym h.number))) ∙ h.alone;
      leaves = h.leaves;
      order = h.order;
      apart = pairs-released Apart x.leases y h.apart;
      free = all-released (Free x.pending) x.leases y h.free;
      holders = all-map (λ (l : Lease). Unknown x.known l × ((l.holder == y) ≡ false)) (Unknown (with_node x.known y)) (lease.released_all x.leases y)
          (λ l k. has-with x.known y l.holder below ∙ ap (λ c. c || has_node x.known l.holder) k.1 ∙ k.0)
          (others-released (Unknown x.known) x.leases y h.holders);
    }
own-kept me x _ (pends p may) h =
    let free = pending-more x.pending p x.leases may.unleased h.free in
    record { number = h.number; alone = h.alone; leaves = h.leaves; order = h.order; apart = h.apart; free = free; holders = h.holders }
own-kept me x _ (drops txn) h =
    let free = pending-less x.pending (locks.is_numbered txn) x.leases h.free in
    record { number = h.number; alone = h.alone; leaves = h.leaves; order = h.order; apart = h.apart; free = free; holders = h.holders }
own-kept me x _ (joins o n) h = with-order x h (Some o) (join-order x h o n)
own-kept me x _ (splits o leaf n) h =
    given x h (record { name = leaf.name; holder = x.number }) (Some o) n.unleased n.unlocked (split-order x h o leaf n)
    (ap (has_node x.known) h.number ∙ h.alone)
own-kept me x _ (waits o granted waiting copied e) h =
    let it = its x h o e in
    with-order x h (Some (record o { granted = granted; waiting = waiting; copied = copied })) (record { leaf = it.leaf; made = it.made })
own-kept me x _ (fixes o leaf asked waiting e may) h =
    let it = its x h o e in
    let apart : has leaf.list me ≡ not (is_join o.task) = ap (has leaf.list) (sym h.number) ∙ may.apart ∙ sym (ap not may.join) in
    with-order x h (Some (record o { leaf = Some leaf; asked = asked; waiting = waiting })) (record { leaf = (may.name, apart); made = it.made })
own-kept me x _ (copies o source e) h =
    let it = its x h o e in with-order x h (Some (record o { copied = []; phase = Copying source })) (record { leaf = it.leaf; made = tt })
own-kept me x _ (makes o made waiting e may) h =
    let it = its x h o e in
    with-order x h (Some (record o { waiting = waiting; phase = Installing made })) (record { leaf = it.leaf; made = makes-own x h o made e may })
own-kept me x _ (closes o e) h = over-with x h o x.leaves h.leaves
own-kept me x _ (serves o made e phase) h =
    let it = subst (λ p. Each (λ (l : Leaf). (l.name ≡ made_name o.name o.task) × (has l.list me ≡ true)) (world.made_leaf p)) phase (its x h o e).made in
    over-with x h o (served x.leaves o made o.task) (leaves-served me x.leaves o made o.task it.1 h.leaves)
