use Rattle.std.proofs.Common.{◌≡◌, ℕ, true, false, Some, List, [], ◌∷◌, refl, sym, ap, ◌∙◌, subst}
use Rattle.std.proofs.lemmas.Bool.{both_ways}
use Rattle.std.specs.FinMap.{get, remove}
use Rattle.std.specs.List.{AllByRecursion}
use Rattle.std.specs.Prelude.{is_some}
use Rattle.dds_base.specs.Name.{Name, covers, overlaps}
use Rattle.dds_base.specs.Op.{the_key}
use Rattle.dds_base.specs.declared.leaf.Leaf.{Leaf}
use Rattle.dds_base.specs.declared.number.NodeNo.{NodeNo}
use Rattle.dds_base.specs.declared.pending.Pending.{Pending}
use Rattle.dds_brick_rows.specs.Refusal.{is_join}
use Rattle.dds_brick_rows.specs.Take.{replaced}
use Rattle.dds_core.proofs.Lists.{all-both, all-map}
use Rattle.dds_groups.specs.Leaves.{sibling}
use Rattle.dds_groups.specs.Names.{low_half, other_half}
use Rattle.dds_law_own.proofs.Changes.{MayInstall, Own, own}
use Rattle.dds_law_own.proofs.Disjoint.{Disjoint, Has, Replaces, half, replaces, same_name}
use Rattle.dds_law_own.proofs.Halves.{over-high, over-low}
use Rattle.dds_law_own.proofs.Lists.{none-passes}
use Rattle.dds_law_own.proofs.Owned.{Free, made_name}
use Rattle.dds_law_own.proofs.Parted.{IsBoth}
use Rattle.dds_locks.specs.declared.leases.Lease.{Lease}
use Rattle.dds_orders.proofs.Covered.{Unlocked, false-of, given-is, lease-meets, mine-meets, not-either}
use Rattle.dds_orders.proofs.Leased.{put-apart, remove-apart, replaced-apart}
use Rattle.dds_orders.proofs.Over.{IsOver, within-covers}
use Rattle.dds_orders.proofs.Standing.{Standing, keyed, order-is}
use Rattle.dds_states.specs.declared.brick_state.BrickState.{BrickState}
use Rattle.dds_states.specs.declared.brick_state.OpenOrder.{OpenOrder}
use Rattle.dds_states.specs.declared.brick_state.Task.{Task}
use Rattle.dds_states.specs.declared.brick_state.Task.TheVariants.{Join, Split}
use Rattle.dds_trie.specs.Trie.{LeafMap, put}
use Rattle.dds_pending.proofs.Fits.{Stays}
use Rattle.dds_pending.proofs.Leads.{Leads, ends, installs, rests, splits, takes_it}
use Rattle.dds_pending.proofs.OrderLeaves.{served_as}

-- A turn leaves the leaves over the keys that were pending before it: it replaces a leaf under whose name nothing is pending, or one
-- under a lease, and a lease has nothing pending under it; or a join serves a leaf beside the others.

-- a leaf over the key has nothing in common with one that isn't
apart-from : (m : LeafMap) (n q : Name) (key : ℕ) → Disjoint m → Has m n → covers n key ≡ false → covers q key ≡ true → Has m q → overlaps q n ≡ false
apart-from m n q key d there free over h =
    false-of (overlaps q n) (λ e. both_ways (covers n key) free (subst (λ i. covers i key ≡ true) (d q n h there e) over))

mine-there : (m : LeafMap) (mine leaf : Leaf) → Replaces m mine leaf → Has m mine.name
mine-there m mine leaf (same_name there is) = subst (Has m) (sym is) there
mine-there m mine leaf (half there is deep) = subst (Has m) (sym is) there

replaced-stays : (m : LeafMap) (mine leaf : Leaf) (key : ℕ) → Disjoint m → Replaces m mine leaf → covers mine.name key ≡ false
    → Stays m (replaced m mine leaf) key
replaced-stays m mine leaf key d r free q l over there =
    replaced-apart m mine leaf q r (apart-from m mine.name q key d (mine-there m mine leaf r) free over (ap is_some there)) ∙ there

-- the halves of a name that no leaf over the key has anything in common with
split-stays : (m : LeafMap) (name : Name) (made : Leaf) (key : ℕ) → made.name ≡ low_half name
    → ((q : Name) → Has m q → covers q key ≡ true → overlaps q name ≡ false) → Stays m (served_as m name made Split) key
split-stays m name made key is f q l over there =
    let apart = f q (ap is_some there) over in
    let low = not-either (overlaps q name) (overlaps q made.name) apart (λ g. over-low q name (subst (λ k. overlaps q k ≡ true) is g)) in
    let high = not-either (overlaps q name) (overlaps q (sibling made).name) apart
    (λ g. over-high q name (subst (λ k. overlaps q (other_half k) ≡ true) is g)) in
    put-apart (put (remove m name) made) (sibling made) q high ∙ put-apart (remove m name) made q low ∙ remove-apart m name q apart ∙ there

-- nothing is pending under a leaf over which a lease stands
abbrev IsLeased : Own → Lease → Type 0
IsLeased x l = IsOver x.leaves l.name × Free x.pending l

leased-all : (me : ℕ) (x : Own) → IsBoth me x → Standing x → AllByRecursion (IsLeased x) x.leases
leased-all me x b h = all-both (λ (l : Lease). IsOver x.leaves l.name) (Free x.pending) x.leases h.over b.0.free

installs-free : (me : ℕ) (x : Own) (mine leaf : Leaf) (from : NodeNo) → IsBoth me x → Standing x → MayInstall x mine leaf from
    → AllByRecursion (Unlocked mine.name) x.pending
installs-free me x mine leaf from b h may =
    let r = replaces x.leaves mine leaf (keyed me x mine b.0) may.there in
    let it = lease-meets (IsLeased x) x.leases leaf.name from (leased-all me x b h) may.leased in
    let k = mine-meets x.leaves mine leaf it.lease.name r it.meets in
    let within = it.is.0.under mine.name k.0 k.1 in
    all-map (Unlocked it.lease.name) (Unlocked mine.name) x.pending
    (λ p free. not-either (covers it.lease.name (the_key p.op)) (covers mine.name (the_key p.op)) free
    (within-covers it.lease.name mine.name (the_key p.op) within))
    (none-passes (λ (p : Pending). covers it.lease.name (the_key p.op)) x.pending it.is.1)

-- of each key that is pending
abbrev StaysAll : BrickState → LeafMap → Type 0
StaysAll s k = AllByRecursion (λ (p : Pending). Stays s.leaves k (the_key p.op)) s.locks.pending

all-of : {X : Type 0} (P : X → Type 0) (xs : List X) → ((x : X) → P x) → AllByRecursion P xs
all-of P [] f = tt
all-of P (x ∷ xs) f = (f x, all-of P xs f)

over-all : (s : BrickState) (k : LeafMap) (name : Name) → AllByRecursion (Unlocked name) s.locks.pending
    → ((key : ℕ) → covers name key ≡ false → Stays s.leaves k key) → StaysAll s k
over-all s k name h f = all-map (Unlocked name) (λ (p : Pending). Stays s.leaves k (the_key p.op)) s.locks.pending (λ p free. f (the_key p.op) free) h

served-stays : (me : ℕ) (s : BrickState) (o : OpenOrder) (made : Leaf) (t : Task) → o.task ≡ t → s.order ≡ Some o → made.name ≡ made_name o.name t
    → IsBoth me (own s) → Standing (own s) → StaysAll s (served_as s.leaves o.name made t)
served-stays me s o made (Join via) e there name b h =
    all-of (λ (p : Pending). Stays s.leaves (put s.leaves made) (the_key p.op)) s.locks.pending
    (λ p q l over g. put-apart s.leaves made q (false-of (overlaps q made.name) (λ f. both_ways (is_join o.task)
    ((order-is s.leaves s.order o there b.1.order) q (ap is_some g) (subst (λ n. overlaps q n ≡ true) name f)).0 (ap is_join e))) ∙ g)
served-stays me s o made Split e there name b h =
    let its = given-is (IsLeased (own s)) s.locks.leases o.name s.number (leased-all me (own s) b h) (h.held o there (ap is_join e)) in
    let l = its.0 in
    over-all s (served_as s.leaves o.name made Split) l.name (none-passes (λ (p : Pending). covers l.name (the_key p.op)) s.locks.pending its.2.1)
    (λ key free. split-stays s.leaves o.name made key name (λ q in_it over. false-of (overlaps q o.name) (λ m. both_ways (covers l.name key) free
    (within-covers l.name q key (its.2.0.under q in_it (subst (λ n. overlaps q n ≡ true) (sym its.1) m)) over))))

pub leads-stays : (me : ℕ) (s : BrickState) (k : LeafMap) → IsBoth me (own s) → Standing (own s) → Leads s k → StaysAll s k
leads-stays me s k b h (rests e) =
    all-of (λ (p : Pending). Stays s.leaves k (the_key p.op)) s.locks.pending (λ p q l over there. ap (λ m. get m q) e ∙ there)
leads-stays me s k b h (takes_it mine leaf may e) =
    let r = replaces s.leaves mine leaf (keyed me (own s) mine b.0) may.there in
    over-all s k mine.name (none-passes (λ (p : Pending). covers mine.name (the_key p.op)) s.locks.pending may.free.unlocked)
    (λ key free. subst (λ m. Stays s.leaves m key) (sym e) (replaced-stays s.leaves mine leaf key b.1.leaves r free))
leads-stays me s k b h (installs mine leaf from may e) =
    let r = replaces s.leaves mine leaf (keyed me (own s) mine b.0) may.there in
    over-all s k mine.name (installs-free me (own s) mine leaf from b h may)
    (λ key free. subst (λ m. Stays s.leaves m key) (sym e) (replaced-stays s.leaves mine leaf key b.1.leaves r free))
leads-stays me s k b h (ends o made there name e) = subst (StaysAll s) (sym e) (served-stays me s o made o.task refl there name b h)
leads-stays me s k b h (splits at leaf made there free name e) =
    let its : Has s.leaves leaf.name = subst (Has s.leaves) (sym (keyed me (own s) leaf b.0 at there)) (ap is_some there) in
    over-all s k leaf.name (none-passes (λ (p : Pending). covers leaf.name (the_key p.op)) s.locks.pending free)
    (λ key none. subst (λ m. Stays s.leaves m key) (sym e)
    (split-stays s.leaves leaf.name made key name (λ q in_it over. apart-from s.leaves leaf.name q key b.1.leaves its none over in_it)))
