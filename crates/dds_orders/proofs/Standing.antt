use Rattle.std.proofs.Common.{◌≡◌, ℕ, ◌++◌, Bool, true, false, Option, Some, None, List, [], ◌∷◌, refl, sym, ap, ◌∙◌, subst}
use Rattle.std.proofs.lemmas.Bool.{both_ways}
use Rattle.std.specs.FinMap.{get, remove}
use Rattle.std.specs.List.{AllByRecursion}
use Rattle.std.specs.Prelude.{is_some, if◌then◌else◌}
use Rattle.dds_base.specs.BrickList.{has}
use Rattle.dds_base.specs.Name.{Name, overlaps}
use Rattle.dds_base.specs.declared.leaf.Leaf.{Leaf}
use Rattle.dds_base.specs.declared.number.NodeNo.{NodeNo}
use Rattle.dds_brick_rows.specs.Refusal.{is_join}
use Rattle.dds_brick_rows.specs.Take.{replaced}
use Rattle.dds_core.proofs.Lists.{all-append, all-both, all-map}
use Rattle.dds_groups.specs.Leaves.{sibling}
use Rattle.dds_groups.specs.Names.{other_half}
use Rattle.dds_law_own.proofs.Changes.{Own, Way, kept_leases, served, way-keeps}
use Rattle.dds_law_own.proofs.Changes as change
use Rattle.dds_law_own.proofs.Disjoint.{Has, replaces}
use Rattle.dds_law_own.proofs.Halves.{over-high, over-low}
use Rattle.dds_law_own.proofs.Lists.{Each, all-first, all-released, each-is}
use Rattle.dds_law_own.proofs.Owned.{IsOrderly, IsOwn, Named, made_name, orderly}
use Rattle.dds_law_own.proofs.Parted.{IsBoth, OrderParted, both-kept}
use Rattle.dds_letters.specs.declared.letter.Letter.{Letter}
use Rattle.dds_locks.specs.Leases as lease
use Rattle.dds_locks.specs.declared.leases.Lease.{Lease}
use Rattle.dds_maps.specs.Own.{own_leaf}
use Rattle.dds_order_rows.specs.OwnOrder as order
use Rattle.dds_states.specs.Turn.{without}
use Rattle.dds_states.specs.declared.brick_state.OpenOrder.{OpenOrder}
use Rattle.dds_states.specs.declared.brick_state.OrderPhase.TheVariants.{Copying, Installing}
use Rattle.dds_states.specs.declared.brick_state.Task.{Task}
use Rattle.dds_states.specs.declared.brick_state.Task.TheVariants.{Join, Split}
use Rattle.dds_trie.specs.Trie.{LeafMap, put}
use Rattle.dds_world.specs.Groups as world
use Rattle.dds_orders.proofs.Deeds.{Deed, Path, Seat, asks_more, closes, copies, drops, fixes, joins, loses, makes, new_order, over, pends, says, serves}
use Rattle.dds_orders.proofs.Deeds.{split_asked, splits, step, takes, wanted_name, widened}
use Rattle.dds_orders.proofs.Leases.{Clear, clear-others, given-dropped, given-new, given-other, given-still, other-holder}
use Rattle.dds_orders.proofs.Numbers.{the-order}
use Rattle.dds_orders.proofs.Over.{IsOver, over-halves, over-leaf, over-put, over-replaced}
use Rattle.dds_orders.proofs.Turns.{Hears, copies_not, denies, gives, grants, grants_not, hears_other, installed_not, installs, installs_not}
use Rattle.dds_orders.proofs.Turns.{is_installed, is_refused, learns, refused_not, releases, sends_none, sends_part}
use Rattle.dds_orders.proofs.Turns.{copies as copies_part}
use Rattle.dds_orders.specs.Law.{asked_of}

-- The invariant, of one brick by itself: what its leases stand on.
--
-- | part | why it is needed | which rows keep it |
-- |---|---|---|
-- | `over`: an own leaf that has a key in common with a lease's name lies | claimed                             | Lease, the order Split; Push, Install; |
-- | in it, and there is one                                               |                                     | orders' ends                           |
-- | `held`: while a split is open, the brick's own lease of its name      | at a split's end no other lease     | the order Split; Release and Notice    |
-- | stands                                                                | overlaps its name                   | are of other holders                   |

pub record Standing (x : Own) : Type 0 where
  pub over : AllByRecursion (λ (l : Lease). IsOver x.leaves l.name) x.leases
  pub held : (o : OpenOrder) → x.order ≡ Some o → is_join o.task ≡ false → lease.is_given x.leases o.name x.number ≡ true

-- what each deed does is among the changes of a brick's own
deed-way : {x y : Seat} {ls : List (NodeNo × Letter)} → Deed x ls y → Way x.own y.own
deed-way {x = x} (says ls h) = change.over x.own
deed-way (takes mine leaf may) = change.one (change.takes mine leaf may)
deed-way (pends p may) = change.one (change.pends p may)
deed-way (drops txn) = change.one (change.drops txn)
deed-way {x = x} (joins name via may) =
    change.one (change.joins (new_order x (Join via) name None (via ∷ []))
    (record { none = may.none; via = via; task = refl; leaf = refl; phase = refl; apart = may.apart }))
deed-way {x = x} (splits leaf may) =
    change.one (change.splits (new_order x Split leaf.name (Some leaf) (split_asked x leaf)) leaf (record {
      none = may.none;
      at = may.at;
      there = may.there;
      unleased = may.unleased;
      unlocked = may.unlocked;
      task = refl;
      name = refl;
      fixed = refl;
      phase = refl;
    }))
deed-way (loses o n e k) = change.one (change.waits o o.granted (without o.waiting n) o.copied e)
deed-way {x = x} (fixes o from leaf e may) = change.one (change.fixes o leaf (widened x o from leaf).asked (widened x o from leaf).waiting e may.may)
deed-way (copies o leaf source e may) = change.one (change.copies o source e)
deed-way {x = x} (asks_more o source e phase) = change.over x.own
deed-way (makes o made nodes e may) = change.one (change.makes o made nodes e may.may)
deed-way (closes o e) = change.one (change.closes o e)
deed-way (serves o made e phase) = change.one (change.serves o made e phase)

heard-way : {from : NodeNo} {x y : Seat} {l : Letter} {ls : List (NodeNo × Letter)} → Hears from x l ls y → Way x.own y.own
heard-way {from = from} (gives number what leaf there free stamp unknown) = change.one (change.gives (wanted_name what) leaf from there free unknown)
heard-way {x = x} (denies number what why) = change.over x.own
heard-way {from = from} (releases number name) = change.one (change.releases name from)
heard-way {x = x} (sends_part number name place last pairs given there) = change.over x.own
heard-way {x = x} (sends_none number name place e) = change.over x.own
heard-way {from = from} (installs number leaf mine may) = change.one (change.installs mine leaf from may)
heard-way {x = x} (installs_not number leaf f) = change.over x.own
heard-way {from = from} (grants number leaf o f) =
    change.one (change.waits o (order.with_grant o from).granted (order.with_grant o from).waiting o.copied f.there)
heard-way {x = x} (grants_not number leaf e) = change.over x.own
heard-way (is_refused number why o f) = change.one (change.closes o f.there)
heard-way {x = x} (refused_not number why e) = change.over x.own
heard-way (copies_part number last pairs o f) = change.one (change.waits o o.granted o.waiting (o.copied ++ pairs) f.there)
heard-way {x = x} (copies_not number last pairs e) = change.over x.own
heard-way {from = from} (is_installed number name o f) = change.one (change.waits o o.granted (without o.waiting from) o.copied f.there)
heard-way {x = x} (installed_not number name e) = change.over x.own
heard-way {from = from} (learns below ne) = change.one (change.learns from below ne)
heard-way {x = x} (hears_other l e) = change.over x.own

pub deed-both : (me : ℕ) (x y : Seat) (ls : List (NodeNo × Letter)) → Deed x ls y → IsBoth me x.own → IsBoth me y.own
deed-both me x y ls d h = way-keeps (IsBoth me) (both-kept me) x.own y.own (deed-way d) h

pub heard-both : (me from : ℕ) (x y : Seat) (l : Letter) (ls : List (NodeNo × Letter)) → Hears from x l ls y → IsBoth me x.own → IsBoth me y.own
heard-both me from x y l ls d h = way-keeps (IsBoth me) (both-kept me) x.own y.own (heard-way d) h

-- leaves and leases
pub keyed : (me : ℕ) (x : Own) (mine : Leaf) → IsOwn me x → (n : Name) → get x.leaves n ≡ Some mine → mine.name ≡ n
keyed me x mine h n e = (each-is (Named me n) (get x.leaves n) mine e (h.leaves n)).0

abbrev Overs : LeafMap → List Lease → Type 0
Overs m ls = AllByRecursion (λ (l : Lease). IsOver m l.name) ls

replaced-overs : (me : ℕ) (x : Own) (mine leaf : Leaf) → IsBoth me x → own_leaf x.leaves leaf.name ≡ Some mine → Overs x.leaves x.leases
    → Overs (replaced x.leaves mine leaf) x.leases
replaced-overs me x mine leaf h there k =
    let r = replaces x.leaves mine leaf (keyed me x mine h.0) there in
    all-map (λ (l : Lease). IsOver x.leaves l.name) _ x.leases (λ l o. over-replaced x.leaves mine leaf l.name h.1.leaves r o) k

kept-overs : (m : LeafMap) (x : Own) (o : OpenOrder) (c : Bool) → Overs m x.leases → Overs m (if c then x.leases else lease.released x.leases o.name x.number)
kept-overs m x o true h = h
kept-overs m x o false h = all-first _ (lease.is_lease o.name x.number) x.leases h

pub order-is : (m : LeafMap) (q : Option OpenOrder) (o : OpenOrder) → q ≡ Some o → OrderParted m q → OrderParted m (Some o)
order-is m None o e h = cc
order-is m (Some x) o e h = let is : x ≡ o = cc in subst (λ (y : OpenOrder). OrderParted m (Some y)) is h

served-overs : (me : ℕ) (x : Own) (o : OpenOrder) (made : Leaf) (t : Task) → o.task ≡ t → x.order ≡ Some o → made.name ≡ made_name o.name t → IsBoth me x
    → Standing x → Overs (served x.leaves o made t) (if is_join t then x.leases else lease.released x.leases o.name x.number)
served-overs me x o made (Join via) e there name h k =
    let none = (λ (q : Name) (in_it : Has x.leaves q) (over_it : overlaps q made.name ≡ true).
    both_ways (is_join o.task) ((order-is x.leaves x.order o there h.1.order) q in_it (subst (λ n. overlaps q n ≡ true) name over_it)).0 (ap is_join e)) in
    all-map (λ (l : Lease). IsOver x.leaves l.name) (λ l. IsOver (put x.leaves made) l.name) x.leases
    (λ l r. over-put x.leaves made l.name none r) k.over
served-overs me x o made Split e there name h k =
    let given = k.held o there (ap is_join e) in
    let rest = lease.released x.leases o.name x.number in
    let low = (λ (q : Name) (f : overlaps q made.name ≡ true). over-low q o.name (subst (λ n. overlaps q n ≡ true) name f)) in
    let high = (λ (q : Name) (f : overlaps q (sibling made).name ≡ true). over-high q o.name (subst (λ n. overlaps q (other_half n) ≡ true) name f)) in
    all-map (λ (l : Lease). Clear o.name l × IsOver x.leaves l.name)
    (λ l. IsOver (put (put (remove x.leaves o.name) made) (sibling made)) l.name) rest
    (λ l r. over-halves x.leaves o.name made (sibling made) l.name low high r.0 r.1)
    (all-both (Clear o.name) (λ (l : Lease). IsOver x.leaves l.name) rest (clear-others x.leases o.name x.number given h.0.apart)
    (all-first _ (lease.is_lease o.name x.number) x.leases k.over))

-- the order goes on, or is over
on-held : (x y : Own) (o p : OpenOrder) → x.order ≡ Some o → y.order ≡ Some p → p.name ≡ o.name → p.task ≡ o.task → y.leases ≡ x.leases
    → y.number ≡ x.number → Standing x → (q : OpenOrder) → y.order ≡ Some q → is_join q.task ≡ false → lease.is_given y.leases q.name y.number ≡ true
on-held x y o p e f name task same number h q g j =
    let is : p ≡ q = the-order p q (sym f ∙ g) in
    let k = h.held o e (sym (ap is_join task) ∙ ap (λ (r : OpenOrder). is_join r.task) is ∙ j) in
    ap (λ ls. lease.is_given ls q.name y.number) same ∙ ap (λ i. lease.is_given x.leases q.name i) number
    ∙ ap (λ (r : OpenOrder). lease.is_given x.leases r.name x.number) (sym is) ∙ ap (λ n. lease.is_given x.leases n x.number) name ∙ k

none-held : (y : Own) → y.order ≡ None → (q : OpenOrder) → y.order ≡ Some q → is_join q.task ≡ false → lease.is_given y.leases q.name y.number ≡ true
none-held y e q g j = let no : None ≡ Some q = sym e ∙ g in cc

pub deed-stands : (me : ℕ) (x y : Seat) (ls : List (NodeNo × Letter)) → Deed x ls y → IsBoth me x.own → Standing x.own → Standing y.own
deed-stands me x _ ls (says _ others) b h = h
deed-stands me x y ls (takes mine leaf may) b h = record { over = replaced-overs me x.own mine leaf b may.there h.over; held = h.held }
deed-stands me x y ls (pends p may) b h = record { over = h.over; held = h.held }
deed-stands me x y ls (drops txn) b h = record { over = h.over; held = h.held }
deed-stands me x y ls (joins name via may) b h =
    record {
      over = h.over;
      held = λ q g j.
          let is = the-order (new_order x (Join via) name None (via ∷ [])) q g in
          let no : true ≡ false = ap (λ (r : OpenOrder). is_join r.task) is ∙ j in
          cc;
    }
deed-stands me x y ls (splits leaf may) b h =
    let at : leaf.name ≡ may.at = keyed me x.own leaf b.0 may.at may.there in
    let there : Has x.own.leaves leaf.name = subst (Has x.own.leaves) (sym at) (ap is_some may.there) in
    record {
      over = all-append _ x.own.leases (record { name = leaf.name; holder = x.own.number } ∷ []) h.over (over-leaf x.own.leaves leaf.name b.1.leaves there, tt);
      held = λ q g j.
          let is = the-order (new_order x Split leaf.name (Some leaf) (split_asked x leaf)) q g in
          subst (λ (r : OpenOrder). lease.is_given (x.own.leases ++ record { name = leaf.name; holder = x.own.number } ∷ []) r.name x.own.number ≡ true) is
          (given-new x.own.leases leaf.name x.own.number);
    }
deed-stands me x y ls (loses o n e k) b h =
    record { over = h.over; held = on-held x.own y.own o (record o { waiting = without o.waiting n }) e refl refl refl refl refl h }
deed-stands me x y ls (fixes o from leaf e may) b h =
    record { over = h.over; held = on-held x.own y.own o (widened x o from leaf) e refl refl refl refl refl h }
deed-stands me x y ls (copies o leaf source e may) b h =
    record { over = h.over; held = on-held x.own y.own o (record o { copied = []; phase = Copying source }) e refl refl refl refl refl h }
deed-stands me x _ ls (asks_more o source e phase) b h = h
deed-stands me x y ls (makes o made nodes e may) b h =
    record { over = h.over; held = on-held x.own y.own o (record o { waiting = nodes; phase = Installing made }) e refl refl refl refl refl h }
deed-stands me x y ls (closes o e) b h = record { over = kept-overs x.own.leaves x.own o (is_join o.task) h.over; held = none-held y.own refl }
deed-stands me x y ls (serves o made e phase) b h =
    let it : IsOrderly me o = orderly me x.own.order o e b.0.order in
    let name = subst (λ i. Each (λ (l : Leaf). (l.name ≡ made_name o.name o.task) × (has l.list me ≡ true)) (world.made_leaf i)) phase it.made in
    record { over = served-overs me x.own o made o.task refl e name.0 b h; held = none-held y.own refl }

-- a brick and its leases, along the deeds of a turn
pub record Stood (me : ℕ) (x : Seat) : Type 0 where
  pub both : IsBoth me x.own
  pub stands : Standing x.own

pub path-stood : (me : ℕ) (x z : Seat) (ls : List (NodeNo × Letter)) → Path x ls z → Stood me x → Stood me z
path-stood me x _ _ (over _) h = h
path-stood me x z _ (step _ y _ ls ms d w) h =
    path-stood me y z ms w (record { both = deed-both me x y ls d h.both; stands = deed-stands me x y ls d h.both h.stands })

heard-stands : (me from : ℕ) (l : Letter) (x y : Seat) (ls : List (NodeNo × Letter)) → Hears from x l ls y
    → ((number : ℕ) → asked_of l ≡ Some number → from ≡ me → ⊥) → IsBoth me x.own → Standing x.own → Standing y.own
heard-stands me from l x y ls (gives number what leaf there free stamp unknown) ne b h =
    let name = wanted_name what in
    let new : Lease = record { name = name; holder = from } in
    record {
      over = all-append _ x.own.leases (new ∷ []) h.over (over-leaf x.own.leaves name b.1.leaves (ap is_some there), tt);
      held = λ q g j. given-still x.own.leases new q.name x.own.number (h.held q g j);
    }
heard-stands me from l x _ ls (denies number what why) ne b h = h
heard-stands me from l x y ls (releases number name) ne b h =
    record {
      over = all-first _ (lease.is_lease name from) x.own.leases h.over;
      held = λ q g j.
          given-other x.own.leases q.name name x.own.number from
          (other-holder q.name name x.own.number from (λ e. ne number refl (e ∙ b.0.number))) ∙ h.held q g j;
    }
heard-stands me from l x _ ls (sends_part number name place last pairs given there) ne b h = h
heard-stands me from l x _ ls (sends_none number name place e) ne b h = h
heard-stands me from l x y ls (installs number leaf mine may) ne b h =
    record { over = replaced-overs me x.own mine leaf b may.there h.over; held = h.held }
heard-stands me from l x _ ls (installs_not number leaf f) ne b h = h
heard-stands me from l x y ls (grants number leaf o f) ne b h =
    record { over = h.over; held = on-held x.own y.own o (order.with_grant o from) f.there refl refl refl refl refl h }
heard-stands me from l x _ ls (grants_not number leaf e) ne b h = h
heard-stands me from l x y ls (is_refused number why o f) ne b h =
    record { over = kept-overs x.own.leaves x.own o (is_join o.task) h.over; held = none-held y.own refl }
heard-stands me from l x _ ls (refused_not number why e) ne b h = h
heard-stands me from l x y ls (copies_part number last pairs o f) ne b h =
    record { over = h.over; held = on-held x.own y.own o (record o { copied = o.copied ++ pairs }) f.there refl refl refl refl refl h }
heard-stands me from l x _ ls (copies_not number last pairs e) ne b h = h
heard-stands me from l x y ls (is_installed number name o f) ne b h =
    record { over = h.over; held = on-held x.own y.own o (record o { waiting = without o.waiting from }) f.there refl refl refl refl refl h }
heard-stands me from l x _ ls (installed_not number name e) ne b h = h
heard-stands me from l x y ls (learns below other) ne b h =
    record {
      over = all-released (λ (k : Lease). IsOver x.own.leaves k.name) x.own.leases from h.over;
      held = λ q g j. given-dropped x.own.leases q.name x.own.number from (λ e. other (sym e)) ∙ h.held q g j;
    }
heard-stands me from l x _ ls (hears_other _ e) ne b h = h

pub heard-stood : (me from : ℕ) (l : Letter) (x y : Seat) (ls : List (NodeNo × Letter)) → Hears from x l ls y
    → ((number : ℕ) → asked_of l ≡ Some number → from ≡ me → ⊥) → Stood me x → Stood me y
heard-stood me from l x y ls d ne h =
    record { both = heard-both me from x y l ls d h.both; stands = heard-stands me from l x y ls d ne h.both h.stands }
