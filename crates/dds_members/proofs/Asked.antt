use Rattle.std.proofs.Common.{◌≡◌, ℕ, ◌==◌, ◌++◌, Bool, true, false, not, Option, Some, None, List, [], ◌∷◌, refl, sym, ◌∙◌, subst}
use Rattle.std.specs.List.{AllByRecursion}
use Rattle.std.specs.Prelude.{filter, if◌then◌else◌}
use Rattle.dds_base.specs.BrickList.{has}
use Rattle.dds_base.specs.NodeSet.{has_node}
use Rattle.dds_base.specs.declared.leaf.Leaf.{Leaf}
use Rattle.dds_base.specs.declared.node_set.NodeSet.{NodeSet}
use Rattle.dds_base.specs.declared.number.NodeNo.{NodeNo}
use Rattle.dds_books.proofs.Numbers.{all-live, all-there}
use Rattle.dds_core.proofs.Lists.{all-map}
use Rattle.dds_groups.specs.Leaves.{live}
use Rattle.dds_letters.specs.declared.letter.Letter.{Letter}
use Rattle.dds_net.proofs.Pairwise.{pairs-append, pairs-filter}
use Rattle.dds_order_rows.specs.OwnOrder as order
use Rattle.dds_order_talk.proofs.Kept.{kept-deed}
use Rattle.dds_order_talk.proofs.Members.{Asks, in-unknown}
use Rattle.dds_orders.proofs.Counting.{not-none}
use Rattle.dds_orders.proofs.Deeds.{Deed, Path, Seat, asks_more, closes, copies, drops, fixes, joins, loses, makes, over, pends, says}
use Rattle.dds_orders.proofs.Deeds.{serves, splits, step, takes, widened}
use Rattle.dds_orders.proofs.Numbers.{the-order}
use Rattle.dds_orders.proofs.Turns.{Hears, copies_not, denies, gives, grants, grants_not, hears_other, installed_not, installs, installs_not}
use Rattle.dds_orders.proofs.Turns.{is_installed, is_refused, learns, refused_not, releases, sends_none, sends_part}
use Rattle.dds_orders.proofs.Turns.{copies as copies_part}
use Rattle.dds_states.specs.Turn.{unknown, unknown_others, without}
use Rattle.dds_states.specs.declared.brick_state.OpenOrder.{OpenOrder}
use Rattle.dds_members.specs.Law.{EachOnce}

-- Each deed of a brick, and each letter that it takes, keeps that its open order asks each member once and waits for each once, if the
-- order's leaf lists each once. (That the leaf does is told of the world that a run reaches, and so isn't kept here.)
--
-- | part | why it is needed | which rows keep it |
-- |---|---|---|
-- | `asked`   | claimed | the orders Join, Split; Granted, where it fixes a leaf                                     |
-- | `waiting` | claimed | the same; Granted, Installed and Notice, where one isn't waited for any more; what begins to install |

abbrev pub LeafOnce : OpenOrder → Type 0
LeafOnce o = (leaf : Leaf) → o.leaf ≡ Some leaf → EachOnce leaf.list

pub record AskedOnce (o : OpenOrder) : Type 0 where
  pub asked : LeafOnce o → EachOnce o.asked
  pub waiting : LeafOnce o → EachOnce o.waiting

abbrev pub OrderOnce : Option OpenOrder → Type 0
OrderOnce q = (o : OpenOrder) → q ≡ Some o → AskedOnce o

-- lists
abbrev Other : ℕ → ℕ → Type 0
Other m n = m ≡ n → ⊥

once-filter : (p : ℕ → Bool) (xs : List ℕ) → EachOnce xs → EachOnce (filter p xs)
once-filter p xs h = pairs-filter Other p xs h

once-without : (xs : List ℕ) (n : ℕ) → EachOnce xs → EachOnce (without xs n)
once-without xs n h = once-filter (λ m. not (m == n)) xs h

once-live-if : (c : Bool) (x : ℕ) (xs : List ℕ) → AllByRecursion (Other x) xs → EachOnce xs → EachOnce (if c then xs else x ∷ xs)
once-live-if true x xs h k = k
once-live-if false x xs h k = (h, k)

once-live : (xs : List ℕ) (known : ℕ → Bool) → EachOnce xs → EachOnce (live xs known)
once-live [] known h = tt
once-live (x ∷ xs) known h = once-live-if (known x) x (live xs known) (all-live (Other x) xs known h.0) (once-live xs known h.1)

once-others : (xs : List ℕ) (me : ℕ) (known : NodeSet) → EachOnce xs → EachOnce (unknown_others xs me known)
once-others xs me known h = once-without (unknown xs known) me (once-live xs (has_node known) h)

once-append : (xs ys : List ℕ) → EachOnce xs → EachOnce ys → ((n : ℕ) → has xs n ≡ true → has ys n ≡ true → ⊥) → EachOnce (xs ++ ys)
once-append xs ys h k apart =
    pairs-append Other xs ys h k
    (all-map (λ n. has xs n ≡ true) (λ m. AllByRecursion (Other m) ys) xs
    (λ m a. all-map (λ n. has ys n ≡ true) (Other m) ys (λ n b e. apart n (subst (λ i. has xs i ≡ true) e a) b) (all-there ys))
    (all-there xs))

-- the order that is open
that-one : (p : OpenOrder) → AskedOnce p → OrderOnce (Some p)
that-one p h o e = subst AskedOnce (the-order p o e) h

none-open : OrderOnce None
none-open o e = absurd (not-none o e)

pub deed-once : (me : ℕ) (x y : Seat) (ls : List (NodeNo × Letter)) → Deed x ls y → Asks me x → OrderOnce x.own.order → OrderOnce y.own.order
deed-once me x _ ls (says _ others) a h = h
deed-once me x y ls (takes mine leaf may) a h = h
deed-once me x y ls (pends p may) a h = h
deed-once me x y ls (drops txn) a h = h
deed-once me x y ls (joins name via may) a h = that-one _ (record { asked = λ k. (tt, tt); waiting = λ k. (tt, tt) })
deed-once me x y ls (splits leaf may) a h =
    that-one _ (record {
      asked = λ k. once-others leaf.list x.own.number x.own.known (k leaf refl);
      waiting = λ k. once-others leaf.list x.own.number x.own.known (k leaf refl);
    })
deed-once me x y ls (loses o m e known) a h =
    let it = h o e in
    that-one (record o { waiting = without o.waiting m }) (record { asked = it.asked; waiting = λ k. once-without o.waiting m (it.waiting k) })
deed-once me x y ls (fixes o from leaf e may) a h =
    let it = h o e in
    let ok = a.order o e in
    let new = unknown_others leaf.list from x.own.known in
    let before : LeafOnce o = λ l f. absurd (not-none l (sym may.may.none ∙ f)) in
    let one = (λ (n : ℕ) (k : has o.asked n ≡ true). ok.first n from may.may.none k (ok.granted from may.granted)) in
    that-one (widened x o from leaf) (record {
      asked = λ k. once-append o.asked new (it.asked before) (once-others leaf.list from x.own.known (k leaf refl))
          (λ n i j. in-unknown leaf.list from x n j (one n i));
      waiting = λ k. once-append o.waiting new (it.waiting before) (once-others leaf.list from x.own.known (k leaf refl))
          (λ n i j. in-unknown leaf.list from x n j (one n (ok.leases n may.leasing i).0));
    })
deed-once me x y ls (copies o leaf source e may) a h =
    let it = h o e in that-one _ (record { asked = it.asked; waiting = it.waiting })
deed-once me x _ ls (asks_more o source e phase) a h = h
deed-once me x y ls (makes o made nodes e may) a h =
    let it = h o e in
    let m = may.may in
    that-one _ (record {
      asked = it.asked;
      waiting = λ k. subst EachOnce (sym may.nodes_are) (once-without (order.parting m.state o m.leaf) x.own.number
          (once-filter (order.takes_part m.state o) (live m.leaf.list (has_node m.state.known))
          (once-live m.leaf.list (has_node m.state.known) (k m.leaf m.fixed))));
    })
deed-once me x y ls (closes o e) a h = none-open
deed-once me x y ls (serves o made e phase) a h = none-open

pub path-once : (me : ℕ) (x z : Seat) (ls : List (NodeNo × Letter)) → Path x ls z → Asks me x → OrderOnce x.own.order → OrderOnce z.own.order
path-once me x _ _ (over _) a h = h
path-once me x z _ (step _ y _ ls ms d w) a h = path-once me y z ms w (kept-deed me x y ls d a).next (deed-once me x y ls d a h)

pub heard-once : (from : ℕ) (l : Letter) (x y : Seat) (ls : List (NodeNo × Letter)) → Hears from x l ls y → OrderOnce x.own.order → OrderOnce y.own.order
heard-once from l x y ls (gives number what leaf there free stamp unknown) h = h
heard-once from l x _ ls (denies number what why) h = h
heard-once from l x y ls (releases number name) h = h
heard-once from l x _ ls (sends_part number name place last pairs given there) h = h
heard-once from l x _ ls (sends_none number name place e) h = h
heard-once from l x y ls (installs number leaf mine may) h = h
heard-once from l x _ ls (installs_not number leaf f) h = h
heard-once from l x y ls (grants number leaf o f) h =
    let it = h o f.there in
    that-one (order.with_grant o from) (record { asked = it.asked; waiting = λ k. once-without o.waiting from (it.waiting k) })
heard-once from l x _ ls (grants_not number leaf e) h = h
heard-once from l x y ls (is_refused number why o f) h = none-open
heard-once from l x _ ls (refused_not number why e) h = h
heard-once from l x y ls (copies_part number last pairs o f) h =
    let it = h o f.there in that-one _ (record { asked = it.asked; waiting = it.waiting })
heard-once from l x _ ls (copies_not number last pairs e) h = h
heard-once from l x y ls (is_installed number name o f) h =
    let it = h o f.there in
    that-one (record o { waiting = without o.waiting from }) (record { asked = it.asked; waiting = λ k. once-without o.waiting from (it.waiting k) })
heard-once from l x _ ls (installed_not number name e) h = h
heard-once from l x y ls (learns below other) h = h
heard-once from l x _ ls (hears_other _ e) h = h
