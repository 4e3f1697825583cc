use Rattle.std.proofs.Common.{◌≡◌, ℕ, ◌==◌, ◌&&◌, ◌||◌, Bool, true, false, not, Option, Some, None, List, [], ◌∷◌, refl, subst}
use Rattle.std.specs.FinMap.{get}
use Rattle.std.specs.List.{AllByRecursion}
use Rattle.std.specs.Prelude.{if◌then◌else◌}
use Rattle.dds_base.specs.BrickList.{has}
use Rattle.dds_base.specs.Name.{Name, same_name}
use Rattle.dds_base.specs.NodeSet.{has_node}
use Rattle.dds_base.specs.Number.{Txn, StampOf}
use Rattle.dds_base.specs.Op.{the_key}
use Rattle.dds_base.specs.declared.leaf.Leaf.{Leaf}
use Rattle.dds_base.specs.declared.number.NodeNo.{NodeNo}
use Rattle.dds_base.specs.declared.op.Order.{Order}
use Rattle.dds_base.specs.declared.pending.Pending.{Pending}
use Rattle.dds_brick_rows.specs.Calls as calls
use Rattle.dds_brick_rows.specs.Refusal.{as_denial, get_refusal, has_no_room, is_locked, joins_key, stale_against, update_denial, update_refusal}
use Rattle.dds_brick_rows.specs.Resolution as rows
use Rattle.dds_brick_rows.specs.declared.resolution.News.{News}
use Rattle.dds_brick_rows.specs.declared.resolution.News.TheVariants as news
use Rattle.dds_core.proofs.LetterTells.{Any, Each as AnyMet, letter-rests, order_part}
use Rattle.dds_core.proofs.Lists.{all-append, all-map}
use Rattle.dds_core.proofs.OrderTells.{order-rests}
use Rattle.dds_core.proofs.Rests.{AllOrders, Orders}
use Rattle.dds_core.specs.Brick.{brick_input, live_brick_turn}
use Rattle.dds_core.specs.Notice as notices
use Rattle.dds_groups.specs.Leaves.{same_stamp}
use Rattle.dds_law_leaf.proofs.Book.{Each, InMap}
use Rattle.dds_law_leaf.proofs.Maps.{in-for}
use Rattle.dds_letters.specs.declared.letter.Letter.{Letter}
use Rattle.dds_letters.specs.declared.letter.Letter.TheVariants as letter
use Rattle.dds_letters.specs.declared.refusal.Denial.{Denial}
use Rattle.dds_letters.specs.declared.refusal.Denial.TheVariants as denial
use Rattle.dds_letters.specs.declared.refusal.Refusal.{Refusal}
use Rattle.dds_letters.specs.declared.refusal.Refusal.TheVariants as refusal
use Rattle.dds_locks.specs.Leases.{lease_covers}
use Rattle.dds_locks.specs.Pending.{first_of}
use Rattle.dds_states.specs.Leaf.{leaf_for}
use Rattle.dds_states.specs.Turn.{BrickTurn, still, sends, and_then, first_some, is_none_left, to_each, unknown, unknown_others, when}
use Rattle.dds_states.specs.declared.brick_state.BrickState.{BrickState}
use Rattle.dds_states.specs.declared.brick_state.Deferred.{Deferred}
use Rattle.dds_states.specs.declared.brick_state.Question.{Question}
use Rattle.dds_states.specs.declared.brick_state.Question.TheVariants.{Help, Query}
use Rattle.dds_states.specs.declared.brick_state.Resolving.{Resolving}
use Rattle.dds_world.specs.Groups.{answer_leaf, ballot_leaf, denial_leaf, refusal_leaf}

-- The leaves that a brick tells to libraries are its own, so where its own have members they have.

abbrev pub IsFilled : Leaf → Type 0
IsFilled leaf = is_none_left leaf.list ≡ false

abbrev pub Fills : Letter → Type 0
Fills (letter.Got txn a) = Each IsFilled (answer_leaf a)
Fills (letter.Vote txn vote) = Each IsFilled (ballot_leaf vote)
Fills (letter.MapTell txn leaf) = Each IsFilled leaf
Fills other = Unit {0}

abbrev pub AllFill : List (NodeNo × Letter) → Type 0
AllFill ls = AllByRecursion (λ (p : NodeNo × Letter). Fills p.1) ls

-- turns that tell libraries no leaf

record Quiet (r : BrickTurn) : Type 0 where
  fills : AllFill r.out.letters

quiet-then : (r : BrickTurn) (row : BrickState → BrickTurn) → Quiet r → ((u : BrickState) → Quiet (row u)) → Quiet (and_then r row)
quiet-then r row h f = record { fills = all-append _ r.out.letters (row r.state).out.letters h.fills (f r.state).fills }

quiet-if : (c : Bool) (r q : BrickTurn) → Quiet r → Quiet q → Quiet (if c then r else q)
quiet-if true r q h g = h
quiet-if false r q h g = g

quiet-still : (u : BrickState) → Quiet (still u)
quiet-still u = record { fills = tt }

each-fills : (ns : List NodeNo) (l : Letter) → Fills l → AllFill (to_each ns l)
each-fills [] l h = tt
each-fills (n ∷ ns) l h = (h, each-fills ns l h)

quiet-each : (u : BrickState) (ns : List NodeNo) (l : Letter) → Fills l → Quiet (sends u (to_each ns l))
quiet-each u ns l h = record { fills = each-fills ns l h }

settled-quiet : (s : BrickState) (c : Bool) (q : Option Pending) → Quiet (rows.settled s c q)
settled-quiet s c None = record { fills = tt }
settled-quiet s true (Some p) = record { fills = tt }
settled-quiet s false (Some p) = record { fills = tt }

outcome-quiet : (s : BrickState) (x : Txn) (c : Bool) → Quiet (rows.outcome_row s x c)
outcome-quiet s x c = settled-quiet (calls.dropped s x) c (first_of s.locks.pending x)

decides-quiet : (s : BrickState) (r : Resolving) → Quiet (rows.decides s r)
decides-quiet s r = quiet-then _ _ (outcome-quiet s r.txn (rows.verdict r))
    (λ u. quiet-each u (unknown_others r.list u.number u.known) (letter.Outcome r.txn (rows.verdict r)) tt)

resolves-quiet : (s : BrickState) (r : Resolving) → Quiet (rows.resolves_on s r)
resolves-quiet s r = quiet-if (is_none_left r.waiting) _ _ (decides-quiet s r) (quiet-still _)

resolve-quiet : (s : BrickState) (x : Txn) (list : List ℕ) → Quiet (rows.resolve s x list)
resolve-quiet s x list = quiet-then _ _ (quiet-each s (unknown_others list s.number s.known) (letter.Query x list) tt)
    (λ u. resolves-quiet u (rows.started s x list))

help-quiet : (s : BrickState) (from : NodeNo) (x : Txn) (list : List ℕ) → Quiet (rows.help_row s from x list)
help-quiet s from x list = quiet-if (rows.is_ready s.known x list s.number) _ _
    (quiet-if (rows.is_resolved s x) _ _ (quiet-still s) (resolve-quiet s x list)) (quiet-still _)

query-quiet : (s : BrickState) (from : NodeNo) (x : Txn) (list : List ℕ) → Quiet (rows.query_row s from x list)
query-quiet s from x list = quiet-if (rows.is_ready s.known x list from) _ _ (record { fills = (tt, tt) }) (quiet-still _)

resolving-quiet : (s : BrickState) (y : NodeNo) (n : News) (r : Resolving) → Quiet (rows.resolving_goes s y n r)
resolving-quiet s y n r = quiet-if (rows.is_awaited r y n) _ _ (resolves-quiet s (rows.with_news r y n)) (quiet-still _)

resolvings-quiet : (s : BrickState) (y : NodeNo) (n : News) (rs : List Resolving) → Quiet (rows.resolvings_go s y n rs)
resolvings-quiet s y n [] = quiet-still s
resolvings-quiet s y n (r ∷ rs) = quiet-then _ _ (resolving-quiet s y n r) (λ u. resolvings-quiet u y n rs)

asked-quiet : (s : BrickState) (d : Deferred) (q : Question) → Quiet (notices.asked_again s d q)
asked-quiet s d Help = help-quiet s d.from d.txn d.list
asked-quiet s d Query = query-quiet s d.from d.txn d.list

all-asked-quiet : (s : BrickState) (ds : List Deferred) → Quiet (notices.asked_all_again s ds)
all-asked-quiet s [] = quiet-still s
all-asked-quiet s (d ∷ ds) = quiet-then _ _ (asked-quiet s d d.question) (λ u. all-asked-quiet u ds)

helped-quiet : (s : BrickState) (y : NodeNo) (x : Txn) (list fs : List ℕ) → Quiet (notices.helped_by s y x list fs)
helped-quiet s y x list [] = quiet-still s
helped-quiet s y x list (f ∷ fs) =
    quiet-if (f == s.number) _ _ (resolve-quiet s x list)
    (quiet-if (y == x.library || has (rows.before list f) y) _ _ (record { fills = (tt, tt) }) (quiet-still s))

pending-quiet : (s : BrickState) (y : NodeNo) (x : Txn) (list : List ℕ) → Quiet (notices.pending_goes s y x list)
pending-quiet s y x list = quiet-if (has_node s.known x.library && not (rows.is_resolved s x)) _ _
    (helped-quiet s y x list (unknown list s.known)) (quiet-still s)

pendings-quiet : (s : BrickState) (y : NodeNo) (ps : List (Txn × List ℕ)) → Quiet (notices.pendings_go s y ps)
pendings-quiet s y [] = quiet-still s
pendings-quiet s y (p ∷ ps) = quiet-then _ _ (pending-quiet s y p.0 p.1) (λ u. pendings-quiet u y ps)

order-fills : (ls : List (NodeNo × Letter)) → AllOrders Any ls → AllFill ls
order-fills ls h = all-map (λ (p : NodeNo × Letter). Orders Any p.0 p.1) (λ p. Fills p.1) ls (λ p k. one p.0 p.1 k) h
  where
    one : (to : NodeNo) (m : Letter) → Orders Any to m → Fills m
    one to (letter.Got txn a) k = absurd k
    one to (letter.Vote txn vote) k = absurd k
    one to (letter.MapTell txn leaf) k = absurd k
    one to other k = tt

notice-quiet : (s : BrickState) (y : NodeNo) → Quiet (notices.notice_row s y)
notice-quiet s y =
    let l = notices.learns s y in
    quiet-then (and_then (and_then (notices.order_part l y) (λ t. notices.resolving_part t y)) notices.deferred_part) (λ t. notices.pending_part t y)
    (quiet-then (and_then (notices.order_part l y) (λ t. notices.resolving_part t y)) notices.deferred_part
    (quiet-then (notices.order_part l y) (λ t. notices.resolving_part t y)
    (record { fills = order-fills _ (order_part {L = Any} {M = AnyMet} l y).letters })
    (λ u. resolvings-quiet (record u { resolving = [] }) y news.Stopped u.resolving))
    (λ u. all-asked-quiet (record u { deferred = [] }) u.deferred)) (λ u. pendings-quiet u y (notices.numbered u.locks.pending))

-- refusals tell the brick's own leaf

stale-fills : (own : Option Leaf) (name : Name) (stamp : StampOf) (r : Refusal) → Each IsFilled own → stale_against own name stamp ≡ Some r
    → Each IsFilled (refusal_leaf r)
stale-fills None name stamp r h e = let is : refusal.Stale None ≡ r = cc in subst (λ x. Each IsFilled (refusal_leaf x)) is tt
stale-fills (Some leaf) name stamp r h e = by (same_name leaf.name name && same_stamp leaf.stamp stamp) e
  where
    by : (b : Bool) → (if b then None else Some (refusal.Stale (Some leaf))) ≡ Some r → Each IsFilled (refusal_leaf r)
    by true f = cc
    by false f = let is : refusal.Stale (Some leaf) ≡ r = cc in subst (λ x. Each IsFilled (refusal_leaf x)) is h

this-refusal : (x r : Refusal) → Some x ≡ Some r → Each IsFilled (refusal_leaf x) → Each IsFilled (refusal_leaf r)
this-refusal x r e h = let is : x ≡ r = cc in subst (λ y. Each IsFilled (refusal_leaf y)) is h

when-fills : (c : Bool) (x r : Refusal) → Each IsFilled (refusal_leaf x) → when c x ≡ Some r → Each IsFilled (refusal_leaf r)
when-fills true x r h e = this-refusal x r e h
when-fills false x r h e = cc

first-fills : (a b : Option Refusal) (r : Refusal) → ((x : Refusal) → a ≡ Some x → Each IsFilled (refusal_leaf x))
    → ((x : Refusal) → b ≡ Some x → Each IsFilled (refusal_leaf x)) → first_some a b ≡ Some r → Each IsFilled (refusal_leaf r)
first-fills None b r f g e = g r e
first-fills (Some x) b r f g e = this-refusal x r e (f x refl)

get-fills : (s : BrickState) (key : ℕ) (name : Name) (stamp : StampOf) (r : Refusal) → InMap IsFilled s.leaves → get_refusal s key name stamp ≡ Some r
    → Each IsFilled (refusal_leaf r)
get-fills s key name stamp r h e =
    first-fills (when (joins_key s.order key) refusal.Lease) _ r (λ x i. when-fills (joins_key s.order key) refusal.Lease x tt i)
    (λ x i. first-fills (stale_against (leaf_for s.leaves key) name stamp) (when (is_locked s key) refusal.Lock) x
    (λ y j. stale-fills (leaf_for s.leaves key) name stamp y (in-for IsFilled s.leaves key h) j)
    (λ y j. when-fills (is_locked s key) refusal.Lock y tt j) i) e

update-fills : (s : BrickState) (key : ℕ) (name : Name) (stamp : StampOf) (r : Refusal) → InMap IsFilled s.leaves → update_refusal s key name stamp ≡ Some r
    → Each IsFilled (refusal_leaf r)
update-fills s key name stamp r h e =
    first-fills (when (joins_key s.order key) refusal.Lease) _ r (λ x i. when-fills (joins_key s.order key) refusal.Lease x tt i)
    (λ x i. first-fills (stale_against (leaf_for s.leaves key) name stamp) _ x
    (λ y j. stale-fills (leaf_for s.leaves key) name stamp y (in-for IsFilled s.leaves key h) j)
    (λ y j. first-fills (when (lease_covers s.locks.leases key) refusal.Lease) (when (is_locked s key) refusal.Lock) y
    (λ z k. when-fills (lease_covers s.locks.leases key) refusal.Lease z tt k) (λ z k. when-fills (is_locked s key) refusal.Lock z tt k) j) i) e

denial-fills : (r : Option Refusal) (full : Bool) (d : Denial) → ((x : Refusal) → r ≡ Some x → Each IsFilled (refusal_leaf x))
    → first_some (as_denial r) (when full denial.Full) ≡ Some d → Each IsFilled (denial_leaf d)
denial-fills None true d f e = let is : denial.Full ≡ d = cc in subst (λ x. Each IsFilled (denial_leaf x)) is tt
denial-fills None false d f e = cc
denial-fills (Some x) full d f e = let is : denial.Refused x ≡ d = cc in subst (λ y. Each IsFilled (denial_leaf y)) is (f x refl)

found-fills : (o : Option (List ℕ)) → Each IsFilled (answer_leaf (calls.answer_of o))
found-fills None = tt
found-fills (Some value) = tt

got-fills : (s : BrickState) (from : NodeNo) (txn : Txn) (key : ℕ) (o : Option Refusal) → ((r : Refusal) → o ≡ Some r → Each IsFilled (refusal_leaf r))
    → AllFill (calls.got s from txn key o).out.letters
got-fills s from txn key None f = (found-fills (get s.pairs key), tt)
got-fills s from txn key (Some r) f = (f r refl, tt)

voted-fills : (s : BrickState) (from : NodeNo) (p : Pending) (o : Option Denial) → ((d : Denial) → o ≡ Some d → Each IsFilled (denial_leaf d))
    → AllFill (calls.voted s from p o).out.letters
voted-fills s from p None f = (tt, tt)
voted-fills s from p (Some d) f = (f d refl, tt)

commit-fills : (s : BrickState) (from : NodeNo) (q : Option Pending) → AllFill (calls.commit_found s from q).out.letters
commit-fills s from None = tt
commit-fills s from (Some p) = (tt, tt)

pub turn-fills : (s : BrickState) (from : NodeNo) (l : Letter) → InMap IsFilled s.leaves → AllFill (live_brick_turn s from l).out.letters
turn-fills s from (letter.Get txn caller call key name stamp) h =
    got-fills s from txn key (get_refusal s key name stamp) (λ r e. get-fills s key name stamp r h e)
turn-fills s from (letter.Prepare txn caller call below name stamp list op) h =
    let u = calls.trim s txn.library below in
    voted-fills u from _ (update_denial u op name stamp)
    (λ d e. denial-fills (update_refusal u (the_key op) name stamp) (has_no_room u op) d (λ r i. update-fills u (the_key op) name stamp r h i) e)
turn-fills s from (letter.Commit txn) h = commit-fills (calls.dropped s txn) from (first_of s.locks.pending txn)
turn-fills s from (letter.Abort txn) h = (tt, tt)
turn-fills s from (letter.MapAsk txn caller call key) h = (in-for IsFilled s.leaves key h, tt)
turn-fills s from (letter.Got txn w) h = tt
turn-fills s from (letter.Vote txn vote) h = tt
turn-fills s from (letter.Applied txn was) h = tt
turn-fills s from (letter.Aborted txn) h = tt
turn-fills s from (letter.MapTell txn leaf) h = tt
turn-fills s from (letter.Help txn list) h = (help-quiet s from txn list).fills
turn-fills s from (letter.Query txn list) h = (query-quiet s from txn list).fills
turn-fills s from (letter.Status txn st) h = (resolvings-quiet (record s { resolving = [] }) from (news.Told txn st) s.resolving).fills
turn-fills s from (letter.Outcome txn c) h = (outcome-quiet s txn c).fills
turn-fills s from letter.Notice h = (notice-quiet s from).fills
turn-fills s from other h = order-fills (live_brick_turn s from other).out.letters (letter-rests s from from other tt).letters

pub order-turn-fills : (s : BrickState) (o : Order) → AllFill (brick_input s o).out.letters
order-turn-fills s o = order-fills (brick_input s o).out.letters (order-rests {L = Any} s o).letters
