use Rattle.std.proofs.Common.{ℕ, ◌++◌, ◌==◌, ◌&&◌, ◌||◌, Bool, true, false, not, List, [], ◌∷◌, Option, Some, None}
use Rattle.std.specs.List.{AllByRecursion}
use Rattle.std.specs.Prelude.{if◌then◌else◌}
use Rattle.dds_base.specs.BrickList.{has}
use Rattle.dds_base.specs.NodeSet.{has_node}
use Rattle.dds_base.specs.Number.{Txn}
use Rattle.dds_base.specs.declared.number.NodeNo.{NodeNo}
use Rattle.dds_base.specs.declared.pending.Pending.{Pending}
use Rattle.dds_brick_rows.specs.Calls as calls
use Rattle.dds_brick_rows.specs.Resolution as rows
use Rattle.dds_brick_rows.specs.declared.resolution.News.{News}
use Rattle.dds_brick_rows.specs.declared.resolution.News.TheVariants as news
use Rattle.dds_core.proofs.LetterTells.{Any, Each, order_part}
use Rattle.dds_core.proofs.Lists.{all-append}
use Rattle.dds_core.proofs.Rests.{AllOrders, Orders}
use Rattle.dds_core.specs.Notice as notices
use Rattle.dds_letters.specs.declared.letter.Letter.{Letter}
use Rattle.dds_letters.specs.declared.letter.Letter.TheVariants as letter
use Rattle.dds_locks.specs.Pending.{first_of}
use Rattle.dds_states.specs.Turn.{BrickTurn, still, sends, and_then, is_none_left, to_each, unknown, unknown_others}
use Rattle.dds_states.specs.declared.brick_state.BrickState.{BrickState}
use Rattle.dds_states.specs.declared.brick_state.Deferred.{Deferred}
use Rattle.dds_states.specs.declared.brick_state.Question.{Question}
use Rattle.dds_states.specs.declared.brick_state.Question.TheVariants.{Help, Query}
use Rattle.dds_states.specs.declared.brick_state.Resolving.{Resolving}

-- What a brick does for orders and to resolve attempts sends neither what a get read nor that an update was applied.

abbrev pub IsSilent : Letter → Type 0
IsSilent (letter.Got txn a) = ⊥
IsSilent (letter.Applied txn was) = ⊥
IsSilent other = Unit {0}

abbrev pub AllSilent : List (NodeNo × Letter) → Type 0
AllSilent ls = AllByRecursion (λ (p : NodeNo × Letter). IsSilent p.1) ls

pub record Silent (r : BrickTurn) : Type 0 where
  pub letters : AllSilent r.out.letters

silent-then : (r : BrickTurn) (row : BrickState → BrickTurn) → Silent r → ((u : BrickState) → Silent (row u)) → Silent (and_then r row)
silent-then r row a b =
    record { letters = all-append _ r.out.letters (row r.state).out.letters a.letters (b r.state).letters }

silent-if : (c : Bool) (r q : BrickTurn) → Silent r → Silent q → Silent (if c then r else q)
silent-if true r q h g = h
silent-if false r q h g = g

silent-still : (u : BrickState) → Silent (still u)
silent-still u = record { letters = tt }

silent-one : (u : BrickState) (to : NodeNo) (l : Letter) → IsSilent l → Silent (sends u ((to, l) ∷ []))
silent-one u to l h = record { letters = (h, tt) }

pub each-silent : (l : Letter) (ns : List NodeNo) → IsSilent l → AllSilent (to_each ns l)
each-silent l [] h = tt
each-silent l (n ∷ ns) h = (h, each-silent l ns h)

silent-each : (u : BrickState) (l : Letter) (ns : List NodeNo) → IsSilent l → Silent (sends u (to_each ns l))
silent-each u l ns h = record { letters = each-silent l ns h }

-- orders
order-silent : (to : NodeNo) (l : Letter) → Orders Any to l → IsSilent l
order-silent to (letter.Got txn a) h = absurd h
order-silent to (letter.Applied txn was) h = absurd h
order-silent to other h = tt

pub orders-silent : (ls : List (NodeNo × Letter)) → AllOrders Any ls → AllSilent ls
orders-silent [] h = tt
orders-silent (l ∷ ls) h = (order-silent l.0 l.1 h.0, orders-silent ls h.1)

-- resolving
settled-silent : (s : BrickState) (c : Bool) (q : Option Pending) → Silent (rows.settled s c q)
settled-silent s c None = record { letters = tt }
settled-silent s true (Some p) = record { letters = tt }
settled-silent s false (Some p) = record { letters = tt }

pub outcome-silent : (s : BrickState) (x : Txn) (c : Bool) → Silent (rows.outcome_row s x c)
outcome-silent s x c = settled-silent (calls.dropped s x) c (first_of s.locks.pending x)

resolves-silent : (s : BrickState) (r : Resolving) → Silent (rows.resolves_on s r)
resolves-silent s r =
    silent-if (is_none_left r.waiting) (rows.decides s r) (still (record s { resolving = s.resolving ++ r ∷ [] }))
    (silent-then (rows.outcome_row s r.txn (rows.verdict r))
    (λ t. sends t (to_each (unknown_others r.list t.number t.known) (letter.Outcome r.txn (rows.verdict r))))
    (outcome-silent s r.txn (rows.verdict r))
    (λ u. silent-each u (letter.Outcome r.txn (rows.verdict r)) (unknown_others r.list u.number u.known) tt)) (silent-still _)

resolve-silent : (s : BrickState) (x : Txn) (list : List ℕ) → Silent (rows.resolve s x list)
resolve-silent s x list =
    silent-then (sends s (to_each (unknown_others list s.number s.known) (letter.Query x list))) (λ t. rows.resolves_on t (rows.started s x list))
    (silent-each s (letter.Query x list) (unknown_others list s.number s.known) tt) (λ u. resolves-silent u (rows.started s x list))

pub help-silent : (s : BrickState) (from : NodeNo) (x : Txn) (list : List ℕ) → Silent (rows.help_row s from x list)
help-silent s from x list =
    silent-if (rows.is_ready s.known x list s.number) (if rows.is_resolved s x then still s else rows.resolve s x list) (rows.defers s from Help x list)
    (silent-if (rows.is_resolved s x) (still s) (rows.resolve s x list) (silent-still s) (resolve-silent s x list)) (silent-still _)

pub query-silent : (s : BrickState) (from : NodeNo) (x : Txn) (list : List ℕ) → Silent (rows.query_row s from x list)
query-silent s from x list =
    silent-if (rows.is_ready s.known x list from) _ (rows.defers s from Query x list) (silent-one s from _ tt) (silent-still _)

resolving-silent : (s : BrickState) (y : NodeNo) (n : News) (r : Resolving) → Silent (rows.resolving_goes s y n r)
resolving-silent s y n r =
    silent-if (rows.is_awaited r y n) (rows.resolves_on s (rows.with_news r y n)) (still (record s { resolving = s.resolving ++ r ∷ [] }))
    (resolves-silent s (rows.with_news r y n)) (silent-still _)

resolvings-silent : (s : BrickState) (y : NodeNo) (n : News) (rs : List Resolving) → Silent (rows.resolvings_go s y n rs)
resolvings-silent s y n [] = silent-still s
resolvings-silent s y n (r ∷ rs) =
    silent-then (rows.resolving_goes s y n r) (λ t. rows.resolvings_go t y n rs) (resolving-silent s y n r) (λ u. resolvings-silent u y n rs)

pub hear-silent : (s : BrickState) (y : NodeNo) (n : News) → Silent (rows.all_hear s y n)
hear-silent s y n = resolvings-silent (record s { resolving = [] }) y n s.resolving

-- a notice
asked-silent : (s : BrickState) (d : Deferred) (q : Question) → Silent (notices.asked_again s d q)
asked-silent s d Help = help-silent s d.from d.txn d.list
asked-silent s d Query = query-silent s d.from d.txn d.list

all-asked-silent : (s : BrickState) (ds : List Deferred) → Silent (notices.asked_all_again s ds)
all-asked-silent s [] = silent-still s
all-asked-silent s (d ∷ ds) =
    silent-then (notices.asked_again s d d.question) (λ t. notices.asked_all_again t ds) (asked-silent s d d.question) (λ u. all-asked-silent u ds)

helped-silent : (s : BrickState) (y : NodeNo) (x : Txn) (list fs : List ℕ) → Silent (notices.helped_by s y x list fs)
helped-silent s y x list [] = silent-still s
helped-silent s y x list (f ∷ fs) =
    let l = letter.Help x list in
    let c = y == x.library || has (rows.before list f) y in
    silent-if (f == s.number) (rows.resolve s x list) (if c then sends s ((f, l) ∷ []) else still s) (resolve-silent s x list)
    (silent-if c (sends s ((f, l) ∷ [])) (still s) (silent-one s f l tt) (silent-still s))

pendings-silent : (s : BrickState) (y : NodeNo) (ps : List (Txn × List ℕ)) → Silent (notices.pendings_go s y ps)
pendings-silent s y [] = silent-still s
pendings-silent s y (p ∷ ps) =
    silent-then (notices.pending_goes s y p.0 p.1) (λ t. notices.pendings_go t y ps)
    (silent-if (has_node s.known p.0.library && not (rows.is_resolved s p.0)) (notices.helped_by s y p.0 p.1 (unknown p.1 s.known)) (still s)
    (helped-silent s y p.0 p.1 (unknown p.1 s.known)) (silent-still s)) (λ u. pendings-silent u y ps)

pub notice-silent : (s : BrickState) (y : NodeNo) → Silent (notices.notice_row s y)
notice-silent s y =
    let l = notices.learns s y in
    let first = notices.order_part l y in
    let second = and_then first (λ t. notices.resolving_part t y) in
    let third = and_then second notices.deferred_part in
    let order : Silent first = record { letters = orders-silent first.out.letters (order_part {L = Any} {M = Each} l y).letters } in
    silent-then third (λ t. notices.pending_part t y)
    (silent-then second notices.deferred_part (silent-then first (λ t. notices.resolving_part t y) order (λ u. hear-silent u y news.Stopped))
    (λ u. all-asked-silent (record u { deferred = [] }) u.deferred)) (λ u. pendings-silent u y (notices.numbered u.locks.pending))
