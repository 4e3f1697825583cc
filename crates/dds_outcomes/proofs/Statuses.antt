use Rattle.std.proofs.Common.{◌≡◌, ℕ, ◌==◌, ◌&&◌, ◌||◌, ◌++◌, Bool, true, false, not, List, [], ◌∷◌, Option, Some, None, refl, sym, ap, ◌∙◌, subst}
use Rattle.std.specs.List.{AllByRecursion}
use Rattle.std.specs.Prelude.{if◌then◌else◌}
use Rattle.dds_base.specs.BrickList.{has}
use Rattle.dds_base.specs.NodeSet.{has_node}
use Rattle.dds_base.specs.Number.{Txn}
use Rattle.dds_base.specs.declared.node_set.NodeSet.{NodeSet}
use Rattle.dds_base.specs.declared.number.NodeNo.{NodeNo}
use Rattle.dds_base.specs.declared.pending.Pending.{Pending}
use Rattle.dds_brick_rows.specs.Calls as calls
use Rattle.dds_brick_rows.specs.Resolution as rows
use Rattle.dds_brick_rows.specs.declared.resolution.News.{News}
use Rattle.dds_brick_rows.specs.declared.resolution.News.TheVariants as news
use Rattle.dds_core.proofs.LetterTells.{Any, Each, heard, letter-rests, order_part}
use Rattle.dds_core.proofs.Lists.{all-append}
use Rattle.dds_core.proofs.Rests.{AllOrders, Orders, Whole}
use Rattle.dds_core.specs.Brick.{live_brick_turn}
use Rattle.dds_core.specs.Notice as notices
use Rattle.dds_letters.specs.declared.letter.Letter.{Letter}
use Rattle.dds_letters.specs.declared.letter.Letter.TheVariants as letter
use Rattle.dds_letters.specs.declared.refusal.Denial.{Denial}
use Rattle.dds_letters.specs.declared.refusal.Refusal.{Refusal}
use Rattle.dds_locks.specs.Pending.{first_of}
use Rattle.dds_locks.specs.Status.{status}
use Rattle.dds_net.specs.Net.{Sizes, is_in}
use Rattle.dds_states.specs.Turn.{BrickTurn, still, sends, and_then, to_each, is_none_left, unknown, unknown_others}
use Rattle.dds_states.specs.declared.brick_state.BrickState.{BrickState}
use Rattle.dds_states.specs.declared.brick_state.Deferred.{Deferred}
use Rattle.dds_states.specs.declared.brick_state.Question.{Question}
use Rattle.dds_states.specs.declared.brick_state.Question.TheVariants.{Help, Query}
use Rattle.dds_states.specs.declared.brick_state.Resolving.{Resolving}

-- A brick tells a status only to a member for whom it is ready: in each turn, whatever the attempts' members are, where those of the
-- letter taken and of the deferred ones are these.

abbrev pub StatusOk : Sizes → NodeSet → (Txn → List ℕ) → NodeNo → Letter → Type 0
StatusOk z K L to (letter.Status txn st) = (is_in z to ≡ true) × (rows.is_ready K txn (L txn) to ≡ true)
StatusOk z K L to other = Unit {0}

abbrev pub AllStatus : Sizes → NodeSet → (Txn → List ℕ) → List (NodeNo × Letter) → Type 0
AllStatus z K L ls = AllByRecursion (λ (p : NodeNo × Letter). StatusOk z K L p.0 p.1) ls

-- a deferred letter is of a node of the cluster, and has the attempt's members
abbrev pub IsListed : Sizes → (Txn → List ℕ) → Deferred → Type 0
IsListed z L d = (is_in z d.from ≡ true) × (L d.txn ≡ d.list)

pub record Asked (z : Sizes) (K : NodeSet) (L : Txn → List ℕ) (s : BrickState) : Type 0 where
  pub known : s.known ≡ K
  pub deferred : AllByRecursion (IsListed z L) s.deferred

pub record Telling (z : Sizes) (K : NodeSet) (L : Txn → List ℕ) (r : BrickTurn) : Type 0 where
  pub state : Asked z K L r.state
  pub letters : AllStatus z K L r.out.letters

-- letters of orders
order-ok : (z : Sizes) (K : NodeSet) (L : Txn → List ℕ) (to : NodeNo) (l : Letter) → Orders Any to l → StatusOk z K L to l
order-ok z K L to (letter.Status txn st) h = absurd h
order-ok z K L to other h = tt

pub orders-ok : (z : Sizes) (K : NodeSet) (L : Txn → List ℕ) (ls : List (NodeNo × Letter)) → AllOrders Any ls → AllStatus z K L ls
orders-ok z K L [] h = tt
orders-ok z K L (l ∷ ls) h = (order-ok z K L l.0 l.1 h.0, orders-ok z K L ls h.1)

each-ok : (z : Sizes) (K : NodeSet) (L : Txn → List ℕ) (ns : List NodeNo) (l : Letter) → ((n : NodeNo) → StatusOk z K L n l) → AllStatus z K L (to_each ns l)
each-ok z K L [] l h = tt
each-ok z K L (n ∷ ns) l h = (h n, each-ok z K L ns l h)

module _ {z : Sizes} {K : NodeSet} {L : Txn → List ℕ} where
  as-asked : (s u : BrickState) → u.known ≡ s.known → u.deferred ≡ s.deferred → Asked z K L s → Asked z K L u
  as-asked s u k d h = record { known = k ∙ h.known; deferred = subst (AllByRecursion (IsListed z L)) (sym d) h.deferred }

  still-ok : (u : BrickState) → Asked z K L u → Telling z K L (still u)
  still-ok u h = record { state = h; letters = tt }

  sends-ok : (u : BrickState) (ls : List (NodeNo × Letter)) → Asked z K L u → AllStatus z K L ls → Telling z K L (sends u ls)
  sends-ok u ls h k = record { state = h; letters = k }

  then-ok : (r : BrickTurn) (row : BrickState → BrickTurn) → Telling z K L r → ((u : BrickState) → Asked z K L u → Telling z K L (row u))
      → Telling z K L (and_then r row)
  then-ok r row h f =
      let g = f r.state h.state in
      record {
        state = g.state;
        letters = all-append (λ (p : NodeNo × Letter). StatusOk z K L p.0 p.1) r.out.letters (row r.state).out.letters h.letters g.letters;
      }

  if-ok : (c : Bool) (r q : BrickTurn) → (c ≡ true → Telling z K L r) → (c ≡ false → Telling z K L q) → Telling z K L (if c then r else q)
  if-ok true r q h g = h refl
  if-ok false r q h g = g refl

  -- resolving
  settled-ok : (s : BrickState) (x : Txn) (c : Bool) (q : Option Pending) → Asked z K L s → Telling z K L (rows.settled (calls.dropped s x) c q)
  settled-ok s x c None h = record { state = as-asked s (calls.dropped s x) refl refl h; letters = tt }
  settled-ok s x true (Some p) h = record { state = as-asked s (calls.applied (calls.dropped s x) p).state refl refl h; letters = tt }
  settled-ok s x false (Some p) h = record { state = as-asked s (calls.aborted (calls.dropped s x) (Some p)) refl refl h; letters = tt }

  outcome-ok : (s : BrickState) (x : Txn) (c : Bool) → Asked z K L s → Telling z K L (rows.outcome_row s x c)
  outcome-ok s x c h = settled-ok s x c (first_of s.locks.pending x) h

  decides-ok : (s : BrickState) (r : Resolving) → Asked z K L s → Telling z K L (rows.decides s r)
  decides-ok s r h =
      then-ok _ _ (outcome-ok s r.txn (rows.verdict r) h)
      (λ u k. sends-ok u _ k (each-ok z K L (unknown_others r.list u.number u.known) (letter.Outcome r.txn (rows.verdict r)) (λ n. tt)))

  resolves-ok : (s : BrickState) (r : Resolving) → Asked z K L s → Telling z K L (rows.resolves_on s r)
  resolves-ok s r h =
      if-ok (is_none_left r.waiting) _ _ (λ e. decides-ok s r h)
      (λ e. still-ok _ (as-asked s (record s { resolving = s.resolving ++ r ∷ [] }) refl refl h))

  resolve-ok : (s : BrickState) (x : Txn) (list : List ℕ) → Asked z K L s → Telling z K L (rows.resolve s x list)
  resolve-ok s x list h =
      then-ok _ _ (sends-ok s _ h (each-ok z K L (unknown_others list s.number s.known) (letter.Query x list) (λ n. tt)))
      (λ u k. resolves-ok u (rows.started s x list) k)

  defers-ok : (s : BrickState) (from : NodeNo) (q : Question) (x : Txn) (list : List ℕ) → is_in z from ≡ true → L x ≡ list → Asked z K L s
      → Telling z K L (rows.defers s from q x list)
  defers-ok s from q x list i e h =
      record {
        state = record { known = h.known; deferred = all-append (IsListed z L) s.deferred _ h.deferred ((i, e), tt) };
        letters = tt;
      }

  help-ok : (s : BrickState) (from : NodeNo) (x : Txn) (list : List ℕ) → is_in z from ≡ true → L x ≡ list → Asked z K L s
      → Telling z K L (rows.help_row s from x list)
  help-ok s from x list i e h =
      if-ok (rows.is_ready s.known x list s.number) _ _
      (λ a. if-ok (rows.is_resolved s x) _ _ (λ c. still-ok s h) (λ c. resolve-ok s x list h)) (λ a. defers-ok s from Help x list i e h)

  query-ok : (s : BrickState) (from : NodeNo) (x : Txn) (list : List ℕ) → is_in z from ≡ true → L x ≡ list → Asked z K L s
      → Telling z K L (rows.query_row s from x list)
  query-ok s from x list i e h =
      if-ok (rows.is_ready s.known x list from) _ _
      (λ a. sends-ok s ((from, letter.Status x (status s.locks x)) ∷ []) h
      ((i, ap (λ k. rows.is_ready k x (L x) from) (sym h.known) ∙ ap (λ ys. rows.is_ready s.known x ys from) e ∙ a), tt))
      (λ a. defers-ok s from Query x list i e h)

  resolving-ok : (s : BrickState) (y : NodeNo) (n : News) (r : Resolving) → Asked z K L s → Telling z K L (rows.resolving_goes s y n r)
  resolving-ok s y n r h =
      if-ok (rows.is_awaited r y n) _ _ (λ e. resolves-ok s (rows.with_news r y n) h)
      (λ e. still-ok _ (as-asked s (record s { resolving = s.resolving ++ r ∷ [] }) refl refl h))

  resolvings-ok : (s : BrickState) (y : NodeNo) (n : News) (rs : List Resolving) → Asked z K L s → Telling z K L (rows.resolvings_go s y n rs)
  resolvings-ok s y n [] h = still-ok s h
  resolvings-ok s y n (r ∷ rs) h = then-ok _ (λ u. rows.resolvings_go u y n rs) (resolving-ok s y n r h) (λ u k. resolvings-ok u y n rs k)

  hear-ok : (s : BrickState) (y : NodeNo) (n : News) → Asked z K L s → Telling z K L (rows.all_hear s y n)
  hear-ok s y n h = resolvings-ok (record s { resolving = [] }) y n s.resolving (as-asked s (record s { resolving = [] }) refl refl h)

  -- a notice
  asked-ok : (s : BrickState) (d : Deferred) (q : Question) → IsListed z L d → Asked z K L s → Telling z K L (notices.asked_again s d q)
  asked-ok s d Help k h = help-ok s d.from d.txn d.list k.0 k.1 h
  asked-ok s d Query k h = query-ok s d.from d.txn d.list k.0 k.1 h

  all-asked-ok : (s : BrickState) (ds : List Deferred) → AllByRecursion (IsListed z L) ds → Asked z K L s → Telling z K L (notices.asked_all_again s ds)
  all-asked-ok s [] k h = still-ok s h
  all-asked-ok s (d ∷ ds) k h = then-ok _ (λ u. notices.asked_all_again u ds) (asked-ok s d d.question k.0 h) (λ u g. all-asked-ok u ds k.1 g)

  deferred-ok : (s : BrickState) → Asked z K L s → Telling z K L (notices.deferred_part s)
  deferred-ok s h = all-asked-ok (record s { deferred = [] }) s.deferred h.deferred (record { known = h.known; deferred = tt })

  helped-ok : (s : BrickState) (y : NodeNo) (x : Txn) (list fs : List ℕ) → Asked z K L s → Telling z K L (notices.helped_by s y x list fs)
  helped-ok s y x list [] h = still-ok s h
  helped-ok s y x list (f ∷ fs) h =
      if-ok (f == s.number) _ _ (λ e. resolve-ok s x list h)
      (λ e. if-ok (y == x.library || has (rows.before list f) y) _ _ (λ i. sends-ok s ((f, letter.Help x list) ∷ []) h (tt, tt)) (λ i. still-ok s h))

  pending-ok : (s : BrickState) (y : NodeNo) (x : Txn) (list : List ℕ) → Asked z K L s → Telling z K L (notices.pending_goes s y x list)
  pending-ok s y x list h =
      if-ok (has_node s.known x.library && not (rows.is_resolved s x)) _ _ (λ e. helped-ok s y x list (unknown list s.known) h) (λ e. still-ok s h)

  pendings-ok : (s : BrickState) (y : NodeNo) (ps : List (Txn × List ℕ)) → Asked z K L s → Telling z K L (notices.pendings_go s y ps)
  pendings-ok s y [] h = still-ok s h
  pendings-ok s y (p ∷ ps) h = then-ok _ (λ u. notices.pendings_go u y ps) (pending-ok s y p.0 p.1 h) (λ u k. pendings-ok u y ps k)

  order-part-ok : (s : BrickState) (y : NodeNo) → Asked z K L s → Telling z K L (notices.order_part s y)
  order-part-ok s y h =
      let k = order_part {L = Any} {M = Each} s y in
      record {
        state = as-asked s (notices.order_part s y).state (ap (λ (w : Whole). w.who.known) k.same) (ap (λ (w : Whole). w.deferred) k.same) h;
        letters = orders-ok z K L (notices.order_part s y).out.letters k.letters;
      }

  notice-ok : (s : BrickState) (y : NodeNo) → Asked z K L (notices.learns s y) → Telling z K L (notices.notice_row s y)
  notice-ok s y h =
      let l = notices.learns s y in
      then-ok (and_then (and_then (notices.order_part l y) (λ t. notices.resolving_part t y)) notices.deferred_part) (λ t. notices.pending_part t y)
      (then-ok (and_then (notices.order_part l y) (λ t. notices.resolving_part t y)) notices.deferred_part
      (then-ok (notices.order_part l y) (λ t. notices.resolving_part t y) (order-part-ok l y h) (λ u k. hear-ok u y news.Stopped k))
      (λ u k. deferred-ok u k)) (λ u k. pendings-ok u y (notices.numbered u.locks.pending) k)

  -- calls
  got-ok : (s : BrickState) (from : NodeNo) (x : Txn) (key : ℕ) (o : Option Refusal) → Asked z K L s → Telling z K L (calls.got s from x key o)
  got-ok s from x key None h = record { state = h; letters = (tt, tt) }
  got-ok s from x key (Some why) h = record { state = h; letters = (tt, tt) }

  voted-ok : (s : BrickState) (from : NodeNo) (p : Pending) (d : Option Denial) → Asked z K L s → Telling z K L (calls.voted s from p d)
  voted-ok s from p None h = record { state = record { known = h.known; deferred = h.deferred }; letters = (tt, tt) }
  voted-ok s from p (Some d) h = record { state = h; letters = (tt, tt) }

  commit-ok : (s : BrickState) (from : NodeNo) (x : Txn) (q : Option Pending) → Asked z K L s
      → Telling z K L (calls.commit_found (calls.dropped s x) from q)
  commit-ok s from x None h = record { state = record { known = h.known; deferred = h.deferred }; letters = tt }
  commit-ok s from x (Some p) h = record { state = record { known = h.known; deferred = h.deferred }; letters = (tt, tt) }

  abort-ok : (s : BrickState) (from : NodeNo) (x : Txn) (q : Option Pending) → Asked z K L s
      → Telling z K L (sends (calls.aborted (calls.dropped s x) q) ((from, letter.Aborted x) ∷ []))
  abort-ok s from x None h = record { state = record { known = h.known; deferred = h.deferred }; letters = (tt, tt) }
  abort-ok s from x (Some p) h = record { state = record { known = h.known; deferred = h.deferred }; letters = (tt, tt) }

  rested-ok : (s : BrickState) (from : NodeNo) (l : Letter) → Orders Any from l → Asked z K L s → Telling z K L (live_brick_turn s from l)
  rested-ok s from l i h =
      let k = letter-rests s from from l i in
      record {
        state = as-asked s (live_brick_turn s from l).state (ap (λ (w : Whole). w.who.known) k.same) (ap (λ (w : Whole). w.deferred) k.same) h;
        letters = orders-ok z K L (live_brick_turn s from l).out.letters k.letters;
      }

-- a letter that asks of an attempt has its members
abbrev pub LetterListed : (Txn → List ℕ) → Letter → Type 0
LetterListed L (letter.Help txn list) = L txn ≡ list
LetterListed L (letter.Query txn list) = L txn ≡ list
LetterListed L other = Unit {0}

pub turn-ok : (z : Sizes) (L : Txn → List ℕ) (s : BrickState) (from : NodeNo) (l : Letter) → is_in z from ≡ true → LetterListed L l
    → AllByRecursion (IsListed z L) s.deferred → Telling z (heard s from l).known L (live_brick_turn s from l)
turn-ok z L s from (letter.Get txn caller call key name stamp) i e d = got-ok s from txn key _ (record { known = refl; deferred = d })
turn-ok z L s from (letter.Prepare txn caller call below name stamp list op) i e d =
    voted-ok (calls.trim s txn.library below) from _ _ (record { known = refl; deferred = d })
turn-ok z L s from (letter.Commit txn) i e d = commit-ok s from txn _ (record { known = refl; deferred = d })
turn-ok z L s from (letter.Abort txn) i e d = abort-ok s from txn _ (record { known = refl; deferred = d })
turn-ok z L s from (letter.MapAsk txn caller call key) i e d = record { state = record { known = refl; deferred = d }; letters = (tt, tt) }
turn-ok z L s from (letter.Got txn a) i e d = still-ok s (record { known = refl; deferred = d })
turn-ok z L s from (letter.Vote txn vote) i e d = still-ok s (record { known = refl; deferred = d })
turn-ok z L s from (letter.Applied txn was) i e d = still-ok s (record { known = refl; deferred = d })
turn-ok z L s from (letter.Aborted txn) i e d = still-ok s (record { known = refl; deferred = d })
turn-ok z L s from (letter.MapTell txn leaf) i e d = still-ok s (record { known = refl; deferred = d })
turn-ok z L s from (letter.Help txn list) i e d = help-ok s from txn list i e (record { known = refl; deferred = d })
turn-ok z L s from (letter.Query txn list) i e d = query-ok s from txn list i e (record { known = refl; deferred = d })
turn-ok z L s from (letter.Status txn st) i e d = hear-ok s from (news.Told txn st) (record { known = refl; deferred = d })
turn-ok z L s from (letter.Outcome txn c) i e d = outcome-ok s txn c (record { known = refl; deferred = d })
turn-ok z L s from letter.Notice i e d = notice-ok s from (record { known = refl; deferred = d })
turn-ok z L s from other i e d = rested-ok s from other tt (record { known = refl; deferred = d })
