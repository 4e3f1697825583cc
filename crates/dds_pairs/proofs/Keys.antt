use Rattle.std.proofs.Common.{◌≡◌, ℕ, ◌==◌, ◌&&◌, ◌||◌, ◌++◌, Bool, true, false, not, Option, Some, None, List, [], ◌∷◌, refl, sym, ap, ◌∙◌, subst}
use Rattle.std.specs.FinMap.{get}
use Rattle.std.specs.List.{AllByRecursion}
use Rattle.std.specs.Prelude.{is_some, if◌then◌else◌}
use Rattle.dds_base.specs.BrickList.{has}
use Rattle.dds_base.specs.NodeSet.{has_node}
use Rattle.dds_base.specs.Number.{Txn}
use Rattle.dds_base.specs.Op.{the_key}
use Rattle.dds_base.specs.declared.number.NodeNo.{NodeNo}
use Rattle.dds_base.specs.declared.op.Op.{Op}
use Rattle.dds_base.specs.declared.pending.Pending.{Pending}
use Rattle.dds_brick_rows.specs.Calls as calls
use Rattle.dds_brick_rows.specs.Resolution as rows
use Rattle.dds_brick_rows.specs.declared.resolution.News.{News}
use Rattle.dds_brick_rows.specs.declared.resolution.News.TheVariants as news
use Rattle.dds_core.specs.Notice as notices
use Rattle.dds_history.proofs.Bindings.{get-after}
use Rattle.dds_history.specs.Map.{Map, after, bound_after}
use Rattle.dds_law_own.proofs.Lists.{all-first}
use Rattle.dds_letters.specs.declared.letter.Letter.TheVariants as letter
use Rattle.dds_locks.specs.Pending.{first_of, is_numbered}
use Rattle.dds_states.specs.Turn.{BrickTurn, still, sends, is_none_left, unknown}
use Rattle.dds_states.specs.declared.brick_state.BrickState.{BrickState}
use Rattle.dds_states.specs.declared.brick_state.Deferred.{Deferred}
use Rattle.dds_states.specs.declared.brick_state.Question.{Question}
use Rattle.dds_states.specs.declared.brick_state.Question.TheVariants.{Help, Query}
use Rattle.dds_states.specs.declared.brick_state.Resolving.{Resolving}
use Rattle.dds_pairs.proofs.Bindings.{same-key}

-- What is so of each key that a brick has bound, and of each key that is pending, stays so where transactions are applied.

abbrev pub KeysIn : (ℕ → Type 0) → Map → Type 0
KeysIn P m = (key : ℕ) → is_some (get m key) ≡ true → P key

abbrev pub PendingIn : (ℕ → Type 0) → List Pending → Type 0
PendingIn P ps = AllByRecursion (λ (p : Pending). P (the_key p.op)) ps

pub record Keyed (P : ℕ → Type 0) (s : BrickState) : Type 0 where
  pub pairs : KeysIn P s.pairs
  pub pending : PendingIn P s.locks.pending

module _ (P : ℕ → Type 0) where
  -- an update is applied
  applied-if : (m : Map) (o : Op) (key : ℕ) (c : Bool) → (the_key o == key) ≡ c → KeysIn P m → P (the_key o)
      → is_some (if c then bound_after (get m key) o else get m key) ≡ true → P key
  applied-if m o key true e h k b = subst P (same-key (the_key o) key e) k
  applied-if m o key false e h k b = h key b

  after-keys : (m : Map) (o : Op) → KeysIn P m → P (the_key o) → KeysIn P (after m o)
  after-keys m o h k key b =
      applied-if m o key (the_key o == key) refl h k (sym (ap is_some (get-after m o key)) ∙ b)

  first-if : (x p : Pending) (rest : Option Pending) (c : Bool) → (if c then Some x else rest) ≡ Some p → P (the_key x.op)
      → (rest ≡ Some p → P (the_key p.op)) → P (the_key p.op)
  first-if x p rest true e h f = let is : x ≡ p = cc in subst (λ (q : Pending). P (the_key q.op)) is h
  first-if x p rest false e h f = f e

  first-in : (ps : List Pending) (txn : Txn) (p : Pending) → first_of ps txn ≡ Some p → PendingIn P ps → P (the_key p.op)
  first-in [] txn p e h = cc
  first-in (x ∷ ps) txn p e h = first-if x p (first_of ps txn) (is_numbered txn x) e h.0 (λ k. first-in ps txn p k h.1)

  dropped : (s : BrickState) (txn : Txn) → Keyed P s → Keyed P (calls.dropped s txn)
  dropped s txn h = record { pairs = h.pairs; pending = all-first (λ (p : Pending). P (the_key p.op)) (is_numbered txn) s.locks.pending h.pending }

  settled : (s : BrickState) (txn : Txn) (c : Bool) (q : Option Pending) → first_of s.locks.pending txn ≡ q → Keyed P s
      → Keyed P (rows.settled (calls.dropped s txn) c q).state
  settled s txn c None e h = dropped s txn h
  settled s txn true (Some p) e h =
      let d = dropped s txn h in record { pairs = after-keys s.pairs p.op h.pairs (first-in s.locks.pending txn p e h.pending); pending = d.pending }
  settled s txn false (Some p) e h = let d = dropped s txn h in record { pairs = d.pairs; pending = d.pending }

  keyed-if : (c : Bool) (t u : BrickTurn) → Keyed P t.state → Keyed P u.state → Keyed P (if c then t else u).state
  keyed-if true t u h k = h
  keyed-if false t u h k = k

  -- the same pairs and pending transactions
  alike : (s u : BrickState) → u.pairs ≡ s.pairs → u.locks.pending ≡ s.locks.pending → Keyed P s → Keyed P u
  alike s u e f h = record { pairs = subst (KeysIn P) (sym e) h.pairs; pending = subst (PendingIn P) (sym f) h.pending }

  -- resolving
  pub outcome_row : (s : BrickState) (txn : Txn) (commit : Bool) → Keyed P s → Keyed P (rows.outcome_row s txn commit).state
  outcome_row s txn commit h = settled s txn commit (first_of s.locks.pending txn) refl h

  resolves_on : (s : BrickState) (r : Resolving) → Keyed P s → Keyed P (rows.resolves_on s r).state
  resolves_on s r h =
      let u = still (record s { resolving = s.resolving ++ r ∷ [] }) in
      keyed-if (is_none_left r.waiting) (rows.decides s r) u (outcome_row s r.txn (rows.verdict r) h) (alike s u.state refl refl h)

  resolve : (s : BrickState) (txn : Txn) (list : List ℕ) → Keyed P s → Keyed P (rows.resolve s txn list).state
  resolve s txn list h = resolves_on s (rows.started s txn list) h

  defers : (s : BrickState) (from : NodeNo) (q : Question) (txn : Txn) (list : List ℕ) → Keyed P s → Keyed P (rows.defers s from q txn list).state
  defers s from q txn list h = alike s _ refl refl h

  pub help_row : (s : BrickState) (from : NodeNo) (txn : Txn) (list : List ℕ) → Keyed P s → Keyed P (rows.help_row s from txn list).state
  help_row s from txn list h =
      keyed-if (rows.is_ready s.known txn list s.number) (if rows.is_resolved s txn then still s else rows.resolve s txn list)
      (rows.defers s from Help txn list) (keyed-if (rows.is_resolved s txn) (still s) (rows.resolve s txn list) h (resolve s txn list h))
      (defers s from Help txn list h)

  pub query_row : (s : BrickState) (from : NodeNo) (txn : Txn) (list : List ℕ) → Keyed P s → Keyed P (rows.query_row s from txn list).state
  query_row s from txn list h = keyed-if (rows.is_ready s.known txn list from) _ (rows.defers s from Query txn list) h (defers s from Query txn list h)

  resolvings_go : (s : BrickState) (from : NodeNo) (n : News) (rs : List Resolving) → Keyed P s → Keyed P (rows.resolvings_go s from n rs).state
  resolvings_go s from n [] h = h
  resolvings_go s from n (r ∷ rs) h =
      let u = still (record s { resolving = s.resolving ++ r ∷ [] }) in
      resolvings_go (rows.resolving_goes s from n r).state from n rs
      (keyed-if (rows.is_awaited r from n) (rows.resolves_on s (rows.with_news r from n)) u (resolves_on s (rows.with_news r from n) h)
      (alike s u.state refl refl h))

  pub all_hear : (s : BrickState) (from : NodeNo) (n : News) → Keyed P s → Keyed P (rows.all_hear s from n).state
  all_hear s from n h = resolvings_go (record s { resolving = [] }) from n s.resolving (alike s (record s { resolving = [] }) refl refl h)

  -- a notice, behind what it does for orders
  asked_again : (s : BrickState) (d : Deferred) (q : Question) → Keyed P s → Keyed P (notices.asked_again s d q).state
  asked_again s d Help h = help_row s d.from d.txn d.list h
  asked_again s d Query h = query_row s d.from d.txn d.list h

  asked_all_again : (s : BrickState) (ds : List Deferred) → Keyed P s → Keyed P (notices.asked_all_again s ds).state
  asked_all_again s [] h = h
  asked_all_again s (d ∷ ds) h = asked_all_again (notices.asked_again s d d.question).state ds (asked_again s d d.question h)

  helped_by : (s : BrickState) (y : NodeNo) (txn : Txn) (list fs : List ℕ) → Keyed P s → Keyed P (notices.helped_by s y txn list fs).state
  helped_by s y txn list [] h = h
  helped_by s y txn list (f ∷ fs) h =
      let c = y == txn.library || has (rows.before list f) y in
      let asks = sends s ((f, letter.Help txn list) ∷ []) in
      keyed-if (f == s.number) (rows.resolve s txn list) (if c then asks else still s) (resolve s txn list h) (keyed-if c asks (still s) h h)

  pendings_go : (s : BrickState) (y : NodeNo) (ps : List (Txn × List ℕ)) → Keyed P s → Keyed P (notices.pendings_go s y ps).state
  pendings_go s y [] h = h
  pendings_go s y (p ∷ ps) h =
      pendings_go (notices.pending_goes s y p.0 p.1).state y ps
      (keyed-if (has_node s.known p.0.library && not (rows.is_resolved s p.0)) (notices.helped_by s y p.0 p.1 (unknown p.1 s.known)) (still s)
      (helped_by s y p.0 p.1 (unknown p.1 s.known) h) h)

  pub behind : (s : BrickState) (y : NodeNo) → Keyed P s
      → Keyed P (notices.pending_part (notices.deferred_part (notices.resolving_part s y).state).state y).state
  behind s y h =
      let u = (rows.all_hear s y news.Stopped).state in
      let v = (notices.deferred_part u).state in
      pendings_go v y (notices.numbered v.locks.pending)
      (asked_all_again (record u { deferred = [] }) u.deferred (alike u (record u { deferred = [] }) refl refl (all_hear s y news.Stopped h)))

  -- Commit
  found : (s : BrickState) (from : NodeNo) (txn : Txn) (q : Option Pending) → first_of s.locks.pending txn ≡ q → Keyed P s
      → Keyed P (calls.commit_found (calls.dropped s txn) from q).state
  found s from txn None e h = dropped s txn h
  found s from txn (Some p) e h = let k = settled s txn true (Some p) e h in record { pairs = k.pairs; pending = k.pending }

  pub commit_row : (s : BrickState) (from : NodeNo) (txn : Txn) → Keyed P s → Keyed P (calls.commit_row s from txn).state
  commit_row s from txn h = found s from txn (first_of s.locks.pending txn) refl h
