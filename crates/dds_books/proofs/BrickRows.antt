use Rattle.std.proofs.Common.{◌≡◌, ℕ, Bool, true, false, Option, Some, None, List, [], ◌∷◌, ◌++◌, refl, sym, subst}
use Rattle.std.specs.FinMap.{get}
use Rattle.std.specs.List.{AllByRecursion}
use Rattle.std.specs.Prelude.{if◌then◌else◌}
use Rattle.dds_base.specs.Name.{Name}
use Rattle.dds_base.specs.Number.{Txn, StampOf}
use Rattle.dds_base.specs.declared.leaf.Leaf.{Leaf}
use Rattle.dds_base.specs.declared.number.NodeNo.{NodeNo}
use Rattle.dds_base.specs.declared.pending.Pending.{Pending}
use Rattle.dds_brick_rows.specs.Calls as calls
use Rattle.dds_brick_rows.specs.Resolution as resolution
use Rattle.dds_brick_rows.specs.Take as takes
use Rattle.dds_brick_rows.specs.declared.resolution.News.{News}
use Rattle.dds_brick_rows.specs.declared.resolution.News.TheVariants as news
use Rattle.dds_core.proofs.Lists.{all-append}
use Rattle.dds_letters.specs.declared.letter.Letter.TheVariants as letter
use Rattle.dds_letters.specs.declared.refusal.Denial.{Denial}
use Rattle.dds_letters.specs.declared.refusal.Refusal.{Refusal}
use Rattle.dds_locks.specs.Pending as pending
use Rattle.dds_net.specs.Net.{Sizes}
use Rattle.dds_states.specs.Turn.{to_each, unknown_others}
use Rattle.dds_states.specs.declared.brick_state.BrickState.{BrickState}
use Rattle.dds_states.specs.declared.brick_state.Question.{Question}
use Rattle.dds_states.specs.declared.brick_state.Question.TheVariants.{Help, Query}
use Rattle.dds_states.specs.declared.brick_state.Resolving.{Resolving}
use Rattle.dds_trie.specs.Trie.{LeafMap}
use Rattle.dds_books.proofs.Numbers.{bricks-others, bricks-without, leaf-for-ok}
use Rattle.dds_books.specs.Placed.{AreBricks, BrickOk, DenialOk, IsBrick, IsFrom, IsTo, LeafOk, LeavesOk, OfSome, PendingOk}
use Rattle.dds_books.specs.Placed.{RefusalOk, ResolvingOk}
use Rattle.dds_books.proofs.Fine.{Fine, between, fine-if, fine-sends, fine-still, fine-then, said-each, with-leaves}
use Rattle.dds_books.proofs.Fine.{with-noted, with-pending, with-resolving, with-trim}
use Rattle.dds_books.proofs.Refusals.{all-without-first, find-ok, found-ok, get-refusal-ok, has-txn, replaced-ok, update-denial-ok}

-- The rows of a brick for calls, for leaves that it is told, and to resolve transactions keep the numbers in range.

news-ok : (T : Txn → Type 0) (z : Sizes) (r : Resolving) (from : NodeNo) (what : News) → ResolvingOk T z r → ResolvingOk T z (resolution.with_news r from what)
news-ok T z r from news.Stopped k = (k.0, k.1, bricks-without r.waiting from k.2)
news-ok T z r from (news.Told txn st) k = (k.0, k.1, bricks-without r.waiting from k.2)

module _ {T : Txn → Type 0} {z : Sizes} {at : ℕ} where
  -- an answer goes to the attempt's library
  pub answers-to : (from : NodeNo) (txn : Txn) → IsBrick z at → IsFrom T z from at txn → IsTo T z at from txn
  answers-to from txn here h = record { library = h.library; made = h.made; sender = here }

  got : (s : BrickState) (from : NodeNo) (txn : Txn) (key : ℕ) (r : Option Refusal) → BrickOk T z at s → IsFrom T z from at txn → OfSome (RefusalOk z) r
      → Fine T z at (calls.got s from txn key r)
  got s from txn key None h f k = record { after = h; letters = ((answers-to from txn h.inside f, found-ok z (get s.pairs key)), tt) }
  got s from txn key (Some r) h f k = fine-sends s _ h ((answers-to from txn h.inside f, k), tt)

  pub get_row : (s : BrickState) (from : NodeNo) (txn : Txn) (key : ℕ) (name : Name) (stamp : StampOf) → BrickOk T z at s → IsFrom T z from at txn
      → Fine T z at (calls.get_row s from txn key name stamp)
  get_row s from txn key name stamp h f = got s from txn key _ h f (get-refusal-ok z s key name stamp h.its_leaves)

  voted : (s : BrickState) (from : NodeNo) (p : Pending) (d : Option Denial) → BrickOk T z at s → IsFrom T z from at p.txn → PendingOk T z at p
      → OfSome (DenialOk z) d → Fine T z at (calls.voted s from p d)
  voted s from p None h f k g =
      fine-sends _ _ (with-pending s (s.locks.pending ++ p ∷ []) h (all-append _ s.locks.pending (p ∷ []) h.its_locks.0 (k, tt)))
      ((answers-to from p.txn h.inside f, tt), tt)
  voted s from p (Some d) h f k g = fine-sends s _ h ((answers-to from p.txn h.inside f, g), tt)

  pub prepare_row : (s : BrickState) (from : NodeNo) (p : Pending) (below : ℕ) (name : Name) (stamp : StampOf) → BrickOk T z at s
      → IsFrom T z from at p.txn → PendingOk T z at p → Fine T z at (calls.prepare_row s from p below name stamp)
  prepare_row s from p below name stamp h f k =
      voted (calls.trim s p.txn.library below) from p _ (with-trim s p.txn.library below h) f k (update-denial-ok z s p.op name stamp h.its_leaves)

  -- a pending transaction that is taken out
  dropped-ok : (s : BrickState) (txn : Txn) → BrickOk T z at s → BrickOk T z at (calls.dropped s txn)
  dropped-ok s txn h = with-pending s _ h (all-without-first (PendingOk T z at) _ s.locks.pending h.its_locks.0)

  first-pending : (s : BrickState) (txn : Txn) → BrickOk T z at s → OfSome (PendingOk T z at) (pending.first_of s.locks.pending txn)
  first-pending s txn h = find-ok (PendingOk T z at) _ s.locks.pending h.its_locks.0

  applied : (s : BrickState) (p : Pending) → BrickOk T z at s → Fine T z at (calls.applied s p)
  applied s p h =
      record {
        after = record {
          its_number = h.its_number;
          inside = h.inside;
          its_leaves = h.its_leaves;
          its_locks = (h.its_locks.0, h.its_locks.1);
          its_deferred = h.its_deferred;
          its_resolving = h.its_resolving;
          its_order = h.its_order;
        };
        letters = tt;
      }

  commit_found : (s : BrickState) (from : NodeNo) (txn : Txn) (o : Option Pending) → BrickOk T z at s → IsFrom T z from at txn
      → ((p : Pending) → o ≡ Some p → p.txn ≡ txn) → Fine T z at (calls.commit_found s from o)
  commit_found s from txn None h f k = fine-still s h
  commit_found s from txn (Some p) h f k =
      let mine : IsFrom T z from at p.txn = subst (IsFrom T z from at) (sym (k p refl)) f in
      fine-then (calls.applied s p) _ (applied s p h) (λ u g. fine-sends u ((from, letter.Applied p.txn (calls.flag_at s p)) ∷ []) g
      (answers-to from p.txn g.inside mine, tt))

  pub commit_row : (s : BrickState) (from : NodeNo) (txn : Txn) → BrickOk T z at s → IsFrom T z from at txn → Fine T z at (calls.commit_row s from txn)
  commit_row s from txn h f =
      commit_found (calls.dropped s txn) from txn _ (dropped-ok s txn h) f (λ p e. has-txn s.locks.pending txn p e)

  aborted-ok : (s : BrickState) (o : Option Pending) → BrickOk T z at s → BrickOk T z at (calls.aborted s o)
  aborted-ok s None h = h
  aborted-ok s (Some p) h = with-noted s p.txn false h

  pub abort_row : (s : BrickState) (from : NodeNo) (txn : Txn) → BrickOk T z at s → IsFrom T z from at txn → Fine T z at (calls.abort_row s from txn)
  abort_row s from txn h f = fine-sends _ _ (aborted-ok (calls.dropped s txn) _ (dropped-ok s txn h)) (answers-to from txn h.inside f, tt)

  pub map_ask_row : (s : BrickState) (from : NodeNo) (txn : Txn) (key : ℕ) → BrickOk T z at s → IsFrom T z from at txn
      → Fine T z at (calls.map_ask_row s from txn key)
  map_ask_row s from txn key h f = fine-sends s _ h ((answers-to from txn h.inside f, leaf-for-ok z s.leaves key h.its_leaves), tt)

  -- Leaves that are told

  take-if : (s : BrickState) (c : Bool) (m : LeafMap) → BrickOk T z at s → LeavesOk z m → BrickOk T z at (if c then record s { leaves = m } else s)
  take-if s true m h k = with-leaves s m h k
  take-if s false m h k = h

  take-over-ok : (s : BrickState) (leaf : Leaf) (own : Option Leaf) → BrickOk T z at s → LeafOk z leaf → BrickOk T z at (takes.take_over s leaf own)
  take-over-ok s leaf None h k = h
  take-over-ok s leaf (Some own) h k = take-if s _ _ h (replaced-ok z s.leaves own leaf h.its_leaves k)

  pub take-ok : (s : BrickState) (leaf : Leaf) → BrickOk T z at s → LeafOk z leaf → BrickOk T z at (takes.take s leaf)
  take-ok s leaf h k = take-over-ok s leaf _ h k

  pub push_row : (s : BrickState) (leaf : Leaf) → BrickOk T z at s → LeafOk z leaf → Fine T z at (takes.push_row s leaf)
  push_row s leaf h k = fine-still (takes.take s leaf) (take-ok s leaf h k)

  -- Resolving

  settled : (s : BrickState) (commit : Bool) (o : Option Pending) → BrickOk T z at s → Fine T z at (resolution.settled s commit o)
  settled s commit None h = fine-still s h
  settled s true (Some p) h = applied s p h
  settled s false (Some p) h = fine-still _ (with-noted s p.txn false h)

  pub outcome_row : (s : BrickState) (txn : Txn) (commit : Bool) → BrickOk T z at s → Fine T z at (resolution.outcome_row s txn commit)
  outcome_row s txn commit h = settled (calls.dropped s txn) commit _ (dropped-ok s txn h)

  decides : (s : BrickState) (r : Resolving) → BrickOk T z at s → ResolvingOk T z r → Fine T z at (resolution.decides s r)
  decides s r h k = fine-then _ _ (outcome_row s r.txn (resolution.verdict r) h) (λ u g.
      let told = unknown_others r.list u.number u.known in
      fine-sends u (to_each told (letter.Outcome r.txn (resolution.verdict r))) g
      (said-each T z at told (letter.Outcome r.txn (resolution.verdict r)) (IsBrick z) (bricks-others r.list u.number u.known k.1).bricks
      (λ n there. (between z at n g.inside there, k.0))))

  resolves_on : (s : BrickState) (r : Resolving) → BrickOk T z at s → ResolvingOk T z r → Fine T z at (resolution.resolves_on s r)
  resolves_on s r h k =
      fine-if _ (decides s r h k)
      (fine-still _ (with-resolving s (s.resolving ++ r ∷ []) h (all-append _ s.resolving (r ∷ []) h.its_resolving (k, tt))))

  pub resolve : (s : BrickState) (txn : Txn) (list : List ℕ) → BrickOk T z at s → T txn → AreBricks z list → Fine T z at (resolution.resolve s txn list)
  resolve s txn list h made k =
      let told = unknown_others list s.number s.known in
      fine-then _ _ (fine-sends s (to_each told (letter.Query txn list)) h
      (said-each T z at told (letter.Query txn list) (IsBrick z) (bricks-others list s.number s.known k).bricks
      (λ n there. (between z at n h.inside there, made, k)))) (λ u g. resolves_on u (resolution.started s txn list) g (
        made,
        k,
        bricks-others list s.number s.known k,
      ))

  defers : (s : BrickState) (from : NodeNo) (q : Question) (txn : Txn) (list : List ℕ) → BrickOk T z at s → IsBrick z from → T txn → AreBricks z list
      → Fine T z at (resolution.defers s from q txn list)
  defers s from q txn list h there made k =
      fine-still _ (record {
        its_number = h.its_number;
        inside = h.inside;
        its_leaves = h.its_leaves;
        its_locks = h.its_locks;
        its_deferred = all-append _ s.deferred _ h.its_deferred ((there, made, k), tt);
        its_resolving = h.its_resolving;
        its_order = h.its_order;
      })

  pub help_row : (s : BrickState) (from : NodeNo) (txn : Txn) (list : List ℕ) → BrickOk T z at s → IsBrick z from → T txn → AreBricks z list
      → Fine T z at (resolution.help_row s from txn list)
  help_row s from txn list h there made k =
      fine-if _ (fine-if _ (fine-still s h) (resolve s txn list h made k)) (defers s from Help txn list h there made k)

  pub query_row : (s : BrickState) (from : NodeNo) (txn : Txn) (list : List ℕ) → BrickOk T z at s → IsBrick z from → T txn → AreBricks z list
      → Fine T z at (resolution.query_row s from txn list)
  query_row s from txn list h there made k =
      fine-if _ (fine-sends s _ h ((between z at from h.inside there, made), tt)) (defers s from Query txn list h there made k)

  resolving_goes : (s : BrickState) (from : NodeNo) (what : News) (r : Resolving) → BrickOk T z at s → ResolvingOk T z r
      → Fine T z at (resolution.resolving_goes s from what r)
  resolving_goes s from what r h k =
      fine-if _ (resolves_on s (resolution.with_news r from what) h (news-ok T z r from what k))
      (fine-still _ (with-resolving s (s.resolving ++ r ∷ []) h (all-append _ s.resolving (r ∷ []) h.its_resolving (k, tt))))

  resolvings_go : (s : BrickState) (from : NodeNo) (what : News) (rs : List Resolving) → BrickOk T z at s → AllByRecursion (ResolvingOk T z) rs
      → Fine T z at (resolution.resolvings_go s from what rs)
  resolvings_go s from what [] h k = fine-still s h
  resolvings_go s from what (r ∷ rs) h k = fine-then _ _ (resolving_goes s from what r h k.0) (λ u g. resolvings_go u from what rs g k.1)

  pub all_hear : (s : BrickState) (from : NodeNo) (what : News) → BrickOk T z at s → Fine T z at (resolution.all_hear s from what)
  all_hear s from what h = resolvings_go (record s { resolving = [] }) from what s.resolving (with-resolving s [] h tt) h.its_resolving
