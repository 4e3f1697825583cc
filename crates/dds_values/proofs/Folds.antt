use Rattle.std.proofs.Common.{◌≡◌, ℕ, ◌==◌, ◌&&◌, ◌||◌, ◌++◌, Bool, true, false, not, List, [], ◌∷◌, refl, sym, append_assoc, subst}
use Rattle.std.proofs.lemmas.List.{append-nil}
use Rattle.std.specs.Prelude.{if◌then◌else◌}
use Rattle.dds_base.specs.BrickList.{has}
use Rattle.dds_base.specs.NodeSet.{has_node}
use Rattle.dds_base.specs.Number.{Txn}
use Rattle.dds_base.specs.declared.number.NodeNo.{NodeNo}
use Rattle.dds_brick_rows.specs.Resolution as rows
use Rattle.dds_brick_rows.specs.declared.resolution.News.{News}
use Rattle.dds_brick_rows.specs.declared.resolution.News.TheVariants as news
use Rattle.dds_core.specs.Notice as notices
use Rattle.dds_letters.specs.declared.letter.Letter.{Letter}
use Rattle.dds_letters.specs.declared.letter.Letter.TheVariants as letter
use Rattle.dds_locks.specs.Status.{status}
use Rattle.dds_states.specs.Turn.{BrickTurn, still, sends, and_then, to_each, is_none_left, unknown, unknown_others}
use Rattle.dds_states.specs.declared.brick_state.BrickState.{BrickState}
use Rattle.dds_states.specs.declared.brick_state.Deferred.{Deferred}
use Rattle.dds_states.specs.declared.brick_state.Question.{Question}
use Rattle.dds_states.specs.declared.brick_state.Question.TheVariants.{Help, Query}
use Rattle.dds_states.specs.declared.brick_state.Resolving.{Resolving}
use Rattle.dds_states.specs.declared.turn.Point.{Point}

-- A turn that resolves transactions is a list of acts, each of which leaves leaves, pairs and locks, or settles one transaction: a fact of a
-- brick and of the points so far that these acts keep is kept by the turn.

abbrev pub Fact : Type 1
Fact = BrickState → List Point → Type 0

abbrev pub Goes : Fact → BrickState → BrickTurn → Type 0
Goes F s t = (ps : List Point) → F s ps → F t.state (ps ++ t.out.points)

pub record IsSame (s u : BrickState) : Type 0 where
  pub leaves : u.leaves ≡ s.leaves
  pub pairs : u.pairs ≡ s.pairs
  pub locks : u.locks ≡ s.locks

abbrev pub Rests : Fact → Type 0
Rests F = (s u : BrickState) (ps : List Point) → IsSame s u → F s ps → F u ps

abbrev pub Settled : Fact → Type 0
Settled F = (s : BrickState) (x : Txn) (c : Bool) → Goes F s (rows.outcome_row s x c)

module _ (F : Fact) (rests : Rests F) (settled : Settled F) where
  same : (s u : BrickState) (ls : List (NodeNo × Letter)) → IsSame s u → Goes F s (sends u ls)
  same s u ls e ps h = subst (F u) (sym (append-nil ps)) (rests s u ps e h)

  after : (s : BrickState) (r : BrickTurn) (row : BrickState → BrickTurn) → Goes F s r → ((u : BrickState) → Goes F u (row u)) → Goes F s (and_then r row)
  after s r row a b ps h =
      subst (F (row r.state).state) (append_assoc ps r.out.points (row r.state).out.points) (b r.state (ps ++ r.out.points) (a ps h))

  when : (s : BrickState) (c : Bool) (r q : BrickTurn) → Goes F s r → Goes F s q → Goes F s (if c then r else q)
  when s true r q h g = h
  when s false r q h g = g

  from : (s u : BrickState) (r : BrickTurn) → IsSame s u → Goes F u r → Goes F s r
  from s u r e h ps k = h ps (rests s u ps e k)

  -- resolving
  resolves : (s : BrickState) (r : Resolving) → Goes F s (rows.resolves_on s r)
  resolves s r =
      when s (is_none_left r.waiting) (rows.decides s r) (still (record s { resolving = s.resolving ++ r ∷ [] }))
      (after s (rows.outcome_row s r.txn (rows.verdict r))
      (λ t. sends t (to_each (unknown_others r.list t.number t.known) (letter.Outcome r.txn (rows.verdict r)))) (settled s r.txn (rows.verdict r))
      (λ u. same u u (to_each (unknown_others r.list u.number u.known) (letter.Outcome r.txn (rows.verdict r)))
      (record { leaves = refl; pairs = refl; locks = refl }))) (same s _ [] (record { leaves = refl; pairs = refl; locks = refl }))

  resolve : (s : BrickState) (x : Txn) (list : List ℕ) → Goes F s (rows.resolve s x list)
  resolve s x list =
      after s (sends s (to_each (unknown_others list s.number s.known) (letter.Query x list))) (λ t. rows.resolves_on t (rows.started s x list))
      (same s s (to_each (unknown_others list s.number s.known) (letter.Query x list)) (record { leaves = refl; pairs = refl; locks = refl }))
      (λ u. resolves u (rows.started s x list))

  pub help : (s : BrickState) (y : NodeNo) (x : Txn) (list : List ℕ) → Goes F s (rows.help_row s y x list)
  help s y x list =
      when s (rows.is_ready s.known x list s.number) (if rows.is_resolved s x then still s else rows.resolve s x list) (rows.defers s y Help x list)
      (when s (rows.is_resolved s x) (still s) (rows.resolve s x list) (same s s [] (record { leaves = refl; pairs = refl; locks = refl }))
      (resolve s x list)) (same s _ [] (record { leaves = refl; pairs = refl; locks = refl }))

  pub query : (s : BrickState) (y : NodeNo) (x : Txn) (list : List ℕ) → Goes F s (rows.query_row s y x list)
  query s y x list =
      when s (rows.is_ready s.known x list y) (sends s ((y, letter.Status x (status s.locks x)) ∷ [])) (rows.defers s y Query x list)
      (same s s ((y, letter.Status x (status s.locks x)) ∷ []) (record { leaves = refl; pairs = refl; locks = refl }))
      (same s _ [] (record { leaves = refl; pairs = refl; locks = refl }))

  resolving : (s : BrickState) (y : NodeNo) (n : News) (r : Resolving) → Goes F s (rows.resolving_goes s y n r)
  resolving s y n r =
      when s (rows.is_awaited r y n) (rows.resolves_on s (rows.with_news r y n)) (still (record s { resolving = s.resolving ++ r ∷ [] }))
      (resolves s (rows.with_news r y n)) (same s _ [] (record { leaves = refl; pairs = refl; locks = refl }))

  resolvings : (s : BrickState) (y : NodeNo) (n : News) (rs : List Resolving) → Goes F s (rows.resolvings_go s y n rs)
  resolvings s y n [] = same s s [] (record { leaves = refl; pairs = refl; locks = refl })
  resolvings s y n (r ∷ rs) = after s (rows.resolving_goes s y n r) (λ t. rows.resolvings_go t y n rs) (resolving s y n r) (λ u. resolvings u y n rs)

  pub hear : (s : BrickState) (y : NodeNo) (n : News) → Goes F s (rows.all_hear s y n)
  hear s y n =
      from s (record s { resolving = [] }) (rows.resolvings_go (record s { resolving = [] }) y n s.resolving)
      (record { leaves = refl; pairs = refl; locks = refl })
      (resolvings (record s { resolving = [] }) y n s.resolving)

  -- a notice, behind its order's part
  asked : (s : BrickState) (d : Deferred) (q : Question) → Goes F s (notices.asked_again s d q)
  asked s d Help = help s d.from d.txn d.list
  asked s d Query = query s d.from d.txn d.list

  all-asked : (s : BrickState) (ds : List Deferred) → Goes F s (notices.asked_all_again s ds)
  all-asked s [] = same s s [] (record { leaves = refl; pairs = refl; locks = refl })
  all-asked s (d ∷ ds) = after s (notices.asked_again s d d.question) (λ t. notices.asked_all_again t ds) (asked s d d.question) (λ u. all-asked u ds)

  helped : (s : BrickState) (y : NodeNo) (x : Txn) (list fs : List ℕ) → Goes F s (notices.helped_by s y x list fs)
  helped s y x list [] = same s s [] (record { leaves = refl; pairs = refl; locks = refl })
  helped s y x list (f ∷ fs) =
      let l = letter.Help x list in
      let c = y == x.library || has (rows.before list f) y in
      when s (f == s.number) (rows.resolve s x list) (if c then sends s ((f, l) ∷ []) else still s) (resolve s x list)
      (when s c (sends s ((f, l) ∷ [])) (still s) (same s s ((f, l) ∷ []) (record { leaves = refl; pairs = refl; locks = refl }))
      (same s s [] (record { leaves = refl; pairs = refl; locks = refl })))

  pendings : (s : BrickState) (y : NodeNo) (ps : List (Txn × List ℕ)) → Goes F s (notices.pendings_go s y ps)
  pendings s y [] = same s s [] (record { leaves = refl; pairs = refl; locks = refl })
  pendings s y (p ∷ ps) =
      after s (notices.pending_goes s y p.0 p.1) (λ t. notices.pendings_go t y ps)
      (when s (has_node s.known p.0.library && not (rows.is_resolved s p.0)) (notices.helped_by s y p.0 p.1 (unknown p.1 s.known)) (still s)
      (helped s y p.0 p.1 (unknown p.1 s.known)) (same s s [] (record { leaves = refl; pairs = refl; locks = refl }))) (λ u. pendings u y ps)

  on : (r : BrickTurn) (row : BrickState → BrickTurn) (ps : List Point) → F r.state (ps ++ r.out.points) → ((u : BrickState) → Goes F u (row u))
      → F (and_then r row).state (ps ++ (and_then r row).out.points)
  on r row ps h b =
      subst (F (row r.state).state) (append_assoc ps r.out.points (row r.state).out.points) (b r.state (ps ++ r.out.points) h)

  pub notice : (s : BrickState) (y : NodeNo) (ps : List Point)
      → F (notices.order_part (notices.learns s y) y).state (ps ++ (notices.order_part (notices.learns s y) y).out.points)
      → F (notices.notice_row s y).state (ps ++ (notices.notice_row s y).out.points)
  notice s y ps h =
      let first = notices.order_part (notices.learns s y) y in
      let second = and_then first (λ t. notices.resolving_part t y) in
      let third = and_then second notices.deferred_part in
      on third (λ t. notices.pending_part t y) ps
      (on second notices.deferred_part ps (on first (λ t. notices.resolving_part t y) ps h (λ u. hear u y news.Stopped))
      (λ u. from u (record u { deferred = [] }) (notices.asked_all_again (record u { deferred = [] }) u.deferred)
      (record { leaves = refl; pairs = refl; locks = refl }) (all-asked (record u { deferred = [] }) u.deferred)))
      (λ u. pendings u y (notices.numbered u.locks.pending))
