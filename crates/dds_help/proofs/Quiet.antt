use Rattle.std.proofs.Common.{◌≡◌, ℕ, ◌≤◌, ◌==◌, inl, inr, Bool, true, false, not, Option, Some, None, is_some, List, [], ◌∷◌, ◌++◌, find}
use Rattle.std.proofs.Common.{refl, sym, ap, ◌∙◌, subst}
use Rattle.std.proofs.lemmas.Bool.{and_parts, both_ways, cases_Bool, eqb-true}
use Rattle.std.specs.List.{AllByRecursion, list_any}
use Rattle.std.specs.Prelude.{if◌then◌else◌, slice_get}
use Rattle.dds_base.specs.BrickList.{has}
use Rattle.dds_base.specs.NodeSet.{has_node}
use Rattle.dds_base.specs.Number.{Txn}
use Rattle.dds_base.specs.declared.node_set.NodeSet.{NodeSet}
use Rattle.dds_base.specs.declared.pending.Pending.{Pending}
use Rattle.dds_books.proofs.There.{IsABrick, brick-there}
use Rattle.dds_books.specs.Placed.{ArePlaced}
use Rattle.dds_books.specs.Placed as placed
use Rattle.dds_brick_rows.specs.Resolution as rows
use Rattle.dds_core.proofs.Lists.{all-map}
use Rattle.dds_groups.proofs.Members.{has-live}
use Rattle.dds_law_notice.proofs.Keeps.{AreLinked}
use Rattle.dds_law_notice.proofs.Quiet.{all-known}
use Rattle.dds_law_notice.proofs.Views.{knows, view}
use Rattle.dds_locks.specs.Pending.{first_of}
use Rattle.dds_net.proofs.Quiet.{IsEmpty}
use Rattle.dds_net.proofs.Runs.{IsBuilt}
use Rattle.dds_net.specs.Net.{Net, a_brick, Sizes}
use Rattle.dds_states.specs.Turn.{is_none_left, unknown, unknown_others}
use Rattle.dds_states.specs.declared.brick_state.BrickState.{BrickState}
use Rattle.dds_states.specs.declared.brick_state.Deferred.{Deferred}
use Rattle.dds_states.specs.declared.brick_state.Question.{Question}
use Rattle.dds_states.specs.declared.brick_state.Question.TheVariants.{Help, Query}
use Rattle.dds_states.specs.declared.brick_state.Resolving.{Resolving}
use Rattle.dds_commit.proofs.Opens.{each-pending}
use Rattle.dds_talk.proofs.Letters.{has-without}
use Rattle.dds_talk.proofs.Parts.{same-self}
use Rattle.dds_talk.specs.Books.{Books}
use Rattle.dds_talk.specs.Resolve.{Resolves, Side}
use Rattle.dds_talk.specs.Resolve.Side.{Wait}
use Rattle.dds_talk.specs.Seen.{about, is_pending, one}
use Rattle.dds_talk.specs.Table.{At}
use Rattle.dds_resolve.proofs.Ready as ready
use Rattle.dds_resolve.proofs.TeamKeeps.{same-stopped}
use Rattle.dds_resolve.proofs.Whole.{Parts}
use Rattle.dds_resolve.specs.Resolving.{own_at, side, side_of, status_in, tell_in, waits}
use Rattle.dds_resolve.specs.Team.{AskedOk, DeferredOk, ResolvingOk, Team}
use Rattle.dds_resolve.specs.Teams.{ground, is_stopped}
use Rattle.dds_help.proofs.Facts.{brick-in, first-unknowing, never-itself, pending-members, was-brick}
use Rattle.dds_help.proofs.Lists.{all-of, apart-swap, both-true, or-left, self}
use Rattle.dds_help.proofs.SteadyKeeps.{was-own}
use Rattle.dds_help.specs.Helped.{AreHelped, Helped, Stranded, asks_help, first_unknown, tells_outcome}
use Rattle.dds_help.specs.Helped.Helped.{asked, put_off, resolves, stopped, told}
use Rattle.dds_help.specs.Law.{NothingLeft}
use Rattle.dds_help.specs.Steady.{AreSteady, IsPutOff, Waits, is_due}

-- Where nothing is on its way, each live brick knows all that have stopped. So every question is ready, and none is put off; nobody that is
-- waited for keeps a question, so nobody resolves; and what is pending of a stopped library would have the first member do so.

pub record Still (z : Sizes) (n : Net) (b : Books) : Type 0 where
  pub few : z.bricks ≤ 64
  pub built : IsBuilt z n
  pub links : AreLinked z n
  pub placed : ArePlaced z n
  pub parts : Parts z n b
  pub steady : AreSteady n
  pub helped : AreHelped n
  pub empty : IsEmpty n

-- a waiting resolver and a member that has nothing of it
nothing-waits : {d r : Bool} {a : At} → Resolves d Wait [] false r a [] → ⊥
nothing-waits h = elim h [ ]

some-waited : (P : ℕ → Type 0) (ns : List ℕ) → is_none_left ns ≡ false → AllByRecursion P ns → (w : ℕ) × (has ns w ≡ true) × P w
some-waited P [] e h = cc
some-waited P (n ∷ ns) e h = (n, or-left (n == n) (has ns n) (self n), h.0)

first-there : (ns : List ℕ) (m : ℕ) → has ns m ≡ true → (f : ℕ) × (slice_get ns 0 ≡ Some f)
first-there [] m e = cc
first-there (n ∷ ns) m e = (n, refl)

not-true : (b : Bool) → not b ≡ true → b ≡ false
not-true true e = cc
not-true false e = refl

some-of : (ps : List Pending) (t : Txn) → is_pending ps t ≡ true → (p : Pending) × (first_of ps t ≡ Some p)
some-of ps t e = pick (first_of ps t) refl e
  where
    pick : (o : Option Pending) → first_of ps t ≡ o → is_some o ≡ true → (p : Pending) × (first_of ps t ≡ Some p)
    pick None i e = cc
    pick (Some p) i e = (p, i)

module _ {z : Sizes} {n : Net} {b : Books} (q : Still z n b) where
  -- a live brick knows who has stopped
  knows-all : (m : ℕ) (s : BrickState) → n.node m ≡ a_brick s → s.stopped ≡ false → (k : ℕ) → is_stopped (n.node k) ≡ true → has_node s.known k ≡ true
  knows-all m s here live k stops =
      sym (ap (λ x. knows (view x) k) here)
      ∙ all-known z n q.links q.empty k m (brick-in z n m s q.built here) apart (same-stopped (n.node k) ∙ stops) (ap (λ x. (view x).stopped) here ∙ live)
    where
      apart : (k == m) ≡ false
      apart = elim (cases_Bool (k == m)) [
        | inl i ↦ absurd (both_ways s.stopped live (sym (ap is_stopped here) ∙ ap (λ x. is_stopped (n.node x)) (sym (eqb-true k m i)) ∙ stops))
        | inr i ↦ i
      ]

  -- so all are ready
  team-ready : (m : ℕ) (s : BrickState) → n.node m ≡ a_brick s → s.stopped ≡ false → (t : Txn) (list : List ℕ) (f k : ℕ) →
      Team (ground z n b.list) t list f k → rows.is_ready s.known t list f ≡ true
  team-ready m s here live t list f k h =
      both-true (has_node s.known t.library) _ (knows-all m s here live t.library h.library)
      (ready.all-known s.known (rows.before list f)
      (all-map (λ x. is_stopped (n.node x) ≡ true) (λ x. has_node s.known x ≡ true) (rows.before list f) (λ x i. knows-all m s here live x i) h.first))

  due : (m : ℕ) (s : BrickState) → n.node m ≡ a_brick s → s.stopped ≡ false → (d : Deferred) (k : Question) → AskedOk (ground z n b.list) m d k →
      is_due s.known m d k ≡ true
  due m s here live d Help h = team-ready m s here live d.txn d.list m d.from h
  due m s here live d Query h = team-ready m s here live d.txn d.list d.from m h.0

  none-put-off : (m : ℕ) (s : BrickState) → n.node m ≡ a_brick s → s.stopped ≡ false → s.deferred ≡ []
  none-put-off m s here live = none s.deferred (was-brick z n b.list m s q.parts.teams here).deferred (was-own n m s here q.steady).deferred
    where
      none : (ds : List Deferred) → AllByRecursion (DeferredOk (ground z n b.list) m) ds → AllByRecursion (IsPutOff s.known m) ds → ds ≡ []
      none [] h k = refl
      none (d ∷ ds) h k = absurd (both_ways (is_due s.known m d d.question) k.0 (due m s here live d d.question h.0))

  -- whom a resolving waits for is a live member
  member-of : (list : List ℕ) (m : ℕ) (known : NodeSet) (w : ℕ) → has (unknown_others list m known) w ≡ true →
      (has list w ≡ true) × (has_node known w ≡ false) × ((m == w) ≡ false)
  member-of list m known w e =
      let one = and_parts (has (unknown list known) w) (not (w == m)) (sym (has-without (unknown list known) m w) ∙ e) in
      let two = and_parts (has list w) (not (has_node known w)) (sym (has-live list (has_node known) w) ∙ one.0) in
      (two.0, not-true (has_node known w) two.1, apart-swap w m (not-true (w == m) one.1))

  none-resolves : (m : ℕ) (s : BrickState) → n.node m ≡ a_brick s → s.stopped ≡ false → s.resolving ≡ []
  none-resolves m s here live =
      none s.resolving refl (was-brick z n b.list m s q.parts.teams here).resolving (was-own n m s here q.steady).resolving
      (subst (placed.NodeOk (placed.Made n) z m) here (q.placed.nodes m)).its_resolving
    where
      bad : (r : Resolving) (rs : List Resolving) (w : ℕ) → s.resolving ≡ r ∷ rs → ResolvingOk (ground z n b.list) m r → has r.waiting w ≡ true →
          has (unknown_others r.list m s.known) w ≡ true → IsABrick n w → ⊥
      bad r rs w e team waited other there =
          let y = there.state in
          let p = member-of r.list m s.known w other in
          let lives : y.stopped ≡ false = elim (cases_Bool y.stopped) [
            | inl i ↦ absurd (both_ways (has_node s.known w) p.1 (knows-all m s here live w (ap is_stopped there.here ∙ i)))
            | inr i ↦ i
          ] in
          let a = q.parts.resolve.alive r.txn m w s y (record {
            resolver = here;
            lives = live;
            member = there.here;
            apart = p.2;
            in_list = ap (λ ns. has ns w) team.members.listed ∙ p.0;
            unknown = p.1;
          }) lives in
          let found : find (rows.is_of r.txn) s.resolving ≡ Some r = ap (find (rows.is_of r.txn)) e
          ∙ ap (λ c. if c then Some r else find (rows.is_of r.txn) rs) (same-self r.txn) in
          let asks : side s r.txn w ≡ Wait = ap (λ o. side_of o w) found ∙ ap (λ c. if c then Wait else Side.Heard r.saw_commit r.saw_no) waited in
          let put : a.put ≡ false = free a.put (own_at y r.txn)
          (sym a.waiting ∙ ap (waits (own_at y r.txn) m r.txn) (none-put-off w y there.here lives)) in
          nothing-waits
          (subst (λ x. Resolves (b.decided r.txn) x [] false (rows.is_ready y.known r.txn (b.list r.txn) m) (own_at y r.txn) []) asks
          (subst (λ x. Resolves (b.decided r.txn) (side s r.txn w) [] x (rows.is_ready y.known r.txn (b.list r.txn) m) (own_at y r.txn) []) put
          (subst (λ c. Resolves (b.decided r.txn) (side s r.txn w) [] a.put (rows.is_ready y.known r.txn (b.list r.txn) m) (own_at y r.txn)
          (about status_in r.txn c)) (q.empty w m)
          (subst (λ c. Resolves (b.decided r.txn) (side s r.txn w) (about tell_in r.txn c ++ []) a.put (rows.is_ready y.known r.txn (b.list r.txn) m)
          (own_at y r.txn) (about status_in r.txn (n.channel w m))) (q.empty m w) a.now))))
        where
          free : (c : Bool) (x : At) → one c x ≡ [] → c ≡ false
          free true x e = cc
          free false x e = refl

      none : (rs : List Resolving) → s.resolving ≡ rs → AllByRecursion (ResolvingOk (ground z n b.list) m) rs → AllByRecursion (Waits s.known m) rs →
          AllByRecursion (placed.ResolvingOk (placed.Made n) z) rs → rs ≡ []
      none [] e h k l = refl
      none (r ∷ rs) e h k l =
          let w = some-waited (λ x. has (unknown_others r.list m s.known) x ≡ true) r.waiting k.0.some k.0.others in
          absurd (bad r rs w.0 e h.0 w.1 w.2 (brick-there z n w.0 q.few q.placed
          (all-of (placed.IsBrick z) r.list w.0 l.0.1.bricks (member-of r.list m s.known w.0 w.2).0)))

  -- what is pending of a stopped library: the first member would help, or is known
  none-helps : (m : ℕ) (s : BrickState) → n.node m ≡ a_brick s → s.stopped ≡ false → (t : Txn) (p : Pending) (f : ℕ) →
      first_unknown p.list s.known ≡ Some f → Helped t (n.node f) (n.channel m f) (n.channel f m) → ⊥
  none-helps m s here live t p f first h = pick h
    where
      gone : is_stopped (n.node f) ≡ true → ⊥
      gone i = both_ways (has_node s.known f) (first-unknowing f s p first) (knows-all m s here live f i)

      lives : (y : BrickState) → n.node f ≡ a_brick y → y.stopped ≡ false
      lives y e = elim (cases_Bool y.stopped) [ inl i ↦ absurd (gone (ap is_stopped e ∙ i)) | inr i ↦ i ]

      empty-list : {X : Type 0} (P : X → Bool) (xs : List X) → xs ≡ [] → list_any P xs ≡ true → ⊥
      empty-list P xs e i = let bad : false ≡ true = sym (ap (list_any P) e) ∙ i in cc

      pick : Helped t (n.node f) (n.channel m f) (n.channel f m) → ⊥
      pick (stopped i) = gone i
      pick (asked i) = empty-list (asks_help t) (n.channel m f) (q.empty m f) i
      pick (put_off y e i) = empty-list _ y.deferred (none-put-off f y e (lives y e)) i
      pick (resolves y e i) = empty-list _ y.resolving (none-resolves f y e (lives y e)) i
      pick (told i) = empty-list (tells_outcome t) (n.channel f m) (q.empty f m) i

  none-stranded : (m : ℕ) (s : BrickState) → n.node m ≡ a_brick s → (t : Txn) (p : Pending) → Stranded s t p → ⊥
  none-stranded m s here t p k = elim (cases_Bool (f.0 == m)) [
    | inl i ↦ mine (q.helped.itself m s here t p k (f.1 ∙ ap (λ x. Some x) (eqb-true f.0 m i)))
    | inr i ↦ none-helps m s here k.live t p f.0 f.1 (q.helped.others m f.0 s here t p k f.1 i)
  ]
    where
      f : (f : ℕ) × (first_unknown p.list s.known ≡ Some f)
      f = first-there (unknown p.list s.known) m
          (has-live p.list (has_node s.known) m
          ∙ both-true (has p.list m) (not (has_node s.known m)) (pending-members z n b.list m s t p q.parts.teams here k.pending).member
          (ap not (never-itself z n m s q.links (brick-in z n m s q.built here) here)))

      mine : rows.is_resolved s t ≡ true → ⊥
      mine i = let bad : false ≡ true = sym (ap (list_any (rows.is_of t)) (none-resolves m s here k.live)) ∙ i in cc

  library-unknown : (m : ℕ) (s : BrickState) → n.node m ≡ a_brick s → s.stopped ≡ false → (p : Pending) → is_pending s.locks.pending p.txn ≡ true →
      has_node s.known p.txn.library ≡ false
  library-unknown m s here live p e = elim (cases_Bool (has_node s.known p.txn.library)) [
    | inl i ↦
        let first = some-of s.locks.pending p.txn e in
        absurd (none-stranded m s here p.txn first.0 (record { live = live; pending = first.1; library = i }))
    | inr i ↦ i
  ]

  pub nothing-left : (m : ℕ) (s : BrickState) → n.node m ≡ a_brick s → s.stopped ≡ false → NothingLeft s
  nothing-left m s here live =
      record {
        resolving = none-resolves m s here live;
        deferred = none-put-off m s here live;
        pending = all-map (λ (p : Pending). is_pending s.locks.pending p.txn ≡ true) (λ (p : Pending). has_node s.known p.txn.library ≡ false)
            s.locks.pending (λ p e. library-unknown m s here live p e) (each-pending s.locks.pending);
      }
