use Rattle.std.proofs.Common.{◌≡◌, ℕ, ◌==◌, ◌||◌, inl, inr, Bool, true, false, Some, List, [], ◌∷◌, refl, sym, ap, ◌∙◌, subst}
use Rattle.std.proofs.lemmas.Bool.{both_ways, eq-eqb, eqb-true}
use Rattle.std.specs.Prelude.{slice_get}
use Rattle.dds_base.specs.BrickList.{has}
use Rattle.dds_base.specs.NodeSet.{has_node}
use Rattle.dds_base.specs.declared.node_set.NodeSet.{NodeSet}
use Rattle.dds_base.specs.declared.op.Op.{Op}
use Rattle.dds_books.proofs.There.{brick-there}
use Rattle.dds_books.specs.Placed.{ArePlaced, AreAwaited, CallOk, IsBrick, LibraryOk, Made, NodeOk, PhaseOk}
use Rattle.dds_call_rows.specs.Library.{call_concerns}
use Rattle.dds_cluster.specs.declared.trace.Asked.{Asked}
use Rattle.dds_cluster.specs.declared.trace.Caller.{Caller}
use Rattle.dds_cluster.specs.declared.trace.Trace.{Trace}
use Rattle.dds_core.proofs.Lists.{all-is}
use Rattle.dds_law_notice.proofs.Quiet.{all-known}
use Rattle.dds_law_notice.proofs.Views.{knows, view as seen}
use Rattle.dds_letters.specs.declared.letter.Letter.{Letter}
use Rattle.dds_net.proofs.Nodes.{library-node}
use Rattle.dds_net.proofs.Quiet.{IsEmpty}
use Rattle.dds_net.specs.Event.{history_of}
use Rattle.dds_net.specs.Net.{Net, a_brick, a_library, Sizes, net, node_at}
use Rattle.dds_states.specs.declared.brick_state.BrickState.{BrickState}
use Rattle.dds_states.specs.declared.library_state.LibraryState.{LibraryState}
use Rattle.dds_states.specs.declared.library_state.OpenCall.{OpenCall}
use Rattle.dds_states.specs.declared.library_state.Phase.{Phase}
use Rattle.dds_states.specs.declared.library_state.Phase.TheVariants.{Getting, Preparing, Committing, Aborting, Asking}
use Rattle.dds_talk.proofs.Grounds.{Ground, brick-inside, library-inside}
use Rattle.dds_world.specs.Quiet.{AnsweredIfLive, IsLiveLibrary}
use Rattle.dds_due.specs.Due.{AreDue, IsDue, asked_in, is_there, told_in}
use Rattle.dds_due.specs.Opened.{AreOpened, IsAnsweredOrOpen, IsCall, Lists, ListsOpen, OfOne}

-- Where nothing is on its way, no library that lives waits for anybody.

-- an open call waits for somebody
record Someone (z : Sizes) (known : NodeSet) (p : Phase) : Type 0 where
  node : ℕ
  waits : call_concerns p node ≡ true
  brick : IsBrick z node
  unknown : has_node known node ≡ false

-- who stands first among those waited for
record First (z : Sizes) (known : NodeSet) (waiting : List ℕ) : Type 0 where
  node : ℕ
  waits : has waiting node ≡ true
  brick : IsBrick z node
  unknown : has_node known node ≡ false

or-first : (a b : Bool) → a ≡ true → (a || b) ≡ true
or-first true b e = refl
or-first false b e = cc

first : (z : Sizes) (known : NodeSet) (waiting : List ℕ) → AreAwaited z known waiting → First z known waiting
first z known [] h = let no = h.some in cc
first z known (m ∷ ms) h =
    record { node = m; waits = or-first (m == m) (has ms m) (eq-eqb m m refl); brick = h.bricks.bricks.0; unknown = h.unknown.0 }

someone : (z : Sizes) (known : NodeSet) (o : Op) (p : Phase) → PhaseOk z known o p → Someone z known p
someone z known o (Getting leaf brick) h =
    record { node = brick; waits = eq-eqb brick brick refl; brick = h.1.inside; unknown = h.1.unknown }
someone z known o (Preparing leaf list waiting) h =
    let f = first z known waiting h.1.awaited in record { node = f.node; waits = f.waits; brick = f.brick; unknown = f.unknown }
someone z known o (Committing leaf list waiting was) h =
    let f = first z known waiting h.1.awaited in record { node = f.node; waits = f.waits; brick = f.brick; unknown = f.unknown }
someone z known o (Aborting waiting why brick) h =
    let f = first z known waiting h.1 in record { node = f.node; waits = f.waits; brick = f.brick; unknown = f.unknown }
someone z known o (Asking waiting newest met) h =
    let f = first z known waiting h.0 in record { node = f.node; waits = f.waits; brick = f.brick; unknown = f.unknown }

-- two nodes of two kinds
apart : (n : Net) (a b : ℕ) (s : BrickState) (l : LibraryState) → n.node a ≡ a_brick s → n.node b ≡ a_library l → (c : Bool) → (a == b) ≡ c → c ≡ false
apart n a b s l e f true is = let no : a_brick s ≡ a_library l = sym e ∙ ap n.node (eqb-true a b is) ∙ f in cc
apart n a b s l e f false is = refl

other-way : (n : Net) (a b : ℕ) (s : BrickState) (l : LibraryState) → n.node a ≡ a_brick s → n.node b ≡ a_library l → (c : Bool) → (b == a) ≡ c → c ≡ false
other-way n a b s l e f true is = let no : a_brick s ≡ a_library l = sym e ∙ ap n.node (sym (eqb-true b a is)) ∙ f in cc
other-way n a b s l e f false is = refl

-- a live library knows each brick that has stopped, and a live brick each library
knows-brick : (z : Sizes) (n : Net) (k m : ℕ) (l : LibraryState) (s : BrickState) → Ground z n → IsEmpty n → n.node k ≡ a_library l → n.node m ≡ a_brick s
    → l.stopped ≡ false → s.stopped ≡ true → has_node l.known m ≡ true
knows-brick z n k m l s g empty here there lives dead =
    ap (λ x. knows (seen x) m) (sym here)
    ∙ all-known z n g.linked empty m k (library-inside z n k l g here) (apart n m k s l there here (m == k) refl)
    (ap (λ x. (seen x).stopped) there ∙ dead) (ap (λ x. (seen x).stopped) here ∙ lives)

pub knows-library : (z : Sizes) (n : Net) (k m : ℕ) (l : LibraryState) (s : BrickState) → Ground z n → IsEmpty n → n.node k ≡ a_library l
    → n.node m ≡ a_brick s → l.stopped ≡ true → s.stopped ≡ false → has_node s.known k ≡ true
knows-library z n k m l s g empty here there dead live =
    ap (λ x. knows (seen x) k) (sym there)
    ∙ all-known z n g.linked empty k m (brick-inside z n m s g there) (other-way n m k s l there here (k == m) refl)
    (ap (λ x. (seen x).stopped) here ∙ dead) (ap (λ x. (seen x).stopped) there ∙ live)

-- a call that is open waits for a live brick, and nothing is on its way
nothing-due : (c : OpenCall) (out back : List Letter) → out ≡ [] → back ≡ [] → IsDue c out back → ⊥
nothing-due c out back e f h =
    let no : false ≡ true = sym (ap (λ x. is_there (asked_in c.phase) c.txn x || is_there (told_in c.phase) c.txn back) e
    ∙ ap (λ y. false || is_there (told_in c.phase) c.txn y) f) ∙ h in
    cc

none-open : (z : Sizes) (n : Net) (k : ℕ) (l : LibraryState) (c : OpenCall) (cs : List OpenCall) → Ground z n → ArePlaced z n → AreDue n → IsEmpty n
    → n.node k ≡ a_library l → l.stopped ≡ false → l.calls ≡ c ∷ cs → ⊥
none-open z n k l c cs g placed due empty here lives e =
    let ok : LibraryOk z k l = subst (NodeOk (Made n) z k) here (placed.nodes k) in
    let there : slice_get l.calls 0 ≡ Some c = ap (λ xs. slice_get xs 0) e in
    let one = someone z l.known c.request.op c.phase (all-is (CallOk z l.number l.next l.known) l.calls 0 c ok.calls there).its_phase in
    let member = brick-there z n one.node g.few placed one.brick in
    by one.node one.unknown member.state member.here member.state.stopped refl (λ live. due k one.node l member.state c (record {
      library = here;
      lives = lives;
      at = 0;
      there = there;
      waits = one.waits;
      member = member.here;
      live = live;
    }))
  where
    by : (m : ℕ) → has_node l.known m ≡ false → (s : BrickState) → n.node m ≡ a_brick s → (b : Bool) → s.stopped ≡ b
        → (s.stopped ≡ false → IsDue c (n.channel k m) (n.channel m k)) → ⊥
    by m unknown s is true dead f = both_ways (has_node l.known m) unknown (knows-brick z n k m l s g empty here is lives dead)
    by m unknown s is false live f = nothing-due c (n.channel k m) (n.channel m k) (empty k m) (empty m k) (f live)

-- a library that lives has no call open
pub library-idle : (z : Sizes) (n : Net) (k : ℕ) (l : LibraryState) → Ground z n → ArePlaced z n → AreDue n → IsEmpty n → n.node k ≡ a_library l
    → l.stopped ≡ false → l.calls ≡ []
library-idle z n k l g placed due empty here lives = by l.calls refl
  where
    by : (cs : List OpenCall) → l.calls ≡ cs → cs ≡ []
    by [] e = refl
    by (c ∷ cs) e = absurd (none-open z n k l c cs g placed due empty here lives e)

-- Calls

no-item : {X : Type 0} (P : X → Type 0) (xs : List X) → xs ≡ [] → OfOne P xs → ⊥
no-item P [] e h = h
no-item P (x ∷ xs) e h = cc

some-is : {X : Type 0} (x y : X) → Some x ≡ Some y → x ≡ y
some-is x y e = cc

pub answered-then : (z : Sizes) (t : Trace) (a : Asked) → AreOpened (history_of t) (net z t.world)
    → ((node : ℕ) (s : LibraryState) → IsLiveLibrary t.world node s → s.calls ≡ []) → IsAnsweredOrOpen t.callers t.told a → AnsweredIfLive t a
answered-then z t a g idle h c s there lives = elim h [
  | inl told ↦ told
  | inr its ↦
      let same : its.who ≡ c = some-is its.who c (sym its.there ∙ there) in
      let here : node_at t.world c.library ≡ a_library s = library-node t.world c.library s lives.there in
      let lists : Lists t.callers c.library s = subst (ListsOpen t.callers c.library) here (g.opened c.library) lives.live in
      absurd (no-item (IsCall a.caller a.call) s.calls (idle c.library s lives)
      (lists a.caller c a.call there refl (ap (λ (x : Caller). x.call) (sym same) ∙ its.call_is)))
]
