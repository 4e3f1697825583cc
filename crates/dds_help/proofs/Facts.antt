use Rattle.std.proofs.Common.{◌≡◌, ℕ, ◌≤◌, ◌==◌, ◌&&◌, Bool, true, false, not, Some, List, ◌∷◌, refl, sym, ap, ◌∙◌, subst}
use Rattle.std.proofs.lemmas.Bool.{and_parts, eq-eqb}
use Rattle.std.specs.List.{AllByRecursion, list_any}
use Rattle.dds_base.specs.BrickList.{has}
use Rattle.dds_base.specs.NodeSet.{has_node}
use Rattle.dds_base.specs.Number.{Txn}
use Rattle.dds_base.specs.declared.pending.Pending.{Pending}
use Rattle.dds_books.proofs.There.{IsABrick, brick-there}
use Rattle.dds_books.specs.Placed.{ArePlaced}
use Rattle.dds_books.specs.Placed as placed
use Rattle.dds_brick_rows.specs.Resolution as rows
use Rattle.dds_core.proofs.Lists.{all-both}
use Rattle.dds_law_notice.proofs.Keeps.{AreLinked}
use Rattle.dds_law_notice.proofs.Link.{Link, lives, told, over}
use Rattle.dds_law_notice.proofs.Views.{knows, view}
use Rattle.dds_letters.specs.declared.letter.Letter.{Letter}
use Rattle.dds_locks.proofs.Locked.{found-numbered}
use Rattle.dds_locks.specs.Pending.{first_of, is_numbered}
use Rattle.dds_net.proofs.Runs.{IsBuilt}
use Rattle.dds_net.specs.Event.{IsFirst}
use Rattle.dds_net.specs.Net.{Net, nowhere, a_brick, Sizes, is_in}
use Rattle.dds_states.specs.Turn.{unknown}
use Rattle.dds_states.specs.declared.brick_state.BrickState.{BrickState}
use Rattle.dds_talk.proofs.Parts.{is-same}
use Rattle.dds_resolve.proofs.Grounds.{inside-of}
use Rattle.dds_resolve.proofs.Ready.{ReadyIn}
use Rattle.dds_resolve.proofs.ReadyKeeps.{AreReady, was-ready}
use Rattle.dds_resolve.proofs.TeamNotices.{first-unknown}
use Rattle.dds_resolve.proofs.TeamTurns.{IfSome, found-all}
use Rattle.dds_resolve.specs.Team.{Members, ResolvingOk}
use Rattle.dds_resolve.specs.Teams.{BrickIs, NodeOk, Teams, ground}
use Rattle.dds_help.proofs.Lists.{all-of, first-dark, first-is, found, some-first}
use Rattle.dds_help.specs.Helped.{first_unknown}

-- What the lower parts say of a pending attempt, its members and its resolver.

-- a brick's state is one
pub for-state : (P : BrickState → Type 0) (s u : BrickState) → a_brick s ≡ a_brick u → P s → P u
for-state P s u e h = let is : s ≡ u = cc in subst P is h

-- nobody knows itself, and whose letter is on its way isn't known
self-unknown : {deaf : Bool} {c : List Letter} (s same known : Bool) → same ≡ true → Link deaf c (s && not same) known → known ≡ false
self-unknown true true known e (lives h) = refl
self-unknown false true known e (lives h) = refl
self-unknown s false known e h = cc

pub never-itself : (z : Sizes) (n : Net) (m : ℕ) (s : BrickState) → AreLinked z n → is_in z m ≡ true → n.node m ≡ a_brick s → has_node s.known m ≡ false
never-itself z n m s links inside here =
    ap (λ x. knows (view x) m) (sym here)
    ∙ self-unknown (view (n.node m)).stopped (m == m) (knows (view (n.node m)) m) (eq-eqb m m refl) (links m m inside)

sender-unknown : {deaf s known : Bool} (l : Letter) (c : List Letter) → Link deaf (l ∷ c) s known → known ≡ false
sender-unknown l c (lives h) = refl
sender-unknown l c (told front e h) = refl
sender-unknown l c (over known e h) = cc

pub never-sender : (z : Sizes) (n : Net) (at from : ℕ) (l : Letter) (s : BrickState) → AreLinked z n → IsFirst z n at from l → n.node at ≡ a_brick s →
    has_node s.known from ≡ false
never-sender z n at from l s links f here =
    ap (λ x. knows (view x) from) (sym here)
    ∙ sender-unknown l f.others (subst (λ c. Link (view (n.node at)).stopped c ((view (n.node from)).stopped && not (from == at))
    (knows (view (n.node at)) from)) f.first (links from at f.receiver))

-- a node that is there is one of the cluster
pub brick-in : (z : Sizes) (n : Net) (m : ℕ) (s : BrickState) → IsBuilt z n → n.node m ≡ a_brick s → is_in z m ≡ true
brick-in z n m s built here = pick (is_in z m) refl
  where
    pick : (c : Bool) → is_in z m ≡ c → is_in z m ≡ true
    pick true e = e
    pick false e = let bad : nowhere ≡ a_brick s = sym (built.outside m e) ∙ here in cc

-- a pending attempt's members
pub was-brick : (z : Sizes) (n : Net) (list : Txn → List ℕ) (m : ℕ) (s : BrickState) → Teams z n list → n.node m ≡ a_brick s →
    BrickIs (ground z n list) m s
was-brick z n list m s teams here = subst (NodeOk (ground z n list) m) here (teams.nodes m)

pub pending-members : (z : Sizes) (n : Net) (list : Txn → List ℕ) (m : ℕ) (s : BrickState) (t : Txn) (p : Pending) → Teams z n list → n.node m ≡ a_brick s →
    first_of s.locks.pending t ≡ Some p → Members (ground z n list) t p.list m
pending-members z n list m s t p teams here e =
    let all = (was-brick z n list m s teams here).pending in
    let mine : Members (ground z n list) p.txn p.list m =
    subst (IfSome (λ (p : Pending). Members (ground z n list) p.txn p.list m)) e (found-all _ (is_numbered t) s.locks.pending all) in
    subst (λ x. Members (ground z n list) x p.list m) (is-same p.txn t (found-numbered s.locks.pending p t e)) mine

-- the first member that isn't known is one, of the cluster
pub first-member : (z : Sizes) (n : Net) (list : Txn → List ℕ) (t : Txn) (m f : ℕ) (s : BrickState) (p : Pending) → Members (ground z n list) t p.list m →
    first_unknown p.list s.known ≡ Some f → has p.list f ≡ true
first-member z n list t m f s p h e =
    let fs = some-first (unknown p.list s.known) f e in
    (first-unknown p.list (has_node s.known) f fs.0 fs.1).1

pub first-inside : (z : Sizes) (n : Net) (list : Txn → List ℕ) (t : Txn) (m f : ℕ) (s : BrickState) (p : Pending) → Members (ground z n list) t p.list m →
    first_unknown p.list s.known ≡ Some f → is_in z f ≡ true
first-inside z n list t m f s p h e = inside-of (is_in z) p.list f h.inside (first-member z n list t m f s p h e)

-- it isn't known
pub first-unknowing : (f : ℕ) (s : BrickState) (p : Pending) → first_unknown p.list s.known ≡ Some f → has_node s.known f ≡ false
first-unknowing f s p e =
    let fs = some-first (unknown p.list s.known) f e in
    first-dark p.list (has_node s.known) f fs.0 fs.1

-- a brick that resolves an attempt is the first member that it doesn't know
pub resolver-first : (z : Sizes) (n : Net) (list : Txn → List ℕ) (m f : ℕ) (s : BrickState) (t : Txn) (p : Pending) → Teams z n list → AreReady n →
    has_node s.known m ≡ false → n.node m ≡ a_brick s → first_of s.locks.pending t ≡ Some p → rows.is_resolved s t ≡ true →
    first_unknown p.list s.known ≡ Some f → f ≡ m
resolver-first z n list m f s t p teams ready dark here e resolved first =
    let g = ground z n list in
    let members = pending-members z n list m s t p teams here e in
    let all = all-both (ResolvingOk g m) (ReadyIn s.known m) s.resolving (was-brick z n list m s teams here).resolving (was-ready n m s here ready).ready in
    let r = found (rows.is_of t) (λ r. ResolvingOk g m r × ReadyIn s.known m r) s.resolving resolved all in
    let same : r.item.list ≡ p.list = sym r.is.0.members.listed ∙ ap list (is-same r.item.txn t r.passes) ∙ members.listed in
    let known = (and_parts (has_node s.known r.item.txn.library) _ r.is.1).1 in
    first-is p.list (has_node s.known) m f (subst (λ ns. Rattle.std.specs.List.list_all (λ k. has_node s.known k) (rows.before ns m) ≡ true) same known)
    members.member dark first

-- it is a brick
pub first-brick : (z : Sizes) (n : Net) (m f : ℕ) (s : BrickState) (t : Txn) (p : Pending) → z.bricks ≤ 64 → ArePlaced z n → n.node m ≡ a_brick s →
    first_of s.locks.pending t ≡ Some p → first_unknown p.list s.known ≡ Some f → IsABrick n f
first-brick z n m f s t p few g here e first =
    let b : placed.BrickOk (placed.Made n) z m s = subst (placed.NodeOk (placed.Made n) z m) here (g.nodes m) in
    let mine : placed.PendingOk (placed.Made n) z m p =
    subst (IfSome (placed.PendingOk (placed.Made n) z m)) e (found-all _ (is_numbered t) s.locks.pending b.its_locks.0) in
    let fs = some-first (unknown p.list s.known) f first in
    brick-there z n f few g (all-of (placed.IsBrick z) p.list f mine.1.bricks (first-unknown p.list (has_node s.known) f fs.0 fs.1).1)
