use Rattle.std.proofs.Common.{◌≡◌, ℕ, ◌≤◌, ◌==◌, ◌||◌, ◌⊎◌, inl, inr, Bool, true, false, Option, Some, None, List, [], ◌∷◌, refl, sym, ap, ◌∙◌, subst}
use Rattle.std.proofs.lemmas.Bool.{both_ways, ne_eqb}
use Rattle.std.specs.FinMap.{get}
use Rattle.std.specs.List.{AllByRecursion}
use Rattle.std.specs.Prelude.{if◌then◌else◌}
use Rattle.dds_base.specs.BrickList.{has}
use Rattle.dds_base.specs.Number.{Txn}
use Rattle.dds_books.specs.Books.{Book, Entry, IsBooked, IsWithin, ListFits}
use Rattle.dds_books.specs.Calls.{LibraryIs}
use Rattle.dds_books.specs.Placed.{CallOk, LibraryOk}
use Rattle.dds_core.proofs.Lists.{all-is}
use Rattle.dds_net.proofs.Puts.{at-put}
use Rattle.dds_net.specs.Net.{Net, Node, nowhere, a_brick, a_library, Sizes, put}
use Rattle.dds_states.specs.declared.brick_state.BrickState.{BrickState}
use Rattle.dds_states.specs.declared.library_state.LibraryState.{LibraryState}
use Rattle.dds_states.specs.declared.library_state.OpenCall.{OpenCall}
use Rattle.dds_states.specs.declared.library_state.Phase.{Phase}
use Rattle.dds_states.specs.declared.library_state.Phase.TheVariants as phase
use Rattle.dds_talk.proofs.Grounds.{Ground}
use Rattle.dds_talk.specs.Books.{Books, is_yes, or_else, with_brick, with_library}
use Rattle.dds_talk.specs.Parts.{Commit}
use Rattle.dds_talk.specs.Parts as talk
use Rattle.dds_talk.specs.Seen.{call_of, commits_now, is_committing, members_in, members_of}
use Rattle.dds_attempts.proofs.Claim.{AreCommitting, Commits, ListIs}
use Rattle.dds_attempts.proofs.Found.{call-at}
use Rattle.dds_attempts.proofs.Turns.{Comes, Tracked, Went, again, all-from, comes, still}
use Rattle.dds_attempts.proofs.Views.{IsMember, call-there, done-open, none-fits}

-- Which members the books have, and that a decided attempt is committed by its open call.

-- the members
pub list-later : (a c : Book) (t : Txn) (list : List ℕ) → IsWithin a c → ListIs a t list → ListIs c t list
list-later a c t list w (inl e) = inl e
list-later a c t list w (inr h) = inr (record { its = h.its; there = w t h.its h.there; list_is = h.list_is })

list-or : (c : Book) (t : Txn) (x y : List ℕ) → ListIs c t x → ListIs c t y → ListIs c t (or_else x y)
list-or c t [] y h g = g
list-or c t (n ∷ ns) y h g = h

list-if : (c : Book) (t : Txn) (b : Bool) (x y : List ℕ) → ListIs c t x → ListIs c t y → ListIs c t (if b then x else y)
list-if c t true x y h g = h
list-if c t false x y h g = g

list-phase : (c : Book) (x : OpenCall) (p : Phase) → x.phase ≡ p → IsBooked c x → ListIs c x.txn (members_of p)
list-phase c x (phase.Preparing leaf list waiting) e h =
    inr (record { its = h.its; there = h.there; list_is = subst (λ q. ListFits q h.its.list) e h.list_fits })
list-phase c x (phase.Committing leaf list waiting was) e h =
    inr (record { its = h.its; there = h.there; list_is = subst (λ q. ListFits q h.its.list) e h.list_fits })
list-phase c x other e h = inl refl

list-open : (c : Book) (cs : List OpenCall) (t : Txn) (o : Option OpenCall) → AllByRecursion (IsBooked c) cs → call_of cs t ≡ o → ListIs c t (members_in o)
list-open c cs t None h e = inl refl
list-open c cs t (Some x) h e =
    let k = call-at cs t x e in
    subst (λ u. ListIs c u (members_of x.phase)) k.txn_is (list-phase c x x.phase refl (all-is (IsBooked c) cs k.place x h k.is))

pub lists-then : (a c : Book) (b : Books) (at : ℕ) (s : LibraryState) → IsWithin a c → AllByRecursion (IsBooked c) s.calls → (t : Txn)
    → ListIs a t (b.list t) → ListIs c t ((with_library at s b).list t)
lists-then a c b at s w booked t h =
    let old = list-later a c t (b.list t) w h in
    list-if c t (t.library == at) (or_else (b.list t) (members_in (call_of s.calls t))) (b.list t)
    (list-or c t (b.list t) (members_in (call_of s.calls t)) old (list-open c s.calls t (call_of s.calls t) booked refl)) old

-- what a library decides

pub or-is : (x y : Bool) → (x || y) ≡ true → (x ≡ true) ⊎ (y ≡ true)
or-is true y e = inl refl
or-is false y e = inr e

if-decided : (c x y : Bool) → (if c then x || y else x) ≡ true → (x ≡ true) ⊎ (y ≡ true)
if-decided true x y e = or-is x y e
if-decided false x y e = inl e

-- what was decided of an open call's attempt before a turn, it committed
old-commits : {New : Comes} (b : Books) (old : LibraryState) (d : OpenCall) → AllByRecursion (Commits b) old.calls
    → (old.next ≤ d.txn.number → b.decided d.txn ≡ false) → Went New old d → Commits b d
old-commits b old d h fresh (still c w k g) e = g (all-is (Commits b) old.calls w.place c h w.is (ap b.decided k ∙ e))
old-commits b old d h fresh (again c w le g) e = absurd (both_ways (b.decided d.txn) (fresh le) e)
old-commits b old d h fresh (comes le g) e = absurd (both_ways (b.decided d.txn) (fresh le) e)

commits-own : {New : Comes} (z : Sizes) (b c : Books) (at : ℕ) (old s : LibraryState) → talk.LibraryOk z b at old → talk.LibraryOk z c at s → LibraryOk z at s
    → Tracked New old s → AllByRecursion (Commits b) old.calls → AllByRecursion (Commits (with_library at s b)) s.calls
commits-own {New = New} z b c at old s before later placed tracked h = all-from (Commits (with_library at s b)) s.calls (λ i d is e.
    let home = (all-is (CallOk z s.number s.next s.known) s.calls i d placed.calls is).library ∙ placed.its_number in
    elim (if-decided (d.txn.library == at) (b.decided d.txn) (is_committing (call_of s.calls d.txn)) e) [
      | inl was ↦ old-commits b old d h (λ le. before.undecided d.txn home le) (all-is (Went New old) s.calls i d tracked.calls is) was
      | inr now ↦ sym (ap is_committing (call-there s.calls i d later.apart is)) ∙ now
    ])

decided-other : (at : ℕ) (s : LibraryState) (b : Books) (t : Txn) → (t.library ≡ at → ⊥) → (with_library at s b).decided t ≡ b.decided t
decided-other at s b t ne =
    ap (λ c. if c then b.decided t || is_committing (call_of s.calls t) else b.decided t) (ne_eqb t.library at ne)

commits-other : (z : Sizes) (b : Books) (at : ℕ) (s : LibraryState) (k : ℕ) (x : Node) → (k ≡ at → ⊥)
    → ((y : LibraryState) → x ≡ a_library y → LibraryOk z k y) → LibraryIs (AreCommitting b) x → LibraryIs (AreCommitting (with_library at s b)) x
commits-other z b at s k nowhere ne f h = tt
commits-other z b at s k (a_brick y) ne f h = tt
commits-other z b at s k (a_library y) ne f h = λ live.
    let placed = f y refl in
    all-from (Commits (with_library at s b)) y.calls (λ i d is e.
    let home = (all-is (CallOk z y.number y.next y.known) y.calls i d placed.calls is).library ∙ placed.its_number in
    all-is (Commits b) y.calls i d (h live) is (sym (decided-other at s b d.txn (λ j. ne (sym home ∙ j))) ∙ e))

pub commits-then : {New : Comes} (z : Sizes) (n : Net) (b c : Books) (at : ℕ) (old s : LibraryState) → talk.LibraryOk z b at old → talk.LibraryOk z c at s
    → LibraryOk z at s → ((k : ℕ) (y : LibraryState) → n.node k ≡ a_library y → LibraryOk z k y) → Tracked New old s → AllByRecursion (Commits b) old.calls
    → ((k : ℕ) → LibraryIs (AreCommitting b) (n.node k)) → (k : ℕ) → LibraryIs (AreCommitting (with_library at s b)) (put at (a_library s) n.node k)
commits-then z n b c at old s before later placed others tracked own h =
    at-put (λ k x. LibraryIs (AreCommitting (with_library at s b)) x) at (a_library s) n.node
    (λ live. commits-own z b c at old s before later placed tracked own)
    (λ k ne. commits-other z b at s k (n.node k) ne (others k) (h k))

-- what a brick notes

none-listed : (a : Book) (t : Txn) (list : List ℕ) (m : ℕ) (e : Entry) → has list m ≡ true → ListIs a t list → a t ≡ Some e → e.list ≡ None → ⊥
none-listed a t list m e member (inl is) there none = let no : has [] m ≡ true = ap (λ l. has l m) (sym is) ∙ member in cc
none-listed a t list m e member (inr h) there none =
    let same : h.its ≡ e = (let two : Some h.its ≡ Some e = sym h.there ∙ there in cc) in
    let no : Some list ≡ None = sym h.list_is ∙ ap (λ (f : Entry). f.list) same ∙ none in
    cc

member-commits : (a : Book) (b : Books) (m : ℕ) (c : OpenCall) → IsBooked a c → ListIs a c.txn (b.list c.txn) → IsMember b c.txn m c
    → commits_now c.phase ≡ true
member-commits a b m c booked lists h = elim h.phase_is [
  | inl e ↦ e
  | inr none ↦ absurd (none-listed a c.txn (b.list c.txn) m booked.its h.member lists booked.there
      (none-fits c.phase booked.its.list none booked.list_fits))
]

-- a live brick has noted it, in the world after its turn
pub record Noting (z : Sizes) (v : Net) (a : Book) (b : Books) (at : ℕ) (u : BrickState) : Type 0 where
  pub ground : Ground z v
  pub parts : Commit z v b
  pub here : v.node at ≡ a_brick u
  pub live : u.stopped ≡ false
  pub lists : (t : Txn) → ListIs a t (b.list t)

pub yes-is : (o : Option Bool) → is_yes o ≡ true → o ≡ Some true
yes-is None e = cc
yes-is (Some b) e = ap Some e

noted-commits : (z : Sizes) (v : Net) (a : Book) (b : Books) (at : ℕ) (u : BrickState) (k : ℕ) (x : Node) → Noting z v a (with_brick at u b) at u
    → v.node k ≡ x → LibraryIs (λ y. AllByRecursion (IsBooked a) y.calls) x → LibraryIs (AreCommitting b) x
    → LibraryIs (AreCommitting (with_brick at u b)) x
noted-commits z v a b at u k nowhere g there booked h = tt
noted-commits z v a b at u k (a_brick y) g there booked h = tt
noted-commits z v a b at u k (a_library y) g there booked h = λ live.
    let ok = g.parts.calls k y there in
    all-from (Commits (with_brick at u b)) y.calls (λ i c is e.
    let found = call-there y.calls i c ok.apart is in
    elim (or-is (b.decided c.txn) (is_yes (get u.locks.outcomes c.txn)) e) [
      | inl was ↦ all-is (Commits b) y.calls i c (h live) is was
      | inr now ↦
          let home = (ok.calls c.txn c found).library ∙ ok.number in
          member-commits a (with_brick at u b) at c (all-is (IsBooked a) y.calls i c booked is) (g.lists c.txn)
          (done-open z v (with_brick at u b) c.txn at y u c g.ground g.parts (ap v.node home ∙ there) g.here live g.live
          (yes-is (get u.locks.outcomes c.txn) now) found)
    ])

pub brick-commits : (z : Sizes) (v : Net) (a : Book) (b : Books) (at : ℕ) (u : BrickState) → Noting z v a (with_brick at u b) at u
    → ((k : ℕ) → LibraryIs (λ y. AllByRecursion (IsBooked a) y.calls) (v.node k)) → ((k : ℕ) → LibraryIs (AreCommitting b) (v.node k)) → (k : ℕ)
    → LibraryIs (AreCommitting (with_brick at u b)) (v.node k)
brick-commits z v a b at u g booked h k = noted-commits z v a b at u k (v.node k) g refl (booked k) (h k)
