use Rattle.std.proofs.Common.{◌≡◌, ℕ, ◌≤◌, ◌==◌, true, false, Some, List, [], ◌++◌, refl, sym, ap, ◌∙◌, subst}
use Rattle.std.proofs.lemmas.Bool.{both_ways, eq-eqb}
use Rattle.std.specs.List.{list_any}
use Rattle.dds_base.specs.NodeSet.{has_node}
use Rattle.dds_base.specs.Number.{Txn}
use Rattle.dds_base.specs.declared.op.Order.{Order}
use Rattle.dds_base.specs.declared.pending.Pending.{Pending}
use Rattle.dds_books.specs.Placed.{ArePlaced}
use Rattle.dds_brick_rows.specs.Resolution as rows
use Rattle.dds_core.proofs.LetterTells.{Any}
use Rattle.dds_core.proofs.OrderTells.{order-rests}
use Rattle.dds_core.proofs.Rests.{Whole, whole}
use Rattle.dds_core.specs.Brick.{brick_input}
use Rattle.dds_letters.specs.declared.letter.Letter.{Letter}
use Rattle.dds_locks.specs.Pending.{first_of}
use Rattle.dds_net.proofs.PairTakes.{pairs-does, pairs-takes}
use Rattle.dds_net.proofs.Puts.{at-put, pairs-changed}
use Rattle.dds_net.specs.Event.{IsDeaf, IsFirst, does, stops, takes}
use Rattle.dds_net.specs.Net.{Net, Node, nowhere, a_brick, a_library, Sizes, changed, gains}
use Rattle.dds_states.specs.declared.brick_state.BrickState.{BrickState}
use Rattle.dds_states.specs.declared.library_state.LibraryState.{LibraryState}
use Rattle.dds_resolve.specs.Teams.{is_stopped}
use Rattle.dds_help.proofs.Facts.{first-brick, for-state}
use Rattle.dds_help.proofs.Lists.{any-left}
use Rattle.dds_help.specs.Helped.{AreHelped, Helped, HelpsItself, IsHelpedBy, Stranded, asks_help, first_unknown, puts_off_help, tells_outcome}
use Rattle.dds_help.specs.Helped.Helped.{asked, put_off, resolves, stopped, told}

-- The other events keep who helps with what a stopped library left pending.

-- of a node and itself nothing is said
no-self : (m : ℕ) (x y : Node) (to back : List Letter) → IsHelpedBy m m x y to back
no-self m x y to back s e t p k first apart = absurd (both_ways (m == m) apart (eq-eqb m m refl))

-- a stopped node has nothing pending that is spoken of, and whom it could be asked for is told
deaf-brick : (x : Node) (s : BrickState) → IsDeaf x → x ≡ a_brick s → s.stopped ≡ true
deaf-brick x s deaf e = let k : IsDeaf (a_brick s) = subst IsDeaf e deaf in k

deaf-stopped : (x : Node) → IsDeaf x → is_stopped x ≡ true
deaf-stopped nowhere h = absurd h
deaf-stopped (a_brick s) h = h
deaf-stopped (a_library s) h = h

from-deaf : (m f : ℕ) (x y : Node) (to back : List Letter) → IsDeaf x → IsHelpedBy m f x y to back
from-deaf m f x y to back deaf s e t p k first apart = absurd (both_ways s.stopped k.live (deaf-brick x s deaf e))

to-stopped : (m f : ℕ) (x y : Node) (to back : List Letter) → is_stopped y ≡ true → IsHelpedBy m f x y to back
to-stopped m f x y to back h s e t p k first apart = stopped h

itself-deaf : (m : ℕ) (x : Node) → IsDeaf x → HelpsItself m x
itself-deaf m x deaf s e t p k first = absurd (both_ways s.stopped k.live (deaf-brick x s deaf e))

pub unheard-helped : (z : Sizes) (n : Net) (at from : ℕ) (l : Letter) → IsDeaf (n.node at) → IsFirst z n at from l → AreHelped n →
    AreHelped (changed n (takes z n at from (n.node at) []))
unheard-helped z n at from l deaf f old =
    let x = n.node at in
    record {
      itself = at-put HelpsItself at x n.node (old.itself at) (λ k ne. old.itself k);
      others = pairs-takes IsHelpedBy z n at from l x [] f (record {
        out = λ d nd ne w. from-deaf at d x (n.node d) _ _ deaf;
        back = λ d nd ne w. to-stopped d at (n.node d) x _ _ (deaf-stopped x deaf);
        reply = λ ne w. from-deaf at from x (n.node from) _ _ deaf;
        heard = λ ne w. to-stopped from at (n.node from) x _ _ (deaf-stopped x deaf);
        own = λ ne w. no-self at x x _ _;
        own_heard = λ e w. no-self at x x _ _;
      }) old.others;
    }

pub stops-helped : (z : Sizes) (n : Net) (at : ℕ) (y : Node) (left : ℕ → List Letter) → IsDeaf y → AreHelped n → AreHelped (changed n (stops z n at y left))
stops-helped z n at y left deaf old =
    record {
      itself = at-put HelpsItself at y n.node (itself-deaf at y deaf) (λ k ne. old.itself k);
      others = pairs-changed IsHelpedBy n (stops z n at y left) (record {
        own = no-self at y y _ _;
        from = λ d nd. from-deaf at d y (n.node d) _ _ deaf;
        to = λ d nd. to-stopped d at (n.node d) y _ _ (deaf-stopped y deaf);
      }) old.others;
    }

-- a library has nothing pending, and is never the first member
no-brick : (x : LibraryState) (y : BrickState) → a_library x ≡ a_brick y → ⊥
no-brick x y e = cc

from-library : (m f : ℕ) (s : LibraryState) (y : Node) (to back : List Letter) → IsHelpedBy m f (a_library s) y to back
from-library m f s y to back u e t p k first apart = absurd (no-brick s u e)

to-library : (z : Sizes) (n : Net) (m f : ℕ) (s : LibraryState) (y : Node) (to back : List Letter) → z.bricks ≤ 64 → ArePlaced z n →
    n.node f ≡ a_library s → IsHelpedBy m f (n.node m) y to back
to-library z n m f s y to back few placed is x here t p k first apart =
    let b = first-brick z n m f x t p few placed here k.pending first in
    absurd (no-brick s b.state (sym is ∙ b.here))

itself-library : (m : ℕ) (s : LibraryState) → HelpsItself m (a_library s)
itself-library m s u e t p k first = absurd (no-brick s u e)

pub library-takes-helped : (z : Sizes) (n : Net) (at from : ℕ) (l : Letter) (s u : LibraryState) (ls : List _) → z.bricks ≤ 64 → ArePlaced z n →
    n.node at ≡ a_library s → IsFirst z n at from l → AreHelped n → AreHelped (changed n (takes z n at from (a_library u) ls))
library-takes-helped z n at from l s u ls few placed here f old =
    let y = a_library u in
    record {
      itself = at-put HelpsItself at y n.node (itself-library at u) (λ k ne. old.itself k);
      others = pairs-takes IsHelpedBy z n at from l y ls f (record {
        out = λ d nd ne w. from-library at d u (n.node d) _ _;
        back = λ d nd ne w. to-library z n d at s y _ _ few placed here;
        reply = λ ne w. from-library at from u (n.node from) _ _;
        heard = λ ne w. to-library z n from at s y _ _ few placed here;
        own = λ ne w. no-self at y y _ _;
        own_heard = λ e w. no-self at y y _ _;
      }) old.others;
    }

pub library-does-helped : (z : Sizes) (n : Net) (at : ℕ) (s u : LibraryState) (ls : List _) → z.bricks ≤ 64 → ArePlaced z n → n.node at ≡ a_library s →
    AreHelped n → AreHelped (changed n (does z n at (a_library u) ls))
library-does-helped z n at s u ls few placed here old =
    let y = a_library u in
    record {
      itself = at-put HelpsItself at y n.node (itself-library at u) (λ k ne. old.itself k);
      others = pairs-does IsHelpedBy z n at y ls (record {
        out = λ d nd w. from-library at d u (n.node d) _ _;
        back = λ d nd w. to-library z n d at s y _ _ few placed here;
        own = λ w. no-self at y y _ _;
      }) old.others;
    }

-- an order at a brick leaves all of that alone
was-stranded : (s u : BrickState) (t : Txn) (p : Pending) → whole u ≡ whole s → Stranded u t p → Stranded s t p
was-stranded s u t p e k =
    record {
      live = sym (ap (λ (w : Whole). w.who.stopped) e) ∙ k.live;
      pending = sym (ap (λ (w : Whole). first_of w.pending t) e) ∙ k.pending;
      library = sym (ap (λ (w : Whole). has_node w.who.known t.library) e) ∙ k.library;
    }

itself-told : (m : ℕ) (x : Node) (s u : BrickState) → x ≡ a_brick s → whole u ≡ whole s → HelpsItself m x → HelpsItself m (a_brick u)
itself-told m x s u here e old v is t p =
    for-state (λ v. Stranded v t p → first_unknown p.list v.known ≡ Some m → rows.is_resolved v t ≡ true) u v is
    (λ k first. ap (λ (w : Whole). list_any (rows.is_of t) w.resolving) e
    ∙ old s here t p (was-stranded s u t p e k) (sym (ap (λ (w : Whole). first_unknown p.list w.who.known) e) ∙ first))

more-asked : (t : Txn) (y : Node) (to more back : List Letter) → Helped t y to back → Helped t y (to ++ more) back
more-asked t y to more back (stopped i) = stopped i
more-asked t y to more back (asked i) = asked (any-left (asks_help t) to more i)
more-asked t y to more back (put_off x i j) = put_off x i j
more-asked t y to more back (resolves x i j) = resolves x i j
more-asked t y to more back (told i) = told i

from-told : (m f : ℕ) (x y : Node) (s u : BrickState) (to more back : List Letter) → x ≡ a_brick s → whole u ≡ whole s → IsHelpedBy m f x y to back →
    IsHelpedBy m f (a_brick u) y (to ++ more) back
from-told m f x y s u to more back here e old v is t p =
    for-state (λ v. Stranded v t p → first_unknown p.list v.known ≡ Some f → (f == m) ≡ false → Helped t y (to ++ more) back) u v is
    (λ k first apart. more-asked t y to more back
    (old s here t p (was-stranded s u t p e k) (sym (ap (λ (w : Whole). first_unknown p.list w.who.known) e) ∙ first) apart))

same-helped : (t : Txn) (y : Node) (s u : BrickState) (to back more : List Letter) → y ≡ a_brick s → whole u ≡ whole s → Helped t y to back →
    Helped t (a_brick u) to (back ++ more)
same-helped t y s u to back more here e (stopped i) = stopped (ap (λ (w : Whole). w.who.stopped) e ∙ sym (ap is_stopped here) ∙ i)
same-helped t y s u to back more here e (asked i) = asked i
same-helped t y s u to back more here e (put_off x is i) =
    put_off u refl (for-state (λ x. puts_off_help t x.deferred ≡ true → puts_off_help t u.deferred ≡ true) s x (sym here ∙ is)
    (λ j. ap (λ (w : Whole). puts_off_help t w.deferred) e ∙ j) i)
same-helped t y s u to back more here e (resolves x is i) =
    resolves u refl (for-state (λ x. rows.is_resolved x t ≡ true → rows.is_resolved u t ≡ true) s x (sym here ∙ is)
    (λ j. ap (λ (w : Whole). list_any (rows.is_of t) w.resolving) e ∙ j) i)
same-helped t y s u to back more here e (told i) = told (any-left (tells_outcome t) back more i)

pub told-helped : (z : Sizes) (n : Net) (at : ℕ) (o : Order) (s : BrickState) → n.node at ≡ a_brick s → AreHelped n →
    AreHelped (changed n (does z n at (a_brick (brick_input s o).state) (brick_input s o).out.letters))
told-helped z n at o s here old =
    let u = (brick_input s o).state in
    let y = a_brick u in
    let ls = (brick_input s o).out.letters in
    let e = (order-rests {L = Any} s o).same in
    record {
      itself = at-put HelpsItself at y n.node (itself-told at (n.node at) s u here e (old.itself at)) (λ k ne. old.itself k);
      others = pairs-does IsHelpedBy z n at y ls (record {
        out = λ d nd w. from-told at d (n.node at) (n.node d) s u (n.channel at d) (gains z ls d) (n.channel d at) here e w;
        back = λ d nd w x is t p k first apart. same-helped t (n.node at) s u (n.channel d at) (n.channel at d) (gains z ls d) here e
            (w x is t p k first apart);
        own = λ w. no-self at y y _ _;
      }) old.others;
    }
