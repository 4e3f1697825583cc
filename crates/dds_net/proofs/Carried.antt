use Rattle.std.proofs.Common.{◌≡◌, ℕ, ◌==◌, ◌&&◌, Bool, true, false, not, List, [], ◌∷◌, refl, subst}
use Rattle.std.specs.List.{AllByRecursion}
use Rattle.std.specs.Prelude.{if◌then◌else◌}
use Rattle.dds_base.specs.declared.number.NodeNo.{NodeNo}
use Rattle.dds_core.specs.Brick.{brick_input, live_brick_turn}
use Rattle.dds_core.specs.LibraryTurn.{live_library_turn}
use Rattle.dds_core.proofs.Lists.{all-append, all-front}
use Rattle.dds_letters.specs.declared.letter.Letter.{Letter}
use Rattle.dds_letters.specs.declared.letter.Letter.TheVariants as letter
use Rattle.dds_cluster.specs.World.{emptied}
use Rattle.dds_cluster.specs.declared.trace.Caller.{Caller}
use Rattle.dds_net.proofs.Letters.{rest-all}
use Rattle.dds_net.proofs.Puts.{at-put, pairs-changed}
use Rattle.dds_net.specs.Event.{Event, nothing, unheard, unasked, brick_takes, brick_told, brick_stops, library_takes, library_asked, library_stops}
use Rattle.dds_net.specs.Event.{Fits, IsLeft, asked_turn, does, moved, notice_to, stops, takes, without_first}
use Rattle.dds_net.specs.Net.{Net, Node, a_brick, a_library, Sizes, changed, gains, is_in, landing, lands, when_in}

-- What is true of each node, and of each letter on its way by the nodes that it goes from and to, after an event: what was so
-- of the others, and what is owed of the node that the event changes and of the letters that this node sends.

-- the nodes: what is owed of the changed one
abbrev pub Becomes : (ℕ → Node → Type 0) → Event → Type 0
Becomes P nothing = Unit {0}
Becomes P (unheard at from l) = Unit {0}
Becomes P (unasked at caller call o) = Unit {0}
Becomes P (brick_takes at from l s) = P at (a_brick (live_brick_turn s from l).state)
Becomes P (brick_told at o s) = P at (a_brick (brick_input s o).state)
Becomes P (brick_stops at s kept) = P at (a_brick (emptied s.number))
Becomes P (library_takes at from l s) = P at (a_library (live_library_turn s from l).state)
Becomes P (library_asked at caller call o s) = P at (a_library (asked_turn s caller call o).state)
Becomes P (library_stops at s kept) = P at (a_library (record s { stopped = true }))

pub nodes-moved : (P : ℕ → Node → Type 0) (z : Sizes) (n : Net) (e : Event) → ((k : ℕ) → P k (n.node k)) → Becomes P e → (k : ℕ) → P k ((moved z n e).node k)
nodes-moved P z n nothing g h = g
nodes-moved P z n (unasked at caller call o) g h = g
nodes-moved P z n (unheard at from l) g h = at-put P at (n.node at) n.node (g at) (λ k ne. g k)
nodes-moved P z n (brick_takes at from l s) g h = at-put P at _ n.node h (λ k ne. g k)
nodes-moved P z n (brick_told at o s) g h = at-put P at _ n.node h (λ k ne. g k)
nodes-moved P z n (brick_stops at s kept) g h = at-put P at _ n.node h (λ k ne. g k)
nodes-moved P z n (library_takes at from l s) g h = at-put P at _ n.node h (λ k ne. g k)
nodes-moved P z n (library_asked at caller call o s) g h = at-put P at _ n.node h (λ k ne. g k)
nodes-moved P z n (library_stops at s kept) g h = at-put P at _ n.node h (λ k ne. g k)

-- the letters: what is owed of those that a node sends, wherever they come
abbrev pub Carried : Type 1
Carried = ℕ → ℕ → Letter → Type 0

abbrev pub AllCarried : Carried → Net → Type 0
AllCarried P n = (a b : ℕ) → AllByRecursion (P a b) (n.channel a b)

abbrev pub Lands : Carried → Sizes → ℕ → ℕ → NodeNo × Letter → Type 0
Lands P z at b m = lands z m.0 b ≡ true → P at b m.1

abbrev pub News : Carried → Sizes → ℕ → List (NodeNo × Letter) → Type 0
News P z at ls = (b : ℕ) → is_in z b ≡ true → AllByRecursion (Lands P z at b) ls

abbrev pub Sends : Carried → Sizes → Event → Type 0
Sends P z nothing = Unit {0}
Sends P z (unheard at from l) = Unit {0}
Sends P z (unasked at caller call o) = Unit {0}
Sends P z (brick_takes at from l s) = News P z at (live_brick_turn s from l).out.letters
Sends P z (brick_told at o s) = News P z at (brick_input s o).out.letters
Sends P z (brick_stops at s kept) = (b : ℕ) → P at b letter.Notice
Sends P z (library_takes at from l s) = News P z at (live_library_turn s from l).out.letters
Sends P z (library_asked at caller call o s) = News P z at (asked_turn s caller call o).out.letters
Sends P z (library_stops at s kept) = (b : ℕ) → P at b letter.Notice

landing-if : (P : Letter → Type 0) (c : Bool) (l : Letter) (ls : List Letter) → (c ≡ true → P l) → AllByRecursion P ls
    → AllByRecursion P (if c then l ∷ ls else ls)
landing-if P true l ls f h = (f refl, h)
landing-if P false l ls f h = h

landing-news : (P : Carried) (z : Sizes) (at b : ℕ) (ls : List (NodeNo × Letter)) → AllByRecursion (Lands P z at b) ls
    → AllByRecursion (P at b) (landing z b ls)
landing-news P z at b [] h = tt
landing-news P z at b (l ∷ ls) h = landing-if (P at b) (lands z l.0 b) l.1 (landing z b ls) h.0 (landing-news P z at b ls h.1)

when-all : (P : Letter → Type 0) (c : Bool) (ls : List Letter) → (c ≡ true → AllByRecursion P ls) → AllByRecursion P (when_in c ls)
when-all P true ls f = f refl
when-all P false ls f = tt

gains-news : (P : Carried) (z : Sizes) (at b : ℕ) (ls : List (NodeNo × Letter)) → News P z at ls → AllByRecursion (P at b) (gains z ls b)
gains-news P z at b ls h = when-all (P at b) (is_in z b) (landing z b ls) (λ e. landing-news P z at b ls (h b e))

takes-carried : (P : Carried) (z : Sizes) (n : Net) (at from : ℕ) (y : Node) (ls : List (NodeNo × Letter)) → News P z at ls → AllCarried P n
    → AllCarried P (changed n (takes z n at from y ls))
takes-carried P z n at from y ls h g =
    let rest = (λ (a b : ℕ). rest-all (P a b) n at from a b (g a b)) in
    let mine = (λ (b : ℕ). all-append (P at b) (without_first n at from at b) (gains z ls b) (rest at b) (gains-news P z at b ls h)) in
    pairs-changed (λ a b x y c d. AllByRecursion (P a b) c) n (takes z n at from y ls)
    (record { own = mine at; from = λ b nb. mine b; to = λ a na. rest a at }) g

does-carried : (P : Carried) (z : Sizes) (n : Net) (at : ℕ) (y : Node) (ls : List (NodeNo × Letter)) → News P z at ls → AllCarried P n
    → AllCarried P (changed n (does z n at y ls))
does-carried P z n at y ls h g =
    let mine = (λ (b : ℕ). all-append (P at b) (n.channel at b) (gains z ls b) (g at b) (gains-news P z at b ls h)) in
    pairs-changed (λ a b x y c d. AllByRecursion (P a b) c) n (does z n at y ls) (record { own = mine at; from = λ b nb. mine b; to = λ a na. g a at }) g

stops-carried : (P : Carried) (z : Sizes) (n : Net) (at : ℕ) (y : Node) (left : ℕ → List Letter) → IsLeft n at left → ((b : ℕ) → P at b letter.Notice)
    → AllCarried P n → AllCarried P (changed n (stops z n at y left))
stops-carried P z n at y left f h g =
    let mine = (λ (b : ℕ). all-append (P at b) (left b) (notice_to z at b) (all-front (P at b) (left b) (f.front b).gone
    (subst (AllByRecursion (P at b)) (f.front b).is (g at b))) (when-all (P at b) (is_in z b && not (b == at)) (letter.Notice ∷ []) (λ e. (h b, tt)))) in
    pairs-changed (λ a b x y c d. AllByRecursion (P a b) c) n (stops z n at y left) (record { own = mine at; from = λ b nb. mine b; to = λ a na. g a at }) g

pub letters-moved : (P : Carried) (z : Sizes) (cs : List Caller) (n : Net) (e : Event) → Fits z cs n e → AllCarried P n → Sends P z e
    → AllCarried P (moved z n e)
letters-moved P z cs n nothing f g h = g
letters-moved P z cs n (unasked at caller call o) f g h = g
letters-moved P z cs n (unheard at from l) f g h = takes-carried P z n at from (n.node at) [] (λ b e. tt) g
letters-moved P z cs n (brick_takes at from l s) f g h = takes-carried P z n at from (a_brick (live_brick_turn s from l).state) _ h g
letters-moved P z cs n (brick_told at o s) f g h = does-carried P z n at (a_brick (brick_input s o).state) _ h g
letters-moved P z cs n (brick_stops at s kept) f g h = stops-carried P z n at (a_brick (emptied s.number)) kept f.left h g
letters-moved P z cs n (library_takes at from l s) f g h = takes-carried P z n at from (a_library (live_library_turn s from l).state) _ h g
letters-moved P z cs n (library_asked at caller call o s) f g h = does-carried P z n at (a_library (asked_turn s caller call o).state) _ h g
letters-moved P z cs n (library_stops at s kept) f g h = stops-carried P z n at (a_library (record s { stopped = true })) kept f.left h g
