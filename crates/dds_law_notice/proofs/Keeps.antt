use Rattle.std.proofs.Common.{◌≡◌, ℕ, ◌<◌, ◌≤◌, inl, inr, ◌==◌, ◌&&◌, Bool, true, false, not, List, [], ◌∷◌, ◌++◌, refl, sym, ap, ◌∙◌, subst}
use Rattle.std.proofs.lemmas.Bool.{and_parts, both_ways, cases_eq, eq-eqb, ne_eqb}
use Rattle.std.proofs.lemmas.List.{append-nil}
use Rattle.std.specs.Prelude.{if◌then◌else◌}
use Rattle.dds_base.specs.declared.number.NodeNo.{NodeNo}
use Rattle.dds_core.proofs.Tells.{NoNotices, is_notice}
use Rattle.dds_letters.specs.declared.letter.Letter.{Letter}
use Rattle.dds_letters.specs.declared.letter.Letter.TheVariants as letter
use Rattle.dds_net.proofs.Letters.{gains-all}
use Rattle.dds_net.proofs.OneWay.{AllWays, Way, does-ways, stops-ways, takes-ways}
use Rattle.dds_net.proofs.Places.{node-below}
use Rattle.dds_net.proofs.Runs.{IsKept}
use Rattle.dds_net.specs.Event.{nothing, unheard, unasked, brick_takes, brick_told, brick_stops, library_takes, library_asked, library_stops, IsDeaf, IsFirst}
use Rattle.dds_net.specs.Event.{IsFront, does, stops, takes}
use Rattle.dds_net.specs.Net.{Net, Node, nowhere, a_brick, a_library, Sizes, changed, gains, is_in, when_in}
use Rattle.dds_law_notice.proofs.Link.{Link, Silent, known_after, link-deaf, link-front, link-more, link-stops, link-takes}
use Rattle.dds_law_notice.proofs.Views.{Does, Takes, View, brick-does, brick-takes, knows, knows-other, knows-sender, learns, library-does, library-takes}
use Rattle.dds_law_notice.proofs.Views.{none-known, same-stopped, view}

-- Each event keeps the links to the nodes of the cluster. A node sends itself no notice.

abbrev pub Linked : Sizes → Way
Linked z a b x y c = is_in z b ≡ true → Link (view y).stopped c ((view x).stopped && not (a == b)) (knows (view y) a)

abbrev pub AreLinked : Sizes → Net → Type 0
AreLinked z n = AllWays (Linked z) n

-- what a node sends
silent-gains : (z : Sizes) (b : ℕ) (ls : List (NodeNo × Letter)) → NoNotices ls → Silent (gains z ls b)
silent-gains z b ls h = gains-all (λ l. is_notice l ≡ false) z b ls h

nothing-gained : (z : Sizes) (b : ℕ) (ls : List (NodeNo × Letter)) → ls ≡ [] → gains z ls b ≡ []
nothing-gained z b ls e = ap (λ x. gains z x b) e ∙ none (is_in z b)
  where
    none : (c : Bool) → when_in c [] ≡ []
    none true = refl
    none false = refl

says : (z : Sizes) (at b : ℕ) (x y r : Node) (ls : List (NodeNo × Letter)) (c : List Letter) → (view y).stopped ≡ (view x).stopped → NoNotices ls
    → ((view x).stopped ≡ true → ls ≡ []) → Linked z at b x r c → Linked z at b y r (c ++ gains z ls b)
says z at b x y r ls c e silent still g h =
    subst (λ s. Link (view r).stopped (c ++ gains z ls b) (s && not (at == b)) (knows (view r) at)) (sym e)
    (link-more c (gains z ls b) (silent-gains z b ls silent) (λ s. nothing-gained z b ls (still (and_parts (view x).stopped (not (at == b)) s).0)) (g h))

-- a live node takes a letter
live-known : (deaf : Bool) (l : Letter) (known : Bool) → deaf ≡ false → known_after deaf l known ≡ (if is_notice l then true else known)
live-known true l known e = cc
live-known false l known e = refl

takes-links : (z : Sizes) (n : Net) (at from : ℕ) (l : Letter) (x y : Node) (ls : List (NodeNo × Letter)) → n.node at ≡ x → from < 80
    → Takes from l x y ls → IsFirst z n at from l → AreLinked z n → AreLinked z (changed n (takes z n at from y ls))
takes-links z n at from l x y ls here few took f g =
    let t = subst (λ w. Takes from l w y ls) (sym here) took in
    let v = view (n.node at) in
    let heard : (a : ℕ) (s : Bool) (c : List Letter) → Link v.stopped c s (knows (learns from l v) a) → Link (view y).stopped c s (knows (view y) a) =
    (λ a s c k. subst (λ w. Link w.stopped c s (knows w a)) (sym t.after)
    (subst (λ d. Link d c s (knows (learns from l v) a)) (sym (same-stopped from l v)) k)) in
    takes-ways (Linked z) z n at from l y ls f (record {
      stays = λ a s c ne k h. heard a _ c (subst (Link v.stopped c _) (sym (knows-other from a l v few ne)) (k h));
      hears = λ s c k h. heard from _ c
          (subst (Link v.stopped c _) (live-known v.stopped l (knows v from) t.live ∙ sym (knows-sender from l v few)) (link-takes l c (k h)));
      says = λ b r c k. says z at b (n.node at) y r ls c
          (ap (λ (w : View). w.stopped) t.after ∙ same-stopped from l v) t.silent (λ e. absurd (both_ways v.stopped t.live e)) k;
    }) g

-- one that has stopped takes it
deaf-is : (x : Node) → IsDeaf x → (view x).stopped ≡ true
deaf-is nowhere h = absurd h
deaf-is (a_brick s) h = h
deaf-is (a_library s) h = h

deaf-known : (deaf : Bool) (l : Letter) (known : Bool) → deaf ≡ true → known_after deaf l known ≡ known
deaf-known true l known e = refl
deaf-known false l known e = cc

unheard-links : (z : Sizes) (n : Net) (at from : ℕ) (l : Letter) → IsDeaf (n.node at) → IsFirst z n at from l → AreLinked z n
    → AreLinked z (changed n (takes z n at from (n.node at) []))
unheard-links z n at from l deaf f g =
    let x = n.node at in
    takes-ways (Linked z) z n at from l x [] f (record {
      stays = λ a s c ne k. k;
      hears = λ s c k h. subst (Link (view x).stopped c _) (deaf-known (view x).stopped l (knows (view x) from) (deaf-is x deaf)) (link-takes l c (k h));
      says = λ b r c k. says z at b x x r [] c refl tt (λ e. refl) k;
    }) g

-- a node does something of itself
does-links : (z : Sizes) (n : Net) (at : ℕ) (x y : Node) (ls : List (NodeNo × Letter)) → n.node at ≡ x → Does x y ls → AreLinked z n
    → AreLinked z (changed n (does z n at y ls))
does-links z n at x y ls here did g =
    let t = subst (λ w. Does w y ls) (sym here) did in
    does-ways (Linked z) z n at y ls (record {
      stays = λ a s c k h. subst (λ w. Link w.stopped c ((view s).stopped && not (a == at)) (knows w a)) (sym t.after) (k h);
      says = λ b r c k. says z at b (n.node at) y r ls c (ap (λ (w : View). w.stopped) t.after) t.silent t.still k;
    }) g

-- a node stops
pub record Ends (x y : Node) : Type 0 where
  pub before : (view x).stopped ≡ false
  pub after : (view y).stopped ≡ true
  pub known : (a : ℕ) → knows (view x) a ≡ false → knows (view y) a ≡ false

leaves : {deaf known : Bool} (c left : List Letter) (was now same told : Bool) → was ≡ false → now ≡ true → told ≡ not same → IsFront left c
    → Link deaf c (was && not same) known → Link deaf (left ++ when_in told (letter.Notice ∷ [])) (now && not same) known
leaves {deaf = deaf} {known = known} c left false true true false e n o f g =
    subst (λ x. Link deaf x false known) (sym (append-nil left)) (link-front c left f g)
leaves c left false true false true e n o f g = link-stops c left f g
leaves c left was now same told e n o f g = cc

either-way : (a b : ℕ) → (a == b) ≡ (b == a)
either-way a b = elim (cases_eq a b) [
  | inl e ↦ eq-eqb a b e ∙ sym (eq-eqb b a (sym e))
  | inr ne ↦ ne_eqb a b ne ∙ sym (ne_eqb b a (λ e. ne (sym e)))
]

stop-links : (z : Sizes) (n : Net) (at : ℕ) (x y : Node) (left : ℕ → List Letter) → n.node at ≡ x → ((b : ℕ) → IsFront (left b) (n.channel at b))
    → Ends x y → AreLinked z n → AreLinked z (changed n (stops z n at y left))
stop-links z n at x y left here f ended g =
    let t = subst (λ w. Ends w y) (sym here) ended in
    stops-ways (Linked z) z n at y left f (record {
      stays = λ a s c k h.
          subst (λ d. Link d c ((view s).stopped && not (a == at)) (knows (view y) a)) (sym t.after) (link-deaf (knows (view y) a) c (t.known a) (k h));
      leaves = λ b r c mine front k h.
          leaves c mine (view (n.node at)).stopped (view y).stopped (at == b) (is_in z b && not (b == at))
          t.before t.after (ap (λ i. i && not (b == at)) h ∙ ap not (either-way b at)) front (k h);
    }) g

pub links-kept : (z : Sizes) → z.bricks ≤ 64 → z.libraries ≤ 16 → IsKept z (Unit {0}) (λ h n e b. tt) (λ h n b. AreLinked z n)
links-kept z few some h n nothing b u f g = g
links-kept z few some h n (unasked at caller call o) b u f g = g
links-kept z few some h n (unheard at from l) b u f g = unheard-links z n at from l f.deaf f.letter g
links-kept z few some h n (brick_takes at from l s) b u f g =
    takes-links z n at from l (a_brick s) _ _ f.here (node-below z from few some f.letter.sender) (brick-takes s from l f.live) f.letter g
links-kept z few some h n (brick_told at o s) b u f g = does-links z n at (a_brick s) _ _ f.here (brick-does s o) g
links-kept z few some h n (brick_stops at s left) b u f g =
    stop-links z n at (a_brick s) _ left f.here f.left.front (record { before = f.live; after = refl; known = λ a e. none-known a }) g
links-kept z few some h n (library_takes at from l s) b u f g =
    takes-links z n at from l (a_library s) _ _ f.here (node-below z from few some f.letter.sender) (library-takes s from l f.live) f.letter g
links-kept z few some h n (library_asked at caller call o s) b u f g =
    does-links z n at (a_library s) _ _ f.here (library-does s caller call o f.live) g
links-kept z few some h n (library_stops at s left) b u f g =
    stop-links z n at (a_library s) _ left f.here f.left.front (record { before = f.live; after = refl; known = λ a e. e }) g
