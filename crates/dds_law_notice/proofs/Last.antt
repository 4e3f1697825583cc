use Rattle.std.proofs.Common.{◌≡◌, ℕ, zero, suc, ◌+◌, ◌≤◌, inl, inr, ◌==◌, ◌&&◌, Bool, true, false, not, Some, List, [], ◌∷◌, ◌++◌, length, refl, sym, ap, ◌∙◌}
use Rattle.std.proofs.Common.{subst, arith}
use Rattle.std.proofs.lemmas.Bool.{and_parts, both_ways, cases_Bool}
use Rattle.std.specs.List.{AllByRecursion}
use Rattle.std.specs.Prelude.{slice_get, take}
use Rattle.dds_core.proofs.Tells.{is_notice}
use Rattle.dds_letters.specs.declared.letter.Letter.{Letter}
use Rattle.dds_letters.specs.declared.letter.Letter.TheVariants as letter
use Rattle.dds_script.specs.Opening.{OpeningOf, ranges_of}
use Rattle.dds_script.specs.Ranges.{IsRanges}
use Rattle.dds_world.specs.Notices.{Knows, NoticeIsLast}
use Rattle.dds_world.specs.Places.{HasStopped}
use Rattle.dds_cluster.specs.Trace.{is_run, run_of, start}
use Rattle.dds_cluster.specs.World.{World, link}
use Rattle.dds_cluster.specs.declared.step.Message.{Message}
use Rattle.dds_cluster.specs.declared.step.Step.{Step}
use Rattle.dds_net.proofs.Opening.{IsNew, no_node, new_a_brick, new_a_library, start-channel, start-node}
use Rattle.dds_net.proofs.Places.{is-in}
use Rattle.dds_net.proofs.Prefixes.{run-take}
use Rattle.dds_net.proofs.Runs.{net-built, run-keeps}
use Rattle.dds_cluster.proofs.Sizes.{IsSized, sized-start}
use Rattle.dds_net.proofs.Nodes.{brick-in, brick-node, library-in, library-node}
use Rattle.dds_net.proofs.Ways.{LinkIs, NodeIs, is_brick, is_library, is_nowhere, link-is, no_link, node-is, nothing-on, some_link, travels}
use Rattle.dds_net.specs.Net.{Node, nowhere, Sizes, channel_at, is_in, letters_of, net, node_at, sizes_of}
use Rattle.dds_law_notice.proofs.Keeps.{AreLinked, links-kept}
use Rattle.dds_law_notice.proofs.Link.{Link, Silent, head, lives, over, tail, told}
use Rattle.dds_law_notice.proofs.Views.{View, knows, none-known, view}
use Rattle.dds_law_notice.specs.Law.{NoticesAreLast}

-- What the links say of the worlds of a run.

-- the opening
new-view : (o : OpeningOf) (n : ℕ) (x : Node) → IsNew o n x → view x ≡ view nowhere
new-view o n x (no_node e) = ap view e
new-view o n x (new_a_brick e) = ap view e
new-view o n x (new_a_library high e) = ap view e

new-link : (v w : View) (apart : Bool) (a : ℕ) (c : List Letter) → v ≡ view nowhere → w ≡ view nowhere → c ≡ []
    → Link w.stopped c (v.stopped && apart) (knows w a)
new-link v w apart a c e f g =
    subst (λ x. Link w.stopped c (x.stopped && apart) (knows w a)) (sym e) (subst (λ x. Link x.stopped c false (knows x a)) (sym f)
    (subst (Link false c false) (sym (none-known a)) (lives (subst Silent (sym g) tt))))

pub start-links : (o : OpeningOf) → AreLinked (sizes_of o) (net (sizes_of o) (start o).world)
start-links o a b h =
    let n = net (sizes_of o) (start o).world in
    new-link (view (n.node a)) (view (n.node b)) (not (a == b)) a (n.channel a b) (new-view o a (n.node a) (start-node o a))
    (new-view o b (n.node b) (start-node o b)) (start-channel o a b)

-- who has stopped, and who is known
stopped-if : (w : World) (n : ℕ) → NodeIs w n → (view (node_at w n)).stopped ≡ true → HasStopped w n
stopped-if w n (is_nowhere e) h = let k = sym (ap (λ x. (view x).stopped) e) ∙ h in cc
stopped-if w n (is_brick s b e) h = inl (s, b, sym (ap (λ x. (view x).stopped) e) ∙ h)
stopped-if w n (is_library s b e) h = inr (s, b, sym (ap (λ x. (view x).stopped) e) ∙ h)

-- a node of the cluster that knows another one
record KnowsHere (z : Sizes) (w : World) (n other : ℕ) : Type 0 where
  inside : is_in z n ≡ true
  knows : knows (view (node_at w n)) other ≡ true

knows-here : (z : Sizes) (w : World) (n other : ℕ) → IsSized z.bricks z.libraries w → Knows w n other → KnowsHere z w n other
knows-here z w n other g (inl h) = record { inside = brick-in z w n h.0 g h.1; knows = ap (λ x. knows (view x) other) (brick-node w n h.0 h.1) ∙ h.2 }
knows-here z w n other g (inr h) = record { inside = library-in z w n h.0 g h.1; knows = ap (λ x. knows (view x) other) (library-node w n h.0 h.1) ∙ h.2 }

-- what a link says of a node that is known, and of one that sent a notice
record IsOver (s : Bool) (c : List Letter) : Type 0 where
  stopped : s ≡ true
  nothing : c ≡ []

link-over : {s k d : Bool} (c : List Letter) → Link d c s k → k ≡ true → IsOver s c
link-over c (lives h) e = cc
link-over c (told front is h) e = cc
link-over c (over known is h) e = record { stopped = refl; nothing = is }

abbrev NoticesIf : Bool → Letter → Type 0
NoticesIf s l = is_notice l ≡ true → s ≡ true

silent-if : (s : Bool) (c : List Letter) → Silent c → AllByRecursion (NoticesIf s) c
silent-if s [] h = tt
silent-if s (l ∷ c) h = (λ n. absurd (both_ways (is_notice l) h.0 n), silent-if s c h.1)

stopped-all : (c : List Letter) → AllByRecursion (NoticesIf true) c
stopped-all [] = tt
stopped-all (l ∷ c) = (λ n. refl, stopped-all c)

link-notices : {s k d : Bool} (c : List Letter) → Link d c s k → AllByRecursion (NoticesIf s) c
link-notices c (lives h) = silent-if false c h
link-notices c (told front is h) = stopped-all c
link-notices c (over known is h) = stopped-all c

-- a notice on a link is the last letter there
silent-at : (ms : List Message) (at : ℕ) (m : Message) (more : List Message) → slice_get ms at ≡ Some m → Silent (letters_of (ms ++ more))
    → is_notice m.letter ≡ true → ⊥
silent-at [] at m more e h n = cc
silent-at (x ∷ ms) zero m more e h n = let is : x ≡ m = cc in both_ways (is_notice m.letter) (subst (λ (y : Message). is_notice y.letter ≡ false) is h.0) n
silent-at (x ∷ ms) (suc at) m more e h n = silent-at ms at m more e h.1 n

nil-front : (ms more : List Message) → letters_of (ms ++ more) ≡ [] → ms ≡ []
nil-front [] more e = refl
nil-front (x ∷ ms) more e = cc

nothing-at : (ms more : List Message) (at : ℕ) (m : Message) → letters_of (ms ++ more) ≡ [] → slice_get ms at ≡ Some m → ⊥
nothing-at ms more at m h e = let k : slice_get [] at ≡ Some m = sym (ap (λ xs. slice_get xs at) (nil-front ms more h)) ∙ e in cc

last-of : (ms more : List Message) (at : ℕ) (m : Message) (front : List Letter) → slice_get ms at ≡ Some m → is_notice m.letter ≡ true
    → letters_of (ms ++ more) ≡ front ++ letter.Notice ∷ [] → Silent front → length ms ≡ at + 1
last-of [] more at m front e n is s = cc
last-of (x ∷ ms) more zero m [] e n is s = ap (λ (xs : List Message). suc (length xs)) (nil-front ms more (ap tail is)) ∙ omega arith
last-of (x ∷ ms) more zero m (l ∷ front) e n is s =
    let same : x ≡ m = cc in absurd (both_ways (is_notice m.letter) (sym (ap (λ (y : Message). is_notice y.letter) same) ∙ ap (λ y. is_notice (head l y)) is
    ∙ s.0) n)
last-of (x ∷ ms) more (suc at) m [] e n is s = absurd (nothing-at ms more at m (ap tail is) e)
last-of (x ∷ ms) more (suc at) m (l ∷ front) e n is s = let k = last-of ms more at m front e n (ap tail is) s.1 in omega (arith, k)

link-last : {s k d : Bool} (ms more : List Message) (at : ℕ) (m : Message) (c : List Letter) → Link d c s k → c ≡ letters_of (ms ++ more)
    → slice_get ms at ≡ Some m → is_notice m.letter ≡ true → length ms ≡ at + 1
link-last ms more at m c (lives h) is e n = absurd (silent-at ms at m more e (subst Silent is h) n)
link-last ms more at m c (told front t h) is e n = last-of ms more at m front e n (sym is ∙ t) h
link-last ms more at m c (over known o h) is e n = absurd (nothing-at ms more at m (sym is ∙ o) e)

last-in : (z : Sizes) (w : World) (ms : List Message) (at : ℕ) (m : Message) → AreLinked z (net z w) → LinkIs z w ms → slice_get ms at ≡ Some m
    → is_notice m.letter ≡ true → length ms ≡ at + 1
last-in z w ms at m g (no_link e) is n = let k : slice_get [] at ≡ Some m = sym (ap (λ xs. slice_get xs at) e) ∙ is in cc
last-in z w ms at m g (some_link a b inside more e) is n = link-last ms more at m (channel_at z w a b) (g a b inside) e is n

in-cluster : (z : Sizes) (w : World) (n : ℕ) → IsSized z.bricks z.libraries w → (view (node_at w n)).stopped ≡ true → is_in z n ≡ true
in-cluster z w n g h = elim (cases_Bool (is_in z n)) [
  | inl e ↦ e
  | inr e ↦ absurd (both_ways (view (node_at w n)).stopped (ap (λ x. (view x).stopped) ((net-built z w g).outside n e)) h)
]

-- all of it
notices-last : (o : OpeningOf) (journal : List Step) → o.bricks ≤ 64 → IsSized o.bricks o.libraries (run_of o journal).world
    → AreLinked (sizes_of o) (net (sizes_of o) (run_of o journal).world) → NoticeIsLast o journal
notices-last o journal few sized g =
    let z = sizes_of o in
    let w = (run_of o journal).world in
    let stopped : (n : ℕ) (apart : Bool) → ((view (node_at w n)).stopped && apart) ≡ true
    → HasStopped w n = (λ n apart e. stopped-if w n (node-is w n) (and_parts (view (node_at w n)).stopped apart e).0) in
    let known : (n other : ℕ) → Knows w n other → IsOver ((view (node_at w other)).stopped && not (other == n))
    (channel_at z w other n) = (λ n other h. let k = knows-here z w n other sized h in link-over (channel_at z w other n) (g other n k.inside) k.knows) in
    record {
      sent = λ from to t.
          let s = (view (node_at w from)).stopped && not (from == to) in
          stopped from (not (from == to)) (travels (NoticesIf s) z w from to letter.Notice sized t
          (link-notices (channel_at z w from to) (g from to (sym (is-in z w to sized) ∙ t.receiver))) refl);
      known = λ node other h. stopped other (not (other == node)) (known node other h).stopped;
      last = λ from to at m is n. last-in z w (link w from to) at m g (link-is z w from to few sized) is (ap is_notice n);
      nothing = λ node other h.
          let k = known node other h in
          nothing-on z w other node sized (in-cluster z w other sized (and_parts (view (node_at w other)).stopped (not (other == node)) k.stopped).0)
          (knows-here z w node other sized h).inside k.nothing;
    }

linked : (o : OpeningOf) (journal : List Step) → IsRanges (ranges_of o) → is_run o journal ≡ true → NoticeIsLast o journal
linked o journal ranges run =
    let z = sizes_of o in
    let r = run-keeps z (Unit {0}) (λ h n e b. tt) (λ h n b. AreLinked z n) journal (start o) ranges.bricks (links-kept z ranges.bricks ranges.libraries)
    (record { sized = sized-start o; books = tt; is = start-links o }) run in
    notices-last o journal ranges.bricks r.sized r.is

pub notices-are-last : NoticesAreLast
notices-are-last o journal ranges run at = linked o (take at journal) ranges (run-take (start o) journal at run)
