use Rattle.std.proofs.Common.{◌≡◌, ℕ, ◌+◌, ◌-◌, ◌<◌, ◌≤◌, ◌==◌, ◌&&◌, Bool, true, false, Some, None, List, [], ◌∷◌, ◌++◌, length, refl, sym, ap, ◌∙◌, subst}
use Rattle.std.proofs.Common.{arith}
use Rattle.std.proofs.lemmas.Bool.{and_parts, and_from, both_ways, eqb-true, eq-eqb}
use Rattle.std.proofs.lemmas.Bool.Decides.{nat_tests}
use Rattle.std.proofs.lemmas.List.{append-nil, map-append, get_or-set_same, get_or-set_other}
use Rattle.std.proofs.lemmas.Option.{slice_get_within}
use Rattle.std.specs.Prelude.{drop, nat_lt, slice_get, slice_set, if◌then◌else◌}
use Rattle.dds_base.specs.declared.number.NodeNo.{NodeNo}
use Rattle.dds_letters.specs.declared.letter.Letter.{Letter}
use Rattle.dds_states.specs.declared.brick_state.BrickState.{BrickState}
use Rattle.dds_states.specs.declared.library_state.LibraryState.{LibraryState}
use Rattle.dds_cluster.specs.World.{World, brick_at, library_at, numbered, send}
use Rattle.dds_cluster.specs.declared.step.Message.{Message}
use Rattle.dds_net.specs.Event.{does, takes, without_first}
use Rattle.dds_net.specs.Net.{Net, Node, a_brick, a_library, Sizes, box, changed, channel, channel_at, gains, is_in, landing, lands, lane, letters_of, net}
use Rattle.dds_net.specs.Net.{node_at, node_in, place_in, put, sent, when_in}
use Rattle.dds_net.proofs.Links.{Popped, sent-more}
use Rattle.dds_net.proofs.Nodes.{brick-found, brick-here, brick-low, get-set-other, get-set-same, library-found, library-here, library-high, no-brick}
use Rattle.dds_net.proofs.Places.{one-place}
use Rattle.dds_net.proofs.Puts.{at-put, if-keeps, is-changed, other-to}

-- The nodes and channels of a world, and of one that a node's turn leaves.

pub net-is : (n m : Net) → ((k : ℕ) → n.node k ≡ m.node k) → ((a b : ℕ) → n.channel a b ≡ m.channel a b) → n ≡ m
net-is n m h k = λ i. record { node = λ x. h x i; channel = λ a b. k a b i }

-- between nodes of the cluster alone
guard-is : (c : Bool) (x y : List Letter) → (c ≡ true → x ≡ y) → when_in c x ≡ when_in c y
guard-is true x y h = h refl
guard-is false x y h = refl

pub same-channel : (z : Sizes) (w u : World) (a b : ℕ) → (is_in z a ≡ true → is_in z b ≡ true
    → channel u z.bricks (place_in z.bricks a) (place_in z.bricks b) ≡ channel w z.bricks (place_in z.bricks a) (place_in z.bricks b))
    → channel_at z u a b ≡ channel_at z w a b
same-channel z w u a b h = guard-is (is_in z a && is_in z b) _ _ (λ e. let p = and_parts (is_in z a) (is_in z b) e in ap letters_of (h p.0 p.1))

-- a node sends letters
pub record Sends (at k : ℕ) (ls : List (NodeNo × Letter)) (w u : World) : Type 0 where
  pub boxed : box u at ≡ box w at ++ numbered k ls
  pub boxes : (i : ℕ) → (i ≡ at → ⊥) → box u i ≡ box w i
  pub lanes : (i j : ℕ) → lane u i j ≡ lane w i j

pub sends-is : (v : World) (at : ℕ) (ls : List (NodeNo × Letter)) → at < length v.outboxes → Sends at v.made ls v (send v at ls)
sends-is v at ls h = record { boxed = get_or-set_same v.outboxes at _ [] h; boxes = λ i ne. get_or-set_other v.outboxes at i _ [] ne; lanes = λ i j. refl }

landing-if : (c : Bool) (m : Message) (ms : List Message) (ls : List Letter) → letters_of ms ≡ ls
    → letters_of (if c then m ∷ ms else ms) ≡ (if c then m.letter ∷ ls else ls)
landing-if true m ms ls e = ap (λ x. m.letter ∷ x) e
landing-if false m ms ls e = e

pub landing-is : (z : Sizes) (b k : ℕ) (ls : List (NodeNo × Letter)) → letters_of (sent z.bricks (place_in z.bricks b) (numbered k ls)) ≡ landing z b ls
landing-is z b k [] = refl
landing-is z b k (l ∷ ls) =
    landing-if (lands z l.0 b) (record { number = k; to = l.0; letter = l.1 }) (sent z.bricks (place_in z.bricks b) (numbered (k + 1) ls)) (landing z b ls)
    (landing-is z b (k + 1) ls)

pub letters-append : (xs ys : List Message) → letters_of (xs ++ ys) ≡ letters_of xs ++ letters_of ys
letters-append xs ys = map-append (λ (m : Message). m.letter) xs ys

gain-if : (x y : Bool) (c d l : List Letter) → x ≡ true → c ≡ d ++ l → when_in (x && y) c ≡ when_in (x && y) d ++ when_in y l
gain-if true true c d l e h = h
gain-if true false c d l e h = refl
gain-if false y c d l e h = cc

pub sent-gain : (z : Sizes) (w u : World) (n k : ℕ) (ls : List (NodeNo × Letter)) (b : ℕ) → is_in z n ≡ true → Sends (place_in z.bricks n) k ls w u
    → channel_at z u n b ≡ channel_at z w n b ++ gains z ls b
sent-gain z w u n k ls b h s =
    let i = place_in z.bricks n in
    let j = place_in z.bricks b in
    gain-if (is_in z n) (is_in z b) _ _ _ h
    (ap letters_of (ap (λ x. x ++ sent z.bricks j (box u i)) (s.lanes i j) ∙ ap (λ x. lane w i j ++ sent z.bricks j x) s.boxed
    ∙ sent-more z.bricks j (lane w i j) (box w i) (numbered k ls))
    ∙ letters-append (channel w z.bricks i j) (sent z.bricks j (numbered k ls))
    ∙ ap (λ x. letters_of (channel w z.bricks i j) ++ x) (landing-is z b k ls))

pub sent-still : (z : Sizes) (w u : World) (n k : ℕ) (ls : List (NodeNo × Letter)) (a b : ℕ) → z.bricks ≤ 64 → is_in z n ≡ true
    → Sends (place_in z.bricks n) k ls w u → (a ≡ n → ⊥) → channel_at z u a b ≡ channel_at z w a b
sent-still z w u n k ls a b few h s ne =
    same-channel z w u a b (λ ha hb.
    let i = place_in z.bricks a in
    let j = place_in z.bricks b in
    ap (λ x. x ++ sent z.bricks j (box u i)) (s.lanes i j) ∙ ap (λ x. lane w i j ++ sent z.bricks j x) (s.boxes i (λ e. ne (one-place z a n few ha h e))))

pub does-net : (z : Sizes) (w u : World) (n k : ℕ) (x : Node) (ls : List (NodeNo × Letter)) → z.bricks ≤ 64 → is_in z n ≡ true
    → Sends (place_in z.bricks n) k ls w u → ((j : ℕ) → node_at u j ≡ put n x (node_at w) j) → net z u ≡ changed (net z w) (does z (net z w) n x ls)
does-net z w u n k x ls few h s p =
    net-is (net z u) (changed (net z w) (does z (net z w) n x ls)) p (is-changed (channel_at z u) (net z w) (does z (net z w) n x ls)
    (record {
      from = λ b. sent-gain z w u n k ls b h s;
      to = λ a ne. sent-still z w u n k ls a n few h s ne;
      others = λ a b ne nb. sent-still z w u n k ls a b
          few h s ne;
    }))

-- a node that changes nothing
still-gain : (c : Bool) (xs : List Letter) → xs ++ when_in c [] ≡ xs
still-gain true xs = append-nil xs
still-gain false xs = append-nil xs

pub still-net : (z : Sizes) (n : Net) (at : ℕ) (x : Node) → n.node at ≡ x → changed n (does z n at x []) ≡ n
still-net z n at x e =
    net-is (changed n (does z n at x [])) n (at-put (λ k y. y ≡ n.node k) at x n.node (sym e) (λ k ne. refl))
    (λ a b. if-keeps (λ y. y ≡ n.channel a b) (a == at) _ _ (λ s. still-gain (is_in z b) (n.channel at b) ∙ ap (λ i. n.channel i b) (sym (eqb-true a at s)))
    (λ s. if-keeps (λ y. y ≡ n.channel a b) (b == at) _ _ (λ t. ap (n.channel a) (sym (eqb-true b at t))) (λ t. refl)))

-- the first letter of a channel is taken
drop-if : (c : Bool) (x y : List Letter) → x ≡ drop 1 y → when_in c x ≡ drop 1 (when_in c y)
drop-if true x y e = e
drop-if false x y e = refl

pop-here : (z : Sizes) (w v : World) (n from : ℕ) (m : Message) (ms : List Message) → Popped (place_in z.bricks from) (place_in z.bricks n) m ms w v
    → box v (place_in z.bricks from) ≡ box w (place_in z.bricks from) → channel_at z v from n ≡ drop 1 (channel_at z w from n)
pop-here z w v n from m ms p o =
    let j = place_in z.bricks n in
    let i = place_in z.bricks from in
    drop-if (is_in z from && is_in z n) _ _ (ap (λ x. letters_of (x ++ sent z.bricks j (box v i))) p.now ∙ ap (λ x. letters_of (ms ++ sent z.bricks j x)) o
    ∙ sym (ap (λ x. drop 1 (letters_of (x ++ sent z.bricks j (box w i)))) p.was))

pub pop-net : (z : Sizes) (w v : World) (n from : ℕ) (m : Message) (ms : List Message) (a b : ℕ) → z.bricks ≤ 64 → is_in z n ≡ true → is_in z from ≡ true
    → Popped (place_in z.bricks from) (place_in z.bricks n) m ms w v → ((i : ℕ) → box v i ≡ box w i) → channel_at z v a b ≡ without_first (net z w) n from a b
pop-net z w v n from m ms a b few hn hf p o =
    if-keeps (λ x. channel_at z v a b ≡ x) (a == from && b == n) _ _
    (λ e.
    let q = and_parts (a == from) (b == n) e in
    subst (λ i. channel_at z v i b ≡ drop 1 (channel_at z w i b)) (sym (eqb-true a from q.0))
    (subst (λ j. channel_at z v from j ≡ drop 1 (channel_at z w from j)) (sym (eqb-true b n q.1)) (pop-here z w v n from m ms p (o (place_in z.bricks from)))))
    (λ e. same-channel z w v a b (λ ha hb.
    let i = place_in z.bricks a in
    let j = place_in z.bricks b in
    let apart : ((i ≡ place_in z.bricks from) × (j ≡ place_in z.bricks n) → ⊥) = (λ s. both_ways (a == from && b == n) e
    (and_from (a == from) (b == n) (eq-eqb a from (one-place z a from few ha hf s.0)) (eq-eqb b n (one-place z b n few hb hn s.1)))) in
    ap (λ x. x ++ sent z.bricks j (box v i)) (p.lanes i j apart) ∙ ap (λ x. lane w i j ++ sent z.bricks j x) (o i)))

pub takes-net : (z : Sizes) (w v u : World) (n from k : ℕ) (x : Node) (ls : List (NodeNo × Letter)) → z.bricks ≤ 64 → is_in z n ≡ true
    → ((a b : ℕ) → channel_at z v a b ≡ without_first (net z w) n from a b) → Sends (place_in z.bricks n) k ls v u
    → ((j : ℕ) → node_at u j ≡ put n x (node_at w) j) → net z u ≡ changed (net z w) (takes z (net z w) n from x ls)
takes-net z w v u n from k x ls few h pop s p =
    net-is (net z u) (changed (net z w) (takes z (net z w) n from x ls)) p (is-changed (channel_at z u) (net z w) (takes z (net z w) n from x ls) (record {
      from = λ b. sent-gain z v u n k ls b h s ∙ ap (λ c. c ++ gains z ls b) (pop n b);
      to = λ a ne. sent-still z v u n k ls a n few h s ne ∙ pop a n;
      others = λ a b ne nb. sent-still z v u n k ls a b few h s ne ∙ pop a b ∙ other-to (net z w) n from a b nb;
    }))

-- the nodes of a world with one node in another state
brick-is : (w : World) (n : ℕ) (x : BrickState) → n < 64 → n < length w.bricks → node_at (record w { bricks = slice_set w.bricks n x }) n ≡ a_brick x
brick-is w n x low inside =
    ap (λ o. node_in o (library_at w n)) (brick-here (record w { bricks = slice_set w.bricks n x }) n x low (get-set-same w.bricks n x inside))

brick-apart : (w : World) (n k : ℕ) (x : BrickState) → (k ≡ n → ⊥) → node_at (record w { bricks = slice_set w.bricks n x }) k ≡ node_at w k
brick-apart w n k x ne = ap (λ o. node_in (if nat_lt k 64 then o else None) (library_at w k)) (get-set-other w.bricks n k x (λ e. ne (sym e)))

pub brick-put : (w : World) (n : ℕ) (s x : BrickState) → brick_at w n ≡ Some s → (k : ℕ)
    → node_at (record w { bricks = slice_set w.bricks n x }) k ≡ put n (a_brick x) (node_at w) k
brick-put w n s x h =
    at-put (λ k y. node_at (record w { bricks = slice_set w.bricks n x }) k ≡ y) n (a_brick x) (node_at w)
    (brick-is w n x (brick-low w n s (nat_lt n 64) refl h) (slice_get_within w.bricks n s (brick-found w n s (nat_lt n 64) h))) (λ k ne. brick-apart w n k x ne)

library-is : (w : World) (n : ℕ) (x : LibraryState) → 64 ≤ n → n - 64 < length w.libraries
    → node_at (record w { libraries = slice_set w.libraries (n - 64) x }) n ≡ a_library x
library-is w n x high inside =
    let u = record w { libraries = slice_set w.libraries (n - 64) x } in
    ap (λ o. node_in o (library_at u n)) (no-brick w n high) ∙ ap (λ o. node_in None o) (library-here u n x high (get-set-same w.libraries (n - 64) x inside))

library-apart-if : (w : World) (n k : ℕ) (x : LibraryState) (low : Bool) → 64 ≤ n → nat_lt k 64 ≡ low → (k ≡ n → ⊥)
    → (if low then None else slice_get (slice_set w.libraries (n - 64) x) (k - 64)) ≡ (if low then None else slice_get w.libraries (k - 64))
library-apart-if w n k x true high e ne = refl
library-apart-if w n k x false high e ne =
    let up : 64 ≤ k = grind (arith, nat_tests, e) in get-set-other w.libraries (n - 64) (k - 64) x (λ i. ne (omega (arith, i, up, high)))

pub library-put : (w : World) (n : ℕ) (s x : LibraryState) → library_at w n ≡ Some s → (k : ℕ)
    → node_at (record w { libraries = slice_set w.libraries (n - 64) x }) k ≡ put n (a_library x) (node_at w) k
library-put w n s x h =
    let high = library-high w n s (nat_lt n 64) refl h in
    at-put (λ k y. node_at (record w { libraries = slice_set w.libraries (n - 64) x }) k ≡ y) n (a_library x) (node_at w)
    (library-is w n x high (slice_get_within w.libraries (n - 64) s (library-found w n s (nat_lt n 64) h)))
    (λ k ne. ap (node_in (brick_at w k)) (library-apart-if w n k x (nat_lt k 64) high refl ne))
