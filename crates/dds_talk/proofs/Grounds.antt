use Rattle.std.proofs.Common.{◌≡◌, ℕ, ◌≤◌, ◌==◌, ◌&&◌, Bool, true, false, not, List, [], refl, sym, ap, ◌∙◌}
use Rattle.std.proofs.lemmas.Bool.{and_parts}
use Rattle.dds_base.specs.NodeSet.{has_node}
use Rattle.dds_letters.specs.declared.letter.Letter.{Letter}
use Rattle.dds_law_notice.proofs.Keeps.{AreLinked}
use Rattle.dds_law_notice.proofs.Link.{Link, lives, over, told}
use Rattle.dds_law_notice.proofs.Views.{knows, view}
use Rattle.dds_net.proofs.Runs.{IsBuilt}
use Rattle.dds_net.specs.Net.{Net, nowhere, a_brick, a_library, Sizes, is_in}
use Rattle.dds_states.specs.declared.brick_state.BrickState.{BrickState}
use Rattle.dds_states.specs.declared.library_state.LibraryState.{LibraryState}

-- What two-phase commit takes from the links: a live node isn't known, and nothing comes from one that is.

pub record Ground (z : Sizes) (n : Net) : Type 0 where
  pub few : z.bricks ≤ 64
  pub some : z.libraries ≤ 16
  pub linked : AreLinked z n
  pub built : IsBuilt z n

inside-if : (z : Sizes) (n : Net) (k : ℕ) (c : Bool) → IsBuilt z n → is_in z k ≡ c → (n.node k ≡ nowhere → ⊥) → c ≡ true
inside-if z n k true b e f = refl
inside-if z n k false b e f = absurd (f (b.outside k e))

pub brick-inside : (z : Sizes) (n : Net) (k : ℕ) (s : BrickState) → Ground z n → n.node k ≡ a_brick s → is_in z k ≡ true
brick-inside z n k s g e = inside-if z n k (is_in z k) g.built refl (λ f. let q : a_brick s ≡ nowhere = sym e ∙ f in cc)

pub library-inside : (z : Sizes) (n : Net) (k : ℕ) (l : LibraryState) → Ground z n → n.node k ≡ a_library l → is_in z k ≡ true
library-inside z n k l g e = inside-if z n k (is_in z k) g.built refl (λ f. let q : a_library l ≡ nowhere = sym e ∙ f in cc)

no-link : {deaf k s : Bool} (c : List Letter) → Link deaf c s k → s ≡ false → k ≡ false
no-link c (lives h) e = refl
no-link c (told front is h) e = cc
no-link c (over known is h) e = cc

link-over : {deaf k s : Bool} (c : List Letter) → Link deaf c s k → k ≡ true → (s ≡ true) × (c ≡ [])
link-over c (lives h) e = cc
link-over c (told front is h) e = cc
link-over c (over known is h) e = (refl, is)

and-left : (a b : Bool) → a ≡ false → (a && b) ≡ false
and-left a b e = ap (λ x. x && b) e

-- a live node isn't known to another one
pub live-unknown : (z : Sizes) (n : Net) (a b : ℕ) → Ground z n → is_in z b ≡ true → (view (n.node a)).stopped ≡ false → knows (view (n.node b)) a ≡ false
live-unknown z n a b g inside e = no-link (n.channel a b) (g.linked a b inside) (and-left (view (n.node a)).stopped (not (a == b)) e)

pub known-over : (z : Sizes) (n : Net) (a b : ℕ) → AreLinked z n → is_in z b ≡ true → knows (view (n.node b)) a ≡ true
    → ((view (n.node a)).stopped ≡ true) × (n.channel a b ≡ [])
known-over z n a b linked inside e =
    let o = link-over (n.channel a b) (linked a b inside) e in
    ((and_parts (view (n.node a)).stopped (not (a == b)) o.0).0, o.1)

-- a live library is known to no brick, and a live brick to no library
pub library-unknown : (z : Sizes) (n : Net) (k m : ℕ) (l : LibraryState) (x : BrickState) → Ground z n → n.node k ≡ a_library l → n.node m ≡ a_brick x
    → l.stopped ≡ false → has_node x.known k ≡ false
library-unknown z n k m l x g library member e =
    sym (ap (λ y. knows (view y) k) member) ∙ live-unknown z n k m g (brick-inside z n m x g member) (ap (λ y. (view y).stopped) library ∙ e)

pub brick-unknown : (z : Sizes) (n : Net) (k m : ℕ) (l : LibraryState) (x : BrickState) → Ground z n → n.node k ≡ a_library l → n.node m ≡ a_brick x
    → x.stopped ≡ false → has_node l.known m ≡ false
brick-unknown z n k m l x g library member e =
    sym (ap (λ y. knows (view y) m) library) ∙ live-unknown z n m k g (library-inside z n k l g library) (ap (λ y. (view y).stopped) member ∙ e)

-- a brick that knows a library: it has stopped, and nothing comes from it
pub library-over : (z : Sizes) (n : Net) (k m : ℕ) (l : LibraryState) (x : BrickState) → AreLinked z n → is_in z m ≡ true → n.node k ≡ a_library l
    → n.node m ≡ a_brick x → has_node x.known k ≡ true → (l.stopped ≡ true) × (n.channel k m ≡ [])
library-over z n k m l x linked inside library member e =
    let o = known-over z n k m linked inside (ap (λ y. knows (view y) k) member ∙ e) in
    (sym (ap (λ y. (view y).stopped) library) ∙ o.0, o.1)

-- a library gets nothing from a brick that it knows
pub brick-over : (z : Sizes) (n : Net) (k m : ℕ) (l : LibraryState) → Ground z n → n.node k ≡ a_library l → has_node l.known m ≡ true → n.channel m k ≡ []
brick-over z n k m l g library e =
    (known-over z n m k g.linked (library-inside z n k l g library) (ap (λ y. knows (view y) m) library ∙ e)).1
