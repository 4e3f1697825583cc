use Rattle.std.proofs.Common.{ℕ, ◌==◌, ◌&&◌, Bool, true, false, not, List, [], ◌∷◌, subst}
use Rattle.std.specs.List.{AllByRecursion}
use Rattle.std.specs.Prelude.{drop, if◌then◌else◌}
use Rattle.dds_base.specs.declared.number.NodeNo.{NodeNo}
use Rattle.dds_letters.specs.declared.letter.Letter.{Letter}
use Rattle.dds_letters.specs.declared.letter.Letter.TheVariants as letter
use Rattle.dds_core.proofs.Lists.{all-append, all-front, all-map}
use Rattle.dds_net.proofs.Puts.{if-keeps, pairs-changed}
use Rattle.dds_net.specs.Event.{IsFront, IsFirst, does, notice_to, stops, takes, without_first}
use Rattle.dds_net.specs.Net.{Net, Node, Sizes, changed, gains, is_in, landing, lands, when_in}

-- What is true of each letter on its way, by the node that sent it and its state.

abbrev pub Sent : Type 1
Sent = ℕ → Node → Letter → Type 0

abbrev pub AllSent : Sent → Net → Type 0
AllSent P n = (a b : ℕ) → AllByRecursion (P a (n.node a)) (n.channel a b)

all-drop : {X : Type 0} (P : X → Type 0) (xs : List X) → AllByRecursion P xs → AllByRecursion P (drop 1 xs)
all-drop P [] h = tt
all-drop P (x ∷ xs) h = h.1

landing-all : (P : Letter → Type 0) (c : Bool) (l : Letter) (ls : List Letter) → P l → AllByRecursion P ls → AllByRecursion P (if c then l ∷ ls else ls)
landing-all P true l ls h k = (h, k)
landing-all P false l ls h k = k

pub gains-all : (P : Letter → Type 0) (z : Sizes) (b : ℕ) (ls : List (NodeNo × Letter)) → AllByRecursion (λ (p : NodeNo × Letter). P p.1) ls
    → AllByRecursion P (gains z ls b)
gains-all P z b ls h = when-all (is_in z b) (landing z b ls) (all ls h)
  where
    all : (ls : List (NodeNo × Letter)) → AllByRecursion (λ (p : NodeNo × Letter). P p.1) ls → AllByRecursion P (landing z b ls)
    all [] h = tt
    all (l ∷ ls) h = landing-all P (lands z l.0 b) l.1 (landing z b ls) h.0 (all ls h.1)

    when-all : (c : Bool) (xs : List Letter) → AllByRecursion P xs → AllByRecursion P (when_in c xs)
    when-all true xs h = h
    when-all false xs h = tt

pub rest-all : (P : Letter → Type 0) (n : Net) (at from a b : ℕ) → AllByRecursion P (n.channel a b) → AllByRecursion P (without_first n at from a b)
rest-all P n at from a b h = if-keeps (AllByRecursion P) (a == from && b == at) _ _ (λ e. all-drop P (n.channel a b) h) (λ e. h)

-- the first letter
pub first-all : (P : Letter → Type 0) (z : Sizes) (n : Net) (at from : ℕ) (l : Letter) → IsFirst z n at from l → AllByRecursion P (n.channel from at) → P l
first-all P z n at from l f h = let all : AllByRecursion P (l ∷ f.others) = subst (AllByRecursion P) f.first h in all.0

-- what a node sent stays so, and what it sends is so
pub record Sends (P : Sent) (n : Net) (at : ℕ) (y : Node) (ls : List (NodeNo × Letter)) : Type 0 where
  pub later : (l : Letter) → P at (n.node at) l → P at y l
  pub new : AllByRecursion (λ (p : NodeNo × Letter). P at y p.1) ls

pub takes-sent : (P : Sent) (z : Sizes) (n : Net) (at from : ℕ) (y : Node) (ls : List (NodeNo × Letter)) → Sends P n at y ls → AllSent P n
    → AllSent P (changed n (takes z n at from y ls))
takes-sent P z n at from y ls s g =
    let mine = (λ (b : ℕ). all-append (P at y) (without_first n at from at b) (gains z ls b)
    (rest-all (P at y) n at from at b (all-map (P at (n.node at)) (P at y) (n.channel at b) s.later (g at b))) (gains-all (P at y) z b ls s.new)) in
    pairs-changed (λ a b x y c d. AllByRecursion (P a x) c) n (takes z n at from y ls)
    (record { own = mine at; from = λ b nb. mine b; to = λ a na. rest-all (P a (n.node a)) n at from a at (g a at) }) g

pub does-sent : (P : Sent) (z : Sizes) (n : Net) (at : ℕ) (y : Node) (ls : List (NodeNo × Letter)) → Sends P n at y ls → AllSent P n
    → AllSent P (changed n (does z n at y ls))
does-sent P z n at y ls s g =
    let mine = (λ (b : ℕ). all-append (P at y) (n.channel at b) (gains z ls b) (all-map (P at (n.node at)) (P at y) (n.channel at b) s.later (g at b))
    (gains-all (P at y) z b ls s.new)) in
    pairs-changed (λ a b x y c d. AllByRecursion (P a x) c) n (does z n at y ls) (record { own = mine at; from = λ b nb. mine b; to = λ a na. g a at }) g

pub stops-sent : (P : Sent) (z : Sizes) (n : Net) (at : ℕ) (y : Node) (left : ℕ → List Letter) → ((b : ℕ) → IsFront (left b) (n.channel at b))
    → ((l : Letter) → P at (n.node at) l → P at y l) → P at y letter.Notice → AllSent P n → AllSent P (changed n (stops z n at y left))
stops-sent P z n at y left f later notice g =
    let mine = (λ (b : ℕ). all-append (P at y) (left b) (notice_to z at b) (all-map (P at (n.node at)) (P at y) (left b) later
    (all-front (P at (n.node at)) (left b) (f b).gone (subst (AllByRecursion (P at (n.node at))) (f b).is (g at b)))) (told (is_in z b && not (b == at)))) in
    pairs-changed (λ a b x y c d. AllByRecursion (P a x) c) n (stops z n at y left) (record { own = mine at; from = λ b nb. mine b; to = λ a na. g a at }) g
  where
    told : (c : Bool) → AllByRecursion (P at y) (when_in c (letter.Notice ∷ []))
    told true = (notice, tt)
    told false = tt
