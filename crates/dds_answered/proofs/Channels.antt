use Rattle.std.proofs.Common.{◌≡◌, ℕ, ◌==◌, ◌&&◌, Bool, true, false, not, List, [], ◌∷◌, ◌++◌, drop, sym, ap, subst}
use Rattle.std.proofs.lemmas.Bool.{and_parts, eq-eqb, eqb-false, eqb-true}
use Rattle.std.specs.List.{AllByRecursion}
use Rattle.std.specs.Prelude.{if◌then◌else◌}
use Rattle.dds_base.specs.declared.number.NodeNo.{NodeNo}
use Rattle.dds_core.proofs.Lists.{all-front}
use Rattle.dds_letters.specs.declared.letter.Letter.{Letter}
use Rattle.dds_letters.specs.declared.letter.Letter.TheVariants as letter
use Rattle.dds_net.proofs.Pairwise.{Pairwise, pairs-append}
use Rattle.dds_net.proofs.Puts.{if-keeps, other-to}
use Rattle.dds_net.specs.Event.{IsFirst, IsLeft, does, notice_to, stops, takes, without_first}
use Rattle.dds_net.specs.Net.{Change, Net, Node, Sizes, changed, gains, is_in, landing, lands, when_in}

-- A fact of each channel by itself, where one node changes: nothing is asked of the channels before, so that the fact may be another one
-- than was so of them.

abbrev pub Channel : Type 1
Channel = ℕ → ℕ → List Letter → Type 0

pub changed-channels : (P : Channel) (n : Net) (c : Change) → ((b : ℕ) → P c.at b (c.left b ++ c.gains b)) → ((a : ℕ) → P a c.at (c.rest a))
    → ((a b : ℕ) → (b ≡ c.at → ⊥) → P a b (n.channel a b)) → (a b : ℕ) → P a b ((changed n c).channel a b)
changed-channels P n c from to others a b =
    if-keeps (P a b) (a == c.at) _ _ (λ e. subst (λ i. P i b (c.left b ++ c.gains b)) (sym (eqb-true a c.at e)) (from b))
    (λ e. if-keeps (P a b) (b == c.at) _ _ (λ f. subst (λ j. P a j (c.rest a)) (sym (eqb-true b c.at f)) (to a)) (λ f. others a b (eqb-false b c.at f)))

-- a node takes the first letter of a channel: what is so of each channel without it, and what is owed of what the node sends
pub takes-channels : (P Q : Channel) (z : Sizes) (n : Net) (at from : ℕ) (y : Node) (ls : List (NodeNo × Letter))
    → ((a b : ℕ) → P a b (without_first n at from a b)) → ((a b : ℕ) (c : List Letter) → P a b c → Q a b c)
    → ((b : ℕ) (c : List Letter) → P at b c → Q at b (c ++ gains z ls b)) → (a b : ℕ) → Q a b ((changed n (takes z n at from y ls)).channel a b)
takes-channels P Q z n at from y ls rest same more =
    changed-channels Q n (takes z n at from y ls) (λ b. more b (without_first n at from at b) (rest at b))
    (λ a. same a at (without_first n at from a at) (rest a at))
    (λ a b ne. same a b (n.channel a b) (subst (P a b) (other-to n at from a b ne) (rest a b)))

-- the channel that the letter was first in, and the others
pub rest-channels : (P : Channel) (z : Sizes) (n : Net) (at from : ℕ) (l : Letter) → (f : IsFirst z n at from l) → P from at f.others
    → ((a b : ℕ) → ((a ≡ from) × (b ≡ at) → ⊥) → P a b (n.channel a b)) → (a b : ℕ) → P a b (without_first n at from a b)
rest-channels P z n at from l f first others a b =
    if-keeps (P a b) (a == from && b == at) _ _ (λ e.
    let q = and_parts (a == from) (b == at) e in
    let p = eqb-true a from q.0 in
    let r = eqb-true b at q.1 in
    subst (λ i. P i b (drop 1 (n.channel i b))) (sym p)
    (subst (λ j. P from j (drop 1 (n.channel from j))) (sym r) (subst (P from at) (sym (ap (drop 1) f.first)) first)))
    (λ e. others a b (λ q. not-both (a == from) (b == at) e (eq-eqb a from q.0) (eq-eqb b at q.1)))
  where
    not-both : (x y : Bool) → (x && y) ≡ false → x ≡ true → y ≡ true → ⊥
    not-both true true e p q = cc
    not-both true false e p q = cc
    not-both false y e p q = cc

pub does-channels : (P Q : Channel) (z : Sizes) (n : Net) (at : ℕ) (y : Node) (ls : List (NodeNo × Letter)) → ((a b : ℕ) → P a b (n.channel a b))
    → ((a b : ℕ) (c : List Letter) → P a b c → Q a b c) → ((b : ℕ) (c : List Letter) → P at b c → Q at b (c ++ gains z ls b))
    → (a b : ℕ) → Q a b ((changed n (does z n at y ls)).channel a b)
does-channels P Q z n at y ls g same more =
    changed-channels Q n (does z n at y ls) (λ b. more b (n.channel at b) (g at b)) (λ a. same a at (n.channel a at) (g a at))
    (λ a b ne. same a b (n.channel a b) (g a b))

-- what is so of each two letters of a channel

pairs-drop : (R : Letter → Letter → Type 0) (xs : List Letter) → Pairwise R xs → Pairwise R (drop 1 xs)
pairs-drop R [] h = tt
pairs-drop R (x ∷ xs) h = h.1

pub rest-pairs : (R : Letter → Letter → Type 0) (n : Net) (at from a b : ℕ) → Pairwise R (n.channel a b) → Pairwise R (without_first n at from a b)
rest-pairs R n at from a b h =
    if-keeps (Pairwise R) (a == from && b == at) _ _ (λ e. pairs-drop R (n.channel a b) h) (λ e. h)

pairs-front : (R : Letter → Letter → Type 0) (xs ys : List Letter) → Pairwise R (xs ++ ys) → Pairwise R xs
pairs-front R [] ys h = tt
pairs-front R (x ∷ xs) ys h = (all-front (R x) xs ys h.0, pairs-front R xs ys h.1)

landing-if : (P : Letter → Type 0) (c : Bool) (l : Letter) (ls : List Letter) → P l → AllByRecursion P ls → AllByRecursion P (if c then l ∷ ls else ls)
landing-if P true l ls h k = (h, k)
landing-if P false l ls h k = k

landing-all : (P : Letter → Type 0) (z : Sizes) (b : ℕ) (ls : List (NodeNo × Letter)) → AllByRecursion (λ (p : NodeNo × Letter). P p.1) ls
    → AllByRecursion P (landing z b ls)
landing-all P z b [] h = tt
landing-all P z b (l ∷ ls) h = landing-if P (lands z l.0 b) l.1 (landing z b ls) h.0 (landing-all P z b ls h.1)

pairs-if : (R : Letter → Letter → Type 0) (c : Bool) (l : Letter) (ls : List Letter) → AllByRecursion (R l) ls → Pairwise R ls
    → Pairwise R (if c then l ∷ ls else ls)
pairs-if R true l ls h k = (h, k)
pairs-if R false l ls h k = k

landing-pairs : (R : Letter → Letter → Type 0) (z : Sizes) (b : ℕ) (ls : List (NodeNo × Letter)) → Pairwise (λ p q. R p.1 q.1) ls
    → Pairwise R (landing z b ls)
landing-pairs R z b [] h = tt
landing-pairs R z b (l ∷ ls) h = pairs-if R (lands z l.0 b) l.1 (landing z b ls) (landing-all (R l.1) z b ls h.0) (landing-pairs R z b ls h.1)

when-pairs : (R : Letter → Letter → Type 0) (c : Bool) (ls : List Letter) → Pairwise R ls → Pairwise R (when_in c ls)
when-pairs R true ls h = h
when-pairs R false ls h = tt

pub gains-pairs : (R : Letter → Letter → Type 0) (z : Sizes) (b : ℕ) (ls : List (NodeNo × Letter)) → Pairwise (λ p q. R p.1 q.1) ls
    → Pairwise R (gains z ls b)
gains-pairs R z b ls h = when-pairs R (is_in z b) (landing z b ls) (landing-pairs R z b ls h)

-- a stopped node: the beginnings of its channels, and notices
notice-pairs : (R : Letter → Letter → Type 0) (c : Bool) → Pairwise R (when_in c (letter.Notice ∷ []))
notice-pairs R true = (tt, tt)
notice-pairs R false = tt

notice-each : (R : Letter → Type 0) (c : Bool) → R letter.Notice → AllByRecursion R (when_in c (letter.Notice ∷ []))
notice-each R true h = (h, tt)
notice-each R false h = tt

each-one : (R : Letter → Letter → Type 0) (xs ys : List Letter) → ((l : Letter) → AllByRecursion (R l) ys) → AllByRecursion (λ x. AllByRecursion (R x) ys) xs
each-one R [] ys f = tt
each-one R (x ∷ xs) ys f = (f x, each-one R xs ys f)

pub stops-pairs : (R : Letter → Letter → Type 0) (z : Sizes) (n : Net) (at : ℕ) (y : Node) (left : ℕ → List Letter) → IsLeft n at left
    → ((l : Letter) → R l letter.Notice) → ((a b : ℕ) → Pairwise R (n.channel a b))
    → (a b : ℕ) → Pairwise R ((changed n (stops z n at y left)).channel a b)
stops-pairs R z n at y left f notice g =
    changed-channels (λ a b c. Pairwise R c) n (stops z n at y left)
    (λ b. pairs-append R (left b) (notice_to z at b)
    (pairs-front R (left b) (f.front b).gone (subst (Pairwise R) (f.front b).is (g at b))) (notice-pairs R (is_in z b && not (b == at)))
    (each-one R (left b) (notice_to z at b) (λ l. notice-each (R l) (is_in z b && not (b == at)) (notice l)))) (λ a. g a at) (λ a b ne. g a b)
