use Rattle.std.proofs.Common.{◌≡◌, ℕ, inl, inr, List, ◌∷◌, ◌++◌, sym, ap, ◌∙◌, subst}
use Rattle.std.proofs.lemmas.Bool.{cases_eq}
use Rattle.std.specs.Prelude.{drop}
use Rattle.dds_base.specs.declared.number.NodeNo.{NodeNo}
use Rattle.dds_letters.specs.declared.letter.Letter.{Letter}
use Rattle.dds_net.proofs.Puts.{first-taken, other-from, other-to, pairs-changed}
use Rattle.dds_net.specs.Event.{IsFirst, IsFront, does, notice_to, stops, takes, without_first}
use Rattle.dds_net.specs.Net.{Net, Node, Sizes, changed, gains}

-- A fact of a channel with its sender and its receiver. What a node that changes owes is parted: what it owes as the receiver
-- of what others sent, with any state of the sender, and what it owes as a sender, with any state of the receiver. So a
-- channel of the node to itself owes nothing more.

abbrev pub Way : Type 1
Way = ℕ → ℕ → Node → Node → List Letter → Type 0

abbrev pub AllWays : Way → Net → Type 0
AllWays P n = (a b : ℕ) → P a b (n.node a) (n.node b) (n.channel a b)

-- a node takes the first letter of a channel
pub record TakesWays (P : Way) (z : Sizes) (at from : ℕ) (l : Letter) (x y : Node) (ls : List (NodeNo × Letter)) : Type 0 where
  pub stays : (a : ℕ) (s : Node) (c : List Letter) → (a ≡ from → ⊥) → P a at s x c → P a at s y c
  pub hears : (s : Node) (c : List Letter) → P from at s x (l ∷ c) → P from at s y c
  pub says : (b : ℕ) (r : Node) (c : List Letter) → P at b x r c → P at b y r (c ++ gains z ls b)

taken-way : (P : Way) (z : Sizes) (n : Net) (at from : ℕ) (l : Letter) (y : Node) (ls : List (NodeNo × Letter)) → IsFirst z n at from l
    → TakesWays P z at from l (n.node at) y ls → AllWays P n → (a : ℕ) → P a at (n.node a) y (without_first n at from a at)
taken-way P z n at from l y ls f t g a = elim (cases_eq a from) [
  | inl e ↦
      subst (λ i. P i at (n.node i) y (without_first n at from i at)) (sym e)
      (subst (P from at (n.node from) y) (sym (first-taken n at from ∙ ap (drop 1) f.first))
      (t.hears (n.node from) f.others (subst (P from at (n.node from) (n.node at)) f.first (g from at))))
  | inr ne ↦ subst (P a at (n.node a) y) (sym (other-from n at from a at ne)) (t.stays a (n.node a) (n.channel a at) ne (g a at))
]

pub takes-ways : (P : Way) (z : Sizes) (n : Net) (at from : ℕ) (l : Letter) (y : Node) (ls : List (NodeNo × Letter)) → IsFirst z n at from l
    → TakesWays P z at from l (n.node at) y ls → AllWays P n → AllWays P (changed n (takes z n at from y ls))
takes-ways P z n at from l y ls f t g =
    pairs-changed (λ a b x r c d. P a b x r c) n (takes z n at from y ls) (record {
      own = t.says at y (without_first n at from at at) (taken-way P z n at from l y ls f t g at);
      from = λ b nb. subst (λ c. P at b y (n.node b) (c ++ gains z ls b)) (sym (other-to n at from at b nb)) (t.says b (n.node b) (n.channel at b) (g at b));
      to = λ a na. taken-way P z n at from l y ls f t g a;
    }) g

-- a node does something of itself
pub record DoesWays (P : Way) (z : Sizes) (at : ℕ) (x y : Node) (ls : List (NodeNo × Letter)) : Type 0 where
  pub stays : (a : ℕ) (s : Node) (c : List Letter) → P a at s x c → P a at s y c
  pub says : (b : ℕ) (r : Node) (c : List Letter) → P at b x r c → P at b y r (c ++ gains z ls b)

pub does-ways : (P : Way) (z : Sizes) (n : Net) (at : ℕ) (y : Node) (ls : List (NodeNo × Letter)) → DoesWays P z at (n.node at) y ls → AllWays P n
    → AllWays P (changed n (does z n at y ls))
does-ways P z n at y ls t g =
    pairs-changed (λ a b x r c d. P a b x r c) n (does z n at y ls) (record {
      own = t.says at y (n.channel at at) (t.stays at (n.node at) (n.channel at at) (g at at));
      from = λ b nb. t.says b (n.node b) (n.channel at b) (g at b);
      to = λ a na. t.stays a (n.node a) (n.channel a at) (g a at);
    }) g

-- a node stops
pub record StopsWays (P : Way) (z : Sizes) (at : ℕ) (x y : Node) : Type 0 where
  pub stays : (a : ℕ) (s : Node) (c : List Letter) → P a at s x c → P a at s y c
  pub leaves : (b : ℕ) (r : Node) (c left : List Letter) → IsFront left c → P at b x r c → P at b y r (left ++ notice_to z at b)

pub stops-ways : (P : Way) (z : Sizes) (n : Net) (at : ℕ) (y : Node) (left : ℕ → List Letter) → ((b : ℕ) → IsFront (left b) (n.channel at b))
    → StopsWays P z at (n.node at) y → AllWays P n → AllWays P (changed n (stops z n at y left))
stops-ways P z n at y left f t g =
    pairs-changed (λ a b x r c d. P a b x r c) n (stops z n at y left) (record {
      own = t.leaves at y (n.channel at at) (left at) (f at) (t.stays at (n.node at) (n.channel at at) (g at at));
      from = λ b nb. t.leaves b (n.node b) (n.channel at b) (left b) (f b) (g at b);
      to = λ a na. t.stays a (n.node a) (n.channel a at) (g a at);
    }) g
