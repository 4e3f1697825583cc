use Rattle.std.proofs.Common.{◌≡◌, ℕ, ◌+◌, ◌-◌, ◌<◌, ◌++◌, inl, Bool, true, false, Some, List, [], ◌∷◌, refl, sym, ap, ◌∙◌, subst, arith}
use Rattle.std.specs.List.{AllByRecursion}
use Rattle.std.specs.Prelude.{nat_lt, if◌then◌else◌}
use Rattle.dds_base.specs.Number.{StampOf}
use Rattle.dds_base.specs.declared.leaf.Leaf.{Leaf}
use Rattle.dds_cluster.specs.Trace.{start}
use Rattle.dds_cluster.specs.World.{World, new_brick}
use Rattle.dds_core.proofs.Lists.{all-append}
use Rattle.dds_groups.specs.Leaves.{same_stamp}
use Rattle.dds_law_leaf.proofs.Book.{Body, Book, LetterOk, NodeOk, body}
use Rattle.dds_law_leaf.proofs.Making.{stamp-is}
use Rattle.dds_law_leaf.proofs.Stamps.{all_leaves, book_of}
use Rattle.dds_law_notice.proofs.Last.{start-links}
use Rattle.dds_law_own.proofs.Runs.{start-own}
use Rattle.dds_net.proofs.Nodes.{brick-low}
use Rattle.dds_net.proofs.Opening.{IsNew, new_a_brick, new_a_library, no_node, start-channel, start-node}
use Rattle.dds_net.proofs.Ways.{NodeIs, is_brick, is_library, is_nowhere, node-is}
use Rattle.dds_net.specs.Net.{Node, nowhere, a_brick, a_library, net, node_at, sizes_of}
use Rattle.dds_orders.proofs.Asks.{start-asks}
use Rattle.dds_script.specs.Opening.{AreOpeningLeaves, AreStaleLeaves, IsOpening, OpeningOf}
use Rattle.dds_states.specs.declared.brick_state.BrickState.{BrickState}
use Rattle.dds_law_leaf.proofs.Openings.{none-bred, start-brick, start-library}
use Rattle.dds_parents.proofs.Keeps.{AreListed, NodeGives}
use Rattle.dds_parents.proofs.Lists.{Lists}

-- Before the first step each leaf is one of the opening's, which came from themselves.

abbrev first_book : OpeningOf → Book
first_book o = book_of (all_leaves o)

-- a brick's number is low
low-if : (w : World) (k : ℕ) (s : BrickState) → NodeIs w k → node_at w k ≡ a_brick s → k < 64
low-if w k s (is_nowhere e) is = let no : nowhere ≡ a_brick s = sym e ∙ is in cc
low-if w k s (is_brick x there e) is = brick-low w k x (nat_lt k 64) refl there
low-if w k s (is_library x there e) is = let no : a_library x ≡ a_brick s = sym e ∙ is in cc

start-ok : (o : OpeningOf) (k : ℕ) (x : Node) → IsOpening o → node_at (start o).world k ≡ x → IsNew o k x
    → NodeOk (first_book o) k x × NodeGives (first_book o) k x
start-ok o k x h is (no_node e) = subst (λ (y : Node). NodeOk (first_book o) k y × NodeGives (first_book o) k y) (sym e) (tt, tt)
start-ok o k x h is (new_a_brick e) =
    let low = low-if (start o).world k (new_brick o.leaves k) (node-is (start o).world k) (is ∙ e) in
    subst (λ (y : Node). NodeOk (first_book o) k y × NodeGives (first_book o) k y) (sym e)
    (start-brick o k h low, record { low = low; given = λ f c lt. let no : c < 0 = lt in absurd (omega (arith, no)) })
start-ok o k x h is (new_a_library high e) =
    subst (λ (y : Node). NodeOk (first_book o) k y × NodeGives (first_book o) k y) (sym e) (start-library o (k - 64) h, tt)

-- leaves that came from themselves
abbrev IsFirst : Leaf → Type 0
IsFirst l = l.prev ≡ l.stamp

opening-first : (n : ℕ) (ls : List Leaf) → AreOpeningLeaves n ls → AllByRecursion IsFirst ls
opening-first n [] h = tt
opening-first n (l ∷ ls) h = (ap (λ (x : Leaf). x.prev) h.0 ∙ sym (ap (λ (x : Leaf). x.stamp) h.0), opening-first (n + 1) ls h.1)

stale-first : (libraries : ℕ) (before ls : List Leaf) → AreStaleLeaves libraries before ls → AllByRecursion IsFirst ls
stale-first libraries before [] h = tt
stale-first libraries before (l ∷ ls) h =
    (ap (λ (x : Leaf). x.prev) h.0.2 ∙ sym (ap (λ (x : Leaf). x.stamp) h.0.2), stale-first libraries (before ++ l ∷ []) ls h.1)

first-if : (l : Leaf) (ls : List Leaf) (st : StampOf) (x : Body) (c : Bool) → same_stamp l.stamp st ≡ c → IsFirst l → (book_of ls st ≡ Some x → x.prev ≡ st)
    → (if c then Some (body l) else book_of ls st) ≡ Some x → x.prev ≡ st
first-if l ls st x true same first later e =
    let is : body l ≡ x = cc in ap (λ (y : Body). y.prev) (sym is) ∙ first ∙ stamp-is l.stamp st same
first-if l ls st x false same first later e = later e

from-itself : (ls : List Leaf) (st : StampOf) (x : Body) → AllByRecursion IsFirst ls → book_of ls st ≡ Some x → x.prev ≡ st
from-itself [] st x h e = cc
from-itself (l ∷ ls) st x h e = first-if l ls st x (same_stamp l.stamp st) refl h.0 (from-itself ls st x h.1) e

start-lists : (o : OpeningOf) (gone : ℕ → Type 0) (st : StampOf) (x : Body) → IsOpening o → first_book o st ≡ Some x → Lists (first_book o) gone st x
start-lists o gone st x h e =
    let all = all-append IsFirst o.leaves o.old (opening-first 0 o.leaves h.numbers) (stale-first o.libraries [] o.old h.old_numbers) in
    let same : x.prev ≡ st = from-itself (all_leaves o) st x all e in
    record { parent = x; there = ap (first_book o) same ∙ e; lists = λ n k. inl k; members = λ n ne k. k }

pub start-listed : (o : OpeningOf) → IsOpening o → AreListed (sizes_of o) (net (sizes_of o) (start o).world)
start-listed o h =
    record {
      asked = record {
        links = start-links o;
        own = λ k. start-own o k _ h (start-node o k);
        asks = λ k. start-asks o k _ (start-node o k);
      };
      known = record {
        book = first_book o;
        bred = none-bred o h;
        nodes = λ k. (start-ok o k _ h refl (start-node o k)).0;
        letters = λ a b. subst (AllByRecursion (LetterOk (first_book o) a b)) (sym (start-channel o a b)) tt;
      };
      gives = λ k. (start-ok o k _ h refl (start-node o k)).1;
      lists = λ st x e. start-lists o _ st x h e;
    }
