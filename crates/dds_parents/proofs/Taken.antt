use Rattle.std.proofs.Common.{◌≡◌, ℕ, ◌==◌, ◌&&◌, ◌||◌, ◌⊎◌, inl, inr, Bool, true, false, not, Option, Some, None, refl, ap, ◌∙◌}
use Rattle.std.proofs.lemmas.Bool.{and_parts}
use Rattle.std.specs.Prelude.{is_some, nat_lt}
use Rattle.dds_base.specs.BrickList.{has}
use Rattle.dds_base.specs.NodeSet.{has_node}
use Rattle.dds_base.specs.declared.leaf.Leaf.{Leaf}
use Rattle.dds_groups.proofs.Steps.{successor-prev}
use Rattle.dds_groups.specs.Leaves.{newer, same_stamp, successor}
use Rattle.dds_groups.specs.Take.{is_better_rival, maker_known}
use Rattle.dds_groups.specs.declared.successor.Change.{Change}
use Rattle.dds_law_leaf.proofs.Book.{Book, Known}
use Rattle.dds_law_leaf.proofs.Making.{stamp-is}
use Rattle.dds_law_notice.proofs.Views.{knows, view}
use Rattle.dds_net.proofs.Nodes.{brick-in, brick-node}
use Rattle.dds_net.proofs.Runs.{sized-run}
use Rattle.dds_net.specs.Net.{net, sizes_of}
use Rattle.dds_world.specs.Groups.{HasLeaf}
use Rattle.dds_world.specs.Places.{reached}
use Rattle.dds_law_leaf.proofs.Ever.{known-leaf}
use Rattle.dds_parents.proofs.Keeps.{Gone, known-gone}
use Rattle.dds_parents.proofs.Lists.{AllList, beside-lists, next-lists}
use Rattle.dds_parents.proofs.Parents.{gone-not, run-listed}
use Rattle.dds_parents.specs.Taken.{TakenLeavesList}

-- A leaf that is taken or installed in the place of another one lists that one's members, but for those that have stopped.

some-change : (q : Option Change) → is_some q ≡ true → (c : Change) × (q ≡ Some c)
some-change None h = cc
some-change (Some c) h = (c, refl)

-- two leaves that came from one
pub record AreBeside (known : ℕ → Bool) (mine leaf : Leaf) : Type 0 where
  pub prev : mine.prev ≡ leaf.prev
  pub maker : known mine.stamp.maker ≡ true

beside : (known : ℕ → Bool) (mine leaf : Leaf) → is_better_rival known mine leaf ≡ true → AreBeside known mine leaf
beside known mine leaf h =
    let one = same_stamp mine.prev leaf.prev in
    let two = mine.epoch == leaf.epoch in
    let three = not (same_stamp mine.stamp leaf.stamp) in
    let four = maker_known known mine.stamp in
    let a = and_parts (one && two && three && four) (newer leaf mine) h in
    let b = and_parts (one && two && three) four a.0 in
    let c = and_parts (one && two) three b.0 in
    let d = and_parts one two c.0 in
    record {
      prev = stamp-is mine.prev leaf.prev d.0;
      maker = (and_parts (nat_lt mine.stamp.maker 80) (known mine.stamp.maker) b.1).1;
    }

pub comes-lists : (b : Book) (gone : ℕ → Type 0) (known : ℕ → Bool) (mine leaf : Leaf) → AllList b gone → ((n : ℕ) → known n ≡ true → gone n)
    → Known b mine → Known b leaf → (is_some (successor mine leaf) || is_better_rival known mine leaf) ≡ true → (n : ℕ) → has mine.list n ≡ true
    → (has leaf.list n ≡ true) ⊎ gone n
comes-lists b gone known mine leaf h f first also comes n k = by (is_some (successor mine leaf)) refl comes
  where
    by : (c : Bool) → is_some (successor mine leaf) ≡ c → (c || is_better_rival known mine leaf) ≡ true → (has leaf.list n ≡ true) ⊎ gone n
    by true e i =
        let change = some-change (successor mine leaf) e in
        next-lists b gone h mine leaf first also (successor-prev mine leaf change.0 change.1) n k
    by false e i =
        let rival = beside known mine leaf i in
        beside-lists b gone h mine leaf first also rival.prev (f mine.stamp.maker rival.maker) n k

pub taken-list : TakenLeavesList
taken-list o journal brick s mine leaf h run live there also comes other t has_it lives =
    let z = sizes_of o in
    let w = reached o journal in
    let g = run-listed o journal h run in
    let known = (λ (l : Leaf) (at : HasLeaf w l). known-leaf z w l (sized-run o journal) g.known at) in
    let gone = (λ (n : ℕ) (k : has_node s.known n ≡ true). known-gone z (net z w) brick n g.asked.links (brick-in z w brick s (sized-run o journal) live.there)
    (ap (λ x. knows (view x) n) (brick-node w brick s live.there) ∙ k)) in
    elim (comes-lists g.known.book (Gone (net z w)) (has_node s.known) mine leaf g.lists gone (known mine there) (known leaf also) comes other has_it) [
      | inl e ↦ e
      | inr stopped ↦ absurd (gone-not z w other t lives stopped)
    ]
