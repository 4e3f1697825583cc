use Rattle.std.proofs.Common.{◌≡◌, ℕ, ◌≤◌, ◌==◌, ◌||◌, inl, inr, Bool, true, false, ap, ◌∙◌, subst}
use Rattle.std.proofs.lemmas.Bool.{both_ways, eq-eqb}
use Rattle.std.specs.Prelude.{is_some}
use Rattle.dds_base.specs.Name.{Name}
use Rattle.dds_base.specs.declared.leaf.Leaf.{Leaf}
use Rattle.dds_groups.specs.Leaves.{sibling, successor}
use Rattle.dds_groups.specs.Take.{is_better_rival, maker_known}
use Rattle.dds_law_leaf.proofs.Book.{Book, Known}
use Rattle.dds_law_own.proofs.Changes.{own}
use Rattle.dds_law_own.proofs.Disjoint.{Replaces, half, same_name}
use Rattle.dds_law_own.proofs.Keeps.{NodeOk}
use Rattle.dds_law_own.proofs.Parted.{IsBoth}
use Rattle.dds_net.specs.Net.{Net, Sizes}
use Rattle.dds_pairs.proofs.NameKeeps.{AreNamed}
use Rattle.dds_parents.proofs.Keeps.{Gone}
use Rattle.dds_parents.proofs.Lists.{AllList}
use Rattle.dds_script.specs.Ranges.{IsName}
use Rattle.dds_share.proofs.Turned.{lives-not}
use Rattle.dds_trie.specs.Trie.{LeafMap}
use Rattle.dds_listed.proofs.Listed.{MembersAnswer}
use Rattle.dds_listed.proofs.Replaced.{came-members}
use Rattle.dds_listed.proofs.Siblings.{not-whole, sibling-answers}

-- Where live members answer for a leaf that is told and for the one in whose place it comes, they answer for the told one's sibling.

-- a leaf in the place of another one: the one that is told may be a half of it
pub record Comes (b : Book) (gone : ℕ → Type 0) (known : ℕ → Bool) (mine leaf : Leaf) : Type 0 where
  pub lists : AllList b gone
  pub fresh : 1 ≤ mine.epoch
  pub knows : (n : ℕ) → known n ≡ true → gone n
  pub old : Known b mine
  pub new : Known b leaf
  pub named : IsName leaf.name
  pub comes : (is_some (successor mine leaf) || is_better_rival known mine leaf) ≡ true
  pub maker : is_some (successor mine leaf) ≡ false → maker_known known leaf.stamp ≡ true

pub sibling-members : (z : Sizes) (m : Net) (b : Book) (known : ℕ → Bool) (k : LeafMap) (mine leaf : Leaf) → AreNamed z m → Comes b (Gone m) known mine leaf
    → Replaces k mine leaf → (mine.name.depth == leaf.name.depth) ≡ false → MembersAnswer m mine → MembersAnswer m leaf → MembersAnswer m (sibling leaf)
sibling-members z m b known k mine leaf g c (same_name there is) e f h =
    absurd (both_ways (mine.name.depth == leaf.name.depth) e (eq-eqb mine.name.depth leaf.name.depth (ap (λ (n : Name). n.depth) is)))
sibling-members z m b known k mine leaf g c (half there is deep) e f h = its
  where
    its : MembersAnswer m (sibling leaf)
    its new at t here live lists =
        let both : IsBoth at (own t) = subst (NodeOk at) here (g.copied.own at) in
        elim (came-members b (Gone m) known mine leaf c.lists c.knows c.old c.new (λ i. not-whole leaf.name deep (i ∙ is)) c.comes c.maker at lists) [
          | inl was ↦ sibling-answers at t mine leaf both is c.named deep (f c.fresh at t here live was) (h new at t here live lists)
          | inr gone ↦ absurd (lives-not m at t here live gone)
        ]
