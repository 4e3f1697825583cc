use Rattle.std.proofs.Common.{◌≡◌, ℕ, ◌≤◌, false, List, subst}
use Rattle.dds_cluster.specs.declared.trace.Made.{Made}
use Rattle.dds_law_notice.proofs.Keeps.{AreLinked}
use Rattle.dds_law_own.proofs.Changes.{own}
use Rattle.dds_law_own.proofs.Keeps as own_law
use Rattle.dds_law_own.proofs.LetterWays.{IsOfAnother}
use Rattle.dds_law_own.proofs.Parted.{IsBoth}
use Rattle.dds_letters.specs.declared.letter.Letter.{Letter}
use Rattle.dds_net.specs.Event.{Takes}
use Rattle.dds_net.specs.Net.{Net, Sizes, a_brick}
use Rattle.dds_orders.proofs.Numbered.{AreCounted}
use Rattle.dds_pairs.proofs.LieKeeps.{AreLying, NodeLies}
use Rattle.dds_pairs.proofs.Lies.{Lies}
use Rattle.dds_pairs.proofs.NameKeeps.{NodeNamed}
use Rattle.dds_pairs.proofs.Names.{Fit}
use Rattle.dds_share.proofs.Facts.{AreAll}
use Rattle.dds_share.proofs.Together.{AreTogether}
use Rattle.dds_states.specs.declared.brick_state.BrickState.{BrickState}
use Rattle.dds_values.specs.Values.{HoldsTable, table}
use Rattle.dds_copies.specs.Copies.{JoinsCopy}

-- What is so before an event, of a cluster's nodes and channels and the points that were made.

pub record Before (z : Sizes) (made : List Made) (n : Net) : Type 0 where
  pub few : z.bricks ≤ 64
  pub some : z.libraries ≤ 16
  pub all : AreAll z n
  pub together : AreTogether n
  pub lying : AreLying z n
  pub holds : (k : ℕ) (s : BrickState) → n.node k ≡ a_brick s → s.stopped ≡ false → HoldsTable made s
  pub copy : JoinsCopy (table made) n

module _ (z : Sizes) (made : List Made) (n : Net) (g : Before z made n) where
  pub its-links : AreLinked z n
  its-links = g.lying.stood.links

  pub its-counts : AreCounted n
  its-counts = g.lying.stood.counted

  -- of a brick
  pub its-own : (k : ℕ) (s : BrickState) → n.node k ≡ a_brick s → IsBoth k (own s)
  its-own k s here = subst (own_law.NodeOk k) here (g.lying.stood.own k)

  pub its-names : (k : ℕ) (s : BrickState) → n.node k ≡ a_brick s → Fit s
  its-names k s here = subst (NodeNamed k) here (g.lying.named.nodes k)

  pub its-pairs : (k : ℕ) (s : BrickState) → n.node k ≡ a_brick s → Lies s
  its-pairs k s here = subst (NodeLies k) here (g.lying.lies k)

  -- a letter that it takes
  pub of-another : (at from : ℕ) (l : Letter) (s : BrickState) → Takes z n at from l (a_brick s) → IsOfAnother s from l
  of-another at from l s f = own_law.of-another z n at from l s g.few g.some its-links f (its-own at s f.here).0.number
