use Rattle.std.proofs.Common.{◌≡◌, ℕ, ◌+◌, ◌≤◌, true, false, is_some, sym, ap, ◌∙◌, subst, arith}
use Rattle.std.proofs.lemmas.Bool.{both_ways, ne_eqb}
use Rattle.dds_base.specs.BrickList.{has}
use Rattle.dds_base.specs.Name.{covers}
use Rattle.dds_law_own.proofs.Changes.{own}
use Rattle.dds_law_own.proofs.Keeps as own_law
use Rattle.dds_law_own.proofs.Parted.{IsBoth}
use Rattle.dds_locks.specs.Leases.{is_given}
use Rattle.dds_locks.specs.Pending.{any_under}
use Rattle.dds_net.specs.Net.{Net, Sizes, a_brick}
use Rattle.dds_order_rows.specs.OwnOrder as order
use Rattle.dds_order_talk.proofs.Holds.{granted-holds}
use Rattle.dds_pairs.proofs.Apart.{covered-apart}
use Rattle.dds_pairs.proofs.LieKeeps.{AreLying}
use Rattle.dds_parents.proofs.Served.{covered-by}
use Rattle.dds_share.proofs.Facts.{AreAll, unknown-of}
use Rattle.dds_share.proofs.Over.{covers-over, in-covers}
use Rattle.dds_share.proofs.Sources.{bound-freezes, some-leaf}
use Rattle.dds_share.proofs.Together.{AreTogether, Freezes, Serves}
use Rattle.dds_share.proofs.Turned.{same-brick}
use Rattle.dds_states.specs.Leaf.{leaf_for}
use Rattle.dds_states.specs.declared.brick_state.BrickState.{BrickState}
use Rattle.dds_states.specs.declared.brick_state.OpenOrder.{OpenOrder}
use Rattle.dds_copies.proofs.Leased.{free-under}
use Rattle.dds_copies.specs.Frozen.{ServersHaveLeased}

-- A live brick with a leaf over a key of the name of a join that each such brick granted isn't the join's own, whose leaves are apart from it;
-- so it has granted the join its lease, and holds it, and nothing is pending under a lease.

module _ (z : Sizes) (n : Net) (all : AreAll z n) (together : AreTogether n) (lying : AreLying z n) (k b : ℕ) (s t : BrickState) (o : OpenOrder) (key : ℕ)
    (bound : Freezes n k s o) (here : n.node b ≡ a_brick t) (live : t.stopped ≡ false) (covered : is_some (leaf_for t.leaves key) ≡ true)
    (under : covers o.name key ≡ true) where
  its-own : IsBoth b (own t)
  its-own = subst (own_law.NodeOk b) here (lying.stood.own b)

  another : b ≡ k → ⊥
  another is =
      let same : t ≡ s = same-brick t s (sym here ∙ ap n.node is ∙ bound.here) in
      both_ways (covers o.name key) (covered-apart b (own t) o key its-own (ap (λ (x : BrickState). x.order) same ∙ bound.there) bound.join covered) under

  has-granted : has o.granted b ≡ true
  has-granted =
      let leaf = some-leaf (leaf_for t.leaves key) covered in
      let mine = covered-by t.leaves key leaf.0 leaf.1 in
      let deep = mine.name.depth + o.name.depth in
      let first : mine.name.depth ≤ deep = omega arith in
      let second : o.name.depth ≤ deep = omega arith in
      let serves : Serves n b (record { bits = key; depth = deep }) t leaf.0 =
      record { here = here; live = live; over = covers-over t.leaves key deep leaf.0 mine first } in
      bound.granted b (record { bits = key; depth = deep }) t leaf.0 another serves (in-covers o.name key deep second under)

  has-given : is_given t.locks.leases o.name k ≡ true
  has-given =
      let leaf = some-leaf o.leaf (together.fixed k s o bound.here bound.live bound.there bound.join bound.phase) in
      (granted-holds k b s t o leaf.0 (n.channel k b) (n.channel b k) bound.live live (unknown-of z n all k b s t bound.here here live) bound.there leaf.1
      has-granted (λ e. absurd (both_ways (order.is_leasing o.phase) bound.phase (ap order.is_leasing e)))
      (all.talk k b o.name s t bound.here here (ne_eqb k b (λ e. another (sym e))))).0

  pub has-leased : (is_given t.locks.leases o.name k ≡ true) × (any_under t.locks.pending o.name ≡ false)
  has-leased = (has-given, free-under b t o.name k its-own has-given)

pub freezes-leased : (z : Sizes) (n : Net) → AreAll z n → AreTogether n → AreLying z n → (k b : ℕ) (s t : BrickState) (o : OpenOrder) (key : ℕ)
    → Freezes n k s o → n.node b ≡ a_brick t → t.stopped ≡ false → is_some (leaf_for t.leaves key) ≡ true → covers o.name key ≡ true
    → (is_given t.locks.leases o.name k ≡ true) × (any_under t.locks.pending o.name ≡ false)
freezes-leased z n all together lying k b s t o key h here live covered under =
    has-leased z n all together lying k b s t o key h here live covered under

pub servers-leased : (z : Sizes) (n : Net) → AreAll z n → AreTogether n → AreLying z n → ServersHaveLeased n
servers-leased z n all together lying k b s t o key bound here live covered under =
    has-leased z n all together lying k b s t o key (bound-freezes n k s o together.granted bound) here live covered under
