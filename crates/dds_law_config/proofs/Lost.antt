use Rattle.std.proofs.Common.{◌≡◌, ℕ, inl, inr, ◌<◌, ◌==◌, ◌&&◌, ◌||◌, Bool, true, false, Option, Some, None, List, refl, sym, ap, ◌∙◌, subst}
use Rattle.std.proofs.lemmas.Bool.{and_parts, both_ways, cases_eq, ne_eqb}
use Rattle.std.specs.Prelude.{take}
use Rattle.dds_base.specs.BrickList.{has}
use Rattle.dds_base.specs.NodeSet.{has_node, with_node}
use Rattle.dds_base.specs.declared.number.NodeNo.{NodeNo}
use Rattle.dds_base.specs.declared.op.Reply.{Reply}
use Rattle.dds_base.specs.declared.op.Reply.TheVariants as reply
use Rattle.dds_base.specs.Name.{Name}
use Rattle.dds_cluster.specs.Trace.{has_first, is_run, run_of}
use Rattle.dds_cluster.specs.World.{World, is_node, link}
use Rattle.dds_cluster.specs.declared.step.Step.{Step}
use Rattle.dds_cluster.specs.declared.step.Step.TheVariants as step
use Rattle.dds_cluster.specs.declared.trace.Asked.{Asked}
use Rattle.dds_cluster.specs.declared.trace.Told.{Told}
use Rattle.dds_base.specs.declared.node_set.NodeSet.{NodeSet}
use Rattle.dds_core.proofs.Known.{has-with}
use Rattle.dds_core.proofs.Lists.{all-map}
use Rattle.dds_law_commit.proofs.Causes.{all-are-caused}
use Rattle.dds_law_commit.specs.Law.{IsCaused}
use Rattle.dds_law_notice.proofs.Last.{notices-are-last}
use Rattle.dds_net.proofs.Journals.{place-of}
use Rattle.dds_net.proofs.Nodes.{brick-node, library-node}
use Rattle.dds_net.proofs.Places.{is-in, node-below}
use Rattle.dds_net.proofs.Runs.{sized-run}
use Rattle.dds_net.specs.Net.{Net, a_brick, a_library, net, sizes_of}
use Rattle.dds_resolve.proofs.Here.{listed-has}
use Rattle.dds_script.specs.Opening.{IsOpening, OpeningOf}
use Rattle.dds_states.specs.declared.brick_state.BrickState.{BrickState}
use Rattle.dds_states.specs.declared.library_state.LibraryState.{LibraryState}
use Rattle.dds_world.specs.Causes.{CausedBy, LostAt}
use Rattle.dds_world.specs.Stands.{answer_to}
use Rattle.dds_world.specs.Places.{HasStopped, IsLive, world_at}
use Rattle.dds_law_config.specs.Law.{IsNotLost, KeptMembersLoseNothing, ListsKeepAMember, is_lost}

-- A call that was answered Lost had no live member left.

some-is : (a b : BrickState) → Some a ≡ Some b → a ≡ b
some-is a b e = cc

-- a brick that lives hasn't stopped
-- a brick is no library
no-library : (n : Net) (k : ℕ) (s : BrickState) (q : LibraryState) → n.node k ≡ a_brick s → n.node k ≡ a_library q → ⊥
no-library n k s q e f = let no : a_brick s ≡ a_library q = sym e ∙ f in cc

lives-not : (o : OpeningOf) (w : World) (k : NodeNo) (s : BrickState) → IsLive w k s → HasStopped w k → ⊥
lives-not o w k s h (inl stopped) =
    both_ways s.stopped h.live (ap (λ (x : BrickState). x.stopped) (some-is s stopped.0 (sym h.there ∙ stopped.1)) ∙ stopped.2)
lives-not o w k s h (inr stopped) =
    no-library (net (sizes_of o) w) k s stopped.0 (brick-node w k s h.there) (library-node w k stopped.0 stopped.1)

-- who is known has stopped, and so has whose notice comes
known-stopped : (o : OpeningOf) (journal : List Step) → IsOpening o → is_run o journal ≡ true → (a : Asked) (told : Told) (name : Name)
    → (c : LostAt o journal a told name) → (brick : NodeNo) → has c.list brick ≡ true → HasStopped (world_at o journal told.place) brick
known-stopped o journal h run a told name c brick lists =
    let z = sizes_of o in
    let at = told.place in
    let w = world_at o journal at in
    let last = notices-are-last o journal h.ranges run at in
    let may = and_parts (is_node w c.node) (is_node w c.stopped && has_first (link w c.stopped c.node))
    (place-of o journal at (step.Handle c.node c.stopped) run c.step).possible in
    let sender = (and_parts (is_node w c.stopped) (has_first (link w c.stopped c.node)) may.1).0 in
    let inside = sym (is-in z w c.stopped (sized-run o (take at journal))) ∙ sender in
    let low = node-below z c.stopped h.ranges.bricks h.ranges.libraries inside in
    let known = listed-has (λ n. has_node (with_node c.before.known c.stopped) n) c.list brick c.known lists in
    elim (cases_eq brick c.stopped) [
      | inl e ↦ subst (HasStopped w) (sym e) (last.sent c.stopped c.node (record {
        sender = sender;
        receiver = may.0;
        message = c.message;
        at = 0;
        letter = c.notice;
        place = inl c.first;
      }))
      | inr ne ↦ last.known c.node brick (inr (
        c.before,
        c.is_before,
        other-known c.before.known c.stopped brick low ne known,
      ))
    ]
  where
    other-known : (s : NodeSet) (node other : ℕ) → node < 80 → (other ≡ node → ⊥) → has_node (with_node s node) other ≡ true → has_node s other ≡ true
    other-known s node other low ne h = other-of (other == node) (has_node s other) (ne_eqb other node ne) (sym (has-with s node other low) ∙ h)
      where
        other-of : (x y : Bool) → x ≡ false → (x || y) ≡ true → y ≡ true
        other-of true y e k = cc
        other-of false y e k = k

not-lost : (o : OpeningOf) (journal : List Step) → IsOpening o → is_run o journal ≡ true → ListsKeepAMember o journal → (a : Asked) (told : Told) (r : Reply)
    → CausedBy o journal a told r → is_lost r ≡ false
not-lost o journal h run keeps a told (reply.Lost name) c =
    let member = keeps told.place c.node c.before a c.call c.leaf c.list c.waiting None c.is_before c.is_open c.committing in
    absurd (lives-not o (world_at o journal told.place) member.brick member.state member.lives
    (known-stopped o journal h run a told name c member.brick member.lists))
not-lost o journal h run keeps a told other c = refl

pub none-lost : KeptMembersLoseNothing
none-lost o journal h run keeps =
    all-map (λ (a : Asked). IsCaused o journal a (answer_to (run_of o journal).told a.caller a.call))
    (λ a. IsNotLost (answer_to (run_of o journal).told a.caller a.call)) (run_of o journal).asked
    (λ a c. by a (answer_to (run_of o journal).told a.caller a.call) c) (all-are-caused o journal h run)
  where
    by : (a : Asked) (t : Option Told) → IsCaused o journal a t → IsNotLost t
    by a None c = tt
    by a (Some told) c = not-lost o journal h run keeps a told told.reply c
