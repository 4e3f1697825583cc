use Rattle.std.proofs.Common.{◌≡◌, ℕ, ◌≤◌, ◌%◌, ◌^◌, true, Option, Some, None, sym, ap, ◌∙◌, subst}
use Rattle.std.proofs.Math.Nat.{mod-eq_of_lt}
use Rattle.std.proofs.lemmas.Bool.{both_ways, eq-eqb}
use Rattle.std.specs.FinMap.{get}
use Rattle.std.specs.Prelude.{is_some}
use Rattle.dds_base.specs.BrickList.{has}
use Rattle.dds_base.specs.Name.{Name, covers}
use Rattle.dds_base.specs.declared.leaf.Leaf.{Leaf}
use Rattle.dds_brick_rows.specs.Refusal.{is_join}
use Rattle.dds_law_leaf.proofs.Maps.{each-is}
use Rattle.dds_law_own.proofs.Changes.{own}
use Rattle.dds_law_own.proofs.Keeps as law_own
use Rattle.dds_law_own.proofs.Parted.{IsBoth}
use Rattle.dds_net.specs.Net.{Net, Sizes, a_brick}
use Rattle.dds_order_talk.proofs.BrickSide.{Fits}
use Rattle.dds_order_talk.proofs.Fitting.{NodeFits}
use Rattle.dds_order_talk.specs.Seen.{JoinersAreUnlisted}
use Rattle.dds_orders.proofs.Covered.{false-of}
use Rattle.dds_orders.proofs.Numbers.{the-order}
use Rattle.dds_pairs.proofs.Apart.{covered-apart}
use Rattle.dds_pairs.proofs.NameKeeps.{AreNamed, NodeNamed, keyed-at}
use Rattle.dds_pairs.proofs.Names.{Fit, IsFit}
use Rattle.dds_script.specs.Ranges.{IsName}
use Rattle.dds_states.specs.declared.brick_state.BrickState.{BrickState}
use Rattle.dds_states.specs.declared.brick_state.OpenOrder.{OpenOrder}
use Rattle.dds_listed.proofs.Listed.{AllAnswer, MembersAnswer, NodeOk}
use Rattle.dds_listed.specs.Answers.{Answers, installs, serves}

-- So no leaf lists a brick whose join has the leaf's name and no leaf yet: none of the brick's own leaves has a key in common with that name.

-- a partition's name covers the key of its bits
pub covers-bits : (n : Name) → IsName n → covers n n.bits ≡ true
covers-bits n h = eq-eqb (n.bits % 2 ^ n.depth) n.bits (mod-eq_of_lt h.bits)

none-some : (q : Option Leaf) → q ≡ None → is_some q ≡ true → ⊥
none-some None e h = cc
none-some (Some leaf) e h = cc

pub answers-not : (j : ℕ) (s : BrickState) (p : OpenOrder) (leaf : Leaf) → IsBoth j (own s) → s.order ≡ Some p → is_join p.task ≡ true → p.leaf ≡ None
    → leaf.name ≡ p.name → IsName leaf.name → Answers s leaf → ⊥
answers-not j s p leaf both there join none name named (serves over) =
    let key = leaf.name.bits in
    both_ways (covers p.name key) (covered-apart j (own s) p key both there join (over key (covers-bits leaf.name named)))
    (subst (λ n. covers n key ≡ true) name (covers-bits leaf.name named))
answers-not j s p leaf both there join none name named (installs o is joins fixed phase) =
    let same : o ≡ p = the-order o p (sym is ∙ there) in
    none-some o.leaf (ap (λ (x : OpenOrder). x.leaf) same ∙ none) fixed

-- no own leaf is one of the opening's stale ones
abbrev pub OwnAreNew : Net → Type 0
OwnAreNew n = (k : ℕ) (s : BrickState) (at : Name) (leaf : Leaf) → n.node k ≡ a_brick s → get s.leaves at ≡ Some leaf → 1 ≤ leaf.epoch

pub joiners-unlisted : (z : Sizes) (n : Net) → AreNamed z n → ((k : ℕ) → NodeFits k (n.node k)) → OwnAreNew n → AllAnswer n → JoinersAreUnlisted n
joiners-unlisted z n g fits new h j m s t p leaf here there live lives other is none at =
    let both : IsBoth j (own s) = subst (law_own.NodeOk j) here (g.copied.own j) in
    let its : IsBoth m (own t) = subst (law_own.NodeOk m) there (g.copied.own m) in
    let named : Fit t = subst (NodeNamed m) there (g.nodes m) in
    let fit : Fits s.order = subst (NodeFits j) here (fits j) in
    let ok : NodeOk n m (a_brick t) = subst (NodeOk n m) there (h.nodes m) in
    let name = keyed-at m t its p.name leaf at in
    let answer : MembersAnswer n leaf = each-is (MembersAnswer n) (get t.leaves p.name) leaf at (ok.0 p.name) in
    false-of (has leaf.list j) (λ lists.
    answers-not j s p leaf both is ((fit p is).joins none) none name (each-is IsFit (get t.leaves p.name) leaf at (named.is.0 p.name))
    (answer (new m t p.name leaf there at) j s here live lists))
