use Rattle.std.proofs.Common.{◌≡◌, ℕ, ◌==◌, ◌++◌, Bool, true, false, not, Some, List, ◌∷◌, sym, ap, ◌∙◌, subst}
use Rattle.std.proofs.lemmas.Bool.{and_from, eq-eqb, ne_eqb}
use Rattle.std.specs.Prelude.{is_some}
use Rattle.dds_base.specs.BrickList.{has}
use Rattle.dds_base.specs.Name.{Name, covers, same_name}
use Rattle.dds_base.specs.NodeSet.{has_node}
use Rattle.dds_base.specs.declared.leaf.Leaf.{Leaf}
use Rattle.dds_law_own.proofs.Changes.{own}
use Rattle.dds_law_own.proofs.Keeps as law_own
use Rattle.dds_law_own.proofs.Parted.{IsBoth}
use Rattle.dds_letters.specs.declared.letter.Letter.{Letter}
use Rattle.dds_letters.specs.declared.letter.Letter.TheVariants as letter
use Rattle.dds_net.specs.Net.{Net, Sizes, a_brick}
use Rattle.dds_order_rows.specs.OwnOrder as order
use Rattle.dds_order_talk.proofs.Holds.{HasOf, both-live, granted-holds, name-self}
use Rattle.dds_order_talk.proofs.Moves.{Tells}
use Rattle.dds_order_talk.specs.Seen.{BrickTalk, New, Own, one, rests, say_of, says}
use Rattle.dds_order_talk.specs.Table.{Ask, Say, Talk, View}
use Rattle.dds_order_talk.specs.Table.Say.{granted}
use Rattle.dds_order_talk.specs.Table.Talk.{said_yes}
use Rattle.dds_pairs.proofs.Grows.{cover-of}
use Rattle.dds_pairs.proofs.NameKeeps.{AreNamed, NodeNamed, keyed-at}
use Rattle.dds_pairs.proofs.Names.{Fit}
use Rattle.dds_share.proofs.Facts.{AreAll, unknown-of}
use Rattle.dds_states.specs.Leaf.{leaf_for}
use Rattle.dds_states.specs.declared.brick_state.BrickState.{BrickState}
use Rattle.dds_states.specs.declared.brick_state.OpenOrder.{OpenOrder}
use Rattle.dds_states.specs.declared.brick_state.OrderPhase.{OrderPhase}
use Rattle.dds_states.specs.declared.brick_state.OrderPhase.TheVariants.{Copying, Installing, Leasing}

-- Who granted an order its lease has a leaf of the order's name until the order installs: its leaves cover each key under that name.

-- a member that says that it granted
said-own : {x : Name} {Own New : Tells} {v : View} {out : List Ask} {given : Bool} {leaf : Leaf} {back : List Say}
    → Talk x Own New v out given (granted leaf ∷ back) → Own leaf
said-own (said_yes has_it fits) = has_it

as-back : {x : Name} {Own New : Tells} {v : View} {out : List Ask} {given : Bool} {back said : List Say} → back ≡ said → Talk x Own New v out given back
    → Talk x Own New v out given said
as-back {x = x} {Own = Own} {New = New} {v = v} {out = out} {given = given} e h = subst (λ b. Talk x Own New v out given b) e h

pub says-own :
    (j m : ℕ) (s t : BrickState) (o : OpenOrder) (out back : List Letter) (number : ℕ) (leaf : Leaf) (rest : List Letter) → s.stopped ≡ false
    → t.stopped ≡ false → has_node s.known m ≡ false → s.order ≡ Some o → o.number ≡ number → back ≡ letter.Granted number leaf ∷ rest
    → BrickTalk rests j m o.name s t out back → Own t.leaves o.name leaf
says-own j m s t o out back number leaf rest lives also unknown is e f h =
    let said : says s.order o.name back ≡ granted leaf ∷ says s.order o.name rest =
    ap (says s.order o.name) f ∙ ap (λ q. say_of q o.name (letter.Granted number leaf) ++ says s.order o.name rest) is
    ∙ ap (λ c. one c (granted leaf) ++ says s.order o.name rest)
    (and_from (o.number == number) (same_name o.name o.name) (eq-eqb o.number number e) (name-self o.name)) in
    said-own (as-back said (both-live (ap not lives) (ap not also) (h unknown)))

-- before the order installs
own-of : (Own New : Tells) (p : OrderPhase) (leaf : Leaf) → order.is_installing p ≡ false → HasOf Own New p leaf → Own leaf
own-of Own New Leasing leaf e h = h
own-of Own New (Copying source) leaf e h = h
own-of Own New (Installing made) leaf e h = cc

module _ (z : Sizes) (n : Net) (g : AreAll z n) (named : AreNamed z n) (j m : ℕ) (s t : BrickState) (o : OpenOrder) (here : n.node j ≡ a_brick s)
    (there : n.node m ≡ a_brick t) (live : s.stopped ≡ false) (also : t.stopped ≡ false) (other : m ≡ j → ⊥) (is : s.order ≡ Some o)
  where
    own-covers : (leaf : Leaf) → Own t.leaves o.name leaf → (key : ℕ) → covers o.name key ≡ true → is_some (leaf_for t.leaves key) ≡ true
    own-covers leaf has_it key over =
        let its : IsBoth m (own t) = subst (law_own.NodeOk m) there (named.copied.own m) in
        let fit : Fit t = subst (NodeNamed m) there (named.nodes m) in
        cover-of t.leaves key (keyed-at m t its) fit.is.0 (record { name = o.name; there = ap is_some has_it.is; over = over })

    pub granted-covers : (leaf : Leaf) → o.leaf ≡ Some leaf → has o.granted m ≡ true → (o.phase ≡ Leasing → has o.waiting m ≡ false)
        → order.is_installing o.phase ≡ false → (key : ℕ) → covers o.name key ≡ true → is_some (leaf_for t.leaves key) ≡ true
    granted-covers leaf fixed gave apart phase =
        let it = granted-holds j m s t o leaf (n.channel j m) (n.channel m j) live also (unknown-of z n g j m s t here there also) is fixed gave apart
        (g.talk j m o.name s t here there (ne_eqb j m (λ e. other (sym e)))) in
        own-covers leaf (own-of (Own t.leaves o.name) (New t.leaves o.name) o.phase leaf phase it.1)

    pub says-covers : (number : ℕ) (leaf : Leaf) (rest : List Letter) → o.number ≡ number → n.channel m j ≡ letter.Granted number leaf ∷ rest
        → (key : ℕ) → covers o.name key ≡ true → is_some (leaf_for t.leaves key) ≡ true
    says-covers number leaf rest e f =
        own-covers leaf (says-own j m s t o (n.channel j m) (n.channel m j) number leaf rest live also (unknown-of z n g j m s t here there also) is e f
        (g.talk j m o.name s t here there (ne_eqb j m (λ i. other (sym i)))))
