use Rattle.std.proofs.Common.{◌≡◌, ℕ, ◌^◌, ◌<◌, ◌==◌, ◌++◌, inl, inr, Bool, true, false, not, Some, List, [], ◌∷◌, refl, ap, ◌∙◌, subst}
use Rattle.std.proofs.lemmas.Bool.{and_from, both_ways, eqb-true}
use Rattle.std.specs.FinMap.{get}
use Rattle.std.specs.Prelude.{is_some, if◌then◌else◌}
use Rattle.dds_base.specs.BrickList.{has}
use Rattle.dds_base.specs.Name.{Name, same_name}
use Rattle.dds_base.specs.NodeSet.{has_node}
use Rattle.dds_base.specs.declared.leaf.Leaf.{Leaf}
use Rattle.dds_base.specs.declared.number.NodeNo.{NodeNo}
use Rattle.dds_core.specs.Brick.{live_brick_turn}
use Rattle.dds_groups.specs.Leaves.{successor}
use Rattle.dds_law_leaf.proofs.Maps.{each-is}
use Rattle.dds_law_own.proofs.Lists.{Each}
use Rattle.dds_law_own.proofs.Owned.{made_name, orderly}
use Rattle.dds_letters.specs.declared.letter.Letter.{Letter}
use Rattle.dds_letters.specs.declared.letter.Letter.TheVariants as letter
use Rattle.dds_locks.specs.Leases.{is_given}
use Rattle.dds_net.proofs.Letters.{first-all}
use Rattle.dds_net.specs.Event.{Takes}
use Rattle.dds_net.specs.Net.{Net, a_brick, Sizes}
use Rattle.dds_order_talk.proofs.BrickSide.{IsCounted}
use Rattle.dds_order_talk.proofs.Holds.{both-live, name-self}
use Rattle.dds_order_talk.proofs.InstallsApart.{install-given, made-meets}
use Rattle.dds_order_talk.proofs.Letters as within
use Rattle.dds_order_talk.proofs.Lines.{IsTold, install-told, is_told}
use Rattle.dds_order_talk.proofs.MemberSide.{own-while}
use Rattle.dds_order_talk.proofs.Moves.{Stays, Tells}
use Rattle.dds_order_talk.proofs.Sendings.{work-as}
use Rattle.dds_order_talk.proofs.Talking.{Wanted, counted-at, low-at, stood-at}
use Rattle.dds_order_talk.specs.Seen.{New, Own, asks, phase_view, rests, says, view, with_leaf}
use Rattle.dds_order_talk.specs.Table.{Ask, Talks, View}
use Rattle.dds_order_talk.specs.Table.Ask.{install}
use Rattle.dds_order_talk.specs.Table.View.{Off, Due, Done}
use Rattle.dds_orders.proofs.Asked.{AskedBy}
use Rattle.dds_orders.proofs.Deeds.{seat}
use Rattle.dds_orders.proofs.Leased.{path-given, path-stays}
use Rattle.dds_orders.proofs.Standing.{path-stood}
use Rattle.dds_orders.proofs.Turns.{Turns, same-leaf}
use Rattle.dds_orders.specs.Law.{asked_of}
use Rattle.dds_pairs.proofs.Names.{Fit}
use Rattle.dds_states.specs.declared.brick_state.BrickState.{BrickState}
use Rattle.dds_states.specs.declared.brick_state.OpenOrder.{OpenOrder}
use Rattle.dds_states.specs.declared.brick_state.OrderPhase.TheVariants.{Installing}
use Rattle.dds_world.specs.Groups as world
use Rattle.dds_order_runs.proofs.Installs.{Installed, given-finds, install-done, new-made, own-made}
use Rattle.dds_listed.proofs.Makes.{OrderMakes}

-- A member that is told to install the leaf of a live brick's open order installs it.

-- the member has the order's leaf
told-own : {Own : Tells} {made leaf : Leaf} {v : View} {o : List Ask} {given : Bool} → IsTold Own made v o given → v ≡ Due leaf made → Own leaf
told-own {Own = Own} (is_told own) e = subst Own (due-is _ _ _ _ e) own
  where
    due-is : (a b c d : Leaf) → Due a b ≡ Due c d → a ≡ c
    due-is a b c d e = cc

told-not : {Own : Tells} {made leaf : Leaf} {v : View} {o : List Ask} {given : Bool} → IsTold Own made v o given → v ≡ Done leaf made → ⊥
told-not (is_told own) e = cc

told-off : {Own : Tells} {made : Leaf} {v : View} {o : List Ask} {given : Bool} → IsTold Own made v o given → v ≡ Off → ⊥
told-off (is_told own) e = cc

due-leaf : {Own : Tells} {made leaf : Leaf} {v : View} {o : List Ask} {given : Bool} (m : ℕ) (w g : Bool)
    → v ≡ (if w then with_leaf rests m (Some leaf) (λ own. Due own made) else (if g then with_leaf rests m (Some leaf) (λ own. Done own made) else Off))
    → IsTold Own made v o given → Own leaf
due-leaf m true g e h = told-own h e
due-leaf m false true e h = absurd (told-not h e)
due-leaf m false false e h = absurd (told-off h e)

-- what is so of the brick and its open order
pub record Order (at from : ℕ) (sj : BrickState) (o : OpenOrder) (made leaf : Leaf) : Type 0 where
  pub opened : sj.order ≡ Some o
  pub fixed : o.leaf ≡ Some leaf
  pub phase : o.phase ≡ Installing made
  pub name : made.name ≡ made_name o.name o.task
  pub lists : has made.list at ≡ true
  pub comes : leaf.name.bits < 2 ^ leaf.name.depth → is_some (successor leaf made) ≡ true

abbrev pub Meets : ℕ → ℕ → BrickState → BrickState → Name → List Letter → List Letter → Type 0
Meets a at sj s x out back =
    Talks x (Own s.leaves x) (New s.leaves x) (not sj.stopped) (not s.stopped) (view rests sj.order x at) (asks sj.order x out)
    (is_given s.locks.leases x a) (says sj.order x back)

-- the conversation about the order's name, where the letter to install comes first
abbrev Starts : ℕ → ℕ → BrickState → BrickState → OpenOrder → Leaf → List Letter → List Letter → Type 0
Starts a at sj s o made others back =
    Talks o.name (Own s.leaves o.name) (New s.leaves o.name) (not sj.stopped) (not s.stopped) (view rests sj.order o.name at)
    (install made ∷ asks (Some o) o.name others) (is_given s.locks.leases o.name a) (says sj.order o.name back)

starts : (a at : ℕ) (sj s : BrickState) (o : OpenOrder) (number : ℕ) (made : Leaf) (others back : List Letter) → sj.order ≡ Some o
    → (o.number == number) ≡ true → Meets a at sj s o.name (letter.Install number made ∷ others) back → Starts a at sj s o made others back
starts a at sj s o number made others back opened its h =
    subst (λ k. Talks o.name (Own s.leaves o.name) (New s.leaves o.name) (not sj.stopped) (not s.stopped) (view rests sj.order o.name at)
    (k ++ asks (Some o) o.name others) (is_given s.locks.leases o.name a) (says sj.order o.name back))
    (work-as (o.number == number) (same_name o.name o.name) (install made) its (name-self o.name))
    (subst (λ q. Talks o.name (Own s.leaves o.name) (New s.leaves o.name) (not sj.stopped) (not s.stopped) (view rests sj.order o.name at)
    (asks q o.name (letter.Install number made ∷ others)) (is_given s.locks.leases o.name a) (says sj.order o.name back)) opened h)

has-leaf : (a at : ℕ) (sj s : BrickState) (o : OpenOrder) (made leaf : Leaf) (others back : List Letter) → Order at a sj o made leaf
    → sj.stopped ≡ false → s.stopped ≡ false → Starts a at sj s o made others back → Own s.leaves o.name leaf
has-leaf a at sj s o made leaf others back w alive live h =
    let it = install-told (both-live (ap not alive) (ap not live) h) in
    due-leaf at (has o.waiting at) (has o.granted at)
    (ap (λ q. view rests q o.name at) w.opened ∙ ap (λ c. if c then phase_view rests o at o.phase else Off) (name-self o.name)
    ∙ ap (phase_view rests o at) w.phase
    ∙ ap (λ q. if has o.waiting at then with_leaf rests at q (λ own. Due own made)
    else (if has o.granted at then with_leaf rests at q (λ own. Done own made) else Off)) w.fixed) it

given-so : (A B : Tells) (c : Bool) → c ≡ true → Stays A B c → (leaf : Leaf) → A leaf → B leaf
given-so A B true e f = f
given-so A B false e f = cc

-- the order installs what the letter tells
pub phase-of : (z : Sizes) (n : Net) (at from : NodeNo) (l : Letter) (s sj : BrickState) (o : OpenOrder) (number : ℕ) (made : Leaf) → Wanted z n
    → Takes z n at from l (a_brick s) → n.node from ≡ a_brick sj → sj.stopped ≡ false → sj.order ≡ Some o → l ≡ letter.Install number made
    → (o.number == number) ≡ true → IsCounted (seat sj) (letter.Install number made) × (o.phase ≡ Installing made)
phase-of z n at from l s sj o number made w f there alive opened e its =
    let c : IsCounted (seat sj) (letter.Install number made) =
    subst (IsCounted (seat sj)) e (first-all (IsCounted (seat sj)) z n at from l f.letter (counted-at z n from at sj w there alive)) in
    (c, (c number refl).of o opened (eqb-true o.number number its))

-- the order's facts, from those of the world
pub order-of : (z : Sizes) (n : Net) (at from : NodeNo) (l : Letter) (s sj : BrickState) (o : OpenOrder) (number : ℕ) (made leaf : Leaf) → Wanted z n
    → AskedBy from sj.known sj.order → OrderMakes sj.order → Takes z n at from l (a_brick s) → n.node from ≡ a_brick sj → sj.stopped ≡ false
    → has_node sj.known at ≡ false → sj.order ≡ Some o → o.leaf ≡ Some leaf → l ≡ letter.Install number made → (o.number == number) ≡ true
    → Order at from sj o made leaf
order-of z n at from l s sj o number made leaf w asked makes f there alive unknown opened fixed e its =
    let number_is = eqb-true o.number number its in
    let phase = (phase-of z n at from l s sj o number made w f there alive opened e its).1 in
    let stood = stood-at z n from sj w there in
    let it = (orderly from (seat sj).own.order o opened stood.both.0.order).made in
    let named = subst (λ p. Each (λ (k : Leaf). (k.name ≡ made_name o.name o.task) × (has k.list from ≡ true)) (world.made_leaf p)) phase it in
    let ok = first-all (within.LetterOk n.node from at) z n at from l f.letter (w.within.letters from at) in
    let asks_it : within.Asked (a_brick sj) number at =
    subst (λ y. within.Asked y number at) there (ok.asks number (ap asked_of e) (low-at z n at s w f.here)) in
    let was : has o.asked at ≡ true = (asks_it alive).of o opened number_is in
    let member = (w.fits from sj there o opened).lists leaf fixed at was in
    record {
      opened = opened;
      fixed = fixed;
      phase = phase;
      name = named.0;
      lists = elim ((asked o opened).made leaf made fixed phase at member) [ inl k ↦ k | inr k ↦ absurd (both_ways (has_node sj.known at) unknown k) ];
      comes = λ range. makes o opened leaf made fixed phase range;
    }

-- the member's turn
pub installs-it : (z : Sizes) (n : Net) (at from : NodeNo) (l : Letter) (s sj : BrickState) (o : OpenOrder) (number : ℕ) (made leaf own : Leaf)
    (u : Turns from (seat s) l (live_brick_turn s from l)) → Wanted z n → Fit s → Takes z n at from l (a_brick s) → n.node from ≡ a_brick sj
    → sj.stopped ≡ false → (from ≡ at → ⊥) → Order at from sj o made leaf → l ≡ letter.Install number made → (o.number == number) ≡ true
    → Meets from at sj s o.name (n.channel from at) (n.channel at from) → Own u.first.own.leaves o.name own
    → Installed o o.name made u.next u.answers
installs-it z n at from l s sj o number made leaf own u w fit f there alive ne k e its talk has_own =
    let line = subst (λ c. Meets from at sj s o.name c (n.channel at from)) (f.letter.first ∙ ap (λ i. i ∷ f.letter.others) e) talk in
    let start = starts from at sj s o number made f.letter.others (n.channel at from) k.opened its line in
    let given : is_given s.locks.leases o.name from ≡ true = install-given (ap not alive) (ap not f.live) start in
    let has_leaf : Own s.leaves o.name leaf = has-leaf from at sj s o made leaf f.letter.others (n.channel at from) k alive f.live start in
    let stood = stood-at z n at s w f.here in
    let first = path-stood at (seat s) u.first [] u.takes stood in
    let stays = path-stays at (seat s) u.first [] o.name from u.takes stood ne given in
    let still : Own u.first.own.leaves o.name leaf = given-so (Own s.leaves o.name) (Own u.first.own.leaves o.name)
    (is_given s.locks.leases o.name from) given (own-while o.name s.leaves u.first.own.leaves (is_given s.locks.leases o.name from) (λ g. stays)) leaf
    has_leaf in
    let same : leaf ≡ own = same-leaf (get u.first.own.leaves o.name) leaf own still.is has_own.is in
    let range_leaf : leaf.name.bits < 2 ^ leaf.name.depth = (each-is _ (get s.leaves o.name) leaf has_leaf.is (fit.is.0 o.name)).bits in
    let range : o.name.bits < 2 ^ o.name.depth = subst (λ (q : Name). q.bits < 2 ^ q.depth) has_leaf.name range_leaf in
    let c = (phase-of z n at from l s sj o number made w f there alive k.opened e its).0 in
    let meets = made-meets from (seat sj) o number made (stood-at z n from sj w there) k.opened c its in
    install-done from l u.first u.next u.answers number made own o o.name u.hears e
    (and_from (o.number == number) (same_name o.name o.name) its (name-self o.name))
    (record {
      there = own-made o.task u.first.own.leaves o.name made.name own k.name first.both.1.leaves range has_own.is;
      leased = given-finds u.first.own.leases o.name made.name from meets
          (path-given at (seat s) u.first [] o.name from u.takes stood.both ne ∙ given);
      lists = ap (has made.list) first.both.0.number ∙ k.lists;
      comes = subst (λ (q : Leaf). is_some (successor q made) ≡ true) same (k.comes range_leaf);
    }) (new-made o.task u.first.own.leaves o.name own made k.name has_own.name range)
