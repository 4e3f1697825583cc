use Rattle.std.proofs.Common.{◌++◌, Some, Bool, [], ◌∷◌, refl, subst}
use Rattle.std.proofs.Common.{◌≡◌, ℕ, ◌==◌, ◌⊎◌, true, false, inl, inr, List, sym, ap, ◌∙◌}
use Rattle.std.proofs.lemmas.Bool.{and_parts, both_ways, eqb-true}
use Rattle.dds_base.specs.Name.{Name, overlaps, same_name}
use Rattle.dds_base.specs.declared.leaf.Leaf.{Leaf}
use Rattle.dds_base.specs.declared.number.NodeNo.{NodeNo}
use Rattle.dds_base.specs.BrickList.{has}
use Rattle.dds_core.proofs.Lists.{all-both}
use Rattle.dds_groups.specs.Names.{low_half}
use Rattle.dds_law_own.proofs.Changes.{MayInstall}
use Rattle.dds_law_own.proofs.Disjoint.{replaces}
use Rattle.dds_law_own.proofs.Halves.{over-low, overlap-sym}
use Rattle.dds_law_own.proofs.Lists.{Each}
use Rattle.dds_law_own.proofs.Owned.{made_name, orderly}
use Rattle.dds_letters.specs.declared.letter.Letter.{Letter}
use Rattle.dds_letters.specs.declared.letter.Letter.TheVariants as letter
use Rattle.dds_locks.specs.Leases.{is_given, is_lease}
use Rattle.dds_locks.specs.declared.leases.Lease.{Lease}
use Rattle.dds_orders.proofs.Covered.{given-is, mine-meets, not-either}
use Rattle.dds_orders.proofs.Deeds.{Seat}
use Rattle.dds_orders.proofs.Leased.{In, LeafStays, clear-by, in-apart, replaced-apart}
use Rattle.dds_orders.proofs.Leases.{Clear, same-is}
use Rattle.dds_orders.proofs.Over.{IsOver}
use Rattle.dds_orders.proofs.Standing.{Stood, keyed}
use Rattle.dds_orders.proofs.Turns.{Hears, copies_not, denies, gives, grants, grants_not, hears_other, installed_not, installs, installs_not}
use Rattle.dds_orders.proofs.Turns.{is_installed, is_refused, learns, refused_not, releases, sends_none, sends_part}
use Rattle.dds_orders.proofs.Turns.{copies as copies_part}
use Rattle.dds_states.specs.declared.brick_state.OpenOrder.{OpenOrder}
use Rattle.dds_states.specs.declared.brick_state.Task.{Task}
use Rattle.dds_states.specs.declared.brick_state.Task.TheVariants.{Join, Split}
use Rattle.dds_world.specs.Groups as world
use Rattle.dds_order_talk.proofs.BrickHeard.{one-none}
use Rattle.dds_order_talk.proofs.BrickSide.{IsCounted}
use Rattle.dds_order_talk.proofs.Holds.{both-live, name-self}
use Rattle.dds_order_talk.proofs.Lines.{IsTold, install-told, is_told}
use Rattle.dds_order_talk.proofs.MemberHears.{sent}
use Rattle.dds_order_talk.proofs.MemberSide.{overlap-self}
use Rattle.dds_order_talk.proofs.Moves.{Tells}
use Rattle.dds_order_talk.specs.Seen.{says}
use Rattle.dds_order_talk.specs.Table.{Ask, Say, Talks, View}
use Rattle.dds_order_talk.specs.Table.Ask.{install}
use Rattle.dds_order_talk.specs.Table.Say.{installed}

-- A member that installs a leaf under one lease of a brick keeps its leaves under the brick's other leases.

its-clear : (l : Lease) (o x : Name) (j : ℕ) → l.name ≡ o → same_name o x ≡ false → (is_lease x j l ≡ true) ⊎ Clear x l → Clear x l
its-clear l o x j e apart (inl k) =
    let same : l.name ≡ x = same-is l.name x (and_parts (l.holder == j) (same_name l.name x) k).1 in
    absurd (both_ways (same_name o x) apart (ap (λ n. same_name n x) (sym e ∙ same) ∙ name-self x))
its-clear l o x j e apart (inr c) = c

mine-apart : (me j : ℕ) (m : Seat) (mine leaf : Leaf) (o x : Name) → Stood me m → MayInstall m.own mine leaf j → is_given m.own.leases o j ≡ true
    → overlaps o leaf.name ≡ true → same_name o x ≡ false → is_given m.own.leases x j ≡ true → overlaps x mine.name ≡ false
mine-apart me j m mine leaf o x h may given meets apart also =
    let all = all-both (λ (l : Lease). IsOver m.own.leaves l.name) (λ (l : Lease). (is_lease x j l ≡ true) ⊎ Clear x l) m.own.leases h.stands.over
    (clear-by m.own.leases x j h.both.0.apart also) in
    let it = given-is (λ (l : Lease). IsOver m.own.leaves l.name × ((is_lease x j l ≡ true) ⊎ Clear x l)) m.own.leases o j all given in
    let l = it.0 in
    let clear : overlaps l.name x ≡ false = its-clear l o x j it.1 apart it.2.1 in
    let r = replaces m.own.leaves mine leaf (keyed me m.own mine h.both.0) may.there in
    let k = mine-meets m.own.leaves mine leaf l.name r (ap (λ n. overlaps n leaf.name) it.1 ∙ meets) in
    let lies : In l.name mine.name = record { meets = k.1; deep = it.2.0.all mine.name k.0 k.1 } in
    not-either (overlaps mine.name x) (overlaps x mine.name) (in-apart l.name mine.name x lies clear) (overlap-sym x mine.name)

pub installs-beside : (me j : ℕ) (l : Letter) (m n : Seat) (ls : List (NodeNo × Letter)) (number : ℕ) (made : Leaf) (o x : Name) → Hears j m l ls n
    → l ≡ letter.Install number made → Stood me m → is_given m.own.leases o j ≡ true → overlaps o made.name ≡ true → same_name o x ≡ false
    → is_given m.own.leases x j ≡ true → LeafStays x m.own.leaves n.own.leaves
installs-beside me j l m n ls number made o x (installs i leaf mine may) e h given meets apart also =
    let is : leaf ≡ made = cc in
    let over_leaf : overlaps o leaf.name ≡ true = ap (λ (k : Leaf). overlaps o k.name) is ∙ meets in
    let beside = mine-apart me j m mine leaf o x h may given over_leaf apart also in
    let r = replaces m.own.leaves mine leaf (keyed me m.own mine h.both.0) may.there in
    λ q k i there. replaced-apart m.own.leaves mine leaf q r (in-apart x q mine.name i beside) ∙ there
installs-beside me j l m _ ls number made o x (installs_not i leaf may) e h given meets apart also = λ q k i there. there
installs-beside me j l m n ls number made o x (gives i what leaf there free stamp unknown) e h given meets apart also = cc
installs-beside me j l m _ ls number made o x (denies i what why) e h given meets apart also = cc
installs-beside me j l m n ls number made o x (releases i name) e h given meets apart also = cc
installs-beside me j l m _ ls number made o x (sends_part i name place last pairs given_it there) e h given meets apart also = cc
installs-beside me j l m _ ls number made o x (sends_none i name place c) e h given meets apart also = cc
installs-beside me j l m n ls number made o x (grants i leaf p finds) e h given meets apart also = cc
installs-beside me j l m _ ls number made o x (grants_not i leaf c) e h given meets apart also = cc
installs-beside me j l m n ls number made o x (is_refused i why p finds) e h given meets apart also = cc
installs-beside me j l m _ ls number made o x (refused_not i why c) e h given meets apart also = cc
installs-beside me j l m n ls number made o x (copies_part i last pairs p finds) e h given meets apart also = cc
installs-beside me j l m _ ls number made o x (copies_not i last pairs c) e h given meets apart also = cc
installs-beside me j l m n ls number made o x (is_installed i name p finds) e h given meets apart also = cc
installs-beside me j l m _ ls number made o x (installed_not i name c) e h given meets apart also = cc
installs-beside me j l m n ls number made o x (learns below other) e h given meets apart also = cc
installs-beside me j l m _ ls number made o x (hears_other _ c) e h given meets apart also = λ q k i there. there

-- and says nothing of an order of another name
silent-install : (o : OpenOrder) (x : Name) (i : ℕ) (name : Name) → same_name o.name x ≡ false → says (Some o) x (letter.Installed i name ∷ []) ≡ []
silent-install o x i name e = ap (λ s. s ++ []) (one-none (o.number == i) (same_name o.name x) installed e)

pub beside-silent : (j : ℕ) (l : Letter) (m n : Seat) (ls : List (NodeNo × Letter)) (number : ℕ) (made : Leaf) (o : OpenOrder) (x : Name)
    → Hears j m l ls n → l ≡ letter.Install number made → same_name o.name x ≡ false → says (Some o) x (sent ls) ≡ []
beside-silent j l m n ls number made o x (installs i leaf mine may) e apart = silent-install o x i mine.name apart
beside-silent j l m _ ls number made o x (installs_not i leaf may) e apart = refl
beside-silent j l m n ls number made o x (gives i what leaf there free stamp unknown) e apart = cc
beside-silent j l m _ ls number made o x (denies i what why) e apart = cc
beside-silent j l m n ls number made o x (releases i name) e apart = cc
beside-silent j l m _ ls number made o x (sends_part i name place last pairs given_it there) e apart = cc
beside-silent j l m _ ls number made o x (sends_none i name place c) e apart = cc
beside-silent j l m n ls number made o x (grants i leaf p finds) e apart = cc
beside-silent j l m _ ls number made o x (grants_not i leaf c) e apart = cc
beside-silent j l m n ls number made o x (is_refused i why p finds) e apart = cc
beside-silent j l m _ ls number made o x (refused_not i why c) e apart = cc
beside-silent j l m n ls number made o x (copies_part i last pairs p finds) e apart = cc
beside-silent j l m _ ls number made o x (copies_not i last pairs c) e apart = cc
beside-silent j l m n ls number made o x (is_installed i name p finds) e apart = cc
beside-silent j l m _ ls number made o x (installed_not i name c) e apart = cc
beside-silent j l m n ls number made o x (learns below other) e apart = cc
beside-silent j l m _ ls number made o x (hears_other _ c) e apart = refl

-- the leaf that an order made lies under its name
under-name : (n : Name) (t : Task) → overlaps n (made_name n t) ≡ true
under-name n (Join via) = overlap-self n
under-name n Split = overlap-sym (low_half n) n (over-low (low_half n) n (overlap-self (low_half n)))

pub made-meets : (j : ℕ) (x : Seat) (o : OpenOrder) (number : ℕ) (made : Leaf) → Stood j x → x.own.order ≡ Some o → IsCounted x (letter.Install number made)
    → (o.number == number) ≡ true → overlaps o.name made.name ≡ true
made-meets j x o number made h there c e =
    let phase = (c number refl).of o there (eqb-true o.number number e) in
    let it = (orderly j x.own.order o there h.both.0.order).made in
    let name = (subst (λ p. Each (λ (l : Leaf). (l.name ≡ made_name o.name o.task) × (has l.list j ≡ true)) (world.made_leaf p)) phase it).0 in
    ap (overlaps o.name) name ∙ under-name o.name o.task

-- the order's own lease, where its leaf is to be installed
told-given : {Own : Tells} {made : Leaf} {v : View} {o : List Ask} {given : Bool} → IsTold Own made v o given → given ≡ true
told-given (is_told own) = refl

pub install-given : {x : Name} {Own New : Tells} {a c : Bool} {v : View} {made : Leaf} {o : List Ask} {given : Bool} {b : List Say} → a ≡ true → c ≡ true
    → Talks x Own New a c v (install made ∷ o) given b → given ≡ true
install-given e f h = told-given (install-told (both-live e f h))
