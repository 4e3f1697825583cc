use Rattle.std.proofs.Common.{◌≡◌, ℕ, ◌==◌, ◌||◌, ◌&&◌, ◌++◌, Bool, true, false, not, Option, Some, None, List, [], ◌∷◌, refl, sym, ap}
use Rattle.std.proofs.Common.{◌∙◌, subst}
use Rattle.std.proofs.lemmas.Bool.{eq-eqb, eqb-true, ne_eqb}
use Rattle.std.specs.List.{AllByRecursion}
use Rattle.std.specs.Prelude.{if◌then◌else◌}
use Rattle.dds_base.specs.BrickList.{has}
use Rattle.dds_base.specs.Name.{Name, same_name}
use Rattle.dds_base.specs.NodeSet.{has_node}
use Rattle.dds_base.specs.Place.{last_key}
use Rattle.dds_base.specs.declared.leaf.Leaf.{Leaf}
use Rattle.dds_core.proofs.Lists.{all-both, all-map}
use Rattle.dds_letters.specs.declared.letter.Letter.{Letter}
use Rattle.dds_letters.specs.declared.letter.Letter.TheVariants as letter
use Rattle.dds_net.specs.Net.{Net, Sizes, a_brick}
use Rattle.dds_order_rows.specs.OwnOrder as order
use Rattle.dds_order_talk.proofs.Holds.{both-live, name-self}
use Rattle.dds_order_talk.proofs.Moves.{Tells}
use Rattle.dds_order_talk.specs.Seen.{BrickTalk, New, Own, ask_of, asks, one, phase_view, rests, say_of, says, view, with_leaf, work_asks}
use Rattle.dds_order_talk.specs.Table.{Ask, Say, Talk, Talks, View}
use Rattle.dds_order_talk.specs.Table.Ask.{copy}
use Rattle.dds_order_talk.specs.Table.Say.{part}
use Rattle.dds_order_talk.specs.Table.Talk.{copies, copied, dropped}
use Rattle.dds_order_talk.specs.Table.Talks.{live, lost, gone}
use Rattle.dds_order_talk.specs.Table.View.{Off, Has, Source}
use Rattle.dds_orders.proofs.Deeds.{seat}
use Rattle.dds_orders.proofs.Numbered.{AreCounted, BrickOk, Counts, LetterOk, NodeOk}
use Rattle.dds_orders.proofs.Numbers.{Counted}
use Rattle.dds_share.proofs.Facts.{AreAll, unknown-of}
use Rattle.dds_share.proofs.Sources.{some-leaf}
use Rattle.dds_share.proofs.Together.{AreTogether, has_part, is_part}
use Rattle.dds_states.specs.declared.brick_state.BrickState.{BrickState}
use Rattle.dds_states.specs.declared.brick_state.OpenOrder.{OpenOrder}
use Rattle.dds_states.specs.declared.brick_state.OrderPhase.TheVariants.{Copying}
use Rattle.dds_copies.specs.Copies.{AsksNext, JoinsAsk}

-- What the conversation of an open join's brick and its source says: what is asked of the source is what follows, and no part is behind
-- another one.

-- what is asked for is what follows a key
abbrev IsAfter : Option ℕ → Ask → Type 0
IsAfter key (copy place) = place ≡ key
IsAfter key other = Unit {0}

-- the source of an order
source-asks : {x : Name} {Own New : Tells} {leaf : Leaf} {key : Option ℕ} {out : List Ask} {given : Bool} {back : List Say}
    → Talk x Own New (Source leaf key) out given back → AllByRecursion (IsAfter key) out
source-asks (copies own) = (refl, tt)
source-asks (copied own) = tt
source-asks (dropped own) = tt

all-parts : {X : Type 0} (P : X → Type 0) (xs ys : List X) → AllByRecursion P (xs ++ ys) → AllByRecursion P xs × AllByRecursion P ys
all-parts P [] ys h = (tt, h)
all-parts P (x ∷ xs) ys h = let k = all-parts P xs ys h.1 in ((h.0, k.0), k.1)

-- a letter to it
abbrev PlaceIs : OpenOrder → Option ℕ → Letter → Type 0
PlaceIs o key (letter.CopyAsk number name place) = number ≡ o.number → place ≡ key
PlaceIs o key other = Unit {0}

place-is : (o : OpenOrder) (key : Option ℕ) (l : Letter) → AllByRecursion (IsAfter key) (ask_of (Some o) o.name l) → PlaceIs o key l
place-is o key (letter.CopyAsk number name place) h =
    λ e.
    let its : (o.number == number) ≡ true = eq-eqb o.number number (sym e) in
    let asked : ask_of (Some o) o.name (letter.CopyAsk number name place) ≡ copy place ∷ [] =
    ap (λ b. work_asks b (same_name o.name o.name) (copy place)) its ∙ ap (λ b. work_asks true b (copy place)) (name-self o.name) in
    (subst (AllByRecursion (IsAfter key)) asked h).0
place-is o key other h = tt

places-are : (o : OpenOrder) (key : Option ℕ) (ls : List Letter) → AllByRecursion (IsAfter key) (asks (Some o) o.name ls) → AllByRecursion (PlaceIs o key) ls
places-are o key [] h = tt
places-are o key (l ∷ ls) h =
    let k = all-parts (IsAfter key) (ask_of (Some o) o.name l) (asks (Some o) o.name ls) h in
    (place-is o key l k.0, places-are o key ls k.1)

-- how the order's brick sees it
source-view : (o : OpenOrder) (q : Option OpenOrder) (source : ℕ) (leaf : Leaf) → q ≡ Some o → o.phase ≡ Copying source → o.leaf ≡ Some leaf
    → view rests q o.name source ≡ Source leaf (last_key None o.copied)
source-view o q source leaf e phase fixed =
    let key = last_key None o.copied in
    ap (λ x. view rests x o.name source) e ∙ ap (λ c. if c then phase_view rests o source o.phase else Off) (name-self o.name)
    ∙ ap (phase_view rests o source) phase ∙ ap (λ c. if c then with_leaf rests source o.leaf (λ l. Source l key)
    else (if has o.granted source then with_leaf rests source o.leaf Has else Off)) (eq-eqb source source refl)
    ∙ ap (λ l. with_leaf rests source l (λ k. Source k key)) fixed

asked-places : (k source : ℕ) (s t : BrickState) (o : OpenOrder) (leaf : Leaf) (out back : List Letter) → s.stopped ≡ false → t.stopped ≡ false
    → has_node s.known source ≡ false → s.order ≡ Some o → o.phase ≡ Copying source → o.leaf ≡ Some leaf → BrickTalk rests k source o.name s t out back
    → AllByRecursion (PlaceIs o (last_key None o.copied)) out
asked-places k source s t o leaf out back lives also unknown is phase fixed h =
    let it = both-live (ap not lives) (ap not also) (h unknown) in
    let seen = source-view o s.order source leaf is phase fixed in
    let all : AllByRecursion (IsAfter (last_key None o.copied)) (asks s.order o.name out) =
    seen-asks (view rests s.order o.name source) seen it in
    places-are o (last_key None o.copied) out (subst (λ q. AllByRecursion (IsAfter (last_key None o.copied)) (asks q o.name out)) is all)
  where
    seen-asks : {x : Name} {Own New : Tells} {key : Option ℕ} {out : List Ask} {given : Bool} {back : List Say} (v : View) → v ≡ Source leaf key
        → Talk x Own New v out given back → AllByRecursion (IsAfter key) out
    seen-asks {x = x} {Own = Own} {New = New} {out = out} {given = given} {back = back} v e h =
        source-asks (subst (λ w. Talk x Own New w out given back) e h)

-- each letter has the order's name too
abbrev NameIs : OpenOrder → Letter → Type 0
NameIs o (letter.CopyAsk number name place) = number ≡ o.number → name ≡ o.name
NameIs o other = Unit {0}

name-of : (n : Net) (a b : ℕ) (s : BrickState) (o : OpenOrder) (l : Letter) → n.node a ≡ a_brick s → s.stopped ≡ false → s.order ≡ Some o
    → LetterOk n.node a b l → NameIs o l
name-of n a b s o (letter.CopyAsk number name place) here lives is h =
    λ e.
    let counted : s.stopped ≡ false → Counted (seat s) number (letter.CopyAsk number name place) =
    subst (λ x. Counts x number (letter.CopyAsk number name place)) here (h.asked number refl).1 in
    ((counted lives).of o is (sym e)).0
name-of n a b s o other here lives is h = tt

both-are : (o : OpenOrder) (l : Letter) → PlaceIs o (last_key None o.copied) l × NameIs o l → AsksNext o l
both-are o (letter.CopyAsk number name place) h = λ e. (h.1 e, h.0 e)
both-are o other h = tt

pub joins-ask : (z : Sizes) (n : Net) → AreAll z n → AreTogether n → AreCounted n → JoinsAsk n
joins-ask z n g h counted k s t o source here lives is join phase there also =
    let ok : BrickOk k s = subst (NodeOk k) here (counted.nodes k) in
    let ne : k ≡ source → ⊥ = (λ e. (ok.is.order o is).source source phase (sym e)) in
    let fixed = some-leaf o.leaf (h.fixed k s o here lives is join (ap order.is_leasing phase)) in
    let out = n.channel k source in
    let places = asked-places k source s t o fixed.0 out (n.channel source k) lives also (unknown-of z n g k source s t here there also) is phase fixed.1
    (g.talk k source o.name s t here there (ne_eqb k source ne)) in
    let names = all-map (LetterOk n.node k source) (NameIs o) out (λ l q. name-of n k source s o l here lives is q) (counted.letters k source) in
    all-map (λ l. PlaceIs o (last_key None o.copied) l × NameIs o l) (AsksNext o) out (λ l q. both-are o l q) (all-both _ _ out places names)

-- a part that has come is the only one
last-part : {x : Name} {Own New : Tells} {v : View} {out : List Ask} {given : Bool} {back said : List Say} → said ≡ part ∷ back
    → Talk x Own New v out given said → back ≡ []
last-part e (copied own) = cc
last-part e other = cc

nothing-first : (xs ys : List Say) → xs ++ ys ≡ [] → (xs ≡ []) × (ys ≡ [])
nothing-first [] ys e = (refl, e)
nothing-first (x ∷ xs) ys e = cc

last-talks : {x : Name} {Own New : Tells} {a c : Bool} {v : View} {out : List Ask} {given : Bool} {said : List Say} (back : List Say) → a ≡ true
    → said ≡ part ∷ back → Talks x Own New a c v out given said → back ≡ []
last-talks back lives e (live h) = last-part e h
last-talks back lives e (lost cut h) = (nothing-first back cut (last-part (ap (λ l. l ++ cut) e) h)).0
last-talks back lives e gone = cc

part-says : (o : OpenOrder) (l : Letter) → is_part o.number l ≡ true → say_of (Some o) o.name l ≡ part ∷ []
part-says o (letter.CopyPart number last pairs) h =
    let its : (o.number == number) ≡ true = eq-eqb o.number number (sym (eqb-true number o.number h)) in
    ap (λ b. one (b && same_name o.name o.name) part) its ∙ ap (λ b. one b part) (name-self o.name)
part-says o other h = cc

none-said-if : (o : OpenOrder) (l : Letter) (ls : List Letter) (c : Bool) → is_part o.number l ≡ c → say_of (Some o) o.name l ++ says (Some o) o.name ls ≡ []
    → (says (Some o) o.name ls ≡ [] → has_part o.number ls ≡ false) → (c || has_part o.number ls) ≡ false
none-said-if o l ls true e h f =
    let no : part ∷ says (Some o) o.name ls ≡ [] = sym (ap (λ x. x ++ says (Some o) o.name ls) (part-says o l e)) ∙ h in cc
none-said-if o l ls false e h f = f (nothing-first (say_of (Some o) o.name l) (says (Some o) o.name ls) h).1

none-said : (o : OpenOrder) (ls : List Letter) → says (Some o) o.name ls ≡ [] → has_part o.number ls ≡ false
none-said o [] h = refl
none-said o (l ∷ ls) h = none-said-if o l ls (is_part o.number l) refl h (none-said o ls)

pub none-behind : (k source : ℕ) (s t : BrickState) (o : OpenOrder) (l : Letter) (out back others : List Letter) → back ≡ l ∷ others → s.stopped ≡ false
    → has_node s.known source ≡ false → s.order ≡ Some o → is_part o.number l ≡ true → BrickTalk rests k source o.name s t out back
    → has_part o.number others ≡ false
none-behind k source s t o l out back others first lives unknown is h talk =
    let said : says s.order o.name back ≡ part ∷ says (Some o) o.name others =
    ap (says s.order o.name) first ∙ ap (λ q. says q o.name (l ∷ others)) is ∙ ap (λ x. x ++ says (Some o) o.name others) (part-says o l h) in
    none-said o others (last-talks (says (Some o) o.name others) (ap not lives) said (talk unknown))
