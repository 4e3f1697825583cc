use Rattle.std.proofs.Common.{◌≡◌, ℕ, ◌<◌, ◌==◌, ◌||◌, ◌&&◌, ◌++◌, Bool, true, false, List, Option, Some, [], ◌∷◌, refl, sym, ap, ◌∙◌}
use Rattle.std.proofs.lemmas.Bool.{eq-eqb, eqb-true, ne_eqb}
use Rattle.std.specs.List.{AllByRecursion}
use Rattle.std.specs.Prelude.{if◌then◌else◌}
use Rattle.dds_base.specs.BrickList.{has}
use Rattle.dds_base.specs.Name.{Name, same_name}
use Rattle.dds_base.specs.declared.leaf.Leaf.{Leaf}
use Rattle.dds_base.specs.declared.number.NodeNo.{NodeNo}
use Rattle.dds_letters.specs.declared.letter.Letter.{Letter}
use Rattle.dds_letters.specs.declared.letter.Letter.TheVariants as letter
use Rattle.dds_letters.specs.declared.refusal.Wanted.{Wanted}
use Rattle.dds_net.proofs.Pairwise.{Pairwise}
use Rattle.dds_net.specs.Net.{Sizes, gains, is_in, landing, lands, place_in, when_in}
use Rattle.dds_states.specs.Turn.{to_each}
use Rattle.dds_states.specs.declared.brick_state.OpenOrder.{OpenOrder}
use Rattle.dds_order_talk.proofs.Letters.{lands-low}
use Rattle.dds_order_talk.proofs.OrderViews.{same-has}
use Rattle.dds_order_talk.proofs.Speaking.{AllReleases, Released, asked_none, asked_some}
use Rattle.dds_order_talk.specs.Seen.{ask_of, asks, lease_asks, one, wanted_name, work_asks}
use Rattle.dds_order_talk.specs.Table.{Ask, View}
use Rattle.dds_order_talk.specs.Table.Ask.{copy, install, lease, old, release}
use Rattle.dds_order_talk.specs.Table.View.{Off}

-- What a brick's letters of its order ask of one member.

abbrev pub Once : List ℕ → Type 0
Once ns = Pairwise (λ m n. m ≡ n → ⊥) ns

pub lands-same : (z : Sizes) (n m : ℕ) → m < 64 → is_in z m ≡ true → lands z n m ≡ (n == m)
lands-same z n m low inside =
    same-has (lands z n m) (n == m) (λ h. eq-eqb n m (lands-low z n m low inside h))
    (λ h. eq-eqb (place_in z.bricks n) (place_in z.bricks m) (ap (place_in z.bricks) (eqb-true n m h)))

-- one letter to each of some nodes
none-among : (n m : ℕ) (ns : List ℕ) → n ≡ m → AllByRecursion (λ k. n ≡ k → ⊥) ns → has ns m ≡ false
none-among n m [] e h = refl
none-among n m (k ∷ ns) e h = ap (λ c. c || has ns m) (ne_eqb k m (λ f. h.0 (e ∙ sym f))) ∙ none-among n m ns e h.1

each-if : (n m : ℕ) (ns : List ℕ) (l : Letter) (c : Bool) (ls : List Letter) → (n == m) ≡ c → AllByRecursion (λ k. n ≡ k → ⊥) ns
    → ls ≡ (if has ns m then l ∷ [] else []) → (if c then l ∷ ls else ls) ≡ (if (c || has ns m) then l ∷ [] else [])
each-if n m ns l true ls e h k = ap (λ xs. l ∷ xs) (k ∙ ap (λ c. if c then l ∷ [] else []) (none-among n m ns (eqb-true n m e) h))
each-if n m ns l false ls e h k = k

each-lands : (z : Sizes) (m : ℕ) (ns : List NodeNo) (l : Letter) → m < 64 → is_in z m ≡ true → Once ns
    → landing z m (to_each ns l) ≡ (if has ns m then l ∷ [] else [])
each-lands z m [] l low inside h = refl
each-lands z m (n ∷ ns) l low inside h =
    ap (λ c. if c then l ∷ landing z m (to_each ns l) else landing z m (to_each ns l)) (lands-same z n m low inside)
    ∙ each-if n m ns l (n == m) (landing z m (to_each ns l)) refl h.0 (each-lands z m ns l low inside h.1)

pub each-gains : (z : Sizes) (m : ℕ) (ns : List NodeNo) (l : Letter) → m < 64 → is_in z m ≡ true → Once ns
    → gains z (to_each ns l) m ≡ (if has ns m then l ∷ [] else [])
each-gains z m ns l low inside h = ap (λ c. when_in c (landing z m (to_each ns l))) inside ∙ each-lands z m ns l low inside h

asks-if : (q : Option OpenOrder) (x : Name) (c : Bool) (l : Letter) (a : Ask) → ask_of q x l ≡ a ∷ []
    → asks q x (if c then l ∷ [] else []) ≡ (if c then a ∷ [] else [])
asks-if q x true l a e = ap (λ b. b ++ []) e
asks-if q x false l a e = refl

none-if : (q : Option OpenOrder) (x : Name) (c : Bool) (l : Letter) → ask_of q x l ≡ [] → asks q x (if c then l ∷ [] else []) ≡ []
none-if q x true l e = ap (λ b. b ++ []) e
none-if q x false l e = refl

pub each-asks : (z : Sizes) (m : ℕ) (ns : List NodeNo) (q : Option OpenOrder) (x : Name) (l : Letter) (a : Ask) → m < 64 → is_in z m ≡ true → Once ns
    → ask_of q x l ≡ a ∷ [] → asks q x (gains z (to_each ns l) m) ≡ (if has ns m then a ∷ [] else [])
each-asks z m ns q x l a low inside h e = ap (asks q x) (each-gains z m ns l low inside h) ∙ asks-if q x (has ns m) l a e

pub each-asks-none : (z : Sizes) (m : ℕ) (ns : List NodeNo) (q : Option OpenOrder) (x : Name) (l : Letter) → m < 64 → is_in z m ≡ true → Once ns
    → ask_of q x l ≡ [] → asks q x (gains z (to_each ns l) m) ≡ []
each-asks-none z m ns q x l low inside h e = ap (asks q x) (each-gains z m ns l low inside h) ∙ none-if q x (has ns m) l e

-- a letter of the open order itself
its-number : (o : OpenOrder) → (o.number == o.number) ≡ true
its-number o = eq-eqb o.number o.number refl

lease-as : (its named : Bool) (x : Name) (what : Wanted) → its ≡ true → named ≡ true → lease_asks (its && named) x what ≡ lease what ∷ []
lease-as true true x what e f = refl
lease-as true false x what e f = cc
lease-as false named x what e f = cc

lease-apart : (its named same : Bool) (x : Name) (what : Wanted) → same_name (wanted_name what) x ≡ same → named ≡ false → same ≡ false
    → lease_asks (its && named) x what ≡ []
lease-apart its true same x what e f g = cc
lease-apart true false same x what e f g = ap (λ c. one c old) (e ∙ g)
lease-apart false false same x what e f g = ap (λ c. one c old) (e ∙ g)

pub work-as : (its named : Bool) (a : Ask) → its ≡ true → named ≡ true → work_asks its named a ≡ a ∷ []
work-as true true a e f = refl
work-as true false a e f = cc
work-as false named a e f = cc

work-apart : (its named : Bool) (a : Ask) → its ≡ true → named ≡ false → work_asks its named a ≡ []
work-apart true true a e f = cc
work-apart true false a e f = refl
work-apart false named a e f = cc

pub own-lease : (o : OpenOrder) (what : Wanted) → same_name o.name o.name ≡ true → ask_of (Some o) o.name (letter.Lease o.number what) ≡ lease what ∷ []
own-lease o what n = lease-as (o.number == o.number) (same_name o.name o.name) o.name what (its-number o) n

pub apart-lease : (o : OpenOrder) (x : Name) (what : Wanted) → wanted_name what ≡ o.name → same_name o.name x ≡ false
    → ask_of (Some o) x (letter.Lease o.number what) ≡ []
apart-lease o x what n e =
    lease-apart (o.number == o.number) (same_name o.name x) (same_name (wanted_name what) x) x what refl e (ap (λ y. same_name y x) n ∙ e)

pub own-copy : (o : OpenOrder) (y : Name) (key : Option ℕ) → same_name o.name o.name ≡ true
    → ask_of (Some o) o.name (letter.CopyAsk o.number y key) ≡ copy key ∷ []
own-copy o y key n = work-as (o.number == o.number) (same_name o.name o.name) (copy key) (its-number o) n

pub apart-copy : (o : OpenOrder) (x y : Name) (key : Option ℕ) → same_name o.name x ≡ false → ask_of (Some o) x (letter.CopyAsk o.number y key) ≡ []
apart-copy o x y key e = work-apart (o.number == o.number) (same_name o.name x) (copy key) (its-number o) e

pub own-install : (o : OpenOrder) (made : Leaf) → same_name o.name o.name ≡ true
    → ask_of (Some o) o.name (letter.Install o.number made) ≡ install made ∷ []
own-install o made n = work-as (o.number == o.number) (same_name o.name o.name) (install made) (its-number o) n

pub apart-install : (o : OpenOrder) (x : Name) (made : Leaf) → same_name o.name x ≡ false → ask_of (Some o) x (letter.Install o.number made) ≡ []
apart-install o x made e = work-apart (o.number == o.number) (same_name o.name x) (install made) (its-number o) e

-- releases
abbrev pub times : ℕ → List ℕ → List Ask
times m [] = []
times m (n ∷ ns) = if n == m then release ∷ times m ns else times m ns

release-if : (q : Option OpenOrder) (x : Name) (c : Bool) (l : Letter) (ls : List Letter) (rs : List Ask) → ask_of q x l ≡ release ∷ [] → asks q x ls ≡ rs
    → asks q x (if c then l ∷ ls else ls) ≡ (if c then release ∷ rs else rs)
release-if q x true l ls rs e f = ap (λ a. a ++ asks q x ls) e ∙ ap (λ a. release ∷ a) f
release-if q x false l ls rs e f = f

release-lands : (z : Sizes) (m : ℕ) (ns : List NodeNo) (q : Option OpenOrder) (x y : Name) (number : ℕ) → m < 64 → is_in z m ≡ true
    → same_name y x ≡ true → asks q x (landing z m (to_each ns (letter.Release number y))) ≡ times m ns
release-lands z m [] q x y number low inside e = refl
release-lands z m (n ∷ ns) q x y number low inside e =
    let l = letter.Release number y in
    let ls = landing z m (to_each ns l) in
    ap (λ c. asks q x (if c then l ∷ ls else ls)) (lands-same z n m low inside)
    ∙ release-if q x (n == m) l ls (times m ns) (ap (λ c. one c release) e) (release-lands z m ns q x y number low inside e)

pub release-asks : (z : Sizes) (m : ℕ) (ns : List NodeNo) (q : Option OpenOrder) (x y : Name) (number : ℕ) → m < 64 → is_in z m ≡ true
    → same_name y x ≡ true → asks q x (gains z (to_each ns (letter.Release number y)) m) ≡ times m ns
release-asks z m ns q x y number low inside e =
    ap (λ c. asks q x (when_in c (landing z m (to_each ns (letter.Release number y))))) inside ∙ release-lands z m ns q x y number low inside e

apart-if : (q : Option OpenOrder) (x : Name) (c : Bool) (l : Letter) (ls : List Letter) → ask_of q x l ≡ [] → asks q x ls ≡ []
    → asks q x (if c then l ∷ ls else ls) ≡ []
apart-if q x true l ls e f = ap (λ a. a ++ asks q x ls) e ∙ f
apart-if q x false l ls e f = f

apart-lands : (z : Sizes) (m : ℕ) (ns : List NodeNo) (q : Option OpenOrder) (x y : Name) (number : ℕ) → same_name y x ≡ false
    → asks q x (landing z m (to_each ns (letter.Release number y))) ≡ []
apart-lands z m [] q x y number e = refl
apart-lands z m (n ∷ ns) q x y number e =
    apart-if q x (lands z n m) (letter.Release number y) (landing z m (to_each ns (letter.Release number y))) (ap (λ c. one c release) e)
    (apart-lands z m ns q x y number e)

apart-in : (q : Option OpenOrder) (x : Name) (c : Bool) (ls : List Letter) → asks q x ls ≡ [] → asks q x (when_in c ls) ≡ []
apart-in q x true ls e = e
apart-in q x false ls e = refl

pub apart-releases : (z : Sizes) (m : ℕ) (ns : List NodeNo) (q : Option OpenOrder) (x y : Name) (number : ℕ) → same_name y x ≡ false
    → asks q x (gains z (to_each ns (letter.Release number y)) m) ≡ []
apart-releases z m ns q x y number e =
    apart-in q x (is_in z m) (landing z m (to_each ns (letter.Release number y))) (apart-lands z m ns q x y number e)

all-if : (c : Bool) (rs : List Ask) → AllReleases rs → AllReleases (if c then release ∷ rs else rs)
all-if true rs h = (refl, h)
all-if false rs h = h

all-times : (m : ℕ) (ns : List ℕ) → AllReleases (times m ns)
all-times m [] = tt
all-times m (n ∷ ns) = all-if (n == m) (times m ns) (all-times m ns)

released-if : (v : View) (c has_more : Bool) (rs : List Ask) → AllReleases rs → ((has_more ≡ false → v ≡ Off) → Released v rs)
    → ((c || has_more) ≡ false → v ≡ Off) → Released v (if c then release ∷ rs else rs)
released-if v true has_more rs h k f = asked_some rs h
released-if v false has_more rs h k f = k f

-- the member is released, if it is among those that are
pub released-times : (v : View) (m : ℕ) (ns : List ℕ) → (has ns m ≡ false → v ≡ Off) → Released v (times m ns)
released-times v m [] f = asked_none (f refl)
released-times v m (n ∷ ns) f = released-if v (n == m) (has ns m) (times m ns) (all-times m ns) (λ g. released-times v m ns g) f
