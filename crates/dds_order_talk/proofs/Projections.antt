use Rattle.std.proofs.Common.{◌≡◌, ℕ, ◌==◌, ◌&&◌, ◌++◌, Bool, true, false, Option, Some, None, List, [], ◌∷◌, refl, sym, ap, ◌∙◌, append_assoc}
use Rattle.std.specs.List.{AllByRecursion}
use Rattle.std.specs.Prelude.{map}
use Rattle.dds_base.specs.Name.{Name, same_name}
use Rattle.dds_letters.specs.declared.letter.Letter.{Letter}
use Rattle.dds_letters.specs.declared.letter.Letter.TheVariants as letter
use Rattle.dds_letters.specs.declared.refusal.Wanted.{Wanted}
use Rattle.dds_orders.proofs.Deeds.{is_of_orders}
use Rattle.dds_orders.specs.Law.{asked_of, said_of}
use Rattle.dds_states.specs.declared.brick_state.OpenOrder.{OpenOrder}
use Rattle.dds_order_talk.proofs.Moves.{IsPlain, ended}
use Rattle.dds_order_talk.specs.Seen.{ask_of, asks, is_its, is_named, lease_asks, one, say_of, says, wanted_name, work_asks}
use Rattle.dds_order_talk.specs.Table.{Ask}
use Rattle.dds_order_talk.specs.Table.Ask.{old, release, lease, copy, install, stray}
use Rattle.dds_order_talk.specs.Table.Say.{granted, refused, part, installed}

-- What letters ask about a name, and say of the open order, as channels and orders change.

pub asks-append : (q : Option OpenOrder) (x : Name) (ls ms : List Letter) → asks q x (ls ++ ms) ≡ asks q x ls ++ asks q x ms
asks-append q x [] ms = refl
asks-append q x (l ∷ ls) ms = ap (λ ys. ask_of q x l ++ ys) (asks-append q x ls ms) ∙ sym (append_assoc (ask_of q x l) (asks q x ls) (asks q x ms))

pub says-append : (q : Option OpenOrder) (x : Name) (ls ms : List Letter) → says q x (ls ++ ms) ≡ says q x ls ++ says q x ms
says-append q x [] ms = refl
says-append q x (l ∷ ls) ms = ap (λ ys. say_of q x l ++ ys) (says-append q x ls ms) ∙ sym (append_assoc (say_of q x l) (says q x ls) (says q x ms))

-- letters of other kinds
pub other-asks : (q : Option OpenOrder) (x : Name) (l : Letter) → is_of_orders l ≡ false → (ask_of q x l ≡ []) × (say_of q x l ≡ [])
other-asks q x (letter.Lease number what) h = cc
other-asks q x (letter.Granted number leaf) h = cc
other-asks q x (letter.LeaseRefused number why) h = cc
other-asks q x (letter.Release number name) h = cc
other-asks q x (letter.CopyAsk number name key) h = cc
other-asks q x (letter.CopyPart number last pairs) h = cc
other-asks q x (letter.Install number leaf) h = cc
other-asks q x (letter.Installed number name) h = cc
other-asks q x other h = (refl, refl)

pub others-ask : (q : Option OpenOrder) (x : Name) (ls : List Letter) → AllByRecursion (λ l. is_of_orders l ≡ false) ls
    → (asks q x ls ≡ []) × (says q x ls ≡ [])
others-ask q x [] h = (refl, refl)
others-ask q x (l ∷ ls) h =
    let a = other-asks q x l h.0 in
    let r = others-ask q x ls h.1 in
    (ap (λ ys. ys ++ asks q x ls) a.0 ∙ r.0, ap (λ ys. ys ++ says q x ls) a.1 ∙ r.1)

-- the order goes on: its number and its name are the same
both-same : (o p : OpenOrder) (x : Name) (number : ℕ) → p.number ≡ o.number → p.name ≡ o.name
    → (is_its (Some p) number && is_named (Some p) x) ≡ (is_its (Some o) number && is_named (Some o) x)
both-same o p x number e f = ap (λ n. n == number && same_name p.name x) e ∙ ap (λ y. o.number == number && same_name y x) f

work-same : (o p : OpenOrder) (x : Name) (number : ℕ) (a : Ask) → p.number ≡ o.number → p.name ≡ o.name
    → work_asks (is_its (Some p) number) (is_named (Some p) x) a ≡ work_asks (is_its (Some o) number) (is_named (Some o) x) a
work-same o p x number a e f =
    ap (λ n. work_asks (n == number) (same_name p.name x) a) e ∙ ap (λ y. work_asks (o.number == number) (same_name y x) a) f

pub ask-same : (o p : OpenOrder) (x : Name) (l : Letter) → p.number ≡ o.number → p.name ≡ o.name
    → (ask_of (Some p) x l ≡ ask_of (Some o) x l) × (say_of (Some p) x l ≡ say_of (Some o) x l)
ask-same o p x (letter.Lease number what) e f = (ap (λ b. lease_asks b x what) (both-same o p x number e f), refl)
ask-same o p x (letter.Release number name) e f = (refl, refl)
ask-same o p x (letter.CopyAsk number name key) e f = (work-same o p x number (copy key) e f, refl)
ask-same o p x (letter.Install number leaf) e f = (work-same o p x number (install leaf) e f, refl)
ask-same o p x (letter.Granted number leaf) e f = (refl, ap (λ b. one b (granted leaf)) (both-same o p x number e f))
ask-same o p x (letter.LeaseRefused number why) e f = (refl, ap (λ b. one b refused) (both-same o p x number e f))
ask-same o p x (letter.CopyPart number last pairs) e f = (refl, ap (λ b. one b part) (both-same o p x number e f))
ask-same o p x (letter.Installed number name) e f = (refl, ap (λ b. one b installed) (both-same o p x number e f))
ask-same o p x other e f = (refl, refl)

pub asks-same : (o p : OpenOrder) (x : Name) (ls : List Letter) → p.number ≡ o.number → p.name ≡ o.name
    → (asks (Some p) x ls ≡ asks (Some o) x ls) × (says (Some p) x ls ≡ says (Some o) x ls)
asks-same o p x [] e f = (refl, refl)
asks-same o p x (l ∷ ls) e f =
    let a = ask-same o p x l e f in
    let r = asks-same o p x ls e f in (
      ap (λ ys. ys ++ asks (Some p) x ls) a.0 ∙ ap (λ ys. ask_of (Some o) x l ++ ys) r.0,
      ap (λ ys. ys ++ says (Some p) x ls) a.1 ∙ ap (λ ys. say_of (Some o) x l ++ ys) r.1,
    )

-- nothing is said of an order where none is open
pub none-said : (x : Name) (ls : List Letter) → says None x ls ≡ []
none-said x [] = refl
none-said x (l ∷ ls) = ap (λ ys. ys ++ says None x ls) (said x l) ∙ none-said x ls
  where
    said : (x : Name) (l : Letter) → say_of None x l ≡ []
    said x (letter.Granted number leaf) = refl
    said x (letter.LeaseRefused number why) = refl
    said x (letter.CopyPart number last pairs) = refl
    said x (letter.Installed number name) = refl
    said x other = refl

-- an order begins: no letter that is on its way has its number
abbrev pub IsNotAsked : ℕ → Letter → Type 0
IsNotAsked number l = (n : ℕ) → asked_of l ≡ Some n → (number == n) ≡ false

abbrev pub IsNotSaid : ℕ → Letter → Type 0
IsNotSaid number l = (n : ℕ) → said_of l ≡ Some n → (number == n) ≡ false

new-ask : (p : OpenOrder) (x : Name) (l : Letter) → IsNotAsked p.number l → ask_of (Some p) x l ≡ ask_of None x l
new-ask p x (letter.Lease number what) h = ap (λ b. lease_asks (b && same_name p.name x) x what) (h number refl)
new-ask p x (letter.Release number name) h = refl
new-ask p x (letter.CopyAsk number name key) h = ap (λ b. work_asks b (same_name p.name x) (copy key)) (h number refl)
new-ask p x (letter.Install number leaf) h = ap (λ b. work_asks b (same_name p.name x) (install leaf)) (h number refl)
new-ask p x other h = refl

new-say : (p : OpenOrder) (x : Name) (l : Letter) → IsNotSaid p.number l → say_of (Some p) x l ≡ []
new-say p x (letter.Granted number leaf) h = ap (λ b. one (b && same_name p.name x) (granted leaf)) (h number refl)
new-say p x (letter.LeaseRefused number why) h = ap (λ b. one (b && same_name p.name x) refused) (h number refl)
new-say p x (letter.CopyPart number last pairs) h = ap (λ b. one (b && same_name p.name x) part) (h number refl)
new-say p x (letter.Installed number name) h = ap (λ b. one (b && same_name p.name x) installed) (h number refl)
new-say p x other h = refl

pub new-asks : (p : OpenOrder) (x : Name) (ls : List Letter) → AllByRecursion (IsNotAsked p.number) ls → asks (Some p) x ls ≡ asks None x ls
new-asks p x [] h = refl
new-asks p x (l ∷ ls) h = ap (λ ys. ys ++ asks (Some p) x ls) (new-ask p x l h.0) ∙ ap (λ ys. ask_of None x l ++ ys) (new-asks p x ls h.1)

pub new-says : (p : OpenOrder) (x : Name) (ls : List Letter) → AllByRecursion (IsNotSaid p.number) ls → says (Some p) x ls ≡ []
new-says p x [] h = refl
new-says p x (l ∷ ls) h = ap (λ ys. ys ++ says (Some p) x ls) (new-say p x l h.0) ∙ new-says p x ls h.1

-- an order ends: of its name, what it asked for is of an order that has ended
abbrev pub IsLeaseOf : OpenOrder → Letter → Type 0
IsLeaseOf o (letter.Lease number what) = (o.number == number) ≡ true → same_name (wanted_name what) o.name ≡ true
IsLeaseOf o other = Unit {0}

map-append : (xs ys : List Ask) → map ended (xs ++ ys) ≡ map ended xs ++ map ended ys
map-append [] ys = refl
map-append (x ∷ xs) ys = ap (λ zs. ended x ∷ zs) (map-append xs ys)

old-one : (b : Bool) → one b old ≡ map ended (one b old)
old-one true = refl
old-one false = refl

ended-lease : (its named same : Bool) (x : Name) (what : Wanted) → same_name (wanted_name what) x ≡ same → named ≡ true → (its ≡ true → same ≡ true)
    → one (same_name (wanted_name what) x) old ≡ map ended (lease_asks (its && named) x what)
ended-lease true true same x what e n f = ap (λ b. one b old) (e ∙ f refl)
ended-lease true false same x what e n f = let no : false ≡ true = n in cc
ended-lease false named same x what e n f = old-one (same_name (wanted_name what) x)

ended-work : (its named : Bool) (a : Ask) → named ≡ true → ended a ≡ stray → (stray ∷ []) ≡ map ended (work_asks its named a)
ended-work true named a n e = cc
ended-work false named a n e = refl

ended-ask : (o : OpenOrder) (l : Letter) → same_name o.name o.name ≡ true → IsLeaseOf o l → ask_of None o.name l ≡ map ended (ask_of (Some o) o.name l)
ended-ask o (letter.Lease number what) n h =
    ended-lease (o.number == number) (same_name o.name o.name) (same_name (wanted_name what) o.name) o.name what refl n h
ended-ask o (letter.Release number name) n h = released (same_name name o.name)
  where
    released : (b : Bool) → one b release ≡ map ended (one b release)
    released true = refl
    released false = refl
ended-ask o (letter.CopyAsk number name key) n h = ended-work (o.number == number) (same_name o.name o.name) (copy key) n refl
ended-ask o (letter.Install number leaf) n h = ended-work (o.number == number) (same_name o.name o.name) (install leaf) n refl
ended-ask o other n h = refl

pub ended-asks : (o : OpenOrder) (ls : List Letter) → same_name o.name o.name ≡ true → AllByRecursion (IsLeaseOf o) ls
    → asks None o.name ls ≡ map ended (asks (Some o) o.name ls)
ended-asks o [] n h = refl
ended-asks o (l ∷ ls) n h =
    ap (λ ys. ys ++ asks None o.name ls) (ended-ask o l n h.0) ∙ ap (λ ys. map ended (ask_of (Some o) o.name l) ++ ys) (ended-asks o ls n h.1)
    ∙ sym (map-append (ask_of (Some o) o.name l) (asks (Some o) o.name ls))

-- and of another name nothing changes, where no letter of it to copy or to install is on its way
plain-parts : (xs ys : List Ask) → IsPlain (xs ++ ys) → IsPlain xs × IsPlain ys
plain-parts [] ys h = (tt, h)
plain-parts (old ∷ xs) ys h = plain-parts xs ys h
plain-parts (release ∷ xs) ys h = plain-parts xs ys h
plain-parts (lease what ∷ xs) ys h = plain-parts xs ys h
plain-parts (copy key ∷ xs) ys h = absurd h
plain-parts (install made ∷ xs) ys h = absurd h
plain-parts (stray ∷ xs) ys h = absurd h

idle-lease : (its named : Bool) (x : Name) (what : Wanted) → named ≡ false
    → one (same_name (wanted_name what) x) old ≡ lease_asks (its && named) x what
idle-lease true named x what e = cc
idle-lease false named x what e = refl

idle-work : (its named here : Bool) (a : Ask) → here ≡ true → (IsPlain (a ∷ []) → ⊥) → IsPlain (work_asks its here a)
    → (stray ∷ []) ≡ work_asks its named a
idle-work true named true a e f h = absurd (f h)
idle-work true named false a e f h = cc
idle-work false named here a e f h = absurd h

idle-ask : (o : OpenOrder) (x : Name) (l : Letter) → same_name o.name o.name ≡ true → same_name o.name x ≡ false
    → IsPlain (ask_of (Some o) o.name l) → ask_of None x l ≡ ask_of (Some o) x l
idle-ask o x (letter.Lease number what) n e h = idle-lease (o.number == number) (same_name o.name x) x what e
idle-ask o x (letter.Release number name) n e h = refl
idle-ask o x (letter.CopyAsk number name key) n e h =
    idle-work (o.number == number) (same_name o.name x) (same_name o.name o.name) (copy key) n (λ f. f) h
idle-ask o x (letter.Install number leaf) n e h =
    idle-work (o.number == number) (same_name o.name x) (same_name o.name o.name) (install leaf) n (λ f. f) h
idle-ask o x other n e h = refl

pub idle-asks : (o : OpenOrder) (x : Name) (ls : List Letter) → same_name o.name o.name ≡ true → same_name o.name x ≡ false
    → IsPlain (asks (Some o) o.name ls) → asks None x ls ≡ asks (Some o) x ls
idle-asks o x [] n e h = refl
idle-asks o x (l ∷ ls) n e h =
    let p = plain-parts (ask_of (Some o) o.name l) (asks (Some o) o.name ls) h in
    ap (λ ys. ys ++ asks None x ls) (idle-ask o x l n e p.0) ∙ ap (λ ys. ask_of (Some o) x l ++ ys) (idle-asks o x ls n e p.1)
