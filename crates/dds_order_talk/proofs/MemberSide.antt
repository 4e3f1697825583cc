use Rattle.std.proofs.Common.{◌≡◌, ℕ, ◌+◌, ◌≤◌, ◌==◌, ◌&&◌, ◌||◌, ◌++◌, Bool, true, false, Option, List, [], ◌∷◌, inl, inr, refl, sym, ap, ◌∙◌, subst}
use Rattle.std.proofs.Common.{arith}
use Rattle.std.proofs.lemmas.Bool.{and_parts, cases_Bool, eq-eqb}
use Rattle.std.proofs.lemmas.List.{append-nil}
use Rattle.std.specs.List.{AllByRecursion}
use Rattle.std.specs.Prelude.{if◌then◌else◌}
use Rattle.dds_base.specs.Name.{Name, overlaps, same_name}
use Rattle.dds_base.specs.declared.leaf.Leaf.{Leaf}
use Rattle.dds_base.specs.declared.number.NodeNo.{NodeNo}
use Rattle.dds_groups.specs.Names.{low_half, other_half}
use Rattle.dds_law_own.proofs.Halves.{over-high, over-low}
use Rattle.dds_law_own.proofs.Owned.{Apart}
use Rattle.dds_letters.specs.declared.letter.Letter.{Letter}
use Rattle.dds_letters.specs.declared.refusal.Wanted.{Wanted}
use Rattle.dds_locks.specs.Leases.{is_given, is_lease, released}
use Rattle.dds_locks.specs.declared.leases.Lease.{Lease}
use Rattle.dds_net.proofs.Pairwise.{Pairwise}
use Rattle.dds_orders.proofs.Deeds.{Path, Seat}
use Rattle.dds_orders.proofs.Leased.{In, LeafStays, path-given, path-stays}
use Rattle.dds_orders.proofs.Leases.{given-more, same-is}
use Rattle.dds_orders.proofs.Standing.{Stood}
use Rattle.dds_trie.specs.Trie.{LeafMap}
use Rattle.dds_order_talk.proofs.Lines.{IsSource, IsTold, copy-source, install-told, is_source, is_told, no-stray}
use Rattle.dds_order_talk.proofs.Moves.{Stays, Tells, beside, denies, denies_old, gives, gives_old, hears, installs, member-hears, sends_part}
use Rattle.dds_order_talk.proofs.Moves.{releases as gives_back}
use Rattle.dds_order_talk.specs.Seen.{New, Own, joined, lease_asks, one, split, wanted_name, work_asks}
use Rattle.dds_order_talk.specs.Table.{Ask, FitsAsked, Say, Talk, Talks, View}
use Rattle.dds_order_talk.specs.Table.Ask.{old, release, copy, install, stray}
use Rattle.dds_order_talk.specs.Table.Say.{granted, refused, part, installed}
use Rattle.dds_order_talk.specs.Table.Talks.{live, gone}

-- The member's side of a conversation: what its deeds beside it, and its rows for leases and for pairs, make of the line.

-- leaves under a lease stay
pub overlap-self : (x : Name) → overlaps x x ≡ true
overlap-self x = eq-eqb _ _ refl

in-self : (x : Name) → In x x
in-self x = let d : x.depth ≤ x.depth = omega arith in record { meets = overlap-self x; deep = d }

in-low : (x : Name) → In x (low_half x)
in-low x =
    let d : x.depth ≤ x.depth + 1 = omega arith in
    record { meets = over-low (low_half x) x (overlap-self (low_half x)); deep = d }

in-high : (x : Name) → In x (other_half (low_half x))
in-high x =
    let d : x.depth ≤ x.depth + 1 = omega arith in
    record { meets = over-high (other_half (low_half x)) x (overlap-self (other_half (low_half x))); deep = d }

own-stays : (x : Name) (a b : LeafMap) → LeafStays x a b → (leaf : Leaf) → Own a x leaf → Own b x leaf
own-stays x a b f leaf h = record { name = h.name; is = f x leaf (in-self x) h.is }

new-stays : (x : Name) (a b : LeafMap) → LeafStays x a b → (made : Leaf) → New a x made → New b x made
new-stays x a b f made (joined e g) = joined e (f x made (in-self x) g)
new-stays x a b f made (split e g k) = split e (f (low_half x) made (in-low x) g) (f (other_half (low_half x)) _ (in-high x) k)

pub own-while : (x : Name) (a b : LeafMap) (given : Bool) → (given ≡ true → LeafStays x a b) → Stays (Own a x) (Own b x) given
own-while x a b true f = own-stays x a b (f refl)
own-while x a b false f = tt

pub new-while : (x : Name) (a b : LeafMap) (given : Bool) → (given ≡ true → LeafStays x a b) → Stays (New a x) (New b x) given
new-while x a b true f = new-stays x a b (f refl)
new-while x a b false f = tt

pub member-beside :
    {x : Name} {Own New OwnAfter NewAfter : Tells} {lives : Bool} {v : View} {o : List Ask} {given : Bool} {b : List Say} → Stays Own OwnAfter given
    → Stays New NewAfter given → Talks x Own New lives true v o given b → Talks x OwnAfter NewAfter lives true v o given b
member-beside f h (live k) = live (beside f h k)
member-beside f h gone = gone

-- the conversation of `j` about a name with a live member that has these leaves and leases
abbrev pub With : ℕ → Name → Seat → Bool → View → List Ask → List Say → Type 0
With j x m lives v o b = Talks x (Own m.own.leaves x) (New m.own.leaves x) lives true v o (is_given m.own.leases x j) b

-- a member's deeds for its own orders, for calls, and with leaves that it is told
pub member-path : {lives : Bool} {v : View} {o : List Ask} {b : List Say} (me j : ℕ) (x : Name) (m n : Seat) (ls : List (NodeNo × Letter)) → Path m ls n
    → Stood me m → (j ≡ me → ⊥) → With j x m lives v o b → With j x n lives v o b
member-path {lives = lives} {v = v} {o = o} {b = b} me j x m n ls w h ne k =
    let stays = (λ (e : is_given m.own.leases x j ≡ true). path-stays me m n ls x j w h ne e) in
    let given = is_given m.own.leases x j in
    subst (λ g. Talks x (Own n.own.leaves x) (New n.own.leaves x) lives true v o g b) (sym (path-given me m n ls x j w h.both ne))
    (member-beside (own-while x m.own.leaves n.own.leaves given stays) (new-while x m.own.leaves n.own.leaves given stays) k)

-- the lease that it gives
or-none : (a : Bool) → (a || false) ≡ a
or-none true = refl
or-none false = refl

or-yes : (a : Bool) → (a || true) ≡ true
or-yes true = refl
or-yes false = refl

pub quiet : {x : Name} {Own New : Tells} {lives : Bool} {v : View} {o : List Ask} {b : List Say} {given : Bool} (after : Bool) → after ≡ given
    → Talks x Own New lives true v o given b → Talks x Own New lives true v o after (b ++ [])
quiet {x = x} {Own = Own} {New = New} {lives = lives} {v = v} {o = o} {b = b} after e h =
    subst (λ c. Talks x Own New lives true v o after c) (sym (append-nil b))
    (subst (λ g. Talks x Own New lives true v o g b) (sym e) h)

given-yes : {x : Name} {Own New : Tells} {lives : Bool} {v : View} {o : List Ask} {b : List Say} (after : Bool) → after ≡ true
    → Talks x Own New lives true v o true b → Talks x Own New lives true v o after b
given-yes {x = x} {Own = Own} {New = New} {lives = lives} {v = v} {o = o} {b = b} after e h =
    subst (λ g. Talks x Own New lives true v o g b) (sym e) h

on-old : {x : Name} {Own New : Tells} {lives : Bool} {v : View} {o : List Ask} {b : List Say} (given same : Bool)
    → Talks x Own New lives true v (one same old ++ o) given b → Talks x Own New lives true v o (given || same) (b ++ [])
on-old given true h = given-yes (given || true) (or-yes given) (member-hears gives_old h)
on-old given false h = quiet (given || false) (or-none given) h

-- it gives the lease that is asked for: of the open order, where `its` holds, with a leaf that fits
pub on-lease : {x : Name} {Own New : Tells} {lives : Bool} {v : View} {o : List Ask} {b : List Say} (given its : Bool) (what : Wanted) (leaf : Leaf)
    → (its ≡ true → (same_name (wanted_name what) x ≡ true) × Own leaf × FitsAsked what leaf)
    → Talks x Own New lives true v (lease_asks its x what ++ o) given b
    → Talks x Own New lives true v o (given || same_name (wanted_name what) x) (b ++ (one its (granted leaf) ++ []))
on-lease {x = x} given true what leaf f h =
    let k = f refl in
    given-yes (given || same_name (wanted_name what) x) (ap (λ c. given || c) k.0 ∙ or-yes given) (member-hears (gives leaf k.1 k.2) h)
on-lease {x = x} given false what leaf f h = on-old given (same_name (wanted_name what) x) h

pub lease-given : (ls : List Lease) (name x : Name) (j : ℕ)
    → is_given (ls ++ record { name = name; holder = j } ∷ []) x j ≡ (is_given ls x j || same_name name x)
lease-given ls name x j =
    given-more ls (record { name = name; holder = j }) x j ∙ ap (λ c. is_given ls x j || (c && same_name name x)) (eq-eqb j j refl)

-- it refuses
on-denied-old : {x : Name} {Own New : Tells} {lives : Bool} {v : View} {o : List Ask} {b : List Say} (given same : Bool)
    → Talks x Own New lives true v (one same old ++ o) given b → Talks x Own New lives true v o given (b ++ [])
on-denied-old given true h = member-hears denies_old h
on-denied-old given false h = quiet given refl h

pub on-denied : {x : Name} {Own New : Tells} {lives : Bool} {v : View} {o : List Ask} {b : List Say} (given its : Bool) (what : Wanted)
    → Talks x Own New lives true v (lease_asks its x what ++ o) given b → Talks x Own New lives true v o given (b ++ (one its refused ++ []))
on-denied given true what h = member-hears denies h
on-denied {x = x} given false what h = on-denied-old given (same_name (wanted_name what) x) h

-- it gives a lease back
pub on-release : {x : Name} {Own New : Tells} {lives : Bool} {v : View} {o : List Ask} {b : List Say} (given same : Bool)
    → Talks x Own New lives true v (one same release ++ o) given b → Talks x Own New lives true v o (if same then false else given) (b ++ [])
on-release given true h = member-hears gives_back h
on-release given false h = quiet given refl h

-- one lease of a name and a holder stands at most
none-if : (ls : List Lease) (x : Name) (j : ℕ) (l : Lease) → same_name l.name x ≡ true → AllByRecursion (Apart l) ls → is_given ls x j ≡ false
none-if [] x j l e a = refl
none-if (k ∷ ls) x j l e a = elim (cases_Bool (is_lease x j k)) [
  | inl f ↦
      let n : k.name ≡ x = same-is k.name x (and_parts (k.holder == j) (same_name k.name x) f).1 in
      let o : overlaps l.name k.name ≡ true = ap (overlaps l.name) n ∙ ap (λ i. overlaps i x) (same-is l.name x e) ∙ overlap-self x in
      let no : true ≡ false = sym o ∙ a.0 in
      cc
  | inr f ↦ ap (λ c. c || is_given ls x j) f ∙ none-if ls x j l e a.1
]

pub given-back : (ls : List Lease) (x : Name) (j : ℕ) → Pairwise Apart ls → is_given (released ls x j) x j ≡ false
given-back [] x j a = refl
given-back (l ∷ ls) x j a =
    elim (is_lease x j l) as (λ c. is_lease x j l ≡ c → is_given (if c then ls else l ∷ released ls x j) x j ≡ false) [
      | true ↦ λ e. none-if ls x j l (and_parts (l.holder == j) (same_name l.name x) e).1 a.0
      | false ↦ λ e. ap (λ c. c || is_given (released ls x j) x j) e ∙ given-back ls x j a.1
    ] refl

-- it is asked for pairs, and sends them
no-stray-here : {x : Name} {Own New OwnAfter NewAfter : Tells} {lives : Bool} {v : View} {o p : List Ask} {b c : List Say} {given : Bool}
    → Talks x Own New lives true v (stray ∷ o) given b → Talks x OwnAfter NewAfter lives true v p given c
no-stray-here (live h) = absurd (no-stray h)
no-stray-here gone = gone

of-source : {x : Name} {Own New : Tells} {v : View} {o : List Ask} {b : List Say} {given : Bool} {key : Option ℕ} → IsSource Own key v o given
    → Talk x Own New v (copy key ∷ o) given b → Talk x Own New v o given (b ++ part ∷ [])
of-source (is_source own) h = hears (sends_part (λ l k. k)) h

on-source : {x : Name} {Own New : Tells} {lives : Bool} {v : View} {o : List Ask} {b : List Say} {given : Bool} {key : Option ℕ}
    → Talks x Own New lives true v (copy key ∷ o) given b → Talks x Own New lives true v o given (b ++ part ∷ [])
on-source (live h) = live (of-source (copy-source h) h)
on-source gone = gone

pub on-copy : {x : Name} {Own New : Tells} {lives : Bool} {v : View} {o : List Ask} {b : List Say} {given : Bool} (its named : Bool) (key : Option ℕ)
    → Talks x Own New lives true v (work_asks its named (copy key) ++ o) given b
    → Talks x Own New lives true v o given (b ++ (one (its && named) part ++ []))
on-copy true true key h = on-source h
on-copy {given = given} true false key h = quiet given refl h
on-copy false named key h = no-stray-here h

-- it never lacks what it is asked for pairs of
missing : {Own : Tells} {v : View} {o : List Ask} {given : Bool} {key : Option ℕ} → (given ≡ true → (leaf : Leaf) → Own leaf → ⊥)
    → IsSource Own key v o given → ⊥
missing f (is_source {leaf = leaf} own) = f refl leaf own

on-missing : {x : Name} {Own New : Tells} {lives : Bool} {v : View} {o : List Ask} {b : List Say} {given : Bool} {key : Option ℕ}
    → (given ≡ true → (leaf : Leaf) → Own leaf → ⊥) → Talks x Own New lives true v (copy key ∷ o) given b
    → Talks x Own New lives true v o given (b ++ [])
on-missing f (live h) = absurd (missing f (copy-source h))
on-missing f gone = gone

pub on-no-copy : {x : Name} {Own New : Tells} {lives : Bool} {v : View} {o : List Ask} {b : List Say} {given : Bool} (its named : Bool) (key : Option ℕ)
    → (its ≡ true → named ≡ true → given ≡ true → (leaf : Leaf) → Own leaf → ⊥)
    → Talks x Own New lives true v (work_asks its named (copy key) ++ o) given b → Talks x Own New lives true v o given (b ++ [])
on-no-copy true true key f h = on-missing (f refl refl) h
on-no-copy {given = given} true false key f h = quiet given refl h
on-no-copy false named key f h = no-stray-here h

-- it is told to install a leaf: of the open order it does; of one of another name its leaves under the lease stay
told-installs : {x : Name} {Own New OwnAfter NewAfter : Tells} {v : View} {o : List Ask} {b s : List Say} {given : Bool} {made : Leaf}
    → ((leaf : Leaf) → Own leaf → NewAfter made × (s ≡ installed ∷ [])) → IsTold Own made v o given
    → Talk x Own New v (install made ∷ o) given b → Talk x OwnAfter NewAfter v o given (b ++ s)
told-installs {x = x} {OwnAfter = OwnAfter} {NewAfter = NewAfter} {v = v} {o = o} {b = b} {given = given} f (is_told {leaf = leaf} own) h =
    let k = f leaf own in
    subst (λ s. Talk x OwnAfter NewAfter v o given (b ++ s)) (sym k.1) (hears (installs k.0) h)

on-told : {x : Name} {Own New OwnAfter NewAfter : Tells} {lives : Bool} {v : View} {o : List Ask} {b s : List Say} {given : Bool} {made : Leaf}
    → ((leaf : Leaf) → Own leaf → NewAfter made × (s ≡ installed ∷ [])) → Talks x Own New lives true v (install made ∷ o) given b
    → Talks x OwnAfter NewAfter lives true v o given (b ++ s)
on-told f (live h) = live (told-installs f (install-told h) h)
on-told f gone = gone

pub on-install : {x : Name} {Own New OwnAfter NewAfter : Tells} {lives : Bool} {v : View} {o : List Ask} {b s : List Say} {given : Bool}
    (its named : Bool) (made : Leaf) → (its ≡ true → named ≡ true → (leaf : Leaf) → Own leaf → NewAfter made × (s ≡ installed ∷ []))
    → (its ≡ true → named ≡ false → (s ≡ []) × Stays Own OwnAfter given × Stays New NewAfter given)
    → Talks x Own New lives true v (work_asks its named (install made) ++ o) given b → Talks x OwnAfter NewAfter lives true v o given (b ++ s)
on-install true true made f g h = on-told (f refl refl) h
on-install {x = x} {OwnAfter = OwnAfter} {NewAfter = NewAfter} {lives = lives} {v = v} {o = o} {b = b} {given = given} true false made f g h =
    let k = g refl refl in
    subst (λ s. Talks x OwnAfter NewAfter lives true v o given (b ++ s)) (sym k.0) (quiet given refl (member-beside k.1 k.2 h))
on-install false named made f g h = no-stray-here h
