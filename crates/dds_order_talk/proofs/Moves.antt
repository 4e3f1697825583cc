use Rattle.std.proofs.Common.{◌≡◌, ℕ, Bool, true, false, Option, Some, None, List, [], ◌∷◌, ◌++◌, sym, subst, append_assoc}
use Rattle.std.proofs.lemmas.List.{append-nil}
use Rattle.std.specs.Prelude.{map}
use Rattle.dds_base.specs.Name.{Name}
use Rattle.dds_base.specs.declared.leaf.Leaf.{Leaf}
use Rattle.dds_letters.specs.declared.refusal.Wanted.{Wanted}
use Rattle.dds_order_talk.specs.Table.{Ask, AsksFor, Fits, FitsAsked, Say, Stale, Talk, Talks, View}
use Rattle.dds_order_talk.specs.Table.AsksFor.{by_name, by_leaf}
use Rattle.dds_order_talk.specs.Table.Ask.{old, release, lease, copy, install, stray}
use Rattle.dds_order_talk.specs.Table.Say.{granted, refused, part, installed}
use Rattle.dds_order_talk.specs.Table.Stale.{clear, gives_back, may_give}
use Rattle.dds_order_talk.specs.Table.Talk.{off, asked, said_yes, said_no, first, has, copies, copied, dropped, heard, told, said_so, done}
use Rattle.dds_order_talk.specs.Table.Talks.{live, lost, gone}
use Rattle.dds_order_talk.specs.Table.View.{Off, Waits, First, Has, Source, Heard, Due, Done}

-- The moves of a conversation of a brick with an order and a member: each keeps that there is such a line.

abbrev pub Tells : Type 1
Tells = Leaf → Type 0

-- A member takes a letter: it gives a lease or not, gives it back, and answers. `Own` and `New` are of its leaves before, the others of
-- those after
pub data Hears (Own New OwnAfter NewAfter : Tells) : Ask → Bool → List Say → Bool → Type 0 where
  gives_old : {given : Bool} → Hears Own New OwnAfter NewAfter old given [] true
  denies_old : {given : Bool} → Hears Own New OwnAfter NewAfter old given [] given
  releases : {given : Bool} → Hears Own New OwnAfter NewAfter release given [] false
  gives :
      {l : Wanted} {given : Bool} (leaf : Leaf) → OwnAfter leaf → FitsAsked l leaf
      → Hears Own New OwnAfter NewAfter (lease l) given (granted leaf ∷ []) true
  denies : {l : Wanted} {given : Bool} → Hears Own New OwnAfter NewAfter (lease l) given (refused ∷ []) given
  sends_part : {key : Option ℕ} → ((l : Leaf) → Own l → OwnAfter l) → Hears Own New OwnAfter NewAfter (copy key) true (part ∷ []) true
  installs : {made : Leaf} → NewAfter made → Hears Own New OwnAfter NewAfter (install made) true (installed ∷ []) true

stale-any : {end w : List Ask} {given : Bool} → Stale end w true → Stale end w given
stale-any (gives_back k) = gives_back k
stale-any (may_give k) = may_give k

asked-fits : {x : Name} {what : Option Leaf} {l : Wanted} (leaf : Leaf) → AsksFor x what l → FitsAsked l leaf → Fits what leaf
asked-fits leaf by_name h = tt
asked-fits leaf (by_leaf e) h = h

pub hears :
    {x : Name} {Own New OwnAfter NewAfter : Tells} {v : View} {a : Ask} {o : List Ask} {given after : Bool} {y b : List Say}
    → Hears Own New OwnAfter NewAfter a given y after → Talk x Own New v (a ∷ o) given b → Talk x OwnAfter NewAfter v o after (b ++ y)
hears gives_old (off (may_give k)) = off k
hears gives_old (asked q (may_give k)) = asked q k
hears denies_old (off (may_give k)) = off (stale-any k)
hears denies_old (asked q (may_give k)) = asked q (stale-any k)
hears releases (off (gives_back k)) = off k
hears releases (asked q (gives_back k)) = asked q k
hears (gives leaf has_it fits) (asked q clear) = said_yes has_it (asked-fits leaf q fits)
hears denies (asked q clear) = said_no
hears (sends_part same) (copies own) = copied (same _ own)
hears (installs new) (told own) = said_so new
hears (gives leaf has_it fits) (off k) = elim k [ ]
hears denies (off k) = elim k [ ]
hears (sends_part same) (off k) = elim k [ ]
hears (sends_part same) (asked q k) = elim k [ ]
hears (installs new) (off k) = elim k [ ]
hears (installs new) (asked q k) = elim k [ ]

-- What the brick takes of a member's letters, or none, as it goes on with its order, and what it sends the member
pub data Takes (x : Name) : View → List Say → View → List Ask → Type 0 where
  asks : {what : Option Leaf} {l : Wanted} → AsksFor x what l → Takes x Off [] (Waits what) (lease l ∷ [])
  takes_first : {leaf : Leaf} → Takes x (Waits None) (granted leaf ∷ []) (First leaf) []
  fixes : {leaf : Leaf} → Takes x (First leaf) [] (Has leaf) []
  takes_grant : {what leaf : Leaf} → Takes x (Waits (Some what)) (granted leaf ∷ []) (Has what) []
  asks_first : {leaf : Leaf} → Takes x (Has leaf) [] (Source leaf None) (copy None ∷ [])
  takes_part : {leaf : Leaf} {key : Option ℕ} → Takes x (Source leaf key) (part ∷ []) (Heard leaf) []
  drops_part : {leaf : Leaf} {key : Option ℕ} → Takes x (Source leaf key) (part ∷ []) (Source leaf key) []
  asks_more : {leaf : Leaf} (key : Option ℕ) → Takes x (Heard leaf) [] (Source leaf key) (copy key ∷ [])
  copied_all : {leaf made : Leaf} → Takes x (Heard leaf) [] (Due leaf made) (install made ∷ [])
  tells : {leaf made : Leaf} → Takes x (Has leaf) [] (Due leaf made) (install made ∷ [])
  takes_installed : {leaf made : Leaf} → Takes x (Due leaf made) (installed ∷ []) (Done leaf made) []
  rests : (v : View) → Takes x v [] v []
  releases_more : Takes x Off [] Off (release ∷ [])

stale-append : {end w : List Ask} {given : Bool} (more : List Ask) → Stale end w given → Stale (end ++ more) (w ++ more) given
stale-append more clear = clear
stale-append more (gives_back k) = gives_back (stale-append more k)
stale-append more (may_give k) = may_give (stale-append more k)

stale-more : {w : List Ask} {given : Bool} → Stale [] w given → Stale [] (w ++ release ∷ []) given
stale-more clear = gives_back clear
stale-more (gives_back k) = gives_back (stale-more k)
stale-more (may_give k) = may_give (stale-more k)

fitting : {x : Name} {Own New : Tells} (what leaf : Leaf) → what ≡ leaf → Own leaf → Talk x Own New (Has what) [] true []
fitting {x = x} {Own = Own} {New = New} what leaf e own = subst (λ l. Talk x Own New (Has l) [] true []) (sym e) (has own)

pub takes :
    {x : Name} {Own New : Tells} {v w : View} {s b : List Say} {y o : List Ask} {given : Bool}
    → Takes x v s w y → Talk x Own New v o given (s ++ b) → Talk x Own New w (o ++ y) given b
takes (asks {l = l} q) (off k) = asked q (stale-append (lease l ∷ []) k)
takes takes_first (said_yes own fits) = first own
takes fixes (first own) = has own
takes (takes_grant {what = what}) (said_yes {leaf = leaf} own fits) = fitting what leaf fits own
takes asks_first (has own) = copies own
takes takes_part (copied own) = heard own
takes drops_part (copied own) = dropped own
takes (asks_more key) (heard own) = copies own
takes copied_all (heard own) = told own
takes tells (has own) = told own
takes takes_installed (said_so new) = done new
takes (rests v) h = rw append-nil h
takes releases_more (off k) = off (stale-more k)

-- An order ends: its lease is one of an order that has ended, and a release comes behind it
abbrev pub ended : Ask → Ask
ended old = old
ended release = release
ended (lease l) = old
ended (copy key) = stray
ended (install made) = stray
ended stray = stray

-- no order ends while a member is copied from, or is to install a leaf and hasn't said that it did
pub data Ends : View → List Say → Type 0 where
  gives_up : {what : Option Leaf} → Ends (Waits what) []
  is_refused : {what : Option Leaf} → Ends (Waits what) (refused ∷ [])
  drops_first : {leaf : Leaf} → Ends (First leaf) []
  drops : {leaf : Leaf} → Ends (Has leaf) []
  drops_copied : {leaf : Leaf} → Ends (Heard leaf) []
  finishes : {leaf made : Leaf} → Ends (Done leaf made) []
  asked_not : Ends Off []

stale-of : {w : List Ask} {given : Bool} → Stale [] w given → Stale [] (map ended w) given
stale-of clear = clear
stale-of (gives_back k) = gives_back (stale-of k)
stale-of (may_give k) = may_give (stale-of k)

stale-ended : {l : Wanted} {w : List Ask} {given : Bool} → Stale (lease l ∷ []) w given → Stale [] (map ended w ++ release ∷ []) given
stale-ended clear = may_give (gives_back clear)
stale-ended (gives_back k) = gives_back (stale-ended k)
stale-ended (may_give k) = may_give (stale-ended k)

-- what else was on its way back is of an order that has ended
pub ends :
    {x : Name} {Own New : Tells} {v : View} {s : List Say} {o : List Ask} {given : Bool} (b : List Say) → Ends v s
    → Talk x Own New v o given (s ++ b) → Talk x Own New Off (map ended o ++ release ∷ []) given []
ends b gives_up (asked q k) = off (stale-ended k)
ends b gives_up (said_yes own fits) = off (gives_back clear)
ends b gives_up said_no = off (gives_back clear)
ends b is_refused said_no = off (gives_back clear)
ends b drops_first (first own) = off (gives_back clear)
ends b drops (has own) = off (gives_back clear)
ends b drops_copied (heard own) = off (gives_back clear)
ends b finishes (done new) = off (gives_back clear)
ends b asked_not (off k) = off (stale-more (stale-of k))

-- no letter to copy or to install is on its way
abbrev pub IsPlain : List Ask → Type 0
IsPlain [] = Unit {0}
IsPlain (copy key ∷ o) = ⊥
IsPlain (install made ∷ o) = ⊥
IsPlain (stray ∷ o) = ⊥
IsPlain (other ∷ o) = IsPlain o

stale-plain : {end w : List Ask} {given : Bool} → IsPlain end → Stale end w given → IsPlain w
stale-plain h clear = h
stale-plain h (gives_back k) = stale-plain h k
stale-plain h (may_give k) = stale-plain h k

-- so it is when an order ends, which leaves none of it behind
pub ends-plain :
    {x : Name} {Own New : Tells} {v : View} {s : List Say} {o : List Ask} {given : Bool} (b : List Say) → Ends v s
    → Talk x Own New v o given (s ++ b) → IsPlain o
ends-plain b gives_up (asked q k) = stale-plain tt k
ends-plain b gives_up (said_yes own fits) = tt
ends-plain b gives_up said_no = tt
ends-plain b is_refused said_no = tt
ends-plain b drops_first (first own) = tt
ends-plain b drops (has own) = tt
ends-plain b drops_copied (heard own) = tt
ends-plain b finishes (done new) = tt
ends-plain b asked_not (off k) = stale-plain tt k

-- of a member that wasn't asked nothing is said, and it is sent no release
pub off-ends :
    {x : Name} {Own New : Tells} {v : View} {o : List Ask} {given : Bool} {b : List Say} → v ≡ Off → Talk x Own New v o given b
    → Talk x Own New Off (map ended o) given []
off-ends e (off k) = off (stale-of k)
off-ends e (asked q k) = cc
off-ends e (said_yes own fits) = cc
off-ends e said_no = cc
off-ends e (first own) = cc
off-ends e (has own) = cc
off-ends e (copies own) = cc
off-ends e (copied own) = cc
off-ends e (dropped own) = cc
off-ends e (heard own) = cc
off-ends e (told own) = cc
off-ends e (said_so new) = cc
off-ends e (done new) = cc

off-stays :
    {x : Name} {Own New : Tells} {v : View} {o : List Ask} {given : Bool} {b : List Say} → v ≡ Off → Talk x Own New v o given b
    → Talk x Own New Off o given []
off-stays e (off k) = off k
off-stays e (asked q k) = cc
off-stays e (said_yes own fits) = cc
off-stays e said_no = cc
off-stays e (first own) = cc
off-stays e (has own) = cc
off-stays e (copies own) = cc
off-stays e (copied own) = cc
off-stays e (dropped own) = cc
off-stays e (heard own) = cc
off-stays e (told own) = cc
off-stays e (said_so new) = cc
off-stays e (done new) = cc

-- What the member does beside the conversation: while it has the lease given, its leaf stays what the line says
abbrev pub Stays : Tells → Tells → Bool → Type 0
Stays Own OwnAfter true = (l : Leaf) → Own l → OwnAfter l
Stays Own OwnAfter false = Unit {0}

pub beside :
    {x : Name} {Own New OwnAfter NewAfter : Tells} {v : View} {o : List Ask} {given : Bool} {b : List Say} → Stays Own OwnAfter given
    → Stays New NewAfter given → Talk x Own New v o given b → Talk x OwnAfter NewAfter v o given b
beside f h (off k) = off k
beside f h (asked q k) = asked q k
beside f h (said_yes own fits) = said_yes (f _ own) fits
beside f h said_no = said_no
beside f h (first own) = first (f _ own)
beside f h (has own) = has (f _ own)
beside f h (copies own) = copies (f _ own)
beside f h (copied own) = copied (f _ own)
beside f h (dropped own) = dropped (f _ own)
beside f h (heard own) = heard (f _ own)
beside f h (told own) = told (f _ own)
beside f h (said_so new) = said_so (h _ new)
beside f h (done new) = done (h _ new)

-- The same where one of the two has stopped
pub member-hears :
    {x : Name} {Own New OwnAfter NewAfter : Tells} {lives : Bool} {v : View} {a : Ask} {o : List Ask} {given after : Bool} {y b : List Say}
    → Hears Own New OwnAfter NewAfter a given y after → Talks x Own New lives true v (a ∷ o) given b
    → Talks x OwnAfter NewAfter lives true v o after (b ++ y)
member-hears m (live h) = live (hears m h)
member-hears m gone = gone

pub brick-takes :
    {x : Name} {Own New : Tells} {lives : Bool} {v w : View} {s b : List Say} {y o : List Ask} {given : Bool}
    → Takes x v s w y → Talks x Own New true lives v o given (s ++ b) → Talks x Own New true lives w (o ++ y) given b
brick-takes m (live h) = live (takes m h)
brick-takes {x = x} {s = s} {b = b} m (lost {v = v} {out = out} {gave = gave} cut h) =
    lost cut (takes m (subst (λ r. Talk x (λ l. Unit {0}) (λ l. Unit {0}) v out gave r) (append_assoc s b cut) h))

pub brick-ends :
    {x : Name} {Own New : Tells} {lives : Bool} {v : View} {s : List Say} {o : List Ask} {given : Bool} (b : List Say) → Ends v s
    → Talks x Own New true lives v o given (s ++ b) → Talks x Own New true lives Off (map ended o ++ release ∷ []) given []
brick-ends b m (live h) = live (ends b m h)
brick-ends {x = x} {s = s} b m (lost {v = v} {out = out} {gave = gave} cut h) =
    lost [] (ends (b ++ cut) m (subst (λ r. Talk x (λ l. Unit {0}) (λ l. Unit {0}) v out gave r) (append_assoc s b cut) h))

pub brick-silent :
    {x : Name} {Own New : Tells} {lives : Bool} {v : View} {o : List Ask} {given : Bool} {b : List Say} → v ≡ Off
    → Talks x Own New true lives v o given b → Talks x Own New true lives Off o given []
brick-silent e (live h) = live (off-stays e h)
brick-silent e (lost cut h) = lost [] (off-stays e h)

pub brick-unasked :
    {x : Name} {Own New : Tells} {lives : Bool} {v : View} {o : List Ask} {given : Bool} {b : List Say} → v ≡ Off
    → Talks x Own New true lives v o given b → Talks x Own New true lives Off (map ended o) given []
brick-unasked e (live h) = live (off-ends e h)
brick-unasked e (lost cut h) = lost [] (off-ends e h)

-- where a live member's line has none of an order's letters to copy or to install, other names may be asked in other words
pub brick-plain :
    {x y : Name} {Own New : Tells} {Owns News : Tells} {lives : Bool} {v : View} {s : List Say} {o p r : List Ask} {given also : Bool} {w : View}
    {c : List Say} (b : List Say) → Ends v s → (IsPlain o → r ≡ p) → Talks x Own New true lives v o given (s ++ b)
    → Talks y Owns News true lives w p also c → Talks y Owns News true lives w r also c
brick-plain {y = y} {Owns = Owns} {News = News} {also = also} {w = w} {c = c} b m f (live h) (live k) =
    live (subst (λ q. Talk y Owns News w q also c) (sym (f (ends-plain b m h))) k)
brick-plain b m f (lost cut h) (lost left k) = lost left k

any-leaves :
    {x : Name} {Own New : Tells} {v : View} {o : List Ask} {given : Bool} {b : List Say} → Talk x Own New v o given b
    → Talk x (λ l. Unit {0}) (λ l. Unit {0}) v o given b
any-leaves {given = true} h = beside (λ l k. tt) (λ l k. tt) h
any-leaves {given = false} h = beside tt tt h

pub member-stops :
    {x : Name} {Own New OwnAfter NewAfter : Tells} {lives : Bool} {v : View} {o p : List Ask} {given gave : Bool} {b : List Say} (cut : List Say)
    → Talks x Own New lives true v o given (b ++ cut) → Talks x OwnAfter NewAfter lives false v p gave b
member-stops cut (live h) = lost cut (any-leaves h)
member-stops cut gone = gone
