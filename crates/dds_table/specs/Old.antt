-- The walk through the pages of a table of version 1.
use Rattle.std.specs.Prelude.{ℕ, zero, suc, ◌≡◌, ◌+◌, ◌-◌, ◌^◌, ◌==◌, ◌&&◌, IsTrue, Bool, true, false, not, if◌then◌else◌, Option, None}
use Rattle.std.specs.Prelude.{Some, Result, Ok, Err, List, [], ◌∷◌, ◌++◌, length, slice_index}
use Rattle.std.specs.List.{list_any}
use Rattle.dds_disk.specs.Pages.{Pages, page_at}
use Rattle.dds_base.specs.Name.{Name, covers}
use Rattle.dds_base.specs.Place.{bucket as bucket_no}
use Rattle.dds_base.specs.declared.pair.Pair.{Pair}
use Rattle.dds_pages.specs.Root.{Root}
use Rattle.dds_pages.specs.Bucket.{Bucket}
use Rattle.dds_pages.specs.declared.bucket.Held.{Held}
use Rattle.dds_pages.specs.declared.bucket.Held.TheVariants.{Here, Chain}
use Rattle.dds_pages.specs.declared.bucket.PagePair.{PagePair}
use Rattle.dds_pages.specs.Said.{old_root_in, old_bucket_in}
use Rattle.dds_table.specs.declared.walk.Walk.{Walk}
use Rattle.dds_table.specs.declared.fault.LiftFault.{LiftFault}
use Rattle.dds_table.specs.declared.fault.LiftFault.TheVariants.{Old, Page, Store, Memory}

-- the value that stands in its page
abbrev pub here_value : Held → List ℕ
here_value (Here value) = value
here_value (Chain len first) = []

-- a key may stand behind these pairs: it is the bucket's, the name covers it, and it wasn't read before
abbrev pub is_fresh : ℕ → Name → List Pair → ℕ → Bool
is_fresh at name pairs key = bucket_no key == at && covers name key && not (list_any (λ pair. pair.key == key) pairs)

-- the pairs with those of a page of a bucket; none where a key may not stand there
abbrev pub add_all : ℕ → Name → List Pair → List PagePair → Option (List Pair)
add_all at name pairs [] = Some pairs
add_all at name pairs (pair ∷ more) =
    if is_fresh at name pairs pair.key then
    add_all at name (pairs ++ record { key = pair.key; value = here_value pair.held } ∷ []) more
    else
    None

-- a walk at its start: the root page was read
abbrev pub start_of : ℕ → Root → Walk
start_of page root = record { bucket = 0; page = slice_index root.firsts 0; seen = page ∷ []; pairs = [] }

-- the next bucket, if there is one
abbrev pub bucket_turn : List ℕ → Walk → Result (Option Walk) ℕ
bucket_turn firsts walk =
    if walk.bucket == 255 then
    Ok None
    else
    Ok (Some (record walk { bucket = walk.bucket + 1; page = slice_index firsts (walk.bucket + 1) }))

-- the walk with a page more; the page is refused where a key may not stand there
abbrev pub went : Walk → ℕ → Option (List Pair) → Result (Option Walk) ℕ
went walk next None = Err walk.page
went walk next (Some pairs) = Ok (Some (record { bucket = walk.bucket; page = next; seen = walk.seen ++ walk.page ∷ []; pairs = pairs }))

abbrev pub page_turn : Name → Walk → Option Bucket → Result (Option Walk) ℕ
page_turn name walk None = Err walk.page
page_turn name walk (Some bucket) = went walk bucket.next (add_all walk.bucket name walk.pairs bucket.pairs)

-- where the walk goes in one turn: on, to its end, or to a page that is refused
abbrev pub turn : Pages → Name → List ℕ → Walk → Result (Option Walk) ℕ
turn pages name firsts walk =
    if walk.page == 2 ^ 64 - 1 then
    bucket_turn firsts walk
    else
    if list_any (λ other. other == walk.page) walk.seen then
    Err walk.page
    else
    page_turn name walk (old_bucket_in (page_at pages walk.page))

abbrev pub walk_then : Result (Option Walk) ℕ → List Pair → (Walk → Option (Result (List Pair) ℕ)) → Option (Result (List Pair) ℕ)
walk_then (Err page) pairs rest = Some (Err page)
walk_then (Ok None) pairs rest = Some (Ok pairs)
walk_then (Ok (Some walk)) pairs rest = rest walk

-- where the walk has come to in so many turns, if it has ended: the pairs, or the page that is refused
unfoldable pub walk_in : ℕ → Pages → Name → List ℕ → Walk → Option (Result (List Pair) ℕ)
walk_in zero pages name firsts walk = None
walk_in (suc turns) pages name firsts walk = walk_then (turn pages name firsts walk) walk.pairs (walk_in turns pages name firsts)

-- at the end of the walk the root is refused where the pairs found aren't its number of pairs
abbrev pub counted : ℕ → ℕ → Result (List Pair) ℕ → Result (List Pair) ℕ
counted page count (Err refused) = Err refused
counted page count (Ok pairs) = if length pairs == count then Ok pairs else Err page

-- the walk ends there, in some number of turns
pub record Ends (pages : Pages) (name : Name) (firsts : List ℕ) (walk : Walk) (end : Result (List Pair) ℕ) : Type 0 where
  pub turns : ℕ
  pub ended : walk_in turns pages name firsts walk ≡ Some end

-- what the walk from a root page answers: the pairs, or the first page that is refused
pub record Walks (pages : Pages) (name : Name) (page : ℕ) (root : Root) (answer : Result (List Pair) ℕ) : Type 0 where
  pub end : Result (List Pair) ℕ
  pub ends : Ends pages name root.firsts (start_of page root) end
  pub are : answer ≡ counted page root.pairs end

abbrev pub IsWalked : Pages → Name → ℕ → Option Root → Result (List Pair) ℕ → Type 0
IsWalked pages name page None answer = answer ≡ Err page
IsWalked pages name page (Some root) answer = Walks pages name page root answer

-- the same of what was answered
abbrev pub IsWalk : Pages → Name → ℕ → Result (List Pair) LiftFault → Type 0
IsWalk pages name page (Ok pairs) = IsWalked pages name page (old_root_in (page_at pages page)) (Ok pairs)
IsWalk pages name page (Err (Page refused)) = IsWalked pages name page (old_root_in (page_at pages page)) (Err refused)
IsWalk pages name page (Err Old) = Unit {0}
IsWalk pages name page (Err (Store fault)) = Unit {0}
IsWalk pages name page (Err Memory) = Unit {0}

-- a page of which this is known was read; one that says nothing is refused
abbrev pub IsOldRead : {X : Type 0} → Option X → ℕ → Result X LiftFault → Type 0
IsOldRead said page (Ok x) = said ≡ Some x
IsOldRead said page (Err (Page refused)) = (refused ≡ page) × (said ≡ None)
IsOldRead said page (Err Old) = Unit {0}
IsOldRead said page (Err (Store fault)) = ⊥
IsOldRead said page (Err Memory) = Unit {0}

-- nothing was read
abbrev pub IsUnread : LiftFault → Type 0
IsUnread Old = Unit {0}
IsUnread (Page refused) = ⊥
IsUnread (Store fault) = ⊥
IsUnread Memory = Unit {0}

-- the fault is not the store's
abbrev pub NoStore : LiftFault → Type 0
NoStore Old = Unit {0}
NoStore (Page refused) = Unit {0}
NoStore (Store fault) = ⊥
NoStore Memory = Unit {0}

-- the pairs were added, or a key may not stand there
abbrev pub IsAdded : Option (List Pair) → Bool → List Pair → Type 0
IsAdded said true now = said ≡ Some now
IsAdded said false now = said ≡ None

-- the walk went on, it is at its end, or a page was refused
abbrev pub IsTurn : Result (Option Walk) ℕ → Walk → Walk → Result Bool LiftFault → Type 0
IsTurn said was now (Ok true) = said ≡ Ok (Some now)
IsTurn said was now (Ok false) = (said ≡ Ok None) × (now ≡ was)
IsTurn said was now (Err (Page refused)) = said ≡ Err refused
IsTurn said was now (Err Old) = Unit {0}
IsTurn said was now (Err (Store fault)) = ⊥
IsTurn said was now (Err Memory) = Unit {0}

-- the name covers each key
abbrev pub AreCovered : Name → List Pair → Type 0
AreCovered name [] = Unit {0}
AreCovered name (pair ∷ pairs) = IsTrue (covers name pair.key) × AreCovered name pairs

-- how many turns a walk may still make: a list has less than 2^64 items
abbrev pub left : Walk → ℕ
left walk = (255 - walk.bucket) + (2 ^ 64 - length walk.seen)

-- the pairs are as many as they must be, or a page was refused
abbrev pub IsCounted : Result (List Pair) ℕ → Result (List Pair) LiftFault → Type 0
IsCounted said (Ok pairs) = said ≡ Ok pairs
IsCounted said (Err (Page refused)) = said ≡ Err refused
IsCounted said (Err Old) = ⊥
IsCounted said (Err (Store fault)) = ⊥
IsCounted said (Err Memory) = ⊥
