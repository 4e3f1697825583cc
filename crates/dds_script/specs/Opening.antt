-- How a cluster begins, and a script as a whole.
use Rattle.std.specs.Prelude.{◌≡◌, ℕ, ◌+◌, ◌^◌, ◌<◌, ◌==◌, Bool, false, List, [], ◌∷◌, ◌++◌, length, count_by, IsTrue}
use Rattle.std.specs.List.{AllByRecursion, list_any}
use Rattle.dds_base.specs.Name.{Name, covers, overlaps}
use Rattle.dds_base.specs.declared.leaf.Leaf.{Leaf}
use Rattle.dds_script.specs.Ranges.{IsRanges, IsName, IsGroup, IsInRanges}
use Rattle.dds_script.specs.declared.line.Line.{Line}
use Rattle.dds_script.specs.declared.ranges.Ranges.{Ranges}

-- how many bricks, libraries and callers a cluster has, its leaves, and the stale leaves of its libraries
pub record OpeningOf : Type 0 where
  pub bricks : ℕ
  pub libraries : ℕ
  pub callers : ℕ
  pub leaves : List Leaf
  pub old : List Leaf

-- an opening and the lines behind it
pub record ScriptOf : Type 0 where
  pub opening : OpeningOf
  pub lines : List Line

-- how many bricks, libraries and callers the opening has
abbrev pub ranges_of : OpeningOf → Ranges
ranges_of o = record { bricks = o.bricks; libraries = o.libraries; callers = o.callers }

-- the opening leaf of this number
abbrev pub opening_leaf : ℕ → Name → List ℕ → Leaf
opening_leaf number name list =
    record { name = name; epoch = 1; stamp = record { maker = 255; count = number }; prev = record { maker = 255; count = number }; list = list }

-- the stale leaf of this number at a library
abbrev pub stale_leaf : ℕ → ℕ → Name → List ℕ → Leaf
stale_leaf library number name list =
    record {
      name = name;
      epoch = 0;
      stamp = record { maker = 64 + library; count = number };
      prev = record { maker = 64 + library; count = number };
      list = list;
    }

-- how many of the stale leaves are the library's
abbrev pub stale_at : ℕ → List Leaf → ℕ
stale_at library old = count_by (λ leaf. leaf.stamp.maker == 64 + library) old

-- a leaf has a partition's name, and some of the bricks as its group
pub record IsPlaced (bricks : ℕ) (leaf : Leaf) : Type 0 where
  pub name : IsName leaf.name
  pub list : IsGroup bricks leaf.list

-- opening leaves behind as many others
abbrev pub AreOpeningLeaves : ℕ → List Leaf → Type 0
AreOpeningLeaves number [] = Unit {0}
AreOpeningLeaves number (leaf ∷ leaves) = (leaf ≡ opening_leaf number leaf.name leaf.list) × AreOpeningLeaves (number + 1) leaves

-- stale leaves of the libraries, behind others
abbrev pub AreStaleLeaves : ℕ → List Leaf → List Leaf → Type 0
AreStaleLeaves libraries before [] = Unit {0}
AreStaleLeaves libraries before (leaf ∷ leaves) =
    ((library : ℕ) × (library < libraries) × (leaf ≡ stale_leaf library (stale_at library before) leaf.name leaf.list))
    × AreStaleLeaves libraries (before ++ leaf ∷ []) leaves

-- one of the leaves has a key in common with the name
abbrev pub meets : List Leaf → Name → Bool
meets leaves name = list_any (λ leaf. overlaps leaf.name name) leaves

-- no two of the leaves have a key in common
abbrev pub AreApart : List Leaf → Type 0
AreApart [] = Unit {0}
AreApart (leaf ∷ leaves) = (meets leaves leaf.name ≡ false) × AreApart leaves

-- one of the leaves covers the key
abbrev pub is_covered : List Leaf → ℕ → Bool
is_covered leaves key = list_any (λ leaf. covers leaf.name key) leaves

-- each key is covered by a leaf
abbrev pub CoverAll : List Leaf → Type 0
CoverAll leaves = (key : ℕ) → IsTrue (is_covered leaves key)

-- what an opening keeps
pub record IsOpening (o : OpeningOf) : Type 0 where
  pub ranges : IsRanges (ranges_of o)
  pub leaves : AllByRecursion (IsPlaced o.bricks) o.leaves
  pub numbers : AreOpeningLeaves 0 o.leaves
  pub apart : AreApart o.leaves
  pub covered : CoverAll o.leaves
  pub old : AllByRecursion (IsPlaced o.bricks) o.old
  pub old_numbers : AreStaleLeaves o.libraries [] o.old

-- what a script keeps
pub record IsScript (s : ScriptOf) : Type 0 where
  pub few : length s.lines < 2 ^ 32
  pub lines : AllByRecursion (IsInRanges (ranges_of s.opening)) s.lines

-- the one leaf of the first opening
abbrev pub first_leaf : Leaf
first_leaf = opening_leaf 0 record { bits = 0; depth = 0 } (0 ∷ [])

-- the opening of `cluster 1 1 1` and `leaf 0/0 0`
abbrev pub first_opening : OpeningOf
first_opening = record { bricks = 1; libraries = 1; callers = 1; leaves = first_leaf ∷ []; old = [] }
