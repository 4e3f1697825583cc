-- Which form a line has: by its place and the fixed words alone.
use Rattle.std.specs.Prelude.{ℕ, ◌==◌, ◌&&◌, Bool, true, false, List, [], ◌∷◌, Option, None, Some, codes, if◌then◌else◌}
use Rattle.std.specs.Str.{bytes_eq}
use Rattle.dds_script.specs.Words.{word}
use Rattle.dds_script.specs.declared.form.Form.{Form}
use Rattle.dds_script.specs.declared.form.Form.TheVariants.{Blank, Cluster, Leaf, Old, Get, Put, Remove, Swap, Stop, Join, Split, Fifo}
use Rattle.dds_script.specs.declared.form.Form.TheVariants.{Newest, Seed, Events, Quiet, Post, Take, Show}

-- the word begins with `l`
abbrev pub begins_with_l : List ℕ → Bool
begins_with_l [] = false
begins_with_l (byte ∷ bytes) = byte == 108

abbrev pub form_of_one : List ℕ → Option Form
form_of_one a = if bytes_eq a (codes "quiet") then Some Quiet else None

abbrev pub picked_form : List ℕ → Option Form
picked_form b = if bytes_eq b (codes "fifo") then Some Fifo else if bytes_eq b (codes "newest") then Some Newest else None

abbrev pub form_of_two : List ℕ → List ℕ → Option Form
form_of_two a b =
    if bytes_eq a (codes "stop") then Some Stop
    else if bytes_eq a (codes "pick") then picked_form b
    else if bytes_eq a (codes "events") then Some Events
    else if bytes_eq a (codes "post") then Some Post
    else if bytes_eq a (codes "show") then (if begins_with_l b then None else Some Show)
    else None

abbrev pub form_of_short_call : List ℕ → Option Form
form_of_short_call b = if bytes_eq b (codes "get") then Some Get else if bytes_eq b (codes "remove") then Some Remove else None

abbrev pub form_of_three : List ℕ → List ℕ → Option Form
form_of_three a b =
    if bytes_eq a (codes "leaf") then Some Leaf
    else if bytes_eq a (codes "split") then Some Split
    else if bytes_eq a (codes "take") then Some Take
    else if bytes_eq a (codes "pick") && bytes_eq b (codes "seed") then Some Seed
    else form_of_short_call b

abbrev pub form_of_four : List ℕ → List ℕ → Option Form
form_of_four a b =
    if bytes_eq a (codes "cluster") then Some Cluster
    else if bytes_eq a (codes "old") then Some Old
    else if bytes_eq a (codes "join") then Some Join
    else if bytes_eq b (codes "put") then Some Put
    else None

abbrev pub form_of_five : List ℕ → Option Form
form_of_five b = if bytes_eq b (codes "swap") then Some Swap else None

-- the form that the words fit; where two fit, the one whose first word is fixed. A `show` of a word that begins with `l`
-- has none.
abbrev pub form_of : List (List ℕ) → Option Form
form_of [] = None
form_of (a ∷ []) = form_of_one a
form_of (a ∷ b ∷ []) = form_of_two a b
form_of (a ∷ b ∷ c ∷ []) = form_of_three a b
form_of (a ∷ b ∷ c ∷ d ∷ []) = form_of_four a b
form_of (a ∷ b ∷ c ∷ d ∷ e ∷ []) = form_of_five b
form_of (a ∷ b ∷ c ∷ d ∷ e ∷ f ∷ ws) = None

-- the form is one of those behind the opening
abbrev pub is_body : Form → Bool
is_body Blank = false
is_body Cluster = false
is_body Leaf = false
is_body Old = false
is_body Get = true
is_body Put = true
is_body Remove = true
is_body Swap = true
is_body Stop = true
is_body Join = true
is_body Split = true
is_body Fifo = true
is_body Newest = true
is_body Seed = true
is_body Events = true
is_body Quiet = true
is_body Post = true
is_body Take = true
is_body Show = true
