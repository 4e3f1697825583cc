-- What the words of a line spell.
use Rattle.std.specs.Prelude.{ℕ, ◌≡◌, ◌+◌, ◌-◌, ◌<◌, ◌≤◌, List, [], ◌∷◌, length, nat_lt, codes, if◌then◌else◌}
use Rattle.std.specs.Fmt.{decimal}
use Rattle.dds_base.specs.Name.{Name}
use Rattle.dds_base.specs.declared.op.Op.{Op}
use Rattle.dds_base.specs.declared.op.Op.TheVariants as op
use Rattle.dds_script.specs.Ranges.{IsName, IsNode, AreBelow, IsInRanges}
use Rattle.dds_script.specs.Reading.{IsNumber, IsValueWord}
use Rattle.dds_script.specs.Text.{name_text, brick_text, list_text}
use Rattle.dds_script.specs.Words.{word, value_text}
use Rattle.dds_script.specs.declared.form.Form.{Form}
use Rattle.dds_script.specs.declared.form.Form.TheVariants.{Blank, Cluster, Leaf, Old, Get, Put, Remove, Swap, Stop, Join, Split, Fifo}
use Rattle.dds_script.specs.declared.form.Form.TheVariants.{Newest, Seed, Events, Quiet, Post, Take, Show}
use Rattle.dds_script.specs.declared.line.Line.{Line}
use Rattle.dds_script.specs.declared.line.Line.TheVariants as line
use Rattle.dds_script.specs.declared.line.Picker.{Picker}
use Rattle.dds_script.specs.declared.line.Picker.TheVariants as picker
use Rattle.dds_script.specs.declared.ranges.Ranges.{Ranges}

-- a node: `b` or `l`, and the number of the brick or the library
abbrev pub node_text : ℕ → List ℕ
node_text node = if nat_lt node 64 then 98 ∷ decimal node else 108 ∷ decimal (node - 64)

-- the words of an operation
abbrev pub op_words : Op → List (List ℕ)
op_words (op.Get key) = codes "get" ∷ decimal key ∷ []
op_words (op.Put key value) = codes "put" ∷ decimal key ∷ value_text value ∷ []
op_words (op.Remove key) = codes "remove" ∷ decimal key ∷ []
op_words (op.Swap key expected value) = codes "swap" ∷ decimal key ∷ value_text expected ∷ value_text value ∷ []

abbrev pub picker_words : Picker → List (List ℕ)
picker_words picker.Fifo = codes "fifo" ∷ []
picker_words picker.Newest = codes "newest" ∷ []
picker_words (picker.Seed seed) = codes "seed" ∷ decimal seed ∷ []

-- the words that spell a line behind the opening
abbrev pub line_words : Line → List (List ℕ)
line_words (line.Call caller op) = decimal caller ∷ op_words op
line_words (line.Stop node) = codes "stop" ∷ node_text node ∷ []
line_words (line.Join brick name via) = codes "join" ∷ brick_text brick ∷ name_text name ∷ brick_text via ∷ []
line_words (line.Split brick name) = codes "split" ∷ brick_text brick ∷ name_text name ∷ []
line_words (line.Pick picker) = codes "pick" ∷ picker_words picker
line_words (line.Events count) = codes "events" ∷ decimal count ∷ []
line_words line.Quiet = codes "quiet" ∷ []
line_words (line.Post node) = codes "post" ∷ node_text node ∷ []
line_words (line.Take node from) = codes "take" ∷ node_text node ∷ node_text from ∷ []
line_words (line.Show brick) = codes "show" ∷ brick_text brick ∷ []
line_words line.Nothing = []

-- the words spell the line, whose numbers and values are in range
abbrev pub IsLineOf : Ranges → List (List ℕ) → Line → Type 0
IsLineOf r ws l = (ws ≡ line_words l) × IsInRanges r l

-- the word is a number from the least to the most
pub record IsWithin (from to : ℕ) (word : List ℕ) (n : ℕ) : Type 0 where
  pub spelled : word ≡ decimal n
  pub least : from ≤ n
  pub most : n ≤ to

-- the word is a number below the limit
pub record IsBelow (limit : ℕ) (word : List ℕ) (n : ℕ) : Type 0 where
  pub spelled : word ≡ decimal n
  pub below : n < limit

-- the word is a node of a script with these ranges
abbrev pub IsNodeWord : Ranges → List ℕ → ℕ → Type 0
IsNodeWord r word node = (word ≡ node_text node) × IsNode r node

-- the word is `b` and the number of a brick
abbrev pub IsBrickWord : ℕ → List ℕ → ℕ → Type 0
IsBrickWord bricks word brick = (word ≡ brick_text brick) × (brick < bricks)

-- the word is `l` and the number of a library
abbrev pub IsLibraryWord : ℕ → List ℕ → ℕ → Type 0
IsLibraryWord libraries word node = (word ≡ 108 ∷ decimal (node - 64)) × (64 ≤ node) × (node < 64 + libraries)

-- the words are the bits and the depth of a partition's name
abbrev pub AreNameParts : List ℕ → List ℕ → Name → Type 0
AreNameParts bits depth name = (bits ≡ decimal name.bits) × (depth ≡ decimal name.depth) × IsName name

-- the word is a partition's name
abbrev pub IsNameWord : List ℕ → Name → Type 0
IsNameWord word name = (word ≡ name_text name) × IsName name

-- the word is one to eight numbers of bricks with commas between them; one may stand there twice
pub record IsListWord (bricks : ℕ) (word list : List ℕ) : Type 0 where
  pub spelled : word ≡ list_text list
  pub some : 1 ≤ length list
  pub most : length list ≤ 8
  pub below : AreBelow bricks list

-- there is something that the word spells
abbrev pub IsSpelled : {A : Type 0} → (List ℕ → A → Type 0) → List ℕ → Type 0
IsSpelled {A} spells word = (x : A) × spells word x

abbrev pub AreCallNumbers : Ranges → List (List ℕ) → Type 0
AreCallNumbers r ws = IsSpelled (IsBelow r.callers) (word ws 0) × IsSpelled IsNumber (word ws 2)

-- each of the form's words for numbers, nodes, names and lists is as it should be
abbrev pub NumbersAre : Ranges → Form → List (List ℕ) → Type 0
NumbersAre r Blank ws = Unit {0}
NumbersAre r Cluster ws = IsSpelled (IsWithin 1 64) (word ws 1) × IsSpelled (IsWithin 1 16) (word ws 2) × IsSpelled (IsWithin 1 64) (word ws 3)
NumbersAre r Leaf ws = IsSpelled IsNameWord (word ws 1) × IsSpelled (IsListWord r.bricks) (word ws 2)
NumbersAre r Old ws = IsSpelled (IsBelow r.libraries) (word ws 1) × IsSpelled IsNameWord (word ws 2) × IsSpelled (IsListWord r.bricks) (word ws 3)
NumbersAre r Get ws = AreCallNumbers r ws
NumbersAre r Put ws = AreCallNumbers r ws
NumbersAre r Remove ws = AreCallNumbers r ws
NumbersAre r Swap ws = AreCallNumbers r ws
NumbersAre r Stop ws = IsSpelled (IsNodeWord r) (word ws 1)
NumbersAre r Join ws = IsSpelled (IsBrickWord r.bricks) (word ws 1) × IsSpelled IsNameWord (word ws 2) × IsSpelled (IsBrickWord r.bricks) (word ws 3)
NumbersAre r Split ws = IsSpelled (IsBrickWord r.bricks) (word ws 1) × IsSpelled IsNameWord (word ws 2)
NumbersAre r Fifo ws = Unit {0}
NumbersAre r Newest ws = Unit {0}
NumbersAre r Seed ws = IsSpelled IsNumber (word ws 2)
NumbersAre r Events ws = IsSpelled (IsWithin 0 1000000) (word ws 1)
NumbersAre r Quiet ws = Unit {0}
NumbersAre r Post ws = IsSpelled (IsNodeWord r) (word ws 1)
NumbersAre r Take ws = IsSpelled (IsNodeWord r) (word ws 1) × IsSpelled (IsNodeWord r) (word ws 2)
NumbersAre r Show ws = IsSpelled (IsBrickWord r.bricks) (word ws 1)

-- each of the form's words for values is as it should be
abbrev pub ValuesAre : Form → List (List ℕ) → Type 0
ValuesAre Blank ws = Unit {0}
ValuesAre Cluster ws = Unit {0}
ValuesAre Leaf ws = Unit {0}
ValuesAre Old ws = Unit {0}
ValuesAre Get ws = Unit {0}
ValuesAre Put ws = IsSpelled IsValueWord (word ws 3)
ValuesAre Remove ws = Unit {0}
ValuesAre Swap ws = IsSpelled IsValueWord (word ws 3) × IsSpelled IsValueWord (word ws 4)
ValuesAre Stop ws = Unit {0}
ValuesAre Join ws = Unit {0}
ValuesAre Split ws = Unit {0}
ValuesAre Fifo ws = Unit {0}
ValuesAre Newest ws = Unit {0}
ValuesAre Seed ws = Unit {0}
ValuesAre Events ws = Unit {0}
ValuesAre Quiet ws = Unit {0}
ValuesAre Post ws = Unit {0}
ValuesAre Take ws = Unit {0}
ValuesAre Show ws = Unit {0}
