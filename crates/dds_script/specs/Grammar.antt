-- Which bytes are a script, and which fault of the others is the first.
use Rattle.std.specs.Prelude.{◌≡◌, ℕ, ◌+◌, ◌<◌, ◌++◌, ◌⊎◌, ◌||◌, Bool, true, false, Option, None, Some, List, [], ◌∷◌, length, codes, if◌then◌else◌}
use Rattle.std.specs.Fmt.{decimal}
use Rattle.dds_base.specs.BrickList.{has}
use Rattle.dds_base.specs.Name.{Name}
use Rattle.dds_base.specs.declared.leaf.Leaf.{Leaf as LeafOf}
use Rattle.dds_script.specs.Fields.{IsLineOf, IsListWord, IsNameWord, NumbersAre, ValuesAre}
use Rattle.dds_script.specs.Forms.{form_of, is_body}
use Rattle.dds_script.specs.Lines.{text_form, HasWords, IsBlank}
use Rattle.dds_script.specs.Opening.{ScriptOf, CoverAll, meets, opening_leaf, stale_at, stale_leaf}
use Rattle.dds_script.specs.Ranges.{IsRanges, IsName, IsGroup}
use Rattle.dds_script.specs.Text.{list_text, name_text}
use Rattle.dds_script.specs.Words.{HasNo, word, words}
use Rattle.dds_script.specs.declared.form.Form.{Form}
use Rattle.dds_script.specs.declared.form.Form.TheVariants.{Blank, Cluster, Leaf, Old}
use Rattle.dds_script.specs.declared.line.Line.{Line}
use Rattle.dds_script.specs.declared.line.Line.TheVariants as lines
use Rattle.dds_script.specs.declared.place.Place.{Place}
use Rattle.dds_script.specs.declared.place.Place.TheVariants as places
use Rattle.dds_script.specs.declared.ranges.Ranges.{Ranges}
use Rattle.dds_script.specs.declared.reader.Reader.{Reader}
use Rattle.dds_script.specs.declared.script_error.ScriptError.{ScriptError}
use Rattle.dds_script.specs.declared.script_error.ScriptError.TheVariants.{Fault, Memory}
use Rattle.dds_script.specs.declared.script_error.ScriptFault.{ScriptFault}
use Rattle.dds_script.specs.declared.script_error.ScriptKind.{ScriptKind}
use Rattle.dds_script.specs.declared.script_error.ScriptKind.TheVariants as kinds

-- nothing was read
abbrev pub first_reader : Reader
first_reader = record { place = places.BeforeCluster; ranges = record { bricks = 1; libraries = 1; callers = 1 }; leaves = []; stale = []; lines = [] }

-- a blank line is a line of the script only behind another line of it
abbrev pub after_blank : Place → Reader → Reader
after_blank places.BeforeCluster s = s
after_blank places.Leaves s = s
after_blank places.Old s = s
after_blank places.Body s = record s { lines = s.lines ++ lines.Nothing ∷ [] }

-- the opening may end here: the leaves cover each key
abbrev pub IsOpened : Place → Reader → Type 0
IsOpened places.BeforeCluster s = ⊥
IsOpened places.Leaves s = CoverAll s.leaves
IsOpened places.Old s = Unit {0}
IsOpened places.Body s = Unit {0}

-- a place at which a stale leaf may stand
abbrev pub takes_old : Place → Bool
takes_old places.BeforeCluster = false
takes_old places.Leaves = true
takes_old places.Old = true
takes_old places.Body = false

-- reading words leads from one state to the next: one case for each kind of line
pub data MovesBy : Reader → List (List ℕ) → Reader → Type 0 where
  cluster : (s : Reader) (ws : List (List ℕ)) (r : Ranges) → s.place ≡ places.BeforeCluster →
      ws ≡ codes "cluster" ∷ decimal r.bricks ∷ decimal r.libraries ∷ decimal r.callers ∷ [] → IsRanges r →
      MovesBy s ws (record s { place = places.Leaves; ranges = r })
  leaf : (s : Reader) (ws : List (List ℕ)) (name : Name) (list : List ℕ) → s.place ≡ places.Leaves →
      ws ≡ codes "leaf" ∷ name_text name ∷ list_text list ∷ [] → IsName name → IsGroup s.ranges.bricks list → meets s.leaves name ≡ false →
      MovesBy s ws (record s { leaves = s.leaves ++ opening_leaf (length s.leaves) name list ∷ [] })
  old : (s : Reader) (ws : List (List ℕ)) (library : ℕ) (name : Name) (list : List ℕ) → takes_old s.place ≡ true → IsOpened s.place s →
      ws ≡ codes "old" ∷ decimal library ∷ name_text name ∷ list_text list ∷ [] → library < s.ranges.libraries → IsName name →
      IsGroup s.ranges.bricks list →
      MovesBy s ws (record s { place = places.Old; stale = s.stale ++ stale_leaf library (stale_at library s.stale) name list ∷ [] })
  line : (s : Reader) (ws : List (List ℕ)) (l : Line) → IsOpened s.place s → IsLineOf s.ranges ws l →
      MovesBy s ws (record s { place = places.Body; lines = s.lines ++ l ∷ [] })

-- the text is accepted, and leads to the next state
abbrev pub Takes : Reader → List ℕ → Reader → Type 0
Takes s text next = (IsBlank text × (next ≡ after_blank s.place s)) ⊎ (HasWords text × MovesBy s (words text) next)

-- the texts are accepted one after another
abbrev pub Reads : Reader → List (List ℕ) → Reader → Type 0
Reads s [] last = last ≡ s
Reads s (text ∷ texts) last = (next : Reader) × Takes s text next × Reads next texts last

-- each text with an LF at its end
abbrev pub lines_text : List (List ℕ) → List ℕ
lines_text [] = []
lines_text (text ∷ texts) = text ++ 10 ∷ lines_text texts

-- no text has an LF
abbrev pub AreTexts : List (List ℕ) → Type 0
AreTexts [] = Unit {0}
AreTexts (text ∷ texts) = HasNo 10 text × AreTexts texts

-- the bytes begin with lines that are accepted one after another and lead to the state; the rest of the bytes follows
pub record IsReadTo (bytes : List ℕ) (rest : List ℕ) (state : Reader) : Type 0 where
  pub texts : List (List ℕ)
  pub whole : bytes ≡ lines_text texts ++ rest
  pub cut : AreTexts texts
  pub reads : Reads first_reader texts state

abbrev pub script_of : Reader → ScriptOf
script_of s =
    record {
      opening = record {
        bricks = s.ranges.bricks;
        libraries = s.ranges.libraries;
        callers = s.ranges.callers;
        leaves = s.leaves;
        old = s.stale;
      };
      lines = s.lines;
    }

-- the bytes are the script
pub record Accepts (bytes : List ℕ) (script : ScriptOf) : Type 0 where
  pub state : Reader
  pub all : IsReadTo bytes [] state
  pub opened : IsOpened state.place state
  pub same : script ≡ script_of state

-- a line of a form of the opening may stand at a place
abbrev pub opening_stands : Place → Form → Bool
opening_stands places.BeforeCluster Cluster = true
opening_stands places.Leaves Leaf = true
opening_stands places.Leaves Old = true
opening_stands places.Old Old = true
opening_stands place Blank = true
opening_stands place f = false

abbrev pub is_behind_cluster : Place → Bool
is_behind_cluster places.BeforeCluster = false
is_behind_cluster places.Leaves = true
is_behind_cluster places.Old = true
is_behind_cluster places.Body = true

-- a line of the form may stand at a place
abbrev pub may_stand : Place → Form → Bool
may_stand place f = if is_body f then is_behind_cluster place else opening_stands place f

-- a brick stands twice in the list
abbrev pub repeats : List ℕ → Bool
repeats [] = false
repeats (x ∷ xs) = has xs x || repeats xs

-- some key is uncovered where the leaves end
abbrev pub IsUncovered : Place → Reader → Type 0
IsUncovered places.BeforeCluster s = ⊥
IsUncovered places.Leaves s = CoverAll s.leaves → ⊥
IsUncovered places.Old s = ⊥
IsUncovered places.Body s = ⊥

-- the word is a list in which a brick stands twice
pub record IsRepeating (bricks : ℕ) (word : List ℕ) : Type 0 where
  pub list : List ℕ
  pub spelled : IsListWord bricks word list
  pub twice : repeats list ≡ true

-- the word is a name that has a key in common with a leaf
pub record IsMet (leaves : List LeafOf) (word : List ℕ) : Type 0 where
  pub name : Name
  pub spelled : IsNameWord word name
  pub met : meets leaves name ≡ true

-- a line of the opening repeats a brick in a list, or its leaf overlaps an earlier one, or it ends leaves that leave a key
-- uncovered
abbrev pub IsOpeningFault : Reader → Form → List (List ℕ) → Type 0
IsOpeningFault s Leaf ws = IsRepeating s.ranges.bricks (word ws 2) ⊎ IsMet s.leaves (word ws 1)
IsOpeningFault s Old ws = IsUncovered s.place s ⊎ IsRepeating s.ranges.bricks (word ws 3)
IsOpeningFault s f ws = ⊥

abbrev pub IsCoverFaultBy : Bool → Reader → Form → List (List ℕ) → Type 0
IsCoverFaultBy true s f ws = IsUncovered s.place s
IsCoverFaultBy false s f ws = IsOpeningFault s f ws

-- the line repeats a brick in a list, or its leaf overlaps an earlier one, or a key is uncovered behind the leaves
abbrev pub IsCoverFault : Reader → Form → List (List ℕ) → Type 0
IsCoverFault s f ws = IsCoverFaultBy (is_body f) s f ws

-- a line of this form and these words has a fault of the kind, and none of a kind that is looked for before
abbrev pub IsFaultAt : Reader → Form → List (List ℕ) → ScriptKind → Type 0
IsFaultAt s f ws kinds.NoEnd = ⊥
IsFaultAt s f ws kinds.Form = ⊥
IsFaultAt s f ws kinds.Place = may_stand s.place f ≡ false
IsFaultAt s f ws kinds.Number = (may_stand s.place f ≡ true) × (NumbersAre s.ranges f ws → ⊥)
IsFaultAt s f ws kinds.Value = (may_stand s.place f ≡ true) × NumbersAre s.ranges f ws × (ValuesAre f ws → ⊥)
IsFaultAt s f ws kinds.Cover = (may_stand s.place f ≡ true) × NumbersAre s.ranges f ws × ValuesAre f ws × IsCoverFault s f ws

abbrev pub IsFaultOf : Reader → Option Form → List (List ℕ) → ScriptKind → Type 0
IsFaultOf s None ws kind = kind ≡ kinds.Form
IsFaultOf s (Some f) ws kind = IsFaultAt s f ws kind

-- what taking words does: they are accepted and lead to the next state, or this is their first kind of fault
abbrev pub AreTaken : Reader → List (List ℕ) → Reader → Option ScriptKind → Type 0
AreTaken s ws next None = MovesBy s ws next
AreTaken s ws next (Some kind) = IsFaultOf s (form_of ws) ws kind

-- what taking a text does: it is accepted and leads to the next state, or this is its first kind of fault
abbrev pub IsTaken : Reader → List ℕ → Reader → Option ScriptKind → Type 0
IsTaken s text next None = Takes s text next
IsTaken s text next (Some kind) = IsFaultOf s (text_form text) (words text) kind

-- what is wrong where no line is left
abbrev pub IsEndFault : Place → Reader → ScriptKind → Type 0
IsEndFault places.BeforeCluster s kind = kind ≡ kinds.Place
IsEndFault places.Leaves s kind = (kind ≡ kinds.Cover) × (CoverAll s.leaves → ⊥)
IsEndFault places.Old s kind = ⊥
IsEndFault places.Body s kind = ⊥

-- whether the opening may end: this is what is wrong where it may not
abbrev pub IsGate : Reader → Option ScriptKind → Type 0
IsGate s None = IsOpened s.place s
IsGate s (Some kind) = IsEndFault s.place s kind

-- at the state no line of the rest is accepted: there is no rest and the script isn't whole, or the rest has bytes
-- but no LF, or its first line is refused
pub data IsRefused : Reader → List ℕ → ScriptKind → Type 0 where
  ended : (s : Reader) (kind : ScriptKind) → IsEndFault s.place s kind → IsRefused s [] kind
  no_end : (s : Reader) (rest : List ℕ) → 0 < length rest → HasNo 10 rest → IsRefused s rest kinds.NoEnd
  refused : (s : Reader) (text more : List ℕ) (kind : ScriptKind) → HasNo 10 text → IsFaultOf s (text_form text) (words text) kind →
      IsRefused s (text ++ 10 ∷ more) kind

-- the fault is that of the first line that is not accepted
pub record IsFirstFault (bytes : List ℕ) (fault : ScriptFault) : Type 0 where
  pub state : Reader
  pub rest : List ℕ
  pub before : IsReadTo bytes rest state
  pub refuses : IsRefused state rest fault.kind
  pub line : fault.line ≡ length before.texts + 1

-- the error is the first fault of the bytes, or want of memory
abbrev pub IsScriptError : List ℕ → ScriptError → Type 0
IsScriptError bytes (Fault fault) = IsFirstFault bytes fault
IsScriptError bytes Memory = Unit {0}

-- bytes with a fault are no script
abbrev pub IsNoScript : List ℕ → ScriptError → Type 0
IsNoScript bytes (Fault fault) = (script : ScriptOf) → Accepts bytes script → ⊥
IsNoScript bytes Memory = Unit {0}
