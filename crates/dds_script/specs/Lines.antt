-- Reading one line behind the opening.
use Rattle.std.specs.Prelude.{ℕ, ◌≡◌, ◌⊎◌, Bool, true, false, List, Option, Some, None, Result, Ok, Err, IsTrue, not, if◌then◌else◌}
use Rattle.dds_script.specs.Fields.{IsLineOf, NumbersAre, ValuesAre}
use Rattle.dds_script.specs.Forms.{form_of, is_body}
use Rattle.dds_script.specs.Words.{is_ascii, is_blank, words}
use Rattle.dds_script.specs.declared.form.Form.{Form}
use Rattle.dds_script.specs.declared.form.Form.TheVariants.{Blank}
use Rattle.dds_script.specs.declared.line.Line.{Line}
use Rattle.dds_script.specs.declared.line.Line.TheVariants.{Call, Stop, Join, Split, Pick, Events, Quiet, Post, Take, Show, Nothing}
use Rattle.dds_script.specs.declared.ranges.LineFault.{LineFault}
use Rattle.dds_script.specs.declared.ranges.LineFault.TheVariants as fault
use Rattle.dds_script.specs.declared.ranges.Ranges.{Ranges}

-- the form of a line: none where a byte isn't ASCII
abbrev pub text_form : List ℕ → Option Form
text_form text = if not (is_ascii text) then None else if is_blank text then Some Blank else form_of (words text)

-- the text is empty or a comment
abbrev pub IsBlank : List ℕ → Type 0
IsBlank text = IsTrue (is_ascii text) × IsTrue (is_blank text)

-- the text is ASCII, and its words count
abbrev pub HasWords : List ℕ → Type 0
HasWords text = IsTrue (is_ascii text) × (is_blank text ≡ false)

-- the text is the line
abbrev pub IsLine : Ranges → List ℕ → Line → Type 0
IsLine r text line = (IsBlank text × (line ≡ Nothing)) ⊎ (HasWords text × IsLineOf r (words text) line)

-- the form, if there is one, is none of those behind the opening
abbrev pub RefusesForm : Option Form → Type 0
RefusesForm None = Unit {0}
RefusesForm (Some f) = is_body f ≡ false

-- the form is one behind the opening, and a word for a number, a node, a name or a list is wrong
abbrev pub RefusesNumber : Ranges → Option Form → List (List ℕ) → Type 0
RefusesNumber r None ws = ⊥
RefusesNumber r (Some f) ws = (is_body f ≡ true) × (NumbersAre r f ws → ⊥)

-- those words are right, and a word for a value is wrong
abbrev pub RefusesValue : Ranges → Option Form → List (List ℕ) → Type 0
RefusesValue r None ws = ⊥
RefusesValue r (Some f) ws = (is_body f ≡ true) × NumbersAre r f ws × (ValuesAre f ws → ⊥)

abbrev pub IsRefusedAs : Ranges → Option Form → List (List ℕ) → LineFault → Type 0
IsRefusedAs r form ws fault.Form = RefusesForm form
IsRefusedAs r form ws fault.Number = RefusesNumber r form ws
IsRefusedAs r form ws fault.Value = RefusesValue r form ws
IsRefusedAs r form ws fault.Memory = Unit {0}

-- the form is one behind the opening, and all its words are right
abbrev pub AreRight : Ranges → Option Form → List (List ℕ) → Type 0
AreRight r None ws = ⊥
AreRight r (Some f) ws = (is_body f ≡ true) × NumbersAre r f ws × ValuesAre f ws

-- what reading words of a form answers
abbrev pub AreReadAs : Ranges → Option Form → List (List ℕ) → Result Line LineFault → Type 0
AreReadAs r form ws (Ok line) = IsLineOf r ws line × AreRight r form ws
AreReadAs r form ws (Err e) = IsRefusedAs r form ws e

-- what reading words answers
abbrev pub AreRead : Ranges → List (List ℕ) → Result Line LineFault → Type 0
AreRead r ws answer = AreReadAs r (form_of ws) ws answer

-- the form of a line behind the opening; an empty line or a comment has its own
abbrev pub IsNotForm : List ℕ → Type 0
IsNotForm text = (is_ascii text ≡ false) ⊎ ((is_blank text ≡ false) × RefusesForm (form_of (words text)))

-- what reading a line answers: the line; or the first kind of fault of it
abbrev pub IsLineAnswer : Ranges → List ℕ → Result Line LineFault → Type 0
IsLineAnswer r text (Ok line) = IsLine r text line
IsLineAnswer r text (Err fault.Form) = IsNotForm text
IsLineAnswer r text (Err fault.Number) = HasWords text × RefusesNumber r (form_of (words text)) (words text)
IsLineAnswer r text (Err fault.Value) = HasWords text × RefusesValue r (form_of (words text)) (words text)
IsLineAnswer r text (Err fault.Memory) = Unit {0}

-- a text with a fault is no line
abbrev pub IsNoLine : Ranges → List ℕ → LineFault → Type 0
IsNoLine r text fault.Form = (line : Line) → IsLine r text line → ⊥
IsNoLine r text fault.Number = (line : Line) → IsLine r text line → ⊥
IsNoLine r text fault.Value = (line : Line) → IsLine r text line → ⊥
IsNoLine r text fault.Memory = Unit {0}
