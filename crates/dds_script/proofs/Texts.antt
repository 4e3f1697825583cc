-- Reading the lines of a script one after another.
use Rattle.std.proofs.Common.{◌≡◌, ℕ, ◌+◌, ◌≤◌, List, [], ◌∷◌, ◌++◌, length, take, drop, Some, None, refl, ap, sym, ◌∙◌, subst, arith}
use Rattle.std.proofs.Common.{append_assoc, length-append}
use Rattle.dds_script.proofs.Keeping.{reads-few, sound-first, sound-reads}
use Rattle.dds_script.specs.Grammar.{AreTexts, IsFirstFault, IsGate, IsReadTo, IsRefused, IsTaken, Reads, Takes, first_reader, lines_text}
use Rattle.dds_script.specs.Grammar.IsRefused.{ended, refused}
use Rattle.dds_script.specs.Sound.{IsSound}
use Rattle.dds_script.specs.Words.{HasNo, IsFound}
use Rattle.dds_script.specs.declared.reader.Reader.{Reader}
use Rattle.dds_script.specs.declared.script_error.ScriptKind.{ScriptKind}

-- one text more
pub reads-push : (texts : List (List ℕ)) (s last : Reader) (text : List ℕ) (next : Reader) → Reads s texts last → Takes last text next →
    Reads s (texts ++ text ∷ []) next
reads-push [] s last text next r t = (next, subst (λ (x : Reader). Takes x text next) r t, refl)
reads-push (x ∷ texts) s last text next r t = (r.0, r.1, reads-push texts r.0 last text next r.2 t)

pub text-push : (texts : List (List ℕ)) (text rest : List ℕ) → lines_text (texts ++ text ∷ []) ++ rest ≡ lines_text texts ++ (text ++ 10 ∷ rest)
text-push [] text rest = append_assoc text (10 ∷ []) rest
text-push (x ∷ texts) text rest =
    append_assoc x (10 ∷ lines_text (texts ++ text ∷ [])) rest
    ∙ (ap (λ (l : List ℕ). x ++ 10 ∷ l) (text-push texts text rest) ∙ sym (append_assoc x (10 ∷ lines_text texts) (text ++ 10 ∷ rest)))

pub cut-push : (texts : List (List ℕ)) (text : List ℕ) → AreTexts texts → HasNo 10 text → AreTexts (texts ++ text ∷ [])
cut-push [] text a h = (h, tt)
cut-push (x ∷ texts) text a h = (a.0, cut-push texts text a.1 h)

pub length-texts : (texts : List (List ℕ)) → length texts ≤ length (lines_text texts)
length-texts [] = omega arith
length-texts (x ∷ texts) = omega (arith, length-texts texts, length-append x (10 ∷ lines_text texts))

-- where a reader stands: what it has read, and the number of the next line
pub record IsAt (bytes : List ℕ) (rest : List ℕ) (state : Reader) (number : ℕ) : Type 0 where
  pub read : IsReadTo bytes rest state
  pub number_is : number ≡ length read.texts + 1

pub at-first : (bytes : List ℕ) → IsAt bytes bytes first_reader 1
at-first bytes = record { read = record { texts = []; whole = refl; cut = tt; reads = refl }; number_is = refl }

pub at-sound : (bytes rest : List ℕ) (state : Reader) → IsReadTo bytes rest state → IsSound state
at-sound bytes rest state r = sound-reads first_reader r.texts state r.reads sound-first

-- no more lines than bytes
pub at-few : (bytes rest : List ℕ) (state : Reader) → IsReadTo bytes rest state → length state.lines ≤ length bytes
at-few bytes rest state r =
    omega (arith, reads-few first_reader r.texts state r.reads, length-texts r.texts, ap length r.whole, length-append (lines_text r.texts) rest)

pub number-at : (bytes rest : List ℕ) (state : Reader) (number : ℕ) → IsAt bytes rest state number → number ≤ length bytes + 1
number-at bytes rest state number a =
    omega (arith, length-texts a.read.texts, length-append (lines_text a.read.texts) rest, ap length a.read.whole, a.number_is)

-- one line more was read
pub at-more : (bytes rest text after : List ℕ) (state next : Reader) (number end : ℕ) → IsAt bytes rest state number → IsFound rest 10 (Some end) →
    text ≡ take end rest → after ≡ drop (end + 1) rest → IsTaken state text next None → IsAt bytes after next (number + 1)
at-more bytes rest text after state next number end a f t d taken =
    let texts = a.read.texts in
    let e : rest ≡ text ++ 10 ∷ after = rw (t, d) f.1 in
    let whole : bytes ≡ lines_text (texts ++ text ∷ []) ++ after = a.read.whole
    ∙ (ap (λ (l : List ℕ). lines_text texts ++ l) e ∙ sym (text-push texts text after)) in
    let cut : AreTexts (texts ++ text ∷ []) = cut-push texts text a.read.cut (rw t f.2) in
    record {
      read = record { texts = texts ++ text ∷ []; whole = whole; cut = cut; reads = reads-push texts first_reader state text next a.read.reads taken };
      number_is = omega (arith, a.number_is, length-append texts (text ∷ []));
    }

-- the reader stands before a line that is not accepted
pub fault-at : (bytes rest : List ℕ) (state : Reader) (number : ℕ) (kind : ScriptKind) → IsAt bytes rest state number → IsRefused state rest kind →
    IsFirstFault bytes record { line = number; kind = kind }
fault-at bytes rest state number kind a r = record { state = state; rest = rest; before = a.read; refuses = r; line = a.number_is }

-- the line ends in an LF and is refused
pub refused-line : (rest text : List ℕ) (state next : Reader) (end : ℕ) (kind : ScriptKind) → IsFound rest 10 (Some end) → text ≡ take end rest →
    IsTaken state text next (Some kind) → IsRefused state rest kind
refused-line rest text state next end kind f t taken =
    let e : rest ≡ text ++ 10 ∷ drop (end + 1) rest = rw t f.1 in
    rw e (refused state text (drop (end + 1) rest) kind (rw t f.2) taken)

-- nothing is left, and the script isn't whole
pub ended-at : (rest : List ℕ) (state : Reader) (kind : ScriptKind) → length rest ≡ 0 → IsGate state (Some kind) → IsRefused state rest kind
ended-at [] state kind e g = ended state kind g
ended-at (x ∷ rest) state kind e g = absurd (omega (arith, e))

pub nothing-left : (rest : List ℕ) → length rest ≡ 0 → rest ≡ []
nothing-left [] e = refl
nothing-left (x ∷ rest) e = absurd (omega (arith, e))
