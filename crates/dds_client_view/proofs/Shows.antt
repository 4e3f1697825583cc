-- What the lines of a script show of the run that they make.
use Rattle.std.proofs.Common.{◌≡◌, ℕ, ◌+◌, ◌<◌, ◌≤◌, Bool, true, false, List, [], ◌∷◌, ◌++◌, refl}
use Rattle.std.proofs.Common.{sym, ap, subst, ◌∙◌, arith, append_assoc, length}
use Rattle.std.specs.Prelude.{filter, map, not, slice_index_or, if◌then◌else◌}
use Rattle.std.specs.List.{AllByRecursion}
use Rattle.std.proofs.lemmas.Grind.{flat_map-append}
use Rattle.std.proofs.lemmas.List.{append-nil, length-append, map-append}
use Rattle.std.proofs.lemmas.List.Elements.{filter-append}
use Rattle.dds_client_view.proofs.Calls.{AreMade, IsBefore, made-later, told_answer, made_calls}
use Rattle.dds_client_view.proofs.Prints.{IsAside, Prints}
use Rattle.dds_client_view.specs.Client.{IsBusyFor, IsUnansweredBefore}
use Rattle.dds_client_view.specs.Seen.{body, is_last}
use Rattle.dds_client_view.specs.Seen.{SeenCall, SeenLine, answer_on, answers_in, call_of, calls_behind, calls_in, is_line_of, lines_of, printed_by}
use Rattle.dds_cluster.specs.Lists.{is_asked}
use Rattle.dds_cluster.specs.declared.trace.Asked.{Asked}
use Rattle.dds_cluster.specs.declared.trace.Told.{Told}
use Rattle.dds_core.proofs.Lists.{all-append, all-map}
use Rattle.dds_net.proofs.Pairwise.{Pairwise}
use Rattle.dds_script.specs.declared.line.Line.{Line}
use Rattle.dds_script.specs.declared.line.Line.TheVariants as line
use Rattle.dds_transcript.specs.declared.report_line.ReportLine.{ReportLine}
use Rattle.dds_walk.specs.declared.walk.Walk.{Walk}

-- a call whose caller was busy was never made
abbrev pub IsUnmade : List Asked → SeenCall → Type 0
IsUnmade asked c = c.busy ≡ true → is_asked asked c.caller c.call ≡ false

-- its number is below the number of its caller's next call
abbrev pub IsNumbered : List SeenLine → SeenCall → Type 0
IsNumbered before c = c.call.0 < lines_of c.caller before

abbrev pub IsOld : List SeenLine → Asked → Type 0
IsOld before a = a.call.0 < lines_of a.caller before

-- each answer is to a call that was asked
abbrev pub IsAsked : List Asked → Told → Type 0
IsAsked asked r = is_asked asked r.caller r.call ≡ true

-- two calls have different callers or numbers
abbrev pub IsOther : Asked → Asked → Type 0
IsOther a b = a.caller ≡ b.caller → a.call.0 ≡ b.call.0 → ⊥

-- Lines that a walk has behind it, with what they printed, and the run that they made. Each line keeps all of it: one that is no call line
-- by what it prints and is told (`Prints`), a call line where the caller is busy (`shows-busy`) or the call is made (`shows-made`).
--
-- | part                        | why it is needed                                                                               |
-- | `printed`                   | the transcript is what the lines printed                                                       |
-- | `answers`, `places`         | what they say of answers are those that were given, at earlier places                          |
-- | `counts`                    | a call's number is how many call lines its caller had                                          |
-- | `below`, `old`, `apart`     | each call so far has a smaller number than its caller's next one, and none has another's       |
-- | `plain`                     | none of the last lines of a transcript is printed yet                                          |
-- | `made`                      | the run's calls are those of the lines whose callers weren't busy, each with what was printed  |
-- |                             | before its line                                                                                |
-- | `busy`                      | a call whose caller was busy was never made                                                    |
-- | `fresh`                     | no call was answered before its line                                                           |
-- | `waits`                     | a caller was busy only where an earlier call of it was open                                    |
pub record Shows (before : List SeenLine) (w : Walk) : Type 0 where
  pub printed : printed_by before ≡ w.lines
  pub answers : answers_in w.lines ≡ map told_answer w.trace.told
  pub places : AllByRecursion (IsBefore w.trace.steps) w.trace.told
  pub counts : (caller : ℕ) → caller < length w.counts → slice_index_or w.counts caller 0 ≡ lines_of caller before
  pub below : AllByRecursion (IsNumbered before) (calls_in before)
  pub old : AllByRecursion (IsOld before) w.trace.asked
  pub apart : Pairwise IsOther w.trace.asked
  pub plain : body w.lines ≡ w.lines
  pub made : AreMade w.trace.told (made_calls (calls_in before)) w.trace.asked
  pub busy : AllByRecursion (IsUnmade w.trace.asked) (calls_in before)
  pub fresh : AllByRecursion IsUnansweredBefore (calls_in before)
  pub waits : AllByRecursion (IsBusyFor (calls_in before)) (calls_in before)

-- one line more
pub printed-push : (before : List SeenLine) (s : SeenLine) → printed_by (before ++ s ∷ []) ≡ printed_by before ++ s.printed
printed-push before s =
    flat_map-append (λ (x : SeenLine). x.printed) before (s ∷ []) ∙ ap (λ (l : List ReportLine). printed_by before ++ l) (append-nil s.printed)

pub calls-push : (pre xs : List SeenLine) (s : SeenLine)
    → calls_behind pre (xs ++ s ∷ []) ≡ calls_behind pre xs ++ call_of (pre ++ xs) s.printed s.line
calls-push pre [] s =
    append-nil (call_of pre s.printed s.line) ∙ ap (λ (x : List SeenLine). call_of x s.printed s.line) (sym (append-nil pre))
calls-push pre (x ∷ xs) s =
    ap (λ (l : List SeenCall). call_of pre x.printed x.line ++ l) (calls-push (pre ++ x ∷ []) xs s)
    ∙ ap (λ (p : List SeenLine). call_of pre x.printed x.line ++ (calls_behind (pre ++ x ∷ []) xs ++ call_of p s.printed s.line)) (append_assoc pre (x ∷ []) xs)
    ∙ sym (append_assoc (call_of pre x.printed x.line) (calls_behind (pre ++ x ∷ []) xs) (call_of (pre ++ (x ∷ xs)) s.printed s.line))

lines-push : (caller : ℕ) (before : List SeenLine) (s : SeenLine)
    → lines_of caller (before ++ s ∷ []) ≡ lines_of caller before + length (if is_line_of caller s.line then s ∷ [] else [])
lines-push caller before s =
    ap (λ (l : List SeenLine). length l) (filter-append (λ (x : SeenLine). is_line_of caller x.line) before (s ∷ []))
    ∙ length-append (filter (λ (x : SeenLine). is_line_of caller x.line) before) (if is_line_of caller s.line then s ∷ [] else [])

lines-more : (caller : ℕ) (before : List SeenLine) (s : SeenLine) → lines_of caller before ≤ lines_of caller (before ++ s ∷ [])
lines-more caller before s = omega (arith, lines-push caller before s)

-- a line that is none of the caller's call lines
pub lines-same : (caller : ℕ) (before : List SeenLine) (s : SeenLine) → is_line_of caller s.line ≡ false
    → lines_of caller (before ++ s ∷ []) ≡ lines_of caller before
lines-same caller before s e =
    let none : length (if is_line_of caller s.line then s ∷ [] else []) ≡ 0 = ap (λ (b : Bool). length (if b then s ∷ [] else [])) e in
    omega (arith, lines-push caller before s, none)

pub lines-one : (caller : ℕ) (before : List SeenLine) (s : SeenLine) → is_line_of caller s.line ≡ true
    → lines_of caller (before ++ s ∷ []) ≡ lines_of caller before + 1
lines-one caller before s e =
    let one : length (if is_line_of caller s.line then s ∷ [] else []) ≡ 1 = ap (λ (b : Bool). length (if b then s ∷ [] else [])) e in
    omega (arith, lines-push caller before s, one)

pub numbered-more : (before : List SeenLine) (s : SeenLine) (cs : List SeenCall) → AllByRecursion (IsNumbered before) cs
    → AllByRecursion (IsNumbered (before ++ s ∷ [])) cs
numbered-more before s cs h =
    all-map (IsNumbered before) (IsNumbered (before ++ s ∷ [])) cs (λ c k. omega (arith, k, lines-more c.caller before s)) h

pub old-more : (before : List SeenLine) (s : SeenLine) (asked : List Asked) → AllByRecursion (IsOld before) asked
    → AllByRecursion (IsOld (before ++ s ∷ [])) asked
old-more before s asked h = all-map (IsOld before) (IsOld (before ++ s ∷ [])) asked (λ a k. omega (arith, k, lines-more a.caller before s)) h

-- all answers so far
pub answers-more : (w v : Walk) (more : List ReportLine) (later : List Told) → v.lines ≡ w.lines ++ more → v.trace.told ≡ w.trace.told ++ later
    → answers_in w.lines ≡ map told_answer w.trace.told → answers_in more ≡ map told_answer later → answers_in v.lines ≡ map told_answer v.trace.told
answers-more w v more later l t a b =
    ap answers_in l
    ∙ flat_map-append answer_on w.lines more
    ∙ ap (λ x. x ++ answers_in more) a
    ∙ ap (λ x. map told_answer w.trace.told ++ x) b
    ∙ sym (map-append told_answer w.trace.told later)
    ∙ ap (λ (x : List Told). map told_answer x) (sym t)

pub places-more : (before after : ℕ) (told later : List Told) → before ≤ after → AllByRecursion (IsBefore before) told → AllByRecursion (IsBefore after) later
    → AllByRecursion (IsBefore after) (told ++ later)
places-more before after told later h a b =
    all-append (IsBefore after) told later (all-map (IsBefore before) (IsBefore after) told (λ r k. omega (arith, k, h)) a) b

pub plain-more : (xs ys : List ReportLine) → body xs ≡ xs → body ys ≡ ys → body (xs ++ ys) ≡ xs ++ ys
plain-more xs ys a b =
    filter-append (λ l. not (is_last l)) xs ys ∙ ap (λ (l : List ReportLine). l ++ body ys) a ∙ ap (λ (l : List ReportLine). xs ++ l) b

-- the line isn't a call line
no-call-of : (before : List SeenLine) (printed : List ReportLine) (l : Line) → IsAside l → call_of before printed l ≡ []
no-call-of before printed (line.Call caller op) h = absurd h
no-call-of before printed other h = refl

no-line-of : (caller : ℕ) (l : Line) → IsAside l → is_line_of caller l ≡ false
no-line-of caller (line.Call c op) h = absurd h
no-line-of caller other h = refl

pub shows-aside : (before : List SeenLine) (w v : Walk) (s : SeenLine) (g : Prints [] w v) → s.printed ≡ g.more → IsAside s.line → Shows before w
    → Shows (before ++ s ∷ []) v
shows-aside before w v s g e aside h =
    let calls : calls_in (before ++ s ∷ []) ≡ calls_in before =
    calls-push [] before s ∙ ap (λ (l : List SeenCall). calls_in before ++ l) (no-call-of before s.printed s.line aside) ∙ append-nil (calls_in before) in
    let asked : v.trace.asked ≡ w.trace.asked = g.asked ∙ append-nil w.trace.asked in
    record {
      printed = printed-push before s ∙ ap (λ (l : List ReportLine). l ++ s.printed) h.printed ∙ ap (λ (l : List ReportLine). w.lines ++ l) e ∙ sym g.lines;
      answers = answers-more w v g.more g.later g.lines g.told h.answers g.same;
      places = subst (λ (l : List Told). AllByRecursion (IsBefore v.trace.steps) l) (sym g.told)
          (places-more w.trace.steps v.trace.steps w.trace.told g.later g.steps h.places g.places);
      counts = λ caller small.
          ap (λ (l : List ℕ). slice_index_or l caller 0) g.counts
          ∙ h.counts caller (subst (λ (l : List ℕ). caller < length l) g.counts small)
          ∙ sym (lines-same caller before s (no-line-of caller s.line aside));
      below = subst (λ (l : List SeenCall). AllByRecursion (IsNumbered (before ++ s ∷ [])) l) (sym calls) (numbered-more before s (calls_in before) h.below);
      old = subst (λ (l : List Asked). AllByRecursion (IsOld (before ++ s ∷ [])) l) (sym asked) (old-more before s w.trace.asked h.old);
      apart = subst (Pairwise IsOther) (sym asked) h.apart;
      plain = ap body g.lines ∙ plain-more w.lines g.more h.plain g.plain ∙ sym g.lines;
      made = subst (λ (l : List SeenCall). AreMade v.trace.told (made_calls l) v.trace.asked) (sym calls)
          (subst (λ (l : List Asked). AreMade v.trace.told (made_calls (calls_in before)) l) (sym asked)
          (made-later w.trace.told g.later v.trace.told (made_calls (calls_in before)) w.trace.asked g.told h.made));
      busy = subst (λ (l : List SeenCall). AllByRecursion (IsUnmade v.trace.asked) l) (sym calls)
          (subst (λ (l : List Asked). AllByRecursion (IsUnmade l) (calls_in before)) (sym asked) h.busy);
      fresh = subst (AllByRecursion IsUnansweredBefore) (sym calls) h.fresh;
      waits = subst (λ (l : List SeenCall). AllByRecursion (IsBusyFor l) l) (sym calls) h.waits;
    }
