-- Behind a line `quiet` that isn't loud each call was answered, or its caller was busy, or a line stopped its library.
use Rattle.std.proofs.Common.{◌≡◌, ℕ, ◌+◌, ◌<◌, Bool, true, false, Option, Some, None, List, [], ◌∷◌, ◌++◌, zero, suc, refl, sym, ap, ◌∙◌, subst}
use Rattle.std.proofs.Common.{arith, drop, length}
use Rattle.std.proofs.Math.Nat.{mod-lt}
use Rattle.std.proofs.lemmas.Bool.{both_ways, or_left, or_right}
use Rattle.std.proofs.lemmas.Bool.Decides.{nat_tests}
use Rattle.std.specs.Prelude.{◌%◌, is_some, map, not, slice_get, take, if◌then◌else◌}
use Rattle.std.specs.List.{AllByRecursion, list_any}
use Rattle.dds_base.specs.declared.op.Reply.{Reply}
use Rattle.dds_client_view.proofs.Calls.{IsCallOf, made-all, made_calls, told_answer}
use Rattle.dds_client_view.proofs.Printed.{seen_from}
use Rattle.dds_client_view.proofs.Sees.{answer-is, reply_of}
use Rattle.dds_client_view.proofs.Shows.{Shows}
use Rattle.dds_client_view.proofs.Users.{LivesAt, run-lives, run-user}
use Rattle.dds_client_view.specs.Client.{Open, fate_by}
use Rattle.dds_client_view.specs.Quiet.{IsOpenAtStopped, is_quiet, is_stop_of, library_of}
use Rattle.dds_client_view.specs.Seen.{SeenCall, SeenLine, answer_in, answers_in, call_of, calls_behind, calls_in, printed_by}
use Rattle.dds_cluster.specs.Trace.{is_run, run_of}
use Rattle.dds_cluster.specs.declared.step.Step.{Step}
use Rattle.dds_cluster.specs.declared.step.Step.TheVariants as step
use Rattle.dds_cluster.specs.declared.trace.Asked.{Asked}
use Rattle.dds_cluster.specs.declared.trace.Told.{Told}
use Rattle.dds_cluster.specs.declared.trace.Trace.{Trace}
use Rattle.dds_core.proofs.Lists.{all-append, all-map}
use Rattle.dds_script.specs.Opening.{IsOpening, OpeningOf, ranges_of}
use Rattle.dds_script.specs.Ranges.{IsInRanges}
use Rattle.dds_script.specs.declared.line.Line.{Line}
use Rattle.dds_script.specs.declared.line.Line.TheVariants as line
use Rattle.dds_states.specs.declared.turn.Replied.TheVariants as replied
use Rattle.dds_transcript.specs.declared.report_line.ReportLine.{ReportLine}
use Rattle.dds_walk.proofs.Quiet.{FailsReplies}
use Rattle.dds_walk.proofs.Stops.{StopIs, StopSays}
use Rattle.dds_walk.specs.Walk.{line_done, lines_done}
use Rattle.dds_walk.specs.declared.walk.Walk.{Walk}
use Rattle.dds_world.specs.Quiet.{AllAnswered, AnsweredIfLive}
use Rattle.dds_world.specs.Stands.{answer_to}

-- no answer says `quiet`
pub replies-silent : FailsReplies is_quiet
replies-silent k node (replied.Call read caller call reply) = refl
replies-silent k node (replied.Order reply) = refl

-- the lines stop what they say
abbrev pub AreStopped : List SeenLine → ℕ → Type 0
AreStopped seen node = list_any (λ s. is_stop_of node s.line) seen ≡ true

one-stops : (Q : ℕ → Type 0) (l : Line) → ((node : ℕ) → is_stop_of node l ≡ true → Q node) → StopSays Q l
one-stops Q (line.Stop node) f = f node (grind (arith, nat_tests))
one-stops Q (line.Call caller op) f = tt
one-stops Q (line.Join brick name via) f = tt
one-stops Q (line.Split brick name) f = tt
one-stops Q (line.Pick picker) f = tt
one-stops Q (line.Events n) f = tt
one-stops Q line.Quiet f = tt
one-stops Q (line.Post node) f = tt
one-stops Q (line.Take node from) f = tt
one-stops Q (line.Show brick) f = tt
one-stops Q line.Nothing f = tt

some-stop : (Q : ℕ → Type 0) (seen : List SeenLine) → ((node : ℕ) → AreStopped seen node → Q node)
    → AllByRecursion (StopSays Q) (map (λ (s : SeenLine). s.line) seen)
some-stop Q [] f = tt
some-stop Q (s ∷ seen) f = (
  one-stops Q s.line (λ node e. f node (or_left (is_stop_of node s.line) (list_any (λ (x : SeenLine). is_stop_of node x.line) seen) e)),
  some-stop Q seen (λ node e. f node (or_right (is_stop_of node s.line) (list_any (λ (x : SeenLine). is_stop_of node x.line) seen) e)),
)

pub lines-stop : (seen : List SeenLine) (ls : List Line) → map (λ (s : SeenLine). s.line) seen ≡ ls → AllByRecursion (StopSays (AreStopped seen)) ls
lines-stop seen ls e = subst (AllByRecursion (StopSays (AreStopped seen))) e (some-stop (AreStopped seen) seen (λ node h. h))

-- a node that no line stops isn't stopped
one-not : (seen : List SeenLine) (node : ℕ) (x : Step) → list_any (λ s. is_stop_of node s.line) seen ≡ false → StopIs (AreStopped seen) x
    → StopIs (λ n. n ≡ node → ⊥) x
one-not seen node (step.Stop n) e h = λ same. both_ways (list_any (λ s. is_stop_of node s.line) seen) e (subst (AreStopped seen) same h)
one-not seen node (step.Input n i) e h = tt
one-not seen node (step.Handle n from) e h = tt
one-not seen node (step.Post n) e h = tt

-- callers are those of the opening
call-in-range : (o : OpeningOf) (before : List SeenLine) (printed : List ReportLine) (l : Line) → IsInRanges (ranges_of o) l
    → AllByRecursion (λ c. c.caller < o.callers) (call_of before printed l)
call-in-range o before printed (line.Call caller op) h = (h.0, tt)
call-in-range o before printed other h = tt

calls-in-range : (o : OpeningOf) (before seen : List SeenLine) → AllByRecursion (λ s. IsInRanges (ranges_of o) s.line) seen
    → AllByRecursion (λ c. c.caller < o.callers) (calls_behind before seen)
calls-in-range o before [] h = tt
calls-in-range o before (s ∷ seen) h =
    all-append (λ (c : SeenCall). c.caller < o.callers) (call_of before s.printed s.line) (calls_behind (before ++ s ∷ []) seen)
    (call-in-range o before s.printed s.line h.0) (calls-in-range o (before ++ s ∷ []) seen h.1)

pub range-seen : (o : OpeningOf) (limit : ℕ) (w : Walk) (ls : List Line) → AllByRecursion (IsInRanges (ranges_of o)) ls
    → AllByRecursion (λ s. IsInRanges (ranges_of o) s.line) (seen_from limit w ls)
range-seen o limit w [] h = tt
range-seen o limit w (l ∷ ls) h = (h.0, range-seen o limit (line_done limit w l) ls h.1)

-- a call that was answered isn't open
not-open : (r : Option Told) → is_some r ≡ true → fate_by false (reply_of r) ≡ Open → ⊥
not-open None e f = cc
not-open (Some r) e f = cc

is-busy : (b : Bool) (r : Option Reply) → b ≡ true → fate_by b r ≡ Open → ⊥
is-busy true r e f = cc
is-busy false r e f = absurd (cc)

-- what is so of calls that were made, and so of others that say nothing
when-made : (P : SeenCall → Type 0) (cs : List SeenCall) → AllByRecursion (λ c. (c.busy ≡ true) → P c) cs
    → AllByRecursion (λ c. (c.busy ≡ false) → P c) (made_calls cs) → AllByRecursion P cs
when-made P [] h k = tt
when-made P (c ∷ cs) h k =
    elim (c.busy) as (λ b. c.busy ≡ b → AllByRecursion (λ (x : SeenCall). (x.busy ≡ false) → P x) (if not b then c ∷ made_calls cs else made_calls cs)
    → AllByRecursion P (c ∷ cs)) [
      | true ↦ λ e g. (h.0 e, when-made P cs h.1 g)
      | false ↦ λ e g. (g.0 e, when-made P cs h.1 g.1)
    ] refl k

-- of each call of the lines, whose caller is one of the opening's
abbrev Claim : OpeningOf → List SeenLine → SeenCall → Type 0
Claim o seen c = c.caller < o.callers → IsOpenAtStopped o seen c

call-claim : (o : OpeningOf) (seen : List SeenLine) (w : Walk) (c : SeenCall) (a : Asked) → IsOpening o → is_run o w.steps ≡ true
    → w.trace ≡ run_of o w.steps → AllByRecursion (StopIs (AreStopped seen)) w.steps → answers_in (printed_by seen) ≡ map told_answer w.trace.told
    → IsCallOf w.trace.told c a → AnsweredIfLive w.trace a → c.busy ≡ false → Claim o seen c
call-claim o seen w c a opening run trace stops printed its answered free = λ inside is_open.
    let node = library_of o c.caller in
    elim (list_any (λ (s : SeenLine). is_stop_of node s.line) seen)
    as (λ b. list_any (λ (s : SeenLine). is_stop_of node s.line) seen ≡ b → b ≡ true) [
      | true ↦ λ e. refl
      | false ↦ λ e.
          let here = run-lives o w.steps (c.caller % o.libraries) opening run (mod-lt c.caller opening.ranges.some_library)
          (all-map (StopIs (AreStopped seen)) (StopIs (λ n. n ≡ node → ⊥)) w.steps (λ x h. one-not seen node x e h) stops) in
          let user = run-user o w.steps c.caller inside in
          let there : slice_get w.trace.callers a.caller ≡ Some user.who =
          ap (slice_get w.trace.callers) its.caller ∙ ap (λ (t : Trace). slice_get t.callers c.caller) trace ∙ user.there in
          let lives = subst (λ n. LivesAt w.trace.world n) (sym user.library) (subst (λ (t : Trace). LivesAt t.world node) (sym trace) here) in
          let told = answered user.who lives.state there lives.lives in
          let fate_is : fate_by false (reply_of (answer_to w.trace.told a.caller a.call)) ≡ Open =
          ap (fate_by false) (sym (answer-is (printed_by seen) w.trace.told c a printed its.caller its.call))
          ∙ ap (λ b. fate_by b (answer_in (printed_by seen) c)) (sym free) ∙ is_open in
          absurd (not-open (answer_to w.trace.told a.caller a.call) told fate_is)
    ] refl

pub calls-over : (o : OpeningOf) (seen : List SeenLine) (w : Walk) → IsOpening o → is_run o w.steps ≡ true → w.trace ≡ run_of o w.steps
    → AllByRecursion (StopIs (AreStopped seen)) w.steps → AllByRecursion (λ s. IsInRanges (ranges_of o) s.line) seen → Shows seen w
    → AllAnswered (run_of o w.steps) → AllByRecursion (IsOpenAtStopped o seen) (calls_in seen)
calls-over o seen w opening run trace stops ranges h all =
    let calls = calls_in seen in
    let printed : answers_in (printed_by seen) ≡ map told_answer w.trace.told = ap answers_in h.printed ∙ h.answers in
    let answered : AllByRecursion (AnsweredIfLive w.trace) w.trace.asked =
    subst (λ (t : Trace). AllByRecursion (AnsweredIfLive t) t.asked) (sym trace) all.calls in
    let claims : AllByRecursion (Claim o seen) calls = when-made (Claim o seen) calls
    (all-of (λ (c : SeenCall). (c.busy ≡ true) → Claim o seen c) calls
    (λ c b inside is_open. absurd (is-busy c.busy (answer_in (printed_by seen) c) b is_open)))
    (made-all w.trace.told (λ (c : SeenCall). (c.busy ≡ false) → Claim o seen c) (AnsweredIfLive w.trace) (made_calls calls) w.trace.asked
    (λ c a its done free. call-claim o seen w c a opening run trace stops printed its done free) h.made answered) in
    both calls claims (calls-in-range o [] seen ranges)
  where
    all-of : (P : SeenCall → Type 0) (cs : List SeenCall) → ((c : SeenCall) → P c) → AllByRecursion P cs
    all-of P [] f = tt
    all-of P (c ∷ cs) f = (f c, all-of P cs f)

    both : (cs : List SeenCall) → AllByRecursion (Claim o seen) cs → AllByRecursion (λ c. c.caller < o.callers) cs
        → AllByRecursion (IsOpenAtStopped o seen) cs
    both [] f g = tt
    both (c ∷ cs) f g = (f.0 g.0, both cs f.1 g.1)

-- what a line prints, and the walk behind it
pub seen-at : (limit : ℕ) (w : Walk) (ls : List Line) (n : ℕ) (s : SeenLine) → slice_get (seen_from limit w ls) n ≡ Some s
    → (slice_get ls n ≡ Some s.line)
    × (s.printed ≡ drop (length (lines_done limit w (take n ls)).lines) (lines_done limit w (take (n + 1) ls)).lines)
seen-at limit w [] n s e = absurd (cc)
seen-at limit w (l ∷ ls) zero s e =
    let x : SeenLine = record { line = l; printed = drop (length w.lines) (line_done limit w l).lines } in
    let is : x ≡ s = cc in
    (ap (λ (y : SeenLine). Some y.line) is, ap (λ (y : SeenLine). y.printed) (sym is))
seen-at limit w (l ∷ ls) (suc n) s e =
    let more : suc n + 1 ≡ suc (n + 1) = omega arith in
    let r = seen-at limit (line_done limit w l) ls n s e in
    (r.0, rw more r.1)
