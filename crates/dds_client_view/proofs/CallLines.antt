-- A call line more.
use Rattle.std.proofs.Common.{◌≡◌, ℕ, ◌<◌, Bool, true, false, List, [], ◌∷◌, ◌++◌, refl}
use Rattle.std.proofs.Common.{sym, ap, subst, ◌∙◌, arith, length}
use Rattle.std.specs.Prelude.{is_none, nat_lt, None, map, not, ◌&&◌, ◌||◌, ◌==◌, slice_index_or}
use Rattle.std.specs.List.{AllByRecursion, list_any}
use Rattle.std.proofs.lemmas.Bool.Decides.{nat_tests}
use Rattle.std.proofs.lemmas.Grind.{flat_map-append}
use Rattle.std.proofs.lemmas.List.{append-nil}
use Rattle.std.proofs.lemmas.List.Elements.{filter-append}
use Rattle.std.proofs.lemmas.List.Folds.{list_any-append}
use Rattle.dds_base.specs.declared.number.CallNo.{CallNo}
use Rattle.dds_base.specs.declared.number.CallerNo.{CallerNo}
use Rattle.dds_base.specs.declared.op.Op.{Op}
use Rattle.dds_client_view.proofs.Calls.{AreMade, IsBefore, IsCallOf, made-later, made-push, told_answer, any-made, made_calls}
use Rattle.dds_client_view.proofs.Prints.{Prints}
use Rattle.dds_client_view.specs.Client.{IsBusyFor, IsUnansweredBefore, is_open_at}
use Rattle.dds_client_view.specs.Seen.{body}
use Rattle.dds_client_view.specs.Seen.{answer_in, SeenCall, SeenLine, answer_on, answers_in, call_of}
use Rattle.dds_client_view.specs.Seen.{calls_in, first_answer, is_busy, is_line_of, lines_of, printed_by}
use Rattle.dds_cluster.specs.Lists.{is_asked}
use Rattle.dds_cluster.specs.declared.trace.Asked.{Asked}
use Rattle.dds_cluster.specs.declared.trace.Told.{Told}
use Rattle.dds_core.proofs.Lists.{all-append, all-map}
use Rattle.dds_net.proofs.Pairwise.{Pairwise, pairs-append}
use Rattle.dds_script.specs.declared.line.Line.TheVariants as line
use Rattle.dds_transcript.specs.declared.report_line.ReportLine.{ReportLine}
use Rattle.dds_transcript.specs.declared.report_line.ReportLine.TheVariants as report
use Rattle.dds_walk.specs.Walk.{counted, says}
use Rattle.dds_walk.specs.declared.walk.Walk.{Walk}
use Rattle.dds_client_view.proofs.Shows.{IsAsked, IsNumbered, IsOld, IsOther, IsUnmade, Shows}
use Rattle.dds_client_view.proofs.Shows.{printed-push, calls-push, lines-one, numbered-more, old-more, answers-more, places-more, plain-more}
use Rattle.dds_client_view.proofs.Numbers.{old-number, not-asked, not-answered, asked-push, new-call, counts-more, no-answer}

-- a call line of a caller that is busy
abbrev seen_call : List SeenLine → List ReportLine → CallerNo → Op → Bool → SeenCall
seen_call before printed caller op busy =
    record { caller = caller; call = record { 0 = lines_of caller before }; op = op; busy = busy; before = printed_by before }

call-is : (before : List SeenLine) (s : SeenLine) (caller : CallerNo) (op : Op) (busy : Bool) → s.line ≡ line.Call caller op → list_any is_busy s.printed ≡ busy
    → call_of before s.printed s.line ≡ seen_call before s.printed caller op busy ∷ []
call-is before s caller op busy e b =
    ap (call_of before s.printed) e ∙ ap (λ (x : Bool). seen_call before s.printed caller op x ∷ []) b

below-push : (before : List SeenLine) (s : SeenLine) (caller : CallerNo) (op : Op) (busy : Bool) → s.line ≡ line.Call caller op
    → AllByRecursion (IsNumbered before) (calls_in before)
    → AllByRecursion (IsNumbered (before ++ s ∷ [])) (calls_in before ++ seen_call before s.printed caller op busy ∷ [])
below-push before s caller op busy e h =
    let same : (caller == caller) ≡ true = grind (arith, nat_tests) in
    let one = lines-one caller before s (ap (is_line_of caller) e ∙ same) in
    all-append (IsNumbered (before ++ s ∷ [])) (calls_in before) (seen_call before s.printed caller op busy ∷ []) (numbered-more before s (calls_in before) h)
    (omega (arith, one), tt)

fresh-push : (before : List SeenLine) (w : Walk) (c : SeenCall) → AllByRecursion (IsAsked w.trace.asked) w.trace.told → Shows before w
    → c.call.0 ≡ lines_of c.caller before → c.before ≡ printed_by before → AllByRecursion IsUnansweredBefore (calls_in before ++ c ∷ [])
fresh-push before w c told h number printed =
    all-append IsUnansweredBefore (calls_in before) (c ∷ []) h.fresh (
      ap (λ l. first_answer (answers_in l) c.caller c.call) (printed ∙ h.printed)
          ∙ ap (λ l. first_answer l c.caller c.call) h.answers
          ∙ not-answered before w.trace.asked w.trace.told c.caller c.call number h.old told,
      tt,
    )

-- a call of the caller was asked, and isn't answered
pub record IsWaiting (w : Walk) (caller : ℕ) : Type 0 where
  pub call : CallNo
  pub asked : is_asked w.trace.asked caller call ≡ true
  pub none : AllByRecursion (λ r. r.caller ≡ caller → r.call ≡ call → ⊥) w.trace.told

-- a caller that was busy waited for an earlier call
waits-more : (cs : List SeenCall) (c : SeenCall) (ds : List SeenCall) → AllByRecursion (IsBusyFor cs) ds → AllByRecursion (IsBusyFor (cs ++ c ∷ [])) ds
waits-more cs c ds h =
    all-map (IsBusyFor cs) (IsBusyFor (cs ++ c ∷ [])) ds
    (λ d k busy. list_any-append (is_open_at d) cs (c ∷ []) ∙ ap (λ b. b || list_any (is_open_at d) (c ∷ [])) (k busy)) h

waits-push : (cs : List SeenCall) (c : SeenCall) → AllByRecursion (IsBusyFor cs) cs → (c.busy ≡ true → list_any (is_open_at c) cs ≡ true)
    → AllByRecursion (IsBusyFor (cs ++ c ∷ [])) (cs ++ c ∷ [])
waits-push cs c h k =
    all-append (IsBusyFor (cs ++ c ∷ [])) cs (c ∷ []) (waits-more cs c cs h)
    ((λ busy. list_any-append (is_open_at c) cs (c ∷ []) ∙ ap (λ b. b || list_any (is_open_at c) (c ∷ [])) (k busy)), tt)

open-call : (before : List SeenLine) (w : Walk) (c : SeenCall) (k : ℕ) (call : CallNo) → c.caller ≡ k → c.call.0 ≡ lines_of k before
    → c.before ≡ printed_by before → is_asked w.trace.asked k call ≡ true → AllByRecursion (λ r. r.caller ≡ k → r.call ≡ call → ⊥) w.trace.told
    → Shows before w → list_any (is_open_at c) (calls_in before) ≡ true
open-call before w c k call e number printed asked none h =
    any-made w.trace.told (is_open_at c) k call (calls_in before) w.trace.asked h.made asked
    (λ d free at its.
    let low : call.0 < lines_of k before = old-number before k call w.trace.asked h.old asked in
    let less : nat_lt d.call.0 c.call.0 ≡ true = grind (arith, nat_tests, its, number, low) in
    let same : (d.caller == c.caller) ≡ true = grind (arith, nat_tests, at, e) in
    let d_call : d.call ≡ call = λ i. record { 0 = its i } in
    let nothing : answer_in c.before d ≡ None =
    ap (λ l. first_answer (answers_in l) d.caller d.call) (printed ∙ h.printed)
    ∙ ap (λ l. first_answer l d.caller d.call) h.answers
    ∙ ap (λ n. first_answer (map told_answer w.trace.told) n d.call) at
    ∙ ap (λ (n : CallNo). first_answer (map told_answer w.trace.told) k n) d_call
    ∙ no-answer w.trace.told k call none in
    ap (λ b. not b && (d.caller == c.caller && (nat_lt d.call.0 c.call.0 && is_none (answer_in c.before d)))) free
    ∙ ap (λ b. b && (nat_lt d.call.0 c.call.0 && is_none (answer_in c.before d))) same
    ∙ ap (λ b. b && is_none (answer_in c.before d)) less
    ∙ ap is_none nothing)

pub shows-busy : (before : List SeenLine) (w v : Walk) (s : SeenLine) (caller : CallerNo) (call : CallNo) (op : Op) → s.line ≡ line.Call caller op
    → s.printed ≡ report.Busy caller call ∷ [] → v ≡ says (counted w caller) (report.Busy caller call) → caller < length w.counts
    → AllByRecursion (IsAsked w.trace.asked) w.trace.told → IsWaiting w caller → Shows before w → Shows (before ++ s ∷ []) v
shows-busy before w v s caller call op is e v_is there told open_one h =
    let c = seen_call before s.printed caller op true in
    let busy : list_any is_busy s.printed ≡ true = ap (list_any is_busy) e in
    let calls : calls_in (before ++ s ∷ []) ≡ calls_in before ++ c ∷ [] =
    calls-push [] before s ∙ ap (λ (l : List SeenCall). calls_in before ++ l) (call-is before s caller op true is busy) in
    let made : made_calls (calls_in (before ++ s ∷ [])) ≡ made_calls (calls_in before) =
    ap made_calls calls ∙ filter-append (λ (x : SeenCall). not x.busy) (calls_in before) (c ∷ []) ∙ append-nil (made_calls (calls_in before)) in
    let u = says (counted w caller) (report.Busy caller call) in
    let shown : Shows (before ++ s ∷ []) u =
    record {
      printed = printed-push before s ∙ ap (λ (l : List ReportLine). l ++ s.printed) h.printed ∙ ap (λ (l : List ReportLine). w.lines ++ l) e;
      answers = flat_map-append answer_on w.lines (report.Busy caller call ∷ []) ∙ append-nil (answers_in w.lines) ∙ h.answers;
      places = h.places;
      counts = counts-more before w caller s op is h there;
      below = subst (λ (l : List SeenCall). AllByRecursion (IsNumbered (before ++ s ∷ [])) l) (sym calls) (below-push before s caller op true is h.below);
      old = old-more before s w.trace.asked h.old;
      apart = h.apart;
      plain = plain-more w.lines (report.Busy caller call ∷ []) h.plain refl;
      made = subst (λ (l : List SeenCall). AreMade w.trace.told l w.trace.asked) (sym made) h.made;
      busy = subst (λ (l : List SeenCall). AllByRecursion (IsUnmade w.trace.asked) l) (sym calls)
          (all-append (IsUnmade w.trace.asked) (calls_in before) (c ∷ []) h.busy
          ((λ b. not-asked before caller c.call w.trace.asked refl h.old), tt));
      fresh = subst (AllByRecursion IsUnansweredBefore) (sym calls) (fresh-push before w c told h refl refl);
      waits = subst (λ (l : List SeenCall). AllByRecursion (IsBusyFor l) l) (sym calls) (waits-push (calls_in before) c h.waits
          (λ b. open-call before w c caller open_one.call refl refl refl open_one.asked open_one.none h));
    } in
    subst (Shows (before ++ s ∷ [])) (sym v_is) shown

-- one of a caller that isn't
unmade-push : (before : List SeenLine) (asked : List Asked) (a : Asked) (cs : List SeenCall) → a.call.0 ≡ lines_of a.caller before
    → AllByRecursion (IsNumbered before) cs → AllByRecursion (IsUnmade asked) cs → AllByRecursion (IsUnmade (asked ++ a ∷ [])) cs
unmade-push before asked a [] e n h = tt
unmade-push before asked a (c ∷ cs) e n h = (
  (λ b. asked-push asked a c.caller c.call (h.0 b) (new-call a.caller c.caller a.call.0 c.call.0 before e n.0)),
  unmade-push before asked a cs e n.1 h.1,
)

apart-push : (before : List SeenLine) (asked : List Asked) (a : Asked) → a.call.0 ≡ lines_of a.caller before → AllByRecursion (IsOld before) asked
    → AllByRecursion (λ b. AllByRecursion (IsOther b) (a ∷ [])) asked
apart-push before [] a e h = tt
apart-push before (b ∷ asked) a e h = (((λ same number. omega (arith, h.0, e, number, ap (λ n. lines_of n before) same)), tt), apart-push before asked a e h.1)

pub shows-made : (before : List SeenLine) (w v : Walk) (s : SeenLine) (caller : CallerNo) (call : CallNo) (op : Op) (a : Asked)
    (g : Prints (a ∷ []) (counted w caller) v)
    → s.line ≡ line.Call caller op → s.printed ≡ g.more → a ≡ record { place = w.trace.steps; caller = caller; call = call; op = op }
    → call.0 ≡ lines_of caller before → caller < length w.counts → AllByRecursion (IsAsked w.trace.asked) w.trace.told → Shows before w
    → Shows (before ++ s ∷ []) v
shows-made before w v s caller call op a g is e a_is number there told h =
    let c = seen_call before s.printed caller op false in
    let free : list_any is_busy s.printed ≡ false = ap (list_any is_busy) e ∙ g.free in
    let calls : calls_in (before ++ s ∷ []) ≡ calls_in before ++ c ∷ [] =
    calls-push [] before s ∙ ap (λ (l : List SeenCall). calls_in before ++ l) (call-is before s caller op false is free) in
    let made : made_calls (calls_in (before ++ s ∷ [])) ≡ made_calls (calls_in before) ++ c ∷ [] =
    ap made_calls calls ∙ filter-append (λ (x : SeenCall). not x.busy) (calls_in before) (c ∷ []) in
    let same : (caller == caller) ≡ true = grind (arith, nat_tests) in
    let one = lines-one caller before s (ap (is_line_of caller) is ∙ same) in
    let a_caller : a.caller ≡ caller = ap (λ (x : Asked). x.caller) a_is in
    let a_call : a.call ≡ call = ap (λ (x : Asked). x.call) a_is in
    let a_number : a.call.0 ≡ lines_of a.caller before = ap (λ (x : CallNo). x.0) a_call ∙ number ∙ ap (λ n. lines_of n before) (sym a_caller) in
    let its : IsCallOf v.trace.told c a =
    record {
      caller = a_caller;
      call = a_call ∙ ap (λ n. record { 0 = n }) number;
      op = ap (λ (x : Asked). x.op) a_is;
      first = w.trace.told;
      later = g.later;
      whole = g.told;
      printed = ap answers_in h.printed ∙ h.answers;
      places = subst (λ n. AllByRecursion (IsBefore n) w.trace.told) (sym (ap (λ (x : Asked). x.place) a_is)) h.places;
    } in
    record {
      printed = printed-push before s ∙ ap (λ (l : List ReportLine). l ++ s.printed) h.printed ∙ ap (λ (l : List ReportLine). w.lines ++ l) e ∙ sym g.lines;
      answers = answers-more w v g.more g.later g.lines g.told h.answers g.same;
      places = subst (λ (l : List Told). AllByRecursion (IsBefore v.trace.steps) l) (sym g.told)
          (places-more w.trace.steps v.trace.steps w.trace.told g.later g.steps h.places g.places);
      counts = λ x small.
          ap (λ (l : List ℕ). slice_index_or l x 0) g.counts
          ∙ counts-more before w caller s op is h there x (subst (λ (l : List ℕ). x < length l) g.counts small);
      below = subst (λ (l : List SeenCall). AllByRecursion (IsNumbered (before ++ s ∷ [])) l) (sym calls) (below-push before s caller op false is h.below);
      old = subst (λ (l : List Asked). AllByRecursion (IsOld (before ++ s ∷ [])) l) (sym g.asked)
          (all-append (IsOld (before ++ s ∷ [])) w.trace.asked (a ∷ []) (old-more before s w.trace.asked h.old)
          (omega (arith, a_number, one, ap (λ n. lines_of n before) a_caller, ap (λ n. lines_of n (before ++ s ∷ [])) a_caller), tt));
      apart = subst (Pairwise IsOther) (sym g.asked) (pairs-append IsOther w.trace.asked (a ∷ []) h.apart (tt, tt)
          (apart-push before w.trace.asked a a_number h.old));
      plain = ap body g.lines ∙ plain-more w.lines g.more h.plain g.plain ∙ sym g.lines;
      made = subst (λ (l : List SeenCall). AreMade v.trace.told l v.trace.asked) (sym made)
          (subst (λ (l : List Asked). AreMade v.trace.told (made_calls (calls_in before) ++ c ∷ []) l) (sym g.asked)
          (made-push v.trace.told (made_calls (calls_in before)) w.trace.asked c a
          (made-later w.trace.told g.later v.trace.told (made_calls (calls_in before)) w.trace.asked g.told h.made) its));
      busy = subst (λ (l : List SeenCall). AllByRecursion (IsUnmade v.trace.asked) l) (sym calls)
          (subst (λ (l : List Asked). AllByRecursion (IsUnmade l) (calls_in before ++ c ∷ [])) (sym g.asked)
          (all-append (IsUnmade (w.trace.asked ++ a ∷ [])) (calls_in before) (c ∷ [])
          (unmade-push before w.trace.asked a (calls_in before) a_number h.below h.busy)
          ((λ b. absurd (cc)), tt)));
      fresh = subst (AllByRecursion IsUnansweredBefore) (sym calls) (fresh-push before w c told h refl refl);
      waits = subst (λ (l : List SeenCall). AllByRecursion (IsBusyFor l) l) (sym calls) (waits-push (calls_in before) c h.waits (λ b. absurd (cc)));
    }
