-- What the lines of a script print, ask and are told, on a walk that follows no journal.
use Rattle.std.proofs.Common.{◌≡◌, ℕ, ◌+◌, ◌≤◌, Bool, true, false, List, [], ◌∷◌, ◌++◌, Option, Some, None, zero, suc, refl}
use Rattle.std.proofs.Common.{sym, ap, subst, ◌∙◌, arith, append_assoc, length}
use Rattle.std.specs.Prelude.{map, not, ◌&&◌, ◌||◌, ◌==◌, is_some, if◌then◌else◌, IfSome}
use Rattle.std.specs.List.{AllByRecursion, list_any}
use Rattle.std.proofs.lemmas.Grind.{flat_map-append}
use Rattle.std.proofs.lemmas.List.{append-nil, map-append}
use Rattle.std.proofs.lemmas.List.Elements.{filter-append}
use Rattle.std.proofs.lemmas.List.Folds.{list_any-append}
use Rattle.dds_base.specs.declared.leaf.Leaf.{Leaf}
use Rattle.dds_base.specs.declared.number.NodeNo.{NodeNo}
use Rattle.dds_base.specs.declared.op.Order.TheVariants as order
use Rattle.dds_client_view.proofs.Calls.{IsBefore, told_answer}
use Rattle.dds_client_view.specs.Seen.{body, is_last}
use Rattle.dds_client_view.specs.Seen.{answer_on, answers_in, is_busy}
use Rattle.dds_cluster.specs.Trace.{adds, is_possible, next, replies_in, told_at}
use Rattle.dds_cluster.specs.Turn.{turn}
use Rattle.dds_cluster.specs.World.{brick_at}
use Rattle.dds_cluster.specs.declared.step.Input.TheVariants as input
use Rattle.dds_cluster.specs.declared.step.Step.{Step}
use Rattle.dds_cluster.specs.declared.step.Step.TheVariants as step
use Rattle.dds_cluster.specs.declared.trace.Asked.{Asked}
use Rattle.dds_cluster.specs.declared.trace.Told.{Told}
use Rattle.dds_cluster.specs.declared.trace.Trace.{Trace}
use Rattle.dds_core.proofs.Lists.{all-append, all-map}
use Rattle.dds_history.specs.Map.{Map}
use Rattle.dds_script.specs.declared.line.Line.{Line}
use Rattle.dds_script.specs.declared.line.Line.TheVariants as line
use Rattle.dds_states.specs.declared.brick_state.BrickState.{BrickState}
use Rattle.dds_states.specs.declared.turn.Replied.{Replied}
use Rattle.dds_states.specs.declared.turn.Replied.TheVariants as replied
use Rattle.dds_transcript.specs.declared.report_line.OrderKind.{OrderKind}
use Rattle.dds_transcript.specs.declared.report_line.ReportLine.{ReportLine}
use Rattle.dds_transcript.specs.declared.report_line.ReportLine.TheVariants as report
use Rattle.dds_trie.specs.Trie.{leaves_of}
use Rattle.dds_walk.proofs.Along.{IsNoCall}
use Rattle.dds_walk.proofs.Moves.{moves-over, moves-suc}
use Rattle.dds_walk.proofs.Picked.{steps-picked}
use Rattle.dds_walk.proofs.Walked.{tries-alone}
use Rattle.dds_walk.specs.Picking.{begun, events}
use Rattle.dds_walk.specs.Walk.{Moved, after_event, event, event_by, has_event, kind_at, leaf_line, leaf_lines, left, left_of, line_done}
use Rattle.dds_walk.specs.Walk.{moves, node_of, on_event, or_stays, picked_in, picks_in, played, reply_line, reply_lines, says, show_lines, tries}
use Rattle.dds_walk.specs.declared.walk.Walk.{Walk}
use Rattle.dds_walk.proofs.AlongSteps.{no-call-events}

-- from one walk to a later one: what is printed on the way, and what is told; these calls are made
pub record Prints (asks : List Asked) (w v : Walk) : Type 0 where
  pub rest : v.rest ≡ None
  pub counts : v.counts ≡ w.counts
  pub more : List ReportLine
  pub lines : v.lines ≡ w.lines ++ more
  pub plain : body more ≡ more
  pub free : list_any is_busy more ≡ false
  pub later : List Told
  pub told : v.trace.told ≡ w.trace.told ++ later
  pub same : answers_in more ≡ map told_answer later
  pub places : AllByRecursion (IsBefore v.trace.steps) later
  pub steps : w.trace.steps ≤ v.trace.steps
  pub asked : v.trace.asked ≡ w.trace.asked ++ asks

-- nothing happens to the run
prints-lines : (w v : Walk) (more : List ReportLine) → w.rest ≡ None → v.rest ≡ w.rest → v.counts ≡ w.counts → v.trace ≡ w.trace → v.lines ≡ w.lines ++ more
    → body more ≡ more → list_any is_busy more ≡ false → answers_in more ≡ [] → Prints [] w v
prints-lines w v more none r c t l plain free a =
    record {
      rest = r ∙ none;
      counts = c;
      more = more;
      lines = l;
      plain = plain;
      free = free;
      later = [];
      told = ap (λ (x : Trace). x.told) t ∙ sym (append-nil w.trace.told);
      same = a;
      places = tt;
      steps = omega (arith, ap (λ (x : Trace). x.steps) t);
      asked = ap (λ (x : Trace). x.asked) t ∙ sym (append-nil w.trace.asked);
    }

prints-nothing : (w v : Walk) → w.rest ≡ None → v.rest ≡ w.rest → v.counts ≡ w.counts → v.trace ≡ w.trace → v.lines ≡ w.lines → Prints [] w v
prints-nothing w v none r c t l = prints-lines w v [] none r c t (l ∙ sym (append-nil w.lines)) refl refl refl

pub prints-says : (w : Walk) (l : ReportLine) → w.rest ≡ None → body (l ∷ []) ≡ l ∷ [] → list_any is_busy (l ∷ []) ≡ false → answer_on l ≡ []
    → Prints [] w (says w l)
prints-says w l none plain free a = prints-lines w (says w l) (l ∷ []) none refl refl refl refl plain free (append-nil (answer_on l) ∙ a)

-- one way after another
prints-then : (asks : List Asked) (w v x : Walk) → Prints [] w v → Prints asks v x → Prints asks w x
prints-then asks w v x a b =
    record {
      rest = b.rest;
      counts = b.counts ∙ a.counts;
      more = a.more ++ b.more;
      lines = b.lines ∙ ap (λ (l : List ReportLine). l ++ b.more) a.lines ∙ append_assoc w.lines a.more b.more;
      plain = filter-append (λ l. not (is_last l)) a.more b.more ∙ ap (λ (l : List ReportLine). l ++ body b.more) a.plain
          ∙ ap (λ (l : List ReportLine). a.more ++ l) b.plain;
      free = list_any-append is_busy a.more b.more ∙ ap (λ x. x || list_any is_busy b.more) a.free ∙ b.free;
      later = a.later ++ b.later;
      told = b.told ∙ ap (λ (l : List Told). l ++ b.later) a.told ∙ append_assoc w.trace.told a.later b.later;
      same = flat_map-append answer_on a.more b.more ∙ ap (λ l. l ++ answers_in b.more) a.same ∙ ap (λ l. map told_answer a.later ++ l) b.same
          ∙ sym (map-append told_answer a.later b.later);
      places = all-append (IsBefore x.trace.steps) a.later b.later
          (all-map (IsBefore v.trace.steps) (IsBefore x.trace.steps) a.later (λ r h. omega (arith, h, b.steps)) a.places) b.places;
      steps = omega (arith, a.steps, b.steps);
      asked = b.asked ∙ ap (λ (l : List Asked). l ++ asks) (a.asked ∙ append-nil w.trace.asked);
    }

-- the answers of a step
told-if : (t : Trace) (s : Step) (possible : Bool)
    → (if possible then adds t s (turn t.steps t.world s) else record t { steps = t.steps + 1 }).told
    ≡ t.told ++ told_at t.steps (if possible then (turn t.steps t.world s).replies else [])
told-if t s true = refl
told-if t s false = sym (append-nil t.told)

steps-if : (t : Trace) (s : Step) (possible : Bool)
    → (if possible then adds t s (turn t.steps t.world s) else record t { steps = t.steps + 1 }).steps ≡ t.steps + 1
steps-if t s true = refl
steps-if t s false = refl

reply-said : (k : Option OrderKind) (node : NodeNo) (place : ℕ) (rs : List Replied)
    → answers_in (map (reply_line k node) rs) ≡ map told_answer (told_at place rs)
reply-said k node place [] = refl
reply-said k node place (replied.Call read caller call reply ∷ rs) =
    ap (λ l. record { caller = caller; call = call; reply = reply } ∷ l) (reply-said k node place rs)
reply-said k node place (replied.Order reply ∷ rs) = reply-said k node place rs

reply-plain : (k : Option OrderKind) (node : NodeNo) (rs : List Replied) → body (map (reply_line k node) rs) ≡ map (reply_line k node) rs
reply-plain k node [] = refl
reply-plain k node (replied.Call read caller call reply ∷ rs) = ap (λ (l : List ReportLine). report.Answer caller call reply ∷ l) (reply-plain k node rs)
reply-plain k node (replied.Order reply ∷ rs) = ap (λ (l : List ReportLine). reply_line k node (replied.Order reply) ∷ l) (reply-plain k node rs)

reply-free : (k : Option OrderKind) (node : NodeNo) (rs : List Replied) → list_any is_busy (map (reply_line k node) rs) ≡ false
reply-free k node [] = refl
reply-free k node (replied.Call read caller call reply ∷ rs) = reply-free k node rs
reply-free k node (replied.Order reply ∷ rs) = reply-free k node rs

told-here : (place : ℕ) (rs : List Replied) → AllByRecursion (IsBefore (place + 1)) (told_at place rs)
told-here place [] = tt
told-here place (replied.Call read caller call reply ∷ rs) = (omega arith, told-here place rs)
told-here place (replied.Order reply ∷ rs) = told-here place rs

-- a step is made, which makes these calls
pub prints-played : (asks : List Asked) (w : Walk) (s : Step) → w.rest ≡ None → (next w.trace s).asked ≡ w.trace.asked ++ asks → Prints asks w (played w s)
prints-played asks w s none asked =
    let rs = replies_in w.trace s in
    let one : (next w.trace s).steps ≡ w.trace.steps + 1 = steps-if w.trace s (is_possible w.trace s) in
    record {
      rest = none;
      counts = refl;
      more = reply_lines w s;
      lines = refl;
      plain = reply-plain (kind_at w.orders s) (node_of s) rs;
      free = reply-free (kind_at w.orders s) (node_of s) rs;
      later = told_at w.trace.steps rs;
      told = told-if w.trace s (is_possible w.trace s);
      same = reply-said (kind_at w.orders s) (node_of s) w.trace.steps rs;
      places = subst (λ n. AllByRecursion (IsBefore n) (told_at w.trace.steps rs)) (sym one) (told-here w.trace.steps rs);
      steps = omega (arith, one);
      asked = asked;
    }

-- one that makes no call
no-call-if : (t : Trace) (s : Step) (possible : Bool) → IsNoCall s
    → (if possible then adds t s (turn t.steps t.world s) else record t { steps = t.steps + 1 }).asked ≡ t.asked ++ []
no-call-if t (step.Input node (input.Call caller call op)) true h = absurd h
no-call-if t (step.Input node (input.Order o)) true h = refl
no-call-if t (step.Handle node from) true h = refl
no-call-if t (step.Post node) true h = refl
no-call-if t (step.Stop node) true h = refl
no-call-if t s false h = sym (append-nil t.asked)

prints-tries : (w : Walk) (s : Step) → w.rest ≡ None → IsNoCall s → Prints [] w (tries w s)
prints-tries w s none silent =
    let u = left w in
    let gone : u.rest ≡ None = ap left_of none in
    subst (Prints [] w) (sym (tries-alone w s none))
    (prints-then [] w u (played u s) (prints-nothing w u none (gone ∙ sym none) refl refl refl)
    (prints-played [] u s gone (no-call-if u.trace s (is_possible u.trace s) silent)))

-- picked events
prints-event : (w : Walk) (p : Option Step) → w.rest ≡ None → IfSome p IsNoCall → Prints [] w (or_stays w (event_by w p))
prints-event w None none h = prints-nothing w w none refl refl refl refl
prints-event w (Some s) none h = prints-tries w s none h

prints-after : (w : Walk) → w.rest ≡ None → Prints [] w (after_event w)
prints-after w none =
    let u = picks_in w in
    prints-then [] w u (after_event w) (prints-nothing w u none refl refl refl refl)
    (prints-event u (picked_in w) none (steps-picked IsNoCall w.picking (events w.trace.world) (no-call-events w.trace.world)))

prints-on : (w : Walk) (b : Bool) (few some : Moved) → Prints [] w few.walk → Prints [] w some.walk → Prints [] w (on_event b few some).walk
prints-on w true few some n s = s
prints-on w false few some n s = n

pub prints-moves : (n made : ℕ) (w : Walk) → w.rest ≡ None → Prints [] w (moves n made w).walk
prints-moves zero made w none =
    subst (λ (m : Moved). Prints [] w m.walk) (sym (moves-over made w)) (prints-nothing w w none refl refl refl refl)
prints-moves (suc n) made w none =
    let u = after_event w in
    let a = prints-after w none in
    subst (λ (m : Moved). Prints [] w m.walk) (sym (moves-suc n made w))
    (prints-on w (is_some (event w)) (record { walk = u; events = made }) (moves n (made + 1) u) a
    (prints-then [] w u (moves n (made + 1) u).walk a (prints-moves n (made + 1) u a.rest)))

-- a step that is tested before it is made
prints-stop : (w : Walk) (node : NodeNo) (possible : Bool) → w.rest ≡ None → Prints [] w (if possible then tries w (step.Stop node) else w)
prints-stop w node true none = prints-tries w (step.Stop node) none tt
prints-stop w node false none = prints-nothing w w none refl refl refl refl

prints-step : (w : Walk) (s : Step) (refusal : ReportLine) (possible : Bool) → w.rest ≡ None → IsNoCall s → body (refusal ∷ []) ≡ refusal ∷ []
    → list_any is_busy (refusal ∷ []) ≡ false → answer_on refusal ≡ [] → Prints [] w (if possible then tries w s else says w refusal)
prints-step w s refusal true none h plain free a = prints-tries w s none h
prints-step w s refusal false none h plain free a = prints-says w refusal none plain free a

prints-quiet : (w : Walk) (m : Moved) (loud : Bool) → Prints [] w m.walk
    → Prints [] w (if loud then says m.walk report.Loud else says m.walk (report.Quiet m.events))
prints-quiet w m true g = prints-then [] w m.walk _ g (prints-says m.walk report.Loud g.rest refl refl refl)
prints-quiet w m false g = prints-then [] w m.walk _ g (prints-says m.walk (report.Quiet m.events) g.rest refl refl refl)

-- the lines of a brick
leaves-said : (pairs : Map) (brick : NodeNo) (leaves : List Leaf) → answers_in (leaf_lines pairs brick leaves) ≡ []
leaves-said pairs brick [] = refl
leaves-said pairs brick (l ∷ leaves) = leaves-said pairs brick leaves

leaves-plain : (pairs : Map) (brick : NodeNo) (leaves : List Leaf) → body (leaf_lines pairs brick leaves) ≡ leaf_lines pairs brick leaves
leaves-plain pairs brick [] = refl
leaves-plain pairs brick (l ∷ leaves) =
    ap (λ (x : List ReportLine). leaf_line pairs brick l ∷ x) (leaves-plain pairs brick leaves)

leaves-free : (pairs : Map) (brick : NodeNo) (leaves : List Leaf) → list_any is_busy (leaf_lines pairs brick leaves) ≡ false
leaves-free pairs brick [] = refl
leaves-free pairs brick (l ∷ leaves) = leaves-free pairs brick leaves

prints-brick : (w : Walk) (brick : NodeNo) (s : BrickState) (stopped : Bool) → w.rest ≡ None → s.stopped ≡ stopped
    → Prints [] w (record w { lines = w.lines ++ show_lines brick (Some s) })
prints-brick w brick s true none e =
    prints-lines w _ (report.BrickStopped brick ∷ []) none refl refl refl
    (ap (λ (b : Bool). w.lines ++ (if b then report.BrickStopped brick ∷ [] else report.BrickUp brick (length s.locks.pending) ∷ leaf_lines s.pairs brick
    (leaves_of s.leaves))) e)
    refl refl refl
prints-brick w brick s false none e =
    let ls = leaf_lines s.pairs brick (leaves_of s.leaves) in
    prints-lines w _ (report.BrickUp brick (length s.locks.pending) ∷ ls) none refl refl refl
    (ap (λ (b : Bool). w.lines ++ (if b then report.BrickStopped brick ∷ [] else report.BrickUp brick (length s.locks.pending) ∷ ls)) e)
    (ap (λ (x : List ReportLine). report.BrickUp brick (length s.locks.pending) ∷ x) (leaves-plain s.pairs brick (leaves_of s.leaves)))
    (leaves-free s.pairs brick (leaves_of s.leaves)) (leaves-said s.pairs brick (leaves_of s.leaves))

prints-show : (w : Walk) (brick : NodeNo) (s : Option BrickState) → w.rest ≡ None → Prints [] w (record w { lines = w.lines ++ show_lines brick s })
prints-show w brick None none = prints-lines w _ [] none refl refl refl refl refl refl refl
prints-show w brick (Some s) none = prints-brick w brick s s.stopped none refl

-- the line isn't a call line
abbrev pub IsAside : Line → Type 0
IsAside (line.Call caller op) = ⊥
IsAside other = Unit {0}

pub prints-line : (limit : ℕ) (w : Walk) (l : Line) → IsAside l → w.rest ≡ None → Prints [] w (line_done limit w l)
prints-line limit w (line.Call caller op) h none = absurd h
prints-line limit w (line.Stop node) h none = prints-stop w node (is_possible w.trace (step.Stop node)) none
prints-line limit w (line.Join brick name via) h none = prints-tries w (step.Input brick (input.Order (order.Join brick name via))) none tt
prints-line limit w (line.Split brick name) h none = prints-tries w (step.Input brick (input.Order (order.Split brick name))) none tt
prints-line limit w (line.Pick picker) h none = prints-nothing w (record w { picking = begun picker }) none refl refl refl refl
prints-line limit w (line.Events n) h none =
    let m = moves n 0 w in
    let g = prints-moves n 0 w none in
    prints-then [] w m.walk _ g (prints-says m.walk (report.Events m.events) g.rest refl refl refl)
prints-line limit w line.Quiet h none =
    let m = moves limit 0 w in
    prints-quiet w m (m.events == limit && has_event m.walk) (prints-moves limit 0 w none)
prints-line limit w (line.Post node) h none = prints-step w (step.Post node) report.NoPost (is_possible w.trace (step.Post node)) none tt refl refl refl
prints-line limit w (line.Take node from) h none =
    prints-step w (step.Handle node from) report.NoTake (is_possible w.trace (step.Handle node from)) none tt refl refl refl
prints-line limit w (line.Show brick) h none = prints-show w brick (brick_at w.trace.world brick) none
prints-line limit w line.Nothing h none = prints-nothing w w none refl refl refl refl
