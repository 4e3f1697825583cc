-- A line `quiet` that isn't loud leaves a world in which nothing is on its way.
use Rattle.std.proofs.Common.{◌≡◌, ℕ, ◌+◌, Bool, true, false, List, [], ◌∷◌, ◌++◌, Option, Some, None, drop, length, zero, suc, refl, sym, ap, ◌∙◌, subst}
use Rattle.std.proofs.Common.{append_assoc, arith}
use Rattle.std.specs.Prelude.{◌&&◌, ◌||◌, ◌==◌, is_some, map, slice_get, take, if◌then◌else◌, IfSome}
use Rattle.std.specs.List.{AllByRecursion, list_any}
use Rattle.std.proofs.lemmas.Bool.{both_ways}
use Rattle.std.proofs.lemmas.Bool.Decides.{nat_tests}
use Rattle.std.proofs.lemmas.List.{append-nil}
use Rattle.std.proofs.lemmas.List.Folds.{list_any-append}
use Rattle.std.proofs.Math.Seq.{drop-append_seam}
use Rattle.dds_base.specs.declared.number.NodeNo.{NodeNo}
use Rattle.dds_script.specs.Opening.{ScriptOf}
use Rattle.dds_script.specs.declared.line.Line.{Line}
use Rattle.dds_script.specs.declared.line.Line.TheVariants as line
use Rattle.dds_states.specs.declared.turn.Replied.{Replied}
use Rattle.dds_transcript.specs.declared.report_line.OrderKind.{OrderKind}
use Rattle.dds_transcript.specs.declared.report_line.ReportLine.{ReportLine}
use Rattle.dds_transcript.specs.declared.report_line.ReportLine.TheVariants as report
use Rattle.dds_walk.proofs.Moves.{moves-over, moves-suc}
use Rattle.dds_walk.proofs.Ranks.{picked-none}
use Rattle.dds_walk.proofs.Stops.{IsAlone, StopIs, alone-first, alone-lines, alone-next, alone-picks, no-claim, picked-no-stop}
use Rattle.dds_walk.specs.Picking.{all_handles, events, first_of, handles, node_at, posts}
use Rattle.dds_walk.specs.Walk.{Moved, event_by, first_walk, has_event, kind_at, lead_in, left, line_done, lines_done, makes_by, moves, node_of, on_event}
use Rattle.dds_walk.specs.Walk.{or_stays, picked_in, picks_in, played, reply_line, reply_lines, says}
use Rattle.dds_walk.specs.declared.picking.Event.{Event}
use Rattle.dds_walk.specs.declared.picking.Picking.TheVariants.{Fifo}
use Rattle.dds_walk.specs.declared.walk.Lead.{Lead}
use Rattle.dds_walk.specs.declared.walk.Walk.{Walk}
use Rattle.dds_cluster.specs.Trace.{replies_in}
use Rattle.dds_cluster.specs.World.{World}
use Rattle.dds_cluster.specs.declared.step.Message.{Message}
use Rattle.dds_cluster.specs.declared.step.Step.{Step}
use Rattle.dds_cluster.specs.declared.step.Step.TheVariants as step
use Rattle.dds_world.specs.Quiet.{Quiet}

-- where no event is possible nothing is on its way
nil-left : (es fs : List Event) → es ++ fs ≡ [] → es ≡ []
nil-left [] fs e = refl
nil-left (x ∷ es) fs e = absurd (cc)

nil-right : (es fs : List Event) → es ++ fs ≡ [] → fs ≡ []
nil-right [] fs e = e
nil-right (x ∷ es) fs e = absurd (cc)

first-none : (s : Step) (ms : List Message) → first_of s (slice_get ms 0) ≡ [] → ms ≡ []
first-none s [] e = refl
first-none s (m ∷ ms) e = absurd (cc)

posts-none : (b at : ℕ) (boxes : List (List Message)) → posts b at boxes ≡ [] → AllByRecursion (λ ms. ms ≡ []) boxes
posts-none b at [] e = tt
posts-none b at (box ∷ boxes) e =
    let one = first_of (step.Post (node_at b at)) (slice_get box 0) in
    let rest = posts b (at + 1) boxes in
    (first-none (step.Post (node_at b at)) box (nil-left one rest e), posts-none b (at + 1) boxes (nil-right one rest e))

handles-none : (b : ℕ) (from : NodeNo) (at : ℕ) (links : List (List Message)) → handles b from at links ≡ [] → AllByRecursion (λ ms. ms ≡ []) links
handles-none b from at [] e = tt
handles-none b from at (l ∷ links) e =
    let one = first_of (step.Handle (node_at b at) from) (slice_get l 0) in
    let rest = handles b from (at + 1) links in
    (first-none (step.Handle (node_at b at) from) l (nil-left one rest e), handles-none b from (at + 1) links (nil-right one rest e))

all-handles-none : (b at : ℕ) (rows : List (List (List Message))) → all_handles b at rows ≡ []
    → AllByRecursion (λ row. AllByRecursion (λ ms. ms ≡ []) row) rows
all-handles-none b at [] e = tt
all-handles-none b at (row ∷ rows) e =
    let one = handles b (node_at b at) 0 row in
    let rest = all_handles b (at + 1) rows in
    (handles-none b (node_at b at) 0 row (nil-left one rest e), all-handles-none b (at + 1) rows (nil-right one rest e))

pub events-none : (w : World) → events w ≡ [] → Quiet w
events-none w e =
    let b = length w.bricks in
    record {
      outboxes = posts-none b 0 w.outboxes (nil-left (posts b 0 w.outboxes) (all_handles b 0 w.links) e);
      links = all-handles-none b 0 w.links (nil-right (posts b 0 w.outboxes) (all_handles b 0 w.links) e);
    }

-- a test that no answer passes
abbrev pub FailsReplies : (ReportLine → Bool) → Type 0
FailsReplies q = (k : Option OrderKind) (node : NodeNo) (r : Replied) → q (reply_line k node r) ≡ false

-- where events were picked no line that they printed passes, and where the limit isn't in the way none is possible any more
record Went (limit : ℕ) (q : ReportLine → Bool) (w : Walk) (m : Moved) : Type 0 where
  more : List ReportLine
  lines : m.walk.lines ≡ w.lines ++ more
  none : list_any q more ≡ false
  over : (m.events == limit && has_event m.walk) ≡ false → events m.walk.trace.world ≡ []

replies-fail : (q : ReportLine → Bool) (k : Option OrderKind) (node : NodeNo) (rs : List Replied) → FailsReplies q
    → list_any q (map (reply_line k node) rs) ≡ false
replies-fail q k node [] h = refl
replies-fail q k node (r ∷ rs) h = ap (λ b. b || list_any q (map (reply_line k node) rs)) (h k node r) ∙ replies-fail q k node rs h

abbrev by_lead : ℕ → ℕ → Walk → Step → Lead → Moved
by_lead n made w s l =
    on_event (is_some (makes_by (picks_in w) s l)) (record { walk = or_stays (picks_in w) (makes_by (picks_in w) s l); events = made })
    (moves n (made + 1) (or_stays (picks_in w) (makes_by (picks_in w) s l)))

abbrev by_pick : ℕ → ℕ → Walk → Option Step → Moved
by_pick n made w p =
    on_event (is_some (event_by (picks_in w) p)) (record { walk = or_stays (picks_in w) (event_by (picks_in w) p); events = made })
    (moves n (made + 1) (or_stays (picks_in w) (event_by (picks_in w) p)))

abbrev Free : ℕ → Type 0
Free node = Unit {0}

went-pick : (limit : ℕ) (q : ReportLine → Bool) (n made : ℕ) (w : Walk) (p : Option Step) → FailsReplies q → picked_in w ≡ p → IfSome p (StopIs Free)
    → IsAlone Free w → ((x : Walk) → IsAlone Free x → Went limit q x (moves n (made + 1) x)) → Went limit q w (by_pick n made w p)
went-pick limit q n made w None h e free g go =
    record {
      more = [];
      lines = sym (append-nil w.lines);
      none = refl;
      over = λ loud. picked-none w.picking w.trace.world g.once (ap is_some e);
    }
went-pick limit q n made w (Some s) h e free g go =
    let u : Walk = left (picks_in w) in
    let x : Walk = played u s in
    let more = reply_lines u s in
    let rest = go x (alone-next Free (picks_in w) s free (alone-picks Free w g)) in
    let is : by_pick n made w (Some s) ≡ moves n (made + 1) x = ap (λ (r : Option (List Step)). by_lead n made w s (lead_in r s)) g.rest in
    subst (Went limit q w) (sym is)
    (record {
      more = more ++ rest.more;
      lines = rest.lines ∙ append_assoc w.lines more rest.more;
      none = list_any-append q more rest.more
          ∙ ap (λ b. b || list_any q rest.more) (replies-fail q (kind_at u.orders s) (node_of s) (replies_in u.trace s) h) ∙ rest.none;
      over = rest.over;
    })

went-moves : (limit : ℕ) (q : ReportLine → Bool) (n made : ℕ) (w : Walk) → FailsReplies q → n + made ≡ limit → IsAlone Free w
    → Went limit q w (moves n made w)
went-moves limit q zero made w h count g =
    let same : (made == limit) ≡ true = grind (arith, nat_tests, count) in
    subst (Went limit q w) (sym (moves-over made w))
    (record {
      more = [];
      lines = sym (append-nil w.lines);
      none = refl;
      over = λ quiet. picked-none Fifo w.trace.world g.once (ap (λ b. b && has_event w) (sym same) ∙ quiet);
    })
went-moves limit q (suc n) made w h count g =
    subst (Went limit q w) (sym (moves-suc n made w))
    (went-pick limit q n made w (picked_in w) h refl (picked-no-stop Free w) g
    (λ x k. went-moves limit q n (made + 1) x h (omega (arith, count)) k))

-- the line itself
quiet-if : (limit : ℕ) (q : ReportLine → Bool) (w : Walk) (m : Moved) (loud : Bool) → q report.Loud ≡ false → (m.events == limit && has_event m.walk) ≡ loud
    → Went limit q w m
    → list_any q (drop (length w.lines) (if loud then says m.walk report.Loud else says m.walk (report.Quiet m.events)).lines) ≡ true
    → Quiet (if loud then says m.walk report.Loud else says m.walk (report.Quiet m.events)).trace.world
quiet-if limit q w m true silent e g printed =
    let end : List ReportLine = report.Loud ∷ [] in
    let lines : m.walk.lines ++ end ≡ w.lines ++ (g.more ++ end) =
    ap (λ (l : List ReportLine). l ++ end) g.lines ∙ append_assoc w.lines g.more end in
    let own : drop (length w.lines) (m.walk.lines ++ end) ≡ g.more ++ end =
    ap (drop (length w.lines)) lines ∙ drop-append_seam w.lines (g.more ++ end) in
    let none : list_any q (g.more ++ end) ≡ false =
    list_any-append q g.more end ∙ ap (λ b. b || list_any q end) g.none ∙ ap (λ b. b || false) silent in
    absurd (both_ways (list_any q (g.more ++ end)) none (ap (list_any q) (sym own) ∙ printed))
quiet-if limit q w m false silent e g printed = events-none m.walk.trace.world (g.over e)

quiet-line : (limit : ℕ) (q : ReportLine → Bool) (w : Walk) → FailsReplies q → q report.Loud ≡ false → IsAlone Free w
    → list_any q (drop (length w.lines) (line_done limit w line.Quiet).lines) ≡ true → Quiet (line_done limit w line.Quiet).trace.world
quiet-line limit q w h silent g printed =
    let m = moves limit 0 w in
    quiet-if limit q w m (m.events == limit && has_event m.walk) silent refl (went-moves limit q limit 0 w h (omega arith) g) printed

-- the line of a script at a place
pub one-line : (limit : ℕ) (w : Walk) (ls : List Line) (n : ℕ) (l : Line) → slice_get ls n ≡ Some l
    → lines_done limit w (take (n + 1) ls) ≡ line_done limit (lines_done limit w (take n ls)) l
one-line limit w [] n l e = absurd (cc)
one-line limit w (x ∷ ls) zero l e = let same : x ≡ l = cc in ap (line_done limit w) same
one-line limit w (x ∷ ls) (suc n) l e =
    let more : suc n + 1 ≡ suc (n + 1) = omega arith in
    rw more (one-line limit (line_done limit w x) ls n l e)

-- where a test that neither an answer nor `loud` passes finds a line of what a line `quiet` printed, the world behind this line is quiet
pub quiet-world : (limit : ℕ) (q : ReportLine → Bool) (script : ScriptOf) (n : ℕ) → FailsReplies q → q report.Loud ≡ false
    → slice_get script.lines n ≡ Some line.Quiet
    → list_any q (drop (length (lines_done limit (first_walk script None) (take n script.lines)).lines)
    (lines_done limit (first_walk script None) (take (n + 1) script.lines)).lines) ≡ true
    → Quiet (lines_done limit (first_walk script None) (take (n + 1) script.lines)).trace.world
quiet-world limit q script n h silent at printed =
    let first = first_walk script None in
    let w = lines_done limit first (take n script.lines) in
    let is = one-line limit first script.lines n line.Quiet at in
    let alone = alone-lines Free limit first (take n script.lines) (no-claim (take n script.lines)) (alone-first Free script) in
    subst (λ (v : Walk). Quiet v.trace.world) (sym is)
    (quiet-line limit q w h silent alone (subst (λ (v : Walk). list_any q (drop (length w.lines) v.lines) ≡ true) is printed))
