use Rattle.std.proofs.Common.{◌≡◌, ℕ, ◌++◌, true, false, not, ◌&&◌, Bool, Option, Some, None, List, [], ◌∷◌, refl, sym, ap, ◌∙◌}
use Rattle.std.proofs.lemmas.Bool.{both_ways}
use Rattle.std.specs.FinMap.{get}
use Rattle.std.specs.List.{AllByRecursion}
use Rattle.std.specs.Prelude.{if◌then◌else◌}
use Rattle.dds_outcomes.proofs.PointRows.{PointHas, turn-points}
use Rattle.dds_base.specs.Number.{Txn}
use Rattle.dds_base.specs.Op.{is_get}
use Rattle.dds_base.specs.declared.number.NodeNo.{NodeNo}
use Rattle.dds_brick_rows.specs.Calls as calls
use Rattle.dds_brick_rows.specs.Refusal.{get_refusal}
use Rattle.dds_cluster.specs.Trace.{all_kept, is_applied, kept}
use Rattle.dds_cluster.specs.Turn.{points_made, read_by}
use Rattle.dds_cluster.specs.declared.trace.Made.{Made}
use Rattle.dds_core.proofs.Lists.{all-append}
use Rattle.dds_core.specs.Brick.{live_brick_turn}
use Rattle.dds_letters.specs.declared.letter.Letter.{Letter}
use Rattle.dds_letters.specs.declared.letter.Letter.TheVariants as letter
use Rattle.dds_letters.specs.declared.refusal.Refusal.{Refusal}
use Rattle.dds_net.proofs.Pairwise.{Pairwise}
use Rattle.dds_outcomes.proofs.PendingRows.{AllPending}
use Rattle.dds_outcomes.proofs.Points.{kept-all}
use Rattle.dds_states.specs.declared.brick_state.BrickState.{BrickState}
use Rattle.dds_states.specs.declared.turn.Point.{Point}
use Rattle.dds_states.specs.declared.turn.Point.TheVariants as point
use Rattle.dds_answered.proofs.Backed.{IsUpdate}
use Rattle.dds_answered.proofs.Sent.{get_of}

-- A brick's turn reads once at most, for the attempt of the Get that it takes.

-- two points that aren't both reads of one attempt
abbrev pub OtherRead : Made → Made → Type 0
OtherRead m n = is_get m.entry.op ≡ true → is_get n.entry.op ≡ true → m.txn ≡ n.txn → ⊥

abbrev pub ReadBy : Letter → Made → Type 0
ReadBy l m = is_get m.entry.op ≡ true → get_of l ≡ Some m.txn

-- the points of a turn before they are those of the run
abbrev ReadsFor : Letter → Point → Type 0
ReadsFor l (point.Read txn value) = (t : Txn) → get_of l ≡ Some t → txn ≡ t
ReadsFor l (point.Applied p was) = Unit {0}

got-reads : (s : BrickState) (from : NodeNo) (l : Letter) (txn : Txn) (key : ℕ) (o : Option Refusal) → get_of l ≡ Some txn
    → AllByRecursion (ReadsFor l) (calls.got s from txn key o).out.points
got-reads s from l txn key None e = (λ t f. let same : Some txn ≡ Some t = sym e ∙ f in cc, tt)
got-reads s from l txn key (Some why) e = tt

no-gets : (l : Letter) (ps : List Point) → get_of l ≡ None → AllByRecursion (ReadsFor l) ps
no-gets l [] e = tt
no-gets l (point.Read txn value ∷ ps) e = (λ t f. let no : None ≡ Some t = sym e ∙ f in cc, no-gets l ps e)
no-gets l (point.Applied p was ∷ ps) e = (tt, no-gets l ps e)

turn-reads : (s : BrickState) (from : NodeNo) (l : Letter) → AllByRecursion (ReadsFor l) (live_brick_turn s from l).out.points
turn-reads s from (letter.Get txn caller call key name stamp) =
    got-reads s from (letter.Get txn caller call key name stamp) txn key (get_refusal s key name stamp) refl
turn-reads s from other = no-gets other (live_brick_turn s from other).out.points refl

-- those of the run

read-for : (place : ℕ) (txn : Txn) (value : Option (List ℕ)) (l : Letter) → ReadsFor l (point.Read txn value)
    → AllByRecursion (ReadBy l) (read_by place txn value l)
read-for place txn value (letter.Get asked caller call key name stamp) h = (λ g. ap Some (sym (h asked refl)), tt)
read-for place txn value other h = tt

points-for : (place : ℕ) (l : Letter) (ps : List Point) → AllByRecursion (ReadsFor l) ps → AllByRecursion (PointHas IsUpdate) ps
    → AllByRecursion (ReadBy l) (points_made place l ps)
points-for place l [] h k = tt
points-for place l (point.Read txn value ∷ ps) h k =
    all-append (ReadBy l) (read_by place txn value l) (points_made place l ps) (read-for place txn value l h.0) (points-for place l ps h.1 k.1)
points-for place l (point.Applied p was ∷ ps) h k = (λ g. absurd (both_ways (is_get p.op) k.0 g), points-for place l ps h.1 k.1)

pub points-read : (place : ℕ) (s : BrickState) (from : NodeNo) (l : Letter) → AllPending IsUpdate s
    → AllByRecursion (ReadBy l) (points_made place l (live_brick_turn s from l).out.points)
points-read place s from l h = points-for place l (live_brick_turn s from l).out.points (turn-reads s from l) (turn-points IsUpdate s from l h)

-- one at most

read-once : (place : ℕ) (txn : Txn) (value : Option (List ℕ)) (l : Letter) → Pairwise OtherRead (read_by place txn value l ++ [])
read-once place txn value (letter.Get asked caller call key name stamp) = (tt, tt)
read-once place txn value other = tt

got-once : (place : ℕ) (s : BrickState) (from : NodeNo) (l : Letter) (txn : Txn) (key : ℕ) (o : Option Refusal)
    → Pairwise OtherRead (points_made place l (calls.got s from txn key o).out.points)
got-once place s from l txn key None = read-once place txn (get s.pairs key) l
got-once place s from l txn key (Some why) = tt

none-read : (l : Letter) (ms : List Made) → get_of l ≡ None → AllByRecursion (ReadBy l) ms → Pairwise OtherRead ms
none-read l [] e h = tt
none-read l (m ∷ ms) e h = (each ms, none-read l ms e h.1)
  where
    each : (ns : List Made) → AllByRecursion (OtherRead m) ns
    each [] = tt
    each (n ∷ ns) = (λ g k same. let no : None ≡ Some m.txn = sym e ∙ h.0 g in cc, each ns)

pub points-once : (place : ℕ) (s : BrickState) (from : NodeNo) (l : Letter) → AllPending IsUpdate s
    → Pairwise OtherRead (points_made place l (live_brick_turn s from l).out.points)
points-once place s from (letter.Get txn caller call key name stamp) h =
    got-once place s from (letter.Get txn caller call key name stamp) txn key (get_refusal s key name stamp)
points-once place s from other h =
    none-read other (points_made place other (live_brick_turn s from other).out.points) refl (points-read place s from other h)

-- of those the ones that are kept
kept-if : (R : Made → Made → Type 0) (c : Bool) (m : Made) (ms : List Made) → AllByRecursion (R m) ms → Pairwise R ms
    → Pairwise R ((if c then [] else m ∷ []) ++ ms)
kept-if R true m ms h k = k
kept-if R false m ms h k = (h, k)

pub kept-pairs : (R : Made → Made → Type 0) (made ms : List Made) → Pairwise R ms → Pairwise R (all_kept made ms)
kept-pairs R made [] h = tt
kept-pairs R made (m ∷ ms) h =
    kept-if R (not (is_get m.entry.op) && is_applied made m.txn) m (all_kept (made ++ kept made m) ms)
    (kept-all (R m) (made ++ kept made m) ms h.0) (kept-pairs R (made ++ kept made m) ms h.1)
