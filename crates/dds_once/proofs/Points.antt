use Rattle.std.proofs.Common.{◌≡◌, ℕ, Option, Some, None, List, [], ◌∷◌, refl}
use Rattle.std.specs.List.{AllByRecursion}
use Rattle.dds_outcomes.proofs.PointRows.{PointHas}
use Rattle.dds_base.specs.Number.{Txn}
use Rattle.dds_base.specs.declared.op.Op.TheVariants as op
use Rattle.dds_books.specs.Books.{Book, Entry, IsWithin, LetterListed}
use Rattle.dds_cluster.specs.Turn.{points_made, read_by}
use Rattle.dds_cluster.specs.declared.trace.Made.{Made}
use Rattle.dds_core.proofs.Lists.{all-append}
use Rattle.dds_letters.specs.declared.letter.Letter.{Letter}
use Rattle.dds_letters.specs.declared.letter.Letter.TheVariants as letter
use Rattle.dds_outcomes.proofs.Entries.{PendingIs}
use Rattle.dds_states.specs.declared.turn.Point.{Point}
use Rattle.dds_states.specs.declared.turn.Point.TheVariants as point

-- A point is of a call that an attempt in the book asked, with its operation.

pub record HasEntry (a : Book) (m : Made) : Type 0 where
  pub txn : Txn
  pub its : Entry
  pub there : a txn ≡ Some its
  pub caller_is : its.caller ≡ m.entry.caller
  pub call_is : its.call ≡ m.entry.call
  pub op_is : its.op ≡ m.entry.op

pub has-later : (a c : Book) (m : Made) → IsWithin a c → HasEntry a m → HasEntry c m
has-later a c m w h =
    record { txn = h.txn; its = h.its; there = w h.txn h.its h.there; caller_is = h.caller_is; call_is = h.call_is; op_is = h.op_is }

-- and it stands at the place of the step
abbrev pub IsMade : Book → ℕ → Made → Type 0
IsMade a place m = HasEntry a m × (m.place ≡ place)

reads-have : (a : Book) (place : ℕ) (txn : Txn) (value : Option (List ℕ)) (from to : ℕ) (l : Letter) → LetterListed a from to l
    → AllByRecursion (IsMade a place) (read_by place txn value l)
reads-have a place txn value from to (letter.Get asked caller call key name stamp) h = (
  (
    record {
      txn = asked;
      its = record { caller = caller; call = call; op = op.Get key; list = None };
      there = h;
      caller_is = refl;
      call_is = refl;
      op_is = refl;
    },
    refl,
  ),
  tt,
)
reads-have a place txn value from to other h = tt

pub made-have : (a : Book) (place from to : ℕ) (l : Letter) (ps : List Point) → LetterListed a from to l → AllByRecursion (PointHas (PendingIs a)) ps
    → AllByRecursion (IsMade a place) (points_made place l ps)
made-have a place from to l [] h g = tt
made-have a place from to l (point.Read txn value ∷ ps) h g =
    all-append (IsMade a place) (read_by place txn value l) (points_made place l ps) (reads-have a place txn value from to l h)
    (made-have a place from to l ps h g.1)
made-have a place from to l (point.Applied p was ∷ ps) h g = (
  (
    record {
      txn = p.txn;
      its = record { caller = p.caller; call = p.call; op = p.op; list = Some p.list };
      there = g.0;
      caller_is = refl;
      call_is = refl;
      op_is = refl;
    },
    refl,
  ),
  made-have a place from to l ps h g.1,
)
