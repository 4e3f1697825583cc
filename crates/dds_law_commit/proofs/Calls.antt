use Rattle.std.proofs.Common.{◌≡◌, Bool, true, false, List, [], ◌∷◌, Option, Some, None, refl}
use Rattle.std.specs.List.{AllByRecursion}
use Rattle.dds_answered.proofs.Runs.{answered-calls-stand}
use Rattle.dds_base.specs.Op.{is_get}
use Rattle.dds_calls.proofs.Entries.{entries-are-calls}
use Rattle.dds_calls.proofs.Gets.{gets-stand-answered}
use Rattle.dds_cluster.specs.Trace.{run_of}
use Rattle.dds_cluster.specs.declared.trace.Asked.{Asked}
use Rattle.dds_cluster.specs.declared.trace.Made.{Made}
use Rattle.dds_cluster.specs.declared.trace.Told.{Told}
use Rattle.dds_law_commit.specs.Calls.{CallsAreKept}
use Rattle.dds_once.proofs.Never.{refused-updates-stand-never}
use Rattle.dds_once.proofs.Runs.{updates-stand-once}
use Rattle.dds_once.specs.Law.{UpdateNever, UpdateOnce}
use Rattle.dds_world.specs.Stands.{AtMostOneAfter, RefusedNever, UnansweredOnceOrNever, UnansweredOnceOrNeverBy, answer_to, entries_of, placed_history}

-- Gets and updates together.

unanswered-by : (entries : List Made) (a : Asked) (t : Option Told) → AtMostOneAfter a.place (entries_of entries a) → UnansweredOnceOrNeverBy entries a t
unanswered-by entries a None h = λ update. h
unanswered-by entries a (Some told) h = λ other. h

abbrev OfGet : List Told → List Made → Asked → Type 0
OfGet told entries a = is_get a.op ≡ true → RefusedNever told entries a × UnansweredOnceOrNever told entries a

call-kept : (told : List Told) (entries : List Made) (a : Asked) (get : Bool) → is_get a.op ≡ get → OfGet told entries a → UpdateOnce entries a
    → UpdateNever told entries a → RefusedNever told entries a × UnansweredOnceOrNever told entries a
call-kept told entries a true is gets once never = gets is
call-kept told entries a false is gets once never = (never is, unanswered-by entries a (answer_to told a.caller a.call) (once is))

all-refused : (told : List Told) (entries : List Made) (calls : List Asked) → AllByRecursion (OfGet told entries) calls
    → AllByRecursion (UpdateOnce entries) calls → AllByRecursion (UpdateNever told entries) calls → AllByRecursion (RefusedNever told entries) calls
all-refused told entries [] gets once never = tt
all-refused told entries (a ∷ rest) gets once never =
    ((call-kept told entries a (is_get a.op) refl gets.0 once.0 never.0).0, all-refused told entries rest gets.1 once.1 never.1)

all-unanswered : (told : List Told) (entries : List Made) (calls : List Asked) → AllByRecursion (OfGet told entries) calls
    → AllByRecursion (UpdateOnce entries) calls → AllByRecursion (UpdateNever told entries) calls
    → AllByRecursion (UnansweredOnceOrNever told entries) calls
all-unanswered told entries [] gets once never = tt
all-unanswered told entries (a ∷ rest) gets once never =
    ((call-kept told entries a (is_get a.op) refl gets.0 once.0 never.0).1, all-unanswered told entries rest gets.1 once.1 never.1)

pub calls-are-kept : CallsAreKept
calls-are-kept o journal h run =
    let t = run_of o journal in
    let gets = gets-stand-answered o journal h run in
    let once = updates-stand-once o journal h run in
    let never = refused-updates-stand-never o journal h run in
    record {
      answered_once = answered-calls-stand o journal h run;
      refused_never = all-refused t.told (placed_history t) t.asked gets once never;
      unanswered_once_or_never = all-unanswered t.told (placed_history t) t.asked gets once never;
      entries_are_calls = entries-are-calls o journal h.ranges run;
    }
