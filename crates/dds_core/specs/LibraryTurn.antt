-- What a library does: a call is opened, and one definition for each letter.
use Rattle.std.specs.Prelude.{ℕ, ◌+◌, ◌-◌, ◌^◌, ◌==◌, Bool, false, List, [], ◌∷◌, ◌++◌, Option, Some, None, map, min, position, slice_get, option_to_list}
use Rattle.std.specs.Prelude.{if◌then◌else◌}
use Rattle.std.specs.List.{remove, insert}
use Rattle.dds_base.specs.NodeSet.{with_node}
use Rattle.dds_base.specs.Number.{Txn, same_txn}
use Rattle.dds_base.specs.declared.number.CallNo.{CallNo}
use Rattle.dds_base.specs.declared.number.NodeNo.{NodeNo}
use Rattle.dds_base.specs.declared.op.Op.{Op}
use Rattle.dds_base.specs.declared.op.Reply.{Reply}
use Rattle.dds_letters.specs.declared.letter.Letter.{Letter}
use Rattle.dds_letters.specs.declared.letter.Letter.TheVariants as letter
use Rattle.dds_states.specs.Turn.{LibraryTurn, no_out, both, letters_out, read_of}
use Rattle.dds_call_rows.specs.Library.{CallTurn, stays, begin, got_in, vote_in, applied_in, aborted_in, told_in, notice_in}
use Rattle.dds_states.specs.declared.library_state.Desk.{Desk}
use Rattle.dds_states.specs.declared.library_state.LibraryState.{LibraryState}
use Rattle.dds_states.specs.declared.library_state.OpenCall.{OpenCall}
use Rattle.dds_states.specs.declared.library_state.Request.{Request}
use Rattle.dds_states.specs.declared.library_state.Went.{Went}
use Rattle.dds_states.specs.declared.turn.CoreTurn.{CoreTurn}
use Rattle.dds_states.specs.declared.turn.Replied.{Replied}
use Rattle.dds_states.specs.declared.turn.Replied.TheVariants.{Call}

-- a turn that changes nothing but the state
abbrev pub keeps : LibraryState → LibraryTurn
keeps s = record { state = s; out = no_out }

-- the least of a number and of open calls' attempt numbers
abbrev pub least_of : ℕ → List OpenCall → ℕ
least_of n [] = n
least_of n (c ∷ cs) = least_of (min n c.txn.number) cs

-- the least attempt number of open calls, 2^64 - 1 where there are none
abbrev pub least_attempt : List OpenCall → ℕ
least_attempt cs = least_of (2 ^ 64 - 1) cs

-- what a call works with beside these other open calls
abbrev pub desk_of : LibraryState → List OpenCall → Desk
desk_of s others =
    record {
      map = s.map;
      known = s.known;
      numbers = record { library = s.number; bricks = s.bricks; next = s.next; below = least_attempt others };
    }

-- the library after one call's turn, with these open calls
abbrev pub after_turn : LibraryState → Desk → List OpenCall → LibraryState
after_turn s d calls = record s { map = d.map; next = d.numbers.next; calls = calls }

-- the answer of a call, which this attempt gave
abbrev pub replies_of : ℕ → CallNo → Txn → Option Reply → List Replied
replies_of caller call txn None = []
replies_of caller call txn (Some reply) = Call (read_of txn reply) caller call reply ∷ []

-- what one call's turn gives
abbrev pub given : Went → Request → Txn → CoreTurn
given w r txn = record { letters = w.letters; points = []; replies = replies_of r.caller r.call txn w.reply }

-- a new call
abbrev pub new_request : ℕ → CallNo → Op → Request
new_request caller call o = record { caller = caller; call = call; op = o; retries = 0; pushed = false }

-- a call is opened and begins; at a stopped library nothing is done
abbrev pub input_turn : LibraryState → Request → CallTurn → LibraryTurn
input_turn s r t =
    record {
      state = after_turn s t.desk (s.calls ++ option_to_list t.went.call);
      out = given t.went r (record { library = s.number; number = s.next });
    }

abbrev pub library_input : LibraryState → ℕ → CallNo → Op → LibraryTurn
library_input s caller call o =
    if s.stopped then keeps s
    else input_turn s (new_request caller call o) (begin (desk_of s s.calls) (new_request caller call o))

-- what a letter does to one open call; those to bricks do nothing
abbrev pub call_row : Desk → OpenCall → NodeNo → Letter → CallTurn
call_row d c from (letter.Got txn a) = got_in d c from a c.phase
call_row d c from (letter.Vote txn vote) = vote_in d c from vote c.phase
call_row d c from (letter.Applied txn was) = applied_in d c from was c.phase
call_row d c from (letter.Aborted txn) = aborted_in d c from c.phase
call_row d c from (letter.MapTell txn leaf) = told_in d c from leaf c.phase
call_row d c from letter.Notice = notice_in d c from
call_row d c from (letter.Get txn caller call key name stamp) = stays d [] c
call_row d c from (letter.Prepare txn caller call below name stamp list op) = stays d [] c
call_row d c from (letter.Commit txn) = stays d [] c
call_row d c from (letter.Abort txn) = stays d [] c
call_row d c from (letter.Push leaf) = stays d [] c
call_row d c from (letter.MapAsk txn caller call key) = stays d [] c
call_row d c from (letter.Help txn list) = stays d [] c
call_row d c from (letter.Query txn list) = stays d [] c
call_row d c from (letter.Status txn status) = stays d [] c
call_row d c from (letter.Outcome txn commit) = stays d [] c
call_row d c from (letter.Lease number what) = stays d [] c
call_row d c from (letter.Granted number leaf) = stays d [] c
call_row d c from (letter.LeaseRefused number refusal) = stays d [] c
call_row d c from (letter.Release number name) = stays d [] c
call_row d c from (letter.CopyAsk number name after) = stays d [] c
call_row d c from (letter.CopyPart number last pairs) = stays d [] c
call_row d c from (letter.Install number leaf) = stays d [] c
call_row d c from (letter.Installed number name) = stays d [] c

-- the calls with the one at a place after its turn
abbrev pub put_back : List OpenCall → ℕ → Option OpenCall → List OpenCall
put_back others place None = others
put_back others place (Some c) = insert others place c

abbrev pub call_turn : LibraryState → ℕ → OpenCall → CallTurn → LibraryTurn
call_turn s place c t =
    record { state = after_turn s t.desk (put_back s.calls place t.went.call); out = given t.went c.request c.txn }

-- a letter at the open call that was taken out of this place
abbrev pub turn_of : LibraryState → NodeNo → Letter → ℕ → OpenCall → LibraryTurn
turn_of s from l place c = call_turn s place c (call_row (desk_of s s.calls) c from l)

abbrev pub at_call : LibraryState → NodeNo → Letter → ℕ → Option OpenCall → LibraryTurn
at_call s from l place None = keeps s
at_call s from l place (Some c) = turn_of (record s { calls = remove s.calls place }) from l place c

-- a letter at the open call at a place
abbrev pub turn_at : LibraryState → NodeNo → Letter → ℕ → LibraryTurn
turn_at s from l place = at_call s from l place (slice_get s.calls place)

-- the place of the first open call with this attempt
abbrev pub call_place : List OpenCall → Txn → Option ℕ
call_place cs txn = position (λ c. same_txn c.txn txn) cs

abbrev pub at_place : LibraryState → NodeNo → Letter → Option ℕ → LibraryTurn
at_place s from l None = keeps s
at_place s from l (Some place) = turn_at s from l place

-- the attempt that a brick's letter to a library is of
abbrev pub attempt_of : Letter → Option Txn
attempt_of (letter.Got txn a) = Some txn
attempt_of (letter.Vote txn vote) = Some txn
attempt_of (letter.Applied txn was) = Some txn
attempt_of (letter.Aborted txn) = Some txn
attempt_of (letter.MapTell txn leaf) = Some txn
attempt_of (letter.Get txn caller call key name stamp) = None
attempt_of (letter.Prepare txn caller call below name stamp list op) = None
attempt_of (letter.Commit txn) = None
attempt_of (letter.Abort txn) = None
attempt_of (letter.Push leaf) = None
attempt_of (letter.MapAsk txn caller call key) = None
attempt_of (letter.Help txn list) = None
attempt_of (letter.Query txn list) = None
attempt_of (letter.Status txn status) = None
attempt_of (letter.Outcome txn commit) = None
attempt_of (letter.Lease number what) = None
attempt_of (letter.Granted number leaf) = None
attempt_of (letter.LeaseRefused number refusal) = None
attempt_of (letter.Release number name) = None
attempt_of (letter.CopyAsk number name after) = None
attempt_of (letter.CopyPart number last pairs) = None
attempt_of (letter.Install number leaf) = None
attempt_of (letter.Installed number name) = None
attempt_of letter.Notice = None

-- a letter of an attempt does something only to the open call that has this attempt
abbrev pub at_attempt : LibraryState → NodeNo → Letter → Option Txn → LibraryTurn
at_attempt s from l None = keeps s
at_attempt s from l (Some txn) = at_place s from l (call_place s.calls txn)

-- the open calls with these attempts go on without the node, in order
abbrev pub notice_calls : LibraryState → NodeNo → List Txn → LibraryTurn
notice_calls s y [] = keeps s
notice_calls s y (txn ∷ txns) =
    let t = at_attempt s y letter.Notice (Some txn) in
    let u = notice_calls t.state y txns in
    record { state = u.state; out = both t.out u.out }

-- the attempts of open calls
abbrev pub attempts : List OpenCall → List Txn
attempts cs = map (λ c. c.txn) cs

-- the library that knows the node
abbrev pub learns : LibraryState → NodeNo → LibraryState
learns s y = record s { known = with_node s.known y }

-- Notice: the node is known, and each open call goes on without it, in order
abbrev pub notice_turn : LibraryState → NodeNo → LibraryTurn
notice_turn s y = notice_calls (learns s y) y (attempts s.calls)

-- what a letter does at a live library; letters to bricks do nothing
abbrev pub live_library_turn : LibraryState → NodeNo → Letter → LibraryTurn
live_library_turn s from letter.Notice = notice_turn s from
live_library_turn s from other = at_attempt s from other (attempt_of other)

-- what a letter does at a library: nothing at a stopped one
abbrev pub library_turn : LibraryState → NodeNo → Letter → LibraryTurn
library_turn s from l = if s.stopped then keeps s else live_library_turn s from l
