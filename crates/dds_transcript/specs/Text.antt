-- The text of the transcript.
use Rattle.std.specs.Prelude.{ℕ, ◌++◌, List, [], ◌∷◌, codes, if◌then◌else◌}
use Rattle.std.specs.Fmt.{decimal}
use Rattle.std.specs.List.{flat_map}
use Rattle.dds_base.specs.Name.{Name}
use Rattle.dds_base.specs.declared.number.CallNo.{CallNo}
use Rattle.dds_base.specs.declared.op.Met.{Met}
use Rattle.dds_base.specs.declared.op.Met.TheVariants as met
use Rattle.dds_base.specs.declared.op.OrderReply.{OrderReply}
use Rattle.dds_base.specs.declared.op.OrderReply.TheVariants as order
use Rattle.dds_base.specs.declared.op.Reply.{Reply}
use Rattle.dds_base.specs.declared.op.Reply.TheVariants as reply
use Rattle.dds_script.specs.Text.{brick_text, list_text, name_text}
use Rattle.dds_script.specs.Words.{value_text}
use Rattle.dds_transcript.specs.declared.report_line.Counted.{Counted}
use Rattle.dds_transcript.specs.declared.report_line.Counted.TheVariants as counted
use Rattle.dds_transcript.specs.declared.report_line.OrderKind.{OrderKind}
use Rattle.dds_transcript.specs.declared.report_line.OrderKind.TheVariants as kind
use Rattle.dds_transcript.specs.declared.report_line.ReportLine.{ReportLine}
use Rattle.dds_transcript.specs.declared.report_line.ReportLine.TheVariants as line

-- a call: its caller, `.` and its number
abbrev pub call_text : ℕ → CallNo → List ℕ
call_text caller call = decimal caller ++ (codes "." ++ decimal call.0)

-- what a call or an order met
abbrev pub met_text : Met → List ℕ
met_text (met.Lease brick) = codes "lease " ++ brick_text brick
met_text (met.Lock brick) = codes "lock " ++ brick_text brick
met_text (met.Stale brick) = codes "stale " ++ brick_text brick
met_text (met.Stopped brick) = codes "stopped " ++ brick_text brick

-- a call's answer
abbrev pub reply_text : Reply → List ℕ
reply_text (reply.Value value) = codes "value " ++ value_text value
reply_text reply.Absent = codes "absent"
reply_text (reply.Done was) = if was then codes "done old" else codes "done new"
reply_text (reply.Swapped done) = if done then codes "swapped yes" else codes "swapped no"
reply_text (reply.Again met) = codes "again " ++ met_text met
reply_text (reply.Full brick) = codes "full " ++ brick_text brick
reply_text (reply.Lost name) = codes "lost " ++ name_text name

-- an order's answer
abbrev pub order_reply_text : OrderReply → List ℕ
order_reply_text order.Done = codes "done"
order_reply_text (order.Refused met) = codes "refused " ++ met_text met
order_reply_text order.GroupFull = codes "groupfull"
order_reply_text order.AlreadyThere = codes "alreadythere"
order_reply_text order.NoSource = codes "nosource"
order_reply_text order.OrderOpen = codes "orderopen"
order_reply_text order.Deepest = codes "deepest"
order_reply_text order.NotServing = codes "notserving"
order_reply_text order.Worn = codes "worn"
order_reply_text order.Stopped = codes "stopped"

-- an order: its kind and its brick
abbrev pub order_text : OrderKind → ℕ → List ℕ
order_text kind.Join brick = codes "join " ++ brick_text brick
order_text kind.Split brick = codes "split " ++ brick_text brick

-- what a summary's line counts
abbrev pub counted_text : Counted → List ℕ
counted_text counted.Calls = codes "calls"
counted_text counted.Done = codes "done"
counted_text counted.Value = codes "value"
counted_text counted.Absent = codes "absent"
counted_text counted.Again = codes "again"
counted_text counted.Full = codes "full"
counted_text counted.Lost = codes "lost"
counted_text counted.Open = codes "open"
counted_text counted.Steps = codes "steps"
counted_text counted.History = codes "history"

-- a leaf of a brick: its name, its epoch, how many pairs it has, and its group
abbrev pub leaf_text : Name → ℕ → ℕ → List ℕ → List ℕ
leaf_text name epoch pairs list =
    codes "leaf " ++ (name_text name
    ++ (codes " epoch " ++ (decimal epoch ++ (codes " pairs " ++ (decimal pairs ++ (codes " list " ++ list_text list))))))

-- a brick that is up, and how many transactions are pending there
abbrev pub up_text : ℕ → ℕ → List ℕ
up_text brick pending = brick_text brick ++ (codes " up pending " ++ decimal pending)

-- a line without its LF
abbrev pub words_text : ReportLine → List ℕ
words_text (line.Answer caller call reply) = call_text caller call ++ (codes " " ++ reply_text reply)
words_text (line.Busy caller call) = call_text caller call ++ codes " busy"
words_text (line.OrderAnswer kind brick reply) = order_text kind brick ++ (codes " " ++ order_reply_text reply)
words_text (line.Quiet events) = codes "quiet " ++ decimal events
words_text line.Loud = codes "loud 1000000"
words_text (line.Events events) = codes "events " ++ decimal events
words_text line.NoPost = codes "post no"
words_text line.NoTake = codes "take no"
words_text (line.BrickStopped brick) = brick_text brick ++ codes " stopped"
words_text (line.BrickUp brick pending) = up_text brick pending
words_text (line.BrickLeaf brick name epoch pairs list) = brick_text brick ++ (codes " " ++ leaf_text name epoch pairs list)
words_text (line.OpenCall caller call) = codes "open " ++ call_text caller call
words_text (line.OpenOrder kind brick) = codes "open " ++ order_text kind brick
words_text (line.History entries) = codes "history " ++ decimal entries
words_text (line.Count what number) = counted_text what ++ (codes " " ++ decimal number)
words_text line.End = codes "end"

-- a line with its LF
abbrev pub line_text : ReportLine → List ℕ
line_text line = words_text line ++ 10 ∷ []

-- all lines, one after another
abbrev pub report_text : List ReportLine → List ℕ
report_text lines = flat_map line_text lines
