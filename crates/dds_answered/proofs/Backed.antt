use Rattle.std.proofs.Common.{◌≡◌, ℕ, inl, inr, true, false, List, [], ◌∷◌, ◌++◌, Option, Some, None, refl, ap, ◌∙◌}
use Rattle.std.proofs.lemmas.Bool.{both_ways}
use Rattle.std.specs.FinMap.{get}
use Rattle.std.specs.List.{AllByRecursion}
use Rattle.dds_outcomes.proofs.PointRows.{PointHas, turn-points}
use Rattle.dds_base.specs.Name.{Name}
use Rattle.dds_base.specs.Number.{Txn, StampOf}
use Rattle.dds_base.specs.Op.{is_get}
use Rattle.dds_base.specs.declared.number.CallNo.{CallNo}
use Rattle.dds_base.specs.declared.number.NodeNo.{NodeNo}
use Rattle.dds_base.specs.declared.op.Op.TheVariants as op
use Rattle.dds_base.specs.declared.op.Reply.TheVariants as reply
use Rattle.dds_base.specs.declared.pending.Pending.{Pending}
use Rattle.dds_brick_rows.specs.Calls as calls
use Rattle.dds_brick_rows.specs.Calls.{answer_of}
use Rattle.dds_brick_rows.specs.Refusal.{get_refusal, update_denial}
use Rattle.dds_brick_rows.specs.declared.resolution.News.TheVariants as news
use Rattle.dds_cluster.specs.Trace.{all_kept}
use Rattle.dds_cluster.specs.Turn.{points_made, update_by}
use Rattle.dds_cluster.specs.declared.trace.Made.{Made}
use Rattle.dds_core.proofs.LetterTells.{letter-rests}
use Rattle.dds_core.proofs.Lists.{all-map}
use Rattle.dds_core.specs.Brick.{live_brick_turn}
use Rattle.dds_history.specs.Map.{found}
use Rattle.dds_letters.specs.declared.letter.Letter.{Letter}
use Rattle.dds_letters.specs.declared.letter.Letter.TheVariants as letter
use Rattle.dds_letters.specs.declared.refusal.Answer.{Answer}
use Rattle.dds_letters.specs.declared.refusal.Answer.TheVariants as answer
use Rattle.dds_letters.specs.declared.refusal.Denial.{Denial}
use Rattle.dds_letters.specs.declared.refusal.Refusal.{Refusal}
use Rattle.dds_locks.specs.Pending.{first_of}
use Rattle.dds_outcomes.proofs.PendingRows.{AllPending}
use Rattle.dds_states.specs.declared.brick_state.BrickState.{BrickState}
use Rattle.dds_answered.proofs.Having.{Has, Instead, IsReadOf, IsUpdateOf, has-later, has-map, kept-in}
use Rattle.dds_answered.proofs.Silent.{AllSilent, IsSilent, hear-silent, help-silent, notice-silent, orders-silent, outcome-silent, query-silent}

-- A letter that says what a get read, or that an update was applied, is sent in a turn that makes the point.

abbrev pub AnswerBacked : List Made → Txn → Answer → Type 0
AnswerBacked made txn answer.Absent = Has made (IsReadOf txn reply.Absent)
AnswerBacked made txn (answer.Value value) = Has made (IsReadOf txn (reply.Value value))
AnswerBacked made txn (answer.Refused why) = Unit {0}

abbrev pub IsBacked : List Made → Letter → Type 0
IsBacked made (letter.Got txn a) = AnswerBacked made txn a
IsBacked made (letter.Applied txn was) = Has made (IsUpdateOf txn)
IsBacked made other = Unit {0}

abbrev pub AllBacked : List Made → List (NodeNo × Letter) → Type 0
AllBacked made ls = AllByRecursion (λ (p : NodeNo × Letter). IsBacked made p.1) ls

answer-later : (made more : List Made) (txn : Txn) (a : Answer) → AnswerBacked made txn a → AnswerBacked (made ++ more) txn a
answer-later made more txn answer.Absent h = has-later made more (IsReadOf txn reply.Absent) h
answer-later made more txn (answer.Value value) h = has-later made more (IsReadOf txn (reply.Value value)) h
answer-later made more txn (answer.Refused why) h = tt

pub backed-later : (made more : List Made) (l : Letter) → IsBacked made l → IsBacked (made ++ more) l
backed-later made more (letter.Got txn a) h = answer-later made more txn a h
backed-later made more (letter.Applied txn was) h = has-later made more (IsUpdateOf txn) h
backed-later made more other h = tt

pub silent-backed : (made : List Made) (l : Letter) → IsSilent l → IsBacked made l
silent-backed made (letter.Got txn a) h = absurd h
silent-backed made (letter.Applied txn was) h = absurd h
silent-backed made other h = tt

pub all-silent-backed : (made : List Made) (ls : List (NodeNo × Letter)) → AllSilent ls → AllBacked made ls
all-silent-backed made ls h = all-map (λ (p : NodeNo × Letter). IsSilent p.1) _ ls (λ p k. silent-backed made p.1 k) h

-- a get's turn
abbrev the_read : ℕ → Txn → ℕ → CallNo → ℕ → Option (List ℕ) → Made
the_read place txn caller call key value =
    record { place = place; txn = txn; entry = record { caller = caller; call = call; op = op.Get key; reply = found value } }

read-is : (m x : Made) → is_get m.entry.op ≡ true → Instead m x → IsReadOf m.txn m.entry.reply x
read-is m x g (inl e) = (ap (λ (y : Made). y.txn) e, ap (λ (y : Made). is_get y.entry.op) e ∙ g, ap (λ (y : Made). y.entry.reply) e)
read-is m x g (inr h) = absurd (both_ways (is_get m.entry.op) h.0 g)

read-there : (made : List Made) (m : Made) → is_get m.entry.op ≡ true → Has (made ++ all_kept made (m ∷ [])) (IsReadOf m.txn m.entry.reply)
read-there made m g =
    has-map (made ++ all_kept made (m ∷ [])) (Instead m) (IsReadOf m.txn m.entry.reply) (λ x i. read-is m x g i) (kept-in made (m ∷ []) 0 m refl)

found-backed : (made : List Made) (place : ℕ) (txn : Txn) (caller : ℕ) (call : CallNo) (key : ℕ) (value : Option (List ℕ))
    → AnswerBacked (made ++ all_kept made (the_read place txn caller call key value ∷ [])) txn (answer_of value)
found-backed made place txn caller call key None = read-there made (the_read place txn caller call key None) refl
found-backed made place txn caller call key (Some value) = read-there made (the_read place txn caller call key (Some value)) refl

got-backed : (made : List Made) (place : ℕ) (s : BrickState) (from : NodeNo) (txn : Txn) (caller : ℕ) (call : CallNo) (key : ℕ) (name : Name) (stamp : StampOf)
    (o : Option Refusal)
    → AllBacked (made ++ all_kept made (points_made place (letter.Get txn caller call key name stamp) (calls.got s from txn key o).out.points))
    (calls.got s from txn key o).out.letters
got-backed made place s from txn caller call key name stamp None = (found-backed made place txn caller call key (get s.pairs key), tt)
got-backed made place s from txn caller call key name stamp (Some why) = (tt, tt)

-- an update's turns
abbrev pub IsUpdate : Pending → Type 0
IsUpdate p = is_get p.op ≡ false

update-is : (m x : Made) → is_get m.entry.op ≡ false → Instead m x → IsUpdateOf m.txn x
update-is m x g (inl e) = (ap (λ (y : Made). y.txn) e, ap (λ (y : Made). is_get y.entry.op) e ∙ g)
update-is m x g (inr h) = h.1

update-there : (made : List Made) (m : Made) → is_get m.entry.op ≡ false → Has (made ++ all_kept made (m ∷ [])) (IsUpdateOf m.txn)
update-there made m g =
    has-map (made ++ all_kept made (m ∷ [])) (Instead m) (IsUpdateOf m.txn) (λ x i. update-is m x g i) (kept-in made (m ∷ []) 0 m refl)

commit-backed : (made : List Made) (place : ℕ) (u : BrickState) (from : NodeNo) (x : Txn) (q : Option Pending)
    → AllByRecursion (PointHas IsUpdate) (calls.commit_found u from q).out.points
    → AllBacked (made ++ all_kept made (points_made place (letter.Commit x) (calls.commit_found u from q).out.points))
    (calls.commit_found u from q).out.letters
commit-backed made place u from x None h = tt
commit-backed made place u from x (Some p) h = (update-there made (update_by place (calls.flag_at u p) p) h.0, tt)

voted-silent : (s : BrickState) (from : NodeNo) (p : Pending) (d : Option Denial) → AllSilent (calls.voted s from p d).out.letters
voted-silent s from p None = (tt, tt)
voted-silent s from p (Some d) = (tt, tt)

-- each letter
abbrev pub made_now : List Made → ℕ → BrickState → NodeNo → Letter → List Made
made_now made place s from l = made ++ all_kept made (points_made place l (live_brick_turn s from l).out.points)

pub turn-backed : (made : List Made) (place : ℕ) (s : BrickState) (from : NodeNo) (l : Letter) → AllPending IsUpdate s
    → AllBacked (made_now made place s from l) (live_brick_turn s from l).out.letters
turn-backed made place s from (letter.Get txn caller call key name stamp) h =
    got-backed made place s from txn caller call key name stamp (get_refusal s key name stamp)
turn-backed made place s from (letter.Commit txn) h =
    commit-backed made place (calls.dropped s txn) from txn (first_of s.locks.pending txn) (turn-points IsUpdate s from (letter.Commit txn) h)
turn-backed made place s from (letter.Prepare txn caller call below name stamp list o) h =
    all-silent-backed (made_now made place s from (letter.Prepare txn caller call below name stamp list o)) _
    (voted-silent (calls.trim s txn.library below) from _ (update_denial (calls.trim s txn.library below) o name stamp))
turn-backed made place s from (letter.Abort txn) h = (tt, tt)
turn-backed made place s from (letter.MapAsk txn caller call key) h = (tt, tt)
turn-backed made place s from (letter.Got txn a) h = tt
turn-backed made place s from (letter.Vote txn vote) h = tt
turn-backed made place s from (letter.Applied txn was) h = tt
turn-backed made place s from (letter.Aborted txn) h = tt
turn-backed made place s from (letter.MapTell txn leaf) h = tt
turn-backed made place s from (letter.Help txn list) h =
    all-silent-backed (made_now made place s from (letter.Help txn list)) _ (help-silent s from txn list).letters
turn-backed made place s from (letter.Query txn list) h =
    all-silent-backed (made_now made place s from (letter.Query txn list)) _ (query-silent s from txn list).letters
turn-backed made place s from (letter.Status txn st) h =
    all-silent-backed (made_now made place s from (letter.Status txn st)) _ (hear-silent s from (news.Told txn st)).letters
turn-backed made place s from (letter.Outcome txn c) h =
    all-silent-backed (made_now made place s from (letter.Outcome txn c)) _ (outcome-silent s txn c).letters
turn-backed made place s from letter.Notice h = all-silent-backed (made_now made place s from letter.Notice) _ (notice-silent s from).letters
turn-backed made place s from other h =
    all-silent-backed (made_now made place s from other) (live_brick_turn s from other).out.letters
    (orders-silent (live_brick_turn s from other).out.letters (letter-rests s from from other tt).letters)
