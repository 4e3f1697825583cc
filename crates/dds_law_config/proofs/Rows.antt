use Rattle.std.proofs.Common.{◌≡◌, Bool, true, false, Option, Some, None, List, [], refl, sym, ap, subst}
use Rattle.std.proofs.lemmas.Bool.{both_ways}
use Rattle.dds_answered.proofs.Results.{Result, applied, got_absent, got_value, result}
use Rattle.dds_answered.proofs.Results.{reply-if, same-reply}
use Rattle.dds_base.specs.Number.{Txn}
use Rattle.dds_base.specs.Op.{is_get}
use Rattle.dds_base.specs.declared.leaf.Leaf.{Leaf}
use Rattle.dds_base.specs.declared.node_set.NodeSet.{NodeSet}
use Rattle.dds_base.specs.declared.number.NodeNo.{NodeNo}
use Rattle.dds_base.specs.declared.op.Reply.{Reply}
use Rattle.dds_base.specs.declared.op.Reply.TheVariants as reply
use Rattle.dds_books.specs.Placed.{PhaseOk}
use Rattle.dds_call_rows.specs.Library.{call_concerns, first_flag, goes_without, got_in, lost_or_applied, replies, stays}
use Rattle.dds_core.specs.LibraryTurn.{call_row}
use Rattle.dds_history.specs.Map.{reply_with}
use Rattle.dds_letters.specs.declared.letter.Letter.{Letter}
use Rattle.dds_letters.specs.declared.letter.Letter.TheVariants as letter
use Rattle.dds_letters.specs.declared.refusal.Answer.{Answer}
use Rattle.dds_net.specs.Net.{Sizes}
use Rattle.dds_states.specs.Turn.{is_none_left, without}
use Rattle.dds_states.specs.declared.library_state.Desk.{Desk}
use Rattle.dds_states.specs.declared.library_state.OpenCall.{OpenCall}
use Rattle.dds_states.specs.declared.library_state.Phase.{Phase}
use Rattle.dds_states.specs.declared.library_state.Phase.TheVariants as phase
use Rattle.dds_talk.specs.Seen.{commits_now}
use Rattle.dds_values.proofs.LibraryFlags.{Kept, had, heard}
use Rattle.dds_values.specs.Values.{kept_flag}
use Rattle.dds_world.specs.Stands.{is_result}

-- What an update's call is answered: the reply with the flag that it had kept, or else with the one that it hears.

pub record IsWithFlag (c : OpenCall) (l : Letter) (r : Reply) : Type 0 where
  pub was : Bool
  pub kept : Kept c l was
  pub reply_is : reply_with c.request.op was ≡ r

first-kept : (txn : Txn) (c : OpenCall) (own : Option Bool) (flag : Bool) → kept_flag c.phase ≡ own → Kept c (letter.Applied txn flag) (first_flag own flag)
first-kept txn c None flag k = heard txn refl
first-kept txn c (Some x) flag k = had k

lost-reply : (d : Desk) (c : OpenCall) (leaf : Leaf) (own : Option Bool) (r : Reply) → kept_flag c.phase ≡ own
    → (lost_or_applied d c leaf own).went.reply ≡ Some r → is_result r ≡ true → IsWithFlag c letter.Notice r
lost-reply d c leaf None r is e h = absurd (both_ways (is_result r) (sym (ap is_result (same-reply (reply.Lost leaf.name) r e))) h)
lost-reply d c leaf (Some was) r is e h = record { was = was; kept = had is; reply_is = same-reply (reply_with c.request.op was) r e }

-- a call that commits is answered at an Applied or a Notice, where no member is left that it waits for
module _ (d : Desk) (call : OpenCall) (from : NodeNo) (leaf : Leaf) (list waiting : List NodeNo) (own : Option Bool) where
  abbrev c : OpenCall
  c = record call { phase = phase.Committing leaf list waiting own }

  abbrev left : List NodeNo
  left = without waiting from

  abbrev onward : Option Bool → OpenCall
  onward was = record c { phase = phase.Committing leaf list left was }

  committing-reply : (l : Letter) (r : Reply) → (call_row d c from l).went.reply ≡ Some r → is_result r ≡ true → IsWithFlag c l r
  committing-reply (letter.Applied txn flag) r e h =
      let was = first_flag own flag in
      reply-if (IsWithFlag c (letter.Applied txn flag) r) r (is_none_left left) (replies d (reply_with c.request.op was)) (stays d [] (onward (Some was)))
      (λ q. record { was = was; kept = first-kept txn c own flag refl; reply_is = same-reply (reply_with c.request.op was) r q }) (λ q. cc) e
  committing-reply letter.Notice r e h =
      let P = IsWithFlag c letter.Notice r in
      reply-if P r (call_concerns c.phase from) (goes_without d c from c.phase) (stays d [] c)
      (λ q. reply-if P r (is_none_left left) (lost_or_applied d c leaf own) (stays d [] (onward own)) (λ f. lost-reply d c leaf own r refl f h) (λ f. cc) q)
      (λ q. cc) e
  committing-reply other r e h = cc

commits-reply : (d : Desk) (c : OpenCall) (from : NodeNo) (p : Phase) (l : Letter) (r : Reply) → p ≡ c.phase → commits_now p ≡ true
    → (call_row d c from l).went.reply ≡ Some r → is_result r ≡ true → IsWithFlag c l r
commits-reply d c from (phase.Committing leaf list waiting own) l r is k e h =
    let same : record c { phase = phase.Committing leaf list waiting own } ≡ c = (λ i. record c { phase = is i }) in
    subst (λ x. IsWithFlag x l r) same
    (committing-reply d c from leaf list waiting own l r (subst (λ x. (call_row d x from l).went.reply ≡ Some r) (sym same) e) h)
commits-reply d c from other l r is k e h = cc

-- what a get was told answers a get alone
getting : (z : Sizes) (known : NodeSet) (d : Desk) (c : OpenCall) (from : NodeNo) (a : Answer) (p : Phase) (r : Reply) → PhaseOk z known c.request.op p
    → (got_in d c from a p).went.reply ≡ Some r → is_get c.request.op ≡ true
getting z known d c from a (phase.Getting leaf brick) r ok e = ok.0
getting z known d c from a other r ok e = cc

got-gets : (z : Sizes) (known : NodeSet) (d : Desk) (c : OpenCall) (from : NodeNo) (l : Letter) (txn : Txn) (a : Answer) (r : Reply)
    → PhaseOk z known c.request.op c.phase → l ≡ letter.Got txn a → (call_row d c from l).went.reply ≡ Some r → is_get c.request.op ≡ true
got-gets z known d c from l txn a r ok is e =
    getting z known d c from a c.phase r ok (subst (λ x. (call_row d c from x).went.reply ≡ Some r) is e)

pub update-reply : (z : Sizes) (known : NodeSet) (d : Desk) (c : OpenCall) (from : NodeNo) (l : Letter) (r : Reply) → PhaseOk z known c.request.op c.phase
    → is_get c.request.op ≡ false → (call_row d c from l).went.reply ≡ Some r → is_result r ≡ true → IsWithFlag c l r
update-reply z known d c from l r ok update e h = by (result d c from l r e h)
  where
    by : Result c l r → IsWithFlag c l r
    by (got_value txn value is f) = absurd (both_ways (is_get c.request.op) update (got-gets z known d c from l txn _ r ok is e))
    by (got_absent txn is f) = absurd (both_ways (is_get c.request.op) update (got-gets z known d c from l txn _ r ok is e))
    by (applied k flag) = commits-reply d c from c.phase l r refl k e h
