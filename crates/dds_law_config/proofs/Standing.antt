use Rattle.std.proofs.Common.{◌≡◌, ℕ, zero, suc, ◌||◌, ◌==◌, Bool, true, false, not, Option, Some, None, List, [], ◌∷◌, refl, sym, ap, ◌∙◌, subst}
use Rattle.std.proofs.lemmas.Bool.{and_from, eq-eqb}
use Rattle.std.specs.List.{AllByRecursion}
use Rattle.std.specs.Prelude.{slice_get}
use Rattle.dds_answered.proofs.Having.{Has}
use Rattle.dds_answered.proofs.Lists.{at-filter}
use Rattle.dds_answered.proofs.Runs.{answered-calls-stand}
use Rattle.dds_answered.specs.Law.{HasItsEntry, StandsAnswered}
use Rattle.dds_base.specs.Op.{is_get}
use Rattle.dds_base.specs.declared.number.CallNo.{CallNo}
use Rattle.dds_calls.proofs.Answered.{IsOf, of-answer}
use Rattle.dds_calls.proofs.Asked.{all-each}
use Rattle.dds_calls.proofs.Told.{At, IsGiven, told-given}
use Rattle.dds_calls.specs.Law.{OfAnswer}
use Rattle.dds_cluster.specs.Lists.{is_answer}
use Rattle.dds_cluster.specs.Trace.{is_run, run_of}
use Rattle.dds_cluster.specs.declared.step.Step.{Step}
use Rattle.dds_cluster.specs.declared.trace.Asked.{Asked}
use Rattle.dds_cluster.specs.declared.trace.Made.{Made}
use Rattle.dds_cluster.specs.declared.trace.Told.{Told}
use Rattle.dds_cluster.specs.declared.trace.Trace.{Trace}
use Rattle.dds_copies.proofs.Runs.{joins-copy}
use Rattle.dds_core.proofs.Lists.{all-is}
use Rattle.dds_law_commit.proofs.Calls.{calls-are-kept}
use Rattle.dds_once.proofs.Runs.{is_of}
use Rattle.dds_order_runs.proofs.Runs.{orders-always-talk}
use Rattle.dds_script.specs.Opening.{IsOpening, OpeningOf}
use Rattle.dds_values.proofs.Runs.{Premises, held-where-given}
use Rattle.dds_world.specs.Stands.{AnsweredOnce, AnsweredOnceBy, HasOneEntry, Stands, answer_to, is_result, placed_history, stands_in}
use Rattle.dds_law_config.proofs.Replies.{IsItsReply, reply-there}

-- Each answered call has its one entry with the reply that was answered; so a run's calls stand.

-- each call that was answered with a result has exactly one entry, with the reply that it was answered, between its Input and its answer
abbrev AllAnsweredOnce : Trace → Type 0
AllAnsweredOnce t = AllByRecursion (AnsweredOnce t.told (placed_history t)) t.asked

-- the entry of an answered update is the point with the reply
module _ (t : Trace) (a : Asked) (r : Told) (its : IsOf a r) (e : HasItsEntry (placed_history t) a r) (w : Has t.made (IsItsReply r)) where
  abbrev m : Made
  m = w.it

  is-of : is_of a m ≡ true
  is-of =
      and_from (m.entry.caller == a.caller) (m.entry.call.0 == a.call.0) (eq-eqb m.entry.caller a.caller (w.is.caller_is ∙ sym its.0))
      (eq-eqb m.entry.call.0 a.call.0 (ap (λ (k : CallNo). k.0) w.is.call_is ∙ sym its.1))

  only-one : (x y : Made) → At (x ∷ []) y → x ≡ y
  only-one x y k = by k.index k.there
    where
      by : (i : ℕ) → slice_get (x ∷ []) i ≡ Some y → x ≡ y
      by zero e = cc
      by (suc i) e = cc

  is-entry : e.entry ≡ m
  is-entry =
      let placed = at-filter (stands_in t.told) t.made w.index m w.there (ap (λ b. not b || is_answer t.told m.txn) w.is.update) in
      only-one e.entry m (subst (λ ms. At ms m) e.only (at-filter (is_of a) (placed_history t) placed.index m placed.there is-of))

  updates-reply : e.entry.entry.reply ≡ r.reply
  updates-reply = ap (λ (x : Made). x.entry.reply) is-entry ∙ w.is.reply_is

with-reply : (entries : List Made) (a : Asked) (r : Told) (e : HasItsEntry entries a r) → e.entry.entry.reply ≡ r.reply → HasOneEntry entries a r
with-reply entries a r e reply =
    record { entry = e.entry; only = e.only; reply = reply; after_input = e.after_input; before_answer = e.before_answer }

module _ (o : OpeningOf) (journal : List Step) (given : Premises o journal) where
  abbrev t : Trace
  t = run_of o journal

  -- what is answered to a get is known; of an update it is its point's
  entry-is : (i : ℕ) (a : Asked) (r : Told) → slice_get t.asked i ≡ Some a → IsGiven o journal r → IsOf a r → is_result r.reply ≡ true
      → HasItsEntry (placed_history t) a r → HasOneEntry (placed_history t) a r
  entry-is i a r there g its good e = with-reply (placed_history t) a r e (by (is_get a.op) refl)
    where
      by : (b : Bool) → is_get a.op ≡ b → e.entry.entry.reply ≡ r.reply
      by true get = e.reply get
      by false update = updates-reply t a r its e (reply-there o journal given i a there update r g its good)

  once-by : (i : ℕ) (a : Asked) → slice_get t.asked i ≡ Some a → (x : Option Told)
      → OfAnswer (λ r reply. IsGiven o journal r × IsOf a r) x → OfAnswer (λ r reply. is_result reply ≡ true → HasItsEntry (placed_history t) a r) x
      → AnsweredOnceBy (placed_history t) a x
  once-by i a there None k e = tt
  once-by i a there (Some r) k e = λ good. entry-is i a r there k.0 k.1 good (e good)

  all-once : AllAnsweredOnce t
  all-once =
      all-each _ t.asked (λ i a there.
      once-by i a there (answer_to t.told a.caller a.call)
      (of-answer (λ r reply. IsGiven o journal r × IsOf a r) t.told a
      (all-each _ t.told (λ j r told its. (all-is (IsGiven o journal) t.told j r (told-given o journal) told, its))))
      (all-is (StandsAnswered t.told (placed_history t)) t.asked i a (answered-calls-stand o journal given.opening given.run) there))

pub premises-stand : (o : OpeningOf) (journal : List Step) → Premises o journal → Stands (run_of o journal)
premises-stand o journal given =
    let kept = calls-are-kept o journal given.opening given.run in
    record {
      legal = (held-where-given o journal given.opening given.run given.talk given.joins).history_is;
      answered_once = all-once o journal given;
      refused_never = kept.refused_never;
      unanswered_once_or_never = kept.unanswered_once_or_never;
      entries_are_calls = kept.entries_are_calls;
    }

-- that orders and their members talk by the table is so of every run, and the rest follows
pub runs-stand : (o : OpeningOf) (journal : List Step) → IsOpening o → is_run o journal ≡ true → Stands (run_of o journal)
runs-stand o journal h run =
    let talk = orders-always-talk o journal h run in
    premises-stand o journal (record { opening = h; run = run; talk = talk; joins = (joins-copy o journal h run talk).served })
