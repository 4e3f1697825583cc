use Rattle.std.proofs.Common.{◌≡◌, ℕ, ◌≤◌, inl, inr, ◌==◌, true, false, Some, List, [], ◌∷◌, length, refl, sym, ap, ◌∙◌, subst}
use Rattle.std.proofs.lemmas.Bool.{and_parts, eqb-true}
use Rattle.std.specs.List.{AllByRecursion}
use Rattle.std.specs.Prelude.{nat_lt}
use Rattle.dds_base.specs.declared.number.NodeNo.{NodeNo}
use Rattle.dds_base.specs.declared.op.Met.{Met}
use Rattle.dds_base.specs.declared.op.Order.{Order}
use Rattle.dds_base.specs.declared.op.Order.TheVariants as the_order
use Rattle.dds_base.specs.declared.op.OrderReply.{OrderReply}
use Rattle.dds_base.specs.declared.op.OrderReply.TheVariants as answered
use Rattle.dds_core.proofs.LetterTells.{MetAt, RefusesNothing, Says, denied, get_refused, grants, lease_refused}
use Rattle.dds_core.proofs.Lists.{all-map}
use Rattle.dds_core.proofs.OrderTells.{InputMet}
use Rattle.dds_core.proofs.Tells.{AllSends, Gives, Sends}
use Rattle.dds_letters.specs.declared.letter.Letter.{Letter}
use Rattle.dds_letters.specs.declared.letter.Letter.TheVariants as letter
use Rattle.dds_letters.specs.declared.refusal.Answer.TheVariants as answer
use Rattle.dds_letters.specs.declared.refusal.Ballot.TheVariants as ballot
use Rattle.dds_letters.specs.declared.refusal.Wanted.{Wanted}
use Rattle.dds_letters.specs.declared.refusal.Wanted.TheVariants as wanted
use Rattle.dds_order_rows.specs.OwnOrder.{met_of}
use Rattle.dds_script.specs.Opening.{OpeningOf}
use Rattle.dds_states.specs.declared.brick_state.BrickState.{BrickState}
use Rattle.dds_states.specs.declared.turn.Replied.{Replied}
use Rattle.dds_states.specs.declared.turn.Replied.TheVariants as replied
use Rattle.dds_world.specs.Refusals.{LeaseWasRefused, OrderWasRefused, TookBefore}
use Rattle.dds_cluster.specs.Trace.{is_possible, run_of}
use Rattle.dds_cluster.specs.declared.step.Input.TheVariants as input
use Rattle.dds_cluster.specs.declared.step.Step.{Step}
use Rattle.dds_cluster.specs.declared.step.Step.TheVariants as step
use Rattle.dds_net.proofs.Carried.{Lands, News}
use Rattle.dds_net.proofs.Journals.{Grown, brick-now, handles-now, last-is, net_of}
use Rattle.dds_net.proofs.Projections.{lands-is}
use Rattle.dds_net.specs.Event.{IsFirst, is_ordered}
use Rattle.dds_net.specs.Net.{Net, Sizes, a_brick, lands, sizes_of}
use Rattle.dds_law_refusal.proofs.Good.{LetterOk}

-- What a brick refuses is so at the step at which it does.

-- the step that comes next is that a live brick takes this letter, of which this is said in the nodes and channels after it
pub record TakesNow (o : OpeningOf) (journal : List Step) (x : Step) (u : Net) (n from : NodeNo) (l : Letter) (s : BrickState) : Type 0 where
  pub few : o.bricks ≤ 64
  pub possible : is_possible (run_of o journal) x ≡ true
  pub step : x ≡ step.Handle n from
  pub first : IsFirst (sizes_of o) (net_of o journal) n from l
  pub here : (net_of o journal).node n ≡ a_brick s
  pub live : s.stopped ≡ false
  pub says : LetterOk o (Grown journal x) u from n l

abbrev took : (o : OpeningOf) (journal : List Step) (x : Step) (u : Net) (n from : NodeNo) (l m : Letter) (s : BrickState) → TakesNow o journal x u n from l s
    → l ≡ m → TookBefore o (Grown journal x) n m s
took o journal x u n from l m s t is =
    let f = subst (IsFirst (sizes_of o) (net_of o journal) n from) is t.first in
    record { at = length journal; handles = handles-now o journal x n from m s t.step t.possible f t.here t.live }

-- what it says in a letter to another node
says-ok : (o : OpeningOf) (journal : List Step) (x : Step) (u : Net) (n from : NodeNo) (l : Letter) (s : BrickState) (to b : NodeNo) (sent : Letter)
    → TakesNow o journal x u n from l s → (to ≡ from → from ≡ b) → Says s from l to sent → (RefusesNothing sent → LetterOk o (Grown journal x) u n b sent)
    → LetterOk o (Grown journal x) u n b sent
says-ok o journal x u n from l s to b sent t back (grants r) h = h r
says-ok o journal x u n from l s to b sent t back (get_refused txn caller call key name stamp why is e true_then) h =
    subst (LetterOk o (Grown journal x) u n b) (sym e) (
      record {
        caller = caller;
        call = call;
        key = key;
        name = name;
        stamp = stamp;
        state = s;
        took = took o journal x u n from l (letter.Get txn caller call key name stamp) s t is;
        true_then = true_then;
      },
      subst (LetterOk o (Grown journal x) u from n) is t.says,
    )
says-ok o journal x u n from l s to b sent t back (denied txn caller call below name stamp list op why is e true_then) h =
    subst (LetterOk o (Grown journal x) u n b) (sym e) (
      record {
        caller = caller;
        call = call;
        below = below;
        name = name;
        stamp = stamp;
        list = list;
        op = op;
        state = s;
        took = took o journal x u n from l (letter.Prepare txn caller call below name stamp list op) s t is;
        true_then = true_then;
      },
      subst (LetterOk o (Grown journal x) u from n) is t.says,
    )
says-ok o journal x u n from l s to b sent t back (lease_refused number what why is e home true_then) h =
    subst (LetterOk o (Grown journal x) u n b) (sym e)
    (record {
      what = what;
      state = s;
      took = took o journal x u n from l (letter.Lease number what) s t is;
      sender = back home;
      true_then = true_then;
    })

-- a letter that refuses nothing says nothing
abbrev pub NoRefusal : NodeNo → Letter → Type 0
NoRefusal to l = RefusesNothing l

nothing-ok : (o : OpeningOf) (journal : List Step) (u : Net) (n b to : NodeNo) (sent : Letter) → Sends NoRefusal to sent → LetterOk o journal u n b sent
nothing-ok o journal u n b to (letter.Get txn caller call key name stamp) h = absurd h
nothing-ok o journal u n b to (letter.Prepare txn caller call below name stamp list op) h = absurd h
nothing-ok o journal u n b to (letter.Got txn (answer.Refused why)) h = absurd h
nothing-ok o journal u n b to (letter.Got txn other) h = tt
nothing-ok o journal u n b to (letter.Vote txn ballot.Yes) h = tt
nothing-ok o journal u n b to (letter.Vote txn (ballot.No why)) h = absurd h
nothing-ok o journal u n b to (letter.LeaseRefused number why) h = absurd h
nothing-ok o journal u n b to other h = tt

sends-ok : (o : OpeningOf) (journal : List Step) (x : Step) (u : Net) (n from : NodeNo) (l : Letter) (s : BrickState) (to b : NodeNo) (sent : Letter)
    → TakesNow o journal x u n from l s → (to ≡ from → from ≡ b) → Sends (Says s from l) to sent → LetterOk o (Grown journal x) u n b sent
sends-ok o journal x u n from l s to b (letter.Got txn a) t back h =
    says-ok o journal x u n from l s to b (letter.Got txn a) t back h (λ r. nothing-ok o (Grown journal x) u n b to (letter.Got txn a) r)
sends-ok o journal x u n from l s to b (letter.Vote txn vote) t back h =
    says-ok o journal x u n from l s to b (letter.Vote txn vote) t back h (λ r. nothing-ok o (Grown journal x) u n b to (letter.Vote txn vote) r)
sends-ok o journal x u n from l s to b (letter.LeaseRefused number why) t back h =
    says-ok o journal x u n from l s to b (letter.LeaseRefused number why) t back h (λ r. absurd r)
sends-ok o journal x u n from l s to b (letter.Get txn caller call key name stamp) t back h = absurd h
sends-ok o journal x u n from l s to b (letter.Prepare txn caller call below name stamp list op) t back h = absurd h
sends-ok o journal x u n from l s to b other t back h = tt

pub turn-news : (o : OpeningOf) (journal : List Step) (x : Step) (u : Net) (n from : NodeNo) (l : Letter) (s : BrickState) (ls : List (NodeNo × Letter))
    → TakesNow o journal x u n from l s → AllSends (Says s from l) ls → News (LetterOk o (Grown journal x) u) (sizes_of o) n ls
turn-news o journal x u n from l s ls t h b inside =
    let z = sizes_of o in
    all-map (λ (p : NodeNo × Letter). Sends (Says s from l) p.0 p.1) (Lands (LetterOk o (Grown journal x) u) z n b) ls
    (λ p k comes. sends-ok o journal x u n from l s p.0 b p.1 t (λ home. eqb-true from b
    (sym (lands-is z from b t.few t.first.sender inside) ∙ ap (λ i. lands z i b) (sym home) ∙ comes)) k) h

-- a brick that is told an order refuses nothing in letters
pub order-news : (o : OpeningOf) (journal : List Step) (u : Net) (z : Sizes) (n : NodeNo) (ls : List (NodeNo × Letter)) → AllSends NoRefusal ls
    → News (LetterOk o journal u) z n ls
order-news o journal u z n ls h b inside =
    all-map (λ (p : NodeNo × Letter). Sends NoRefusal p.0 p.1) (Lands (LetterOk o journal u) z n b) ls (λ p k comes. nothing-ok o journal u n b p.0 p.1 k) h

-- What an order is answered

abbrev pub OrderOk : OpeningOf → List Step → ℕ → OrderReply → Type 0
OrderOk o journal at (answered.Refused m) = OrderWasRefused o journal at m
OrderOk o journal at other = Unit {0}

abbrev pub ReplyOk : OpeningOf → List Step → ℕ → Replied → Type 0
ReplyOk o journal at (replied.Order reply) = OrderOk o journal at reply
ReplyOk o journal at other = Unit {0}

-- each answer of a turn of which this is said
replies-ok : (M : Met → Type 0) (o : OpeningOf) (journal : List Step) (at : ℕ) (rs : List Replied) → ((m : Met) → M m → OrderWasRefused o journal at m)
    → AllByRecursion (Gives M) rs → AllByRecursion (ReplyOk o journal at) rs
replies-ok M o journal at [] f h = tt
replies-ok M o journal at (replied.Order (answered.Refused m) ∷ rs) f h = (f m h.0, replies-ok M o journal at rs f h.1)
replies-ok M o journal at (replied.Order other ∷ rs) f h = (tt, replies-ok M o journal at rs f h.1)
replies-ok M o journal at (other ∷ rs) f h = absurd h.0

-- at a letter: a member refused the request of the open order
member-refused : (o : OpeningOf) (journal : List Step) (x : Step) (u : Net) (n from : NodeNo) (l : Letter) (s : BrickState) (m : Met)
    → TakesNow o journal x u n from l s → MetAt s from l m → OrderWasRefused o (Grown journal x) (length journal) m
member-refused o journal x u n from l s m t k =
    let was = subst (LetterOk o (Grown journal x) u from n) k.is t.says in
    inl (record {
      node = n;
      brick = from;
      state = s;
      open_order = k.order;
      why = k.why;
      step = last-is journal x ∙ ap Some t.step;
      there = brick-now o journal x n s t.here;
      is_open = k.there;
      was = subst (λ i. LeaseWasRefused o (Grown journal x) from n i k.why) (sym k.same) was;
      met = k.met;
    })

pub turn-replies : (o : OpeningOf) (journal : List Step) (x : Step) (u : Net) (n from : NodeNo) (l : Letter) (s : BrickState) (rs : List Replied)
    → TakesNow o journal x u n from l s → AllByRecursion (Gives (MetAt s from l)) rs → AllByRecursion (ReplyOk o (Grown journal x) (length journal)) rs
turn-replies o journal x u n from l s rs t h =
    replies-ok (MetAt s from l) o (Grown journal x) (length journal) rs (λ m k. member-refused o journal x u n from l s m t k) h

-- at its input: a split met something at its own brick
input-met : (o : OpeningOf) (journal : List Step) (x : Step) (n : NodeNo) (s : BrickState) (ord : Order) (m : Met) → x ≡ step.Input n (input.Order ord)
    → (net_of o journal).node n ≡ a_brick s → s.number ≡ n → is_ordered (sizes_of o) n ord ≡ true → InputMet s ord m
    → OrderWasRefused o (Grown journal x) (length journal) m
input-met o journal x n s (the_order.Join brick name via) m is here number may h = absurd h
input-met o journal x n s (the_order.Split brick name) m is here number may h =
    let own : brick ≡ n = eqb-true brick n (and_parts (brick == n) (nat_lt n o.bricks) may).0 in
    inr (record {
      node = n;
      state = s;
      name = name;
      leaf = h.0;
      why = h.1;
      step = last-is journal x ∙ ap Some is ∙ ap (λ k. Some (step.Input n (input.Order (the_order.Split k name)))) own;
      there = brick-now o journal x n s here;
      own = h.2;
      true_then = h.3;
      met = ap (met_of h.1) (sym number) ∙ h.4;
    })

pub input-replies : (o : OpeningOf) (journal : List Step) (x : Step) (n : NodeNo) (s : BrickState) (ord : Order) (rs : List Replied)
    → x ≡ step.Input n (input.Order ord) → (net_of o journal).node n ≡ a_brick s → s.number ≡ n → is_ordered (sizes_of o) n ord ≡ true
    → AllByRecursion (Gives (InputMet s ord)) rs → AllByRecursion (ReplyOk o (Grown journal x) (length journal)) rs
input-replies o journal x n s ord rs is here number may h =
    replies-ok (InputMet s ord) o (Grown journal x) (length journal) rs (λ m k. input-met o journal x n s ord m is here number may k) h
