use Rattle.std.proofs.Common.{◌≡◌, ℕ, ◌≤◌, true, List, sym, ap, ◌∙◌, subst, arith}
use Rattle.std.proofs.lemmas.Bool.{eqb-true}
use Rattle.dds_base.specs.Number.{Txn}
use Rattle.dds_base.specs.declared.number.NodeNo.{NodeNo}
use Rattle.dds_core.proofs.Lists.{all-map}
use Rattle.dds_letters.specs.declared.letter.Letter.{Letter}
use Rattle.dds_letters.specs.declared.letter.Letter.TheVariants as letter
use Rattle.dds_net.proofs.Carried.{Lands, News}
use Rattle.dds_net.proofs.Places.{low-in}
use Rattle.dds_net.proofs.Projections.{lands-is}
use Rattle.dds_net.specs.Net.{Sizes, is_in}
use Rattle.dds_states.specs.declared.brick_state.BrickState.{BrickState}
use Rattle.dds_books.proofs.Fine.{AllSaid}
use Rattle.dds_books.specs.Placed.{BrickOk, DeferredOk, IsBrick, IsFrom, IsTo, LetterOk, PendingOk, ResolvingOk, Said}

-- What is said of letters, as more attempts are made; where a letter to a node comes.

from-map : {T U : Txn → Type 0} {z : Sizes} {a b : ℕ} {txn : Txn} → ((t : Txn) → T t → U t) → IsFrom T z a b txn → IsFrom U z a b txn
from-map {txn = txn} f h = record { library = h.library; made = f txn h.made; receiver = h.receiver }

to-map : {T U : Txn → Type 0} {z : Sizes} {a b : ℕ} {txn : Txn} → ((t : Txn) → T t → U t) → IsTo T z a b txn → IsTo U z a b txn
to-map {txn = txn} f h = record { library = h.library; made = f txn h.made; sender = h.sender }

said-more : (T U : Txn → Type 0) (z : Sizes) (a b : ℕ) (l : Letter) → ((t : Txn) → T t → U t) → Said T z a b l → Said U z a b l
said-more T U z a b (letter.Get txn caller call key name stamp) f h = from-map f h
said-more T U z a b (letter.Prepare txn caller call below name stamp list op) f h = (from-map f h.0, h.1, h.2)
said-more T U z a b (letter.Commit txn) f h = from-map f h
said-more T U z a b (letter.Abort txn) f h = from-map f h
said-more T U z a b (letter.MapAsk txn caller call key) f h = from-map f h
said-more T U z a b (letter.Push leaf) f h = h
said-more T U z a b (letter.Got txn what) f h = (to-map f h.0, h.1)
said-more T U z a b (letter.Vote txn vote) f h = (to-map f h.0, h.1)
said-more T U z a b (letter.Applied txn was) f h = to-map f h
said-more T U z a b (letter.Aborted txn) f h = to-map f h
said-more T U z a b (letter.MapTell txn leaf) f h = (to-map f h.0, h.1)
said-more T U z a b (letter.Help txn list) f h = (h.0, f txn h.1, h.2)
said-more T U z a b (letter.Query txn list) f h = (h.0, f txn h.1, h.2)
said-more T U z a b (letter.Status txn status) f h = (h.0, f txn h.1)
said-more T U z a b (letter.Outcome txn commit) f h = (h.0, f txn h.1)
said-more T U z a b (letter.Lease number what) f h = h
said-more T U z a b (letter.Granted number leaf) f h = h
said-more T U z a b (letter.LeaseRefused number why) f h = h
said-more T U z a b (letter.Release number name) f h = h
said-more T U z a b (letter.CopyAsk number name after) f h = h
said-more T U z a b (letter.CopyPart number last pairs) f h = h
said-more T U z a b (letter.Install number leaf) f h = h
said-more T U z a b (letter.Installed number name) f h = h
said-more T U z a b letter.Notice f h = h

pub said-map : (T U : Txn → Type 0) (z : Sizes) (a : ℕ) (ls : List (NodeNo × Letter)) → ((t : Txn) → T t → U t) → AllSaid T z a ls → AllSaid U z a ls
said-map T U z a ls f h =
    all-map (λ (p : NodeNo × Letter). Said T z a p.0 p.1) (λ p. Said U z a p.0 p.1) ls (λ p k. said-more T U z a p.0 p.1 f k) h

pub letter-more : (T U : Txn → Type 0) (z : Sizes) (a b : ℕ) (l : Letter) → ((t : Txn) → T t → U t) → LetterOk T z a b l → LetterOk U z a b l
letter-more T U z a b letter.Notice f h = tt
letter-more T U z a b other f h = said-more T U z a b other f h

said-is : (T : Txn → Type 0) (z : Sizes) (a b : ℕ) (l : Letter) → Said T z a b l → LetterOk T z a b l
said-is T z a b letter.Notice h = tt
said-is T z a b other h = h

pub brick-more : (T U : Txn → Type 0) (z : Sizes) (at : ℕ) (s : BrickState) → ((t : Txn) → T t → U t) → BrickOk T z at s → BrickOk U z at s
brick-more T U z at s f h =
    record {
      its_number = h.its_number;
      inside = h.inside;
      its_leaves = h.its_leaves;
      its_locks = (all-map (PendingOk T z at) (PendingOk U z at) s.locks.pending (λ p k. (f p.txn k.0, k.1, k.2)) h.its_locks.0, h.its_locks.1);
      its_deferred = all-map (DeferredOk T z) (DeferredOk U z) s.deferred (λ d k. (k.0, f d.txn k.1, k.2)) h.its_deferred;
      its_resolving = all-map (ResolvingOk T z) (ResolvingOk U z) s.resolving (λ r k. (f r.txn k.0, k.1, k.2)) h.its_resolving;
      its_order = h.its_order;
    }

-- The receiver is a node of the cluster, so that the letter comes there and nowhere else.

pub brick-inside : (z : Sizes) (k : ℕ) → z.bricks ≤ 64 → IsBrick z k → is_in z k ≡ true
brick-inside z k few h = low-in z k (omega (arith, few, h)) h

-- who gets it
abbrev pub AreNodes : (Txn → Type 0) → Sizes → Type 0
AreNodes T z = (t : Txn) → T t → is_in z t.library ≡ true

receiver : (T : Txn → Type 0) (z : Sizes) (a b : ℕ) (l : Letter) → z.bricks ≤ 64 → AreNodes T z → Said T z a b l → is_in z b ≡ true
receiver T z a b (letter.Get txn caller call key name stamp) few n h = brick-inside z b few h.receiver
receiver T z a b (letter.Prepare txn caller call below name stamp list op) few n h = brick-inside z b few h.0.receiver
receiver T z a b (letter.Commit txn) few n h = brick-inside z b few h.receiver
receiver T z a b (letter.Abort txn) few n h = brick-inside z b few h.receiver
receiver T z a b (letter.MapAsk txn caller call key) few n h = brick-inside z b few h.receiver
receiver T z a b (letter.Push leaf) few n h = brick-inside z b few h.0
receiver T z a b (letter.Got txn what) few n h = ap (is_in z) (sym h.0.library) ∙ n txn h.0.made
receiver T z a b (letter.Vote txn vote) few n h = ap (is_in z) (sym h.0.library) ∙ n txn h.0.made
receiver T z a b (letter.Applied txn was) few n h = ap (is_in z) (sym h.library) ∙ n txn h.made
receiver T z a b (letter.Aborted txn) few n h = ap (is_in z) (sym h.library) ∙ n txn h.made
receiver T z a b (letter.MapTell txn leaf) few n h = ap (is_in z) (sym h.0.library) ∙ n txn h.0.made
receiver T z a b (letter.Help txn list) few n h = brick-inside z b few h.0.receiver
receiver T z a b (letter.Query txn list) few n h = brick-inside z b few h.0.receiver
receiver T z a b (letter.Status txn status) few n h = brick-inside z b few h.0.receiver
receiver T z a b (letter.Outcome txn commit) few n h = brick-inside z b few h.0.receiver
receiver T z a b (letter.Lease number what) few n h = brick-inside z b few h.0.receiver
receiver T z a b (letter.Granted number leaf) few n h = brick-inside z b few h.0.receiver
receiver T z a b (letter.LeaseRefused number why) few n h = brick-inside z b few h.0.receiver
receiver T z a b (letter.Release number name) few n h = brick-inside z b few h.receiver
receiver T z a b (letter.CopyAsk number name after) few n h = brick-inside z b few h.receiver
receiver T z a b (letter.CopyPart number last pairs) few n h = brick-inside z b few h.receiver
receiver T z a b (letter.Install number leaf) few n h = brick-inside z b few h.0.receiver
receiver T z a b (letter.Installed number name) few n h = brick-inside z b few h.receiver
receiver T z a b letter.Notice few n h = absurd h

-- letters that a node says, where they come
pub said-news : (T : Txn → Type 0) (z : Sizes) (at : ℕ) (ls : List (NodeNo × Letter)) → z.bricks ≤ 64 → AreNodes T z → AllSaid T z at ls
    → News (LetterOk T z) z at ls
said-news T z at ls few n h b inside =
    all-map (λ (p : NodeNo × Letter). Said T z at p.0 p.1) (Lands (LetterOk T z) z at b) ls (λ p k comes.
    let there = receiver T z at p.0 p.1 few n k in
    let same = eqb-true p.0 b (sym (lands-is z p.0 b few there inside) ∙ comes) in
    said-is T z at b p.1 (subst (λ i. Said T z at i p.1) same k)) h
