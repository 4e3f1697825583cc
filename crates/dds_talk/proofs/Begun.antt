use Rattle.std.proofs.Common.{◌≡◌, ℕ, ◌≤◌, ◌==◌, ◌&&◌, ◌+◌, ◌⊎◌, inl, inr, Bool, true, false, not, List, [], ◌∷◌, ◌++◌, Option, Some, None, refl, sym, ap, ◌∙◌}
use Rattle.std.proofs.Common.{subst}
use Rattle.std.specs.Prelude.{if◌then◌else◌, slice_index}
use Rattle.dds_base.specs.BrickList.{has}
use Rattle.dds_base.specs.Number.{Txn, same_txn}
use Rattle.dds_base.specs.Op.{the_key}
use Rattle.dds_base.specs.declared.leaf.Leaf.{Leaf}
use Rattle.dds_base.specs.declared.number.NodeNo.{NodeNo}
use Rattle.dds_base.specs.declared.op.Met.{Met}
use Rattle.dds_base.specs.declared.op.Met.TheVariants as met
use Rattle.dds_base.specs.declared.op.Op.{Op}
use Rattle.dds_base.specs.declared.op.Op.TheVariants as op
use Rattle.dds_base.specs.declared.op.Reply.{Reply}
use Rattle.dds_base.specs.declared.op.Reply.TheVariants as reply
use Rattle.dds_call_rows.specs.Library as library
use Rattle.dds_call_rows.specs.Library.{CallTurn}
use Rattle.dds_groups.specs.Leaves.{newer}
use Rattle.dds_letters.specs.declared.letter.Letter.{Letter}
use Rattle.dds_letters.specs.declared.letter.Letter.TheVariants as letter
use Rattle.dds_letters.specs.declared.refusal.Denial.{Denial}
use Rattle.dds_letters.specs.declared.refusal.Denial.TheVariants as denial
use Rattle.dds_letters.specs.declared.refusal.Refusal.{Refusal}
use Rattle.dds_letters.specs.declared.refusal.Refusal.TheVariants as refusal
use Rattle.dds_states.specs.Leaf.{leaf_for}
use Rattle.dds_states.specs.Turn.{to_each, unknown}
use Rattle.dds_states.specs.declared.library_state.Desk.{Desk}
use Rattle.dds_states.specs.declared.library_state.OpenCall.{OpenCall}
use Rattle.dds_states.specs.declared.library_state.Request.{Request}
use Rattle.dds_states.specs.declared.library_state.TxnNumbers.{TxnNumbers}
use Rattle.dds_net.specs.Net.{Sizes, gains, is_in}
use Rattle.dds_talk.proofs.Letters.{NoneAbout, about-each, about-gains, about-none, none-each}
use Rattle.dds_talk.proofs.Moves.{Takes}
use Rattle.dds_talk.proofs.Moves.Takes.{begins, skips}
use Rattle.dds_talk.proofs.Parts.{same-self}
use Rattle.dds_talk.specs.Seen.{IsGroup, asked, asks, members_of, one, phase_view}
use Rattle.dds_talk.specs.Table.Ask.{prepare}
use Rattle.dds_talk.specs.Table.View.{New, VoteDue, VoteHeard, Off}

-- An attempt begins, or the call is answered.

abbrev pub next_of : TxnNumbers → Txn
next_of n = record { library = n.library; number = n.next }

abbrev pub Opened : Sizes → TxnNumbers → CallTurn → Option OpenCall → Type 0
Opened z n r None = (t : Txn) (m : ℕ) → asks t (gains z r.went.letters m) ≡ []
Opened z n r (Some x) =
    (x.txn ≡ next_of n) × (r.desk.numbers.next ≡ n.next + 1) × (IsGroup z (members_of x.phase) → (m : ℕ) → is_in z m ≡ true
    → Takes New [] (if has (members_of x.phase) m then phase_view m x.phase else Off) (asks x.txn (gains z r.went.letters m)))

pub record Begun (z : Sizes) (n : TxnNumbers) (r : CallTurn) : Type 0 where
  pub library : r.desk.numbers.library ≡ n.library
  pub next : (r.desk.numbers.next ≡ n.next) ⊎ (r.desk.numbers.next ≡ n.next + 1)
  pub old : (t : Txn) (m : ℕ) → same_txn (next_of n) t ≡ false → asks t (gains z r.went.letters m) ≡ []
  pub opened : Opened z n r r.went.call

silent : (z : Sizes) (t : Txn) (m : ℕ) → asks t (gains z [] m) ≡ []
silent z t m = about-none asked t z m [] tt

pub answers : (z : Sizes) (d : Desk) (a : Reply) → Begun z d.numbers (library.replies d a)
answers z d a = record { library = refl; next = inl refl; old = λ t m e. silent z t m; opened = λ t m. silent z t m }

asks-begun : (z : Sizes) (d : Desk) (r : Request) (m : Met) (ns : List NodeNo) → Begun z d.numbers (library.asks d r m ns)
asks-begun z d r m [] = record { library = refl; next = inr refl; old = λ t n e. silent z t n; opened = λ t n. silent z t n }
asks-begun z d r m (x ∷ ns) =
    let l : Letter = letter.MapAsk (library.next_txn d) r.caller r.call (the_key r.op) in
    let ls : List (NodeNo × Letter) = to_each (x ∷ ns) l in
    let none : (t : Txn) → NoneAbout asked t (to_each (x ∷ ns) l) = λ t. none-each asked t l (x ∷ ns) refl in
    record {
      library = refl;
      next = inr refl;
      old = λ t n e. about-none asked t z n ls (none t);
      opened = (refl, refl, λ g n h. subst (Takes New [] Off) (sym (about-none asked (library.next_txn d) z n ls (none (library.next_txn d)))) skips);
    }

begun-if : (z : Sizes) (n : TxnNumbers) (b : Bool) (t u : CallTurn) → Begun z n t → Begun z n u → Begun z n (if b then t else u)
begun-if z n true t u h g = h
begun-if z n false t u h g = g

pub ask-begun : (z : Sizes) (d : Desk) (r : Request) (m : Met) → Begun z d.numbers (library.ask d r m)
ask-begun z d r m = begun-if z d.numbers (r.retries == 3) _ _ (answers z d (reply.Again m)) (asks-begun z d r m (library.live_bricks d))

opens-view : (b : Bool) → Takes New [] (if b then (if b then VoteDue else VoteHeard) else Off) (one b prepare)
opens-view true = begins
opens-view false = skips

update-begun : (z : Sizes) → z.bricks ≤ 64 → (d : Desk) (r : Request) (leaf : Leaf) (ns : List NodeNo) → Begun z d.numbers (library.update_begins d r leaf ns)
update-begun z few d r leaf ns =
    let l : Letter = letter.Prepare (library.next_txn d) r.caller r.call (library.below d) leaf.name leaf.stamp ns r.op in
    record {
      library = refl;
      next = inr refl;
      old = λ t m e. about-none asked t z m (to_each ns l) (none-each asked t l ns (ap (λ b. one b prepare) e));
      opened = (
        refl,
        refl,
        λ g m h. subst (Takes New [] (if has ns m then (if has ns m then VoteDue else VoteHeard) else Off))
            (sym (about-each asked (library.next_txn d) z l prepare ns m few h g (ap (λ b. one b prepare) (same-self (library.next_txn d))))) (opens-view
            (has ns m)),
      );
    }

get-begun : (z : Sizes) (d : Desk) (r : Request) (leaf : Leaf) (brick : NodeNo) (key : ℕ) → Begun z d.numbers (library.get_begins d r leaf brick key)
get-begun z d r leaf brick key =
    let l : Letter = letter.Get (library.next_txn d) r.caller r.call key leaf.name leaf.stamp in
    record {
      library = refl;
      next = inr refl;
      old = λ t m e. about-none asked t z m ((brick, l) ∷ []) (refl, tt);
      opened = (refl, refl, λ g m h. subst (Takes New [] Off) (sym (about-none asked (library.next_txn d) z m ((brick, l) ∷ []) (refl, tt))) skips);
    }

module _ (z : Sizes) (few : z.bricks ≤ 64) where
  attempt-begun : (d : Desk) (r : Request) (leaf : Leaf) (ns : List NodeNo) (o : Op) → Begun z d.numbers (library.attempt_begins d r leaf ns o)
  attempt-begun d r leaf ns (op.Get key) = get-begun z d r leaf (library.got_from ns r) key
  attempt-begun d r leaf ns (op.Put key value) = update-begun z few d r leaf ns
  attempt-begun d r leaf ns (op.Remove key) = update-begun z few d r leaf ns
  attempt-begun d r leaf ns (op.Swap key expected value) = update-begun z few d r leaf ns

  with-begun : (d : Desk) (r : Request) (leaf : Leaf) (ns : List NodeNo) → Begun z d.numbers (library.begins_with d r leaf ns)
  with-begun d r leaf [] = ask-begun z d r (met.Stopped (slice_index leaf.list 0))
  with-begun d r leaf (n ∷ ns) = attempt-begun d r leaf (n ∷ ns) r.op

  at-begun : (d : Desk) (r : Request) (o : Option Leaf) → Begun z d.numbers (library.begins_at d r o)
  at-begun d r None = record { library = refl; next = inl refl; old = λ t m e. silent z t m; opened = λ t m. silent z t m }
  at-begun d r (Some leaf) = with-begun d r leaf (unknown leaf.list d.known)

  pub begin-begun : (d : Desk) (r : Request) → Begun z d.numbers (library.begin d r)
  begin-begun d r = at-begun d r (leaf_for d.map (the_key r.op))

  -- a leaf that is pushed before is no letter of an attempt
  pushed-before : (f : NodeNo) (mine : Leaf) (r : CallTurn) (t : Txn) (m : ℕ)
      → asks t (gains z (library.behind ((f, letter.Push mine) ∷ []) r).went.letters m) ≡ asks t (gains z r.went.letters m)
  pushed-before f mine r t m =
      about-gains asked t z m ((f, letter.Push mine) ∷ []) r.went.letters
      ∙ ap (λ xs. xs ++ asks t (gains z r.went.letters m)) (about-none asked t z m ((f, letter.Push mine) ∷ []) (refl, tt))

  behind-opened : (n : TxnNumbers) (f : NodeNo) (mine : Leaf) (r : CallTurn) (o : Option OpenCall) → Opened z n r o
      → Opened z n (library.behind ((f, letter.Push mine) ∷ []) r) o
  behind-opened n f mine r None b = λ t m. pushed-before f mine r t m ∙ b t m
  behind-opened n f mine r (Some x) b = (
    b.0,
    b.1,
    λ g m h. subst (Takes New [] (if has (members_of x.phase) m then phase_view m x.phase else Off))
        (sym (pushed-before f mine r x.txn m)) (b.2 g m h),
  )

  behind-begun : (n : TxnNumbers) (f : NodeNo) (mine : Leaf) (r : CallTurn) → Begun z n r → Begun z n (library.behind ((f, letter.Push mine) ∷ []) r)
  behind-begun n f mine r b =
      record {
        library = b.library;
        next = b.next;
        old = λ t m e. pushed-before f mine r t m ∙ b.old t m e;
        opened = behind-opened n f mine r r.went.call b.opened;
      }

  repairs-begun : (d : Desk) (r : Request) (f : NodeNo) (theirs : Leaf) (o : Option Leaf) → Begun z d.numbers (library.repairs d r f theirs o)
  repairs-begun d r f theirs None = begin-begun (library.adopts d theirs) r
  repairs-begun d r f theirs (Some mine) =
      begun-if z d.numbers (newer mine theirs && not r.pushed) _ _
      (behind-begun d.numbers f mine (library.begin d (record r { pushed = true })) (begin-begun d (record r { pushed = true })))
      (begun-if z d.numbers (library.same_leaf mine theirs) _ _ (begin-begun d r) (begin-begun (library.adopts d theirs) r))

  pub refused-begun : (d : Desk) (r : Request) (f : NodeNo) (why : Refusal) → Begun z d.numbers (library.refused d r f why)
  refused-begun d r f refusal.Lease = answers z d (reply.Again (met.Lease f))
  refused-begun d r f refusal.Lock = answers z d (reply.Again (met.Lock f))
  refused-begun d r f (refusal.Stale None) = ask-begun z d r (met.Stale f)
  refused-begun d r f (refusal.Stale (Some theirs)) =
      begun-if z d.numbers (r.retries == 3) _ _ (answers z d (reply.Again (met.Stale f)))
      (repairs-begun d (library.retried r) f theirs (leaf_for d.map (the_key r.op)))

  pub denied-begun : (d : Desk) (r : Request) (f : NodeNo) (why : Denial) → Begun z d.numbers (library.denied d r f why)
  denied-begun d r f denial.Full = answers z d (reply.Full f)
  denied-begun d r f (denial.Refused why) = refused-begun d r f why

  pub told-begun : (d : Desk) (r : Request) (newest : Option Leaf) (m : Met) → Begun z d.numbers (library.told_all d r newest m)
  told-begun d r None m = answers z d (reply.Again m)
  told-begun d r (Some leaf) m = begin-begun (library.adopts d leaf) r
