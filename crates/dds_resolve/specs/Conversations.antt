-- A resolver's conversations about one attempt, all together, and that the live members fit what was decided.
use Rattle.std.specs.Prelude.{ℕ, ◌≡◌, ◌⊎◌, ◌++◌, Bool, true, false, List, Option, Some, None}
use Rattle.dds_base.specs.BrickList.{has}
use Rattle.dds_base.specs.Number.{Txn}
use Rattle.dds_base.specs.declared.node_set.NodeSet.{NodeSet}
use Rattle.dds_base.specs.declared.number.NodeNo.{NodeNo}
use Rattle.dds_letters.specs.declared.letter.Letter.{Letter}
use Rattle.dds_states.specs.Turn.{unknown_others}
use Rattle.dds_states.specs.declared.brick_state.BrickState.{BrickState}
use Rattle.dds_states.specs.declared.brick_state.Resolving.{Resolving}
use Rattle.dds_talk.specs.Table.{At}
use Rattle.dds_talk.specs.Table.At.{Committed}
use Rattle.dds_talk.specs.Resolve.{Agreed, Resolves, Saw, Tell}
use Rattle.dds_talk.specs.Seen.{Alone, about}
use Rattle.dds_resolve.specs.Letters.{letters_to}
use Rattle.dds_resolve.specs.Resolving.{own_at, side_of, tell_in}

-- what doesn't change in a turn of the resolver: the attempt, whether a commit of it was decided before, and its
-- members, who it is and whom it knows, and of each live member
-- what is on its way to it, whether it put off a question, whether it is ready, how far the attempt is there, and what is on its way
-- back
pub record Round : Type 0 where
  pub txn : Txn
  pub before : Bool
  pub list : List ℕ
  pub me : ℕ
  pub known : NodeSet
  pub live : ℕ → Bool
  pub to : ℕ → List Tell
  pub put_off : ℕ → Bool
  pub ready : ℕ → Bool
  pub at : ℕ → At
  pub back : ℕ → List At

pub record RoundOk (z : Round) : Type 0 where
  pub alone : Alone (unknown_others z.list z.me z.known)
  pub live : (m : ℕ) → z.live m ≡ true → has (unknown_others z.list z.me z.known) m ≡ true

-- what the resolver saw fits what was decided, and its own state
pub record SawOk (d : Bool) (members : List ℕ) (a : At) (r : Resolving) : Type 0 where
  pub list : r.list ≡ members
  pub commit : r.saw_commit ≡ true → d ≡ true
  pub no : r.saw_no ≡ true → d ≡ false
  pub own : Saw r.saw_commit r.saw_no a

abbrev pub SeenOk : Bool → List ℕ → At → Option Resolving → Type 0
SeenOk d list a None = Unit {0}
SeenOk d list a (Some r) = SawOk d list a r

-- whether a commit is decided by now, what the resolver has of the attempt, its state, and what it has sent so far in this turn. A
-- commit that is decided in this turn is one that the resolver notes itself, where each live member is ready.
pub record Talking (z : Round) (d : Bool) (x : Option Resolving) (s : BrickState) (sent : List (NodeNo × Letter)) : Type 0 where
  pub grows : z.before ≡ true → d ≡ true
  pub why : d ≡ true → (z.before ≡ true) ⊎ (own_at s z.txn ≡ Committed)
  pub all_ready : d ≡ true → (z.before ≡ true) ⊎ ((m : ℕ) → z.live m ≡ true → z.ready m ≡ true)
  pub each : (m : ℕ) → z.live m ≡ true → Resolves d (side_of x m) (z.to m ++ about tell_in z.txn (letters_to m sent)) (z.put_off m) (z.ready m) (z.at m)
      (z.back m)
  pub mates : (m : ℕ) → z.live m ≡ true → Agreed d (z.at m)
  pub own : Agreed d (own_at s z.txn)
  pub seen : SeenOk d z.list (own_at s z.txn) x
  pub number : s.number ≡ z.me
  pub known : s.known ≡ z.known
