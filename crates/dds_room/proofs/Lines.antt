use Rattle.std.proofs.Common.{◌≡◌, ℕ, ◌==◌, ◌&&◌, Bool, true, false, not, Option, Some, None, List, [], ◌∷◌, refl, sym, ap, ◌∙◌, subst}
use Rattle.std.proofs.lemmas.Bool.{eq-eqb}
use Rattle.std.specs.FinMap.{get}
use Rattle.std.specs.Prelude.{is_some, if◌then◌else◌}
use Rattle.dds_base.specs.BrickList.{has}
use Rattle.dds_base.specs.Name.{Name, same_name}
use Rattle.dds_base.specs.NodeSet.{has_node}
use Rattle.dds_base.specs.Place.{last_key}
use Rattle.dds_base.specs.declared.leaf.Leaf.{Leaf}
use Rattle.dds_base.specs.declared.pair.Pair.{Pair}
use Rattle.dds_letters.specs.declared.letter.Letter.{Letter}
use Rattle.dds_letters.specs.declared.letter.Letter.TheVariants as letter
use Rattle.dds_letters.specs.declared.refusal.Wanted.{Wanted}
use Rattle.dds_locks.specs.Leases.{is_given}
use Rattle.dds_order_talk.proofs.Holds.{both-live, name-self}
use Rattle.dds_order_talk.proofs.Moves.{Tells}
use Rattle.dds_order_talk.specs.Seen.{BrickTalk, New, ask_of, asks, is_its, is_named, lease_asks, one, phase_view, rests, say_of, says, view, wanted_name}
use Rattle.dds_order_talk.specs.Seen.{with_leaf, work_asks}
use Rattle.dds_order_talk.specs.Table.{Ask, Say, Talk, View}
use Rattle.dds_order_talk.specs.Table.Ask.{copy, install, lease, old, release, stray}
use Rattle.dds_order_talk.specs.Table.Say.{granted, installed, part, refused}
use Rattle.dds_order_talk.specs.Table.Talk.{copies, copied, dropped}
use Rattle.dds_order_talk.specs.Table.View.{Has, Off, Source}
use Rattle.dds_states.specs.declared.brick_state.BrickState.{BrickState}
use Rattle.dds_states.specs.declared.brick_state.OpenOrder.{OpenOrder}
use Rattle.dds_states.specs.declared.brick_state.OrderPhase.TheVariants.{Copying}

-- What the table of conversations says of an order's brick and its source: the source holds the lease and has the leaf; it is asked for pairs or for
-- nothing, and a part is on its way from it or nothing. And what one letter asks or says of that.

pub data Out : List Ask → Type 0 where
  none_out : Out []
  one_copy : (key : Option ℕ) → Out (copy key ∷ [])

pub data Back : List Say → Type 0 where
  none_back : Back []
  one_part : Back (part ∷ [])

pub record Line (j : ℕ) (t : BrickState) (o : OpenOrder) (out back : List Letter) : Type 0 where
  pub given : is_given t.locks.leases o.name j ≡ true
  pub there : is_some (get t.leaves o.name) ≡ true
  pub asked : Out (asks (Some o) o.name out)
  pub said : Back (says (Some o) o.name back)

record Seen (Mine : Leaf → Type 0) (leaf : Leaf) (out : List Ask) (gave : Bool) (back : List Say) : Type 0 where
  given : gave ≡ true
  own : Mine leaf
  asked : Out out
  said : Back back

source-line : {x : Name} {Mine New : Tells} {leaf : Leaf} {key : Option ℕ} {out : List Ask} {given : Bool} {back : List Say}
    → Talk x Mine New (Source leaf key) out given back → Seen Mine leaf out given back
source-line (copies own) = record { given = refl; own = own; asked = one_copy _; said = none_back }
source-line (copied own) = record { given = refl; own = own; asked = none_out; said = one_part }
source-line (dropped own) = record { given = refl; own = own; asked = none_out; said = none_back }

seen-line : {x : Name} {Mine New : Tells} {leaf : Leaf} {key : Option ℕ} {out : List Ask} {given : Bool} {back : List Say} (v : View) → v ≡ Source leaf key
    → Talk x Mine New v out given back → Seen Mine leaf out given back
seen-line {x = x} {Mine = Mine} {New = New} {out = out} {given = given} {back = back} v e h =
    source-line (subst (λ w. Talk x Mine New w out given back) e h)

source-view : (o : OpenOrder) (source : ℕ) (leaf : Leaf) → o.phase ≡ Copying source → o.leaf ≡ Some leaf
    → view rests (Some o) o.name source ≡ Source leaf (last_key None o.copied)
source-view o source leaf phase fixed =
    let key = last_key None o.copied in
    ap (λ c. if c then phase_view rests o source o.phase else Off) (name-self o.name)
    ∙ ap (phase_view rests o source) phase ∙ ap (λ c. if c then with_leaf rests source o.leaf (λ l. Source l key)
    else (if has o.granted source then with_leaf rests source o.leaf Has else Off)) (eq-eqb source source refl)
    ∙ ap (λ l. with_leaf rests source l (λ k. Source k key)) fixed

some-leaf : (q : Option Leaf) → is_some q ≡ true → (leaf : Leaf) × (q ≡ Some leaf)
some-leaf None h = cc
some-leaf (Some leaf) h = (leaf, refl)

pub line-of : (j m : ℕ) (s t : BrickState) (o : OpenOrder) (out back : List Letter) → s.stopped ≡ false → t.stopped ≡ false → has_node s.known m ≡ false
    → s.order ≡ Some o → o.phase ≡ Copying m → is_some o.leaf ≡ true → BrickTalk rests j m o.name s t out back → Line j t o out back
line-of j m s t o out back lives also unknown is phase leaf h =
    let fixed = some-leaf o.leaf leaf in
    let it = both-live (ap not lives) (ap not also) (h unknown) in
    let seen = seen-line (view rests s.order o.name m) (ap (λ q. view rests q o.name m) is ∙ source-view o m fixed.0 phase fixed.1) it in
    record {
      given = seen.given;
      there = ap is_some seen.own.is;
      asked = subst (λ q. Out (asks q o.name out)) is seen.asked;
      said = subst (λ q. Back (says q o.name back)) is seen.said;
    }

-- one letter from the source
pub data Said (o : OpenOrder) (l : Letter) : Type 0 where
  silent : say_of (Some o) o.name l ≡ [] → Said o l
  a_part : (number : ℕ) (last : Bool) (pairs : List Pair) → l ≡ letter.CopyPart number last pairs → (o.number == number) ≡ true → Said o l
  speaks : (s : Say) → say_of (Some o) o.name l ≡ s ∷ [] → (s ≡ part → ⊥) → Said o l

one-said : (o : OpenOrder) (l : Letter) (c : Bool) (s : Say) → say_of (Some o) o.name l ≡ one c s → (s ≡ part → ⊥) → Said o l
one-said o l true s e ne = speaks s e ne
one-said o l false s e ne = silent e

part-said : (o : OpenOrder) (number : ℕ) (last : Bool) (pairs : List Pair) (c : Bool) → (o.number == number) ≡ c → Said o (letter.CopyPart number last pairs)
part-said o number last pairs true e = a_part number last pairs refl e
part-said o number last pairs false e = silent (ap (λ b. one (b && same_name o.name o.name) part) e)

pub said-of : (o : OpenOrder) (l : Letter) → Said o l
said-of o (letter.Granted number leaf) =
    one-said o _ (is_its (Some o) number && is_named (Some o) o.name) (granted leaf) refl (λ e. cc)
said-of o (letter.LeaseRefused number why) = one-said o _ (is_its (Some o) number && is_named (Some o) o.name) refused refl (λ e. cc)
said-of o (letter.CopyPart number last pairs) = part-said o number last pairs (o.number == number) refl
said-of o (letter.Installed number name) = one-said o _ (is_its (Some o) number && is_named (Some o) o.name) installed refl (λ e. cc)
said-of o other = silent refl

-- and one to it
pub data Asked (o : OpenOrder) (l : Letter) : Type 0 where
  asks_nothing : ask_of (Some o) o.name l ≡ [] → Asked o l
  a_copy : (number : ℕ) (name : Name) (place : Option ℕ) → l ≡ letter.CopyAsk number name place → (o.number == number) ≡ true → Asked o l
  asks_else : (a : Ask) → ask_of (Some o) o.name l ≡ a ∷ [] → ((key : Option ℕ) → a ≡ copy key → ⊥) → Asked o l

one-asked : (o : OpenOrder) (l : Letter) (c : Bool) (a : Ask) → ask_of (Some o) o.name l ≡ one c a → ((key : Option ℕ) → a ≡ copy key → ⊥) → Asked o l
one-asked o l true a e ne = asks_else a e ne
one-asked o l false a e ne = asks_nothing e

lease-asked : (o : OpenOrder) (number : ℕ) (what : Wanted) (c : Bool)
    → ask_of (Some o) o.name (letter.Lease number what) ≡ lease_asks c o.name what → Asked o (letter.Lease number what)
lease-asked o number what true e = asks_else (lease what) e (λ key f. cc)
lease-asked o number what false e = one-asked o _ (same_name (wanted_name what) o.name) old e (λ key f. cc)

copy-asked : (o : OpenOrder) (number : ℕ) (name : Name) (place : Option ℕ) (c : Bool) → (o.number == number) ≡ c → Asked o (letter.CopyAsk number name place)
copy-asked o number name place true e = a_copy number name place refl e
copy-asked o number name place false e =
    asks_else stray (ap (λ b. work_asks b (same_name o.name o.name) (copy place)) e) (λ key f. cc)

install-asked : (o : OpenOrder) (number : ℕ) (leaf : Leaf) (c : Bool)
    → ask_of (Some o) o.name (letter.Install number leaf) ≡ work_asks c (is_named (Some o) o.name) (install leaf) → Asked o (letter.Install number leaf)
install-asked o number leaf true e = one-asked o _ (is_named (Some o) o.name) (install leaf) e (λ key f. cc)
install-asked o number leaf false e = asks_else stray e (λ key f. cc)

pub asked-of : (o : OpenOrder) (l : Letter) → Asked o l
asked-of o (letter.Lease number what) = lease-asked o number what (is_its (Some o) number && is_named (Some o) o.name) refl
asked-of o (letter.Release number name) = one-asked o _ (same_name name o.name) release refl (λ key f. cc)
asked-of o (letter.CopyAsk number name place) = copy-asked o number name place (o.number == number) refl
asked-of o (letter.Install number leaf) = install-asked o number leaf (is_its (Some o) number) refl
asked-of o other = asks_nothing refl

-- what is on its way else
pub not-else : (s : Say) (xs ys : List Say) → xs ≡ s ∷ ys → (s ≡ part → ⊥) → Back xs → ⊥
not-else s _ ys e ne none_back = cc
not-else s _ ys e ne one_part = let is : part ≡ s = cc in ne (sym is)

pub not-other : (a : Ask) (xs ys : List Ask) → xs ≡ a ∷ ys → ((key : Option ℕ) → a ≡ copy key → ⊥) → Out xs → ⊥
not-other a _ ys e ne none_out = cc
not-other a _ ys e ne (one_copy key) = let is : copy key ≡ a = cc in ne key (sym is)
