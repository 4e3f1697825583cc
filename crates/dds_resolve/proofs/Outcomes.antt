use Rattle.std.proofs.Common.{◌≡◌, ℕ, ◌⊎◌, inl, inr, Bool, true, false, List, [], ◌∷◌, ◌++◌, refl, ap, ◌∙◌, subst}
use Rattle.std.specs.List.{AllByRecursion}
use Rattle.dds_base.specs.Number.{Txn}
use Rattle.dds_brick_rows.specs.Resolution.{is_ready}
use Rattle.dds_letters.specs.declared.letter.Letter.{Letter}
use Rattle.dds_letters.specs.declared.letter.Letter.TheVariants as letter
use Rattle.dds_net.specs.Net.{Net}
use Rattle.dds_states.specs.declared.brick_state.BrickState.{BrickState}
use Rattle.dds_talk.proofs.Parts.{same-self}
use Rattle.dds_talk.proofs.Resolving as moves
use Rattle.dds_talk.specs.Resolve.{Agreed, Resolves, Side, Tell}
use Rattle.dds_talk.specs.Resolve.Resolves.{rest, told, asked, put_off, answered, again, heard}
use Rattle.dds_talk.specs.Resolve.Tell.{outcome}
use Rattle.dds_talk.specs.Seen.{about, one}
use Rattle.dds_talk.specs.Table.{At}
use Rattle.dds_talk.specs.Table.At.{Unprepared, Prepared, Committed, Aborted}
use Rattle.dds_resolve.specs.Resolved.{LeftPair, Pair, Resolve, ToldOk}
use Rattle.dds_resolve.specs.Resolving.{own_at, side, status_in, tell_in}

-- What the conversations say of outcomes: one that a live resolver tells a live member is what was decided, and the member is ready;
-- members that fit what was decided agree, and a decided commit has reached them.

pub outcome-told : (n : Net) (list : Txn → List ℕ) (decided : Txn → Bool) (t : Txn) (f m : ℕ) (x y : BrickState) (c : Bool) (others : List Letter) →
    Resolve n list decided
    → Pair n list t f m x y → y.stopped ≡ false → n.channel f m ≡ letter.Outcome t c ∷ others → (c ≡ decided t) × (is_ready y.known t (list t) f ≡ true)
outcome-told n list decided t f m x y c others h p lives first =
    let k = h.alive t f m x y p lives in
    let front : about tell_in t (n.channel f m) ≡ outcome c ∷ about tell_in t others = ap (about tell_in t) first
    ∙ ap (λ b. one b (outcome c) ++ about tell_in t others) (same-self t) in
    let q = moves.takes (subst (λ o. Resolves (decided t) (side x t m) (o ++ []) k.put (is_ready y.known t (list t) f) (own_at y t)
    (about status_in t (n.channel m f))) front k.now) in
    (q.1, q.2)

-- all outcomes on their way in one conversation
pub all-told : {d q r : Bool} {v : Side} {o : List Tell} {a : At} {b : List At} → Resolves d v o q r a b → AllByRecursion (ToldOk d r) o
all-told rest = tt
all-told told = ((refl, refl), tt)
all-told asked = (tt, tt)
all-told put_off = tt
all-told answered = tt
all-told again = ((refl, refl), (tt, tt))
all-told (heard h) = tt

-- a late outcome, of a resolver that stopped
pub late-outcome : (n : Net) (list : Txn → List ℕ) (decided : Txn → Bool) (t : Txn) (f m : ℕ) (x y : BrickState) (c : Bool) (others : List Letter) →
    Resolve n list decided → LeftPair n list t f m x y → n.channel f m ≡ letter.Outcome t c ∷ others
    → (c ≡ decided t) × (is_ready y.known t (list t) f ≡ true)
late-outcome n list decided t f m x y c others h p first =
    let front : about tell_in t (n.channel f m) ≡ outcome c ∷ about tell_in t others = ap (about tell_in t) first
    ∙ ap (λ b. one b (outcome c) ++ about tell_in t others) (same-self t) in
    (subst (AllByRecursion (ToldOk (decided t) (is_ready y.known t (list t) f))) front (h.left t f m x y p).told).0

pub one-outcome : (d : Bool) → Agreed d Committed → Agreed d Aborted → ⊥
one-outcome true h k = k
one-outcome false h k = h

pub commit-reached : (a : At) → Agreed true a → (a ≡ Prepared) ⊎ (a ≡ Committed)
commit-reached Unprepared h = absurd h
commit-reached Prepared h = inl refl
commit-reached Committed h = inr refl
commit-reached Aborted h = absurd h
