use Rattle.std.proofs.Common.{◌≡◌, ℕ, ◌==◌, ◌||◌, ◌⊎◌, inr, Bool, true, false, not, Option, Some, None, List, []}
use Rattle.std.proofs.Common.{◌∷◌, ◌++◌, find, refl, sym, ap, ◌∙◌, subst, append_assoc}
use Rattle.std.proofs.lemmas.Bool.{eqb-true}
use Rattle.std.proofs.lemmas.List.{append-nil}
use Rattle.dds_base.specs.BrickList.{has}
use Rattle.dds_base.specs.Number.{Txn, same_txn}
use Rattle.dds_base.specs.declared.node_set.NodeSet.{NodeSet}
use Rattle.dds_base.specs.declared.number.NodeNo.{NodeNo}
use Rattle.dds_base.specs.declared.pending.Pending.{Pending}
use Rattle.dds_brick_rows.specs.Calls as calls
use Rattle.dds_brick_rows.specs.Resolution as rows
use Rattle.dds_letters.specs.declared.letter.Letter.{Letter}
use Rattle.dds_letters.specs.declared.letter.Letter.TheVariants as letter
use Rattle.dds_locks.specs.Pending.{first_of}
use Rattle.dds_states.specs.Turn.{BrickTurn, to_each, is_none_left, unknown_others}
use Rattle.dds_states.specs.declared.brick_state.BrickState.{BrickState}
use Rattle.dds_states.specs.declared.brick_state.Resolving.{Resolving}
use Rattle.dds_talk.proofs.Resolving as moves
use Rattle.dds_talk.specs.Table.{At}
use Rattle.dds_talk.specs.Table.At.{Unprepared, Prepared, Committed, Aborted}
use Rattle.dds_talk.specs.Resolve.{Agreed, Resolves, Saw, Tell}
use Rattle.dds_talk.specs.Resolve.Resolves.{heard}
use Rattle.dds_talk.specs.Resolve.Side.{Rest, Heard}
use Rattle.dds_talk.specs.Resolve.Tell.{outcome}
use Rattle.dds_talk.specs.Seen.{Alone, Once, of, one, about}
use Rattle.dds_resolve.specs.Letters.{letters_to, to_one}
use Rattle.dds_talk.proofs.Parts.{same-self}
use Rattle.dds_resolve.specs.Resolving.{own_at, side_of, tell_in}
use Rattle.dds_resolve.specs.Conversations.{Round, RoundOk, SawOk, SeenOk, Talking}
use Rattle.dds_resolve.proofs.MemberTurns.{about-sent}
use Rattle.dds_resolve.proofs.MemberMoves.{outcome-own}

-- A resolver's turn keeps its conversations about an attempt.

-- one letter to each node
sent-if : (b c : Bool) (t : Txn) (l : Letter) (x : Tell) (rest : List Letter) → of t (tell_in l) ≡ x ∷ [] → (b ≡ true → c ≡ false) →
    about tell_in t rest ≡ one c x → about tell_in t (to_one b l rest) ≡ one (b || c) x
sent-if true c t l x rest e apart h = ap (λ xs. xs ++ about tell_in t rest) e ∙ ap (λ xs. x ∷ xs) (h ∙ ap (λ k. one k x) (apart refl))
sent-if false c t l x rest e apart h = h

pub sent-each : (t : Txn) (l : Letter) (x : Tell) (ns : List NodeNo) (m : ℕ) → Alone ns → of t (tell_in l) ≡ x ∷ [] →
    about tell_in t (letters_to m (to_each ns l)) ≡ one (has ns m) x
sent-each t l x [] m a e = refl
sent-each t l x (n ∷ ns) m a e = sent-if (n == m) (has ns m) t l x (letters_to m (to_each ns l)) e (λ s. ap (has ns) (sym (eqb-true n m s)) ∙ a.0)
    (sent-each t l x ns m a.1 e)

-- a decision fits the live members and the resolver
abbrev pub verdict_of : Bool → Bool → Bool
verdict_of c n = c || not n

own-agreed : (c n : Bool) (d : Bool) (a : At) → (c ≡ true → d ≡ true) → (n ≡ true → d ≡ false) → Saw c n a → Agreed (verdict_of c n) a
own-agreed true true d a f g h = let q = sym (f refl) ∙ g refl in cc
own-agreed true false d Unprepared f g h = cc
own-agreed true false d Prepared f g h = tt
own-agreed true false d Committed f g h = tt
own-agreed true false d Aborted f g h = cc
own-agreed false true d Unprepared f g h = tt
own-agreed false true d Prepared f g h = tt
own-agreed false true d Committed f g h = cc
own-agreed false true d Aborted f g h = tt
own-agreed false false d Unprepared f g h = cc
own-agreed false false d Prepared f g h = tt
own-agreed false false d Committed f g h = cc
own-agreed false false d Aborted f g h = cc

saw-of : {d q r c n : Bool} {o : List Tell} {a : At} {b : List At} → Resolves d (Heard c n) o q r a b → Saw c n a
saw-of (heard h) = h

-- who was heard is ready
ready-of : {d q r c n : Bool} {o : List Tell} {a : At} {b : List At} → Resolves d (Heard c n) o q r a b → r ≡ true
ready-of (heard h) = refl

commit-stays : (c n d : Bool) → d ≡ true → (n ≡ true → d ≡ false) → verdict_of c n ≡ true
commit-stays true n d e g = refl
commit-stays false true d e g = let q = sym e ∙ g refl in cc
commit-stays false false d e g = refl

-- nobody is waited for
none-has : (ns : List ℕ) (m : ℕ) → is_none_left ns ≡ true → has ns m ≡ false
none-has [] m e = refl
none-has (n ∷ ns) m e = cc

-- what a turn leaves alone
pub record Aside (t : Txn) (s : BrickState) (r : BrickTurn) : Type 0 where
  pub own : own_at r.state t ≡ own_at s t
  pub number : r.state.number ≡ s.number
  pub known : r.state.known ≡ s.known
  pub found : find (rows.is_of t) r.state.resolving ≡ find (rows.is_of t) s.resolving
  pub silent : (m : ℕ) → about tell_in t (letters_to m r.out.letters) ≡ []

pub talking-aside : {d : Bool} (z : Round) (x : Option Resolving) (s : BrickState) (r : BrickTurn) (sent : List (NodeNo × Letter)) → Aside z.txn s r →
    Talking z d x s sent → Talking z d x r.state (sent ++ r.out.letters)
talking-aside {d = d} z x s r sent a h =
    record {
      grows = h.grows;
      why = subst (λ k. d ≡ true → (z.before ≡ true) ⊎ (k ≡ Committed)) (sym a.own) h.why;
      all_ready = h.all_ready;
      each = λ m e. subst (λ ys. Resolves d (side_of x m) (z.to m ++ ys) (z.put_off m) (z.ready m) (z.at m) (z.back m))
          (sym (about-sent tell_in z.txn m sent r.out.letters ∙ ap (λ ys. about tell_in z.txn (letters_to m sent) ++ ys) (a.silent m)
          ∙ append-nil (about tell_in z.txn (letters_to m sent)))) (h.each m e);
      mates = h.mates;
      own = subst (Agreed d) (sym a.own) h.own;
      seen = subst (λ k. SeenOk d z.list k x) (sym a.own) h.seen;
      number = a.number ∙ h.number;
      known = a.known ∙ h.known;
    }

-- Outcome at the resolver itself
pub record Ends (s : BrickState) (r : BrickTurn) : Type 0 where
  pub number : r.state.number ≡ s.number
  pub known : r.state.known ≡ s.known
  pub resolving : r.state.resolving ≡ s.resolving
  pub letters : r.out.letters ≡ []

settled-ends : (s : BrickState) (t : Txn) (c : Bool) (p : Option Pending) → Ends s (rows.settled (calls.dropped s t) c p)
settled-ends s t c None = record { number = refl; known = refl; resolving = refl; letters = refl }
settled-ends s t true (Some p) = record { number = refl; known = refl; resolving = refl; letters = refl }
settled-ends s t false (Some p) = record { number = refl; known = refl; resolving = refl; letters = refl }

pub outcome-ends : (s : BrickState) (t : Txn) (c : Bool) → Ends s (rows.outcome_row s t c)
outcome-ends s t c = settled-ends s t c (first_of s.locks.pending t)

-- it decides
decide-one : {d q r c n : Bool} (z : Round) (e : Bool) {a : At} {b : List At} (o ys sent zs : List Tell) → ys ≡ sent ++ zs → zs ≡ outcome e ∷ [] →
    Resolves d (Heard c n) (o ++ sent) q r a b → Resolves e Rest (o ++ ys) q r a b
decide-one {q = q} {r = r} z e {a = a} {b = b} o ys sent zs i j h =
    subst (λ k. Resolves e Rest k q r a b) (append_assoc o sent (outcome e ∷ []) ∙ ap (λ k. o ++ k) (sym (i ∙ ap (λ k. sent ++ k) j))) (moves.decides e h)

heard-side : (r : Resolving) (m : ℕ) → is_none_left r.waiting ≡ true → side_of (Some r) m ≡ Heard r.saw_commit r.saw_no
heard-side r m e = let k = none-has r.waiting m e in rw k refl

-- what was pending or committed is committed then
committed : (a : At) → Agreed true a → moves.settled true a ≡ Committed
committed Unprepared h = absurd h
committed Prepared h = refl
committed Committed h = refl
committed Aborted h = absurd h

pub same-nodes : (a b : List ℕ) (i j : ℕ) (k l : NodeSet) → a ≡ b → i ≡ j → k ≡ l → unknown_others a i k ≡ unknown_others b j l
same-nodes a b i j k l p q r = ap (λ x. unknown_others x i k) p ∙ ap (λ x. unknown_others b x k) q ∙ ap (λ x. unknown_others b j x) r

pub decides-talking : {d : Bool} (z : Round) (r : Resolving) (s : BrickState) (sent : List (NodeNo × Letter)) → RoundOk z → Once s.locks.pending →
    r.txn ≡ z.txn → is_none_left r.waiting ≡ true → Talking z d (Some r) s sent →
    Talking z (rows.verdict r) None (rows.decides s r).state (sent ++ (rows.decides s r).out.letters)
decides-talking {d = d} z r s sent ok once rt left h =
    let e = rows.verdict r in
    let saw : SawOk d z.list (own_at s z.txn) r = h.seen in
    let u = rows.outcome_row s r.txn e in
    let ends = outcome-ends s r.txn e in
    let ls = to_each (unknown_others r.list u.state.number u.state.known) (letter.Outcome r.txn e) in
    let nodes : unknown_others r.list u.state.number u.state.known ≡ unknown_others z.list z.me z.known =
    same-nodes r.list z.list u.state.number z.me u.state.known z.known saw.list (ends.number ∙ h.number) (ends.known ∙ h.known) in
    let told = (λ (m : ℕ) (i : z.live m ≡ true). ap (λ a. about tell_in z.txn (letters_to m (a ++ ls))) ends.letters
    ∙ ap (λ ns. about tell_in z.txn (letters_to m (to_each ns (letter.Outcome r.txn e)))) nodes
    ∙ sent-each z.txn (letter.Outcome r.txn e) (outcome e) (unknown_others z.list z.me z.known) m ok.alone
    (ap (λ b. one b (outcome e)) (ap (λ v. same_txn v z.txn) rt ∙ same-self z.txn)) ∙ ap (λ b. one b (outcome e)) (ok.live m i)) in
    let hears = (λ (m : ℕ) (i : z.live m ≡ true).
    subst (λ v. Resolves d v (z.to m ++ about tell_in z.txn (letters_to m sent)) (z.put_off m) (z.ready m) (z.at m) (z.back m)) (heard-side r m left)
    (h.each m i)) in
    let own : own_at u.state z.txn ≡ moves.settled e (own_at s z.txn) = ap (own_at u.state) (sym rt) ∙ outcome-own s r.txn e once
    ∙ ap (λ t. moves.settled e (own_at s t)) rt in
    let agreed = own-agreed r.saw_commit r.saw_no d (own_at s z.txn) saw.commit saw.no saw.own in
    record {
      grows = λ i. commit-stays r.saw_commit r.saw_no d (h.grows i) saw.no;
      why = λ i. inr (own ∙ ap (λ c. moves.settled c (own_at s z.txn)) i ∙ committed (own_at s z.txn) (subst (λ c. Agreed c (own_at s z.txn)) i agreed));
      all_ready = λ i. inr (λ m j. ready-of (hears m j));
      each = λ m i. decide-one z e (z.to m) (about tell_in z.txn (letters_to m (sent ++ (rows.decides s r).out.letters)))
          (about tell_in z.txn (letters_to m sent)) (about tell_in z.txn (letters_to m (rows.decides s r).out.letters))
          (about-sent tell_in z.txn m sent (rows.decides s r).out.letters) (told m i) (hears m i);
      mates = λ m i. own-agreed r.saw_commit r.saw_no d (z.at m) saw.commit saw.no (saw-of (hears m i));
      own = subst (Agreed e) (sym own) (moves.agreed-takes e (own_at s z.txn) agreed);
      seen = tt;
      number = ends.number ∙ h.number;
      known = ends.known ∙ h.known;
    }
