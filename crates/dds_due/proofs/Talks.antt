use Rattle.std.proofs.Common.{◌≡◌, ℕ, zero, suc, ◌<◌, ◌||◌, ◌==◌, ◌⊎◌, inl, inr, Bool, true, false, not, Option, Some, None, List, [], ◌∷◌, ◌++◌}
use Rattle.std.proofs.Common.{refl, sym, ap, ◌∙◌, subst, arith}
use Rattle.std.proofs.lemmas.Bool.{eqb-true}
use Rattle.std.proofs.lemmas.Bool.Decides.{nat_tests}
use Rattle.std.specs.List.{AllByRecursion}
use Rattle.std.specs.Prelude.{nat_le, slice_get, if◌then◌else◌}
use Rattle.dds_base.specs.BrickList.{has}
use Rattle.dds_base.specs.NodeSet.{has_node}
use Rattle.dds_base.specs.Number.{Txn, same_txn}
use Rattle.dds_base.specs.declared.leaf.Leaf.{Leaf}
use Rattle.dds_books.specs.Placed.{ArePlaced, CallOk, LibraryOk, Made, NodeOk, OtherAttempt, PhaseOk}
use Rattle.dds_call_rows.specs.Library.{call_concerns}
use Rattle.dds_commit.proofs.Opens.{conversation}
use Rattle.dds_core.proofs.CallTurns.{same-is}
use Rattle.dds_core.proofs.Lists.{all-is}
use Rattle.dds_letters.specs.declared.letter.Letter.{Letter}
use Rattle.dds_letters.specs.declared.letter.Letter.TheVariants as letter
use Rattle.dds_letters.specs.declared.refusal.Ballot.TheVariants as ballot
use Rattle.dds_net.proofs.Pairwise.{Pairwise}
use Rattle.dds_net.specs.Net.{Net, a_library, Sizes}
use Rattle.dds_states.specs.declared.brick_state.BrickState.{BrickState}
use Rattle.dds_states.specs.declared.library_state.LibraryState.{LibraryState}
use Rattle.dds_states.specs.declared.library_state.OpenCall.{OpenCall}
use Rattle.dds_states.specs.declared.library_state.Phase.TheVariants.{Committing}
use Rattle.dds_talk.proofs.Grounds.{Ground, library-unknown}
use Rattle.dds_talk.proofs.Parts.{same-self}
use Rattle.dds_talk.specs.Books.{Books}
use Rattle.dds_talk.specs.Parts.{Commit, IsFor}
use Rattle.dds_talk.specs.Seen.{asked, asks, at, call_of, call_view, of, one, phase_view, said, says, view}
use Rattle.dds_talk.specs.Table.{Ask, At, IsTalk, Say, Talk, Talks, View}
use Rattle.dds_talk.specs.Table.Ask.{prepare, commit, abort}
use Rattle.dds_talk.specs.Table.IsTalk.{knowing, unknowing}
use Rattle.dds_talk.specs.Table.Say.{yes, no, applied, aborted}
use Rattle.dds_talk.specs.Table.Talk.{told_applied, told_commit}
use Rattle.dds_talk.specs.Table.Talks.{live}
use Rattle.dds_talk.specs.Table.View.{CommitDue, CommitHeard, New, Off}
use Rattle.dds_due.proofs.Sent.{due-by-asked, due-by-told}
use Rattle.dds_due.specs.Due.{IsDue, Waits, asked_in, told_in, commit_asked, commit_told, is_of, is_there}

-- What is due to a call that commits: the conversations say it.

-- letters about an attempt are on their way where the conversation has them

commit-first : (o : Option (Txn × Ask)) (t : Txn) (rest xs : List Ask) → of t o ++ rest ≡ commit ∷ xs → (o ≡ Some (t, commit)) ⊎ (rest ≡ commit ∷ xs)
commit-first None t rest xs e = inr e
commit-first (Some p) t rest xs e = by (same_txn p.0 t) refl e
  where
    ask-of : List Ask → Ask
    ask-of [] = prepare
    ask-of (x ∷ ys) = x

    by : (b : Bool) → same_txn p.0 t ≡ b → one b p.1 ++ rest ≡ commit ∷ xs → (Some p ≡ Some (t, commit)) ⊎ (rest ≡ commit ∷ xs)
    by true s f = inl (let first : p.0 ≡ t = same-is p.0 t s in let second : p.1 ≡ commit = ap ask-of f in ap Some (λ i. (first i, second i)))
    by false s f = inr f

same-pair : {X : Type 0} (p q : Txn × X) → Some p ≡ Some q → p ≡ q
same-pair p q e = cc

same-first : {X : Type 0} (p q : Txn × X) → Some p ≡ Some q → p.0 ≡ q.0
same-first p q e = ap (λ w. w.0) (same-pair p q e)

same-second : {X : Type 0} (p q : Txn × X) → Some p ≡ Some q → p.1 ≡ q.1
same-second p q e = ap (λ w. w.1) (same-pair p q e)

commit-asked : (l : Letter) (t : Txn) → asked l ≡ Some (t, commit) → is_of t (commit_asked l) ≡ true
commit-asked (letter.Commit txn) t e =
    let same : txn ≡ t = same-first (txn, commit) (t, commit) e in
    ap (λ u. is_of t (Some u)) same ∙ same-self t
commit-asked (letter.Prepare txn caller call below name stamp list op) t e =
    let no : prepare ≡ commit = same-second (txn, prepare) (t, commit) e in
    cc
commit-asked (letter.Abort txn) t e =
    let no : abort ≡ commit = same-second (txn, abort) (t, commit) e in
    cc
commit-asked other t e = cc

or-first : (a b : Bool) → a ≡ true → (a || b) ≡ true
or-first true b e = refl
or-first false b e = cc

or-second : (a b : Bool) → b ≡ true → (a || b) ≡ true
or-second true b e = refl
or-second false b e = e

asks-commit : (t : Txn) (ls : List Letter) (xs : List Ask) → asks t ls ≡ commit ∷ xs → is_there commit_asked t ls ≡ true
asks-commit t [] xs e = cc
asks-commit t (l ∷ ls) xs e = by (commit-first (asked l) t (asks t ls) xs e) (asks-commit t ls xs)
  where
    by : (asked l ≡ Some (t, commit)) ⊎ (asks t ls ≡ commit ∷ xs) → (asks t ls ≡ commit ∷ xs → is_there commit_asked t ls ≡ true)
        → is_there commit_asked t (l ∷ ls) ≡ true
    by (inl f) rest = or-first (is_of t (commit_asked l)) (is_there commit_asked t ls) (commit-asked l t f)
    by (inr f) rest = or-second (is_of t (commit_asked l)) (is_there commit_asked t ls) (rest f)

applied-first : (o : Option (Txn × Say)) (t : Txn) (rest xs : List Say) → of t o ++ rest ≡ applied ∷ xs → (o ≡ Some (t, applied)) ⊎ (rest ≡ applied ∷ xs)
applied-first None t rest xs e = inr e
applied-first (Some p) t rest xs e = by (same_txn p.0 t) refl e
  where
    say-of : List Say → Say
    say-of [] = yes
    say-of (x ∷ ys) = x

    by : (b : Bool) → same_txn p.0 t ≡ b → one b p.1 ++ rest ≡ applied ∷ xs → (Some p ≡ Some (t, applied)) ⊎ (rest ≡ applied ∷ xs)
    by true s f = inl (let first : p.0 ≡ t = same-is p.0 t s in let second : p.1 ≡ applied = ap say-of f in ap Some (λ i. (first i, second i)))
    by false s f = inr f

applied-said : (l : Letter) (t : Txn) → said l ≡ Some (t, applied) → is_of t (commit_told l) ≡ true
applied-said (letter.Applied txn was) t e =
    let same : txn ≡ t = same-first (txn, applied) (t, applied) e in
    ap (λ u. is_of t (Some u)) same ∙ same-self t
applied-said (letter.Vote txn ballot.Yes) t e =
    let bad : yes ≡ applied = same-second (txn, yes) (t, applied) e in
    cc
applied-said (letter.Vote txn (ballot.No why)) t e =
    let bad : no ≡ applied = same-second (txn, no) (t, applied) e in
    cc
applied-said (letter.Aborted txn) t e =
    let bad : aborted ≡ applied = same-second (txn, aborted) (t, applied) e in
    cc
applied-said other t e = cc

says-applied : (t : Txn) (ls : List Letter) (xs : List Say) → says t ls ≡ applied ∷ xs → is_there commit_told t ls ≡ true
says-applied t [] xs e = cc
says-applied t (l ∷ ls) xs e = by (applied-first (said l) t (says t ls) xs e) (says-applied t ls xs)
  where
    by : (said l ≡ Some (t, applied)) ⊎ (says t ls ≡ applied ∷ xs) → (says t ls ≡ applied ∷ xs → is_there commit_told t ls ≡ true)
        → is_there commit_told t (l ∷ ls) ≡ true
    by (inl f) rest = or-first (is_of t (commit_told l)) (is_there commit_told t ls) (applied-said l t f)
    by (inr f) rest = or-second (is_of t (commit_told l)) (is_there commit_told t ls) (rest f)

-- the conversation of a member that is waited for
data Committed (o : List Ask) (b : List Say) : Type 0 where
  told : (xs : List Ask) → o ≡ commit ∷ xs → Committed o b
  heard : (xs : List Say) → b ≡ applied ∷ xs → Committed o b

of-talk : {v : View} {o : List Ask} {a : At} {b : List Say} → Talk v o a b → v ≡ CommitDue → Committed o b
of-talk told_commit e = told [] refl
of-talk told_applied e = heard [] refl
of-talk other e = cc

of-talks : {v : View} {o : List Ask} {a : At} {b : List Say} → Talks true true v o a b → v ≡ CommitDue → Committed o b
of-talks (live h) e = of-talk h e

of-known : {k : Bool} {v : View} {o : List Ask} {a : At} {b : List Say} → IsTalk true true k v o a b → k ≡ false → v ≡ CommitDue → Committed o b
of-known (unknowing h) k e = of-talks h e
of-known (knowing h) k e = cc

-- a library's open call by its attempt

pub call-here : (cs : List OpenCall) (i : ℕ) (c : OpenCall) → Pairwise OtherAttempt cs → slice_get cs i ≡ Some c → call_of cs c.txn ≡ Some c
call-here [] i c h e = cc
call-here (x ∷ xs) zero c h e =
    let is : x ≡ c = cc in
    let self : same_txn x.txn c.txn ≡ true = ap (λ (y : OpenCall). same_txn y.txn c.txn) is ∙ same-self c.txn in
    ap (λ b. if b then Some x else call_of xs c.txn) self ∙ ap Some is
call-here (x ∷ xs) (suc i) c h e = by (same_txn x.txn c.txn) refl (call-here xs i c h.1 e)
  where
    by : (b : Bool) → same_txn x.txn c.txn ≡ b → call_of xs c.txn ≡ Some c → (if b then Some x else call_of xs c.txn) ≡ Some c
    by true s f = absurd (all-is (OtherAttempt x) xs i c h.0 e (ap (λ (t : Txn). t.number) (same-is x.txn c.txn s)))
    by false s f = f

pub has-each : (P : ℕ → Type 0) (xs : List ℕ) (m : ℕ) → AllByRecursion P xs → has xs m ≡ true → P m
has-each P [] m h e = cc
has-each P (x ∷ xs) m h e = by (x == m) refl e (has-each P xs m h.1)
  where
    by : (b : Bool) → (x == m) ≡ b → (b || has xs m) ≡ true → (has xs m ≡ true → P m) → P m
    by true is f rest = subst P (eqb-true x m is) h.0
    by false is f rest = rest f

sees : (l : LibraryState) (list : List ℕ) (t : Txn) (m : ℕ) (v : View) (o : Option OpenCall) → t.number < l.next → has list m ≡ true
    → call_of l.calls t ≡ o → call_view m o ≡ v → view l list t m ≡ v
sees l list t m v o low member here e =
    let made : nat_le l.next t.number ≡ false = grind (arith, nat_tests, low) in
    ap (λ b. if b then New else (if has list m then call_view m (call_of l.calls t) else Off)) made
    ∙ ap (λ b. if b then call_view m (call_of l.calls t) else Off) member ∙ ap (call_view m) here ∙ e

-- a call that commits
pub committing-due : (z : Sizes) (n : Net) (b : Books) (k m : ℕ) (l : LibraryState) (s : BrickState) (c : OpenCall) (leaf : Leaf) (list waiting : List ℕ)
    (was : Option Bool) → Ground z n → Commit z n b → ArePlaced z n → Waits n k m l s c → c.phase ≡ Committing leaf list waiting was
    → IsDue c (n.channel k m) (n.channel m k)
committing-due z n b k m l s c leaf list waiting was g parts placed w e =
    let t = c.txn in
    let ok : LibraryOk z k l = subst (NodeOk (Made n) z k) w.library (placed.nodes k) in
    let call = all-is (CallOk z l.number l.next l.known) l.calls w.at c ok.calls w.there in
    let own : t.library ≡ k = call.library ∙ ok.its_number in
    let here : n.node t.library ≡ a_library l = ap n.node own ∙ w.library in
    let found = call-here l.calls w.at c ok.apart w.there in
    let phase = subst (PhaseOk z l.known c.request.op) e call.its_phase in
    let due : has waiting m ≡ true = ap (λ p. call_concerns p m) (sym e) ∙ w.waits in
    let lists : list ≡ b.list t = subst (IsFor (b.list t)) e ((parts.calls k l w.library).calls t c found).list in
    let member : has (b.list t) m ≡ true = ap (λ xs. has xs m) (sym lists)
    ∙ has-each (λ i. has list i ≡ true) waiting m phase.1.members due in
    let seen : view l (b.list t) t m ≡ CommitDue = sees l (b.list t) t m CommitDue (Some c) call.below member found
    (ap (phase_view m) e ∙ ap (λ d. if d then CommitDue else CommitHeard) due) in
    let said = conversation z n b t m l s g parts here w.member w.live in
    let both : IsTalk true true (has_node s.known t.library) (view l (b.list t) t m) (asks t (n.channel t.library m))
    (at s.locks.pending (b.noted m t) t) (says t (n.channel m t.library)) =
    subst (λ d. IsTalk d true (has_node s.known t.library) (view l (b.list t) t m) (asks t (n.channel t.library m))
    (at s.locks.pending (b.noted m t) t) (says t (n.channel m t.library))) (ap not w.lives) said in
    subst (λ i. IsDue c (n.channel i m) (n.channel m i)) own
    (by own (of-known both (library-unknown z n t.library m l s g here w.member w.lives) seen))
  where
    by : c.txn.library ≡ k → Committed (asks c.txn (n.channel c.txn.library m)) (says c.txn (n.channel m c.txn.library))
        → IsDue c (n.channel c.txn.library m) (n.channel m c.txn.library)
    by own (told xs f) =
        due-by-asked c (n.channel c.txn.library m) (n.channel m c.txn.library)
        (ap (λ p. is_there (asked_in p) c.txn (n.channel c.txn.library m)) e ∙ asks-commit c.txn (n.channel c.txn.library m) xs f)
    by own (heard xs f) =
        due-by-told c (n.channel c.txn.library m) (n.channel m c.txn.library)
        (ap (λ p. is_there (told_in p) c.txn (n.channel m c.txn.library)) e ∙ says-applied c.txn (n.channel m c.txn.library) xs f)
