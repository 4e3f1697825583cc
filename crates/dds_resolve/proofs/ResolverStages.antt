use Rattle.std.proofs.Common.{◌≡◌, ℕ, ◌==◌, ◌&&◌, ◌||◌, ◌⊎◌, Bool, true, false, not, Option, Some, None, List, []}
use Rattle.std.proofs.Common.{◌∷◌, ◌++◌, find, refl, sym, ap, ◌∙◌, subst, append_assoc}
use Rattle.std.proofs.lemmas.Bool.{eqb-true}
use Rattle.std.proofs.lemmas.List.{append-nil}
use Rattle.std.specs.Prelude.{if◌then◌else◌}
use Rattle.dds_base.specs.BrickList.{has}
use Rattle.dds_base.specs.Number.{Txn, same_txn}
use Rattle.dds_base.specs.declared.number.NodeNo.{NodeNo}
use Rattle.dds_base.specs.declared.pending.Pending.{Pending}
use Rattle.dds_base.specs.declared.pending.TxnStatus.{TxnStatus}
use Rattle.dds_base.specs.declared.pending.TxnStatus.TheVariants as txn_status
use Rattle.dds_brick_rows.specs.Calls as calls
use Rattle.dds_brick_rows.specs.Resolution as rows
use Rattle.dds_letters.specs.declared.letter.Letter.{Letter}
use Rattle.dds_letters.specs.declared.letter.Letter.TheVariants as letter
use Rattle.dds_locks.specs.Pending.{first_of}
use Rattle.dds_locks.specs.Status.{status}
use Rattle.dds_states.specs.Turn.{BrickTurn, still, to_each, is_none_left, unknown_others}
use Rattle.dds_states.specs.declared.brick_state.BrickState.{BrickState}
use Rattle.dds_states.specs.declared.brick_state.Resolving.{Resolving}
use Rattle.dds_talk.proofs.Resolving as moves
use Rattle.dds_talk.specs.Table.{At}
use Rattle.dds_talk.specs.Table.At.{Unprepared, Prepared, Committed, Aborted}
use Rattle.dds_talk.specs.Resolve.{Agreed, Resolves, Saw, Tell}
use Rattle.dds_talk.specs.Resolve.Side.{Rest, Wait, Heard}
use Rattle.dds_talk.specs.Resolve.Tell.{query}
use Rattle.dds_talk.specs.Seen.{Once, one, about}
use Rattle.dds_resolve.specs.Letters.{letters_to}
use Rattle.dds_talk.proofs.Letters.{has-without}
use Rattle.dds_talk.proofs.Parts.{once-without, same-self}
use Rattle.dds_resolve.specs.Resolving.{own_at, side_of, status_at, tell_in}
use Rattle.dds_resolve.specs.Conversations.{Round, RoundOk, SawOk, SeenOk, Talking}
use Rattle.dds_resolve.proofs.MemberTurns.{about-sent}
use Rattle.dds_resolve.proofs.MemberAnswers.{status-is}
use Rattle.dds_resolve.proofs.ResolverTurns.{sent-each, outcome-ends, same-nodes, decides-talking}

-- A resolver begins to resolve, hears a status, and goes on.

-- it goes on: the resolving isn't in its list, and then it is, or it is decided
pub found-last : (t : Txn) (rs : List Resolving) (r : Resolving) → find (rows.is_of t) rs ≡ None →
    find (rows.is_of t) (rs ++ r ∷ []) ≡ find (rows.is_of t) (r ∷ [])
found-last t [] r e = refl
found-last t (x ∷ rs) r e = pick (rows.is_of t x) (λ h. found-last t rs r h) e
  where
    pick : (c : Bool) → (find (rows.is_of t) rs ≡ None → find (rows.is_of t) (rs ++ r ∷ []) ≡ find (rows.is_of t) (r ∷ [])) →
        (if c then Some x else find (rows.is_of t) rs) ≡ None → (if c then Some x else find (rows.is_of t) (rs ++ r ∷ [])) ≡ find (rows.is_of t) (r ∷ [])
    pick true w h = cc
    pick false w h = w h

is-of : (t : Txn) (r : Resolving) → r.txn ≡ t → rows.is_of t r ≡ true
is-of t r e = ap (λ v. same_txn v t) e ∙ same-self t

-- the same of a state and a resolving that are told apart by nothing here
pub talking-same : {d : Bool} (z : Round) (x y : Option Resolving) (s u : BrickState) (sent : List (NodeNo × Letter)) → x ≡ y →
    own_at u z.txn ≡ own_at s z.txn → u.number ≡ s.number → u.known ≡ s.known → Talking z d x s sent → Talking z d y u sent
talking-same {d = d} z x y s u sent e own number known h =
    record {
      grows = h.grows;
      why = subst (λ k. d ≡ true → (z.before ≡ true) ⊎ (k ≡ Committed)) (sym own) h.why;
      all_ready = h.all_ready;
      each = λ m i. subst (λ k. Resolves d (side_of k m) (z.to m ++ about tell_in z.txn (letters_to m sent)) (z.put_off m) (z.ready m) (z.at m) (z.back m)) e
          (h.each m i);
      mates = h.mates;
      own = subst (Agreed d) (sym own) h.own;
      seen = subst (SeenOk d z.list (own_at u z.txn)) e (subst (λ a. SeenOk d z.list a x) (sym own) h.seen);
      number = number ∙ h.number;
      known = known ∙ h.known;
    }

pub talking-still : {d : Bool} {z : Round} {x : Option Resolving} {s : BrickState} {sent : List (NodeNo × Letter)} → Talking z d x s sent →
    Talking z d x s (sent ++ [])
talking-still {d = d} {z = z} {x = x} {s = s} {sent = sent} h = subst (Talking z d x s) (sym (append-nil sent)) h

-- a state of the turn: with what is in the brick's list, and what it has pending
pub record Stage (z : Round) (s : BrickState) (sent : List (NodeNo × Letter)) : Type 0 where
  pub decided : Bool
  pub now : Talking z decided (find (rows.is_of z.txn) s.resolving) s sent
  pub once : Once s.locks.pending

pub stage-if : (z : Round) (c : Bool) (r q : BrickTurn) (sent : List (NodeNo × Letter)) → (c ≡ true → Stage z r.state (sent ++ r.out.letters)) →
    (c ≡ false → Stage z q.state (sent ++ q.out.letters)) → Stage z (if c then r else q).state (sent ++ (if c then r else q).out.letters)
stage-if z true r q sent f g = f refl
stage-if z false r q sent f g = g refl

pub settled-once : (s : BrickState) (x : Txn) (c : Bool) (p : Option Pending) → Once s.locks.pending →
    Once (rows.settled (calls.dropped s x) c p).state.locks.pending
settled-once s x c None o = once-without s.locks.pending x o
settled-once s x true (Some p) o = once-without s.locks.pending x o
settled-once s x false (Some p) o = once-without s.locks.pending x o

-- the resolving is kept, and is the brick's one of the attempt
pub kept-stage : {d : Bool} (z : Round) (r : Resolving) (s : BrickState) (sent : List (NodeNo × Letter)) → r.txn ≡ z.txn →
    find (rows.is_of z.txn) s.resolving ≡ None → Once s.locks.pending → Talking z d (Some r) s sent →
    Stage z (record s { resolving = s.resolving ++ r ∷ [] }) (sent ++ [])
kept-stage {d = d} z r s sent rt none once h =
    record {
      decided = d;
      now = talking-still (talking-same z (Some r) (find (rows.is_of z.txn) (s.resolving ++ r ∷ [])) s (record s { resolving = s.resolving ++ r ∷ [] }) sent
          (sym (found-last z.txn s.resolving r none ∙ mine (rows.is_of z.txn r) (is-of z.txn r rt))) refl refl refl h);
      once = once;
    }
  where
    mine : (c : Bool) → c ≡ true → (if c then Some r else None) ≡ Some r
    mine true i = refl
    mine false i = cc

pub resolves-stage : {d : Bool} (z : Round) (r : Resolving) (s : BrickState) (sent : List (NodeNo × Letter)) → RoundOk z → Once s.locks.pending →
    r.txn ≡ z.txn → find (rows.is_of z.txn) s.resolving ≡ None → Talking z d (Some r) s sent →
    Stage z (rows.resolves_on s r).state (sent ++ (rows.resolves_on s r).out.letters)
resolves-stage z r s sent ok once rt none h =
    stage-if z (is_none_left r.waiting) (rows.decides s r) (still (record s { resolving = s.resolving ++ r ∷ [] })) sent
    (λ e. record {
      decided = rows.verdict r;
      now = talking-same z None (find (rows.is_of z.txn) (rows.decides s r).state.resolving) (rows.decides s r).state (rows.decides s r).state
          (sent ++ (rows.decides s r).out.letters)
          (sym (ap (find (rows.is_of z.txn)) (outcome-ends s r.txn (rows.verdict r)).resolving ∙ none)) refl refl refl
          (decides-talking z r s sent ok once rt e h);
      once = settled-once s r.txn (rows.verdict r) (first_of s.locks.pending r.txn) once;
    })
    (λ e. kept-stage z r s sent rt none once h)

-- it begins to resolve
saw-self : (st : TxnStatus) → Saw (rows.is_commit st) (rows.is_no st) (status_at st)
saw-self txn_status.NotPrepared = refl
saw-self txn_status.Prepared = tt
saw-self txn_status.Committed = refl
saw-self txn_status.Aborted = refl

pub commit-shown : (d : Bool) (st : TxnStatus) → rows.is_commit st ≡ true → Agreed d (status_at st) → d ≡ true
commit-shown true st e h = refl
commit-shown false txn_status.NotPrepared e h = cc
commit-shown false txn_status.Prepared e h = cc
commit-shown false txn_status.Committed e h = absurd h
commit-shown false txn_status.Aborted e h = cc

pub no-shown : (d : Bool) (st : TxnStatus) → rows.is_no st ≡ true → Agreed d (status_at st) → d ≡ false
no-shown false st e h = refl
no-shown true txn_status.NotPrepared e h = absurd h
no-shown true txn_status.Prepared e h = cc
no-shown true txn_status.Committed e h = cc
no-shown true txn_status.Aborted e h = absurd h

begin-one : {d q r : Bool} {a : At} {b : List At} (o ys sent zs : List Tell) → ys ≡ sent ++ zs → zs ≡ query ∷ [] → Resolves d Rest (o ++ sent) q r a b →
    Resolves d Wait (o ++ ys) q r a b
begin-one {d = d} {q = q} {r = r} {a = a} {b = b} o ys sent zs i j h =
    subst (λ k. Resolves d Wait k q r a b) (append_assoc o sent (query ∷ []) ∙ ap (λ k. o ++ k) (sym (i ∙ ap (λ k. sent ++ k) j))) (moves.begins h)

waits-for : (r : Resolving) (m : ℕ) → has r.waiting m ≡ true → side_of (Some r) m ≡ Wait
waits-for r m e = rw e refl

pub resolve-stage : {d : Bool} (z : Round) (s : BrickState) (x : Txn) (list : List ℕ) (sent : List (NodeNo × Letter)) → RoundOk z → Once s.locks.pending →
    x ≡ z.txn → list ≡ z.list → find (rows.is_of z.txn) s.resolving ≡ None → Talking z d None s sent →
    Stage z (rows.resolve s x list).state (sent ++ (rows.resolve s x list).out.letters)
resolve-stage {d = d} z s x list sent ok once xt same none h =
    let st = status s.locks x in
    let r = rows.started s x list in
    let ls = to_each (unknown_others list s.number s.known) (letter.Query x list) in
    let nodes : unknown_others list s.number s.known ≡ unknown_others z.list z.me z.known =
    same-nodes list z.list s.number z.me s.known z.known same h.number h.known in
    let own : status_at st ≡ own_at s z.txn = ap (λ t. status_at (status s.locks t)) xt ∙ status-is s z.txn in
    let agreed : Agreed d (status_at st) = subst (Agreed d) (sym own) h.own in
    let mine = (λ (m : ℕ) (i : z.live m ≡ true). ap (λ ns. has ns m) nodes ∙ ok.live m i) in
    let told = (λ (m : ℕ) (i : z.live m ≡ true). ap (λ ns. about tell_in z.txn (letters_to m (to_each ns (letter.Query x list)))) nodes
    ∙ sent-each z.txn (letter.Query x list) query (unknown_others z.list z.me z.known) m ok.alone
    (ap (λ b. one b query) (ap (λ v. same_txn v z.txn) xt ∙ same-self z.txn)) ∙ ap (λ b. one b query) (ok.live m i)) in
    let asked : Talking z d (Some r) s (sent ++ ls) = record {
      grows = h.grows;
      why = h.why;
      all_ready = h.all_ready;
      each = λ m i. subst (λ v. Resolves d v (z.to m ++ about tell_in z.txn (letters_to m (sent ++ ls))) (z.put_off m) (z.ready m) (z.at m) (z.back m))
          (sym (waits-for r m (mine m i))) (begin-one (z.to m) (about tell_in z.txn (letters_to m (sent ++ ls))) (about tell_in z.txn (letters_to m sent))
          (about tell_in z.txn (letters_to m ls)) (about-sent tell_in z.txn m sent ls) (told m i) (h.each m i));
      mates = h.mates;
      own = h.own;
      seen = record {
        list = same;
        commit = λ e. commit-shown d st e agreed;
        no = λ e. no-shown d st e agreed;
        own = subst (Saw (rows.is_commit st) (rows.is_no st)) own (saw-self st);
      };
      number = h.number;
      known = h.known;
    } in
    let k = resolves-stage z r s (sent ++ ls) ok once xt none asked in
    subst (Stage z (rows.resolve s x list).state) (append_assoc sent ls (rows.resolves_on s r).out.letters) k

-- a member tells its status
abbrev pub with_status : Round → ℕ → At → Round
with_status z from e = record z { back = λ m. if m == from then e ∷ z.back m else z.back m }

or-right : (x : Bool) → (x || true) ≡ true
or-right true = refl
or-right false = refl

same-commit : (st : TxnStatus) → moves.is_commit (status_at st) ≡ rows.is_commit st
same-commit txn_status.NotPrepared = refl
same-commit txn_status.Prepared = refl
same-commit txn_status.Committed = refl
same-commit txn_status.Aborted = refl

same-no : (st : TxnStatus) → moves.is_no (status_at st) ≡ rows.is_no st
same-no txn_status.NotPrepared = refl
same-no txn_status.Prepared = refl
same-no txn_status.Committed = refl
same-no txn_status.Aborted = refl

saw-more : (c n x y : Bool) (a : At) → Saw c n a → Saw (c || x) (n || y) a
saw-more c n x y Unprepared h = rw h refl
saw-more c n x y Prepared h = tt
saw-more c n x y Committed h = rw h refl
saw-more c n x y Aborted h = rw h refl

either-shown : (c x : Bool) (holds : Type 0) → (c ≡ true → holds) → (x ≡ true → holds) → (c || x) ≡ true → holds
either-shown true x holds f g e = f refl
either-shown false x holds f g e = g e

hear-if : {d q r : Bool} {o : List Tell} {a : At} {b : List At} (z : Round) (rs : Resolving) (st : TxnStatus) (from m : ℕ) (mine waits : Bool) →
    (m == from) ≡ mine → has rs.waiting m ≡ waits → has rs.waiting from ≡ true →
    Resolves d (if waits then Wait else Heard rs.saw_commit rs.saw_no) o q r a (if mine then status_at st ∷ b else b) →
    Resolves d (if (waits && not mine) then Wait else Heard (rs.saw_commit || rows.is_commit st) (rs.saw_no || rows.is_no st)) o q r a b
hear-if {d = d} {q = q} {r = r} {o = o} {a = a} {b = b} z rs st from m true true e f g h =
    subst (λ y. Resolves d (Heard (rs.saw_commit || rows.is_commit st) (rs.saw_no || y)) o q r a b) (same-no st)
    (subst (λ x. Resolves d (Heard (rs.saw_commit || x) (rs.saw_no || moves.is_no (status_at st))) o q r a b) (same-commit st)
    (moves.hears rs.saw_commit rs.saw_no h).0)
hear-if z rs st from m true false e f g h = let q : true ≡ false = sym g ∙ ap (has rs.waiting) (sym (eqb-true m from e)) ∙ f in cc
hear-if z rs st from m false true e f g h = h
hear-if z rs st from m false false e f g h = moves.hears-other rs.saw_commit rs.saw_no (rows.is_commit st) (rows.is_no st) h

pub status-heard : {d : Bool} (z : Round) (r : Resolving) (s : BrickState) (from : NodeNo) (st : TxnStatus) (sent : List (NodeNo × Letter)) →
    Talking (with_status z from (status_at st)) d (Some r) s sent → has r.waiting from ≡ true → Agreed d (status_at st) →
    Talking z d (Some (rows.unwaited (rows.heard r st) from)) s sent
status-heard {d = d} z r s from st sent h w agreed =
    let saw : SawOk d z.list (own_at s z.txn) r = h.seen in
    record {
      grows = h.grows;
      why = h.why;
      all_ready = h.all_ready;
      each = λ m i. subst (λ c. Resolves d (if c then Wait else Heard (r.saw_commit || rows.is_commit st) (r.saw_no || rows.is_no st))
          (z.to m ++ about tell_in z.txn (letters_to m sent)) (z.put_off m) (z.ready m) (z.at m) (z.back m)) (sym (has-without r.waiting from m))
          (hear-if z r st from m (m == from) (has r.waiting m) refl refl w (h.each m i));
      mates = h.mates;
      own = h.own;
      seen = record {
        list = saw.list;
        commit = either-shown r.saw_commit (rows.is_commit st) (d ≡ true) saw.commit (λ e. commit-shown d st e agreed);
        no = either-shown r.saw_no (rows.is_no st) (d ≡ false) saw.no (λ e. no-shown d st e agreed);
        own = saw-more r.saw_commit r.saw_no (rows.is_commit st) (rows.is_no st) (own_at s z.txn) saw.own;
      };
      number = h.number;
      known = h.known;
    }

-- an attempt is resolved once
abbrev pub OnceIn : Txn → List Resolving → Type 0
OnceIn t [] = Unit {0}
OnceIn t (r ∷ rs) = (rows.is_of t r ≡ true → find (rows.is_of t) rs ≡ None) × OnceIn t rs
