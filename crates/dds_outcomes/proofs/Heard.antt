use Rattle.std.proofs.Common.{◌≡◌, ℕ, ◌++◌, inl, Bool, true, false, cond, List, [], ◌∷◌, Option, Some, None, find, refl, sym, ap, ◌∙◌, subst}
use Rattle.std.specs.FinMap.{get}
use Rattle.std.specs.List.{AllByRecursion}
use Rattle.dds_base.specs.BrickList.{has}
use Rattle.dds_base.specs.NodeSet.{has_node}
use Rattle.dds_base.specs.Number.{Txn, same_txn}
use Rattle.dds_base.specs.declared.pending.TxnStatus.{TxnStatus}
use Rattle.dds_base.specs.declared.pending.TxnStatus.TheVariants as txn_status
use Rattle.dds_brick_rows.specs.Resolution.{is_commit, is_of, is_ready}
use Rattle.dds_cluster.specs.declared.trace.Caller.{Caller}
use Rattle.dds_letters.specs.declared.letter.Letter.{Letter}
use Rattle.dds_letters.specs.declared.letter.Letter.TheVariants as letter
use Rattle.dds_net.specs.Event.{Fits, brick_takes}
use Rattle.dds_net.specs.Net.{Net, a_brick, Sizes}
use Rattle.dds_resolve.proofs.Here.{unknown-sender}
use Rattle.dds_resolve.proofs.ReadyKeeps.{was-ready}
use Rattle.dds_resolve.specs.Conversations.{SawOk, SeenOk}
use Rattle.dds_resolve.specs.Law.{Differ, txns}
use Rattle.dds_resolve.specs.Resolved.{Pair}
use Rattle.dds_resolve.specs.Resolving.{own_at, side, status_at, status_in, tell_in}
use Rattle.dds_resolve.specs.Team.{LetterOk}
use Rattle.dds_resolve.specs.Teams.{ground}
use Rattle.dds_states.specs.Turn.{first_some}
use Rattle.dds_states.specs.declared.brick_state.BrickState.{BrickState}
use Rattle.dds_states.specs.declared.brick_state.Resolving.{Resolving}
use Rattle.dds_talk.proofs.Parts.{is-same, same-self, same-swap}
use Rattle.dds_talk.specs.Books.{Books}
use Rattle.dds_talk.specs.Resolve.{Agreed, Resolves, Saw, Side, Tell}
use Rattle.dds_talk.specs.Resolve.Resolves.{answered}
use Rattle.dds_talk.specs.Seen.{about, at_of, is_pending, one}
use Rattle.dds_talk.specs.Table.{At}
use Rattle.dds_talk.specs.Table.At.{Committed}
use Rattle.dds_outcomes.proofs.VerdictTurns.{NewsOk}
use Rattle.dds_outcomes.proofs.Verdicts.{Fair}
use Rattle.dds_outcomes.specs.Kept.{Holds, IsSpoken}

-- What a resolver has seen, and what it hears, is so: from the parts of one world.

-- what it has seen
own-open : (p : Bool) (g : Option Bool) (c n : Bool) → c ≡ false → n ≡ false → Saw c n (at_of p g) → p ≡ true
own-open true g c n e f h = refl
own-open false None c n e f h = let no : true ≡ false = sym h ∙ f in cc
own-open false (Some true) c n e f h = let no : true ≡ false = sym h ∙ e in cc
own-open false (Some false) c n e f h = let no : true ≡ false = sym h ∙ f in cc

fair-of : (D : Txn → Bool) (list : Txn → List ℕ) (s : BrickState) (r : Resolving) → SawOk (D r.txn) (list r.txn) (own_at s r.txn) r → Fair D s.locks r
fair-of D list s r h =
    record {
      commit = λ e. inl (h.commit e);
      open_here = λ e g. own-open (is_pending s.locks.pending r.txn) (get s.locks.outcomes r.txn) r.saw_commit r.saw_no e g h.own;
    }

none-found : (rs : List Resolving) (t : Txn) → AllByRecursion (λ y. same_txn t y ≡ false) (txns rs) → find (is_of t) rs ≡ None
none-found [] t h = refl
none-found (r ∷ rs) t h = ap (λ b. cond b (Some r) (find (is_of t) rs)) (same-swap r.txn t ∙ h.0) ∙ none-found rs t h.1

abbrev AllSeen : (Txn → Bool) → (Txn → List ℕ) → BrickState → List Resolving → Type 0
AllSeen D list s rs = (t : Txn) → SeenOk (D t) (list t) (own_at s t) (find (is_of t) rs)

seen-rest : (D : Txn → Bool) (list : Txn → List ℕ) (s : BrickState) (r : Resolving) (rs : List Resolving)
    → AllByRecursion (λ y. same_txn r.txn y ≡ false) (txns rs) → AllSeen D list s (r ∷ rs) → AllSeen D list s rs
seen-rest D list s r rs a h t = pick (same_txn r.txn t) refl
  where
    Seen : Option Resolving → Type 0
    Seen x = SeenOk (D t) (list t) (own_at s t) x

    pick : (c : Bool) → same_txn r.txn t ≡ c → Seen (find (is_of t) rs)
    pick true e =
        subst Seen (sym (none-found rs t (subst (λ x. AllByRecursion (λ y. same_txn x y ≡ false) (txns rs)) (is-same r.txn t e) a))) tt
    pick false e = subst Seen (ap (λ b. cond b (Some r) (find (is_of t) rs)) e) (h t)

pub all-fair : (D : Txn → Bool) (list : Txn → List ℕ) (s : BrickState) (rs : List Resolving) → Differ (txns rs) → AllSeen D list s rs
    → AllByRecursion (Fair D s.locks) rs
all-fair D list s [] a h = tt
all-fair D list s (r ∷ rs) a h = (
  fair-of D list s r (subst (SeenOk (D r.txn) (list r.txn) (own_at s r.txn)) (ap (λ b. cond b (Some r) (find (is_of r.txn) rs)) (same-self r.txn))
      (h r.txn)),
  all-fair D list s rs a.1 (seen-rest D list s r rs a.0 h),
)

-- what it hears
heard-at : {d q r : Bool} {v : Side} {o : List Tell} {a x : At} {xs : List At} → Resolves d v o q r a (x ∷ xs) → a ≡ x
heard-at answered = refl

commit-at : (st : TxnStatus) → is_commit st ≡ true → status_at st ≡ Committed
commit-at txn_status.NotPrepared e = cc
commit-at txn_status.Prepared e = cc
commit-at txn_status.Committed e = refl
commit-at txn_status.Aborted e = cc

committed-at : (p : Bool) (g : Option Bool) → at_of p g ≡ Committed → g ≡ Some true
committed-at true g e = cc
committed-at false None e = cc
committed-at false (Some true) e = refl
committed-at false (Some false) e = cc

agreed-commit : (d : Bool) → Agreed d Committed → d ≡ true
agreed-commit true h = refl
agreed-commit false h = absurd h

status-decided : (z : Sizes) (n : Net) (b : Books) (at from : ℕ) (t : Txn) (st : TxnStatus) (s y : BrickState) (others : List Letter) → Holds z n b
    → Pair n b.list t at from s y → n.channel from at ≡ letter.Status t st ∷ others → is_commit st ≡ true → b.decided t ≡ true
status-decided z n b at from t st s y others holds pair first commit = pick y.stopped refl
  where
    front : about status_in t (n.channel from at) ≡ Committed ∷ about status_in t others
    front = ap (about status_in t) first ∙ ap (λ k. one k (status_at st) ++ about status_in t others) (same-self t)
        ∙ ap (λ x. x ∷ about status_in t others) (commit-at st commit)

    pick : (c : Bool) → y.stopped ≡ c → b.decided t ≡ true
    pick false e =
        let k = holds.parts.resolve.alive t at from s y pair e in
        let own : own_at y t ≡ Committed = heard-at (subst (λ xs. Resolves (b.decided t) (side s t from) (about tell_in t (n.channel at from) ++ []) k.put
        (is_ready y.known t (b.list t) at) (own_at y t) xs) front k.now) in
        let noted = committed-at (is_pending y.locks.pending t) (get y.locks.outcomes t) own in
        holds.commit.noted from t (sym ((holds.commit.note from y pair.member).agrees t) ∙ ap (λ g. first_some g (b.noted from t)) noted)
    pick true e =
        let lost = holds.parts.resolve.lost t at from s y pair e in
        let is : lost.at ≡ Committed = heard-at (subst (λ xs. Resolves (b.decided t) (side s t from) lost.out lost.put lost.ready lost.at (xs ++ lost.cut))
        front
        lost.now) in
        agreed-commit (b.decided t) (subst (Agreed (b.decided t)) is lost.agreed)

news-ok : (z : Sizes) (n : Net) (b : Books) (at from : ℕ) (l : Letter) (s : BrickState) (others : List Letter) → Holds z n b
    → LetterOk (ground z n b.list) from at l → IsSpoken n from l → n.node at ≡ a_brick s → s.stopped ≡ false
    → has_node s.known from ≡ false → n.channel from at ≡ l ∷ others → NewsOk b.decided l
news-ok z n b at from (letter.Status t st) s others holds ok spoken here live unknown first = λ e.
    status-decided z n b at from t st s spoken.0 others holds (record {
      resolver = here;
      lives = live;
      member = spoken.1;
      apart = ok.apart;
      in_list = ap (λ (k : List ℕ). has k from) ok.team.members.listed ∙ ok.team.members.member;
      unknown = unknown;
    }) first e
news-ok z n b at from other s others holds ok spoken here live unknown first = tt

pub record Hears (D : Txn → Bool) (l : Letter) (s : BrickState) : Type 0 where
  pub once : Differ (txns s.resolving)
  pub fair : AllByRecursion (Fair D s.locks) s.resolving
  pub news : NewsOk D l

pub brick-hears : (z : Sizes) (cs : List Caller) (n : Net) (b : Books) (at from : ℕ) (l : Letter) (s : BrickState) → Fits z cs n (brick_takes at from l s)
    → Holds z n b → Hears b.decided l s
brick-hears z cs n b at from l s f holds =
    let ready = was-ready n at s f.here holds.parts.ready in
    let ok : LetterOk (ground z n b.list) from at l =
    (subst (AllByRecursion (LetterOk (ground z n b.list) from at)) f.letter.first (holds.parts.teams.letters from at)).0 in
    let spoken : IsSpoken n from l = (subst (AllByRecursion (IsSpoken n from)) f.letter.first (holds.speaks from at)).0 in
    record {
      once = ready.once;
      fair = all-fair b.decided b.list s s.resolving ready.once (λ t. holds.parts.resolve.seen t at s f.here f.live);
      news = news-ok z n b at from l s f.letter.others holds ok spoken f.here f.live (unknown-sender z n at from l s holds.links f.letter f.here)
          f.letter.first;
    }
