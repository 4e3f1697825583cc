use Rattle.std.proofs.Common.{◌≡◌, ℕ, ◌==◌, ◌&&◌, ◌||◌, ◌⊎◌, inl, inr, Bool, true, false, not, List, [], ◌++◌, find, Option, Some}
use Rattle.std.proofs.Common.{None, refl, sym, ap, ◌∙◌, subst, arith}
use Rattle.std.proofs.lemmas.Bool.{and_parts}
use Rattle.std.proofs.lemmas.Bool.Decides.{nat_tests}
use Rattle.std.proofs.lemmas.List.{append-nil}
use Rattle.dds_base.specs.BrickList.{has}
use Rattle.dds_base.specs.NodeSet.{has_node}
use Rattle.dds_base.specs.Number.{Txn}
use Rattle.dds_base.specs.declared.node_set.NodeSet.{NodeSet}
use Rattle.dds_brick_rows.specs.Resolution.{is_of, is_ready}
use Rattle.dds_groups.proofs.Members.{has-live}
use Rattle.dds_letters.specs.declared.letter.Letter.{Letter}
use Rattle.dds_net.specs.Net.{Net, a_brick}
use Rattle.dds_states.specs.Turn.{BrickTurn, unknown, unknown_others}
use Rattle.dds_base.specs.declared.number.NodeNo.{NodeNo}
use Rattle.dds_states.specs.declared.brick_state.BrickState.{BrickState}
use Rattle.dds_states.specs.declared.brick_state.Resolving.{Resolving}
use Rattle.dds_talk.proofs.Letters.{has-without}
use Rattle.dds_talk.specs.Books.{is_yes}
use Rattle.dds_talk.specs.Resolve.{Agreed, Resolves}
use Rattle.dds_talk.specs.Seen.{about, at_of}
use Rattle.dds_talk.specs.Table.{At}
use Rattle.dds_talk.specs.Table.At.{Committed}
use Rattle.dds_resolve.proofs.TeamTurns.{not-both}
use Rattle.dds_resolve.proofs.Hearing.{hearing}
use Rattle.dds_resolve.proofs.Seats.{Seated, absent, living, lost, is_seated, seat-agreed, seat-now, seat_of}
use Rattle.dds_resolve.proofs.Turned.{Turned}
use Rattle.dds_resolve.specs.Conversations.{Round, SeenOk, Talking}
use Rattle.dds_resolve.specs.Letters.{letters_to}
use Rattle.dds_resolve.specs.Resolved.{Alive, Lost, Pair}
use Rattle.dds_resolve.specs.Resolving.{own_at, side, side_of, status_in, tell_in}

-- A resolver's turn, in the world: from the conversations before it to those after it.

abbrev pub Seating : Net → Bool → Txn → List ℕ → ℕ → BrickState → Type 0
Seating w d t list n s = (m : ℕ) → Seated w d t list n m s

-- the round, with what the resolver knows in the turn; `v` is the world after it, whose channels to the resolver lack the letter
abbrev pub round : (w v : Net) (d : Bool) (t : Txn) (list : List ℕ) (n : ℕ) (s : BrickState) → NodeSet → Seating w d t list n s → Round
round w v d t list n s known q =
    record {
      txn = t;
      before = d;
      list = list;
      me = n;
      known = known;
      live = λ m. is_seated (q m) && has (unknown_others list n known) m;
      to = λ m. (seat_of (about status_in t (v.channel m n)) (q m)).to;
      put_off = λ m. (seat_of (about status_in t (v.channel m n)) (q m)).put_off;
      ready = λ m. (seat_of (about status_in t (v.channel m n)) (q m)).ready;
      at = λ m. (seat_of (about status_in t (v.channel m n)) (q m)).at;
      back = λ m. (seat_of (about status_in t (v.channel m n)) (q m)).back;
    }

-- what is on its way back before the turn
abbrev pub back_of : (w : Net) (d : Bool) (t : Txn) (list : List ℕ) (n : ℕ) (s : BrickState) → Seating w d t list n s → ℕ → List At
back_of w d t list n s q m = (seat_of (about status_in t (w.channel m n)) (q m)).back

pub starts : (w v : Net) (d : Bool) (t : Txn) (list : List ℕ) (n : ℕ) (s u : BrickState) (known : NodeSet) (q : Seating w d t list n s) →
    Agreed d (own_at u t) → SeenOk d list (own_at u t) (find (is_of t) s.resolving) → u.number ≡ n → u.known ≡ known
    → Talking (hearing (round w v d t list n s known q) (back_of w d t list n s q)) d (find (is_of t) s.resolving) u []
starts w v d t list n s u known q own seen number knows =
    record {
      grows = λ e. e;
      why = λ e. inl e;
      all_ready = λ e. inl e;
      each = λ m i. seat-now (about status_in t (v.channel m n)) (q m) (and_parts (is_seated (q m)) (has (unknown_others list n known) m) i).0;
      mates = λ m i. seat-agreed (about status_in t (v.channel m n)) (q m) (and_parts (is_seated (q m)) (has (unknown_others list n known) m) i).0;
      own = own;
      seen = seen;
      number = number;
      known = knows;
    }

-- with other words for what is on its way back
pub rebased : {d : Bool} (z : Round) (a b : ℕ → List At) (x : Option Resolving) (s : BrickState) (sent : List (NodeNo × Letter)) →
    ((m : ℕ) → z.live m ≡ true → a m ≡ b m) → Talking (hearing z a) d x s sent → Talking (hearing z b) d x s sent
rebased {d = d} z a b x s sent e h =
    record {
      grows = h.grows;
      why = h.why;
      all_ready = h.all_ready;
      each = λ m i. subst (λ bs. Resolves d (side_of x m) (z.to m ++ about tell_in z.txn (letters_to m sent)) (z.put_off m) (z.ready m) (z.at m) bs) (e m i)
          (h.each m i);
      mates = h.mates;
      own = h.own;
      seen = h.seen;
      number = h.number;
      known = h.known;
    }

-- whom the resolver doesn't know
pub others-there : (list : List ℕ) (n : ℕ) (known : NodeSet) (m : ℕ) → has list m ≡ true → (m == n) ≡ false → has_node known m ≡ false →
    has (unknown_others list n known) m ≡ true
others-there list n known m a b c = has-without (unknown list known) n m ∙ ap (λ k. k && not (m == n)) (has-live list (has_node known) m)
    ∙ all-true (has list m) (has_node known m) (m == n) a c b
  where
    all-true : (x y z : Bool) → x ≡ true → y ≡ false → z ≡ false → ((x && not y) && not z) ≡ true
    all-true false y z e f g = cc
    all-true true true z e f g = cc
    all-true true false true e f g = cc
    all-true true false false e f g = refl

-- the conversations after the turn
pub brick-same : (u y : BrickState) → a_brick u ≡ a_brick y → u ≡ y
brick-same u y e = cc

alive-after : (w v : Net) (d : Bool) (t : Txn) (list : List ℕ) (n from m : ℕ) (s y : BrickState) (l : Letter) (rest : List Letter) (r : BrickTurn) (e : Bool)
    (q : Seated w d t list n m s) → Turned w v n from s l rest r → (m == n) ≡ false
    → w.node m ≡ a_brick y → y.stopped ≡ false → is_seated q ≡ true
    → Resolves e (side r.state t m) ((seat_of (about status_in t (v.channel m n)) q).to ++ about tell_in t (letters_to m r.out.letters))
    (seat_of (about status_in t (v.channel m n)) q).put_off
    (seat_of (about status_in t (v.channel m n)) q).ready (seat_of (about status_in t (v.channel m n)) q).at
    (seat_of (about status_in t (v.channel m n)) q).back
    → Alive v e t list n m r.state y
alive-after w v d t list n from m s y l rest r e absent step mn is lives there h = cc
alive-after w v d t list n from m s y l rest r e (lost u i k c) step mn is lives there h =
    let uy : u ≡ y = brick-same u y (sym i ∙ is) in absurd (not-both y.stopped (ap (λ (b : BrickState). b.stopped) (sym uy) ∙ k) lives)
alive-after w v d t list n from m s y l rest r e (living u i k a c) step mn is lives there h =
    let uy : u ≡ y = brick-same u y (sym i ∙ is) in
    subst (λ b. Alive v e t list n m r.state b) uy (record {
      put = c.put;
      waiting = c.waiting;
      now = subst (λ o. Resolves e (side r.state t m) o c.put (is_ready u.known t list n) (own_at u t) (about status_in t (v.channel m n)))
          (sym (ap (λ o. o ++ []) (step.tells t m u i mn) ∙ append-nil (about tell_in t (w.channel n m) ++ about tell_in t (letters_to m r.out.letters)))) h;
    })

lost-after : (w v : Net) (d : Bool) (t : Txn) (list : List ℕ) (n m : ℕ) (s y : BrickState) (r : BrickTurn) (e : Bool) (q : Seated w d t list n m s)
    → w.node m ≡ a_brick y → y.stopped ≡ true → is_seated q ≡ true → Agreed e (seat_of (about status_in t (v.channel m n)) q).at
    → Resolves e (side r.state t m) ((seat_of (about status_in t (v.channel m n)) q).to ++ about tell_in t (letters_to m r.out.letters))
    (seat_of (about status_in t (v.channel m n)) q).put_off
    (seat_of (about status_in t (v.channel m n)) q).ready (seat_of (about status_in t (v.channel m n)) q).at
    (seat_of (about status_in t (v.channel m n)) q).back
    → Lost v e t n m r.state
lost-after w v d t list n m s y r e absent is stops there agreed h = cc
lost-after w v d t list n m s y r e (living u i k a c) is stops there agreed h =
    let uy : u ≡ y = brick-same u y (sym i ∙ is) in absurd (not-both y.stopped stops (ap (λ (b : BrickState). b.stopped) (sym uy) ∙ k))
lost-after w v d t list n m s y r e (lost u i k c) is stops there agreed h =
    record { out = c.out ++ about tell_in t (letters_to m r.out.letters); put = c.put; ready = c.ready; at = c.at; cut = c.cut; agreed = agreed; now = h }

-- A resolver's turn: whether a commit is decided by now, its conversations, and that the live members and itself fit that
pub record Going (w v : Net) (list : Txn → List ℕ) (t : Txn) (n : ℕ) (s : BrickState) (r : BrickTurn) (d : Bool) : Type 0 where
  pub decided : Bool
  pub grows : d ≡ true → decided ≡ true
  pub why : decided ≡ true → (d ≡ true) ⊎ (own_at r.state t ≡ Committed)
  pub all_ready : decided ≡ true → (d ≡ true)
      ⊎ ((m : ℕ) (y : BrickState) → Pair w list t n m s y → has_node r.state.known m ≡ false → y.stopped ≡ false → is_ready y.known t (list t) n ≡ true)
  pub alive : (m : ℕ) (y : BrickState) → Pair w list t n m s y → has_node r.state.known m ≡ false → y.stopped ≡ false → Alive v decided t (list t) n m r.state y
  pub lost : (m : ℕ) (y : BrickState) → Pair w list t n m s y → has_node r.state.known m ≡ false → y.stopped ≡ true → Lost v decided t n m r.state
  pub mates : (m : ℕ) (y : BrickState) → Pair w list t n m s y → has_node r.state.known m ≡ false → y.stopped ≡ false → Agreed decided (own_at y t)
  pub own : Agreed decided (own_at r.state t)
  pub seen : SeenOk decided (list t) (own_at r.state t) (find (is_of t) r.state.resolving)

mate-agreed : {w : Net} {d : Bool} {t : Txn} {list : List ℕ} {n m : ℕ} {s : BrickState} (b : List At) (e : Bool) (y : BrickState)
    (q : Seated w d t list n m s) → w.node m ≡ a_brick y → y.stopped ≡ false → is_seated q ≡ true → Agreed e (seat_of b q).at → Agreed e (own_at y t)
mate-agreed b e y absent is lives there h = cc
mate-agreed b e y (lost u i k c) is lives there h = let uy : u ≡ y = brick-same u y (sym i ∙ is) in
    absurd (not-both y.stopped (ap (λ (b : BrickState). b.stopped) (sym uy) ∙ k) lives)
mate-agreed {t = t} b e y (living u i k a c) is lives there h = let uy : u ≡ y = brick-same u y (sym i ∙ is) in subst (λ x. Agreed e (own_at x t)) uy h

mate-ready : {w : Net} {d : Bool} {t : Txn} {list : List ℕ} {n m : ℕ} {s : BrickState} (b : List At) (y : BrickState)
    (q : Seated w d t list n m s) → w.node m ≡ a_brick y → y.stopped ≡ false → is_seated q ≡ true → (seat_of b q).ready ≡ true
    → is_ready y.known t list n ≡ true
mate-ready b y absent is lives there h = cc
mate-ready b y (lost u i k c) is lives there h = let uy : u ≡ y = brick-same u y (sym i ∙ is) in
    absurd (not-both y.stopped (ap (λ (b : BrickState). b.stopped) (sym uy) ∙ k) lives)
mate-ready {t = t} {list = list} {n = n} b y (living u i k a c) is lives there h =
    let uy : u ≡ y = brick-same u y (sym i ∙ is) in subst (λ (x : BrickState). is_ready x.known t list n ≡ true) uy h

or-right : {A B D : Type 0} → (B → D) → A ⊎ B → A ⊎ D
or-right f (inl a) = inl a
or-right f (inr b) = inr (f b)

pub going : (w v : Net) (list : Txn → List ℕ) (d : Bool) (t : Txn) (n from : ℕ) (s : BrickState) (l : Letter) (rest : List Letter) (r : BrickTurn)
    (known : NodeSet) (q : Seating w d t (list t) n s)
    → ((m : ℕ) (y : BrickState) → Pair w list t n m s y → is_seated (q m) ≡ true) → r.state.known ≡ known → Turned w v n from s l rest r
    → (e : Bool) → Talking (round w v d t (list t) n s known q) e (find (is_of t) r.state.resolving) r.state r.out.letters → Going w v list t n s r d
going w v list d t n from s l rest r known q there knows step e h =
    let z = round w v d t (list t) n s known q in
    let sits : (m : ℕ) (y : BrickState) → Pair w list t n m s y → has_node r.state.known m ≡ false → z.live m ≡ true =
    (λ m y p u. both (is_seated (q m)) (has (unknown_others (list t) n known) m) (there m y p)
    (others-there (list t) n known m p.in_list (swap n m p.apart) (ap (λ k. has_node k m) (sym knows) ∙ u))) in
    record {
      decided = e;
      grows = h.grows;
      why = h.why;
      all_ready = λ i. or-right (λ f m y p u lives. mate-ready (about status_in t (v.channel m n)) y (q m) p.member lives (there m y p) (f m (sits m y p u)))
          (h.all_ready i);
      alive = λ m y p u lives. alive-after w v d t (list t) n from m s y l rest r e (q m) step (swap n m p.apart) p.member lives (there m y p)
          (h.each m (sits m y p u));
      lost = λ m y p u stops. lost-after w v d t (list t) n m s y r e (q m) p.member stops (there m y p) (h.mates m (sits m y p u)) (h.each m (sits m y p u));
      mates = λ m y p u lives. mate-agreed (about status_in t (v.channel m n)) e y (q m) p.member lives (there m y p) (h.mates m (sits m y p u));
      own = h.own;
      seen = h.seen;
    }
  where
    both : (a b : Bool) → a ≡ true → b ≡ true → (a && b) ≡ true
    both true b i j = j
    both false b i j = cc

    swap : (a b : ℕ) → (a == b) ≡ false → (b == a) ≡ false
    swap a b e = grind (arith, nat_tests, e)

-- what was decided by then is what the books say: what was decided before, or what the resolver noted
is-committed : (p : Bool) (o : Option Bool) → at_of p o ≡ Committed → is_yes o ≡ true
is-committed true o e = cc
is-committed false None e = cc
is-committed false (Some true) e = refl
is-committed false (Some false) e = cc

commits : (p : Bool) (o : Option Bool) → (p ≡ true → o ≡ None) → is_yes o ≡ true → at_of p o ≡ Committed
commits true o f e = let q : false ≡ true = ap is_yes (sym (f refl)) ∙ e in cc
commits false None f e = cc
commits false (Some true) f e = refl
commits false (Some false) f e = cc

pub decided-is : (d e : Bool) (p : Bool) (o : Option Bool) → (p ≡ true → o ≡ None) → (d ≡ true → e ≡ true) → (e ≡ true → (d ≡ true) ⊎ (at_of p o ≡ Committed)) →
    Agreed e (at_of p o) → e ≡ (d || is_yes o)
decided-is true e p o free grows why own = grows refl
decided-is false true p o free grows why own = pick (why refl)
  where
    pick : (false ≡ true) ⊎ (at_of p o ≡ Committed) → true ≡ (false || is_yes o)
    pick (inl k) = cc
    pick (inr k) = sym (is-committed p o k)
decided-is false false p o free grows why own = pick (is_yes o) refl
  where
    pick : (c : Bool) → is_yes o ≡ c → false ≡ (false || is_yes o)
    pick false k = sym k
    pick true k = absurd (subst (Agreed false) (commits p o free k) own)
