use Rattle.std.proofs.Common.{◌≡◌, ℕ, ◌==◌, ◌&&◌, ◌||◌, ◌⊎◌, inl, inr, Bool, true, false, not, Option, Some, None, List, [], ◌∷◌, ◌++◌, find}
use Rattle.std.proofs.Common.{refl, sym, ap, ◌∙◌, subst}
use Rattle.std.specs.Prelude.{if◌then◌else◌}
use Rattle.dds_base.specs.BrickList.{has}
use Rattle.dds_base.specs.NodeSet.{has_node, with_node}
use Rattle.dds_base.specs.Number.{Txn, same_txn}
use Rattle.dds_base.specs.declared.node_set.NodeSet.{NodeSet}
use Rattle.dds_base.specs.declared.number.NodeNo.{NodeNo}
use Rattle.dds_base.specs.declared.pending.Pending.{Pending}
use Rattle.dds_brick_rows.specs.Resolution as rows
use Rattle.dds_brick_rows.specs.declared.resolution.News.TheVariants as news
use Rattle.dds_core.proofs.LetterTells.{Any, Each, order_part}
use Rattle.dds_core.proofs.Rests.{Whole}
use Rattle.dds_core.specs.Notice as notices
use Rattle.dds_letters.specs.declared.letter.Letter.TheVariants as letter
use Rattle.dds_locks.specs.Pending.{first_of}
use Rattle.dds_states.specs.Turn.{BrickTurn, and_then, sends, still, unknown}
use Rattle.dds_states.specs.declared.brick_state.BrickState.{BrickState}
use Rattle.dds_talk.proofs.Parts.{is-same, same-self}
use Rattle.dds_talk.specs.Seen.{Once}
use Rattle.dds_help.proofs.Lists.{any-left, any-right, self, sent_to}
use Rattle.dds_help.proofs.Stays.{Now, Stays, all-asked-stays, hear-stays, pending-stays, pendings-stay, resolve-this, same-stays}
use Rattle.dds_help.proofs.Stays.Now.{ended, stays}
use Rattle.dds_help.specs.Helped.{asks_help}

-- A notice at a brick with a pending attempt whose library it knows: the brick resolves it, or asks the first member that it doesn't know for
-- help, or the notice is of no node that made that member the first one.

pub data Treated (t : Txn) (list : List ℕ) (f me y : ℕ) (r : BrickTurn) : Type 0 where
  gone : first_of r.state.locks.pending t ≡ None → Treated t list f me y r
  resolved : rows.is_resolved r.state t ≡ true → Treated t list f me y r
  asks : (f == me) ≡ false → sent_to f (asks_help t) r.out.letters ≡ true → Treated t list f me y r
  neither : (f == me) ≡ false → (y == t.library) ≡ false → has (rows.before list f) y ≡ false → Treated t list f me y r

-- this attempt's turn
goes-on : (t : Txn) (list : List ℕ) (f me y : ℕ) (was : Option Pending) (r : BrickTurn) → Now t was true [] r.state → Treated t list f me y r
goes-on t list f me y was r (ended e) = gone e
goes-on t list f me y was r (stays e h) = pick (h refl)
  where
    pick : (rows.is_resolved r.state t ≡ true) ⊎ (false ≡ true) → Treated t list f me y r
    pick (inl a) = resolved a
    pick (inr b) = cc

module _ {K : NodeSet} {me : ℕ} {t : Txn} {was : Option Pending} {w : Bool} where
  helps : (u : BrickState) (y : NodeNo) (list : List ℕ) (f : ℕ) (fs : List ℕ) → Stays K me t was w [] u →
      Treated t list f me y (notices.helped_by u y t list (f ∷ fs))
  helps u y list f fs h = pick (f == u.number) (y == t.library) (has (rows.before list f) y) refl refl refl
    where
      mine : Treated t list f me y (rows.resolve u t list)
      mine = goes-on t list f me y was (rows.resolve u t list) (resolve-this u t list (same-self t) h).now

      told : sent_to f (asks_help t) ((f, letter.Help t list) ∷ []) ≡ true
      told = let a = self f in let b = same-self t in rw (a, b) refl

      pick : (a b c : Bool) → (f == u.number) ≡ a → (y == t.library) ≡ b → has (rows.before list f) y ≡ c →
          Treated t list f me y (if a then rows.resolve u t list else (if b || c then sends u ((f, letter.Help t list) ∷ []) else still u))
      pick true b c i j k = mine
      pick false true c i j k = asks (ap (λ n. f == n) (sym h.number) ∙ i) told
      pick false false true i j k = asks (ap (λ n. f == n) (sym h.number) ∙ i) told
      pick false false false i j k = neither (ap (λ n. f == n) (sym h.number) ∙ i) j k

  treats : (u : BrickState) (y : NodeNo) (list : List ℕ) (f : ℕ) (fs : List ℕ) → unknown list K ≡ f ∷ fs → has_node K t.library ≡ true →
      Stays K me t was w [] u → Treated t list f me y (notices.pending_goes u y t list)
  treats u y list f fs e k h = pick (rows.is_resolved u t) refl
    where
      known : has_node u.known t.library ≡ true
      known = ap (λ n. has_node n t.library) h.knows ∙ k

      same : unknown list u.known ≡ f ∷ fs
      same = ap (unknown list) h.knows ∙ e

      pick : (c : Bool) → rows.is_resolved u t ≡ c →
          Treated t list f me y (if has_node u.known t.library && not c then notices.helped_by u y t list (unknown list u.known) else still u)
      pick true i = subst (λ b. Treated t list f me y (if b && not true then notices.helped_by u y t list (unknown list u.known) else still u)) (sym known)
          (resolved i)
      pick false i = subst (λ b. Treated t list f me y (if b && not false then notices.helped_by u y t list (unknown list u.known) else still u)) (sym known)
          (subst (λ fs. Treated t list f me y (notices.helped_by u y t list fs)) (sym same) (helps u y list f fs h))

ahead : {me : ℕ} {t : Txn} (list : List ℕ) (f : ℕ) (y : NodeNo) (q r : BrickTurn) → r.state ≡ q.state →
    ((ls : List _) × (r.out.letters ≡ ls ++ q.out.letters)) → Treated t list f me y q → Treated t list f me y r
ahead {t = t} list f y q r e ls (gone i) = gone (ap (λ (s : BrickState). first_of s.locks.pending t) e ∙ i)
ahead {t = t} list f y q r e ls (resolved i) = resolved (ap (λ (s : BrickState). rows.is_resolved s t) e ∙ i)
ahead {t = t} list f y q r e ls (asks i j) = asks i (ap (sent_to f (asks_help t)) ls.1 ∙ any-right _ ls.0 q.out.letters j)
ahead list f y q r e ls (neither i j k) = neither i j k

pub numbered-finds : (t : Txn) (ps : List Pending) (p : Pending) → first_of ps t ≡ Some p →
    find (λ (q : Txn × List ℕ). same_txn q.0 t) (notices.numbered ps) ≡ Some (p.txn, p.list)
numbered-finds t [] p e = cc
numbered-finds t (x ∷ ps) p e = pick (same_txn x.txn t) e (λ i. numbered-finds t ps p i)
  where
    pick : (c : Bool) → (if c then Some x else first_of ps t) ≡ Some p →
        (first_of ps t ≡ Some p → find (λ (q : Txn × List ℕ). same_txn q.0 t) (notices.numbered ps) ≡ Some (p.txn, p.list)) →
        (if c then Some (x.txn, x.list) else find (λ (q : Txn × List ℕ). same_txn q.0 t) (notices.numbered ps)) ≡ Some (p.txn, p.list)
    pick true i f = let is : x ≡ p = cc in ap (λ (x : Pending). Some (x.txn, x.list)) is
    pick false i f = f i

-- the turns of the others after it
module _ {K : NodeSet} {me : ℕ} {t : Txn} where
  after : {was : Option Pending} {w : Bool} (list : List ℕ) (f : ℕ) (y : NodeNo) (r : BrickTurn) (ps : List (Txn × List ℕ)) →
      Stays K me t was w [] r.state → Treated t list f me y r → Treated t list f me y (and_then r (λ u. notices.pendings_go u y ps))
  after list f y r ps h (gone e) = none (pendings-stay {t = t} {was = None} {w = false} r.state y ps
      (record { knows = h.knows; number = h.number; once = h.once; now = ended e })).now
    where
      none : Now t None false [] (notices.pendings_go r.state y ps).state → Treated t list f me y (and_then r (λ u. notices.pendings_go u y ps))
      none (ended i) = gone i
      none (stays i g) = gone i
  after list f y r ps h (resolved e) =
      goes-on t list f me y (first_of r.state.locks.pending t) (and_then r (λ u. notices.pendings_go u y ps))
      (pendings-stay r.state y ps (record { knows = h.knows; number = h.number; once = h.once; now = stays refl (λ i. inl e) })).now
  after list f y r ps h (asks i e) = asks i (any-left _ r.out.letters (notices.pendings_go r.state y ps).out.letters e)
  after list f y r ps h (neither i j k) = neither i j k

  pub pendings-treat : {was : Option Pending} {w : Bool} (u : BrickState) (y : NodeNo) (list : List ℕ) (f : ℕ) (fs : List ℕ) (q : Txn × List ℕ)
      (ps : List (Txn × List ℕ)) → unknown list K ≡ f ∷ fs → has_node K t.library ≡ true → Stays K me t was w [] u →
      find (λ q. same_txn q.0 t) ps ≡ Some q → q.1 ≡ list → Treated t list f me y (notices.pendings_go u y ps)
  pendings-treat u y list f fs q [] e k h is same = cc
  pendings-treat {was = was} {w = w} u y list f fs q (p ∷ ps) e k h is same =
      pick (same_txn p.0 t) refl is
      (λ i. pendings-treat (notices.pending_goes u y p.0 p.1).state y list f fs q ps e k (pending-stays u y p.0 p.1 h) i same)
    where
      pick : (c : Bool) → same_txn p.0 t ≡ c → (if c then Some p else find (λ q. same_txn q.0 t) ps) ≡ Some q →
          (find (λ q. same_txn q.0 t) ps ≡ Some q → Treated t list f me y (notices.pendings_go (notices.pending_goes u y p.0 p.1).state y ps)) →
          Treated t list f me y (notices.pendings_go u y (p ∷ ps))
      pick true i j rest =
          let pq : p ≡ q = cc in
          let its : p.1 ≡ list = ap (λ (x : Txn × List ℕ). x.1) pq ∙ same in
          let mine : Treated t list f me y (notices.pending_goes u y p.0 p.1) =
          subst (λ x. Treated t list f me y (notices.pending_goes u y x p.1)) (sym (is-same p.0 t i))
          (subst (λ x. Treated t list f me y (notices.pending_goes u y t x)) (sym its) (treats u y list f fs e k h)) in
          after list f y (notices.pending_goes u y p.0 p.1) ps (pending-stays u y p.0 p.1 h) mine
      pick false i j rest =
          ahead list f y (notices.pendings_go (notices.pending_goes u y p.0 p.1).state y ps) (notices.pendings_go u y (p ∷ ps)) refl
          ((notices.pending_goes u y p.0 p.1).out.letters, refl) (rest j)

-- the whole notice
pub record Noticed (t : Txn) (me y : ℕ) (s : BrickState) (p : Pending) (f : ℕ) (r : BrickTurn) : Type 0 where
  pub was : first_of s.locks.pending t ≡ Some p
  pub stays_resolved : rows.is_resolved s t ≡ true → rows.is_resolved r.state t ≡ true
  pub treated : Treated t p.list f me y r

abbrev before-pendings : (s : BrickState) (y : NodeNo) → BrickTurn
before-pendings s y =
    and_then (and_then (notices.order_part (notices.learns s y) y) (λ t. notices.resolving_part t y)) notices.deferred_part

three-stays : {me : ℕ} {t : Txn} (s : BrickState) (y : NodeNo) → s.number ≡ me → Once s.locks.pending →
    Stays (with_node s.known y) me t (first_of s.locks.pending t) (rows.is_resolved s t) [] (before-pendings s y).state
three-stays {me = me} {t = t} s y number once =
    let l = notices.learns s y in
    let o = notices.order_part l y in
    let same = (order_part {L = Any} {M = Each} l y).same in
    let start : Stays (with_node s.known y) me t (first_of s.locks.pending t) (rows.is_resolved s t) [] l =
    record { knows = refl; number = number; once = once; now = stays refl (λ i. inl i) } in
    let one = same-stays l o.state (ap (λ (w : Whole). w.who.known) same) (ap (λ (w : Whole). w.who.number) same) (ap (λ (w : Whole). w.pending) same)
    (ap (λ (w : Whole). w.resolving) same) start in
    let two = hear-stays o.state y news.Stopped one in
    let u = (rows.all_hear o.state y news.Stopped).state in
    all-asked-stays (record u { deferred = [] }) u.deferred (same-stays u (record u { deferred = [] }) refl refl refl refl two)

still-pending : {t : Txn} {p : Pending} {was : Option Pending} {w : Bool} (u : BrickState) → Now t was w [] u → first_of u.locks.pending t ≡ Some p →
    (was ≡ Some p) × (w ≡ true → rows.is_resolved u t ≡ true)
still-pending u (ended e) i = let bad : None ≡ Some _ = sym e ∙ i in cc
still-pending {t = t} u (stays e h) i = (sym e ∙ i, λ j. pick (h j))
  where
    pick : (rows.is_resolved u t ≡ true) ⊎ (false ≡ true) → rows.is_resolved u t ≡ true
    pick (inl a) = a
    pick (inr b) = cc

pub now-pending : {K : NodeSet} {me : ℕ} {t : Txn} {p : Pending} {was : Option Pending} {w : Bool} (u : BrickState) → Stays K me t was w [] u →
    first_of u.locks.pending t ≡ Some p → (was ≡ Some p) × (w ≡ true → rows.is_resolved u t ≡ true)
now-pending u h i = still-pending u h.now i

-- what was pending at the end was pending where the pending ones were treated
first-then : {t : Txn} {p : Pending} {K : NodeSet} {me : ℕ} {was : Option Pending} {w : Bool} (v : BrickState) (y : NodeNo) (ps : List (Txn × List ℕ)) →
    Stays K me t was w [] v → first_of (notices.pendings_go v y ps).state.locks.pending t ≡ Some p → first_of v.locks.pending t ≡ Some p
first-then {t = t} v y ps h i =
    (now-pending (notices.pendings_go v y ps).state (pendings-stay {t = t} {was = first_of v.locks.pending t} {w = false} v y ps
    (record { knows = h.knows; number = h.number; once = h.once; now = stays refl (λ j. cc) })) i).0

pub notice-treats : {me : ℕ} {t : Txn} (s : BrickState) (y : NodeNo) (p : Pending) (f : ℕ) (fs : List ℕ) → s.number ≡ me → Once s.locks.pending →
    first_of (notices.notice_row s y).state.locks.pending t ≡ Some p → unknown p.list (with_node s.known y) ≡ f ∷ fs →
    has_node (with_node s.known y) t.library ≡ true → Noticed t me y s p f (notices.notice_row s y)
notice-treats {me = me} {t = t} s y p f fs number once is e k =
    let q = before-pendings s y in
    let v = q.state in
    let ps = notices.numbered v.locks.pending in
    let three : Stays (with_node s.known y) me t (first_of s.locks.pending t) (rows.is_resolved s t) [] v = three-stays s y number once in
    let end = now-pending (notices.pendings_go v y ps).state (pendings-stay v y ps three) is in
    record {
      was = end.0;
      stays_resolved = end.1;
      treated = ahead p.list f y (notices.pendings_go v y ps) (notices.notice_row s y) refl (q.out.letters, refl)
          (pendings-treat v y p.list f fs (p.txn, p.list) ps e k three (numbered-finds t v.locks.pending p (first-then v y ps three is)) refl);
    }

pub notice-knows : (s : BrickState) (y : NodeNo) → Once s.locks.pending → (notices.notice_row s y).state.known ≡ with_node s.known y
notice-knows s y once =
    let v = (before-pendings s y).state in
    (pendings-stay {t = record { library = 0; number = 0 }} v y (notices.numbered v.locks.pending) (three-stays s y refl once)).knows
