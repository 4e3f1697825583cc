use Rattle.std.proofs.Common.{◌≡◌, ℕ, ◌==◌, ◌&&◌, ◌||◌, ◌⊎◌, inl, inr, Bool, true, false, not, Option, Some, None, List, [], ◌∷◌, ◌++◌}
use Rattle.std.proofs.Common.{refl, sym, ap, ◌∙◌, subst}
use Rattle.std.specs.List.{list_any}
use Rattle.std.specs.Prelude.{if◌then◌else◌}
use Rattle.dds_base.specs.NodeSet.{has_node}
use Rattle.dds_base.specs.Number.{Txn, same_txn}
use Rattle.dds_base.specs.declared.node_set.NodeSet.{NodeSet}
use Rattle.dds_base.specs.declared.number.NodeNo.{NodeNo}
use Rattle.dds_base.specs.declared.pending.Pending.{Pending}
use Rattle.dds_brick_rows.specs.Calls as calls
use Rattle.dds_brick_rows.specs.Resolution as rows
use Rattle.dds_brick_rows.specs.declared.resolution.News.{News}
use Rattle.dds_core.specs.Notice as notices
use Rattle.dds_letters.specs.declared.letter.Letter.TheVariants as letter
use Rattle.dds_locks.specs.Pending.{first_of}
use Rattle.dds_states.specs.Turn.{BrickTurn, is_none_left, sends, still, unknown}
use Rattle.dds_states.specs.declared.brick_state.BrickState.{BrickState}
use Rattle.dds_states.specs.declared.brick_state.Deferred.{Deferred}
use Rattle.dds_states.specs.declared.brick_state.Question.{Question}
use Rattle.dds_states.specs.declared.brick_state.Question.TheVariants.{Help, Query}
use Rattle.dds_states.specs.declared.brick_state.Resolving.{Resolving}
use Rattle.dds_talk.proofs.Parts.{is-same}
use Rattle.dds_talk.specs.Seen.{Once}
use Rattle.dds_resolve.proofs.MemberNotices.{news-txn}
use Rattle.dds_resolve.proofs.ResolverStages.{settled-once}
use Rattle.dds_resolve.proofs.ResolverTurns.{outcome-ends}
use Rattle.dds_help.proofs.Lists.{any-last, any-left, first-gone, first-other, or-either, or-left}

-- A turn of a brick that has an attempt pending: the attempt stays pending, and goes on being resolved where it was; or it is ended.

pub data Now (t : Txn) (was : Option Pending) (w : Bool) (rs : List Resolving) (u : BrickState) : Type 0 where
  ended : first_of u.locks.pending t ≡ None → Now t was w rs u
  stays : first_of u.locks.pending t ≡ was → (w ≡ true → (rows.is_resolved u t ≡ true) ⊎ (list_any (rows.is_of t) rs ≡ true)) → Now t was w rs u

-- with what was pending, whether it was being resolved, and the resolvings yet to be treated
pub record Stays (known : NodeSet) (me : ℕ) (t : Txn) (was : Option Pending) (w : Bool) (rs : List Resolving) (u : BrickState) : Type 0 where
  pub knows : u.known ≡ known
  pub number : u.number ≡ me
  pub once : Once u.locks.pending
  pub now : Now t was w rs u

-- the outcome of an attempt
settled-pending : (s : BrickState) (x : Txn) (c : Bool) (p : Option Pending) →
    (rows.settled (calls.dropped s x) c p).state.locks.pending ≡ (calls.dropped s x).locks.pending
settled-pending s x c None = refl
settled-pending s x true (Some p) = refl
settled-pending s x false (Some p) = refl

pub outcome-this : (t : Txn) (s : BrickState) (x : Txn) (c : Bool) → Once s.locks.pending → same_txn x t ≡ true →
    first_of (rows.outcome_row s x c).state.locks.pending t ≡ None
outcome-this t s x c once e =
    ap (λ ps. first_of ps t) (settled-pending s x c (first_of s.locks.pending x))
    ∙ ap (first_of (calls.dropped s x).locks.pending) (sym (is-same x t e)) ∙ first-gone s.locks.pending x once

pub outcome-other : (t : Txn) (s : BrickState) (x : Txn) (c : Bool) → same_txn x t ≡ false →
    first_of (rows.outcome_row s x c).state.locks.pending t ≡ first_of s.locks.pending t
outcome-other t s x c e =
    ap (λ ps. first_of ps t) (settled-pending s x c (first_of s.locks.pending x)) ∙ first-other s.locks.pending x t e

module _ {t : Txn} {was : Option Pending} where
  same-now : {w : Bool} {rs : List Resolving} (s u : BrickState) → u.locks.pending ≡ s.locks.pending → u.resolving ≡ s.resolving → Now t was w rs s →
      Now t was w rs u
  same-now s u f g (ended e) = ended (ap (λ ps. first_of ps t) f ∙ e)
  same-now s u f g (stays e h) = stays (ap (λ ps. first_of ps t) f ∙ e) (λ i. either (h i))
    where
      either : {B : Type 0} → (rows.is_resolved s t ≡ true) ⊎ B → (rows.is_resolved u t ≡ true) ⊎ B
      either (inl a) = inl (ap (list_any (rows.is_of t)) g ∙ a)
      either (inr b) = inr b

  outcome-now : {w : Bool} {rs : List Resolving} (u : BrickState) (x : Txn) (c b : Bool) → Once u.locks.pending → same_txn x t ≡ b → Now t was w rs u →
      Now t was w rs (rows.outcome_row u x c).state
  outcome-now u x c true once e h = ended (outcome-this t u x c once e)
  outcome-now u x c false once e (ended i) = ended (outcome-other t u x c e ∙ i)
  outcome-now u x c false once e (stays i f) = stays (outcome-other t u x c e ∙ i) (λ j. either (f j))
    where
      either : {B : Type 0} → (rows.is_resolved u t ≡ true) ⊎ B → (rows.is_resolved (rows.outcome_row u x c).state t ≡ true) ⊎ B
      either (inl a) = inl (ap (list_any (rows.is_of t)) (outcome-ends u x c).resolving ∙ a)
      either (inr b) = inr b

  -- one is treated: it decides, or is kept
  treated-now : {w : Bool} {rs : List Resolving} (r q : Resolving) (u : BrickState) (b : Bool) → rows.is_of t q ≡ rows.is_of t r → rows.is_of t r ≡ b →
      Once u.locks.pending → Now t was w (q ∷ rs) u → Now t was w rs (rows.outcome_row u r.txn (rows.verdict r)).state
  treated-now r q u true e i once h = ended (outcome-this t u r.txn (rows.verdict r) once i)
  treated-now {w = w} {rs = rs} r q u false e i once h = outcome-now u r.txn (rows.verdict r) false once i (drop h)
    where
      either : {A : Type 0} (c : Bool) → c ≡ false → A ⊎ ((c || list_any (rows.is_of t) rs) ≡ true) → A ⊎ (list_any (rows.is_of t) rs ≡ true)
      either true e k = cc
      either false e k = k

      drop : Now t was w (q ∷ rs) u → Now t was w rs u
      drop (ended k) = ended k
      drop (stays k f) = stays k (λ j. either (rows.is_of t q) (e ∙ i) (f j))

  kept-now : {w : Bool} {rs : List Resolving} (r q : Resolving) (u : BrickState) → rows.is_of t q ≡ rows.is_of t r → Now t was w (q ∷ rs) u →
      Now t was w rs (record u { resolving = u.resolving ++ r ∷ [] })
  kept-now r q u e (ended k) = ended k
  kept-now {rs = rs} r q u e (stays k f) = stays k (λ j. either (f j))
    where
      left : (rows.is_of t q ≡ true) ⊎ (list_any (rows.is_of t) rs ≡ true) →
          (list_any (rows.is_of t) (u.resolving ++ r ∷ []) ≡ true) ⊎ (list_any (rows.is_of t) rs ≡ true)
      left (inl a) = inl (any-last (rows.is_of t) u.resolving r (sym e ∙ a))
      left (inr b) = inr b

      either : (rows.is_resolved u t ≡ true) ⊎ (list_any (rows.is_of t) (q ∷ rs) ≡ true) →
          (list_any (rows.is_of t) (u.resolving ++ r ∷ []) ≡ true) ⊎ (list_any (rows.is_of t) rs ≡ true)
      either (inl a) = inl (any-left (rows.is_of t) u.resolving (r ∷ []) a)
      either (inr b) = left (or-either (rows.is_of t q) _ b)

module _ {K : NodeSet} {me : ℕ} {t : Txn} {was : Option Pending} where
  pub same-stays : {w : Bool} {rs : List Resolving} (s u : BrickState) → u.known ≡ s.known → u.number ≡ s.number → u.locks.pending ≡ s.locks.pending →
      u.resolving ≡ s.resolving → Stays K me t was w rs s → Stays K me t was w rs u
  same-stays s u d e f g h =
      record { knows = d ∙ h.knows; number = e ∙ h.number; once = subst Once (sym f) h.once; now = same-now s u f g h.now }

  stays-if : {w : Bool} {rs : List Resolving} (c : Bool) (r q : BrickTurn) → (c ≡ true → Stays K me t was w rs r.state) →
      (c ≡ false → Stays K me t was w rs q.state) → Stays K me t was w rs (if c then r else q).state
  stays-if true r q f g = f refl
  stays-if false r q f g = g refl

  -- one more that is to be treated
  one-more : {w : Bool} {rs : List Resolving} (r : Resolving) (u : BrickState) → Stays K me t was w rs u → Stays K me t was w (r ∷ rs) u
  one-more {w = w} {rs = rs} r u h = record { knows = h.knows; number = h.number; once = h.once; now = more h.now }
    where
      either : {A : Type 0} → A ⊎ (list_any (rows.is_of t) rs ≡ true) → A ⊎ (list_any (rows.is_of t) (r ∷ rs) ≡ true)
      either (inl a) = inl a
      either (inr b) = inr (later (rows.is_of t r) _ b)
        where
          later : (a b : Bool) → b ≡ true → (a || b) ≡ true
          later true b e = refl
          later false b e = e

      more : Now t was w rs u → Now t was w (r ∷ rs) u
      more (ended e) = ended e
      more (stays e f) = stays e (λ i. either (f i))

  -- one of this attempt is
  mark : {w : Bool} {rs : List Resolving} (r : Resolving) (u : BrickState) → rows.is_of t r ≡ true → Stays K me t was w rs u →
      Stays K me t was true (r ∷ rs) u
  mark {w = w} {rs = rs} r u i h = record { knows = h.knows; number = h.number; once = h.once; now = marked h.now }
    where
      marked : Now t was w rs u → Now t was true (r ∷ rs) u
      marked (ended e) = ended e
      marked (stays e f) = stays e (λ j. inr (or-left (rows.is_of t r) _ i))

  pub outcome-stays : {w : Bool} {rs : List Resolving} (u : BrickState) (x : Txn) (c : Bool) → Stays K me t was w rs u →
      Stays K me t was w rs (rows.outcome_row u x c).state
  outcome-stays u x c h =
      let e = outcome-ends u x c in
      record {
        knows = e.known ∙ h.knows;
        number = e.number ∙ h.number;
        once = settled-once u x c (first_of u.locks.pending x) h.once;
        now = outcome-now u x c (same_txn x t) h.once refl h.now;
      }

  -- one is treated
  keeps-stays : {w : Bool} {rs : List Resolving} (r q : Resolving) (u : BrickState) → rows.is_of t q ≡ rows.is_of t r → Stays K me t was w (q ∷ rs) u →
      Stays K me t was w rs (record u { resolving = u.resolving ++ r ∷ [] })
  keeps-stays r q u e h = record { knows = h.knows; number = h.number; once = h.once; now = kept-now r q u e h.now }

  resolves-stays : {w : Bool} {rs : List Resolving} (r q : Resolving) (u : BrickState) → rows.is_of t q ≡ rows.is_of t r → Stays K me t was w (q ∷ rs) u →
      Stays K me t was w rs (rows.resolves_on u r).state
  resolves-stays r q u e h =
      stays-if (is_none_left r.waiting) (rows.decides u r) (still (record u { resolving = u.resolving ++ r ∷ [] }))
      (λ i. let o = outcome-ends u r.txn (rows.verdict r) in
      record {
        knows = o.known ∙ h.knows;
        number = o.number ∙ h.number;
        once = settled-once u r.txn (rows.verdict r) (first_of u.locks.pending r.txn) h.once;
        now = treated-now r q u (rows.is_of t r) e refl h.once h.now;
      })
      (λ i. keeps-stays r q u e h)

  -- any attempt, and this one
  resolve-stays : {w : Bool} (u : BrickState) (x : Txn) (list : List ℕ) → Stays K me t was w [] u → Stays K me t was w [] (rows.resolve u x list).state
  resolve-stays u x list h = let r = rows.started u x list in resolves-stays r r u refl (one-more r u h)

  pub resolve-this : {w : Bool} (u : BrickState) (x : Txn) (list : List ℕ) → same_txn x t ≡ true → Stays K me t was w [] u →
      Stays K me t was true [] (rows.resolve u x list).state
  resolve-this u x list e h = let r = rows.started u x list in resolves-stays r r u refl (mark r u e h)

  -- Help, Query
  pub help-stays : {w : Bool} (s : BrickState) (from : NodeNo) (x : Txn) (list : List ℕ) → Stays K me t was w [] s →
      Stays K me t was w [] (rows.help_row s from x list).state
  help-stays s from x list h =
      stays-if (rows.is_ready s.known x list s.number) _ (rows.defers s from Help x list)
      (λ e. stays-if (rows.is_resolved s x) (still s) (rows.resolve s x list) (λ i. h) (λ i. resolve-stays s x list h))
      (λ e. same-stays s (rows.defers s from Help x list).state refl refl refl refl h)

  pub query-stays : {w : Bool} (s : BrickState) (from : NodeNo) (x : Txn) (list : List ℕ) → Stays K me t was w [] s →
      Stays K me t was w [] (rows.query_row s from x list).state
  query-stays s from x list h =
      stays-if (rows.is_ready s.known x list from) (sends s _) (rows.defers s from Query x list) (λ e. h)
      (λ e. same-stays s (rows.defers s from Query x list).state refl refl refl refl h)

  -- what a member tells
  resolvings-stay : {w : Bool} (s : BrickState) (from : NodeNo) (n : News) (rs : List Resolving) → Stays K me t was w rs s →
      Stays K me t was w [] (rows.resolvings_go s from n rs).state
  resolvings-stay s from n [] h = h
  resolvings-stay s from n (r ∷ rs) h =
      resolvings-stay (rows.resolving_goes s from n r).state from n rs
      (stays-if (rows.is_awaited r from n) (rows.resolves_on s (rows.with_news r from n)) (still (record s { resolving = s.resolving ++ r ∷ [] }))
      (λ e. resolves-stays (rows.with_news r from n) r s (sym (ap (λ x. same_txn x t) (news-txn r from n))) h) (λ e. keeps-stays r r s refl h))

  pub hear-stays : {w : Bool} (s : BrickState) (from : NodeNo) (n : News) → Stays K me t was w [] s → Stays K me t was w [] (rows.all_hear s from n).state
  hear-stays {w = w} s from n h =
      resolvings-stay (record s { resolving = [] }) from n s.resolving
      (record { knows = h.knows; number = h.number; once = h.once; now = aside h.now })
    where
      either : (rows.is_resolved s t ≡ true) ⊎ (false ≡ true) → (false ≡ true) ⊎ (list_any (rows.is_of t) s.resolving ≡ true)
      either (inl a) = inr a
      either (inr b) = cc

      aside : Now t was w [] s → Now t was w s.resolving (record s { resolving = [] })
      aside (ended e) = ended e
      aside (stays e f) = stays e (λ i. either (f i))

  -- a notice's parts
  asked-stays : {w : Bool} (s : BrickState) (d : Deferred) (q : Question) → Stays K me t was w [] s → Stays K me t was w [] (notices.asked_again s d q).state
  asked-stays s d Help h = help-stays s d.from d.txn d.list h
  asked-stays s d Query h = query-stays s d.from d.txn d.list h

  pub all-asked-stays : {w : Bool} (s : BrickState) (ds : List Deferred) → Stays K me t was w [] s →
      Stays K me t was w [] (notices.asked_all_again s ds).state
  all-asked-stays s [] h = h
  all-asked-stays s (d ∷ ds) h = all-asked-stays (notices.asked_again s d d.question).state ds (asked-stays s d d.question h)

  helped-stays : {w : Bool} (s : BrickState) (y : NodeNo) (x : Txn) (list fs : List ℕ) → Stays K me t was w [] s →
      Stays K me t was w [] (notices.helped_by s y x list fs).state
  helped-stays s y x list [] h = h
  helped-stays {w = w} s y x list (f ∷ fs) h = stays-if (f == s.number) (rows.resolve s x list) _ (λ e. resolve-stays s x list h) (λ e. either _ h)
    where
      either : (c : Bool) → Stays K me t was w [] s → Stays K me t was w [] (if c then sends s ((f, letter.Help x list) ∷ []) else still s).state
      either true k = k
      either false k = k

  pub pending-stays : {w : Bool} (s : BrickState) (y : NodeNo) (x : Txn) (list : List ℕ) → Stays K me t was w [] s →
      Stays K me t was w [] (notices.pending_goes s y x list).state
  pending-stays s y x list h =
      stays-if (has_node s.known x.library && not (rows.is_resolved s x)) (notices.helped_by s y x list (unknown list s.known)) (still s)
      (λ e. helped-stays s y x list (unknown list s.known) h) (λ e. h)

  pub pendings-stay : {w : Bool} (s : BrickState) (y : NodeNo) (ps : List (Txn × List ℕ)) → Stays K me t was w [] s →
      Stays K me t was w [] (notices.pendings_go s y ps).state
  pendings-stay s y [] h = h
  pendings-stay s y (p ∷ ps) h = pendings-stay (notices.pending_goes s y p.0 p.1).state y ps (pending-stays s y p.0 p.1 h)
