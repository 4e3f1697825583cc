use Rattle.std.proofs.Common.{◌≡◌, ℕ, ◌==◌, ◌&&◌, ◌||◌, ◌⊎◌, inl, inr, Bool, true, false, List, [], ◌∷◌, refl, sym, ap, ◌∙◌, subst}
use Rattle.std.proofs.lemmas.Bool.{and_parts, eqb-true, eqb-false}
use Rattle.std.specs.List.{AllByRecursion, list_all}
use Rattle.std.specs.Prelude.{if◌then◌else◌}
use Rattle.dds_base.specs.BrickList.{has}
use Rattle.dds_base.specs.NodeSet.{has_node}
use Rattle.dds_base.specs.Number.{Txn, same_txn}
use Rattle.dds_base.specs.declared.node_set.NodeSet.{NodeSet}
use Rattle.dds_brick_rows.specs.Resolution as rows
use Rattle.dds_core.proofs.LetterTells.{letter-tells}
use Rattle.dds_core.proofs.Tells.{Who}
use Rattle.dds_core.specs.Brick.{live_brick_turn}
use Rattle.dds_law_notice.proofs.Keeps.{AreLinked}
use Rattle.dds_law_notice.proofs.Link.{Link, lives, told, over}
use Rattle.dds_law_notice.proofs.Views.{view}
use Rattle.dds_letters.specs.declared.letter.Letter.{Letter}
use Rattle.dds_letters.specs.declared.letter.Letter.TheVariants as letter
use Rattle.dds_net.specs.Event.{IsFirst}
use Rattle.dds_net.specs.Net.{Net, a_brick, Sizes}
use Rattle.dds_states.specs.declared.brick_state.BrickState.{BrickState}
use Rattle.dds_talk.proofs.Parts.{is-same}
use Rattle.dds_resolve.proofs.MemberLetters.{Blind}
use Rattle.dds_resolve.proofs.MemberSteps.{learns-more}
use Rattle.dds_resolve.proofs.TeamTurns.{not-both}
use Rattle.dds_resolve.proofs.TeamNotices.{NoticeOk}
use Rattle.dds_resolve.specs.Team.{Ground, LetterOk, Team}

-- What a letter that comes to a brick says of whom the brick knows: it knows not the sender. So no letter of a library, or of an
-- earlier resolver, comes to a member that is ready.

link-none : {deaf k : Bool} {s : Bool} {c : List Letter} (l : Letter) (others : List Letter) → Link deaf c s k → k ≡ true → c ≡ l ∷ others → ⊥
link-none l others (lives h) e f = cc
link-none l others (told front is h) e f = cc
link-none l others (over known is h) e f = let q : [] ≡ l ∷ others = sym is ∙ f in cc

pub unknown-sender : (z : Sizes) (w : Net) (n from : ℕ) (l : Letter) (s : BrickState) → AreLinked z w → IsFirst z w n from l → w.node n ≡ a_brick s →
    has_node s.known from ≡ false
unknown-sender z w n from l s links f here = pick (has_node s.known from) refl
  where
    pick : (c : Bool) → has_node s.known from ≡ c → c ≡ false
    pick false e = refl
    pick true e = absurd (link-none l f.others (links from n f.receiver) (ap (λ x. has_node (view x).known from) here ∙ e) f.first)

-- of two members one stands before the other
or-first : (p q : Bool) → p ≡ true → (p || q) ≡ true
or-first true q e = refl
or-first false q e = cc

or-second : (p q : Bool) → q ≡ true → (p || q) ≡ true
or-second true q e = refl
or-second false q e = e

both-later : (p q c d : Bool) → (c ≡ true) ⊎ (d ≡ true) → ((p || c) ≡ true) ⊎ ((q || d) ≡ true)
both-later p q c d (inl u) = inl (or-second p c u)
both-later p q c d (inr u) = inr (or-second q d u)

one-before : (list : List ℕ) (a b : ℕ) → has list a ≡ true → has list b ≡ true → (a == b) ≡ false →
    (has (rows.before list b) a ≡ true) ⊎ (has (rows.before list a) b ≡ true)
one-before [] a b ha hb ne = cc
one-before (x ∷ xs) a b ha hb ne = pick (x == a) (x == b) refl refl ha hb (λ i j. one-before xs a b i j ne)
  where
    pick : (p q : Bool) → (x == a) ≡ p → (x == b) ≡ q → (p || has xs a) ≡ true → (q || has xs b) ≡ true →
        (has xs a ≡ true → has xs b ≡ true → (has (rows.before xs b) a ≡ true) ⊎ (has (rows.before xs a) b ≡ true))
        → (has (if q then [] else x ∷ rows.before xs b) a ≡ true) ⊎ (has (if p then [] else x ∷ rows.before xs a) b ≡ true)
    pick true true e i h k w = let same : a ≡ b = sym (eqb-true x a e) ∙ eqb-true x b i in absurd (eqb-false a b ne same)
    pick true false e i h k w = inl (or-first (x == a) (has (rows.before xs b) a) e)
    pick false true e i h k w = inr (or-first (x == b) (has (rows.before xs a) b) i)
    pick false false e i h k w = both-later (x == a) (x == b) (has (rows.before xs b) a) (has (rows.before xs a) b) (w h k)

all-has : (p : ℕ → Bool) (xs : List ℕ) (k : ℕ) → AllByRecursion (λ n. p n ≡ true) xs → has xs k ≡ true → p k ≡ true
all-has p [] k h e = cc
all-has p (x ∷ xs) k h e = pick (x == k) refl (λ j. all-has p xs k h.1 j) e
  where
    pick : (c : Bool) → (x == k) ≡ c → (has xs k ≡ true → p k ≡ true) → (c || has xs k) ≡ true → p k ≡ true
    pick true i w j = ap p (sym (eqb-true x k i)) ∙ h.0
    pick false i w j = w j

pub listed-has : (p : ℕ → Bool) (xs : List ℕ) (k : ℕ) → list_all p xs ≡ true → has xs k ≡ true → p k ≡ true
listed-has p [] k h e = cc
listed-has p (x ∷ xs) k h e = pick (x == k) refl (λ j. listed-has p xs k (and_parts (p x) (list_all p xs) h).1 j) e
  where
    pick : (c : Bool) → (x == k) ≡ c → (has xs k ≡ true → p k ≡ true) → (c || has xs k) ≡ true → p k ≡ true
    pick true i w j = ap p (sym (eqb-true x k i)) ∙ (and_parts (p x) (list_all p xs) h).0
    pick false i w j = w j

-- the letter isn't a library's of this attempt, or the brick isn't ready
unready-library : (known : NodeSet) (t : Txn) (list : List ℕ) (f : ℕ) → has_node known t.library ≡ false → rows.is_ready known t list f ≡ false
unready-library known t list f e = ap (λ b. b && list_all (λ n. has_node known n) (rows.before list f)) e

unready-first : (known : NodeSet) (t : Txn) (list : List ℕ) (f k : ℕ) → has (rows.before list f) k ≡ true → has_node known k ≡ false →
    rows.is_ready known t list f ≡ false
unready-first known t list f k h e = pick (rows.is_ready known t list f) refl
  where
    pick : (c : Bool) → rows.is_ready known t list f ≡ c → c ≡ false
    pick false i = refl
    pick true i =
        let j = and_parts (has_node known t.library) (list_all (λ n. has_node known n) (rows.before list f)) i in
        absurd (not-both (has_node known k) (listed-has (λ n. has_node known n) (rows.before list f) k j.1 h) e)

-- a library's letters of an attempt come from its library
abbrev pub OwnLetter : ℕ → Letter → Type 0
OwnLetter from (letter.Prepare txn caller call below name stamp list op) = from ≡ txn.library
OwnLetter from (letter.Commit txn) = from ≡ txn.library
OwnLetter from (letter.Abort txn) = from ≡ txn.library
OwnLetter from other = Unit {0}

blind-library : (known : NodeSet) (t x : Txn) (list : List ℕ) (f from : ℕ) → has_node known from ≡ false → from ≡ x.library → same_txn x t ≡ true →
    rows.is_ready known t list f ≡ false
blind-library known t x list f from u own e =
    unready-library known t list f (ap (has_node known) (ap (λ (y : Txn). y.library) (sym (is-same x t e)) ∙ sym own) ∙ u)

blind-outcome : (g : Ground) (known : NodeSet) (t : Txn) (f m from : ℕ) → has_node known from ≡ false → Team g t (g.list t) from m → has (g.list t) f ≡ true →
    g.stopped f ≡ false → (from == f) ≡ false → rows.is_ready known t (g.list t) f ≡ false
blind-outcome g known t f m from u hers listed live apart = pick (one-before (g.list t) from f hers.resolver listed apart)
  where
    pick : (has (rows.before (g.list t) f) from ≡ true) ⊎ (has (rows.before (g.list t) from) f ≡ true) → rows.is_ready known t (g.list t) f ≡ false
    pick (inl h) = unready-first known t (g.list t) f from h u
    pick (inr h) = absurd (not-both (g.stopped f) (all-has g.stopped (rows.before (g.list t) from) f hers.first h) live)

-- a resolver that is ready knows an earlier one
pub knows-earlier : (g : Ground) (known : NodeSet) (t : Txn) (f m n : ℕ) → Team g t (g.list t) f m → has (g.list t) n ≡ true → g.stopped n ≡ false →
    (f == n) ≡ false → rows.is_ready known t (g.list t) n ≡ true → has_node known f ≡ true
knows-earlier g known t f m n hers listed live apart ready = pick (one-before (g.list t) f n hers.resolver listed apart)
  where
    pick : (has (rows.before (g.list t) n) f ≡ true) ⊎ (has (rows.before (g.list t) f) n ≡ true) → has_node known f ≡ true
    pick (inl h) =
        let j = and_parts (has_node known t.library) (list_all (λ k. has_node known k) (rows.before (g.list t) n)) ready in
        listed-has (λ k. has_node known k) (rows.before (g.list t) n) f j.1 h
    pick (inr h) = absurd (not-both (g.stopped n) (all-has g.stopped (rows.before (g.list t) f) n hers.first h) live)

-- who asks or tells is a resolver of the attempt's own list
pub own-team : {g : Ground} {x : Txn} {list : List ℕ} {f m : ℕ} (t : Txn) → same_txn x t ≡ true → Team g x list f m → Team g t (g.list t) f m
own-team {g = g} {x = x} {list = list} {f = f} {m = m} t e h =
    subst (λ v. Team g t v f m) (sym h.members.listed ∙ ap g.list (is-same x t e)) (subst (λ y. Team g y list f m) (is-same x t e) h)

pub blind-here : (g : Ground) (known : NodeSet) (t : Txn) (f n m from : ℕ) (l : Letter) → has_node known from ≡ false → OwnLetter from l →
    LetterOk g from n l → Team g t (g.list t) f m → g.stopped f ≡ false → Blind known t (g.list t) f from l
blind-here g known t f n m from (letter.Prepare txn caller call below name stamp members op) u own ok team live = λ e.
    blind-library known t txn (g.list t) f from u own e
blind-here g known t f n m from (letter.Commit txn) u own ok team live = λ e. blind-library known t txn (g.list t) f from u own e
blind-here g known t f n m from (letter.Abort txn) u own ok team live = λ e. blind-library known t txn (g.list t) f from u own e
blind-here g known t f n m from (letter.Outcome txn c) u own ok team live = λ e apart.
    blind-outcome g known t f n from u (own-team t e ok.team) team.resolver live apart
blind-here g known t f n m from other u own ok team live = tt

-- it forgets nobody
pub knows-still : (s : BrickState) (from : ℕ) (g : Ground) (l : Letter) (k : ℕ) → NoticeOk g from l → has_node s.known k ≡ true →
    has_node (live_brick_turn s from l).state.known k ≡ true
knows-still s from g letter.Notice k h e = ap (λ (w : Who). has_node w.known k) (letter-tells s from letter.Notice).same ∙ learns-more s from h.0 k e
knows-still s from g other k h e = ap (λ (w : Who). has_node w.known k) (letter-tells s from other).same ∙ e

-- what it knows after the turn
pub knows-more : (s : BrickState) (from : ℕ) (g : Ground) (l : Letter) (k : ℕ) → NoticeOk g from l →
    has_node (live_brick_turn s from l).state.known k ≡ false → has_node s.known k ≡ false
knows-more s from g letter.Notice k h e = pick (has_node s.known k) refl
  where
    pick : (c : Bool) → has_node s.known k ≡ c → c ≡ false
    pick false i = refl
    pick true i =
        let q : has_node (live_brick_turn s from letter.Notice).state.known k ≡ true =
        ap (λ (w : Who). has_node w.known k) (letter-tells s from letter.Notice).same ∙ learns-more s from h.0 k i in
        absurd (not-both (has_node (live_brick_turn s from letter.Notice).state.known k) q e)
knows-more s from g other k h e = sym (ap (λ (w : Who). has_node w.known k) (letter-tells s from other).same) ∙ e
