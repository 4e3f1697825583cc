use Rattle.std.proofs.Common.{◌≡◌, ℕ, ◌≤◌, ◌==◌, ◌&&◌, ◌||◌, Bool, true, false, not, cond, List, [], ◌∷◌, ◌++◌, Option, Some, refl, sym, ap, ◌∙◌}
use Rattle.std.proofs.Common.{arith}
use Rattle.std.proofs.Common.{append_assoc}
use Rattle.std.proofs.lemmas.Bool.Decides.{nat_tests}
use Rattle.std.specs.List.{AllByRecursion}
use Rattle.std.specs.Prelude.{if◌then◌else◌}
use Rattle.dds_base.specs.BrickList.{has}
use Rattle.dds_base.specs.Number.{Txn, same_txn}
use Rattle.dds_base.specs.declared.number.NodeNo.{NodeNo}
use Rattle.dds_groups.proofs.Members.{has-live}
use Rattle.dds_groups.specs.Leaves.{live}
use Rattle.dds_letters.specs.declared.letter.Letter.{Letter}
use Rattle.dds_states.specs.Turn.{is_none_left, to_each, without}
use Rattle.dds_net.proofs.Projections.{gains-append, gains-one, lands-is}
use Rattle.dds_net.specs.Net.{Sizes, gains, is_in, landing, lands, when_in}
use Rattle.dds_talk.proofs.Parts.{is-same}
use Rattle.dds_talk.specs.Seen.{Alone, IsGroup, about, of, one}

-- The letters of one attempt, of those that a node sends.

pub about-append : {X : Type 0} (v : Letter → Option (Txn × X)) (t : Txn) (a b : List Letter) → about v t (a ++ b) ≡ about v t a ++ about v t b
about-append v t [] b = refl
about-append v t (l ∷ a) b = ap (λ xs. of t (v l) ++ xs) (about-append v t a b) ∙ sym (append_assoc (of t (v l)) (about v t a) (about v t b))

pub about-gains : {X : Type 0} (v : Letter → Option (Txn × X)) (t : Txn) (z : Sizes) (b : ℕ) (xs ys : List (NodeNo × Letter))
    → about v t (gains z (xs ++ ys) b) ≡ about v t (gains z xs b) ++ about v t (gains z ys b)
about-gains v t z b xs ys = ap (about v t) (gains-append z b xs ys) ∙ about-append v t (gains z xs b) (gains z ys b)

-- none of them is of the attempt
abbrev pub NoneAbout : {X : Type 0} → (Letter → Option (Txn × X)) → Txn → List (NodeNo × Letter) → Type 0
NoneAbout v t ls = AllByRecursion (λ (p : NodeNo × Letter). of t (v p.1) ≡ []) ls

none-if : {X : Type 0} (v : Letter → Option (Txn × X)) (t : Txn) (c : Bool) (l : Letter) (ls : List Letter) → of t (v l) ≡ [] → about v t ls ≡ []
    → about v t (if c then l ∷ ls else ls) ≡ []
none-if v t true l ls e h = ap (λ xs. xs ++ about v t ls) e ∙ h
none-if v t false l ls e h = h

none-landing : {X : Type 0} (v : Letter → Option (Txn × X)) (t : Txn) (z : Sizes) (b : ℕ) (ls : List (NodeNo × Letter)) → NoneAbout v t ls
    → about v t (landing z b ls) ≡ []
none-landing v t z b [] h = refl
none-landing v t z b (l ∷ ls) h = none-if v t (lands z l.0 b) l.1 (landing z b ls) h.0 (none-landing v t z b ls h.1)

none-when : {X : Type 0} (v : Letter → Option (Txn × X)) (t : Txn) (c : Bool) (ls : List Letter) → about v t ls ≡ [] → about v t (when_in c ls) ≡ []
none-when v t true ls h = h
none-when v t false ls h = refl

pub about-none : {X : Type 0} (v : Letter → Option (Txn × X)) (t : Txn) (z : Sizes) (b : ℕ) (ls : List (NodeNo × Letter)) → NoneAbout v t ls
    → about v t (gains z ls b) ≡ []
about-none v t z b ls h = none-when v t (is_in z b) (landing z b ls) (none-landing v t z b ls h)

pub none-each : {X : Type 0} (v : Letter → Option (Txn × X)) (t : Txn) (l : Letter) (ns : List NodeNo) → of t (v l) ≡ [] → NoneAbout v t (to_each ns l)
none-each v t l [] e = tt
none-each v t l (n ∷ ns) e = (e, none-each v t l ns e)

-- an answer to the library of its attempt
own-if : {X : Type 0} (v : Letter → Option (Txn × X)) (t txn : Txn) (z : Sizes) (from : ℕ) (l : Letter) (y : X) (c : Bool) → z.bricks ≤ 64 → v l ≡ Some (txn, y)
    → from ≡ txn.library → is_in z from ≡ true → same_txn txn t ≡ c → about v t (gains z ((from, l) ∷ []) t.library) ≡ one c y
own-if v t txn z from l y true few e own inside s =
    let same : txn ≡ t = is-same txn t s in
    let here : from ≡ t.library = own ∙ ap (λ (u : Txn). u.library) same in
    let k : (from == from) ≡ true = grind (arith, nat_tests) in
    ap (λ i. about v t (gains z ((from, l) ∷ []) i)) (sym here)
    ∙ ap (about v t) (gains-one z from from l few inside inside ∙ ap (λ c. when_in c (l ∷ [])) k)
    ∙ ap (λ o. of t o ++ []) e ∙ ap (λ b. one b y ++ []) s
own-if v t txn z from l y false few e own inside s = about-none v t z t.library ((from, l) ∷ []) (ap (of t) e ∙ ap (λ b. one b y) s, tt)

pub about-own : {X : Type 0} (v : Letter → Option (Txn × X)) (t txn : Txn) (z : Sizes) (from : ℕ) (l : Letter) (y : X) → z.bricks ≤ 64 → v l ≡ Some (txn, y)
    → from ≡ txn.library → is_in z from ≡ true → about v t (gains z ((from, l) ∷ []) t.library) ≡ one (same_txn txn t) y
about-own v t txn z from l y few e own inside = own-if v t txn z from l y (same_txn txn t) few e own inside refl

-- Lists of nodes, and what is sent to each of them

pub has-without : (ns : List ℕ) (f m : ℕ) → has (without ns f) m ≡ (has ns m && not (m == f))
has-without [] f m = refl
has-without (n ∷ ns) f m =
    let h = has-without ns f m in
    elim (n == f) as (λ b. (n == f) ≡ b → has (cond (not b) (n ∷ without ns f) (without ns f)) m ≡ ((n == m || has ns m) && not (m == f))) [
      | true ↦ λ e. grind (arith, nat_tests, h, e)
      | false ↦ λ e. grind (arith, nat_tests, h, e)
    ] refl

pub none-has : (ns : List ℕ) (m : ℕ) → is_none_left ns ≡ true → has ns m ≡ false
none-has [] m e = refl
none-has (n ∷ ns) m e = cc

pub alone-live : (ns : List NodeNo) (known : ℕ → Bool) → Alone ns → Alone (live ns known)
alone-live [] known a = tt
alone-live (n ∷ ns) known a =
    elim (known n) as (λ b. Alone (cond b (live ns known) (n ∷ live ns known))) [
      | true ↦ alone-live ns known a.1
      | false ↦ (has-live ns known n ∙ ap (λ b. b && not (known n)) a.0, alone-live ns known a.1)
    ]

all-live : (P : ℕ → Type 0) (ns : List NodeNo) (known : ℕ → Bool) → AllByRecursion P ns → AllByRecursion P (live ns known)
all-live P [] known h = tt
all-live P (n ∷ ns) known h =
    elim (known n) as (λ b. AllByRecursion P (cond b (live ns known) (n ∷ live ns known))) [
      | true ↦ all-live P ns known h.1
      | false ↦ (h.0, all-live P ns known h.1)
    ]

pub group-live : (z : Sizes) (ns : List NodeNo) (known : ℕ → Bool) → IsGroup z ns → IsGroup z (live ns known)
group-live z ns known g = record { alone = alone-live ns known g.alone; inside = all-live (λ n. is_in z n ≡ true) ns known g.inside }

pub equal-nodes : (n m : ℕ) → (n == m) ≡ true → n ≡ m
equal-nodes n m e = grind (arith, nat_tests, e)

-- one letter to each node is one to a node that stands in the list
sent-if : {X : Type 0} (v : Letter → Option (Txn × X)) (b c : Bool) (t : Txn) (l : Letter) (x : X) (rest : List Letter) → of t (v l) ≡ x ∷ []
    → (b ≡ true → c ≡ false) → about v t rest ≡ one c x → about v t (if b then l ∷ rest else rest) ≡ one (b || c) x
sent-if v true c t l x rest e apart h = ap (λ xs. xs ++ about v t rest) e ∙ ap (λ xs. x ∷ xs) (h ∙ ap (λ k. one k x) (apart refl))
sent-if v false c t l x rest e apart h = h

each-landing : {X : Type 0} (v : Letter → Option (Txn × X)) (t : Txn) (z : Sizes) (l : Letter) (x : X) (ns : List NodeNo) (m : ℕ) → z.bricks ≤ 64
    → is_in z m ≡ true → Alone ns → AllByRecursion (λ n. is_in z n ≡ true) ns → of t (v l) ≡ x ∷ []
    → about v t (landing z m (to_each ns l)) ≡ one (has ns m) x
each-landing v t z l x [] m few here a h e = refl
each-landing v t z l x (n ∷ ns) m few here a h e =
    ap (λ c. about v t (if c then l ∷ landing z m (to_each ns l) else landing z m (to_each ns l))) (lands-is z n m few h.0 here)
    ∙ sent-if v (n == m) (has ns m) t l x (landing z m (to_each ns l)) e (λ s. ap (has ns) (sym (equal-nodes n m s)) ∙ a.0)
    (each-landing v t z l x ns m few here a.1 h.1 e)

pub about-each : {X : Type 0} (v : Letter → Option (Txn × X)) (t : Txn) (z : Sizes) (l : Letter) (x : X) (ns : List NodeNo) (m : ℕ) → z.bricks ≤ 64
    → is_in z m ≡ true → IsGroup z ns → of t (v l) ≡ x ∷ [] → about v t (gains z (to_each ns l) m) ≡ one (has ns m) x
about-each v t z l x ns m few here g e =
    ap (λ c. about v t (when_in c (landing z m (to_each ns l)))) here ∙ each-landing v t z l x ns m few here g.alone g.inside e

-- a node of the cluster, which gets an answer
pub record IsAsker (z : Sizes) (from : ℕ) : Type 0 where
  pub few : z.bricks ≤ 64
  pub inside : is_in z from ≡ true
