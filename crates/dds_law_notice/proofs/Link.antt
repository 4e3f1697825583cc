use Rattle.std.proofs.Common.{◌≡◌, ◌&&◌, ◌||◌, Bool, true, false, not, List, [], ◌∷◌, ◌++◌, refl, sym, ap, ◌∙◌, subst}
use Rattle.std.proofs.lemmas.Bool.{or_right}
use Rattle.std.proofs.lemmas.List.{append-nil}
use Rattle.std.specs.List.{AllByRecursion}
use Rattle.std.specs.Prelude.{if◌then◌else◌}
use Rattle.dds_core.proofs.Tells.{is_notice}
use Rattle.dds_letters.specs.declared.letter.Letter.{Letter}
use Rattle.dds_letters.specs.declared.letter.Letter.TheVariants as letter
use Rattle.dds_core.proofs.Lists.{all-append, all-front}
use Rattle.dds_net.specs.Event.{IsFront}

-- The invariant: what is on its way from a node to another one, by whether the sender has stopped, whether the receiver knows
-- it, and whether the receiver has stopped.
--
-- | part    | why it is needed                                                     | what keeps it                               |
-- | `lives` | a notice is of a node that stopped, and who is known has stopped     | turns send no notice (all rows of bricks    |
-- |         |                                                                      | and libraries); only a notice's row learns  |
-- | `told`  | a notice is the last letter; nobody knows its node before it         | a stopped node sends nothing; a stop leaves |
-- |         |                                                                      | a front of the letters, then the notice     |
-- | `over`  | a node that knows another one has nothing more from it; who stopped  | the row of the notice; a letter at a node   |
-- |         | is known where its notice was taken, unless the receiver had stopped | that stopped                                |

abbrev pub Silent : List Letter → Type 0
Silent ls = AllByRecursion (λ l. is_notice l ≡ false) ls

pub data Link (deaf : Bool) (c : List Letter) : Bool → Bool → Type 0 where
  lives : Silent c → Link deaf c false false
  told : (front : List Letter) → c ≡ front ++ letter.Notice ∷ [] → Silent front → Link deaf c true false
  over : (known : Bool) → c ≡ [] → (known || deaf) ≡ true → Link deaf c true known

abbrev pub tail : List Letter → List Letter
tail [] = []
tail (l ∷ ls) = ls

abbrev pub head : Letter → List Letter → Letter
head d [] = d
head d (l ∷ ls) = l

-- the receiver takes the first letter, and knows the sender afterwards where that is a notice; one that has stopped knows as
-- before
abbrev pub known_after : Bool → Letter → Bool → Bool
known_after deaf l known = if not deaf && is_notice l then true else known

not-notice : (deaf : Bool) (l : Letter) (known : Bool) → is_notice l ≡ false → known_after deaf l known ≡ known
not-notice true l known e = refl
not-notice false l known e = ap (λ c. if c then true else known) e

heard-notice : (deaf : Bool) (l : Letter) → is_notice l ≡ true → (known_after deaf l false || deaf) ≡ true
heard-notice true l e = refl
heard-notice false l e = ap (λ c. (if c then true else false) || false) e

told-takes : (deaf : Bool) (l : Letter) (c front : List Letter) → l ∷ c ≡ front ++ letter.Notice ∷ [] → Silent front
    → Link deaf c true (known_after deaf l false)
told-takes deaf l c [] e s = over (known_after deaf l false) (ap tail e) (heard-notice deaf l (ap (λ x. is_notice (head l x)) e))
told-takes deaf l c (x ∷ front) e s =
    subst (Link deaf c true) (sym (not-notice deaf l false (ap (λ y. is_notice (head l y)) e ∙ s.0))) (told front (ap tail e) s.1)

pub link-takes : {stopped known deaf : Bool} (l : Letter) (c : List Letter) → Link deaf (l ∷ c) stopped known → Link deaf c stopped (known_after deaf l known)
link-takes {deaf = deaf} l c (lives s) = subst (Link deaf c false) (sym (not-notice deaf l false s.0)) (lives s.1)
link-takes {deaf = deaf} l c (told front e s) = told-takes deaf l c front e s
link-takes l c (over known e k) = cc

-- the sender goes on, with nothing where it has stopped
pub link-more : {stopped known deaf : Bool} (c new : List Letter) → Silent new → (stopped ≡ true → new ≡ []) → Link deaf c stopped known
    → Link deaf (c ++ new) stopped known
link-more c new n e (lives s) = lives (all-append _ c new s n)
link-more c new n e (told front is s) = told front (ap (λ x. c ++ x) (e refl) ∙ append-nil c ∙ is) s
link-more c new n e (over known is k) = over known (ap (λ x. c ++ x) (e refl) ∙ append-nil c ∙ is) k

-- the receiver stops, and forgets whom it knew or doesn't
pub link-deaf : {stopped known deaf : Bool} (known' : Bool) (c : List Letter) → (known ≡ false → known' ≡ false) → Link deaf c stopped known
    → Link true c stopped known'
link-deaf known' c f (lives s) = subst (Link true c false) (sym (f refl)) (lives s)
link-deaf known' c f (told front e s) = subst (Link true c true) (sym (f refl)) (told front e s)
link-deaf known' c f (over known e k) = over known' e (or_right known' true refl)

-- the sender stops
pub link-stops : {known deaf : Bool} (c left : List Letter) → IsFront left c → Link deaf c false known → Link deaf (left ++ letter.Notice ∷ []) true known
link-stops c left f (lives s) = told left refl (all-front _ left f.gone (subst Silent f.is s))

-- the sender stays, and loses letters
pub link-front : {known deaf : Bool} (c left : List Letter) → IsFront left c → Link deaf c false known → Link deaf left false known
link-front c left f (lives s) = lives (all-front _ left f.gone (subst Silent f.is s))
