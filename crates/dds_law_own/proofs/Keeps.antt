use Rattle.std.proofs.Common.{◌≡◌, ℕ, ◌≤◌, ◌==◌, ◌&&◌, Bool, true, false, not, List, ◌∷◌, refl, sym, ap, ◌∙◌, subst}
use Rattle.std.proofs.lemmas.Bool.{both_ways, eq-eqb}
use Rattle.dds_core.specs.Brick.{brick_input, live_brick_turn}
use Rattle.dds_letters.specs.declared.letter.Letter.{Letter}
use Rattle.dds_letters.specs.declared.letter.Letter.TheVariants as letter
use Rattle.dds_net.proofs.Carried.{Becomes, nodes-moved}
use Rattle.dds_net.proofs.Places.{node-below}
use Rattle.dds_net.proofs.Rungs.{IsKeptOver}
use Rattle.dds_net.specs.Event.{Event, nothing, unheard, unasked, brick_takes, brick_told, brick_stops, library_takes, library_asked, library_stops}
use Rattle.dds_net.specs.Event.{Fits, Takes}
use Rattle.dds_net.specs.Net.{Net, Node, nowhere, a_brick, a_library, Sizes}
use Rattle.dds_states.specs.declared.brick_state.BrickState.{BrickState}
use Rattle.dds_cluster.specs.declared.trace.Caller.{Caller}
use Rattle.dds_law_notice.proofs.Keeps.{AreLinked}
use Rattle.dds_law_notice.proofs.Link.{Link, Silent, lives, over, told}
use Rattle.dds_law_notice.proofs.Views.{knows, none-known, view}
use Rattle.dds_law_own.proofs.Changes.{own, way-keeps}
use Rattle.dds_law_own.proofs.LetterWays.{IsOfAnother, letter-way, order-way}
use Rattle.dds_law_own.proofs.Lists.{in-empty}
use Rattle.dds_law_own.proofs.Opened.{empty-disjoint}
use Rattle.dds_law_own.proofs.Owned.{Named}
use Rattle.dds_law_own.proofs.Parted.{IsBoth, both-kept}

-- Each event keeps what is so of one brick. Only this is wanted of others: a brick has no notice of itself (the law of notices).

abbrev pub NodeOk : ℕ → Node → Type 0
NodeOk k nowhere = Unit {0}
NodeOk k (a_brick s) = IsBoth k (own s)
NodeOk k (a_library s) = Unit {0}

abbrev pub AreOwn : Net → Type 0
AreOwn n = (k : ℕ) → NodeOk k (n.node k)

-- the channel of a node to itself
self-silent : {deaf stopped known : Bool} (c : List Letter) → stopped ≡ false → Link deaf c stopped known → Silent c
self-silent c e (lives h) = h
self-silent c e (told front is h) = cc
self-silent c e (over known is h) = cc

no-self : (a : Bool) (n : ℕ) → (a && not (n == n)) ≡ false
no-self a n = ap (λ c. a && not c) (eq-eqb n n refl) ∙ and-false a
  where
    and-false : (a : Bool) → (a && false) ≡ false
    and-false true = refl
    and-false false = refl

-- who has a letter on its way isn't known
not-known : {deaf stopped known : Bool} (c rest : List Letter) (l : Letter) → c ≡ l ∷ rest → Link deaf c stopped known → known ≡ false
not-known c rest l e (lives h) = refl
not-known c rest l e (told front is h) = refl
not-known c rest l e (over known is h) = let no = sym is ∙ e in cc

own-notice : (z : Sizes) (n : Net) (at from : ℕ) (s : BrickState) → AreLinked z n → Takes z n at from letter.Notice (a_brick s) → from ≡ at → ⊥
own-notice z n at from s g f e =
    let first = subst (λ i. n.channel i at ≡ letter.Notice ∷ f.letter.others) e f.letter.first in
    let silent = self-silent (n.channel at at) (no-self (view (n.node at)).stopped at) (g at at f.letter.receiver) in
    both_ways true (subst Silent first silent).0 refl

pub of-another : (z : Sizes) (n : Net) (at from : ℕ) (l : Letter) (s : BrickState) → z.bricks ≤ 64 → z.libraries ≤ 16 → AreLinked z n
    → Takes z n at from l (a_brick s) → s.number ≡ at → IsOfAnother s from l
of-another z n at from l s few some g f number =
    record {
      below = node-below z from few some f.letter.sender;
      unknown = not-known (n.channel from at) f.letter.others l f.letter.first (subst (λ (y : Node). Link (view y).stopped (n.channel from at)
          ((view (n.node from)).stopped && not (from == at)) (knows (view y) from)) f.here (g from at f.letter.receiver));
      other = λ is e. own-notice z n at from s g (subst (λ m. Takes z n at from m (a_brick s)) is f) (e ∙ number);
    }

becomes : (z : Sizes) (cs : List Caller) (n : Net) (e : Event) → z.bricks ≤ 64 → z.libraries ≤ 16 → AreLinked z n → Fits z cs n e → AreOwn n
    → Becomes NodeOk e
becomes z cs n nothing few some l f g = tt
becomes z cs n (unheard at from m) few some l f g = tt
becomes z cs n (unasked at caller call o) few some l f g = tt
becomes z cs n (brick_takes at from m s) few some l f g =
    let ok : IsBoth at (own s) = subst (NodeOk at) f.here (g at) in
    way-keeps (IsBoth at) (both-kept at) (own s) (own (live_brick_turn s from m).state)
    (letter-way s from m (of-another z n at from m s few some l f ok.0.number)).way ok
becomes z cs n (brick_told at o s) few some l f g =
    way-keeps (IsBoth at) (both-kept at) (own s) (own (brick_input s o).state) (order-way s o).way (subst (NodeOk at) f.here (g at))
becomes z cs n (brick_stops at s kept) few some l f g =
    let ok : IsBoth at (own s) = subst (NodeOk at) f.here (g at) in (
      record { number = ok.0.number; alone = none-known at; leaves = in-empty (Named at); order = tt; apart = tt; free = tt; holders = tt },
      record { leaves = empty-disjoint; order = tt },
    )
becomes z cs n (library_takes at from m s) few some l f g = tt
becomes z cs n (library_asked at caller call o s) few some l f g = tt
becomes z cs n (library_stops at s kept) few some l f g = tt

pub own-over : (z : Sizes) → z.bricks ≤ 64 → z.libraries ≤ 16
    → IsKeptOver z (Unit {0}) (λ h n e a. tt) (λ h n a. AreLinked z n) (Unit {0}) (λ h n e a b. tt) (λ h n a b. AreOwn n)
own-over z few some h n e a b built f before after g = nodes-moved NodeOk z n e g (becomes z h.callers n e few some before f g)
