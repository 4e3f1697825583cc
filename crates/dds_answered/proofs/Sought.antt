use Rattle.std.proofs.Common.{◌≡◌, ℕ, Bool, true, false, Option, Some, None, List, [], ◌∷◌, refl, ap, ◌∙◌}
use Rattle.std.specs.List.{AllByRecursion}
use Rattle.std.specs.Prelude.{if◌then◌else◌}
use Rattle.dds_base.specs.Number.{Txn, same_txn}
use Rattle.dds_base.specs.declared.number.NodeNo.{NodeNo}
use Rattle.dds_core.proofs.CallTurns.{same-is}
use Rattle.dds_core.proofs.Lists.{all-both, all-map}
use Rattle.dds_core.specs.LibraryTurn.{live_library_turn}
use Rattle.dds_letters.specs.declared.letter.Letter.{Letter}
use Rattle.dds_net.proofs.Pairwise.{Pairwise}
use Rattle.dds_net.specs.Event.{Event, asked_turn, library_asked, library_takes}
use Rattle.dds_talk.proofs.Parts.{same-self}
use Rattle.dds_answered.proofs.Sent.{IsNew, IsSent, OtherSent, get_of, new-get}

-- The node that each attempt's Get was sent to.

abbrev pub Sought : Type 0
Sought = Txn → Option NodeNo

abbrev took : Option Txn → NodeNo → Txn → Option NodeNo → Option NodeNo
took None to t rest = rest
took (Some u) to t rest = if same_txn u t then Some to else rest

abbrev pub sought_by : List (NodeNo × Letter) → Sought → Sought
sought_by [] g t = g t
sought_by (p ∷ ps) g t = took (get_of p.1) p.0 t (sought_by ps g t)

abbrev pub seeks : Event → Sought → Sought
seeks (library_takes at from l s) g = sought_by (live_library_turn s from l).out.letters g
seeks (library_asked at caller call o s) g = sought_by (asked_turn s caller call o).out.letters g
seeks other g = g

-- a letter that is no Get of the attempt
took-other : (o : Option Txn) (to : NodeNo) (t : Txn) (rest : Option NodeNo) → (o ≡ Some t → ⊥) → took o to t rest ≡ rest
took-other None to t rest f = refl
took-other (Some u) to t rest f = by (same_txn u t) refl
  where
    by : (b : Bool) → same_txn u t ≡ b → (if b then Some to else rest) ≡ rest
    by true e = absurd (f (ap Some (same-is u t e)))
    by false e = refl

-- one that isn't new
pub sought-other : (number from next : ℕ) (g : Sought) (ls : List (NodeNo × Letter)) (t : Txn) → (IsNew number from next t → ⊥)
    → AllByRecursion (λ (p : NodeNo × Letter). IsSent number from next p.1) ls → sought_by ls g t ≡ g t
sought-other number from next g [] t old h = refl
sought-other number from next g (p ∷ ps) t old h =
    took-other (get_of p.1) p.0 t (sought_by ps g t) (λ e. old (new-get number from next p.1 t h.0 e)) ∙ sought-other number from next g ps t old h.1

-- one that is
abbrev pub IsSoughtBy : Sought → NodeNo × Letter → Type 0
IsSoughtBy g p = (t : Txn) → get_of p.1 ≡ Some t → g t ≡ Some p.0

first-sought : (g : Sought) (p : NodeNo × Letter) (ps : List (NodeNo × Letter)) → IsSoughtBy (sought_by (p ∷ ps) g) p
first-sought g p ps t e =
    ap (λ o. took o p.0 t (sought_by ps g t)) e ∙ ap (λ b. if b then Some p.0 else sought_by ps g t) (same-self t)

pub all-sought : (g : Sought) (ls : List (NodeNo × Letter)) → Pairwise OtherSent ls → AllByRecursion (IsSoughtBy (sought_by ls g)) ls
all-sought g [] h = tt
all-sought g (p ∷ ps) h = (
  first-sought g p ps,
  all-map (λ q. OtherSent p q × IsSoughtBy (sought_by ps g) q) (IsSoughtBy (sought_by (p ∷ ps) g)) ps
      (λ q k t e. took-other (get_of p.1) p.0 t (sought_by ps g t) (λ f. k.0 t f e) ∙ k.1 t e)
      (all-both (OtherSent p) (IsSoughtBy (sought_by ps g)) ps h.0 (all-sought g ps h.1)),
)
