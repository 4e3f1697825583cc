use Rattle.std.proofs.Common.{◌≡◌, ℕ, inl, inr, true, false, Some, List, refl, sym, ◌∙◌, subst}
use Rattle.std.proofs.lemmas.Bool.{cases_eq}
use Rattle.std.specs.List.{AllByRecursion}
use Rattle.dds_base.specs.declared.number.NodeNo.{NodeNo}
use Rattle.dds_brick_rows.specs.Refusal.{is_join}
use Rattle.dds_cluster.specs.declared.trace.Caller.{Caller}
use Rattle.dds_core.proofs.Lists.{all-map}
use Rattle.dds_history.specs.Map.{Map}
use Rattle.dds_letters.specs.declared.letter.Letter.{Letter}
use Rattle.dds_net.proofs.Carried.{AllCarried, News, Sends, letters-moved}
use Rattle.dds_net.specs.Event.{Event, Fits, moved}
use Rattle.dds_net.specs.Net.{Net, Node, Sizes, a_brick, is_in, lands, put}
use Rattle.dds_share.proofs.Parts.{all-of}
use Rattle.dds_share.proofs.Turned.{put-other, put-same}
use Rattle.dds_states.specs.declared.brick_state.BrickState.{BrickState}
use Rattle.dds_states.specs.declared.brick_state.OpenOrder.{OpenOrder}
use Rattle.dds_states.specs.declared.brick_state.OrderPhase.TheVariants.{Copying}
use Rattle.dds_copies.specs.Copies.{CopiesTable, JoinsCopy, TellsNext}
use Rattle.dds_copies.specs.Turns.{AllTell}

-- What is on its way from the source of a join, at an event: what was so of that, and what is owed of what the source sends.

abbrev pub Tell : Map → OpenOrder → ℕ → ℕ → ℕ → ℕ → Letter → Type 0
Tell table o source k a b l = a ≡ source → b ≡ k → TellsNext table o l

all-tell : (table : Map) (o : OpenOrder) (source k : ℕ) (n : Net) → AllByRecursion (TellsNext table o) (n.channel source k)
    → AllCarried (Tell table o source k) n
all-tell table o source k n h a b = elim (cases_eq a source) [
  | inl e ↦ elim (cases_eq b k) [
    | inl f ↦
        subst (λ i. AllByRecursion (Tell table o source k i b) (n.channel i b)) (sym e)
        (subst (λ i. AllByRecursion (Tell table o source k source i) (n.channel source i)) (sym f)
        (all-map (TellsNext table o) (Tell table o source k source k) (n.channel source k) (λ l q x y. q) h))
    | inr ne ↦ all-of _ (n.channel a b) (λ l x y. absurd (ne y))
  ]
  | inr ne ↦ all-of _ (n.channel a b) (λ l x y. absurd (ne x))
]

pub parts-moved : (table : Map) (o : OpenOrder) (source k : ℕ) (z : Sizes) (cs : List Caller) (n : Net) (e : Event) → Fits z cs n e
    → Sends (Tell table o source k) z e → AllByRecursion (TellsNext table o) (n.channel source k)
    → AllByRecursion (TellsNext table o) ((moved z n e).channel source k)
parts-moved table o source k z cs n e f sends h =
    all-map (Tell table o source k source k) (TellsNext table o) ((moved z n e).channel source k) (λ l q. q refl refl)
    (letters-moved (Tell table o source k) z cs n e f (all-tell table o source k n h) sends source k)

-- what another node sends, and what tells the join the next part or nothing
pub other-news : (table : Map) (o : OpenOrder) (source k : ℕ) (z : Sizes) (at : ℕ) (ls : List (NodeNo × Letter)) → (at ≡ source → ⊥)
    → News (Tell table o source k) z at ls
other-news table o source k z at ls ne b inside = all-of _ ls (λ m lands_there x y. absurd (ne x))

pub tell-news : (table : Map) (o : OpenOrder) (source k : ℕ) (z : Sizes) (at : ℕ) (ls : List (NodeNo × Letter)) → AllTell table o ls
    → News (Tell table o source k) z at ls
tell-news table o source k z at ls h b inside = all-map (λ (m : NodeNo × Letter). TellsNext table o m.1) _ ls (λ m q lands_there x y. q) h

-- where a letter that comes to the join's brick does
pub landed-news : (table : Map) (o : OpenOrder) (source k : ℕ) (z : Sizes) (at : ℕ) (ls : List (NodeNo × Letter))
    → (is_in z k ≡ true → AllByRecursion (λ (m : NodeNo × Letter). lands z m.0 k ≡ true → TellsNext table o m.1) ls) → News (Tell table o source k) z at ls
landed-news table o source k z at ls h b inside = elim (cases_eq b k) [
  | inl is ↦
      subst (λ i. AllByRecursion (λ (m : NodeNo × Letter). lands z m.0 i ≡ true → at ≡ source → i ≡ k → TellsNext table o m.1) ls) (sym is)
      (all-map (λ (m : NodeNo × Letter). lands z m.0 k ≡ true → TellsNext table o m.1) _ ls (λ m q lands_there x y. q lands_there)
      (h (subst (λ i. is_in z i ≡ true) is inside)))
  | inr ne ↦ all-of _ ls (λ m lands_there x y. absurd (ne y))
]

-- a join of a brick that stays as it was
pub kept-join : (table : Map) (z : Sizes) (cs : List Caller) (n : Net) (e : Event) (k : ℕ) (s : BrickState) (o : OpenOrder) → Fits z cs n e
    → JoinsCopy table n → n.node k ≡ a_brick s → s.stopped ≡ false → s.order ≡ Some o → is_join o.task ≡ true
    → ((source : NodeNo) → o.phase ≡ Copying source → Sends (Tell table o source k) z e) → CopiesTable table (moved z n e) k o
kept-join table z cs n e k s o f h here live there join sends =
    let was = h k s o here live there join in
    record { copied = was.copied; parts = λ source phase. parts-moved table o source k z cs n e f (sends source phase) (was.parts source phase) }

-- the changed node, or another one
pub data PutAt (n : Net) (at k : ℕ) (y : Node) (s : BrickState) : Type 0 where
  itself : k ≡ at → y ≡ a_brick s → PutAt n at k y s
  another : (k ≡ at → ⊥) → n.node k ≡ a_brick s → PutAt n at k y s

pub put-at : (n : Net) (at k : ℕ) (y : Node) (s : BrickState) → put at y n.node k ≡ a_brick s → PutAt n at k y s
put-at n at k y s h = elim (cases_eq k at) [
  | inl e ↦ itself e (sym (put-same n.node at k y e) ∙ h)
  | inr ne ↦ another ne (sym (put-other n.node at k y ne) ∙ h)
]
