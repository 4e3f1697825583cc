use Rattle.std.proofs.Common.{◌≡◌, ℕ, ◌++◌, ◌&&◌, ◌⊎◌, inl, inr, Bool, true, false, Option, Some, List, [], ◌∷◌, sym, ap, ◌∙◌, subst, arith}
use Rattle.std.proofs.lemmas.Bool.Decides.{nat_tests}
use Rattle.std.specs.FinMap.{get}
use Rattle.std.specs.List.{AllByRecursion}
use Rattle.dds_base.specs.Name.{Name}
use Rattle.dds_base.specs.Number.{StampOf}
use Rattle.dds_base.specs.declared.leaf.Leaf.{Leaf}
use Rattle.dds_base.specs.declared.number.NodeNo.{NodeNo}
use Rattle.dds_brick_rows.specs.Refusal.{is_found}
use Rattle.dds_core.proofs.Lists.{all-front}
use Rattle.dds_core.specs.Brick.{live_brick_turn}
use Rattle.dds_groups.specs.Leaves.{same_stamp}
use Rattle.dds_law_leaf.proofs.Book.{AreKnown, Body, Book, BrickOk, InLetter, Known, NodeOk, body}
use Rattle.dds_law_leaf.proofs.Bricks.{brick-turned}
use Rattle.dds_law_leaf.proofs.Keeps.{heard}
use Rattle.dds_law_leaf.proofs.Turns.{known-grown}
use Rattle.dds_letters.specs.declared.letter.Letter.{Letter}
use Rattle.dds_letters.specs.declared.letter.Letter.TheVariants as letter
use Rattle.dds_letters.specs.declared.refusal.Wanted.TheVariants as wanted
use Rattle.dds_net.specs.Event.{Takes}
use Rattle.dds_net.specs.Net.{Net, a_brick, Sizes}
use Rattle.dds_order_talk.proofs.MemberHears.{sent}
use Rattle.dds_order_talk.specs.Seen.{is_its, is_named, one, say_of, says}
use Rattle.dds_order_talk.specs.Table.{Say}
use Rattle.dds_order_talk.specs.Table.Say.{granted, refused, part, installed}
use Rattle.dds_orders.proofs.Deeds.{seat}
use Rattle.dds_orders.proofs.Standing.{Stood, keyed}
use Rattle.dds_orders.proofs.Turns.{Turns}
use Rattle.dds_states.specs.declared.brick_state.BrickState.{BrickState}
use Rattle.dds_states.specs.declared.brick_state.OpenOrder.{OpenOrder}

-- A leaf that a member grants is the one that it was told, where they have name and stamp in common: both are known after the turn.

first-is : (c : Bool) (a : Say) (rest : List Say) (own : Leaf) → one c a ++ rest ≡ granted own ∷ [] → (a ≡ granted own) ⊎ (rest ≡ granted own ∷ [])
first-is true a rest own e = let is : a ≡ granted own = cc in inl is
first-is false a rest own e = inr e

said-leaf : (P : Leaf → Type 0) (q : Option OpenOrder) (x : Name) (l : Letter) (rest : List Say) (own : Leaf) → say_of q x l ++ rest ≡ granted own ∷ []
    → InLetter P l → (rest ≡ granted own ∷ [] → P own) → P own
said-leaf P q x (letter.Granted number leaf) rest own e h f = elim (first-is (is_its q number && is_named q x) (granted leaf) rest own e) [
  | inl is ↦ (let same : leaf ≡ own = cc in subst P same h)
  | inr k ↦ f k
]
said-leaf P q x (letter.LeaseRefused number why) rest own e h f = elim (first-is (is_its q number && is_named q x) refused rest own e) [
  | inl is ↦ (let no : refused ≡ granted own = is in cc)
  | inr k ↦ f k
]
said-leaf P q x (letter.CopyPart number last pairs) rest own e h f = elim (first-is (is_its q number && is_named q x) part rest own e) [
  | inl is ↦ (let no : part ≡ granted own = is in cc)
  | inr k ↦ f k
]
said-leaf P q x (letter.Installed number name) rest own e h f = elim (first-is (is_its q number && is_named q x) installed rest own e) [
  | inl is ↦ (let no : installed ≡ granted own = is in cc)
  | inr k ↦ f k
]
said-leaf P q x other rest own e h f = f e

granted-in : (P : Leaf → Type 0) (q : Option OpenOrder) (x : Name) (ls : List (NodeNo × Letter)) (own : Leaf) → says q x (sent ls) ≡ granted own ∷ []
    → AllByRecursion (λ (p : NodeNo × Letter). InLetter P p.1) ls → P own
granted-in P q x [] own e h = cc
granted-in P q x (l ∷ ls) own e h = said-leaf P q x l.1 (says q x (sent ls)) own e h.0 (λ k. granted-in P q x ls own k h.1)

-- leaves of one body, name and stamp
abbrev whole_leaf : Name → StampOf → Body → Leaf
whole_leaf n st b = record { name = n; epoch = b.epoch; stamp = st; prev = b.prev; list = b.list }

stamp : ℕ → ℕ → StampOf
stamp maker count = record { maker = maker; count = count }

same-stamps : (a b : StampOf) → same_stamp a b ≡ true → a ≡ b
unfolding stamp
same-stamps a b h =
    let m : a.maker ≡ b.maker = grind (arith, nat_tests, h) in
    let c : a.count ≡ b.count = grind (arith, nat_tests, h) in
    ap (λ k. stamp k a.count) m ∙ ap (λ k. stamp b.maker k) c

bodies : (x y : Body) → Some x ≡ Some y → x ≡ y
bodies x y e = cc

one-leaf : (b : Book) (told own : Leaf) → Known b told → Known b own → own.name ≡ told.name → own.stamp ≡ told.stamp → told ≡ own
one-leaf b told own h k n st =
    let same : body told ≡ body own = bodies (body told) (body own) (sym h ∙ ap b (sym st) ∙ k) in
    ap (λ y. whole_leaf told.name told.stamp y) same ∙ ap (λ y. whole_leaf y told.stamp (body own)) (sym n)
    ∙ ap (λ y. whole_leaf own.name y (body own)) (sym st)

pub granted-told : (z : Sizes) (n : Net) (at from : NodeNo) (l : Letter) (s : BrickState) (q : Option OpenOrder) (x : Name)
    (u : Turns from (seat s) l (live_brick_turn s from l)) (number : ℕ) (told own : Leaf) → AreKnown n → Takes z n at from l (a_brick s) → Stood at u.first
    → l ≡ letter.Lease number (wanted.Leaf told) → get u.first.own.leaves told.name ≡ Some own → is_found (Some told.stamp) (Some own) ≡ true
    → says q x (sent u.answers) ≡ granted own ∷ [] → told ≡ own
granted-told z n at from l s q x u number told own g f first e there found said =
    let ok : BrickOk at g.book s = subst (NodeOk g.book at) f.here (g.nodes at) in
    let came = heard z n at from l g f.letter in
    let t = brick-turned s from l (ok.live f.live) came in
    let before : Known g.book told = subst (InLetter (Known g.book)) e came in
    let letters = subst (AllByRecursion (λ (p : NodeNo × Letter). InLetter (Known t.next) p.1)) u.all t.letters in
    one-leaf t.next told own (known-grown g.book t.next t.grown.grows told before)
    (granted-in (Known t.next) q x u.answers own said (all-front _ u.answers u.letters letters)) (keyed at u.first.own own first.both.0 told.name there)
    (same-stamps own.stamp told.stamp found)
