use Rattle.std.proofs.Common.{◌≡◌, ℕ, Bool, true, false, Option, Some, None, List, [], ◌∷◌, refl, sym, ◌∙◌, subst}
use Rattle.std.specs.FinMap.{get}
use Rattle.std.specs.List.{AllByRecursion}
use Rattle.std.specs.Prelude.{if◌then◌else◌}
use Rattle.dds_base.specs.Number.{StampOf}
use Rattle.dds_base.specs.declared.leaf.Leaf.{Leaf}
use Rattle.dds_base.specs.declared.number.NodeNo.{NodeNo}
use Rattle.dds_core.proofs.Lists.{all-append, all-map}
use Rattle.dds_letters.specs.declared.letter.Letter.{Letter}
use Rattle.dds_states.specs.Turn.{BrickTurn, and_then, sends, still, to_each}
use Rattle.dds_states.specs.declared.brick_state.BrickState.{BrickState}
use Rattle.dds_states.specs.declared.brick_state.OpenOrder.{OpenOrder}
use Rattle.dds_world.specs.Groups.{letter_leaf, made_leaf}
use Rattle.dds_law_leaf.proofs.Book.{Book, Each, Grows, InLetter, InMap, InOrder, IsBred, Known, Leafed, LeafedBy, Leafing, leafing}
use Rattle.dds_law_leaf.proofs.Maps.{each-map}

-- A brick's turn, in which it may make leaves.

-- a book with more stamps, all of this maker
pub record Grown (me : ℕ) (b c : Book) : Type 0 where
  pub grows : Grows b c
  pub others : (st : StampOf) → (st.maker ≡ me → ⊥) → c st ≡ b st

pub grown-none : (me : ℕ) (b : Book) → Grown me b b
grown-none me b = record { grows = λ st x e. e; others = λ st ne. refl }

pub grown-more : (me : ℕ) (b c d : Book) → Grown me b c → Grown me c d → Grown me b d
grown-more me b c d g h = record { grows = λ st x e. h.grows st x (g.grows st x e); others = λ st ne. h.others st ne ∙ g.others st ne }

pub known-grown : (b c : Book) → Grows b c → (leaf : Leaf) → Known b leaf → Known c leaf
known-grown b c g leaf h = g leaf.stamp _ h

pub map-grown : (b c : Book) (s : BrickState) → Grows b c → InMap (Known b) s.leaves → InMap (Known c) s.leaves
map-grown b c s g h name = each-map (Known b) (Known c) (get s.leaves name) (known-grown b c g) (h name)

pub order-grown : (b c : Book) (o : Option OpenOrder) → Grows b c → InOrder (Known b) o → InOrder (Known c) o
order-grown b c None g h = tt
order-grown b c (Some o) g h =
    (each-map (Known b) (Known c) o.leaf (known-grown b c g) h.0, each-map (Known b) (Known c) (made_leaf o.phase) (known-grown b c g) h.1)

abbrev pub Letters : Book → List (NodeNo × Letter) → Type 0
Letters b ls = AllByRecursion (λ (p : NodeNo × Letter). InLetter (Known b) p.1) ls

pub letters-grown : (b c : Book) (ls : List (NodeNo × Letter)) → Grows b c → Letters b ls → Letters c ls
letters-grown b c ls g h =
    all-map (λ (p : NodeNo × Letter). InLetter (Known b) p.1) (λ p. InLetter (Known c) p.1) ls
    (λ p k. each-map (Known b) (Known c) (letter_leaf p.1) (known-grown b c g) k) h

pub letters-each : (b : Book) (ns : List NodeNo) (l : Letter) → InLetter (Known b) l → Letters b (to_each ns l)
letters-each b [] l h = tt
letters-each b (n ∷ ns) l h = (h, letters-each b ns l h)

-- the book after the turn, in which the brick's leaves and those of its letters are known
pub record Turned (me : ℕ) (b : Book) (t : BrickTurn) : Type 0 where
  pub next : Book
  pub grown : Grown me b next
  pub bred : IsBred b → IsBred next
  pub state : Leafed me next t.state
  pub letters : Letters next t.out.letters

module _ {me : ℕ} {b : Book} where
  pub turned : (t : BrickTurn) → Leafed me b t.state → Letters b t.out.letters → Turned me b t
  turned t h k = record { next = b; grown = grown-none me b; bred = λ q. q; state = h; letters = k }

  pub turned-still : (u : BrickState) → Leafed me b u → Turned me b (still u)
  turned-still u h = turned (still u) h tt

  pub turned-if : (c : Bool) {t u : BrickTurn} → Turned me b t → Turned me b u → Turned me b (if c then t else u)
  turned-if true h k = h
  turned-if false h k = k

  -- letters, and then a turn
  pub turned-then : (u : BrickState) (ls : List (NodeNo × Letter)) (row : BrickState → BrickTurn) → Letters b ls → Turned me b (row u)
      → Turned me b (and_then (sends u ls) row)
  turned-then u ls row h k =
      record {
        next = k.next;
        grown = k.grown;
        bred = k.bred;
        state = k.state;
        letters = all-append _ ls (row u).out.letters (letters-grown b k.next ls k.grown.grows h) k.letters;
      }

-- a turn that leaves the brick's leaves alone, and sends none
pub record Plain (x : Leafing) (t : BrickTurn) : Type 0 where
  pub same : leafing t.state ≡ x
  pub letters : AllByRecursion (λ (p : NodeNo × Letter). letter_leaf p.1 ≡ None) t.out.letters

no-leaves : (b : Book) (ls : List (NodeNo × Letter)) → AllByRecursion (λ (p : NodeNo × Letter). letter_leaf p.1 ≡ None) ls → Letters b ls
no-leaves b ls h = all-map _ _ ls (λ l k. subst (Each (Known b)) (sym k) tt) h

module _ {me : ℕ} {b : Book} where
  pub turned-plain : (s : BrickState) (t : BrickTurn) → Leafed me b s → Plain (leafing s) t → Turned me b t
  turned-plain s t h p = turned t (subst (LeafedBy me b) (sym p.same) h) (no-leaves b t.out.letters p.letters)

  -- a turn, and then a plain one
  pub then-plain : (t : BrickTurn) (row : BrickState → BrickTurn) → Turned me b t → ((u : BrickState) → Plain (leafing u) (row u))
      → Turned me b (and_then t row)
  then-plain t row h f =
      let p = f t.state in
      record {
        next = h.next;
        grown = h.grown;
        bred = h.bred;
        state = subst (LeafedBy me h.next) (sym p.same) h.state;
        letters = all-append _ t.out.letters (row t.state).out.letters h.letters (no-leaves h.next (row t.state).out.letters p.letters);
      }
