use Rattle.std.proofs.Common.{◌≡◌, inl, inr, ℕ, ◌==◌, ◌||◌, ◌++◌, Bool, true, false, not, Option, Some, None, List, [], ◌∷◌, refl, sym, ap, ◌∙◌, subst, arith}
use Rattle.std.proofs.lemmas.Bool.{and_from, eq-eqb, eqb-true}
use Rattle.std.proofs.lemmas.Bool.Decides.{nat_tests}
use Rattle.std.specs.Prelude.{is_some, if◌then◌else◌}
use Rattle.dds_base.specs.BrickList.{has}
use Rattle.dds_base.specs.Name.{Name, same_name}
use Rattle.dds_base.specs.NodeSet.{has_node}
use Rattle.dds_base.specs.declared.leaf.Leaf.{Leaf}
use Rattle.dds_letters.specs.declared.letter.Letter.{Letter}
use Rattle.dds_letters.specs.declared.letter.Letter.TheVariants as letter
use Rattle.dds_order_talk.proofs.Lines.{granted-leaf}
use Rattle.dds_order_talk.proofs.Moves.{Tells}
use Rattle.dds_order_talk.specs.Seen.{BrickTalk, New, Own, one, phase_view, rests, say_of, says, view, with_leaf}
use Rattle.dds_order_talk.specs.Table.{Ask, Say, Talk, Talks, View}
use Rattle.dds_order_talk.specs.Table.Say.{granted, refused, part, installed}
use Rattle.dds_order_talk.specs.Table.Talk.{off, asked, said_yes, said_no, first, has as has_it, copies, copied, dropped, heard, told, said_so, done}
use Rattle.dds_order_talk.specs.Table.Talks.{live, lost, gone}
use Rattle.dds_order_talk.specs.Table.View.{Off, Waits, Has, Source, Due, Done}
use Rattle.dds_orders.proofs.Asked.{or-right}
use Rattle.dds_states.specs.declared.brick_state.BrickState.{BrickState}
use Rattle.dds_states.specs.declared.brick_state.OpenOrder.{OpenOrder}
use Rattle.dds_states.specs.declared.brick_state.OrderPhase.{OrderPhase}
use Rattle.dds_states.specs.declared.brick_state.OrderPhase.TheVariants.{Leasing, Copying, Installing}
use Rattle.dds_share.proofs.Parts.{or-parts}
use Rattle.dds_share.proofs.Together.{has_part, is_part}

-- What a conversation says: a member that isn't waited for any more, or says so, has what the order made; and a part of what an order
-- copies comes from the member that it copies from.

name-self : (x : Name) → same_name x x ≡ true
name-self x = grind (arith, nat_tests)

-- the view of an order's own name
of-name : (o : OpenOrder) (q : Option OpenOrder) (m : ℕ) (p : OrderPhase) → q ≡ Some o → o.phase ≡ p → view rests q o.name m ≡ phase_view rests o m p
of-name o q m p e phase =
    ap (λ q. view rests q o.name m) e ∙ ap (λ c. if c then phase_view rests o m o.phase else Off) (name-self o.name) ∙ ap (phase_view rests o m) phase

both-live : {x : Name} {Own New : Tells} {a c : Bool} {v : View} {o : List Ask} {given : Bool} {b : List Say} → a ≡ true → c ≡ true
    → Talks x Own New a c v o given b → Talk x Own New v o given b
both-live e f (live h) = h
both-live e f (lost cut h) = cc
both-live e f gone = cc

as-view : {x : Name} {Own New : Tells} {v w : View} {out : List Ask} {given : Bool} {back : List Say} → v ≡ w → Talk x Own New v out given back
    → Talk x Own New w out given back
as-view {x = x} {Own = Own} {New = New} {out = out} {given = given} {back = back} e h = subst (λ u. Talk x Own New u out given back) e h

as-back : {x : Name} {Own New : Tells} {v : View} {out : List Ask} {given : Bool} {back said : List Say} → back ≡ said → Talk x Own New v out given back
    → Talk x Own New v out given said
as-back {x = x} {Own = Own} {New = New} {v = v} {out = out} {given = given} e h = subst (λ b. Talk x Own New v out given b) e h

-- nobody is waited for
done-new : {x : Name} {Own New : Tells} {out : List Ask} {given : Bool} {back : List Say} (m : ℕ) (made : Leaf) (w g : Bool) (q : Option Leaf) → w ≡ false
    → g ≡ true → is_some q ≡ true
    → Talk x Own New (if w then with_leaf rests m q (λ own. Due own made) else (if g then with_leaf rests m q (λ own. Done own made) else Off)) out given back
    → New made
done-new m made true g q e f h t = cc
done-new m made false false q e f h t = cc
done-new m made false true None e f h t = cc
done-new m made false true (Some leaf) e f h t = (granted-leaf refl t).1

-- a member says that it has installed
data IsDue (New : Tells) : View → Type 0 where
  is_due : {leaf made : Leaf} → New made → IsDue New (Due leaf made)

due-says : {x : Name} {Own New : Tells} {v : View} {out : List Ask} {given : Bool} {back : List Say} → Talk x Own New v out given (installed ∷ back)
    → IsDue New v
due-says (said_so new) = is_due new

due-new : {New : Tells} (m : ℕ) (made : Leaf) (w g : Bool) (q : Option Leaf)
    → IsDue New (if w then with_leaf rests m q (λ own. Due own made) else (if g then with_leaf rests m q (λ own. Done own made) else Off)) → New made
due-new m made true g None h = elim h [ ]
due-new m made true g (Some leaf) (is_due new) = new
due-new m made false true None h = elim h [ ]
due-new m made false true (Some leaf) h = elim h [ ]
due-new m made false false q h = elim h [ ]

-- between live bricks
module _ (j m : ℕ) (s t : BrickState) (o : OpenOrder) (made : Leaf) (out back : List Letter) (lives : s.stopped ≡ false) (also : t.stopped ≡ false)
    (unknown : has_node s.known m ≡ false) (is : s.order ≡ Some o) (phase : o.phase ≡ Installing made) (h : BrickTalk rests j m o.name s t out back) where
  pub heard-new : is_some o.leaf ≡ true → has o.granted m ≡ true → has o.waiting m ≡ false → New t.leaves o.name made
  heard-new fixed gave over =
      let it = both-live (ap not lives) (ap not also) (h unknown) in
      done-new m made (has o.waiting m) (has o.granted m) o.leaf over gave fixed
      (as-view (of-name o s.order m (Installing made) is phase) it)

  first-says : (number : ℕ) (name : Name) (rest : List Letter) → o.number ≡ number → back ≡ letter.Installed number name ∷ rest
      → says s.order o.name back ≡ installed ∷ says s.order o.name rest
  first-says number name rest e f =
      ap (says s.order o.name) f ∙ ap (λ q. say_of q o.name (letter.Installed number name) ++ says s.order o.name rest) is
      ∙ ap (λ c. one c installed ++ says s.order o.name rest)
      (and_from (o.number == number) (same_name o.name o.name) (eq-eqb o.number number e) (name-self o.name))

  pub says-new : (number : ℕ) (name : Name) (rest : List Letter) → o.number ≡ number → back ≡ letter.Installed number name ∷ rest → New t.leaves o.name made
  says-new number name rest e f =
      let it = both-live (ap not lives) (ap not also) (h unknown) in
      let said = as-back (first-says number name rest e f) it in
      due-new m made (has o.waiting m) (has o.granted m) o.leaf
      (subst (IsDue (New t.leaves o.name)) (of-name o s.order m (Installing made) is phase) (due-says said))

-- parts
abbrev is_said : Say → Bool
is_said part = true
is_said (granted leaf) = false
is_said refused = false
is_said installed = false

abbrev some_said : List Say → Bool
some_said [] = false
some_said (b ∷ bs) = is_said b || some_said bs

data IsCopied : View → Type 0 where
  is_copied : {leaf : Leaf} {key : Option ℕ} → IsCopied (Source leaf key)

said-append : (xs ys : List Say) → some_said ys ≡ true → some_said (xs ++ ys) ≡ true
said-append [] ys h = h
said-append (x ∷ xs) ys h = or-right (is_said x) (some_said (xs ++ ys)) (said-append xs ys h)

first-if : (c : Bool) (xs ys : List Say) → (some_said xs ≡ true → some_said (xs ++ ys) ≡ true) → (c || some_said xs) ≡ true
    → (c || some_said (xs ++ ys)) ≡ true
first-if true xs ys f h = refl
first-if false xs ys f h = f h

said-first : (xs ys : List Say) → some_said xs ≡ true → some_said (xs ++ ys) ≡ true
said-first [] ys h = cc
said-first (x ∷ xs) ys h = first-if (is_said x) xs ys (said-first xs ys) h

no-said : {v : View} → false ≡ true → IsCopied v
no-said e = absurd (not e)
  where
    not : false ≡ true → ⊥
    not e = cc

copied-view : {x : Name} {Own New : Tells} {v : View} {out : List Ask} {given : Bool} {back : List Say} → Talk x Own New v out given back
    → some_said back ≡ true → IsCopied v
copied-view (off k) e = no-said e
copied-view (asked q k) e = no-said e
copied-view (said_yes own fits) e = no-said e
copied-view said_no e = no-said e
copied-view (first own) e = no-said e
copied-view (has_it own) e = no-said e
copied-view (copies own) e = no-said e
copied-view (copied own) e = is_copied
copied-view (dropped own) e = no-said e
copied-view (heard own) e = no-said e
copied-view (told own) e = no-said e
copied-view (said_so new) e = no-said e
copied-view (done new) e = no-said e

copied-talks : {x : Name} {Own New : Tells} {a c : Bool} {v : View} {out : List Ask} {given : Bool} {back : List Say} → a ≡ true
    → Talks x Own New a c v out given back → some_said back ≡ true → IsCopied v
copied-talks e (live h) f = copied-view h f
copied-talks {back = back} e (lost cut h) f = copied-view h (said-first back cut f)
copied-talks e gone f = no-said e

one-said : (o : OpenOrder) (l : Letter) → is_part o.number l ≡ true → some_said (say_of (Some o) o.name l) ≡ true
one-said o (letter.CopyPart k last pairs) h =
    ap (λ c. some_said (one c part))
    (and_from (o.number == k) (same_name o.name o.name) (eq-eqb o.number k (sym (eqb-true k o.number h))) (name-self o.name))
one-said o other h = cc

parts-said : (o : OpenOrder) (ls : List Letter) → has_part o.number ls ≡ true → some_said (says (Some o) o.name ls) ≡ true
parts-said o [] h = cc
parts-said o (l ∷ ls) h = elim (or-parts (is_part o.number l) (has_part o.number ls) h) [
  | inl e ↦ said-first (say_of (Some o) o.name l) (says (Some o) o.name ls) (one-said o l e)
  | inr e ↦ said-append (say_of (Some o) o.name l) (says (Some o) o.name ls) (parts-said o ls e)
]

leasing-not : (w g : Bool) (m : ℕ) (q : Option Leaf) → IsCopied (if w then Waits q else (if g then with_leaf rests m q Has else Off)) → ⊥
leasing-not true g m q h = elim h [ ]
leasing-not false true m None h = elim h [ ]
leasing-not false true m (Some leaf) h = elim h [ ]
leasing-not false false m q h = elim h [ ]

installing-not : (w g : Bool) (m : ℕ) (made : Leaf) (q : Option Leaf)
    → IsCopied (if w then with_leaf rests m q (λ own. Due own made) else (if g then with_leaf rests m q (λ own. Done own made) else Off)) → ⊥
installing-not true g m made None h = elim h [ ]
installing-not true g m made (Some leaf) h = elim h [ ]
installing-not false true m made None h = elim h [ ]
installing-not false true m made (Some leaf) h = elim h [ ]
installing-not false false m made q h = elim h [ ]

has-not : (g : Bool) (m : ℕ) (q : Option Leaf) → IsCopied (if g then with_leaf rests m q Has else Off) → ⊥
has-not true m None h = elim h [ ]
has-not true m (Some leaf) h = elim h [ ]
has-not false m q h = elim h [ ]

copying-is : (o : OpenOrder) (m source : ℕ) (c : Bool) (v : View) → (source == m) ≡ c
    → IsCopied (if c then v else (if has o.granted m then with_leaf rests m o.leaf Has else Off)) → Copying source ≡ Copying m
copying-is o m source true v e h = ap Copying (eqb-true source m e)
copying-is o m source false v e h = absurd (has-not (has o.granted m) m o.leaf h)

copied-phase : (o : OpenOrder) (m : ℕ) (p : OrderPhase) → IsCopied (phase_view rests o m p) → p ≡ Copying m
copied-phase o m Leasing h = absurd (leasing-not (has o.waiting m) (has o.granted m) m o.leaf h)
copied-phase o m (Copying source) h = copying-is o m source (source == m) _ refl h
copied-phase o m (Installing made) h = absurd (installing-not (has o.waiting m) (has o.granted m) m made o.leaf h)

pub part-copies :
    (j m : ℕ) (s t : BrickState) (o : OpenOrder) (out back : List Letter) → s.stopped ≡ false → has_node s.known m ≡ false → s.order ≡ Some o
    → BrickTalk rests j m o.name s t out back → has_part o.number back ≡ true → o.phase ≡ Copying m
part-copies j m s t o out back lives unknown is h e =
    let said : some_said (says s.order o.name back) ≡ true = ap (λ q. some_said (says q o.name back)) is ∙ parts-said o back e in
    copied-phase o m o.phase (subst IsCopied (of-name o s.order m o.phase is refl) (copied-talks (ap not lives) (h unknown) said))
