use Rattle.std.proofs.Common.{◌≡◌, ℕ, ◌<◌, ◌≤◌, Bool, true, false, Option, Some, None, is_some, List, [], ◌∷◌, refl, sym, ap, ◌∙◌, subst, arith, cond}
use Rattle.std.proofs.lemmas.Bool.{both_ways}
use Rattle.std.specs.List.{AllByRecursion}
use Rattle.dds_base.specs.Number.{Txn, same_txn}
use Rattle.dds_books.specs.Calls.{SentOk}
use Rattle.dds_books.specs.Placed.{ArePlaced, IsFrom, IsTo, LetterOk, Made, MadeAt, NodeOk}
use Rattle.dds_letters.specs.declared.letter.Letter.{Letter}
use Rattle.dds_letters.specs.declared.letter.Letter.TheVariants as letter
use Rattle.dds_net.proofs.Places.{low-in}
use Rattle.dds_net.specs.Net.{Net, Node, nowhere, a_brick, a_library, Sizes, is_in}
use Rattle.dds_states.specs.declared.brick_state.BrickState.{BrickState}
use Rattle.dds_states.specs.declared.library_state.LibraryState.{LibraryState}
use Rattle.dds_states.specs.declared.library_state.OpenCall.{OpenCall}
use Rattle.dds_talk.proofs.BrickTakes.{IsBounded, Origin}
use Rattle.dds_talk.proofs.LibraryTakes.{Speaker}
use Rattle.dds_talk.proofs.Turns.{found-is}
use Rattle.dds_talk.specs.Seen.{asked, call_of, is_open, said}
use Rattle.dds_talk.specs.Table.{Ask, Say}

-- Who sent a letter, and what its numbers are.

pub record BrickAt (n : Net) (k : ℕ) : Type 0 where
  pub brick : BrickState
  pub here : n.node k ≡ a_brick brick

brick-if : (T : Txn → Type 0) (z : Sizes) (n : Net) (k : ℕ) (x : Node) → z.bricks ≤ 64 → n.node k ≡ x → NodeOk T z k x → k < z.bricks → BrickAt n k
brick-if T z n k nowhere few e h low = absurd (both_ways (is_in z k) h (low-in z k (omega (arith, low, few)) low))
brick-if T z n k (a_brick s) few e h low = record { brick = s; here = e }
brick-if T z n k (a_library s) few e h low = let high = h.high in absurd (omega (arith, high, low, few))

pub brick-at : (z : Sizes) (n : Net) (k : ℕ) → z.bricks ≤ 64 → ArePlaced z n → k < z.bricks → BrickAt n k
brick-at z n k few g low = brick-if (Made n) z n k (n.node k) few refl (g.nodes k) low

first-txn : {X : Type 0} (p q : Txn × X) → Some p ≡ Some q → p.0 ≡ q.0
first-txn {X = X} p q e = let s : p ≡ q = cc in ap (λ (w : Txn × X). w.0) s

to-speaker : (z : Sizes) (n : Net) (at from : ℕ) (x txn : Txn) → z.bricks ≤ 64 → ArePlaced z n → IsTo (Made n) z from at x → x ≡ txn → Speaker n at from txn
to-speaker z n at from x txn few g k e =
    let b = brick-at z n from few g k.sender in
    record { own = ap (λ (t : Txn). t.library) (sym e) ∙ k.library; member = b.brick; here = b.here }

pub speaker : (z : Sizes) (n : Net) (at from : ℕ) (l : Letter) (txn : Txn) (y : Say) → z.bricks ≤ 64 → ArePlaced z n → LetterOk (Made n) z from at l
    → said l ≡ Some (txn, y) → Speaker n at from txn
speaker z n at from (letter.Vote x vote) txn y few g k e = to-speaker z n at from x txn few g k.0 (first-txn {X = Say} _ (txn, y) e)
speaker z n at from (letter.Applied x was) txn y few g k e = to-speaker z n at from x txn few g k (first-txn {X = Say} _ (txn, y) e)
speaker z n at from (letter.Aborted x) txn y few g k e = to-speaker z n at from x txn few g k (first-txn {X = Say} _ (txn, y) e)
speaker z n at from other txn y few g k e = cc

-- a library's letter of an attempt

made-if : (n : Net) (from : ℕ) (txn : Txn) (x : Node) → n.node txn.library ≡ x → txn.library ≡ from → MadeAt txn x → Origin n from txn
made-if n from txn nowhere e f h = absurd h
made-if n from txn (a_brick s) e f h = absurd h
made-if n from txn (a_library s) e f h = record { own = f; library = s; here = ap n.node (sym f) ∙ e }

from-origin : (z : Sizes) (n : Net) (at from : ℕ) (x txn : Txn) → IsFrom (Made n) z from at x → x ≡ txn → Origin n from txn
from-origin z n at from x txn k e =
    subst (Origin n from) e (made-if n from x (n.node x.library) refl k.library k.made)

pub origin : (z : Sizes) (n : Net) (at from : ℕ) (l : Letter) (txn : Txn) (y : Ask) → LetterOk (Made n) z from at l → asked l ≡ Some (txn, y)
    → Origin n from txn
origin z n at from (letter.Prepare x caller call below name stamp list op) txn y k e = from-origin z n at from x txn k.0 (first-txn {X = Ask} _ (txn, y) e)
origin z n at from (letter.Commit x) txn y k e = from-origin z n at from x txn k (first-txn {X = Ask} _ (txn, y) e)
origin z n at from (letter.Abort x) txn y k e = from-origin z n at from x txn k (first-txn {X = Ask} _ (txn, y) e)
origin z n at from other txn y k e = cc

-- a prepare's bound

found-if : (P : OpenCall → Type 0) (c : Bool) (x : OpenCall) (o : Option OpenCall) (y : OpenCall) → P x → (o ≡ Some y → P y) → cond c (Some x) o ≡ Some y → P y
found-if P true x o y h f e = let is : x ≡ y = cc in subst P is h
found-if P false x o y h f e = f e

all-found : (P : OpenCall → Type 0) (cs : List OpenCall) (t : Txn) (c : OpenCall) → AllByRecursion P cs → call_of cs t ≡ Some c → P c
all-found P [] t c h e = cc
all-found P (x ∷ cs) t c h e = found-if P (same_txn x.txn t) x (call_of cs t) c h.0 (λ f. all-found P cs t c h.1 f) e

open-bound : (s : LibraryState) (t : Txn) (below : ℕ) (o : Option OpenCall) → AllByRecursion (λ (c : OpenCall). below ≤ c.txn.number) s.calls
    → call_of s.calls t ≡ o → is_open s t ≡ true → below ≤ t.number
open-bound s t below None h e up = let bad : false ≡ true = sym (ap is_some e) ∙ up in cc
open-bound s t below (Some c) h e up =
    let low = all-found (λ (c : OpenCall). below ≤ c.txn.number) s.calls t c h e in
    let same : c.txn.number ≡ t.number = ap (λ (x : Txn). x.number) (found-is s.calls t c e) in
    omega (arith, low, same)

pub bounded : (z : Sizes) (n : Net) (at from : ℕ) (l : Letter) (t : Txn) (s : LibraryState) → LetterOk (Made n) z from at l → SentOk from (n.node from) l
    → n.node t.library ≡ a_library s → is_open s t ≡ true → IsBounded l t
bounded z n at from (letter.Prepare x caller call below name stamp list op) t s k sent here up =
    λ e.
    let own : x.library ≡ from = k.0.library in
    let is : n.node from ≡ a_library s = ap n.node (sym own ∙ sym e) ∙ here in
    let m = subst (λ y. SentOk from y (letter.Prepare x caller call below name stamp list op)) is sent in
    open-bound s t below (call_of s.calls t) m.2 refl up
bounded z n at from other t s k sent here up = tt
