use Rattle.std.proofs.Common.{◌≡◌, ℕ, ◌||◌, ◌⊎◌, inl, inr, Bool, true, false, List, [], ◌∷◌, refl, sym, ap, ◌∙◌, subst}
use Rattle.std.proofs.lemmas.Bool.{both_ways, cases_Bool, cases_eq}
use Rattle.std.specs.List.{AllByRecursion}
use Rattle.dds_base.specs.declared.number.NodeNo.{NodeNo}
use Rattle.dds_cluster.specs.declared.trace.Caller.{Caller}
use Rattle.dds_core.proofs.Lists.{all-map}
use Rattle.dds_core.specs.Brick.{brick_input, live_brick_turn}
use Rattle.dds_law_notice.proofs.Views.{View, brick-does, brick-takes, same-stopped, view}
use Rattle.dds_letters.specs.declared.letter.Letter.{Letter}
use Rattle.dds_letters.specs.declared.letter.Letter.TheVariants as letter
use Rattle.dds_net.proofs.Carried.{AllCarried, News, letters-moved}
use Rattle.dds_net.proofs.Carried.{Sends as Owed}
use Rattle.dds_net.proofs.Letters.{AllSent, does-sent, stops-sent, takes-sent}
use Rattle.dds_net.specs.Event.{Event, nothing, unheard, unasked, brick_takes, brick_told, brick_stops, library_takes, library_asked, library_stops}
use Rattle.dds_net.specs.Event.{Fits, asked_turn, moved}
use Rattle.dds_net.specs.Net.{Net, Node, nowhere, a_brick, a_library, Sizes}
use Rattle.dds_core.specs.LibraryTurn.{live_library_turn}
use Rattle.dds_orders.proofs.Deeds.{AreOthers, is_of_orders}
use Rattle.dds_orders.proofs.LibraryLetters.{asked-others, library-others}
use Rattle.dds_states.specs.declared.brick_state.BrickState.{BrickState}
use Rattle.dds_states.specs.declared.library_state.LibraryState.{LibraryState}
use Rattle.dds_share.proofs.Together.{has_part, is_part}
use Rattle.dds_share.proofs.Turned.{put-same}

-- Parts of what orders copy come from bricks; and one that comes from a brick that has stopped came before.

abbrev pub IsBrick : Node → Type 0
IsBrick nowhere = ⊥
IsBrick (a_brick s) = Unit {0}
IsBrick (a_library s) = ⊥

abbrev pub is_copy : Letter → Bool
is_copy (letter.CopyPart number last pairs) = true
is_copy other = false

abbrev pub FromBrick : ℕ → Node → Letter → Type 0
FromBrick a x l = is_copy l ≡ true → IsBrick x

pub all-of : {X : Type 0} (P : X → Type 0) (xs : List X) → ((x : X) → P x) → AllByRecursion P xs
all-of P [] f = tt
all-of P (x ∷ xs) f = (f x, all-of P xs f)

not-copy : (l : Letter) → is_of_orders l ≡ false → is_copy l ≡ true → ⊥
not-copy (letter.CopyPart number last pairs) h e = cc
not-copy other h e = cc

others-not : (at : ℕ) (y : Node) (ls : List (NodeNo × Letter)) → AreOthers ls → AllByRecursion (λ (p : NodeNo × Letter). FromBrick at y p.1) ls
others-not at y ls h = all-map _ (λ (p : NodeNo × Letter). FromBrick at y p.1) ls (λ p k e. absurd (not-copy p.1 k e)) h

no-library : (x : Node) (y : Node) → IsBrick x → x ≡ y → (IsBrick y → ⊥) → ⊥
no-library x y h e f = f (subst IsBrick e h)

pub bricks-kept : (z : Sizes) (cs : List Caller) (n : Net) (e : Event) → Fits z cs n e → AllSent FromBrick n → AllSent FromBrick (moved z n e)
bricks-kept z cs n nothing f g = g
bricks-kept z cs n (unasked at caller call o) f g = g
bricks-kept z cs n (unheard at from l) f g = takes-sent FromBrick z n at from (n.node at) [] (record { later = λ l h. h; new = tt }) g
bricks-kept z cs n (brick_takes at from l s) f g =
    let t = live_brick_turn s from l in
    takes-sent FromBrick z n at from (a_brick t.state) t.out.letters (record { later = λ l h e. tt; new = all-of _ t.out.letters (λ p e. tt) }) g
bricks-kept z cs n (brick_told at o s) f g =
    let t = brick_input s o in
    does-sent FromBrick z n at (a_brick t.state) t.out.letters (record { later = λ l h e. tt; new = all-of _ t.out.letters (λ p e. tt) }) g
bricks-kept z cs n (brick_stops at s kept) f g = stops-sent FromBrick z n at _ kept f.left.front (λ l h e. tt) (λ e. cc) g
bricks-kept z cs n (library_takes at from l s) f g =
    let t = live_library_turn s from l in
    takes-sent FromBrick z n at from (a_library t.state) t.out.letters (record {
      later = λ l h e. no-library (n.node at) (a_library s) (h e) f.here (λ k. k);
      new = others-not at (a_library t.state) t.out.letters (library-others s from l);
    }) g
bricks-kept z cs n (library_asked at caller call o s) f g =
    let t = asked_turn s caller call o in
    does-sent FromBrick z n at (a_library t.state) t.out.letters (record {
      later = λ l h e. no-library (n.node at) (a_library s) (h e) f.here (λ k. k);
      new = others-not at (a_library t.state) t.out.letters (asked-others s caller call o);
    }) g
bricks-kept z cs n (library_stops at s kept) f g =
    stops-sent FromBrick z n at (a_library (record s { stopped = true })) kept f.left.front
    (λ l h e. no-library (n.node at) (a_library s) (h e) f.here (λ k. k)) (λ e. cc) g

-- a part on its way
part-copy : (number : ℕ) (l : Letter) → is_part number l ≡ true → is_copy l ≡ true
part-copy number (letter.CopyPart k last pairs) h = refl
part-copy number other h = cc

pub or-parts : (a b : Bool) → (a || b) ≡ true → (a ≡ true) ⊎ (b ≡ true)
or-parts true b h = inl refl
or-parts false b h = inr h

part-from : (number : ℕ) (x : Node) (a : ℕ) (ls : List Letter) → AllByRecursion (FromBrick a x) ls → has_part number ls ≡ true → IsBrick x
part-from number x a [] all h = cc
part-from number x a (l ∷ ls) all h = elim (or-parts (is_part number l) (has_part number ls) h) [
  | inl e ↦ all.0 (part-copy number l e)
  | inr e ↦ part-from number x a ls all.1 e
]

brick-is : (x : Node) → IsBrick x → (s : BrickState) × (x ≡ a_brick s)
brick-is nowhere h = absurd h
brick-is (a_brick s) h = (s, refl)
brick-is (a_library s) h = absurd h

-- comes from a brick
pub part-brick : (n : Net) (number source j : ℕ) → AllSent FromBrick n → has_part number (n.channel source j) ≡ true
    → (s : BrickState) × (n.node source ≡ a_brick s)
part-brick n number source j g h = brick-is (n.node source) (part-from number (n.node source) source (n.channel source j) (g source j) h)

-- what was there before an event, if the sender has stopped
abbrev NoPart : ℕ → ℕ → ℕ → ℕ → ℕ → Letter → Type 0
NoPart number source j a b l = a ≡ source → b ≡ j → is_part number l ≡ false

pub none-has : (number : ℕ) (ls : List Letter) → has_part number ls ≡ false → AllByRecursion (λ l. is_part number l ≡ false) ls
none-has number [] h = tt
none-has number (l ∷ ls) h = let p = neither (is_part number l) (has_part number ls) h in (p.0, none-has number ls p.1)
  where
    neither : (a b : Bool) → (a || b) ≡ false → (a ≡ false) × (b ≡ false)
    neither true b h = cc
    neither false b h = (refl, h)

has-none : (number source j : ℕ) (ls : List Letter) → AllByRecursion (NoPart number source j source j) ls → has_part number ls ≡ false
has-none number source j [] all = refl
has-none number source j (l ∷ ls) all =
    ap (λ c. c || has_part number ls) (all.0 refl refl) ∙ has-none number source j ls all.1

all-none : (n : Net) (number source j : ℕ) → has_part number (n.channel source j) ≡ false → AllCarried (NoPart number source j) n
all-none n number source j h a b = elim (cases_eq a source) [
  | inl e ↦ elim (cases_eq b j) [
    | inl f ↦
        let ls = none-has number (n.channel source j) h in
        subst (λ i. AllByRecursion (NoPart number source j i b) (n.channel i b)) (sym e)
        (subst (λ i. AllByRecursion (NoPart number source j source i) (n.channel source i)) (sym f)
        (all-map (λ l. is_part number l ≡ false) (NoPart number source j source j) (n.channel source j) (λ l k x y. k) ls))
    | inr ne ↦ all-of _ (n.channel a b) (λ l x y. absurd (ne y))
  ]
  | inr ne ↦ all-of _ (n.channel a b) (λ l x y. absurd (ne x))
]

pub no-news : (z : Sizes) (cs : List Caller) (n : Net) (e : Event) (number source j : ℕ) → Fits z cs n e → Owed (NoPart number source j) z e
    → has_part number ((moved z n e).channel source j) ≡ true → has_part number (n.channel source j) ≡ true
no-news z cs n e number source j f sends h = elim (cases_Bool (has_part number (n.channel source j))) [
  | inl k ↦ k
  | inr k ↦
      let after = letters-moved (NoPart number source j) z cs n e f (all-none n number source j k) sends in
      absurd (both_ways (has_part number ((moved z n e).channel source j)) (has-none number source j _ (after source j)) h)
]

-- who sends nothing of the kind
news-other : (z : Sizes) (at number source j : ℕ) (ls : List (NodeNo × Letter)) → (at ≡ source → ⊥) → News (NoPart number source j) z at ls
news-other z at number source j ls ne b inside = all-of _ ls (λ p lands x y. absurd (ne x))

live-brick : (m : Net) (at source : ℕ) (u t : BrickState) → m.node at ≡ a_brick u → u.stopped ≡ false → m.node source ≡ a_brick t → t.stopped ≡ true
    → at ≡ source → ⊥
live-brick m at source u t here live there dead e =
    let same : a_brick u ≡ a_brick t = sym here ∙ ap m.node e ∙ there in
    both_ways u.stopped live (ap (λ x. (view x).stopped) same ∙ dead)

library-not : (m : Net) (at source : ℕ) (q : LibraryState) (t : BrickState) → m.node at ≡ a_library q → m.node source ≡ a_brick t → at ≡ source → ⊥
library-not m at source q t here there e = let no : a_library q ≡ a_brick t = sym here ∙ ap m.node e ∙ there in cc

pub part-before : (z : Sizes) (cs : List Caller) (n : Net) (e : Event) (number source j : ℕ) (t : BrickState) → Fits z cs n e
    → (moved z n e).node source ≡ a_brick t → t.stopped ≡ true → has_part number ((moved z n e).channel source j) ≡ true
    → has_part number (n.channel source j) ≡ true
part-before z cs n nothing number source j t f there dead h = h
part-before z cs n (unasked at caller call o) number source j t f there dead h = h
part-before z cs n (unheard at from l) number source j t f there dead h = no-news z cs n (unheard at from l) number source j f tt h
part-before z cs n (brick_takes at from l s) number source j t f there dead h =
    let u = (live_brick_turn s from l).state in
    let live : u.stopped ≡ false = ap (λ (v : View). v.stopped) (brick-takes s from l f.live).after ∙ same-stopped from l (view (a_brick s)) ∙ f.live in
    no-news z cs n (brick_takes at from l s) number source j f
    (news-other z at number source j _ (live-brick (moved z n (brick_takes at from l s)) at source u t (put-same n.node at at (a_brick u) refl) live there
    dead)) h
part-before z cs n (brick_told at o s) number source j t f there dead h =
    no-news z cs n (brick_told at o s) number source j f (news s.stopped refl) h
  where
    none : (ls : List (NodeNo × Letter)) → ls ≡ [] → News (NoPart number source j) z at ls
    none ls e = subst (News (NoPart number source j) z at) (sym e) (λ b inside. tt)

    news : (c : Bool) → s.stopped ≡ c → News (NoPart number source j) z at (brick_input s o).out.letters
    news true e = none (brick_input s o).out.letters ((brick-does s o).still e)
    news false e =
        news-other z at number source j _ (live-brick (moved z n (brick_told at o s)) at source (brick_input s o).state t
        (put-same n.node at at (a_brick (brick_input s o).state) refl) (ap (λ (v : View). v.stopped) (brick-does s o).after ∙ e) there dead)
part-before z cs n (brick_stops at s kept) number source j t f there dead h =
    no-news z cs n (brick_stops at s kept) number source j f (λ b x y. refl) h
part-before z cs n (library_takes at from l s) number source j t f there dead h =
    no-news z cs n (library_takes at from l s) number source j f
    (news-other z at number source j _ (library-not (moved z n (library_takes at from l s)) at source _ t (put-same n.node at at _ refl) there)) h
part-before z cs n (library_asked at caller call o s) number source j t f there dead h =
    no-news z cs n (library_asked at caller call o s) number source j f
    (news-other z at number source j _ (library-not (moved z n (library_asked at caller call o s)) at source _ t (put-same n.node at at _ refl) there)) h
part-before z cs n (library_stops at s kept) number source j t f there dead h =
    no-news z cs n (library_stops at s kept) number source j f (λ b x y. refl) h
