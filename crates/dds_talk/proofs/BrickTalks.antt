use Rattle.std.proofs.Common.{◌≡◌, ℕ, ◌⊎◌, inl, inr, Bool, true, false, not, List, [], ◌∷◌, ◌++◌, Option, refl, sym, ap, ◌∙◌}
use Rattle.std.proofs.Common.{subst}
use Rattle.std.proofs.lemmas.Bool.{cases_eq}
use Rattle.dds_base.specs.Number.{Txn}
use Rattle.dds_base.specs.declared.number.NodeNo.{NodeNo}
use Rattle.dds_letters.specs.declared.letter.Letter.{Letter}
use Rattle.dds_states.specs.declared.brick_state.BrickState.{BrickState}
use Rattle.dds_states.specs.declared.library_state.LibraryState.{LibraryState}
use Rattle.dds_net.specs.Net.{Net, Node, a_brick, a_library, Sizes, gains, put}
use Rattle.dds_talk.proofs.BrickRows.{Fits, Half, half-talks}
use Rattle.dds_talk.proofs.BrickRows.Half.{still, hears}
use Rattle.dds_talk.proofs.Changes.{Turned, put-here, put-other}
use Rattle.dds_talk.proofs.Letters.{about-append}
use Rattle.dds_talk.proofs.Moves.{asked-new, commit-prepared, learns}
use Rattle.dds_talk.proofs.Sure.{sure-half}
use Rattle.dds_talk.specs.Books.{Books, with_brick}
use Rattle.dds_talk.specs.Parts.{Conversation, AllDecide, Decided, IsSure, Meeting, Sure, AllTalk}
use Rattle.dds_talk.specs.Seen.{asks, at, noting, one, said, says, view}
use Rattle.dds_talk.specs.Table.{View, Ask, Say, At, Talk, Talks, IsTalk, Known}
use Rattle.dds_talk.specs.Table.IsTalk.{unknowing, knowing}
use Rattle.dds_talk.specs.Table.Talks.{live, left}
use Rattle.dds_talk.specs.Table.Ask.{prepare, commit, abort}

-- A brick's turn keeps the conversations and what is sure, where it does at the brick itself.

pub no-both : (x : Node) (l : LibraryState) (s : BrickState) → x ≡ a_library l → x ≡ a_brick s → ⊥
no-both x l s e f = let q : a_library l ≡ a_brick s = sym e ∙ f in cc

pub brick-same : (s u : BrickState) → a_brick s ≡ a_brick u → s ≡ u
brick-same s u e = cc

pub library-same : (s u : LibraryState) → a_library s ≡ a_library u → s ≡ u
library-same s u e = cc

pub apart-from : (n : Net) (t : Txn) (k : ℕ) (l : LibraryState) (s : BrickState) → n.node t.library ≡ a_library l → n.node k ≡ a_brick s
    → t.library ≡ k → ⊥
apart-from n t k l s e f same = no-both (n.node k) l s (ap n.node (sym same) ∙ e) f

pub record Here (w : Net) (t : Txn) (n : ℕ) (l : LibraryState) (s : BrickState) : Type 0 where
  pub before : Meeting w t n l s
  pub apart : t.library ≡ n → ⊥

-- where another brick turns, a conversation stays
pub away-talks : (z : Sizes) (w v : Net) (n : ℕ) (s u : BrickState) (ls : List (NodeNo × Letter)) (b : Books) (t : Txn) (m : ℕ) (l : LibraryState)
    (x : BrickState) → Turned z w v n (a_brick s) (a_brick u) ls → (t.library ≡ n → ⊥) → (m ≡ n → ⊥) → Conversation w b t m l x
    → Conversation v (with_brick n u b) t m l x
away-talks z w v n s u ls b t m l x step apart ne h =
    let out : v.channel t.library m ≡ w.channel t.library m = step.far t.library m apart ne in
    let back : v.channel m t.library ≡ w.channel m t.library = step.far m t.library ne apart in
    let noted : put n (noting u.locks.outcomes (b.noted n)) b.noted m t ≡ b.noted m t =
    ap (λ (f : Txn → Option Bool). f t) (put-other n (noting u.locks.outcomes (b.noted n)) b.noted m ne) in
    rw (out, back, noted) h

away-sure : (z : Sizes) (w v : Net) (n : ℕ) (s u : BrickState) (ls : List (NodeNo × Letter)) (b : Books) (t : Txn) (m : ℕ) (l : LibraryState)
    (x : BrickState) → Turned z w v n (a_brick s) (a_brick u) ls → (t.library ≡ n → ⊥) → (m ≡ n → ⊥) → IsSure w b t m l x
    → IsSure v (with_brick n u b) t m l x
away-sure z w v n s u ls b t m l x step apart ne h =
    let out : v.channel t.library m ≡ w.channel t.library m = step.far t.library m apart ne in
    let noted : put n (noting u.locks.outcomes (b.noted n)) b.noted m t ≡ b.noted m t =
    ap (λ (f : Txn → Option Bool). f t) (put-other n (noting u.locks.outcomes (b.noted n)) b.noted m ne) in
    rw (out, noted) h

-- the meeting before
pub met-here : (z : Sizes) (w v : Net) (n : ℕ) (s u : BrickState) (ls : List (NodeNo × Letter)) (t : Txn) (l : LibraryState) (y : BrickState)
    → Turned z w v n (a_brick s) (a_brick u) ls → Meeting v t n l y → Here w t n l s
met-here z w v n s u ls t l y step meets =
    let apart : t.library ≡ n → ⊥ = apart-from v t n l u meets.library step.is in
    record { before = record { library = sym (step.others t.library apart) ∙ meets.library; member = step.here; unknown = meets.unknown }; apart = apart }

pub met-away : (z : Sizes) (w v : Net) (n : ℕ) (s u : BrickState) (ls : List (NodeNo × Letter)) (t : Txn) (m : ℕ) (l : LibraryState) (y : BrickState)
    → Turned z w v n (a_brick s) (a_brick u) ls → (m ≡ n → ⊥) → Meeting v t m l y → Here w t m l y
met-away z w v n s u ls t m l y step ne meets =
    let far : t.library ≡ n → ⊥ = apart-from v t n l u meets.library step.is in
    let member : w.node m ≡ a_brick y = sym (step.others m ne) ∙ meets.member in
    let library : w.node t.library ≡ a_library l = sym (step.others t.library far) ∙ meets.library in
    record { before = record { library = library; member = member; unknown = meets.unknown }; apart = apart-from w t m l y library member }

pub brick-talks : (z : Sizes) (w v : Net) (n : ℕ) (s u : BrickState) (ls : List (NodeNo × Letter)) (b : Books)
    → Turned z w v n (a_brick s) (a_brick u) ls → AllTalk w b
    → ((t : Txn) (l : LibraryState) → Here w t n l s → Conversation w b t n l s → Conversation v (with_brick n u b) t n l u) → AllTalk v (with_brick n u b)
brick-talks z w v n s u ls b step talk each t m l x meets = elim (cases_eq m n) [
  | inl e ↦ subst (λ k. (y : BrickState) → Meeting v t k l y → Conversation v (with_brick n u b) t k l y) (sym e) at-n x meets
  | inr ne ↦
      let h = met-away z w v n s u ls t m l x step ne meets in
      away-talks z w v n s u ls b t m l x step (apart-from v t n l u meets.library step.is) ne (talk t m l x h.before)
]
  where
    at-n : (y : BrickState) → Meeting v t n l y → Conversation v (with_brick n u b) t n l y
    at-n y meets =
        let h = met-here z w v n s u ls t l y step meets in
        let same : u ≡ y = brick-same u y (sym step.is ∙ meets.member) in
        subst (λ y. Conversation v (with_brick n u b) t n l y) same (each t l h (talk t n l s h.before))

-- what is decided by now was decided before, or is sure of each member
abbrev pub OrSure : Net → Books → Books → Type 0
OrSure v b b' =
    (t : Txn) → b'.decided t ≡ true → (b.decided t ≡ true) ⊎ ((m : ℕ) (l : LibraryState) (x : BrickState) → Decided v b' t m l x → IsSure v b' t m l x)

pub brick-decides : (z : Sizes) (w v : Net) (n : ℕ) (s u : BrickState) (ls : List (NodeNo × Letter)) (b : Books)
    → Turned z w v n (a_brick s) (a_brick u) ls → (u.stopped ≡ false → s.stopped ≡ false) → AllDecide w b → OrSure v b (with_brick n u b)
    → ((t : Txn) (l : LibraryState) → Here w t n l s → b.decided t ≡ true → IsSure w b t n l s → IsSure v (with_brick n u b) t n l u)
    → AllDecide v (with_brick n u b)
brick-decides z w v n s u ls b step lives decide new each t m l x d = elim (new t d.decided) [
  | inr h ↦ h m l x d
  | inl was ↦ elim (cases_eq m n) [
    | inl e ↦ subst (λ k. (y : BrickState) → Decided v (with_brick n u b) t k l y → IsSure v (with_brick n u b) t k l y) (sym e) (at-n was) x d
    | inr ne ↦
        let h = met-away z w v n s u ls t m l x step ne d.meets in
        away-sure z w v n s u ls b t m l x step (apart-from v t n l u d.meets.library step.is) ne
        (decide t m l x (record { meets = h.before; live = d.live; member = d.member; decided = was }))
  ]
]
  where
    at-n : b.decided t ≡ true → (y : BrickState) → Decided v (with_brick n u b) t n l y → IsSure v (with_brick n u b) t n l y
    at-n was y d =
        let h = met-here z w v n s u ls t l y step d.meets in
        let same : u ≡ y = brick-same u y (sym step.is ∙ d.meets.member) in
        let alive : s.stopped ≡ false = lives (ap (λ (q : BrickState). q.stopped) same ∙ d.live) in
        subst (λ y. IsSure v (with_brick n u b) t n l y) same
        (each t l h was (decide t n l s (record { meets = h.before; live = alive; member = d.member; decided = was })))

-- One letter of an attempt is heard, or none, and one is said

half-of : {ll : Bool} {v : View} {xs o p : List Ask} {a a' : At} {ys b c : List Say} → Half xs a a' ys → p ≡ xs ++ o → c ≡ b ++ ys → Talks ll true v p a b
    → Talks ll true v o a' c
half-of {ll = ll} {v = v} {o = o} {a = a} {a' = a'} {b = b} m e f h =
    subst (λ x. Talks ll true v o a' x) (sym f) (half-talks m (subst (λ x. Talks ll true v x a b) e h))

nil-front : (xs o : List Ask) → [] ≡ xs ++ o → ([] ≡ xs) × ([] ≡ o)
nil-front [] o e = (refl, e)
nil-front (x ∷ xs) o e = cc

half-known : {ll ml : Bool} {v : View} {xs : List Ask} (o : List Ask) {a a' : At} {ys : List Say} (c : List Say) → Half xs a a' ys → [] ≡ xs → [] ≡ o
    → Known v a → IsTalk ll ml true v o a' c
half-known {ll = ll} {ml = ml} {v = v} o c (still a) e f h = subst (λ o. IsTalk ll ml true v o a c) f (knowing h)
half-known o c (hears m) e f h = cc

half-is : {ll k : Bool} {v : View} {xs o p : List Ask} {a a' : At} {ys b c : List Say} → Half xs a a' ys → p ≡ xs ++ o → c ≡ b ++ ys
    → IsTalk ll true k v p a b → IsTalk ll true k v o a' c
half-is m e f (unknowing h) = unknowing (half-of m e f h)
half-is {xs = xs} {o = o} {c = c} m e f (knowing h) = half-known o c m (nil-front xs o e).0 (nil-front xs o e).1 h

-- what is first in a conversation fits
fits-talk : {v : View} (x : Ask) (o : List Ask) {a : At} {b : List Say} → Talk v (x ∷ o) a b → Fits (x ∷ []) a
fits-talk prepare o h = asked-new h
fits-talk commit o h = commit-prepared h
fits-talk abort o h = tt

fits-talks : {ll : Bool} {v : View} (x : Ask) (o : List Ask) {a : At} {b : List Say} → Talks ll true v (x ∷ o) a b → Fits (x ∷ []) a
fits-talks x o (live h) = fits-talk x o h
fits-talks x o (left cut h) = fits-talk x (o ++ cut) h

fits-is : {ll k : Bool} {v : View} (x : Ask) (o : List Ask) {p : List Ask} {a : At} {b : List Say} → p ≡ x ∷ o → IsTalk ll true k v p a b → Fits (x ∷ []) a
fits-is {ll = ll} {v = v} x o {a = a} {b = b} e (unknowing h) = fits-talks x o (subst (λ y. Talks ll true v y a b) e h)
fits-is x o e (knowing h) = cc

pub fits-one : {ll k : Bool} {v : View} (c : Bool) (x : Ask) (o : List Ask) {p : List Ask} {a : At} {b : List Say} → p ≡ one c x ++ o
    → IsTalk ll true k v p a b → Fits (one c x) a
fits-one true x o e h = fits-is x o e h
fits-one false x o e h = tt

-- what a turn of the brick owes, of an attempt of a library that isn't the brick
pub record Hearing (z : Sizes) (w v : Net) (n : ℕ) (s u : BrickState) (ls : List (NodeNo × Letter)) (b : Books) (t : Txn) : Type 0 where
  pub heard : List Ask
  pub into : asks t (w.channel t.library n) ≡ heard ++ asks t (v.channel t.library n)
  pub fits : Fits heard (at s.locks.pending (b.noted n t) t)
  pub row : Half heard (at s.locks.pending (b.noted n t) t) (at u.locks.pending (noting u.locks.outcomes (b.noted n) t) t) (says t (gains z ls t.library))

pub hearing-talks : (z : Sizes) (w v : Net) (n : ℕ) (s u : BrickState) (ls : List (NodeNo × Letter)) (b : Books) (t : Txn) (l : LibraryState)
    → Turned z w v n (a_brick s) (a_brick u) ls → s.stopped ≡ false → u.stopped ≡ false → u.known ≡ s.known → Here w t n l s → Hearing z w v n s u ls b t
    → Conversation w b t n l s → Conversation v (with_brick n u b) t n l u
hearing-talks z w v n s u ls b t l step alive stays knows here h was =
    let back : says t (v.channel n t.library) ≡ says t (w.channel n t.library) ++ says t (gains z ls t.library) =
    ap (says t) (step.from t.library here.apart) ∙ about-append said t (w.channel n t.library) (gains z ls t.library) in
    let noted : put n (noting u.locks.outcomes (b.noted n)) b.noted n t ≡ noting u.locks.outcomes (b.noted n) t =
    ap (λ (f : Txn → Option Bool). f t) (put-here n (noting u.locks.outcomes (b.noted n)) b.noted) in
    rw (stays, knows, noted) (half-is h.row h.into back (rw alive at was))

pub hearing-sure : (z : Sizes) (w v : Net) (n : ℕ) (s u : BrickState) (ls : List (NodeNo × Letter)) (b : Books) (t : Txn) (l : LibraryState)
    → Hearing z w v n s u ls b t → IsSure w b t n l s → IsSure v (with_brick n u b) t n l u
hearing-sure z w v n s u ls b t l h was =
    let noted : put n (noting u.locks.outcomes (b.noted n)) b.noted n t ≡ noting u.locks.outcomes (b.noted n) t =
    ap (λ (f : Txn → Option Bool). f t) (put-here n (noting u.locks.outcomes (b.noted n)) b.noted) in
    rw noted (sure-half (not l.stopped) (view l (b.list t) t n) (asks t (v.channel t.library n)) h.row h.fits
    (subst (λ xs. Sure (not l.stopped) (view l (b.list t) t n) xs (at s.locks.pending (b.noted n t) t)) h.into was))

-- The brick learns that the library has stopped, after which nothing more comes from it

learn-if : {ll k : Bool} {v : View} {o : List Ask} {a : At} {b : List Say} (k' : Bool) → (k' ≡ true → (k ≡ true) ⊎ ((ll ≡ false) × (o ≡ [])))
    → (k ≡ true → k' ≡ true) → IsTalk ll true k v o a b → IsTalk ll true k' v o a b
learn-if {v = v} {o = o} {a = a} {b = b} true f g (unknowing h) = elim (f refl) [
  | inl e ↦ cc
  | inr e ↦ subst (λ x. IsTalk x true true v o a b) (sym e.0) (learns e.1 (subst (λ x. Talks x true v o a b) e.0 h))
]
learn-if false f g (unknowing h) = unknowing h
learn-if true f g (knowing h) = knowing h
learn-if false f g (knowing h) = let q : false ≡ true = g refl in cc

pub learn-is : {ll k : Bool} {v : View} {o : List Ask} {a : At} {b : List Say} (k' : Bool) → (k' ≡ true → (k ≡ true) ⊎ ((ll ≡ false) × (o ≡ [])))
    → (k ≡ true → k' ≡ true) → IsTalk ll true k v o a b → IsTalk ll true k' v o a b
learn-is k' f g h = learn-if k' f g h
