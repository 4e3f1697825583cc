use Rattle.std.proofs.Common.{◌≡◌, ℕ, ◌<◌, ◌&&◌, ◌||◌, ◌⊎◌, ◌++◌, Bool, true, false, inl, inr, Option, Some, None, List, [], ◌∷◌, refl, sym, ap, ◌∙◌, subst}
use Rattle.std.proofs.lemmas.Bool.{both_ways, eq-eqb, ne_eqb}
use Rattle.std.proofs.lemmas.List.{append-nil}
use Rattle.std.specs.List.{AllByRecursion}
use Rattle.std.specs.Prelude.{if◌then◌else◌}
use Rattle.dds_base.specs.Name.{Name, same_name}
use Rattle.dds_base.specs.declared.number.NodeNo.{NodeNo}
use Rattle.dds_core.proofs.Lists.{all-append, all-map}
use Rattle.dds_letters.specs.declared.letter.Letter.{Letter}
use Rattle.dds_letters.specs.declared.letter.Letter.TheVariants as letter
use Rattle.dds_locks.specs.Leases.{is_given}
use Rattle.dds_net.specs.Net.{Sizes, gains, is_in, landing, lands, when_in}
use Rattle.dds_orders.proofs.Deeds as deed
use Rattle.dds_orders.proofs.Deeds.{Seat, seat}
use Rattle.dds_orders.proofs.Leased.{LeafStays, deed-given, heard-stays}
use Rattle.dds_orders.proofs.Leases.{given-dropped, given-more, given-other, other-holder}
use Rattle.dds_orders.proofs.Standing.{Stood, heard-stood, path-stood}
use Rattle.dds_orders.proofs.Turns.{Hears, Turns, copies_not, denies, gives, grants, grants_not, hears_other, installed_not, installs, installs_not}
use Rattle.dds_orders.proofs.Turns.{is_installed, is_refused, learns, refused_not, releases, sends_none, sends_part}
use Rattle.dds_orders.proofs.Turns.{copies as copies_part}
use Rattle.dds_orders.specs.Law.{asked_of, said_of}
use Rattle.dds_states.specs.Turn.{BrickTurn}
use Rattle.dds_states.specs.declared.brick_state.OpenOrder.{OpenOrder}
use Rattle.dds_order_talk.proofs.HearsOthers.{Answered, answers, kept-heard, own}
use Rattle.dds_order_talk.proofs.Kept.{kept-path}
use Rattle.dds_order_talk.proofs.Letters.{lands-low}
use Rattle.dds_order_talk.proofs.MemberHears.{IsRight, member-letter, sent}
use Rattle.dds_order_talk.proofs.MemberSide.{With, member-beside, member-path, new-while, own-while}
use Rattle.dds_order_talk.proofs.Members.{Asks, Sent, Within}
use Rattle.dds_order_talk.proofs.Projections.{says-append}
use Rattle.dds_order_talk.proofs.Sendings.{lands-same}
use Rattle.dds_order_talk.specs.Seen.{New, Own, ask_of, say_of, says}
use Rattle.dds_order_talk.specs.Table.{Ask, Say, Talks, View}

-- A member's whole turn, at a letter of the order's brick or of another node, and its own orders.

-- a letter of another node changes no lease of the brick
or-none : (a : Bool) → (a || false) ≡ a
or-none true = refl
or-none false = refl

heard-given : (from : ℕ) (l : Letter) (x y : Seat) (ls : List (NodeNo × Letter)) (n : Name) (j : ℕ) → Hears from x l ls y → (from ≡ j → ⊥)
    → (j ≡ x.own.number → ⊥) → is_given y.own.leases n j ≡ is_given x.own.leases n j
heard-given from l x y ls n j (gives number what leaf there free stamp unknown) ne me =
    given-more x.own.leases (record { name = deed.wanted_name what; holder = from }) n j
    ∙ ap (λ c. is_given x.own.leases n j || (c && same_name (deed.wanted_name what) n)) (ne_eqb from j ne) ∙ or-none (is_given x.own.leases n j)
heard-given from l x _ ls n j (denies number what why) ne me = refl
heard-given from l x y ls n j (releases number name) ne me = given-other x.own.leases n name j from (other-holder n name j from ne)
heard-given from l x _ ls n j (sends_part number name place last pairs given there) ne me = refl
heard-given from l x _ ls n j (sends_none number name place e) ne me = refl
heard-given from l x y ls n j (installs number leaf mine may) ne me = refl
heard-given from l x _ ls n j (installs_not number leaf may) ne me = refl
heard-given from l x y ls n j (grants number leaf o finds) ne me = refl
heard-given from l x _ ls n j (grants_not number leaf e) ne me = refl
heard-given from l x y ls n j (is_refused number why o finds) ne me = deed-given from x y ls n j (deed.closes o finds.there) me
heard-given from l x _ ls n j (refused_not number why e) ne me = refl
heard-given from l x y ls n j (copies_part number last pairs o finds) ne me = refl
heard-given from l x _ ls n j (copies_not number last pairs e) ne me = refl
heard-given from l x y ls n j (is_installed number name o finds) ne me = refl
heard-given from l x _ ls n j (installed_not number name e) ne me = refl
heard-given from l x y ls n j (learns below other) ne me = given-dropped x.own.leases n j from (λ e. ne (sym e))
heard-given from l x _ ls n j (hears_other _ e) ne me = refl

heard-leaves : (me from : ℕ) (l : Letter) (x y : Seat) (ls : List (NodeNo × Letter)) (n : Name) (j : ℕ) → Hears from x l ls y → Stood me x
    → (j ≡ me → ⊥) → (from ≡ j → ⊥) → is_given x.own.leases n j ≡ true → LeafStays n x.own.leaves y.own.leaves
heard-leaves me from l x y ls n j d h me_ne ne g = elim (heard-stays me from l x y ls n j d h me_ne g) [
  | inl stays ↦ stays
  | inr i ↦ absurd (ne i.same)
]

member-third : {lives : Bool} {v : View} {o : List Ask} {b : List Say} (me j from : ℕ) (n : Name) (l : Letter) (x y : Seat) (ls : List (NodeNo × Letter))
    → Hears from x l ls y → Stood me x → (j ≡ me → ⊥) → (from ≡ j → ⊥) → With j n x lives v o b → With j n y lives v o b
member-third {lives = lives} {v = v} {o = o} {b = b} me j from n l x y ls d h other ne k =
    let given = is_given x.own.leases n j in
    let stays = (λ (e : given ≡ true). heard-leaves me from l x y ls n j d h other ne e) in
    subst (λ g. Talks n (Own y.own.leaves n) (New y.own.leaves n) lives true v o g b)
    (sym (heard-given from l x y ls n j d ne (λ e. other (e ∙ h.both.0.number))))
    (member-beside (own-while n x.own.leaves y.own.leaves given stays) (new-while n x.own.leaves y.own.leaves given stays) k)

-- what the member sends of itself says nothing of another one's order
unsaid : (q : Option OpenOrder) (n : Name) (l : Letter) → said_of l ≡ None → say_of q n l ≡ []
unsaid q n (letter.Granted number leaf) e = cc
unsaid q n (letter.LeaseRefused number why) e = cc
unsaid q n (letter.CopyPart number last pairs) e = cc
unsaid q n (letter.Installed number name) e = cc
unsaid q n other e = refl

-- it says something to the brick alone that the letter is of
abbrev pub IsTo : ℕ → NodeNo × Letter → Type 0
IsTo j p = (said_of p.1 ≡ None) ⊎ (p.0 ≡ j)

abbrev pub IsSilent : ℕ → NodeNo × Letter → Type 0
IsSilent j p = (said_of p.1 ≡ None) ⊎ (p.0 ≡ j → ⊥)

silent-if : (q : Option OpenOrder) (n : Name) (c : Bool) (l : Letter) (ls : List Letter) → (c ≡ true → say_of q n l ≡ []) → says q n ls ≡ []
    → says q n (if c then l ∷ ls else ls) ≡ []
silent-if q n true l ls f e = ap (λ s. s ++ says q n ls) (f refl) ∙ e
silent-if q n false l ls f e = e

silent-says : (z : Sizes) (j : ℕ) (q : Option OpenOrder) (n : Name) (p : NodeNo × Letter) → j < 64 → is_in z j ≡ true → IsSilent j p
    → lands z p.0 j ≡ true → say_of q n p.1 ≡ []
silent-says z j q n p low inside (inl e) c = unsaid q n p.1 e
silent-says z j q n p low inside (inr ne) c = absurd (ne (lands-low z p.0 j low inside c))

silent-lands : (z : Sizes) (j : ℕ) (q : Option OpenOrder) (n : Name) (ls : List (NodeNo × Letter)) → j < 64 → is_in z j ≡ true
    → AllByRecursion (IsSilent j) ls → says q n (landing z j ls) ≡ []
silent-lands z j q n [] low inside h = refl
silent-lands z j q n (p ∷ ls) low inside h =
    silent-if q n (lands z p.0 j) p.1 (landing z j ls) (λ c. silent-says z j q n p low inside h.0 c) (silent-lands z j q n ls low inside h.1)

pub silent-gains : (z : Sizes) (j : ℕ) (q : Option OpenOrder) (n : Name) (ls : List (NodeNo × Letter)) → j < 64 → is_in z j ≡ true
    → AllByRecursion (IsSilent j) ls → says q n (gains z ls j) ≡ []
silent-gains z j q n ls low inside h = ap (λ c. says q n (when_in c (landing z j ls))) inside ∙ silent-lands z j q n ls low inside h

to-if : (q : Option OpenOrder) (n : Name) (c : Bool) (l : Letter) (ls ms : List Letter) → (c ≡ false → say_of q n l ≡ []) → says q n ls ≡ says q n ms
    → says q n (if c then l ∷ ls else ls) ≡ says q n (l ∷ ms)
to-if q n true l ls ms f e = ap (λ s. say_of q n l ++ s) e
to-if q n false l ls ms f e = e ∙ sym (ap (λ s. s ++ says q n ms) (f refl))

to-says : (z : Sizes) (j : ℕ) (q : Option OpenOrder) (n : Name) (p : NodeNo × Letter) → j < 64 → is_in z j ≡ true → IsTo j p
    → lands z p.0 j ≡ false → say_of q n p.1 ≡ []
to-says z j q n p low inside (inl e) c = unsaid q n p.1 e
to-says z j q n p low inside (inr e) c =
    absurd (both_ways (lands z p.0 j) c (lands-same z p.0 j low inside ∙ eq-eqb p.0 j e))

to-lands : (z : Sizes) (j : ℕ) (q : Option OpenOrder) (n : Name) (ls : List (NodeNo × Letter)) → j < 64 → is_in z j ≡ true
    → AllByRecursion (IsTo j) ls → says q n (landing z j ls) ≡ says q n (sent ls)
to-lands z j q n [] low inside h = refl
to-lands z j q n (p ∷ ls) low inside h =
    to-if q n (lands z p.0 j) p.1 (landing z j ls) (sent ls) (λ c. to-says z j q n p low inside h.0 c) (to-lands z j q n ls low inside h.1)

to-gains : (z : Sizes) (j : ℕ) (q : Option OpenOrder) (n : Name) (ls : List (NodeNo × Letter)) → j < 64 → is_in z j ≡ true
    → AllByRecursion (IsTo j) ls → says q n (gains z ls j) ≡ says q n (sent ls)
to-gains z j q n ls low inside h = ap (λ c. says q n (when_in c (landing z j ls))) inside ∙ to-lands z j q n ls low inside h

-- what it sends as it hears a letter
answer-to : (j : ℕ) (l : Letter) (y : Seat) (p : NodeNo × Letter) → Answered j l y p → IsTo j p
answer-to j l y p (own s) = inl s.said
answer-to j l y p (answers to none asks) = inr to

answer-silent : (from j : ℕ) (l : Letter) (y : Seat) (p : NodeNo × Letter) → (from ≡ j → ⊥) → Answered from l y p → IsSilent j p
answer-silent from j l y p ne (own s) = inl s.said
answer-silent from j l y p ne (answers to none asks) = inr (λ e. ne (sym to ∙ e))

pub sent-silent : (j : ℕ) (y : Seat) (ls : List (NodeNo × Letter)) → AllByRecursion (Sent y) ls → AllByRecursion (IsSilent j) ls
sent-silent j y ls h = all-map (Sent y) (IsSilent j) ls (λ p s. inl s.said) h

sent-append : (ls ms : List (NodeNo × Letter)) → sent (ls ++ ms) ≡ sent ls ++ sent ms
sent-append [] ms = refl
sent-append (l ∷ ls) ms = ap (λ xs. l.1 ∷ xs) (sent-append ls ms)

own-silent : (q : Option OpenOrder) (n : Name) (y : Seat) (ls : List (NodeNo × Letter)) → AllByRecursion (Sent y) ls → says q n (sent ls) ≡ []
own-silent q n y [] h = refl
own-silent q n y (l ∷ ls) h = ap (λ s. s ++ says q n (sent ls)) (unsaid q n l.1 (h.0).said) ∙ own-silent q n y ls h.1

-- the brick whose order it is, in the cluster
pub record Owner (z : Sizes) (j me : ℕ) : Type 0 where
  pub low : j < 64
  pub inside : is_in z j ≡ true
  pub other : j ≡ me → ⊥

-- what is wanted of a letter that the member hears
pub record MayHear (me from : ℕ) (l : Letter) (x : Seat) : Type 0 where
  pub asked_other : (number : ℕ) → asked_of l ≡ Some number → from ≡ me → ⊥
  pub within : (number : ℕ) → said_of l ≡ Some number → Within x number from

-- a turn at a letter of another node
pub member-turn : {lives : Bool} {v : View} {o : List Ask} {b : List Say} (z : Sizes) (me j from : ℕ) (n : Name) (q : Option OpenOrder) (l : Letter)
    (x : Seat) (t : BrickTurn) (u : Turns from x l t) → Owner z j me → Stood me x → Asks me x → MayHear me from l u.first → (from ≡ j → ⊥)
    → With j n x lives v o b → With j n (seat t.state) lives v o (b ++ says q n (gains z t.out.letters j))
member-turn {lives = lives} {v = v} {o = o} {b = b} z me j from n q l x t u w stood asks may ne k =
    let a = path-stood me x u.first [] u.takes stood in
    let c = heard-stood me from l u.first u.next u.answers u.hears may.asked_other a in
    let first = kept-path me x u.first [] u.takes asks in
    let heard = kept-heard me from l u.first u.next u.answers u.hears may.within first.next in
    let rest = kept-path me u.next (seat t.state) u.letters u.goes heard.next in
    let silent = subst (AllByRecursion (IsSilent j)) (sym u.all) (all-append (IsSilent j) u.answers u.letters
    (all-map _ (IsSilent j) u.answers (λ p s. answer-silent from j l u.next p ne s) heard.sent) (sent-silent j (seat t.state) u.letters rest.sent)) in
    let none = silent-gains z j q n t.out.letters w.low w.inside silent in
    subst (λ s. With j n (seat t.state) lives v o s) (sym (ap (λ s. b ++ s) none ∙ append-nil b))
    (member-path me j n u.next (seat t.state) u.letters u.goes c w.other
    (member-third me j from n l u.first u.next u.answers u.hears a w.other ne (member-path me j n x u.first [] u.takes stood w.other k)))

-- a turn at a letter of the brick
pub member-answers : {lives : Bool} {v : View} {o : List Ask} {b : List Say} (z : Sizes) (me j : ℕ) (n : Name) (q : Option OpenOrder) (l : Letter)
    (x : Seat) (t : BrickTurn) (u : Turns j x l t) → Owner z j me → Stood me x → Asks me x → MayHear me j l u.first
    → IsRight j n q lives l u.first u.next (says q n (sent u.answers)) → With j n x lives v (ask_of q n l ++ o) b
    → With j n (seat t.state) lives v o (b ++ says q n (gains z t.out.letters j))
member-answers {lives = lives} {v = v} {o = o} {b = b} z me j n q l x t u w stood asks may right k =
    let a = path-stood me x u.first [] u.takes stood in
    let c = heard-stood me j l u.first u.next u.answers u.hears may.asked_other a in
    let first = kept-path me x u.first [] u.takes asks in
    let heard = kept-heard me j l u.first u.next u.answers u.hears may.within first.next in
    let rest = kept-path me u.next (seat t.state) u.letters u.goes heard.next in
    let to = all-append (IsTo j) u.answers u.letters (all-map _ (IsTo j) u.answers (λ p s. answer-to j l u.next p s) heard.sent)
    (all-map (Sent (seat t.state)) (IsTo j) u.letters (λ p s. inl s.said) rest.sent) in
    let all : says q n (gains z t.out.letters j) ≡ says q n (sent u.answers) =
    ap (λ ls. says q n (gains z ls j)) u.all ∙ to-gains z j q n (u.answers ++ u.letters) w.low w.inside to
    ∙ ap (says q n) (sent-append u.answers u.letters) ∙ says-append q n (sent u.answers) (sent u.letters)
    ∙ ap (λ s. says q n (sent u.answers) ++ s) (own-silent q n (seat t.state) u.letters rest.sent) ∙ append-nil (says q n (sent u.answers)) in
    subst (λ s. With j n (seat t.state) lives v o (b ++ s)) (sym all)
    (member-path me j n u.next (seat t.state) u.letters u.goes c w.other
    (member-letter me j n q l u.first u.next u.answers u.hears a w.other right (member-path me j n x u.first [] u.takes stood w.other k)))
