-- The order of entries: it is total, and entries of which neither precedes the other are the same.
use Rattle.std.proofs.Common.{◌≡◌, ℕ, ◌≤◌, Bool, true, false, suc, ap, ◌∙◌, sym, arith}
use Rattle.std.specs.Prelude.{◌==◌, ◌&&◌, ◌||◌, nat_lt}
use Rattle.std.proofs.lemmas.Bool.Decides.{nat_tests}
use Rattle.dds_agenda.specs.Agenda.{precedes, slot_precedes}
use Rattle.dds_agenda.specs.declared.entry.Entry.{Entry}
use Rattle.dds_agenda.specs.declared.entry.Slot.{Slot}
use Rattle.dds_agenda.specs.declared.entry.Slot.TheVariants.{Outbox, Link}

-- numbers that compare in turn as the slots do
abbrev row : Slot → ℕ
row (Outbox at) = 0
row (Link source place) = suc source

abbrev column : Slot → ℕ
column (Outbox at) = at
column (Link source place) = place

abbrev slot_lesser : Slot → Slot → Bool
slot_lesser s t = nat_lt (row s) (row t) || (row s == row t && nat_lt (column s) (column t))

abbrev lesser : Entry → Entry → Bool
lesser a b = nat_lt a.number b.number || (a.number == b.number && slot_lesser a.slot b.slot)

slot-numbers : (a b : Slot) → slot_precedes a b ≡ slot_lesser a b
slot-numbers (Outbox at) (Outbox place) = grind (arith, nat_tests)
slot-numbers (Outbox at) (Link source place) = grind (arith, nat_tests)
slot-numbers (Link source place) (Outbox at) = grind (arith, nat_tests)
slot-numbers (Link f t) (Link source place) = grind (arith, nat_tests)

by-numbers : (a b : Entry) → lesser a b ≡ precedes a b
by-numbers a b = sym (ap (λ s. nat_lt a.number b.number || (a.number == b.number && s)) (slot-numbers a.slot b.slot))

-- what doesn't stand behind an entry that precedes a third precedes this one
pub precedes-over : (e x k : Entry) → precedes x e ≡ false → precedes x k ≡ true → precedes e k ≡ true
precedes-over e x k a b =
    let p : lesser x e ≡ false = by-numbers x e ∙ a in
    let q : lesser x k ≡ true = by-numbers x k ∙ b in
    let r : lesser e k ≡ true = grind (arith, nat_tests, p, q) in
    sym (by-numbers e k) ∙ r

pub precedes-end : (k x y : Entry) → precedes k x ≡ true → precedes y x ≡ false → precedes k y ≡ true
precedes-end k x y a b =
    let p : lesser k x ≡ true = by-numbers k x ∙ a in
    let q : lesser y x ≡ false = by-numbers y x ∙ b in
    let r : lesser k y ≡ true = grind (arith, nat_tests, p, q) in
    sym (by-numbers k y) ∙ r

pub behind-both : (x y z : Entry) → precedes y x ≡ false → precedes z y ≡ false → precedes z x ≡ false
behind-both x y z a b =
    let p : lesser y x ≡ false = by-numbers y x ∙ a in
    let q : lesser z y ≡ false = by-numbers z y ∙ b in
    let r : lesser z x ≡ false = grind (arith, nat_tests, p, q) in
    sym (by-numbers z x) ∙ r

pub precedes-one-way : (x y : Entry) → precedes x y ≡ true → precedes y x ≡ false
precedes-one-way x y a =
    let p : lesser x y ≡ true = by-numbers x y ∙ a in
    let r : lesser y x ≡ false = grind (arith, nat_tests, p) in
    sym (by-numbers y x) ∙ r

pub precedes-itself : (x : Entry) → precedes x x ≡ false
precedes-itself x =
    let r : lesser x x ≡ false = grind (arith, nat_tests) in
    sym (by-numbers x x) ∙ r

pub slot-precedes-itself : (s : Slot) → slot_precedes s s ≡ false
slot-precedes-itself s =
    let r : slot_lesser s s ≡ false = grind (arith, nat_tests) in
    slot-numbers s s ∙ r

-- the order of numbers
pub numbers-rise : (x y : Entry) → precedes y x ≡ false → x.number ≤ y.number
numbers-rise x y a =
    let p : lesser y x ≡ false = by-numbers y x ∙ a in
    grind (arith, nat_tests, p)

-- entries of which neither precedes the other
slot-same : (a b : Slot) → row a ≡ row b → column a ≡ column b → a ≡ b
slot-same (Outbox at) (Outbox place) r c = ap Outbox c
slot-same (Outbox at) (Link source place) r c = absurd (omega (arith, r))
slot-same (Link source place) (Outbox at) r c = absurd (omega (arith, r))
slot-same (Link f t) (Link source place) r c = cc

entry-same : (a b : Entry) → a.number ≡ b.number → a.slot ≡ b.slot → a ≡ b
entry-same a b n s = λ i. record { number = n i; slot = s i }

pub neither-precedes : (x y : Entry) → precedes x y ≡ false → precedes y x ≡ false → x ≡ y
neither-precedes x y a b =
    let p : lesser x y ≡ false = by-numbers x y ∙ a in
    let q : lesser y x ≡ false = by-numbers y x ∙ b in
    let n : x.number ≡ y.number = grind (arith, nat_tests, p, q) in
    let r : row x.slot ≡ row y.slot = grind (arith, nat_tests, p, q) in
    let c : column x.slot ≡ column y.slot = grind (arith, nat_tests, p, q) in
    entry-same x y n (slot-same x.slot y.slot r c)

-- where the numbers are equal, the slots decide
pub same-numbers : (x y : Entry) → x.number ≡ y.number → slot_precedes x.slot y.slot ≡ false → precedes x y ≡ false
same-numbers x y e h = grind (arith, nat_tests, e, h)
