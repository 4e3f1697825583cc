use Rattle.std.proofs.Common.{◌≡◌, ◌||◌, ◌∷◌, ◌++◌, Bool, true, false, not, List, [], refl, sym, ap, ◌∙◌, subst}
use Rattle.std.specs.FinMap.{empty}
use Rattle.std.specs.Prelude.{filter, if◌then◌else◌}
use Rattle.dds_base.specs.Op.{is_get}
use Rattle.dds_base.specs.declared.op.Op.{Op}
use Rattle.dds_base.specs.declared.op.Op.TheVariants.{Get, Put, Remove, Swap}
use Rattle.dds_cluster.specs.Lists.{is_answer}
use Rattle.dds_cluster.specs.declared.trace.Made.{Made}
use Rattle.dds_cluster.specs.declared.trace.Told.{Told}
use Rattle.dds_cluster.specs.declared.trace.Trace.{Trace}
use Rattle.dds_history.proofs.Histories.{legal_from-push, replay_from-append}
use Rattle.dds_history.specs.History.{IsLegal, IsLegalFrom, replay_from}
use Rattle.dds_history.specs.Map.{Map, after, reply_to}
use Rattle.dds_values.specs.Law.{LegalWithoutReads}
use Rattle.dds_values.specs.Values.{table}
use Rattle.dds_world.specs.Stands.{stands_in}
use Rattle.dds_world.specs.Values.{entries_of_points}

-- Legal histories: one point more, and without reads.

-- a read leaves the table
pub after-get : (m : Map) (o : Op) → is_get o ≡ true → after m o ≡ m
after-get m (Get key) e = refl
after-get m (Put key value) e = cc
after-get m (Remove key) e = cc
after-get m (Swap key expected value) e = cc

-- a test that only reads fail
abbrev pub FailsReads : (Made → Bool) → Type 0
FailsReads P = (m : Made) → P m ≡ false → is_get m.entry.op ≡ true

pub legal-without : (P : Made → Bool) → FailsReads P → (m : Map) (made : List Made) → IsLegalFrom m (entries_of_points made)
    → IsLegalFrom m (entries_of_points (filter P made))
legal-without P f m [] h = tt
legal-without P f m (x ∷ made) h = pick (P x) refl (legal-without P f (after m x.entry.op) made h.1)
  where
    pick : (c : Bool) → P x ≡ c → IsLegalFrom (after m x.entry.op) (entries_of_points (filter P made))
        → IsLegalFrom m (entries_of_points (if c then x ∷ filter P made else filter P made))
    pick true e g = (h.0, g)
    pick false e g = subst (λ t. IsLegalFrom t (entries_of_points (filter P made))) (after-get m x.entry.op (f x e)) g

pub replay-without : (P : Made → Bool) → FailsReads P → (m : Map) (made : List Made)
    → replay_from m (entries_of_points (filter P made)) ≡ replay_from m (entries_of_points made)
replay-without P f m [] = refl
replay-without P f m (x ∷ made) = pick (P x) refl (replay-without P f (after m x.entry.op) made)
  where
    pick : (c : Bool) → P x ≡ c
        → replay_from (after m x.entry.op) (entries_of_points (filter P made)) ≡ replay_from (after m x.entry.op) (entries_of_points made)
        → replay_from m (entries_of_points (if c then x ∷ filter P made else filter P made)) ≡ replay_from (after m x.entry.op) (entries_of_points made)
    pick true e g = g
    pick false e g = sym (ap (λ t. replay_from t (entries_of_points (filter P made))) (after-get m x.entry.op (f x e))) ∙ g

stands-or-reads : (told : List Told) → FailsReads (stands_in told)
stands-or-reads told m e = pick (is_get m.entry.op) (is_answer told m.txn) e
  where
    pick : (c d : Bool) → (not c || d) ≡ false → c ≡ true
    pick true d e = refl
    pick false d e = cc

pub legal-history : LegalWithoutReads
legal-history t h = legal-without (stands_in t.told) (stands-or-reads t.told) empty t.made h

-- the history leaves what all points leave
pub history-leaves : (t : Trace) → replay_from empty (entries_of_points (filter (stands_in t.told) t.made)) ≡ table t.made
history-leaves t = replay-without (stands_in t.told) (stands-or-reads t.told) empty t.made

-- points one after another
pub entries-append : (made more : List Made) → entries_of_points (made ++ more) ≡ entries_of_points made ++ entries_of_points more
entries-append [] more = refl
entries-append (x ∷ made) more = ap (λ es. x.entry ∷ es) (entries-append made more)

pub table-more : (made : List Made) (m : Made) → table (made ++ m ∷ []) ≡ after (table made) m.entry.op
table-more made m = ap (replay_from empty) (entries-append made (m ∷ [])) ∙ replay_from-append empty (entries_of_points made) (m.entry ∷ [])

-- one point more, whose reply is the table's
pub legal-point : (made : List Made) (m : Made) → IsLegal (entries_of_points made) → m.entry.reply ≡ reply_to (table made) m.entry.op
    → IsLegal (entries_of_points (made ++ m ∷ []))
legal-point made m h e =
    subst IsLegal (sym (entries-append made (m ∷ []))) (legal_from-push empty (entries_of_points made) m.entry h e)
