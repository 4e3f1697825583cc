use Rattle.dds_script.proofs.Parting.{many-words, cut-some}
use Rattle.dds_script.proofs.cuts.cut_spaces.Goals as goal

pub returns-in-Some-rest-4 : goal.returns-in-Some-rest-4
returns-in-Some-rest-4 c =
    many-words _ _ _ _ _ _ _ _ _ _ _ (rw c.in-Some.is at c.cut_first.ensures) (rw c.in-Some-rest.is at c.cut_first-2.ensures)
    (rw c.in-Some-rest-2.is at c.cut_first-3.ensures) (rw c.in-Some-rest-3.is at c.cut_first-4.ensures) (rw c.in-Some-rest-4.is at c.cut_first-5.ensures)
    (cut-some 32 c.in-Some-rest-4.field-0.now)
