-- A script that the source tells is run to its end, where there are no faults and memory isn't missing.
use Rattle.std.proofs.Common.{◌≡◌, ℕ, ◌<◌, ◌≤◌, ◌⊎◌, inl, inr, List, ◌++◌, Option, Some, None, refl, sym, ap, ◌∙◌, subst, length, arith}
use Rattle.std.specs.Prelude.{String, if◌then◌else◌, nat_eq}
use Rattle.std.proofs.lemmas.List.{append-nil, length-append}
use Rattle.std.proofs.lemmas.List.Sums.{sum_by-append}
use Rattle.dds_base.specs.Outside.{IsEnded, Took, TookPast, line_ends}
use Rattle.dds_cli.specs.Ended.{IsEndOf, IsRunWhole}
use Rattle.dds_cluster.specs.declared.step.Step.{Step}
use Rattle.dds_ends.specs.End.{Outside}
use Rattle.dds_ends.specs.declared.command.TheConstants.{BYTES, LINES}
use Rattle.dds_ends.specs.declared.end.End.{End}
use Rattle.dds_ends.specs.declared.end.End.TheVariants.{Finished, Usage, TooLong, ReadFault, Script as ScriptEnd, WriteFault, Memory}
use Rattle.dds_script.proofs.OneScript.{not-both}
use Rattle.dds_script.specs.Grammar.{Accepts}
use Rattle.dds_script.specs.declared.script_error.ScriptError.TheVariants.{Fault}

-- what was taken of what the source told
taken-whole : (all bytes : List ℕ) (left now : Option (List ℕ)) → left ≡ Some all → Took left bytes now → IsEnded now → all ≡ bytes
taken-whole all bytes None now e t d = absurd (cc)
taken-whole all bytes (Some told) None e t d = absurd t
taken-whole all bytes (Some told) (Some rest) e t d =
    let same : told ≡ all = cc in
    sym same ∙ t ∙ ap (λ (l : List ℕ). bytes ++ l) d ∙ append-nil bytes

taken-length : (all bytes : List ℕ) (left now : Option (List ℕ)) → left ≡ Some all → Took left bytes now
    → (length bytes ≤ length all) × (line_ends bytes ≤ line_ends all)
taken-length all bytes None now e t = absurd (cc)
taken-length all bytes (Some told) None e t = absurd t
taken-length all bytes (Some told) (Some rest) e t =
    let same : told ≡ all = cc in
    let is : all ≡ bytes ++ rest = sym same ∙ t in
    let a = ap (λ (l : List ℕ). length l) is in
    let b = length-append bytes rest in
    let c = ap line_ends is in
    let d = sum_by-append (λ (byte : ℕ). if nat_eq byte 10 then 1 else 0) bytes rest in
    (omega (arith, a, b), omega (arith, c, d))

not-past : (all : List ℕ) (left now : Option (List ℕ)) → left ≡ Some all → length all ≤ BYTES → line_ends all ≤ LINES → TookPast left BYTES LINES now → ⊥
not-past all left now e short few t = by_kind t.past
  where
    by_kind : (BYTES < length t.bytes) ⊎ (LINES < line_ends t.bytes) → ⊥
    by_kind (inl h) = let l = taken-length all t.bytes left now e t.taken in let a = l.0 in absurd (omega (arith, h, a, short))
    by_kind (inr h) = let l = taken-length all t.bytes left now e t.taken in let a = l.1 in absurd (omega (arith, h, a, few))

pub run-whole : {A : Type 0} (words : List (String A)) (before after : Outside) (journal : List Step) (end : End) → IsEndOf words before after journal end
    → IsRunWhole words before after end
run-whole words before after journal Finished h given = inl refl
run-whole words before after journal Memory h given = inr refl
run-whole words before after journal Usage h given = absurd (h.0 given.command)
run-whole words before after journal (ScriptEnd fault) h given =
    let same = taken-whole given.bytes h.1.0 before.left after.left given.told h.1.1.read.taken h.1.1.read.ended in
    absurd (not-both h.1.0 (Fault fault) h.1.2 given.script (subst (λ (l : List ℕ). Accepts l given.script) same given.accepted))
run-whole words before after journal ReadFault h given = absurd (given.read h.1)
run-whole words before after journal WriteFault h given = absurd (given.wrote h.1)
run-whole words before after journal TooLong h given = absurd (not-past given.bytes before.left after.left given.told given.short given.few h.1)
