use Rattle.std.proofs.Common.{ℕ, ◌++◌, ◌∙◌, ap, List}
use Rattle.dds_frames.specs.Spelling.{number_bytes}
use Rattle.dds_frames.specs.Tags.{tag_number}
use Rattle.dds_frames.proofs.Encoded.{unmeasured, long-enough, short-enough, encoded}
use Rattle.dds_frames.proofs.encode.encode.Goals as goal

pub set_length-requires-clause-long : goal.set_length-requires-clause-long
set_length-requires-clause-long c =
    long-enough c.fields.new.self c.args.letter.now
    (unmeasured c.number_4.new.self c.number_1.new.self c.number_1-2.new.self c.fields.new.self c.args.letter.now
    (c.in_ok-number_4.ensures ∙ ap (λ (t : List ℕ). t ++ number_bytes 4 0) c.in_ok-frame.ensures) c.in_ok-number_1.ensures
    (c.in_ok-number_1-2.ensures ∙ ap (λ (n : ℕ). c.number_1.new.self ++ number_bytes 1 n) (c.number.ensures.value ∙ ap tag_number c.tag_of.ensures))
    c.in_ok-fields.ensures.written c.in_ok-fields.ensures.range)

pub set_length-requires-clause-few : goal.set_length-requires-clause-few
set_length-requires-clause-few c =
    short-enough c.fields.new.self c.args.letter.now
    (unmeasured c.number_4.new.self c.number_1.new.self c.number_1-2.new.self c.fields.new.self c.args.letter.now
    (c.in_ok-number_4.ensures ∙ ap (λ (t : List ℕ). t ++ number_bytes 4 0) c.in_ok-frame.ensures) c.in_ok-number_1.ensures
    (c.in_ok-number_1-2.ensures ∙ ap (λ (n : ℕ). c.number_1.new.self ++ number_bytes 1 n) (c.number.ensures.value ∙ ap tag_number c.tag_of.ensures))
    c.in_ok-fields.ensures.written c.in_ok-fields.ensures.range)

pub returns : goal.returns
returns c =
    encoded c.fields.new.self c.set_length.new.self c.finish.result c.args.letter.now
    (unmeasured c.number_4.new.self c.number_1.new.self c.number_1-2.new.self c.fields.new.self c.args.letter.now
    (c.in_ok-number_4.ensures ∙ ap (λ (t : List ℕ). t ++ number_bytes 4 0) c.in_ok-frame.ensures) c.in_ok-number_1.ensures
    (c.in_ok-number_1-2.ensures ∙ ap (λ (n : ℕ). c.number_1.new.self ++ number_bytes 1 n) (c.number.ensures.value ∙ ap tag_number c.tag_of.ensures))
    c.in_ok-fields.ensures.written c.in_ok-fields.ensures.range)
    c.set_length.ensures c.finish.ensures
