use Rattle.std.proofs.Common.{subst}
use Rattle.dds_books.specs.Placed.{ArePlaced, BrickOk, LetterOk, Made, NodeOk}
use Rattle.dds_letters.specs.declared.letter.Letter.TheVariants as letter
use Rattle.dds_net.proofs.Letters.{first-all}
use Rattle.dds_net.specs.Net.{Net, Sizes}
use Rattle.dds_order_talk.proofs.Fitting.{ListOnce}

-- Leaves of a world of a run list each member once, by the law of nodes' places.

pub lists-once : (z : Sizes) (n : Net) → ArePlaced z n → ListOnce z n
lists-once z n g =
    record {
      own = λ k s at leaf here there.
          let ok : BrickOk (Made n) z k s = subst (NodeOk (Made n) z k) here (g.nodes k) in
          (ok.its_leaves at leaf there).apart;
      given = λ at from number leaf f.
          let ok : LetterOk (Made n) z from at (letter.Granted number leaf) =
          first-all (LetterOk (Made n) z from at) z n at from (letter.Granted number leaf) f (g.letters from at) in
          ok.1.apart;
    }
