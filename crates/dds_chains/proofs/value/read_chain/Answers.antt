use Rattle.std.proofs.Common.{◌≡◌, length-append, refl, ◌∙◌, arith, ap, get_or, length}
use Rattle.std.proofs.lemmas.Option.{slice_get-get_or}
use Rattle.dds_chains.proofs.Fetching.{next-piece, next-bytes, reading-more, reading-done, no-refusal}
use Rattle.dds_chains.proofs.Refusing.{piece-silent, piece-wrong}
use Rattle.dds_chains.proofs.value.read_chain.Goals as goal

pub returns-in-Err-clause-lawful : goal.returns-in-Err-clause-lawful
returns-in-Err-clause-lawful g c = λ a value is spread len.
    let r = c.pages.invariant.read a value is spread len in
    let n = next-piece r (get_or c.args.overflow.now c.pages.page-index 0) (omega arith) refl in
    no-refusal _ _ _ c.in-Err.fault n.0 (c.in-Err.ensures.told a (c.pages.invariant.same ∙ is))

pub returns-then-piece-min-clause-lawful : goal.returns-then-piece-min-clause-lawful
returns-then-piece-min-clause-lawful g c = λ a value is spread len.
    let r = c.pages.invariant.read a value is spread len in
    let n = next-bytes r _ c.in-Ok.over c.bytes-piece.result.now (omega arith) refl (c.in-Ok.ensures.told a (c.pages.invariant.same ∙ is))
    c.bytes-piece.ensures.value in
    let m : length c.bytes-piece.result.now ≡ c.min.result = n.1 ∙ omega (arith, len, c.len.ensures) in c.if-piece-min.true m

pub pages-preserved : goal.pages-preserved
pages-preserved g c = record {
  within = let e = ap length c.in_ok-append.ensures in let f = length-append c.pages.bytes.items c.bytes-piece.result.now
      in omega (arith, e, f, c.pages.invariant.within);
  sized = let e = ap length c.in_ok-append.ensures in let f = length-append c.pages.bytes.items c.bytes-piece.result.now
      in omega (arith, e, f, c.pages.invariant.sized);
  read = λ a value is spread len.
      let r = c.pages.invariant.read a value is spread len in
      reading-more r (get_or c.args.overflow.now c.pages.page-index 0) c.in-Ok.over c.bytes-piece.result.now _ (omega arith) refl
      (c.in-Ok.ensures.told a (c.pages.invariant.same ∙ is)) c.bytes-piece.ensures.value c.in_ok-append.ensures;
  same = c.in-Ok.ensures.same ∙ c.pages.invariant.same;
  free = c.in-Ok.ensures.free ∙ c.pages.invariant.free;
  fresh = c.in-Ok.ensures.fresh ∙ c.pages.invariant.fresh;
  steady = c.in-Ok.ensures.steady ∙ c.pages.invariant.steady;
}

pub returns-clause-told : goal.returns-clause-told
returns-clause-told g c = λ a value is spread len. reading-done (c.pages.invariant.read a value is spread len) (omega arith)

pub returns-in-Err-clause-refused : goal.returns-in-Err-clause-refused
returns-in-Err-clause-refused g c =
    piece-silent _ c.args.overflow.now c.args.len c.pages.page-index (get_or c.args.overflow.now c.pages.page-index 0) c.in-Err.fault
    (slice_get-get_or c.args.overflow.now c.pages.page-index 0 (omega arith)) c.in-Err.ensures.given

pub returns-then-piece-min-clause-refused : goal.returns-then-piece-min-clause-refused
returns-then-piece-min-clause-refused g c =
    piece-wrong _ c.args.overflow.now c.args.len c.pages.page-index (get_or c.args.overflow.now c.pages.page-index 0) c.in-Ok.over c.bytes-piece.result.now
    (length c.pages.bytes.items) c.min.result (slice_get-get_or c.args.overflow.now c.pages.page-index 0 (omega arith)) c.in-Ok.ensures.given
    c.bytes-piece.ensures.value c.pages.invariant.sized (omega (arith, c.len.ensures)) c.if-piece-min.true
