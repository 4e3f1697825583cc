use Rattle.std.proofs.Common.{◌≡◌, ℕ, ◌==◌, inl, inr, Bool, true, false, not, Option, Some, refl, sym, ap, ◌∙◌, subst, arith}
use Rattle.std.proofs.lemmas.Bool.{and_parts, cases_Bool, eqb-false, eqb-true}
use Rattle.std.proofs.lemmas.Bool.Decides.{nat_tests}
use Rattle.std.specs.FinMap.{get}
use Rattle.dds_base.specs.BrickList.{has}
use Rattle.dds_base.specs.NodeSet.{has_node}
use Rattle.dds_base.specs.Number.{Txn}
use Rattle.dds_books.specs.Books.{Book}
use Rattle.dds_brick_rows.specs.Resolution.{is_ready}
use Rattle.dds_core.specs.Brick.{live_brick_turn}
use Rattle.dds_law_notice.proofs.Keeps.{AreLinked}
use Rattle.dds_law_notice.proofs.Views.{knows, view}
use Rattle.dds_letters.specs.declared.letter.Letter.{Letter}
use Rattle.dds_letters.specs.declared.letter.Letter.TheVariants as letter
use Rattle.dds_net.specs.Event.{History, brick_takes, moved}
use Rattle.dds_net.specs.Net.{Net, a_brick, a_library, Sizes, is_in}
use Rattle.dds_states.specs.Turn.{first_some}
use Rattle.dds_states.specs.declared.brick_state.BrickState.{BrickState}
use Rattle.dds_states.specs.declared.library_state.LibraryState.{LibraryState}
use Rattle.dds_resolve.proofs.Deciders.{Decides, MayDecide, known-is, knowing, who-decides}
use Rattle.dds_resolve.proofs.Here.{knows-more}
use Rattle.dds_resolve.proofs.Outcomes.{late-outcome, outcome-told}
use Rattle.dds_resolve.proofs.ResolverSteps.{Going}
use Rattle.dds_resolve.proofs.TeamTurns.{not-both}
use Rattle.dds_resolve.specs.Resolved.{Pair}
use Rattle.dds_resolve.specs.Resolving.{own_at}
use Rattle.dds_resolve.specs.Teams.{ground}
use Rattle.dds_talk.proofs.Changes.{put-here, put-other}
use Rattle.dds_talk.proofs.BrickTakes.{Resolves}
use Rattle.dds_talk.proofs.Grounds as grounds
use Rattle.dds_talk.proofs.TaleDone.{AllSettle, Settles}
use Rattle.dds_talk.specs.Books.{Books, with_brick}
use Rattle.dds_talk.specs.Parts.{Decided, IsSure, NoAbort, SureAt}
use Rattle.dds_talk.specs.Resolve.{Agreed}
use Rattle.dds_talk.specs.Seen.{asks, at_of, is_pending, noting}
use Rattle.dds_talk.specs.Seen as seen
use Rattle.dds_talk.specs.Table.{At}
use Rattle.dds_talk.specs.Table.At.{Unprepared, Prepared, Committed, Aborted}
use Rattle.dds_commit.proofs.Agreeing.{frozen-is}
use Rattle.dds_commit.proofs.Going.{may-go, sender-unknown, step}
use Rattle.dds_commit.proofs.Noted.{OutcomeDone, outcome-done}
use Rattle.dds_commit.proofs.Noted.OutcomeDone.{kept, told}
use Rattle.dds_commit.proofs.Senders.{brick-at}
use Rattle.dds_commit.proofs.Standing.{Case, base, brick-ok, letter-placed, letter-team, library-apart, notice, readies}

-- What ends at a brick was settled: an outcome that comes was decided, and a resolver decides for all live members.

some-is : {x y : Bool} → Some x ≡ Some y → x ≡ y
some-is e = cc

-- an outcome that comes
module _ {z : Sizes} {h : History} {n : Net} {a : Book} {b : Books} {at from : ℕ} {s : BrickState} (x : Txn) (o : Bool)
    (c : Case z h n a b at from (letter.Outcome x o) s) where
  pub outcome-is : (o ≡ b.decided x) × (is_ready s.known x (b.list x) from ≡ true)
  outcome-is =
      let y = brick-at z n from c.few c.low.2 (letter-placed c).0.sender in
      let k = letter-team c in
      elim (cases_Bool y.brick.stopped) [
        | inl stops ↦ late-outcome n b.list b.decided x from at y.brick s o c.fits.letter.others c.resolve.resolve (record {
          resolver = y.here;
          stops = stops;
          member = c.fits.here;
          lives = c.fits.live;
          apart = k.apart;
          in_list = ap (λ ns. has ns at) k.team.members.listed ∙ k.team.members.member;
          unknown = sender-unknown c;
        }) c.fits.letter.first
        | inr lives ↦ outcome-told n b.list b.decided x from at y.brick s o c.fits.letter.others c.resolve.resolve (record {
          resolver = y.here;
          lives = lives;
          member = c.fits.here;
          apart = k.apart;
          in_list = ap (λ ns. has ns at) k.team.members.listed ∙ k.team.members.member;
          unknown = sym (ap (λ v. knows (view v) at) y.here)
              ∙ grounds.live-unknown z n at from (base c) c.fits.letter.sender (ap (λ v. (view v).stopped) c.fits.here ∙ c.fits.live);
        }) c.fits.live c.fits.letter.first
      ]

  outcome-settles : (t : Txn) (k : Bool) (v : Net) → is_pending s.locks.pending t ≡ true
      → get (live_brick_turn s from (letter.Outcome x o)).state.locks.outcomes t ≡ Some k
      → OutcomeDone s (live_brick_turn s from (letter.Outcome x o)).state x o t
      → is_pending (live_brick_turn s from (letter.Outcome x o)).state.locks.pending t ≡ false
      → Settles v at (live_brick_turn s from (letter.Outcome x o)).state b t k
  outcome-settles t k v p e (kept pe oe) q = absurd (not-both (is_pending s.locks.pending t) p (sym pe ∙ q))
  outcome-settles t k v p e (told xt pe oe) q =
      let is = outcome-is in
      let same : k ≡ b.decided t = some-is (sym e ∙ oe) ∙ is.0 ∙ ap b.decided xt in
      record {
        knows = ap (λ w. has_node w t.library) (known-is s from (letter.Outcome x o)) ∙ ap (λ (y : Txn). has_node s.known y.library) (sym xt)
            ∙ (and_parts (has_node s.known x.library) _ is.1).0;
        aborts = λ f. sym same ∙ f;
        commits = λ f. inl (sym same ∙ f);
      }

  pub outcome-all : (v : Net) → AllSettle v at s (live_brick_turn s from (letter.Outcome x o)).state b
  outcome-all v t k p q e = outcome-settles t k v p e (outcome-done s x o t (c.parts.note at s c.fits.here).once) q

-- a decision
agreed-abort : (d : Bool) → Agreed d (at_of false (Some false)) → d ≡ false
agreed-abort true h = absurd h
agreed-abort false h = refl

agreed-commit : (d : Bool) → Agreed d (at_of false (Some true)) → d ≡ true
agreed-commit true h = refl
agreed-commit false h = absurd h

not-grown : (d e : Bool) → (d ≡ true → e ≡ true) → e ≡ false → d ≡ false
not-grown true e f g = absurd (not-both e (f refl) g)
not-grown false e f g = refl

sure-if : (x : At) → Agreed true x → SureAt x
sure-if Unprepared h = h
sure-if Prepared h = h
sure-if Committed h = h
sure-if Aborted h = h

not-yes : (c : Bool) → c ≡ true → not c ≡ true → ⊥
not-yes true e f = cc
not-yes false e f = cc

library-is : (x y : LibraryState) → a_library x ≡ a_library y → x ≡ y
library-is x y e = cc

brick-is : (x y : BrickState) → a_brick x ≡ a_brick y → x ≡ y
brick-is x y e = cc

swap-false : (i j : ℕ) → (i == j) ≡ false → (j == i) ≡ false
swap-false i j e = grind (arith, nat_tests, e)

module _ {z : Sizes} {h : History} {n : Net} {a : Book} {b : Books} {at from : ℕ} {l : Letter} {s : BrickState} (c : Case z h n a b at from l s)
    (may : MayDecide l) (links : AreLinked z (moved z n (brick_takes at from l s))) where
  abbrev u : BrickState
  u = (live_brick_turn s from l).state

  abbrev v : Net
  v = moved z n (brick_takes at from l s)

  -- nothing comes any more from the library to a member that knows that it stopped
  silent : (t : Txn) (m : ℕ) (y : LibraryState) (x : BrickState) → is_in z m ≡ true → v.node t.library ≡ a_library y → v.node m ≡ a_brick x
      → has_node x.known t.library ≡ true → NoAbort (asks t (v.channel t.library m))
  silent t m y x inside library member k =
      subst (λ ls. NoAbort (asks t ls)) (sym (grounds.library-over z v t.library m y x links inside library member k).1) tt

  -- a live member isn't known to the brick
  live-unknown : (m : ℕ) (x : BrickState) → v.node m ≡ a_brick x → x.stopped ≡ false → has_node u.known m ≡ false
  live-unknown m x member lives = elim (cases_Bool (has_node u.known m)) [
    | inl e ↦
        let o = grounds.known-over z v m at links c.fits.letter.receiver (ap (λ y. knows (view y) m) (step c).is ∙ e) in
        absurd (not-both x.stopped (sym (ap (λ y. (view y).stopped) member) ∙ o.0) lives)
    | inr e ↦ e
  ]

  -- the resolver itself, and another member
  own-sure : (t : Txn) → is_pending u.locks.pending t ≡ false → get u.locks.outcomes t ≡ Some true
      → SureAt (seen.at u.locks.pending ((with_brick at u b).noted at t) t)
  own-sure t q e =
      let noted : (with_brick at u b).noted at t ≡ Some true = ap (λ (f : Txn → Option Bool). f t) (put-here at (noting u.locks.outcomes (b.noted at)) b.noted)
      ∙ ap (λ o. first_some o (b.noted at t)) e in
      subst SureAt (sym (ap (λ p. at_of p ((with_brick at u b).noted at t)) q ∙ ap (at_of false) noted)) tt

  mate-sure : (t : Txn) (m : ℕ) (x : BrickState) → (m ≡ at → ⊥) → b.noted m t ≡ get x.locks.outcomes t → Agreed true (own_at x t)
      → SureAt (seen.at x.locks.pending ((with_brick at u b).noted m t) t)
  mate-sure t m x ne stands h =
      let noted : (with_brick at u b).noted m t ≡ get x.locks.outcomes t =
      ap (λ (f : Txn → Option Bool). f t) (put-other at (noting u.locks.outcomes (b.noted at)) b.noted m ne) ∙ stands in
      subst (λ o. SureAt (seen.at x.locks.pending o t)) (sym noted) (sure-if (own_at x t) h)

  -- each live member, where the resolver commits
  all-sure : (t : Txn) (d : Decides (ground z n b.list) (knowing s from l) at t) (g : Going n v b.list t at s (live_brick_turn s from l) (b.decided t))
      → g.decided ≡ true
      → ((m : ℕ) (y : BrickState) → Pair n b.list t at m s y → has_node u.known m ≡ false → y.stopped ≡ false → is_ready y.known t (b.list t) at ≡ true)
      → is_pending u.locks.pending t ≡ false → get u.locks.outcomes t ≡ Some true → has_node u.known t.library ≡ true
      → (m : ℕ) (y : LibraryState) (x : BrickState) → Decided v (with_brick at u b) t m y x
      → IsSure v (with_brick at u b) t m y x
  all-sure t d g committed ready q e learnt m y x k =
      let f = frozen-is n t d.team.frozen in
      let apart = library-apart c t d.team.frozen in
      let same : f.library ≡ y = library-is f.library y (sym f.here ∙ sym ((step c).nodes t.library apart) ∙ k.meets.library) in
      let stopped : y.stopped ≡ true = ap (λ (w : LibraryState). w.stopped) (sym same) ∙ f.stopped in
      elim (cases_Bool (m == at)) [
        | inl i ↦
            let mine : m ≡ at = eqb-true m at i in
            let is : u ≡ x = brick-is u x (sym (step c).is ∙ ap v.node (sym mine) ∙ k.meets.member) in
            let known : has_node x.known t.library ≡ true = ap (λ (w : BrickState). has_node w.known t.library) (sym is) ∙ learnt in
            record {
              at = subst (λ (w : BrickState). SureAt (seen.at w.locks.pending ((with_brick at u b).noted m t) t)) is
                  (subst (λ j. SureAt (seen.at u.locks.pending ((with_brick at u b).noted j t) t)) (sym mine) (own-sure t q e));
              none = silent t m y x (ap (is_in z) mine ∙ c.fits.letter.receiver) k.meets.library k.meets.member known;
              view = λ live. absurd (not-yes y.stopped stopped live);
            }
        | inr i ↦
            let was : n.node m ≡ a_brick x = sym ((step c).nodes m i) ∙ k.meets.member in
            let unknown = live-unknown m x k.meets.member k.live in
            let pair : Pair n b.list t at m s x = record {
              resolver = c.fits.here;
              lives = c.fits.live;
              member = was;
              apart = swap-false m at i;
              in_list = k.member;
              unknown = knows-more s from (ground z n b.list) l m (notice c) unknown;
            } in
            record {
              at = mate-sure t m x (eqb-false m at i) (c.parts.kept t m f.library x f.here was k.live f.opened)
                  (subst (λ w. Agreed w (own_at x t)) committed (g.mates m x pair unknown k.live));
              none = silent t m y x (grounds.brick-inside z n m x (base c) was) k.meets.library k.meets.member
                  (and_parts (has_node x.known t.library) _ (ready m x pair unknown k.live)).0;
              view = λ live. absurd (not-yes y.stopped stopped live);
            }
      ]

  pub decision-all : AllSettle v at s u b
  decision-all t k p q e =
      let d = who-decides from l may (brick-ok c) (readies c) (letter-team c) (notice c) t p q in
      let g = may-go c t may d.team in
      let learnt : has_node u.known t.library ≡ true = ap (λ w. has_node w t.library) (known-is s from l) ∙ (and_parts _ _ d.ready).0 in
      let own : Agreed g.decided (at_of false (Some k)) = subst (Agreed g.decided) (ap (λ x. at_of x (get u.locks.outcomes t)) q ∙ ap (at_of false) e) g.own in
      record {
        knows = learnt;
        aborts = λ f. not-grown (b.decided t) g.decided g.grows (agreed-abort g.decided (subst (λ x. Agreed g.decided (at_of false (Some x))) f own));
        commits = λ f.
            let committed = agreed-commit g.decided (subst (λ x. Agreed g.decided (at_of false (Some x))) f own) in
            elim (g.all_ready committed) [
              | inl before ↦ inl before
              | inr ready ↦ inr (λ m y x w. all-sure t d g committed ready q (e ∙ ap Some f) learnt m y x w)
            ];
      }

-- at each letter that resolves attempts
pub settles : {z : Sizes} {h : History} {n : Net} {a : Book} {b : Books} {at from : ℕ} {s : BrickState} (l : Letter) (c : Case z h n a b at from l s)
    → AreLinked z (moved z n (brick_takes at from l s)) → Resolves l
    → AllSettle (moved z n (brick_takes at from l s)) at s (live_brick_turn s from l).state b
settles (letter.Help txn list) c links i = decision-all c tt links
settles (letter.Query txn list) c links i = decision-all c tt links
settles (letter.Status txn status) c links i = decision-all c tt links
settles letter.Notice c links i = decision-all c tt links
settles {z = z} {n = n} {at = at} {from = from} {s = s} (letter.Outcome x o) c links i =
    outcome-all x o c (moved z n (brick_takes at from (letter.Outcome x o) s))
settles other c links i = absurd i
