use Rattle.std.proofs.Common.{◌≡◌, ℕ, ◌+◌, ◌≤◌, ◌++◌, true, false, Some, List, length, sym, ap, ◌∙◌, subst, arith}
use Rattle.std.proofs.Math.Seq.{take-append_seam}
use Rattle.std.proofs.lemmas.List.{append_assoc}
use Rattle.std.specs.Prelude.{take}
use Rattle.dds_base.specs.BrickList.{has}
use Rattle.dds_base.specs.declared.leaf.Leaf.{Leaf}
use Rattle.dds_cluster.specs.Trace.{is_run, start}
use Rattle.dds_cluster.specs.declared.step.Step.{Step}
use Rattle.dds_net.proofs.Journals.{net_of}
use Rattle.dds_net.proofs.Prefixes.{run-take}
use Rattle.dds_net.specs.Net.{Net, a_brick}
use Rattle.dds_order_talk.specs.Seen.{OrdersTalk}
use Rattle.dds_parents.proofs.Served.{covered-by}
use Rattle.dds_script.specs.Opening.{IsOpening, OpeningOf}
use Rattle.dds_share.proofs.Over.{covers-over}
use Rattle.dds_share.proofs.Runs.{run-together}
use Rattle.dds_states.specs.Leaf.{leaf_for}
use Rattle.dds_states.specs.declared.brick_state.BrickState.{BrickState}
use Rattle.dds_values.specs.Held.{TalkAlong}

-- Live bricks with leaves over a key list each other, before each step of a run in which orders and their members talk.

pub record LiveBrick (n : Net) (k : ℕ) (s : BrickState) : Type 0 where
  pub here : n.node k ≡ a_brick s
  pub live : s.stopped ≡ false

pub record ServersShare (n : Net) : Type 0 where
  pub share :
      (a b : ℕ) (s t : BrickState) (key : ℕ) (leaf other : Leaf) → LiveBrick n a s → LiveBrick n b t → leaf_for s.leaves key ≡ Some leaf
      → leaf_for t.leaves key ≡ Some other → has leaf.list b ≡ true

up-to : (o : OpeningOf) (was more journal : List Step) → was ++ more ≡ journal → is_run o journal ≡ true → is_run o was ≡ true
up-to o was more journal whole run =
    subst (λ j. is_run o j ≡ true) (ap (take (length was)) (sym whole) ∙ take-append_seam was more) (run-take (start o) journal (length was) run)

so-far : (o : OpeningOf) (was more journal front rest : List Step) → was ++ more ≡ journal → TalkAlong o journal → front ++ rest ≡ was
    → OrdersTalk (net_of o front)
so-far o was more journal front rest whole talk is =
    let all : front ++ (rest ++ more) ≡ journal = sym (append_assoc front rest more) ∙ ap (λ j. j ++ more) is ∙ whole in
    subst (λ j. OrdersTalk (net_of o j)) (ap (take (length front)) (sym all) ∙ take-append_seam front (rest ++ more)) (talk (length front))

pub servers-share : (o : OpeningOf) (was more journal : List Step) → IsOpening o → was ++ more ≡ journal → is_run o journal ≡ true → TalkAlong o journal
    → ServersShare (net_of o was)
servers-share o was more journal h whole run talk =
    record {
      share = λ a b s t key leaf other x y e f.
          let p = covered-by s.leaves key leaf e in
          let q = covered-by t.leaves key other f in
          let deep = p.name.depth + q.name.depth in
          let first : p.name.depth ≤ deep = omega arith in
          let second : q.name.depth ≤ deep = omega arith in
          (run-together o was h (up-to o was more journal whole run)
          (λ front rest is. so-far o was more journal front rest whole talk is)).share a b (record { bits = key; depth = deep }) s t leaf other
          (record { here = x.here; live = x.live; over = covers-over s.leaves key deep leaf p first })
          (record { here = y.here; live = y.live; over = covers-over t.leaves key deep other q second });
    }
