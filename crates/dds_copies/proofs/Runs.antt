use Rattle.std.proofs.Common.{◌≡◌, ℕ, ◌++◌, true, Some, None, List, [], ◌∷◌, drop, length, refl, sym, ap, ◌∙◌, subst}
use Rattle.std.proofs.Math.Seq.{take-append_seam}
use Rattle.std.proofs.lemmas.Bool.{and_parts}
use Rattle.std.proofs.lemmas.List.{append-nil, append_assoc, take-append-drop}
use Rattle.std.specs.List.{AllByRecursion}
use Rattle.std.specs.Prelude.{take}
use Rattle.dds_cluster.specs.Trace.{all_kept, is_possible, is_run, is_run_from, next, run_of, start, trace_from}
use Rattle.dds_cluster.specs.World.{brick_at}
use Rattle.dds_cluster.specs.declared.step.Step.{Step}
use Rattle.dds_cluster.specs.declared.trace.Made.{Made}
use Rattle.dds_cluster.specs.declared.trace.Trace.{Trace}
use Rattle.dds_net.proofs.Journals.{Grown, IsNext, brick-now, net_of, world-now}
use Rattle.dds_net.proofs.Opening.{IsNew, new_a_brick, new_a_library, no_node, start-node}
use Rattle.dds_net.proofs.Prefixes.{run-take}
use Rattle.dds_net.proofs.Runs.{history-is, net-built, next-is, sized-run}
use Rattle.dds_net.proofs.Steps.{step-moves}
use Rattle.dds_net.specs.Event.{Event, History, goes, history_of, moved, points_of}
use Rattle.dds_net.specs.Net.{Node, a_brick, a_library, net, nowhere, sizes_of}
use Rattle.dds_order_talk.specs.Seen.{OrdersTalk}
use Rattle.dds_pairs.proofs.LieKeeps.{AreLying, run-lying}
use Rattle.dds_script.specs.Opening.{IsOpening, OpeningOf}
use Rattle.dds_share.proofs.Events.{low-kept}
use Rattle.dds_share.proofs.Facts.{AreAll, AreLow}
use Rattle.dds_share.proofs.Openings.{start-low}
use Rattle.dds_share.proofs.Runs.{run-together}
use Rattle.dds_share.proofs.Together.{AreTogether}
use Rattle.dds_states.specs.declared.brick_state.BrickState.{BrickState}
use Rattle.dds_states.specs.declared.brick_state.OpenOrder.{OpenOrder}
use Rattle.dds_values.proofs.Runs.{held-where-given}
use Rattle.dds_values.specs.Below.{LeavesKept}
use Rattle.dds_values.specs.Held.{JoinsServeTheTable, TalkAlong}
use Rattle.dds_values.specs.Values.{bound_in, table}
use Rattle.dds_copies.proofs.Asked.{joins-ask}
use Rattle.dds_copies.proofs.Before.{Before}
use Rattle.dds_copies.proofs.Keeps.{joins-kept}
use Rattle.dds_copies.proofs.LeavesKeep.{leaves-kept}
use Rattle.dds_copies.proofs.Frozen.{servers-leased}
use Rattle.dds_copies.proofs.Outside.{all-outside, points-keep}
use Rattle.dds_copies.proofs.PointsOutside.{IsFrozen, come-outside, frozen-outside}
use Rattle.dds_copies.specs.Copies.{JoinsCopy}
use Rattle.dds_copies.specs.Frozen.{BoundJoinsAreFrozen}
use Rattle.dds_copies.specs.Outside.{ComeOutside, IsOutside}
use Rattle.dds_copies.specs.Runs.{JoinsCopyTheTable, ValuesAreHeld}

-- Along each run: as far as bricks that serve what their joins made hold the table, live bricks do, so what sources send is the table's; so
-- joins copy it, and serve it at the next step.

-- the last step of a journal, or one of those before it
data Split (was : List Step) (x : Step) (done : List Step) (y : Step) : Type 0 where
  last : was ≡ done → Split was x done y
  earlier : (rest : List Step) → was ++ x ∷ rest ≡ done → Split was x done y

first-of : (a b : Step) (ls ms : List Step) → a ∷ ls ≡ b ∷ ms → (a ≡ b) × (ls ≡ ms)
first-of a b ls ms e = (cc, cc)

nothing-left : (was more : List Step) (x : Step) → was ++ x ∷ more ≡ [] → ⊥
nothing-left [] more x e = cc
nothing-left (w ∷ was) more x e = cc

split-more : (was done : List Step) (x y w d : Step) → w ≡ d → Split was x done y → Split (w ∷ was) x (d ∷ done) y
split-more was done x y w d first (last is) = last (ap (λ i. i ∷ was) first ∙ ap (λ l. d ∷ l) is)
split-more was done x y w d first (earlier rest is) = earlier rest (ap (λ i. i ∷ (was ++ x ∷ rest)) first ∙ ap (λ l. d ∷ l) is)

split-of : (was more : List Step) (x : Step) (done : List Step) (y : Step) → was ++ x ∷ more ≡ done ++ y ∷ [] → Split was x done y
split-of [] more x [] y e = last refl
split-of [] more x (d ∷ done) y e = earlier done (ap (λ i. i ∷ done) (first-of x d more (done ++ y ∷ []) e).0)
split-of (w ∷ was) more x [] y e = absurd (nothing-left was more x (first-of w y (was ++ x ∷ more) [] e).1)
split-of (w ∷ was) more x (d ∷ done) y e =
    let k = first-of w d (was ++ x ∷ more) (done ++ y ∷ []) e in
    split-more was done x y w d k.0 (split-of was more x done y k.1)

trace-grown : (t : Trace) (journal : List Step) (x : Step) → trace_from t (Grown journal x) ≡ next (trace_from t journal) x
trace-grown t [] x = refl
trace-grown t (y ∷ journal) x = trace-grown (next t y) journal x

-- after a beginning of the journal
pub record Along (o : OpeningOf) (was : List Step) : Type 0 where
  pub low : AreLow (sizes_of o) (net_of o was)
  pub serves : JoinsServeTheTable o was
  pub copy : JoinsCopy (table (run_of o was).made) (net_of o was)

module _ (o : OpeningOf) (journal : List Step) (h : IsOpening o) (run : is_run o journal ≡ true) (talk : TalkAlong o journal) where
  pub front-run : (front rest : List Step) → front ++ rest ≡ journal → is_run o front ≡ true
  front-run front rest whole =
      subst (λ j. is_run o j ≡ true) (ap (take (length front)) (sym whole) ∙ take-append_seam front rest) (run-take (start o) journal (length front) run)

  front-talks : (front rest : List Step) → front ++ rest ≡ journal → OrdersTalk (net_of o front)
  front-talks front rest whole =
      subst (λ j. OrdersTalk (net_of o j)) (ap (take (length front)) (sym whole) ∙ take-append_seam front rest) (talk (length front))

  front-of : (front more was rest : List Step) → front ++ more ≡ was → was ++ rest ≡ journal → front ++ (more ++ rest) ≡ journal
  front-of front more was rest is whole = sym (append_assoc front more rest) ∙ ap (λ j. j ++ rest) is ∙ whole

  pub along-talks : (was rest : List Step) → was ++ rest ≡ journal → TalkAlong o was
  along-talks was rest whole at =
      front-talks (take at was) (drop at was ++ rest) (front-of (take at was) (drop at was) was rest (take-append-drop at was) whole)

  its-bricks : (was : List Step) (x : Step) (k : ℕ) (s : BrickState) → (net_of o was).node k ≡ a_brick s → brick_at (run_of o was).world k ≡ Some s
  its-bricks was x k s here = subst (λ w. brick_at w k ≡ Some s) (world-now o was (x ∷ [])) (brick-now o was x k s here)

  -- what is so before the next step
  before-next : (was rest : List Step) (x : Step) → was ++ x ∷ rest ≡ journal → Along o was → Before (sizes_of o) (run_of o was).made (net_of o was)
  before-next was rest x whole a =
      let so_far = front-run was (x ∷ rest) whole in
      record {
        few = h.ranges.bricks;
        some = h.ranges.libraries;
        all = record { low = a.low; built = net-built (sizes_of o) (run_of o was).world (sized-run o was); talk = front-talks was (x ∷ rest) whole };
        together = run-together o was h so_far (λ front more is. front-talks front (more ++ x ∷ rest) (front-of front more was (x ∷ rest) is whole));
        lying = run-lying o was h so_far;
        holds = λ k s here live. (held-where-given o was h so_far (along-talks was (x ∷ rest) whole) a.serves).bricks k s (its-bricks was x k s here) live;
        copy = a.copy;
      }

  serves-next : (was rest : List Step) (x : Step) → was ++ x ∷ rest ≡ journal → Along o was → JoinsServeTheTable o (Grown was x)
  serves-next was rest x whole a front more y e is following = by (split-of front more y was x is)
    where
      now : (e : Event) → IsNext o was y e → LeavesKept (history_of (run_of o was)) e
      now e following = leaves-kept (sizes_of o) (history_of (run_of o was)) (net_of o was) (before-next was rest x whole a) e following.fits

      by : Split front y was x → LeavesKept (history_of (run_of o front)) e
      by (last same) =
          subst (λ j. LeavesKept (history_of (run_of o j)) e) (sym same) (now e (subst (λ j. IsNext o j y e) same following))
      by (earlier left same) = a.serves front left y e same following

  -- the points of the next step, and the nodes and channels behind it
  pub record Next (was : List Step) (x : Step) : Type 0 where
    pub more : List Made
    pub made : (run_of o (Grown was x)).made ≡ (run_of o was).made ++ more
    pub low : AreLow (sizes_of o) (net_of o (Grown was x))
    pub outside : ComeOutside (net_of o (Grown was x)) more
    pub frozen :
        (k : ℕ) (s : BrickState) (q : OpenOrder) → IsFrozen (net_of o was) (net_of o (Grown was x)) k s q → AllByRecursion (IsOutside q.name) more
    pub copy : JoinsCopy (table (run_of o was).made) (net_of o (Grown was x))

  pub next-is-so : (was rest : List Step) (x : Step) → was ++ x ∷ rest ≡ journal → is_possible (run_of o was) x ≡ true → Along o was → Next was x
  next-is-so was rest x whole p a =
      let z = sizes_of o in
      let t = run_of o was in
      let n = net_of o was in
      let m = step-moves z t x h.ranges.bricks (sized-run o was) p in
      let g = before-next was rest x whole a in
      let one = trace-grown (start o) was x ∙ next-is t x p in
      let after : net_of o (Grown was x) ≡ moved z n m.event = ap (λ (u : Trace). net z u.world) one ∙ m.after in
      let past : history_of (run_of o (Grown was x)) ≡ goes (history_of t) m.event = ap history_of one ∙ history-is z t x m in
      let more = all_kept t.made (points_of t.steps m.event) in
      record {
        more = more;
        made = ap (λ (i : History). i.made) past;
        low = subst (AreLow z) (sym after) (low-kept z h.ranges.bricks h.ranges.libraries (history_of t) n m.event tt g.all.built m.fits a.low);
        outside = subst (λ v. ComeOutside v more) (sym after) (come-outside z t.callers t.made n g m.event m.fits t.steps);
        frozen = λ k s q b.
            frozen-outside z t.callers t.made n g m.event m.fits t.steps k s q (subst (λ v. IsFrozen n v k s q) after b);
        copy = subst (JoinsCopy (table t.made)) (sym after) (joins-kept z t.callers t.made n g m.event m.fits);
      }

  next-along : (was rest : List Step) (x : Step) → was ++ x ∷ rest ≡ journal → is_possible (run_of o was) x ≡ true → Along o was → Along o (Grown was x)
  next-along was rest x whole p a =
      let k = next-is-so was rest x whole p a in
      record {
        low = k.low;
        serves = serves-next was rest x whole a;
        copy = subst (λ (ms : List Made). JoinsCopy (table ms) (net_of o (Grown was x))) (sym k.made)
            (points-keep (run_of o was).made k.more (net_of o (Grown was x)) k.low.parts k.outside k.copy);
      }

  all-along : (was rest : List Step) → was ++ rest ≡ journal → is_run_from (run_of o was) rest ≡ true → Along o was → Along o journal
  all-along was [] whole p a = subst (Along o) (sym (append-nil was) ∙ whole) a
  all-along was (x ∷ rest) whole p a =
      let q = and_parts (is_possible (run_of o was) x) (is_run_from (next (run_of o was) x) rest) p in
      all-along (Grown was x) rest (append_assoc was (x ∷ []) rest ∙ whole)
      (subst (λ (t : Trace). is_run_from t rest ≡ true) (sym (trace-grown (start o) was x)) q.1) (next-along was rest x whole q.0 a)

-- a step of a run is possible
possible-in : (t : Trace) (was : List Step) (x : Step) → is_run_from t (Grown was x) ≡ true → is_possible (trace_from t was) x ≡ true
possible-in t [] x r = (and_parts (is_possible t x) true r).0
possible-in t (y ∷ was) x r = possible-in (next t y) was x (and_parts (is_possible t y) (is_run_from (next t y) (Grown was x)) r).1

pub next-possible : (o : OpeningOf) (was : List Step) (x : Step) → is_run o (Grown was x) ≡ true → is_possible (run_of o was) x ≡ true
next-possible o was x r = possible-in (start o) was x r

-- the opening has no open order
abbrev HasNoOrder : Node → Type 0
HasNoOrder nowhere = Unit {0}
HasNoOrder (a_brick s) = s.order ≡ None
HasNoOrder (a_library s) = Unit {0}

new-rests : (o : OpeningOf) (k : ℕ) (x : Node) → IsNew o k x → HasNoOrder x
new-rests o k x (no_node e) = subst HasNoOrder (sym e) tt
new-rests o k x (new_a_brick e) = subst HasNoOrder (sym e) refl
new-rests o k x (new_a_library high e) = subst HasNoOrder (sym e) tt

start-along : (o : OpeningOf) → IsOpening o → Along o []
start-along o h =
    record {
      low = start-low o h;
      serves = λ front more x e is following. absurd (nothing-left front more x is);
      copy = λ k s q here live there join. absurd (none q (sym (subst HasNoOrder here (new-rests o k _ (start-node o k))) ∙ there));
    }
  where
    none : (q : OpenOrder) → None ≡ Some q → ⊥
    none q e = cc

pub run-along : (o : OpeningOf) (journal : List Step) → IsOpening o → is_run o journal ≡ true → TalkAlong o journal → Along o journal
run-along o journal h run talk = all-along o journal h run talk [] journal refl run (start-along o h)

pub values-held : ValuesAreHeld
values-held o journal h run talk = held-where-given o journal h run talk (run-along o journal h run talk).serves

-- a world that is reached
pub record Reached (o : OpeningOf) (journal : List Step) : Type 0 where
  pub along : Along o journal
  pub all : AreAll (sizes_of o) (net_of o journal)
  pub together : AreTogether (net_of o journal)
  pub lying : AreLying (sizes_of o) (net_of o journal)

pub run-reached : (o : OpeningOf) (journal : List Step) → IsOpening o → is_run o journal ≡ true → TalkAlong o journal → Reached o journal
run-reached o journal h run talk =
    let a = run-along o journal h run talk in
    record {
      along = a;
      all = record {
        low = a.low;
        built = net-built (sizes_of o) (run_of o journal).world (sized-run o journal);
        talk = front-talks o journal h run talk journal [] (append-nil journal);
      };
      together = run-together o journal h run (λ front more is. front-talks o journal h run talk front more is);
      lying = run-lying o journal h run;
    }

pub joins-copy : JoinsCopyTheTable
joins-copy o journal h run talk =
    let r = run-reached o journal h run talk in
    record {
      copied = r.along.copy;
      asked = joins-ask (sizes_of o) (net_of o journal) r.all r.together r.lying.stood.counted;
      served = r.along.serves;
    }

pub joins-frozen : BoundJoinsAreFrozen
joins-frozen o journal h run talk =
    let r = run-reached o journal h run talk in
    record {
      leased = servers-leased (sizes_of o) (net_of o journal) r.all r.together r.lying;
      still = λ was more x k s join key whole bound under.
          let so_far = front-run o journal h run talk was (x ∷ more) whole in
          let p = next-possible o was x (front-run o journal h run talk (Grown was x) more (append_assoc was (x ∷ []) more ∙ whole)) in
          let q = next-is-so o journal h run talk was more x whole p (run-along o was h so_far (along-talks o journal h run talk was (x ∷ more) whole)) in
          ap (λ (ms : List Made). bound_in ms key) q.made
          ∙ all-outside (run_of o was).made q.more join.name key under (q.outside.outside k s join bound);
    }
