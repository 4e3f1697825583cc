use Rattle.std.proofs.Common.{◌≡◌, ℕ, ◌-◌, ◌≤◌, true, false, not, [], None, refl, sym, ap, ◌∙◌, subst, arith}
use Rattle.std.proofs.lemmas.Bool.Decides.{nat_tests}
use Rattle.std.specs.FinMap.{get, get-empty}
use Rattle.dds_locks.specs.Outcomes.{txn_cmp}
use Rattle.dds_states.specs.Turn.{first_some}
use Rattle.std.specs.Prelude.{nat_le}
use Rattle.dds_base.specs.NodeSet.{has_node, no_nodes}
use Rattle.dds_base.specs.Number.{Txn}
use Rattle.dds_cluster.specs.Trace.{start}
use Rattle.dds_cluster.specs.World.{new_brick, new_library}
use Rattle.dds_law_notice.proofs.Views.{none-known}
use Rattle.dds_net.proofs.Opening.{IsNew, new_a_brick, new_a_library, no_node, start-channel, start-node}
use Rattle.dds_net.specs.Net.{Node, nowhere, a_brick, a_library, net, sizes_of}
use Rattle.dds_script.specs.Opening.{OpeningOf}
use Rattle.dds_states.specs.declared.brick_state.BrickState.{BrickState}
use Rattle.dds_states.specs.declared.library_state.LibraryState.{LibraryState}
use Rattle.dds_talk.specs.Books.{no_books}
use Rattle.dds_talk.specs.Parts.{BrickOk, Commit, LibraryOk}
use Rattle.dds_talk.specs.Seen.{at, view}
use Rattle.dds_talk.specs.Table.{IsTalk}
use Rattle.dds_talk.specs.Table.IsTalk.{unknowing}
use Rattle.dds_talk.specs.Table.Talks.{live}
use Rattle.dds_talk.specs.Table.Talk.{unmade}

-- The parts hold before the first step: nothing is open, pending or noted, and nothing is on its way.

pub is-brick : (o : OpeningOf) (n : ℕ) (x : Node) (s : BrickState) → IsNew o n x → x ≡ a_brick s → new_brick o.leaves n ≡ s
is-brick o n x s (no_node e) f = let q : nowhere ≡ a_brick s = sym e ∙ f in cc
is-brick o n x s (new_a_brick e) f = let q : a_brick (new_brick o.leaves n) ≡ a_brick s = sym e ∙ f in cc
is-brick o n x s (new_a_library h e) f = let q : a_library (new_library o (n - 64)) ≡ a_brick s = sym e ∙ f in cc

record IsLibrary (o : OpeningOf) (n : ℕ) (s : LibraryState) : Type 0 where
  high : 64 ≤ n
  is : new_library o (n - 64) ≡ s

is-library : (o : OpeningOf) (n : ℕ) (x : Node) (s : LibraryState) → IsNew o n x → x ≡ a_library s → IsLibrary o n s
is-library o n x s (no_node e) f = let q : nowhere ≡ a_library s = sym e ∙ f in cc
is-library o n x s (new_a_brick e) f = let q : a_brick (new_brick o.leaves n) ≡ a_library s = sym e ∙ f in cc
is-library o n x s (new_a_library h e) f =
    let q : a_library (new_library o (n - 64)) ≡ a_library s = sym e ∙ f in record { high = h; is = same q }
  where
    same : a_library (new_library o (n - 64)) ≡ a_library s → new_library o (n - 64) ≡ s
    same q = cc

new-talk : (o : OpeningOf) (i n m : ℕ) (t : Txn)
    → IsTalk true true (has_node no_nodes t.library) (view (new_library o i) [] t m) [] (at (new_brick o.leaves n).locks.pending None t) []
new-talk o i n m t =
    let known : has_node no_nodes t.library ≡ false = none-known t.library in
    let le : nat_le 0 t.number ≡ true = grind (arith, nat_tests) in
    rw (known, le) (unknowing (live unmade))

pub start-commit : (o : OpeningOf) → Commit (sizes_of o) (net (sizes_of o) (start o).world) no_books
start-commit o =
    let n = net (sizes_of o) (start o).world in
    let brick : (k : ℕ) (s : BrickState) → n.node k ≡ a_brick s → new_brick o.leaves k ≡ s = λ k s e. is-brick o k (n.node k) s (start-node o k) e in
    let library : (k : ℕ) (s : LibraryState) → n.node k ≡ a_library s → IsLibrary o k s = λ k s e. is-library o k (n.node k) s (start-node o k) e in
    record {
      talk = λ t m l s meets.
          let out : n.channel t.library m ≡ [] = start-channel o t.library m in
          let back : n.channel m t.library ≡ [] = start-channel o m t.library in
          let b = brick m s meets.member in
          let c = (library t.library l meets.library).is in
          rw (out, back) (subst (λ s. IsTalk (not l.stopped) (not s.stopped) (has_node s.known t.library) (view l [] t m) [] (at s.locks.pending None t) []) b
          (subst (λ l. IsTalk (not l.stopped) true (has_node no_nodes t.library) (view l [] t m) [] (at (new_brick o.leaves m).locks.pending None t) []) c
          (new-talk o (t.library - 64) m m t)));
      note = λ k s is. subst (BrickOk (λ t. None)) (brick k s is) (record {
        agrees = λ t. ap (λ g. first_some g None)
            (get-empty txn_cmp t);
        free = λ t e. cc;
        once = tt;
        apart = tt;
      });
      calls = λ k s is.
          let h = library k s is in
          let high = h.high in
          subst (LibraryOk (sizes_of o) no_books k) h.is (record {
            number = omega (arith, high);
            apart = tt;
            calls = λ t c e. cc;
            unmade = λ t e le. refl;
            undecided = λ t e le. refl;
            groups = λ t e. record { alone = tt; inside = tt };
          });
      decide = λ t m l s d. let bad : true ≡ false = sym d.member in cc;
      noted = λ k t e. cc;
      kept = λ t m l s library-is is lives up. subst (λ s. no_books.noted m t ≡ get s.locks.outcomes t) (brick m s is) (sym (get-empty txn_cmp t));
    }
