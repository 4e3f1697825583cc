use Rattle.std.proofs.Common.{◌≡◌, ℕ, ◌<◌, ◌≤◌, Some, List, [], subst}
use Rattle.dds_base.specs.Number.{Txn}
use Rattle.dds_base.specs.declared.node_set.NodeSet.{NodeSet}
use Rattle.dds_base.specs.declared.op.Op.{Op}
use Rattle.dds_books.proofs.CallRows.{call-fine}
use Rattle.dds_books.proofs.LibraryCalls.{Serving, one-serves, serving-first}
use Rattle.dds_books.proofs.LibraryNotices.{Due, Noticing, notice-first, one-noticed}
use Rattle.dds_books.proofs.LibraryNotices.Due.{treated, waits}
use Rattle.dds_books.specs.Placed.{AreBricks, CallOk, LetterOk, LibraryOk, PhaseOk}
use Rattle.dds_core.proofs.CallTurns.{heard}
use Rattle.dds_core.proofs.Lists.{all-map}
use Rattle.dds_core.specs.LibraryTurn.{attempts}
use Rattle.dds_letters.specs.declared.letter.Letter.{Letter}
use Rattle.dds_letters.specs.declared.letter.Letter.TheVariants as letter
use Rattle.dds_net.specs.Net.{Net, Sizes}
use Rattle.dds_states.specs.Turn.{no_out}
use Rattle.dds_states.specs.declared.library_state.LibraryState.{LibraryState}
use Rattle.dds_states.specs.declared.library_state.OpenCall.{OpenCall}
use Rattle.dds_states.specs.declared.library_state.Phase.{Phase}
use Rattle.dds_states.specs.declared.library_state.Phase.TheVariants as phase
use Rattle.dds_talk.proofs.Folds.{AreGroups}
use Rattle.dds_talk.proofs.Groups.{group-of}
use Rattle.dds_talk.proofs.LibraryTakes.{LibraryOwes, Speaker}
use Rattle.dds_talk.specs.Seen.{IsGroup, members_of, said}
use Rattle.dds_talk.specs.Table.{Say}

-- What is so of a library between two turns of its calls: the members of its attempts are groups.

none-group : (z : Sizes) → IsGroup z []
none-group z = record { alone = tt; inside = tt }

bricks-group : (z : Sizes) (list : List ℕ) → z.bricks ≤ 64 → AreBricks z list → IsGroup z list
bricks-group z list few h = group-of z list few h.bricks h.apart

phase-group : (z : Sizes) (known : NodeSet) (o : Op) (p : Phase) → z.bricks ≤ 64 → PhaseOk z known o p → IsGroup z (members_of p)
phase-group z known o (phase.Preparing leaf list waiting) few h = bricks-group z list few h.1.list_ok
phase-group z known o (phase.Committing leaf list waiting was) few h = bricks-group z list few h.1.list_ok
phase-group z known o (phase.Getting leaf brick) few h = none-group z
phase-group z known o (phase.Aborting waiting why brick) few h = none-group z
phase-group z known o (phase.Asking waiting newest m) few h = none-group z

call-group : (z : Sizes) (number next : ℕ) (known : NodeSet) (c : OpenCall) → z.bricks ≤ 64 → CallOk z number next known c → IsGroup z (members_of c.phase)
call-group z number next known c few h = phase-group z known c.request.op c.phase few h.its_phase

due-group : (z : Sizes) (number next : ℕ) (old known : NodeSet) (txns : List Txn) (c : OpenCall) → z.bricks ≤ 64 → Due z number next old known txns c
    → IsGroup z (members_of c.phase)
due-group z number next old known txns c few (treated k) = call-group z number next known c few k
due-group z number next old known txns c few (waits k w) = call-group z number next old c few k

pub library-groups : (z : Sizes) (at : ℕ) (s : LibraryState) → z.bricks ≤ 64 → LibraryOk z at s → AreGroups z s
library-groups z at s few h =
    all-map (CallOk z s.number s.next s.known) (λ (c : OpenCall). IsGroup z (members_of c.phase)) s.calls
    (λ c k. call-group z s.number s.next s.known c few k) h.calls

-- a library's calls, one after another

pub letter-owes : (T : Txn → Type 0) (z : Sizes) (n : Net) (at from : ℕ) (l : Letter) (s : LibraryState) → z.bricks ≤ 64 → (l ≡ letter.Notice → ⊥)
    → s ≡ heard s from l → LetterOk T z from at l → LibraryOk z at s → ((txn : Txn) (y : Say) → said l ≡ Some (txn, y) → Speaker n at from txn)
    → LibraryOwes z n at from l s
letter-owes T z n at from l s few ne same k ok speaks =
    record {
      guide = record {
        Good = Serving z at s;
        keeps = one-serves z at s from l (λ d c g m. call-fine T from at d c l ne k g m);
        groups = λ u out h. library-groups z at u few h.state;
      };
      good = subst (λ u. Serving z at s u no_out) same (serving-first z at s ok);
      speaker = speaks;
    }

pub notice-owes : (z : Sizes) (n : Net) (at y : ℕ) (s : LibraryState) → z.bricks ≤ 64 → y < 80 → LibraryOk z at s → LibraryOwes z n at y letter.Notice s
notice-owes z n at y s few low ok =
    record {
      guide = record {
        Good = Noticing z at s y (attempts s.calls);
        keeps = one-noticed z at s y (attempts s.calls) low;
        groups = λ u out h. all-map (Due z u.number u.next s.known u.known (attempts s.calls)) (λ (c : OpenCall). IsGroup z (members_of c.phase)) u.calls
            (λ c k. due-group z u.number u.next s.known u.known (attempts s.calls) c few k) h.calls;
      };
      good = notice-first s y ok;
      speaker = λ txn x e. cc;
    }
