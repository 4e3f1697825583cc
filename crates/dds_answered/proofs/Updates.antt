use Rattle.std.proofs.Common.{◌≡◌, ℕ, false, Some, List, refl, sym, ap, ◌∙◌, subst}
use Rattle.dds_attempts.proofs.Found.{Found, OpenWith, before, found, opened}
use Rattle.dds_attempts.proofs.Library.{txn-is}
use Rattle.dds_base.specs.Number.{Txn}
use Rattle.dds_base.specs.Op.{is_get}
use Rattle.dds_base.specs.declared.node_set.NodeSet.{NodeSet}
use Rattle.dds_base.specs.declared.op.Op.{Op}
use Rattle.dds_books.specs.Books.{Book, Entry, IsBooked, LibraryListed, ListFits, NodeListed, booked, with_library}
use Rattle.dds_books.specs.Placed.{CallOk, LibraryOk, NodeOk, PhaseOk}
use Rattle.dds_books.specs.Placed as placed
use Rattle.dds_core.proofs.Lists.{all-is, all-map}
use Rattle.dds_core.specs.LibraryTurn.{live_library_turn}
use Rattle.dds_net.specs.Event.{Event, asked_turn, moved, nothing, unheard, unasked, brick_takes, brick_told, brick_stops, library_takes, library_asked}
use Rattle.dds_net.specs.Event.{library_stops}
use Rattle.dds_net.specs.Net.{Net, a_library, Sizes}
use Rattle.dds_outcomes.proofs.Entries.{PendingIs}
use Rattle.dds_outcomes.proofs.PendingRows.{AllPending}
use Rattle.dds_states.specs.declared.brick_state.BrickState.{BrickState}
use Rattle.dds_states.specs.declared.library_state.LibraryState.{LibraryState}
use Rattle.dds_states.specs.declared.library_state.Phase.{Phase}
use Rattle.dds_states.specs.declared.library_state.Phase.TheVariants as phase
use Rattle.dds_talk.proofs.Changes.{put-here}
use Rattle.dds_answered.proofs.Backed.{IsUpdate}

-- An attempt with members is of an update; so what is pending is one.

abbrev pub AreUpdates : Book → Type 0
AreUpdates a = (u : Txn) (f : Entry) (list : List ℕ) → a u ≡ Some f → f.list ≡ Some list → is_get f.op ≡ false

pub pending-updates : (a : Book) (s : BrickState) → AreUpdates a → AllPending (PendingIs a) s → AllPending IsUpdate s
pending-updates a s h k = all-map (PendingIs a) IsUpdate s.locks.pending (λ p i. h p.txn _ p.list i refl) k

-- an open call with members
listed-update : (z : Sizes) (known : NodeSet) (o : Op) (p : Phase) (list : List ℕ) → PhaseOk z known o p → ListFits p (Some list) → is_get o ≡ false
listed-update z known o (phase.Getting leaf brick) list h f = cc
listed-update z known o (phase.Preparing leaf members waiting) list h f = h.0
listed-update z known o (phase.Committing leaf members waiting was) list h f = h.0
listed-update z known o (phase.Aborting waiting why brick) list h f = h.0
listed-update z known o (phase.Asking waiting newest met) list h f = cc

module _ (z : Sizes) (a : Book) (at : ℕ) (s : LibraryState) (ok : LibraryOk z at s) (listed : LibraryListed (with_library at s a) s) where
  opened-update : (u : Txn) (f : Entry) (list : List ℕ) → with_library at s a u ≡ Some f → f.list ≡ Some list → u.library ≡ at → OpenWith s.calls u.number f
      → is_get f.op ≡ false
  opened-update u f list h e home o =
      let c = o.call in
      let b = all-is (IsBooked (with_library at s a)) s.calls o.place c listed.calls o.is in
      let k = all-is (CallOk z s.number s.next s.known) s.calls o.place c ok.calls o.is in
      let same : b.its ≡ f =
      (let two : Some b.its ≡ Some f =
      sym b.there ∙ ap (with_library at s a) (txn-is c.txn u (k.library ∙ ok.its_number ∙ sym home) o.number_is) ∙ h in cc) in
      let fits : ListFits c.phase (Some list) = subst (ListFits c.phase) (ap (λ (x : Entry). x.list) same ∙ e) b.list_fits in
      ap is_get (ap (λ (x : Entry). x.op) (sym same) ∙ b.op_is) ∙ listed-update z s.known c.request.op c.phase list k.its_phase fits

  found-update : (u : Txn) (f : Entry) (list : List ℕ) → AreUpdates a → with_library at s a u ≡ Some f → f.list ≡ Some list → Found a at s u f
      → is_get f.op ≡ false
  found-update u f list old h e (before k) = old u f list k e
  found-update u f list old h e (opened home o) = opened-update u f list h e home o

  library-updates : AreUpdates a → AreUpdates (with_library at s a)
  library-updates old u f list h e = found-update u f list old h e (found a at s u f h)

pub updates-then : (z : Sizes) (n : Net) (e : Event) (a : Book) → placed.ArePlaced z (moved z n e)
    → ((k : ℕ) → NodeListed (booked e a) k ((moved z n e).node k)) → AreUpdates a → AreUpdates (booked e a)
updates-then z n (library_takes at from l s) a p b g =
    let x = (live_library_turn s from l).state in
    let v = moved z n (library_takes at from l s) in
    let own : v.node at ≡ a_library x = put-here at (a_library x) n.node in
    library-updates z a at x (subst (NodeOk (placed.Made v) z at) own (p.nodes at)) (subst (NodeListed (with_library at x a) at) own (b at)) g
updates-then z n (library_asked at caller call o s) a p b g =
    let x = (asked_turn s caller call o).state in
    let v = moved z n (library_asked at caller call o s) in
    let own : v.node at ≡ a_library x = put-here at (a_library x) n.node in
    library-updates z a at x (subst (NodeOk (placed.Made v) z at) own (p.nodes at)) (subst (NodeListed (with_library at x a) at) own (b at)) g
updates-then z n nothing a p b g = g
updates-then z n (unheard at from l) a p b g = g
updates-then z n (unasked at caller call o) a p b g = g
updates-then z n (brick_takes at from l s) a p b g = g
updates-then z n (brick_told at o s) a p b g = g
updates-then z n (brick_stops at s left) a p b g = g
updates-then z n (library_stops at s left) a p b g = g
