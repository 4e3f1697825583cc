use Rattle.std.proofs.Common.{◌≡◌, ℕ, ◌⊎◌, inl, inr, true, false, List, [], ap, ◌∙◌}
use Rattle.dds_base.specs.BrickList.{has}
use Rattle.dds_base.specs.Number.{Txn}
use Rattle.dds_cluster.specs.Trace.{run_of}
use Rattle.dds_cluster.specs.declared.step.Step.{Step}
use Rattle.dds_net.proofs.Journals.{net_of}
use Rattle.dds_net.proofs.Nodes.{brick-node}
use Rattle.dds_net.specs.Net.{sizes_of}
use Rattle.dds_script.specs.Opening.{OpeningOf, ranges_of}
use Rattle.dds_script.specs.Ranges.{IsRanges}
use Rattle.dds_states.specs.declared.brick_state.BrickState.{BrickState}
use Rattle.dds_talk.specs.Books.{Books}
use Rattle.dds_talk.specs.Parts.{SureAt}
use Rattle.dds_talk.specs.Seen.{at, is_pending}
use Rattle.dds_world.specs.Outcomes.{HasMembers, IsPendingAt, Noted}
use Rattle.dds_world.specs.Places.{IsLive, reached}
use Rattle.dds_outcomes.proofs.Facts.{IsBooked, ground-of, members-listed, none-empty, not-aborted, noted-booked, sure-member, sure-place}
use Rattle.dds_outcomes.proofs.Made.{IsLibrary, kept-made}
use Rattle.dds_outcomes.proofs.Noting.{noted-there}
use Rattle.dds_outcomes.proofs.Places.{kept-holds}
use Rattle.dds_outcomes.specs.Kept.{Kept}

-- Where commit is decided, each live member has the attempt pending or has applied it; so no live member has aborted it.

made-if : (o : OpeningOf) (journal : List Step) (b : Books) (t : Txn) (k : ℕ) → (b.list t ≡ []) ⊎ IsLibrary ((net_of o journal).node t.library)
    → has (b.list t) k ≡ true → IsLibrary ((net_of o journal).node t.library)
made-if o journal b t k (inl e) h = absurd (none-empty (b.list t) k e h)
made-if o journal b t k (inr l) h = l

pub live-sure : (o : OpeningOf) (journal : List Step) (b : Books) (t : Txn) (k : ℕ) (s : BrickState) → IsRanges (ranges_of o) → Kept o journal b
    → has (b.list t) k ≡ true → b.decided t ≡ true → IsLive (reached o journal) k s → SureAt (at s.locks.pending (b.noted k t) t)
live-sure o journal b t k s ranges kept member decided live =
    let l = made-if o journal b t k (kept-made o journal b kept t) member in
    sure-member (sizes_of o) (net_of o journal) b t k l.0 s (ground-of o journal b ranges kept) (kept-holds o journal b kept).commit l.1
    (brick-node (run_of o journal).world k s live.there) live.live member decided

pub booked-reaches : (o : OpeningOf) (journal : List Step) (b : Books) (t : Txn) (list : List ℕ) (k : ℕ) (s : BrickState) → IsRanges (ranges_of o)
    → Kept o journal b → IsBooked b t list → has list k ≡ true → IsLive (reached o journal) k s → IsPendingAt s t ⊎ Noted o journal k t true
booked-reaches o journal b t list k s ranges kept d member live =
    let in_list : has (b.list t) k ≡ true = ap (λ (l : List ℕ). has l k) d.listed ∙ member in
    elim (sure-place (is_pending s.locks.pending t) (b.noted k t) (live-sure o journal b t k s ranges kept in_list d.decided live)) [
      | inl p ↦ inl p
      | inr n ↦ inr (noted-there o journal b kept k t true n)
    ]

-- one outcome
pub outcomes-agree : (o : OpeningOf) (journal : List Step) (b : Books) → IsRanges (ranges_of o) → Kept o journal b → (t : Txn) (list : List ℕ) (k m : ℕ)
    (s u : BrickState)
    → HasMembers o journal t list → has list k ≡ true → has list m ≡ true → IsLive (reached o journal) k s → IsLive (reached o journal) m u
    → Noted o journal k t true → Noted o journal m t false → ⊥
outcomes-agree o journal b ranges kept t list k m s u h a c live also committed aborted =
    let holds = kept-holds o journal b kept in
    let decided = holds.commit.noted k t (noted-booked o journal b k t true kept committed) in
    let in_list : has (b.list t) m ≡ true = ap (λ (l : List ℕ). has l m) (members-listed o journal b t list kept h) ∙ c in
    let ok = holds.commit.note m u (brick-node (run_of o journal).world m u also.there) in
    not-aborted (is_pending u.locks.pending t) (b.noted m t) (ok.free t) (noted-booked o journal b m t false kept aborted)
    (live-sure o journal b t m u ranges kept in_list decided also)
