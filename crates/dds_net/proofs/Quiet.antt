use Rattle.std.proofs.Common.{◌≡◌, ℕ, zero, suc, ◌&&◌, Bool, true, false, List, [], ◌∷◌, ◌++◌, refl, ap, ◌∙◌}
use Rattle.std.specs.List.{AllByRecursion}
use Rattle.std.specs.Prelude.{slice_index_or}
use Rattle.dds_cluster.specs.World.{World}
use Rattle.dds_cluster.specs.declared.step.Message.{Message}
use Rattle.dds_world.specs.Quiet.{Quiet}
use Rattle.dds_net.specs.Net.{Net, Sizes, box, channel, channel_at, is_in, lane, letters_of, net, place_in, sent, when_in}

-- In a quiet world nothing is on its way from any node to any other.

abbrev pub IsEmpty : Net → Type 0
IsEmpty n = (a b : ℕ) → n.channel a b ≡ []

none-at : (rows : List (List Message)) (i : ℕ) → AllByRecursion (λ ms. ms ≡ []) rows → slice_index_or rows i [] ≡ []
none-at [] i h = refl
none-at (ms ∷ rows) zero h = h.0
none-at (ms ∷ rows) (suc i) h = none-at rows i h.1

row-at : (rows : List (List (List Message))) (i : ℕ) → AllByRecursion (λ row. AllByRecursion (λ ms. ms ≡ []) row) rows
    → AllByRecursion (λ ms. ms ≡ []) (slice_index_or rows i [])
row-at [] i h = tt
row-at (row ∷ rows) zero h = h.0
row-at (row ∷ rows) (suc i) h = row-at rows i h.1

guarded : (c : Bool) (ls : List _) → ls ≡ [] → when_in c ls ≡ []
guarded true ls e = e
guarded false ls e = refl

pub quiet-net : (z : Sizes) (w : World) → Quiet w → IsEmpty (net z w)
quiet-net z w q a b =
    let i = place_in z.bricks a in
    let j = place_in z.bricks b in
    let on = none-at (slice_index_or w.links i []) j (row-at w.links i q.links) in
    let out = ap (λ ms. sent z.bricks j ms) (none-at w.outboxes i q.outboxes) in
    guarded (is_in z a && is_in z b) _ (ap (λ ms. letters_of (ms ++ sent z.bricks j (box w i))) on ∙ ap letters_of out)
