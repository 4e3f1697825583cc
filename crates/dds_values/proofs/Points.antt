use Rattle.std.proofs.Common.{◌≡◌, ℕ, List, [], ◌∷◌, ◌++◌, refl, sym, ap, ◌∙◌, append_assoc}
use Rattle.std.proofs.lemmas.List.{append-nil}
use Rattle.dds_cluster.specs.Trace.{all_kept, kept}
use Rattle.dds_cluster.specs.Turn.{point_made, points_made}
use Rattle.dds_cluster.specs.declared.trace.Made.{Made}
use Rattle.dds_letters.specs.declared.letter.Letter.{Letter}
use Rattle.dds_states.specs.declared.turn.Point.{Point}

-- The points that are kept of a turn that makes some points after others.

kept-append : (made xs ys : List Made) → all_kept made (xs ++ ys) ≡ all_kept made xs ++ all_kept (made ++ all_kept made xs) ys
kept-append made [] ys = ap (λ m. all_kept m ys) (sym (append-nil made))
kept-append made (x ∷ xs) ys =
    let now = made ++ kept made x in
    ap (λ l. kept made x ++ l) (kept-append now xs ys)
    ∙ sym (append_assoc (kept made x) (all_kept now xs) (all_kept (now ++ all_kept now xs) ys))
    ∙ ap (λ m. (kept made x ++ all_kept now xs) ++ all_kept m ys) (append_assoc made (kept made x) (all_kept now xs))

made-append : (place : ℕ) (l : Letter) (ps qs : List Point) → points_made place l (ps ++ qs) ≡ points_made place l ps ++ points_made place l qs
made-append place l [] qs = refl
made-append place l (p ∷ ps) qs =
    ap (λ x. point_made place l p ++ x) (made-append place l ps qs)
    ∙ sym (append_assoc (point_made place l p) (points_made place l ps) (points_made place l qs))

-- the points of a run after a turn has made these
abbrev pub with_points : List Made → ℕ → Letter → List Point → List Made
with_points made place l ps = made ++ all_kept made (points_made place l ps)

pub then-points : (made : List Made) (place : ℕ) (l : Letter) (ps qs : List Point)
    → with_points made place l (ps ++ qs) ≡ with_points (with_points made place l ps) place l qs
then-points made place l ps qs =
    ap (λ ms. made ++ all_kept made ms) (made-append place l ps qs) ∙ ap (λ l. made ++ l) (kept-append made (points_made place l ps) (points_made place l qs))
    ∙ sym (append_assoc made (all_kept made (points_made place l ps)) (all_kept (with_points made place l ps) (points_made place l qs)))
