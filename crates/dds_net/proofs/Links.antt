use Rattle.std.proofs.Common.{◌≡◌, ℕ, zero, suc, ◌+◌, ◌<◌, inl, inr, ◌==◌, List, [], ◌∷◌, ◌++◌, length, sym, ap, ◌∙◌, subst, arith}
use Rattle.std.proofs.lemmas.Bool.{cases_eq, eq-eqb, ne_eqb}
use Rattle.std.proofs.lemmas.List.{append_assoc, length-set, get_or-set_same, get_or-set_other}
use Rattle.std.proofs.lemmas.List.Elements.{filter-append}
use Rattle.std.specs.Prelude.{slice_index_or, slice_set, if◌then◌else◌}
use Rattle.dds_cluster.specs.World.{World}
use Rattle.dds_cluster.specs.declared.step.Message.{Message}
use Rattle.dds_cluster.proofs.Sizes.{AreRows, IsSized}
use Rattle.dds_net.specs.Net.{place_in, box, lane, sent, channel}

-- A letter that is posted leaves its channel as it was, and one that is taken is the first of its link.

-- the link from one place to another holds these letters, and an outbox those
abbrev pub with_lane : World → ℕ → ℕ → List Message → World
with_lane w p q ms = record w { links = slice_set w.links p (slice_set (slice_index_or w.links p []) q ms) }

abbrev pub with_box : World → ℕ → List Message → World
with_box w p ms = record w { outboxes = slice_set w.outboxes p ms }

pub row-length : (n : ℕ) (rows : List (List (List Message))) (i : ℕ) → AreRows n rows → i < length rows → length (slice_index_or rows i []) ≡ n
row-length n [] i a h = absurd (omega (arith, h))
row-length n (row ∷ rows) zero a h = a.0
row-length n (row ∷ rows) (suc i) a h = row-length n rows i a.1 (omega (arith, h))

pub lane-here : (b l p q : ℕ) (w : World) (ms : List Message) → IsSized b l w → p < b + l → q < b + l → lane (with_lane w p q ms) p q ≡ ms
lane-here b l p q w ms s hp hq =
    let n = s.links in
    let inside : p < length w.links = omega (arith, n, hp) in
    let r = row-length (b + l) w.links p s.rows inside in
    ap (λ row. slice_index_or row q []) (get_or-set_same w.links p (slice_set (slice_index_or w.links p []) q ms) [] inside)
    ∙ get_or-set_same (slice_index_or w.links p []) q ms [] (omega (arith, r, hq))

pub lane-row : (b l p q j : ℕ) (w : World) (ms : List Message) → IsSized b l w → p < b + l → (j ≡ q → ⊥) → lane (with_lane w p q ms) p j ≡ lane w p j
lane-row b l p q j w ms s hp ne =
    let n = s.links in
    let inside : p < length w.links = omega (arith, n, hp) in
    ap (λ row. slice_index_or row j []) (get_or-set_same w.links p (slice_set (slice_index_or w.links p []) q ms) [] inside)
    ∙ get_or-set_other (slice_index_or w.links p []) q j ms [] ne

pub lane-apart : (p q i j : ℕ) (w : World) (ms : List Message) → (i ≡ p → ⊥) → lane (with_lane w p q ms) i j ≡ lane w i j
lane-apart p q i j w ms ne = ap (λ row. slice_index_or row j []) (get_or-set_other w.links p i _ [] ne)

-- letters behind those of an outbox
pub sent-more : (b j : ℕ) (l old new : List Message) → l ++ sent b j (old ++ new) ≡ (l ++ sent b j old) ++ sent b j new
sent-more b j l old new = ap (λ t. l ++ t) (filter-append (λ m. place_in b m.to == j) old new) ∙ sym (append_assoc l (sent b j old) (sent b j new))

-- Post
abbrev pub posted : World → ℕ → ℕ → Message → List Message → World
posted w p q m ms = with_lane (with_box w p ms) p q (lane w p q ++ m ∷ [])

sent-here : (b q : ℕ) (m : Message) (ms : List Message) → place_in b m.to ≡ q → sent b q (m ∷ ms) ≡ m ∷ sent b q ms
sent-here b q m ms e = ap (λ c. if c then m ∷ sent b q ms else sent b q ms) (eq-eqb (place_in b m.to) q e)

sent-apart : (b j : ℕ) (m : Message) (ms : List Message) → (place_in b m.to ≡ j → ⊥) → sent b j (m ∷ ms) ≡ sent b j ms
sent-apart b j m ms ne = ap (λ c. if c then m ∷ sent b j ms else sent b j ms) (ne_eqb (place_in b m.to) j ne)

box-here : (b l p : ℕ) (w : World) (ms : List Message) → IsSized b l w → p < b + l → box (with_box w p ms) p ≡ ms
box-here b l p w ms s hp = let n = s.outboxes in get_or-set_same w.outboxes p ms [] (omega (arith, n, hp))

sized-box : (b l p : ℕ) (w : World) (ms : List Message) → IsSized b l w → IsSized b l (with_box w p ms)
sized-box b l p w ms s =
    record { bricks = s.bricks; libraries = s.libraries; outboxes = length-set w.outboxes p ms ∙ s.outboxes; links = s.links; rows = s.rows }

posted-here : (b l p q j : ℕ) (w : World) (m : Message) (ms : List Message) → IsSized b l w → p < b + l → j < b + l → place_in b m.to ≡ q → box w p ≡ m ∷ ms
    → channel (posted w p q m ms) b p j ≡ channel w b p j
posted-here b l p q j w m ms s hp hj e is = elim (cases_eq j q) [
  | inl same ↦
      subst (λ k. channel (posted w p q m ms) b p k ≡ channel w b p k) (sym same)
      (ap (λ x. x ++ sent b q (box (with_box w p ms) p)) (lane-here b l p q (with_box w p ms) (lane w p q ++ m ∷ []) (sized-box b l p w ms s) hp
      (subst (λ k. k < b + l) same hj))
      ∙ ap (λ x. (lane w p q ++ m ∷ []) ++ sent b q x) (box-here b l p w ms s hp)
      ∙ append_assoc (lane w p q) (m ∷ []) (sent b q ms)
      ∙ ap (λ x. lane w p q ++ x) (sym (sent-here b q m ms e))
      ∙ ap (λ x. lane w p q ++ sent b q x) (sym is))
  | inr other ↦
      ap (λ x. x ++ sent b j (box (with_box w p ms) p)) (lane-row b l p q j (with_box w p ms) (lane w p q ++ m ∷ []) (sized-box b l p w ms s) hp other)
      ∙ ap (λ x. lane w p j ++ sent b j x) (box-here b l p w ms s hp)
      ∙ ap (λ x. lane w p j ++ x) (sym (sent-apart b j m ms (λ k. other (sym k ∙ e))))
      ∙ ap (λ x. lane w p j ++ sent b j x) (sym is)
]

pub posted-channel : (b l p q i j : ℕ) (w : World) (m : Message) (ms : List Message) → IsSized b l w → p < b + l → j < b + l → place_in b m.to ≡ q
    → box w p ≡ m ∷ ms → channel (posted w p q m ms) b i j ≡ channel w b i j
posted-channel b l p q i j w m ms s hp hj e is = elim (cases_eq i p) [
  | inl same ↦ subst (λ k. channel (posted w p q m ms) b k j ≡ channel w b k j) (sym same) (posted-here b l p q j w m ms s hp hj e is)
  | inr other ↦
      ap (λ x. x ++ sent b j (box (with_box w p ms) i)) (lane-apart p q i j (with_box w p ms) (lane w p q ++ m ∷ []) other)
      ∙ ap (λ x. lane w i j ++ sent b j x) (get_or-set_other w.outboxes p i ms [] other)
]

-- Handle: nothing but the first letter of one link is gone
pub record Popped (f n : ℕ) (m : Message) (c : List Message) (w u : World) : Type 0 where
  pub was : lane w f n ≡ m ∷ c
  pub now : lane u f n ≡ c
  pub lanes : (i j : ℕ) → ((i ≡ f) × (j ≡ n) → ⊥) → lane u i j ≡ lane w i j

pub popped : (b l f n : ℕ) (w : World) (m : Message) (ms : List Message) → IsSized b l w → f < b + l → n < b + l → lane w f n ≡ m ∷ ms
    → Popped f n m ms w (with_lane w f n ms)
popped b l f n w m ms s hf hn is =
    record {
      was = is;
      now = lane-here b l f n w ms s hf hn;
      lanes = λ i j ne. elim (cases_eq i f) [
        | inr other ↦ lane-apart f n i j w ms other
        | inl same ↦ subst (λ k. lane (with_lane w f n ms) k j ≡ lane w k j) (sym same) (lane-row b l f n j w ms s hf (λ e. ne (same, e)))
      ];
    }
