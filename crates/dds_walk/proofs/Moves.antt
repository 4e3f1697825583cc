-- The laws of picked events.
use Rattle.std.proofs.Common.{◌≡◌, ℕ, ◌+◌, ◌-◌, ◌<◌, true, false, zero, suc, refl, ap, sym, ◌∙◌, arith}
use Rattle.std.specs.Prelude.{is_some}
use Rattle.dds_walk.specs.Walk.{Moved, moves, event, after_event, on_event}
use Rattle.dds_walk.specs.declared.walk.Walk.{Walk}

pub moves-over : (made : ℕ) (w : Walk) → moves 0 made w ≡ record { walk = w; events = made }
unfolding moves
moves-over made w = refl

pub moves-suc : (n made : ℕ) (w : Walk) →
    moves (suc n) made w ≡ on_event (is_some (event w)) (record { walk = after_event w; events = made }) (moves n (made + 1) (after_event w))
unfolding moves
moves-suc n made w = refl

-- one event more
pub moves-one : (limit made : ℕ) (w : Walk) (whole : Moved) → made < limit → is_some (event w) ≡ true → moves (limit - made) made w ≡ whole →
    moves (limit - (made + 1)) (made + 1) (after_event w) ≡ whole
moves-one limit made w whole h e is =
    let n : limit - made ≡ suc (limit - (made + 1)) = omega (arith, h) in
    sym (moves-suc (limit - (made + 1)) made w
    ∙ ap (λ b. on_event b (record { walk = after_event w; events = made }) (moves (limit - (made + 1)) (made + 1) (after_event w))) e)
    ∙ ap (λ k. moves k made w) (sym n)
    ∙ is

-- no event is possible
pub moves-none : (limit made : ℕ) (w : Walk) (whole : Moved) → made < limit → is_some (event w) ≡ false → moves (limit - made) made w ≡ whole →
    whole ≡ record { walk = after_event w; events = made }
moves-none limit made w whole h e is =
    let n : limit - made ≡ suc (limit - (made + 1)) = omega (arith, h) in
    sym is
    ∙ ap (λ k. moves k made w) n
    ∙ moves-suc (limit - (made + 1)) made w
    ∙ ap (λ b. on_event b (record { walk = after_event w; events = made }) (moves (limit - (made + 1)) (made + 1) (after_event w))) e
