use Rattle.std.proofs.Common.{◌≡◌, ℕ, zero, suc, ◌+◌, ◌-◌, ◌≤◌, ◌&&◌, ◌++◌, Bool, true, false, Option, Some, None, List, [], refl, ap, ◌∙◌, arith}
use Rattle.std.proofs.lemmas.Bool.Decides.{nat_tests}
use Rattle.std.specs.Prelude.{nat_lt, replicate, slice_get, slice_index_or, if◌then◌else◌}
use Rattle.dds_base.specs.declared.number.CallNo.{CallNo}
use Rattle.dds_script.specs.Opening.{OpeningOf}
use Rattle.dds_states.specs.declared.library_state.LibraryState.{LibraryState}
use Rattle.dds_cluster.specs.Trace.{new_callers, start}
use Rattle.dds_cluster.specs.World.{new_brick, new_bricks, new_library, new_libraries}
use Rattle.dds_cluster.specs.declared.step.Message.{Message}
use Rattle.dds_cluster.specs.declared.trace.Caller.{Caller}
use Rattle.dds_net.specs.Net.{Node, nowhere, a_brick, a_library, channel, is_in, letters_of, net, node_in, place_in, sent, sizes_of, when_in}

-- The nodes and channels before the first step.

pub data IsNew (o : OpeningOf) (n : ℕ) (x : Node) : Type 0 where
  no_node : x ≡ nowhere → IsNew o n x
  new_a_brick : x ≡ a_brick (new_brick o.leaves n) → IsNew o n x
  new_a_library : 64 ≤ n → x ≡ a_library (new_library o (n - 64)) → IsNew o n x

bricks-new : (o : OpeningOf) (c first i n : ℕ) (y : Option LibraryState) → first + i ≡ n → IsNew o n (node_in None y)
    → IsNew o n (node_in (slice_get (new_bricks o.leaves c first) i) y)
bricks-new o zero first i n y e h = h
bricks-new o (suc c) first zero n y e h = let k : first ≡ n = omega (arith, e) in new_a_brick (ap (λ j. a_brick (new_brick o.leaves j)) k)
bricks-new o (suc c) first (suc i) n y e h = bricks-new o c (first + 1) i n y (omega (arith, e)) h

libraries-new : (o : OpeningOf) (c first i n : ℕ) → 64 ≤ n → first + i ≡ n - 64 → IsNew o n (node_in None (slice_get (new_libraries o c first) i))
libraries-new o zero first i n high e = no_node refl
libraries-new o (suc c) first zero n high e = let k : first ≡ n - 64 = omega (arith, e) in new_a_library high (ap (λ j. a_library (new_library o j)) k)
libraries-new o (suc c) first (suc i) n high e = libraries-new o c (first + 1) i n high (omega (arith, e))

new-if : (o : OpeningOf) (n : ℕ) (low : Bool) → nat_lt n 64 ≡ low
    → IsNew o n (node_in (if low then slice_get (new_bricks o.leaves o.bricks 0) n else None)
    (if low then None else slice_get (new_libraries o o.libraries 0) (n - 64)))
new-if o n true e = bricks-new o o.bricks 0 n n None (omega arith) (no_node refl)
new-if o n false e = libraries-new o o.libraries 0 (n - 64) n (grind (arith, nat_tests, e)) (omega arith)

pub start-node : (o : OpeningOf) (n : ℕ) → IsNew o n ((net (sizes_of o) (start o).world).node n)
start-node o n = new-if o n (nat_lt n 64) refl

-- nothing is on its way
nothing-there : {X : Type 0} (n i : ℕ) (d : X) → slice_index_or (replicate n d) i d ≡ d
nothing-there zero i d = refl
nothing-there (suc n) zero d = refl
nothing-there (suc n) (suc i) d = nothing-there n i d

abbrev no_messages : List Message
no_messages = []

nothing-on : (n m i j : ℕ) → slice_index_or (slice_index_or (replicate n (replicate m no_messages)) i []) j no_messages ≡ no_messages
nothing-on zero m i j = refl
nothing-on (suc n) m zero j = nothing-there m j []
nothing-on (suc n) m (suc i) j = nothing-on n m i j

nothing-sent : (o : OpeningOf) (i j : ℕ) → channel (start o).world o.bricks i j ≡ []
nothing-sent o i j =
    ap (λ x. x ++ sent o.bricks j (slice_index_or (replicate (o.bricks + o.libraries) []) i []))
    (nothing-on (o.bricks + o.libraries) (o.bricks + o.libraries) i j)
    ∙ ap (sent o.bricks j) (nothing-there (o.bricks + o.libraries) i [])

when-empty : (c : Bool) → when_in c [] ≡ []
when-empty true = refl
when-empty false = refl

pub start-channel : (o : OpeningOf) (a b : ℕ) → (net (sizes_of o) (start o).world).channel a b ≡ []
start-channel o a b =
    ap (λ ms. when_in (is_in (sizes_of o) a && is_in (sizes_of o) b) (letters_of ms)) (nothing-sent o (place_in o.bricks a) (place_in o.bricks b))
    ∙ when-empty (is_in (sizes_of o) a && is_in (sizes_of o) b)

-- no caller has a call open
pub no-call-open : (libraries k n i : ℕ) (x : Caller) (call : CallNo) → slice_get (new_callers libraries k n) i ≡ Some x → x.call ≡ Some call → ⊥
no-call-open libraries zero n i x call e f = cc
no-call-open libraries (suc k) n zero x call e f =
    let no : None ≡ Some call = ap call_then e ∙ f in
    cc
  where
    call_then : Option Caller → Option CallNo
    call_then None = None
    call_then (Some y) = y.call
no-call-open libraries (suc k) n (suc i) x call e f = no-call-open libraries k (n + 1) i x call e f
