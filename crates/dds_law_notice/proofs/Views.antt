use Rattle.std.proofs.Common.{◌≡◌, ℕ, ◌-◌, ◌<◌, ◌==◌, ◌||◌, Bool, true, false, List, [], ◌∷◌, refl, ap, ◌∙◌}
use Rattle.std.proofs.lemmas.Bool.{both_ways, eq-eqb, ne_eqb, or_left}
use Rattle.std.proofs.lemmas.Nat.Bits.{bit_at-zero}
use Rattle.std.specs.Int.{bit_at}
use Rattle.std.specs.Prelude.{nat_lt, if◌then◌else◌}
use Rattle.dds_base.specs.NodeSet.{has_node, no_nodes, with_node}
use Rattle.dds_base.specs.declared.node_set.NodeSet.{NodeSet}
use Rattle.dds_base.specs.declared.number.CallerNo.{CallerNo}
use Rattle.dds_base.specs.declared.number.CallNo.{CallNo}
use Rattle.dds_base.specs.declared.number.NodeNo.{NodeNo}
use Rattle.dds_base.specs.declared.op.Met.{Met}
use Rattle.dds_base.specs.declared.op.Op.{Op}
use Rattle.dds_base.specs.declared.op.Order.{Order}
use Rattle.dds_call_rows.specs.Library.{CallTurn, begin}
use Rattle.dds_core.proofs.CallDoes.{ArePushes, Begins, CallDoes, aborts, call-does, commits, gets, looks, new-begins, prepares, tries}
use Rattle.dds_core.proofs.CallTurns.{library-keeps}
use Rattle.dds_core.proofs.Known.{has-with}
use Rattle.dds_core.proofs.LetterTells.{Says, heard, letter-tells}
use Rattle.dds_core.proofs.Lists.{all-append}
use Rattle.dds_core.proofs.OrderTells.{order-silent, order-tells}
use Rattle.dds_core.proofs.Tells.{NoNotices, Who, is_notice, no-notices, who}
use Rattle.dds_core.specs.Brick.{brick_input, live_brick_turn}
use Rattle.dds_core.specs.LibraryTurn.{desk_of, live_library_turn, new_request}
use Rattle.dds_letters.specs.declared.letter.Letter.{Letter}
use Rattle.dds_letters.specs.declared.letter.Letter.TheVariants as letter
use Rattle.dds_states.specs.Turn.{no_out, to_each}
use Rattle.dds_states.specs.declared.brick_state.BrickState.{BrickState}
use Rattle.dds_states.specs.declared.library_state.Desk.{Desk}
use Rattle.dds_states.specs.declared.library_state.LibraryState.{LibraryState}
use Rattle.dds_states.specs.declared.library_state.OpenCall.{OpenCall}
use Rattle.dds_states.specs.declared.library_state.Request.{Request}
use Rattle.dds_states.specs.declared.turn.CoreTurn.{CoreTurn}
use Rattle.dds_net.specs.Event.{asked_turn}
use Rattle.dds_net.specs.Net.{Node, nowhere, a_brick, a_library}

-- Whether a node has stopped and whom it knows, and what its turns do to that.

pub record View : Type 0 where
  pub stopped : Bool
  pub known : NodeSet

abbrev pub view : Node → View
view nowhere = record { stopped = false; known = no_nodes }
view (a_brick s) = record { stopped = s.stopped; known = s.known }
view (a_library s) = record { stopped = s.stopped; known = s.known }

abbrev pub knows : View → ℕ → Bool
knows v n = has_node v.known n

-- the sender of a notice is known afterwards
abbrev pub learns : NodeNo → Letter → View → View
learns from letter.Notice v = record { stopped = v.stopped; known = with_node v.known from }
learns from other v = v

-- a live node takes a letter, and a node does something of itself
pub record Takes (from : NodeNo) (l : Letter) (x y : Node) (ls : List (NodeNo × Letter)) : Type 0 where
  pub live : (view x).stopped ≡ false
  pub after : view y ≡ learns from l (view x)
  pub silent : NoNotices ls

pub record Does (x y : Node) (ls : List (NodeNo × Letter)) : Type 0 where
  pub after : view y ≡ view x
  pub silent : NoNotices ls
  pub still : (view x).stopped ≡ true → ls ≡ []

-- a brick's turn
abbrev of_who : Who → View
of_who w = record { stopped = w.stopped; known = w.known }

brick-heard : (s : BrickState) (from : NodeNo) (l : Letter) → of_who (who (heard s from l)) ≡ learns from l (view (a_brick s))
brick-heard s from letter.Notice = refl
brick-heard s from other = refl

pub brick-takes : (s : BrickState) (from : NodeNo) (l : Letter) → s.stopped ≡ false
    → Takes from l (a_brick s) (a_brick (live_brick_turn s from l).state) (live_brick_turn s from l).out.letters
brick-takes s from l live =
    let t = letter-tells s from l in record { live = live; after = ap of_who t.same ∙ brick-heard s from l; silent = no-notices (Says s from l) _ t.letters }

pub brick-does : (s : BrickState) (o : Order) → Does (a_brick s) (a_brick (brick_input s o).state) (brick_input s o).out.letters
brick-does s o =
    let t = order-tells {L = λ to m. ⊥} s o in record { after = ap of_who t.same; silent = no-notices (λ to m. ⊥) _ t.letters; still = order-silent s o }

-- a library's turn
each-silent : (ns : List NodeNo) (l : Letter) → is_notice l ≡ false → NoNotices (to_each ns l)
each-silent [] l h = tt
each-silent (n ∷ ns) l h = (h, each-silent ns l h)

begins-silent : {M : Met → Type 0} {d : Desk} {r : Request} (t : CallTurn) → Begins M d r t → NoNotices t.went.letters
begins-silent t (gets leaf m ms key e f g) = (refl, tt)
begins-silent t (prepares leaf m ms e f g) = each-silent (m ∷ ms) _ refl
begins-silent t (looks m n ns e h) = each-silent (n ∷ ns) _ refl
begins-silent t other = tt

pushes-silent : (ls : List (NodeNo × Letter)) → ArePushes ls → NoNotices ls
pushes-silent [] h = tt
pushes-silent ((to, letter.Push leaf) ∷ ls) h = (refl, pushes-silent ls h)
pushes-silent (other ∷ ls) h = absurd h

call-silent : {d : Desk} {c : OpenCall} {from : NodeNo} {l : Letter} (t : CallTurn) → CallDoes d c from l t → NoNotices t.went.letters
call-silent t (tries map retries pushed ls u h b) = all-append _ ls u.went.letters (pushes-silent ls h) (begins-silent u b)
call-silent t (commits leaf list waiting e h f) = each-silent _ _ refl
call-silent t (aborts leaf list waiting txn why e h f) = each-silent _ _ refl
call-silent t other = tt

-- what a library keeps while its calls have their turns
record IsSilent (v : View) (s : LibraryState) (out : CoreTurn) : Type 0 where
  same : view (a_library s) ≡ v
  letters : NoNotices out.letters

library-heard : (s : LibraryState) (from : NodeNo) (l : Letter) → IsSilent (learns from l (view (a_library s)))
    (Rattle.dds_core.proofs.CallTurns.heard s from l) no_out
library-heard s from letter.Notice = record { same = refl; letters = tt }
library-heard s from other = record { same = refl; letters = tt }

pub library-takes : (s : LibraryState) (from : NodeNo) (l : Letter) → s.stopped ≡ false
    → Takes from l (a_library s) (a_library (live_library_turn s from l).state) (live_library_turn s from l).out.letters
library-takes s from l live =
    let v = learns from l (view (a_library s)) in
    let k = library-keeps (IsSilent v) s from l (λ u out place c e w h. record {
      same = h.same;
      letters = all-append _ out.letters _ h.letters
          (call-silent _ (call-does _ c from l));
    }) (library-heard s from l) in
    record { live = live; after = k.same; silent = k.letters }

pub library-does : (s : LibraryState) (caller : CallerNo) (call : CallNo) (o : Op) → s.stopped ≡ false
    → Does (a_library s) (a_library (asked_turn s caller call o).state) (asked_turn s caller call o).out.letters
library-does s caller call o live =
    let r = new_request caller call o in
    record {
      after = refl;
      silent = begins-silent (begin (desk_of s s.calls) r) (new-begins (desk_of s s.calls) r);
      still = λ e. absurd
          (both_ways s.stopped live e);
    }

-- an empty set
none-if : (n : ℕ) (c : Bool) → (if c then bit_at 0 n == 1 else bit_at 0 (n - 64) == 1) ≡ false
none-if n true = rw (bit_at-zero n) refl
none-if n false = rw (bit_at-zero (n - 64)) refl

pub none-known : (n : ℕ) → has_node no_nodes n ≡ false
none-known n = none-if n (nat_lt n 64)

pub knows-sender : (from : ℕ) (l : Letter) (v : View) → from < 80 → knows (learns from l v) from ≡ (if is_notice l then true else knows v from)
knows-sender from letter.Notice v h = has-with v.known from from h ∙ or_left (from == from) (has_node v.known from) (eq-eqb from from refl)
knows-sender from other v h = refl

pub knows-other : (from other : ℕ) (l : Letter) (v : View) → from < 80 → (other ≡ from → ⊥) → knows (learns from l v) other ≡ knows v other
knows-other from other letter.Notice v h ne = has-with v.known from other h ∙ ap (λ b. b || has_node v.known other) (ne_eqb other from ne)
knows-other from other l v h ne = refl

pub same-stopped : (from : ℕ) (l : Letter) (v : View) → (learns from l v).stopped ≡ v.stopped
same-stopped from letter.Notice v = refl
same-stopped from other v = refl
