use Rattle.std.proofs.Common.{◌≡◌, ℕ, ◌-◌, Bool, true, false, Option, Some, None, List, [], ◌∷◌, ◌++◌, refl, sym, ap, ◌∙◌, subst}
use Rattle.std.proofs.lemmas.Option.{slice_get_within}
use Rattle.std.specs.Prelude.{option_to_list, nat_lt, if◌then◌else◌}
use Rattle.dds_base.specs.Number.{Txn}
use Rattle.dds_base.specs.declared.number.CallNo.{CallNo}
use Rattle.dds_base.specs.declared.number.CallerNo.{CallerNo}
use Rattle.dds_base.specs.declared.op.Op.{Op}
use Rattle.dds_base.specs.declared.op.Reply.{Reply}
use Rattle.dds_books.specs.Calls.{LibraryIs}
use Rattle.dds_call_rows.specs.Library.{CallTurn, begin}
use Rattle.dds_cluster.specs.Turn.{WorldTurn, call_at, library_does, turn}
use Rattle.dds_cluster.specs.World.{World, library_at}
use Rattle.dds_cluster.specs.declared.step.Step.{Step}
use Rattle.dds_core.proofs.CallDoes.{new-begins}
use Rattle.dds_core.specs.LibraryTurn.{desk_of, input_turn, new_request, replies_of as replies_given}
use Rattle.dds_net.proofs.Nodes.{get-set-same, library-found, library-here, library-high, library-node}
use Rattle.dds_net.proofs.Ways.{NodeIs, is_brick, is_library, is_nowhere, node-is}
use Rattle.dds_net.specs.Event.{Event, unasked, moved, replies_of}
use Rattle.dds_net.specs.Law.{IsStepOf}
use Rattle.dds_net.specs.Net.{Net, Node, nowhere, a_brick, a_library, Sizes, net, node_at}
use Rattle.dds_states.specs.Turn.{LibraryTurn, no_out}
use Rattle.dds_states.specs.declared.library_state.LibraryState.{LibraryState}
use Rattle.dds_states.specs.declared.library_state.OpenCall.{OpenCall}
use Rattle.dds_due.proofs.CallMaps.{GoesOn, begin-finds, begins-on, is_answered, stays_open}
use Rattle.dds_due.proofs.Opened.{Heeded}
use Rattle.dds_due.specs.Opened.{FindsAll, NodeFinds}

-- A library that lives takes a call that comes to it: it opens the call or answers it. So what nobody takes came to none that lives.

the-library : (s u : LibraryState) → a_library s ≡ a_library u → s ≡ u
the-library s u e = cc

no-more : (xs : List OpenCall) (o : Option OpenCall) → xs ++ option_to_list o ≡ xs → o ≡ None
no-more xs None e = refl
no-more [] (Some x) e = cc
no-more (y ∷ xs) (Some x) e = no-more xs (Some x) (ap tail e)
  where
    tail : List OpenCall → List OpenCall
    tail [] = []
    tail (z ∷ zs) = zs

no-answer : (caller : ℕ) (call : CallNo) (txn : Txn) (o : Option Reply) → replies_given caller call txn o ≡ [] → o ≡ None
no-answer caller call txn None e = refl
no-answer caller call txn (Some r) e = cc

-- the node after a library's turn
does-node : (w : World) (at : ℕ) (s : LibraryState) (t : LibraryTurn) → library_at w at ≡ Some s → node_at (library_does w at t).world at ≡ a_library t.state
does-node w at s t e =
    let found = library-found w at s (nat_lt at 64) e in
    library-node (library_does w at t).world at t.state
    (library-here (library_does w at t).world at t.state (library-high w at s (nat_lt at 64) refl e)
    (get-set-same w.libraries (at - 64) t.state (slice_get_within w.libraries (at - 64) s found)))

-- a call at a library that lives changes the library, or is answered
takes-calls : (z : Sizes) (w : World) (at : ℕ) (caller : CallerNo) (call : CallNo) (o : Op) (s : LibraryState) → library_at w at ≡ Some s → s.stopped ≡ false
    → FindsAll s.map → (net z (call_at w at caller call o (library_at w at)).world).node at ≡ a_library s
    → (call_at w at caller call o (library_at w at)).replies ≡ [] → ⊥
takes-calls z w at caller call o s there live finds same none =
    let r = new_request caller call o in
    let d = desk_of s s.calls in
    let t = begin d r in
    let u = input_turn s r t in
    let is : call_at w at caller call o (library_at w at) ≡ library_does w at u =
    ap (call_at w at caller call o) there ∙ ap (λ b. library_does w at (if b then record { state = s; out = no_out } else u)) live in
    let after : u.state ≡ s =
    the-library u.state s (sym (does-node w at s u there) ∙ ap (λ x. node_at x at) (ap (λ (x : WorldTurn). x.world) (sym is)) ∙ same) in
    let no_call = no-more s.calls t.went.call (ap (λ (x : LibraryState). x.calls) after) in
    let no_reply = no-answer caller call (record { library = s.number; number = s.next }) t.went.reply
    (ap (λ (x : WorldTurn). x.replies) (sym is) ∙ none) in
    by (begins-on t (new-begins d r) (begin-finds d r finds)) no_call no_reply
  where
    by : {t : CallTurn} → GoesOn t → t.went.call ≡ None → t.went.reply ≡ None → ⊥
    by (stays_open x e) f g = let no : Some x ≡ None = sym e ∙ f in cc
    by (is_answered x e) f g = let no : Some x ≡ None = sym e ∙ g in cc

none-lives : (z : Sizes) (place : ℕ) (w : World) (at : ℕ) (caller : CallerNo) (call : CallNo) (o : Op) (x : Node) → node_at w at ≡ x → NodeFinds x
    → net z (call_at w at caller call o (library_at w at)).world ≡ net z w → (call_at w at caller call o (library_at w at)).replies ≡ []
    → LibraryIs (λ s. s.stopped ≡ true) x
none-lives z place w at caller call o nowhere e f same none = tt
none-lives z place w at caller call o (a_brick s) e f same none = tt
none-lives z place w at caller call o (a_library s) e f same none = by s.stopped refl (node-is w at)
  where
    by : (b : Bool) → s.stopped ≡ b → NodeIs w at → s.stopped ≡ true
    by true live is = live
    by false live (is_nowhere e2) = let no : nowhere ≡ a_library s = sym e2 ∙ e in cc
    by false live (is_brick u found e2) = let no : a_brick u ≡ a_library s = sym e2 ∙ e in cc
    by false live (is_library u found e2) =
        let is : u ≡ s = the-library u s (sym e2 ∙ e) in
        absurd (takes-calls z w at caller call o s (found ∙ ap Some is) live f (ap (λ (m : Net). m.node at) same ∙ e) none)

pub heeded : (z : Sizes) (place : ℕ) (w : World) (x : Step) (e : Event) → IsStepOf x e → net z (turn place w x).world ≡ moved z (net z w) e
    → (turn place w x).replies ≡ replies_of e → ((k : ℕ) → NodeFinds (node_at w k)) → Heeded (net z w) e
heeded z place w x (unasked at caller call o) is after replies finds =
    none-lives z place w at caller call o (node_at w at) refl (finds at) (subst (λ y. net z (turn place w y).world ≡ net z w) is after)
    (subst (λ y. (turn place w y).replies ≡ []) is replies)
heeded z place w x other is after replies finds = tt
