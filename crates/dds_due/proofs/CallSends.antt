use Rattle.std.proofs.Common.{◌≡◌, ℕ, ◌==◌, inl, true, false, not, Some, None, List, [], ◌∷◌, ◌++◌, refl, sym, ap, ◌∙◌, subst}
use Rattle.std.proofs.lemmas.Bool.{and_parts, eqb-true}
use Rattle.dds_base.specs.BrickList.{has}
use Rattle.dds_base.specs.Op.{the_key}
use Rattle.dds_base.specs.declared.number.NodeNo.{NodeNo}
use Rattle.dds_base.specs.declared.op.Met.{Met}
use Rattle.dds_call_rows.specs.Library as rows
use Rattle.dds_call_rows.specs.Library.{CallTurn, call_concerns}
use Rattle.dds_core.proofs.CallDoes.{Begins, CallDoes, aborts, applies, commits, gets, idles, looks}
use Rattle.dds_core.proofs.CallDoes.{prepares, tries, votes, waits_aborted, waits_told}
use Rattle.dds_core.proofs.Lists.{this-one}
use Rattle.dds_letters.specs.declared.letter.Letter.{Letter}
use Rattle.dds_letters.specs.declared.letter.Letter.TheVariants as letter
use Rattle.dds_letters.specs.declared.refusal.Denial.{Denial}
use Rattle.dds_net.specs.Net.{Sizes, gains, is_in}
use Rattle.dds_states.specs.Turn.{to_each, unknown, without}
use Rattle.dds_states.specs.declared.library_state.Desk.{Desk}
use Rattle.dds_states.specs.declared.library_state.OpenCall.{OpenCall}
use Rattle.dds_states.specs.declared.library_state.Phase.{Phase}
use Rattle.dds_states.specs.declared.library_state.Phase.TheVariants as phase
use Rattle.dds_states.specs.declared.library_state.Request.{Request}
use Rattle.dds_talk.proofs.Letters.{has-without}
use Rattle.dds_talk.proofs.Parts.{same-self}
use Rattle.dds_talk.specs.Seen.{commits_now}
use Rattle.dds_due.proofs.Lists.{one-end}
use Rattle.dds_due.proofs.Sent.{IsSentTo, Sends, due-by-asked, due-out, gains-has, sends-each, there-end}
use Rattle.dds_due.specs.Due.{IsDue, asked_in, is_of}

-- One call's turn: where the call waits for a brick afterwards, it did so before, or asks it in this turn. (A call that commits is left out:
-- that is in the conversations.)

-- of a call that doesn't commit and waits for this brick
abbrev pub DueTo : ℕ → OpenCall → List Letter → List Letter → Type 0
DueTo m c out back = call_concerns c.phase m ≡ true → commits_now c.phase ≡ false → IsDue c out back

-- the call asks it in this turn
abbrev pub Asks : ℕ → List (NodeNo × Letter) → OpenCall → Type 0
Asks m ls x = call_concerns x.phase m ≡ true → commits_now x.phase ≡ false → Sends (asked_in x.phase) x.txn m ls

asks-each : (m : ℕ) (ns : List NodeNo) (l : Letter) (x : OpenCall) → call_concerns x.phase m ≡ has ns m
    → asked_in x.phase l ≡ Some x.txn → Asks m (to_each ns l) x
asks-each m ns l x e is waits going =
    sends-each (asked_in x.phase) x.txn m ns l (sym e ∙ waits) (ap (is_of x.txn) is ∙ same-self x.txn)

begins-asks : {M : Met → Type 0} {d : Desk} {r : Request} (m : ℕ) (t : CallTurn) (x : OpenCall) → Begins M d r t → t.went.call ≡ Some x
    → Asks m t.went.letters x
begins-asks {d = d} {r = r} m _ x (gets leaf n ns key e f g) is =
    let b = rows.got_from (n ∷ ns) r in
    this-one (Asks m ((b, letter.Get (rows.next_txn d) r.caller r.call key leaf.name leaf.stamp) ∷ []))
    (record { request = r; txn = rows.next_txn d; phase = phase.Getting leaf b }) x is
    (λ waits going. inl (record { to = eqb-true b m waits; of = same-self (rows.next_txn d) }))
begins-asks {d = d} {r = r} m _ x (prepares leaf n ns e f g) is =
    let l = letter.Prepare (rows.next_txn d) r.caller r.call (rows.below d) leaf.name leaf.stamp (n ∷ ns) r.op in
    let y : OpenCall = record { request = r; txn = rows.next_txn d; phase = phase.Preparing leaf (n ∷ ns) (n ∷ ns) } in
    this-one (Asks m (to_each (n ∷ ns) l)) y x is (asks-each m (n ∷ ns) l y refl refl)
begins-asks {d = d} {r = r} m _ x (looks met n ns e h) is =
    let l = letter.MapAsk (rows.next_txn d) r.caller r.call (the_key r.op) in
    let y : OpenCall = record { request = rows.retried r; txn = rows.next_txn d; phase = phase.Asking (n ∷ ns) None met } in
    this-one (Asks m (to_each (n ∷ ns) l)) y x is (asks-each m (n ∷ ns) l y refl refl)
begins-asks m _ x other is = cc

asks-due : (z : Sizes) (m : ℕ) (x : OpenCall) (ls : List (NodeNo × Letter)) (out back : List Letter) → is_in z m ≡ true → Asks m ls x
    → DueTo m x (out ++ gains z ls m) back
asks-due z m x ls out back inside h waits going =
    due-by-asked x (out ++ gains z ls m) back
    (there-end (asked_in x.phase) x.txn out (gains z ls m) (gains-has z (asked_in x.phase) x.txn m ls inside (h waits going)))

-- some of those that were waited for
pub has-fewer : (xs : List ℕ) (n m : ℕ) → has (without xs n) m ≡ true → has xs m ≡ true
has-fewer xs n m e = (and_parts (has xs m) (not (m == n)) (sym (has-without xs n m) ∙ e)).0

-- the call in this phase
in-phase : (m : ℕ) (c : OpenCall) (p : Phase) (out back : List Letter) → c.phase ≡ p → DueTo m c out back → DueTo m (record c { phase = p }) out back
in-phase m c p out back e h = subst (λ q. DueTo m (record c { phase = q }) out back) e h

pub more-due : (m : ℕ) (c : OpenCall) (out more back : List Letter) → DueTo m c out back → DueTo m c (out ++ more) back
more-due m c out more back h waits going = due-out c out more back (h waits going)

aborts-asks : (m : ℕ) (c : OpenCall) (ns : List NodeNo) (why : Denial) (brick : NodeNo) →
    Asks m (to_each ns (letter.Abort c.txn)) (record c { phase = phase.Aborting ns why brick })
aborts-asks m c ns why brick = asks-each m ns (letter.Abort c.txn) (record c { phase = phase.Aborting ns why brick }) refl refl

asks-behind : (m : ℕ) (ls more : List (NodeNo × Letter)) (x : OpenCall) → Asks m more x → Asks m (ls ++ more) x
asks-behind m ls more x h waits going = one-end (IsSentTo (asked_in x.phase) x.txn m) ls more (h waits going)

pub does-due : {d : Desk} {from : NodeNo} {l : Letter} (z : Sizes) (m : ℕ) (c x : OpenCall) (t : CallTurn) (out back : List Letter) → is_in z m ≡ true
    → CallDoes d c from l t → t.went.call ≡ Some x → DueTo m c out back → DueTo m x (out ++ gains z t.went.letters m) back
does-due {d = d} z m c x _ out back inside (tries map retries pushed ls t h b) is due =
    asks-due z m x (ls ++ t.went.letters) out back inside (asks-behind m ls t.went.letters x (begins-asks m t x b is))
does-due {d = d} {from = from} z m c x _ out back inside (aborts leaf list waiting txn why e f g) is due =
    let ns = unknown list d.known in
    this-one (λ y. DueTo m y (out ++ gains z (to_each ns (letter.Abort c.txn)) m) back) _ x is
    (asks-due z m (record c { phase = phase.Aborting ns why from }) (to_each ns (letter.Abort c.txn)) out back inside (aborts-asks m c ns why from))
does-due {d = d} z m c x _ out back inside (commits leaf list waiting e f g) is due =
    let ns = unknown list d.known in
    this-one (λ y. DueTo m y (out ++ gains z (to_each ns (letter.Commit c.txn)) m) back) _ x is (λ waits going. cc)
does-due z m c x _ out back inside (applies leaf list waiting was next e f) is due =
    this-one (λ y. DueTo m y (out ++ gains z [] m) back) _ x is (λ waits going. cc)
does-due z m c x _ out back inside idles is due =
    this-one (λ y. DueTo m y (out ++ gains z [] m) back) c x is (more-due m c out (gains z [] m) back due)
does-due {from = from} z m c x _ out back inside (votes leaf list waiting e f g) is due =
    let old = in-phase m c (phase.Preparing leaf list waiting) out back e due in
    this-one (λ y. DueTo m y (out ++ gains z [] m) back) _ x is
    (more-due m (record c { phase = phase.Preparing leaf list (without waiting from) }) out (gains z [] m) back
    (λ waits going. old (has-fewer waiting from m waits) refl))
does-due {from = from} z m c x _ out back inside (waits_aborted waiting why brick e f) is due =
    let old = in-phase m c (phase.Aborting waiting why brick) out back e due in
    this-one (λ y. DueTo m y (out ++ gains z [] m) back) _ x is
    (more-due m (record c { phase = phase.Aborting (without waiting from) why brick }) out (gains z [] m) back
    (λ waits going. old (has-fewer waiting from m waits) refl))
does-due {from = from} z m c x _ out back inside (waits_told waiting newest next met e f) is due =
    let old = in-phase m c (phase.Asking waiting newest met) out back e due in
    this-one (λ y. DueTo m y (out ++ gains z [] m) back) _ x is
    (more-due m (record c { phase = phase.Asking (without waiting from) next met }) out (gains z [] m) back
    (λ waits going. old (has-fewer waiting from m waits) refl))
does-due z m c x _ out back inside other is due = cc

pub begins-due : {M : Met → Type 0} {d : Desk} {r : Request} (z : Sizes) (m : ℕ) (x : OpenCall) (t : CallTurn) (out back : List Letter) → is_in z m ≡ true
    → Begins M d r t → t.went.call ≡ Some x → DueTo m x (out ++ gains z t.went.letters m) back
begins-due z m x t out back inside b is = asks-due z m x t.went.letters out back inside (begins-asks m t x b is)
