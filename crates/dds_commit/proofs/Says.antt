use Rattle.std.proofs.Common.{◌≡◌, ℕ, ◌≤◌, ◌==◌, Bool, true, false, Option, Some, None, List, [], ◌∷◌, refl, sym, ap, ◌∙◌, subst, arith, cond}
use Rattle.std.proofs.lemmas.Bool.Decides.{nat_tests}
use Rattle.std.specs.List.{AllByRecursion}
use Rattle.std.specs.Prelude.{if◌then◌else◌}
use Rattle.dds_base.specs.Number.{Txn, same_txn}
use Rattle.dds_base.specs.declared.number.NodeNo.{NodeNo}
use Rattle.dds_books.proofs.Booking.{took-lists}
use Rattle.dds_books.proofs.Entries.{told-is}
use Rattle.dds_books.proofs.Fine.{AllSaid}
use Rattle.dds_books.proofs.LibraryTurns.{input-served, letter-served}
use Rattle.dds_books.proofs.Listing.{AllOpened, LetterOpened, input-lists}
use Rattle.dds_books.specs.Books.{Book, Entry, NodeListed, open_entry, tells}
use Rattle.dds_books.specs.Placed as placed
use Rattle.dds_core.proofs.Lists.{all-both, all-map}
use Rattle.dds_core.specs.LibraryTurn.{live_library_turn}
use Rattle.dds_letters.specs.declared.letter.Letter.{Letter}
use Rattle.dds_letters.specs.declared.letter.Letter.TheVariants as letter
use Rattle.dds_net.proofs.Letters.{first-all}
use Rattle.dds_net.proofs.Places.{node-below}
use Rattle.dds_net.specs.Event.{Event, library_takes, library_asked, Fits}
use Rattle.dds_net.specs.Event.{History, asked_turn, moved}
use Rattle.dds_net.specs.Net.{Net, a_library, Sizes}
use Rattle.dds_states.specs.declared.library_state.LibraryState.{LibraryState}
use Rattle.dds_states.specs.declared.library_state.OpenCall.{OpenCall}
use Rattle.dds_states.specs.declared.library_state.Phase.{Phase}
use Rattle.dds_states.specs.declared.library_state.Phase.TheVariants as phase
use Rattle.dds_states.specs.declared.library_state.Request.{Request}
use Rattle.dds_resolve.specs.Team.{LetterOk}
use Rattle.dds_resolve.specs.Teams.{SaysOf, ground}
use Rattle.dds_talk.proofs.Changes.{put-here}
use Rattle.dds_talk.proofs.Groups.{group-of}
use Rattle.dds_talk.proofs.Turns.{found-is}
use Rattle.dds_talk.specs.Books as talk
use Rattle.dds_talk.specs.Parts.{Commit, IsFor, LibraryOk}
use Rattle.dds_talk.specs.Seen.{call_of}
use Rattle.dds_commit.proofs.Low.{Low}

-- What a library sends: a prepare has the members that the books have of its attempt.

-- the open call that a prepare is of, and what it tells
record Opened (cs : List OpenCall) (t : Txn) (e : Entry) : Type 0 where
  call : OpenCall
  found : call_of cs t ≡ Some call
  told : tells call.request call.phase ≡ Some e

found-first : (b : Bool) (c : OpenCall) (cs : List OpenCall) (t : Txn) (e : Entry) → (c.txn.number == t.number) ≡ b → same_txn c.txn t ≡ b
    → (open_entry cs t.number ≡ Some e → Opened cs t e) → open_entry (c ∷ cs) t.number ≡ Some e → Opened (c ∷ cs) t e
found-first true c cs t e i s rest h =
    record {
      call = c;
      found = ap (λ x. cond x (Some c) (call_of cs t)) s;
      told = sym (ap (λ x. if x then tells c.request c.phase else open_entry cs t.number) i) ∙ h;
    }
found-first false c cs t e i s rest h =
    let o = rest (sym (ap (λ x. if x then tells c.request c.phase else open_entry cs t.number) i) ∙ h) in
    record { call = o.call; found = ap (λ x. cond x (Some c) (call_of cs t)) s ∙ o.found; told = o.told }

same-numbers : (a t : Txn) → a.library ≡ t.library → same_txn a t ≡ (a.number == t.number)
same-numbers a t e = grind (arith, nat_tests, e)

opened-call : (cs : List OpenCall) (number : ℕ) (t : Txn) (e : Entry) → AllByRecursion (λ (c : OpenCall). c.txn.library ≡ number) cs → t.library ≡ number
    → open_entry cs t.number ≡ Some e → Opened cs t e
opened-call [] number t e all own h = cc
opened-call (c ∷ cs) number t e all own h =
    found-first (c.txn.number == t.number) c cs t e refl (same-numbers c.txn t (all.0 ∙ sym own)) (λ i. opened-call cs number t e all.1 own i) h

-- its members are the books'
fitting-list : (members list books : List ℕ) (o : Option (List ℕ)) → o ≡ Some list → o ≡ Some members → members ≡ books → books ≡ list
fitting-list members list books o e f g = let same : members ≡ list = some-is (sym f ∙ e) in sym g ∙ same
  where
    some-is : {x y : List ℕ} → Some x ≡ Some y → x ≡ y
    some-is e = cc

none-list : (o : Option (List ℕ)) (list : List ℕ) → o ≡ Some list → o ≡ None → ⊥
none-list o list e f = let bad : Some list ≡ None = sym e ∙ f in cc

phase-list : (r : Request) (p : Phase) (e : Entry) (list books : List ℕ) → tells r p ≡ Some e → e.list ≡ Some list → IsFor books p → books ≡ list
phase-list r (phase.Getting leaf brick) e list books h k f = absurd (none-list e.list list k (told-is r (phase.Getting leaf brick) e h).fits)
phase-list r (phase.Preparing leaf members waiting) e list books h k f =
    fitting-list members list books e.list k (told-is r (phase.Preparing leaf members waiting) e h).fits f
phase-list r (phase.Committing leaf members waiting was) e list books h k f =
    fitting-list members list books e.list k (told-is r (phase.Committing leaf members waiting was) e h).fits f
phase-list r (phase.Aborting waiting why brick) e list books h k f = cc
phase-list r (phase.Asking waiting newest met) e list books h k f = absurd (none-list e.list list k (told-is r (phase.Asking waiting newest met) e h).fits)

module _ (z : Sizes) (few : z.bricks ≤ 64) (n : Net) (b : talk.Books) (at : ℕ) (s : LibraryState) (high : 64 ≤ at) (ok : LibraryOk z b at s)
    (own : AllByRecursion (λ (c : OpenCall). c.txn.library ≡ s.number) s.calls) where
  -- a library sends no letters of bricks
  no-brick : (to : ℕ) → placed.IsBetween z at to → ⊥
  no-brick to h = let low = h.sender in omega (arith, low, few, high)

  letter-fits : (T : Txn → Type 0) (from next to : ℕ) (l : Letter) → placed.Said T z at to l → LetterOpened s.number from next s.calls l
      → LetterOk (ground z n b.list) at to l
  letter-fits T from next to (letter.Prepare txn caller call below name stamp list op) k h =
      let e : Entry = record { caller = caller; call = call; op = op; list = Some list } in
      let o = opened-call s.calls s.number txn e own h.library h.told in
      let is : o.call.txn ≡ txn = found-is s.calls txn o.call o.found in
      record {
        listed = phase-list o.call.request o.call.phase e list (b.list txn) o.told refl
            (subst (λ t. IsFor (b.list t) o.call.phase) is (ok.calls txn o.call o.found).list);
        inside = (group-of z list few k.1.bricks k.1.apart).inside;
        member = k.2;
      }
  letter-fits T from next to (letter.Help txn list) k h = absurd (no-brick to k.0)
  letter-fits T from next to (letter.Query txn list) k h = absurd (no-brick to k.0)
  letter-fits T from next to (letter.Status txn status) k h = absurd (no-brick to k.0)
  letter-fits T from next to (letter.Outcome txn commit) k h = absurd (no-brick to k.0)
  letter-fits T from next to other k h = tt

  pub all-fit : (T : Txn → Type 0) (from next : ℕ) (ls : List (NodeNo × Letter)) → AllSaid T z at ls → AllOpened s.number from next s.calls ls
      → AllByRecursion (λ (p : NodeNo × Letter). LetterOk (ground z n b.list) at p.0 p.1) ls
  all-fit T from next ls k h =
      all-map (λ (p : NodeNo × Letter). placed.Said T z at p.0 p.1 × LetterOpened s.number from next s.calls p.1)
      (λ (p : NodeNo × Letter). LetterOk (ground z n b.list) at p.0 p.1) ls (λ p q. letter-fits T from next p.0 p.1 q.0 q.1)
      (all-both (λ (p : NodeNo × Letter). placed.Said T z at p.0 p.1) (λ (p : NodeNo × Letter). LetterOpened s.number from next s.calls p.1) ls k h)

-- at each event
pub says-of : (z : Sizes) (h : History) (n : Net) (e : Event) (a : Book) (b : talk.Books) → z.bricks ≤ 64 → z.libraries ≤ 16 → Fits z h.callers n e
    → Low z h n a → Commit z (moved z n e) b → SaysOf (ground z (moved z n e) b.list) e
says-of z h n (library_takes at from l s) a b few some f low after =
    let e = library_takes at from l s in
    let r = live_library_turn s from l in
    let own : placed.LibraryOk z at s = subst (placed.NodeOk (placed.Made n) z at) f.here (low.2.nodes at) in
    let k = first-all (placed.LetterOk (placed.Made n) z from at) z n at from l f.letter (low.2.letters from at) in
    let served = letter-served (placed.Made n) s from l (node-below z from few some f.letter.sender) own k in
    let lists = took-lists z n a at from l s low.2 low.3 f.here k in
    all-fit z few (moved z n e) b at r.state own.high (after.calls at r.state (put-here at (a_library r.state) n.node)) lists.libraries _ _ _ r.out.letters
    served.letters lists.letters
says-of z h n (library_asked at caller call o s) a b few some f low after =
    let e = library_asked at caller call o s in
    let r = asked_turn s caller call o in
    let own : placed.LibraryOk z at s = subst (placed.NodeOk (placed.Made n) z at) f.here (low.2.nodes at) in
    let served = input-served s caller call o own in
    let lists = input-lists a z at s caller call o own (subst (NodeListed a at) f.here (low.3.nodes at)).calls in
    all-fit z few (moved z n e) b at r.state own.high (after.calls at r.state (put-here at (a_library r.state) n.node)) lists.libraries _ _ _ r.out.letters
    served.letters lists.letters
says-of z h n other a b few some f low after = tt
