use Rattle.std.proofs.Common.{◌≡◌, ℕ, ◌&&◌, ◌⊎◌, inl, inr, true, not, Option, Some, None, List, [], ◌∷◌, sym, ap, ◌∙◌}
use Rattle.std.proofs.lemmas.Bool.{cases_Bool}
use Rattle.std.specs.List.{AllByRecursion, remove}
use Rattle.dds_base.specs.BrickList.{has}
use Rattle.dds_base.specs.NodeSet.{has_node}
use Rattle.dds_base.specs.Op.{the_key}
use Rattle.dds_base.specs.declared.node_set.NodeSet.{NodeSet}
use Rattle.dds_base.specs.declared.number.CallNo.{CallNo}
use Rattle.dds_base.specs.declared.number.NodeNo.{NodeNo}
use Rattle.dds_base.specs.declared.op.Met.{Met}
use Rattle.dds_base.specs.declared.op.Op.{Op}
use Rattle.dds_call_rows.specs.Library as rows
use Rattle.dds_call_rows.specs.Library.{CallTurn}
use Rattle.dds_core.proofs.CallDoes.{ArePushes, Begins, CallDoes, aborts, call-does, commits, gets, looks, new-begins, prepares, tries}
use Rattle.dds_core.proofs.CallTurns.{OneKeeps, heard, library-keeps}
use Rattle.dds_core.proofs.Lists.{all-append, all-is, all-put, all-taken}
use Rattle.dds_core.proofs.Tells.{Sends, Sent}
use Rattle.dds_core.specs.LibraryTurn.{call_row, desk_of, live_library_turn, new_request, put_back}
use Rattle.dds_groups.proofs.Members.{has-live}
use Rattle.dds_law_leaf.proofs.Book.{Book, InCall, InLetter, InLibrary, InMap, Known, body}
use Rattle.dds_law_leaf.proofs.Calls.{InSome, begin, call-has}
use Rattle.dds_law_leaf.proofs.Maps.{each-is, in-for}
use Rattle.dds_letters.specs.declared.letter.Letter.{Letter}
use Rattle.dds_letters.specs.declared.letter.Letter.TheVariants as letter
use Rattle.dds_net.specs.Event.{asked_turn}
use Rattle.dds_states.specs.Leaf.{leaf_for}
use Rattle.dds_states.specs.Turn.{to_each, unknown}
use Rattle.dds_states.specs.declared.library_state.Desk.{Desk}
use Rattle.dds_states.specs.declared.library_state.LibraryState.{LibraryState}
use Rattle.dds_states.specs.declared.library_state.OpenCall.{OpenCall}
use Rattle.dds_states.specs.declared.library_state.Request.{Request}
use Rattle.dds_states.specs.declared.turn.CoreTurn.{CoreTurn}
use Rattle.dds_pending.proofs.Fits.{PrepareOk}

-- The Prepares that a library sends: their lists are those of the leaves without the members that the library knows to have stopped.
-- A brick sends none.

pub has-unknown : (list : List NodeNo) (known : NodeSet) (n : ℕ) → has list n ≡ true → (has (unknown list known) n ≡ true) ⊎ (has_node known n ≡ true)
has-unknown list known n h = elim (cases_Bool (has_node known n)) [
  | inl e ↦ inr e
  | inr e ↦ inl (has-live list (has_node known) n ∙ ap (λ c. c && not (has_node known n)) h ∙ ap not e)
]

module _ (b : Book) (gone : ℕ → Type 0) where
  abbrev pub AreOk : List (NodeNo × Letter) → Type 0
  AreOk ls = AllByRecursion (λ (p : NodeNo × Letter). PrepareOk b gone p.1) ls

  abbrev pub Knows : NodeSet → Type 0
  Knows known = (n : ℕ) → has_node known n ≡ true → gone n

  each : (ns : List NodeNo) (l : Letter) → PrepareOk b gone l → AreOk (to_each ns l)
  each [] l h = tt
  each (n ∷ ns) l h = (h, each ns l h)

  begins-ok : {M : Met → Type 0} {d : Desk} {r : Request} (t : CallTurn) → Knows d.known → InMap (Known b) t.desk.map → Begins M d r t
      → AreOk t.went.letters
  begins-ok t k m (gets leaf n ns key e f g) = (tt, tt)
  begins-ok {d = d} {r = r} t k m (prepares leaf n ns e f g) =
      let known : Known b leaf = each-is (Known b) (leaf_for d.map (the_key r.op)) leaf e (in-for (Known b) d.map (the_key r.op) m) in
      each (n ∷ ns) (letter.Prepare (rows.next_txn d) r.caller r.call (rows.below d) leaf.name leaf.stamp (n ∷ ns) r.op) (record {
        body = body leaf;
        there = known;
        lists = λ i h. elim (has-unknown leaf.list d.known i h) [
          | inl x ↦ inl (sym (ap (λ ms. has ms i) f) ∙ x)
          | inr x ↦ inr (k i x)
        ];
      })
  begins-ok t k m (looks x n ns e h) = each (n ∷ ns) _ tt
  begins-ok t k m other = tt

  pushes-ok : (ls : List (NodeNo × Letter)) → ArePushes ls → AreOk ls
  pushes-ok [] h = tt
  pushes-ok ((to, letter.Push leaf) ∷ ls) h = (tt, pushes-ok ls h)
  pushes-ok (other ∷ ls) h = absurd h

  call-ok : {d : Desk} {c : OpenCall} {from : NodeNo} {l : Letter} (t : CallTurn) → Knows d.known → InMap (Known b) t.desk.map → CallDoes d c from l t
      → AreOk t.went.letters
  call-ok t k m (tries map retries pushed ls u h w) = all-append _ ls u.went.letters (pushes-ok ls h) (begins-ok u k m w)
  call-ok t k m (commits leaf list waiting e h f) = each _ _ tt
  call-ok t k m (aborts leaf list waiting txn why e h f) = each _ _ tt
  call-ok t k m other = tt

  -- a library's turn
  record LibraryOk (s : LibraryState) (out : CoreTurn) : Type 0 where
    has_it : InLibrary (Known b) s
    known : Knows s.known
    letters : AreOk out.letters

  back : (rest : List OpenCall) (place : ℕ) (o : Option OpenCall) → InSome (Known b) o → AllByRecursion (InCall (Known b)) rest
      → AllByRecursion (InCall (Known b)) (put_back rest place o)
  back rest place None h k = k
  back rest place (Some c) h k = all-put (InCall (Known b)) rest place c h k

  one-keeps : (from : NodeNo) (l : Letter) → InLetter (Known b) l → OneKeeps LibraryOk from l
  one-keeps from l m s out place c e concerns g =
      let P = Known b in
      let rest = remove s.calls place in
      let d = desk_of (record s { calls = rest }) rest in
      let h = call-has P d c from l g.has_it.map (all-is (InCall P) s.calls place c g.has_it.calls e) m in
      let t = call_row d c from l in
      record {
        has_it = record { map = h.map; calls = back rest place t.went.call h.call (all-taken (InCall P) s.calls place g.has_it.calls) };
        known = g.known;
        letters = all-append _ out.letters t.went.letters g.letters (call-ok t g.known h.map (call-does d c from l));
      }

  heard-has : (s : LibraryState) (from : NodeNo) (l : Letter) → InLibrary (Known b) s → InLibrary (Known b) (heard s from l)
  heard-has s from letter.Notice h = record { map = h.map; calls = h.calls }
  heard-has s from other h = h

  pub library-ok : (s : LibraryState) (from : NodeNo) (l : Letter) → InLibrary (Known b) s → InLetter (Known b) l → Knows (heard s from l).known
      → AreOk (live_library_turn s from l).out.letters
  library-ok s from l h m k =
      (library-keeps LibraryOk s from l (one-keeps from l m) (record { has_it = heard-has s from l h; known = k; letters = tt })).letters

  pub asked-ok : (s : LibraryState) (caller : ℕ) (call : CallNo) (o : Op) → InMap (Known b) s.map → Knows s.known
      → AreOk (asked_turn s caller call o).out.letters
  asked-ok s caller call o h k =
      let d = desk_of s s.calls in
      let r = new_request caller call o in
      begins-ok (rows.begin d r) k (begin (Known b) d r h).map (new-begins d r)

  -- a brick's letters
  no-prepare : (L : Sent) (to : NodeNo) (l : Letter) → Sends L to l → PrepareOk b gone l
  no-prepare L to (letter.Prepare txn caller call below name stamp list op) h = absurd h
  no-prepare L to other h = tt

  pub brick-ok : (L : Sent) (ls : List (NodeNo × Letter)) → AllByRecursion (λ (p : NodeNo × Letter). Sends L p.0 p.1) ls → AreOk ls
  brick-ok L [] h = tt
  brick-ok L (p ∷ ls) h = (no-prepare L p.0 p.1 h.0, brick-ok L ls h.1)
