use Rattle.std.proofs.Common.{◌≡◌, ℕ, ◌≤◌, ◌==◌, ◌&&◌, ◌⊎◌, inl, inr, Bool, true, false, not, List, [], ◌∷◌, Option, Some, None, refl, sym, ap, ◌∙◌, subst}
use Rattle.std.specs.Prelude.{if◌then◌else◌}
use Rattle.dds_base.specs.BrickList.{has}
use Rattle.dds_base.specs.NodeSet.{has_node}
use Rattle.dds_base.specs.Number.{Txn, same_txn}
use Rattle.dds_base.specs.declared.leaf.Leaf.{Leaf}
use Rattle.dds_base.specs.declared.number.NodeNo.{NodeNo}
use Rattle.dds_call_rows.specs.Library as library
use Rattle.dds_call_rows.specs.Library.{CallTurn}
use Rattle.dds_groups.proofs.Members.{has-live}
use Rattle.dds_letters.specs.declared.letter.Letter.{Letter}
use Rattle.dds_letters.specs.declared.letter.Letter.TheVariants as letter
use Rattle.dds_letters.specs.declared.refusal.Ballot.{Ballot}
use Rattle.dds_letters.specs.declared.refusal.Ballot.TheVariants as ballot
use Rattle.dds_letters.specs.declared.refusal.Denial.{Denial}
use Rattle.dds_states.specs.Turn.{is_none_left, to_each, unknown, without}
use Rattle.dds_states.specs.declared.library_state.Desk.{Desk}
use Rattle.dds_states.specs.declared.library_state.OpenCall.{OpenCall}
use Rattle.dds_states.specs.declared.library_state.Phase.{Phase}
use Rattle.dds_states.specs.declared.library_state.Phase.TheVariants.{Getting, Preparing, Committing, Aborting, Asking}
use Rattle.dds_states.specs.declared.library_state.TxnNumbers.{TxnNumbers}
use Rattle.dds_net.specs.Net.{Sizes, gains, is_in}
use Rattle.dds_talk.proofs.Begun.{Begun, Opened, denied-begun, next_of}
use Rattle.dds_talk.proofs.Letters.{about-each, about-none, equal-nodes, group-live, has-without, none-has}
use Rattle.dds_talk.proofs.Moves.{Takes, MaySay}
use Rattle.dds_talk.proofs.Moves.Takes.{hears_yes, last_yes, commits, hears_no, stops, stops_voted, passes_yes, passes_no, hears_applied, last_applied}
use Rattle.dds_talk.proofs.Moves.Takes.{closes, hears_aborted, last_aborted, ends, rests}
use Rattle.dds_talk.proofs.Parts.{same-self}
use Rattle.dds_talk.specs.Parts.{IsFor}
use Rattle.dds_talk.specs.Seen.{IsGroup, asked, asks, of, one, phase_view, vote_said}
use Rattle.dds_talk.specs.Table.{Ask, Say, View}
use Rattle.dds_talk.specs.Table.Ask.{commit, abort}
use Rattle.dds_talk.specs.Table.Say.{yes, no, applied, aborted}
use Rattle.dds_talk.specs.Table.View.{VoteDue, VoteHeard, CommitDue, CommitHeard, AbortDue, AbortHeard, Past}

-- A call's turn, as one member of its attempt sees it.

-- how the call sees the member after a turn: an attempt that was given up is past
abbrev pub turn_view : Txn → ℕ → Option OpenCall → View
turn_view t m None = Past
turn_view t m (Some x) = if same_txn x.txn t then phase_view m x.phase else Past

abbrev pub Row : Sizes → OpenCall → ℕ → List Say → CallTurn → Type 0
Row z c m heard r = Takes (phase_view m c.phase) heard (turn_view c.txn m r.went.call) (asks c.txn (gains z r.went.letters m))

-- a member that the call doesn't know as stopped
pub record Member (z : Sizes) (d : Desk) (list : List NodeNo) (m : ℕ) : Type 0 where
  pub few : z.bricks ≤ 64
  pub inside : is_in z m ≡ true
  pub group : IsGroup z list
  pub listed : has list m ≡ true
  pub unknown : has_node d.known m ≡ false

-- the call stays with a phase
stays-view : (c : OpenCall) (m : ℕ) (phase : Phase) → turn_view c.txn m (Some (record c { phase = phase })) ≡ phase_view m phase
stays-view c m phase = let k : same_txn c.txn c.txn ≡ true = same-self c.txn in rw k refl

pub row-stays : (z : Sizes) (c : OpenCall) (d : Desk) (m : ℕ) (heard : List Say) (phase : Phase) → Takes (phase_view m c.phase) heard (phase_view m phase) []
    → Row z c m heard (library.stays d [] (record c { phase = phase }))
row-stays z c d m heard phase h = rw (stays-view c m phase, about-none asked c.txn z m [] tt) h

has-unknown : (list : List ℕ) (d : Desk) (m : ℕ) → has list m ≡ true → has_node d.known m ≡ false → has (unknown list d.known) m ≡ true
has-unknown list d m h k = has-live list (has_node d.known) m ∙ ap (λ b. b && not (has_node d.known m)) h ∙ ap not k

row-sends : (z : Sizes) (c : OpenCall) (d : Desk) (list : List NodeNo) (m : ℕ) (heard : List Say) (phase : Phase) (l : Letter) (x : Ask) → Member z d list m
    → of c.txn (asked l) ≡ x ∷ [] → Takes (phase_view m c.phase) heard (phase_view m phase) (x ∷ [])
    → Row z c m heard (library.stays d (to_each (unknown list d.known) l) (record c { phase = phase }))
row-sends z c d list m heard phase l x h e t =
    let sent : asks c.txn (gains z (to_each (unknown list d.known) l) m) ≡ x ∷ [] =
    about-each asked c.txn z l x (unknown list d.known) m h.few h.inside (group-live z list (has_node d.known) h.group) e
    ∙ ap (λ b. one b x) (has-unknown list d m h.listed h.unknown) in
    rw (stays-view c m phase, sent) t

pub row-kept : (z : Sizes) (c : OpenCall) (d : Desk) (m : ℕ) → Row z c m [] (library.stays d [] c)
row-kept z c d m = row-stays z c d m [] c.phase (rests (phase_view m c.phase))

-- what is heard from a node, as the member hears it
abbrev pub from_it : ℕ → ℕ → Say → List Say
from_it m f y = one (m == f) y

-- a vote that is yes
yes-view : (b w last : Bool) → w ≡ true ⊎ b ≡ false → (b ≡ false → last ≡ true → w ≡ false)
    → Takes (if w then VoteDue else VoteHeard) (one b yes) (if last then CommitDue else (if w && not b then VoteDue else VoteHeard)) (one last commit)
yes-view true true true h k = last_yes
yes-view true true false h k = hears_yes
yes-view true false last (inl e) k = cc
yes-view true false last (inr e) k = cc
yes-view false true true h k = let e : true ≡ false = k refl refl in cc
yes-view false true false h k = rests VoteDue
yes-view false false true h k = commits
yes-view false false false h k = rests VoteHeard

heard-waits : (waiting : List ℕ) (f m : ℕ) → has waiting f ≡ true → (m == f) ≡ true → has waiting m ≡ true
heard-waits waiting f m w e = ap (has waiting) (equal-nodes m f e) ∙ w

first-or : (b w : Bool) → (b ≡ true → w ≡ true) → w ≡ true ⊎ b ≡ false
first-or true w h = inl (h refl)
first-or false w h = inr refl

and-not : (w b : Bool) → (w && not b) ≡ false → b ≡ false → w ≡ false
and-not true true e q = cc
and-not true false e q = e
and-not false b e q = refl

not-both : false ≡ true → ⊥
not-both e = cc

none-left : (waiting : List ℕ) (f m : ℕ) → is_none_left (without waiting f) ≡ true → (has waiting m && not (m == f)) ≡ false
none-left waiting f m e = sym (has-without waiting f m) ∙ none-has (without waiting f) m e

-- a vote that is yes, or a member that votes no more, the last one or not
prepared-if : (last : Bool) (z : Sizes) (d : Desk) (c : OpenCall) (leaf : Leaf) (list waiting : List NodeNo) (f m : ℕ) → c.phase ≡ Preparing leaf list waiting
    → is_none_left (without waiting f) ≡ last → has waiting f ≡ true → Member z d list m
    → Row z c m (from_it m f yes) (if last then library.commits d c leaf list else library.stays d [] (record c {
      phase = Preparing leaf list
          (without waiting f);
    }))
prepared-if true z d c leaf list waiting f m p e w h =
    let after = has-unknown list d m h.listed h.unknown in
    row-sends z c d list m (from_it m f yes) (Committing leaf list (unknown list d.known) None) (letter.Commit c.txn) commit h
    (ap (λ b. one b commit) (same-self c.txn))
    (rw (p, after) (yes-view (m == f) (has waiting m) true (first-or (m == f) (has waiting m) (heard-waits waiting f m w))
    (λ q t. and-not (has waiting m) (m == f) (none-left waiting f m e) q)))
prepared-if false z d c leaf list waiting f m p e w h =
    row-stays z c d m (from_it m f yes) (Preparing leaf list (without waiting f))
    (rw (p, has-without waiting f m) (yes-view (m == f) (has waiting m) false (first-or (m == f) (has waiting m) (heard-waits waiting f m w))
    (λ q t. absurd (not-both t))))

pub prepared-row : (z : Sizes) (d : Desk) (c : OpenCall) (leaf : Leaf) (list waiting : List NodeNo) (f m : ℕ) → c.phase ≡ Preparing leaf list waiting
    → has waiting f ≡ true → Member z d list m → Row z c m (from_it m f yes) (library.prepared_on d c leaf list (without waiting f))
prepared-row z d c leaf list waiting f m p w h = prepared-if (is_none_left (without waiting f)) z d c leaf list waiting f m p refl w h

-- a vote that is no
no-view : (b w : Bool) → w ≡ true ⊎ b ≡ false → Takes (if w then VoteDue else VoteHeard) (one b no) AbortDue (abort ∷ [])
no-view true true h = hears_no
no-view true false (inl e) = cc
no-view true false (inr e) = cc
no-view false true h = stops
no-view false false h = stops_voted

denied-row : (z : Sizes) (d : Desk) (c : OpenCall) (leaf : Leaf) (list waiting : List NodeNo) (f m : ℕ) (why : Denial) → c.phase ≡ Preparing leaf list waiting
    → has waiting f ≡ true → Member z d list m → Row z c m (from_it m f no) (library.aborts d c list f why)
denied-row z d c leaf list waiting f m why p w h =
    let after = has-unknown list d m h.listed h.unknown in
    row-sends z c d list m (from_it m f no) (Aborting (unknown list d.known) why f) (letter.Abort c.txn) abort h (ap (λ b. one b abort) (same-self c.txn))
    (rw (p, after) (no-view (m == f) (has waiting m) (first-or (m == f) (has waiting m) (heard-waits waiting f m w))))

-- Vote
vote-here : (z : Sizes) (d : Desk) (c : OpenCall) (leaf : Leaf) (list waiting : List NodeNo) (f m : ℕ) (v : Ballot) (h : Bool)
    → c.phase ≡ Preparing leaf list waiting → has waiting f ≡ h → (h ≡ true) → Member z d list m
    → Row z c m (from_it m f (vote_said v)) (if h then library.vote_counted d c leaf list waiting f v else library.stays d [] c)
vote-here z d c leaf list waiting f m ballot.Yes true p w y k = prepared-row z d c leaf list waiting f m p w k
vote-here z d c leaf list waiting f m (ballot.No why) true p w y k = denied-row z d c leaf list waiting f m why p w k
vote-here z d c leaf list waiting f m v false p w y k = absurd (not-both y)

-- who may vote while members are waited for, and later
may-vote : (w : Bool) (v : Ballot) → MaySay (if w then VoteDue else VoteHeard) (vote_said v) → w ≡ true
may-vote true v h = refl
may-vote false ballot.Yes h = absurd h
may-vote false (ballot.No why) h = absurd h

no-vote-committing : (w : Bool) (v : Ballot) → MaySay (if w then CommitDue else CommitHeard) (vote_said v) → ⊥
no-vote-committing true ballot.Yes h = h
no-vote-committing true (ballot.No why) h = h
no-vote-committing false ballot.Yes h = h
no-vote-committing false (ballot.No why) h = h

no-vote-past : (v : Ballot) → MaySay Past (vote_said v) → ⊥
no-vote-past ballot.Yes h = h
no-vote-past (ballot.No why) h = h

late-vote : (b w : Bool) (v : Ballot) → (b ≡ true → MaySay (if w then AbortDue else AbortHeard) (vote_said v))
    → Takes (if w then AbortDue else AbortHeard) (one b (vote_said v)) (if w then AbortDue else AbortHeard) []
late-vote true true ballot.Yes h = passes_yes
late-vote true true (ballot.No why) h = passes_no
late-vote true false ballot.Yes h = absurd (h refl)
late-vote true false (ballot.No why) h = absurd (h refl)
late-vote false w v h = rests (if w then AbortDue else AbortHeard)

moved : (waiting : List ℕ) (P : Bool → Type 0) (f m : ℕ) → (m == f) ≡ true → P (has waiting f) → P (has waiting m)
moved waiting P f m e h = subst (λ n. P (has waiting n)) (sym (equal-nodes m f e)) h

pub vote-row : (z : Sizes) (d : Desk) (c : OpenCall) (phase : Phase) (list : List NodeNo) (f m : ℕ) (v : Ballot) → c.phase ≡ phase → IsFor list phase
    → MaySay (phase_view f phase) (vote_said v) → Member z d list m → Row z c m (from_it m f (vote_said v)) (library.vote_in d c f v phase)
vote-row z d c (Getting leaf brick) list f m v p i y h = absurd (no-vote-past v y)
vote-row z d c (Preparing leaf members waiting) list f m v p i y h =
    vote-here z d c leaf members waiting f m v (has waiting f) p refl (may-vote (has waiting f) v y) (subst (λ ns. Member z d ns m) (sym i) h)
vote-row z d c (Committing leaf members waiting was) list f m v p i y h = absurd (no-vote-committing (has waiting f) v y)
vote-row z d c (Aborting waiting why brick) list f m v p i y h =
    row-stays z c d m (from_it m f (vote_said v)) c.phase (rw p (late-vote (m == f) (has waiting m) v
    (λ e. moved waiting (λ w. MaySay (if w then AbortDue else AbortHeard) (vote_said v)) f m e y)))
vote-row z d c (Asking waiting newest met) list f m v p i y h = absurd (no-vote-past v y)

-- Applied
applied-view : (b w last : Bool) → (b ≡ true → w ≡ true) → (b ≡ false → last ≡ true → w ≡ false)
    → Takes (if w then CommitDue else CommitHeard) (one b applied) (if last then Past else (if w && not b then CommitDue else CommitHeard)) []
applied-view true true true h k = last_applied
applied-view true true false h k = hears_applied
applied-view true false last h k = absurd (not-both (h refl))
applied-view false true true h k = let e : true ≡ false = k refl refl in cc
applied-view false true false h k = rests CommitDue
applied-view false false true h k = closes
applied-view false false false h k = rests CommitHeard

-- the call is answered, or waits on with what it keeps
pub applied-if : (last : Bool) (z : Sizes) (d : Desk) (c : OpenCall) (leaf : Leaf) (list waiting : List NodeNo) (was next : Option Bool) (r : CallTurn)
    (f m : ℕ)
    → c.phase ≡ Committing leaf list waiting was → is_none_left (without waiting f) ≡ last → has waiting f ≡ true → r.went.call ≡ None → r.went.letters ≡ []
    → Row z c m (from_it m f applied) (if last then r else library.stays d [] (record c { phase = Committing leaf list (without waiting f) next }))
applied-if true z d c leaf list waiting was next r f m p e w none quiet =
    rw (p, none, quiet, about-none asked c.txn z m [] tt) (applied-view (m == f) (has waiting m) true (heard-waits waiting f m w)
    (λ q t. and-not (has waiting m) (m == f) (none-left waiting f m e) q))
applied-if false z d c leaf list waiting was next r f m p e w none quiet =
    row-stays z c d m (from_it m f applied) (Committing leaf list (without waiting f) next)
    (rw (p, has-without waiting f m) (applied-view (m == f) (has waiting m) false (heard-waits waiting f m w) (λ q t. absurd (not-both t))))

may-apply : (w : Bool) → MaySay (if w then CommitDue else CommitHeard) applied → w ≡ true
may-apply true h = refl
may-apply false h = absurd h

none-may : (y : Say) (w : Bool) (v u : View) → (MaySay v y → ⊥) → (MaySay u y → ⊥) → MaySay (if w then v else u) y → ⊥
none-may y true v u a b h = a h
none-may y false v u a b h = b h

pub applied-row : (z : Sizes) (d : Desk) (c : OpenCall) (phase : Phase) (f m : ℕ) (flag : Bool) → c.phase ≡ phase → MaySay (phase_view f phase) applied
    → Row z c m (from_it m f applied) (library.applied_in d c f flag phase)
applied-row z d c (Getting leaf brick) f m flag p y = absurd y
applied-row z d c (Preparing leaf members waiting) f m flag p y = absurd (none-may applied (has waiting f) VoteDue VoteHeard (λ h. h) (λ h. h) y)
applied-row z d c (Committing leaf members waiting was) f m flag p y =
    applied-if (is_none_left (without waiting f)) z d c leaf members waiting was (Some (library.first_flag was flag)) _ f m p refl
    (may-apply (has waiting f) y) refl refl
applied-row z d c (Aborting waiting why brick) f m flag p y = absurd (none-may applied (has waiting f) AbortDue AbortHeard (λ h. h) (λ h. h) y)
applied-row z d c (Asking waiting newest met) f m flag p y = absurd y

-- what begins is another attempt
pub begun-past : (z : Sizes) (n : TxnNumbers) (r : CallTurn) (t : Txn) (m : ℕ) (o : Option OpenCall) → Opened z n r o → same_txn (next_of n) t ≡ false
    → turn_view t m o ≡ Past
begun-past z n r t m None b e = refl
begun-past z n r t m (Some x) b e = let k : same_txn x.txn t ≡ false = ap (λ (y : Txn). same_txn y t) b.0 ∙ e in rw k refl

-- Aborted
aborted-view : (b w last : Bool) → (b ≡ true → w ≡ true) → (b ≡ false → last ≡ true → w ≡ false)
    → Takes (if w then AbortDue else AbortHeard) (one b aborted) (if last then Past else (if w && not b then AbortDue else AbortHeard)) []
aborted-view true true true h k = last_aborted
aborted-view true true false h k = hears_aborted
aborted-view true false last h k = absurd (not-both (h refl))
aborted-view false true true h k = let e : true ≡ false = k refl refl in cc
aborted-view false true false h k = rests AbortDue
aborted-view false false true h k = ends
aborted-view false false false h k = rests AbortHeard

aborted-if : (last : Bool) (z : Sizes) → z.bricks ≤ 64 → (d : Desk) (c : OpenCall) (waiting : List NodeNo) (why : Denial) (brick : NodeNo) (f m : ℕ)
    → c.phase ≡ Aborting waiting why brick → is_none_left (without waiting f) ≡ last → has waiting f ≡ true → same_txn (next_of d.numbers) c.txn ≡ false
    → Row z c m (from_it m f aborted) (if last then library.denied d c.request brick why else library.stays d [] (record c {
      phase = Aborting
          (without waiting f) why brick;
    }))
aborted-if true z few d c waiting why brick f m p e w fresh =
    let r = library.denied d c.request brick why in
    let b : Begun z d.numbers r = denied-begun z few d c.request brick why in
    rw (p, b.old c.txn m fresh, begun-past z d.numbers r c.txn m r.went.call b.opened fresh)
    (aborted-view (m == f) (has waiting m) true (heard-waits waiting f m w) (λ q t. and-not (has waiting m) (m == f) (none-left waiting f m e) q))
aborted-if false z few d c waiting why brick f m p e w fresh =
    row-stays z c d m (from_it m f aborted) (Aborting (without waiting f) why brick)
    (rw (p, has-without waiting f m) (aborted-view (m == f) (has waiting m) false (heard-waits waiting f m w) (λ q t. absurd (not-both t))))

pub aborted-on-row : (z : Sizes) → z.bricks ≤ 64 → (d : Desk) (c : OpenCall) (waiting : List NodeNo) (why : Denial) (brick : NodeNo) (f m : ℕ)
    → c.phase ≡ Aborting waiting why brick → has waiting f ≡ true → same_txn (next_of d.numbers) c.txn ≡ false
    → Row z c m (from_it m f aborted) (library.aborted_on d c (without waiting f) why brick)
aborted-on-row z few d c waiting why brick f m p w fresh = aborted-if (is_none_left (without waiting f)) z few d c waiting why brick f m p refl w fresh

may-abort : (w : Bool) → MaySay (if w then AbortDue else AbortHeard) aborted → w ≡ true
may-abort true h = refl
may-abort false h = absurd h

pub aborted-row : (z : Sizes) → z.bricks ≤ 64 → (d : Desk) (c : OpenCall) (phase : Phase) (f m : ℕ) → c.phase ≡ phase → MaySay (phase_view f phase) aborted
    → same_txn (next_of d.numbers) c.txn ≡ false → Row z c m (from_it m f aborted) (library.aborted_in d c f phase)
aborted-row z few d c (Getting leaf brick) f m p y fresh = absurd y
aborted-row z few d c (Preparing leaf members waiting) f m p y fresh = absurd (none-may aborted (has waiting f) VoteDue VoteHeard (λ h. h) (λ h. h) y)
aborted-row z few d c (Committing leaf members waiting was) f m p y fresh = absurd (none-may aborted (has waiting f) CommitDue CommitHeard (λ h. h) (λ h. h) y)
aborted-row z few d c (Aborting waiting why brick) f m p y fresh = aborted-on-row z few d c waiting why brick f m p (may-abort (has waiting f) y) fresh
aborted-row z few d c (Asking waiting newest met) f m p y fresh = absurd y
