use Rattle.std.proofs.Common.{◌≡◌, ℕ, ◌==◌, ◌&&◌, ◌++◌, Bool, true, false, Option, Some, List, [], ◌∷◌, inl, inr, refl, sym, ap, ◌∙◌, subst}
use Rattle.std.proofs.lemmas.Bool.{and_parts, cases_Bool}
use Rattle.std.specs.FinMap.{get}
use Rattle.std.specs.Prelude.{is_some, map, if◌then◌else◌}
use Rattle.dds_base.specs.Name.{Name, same_name}
use Rattle.dds_base.specs.declared.leaf.Leaf.{Leaf}
use Rattle.dds_base.specs.declared.number.NodeNo.{NodeNo}
use Rattle.dds_brick_rows.specs.Refusal.{is_found}
use Rattle.dds_letters.specs.declared.letter.Letter.{Letter}
use Rattle.dds_letters.specs.declared.letter.Letter.TheVariants as letter
use Rattle.dds_letters.specs.declared.refusal.Wanted.{Wanted}
use Rattle.dds_letters.specs.declared.refusal.Wanted.TheVariants as wanted
use Rattle.dds_locks.specs.Leases.{is_given, is_lease, released}
use Rattle.dds_locks.specs.declared.leases.Lease.{Lease}
use Rattle.dds_orders.proofs.Deeds as deed
use Rattle.dds_orders.proofs.Deeds.{Seat, wanted_stamp}
use Rattle.dds_orders.proofs.Leased.{deed-given}
use Rattle.dds_orders.proofs.Leases.{given-other, same-is}
use Rattle.dds_orders.proofs.Standing.{Stood, keyed}
use Rattle.dds_orders.proofs.Turns.{Hears, copies, copies_not, denies, gives, grants, grants_not, hears_other, installed_not, installs, installs_not}
use Rattle.dds_orders.proofs.Turns.{is_installed, is_refused, learns, refused_not, releases, sends_none, sends_part}
use Rattle.dds_states.specs.Turn.{to_each, unknown}
use Rattle.dds_states.specs.declared.brick_state.OpenOrder.{OpenOrder}
use Rattle.dds_order_talk.proofs.MemberSide.{With, given-back, lease-given, on-copy, on-denied, on-install, on-lease, on-no-copy, on-release, quiet}
use Rattle.dds_order_talk.proofs.Moves.{Stays, Tells}
use Rattle.dds_order_talk.proofs.Projections.{other-asks}
use Rattle.dds_order_talk.specs.Seen.{New, Own, ask_of, is_its, is_named, one, says, wanted_name}
use Rattle.dds_order_talk.specs.Table.{Ask, FitsAsked, Say, Talks, View}
use Rattle.dds_order_talk.specs.Table.Say.{granted, installed}
use Rattle.dds_order_talk.specs.Table.Talks.{gone}

-- A live member takes a letter of a brick: what becomes of their conversation about each name.

-- what is wanted of the letter: one of the open order is of its name, and tells the leaf that the member has, if that has its stamp and
-- is granted; a leaf that it tells to install is installed; one of another name leaves what the member has of this one; a notice is of
-- a node that has stopped
pub record IsRight (j : ℕ) (x : Name) (q : Option OpenOrder) (lives : Bool) (l : Letter) (m n : Seat) (said : List Say) : Type 0 where
  pub lease :
      (number : ℕ) (what : Wanted) → l ≡ letter.Lease number what → (is_its q number && is_named q x) ≡ true
      → same_name (wanted_name what) x ≡ true
  pub leaf :
      (number : ℕ) (told own : Leaf) → l ≡ letter.Lease number (wanted.Leaf told) → get m.own.leaves told.name ≡ Some own
      → is_found (Some told.stamp) (Some own) ≡ true → said ≡ granted own ∷ [] → told ≡ own
  pub copy :
      (number : ℕ) (name : Name) (key : Option ℕ) → l ≡ letter.CopyAsk number name key → is_its q number ≡ true → is_named q x ≡ true → name ≡ x
  pub install :
      (number : ℕ) (made own : Leaf) → l ≡ letter.Install number made → is_its q number ≡ true → is_named q x ≡ true → Own m.own.leaves x own
      → New n.own.leaves x made × (said ≡ installed ∷ [])
  pub apart :
      (number : ℕ) (made : Leaf) → l ≡ letter.Install number made → is_its q number ≡ true → is_named q x ≡ false
      → (said ≡ []) × Stays (Own m.own.leaves x) (Own n.own.leaves x) (is_given m.own.leases x j)
      × Stays (New m.own.leaves x) (New n.own.leaves x) (is_given m.own.leases x j)
  pub notice : l ≡ letter.Notice → lives ≡ false

abbrev pub sent : List (NodeNo × Letter) → List Letter
sent ls = map (λ (p : NodeNo × Letter). p.1) ls

-- the releases of an order of the member's own say nothing of another one
each-says : (q : Option OpenOrder) (x name : Name) (number : ℕ) (nodes : List NodeNo) → says q x (sent (to_each nodes (letter.Release number name))) ≡ []
each-says q x name number [] = refl
each-says q x name number (n ∷ ns) = each-says q x name number ns

-- a lease that is given back
other-name : (x y : Name) (j k : ℕ) → same_name y x ≡ false → (l : Lease) → is_lease y k l ≡ true → is_lease x j l ≡ false
other-name x y j k ne l e = elim (cases_Bool (is_lease x j l)) [
  | inl f ↦
      let a : l.name ≡ y = same-is l.name y (and_parts (l.holder == k) (same_name l.name y) e).1 in
      let b = (and_parts (l.holder == j) (same_name l.name x) f).1 in
      let no : true ≡ false = sym b ∙ ap (λ n. same_name n x) a ∙ ne in
      cc
  | inr f ↦ f
]

after-release : (me j : ℕ) (x name : Name) (m : Seat) (same : Bool) → same_name name x ≡ same → Stood me m
    → is_given (released m.own.leases name j) x j ≡ (if same then false else is_given m.own.leases x j)
after-release me j x name m true e h =
    ap (λ y. is_given (released m.own.leases y j) x j) (same-is name x e) ∙ given-back m.own.leases x j h.both.0.apart
after-release me j x name m false e h = given-other m.own.leases x name j j (other-name x name j j e)

fits-asked : (what : Wanted) (own : Leaf) → ((told : Leaf) → what ≡ wanted.Leaf told → told ≡ own) → FitsAsked what own
fits-asked (wanted.Name name) own f = tt
fits-asked (wanted.Leaf told) own f = f told refl

-- the same with other leases
given-as : {x : Name} {Own New : Tells} {lives : Bool} {v : View} {o : List Ask} {b : List Say} {given : Bool} (after : Bool) → after ≡ given
    → Talks x Own New lives true v o given b → Talks x Own New lives true v o after b
given-as {x = x} {Own = Own} {New = New} {lives = lives} {v = v} {o = o} {b = b} after e h =
    subst (λ g. Talks x Own New lives true v o g b) (sym e) h

stopped : {x : Name} {Own New OwnAfter NewAfter : Tells} {lives : Bool} {v : View} {o p : List Ask} {b c : List Say} {given after : Bool}
    → lives ≡ false → Talks x Own New lives true v o given b → Talks x OwnAfter NewAfter lives true v p after c
stopped {x = x} {OwnAfter = OwnAfter} {NewAfter = NewAfter} {v = v} {p = p} {c = c} {after = after} e h =
    subst (λ l. Talks x OwnAfter NewAfter l true v p after c) (sym e) gone

pub member-letter :
    {lives : Bool} {v : View} {o : List Ask} {b : List Say} (me j : ℕ) (x : Name) (q : Option OpenOrder) (l : Letter) (m n : Seat)
    (ls : List (NodeNo × Letter)) → Hears j m l ls n → Stood me m → (j ≡ me → ⊥) → IsRight j x q lives l m n (says q x (sent ls))
    → With j x m lives v (ask_of q x l ++ o) b → With j x n lives v o (b ++ says q x (sent ls))
member-letter me j x q l m n ls (gives number what leaf there free stamp unknown) h ne r k =
    let its = is_its q number && is_named q x in
    given-as _ (lease-given m.own.leases (wanted_name what) x j)
    (on-lease (is_given m.own.leases x j) its what leaf (λ e.
    let same = r.lease number what refl e in
    let is : wanted_name what ≡ x = same-is (wanted_name what) x same in (
      same,
      record { name = keyed me m.own leaf h.both.0 (wanted_name what) there ∙ is; is = ap (get m.own.leaves) (sym is) ∙ there },
      fits-asked what leaf (λ told f.
          r.leaf number told leaf (ap (letter.Lease number) f) (ap (λ w. get m.own.leaves (wanted_name w)) (sym f) ∙ there)
          (ap (λ w. is_found (wanted_stamp w) (Some leaf)) (sym f) ∙ stamp) (ap (λ c. one c (granted leaf) ++ []) e)),
    )) k)
member-letter me j x q l m _ ls (denies number what why) h ne r k = on-denied (is_given m.own.leases x j) (is_its q number && is_named q x) what k
member-letter me j x q l m n ls (releases number name) h ne r k =
    given-as _ (after-release me j x name m (same_name name x) refl h) (on-release (is_given m.own.leases x j) (same_name name x) k)
member-letter me j x q l m _ ls (sends_part number name key last pairs given there) h ne r k = on-copy (is_its q number) (is_named q x) key k
member-letter me j x q l m _ ls (sends_none number name key e) h ne r k =
    on-no-copy (is_its q number) (is_named q x) key (λ its named given leaf own.
    let is = r.copy number name key refl its named in
    let there : (is_given m.own.leases name j && is_some (get m.own.leaves name)) ≡ true =
    ap (λ y. is_given m.own.leases y j && is_some (get m.own.leaves y)) is ∙ ap (λ c. c && is_some (get m.own.leaves x)) given ∙ ap is_some own.is in
    let no : true ≡ false = sym there ∙ e in
    cc) k
member-letter me j x q l m n ls (installs number leaf mine may) h ne r k =
    on-install (is_its q number) (is_named q x) leaf (λ e f own is. r.install number leaf own refl e f is) (λ e f. r.apart number leaf refl e f) k
member-letter me j x q l m _ ls (installs_not number leaf f) h ne r k =
    on-install (is_its q number) (is_named q x) leaf (λ e f own is. r.install number leaf own refl e f is) (λ e f. r.apart number leaf refl e f) k
member-letter me j x q l m n ls (grants number leaf o f) h ne r k = quiet (is_given m.own.leases x j) refl k
member-letter me j x q l m _ ls (grants_not number leaf e) h ne r k = quiet (is_given m.own.leases x j) refl k
member-letter {lives = lives} {v = v} {o = o} {b = b} me j x q l m n ls (is_refused number why p f) h ne r k =
    let other = (λ (e : j ≡ m.own.number). ne (e ∙ h.both.0.number)) in
    let same = deed-given me m n ls x j (deed.closes p f.there) other in
    subst (λ s. With j x n lives v o (b ++ s)) (sym (each-says q x p.name p.number (unknown p.asked m.own.known)))
    (quiet (is_given n.own.leases x j) same k)
member-letter me j x q l m _ ls (refused_not number why e) h ne r k = quiet (is_given m.own.leases x j) refl k
member-letter me j x q l m n ls (copies number last pairs p f) h ne r k = quiet (is_given m.own.leases x j) refl k
member-letter me j x q l m _ ls (copies_not number last pairs e) h ne r k = quiet (is_given m.own.leases x j) refl k
member-letter me j x q l m n ls (is_installed number name p f) h ne r k = quiet (is_given m.own.leases x j) refl k
member-letter me j x q l m _ ls (installed_not number name e) h ne r k = quiet (is_given m.own.leases x j) refl k
member-letter me j x q l m n ls (learns below other) h ne r k = stopped (r.notice refl) k
member-letter {lives = lives} {v = v} {o = o} {b = b} me j x q l m _ ls (hears_other _ e) h ne r k =
    quiet (is_given m.own.leases x j) refl (subst (λ a. With j x m lives v (a ++ o) b) (other-asks q x l e).0 k)
