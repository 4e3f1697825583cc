use Rattle.std.proofs.Common.{◌≡◌, ℕ, ◌<◌, ◌++◌, Some, None, List, [], sym, ap, ◌∙◌, subst, arith}
use Rattle.std.specs.List.{AllByRecursion}
use Rattle.dds_base.specs.Number.{Txn}
use Rattle.dds_base.specs.declared.number.NodeNo.{NodeNo}
use Rattle.dds_books.specs.Calls.{LibraryIs}
use Rattle.dds_books.specs.Placed.{ArePlaced, LetterOk, LibraryOk, Made as IsMade, MadeAt, NodeOk}
use Rattle.dds_core.proofs.Lists.{all-both, all-map}
use Rattle.dds_letters.specs.declared.letter.Letter.{Letter}
use Rattle.dds_net.proofs.Carried.{AllCarried, Lands, News}
use Rattle.dds_net.proofs.Letters.{gains-all}
use Rattle.dds_net.proofs.Pairwise.{Pairwise, pairs-append}
use Rattle.dds_net.proofs.Puts.{at-put}
use Rattle.dds_net.specs.Event.{History}
use Rattle.dds_net.specs.Net.{Net, Node, nowhere, a_brick, a_library, Sizes, gains, put}
use Rattle.dds_states.specs.declared.library_state.LibraryState.{LibraryState}
use Rattle.dds_states.specs.declared.turn.CoreTurn.{CoreTurn}
use Rattle.dds_answered.proofs.Channels.{gains-pairs}
use Rattle.dds_answered.proofs.Sent.{IsNew, IsSent, LibrarySends, OtherGet, get_of, new-get}
use Rattle.dds_answered.proofs.Sought.{IsSoughtBy, Sought, all-sought, sought-other, sought_by}
use Rattle.dds_answered.proofs.Unread.{AreRead, GetUnread, IsSought, NotReadOf, ToCome, get-from, quiet-sought}
use Rattle.dds_answered.proofs.Unread.{quiet-unread}

-- A library's turn: the Gets that it sends are of new attempts, which nothing has read.

module _ (z : Sizes) (h : History) (n : Net) (g : Sought) (placed : ArePlaced z n) (r : AreRead z h n g) (at : ℕ) (s x : LibraryState) (out : CoreTurn)
    (here : n.node at ≡ a_library s) (sends : LibrarySends s x out) where
  abbrev pub later : Sought
  later = sought_by out.letters g

  own : LibraryOk z at s
  own = subst (NodeOk (IsMade n) z at) here (placed.nodes at)

  come : ToCome g at s
  come = subst (LibraryIs (ToCome g at)) here (r.to_come at)

  new-none : (t : Txn) → IsNew s.number s.next x.next t → g t ≡ None
  new-none t w = come t (w.library ∙ own.its_number) w.above

  within : (t : Txn) (to : NodeNo) → g t ≡ Some to → later t ≡ Some to
  within t to e =
      sought-other s.number s.next x.next g out.letters t (λ w. let no : None ≡ Some to = sym (new-none t w) ∙ e in cc) sends.sends.each ∙ e

  pub old-unread : AllCarried (GetUnread z later (h.made ++ [])) n
  old-unread a d =
      all-map (GetUnread z g h.made a d) (GetUnread z later (h.made ++ []) a d) (n.channel a d)
      (λ m q t e. let u = q t e in
      quiet-unread z later h.made d t (record { to = u.to; there = within t u.to u.there; comes = u.comes; unread = u.unread })) (r.letters a d)

  new-unread : (t : Txn) → IsNew s.number s.next x.next t → AllByRecursion (NotReadOf t) h.made
  new-unread t w =
      all-map (IsSought g) (NotReadOf t) h.made
      (λ m q get same. let u = q get in let no : Some u.0 ≡ None = sym u.1 ∙ ap g same ∙ new-none t w in cc) r.sought

  pub unread-news : News (GetUnread z later (h.made ++ [])) z at out.letters
  unread-news d inside =
      all-map (λ p. IsSent s.number s.next x.next p.1 × IsSoughtBy later p) (Lands (GetUnread z later (h.made ++ [])) z at d) out.letters
      (λ p q comes t e.
      quiet-unread z later h.made d t
      (record { to = p.0; there = q.1 t e; comes = comes; unread = new-unread t (new-get s.number s.next x.next p.1 t q.0 e) }))
      (all-both (λ p. IsSent s.number s.next x.next p.1) (IsSoughtBy later) out.letters sends.sends.each (all-sought g out.letters sends.sends.apart))

  pub sought-then : AllByRecursion (IsSought later) (h.made ++ [])
  sought-then =
      quiet-sought later h.made (all-map (IsSought g) (IsSought later) h.made (λ m q get. let u = q get in (u.0, within m.txn u.0 u.1)) r.sought)

  come-own : ToCome later at x
  come-own t home high =
      let more = sends.sends.more in
      sought-other s.number s.next x.next g out.letters t (λ w. let low = w.below in omega (arith, low, high)) sends.sends.each
      ∙ come t home (omega (arith, more, high))

  come-other : (i : ℕ) (y : Node) → (i ≡ at → ⊥) → LibraryIs (ToCome g i) y → LibraryIs (ToCome later i) y
  come-other i nowhere ne q = tt
  come-other i (a_brick y) ne q = tt
  come-other i (a_library y) ne q = λ t home high.
      sought-other s.number s.next x.next g out.letters t (λ w. ne (sym home ∙ w.library ∙ own.its_number)) sends.sends.each ∙ q t home high

  pub come-then : (i : ℕ) → LibraryIs (ToCome later i) (put at (a_library x) n.node i)
  come-then = at-put (λ i y. LibraryIs (ToCome later i) y) at (a_library x) n.node come-own (λ i ne. come-other i (n.node i) ne (r.to_come i))

  -- channels with what the library sends
  abbrev pub OnChannel : ℕ → ℕ → List Letter → Type 0
  OnChannel a d c = Pairwise OtherGet c × AllByRecursion (LetterOk (IsMade n) z a d) c

  below : (d : ℕ) (m : Letter) (t : Txn) → LetterOk (IsMade n) z at d m → get_of m ≡ Some t → t.number < s.next
  below d m t i e =
      let w = get-from (IsMade n) z at d m t i e in
      subst (MadeAt t) (ap n.node w.library ∙ here) w.made

  pub sent-more : (d : ℕ) (c : List Letter) → OnChannel at d c → Pairwise OtherGet (c ++ gains z out.letters d)
  sent-more d c q =
      pairs-append OtherGet c (gains z out.letters d) q.0 (gains-pairs OtherGet z d out.letters sends.sends.apart)
      (all-map (LetterOk (IsMade n) z at d) (λ m. AllByRecursion (OtherGet m) (gains z out.letters d)) c (λ m i.
      gains-all (OtherGet m) z d out.letters
      (all-map (λ p. IsSent s.number s.next x.next p.1) (λ p. OtherGet m p.1) out.letters (λ p j t e y.
      let low = below d m t i e in
      let high = (new-get s.number s.next x.next p.1 t j y).above in
      omega (arith, low, high)) sends.sends.each)) q.1)
