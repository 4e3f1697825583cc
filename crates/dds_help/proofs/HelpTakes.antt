use Rattle.std.proofs.Common.{◌≡◌, ℕ, ◌==◌, ◌||◌, ◌⊎◌, inl, inr, true, false, Some, List, [], ◌∷◌, ◌++◌, refl, sym, ap, ◌∙◌}
use Rattle.std.proofs.lemmas.Bool.{both_ways, eq-eqb}
use Rattle.std.specs.List.{list_any}
use Rattle.dds_base.specs.BrickList.{has}
use Rattle.dds_base.specs.NodeSet.{has_node}
use Rattle.dds_base.specs.Number.{Txn}
use Rattle.dds_base.specs.declared.pending.Pending.{Pending}
use Rattle.dds_books.specs.Books.{Book}
use Rattle.dds_brick_rows.specs.Resolution.{is_resolved}
use Rattle.dds_commit.proofs.Standing.{Case, brick-ok, letter-team, notice, sender}
use Rattle.dds_core.specs.Brick.{live_brick_turn}
use Rattle.dds_law_notice.proofs.Keeps.{AreLinked}
use Rattle.dds_letters.specs.declared.letter.Letter.{Letter}
use Rattle.dds_net.proofs.PairTakes.{pairs-takes}
use Rattle.dds_net.proofs.Places.{node-below}
use Rattle.dds_net.proofs.Puts.{at-put}
use Rattle.dds_net.specs.Event.{History, brick_takes, moved, takes}
use Rattle.dds_net.specs.Net.{Net, Node, a_brick, Sizes, gains}
use Rattle.dds_states.specs.declared.brick_state.BrickState.{BrickState}
use Rattle.dds_talk.specs.Books.{Books, adds}
use Rattle.dds_resolve.proofs.LibraryEvents.{node-at}
use Rattle.dds_resolve.proofs.Whole.{Parts}
use Rattle.dds_resolve.specs.Teams.{ground, is_stopped}
use Rattle.dds_help.proofs.Facts.{brick-in, first-inside, for-state, never-itself, never-sender, pending-members, resolver-first}
use Rattle.dds_help.proofs.Lists.{any-left, any-right, apart-swap, gains-any, or-either}
use Rattle.dds_help.proofs.MemberTurns.{Serves, Taken, member-turn}
use Rattle.dds_help.proofs.MemberTurns.Serves.{anew, before, itself}
use Rattle.dds_help.proofs.Owing.{Mate, Owed, Owes}
use Rattle.dds_help.proofs.Owing.Owed.{owes, told as tells}
use Rattle.dds_help.proofs.Owing.Owes.{asks, puts_off, resolves as goes_on, treats}
use Rattle.dds_help.proofs.OwingTurns.{brick-asked, brick-owed}
use Rattle.dds_help.specs.Helped.{AreHelped, Helped, HelpsItself, IsHelpedBy, Stranded, asks_help, first_unknown, puts_off_help, tells_outcome}
use Rattle.dds_help.specs.Helped.Helped.{asked, put_off, resolves, stopped, told}

-- A brick takes a letter: what it has pending is being resolved, and so is what others have pending that it can be asked about.

module _ {z : Sizes} {h : History} {n : Net} {a : Book} {b : Books} {at from : ℕ} {l : Letter} {s : BrickState} (c : Case z h n a b at from l s)
    (later : Parts z (moved z n (brick_takes at from l s)) (adds h n (brick_takes at from l s) b))
    (links : AreLinked z (moved z n (brick_takes at from l s))) (old : AreHelped n) where
  taken : Taken at from l s
  taken = record {
    live = c.fits.live;
    once = (c.parts.note at s c.fits.here).once;
    number = (brick-ok c).number;
    low = node-below z from c.few c.some c.fits.letter.sender;
    sender = sender c;
    unknown = never-sender z n at from l s c.low.0 c.fits.letter c.fits.here;
  }

  now-here : (moved z n (brick_takes at from l s)).node at ≡ a_brick (live_brick_turn s from l).state
  now-here = node-at n (takes z n at from (a_brick (live_brick_turn s from l).state) (live_brick_turn s from l).out.letters)

  dark : has_node (live_brick_turn s from l).state.known at ≡ false
  dark = never-itself z (moved z n (brick_takes at from l s)) at (live_brick_turn s from l).state links c.fits.letter.receiver now-here

  -- what it has pending
  itself-served : (t : Txn) (p : Pending) → Stranded (live_brick_turn s from l).state t p →
      first_unknown p.list (live_brick_turn s from l).state.known ≡ Some at → is_resolved (live_brick_turn s from l).state t ≡ true
  itself-served t p k first = pick (member-turn s from l taken k first)
    where
      pick : Serves t p at at s l (live_brick_turn s from l) → is_resolved (live_brick_turn s from l).state t ≡ true
      pick (itself i) = i
      pick (anew i j) = absurd (both_ways (at == at) i (eq-eqb at at refl))
      pick (before k' first' more quiet) = more (old.itself at s c.fits.here t p k' first')

  itself-after : HelpsItself at (a_brick (live_brick_turn s from l).state)
  itself-after u e t p =
      for-state (λ u. Stranded u t p → first_unknown p.list u.known ≡ Some at → is_resolved u t ≡ true) (live_brick_turn s from l).state u e
      (itself-served t p)

  mine-served : (f : ℕ) (to back after : List Letter) (t : Txn) (p : Pending) →
      (tells_outcome t l ≡ false → list_any (tells_outcome t) back ≡ true → list_any (tells_outcome t) after ≡ true) →
      IsHelpedBy at f (n.node at) (n.node f) to back → Stranded (live_brick_turn s from l).state t p →
      first_unknown p.list (live_brick_turn s from l).state.known ≡ Some f → (f == at) ≡ false →
      Helped t (n.node f) (to ++ gains z (live_brick_turn s from l).out.letters f) after
  mine-served f to back after t p rest was k first apart = pick (member-turn s from l taken k first)
    where
      still : tells_outcome t l ≡ false → Helped t (n.node f) to back →
          Helped t (n.node f) (to ++ gains z (live_brick_turn s from l).out.letters f) after
      still quiet (stopped i) = stopped i
      still quiet (asked i) = asked (any-left (asks_help t) to (gains z (live_brick_turn s from l).out.letters f) i)
      still quiet (put_off x i j) = put_off x i j
      still quiet (resolves x i j) = resolves x i j
      still quiet (told i) = told (rest quiet i)

      pick : Serves t p f at s l (live_brick_turn s from l) → Helped t (n.node f) (to ++ gains z (live_brick_turn s from l).out.letters f) after
      pick (itself i) =
          absurd (both_ways (f == at) apart (eq-eqb f at
          (resolver-first z (moved z n (brick_takes at from l s)) (adds h n (brick_takes at from l s) b).list at f (live_brick_turn s from l).state t p
          later.teams later.ready dark now-here k.pending i first)))
      pick (anew i j) =
          asked (any-right (asks_help t) to (gains z (live_brick_turn s from l).out.letters f)
          (gains-any z f (asks_help t) (live_brick_turn s from l).out.letters
          (first-inside z (moved z n (brick_takes at from l s)) (adds h n (brick_takes at from l s) b).list t at f (live_brick_turn s from l).state p
          (pending-members z (moved z n (brick_takes at from l s)) (adds h n (brick_takes at from l s) b).list at (live_brick_turn s from l).state t p
          later.teams now-here k.pending) first) j))
      pick (before k' first' more quiet) = still quiet (was s c.fits.here t p k' first' apart)

  mine-after : (f : ℕ) (to back after : List Letter) →
      ((t : Txn) → tells_outcome t l ≡ false → list_any (tells_outcome t) back ≡ true → list_any (tells_outcome t) after ≡ true) →
      IsHelpedBy at f (n.node at) (n.node f) to back →
      IsHelpedBy at f (a_brick (live_brick_turn s from l).state) (n.node f) (to ++ gains z (live_brick_turn s from l).out.letters f) after
  mine-after f to back after rest was u e t p =
      for-state (λ u. Stranded u t p → first_unknown p.list u.known ≡ Some f → (f == at) ≡ false →
      Helped t (n.node f) (to ++ gains z (live_brick_turn s from l).out.letters f) after) (live_brick_turn s from l).state u e
      (mine-served f to back after t p (rest t) was)

  -- what another one has pending
  mate : (m : ℕ) (x : BrickState) (t : Txn) (p : Pending) → n.node m ≡ a_brick x → Stranded x t p → (at == m) ≡ false → Mate (ground z n b.list) at t m
  mate m x t p here k apart =
      let members = pending-members z n b.list m x t p c.resolve.teams here k.pending in
      record {
        lives = ap is_stopped here ∙ k.live;
        listed = ap (λ ns. has ns m) members.listed ∙ members.member;
        apart = apart-swap at m apart;
      }

  theirs-after : (m : ℕ) (to back after : List Letter) →
      ((t : Txn) → list_any (asks_help t) to ≡ true → (asks_help t l ≡ true) ⊎ (list_any (asks_help t) after ≡ true)) →
      IsHelpedBy m at (n.node m) (n.node at) to back →
      IsHelpedBy m at (n.node m) (a_brick (live_brick_turn s from l).state) after (back ++ gains z (live_brick_turn s from l).out.letters m)
  theirs-after m to back after rest was x here t p k first apart = pick (was x here t p k first apart)
    where
      done : Owed t m [] [] (live_brick_turn s from l) →
          Helped t (a_brick (live_brick_turn s from l).state) after (back ++ gains z (live_brick_turn s from l).out.letters m)
      done (owes (goes_on i)) = resolves (live_brick_turn s from l).state refl i
      done (owes (puts_off i)) = put_off (live_brick_turn s from l).state refl i
      done (owes (treats i)) = cc
      done (owes (asks i)) = cc
      done (tells i) =
          told (any-right (tells_outcome t) back (gains z (live_brick_turn s from l).out.letters m)
          (gains-any z m (tells_outcome t) (live_brick_turn s from l).out.letters (brick-in z n m x c.built here) i))

      more : Owes t [] [] s → Helped t (a_brick (live_brick_turn s from l).state) after (back ++ gains z (live_brick_turn s from l).out.letters m)
      more i = done (brick-owed s from l (brick-ok c) (letter-team c) (notice c) (mate m x t p here k apart) i)

      heard : (asks_help t l ≡ true) ⊎ (list_any (asks_help t) after ≡ true) →
          Helped t (a_brick (live_brick_turn s from l).state) after (back ++ gains z (live_brick_turn s from l).out.letters m)
      heard (inl i) = done (brick-asked s from l i (brick-ok c) (letter-team c) (mate m x t p here k apart))
      heard (inr i) = asked i

      pick : Helped t (n.node at) to back →
          Helped t (a_brick (live_brick_turn s from l).state) after (back ++ gains z (live_brick_turn s from l).out.letters m)
      pick (stopped i) = absurd (both_ways s.stopped c.fits.live (sym (ap is_stopped c.fits.here) ∙ i))
      pick (asked i) = heard (rest t i)
      pick (put_off y e i) = more (for-state (λ y. puts_off_help t y.deferred ≡ true → Owes t [] [] s) s y (sym c.fits.here ∙ e) (λ j. puts_off j) i)
      pick (resolves y e i) = more (for-state (λ y. is_resolved y t ≡ true → Owes t [] [] s) s y (sym c.fits.here ∙ e) (λ j. goes_on j) i)
      pick (told i) = told (any-left (tells_outcome t) back (gains z (live_brick_turn s from l).out.letters m) i)

  own-after : (to back : List Letter) (x y : Node) → IsHelpedBy at at x y to back
  own-after to back x y u e t p k first apart = absurd (both_ways (at == at) apart (eq-eqb at at refl))

  rest-told : (t : Txn) (others : List Letter) → tells_outcome t l ≡ false → list_any (tells_outcome t) (l ∷ others) ≡ true →
      list_any (tells_outcome t) others ≡ true
  rest-told t others quiet e = sym (ap (λ b. b || list_any (tells_outcome t) others) quiet) ∙ e

  pub takes-helped : AreHelped (moved z n (brick_takes at from l s))
  takes-helped =
      let y = a_brick (live_brick_turn s from l).state in
      let ls = (live_brick_turn s from l).out.letters in
      let others = c.fits.letter.others in
      record {
        itself = at-put HelpsItself at y n.node itself-after (λ k ne. old.itself k);
        others = pairs-takes IsHelpedBy z n at from l y ls c.fits.letter (record {
          out = λ d nd ne w. mine-after d (n.channel at d) (n.channel d at) (n.channel d at) (λ t quiet i. i) w;
          back = λ d nd ne w. theirs-after d (n.channel d at) (n.channel at d) (n.channel d at) (λ t i. inr i) w;
          reply = λ ne w. mine-after from (n.channel at from) (l ∷ others) others (λ t quiet i. rest-told t others quiet i) w;
          heard = λ ne w. theirs-after from (l ∷ others) (n.channel at from) others (λ t i. or-either (asks_help t l) (list_any (asks_help t) others) i) w;
          own = λ ne w. own-after (n.channel at at ++ gains z ls at) (n.channel at at ++ gains z ls at) y y;
          own_heard = λ e w. own-after (others ++ gains z ls at) (others ++ gains z ls at) y y;
        }) old.others;
      }
