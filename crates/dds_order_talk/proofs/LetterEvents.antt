use Rattle.std.proofs.Common.{◌≡◌, ℕ, ◌==◌, ◌++◌, Bool, true, false, not, inl, inr, Some, List, [], ◌∷◌, refl, sym, ap, ◌∙◌, subst}
use Rattle.std.proofs.lemmas.Bool.{both_ways, cases_Bool, eq-eqb}
use Rattle.dds_base.specs.BrickList.{has}
use Rattle.dds_base.specs.Name.{Name}
use Rattle.dds_base.specs.NodeSet.{has_node}
use Rattle.dds_base.specs.declared.leaf.Leaf.{Leaf}
use Rattle.dds_base.specs.declared.number.NodeNo.{NodeNo}
use Rattle.dds_core.specs.Brick.{live_brick_turn}
use Rattle.dds_law_own.proofs.LetterWays.{IsOfAnother}
use Rattle.dds_letters.specs.declared.letter.Letter.{Letter}
use Rattle.dds_letters.specs.declared.letter.Letter.TheVariants as letter
use Rattle.dds_locks.specs.Leases.{is_given}
use Rattle.dds_net.proofs.Letters.{first-all}
use Rattle.dds_net.proofs.PairTakes.{pairs-takes}
use Rattle.dds_net.proofs.Puts.{Pairs}
use Rattle.dds_net.proofs.Runs.{IsBuilt}
use Rattle.dds_net.specs.Event.{IsFirst, Takes, takes}
use Rattle.dds_net.specs.Net.{Net, Node, nowhere, a_brick, a_library, Sizes, changed, gains, is_in}
use Rattle.dds_orders.proofs.Deeds.{nothing_owed, seat}
use Rattle.dds_orders.proofs.Numbered as numbered
use Rattle.dds_orders.proofs.Numbered.{takes-stopped}
use Rattle.dds_orders.proofs.Turns.{Turns}
use Rattle.dds_orders.specs.Law.{said_of}
use Rattle.dds_states.specs.declared.brick_state.BrickState.{BrickState}
use Rattle.dds_states.specs.declared.brick_state.OpenOrder.{OpenOrder}
use Rattle.dds_order_talk.proofs.BrickSide.{Other, Side}
use Rattle.dds_order_talk.proofs.BrickHears.{Heard, IsUnlisted, Told, of_another, of_it}
use Rattle.dds_order_talk.proofs.BrickTurns.{side-trip}
use Rattle.dds_order_talk.proofs.BrickWhole.{grants-waited, installed-waited, side-turn, turn-known}
use Rattle.dds_order_talk.proofs.Kept.{kept-path}
use Rattle.dds_order_talk.proofs.Letters as within
use Rattle.dds_order_talk.proofs.Letters.{Asked}
use Rattle.dds_order_talk.proofs.MemberHears.{IsRight, sent}
use Rattle.dds_order_talk.proofs.MemberTurns.{MayHear, Owner, member-answers, member-turn}
use Rattle.dds_order_talk.proofs.Members.{Within}
use Rattle.dds_order_talk.proofs.Projections.{says-append}
use Rattle.dds_order_talk.proofs.Talking.{TalkWith, Talking, Wanted, asks-at, is_brick, low-at, side-at, speaks-of, stood-at, talk-gone, talk-of, with-of}
use Rattle.dds_order_talk.specs.Seen.{BrickTalk, New, Own, asks, rests, says, view}
use Rattle.dds_order_talk.specs.Table.{Talks}

-- A live brick takes a letter: what every two bricks say of their orders stays in the lines of the table.

-- what is wanted of a letter to a member, besides what stands of the world: of a live brick's order it is the right one
abbrev pub AreRight : Net → NodeNo → NodeNo → Letter → BrickState → Type 0
AreRight n at from l s =
    (sj : BrickState) (x : Name) (u : Turns from (seat s) l (live_brick_turn s from l)) → n.node from ≡ a_brick sj → sj.stopped ≡ false
    → has_node sj.known at ≡ false → IsRight from x sj.order (not sj.stopped) l u.first u.next (says sj.order x (sent u.answers))

-- one letter at a live brick, with its turn
pub record Comes (z : Sizes) (n : Net) (at from : NodeNo) (l : Letter) (s : BrickState) : Type 0 where
  pub built : IsBuilt z n
  pub wanted : Wanted z n
  pub takes : Takes z n at from l (a_brick s)
  pub another : IsOfAnother s from l
  pub turn : Turns from (seat s) l (live_brick_turn s from l)
  pub right : AreRight n at from l s
  pub talks : Pairs Talking n

inside-if : (z : Sizes) (n : Net) (k : ℕ) (s : BrickState) (c : Bool) → IsBuilt z n → n.node k ≡ a_brick s → is_in z k ≡ c → is_in z k ≡ true
inside-if z n k s true built e f = f
inside-if z n k s false built e f = let no : nowhere ≡ a_brick s = sym (built.outside k f) ∙ e in cc

pub inside-of : (z : Sizes) (n : Net) (k : ℕ) (s : BrickState) → IsBuilt z n → n.node k ≡ a_brick s → is_in z k ≡ true
inside-of z n k s built e = inside-if z n k s (is_in z k) built e refl

-- the sender's line, where the brick has taken what it was told
sender-side : (z : Sizes) (n : Net) (at from : NodeNo) (l : Letter) (s t : BrickState) (c : Comes z n at from l s) → n.node from ≡ a_brick t
    → (from ≡ at → ⊥) → Side at from t nothing_owed c.turn.first (n.channel at from ++ gains z [] from) (l ∷ c.takes.letter.others)
sender-side z n at from l s t c there ne =
    let w = c.wanted in
    let f = c.takes in
    let other : Other z at from (seat s).own.known =
    record { low = low-at z n from t w there; inside = f.letter.sender; other = ne; unknown = c.another.unknown } in
    let said = speaks-of at from s t (n.channel at from) (n.channel from at) f.live c.another.unknown
    (with-of at from s t (n.node at) (n.node from) (n.channel at from) (n.channel from at) f.here there (λ e. ne (sym e)) (c.talks at from)) in
    let side = side-at z n at from s t (n.channel from at) w f.here f.live said in
    let first = side-trip z at from t nothing_owed nothing_owed (seat s) c.turn.first [] (n.channel at from) (n.channel from at) c.turn.idle other side in
    subst (Side at from t nothing_owed c.turn.first (n.channel at from ++ gains z [] from)) f.letter.first first

first-ok : (z : Sizes) (n : Net) (at from : NodeNo) (l : Letter) (s : BrickState) → Comes z n at from l s → numbered.LetterOk n.node from at l
first-ok z n at from l s c = first-all (numbered.LetterOk n.node from at) z n at from l c.takes.letter (c.wanted.stood.counted.letters from at)

within-ok : (z : Sizes) (n : Net) (at from : NodeNo) (l : Letter) (s : BrickState) (c : Comes z n at from l s) (number : ℕ) → said_of l ≡ Some number
    → Within c.turn.first number from
within-ok z n at from l s c number e =
    let ok = first-all (within.LetterOk n.node from at) z n at from l c.takes.letter (c.wanted.within.letters from at) in
    let was : Asked (a_brick s) number from = subst (λ x. Asked x number from) c.takes.here (ok.answers number e) in
    (kept-path at (seat s) c.turn.first [] c.turn.takes (asks-at z n at s c.wanted c.takes.here)).later number from (was c.takes.live)

grant-waited : (z : Sizes) (n : Net) (at from : NodeNo) (l : Letter) (s : BrickState) (c : Comes z n at from l s) (number : ℕ) (leaf : Leaf) (o : OpenOrder)
    → l ≡ letter.Granted number leaf → c.turn.first.own.order ≡ Some o → o.number ≡ number → has o.waiting from ≡ true
grant-waited z n at from l s c number leaf o e there same =
    let said : said_of l ≡ Some number = ap said_of e in
    elim (c.wanted.senders at from number l c.takes.letter said) [
      | is_brick t is ↦
          grants-waited at from t c.turn.first o number leaf (n.channel at from ++ gains z [] from) c.takes.letter.others
          (subst (λ k. Side at from t nothing_owed c.turn.first (n.channel at from ++ gains z [] from) (k ∷ c.takes.letter.others)) e
          (sender-side z n at from l s t c is ((first-ok z n at from l s c).said number said).0)) there same
    ]

install-waited : (z : Sizes) (n : Net) (at from : NodeNo) (l : Letter) (s : BrickState) (c : Comes z n at from l s) (number : ℕ) (name : Name)
    (o : OpenOrder) → l ≡ letter.Installed number name → c.turn.first.own.order ≡ Some o → o.number ≡ number → has o.waiting from ≡ true
install-waited z n at from l s c number name o e there same =
    let said : said_of l ≡ Some number = ap said_of e in
    elim (c.wanted.senders at from number l c.takes.letter said) [
      | is_brick t is ↦
          installed-waited at from t c.turn.first o number name (n.channel at from ++ gains z [] from) c.takes.letter.others
          (subst (λ k. Side at from t nothing_owed c.turn.first (n.channel at from ++ gains z [] from) (k ∷ c.takes.letter.others)) e
          (sender-side z n at from l s t c is ((first-ok z n at from l s c).said number said).0)) there same
    ]

told-at : (z : Sizes) (n : Net) (at from : NodeNo) (l : Letter) (s : BrickState) (c : Comes z n at from l s) → Told at from l c.turn.first
told-at z n at from l s c =
    let ok = first-ok z n at from l s c in
    record {
      asked_other = λ number e. (ok.asked number e).0;
      said_other = λ number e. (ok.said number e).0;
      within = λ number e. within-ok z n at from l s c number e;
      waits = λ number leaf o e there same leasing. grant-waited z n at from l s c number leaf o e there same;
      lists = λ number leaf e. c.wanted.lists at from number leaf (subst (IsFirst z n at from) e c.takes.letter);
      installs = λ number name o e there same installing. install-waited z n at from l s c number name o e there same;
    }

unlisted-at : (z : Sizes) (n : Net) (at from b : NodeNo) (l : Letter) (s t : BrickState) (c : Comes z n at from l s) → n.node b ≡ a_brick t
    → (b ≡ at → ⊥) → IsUnlisted at t l c.turn.first.own.order
unlisted-at z n at from b l s t c there ne number leaf o e opened none lives is =
    c.wanted.unlisted at b s t o leaf c.takes.here there c.takes.live lives ne (sym c.turn.first_order ∙ opened) none is

-- the brick with another one
brick-hears : (z : Sizes) (n : Net) (at from b : NodeNo) (l : Letter) (s : BrickState) (c : Comes z n at from l s) (y : Node) (rest : List Letter)
    → n.node b ≡ y → (b ≡ at → ⊥) → Heard from b l (n.channel b at) rest → TalkWith at b s y (n.channel at b) (n.channel b at)
    → TalkWith at b (live_brick_turn s from l).state y (n.channel at b ++ gains z (live_brick_turn s from l).out.letters b) rest
brick-hears z n at from b l s c nowhere rest there ne g h = tt
brick-hears z n at from b l s c (a_library t) rest there ne g h = tt
brick-hears z n at from b l s c (a_brick t) rest there ne g h =
    λ apart x unknown.
    let f = c.takes in
    let known = turn-known b c.turn unknown in
    let other : Other z at b (live_brick_turn s from l).state.known =
    record { low = low-at z n b t c.wanted there; inside = inside-of z n b t c.built there; other = ne; unknown = unknown } in
    let side = side-at z n at b s t (n.channel b at) c.wanted f.here f.live
    (speaks-of at b s t (n.channel at b) (n.channel b at) f.live known (h apart)) in
    let after = side-turn z at b t c.turn (n.channel at b) (n.channel b at) rest other side (told-at z n at from l s c)
    (unlisted-at z n at from b l s t c there ne) g in
    talk-of at b (live_brick_turn s from l).state t (n.channel at b ++ gains z (live_brick_turn s from l).out.letters b) rest x
    (takes-stopped s from l ∙ f.live) after.speaks unknown

-- another brick with this one
may-hear : (z : Sizes) (n : Net) (at from : NodeNo) (l : Letter) (s : BrickState) (c : Comes z n at from l s) → MayHear at from l c.turn.first
may-hear z n at from l s c =
    record { asked_other = λ number e. ((first-ok z n at from l s c).asked number e).0; within = λ number e. within-ok z n at from l s c number e }

abbrev Meets : ℕ → ℕ → BrickState → BrickState → Name → List Letter → List Letter → Bool → Type 0
Meets a at sj s x out back lives =
    Talks x (Own s.leaves x) (New s.leaves x) (not sj.stopped) lives (view rests sj.order x at) (asks sj.order x out) (is_given s.locks.leases x a)
    (says sj.order x back)

member-hears : (z : Sizes) (n : Net) (at from a : NodeNo) (l : Letter) (s : BrickState) (c : Comes z n at from l s) (sj : BrickState) (x : Name)
    (out back : List Letter) → n.node a ≡ a_brick sj → (a ≡ at → ⊥) → (from ≡ a → ⊥) → has_node sj.known at ≡ false
    → BrickTalk rests a at x sj s out back
    → BrickTalk rests a at x sj (live_brick_turn s from l).state out (back ++ gains z (live_brick_turn s from l).out.letters a)
member-hears z n at from a l s c sj x out back there ne apart known h unknown =
    let t = live_brick_turn s from l in
    let f = c.takes in
    let before : Meets a at sj s x out back true = subst (λ d. Meets a at sj s x out back (not d)) f.live (h unknown) in
    let owner : Owner z a at = record { low = low-at z n a sj c.wanted there; inside = inside-of z n a sj c.built there; other = ne } in
    let after = member-turn z at a from x sj.order l (seat s) t c.turn owner (stood-at z n at s c.wanted f.here) (asks-at z n at s c.wanted f.here)
    (may-hear z n at from l s c) apart before in
    let said = sym (says-append sj.order x back (gains z t.out.letters a)) in
    let lives : t.state.stopped ≡ false = takes-stopped s from l ∙ f.live in
    subst (λ d. Meets a at sj t.state x out (back ++ gains z t.out.letters a) (not d)) (sym lives)
    (subst (λ b. Talks x (Own t.state.leaves x) (New t.state.leaves x) (not sj.stopped) true (view rests sj.order x at) (asks sj.order x out)
    (is_given t.state.locks.leases x a) b) said after)

member-asked : (z : Sizes) (n : Net) (at from : NodeNo) (l : Letter) (s : BrickState) (c : Comes z n at from l s) (sj : BrickState) (x : Name)
    (out back : List Letter) → n.node from ≡ a_brick sj → (from ≡ at → ⊥) → sj.stopped ≡ false → BrickTalk rests from at x sj s (l ∷ out) back
    → BrickTalk rests from at x sj (live_brick_turn s from l).state out (back ++ gains z (live_brick_turn s from l).out.letters from)
member-asked z n at from l s c sj x out back there ne alive h unknown =
    let t = live_brick_turn s from l in
    let f = c.takes in
    let before : Meets from at sj s x (l ∷ out) back true = subst (λ d. Meets from at sj s x (l ∷ out) back (not d)) f.live (h unknown) in
    let owner : Owner z from at = record { low = low-at z n from sj c.wanted there; inside = f.letter.sender; other = ne } in
    let after = member-answers z at from x sj.order l (seat s) t c.turn owner (stood-at z n at s c.wanted f.here) (asks-at z n at s c.wanted f.here)
    (may-hear z n at from l s c) (c.right sj x c.turn there alive unknown) before in
    let said = sym (says-append sj.order x back (gains z t.out.letters from)) in
    let lives : t.state.stopped ≡ false = takes-stopped s from l ∙ f.live in
    subst (λ d. Meets from at sj t.state x out (back ++ gains z t.out.letters from) (not d)) (sym lives)
    (subst (λ b. Talks x (Own t.state.leaves x) (New t.state.leaves x) (not sj.stopped) true (view rests sj.order x at) (asks sj.order x out)
    (is_given t.state.locks.leases x from) b) said after)

others-hear : (z : Sizes) (n : Net) (at from a : NodeNo) (l : Letter) (s : BrickState) (c : Comes z n at from l s) (y : Node) (out back : List Letter)
    → n.node a ≡ y → (a ≡ at → ⊥) → (from ≡ a → ⊥) → Talking a at y (a_brick s) out back
    → Talking a at y (a_brick (live_brick_turn s from l).state) out (back ++ gains z (live_brick_turn s from l).out.letters a)
others-hear z n at from a l s c nowhere out back there ne apart h = tt
others-hear z n at from a l s c (a_library sj) out back there ne apart h = tt
others-hear z n at from a l s c (a_brick sj) out back there ne apart h =
    λ e x unknown. member-hears z n at from a l s c sj x out back there ne apart unknown (h e x) unknown

sender-hears : (z : Sizes) (n : Net) (at from : NodeNo) (l : Letter) (s : BrickState) (c : Comes z n at from l s) (y : Node) (out back : List Letter)
    → n.node from ≡ y → (from ≡ at → ⊥) → Talking from at y (a_brick s) (l ∷ out) back
    → Talking from at y (a_brick (live_brick_turn s from l).state) out (back ++ gains z (live_brick_turn s from l).out.letters from)
sender-hears z n at from l s c nowhere out back there ne h = tt
sender-hears z n at from l s c (a_library sj) out back there ne h = tt
sender-hears z n at from l s c (a_brick sj) out back there ne h = λ e x. elim (cases_Bool sj.stopped) [
  | inl stopped ↦
      talk-gone from at sj (live_brick_turn s from l).state out (back ++ gains z (live_brick_turn s from l).out.letters from) x stopped
  | inr alive ↦ member-asked z n at from l s c sj x out back there ne alive (h e x)
]

-- a brick with itself
pub talking-self : (k : ℕ) (x y : Node) (out back : List Letter) → Talking k k x y out back
talking-self k nowhere y out back = tt
talking-self k (a_library s) y out back = tt
talking-self k (a_brick s) nowhere out back = tt
talking-self k (a_brick s) (a_library t) out back = tt
talking-self k (a_brick s) (a_brick t) out back = λ e. absurd (both_ways (k == k) e (eq-eqb k k refl))

pub from-here : (j m : ℕ) (x : Node) (s : BrickState) (y : Node) (out back : List Letter) → x ≡ a_brick s → Talking j m x y out back
    → TalkWith j m s y out back
from-here j m x s y out back e h = subst (λ i. Talking j m i y out back) e h

pub to-here : (j m : ℕ) (x y : Node) (s : BrickState) (out back : List Letter) → y ≡ a_brick s → Talking j m x y out back → Talking j m x (a_brick s) out back
to-here j m x y s out back e h = subst (λ i. Talking j m x i out back) e h

pub letter-talks : (z : Sizes) (n : Net) (at from : NodeNo) (l : Letter) (s : BrickState) → Comes z n at from l s
    → Pairs Talking (changed n (takes z n at from (a_brick (live_brick_turn s from l).state) (live_brick_turn s from l).out.letters))
letter-talks z n at from l s c =
    let t = live_brick_turn s from l in
    let f = c.takes in
    pairs-takes Talking z n at from l (a_brick t.state) t.out.letters f.letter (record {
      out = λ b nb nf h. brick-hears z n at from b l s c (n.node b) (n.channel b at) refl nb (of_another nf refl)
          (from-here at b (n.node at) s (n.node b) (n.channel at b) (n.channel b at) f.here h);
      back = λ a na nf h. others-hear z n at from a l s c (n.node a) (n.channel a at) (n.channel at a) refl na (λ e. nf (sym e))
          (to-here a at (n.node a) (n.node at) s (n.channel a at) (n.channel at a) f.here h);
      reply = λ ne h. brick-hears z n at from from l s c (n.node from) f.letter.others refl ne (of_it refl f.letter.first)
          (from-here at from (n.node at) s (n.node from) (n.channel at from) (n.channel from at) f.here (c.talks at from));
      heard = λ ne h. sender-hears z n at from l s c (n.node from) f.letter.others (n.channel at from) refl ne
          (to-here from at (n.node from) (n.node at) s (l ∷ f.letter.others) (n.channel at from) f.here h);
      own = λ ne h. talking-self at (a_brick t.state) (a_brick t.state) (n.channel at at ++ gains z t.out.letters at)
          (n.channel at at ++ gains z t.out.letters at);
      own_heard = λ e h. talking-self at (a_brick t.state) (a_brick t.state) (f.letter.others ++ gains z t.out.letters at)
          (f.letter.others ++ gains z t.out.letters at);
    }) c.talks
