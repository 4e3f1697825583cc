use Rattle.std.proofs.Common.{◌++◌}
use Rattle.std.proofs.Common.{◌≡◌, ℕ, ◌==◌, ◌&&◌, Bool, true, false, not, Option, Some, None, List, [], ◌∷◌, refl, ap, ◌∙◌, subst}
use Rattle.std.proofs.lemmas.Bool.{and_parts, both_ways, eqb-true}
use Rattle.std.specs.FinMap.{get}
use Rattle.dds_base.specs.Name.{Name, same_name}
use Rattle.dds_base.specs.declared.leaf.Leaf.{Leaf}
use Rattle.dds_base.specs.declared.number.NodeNo.{NodeNo}
use Rattle.dds_brick_rows.specs.Refusal.{is_found}
use Rattle.dds_core.proofs.Tells.{is_notice}
use Rattle.dds_law_notice.proofs.Link.{Link, Silent, lives, over, told}
use Rattle.dds_law_notice.proofs.Views.{view as view_of}
use Rattle.dds_letters.specs.declared.letter.Letter.{Letter}
use Rattle.dds_letters.specs.declared.letter.Letter.TheVariants as letter
use Rattle.dds_letters.specs.declared.refusal.Wanted.{Wanted}
use Rattle.dds_letters.specs.declared.refusal.Wanted.TheVariants as wanted
use Rattle.dds_locks.specs.Leases.{is_given}
use Rattle.dds_net.proofs.Letters.{first-all}
use Rattle.dds_net.specs.Event.{Takes}
use Rattle.dds_net.specs.Net.{Net, Node, a_brick, Sizes}
use Rattle.dds_orders.proofs.Deeds.{Seat, seat}
use Rattle.dds_orders.proofs.Leases.{same-is}
use Rattle.dds_orders.proofs.Standing.{Stood}
use Rattle.dds_states.specs.declared.brick_state.BrickState.{BrickState}
use Rattle.dds_states.specs.declared.brick_state.OpenOrder.{OpenOrder}
use Rattle.dds_order_talk.proofs.BrickSide.{IsCounted}
use Rattle.dds_order_talk.proofs.BrickDeeds.{lease-of}
use Rattle.dds_order_talk.proofs.MemberHears.{IsRight}
use Rattle.dds_order_talk.proofs.Moves.{Stays}
use Rattle.dds_order_talk.proofs.Talking as talking
use Rattle.dds_order_talk.proofs.Talking.{counted-at, stood-at}
use Rattle.dds_order_talk.specs.Seen.{New, Own, is_its, is_named, wanted_name}
use Rattle.dds_order_talk.specs.Table.{Say}
use Rattle.dds_order_talk.specs.Table.Say.{granted, installed}
use Rattle.dds_base.specs.NodeSet.{has_node}
use Rattle.dds_core.specs.Brick.{live_brick_turn}
use Rattle.dds_orders.proofs.Leased.{path-given}
use Rattle.dds_orders.proofs.Numbered as numbered
use Rattle.dds_orders.proofs.Standing.{path-stood}
use Rattle.dds_orders.proofs.Turns.{Turns}
use Rattle.dds_orders.specs.Law.{asked_of}
use Rattle.dds_order_talk.proofs.Holds.{name-self}
use Rattle.dds_order_talk.proofs.InstallsApart.{beside-silent, install-given, installs-beside, made-meets}
use Rattle.dds_order_talk.proofs.MemberHears.{sent}
use Rattle.dds_order_talk.proofs.MemberSide.{new-while, own-while}
use Rattle.dds_order_talk.proofs.Sendings.{work-as}
use Rattle.dds_order_talk.specs.Seen.{BrickTalk, asks, rests, says, view}
use Rattle.dds_order_talk.specs.Table.{Talks}
use Rattle.dds_order_talk.specs.Table.Ask.{install}

-- A letter of a live brick's open order says the order's name, and a live node sends no notice: of what is wanted of a letter to a member,
-- what is left is about leaves.

-- a granted leaf of the told one's name and stamp is that leaf; and a leaf that an order made is installed
pub record LeavesFit (j : ℕ) (x : Name) (q : Option OpenOrder) (l : Letter) (m n : Seat) (said : List Say) : Type 0 where
  pub leaf :
      (number : ℕ) (told own : Leaf) → l ≡ letter.Lease number (wanted.Leaf told) → get m.own.leaves told.name ≡ Some own
      → is_found (Some told.stamp) (Some own) ≡ true → said ≡ granted own ∷ [] → told ≡ own
  pub install :
      (number : ℕ) (made own : Leaf) → l ≡ letter.Install number made → is_its q number ≡ true → is_named q x ≡ true → Own m.own.leaves x own
      → New n.own.leaves x made × (said ≡ installed ∷ [])

no-notice : {deaf stopped known : Bool} (c others : List Letter) (l : Letter) → c ≡ l ∷ others → Link deaf c stopped known → stopped ≡ false
    → is_notice l ≡ false
no-notice c others l e (lives s) f = (subst Silent e s).0
no-notice c others l e (told front g s) f = cc
no-notice c others l e (over known g k) f = cc

lease-named : (j : ℕ) (x : Seat) (q : Option OpenOrder) (n : Name) (l : Letter) (number : ℕ) (what : Wanted) → Stood j x → x.own.order ≡ q
    → IsCounted x l → l ≡ letter.Lease number what → (is_its q number && is_named q n) ≡ true → same_name (wanted_name what) n ≡ true
lease-named j x None n l number what h there c e f = let no : false ≡ true = f in cc
lease-named j x (Some o) n l number what h there c e f =
    let p = and_parts (o.number == number) (same_name o.name n) f in
    let it = lease-of j x o (letter.Lease number what) h there (subst (IsCounted x) e c) p.0 in
    ap (λ y. same_name y n) (same-is (wanted_name what) o.name it) ∙ p.1

copy-named : (x : Seat) (q : Option OpenOrder) (n name : Name) (l : Letter) (number : ℕ) (key : Option ℕ) → x.own.order ≡ q → IsCounted x l
    → l ≡ letter.CopyAsk number name key → is_its q number ≡ true → is_named q n ≡ true → name ≡ n
copy-named x None n name l number key there c e f g = let no : false ≡ true = f in cc
copy-named x (Some o) n name l number key there c e f g =
    let it = (subst (IsCounted x) e c number refl).of o there (eqb-true o.number number f) in it.0 ∙ same-is o.name n g

-- a leaf of an order of another name
abbrev Meets : ℕ → ℕ → BrickState → BrickState → Name → List Letter → List Letter → Type 0
Meets a at sj s x out back =
    Talks x (Own s.leaves x) (New s.leaves x) (not sj.stopped) (not s.stopped) (view rests sj.order x at) (asks sj.order x out)
    (is_given s.locks.leases x a) (says sj.order x back)

apart-of : (z : Sizes) (n : Net) (at from : NodeNo) (l : Letter) (s sj : BrickState) (x : Name) (u : Turns from (seat s) l (live_brick_turn s from l))
    (q : Option OpenOrder) (number : ℕ) (made : Leaf) → talking.Wanted z n → Takes z n at from l (a_brick s) → n.node from ≡ a_brick sj → sj.stopped ≡ false
    → has_node sj.known at ≡ false → (from ≡ at → ⊥) → ((y : Name) → BrickTalk rests from at y sj s (n.channel from at) (n.channel at from)) → sj.order ≡ q
    → l ≡ letter.Install number made → is_its q number ≡ true → is_named q x ≡ false
    → (says q x (sent u.answers) ≡ []) × Stays (Own u.first.own.leaves x) (Own u.next.own.leaves x) (is_given u.first.own.leases x from)
    × Stays (New u.first.own.leaves x) (New u.next.own.leaves x) (is_given u.first.own.leases x from)
apart-of z n at from l s sj x u None number made w f there alive unknown ne talk opened e its named = let no : false ≡ true = its in cc
apart-of z n at from l s sj x u (Some o) number made w f there alive unknown ne talk opened e its named =
    let line = subst (λ c. Meets from at sj s o.name c (n.channel at from)) (f.letter.first ∙ ap (λ k. k ∷ f.letter.others) e) (talk o.name unknown) in
    let own = subst (λ q. Talks o.name (Own s.leaves o.name) (New s.leaves o.name) (not sj.stopped) (not s.stopped) (view rests sj.order o.name at)
    (asks q o.name (letter.Install number made ∷ f.letter.others)) (is_given s.locks.leases o.name from) (says sj.order o.name (n.channel at from))) opened
    line in
    let told = subst (λ a. Talks o.name (Own s.leaves o.name) (New s.leaves o.name) (not sj.stopped) (not s.stopped) (view rests sj.order o.name at)
    (a ++ asks (Some o) o.name f.letter.others) (is_given s.locks.leases o.name from) (says sj.order o.name (n.channel at from)))
    (work-as (o.number == number) (same_name o.name o.name) (install made) its (name-self o.name)) own in
    let before : is_given s.locks.leases o.name from ≡ true = install-given (ap not alive) (ap not f.live) told in
    let stood = stood-at z n at s w f.here in
    let given = path-given at (seat s) u.first [] o.name from u.takes stood.both ne ∙ before in
    let c = first-all (IsCounted (seat sj)) z n at from l f.letter (counted-at z n from at sj w there alive) in
    let meets = made-meets from (seat sj) o number made (stood-at z n from sj w there) opened (subst (IsCounted (seat sj)) e c) its in
    let first = path-stood at (seat s) u.first [] u.takes stood in
    let stays = (λ (also : is_given u.first.own.leases x from ≡ true).
    installs-beside at from l u.first u.next u.answers number made o.name x u.hears e first given meets named also) in (
      beside-silent from l u.first u.next u.answers number made o x u.hears e named,
      own-while x u.first.own.leaves u.next.own.leaves (is_given u.first.own.leases x from) stays,
      new-while x u.first.own.leaves u.next.own.leaves (is_given u.first.own.leases x from) stays,
    )

pub right-of : (z : Sizes) (n : Net) (at from : NodeNo) (l : Letter) (s sj : BrickState) (x : Name) (u : Turns from (seat s) l (live_brick_turn s from l))
    → talking.Wanted z n → Takes z n at from l (a_brick s) → n.node from ≡ a_brick sj → sj.stopped ≡ false → has_node sj.known at ≡ false
    → ((from ≡ at → ⊥) → (y : Name) → BrickTalk rests from at y sj s (n.channel from at) (n.channel at from))
    → LeavesFit from x sj.order l u.first u.next (says sj.order x (sent u.answers))
    → IsRight from x sj.order (not sj.stopped) l u.first u.next (says sj.order x (sent u.answers))
right-of z n at from l s sj x u w f there alive unknown talk fit =
    let c = first-all (IsCounted (seat sj)) z n at from l f.letter (counted-at z n from at sj w there alive) in
    let ok = first-all (numbered.LetterOk n.node from at) z n at from l f.letter (w.stood.counted.letters from at) in
    let stood = stood-at z n from sj w there in
    record {
      lease = λ number what e k. lease-named from (seat sj) sj.order x l number what stood refl c e k;
      leaf = fit.leaf;
      copy = λ number name key e k i. copy-named (seat sj) sj.order x name l number key refl c e k i;
      install = fit.install;
      apart = λ number made e k i.
          let ne = (ok.asked number (ap asked_of e)).0 in
          apart-of z n at from l s sj x u sj.order number made w f there alive unknown ne (talk ne) refl e k i;
      notice = λ e.
          let link = w.stood.links from at f.letter.receiver in
          let quiet = no-notice (n.channel from at) f.letter.others l f.letter.first link
          (ap (λ (y : Node). (view_of y).stopped && not (from == at)) there ∙ ap (λ d. d && not (from == at)) alive) in
          absurd (both_ways (is_notice l) quiet (ap is_notice e));
    }
