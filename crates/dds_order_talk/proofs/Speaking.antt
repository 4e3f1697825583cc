use Rattle.std.proofs.Common.{◌≡◌, ℕ, ◌++◌, Bool, true, false, not, Option, Some, None, List, [], ◌∷◌, refl, sym, ap, ◌∙◌, subst}
use Rattle.std.proofs.Common.{append_assoc}
use Rattle.std.proofs.lemmas.List.{append-nil}
use Rattle.std.specs.List.{AllByRecursion}
use Rattle.std.specs.Prelude.{map, if◌then◌else◌}
use Rattle.dds_base.specs.Name.{Name, same_name}
use Rattle.dds_letters.specs.declared.letter.Letter.{Letter}
use Rattle.dds_locks.specs.Leases.{is_given}
use Rattle.dds_orders.proofs.Deeds.{Stage, leaf_owed, nothing_owed, part_owed, told_order}
use Rattle.dds_orders.proofs.Leases.{same-is}
use Rattle.dds_states.specs.declared.brick_state.BrickState.{BrickState}
use Rattle.dds_states.specs.declared.brick_state.OpenOrder.{OpenOrder}
use Rattle.dds_order_talk.proofs.Holds.{name-self}
use Rattle.dds_order_talk.proofs.Moves.{Ends, Takes, brick-ends, brick-plain, brick-silent, brick-takes, brick-unasked, ended, releases_more}
use Rattle.dds_order_talk.proofs.Projections.{IsLeaseOf, asks-append, asks-same, ended-asks, idle-asks, none-said}
use Rattle.dds_order_talk.specs.Seen.{Doing, New, Own, asks, phase_view, rests, says, took_first, took_part, view}
use Rattle.dds_order_talk.specs.Table.{Ask, Say, Talks, View}
use Rattle.dds_order_talk.specs.Table.Ask.{release}
use Rattle.dds_order_talk.specs.Table.View.{Off}

-- The conversations of a brick with one member about all names, as the brick goes on with its order in a turn.

-- how the order sees the member while something is owed
abbrev pub doing_of : Stage → Doing
doing_of told_order = rests
doing_of nothing_owed = rests
doing_of (leaf_owed from leaf) = took_first from leaf
doing_of part_owed = took_part

-- what a brick with this order says about a name with the member `m`, whose brick is `t`
abbrev pub Says : ℕ → ℕ → BrickState → Name → Doing → Option OpenOrder → List Letter → List Letter → Type 0
Says j m t n d q out back =
    Talks n (Own t.leaves n) (New t.leaves n) true (not t.stopped) (view d q n m) (asks q n out) (is_given t.locks.leases n j) (says q n back)

abbrev pub Speaks : ℕ → ℕ → BrickState → Doing → Option OpenOrder → List Letter → List Letter → Type 0
Speaks j m t d q out back = (n : Name) → Says j m t n d q out back

-- the order goes on: what is heard of the member, and what the member is sent
pub record GoesOn (m : ℕ) (d e : Doing) (o p : OpenOrder) (back rest sent : List Letter) : Type 0 where
  pub number : p.number ≡ o.number
  pub name : p.name ≡ o.name
  pub said : List Say
  pub asked : List Ask
  pub move : Takes o.name (phase_view d o m o.phase) said (phase_view e p m p.phase) asked
  pub hears : says (Some o) o.name back ≡ said ++ says (Some o) o.name rest
  pub sends : asks (Some o) o.name sent ≡ asked
  pub hears_apart : (n : Name) → same_name o.name n ≡ false → says (Some o) n back ≡ says (Some o) n rest
  pub sends_apart : (n : Name) → same_name o.name n ≡ false → asks (Some o) n sent ≡ []

abbrev pub Line : ℕ → BrickState → Name → View → List Ask → ℕ → List Say → Type 0
Line m t n v a j b = Talks n (Own t.leaves n) (New t.leaves n) true (not t.stopped) v a (is_given t.locks.leases n j) b

on-at : (j m : ℕ) (t : BrickState) (d e : Doing) (o p : OpenOrder) (back rest sent out : List Letter) (n : Name) (c : Bool) → same_name o.name n ≡ c
    → GoesOn m d e o p back rest sent
    → Line m t n (if c then phase_view d o m o.phase else Off) (asks (Some o) n out) j (says (Some o) n back)
    → Line m t n (if c then phase_view e p m p.phase else Off) (asks (Some o) n out ++ asks (Some o) n sent) j (says (Some o) n rest)
on-at j m t d e o p back rest sent out n true is g h =
    let same = same-is o.name n is in
    let hears : says (Some o) n back ≡ g.said ++ says (Some o) n rest = subst (λ k. says (Some o) k back ≡ g.said ++ says (Some o) k rest) same g.hears in
    let sends : asks (Some o) n sent ≡ g.asked = subst (λ k. asks (Some o) k sent ≡ g.asked) same g.sends in
    let move = subst (λ k. Takes k (phase_view d o m o.phase) g.said (phase_view e p m p.phase) g.asked) same g.move in
    subst (λ a. Line m t n (phase_view e p m p.phase) (asks (Some o) n out ++ a) j (says (Some o) n rest)) (sym sends)
    (brick-takes move (subst (λ b. Line m t n (phase_view d o m o.phase) (asks (Some o) n out) j b) hears h))
on-at j m t d e o p back rest sent out n false is g h =
    subst (λ a. Line m t n Off (asks (Some o) n out ++ a) j (says (Some o) n rest)) (sym (g.sends_apart n is))
    (subst (λ a. Line m t n Off a j (says (Some o) n rest)) (sym (append-nil (asks (Some o) n out)))
    (subst (λ b. Line m t n Off (asks (Some o) n out) j b) (g.hears_apart n is) h))

pub speaks-on : (j m : ℕ) (t : BrickState) (d e : Doing) (o p : OpenOrder) (back rest sent out : List Letter) → GoesOn m d e o p back rest sent
    → Speaks j m t d (Some o) out back → Speaks j m t e (Some p) (out ++ sent) rest
speaks-on j m t d e o p back rest sent out g h n =
    let it = on-at j m t d e o p back rest sent out n (same_name o.name n) refl g (h n) in
    let asked = (asks-same o p n (out ++ sent) g.number g.name).0 ∙ asks-append (Some o) n out sent in
    subst (λ k. Line m t n (if same_name k n then phase_view e p m p.phase else Off) (asks (Some p) n (out ++ sent)) j (says (Some p) n rest)) (sym g.name)
    (subst (λ a. Line m t n (if same_name o.name n then phase_view e p m p.phase else Off) a j (says (Some p) n rest)) (sym asked)
    (subst (λ b. Line m t n (if same_name o.name n then phase_view e p m p.phase else Off) (asks (Some o) n out ++ asks (Some o) n sent) j b)
    (sym (asks-same o p n rest g.number g.name).1) it))

-- an order opens, with a new number
pub record Opens (m : ℕ) (p : OpenOrder) (out back sent : List Letter) : Type 0 where
  pub asked : List Ask
  pub move : Takes p.name Off [] (phase_view rests p m p.phase) asked
  pub out_is : (n : Name) → asks (Some p) n out ≡ asks None n out
  pub back_is : (n : Name) → says (Some p) n back ≡ []
  pub sends : asks (Some p) p.name sent ≡ asked
  pub sends_apart : (n : Name) → same_name p.name n ≡ false → asks (Some p) n sent ≡ []

opens-at : (j m : ℕ) (t : BrickState) (p : OpenOrder) (out back sent : List Letter) (n : Name) (c : Bool) → same_name p.name n ≡ c
    → Opens m p out back sent → Line m t n Off (asks None n out) j []
    → Line m t n (if c then phase_view rests p m p.phase else Off) (asks None n out ++ asks (Some p) n sent) j []
opens-at j m t p out back sent n true is g h =
    let same = same-is p.name n is in
    let sends : asks (Some p) n sent ≡ g.asked = subst (λ k. asks (Some p) k sent ≡ g.asked) same g.sends in
    subst (λ a. Line m t n (phase_view rests p m p.phase) (asks None n out ++ a) j []) (sym sends)
    (brick-takes (subst (λ k. Takes k Off [] (phase_view rests p m p.phase) g.asked) same g.move) h)
opens-at j m t p out back sent n false is g h =
    subst (λ a. Line m t n Off (asks None n out ++ a) j []) (sym (g.sends_apart n is))
    (subst (λ a. Line m t n Off a j []) (sym (append-nil (asks None n out))) h)

pub speaks-opens : (j m : ℕ) (t : BrickState) (p : OpenOrder) (out back sent : List Letter) → Opens m p out back sent
    → Speaks j m t rests None out back → Speaks j m t rests (Some p) (out ++ sent) back
speaks-opens j m t p out back sent g h n =
    let before = subst (λ b. Line m t n Off (asks None n out) j b) (none-said n back) (h n) in
    let it = opens-at j m t p out back sent n (same_name p.name n) refl g before in
    let asked = asks-append (Some p) n out sent ∙ ap (λ a. a ++ asks (Some p) n sent) (g.out_is n) in
    subst (λ a. Line m t n (if same_name p.name n then phase_view rests p m p.phase else Off) a j (says (Some p) n back)) (sym asked)
    (subst (λ b. Line m t n (if same_name p.name n then phase_view rests p m p.phase else Off) (asks None n out ++ asks (Some p) n sent) j b)
    (sym (g.back_is n)) it)

-- releases, of which none or some come to the member
abbrev pub AllReleases : List Ask → Type 0
AllReleases rs = AllByRecursion (λ r. r ≡ release) rs

pub data Released (v : View) : List Ask → Type 0 where
  asked_none : v ≡ Off → Released v []
  asked_some : (more : List Ask) → AllReleases more → Released v (release ∷ more)

more-releases : (j m : ℕ) (t : BrickState) (n : Name) (w rs : List Ask) → AllReleases rs → Line m t n Off w j [] → Line m t n Off (w ++ rs) j []
more-releases j m t n w [] k h = subst (λ a. Line m t n Off a j []) (sym (append-nil w)) h
more-releases j m t n w (r ∷ rs) k h =
    subst (λ x. Line m t n Off (w ++ x ∷ rs) j []) (sym k.0)
    (subst (λ x. Line m t n Off x j []) (append_assoc w (release ∷ []) rs)
    (more-releases j m t n (w ++ release ∷ []) rs k.1 (brick-takes releases_more h)))

-- an order is over
pub record IsOver (m : ℕ) (d : Doing) (o : OpenOrder) (back out sent : List Letter) : Type 0 where
  pub said : List Say
  pub others : List Say
  pub asked : List Ask
  pub ends : Ends (phase_view d o m o.phase) said
  pub hears : says (Some o) o.name back ≡ said ++ others
  pub released : Released (phase_view d o m o.phase) asked
  pub sends : asks None o.name sent ≡ asked
  pub sends_apart : (n : Name) → same_name o.name n ≡ false → asks None n sent ≡ []
  pub leases : AllByRecursion (IsLeaseOf o) out

over-itself : (j m : ℕ) (t : BrickState) (n : Name) (v : View) (w a : List Ask) (s b : List Say) → Ends v s → Released v a → Line m t n v w j (s ++ b)
    → Line m t n Off (map ended w ++ a) j []
over-itself j m t n v w _ s b e (asked_none f) h =
    subst (λ x. Line m t n Off x j []) (sym (append-nil (map ended w))) (brick-unasked f h)
over-itself j m t n v w _ s b e (asked_some more k) h =
    subst (λ x. Line m t n Off x j []) (append_assoc (map ended w) (release ∷ []) more)
    (more-releases j m t n (map ended w ++ release ∷ []) more k (brick-ends b e h))

over-at : (j m : ℕ) (t : BrickState) (d : Doing) (o : OpenOrder) (back out sent : List Letter) (n : Name) (c : Bool) → same_name o.name n ≡ c
    → IsOver m d o back out sent → Line m t o.name (phase_view d o m o.phase) (asks (Some o) o.name out) j (says (Some o) o.name back)
    → Line m t n (if c then phase_view d o m o.phase else Off) (asks (Some o) n out) j (says (Some o) n back)
    → Line m t n Off (asks None n out ++ asks None n sent) j []
over-at j m t d o back out sent n true is g k h =
    let same = same-is o.name n is in
    subst (λ i. Line m t i Off (asks None i out ++ asks None i sent) j []) same
    (subst (λ a. Line m t o.name Off (asks None o.name out ++ a) j []) (sym g.sends)
    (subst (λ a. Line m t o.name Off (a ++ g.asked) j []) (sym (ended-asks o out (name-self o.name) g.leases))
    (over-itself j m t o.name (phase_view d o m o.phase) (asks (Some o) o.name out) g.asked g.said g.others g.ends g.released
    (subst (λ b. Line m t o.name (phase_view d o m o.phase) (asks (Some o) o.name out) j b) g.hears k))))
over-at j m t d o back out sent n false is g k h =
    subst (λ a. Line m t n Off (asks None n out ++ a) j []) (sym (g.sends_apart n is))
    (subst (λ a. Line m t n Off a j []) (sym (append-nil (asks None n out)))
    (brick-plain g.others g.ends (λ plain. idle-asks o n out (name-self o.name) is plain)
    (subst (λ b. Line m t o.name (phase_view d o m o.phase) (asks (Some o) o.name out) j b) g.hears k) (brick-silent refl h)))

pub speaks-over : (j m : ℕ) (t : BrickState) (d e : Doing) (o : OpenOrder) (back rest out sent : List Letter) → IsOver m d o back out sent
    → Speaks j m t d (Some o) out back → Speaks j m t e None (out ++ sent) rest
speaks-over j m t d e o back rest out sent g h n =
    let own : Line m t o.name (phase_view d o m o.phase) (asks (Some o) o.name out) j (says (Some o) o.name back) =
    subst (λ c. Line m t o.name (if c then phase_view d o m o.phase else Off) (asks (Some o) o.name out) j (says (Some o) o.name back)) (name-self o.name)
    (h o.name) in
    let it = over-at j m t d o back out sent n (same_name o.name n) refl g own (h n) in
    subst (λ a. Line m t n Off a j (says None n rest)) (sym (asks-append None n out sent))
    (subst (λ b. Line m t n Off (asks None n out ++ asks None n sent) j b) (sym (none-said n rest)) it)
