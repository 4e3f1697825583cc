use Rattle.std.proofs.Common.{◌≡◌, ℕ, ◌++◌, Bool, true, false, Option, Some, None, List, [], ◌∷◌, refl, sym, ap, ◌∙◌}
use Rattle.std.proofs.lemmas.Bool.{both_ways}
use Rattle.std.specs.List.{AllByRecursion}
use Rattle.std.specs.Prelude.{if◌then◌else◌}
use Rattle.dds_base.specs.Name.{Name, overlaps}
use Rattle.dds_base.specs.declared.number.NodeNo.{NodeNo}
use Rattle.dds_brick_rows.specs.Refusal.{is_join}
use Rattle.dds_core.proofs.Lists.{all-append, all-both, all-map}
use Rattle.dds_law_own.proofs.Changes.{Own, kept_leases}
use Rattle.dds_law_own.proofs.Lists.{all-first, all-released}
use Rattle.dds_law_own.proofs.Owned.{Apart}
use Rattle.dds_letters.specs.declared.letter.Letter.{Letter}
use Rattle.dds_locks.specs.Leases as lease
use Rattle.dds_locks.specs.declared.leases.Lease.{Lease}
use Rattle.dds_net.proofs.Pairwise.{Pairwise}
use Rattle.dds_order_rows.specs.OwnOrder as order
use Rattle.dds_orders.proofs.Deeds.{Deed, Path, Seat, asks_more, closes, copies, drops, fixes, joins, loses, makes, new_order, over, pends, says, serves}
use Rattle.dds_orders.proofs.Deeds.{split_asked, splits, step, takes, wanted_name, widened}
use Rattle.dds_orders.proofs.Leases.{Clear, clear-others}
use Rattle.dds_orders.proofs.Numbers.{the-order}
use Rattle.dds_orders.proofs.Over.{overlaps-self}
use Rattle.dds_orders.proofs.Standing.{Standing, Stood, deed-both, deed-stands, heard-stood}
use Rattle.dds_orders.proofs.Turns.{Hears, copies_not, denies, gives, grants, grants_not, hears_other, installed_not, installs, installs_not}
use Rattle.dds_orders.proofs.Turns.{copies as copies_part}
use Rattle.dds_orders.proofs.Turns.{is_installed, is_refused, learns, refused_not, releases, sends_none, sends_part}
use Rattle.dds_orders.specs.Law.{asked_of}
use Rattle.dds_states.specs.Turn.{without}
use Rattle.dds_states.specs.declared.brick_state.OpenOrder.{OpenOrder}
use Rattle.dds_states.specs.declared.brick_state.OrderPhase.TheVariants.{Copying, Installing}
use Rattle.dds_states.specs.declared.brick_state.Task.TheVariants.{Split}
use Rattle.dds_order_ends.specs.Leases.{IsSplitOf}

-- The invariant, of one brick by itself: the leases that it has given to itself.
--
-- | part                                             | why it is needed                              | which rows keep it                                |
-- |---|---|---|
-- | `Mine`: a lease that the brick itself holds is   | claimed: nobody else gives it back            | the order Split gives it; a split's end takes it  |
-- | of the name of its open split                    |                                               | back: leases are apart, so there is one; Lease    |
-- |                                                  |                                               | gives to other bricks alone                       |

abbrev pub IsMine : ℕ → Option OpenOrder → Lease → Type 0
IsMine me q l = l.holder ≡ me → IsSplitOf q l.name

abbrev pub Mine : Own → Type 0
Mine x = AllByRecursion (IsMine x.number x.order) x.leases

-- the open order goes on, or comes where there was none
split-on : (q r : Option OpenOrder) (o p : OpenOrder) (name : Name) → q ≡ Some o → r ≡ Some p → p.name ≡ o.name → p.task ≡ o.task → IsSplitOf q name
    → IsSplitOf r name
split-on q r o p name e f same task h =
    let is : o ≡ h.is.order = the-order o h.is.order (sym e ∙ h.is.there) in
    record {
      is = record { order = p; there = f; named = same ∙ ap (λ (k : OpenOrder). k.name) is ∙ h.is.named };
      task = task ∙ ap (λ (k : OpenOrder). k.task) is ∙ h.task;
    }

mine-on : (me : ℕ) (q r : Option OpenOrder) (o p : OpenOrder) (ls : List Lease) → q ≡ Some o → r ≡ Some p → p.name ≡ o.name → p.task ≡ o.task
    → AllByRecursion (IsMine me q) ls → AllByRecursion (IsMine me r) ls
mine-on me q r o p ls e f same task h =
    all-map (IsMine me q) (IsMine me r) ls (λ l k is. split-on q r o p l.name e f same task (k is)) h

no-split : (q : Option OpenOrder) (name : Name) → q ≡ None → IsSplitOf q name → ⊥
no-split q name e h = let no : None ≡ Some h.is.order = sym e ∙ h.is.there in cc

mine-none : (me : ℕ) (q r : Option OpenOrder) (ls : List Lease) → q ≡ None → AllByRecursion (IsMine me q) ls → AllByRecursion (IsMine me r) ls
mine-none me q r ls e h = all-map (IsMine me q) (IsMine me r) ls (λ l k is. absurd (no-split q l.name e (k is))) h

-- the order is over
join-over : (me : ℕ) (q : Option OpenOrder) (o : OpenOrder) (ls : List Lease) → q ≡ Some o → is_join o.task ≡ true → AllByRecursion (IsMine me q) ls
    → AllByRecursion (IsMine me None) ls
join-over me q o ls e j h =
    all-map (IsMine me q) (IsMine me None) ls
    (λ l k is.
    let s = k is in
    let same : o ≡ s.is.order = the-order o s.is.order (sym e ∙ s.is.there) in
    absurd (both_ways (is_join o.task) (ap is_join (ap (λ (p : OpenOrder). p.task) same ∙ s.task)) j)) h

split-over : (me : ℕ) (q : Option OpenOrder) (o : OpenOrder) (ls : List Lease) → q ≡ Some o → lease.is_given ls o.name me ≡ true → Pairwise Apart ls
    → AllByRecursion (IsMine me q) ls → AllByRecursion (IsMine me None) (lease.released ls o.name me)
split-over me q o ls e given apart h =
    let rest = lease.released ls o.name me in
    all-map (λ (l : Lease). Clear o.name l × IsMine me q l) (IsMine me None) rest
    (λ l k is.
    let s = k.1 is in
    let same : o ≡ s.is.order = the-order o s.is.order (sym e ∙ s.is.there) in
    let named : l.name ≡ o.name = sym (ap (λ (p : OpenOrder). p.name) same ∙ s.is.named) in
    absurd (both_ways (overlaps l.name o.name) k.0 (ap (λ n. overlaps n o.name) named ∙ overlaps-self o.name)))
    (all-both (Clear o.name) (IsMine me q) rest (clear-others ls o.name me given apart) (all-first (IsMine me q) (lease.is_lease o.name me) ls h))

over-if : (x : Own) (o : OpenOrder) (c : Bool) → is_join o.task ≡ c → x.order ≡ Some o → Standing x → Pairwise Apart x.leases → Mine x
    → AllByRecursion (IsMine x.number None) (if c then x.leases else lease.released x.leases o.name x.number)
over-if x o true j e k apart h = join-over x.number x.order o x.leases e j h
over-if x o false j e k apart h = split-over x.number x.order o x.leases e (k.held o e j) apart h

mine-over : (me : ℕ) (x : Seat) (o : OpenOrder) → x.own.order ≡ Some o → Stood me x → Mine x.own
    → AllByRecursion (IsMine x.own.number None) (kept_leases x.own o)
mine-over me x o e k h = over-if x.own o (is_join o.task) refl e k.stands k.both.0.apart h

-- each deed
deed-mine : (me : ℕ) (x y : Seat) (ls : List (NodeNo × Letter)) → Deed x ls y → Stood me x → Mine x.own → Mine y.own
deed-mine me x _ ls (says _ others) k h = h
deed-mine me x y ls (takes mine leaf may) k h = h
deed-mine me x y ls (pends p may) k h = h
deed-mine me x y ls (drops txn) k h = h
deed-mine me x y ls (joins name via may) k h = mine-none x.own.number x.own.order y.own.order x.own.leases may.none h
deed-mine me x y ls (splits leaf may) k h =
    let p = new_order x Split leaf.name (Some leaf) (split_asked x leaf) in
    all-append (IsMine x.own.number y.own.order) x.own.leases (record { name = leaf.name; holder = x.own.number } ∷ [])
    (mine-none x.own.number x.own.order y.own.order x.own.leases may.none h)
    (λ is. record { is = record { order = p; there = refl; named = refl }; task = refl }, tt)
deed-mine me x y ls (loses o n e known) k h =
    mine-on x.own.number x.own.order y.own.order o (record o { waiting = without o.waiting n }) x.own.leases e refl refl refl h
deed-mine me x y ls (fixes o from leaf e may) k h =
    mine-on x.own.number x.own.order y.own.order o (widened x o from leaf) x.own.leases e refl refl refl h
deed-mine me x y ls (copies o leaf source e may) k h =
    mine-on x.own.number x.own.order y.own.order o (record o { copied = []; phase = Copying source }) x.own.leases e refl refl refl h
deed-mine me x _ ls (asks_more o source e phase) k h = h
deed-mine me x y ls (makes o made nodes e may) k h =
    mine-on x.own.number x.own.order y.own.order o (record o { waiting = nodes; phase = Installing made }) x.own.leases e refl refl refl h
deed-mine me x y ls (closes o e) k h = mine-over me x o e k h
deed-mine me x y ls (serves o made e phase) k h = mine-over me x o e k h

-- a brick and its own leases, along the deeds of a turn
pub record Held (me : ℕ) (x : Seat) : Type 0 where
  pub stood : Stood me x
  pub mine : Mine x.own

pub path-held : (me : ℕ) (x z : Seat) (ls : List (NodeNo × Letter)) → Path x ls z → Held me x → Held me z
path-held me x _ _ (over _) h = h
path-held me x z _ (step _ y _ ls ms d w) h =
    path-held me y z ms w (record {
      stood = record { both = deed-both me x y ls d h.stood.both; stands = deed-stands me x y ls d h.stood.both h.stood.stands };
      mine = deed-mine me x y ls d h.stood h.mine;
    })

-- a letter
heard-mine : (me from : ℕ) (l : Letter) (x y : Seat) (ls : List (NodeNo × Letter)) → Hears from x l ls y
    → ((number : ℕ) → asked_of l ≡ Some number → from ≡ me → ⊥) → Stood me x → Mine x.own → Mine y.own
heard-mine me from l x y ls (gives number what leaf there free stamp unknown) ne k h =
    all-append (IsMine x.own.number x.own.order) x.own.leases (record { name = wanted_name what; holder = from } ∷ []) h
    (λ is. absurd (ne number refl (is ∙ k.both.0.number)), tt)
heard-mine me from l x _ ls (denies number what why) ne k h = h
heard-mine me from l x y ls (releases number name) ne k h =
    all-first (IsMine x.own.number x.own.order) (lease.is_lease name from) x.own.leases h
heard-mine me from l x _ ls (sends_part number name place last pairs given there) ne k h = h
heard-mine me from l x _ ls (sends_none number name place e) ne k h = h
heard-mine me from l x y ls (installs number leaf mine may) ne k h = h
heard-mine me from l x _ ls (installs_not number leaf f) ne k h = h
heard-mine me from l x y ls (grants number leaf o f) ne k h =
    mine-on x.own.number x.own.order y.own.order o (order.with_grant o from) x.own.leases f.there refl refl refl h
heard-mine me from l x _ ls (grants_not number leaf e) ne k h = h
heard-mine me from l x y ls (is_refused number why o f) ne k h = mine-over me x o f.there k h
heard-mine me from l x _ ls (refused_not number why e) ne k h = h
heard-mine me from l x y ls (copies_part number last pairs o f) ne k h =
    mine-on x.own.number x.own.order y.own.order o (record o { copied = o.copied ++ pairs }) x.own.leases f.there refl refl refl h
heard-mine me from l x _ ls (copies_not number last pairs e) ne k h = h
heard-mine me from l x y ls (is_installed number name o f) ne k h =
    mine-on x.own.number x.own.order y.own.order o (record o { waiting = without o.waiting from }) x.own.leases f.there refl refl refl h
heard-mine me from l x _ ls (installed_not number name e) ne k h = h
heard-mine me from l x y ls (learns below other) ne k h = all-released (IsMine x.own.number x.own.order) x.own.leases from h
heard-mine me from l x _ ls (hears_other _ e) ne k h = h

pub heard-held : (me from : ℕ) (l : Letter) (x y : Seat) (ls : List (NodeNo × Letter)) → Hears from x l ls y
    → ((number : ℕ) → asked_of l ≡ Some number → from ≡ me → ⊥) → Held me x → Held me y
heard-held me from l x y ls d ne h =
    record { stood = heard-stood me from l x y ls d ne h.stood; mine = heard-mine me from l x y ls d ne h.stood h.mine }
