use Rattle.std.proofs.Common.{◌≡◌, ℕ, ◌+◌, ◌-◌, ◌%◌, ◌^◌, ◌<◌, ◌≤◌, ◌==◌, ◌&&◌, ◌||◌, ◌++◌, Bool, true, false, cond, Option, Some, None, List}
use Rattle.std.proofs.Common.{[], ◌∷◌, refl, sym, inl, inr, ap, ◌∙◌, subst, arith}
use Rattle.std.proofs.Math.Nat.{mod-eq_of_lt}
use Rattle.std.proofs.lemmas.Bool.{and_from, and_parts, both_ways, cases_Bool, eq-eqb, ne_eqb}
use Rattle.std.proofs.lemmas.Bool.Decides.{nat_tests}
use Rattle.std.specs.FinMap.{get, remove}
use Rattle.std.specs.Prelude.{is_some, nat_lt, if◌then◌else◌}
use Rattle.dds_base.specs.Name.{Name, overlaps, same_name}
use Rattle.dds_base.specs.declared.leaf.Leaf.{Leaf}
use Rattle.dds_base.specs.declared.number.NodeNo.{NodeNo}
use Rattle.dds_brick_rows.specs.Take.{high_of, is_low, low_of, replaced}
use Rattle.dds_groups.specs.Leaves.{sibling}
use Rattle.dds_groups.specs.Names.{low_half, other_half}
use Rattle.dds_law_own.proofs.Changes.{MayInstall}
use Rattle.dds_law_own.proofs.Disjoint.{Disjoint}
use Rattle.dds_law_own.proofs.Halves.{halves-apart, over-low, overlap-sym}
use Rattle.dds_law_own.proofs.Owned.{made_name}
use Rattle.dds_letters.specs.declared.letter.Letter.{Letter}
use Rattle.dds_letters.specs.declared.letter.Letter.TheVariants as letter
use Rattle.dds_locks.specs.Leases.{is_given, is_lease, lease_of}
use Rattle.dds_locks.specs.declared.leases.Lease.{Lease}
use Rattle.dds_maps.specs.Own.{own_leaf, whole}
use Rattle.dds_order_talk.proofs.MemberHears.{sent}
use Rattle.dds_order_talk.proofs.MemberSide.{overlap-self}
use Rattle.dds_order_talk.specs.Seen.{New, joined, one, says, split}
use Rattle.dds_order_talk.specs.Table.Say.{installed}
use Rattle.dds_orders.proofs.Deeds.{Seat, is_of_orders}
use Rattle.dds_orders.proofs.Leased.{put-apart}
use Rattle.dds_orders.proofs.Leases.{same-is}
use Rattle.dds_orders.proofs.Turns.{Hears, copies, copies_not, denies, gives, grants, grants_not, hears_other, installed_not, installs, installs_not}
use Rattle.dds_orders.proofs.Turns.{is_installed, is_refused, learns, refused_not, releases, same-leaf, sends_none, sends_part}
use Rattle.dds_states.specs.declared.brick_state.OpenOrder.{OpenOrder}
use Rattle.dds_states.specs.declared.brick_state.Task.{Task}
use Rattle.dds_states.specs.declared.brick_state.Task.TheVariants.{Join, Split}
use Rattle.dds_trie.proofs.Cuts.{get-with}
use Rattle.dds_trie.specs.Trie.{LeafMap, cut, or_else, put}

-- A member that has the order's leaf and is told to install what the order made installs it.

-- the own leaf that what was made comes from
name : ℕ → ℕ → Name
name bits depth = record { bits = bits; depth = depth }

whole-low : (x : Name) → x.bits < 2 ^ x.depth → whole (low_half x) ≡ x
unfolding name
whole-low x range =
    let d : x.depth + 1 - 1 ≡ x.depth = omega arith in
    ap (λ j. name (x.bits % 2 ^ j) j) d ∙ ap (λ b. name b x.depth) (mod-eq_of_lt range)

none-of : (q : Option Leaf) → (is_some q ≡ true → ⊥) → q ≡ None
none-of None f = refl
none-of (Some leaf) f = absurd (f refl)

no-half : (m : LeafMap) (x : Name) (own : Leaf) → Disjoint m → get m x ≡ Some own → get m (low_half x) ≡ None
no-half m x own apart there =
    none-of (get m (low_half x)) (λ h.
    let e = apart x (low_half x) (ap is_some there) h (overlap-sym (low_half x) x (over-low (low_half x) x (overlap-self (low_half x)))) in
    let d : x.depth ≡ x.depth + 1 = ap (λ (n : Name). n.depth) e in
    omega (arith, d))

own-half : (m : LeafMap) (x : Name) (own : Leaf) → Disjoint m → x.bits < 2 ^ x.depth → get m x ≡ Some own → own_leaf m (low_half x) ≡ Some own
own-half m x own apart range there =
    let deep : x.depth + 1 ≡ 0 → ⊥ = (λ e. omega (arith, e)) in
    ap (λ q. or_else q (if x.depth + 1 == 0 then None else get m (whole (low_half x)))) (no-half m x own apart there)
    ∙ ap (λ c. if c then None else get m (whole (low_half x))) (ne_eqb (x.depth + 1) 0 deep)
    ∙ ap (get m) (whole-low x range) ∙ there

own-same : (m : LeafMap) (x : Name) (own : Leaf) → get m x ≡ Some own → own_leaf m x ≡ Some own
own-same m x own there = ap (λ q. or_else q (if x.depth == 0 then None else get m (whole x))) there

pub own-made : (t : Task) (m : LeafMap) (x n : Name) (own : Leaf) → n ≡ made_name x t → Disjoint m → x.bits < 2 ^ x.depth → get m x ≡ Some own
    → own_leaf m n ≡ Some own
own-made (Join via) m x n own e apart range there = ap (own_leaf m) e ∙ own-same m x own there
own-made Split m x n own e apart range there = ap (own_leaf m) e ∙ own-half m x own apart range there

-- what replaces it
same-self : (q : Name) → (q.bits == q.bits && q.depth == q.depth) ≡ true
same-self q = grind (arith, nat_tests)

put-self : (m : LeafMap) (leaf : Leaf) → get (put m leaf) leaf.name ≡ Some leaf
put-self m leaf =
    get-with (cut m leaf.name) leaf.name leaf leaf.name
    ∙ ap (λ c. cond c (Some leaf) (get (cut m leaf.name) leaf.name)) (same-self leaf.name)

abbrev Put : Bool → LeafMap → Leaf → Leaf → LeafMap
Put c m own leaf = if c then put m leaf else put (put (remove m own.name) (low_of leaf)) (high_of leaf)

new-same : (m : LeafMap) (x : Name) (own made : Leaf) → made.name ≡ x → own.name ≡ x → New (replaced m own made) x made
new-same m x own made e f =
    let same = eq-eqb own.name.depth made.name.depth (ap (λ (n : Name). n.depth) (f ∙ sym e)) in
    joined e (ap (get (replaced m own made)) (sym e) ∙ ap (λ c. get (Put c m own made) made.name) same ∙ put-self m made)

low-is : (x : Name) → x.bits < 2 ^ x.depth → is_low (low_half x) ≡ true
low-is x range =
    let d : x.depth + 1 - 1 ≡ x.depth = omega arith in
    ap (λ j. nat_lt x.bits (2 ^ j)) d ∙ grind (arith, nat_tests, range)

halves-put : (m : LeafMap) (x : Name) (own made : Leaf) → made.name ≡ low_half x → own.name ≡ x → x.bits < 2 ^ x.depth
    → replaced m own made ≡ put (put (remove m own.name) made) (sibling made)
halves-put m x own made e f range =
    let up : own.name.depth ≡ x.depth = ap (λ (n : Name). n.depth) f in
    let down : made.name.depth ≡ x.depth + 1 = ap (λ (n : Name). n.depth) e in
    let other = ne_eqb own.name.depth made.name.depth (λ k. omega (arith, k, up, down)) in
    let low : is_low made.name ≡ true = ap is_low e ∙ low-is x range in
    ap (λ c. Put c m own made) other
    ∙ ap (λ c. put (put (remove m own.name) (if c then made else sibling made)) (if c then sibling made else made)) low

new-halves : (m : LeafMap) (x : Name) (own made : Leaf) → made.name ≡ low_half x → own.name ≡ x → x.bits < 2 ^ x.depth
    → New (replaced m own made) x made
new-halves m x own made e f range =
    let is = halves-put m x own made e f range in
    let rest = put (remove m own.name) made in
    let down : made.name.depth ≡ x.depth + 1 = ap (λ (n : Name). n.depth) e in
    let deep : 1 ≤ made.name.depth = omega (arith, down) in
    split e
    (ap (get (replaced m own made)) (sym e) ∙ ap (λ k. get k made.name) is
    ∙ put-apart rest (sibling made) made.name (halves-apart made.name deep) ∙ put-self (remove m own.name) made)
    (ap (λ n. get (replaced m own made) (other_half n)) (sym e) ∙ ap (λ k. get k (other_half made.name)) is ∙ put-self rest (sibling made))

pub new-made : (t : Task) (m : LeafMap) (x : Name) (own made : Leaf) → made.name ≡ made_name x t → own.name ≡ x → x.bits < 2 ^ x.depth
    → New (replaced m own made) x made
new-made (Join via) m x own made e f range = new-same m x own made e f
new-made Split m x own made e f range = new-halves m x own made e f range

-- a lease over the name
or-first : (a b : Bool) → (a || b) ≡ true → a ≡ false → b ≡ true
or-first true b h e = cc
or-first false b h e = h

finds-if : (c : Bool) (n : Name) (q : Option Name) → (c ≡ false → is_some q ≡ true) → is_some (if c then Some n else q) ≡ true
finds-if true n q f = refl
finds-if false n q f = f refl

pub given-finds : (ls : List Lease) (x n : Name) (h : ℕ) → overlaps x n ≡ true → is_given ls x h ≡ true → is_some (lease_of ls n h) ≡ true
given-finds [] x n h e g = cc
given-finds (l ∷ ls) x n h e g =
    finds-if (l.holder == h && overlaps l.name n) l.name (lease_of ls n h) (λ other.
    given-finds ls x n h e (or-first (is_lease x h l) (is_given ls x h) g (not-it other)))
  where
    not-it : (l.holder == h && overlaps l.name n) ≡ false → is_lease x h l ≡ false
    not-it other = elim (cases_Bool (is_lease x h l)) [
      | inl k ↦
          let p = and_parts (l.holder == h) (same_name l.name x) k in
          let over : overlaps l.name n ≡ true = ap (λ i. overlaps i n) (same-is l.name x p.1) ∙ e in
          absurd (both_ways (l.holder == h && overlaps l.name n) other (and_from (l.holder == h) (overlaps l.name n) p.0 over))
      | inr k ↦ k
    ]

-- the letter
abbrev pub Installed : OpenOrder → Name → Leaf → Seat → List (NodeNo × Letter) → Type 0
Installed o x made n ls = New n.own.leaves x made × (says (Some o) x (sent ls) ≡ installed ∷ [])

pub install-done : (j : ℕ) (l : Letter) (m n : Seat) (ls : List (NodeNo × Letter)) (number : ℕ) (made own : Leaf) (o : OpenOrder) (x : Name)
    → Hears j m l ls n → l ≡ letter.Install number made → (o.number == number && same_name o.name x) ≡ true → MayInstall m.own own made j
    → New (replaced m.own.leaves own made) x made → Installed o x made n ls
install-done j l m n ls number made own o x (installs i leaf mine may) e its can new =
    let is : leaf ≡ made = cc in
    let at : i ≡ number = cc in
    let mine_is = ap (λ (k : Leaf). own_leaf m.own.leaves k.name) (sym is) ∙ may.there in
    let same : own ≡ mine = same-leaf (own_leaf m.own.leaves made.name) own mine can.there mine_is in (
      subst (λ k. New (replaced m.own.leaves mine k) x made) (sym is) (subst (λ k. New (replaced m.own.leaves k made) x made) same new),
      ap (λ c. one c installed ++ []) (ap (λ k. o.number == k && same_name o.name x) at ∙ its),
    )
install-done j l m _ ls number made own o x (installs_not i leaf f) e its can new =
    let is : leaf ≡ made = cc in absurd (f own (subst (λ k. MayInstall m.own own k j) (sym is) can))
install-done j l m n ls number made own o x (gives i what leaf there free stamp unknown) e its can new = cc
install-done j l m _ ls number made own o x (denies i what why) e its can new = cc
install-done j l m n ls number made own o x (releases i name) e its can new = cc
install-done j l m _ ls number made own o x (sends_part i name place last pairs given_it there) e its can new = cc
install-done j l m _ ls number made own o x (sends_none i name place c) e its can new = cc
install-done j l m n ls number made own o x (grants i leaf p finds) e its can new = cc
install-done j l m _ ls number made own o x (grants_not i leaf c) e its can new = cc
install-done j l m n ls number made own o x (is_refused i why p finds) e its can new = cc
install-done j l m _ ls number made own o x (refused_not i why c) e its can new = cc
install-done j l m n ls number made own o x (copies i last pairs p finds) e its can new = cc
install-done j l m _ ls number made own o x (copies_not i last pairs c) e its can new = cc
install-done j l m n ls number made own o x (is_installed i name p finds) e its can new = cc
install-done j l m _ ls number made own o x (installed_not i name c) e its can new = cc
install-done j l m n ls number made own o x (learns below other) e its can new = cc
install-done j l m _ ls number made own o x (hears_other _ c) e its can new = absurd (both_ways (is_of_orders l) c (ap is_of_orders e))
