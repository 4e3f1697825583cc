use Rattle.std.proofs.Common.{◌≡◌, ℕ, ◌==◌, ◌&&◌, ◌||◌, ◌++◌, ◌⊎◌, inl, inr, Bool, true, false, not, Option, Some, None, List, [], ◌∷◌, refl, sym, ap, ◌∙◌}
use Rattle.std.proofs.Common.{subst}
use Rattle.std.proofs.lemmas.Bool.{cases_Bool, cases_eq, ne_eqb}
use Rattle.dds_base.specs.BrickList.{has}
use Rattle.dds_base.specs.NodeSet.{has_node, with_node}
use Rattle.dds_base.specs.declared.leaf.Leaf.{Leaf}
use Rattle.dds_base.specs.declared.node_set.NodeSet.{NodeSet}
use Rattle.dds_base.specs.declared.number.NodeNo.{NodeNo}
use Rattle.dds_brick_rows.specs.Refusal.{is_join}
use Rattle.dds_core.proofs.Known.{has-with}
use Rattle.dds_groups.proofs.Members.{has-live}
use Rattle.dds_groups.specs.Leaves.{live}
use Rattle.dds_law_own.proofs.Lists.{has-kept, has-last}
use Rattle.dds_law_own.proofs.Owned.{IsOrderly, orderly}
use Rattle.dds_law_own.proofs.Parted.{IsBoth}
use Rattle.dds_letters.specs.declared.letter.Letter.{Letter}
use Rattle.dds_order_rows.specs.OwnOrder as order
use Rattle.dds_states.specs.Turn.{is_none_left, unknown, unknown_others, without}
use Rattle.dds_states.specs.declared.brick_state.BrickState.{BrickState}
use Rattle.dds_states.specs.declared.brick_state.OpenOrder.{OpenOrder}
use Rattle.dds_states.specs.declared.brick_state.OrderPhase.{OrderPhase}
use Rattle.dds_states.specs.declared.brick_state.OrderPhase.TheVariants.{Copying, Installing, Leasing}
use Rattle.dds_states.specs.declared.brick_state.Task.{Task}
use Rattle.dds_states.specs.declared.brick_state.Task.TheVariants.{Join, Split}
use Rattle.dds_orders.proofs.Deeds.{Deed, IsReady, Path, Seat, asks_more, closes, copies, drops, fixes, joins, loses, makes, new_order, over, pends, says}
use Rattle.dds_orders.proofs.Deeds.{serves, split_asked, splits, step, takes, widened}
use Rattle.dds_orders.proofs.Numbers.{has-append, the-order}
use Rattle.dds_orders.proofs.Standing.{deed-both, heard-both}
use Rattle.dds_orders.proofs.Turns.{Hears, copies_not, denies, gives, grants, grants_not, hears_other, installed_not, installs, installs_not}
use Rattle.dds_orders.proofs.Turns.{is_installed, is_refused, learns, refused_not, releases, sends_none, sends_part}
use Rattle.dds_orders.proofs.Turns.{copies as copies_part}

-- The invariant, of one brick's open order by itself: whom it has asked, and who lists whom.
--
-- | part | why it is needed | which rows keep it |
-- |---|---|---|
-- | `members`: a member of the order's leaf is the brick itself, was asked, has granted, or is known | claimed | the order Split; Granted, where it |
-- | to have stopped                                                                                  |         | fixes a leaf                       |
-- | `asked`: who was asked has granted, is known to have stopped, or is waited for while the order   | claimed | Granted; Notice; what begins to    |
-- | leases                                                                                           |         | copy or to install                 |
-- | `made`: a member of the order's leaf is in the leaf that was made, or known to have stopped      | claimed | what begins to install             |

pub data Member (me : ℕ) (known : NodeSet) (o : OpenOrder) (n : ℕ) : Type 0 where
  itself : n ≡ me → Member me known o n
  is_asked : has o.asked n ≡ true → Member me known o n
  granted : has o.granted n ≡ true → Member me known o n
  gone : has_node known n ≡ true → Member me known o n

pub data Answer (known : NodeSet) (o : OpenOrder) (n : ℕ) : Type 0 where
  gave : has o.granted n ≡ true → Answer known o n
  stopped : has_node known n ≡ true → Answer known o n
  waits : order.is_leasing o.phase ≡ true → has o.waiting n ≡ true → Answer known o n

pub record Asking (me : ℕ) (known : NodeSet) (o : OpenOrder) : Type 0 where
  pub members : (leaf : Leaf) → o.leaf ≡ Some leaf → (n : ℕ) → has leaf.list n ≡ true → Member me known o n
  pub asked : (n : ℕ) → has o.asked n ≡ true → Answer known o n
  pub made :
      (leaf made : Leaf) → o.leaf ≡ Some leaf → o.phase ≡ Installing made → (n : ℕ) → has leaf.list n ≡ true
      → (has made.list n ≡ true) ⊎ (has_node known n ≡ true)

abbrev pub AskedBy : ℕ → NodeSet → Option OpenOrder → Type 0
AskedBy me known q = (o : OpenOrder) → q ≡ Some o → Asking me known o

none-asked : (me : ℕ) (known : NodeSet) → AskedBy me known None
none-asked me known o e = cc

that-order : (me : ℕ) (known : NodeSet) (p : OpenOrder) → Asking me known p → AskedBy me known (Some p)
that-order me known p h o e = subst (Asking me known) (the-order p o e) h

-- the order goes on
pub record Further (known also : NodeSet) (o p : OpenOrder) : Type 0 where
  pub known_more : (n : ℕ) → has_node known n ≡ true → has_node also n ≡ true
  pub leaf : p.leaf ≡ o.leaf
  pub asked : p.asked ≡ o.asked
  pub granted_more : (n : ℕ) → has o.granted n ≡ true → has p.granted n ≡ true
  pub waits : (n : ℕ) → order.is_leasing o.phase ≡ true → has o.waiting n ≡ true → Answer also p n
  pub made : (made : Leaf) → p.phase ≡ Installing made → o.phase ≡ Installing made

further : (me : ℕ) (known also : NodeSet) (o p : OpenOrder) → Further known also o p → Asking me known o → Asking me also p
further me known also o p f h =
    record {
      members = λ leaf e n k. member n (h.members leaf (sym f.leaf ∙ e) n k);
      asked = λ n k. answer n (h.asked n (ap (λ ns. has ns n) (sym f.asked) ∙ k));
      made = λ leaf made e i n k. elim (h.made leaf made (sym f.leaf ∙ e) (f.made made i) n k) [ inl a ↦ inl a | inr a ↦ inr (f.known_more n a) ];
    }
  where
    member : (n : ℕ) → Member me known o n → Member me also p n
    member n (itself e) = itself e
    member n (is_asked e) = is_asked (ap (λ ns. has ns n) f.asked ∙ e)
    member n (granted e) = granted (f.granted_more n e)
    member n (gone e) = gone (f.known_more n e)

    answer : (n : ℕ) → Answer known o n → Answer also p n
    answer n (gave e) = gave (f.granted_more n e)
    answer n (stopped e) = stopped (f.known_more n e)
    answer n (waits l e) = f.waits n l e

-- lists
none-left : (ns : List ℕ) (n : ℕ) → is_none_left ns ≡ true → has ns n ≡ true → ⊥
none-left [] n e h = let no : false ≡ true = h in cc
none-left (m ∷ ns) n e h = cc

pub or-left : (a b : Bool) → a ≡ true → (a || b) ≡ true
or-left true b e = refl
or-left false b e = cc

pub or-right : (a b : Bool) → b ≡ true → (a || b) ≡ true
or-right true b e = refl
or-right false b e = e

has-first : (xs ys : List ℕ) (n : ℕ) → has xs n ≡ true → has (xs ++ ys) n ≡ true
has-first xs ys n h = has-append xs ys n ∙ or-left (has xs n) (has ys n) h

has-second : (xs ys : List ℕ) (n : ℕ) → has ys n ≡ true → has (xs ++ ys) n ≡ true
has-second xs ys n h = has-append xs ys n ∙ or-right (has xs n) (has ys n) h

parts-or : (a b : Bool) → (a || b) ≡ true → (a ≡ true) ⊎ (b ≡ true)
parts-or true b h = inl refl
parts-or false b h = inr h

still-there : (ns : List ℕ) (y n : ℕ) → (n ≡ y → ⊥) → has ns n ≡ true → has (without ns y) n ≡ true
still-there ns y n ne h = has-kept (λ k. not (k == y)) ns n (ap not (ne_eqb n y ne)) h

others-of : (ns : List ℕ) (from n : ℕ) (known : NodeSet) → has ns n ≡ true
    → (n ≡ from) ⊎ (has_node known n ≡ true) ⊎ (has (unknown_others ns from known) n ≡ true)
others-of ns from n known h = elim (cases_eq n from) [
  | inl e ↦ inl e
  | inr ne ↦ elim (cases_Bool (has_node known n)) [
    | inl k ↦ inr (inl k)
    | inr k ↦ inr (inr (still-there (unknown ns known) from n ne (has-live ns (has_node known) n ∙ ap (λ c. c && not (has_node known n)) h ∙ ap not k)))
  ]
]

leasing-not-made : (p : OrderPhase) → order.is_leasing p ≡ true → order.is_installing p ≡ true → ⊥
leasing-not-made Leasing h k = cc
leasing-not-made (Copying source) h k = cc
leasing-not-made (Installing made) h k = cc

copying-not : (source : ℕ) (made : Leaf) → Copying source ≡ Installing made → ⊥
copying-not source made e = cc

leasing-is-not : (made : Leaf) → Leasing ≡ Installing made → ⊥
leasing-is-not made e = cc

made-is : (a b : Leaf) → Installing a ≡ Installing b → a ≡ b
made-is a b e = cc

some-is : (a b : Leaf) → Some a ≡ Some b → a ≡ b
some-is a b e = cc

-- the leaf that is made lists who takes part
part-of : (s : BrickState) (o : OpenOrder) (leaf : Leaf) (n : ℕ) → has leaf.list n ≡ true → has_node s.known n ≡ false → has o.granted n ≡ true
    → has (order.parting s o leaf) n ≡ true
part-of s o leaf n h k g =
    has-kept (order.takes_part s o) (live leaf.list (has_node s.known)) n (or-left (has o.granted n) (not (is_join o.task) && n == s.number) g)
    (has-live leaf.list (has_node s.known) n ∙ ap (λ c. c && not (has_node s.known n)) h ∙ ap not k)

made-lists : (s : BrickState) (o : OpenOrder) (leaf : Leaf) (t : Task) (n : ℕ) → has (order.parting s o leaf) n ≡ true
    → has (order.made_leaf s o leaf t).list n ≡ true
made-lists s o leaf (Join via) n h = has-first (order.parting s o leaf) (s.number ∷ []) n h
made-lists s o leaf Split n h = h

-- who was asked granted, where nobody is waited for
all-gave : (known : NodeSet) (o : OpenOrder) (n : ℕ) → IsReady o → Answer known o n → (has o.granted n ≡ true) ⊎ (has_node known n ≡ true)
all-gave known o n r (gave e) = inl e
all-gave known o n r (stopped e) = inr e
all-gave known o n r (waits l e) = absurd (none-left o.waiting n (r.none l) e)

gave-or : (known : NodeSet) (o p : OpenOrder) (n : ℕ) → ((k : ℕ) → has o.granted k ≡ true → has p.granted k ≡ true)
    → (has o.granted n ≡ true) ⊎ (has_node known n ≡ true) → Answer known p n
gave-or known o p n f (inl e) = gave (f n e)
gave-or known o p n f (inr e) = stopped e

made-by : (me : ℕ) (known : NodeSet) (o : OpenOrder) (s : BrickState) (leaf made : Leaf) (n : ℕ) → IsReady o → Asking me known o → o.leaf ≡ Some leaf
    → s.known ≡ known → made ≡ order.made_leaf s o leaf o.task → has made.list me ≡ true → has leaf.list n ≡ true
    → (has made.list n ≡ true) ⊎ (has_node known n ≡ true)
made-by me known o s leaf made n r h fixed same is mine k = elim (cases_Bool (has_node known n)) [
  | inl e ↦ inr e
  | inr e ↦ from-member e (h.members leaf fixed n k)
]
  where
    takes : has_node known n ≡ false → has o.granted n ≡ true → has made.list n ≡ true
    takes e g =
        ap (λ (l : Leaf). has l.list n) is ∙ made-lists s o leaf o.task n (part-of s o leaf n k (ap (λ q. has_node q n) same ∙ e) g)

    from-asked : has_node known n ≡ false → (has o.granted n ≡ true) ⊎ (has_node known n ≡ true) → (has made.list n ≡ true) ⊎ (has_node known n ≡ true)
    from-asked e (inl g) = inl (takes e g)
    from-asked e (inr g) = inr g

    from-member : has_node known n ≡ false → Member me known o n → (has made.list n ≡ true) ⊎ (has_node known n ≡ true)
    from-member e (itself i) = inl (ap (has made.list) i ∙ mine)
    from-member e (is_asked a) = from-asked e (all-gave known o n r (h.asked n a))
    from-member e (granted g) = inl (takes e g)
    from-member e (gone g) = inr g

pub deed-asked : (me : ℕ) (x y : Seat) (ls : List (NodeNo × Letter)) → Deed x ls y → IsBoth me x.own → AskedBy me x.own.known x.own.order
    → AskedBy me y.own.known y.own.order
deed-asked me x _ ls (says _ others) b h = h
deed-asked me x y ls (takes mine leaf may) b h = h
deed-asked me x y ls (pends p may) b h = h
deed-asked me x y ls (drops txn) b h = h
deed-asked me x y ls (joins name via may) b h =
    that-order me x.own.known (new_order x (Join via) name None (via ∷ [])) (record {
      members = λ leaf e n k. let no : None ≡ Some leaf = e in cc;
      asked = λ n k. waits refl k;
      made = λ leaf made e i n k. absurd (leasing-is-not made i);
    })
deed-asked me x y ls (splits leaf may) b h =
    let o = new_order x Split leaf.name (Some leaf) (split_asked x leaf) in
    that-order me x.own.known o (record {
      members = λ l e n k. elim (others-of leaf.list x.own.number n x.own.known (ap (λ (q : Leaf). has q.list n) (some-is leaf l e) ∙ k)) [
        | inl is ↦ itself (is ∙ b.0.number)
        | inr (inl is) ↦ gone is
        | inr (inr is) ↦ is_asked is
      ];
      asked = λ n k. waits refl k;
      made = λ l made e i n k. absurd (leasing-is-not made i);
    })
deed-asked me x y ls (loses o m e known) b h =
    let p = record o { waiting = without o.waiting m } in
    that-order me x.own.known p (further me x.own.known x.own.known o p (record {
      known_more = λ n k. k;
      leaf = refl;
      asked = refl;
      granted_more = λ n k. k;
      waits = λ n l k. elim (cases_eq n m) [
        | inl is ↦ stopped (ap (has_node x.own.known) is ∙ known)
        | inr ne ↦ waits l (still-there o.waiting m n ne k)
      ];
      made = λ made i. i;
    }) (h o e))
deed-asked me x y ls (fixes o from leaf e may) b h =
    let p = widened x o from leaf in
    let new = unknown_others leaf.list from x.own.known in
    that-order me x.own.known p (record {
      members = λ l f n k. elim (others-of leaf.list from n x.own.known (ap (λ (q : Leaf). has q.list n) (some-is leaf l f) ∙ k)) [
        | inl is ↦ granted (ap (has o.granted) is ∙ may.granted)
        | inr (inl is) ↦ gone is
        | inr (inr is) ↦ is_asked (has-second o.asked new n is)
      ];
      asked = λ n k. elim (parts-or (has o.asked n) (has new n) (sym (has-append o.asked new n) ∙ k)) [
        | inl a ↦ elim ((h o e).asked n a) [
          | gave g ↦ gave g
          | stopped g ↦ stopped g
          | waits l g ↦ waits l (has-first o.waiting new n g)
        ]
        | inr a ↦ waits may.leasing (has-second o.waiting new n a)
      ];
      made = λ l made f i n k. absurd (leasing-not-made o.phase may.leasing (ap order.is_installing i));
    })
deed-asked me x y ls (copies o leaf source e may) b h =
    let p = record o { copied = []; phase = Copying source } in
    that-order me x.own.known p (further me x.own.known x.own.known o p (record {
      known_more = λ n k. k;
      leaf = refl;
      asked = refl;
      granted_more = λ n k. k;
      waits = λ n l k. absurd (none-left o.waiting n (may.ready.none l) k);
      made = λ made i. absurd (copying-not source made i);
    }) (h o e))
deed-asked me x _ ls (asks_more o source e phase) b h = h
deed-asked me x y ls (makes o made nodes e may) b h =
    let p = record o { waiting = nodes; phase = Installing made } in
    let m = may.may in
    let after = deed-both me x y ls (makes o made nodes e may) b in
    let it : IsOrderly me p = orderly me (Some p) p refl after.0.order in
    let ok = h o e in
    that-order me x.own.known p (record {
      members = λ l f n k. elim (ok.members l f n k) [
        | itself i ↦ itself i
        | is_asked i ↦ is_asked i
        | granted i ↦ granted i
        | gone i ↦ gone i
      ];
      asked = λ n k. gave-or x.own.known o p n (λ j g. g) (all-gave x.own.known o n may.ready (ok.asked n k));
      made = λ l mk f i n k.
          let is : made ≡ mk = made-is made mk i in
          let leaf : l ≡ m.leaf = some-is l m.leaf (sym f ∙ m.fixed) in
          subst (λ (q : Leaf). (has q.list n ≡ true) ⊎ (has_node x.own.known n ≡ true)) is
          (made-by me x.own.known o m.state m.leaf made n may.ready ok m.fixed m.known m.is it.made.1 (ap (λ (q : Leaf). has q.list n) (sym leaf) ∙ k));
    })
deed-asked me x y ls (closes o e) b h = none-asked me x.own.known
deed-asked me x y ls (serves o made e phase) b h = none-asked me x.own.known

-- a brick with its order, along the deeds of a turn
pub record Orderly (me : ℕ) (x : Seat) : Type 0 where
  pub both : IsBoth me x.own
  pub asked : AskedBy me x.own.known x.own.order

pub path-asked : (me : ℕ) (x z : Seat) (ls : List (NodeNo × Letter)) → Path x ls z → Orderly me x → Orderly me z
path-asked me x _ _ (over _) h = h
path-asked me x z _ (step _ y _ ls ms d w) h =
    path-asked me y z ms w (record { both = deed-both me x y ls d h.both; asked = deed-asked me x y ls d h.both h.asked })

heard-asking : (me from : ℕ) (l : Letter) (x y : Seat) (ls : List (NodeNo × Letter)) → Hears from x l ls y → AskedBy me x.own.known x.own.order
    → AskedBy me y.own.known y.own.order
heard-asking me from l x y ls (gives number what leaf there free stamp unknown) h = h
heard-asking me from l x _ ls (denies number what why) h = h
heard-asking me from l x y ls (releases number name) h = h
heard-asking me from l x _ ls (sends_part number name place last pairs given there) h = h
heard-asking me from l x _ ls (sends_none number name place e) h = h
heard-asking me from l x y ls (installs number leaf mine may) h = h
heard-asking me from l x _ ls (installs_not number leaf f) h = h
heard-asking me from l x y ls (grants number leaf o f) h =
    let p = order.with_grant o from in
    that-order me x.own.known p (further me x.own.known x.own.known o p (record {
      known_more = λ n k. k;
      leaf = refl;
      asked = refl;
      granted_more = λ n k. has-first o.granted (from ∷ []) n k;
      waits = λ n l k. elim (cases_eq n from) [
        | inl is ↦ gave (ap (has (o.granted ++ from ∷ [])) is ∙ has-last o.granted from)
        | inr ne ↦ waits l (still-there o.waiting from n ne k)
      ];
      made = λ made i. i;
    }) (h o f.there))
heard-asking me from l x _ ls (grants_not number leaf e) h = h
heard-asking me from l x y ls (is_refused number why o f) h = none-asked me x.own.known
heard-asking me from l x _ ls (refused_not number why e) h = h
heard-asking me from l x y ls (copies_part number last pairs o f) h =
    let p = record o { copied = o.copied ++ pairs } in
    that-order me x.own.known p (further me x.own.known x.own.known o p (record {
      known_more = λ n k. k;
      leaf = refl;
      asked = refl;
      granted_more = λ n k. k;
      waits = λ n l k. waits l k;
      made = λ made i. i;
    }) (h o f.there))
heard-asking me from l x _ ls (copies_not number last pairs e) h = h
heard-asking me from l x y ls (is_installed number name o f) h =
    let p = record o { waiting = without o.waiting from } in
    that-order me x.own.known p (further me x.own.known x.own.known o p (record {
      known_more = λ n k. k;
      leaf = refl;
      asked = refl;
      granted_more = λ n k. k;
      waits = λ n l k. absurd (leasing-not-made o.phase l f.passes);
      made = λ made i. i;
    }) (h o f.there))
heard-asking me from l x _ ls (installed_not number name e) h = h
heard-asking me from l x y ls (learns below other) h =
    λ o e. further me x.own.known (with_node x.own.known from) o o (record {
      known_more = λ n k. has-with x.own.known from n below ∙ or-right (n == from) (has_node x.own.known n) k;
      leaf = refl;
      asked = refl;
      granted_more = λ n k. k;
      waits = λ n l k. waits l k;
      made = λ made i. i;
    }) (h o e)
heard-asking me from l x _ ls (hears_other _ e) h = h

pub heard-asked : (me from : ℕ) (l : Letter) (x y : Seat) (ls : List (NodeNo × Letter)) → Hears from x l ls y → Orderly me x → Orderly me y
heard-asked me from l x y ls d h = record { both = heard-both me from x y l ls d h.both; asked = heard-asking me from l x y ls d h.asked }
