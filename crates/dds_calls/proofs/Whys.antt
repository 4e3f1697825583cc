use Rattle.std.proofs.Common.{◌≡◌, ◌⊎◌, inl, inr, ◌&&◌, Bool, true, false, Option, Some, None, refl, sym}
use Rattle.std.proofs.Common.{ap, ◌∙◌}
use Rattle.std.specs.Prelude.{is_some, if◌then◌else◌}
use Rattle.dds_base.specs.Name.{Name, same_name}
use Rattle.dds_base.specs.Number.{Txn, StampOf}
use Rattle.dds_base.specs.declared.leaf.Leaf.{Leaf}
use Rattle.dds_brick_rows.specs.Refusal.{as_denial, stale_against}
use Rattle.dds_groups.specs.Leaves.{same_stamp}
use Rattle.dds_letters.specs.declared.refusal.Denial.TheVariants as denial
use Rattle.dds_letters.specs.declared.refusal.Refusal.{Refusal}
use Rattle.dds_letters.specs.declared.refusal.Refusal.TheVariants as refusal
use Rattle.dds_states.specs.Turn.{first_some, when}

-- What a refusal says of the brick that refused.

pub get-lease : (j : Bool) (st : Option Refusal) (locked : Bool) → ((r : Refusal) → st ≡ Some r → r ≡ refusal.Lease → ⊥)
    → first_some (when j refusal.Lease) (first_some st (when locked refusal.Lock)) ≡ Some refusal.Lease → j ≡ true
get-lease true st locked f e = refl
get-lease false (Some r) locked f e = let is : r ≡ refusal.Lease = cc in absurd (f r refl is)
get-lease false None true f e = cc
get-lease false None false f e = cc

pub get-lock : (j : Bool) (st : Option Refusal) (locked : Bool) → ((r : Refusal) → st ≡ Some r → r ≡ refusal.Lock → ⊥)
    → first_some (when j refusal.Lease) (first_some st (when locked refusal.Lock)) ≡ Some refusal.Lock → locked ≡ true
get-lock true st locked f e = cc
get-lock false (Some r) locked f e = let is : r ≡ refusal.Lock = cc in absurd (f r refl is)
get-lock false None true f e = refl
get-lock false None false f e = cc

pub get-stale : (j : Bool) (st : Option Refusal) (locked : Bool) (leaf : Option Leaf)
    → first_some (when j refusal.Lease) (first_some st (when locked refusal.Lock)) ≡ Some (refusal.Stale leaf) → is_some st ≡ true
get-stale true st locked leaf e = cc
get-stale false (Some r) locked leaf e = refl
get-stale false None true leaf e = cc
get-stale false None false leaf e = cc

pub update-lease : (j : Bool) (st : Option Refusal) (leased locked : Bool) → ((r : Refusal) → st ≡ Some r → r ≡ refusal.Lease → ⊥)
    → first_some (when j refusal.Lease) (first_some st (first_some (when leased refusal.Lease) (when locked refusal.Lock))) ≡ Some refusal.Lease
    → (j ≡ true) ⊎ (leased ≡ true)
update-lease true st leased locked f e = inl refl
update-lease false (Some r) leased locked f e = let is : r ≡ refusal.Lease = cc in absurd (f r refl is)
update-lease false None true locked f e = inr refl
update-lease false None false true f e = cc
update-lease false None false false f e = cc

pub update-lock : (j : Bool) (st : Option Refusal) (leased locked : Bool) → ((r : Refusal) → st ≡ Some r → r ≡ refusal.Lock → ⊥)
    → first_some (when j refusal.Lease) (first_some st (first_some (when leased refusal.Lease) (when locked refusal.Lock))) ≡ Some refusal.Lock
    → locked ≡ true
update-lock true st leased locked f e = cc
update-lock false (Some r) leased locked f e = let is : r ≡ refusal.Lock = cc in absurd (f r refl is)
update-lock false None true locked f e = cc
update-lock false None false true f e = refl
update-lock false None false false f e = cc

pub update-stale : (j : Bool) (st : Option Refusal) (leased locked : Bool) (leaf : Option Leaf)
    → first_some (when j refusal.Lease) (first_some st (first_some (when leased refusal.Lease) (when locked refusal.Lock))) ≡ Some (refusal.Stale leaf)
    → is_some st ≡ true
update-stale true st leased locked leaf e = cc
update-stale false (Some r) leased locked leaf e = refl
update-stale false None true locked leaf e = cc
update-stale false None false true leaf e = cc
update-stale false None false false leaf e = cc

stale-only : (leaf : Option Leaf) (name : Name) (stamp : StampOf) (r : Refusal) → stale_against leaf name stamp ≡ Some r
    → (x : Option Leaf) × (r ≡ refusal.Stale x)
stale-only None name stamp r e = (None, let is : refusal.Stale None ≡ r = cc in sym is)
stale-only (Some leaf) name stamp r e = by (same_name leaf.name name && same_stamp leaf.stamp stamp) e
  where
    by : (b : Bool) → (if b then None else Some (refusal.Stale (Some leaf))) ≡ Some r → (x : Option Leaf) × (r ≡ refusal.Stale x)
    by true f = cc
    by false f = (Some leaf, let is : refusal.Stale (Some leaf) ≡ r = cc in sym is)

pub stale-no-lease : (leaf : Option Leaf) (name : Name) (stamp : StampOf) (r : Refusal) → stale_against leaf name stamp ≡ Some r → r ≡ refusal.Lease → ⊥
stale-no-lease leaf name stamp r e f = let k = stale-only leaf name stamp r e in let both : refusal.Stale k.0 ≡ refusal.Lease = sym k.1 ∙ f in cc

pub stale-no-lock : (leaf : Option Leaf) (name : Name) (stamp : StampOf) (r : Refusal) → stale_against leaf name stamp ≡ Some r → r ≡ refusal.Lock → ⊥
stale-no-lock leaf name stamp r e f = let k = stale-only leaf name stamp r e in let both : refusal.Stale k.0 ≡ refusal.Lock = sym k.1 ∙ f in cc

pub held : (o : Option Txn) → is_some o ≡ true → (x : Txn) × (o ≡ Some x)
held None e = cc
held (Some x) e = (x, refl)

-- what an update's denial says
pub was-refused : (r : Option Refusal) (full : Bool) (why : Refusal)
    → first_some (as_denial r) (when full denial.Full) ≡ Some (denial.Refused why) → r ≡ Some why
was-refused None true why e = cc
was-refused None false why e = cc
was-refused (Some x) full why e = let is : x ≡ why = cc in ap Some is

pub was-full : (r : Option Refusal) (full : Bool) → first_some (as_denial r) (when full denial.Full) ≡ Some denial.Full → full ≡ true
was-full None true e = refl
was-full None false e = cc
was-full (Some x) full e = cc
