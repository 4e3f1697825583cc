-- A law of what is there where a test holds.
use Rattle.std.proofs.Common.{◌≡◌, Bool, true, false, Some, None, ap, sym}
use Rattle.std.specs.Prelude.{if◌then◌else◌, unwrap_or}

-- what is there, where a test holds, is the item
pub there-is : {X : Type 0} (b : Bool) (x y : X) → (if b then Some x else None) ≡ Some y → y ≡ x
there-is true x y e = sym (ap (λ o. unwrap_or o x) e)
there-is false x y e = absurd (cc)
