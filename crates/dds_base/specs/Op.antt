use Rattle.std.specs.Prelude.{ℕ, Bool, true, false}
use Rattle.dds_base.specs.declared.op.Op.{Op}
use Rattle.dds_base.specs.declared.op.Op.TheVariants.{Get, Put, Remove, Swap}

-- the key that an operation is on
abbrev pub the_key : Op → ℕ
the_key (Get key) = key
the_key (Put key value) = key
the_key (Remove key) = key
the_key (Swap key expected value) = key

-- the operation changes nothing
abbrev pub is_get : Op → Bool
is_get (Get key) = true
is_get (Put key value) = false
is_get (Remove key) = false
is_get (Swap key expected value) = false
