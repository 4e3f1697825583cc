-- What a page says, where no field of it is refused.
use Rattle.std.specs.Prelude.{ℕ, Option, None, Some, List}
use Rattle.dds_pages.specs.Fields.{form_1, form_2}
use Rattle.dds_pages.specs.Root.{Root, root_fault, root_of}
use Rattle.dds_pages.specs.Bucket.{Bucket, bucket_fault, bucket_of}
use Rattle.dds_pages.specs.Overflow.{Overflow, overflow_fault, overflow_of}

-- what was read, where no field is refused
abbrev pub accepted : {X : Type 0} → Option ℕ → X → Option X
accepted None x = Some x
accepted (Some at) x = None

-- what a page says as a root page
unfoldable pub root_in : List ℕ → Option Root
root_in page = accepted (root_fault 2 page) (root_of page)

-- what a page says as a bucket page
unfoldable pub bucket_in : List ℕ → Option Bucket
bucket_in page = accepted (bucket_fault form_2 page) (bucket_of form_2 page)

-- what a page says as an overflow page
unfoldable pub overflow_in : List ℕ → Option Overflow
overflow_in page = accepted (overflow_fault page) (overflow_of page)

-- what a page says as a root page of version 1
unfoldable pub old_root_in : List ℕ → Option Root
old_root_in page = accepted (root_fault 1 page) (root_of page)

-- what a page says as a bucket page of version 1
unfoldable pub old_bucket_in : List ℕ → Option Bucket
old_bucket_in page = accepted (bucket_fault form_1 page) (bucket_of form_1 page)
