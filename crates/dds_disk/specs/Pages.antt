-- What the calls of a disk do to its pages.
use Rattle.std.specs.Prelude.{ℕ, ◌≡◌, List, replicate, unwrap_or, Option, None, Some}
use Rattle.std.specs.Ordering.{nat_cmp}
use Rattle.std.specs.FinMap.{FinMap, get, insert}

-- the pages that were written, by their numbers
abbrev pub Pages : Type 0
Pages = FinMap nat_cmp (List ℕ)

-- a page of zeros
unfoldable pub zero_page : List ℕ
zero_page = replicate 4096 0

-- the page of this number: a page never written is zeros
abbrev pub page_at : Pages → ℕ → List ℕ
page_at pages number = unwrap_or (get pages number) zero_page

-- the bytes are the page of this number, and no page changed; whether the pages are told doesn't change
abbrev pub ReadPage : Option Pages → ℕ → List ℕ → Option Pages → Type 0
ReadPage None number bytes None = Unit {0}
ReadPage None number bytes (Some now) = ⊥
ReadPage (Some before) number bytes None = ⊥
ReadPage (Some before) number bytes (Some now) = (bytes ≡ page_at before number) × (now ≡ before)

-- the page of this number became the bytes, and no other page changed; whether the pages are told doesn't change
abbrev pub WrotePage : Option Pages → ℕ → List ℕ → Option Pages → Type 0
WrotePage None number bytes None = Unit {0}
WrotePage None number bytes (Some now) = ⊥
WrotePage (Some before) number bytes None = ⊥
WrotePage (Some before) number bytes (Some now) = now ≡ insert before number bytes
