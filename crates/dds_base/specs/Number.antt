use Rattle.std.specs.Prelude.{ℕ, Bool, ◌==◌, ◌&&◌, ◌||◌, nat_lt}

-- an attempt of a call: the library's node number, and that library's number of the attempt
pub record Txn : Type 0 where
  pub library : ℕ
  pub number : ℕ

-- both are the same attempt
abbrev pub same_txn : Txn → Txn → Bool
same_txn a b = a.library == b.library && a.number == b.number

-- which leaf a node made: the maker's node number (255 for an opening leaf) and its count of leaves made before
pub record StampOf : Type 0 where
  pub maker : ℕ
  pub count : ℕ

-- the number is a node's, or that of the maker of an opening leaf
abbrev pub is_maker : ℕ → Bool
is_maker maker = nat_lt maker 80 || maker == 255
