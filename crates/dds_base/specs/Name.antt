use Rattle.std.specs.Prelude.{ℕ, Bool, ◌==◌, ◌&&◌, ◌%◌, ◌^◌, ◌<◌, min, IsTrue}

-- a partition's name: the keys whose `depth` lowest bits are `bits`
pub record Name : Type 0 where
  pub bits : ℕ
  pub depth : ℕ

-- both names have the same bits and depth
abbrev pub same_name : Name → Name → Bool
same_name a b = a.bits == b.bits && a.depth == b.depth

-- the key's lowest bits are the name's
abbrev pub covers : Name → ℕ → Bool
covers n key = key % 2 ^ n.depth == n.bits

-- the bits that both names have are the same
abbrev pub overlaps : Name → Name → Bool
overlaps a b = a.bits % 2 ^ min a.depth b.depth == b.bits % 2 ^ min a.depth b.depth

-- some key is covered by both names
abbrev pub SharesAKey : Name → Name → Type 0
SharesAKey a b = (key : ℕ) × (key < 2 ^ 64) × IsTrue (covers a key) × IsTrue (covers b key)
