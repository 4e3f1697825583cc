use Rattle.std.specs.Prelude.{ℕ, Bool, ◌==◌, ◌&&◌, ◌||◌, not, nat_lt, is_some}
use Rattle.dds_base.specs.Name.{same_name}
use Rattle.dds_base.specs.Number.{StampOf}
use Rattle.dds_base.specs.BrickList.{has}
use Rattle.dds_base.specs.declared.leaf.Leaf.{Leaf}
use Rattle.dds_groups.specs.Names.{is_half}
use Rattle.dds_groups.specs.Leaves.{same_stamp, newer, successor}

-- the stamp's maker is a node, and it is known to have stopped
abbrev pub maker_known : (ℕ → Bool) → StampOf → Bool
maker_known known stamp = nat_lt stamp.maker 80 && known stamp.maker

-- the second leaf was made from the same leaf as the first one, whose maker has stopped, and is the newer of the two
abbrev pub is_better_rival : (ℕ → Bool) → Leaf → Leaf → Bool
is_better_rival known own leaf =
    same_stamp own.prev leaf.prev && own.epoch == leaf.epoch && not (same_stamp own.stamp leaf.stamp) && maker_known known own.stamp && newer leaf own

-- brick `me` replaces its leaf `own` by a leaf that it is told, of the same name or of a half of it: the told leaf's
-- maker has stopped, lists `me`, and comes from `own` in one step or is the better one of two that come from the same
-- leaf. `known` tells which nodes are known to have stopped. `free` says that no lease and no open join of `me`
-- overlaps the name of `own`, and that none of its keys is locked.
abbrev pub may_take : ℕ → Leaf → Leaf → (ℕ → Bool) → Bool → Bool
may_take me own leaf known free =
    free && has leaf.list me && maker_known known leaf.stamp && (same_name own.name leaf.name || is_half own.name leaf.name)
    && (is_some (successor own leaf) || is_better_rival known own leaf)
