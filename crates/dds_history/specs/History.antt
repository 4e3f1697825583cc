use Rattle.std.specs.Prelude.{◌≡◌, List, [], ◌∷◌}
use Rattle.std.specs.FinMap.{empty}
use Rattle.dds_history.specs.Map.{Map, after, reply_to}
use Rattle.dds_history.specs.declared.entry.Entry.{Entry}

-- the table after all operations of a history, from a table on
abbrev pub replay_from : Map → List Entry → Map
replay_from m [] = m
replay_from m (e ∷ es) = replay_from (after m e.op) es

-- the table after all operations of a history, from the empty one
abbrev pub replay : List Entry → Map
replay es = replay_from empty es

-- each entry's reply is the one that its operation gives on the table which the entries before it leave
abbrev pub IsLegalFrom : Map → List Entry → Type 0
IsLegalFrom m [] = Unit {0}
IsLegalFrom m (e ∷ es) = (e.reply ≡ reply_to m e.op) × IsLegalFrom (after m e.op) es

-- the history is one that a single map gives, from the empty table
abbrev pub IsLegal : List Entry → Type 0
IsLegal es = IsLegalFrom empty es
