-- What is kept of attempts from the whole run.
use Rattle.std.specs.Prelude.{ℕ, ◌==◌, ◌||◌, Bool, false, List, [], ◌∷◌, Option, Some, None, if◌then◌else◌}
use Rattle.std.specs.FinMap.{get}
use Rattle.dds_base.specs.Number.{Txn}
use Rattle.dds_core.specs.Brick.{live_brick_turn, brick_input}
use Rattle.dds_core.specs.LibraryTurn.{live_library_turn}
use Rattle.dds_states.specs.declared.brick_state.BrickState.{BrickState}
use Rattle.dds_states.specs.declared.library_state.LibraryState.{LibraryState}
use Rattle.dds_net.specs.Event.{Event, brick_takes, brick_told, library_takes, library_asked, History, asked_turn}
use Rattle.dds_net.specs.Net.{Net, put}
use Rattle.dds_talk.specs.Seen.{call_of, is_committing, members_in, noting}

-- the outcome that each brick noted last of each attempt (a live brick never changes it; trimming and stops don't drop it), an
-- update's members, none of another attempt, and whether a commit was decided
pub record Books : Type 0 where
  pub noted : ℕ → Txn → Option Bool
  pub list : Txn → List ℕ
  pub decided : Txn → Bool

abbrev pub no_books : Books
no_books = record { noted = λ n t. None; list = λ t. []; decided = λ t. false }

-- Books are overlays of the nodes: what a node has now is in them, and else what was in them before. So they depend on no row.

abbrev pub is_yes : Option Bool → Bool
is_yes None = false
is_yes (Some b) = b

-- a brick is so now: what it has noted; a commit that it noted was decided
abbrev pub with_brick : ℕ → BrickState → Books → Books
with_brick n s b =
    record { noted = put n (noting s.locks.outcomes (b.noted n)) b.noted; list = b.list; decided = λ t. b.decided t || is_yes (get s.locks.outcomes t) }

-- a library is so now: an attempt has the members that its call had first, and a commit is decided where its call commits
abbrev pub or_else : List ℕ → List ℕ → List ℕ
or_else [] other = other
or_else (n ∷ ns) other = n ∷ ns

abbrev pub with_library : ℕ → LibraryState → Books → Books
with_library n s b =
    record {
      noted = b.noted;
      list = λ t. if t.library == n then or_else (b.list t) (members_in (call_of s.calls t)) else b.list t;
      decided = λ t. if t.library == n then b.decided t || is_committing (call_of s.calls t) else b.decided t;
    }

abbrev pub adds : History → Net → Event → Books → Books
adds h n (brick_takes at from l s) b = with_brick at (live_brick_turn s from l).state b
adds h n (brick_told at o s) b = with_brick at (brick_input s o).state b
adds h n (library_takes at from l s) b = with_library at (live_library_turn s from l).state b
adds h n (library_asked at caller call o s) b = with_library at (asked_turn s caller call o).state b
adds h n other b = b
