-- The cluster before its first step, and its outboxes and links.
use Rattle.std.specs.Prelude.{ℕ, ◌+◌, ◌-◌, ◌==◌, Bool, true, false, List, [], ◌∷◌, ◌++◌, Option, None, length, filter, nat_lt, replicate, slice_get}
use Rattle.std.specs.Prelude.{slice_index_or, slice_set, if◌then◌else◌, zero, suc, refl}
use Rattle.std.specs.FinMap.{empty}
use Rattle.std.specs.Coded.{Coded, code_by, coded×, coded_ℕ, coded_list}
use Rattle.dds_base.specs.BrickList.{has}
use Rattle.dds_base.specs.NodeSet.{no_nodes}
use Rattle.dds_base.specs.declared.leaf.Leaf.{Leaf}
use Rattle.dds_base.specs.declared.number.NodeNo.{NodeNo}
use Rattle.dds_letters.specs.declared.letter.Letter.{Letter}
use Rattle.dds_maps.specs.Judge.{put_all}
use Rattle.dds_script.specs.Opening.{OpeningOf}
use Rattle.dds_states.specs.declared.brick_state.BrickState.{BrickState}
use Rattle.dds_states.specs.declared.library_state.LibraryState.{LibraryState}
use Rattle.dds_states.specs.contracts.brick_state.BrickState as brick
use Rattle.dds_states.specs.contracts.library_state.LibraryState as library
use Rattle.dds_states.specs.Turn.{numbers_from}
use Rattle.dds_cluster.specs.declared.step.Message.{Message}
use Rattle.dds_cluster.specs.contracts.step.Message as message

-- the cluster: each node's state and outbox, and a link for each ordered pair of nodes. A brick's state stands at its
-- number, library n's at n. Outboxes and links have a place for each node: bricks by number, then libraries. `made`
-- counts the letters made so far.
pub record World : Type 0 where
  pub bricks : List BrickState
  pub libraries : List LibraryState
  pub outboxes : List (List Message)
  pub links : List (List (List Message))
  pub made : ℕ

abbrev pub world_code : Coded World
world_code =
    code_by
    (List BrickState × (List LibraryState × (List (List Message) × (List (List (List Message)) × ℕ))))
    (coded× (coded_list brick.the_row.coded)
    (coded× (coded_list library.the_row.coded)
    (coded× (coded_list (coded_list message.the_row.coded))
    (coded× (coded_list (coded_list (coded_list message.the_row.coded))) coded_ℕ))))
    (λ w. (w.bricks, (w.libraries, (w.outboxes, (w.links, w.made)))))
    (λ p. record { bricks = p.0; libraries = p.1.0; outboxes = p.1.1.0; links = p.1.1.1.0; made = p.1.1.1.1 })
    (λ _. refl)

-- a node's place: bricks 0 to 63 come first, then the libraries
abbrev pub place : World → ℕ → ℕ
place w node = if nat_lt node 64 then node else length w.bricks + (node - 64)

-- what a node's outbox holds
abbrev pub outbox : World → ℕ → List Message
outbox w node = slice_index_or w.outboxes (place w node) []

abbrev pub set_outbox : World → ℕ → List Message → World
set_outbox w node ms = record w { outboxes = slice_set w.outboxes (place w node) ms }

-- what the link from one node to another holds
abbrev pub link : World → ℕ → ℕ → List Message
link w from to = slice_index_or (slice_index_or w.links (place w from) []) (place w to) []

abbrev pub set_link : World → ℕ → ℕ → List Message → World
set_link w from to ms =
    record w { links = slice_set w.links (place w from) (slice_set (slice_index_or w.links (place w from) []) (place w to) ms) }

-- letters as messages, numbered in order
abbrev pub numbered : ℕ → List (NodeNo × Letter) → List Message
numbered n [] = []
numbered n (l ∷ ls) = record { number = n; to = l.0; letter = l.1 } ∷ numbered (n + 1) ls

-- the node at a place leaves letters in its outbox
abbrev pub send : World → ℕ → List (NodeNo × Letter) → World
send w at ls =
    record w { outboxes = slice_set w.outboxes at (slice_index_or w.outboxes at [] ++ numbered w.made ls); made = w.made + length ls }

-- the brick of this node number
abbrev pub brick_at : World → ℕ → Option BrickState
brick_at w node = if nat_lt node 64 then slice_get w.bricks node else None

-- the library of this node number
abbrev pub library_at : World → ℕ → Option LibraryState
library_at w node = if nat_lt node 64 then None else slice_get w.libraries (node - 64)

-- the node is one of the cluster
abbrev pub is_node : World → ℕ → Bool
is_node w node = if nat_lt node 64 then nat_lt node (length w.bricks) else nat_lt (node - 64) (length w.libraries)

-- all nodes: bricks by number, then libraries
abbrev pub all_nodes : World → List NodeNo
all_nodes w = numbers_from (length w.bricks) 0 ++ numbers_from (length w.libraries) 64

-- a brick that has stopped keeps its number alone
abbrev pub emptied : ℕ → BrickState
emptied n =
    record {
      number = n;
      stopped = true;
      known = no_nodes;
      leaves = empty;
      pairs = empty;
      locks = record { pending = []; leases = []; outcomes = empty };
      deferred = [];
      resolving = [];
      order = None;
      orders = 0;
      made = 0;
    }

-- a brick opens with the opening leaves that list it, and no pairs
abbrev pub new_brick : List Leaf → ℕ → BrickState
new_brick leaves n =
    record (emptied n) { stopped = false; leaves = put_all empty (filter (λ l. has l.list n) leaves) }

abbrev pub new_bricks : List Leaf → ℕ → ℕ → List BrickState
new_bricks leaves zero n = []
new_bricks leaves (suc k) n = new_brick leaves n ∷ new_bricks leaves k (n + 1)

-- a library's map opens with the opening leaves, and then the library's own stale leaves are put into it in order
abbrev pub new_library : OpeningOf → ℕ → LibraryState
new_library o n =
    record {
      number = 64 + n;
      stopped = false;
      known = no_nodes;
      bricks = o.bricks;
      map = put_all (put_all empty o.leaves) (filter (λ l. l.stamp.maker == 64 + n) o.old);
      next = 0;
      calls = [];
    }

abbrev pub new_libraries : OpeningOf → ℕ → ℕ → List LibraryState
new_libraries o zero n = []
new_libraries o (suc k) n = new_library o n ∷ new_libraries o k (n + 1)

-- the cluster before its first step: no letter was made
abbrev pub opening_world : OpeningOf → World
opening_world o =
    record {
      bricks = new_bricks o.leaves o.bricks 0;
      libraries = new_libraries o o.libraries 0;
      outboxes = replicate (o.bricks + o.libraries) [];
      links = replicate (o.bricks + o.libraries) (replicate (o.bricks + o.libraries) []);
      made = 0;
    }
