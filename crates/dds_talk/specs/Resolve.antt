-- The conversations of a resolver and another live member about one attempt of a stopped library.
use Rattle.std.specs.Prelude.{◌≡◌, Bool, true, false, List, [], ◌∷◌}
use Rattle.dds_talk.specs.Table.{At}
use Rattle.dds_talk.specs.Table.At.{Unprepared, Prepared, Committed, Aborted}

-- the resolver doesn't resolve it, waits for the member, or has heard it; then whether it saw a commit, and a no, of some member
pub data Side : Type 0 where
  Rest : Side
  Wait : Side
  Heard : Bool → Bool → Side

pub data Tell : Type 0 where
  query : Tell
  outcome : Bool → Tell

-- how far the member is fits what was decided
abbrev pub Agreed : Bool → At → Type 0
Agreed true Unprepared = ⊥
Agreed true Prepared = Unit {0}
Agreed true Committed = Unit {0}
Agreed true Aborted = ⊥
Agreed false Unprepared = Unit {0}
Agreed false Prepared = Unit {0}
Agreed false Committed = ⊥
Agreed false Aborted = Unit {0}

-- what a resolver saw fits how far a member is that it has heard
abbrev pub Saw : Bool → Bool → At → Type 0
Saw c n Unprepared = n ≡ true
Saw c n Prepared = Unit {0}
Saw c n Committed = c ≡ true
Saw c n Aborted = n ≡ true

-- Whether a commit was decided; then the resolver's side, what is on its way to the member, whether a question waits there,
-- whether the member is ready (it knows the library and all members before the resolver), how far the attempt is there, and the
-- statuses on their way back. One constructor for each line:
--
-- | line       | side  | to the member   | waits | ready | back | what it means                                              |
-- | `rest`     | Rest  | -               | no    | any   | -    | nothing is asked or told                                   |
-- | `told`     | Rest  | outcome         | no    | yes   | -    | it was resolved, the outcome is on its way                 |
-- | `asked`    | Wait  | query           | no    | any   | -    | the member is asked                                        |
-- | `put_off`  | Wait  | -               | yes   | no    | -    | it isn't ready, and keeps the question                     |
-- | `answered` | Wait  | -               | no    | yes   | at   | it answered: how far it is                                 |
-- | `again`    | Wait  | outcome query   | no    | yes   | -    | a late Help began it again while the outcome is on its way |
-- | `heard`    | Heard | -               | no    | yes   | -    | the resolver heard it                                      |
pub data Resolves (d : Bool) : Side → List Tell → Bool → Bool → At → List At → Type 0 where
  rest : {r : Bool} {a : At} → Resolves d Rest [] false r a []
  told : {a : At} → Resolves d Rest (outcome d ∷ []) false true a []
  asked : {r : Bool} {a : At} → Resolves d Wait (query ∷ []) false r a []
  put_off : {a : At} → Resolves d Wait [] true false a []
  answered : {a : At} → Resolves d Wait [] false true a (a ∷ [])
  again : {a : At} → Resolves d Wait (outcome d ∷ query ∷ []) false true a []
  heard : {c n : Bool} {a : At} → Saw c n a → Resolves d (Heard c n) [] false true a []
