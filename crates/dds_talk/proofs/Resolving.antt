use Rattle.std.proofs.Common.{◌≡◌, ◌||◌, Bool, true, false, List, [], ◌∷◌, ◌++◌, refl}
use Rattle.dds_talk.specs.Table.{At}
use Rattle.dds_talk.specs.Table.At.{Unprepared, Prepared, Committed, Aborted}
use Rattle.dds_talk.specs.Resolve.{Side, Tell, Agreed, Saw, Resolves}
use Rattle.dds_talk.specs.Resolve.Side.{Rest, Wait, Heard}
use Rattle.dds_talk.specs.Resolve.Tell.{query, outcome}
use Rattle.dds_talk.specs.Resolve.Resolves.{rest, told, asked, put_off, answered, again, heard}

-- the resolver begins
pub begins : {d q r : Bool} {o : List Tell} {a : At} {b : List At} → Resolves d Rest o q r a b → Resolves d Wait (o ++ query ∷ []) q r a b
begins rest = asked
begins told = again

-- what a status shows
abbrev pub is_commit : At → Bool
is_commit Unprepared = false
is_commit Prepared = false
is_commit Committed = true
is_commit Aborted = false

abbrev pub is_no : At → Bool
is_no Unprepared = true
is_no Prepared = false
is_no Committed = false
is_no Aborted = true

or-right : (x : Bool) → (x || true) ≡ true
or-right true = refl
or-right false = refl

saw-this : (c n : Bool) (a : At) → Saw (c || is_commit a) (n || is_no a) a
saw-this c n Unprepared = or-right n
saw-this c n Prepared = tt
saw-this c n Committed = or-right c
saw-this c n Aborted = or-right n

-- a status of this member is heard
pub hears : {d q r : Bool} {v : Side} {o : List Tell} {a e : At} {b : List At} (c n : Bool) → Resolves d v o q r a (e ∷ b)
    → Resolves d (Heard (c || is_commit e) (n || is_no e)) o q r a b × (v ≡ Wait) × (e ≡ a)
hears c n (answered {a = a}) = (heard (saw-this c n a), refl, refl)

saw-more : (c n x y : Bool) (a : At) → Saw c n a → Saw (c || x) (n || y) a
saw-more c n x y Unprepared h = rw h refl
saw-more c n x y Prepared h = tt
saw-more c n x y Committed h = rw h refl
saw-more c n x y Aborted h = rw h refl

-- a status of another member is heard
pub hears-other : {d q r : Bool} {o : List Tell} {a : At} {b : List At} (c n x y : Bool) → Resolves d (Heard c n) o q r a b
    → Resolves d (Heard (c || x) (n || y)) o q r a b
hears-other c n x y (heard {a = a} h) = heard (saw-more c n x y a h)

-- it decides what was decided, or decides now
pub decides : {d q r c n : Bool} (e : Bool) {o : List Tell} {a : At} {b : List At} → Resolves d (Heard c n) o q r a b
    → Resolves e Rest (o ++ outcome e ∷ []) q r a b
decides e (heard h) = told

-- the member hears a question, and answers it, or puts it off
pub answers : {d q : Bool} {v : Side} {o : List Tell} {a : At} {b : List At} → Resolves d v (query ∷ o) q true a b → Resolves d v o q true a (b ++ a ∷ [])
answers asked = answered

pub puts-off : {d q : Bool} {v : Side} {o : List Tell} {a : At} {b : List At} → Resolves d v (query ∷ o) q false a b → Resolves d v o true false a b
puts-off asked = put_off

-- it learns that it is ready: a question that waits is answered
pub ready : {d : Bool} {v : Side} {o : List Tell} {a : At} {b : List At} → Resolves d v o true false a b → Resolves d v o false true a (b ++ a ∷ [])
ready put_off = answered

pub ready-unasked : {d : Bool} {v : Side} {o : List Tell} {a : At} {b : List At} → Resolves d v o false false a b → Resolves d v o false true a b
ready-unasked rest = rest
ready-unasked asked = asked

-- it takes an outcome: of a prepared attempt, or it does nothing
abbrev pub settled : Bool → At → At
settled c Unprepared = Unprepared
settled true Prepared = Committed
settled false Prepared = Aborted
settled c Committed = Committed
settled c Aborted = Aborted

pub takes : {d q r c : Bool} {v : Side} {o : List Tell} {a : At} {b : List At} → Resolves d v (outcome c ∷ o) q r a b
    → Resolves d v o q r (settled c a) b × (c ≡ d) × (r ≡ true)
takes told = (rest, refl, refl)
takes again = (asked, refl, refl)

pub agreed-takes : (d : Bool) (a : At) → Agreed d a → Agreed d (settled d a)
agreed-takes true Unprepared h = h
agreed-takes true Prepared h = tt
agreed-takes true Committed h = tt
agreed-takes true Aborted h = h
agreed-takes false Unprepared h = tt
agreed-takes false Prepared h = tt
agreed-takes false Committed h = h
agreed-takes false Aborted h = tt
