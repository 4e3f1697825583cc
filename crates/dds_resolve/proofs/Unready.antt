use Rattle.std.proofs.Common.{Bool, false, List}
use Rattle.dds_talk.specs.Resolve.{Resolves, Side, Tell}
use Rattle.dds_talk.specs.Resolve.Resolves.{rest, asked, put_off}
use Rattle.dds_talk.specs.Table.{At}

-- where the member isn't ready, nothing is said of how far the attempt is there
pub unready-any : {d q : Bool} {v : Side} {o : List Tell} {a : At} {b : List At} (e : At) → Resolves d v o q false a b → Resolves d v o q false e b
unready-any e rest = rest
unready-any e asked = asked
unready-any e put_off = put_off
