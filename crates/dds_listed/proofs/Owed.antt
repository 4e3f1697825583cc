use Rattle.std.proofs.Common.{◌≤◌, List}
use Rattle.dds_cluster.specs.declared.trace.Caller.{Caller}
use Rattle.dds_net.specs.Event.{Event, nothing, unheard, unasked, brick_takes, brick_told, brick_stops, library_takes, library_asked, library_stops}
use Rattle.dds_net.specs.Event.{Fits, moved}
use Rattle.dds_net.specs.Net.{Net, Sizes}
use Rattle.dds_pairs.proofs.NameKeeps.{AreNamed}
use Rattle.dds_listed.proofs.Grounds.{Grounds}
use Rattle.dds_listed.proofs.Keeps.{Owes}
use Rattle.dds_listed.proofs.TakesGives.{takes-gives}
use Rattle.dds_listed.proofs.ToldGives.{told-gives}

-- What is owed of each event for the invariant.

pub owes : (z : Sizes) (cs : List Caller) (n : Net) (e : Event) → z.bricks ≤ 64 → z.libraries ≤ 16 → Fits z cs n e → Grounds z n
    → AreNamed z (moved z n e) → Owes z n e
owes z cs n nothing few some f g later = tt
owes z cs n (unheard at from l) few some f g later = tt
owes z cs n (unasked at caller call o) few some f g later = tt
owes z cs n (brick_takes at from l s) few some f g later = takes-gives z cs n at from l s few some f g later
owes z cs n (brick_told at o s) few some f g later = told-gives z cs n at o s f g later
owes z cs n (brick_stops at s kept) few some f g later = tt
owes z cs n (library_takes at from l s) few some f g later = tt
owes z cs n (library_asked at caller call o s) few some f g later = tt
owes z cs n (library_stops at s kept) few some f g later = tt
