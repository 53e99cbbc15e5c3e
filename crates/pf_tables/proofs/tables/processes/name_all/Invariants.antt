-- The keys that are left give the names that are wanted; their descriptions stand, and have few names so far: 65,792 is
-- MAX_PROCESSES * (MAX_DESCRIPTORS + 1), as many as there were before at most.
use Rattle.std.proofs.Common.{◌≡◌, ℕ, ◌+◌, ◌-◌, ◌≤◌, Some, drop}
use Rattle.pf_tables.proofs.Common.{at, Description, Named, AllFind, named_once_more}
use Rattle.pf_tables.proofs.tables.processes.name_all.Given as goal

abbrev pub invariant-loop-fd : goal.invariant-loop-fd
invariant-loop-fd l =
    record {
      named : named_once_more (drop l.fd l.fn.descriptors) l.descriptions.items
          ≡ named_once_more l.fn.descriptors l.fn.descriptions.items;
      stand : AllFind l.fn.descriptors l.descriptions.items;
      few : (n : ℕ) (e : ℕ × Named Description) → at l.descriptions.items n ≡ Some e → e.1.names ≤ 65792 + l.fd;
      within : l.fd ≤ 256;
    }

abbrev pub decreases-loop-fd : goal.decreases-loop-fd
decreases-loop-fd l = 256 - l.fd
