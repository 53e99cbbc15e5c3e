-- The workers of the limits so far, and room for the others.
use Rattle.std.proofs.Common.{◌≡◌, ◌+◌, ◌++◌, length, map}
use Rattle.std.specs.Vec.{vec_capacity}
use Rattle.pf_depot.specs.AllLoans.{reserved_of}
use Rattle.pf_worker.specs.Workers.{new_workers_from}
use Rattle.pf_worker.proofs.worker.workers_of.Given as goal

abbrev pub invariant-loop-config : goal.invariant-loop-config
invariant-loop-config g l = record {
  made : l.workers.items ++ new_workers_from (length l.workers.items) l.config-iterator.rest.items ≡ new_workers_from 0 l.fn.configs.items;
  reserved : map (λ a. reserved_of a.loans) l.allotments.rest.items ≡ map (λ e. e.0.reserve) l.config-iterator.rest.items;
  all : length l.workers.items + length l.config-iterator.rest.items ≡ length l.fn.configs.items;
  room : vec_capacity l.workers ≡ length l.fn.configs.items;
}
