-- So many of the names' answers were counted.
use Rattle.std.proofs.Common.{◌≡◌, [], map, get_or}
use Rattle.pf_play.specs.Plays.{nomem_of}
use Rattle.pf_play.proofs.ApartLaws.{sum_below}
use Rattle.pf_play.proofs.answered.count_apart.Given as goal

abbrev pub invariant-loop-ns : goal.invariant-loop-ns
invariant-loop-ns l =
    l.count ≡ sum_below (λ n. nomem_of (get_or (map (λ v. v.items) l.own) n [])) l.ns
