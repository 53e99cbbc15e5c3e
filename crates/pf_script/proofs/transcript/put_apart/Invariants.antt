use Rattle.std.proofs.Common.{◌≡◌, ◌++◌, List, ℕ, drop, map}
use Rattle.pf_script.specs.Text.{sections_apart}
use Rattle.pf_script.specs.Puts.{Puts}
use Rattle.pf_script.proofs.transcript.put_apart.Given as goal

abbrev pub invariant-loop-ns : goal.invariant-loop-ns
invariant-loop-ns g l =
    (done : List ℕ)
    × Puts (g.W.Sink.output l.fn.writer) l.fn.out (g.W.Sink.output l.writer) l.out done
    × (done ++ sections_apart (drop l.ns l.script.spaces) (drop l.ns (map (λ v. v.items) l.own)) ≡ sections_apart l.script.spaces (map (λ v. v.items) l.own))
