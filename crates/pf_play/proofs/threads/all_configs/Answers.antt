-- They are those of all names, since each has a space line.
use Rattle.std.proofs.Common.{ap, arith, subst, sym, ◌≡◌, ◌∙◌, ℕ, List, map}
use Rattle.std.specs.Prelude.{None}
use Rattle.std.proofs.lemmas.Grind.{common_steps}
use Rattle.std.proofs.lemmas.Result.{IfOk-weaker}
use Rattle.pf_base.specs.Limits.{Limits}
use Rattle.pf_hub.specs.Opening.{first_fault, limits_of}
use Rattle.pf_play.proofs.EngineLaws.{all_taken, limits_beside}
use Rattle.pf_play.proofs.threads.all_configs.Goals as goal

pub returns-clause-configs : goal.returns-clause-configs
returns-clause-configs c =
    let script = c.args.script.now in
    let limits : c.as_slice.result.now ≡ map (λ s. s.1) script.spaces = c.as_slice.ensures.value
    ∙ c.in_ok-limits.ensures.limits
    ∙ ap (λ (ss : List (List ℕ × Limits)). map (λ s. s.1) ss) (all_taken script.spaces script.opening c.requires) in
    IfOk-weaker c.with_allocators.result (λ configs. configs.items ≡ map (λ l. (l, c.args.alloc)) c.as_slice.result.now) _
    (λ configs is. is ∙ ap (λ (ls : List Limits). map (λ l. (l, c.args.alloc)) ls) limits) c.with_allocators.ensures

pub returns-clause-fits : goal.returns-clause-fits
returns-clause-fits c =
    let ls = c.as_slice.result.now in
    let frames = c.args.script.now.frames in
    let fits : first_fault frames ls ≡ None = grind (arith, common_steps) in
    IfOk-weaker c.with_allocators.result (λ configs. configs.items ≡ map (λ l. (l, c.args.alloc)) ls) _
    (λ configs is.
    subst (λ xs. first_fault frames xs ≡ None) (sym (ap limits_of is ∙ limits_beside c.args.alloc ls)) fits)
    c.with_allocators.ensures
