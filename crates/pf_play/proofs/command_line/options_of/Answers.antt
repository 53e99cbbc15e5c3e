use Rattle.std.proofs.Common.{rules, ap, codes, map, string_bytes, sym, ◌≡◌, ◌∙◌}
use Rattle.std.specs.Option.{option_and_then}
use Rattle.std.specs.Str.Parse.{ParsesUnsigned, ExplainsUnsignedError, HasUnsignedDigitsIfOk}
use Rattle.clap.specs.Words.{app_of, fault_of, first_of, found_of, one_of, one_text, is_simple, is_simple_and_free, matches_of}
use Rattle.clap.proofs.WalkLemmas.{first_value-rows, one_text-rows}
use Rattle.pf_play.specs.CommandLine.{is_true, number_of, pfplay}
use Rattle.pf_play.proofs.CommandLineLaws.{simple, simple_and_free}
use Rattle.pf_play.proofs.TreeHeapLaws.{read_if_any}
use Rattle.pf_play.proofs.command_line.options_of.Goals as goal

pub returns-clause-only : goal.returns-clause-only
returns-clause-only c =
    let app : app_of c.in_ok-command.command ≡ pfplay = c.in_ok-command.ensures in
    let rows = (c.in_ok-matches.ensures.matches (ap is_simple app ∙ simple)).0 in
    c.get_str.ensures ∙ first_value-rows (found_of c.in_ok-matches.matches) (codes "only")
    ∙ ap (first_of (codes "only")) (rows ∙ ap (λ a. matches_of a (map string_bytes c.args.words.now)) app)

pub returns-clause-tree_heap : goal.returns-clause-tree_heap
returns-clause-tree_heap c =
    let app : app_of c.in_ok-command.command ≡ pfplay = c.in_ok-command.ensures in
    let rows = (c.in_ok-matches.ensures.matches (ap is_simple app ∙ simple)).0 in
    read_if_any _ (λ bs r. ParsesUnsigned 32 10 bs r × ExplainsUnsignedError 10 bs r × HasUnsignedDigitsIfOk bs r) (λ bs r g. g.0)
    (one_text (found_of c.in_ok-matches.matches) (codes "tree-heap")) c.get_one.result c.get_one.ensures.none c.get_one.ensures.value
    ∙ ap (option_and_then number_of) (one_text-rows (found_of c.in_ok-matches.matches) (codes "tree-heap")
    ∙ ap (one_of (codes "tree-heap")) (rows ∙ ap (λ a. matches_of a (map string_bytes c.args.words.now)) app))

pub returns-clause-threads : goal.returns-clause-threads
returns-clause-threads c =
    let app : app_of c.in_ok-command.command ≡ pfplay = c.in_ok-command.ensures in
    let rows = (c.in_ok-matches.ensures.matches (ap is_simple app ∙ simple)).0 in
    c.is_used-threads.ensures ∙ ap is_true (c.get_str-2.ensures
    ∙ first_value-rows (found_of c.in_ok-matches.matches) (codes "threads")
    ∙ ap (first_of (codes "threads")) (rows ∙ ap (λ a. matches_of a (map string_bytes c.args.words.now)) app))

pub returns-clause-refusals : goal.returns-clause-refusals
returns-clause-refusals c =
    let app : app_of c.in_ok-command.command ≡ pfplay = c.in_ok-command.ensures in
    ap (λ a. fault_of a (map string_bytes c.args.words.now)) (sym app)
    ∙ c.in_ok-matches.ensures.kinds (ap is_simple_and_free app ∙ simple_and_free)

pub returns-clause-fill : goal.returns-clause-fill
returns-clause-fill c = search rules steps 100000
