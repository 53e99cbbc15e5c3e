-- What the words of the command line ask for. The first of them is the program's name.

use Rattle.std.specs.Prelude.{◌≡◌, ◌&&◌, ℕ, List, [], ◌∷◌, ◌++◌, Option, Some, None, is_some, Bool, true, false, codes}
use Rattle.std.specs.Prelude.{if◌then◌else◌}
use Rattle.std.specs.Option.{option_and_then, option_map_or}
use Rattle.std.specs.Str.Parse.{digits_value, without_leading_plus}
use Rattle.std.specs.Str.{bytes_eq}
use Rattle.clap.specs.ValueTests.{is_unsigned_in}
use Rattle.clap.specs.Words.{App, Kinds, Rule, Text, fault_of, first_of, one_of, matches_of, new_app, new_rule, with_rule}
use Rattle.clap.specs.declared.builder.action.ArgAction.TheVariants.{SetTrue}
use Rattle.clap.specs.declared.builder.value_parser.ValueParser.TheVariants.{Unsigned}
use Rattle.pf_play.specs.declared.engine.TheConstants.{LEAST_TREE_HEAP, MOST_TREE_HEAP}
use Rattle.pf_words.specs.Words.{is_name}

-- the option `--threads`, which takes no value
abbrev pub threads_rule : Rule
threads_rule = record (new_rule (codes "threads")) { long = Some (codes "threads"); action = Some SetTrue }

-- the option `--only NAME`
abbrev pub only_rule : Rule
only_rule = record (new_rule (codes "only")) { long = Some (codes "only"); value_names = 1 }

-- the option `--tree-heap BYTES`, whose value is a number of this range
abbrev pub tree_heap_rule : Rule
tree_heap_rule = record (new_rule (codes "tree-heap")) {
  long = Some (codes "tree-heap");
  value_names = 1;
  parser = Some (Unsigned LEAST_TREE_HEAP MOST_TREE_HEAP);
}

-- the program with its options, one after the other; each command has `--help` besides
abbrev pub pfplay : App
pfplay = with_rule (with_rule (with_rule (new_app (codes "pfplay")) threads_rule) only_rule) tree_heap_rule

-- the name that is chosen, if one is
abbrev pub name_in : List Text → Option Text
name_in words = first_of (codes "only") (matches_of pfplay words)

abbrev pub is_true : Option Text → Bool
is_true kept = option_map_or (λ text. bytes_eq text (codes "true")) kept false

-- threads are asked for: what the parser keeps of the option is `true`
abbrev pub wants_threads : List Text → Bool
wants_threads words = is_true (first_of (codes "threads") (matches_of pfplay words))

-- the number that a text writes; the parser refuses each text that writes none
abbrev pub number_of : Text → Option ℕ
number_of text =
    if is_unsigned_in 0 4294967295 text then Some (digits_value 10 (without_leading_plus text)) else None

-- how many bytes each namespace's files have in a heap of its own, if such heaps are asked for
abbrev pub tree_heap_in : List Text → Option ℕ
tree_heap_in words = option_and_then number_of (one_of (codes "tree-heap") (matches_of pfplay words))

-- a heap is for one thread
abbrev pub needs_one_thread : List Text → Bool
needs_one_thread words = wants_threads words && is_some (tree_heap_in words)

-- why the words aren't taken; nothing, where they are
abbrev pub refusals : List Text → Kinds
refusals words = fault_of pfplay words

-- the words are taken, choose this name, or none, and ask for threads or don't
abbrev pub Asks : List Text → Option Text → Bool → Type 0
Asks words name threads = (refusals words ≡ []) × (name_in words ≡ name) × (wants_threads words ≡ threads)

-- whatever the program is called: with no words beside it all namespaces are asked for, and each name that a namespace
-- may have is chosen by `--only NAME` and by `--only=NAME`. So it is beside `--threads`, and this word alone asks for
-- threads
abbrev pub ChoosesEachName : Type 0
ChoosesEachName =
    (program : Text) → Asks (program ∷ []) None false
    × Asks (program ∷ codes "--threads" ∷ []) None true
    × ((name : Text) → is_name name ≡ true → Asks (program ∷ codes "--only" ∷ name ∷ []) (Some name) false
    × Asks (program ∷ (codes "--only=" ++ name) ∷ []) (Some name) false
    × Asks (program ∷ codes "--threads" ∷ codes "--only" ∷ name ∷ []) (Some name) true
    × Asks (program ∷ codes "--threads" ∷ (codes "--only=" ++ name) ∷ []) (Some name) true
    × Asks (program ∷ codes "--only" ∷ name ∷ codes "--threads" ∷ []) (Some name) true)
