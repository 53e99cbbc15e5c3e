-- What words of the command line ask for, by computation.

use Rattle.std.proofs.Common.{codes, refl, ℕ, List, Option, Some, None, true, false, [], ◌∷◌, ◌≡◌}
use Rattle.clap.specs.Words.{Text}
use Rattle.clap.specs.declared.error.kind.ErrorKind.TheVariants as kinds
use Rattle.clap.proofs.OnLiterals.{clap_on_literals}
use Rattle.pf_play.specs.CommandLine.{Asks, needs_one_thread, refusals, tree_heap_in}

abbrev pfplay_with : List Text → List Text
pfplay_with words = codes "pfplay" ∷ words

one_name : Asks (pfplay_with (codes "--only" ∷ codes "red" ∷ [])) (Some (codes "red")) false
unfolding clap_on_literals
one_name = (refl, refl, refl)

-- what no namespace is called is a name for the command line
no_name : Asks (pfplay_with (codes "--only" ∷ codes "Red Green" ∷ [])) (Some (codes "Red Green")) false
unfolding clap_on_literals
no_name = (refl, refl, refl)

threads : Asks (pfplay_with (codes "--threads" ∷ [])) None true
unfolding clap_on_literals
threads = (refl, refl, refl)

threads_of_one_name :
    Asks (pfplay_with (codes "--threads" ∷ codes "--only" ∷ codes "red" ∷ [])) (Some (codes "red")) true
unfolding clap_on_literals
threads_of_one_name = (refl, refl, refl)

-- a name that is called as the option is
named_threads : Asks (pfplay_with (codes "--only" ∷ codes "threads" ∷ [])) (Some (codes "threads")) false
unfolding clap_on_literals
named_threads = (refl, refl, refl)

-- an option is no name
option_for_a_name : refusals (pfplay_with (codes "--only" ∷ codes "--threads" ∷ [])) ≡ kinds.InvalidValue ∷ []
unfolding clap_on_literals
option_for_a_name = refl

threads_twice : refusals (pfplay_with (codes "--threads" ∷ codes "--threads" ∷ [])) ≡ kinds.ArgumentConflict ∷ []
unfolding clap_on_literals
threads_twice = refl

so_many_threads : refusals (pfplay_with (codes "--threads=2" ∷ [])) ≡ kinds.TooManyValues ∷ []
unfolding clap_on_literals
so_many_threads = refl

short_of_threads : refusals (pfplay_with (codes "--thread" ∷ [])) ≡ kinds.UnknownArgument ∷ []
unfolding clap_on_literals
short_of_threads = refl

threads_past_the_options : refusals (pfplay_with (codes "--" ∷ codes "--threads" ∷ [])) ≡ kinds.UnknownArgument ∷ []
unfolding clap_on_literals
threads_past_the_options = refl

bare_option : refusals (pfplay_with (codes "--only" ∷ [])) ≡ kinds.InvalidValue ∷ []
unfolding clap_on_literals
bare_option = refl

two_names : refusals (pfplay_with (codes "--only" ∷ codes "red" ∷ codes "--only=blue" ∷ []))
    ≡ kinds.ArgumentConflict ∷ []
unfolding clap_on_literals
two_names = refl

unknown_option : refusals (pfplay_with (codes "--fill" ∷ [])) ≡ kinds.UnknownArgument ∷ []
unfolding clap_on_literals
unknown_option = refl

stray_word : refusals (pfplay_with (codes "red" ∷ [])) ≡ kinds.UnknownArgument ∷ []
unfolding clap_on_literals
stray_word = refl

help : refusals (pfplay_with (codes "--help" ∷ [])) ≡ kinds.DisplayHelp ∷ []
unfolding clap_on_literals
help = refl

short_help : refusals (pfplay_with (codes "--only" ∷ codes "red" ∷ codes "-h" ∷ [])) ≡ kinds.DisplayHelp ∷ []
unfolding clap_on_literals
short_help = refl

-- the words are taken, and ask for heaps of so many bytes
abbrev AsksHeaps : List Text → Option ℕ → Type 0
AsksHeaps words bytes = (refusals words ≡ []) × (tree_heap_in words ≡ bytes) × (needs_one_thread words ≡ false)

no_heaps : AsksHeaps (pfplay_with (codes "--threads" ∷ [])) None
unfolding clap_on_literals
no_heaps = (refl, refl, refl)

least_heaps : AsksHeaps (pfplay_with (codes "--tree-heap" ∷ codes "1024" ∷ [])) (Some 1024)
unfolding clap_on_literals
least_heaps = (refl, refl, refl)

most_heaps : AsksHeaps (pfplay_with (codes "--tree-heap=16777216" ∷ codes "--only" ∷ codes "red" ∷ [])) (Some 16777216)
unfolding clap_on_literals
most_heaps = (refl, refl, refl)

heaps_too_small : refusals (pfplay_with (codes "--tree-heap" ∷ codes "1023" ∷ [])) ≡ kinds.ValueValidation ∷ []
unfolding clap_on_literals
heaps_too_small = refl

heaps_too_large : refusals (pfplay_with (codes "--tree-heap" ∷ codes "16777217" ∷ [])) ≡ kinds.ValueValidation ∷ []
unfolding clap_on_literals
heaps_too_large = refl

heaps_of_no_number : refusals (pfplay_with (codes "--tree-heap" ∷ codes "4k" ∷ [])) ≡ kinds.ValueValidation ∷ []
unfolding clap_on_literals
heaps_of_no_number = refl

-- what is refused is told before what threads can't have
heaps_for_threads : (refusals (pfplay_with (codes "--threads" ∷ codes "--tree-heap" ∷ codes "4096" ∷ [])) ≡ [])
    × (needs_one_thread (pfplay_with (codes "--threads" ∷ codes "--tree-heap" ∷ codes "4096" ∷ [])) ≡ true)
unfolding clap_on_literals
heaps_for_threads = (refl, refl)

small_heaps_for_threads :
    refusals (pfplay_with (codes "--threads" ∷ codes "--tree-heap" ∷ codes "1023" ∷ [])) ≡ kinds.ValueValidation ∷ []
unfolding clap_on_literals
small_heaps_for_threads = refl
