-- Each step's words are words of a line, and are read as that step. Both are shown of all kinds at once: the tactic
-- goes through them.

use Rattle.std.proofs.Common.{◌≡◌, ℕ, ◌<◌, ◌^◌, arith}
use Rattle.std.specs.Prelude.{decimal, Ok}
use Rattle.std.specs.List.{AllByRecursion}
use Rattle.std.proofs.lemmas.Fmt.{decimal_nonempty}
use Rattle.pf_base.specs.declared.step.Step.{Step}
use Rattle.pf_words.specs.Arguments.{pid_of, descriptor_with, descriptor_of, sized_with, sized_of, crossing_with}
use Rattle.pf_words.specs.Arguments.{crossing_of, named_with, named_of, moded_with, moded_of}
use Rattle.pf_words.specs.Verbs.{step_words, call_of, crossing_call, process_call, file_call, spawn_with, spawn_of}
use Rattle.pf_words.specs.Verbs.{pipe_with, pipe_of, nonblock_with, nonblock_of, write_with, write_of, open_with}
use Rattle.pf_words.specs.Verbs.{open_of, text_of}
use Rattle.pf_words.specs.Spelling.{spell, HasWords, IsWord, is_inner, octal_word, EachStepIsRead}
use Rattle.pf_words.proofs.NumberWords.{u32_again, u64_again, octal_again, decimal_passes, octal_passes, is_inner_above}
use Rattle.pf_words.proofs.DataWords.{groups_again, groups_are_words, switch_again, switch_is_word, flag_is_word}
use Rattle.pf_words.proofs.DataWords.{flags_again, flags_is_word, bytes_again, bytes_is_word}

number_is_word : (n : ℕ) → n < 2 ^ 64 → IsWord (decimal n)
number_is_word n low = record { some = decimal_nonempty n low; inner = decimal_passes is_inner is_inner_above n low }

small_is_word : (n : ℕ) → n < 2 ^ 32 → IsWord (decimal n)
small_is_word n low = number_is_word n (omega arith)

mode_is_word : (m : ℕ) → IsWord (octal_word m)
mode_is_word m = record { some = omega arith; inner = octal_passes is_inner is_inner_above m }

are_words : (step : Step) → HasWords step → AllByRecursion IsWord (spell step)
unfolding spell HasWords text_of
are_words step h =
    grind (
      arith,
      small_is_word,
      number_is_word,
      mode_is_word,
      switch_is_word,
      flag_is_word,
      groups_are_words,
      bytes_is_word,
      flags_is_word,
    )

is_read : (step : Step) → HasWords step → step_words (spell step) ≡ Ok step
unfolding spell HasWords text_of step_words call_of crossing_call process_call file_call spawn_of spawn_with pipe_of pipe_with nonblock_of nonblock_with write_of write_with open_of open_with pid_of descriptor_of descriptor_with sized_of sized_with crossing_of crossing_with named_of named_with moded_of moded_with
is_read step h =
    grind (arith, u32_again, u64_again, octal_again, switch_again, flags_again, bytes_again, groups_again)

pub each_step_is_read : EachStepIsRead
each_step_is_read step h = (are_words step h, is_read step h)
