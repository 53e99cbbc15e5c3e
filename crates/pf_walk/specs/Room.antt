-- How much room the names of a path are given, all at once, before it is cut. No public clause cites this module.

use Rattle.std.specs.Prelude.{ℕ, ◌+◌, List, Bool, if◌then◌else◌, nat_eq}
use Rattle.std.specs.List.{count_by, list_all}

abbrev pub is_slash : ℕ → Bool
is_slash b = nat_eq b 47

-- what stands before each slash, and behind the last: one more than slashes. Between slashes alone no name can stand
abbrev pub room_for_names : List ℕ → ℕ
room_for_names bs = if list_all is_slash bs then 0 else count_by is_slash bs + 1
