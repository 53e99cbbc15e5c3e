-- So far there are as many more, up to the number.
use Rattle.std.proofs.Common.{◌≡◌, ◌-◌, ◌≤◌, ◌++◌, length, replicate, None, vec_len, vec_capacity}
use Rattle.pf_fds.proofs.places.write_below.Given as goal

abbrev pub invariant-loop-values : goal.invariant-loop-values
invariant-loop-values g l = record {
  items : l.values.items ≡ l.fn.values.items ++ replicate (vec_len l.values - length l.fn.values.items) None;
  capacity : vec_capacity l.values ≡ vec_capacity l.fn.values;
  more : length l.fn.values.items ≤ vec_len l.values;
  most : vec_len l.values - length l.fn.values.items ≤ l.n - length l.fn.values.items;
}

abbrev pub decreases-loop-values : goal.decreases-loop-values
decreases-loop-values g l = l.n - vec_len l.values
