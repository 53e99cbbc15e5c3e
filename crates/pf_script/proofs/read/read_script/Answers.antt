use Rattle.std.proofs.Common.{◌≡◌, ◌≤◌, ◌<◌, ◌+◌, length, inl, inr, arith}
use Rattle.std.proofs.lemmas.Result.{err_from_is_err_and}
use Rattle.pf_script.proofs.Readings.{is_nothing, is_something, IsEnded, none, one_piece, breaks_off, too_long, given_up, at_end}
use Rattle.pf_script.proofs.read.read_script.Goals as goal
use Rattle.pf_script.proofs.read.read_script.Goals.{After-drop-chunk-then-is_empty}

pub loop-init : goal.loop-init
loop-init g c = (rw c.new-rest.ensures.items (none _ _ c.in_ok-judge.ensures), c.in_ok-chunk.ensures, omega arith, omega arith)

pub returns-in_default-clause-fault : goal.returns-in_default-clause-fault
returns-in_default-clause-fault g c =
    inl (breaks_off _ _ _ _ _ _ c.loop.invariant.0 c.loop.invariant.3 c.in_default.ensures.kept c.in_default.ensures.failed)

-- the end was reached
ends : (g : _) (c : After-drop-chunk-then-is_empty g) → IsEnded c.end.result (g.R.Source.input c.args.reader.now) (g.R.Source.input c.read_some.new.reader)
ends g c =
    let nothing : length c.in-Ok.piece.now ≡ 0 = is_nothing c.is_empty.ensures c.if-is_empty.true in
    let room : 0 < length c.split_at_mut-buffer.result.0.now = omega (arith, c.split_at_mut-buffer.ensures.front_len, c.min-wanted.ensures) in
    let said = rw c.as_slice.ensures.value at c.end.ensures in
    at_end _ _ _ _ _ _ _ _ c.loop.invariant.0 c.loop.invariant.3 c.in-Ok.ensures.bytes c.in-Ok.ensures.sound nothing (c.in-Ok.ensures.end nothing room) said

pub returns-then-is_empty-clause-read : goal.returns-then-is_empty-clause-read
returns-then-is_empty-clause-read g c = (ends g c).read

pub returns-then-is_empty-clause-fault : goal.returns-then-is_empty-clause-fault
returns-then-is_empty-clause-fault g c = (ends g c).fault

pub returns-then-count-gt-INPUT_LIMIT-clause-fault : goal.returns-then-count-gt-INPUT_LIMIT-clause-fault
returns-then-count-gt-INPUT_LIMIT-clause-fault g c =
    let many : c.loop.count + length c.in-Ok.piece.now ≡ 67108865 = omega (arith, c.in-Ok.ensures.bound, c.split_at_mut-buffer.ensures.front_len, c.min-wanted.ensures, c.if-count-gt-INPUT_LIMIT.true) in
    inr (too_long _ _ _ _ _ _ _ c.loop.invariant.0 c.in-Ok.ensures.bytes c.in-Ok.ensures.sound many)

pub returns-in_err-take_piece-clause-fault : goal.returns-in_err-take_piece-clause-fault
returns-in_err-take_piece-clause-fault g c =
    let few : c.loop.count + length c.in-Ok.piece.now ≤ 67108864 = omega (arith, c.if-count-gt-INPUT_LIMIT.false) in
    let given = given_up _ _ _ _ _ _ _ c.loop.invariant.0 c.in-Ok.ensures.bytes c.in-Ok.ensures.sound few in
    let gives = err_from_is_err_and c.from_residual-in_err-take_piece.result c.from_residual-in_err-take_piece.ensures.1 in
    rw (gives.1, gives.2) given

pub loop-preserved : goal.loop-preserved
loop-preserved g c = (
  one_piece _ _ _ _ _ _ _ _ _ c.loop.invariant.0 c.in-Ok.ensures.bytes c.in-Ok.ensures.sound c.in_ok-take_piece.ensures.judged c.in_ok-take_piece.ensures.one_line c.in_ok-take_piece.ensures.counted,
  c.loop.invariant.1,
  omega (arith, is_something c.is_empty.ensures c.if-is_empty.false),
  omega (arith, c.if-count-gt-INPUT_LIMIT.false),
)
