-- The reservations are those of the limits alone.
use Rattle.std.proofs.Common.{rules, ◌≡◌, ℕ, List, length, ap, map, sym, ◌∙◌}
use Rattle.std.proofs.lemmas.List.{length-map}
use Rattle.std.specs.List.{sum}
use Rattle.pf_frame.specs.Faults.{fault_of}
use Rattle.pf_depot.specs.Book.{opening_books}
use Rattle.pf_hub.specs.Opening.{limits_of}
use Rattle.std.proofs.lemmas.Simd.{map-map}
use Rattle.pf_base.specs.Limits.{Limits}
use Rattle.pf_worker.proofs.worker.open.Goals as goal

pub returns-in_err-book : goal.returns-in_err-book
returns-in_err-book g c =
    let read : c.in-Ok.reserves.items ≡ map (λ e. e.0.reserve) c.args.configs.items = search (c.in-Ok.ensures, c.as_slice.ensures, rules) in
    let reserves = read ∙ sym (map-map (λ (l : Limits). l.reserve) (λ e. e.0) c.args.configs.items) in
    let opened = rw reserves at c.open.ensures in
    search (opened, rules)

pub returns-in-Ok-workers_of : goal.returns-in-Ok-workers_of
returns-in-Ok-workers_of g c =
    let read : c.in-Ok.reserves.items ≡ map (λ e. e.0.reserve) c.args.configs.items = search (c.in-Ok.ensures, c.as_slice.ensures, rules) in
    let reserves : c.in-Ok.reserves.items ≡ map (λ (l : Limits). l.reserve) (limits_of c.args.configs.items) = read ∙ sym (map-map (λ (l : Limits). l.reserve) (λ e. e.0) c.args.configs.items) in
    let all : length c.in-Ok.reserves.items ≡ length c.args.configs.items = ap (λ (ns : List ℕ). length ns) read ∙ length-map c.args.configs.items (λ e. e.0.reserve) in
    let made = c.in_ok-book.ensures in (
      ap (fault_of (length c.args.frames.items)) (sym reserves) ∙ made.0,
      made.1 ∙ (λ i. opening_books (length c.args.frames.items) (sum (reserves i)) (all i)),
      c.in-Ok-workers_of.ensures,
    )
