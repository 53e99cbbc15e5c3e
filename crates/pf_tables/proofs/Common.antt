-- The words of the definitions and the laws that many proofs of this crate use, passed on from one place. Declares
-- nothing.

pub use Rattle.pf_base.specs.Capacities.{told_as}
pub use Rattle.pf_base.specs.Limits.{Limits}
pub use Rattle.pf_base.specs.Permissions.{is_privileged}
pub use Rattle.pf_base.specs.declared.TheConstants.{MAX_DESCRIPTORS, MAX_PROCESSES, MAX_WRITE, PIPE_BUF}
pub use Rattle.pf_base.specs.declared.cred.Cred.{Cred}
pub use Rattle.pf_base.specs.declared.errno.Errno.{Errno}
pub use Rattle.pf_base.specs.declared.errno.Errno.TheVariants.{EBADF, EBUSY, EINVAL, EMFILE, ENFILE, ESRCH}
pub use Rattle.pf_base.specs.declared.fault.Fault.{Fault}
pub use Rattle.pf_base.specs.declared.progress.Side.{Side}
pub use Rattle.pf_base.specs.declared.step.Reply.{Reply}
pub use Rattle.pf_base.specs.declared.step.Reply.TheVariants.{Num}
pub use Rattle.pf_fds.specs.Descriptions.{names_of, one_more, value_of}
pub use Rattle.pf_fds.specs.Registry.{find}
pub use Rattle.pf_frame.specs.Live.{IsSound, Live}
pub use Rattle.pf_limits.specs.UserPages.{Charges, UserPages, charged_to}
pub use Rattle.pf_machine.proofs.MapLaws.{vacant-map}
pub use Rattle.pf_machine.proofs.NumberedLaws.{at-first_free, at-map, at-push_new, at-put_same, at_past, at_within}
pub use Rattle.pf_machine.proofs.NumberedLaws.{first_free-map, sum_of-map, sum_of-none, sum_of-set, weight-le-sum_of}
pub use Rattle.pf_machine.specs.Calls.{Opening}
pub use Rattle.pf_machine.specs.Counts.{ends, readers, total, writers}
pub use Rattle.pf_machine.specs.FileMap.{Files}
pub use Rattle.pf_machine.specs.Files.{with_files}
pub use Rattle.pf_machine.specs.Numbered.{at, change_at, clear_at, first_free, one_if, put_at, sum_of, weight}
pub use Rattle.pf_machine.specs.Opens.{Access, fifo_pipe}
pub use Rattle.pf_machine.specs.Pipes.{capacity_for, is_spent}
pub use Rattle.pf_machine.specs.Progress.{Passed, moved}
pub use Rattle.pf_machine.specs.Queue.{Queue, Segment, bytes_of, empty, room_of}
pub use Rattle.pf_machine.specs.Refusals.{or_refuse, refuse_if, ◌>>=◌, ◌>>◌}
pub use Rattle.pf_machine.specs.State.{End, Outcome, State, done, end_at, itself, of_ready, process, reading_end, ready}
pub use Rattle.pf_machine.specs.State.{told, waiting, with_descriptor, with_process, with_queue, writing_end}
pub use Rattle.pf_machine.specs.Sweep.{sweep}
pub use Rattle.pf_machine.specs.Transfers.{Tried}
pub use Rattle.pf_parked.specs.declared.call.Call.TheVariants.{Cross, Open}
pub use Rattle.pf_pipe.specs.Pipe.{unopened}
pub use Rattle.pf_ring.specs.Ring.{Ring, queue_of}
pub use Rattle.pf_ring.specs.Table.{Joined, ring_at, slots_of, slots_used}
pub use Rattle.pf_ring.specs.Windows.{Keeps, Stands, limit, reach}
pub use Rattle.pf_ring.specs.declared.ring.Window.{Window}
pub use Rattle.pf_tables.specs.Bounds.{Covers}
pub use Rattle.pf_tables.specs.Meaning.{AreCharged, Charged, Namespace, meaning, occupied, pages, pipe_meaning, ring_or}
pub use Rattle.pf_tables.specs.Meaning.{rings_of}
pub use Rattle.pf_tables.specs.Opened.{Describes, access_seen, before, counted, other_opens}
pub use Rattle.pf_tables.specs.Owns.{Owns}
pub use Rattle.pf_tables.specs.Queries.{GoesOn}
pub use Rattle.pf_tables.specs.Rows.{AllFind, AreFifos, Description, DescriptionRows, Finds, IsEnd, IsSpare, Kept, Key}
pub use Rattle.pf_tables.specs.Rows.{Named, NamedRow, NoMore, Opens, Pipe, PipeRows, Process, ProcessRows, Tied}
pub use Rattle.pf_tables.specs.Rows.{TiedWith, UsedRow, Whole, awake, description_of, descriptions_of, end_in}
pub use Rattle.pf_tables.specs.Rows.{end_of_row, held, is_used, key_in, keys_of, keys_to, left, made_by}
pub use Rattle.pf_tables.specs.Rows.{named_once_more, names_it, opens_at, opens_of, pipe_of, pipes_of, process_in}
pub use Rattle.pf_tables.specs.Rows.{process_of, processes_of, read_by, reads_it, ready_in, state_of, with_fewer}
pub use Rattle.pf_tables.specs.Rows.{writes_it, written_by}
pub use Rattle.pf_tables.specs.Tables.{Left, LetsGo, Makes, Says, awoken, descriptor, emptied, over, woken}
pub use Rattle.pf_tables.specs.Told.{attempted}
pub use Rattle.pf_walk.specs.Told.{Told}
pub use Rattle.std.proofs.lemmas.Bool.{cases_eq, cases_lt, eq-eqb, le-ltb, ne_eqb}
pub use Rattle.std.proofs.lemmas.Bool.Decides.{nat_tests}
pub use Rattle.std.proofs.lemmas.List.{length-map, length_push, map-set, map_push, set-set}
pub use Rattle.std.specs.List.{sum_by}
pub use Rattle.std.specs.Map.{lookup}
pub use Rattle.std.specs.Option.{option_and_then, option_map}
