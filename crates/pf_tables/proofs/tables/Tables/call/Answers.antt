-- A step's path is the slice of bytes that its call is handed; and memory is wanted where the step may want it.

use Rattle.pf_tables.proofs.Calls.{dots_want, made_wants, path_wants}
use Rattle.pf_tables.proofs.tables.Tables.call.Goals as goal

pub returns-in-GetSize-clause-says : goal.returns-in-GetSize-clause-says
returns-in-GetSize-clause-says g c = rw c.in-GetSize.is c.size.ensures.says

pub returns-in-SetNonblock-clause-says : goal.returns-in-SetNonblock-clause-says
returns-in-SetNonblock-clause-says g c = rw c.in-SetNonblock.is c.set_nonblocking.ensures.says

pub returns-in-Dup-clause-says : goal.returns-in-Dup-clause-says
returns-in-Dup-clause-says g c = rw c.in-Dup.is c.dup.ensures.says

pub returns-in-Spawn-clause-wants : goal.returns-in-Spawn-clause-wants
returns-in-Spawn-clause-wants g c none = made_wants _ c.in-Spawn.is (λ f reply w. w) (c.spawn.ensures.wanted none)

pub returns-in-Fork-clause-wants : goal.returns-in-Fork-clause-wants
returns-in-Fork-clause-wants g c none = made_wants _ c.in-Fork.is (λ f reply w. w) (c.fork.ensures.wanted none)

pub returns-in-Pipe-clause-says : goal.returns-in-Pipe-clause-says
returns-in-Pipe-clause-says g c = rw c.in-Pipe.is c.pipe.ensures.says

pub returns-in-Pipe-clause-wants : goal.returns-in-Pipe-clause-wants
returns-in-Pipe-clause-wants g c none = made_wants _ c.in-Pipe.is (λ f reply w. w) (c.pipe.ensures.wanted none)

pub returns-in-SetSize-clause-says : goal.returns-in-SetSize-clause-says
returns-in-SetSize-clause-says g c = rw c.in-SetSize.is c.set_size.ensures.says

pub returns-in-SetSize-clause-wants : goal.returns-in-SetSize-clause-wants
returns-in-SetSize-clause-wants g c none =
    made_wants _ c.in-SetSize.is (λ f reply w. w) (c.set_size.ensures.wanted none)

pub returns-in-Mkdir-clause-says : goal.returns-in-Mkdir-clause-says
returns-in-Mkdir-clause-says g c =
    rw (rw (← c.as_slice.ensures) at c.in-Mkdir.is) c.make_file.ensures.says

pub returns-in-Mkdir-clause-wants : goal.returns-in-Mkdir-clause-wants
returns-in-Mkdir-clause-wants g c none =
    path_wants _ (rw (← c.as_slice.ensures) at c.in-Mkdir.is) c.in-Mkdir.pid c.as_slice.result.now (λ f reply w. w)
    (c.make_file.ensures.ready none) (c.make_file.ensures.wanted none)

pub returns-in-Mkfifo-clause-says : goal.returns-in-Mkfifo-clause-says
returns-in-Mkfifo-clause-says g c =
    rw (rw (← c.as_slice-in-Mkfifo.ensures) at c.in-Mkfifo.is) c.make_file-in-Mkfifo.ensures.says

pub returns-in-Mkfifo-clause-wants : goal.returns-in-Mkfifo-clause-wants
returns-in-Mkfifo-clause-wants g c none =
    path_wants _ (rw (← c.as_slice-in-Mkfifo.ensures) at c.in-Mkfifo.is) c.in-Mkfifo.pid c.as_slice-in-Mkfifo.result.now
    (λ f reply w. w) (c.make_file-in-Mkfifo.ensures.ready none) (c.make_file-in-Mkfifo.ensures.wanted none)

pub returns-in-Unlink-clause-says : goal.returns-in-Unlink-clause-says
returns-in-Unlink-clause-says g c =
    rw (rw (← c.as_slice-in-Unlink.ensures) at c.in-Unlink.is) c.unlink.ensures.says

pub returns-in-Unlink-clause-wants : goal.returns-in-Unlink-clause-wants
returns-in-Unlink-clause-wants g c none =
    path_wants _ (rw (← c.as_slice-in-Unlink.ensures) at c.in-Unlink.is) c.in-Unlink.pid c.as_slice-in-Unlink.result.now
    (λ f reply w. w) (c.unlink.ensures.ready none) (c.unlink.ensures.wanted none)

pub returns-in-Rmdir-clause-says : goal.returns-in-Rmdir-clause-says
returns-in-Rmdir-clause-says g c =
    rw (rw (← c.as_slice-in-Rmdir.ensures) at c.in-Rmdir.is) c.rmdir.ensures.says

pub returns-in-Rmdir-clause-wants : goal.returns-in-Rmdir-clause-wants
returns-in-Rmdir-clause-wants g c none =
    path_wants _ (rw (← c.as_slice-in-Rmdir.ensures) at c.in-Rmdir.is) c.in-Rmdir.pid c.as_slice-in-Rmdir.result.now
    (λ f reply w. w) (c.rmdir.ensures.ready none) (c.rmdir.ensures.wanted none)

pub returns-in-Chmod-clause-says : goal.returns-in-Chmod-clause-says
returns-in-Chmod-clause-says g c =
    rw (rw (← c.as_slice-in-Chmod.ensures) at c.in-Chmod.is) c.chmod.ensures.says

pub returns-in-Chmod-clause-wants : goal.returns-in-Chmod-clause-wants
returns-in-Chmod-clause-wants g c none =
    path_wants _ (rw (← c.as_slice-in-Chmod.ensures) at c.in-Chmod.is) c.in-Chmod.pid c.as_slice-in-Chmod.result.now
    (λ f reply w. w) (c.chmod.ensures.ready none) (c.chmod.ensures.wanted none)

pub returns-in-List-clause-says : goal.returns-in-List-clause-says
returns-in-List-clause-says g c =
    rw (rw (← c.as_slice-in-List.ensures) at c.in-List.is) c.list.ensures.says

pub returns-in-List-clause-wants : goal.returns-in-List-clause-wants
returns-in-List-clause-wants g c none =
    path_wants _ (rw (← c.as_slice-in-List.ensures) at c.in-List.is) c.in-List.pid c.as_slice-in-List.result.now
    (λ f reply w. w) (c.list.ensures.ready none) (c.list.ensures.wanted none)

pub returns-in-Open-clause-says : goal.returns-in-Open-clause-says
returns-in-Open-clause-says g c =
    rw (rw (← c.as_slice-in-Open.ensures) at c.in-Open.is) c.open.ensures.says

pub returns-in-Open-clause-wants : goal.returns-in-Open-clause-wants
returns-in-Open-clause-wants g c none =
    path_wants _ (rw (← c.as_slice-in-Open.ensures) at c.in-Open.is) c.in-Open.pid c.as_slice-in-Open.result.now
    (λ f reply w. w) (c.open.ensures.ready none) (c.open.ensures.wanted none)

pub returns-in-Stat-clause-says : goal.returns-in-Stat-clause-says
returns-in-Stat-clause-says g c =
    rw (rw (← c.as_slice-in-Stat.ensures) at c.in-Stat.is) c.stat.ensures.says

pub returns-in-Stat-clause-wants : goal.returns-in-Stat-clause-wants
returns-in-Stat-clause-wants g c none =
    dots_want _ (rw (← c.as_slice-in-Stat.ensures) at c.in-Stat.is) c.in-Stat.pid c.as_slice-in-Stat.result.now
    (λ f reply w. w) (c.stat.ensures.ready none) (c.stat.ensures.wanted none)
