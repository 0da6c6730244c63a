use Rattle.std.proofs.Common.{sym, ◌∙◌}
use Rattle.slurm_io.proofs.Finds.{bytes_found}
use Rattle.slurm_io.proofs.mem_shelf.bytes_named.Goals as goal

pub returns-in-Some : goal.returns-in-Some
returns-in-Some c =
    let found = bytes_found c.args.files.now c.args.name.now _ c.file_named.ensures in
    let named = rw c.in-Some.is at found in
    sym (named ∙ cc)

pub returns-in-None : goal.returns-in-None
returns-in-None c =
    let found = bytes_found c.args.files.now c.args.name.now _ c.file_named.ensures in
    sym (rw c.in-None.is at found)
