use Rattle.slurm_top.proofs.end.tell.Goals as goal

pub returns : goal.returns
returns g c =
    let told = c.tell.ensures in
    rw (c.as_bytes.ensures.value, c.as_str.ensures.value, c.line_of-line.ensures) at told
