use Rattle.conf_reader.proofs.draft.Draft.read_partition.Goals as goal

pub returns-clause-refused : goal.returns-clause-refused
returns-clause-refused c = λ k h.
    let own = rw c.as_slice.ensures at c.in_ok-own.ensures.value in
    rw own (c.end_part_line.ensures.refused k h)
