use Rattle.std.proofs.Common.{subst}
use Rattle.slurm_client.specs.Requests.{HasOneLine}
use Rattle.slurm_client.proofs.OneLines.{name_has_one_line, words_have_one_line, header_has_one_line}
use Rattle.slurm_client.proofs.sending.write_header.Goals as goal

pub returns-clause-one_line : goal.returns-clause-one_line
returns-clause-one_line c =
    let quoted = c.in_ok-line.ensures in
    header_has_one_line c.args.user.now c.args.words.now
    (name_has_one_line c.args.user.now c.as_bytes.ensures.named)
    (subst HasOneLine quoted.value (words_have_one_line _ quoted.splits.0))
