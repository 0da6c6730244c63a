use Rattle.std.proofs.Common.{sym, ap, ◌∙◌, option_map}
use Rattle.state_save.specs.Groups.{job_in, job_of}
use Rattle.state_save.proofs.JobWords.{groups_back}
use Rattle.state_save.proofs.LineWords.{reads}
use Rattle.state_save.proofs.job_line.SavedJobLine.read_words.Goals as goal

pub returns-clause-only : goal.returns-clause-only
returns-clause-only c = λ value fits is.
    reads job_in c.args.line.now value c.read_job.result (ap job_in (sym is) ∙ ap (option_map job_of) (groups_back value fits)) c.read_job.ensures.value c.read_job.ensures.refused
