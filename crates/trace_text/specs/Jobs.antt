-- A job of a trace, put together.
use Rattle.trace_text.specs.declared.job.Facts.{Facts}
use Rattle.trace_text.specs.declared.job.TraceJob.{TraceJob}
use Rattle.trace_text.specs.declared.job.TraceNames.{TraceNames}

abbrev pub job_with : Facts → TraceNames → TraceJob
job_with facts names =
    record { id = facts.id; times = facts.times; needs = facts.needs; outcome = facts.outcome; names = names }
