use Rattle.user_laws.proofs.Accounted.{usage_grows, usage_whole}
use Rattle.user_laws.proofs.accounting.usage_is_what_is_accounted.Goals as goal

pub returns-clause-grows : goal.returns-clause-grows
returns-clause-grows c = usage_grows (record {
  opening = c.what_is_used_grows_by_what_runs.ensures.opening;
  entry = c.what_is_used_grows_by_what_runs.ensures.entry;
  between = c.windows_and_stretches_overlap.ensures;
  steps = c.usage_grows_by_what_runs.ensures.steps;
  time = c.usage_grows_by_what_runs.ensures.time;
})

pub returns-clause-whole : goal.returns-clause-whole
returns-clause-whole c = usage_whole (record {
  opening = c.what_is_used_grows_by_what_runs.ensures.opening;
  entry = c.what_is_used_grows_by_what_runs.ensures.entry;
  between = c.windows_and_stretches_overlap.ensures;
  steps = c.usage_grows_by_what_runs.ensures.steps;
  time = c.usage_grows_by_what_runs.ensures.time;
})
