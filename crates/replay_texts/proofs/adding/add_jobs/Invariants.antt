use Rattle.std.proofs.Common.{◌≡◌, drop}
use Rattle.replay_texts.proofs.Added.{added_behind}
use Rattle.replay_texts.proofs.adding.add_jobs.Given as goal

-- what is left leads to where all does
abbrev pub invariant-loop-job : goal.invariant-loop-job
invariant-loop-job l =
    added_behind l.out.items l.accounts.items l.users.items (drop l.job-index l.jobs)
    ≡ added_behind l.initial.out.items l.initial.accounts.items l.initial.users.items l.jobs
