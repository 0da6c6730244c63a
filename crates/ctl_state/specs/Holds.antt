-- Until when jobs hold their parts.
use Rattle.std.specs.Prelude.{ℕ, ◌+◌, ◌*◌, ◌&&◌, nat_lt, if◌then◌else◌, unwrap_or, List, map, length}
use Rattle.plain_data.specs.declared.limit.Limit.{Limit}
use Rattle.plain_data.specs.declared.limit.Limit.TheVariants.{Minutes, Unlimited}
use Rattle.resource_profile.specs.declared.Hold.{Hold}
use Rattle.job_table.specs.declared.record.Part.{Part}
use Rattle.job_table.specs.declared.record.JobRecord.{JobRecord}
use Rattle.job_table.specs.JobStates.{is_running}
use Rattle.plain_data.specs.declared.seconds.TheConstants.{FOREVER}

-- when a start at this second reaches the limit; without a limit after all moments
abbrev pub limit_end : Limit → ℕ → ℕ
limit_end (Minutes minutes) start = start + minutes * 60
limit_end Unlimited start = FOREVER

-- when the job reaches its limit
abbrev pub deadline : JobRecord → ℕ
deadline job = limit_end job.limit (unwrap_or job.started 0)

-- until when a job holds its parts: to its limit while it runs, and half a minute more once that is over or it is
-- completing
abbrev pub hold_end : ℕ → JobRecord → ℕ
hold_end now job = if is_running job.state && nat_lt now (deadline job) then deadline job else now + 30

-- what the job holds
abbrev pub holds_of_job : ℕ → JobRecord → List Hold
holds_of_job now job =
    let from = unwrap_or job.started 0 in
    let until = hold_end now job in
    map
    (λ (part : Part). record {
      node = part.node;
      from = from;
      until = until;
      cpus = length part.cpus;
      mem = part.mem;
    })
    job.parts
