-- How many jobs haven't ended, by association and quality of service.
use Rattle.std.specs.Prelude.{◌≡◌, ℕ, ◌+◌, Bool, true, false, ◌&&◌, not, nat_eq, if◌then◌else◌, List, sum_by, count_by, Option, None, Some}
use Rattle.job_table.specs.declared.record.JobRecord.{JobRecord}
use Rattle.job_table.specs.declared.unended.Unended.{Unended}
use Rattle.job_table.specs.declared.unended.Tallies.{Tallies}
use Rattle.job_table.specs.JobStates.{is_ended}

-- the job hasn't ended, and a test passes its association and its quality of service
abbrev pub is_unended : (ℕ → ℕ → Bool) → JobRecord → Bool
is_unended test job = not (is_ended job.state) && test job.assoc job.qos

-- what a tally counts, where the test passes it
abbrev pub counted : (ℕ → ℕ → Bool) → Unended → ℕ
counted test tally = if test tally.assoc tally.qos then tally.count else 0

-- by whatever test, the tallies count as many as there are jobs that haven't ended
abbrev pub ShowsUnended : List Unended → List JobRecord → Type 0
ShowsUnended tallies jobs = (test : ℕ → ℕ → Bool) → sum_by (counted test) tallies ≡ count_by (is_unended test) jobs

-- so it is, where it is known
abbrev pub IsTallied : Tallies → List JobRecord → Type 0
IsTallied tallies jobs = tallies.known ≡ true → ShowsUnended tallies.list.items jobs

-- the test passes the association and the quality of service of a job that hasn't ended
abbrev pub passes : (ℕ → ℕ → Bool) → Option (ℕ × ℕ) → Bool
passes test None = false
passes test (Some pair) = test pair.0 pair.1

-- the tally is of this association and this quality of service
abbrev pub is_of : ℕ × ℕ → Unended → Bool
is_of pair tally = nat_eq tally.assoc pair.0 && nat_eq tally.qos pair.1

abbrev pub one_if : Bool → ℕ
one_if passed = if passed then 1 else 0

-- these tallies count as much as those and one of the pair more
abbrev pub HasOneMore : ℕ × ℕ → List Unended → List Unended → Type 0
HasOneMore pair fewer more =
    (test : ℕ → ℕ → Bool) → sum_by (counted test) more ≡ sum_by (counted test) fewer + one_if (test pair.0 pair.1)

-- of these jobs as many haven't ended as of those, but for one that counts as this, and counted as that
abbrev pub OneChanges : Option (ℕ × ℕ) → Option (ℕ × ℕ) → List JobRecord → List JobRecord → Type 0
OneChanges before after jobs others = (test : ℕ → ℕ → Bool)
    → count_by (is_unended test) others + one_if (passes test before)
    ≡ count_by (is_unended test) jobs + one_if (passes test after)
