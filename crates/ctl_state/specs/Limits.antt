-- Limits of jobs, compared.
use Rattle.std.specs.Prelude.{Bool, true, false, nat_lt}
use Rattle.plain_data.specs.declared.limit.Limit.{Limit}
use Rattle.plain_data.specs.declared.limit.Limit.TheVariants.{Minutes, Unlimited}

-- the limit is above the longest one; none is above every number
abbrev pub exceeds : Limit → Limit → Bool
exceeds (Minutes minutes) (Minutes longest) = nat_lt longest minutes
exceeds Unlimited (Minutes longest) = true
exceeds limit Unlimited = false
