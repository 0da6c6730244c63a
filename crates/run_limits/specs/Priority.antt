-- A job's priority, and what it is made of.
use Rattle.std.specs.Prelude.{ℕ, ◌+◌, ◌-◌, min, max, List, [], ◌∷◌}
use Rattle.plain_data.specs.Ratios.{share_of}
use Rattle.plain_data.specs.declared.nice.Nice.{Nice}
use Rattle.plain_data.specs.declared.nice.Nice.TheVariants.{Lower, Raise}
use Rattle.run_limits.specs.declared.terms.Term.{Term}
use Rattle.reply_data.specs.declared.priority.PriorityParts.{PriorityParts}

-- what a term adds: its weight's part, rounded down, and nothing of no denominator
abbrev pub value_of : Term → ℕ
value_of term = share_of term.weight term.num term.den

-- the terms of a priority, in the order of those that it was made of
abbrev pub terms_of : PriorityParts → List ℕ
terms_of parts = parts.age ∷ parts.fair_share ∷ parts.job_size ∷ parts.partition ∷ parts.qos ∷ []

-- a sum of terms less the nice value; one below 0 counts as 0, since it is raised to 1 anyway
abbrev pub less_nice : ℕ → Nice → ℕ
less_nice sum (Lower by) = sum - by
less_nice sum (Raise by) = sum + by

-- the priority of a sum of terms: less nice, at least 1 and at most 4,294,967,295
abbrev pub priority_of : ℕ → Nice → ℕ
priority_of sum nice = min (max (less_nice sum nice) 1) 4_294_967_295
