-- What the types of a saved state don't keep of it: the order of its members, and the rules of sbatch(1) for the nodes
-- that its jobs want and the jobs that they wait for.
use Rattle.std.specs.Prelude.{All}
use Rattle.command_words.specs.declared.header.Meaning.{Meaning}
use Rattle.command_words.specs.declared.header.Meaning.TheVariants.{Asks}
use Rattle.job_table.specs.declared.terms.Terms.{Terms}
use Rattle.plain_data.specs.declared.job.JobDesc.{JobDesc}
use Rattle.request_data.specs.declared.request.Request.{Request}
use Rattle.request_data.specs.declared.request.Request.TheVariants.{Submit}
use Rattle.saved_data.specs.Order.{IsInOrder}
use Rattle.saved_data.specs.declared.job.SavedJob.{SavedJob}
use Rattle.saved_data.specs.declared.saved.Saved.{Saved}
use Rattle.state_save.specs.Fitting.{FitsOptional, AreHosts, FeaturesFit, DependencyFits}

-- A list of features is one of some names; nodes are named once and are 1,024 at most; a dependency has some items, whose
-- kinds and jobs go together, and names 64 jobs at most.
pub record DescByRules (desc : JobDesc) : Type 0 where
  pub features : FitsOptional FeaturesFit desc.features
  pub required : AreHosts desc.required
  pub excluded : AreHosts desc.excluded
  pub dependency : FitsOptional DependencyFits desc.dependency

-- likewise of what is settled for a job
pub record TermsByRules (terms : Terms) : Type 0 where
  pub features : FitsOptional FeaturesFit terms.features
  pub required : AreHosts terms.required
  pub excluded : AreHosts terms.excluded
  pub dependency : FitsOptional DependencyFits terms.dependency

-- what a request hands in is by the rules, if it hands in anything
abbrev pub RequestByRules : Request → Type 0
RequestByRules (Submit desc) = DescByRules desc
RequestByRules request = Unit {0}

-- so is what is asked
abbrev pub AsksByRules : Meaning → Type 0
AsksByRules (Asks asked) = RequestByRules asked.request
AsksByRules meaning = Unit {0}

-- What is saved stands in order, and what its jobs ask for is by the rules.
pub record IsByRules (saved : Saved) : Type 0 where
  pub order : IsInOrder saved
  pub terms : All (λ (job : SavedJob). TermsByRules job.terms) saved.jobs
