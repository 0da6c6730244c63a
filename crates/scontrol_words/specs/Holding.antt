-- What the words of `scontrol hold`, `uhold`, `release` and `requeue` ask.
use Rattle.std.specs.Prelude.{ℕ, Bool, List, Result, Ok, Err}
use Rattle.text_values.specs.Steps.{◌>>=◌}
use Rattle.operands.specs.BadWord.{at_word, good}
use Rattle.operands.specs.Operands.{word_at, closed_at}
use Rattle.operands.specs.Targets.{target_by, targets_by}
use Rattle.operands.specs.declared.bad_word.BadWord.{BadWord}
use Rattle.request_data.specs.declared.request.Request.{Request}
use Rattle.request_data.specs.declared.request.Request.TheVariants.{Hold, Release, Requeue}
use Rattle.request_data.specs.declared.target.Target.{Target}

-- the one list of jobs that is the third word
unfoldable pub listed_jobs : List (List ℕ) → Result (List Target) BadWord
listed_jobs words = do
  list ← word_at words 2
  at_word 3 (good (targets_by list))

-- the one job that is the third word
unfoldable pub one_job : List (List ℕ) → Result Target BadWord
one_job words = do
  text ← word_at words 2
  at_word 3 (good (target_by text))

unfoldable pub hold_by : Bool → List (List ℕ) → Result Request BadWord
hold_by user words = do
  targets ← listed_jobs words
  closed_at words 3 (Hold targets user)

unfoldable pub release_by : List (List ℕ) → Result Request BadWord
release_by words = do
  targets ← listed_jobs words
  closed_at words 3 (Release targets)

unfoldable pub requeue_by : List (List ℕ) → Result Request BadWord
requeue_by words = do
  target ← one_job words
  closed_at words 3 (Requeue target)
