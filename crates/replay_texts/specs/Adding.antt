-- The accounts and users of a trace that an association file lacks.
use Rattle.std.specs.Prelude.{ℕ, nat_eq, if◌then◌else◌, List, [], ◌∷◌, ◌++◌, Option, Some, None, Result, Ok, Err, bytes_eq, codes}
use Rattle.std.specs.List.{ends_with}
use Rattle.assoc_reader.specs.Reader.{assocs_in}
use Rattle.assoc_reader.specs.declared.refusal.AssocRefusal.{AssocRefusal}
use Rattle.plain_data.specs.Assocs.{AssocView}
use Rattle.trace_text.specs.declared.job.TraceJob.{TraceJob}
use Rattle.replay_texts.specs.Known.{accounts_in, has_account, has_user, users_in}
use Rattle.replay_texts.specs.Lines.{account_text, user_text}
use Rattle.replay_texts.specs.declared.known.AccountUser.{AccountUser}

-- the account that a trace tells; None is root
abbrev pub named_account : Option (List ℕ) → Option (List ℕ)
named_account (Some name) = if bytes_eq name (codes "root") then None else Some name
named_account None = None

-- the lines of an account that isn't known, and the accounts that are known behind them
abbrev pub named_lines : List (List ℕ) → List ℕ → List ℕ
named_lines accounts name = if has_account accounts name then [] else account_text name

abbrev pub named_with : List (List ℕ) → List ℕ → List (List ℕ)
named_with accounts name = if has_account accounts name then accounts else accounts ++ name ∷ []

-- root needs none
abbrev pub account_lines : List (List ℕ) → Option (List ℕ) → List ℕ
account_lines accounts (Some name) = named_lines accounts name
account_lines accounts None = []

abbrev pub accounts_with : List (List ℕ) → Option (List ℕ) → List (List ℕ)
accounts_with accounts (Some name) = named_with accounts name
accounts_with accounts None = accounts

-- the same of a user of an account
abbrev pub user_lines : List AccountUser → Option (List ℕ) → List ℕ → List ℕ
user_lines users account user = if has_user users account user then [] else user_text account user

abbrev pub users_with : List AccountUser → Option (List ℕ) → List ℕ → List AccountUser
users_with users account user =
    if has_user users account user then users else users ++ record { account = account; user = user } ∷ []

-- the lines of a job's account and user, where the trace tells whose it is
abbrev pub lines_with : List (List ℕ) → List AccountUser → Option (List ℕ) → Option (List ℕ) → List ℕ
lines_with accounts users account (Some user) = account_lines accounts account ++ user_lines users account user
lines_with accounts users account None = []

unfoldable pub job_lines : List (List ℕ) → List AccountUser → TraceJob → List ℕ
job_lines accounts users job = lines_with accounts users (named_account job.names.account) job.names.user

-- and what is known behind them
abbrev pub accounts_told : List (List ℕ) → Option (List ℕ) → Option (List ℕ) → List (List ℕ)
accounts_told accounts account (Some user) = accounts_with accounts account
accounts_told accounts account None = accounts

unfoldable pub accounts_behind : List (List ℕ) → TraceJob → List (List ℕ)
accounts_behind accounts job = accounts_told accounts (named_account job.names.account) job.names.user

abbrev pub users_told : List AccountUser → Option (List ℕ) → Option (List ℕ) → List AccountUser
users_told users account (Some user) = users_with users account user
users_told users account None = users

unfoldable pub users_behind : List AccountUser → TraceJob → List AccountUser
users_behind users job = users_told users (named_account job.names.account) job.names.user

-- the lines of jobs, where these accounts and users are known
unfoldable pub added : List (List ℕ) → List AccountUser → List TraceJob → List ℕ
added accounts users [] = []
added accounts users (job ∷ jobs) =
    job_lines accounts users job ++ added (accounts_behind accounts job) (users_behind users job) jobs

-- the end of the last line, where it has none
abbrev pub ended : List ℕ → List ℕ
ended text = if ends_with nat_eq text (codes "\n") then [] else codes "\n"

abbrev pub added_lines : AssocView → List TraceJob → List ℕ
added_lines file jobs = added (accounts_in file.assocs) (users_in file.assocs) jobs

abbrev pub added_to : List ℕ → Result AssocView AssocRefusal → List TraceJob → List ℕ
added_to text (Ok file) jobs = text ++ ended text ++ added_lines file jobs
added_to text (Err refusal) jobs = text

-- the text of an association file with the lines that the jobs of a trace need; a bad file stays as it is
unfoldable pub with_users : List ℕ → List TraceJob → List ℕ
with_users text jobs = added_to text (assocs_in text) jobs
