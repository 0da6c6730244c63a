-- What is said of a host.
use Rattle.std.specs.Prelude.{◌≡◌, ℕ, Bool, List, [], map, Option, Some, None, IfSome, MatchBool, if◌then◌else◌, Result, MatchResult}
use Rattle.slurm_io.specs.Wire.{Wire}
use Rattle.slurm_io.specs.Faults.{CountsOne, next_count}
use Rattle.slurm_net.specs.Session.{LinkSession}
use Rattle.slurm_net.specs.declared.host.ListenRefusal.{ListenRefusal}
use Rattle.slurm_net.specs.declared.host.ListenRefusal.TheVariants.{Failed, Memory}

-- A host: how many calls of `listen` and `dial` failed and how often doors were closed of which one had failed; how many
-- links were hung up of which a read, or a write, had failed; each up to the greatest `u64`. What the link of the next
-- dial has left, and what the link that was hung up last had taken, where the host tells these.
pub record Hosting : Type 0 where
  pub faults : ℕ
  pub link_reads : ℕ
  pub link_writes : ℕ
  pub next_left : Option (List ℕ)
  pub last_taken : Option (List ℕ)

-- one fault was counted where this is so, and else the count stayed
abbrev pub CountsIf : Bool → ℕ → ℕ → Type 0
CountsIf failed before after = MatchBool failed (CountsOne before after) (after ≡ before)

-- a count after something that failed, or didn't
abbrev pub count_if : Bool → ℕ → ℕ
count_if failed count = if failed then next_count count else count

-- a call that couldn't open its doors was counted once, and want of memory left the count as it was
abbrev pub CountsRefusal : ℕ → ℕ → ListenRefusal → Type 0
CountsRefusal before after Failed = CountsOne before after
CountsRefusal before after Memory = after ≡ before

-- doors that were opened left the count as it was
abbrev pub CountsListening : {T : Type 0} → ℕ → ℕ → Result T ListenRefusal → Type 0
CountsListening before after result = MatchResult result (λ _. after ≡ before) (CountsRefusal before after)

-- a door as it is made, of its count of faults, the link that is out and its sessions
pub record IsNewDoor (faults : ℕ) (out : Option Wire) (sessions : Option (List LinkSession)) : Type 0 where
  pub unfailed : faults ≡ 0
  pub nobody : out ≡ None
  pub unserved : IfSome sessions (λ served. served ≡ [])

-- where the sessions of doors that were closed are told, each door told them, and they are these, in order
abbrev pub KeepsSessions : Option (List (List LinkSession)) → List (Option (List LinkSession)) → Type 0
KeepsSessions closed sessions = IfSome closed (λ lists. map (λ list. Some list) lists ≡ sessions)
