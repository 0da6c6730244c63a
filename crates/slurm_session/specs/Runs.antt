-- What a run leaves, by how it ended.
use Rattle.std.specs.Prelude.{◌≡◌, ◌⊎◌, ℕ, ◌<◌, List, length, codes, Option, Some, None, IfSome, IsSomeAnd, Result, Ok, Err}
use Rattle.slurm_io.specs.Faults.{CountsOne}
use Rattle.slurm_io.specs.Shelf.{ShelfFile, bytes_named}
use Rattle.cluster_opening.specs.Files.{Opens}
use Rattle.cluster_opening.specs.declared.opening.OpenRefusal.{OpenRefusal}
use Rattle.cluster_opening.specs.declared.opening.OpenRefusal.TheVariants as refusal
use Rattle.cluster_opening.specs.declared.refusal.ClusterRefusal.TheVariants as cluster
use Rattle.ctl_state.specs.State.{State}
use Rattle.ctl_desk.specs.Desk.{Seat, state_of}
use Rattle.plain_data.specs.Files.{Named}
use Rattle.session_text.specs.declared.input.Input.{Input}
use Rattle.session_text.specs.declared.input.Input.TheVariants.{Text}
use Rattle.session_talk.specs.Talk.{IsTalk, Scene, first_post, setting}
use Rattle.session_talk.specs.declared.session.Ended.{Ended}
use Rattle.slurm_session.specs.Command.{Asked, asked_in}
use Rattle.slurm_session.specs.declared.ending.RunEnd.{RunEnd}
use Rattle.slurm_session.specs.declared.ending.RunEnd.TheVariants.{Usage, NoFile, BadFile, LongText, Memory, Talked}
use Rattle.slurm_session.specs.declared.running.TheConstants.{LONGEST_TEXT}
use Rattle.slurm_session.specs.declared.running.WordsFault.{WordsFault}
use Rattle.slurm_session.specs.declared.running.WordsFault.TheVariants as words

-- the end of a run whose cluster wasn't opened
abbrev pub unopened : OpenRefusal → RunEnd
unopened refusal.NoFile = NoFile
unopened (refusal.Bad bad) = BadFile bad
unopened refusal.Memory = Memory

-- why files open no cluster, by their count of failed reads before and after
abbrev pub IsUnopened : Option (List ShelfFile) → Named → ℕ → ℕ → RunEnd → Type 0
IsUnopened told named before after Usage = ⊥
IsUnopened told named before after NoFile = CountsOne before after
IsUnopened told named before after (BadFile bad) = Opens told named (Err (cluster.Bad bad)) × (after ≡ before)
IsUnopened told named before after LongText = ⊥
IsUnopened told named before after Memory = after ≡ before
IsUnopened told named before after (Talked ended) = ⊥

-- what becomes of opening a cluster
abbrev pub IsOpened : Option (List ShelfFile) → Named → ℕ → ℕ → Result Seat RunEnd → Type 0
IsOpened told named before after (Ok seat) = Opens told named (Ok (state_of seat)) × (after ≡ before)
IsOpened told named before after (Err end) = IsUnopened told named before after end

-- the text of a session's file, where the files are told
abbrev pub IsTextOf : Option (List ShelfFile) → List ℕ → List ℕ → Type 0
IsTextOf told name text = IfSome told (λ files. bytes_named files name ≡ Some text)

-- the outside of a session whose lines are those of a text, which is its own
abbrev pub over_text : Scene → List ℕ → Scene
over_text at text = record at { left = Some text; reads = 0 }

-- A session on a text: the input stays as it was.
pub record IsTalkOn (told : Option (List ShelfFile)) (name text : List ℕ) (s : State) (old new : Scene) (ended : Ended)
    : Type 0 where
  pub left : Option (List ℕ)
  pub talk : IsTalk (setting name Text told) first_post s (over_text old text) (record new { left = left; reads = 0 }) ended
  pub stays : (new.left ≡ old.left) × (new.reads ≡ old.reads)

-- a session of a file, if one is named, and else of the input
abbrev pub IsTalkOf : Option (List ShelfFile) → Input → Option (List ℕ) → State → Scene → Scene → Ended → Type 0
IsTalkOf told input None s old new ended = IsTalk (setting (codes "-") input told) first_post s old new ended
IsTalkOf told input (Some name) s old new ended =
    (text : List ℕ) × IsTextOf told name text × IsTalkOn told name text s old new ended

-- the file of a session is longer than one may be, where the files are told
abbrev pub IsLong : Option (List ShelfFile) → Option (List ℕ) → Type 0
IsLong told None = ⊥
IsLong told (Some name) = IfSome told (λ files. IsSomeAnd (bytes_named files name) (λ text. LONGEST_TEXT < length text))

-- why there is no text of a session's file, by the count of failed reads before and after
abbrev pub IsUnread : Option (List ShelfFile) → List ℕ → ℕ → ℕ → RunEnd → Type 0
IsUnread told name before after NoFile = CountsOne before after
IsUnread told name before after LongText = IsLong told (Some name) × (after ≡ before)
IsUnread told name before after Memory = after ≡ before
IsUnread told name before after _ = ⊥

-- nothing but files was read, and nothing written
abbrev pub OnlyFiles : Scene → Scene → Type 0
OnlyFiles old new = new ≡ record old { files = new.files }

-- what a run at an opened cluster left
abbrev pub HasTalked : Option (List ShelfFile) → Input → Option (List ℕ) → State → Scene → Scene → RunEnd → Type 0
HasTalked told input file s old new (Talked ended) = IsTalkOf told input file s old new ended
HasTalked told input file s old new NoFile = CountsOne old.files new.files × OnlyFiles old new
HasTalked told input file s old new LongText = IsLong told file × (new ≡ old)
HasTalked told input file s old new Memory = new ≡ old
HasTalked told input file s old new _ = ⊥

-- what a run left whose cluster wasn't opened
pub record IsUnopenedRun (told : Option (List ShelfFile)) (named : Named) (old new : Scene) (end : RunEnd) : Type 0 where
  pub refused : IsUnopened told named old.files new.files end
  pub alone : OnlyFiles old new

-- what a run left whose cluster was opened
pub record IsOpenedRun (told : Option (List ShelfFile)) (input : Input) (asked : Asked) (old new : Scene) (end : RunEnd)
    : Type 0 where
  pub opening : State
  pub opens : Opens told asked.named (Ok opening)
  pub talked : HasTalked told input asked.file opening old new end

-- what a run left of what was asked
abbrev pub HasRun : Option (List ShelfFile) → Input → Asked → Scene → Scene → RunEnd → Type 0
HasRun told input asked old new end = IsUnopenedRun told asked.named old new end ⊎ IsOpenedRun told input asked old new end

-- what a run left whose words were read
abbrev pub HasEnded : Option (List ShelfFile) → Input → List (List ℕ) → Scene → Scene → RunEnd → Type 0
HasEnded told input words old new Usage = (asked_in words ≡ None) × (new ≡ old)
HasEnded told input words old new end =
    ((asked : Asked) × (asked_in words ≡ Some asked) × HasRun told input asked old new end)
    ⊎ ((end ≡ Memory) × (new ≡ old))

-- the end where the words are not at hand
abbrev pub end_without : WordsFault → RunEnd
end_without words.NotText = Usage
end_without words.Memory = Memory
