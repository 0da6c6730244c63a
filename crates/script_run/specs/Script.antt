-- What a script is answered, and how its run ends.
use Rattle.std.specs.Prelude.{◌≡◌, ◌≢◌, ℕ, ◌+◌, ◌<◌, ◌≤◌, List, [], ◌∷◌, ◌++◌, length, map, take}
use Rattle.std.specs.Io.KnownBytes.{Appends, Consumes, IsAtEnd}
use Rattle.slurm_io.specs.Faults.{CountsOne}
use Rattle.slurm_io.specs.Wire.{Wire}
use Rattle.block_frame.specs.declared.form.Form.TheVariants.{Plain}
use Rattle.block_frame.specs.Grammar.{IsPartial, IsBad, spelled_all, blocks_of, rest_of}
use Rattle.ctl_state.specs.State.{State}
use Rattle.ctl_state.specs.Soundness.{IsSound}
use Rattle.ctl_node_side.specs.Passes.{PassIsFree}
use Rattle.command_words.specs.declared.header.Meaning.{Meaning}
use Rattle.ctl_session.specs.declared.session.How.{How}
use Rattle.ctl_session.specs.declared.session.How.TheVariants.{Closed, Truncated, Bad, Spent, ReadFault, WriteFault, Shut, Memory}
use Rattle.ctl_session.specs.Meaning.{entry_made, meaning_of, told, state_behind}
use Rattle.ctl_desk.specs.declared.entry.Entry.{Entry}
use Rattle.ctl_desk.specs.History.{History}
use Rattle.std.specs.Option.{option_to_list}
use Rattle.ctl_session.specs.Session.{most_blocks}

-- what blocks are told that ask this, one after another, from a state on
abbrev pub told_all : State → List Meaning → List ℕ
told_all s [] = []
told_all s (meaning ∷ meanings) = told s meaning ++ told_all (state_behind s meaning) meanings

-- the state behind them
abbrev pub state_behind_all : State → List Meaning → State
state_behind_all s [] = s
state_behind_all s (meaning ∷ meanings) = state_behind_all (state_behind s meaning) meanings

-- the entries that they make
abbrev pub entered_all : State → List Meaning → List Entry
entered_all s [] = []
entered_all s (meaning ∷ meanings) =
    option_to_list (entry_made s 0 meaning) ++ entered_all (state_behind s meaning) meanings

-- what the first blocks of a script ask, so many of them at the most
abbrev pub asked_first : ℕ → List ℕ → List Meaning
asked_first n bytes = map meaning_of (take n (blocks_of Plain bytes))

-- What a script is answered: its blocks, as many as one session answers, from a state on.
unfoldable pub script_of : State → List ℕ → List ℕ
script_of s bytes = told_all s (asked_first most_blocks bytes)

-- The history that it leads to: the requests that were accepted, in order.
unfoldable pub script_history : State → List ℕ → History
script_history s bytes = record { opening = s; entries = entered_all s (asked_first most_blocks bytes) }

-- all that the script is answered was written, and no write failed
pub record IsWritten (s : State) (old new : Wire) (read : List ℕ) : Type 0 where
  pub written : Appends old.taken new.taken (script_of s read)
  pub writes : new.writes ≡ old.writes

-- How the run of a script ended, whose bytes were read so far as this.
abbrev pub IsEndOf : State → Wire → Wire → List ℕ → How → Type 0
-- the input is blocks, and nothing of it is left
IsEndOf s old new read Closed =
    IsWritten s old new read × (new.reads ≡ old.reads) × IsAtEnd new.left × (rest_of Plain read ≡ [])
    × (length (blocks_of Plain read) ≤ most_blocks)
-- the input ended within a block
IsEndOf s old new read (Truncated place) =
    IsWritten s old new read × (new.reads ≡ old.reads) × IsAtEnd new.left
    × IsPartial Plain (rest_of Plain read) × (rest_of Plain read ≢ [])
    × (place ≡ length (spelled_all Plain (blocks_of Plain read))) × (length (blocks_of Plain read) < most_blocks)
-- what follows the blocks is none
IsEndOf s old new read (Bad place) =
    IsWritten s old new read × (new.reads ≡ old.reads) × IsBad Plain (rest_of Plain read)
    × (place ≡ length (spelled_all Plain (blocks_of Plain read))) × (length (blocks_of Plain read) < most_blocks)
-- there are as many blocks as one session answers, and more bytes
IsEndOf s old new read Spent =
    IsWritten s old new read × (new.reads ≡ old.reads)
    × ((rest : List ℕ) × (rest ≢ []) × (read ≡ spelled_all Plain (take most_blocks (blocks_of Plain read)) ++ rest))
    × (most_blocks ≤ length (blocks_of Plain read))
-- a read failed
IsEndOf s old new read ReadFault = IsWritten s old new read × CountsOne old.reads new.reads
-- a write failed, and a part of what the script is answered was written
IsEndOf s old new read WriteFault =
    (new.reads ≡ old.reads) × CountsOne old.writes new.writes
    × ((n : ℕ) × (n < length (script_of s read)) × Appends old.taken new.taken (take n (script_of s read)))
-- a shutdown ends no script
IsEndOf s old new read Shut = ⊥
-- memory was wanting, and the first blocks were answered whole
IsEndOf s old new read Memory =
    (new.reads ≡ old.reads) × (new.writes ≡ old.writes)
    × ((n : ℕ) × (n ≤ most_blocks) × Appends old.taken new.taken (told_all s (asked_first n read)))

-- The run of a script from a state on: what was read is no longer left, and the end is one of these. So many of its
-- blocks were worked; what was written is a beginning of what they are told, and each state that they led to is sound:
-- in none is a processor held twice, or more memory held than there is. A pass in any of these states, at whatever
-- moment, starts jobs alone that nothing hinders and that reach no limit just before.
pub record IsScript (s : State) (old new : Wire) (how : How) : Type 0 where
  pub read : List ℕ
  pub worked : ℕ
  pub consumed : Consumes old.left new.left read
  pub end : IsEndOf s old new read how
  pub written : (n : ℕ) × Appends old.taken new.taken (take n (told_all s (asked_first worked read)))
  pub sound : (n : ℕ) → n < worked → IsSound (state_behind_all s (asked_first (n + 1) read))
  pub starts : (n now : ℕ) → PassIsFree (state_behind_all s (asked_first n read)) now
