-- One connection that was served, and what its door keeps of it.
use Rattle.std.specs.Prelude.{ℕ, List, length, map, sum_by}
use Rattle.std.specs.List.{flat_map}
use Rattle.slurm_io.specs.Wire.{Wire}
use Rattle.slurm_net.specs.declared.door.Cut.{Cut}
use Rattle.slurm_net.specs.Accepted.{IsNewLink}
use Rattle.slurm_net.specs.Session.{LinkSession, session_of}
use Rattle.block_frame.specs.declared.form.Form.TheVariants.{Framed}
use Rattle.ctl_desk.specs.Desk.{Sight, seen}
use Rattle.ctl_session.specs.declared.session.Ended.{Ended}
use Rattle.ctl_session.specs.Clock.{Timing}
use Rattle.ctl_session.specs.Session.{Ending, IsServed, given}

-- A connection that was served: its link as it came and as it was handed back, the desk and the clock as they stood
-- before and after, how the session ended, and what it leaves.
pub record Serving : Type 0 where
  pub came : Wire
  pub back : Wire
  pub desk : Sight
  pub desk' : Sight
  pub clock : Timing
  pub clock' : Timing
  pub ended : Ended
  pub ending : Ending

-- the numbers that are kept of it: how many entries were seen before and after it, and the counts that it ended with
abbrev pub cut_of : Serving → Cut
cut_of serving = record {
  before = length (seen serving.desk);
  after = length (seen serving.desk');
  answered = serving.ended.answered;
  readings = serving.ended.readings;
}

-- what its door keeps of it
abbrev pub session_in : Serving → LinkSession
session_in serving = session_of serving.came serving.back (cut_of serving)

-- what a door keeps of these, in order
abbrev pub sessions_in : List Serving → List LinkSession
sessions_in servings = map session_in servings

-- the moments that the clock gave for it
abbrev pub moments_in : Serving → List ℕ
moments_in serving = given serving.ending

-- those that it gave for all of these
abbrev pub moments_of : List Serving → List ℕ
moments_of servings = flat_map moments_in servings

-- how often the clock was read, by the cuts that a door keeps
abbrev pub readings_of : List LinkSession → ℕ
readings_of sessions = sum_by (λ session. session.cut.readings) sessions

-- A link that had not been used was served in the framed form.
pub record IsServing (serving : Serving) : Type 0 where
  pub fresh : IsNewLink serving.came
  pub served : IsServed Framed serving.came serving.back serving.desk serving.desk' serving.clock serving.clock'
      serving.ended serving.ending
