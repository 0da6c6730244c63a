-- The text of a saved state in parts, as it is written and read. Of the proof alone.
use Rattle.std.specs.Prelude.{◌≡◌, ◌≢◌, ◌⊎◌, ℕ, ◌+◌, ◌-◌, ◌≤◌, List, [], ◌∷◌, ◌++◌, flat_map, length, map}
use Rattle.node_state.specs.declared.record.DroppedNode.{DroppedNode}
use Rattle.saved_data.specs.Order.{IsNotBehind}
use Rattle.saved_data.specs.declared.job.SavedJob.{SavedJob}
use Rattle.saved_data.specs.declared.parts.SavedArray.{SavedArray}
use Rattle.saved_data.specs.declared.parts.SavedNode.{SavedNode}
use Rattle.saved_data.specs.declared.parts.SavedPartition.{SavedPartition}
use Rattle.saved_data.specs.declared.parts.SavedPlaced.{SavedPlaced}
use Rattle.saved_data.specs.declared.parts.SavedReservation.{SavedReservation}
use Rattle.saved_data.specs.declared.parts.SavedUsage.{SavedUsage}
use Rattle.saved_data.specs.declared.saved.Saved.{Saved}
use Rattle.state_save.specs.Lines.{AreLinesRead}
use Rattle.state_save.specs.Savable.{PartitionFits, NodeFits, DroppedFits, UsageFits, ReservationFits, ArrayFits, JobFits, PlacedFits}
use Rattle.state_save.specs.Saved.{version_words, moment_words, partition_words, node_words, dropped_words, usage_words, reservation_words, array_words, job_words, placed_words, end_words, line_text}

abbrev pub version_text : List ℕ
version_text = line_text version_words

abbrev pub end_text : List ℕ
end_text = line_text end_words

abbrev pub partition_line : SavedPartition → List ℕ
partition_line partition = line_text (partition_words partition)

abbrev pub node_line : SavedNode → List ℕ
node_line node = line_text (node_words node)

abbrev pub dropped_line : DroppedNode → List ℕ
dropped_line node = line_text (dropped_words node)

abbrev pub usage_line : SavedUsage → List ℕ
usage_line usage = line_text (usage_words usage)

abbrev pub reservation_line : SavedReservation → List ℕ
reservation_line reservation = line_text (reservation_words reservation)

abbrev pub array_line : SavedArray → List ℕ
array_line array = line_text (array_words array)

abbrev pub job_line : SavedJob → List ℕ
job_line job = line_text (job_words job)

abbrev pub placed_line : SavedPlaced → List ℕ
placed_line placed = line_text (placed_words placed)

unfoldable pub front_text : Saved → List ℕ
front_text saved =
    version_text ++ (line_text (moment_words saved.moment saved.next_id) ++ (flat_map partition_line saved.partitions
    ++ (flat_map node_line saved.nodes ++ (flat_map dropped_line saved.dropped ++ flat_map usage_line saved.usage))))

unfoldable pub back_text : Saved → List ℕ
back_text saved =
    flat_map reservation_line saved.reservations ++ (flat_map array_line saved.arrays ++ (flat_map job_line saved.jobs
    ++ (flat_map placed_line saved.plan ++ end_text)))

-- any order
abbrev pub Unordered : {X : Type 0} → X → X → Type 0
Unordered one other = Unit {0}

abbrev pub DroppedFollow : DroppedNode → DroppedNode → Type 0
DroppedFollow before after = IsNotBehind before.name after.name

abbrev pub ArrayFollows : SavedArray → SavedArray → Type 0
ArrayFollows before after = before.id ≤ after.id

abbrev pub JobFollows : SavedJob → SavedJob → Type 0
JobFollows before after = before.id ≤ after.id

-- the first kinds of members with whose lines a text begins
pub record AreFirstRead (text : List ℕ) (partitions : List SavedPartition) (nodes : List SavedNode) (dropped : List DroppedNode) (usage : List SavedUsage) (rest : List ℕ) : Type 0 where
  pub behind_partitions : List ℕ
  pub behind_nodes : List ℕ
  pub behind_dropped : List ℕ
  pub are_partitions : AreLinesRead partition_line PartitionFits Unordered text partitions behind_partitions
  pub are_nodes : AreLinesRead node_line NodeFits Unordered behind_partitions nodes behind_nodes
  pub are_dropped : AreLinesRead dropped_line DroppedFits DroppedFollow behind_nodes dropped behind_dropped
  pub are_usage : AreLinesRead usage_line UsageFits Unordered behind_dropped usage rest

-- and the others
pub record AreLastRead (text : List ℕ) (reservations : List SavedReservation) (arrays : List SavedArray) (jobs : List SavedJob) (plan : List SavedPlaced) (rest : List ℕ) : Type 0 where
  pub behind_reservations : List ℕ
  pub behind_arrays : List ℕ
  pub behind_jobs : List ℕ
  pub are_reservations : AreLinesRead reservation_line ReservationFits Unordered text reservations behind_reservations
  pub are_arrays : AreLinesRead array_line ArrayFits ArrayFollows behind_reservations arrays behind_arrays
  pub are_jobs : AreLinesRead job_line JobFits JobFollows behind_arrays jobs behind_jobs
  pub are_plan : AreLinesRead placed_line PlacedFits Unordered behind_jobs plan rest

-- all members
pub record AreMembersRead (text : List ℕ) (saved : Saved) (rest : List ℕ) : Type 0 where
  pub between : List ℕ
  pub first : AreFirstRead text saved.partitions saved.nodes saved.dropped saved.usage between
  pub last : AreLastRead between saved.reservations saved.arrays saved.jobs saved.plan rest

-- a text ends too early, with another line, or goes on behind its end: the number of its first bad line
abbrev pub IsBadEnd : List (List ℕ) → List (List ℕ) → ℕ → Type 0
IsBadEnd lines rest line =
    ((line ≡ length lines - length rest + 1) × ((more : List (List ℕ)) → ¬ (rest ≡ end_text ∷ more)))
    ⊎ ((more : List (List ℕ)) × (rest ≡ end_text ∷ more) × (more ≢ []) × (line ≡ length lines - length more + 1))

-- lines of members, and what follows them
abbrev pub with_tail : Saved → List (List ℕ) → List (List ℕ)
with_tail saved rest =
    map partition_line saved.partitions ++ (map node_line saved.nodes ++ (map dropped_line saved.dropped
    ++ (map usage_line saved.usage ++ (map reservation_line saved.reservations ++ (map array_line saved.arrays
    ++ (map job_line saved.jobs ++ (map placed_line saved.plan ++ rest)))))))
