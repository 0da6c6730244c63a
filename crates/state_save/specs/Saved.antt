-- The text of a saved state: lines of words, each ended by LF.
use Rattle.std.specs.Prelude.{ℕ, List, [], ◌∷◌, ◌++◌, map, flat_map, codes, decimal}
use Rattle.std.specs.Str.{byte}
use Rattle.line_words.specs.Words.{quoted_words}
use Rattle.node_state.specs.declared.record.DroppedNode.{DroppedNode}
use Rattle.saved_data.specs.declared.job.SavedJob.{SavedJob}
use Rattle.saved_data.specs.declared.parts.SavedArray.{SavedArray}
use Rattle.saved_data.specs.declared.parts.SavedNode.{SavedNode}
use Rattle.saved_data.specs.declared.parts.SavedPartition.{SavedPartition}
use Rattle.saved_data.specs.declared.parts.SavedPlaced.{SavedPlaced}
use Rattle.saved_data.specs.declared.parts.SavedReservation.{SavedReservation}
use Rattle.saved_data.specs.declared.parts.SavedUsage.{SavedUsage}
use Rattle.saved_data.specs.declared.saved.Saved.{Saved}
use Rattle.state_save.specs.Texts.{optional, listed, name_text, truth_text, pair_text, heard_text, part_state_text, down_text, held_text, state_text, limit_text, mem_text, nice_text, features_text, dependency_text, parts_text, shares_text}

abbrev pub version_words : List (List ℕ)
version_words = codes "slurm-state" ∷ codes "1" ∷ []

abbrev pub moment_words : ℕ → ℕ → List (List ℕ)
moment_words moment next = codes "moment" ∷ decimal moment ∷ codes "next" ∷ decimal next ∷ []

abbrev pub partition_words : SavedPartition → List (List ℕ)
partition_words partition = codes "partition" ∷ partition.name ∷ part_state_text partition.state ∷ []

abbrev pub node_words : SavedNode → List (List ℕ)
node_words node =
    codes "node" ∷ node.name ∷ down_text node.down ∷ truth_text node.drain ∷ truth_text node.empty
    ∷ optional heard_text node.heard ∷ []

abbrev pub dropped_words : DroppedNode → List (List ℕ)
dropped_words node = codes "gone" ∷ node.name ∷ pair_text node.boot node.number ∷ []

abbrev pub usage_words : SavedUsage → List (List ℕ)
usage_words usage = codes "usage" ∷ usage.account ∷ usage.user ∷ decimal usage.total ∷ []

abbrev pub reservation_words : SavedReservation → List (List ℕ)
reservation_words reservation =
    codes "reservation" ∷ reservation.name ∷ decimal reservation.start ∷ decimal reservation.end
    ∷ listed name_text reservation.nodes ∷ listed name_text reservation.users ∷ listed name_text reservation.accounts ∷ []

abbrev pub array_words : SavedArray → List (List ℕ)
array_words array = codes "array" ∷ decimal array.id ∷ listed decimal array.indices ∷ []

-- one `key=value` for each field
unfoldable pub job_words : SavedJob → List (List ℕ)
job_words job =
    codes "job"
    ∷ (codes "id=" ++ decimal job.id)
    ∷ (codes "array=" ++ optional decimal job.array)
    ∷ (codes "index=" ++ optional decimal job.index)
    ∷ (codes "name=" ++ job.terms.name)
    ∷ (codes "user=" ++ job.user)
    ∷ (codes "account=" ++ job.terms.account)
    ∷ (codes "partition=" ++ job.partition)
    ∷ (codes "qos=" ++ job.terms.qos)
    ∷ (codes "reservation=" ++ optional name_text job.terms.reservation)
    ∷ (codes "tasks=" ++ decimal job.terms.tasks)
    ∷ (codes "cpus=" ++ decimal job.terms.cpus_per_task)
    ∷ (codes "pernode=" ++ optional decimal job.terms.tasks_per_node)
    ∷ (codes "least=" ++ decimal job.terms.min_nodes)
    ∷ (codes "most=" ++ optional decimal job.terms.max_nodes)
    ∷ (codes "mem=" ++ mem_text job.terms.mem)
    ∷ (codes "exclusive=" ++ truth_text job.terms.exclusive)
    ∷ (codes "limit=" ++ limit_text job.limit)
    ∷ (codes "begin=" ++ optional decimal job.terms.begin)
    ∷ (codes "nice=" ++ nice_text job.nice)
    ∷ (codes "requeue=" ++ truth_text job.terms.requeue)
    ∷ (codes "features=" ++ optional features_text job.terms.features)
    ∷ (codes "required=" ++ listed name_text job.terms.required)
    ∷ (codes "excluded=" ++ listed name_text job.terms.excluded)
    ∷ (codes "percent=" ++ optional decimal job.terms.at_once)
    ∷ (codes "dependency=" ++ optional dependency_text job.terms.dependency)
    ∷ (codes "run=" ++ decimal job.terms.run)
    ∷ (codes "exit=" ++ decimal job.terms.exit)
    ∷ (codes "submit=" ++ decimal job.submit)
    ∷ (codes "eligible=" ++ decimal job.eligible)
    ∷ (codes "held=" ++ held_text job.held_by)
    ∷ (codes "state=" ++ state_text job.state)
    ∷ (codes "starts=" ++ decimal job.starts)
    ∷ (codes "started=" ++ optional decimal job.started)
    ∷ (codes "ended=" ++ optional decimal job.ended)
    ∷ (codes "code=" ++ optional decimal job.exit)
    ∷ (codes "last=" ++ listed name_text job.last_nodes)
    ∷ (codes "parts=" ++ parts_text job.parts)
    ∷ []

abbrev pub placed_words : SavedPlaced → List (List ℕ)
placed_words placed = codes "plan" ∷ decimal placed.id ∷ decimal placed.start ∷ shares_text placed.shares ∷ []

abbrev pub end_words : List (List ℕ)
end_words = codes "end" ∷ []

-- all lines, in their order
unfoldable pub saved_lines : Saved → List (List (List ℕ))
saved_lines saved =
    version_words ∷ moment_words saved.moment saved.next_id
    ∷ (map partition_words saved.partitions ++ (map node_words saved.nodes ++ (map dropped_words saved.dropped
    ++ (map usage_words saved.usage ++ (map reservation_words saved.reservations ++ (map array_words saved.arrays
    ++ (map job_words saved.jobs ++ (map placed_words saved.plan ++ end_words ∷ []))))))))

unfoldable pub line_text : List (List ℕ) → List ℕ
line_text words = quoted_words words ++ byte "\n" ∷ []

-- The text of a saved state.
unfoldable pub saved_text : Saved → List ℕ
saved_text saved = flat_map line_text (saved_lines saved)
