-- What the reader keeps as it goes over what is said. Of the proof alone.
use Rattle.std.specs.Prelude.{ℕ, Bool, if◌then◌else◌, List, Option, Some, None, option_map, is_none, Result, Ok, Err}
use Rattle.std.specs.Option.{option_or}
use Rattle.text_values.specs.declared.word_refusal.WordKind.{WordKind}
use Rattle.text_values.specs.declared.word_refusal.WordKind.TheVariants.{BadValue}
use Rattle.sbatch_reader.specs.Entries.{with_entry, no_words}
use Rattle.plain_data.specs.declared.job.JobDesc.{JobDesc}
use Rattle.sbatch_reader.specs.declared.entries.Entry.{Entry}
use Rattle.sbatch_reader.specs.Description.{are_crossed, job_name, named}
use Rattle.sbatch_reader.specs.Job.{is_nodes, unless_refused}
use Rattle.sbatch_reader.specs.Refusal.{refusal_at}
use Rattle.sbatch_reader.specs.declared.draft.Draft.{Draft}
use Rattle.sbatch_reader.specs.declared.refusal.JobRefusal.{JobRefusal}
use Rattle.sbatch_reader.specs.declared.refusal.Place.{Place}
use Rattle.sbatch_reader.specs.declared.said.Said.{Said}

unfoldable pub nothing_said : Draft
nothing_said = record { words = no_words; fault = None; nodes_at = None }

-- where the last number of nodes stands, as long as no fault stands before it
abbrev pub nodes_after : Draft → Said → Option Place
nodes_after draft said =
    if is_nodes said.what then (if is_none draft.fault then Some said.place else None) else draft.nodes_at

abbrev pub after_what : Draft → Said → Result Entry WordKind → Draft
after_what draft said (Ok entry) =
    record { words = with_entry draft.words entry; fault = draft.fault; nodes_at = nodes_after draft said }
after_what draft said (Err kind) =
    record draft { fault = option_or draft.fault (Some (refusal_at said.place kind)) }

unfoldable pub after : Draft → Said → Draft
after draft said = after_what draft said said.what

-- the first fault
abbrev pub verdict : Bool → Draft → Option JobRefusal
verdict crossed draft =
    if crossed then option_or (option_map (λ place. refusal_at place BadValue) draft.nodes_at) draft.fault
    else draft.fault

-- the job of what is kept, or the first fault
unfoldable pub draft_job : Draft → Option (ℕ × List ℕ) → Result JobDesc JobRefusal
draft_job draft script =
    unless_refused (verdict (are_crossed draft.words) draft) (named draft.words (job_name draft.words script))
