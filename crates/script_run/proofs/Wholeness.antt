-- An input of whole blocks is answered to its end, and what is asked for is written behind it.
use Rattle.std.proofs.Common.{◌≡◌, ◌⊎◌, ℕ, ◌≤◌, Bool, List, [], length, Option, Some, inl, inr, refl, sym, subst, arith}
use Rattle.block_frame.specs.declared.form.Form.TheVariants.{Plain}
use Rattle.block_frame.specs.Grammar.{blocks_of, rest_of}
use Rattle.ctl_desk.specs.History.{present}
use Rattle.ctl_session.specs.declared.session.How.{How}
use Rattle.ctl_session.specs.declared.session.How.TheVariants as how
use Rattle.ctl_session.specs.Session.{most_blocks}
use Rattle.ctl_state.specs.State.{State}
use Rattle.plain_data.specs.declared.period.Period.{Period}
use Rattle.saved_data.specs.Sizes.{longest_text}
use Rattle.slurm_io.specs.Faults.{CountsNone}
use Rattle.slurm_io.specs.Wire.{Wire}
use Rattle.script_run.specs.Behind.{GoesOnBehind, IsEndBehind, IsScriptRun, saved_if, text_behind}
use Rattle.script_run.specs.Script.{IsScript, script_history}
use Rattle.script_run.proofs.Completeness.{Laws, complete, read_at_end}

abbrev IsWell : How → Type 0
IsWell ended = (ended ≡ how.Closed) ⊎ (ended ≡ how.Memory)

-- behind a script that was answered to its end
closed_well : (text saved : List ℕ) (old answered new : Wire) (ended : How) → length saved ≤ longest_text
    → answered.writes ≡ old.writes → CountsNone old.writes new.writes → IsEndBehind text saved answered new ended
    → IsWell ended
closed_well text saved old answered new how.Closed short kept writes behind = inl refl
closed_well text saved old answered new how.Memory short kept writes behind = inr refl
closed_well text saved old answered new how.WriteFault short kept writes behind =
    absurd (omega (arith, behind.1.0, kept, writes.0, writes.1))
closed_well text saved old answered new how.Spent short kept writes behind = absurd (omega (arith, behind.0, short))
closed_well text saved old answered new (how.Truncated place) short kept writes behind = absurd behind
closed_well text saved old answered new (how.Bad place) short kept writes behind = absurd behind
closed_well text saved old answered new how.Shut short kept writes behind = absurd behind
closed_well text saved old answered new how.ReadFault short kept writes behind = absurd behind

-- behind another one
other_well : Laws → (s : State) (old answered new : Wire) (ended last : How) (bytes : List ℕ)
    → old.left ≡ Some bytes → rest_of Plain bytes ≡ [] → length (blocks_of Plain bytes) ≤ most_blocks
    → CountsNone old.reads new.reads → CountsNone old.writes new.writes → IsScript s old answered ended
    → (last ≡ ended) × (new ≡ answered) → IsWell last
other_well laws s old answered new ended last bytes known none few reads writes script (is, same) =
    subst IsWell (sym is)
    (complete laws s old new ended bytes known none few reads writes
    (subst (λ w. IsScript s old w ended) (sym same) script))

by_end : Laws → (s : State) (sacct : Option Period) (save : Bool) (old answered new : Wire) (ended last : How)
    (bytes : List ℕ)
    → old.left ≡ Some bytes → rest_of Plain bytes ≡ [] → length (blocks_of Plain bytes) ≤ most_blocks
    → length (saved_if save (present (script_history s bytes))) ≤ longest_text
    → CountsNone old.reads new.reads → CountsNone old.writes new.writes → (script : IsScript s old answered ended)
    → GoesOnBehind (script_history s script.read) sacct save answered new ended last → IsWell last
by_end laws s sacct save old answered new how.Closed last bytes known none few short reads writes script behind =
    let all = read_at_end bytes answered.left script.read (rw known at script.consumed) script.end.2 in
    let h = script_history s script.read in
    closed_well (text_behind sacct save h) (saved_if save (present h)) old answered new last
    (subst (λ read. length (saved_if save (present (script_history s read))) ≤ longest_text) all short)
    script.end.0.writes writes behind
by_end laws s sacct save old answered new (how.Truncated place) last bytes known none few short reads writes script behind =
    other_well laws s old answered new (how.Truncated place) last bytes known none few reads writes script behind
by_end laws s sacct save old answered new (how.Bad place) last bytes known none few short reads writes script behind =
    other_well laws s old answered new (how.Bad place) last bytes known none few reads writes script behind
by_end laws s sacct save old answered new how.Spent last bytes known none few short reads writes script behind =
    other_well laws s old answered new how.Spent last bytes known none few reads writes script behind
by_end laws s sacct save old answered new how.Shut last bytes known none few short reads writes script behind =
    other_well laws s old answered new how.Shut last bytes known none few reads writes script behind
by_end laws s sacct save old answered new how.ReadFault last bytes known none few short reads writes script behind =
    other_well laws s old answered new how.ReadFault last bytes known none few reads writes script behind
by_end laws s sacct save old answered new how.WriteFault last bytes known none few short reads writes script behind =
    other_well laws s old answered new how.WriteFault last bytes known none few reads writes script behind
by_end laws s sacct save old answered new how.Memory last bytes known none few short reads writes script behind =
    other_well laws s old answered new how.Memory last bytes known none few reads writes script behind

pub whole : Laws → (s : State) (sacct : Option Period) (save : Bool) (old new : Wire) (ended : How) (bytes : List ℕ)
    → old.left ≡ Some bytes → rest_of Plain bytes ≡ [] → length (blocks_of Plain bytes) ≤ most_blocks
    → length (saved_if save (present (script_history s bytes))) ≤ longest_text
    → CountsNone old.reads new.reads → CountsNone old.writes new.writes → IsScriptRun s sacct save old new ended
    → (ended ≡ how.Closed) ⊎ (ended ≡ how.Memory)
whole laws s sacct save old new ended bytes known none few short reads writes run =
    by_end laws s sacct save old run.answered new run.ended ended bytes known none few short reads writes run.script
    run.behind
