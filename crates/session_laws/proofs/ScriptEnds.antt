-- What the end of a script's run says of its input.
use Rattle.std.proofs.Common.{◌≡◌, ◌⊎◌, ℕ, ◌≤◌, Bool, List, Option, Some, length, inl, inr, refl, sym, ap, ◌∙◌, subst, arith}
use Rattle.ctl_desk.specs.History.{present}
use Rattle.ctl_session.specs.declared.session.How.{How}
use Rattle.ctl_session.specs.declared.session.How.TheVariants as how
use Rattle.ctl_state.specs.State.{State}
use Rattle.plain_data.specs.declared.period.Period.{Period}
use Rattle.saved_data.specs.Sizes.{longest_text}
use Rattle.script_run.specs.Behind.{GoesOnBehind, IsEndBehind, IsScriptRun, saved_if, text_behind}
use Rattle.script_run.specs.Script.{IsScript, script_history}
use Rattle.slurm_io.specs.Faults.{CountsNone}
use Rattle.slurm_io.specs.Wire.{Wire}
use Rattle.session_laws.specs.ScriptInputs.{IsBroken, IsToldAt, IsTooLong, IsWhole, LeadsToLongText, rest_begins}
use Rattle.script_run.proofs.Completeness.{Laws, whole_input}
use Rattle.session_laws.proofs.ScriptInputs.{bad_goes_on, broken_isnt_too_long, longer_goes_on, read_at_end, whole_isnt_too_long}

-- A script was answered to its end, and this came behind it.
record IsBehind (s : State) (sacct : Option Period) (save : Bool) (old new : Wire) (ended : How) : Type 0 where
  answered : Wire
  script : IsScript s old answered how.Closed
  behind : IsEndBehind (text_behind sacct save (script_history s script.read))
      (saved_if save (present (script_history s script.read))) answered new ended

-- A run is that of a script that ended otherwise, or comes behind one that was answered to its end.
abbrev IsRun : State → Option Period → Bool → Wire → Wire → How → Type 0
IsRun s sacct save old new ended =
    (IsScript s old new ended × (ended ≡ how.Closed → ⊥)) ⊎ IsBehind s sacct save old new ended

other_run : (s : State) (sacct : Option Period) (save : Bool) (old answered new : Wire) (ended last : How)
    → (ended ≡ how.Closed → ⊥) → IsScript s old answered ended → (last ≡ ended) × (new ≡ answered)
    → IsRun s sacct save old new last
other_run s sacct save old answered new ended last other script (is, same) = inl (
  subst (IsScript s old new) (sym is) (subst (λ w. IsScript s old w ended) (sym same) script),
  λ e. other (sym is ∙ e),
)

run_of : (s : State) (sacct : Option Period) (save : Bool) (old answered new : Wire) (ended last : How)
    → (script : IsScript s old answered ended)
    → GoesOnBehind (script_history s script.read) sacct save answered new ended last → IsRun s sacct save old new last
run_of s sacct save old answered new how.Closed last script behind =
    inr (record { answered = answered; script = script; behind = behind })
run_of s sacct save old answered new (how.Truncated place) last script behind =
    other_run s sacct save old answered new (how.Truncated place) last (λ e. absurd (cc)) script behind
run_of s sacct save old answered new (how.Bad place) last script behind =
    other_run s sacct save old answered new (how.Bad place) last (λ e. absurd (cc)) script behind
run_of s sacct save old answered new how.Spent last script behind =
    other_run s sacct save old answered new how.Spent last (λ e. absurd (cc)) script behind
run_of s sacct save old answered new how.ReadFault last script behind =
    other_run s sacct save old answered new how.ReadFault last (λ e. absurd (cc)) script behind
run_of s sacct save old answered new how.WriteFault last script behind =
    other_run s sacct save old answered new how.WriteFault last (λ e. absurd (cc)) script behind
run_of s sacct save old answered new how.Shut last script behind =
    other_run s sacct save old answered new how.Shut last (λ e. absurd (cc)) script behind
run_of s sacct save old answered new how.Memory last script behind =
    other_run s sacct save old answered new how.Memory last (λ e. absurd (cc)) script behind

-- What an end says of the input: where it comes of a fault, that one was counted.
abbrev Tells : State → Bool → Wire → Wire → List ℕ → How → Type 0
Tells s save old new bytes how.Closed =
    IsWhole bytes × (length (saved_if save (present (script_history s bytes))) ≤ longest_text)
Tells s save old new bytes (how.Truncated place) = IsBroken bytes × (place ≡ rest_begins bytes)
Tells s save old new bytes (how.Bad place) = IsBroken bytes × (place ≡ rest_begins bytes)
Tells s save old new bytes how.Spent = IsTooLong s save bytes
Tells s save old new bytes how.ReadFault = CountsNone old.reads new.reads → ⊥
Tells s save old new bytes how.WriteFault = CountsNone old.writes new.writes → ⊥
Tells s save old new bytes how.Shut = ⊥
Tells s save old new bytes how.Memory = Unit {0}

script_tells : Laws → (s : State) (save : Bool) (old new : Wire) (bytes : List ℕ) (ended : How) → old.left ≡ Some bytes
    → (ended ≡ how.Closed → ⊥) → IsScript s old new ended → Tells s save old new bytes ended
script_tells laws s save old new bytes how.Closed known other script = absurd (other refl)
script_tells laws s save old new bytes (how.Truncated place) known other script =
    subst (λ b. IsBroken b × (place ≡ rest_begins b))
    (read_at_end bytes new.left script.read (rw known at script.consumed) script.end.2)
    ((script.end.4, script.end.6), script.end.5)
script_tells laws s save old new bytes (how.Bad place) known other script =
    let whole = whole_input bytes new.left script.read (rw known at script.consumed) in
    bad_goes_on laws bytes script.read whole.0 place whole.1 script.end.2 script.end.3 script.end.4
script_tells laws s save old new bytes how.Spent known other script =
    let whole = whole_input bytes new.left script.read (rw known at script.consumed) in
    inl (longer_goes_on laws bytes script.read whole.0 script.end.2.0 whole.1 script.end.2.1 script.end.2.2 script.end.3)
script_tells laws s save old new bytes how.ReadFault known other script =
    λ reads. omega (arith, script.end.1.0, reads.0, reads.1)
script_tells laws s save old new bytes how.WriteFault known other script =
    λ writes. omega (arith, script.end.1.0, writes.0, writes.1)
script_tells laws s save old new bytes how.Shut known other script = absurd script.end
script_tells laws s save old new bytes how.Memory known other script = tt

-- all of the input was read, and is whole blocks
all_read : (s : State) (old answered : Wire) (bytes : List ℕ) → old.left ≡ Some bytes
    → (script : IsScript s old answered how.Closed) → script.read ≡ bytes
all_read s old answered bytes known script =
    read_at_end bytes answered.left script.read (rw known at script.consumed) script.end.2

behind_tells : (s : State) (sacct : Option Period) (save : Bool) (old new : Wire) (bytes : List ℕ) (ended : How)
    → old.left ≡ Some bytes → IsBehind s sacct save old new ended → Tells s save old new bytes ended
behind_tells s sacct save old new bytes how.Closed known run =
    subst (λ b. IsWhole b × (length (saved_if save (present (script_history s b))) ≤ longest_text))
    (all_read s old run.answered bytes known run.script)
    ((run.script.end.3, run.script.end.4), run.behind.1)
behind_tells s sacct save old new bytes how.Spent known run =
    inr (subst (λ b. LeadsToLongText s save b) (all_read s old run.answered bytes known run.script)
    ((run.script.end.3, run.script.end.4), run.behind.0))
behind_tells s sacct save old new bytes how.WriteFault known run =
    let kept = run.script.end.0.writes in λ writes. omega (arith, run.behind.1.0, kept, writes.0, writes.1)
behind_tells s sacct save old new bytes how.Memory known run = tt
behind_tells s sacct save old new bytes (how.Truncated place) known run = absurd run.behind
behind_tells s sacct save old new bytes (how.Bad place) known run = absurd run.behind
behind_tells s sacct save old new bytes how.ReadFault known run = absurd run.behind
behind_tells s sacct save old new bytes how.Shut known run = absurd run.behind

tells : Laws → (s : State) (sacct : Option Period) (save : Bool) (old new : Wire) (bytes : List ℕ) (ended : How)
    → old.left ≡ Some bytes → IsScriptRun s sacct save old new ended → Tells s save old new bytes ended
tells laws s sacct save old new bytes ended known run =
    elim (run_of s sacct save old run.answered new run.ended ended run.script run.behind) [
      | inl other ↦ script_tells laws s save old new bytes ended known other.1 other.0
      | inr behind ↦ behind_tells s sacct save old new bytes ended known behind
    ]

-- where the input is broken
broken_by : (s : State) (save : Bool) (old new : Wire) (bytes : List ℕ) (ended : How) → IsBroken bytes
    → CountsNone old.reads new.reads → CountsNone old.writes new.writes → Tells s save old new bytes ended
    → IsToldAt (rest_begins bytes) ended ⊎ (ended ≡ how.Memory)
broken_by s save old new bytes how.Closed broken reads writes told = absurd (broken.0 told.0.0)
broken_by s save old new bytes (how.Truncated place) broken reads writes told = inl (inl (ap how.Truncated told.1))
broken_by s save old new bytes (how.Bad place) broken reads writes told = inl (inr (ap how.Bad told.1))
broken_by s save old new bytes how.Spent broken reads writes told =
    absurd (broken_isnt_too_long s save bytes broken told)
broken_by s save old new bytes how.ReadFault broken reads writes told = absurd (told reads)
broken_by s save old new bytes how.WriteFault broken reads writes told = absurd (told writes)
broken_by s save old new bytes how.Shut broken reads writes told = absurd told
broken_by s save old new bytes how.Memory broken reads writes told = inr refl

pub broken : Laws → (s : State) (sacct : Option Period) (save : Bool) (old new : Wire) (ended : How) (bytes : List ℕ)
    → old.left ≡ Some bytes → IsBroken bytes → CountsNone old.reads new.reads → CountsNone old.writes new.writes
    → IsScriptRun s sacct save old new ended → IsToldAt (rest_begins bytes) ended ⊎ (ended ≡ how.Memory)
broken laws s sacct save old new ended bytes known is reads writes run =
    broken_by s save old new bytes ended is reads writes (tells laws s sacct save old new bytes ended known run)

told_at : (s : State) (save : Bool) (old new : Wire) (bytes : List ℕ) (ended : How) (place : ℕ) → IsToldAt place ended
    → Tells s save old new bytes ended → IsBroken bytes × (place ≡ rest_begins bytes)
told_at s save old new bytes ended place (inl at) told = subst (Tells s save old new bytes) at told
told_at s save old new bytes ended place (inr at) told = subst (Tells s save old new bytes) at told

pub only_broken : Laws → (s : State) (sacct : Option Period) (save : Bool) (old new : Wire) (ended : How)
    (bytes : List ℕ) (place : ℕ) → old.left ≡ Some bytes → IsScriptRun s sacct save old new ended
    → IsToldAt place ended → IsBroken bytes × (place ≡ rest_begins bytes)
only_broken laws s sacct save old new ended bytes place known run at =
    told_at s save old new bytes ended place at (tells laws s sacct save old new bytes ended known run)

-- where there is too much
spent_by : Laws → (s : State) (save : Bool) (old new : Wire) (bytes : List ℕ) (ended : How) → IsTooLong s save bytes
    → CountsNone old.reads new.reads → CountsNone old.writes new.writes → Tells s save old new bytes ended
    → (ended ≡ how.Spent) ⊎ (ended ≡ how.Memory)
spent_by laws s save old new bytes how.Closed long reads writes told =
    absurd (whole_isnt_too_long laws s save bytes told.0 (λ leads. omega (arith, leads.1, told.1)) long)
spent_by laws s save old new bytes (how.Truncated place) long reads writes told =
    absurd (broken_isnt_too_long s save bytes told.0 long)
spent_by laws s save old new bytes (how.Bad place) long reads writes told =
    absurd (broken_isnt_too_long s save bytes told.0 long)
spent_by laws s save old new bytes how.Spent long reads writes told = inl refl
spent_by laws s save old new bytes how.ReadFault long reads writes told = absurd (told reads)
spent_by laws s save old new bytes how.WriteFault long reads writes told = absurd (told writes)
spent_by laws s save old new bytes how.Shut long reads writes told = absurd told
spent_by laws s save old new bytes how.Memory long reads writes told = inr refl

pub spent : Laws → (s : State) (sacct : Option Period) (save : Bool) (old new : Wire) (ended : How) (bytes : List ℕ)
    → old.left ≡ Some bytes → IsTooLong s save bytes → CountsNone old.reads new.reads → CountsNone old.writes new.writes
    → IsScriptRun s sacct save old new ended → (ended ≡ how.Spent) ⊎ (ended ≡ how.Memory)
spent laws s sacct save old new ended bytes known long reads writes run =
    spent_by laws s save old new bytes ended long reads writes (tells laws s sacct save old new bytes ended known run)

pub only_spent : Laws → (s : State) (sacct : Option Period) (save : Bool) (old new : Wire) (bytes : List ℕ)
    → old.left ≡ Some bytes → IsScriptRun s sacct save old new how.Spent → IsTooLong s save bytes
only_spent laws s sacct save old new bytes known run = tells laws s sacct save old new bytes how.Spent known run
