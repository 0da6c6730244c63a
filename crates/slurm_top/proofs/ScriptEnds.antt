-- Which ends a script's run on good files may have, by its input.
use Rattle.std.proofs.Common.{◌≡◌, ◌≢◌, ◌⊎◌, ℕ, ◌≤◌, ◌<◌, Bool, List, [], length, Option, None, Some, IfSome, IsSomeAnd, Ok, inl, inr, refl, sym, ap, ◌∙◌, subst, arith}
use Rattle.slurm_io.specs.Faults.{CountsNone}
use Rattle.slurm_io.specs.Wire.{Wire}
use Rattle.block_frame.specs.declared.form.Form.TheVariants.{Plain}
use Rattle.block_frame.specs.Grammar.{blocks_of, rest_of}
use Rattle.saved_data.specs.Sizes.{longest_text}
use Rattle.ctl_state.specs.State.{State}
use Rattle.ctl_desk.specs.History.{present}
use Rattle.ctl_session.specs.declared.session.How.{How}
use Rattle.ctl_session.specs.declared.session.How.TheVariants as how
use Rattle.ctl_session.specs.Session.{most_blocks}
use Rattle.plain_data.specs.declared.period.Period.{Period}
use Rattle.plain_data.specs.Files.{Named}
use Rattle.program_words.specs.Asked.{asked_in}
use Rattle.program_words.specs.Asked as asks
use Rattle.slurm_top.specs.Outside.{Outside, Beside}
use Rattle.cluster_opening.specs.Files.{FilesOpen}
use Rattle.script_run.specs.Behind.{IsScriptRun, saved_if}
use Rattle.script_run.specs.Script.{script_history}
use Rattle.session_laws.specs.ScriptInputs.{IsBroken, IsToldAt, IsTooLong, rest_begins}
use Rattle.slurm_top.specs.Lines.{status_of}
use Rattle.slurm_top.specs.Run.{Hosted, IsEnd, IsEndOn, IsWholeScript, Ran}
use Rattle.slurm_top.specs.declared.end.End.{End}
use Rattle.slurm_top.specs.declared.end.End.TheVariants.{Usage, NoFile, BadFile, Memory, Script, Generated, WriteFault, Spent, Served, DoorFault, Called}
use Rattle.slurm_top.proofs.BadFiles.{none_between}
use Rattle.slurm_top.proofs.FileCauses.{OpenOne, asked_so, same_opening, unopened_isnt}

-- scripts of whole blocks are answered to their end, and what is asked for is written behind them
abbrev pub WholeAnswered : Type 0
WholeAnswered = (s : State) (sacct : Option Period) (save : Bool) (old new : Wire) (last : How) (bytes : List ℕ)
    → old.left ≡ Some bytes → rest_of Plain bytes ≡ [] → length (blocks_of Plain bytes) ≤ most_blocks
    → length (saved_if save (present (script_history s bytes))) ≤ longest_text
    → CountsNone old.reads new.reads → CountsNone old.writes new.writes
    → IsScriptRun s sacct save old new last → (last ≡ how.Closed) ⊎ (last ≡ how.Memory)

-- those of inputs that are broken end there, and they alone
abbrev pub BrokenTold : Type 0
BrokenTold = (s : State) (sacct : Option Period) (save : Bool) (old new : Wire) (last : How) (bytes : List ℕ)
    → old.left ≡ Some bytes → IsBroken bytes → CountsNone old.reads new.reads → CountsNone old.writes new.writes
    → IsScriptRun s sacct save old new last → IsToldAt (rest_begins bytes) last ⊎ (last ≡ how.Memory)

abbrev pub OnlyBroken : Type 0
OnlyBroken = (s : State) (sacct : Option Period) (save : Bool) (old new : Wire) (last : How) (bytes : List ℕ) (place : ℕ)
    → old.left ≡ Some bytes → IsScriptRun s sacct save old new last → IsToldAt place last
    → IsBroken bytes × (place ≡ rest_begins bytes)

-- those of inputs that are too long end with that, and they alone
abbrev pub LongSpent : Type 0
LongSpent = (s : State) (sacct : Option Period) (save : Bool) (old new : Wire) (last : How) (bytes : List ℕ)
    → old.left ≡ Some bytes → IsTooLong s save bytes → CountsNone old.reads new.reads
    → CountsNone old.writes new.writes → IsScriptRun s sacct save old new last
    → (last ≡ how.Spent) ⊎ (last ≡ how.Memory)

abbrev pub OnlySpent : Type 0
OnlySpent = (s : State) (sacct : Option Period) (save : Bool) (old new : Wire) (bytes : List ℕ)
    → old.left ≡ Some bytes → IsScriptRun s sacct save old new how.Spent → IsTooLong s save bytes

-- ---- an end by the input

-- with good files the script was run, or memory was wanting
ran_on : OpenOne → (named : Named) (sacct : Option Period) (save : Bool) (old new : Outside) (end : End) (s : State)
    → FilesOpen old.files named (Some (Ok s)) → CountsNone old.faults new.faults
    → IsEndOn named sacct save old new end
    → (end ≡ Memory) ⊎ ((last : How) × (end ≡ Script last) × IsScriptRun s sacct save old.wire new.wire last)
ran_on once named sacct save old new Usage s open_so none ended = absurd ended
ran_on once named sacct save old new NoFile s open_so none ended =
    absurd (unopened_isnt once named old new NoFile s open_so none ended)
ran_on once named sacct save old new (BadFile bad) s open_so none ended =
    absurd (unopened_isnt once named old new (BadFile bad) s open_so none ended)
ran_on once named sacct save old new Memory s open_so none ended = inl refl
ran_on once named sacct save old new (Script last) s open_so none ended = inr (
  last,
  refl,
  subst (λ t. IsScriptRun t sacct save old.wire new.wire last)
      (same_opening once old.files named s ended.opening open_so ended.opens) ended.script,
)
ran_on once named sacct save old new Generated s open_so none ended = absurd ended
ran_on once named sacct save old new WriteFault s open_so none ended = absurd ended
ran_on once named sacct save old new Spent s open_so none ended = absurd ended
ran_on once named sacct save old new Served s open_so none ended = absurd ended
ran_on once named sacct save old new DoorFault s open_so none ended = absurd ended
ran_on once named sacct save old new (Called call) s open_so none ended = absurd ended

-- a status that comes of each run of the script comes of the end, or memory was wanting
status_by : OpenOne → (named : Named) (sacct : Option Period) (save : Bool) (old new : Outside) (end : End) (s : State)
    (status : ℕ) → FilesOpen old.files named (Some (Ok s)) → CountsNone old.faults new.faults
    → IsEndOn named sacct save old new end
    → ((last : How) → IsScriptRun s sacct save old.wire new.wire last
    → (status_of (Script last) ≡ status) ⊎ (status_of (Script last) ≡ 8))
    → (status_of end ≡ status) ⊎ (status_of end ≡ 8)
status_by once named sacct save old new end s status open_so none ended runs =
    elim (ran_on once named sacct save old new end s open_so none ended) [
      | inl memory ↦ inr (ap status_of memory)
      | inr ran ↦ subst (λ e. (status_of e ≡ status) ⊎ (status_of e ≡ 8)) (sym ran.1) (runs ran.0 ran.2)
    ]

whole_input : WholeAnswered → (left : Option (List ℕ)) (s : State) (sacct : Option Period) (save : Bool) (old new : Wire)
    (last : How) → old.left ≡ left → IsWholeScript s save left
    → CountsNone old.reads new.reads → CountsNone old.writes new.writes → IsScriptRun s sacct save old new last
    → (status_of (Script last) ≡ 0) ⊎ (status_of (Script last) ≡ 8)
whole_input answered None s sacct save old new last e whole reads writes script = absurd whole
whole_input answered (Some bytes) s sacct save old new last e whole reads writes script =
    elim (answered s sacct save old new last bytes e whole.0 whole.1 whole.2 reads writes script) [
      | inl closed ↦ inl (ap (λ h. status_of (Script h)) closed)
      | inr memory ↦ inr (ap (λ h. status_of (Script h)) memory)
    ]

pub complete : WholeAnswered → OpenOne → (words : List (List ℕ)) (host : Hosted) (old new : Outside)
    (beside beside' : Beside) (end : End) (named : Named) (sacct : Option Period) (save : Bool) (s : State)
    → IsEnd words host old new beside beside' end → asked_in words ≡ Some (asks.Script named sacct save)
    → FilesOpen old.files named (Some (Ok s)) → IsWholeScript s save old.wire.left → CountsNone old.faults new.faults
    → CountsNone old.wire.reads new.wire.reads → CountsNone old.wire.writes new.wire.writes
    → (status_of end ≡ 0) ⊎ (status_of end ≡ 8)
complete answered once words host old new beside beside' end named sacct save s ended is open_so whole none reads writes =
    status_by once named sacct save old new end s 0 open_so none
    (asked_so words (asks.Script named sacct save) host old new beside beside' end ended is).0
    (λ last. whole_input answered old.wire.left s sacct save old.wire new.wire last refl whole reads writes)

told_status : (place : ℕ) (last : How) → IsToldAt place last ⊎ (last ≡ how.Memory)
    → (status_of (Script last) ≡ 7) ⊎ (status_of (Script last) ≡ 8)
told_status place last (inl (inl cut)) = inl (ap (λ h. status_of (Script h)) cut)
told_status place last (inl (inr bad)) = inl (ap (λ h. status_of (Script h)) bad)
told_status place last (inr memory) = inr (ap (λ h. status_of (Script h)) memory)

broken_input : BrokenTold → (left : Option (List ℕ)) (s : State) (sacct : Option Period) (save : Bool) (old new : Wire)
    (last : How) → old.left ≡ left → IsSomeAnd left IsBroken
    → CountsNone old.reads new.reads → CountsNone old.writes new.writes → IsScriptRun s sacct save old new last
    → (status_of (Script last) ≡ 7) ⊎ (status_of (Script last) ≡ 8)
broken_input tells None s sacct save old new last e off reads writes script = absurd off
broken_input tells (Some bytes) s sacct save old new last e off reads writes script =
    told_status (rest_begins bytes) last (tells s sacct save old new last bytes e off reads writes script)

pub broken : BrokenTold → OpenOne → (words : List (List ℕ)) (host : Hosted) (old new : Outside)
    (beside beside' : Beside) (end : End) (named : Named) (sacct : Option Period) (save : Bool) (s : State)
    → IsEnd words host old new beside beside' end → asked_in words ≡ Some (asks.Script named sacct save)
    → FilesOpen old.files named (Some (Ok s)) → IsSomeAnd old.wire.left IsBroken → CountsNone old.faults new.faults
    → CountsNone old.wire.reads new.wire.reads → CountsNone old.wire.writes new.wire.writes
    → (status_of end ≡ 7) ⊎ (status_of end ≡ 8)
broken tells once words host old new beside beside' end named sacct save s ended is open_so off none reads writes =
    status_by once named sacct save old new end s 7 open_so none
    (asked_so words (asks.Script named sacct save) host old new beside beside' end ended is).0
    (λ last. broken_input tells old.wire.left s sacct save old.wire new.wire last refl off reads writes)

long_input : LongSpent → (left : Option (List ℕ)) (s : State) (sacct : Option Period) (save : Bool) (old new : Wire)
    (last : How) → old.left ≡ left → IsSomeAnd left (IsTooLong s save)
    → CountsNone old.reads new.reads → CountsNone old.writes new.writes → IsScriptRun s sacct save old new last
    → (status_of (Script last) ≡ 9) ⊎ (status_of (Script last) ≡ 8)
long_input spends None s sacct save old new last e long reads writes script = absurd long
long_input spends (Some bytes) s sacct save old new last e long reads writes script =
    elim (spends s sacct save old new last bytes e long reads writes script) [
      | inl all ↦ inl (ap (λ h. status_of (Script h)) all)
      | inr memory ↦ inr (ap (λ h. status_of (Script h)) memory)
    ]

pub spent : LongSpent → OpenOne → (words : List (List ℕ)) (host : Hosted) (old new : Outside)
    (beside beside' : Beside) (end : End) (named : Named) (sacct : Option Period) (save : Bool) (s : State)
    → IsEnd words host old new beside beside' end → asked_in words ≡ Some (asks.Script named sacct save)
    → FilesOpen old.files named (Some (Ok s)) → IsSomeAnd old.wire.left (IsTooLong s save)
    → CountsNone old.faults new.faults → CountsNone old.wire.reads new.wire.reads
    → CountsNone old.wire.writes new.wire.writes → (status_of end ≡ 9) ⊎ (status_of end ≡ 8)
spent spends once words host old new beside beside' end named sacct save s ended is open_so long none reads writes =
    status_by once named sacct save old new end s 9 open_so none
    (asked_so words (asks.Script named sacct save) host old new beside beside' end ended is).0
    (λ last. long_input spends old.wire.left s sacct save old.wire new.wire last refl long reads writes)

-- ---- the input by the end

-- statuses that files and want of memory don't have are those of a script that was run
ran_so : (named : Named) (sacct : Option Period) (save : Bool) (old new : Outside) (end : End) → 6 < status_of end
    → status_of end < 10 → status_of end ≢ 8 → IsEndOn named sacct save old new end
    → (last : How) × (end ≡ Script last) × Ran old new named sacct save last
ran_so named sacct save old new Usage low high other ended = absurd ended
ran_so named sacct save old new NoFile low high other ended = absurd (omega (arith, low))
ran_so named sacct save old new (BadFile bad) low high other ended = absurd (none_between bad low high)
ran_so named sacct save old new Memory low high other ended = absurd (other refl)
ran_so named sacct save old new (Script last) low high other ended = (last, refl, ended)
ran_so named sacct save old new Generated low high other ended = absurd ended
ran_so named sacct save old new WriteFault low high other ended = absurd ended
ran_so named sacct save old new Spent low high other ended = absurd ended
ran_so named sacct save old new Served low high other ended = absurd ended
ran_so named sacct save old new DoorFault low high other ended = absurd ended
ran_so named sacct save old new (Called call) low high other ended = absurd ended

-- a run that has a broken input's status ended at a place
told_place : (last : How) → status_of (Script last) ≡ 7 → (place : ℕ) × IsToldAt place last
told_place how.Closed e = absurd (omega (arith, e))
told_place (how.Truncated place) e = (place, inl refl)
told_place (how.Bad place) e = (place, inr refl)
told_place how.Spent e = absurd (omega (arith, e))
told_place how.ReadFault e = absurd (omega (arith, e))
told_place how.WriteFault e = absurd (omega (arith, e))
told_place how.Shut e = absurd (omega (arith, e))
told_place how.Memory e = absurd (omega (arith, e))

is_spent : (last : How) → status_of (Script last) ≡ 9 → last ≡ how.Spent
is_spent how.Closed e = absurd (omega (arith, e))
is_spent (how.Truncated place) e = absurd (omega (arith, e))
is_spent (how.Bad place) e = absurd (omega (arith, e))
is_spent how.Spent e = refl
is_spent how.ReadFault e = absurd (omega (arith, e))
is_spent how.WriteFault e = absurd (omega (arith, e))
is_spent how.Shut e = absurd (omega (arith, e))
is_spent how.Memory e = absurd (omega (arith, e))

broken_left : OnlyBroken → (left : Option (List ℕ)) (s : State) (sacct : Option Period) (save : Bool) (old new : Wire)
    (last : How) (place : ℕ) → old.left ≡ left → IsScriptRun s sacct save old new last → IsToldAt place last
    → IfSome left IsBroken
broken_left only None s sacct save old new last place e script at = tt
broken_left only (Some bytes) s sacct save old new last place e script at =
    (only s sacct save old new last bytes place e script at).0

pub only_broken : OnlyBroken → (words : List (List ℕ)) (host : Hosted) (old new : Outside) (beside beside' : Beside)
    (end : End) (named : Named) (sacct : Option Period) (save : Bool) → IsEnd words host old new beside beside' end
    → asked_in words ≡ Some (asks.Script named sacct save) → status_of end ≡ 7 → IfSome old.wire.left IsBroken
only_broken only words host old new beside beside' end named sacct save ended is e =
    let ran = ran_so named sacct save old new end (omega (arith, e)) (omega (arith, e)) (λ eight. omega (arith, e, eight))
    (asked_so words (asks.Script named sacct save) host old new beside beside' end ended is).0 in
    let at = told_place ran.0 (sym (ap status_of ran.1) ∙ e) in
    broken_left only old.wire.left ran.2.opening sacct save old.wire new.wire ran.0 at.0 refl ran.2.script at.1

long_left : OnlySpent → (left : Option (List ℕ)) (s : State) (sacct : Option Period) (save : Bool) (old new : Wire)
    → old.left ≡ left → IsScriptRun s sacct save old new how.Spent → IfSome left (IsTooLong s save)
long_left only None s sacct save old new e script = tt
long_left only (Some bytes) s sacct save old new e script = only s sacct save old new bytes e script

pub only_spent : OnlySpent → OpenOne → (words : List (List ℕ)) (host : Hosted) (old new : Outside)
    (beside beside' : Beside) (end : End) (named : Named) (sacct : Option Period) (save : Bool) (s : State)
    → IsEnd words host old new beside beside' end → asked_in words ≡ Some (asks.Script named sacct save)
    → FilesOpen old.files named (Some (Ok s)) → status_of end ≡ 9 → IfSome old.wire.left (IsTooLong s save)
only_spent only once words host old new beside beside' end named sacct save s ended is open_so e =
    let ran = ran_so named sacct save old new end (omega (arith, e)) (omega (arith, e)) (λ eight. omega (arith, e, eight))
    (asked_so words (asks.Script named sacct save) host old new beside beside' end ended is).0 in
    let opening = same_opening once old.files named s ran.2.opening open_so ran.2.opens in
    long_left only old.wire.left s sacct save old.wire new.wire refl
    (subst (λ t. IsScriptRun t sacct save old.wire new.wire how.Spent) opening
    (subst (IsScriptRun ran.2.opening sacct save old.wire new.wire)
    (is_spent ran.0 (sym (ap status_of ran.1) ∙ e)) ran.2.script))
