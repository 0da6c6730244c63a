-- Which ends a run on files may have, by what these open.
use Rattle.std.proofs.Common.{◌≡◌, ◌⊎◌, ℕ, ◌<◌, Bool, true, false, List, [], length, Option, None, Some, IfSome, IsSomeAnd, Result, Ok, Err, inl, inr, refl, sym, ap, ◌∙◌, subst, arith}
use Rattle.slurm_io.specs.Faults.{CountsNone, CountsOne}
use Rattle.slurm_io.specs.Shelf.{ShelfFile}
use Rattle.slurm_io.specs.Wire.{Wire}
use Rattle.saved_data.specs.Sizes.{longest_text}
use Rattle.ctl_state.specs.State.{State}
use Rattle.ctl_desk.specs.History.{BookState}
use Rattle.plain_data.specs.declared.period.Period.{Period}
use Rattle.plain_data.specs.Files.{Named}
use Rattle.program_words.specs.Asked.{Asked, asked_in}
use Rattle.program_words.specs.Asked as asks
use Rattle.slurm_top.specs.Outside.{Outside, Beside}
use Rattle.cluster_opening.specs.declared.refusal.ClusterRefusal.{ClusterRefusal}
use Rattle.cluster_opening.specs.Files.{FilesOpen, IsMissing, IsTextIf, Opens}
use Rattle.slurm_top.specs.Lines.{refused, status_of}
use Rattle.slurm_top.specs.Run.{Finds, HasEnded, Hosted, IsEnd, IsEndAsked, IsEndOn, IsEndServing, IsUnopened, IsUnsaved, files_asked}
use Rattle.slurm_top.specs.Serving.{saved_by}
use Rattle.slurm_top.specs.declared.end.End.{End}
use Rattle.slurm_top.specs.declared.end.End.TheVariants.{Usage, NoFile, BadFile, Memory, Script, Generated, WriteFault, Spent, Served, DoorFault, Called}
use Rattle.slurm_top.proofs.BadFiles.{has_no_other}

-- files open one cluster, or are refused for one cause
abbrev pub OpenOne : Type 0
OpenOne = (files : List ShelfFile) (named : Named) (one other : Result State ClusterRefusal)
    → Opens (Some files) named one → Opens (Some files) named other → one ≡ other

opened_one : OpenOne → (told : Option (List ShelfFile)) (named : Named) (one other : Result State ClusterRefusal)
    → FilesOpen told named (Some one) → Opens told named other → one ≡ other
opened_one once None named one other open_so opens = absurd open_so
opened_one once (Some files) named one other open_so opens = once files named one other open_so opens

no_state : (files : List ShelfFile) (name : Option (List ℕ)) (state : Option (List ℕ)) → IsMissing files name
    → IsTextIf (Some files) name state → ⊥
no_state files None state missing is = missing
no_state files (Some name) None missing is = is
no_state files (Some name) (Some text) missing is = absurd (cc (missing, is))

none_missing : (told : Option (List ShelfFile)) (named : Named) (opened : Result State ClusterRefusal)
    → FilesOpen told named None → Opens told named opened → ⊥
none_missing None named opened open_so opens = open_so
none_missing (Some files) named opened (inl gone) opens = absurd (cc (gone, opens.is_conf))
none_missing (Some files) named opened (inr (inl gone)) opens = absurd (cc (gone, opens.is_assocs))
none_missing (Some files) named opened (inr (inr gone)) opens = no_state files named.state opens.state gone opens.is_state

-- what an end tells of the files: a read of one failed, or memory was wanting, or they are refused, or they open a cluster
abbrev FileCause : Named → Outside → Outside → End → Type 0
FileCause named old new end =
    ((end ≡ NoFile) × CountsOne old.faults new.faults)
    ⊎ ((end ≡ Memory)
    ⊎ (((refusal : ClusterRefusal) × (end ≡ refused refusal) × Opens old.files named (Err refusal))
    ⊎ ((s : State) × Opens old.files named (Ok s))))

unopened_cause : (named : Named) (old new : Outside) (end : End) → IsUnopened named old new end
    → FileCause named old new end
unopened_cause named old new Usage ended = absurd ended
unopened_cause named old new NoFile ended = inl (refl, ended.0)
unopened_cause named old new (BadFile bad) ended = inr (inr (inl (_, refl, ended.0)))
unopened_cause named old new Memory ended = absurd ended
unopened_cause named old new (Script how) ended = absurd ended
unopened_cause named old new Generated ended = absurd ended
unopened_cause named old new WriteFault ended = absurd ended
unopened_cause named old new Spent ended = absurd ended
unopened_cause named old new Served ended = absurd ended
unopened_cause named old new DoorFault ended = absurd ended
unopened_cause named old new (Called call) ended = absurd ended

script_cause : (named : Named) (sacct : Option Period) (save : Bool) (old new : Outside) (end : End)
    → IsEndOn named sacct save old new end → FileCause named old new end
script_cause named sacct save old new Usage ended = absurd ended
script_cause named sacct save old new NoFile ended = unopened_cause named old new NoFile ended
script_cause named sacct save old new (BadFile bad) ended = unopened_cause named old new (BadFile bad) ended
script_cause named sacct save old new Memory ended = inr (inl refl)
script_cause named sacct save old new (Script how) ended = inr (inr (inr (ended.opening, ended.opens)))
script_cause named sacct save old new Generated ended = absurd ended
script_cause named sacct save old new WriteFault ended = absurd ended
script_cause named sacct save old new Spent ended = absurd ended
script_cause named sacct save old new Served ended = absurd ended
script_cause named sacct save old new DoorFault ended = absurd ended
script_cause named sacct save old new (Called call) ended = absurd ended

server_cause : (named : Named) (port workers : ℕ) (save : Bool) (host : Hosted) (old new : Outside)
    (beside beside' : Beside) (end : End) → IsEndServing named port workers save host old new beside beside' end
    → FileCause named old new end
server_cause named port workers save host old new beside beside' Usage ended = inr (inr (inr (ended.0, ended.1)))
server_cause named port workers save host old new beside beside' NoFile ended =
    unopened_cause named old new NoFile ended.0
server_cause named port workers save host old new beside beside' (BadFile bad) ended =
    unopened_cause named old new (BadFile bad) ended.0
server_cause named port workers save host old new beside beside' Memory ended = inr (inl refl)
server_cause named port workers save host old new beside beside' (Script how) ended =
    inr (inr (inr (ended.0, ended.1)))
server_cause named port workers save host old new beside beside' Generated ended = inr (inr (inr (ended.0, ended.1)))
server_cause named port workers save host old new beside beside' WriteFault ended = inr (inr (inr (ended.0, ended.1)))
server_cause named port workers save host old new beside beside' Spent ended = inr (inr (inr (ended.0, ended.1)))
server_cause named port workers save host old new beside beside' Served ended = inr (inr (inr (ended.0, ended.1)))
server_cause named port workers save host old new beside beside' DoorFault ended = inr (inr (inr (ended.0, ended.1)))
server_cause named port workers save host old new beside beside' (Called call) ended =
    inr (inr (inr (ended.0, ended.1)))

cause_of : (asked : Option Asked) (host : Hosted) (old new : Outside) (beside beside' : Beside) (end : End)
    (opened : Option (Result State ClusterRefusal))
    → IfSome asked (λ one. IsEndAsked one host old new beside beside' end)
    → IsSomeAnd (files_asked asked) (λ named. FilesOpen old.files named opened)
    → (named : Named) × FilesOpen old.files named opened × FileCause named old new end
cause_of None host old new beside beside' end opened ended found = absurd found
cause_of (Some (asks.Script named sacct save)) host old new beside beside' end opened ended found =
    (named, found, script_cause named sacct save old new end ended.0)
cause_of (Some (asks.Serve named port workers save)) host old new beside beside' end opened ended found =
    (named, found, server_cause named port workers save host old new beside beside' end ended)
cause_of (Some (asks.Generate number)) host old new beside beside' end opened ended found = absurd found
cause_of (Some (asks.Simulate number)) host old new beside beside' end opened ended found = absurd found
cause_of (Some (asks.Call call)) host old new beside beside' end opened ended found = absurd found

missing_so : (named : Named) (old new : Outside) (end : End) → FilesOpen old.files named None
    → FileCause named old new end → (status_of end ≡ 5) ⊎ (status_of end ≡ 8)
missing_so named old new end missing (inl (is, counted)) = inl (ap status_of is)
missing_so named old new end missing (inr (inl is)) = inr (ap status_of is)
missing_so named old new end missing (inr (inr (inl (refusal, is, opens)))) =
    absurd (none_missing old.files named (Err refusal) missing opens)
missing_so named old new end missing (inr (inr (inr (s, opens)))) =
    absurd (none_missing old.files named (Ok s) missing opens)

refused_so : OpenOne → (named : Named) (old new : Outside) (end : End) (refusal : ClusterRefusal)
    → FilesOpen old.files named (Some (Err refusal)) → CountsNone old.faults new.faults → FileCause named old new end
    → (status_of end ≡ status_of (refused refusal)) ⊎ (status_of end ≡ 8)
refused_so once named old new end refusal open_so none (inl (is, counted)) =
    absurd (omega (arith, counted.0, none.0, none.1))
refused_so once named old new end refusal open_so none (inr (inl is)) = inr (ap status_of is)
refused_so once named old new end refusal open_so none (inr (inr (inl (other, is, opens)))) =
    let same : refusal ≡ other = cc (opened_one once old.files named (Err refusal) (Err other) open_so opens) in
    inl (ap status_of is ∙ ap (λ r. status_of (refused r)) (sym same))
refused_so once named old new end refusal open_so none (inr (inr (inr (s, opens)))) =
    absurd (cc (opened_one once old.files named (Err refusal) (Ok s) open_so opens))

-- one that is named isn't there
pub missing : (words : List (List ℕ)) (host : Hosted) (old new : Outside) (beside beside' : Beside) (end : End)
    → IsEnd words host old new beside beside' end → Finds words old.files None
    → (status_of end ≡ 5) ⊎ (status_of end ≡ 8)
missing words host old new beside beside' end ended finds =
    let cause = cause_of (asked_in words) host old new beside beside' end None ended.on finds in
    missing_so cause.0 old new end cause.1 cause.2

-- one is refused
pub refuses : OpenOne → (words : List (List ℕ)) (host : Hosted) (old new : Outside) (beside beside' : Beside) (end : End)
    (refusal : ClusterRefusal) → IsEnd words host old new beside beside' end → Finds words old.files (Some (Err refusal))
    → CountsNone old.faults new.faults → (status_of end ≡ status_of (refused refusal)) ⊎ (status_of end ≡ 8)
refuses once words host old new beside beside' end refusal ended finds none =
    let cause = cause_of (asked_in words) host old new beside beside' end (Some (Err refusal)) ended.on finds in
    refused_so once cause.0 old new end refusal cause.1 none cause.2

-- ---- good files

pub unopened_isnt : OpenOne → (named : Named) (old new : Outside) (end : End) (s : State)
    → FilesOpen old.files named (Some (Ok s)) → CountsNone old.faults new.faults → IsUnopened named old new end → ⊥
unopened_isnt once named old new Usage s open_so none ended = ended
unopened_isnt once named old new NoFile s open_so none ended = omega (arith, ended.0.0, none.0, none.1)
unopened_isnt once named old new (BadFile bad) s open_so none ended =
    absurd (cc (opened_one once old.files named (Ok s) _ open_so ended.0))
unopened_isnt once named old new Memory s open_so none ended = ended
unopened_isnt once named old new (Script how) s open_so none ended = ended
unopened_isnt once named old new Generated s open_so none ended = ended
unopened_isnt once named old new WriteFault s open_so none ended = ended
unopened_isnt once named old new Spent s open_so none ended = ended
unopened_isnt once named old new Served s open_so none ended = ended
unopened_isnt once named old new DoorFault s open_so none ended = ended
unopened_isnt once named old new (Called call) s open_so none ended = ended

pub same_opening : OpenOne → (told : Option (List ShelfFile)) (named : Named) (one other : State)
    → FilesOpen told named (Some (Ok one)) → Opens told named (Ok other) → other ≡ one
same_opening once told named one other open_so opens = cc (opened_one once told named (Ok one) (Ok other) open_so opens)

-- what is known of an end by what words ask
pub asked_so : (words : List (List ℕ)) (one : Asked) (host : Hosted) (old new : Outside) (beside beside' : Beside) (end : End)
    → IsEnd words host old new beside beside' end → asked_in words ≡ Some one
    → IsEndAsked one host old new beside beside' end
asked_so words one host old new beside beside' end ended is =
    subst (λ (asked : Option Asked). IfSome asked (λ any. IsEndAsked any host old new beside beside' end)) is ended.on

-- ---- servers

begun_fault : (text : List ℕ) (old new : Wire) → CountsNone old.writes new.writes
    → CountsOne old.writes new.writes → ⊥
begun_fault text old new none one = omega (arith, one.0, none.0, none.1)

spent_saves : (save : Bool) (book : BookState) → longest_text < length (saved_by save book) → save ≡ true
spent_saves true book long = refl
spent_saves false book long = absurd (omega (arith, long))

served_on : OpenOne → (named : Named) (port workers : ℕ) (save : Bool) (host : Hosted) (old new : Outside)
    (beside beside' : Beside) (end : End) (s : State) → FilesOpen old.files named (Some (Ok s))
    → CountsNone old.faults new.faults → CountsNone old.wire.writes new.wire.writes
    → CountsNone beside.host.faults beside'.host.faults
    → IsEndServing named port workers save host old new beside beside' end
    → (status_of end ≡ 0) ⊎ ((status_of end ≡ 8) ⊎ ((status_of end ≡ 9) × (save ≡ true)))
served_on once named port workers save host old new beside beside' Usage s open_so none writes hosts ended =
    absurd ended.2
served_on once named port workers save host old new beside beside' NoFile s open_so none writes hosts ended =
    absurd (unopened_isnt once named old new NoFile s open_so none ended.0)
served_on once named port workers save host old new beside beside' (BadFile bad) s open_so none writes hosts ended =
    absurd (unopened_isnt once named old new (BadFile bad) s open_so none ended.0)
served_on once named port workers save host old new beside beside' Memory s open_so none writes hosts ended =
    inr (inl refl)
served_on once named port workers save host old new beside beside' (Script how) s open_so none writes hosts ended =
    absurd ended.2
served_on once named port workers save host old new beside beside' Generated s open_so none writes hosts ended =
    absurd ended.2
served_on once named port workers save host old new beside beside' WriteFault s open_so none writes hosts ended =
    elim ended.2 [
      | inl line ↦ absurd (begun_fault [] old.wire new.wire writes line.1)
      | inr state ↦ absurd (begun_fault [] old.wire new.wire writes state.2.1)
    ]
served_on once named port workers save host old new beside beside' Spent s open_so none writes hosts ended =
    inr (inr (refl, spent_saves save ended.2.0 ended.2.3))
served_on once named port workers save host old new beside beside' Served s open_so none writes hosts ended = inl refl
served_on once named port workers save host old new beside beside' DoorFault s open_so none writes hosts ended =
    absurd (omega (arith, ended.2.0.0, hosts.0, hosts.1))
served_on once named port workers save host old new beside beside' (Called call) s open_so none writes hosts ended =
    absurd ended.2

pub served : OpenOne → (words : List (List ℕ)) (host : Hosted) (old new : Outside) (beside beside' : Beside) (end : End)
    (named : Named) (port workers : ℕ) (save : Bool) (s : State) → IsEnd words host old new beside beside' end
    → asked_in words ≡ Some (asks.Serve named port workers save) → FilesOpen old.files named (Some (Ok s))
    → CountsNone old.faults new.faults → CountsNone old.wire.writes new.wire.writes
    → CountsNone beside.host.faults beside'.host.faults
    → (status_of end ≡ 0) ⊎ ((status_of end ≡ 8) ⊎ ((status_of end ≡ 9) × (save ≡ true)))
served once words host old new beside beside' end named port workers save s ended is open_so none writes hosts =
    served_on once named port workers save host old new beside beside' end s open_so none writes hosts
    (asked_so words (asks.Serve named port workers save) host old new beside beside' end ended is)

shut_on : (named : Named) (port workers : ℕ) (save : Bool) (host : Hosted) (old new : Outside)
    (beside beside' : Beside) (end : End) → status_of end ≡ 0
    → IsEndServing named port workers save host old new beside beside' end
    → HasEnded named port workers save host old new
shut_on named port workers save host old new beside beside' Usage e ended = absurd (omega (arith, e))
shut_on named port workers save host old new beside beside' NoFile e ended = absurd (omega (arith, e))
shut_on named port workers save host old new beside beside' (BadFile bad) e ended =
    absurd (has_no_other bad 0 refl e)
shut_on named port workers save host old new beside beside' Memory e ended = absurd (omega (arith, e))
shut_on named port workers save host old new beside beside' (Script how) e ended = absurd ended.2
shut_on named port workers save host old new beside beside' Generated e ended = absurd ended.2
shut_on named port workers save host old new beside beside' WriteFault e ended = absurd (omega (arith, e))
shut_on named port workers save host old new beside beside' Spent e ended = absurd (omega (arith, e))
shut_on named port workers save host old new beside beside' Served e ended =
    (ended.0, ended.1, (ended.2.0, ended.2.1, ended.2.2, ended.2.3))
shut_on named port workers save host old new beside beside' DoorFault e ended = absurd (omega (arith, e))
shut_on named port workers save host old new beside beside' (Called call) e ended = absurd ended.2

pub shut : (words : List (List ℕ)) (host : Hosted) (old new : Outside) (beside beside' : Beside) (end : End)
    (named : Named) (port workers : ℕ) (save : Bool) → IsEnd words host old new beside beside' end
    → asked_in words ≡ Some (asks.Serve named port workers save) → status_of end ≡ 0
    → HasEnded named port workers save host old new
shut words host old new beside beside' end named port workers save ended is e =
    shut_on named port workers save host old new beside beside' end e
    (asked_so words (asks.Serve named port workers save) host old new beside beside' end ended is)

unfailed_on : (named : Named) (port workers : ℕ) (save : Bool) (host : Hosted) (old new : Outside)
    (beside beside' : Beside) (end : End) → status_of end ≡ 0
    → IsEndServing named port workers save host old new beside beside' end → beside'.host.faults ≡ beside.host.faults
unfailed_on named port workers save host old new beside beside' Usage e ended = absurd (omega (arith, e))
unfailed_on named port workers save host old new beside beside' NoFile e ended = absurd (omega (arith, e))
unfailed_on named port workers save host old new beside beside' (BadFile bad) e ended =
    absurd (has_no_other bad 0 refl e)
unfailed_on named port workers save host old new beside beside' Memory e ended = absurd (omega (arith, e))
unfailed_on named port workers save host old new beside beside' (Script how) e ended = absurd ended.2
unfailed_on named port workers save host old new beside beside' Generated e ended = absurd ended.2
unfailed_on named port workers save host old new beside beside' WriteFault e ended = absurd (omega (arith, e))
unfailed_on named port workers save host old new beside beside' Spent e ended = absurd (omega (arith, e))
unfailed_on named port workers save host old new beside beside' Served e ended = ended.2.4
unfailed_on named port workers save host old new beside beside' DoorFault e ended = absurd (omega (arith, e))
unfailed_on named port workers save host old new beside beside' (Called call) e ended = absurd ended.2

pub unfailed : (words : List (List ℕ)) (host : Hosted) (old new : Outside) (beside beside' : Beside) (end : End)
    (named : Named) (port workers : ℕ) (save : Bool) → IsEnd words host old new beside beside' end
    → asked_in words ≡ Some (asks.Serve named port workers save) → status_of end ≡ 0
    → beside'.host.faults ≡ beside.host.faults
unfailed words host old new beside beside' end named port workers save ended is e =
    unfailed_on named port workers save host old new beside beside' end e
    (asked_so words (asks.Serve named port workers save) host old new beside beside' end ended is)

unsaved_on : (named : Named) (port workers : ℕ) (save : Bool) (host : Hosted) (old new : Outside)
    (beside beside' : Beside) (end : End) → status_of end ≡ 9
    → IsEndServing named port workers save host old new beside beside' end
    → IsUnsaved named port workers save host old new
unsaved_on named port workers save host old new beside beside' Usage e ended = absurd (omega (arith, e))
unsaved_on named port workers save host old new beside beside' NoFile e ended = absurd (omega (arith, e))
unsaved_on named port workers save host old new beside beside' (BadFile bad) e ended =
    absurd (has_no_other bad 9 refl e)
unsaved_on named port workers save host old new beside beside' Memory e ended = absurd (omega (arith, e))
unsaved_on named port workers save host old new beside beside' (Script how) e ended = absurd ended.2
unsaved_on named port workers save host old new beside beside' Generated e ended = absurd ended.2
unsaved_on named port workers save host old new beside beside' WriteFault e ended = absurd (omega (arith, e))
unsaved_on named port workers save host old new beside beside' Spent e ended =
    (ended.0, ended.1, (ended.2.0, ended.2.1, ended.2.2, ended.2.3))
unsaved_on named port workers save host old new beside beside' Served e ended = absurd (omega (arith, e))
unsaved_on named port workers save host old new beside beside' DoorFault e ended = absurd (omega (arith, e))
unsaved_on named port workers save host old new beside beside' (Called call) e ended = absurd ended.2

pub unsaved : (words : List (List ℕ)) (host : Hosted) (old new : Outside) (beside beside' : Beside) (end : End)
    (named : Named) (port workers : ℕ) (save : Bool) → IsEnd words host old new beside beside' end
    → asked_in words ≡ Some (asks.Serve named port workers save) → status_of end ≡ 9
    → IsUnsaved named port workers save host old new
unsaved words host old new beside beside' end named port workers save ended is e =
    unsaved_on named port workers save host old new beside beside' end e
    (asked_so words (asks.Serve named port workers save) host old new beside beside' end ended is)

write_fault_on : (named : Named) (port workers : ℕ) (save : Bool) (host : Hosted) (old new : Outside)
    (beside beside' : Beside) (end : End) → status_of end ≡ 6
    → IsEndServing named port workers save host old new beside beside' end → CountsOne old.wire.writes new.wire.writes
write_fault_on named port workers save host old new beside beside' Usage e ended = absurd (omega (arith, e))
write_fault_on named port workers save host old new beside beside' NoFile e ended = absurd (omega (arith, e))
write_fault_on named port workers save host old new beside beside' (BadFile bad) e ended =
    absurd (has_no_other bad 6 refl e)
write_fault_on named port workers save host old new beside beside' Memory e ended = absurd (omega (arith, e))
write_fault_on named port workers save host old new beside beside' (Script how) e ended = absurd ended.2
write_fault_on named port workers save host old new beside beside' Generated e ended = absurd ended.2
write_fault_on named port workers save host old new beside beside' WriteFault e ended =
    elim ended.2 [ inl line ↦ line.1 | inr state ↦ state.2.1 ]
write_fault_on named port workers save host old new beside beside' Spent e ended = absurd (omega (arith, e))
write_fault_on named port workers save host old new beside beside' Served e ended = absurd (omega (arith, e))
write_fault_on named port workers save host old new beside beside' DoorFault e ended = absurd (omega (arith, e))
write_fault_on named port workers save host old new beside beside' (Called call) e ended = absurd ended.2

pub write_fault : (words : List (List ℕ)) (host : Hosted) (old new : Outside) (beside beside' : Beside) (end : End)
    (named : Named) (port workers : ℕ) (save : Bool) → IsEnd words host old new beside beside' end
    → asked_in words ≡ Some (asks.Serve named port workers save) → status_of end ≡ 6
    → CountsOne old.wire.writes new.wire.writes
write_fault words host old new beside beside' end named port workers save ended is e =
    write_fault_on named port workers save host old new beside beside' end e
    (asked_so words (asks.Serve named port workers save) host old new beside beside' end ended is)

door_fault_on : (named : Named) (port workers : ℕ) (save : Bool) (host : Hosted) (old new : Outside)
    (beside beside' : Beside) (end : End) → status_of end ≡ 10
    → IsEndServing named port workers save host old new beside beside' end
    → CountsOne beside.host.faults beside'.host.faults
door_fault_on named port workers save host old new beside beside' Usage e ended = absurd (omega (arith, e))
door_fault_on named port workers save host old new beside beside' NoFile e ended = absurd (omega (arith, e))
door_fault_on named port workers save host old new beside beside' (BadFile bad) e ended =
    absurd (has_no_other bad 10 refl e)
door_fault_on named port workers save host old new beside beside' Memory e ended = absurd (omega (arith, e))
door_fault_on named port workers save host old new beside beside' (Script how) e ended = absurd ended.2
door_fault_on named port workers save host old new beside beside' Generated e ended = absurd ended.2
door_fault_on named port workers save host old new beside beside' WriteFault e ended = absurd (omega (arith, e))
door_fault_on named port workers save host old new beside beside' Spent e ended = absurd (omega (arith, e))
door_fault_on named port workers save host old new beside beside' Served e ended = absurd (omega (arith, e))
door_fault_on named port workers save host old new beside beside' DoorFault e ended = ended.2.0
door_fault_on named port workers save host old new beside beside' (Called call) e ended = absurd ended.2

pub door_fault : (words : List (List ℕ)) (host : Hosted) (old new : Outside) (beside beside' : Beside) (end : End)
    (named : Named) (port workers : ℕ) (save : Bool) → IsEnd words host old new beside beside' end
    → asked_in words ≡ Some (asks.Serve named port workers save) → status_of end ≡ 10
    → CountsOne beside.host.faults beside'.host.faults
door_fault words host old new beside beside' end named port workers save ended is e =
    door_fault_on named port workers save host old new beside beside' end e
    (asked_so words (asks.Serve named port workers save) host old new beside beside' end ended is)
