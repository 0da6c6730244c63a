-- What a block asks is by the rules of sbatch(1): sbatch alone hands anything in.
use Rattle.std.proofs.Common.{◌≡◌, ℕ, ◌+◌, Bool, true, false, nat_lt, Option, Some, None, Result, Ok, Err, ok_or, List, bytes_eq, codes, drop, length, refl, arith}
use Rattle.std.proofs.lemmas.Bool.{cond_both}
use Rattle.conf_reader.specs.Reader.{conf_in}
use Rattle.text_values.specs.declared.conf_refusal.ConfRefusal.{ConfRefusal}
use Rattle.text_values.specs.declared.word_refusal.WordKind.TheVariants.{MissingWord, UnknownCommand}
use Rattle.plain_data.specs.Confs.{ConfView}
use Rattle.plain_data.specs.declared.conf.PartState.{PartState}
use Rattle.plain_data.specs.declared.job.JobDesc.{JobDesc}
use Rattle.line_words.specs.Words.{first_bad, words_in}
use Rattle.request_data.specs.declared.request.NodeOrder.{NodeOrder}
use Rattle.request_data.specs.declared.request.Request.{Request}
use Rattle.request_data.specs.declared.request.Request.TheVariants.{Submit, Cancel, Hold, Release, Requeue, UpdateJob, UpdateNode, UpdatePartition, CreateReservation, DeleteReservation, Report, Pass, Reconfigure, Shutdown, Show}
use Rattle.request_data.specs.declared.target.Target.{Target}
use Rattle.text_values.specs.Steps.{◌>>=◌}
use Rattle.operands.specs.BadWord.{at_word, bad, given}
use Rattle.operands.specs.Operands.{closed_at, word_at}
use Rattle.operands.specs.declared.bad_word.BadWord.{BadWord}
use Rattle.sbatch_reader.specs.Job.{job_in}
use Rattle.sbatch_reader.specs.declared.refusal.JobRefusal.{JobRefusal}
use Rattle.scontrol_words.specs.Holding.{hold_by, listed_jobs, one_job, release_by, requeue_by}
use Rattle.operands.specs.Pairs.{pairs_say}
use Rattle.scontrol_words.specs.Reserving.{create_by, delete_by, deletion_adding, deletion_said, first_key, is_for_someone, nothing_reserved, reservation_said, reserved_adding, whole}
use Rattle.scontrol_words.specs.Scontrol.{acted, action_in, action_named, scontrol_by}
use Rattle.scontrol_words.specs.Updating.{after_last, form_in, job_adding, node_adding, partition_adding, unnamed_adding, job_said, job_update_by, node_said, node_update_by, partition_said, partition_update_by, unnamed_update_by, update_by, update_in}
use Rattle.command_words.specs.FramedHeader.{asked_at}
use Rattle.command_words.specs.Header.{asked_by, asked_of, command_in, head_in, headed, meaning_by, meaning_for, meaning_in, unless_bad}
use Rattle.command_words.specs.Reconfigure.{by_words, is_reconfigure, reconfigure_by, reconfiguring}
use Rattle.command_words.specs.Sbatch.{sbatch_by, wanted_by_job}
use Rattle.command_words.specs.Wanted.{alone_by, scontrol_with, wanted_by, without}
use Rattle.command_words.specs.declared.command.Command.{Command}
use Rattle.command_words.specs.declared.command.Command.TheVariants as command
use Rattle.command_words.specs.declared.fault.WordFault.{WordFault}
use Rattle.command_words.specs.declared.framed.Caller.{Caller}
use Rattle.command_words.specs.declared.header.Meaning.{Meaning}
use Rattle.saved_rules.specs.Rules.{AsksByRules, DescByRules, RequestByRules}

-- types that the readers keep the names of
abbrev domain : {A B : Type 0} → (A → B) → Type 0
domain {A} f = A

abbrev second : {A B C : Type 0} → (A → B → C) → Type 0
second {B = B} f = B

abbrev third : {A B C D : Type 0} → (A → B → C → D) → Type 0
third {C = C} f = C

abbrev fifth : {A B C D E F : Type 0} → (A → B → C → D → E → F) → Type 0
fifth {E = E} f = E

-- a job is handed in
abbrev is_submit : Request → Bool
is_submit (Submit desc) = true
is_submit request = false

abbrev hands_in : Result Request BadWord → Bool
hands_in (Ok request) = is_submit request
hands_in (Err fault) = false

-- nothing is
abbrev IsFree : Result Request BadWord → Type 0
IsFree asked = hands_in asked ≡ false

then-free : {A : Type 0} (asked : Result A BadWord) (next : A → Result Request BadWord) → ((a : A) → IsFree (next a))
    → IsFree (asked >>= next)
then-free (Ok a) next each = each a
then-free (Err fault) next each = refl

both-free : {A B : Type 0} (asked : Result A BadWord) (next : A → Result B BadWord) (last : B → Result Request BadWord)
    → ((a : A) → IsFree (next a >>= last)) → IsFree ((asked >>= next) >>= last)
both-free (Ok a) next last each = each a
both-free (Err fault) next last each = refl

given-free : {A : Type 0} (make : A → Request) (asked : Result A BadWord) → ((a : A) → is_submit (make a) ≡ false)
    → IsFree (given make asked)
given-free make (Ok a) each = each a
given-free make (Err fault) each = refl

closed-free : (words : List (List ℕ)) (place : ℕ) (request : Request) → is_submit request ≡ false
    → IsFree (closed_at words place request)
unfolding closed_at
closed-free words place request is =
    cond_both (nat_lt place (length words)) _ (Ok request) IsFree (λ more. refl) (λ none. is)

-- ---- scontrol

hold-free : (user : Bool) (words : List (List ℕ)) → IsFree (hold_by user words)
unfolding hold_by
hold-free user words = then-free (listed_jobs words) _ (λ targets. closed-free words 3 (Hold targets user) refl)

release-free : (words : List (List ℕ)) → IsFree (release_by words)
unfolding release_by
release-free words = then-free (listed_jobs words) _ (λ targets. closed-free words 3 (Release targets) refl)

requeue-free : (words : List (List ℕ)) → IsFree (requeue_by words)
unfolding requeue_by
requeue-free words = then-free (one_job words) _ (λ target. closed-free words 3 (Requeue target) refl)

whole-free : (end : ℕ) (said : second whole) (name : Option (List ℕ)) (start : Option ℕ) (until : fifth whole)
    (nodes : Option (List (List ℕ))) → IsFree (whole end said name start until nodes)
whole-free end said None start until nodes = refl
whole-free end said (Some name) None until nodes = refl
whole-free end said (Some name) (Some start) None nodes = refl
whole-free end said (Some name) (Some start) (Some until) None = refl
whole-free end said (Some name) (Some start) (Some until) (Some nodes) = refl

said-free : (end : ℕ) (said : second whole) → IsFree (reservation_said end said)
said-free end said =
    cond_both (is_for_someone said) (whole end said said.name said.start said.until said.nodes) (bad end MissingWord) IsFree
    (λ is. whole-free end said said.name said.start said.until said.nodes) (λ not. refl)

create-free : (now : ℕ) (words : List (List ℕ)) → IsFree (create_by now words)
unfolding create_by
create-free now words =
    then-free (pairs_say reserved_adding (first_key words + 1) (nothing_reserved now) (drop (first_key words) words)) _
    (λ said. said-free (after_last words) said)

deleted-free : (end : ℕ) (name : Option (List ℕ)) → IsFree (deletion_said end name)
deleted-free end None = refl
deleted-free end (Some name) = refl

delete-free : (words : List (List ℕ)) → IsFree (delete_by words)
unfolding delete_by
delete-free words =
    then-free (pairs_say deletion_adding 3 (record { name = None }) (drop 2 words)) _
    (λ said. deleted-free (after_last words) said.name)

job-free : (end : ℕ) (said : second job_said) (target : Option Target) → IsFree (job_said end said target)
job-free end said None = refl
job-free end said (Some target) = refl

job-update-free : (words : List (List ℕ)) → IsFree (job_update_by words)
unfolding job_update_by
job-update-free words =
    then-free (pairs_say job_adding 3 (record { target = None; limit = None; nice = None }) (drop 2 words)) _
    (λ said. job-free (after_last words) said said.target)

node-free : (end : ℕ) (nodes : Option (List (List ℕ))) (state : Option NodeOrder) → IsFree (node_said end nodes state)
node-free end None state = refl
node-free end (Some nodes) None = refl
node-free end (Some nodes) (Some state) = refl

node-update-free : (words : List (List ℕ)) → IsFree (node_update_by words)
unfolding node_update_by
node-update-free words =
    then-free (pairs_say node_adding 3 (record { nodes = None; state = None }) (drop 2 words)) _
    (λ said. node-free (after_last words) said.nodes said.state)

partition-free : (end : ℕ) (name : Option (List ℕ)) (state : Option PartState) → IsFree (partition_said end name state)
partition-free end None state = refl
partition-free end (Some name) None = refl
partition-free end (Some name) (Some state) = refl

partition-update-free : (words : List (List ℕ)) → IsFree (partition_update_by words)
unfolding partition_update_by
partition-update-free words =
    then-free (pairs_say partition_adding 3 (record { name = None; state = None }) (drop 2 words)) _
    (λ said. partition-free (after_last words) said.name said.state)

unnamed-update-free : (words : List (List ℕ)) → IsFree (unnamed_update_by words)
unfolding unnamed_update_by
unnamed-update-free words =
    then-free (pairs_say unnamed_adding 3 (record {}) (drop 2 words)) _ (λ said. refl)

update-free : (named : domain update_in) (words : List (List ℕ)) → IsFree (update_in named words)
update-free named words =
    grind (arith, job-update-free, node-update-free, partition-update-free, unnamed-update-free)

acted-free : (now : ℕ) (words : List (List ℕ)) (word : List ℕ)
    → IsFree (at_word 2 (ok_or (action_named word) UnknownCommand) >>= acted now words)
unfolding action_named update_by
acted-free now words word =
    cond_both (bytes_eq word (codes "show")) _ _ by (λ is. given-free Show _ (λ query. refl)) (λ not.
    cond_both (bytes_eq word (codes "hold")) _ _ by (λ is. hold-free false words) (λ not.
    cond_both (bytes_eq word (codes "uhold")) _ _ by (λ is. hold-free true words) (λ not.
    cond_both (bytes_eq word (codes "release")) _ _ by (λ is. release-free words) (λ not.
    cond_both (bytes_eq word (codes "requeue")) _ _ by (λ is. requeue-free words) (λ not.
    cond_both (bytes_eq word (codes "update")) _ _ by (λ is. update-free (form_in (drop 2 words)) words) (λ not.
    cond_both (bytes_eq word (codes "create")) _ _ by (λ is. create-free now words) (λ not.
    cond_both (bytes_eq word (codes "delete")) _ _ by (λ is. delete-free words) (λ not.
    cond_both (bytes_eq word (codes "reconfigure")) _ _ by (λ is. refl) (λ not.
    cond_both (bytes_eq word (codes "shutdown")) _ _ by (λ is. closed-free words 2 Shutdown refl) (λ not. refl))))))))))
  where
    by : Option (third acted) → Type 0
    by found = IsFree (at_word 2 (ok_or found UnknownCommand) >>= acted now words)

scontrol-free : (now : ℕ) (words : List (List ℕ)) → IsFree (scontrol_by now words)
unfolding scontrol_by action_in
scontrol-free now words = both-free (word_at words 1) _ (acted now words) (λ word. acted-free now words word)

-- ---- any command

alone-free : (named : Command) (now : ℕ) (words : List (List ℕ)) → IsFree (alone_by named now words)
unfolding alone_by
alone-free command.Sbatch now words = refl
alone-free command.Squeue now words = given-free Show _ (λ query. refl)
alone-free command.Scancel now words = given-free Cancel _ (λ targets. refl)
alone-free command.Scontrol now words = scontrol-free now words
alone-free command.Sinfo now words = given-free Show _ (λ query. refl)
alone-free command.Sprio now words = given-free Show _ (λ query. refl)
alone-free command.Report now words = given-free Report _ (λ report. refl)
alone-free command.Pass now words = closed-free words 1 Pass refl

-- the request that is given, if one is, is by the rules
abbrev GivesByRules : Result Request WordFault → Type 0
GivesByRules (Ok request) = RequestByRules request
GivesByRules (Err fault) = Unit {0}

free-rules : (request : Request) → is_submit request ≡ false → RequestByRules request
free-rules (Submit desc) not = absurd (cc)
free-rules (Cancel targets) not = tt
free-rules (Hold targets for_owner) not = tt
free-rules (Release targets) not = tt
free-rules (Requeue target) not = tt
free-rules (UpdateJob target limit nice) not = tt
free-rules (UpdateNode names state) not = tt
free-rules (UpdatePartition name state) not = tt
free-rules (CreateReservation desc) not = tt
free-rules (DeleteReservation name) not = tt
free-rules Shutdown not = tt
free-rules (Report report) not = tt
free-rules Pass not = tt
free-rules (Reconfigure conf bytes) not = tt
free-rules (Show query) not = tt

by_words-rules : (asked : Result Request BadWord) → IsFree asked → GivesByRules (by_words asked)
by_words-rules (Ok request) is = free-rules request is
by_words-rules (Err fault) is = tt

without-rules : (attachment : Option (List ℕ)) (asked : Result Request BadWord) → IsFree asked
    → GivesByRules (without attachment asked)
without-rules None asked is = by_words-rules asked is
without-rules (Some text) asked is = tt

reconfiguring-rules : (words : List (List ℕ)) (bytes : ℕ) (read : Result ConfView ConfRefusal)
    → GivesByRules (reconfiguring words bytes read)
reconfiguring-rules words bytes (Ok conf) =
    by_words-rules (closed_at words 2 (Reconfigure conf bytes)) (closed-free words 2 (Reconfigure conf bytes) refl)
reconfiguring-rules words bytes (Err refusal) = tt

reconfigure-rules : (words : List (List ℕ)) (text : List ℕ) → GivesByRules (reconfigure_by words text)
unfolding reconfigure_by
reconfigure-rules words text = reconfiguring-rules words (length text) (conf_in text)

scontrol-rules : (now : ℕ) (words : List (List ℕ)) (attachment : Option (List ℕ))
    → GivesByRules (scontrol_with now words attachment)
scontrol-rules now words None = by_words-rules (alone_by command.Scontrol now words) (alone-free command.Scontrol now words)
scontrol-rules now words (Some text) =
    cond_both (is_reconfigure words) (reconfigure_by words text) _ GivesByRules (λ is. reconfigure-rules words text) (λ not. tt)

-- what sbatch asks is by the rules
abbrev JobsByRules : Type 0
JobsByRules = (now : ℕ) (words : List (List ℕ)) (script : Option (List ℕ)) (desc : JobDesc)
    → job_in now words script ≡ Ok desc → DescByRules desc

job-wanted : (job : Result JobDesc JobRefusal) → ((desc : JobDesc) → job ≡ Ok desc → DescByRules desc)
    → GivesByRules (wanted_by_job job)
job-wanted (Ok desc) each = each desc refl
job-wanted (Err refusal) each = tt

wanted-rules : JobsByRules → (named : Command) (now : ℕ) (words : List (List ℕ)) (attachment : Option (List ℕ))
    → GivesByRules (wanted_by named now words attachment)
unfolding wanted_by sbatch_by
wanted-rules jobs command.Sbatch now words attachment =
    job-wanted (job_in now words attachment) (λ desc is. jobs now words attachment desc is)
wanted-rules jobs command.Squeue now words attachment =
    without-rules attachment (alone_by command.Squeue now words) (alone-free command.Squeue now words)
wanted-rules jobs command.Scancel now words attachment =
    without-rules attachment (alone_by command.Scancel now words) (alone-free command.Scancel now words)
wanted-rules jobs command.Scontrol now words attachment = scontrol-rules now words attachment
wanted-rules jobs command.Sinfo now words attachment =
    without-rules attachment (alone_by command.Sinfo now words) (alone-free command.Sinfo now words)
wanted-rules jobs command.Sprio now words attachment =
    without-rules attachment (alone_by command.Sprio now words) (alone-free command.Sprio now words)
wanted-rules jobs command.Report now words attachment =
    without-rules attachment (alone_by command.Report now words) (alone-free command.Report now words)
wanted-rules jobs command.Pass now words attachment =
    without-rules attachment (alone_by command.Pass now words) (alone-free command.Pass now words)

-- ---- a block

-- who asks, and when
abbrev Head : Type 0
Head = domain meaning_for

meaning-rules : (head : Head) (named : Command) (asked : Result Request WordFault) → GivesByRules asked
    → AsksByRules (meaning_for head named asked)
meaning-rules head named (Ok request) is = is
meaning-rules head named (Err fault) is = tt

of-rules : JobsByRules → (named : Option Command) (head : Head) (words : List (List ℕ)) (attachment : Option (List ℕ))
    → AsksByRules (asked_of named head words attachment)
of-rules jobs None head words attachment = tt
of-rules jobs (Some named) head words attachment =
    meaning-rules head named (wanted_by named head.moment words attachment)
    (wanted-rules jobs named head.moment words attachment)

by-rules : JobsByRules → (head : Head) (words : List (List ℕ)) (attachment : Option (List ℕ))
    → AsksByRules (asked_by head words attachment)
unfolding asked_by
by-rules jobs head words attachment = of-rules jobs (command_in words) head words attachment

headed-rules : JobsByRules → (head : Option Head) (words : List (List ℕ)) (attachment : Option (List ℕ))
    → AsksByRules (headed head words attachment)
headed-rules jobs None words attachment = tt
headed-rules jobs (Some head) words attachment = by-rules jobs head words attachment

unless-rules : (bad : Option ℕ) (meaning : Meaning) → AsksByRules meaning → AsksByRules (unless_bad bad meaning)
unless-rules None meaning is = is
unless-rules (Some place) meaning is = tt

pub header_rules : JobsByRules → (header : List ℕ) (attachment : Option (List ℕ))
    → AsksByRules (meaning_in header attachment)
unfolding meaning_in meaning_by
header_rules jobs header attachment =
    unless-rules (first_bad header) (meaning_by (words_in header) attachment)
    (headed-rules jobs (head_in (words_in header)) (drop 2 (words_in header)) attachment)

pub called_rules : JobsByRules → (caller : Caller) (moment : ℕ) (attachment : Option (List ℕ))
    → AsksByRules (asked_at caller moment attachment)
called_rules jobs caller moment attachment =
    by-rules jobs _ caller.words attachment
