-- What jobs ask for stays by the rules of sbatch(1), where all that is handed in is by them.
use Rattle.std.specs.Prelude.{All}
use Rattle.std.proofs.Common.{ℕ, List, [], ◌∷◌, Option, map, sym, subst}
use Rattle.std.proofs.lemmas.List.Elements.{All-cons, All-head, All-nil, All-tail}
use Rattle.plain_data.specs.Assocs.{AssocView}
use Rattle.plain_data.specs.Confs.{ConfView}
use Rattle.plain_data.specs.declared.job.JobDesc.{JobDesc}
use Rattle.request_data.specs.declared.request.Request.{Request}
use Rattle.block_frame.specs.declared.block.Block.{Block}
use Rattle.command_words.specs.Header.{meaning_in}
use Rattle.command_words.specs.declared.header.Meaning.{Meaning}
use Rattle.command_words.specs.declared.header.Meaning.TheVariants.{Asks, Malformed, UnknownCommand, BadWords, BadHeader}
use Rattle.job_table.specs.declared.record.JobRecord.{JobRecord}
use Rattle.ctl_state.specs.State.{State, opening}
use Rattle.ctl_jobs.specs.Submission.{Basis, new_jobs, settled}
use Rattle.ctl_core.specs.Step.{raised, state_after}
use Rattle.step_lemmas.proofs.Steps.{step_is}
use Rattle.ctl_desk.specs.declared.entry.Entry.{Entry}
use Rattle.ctl_desk.specs.History.{after_all}
use Rattle.ctl_session.specs.Meaning.{meaning_of, state_behind}
use Rattle.saved_rules.specs.Rules.{AsksByRules, DescByRules, RequestByRules, TermsByRules}
use Rattle.script_run.specs.Behind.{AreByRules}
use Rattle.script_run.specs.Script.{state_behind_all}
use Rattle.saved_laws.proofs.NamesKept.{IsOfFixed, fixed_stays, new_true}
use Rattle.saved_laws.proofs.Walks.{made_true}

-- the job's terms are by the rules
abbrev IsRuled : JobRecord → Type 0
IsRuled job = TermsByRules job.terms

ruled-fixed : IsOfFixed IsRuled
ruled-fixed = record {
  same = λ job after id array index user terms assoc qos holds. subst TermsByRules (sym terms) holds;
}

settled-ruled : (s : State) (basis : Basis) (desc : JobDesc) → DescByRules desc → TermsByRules (settled s basis desc)
settled-ruled s basis desc by = record {
  features = by.features;
  required = by.required;
  excluded = by.excluded;
  dependency = by.dependency;
}

new-ruled : (s : State) (moment : ℕ) (user : List ℕ) (desc : JobDesc) (basis : Basis) → DescByRules desc
    → All IsRuled (new_jobs s moment user desc basis desc.array)
new-ruled s moment user desc basis by =
    new_true IsRuled s moment user desc basis (settled-ruled s basis desc by) (λ one. settled-ruled s basis desc by)
    desc.array

pub opening_ruled : (conf : ConfView) (file : AssocView) → AreByRules (opening conf file)
opening_ruled conf file = All-nil IsRuled

pub step_ruled : (s : State) (now : ℕ) (user : List ℕ) (request : Request) → RequestByRules request → AreByRules s
    → AreByRules (state_after s now user request)
step_ruled s now user request by ruled =
    step_is AreByRules s now user request ruled (λ reply after is.
    made_true IsRuled (fixed_stays IsRuled ruled-fixed) s (raised s now) user request after ruled
    (λ desc basis asks of. new-ruled s (raised s now) user desc basis (subst RequestByRules asks by)) is.kind)

behind-ruled : (s : State) (meaning : Meaning) → AsksByRules meaning → AreByRules s → AreByRules (state_behind s meaning)
behind-ruled s (Asks asked) by ruled = step_ruled s asked.moment asked.user asked.request by ruled
behind-ruled s (Malformed command fault) by ruled = ruled
behind-ruled s UnknownCommand by ruled = ruled
behind-ruled s (BadWords place) by ruled = ruled
behind-ruled s BadHeader by ruled = ruled

pub script_ruled : (s : State) (script : List Meaning) → All AsksByRules script → AreByRules s
    → AreByRules (state_behind_all s script)
script_ruled s [] by ruled = ruled
script_ruled s (meaning ∷ meanings) by ruled =
    script_ruled (state_behind s meaning) meanings (All-tail AsksByRules meaning meanings by)
    (behind-ruled s meaning (All-head AsksByRules meaning meanings by) ruled)

pub history_ruled : (s : State) (entries : List Entry) → All (λ (e : Entry). RequestByRules e.request) entries
    → AreByRules s → AreByRules (after_all s entries)
history_ruled s [] by ruled = ruled
history_ruled s (e ∷ es) by ruled =
    let Rules : Entry → Type 0 = λ e. RequestByRules e.request in
    history_ruled (state_after s e.moment e.user e.request) es (All-tail Rules e es by)
    (step_ruled s e.moment e.user e.request (All-head Rules e es by) ruled)

-- whatever a block asks is by the rules
abbrev pub BlocksAskByRules : Type 0
BlocksAskByRules = (header : List ℕ) (attachment : Option (List ℕ)) → AsksByRules (meaning_in header attachment)

asked-by-rules : BlocksAskByRules → (blocks : List Block) → All AsksByRules (map meaning_of blocks)
asked-by-rules asks [] = All-nil AsksByRules
asked-by-rules asks (block ∷ blocks) =
    All-cons AsksByRules (meaning_of block) (map meaning_of blocks) (asks block.header block.attachment)
    (asked-by-rules asks blocks)

pub blocks_ruled : BlocksAskByRules → (s : State) (blocks : List Block) → AreByRules s
    → AreByRules (state_behind_all s (map meaning_of blocks))
blocks_ruled asks s blocks ruled = script_ruled s (map meaning_of blocks) (asked-by-rules asks blocks) ruled
