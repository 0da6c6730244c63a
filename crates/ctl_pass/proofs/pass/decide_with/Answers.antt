use Rattle.std.proofs.Common.{◌≡◌, ◌+◌, length, count_by, arith, ap, sym, ◌∙◌, rules}
use Rattle.std.proofs.lemmas.List.{length-map}
use Rattle.ctl_state.specs.State.{state_of}
use Rattle.ctl_pass.specs.Limits.{is_over}
use Rattle.ctl_pass.specs.declared.starts.DueStart.{DueStart}
use Rattle.ctl_pass.specs.Passing.{jobs_ended, outcome}
use Rattle.ctl_pass.specs.Preempting.{victims_in}
use Rattle.ctl_pass.specs.Readiness.{jobs_left, placements}
use Rattle.ctl_pass.proofs.Due.{due-count}
use Rattle.ctl_pass.proofs.Readied.{left-known}
use Rattle.ctl_pass.proofs.pass.decide_with.Goals as goal

pub returns : goal.returns
returns c =
    let s = state_of c.args.cluster.now in
    let now = c.args.now in
    let starts = c.in_ok-starts.field-0.starts.items in
    let left = left-known c.who_is_awaited_stays.ensures.changes s now c.args.awaited c.requires.awaited in
    let count : length starts ≡ length (outcome s now).starts =
    sym (length-map starts (λ (start : DueStart). start.placed)) ∙ ap length c.in_ok-starts.ensures.starts
    ∙ due-count s now (jobs_left s now) (placements s now) in
    let over : c.count_over.result ≡ count_by (is_over now) s.jobs =
    c.count_over.ensures ∙ ap (count_by (is_over now)) c.records.ensures.value in
    let gone : c.len.result ≡ length (victims_in s now) =
    omega (arith, c.len.ensures, c.in_ok-starts.field-0.gone.ok.0, ap length c.in_ok-starts.ensures.gone) in
    let ended : c.count_over.result + c.len.result ≡ jobs_ended s now = omega (arith, over, gone) in
    search (rules, count, left, ended)
