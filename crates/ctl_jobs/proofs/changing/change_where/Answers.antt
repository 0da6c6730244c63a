use Rattle.std.proofs.Common.{◌∙◌, ap, sym, refl}
use Rattle.ctl_state.specs.State.{state_of}
use Rattle.ctl_jobs.specs.Actions.{done_to}
use Rattle.ctl_jobs.specs.Changing.{done_where}
use Rattle.ctl_jobs.proofs.Changed.{goes_at, stays_at}
use Rattle.ctl_jobs.proofs.changing.change_where.Goals as goal
use Rattle.ctl_jobs.proofs.changing.change_where.Goals.{else-named-via-then-named+else-may_do, else-named-via-else-named}

pub returns-then-may_do-clause-after : goal.returns-then-may_do-clause-after
returns-then-may_do-clause-after c =
    let s = state_of c.args.cluster.now in
    let jobs = c.args.cluster.now.jobs.records in
    let user = c.args.user.now in
    let free = sym c.may_do.ensures ∙ c.if-may_do.true in
    ap (λ jobs. record s { jobs = jobs; usage = c.change_at.new.jobs.usage })
    (c.change_at.ensures.jobs
    ∙ c.a_change_is_of_its_place.ensures.same (done_to c.args.moment user c.args.action.now)
    (done_where s c.args.moment user c.args.action.now c.args.named) c.args.place jobs
    (goes_at s c.args.moment user c.args.action.now c.args.named jobs c.args.place c.index-records-place.result c.requires
    (rw c.records.ensures.value at c.index-records-place.is)
    c.if-named.true free))

pub returns-else-named-clause-after : goal.returns-else-named-clause-after
returns-else-named-clause-after c =
    let s = state_of c.args.cluster.now in
    let jobs = c.args.cluster.now.jobs.records in
    let user = c.args.user.now in
    let stays = c.a_change_is_of_its_place.ensures.nothing
    (done_where s c.args.moment user c.args.action.now c.args.named) c.args.place jobs in
    elim c.else-named.branch [
      | else-named-via-then-named+else-may_do w ↦
          let refused = sym w.may_do.ensures ∙ w.if-may_do.false in
          ap (λ jobs. record s { jobs = jobs; usage = s.usage })
          (sym (stays (stays_at s c.args.moment user c.args.action.now c.args.named jobs c.args.place
          w.index-records-place.result c.requires
          (rw w.records.ensures.value at w.index-records-place.is) refused)))
      | else-named-via-else-named w ↦ ap (λ jobs. record s { jobs = jobs; usage = s.usage })
          (sym (stays (λ d. rw w.if-named.false refl)))
    ]
