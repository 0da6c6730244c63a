-- How the sessions of a worker ended.
use Rattle.std.proofs.Common.{◌≡◌, ◌+◌, ◌-◌, ℕ, List, [], ◌∷◌, ◌++◌, Some, None, All, refl, sym, ap, ◌∙◌, subst, arith, ⊎_elim}
use Rattle.std.proofs.lemmas.List.Elements.{All-nil, All-cons, All-head, All-tail, All-append}
use Rattle.slurm_io.specs.Wire.{Wire}
use Rattle.slurm_io.specs.Faults.{CountsOne}
use Rattle.slurm_net.specs.Accepted.{IsNewLink}
use Rattle.block_frame.specs.declared.form.Form.TheVariants.{Framed}
use Rattle.ctl_desk.specs.Desk.{Sight}
use Rattle.ctl_session.specs.declared.session.How.{How}
use Rattle.ctl_session.specs.declared.session.How.TheVariants as how
use Rattle.ctl_session.specs.Clock.{Timing}
use Rattle.ctl_session.specs.Session.{Ending, IsCause}
use Rattle.ctl_server.specs.declared.working.WorkerEnd.{WorkerEnd}
use Rattle.ctl_server.specs.declared.working.WorkerEnd.TheVariants.{Shut, DoorFault, Memory}
use Rattle.ctl_server.specs.Serving.{Serving, IsServing}
use Rattle.ctl_server.specs.Standing.{Standing}
use Rattle.ctl_server.specs.Run.{Follow}
use Rattle.ctl_server.specs.Cause.{EachGoesOn, LastEnds, EndsUnhindered, EndsWell, EndWell, end_by}
use Rattle.ctl_server.specs.Worked.{IsWorked}

-- a count that rose from 0 isn't 0
rose : (old new : ℕ) → CountsOne old new → old ≡ 0 → new ≡ 0 → ⊥
rose old new counts from to = absurd (omega (arith, counts.0, counts.1))

unhindered : (came back : Wire) (e : Ending) (end : How) → IsNewLink came → IsCause Framed came back e end
    → (end ≡ how.Memory → ⊥) → back.reads ≡ 0 → back.writes ≡ 0 → EndsUnhindered end
unhindered came back e how.Closed fresh cause apart reads writes = tt
unhindered came back e (how.Truncated place) fresh cause apart reads writes = tt
unhindered came back e (how.Bad place) fresh cause apart reads writes = tt
unhindered came back e how.Spent fresh cause apart reads writes = tt
unhindered came back e how.Shut fresh cause apart reads writes = tt
unhindered came back e how.ReadFault fresh cause apart reads writes =
    rose came.reads back.reads cause.1 fresh.reads reads
unhindered came back e how.WriteFault fresh cause apart reads writes =
    rose came.writes back.writes cause.1 fresh.writes writes
unhindered came back e how.Memory fresh cause apart reads writes = apart refl

ends_well : (serving : Serving) → IsServing serving → (serving.ended.how ≡ how.Memory → ⊥) → EndsWell serving
ends_well serving is apart =
    unhindered serving.came serving.back serving.ending serving.ended.how is.fresh is.served.cause apart

pub all_served : (desk : Sight) (clock : Timing) (servings : List Serving) (desk' : Sight) (clock' : Timing)
    → Follow desk clock servings desk' clock' → All IsServing servings
all_served desk clock [] desk' clock' follow = All-nil IsServing
all_served desk clock (serving ∷ servings) desk' clock' follow =
    All-cons IsServing serving servings follow.2
    (all_served serving.desk' serving.clock' servings desk' clock' follow.3)

-- a worker goes on after no session that ended for want of memory, or by a shutdown
not_by : (end : How) → end_by end ≡ None → (end ≡ how.Memory → ⊥)
not_by end none is = let memory : Some Memory ≡ None = sym (ap end_by is) ∙ none in cc

all_well : (servings : List Serving) → All IsServing servings → EachGoesOn servings → All EndsWell servings
all_well [] served go_on = All-nil EndsWell
all_well (serving ∷ servings) served go_on =
    All-cons EndsWell serving servings
    (ends_well serving (All-head IsServing serving servings served)
    (not_by serving.ended.how (All-head (λ serving. end_by serving.ended.how ≡ None) serving servings go_on)))
    (all_well servings (All-tail IsServing serving servings served)
    (All-tail (λ serving. end_by serving.ended.how ≡ None) serving servings go_on))

-- the first ones of two lists, and the others
firsts : (P : Serving → Type 0) (xs ys : List Serving) → All P (xs ++ ys) → All P xs
firsts P [] ys all = All-nil P
firsts P (x ∷ xs) ys all =
    All-cons P x xs (All-head P x (xs ++ ys) all) (firsts P xs ys (All-tail P x (xs ++ ys) all))

lasts : (P : Serving → Type 0) (xs ys : List Serving) → All P (xs ++ ys) → All P ys
lasts P [] ys all = all
lasts P (x ∷ xs) ys all = lasts P xs ys (All-tail P x (xs ++ ys) all)

-- where the last one ended by a shutdown
shut_well : (servings : List Serving) → All IsServing servings → LastEnds how.Shut servings → All EndsWell servings
shut_well servings served last =
    let parts : All IsServing (last.earlier ++ last.last ∷ []) = subst (All IsServing) last.all served in
    let apart : last.last.ended.how ≡ how.Memory → ⊥ =
    λ is. let same : how.Shut ≡ how.Memory = sym last.ends ∙ is in cc in
    let one = All-cons EndsWell last.last []
    (ends_well last.last (All-head IsServing last.last [] (lasts IsServing last.earlier (last.last ∷ []) parts)) apart)
    (All-nil EndsWell) in
    subst (All EndsWell) (sym last.all)
    (All-append EndsWell last.earlier (last.last ∷ [])
    (all_well last.earlier (firsts IsServing last.earlier (last.last ∷ []) parts) last.go_on) one)

-- all ended well, where the worker didn't end for want of memory
pub all_end_well : (end : WorkerEnd) (servings : List Serving) → (end ≡ Memory → ⊥) → EndWell end servings
    → All EndsWell servings
all_end_well Shut servings apart well = well
all_end_well DoorFault servings apart well = well
all_end_well Memory servings apart well = absurd (apart refl)

pub end_well : (old new : Standing) (end : WorkerEnd) (servings : List Serving) → IsWorked old new (Some end) servings
    → EndWell end servings
end_well old new Shut servings worked =
    let served = all_served old.desk old.clock servings new.desk new.clock worked.follow in
    ⊎_elim (all_well servings served) (shut_well servings served) worked.cause.1
end_well old new DoorFault servings worked =
    all_well servings (all_served old.desk old.clock servings new.desk new.clock worked.follow) worked.cause.1
end_well old new Memory servings worked =
    let served = all_served old.desk old.clock servings new.desk new.clock worked.follow in
    let last = worked.cause.0 in (
      last.earlier,
      last.last,
      last.all,
      all_well last.earlier
          (firsts IsServing last.earlier (last.last ∷ []) (subst (All IsServing) last.all served)) last.go_on,
    )
