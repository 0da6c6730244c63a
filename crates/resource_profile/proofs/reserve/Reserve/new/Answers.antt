use Rattle.std.proofs.Common.{◌≡◌, ℕ, ◌+◌, ◌-◌, length, arith, subst}
use Rattle.resource_profile.proofs.Filling.{IsFilling, IsFilling-take, IsHolding-filled, IsFull-filled, tasks-le}
use Rattle.resource_profile.proofs.reserve.Reserve.new.Goals as goal

pub overflow_add-tasks : goal.overflow_add-tasks
overflow_add-tasks c =
    let caps = c.args.caps.now in
    let taken = IsFilling-take caps c.args.required c.in_ok-candidates.candidates.items c.saturating_sub-least.result c.loop-i.i c.loop-i.held.items c.loop-i.tasks c.index-candidate.result.now c.in_ok-candidates.ensures.candidates c.loop-i.invariant (omega arith) c.index-candidate.ensures in
    let bound = tasks-le caps c.in_ok-candidates.candidates.items c.saturating_sub-least.result (c.loop-i.i + 1) _ _ 4294967295 taken (λ place. let fits = c.type_inv.caps place in omega arith) in
    omega (arith, bound, c.requires.small, c.from-tasks.ensures)

pub loop-i-preserved : goal.loop-i-preserved
loop-i-preserved c =
    rw c.from-tasks.ensures (IsFilling-take c.args.caps.now c.args.required c.in_ok-candidates.candidates.items c.saturating_sub-least.result c.loop-i.i c.loop-i.held.items c.loop-i.tasks c.index-candidate.result.now c.in_ok-candidates.ensures.candidates c.loop-i.invariant (omega arith) c.index-candidate.ensures)

pub returns-clause-reserve : goal.returns-clause-reserve
returns-clause-reserve c =
    let candidates = c.in_ok-candidates.candidates.items in
    let all : c.loop-i.i ≡ length candidates = omega (arith, c.in_ok-candidates.candidates.ok.0) in
    let filled = subst (λ (n : ℕ). IsFilling c.args.caps.now candidates c.saturating_sub-least.result n c.loop-i.held.items c.loop-i.tasks) all c.loop-i.invariant in
    record {
      holding = IsHolding-filled c.args.caps.now c.args.required candidates c.saturating_sub-least.result c.loop-i.held.items c.loop-i.tasks c.in_ok-candidates.ensures.candidates c.in_ok-candidates.ensures.sorted filled;
      count = omega (arith, filled.count, c.in_ok-candidates.candidates.ok.0);
      tasks = filled.tasks_is;
    }

pub returns-clause-full : goal.returns-clause-full
returns-clause-full c =
    let candidates = c.in_ok-candidates.candidates.items in
    let all : c.loop-i.i ≡ length candidates = omega (arith, c.in_ok-candidates.candidates.ok.0) in
    let first : c.saturating_sub-least.result ≡ length candidates - c.args.most = omega (arith, c.in_ok-candidates.candidates.ok.0) in
    let filled = subst (λ (n : ℕ). IsFilling c.args.caps.now candidates c.saturating_sub-least.result n c.loop-i.held.items c.loop-i.tasks) all c.loop-i.invariant in
    IsFull-filled c.args.caps.now c.args.required c.args.most candidates c.loop-i.held.items c.loop-i.tasks c.in_ok-candidates.ensures.candidates (subst (λ (n : ℕ). IsFilling c.args.caps.now candidates n (length candidates) c.loop-i.held.items c.loop-i.tasks) first filled)
