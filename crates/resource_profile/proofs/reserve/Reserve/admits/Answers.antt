use Rattle.std.proofs.Common.{ℕ, ◌+◌, ◌<◌, length, arith, sym, ap}
use Rattle.std.proofs.lemmas.List.{get_or_read}
use Rattle.std.proofs.lemmas.List.Sums.{get_or-le-sum_by}
use Rattle.resource_profile.specs.declared.reserve.Candidate.{Candidate}
use Rattle.resource_profile.proofs.Holding.{IsHolding-advance, IsHolding-pass, IsHolding-release, least_inside, least-IsCandidate, least-held, too_few}
use Rattle.resource_profile.proofs.Sums.{sum-set_empty, held_count-set_empty}
use Rattle.resource_profile.proofs.reserve.Reserve.admits.Goals as goal

pub index-least-requires : goal.index-least-requires
index-least-requires c =
    let self = c.args.self.now in
    let skipped = rw (c.deref.ensures.value, c.deref-2.ensures.value) at c.first_held-self.ensures.before in
    let holding = IsHolding-advance c.args.caps.now c.args.place self.candidates.items self.least c.first_held-self.result self.held.items c.requires.reserve.holding c.first_held-self.ensures.from skipped in
    omega (arith, least_inside c.args.caps.now c.args.place self.candidates.items c.first_held-self.result self.held.items holding (omega (arith, c.requires.some, c.requires.reserve.count)), self.candidates.ok.0)

pub overflow_sub-tasks : goal.overflow_sub-tasks
overflow_sub-tasks c =
    let self = c.args.self.now in
    let skipped = rw (c.deref.ensures.value, c.deref-2.ensures.value) at c.first_held-self.ensures.before in
    let found = rw (c.deref.ensures.value, c.deref-2.ensures.value) at c.first_held-self.ensures.found in
    let holding = IsHolding-advance c.args.caps.now c.args.place self.candidates.items self.least c.first_held-self.result self.held.items c.requires.reserve.holding c.first_held-self.ensures.from skipped in
    let inside = least_inside c.args.caps.now c.args.place self.candidates.items c.first_held-self.result self.held.items holding (omega (arith, c.requires.some, c.requires.reserve.count)) in
    let one = least-held c.args.caps.now c.args.place self.candidates.items c.first_held-self.result self.held.items c.index-least.result.now holding inside c.index-least.ensures (found inside) in
    let is = least-IsCandidate c.args.caps.now c.args.place self.candidates.items c.first_held-self.result self.held.items c.index-least.result.now holding inside c.index-least.ensures in
    let part = get_or-le-sum_by (λ (n : ℕ). n) self.held.items c.index-least.result.now.place 0 (omega (arith, is.high, holding.same_length)) in
    omega (arith, part, one.1, c.requires.reserve.tasks, c.from-2.ensures)

pub returns-then-tasks-from-clause-reserve : goal.returns-then-tasks-from-clause-reserve
returns-then-tasks-from-clause-reserve c =
    let self = c.args.self.now in
    let skipped = rw (c.deref.ensures.value, c.deref-2.ensures.value) at c.first_held-self.ensures.before in
    let holding = IsHolding-advance c.args.caps.now c.args.place self.candidates.items self.least c.first_held-self.result self.held.items c.requires.reserve.holding c.first_held-self.ensures.from skipped in
    let read = get_or_read self.held.items c.args.place c.index.result.now (omega (arith, c.requires.place, holding.same_length)) c.index.ensures 0 in
    record {
      holding = IsHolding-pass c.args.caps.now c.args.place self.candidates.items c.first_held-self.result self.held.items holding (omega (arith, read, c.if-index-gt0.false));
      count = c.requires.reserve.count;
      tasks = c.requires.reserve.tasks;
    }

pub returns-then-tasks-from-clause-too_few : goal.returns-then-tasks-from-clause-too_few
returns-then-tasks-from-clause-too_few c later rising fewer giving =
    let self = c.args.self.now in
    let skipped = rw (c.deref.ensures.value, c.deref-2.ensures.value) at c.first_held-self.ensures.before in
    let holding = IsHolding-advance c.args.caps.now c.args.place self.candidates.items self.least c.first_held-self.result self.held.items c.requires.reserve.holding c.first_held-self.ensures.from skipped in
    let inside = least_inside c.args.caps.now c.args.place self.candidates.items c.first_held-self.result self.held.items holding (omega (arith, c.requires.some, c.requires.reserve.count)) in
    let read = get_or_read self.held.items c.args.place c.index.result.now (omega (arith, c.requires.place, holding.same_length)) c.index.ensures 0 in
    too_few c.args.caps.now c.args.place self.candidates.items c.first_held-self.result self.held.items c.index-least.result.now c.args.wanting holding inside c.index-least.ensures (omega (arith, read, c.if-index-gt0.false)) (omega (arith, c.if-tasks-from.true, c.from-2.ensures, c.from-3.ensures, c.saturating_sub.ensures, c.requires.reserve.tasks)) later rising (omega (arith, fewer, c.requires.reserve.count))

pub index_mut-requires-2 : goal.index_mut-requires-2
index_mut-requires-2 c =
    let self = c.args.self.now in
    let skipped = rw (c.deref.ensures.value, c.deref-2.ensures.value) at c.first_held-self.ensures.before in
    let holding = IsHolding-advance c.args.caps.now c.args.place self.candidates.items self.least c.first_held-self.result self.held.items c.requires.reserve.holding c.first_held-self.ensures.from skipped in
    let inside = least_inside c.args.caps.now c.args.place self.candidates.items c.first_held-self.result self.held.items holding (omega (arith, c.requires.some, c.requires.reserve.count)) in
    let is = least-IsCandidate c.args.caps.now c.args.place self.candidates.items c.first_held-self.result self.held.items c.index-least.result.now holding inside c.index-least.ensures in
    omega (arith, is.high, holding.same_length, self.held.ok.0)

pub returns-clause-reserve : goal.returns-clause-reserve
returns-clause-reserve c =
    let self = c.args.self.now in
    let skipped = rw (c.deref.ensures.value, c.deref-2.ensures.value) at c.first_held-self.ensures.before in
    let found = rw (c.deref.ensures.value, c.deref-2.ensures.value) at c.first_held-self.ensures.found in
    let holding = IsHolding-advance c.args.caps.now c.args.place self.candidates.items self.least c.first_held-self.result self.held.items c.requires.reserve.holding c.first_held-self.ensures.from skipped in
    let inside = least_inside c.args.caps.now c.args.place self.candidates.items c.first_held-self.result self.held.items holding (omega (arith, c.requires.some, c.requires.reserve.count)) in
    let one = least-held c.args.caps.now c.args.place self.candidates.items c.first_held-self.result self.held.items c.index-least.result.now holding inside c.index-least.ensures (found inside) in
    let is = least-IsCandidate c.args.caps.now c.args.place self.candidates.items c.first_held-self.result self.held.items c.index-least.result.now holding inside c.index-least.ensures in
    let place_in : c.index-least.result.now.place < length self.held.items = omega (arith, is.high, holding.same_length) in
    let read = get_or_read self.held.items c.args.place c.index.result.now (omega (arith, c.requires.place, holding.same_length)) c.index.ensures 0 in
    let passed = IsHolding-pass c.args.caps.now c.args.place self.candidates.items c.first_held-self.result self.held.items holding (omega (arith, read, c.if-index-gt0.false)) in
    record {
      holding = IsHolding-release c.args.caps.now (c.args.place + 1) self.candidates.items c.first_held-self.result self.held.items c.index-least.result.now c.index-least.result.now.place passed inside (sym (ap (λ (n : Candidate). n.place) c.index-least.ensures)) place_in;
      count = omega (arith, held_count-set_empty self.held.items c.index-least.result.now.place place_in one.0, c.requires.reserve.count);
      tasks = omega (arith, sum-set_empty self.held.items c.index-least.result.now.place place_in, one.1, c.from-2.ensures, c.requires.reserve.tasks);
    }
