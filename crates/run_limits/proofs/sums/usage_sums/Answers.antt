use Rattle.std.proofs.Common.{◌<◌, ℕ, cond, arith, get_or, length, sym, ap, ◌∙◌}
use Rattle.std.specs.List.{zip}
use Rattle.std.proofs.lemmas.List.{take_all}
use Rattle.std.proofs.lemmas.List.Sums.{sum_by_more}
use Rattle.std.proofs.lemmas.Slice.Zip.{length-zip, get_or-zip}
use Rattle.run_limits.specs.Tree.{is_within, usage_of}
use Rattle.run_limits.proofs.Users.{users-under}
use Rattle.run_limits.proofs.Ways.{added-low}
use Rattle.run_limits.proofs.sums.usage_sums.Goals as goal

pub charge-requires-clause-place : goal.charge-requires-clause-place
charge-requires-clause-place c =
    let under = rw (sym c.requires.users) at (users-under c.args.nodes.now) in
    under c.loop-user.user 0 c.loop-user-test.true

pub loop-user-preserved : goal.loop-user-preserved
loop-user-preserved c =
    let pairs = zip c.args.places.now c.args.usage.now in
    let low : c.loop-user.user < length c.args.usage.now = omega (arith, c.requires.len, c.loop-user-test.true) in
    let inside : c.loop-user.user < length pairs = omega (arith, length-zip c.args.places.now c.args.usage.now, low, c.loop-user-test.true) in
    let pair = get_or-zip c.args.places.now c.args.usage.now c.loop-user.user (0, 0) c.loop-user-test.true low in
    record {
      len = omega (arith, c.charge.ensures.len, c.loop-user.invariant.len);
      sums = λ at.
          let more = rw pair at (sum_by_more (λ (one : ℕ × ℕ). cond (is_within c.args.nodes.now at one.0) one.1 0) pairs c.loop-user.user (0, 0) inside) in
          omega (arith, more, c.charge.ensures.sums at, c.loop-user.invariant.sums at);
      small = λ at.
          omega (arith, c.charge.ensures.sums at, added-low (is_within c.args.nodes.now at (get_or c.args.places.now c.loop-user.user 0)) (get_or c.args.usage.now c.loop-user.user 0), c.requires.usage c.loop-user.user 0 low, c.loop-user.invariant.small at);
    }

pub returns-clause-sums : goal.returns-clause-sums
returns-clause-sums c = λ at.
    let pairs = zip c.args.places.now c.args.usage.now in
    let all = take_all c.loop-user.user pairs (omega (arith, length-zip c.args.places.now c.args.usage.now, c.loop-user-test.false)) in
    c.loop-user.invariant.sums at ∙ ap (λ l. usage_of c.args.nodes.now l at) (all ∙ ap (λ l. zip l c.args.usage.now) c.requires.users)
