use Rattle.std.proofs.Common.{◌≡◌, ◌≤◌, ℕ, List, ◌∷◌, [], ◌++◌, length, map, take, get_or, Some, refl, sym, ap, ◌∙◌, arith}
use Rattle.std.specs.List.{range_with_len}
use Rattle.std.proofs.lemmas.List.{map_push, take_more, take_all, length-map}
use Rattle.std.proofs.lemmas.List.FromFn.{length-range_with_len}
use Rattle.std.proofs.lemmas.List.Elements.{All-push, All-weaker}
use Rattle.run_limits.specs.declared.paths.Span.{Span}
use Rattle.run_limits.specs.Levels.{Level}
use Rattle.run_limits.specs.Tree.{path_of}
use Rattle.run_limits.specs.Paths.{sum_at}
use Rattle.run_limits.proofs.Slices.{paths-more, grown-longer, range-more}
use Rattle.run_limits.proofs.paths.user_paths.Goals as goal

pub loop-user-preserved : goal.loop-user-preserved
loop-user-preserved c =
    let levels = c.loop-user.levels.items in
    let grown = c.push_path.new.levels.items in
    let spans = c.loop-user.spans.items in
    let walk : ℕ → List Level = λ place. path_of (sum_at c.args.used.now) (sum_at c.args.shares.now) c.args.nodes.now (Some place) in
    let place = get_or c.args.users.now c.loop-user.user 0 in
    let start : c.len-start.result ≡ length levels = omega (arith, c.len-start.ensures, c.loop-user.levels.ok.0) in
    let end : c.len.result ≡ length grown = omega (arith, c.len.ensures, c.push_path.new.levels.ok.0) in
    let span : Span = record { user = c.loop-user.user; start = length levels; end = length grown } in
    let pushed : c.push.new.self.items ≡ spans ++ span ∷ [] = c.in_ok-push.ensures.items ∙ rw (start, end) refl in
    let longer = grown-longer levels grown (walk place) c.in_ok-push_path.ensures in
    record {
      users = rw pushed (map_push (λ (one : Span). one.user) spans span ∙ ap (λ l. l ++ c.loop-user.user ∷ []) c.loop-user.invariant.users ∙ range-more c.loop-user.user);
      ends = rw pushed (All-push (λ (one : Span). one.end ≤ length grown) spans span
          (All-weaker (λ (one : Span). one.end ≤ length levels) (λ (one : Span). one.end ≤ length grown) (λ one low. omega (arith, low, longer)) spans c.loop-user.invariant.ends) (omega arith));
      paths = rw (pushed, take_more c.args.users.now c.loop-user.user 0 c.loop-user-test.true)
          (paths-more levels grown (walk place) c.in_ok-push_path.ensures spans c.loop-user.user (map walk (take c.loop-user.user c.args.users.now)) c.loop-user.invariant.ends c.loop-user.invariant.paths
          ∙ sym (map_push walk (take c.loop-user.user c.args.users.now) place));
    }

pub returns-clause-users : goal.returns-clause-users
returns-clause-users c =
    let all : c.loop-user.user ≡ length c.args.users.now = omega arith in
    c.loop-user.invariant.users ∙ ap (range_with_len 0) all

pub returns-clause-len : goal.returns-clause-len
returns-clause-len c =
    let all : c.loop-user.user ≡ length c.args.users.now = omega arith in
    let count = ap length c.loop-user.invariant.users in
    omega (arith, all, count, length-map c.loop-user.spans.items (λ (span : Span). span.user), length-range_with_len 0 c.loop-user.user, c.loop-user.spans.ok)

pub returns-clause-paths : goal.returns-clause-paths
returns-clause-paths c =
    let all = take_all c.loop-user.user c.args.users.now (omega arith) in
    rw all at c.loop-user.invariant.paths
