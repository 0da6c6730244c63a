use Rattle.std.proofs.Common.{◌≡◌, ℕ, length, map, sym, ap, ◌∙◌, arith, Vec, Global, Some, vec_len, get_or}
use Rattle.std.specs.Prelude.{All}
use Rattle.std.specs.List.{range_with_len}
use Rattle.std.proofs.lemmas.List.Sorted.{length_permutation}
use Rattle.run_limits.specs.declared.paths.Span.{Span}
use Rattle.run_limits.specs.Tree.{path_of}
use Rattle.run_limits.specs.Ranks.{rank_among, paths_of, ranks_of}
use Rattle.run_limits.specs.Paths.{sum_at, path_in}
use Rattle.run_limits.proofs.Users.{users-under}
use Rattle.run_limits.proofs.UsersRanks.{length-users, users-low, users-apart, ranks-at, paths_of-is, ranks_of-is, IfOk-both}
use Rattle.run_limits.proofs.fair_tree.ranks.Goals as goal

pub usage_sums-requires-clause-len : goal.usage_sums-requires-clause-len
usage_sums-requires-clause-len c =
    omega (arith, c.requires.users, length-users c.args.tree.now, ap length c.in_ok-users.ensures, ap length c.deref.ensures.value)

pub user_paths-requires-clause-users : goal.user_paths-requires-clause-users
user_paths-requires-clause-users c =
    rw (c.deref-2.ensures.value, c.in_ok-users.ensures) (users-under c.args.tree.now)

pub user_paths-requires-clause-few : goal.user_paths-requires-clause-few
user_paths-requires-clause-few c =
    omega (arith, c.requires.users, c.requires.few, length-users c.args.tree.now, ap length c.in_ok-users.ensures, ap length c.deref-2.ensures.value)

pub ranks-requires-clause-small : goal.ranks-requires-clause-small
ranks-requires-clause-small c =
    omega (
      arith,
      c.requires.users,
      c.requires.few,
      length-users c.args.tree.now,
      ap length c.in_ok-users.ensures,
      ap length c.deref-2.ensures.value,
      c.in_ok-paths.ensures.len,
      c.in_ok-paths.paths.spans.ok.0,
      c.sort.new.paths.spans.ok.0,
      length_permutation _ _ c.sort.ensures.users,
    )

pub ranks-requires-clause-users : goal.ranks-requires-clause-users
ranks-requires-clause-users c =
    let numbered = c.in_ok-paths.ensures.users ∙ ap (range_with_len 0) (sym c.in_ok-paths.ensures.len ∙ c.in_ok-paths.paths.spans.ok.0) in
    rw c.sort.new.paths.spans.ok.0 (users-low _ _ numbered c.sort.ensures.users)

pub ranks-requires-clause-apart : goal.ranks-requires-clause-apart
ranks-requires-clause-apart c =
    let numbered = c.in_ok-paths.ensures.users ∙ ap (range_with_len 0) (sym c.in_ok-paths.ensures.len ∙ c.in_ok-paths.paths.spans.ok.0) in
    users-apart _ _ numbered c.sort.ensures.users

pub returns : goal.returns
returns c =
    let nodes = c.args.tree.now in
    let usage = c.args.usage.now in
    let levels = c.in_ok-paths.paths.levels.items in
    let spans = c.in_ok-paths.paths.spans.items in
    let sorted = c.sort.new.paths.spans in
    let numbered = c.in_ok-paths.ensures.users ∙ ap (range_with_len 0) (sym c.in_ok-paths.ensures.len ∙ c.in_ok-paths.paths.spans.ok.0) in
    let paths = c.in_ok-paths.ensures.paths
    ∙ ap (map (λ place. path_of (sum_at c.in_ok-used.used) (sum_at c.in_ok-shares.shares) nodes (Some place))) (c.deref-2.ensures.value ∙ c.in_ok-users.ensures)
    ∙ paths_of-is nodes usage (sum_at c.in_ok-used.used) (sum_at c.in_ok-shares.shares) c.in_ok-used.ensures.sums c.in_ok-shares.ensures.sums in
    let each = rw c.sort.ensures.levels at c.ranks.ensures.ranks in
    IfOk-both c.ranks.result (λ (ranks : Vec ℕ Global). vec_len ranks ≡ vec_len sorted)
    (λ (ranks : Vec ℕ Global). All (λ (span : Span). get_or ranks.items span.user 0 ≡ rank_among (map (path_in levels) sorted.items) (path_in levels span)) sorted.items)
    (λ (ranks : Vec ℕ Global). ranks.items ≡ ranks_of nodes usage)
    (λ ranks len at. ranks-at spans sorted.items numbered c.sort.ensures.users levels (paths_of nodes usage) ranks.items paths (omega (arith, len, ranks.ok.0, sorted.ok.0)) at ∙ ranks_of-is nodes usage)
    c.ranks.ensures.len each
