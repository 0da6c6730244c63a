use Rattle.std.proofs.Common.{◌≡◌, ℕ, ◌-◌, ◌*◌, ◌^◌, ◌≤◌, ◌<◌, length, slice_index, sum, All, vec_len, vec_capacity}
use Rattle.backfill_planner.specs.Sweeps.{GivesUntil}
use Rattle.backfill_planner.proofs.sweep.Sweep.new.Given as goal

-- what the nodes so far can give, and room for the others
abbrev pub invariant-loop-node : goal.invariant-loop-node
invariant-loop-node l = record {
  long : length l.caps.items ≡ l.node-index;
  until_long : length l.untils.items ≡ l.node-index;
  each : (i : ℕ) → i < l.node-index → GivesUntil l.rooms l.profile.holds l.job l.second (slice_index l.nodes i) (slice_index l.caps.items i) (slice_index l.untils.items i);
  small : All (λ tasks. tasks * l.job.cpus_per_task < 2 ^ 32) l.caps.items;
  total : l.total ≡ sum l.caps.items;
  later : l.second < l.least;
  least : (i : ℕ) → i < l.node-index → l.least ≤ slice_index l.untils.items i;
  bound : l.total ≤ l.node-index * (2 ^ 32 - 1);
  few : length l.nodes < 2 ^ 32;
  caps_count : vec_len l.caps ≡ l.node-index;
  untils_count : vec_len l.untils ≡ l.node-index;
  caps_room : length l.nodes ≤ vec_capacity l.caps;
  untils_room : length l.nodes ≤ vec_capacity l.untils;
}
