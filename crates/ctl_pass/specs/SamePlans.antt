-- Whether two plans are the same.
use Rattle.std.specs.Prelude.{Bool, ◌&&◌, nat_eq, List}
use Rattle.std.specs.Cmp.Lexicographic.{pointwise}
use Rattle.backfill_planner.specs.declared.Share.{Share}
use Rattle.backfill_planner.specs.declared.Placed.{Placed}

abbrev pub same_shares : Share → Share → Bool
same_shares one other =
    nat_eq one.node other.node && (nat_eq one.tasks other.tasks
    && (nat_eq one.cpus other.cpus && nat_eq one.mem other.mem))

abbrev pub same_placements : Placed → Placed → Bool
same_placements one other =
    nat_eq one.id other.id && (nat_eq one.start other.start && pointwise same_shares one.parts other.parts)

abbrev pub same_plans : List Placed → List Placed → Bool
same_plans one other = pointwise same_placements one other
