use Rattle.std.proofs.lemmas.Bool.{both_ways}
use Rattle.ctl_restore.proofs.Fitting.{on-ok}
use Rattle.ctl_restore.proofs.restoring.fill.Goals as goal

pub is_meant-requires : goal.is_meant-requires
is_meant-requires c = rw c.records.ensures.value at c.in_ok-users.ensures

pub usage_of-requires : goal.usage_of-requires
usage_of-requires c = rw c.records.ensures.value at c.in_ok-users.ensures

pub find_parts-requires-clause-users : goal.find_parts-requires-clause-users
find_parts-requires-clause-users c = rw c.records.ensures.value at c.in_ok-users.ensures

pub find_parts-requires-clause-arrays : goal.find_parts-requires-clause-arrays
find_parts-requires-clause-arrays c = λ k d below.
    ((c.is_meant.ensures.0 c.if-not-is_meant.false).0.arrays.each k d below).list

pub returns-then-not-is_meant-clause-unfit : goal.returns-then-not-is_meant-clause-unfit
returns-then-not-is_meant-clause-unfit c = λ unfit parts sound.
    both_ways c.is_meant.result c.if-not-is_meant.true (c.is_meant.ensures.1 (parts.plain, parts.known))

pub returns-clause-parts : goal.returns-clause-parts
returns-clause-parts c =
    let meant = c.is_meant.ensures.0 c.if-not-is_meant.false in
    on-ok c.put.result _ _ c.put.ensures.once
    (λ once. record {
      plain = meant.0;
      known = meant.1;
      told = c.in_ok-usage.ensures.told;
      reserved = c.in_ok-reservations.ensures.stand;
      once = once;
    })

pub returns-clause-unfit : goal.returns-clause-unfit
returns-clause-unfit c = λ unfit parts sound. c.put.ensures.unfit unfit parts.once sound
