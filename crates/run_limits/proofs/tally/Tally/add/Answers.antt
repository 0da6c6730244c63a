use Rattle.run_limits.proofs.Telling.{told_more, shows_more}
use Rattle.run_limits.proofs.tally.Tally.add.Goals as goal

pub returns : goal.returns
returns c = λ jobs shows.
    shows_more c.args.assocs.now.records c.args.self.now _ c.args.job.now jobs
    (told_more c.args.assocs.now.records c.args.self.now _ c.args.job.now
    (c.numbers_tell_users_apart.ensures c.args.assocs.now.records)
    c.in_ok-count_array.ensures
    (rw (c.as_slice.ensures.value, c.above.ensures.value) at c.in_ok-count_above.ensures)
    c.in_ok-count.ensures
    (rw c.user_number.ensures.value at c.in_ok-count_user.ensures))
    shows
