use Rattle.std.proofs.Common.{◌∙◌, ap, get_or}
use Rattle.sacct_book.specs.Running.{counted}
use Rattle.sacct_book.proofs.Named.{run-span}
use Rattle.sacct_book.proofs.naming.count_target.Goals as goal

pub returns-clause-each : goal.returns-clause-each
returns-clause-each c = λ at inside.
    c.count_first.ensures.each at inside
    ∙ ap (counted c.args.way (get_or c.args.held.now.items at 0))
    (run-span c.args.target.now c.args.before.now at c.span_of.result.now c.args.jobs.now.records c.span_of.ensures)
