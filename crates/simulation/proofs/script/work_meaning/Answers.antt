use Rattle.std.proofs.lemmas.Result.{on_ok_weaker}
use Rattle.simulation.proofs.Desks.{all_stay, alone_so, alone_stays}
use Rattle.simulation.proofs.Working.{IsWork, IsWorkedMeaning, idle_block, idle_moment, meaning_worked}
use Rattle.simulation.proofs.script.work_meaning.Goals as goal

pub returns-in-Asks-clause-alone : goal.returns-in-Asks-clause-alone
returns-in-Asks-clause-alone g c =
    on_ok_weaker c.work.result
    (λ worked. alone_so (IsWork c.in-Asks.asked c.args.tally.now c.work.new.tally)
    (IsWorkedMeaning c.args.meaning c.args.tally.now c.work.new.tally) _ _ worked
    (meaning_worked c.args.meaning c.in-Asks.asked c.args.tally.now c.work.new.tally c.in-Asks.is))
    c.work.ensures.alone

pub returns-in_default : goal.returns-in_default
returns-in_default g c =
    record {
      go_on = all_stay _;
      moment = idle_moment c.args.meaning c.in_default.not-Asks c.args.tally.now;
      alone = alone_stays (IsWorkedMeaning c.args.meaning c.args.tally.now c.args.tally.now) _
          (idle_block c.args.meaning c.in_default.not-Asks c.args.tally.now);
    }
