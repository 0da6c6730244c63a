use Rattle.slurmd_link.proofs.Ends.{dial_failed, done, off_words, read_failed, told_off, write_failed}
use Rattle.slurmd_link.proofs.running.slurmd_run.Goals as goal

pub returns-clause-ran : goal.returns-clause-ran
returns-clause-ran g c = (c.run_words-end.result, c.run_words-end.ensures, c.tell_end.ensures)

pub returns-clause-usage : goal.returns-clause-usage
returns-clause-usage g c = λ is.
    off_words _ _ _ c.run_words-end.result _ _ c.tell_end.result c.run_words-end.ensures c.tell_end.ensures is

pub returns-clause-off : goal.returns-clause-off
returns-clause-off g c = λ off.
    told_off _ _ _ c.run_words-end.result _ _ c.tell_end.result c.run_words-end.ensures c.tell_end.ensures off

pub returns-clause-done : goal.returns-clause-done
returns-clause-done g c = λ is.
    done _ _ _ c.run_words-end.result _ _ c.tell_end.result c.run_words-end.ensures c.tell_end.ensures is

pub returns-clause-read_fault : goal.returns-clause-read_fault
returns-clause-read_fault g c = λ is.
    read_failed _ _ _ c.run_words-end.result _ _ c.tell_end.result c.run_words-end.ensures c.tell_end.ensures is

pub returns-clause-write_fault : goal.returns-clause-write_fault
returns-clause-write_fault g c = λ is.
    write_failed _ _ _ c.run_words-end.result _ _ c.tell_end.result c.run_words-end.ensures c.tell_end.ensures is

pub returns-clause-door_fault : goal.returns-clause-door_fault
returns-clause-door_fault g c = λ is.
    dial_failed _ _ _ c.run_words-end.result _ _ c.tell_end.result c.run_words-end.ensures c.tell_end.ensures is
