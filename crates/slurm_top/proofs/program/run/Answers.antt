use Rattle.std.proofs.Common.{sym, ◌∙◌}
use Rattle.cluster_opening.specs.declared.refusal.BadFile.TheVariants as bad_file
use Rattle.cluster_opening.specs.declared.refusal.ClusterRefusal.TheVariants.{Bad}
use Rattle.slurm_top.proofs.Ends.{call_known, endless, off_so, only_off, simulates, told, written}
use Rattle.slurm_top.proofs.FileCauses.{door_fault, missing, refuses, served, shut, unfailed, unsaved, write_fault}
use Rattle.slurm_top.proofs.ScriptEnds.{broken, complete, only_broken, only_spent, spent}
use Rattle.slurm_top.proofs.program.run.Goals as goal

pub returns-clause-usage : goal.returns-clause-usage
returns-clause-usage g c = λ e.
    only_off _ _ _ _ _ _ c.run_words-end.result c.run_words-end.ensures (sym c.status.ensures ∙ e)

pub returns-clause-off : goal.returns-clause-off
returns-clause-off g c = λ isnt.
    rw c.status.ensures (off_so _ _ _ _ _ _ c.run_words-end.result c.run_words-end.ensures isnt)

pub returns-clause-missing : goal.returns-clause-missing
returns-clause-missing g c = λ finds.
    rw c.status.ensures (missing _ _ _ _ _ _ c.run_words-end.result c.run_words-end.ensures finds)

pub returns-clause-bad_conf : goal.returns-clause-bad_conf
returns-clause-bad_conf g c = λ line kind finds none.
    rw c.status.ensures (refuses c.files_open_one_cluster.ensures _ _ _ _ _ _ c.run_words-end.result
    (Bad (bad_file.Conf line kind)) c.run_words-end.ensures finds none)

pub returns-clause-bad_assocs : goal.returns-clause-bad_assocs
returns-clause-bad_assocs g c = λ line kind finds none.
    rw c.status.ensures (refuses c.files_open_one_cluster.ensures _ _ _ _ _ _ c.run_words-end.result
    (Bad (bad_file.Assocs line kind)) c.run_words-end.ensures finds none)

pub returns-clause-bad_state : goal.returns-clause-bad_state
returns-clause-bad_state g c = λ line finds none.
    rw c.status.ensures (refuses c.files_open_one_cluster.ensures _ _ _ _ _ _ c.run_words-end.result
    (Bad (bad_file.State line)) c.run_words-end.ensures finds none)

pub returns-clause-complete : goal.returns-clause-complete
returns-clause-complete g c = λ named sacct save opening asks opens whole none reads writes.
    rw c.status.ensures
    (complete c.whole_inputs_are_answered.ensures c.files_open_one_cluster.ensures _ _ _ _ _ _ c.run_words-end.result
    named sacct save opening c.run_words-end.ensures asks opens whole none reads writes)

pub returns-clause-broken : goal.returns-clause-broken
returns-clause-broken g c = λ named sacct save opening asks opens off none reads writes.
    rw c.status.ensures
    (broken c.broken_inputs_are_told.ensures.there c.files_open_one_cluster.ensures _ _ _ _ _ _ c.run_words-end.result
    named sacct save opening c.run_words-end.ensures asks opens off none reads writes)

pub returns-clause-only_broken : goal.returns-clause-only_broken
returns-clause-only_broken g c = λ named sacct save asks e.
    only_broken c.broken_inputs_are_told.ensures.only _ _ _ _ _ _ c.run_words-end.result named sacct save
    c.run_words-end.ensures asks (sym c.status.ensures ∙ e)

pub returns-clause-spent : goal.returns-clause-spent
returns-clause-spent g c = λ named sacct save opening asks opens long none reads writes.
    rw c.status.ensures
    (spent c.longer_inputs_are_spent.ensures.there c.files_open_one_cluster.ensures _ _ _ _ _ _ c.run_words-end.result
    named sacct save opening c.run_words-end.ensures asks opens long none reads writes)

pub returns-clause-only_spent : goal.returns-clause-only_spent
returns-clause-only_spent g c = λ named sacct save opening asks opens e.
    only_spent c.longer_inputs_are_spent.ensures.only c.files_open_one_cluster.ensures _ _ _ _ _ _ c.run_words-end.result
    named sacct save opening c.run_words-end.ensures asks opens (sym c.status.ensures ∙ e)

pub returns-clause-served : goal.returns-clause-served
returns-clause-served g c = λ named port workers save opening asks opens none writes hosts.
    rw c.status.ensures
    (served c.files_open_one_cluster.ensures _ _ _ _ _ _ c.run_words-end.result named port workers save opening
    c.run_words-end.ensures asks opens none writes hosts)

pub returns-clause-shut : goal.returns-clause-shut
returns-clause-shut g c = λ named port workers save asks e.
    shut _ _ _ _ _ _ c.run_words-end.result named port workers save c.run_words-end.ensures asks (sym c.status.ensures ∙ e)

pub returns-clause-unfailed : goal.returns-clause-unfailed
returns-clause-unfailed g c = λ named port workers save asks e.
    unfailed _ _ _ _ _ _ c.run_words-end.result named port workers save c.run_words-end.ensures asks
    (sym c.status.ensures ∙ e)

pub returns-clause-unsaved : goal.returns-clause-unsaved
returns-clause-unsaved g c = λ named port workers save asks e.
    unsaved _ _ _ _ _ _ c.run_words-end.result named port workers save c.run_words-end.ensures asks
    (sym c.status.ensures ∙ e)

pub returns-clause-write_fault : goal.returns-clause-write_fault
returns-clause-write_fault g c = λ named port workers save asks e.
    write_fault _ _ _ _ _ _ c.run_words-end.result named port workers save c.run_words-end.ensures asks
    (sym c.status.ensures ∙ e)

pub returns-clause-door_fault : goal.returns-clause-door_fault
returns-clause-door_fault g c = λ named port workers save asks e.
    door_fault _ _ _ _ _ _ c.run_words-end.result named port workers save c.run_words-end.ensures asks
    (sym c.status.ensures ∙ e)

pub returns-clause-generated : goal.returns-clause-generated
returns-clause-generated g c = λ number asks none.
    rw c.status.ensures (written _ _ _ _ _ _ c.run_words-end.result number c.run_words-end.ensures asks none)

pub returns-clause-simulated : goal.returns-clause-simulated
returns-clause-simulated g c = λ number sim asks is none.
    rw c.status.ensures (told _ _ _ _ _ _ c.run_words-end.result number sim c.run_words-end.ensures asks is none)

pub returns-clause-endless : goal.returns-clause-endless
returns-clause-endless g c = λ number asks is.
    rw c.status.ensures (endless _ _ _ _ _ _ c.run_words-end.result number c.run_words-end.ensures asks is)

pub returns-clause-simulates : goal.returns-clause-simulates
returns-clause-simulates g c = λ number asks none.
    rw c.status.ensures (simulates _ _ _ _ _ _ c.run_words-end.result number c.run_words-end.ensures asks none)

pub returns-clause-called : goal.returns-clause-called
returns-clause-called g c = λ call asks.
    rw c.status.ensures (call_known _ call _ _ _ _ _ c.run_words-end.result c.run_words-end.ensures asks)
