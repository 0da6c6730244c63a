-- A row from what is found for each of its columns.
use Rattle.std.proofs.Common.{◌≡◌, ℕ, ◌-◌, List, Option, refl}
use Rattle.plain_data.specs.declared.dependency.DepSpec.{DepSpec}
use Rattle.request_data.specs.declared.state.Reason.{Reason}
use Rattle.reply_data.specs.declared.view.EndAt.{EndAt}
use Rattle.reply_data.specs.declared.view.JobRow.{JobRow}
use Rattle.reply_data.specs.declared.view.NamedPart.{NamedPart}
use Rattle.job_table.specs.declared.record.JobRecord.{JobRecord}
use Rattle.job_table.specs.declared.terms.Terms.{Terms}
use Rattle.ctl_state.specs.State.{State}
use Rattle.ctl_waiting.specs.Rank.{priority_of}
use Rattle.ctl_show.specs.Showing.{partition_name, elapsed_of, nodes_of, node_names, reason_shown, start_shown, cpus_of, end_shown, named_parts, row_of}

pub row-found : (s : State) (now : ℕ) (job : JobRecord) (terms : Terms) (name user account partition qos : List ℕ)
    (elapsed nodes : ℕ) (names : List (List ℕ)) (reason : Option Reason) (start : Option ℕ) (priority cpus : ℕ)
    (tasks : ℕ) (dependency : Option DepSpec) (restarts submit eligible : ℕ) (end : EndAt)
    (parts : List NamedPart)
    → terms ≡ job.terms → name ≡ terms.name → user ≡ job.user → account ≡ terms.account
    → partition ≡ partition_name s job → qos ≡ terms.qos → elapsed ≡ elapsed_of now job → nodes ≡ nodes_of job
    → names ≡ node_names s job
    → reason ≡ reason_shown s now job → start ≡ start_shown s job
    → priority ≡ priority_of s now job → cpus ≡ cpus_of job
    → tasks ≡ terms.tasks → dependency ≡ terms.dependency
    → restarts ≡ job.starts - 1 → submit ≡ job.submit → eligible ≡ job.eligible → end ≡ end_shown job
    → parts ≡ named_parts s.nodes job.parts
    → ◌≡◌ {A = JobRow}
    (record {
      id = job.id;
      array = job.array;
      index = job.index;
      name = name;
      user = user;
      account = account;
      partition = partition;
      qos = qos;
      state = job.state;
      elapsed = elapsed;
      nodes = nodes;
      node_names = names;
      reason = reason;
      start = start;
      priority = priority;
      limit = job.limit;
      cpus = cpus;
      tasks = tasks;
      nice = job.nice;
      dependency = dependency;
      requeue = terms.requeue;
      restarts = restarts;
      exit = job.exit;
      submit = submit;
      eligible = eligible;
      end = end;
      parts = parts;
    })
    (row_of s now job)
unfolding row_of
row-found s now job terms name user account partition qos elapsed nodes names reason start priority cpus tasks
    dependency restarts submit eligible end parts its n u a p q e c ns r st pr k t d ag su el en pa =
    rw (n, u, a, p, q, e, c, ns, r, st, pr, k, t, d, ag, su, el, en, pa, its) refl
