use Rattle.std.proofs.Common.{length, sym, ap, ◌∙◌}
use Rattle.node_state.specs.Partitions.{IsOnNodes, place_meant}
use Rattle.ctl_state.specs.State.{state_of}
use Rattle.ctl_jobs.specs.declared.draft.Draft.{Draft}
use Rattle.ctl_jobs.proofs.Deciding.{All-at, decided-if}
use Rattle.ctl_jobs.proofs.submit.decide.Goals as goal

pub decide_in-requires-clause-there : goal.decide_in-requires-clause-there
decide_in-requires-clause-there c =
    All-at (IsOnNodes (length c.args.cluster.now.nodes.records)) c.args.cluster.now.partitions c.in-Some-find.place
    c.in-Some-at.partition.now c.requires.sound.partitions (sym c.in-Some-at.ensures)

pub returns : goal.returns
returns c =
    let draft : Draft = record {
      moment = c.args.moment;
      user = c.args.user;
      desc = c.args.desc;
      account = c.in_ok-account_name.field-0;
      assoc = c.in-Some.assoc;
      qos = c.in-Some-qos_for.qos;
      place = c.in-Some-find.place;
      partition = c.in-Some-at.partition;
    } in
    decided-if (state_of c.args.cluster.now) draft c.decide_in.result
    (record {
      assoc = sym c.in-Some.ensures;
      qos = sym c.in-Some-qos_for.ensures;
      place = ap (λ name. place_meant name c.args.cluster.now.partitions) (sym c.as_ref.ensures.value)
          ∙ sym c.in-Some-find.ensures.value;
      partition = sym c.in-Some-at.ensures;
      takes_jobs = sym c.is_closed.ensures ∙ c.if-is_closed.false;
      account = c.in_ok-account_name.ensures;
    })
    c.decide_in.ensures
