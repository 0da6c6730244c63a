use Rattle.std.proofs.Common.{◌≡◌, ◌∙◌, ◌++◌, ap}
use Rattle.block_frame.specs.State.{BlocksState}
use Rattle.simulation.specs.Run.{last_moment}
use Rattle.simulation.proofs.Desks.{all_go_further, all_stay, alone_further, alone_so, alone_stays}
use Rattle.simulation.proofs.Working.{IsAnsweredBlock, IsScriptWorked, Laws, LeadsOn, hands_out, moment_last, moment_on, none_there, none_yet, worked_all, worked_one, script_begins}
use Rattle.simulation.proofs.script.work_script.Goals as goal

pub returns-in-Ok-NotYet : goal.returns-in-Ok-NotYet
returns-in-Ok-NotYet g c =
    let laws : Laws = record { first = c.blocks_go_first.ensures; once = c.blocks_are_cut_once.ensures } in
    let here = c.loop-block.invariant in
    let none = none_yet laws c.loop-block.blocks c.next_block.new.self here.form
    (rw c.in-Ok-NotYet.field-0-is at c.in-Ok-NotYet.ensures.ok) in
    record {
      go_on = here.go_on;
      moment = moment_last c.args.tally.now.moment c.loop-block.tally.moment c.loop-block.blocks.pending
          c.args.script.now none here.moment;
      alone = alone_so
          (LeadsOn c.args.tally.now c.args.script.now c.loop-block.tally c.loop-block.blocks.pending)
          (IsScriptWorked c.args.tally.now c.args.script.now c.loop-block.tally) _ _ here.alone
          (λ s t leads. worked_all _ _ _ _ none leads);
    }

pub returns-in-Ok-Bad : goal.returns-in-Ok-Bad
returns-in-Ok-Bad g c =
    let laws : Laws = record { first = c.blocks_go_first.ensures; once = c.blocks_are_cut_once.ensures } in
    let here = c.loop-block.invariant in
    let none = none_there laws c.loop-block.blocks c.next_block.new.self c.in-Ok-Bad.field-0-0 here.form
    (rw c.in-Ok-Bad.field-0-is at c.in-Ok-Bad.ensures.ok) in
    record {
      go_on = here.go_on;
      moment = moment_last c.args.tally.now.moment c.loop-block.tally.moment c.loop-block.blocks.pending
          c.args.script.now none here.moment;
      alone = alone_so
          (LeadsOn c.args.tally.now c.args.script.now c.loop-block.tally c.loop-block.blocks.pending)
          (IsScriptWorked c.args.tally.now c.args.script.now c.loop-block.tally) _ _ here.alone
          (λ s t leads. worked_all _ _ _ _ none leads);
    }

pub loop-block-preserved-in_default : goal.loop-block-preserved-in_default
loop-block-preserved-in_default g c =
    let laws : Laws = record { first = c.blocks_go_first.ensures; once = c.blocks_are_cut_once.ensures } in
    let here = c.loop-block.invariant in
    let out = hands_out laws c.loop-block.blocks c.next_block.new.self c.in-Ok-Whole.block here.form
    (rw c.in-Ok-Whole.field-0-is at c.in-Ok-Whole.ensures.ok) in
    record {
      form = out.form;
      go_on = all_go_further _ _ _ here.go_on c.in_default.ensures.go_on;
      moment = moment_on c.args.tally.now.moment c.loop-block.tally.moment c.answer.new.tally.moment
          c.loop-block.blocks.pending c.next_block.new.self.pending c.args.script.now c.in-Ok-Whole.block
          c.in_default.ensures.moment out.blocks here.moment;
      alone = alone_further
          (LeadsOn c.args.tally.now c.args.script.now c.loop-block.tally c.loop-block.blocks.pending)
          (IsAnsweredBlock c.in-Ok-Whole.block c.loop-block.tally c.answer.new.tally)
          (LeadsOn c.args.tally.now c.args.script.now c.answer.new.tally c.next_block.new.self.pending) _ _ _
          here.go_on c.in_default.ensures.go_on here.alone c.in_default.ensures.alone
          (λ s t u before is. worked_one _ _ _ _ _ c.in-Ok-Whole.block is out.blocks before);
    }

pub loop-block-preserved : goal.loop-block-preserved
loop-block-preserved g c =
    let laws : Laws = record { first = c.blocks_go_first.ensures; once = c.blocks_are_cut_once.ensures } in
    let here = c.loop-block.invariant in
    let out = hands_out laws c.loop-block.blocks c.next_block.new.self c.in-Ok-Whole.block here.form
    (rw c.in-Ok-Whole.field-0-is at c.in-Ok-Whole.ensures.ok) in
    record {
      form = out.form;
      go_on = all_go_further _ _ _ here.go_on c.in_default.ensures.go_on;
      moment = moment_on c.args.tally.now.moment c.loop-block.tally.moment c.answer.new.tally.moment
          c.loop-block.blocks.pending c.next_block.new.self.pending c.args.script.now c.in-Ok-Whole.block
          c.in_default.ensures.moment out.blocks here.moment;
      alone = alone_further
          (LeadsOn c.args.tally.now c.args.script.now c.loop-block.tally c.loop-block.blocks.pending)
          (IsAnsweredBlock c.in-Ok-Whole.block c.loop-block.tally c.answer.new.tally)
          (LeadsOn c.args.tally.now c.args.script.now c.answer.new.tally c.next_block.new.self.pending) _ _ _
          here.go_on c.in_default.ensures.go_on here.alone c.in_default.ensures.alone
          (λ s t u before is. worked_one _ _ _ _ _ c.in-Ok-Whole.block is out.blocks before);
    }

pub returns-in_err-blocks-clause-go_on : goal.returns-in_err-blocks-clause-go_on
returns-in_err-blocks-clause-go_on g c = all_stay _

pub returns-in_err-feed-clause-go_on : goal.returns-in_err-feed-clause-go_on
returns-in_err-feed-clause-go_on g c = all_stay _

pub returns-in-Err-answer-clause-go_on : goal.returns-in-Err-answer-clause-go_on
returns-in-Err-answer-clause-go_on g c =
    all_go_further _ _ _ c.loop-block.invariant.go_on c.in-Err-answer.ensures.go_on

pub loop-block-init : goal.loop-block-init
loop-block-init g c =
    let script = c.args.script.now in
    let pending : c.feed.new.self.pending ≡ script =
    ap (λ (b : BlocksState). b.pending) c.in_ok-feed.ensures.ok
    ∙ ap (λ (b : BlocksState). b.pending ++ script) c.in_ok-blocks.ensures in
    record {
      form = ap (λ (b : BlocksState). b.form) c.in_ok-feed.ensures.ok
          ∙ ap (λ (b : BlocksState). b.form) c.in_ok-blocks.ensures;
      go_on = all_stay _;
      moment = ap (last_moment c.args.tally.now.moment) pending;
      alone = alone_stays (LeadsOn c.args.tally.now script c.args.tally.now c.feed.new.self.pending) _
          (script_begins c.args.tally.now script c.feed.new.self.pending pending);
    }
