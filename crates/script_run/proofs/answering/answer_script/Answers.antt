use Rattle.block_frame.specs.declared.form.Form.TheVariants.{Plain}
use Rattle.script_run.proofs.Blocks.{Laws}
use Rattle.script_run.proofs.Entering.{answered_at_seat}
use Rattle.script_run.proofs.answering.answer_script.Goals as goal

pub returns : goal.returns
returns g c =
    let laws : Laws = record {
      first = c.blocks_go_first.ensures Plain;
      once = c.blocks_are_cut_once.ensures Plain;
      joins = c.spellings_join.ensures Plain;
      empty = c.nothing_is_partial.ensures Plain;
    } in
    answered_at_seat c.args.desk.now.opening _ _ _ _ _ _ _ c.raised_moments_decide_alike.ensures.state c.passes_are_free.ensures laws c.requires.fresh
    c.serve_link-ended.ensures
