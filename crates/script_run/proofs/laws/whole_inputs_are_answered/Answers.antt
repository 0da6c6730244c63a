use Rattle.block_frame.specs.declared.form.Form.TheVariants.{Plain}
use Rattle.script_run.proofs.Wholeness.{whole}
use Rattle.script_run.proofs.laws.whole_inputs_are_answered.Goals as goal

pub returns : goal.returns
returns c = whole (record {
  cut = c.texts_are_cut.ensures Plain;
  first = c.blocks_go_first.ensures Plain;
  once = c.blocks_are_cut_once.ensures Plain;
  apart = c.kinds_are_apart.ensures.bad Plain;
  stays = c.bad_texts_stay.ensures Plain;
  empty = c.nothing_is_partial.ensures Plain;
})
