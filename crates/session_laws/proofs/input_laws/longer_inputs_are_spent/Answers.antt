use Rattle.block_frame.specs.declared.form.Form.TheVariants.{Plain}
use Rattle.session_laws.proofs.ScriptEnds.{only_spent, spent}
use Rattle.session_laws.proofs.input_laws.longer_inputs_are_spent.Goals as goal

pub returns-clause-there : goal.returns-clause-there
returns-clause-there c = spent (record {
  cut = c.texts_are_cut.ensures Plain;
  first = c.blocks_go_first.ensures Plain;
  once = c.blocks_are_cut_once.ensures Plain;
  apart = c.kinds_are_apart.ensures.bad Plain;
  stays = c.bad_texts_stay.ensures Plain;
  empty = c.nothing_is_partial.ensures Plain;
})

pub returns-clause-only : goal.returns-clause-only
returns-clause-only c = only_spent (record {
  cut = c.texts_are_cut.ensures Plain;
  first = c.blocks_go_first.ensures Plain;
  once = c.blocks_are_cut_once.ensures Plain;
  apart = c.kinds_are_apart.ensures.bad Plain;
  stays = c.bad_texts_stay.ensures Plain;
  empty = c.nothing_is_partial.ensures Plain;
})
