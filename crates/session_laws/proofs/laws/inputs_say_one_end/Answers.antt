use Rattle.session_laws.proofs.Inputs.{one, some}
use Rattle.session_laws.proofs.laws.inputs_say_one_end.Goals as goal

pub returns-clause-some : goal.returns-clause-some
returns-clause-some c = λ form. some form (record {
  cut = c.texts_are_cut.ensures form;
  first = c.blocks_go_first.ensures form;
  once = c.blocks_are_cut_once.ensures form;
  apart = c.kinds_are_apart.ensures.bad form;
  stays = c.bad_texts_stay.ensures form;
  empty = c.nothing_is_partial.ensures form;
})

pub returns-clause-one : goal.returns-clause-one
returns-clause-one c = λ form. one form (record {
  cut = c.texts_are_cut.ensures form;
  first = c.blocks_go_first.ensures form;
  once = c.blocks_are_cut_once.ensures form;
  apart = c.kinds_are_apart.ensures.bad form;
  stays = c.bad_texts_stay.ensures form;
  empty = c.nothing_is_partial.ensures form;
})
