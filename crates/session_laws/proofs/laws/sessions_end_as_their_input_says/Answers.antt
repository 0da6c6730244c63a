use Rattle.session_laws.proofs.Ends.{all, only, there}
use Rattle.session_laws.proofs.laws.sessions_end_as_their_input_says.Goals as goal

pub returns-clause-there : goal.returns-clause-there
returns-clause-there c = λ form. there form (record {
  cut = c.texts_are_cut.ensures form;
  first = c.blocks_go_first.ensures form;
  once = c.blocks_are_cut_once.ensures form;
  apart = c.kinds_are_apart.ensures.bad form;
  stays = c.bad_texts_stay.ensures form;
  empty = c.nothing_is_partial.ensures form;
})

pub returns-clause-only : goal.returns-clause-only
returns-clause-only c = λ form. only form (record {
  cut = c.texts_are_cut.ensures form;
  first = c.blocks_go_first.ensures form;
  once = c.blocks_are_cut_once.ensures form;
  apart = c.kinds_are_apart.ensures.bad form;
  stays = c.bad_texts_stay.ensures form;
  empty = c.nothing_is_partial.ensures form;
})

pub returns-clause-all : goal.returns-clause-all
returns-clause-all c = λ form. all form (record {
  cut = c.texts_are_cut.ensures form;
  first = c.blocks_go_first.ensures form;
  once = c.blocks_are_cut_once.ensures form;
  apart = c.kinds_are_apart.ensures.bad form;
  stays = c.bad_texts_stay.ensures form;
  empty = c.nothing_is_partial.ensures form;
})
