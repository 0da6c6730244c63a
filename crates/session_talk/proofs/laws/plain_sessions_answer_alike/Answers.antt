use Rattle.block_frame.specs.declared.form.Form.TheVariants.{Plain}
use Rattle.session_talk.proofs.PlainSessions.{plain_session}
use Rattle.session_talk.proofs.laws.plain_sessions_answer_alike.Goals as goal

pub returns : goal.returns
returns c = plain_session c.blocks_of_calls_are_plain.ensures (c.blocks_are_cut_once.ensures Plain) (c.nothing_is_partial.ensures Plain)
