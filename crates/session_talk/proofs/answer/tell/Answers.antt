use Rattle.std.proofs.Common.{sym, subst, refl, IfOk}
use Rattle.command_words.specs.declared.header.Meaning.{Meaning}
use Rattle.command_words.specs.declared.header.Meaning.TheVariants.{Malformed, UnknownCommand, BadWords, BadHeader}
use Rattle.slurm_print.specs.Malformed.{malformed_text, unknown_command_text, bad_words_text, bad_header_text}
use Rattle.session_talk.specs.Answered.{IsAnswer}
use Rattle.session_talk.proofs.Answering.{unasked_answer}
use Rattle.session_talk.proofs.answer.tell.Goals as goal

pub returns-in-Malformed : goal.returns-in-Malformed
returns-in-Malformed c =
    let told = λ (m : Meaning). IfOk c.unasked.result (λ told. IsAnswer m c.args.desk.now c.args.desk.now told) in
    subst told (sym c.in-Malformed.is)
    (unasked_answer c.unasked.result c.malformed.result c.args.desk.now
    (Malformed c.in-Malformed.command c.in-Malformed.fault)
    (malformed_text c.in-Malformed.command c.in-Malformed.fault)
    (record { tells = λ s. refl; status = λ s. refl; stays = λ s. refl })
    c.malformed.ensures c.unasked.ensures)

pub returns-in-UnknownCommand : goal.returns-in-UnknownCommand
returns-in-UnknownCommand c =
    let told = λ (m : Meaning). IfOk c.unasked-in-UnknownCommand.result (λ told. IsAnswer m c.args.desk.now c.args.desk.now told) in
    subst told (sym c.in-UnknownCommand.is)
    (unasked_answer c.unasked-in-UnknownCommand.result c.copied.result c.args.desk.now UnknownCommand unknown_command_text
    (record { tells = λ s. refl; status = λ s. refl; stays = λ s. refl })
    (rw c.unknown_command.ensures at c.copied.ensures) c.unasked-in-UnknownCommand.ensures)

pub returns-in-BadWords : goal.returns-in-BadWords
returns-in-BadWords c =
    let told = λ (m : Meaning). IfOk c.unasked-in-BadWords.result (λ told. IsAnswer m c.args.desk.now c.args.desk.now told) in
    subst told (sym c.in-BadWords.is)
    (unasked_answer c.unasked-in-BadWords.result c.bad_words.result c.args.desk.now (BadWords c.in-BadWords.place)
    (bad_words_text c.in-BadWords.place)
    (record { tells = λ s. refl; status = λ s. refl; stays = λ s. refl })
    c.bad_words.ensures c.unasked-in-BadWords.ensures)

pub returns-in-BadHeader : goal.returns-in-BadHeader
returns-in-BadHeader c =
    let told = λ (m : Meaning). IfOk c.unasked-in-BadHeader.result (λ told. IsAnswer m c.args.desk.now c.args.desk.now told) in
    subst told (sym c.in-BadHeader.is)
    (unasked_answer c.unasked-in-BadHeader.result c.copied-in-BadHeader.result c.args.desk.now BadHeader bad_header_text
    (record { tells = λ s. refl; status = λ s. refl; stays = λ s. refl })
    (rw c.bad_header.ensures at c.copied-in-BadHeader.ensures) c.unasked-in-BadHeader.ensures)
