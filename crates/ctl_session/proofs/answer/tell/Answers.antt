use Rattle.std.proofs.Common.{sym, subst, refl, IfOk}
use Rattle.command_words.specs.declared.header.Meaning.{Meaning}
use Rattle.command_words.specs.declared.header.Meaning.TheVariants.{Malformed, UnknownCommand, BadWords, BadHeader}
use Rattle.slurm_print.specs.Malformed.{malformed_text, unknown_command_text, bad_words_text, bad_header_text}
use Rattle.ctl_session.specs.Turn.{Tells}
use Rattle.ctl_session.proofs.Working.{unasked}
use Rattle.ctl_session.proofs.answer.tell.Goals as goal

pub returns-in-Malformed-clause-ok : goal.returns-in-Malformed-clause-ok
returns-in-Malformed-clause-ok g c =
    let desk = g.D.Desk.sight c.args.desk.now in
    let told = λ (m : Meaning). IfOk c.unasked.result (λ told. Tells m desk desk told) in
    subst told (sym c.in-Malformed.is)
    (unasked c.unasked.result c.malformed.result desk (Malformed c.in-Malformed.command c.in-Malformed.fault)
    (malformed_text c.in-Malformed.command c.in-Malformed.fault)
    (record { tells = λ s. refl; status = λ s. refl; place = λ n. refl; makes = λ s n. refl })
    c.malformed.ensures c.unasked.ensures)

pub returns-in-UnknownCommand-clause-ok : goal.returns-in-UnknownCommand-clause-ok
returns-in-UnknownCommand-clause-ok g c =
    let desk = g.D.Desk.sight c.args.desk.now in
    let told = λ (m : Meaning). IfOk c.unasked-in-UnknownCommand.result (λ told. Tells m desk desk told) in
    subst told (sym c.in-UnknownCommand.is)
    (unasked c.unasked-in-UnknownCommand.result c.copied.result desk UnknownCommand unknown_command_text
    (record { tells = λ s. refl; status = λ s. refl; place = λ n. refl; makes = λ s n. refl })
    (rw c.unknown_command.ensures at c.copied.ensures) c.unasked-in-UnknownCommand.ensures)

pub returns-in-BadWords-clause-ok : goal.returns-in-BadWords-clause-ok
returns-in-BadWords-clause-ok g c =
    let desk = g.D.Desk.sight c.args.desk.now in
    let told = λ (m : Meaning). IfOk c.unasked-in-BadWords.result (λ told. Tells m desk desk told) in
    subst told (sym c.in-BadWords.is)
    (unasked c.unasked-in-BadWords.result c.bad_words.result desk (BadWords c.in-BadWords.place)
    (bad_words_text c.in-BadWords.place)
    (record { tells = λ s. refl; status = λ s. refl; place = λ n. refl; makes = λ s n. refl })
    c.bad_words.ensures c.unasked-in-BadWords.ensures)

pub returns-in-BadHeader-clause-ok : goal.returns-in-BadHeader-clause-ok
returns-in-BadHeader-clause-ok g c =
    let desk = g.D.Desk.sight c.args.desk.now in
    let told = λ (m : Meaning). IfOk c.unasked-in-BadHeader.result (λ told. Tells m desk desk told) in
    subst told (sym c.in-BadHeader.is)
    (unasked c.unasked-in-BadHeader.result c.copied-in-BadHeader.result desk BadHeader bad_header_text
    (record { tells = λ s. refl; status = λ s. refl; place = λ n. refl; makes = λ s n. refl })
    (rw c.bad_header.ensures at c.copied-in-BadHeader.ensures) c.unasked-in-BadHeader.ensures)
