use Rattle.state_save.specs.Meanings.{list_in}
use Rattle.state_save.proofs.ListWords.{list_sound, ok_fits}
use Rattle.std.specs.Prelude.{All}
use Rattle.state_save.proofs.line_fields.read_list_field.Goals as goal

pub returns-clause-fit : goal.returns-clause-fit
returns-clause-fit g c =
    ok_fits (All g.T.Word.fits) (list_in g.T.Word.meaning c.args.mark) c.in-Some.text.now c.read_list.result
    (list_sound g.T.Word.fits g.T.Word.meaning c.tell_fits.ensures c.args.mark) c.read_list.ensures.value
