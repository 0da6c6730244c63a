use Rattle.std.proofs.Common.{map}
use Rattle.simulation.proofs.Desks.{all_go_further}
use Rattle.simulation.proofs.Rounds.{round_made}
use Rattle.simulation.proofs.round.make_round.Goals as goal

pub returns-in_err-make_pass-clause-go_on : goal.returns-in_err-make_pass-clause-go_on
returns-in_err-make_pass-clause-go_on g c =
    all_go_further _ _ _ c.in_ok-turn_all.ensures.go_on c.in_err-make_pass.ensures.go_on

pub returns-in_err-look-clause-go_on : goal.returns-in_err-look-clause-go_on
returns-in_err-look-clause-go_on g c =
    all_go_further _ _ _ (all_go_further _ _ _ c.in_ok-turn_all.ensures.go_on c.in_ok-make_pass.ensures.go_on)
    c.in_err-look.ensures.go_on

pub returns-clause-go_on : goal.returns-clause-go_on
returns-clause-go_on g c =
    all_go_further _ _ _ (all_go_further _ _ _ c.in_ok-turn_all.ensures.go_on c.in_ok-make_pass.ensures.go_on)
    c.in_ok-look.ensures.go_on

pub returns-clause-alone : goal.returns-clause-alone
returns-clause-alone g c =
    round_made c.saturating_add-now.result c.args.daemons.now c.turn_all.new.daemons c.args.tally.now
    c.make_pass.new.tally c.look.new.tally c.saturating_add-now.ensures
    (map g.D.Desk.sight c.args.desks.now) (map g.D.Desk.sight c.turn_all.new.desks)
    (map g.D.Desk.sight c.make_pass.new.desks) (map g.D.Desk.sight c.look.new.desks)
    c.in_ok-turn_all.ensures.go_on c.in_ok-make_pass.ensures.go_on c.in_ok-look.ensures.go_on
    c.in_ok-turn_all.ensures.alone c.in_ok-make_pass.ensures.alone c.in_ok-look.ensures.alone
