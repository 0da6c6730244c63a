use Rattle.std.proofs.Common.{◌≡◌, ◌∙◌, false, sym, arith, rules}
use Rattle.std.specs.Prelude.{nat_lt, option_copied}
use Rattle.std.proofs.lemmas.Bool.{le-ltb}
use Rattle.ctl_state.specs.State.{state_of, last_moment}
use Rattle.ctl_core.specs.Sizes.{has_room, size_of}
use Rattle.ctl_core.specs.Step.{is_closed, nearest, raised}
use Rattle.ctl_core.proofs.Keeping.{counted-worked, kept-as}
use Rattle.ctl_core.proofs.Sized.{same-size}
use Rattle.ctl_core.proofs.Stamping.{size-asked, size-fits, state-worked}
use Rattle.ctl_core.proofs.answering.answer.Goals as goal

pub stamp-requires-2-clause-room : goal.stamp-requires-2-clause-room
stamp-requires-2-clause-room g c =
    let s = state_of c.args.cluster.now in
    let same = same-size s (state_of c.work.new.cluster) c.max-moment.result c.args.user.now c.args.request.now
    c.in_ok-answered.answered c.in_ok-answered.ensures.ok in
    let fits = size-fits c.room_for-size.result c.room_for-size.ensures.fits in
    let sum = c.requires.sound.size in
    omega (arith, same, fits, sum, c.unwrap_or.ensures)

pub returns-clause-after : goal.returns-clause-after
returns-clause-after g c =
    let s = state_of c.args.cluster.now in
    let request = c.args.request.now in
    let early : nat_lt last_moment c.args.now ≡ false = le-ltb last_moment c.args.now (omega arith) in
    let accepts : is_closed s request ≡ false = sym c.is_closed.ensures ∙ c.if-is_closed.false in
    let moment : c.max-moment.result ≡ raised s c.args.now = search rules in
    state-worked s (state_of c.work.new.cluster) (state_of c.stamp-2.new.cluster) c.args.now c.unwrap_or.result
    c.args.user.now request c.in_ok-answered.answered early accepts
    (rw moment at c.in_ok-answered.ensures.ok)
    (λ has. c.unwrap_or.ensures
    ∙ size-asked c.room_for-size.result (has_room s request) (size_of request) c.room_for-size.ensures.room
    c.room_for-size.ensures.value has)
    (rw moment at c.stamp-2.ensures.after)

pub returns-in_err-answered-clause-counted : goal.returns-in_err-answered-clause-counted
returns-in_err-answered-clause-counted g c =
    let s = state_of c.args.cluster.now in
    let request = c.args.request.now in
    let early : nat_lt last_moment c.args.now ≡ false = le-ltb last_moment c.args.now (omega arith) in
    let accepts : is_closed s request ≡ false = sym c.is_closed.ensures ∙ c.if-is_closed.false in
    let moment : c.max-moment.result ≡ raised s c.args.now = search rules in
    counted-worked request s c.args.now c.args.user.now (nearest (option_copied c.args.hint) c.args.kept.now)
    c.args.kept.now c.work.new.kept c.args.steps.now c.work.new.steps _ early accepts
    (rw moment at c.in_err-answered.ensures.planned)

pub returns-clause-kept : goal.returns-clause-kept
returns-clause-kept g c =
    let s = state_of c.args.cluster.now in
    let request = c.args.request.now in
    let early : nat_lt last_moment c.args.now ≡ false = le-ltb last_moment c.args.now (omega arith) in
    let accepts : is_closed s request ≡ false = sym c.is_closed.ensures ∙ c.if-is_closed.false in
    let moment : c.max-moment.result ≡ raised s c.args.now = search rules in
    kept-as _ request s (state_of c.work.new.cluster) c.args.now c.args.user.now
    (nearest (option_copied c.args.hint) c.args.kept.now) c.args.kept.now c.work.new.kept c.args.steps.now
    c.work.new.steps c.in_ok-answered.answered early accepts (rw moment at c.in_ok-answered.ensures.ok)
    (rw moment at c.in_ok-answered.ensures.planned)

pub returns-clause-counted : goal.returns-clause-counted
returns-clause-counted g c =
    let s = state_of c.args.cluster.now in
    let request = c.args.request.now in
    let early : nat_lt last_moment c.args.now ≡ false = le-ltb last_moment c.args.now (omega arith) in
    let accepts : is_closed s request ≡ false = sym c.is_closed.ensures ∙ c.if-is_closed.false in
    let moment : c.max-moment.result ≡ raised s c.args.now = search rules in
    counted-worked request s c.args.now c.args.user.now (nearest (option_copied c.args.hint) c.args.kept.now)
    c.args.kept.now c.work.new.kept c.args.steps.now c.work.new.steps _ early accepts
    (rw moment at c.in_ok-answered.ensures.planned)
