use Rattle.std.proofs.Common.{◌≡◌, ◌∙◌, ℕ, subst}
use Rattle.std.specs.Prelude.{vec_len}
use Rattle.ctl_server.specs.Ends.{EndsServing}
use Rattle.ctl_server.specs.Parts.{AreLeft}
use Rattle.ctl_server.proofs.Seated.{if_ok, split_began, still_began, still_twice}
use Rattle.ctl_server.proofs.serving.serve_doors.Goals as goal

pub run_parts-worked-requires-clause-all : goal.run_parts-worked-requires-clause-all
run_parts-worked-requires-clause-all g c κs within = λ k d inside.
    let first = c.args.prepared.pass in
    let still = still_twice first c.split.new.pass c.split-2.new.pass c.split.ensures.still c.split-2.ensures.still in
    let began = c.requires.began in
    let ready = c.seat_all.ensures.ready began.0 (still_began began.0 first c.split-2.new.pass still began.1) k d inside in
    (ready.pass.own, ready.nobody)

pub close-requires-clause-all : goal.close-requires-clause-all
close-requires-clause-all g c = λ k d inside.
    let first = c.args.prepared.pass in
    let still = still_twice first c.split.new.pass c.split-2.new.pass c.split.ensures.still c.split-2.ensures.still in
    let began = c.requires.began in
    let ready = c.seat_all.ensures.ready began.0 (still_began began.0 first c.split-2.new.pass still began.1) in
    let left = if_ok c.run_parts-worked.result.0 c.in-Ok.worked (λ all. AreLeft c.args.prepared.lock g.H.Door.Door.out
    g.H.Door.Door.door_faults g.H.Door.Door.sessions g.C.Clock.moments g.C.Clock.course c.seat_all.new.seats.items
    all.items) c.in-Ok.is c.run_parts-worked.ensures.left in
    (left began.0 (g.C.Clock.course c.args.clock.now) ready k d inside).own

pub returns-in-Ok-clause-end : goal.returns-in-Ok-clause-end
returns-in-Ok-clause-end g c = λ opening began.
    let first = c.args.prepared.pass in
    let course = g.C.Clock.course c.args.clock.now in
    let still = still_twice first c.split.new.pass c.split-2.new.pass c.split.ensures.still c.split-2.ensures.still in
    let last = still_twice first c.split-2.new.pass c.seat_all.new.pass still c.seat_all.ensures.still in
    let ready = c.seat_all.ensures.ready opening (still_began opening first c.split-2.new.pass still began) in
    let left = if_ok c.run_parts-worked.result.0 c.in-Ok.worked (λ all. AreLeft c.args.prepared.lock g.H.Door.Door.out
    g.H.Door.Door.door_faults g.H.Door.Door.sessions g.C.Clock.moments g.C.Clock.course c.seat_all.new.seats.items
    all.items) c.in-Ok.is c.run_parts-worked.ensures.left in
    let seats = if_ok c.run_parts-worked.result.0 c.in-Ok.worked (λ all. vec_len all ≡ vec_len c.seat_all.new.seats)
    c.in-Ok.is c.run_parts-worked.ensures.len in
    let shut = c.run_parts-worked.ensures.shut opening
    (split_began opening first c.split.result c.split.ensures.new began) in
    subst (λ (n : ℕ). EndsServing opening course n c.close.result (g.H.Host.closed c.close.new.host)
    (g.H.Host.hosting c.args.host.now).faults (g.H.Host.hosting c.close.new.host).faults) (seats ∙ c.seat_all.ensures.len)
    (c.close.ensures.end opening course (still_began opening first c.seat_all.new.pass last began) shut
    (left opening course ready))
