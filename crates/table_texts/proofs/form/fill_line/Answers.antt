use Rattle.std.proofs.Common.{◌∙◌, ◌++◌, append-nil, ap, drop, flat_map, refl}
use Rattle.std.proofs.lemmas.List.{drop_all, take_all}
use Rattle.table_texts.specs.Squeue.{blank, piece_text, told}
use Rattle.table_texts.proofs.Filled.{blank-there, filled-more}
use Rattle.table_texts.proofs.form.fill_line.Goals as goal

pub loop-piece-init : goal.loop-piece-init
loop-piece-init c = record { text = c.requires.blank; place = refl }

pub loop-piece-preserved : goal.loop-piece-preserved
loop-piece-preserved c =
    let count = c.loop-piece.piece-index in
    let piece = c.piece-item.result in
    let fixed = rw (← c.piece-item.is) at (c.requires.fixed count piece c.loop-piece-test.true) in
    filled-more (told c.args.row.now) c.args.pieces.now count c.loop-piece.line c.loop-piece.at piece _ _
    c.loop-piece-test.true c.piece-item.is fixed c.loop-piece.invariant c.in_ok-at.ensures.end
    c.in_ok-at.ensures.line

pub fill_piece-requires-clause-fixed : goal.fill_piece-requires-clause-fixed
fill_piece-requires-clause-fixed c =
    rw (← c.piece-item.is) at (c.requires.fixed c.loop-piece.piece-index c.piece-item.result c.loop-piece-test.true)

pub fill_piece-requires-clause-within : goal.fill_piece-requires-clause-within
fill_piece-requires-clause-within c =
    (blank-there (told c.args.row.now) c.args.pieces.now c.loop-piece.piece-index c.loop-piece.line c.loop-piece.at
    c.piece-item.result c.loop-piece-test.true c.piece-item.is c.loop-piece.invariant).0

pub fill_piece-requires-clause-blank : goal.fill_piece-requires-clause-blank
fill_piece-requires-clause-blank c =
    (blank-there (told c.args.row.now) c.args.pieces.now c.loop-piece.piece-index c.loop-piece.line c.loop-piece.at
    c.piece-item.result c.loop-piece-test.true c.piece-item.is c.loop-piece.invariant).1

pub returns : goal.returns
returns c =
    let pieces = c.args.pieces.now in
    let filled = flat_map (piece_text (told c.args.row.now)) pieces in
    c.loop-piece.invariant.text
    ∙ ap (λ some. flat_map (piece_text (told c.args.row.now)) some ++ flat_map blank (drop c.loop-piece.piece-index pieces))
    (take_all c.loop-piece.piece-index pieces c.loop-piece-test.false)
    ∙ ap (λ some. filled ++ flat_map blank some) (drop_all c.loop-piece.piece-index pieces c.loop-piece-test.false)
    ∙ append-nil filled
