use Rattle.std.proofs.Common.{rules, ℕ, ◌≡◌, ◌≤◌, ◌+◌, ◌-◌, ◌∙◌, Some, ap, arith, length, sym}
use Rattle.std.specs.Prelude.{replicate}
use Rattle.std.proofs.lemmas.List.{length-replicate}
use Rattle.request_data.specs.declared.query.Piece.TheVariants.{Column}
use Rattle.table_texts.specs.Squeue.{told}
use Rattle.table_texts.proofs.Filled.{piece-blank, piece-put, piece-size}
use Rattle.table_texts.proofs.form.fill_piece.Goals as goal

pub slice_bounds-put_told-end : goal.slice_bounds-put_told-end
slice_bounds-put_told-end c =
    let p = c.in-Column-default-Some-default in
    let is : c.args.piece ≡ Column p.column (Some c.get.result) p.dot = search rules in
    let fits : c.args.at + c.get.result ≤ length c.args.line.now =
    omega (arith, piece-size c.args.piece p.column c.get.result p.dot is, c.requires.within) in
    fits

pub put_told-requires : goal.put_told-requires
put_told-requires c =
    let p = c.in-Column-default-Some-default in
    let is : c.args.piece ≡ Column p.column (Some c.get.result) p.dot = search rules in
    let count : c.args.at + c.get.result - c.args.at ≡ c.get.result = omega arith in
    let there = piece-blank c.args.piece p.column c.get.result p.dot c.args.line.now c.args.at _ is count c.requires.blank in
    there ∙ ap (λ n. replicate {A = ℕ} n 32) (sym (ap length there ∙ length-replicate {A = ℕ} c.get.result 32))

pub returns-clause-end : goal.returns-clause-end
returns-clause-end c =
    let p = c.in-Column-default-Some-default in
    let is : c.args.piece ≡ Column p.column (Some c.get.result) p.dot = search rules in
    ap (λ n. c.args.at + n) (sym (piece-size c.args.piece p.column c.get.result p.dot is))

pub returns-clause-line : goal.returns-clause-line
returns-clause-line c =
    let p = c.in-Column-default-Some-default in
    let is : c.args.piece ≡ Column p.column (Some c.get.result) p.dot = search rules in
    let count : c.args.at + c.get.result - c.args.at ≡ c.get.result = omega arith in
    piece-put (told c.args.row.now) c.args.piece p.column c.get.result p.dot c.args.line.now c.put_told.new.blanks c.args.at _
    is count c.requires.blank c.in_ok-put_told.ensures
