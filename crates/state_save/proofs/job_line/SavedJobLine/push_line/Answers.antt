use Rattle.std.proofs.Common.{◌≡◌, ◌∷◌, ◌++◌, [], codes, sym, rules}
use Rattle.line_words.specs.Words.{quoted}
use Rattle.state_save.specs.Groups.{behind_blanks, ids_words, names_words, size_words, wish_words, needs_words, script_words, standing_words}
use Rattle.state_save.specs.Saved.{line_text, job_words}
use Rattle.state_save.proofs.JobWords.{job_line, ok_same, ok_step}
use Rattle.state_save.proofs.job_line.SavedJobLine.push_line.Goals as goal

pub returns : goal.returns
returns c =
    let job = c.args.self.now in
    let o = c.args.writer.now in
    let b0 = quoted (codes "job") in
    let b1 = behind_blanks (ids_words job) in
    let b2 = behind_blanks (names_words job) in
    let b3 = behind_blanks (size_words job) in
    let b4 = behind_blanks (wish_words job) in
    let b5 = behind_blanks (needs_words job) in
    let b6 = behind_blanks (script_words job) in
    let b7 = behind_blanks (standing_words job) in
    let w0 = c.begin_line.new.self in
    let w1 = c.push_ids.new.writer in
    let w2 = c.push_names.new.writer in
    let w3 = c.push_size.new.writer in
    let w4 = c.push_wish.new.writer in
    let w5 = c.push_needs.new.writer in
    let w6 = c.push_script.new.writer in
    let w7 = c.push_standing.new.writer in
    let e0 : w0 ≡ o ++ b0 = search rules in
    let e1 : w1 ≡ w0 ++ b1 = search rules in
    let e2 : w2 ≡ w1 ++ b2 = search rules in
    let e3 : w3 ≡ w2 ++ b3 = search rules in
    let e4 : w4 ≡ w3 ++ b4 = search rules in
    let e5 : w5 ≡ w4 ++ b5 = search rules in
    let e6 : w6 ≡ w5 ++ b6 = search rules in
    let e7 : w7 ≡ w6 ++ b7 = search rules in
    ok_same c.end_line.result o c.end_line.new.self (b0 ++ (b1 ++ (b2 ++ (b3 ++ (b4 ++ (b5 ++ (b6 ++ (b7 ++ (10 ∷ []))))))))) (line_text (job_words job)) (sym (job_line job))
    (ok_step c.end_line.result o w0 c.end_line.new.self b0 (b1 ++ (b2 ++ (b3 ++ (b4 ++ (b5 ++ (b6 ++ (b7 ++ (10 ∷ [])))))))) e0 (ok_step c.end_line.result w0 w1 c.end_line.new.self b1 (b2 ++ (b3 ++ (b4 ++ (b5 ++ (b6 ++ (b7 ++ (10 ∷ []))))))) e1 (ok_step c.end_line.result w1 w2 c.end_line.new.self b2 (b3 ++ (b4 ++ (b5 ++ (b6 ++ (b7 ++ (10 ∷ [])))))) e2 (ok_step c.end_line.result w2 w3 c.end_line.new.self b3 (b4 ++ (b5 ++ (b6 ++ (b7 ++ (10 ∷ []))))) e3 (ok_step c.end_line.result w3 w4 c.end_line.new.self b4 (b5 ++ (b6 ++ (b7 ++ (10 ∷ [])))) e4 (ok_step c.end_line.result w4 w5 c.end_line.new.self b5 (b6 ++ (b7 ++ (10 ∷ []))) e5 (ok_step c.end_line.result w5 w6 c.end_line.new.self b6 (b7 ++ (10 ∷ [])) e6 (ok_step c.end_line.result w6 w7 c.end_line.new.self b7 (10 ∷ []) e7 (c.end_line.ensures)))))))))
