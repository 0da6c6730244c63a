use Rattle.std.proofs.Common.{◌≡◌, ◌∷◌, ◌++◌, [], codes, decimal}
use Rattle.line_words.specs.Words.{quoted}
use Rattle.state_save.specs.Saved.{line_text, reservation_words}
use Rattle.state_save.specs.Texts.{listed, name_text}
use Rattle.state_save.proofs.JobWords.{ok_same, ok_step, reservation_line}
use Rattle.state_save.proofs.cluster_lines.SavedReservationLine.push_line.Goals as goal

pub returns : goal.returns
returns c =
    let s = c.args.self.now in
    let o = c.args.writer.now in
    let a = quoted s.name in
    let b = quoted (decimal s.start) in
    let d = quoted (decimal s.end) in
    let e = quoted (listed name_text s.nodes) in
    let f = quoted (listed name_text s.users) in
    let h = quoted (listed name_text s.accounts) in
    let b0 = quoted (codes "reservation") in
    let b1 = 32 ∷ a in
    let b2 = 32 ∷ b in
    let b3 = 32 ∷ d in
    let b4 = 32 ∷ e ++ (32 ∷ f ++ 32 ∷ h) in
    let w0 = c.begin_line.new.self in
    let w1 = c.push_value.new.self in
    let w2 = c.push_value-2.new.self in
    let w3 = c.push_value-3.new.self in
    let w4 = c.push_lists.new.writer in
    let e0 : w0 ≡ o ++ b0 = c.in_ok-begin_line.ensures in
    let e1 : w1 ≡ w0 ++ b1 = c.in_ok-push_value.ensures in
    let e2 : w2 ≡ w1 ++ b2 = c.in_ok-push_value-2.ensures in
    let e3 : w3 ≡ w2 ++ b3 = c.in_ok-push_value-3.ensures in
    let e4 : w4 ≡ w3 ++ b4 = c.in_ok-push_lists.ensures in
    let r = c.end_line.result in
    let v = c.end_line.new.self in
    ok_same r o v (b0 ++ (b1 ++ (b2 ++ (b3 ++ (b4 ++ 10 ∷ []))))) (line_text (reservation_words s)) (reservation_line s)
    (ok_step r o w0 v b0 (b1 ++ (b2 ++ (b3 ++ (b4 ++ 10 ∷ [])))) e0
    (ok_step r w0 w1 v b1 (b2 ++ (b3 ++ (b4 ++ 10 ∷ []))) e1
    (ok_step r w1 w2 v b2 (b3 ++ (b4 ++ 10 ∷ [])) e2
    (ok_step r w2 w3 v b3 (b4 ++ 10 ∷ []) e3 (ok_step r w3 w4 v b4 (10 ∷ []) e4 c.end_line.ensures)))))
