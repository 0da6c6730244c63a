use Rattle.std.proofs.Common.{◌≡◌, ◌++◌, rules}
use Rattle.std.specs.Prelude.{flat_map, OnOk}
use Rattle.state_save.specs.Saved.{line_text, moment_words}
use Rattle.state_save.specs.Parts.{front_text, version_text, partition_line, node_line, dropped_line, usage_line}
use Rattle.state_save.proofs.JobWords.{ok_step}
use Rattle.state_save.proofs.writing.push_front.Goals as goal

pub returns : goal.returns
unfolding front_text
returns c =
    let s = c.args.saved.now in
    let o = c.args.writer.now in
    let b0 = version_text in
    let b1 = line_text (moment_words s.moment s.next_id) in
    let b2 = flat_map partition_line s.partitions in
    let b3 = flat_map node_line s.nodes in
    let b4 = flat_map dropped_line s.dropped in
    let b5 = flat_map usage_line s.usage in
    let w0 = c.push_version.new.writer in
    let w1 = c.push_line.new.writer in
    let w2 = c.push_lines.new.writer in
    let w3 = c.push_lines-2.new.writer in
    let w4 = c.push_lines-3.new.writer in
    let e0 : w0 ≡ o ++ b0 = search rules in
    let e1 : w1 ≡ w0 ++ b1 = search rules in
    let e2 : w2 ≡ w1 ++ b2 = search rules in
    let e3 : w3 ≡ w2 ++ b3 = search rules in
    let e4 : w4 ≡ w3 ++ b4 = search rules in
    let r = c.push_lines-4.result in
    let v = c.push_lines-4.new.writer in
    let last : OnOk r (v ≡ w4 ++ b5) = search rules in
    ok_step r o w0 v b0 (b1 ++ (b2 ++ (b3 ++ (b4 ++ (b5))))) e0 (ok_step r w0 w1 v b1 (b2 ++ (b3 ++ (b4 ++ (b5)))) e1 (ok_step r w1 w2 v b2 (b3 ++ (b4 ++ (b5))) e2 (ok_step r w2 w3 v b3 (b4 ++ (b5)) e3 (ok_step r w3 w4 v b4 (b5) e4 (last)))))
