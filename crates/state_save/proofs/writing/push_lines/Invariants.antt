use Rattle.std.proofs.Common.{◌≡◌, ◌++◌, take, flat_map}
use Rattle.state_save.specs.Saved.{line_text}
use Rattle.state_save.proofs.writing.push_lines.Given as goal

abbrev pub invariant-loop-member : goal.invariant-loop-member
invariant-loop-member g l = l.writer ≡ l.initial.writer ++ flat_map (λ x. line_text (g.T.Line.words x)) (take l.member-index l.members)
