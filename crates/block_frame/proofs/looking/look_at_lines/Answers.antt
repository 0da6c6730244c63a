use Rattle.std.proofs.Common.{◌-◌, ◌≤◌, subst, sym, ◌∙◌}
use Rattle.block_frame.specs.declared.lines.Seen.TheVariants as seen
use Rattle.block_frame.specs.Looking.{IsSeen}
use Rattle.block_frame.proofs.FirstLines.{line_len}
use Rattle.block_frame.proofs.Going.{rest_is, searched_more, one_line_more, off_sight, last_sight, unended_sight}
use Rattle.block_frame.proofs.looking.look_at_lines.Goals as goal

pub see_line-requires : goal.see_line-requires
see_line-requires c =
    let way = c.loop-searched.invariant in
    let rest = rest_is c.args.text.now c.loop-searched.lines way in
    subst (λ t. c.loop-searched.lines.searched ≤ line_len t) (sym (c.split_at.ensures.back ∙ rest)) way.searched

pub returns-in-Bad-clause-scan : goal.returns-in-Bad-clause-scan
returns-in-Bad-clause-scan c =
    let lines = c.loop-searched.lines in
    let searched = c.in-Bad.searched in
    let line = subst (λ t. IsSeen (65536 - lines.size) t (seen.Bad searched)) c.split_at.ensures.back c.in-Bad.ensures in
    searched_more c.args.text.now lines searched c.loop-searched.invariant line.1

pub returns-in-Bad-clause-sight : goal.returns-in-Bad-clause-sight
returns-in-Bad-clause-sight c =
    let lines = c.loop-searched.lines in
    let searched = c.in-Bad.searched in
    off_sight c.args.text.now lines searched c.loop-searched.invariant (subst (λ t. IsSeen (65536 - lines.size) t (seen.Bad searched)) c.split_at.ensures.back c.in-Bad.ensures)

pub returns-in-Last-clause-sight : goal.returns-in-Last-clause-sight
returns-in-Last-clause-sight c =
    let lines = c.loop-searched.lines in
    last_sight c.args.text.now lines c.loop-searched.invariant (subst (λ t. IsSeen (65536 - lines.size) t seen.Last) c.split_at.ensures.back c.in-Last.ensures)

pub returns-in-Open-clause-scan : goal.returns-in-Open-clause-scan
returns-in-Open-clause-scan c =
    let lines = c.loop-searched.lines in
    let searched = c.in-Open.searched in
    let line = subst (λ t. IsSeen (65536 - lines.size) t (seen.Open searched)) c.split_at.ensures.back c.in-Open.ensures in
    searched_more c.args.text.now lines searched c.loop-searched.invariant line.4

pub returns-in-Open-clause-sight : goal.returns-in-Open-clause-sight
returns-in-Open-clause-sight c =
    let lines = c.loop-searched.lines in
    let searched = c.in-Open.searched in
    unended_sight c.args.text.now lines searched c.loop-searched.invariant (subst (λ t. IsSeen (65536 - lines.size) t (seen.Open searched)) c.split_at.ensures.back c.in-Open.ensures)

pub loop-searched-preserved : goal.loop-searched-preserved
loop-searched-preserved c =
    let lines = c.loop-searched.lines in
    let line = subst (λ t. IsSeen (65536 - lines.size) t (seen.Line c.in-Line.len c.in-Line.size)) c.split_at.ensures.back c.in-Line.ensures in
    one_line_more c.args.text.now lines c.in-Line.len c.in-Line.size c.loop-searched.invariant line
