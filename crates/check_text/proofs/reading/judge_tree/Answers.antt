use Rattle.lift_text.specs.LineReader.{text}
use Rattle.lift_text.proofs.ShowLemmas.{fault_behind}
use Rattle.check_text.proofs.LayerLemmas.{tree_alone, tree_refused, tree_late, tree_taken, tree_not_refused, tree_not_late}
use Rattle.check_text.proofs.reading.judge_tree.Goals as goal

pub returns-in-Ok-read_end-clause-verdict : goal.returns-in-Ok-read_end-clause-verdict
returns-in-Ok-read_end-clause-verdict g c =
    let left = g.S.Source.left in
    let s = c.args.snapshot.now in
    let is = c.in-Ok.ensures.verdict in
    record {
      tree = is.tree;
      whole = is.whole;
      verdict_is = is.verdict_is;
      read = tree_alone s (text left c.args.lines.now) (text left c.read_verdict.new.lines) is.tree is.said c.in-Ok-read_end.ensures.end;
    }

pub returns-in-Ok-read_end-clause-takes : goal.returns-in-Ok-read_end-clause-takes
returns-in-Ok-read_end-clause-takes g c =
    let left = g.S.Source.left in
    let is = c.in-Ok.ensures.verdict in
    tree_taken c.args.snapshot.now c.args.stated.now (text left c.args.lines.now)
    (text left c.read_verdict.new.lines) is.tree c.in-Ok.verdict is.said is.verdict_is

pub returns-in-Err-read_end-clause-refused : goal.returns-in-Err-read_end-clause-refused
returns-in-Err-read_end-clause-refused g c =
    let left = g.S.Source.left in
    let is = c.in-Ok.ensures.verdict in
    tree_late c.args.snapshot.now (text left c.args.lines.now)
    (text left c.read_verdict.new.lines) is.tree c.in-Err-read_end.fault is.said c.in-Err-read_end.ensures.refused

pub returns-in-Err-read_end-clause-takes : goal.returns-in-Err-read_end-clause-takes
returns-in-Err-read_end-clause-takes g c =
    let left = g.S.Source.left in
    let is = c.in-Ok.ensures.verdict in
    tree_not_late c.args.snapshot.now c.args.stated.now (text left c.args.lines.now)
    (text left c.read_verdict.new.lines) is.tree c.in-Err-read_end.fault is.said c.in-Err-read_end.ensures.refused

pub returns-in-Err-clause-refused : goal.returns-in-Err-clause-refused
returns-in-Err-clause-refused g c =
    let left = g.S.Source.left in
    tree_refused c.args.snapshot.now (text left c.args.lines.now) c.in-Err.fault c.in-Err.ensures.refused

pub returns-in-Err-clause-takes : goal.returns-in-Err-clause-takes
returns-in-Err-clause-takes g c =
    let left = g.S.Source.left in
    tree_not_refused c.args.snapshot.now c.args.stated.now (text left c.args.lines.now) c.in-Err.fault c.in-Err.ensures.refused

pub returns-in-Err-read_end-clause-shows : goal.returns-in-Err-read_end-clause-shows
returns-in-Err-read_end-clause-shows g c =
    let left = g.S.Source.left in
    fault_behind (text left c.args.lines.now) (text left c.read_verdict.new.lines) c.in-Err-read_end.fault
    (left c.read_end.new.lines.source.now) c.in-Ok.ensures.went c.in-Err-read_end.ensures.shows
