use Rattle.std.proofs.Common.{refl}
use Rattle.lift_text.specs.LineReader.{text}
use Rattle.lift_text.proofs.ShowLemmas.{fault_behind}
use Rattle.check_text.proofs.LayerLemmas.{answer_refused, answer_taken, behind_answer, behind_taken, certified_alone, certified_taken}
use Rattle.check_text.proofs.reading.judge.Goals as goal

pub returns-in-Err-clause-refused : goal.returns-in-Err-clause-refused
returns-in-Err-clause-refused g c =
    let left = g.S.Source.left in
    answer_refused c.args.snapshot.now (text left c.args.lines.now) (text left c.read_answer.new.lines) c.in-Err.fault
    (c.in-Err.ensures.refused c.requires.whole)

pub returns-in-Err-clause-takes : goal.returns-in-Err-clause-takes
returns-in-Err-clause-takes g c =
    let left = g.S.Source.left in
    answer_taken c.args.snapshot.now (text left c.args.lines.now) (text left c.read_answer.new.lines) c.in-Err.fault (c.in-Err.ensures.lines c.requires.whole)

pub returns-in-Ok-judge_tree-clause-judged : goal.returns-in-Ok-judge_tree-clause-judged
returns-in-Ok-judge_tree-clause-judged g c =
    let left = g.S.Source.left in
    let is = c.in-Ok-judge_tree.ensures.verdict in
    record {
      stated = c.in-Ok.stated;
      tree = is.tree;
      cars = c.in-Ok.ensures.within.fits.tours;
      cost = refl;
      bound = refl;
      whole = is.whole;
      verdict_is = is.verdict_is;
      read = certified_alone c.args.snapshot.now (text left c.args.lines.now) (text left c.read_answer.new.lines) c.in-Ok.stated is.tree
          (c.in-Ok.ensures.said c.requires.whole) is.read;
    }

pub returns-in-Ok-judge_tree-clause-takes : goal.returns-in-Ok-judge_tree-clause-takes
returns-in-Ok-judge_tree-clause-takes g c =
    let left = g.S.Source.left in
    let answer = c.in-Ok.stated in
    certified_taken c.args.snapshot.now answer (text left c.args.lines.now) (text left c.read_answer.new.lines)
    (record { cost = answer.cost; bound = answer.bound; verdict = c.in-Ok-judge_tree.verdict })
    (c.in-Ok.ensures.lines c.requires.whole) refl refl c.in-Ok-judge_tree.ensures.takes

pub returns-clause-refused : goal.returns-clause-refused
returns-clause-refused g c =
    let left = g.S.Source.left in
    behind_answer c.args.snapshot.now (text left c.args.lines.now) (text left c.read_answer.new.lines) c.in-Ok.stated c.in-Err-judge_tree.fault
    (c.in-Ok.ensures.said c.requires.whole) c.in-Err-judge_tree.ensures.refused

pub returns-clause-takes : goal.returns-clause-takes
returns-clause-takes g c =
    let left = g.S.Source.left in
    behind_taken c.args.snapshot.now c.in-Ok.stated (text left c.args.lines.now) (text left c.read_answer.new.lines) c.in-Err-judge_tree.fault
    (c.in-Ok.ensures.lines c.requires.whole) c.in-Err-judge_tree.ensures.takes

pub returns-clause-shows : goal.returns-clause-shows
returns-clause-shows g c =
    let left = g.S.Source.left in
    fault_behind (text left c.args.lines.now) (text left c.read_answer.new.lines) c.in-Err-judge_tree.fault (left c.judge_tree.new.lines.source.now)
    (c.in-Ok.ensures.went c.requires.whole) c.in-Err-judge_tree.ensures.shows
