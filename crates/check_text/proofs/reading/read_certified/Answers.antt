use Rattle.std.proofs.Common.{sym, subst}
use Rattle.lift_text.specs.LineReader.{text}
use Rattle.lift_text.proofs.ShowLemmas.{fault_behind, went_further}
use Rattle.check_text.specs.VerdictTexts.{IsToldOf}
use Rattle.check_text.proofs.PairLemmas.{answer_in_pair, pair_in_front, tree_in_pair}
use Rattle.check_text.proofs.ToldLemmas.{verdict_told}
use Rattle.check_text.proofs.reading.read_certified.Goals as goal

pub returns-in-Err-clause-refused : goal.returns-in-Err-clause-refused
returns-in-Err-clause-refused g c =
    let left = g.S.Source.left in
    answer_in_pair c.args.snapshot.now (text left c.args.lines.now) (text left c.read_answer.new.lines) c.in-Err.fault
    (c.in-Err.ensures.refused c.requires.whole)

pub returns-in-Ok-read_verdict-clause-certified : goal.returns-in-Ok-read_verdict-clause-certified
returns-in-Ok-read_verdict-clause-certified g c =
    let left = g.S.Source.left in
    let is = c.in-Ok-read_verdict.ensures.verdict in
    record {
      tree = is.tree;
      cars = c.in-Ok.ensures.within.fits.tours;
      whole = is.whole;
      verdict_is = is.verdict_is;
      read = pair_in_front c.args.snapshot.now (text left c.args.lines.now) (text left c.read_answer.new.lines)
          (text left c.read_verdict.new.lines) c.in-Ok.stated is.tree (c.in-Ok.ensures.said c.requires.whole) is.said;
    }

pub returns-in-Ok-read_verdict-clause-told : goal.returns-in-Ok-read_verdict-clause-told
returns-in-Ok-read_verdict-clause-told g c =
    let s = c.args.snapshot.now in
    let stated = c.in-Ok.stated in
    let is = c.in-Ok-read_verdict.ensures.verdict in
    subst (IsToldOf s) (sym is.verdict_is) (verdict_told s stated.plan stated.cost stated.bound is.tree)

pub returns-in-Ok-read_verdict-clause-went : goal.returns-in-Ok-read_verdict-clause-went
returns-in-Ok-read_verdict-clause-went g c =
    let left = g.S.Source.left in
    went_further (text left c.args.lines.now) (text left c.read_answer.new.lines) (text left c.read_verdict.new.lines)
    (c.in-Ok.ensures.went c.requires.whole) c.in-Ok-read_verdict.ensures.went

pub returns-in-Err-read_verdict-clause-refused : goal.returns-in-Err-read_verdict-clause-refused
returns-in-Err-read_verdict-clause-refused g c =
    let left = g.S.Source.left in
    tree_in_pair c.args.snapshot.now (text left c.args.lines.now) (text left c.read_answer.new.lines) c.in-Ok.stated c.in-Err-read_verdict.fault
    (c.in-Ok.ensures.said c.requires.whole) c.in-Err-read_verdict.ensures.refused

pub returns-in-Err-read_verdict-clause-shows : goal.returns-in-Err-read_verdict-clause-shows
returns-in-Err-read_verdict-clause-shows g c =
    let left = g.S.Source.left in
    fault_behind (text left c.args.lines.now) (text left c.read_answer.new.lines) c.in-Err-read_verdict.fault (left c.read_verdict.new.lines.source.now)
    (c.in-Ok.ensures.went c.requires.whole) c.in-Err-read_verdict.ensures.shows
