use Rattle.check_text.proofs.reading.read_verdict.Goals as goal

pub returns-in-Ok-check_tree-clause-verdict : goal.returns-in-Ok-check_tree-clause-verdict
returns-in-Ok-check_tree-clause-verdict g c =
    let s = c.args.snapshot.now in
    let claims = c.args.stated.now in
    let fed = c.in-Ok-check_tree.ensures.feeds claims c.in-Ok.ensures.seen in
    record {
      tree = fed.tree;
      whole = fed.within.whole;
      verdict_is = c.verdict.ensures s claims fed.tree fed.seen;
      said = fed.said;
    }

pub returns-in-Err-check_tree-clause-refused : goal.returns-in-Err-check_tree-clause-refused
returns-in-Err-check_tree-clause-refused g c = c.in-Err-check_tree.ensures.feeds c.args.stated.now c.in-Ok.ensures.seen
