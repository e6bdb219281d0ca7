use Rattle.std.proofs.Common.{◌≡◌, ◌∙◌, sym, rules}
use Rattle.search_model.specs.Certificates.{has_whole_lists}
use Rattle.kept_tours.proofs.LeafLemmas.{whole_few}
use Rattle.kept_tours.proofs.leaves.is_whole.Goals as goal

pub returns-then-are_each_once-clause-few : goal.returns-then-are_each_once-clause-few
returns-then-are_each_once-clause-few c is =
    let s = c.args.snapshot.now in
    let whole : c.are_each_once-then-are_each_once.result ≡ has_whole_lists s c.args.leaf.now = search rules in
    whole_few s c.args.leaf.now c.calls.ensures.accepted (sym whole ∙ is)
