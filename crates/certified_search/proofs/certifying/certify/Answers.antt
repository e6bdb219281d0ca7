use Rattle.std.specs.Prelude.{IfOk, Result, Ok, Err}
use Rattle.certified_search.proofs.Certified.{certified, claimed_known, claimed_sized, tree_cars, tree_sizes}
use Rattle.certified_search.proofs.certifying.certify.Goals as goal

on_ok : {A E : Type 0} (r : Result A E) (P Q : A → Type 0) → ((x : A) → P x → Q x) → IfOk r P → IfOk r Q
on_ok (Ok x) P Q on h = on x h
on_ok (Err e) P Q on h = tt

pub state_claims-requires-clause-cars : goal.state_claims-requires-clause-cars
state_claims-requires-clause-cars g c = tree_cars c.args.tree.twigs c.requires.sized

pub state_claims-requires-clause-sizes : goal.state_claims-requires-clause-sizes
state_claims-requires-clause-sizes g c = tree_sizes c.args.tree.twigs c.requires.sized

pub returns-clause-certified : goal.returns-clause-certified
returns-clause-certified g c =
    let s = c.args.snapshot.now in
    let tree = c.args.tree.twigs in
    on_ok c.state_claims.result _ _
    (λ claimed is. certified s c.calls-calls.ensures.accepted c.args.stated.now tree c.in_ok-resort.resort c.args.claims claimed is c.requires.proves.whole
    c.in_ok-resort.ensures.bound c.in_ok-resort.ensures.start c.requires.least) c.state_claims.ensures

pub returns-clause-sized : goal.returns-clause-sized
returns-clause-sized g c =
    let s = c.args.snapshot.now in
    let tree = c.args.tree.twigs in
    on_ok c.state_claims.result _ _
    (λ claimed is. claimed_sized s c.calls-calls.ensures.accepted c.args.stated.now tree c.in_ok-resort.resort c.args.claims claimed is c.requires.sized
    c.in_ok-resort.ensures.sized c.requires.proves.whole) c.state_claims.ensures

pub returns-clause-known : goal.returns-clause-known
returns-clause-known g c =
    let s = c.args.snapshot.now in
    let tree = c.args.tree.twigs in
    on_ok c.state_claims.result _ _
    (λ claimed is. claimed_known s c.calls-calls.ensures.accepted c.args.stated.now tree c.in_ok-resort.resort c.args.claims claimed is c.requires.sized
    c.in_ok-resort.ensures.sized c.requires.proves.whole) c.state_claims.ensures
