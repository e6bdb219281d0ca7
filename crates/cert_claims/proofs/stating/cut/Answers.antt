use Rattle.std.proofs.Common.{◌≡◌, rules}
use Rattle.std.specs.Prelude.{IfOk, Result, Ok, Err}
use Rattle.cert_claims.specs.Lowering.{lesser_bounds}
use Rattle.cert_claims.proofs.StatingLemmas.{beyond_more, bound_low, cut_lowered, cut_resort, sized_less}
use Rattle.cert_claims.proofs.stating.cut.Goals as goal

pub claimed_at-requires-clause-tree : goal.claimed_at-requires-clause-tree
claimed_at-requires-clause-tree g c =
    let are : c.as_slice-lesser-items.result.now ≡ lesser_bounds c.args.bound c.args.resort.bound = search rules in
    sized_less c.args.snapshot.now c.args.bound _ c.args.tree.now.twigs
    (bound_low c.args.snapshot.now c.args.bound c.args.tree.now.twigs c.args.resort c.args.limit c.as_slice-lesser-items.result.now are
    c.loop-lesser.lesser-index 0 c.loop-lesser-test.true) c.requires.tree

pub returns-in-Some : goal.returns-in-Some
returns-in-Some g c =
    let are : c.as_slice-lesser-items.result.now ≡ lesser_bounds c.args.bound c.args.resort.bound = search rules in
    cut_lowered c.args.snapshot.now c.args.bound c.args.tree.now.twigs c.args.resort c.args.limit c.as_slice-lesser-items.result.now are
    c.loop-lesser.lesser-index 0 c.in-Some.claimed c.loop-lesser-test.true c.loop-lesser.invariant (rw c.in-Some.is at c.in_ok-claimed.ensures)

pub loop-lesser-preserved : goal.loop-lesser-preserved
loop-lesser-preserved g c =
    let are : c.as_slice-lesser-items.result.now ≡ lesser_bounds c.args.bound c.args.resort.bound = search rules in
    beyond_more c.args.snapshot.now c.args.bound c.args.tree.now.twigs c.args.resort c.args.limit c.as_slice-lesser-items.result.now are
    c.loop-lesser.lesser-index 0 c.loop-lesser-test.true c.loop-lesser.invariant (rw c.in-None.is at c.in_ok-claimed.ensures)

on_three : {A E : Type 0} (r : Result A E) (P Q R S : A → Type 0) → ((x : A) → P x → Q x → R x → S x) → IfOk r P → IfOk r Q → IfOk r R → IfOk r S
on_three (Ok x) P Q R S on p q r = on x p q r
on_three (Err e) P Q R S on p q r = tt

pub returns : goal.returns
returns g c =
    let are : c.as_slice-lesser-items.result.now ≡ lesser_bounds c.args.bound c.args.resort.bound = search rules in
    on_three c.into_claimed.result _ _ _ _
    (λ new tree bound cut. cut_resort c.args.snapshot.now c.args.bound c.args.tree.now.twigs c.args.resort c.args.limit c.as_slice-lesser-items.result.now
    are c.loop-lesser.lesser-index new c.loop-lesser-test.false c.loop-lesser.invariant c.requires.resort c.requires.least tree bound cut)
    c.into_claimed.ensures.tree c.into_claimed.ensures.bound c.into_claimed.ensures.cut
