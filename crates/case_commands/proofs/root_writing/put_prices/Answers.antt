use Rattle.std.proofs.Common.{◌≡◌, ◌++◌, ◌∙◌, ℕ, subst, arith}
use Rattle.std.specs.Prelude.{pos}
use Rattle.std.proofs.lemmas.List.{get_or_default}
use Rattle.elevator_model.specs.Snapshot.{call_count}
use Rattle.case_commands.specs.RootTexts.{price_lines}
use Rattle.case_commands.proofs.RootTextLemmas.{more_prices, no_prices}
use Rattle.case_commands.proofs.root_writing.put_prices.Goals as goal

pub loop-call-init : goal.loop-call-init
loop-call-init c = no_prices c.args.snapshot.now c.args.prices.now c.args.out.now.items

pub loop-call-preserved : goal.loop-call-preserved
loop-call-preserved c =
    let at = c.index-prices-call.is ∙ get_or_default c.args.prices.now c.loop-call.call c.index-prices-call.result (pos 0) c.loop-call-test.true in
    more_prices c.args.snapshot.now c.args.prices.now c.loop-call.call c.index-prices-call.result c.args.out.now.items c.loop-call.out.items
    c.put_price.new.out.items at c.loop-call.invariant c.in_ok-put_price.ensures

pub returns : goal.returns
returns c =
    let counted = c.requires in
    let all : c.loop-call.call ≡ call_count c.args.snapshot.now = omega (arith, counted, c.loop-call-test.false, c.loop-call.auto.call-end) in
    subst (λ (n : ℕ). c.loop-call.out.items ≡ c.args.out.now.items ++ price_lines c.args.snapshot.now c.args.prices.now n) all c.loop-call.invariant
