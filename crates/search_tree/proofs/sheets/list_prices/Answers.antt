use Rattle.std.proofs.Common.{◌+◌, ◌∙◌, ap, subst, sym, ◌++◌, List, drop}
use Rattle.std.specs.Prelude.{All}
use Rattle.std.proofs.lemmas.List.Elements.{All-nil, All-push}
use Rattle.price_scale.specs.Scale.{IsPrice}
use Rattle.search_model.specs.declared.PriceOf.{PriceOf}
use Rattle.search_tree.specs.Sheets.{prices_from}
use Rattle.search_tree.proofs.ListLemmas.{priced_all, priced_more}
use Rattle.search_tree.proofs.sheets.list_prices.Goals as goal

abbrev InRange : PriceOf → Type 0
InRange p = IsPrice p.price

pub loop-call-init : goal.loop-call-init
loop-call-init c =
    (ap (λ (list : List PriceOf). list ++ prices_from 0 c.args.prices.now) c.new-list.ensures, subst (All InRange) (sym c.new-list.ensures) (All-nil InRange))

pub loop-call-preserved : goal.loop-call-preserved
loop-call-preserved c =
    let k = c.loop-call.call in
    let prices = c.args.prices.now in
    let listed : PriceOf = record { call = k; price = c.index-prices-call.result } in (
      ap (λ (list : List PriceOf). list ++ prices_from (k + 1) (drop (k + 1) prices)) c.in_ok-push.ensures.ok
          ∙ priced_more c.loop-call.list prices k c.index-prices-call.result _ c.loop-call-test.true c.index-prices-call.is c.loop-call.invariant.0,
      subst (All InRange) (sym c.in_ok-push.ensures.ok) (All-push InRange c.loop-call.list listed c.loop-call.invariant.1 c.value.ensures.range),
    )

pub returns-clause-list : goal.returns-clause-list
returns-clause-list c = priced_all c.loop-call.list c.args.prices.now c.loop-call.call c.loop-call-test.false c.loop-call.invariant.0

pub returns-clause-sized : goal.returns-clause-sized
returns-clause-sized c = c.loop-call.invariant.1
