use Rattle.std.proofs.Common.{◌≡◌, ◌∙◌, ap, length, map, sym, rules}
use Rattle.std.proofs.lemmas.List.{length-map}
use Rattle.search_tree.specs.Sheets.{PriceSheet, turn_worth}
use Rattle.search_tree.proofs.SumLemmas.{keeps_stored}
use Rattle.search_tree.proofs.WorthLemmas.{taken_sized, written_back}
use Rattle.search_tree.proofs.sheets.Sheet.take.Goals as goal

pub sum_all-self-inside-requires : goal.sum_all-self-inside-requires
sum_all-self-inside-requires c =
    let inside = c.self.inside in
    let calls = c.requires.calls ∙ sym (ap (λ (sheet : PriceSheet). length sheet.prices) c.self.view_is) in
    let cars = c.requires.cars ∙ sym (ap (λ (sheet : PriceSheet). length sheet.worths) c.self.view_is) in
    let prices_are : c.deref.result.now ≡ c.args.prices.now = search rules in
    let worths_are = c.deref-2.ensures.value
    ∙ written_back _ _ inside.worths.items (map turn_worth c.args.cars.now) c.deref_mut.result.now c.deref_mut.ensures.len c.deref_mut.ensures.value
    (length-map c.args.cars.now turn_worth ∙ cars) c.take_worths.ensures in
    taken_sized inside.prices.items _ c.args.prices.now inside.worths.items _ c.args.cars.now c.self.invariant.sized cars calls c.requires.sizes prices_are
    worths_are

pub invariant_of-self : goal.invariant_of-self
invariant_of-self c =
    let sum = c.sum_all-self-inside in
    keeps_stored _ _ _ _ sum.result c.deref.ensures.value c.deref-2.ensures.value sum.ensures
