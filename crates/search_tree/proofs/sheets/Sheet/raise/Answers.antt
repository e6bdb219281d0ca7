use Rattle.std.proofs.Common.{◌∙◌, ap, length, List, ℤ, sym}
use Rattle.search_tree.specs.Sheets.{PriceSheet, raised}
use Rattle.search_tree.proofs.SumLemmas.{keeps_stored}
use Rattle.search_tree.proofs.WorthLemmas.{length-raised, raised_sized, written_back}
use Rattle.search_tree.proofs.sheets.Sheet.raise.Goals as goal

pub sum_all-self-inside-requires : goal.sum_all-self-inside-requires
sum_all-self-inside-requires c =
    let inside = c.self.inside in
    let cars = c.requires.cars ∙ sym (ap (λ (sheet : PriceSheet). length sheet.worths) c.self.view_is) in
    let lent = c.deref_mut.ensures.value in
    let raised_are = c.raise_worths.ensures ∙ ap (λ (worths : List ℤ). raised worths c.args.cars.now) lent in
    let worths_are = c.deref-2.ensures.value
    ∙ written_back _ _ inside.worths.items (raised inside.worths.items c.args.cars.now) c.deref_mut.result.now c.deref_mut.ensures.len lent
    (length-raised inside.worths.items c.args.cars.now) raised_are in
    raised_sized inside.prices.items _ inside.worths.items _ c.args.cars.now c.self.invariant.sized cars c.requires.sizes c.deref.ensures.value worths_are

pub invariant_of-self : goal.invariant_of-self
invariant_of-self c =
    let sum = c.sum_all-self-inside in
    keeps_stored _ _ _ _ sum.result c.deref.ensures.value c.deref-2.ensures.value sum.ensures
