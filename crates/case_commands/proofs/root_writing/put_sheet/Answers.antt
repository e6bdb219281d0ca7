use Rattle.std.proofs.Common.{◌≡◌, ◌++◌, ◌∷◌, [], ◌∙◌, List, length, rules, to_z, of_z, ap}
use Rattle.std.specs.Prelude.{ℤ, codes}
use Rattle.std.specs.Int.{w128}
use Rattle.elevator_model.specs.Snapshot.{call_count, car_count}
use Rattle.lift_text.specs.Text.{line}
use Rattle.case_commands.specs.RootTexts.{price_lines, signed_line, worth_lines}
use Rattle.case_commands.proofs.RootTextLemmas.{four_parts}
use Rattle.case_commands.proofs.root_writing.put_sheet.Goals as goal

pub put_prices-requires : goal.put_prices-requires
put_prices-requires c = ap length c.prices-prices.ensures.prices ∙ c.requires.calls

pub put_worths-requires : goal.put_worths-requires
put_worths-requires c = ap length c.worths-worths.ensures.worths ∙ c.requires.cars

pub returns : goal.returns
returns c =
    let s = c.args.snapshot.now in
    let a = c.args.answer.now in
    let old = c.args.out.now.items in
    let first = c.put_line.new.out.items in
    let second = c.put_signed.new.out.items in
    let third = c.put_prices.new.out.items in
    let bound : to_z w128 (of_z w128 a.bound) ≡ a.bound = search rules in
    four_parts old (line (codes "root") (1 ∷ [])) (signed_line (codes "bound") [] a.bound) (price_lines s a.sheet.prices (call_count s))
    (worth_lines s a.sheet.worths (car_count s)) first second third c.put_worths.new.out.items c.in_ok-put_line.ensures.ok
    (c.in_ok-put_signed.ensures ∙ ap (λ (z : ℤ). first ++ signed_line (codes "bound") [] z) bound)
    (c.in_ok-put_prices.ensures ∙ ap (λ (ps : List ℤ). second ++ price_lines s ps (call_count s)) c.prices-prices.ensures.prices)
    (c.in_ok-put_worths.ensures ∙ ap (λ (ws : List ℤ). third ++ worth_lines s ws (car_count s)) c.worths-worths.ensures.worths)
