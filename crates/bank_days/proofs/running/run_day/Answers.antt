use Rattle.std.proofs.Common.{◌≡◌, ℕ, ap, arith, ltb}
use Rattle.day_laws.specs.Standing.{row_number}
use Rattle.bank_days.proofs.BankLemmas.{day-logged}
use Rattle.bank_days.proofs.running.run_day.Goals as goal

pub run_rows-requires-clause-few : goal.run_rows-requires-clause-few
run_rows-requires-clause-few g c =
    let first : row_number c.in_ok-day.day ≡ 1 = ap row_number c.in_ok-day.ensures.day in
    omega (arith, first, c.requires.few)

pub returns : goal.returns
returns g c =
    let rows = c.in_ok-run_rows.ensures in
    let ended = c.in_ok-finish.ensures in
    day-logged (g.P.Planner.right c.args.planner.now) c.requires.sound c.args.opening.now c.args.rows.now _ c.in_ok-day.day c.run_rows.new.day
    c.in_ok-text.text.items c.run_rows.new.log.items
    c.in_ok-day.ensures.accepted c.requires.opening c.in_ok-day.ensures.day c.in_ok-text.ensures.items rows.done rows.none_lost ended.delivered ended.log
    (ap (λ (n : ℕ). ltb 0 n) c.unsolved-is_stopped.ensures.value)
