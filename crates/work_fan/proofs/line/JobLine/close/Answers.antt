use Rattle.std.proofs.Common.{◌≡◌, ℕ, List, length, sym, ap, ◌∙◌, subst}
use Rattle.work_fan.specs.Line.{SeatView, LineView, EachBelow}
use Rattle.work_fan.proofs.Steps.{ends, all_drawn}
use Rattle.work_fan.proofs.line.JobLine.close.Goals as goal

-- what the last state says of the whole seat
last : (c : goal.After-free) → EachBelow c.word-draws.result c.args.seat.drawn × (c.word-draws.result ≡ length c.args.seat.drawn)
last c =
    let drawn = ap (λ (s : SeatView). s.drawn) c.seat.view_is in
    let whole = ap (λ (s : SeatView). s.allowance) c.seat.view_is ∙ c.requires.whole ∙ sym (ap (λ (l : LineView). l.workers) c.self.view_is) in
    let n = c.word-draws.result in
    let all = ends _ _ _ _ _ n whole c.close_with-closed.ensures.values.2 c.word-draws.ensures in
    (subst (EachBelow n) drawn all.0, all.1 ∙ ap (λ (xs : List ℕ). length xs) drawn)

pub returns-clause-numbers : goal.returns-clause-numbers
returns-clause-numbers c = (last c).0

pub returns-clause-draws : goal.returns-clause-draws
returns-clause-draws c = (last c).1

pub returns-clause-complete : goal.returns-clause-complete
returns-clause-complete c = λ any. all_drawn c.args.self.count c.word-draws.result c.args.seat.drawn (last c).0 any
