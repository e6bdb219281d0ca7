use Rattle.std.proofs.Common.{sym, ap, ◌∙◌, arith}
use Rattle.work_fan.specs.Line.{SeatView, LineView}
use Rattle.work_fan.proofs.Steps.{cuts}
use Rattle.work_fan.proofs.line.JobLine.split_by.Goals as goal

pub split_seat-new-requires : goal.split_seat-new-requires
split_seat-new-requires g c =
    let empty = ap (λ (s : SeatView). s.drawn) c.seat.view_is ∙ c.requires.empty in
    let allowance = ap (λ (s : SeatView). s.allowance) c.seat.view_is in
    let line = ap (λ (s : SeatView). s.line) c.seat.view_is ∙ c.requires.line ∙ sym (ap (λ (l : LineView). l.name) c.self.view_is) in (
      line,
      omega (arith, c.self.invariant.1),
      cuts _ _ _ _ empty (omega (arith, allowance, c.requires.part, c.requires.picked)),
    )
