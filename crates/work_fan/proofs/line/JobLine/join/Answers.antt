use Rattle.std.proofs.Common.{sym, ap, ◌∙◌, subst, arith}
use mathlib.Core.Option.{none}
use Rattle.atomic_table.specs.Table.{Me, step}
use Rattle.work_fan.specs.declared.line.Share.{Share}
use Rattle.work_fan.specs.Line.{SeatView, LineView, EachOnce}
use Rattle.work_fan.proofs.Steps.{merges, looks}
use Rattle.work_fan.proofs.line.JobLine.join.Goals as goal

pub join_seat-requires : goal.join_seat-requires
join_seat-requires c =
    let name = ap (λ (l : LineView). l.name) c.self.view_is in (
      ap (λ (s : SeatView). s.line) c.seat.view_is ∙ c.requires.seat ∙ sym name,
      ap (λ (s : SeatView). s.line) c.other.view_is ∙ c.requires.other ∙ sym name,
      c.other.invariant,
      omega (arith, c.self.invariant.1),
      merges _ _ _ _ _,
    )

pub load-requires : goal.load-requires
load-requires c =
    let name = ap (λ (l : LineView). l.name) c.self.view_is in (
      c.join_seat.ensures.0 ∙ ap (λ (s : SeatView). s.line) c.seat.view_is ∙ c.requires.seat ∙ sym name,
      omega (arith, c.self.invariant.1),
      looks _ _ _ _ (step 0 0 0 0 none),
    )

pub returns-clause-once : goal.returns-clause-once
returns-clause-once c =
    let told = c.load.ensures.2 in
    subst EachOnce (sym (ap (λ (me : Me (Unit {0}) Share). me.0.drawn) told.0)) told.1
