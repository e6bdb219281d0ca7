use Rattle.std.proofs.Common.{ℕ, ◌<◌, ◌++◌, [], ◌∷◌, List, refl, sym, ap, ◌∙◌, subst, arith}
use Rattle.std.specs.List.{All}
use Rattle.std.proofs.lemmas.List.Elements.{All-same}
use mathlib.Core.Option.{none}
use Rattle.atomic_table.specs.Table.{Me, step}
use Rattle.work_fan.specs.declared.line.Share.{Share}
use Rattle.work_fan.specs.Line.{SeatView, LineView, EachOnce}
use Rattle.work_fan.proofs.Shares.{all_from_times}
use Rattle.work_fan.proofs.Steps.{draws}
use Rattle.work_fan.proofs.line.JobLine.draw.Goals as goal
use Rattle.work_fan.proofs.line.JobLine.draw.Goals.{then-number-from, else-number-from}

pub fetch_add-number-requires : goal.fetch_add-number-requires
fetch_add-number-requires c =
    let drawn = ap (λ (s : SeatView). s.drawn) c.seat.view_is in
    let allowance = ap (λ (s : SeatView). s.allowance) c.seat.view_is in
    let count = ap (λ (l : LineView). l.count) c.self.view_is in
    let line = ap (λ (s : SeatView). s.line) c.seat.view_is ∙ c.requires.line ∙ sym (ap (λ (l : LineView). l.name) c.self.view_is) in
    let Below : ℕ → Type 0 = λ n. All (λ k. k < n) c.args.seat.now.drawn in
    let goes_on = All-same (λ k. k < c.self.inside.table.shared.key.count) _ _ drawn (subst Below (sym count) c.requires.goes_on) in (
      line,
      omega (arith, c.self.invariant.1),
      draws _ _ _ _ (step 0 0 0 0 none) goes_on (omega (arith, allowance, c.requires.allowance)),
    )

pub returns-clause-number : goal.returns-clause-number
returns-clause-number c =
    let n = c.fetch_add-number.result in
    let told = c.fetch_add-number.ensures.2 in
    let drawn = ap (λ (s : SeatView). s.drawn) c.seat.view_is in
    let count = ap (λ (l : LineView). l.count) c.self.view_is in
    let kept = c.self.invariant.0 in
    let from = c.from.ensures in (
      n,
      ap (λ (me : Me (Unit {0}) Share). me.0.drawn) told.0 ∙ ap (λ (xs : List ℕ). xs ++ n ∷ []) drawn,
      elim c.if-number-from.branch [
        | then-number-from w ↦ rw w.result-is (omega (arith, w.if-number-from.true, from, kept, count), refl)
        | else-number-from w ↦ rw w.result-is (λ h. omega (arith, w.if-number-from.false, from, kept, count))
      ],
      All-same (λ k. k < n) _ _ (sym drawn) (all_from_times (λ k. k < n) c.seat.inside.seat.me.0.drawn told.1),
    )

pub returns-clause-once : goal.returns-clause-once
returns-clause-once c =
    let told = c.fetch_add-number.ensures.2 in
    subst EachOnce (sym (ap (λ (me : Me (Unit {0}) Share). me.0.drawn) told.0)) told.2
