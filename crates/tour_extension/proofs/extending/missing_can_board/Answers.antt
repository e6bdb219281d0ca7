use Rattle.std.proofs.Common.{◌≡◌, ◌∙◌, ◌&&◌, sym}
use Rattle.std.proofs.lemmas.Bool.{and_left}
use Rattle.call_sets.specs.Counting.{has}
use Rattle.elevator_model.specs.Tours.{make_stop}
use Rattle.search_model.specs.Extending.{none_left, none_skipped, all_fit}
use Rattle.tour_extension.proofs.SetTests.{and_true, none_missing}
use Rattle.tour_extension.proofs.extending.missing_can_board.Goals as goal
use Rattle.tour_extension.proofs.extending.missing_can_board.Goals.{then-none_left, else-none_left}

pub returns-then-is_empty : goal.returns-then-is_empty
returns-then-is_empty c = λ q stop at.
    let l = c.args.layout.now in
    sym (none_missing l.snapshot l.car (has c.args.demand.now.required) c.args.point.now q stop c.missing_calls.result at c.missing_calls.ensures
    (c.is_empty.ensures.none c.if-is_empty.true))

pub returns-then-none_skipped : goal.returns-then-none_skipped
returns-then-none_skipped c = λ q stop at.
    let s = c.args.layout.now.snapshot in
    let car = c.args.layout.now.car in
    let required = has c.args.demand.now.required in
    let p = make_stop s car q stop in
    let left = none_left s required q p in
    let skipped = none_skipped s required p stop in
    let fit = all_fit s car required p stop in
    let told : c.none_left.result ≡ left = c.none_left.ensures s car q stop c.requires at in
    let both : c.if-none_left.value ≡ (left && skipped) = elim c.if-none_left.branch [
      | then-none_left w ↦ w.value-is ∙ w.none_skipped.ensures s car q stop c.requires at ∙ sym (and_true left skipped (sym told ∙ w.if-none_left.true))
      | else-none_left w ↦ w.value-is ∙ w.if-none_left.false ∙ sym (and_left left skipped (sym told ∙ w.if-none_left.false))
    ] in
    c.all_fit.ensures q stop at ∙ sym (and_true (left && skipped) fit (sym both ∙ c.if-none_skipped.true))

pub returns-else-none_skipped : goal.returns-else-none_skipped
returns-else-none_skipped c = λ q stop at.
    let s = c.args.layout.now.snapshot in
    let car = c.args.layout.now.car in
    let required = has c.args.demand.now.required in
    let p = make_stop s car q stop in
    let left = none_left s required q p in
    let skipped = none_skipped s required p stop in
    let fit = all_fit s car required p stop in
    let told : c.none_left.result ≡ left = c.none_left.ensures s car q stop c.requires at in
    let both : c.if-none_left.value ≡ (left && skipped) = elim c.if-none_left.branch [
      | then-none_left w ↦ w.value-is ∙ w.none_skipped.ensures s car q stop c.requires at ∙ sym (and_true left skipped (sym told ∙ w.if-none_left.true))
      | else-none_left w ↦ w.value-is ∙ w.if-none_left.false ∙ sym (and_left left skipped (sym told ∙ w.if-none_left.false))
    ] in
    c.if-none_skipped.false ∙ sym (and_left (left && skipped) fit (sym both ∙ c.if-none_skipped.false))
