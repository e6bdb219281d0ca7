use Rattle.std.proofs.Common.{◌≡◌, ◌∙◌, ◌&&◌, sym}
use Rattle.std.proofs.lemmas.Bool.{and_left}
use Rattle.call_sets.specs.Counting.{has}
use Rattle.elevator_model.specs.Tours.{make_stop}
use Rattle.search_model.specs.Extending.{is_one_way, none_left, none_skipped, all_fit, has_use}
use Rattle.tour_extension.specs.Points.{missing_can_board}
use Rattle.tour_extension.proofs.SetTests.{and_true, four_together, one_way_told}
use Rattle.tour_extension.proofs.extending.can_go_on.Goals as goal
use Rattle.tour_extension.proofs.extending.can_go_on.Goals.{then-is_one_way, else-is_one_way}

pub returns-then-missing_can_board : goal.returns-then-missing_can_board
returns-then-missing_can_board c = λ q stop at.
    let s = c.args.layout.now.snapshot in
    let car = c.args.layout.now.car in
    let required = has c.args.demand.now.required in
    let p = make_stop s car q stop in
    let one = is_one_way s p in
    let all = missing_can_board s car required q stop in
    let used = has_use s car (has c.args.demand.now.allowed) required q p stop in
    let told : c.is_one_way.result ≡ one = c.is_one_way.ensures ∙ one_way_told s p c.of.result (c.of.ensures s car q stop at) in
    let both : c.if-is_one_way.value ≡ (one && all) = elim c.if-is_one_way.branch [
      | then-is_one_way w ↦ w.value-is ∙ w.missing_can_board.ensures q stop at ∙ sym (and_true one all (sym told ∙ w.if-is_one_way.true))
      | else-is_one_way w ↦ w.value-is ∙ w.if-is_one_way.false ∙ sym (and_left one all (sym told ∙ w.if-is_one_way.false))
    ] in
    c.has_use.ensures q stop at ∙ sym (and_true (one && all) used (sym both ∙ c.if-missing_can_board.true))
    ∙ four_together one (none_left s required q p) (none_skipped s required p stop) (all_fit s car required p stop) used

pub returns-else-missing_can_board : goal.returns-else-missing_can_board
returns-else-missing_can_board c = λ q stop at.
    let s = c.args.layout.now.snapshot in
    let car = c.args.layout.now.car in
    let required = has c.args.demand.now.required in
    let p = make_stop s car q stop in
    let one = is_one_way s p in
    let all = missing_can_board s car required q stop in
    let used = has_use s car (has c.args.demand.now.allowed) required q p stop in
    let told : c.is_one_way.result ≡ one = c.is_one_way.ensures ∙ one_way_told s p c.of.result (c.of.ensures s car q stop at) in
    let both : c.if-is_one_way.value ≡ (one && all) = elim c.if-is_one_way.branch [
      | then-is_one_way w ↦ w.value-is ∙ w.missing_can_board.ensures q stop at ∙ sym (and_true one all (sym told ∙ w.if-is_one_way.true))
      | else-is_one_way w ↦ w.value-is ∙ w.if-is_one_way.false ∙ sym (and_left one all (sym told ∙ w.if-is_one_way.false))
    ] in
    c.if-missing_can_board.false ∙ sym (and_left (one && all) used (sym both ∙ c.if-missing_can_board.false))
    ∙ four_together one (none_left s required q p) (none_skipped s required p stop) (all_fit s car required p stop) used
