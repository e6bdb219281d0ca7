use Rattle.std.proofs.Common.{◌∙◌, ℕ, not, ap, length, get_or, refl, arith}
use Rattle.std.specs.Prelude.{ℤ, pos, int_lt}
use Rattle.std.proofs.lemmas.Int.{ints}
use Rattle.route_sums.specs.Rows.{no_term, row_at, row_part}
use Rattle.route_sums.proofs.FilterLemmas.{none_filtered, one_filtered}
use Rattle.route_sums.proofs.RowLemmas.{counted_size, counted_stored, none_in_row, one_in_row, row_sum_low, stored_64}
use Rattle.route_sums.proofs.rows.row_sum.Goals as goal

pub loop-call-init : goal.loop-call-init
loop-call-init c =
    let row = c.args.row.now in
    let left = ap (λ it. it.left) c.into_iter-call-iterator.ensures.into_iter_gives ∙ c.iter-call-items.ensures in
    record {
      added = none_in_row c.args.calls c.into_iter-call-iterator.result.left (length row)
          (row_part row c.args.leaves) _ c.requires.few c.requires.within left refl;
      waiting = none_filtered (length row) c.args.calls c.into_iter-call-iterator.result.left
          (λ j. int_lt (row_at (get_or row j no_term) c.args.leaves) (pos 0)) c.requires.few c.requires.within left;
    }

pub loop-call-preserved : goal.loop-call-preserved
loop-call-preserved c =
    let row = c.args.row.now in
    let j = c.in-Some.call in
    let test = λ (k : ℕ). int_lt (row_at (get_or row k no_term) c.args.leaves) (pos 0) in
    let least = c.at.ensures.least in
    let most = c.at.ensures.most in
    let is = c.at.ensures.value in
    let size = counted_size (row_at (get_or row j no_term) c.args.leaves) (omega (arith, ints, least, is)) in
    let stored = stored_64 c.at.result (omega (arith, ints, least)) (omega (arith, ints, most)) ∙ is in
    record {
      added = one_in_row c.args.calls (length row) j (row_part row c.args.leaves) _ _ _ _ c.loop-call.invariant.added c.in-Some.ensures.steps
          (counted_stored _ _ _ c.at.result least most is c.with-sum.ensures.added) size.0 size.1;
      waiting = one_filtered (length row) c.args.calls j _ _ test _ _ _ c.loop-call.invariant.waiting c.in-Some.ensures.steps
          (ap (λ (z : ℤ). not (int_lt z (pos 0))) stored) c.with-sum.ensures.waiting;
    }

pub returns-clause-low : goal.returns-clause-low
returns-clause-low c = row_sum_low c.args.calls (length c.args.row.now) (row_part c.args.row.now c.args.leaves) _ _ c.loop-call.invariant.added

pub returns-clause-high : goal.returns-clause-high
returns-clause-high c = c.loop-call.invariant.added.high
