use Rattle.std.proofs.Common.{ℕ, List, ◌<◌, ◌++◌, ◌==◌, length, filter, ◌∙◌, sym, ap, subst, arith}
use Rattle.std.specs.List.{flat_map, AllByRecursion}
use Rattle.std.specs.Prelude.{slice_index_or}
use Rattle.elevator_model.specs.declared.Call.{Call}
use Rattle.call_sets.specs.Counting.{members}
use Rattle.elevator_model.specs.Snapshot.{call_count, call_of, no_call}
use Rattle.lift_text.specs.Text.{word}
use Rattle.answer_text.proofs.Boards.{members_written, members_calls, next_written, calls_few}
use Rattle.answer_text.proofs.writing.put_boards.Goals as goal

pub loop-j-init : goal.loop-j-init
loop-j-init c =
    let s = c.args.snapshot.now in
    let boards = c.args.boards.now in
    let out = c.args.out.now.items in
    let words : ℕ → List ℕ = λ j. flat_map (λ i. word (call_of s i).id) (filter (λ x. x == j) boards) in
    let left = ap (λ it. it.left) c.into_iter-j-iterator.ensures.into_iter_gives ∙ c.iter-j-items.ensures in
    record {
      text = ap (λ (set : ℕ). out ++ flat_map words (members 128 set)) left
          ∙ ap (λ (xs : List ℕ). out ++ xs)
          (members_written s boards c.of_list.result c.of_list.ensures c.requires (calls_few s c.calls-calls.ensures.accepted));
      calls = subst (λ (set : ℕ). AllByRecursion (λ j. j < call_count s) (members 128 set)) (sym left)
          (members_calls s boards c.of_list.result c.of_list.ensures c.requires);
    }

pub bounds-calls-j : goal.bounds-calls-j
bounds-calls-j c =
    let s = c.args.snapshot.now in
    let all = subst (AllByRecursion (λ j. j < call_count s)) c.in-Some.ensures.steps c.loop-j.invariant.calls in
    let same = ap length c.calls-calls.ensures.value in
    omega (arith, all.0, same)

pub loop-j-preserved : goal.loop-j-preserved
loop-j-preserved c =
    let s = c.args.snapshot.now in
    let all = subst (AllByRecursion (λ j. j < call_count s)) c.in-Some.ensures.steps c.loop-j.invariant.calls in
    record {
      text = next_written s c.args.boards.now c.loop-j.out.items c.put_board.new.out.items _ _ _ c.in-Some.j c.loop-j.invariant.text c.in-Some.ensures.steps
          (c.in_ok-put_board.ensures
          ∙ ap (λ (calls : List Call). c.loop-j.out.items
          ++ flat_map (λ x. word (slice_index_or calls c.in-Some.j no_call).id) (filter (λ x. x == c.in-Some.j) c.args.boards.now))
          c.calls-calls.ensures.value);
      calls = all.1;
    }
