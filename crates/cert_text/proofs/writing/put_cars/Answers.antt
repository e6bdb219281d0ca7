use Rattle.std.proofs.Common.{ℕ, List, [], ◌++◌, ◌∙◌, ap, sym, append-nil}
use Rattle.std.specs.List.{flat_map}
use Rattle.call_sets.specs.Counting.{members}
use Rattle.elevator_model.specs.Snapshot.{spec_of}
use Rattle.lift_text.specs.Text.{word}
use Rattle.cert_text.proofs.LineTexts.{begins, begins_behind, next_written}
use Rattle.cert_text.proofs.writing.put_cars.Goals as goal

pub loop-c-init : goal.loop-c-init
loop-c-init c =
    let s = c.args.snapshot.now in
    let out = c.args.out.now.items in
    let words : ℕ → List ℕ = λ k. word (spec_of s k).id in
    let left = ap (λ it. it.left) c.into_iter-c-iterator.ensures.into_iter_gives ∙ c.iter-c-items.ensures in
    record { text = ap (λ (set : ℕ). out ++ flat_map words (members 16 set)) left; kept = begins out out [] (sym (append-nil out)) }

pub loop-c-preserved : goal.loop-c-preserved
loop-c-preserved c =
    let s = c.args.snapshot.now in
    let words : ℕ → List ℕ = λ k. word (spec_of s k).id in
    record {
      text = next_written words c.loop-c.out.items c.put_word.new.out.items _ _ _ c.in-Some.c c.loop-c.invariant.text c.in-Some.ensures.steps
          (c.in_ok-put_word.ensures.ok ∙ ap (λ (n : ℕ). c.loop-c.out.items ++ word n) c.id_of_car.ensures);
      kept = begins_behind c.args.out.now.items c.loop-c.out.items c.put_word.new.out.items _ _ c.loop-c.invariant.kept c.in_ok-put_word.ensures.ok;
    }
