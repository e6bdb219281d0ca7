use Rattle.std.proofs.Common.{◌≡◌, ◌++◌, ℕ, ap, arith, ◌∙◌}
use Rattle.std.specs.Prelude.{codes}
use Rattle.std.specs.List.{flat_map, range_with_len}
use Rattle.elevator_model.specs.Travel.{time_between}
use Rattle.lift_text.specs.Text.{word}
use Rattle.building_text.proofs.WrittenLemmas.{wrote_one, row_text}
use Rattle.building_text.proofs.writing.put_row.Goals as goal

pub loop-to-preserved : goal.loop-to-preserved
loop-to-preserved c =
    wrote_one (λ g. word (time_between c.args.travel.now c.args.floor g)) (c.args.out.now.items ++ codes "times") c.loop-to.out.items c.put_word.new.out.items
    (word c.time.result) c.loop-to.to c.loop-to.invariant c.in_ok-put_word.ensures.ok (ap word c.time.ensures.value)

pub returns : goal.returns
returns c =
    let all : c.loop-to.to ≡ c.args.travel.now.floors = omega (arith, c.floors-to-end.ensures.value) in
    let times = time_between c.args.travel.now c.args.floor in
    let wrote = c.loop-to.invariant ∙ ap (λ (n : ℕ). (c.args.out.now.items ++ codes "times") ++ flat_map (λ g. word (times g)) (range_with_len 0 n)) all in
    row_text c.args.out.now.items (codes "times") times
    (range_with_len 0 c.args.travel.now.floors) c.loop-to.out.items c.push.new.self.items wrote c.in_ok-push.ensures.items
