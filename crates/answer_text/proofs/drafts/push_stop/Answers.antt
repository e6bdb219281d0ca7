use Rattle.std.proofs.Common.{◌≡◌, ◌+◌, ◌-◌, length, refl, arith}
use Rattle.std.specs.Prelude.{vec_len}
use Rattle.answer_text.proofs.Lines.{ok_then}
use Rattle.answer_text.proofs.StepLemmas.{set_last}
use Rattle.answer_text.proofs.drafts.push_stop.Goals as goal

pub returns-in-Some : goal.returns-in-Some
returns-in-Some c =
    let tours = c.args.tours.now in
    let size = tours.ok.0 in
    let some = c.in-Some.ensures.variant.0 refl in
    let last : vec_len tours - 1 + 1 ≡ length tours.items = omega (arith, size, some) in
    ok_then c.push.result c.push.ensures.ok
    (set_last tours.items c.args.stop (vec_len tours - 1) c.in-Some.tour.now c.push.new.self last c.in-Some.ensures.value)
