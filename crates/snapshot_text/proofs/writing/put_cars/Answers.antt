use Rattle.std.proofs.Common.{◌≡◌, refl}
use Rattle.text_sections.specs.Canonical.{line_text}
use Rattle.snapshot_text.specs.Texts.{state_words, car_words}
use Rattle.snapshot_text.proofs.Texts.{wrote_one}
use Rattle.snapshot_text.proofs.writing.put_cars.Goals as goal

pub loop-c-preserved : goal.loop-c-preserved
loop-c-preserved c =
    let s = c.args.snapshot.now in
    let line : line_text (state_words c.spec.result.now.id c.car.result) ≡ line_text (car_words s c.loop-c.c) =
    rw (c.spec.ensures.value, c.car.ensures.value) refl in
    wrote_one (λ k. line_text (car_words s k)) c.args.out.now.items c.loop-c.out.items c.put_state.new.out.items _ c.loop-c.c c.loop-c.invariant
    c.in_ok-put_state.ensures line
