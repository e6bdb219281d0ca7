use Rattle.std.proofs.Common.{◌≡◌, ◌∙◌, ℕ, ℤ, pos, ◌+ℤ◌, ◌-ℤ◌, ◌*ℤ◌, ◌<◌, length, slice_index, ap, arith}
use mir.Syntax.{w128}
use mir.Val.{to_z, of_z}
use Rattle.std.proofs.lemmas.List.{get_or_read, get_or-set_other}
use Rattle.search_model.specs.Prices.{price_at}
use Rattle.price_scale.specs.Scale.{cut}
use Rattle.price_ascent.proofs.MoveLemmas.{moved_more}
use Rattle.price_ascent.proofs.moves.adjust.Goals as goal

pub loop-call-preserved : goal.loop-call-preserved
loop-call-preserved c =
    let prices = c.loop-call.prices in
    let old = c.args.prices.now in
    let n = c.loop-call.call in
    let iv = c.loop-call.invariant in
    let step = to_z w128 (of_z w128 c.args.step) in
    let change : ℕ → ℤ = λ (j : ℕ). step *ℤ (pos 1 -ℤ pos (slice_index c.args.counts.now j)) in
    let within : n < length prices = omega (arith, c.loop-call-test.true, c.loop-call.auto.prices) in
    let price : c.index-prices-call.result ≡ price_at old n = get_or_read prices n c.index-prices-call.result within c.index-prices-call.is (pos 0)
    ∙ iv.others n (omega arith) in
    record {
      moved = moved_more prices old change n c.moved.result within iv.moved (c.moved.ensures ∙ ap (λ (z : ℤ). cut (z +ℤ change n)) price);
      others = λ j le. get_or-set_other prices n j c.moved.result (pos 0) (λ same. absurd (omega (arith, same, le))) ∙ iv.others j (omega (arith, le));
    }
