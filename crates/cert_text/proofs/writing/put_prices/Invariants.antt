use Rattle.std.proofs.Common.{◌≡◌, ◌++◌, take}
use Rattle.std.specs.List.{flat_map}
use Rattle.text_sections.specs.Canonical.{line_text}
use Rattle.cert_text.specs.Texts.{price_words}
use Rattle.cert_text.proofs.writing.put_prices.Given as goal

abbrev pub invariant-loop-price : goal.invariant-loop-price
invariant-loop-price l = l.out.items ≡ l.fn.out.items ++ flat_map (λ x. line_text (price_words l.snapshot x)) (take l.price-index l.prices)
