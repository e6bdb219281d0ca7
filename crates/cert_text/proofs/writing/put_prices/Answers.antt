use Rattle.std.proofs.Common.{List, ◌++◌, ◌∙◌, ap, ℕ}
use Rattle.std.specs.List.{flat_map}
use Rattle.std.proofs.lemmas.List.{take_all}
use Rattle.search_model.specs.declared.PriceOf.{PriceOf}
use Rattle.text_sections.specs.Canonical.{line_text}
use Rattle.cert_text.specs.Texts.{price_words}
use Rattle.cert_text.proofs.LineTexts.{prices_are}
use Rattle.cert_text.proofs.writing.put_prices.Goals as goal

pub returns-clause-text : goal.returns-clause-text
returns-clause-text c =
    let s = c.args.snapshot.now in
    let items = c.args.prices.now in
    let old = c.args.out.now.items in
    c.loop-price.invariant
    ∙ ap (λ (xs : List PriceOf). old ++ flat_map (λ x. line_text (price_words s x)) xs) (take_all c.loop-price.price-index items c.loop-price-test.false)
    ∙ ap (λ (xs : List ℕ). old ++ xs) (prices_are s items)
