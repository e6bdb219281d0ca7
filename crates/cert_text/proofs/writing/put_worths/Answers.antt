use Rattle.std.proofs.Common.{List, ◌++◌, ◌∙◌, ap, ℕ}
use Rattle.std.specs.List.{flat_map}
use Rattle.std.proofs.lemmas.List.{take_all}
use Rattle.search_model.specs.declared.WorthOf.{WorthOf}
use Rattle.text_sections.specs.Canonical.{line_text}
use Rattle.cert_text.specs.Texts.{worth_words}
use Rattle.cert_text.proofs.LineTexts.{worths_are}
use Rattle.cert_text.proofs.writing.put_worths.Goals as goal

pub returns-clause-text : goal.returns-clause-text
returns-clause-text c =
    let s = c.args.snapshot.now in
    let items = c.args.worths.now in
    let old = c.args.out.now.items in
    c.loop-worth.invariant
    ∙ ap (λ (xs : List WorthOf). old ++ flat_map (λ x. line_text (worth_words s x)) xs) (take_all c.loop-worth.worth-index items c.loop-worth-test.false)
    ∙ ap (λ (xs : List ℕ). old ++ xs) (worths_are s items)
