use Rattle.std.proofs.Common.{List, ◌≡◌, ◌≤◌, ◌++◌, ◌∙◌, sym, subst, ap, ℕ, Ok}
use Rattle.std.specs.Prelude.{All, drop}
use Rattle.lift_text.specs.LineReader.{words}
use Rattle.text_sections.specs.NumberLists.{numbers_of}
use Rattle.text_sections.proofs.NumberListLemmas.{numbers_high}
use Rattle.answer_text.proofs.said.stop_said.Goals as goal

pub calls_named-requires : goal.calls_named-requires
calls_named-requires g c =
    let line = words c.args.lines.now in
    let items = c.in_ok-numbers.ensures in
    let none = c.new-ids.ensures.items in
    let is : numbers_of 0 4294967295 (drop 2 line) ≡ Ok items.0 = ap (λ (high : ℕ). numbers_of 0 high (drop 2 line)) (sym c.from.ensures) ∙ items.1 in
    subst (All (λ n. n ≤ 4294967295)) (sym (c.deref.ensures.value ∙ items.2 ∙ ap (λ (xs : List ℕ). xs ++ items.0) none))
    (numbers_high (drop 2 line) 0 4294967295 items.0 is)
