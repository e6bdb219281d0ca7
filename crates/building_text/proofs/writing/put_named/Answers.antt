use Rattle.std.proofs.Common.{◌≡◌, ◌++◌, subst}
use Rattle.std.specs.Prelude.{OnOk}
use Rattle.text_sections.proofs.CanonicalLemmas.{line_of_numbers}
use Rattle.building_text.proofs.writing.put_named.Goals as goal

pub returns : goal.returns
returns c = subst (λ text. OnOk c.put_line.result (c.put_line.new.out.items ≡ c.args.out.now.items ++ text))
    (line_of_numbers c.args.name.now c.args.numbers.now) c.put_line.ensures.ok
