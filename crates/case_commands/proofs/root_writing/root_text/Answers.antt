use Rattle.std.proofs.Common.{◌++◌, [], ◌∙◌, List, ℕ, ap}
use Rattle.case_commands.specs.RootTexts.{halves_text, reason_line, sheet_text}
use Rattle.case_commands.proofs.RootTextLemmas.{three_parts}
use Rattle.case_commands.proofs.root_writing.root_text.Goals as goal

pub returns : goal.returns
returns c =
    let s = c.args.snapshot.now in
    let a = c.args.answer.now in
    three_parts [] (sheet_text s a) (halves_text s a) (reason_line s a.why) c.put_sheet.new.out.items c.put_halves.new.out.items c.put_reason.new.out.items
    (c.in_ok-put_sheet.ensures ∙ ap (λ (xs : List ℕ). xs ++ sheet_text s a) c.new-text.ensures.items) c.in_ok-put_halves.ensures c.in_ok-put_reason.ensures
