use Rattle.std.proofs.Common.{◌≡◌, drop}
use Rattle.text_sections.proofs.NumberListLemmas.{with_front}
use Rattle.answer_text.specs.Words.{calls_named}
use Rattle.answer_text.proofs.said.calls_named.Given as goal

-- the calls so far, and those of the ids that are left
abbrev pub invariant-loop-id : goal.invariant-loop-id
invariant-loop-id l = calls_named l.snapshot l.ids ≡ with_front l.boards (calls_named l.snapshot (drop l.id-index l.ids))
