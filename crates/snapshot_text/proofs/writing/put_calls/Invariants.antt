use Rattle.std.proofs.Common.{◌≡◌, ◌++◌, take}
use Rattle.std.specs.List.{flat_map}
use Rattle.text_sections.specs.Canonical.{line_text}
use Rattle.snapshot_text.specs.Texts.{call_words}
use Rattle.snapshot_text.proofs.writing.put_calls.Given as goal

abbrev pub invariant-loop-call : goal.invariant-loop-call
invariant-loop-call l =
    l.out.items ≡ l.fn.out.items ++ flat_map (λ x. line_text (call_words l.snapshot.building x)) (take l.call-index l.snapshot.calls)
