use Rattle.std.proofs.Common.{◌≡◌, ◌++◌, take}
use Rattle.std.specs.List.{flat_map}
use Rattle.text_sections.specs.Canonical.{line_text}
use Rattle.snapshot_text.specs.Texts.{group_words}
use Rattle.snapshot_text.proofs.writing.put_groups.Given as goal

abbrev pub invariant-loop-group : goal.invariant-loop-group
invariant-loop-group l =
    l.out.items ≡ l.fn.out.items ++ flat_map (λ x. line_text (group_words l.snapshot.building x)) (take l.group-index l.snapshot.aboard)
