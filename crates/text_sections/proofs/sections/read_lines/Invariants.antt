use Rattle.std.proofs.Common.{◌≡◌, ◌≤◌, ◌<◌, None, length}
use Rattle.lift_text.specs.LineReader.{text, line, words, failure}
use Rattle.text_sections.specs.Between.{StandsBehind}
use Rattle.text_sections.proofs.SectionLemmas.{Leads, Counted}
use Rattle.text_sections.proofs.CanonicalLemmas.{Gone}
use Rattle.text_sections.proofs.UnfinishedLemmas.{Remains}
use Rattle.text_sections.proofs.sections.read_lines.Given as goal

-- the lines so far were good, and each was counted
abbrev pub invariant-lines : goal.invariant-lines
invariant-lines g l = record {
  same_source : l.lines.source.ghost_name ≡ l.initial.lines.source.ghost_name;
  same_failure : failure l.lines ≡ failure l.initial.lines;
  no_failure : 0 < l.counter → failure l.lines ≡ None;
  some_words : 0 < l.counter → 0 < length (words l.lines);
  leads : failure l.initial.lines ≡ None
      → Leads g.T.Section.after (text g.S.Source.left l.initial.lines) l.initial.section l.section (text g.S.Source.left l.lines);
  remains : failure l.initial.lines ≡ None
      → Remains g.T.Section.after (text g.S.Source.left l.initial.lines) l.initial.section l.section (text g.S.Source.left l.lines);
  risen : failure l.initial.lines ≡ None → Counted (text g.S.Source.left l.initial.lines) l.counter (text g.S.Source.left l.lines);
  gone : Gone g.T.Section.after l.initial.section l.section;
  behind : failure l.initial.lines ≡ None → StandsBehind (text g.S.Source.left l.initial.lines) (text g.S.Source.left l.lines);
  bound : line l.lines ≤ 67108864;
  counted : g.S.Source.faults l.initial.lines.source.now ≤ g.S.Source.faults l.lines.source.now;
}
