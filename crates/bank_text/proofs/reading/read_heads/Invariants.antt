use Rattle.std.proofs.Common.{◌≡◌, ◌≤◌, None, length}
use Rattle.lift_text.specs.LineReader.{text, failure}
use Rattle.lift_text.specs.Shows.{WentOn}
use Rattle.bank_text.specs.Banks.{AreDistinct, ids_of}
use Rattle.bank_text.specs.BankTexts.{most_banks}
use Rattle.bank_text.proofs.HeadLemmas.{HeadsSoFar}
use Rattle.bank_text.proofs.TakenLemmas.{HeadsLead}
use Rattle.bank_text.proofs.reading.read_heads.Given as goal

-- this many banks were read, each with an id of its own
abbrev pub invariant-banks : goal.invariant-banks
invariant-banks g l = record {
  same_source : l.lines.source.ghost_name ≡ l.initial.lines.source.ghost_name;
  no_failure : failure l.lines ≡ None;
  went : WentOn (text g.S.Source.left l.initial.lines) (text g.S.Source.left l.lines);
  so_far : HeadsSoFar (text g.S.Source.left l.initial.lines) (text g.S.Source.left l.lines) l.banks.items;
  leads : HeadsLead (text g.S.Source.left l.initial.lines) (text g.S.Source.left l.lines) l.banks.items;
  distinct : AreDistinct (ids_of l.banks.items);
  count : length l.banks.items ≡ l.counter;
  few : length l.banks.items ≤ most_banks;
  counted : g.S.Source.faults l.initial.lines.source.now ≤ g.S.Source.faults l.lines.source.now;
}
