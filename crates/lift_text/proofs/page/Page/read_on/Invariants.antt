use Rattle.std.proofs.Common.{◌≡◌, ◌≤◌, true}
use Rattle.std.specs.Io.KnownBytes.{IsAtEnd}
use Rattle.lift_text.specs.Lines.{pieces_of}
use Rattle.lift_text.specs.Reading.{HasWholeAnswer}
use Rattle.lift_text.specs.Page.{Continues, Crossed, limit_of, text_at}
use Rattle.lift_text.proofs.page.Page.read_on.Given as goal

-- only lines without words were read
abbrev pub invariant-lines : goal.invariant-lines
invariant-lines g l = record {
  continues : Continues (text_at l.initial.self (g.S.Source.left l.initial.source)) (text_at l.self (g.S.Source.left l.source));
  failure : l.self.failure ≡ l.initial.self.failure;
  crossed : Crossed l.initial.self l.self (g.S.Source.left l.initial.source) (g.S.Source.left l.source);
  at_end : l.self.ended ≡ true → IsAtEnd (g.S.Source.left l.source);
  stays : l.initial.self.ended ≡ true → (l.self.ended ≡ true) × (l.source ≡ l.initial.source);
  unasked : HasWholeAnswer (pieces_of l.initial.self.unread) → (l.source ≡ l.initial.source) × HasWholeAnswer (pieces_of l.self.unread);
  counted : g.S.Source.faults l.initial.source ≤ g.S.Source.faults l.source;
}

abbrev pub decreases-lines : goal.decreases-lines
decreases-lines g l = limit_of l.self
