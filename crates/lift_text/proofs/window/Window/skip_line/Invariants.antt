use Rattle.std.proofs.Common.{◌≡◌, ℕ, List, ◌+◌, ◌<◌, ◌≤◌, ◌++◌, length, true}
use Rattle.std.specs.Io.KnownBytes.{prepend_known, IsAtEnd}
use Rattle.lift_text.specs.Front.{NoLineFeed}
use Rattle.lift_text.proofs.window.Window.skip_line.Given as goal

-- a front without LF was passed over
abbrev pub invariant-skip : goal.invariant-skip
invariant-skip g l = record {
  some : 0 < length l.self.unread;
  front : (front : List ℕ) × NoLineFeed front
      × (prepend_known l.initial.self.unread (g.S.Source.left l.initial.source) ≡ prepend_known (front ++ l.self.unread) (g.S.Source.left l.source))
      × (l.self.quota + length l.self.unread + length front ≡ l.initial.self.quota + length l.initial.self.unread);
  taken : (taken : List ℕ) × (g.S.Source.left l.initial.source ≡ prepend_known taken (g.S.Source.left l.source))
      × (l.self.quota + length taken ≡ l.initial.self.quota);
  joined : l.initial.self.unread ++ taken.0 ≡ front.0 ++ l.self.unread;
  at_end : l.self.ended ≡ true → IsAtEnd (g.S.Source.left l.source);
  stays : l.initial.self.ended ≡ true → (l.self.ended ≡ true) × (l.source ≡ l.initial.source);
  counted : g.S.Source.faults l.initial.source ≤ g.S.Source.faults l.source;
}

abbrev pub decreases-skip : goal.decreases-skip
decreases-skip g l = l.self.quota
