use Rattle.std.proofs.Common.{◌≡◌, ◌≢◌, ℕ, List, ◌++◌, ◌+◌, ◌<◌, ◌≤◌, length, get_or, true}
use Rattle.std.specs.Io.KnownBytes.{prepend_known, IsAtEnd}
use Rattle.lift_text.specs.Lines.{HasWholeLine}
use Rattle.lift_text.proofs.window.Window.find.Given as goal

-- no LF is among the first `searched` bytes, nothing of what was left is used, and the source was not asked where
-- a whole line was there
abbrev pub invariant-search : goal.invariant-search
invariant-search g l = record {
  within : l.searched ≤ length l.self.unread;
  none : (k : ℕ) → k < l.searched → get_or l.self.unread k 0 ≢ 10;
  known : prepend_known l.initial.self.unread (g.S.Source.left l.initial.source) ≡ prepend_known l.self.unread (g.S.Source.left l.source);
  quota : l.self.quota + length l.self.unread ≡ l.initial.self.quota + length l.initial.self.unread;
  taken : (taken : List ℕ) × (g.S.Source.left l.initial.source ≡ prepend_known taken (g.S.Source.left l.source))
      × (l.initial.self.unread ++ taken ≡ l.self.unread);
  counted : g.S.Source.faults l.initial.source ≤ g.S.Source.faults l.source;
  at_end : l.self.ended ≡ true → IsAtEnd (g.S.Source.left l.source);
  stays : l.initial.self.ended ≡ true → (l.self.ended ≡ true) × (l.source ≡ l.initial.source);
  unasked : HasWholeLine l.initial.self.unread → (l.source ≡ l.initial.source) × (l.self.unread ≡ l.initial.self.unread);
}

abbrev pub decreases-search : goal.decreases-search
decreases-search g l = l.self.quota
