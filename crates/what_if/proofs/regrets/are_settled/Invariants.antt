-- Each extra so far is settled.
use Rattle.std.proofs.Common.{◌≡◌, ◌<◌, ℕ, true}
use Rattle.what_if.specs.WhatIf.{extra_at, is_settled}
use Rattle.what_if.proofs.regrets.are_settled.Given as goal

abbrev pub invariant-loop-extra : goal.invariant-loop-extra
invariant-loop-extra l = (c : ℕ) → c < l.extra-index → is_settled (extra_at l.extras c) ≡ true
