use Rattle.std.proofs.Common.{◌≡◌, ℕ, get_or, replicate, arith, inl, inr}
use Rattle.std.proofs.lemmas.Bool.{cases_lt}
use Rattle.std.proofs.lemmas.List.{get_or-replicate, get_or_past, length-replicate}
use Rattle.tour_cost.proofs.costs.no_moments.Goals as goal

zeros : (n a j : ℕ) → get_or (replicate n a) j a ≡ a
zeros n a j = elim (cases_lt j n) [
  | inl below ↦ get_or-replicate n j a a below
  | inr above ↦ get_or_past (replicate n a) j a (let long = length-replicate n a in omega (arith, long))
]

pub returns : goal.returns
returns c = λ j. zeros 128 0 j
