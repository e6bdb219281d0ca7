use Rattle.std.proofs.Common.{◌≡◌, ℕ, ◌<◌, length, slice_index}
use Rattle.car_layout.specs.Layouts.{persons_to, moments_to}
use Rattle.car_layout.proofs.groups.lay_out_riders.Given as goal

abbrev pub invariant-loop-floor : goal.invariant-loop-floor
invariant-loop-floor l = record {
  persons_size : length l.persons ≡ 64;
  moments_size : length l.moments ≡ 64;
  persons : (g : ℕ) → g < l.floor → slice_index l.persons g ≡ persons_to l.snapshot.aboard l.car g;
  moments : (g : ℕ) → g < l.floor → slice_index l.moments g ≡ moments_to l.snapshot.aboard l.car g;
}
