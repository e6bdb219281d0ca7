-- When stops are the same.
use Rattle.std.specs.Prelude.{Bool, ◌==◌}
use Rattle.std.specs.Ordering.{on, eq_of_both}
use Rattle.std.specs.Cmp.{IsPartialEquivalence, nat_eq_equiv, partial_equiv_from_equiv, on_per, and_per}
use Rattle.std.specs.Cmp.Lexicographic.{pointwise, lists_per}
use Rattle.elevator_model.specs.declared.Stop.{Stop}

-- the floors are the same, and so are the calls in their order
abbrev pub same_stop : Stop → Stop → Bool
same_stop = eq_of_both (on (λ (s : Stop). s.floor) ◌==◌) (on (λ (s : Stop). s.boards) (pointwise ◌==◌))

pub same_stop_law : IsPartialEquivalence same_stop
same_stop_law =
    and_per (on_per (λ (s : Stop). s.floor) (partial_equiv_from_equiv nat_eq_equiv))
    (on_per (λ (s : Stop). s.boards) (lists_per (partial_equiv_from_equiv nat_eq_equiv)))
