-- Worked rows: words that are taken, and words that are not.
use Rattle.std.specs.Prelude.{◌≡◌, ◌<◌, ◌^◌, ℕ, T, leb, zero, suc, true, false, [], ◌∷◌, codes, refl, slice_index_or, Option, Some, None}
use Rattle.std.proofs.Common.{ap, arith, lit<, lit≤}
use Rattle.std.specs.List.{Contains}
use Rattle.clap.proofs.OnLiterals.{clap_on_literals}
use Rattle.clap.specs.Walk.{Text}
use Rattle.option_words.specs.Repeats.{IsRepeated, Repeats}
use Rattle.lift_words.specs.Taken.{AreTaken}
use Rattle.lift_words.specs.declared.request.Request.{Request}
use Rattle.lift_words.specs.declared.request.Request.TheVariants.{Solve, Check, Day, Report, Make, Run, Table, WhatIf, Banks, Root, Audit}
use Rattle.search_model.specs.declared.limits.Limits.{Limits}
use Rattle.work_fan.specs.declared.runtime.Workers.{Workers}

-- numbers that compute to be in a range
abbrev IsFrom1To : ℕ → ℕ → Type 0
IsFrom1To most n = T (leb 1 n) × T (leb n most)

abbrev limits_of : (rounds most_tours : ℕ) → IsFrom1To (10 ^ 18) rounds → IsFrom1To (10 ^ 18) most_tours → Limits
limits_of rounds most_tours few_rounds few_tours = record {
  rounds = rounds;
  most_tours = most_tours;
  range = ((lit≤ few_rounds.0, lit≤ few_rounds.1), (lit≤ few_tours.0, lit≤ few_tours.1));
}

abbrev workers_of : (count : ℕ) → IsFrom1To 16 count → Workers
workers_of count few = record { count = count; range = (lit≤ few.0, lit≤ few.1) }

-- one word alone repeats none
alone : (word : Text) → IsRepeated (word ∷ []) → ⊥
alone word r = absurd (omega (arith, r.order, r.within))

-- the first byte of a word, if there is one
abbrev first_byte : Option Text → ℕ
first_byte None = 0
first_byte (Some []) = 0
first_byte (Some (b ∷ word)) = b

-- two words repeat none where the second does not repeat the first
two : (one other : Text) → (Repeats one other → ⊥) → IsRepeated (one ∷ other ∷ []) → ⊥
two one other unlike r = by_places r.first r.second r.order r.within r.repeats
  where
    by_places : (first second : ℕ) → first < second → second < 2
        → Repeats (slice_index_or (one ∷ other ∷ []) first []) (slice_index_or (one ∷ other ∷ []) second []) → ⊥
    by_places zero zero order within same = absurd (omega arith)
    by_places zero (suc zero) order within same = unlike same
    by_places zero (suc (suc k)) order within same = absurd (omega arith)
    by_places (suc j) k order within same = absurd (omega arith)

pub solve_by_defaults : AreTaken (codes "lift" ∷ codes "solve" ∷ codes "--brief" ∷ [])
    (Solve (record { limits = limits_of 2000 75000 (tt, tt) (tt, tt); workers = workers_of 1 (tt, tt); claims = 1000000000; brief = true; progress = false }))
unfolding clap_on_literals
solve_by_defaults = record {
  command = refl;
  unrepeated = alone (codes "--brief");
  no_dashes = only;
  accepted = refl;
  asks = record { brief = (λ _. refl, λ _. refl); progress = (λ e. absurd cc, λ e. absurd cc); rounds = refl; moves = refl; workers = refl; claims = refl };
}
  where
    only : Contains (codes "--brief" ∷ []) (codes "--") → ⊥
    only (zero, lt, same) = absurd cc
    only (suc k, lt, same) = absurd (omega arith)

pub make_with_four_floors : AreTaken (codes "lift" ∷ codes "make" ∷ codes "--floors=004" ∷ []) (Make (record { number = 1; floors = 4; cars = 4; calls = 20 }))
unfolding clap_on_literals
make_with_four_floors = record {
  command = refl;
  unrepeated = alone (codes "--floors=004");
  no_dashes = only;
  accepted = refl;
  asks = record { no_run = λ e. absurd cc; case = record { number = refl; floors = refl; cars = refl; calls = refl }; rounds = refl; moves = refl };
}
  where
    only : Contains (codes "--floors=004" ∷ []) (codes "--") → ⊥
    only (zero, lt, same) = absurd cc
    only (suc k, lt, same) = absurd (omega arith)

pub run_with_five_rounds : AreTaken (codes "lift" ∷ codes "make" ∷ codes "--run" ∷ codes "--rounds=5" ∷ [])
    (Run (record { sizes = record { number = 1; floors = 12; cars = 4; calls = 20 }; limits = limits_of 5 75000 (tt, tt) (tt, tt) }))
unfolding clap_on_literals
run_with_five_rounds = record {
  command = refl;
  unrepeated = different;
  no_dashes = only;
  accepted = refl;
  asks = record { run = refl; case = record { number = refl; floors = refl; cars = refl; calls = refl }; rounds = refl; moves = refl };
}
  where
    different : IsRepeated (codes "--run" ∷ codes "--rounds=5" ∷ []) → ⊥
    different = two (codes "--run") (codes "--rounds=5") (λ r. let same : codes "--run" ≡ codes "--rounds" = r.same in absurd cc)

    only : Contains (codes "--run" ∷ codes "--rounds=5" ∷ []) (codes "--") → ⊥
    only (zero, lt, same) = absurd cc
    only (suc zero, lt, same) = absurd cc
    only (suc (suc k), lt, same) = absurd (omega arith)

pub solve_with_certificate : AreTaken (codes "lift" ∷ codes "solve" ∷ codes "--rounds=5" ∷ [])
    (Solve (record { limits = limits_of 5 75000 (tt, tt) (tt, tt); workers = workers_of 1 (tt, tt); claims = 1000000000; brief = false; progress = false }))
unfolding clap_on_literals
solve_with_certificate = record {
  command = refl;
  unrepeated = alone (codes "--rounds=5");
  no_dashes = only;
  accepted = refl;
  asks = record {
    brief = (λ e. absurd cc, λ e. absurd cc);
    progress = (λ e. absurd cc, λ e. absurd cc);
    rounds = refl;
    moves = refl;
    workers = refl;
    claims =
        refl;
  };
}
  where
    only : Contains (codes "--rounds=5" ∷ []) (codes "--") → ⊥
    only (zero, lt, same) = absurd cc
    only (suc k, lt, same) = absurd (omega arith)

pub check_with_three : AreTaken (codes "lift" ∷ codes "check" ∷ codes "--workers=3" ∷ []) (Check (record { workers = workers_of 3 (tt, tt) }))
unfolding clap_on_literals
check_with_three = record {
  command = refl;
  unrepeated = alone (codes "--workers=3");
  no_dashes = only;
  accepted = refl;
  asks = refl;
}
  where
    only : Contains (codes "--workers=3" ∷ []) (codes "--") → ⊥
    only (zero, lt, same) = absurd cc
    only (suc k, lt, same) = absurd (omega arith)

pub day_of_five_rounds : AreTaken (codes "lift" ∷ codes "day" ∷ codes "--rounds=5" ∷ [])
    (Day (record {
      search = record { limits = limits_of 5 75000 (tt, tt) (tt, tt); workers = workers_of 1 (tt, tt) };
      claims = 1000000000;
      certs =
          false;
      progress = false;
    }))
unfolding clap_on_literals
day_of_five_rounds = record {
  command = refl;
  unrepeated = alone (codes "--rounds=5");
  no_dashes = only;
  accepted = refl;
  asks = record {
    certs = (λ e. absurd cc, λ e. absurd cc);
    progress = (λ e. absurd cc, λ e. absurd cc);
    search =
        record { rounds = refl; moves = refl; workers = refl };
    claims = refl;
  };
}
  where
    only : Contains (codes "--rounds=5" ∷ []) (codes "--") → ⊥
    only (zero, lt, same) = absurd cc
    only (suc k, lt, same) = absurd (omega arith)

pub solve_with_progress : AreTaken (codes "lift" ∷ codes "solve" ∷ codes "--progress" ∷ [])
    (Solve (record { limits = limits_of 2000 75000 (tt, tt) (tt, tt); workers = workers_of 1 (tt, tt); claims = 1000000000; brief = false; progress = true }))
unfolding clap_on_literals
solve_with_progress = record {
  command = refl;
  unrepeated = alone (codes "--progress");
  no_dashes = only;
  accepted = refl;
  asks = record { brief = (λ e. absurd cc, λ e. absurd cc); progress = (λ _. refl, λ _. refl); rounds = refl; moves = refl; workers = refl; claims = refl };
}
  where
    only : Contains (codes "--progress" ∷ []) (codes "--") → ⊥
    only (zero, lt, same) = absurd cc
    only (suc k, lt, same) = absurd (omega arith)

pub day_with_certificates : AreTaken (codes "lift" ∷ codes "day" ∷ codes "--certs" ∷ [])
    (Day (record {
      search = record { limits = limits_of 2000 75000 (tt, tt) (tt, tt); workers = workers_of 1 (tt, tt) };
      claims = 1000000000;
      certs =
          true;
      progress = false;
    }))
unfolding clap_on_literals
day_with_certificates = record {
  command = refl;
  unrepeated = alone (codes "--certs");
  no_dashes = only;
  accepted = refl;
  asks = record {
    certs = (λ _. refl, λ _. refl);
    progress = (λ e. absurd cc, λ e. absurd cc);
    search =
        record { rounds = refl; moves = refl; workers = refl };
    claims = refl;
  };
}
  where
    only : Contains (codes "--certs" ∷ []) (codes "--") → ⊥
    only (zero, lt, same) = absurd cc
    only (suc k, lt, same) = absurd (omega arith)

pub report_with_three : AreTaken (codes "lift" ∷ codes "report" ∷ codes "--workers=3" ∷ [])
    (Report (record { limits = limits_of 2000 75000 (tt, tt) (tt, tt); workers = workers_of 3 (tt, tt) }))
unfolding clap_on_literals
report_with_three = record {
  command = refl;
  unrepeated = alone (codes "--workers=3");
  no_dashes = only;
  accepted = refl;
  asks = record { rounds = refl; moves = refl; workers = refl };
}
  where
    only : Contains (codes "--workers=3" ∷ []) (codes "--") → ⊥
    only (zero, lt, same) = absurd cc
    only (suc k, lt, same) = absurd (omega arith)

pub table_alone : AreTaken (codes "lift" ∷ codes "table" ∷ []) Table
unfolding clap_on_literals
table_alone = record {
  command = refl;
  unrepeated = λ r. let within = r.within in absurd (omega (arith, within));
  no_dashes = λ d. let lt = d.1 in absurd (omega (arith, lt));
  accepted = refl;
  asks = tt;
}

pub table_with_a_word : (request : Request) → AreTaken (codes "lift" ∷ codes "table" ∷ codes "x" ∷ []) request → ⊥
unfolding clap_on_literals
table_with_a_word (Solve options) t = let bytes : 116 ≡ 115 = ap first_byte t.command in absurd (omega (arith, bytes))
table_with_a_word (Check options) t = let bytes : 116 ≡ 99 = ap first_byte t.command in absurd (omega (arith, bytes))
table_with_a_word (Day options) t = let other = t.command in absurd cc
table_with_a_word (Report options) t = let other = t.command in absurd cc
table_with_a_word (Make sizes) t = let other = t.command in absurd cc
table_with_a_word (Run options) t = let other = t.command in absurd cc
table_with_a_word Table t = let refused = t.accepted in absurd cc
table_with_a_word (WhatIf options) t = let other = t.command in absurd cc
table_with_a_word (Banks options) t = let bytes : 116 ≡ 98 = ap first_byte t.command in absurd (omega (arith, bytes))
table_with_a_word (Root options) t = let other = t.command in absurd cc
table_with_a_word (Audit options) t = let bytes : 116 ≡ 97 = ap first_byte t.command in absurd (omega (arith, bytes))

pub whatif_of_five_moves : AreTaken (codes "lift" ∷ codes "whatif" ∷ codes "--moves=5" ∷ [])
    (WhatIf (record { limits = limits_of 2000 5 (tt, tt) (tt, tt); workers = workers_of 1 (tt, tt) }))
unfolding clap_on_literals
whatif_of_five_moves = record {
  command = refl;
  unrepeated = alone (codes "--moves=5");
  no_dashes = only;
  accepted = refl;
  asks = record { rounds = refl; moves = refl; workers = refl };
}
  where
    only : Contains (codes "--moves=5" ∷ []) (codes "--") → ⊥
    only (zero, lt, same) = absurd cc
    only (suc k, lt, same) = absurd (omega arith)

pub brief_whatif : (request : Request) → AreTaken (codes "lift" ∷ codes "whatif" ∷ codes "--brief" ∷ []) request → ⊥
unfolding clap_on_literals
brief_whatif (Solve options) t = let other = t.command in absurd cc
brief_whatif (Check options) t = let other = t.command in absurd cc
brief_whatif (Day options) t = let other = t.command in absurd cc
brief_whatif (Report options) t = let bytes : 119 ≡ 114 = ap first_byte t.command in absurd (omega (arith, bytes))
brief_whatif (Make sizes) t = let other = t.command in absurd cc
brief_whatif (Run options) t = let other = t.command in absurd cc
brief_whatif Table t = let other = t.command in absurd cc
brief_whatif (WhatIf options) t = let refused = t.accepted in absurd cc
brief_whatif (Banks options) t = let other = t.command in absurd cc
brief_whatif (Root options) t = let other = t.command in absurd cc
brief_whatif (Audit options) t = let other = t.command in absurd cc

pub banks_of_three_workers : AreTaken (codes "lift" ∷ codes "banks" ∷ codes "--workers=3" ∷ [])
    (Banks (record { limits = limits_of 2000 75000 (tt, tt) (tt, tt); workers = workers_of 3 (tt, tt) }))
unfolding clap_on_literals
banks_of_three_workers = record {
  command = refl;
  unrepeated = alone (codes "--workers=3");
  no_dashes = only;
  accepted = refl;
  asks = record { rounds = refl; moves = refl; workers = refl };
}
  where
    only : Contains (codes "--workers=3" ∷ []) (codes "--") → ⊥
    only (zero, lt, same) = absurd cc
    only (suc k, lt, same) = absurd (omega arith)

pub root_of_five_turns : AreTaken (codes "lift" ∷ codes "root" ∷ codes "--rounds=5" ∷ []) (Root (record { limits = limits_of 5 75000 (tt, tt) (tt, tt) }))
unfolding clap_on_literals
root_of_five_turns = record {
  command = refl;
  unrepeated = alone (codes "--rounds=5");
  no_dashes = only;
  accepted = refl;
  asks = record { rounds = refl; moves = refl };
}
  where
    only : Contains (codes "--rounds=5" ∷ []) (codes "--") → ⊥
    only (zero, lt, same) = absurd cc
    only (suc k, lt, same) = absurd (omega arith)

pub audit_of_three_workers : AreTaken (codes "lift" ∷ codes "audit" ∷ codes "--workers=3" ∷ []) (Audit (record { workers = workers_of 3 (tt, tt) }))
unfolding clap_on_literals
audit_of_three_workers = record {
  command = refl;
  unrepeated = alone (codes "--workers=3");
  no_dashes = only;
  accepted = refl;
  asks = refl;
}
  where
    only : Contains (codes "--workers=3" ∷ []) (codes "--") → ⊥
    only (zero, lt, same) = absurd cc
    only (suc k, lt, same) = absurd (omega arith)

pub check_of_rounds : (request : Request) → AreTaken (codes "lift" ∷ codes "check" ∷ codes "--rounds=5" ∷ []) request → ⊥
unfolding clap_on_literals
check_of_rounds (Check options) t = let refused = t.accepted in absurd cc
check_of_rounds (Solve options) t = let bytes : 99 ≡ 115 = ap first_byte t.command in absurd (omega (arith, bytes))
check_of_rounds (Day options) t = let other = t.command in absurd cc
check_of_rounds (Report options) t = let other = t.command in absurd cc
check_of_rounds (Make sizes) t = let other = t.command in absurd cc
check_of_rounds (Run options) t = let other = t.command in absurd cc
check_of_rounds Table t = let bytes : 99 ≡ 116 = ap first_byte t.command in absurd (omega (arith, bytes))
check_of_rounds (WhatIf options) t = let other = t.command in absurd cc
check_of_rounds (Banks options) t = let bytes : 99 ≡ 98 = ap first_byte t.command in absurd (omega (arith, bytes))
check_of_rounds (Root options) t = let other = t.command in absurd cc
check_of_rounds (Audit options) t = let bytes : 99 ≡ 97 = ap first_byte t.command in absurd (omega (arith, bytes))

pub no_rounds : (request : Request) → AreTaken (codes "lift" ∷ codes "solve" ∷ codes "--brief" ∷ codes "--rounds" ∷ codes "0" ∷ []) request → ⊥
unfolding clap_on_literals
no_rounds (Solve options) t = let none = t.asks.rounds in absurd cc
no_rounds (Check options) t = let bytes : 115 ≡ 99 = ap first_byte t.command in absurd (omega (arith, bytes))
no_rounds (Day options) t = let other = t.command in absurd cc
no_rounds (Report options) t = let other = t.command in absurd cc
no_rounds (Make sizes) t = let other = t.command in absurd cc
no_rounds (Run options) t = let other = t.command in absurd cc
no_rounds Table t = let bytes : 115 ≡ 116 = ap first_byte t.command in absurd (omega (arith, bytes))
no_rounds (WhatIf options) t = let other = t.command in absurd cc
no_rounds (Banks options) t = let bytes : 115 ≡ 98 = ap first_byte t.command in absurd (omega (arith, bytes))
no_rounds (Root options) t = let other = t.command in absurd cc
no_rounds (Audit options) t = let bytes : 115 ≡ 97 = ap first_byte t.command in absurd (omega (arith, bytes))

pub shortened : (request : Request) → AreTaken (codes "lift" ∷ codes "make" ∷ codes "--floor" ∷ codes "4" ∷ []) request → ⊥
unfolding clap_on_literals
shortened (Check options) t = let other = t.command in absurd cc
shortened (Day options) t = let other = t.command in absurd cc
shortened (Report options) t = let other = t.command in absurd cc
shortened (Make sizes) t = let refused = t.accepted in absurd cc
shortened (Solve options) t = let other = t.command in absurd cc
shortened (Run options) t = let refused = t.accepted in absurd cc
shortened Table t = let other = t.command in absurd cc
shortened (WhatIf options) t = let other = t.command in absurd cc
shortened (Banks options) t = let other = t.command in absurd cc
shortened (Root options) t = let bytes : 109 ≡ 114 = ap first_byte t.command in absurd (omega (arith, bytes))
shortened (Audit options) t = let other = t.command in absurd cc

pub brief_day : (request : Request) → AreTaken (codes "lift" ∷ codes "day" ∷ codes "--brief" ∷ []) request → ⊥
unfolding clap_on_literals
brief_day (Solve options) t = let other = t.command in absurd cc
brief_day (Check options) t = let other = t.command in absurd cc
brief_day (Day options) t = let refused = t.accepted in absurd cc
brief_day (Report options) t = let other = t.command in absurd cc
brief_day (Make sizes) t = let other = t.command in absurd cc
brief_day (Run options) t = let other = t.command in absurd cc
brief_day Table t = let other = t.command in absurd cc
brief_day (WhatIf options) t = let other = t.command in absurd cc
brief_day (Banks options) t = let other = t.command in absurd cc
brief_day (Root options) t = let other = t.command in absurd cc
brief_day (Audit options) t = let other = t.command in absurd cc

pub report_by_many : (request : Request) → AreTaken (codes "lift" ∷ codes "report" ∷ codes "--workers=17" ∷ []) request → ⊥
unfolding clap_on_literals
report_by_many (Solve options) t = let other = t.command in absurd cc
report_by_many (Check options) t = let other = t.command in absurd cc
report_by_many (Day options) t = let other = t.command in absurd cc
report_by_many (Report options) t = let none = t.asks.workers in absurd cc
report_by_many (Make sizes) t = let other = t.command in absurd cc
report_by_many (Run options) t = let other = t.command in absurd cc
report_by_many Table t = let other = t.command in absurd cc
report_by_many (WhatIf options) t = let bytes : 114 ≡ 119 = ap first_byte t.command in absurd (omega (arith, bytes))
report_by_many (Banks options) t = let other = t.command in absurd cc
report_by_many (Root options) t = let other = t.command in absurd cc
report_by_many (Audit options) t = let other = t.command in absurd cc

pub run_of_no_rounds : (request : Request) → AreTaken (codes "lift" ∷ codes "make" ∷ codes "--rounds" ∷ codes "0" ∷ []) request → ⊥
unfolding clap_on_literals
run_of_no_rounds (Check options) t = let other = t.command in absurd cc
run_of_no_rounds (Day options) t = let other = t.command in absurd cc
run_of_no_rounds (Report options) t = let other = t.command in absurd cc
run_of_no_rounds (Make sizes) t = let none = t.asks.rounds in absurd cc
run_of_no_rounds (Solve options) t = let other = t.command in absurd cc
run_of_no_rounds (Run options) t = let none = t.asks.rounds in absurd cc
run_of_no_rounds Table t = let other = t.command in absurd cc
run_of_no_rounds (WhatIf options) t = let other = t.command in absurd cc
run_of_no_rounds (Banks options) t = let other = t.command in absurd cc
run_of_no_rounds (Root options) t = let bytes : 109 ≡ 114 = ap first_byte t.command in absurd (omega (arith, bytes))
run_of_no_rounds (Audit options) t = let other = t.command in absurd cc

pub run_with_value : (request : Request) → AreTaken (codes "lift" ∷ codes "make" ∷ codes "--run=1" ∷ []) request → ⊥
unfolding clap_on_literals
run_with_value (Check options) t = let other = t.command in absurd cc
run_with_value (Day options) t = let other = t.command in absurd cc
run_with_value (Report options) t = let other = t.command in absurd cc
run_with_value (Make sizes) t = let refused = t.accepted in absurd cc
run_with_value (Solve options) t = let other = t.command in absurd cc
run_with_value (Run options) t = let refused = t.accepted in absurd cc
run_with_value Table t = let other = t.command in absurd cc
run_with_value (WhatIf options) t = let other = t.command in absurd cc
run_with_value (Banks options) t = let other = t.command in absurd cc
run_with_value (Root options) t = let bytes : 109 ≡ 114 = ap first_byte t.command in absurd (omega (arith, bytes))
run_with_value (Audit options) t = let other = t.command in absurd cc

pub brief_twice : (request : Request) → AreTaken (codes "lift" ∷ codes "solve" ∷ codes "--brief" ∷ codes "--brief" ∷ []) request → ⊥
brief_twice request t =
    t.unrepeated (record {
      first = 0;
      second = 1;
      order = lit< tt;
      within = lit< tt;
      repeats =
          record { first_option = refl; second_option = refl; same = refl };
    })

pub dashes_alone : (request : Request) → AreTaken (codes "lift" ∷ codes "solve" ∷ codes "--brief" ∷ codes "--" ∷ []) request → ⊥
dashes_alone request t = t.no_dashes (1, lit< tt, refl)
