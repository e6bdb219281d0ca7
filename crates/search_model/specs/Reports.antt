-- The report of a day: waits, rides and their sums over the served calls.
use Rattle.std.specs.Prelude.{ℕ, zero, suc, ◌+◌, ◌-◌, ◌*◌, ◌/◌, ◌%◌, ◌==◌, ◌&&◌, nat_lt, List, [], ◌∷◌, length, map, sum, max, slice_index, if◌then◌else◌}
use Rattle.search_model.specs.declared.Served.{Served}
use Rattle.search_model.specs.declared.ReportColumn.{ReportColumn}
use Rattle.search_model.specs.declared.Report.{Report}

-- an item put into items that rise
abbrev pub insert_rising : ℕ → List ℕ → List ℕ
insert_rising x [] = x ∷ []
insert_rising x (y ∷ ys) = if nat_lt y x then y ∷ insert_rising x ys else x ∷ y ∷ ys

abbrev pub rising : List ℕ → List ℕ
rising [] = []
rising (x ∷ xs) = insert_rising x (rising xs)

abbrev pub greatest : List ℕ → ℕ
greatest [] = 0
greatest (x ∷ xs) = max x (greatest xs)

-- the item of rank p * n / 100, rounded up, in rising order, with ranks from 1, and 0 where there is none
abbrev pub item_at_percent : ℕ → List ℕ → ℕ
item_at_percent p items = slice_index (rising items) ((p * length items + 99) / 100 - 1)

-- the greatest number up to n that divides both
abbrev pub common_up_to : ℕ → (a b : ℕ) → ℕ
common_up_to zero a b = 1
common_up_to (suc n) a b = if (a % suc n == 0) && (b % suc n == 0) then suc n else common_up_to n a b

-- a mean in lowest terms, and 0/1 where nothing is added up
abbrev pub mean_over : (sum count : ℕ) → ℕ
mean_over sum count = sum / common_up_to count sum count

abbrev pub mean_under : (sum count : ℕ) → ℕ
mean_under sum count = if (count == 0) then 1 else count / common_up_to count sum count

abbrev pub column_of : List ℕ → ReportColumn
column_of items =
    record {
      count = length items;
      sum = sum items;
      greatest = greatest items;
      p50 = item_at_percent 50 items;
      p90 = item_at_percent 90 items;
      p99 = item_at_percent 99 items;
      mean_over = mean_over (sum items) (length items);
      mean_under = mean_under (sum items) (length items);
    }

-- Each call counts once, whatever its persons.
abbrev pub report_of : List Served → Report
report_of calls =
    record {
      wait = column_of (map (λ (x : Served). x.boarded - x.released) calls);
      ride = column_of (map (λ (x : Served). x.delivered - x.boarded) calls);
      total = column_of (map (λ (x : Served). (x.boarded - x.released) + (x.delivered - x.boarded)) calls);
    }
