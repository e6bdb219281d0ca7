-- A job line and its seats, as contracts see them.
use Rattle.std.specs.Prelude.{ℕ, ◌==◌, ◌≡◌, ◌≤◌, nat_lt, nat_le, count_by, if◌then◌else◌, List, refl}
use Rattle.std.specs.Coded.{Coded, code_by, coded×, coded_ℕ, coded_list}
use Rattle.atomic_table.specs.Seated.{TableId, table_id_coded}

-- which line it is, how many jobs it has, and how many workers
pub record LineView : Type 0 where
  pub name : TableId
  pub count : ℕ
  pub workers : ℕ

-- the line that a seat is of, the numbers that it drew, in order, and for how many workers it stands
pub record SeatView : Type 0 where
  pub line : TableId
  pub drawn : List ℕ
  pub allowance : ℕ

abbrev pub line_code : Coded LineView
line_code =
    code_by (TableId × (ℕ × ℕ)) (coded× table_id_coded (coded× coded_ℕ coded_ℕ)) (λ l. (l.name, (l.count, l.workers)))
    (λ p. record { name = p.0; count = p.1.0; workers = p.1.1 }) (λ _. refl)

abbrev pub seat_code : Coded SeatView
seat_code =
    code_by (TableId × (List ℕ × ℕ)) (coded× table_id_coded (coded× (coded_list coded_ℕ) coded_ℕ)) (λ s. (s.line, (s.drawn, s.allowance)))
    (λ p. record { line = p.0; drawn = p.1.0; allowance = p.1.1 }) (λ _. refl)

-- how often a number stands in a list
abbrev pub times : ℕ → List ℕ → ℕ
times x xs = count_by (λ y. y == x) xs

-- how often a number stands among the numbers below n
abbrev pub times_below : ℕ → ℕ → ℕ
times_below x n = if nat_lt x n then 1 else 0

-- how many numbers of a list are at or past the count
abbrev pub past : ℕ → List ℕ → ℕ
past count xs = count_by (λ y. nat_le count y) xs

-- a list has each number at most once
abbrev pub EachOnce : List ℕ → Type 0
EachOnce xs = (x : ℕ) → times x xs ≤ 1

-- a list has the numbers below n, each once, and no other
abbrev pub EachBelow : ℕ → List ℕ → Type 0
EachBelow n xs = (x : ℕ) → times x xs ≡ times_below x n
