-- The text of what turns at the root tell.
use Rattle.std.specs.Prelude.{ℕ, zero, suc, ℤ, pos, List, [], ◌∷◌, ◌++◌, codes, slice_index_or}
use Rattle.std.specs.List.{flat_map}
use Rattle.std.specs.Fmt.{signed_decimal}
use Rattle.elevator_model.specs.Snapshot.{Snapshot, car_count, call_count, call_of, spec_of}
use Rattle.answer_text.specs.Texts.{stops_text}
use Rattle.lift_text.specs.Text.{words, line, newline}
use Rattle.search_model.specs.Prices.{price_at}
use Rattle.half_plans.specs.declared.Share.{Share}
use Rattle.root_prices.specs.declared.answers.RootAnswer.{RootAnswer}
use Rattle.root_prices.specs.declared.reasons.RootReason.{RootReason}
use Rattle.root_prices.specs.declared.reasons.RootReason.TheVariants.{Best, Gap, Moves, Pairs}

-- a name, numbers after it, and then one that may be negative
abbrev pub signed_line : (name : List ℕ) → (numbers : List ℕ) → ℤ → List ℕ
signed_line name numbers z = words name numbers ++ (32 ∷ signed_decimal z) ++ newline

abbrev pub price_line : Snapshot → ℕ → ℤ → List ℕ
price_line s j price = signed_line (codes "price") ((call_of s j).id ∷ []) price

abbrev pub worth_line : Snapshot → ℕ → ℤ → List ℕ
worth_line s c worth = signed_line (codes "worth") ((spec_of s c).id ∷ []) worth

-- the lines of the first calls, this many, in their order
unfoldable pub price_lines : Snapshot → List ℤ → ℕ → List ℕ
price_lines s prices zero = []
price_lines s prices (suc j) = price_lines s prices j ++ price_line s j (price_at prices j)

-- the lines of the first cars, this many, in their order
unfoldable pub worth_lines : Snapshot → List ℤ → ℕ → List ℕ
worth_lines s worths zero = []
worth_lines s worths (suc c) = worth_lines s worths c ++ worth_line s c (slice_index_or worths c (pos 0))

-- a share: its car, its weight, and the stops of its tour
abbrev pub share_text : Snapshot → Share → List ℕ
share_text s x = line (codes "share") ((spec_of s x.car).id ∷ x.weight ∷ []) ++ stops_text s x.tour

-- what is left open
abbrev pub reason_line : Snapshot → RootReason → List ℕ
reason_line s Best = codes "# best\n"
reason_line s Gap = codes "# gap\n"
reason_line s (Moves car count) = line (codes "# open moves") ((spec_of s car).id ∷ count ∷ [])
reason_line s (Pairs count) = line (codes "# open pairs") (count ∷ [])

-- the bound, and the prices and worths that have it
abbrev pub sheet_text : Snapshot → RootAnswer → List ℕ
sheet_text s a =
    line (codes "root") (1 ∷ []) ++ signed_line (codes "bound") [] a.bound ++ price_lines s a.sheet.prices (call_count s)
    ++ worth_lines s a.sheet.worths (car_count s)

-- the plan in halves
abbrev pub halves_text : Snapshot → RootAnswer → List ℕ
halves_text s a = line (codes "mixture") (a.cost ∷ 2 ∷ []) ++ flat_map (share_text s) a.shares ++ line (codes "end") []

abbrev pub root_text : Snapshot → RootAnswer → List ℕ
root_text s a = sheet_text s a ++ halves_text s a ++ reason_line s a.why
