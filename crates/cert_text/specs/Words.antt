-- What the words of each line of a certificate say.
use Rattle.std.specs.Prelude.{ℕ, ℤ, pos, neg_ℤ, List, [], ◌∷◌, Ok}
use Rattle.call_sets.specs.Counting.{is_among}
use Rattle.elevator_model.specs.Building.{Building}
use Rattle.elevator_model.specs.Snapshot.{Snapshot}
use Rattle.search_model.specs.declared.PriceOf.{PriceOf}
use Rattle.search_model.specs.declared.WorthOf.{WorthOf}
use Rattle.search_model.specs.Nodes.{set_where}
use Rattle.text_sections.specs.Judging.{Judged, ◌>>=◌}
use Rattle.text_sections.specs.Words.{exactly, at_least, number, signed, short}
use Rattle.text_sections.specs.NumberLists.{numbers}
use Rattle.text_sections.specs.Sections.{Line}
use Rattle.snapshot_text.specs.Words.{car_named}
use Rattle.answer_text.specs.Words.{call_named}
use Rattle.cert_text.specs.declared.kinds.Entry.{Entry}
use Rattle.cert_text.specs.declared.kinds.Entry.TheVariants.{Split}

-- `certificate 1`
abbrev pub head_said : Line → Judged ℕ
head_said words = exactly words 2 >>= λ _. number words 1 1 1

-- the indexes of the cars with these ids
abbrev pub cars_named : Building → List ℕ → Judged (List ℕ)
cars_named b [] = Ok []
cars_named b (id ∷ ids) = car_named b id >>= λ c. (cars_named b ids >>= λ cs. Ok (c ∷ cs))

-- the set of these cars: one that stands there twice counts once
unfoldable pub part_of : List ℕ → ℕ
part_of cars = set_where 16 (λ c. is_among c cars)

-- the set of the cars with these ids
abbrev pub part_named : Building → List ℕ → Judged ℕ
part_named b ids = cars_named b ids >>= λ cars. Ok (part_of cars)

-- `split CALL CAR ..`: all words are numbers before any id is looked up
abbrev pub split_said : Snapshot → Line → Judged Entry
split_said s words =
    at_least words 2 >>= λ _.
    (short words 1 >>= λ id. (numbers words 2 0 4294967295 >>= λ ids. (call_named s id >>= λ j. (part_named s.building ids >>= λ part. Ok (Split j part)))))

-- word k as a price
abbrev pub price_of_word : Line → ℕ → Judged ℤ
price_of_word words k = signed words k (neg_ℤ (pos 1000000000000000000000000)) (pos 1000000000000000000000000)

-- `price CALL P`
abbrev pub price_said : Snapshot → Line → Judged PriceOf
price_said s words =
    exactly words 3 >>= λ _. (short words 1 >>= λ id. (price_of_word words 2 >>= λ price. (call_named s id >>= λ j. Ok (record { call = j; price = price }))))

-- word k as a worth
abbrev pub worth_of_word : Line → ℕ → Judged ℤ
worth_of_word words k = signed words k (neg_ℤ (pos 1000000000000000000000000000)) (pos 1000000000000000000000000000)

-- `worth CAR R CLAIM`
abbrev pub worth_said : Snapshot → Line → Judged WorthOf
worth_said s words =
    exactly words 4 >>= λ _.
    (short words 1 >>= λ id.
    (worth_of_word words 2 >>= λ worth.
    (number words 3 1 10000000000 >>= λ claim. (car_named s.building id >>= λ c. Ok (record { car = c; worth = worth; claim = claim })))))
