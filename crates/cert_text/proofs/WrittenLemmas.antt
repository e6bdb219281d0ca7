-- The lines of a certificate's text stand for its tree.
use Rattle.std.proofs.Common.{◌≡◌, ℕ, zero, suc, ◌+◌, ◌*◌, ◌^◌, ◌<◌, ◌≤◌, ◌==◌, ◌&&◌, ◌||◌, eqb, Bool, true, false, List, [], ◌∷◌, ◌++◌, length, map, filter}
use Rattle.std.proofs.Common.{refl, sym, ap, ◌∙◌, subst, arith, Option, None, Some, Result, Ok, Err, length-append, lit<, inl, inr}
use Rattle.std.specs.Prelude.{ℤ, pos, negsuc, neg_ℤ, ◌≤ℤ◌, int_lt, codes, decimal, if◌then◌else◌}
use Rattle.std.specs.Int.{bit_at}
use Rattle.std.specs.Fmt.{signed_decimal}
use Rattle.std.specs.List.{flat_map, range_with_len, AllByRecursion}
use Rattle.std.proofs.lemmas.Bool.{eqb-false, eqb-true, le-ltb, cases_lt}
use Rattle.std.proofs.lemmas.Bool.Decides.{nat_tests}
use Rattle.std.proofs.lemmas.Int.{ints}
use Rattle.std.proofs.lemmas.Map.Views.{any-filter_same}
use Rattle.std.proofs.lemmas.Nat.Bits.{same_from_bits, bit_at-lt}
use Rattle.std.proofs.lemmas.Fmt.{length-decimal-le, length-decimal-le_wide}
use Rattle.call_sets.specs.Counting.{has, is_among, members}
use Rattle.call_sets.proofs.Bits.{has_none_above}
use Rattle.elevator_model.specs.Snapshot.{Snapshot, IsAccepted, car_count, call_count, spec_of, call_of}
use Rattle.search_model.specs.declared.PriceOf.{PriceOf}
use Rattle.search_model.specs.declared.WorthOf.{WorthOf}
use Rattle.search_model.specs.declared.Twig.{Twig}
use Rattle.search_model.specs.declared.Twig.TheVariants.{Split, Leaf as Tip}
use Rattle.search_model.specs.Nodes.{set_where}
use Rattle.search_model.proofs.SetLemmas.{set_where-below, has-set_where}
use Rattle.lift_text.specs.Numbers.{digits_number, number_of}
use Rattle.lift_text.specs.Reading.{TextState, reading}
use Rattle.lift_text.specs.declared.faults.TextFault.{TextFault}
use Rattle.lift_text.specs.declared.codes.TextCode.TheVariants.{Missing, OutOfRange}
use Rattle.text_sections.specs.Judging.{◌>>=◌}
use Rattle.text_sections.specs.Words.{at_least, number, signed, signed_within, within, word_at, short}
use Rattle.text_sections.specs.NumberLists.{numbers, numbers_of}
use Rattle.text_sections.specs.Sections.{Line}
use Rattle.text_sections.specs.Canonical.{IsWord, IsLineOfWords, BeginsWith, joined}
use Rattle.text_sections.proofs.NumberLemmas.{number_again, written_number}
use Rattle.text_sections.proofs.CanonicalLemmas.{decimal_word, lines_again, name_word}
use Rattle.text_sections.proofs.StepLemmas.{then-ok}
use Rattle.text_sections.proofs.EachLemmas.{each_of, each-append}
use Rattle.snapshot_text.specs.Words.{car_named}
use Rattle.snapshot_text.proofs.CarLemmas.{named_car}
use Rattle.answer_text.specs.Words.{call_named}
use Rattle.answer_text.proofs.CallLemmas.{named_call}
use Rattle.cert_text.specs.declared.kinds.Entry.{Entry}
use Rattle.cert_text.specs.declared.kinds.Entry.TheVariants.{Split as SplitEntry}
use Rattle.cert_text.specs.Words.{cars_named, part_of, part_named, price_of_word, worth_of_word}
use Rattle.cert_text.specs.Trees.{IsPriceWithin, IsWorthWithin, IsSplitWithin, IsTwigWithin}
use Rattle.cert_text.specs.Certs.{says_split, says_price, says_worth, SayItems, SaysTwig, SayTwigs, StandsFor, ReadsLines}
use Rattle.cert_text.specs.Texts.{head_words, split_words, leaf_words, price_words, worth_words, end_words, item_lines, twig_lines, cert_lines, cert_text}
use Rattle.cert_text.specs.Written.{HasText, behind, ReadsText}
use Rattle.cert_text.proofs.WideLemmas.{writes, signed_again, IsSize}

-- ---- the cars of a part

among_range : (c m a : ℕ) → a ≤ c → c < a + m → is_among c (range_with_len a m) ≡ true
among_range c zero a low high = absurd (omega arith)
among_range c (suc m) a low high = by_head (a == c) refl (λ other. among_range c m (a + 1) (omega (arith, low, other)) (omega (arith, high)))
  where
    by_head : (is : Bool) → (a == c) ≡ is → ((a ≡ c → ⊥) → is_among c (range_with_len (a + 1) m) ≡ true) → is_among c (range_with_len a (suc m)) ≡ true
    by_head true is later = ap (λ (h : Bool). h || is_among c (range_with_len (a + 1) m)) is
    by_head false is later = ap (λ (h : Bool). h || is_among c (range_with_len (a + 1) m)) is ∙ later (eqb-false a c is)

among_members : (part c : ℕ) → c < 16 → is_among c (members 16 part) ≡ has part c
unfolding members
among_members part c low =
    any-filter_same (λ x. x == c) (has part) (has part c) (λ k is. ap (has part) (eqb-true k c is)) (range_with_len 0 16)
    ∙ ap (λ (b : Bool). has part c && b) (among_range c 16 0 (omega arith) low) ∙ both (has part c)
  where
    both : (b : Bool) → (b && true) ≡ b
    both true = refl
    both false = refl

same_bit : (x y : ℕ) → x < 2 → y < 2 → eqb x 1 ≡ eqb y 1 → x ≡ y
same_bit x y p q e = grind (arith, nat_tests, e)

pub set_is : (n set : ℕ) (t : ℕ → Bool) → ((k : ℕ) → k < n → has set k ≡ t k) → set < 2 ^ n → set ≡ set_where n t
set_is n set t members_are small =
    same_from_bits set (set_where n t)
    (λ k. same_bit (bit_at set k) (bit_at (set_where n t) k) (bit_at-lt set k) (bit_at-lt (set_where n t) k) (elim (cases_lt k n) [
      | inl lt ↦ members_are k lt ∙ sym (has-set_where n t k lt)
      | inr past ↦ has_none_above n set k small past ∙ sym (has_none_above n (set_where n t) k (set_where-below n t) past)
    ]))

pub set_by : (n set : ℕ) (t : ℕ → Bool) → ((k : ℕ) → k < n → has set k ≡ t k) → ((k : ℕ) → n ≤ k → has set k ≡ false) → set ≡ set_where n t
set_by n set t members_are none =
    same_from_bits set (set_where n t)
    (λ k. same_bit (bit_at set k) (bit_at (set_where n t) k) (bit_at-lt set k) (bit_at-lt (set_where n t) k) (elim (cases_lt k n) [
      | inl lt ↦ members_are k lt ∙ sym (has-set_where n t k lt)
      | inr past ↦ none k past ∙ sym (has_none_above n (set_where n t) k (set_where-below n t) past)
    ]))

pub part_by : (cars : List ℕ) (set : ℕ) → ((k : ℕ) → has set k ≡ is_among k cars) → ((k : ℕ) → is_among k cars ≡ true → k < 16) → set ≡ part_of cars
unfolding part_of
part_by cars set same low = set_by 16 set (λ c. is_among c cars) (λ k below. same k) (λ k past. by_case k past (is_among k cars) refl)
  where
    by_case : (k : ℕ) → 16 ≤ k → (b : Bool) → is_among k cars ≡ b → has set k ≡ false
    by_case k past true is = absurd (let below = low k is in omega (arith, past, below))
    by_case k past false is = same k ∙ is

pub part_is : (cars : List ℕ) (set : ℕ) → set < 2 ^ 16 → ((k : ℕ) → k < 16 → has set k ≡ is_among k cars) → set ≡ part_of cars
unfolding part_of
part_is cars set small same = set_is 16 set (λ c. is_among c cars) same small

part_again : (part : ℕ) → part < 2 ^ 16 → part_of (members 16 part) ≡ part
part_again part small = sym (part_is (members 16 part) part small (λ k low. sym (among_members part k low)))

kept_each : (p : ℕ → Bool) (n : ℕ) → ((c : ℕ) → p c ≡ true → c < n) → (xs : List ℕ) → AllByRecursion (λ c. c < n) (filter p xs)
kept_each p n low [] = tt
kept_each p n low (x ∷ xs) = by_case (p x) refl (kept_each p n low xs)
  where
    by_case : (b : Bool) → p x ≡ b → AllByRecursion (λ c. c < n) (filter p xs) → AllByRecursion (λ c. c < n) (if b then x ∷ filter p xs else filter p xs)
    by_case true is rest = (low x is, rest)
    by_case false is rest = rest

-- each member passes the test
pub members_each : (part n : ℕ) → ((c : ℕ) → has part c ≡ true → c < n) → AllByRecursion (λ c. c < n) (members 16 part)
unfolding members
members_each part n low = kept_each (has part) n low (range_with_len 0 16)

kept_few : (p : ℕ → Bool) (xs : List ℕ) → length (filter p xs) ≤ length xs
kept_few p [] = omega arith
kept_few p (x ∷ xs) = by_case (p x) (kept_few p xs)
  where
    by_case : (b : Bool) → length (filter p xs) ≤ length xs → length (if b then x ∷ filter p xs else filter p xs) ≤ length (x ∷ xs)
    by_case true rest = omega (arith, rest)
    by_case false rest = omega (arith, rest)

members_few : (part : ℕ) → length (members 16 part) ≤ 16
unfolding members
members_few part = kept_few (has part) (range_with_len 0 16)

-- ---- words and lines

-- how long words with a space before each are
abbrev pub spread : Line → ℕ
spread [] = 0
spread (word ∷ words) = (length word + 1) + spread words

spread_is : (words : Line) → length (flat_map (λ later. 32 ∷ later) words) ≡ spread words
spread_is [] = refl
spread_is (word ∷ words) =
    let rest = spread_is words in
    let all = length-append (32 ∷ word) (flat_map (λ later. 32 ∷ later) words) in
    omega (arith, rest, all)

pub joined_is : (word : List ℕ) (words : Line) → length (joined (word ∷ words)) ≡ length word + spread words
joined_is word words =
    let all = length-append word (flat_map (λ later. 32 ∷ later) words) in
    let rest = spread_is words in
    omega (arith, all, rest)

line_of_words : (name : List ℕ) (words : Line) → IsWord name → AllByRecursion IsWord words → length name + spread words ≤ 4096 → IsLineOfWords (name ∷ words)
line_of_words name words is all short = let size = joined_is name words in record { some = omega arith; each = (is, all); short = omega (arith, size, short) }

-- ---- numbers with a sign

-- a number of at most 10^27 in absolute value
pub record IsBounded (z : ℤ) : Type 0 where
  pub size : ℕ
  pub is : IsSize z size
  pub few : size ≤ 10 ^ 27

bounded : (z : ℤ) → neg_ℤ (pos (10 ^ 27)) ≤ℤ z → z ≤ℤ pos (10 ^ 27) → IsBounded z
bounded (pos m) low high = record { size = m; is = refl; few = omega (arith, ints) }
bounded (negsuc m) low high = record { size = suc m; is = refl; few = omega (arith, ints) }

signed_word : (z : ℤ) → IsBounded z → IsWord (signed_decimal z)
signed_word (pos m) b = let w = writes m (let same = b.is in omega (arith, b.few, same)) in record { some = w.some; bytes = w.bytes }
signed_word (negsuc m) b = let w = writes (suc m) (let same = b.is in omega (arith, b.few, same)) in
    record { some = omega arith; bytes = ((omega arith, omega arith, λ is. omega (arith, is)), w.bytes) }

pub signed_length : (z : ℤ) → IsBounded z → length (signed_decimal z) ≤ 29
signed_length (pos m) b = let size =
    length-decimal-le_wide 28 m (omega arith) (let same = b.is in omega (arith, b.few, same)) (let same = b.is in omega (arith, b.few, same)) in
    omega (arith, size)
signed_length (negsuc m) b = let size =
    length-decimal-le_wide 28 (suc m) (omega arith) (let same = b.is in omega (arith, b.few, same)) (let same = b.is in omega (arith, b.few, same)) in
    omega (arith, size)

signed_said : (words : Line) (k : ℕ) (low high z : ℤ) → int_lt low (pos 0) ≡ true → word_at words k ≡ signed_decimal z → IsBounded z → low ≤ℤ z → z ≤ℤ high
    → signed words k low high ≡ Ok z
signed_said words k low high z negative is b above below =
    let not_below : int_lt z low ≡ false = grind (arith, ints) in
    let not_above : int_lt high z ≡ false = grind (arith, ints) in
    ap (λ (word : List ℕ). signed_within low high (number_of (int_lt low (pos 0)) word)) is
    ∙ ap (λ (may : Bool). signed_within low high (number_of may (signed_decimal z))) negative
    ∙ ap (λ (o : Option ℤ). signed_within low high o) (signed_again z b.size (omega (arith, b.few)) b.is)
    ∙ ap (λ (e : Bool). if e || int_lt high z then Err OutOfRange else Ok z) not_below
    ∙ ap (λ (e : Bool). if e then Err OutOfRange else Ok z) not_above

-- ---- the lines of the twigs

module _ (s : Snapshot) (accepted : IsAccepted s) (car_ids : (c : ℕ) → c < car_count s → (spec_of s c).id < 2 ^ 32)
    (call_ids : (j : ℕ) → j < call_count s → (call_of s j).id < 2 ^ 32) where
  abbrev id_of : ℕ → ℕ
  id_of c = (spec_of s c).id

  id_short : (words : Line) (id : ℕ) → id < 2 ^ 32 → word_at words 1 ≡ decimal id → short words 1 ≡ Ok id
  id_short words id low is = written_number words 1 id 0 4294967295 (omega (arith, low)) is (omega arith) (omega (arith, low))

  ids_read : (cars : List ℕ) → AllByRecursion (λ c. c < car_count s) cars
      → numbers_of 0 4294967295 (map (λ c. decimal (spec_of s c).id) cars) ≡ Ok (map id_of cars)
  ids_read [] all = refl
  ids_read (c ∷ cars) all =
      let low = car_ids c all.0 in
      let later = map (λ i. decimal (spec_of s i).id) cars in
      let one : within 0 4294967295 (digits_number (decimal (id_of c))) ≡ Ok (id_of c) =
      number_again (id_of c) 0 4294967295 (omega (arith, low)) (omega arith) (omega (arith, low)) in
      then-ok (within 0 4294967295 (digits_number (decimal (id_of c)))) (λ n. numbers_of 0 4294967295 later >>= λ ns. Ok (n ∷ ns)) (id_of c)
      (id_of c ∷ map id_of cars) one
      (then-ok (numbers_of 0 4294967295 later) (λ ns. Ok (id_of c ∷ ns)) (map id_of cars) (id_of c ∷ map id_of cars) (ids_read cars all.1) refl)

  ids_words : (cars : List ℕ) → AllByRecursion (λ c. c < car_count s) cars → AllByRecursion IsWord (map (λ c. decimal (spec_of s c).id) cars)
  ids_words [] all = tt
  ids_words (c ∷ cars) all = let low = car_ids c all.0 in (decimal_word (id_of c) (omega (arith, low)), ids_words cars all.1)

  id_length : (id : ℕ) → id < 2 ^ 32 → length (decimal id) ≤ 10
  id_length id low = length-decimal-le 10 id (lit< tt) (omega (arith, low)) (omega (arith, low))

  ids_spread : (cars : List ℕ) → AllByRecursion (λ c. c < car_count s) cars → spread (map (λ c. decimal (spec_of s c).id) cars) ≤ 11 * length cars
  ids_spread [] all = omega arith
  ids_spread (c ∷ cars) all =
      let rest = ids_spread cars all.1 in
      let one = id_length (id_of c) (car_ids c all.0) in
      omega (arith, rest, one)

  ids_known : (cars : List ℕ) → AllByRecursion (λ c. c < car_count s) cars → cars_named s.building (map id_of cars) ≡ Ok cars
  ids_known [] all = refl
  ids_known (c ∷ cars) all =
      then-ok (car_named s.building (id_of c)) (λ i. cars_named s.building (map id_of cars) >>= λ is. Ok (i ∷ is)) c (c ∷ cars)
      (sym (named_car s.building (id_of c) c accepted.building all.0 refl))
      (then-ok (cars_named s.building (map id_of cars)) (λ is. Ok (c ∷ is)) cars (c ∷ cars) (ids_known cars all.1) refl)

  split_says : (j part : ℕ) → IsSplitWithin s j part → says_split s (split_words s j part) ≡ Ok (SplitEntry j part)
  split_says j part is =
      let words = split_words s j part in
      let y : Entry = SplitEntry j part in
      let cars = members 16 part in
      let all = members_each part (car_count s) is.cars in
      let id = (call_of s j).id in
      let low = call_ids j is.call in
      let many : at_least words 2 ≡ Ok tt = ap (λ (few : Bool). if few then Err Missing else Ok tt) (le-ltb (length words) 2 (omega arith)) in
      let named_so : part_named s.building (map id_of cars) ≡ Ok part =
      then-ok (cars_named s.building (map id_of cars)) (λ xs. Ok (part_of xs)) cars part (ids_known cars all)
      (ap (λ (p : ℕ). Ok p) (part_again part is.set)) in
      then-ok (at_least words 2)
      (λ _. short words 1 >>= λ i.
      (numbers words 2 0 4294967295 >>= λ ids. (call_named s i >>= λ k. (part_named s.building ids >>= λ p. Ok (SplitEntry k p))))) tt y many
      (then-ok (short words 1)
      (λ i. numbers words 2 0 4294967295 >>= λ ids. (call_named s i >>= λ k. (part_named s.building ids >>= λ p. Ok (SplitEntry k p)))) id y
      (id_short words id low refl)
      (then-ok (numbers words 2 0 4294967295) (λ ids. call_named s id >>= λ k. (part_named s.building ids >>= λ p. Ok (SplitEntry k p))) (map id_of cars) y
      (ids_read cars all)
      (then-ok (call_named s id) (λ k. part_named s.building (map id_of cars) >>= λ p. Ok (SplitEntry k p)) j y (sym (named_call s id j accepted is.call refl))
      (then-ok (part_named s.building (map id_of cars)) (λ p. Ok (SplitEntry j p)) part y named_so refl))))

  pub split_line : (j part : ℕ) → IsSplitWithin s j part → IsLineOfWords (split_words s j part) × (length (joined (split_words s j part)) ≤ 192)
  split_line j part is =
      let cars = members 16 part in
      let all = members_each part (car_count s) is.cars in
      let few = members_few part in
      let id = (call_of s j).id in
      let low = call_ids j is.call in
      let one = id_length id low in
      let rest = ids_spread cars all in
      let size = joined_is (codes "split") (decimal id ∷ map (λ c. decimal (spec_of s c).id) cars) in (
        line_of_words (codes "split") (decimal id ∷ map (λ c. decimal (spec_of s c).id) cars) (name_word (codes "split") refl refl)
            (decimal_word id (omega (arith, low)), ids_words cars all) (omega (arith, few, one, rest)),
        omega (arith, few, one, rest, size),
      )

  price_says : (p : PriceOf) → IsPriceWithin s p → says_price s (price_words s p) ≡ Ok p
  price_says p is =
      let words = price_words s p in
      let id = (call_of s p.call).id in
      let low = call_ids p.call is.call in
      let b = bounded p.price (grind (arith, ints, is.price.0)) (grind (arith, ints, is.price.1)) in
      then-ok (short words 1) (λ i. price_of_word words 2 >>= λ price. (call_named s i >>= λ j. Ok (record { call = j; price = price }))) id p
      (id_short words id low refl)
      (then-ok (price_of_word words 2) (λ price. call_named s id >>= λ j. Ok (record { call = j; price = price })) p.price p
      (signed_said words 2 (neg_ℤ (pos 1000000000000000000000000)) (pos 1000000000000000000000000) p.price refl refl b is.price.0 is.price.1)
      (then-ok (call_named s id) (λ j. Ok (record { call = j; price = p.price })) p.call p (sym (named_call s id p.call accepted is.call refl)) refl))

  pub price_line : (p : PriceOf) → IsPriceWithin s p → IsLineOfWords (price_words s p) × (length (joined (price_words s p)) ≤ 46)
  price_line p is =
      let id = (call_of s p.call).id in
      let low = call_ids p.call is.call in
      let one = id_length id low in
      let b = bounded p.price (grind (arith, ints, is.price.0)) (grind (arith, ints, is.price.1)) in
      let two = signed_length p.price b in
      let size = joined_is (codes "price") (decimal id ∷ signed_decimal p.price ∷ []) in (
        line_of_words (codes "price") (decimal id ∷ signed_decimal p.price ∷ []) (name_word (codes "price") refl refl)
            (decimal_word id (omega (arith, low)), (signed_word p.price b, tt)) (omega (arith, one, two)),
        omega (arith, one, two, size),
      )

  worth_says : (w : WorthOf) → IsWorthWithin s w → says_worth s (worth_words s w) ≡ Ok w
  worth_says w is =
      let words = worth_words s w in
      let id = (spec_of s w.car).id in
      let low = car_ids w.car is.car in
      let b = bounded w.worth is.worth_low is.worth_high in
      then-ok (short words 1)
      (λ i. worth_of_word words 2
      >>= λ r. (number words 3 1 10000000000 >>= λ claim. (car_named s.building i >>= λ c. Ok (record { car = c; worth = r; claim = claim })))) id w
      (id_short words id low refl)
      (then-ok (worth_of_word words 2)
      (λ r. number words 3 1 10000000000 >>= λ claim. (car_named s.building id >>= λ c. Ok (record { car = c; worth = r; claim = claim }))) w.worth w
      (signed_said words 2 (neg_ℤ (pos 1000000000000000000000000000)) (pos 1000000000000000000000000000) w.worth refl refl b is.worth_low is.worth_high)
      (then-ok (number words 3 1 10000000000) (λ claim. car_named s.building id >>= λ c. Ok (record { car = c; worth = w.worth; claim = claim })) w.claim w
      (written_number words 3 w.claim 1 10000000000 (let high = is.claim_high in omega (arith, high)) refl is.claim_low is.claim_high)
      (then-ok (car_named s.building id) (λ c. Ok (record { car = c; worth = w.worth; claim = w.claim })) w.car w
      (sym (named_car s.building id w.car accepted.building is.car refl)) refl)))

  pub worth_line : (w : WorthOf) → IsWorthWithin s w → IsLineOfWords (worth_words s w) × (length (joined (worth_words s w)) ≤ 58)
  worth_line w is =
      let id = (spec_of s w.car).id in
      let low = car_ids w.car is.car in
      let one = id_length id low in
      let b = bounded w.worth is.worth_low is.worth_high in
      let two = signed_length w.worth b in
      let high = is.claim_high in
      let three = length-decimal-le 11 w.claim (lit< tt) (omega (arith, high)) (omega (arith, high)) in
      let size = joined_is (codes "worth") (decimal id ∷ signed_decimal w.worth ∷ decimal w.claim ∷ []) in (
        line_of_words (codes "worth") (decimal id ∷ signed_decimal w.worth ∷ decimal w.claim ∷ []) (name_word (codes "worth") refl refl)
            (decimal_word id (omega (arith, low)), (signed_word w.worth b, (decimal_word w.claim (omega (arith, high)), tt))) (omega (arith, one, two, three)),
        omega (arith, one, two, three, size),
      )

  worths_say : (worths : List WorthOf) → AllByRecursion (IsWorthWithin s) worths → SayItems s (map (worth_words s) worths) [] worths
  worths_say [] all = (refl, refl)
  worths_say (w ∷ worths) all = inr (worths, (w, worth_says w all.0, refl), worths_say worths all.1)

  items_say : (prices : List PriceOf) (worths : List WorthOf) → AllByRecursion (IsPriceWithin s) prices → AllByRecursion (IsWorthWithin s) worths
      → SayItems s (map (price_words s) prices ++ map (worth_words s) worths) prices worths
  items_say [] worths all more = worths_say worths more
  items_say (p ∷ prices) worths all more = inl (prices, (p, price_says p all.0, refl), items_say prices worths all.1 more)

  prices_lines : (prices : List PriceOf) → AllByRecursion (IsPriceWithin s) prices → AllByRecursion IsLineOfWords (map (price_words s) prices)
  prices_lines [] all = tt
  prices_lines (p ∷ prices) all = ((price_line p all.0).0, prices_lines prices all.1)

  worths_lines : (worths : List WorthOf) → AllByRecursion (IsWorthWithin s) worths → AllByRecursion IsLineOfWords (map (worth_words s) worths)
  worths_lines [] all = tt
  worths_lines (w ∷ worths) all = ((worth_line w all.0).0, worths_lines worths all.1)

  leaf_line : IsLineOfWords leaf_words
  leaf_line = record { some = omega arith; each = (name_word (codes "leaf") refl refl, tt); short = omega arith }

  twig_says : (twig : Twig) → IsTwigWithin s twig → SaysTwig s (twig_lines s twig) twig
  twig_says (Split j part) is = record { line = split_words s j part; lines_are = refl; split_is_said = split_says j part is }
  twig_says (Tip leaf) is = record {
    first = leaf_words;
    items = item_lines s leaf;
    lines_are = refl;
    leaf_is_said = refl;
    items_are_said = items_say leaf.prices leaf.worths (each_of (IsPriceWithin s) leaf.prices is.prices) (each_of (IsWorthWithin s) leaf.worths is.worths);
  }

  twig_is_lines : (twig : Twig) → IsTwigWithin s twig → AllByRecursion IsLineOfWords (twig_lines s twig)
  twig_is_lines (Split j part) is = ((split_line j part is).0, tt)
  twig_is_lines (Tip leaf) is = (
    leaf_line,
    each-append IsLineOfWords (map (price_words s) leaf.prices) (map (worth_words s) leaf.worths)
        (prices_lines leaf.prices (each_of (IsPriceWithin s) leaf.prices is.prices))
        (worths_lines leaf.worths (each_of (IsWorthWithin s) leaf.worths is.worths)),
  )

  twigs_say : (tree : List Twig) → AllByRecursion (IsTwigWithin s) tree → SayTwigs s (flat_map (twig_lines s) tree) tree
  twigs_say [] all = refl
  twigs_say (twig ∷ tree) all = (twig_lines s twig, flat_map (twig_lines s) tree, refl, twig_says twig all.0, twigs_say tree all.1)

  twigs_lines : (tree : List Twig) → AllByRecursion (IsTwigWithin s) tree → AllByRecursion IsLineOfWords (flat_map (twig_lines s) tree)
  twigs_lines [] all = tt
  twigs_lines (twig ∷ tree) all =
      each-append IsLineOfWords (twig_lines s twig) (flat_map (twig_lines s) tree) (twig_is_lines twig all.0) (twigs_lines tree all.1)

-- ---- the whole

module _ (s : Snapshot) (accepted : IsAccepted s) (tree : List Twig) (text : HasText s tree) where
  each : AllByRecursion (IsTwigWithin s) tree
  each = each_of (IsTwigWithin s) tree text.within.twigs

  -- the lines of the text stand for the tree
  pub text_stands : StandsFor s (cert_lines s tree) tree
  unfolding cert_lines
  text_stands = record {
    head = head_words;
    twigs = flat_map (twig_lines s) tree;
    end = end_words;
    lines_are = refl;
    head_is_said = written_number head_words 1 1 1 1 (omega arith) refl (omega arith) (omega arith);
    twigs_are_said = twigs_say s accepted text.car_ids text.call_ids tree each;
    end_is_said = refl;
    whole = text.within.places;
    claims = text.within.claims;
  }

  pub text_lines : AllByRecursion IsLineOfWords (cert_lines s tree)
  unfolding cert_lines
  text_lines =
      let twigs = twigs_lines s accepted text.car_ids text.call_ids tree each in
      let head : IsLineOfWords head_words =
      (let size = length-decimal-le 1 1 (lit< tt) (omega arith) (omega arith) in
      line_of_words (codes "certificate") (decimal 1 ∷ []) (name_word (codes "certificate") refl refl) (decimal_word 1 (omega arith), tt)
      (omega (arith, size))) in
      let end : IsLineOfWords end_words = record { some = omega arith; each = (name_word (codes "end") refl refl, tt); short = omega arith } in
      (head, each-append IsLineOfWords (flat_map (twig_lines s) tree) (end_words ∷ []) twigs (end, tt))

  text_begins : (before : TextState) (tail : List ℕ) → before.bytes ≡ cert_text s tree ++ tail → length (cert_text s tree) ≤ before.limit
      → BeginsWith (cert_lines s tree) (reading before) (reading (behind before s tree tail))
  unfolding cert_text
  text_begins before tail same room =
      subst (λ (bytes : List ℕ).
      BeginsWith (cert_lines s tree) (reading (record { line = before.line; limit = before.limit; bytes = bytes })) (reading (behind before s tree tail)))
      (sym same)
      (lines_again (cert_lines s tree) before.line before.limit tail text_lines room)

-- the text of a tree is read as that tree, where the lines that stand for one are
pub reads_text : (before now : Option TextState) (s : Snapshot) (answer : Result (List Twig) TextFault) → IsAccepted s → ReadsLines before s answer now
    → ReadsText before s answer now
reads_text None now s answer accepted reads tree tail text = tt
reads_text (Some before) now s answer accepted reads tree tail text = λ begins room.
    reads (cert_lines s tree) tree (reading (behind before s tree tail)) (text_stands s accepted tree text)
    (text_begins s accepted tree text before tail begins room)
