-- Twigs that lines say lie in their ranges.
use Rattle.std.proofs.Common.{◌≡◌, ℕ, suc, ◌^◌, ◌<◌, ◌≤◌, ◌==◌, Bool, true, false, List, [], ◌∷◌, ◌++◌, length, Option, None, Some, Ok, Err, refl, sym, ap, ◌∙◌}
use Rattle.std.proofs.Common.{subst, arith, inl, inr}
use Rattle.std.specs.Prelude.{ℤ, pos, neg_ℤ, ◌≤ℤ◌, int_lt, ◌||◌, codes, All, IsTrue, if◌then◌else◌}
use Rattle.std.proofs.lemmas.Bool.{eqb-true, both_ways, cases_lt}
use Rattle.std.proofs.lemmas.Int.{ints}
use Rattle.std.proofs.lemmas.List.Elements.{All-nil, All-weaker}
use Rattle.call_sets.specs.Counting.{has, is_among}
use Rattle.call_sets.proofs.Bits.{has_none_above}
use Rattle.elevator_model.specs.declared.Call.{Call}
use Rattle.elevator_model.specs.Building.{Building}
use Rattle.elevator_model.specs.Snapshot.{Snapshot, car_count, call_count}
use Rattle.search_model.specs.declared.PriceOf.{PriceOf}
use Rattle.search_model.specs.declared.WorthOf.{WorthOf}
use Rattle.search_model.specs.declared.Twig.{Twig}
use Rattle.search_model.specs.declared.Twig.TheVariants.{Split, Leaf as Tip}
use Rattle.search_model.specs.Certificates.{root_place, is_whole}
use Rattle.search_model.proofs.SetLemmas.{set_where-below, has-set_where}
use Rattle.lift_text.specs.Numbers.{number_of}
use Rattle.lift_text.specs.declared.codes.TextCode.TheVariants.{OutOfRange}
use Rattle.text_sections.specs.Judging.{◌>>=◌}
use Rattle.text_sections.specs.Words.{exactly, at_least, number, signed_within, word_at, short, named}
use Rattle.text_sections.specs.NumberLists.{numbers}
use Rattle.text_sections.specs.Sections.{Line}
use Rattle.text_sections.proofs.StepLemmas.{then-inv, known-below}
use Rattle.text_sections.proofs.EachLemmas.{all_more}
use Rattle.text_sections.proofs.NumberLemmas.{number_in}
use Rattle.snapshot_text.specs.Words.{car_named}
use Rattle.snapshot_text.proofs.Steps.{car_named-below}
use Rattle.answer_text.specs.Words.{call_named}
use Rattle.cert_text.specs.declared.kinds.Entry.{Entry}
use Rattle.cert_text.specs.declared.kinds.Entry.TheVariants.{Split as SplitEntry}
use Rattle.cert_text.specs.Words.{cars_named, part_of, part_named, split_said, price_of_word, price_said, worth_of_word, worth_said}
use Rattle.cert_text.specs.Trees.{sum_of_claims, IsPriceWithin, IsWorthWithin, IsSplitWithin, IsTwigWithin, IsWithin, IsKnownPrice, IsKnownWorth, IsKnownTwig}
use Rattle.cert_text.specs.Trees.{AreTwigsKnown}
use Rattle.cert_text.specs.Certs.{says_split, says_price, says_worth, SayItems, SaysTwig, SayTwigs, StandsFor}
use Rattle.cert_text.proofs.TreeLemmas.{filled, filled_back}

-- ---- each element

all_head : {X : Type 0} (P : X → Type 0) (x : X) (xs : List X) → All P (x ∷ xs) → P x
all_head P x xs all = all 0 x (omega arith)

all_tail : {X : Type 0} (P : X → Type 0) (x : X) (xs : List X) → All P (x ∷ xs) → All P xs
all_tail P x xs all = λ k d below. all (suc k) d (omega arith)

pub all_front : {X : Type 0} (P : X → Type 0) (xs ys : List X) → All P (xs ++ ys) → All P xs
all_front P [] ys all = λ k d below. absurd (omega arith)
all_front P (x ∷ xs) ys all = all_more P x xs (all_head P x (xs ++ ys) all) (all_front P xs ys (all_tail P x (xs ++ ys) all))

pub all_last : {X : Type 0} (P : X → Type 0) (xs : List X) (x : X) → All P (xs ++ x ∷ []) → P x
all_last P [] x all = all_head P x [] all
all_last P (y ∷ xs) x all = all_last P xs x (all_tail P y (xs ++ x ∷ []) all)

-- ---- numbers

kept_by : (a b : Bool) (x v : ℤ) → (if a || b then Err OutOfRange else Ok x) ≡ Ok v → (a ≡ false) × (b ≡ false) × (x ≡ v)
kept_by true b x v e = absurd cc
kept_by false true x v e = absurd cc
kept_by false false x v e = (refl, refl, cc)

not_less : (a b : ℤ) → int_lt a b ≡ false → b ≤ℤ a
not_less a b e = grind (arith, ints)

signed_in : (low high : ℤ) (o : Option ℤ) (v : ℤ) → signed_within low high o ≡ Ok v → (low ≤ℤ v) × (v ≤ℤ high)
signed_in low high None v e = absurd cc
signed_in low high (Some x) v e =
    let kept = kept_by (int_lt x low) (int_lt high x) x v e in
    (subst (λ (z : ℤ). low ≤ℤ z) kept.2 (not_less x low kept.0), subst (λ (z : ℤ). z ≤ℤ high) kept.2 (not_less high x kept.1))

-- ---- calls and cars

call_below : (s : Snapshot) (id j : ℕ) → call_named s id ≡ Ok j → j < call_count s
call_below s id j e = known-below (λ (x : Call). x.id == id) s.calls j e

-- each car of the list is one of the building
pub cars_below : (b : Building) (ids cars : List ℕ) → cars_named b ids ≡ Ok cars → (c : ℕ) → is_among c cars ≡ true → c < length b.cars
cars_below b [] [] e c among = absurd cc
cars_below b [] (x ∷ cars) e c among = absurd cc
cars_below b (id ∷ ids) cars e c among =
    let first = then-inv (car_named b id) (λ x. cars_named b ids >>= λ xs. Ok (x ∷ xs)) cars e in
    let later = then-inv (cars_named b ids) (λ xs. Ok (first.0 ∷ xs)) cars first.2 in
    let same : first.0 ∷ later.0 ≡ cars = cc in
    either first.0 later.0 (first.0 == c) refl (subst (λ (xs : List ℕ). is_among c xs ≡ true) (sym same) among) (car_named-below b id first.0 first.1)
    (cars_below b ids later.0 later.1 c)
  where
    either : (x : ℕ) (xs : List ℕ) (is : Bool) → (x == c) ≡ is → is_among c (x ∷ xs) ≡ true → x < length b.cars → (is_among c xs ≡ true → c < length b.cars)
        → c < length b.cars
    either x xs true is found small rest = let same = eqb-true x c is in omega (arith, same, small)
    either x xs false is found small rest = rest (sym (ap (λ (h : Bool). h || is_among c xs) is) ∙ found)

part_below : (s : Snapshot) (ids : List ℕ) (part : ℕ) → part_named s.building ids ≡ Ok part → (part < 2 ^ 16) × ((c : ℕ) → has part c ≡ true → c < car_count s)
unfolding part_of
part_below s ids part e =
    let cars = then-inv (cars_named s.building ids) (λ xs. Ok (part_of xs)) part e in
    let same : part_of cars.0 ≡ part = cc in
    let small = set_where-below 16 (λ c. is_among c cars.0) in
    subst (λ (p : ℕ). (p < 2 ^ 16) × ((c : ℕ) → has p c ≡ true → c < car_count s)) same (
      small,
      λ c h. elim (cases_lt c 16) [
        | inl lt ↦ cars_below s.building ids cars.0 cars.1 c (sym (has-set_where 16 (λ k. is_among k cars.0) c lt) ∙ h)
        | inr past ↦ absurd (both_ways (has (part_of cars.0) c) (has_none_above 16 (part_of cars.0) c small past) h)
      ],
    )

-- ---- lines

split_within : (s : Snapshot) (words : Line) (j part : ℕ) → says_split s words ≡ Ok (SplitEntry j part) → IsSplitWithin s j part
split_within s words j part e =
    let y : Entry = SplitEntry j part in
    let name = then-inv (named (codes "split") words) (λ _. split_said s words) y e in
    let one = then-inv (at_least words 2)
    (λ _. short words 1 >>= λ id.
    (numbers words 2 0 4294967295 >>= λ ids. (call_named s id >>= λ i. (part_named s.building ids >>= λ p. Ok (SplitEntry i p))))) y name.2 in
    let two = then-inv (short words 1)
    (λ id. numbers words 2 0 4294967295 >>= λ ids. (call_named s id >>= λ i. (part_named s.building ids >>= λ p. Ok (SplitEntry i p)))) y one.2 in
    let three = then-inv (numbers words 2 0 4294967295) (λ ids. call_named s two.0 >>= λ i. (part_named s.building ids >>= λ p. Ok (SplitEntry i p))) y two.2 in
    let four = then-inv (call_named s two.0) (λ i. part_named s.building three.0 >>= λ p. Ok (SplitEntry i p)) y three.2 in
    let five = then-inv (part_named s.building three.0) (λ p. Ok (SplitEntry four.0 p)) y four.2 in
    let calls : four.0 ≡ j = cc in
    let parts : five.0 ≡ part = cc in
    let cars = part_below s three.0 five.0 five.1 in
    let here : IsSplitWithin s four.0 five.0 = record { call = call_below s two.0 four.0 four.1; cars = cars.1; set = cars.0 } in
    subst (λ (p : ℕ). IsSplitWithin s j p) {x = five.0} parts (subst (λ (i : ℕ). IsSplitWithin s i five.0) {x = four.0} calls here)

price_within : (s : Snapshot) (words : Line) (price : PriceOf) → says_price s words ≡ Ok price → IsPriceWithin s price
price_within s words price e =
    let name = then-inv (named (codes "price") words) (λ _. price_said s words) price e in
    let one = then-inv (exactly words 3)
    (λ _. short words 1 >>= λ id. (price_of_word words 2 >>= λ p. (call_named s id >>= λ j. Ok (record { call = j; price = p })))) price name.2 in
    let two = then-inv (short words 1) (λ id. price_of_word words 2 >>= λ p. (call_named s id >>= λ j. Ok (record { call = j; price = p }))) price one.2 in
    let three = then-inv (price_of_word words 2) (λ p. call_named s two.0 >>= λ j. Ok (record { call = j; price = p })) price two.2 in
    let four = then-inv (call_named s two.0) (λ j. Ok (record { call = j; price = three.0 })) price three.2 in
    let found : PriceOf = record { call = four.0; price = three.0 } in
    let same : found ≡ price = cc in
    subst (λ (p : PriceOf). IsPriceWithin s p) {x = found} same
    (record {
      call = call_below s two.0 four.0 four.1;
      price =
          signed_in (neg_ℤ (pos 1000000000000000000000000)) (pos 1000000000000000000000000) (number_of true (word_at words 2)) three.0 three.1;
    })

worth_within : (s : Snapshot) (words : Line) (worth : WorthOf) → says_worth s words ≡ Ok worth → IsWorthWithin s worth
worth_within s words worth e =
    let name = then-inv (named (codes "worth") words) (λ _. worth_said s words) worth e in
    let one = then-inv (exactly words 4)
    (λ _. short words 1 >>= λ id.
    (worth_of_word words 2 >>= λ r.
    (number words 3 1 10000000000 >>= λ claim. (car_named s.building id >>= λ c. Ok (record { car = c; worth = r; claim = claim }))))) worth name.2 in
    let two = then-inv (short words 1)
    (λ id. worth_of_word words 2
    >>= λ r. (number words 3 1 10000000000 >>= λ claim. (car_named s.building id >>= λ c. Ok (record { car = c; worth = r; claim = claim })))) worth
    one.2 in
    let three = then-inv (worth_of_word words 2)
    (λ r. number words 3 1 10000000000 >>= λ claim. (car_named s.building two.0 >>= λ c. Ok (record { car = c; worth = r; claim = claim }))) worth two.2 in
    let four = then-inv (number words 3 1 10000000000)
    (λ claim. car_named s.building two.0 >>= λ c. Ok (record { car = c; worth = three.0; claim = claim })) worth three.2 in
    let five = then-inv (car_named s.building two.0) (λ c. Ok (record { car = c; worth = three.0; claim = four.0 })) worth four.2 in
    let found : WorthOf = record { car = five.0; worth = three.0; claim = four.0 } in
    let same : found ≡ worth = cc in
    let range = signed_in (neg_ℤ (pos 1000000000000000000000000000)) (pos 1000000000000000000000000000) (number_of true (word_at words 2)) three.0 three.1 in
    let claim = number_in words 3 1 10000000000 four.0 four.1 in
    subst (λ (w : WorthOf). IsWorthWithin s w) {x = found} same
    (record { car = car_named-below s.building two.0 five.0 five.1; worth_low = range.0; worth_high = range.1; claim_low = claim.0; claim_high = claim.1 })

-- ---- twigs

module _ (s : Snapshot) where
  items_within : (lines : List Line) (prices : List PriceOf) (worths : List WorthOf) → SayItems s lines prices worths → All (IsPriceWithin s) prices
      × All (IsWorthWithin s) worths
  items_within [] prices worths said = (
    subst (λ (ps : List PriceOf). All (IsPriceWithin s) ps) (sym said.0) (All-nil (IsPriceWithin s)),
    subst (λ (ws : List WorthOf). All (IsWorthWithin s) ws) (sym said.1) (All-nil (IsWorthWithin s)),
  )
  items_within (line ∷ lines) prices worths said =
      elim said [
        | inl h ↦ (let rest = items_within lines h.0 worths h.2 in (
          subst (λ (ps : List PriceOf). All (IsPriceWithin s) ps) (sym h.1.2)
              (all_more (IsPriceWithin s) h.1.0 h.0 (price_within s line h.1.0 h.1.1) rest.0),
          rest.1,
        ))
        | inr h ↦ (let rest = items_within lines prices h.0 h.2 in (
          rest.0,
          subst (λ (ws : List WorthOf). All (IsWorthWithin s) ws) (sym h.1.2)
              (all_more (IsWorthWithin s) h.1.0 h.0 (worth_within s line h.1.0 h.1.1) rest.1),
        ))
      ]

  twig_within : (lines : List Line) (twig : Twig) → SaysTwig s lines twig → IsTwigWithin s twig
  twig_within lines (Split j part) said = split_within s said.line j part said.split_is_said
  twig_within lines (Tip leaf) said = let items = items_within said.items leaf.prices leaf.worths said.items_are_said in
      record { prices = items.0; worths = items.1 }

  pub twigs_within : (lines : List Line) (twigs : List Twig) → SayTwigs s lines twigs → All (IsTwigWithin s) twigs
  twigs_within lines [] said = All-nil (IsTwigWithin s)
  twigs_within lines (twig ∷ twigs) said = all_more (IsTwigWithin s) twig twigs (twig_within said.0 twig said.3) (twigs_within said.1 twigs said.4)

  pub stands_within : (lines : List Line) (tree : List Twig) → StandsFor s lines tree → IsWithin s tree
  stands_within lines tree stands =
      let whole = filled (root_place s ∷ []) tree stands.whole in
      record { twigs = twigs_within stands.twigs tree stands.twigs_are_said; places = stands.whole; whole = whole; claims = stands.claims }

-- ---- a whole tree

-- what is asked of a tree that was made, so that its text is read as it again
pub whole_within : (s : Snapshot) (tree : List Twig) → All (IsTwigWithin s) tree → IsTrue (is_whole s tree) → sum_of_claims tree ≤ 10 ^ 10 → IsWithin s tree
whole_within s tree twigs whole claims = record { twigs = twigs; places = filled_back (root_place s ∷ []) tree whole; whole = whole; claims = claims }

-- ---- twigs that can be written

known_twig : (s : Snapshot) (twig : Twig) → IsTwigWithin s twig → IsKnownTwig s twig
known_twig s (Split j part) is = record { call = is.call; cars = is.cars }
known_twig s (Tip leaf) is = record {
  prices = All-weaker (IsPriceWithin s) (IsKnownPrice s) (λ p within. within.call) leaf.prices is.prices;
  worths = All-weaker (IsWorthWithin s) (IsKnownWorth s) (λ w within. within.car) leaf.worths is.worths;
}

-- twigs in their ranges can be written, such as those that were read
pub twigs_known : (s : Snapshot) (tree : List Twig) → All (IsTwigWithin s) tree → AreTwigsKnown s tree
twigs_known s tree all = All-weaker (IsTwigWithin s) (IsKnownTwig s) (known_twig s) tree all
