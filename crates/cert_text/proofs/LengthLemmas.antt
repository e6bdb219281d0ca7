-- How long the text of a certificate is at most.
use Rattle.std.proofs.Common.{◌≡◌, ℕ, zero, suc, ◌+◌, ◌*◌, ◌^◌, ◌<◌, ◌≤◌, List, [], ◌∷◌, ◌++◌, length, map, Some, refl, arith, length-append, lit<}
use Rattle.std.specs.Prelude.{sum_by, decimal, codes, All}
use Rattle.std.specs.List.{flat_map, AllByRecursion}
use Rattle.std.proofs.lemmas.Fmt.{length-decimal-le}
use Rattle.std.proofs.lemmas.Grind.{flat_map-append}
use Rattle.std.proofs.lemmas.List.Sums.{sum_by-append}
use Rattle.std.proofs.Common.{ap, ◌∙◌}
use Rattle.std.proofs.Math.Nat.{mul-le-mul_left}
use Rattle.elevator_model.specs.Snapshot.{Snapshot, IsAccepted, car_count, call_count, spec_of, call_of}
use Rattle.search_model.specs.declared.PriceOf.{PriceOf}
use Rattle.search_model.specs.declared.WorthOf.{WorthOf}
use Rattle.search_model.specs.declared.Twig.{Twig}
use Rattle.search_model.specs.declared.Twig.TheVariants.{Split, Leaf as Tip}
use Rattle.text_sections.specs.Sections.{Line}
use Rattle.text_sections.specs.Canonical.{joined, line_text, lines_text}
use Rattle.text_sections.proofs.EachLemmas.{each_of}
use Rattle.cert_text.specs.Trees.{places_left, IsPriceWithin, IsWorthWithin, IsTwigWithin}
use Rattle.cert_text.specs.Texts.{head_words, leaf_words, split_words, price_words, worth_words, end_words, item_lines, twig_lines, cert_lines, cert_text}
use Rattle.cert_text.specs.Written.{HasText}
use Rattle.cert_text.proofs.WrittenLemmas.{split_line, price_line, worth_line, joined_is}

-- the most bytes of a twig's lines
abbrev pub most_of : Twig → ℕ
most_of (Split j part) = 193
most_of (Tip leaf) = 5 + (47 * length leaf.prices + 59 * length leaf.worths)

line_size : (words : Line) → length (line_text words) ≡ length (joined words) + 1
line_size words = let size = length-append (joined words) (10 ∷ []) in size

lines_size : (xs ys : List Line) → length (lines_text (xs ++ ys)) ≡ length (lines_text xs) + length (lines_text ys)
lines_size xs ys = ap (λ (bs : List ℕ). length bs) (flat_map-append line_text xs ys) ∙ length-append (lines_text xs) (lines_text ys)

first_size : (words : Line) (lines : List Line) → length (lines_text (words ∷ lines)) ≡ (length (joined words) + 1) + length (lines_text lines)
first_size words lines =
    let all = length-append (line_text words) (lines_text lines) in
    let one = line_size words in
    omega (arith, all, one)

module _ (s : Snapshot) (accepted : IsAccepted s) (car_ids : (c : ℕ) → c < car_count s → (spec_of s c).id < 2 ^ 32)
    (call_ids : (j : ℕ) → j < call_count s → (call_of s j).id < 2 ^ 32) where
  prices_size : (prices : List PriceOf) → AllByRecursion (IsPriceWithin s) prices → length (lines_text (map (price_words s) prices)) ≤ 47 * length prices
  prices_size [] all = omega arith
  prices_size (p ∷ prices) all =
      let rest = prices_size prices all.1 in
      let one = (price_line s accepted car_ids call_ids p all.0).1 in
      let size = first_size (price_words s p) (map (price_words s) prices) in
      omega (arith, rest, one, size)

  worths_size : (worths : List WorthOf) → AllByRecursion (IsWorthWithin s) worths → length (lines_text (map (worth_words s) worths)) ≤ 59 * length worths
  worths_size [] all = omega arith
  worths_size (w ∷ worths) all =
      let rest = worths_size worths all.1 in
      let one = (worth_line s accepted car_ids call_ids w all.0).1 in
      let size = first_size (worth_words s w) (map (worth_words s) worths) in
      omega (arith, rest, one, size)

  twig_size : (twig : Twig) → IsTwigWithin s twig → length (lines_text (twig_lines s twig)) ≤ most_of twig
  twig_size (Split j part) is =
      let one = (split_line s accepted car_ids call_ids j part is).1 in
      let size = first_size (split_words s j part) [] in
      omega (arith, one, size)
  twig_size (Tip leaf) is =
      let prices = prices_size leaf.prices (each_of (IsPriceWithin s) leaf.prices is.prices) in
      let worths = worths_size leaf.worths (each_of (IsWorthWithin s) leaf.worths is.worths) in
      let both = lines_size (map (price_words s) leaf.prices) (map (worth_words s) leaf.worths) in
      let size = first_size leaf_words (item_lines s leaf) in
      let head : length (joined leaf_words) ≡ 4 = refl in
      omega (arith, prices, worths, both, size, head)

  twigs_size : (tree : List Twig) → AllByRecursion (IsTwigWithin s) tree → length (lines_text (flat_map (twig_lines s) tree)) ≤ sum_by most_of tree
  twigs_size [] all = omega arith
  twigs_size (twig ∷ tree) all =
      let rest = twigs_size tree all.1 in
      let one = twig_size twig all.0 in
      let size = lines_size (twig_lines s twig) (flat_map (twig_lines s) tree) in
      let sum = sum_by-append most_of (twig ∷ []) tree in
      omega (arith, rest, one, size, sum)

-- By numbers alone: a split's line has at most 193 bytes, a leaf's lines 5, 47 for each price and 59 for each worth.
pub cert_length : (s : Snapshot) (tree : List Twig) → IsAccepted s → HasText s tree → length (cert_text s tree) ≤ 18 + sum_by most_of tree
unfolding cert_text cert_lines
cert_length s tree accepted text =
    let twigs = twigs_size s accepted text.car_ids text.call_ids tree (each_of (IsTwigWithin s) tree text.within.twigs) in
    let size = first_size head_words (flat_map (twig_lines s) tree ++ end_words ∷ []) in
    let both = lines_size (flat_map (twig_lines s) tree) (end_words ∷ []) in
    let digit = length-decimal-le 1 1 (lit< tt) (omega arith) (omega arith) in
    let head = joined_is (codes "certificate") (decimal 1 ∷ []) in
    let end : length (lines_text (end_words ∷ [])) ≡ 4 = refl in
    omega (arith, twigs, size, both, digit, head, end)

-- ---- by the number of leaves

abbrev pub splits_of : Twig → ℕ
splits_of (Split j part) = 1
splits_of (Tip leaf) = 0

abbrev pub leaves_of : Twig → ℕ
leaves_of (Split j part) = 0
leaves_of (Tip leaf) = 1

-- a leaf has at most as many prices and worths as there are calls and cars
abbrev pub HasAtMost : (prices worths : ℕ) → Twig → Type 0
HasAtMost prices worths (Split j part) = Unit {0}
HasAtMost prices worths (Tip leaf) = (length leaf.prices ≤ prices) × (length leaf.worths ≤ worths)

places_counted : (tree : List Twig) (places left : ℕ) → places_left places tree ≡ Some left → places + sum_by splits_of tree ≡ left + sum_by leaves_of tree
places_counted [] places left fills =
    let same : places ≡ left = cc in
    omega (arith, same)
places_counted (twig ∷ tree) zero left fills = absurd cc
places_counted (Split j part ∷ tree) (suc places) left fills =
    let rest = places_counted tree (suc (suc places)) left fills in
    let splits = sum_by-append splits_of (Split j part ∷ []) tree in
    let leaves = sum_by-append leaves_of (Split j part ∷ []) tree in
    omega (arith, rest, splits, leaves)
places_counted (Tip leaf ∷ tree) (suc places) left fills =
    let rest = places_counted tree places left fills in
    let splits = sum_by-append splits_of (Tip leaf ∷ []) tree in
    let leaves = sum_by-append leaves_of (Tip leaf ∷ []) tree in
    omega (arith, rest, splits, leaves)

-- a whole tree has one leaf more than it has splits
pub leaves_of_whole : (tree : List Twig) → places_left 1 tree ≡ Some 0 → sum_by leaves_of tree ≡ 1 + sum_by splits_of tree
leaves_of_whole tree whole = let counted = places_counted tree 1 0 whole in omega (arith, counted)

module _ (prices worths size : ℕ) (enough : 5 + (47 * prices + 59 * worths) ≤ size) where
  twig_most : (twig : Twig) → HasAtMost prices worths twig → most_of twig ≤ 193 * splits_of twig + size * leaves_of twig
  twig_most (Split j part) few = omega arith
  twig_most (Tip leaf) few = omega (arith, few.0, few.1, enough)

  sum_most : (tree : List Twig) → AllByRecursion (HasAtMost prices worths) tree
      → sum_by most_of tree ≤ 193 * sum_by splits_of tree + size * sum_by leaves_of tree
  sum_most [] all = omega arith
  sum_most (twig ∷ tree) all =
      let rest = sum_most tree all.1 in
      let one = twig_most twig all.0 in
      let most = sum_by-append most_of (twig ∷ []) tree in
      let splits = sum_by-append splits_of (twig ∷ []) tree in
      let leaves = sum_by-append leaves_of (twig ∷ []) tree in
      let scaled = ap (λ (n : ℕ). size * n) leaves in
      omega (arith, rest, one, most, splits, scaled)

-- By the number of leaves, and the prices and worths that each has at most: 8,001 leaves with 128 prices and 16
-- worths each, of 6,965 bytes at most, make fewer than 60,000,000 bytes.
pub cert_length_by_leaves : (s : Snapshot) (tree : List Twig) (leaves prices worths size : ℕ) → IsAccepted s → HasText s tree
    → All (HasAtMost prices worths) tree → sum_by leaves_of tree ≤ leaves
    → 5 + (47 * prices + 59 * worths) ≤ size → length (cert_text s tree) ≤ 18 + (193 + size) * leaves
cert_length_by_leaves s tree leaves prices worths size accepted text all few enough =
    let by_twigs = cert_length s tree accepted text in
    let most = sum_most prices worths size enough tree (each_of (HasAtMost prices worths) tree all) in
    let whole = leaves_of_whole tree text.within.places in
    let scaled : (193 + size) * sum_by leaves_of tree ≤ (193 + size) * leaves = mul-le-mul_left (193 + size) few in
    omega (arith, by_twigs, most, whole, scaled)

-- the most that an answer has
pub cert_length_of_answer : (s : Snapshot) (tree : List Twig) → IsAccepted s → HasText s tree → All (HasAtMost 128 16) tree → sum_by leaves_of tree ≤ 8001
    → length (cert_text s tree) < 60000000
cert_length_of_answer s tree accepted text all few =
    let most = cert_length_by_leaves s tree 8001 128 16 6965 accepted text all few (omega arith) in
    omega (arith, most)
