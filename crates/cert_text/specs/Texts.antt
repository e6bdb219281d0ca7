-- The canonical text of a certificate.
use Rattle.std.specs.Prelude.{◌≡◌, ℕ, List, [], ◌∷◌, ◌++◌, map, decimal, codes}
use Rattle.std.specs.Io.{appended_bytes}
use Rattle.std.specs.List.{flat_map}
use Rattle.std.specs.Fmt.{signed_decimal}
use Rattle.call_sets.specs.Counting.{members}
use Rattle.elevator_model.specs.Snapshot.{Snapshot, spec_of, call_of}
use Rattle.search_model.specs.declared.PriceOf.{PriceOf}
use Rattle.search_model.specs.declared.WorthOf.{WorthOf}
use Rattle.search_model.specs.declared.Leaf.{Leaf}
use Rattle.search_model.specs.declared.Twig.{Twig}
use Rattle.search_model.specs.declared.Twig.TheVariants.{Split, Leaf as Tip}
use Rattle.text_sections.specs.Sections.{Line}
use Rattle.text_sections.specs.Canonical.{lines_text}

-- ---- the words of each line

abbrev pub head_words : Line
head_words = codes "certificate" ∷ decimal 1 ∷ []

-- the ids of the part's cars, by rising index of the cars
abbrev pub split_words : Snapshot → (j part : ℕ) → Line
split_words s j part = codes "split" ∷ decimal (call_of s j).id ∷ map (λ c. decimal (spec_of s c).id) (members 16 part)

abbrev pub leaf_words : Line
leaf_words = codes "leaf" ∷ []

abbrev pub price_words : Snapshot → PriceOf → Line
price_words s p = codes "price" ∷ decimal (call_of s p.call).id ∷ signed_decimal p.price ∷ []

abbrev pub worth_words : Snapshot → WorthOf → Line
worth_words s w = codes "worth" ∷ decimal (spec_of s w.car).id ∷ signed_decimal w.worth ∷ decimal w.claim ∷ []

abbrev pub end_words : Line
end_words = codes "end" ∷ []

-- ---- the lines of a tree

-- all prices before all worths, each in the order of its list
abbrev pub item_lines : Snapshot → Leaf → List Line
item_lines s leaf = map (price_words s) leaf.prices ++ map (worth_words s) leaf.worths

abbrev pub twig_lines : Snapshot → Twig → List Line
twig_lines s (Split j part) = split_words s j part ∷ []
twig_lines s (Tip leaf) = leaf_words ∷ item_lines s leaf

unfoldable pub cert_lines : Snapshot → List Twig → List Line
cert_lines s tree = head_words ∷ flat_map (twig_lines s) tree ++ end_words ∷ []

unfoldable pub cert_text : Snapshot → List Twig → List ℕ
cert_text s tree = lines_text (cert_lines s tree)

-- ---- what stands where writing it ended early

-- the new text has the old one in front
abbrev pub BeginsWith : (new old : List ℕ) → Type 0
BeginsWith new old = new ≡ old ++ appended_bytes old new
