-- Trees with lesser worths, which prove a lesser bound and have shorter kept lists.
use Rattle.std.specs.Prelude.{ℕ, ◌<◌, ◌-◌, ◌/◌, ◌^◌, max, ℤ, pos, neg_ℤ, ◌-ℤ◌, int_lt, unsigned_abs, List, [], ◌∷◌, length, map, All, if◌then◌else◌}
use Rattle.std.specs.Int.{div_ceil}
use Rattle.elevator_model.specs.Snapshot.{Snapshot}
use Rattle.price_scale.specs.Scale.{IsPrice}
use Rattle.search_model.specs.declared.PriceOf.{PriceOf}
use Rattle.search_model.specs.declared.WorthOf.{WorthOf}
use Rattle.search_model.specs.declared.Leaf.{Leaf}
use Rattle.search_model.specs.declared.Twig.{Twig}
use Rattle.search_model.specs.declared.Twig.TheVariants.{Split, Leaf as Tip}
use Rattle.search_model.specs.Certificates.{sum_needed, sum_of_leaf}
use Rattle.kept_tours.specs.Leaves.{HasWorthSize}
use Rattle.cert_claims.specs.Due.{due_of_tree, most_of_tree}

-- ---- sizes

-- each price lies in its range, and each worth
pub record IsSizedLeaf (leaf : Leaf) : Type 0 where
  pub prices : All (λ (p : PriceOf). IsPrice p.price) leaf.prices
  pub worths : All HasWorthSize leaf.worths

abbrev pub IsSizedTwig : Twig → Type 0
IsSizedTwig (Split j part) = Unit {0}
IsSizedTwig (Tip leaf) = IsSizedLeaf leaf

-- ---- lesser worths

-- how far each worth of a leaf falls so that its sum still proves the bound
abbrev pub share_of : (bound : ℕ) → Leaf → ℤ
share_of bound leaf = pos (unsigned_abs (sum_of_leaf leaf -ℤ sum_needed bound) / max 1 (length leaf.worths))

-- the worth, lowered by this much where it stays one that a certificate may state
abbrev pub lowered_worth : (by : ℤ) → WorthOf → WorthOf
lowered_worth by w = record {
  car = w.car;
  worth = if int_lt (w.worth -ℤ by) (neg_ℤ (pos (10 ^ 27))) then w.worth else w.worth -ℤ by;
  claim = w.claim;
}

abbrev pub lowered_leaf : (bound : ℕ) → Leaf → Leaf
lowered_leaf bound leaf = record { prices = leaf.prices; worths = map (lowered_worth (share_of bound leaf)) leaf.worths }

abbrev pub lowered_twig : (bound : ℕ) → Twig → Twig
lowered_twig bound (Split j part) = Split j part
lowered_twig bound (Tip leaf) = Tip (lowered_leaf bound leaf)

-- the tree with worths lowered to what proves the bound
abbrev pub lowered_tree : (bound : ℕ) → List Twig → List Twig
lowered_tree bound tree = map (lowered_twig bound) tree

-- ---- which bound

-- the bounds that are tried: a 64th, a 16th and a quarter of the way down to the least one
abbrev pub lesser_bounds : (bound least : ℕ) → List ℕ
lesser_bounds bound least = (bound - div_ceil (bound - least) 64) ∷ (bound - div_ceil (bound - least) 16) ∷ (bound - div_ceil (bound - least) 4) ∷ []

-- the claims go past the limit that are due in the tree with worths lowered to this bound
abbrev pub GoesBeyond : Snapshot → (limit : ℕ) → List Twig → (bound : ℕ) → Type 0
GoesBeyond s limit tree bound = most_of_tree limit tree < due_of_tree s (lowered_tree bound tree)
