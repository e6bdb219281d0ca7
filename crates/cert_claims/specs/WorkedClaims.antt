-- Worked cases of claims: two cars with uneven numbers and a split of the last call, whose kept lists have 1 and 6 partial
-- tours in the first part, and 3 and 3 in the second.
use Rattle.std.specs.Prelude.{◌≡◌, pos, negsuc, List, [], ◌∷◌, refl}
use Rattle.search_model.specs.declared.Twig.{Twig}
use Rattle.search_model.specs.Uneven.{uneven_pair}
use Rattle.search_model.specs.Nodes.{root_of}
use Rattle.search_model.specs.WorkedVerdicts.{leaf_of, uneven_leaf, uneven_tree, worth_of}
use Rattle.search_model.specs.declared.Twig.TheVariants.{Split}
use Rattle.elevator_model.specs.Worked.{one_call}
use Rattle.cert_claims.specs.Due.{claim_due, claims_of_tree, due_of_tree, most_of_tree, worths_of_tree}
use Rattle.cert_claims.specs.Lowering.{lesser_bounds, lowered_tree}

-- the claims that it states of the small car are of no account
abbrev pub uneven : List Twig
uneven = uneven_tree (worth_of 1 (pos 65750000) 4) (worth_of 1 (pos 0) 9)

due_in_all : due_of_tree uneven_pair uneven ≡ 13
due_in_all = refl

stated_in_all : claims_of_tree uneven ≡ 17
stated_in_all = refl

worths_in_all : worths_of_tree uneven ≡ 4
worths_in_all = refl

most_by_limit : most_of_tree 5 uneven ≡ 5
most_by_limit = refl

most_by_worths : most_of_tree 3 uneven ≡ 4
most_by_worths = refl

due_of_some : claim_due one_call (root_of one_call) (leaf_of (pos 7500001) 0) 0 ≡ 5
due_of_some = refl

-- no partial tour is kept, and one is claimed
due_of_none : claim_due one_call (root_of one_call) (leaf_of (negsuc 7500000) 0) 0 ≡ 1
due_of_none = refl

-- the first leaf has 277200000 in all, 37700999 more than 239500 needs, and the second one 100999 more
lowered_evenly : lowered_tree 239500 uneven
    ≡ (Split 2 2 ∷ uneven_leaf (worth_of 0 (pos 62599501) 1) (worth_of 1 (pos 46899501) 4)
    ∷ uneven_leaf (worth_of 0 (pos 109549501) 3) (worth_of 1 (negsuc 50498) 9) ∷ [])
lowered_evenly = refl

bounds_below : lesser_bounds 239600 100000 ≡ (237418 ∷ 230875 ∷ 204700 ∷ [])
bounds_below = refl
