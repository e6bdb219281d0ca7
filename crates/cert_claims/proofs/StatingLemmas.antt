-- The claims of a tree, stated.
use Rattle.std.proofs.Common.{◌≡◌, ℕ, zero, suc, ◌+◌, ◌-◌, ◌*◌, ◌^◌, ◌<◌, ◌≤◌, true, false, List, [], ◌∷◌, length, map, take, get_or, refl, sym, ap, ◌∙◌, subst}
use Rattle.std.proofs.Common.{inl, inr, arith}
use Rattle.std.specs.Prelude.{All, min, None, Some, slice_get}
use Rattle.std.proofs.lemmas.List.{length-map, take_all, take_more}
use Rattle.std.proofs.lemmas.Option.{slice_get-get_or}
use Rattle.std.proofs.lemmas.List.Elements.{All-append, All-nil, All-cons, All-head, All-tail}
use Rattle.std.proofs.lemmas.List.Sums.{sum_by-cons}
use Rattle.call_sets.specs.Counting.{sum_below}
use Rattle.call_sets.proofs.Sums.{sum_below-same}
use Rattle.elevator_model.specs.Snapshot.{Snapshot, IsAccepted, call_count, car_count}
use Rattle.search_model.specs.declared.Leaf.{Leaf}
use Rattle.search_model.specs.declared.Stated.{Stated}
use Rattle.search_model.specs.declared.Twig.{Twig}
use Rattle.search_model.specs.declared.Twig.TheVariants.{Split, Leaf as Tip}
use Rattle.search_model.specs.Nodes.{IsNodeOf, root_of}
use Rattle.search_model.specs.Certificates.{TreePlace, Placed, Proves, claim_in, is_filled, is_whole, placed_from, placed_twigs, places_after, root_place}
use Rattle.search_model.proofs.SnapshotNodes.{root_is_node, first_is_node, second_is_node}
use Rattle.search_model.proofs.TreeLemmas.{part-index}
use Rattle.cert_claims.specs.declared.leaves.Claims.{Claims}
use Rattle.cert_claims.specs.declared.stating.Claimed.{Claimed}
use Rattle.cert_claims.specs.declared.tasks.Task.{Task}
use Rattle.cert_claims.specs.Due.{HasCars, claim_due, claims_of, claims_of_tree, due_of_tree, most_of_tree, worths_of, worths_of_tree}
use Rattle.cert_claims.specs.Leaves.{AreAllDue, IsProvedLeaf, IsProvedTask, IsProvedTree, LeafAt, claimed, extra_of_all, leaf_at, leaf_of, leaves_from}
use Rattle.cert_claims.specs.Stating.{DifferInClaims, IsClaimed, IsLastResort, without_claims}
use Rattle.cert_claims.specs.Lowered.{CanBeLowered, IsCertificate, IsCut, IsLoweredTo, IsSizedTree, IsTried}
use Rattle.cert_claims.specs.Lowering.{GoesBeyond, lesser_bounds, lowered_tree}
use Rattle.cert_claims.specs.declared.stating.LastResort.{LastResort}
use Rattle.cert_claims.proofs.LeafLemmas.{claims_by_car, length_worths}
use Rattle.cert_claims.proofs.LoweringLemmas.{all_can, all_less, cars_lowered, filled_lowered, tree_lowered, worths_lowered}
use Rattle.cert_claims.proofs.TreeLemmas.{Sound, IsDue, due-claimed, due-placed, filled-claimed, nodes_of, sound-claimed, split_leaves, stated-claimed}
use Rattle.cert_claims.proofs.TreeLemmas.{without-claimed, worths-claimed}

-- each place has a node
abbrev HaveNodes : Snapshot → List TreePlace → Type 0
HaveNodes s [] = Unit {0}
HaveNodes s (place ∷ places) = IsNodeOf s place.node × HaveNodes s places

module _ (s : Snapshot) (accepted : IsAccepted s) (bound : ℕ) where
  leaves_proved : (places : List TreePlace) (twigs : List Twig) → HaveNodes s places → All (Sound s bound) (placed_from places twigs) → All HasCars twigs
      → All (IsProvedLeaf s) (leaves_from (nodes_of places) twigs)
  leaves_proved places [] nodes sound cars = All-nil (IsProvedLeaf s)
  leaves_proved [] (twig ∷ twigs) nodes sound cars = All-nil (IsProvedLeaf s)
  leaves_proved (place ∷ places) (Split j part ∷ twigs) nodes sound cars =
      let here : Placed = record { place = place; twig = Split j part } in
      let later = placed_from (places_after place (Split j part) places) twigs in
      let is = All-head (Sound s bound) here later sound in
      let small = All-head HasCars (Split j part) twigs cars in
      let node = nodes.0 in
      let call : j < call_count s = subst (λ (n : ℕ). j < n) node.calls (part-index place.node j part is) in
      let rest = leaves_proved (places_after place (Split j part) places) twigs
      (first_is_node s place.node j part small node call is, (second_is_node s place.node j part node call is, nodes.1))
      (All-tail (Sound s bound) here later sound) (All-tail HasCars (Split j part) twigs cars) in
      subst (All (IsProvedLeaf s)) (sym (split_leaves s bound place j part places twigs is)) rest
  leaves_proved (place ∷ places) (Tip leaf ∷ twigs) nodes sound cars =
      let here : Placed = record { place = place; twig = Tip leaf } in
      let later = placed_from places twigs in
      let own = All-head (Sound s bound) here later sound in
      All-cons (IsProvedLeaf s) (leaf_of place.node leaf) (leaves_from (nodes_of places) twigs)
      (record { node = nodes.0; whole = own.whole; worths = own.worths })
      (leaves_proved places twigs nodes.1 (All-tail (Sound s bound) here later sound) (All-tail HasCars (Tip leaf) twigs cars))

  -- as many worths as leaves and cars
  worths_count : (places : List TreePlace) (twigs : List Twig) → is_filled places twigs ≡ true → All (Sound s bound) (placed_from places twigs)
      → length (leaves_from (nodes_of places) twigs) * car_count s ≡ worths_of_tree twigs
  worths_count places [] filled sound = omega arith
  worths_count [] (twig ∷ twigs) filled sound = absurd cc
  worths_count (place ∷ places) (Split j part ∷ twigs) filled sound =
      let here : Placed = record { place = place; twig = Split j part } in
      let later = placed_from (places_after place (Split j part) places) twigs in
      let same = ap (λ (l : List LeafAt). length l * car_count s)
      (split_leaves s bound place j part places twigs (All-head (Sound s bound) here later sound)) in
      let rest = worths_count (places_after place (Split j part) places) twigs filled (All-tail (Sound s bound) here later sound) in
      let more = sum_by-cons worths_of (Split j part) twigs in
      omega (arith, same, rest, more)
  worths_count (place ∷ places) (Tip leaf ∷ twigs) filled sound =
      let here : Placed = record { place = place; twig = Tip leaf } in
      let later = placed_from places twigs in
      let own = All-head (Sound s bound) here later sound in
      let rest = worths_count places twigs filled (All-tail (Sound s bound) here later sound) in
      let more = sum_by-cons worths_of (Tip leaf) twigs in
      let worths = length_worths s (leaf_of place.node leaf) [] own.whole in
      omega (arith, rest, more, worths)

all_tasks : (s : Snapshot) (tasks : List Task) → All (IsProvedLeaf s) (map leaf_at tasks) → All (IsProvedTask s) tasks
all_tasks s [] all = All-nil (IsProvedTask s)
all_tasks s (task ∷ tasks) all =
    All-cons (IsProvedTask s) task tasks (All-head (IsProvedLeaf s) (leaf_at task) (map leaf_at tasks) all)
    (all_tasks s tasks (All-tail (IsProvedLeaf s) (leaf_at task) (map leaf_at tasks) all))

module _ (s : Snapshot) (accepted : IsAccepted s) (tree : List Twig) (proved : IsProvedTree s tree) where
  pub tasks_proved : (tasks : List Task) → map leaf_at tasks ≡ leaves_from (root_of s ∷ []) tree → All (IsProvedTask s) tasks
  tasks_proved tasks is =
      all_tasks s tasks (subst (All (IsProvedLeaf s)) (sym is)
      (leaves_proved s accepted proved.bound (root_place s ∷ []) tree (root_is_node s accepted, tt) proved.sound proved.cars))

  -- what is spare beyond 1 for each worth
  pub spare_is : (tasks : List Task) (limit worths spare : ℕ) → map leaf_at tasks ≡ leaves_from (root_of s ∷ []) tree
      → worths ≡ min (length tasks * car_count s) (2 ^ 64 - 1) → limit < 2 ^ 63 → spare ≡ limit - worths → spare ≡ limit - worths_of_tree tree
  spare_is tasks limit worths spare is count small e =
      let all = worths_count s accepted proved.bound (root_place s ∷ []) tree proved.whole proved.sound in
      let same = ap (λ (l : List LeafAt). length l) is in
      let mapped = length-map tasks leaf_at in
      let times : length tasks * car_count s ≡ worths_of_tree tree = ap (λ (n : ℕ). n * car_count s) (sym mapped ∙ same) ∙ all in
      omega (arith, count, small, e, times)

-- ---- a tree with the claims that are due

module _ (s : Snapshot) (bound : ℕ) (tree : List Twig) (limit : ℕ) (whole : is_whole s tree ≡ true) (sound : All (Sound s bound) (placed_twigs s tree)) where
  abbrev leaves : List LeafAt
  leaves = leaves_from (root_of s ∷ []) tree

  due_all : due_of_tree s tree ≡ extra_of_all s leaves + worths_of_tree tree
  due_all = due-placed s bound (root_place s ∷ []) tree whole sound

  pub goes_beyond : limit - worths_of_tree tree < extra_of_all s leaves → most_of_tree limit tree < due_of_tree s tree
  goes_beyond over = (let sum = due_all in omega (arith, over, sum))

  pub goes_within : extra_of_all s leaves ≤ limit - worths_of_tree tree → due_of_tree s tree ≤ most_of_tree limit tree
  goes_within few = (let sum = due_all in omega (arith, few, sum))

  module _ (all : List Claims) (due : AreAllDue s leaves all) (few : extra_of_all s leaves ≤ limit - worths_of_tree tree) where
    few_claims : claims_of_tree (claimed tree all) ≤ most_of_tree limit (claimed tree all)
    few_claims =
        let sum = stated-claimed s bound (root_place s ∷ []) tree all whole sound due in
        let worths = worths-claimed tree all in
        omega (arith, sum, worths, few)

    pub certificate_of : (new : List Twig) → new ≡ claimed tree all → IsCertificate s bound limit new
    certificate_of new is = subst (IsCertificate s bound limit) (sym is) (record {
      whole = filled-claimed (root_place s ∷ []) tree all ∙ whole;
      sound = sound-claimed s bound (root_place s ∷ []) tree all sound;
      due = due-claimed s bound (root_place s ∷ []) tree all sound due;
      few = few_claims;
    })

    pub differs_in_claims : (new : List Twig) → new ≡ claimed tree all → DifferInClaims new tree
    differs_in_claims new is = ap (map without_claims) is ∙ without-claimed tree all

-- ---- the last resort

pub resort_certificate : (s : Snapshot) (bound : ℕ) (leaf : Leaf) (limit : ℕ) → IsLastResort s bound leaf → IsCertificate s bound limit (Tip leaf ∷ [])
resort_certificate s bound leaf limit last = record {
  whole = refl;
  sound = All-cons (Sound s bound) here [] last.sound (All-nil (Sound s bound));
  due = All-cons (IsDue s bound) here [] one_each (All-nil (IsDue s bound));
  few = few_claims;
}
  where
    here : Placed
    here = record { place = root_place s; twig = Tip leaf }

    one_each : (c : ℕ) → c < car_count s → claim_in leaf c ≡ claim_due s (root_of s) leaf c
    one_each c lt = (let claim = last.claims c lt in let short = last.few c lt in omega (arith, claim, short))

    ones : (n : ℕ) → sum_below n (λ c. 1) ≡ n
    ones zero = refl
    ones (suc n) = (let rest = ones n in omega (arith, rest))

    few_claims : claims_of_tree (Tip leaf ∷ []) ≤ most_of_tree limit (Tip leaf ∷ [])
    few_claims =
        let at = leaf_of (root_of s) leaf in
        let by_car = claims_by_car s at [] last.sound.whole in
        let each = sum_below-same (car_count s) (claim_in leaf) (λ c. 1) last.claims in
        let all = ones (car_count s) in
        let count = length_worths s at [] last.sound.whole in
        let one = sum_by-cons claims_of (Tip leaf) [] in
        let other = sum_by-cons worths_of (Tip leaf) [] in
        omega (arith, by_car, each, all, count, one, other)

-- ---- the answers

-- a tree with worths lowered to a bound proves it
module _ (s : Snapshot) (accepted : IsAccepted s) (bound : ℕ) (tree : List Twig) (is : IsSizedTree s bound tree) where
  abbrev lowered : List Twig
  lowered = lowered_tree bound tree

  pub lowered_whole : is_whole s lowered ≡ true
  lowered_whole = filled_lowered bound (root_place s ∷ []) tree ∙ is.whole

  pub lowered_sound : All (Sound s bound) (placed_twigs s lowered)
  lowered_sound = tree_lowered bound s (root_place s ∷ []) tree is.sound

  pub can_be : All (CanBeLowered bound) tree
  can_be = all_can bound s accepted (root_place s ∷ []) tree is.whole is.sound is.sizes

  pub lowered_proved : IsProvedTree s lowered
  lowered_proved = record { bound = bound; whole = lowered_whole; sound = lowered_sound; cars = cars_lowered bound tree is.cars }

  pub tried_within : (limit : ℕ) (all : List Claims) (new : Claimed) → AreAllDue s (leaves_from (root_of s ∷ []) lowered) all
      → extra_of_all s (leaves_from (root_of s ∷ []) lowered) ≤ limit - worths_of_tree lowered → new.tree.twigs ≡ claimed lowered all → new.bound ≡ bound
      → new.cut ≡ true → IsTried s bound limit tree (Some new)
  tried_within limit all new due few e bound_is cut = record {
    certificate = certificate_of s bound lowered limit lowered_whole lowered_sound all due few new.tree.twigs e;
    tree_is = differs_in_claims s bound lowered limit lowered_whole lowered_sound all due few new.tree.twigs e;
    bound_is = bound_is;
    cut = cut;
  }

  pub tried_beyond : (limit : ℕ) → limit - worths_of_tree lowered < extra_of_all s (leaves_from (root_of s ∷ []) lowered) → IsTried s bound limit tree None
  tried_beyond limit over =
      let beyond = goes_beyond s bound lowered limit lowered_whole lowered_sound over in
      let worths = worths_lowered bound tree in
      omega (arith, beyond, worths)

-- a bound that is tried is no greater
pub lesser_low : (bound least k d : ℕ) → k < length (lesser_bounds bound least) → get_or (lesser_bounds bound least) k d ≤ bound
lesser_low bound least zero d lt = omega arith
lesser_low bound least (suc zero) d lt = omega arith
lesser_low bound least (suc (suc zero)) d lt = omega arith
lesser_low bound least (suc (suc (suc k))) d lt = absurd (omega (arith, lt))

-- a lesser bound
pub sized_less : (s : Snapshot) (from bound : ℕ) (tree : List Twig) → bound ≤ from → IsSizedTree s from tree → IsSizedTree s bound tree
sized_less s from bound tree le is =
    record { whole = is.whole; sound = all_less s from bound le (placed_twigs s tree) is.sound; cars = is.cars; sizes = is.sizes }

-- one bound after another
module _ (s : Snapshot) (bound : ℕ) (tree : List Twig) (resort : LastResort) (limit : ℕ) (bounds : List ℕ)
    (are : bounds ≡ lesser_bounds bound resort.bound) where
  abbrev Beyond : ℕ → Type 0
  Beyond b = GoesBeyond s limit tree b

  pub bound_low : (k d : ℕ) → k < length bounds → get_or bounds k d ≤ bound
  bound_low k d lt = subst (λ (l : List ℕ). get_or l k d ≤ bound) (sym are) (lesser_low bound resort.bound k d (subst (λ (l : List ℕ). k < length l) are lt))

  pub beyond_more : (k d : ℕ) → k < length bounds → All Beyond (take k bounds) → Beyond (get_or bounds k d) → All Beyond (take (k + 1) bounds)
  beyond_more k d lt before here =
      subst (All Beyond) (sym (take_more bounds k d lt))
      (All-append Beyond (take k bounds) (get_or bounds k d ∷ []) before (All-cons Beyond (get_or bounds k d) [] here (All-nil Beyond)))

  pub cut_lowered : (k d : ℕ) (new : Claimed) → k < length bounds → All Beyond (take k bounds) → IsLoweredTo s (get_or bounds k d) limit tree new
      → IsCut s bound tree resort limit new
  cut_lowered k d new lt before is = record {
    certificate = subst (λ (b : ℕ). IsCertificate s b limit new.tree.twigs) (sym is.bound_is) is.certificate;
    low = (let low = bound_low k d lt in let e = is.bound_is in omega (arith, low, e));
    cut = is.cut;
    lesser = inl (record {
      place = k;
      bound_is = ap (λ (l : List ℕ). slice_get l k) (sym are) ∙ slice_get-get_or bounds k d lt ∙ ap Some (sym is.bound_is);
      before = subst (λ (l : List ℕ). All Beyond (take k l)) are before;
      tree_is = subst (λ (b : ℕ). DifferInClaims new.tree.twigs (lowered_tree b tree)) (sym is.bound_is) is.tree_is;
    });
  }

  pub cut_resort : (k : ℕ) (new : Claimed) → length bounds ≤ k → All Beyond (take k bounds) → IsLastResort s resort.bound resort.leaf → resort.bound ≤ bound
      → new.tree.twigs ≡ Tip resort.leaf ∷ [] → new.bound ≡ resort.bound → new.cut ≡ true → IsCut s bound tree resort limit new
  cut_resort k new past before last low tree_is bound_is cut = record {
    certificate = subst (λ (t : List Twig). IsCertificate s new.bound limit t) (sym tree_is)
        (subst (λ (b : ℕ). IsCertificate s b limit (Tip resort.leaf ∷ [])) (sym bound_is) (resort_certificate s resort.bound resort.leaf limit last));
    low = omega (arith, low, bound_is);
    cut = cut;
    lesser = inr (record {
      bound_is = bound_is;
      before = subst (All Beyond) (take_all k bounds past ∙ are) before;
      tree_is = tree_is;
    });
  }

module _ (s : Snapshot) (stated : Stated) (tree : List Twig) (resort : LastResort) (limit : ℕ)
    (proves : Proves s stated.plan stated.cost stated.bound tree) where
  pub whole_claimed : (all : List Claims) (new : Claimed) → AreAllDue s (leaves_from (root_of s ∷ []) tree) all
      → extra_of_all s (leaves_from (root_of s ∷ []) tree) ≤ limit - worths_of_tree tree → new.tree.twigs ≡ claimed tree all → new.bound ≡ stated.bound
      → new.cut ≡ false → IsClaimed s stated tree resort limit new
  whole_claimed all new due few e bound cut =
      let certificate = certificate_of s stated.bound tree limit proves.whole proves.sound all due few new.tree.twigs e in
      let within = goes_within s stated.bound tree limit proves.whole proves.sound few in
      record {
        proves = subst (λ (b : ℕ). Proves s stated.plan stated.cost b new.tree.twigs) (sym bound)
            (record { feasible = proves.feasible; costs = proves.costs; whole = certificate.whole; sound = certificate.sound });
        low = omega (arith, bound);
        due = certificate.due;
        few = certificate.few;
        cut = (λ t. absurd (differ (sym cut ∙ t)), λ over. absurd (omega (arith, over, within)));
        whole = λ _. (bound, differs_in_claims s stated.bound tree limit proves.whole proves.sound all due few new.tree.twigs e);
        lesser = λ t. absurd (differ (sym cut ∙ t));
      }
    where
      differ : false ≡ true → ⊥
      differ e = cc

  pub cut_claimed : (new : Claimed) → limit - worths_of_tree tree < extra_of_all s (leaves_from (root_of s ∷ []) tree)
      → IsCut s stated.bound tree resort limit new → IsClaimed s stated tree resort limit new
  cut_claimed new over is =
      let certificate = is.certificate in
      record {
        proves = record { feasible = proves.feasible; costs = proves.costs; whole = certificate.whole; sound = certificate.sound };
        low = is.low;
        due = certificate.due;
        few = certificate.few;
        cut = (λ t. goes_beyond s stated.bound tree limit proves.whole proves.sound over, λ o. is.cut);
        whole = λ f. absurd (differ (sym is.cut ∙ f));
        lesser = λ t. is.lesser;
      }
    where
      differ : true ≡ false → ⊥
      differ e = cc
