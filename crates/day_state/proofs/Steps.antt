-- One step more of the lists and numbers that loops make.
use Rattle.std.proofs.Common.{◌≡◌, ℕ, ◌+◌, ◌<◌, Bool, true, false, cond, List, [], ◌∷◌, ◌++◌, map, take, length, get_or, ap, sym, ◌∙◌, arith, add-one}
use Rattle.std.proofs.Common.{append-nil, append_assoc, Some}
use Rattle.std.specs.List.{filter, range_with_len, flat_map}
use Rattle.std.proofs.lemmas.Bool.{cond-true, cond-false}
use Rattle.std.proofs.lemmas.List.{map-append, take_more}
use Rattle.std.proofs.lemmas.List.Concat.{flat_map-append}
use Rattle.std.proofs.lemmas.List.Elements.{filter-append, filter_more}
use Rattle.search_model.specs.Sums.{least_where, lesser_of}
use Rattle.day_state.proofs.Numbering.{range-more}

-- ---- the least number

pub least-with : (n : ℕ) (t : ℕ → Bool) (f : ℕ → ℕ) → t n ≡ true → least_where (n + 1) t f ≡ Some (lesser_of (least_where n t f) (f n))
least-with n t f h =
    ap (λ (m : ℕ). least_where m t f) (add-one n) ∙ cond-true (t n) (Some (lesser_of (least_where n t f) (f n))) (least_where n t f) h

pub least-without : (n : ℕ) (t : ℕ → Bool) (f : ℕ → ℕ) → t n ≡ false → least_where (n + 1) t f ≡ least_where n t f
least-without n t f h =
    ap (λ (m : ℕ). least_where m t f) (add-one n) ∙ cond-false (t n) (Some (lesser_of (least_where n t f) (f n))) (least_where n t f) h

-- ---- what passes a test in a range

filter-next : (t : ℕ → Bool) (a n : ℕ) → filter t (range_with_len a (n + 1)) ≡ filter t (range_with_len a n) ++ cond (t (a + n)) ((a + n) ∷ []) []
filter-next t a n =
    ap (λ (m : ℕ). filter t (range_with_len a m)) (add-one n) ∙ ap (filter t) (range-more a n) ∙ filter-append t (range_with_len a n) ((a + n) ∷ [])

pub filter-with : (t : ℕ → Bool) (a n k : ℕ) → a + n ≡ k → t k ≡ true → filter t (range_with_len a (n + 1)) ≡ filter t (range_with_len a n) ++ k ∷ []
filter-with t a n k e h =
    filter-next t a n ∙ ap (λ (x : ℕ). filter t (range_with_len a n) ++ cond (t x) (x ∷ []) []) e
    ∙ ap (λ (xs : List ℕ). filter t (range_with_len a n) ++ xs) (cond-true (t k) (k ∷ []) [] h)

pub filter-without : (t : ℕ → Bool) (a n k : ℕ) → a + n ≡ k → t k ≡ false → filter t (range_with_len a (n + 1)) ≡ filter t (range_with_len a n)
filter-without t a n k e h =
    filter-next t a n ∙ ap (λ (x : ℕ). filter t (range_with_len a n) ++ cond (t x) (x ∷ []) []) e
    ∙ ap (λ (xs : List ℕ). filter t (range_with_len a n) ++ xs) (cond-false (t k) (k ∷ []) [] h) ∙ append-nil (filter t (range_with_len a n))

pub chosen-with : {X : Type 0} (g : ℕ → X) (t : ℕ → Bool) (n : ℕ) → t n ≡ true
    → map g (filter t (range_with_len 0 (n + 1))) ≡ map g (filter t (range_with_len 0 n)) ++ g n ∷ []
chosen-with g t n h =
    let e : 0 + n ≡ n = omega arith in
    ap (map g) (filter-with t 0 n n e h) ∙ map-append g (filter t (range_with_len 0 n)) (n ∷ [])

pub chosen-without : {X : Type 0} (g : ℕ → X) (t : ℕ → Bool) (n : ℕ) → t n ≡ false
    → map g (filter t (range_with_len 0 (n + 1))) ≡ map g (filter t (range_with_len 0 n))
chosen-without g t n h = let e : 0 + n ≡ n = omega arith in ap (map g) (filter-without t 0 n n e h)

-- ---- what passes a test in the first elements of a list

pub passed-with : {X : Type 0} (t : X → Bool) (xs : List X) (i : ℕ) (d : X) → i < length xs → t (get_or xs i d) ≡ true
    → filter t (take (i + 1) xs) ≡ filter t (take i xs) ++ get_or xs i d ∷ []
passed-with t xs i d lt h =
    let x = get_or xs i d in
    filter_more t xs i d lt ∙ ap (λ ys. filter t (take i xs) ++ ys) (cond-true (t x) (x ∷ []) [] h)

pub passed-without : {X : Type 0} (t : X → Bool) (xs : List X) (i : ℕ) (d : X) → i < length xs → t (get_or xs i d) ≡ false
    → filter t (take (i + 1) xs) ≡ filter t (take i xs)
passed-without t xs i d lt h =
    let x = get_or xs i d in
    filter_more t xs i d lt ∙ ap (λ ys. filter t (take i xs) ++ ys) (cond-false (t x) (x ∷ []) [] h) ∙ append-nil (filter t (take i xs))

pub kept-with : {X Y : Type 0} (g : X → Y) (t : X → Bool) (xs : List X) (i : ℕ) (d : X) → i < length xs → t (get_or xs i d) ≡ true
    → map g (filter t (take (i + 1) xs)) ≡ map g (filter t (take i xs)) ++ g (get_or xs i d) ∷ []
kept-with g t xs i d lt h =
    ap (map g) (passed-with t xs i d lt h) ∙ map-append g (filter t (take i xs)) (get_or xs i d ∷ [])

pub kept-without : {X Y : Type 0} (g : X → Y) (t : X → Bool) (xs : List X) (i : ℕ) (d : X) → i < length xs → t (get_or xs i d) ≡ false
    → map g (filter t (take (i + 1) xs)) ≡ map g (filter t (take i xs))
kept-without g t xs i d lt h = ap (map g) (passed-without t xs i d lt h)

-- ---- what is told of the first elements of a list, behind what stands there

-- one more is told
pub told-more : {X Y : Type 0} (g : X → Y) (xs : List X) (i : ℕ) (d : X) (first before after : List Y) (y : Y) → i < length xs
    → before ≡ first ++ map g (take i xs) → after ≡ before ++ y ∷ [] → y ≡ g (get_or xs i d) → after ≡ first ++ map g (take (i + 1) xs)
told-more g xs i d first before after y lt so_far pushed same =
    let x = get_or xs i d in
    let earlier = map g (take i xs) in
    pushed ∙ ap (λ ys. ys ++ y ∷ []) so_far ∙ append_assoc first earlier (y ∷ []) ∙ ap (λ z. first ++ (earlier ++ z ∷ [])) same
    ∙ ap (λ ys. first ++ ys) (sym (map-append g (take i xs) (x ∷ []))) ∙ ap (λ ys. first ++ map g ys) (sym (take_more xs i d lt))

-- one more is told, which passes the test
pub told-with : {X Y : Type 0} (g : X → Y) (t : X → Bool) (xs : List X) (i : ℕ) (d : X) (first before after : List Y) (y : Y) → i < length xs
    → t (get_or xs i d) ≡ true → before ≡ first ++ map g (filter t (take i xs)) → after ≡ before ++ y ∷ [] → y ≡ g (get_or xs i d)
    → after ≡ first ++ map g (filter t (take (i + 1) xs))
told-with g t xs i d first before after y lt h so_far pushed same =
    let earlier = map g (filter t (take i xs)) in
    pushed ∙ ap (λ ys. ys ++ y ∷ []) so_far ∙ append_assoc first earlier (y ∷ []) ∙ ap (λ z. first ++ (earlier ++ z ∷ [])) same
    ∙ ap (λ ys. first ++ ys) (sym (kept-with g t xs i d lt h))

-- ---- lists one after another

pub lists-next : {X : Type 0} (f : ℕ → List X) (n : ℕ) → flat_map f (range_with_len 0 (n + 1)) ≡ flat_map f (range_with_len 0 n) ++ f n
lists-next f n =
    let e : 0 + n ≡ n = omega arith in
    ap (λ (m : ℕ). flat_map f (range_with_len 0 m)) (add-one n) ∙ ap (flat_map f) (range-more 0 n) ∙ flat_map-append f (range_with_len 0 n) ((0 + n) ∷ [])
    ∙ ap (λ (x : ℕ). flat_map f (range_with_len 0 n) ++ flat_map f (x ∷ [])) e ∙ ap (λ ys. flat_map f (range_with_len 0 n) ++ ys) (append-nil (f n))
