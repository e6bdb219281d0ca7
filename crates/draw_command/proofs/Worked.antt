-- Worked rows: words that ask for a picture, and words that ask for none.
use Rattle.std.specs.Prelude.{◌≡◌, ◌<◌, ℕ, zero, suc, [], ◌∷◌, codes, refl, slice_index_or, Option, Some, None}
use Rattle.std.proofs.Common.{◌∙◌, ap, arith, inl, inr, lit<, sym}
use Rattle.clap.proofs.OnLiterals.{clap_on_literals}
use Rattle.clap.specs.Simple.{matches_of}
use Rattle.clap.specs.Walk.{Text}
use Rattle.option_words.specs.Given.{AreUnclear}
use Rattle.option_words.specs.Repeats.{Repeats}
use Rattle.lift_picture.specs.declared.frames.Size.{Size}
use Rattle.draw_command.specs.Words.{AreTaken, IsSecond, app, size_asked}
use Rattle.draw_command.specs.declared.words.Request.{Request}
use Rattle.draw_command.specs.declared.words.Subject.{Subject}
use Rattle.draw_command.specs.declared.words.Subject.TheVariants.{Day, Plan}

abbrev asks : Subject → (width height : ℕ) → Request
asks subject width height = record { subject = subject; size = record { width = width; height = height } }

-- the first byte of a word, if there is one
abbrev first_byte : Option Text → ℕ
first_byte None = 0
first_byte (Some []) = 0
first_byte (Some (b ∷ word)) = b

-- ---- words that are clear

no_word : AreUnclear [] → ⊥
no_word (inl dashes) = let lt = dashes.1 in absurd (omega (arith, lt))
no_word (inr r) = absurd (omega (arith, r.order, r.within))

one_word : (one : Text) → (one ≡ codes "--" → ⊥) → AreUnclear (one ∷ []) → ⊥
one_word one no_dashes (inl (zero, lt, same)) = no_dashes same
one_word one no_dashes (inl (suc k, lt, same)) = absurd (omega arith)
one_word one no_dashes (inr r) = absurd (omega (arith, r.order, r.within))

two_words : (one other : Text) → (one ≡ codes "--" → ⊥) → (other ≡ codes "--" → ⊥) → (Repeats one other → ⊥) → AreUnclear (one ∷ other ∷ []) → ⊥
two_words one other no_dashes nor_these unlike (inl (zero, lt, same)) = no_dashes same
two_words one other no_dashes nor_these unlike (inl (suc zero, lt, same)) = nor_these same
two_words one other no_dashes nor_these unlike (inl (suc (suc k), lt, same)) = absurd (omega arith)
two_words one other no_dashes nor_these unlike (inr r) = by_places r.first r.second r.order r.within r.repeats
  where
    by_places : (first second : ℕ) → first < second → second < 2
        → Repeats (slice_index_or (one ∷ other ∷ []) first []) (slice_index_or (one ∷ other ∷ []) second []) → ⊥
    by_places zero zero order within same = absurd (omega arith)
    by_places zero (suc zero) order within same = unlike same
    by_places zero (suc (suc k)) order within same = absurd (omega arith)
    by_places (suc j) k order within same = absurd (omega arith)

-- ---- words that ask for a picture

by_defaults : AreTaken (codes "lift_draw" ∷ codes "day" ∷ []) (asks Day 1200 600)
unfolding clap_on_literals
by_defaults = record {
  subject = refl;
  rows = matches_of (app Day) (codes "day" ∷ []);
  given = record { clear = no_word; accepted = refl; found = refl };
  size = refl;
}

of_a_plan : AreTaken (codes "lift_draw" ∷ codes "plan" ∷ codes "--height=0733" ∷ []) (asks Plan 1200 733)
unfolding clap_on_literals
of_a_plan = record {
  subject = refl;
  rows = matches_of (app Plan) (codes "plan" ∷ codes "--height=0733" ∷ []);
  given = record { clear = one_word (codes "--height=0733") (λ e. absurd cc); accepted = refl; found = refl };
  size = refl;
}

by_next_word : AreTaken (codes "lift_draw" ∷ codes "day" ∷ codes "--width" ∷ codes "917" ∷ []) (asks Day 917 600)
unfolding clap_on_literals
by_next_word = record {
  subject = refl;
  rows = matches_of (app Day) (codes "day" ∷ codes "--width" ∷ codes "917" ∷ []);
  given = record {
    clear =
        two_words (codes "--width") (codes "917") (λ e. absurd cc) (λ e. absurd cc)
        (λ r. let bytes : 57 ≡ 45 = ap (λ w. first_byte (Some w)) r.second_option in absurd (omega (arith, bytes)));
    accepted = refl;
    found = refl;
  };
  size = refl;
}

by_both : AreTaken (codes "lift_draw" ∷ codes "day" ∷ codes "--height=10000" ∷ codes "--width=400" ∷ []) (asks Day 400 10000)
unfolding clap_on_literals
by_both = record {
  subject = refl;
  rows = matches_of (app Day) (codes "day" ∷ codes "--height=10000" ∷ codes "--width=400" ∷ []);
  given = record {
    clear = two_words (codes "--height=10000") (codes "--width=400") (λ e. absurd cc) (λ e. absurd cc)
        (λ r. let same : codes "--height" ≡ codes "--width" = r.same in absurd cc);
    accepted = refl;
    found = refl;
  };
  size = refl;
}

-- ---- words that ask for none

too_small : (size : Size) → AreTaken (codes "lift_draw" ∷ codes "day" ∷ codes "--width=399" ∷ []) (record { subject = Day; size = size }) → ⊥
unfolding clap_on_literals
too_small size t = let none : None ≡ Some size = sym (ap size_asked t.given.found) ∙ t.size in absurd cc

too_great : (size : Size) → AreTaken (codes "lift_draw" ∷ codes "plan" ∷ codes "--height=10001" ∷ []) (record { subject = Plan; size = size }) → ⊥
unfolding clap_on_literals
too_great size t = let none : None ≡ Some size = sym (ap size_asked t.given.found) ∙ t.size in absurd cc

no_number : (size : Size) → AreTaken (codes "lift_draw" ∷ codes "day" ∷ codes "--width=5e2" ∷ []) (record { subject = Day; size = size }) → ⊥
unfolding clap_on_literals
no_number size t = let none : None ≡ Some size = sym (ap size_asked t.given.found) ∙ t.size in absurd cc

no_value : (size : Size) → AreTaken (codes "lift_draw" ∷ codes "day" ∷ codes "--height" ∷ []) (record { subject = Day; size = size }) → ⊥
unfolding clap_on_literals
no_value size t = let refused = t.given.accepted in absurd cc

other_option : (size : Size) → AreTaken (codes "lift_draw" ∷ codes "day" ∷ codes "--depth=500" ∷ []) (record { subject = Day; size = size }) → ⊥
unfolding clap_on_literals
other_option size t = let refused = t.given.accepted in absurd cc

one_more : (size : Size) → AreTaken (codes "lift_draw" ∷ codes "day" ∷ codes "--width=500" ∷ codes "now" ∷ []) (record { subject = Day; size = size }) → ⊥
unfolding clap_on_literals
one_more size t = let refused = t.given.accepted in absurd cc

repeated : (request : Request) → AreTaken (codes "lift_draw" ∷ codes "day" ∷ codes "--width" ∷ codes "500" ∷ codes "--width=600" ∷ []) request → ⊥
repeated request t = t.given.clear
    (inr (record { first = 0; second = 2; order = lit< tt; within = lit< tt; repeats = record { first_option = refl; second_option = refl; same = refl } }))

dashes_alone : (request : Request) → AreTaken (codes "lift_draw" ∷ codes "day" ∷ codes "--width=500" ∷ codes "--" ∷ []) request → ⊥
dashes_alone request t = t.given.clear (inl (1, lit< tt, refl))

-- the words of a day ask for no plan
another_subject : (size : Size) → AreTaken (codes "lift_draw" ∷ codes "day" ∷ []) (record { subject = Plan; size = size }) → ⊥
another_subject size t = let other = t.subject in absurd cc

no_words : (request : Request) → AreTaken [] request → ⊥
no_words request t = let none = t.subject in absurd cc

no_subject : (request : Request) → AreTaken (codes "lift_draw" ∷ []) request → ⊥
no_subject request t = let none = t.subject in absurd cc

unknown_subject : (request : Request) → AreTaken (codes "lift_draw" ∷ codes "week" ∷ []) request → ⊥
unknown_subject request t = at request.subject t.subject
  where
    at : (subject : Subject) → IsSecond (codes "lift_draw" ∷ codes "week" ∷ []) subject → ⊥
    at Day second = absurd cc
    at Plan second = let bytes : 119 ≡ 112 = ap first_byte second in absurd (omega (arith, bytes))
