-- What is known of a line where a step is known.
use Rattle.std.proofs.Common.{◌≡◌, ℕ, zero, suc, ◌+◌, Bool, true, false, List, [], ◌∷◌, ◌++◌, length, get_or, set, Ok, Err, refl, ap, ◌∙◌, arith}
use Rattle.std.specs.Prelude.{codes, if◌then◌else◌}
use Rattle.std.specs.Str.{bytes_eq}
use Rattle.std.proofs.lemmas.Slice.Eq.{bytes_eq-Decides}
use Rattle.elevator_model.specs.declared.Stop.{Stop}
use Rattle.lift_text.specs.declared.codes.TextCode.TheVariants.{NoLineWord}
use Rattle.text_sections.specs.declared.sections.AfterLine.{AfterLine}
use Rattle.text_sections.specs.Judging.{Judged, ◌>>=◌}
use Rattle.text_sections.specs.Words.{is_word, word_at}
use Rattle.text_sections.specs.Sections.{Line, Step, goes_on, is_whole, step_of}
use Rattle.text_sections.proofs.StepLemmas.{picked}
use Rattle.answer_text.specs.declared.kinds.LineWord.{LineWord}
use Rattle.answer_text.specs.declared.kinds.LineWord.TheVariants.{Answer, Cost as CostWord, Bound as BoundWord, Tour as TourWord, Stop as StopWord, End}
use Rattle.answer_text.specs.Drafts.{Draft, any_word, line_word, judged_word, after, add_stop}

-- ---- a stop in the last tour

pub set_last : (tours : List (List Stop)) (stop : Stop) (k : ℕ) (old new : List Stop) → k + 1 ≡ length tours → old ≡ get_or tours k old
    → new ≡ old ++ stop ∷ [] → set tours k new ≡ add_stop tours stop
set_last [] stop k old new last is pushed = absurd (omega (arith, last))
set_last (tour ∷ []) stop zero old new last is pushed = ap (λ (t : List Stop). t ∷ []) (pushed ∙ ap (λ (t : List Stop). t ++ stop ∷ []) is)
set_last (tour ∷ []) stop (suc k) old new last is pushed = absurd (omega (arith, last))
set_last (tour ∷ next ∷ tours) stop zero old new last is pushed = absurd (omega (arith, last))
set_last (tour ∷ next ∷ tours) stop (suc k) old new last is pushed =
    ap (λ (ts : List (List Stop)). tour ∷ ts) (set_last (next ∷ tours) stop k old new (omega (arith, last)) is pushed)

-- ---- steps of a section

step_goes : {A : Type 0} (judged : Judged (Step A)) (next : A) → step_of judged ≡ goes_on next → judged ≡ Ok (goes_on next)
step_goes {A} (Ok step) next e = ap (λ (x : Step A). Ok x) e
step_goes (Err code) next e = absurd cc

step_whole : {A : Type 0} (judged : Judged (Step A)) (end : A) → step_of judged ≡ is_whole end → judged ≡ Ok (is_whole end)
step_whole {A} (Ok step) end e = ap (λ (x : Step A). Ok x) e
step_whole (Err code) end e = absurd cc

word_goes : (judged : Judged LineWord) (d : Draft) (words : Line) (step : Step Draft) → (judged >>= λ word. judged_word word d words) ≡ Ok step
    → (word : LineWord) × (judged ≡ Ok word) × (judged_word word d words ≡ Ok step)
word_goes (Ok word) d words step e = (word, refl, e)
word_goes (Err code) d words step e = absurd cc

-- the word of a line after which the section goes on, or is whole
pub after_goes : (d next : Draft) (words : Line) → after d words ≡ goes_on next → (word : LineWord) × (line_word d.due words ≡ Ok word)
    × (judged_word word d words ≡ Ok (goes_on next))
after_goes d next words e =
    word_goes (line_word d.due words) d words (goes_on next) (step_goes (line_word d.due words >>= λ word. judged_word word d words) next e)

pub after_whole : (d end : Draft) (words : Line) → after d words ≡ is_whole end → (word : LineWord) × (line_word d.due words ≡ Ok word)
    × (judged_word word d words ≡ Ok (is_whole end))
after_whole d end words e =
    word_goes (line_word d.due words) d words (is_whole end) (step_whole (line_word d.due words >>= λ word. judged_word word d words) end e)

pub item_goes : {X : Type 0} (judged : Judged X) (with_one : X → Draft) (next : Draft) → (judged >>= λ x. Ok (goes_on (with_one x))) ≡ Ok (goes_on next)
    → (x : X) × (judged ≡ Ok x) × (with_one x ≡ next)
item_goes (Ok x) with_one next e = (x, refl, cc)
item_goes (Err code) with_one next e = absurd cc

pub item_not_whole : {X : Type 0} (judged : Judged X) (with_one : X → Draft) (end : Draft) → (judged >>= λ x. Ok (goes_on (with_one x))) ≡ Ok (is_whole end) → ⊥
item_not_whole (Ok x) with_one end e = cc
item_not_whole (Err code) with_one end e = cc

pub end_whole : (judged : Judged AfterLine) (d end : Draft) → (judged >>= λ _. Ok (is_whole d)) ≡ Ok (is_whole end) → (turn : AfterLine) × (judged ≡ Ok turn)
    × (d ≡ end)
end_whole (Ok turn) d end e = (turn, refl, cc)
end_whole (Err code) d end e = absurd cc

pub end_not_on : (judged : Judged AfterLine) (d next : Draft) → (judged >>= λ _. Ok (is_whole d)) ≡ Ok (goes_on next) → ⊥
end_not_on (Ok turn) d next e = cc
end_not_on (Err code) d next e = cc

-- ---- line words

abbrev pub text_of : LineWord → List ℕ
text_of Answer = codes "answer"
text_of CostWord = codes "cost"
text_of BoundWord = codes "bound"
text_of TourWord = codes "tour"
text_of StopWord = codes "stop"
text_of End = codes "end"

pub any_word_is : (words : Line) (word : LineWord) → any_word words ≡ Ok word → is_word words 0 (text_of word) ≡ true
any_word_is words word e =
    picked text_of words _ Answer word _ (λ is. is)
    (picked text_of words _ CostWord word _ (λ is. is)
    (picked text_of words _ BoundWord word _ (λ is. is)
    (picked text_of words _ TourWord word _ (λ is. is)
    (picked text_of words _ StopWord word _ (λ is. is)
    (picked text_of words _ End word _ (λ is. is) (λ none. absurd cc)))))) e

pub only_word : (is : Bool) (word : LineWord) → (if is then Ok Answer else Err NoLineWord) ≡ Ok word → (is ≡ true) × (Answer ≡ word)
only_word true word e = (refl, cc)
only_word false word e = absurd cc

-- the line word that this text is
abbrev word_of : List ℕ → Judged LineWord
word_of text =
    if bytes_eq text (codes "answer") then Ok Answer
    else (if bytes_eq text (codes "cost") then Ok CostWord
    else (if bytes_eq text (codes "bound") then Ok BoundWord
    else (if bytes_eq text (codes "tour") then Ok TourWord
    else (if bytes_eq text (codes "stop") then Ok StopWord
    else (if bytes_eq text (codes "end") then Ok End
    else Err NoLineWord)))))

word_is : (word : LineWord) → word_of (text_of word) ≡ Ok word
word_is Answer = refl
word_is CostWord = refl
word_is BoundWord = refl
word_is TourWord = refl
word_is StopWord = refl
word_is End = refl

pub word_found : (words : Line) (word : LineWord) → is_word words 0 (text_of word) ≡ true → any_word words ≡ Ok word
word_found words word is = ap word_of ((bytes_eq-Decides (word_at words 0) (text_of word)).0 is) ∙ word_is word
