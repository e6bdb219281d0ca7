-- What `solve` writes behind a case is taken by `check`, which says yes.
use Rattle.std.proofs.Common.{◌≡◌, ℕ, ◌*◌, ◌^◌, ◌<◌, ◌≤◌, ◌==◌, Bool, true, false, not, List, [], ◌∷◌, ◌++◌, length, map, append-nil, append_assoc}
use Rattle.std.proofs.Common.{length-append, refl, sym, ap, ◌∙◌, subst, arith, lit<}
use Rattle.std.specs.Prelude.{IsTrue, All, codes, decimal, if◌then◌else◌}
use Rattle.std.specs.List.{flat_map, list_all, AllByRecursion}
use Rattle.std.specs.Io.BufRead.{ends_with_byte}
use Rattle.std.proofs.lemmas.Bool.{and_parts}
use Rattle.std.proofs.lemmas.Fmt.{length-decimal-le}
use Rattle.std.proofs.lemmas.List.{length-map}
use Rattle.std.proofs.lemmas.List.Elements.{All-append, All-cons, All-nil, All-weaker}
use Rattle.elevator_model.specs.Snapshot.{Snapshot, IsAccepted, car_count, spec_of}
use Rattle.search_model.specs.declared.Twig.{Twig}
use Rattle.search_model.specs.declared.Twig.TheVariants.{Split, Leaf as Tip}
use Rattle.search_model.specs.declared.Turn.{Turn}
use Rattle.search_model.specs.declared.StopReason.{StopReason}
use Rattle.search_model.specs.declared.StopReason.TheVariants.{Solved, Rounds, Moves, Told}
use Rattle.search_model.specs.declared.Verdict.TheVariants.{Yes}
use Rattle.search_model.specs.Certificates.{TreePlace, Placed, Proves, placed_twigs}
use Rattle.search_model.specs.Solving.{IsReason, IsSolveAnswer}
use Rattle.search_model.specs.Verdicts.{FitsClaims, verdict_of}
use Rattle.search_tree.specs.Sheets.{IsSizedTwig}
use Rattle.lift_text.specs.Text.{line, word, words}
use Rattle.text_sections.specs.Canonical.{IsWordByte}
use Rattle.text_sections.proofs.CanonicalLemmas.{decimal_word}
use Rattle.search_model.specs.declared.Stated.{Stated}
use Rattle.answer_text.specs.Plans.{plan_by_index, stated_by_index, stop_by_index}
use Rattle.answer_text.specs.Texts.{answer_text}
use Rattle.answer_text.proofs.FitsLemmas.{feasible_fits}
use Rattle.case_text.specs.CaseTexts.{IsCaseText}
use Rattle.cert_text.specs.Texts.{cert_text}
use Rattle.cert_text.specs.Written.{HasText}
use Rattle.cert_checker.proofs.VerdictLaws.{verdict_holds}
use Rattle.check_text.proofs.ReorderLemmas.{by_index_holds}
use Rattle.check_text.proofs.StatedLemmas.{stated_text}
use Rattle.check_text.specs.Laws.{IsClosing}
use Rattle.check_text.proofs.AgainLemmas.{again_holds}
use Rattle.lift_words.specs.declared.request.SolveOptions.{SolveOptions}
use Rattle.cert_claims.specs.Due.{StatesDue, claims_of_tree}
use Rattle.case_commands.specs.declared.endings.Ending.{Ending}
use Rattle.certified_search.specs.Certified.{IsCertified}
use Rattle.case_commands.specs.SolveOutcome.{CanBeChecked, IsPrinted, IsSaidYes, certificate_part, closing_line, ending_of}
use Rattle.case_commands.proofs.SearchBounds.{bound_low}
use Rattle.certified_search.proofs.KnownTrees.{tree_short, tree_within, worths_few}

-- no certificate is wanted
pub certificate_when : (options : SolveOptions) (s : Snapshot) (tree : List Twig) (text : List ℕ) → options.brief ≡ true
    → text ≡ text ++ certificate_part options s tree
certificate_when options s tree text brief = sym (ap (λ (b : Bool). text ++ (if b then [] else cert_text s tree)) brief ∙ append-nil text)

certificate_there : (options : SolveOptions) (s : Snapshot) (tree : List Twig) → options.brief ≡ false → certificate_part options s tree ≡ cert_text s tree
certificate_there options s tree brief = ap (λ (b : Bool). if b then [] else cert_text s tree) brief

-- ---- the comment line

abbrev NoEnd : ℕ → Type 0
NoEnd b = b ≡ 10 → ⊥

abbrev no_end : ℕ → Bool
no_end b = not (b == 10)

tested_no_end : (bytes : List ℕ) → list_all no_end bytes ≡ true → All NoEnd bytes
tested_no_end [] h = All-nil NoEnd
tested_no_end (b ∷ bytes) h =
    let both = and_parts (no_end b) (list_all no_end bytes) h in
    All-cons NoEnd b bytes (λ e. differs b both.0 e) (tested_no_end bytes both.1)
  where
    differs : (x : ℕ) → no_end x ≡ true → x ≡ 10 → ⊥
    differs x test e = (let clash : no_end 10 ≡ true = subst (λ (y : ℕ). no_end y ≡ true) e test in absurd cc)

word_no_end : (bytes : List ℕ) → AllByRecursion IsWordByte bytes → All NoEnd bytes
word_no_end [] all = All-nil NoEnd
word_no_end (b ∷ bytes) all = All-cons NoEnd b bytes (λ e. let low = all.0.0 in absurd (omega (arith, e, low))) (word_no_end bytes all.1)

-- numbers with a space before each
numbers_no_end : (numbers : List ℕ) → AllByRecursion (λ n. n < 2 ^ 32) numbers → All NoEnd (flat_map word numbers)
unfolding word
numbers_no_end [] all = All-nil NoEnd
numbers_no_end (n ∷ numbers) all =
    let small = all.0 in
    let digits = word_no_end (decimal n) (decimal_word n (omega (arith, small))).bytes in
    All-append NoEnd (32 ∷ decimal n) (flat_map word numbers) (All-cons NoEnd 32 (decimal n) (λ e. absurd (omega (arith, e))) digits)
    (numbers_no_end numbers all.1)

numbers_short : (numbers : List ℕ) → AllByRecursion (λ n. n < 2 ^ 32) numbers → length (flat_map word numbers) ≤ 11 * length numbers
unfolding word
numbers_short [] all = omega arith
numbers_short (n ∷ numbers) all =
    let small = all.0 in
    let one = length-decimal-le 10 n (lit< tt) (omega (arith, small)) (omega (arith, small)) in
    let rest = numbers_short numbers all.1 in
    let both = length-append (32 ∷ decimal n) (flat_map word numbers) in
    omega (arith, one, rest, both)

numbers_close : (name numbers : List ℕ) → list_all no_end name ≡ true → length name ≤ 60 → AllByRecursion (λ n. n < 2 ^ 32) numbers → length numbers ≤ 2
    → IsClosing (line (35 ∷ name) numbers)
unfolding line words
numbers_close name numbers test short small few =
    let size = length-append name (flat_map word numbers) in
    let all = numbers_short numbers small in
    record {
      text = name ++ flat_map word numbers;
      closing_is = refl;
      no_line = All-append NoEnd name (flat_map word numbers) (tested_no_end name test) (numbers_no_end numbers small);
      short = omega (arith, size, all, short, few);
    }

-- within the default limits
closes : (s : Snapshot) (rounds most_tours limit cost bound printed : ℕ) (tree : List Twig) (why : StopReason)
    → ((c : ℕ) → c < car_count s → (spec_of s c).id < 2 ^ 32) → rounds ≤ 2000 → most_tours ≤ 75000 → limit ≤ 1000000000
    → IsReason s rounds most_tours cost bound tree why → (solved : Bool) → IsClosing (closing_line s (ending_of why limit solved))
closes s rounds most_tours limit cost bound printed tree why ids few_rounds few_moves few_claims reason true =
    record { text = codes " solved"; closing_is = refl; no_line = tested_no_end (codes " solved") refl; short = lit< tt }
closes s rounds most_tours limit cost bound printed tree Solved ids few_rounds few_moves few_claims reason false =
    let small : limit < 2 ^ 32 = omega (arith, few_claims) in
    numbers_close (codes " stopped claims") (limit ∷ []) refl (lit< tt) (small, tt) (lit< tt)
closes s rounds most_tours limit cost bound printed tree (Rounds done) ids few_rounds few_moves few_claims reason false =
    let done_is = reason.limit in
    let small : done < 2 ^ 32 = omega (arith, done_is, few_rounds) in
    numbers_close (codes " stopped rounds") (done ∷ []) refl (lit< tt) (small, tt) (lit< tt)
closes s rounds most_tours limit cost bound printed tree (Moves car count) ids few_rounds few_moves few_claims reason false =
    let count_is = reason.limit in
    let small : count < 2 ^ 32 = omega (arith, count_is, few_moves) in
    numbers_close (codes " stopped moves") ((spec_of s car).id ∷ count ∷ []) refl (lit< tt) (ids car reason.is_car, (small, tt)) (lit< tt)
closes s rounds most_tours limit cost bound printed tree Told ids few_rounds few_moves few_claims reason false = absurd reason

-- ---- the verdict

-- a claim that is due fits
fits_twig : (s : Snapshot) (place : TreePlace) (twig : Twig) → StatesDue s place twig → FitsClaims s place twig
fits_twig s place (Split j part) h = tt
fits_twig s place (Tip leaf) h = λ c lt. (let due = h c lt in omega (arith, due))

module _ (s : Snapshot) (accepted : IsAccepted s) (limit : ℕ) (stated : Stated) (tree : List Twig) (bound : ℕ) (certificate : List Twig)
    (certified : IsCertified s limit stated tree bound certificate) (sized : All IsSizedTwig certificate) where
  abbrev printed_as : Stated
  printed_as = record { plan = stated.plan; cost = stated.cost; bound = bound }

  says_yes : verdict_of s (plan_by_index s stated.plan) stated.cost bound certificate ≡ Yes
  says_yes =
      let same = by_index_holds s stated.plan certified.proves.feasible in
      let proves : Proves s (plan_by_index s stated.plan) stated.cost bound certificate =
      record { feasible = same.0; costs = same.1 ∙ certified.proves.costs; whole = certified.proves.whole; sound = certified.proves.sound } in
      let cars : length (plan_by_index s stated.plan) ≡ car_count s = length-map stated.plan (map (stop_by_index s))
      ∙ (feasible_fits s stated.plan certified.proves.feasible).tours in
      let claims = All-weaker (λ (p : Placed). StatesDue s p.place p.twig) (λ (p : Placed). FitsClaims s p.place p.twig) (λ p h. fits_twig s p.place p.twig h)
      (placed_twigs s certificate) certified.due in
      (verdict_holds s (plan_by_index s stated.plan) stated.cost bound certificate accepted cars certified.proves.whole).yes proves claims

  few_claims : length certificate ≤ 16001 → limit ≤ 10000000000 → claims_of_tree certificate ≤ 10000000000
  few_claims short small =
      let few = certified.few in
      let worths = worths_few s accepted bound certificate certified.proves.whole certified.proves.sound sized short in
      omega (arith, few, worths, small)

  -- the text behind a case that can be checked
  yes_behind : (input closing : List ℕ) → IsCaseText input s → IsTrue (ends_with_byte 10 input) → length input ≤ 1000000 → bound ≤ stated.cost
      → length certificate ≤ 16001 → limit ≤ 1000000000
      → (((c : ℕ) → c < car_count s → (spec_of s c).id < 2 ^ 32) → IsClosing closing)
      → IsSaidYes (input ++ answer_text s printed_as ++ cert_text s certificate ++ closing) s
  yes_behind input closing case ended short low few small closes_so =
      let text = stated_text input s printed_as case certified.proves.feasible (sym certified.proves.costs) low in
      let within = tree_within s accepted bound certificate certified.proves.whole certified.proves.sound sized certified.due
      (few_claims few (omega (arith, small))) in
      let written : HasText s certificate = record { within = within; car_ids = text.0.car_ids; call_ids = text.0.call_ids } in
      let size = tree_short s accepted bound certificate certified.proves.whole certified.proves.sound sized few written in
      record {
        stated = stated_by_index s printed_as;
        tree = certificate;
        read =
            again_holds input s printed_as certificate closing case ended short text.0 written (omega (arith, text.1)) size (closes_so text.0.car_ids);
        yes =
            says_yes;
      }

behind_input : (input a b c : List ℕ) → input ++ a ++ b ++ c ≡ input ++ (a ++ b ++ c)
behind_input input a b c = ap (λ (x : List ℕ). x ++ c) (append_assoc input a b) ∙ append_assoc input (a ++ b) c

-- what `solve` writes, where that is so
pub said_yes : (options : SolveOptions) (s : Snapshot) → IsAccepted s → (stated : Stated) (tree : List Twig) (turns : List Turn) (why : StopReason)
    → IsSolveAnswer s options.limits.rounds options.limits.most_tours stated.plan stated.cost stated.bound tree turns why
    → (bound : ℕ) (certificate : List Twig) → IsPrinted options s stated tree bound certificate → All IsSizedTwig certificate
    → (input text : List ℕ) → IsCaseText input s → CanBeChecked options input → (solved : Bool)
    → text ≡ answer_text s (record { plan = stated.plan; cost = stated.cost; bound = bound }) ++ certificate_part options s certificate
    ++ closing_line s (ending_of why options.claims solved) → IsSaidYes (input ++ text) s
said_yes options s accepted stated tree turns why answer bound certificate printed sized input text case can solved is =
    let certified = printed.certified can.certificate in
    let shown : Stated = record { plan = stated.plan; cost = stated.cost; bound = bound } in
    let closing = closing_line s (ending_of why options.claims solved) in
    let there : text ≡ answer_text s shown ++ cert_text s certificate ++ closing = is
    ∙ ap (λ (part : List ℕ). answer_text s shown ++ part ++ closing) (certificate_there options s certificate can.certificate) in
    let one : input ++ answer_text s shown ++ cert_text s certificate ++ closing ≡ input ++ text =
    behind_input input (answer_text s shown) (cert_text s certificate) closing ∙ sym (ap (λ (x : List ℕ). input ++ x) there) in
    let twigs = answer.twigs in
    let shorter = certified.short in
    let rounds = can.rounds in
    let low = bound_low s options.limits.rounds options.limits.most_tours stated.plan stated.cost stated.bound tree turns why answer in
    let lower = certified.low in
    subst (λ (x : List ℕ). IsSaidYes x s) one
    (yes_behind s accepted options.claims stated tree bound certificate certified sized input closing case can.ended can.short (omega (arith, low, lower))
    (omega (arith, shorter, twigs, rounds)) can.claims
    (λ ids. closes s options.limits.rounds options.limits.most_tours options.claims stated.cost stated.bound bound tree why ids can.rounds can.moves
    can.claims answer.reason solved))

-- the same, with the ending as it was found
pub said_yes_as : (options : SolveOptions) (s : Snapshot) → IsAccepted s → (stated : Stated) (tree : List Twig) (turns : List Turn) (why : StopReason)
    → IsSolveAnswer s options.limits.rounds options.limits.most_tours stated.plan stated.cost stated.bound tree turns why
    → (bound : ℕ) (certificate : List Twig) → IsPrinted options s stated tree bound certificate → All IsSizedTwig certificate
    → (input text : List ℕ) → IsCaseText input s → CanBeChecked options input → (solved : Bool) (end : Ending) → end ≡ ending_of why options.claims solved
    → text ≡ answer_text s (record { plan = stated.plan; cost = stated.cost; bound = bound }) ++ certificate_part options s certificate ++ closing_line s end
    → IsSaidYes (input ++ text) s
said_yes_as options s accepted stated tree turns why answer bound certificate printed sized input text case can solved end end_is is =
    said_yes options s accepted stated tree turns why answer bound certificate printed sized input text case can solved
    (is ∙ ap (λ (e : Ending). answer_text s (record { plan = stated.plan; cost = stated.cost; bound = bound }) ++ certificate_part options s certificate
    ++ closing_line s e) end_is)
