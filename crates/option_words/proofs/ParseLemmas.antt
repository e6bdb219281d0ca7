-- What `clap`'s clauses say of a plain command, and of the words behind others.
use Rattle.std.proofs.Common.{◌≡◌, ◌∙◌, ◌-◌, ◌<◌, ℕ, Bool, false, List, [], ◌∷◌, true, IsTrue, drop, length, map, take, slice_get, slice_index_or, Some, IfErr}
use Rattle.std.proofs.Common.{IfOk, Result, Ok, Err, ap, subst, sym, arith}
use Rattle.std.proofs.lemmas.List.{drop-map, take_rest}
use Rattle.clap.specs.Walk.{Row, Text}
use Rattle.clap.specs.Simple.{App, is_simple, matches_of}
use Rattle.clap.specs.Faults.{fault_of, is_simple_and_free}
use Rattle.clap.specs.Takes.{takes}
use Rattle.clap.specs.declared.error.kind.ErrorKind.{ErrorKind}
use Rattle.clap.specs.declared.error.kind.ErrorKind.TheVariants.{OutOfMemory}
use Rattle.option_words.specs.Given.{AreGiven, AreUnclear}
use Rattle.option_words.specs.Options.{IsPlain}
use Rattle.option_words.proofs.RepeatLemmas.{refuted}
use Rattle.option_words.proofs.TakesLemmas.{takes_where_no_fault}

module _ (app : App) (words : List Text) (plain : IsPlain app) where
  -- an `Ok` comes only where there is no fault
  pub taken : (is_simple_and_free app ≡ true → fault_of app words ≡ []) → takes app words ≡ true
  taken h = takes_where_no_fault app words plain (h plain.simple_and_free)

  -- and has the rows that the words say
  pub same_rows : {Q : Type 0} (rows : List Row) → (is_simple app ≡ true → (rows ≡ matches_of app words) × Q) → rows ≡ matches_of app words
  same_rows rows h = (h plain.simple).0

-- an error for another cause than memory tells that the words are not taken
pub not_taken : (app : App) (words : List Text) (kind : ErrorKind) → (kind ≡ OutOfMemory → ⊥) → (takes app words ≡ true → kind ≡ OutOfMemory)
    → takes app words ≡ true → ⊥
not_taken app words kind other h taken = other (h taken)

-- ---- words as the program has them

pub second_is : {X : Type 0} (f : X → Text) (xs : List X) (x : X) → 1 < length xs → x ≡ slice_index_or xs 1 x → slice_get (map f xs) 1 ≡ Some (f x)
second_is f [] x lt at = absurd (omega arith)
second_is f (y ∷ []) x lt at = absurd (omega arith)
second_is f (y ∷ z ∷ xs) x lt at = sym (ap (λ v. Some (f v)) at)

-- ---- words behind others

module _ {X : Type 0} (f : X → Text) (xs : List X) where
  rest_is : (n : ℕ) → map f (take (length xs - n) (drop n xs)) ≡ drop n (map f xs)
  rest_is n = ap (map f) (take_rest xs n) ∙ sym (drop-map f n xs)

  abbrev options : List Text
  options = map f (take (length xs - 2) (drop 2 xs))

  abbrev from_command : List Text
  from_command = map f (take (length xs - 1) (drop 1 xs))

  module _ (app : App) where
    given : (unclear : Bool) (rows : List Row) → unclear ≡ false → (AreUnclear options → IsTrue unclear) → takes app from_command ≡ true
        → rows ≡ matches_of app from_command → AreGiven app (map f xs) rows
    given unclear rows is shows accepted found = record {
      clear = λ u. refuted unclear is shows (subst AreUnclear (sym (rest_is 2)) u);
      accepted = sym (ap (takes app) (rest_is 1)) ∙ accepted;
      found = found ∙ ap (matches_of app) (rest_is 1);
    }

    untaken : (takes app from_command ≡ true → ⊥) → (rows : List Row) → AreGiven app (map f xs) rows → ⊥
    untaken refused rows so = refused (ap (takes app) (rest_is 1) ∙ so.accepted)

    pub unclear_given : AreUnclear options → (rows : List Row) → AreGiven app (map f xs) rows → ⊥
    unclear_given u rows so = so.clear (subst AreUnclear (rest_is 2) u)

    -- what was found in clear words, and why nothing was
    module _ {M E : Type 0} (rows_in : M → List Row) (answer : Result M E) where
      pub found_given : (unclear : Bool) → unclear ≡ false → (AreUnclear options → IsTrue unclear) → IfOk answer (λ _. takes app from_command ≡ true)
          → IfOk answer (λ m. rows_in m ≡ matches_of app from_command)
          → IfOk answer (λ m. AreGiven app (map f xs) (rows_in m))
      found_given unclear is shows accepted found = at answer accepted found
        where
          at : (a : Result M E) → IfOk a (λ _. takes app from_command ≡ true) → IfOk a (λ m. rows_in m ≡ matches_of app from_command)
              → IfOk a (λ m. AreGiven app (map f xs) (rows_in m))
          at (Ok m) accepted found = given unclear (rows_in m) is shows accepted found
          at (Err e) accepted found = tt

      pub refused_given : (NotTaken : E) → IfErr answer (λ fault. fault ≡ NotTaken → takes app from_command ≡ true → ⊥)
          → IfErr answer (λ fault. fault ≡ NotTaken → (rows : List Row) → AreGiven app (map f xs) rows → ⊥)
      refused_given NotTaken refused = at answer refused
        where
          at : (a : Result M E) → IfErr a (λ fault. fault ≡ NotTaken → takes app from_command ≡ true → ⊥)
              → IfErr a (λ fault. fault ≡ NotTaken → (rows : List Row) → AreGiven app (map f xs) rows → ⊥)
          at (Ok m) refused = tt
          at (Err e) refused = λ is. untaken (refused is)
