-- What the words are taken as.
use mathlib.Core.HLevel.{is_prop→PathP}
use Rattle.std.proofs.Common.{◌≡◌, ◌≤◌, ◌^◌, ◌∙◌, ℕ, Bool, true, false, IsTrue, cond, List, [], ◌∷◌, drop, Option, Some, None, slice_get, IfSome, subst, sym, ap}
use Rattle.std.proofs.Common.{inl, inr, refl}
use Rattle.std.specs.Coded.{le_prop}
use Rattle.std.specs.Prelude.{◌↔◌, ◌⊎◌}
use Rattle.std.specs.Str.{bytes_eq}
use Rattle.std.proofs.lemmas.Slice.Eq.{bytes_eq-Decides}
use Rattle.clap.specs.Walk.{Row, Text}
use Rattle.clap.specs.Simple.{matches_of}
use Rattle.clap.specs.Takes.{takes}
use Rattle.lift_words.specs.Table.{all_commands, app, command_of, word_of}
use Rattle.std.specs.List.{find}
use Rattle.option_words.specs.Given.{AreGiven}
use Rattle.lift_words.specs.Taken.{AreTaken, Asks, AsksBy, AsksForBrief, AsksForCerts, AsksForDay, AsksForProgress, AsksForRoot, AsksForSearch, AsksForSizes}
use Rattle.lift_words.specs.Taken.{AsksToCheck, AsksToMake, AsksToRun, AsksToSolve, IsSecond, command_asked}
use Rattle.lift_words.specs.declared.table.CommandWord.{CommandWord}
use Rattle.lift_words.specs.declared.table.CommandWord.TheVariants as command
use Rattle.lift_words.specs.declared.request.Request.{Request}
use Rattle.lift_words.specs.declared.request.Request.TheVariants.{Solve, Check, Day, Report, Make, Run, Table, WhatIf, Banks, Root, Audit}
use Rattle.lift_words.specs.declared.request.SolveOptions.{SolveOptions}
use Rattle.lift_words.specs.declared.request.CheckOptions.{CheckOptions}
use Rattle.lift_words.specs.declared.request.DayOptions.{DayOptions}
use Rattle.lift_words.specs.declared.request.SearchOptions.{SearchOptions}
use Rattle.lift_words.specs.declared.request.RootOptions.{RootOptions}
use Rattle.lift_words.specs.declared.request.CaseSizes.{CaseSizes}
use Rattle.lift_words.specs.declared.request.RunOptions.{RunOptions}
use Rattle.search_model.specs.declared.limits.Limits.{Limits}
use Rattle.work_fan.specs.declared.runtime.Workers.{Workers}

-- ---- the command

only : {X : Type 0} {a b : X} → Some a ≡ Some b → a ≡ b
only e = cc

-- the word that names a command, among these
named_among : (commands : List CommandWord) (word : Text) (named : CommandWord) → find (λ command. bytes_eq word (word_of command)) commands ≡ Some named
    → word ≡ word_of named
named_among [] word named is = absurd cc
named_among (command ∷ commands) word named is = by_first (named_among commands word named) (bytes_eq word (word_of command)) refl is
  where
    by_first : (find (λ other. bytes_eq word (word_of other)) commands ≡ Some named → word ≡ word_of named) → (b : Bool) → bytes_eq word (word_of command) ≡ b
        → cond b (Some command) (find (λ other. bytes_eq word (word_of other)) commands) ≡ Some named → word ≡ word_of named
    by_first rest true e same = (bytes_eq-Decides word (word_of command)).0 e ∙ ap word_of (only same)
    by_first rest false e same = rest same

pub known : (words : List Text) (word : Text) (found : Option CommandWord) → slice_get words 1 ≡ Some word → found ≡ command_of word
    → IfSome found (IsSecond words)
known words word None second is = tt
known words word (Some named) second is = second ∙ ap Some (named_among all_commands word named (sym is))

word_names : (named : CommandWord) → command_of (word_of named) ≡ Some named
word_names command.Solve = refl
word_names command.Check = refl
word_names command.Day = refl
word_names command.Report = refl
word_names command.Make = refl
word_names command.Table = refl
word_names command.WhatIf = refl
word_names command.Banks = refl
word_names command.Root = refl
word_names command.Audit = refl

-- ---- what is asked

-- both say whether something holds
same_truth : (P : Type 0) (a b : Bool) → IsTrue a ↔ P → IsTrue b ↔ P → a ≡ b
same_truth P true true x y = refl
same_truth P true false x y = absurd (let no : false ≡ true = y.1 (x.0 refl) in cc)
same_truth P false true x y = absurd (let no : false ≡ true = x.1 (y.0 refl) in cc)
same_truth P false false x y = refl

abbrev AreLimits : ℕ → ℕ → Type 0
AreLimits rounds most_tours = ((1 ≤ rounds) × (rounds ≤ 10 ^ 18)) × ((1 ≤ most_tours) × (most_tours ≤ 10 ^ 18))

-- limits are their numbers, since the range that they keep can hold in one way
same_limits : (a b : Limits) → a.rounds ≡ b.rounds → a.most_tours ≡ b.most_tours → a ≡ b
same_limits a b rounds most_tours = λ i. record {
  rounds = rounds i;
  most_tours = most_tours i;
  range = is_prop→PathP (λ j. AreLimits (rounds j) (most_tours j)) (λ j. hlevel le_prop) a.range b.range i;
}

same_workers : (a b : Workers) → a.count ≡ b.count → a ≡ b
same_workers a b count = λ i. record {
  count = count i;
  range = is_prop→PathP (λ j. (1 ≤ count j) × (count j ≤ 16)) (λ j. hlevel le_prop) a.range b.range i;
}

asks_to_solve_one : (rows : List Row) (a b : SolveOptions) → AsksToSolve rows a → AsksToSolve rows b → a ≡ b
asks_to_solve_one rows a b x y =
    let limits = same_limits a.limits b.limits (only (sym x.rounds ∙ y.rounds)) (only (sym x.moves ∙ y.moves)) in
    let workers = same_workers a.workers b.workers (only (sym x.workers ∙ y.workers)) in
    let claims = only (sym x.claims ∙ y.claims) in
    let brief = same_truth (AsksForBrief rows) a.brief b.brief x.brief y.brief in
    let progress = same_truth (AsksForProgress rows) a.progress b.progress x.progress y.progress in
    λ i. record { limits = limits i; workers = workers i; claims = claims i; brief = brief i; progress = progress i }

asks_to_check_one : (rows : List Row) (a b : CheckOptions) → AsksToCheck rows a → AsksToCheck rows b → a ≡ b
asks_to_check_one rows a b x y =
    let workers = same_workers a.workers b.workers (only (sym x ∙ y)) in
    λ i. record { workers = workers i }

asks_for_search_one : (rows : List Row) (a b : SearchOptions) → AsksForSearch rows a → AsksForSearch rows b → a ≡ b
asks_for_search_one rows a b x y =
    let limits = same_limits a.limits b.limits (only (sym x.rounds ∙ y.rounds)) (only (sym x.moves ∙ y.moves)) in
    let workers = same_workers a.workers b.workers (only (sym x.workers ∙ y.workers)) in
    λ i. record { limits = limits i; workers = workers i }

asks_for_day_one : (rows : List Row) (a b : DayOptions) → AsksForDay rows a → AsksForDay rows b → a ≡ b
asks_for_day_one rows a b x y =
    let search = asks_for_search_one rows a.search b.search x.search y.search in
    let claims = only (sym x.claims ∙ y.claims) in
    let certs = same_truth (AsksForCerts rows) a.certs b.certs x.certs y.certs in
    let progress = same_truth (AsksForProgress rows) a.progress b.progress x.progress y.progress in
    λ i. record { search = search i; claims = claims i; certs = certs i; progress = progress i }

asks_for_root_one : (rows : List Row) (a b : RootOptions) → AsksForRoot rows a → AsksForRoot rows b → a ≡ b
asks_for_root_one rows a b x y =
    let limits = same_limits a.limits b.limits (only (sym x.rounds ∙ y.rounds)) (only (sym x.moves ∙ y.moves)) in
    λ i. record { limits = limits i }

asks_for_sizes_one : (rows : List Row) (a b : CaseSizes) → AsksForSizes rows a → AsksForSizes rows b → a ≡ b
asks_for_sizes_one rows a b x y =
    let number = only (sym x.number ∙ y.number) in
    let floors = only (sym x.floors ∙ y.floors) in
    let cars = only (sym x.cars ∙ y.cars) in
    let calls = only (sym x.calls ∙ y.calls) in
    λ i. record { number = number i; floors = floors i; cars = cars i; calls = calls i }

asks_to_run_one : (rows : List Row) (a b : RunOptions) → AsksToRun rows a → AsksToRun rows b → a ≡ b
asks_to_run_one rows a b x y =
    let sizes = asks_for_sizes_one rows a.sizes b.sizes x.case y.case in
    let limits = same_limits a.limits b.limits (only (sym x.rounds ∙ y.rounds)) (only (sym x.moves ∙ y.moves)) in
    λ i. record { sizes = sizes i; limits = limits i }

-- what rows ask for, by the command
abbrev AsksFor : CommandWord → List Row → Request → Type 0
AsksFor command.Solve rows request = (options : SolveOptions) × (request ≡ Solve options) × AsksToSolve rows options
AsksFor command.Check rows request = (options : CheckOptions) × (request ≡ Check options) × AsksToCheck rows options
AsksFor command.Day rows request = (options : DayOptions) × (request ≡ Day options) × AsksForDay rows options
AsksFor command.Report rows request = (options : SearchOptions) × (request ≡ Report options) × AsksForSearch rows options
AsksFor command.Make rows request =
    ((sizes : CaseSizes) × (request ≡ Make sizes) × AsksToMake rows sizes) ⊎ ((options : RunOptions) × (request ≡ Run options) × AsksToRun rows options)
AsksFor command.Table rows request = request ≡ Table
AsksFor command.WhatIf rows request = (options : SearchOptions) × (request ≡ WhatIf options) × AsksForSearch rows options
AsksFor command.Banks rows request = (options : SearchOptions) × (request ≡ Banks options) × AsksForSearch rows options
AsksFor command.Root rows request = (options : RootOptions) × (request ≡ Root options) × AsksForRoot rows options
AsksFor command.Audit rows request = (options : CheckOptions) × (request ≡ Audit options) × AsksToCheck rows options

asks_for : (rows : List Row) (request : Request) → Asks rows request → AsksFor (command_asked request) rows request
asks_for rows (Solve options) x = (options, refl, x)
asks_for rows (Check options) x = (options, refl, x)
asks_for rows (Day options) x = (options, refl, x)
asks_for rows (Report options) x = (options, refl, x)
asks_for rows (Make sizes) x = inl (sizes, refl, x)
asks_for rows (Run options) x = inr (options, refl, x)
asks_for rows Table x = refl
asks_for rows (WhatIf options) x = (options, refl, x)
asks_for rows (Banks options) x = (options, refl, x)
asks_for rows (Root options) x = (options, refl, x)
asks_for rows (Audit options) x = (options, refl, x)

-- of each command that is one request
one_of : (named : CommandWord) (rows : List Row) (a b : Request) → AsksFor named rows a → AsksFor named rows b → a ≡ b
one_of command.Solve rows a b x y = x.1 ∙ ap Solve (asks_to_solve_one rows x.0 y.0 x.2 y.2) ∙ sym y.1
one_of command.Check rows a b x y = x.1 ∙ ap Check (asks_to_check_one rows x.0 y.0 x.2 y.2) ∙ sym y.1
one_of command.Day rows a b x y = x.1 ∙ ap Day (asks_for_day_one rows x.0 y.0 x.2 y.2) ∙ sym y.1
one_of command.Report rows a b x y = x.1 ∙ ap Report (asks_for_search_one rows x.0 y.0 x.2 y.2) ∙ sym y.1
one_of command.Make rows a b (inl x) (inl y) = x.1 ∙ ap Make (asks_for_sizes_one rows x.0 y.0 x.2.case y.2.case) ∙ sym y.1
one_of command.Make rows a b (inl x) (inr y) = absurd (x.2.no_run y.2.run)
one_of command.Make rows a b (inr x) (inl y) = absurd (y.2.no_run x.2.run)
one_of command.Make rows a b (inr x) (inr y) = x.1 ∙ ap Run (asks_to_run_one rows x.0 y.0 x.2 y.2) ∙ sym y.1
one_of command.Table rows a b x y = x ∙ sym y
one_of command.WhatIf rows a b x y = x.1 ∙ ap WhatIf (asks_for_search_one rows x.0 y.0 x.2 y.2) ∙ sym y.1
one_of command.Banks rows a b x y = x.1 ∙ ap Banks (asks_for_search_one rows x.0 y.0 x.2 y.2) ∙ sym y.1
one_of command.Root rows a b x y = x.1 ∙ ap Root (asks_for_root_one rows x.0 y.0 x.2 y.2) ∙ sym y.1
one_of command.Audit rows a b x y = x.1 ∙ ap Audit (asks_to_check_one rows x.0 y.0 x.2 y.2) ∙ sym y.1

pub asks_one : (named : CommandWord) (rows : List Row) (a b : Request) → AsksBy named rows a → AsksBy named rows b → a ≡ b
asks_one named rows a b x y = one_of named rows a b (told a x) (told b y)
  where
    told : (request : Request) → AsksBy named rows request → AsksFor named rows request
    told request asks = subst (λ k. AsksFor k rows request) asks.0 (asks_for rows request asks.1)

-- ---- the words that are taken

module _ (words : List Text) (named : CommandWord) (second : IsSecond words named) where
  pub taken_command : (request : Request) → AreTaken words request → command_asked request ≡ named
  taken_command request t =
      let same : word_of (command_asked request) ≡ word_of named = only (sym t.command ∙ second) in
      only (sym (word_names (command_asked request)) ∙ ap command_of same ∙ word_names named)

  -- where words are taken, their options are given
  taken_given : (request : Request) → AreTaken words request → AreGiven (app named) words (matches_of (app named) (drop 1 words))
  taken_given request t = record {
    clear = λ unclear. elim unclear [ inl dashes ↦ t.no_dashes dashes | inr repeated ↦ t.unrepeated repeated ];
    accepted = subst (λ k. takes (app k) (drop 1 words) ≡ true) (taken_command request t) t.accepted;
    found = refl;
  }

  pub taken_asks : (rows : List Row) → AreGiven (app named) words rows → (request : Request) → AreTaken words request → AsksBy named rows request
  taken_asks rows given request t =
      let same = taken_command request t in
      (same, subst (λ r. Asks r request) (ap (λ k. matches_of (app k) (drop 1 words)) same ∙ sym given.found) t.asks)

  pub taken : (rows : List Row) (request : Request) → AreGiven (app named) words rows → AsksBy named rows request → AreTaken words request
  taken rows request given asks =
      let same = sym asks.0 in
      record {
        command = second ∙ ap (λ k. Some (word_of k)) same;
        unrepeated = λ repeated. given.clear (inr repeated);
        no_dashes = λ dashes. given.clear (inl dashes);
        accepted = subst (λ k. takes (app k) (drop 1 words) ≡ true) same given.accepted;
        asks = subst (λ r. Asks r request) (given.found ∙ ap (λ k. matches_of (app k) (drop 1 words)) same) asks.1;
      }

  -- where options are not given so, no request is asked
  pub refused_by_options : ((rows : List Row) → AreGiven (app named) words rows → ⊥) → (request : Request) → AreTaken words request → ⊥
  refused_by_options none request t = none (matches_of (app named) (drop 1 words)) (taken_given request t)

  -- nor where they ask for none
  pub refused_by_rows : (rows : List Row) → AreGiven (app named) words rows → ((request : Request) → AsksBy named rows request → ⊥) → (request : Request)
      → AreTaken words request → ⊥
  refused_by_rows rows given none request t = none request (taken_asks rows given request t)
