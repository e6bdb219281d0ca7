-- Where `clap` finds no fault, it takes the words: step for step, `Faults` and `Takes` of `clap` say the same.
use Rattle.std.proofs.Common.{◌≡◌, ◌∙◌, ◌+◌, ◌&&◌, ◌||◌, ℕ, Bool, cond, true, false, not, zero, suc, List, [], ◌∷◌, length, drop, min, codes, Option, Some}
use Rattle.std.proofs.Common.{None, is_some, refl, sym, ap, arith}
use Rattle.std.specs.Prelude.{◌==◌, encode_utf8, slice_get, nat_le, nat_lt}
use Rattle.std.specs.List.{list_all, list_any}
use Rattle.std.specs.Option.{option_map_or}
use Rattle.std.specs.Str.{bytes_eq, chars}
use Rattle.std.proofs.lemmas.Bool.Decides.{nat_tests}
use Rattle.clap.specs.Lexer.{long_of, short_of}
use Rattle.clap.specs.Matches.{count_text}
use Rattle.clap.specs.Facts.{explicit_source, parser_of_value, unwrap_or_range}
use Rattle.clap.specs.ValueTests.{accepts}
use Rattle.clap.specs.Walk.{Held, Names, Row, Rule, Step, Text, Waiting, Walk, action_of, arg_by_id, arg_by_index, arg_by_long, arg_by_short, attached_value}
use Rattle.clap.specs.Walk.{count_of, finished, has_row, is_pending, most_values, nothing_held, reacted, settled, subcommand_met, takes_several, takes_values}
use Rattle.clap.specs.Walk.{values_or_missing, walk, walk_from, walked, word_met}
use Rattle.clap.specs.Walk.{next, trailing, subcommand, value}
use Rattle.clap.specs.Simple.{App, Shape, argument_words, built, entered}
use Rattle.clap.specs.Takes.{action_passes, built_takes, bundle_step_passes, count_passes, default_passes, entered_passes, flag_word_passes, flags_pass}
use Rattle.clap.specs.Takes.{is_given, is_valid, level_passes, long_passes, option_passes, other_passes, positional_passes, react_passes, set_passes}
use Rattle.clap.specs.Takes.{settle_passes, short_passes, step_passes, takes, turn_passes, use_passes, walk_passes, word_passes}
use Rattle.clap.specs.Kinds.{Kinds, or_else, range_kinds, value_kinds, values_kinds}
use Rattle.clap.specs.Faults.{action_fault, bundle_step_fault, check_fault, count_fault, defaults_fault, fault_of, flag_word_fault, flags_fault, level_fault}
use Rattle.clap.specs.Faults.{long_fault, option_fault, other_fault, positional_fault, react_fault, repeat_fault, set_fault, settle_fault, short_fault}
use Rattle.clap.specs.Faults.{step_fault, stray_fault, turn_fault, use_fault, values_fault, walk_fault, word_fault}
use Rattle.clap.proofs.FaultLemmas.{leaf_fault}
use Rattle.option_words.specs.Options.{IsPlain}
use Rattle.clap.specs.declared.builder.action.ArgAction.{ArgAction}
use Rattle.clap.specs.declared.builder.action.ArgAction.TheVariants as action
use Rattle.clap.specs.declared.builder.value_parser.ValueParser.{ValueParser}
use Rattle.clap.specs.declared.error.kind.ErrorKind.{ErrorKind}
use Rattle.clap.specs.declared.error.kind.ErrorKind.TheVariants as kind

-- ---- lists of kinds and tests

parts : (a b : Kinds) → or_else a b ≡ [] → (a ≡ []) × (b ≡ [])
parts [] b e = (refl, e)
parts (k ∷ ks) b e = absurd cc

both : (a b : Bool) → a ≡ true → b ≡ true → (a && b) ≡ true
both a b x y = rw (x, y) refl

-- a test that gives a kind where it holds does not hold
unmet : (b : Bool) (k : ErrorKind) (ks rest : Kinds) → cond b (k ∷ ks) rest ≡ [] → (b ≡ false) × (rest ≡ [])
unmet true k ks rest e = absurd cc
unmet false k ks rest e = (refl, e)

met : (b : Bool) (k : ErrorKind) (ks : Kinds) → cond b [] (k ∷ ks) ≡ [] → b ≡ true
met true k ks e = refl
met false k ks e = absurd cc

-- ---- values

value_ok : (ignore : Bool) (p : ValueParser) (text : Text) → value_kinds ignore p text ≡ [] → accepts ignore p text ≡ true
value_ok ignore p text e = met (accepts ignore p text) _ _ e

values_ok : (ignore : Bool) (p : ValueParser) (values : List Text) → values_kinds ignore p values ≡ [] → list_all (accepts ignore p) values ≡ true
values_ok ignore p [] e = refl
values_ok ignore p (v ∷ vs) e =
    let e2 = parts (value_kinds ignore p v) (values_kinds ignore p vs) e in
    both _ _ (value_ok ignore p v e2.0) (values_ok ignore p vs e2.1)

range_ok : (least most n : ℕ) → range_kinds least most n ≡ [] → (nat_le least n ≡ true) × (nat_le n most ≡ true)
range_ok least most n e =
    let first = unmet (nat_lt 0 least && n == 0) _ _ _ e in
    by_same (least == most) refl first.1
  where
    by_same : (same : Bool) → (least == most) ≡ same
        → cond same (cond (least == n) [] (kind.WrongNumberOfValues ∷ []))
        (cond (nat_lt n least) (kind.TooFewValues ∷ []) (cond (nat_lt most n) (kind.TooManyValues ∷ []) [])) ≡ [] → (nat_le least n ≡ true)
        × (nat_le n most ≡ true)
    by_same true same h = let is = met (least == n) _ _ h in (grind (arith, nat_tests), grind (arith, nat_tests))
    by_same false same h =
        let few = unmet (nat_lt n least) _ _ _ h in
        let many = unmet (nat_lt most n) _ _ _ few.1 in
        (grind (arith, nat_tests), grind (arith, nat_tests))

-- ---- one use of an argument

set_ok : (again : Bool) (a : Rule) (values : List Text) (rows : List Row) → set_fault again a values rows ≡ [] → set_passes again a values rows ≡ true
set_ok again a values rows e =
    let e2 = parts (repeat_fault again a.id rows) (values_fault a values) e in
    both _ _ (once (has_row a.id rows) again (unmet (has_row a.id rows && not again) _ _ _ e2.0).0)
    (values_ok a.ignore_case (parser_of_value a.parser) values e2.1)
  where
    once : (has more : Bool) → (has && not more) ≡ false → (not has || more) ≡ true
    once true true h = refl
    once true false h = absurd cc
    once false more h = refl

count_ok : (a : Rule) (values : List Text) (rows : List Row) → count_fault a values rows ≡ [] → count_passes a values rows ≡ true
count_ok a [] rows e = value_ok a.ignore_case (parser_of_value a.parser) (count_text (min (count_of a.id rows + 1) 255)) e
count_ok a (v ∷ vs) rows e = values_ok a.ignore_case (parser_of_value a.parser) (v ∷ vs) e

action_ok : (x : ArgAction) (again : Bool) (a : Rule) (values : List Text) (rows : List Row) → action_fault x again a values rows ≡ []
    → action_passes x again a values rows ≡ true
action_ok action.Set again a values rows e = set_ok again a values rows e
action_ok action.SetTrue again a values rows e = set_ok again a values rows e
action_ok action.SetFalse again a values rows e = set_ok again a values rows e
action_ok action.Append again a values rows e = values_ok a.ignore_case (parser_of_value a.parser) values e
action_ok action.Count again a values rows e = count_ok a values rows e
action_ok action.Help again a values rows e = absurd cc
action_ok action.HelpShort again a values rows e = absurd cc
action_ok action.HelpLong again a values rows e = absurd cc
action_ok action.Version again a values rows e = absurd cc

use_ok : (again : Bool) (a : Rule) (values : List Text) (rows : List Row) → use_fault again a values rows ≡ [] → use_passes again a values rows ≡ true
use_ok again a values rows e =
    let e2 = parts (range_kinds (unwrap_or_range a.range).start_inclusive (most_values a) (length values)) _ e in
    let range = range_ok (unwrap_or_range a.range).start_inclusive (most_values a) (length values) e2.0 in
    both _ _ range.0 (both _ _ range.1 (action_ok (action_of a) again a (values_or_missing a values) rows e2.1))

-- ---- the walk

module _ (c : List Rule) (again : Bool) where
  settle_ok : (h : Held) → settle_fault c again h ≡ [] → settle_passes c again h ≡ true
  settle_ok h e = by_pending h.pending e
    where
      by_rule : (values : List Text) (o : Option Rule) → option_map_or (λ a. use_fault again a values h.rows) o [] ≡ []
          → option_map_or (λ a. use_passes again a values h.rows) o true ≡ true
      by_rule values None e = refl
      by_rule values (Some a) e = use_ok again a values h.rows e

      by_pending : (o : Option (Text × List Text)) → option_map_or (λ p. option_map_or (λ a. use_fault again a p.1 h.rows) (arg_by_id c p.0) []) o [] ≡ []
          → option_map_or (λ p. option_map_or (λ a. use_passes again a p.1 h.rows) (arg_by_id c p.0) true) o true ≡ true
      by_pending None e = refl
      by_pending (Some p) e = by_rule p.1 (arg_by_id c p.0) e

  react_ok : (a : Rule) (values : List Text) (h : Held) → react_fault c again a values h ≡ [] → react_passes c again a values h ≡ true
  react_ok a values h e =
      let e2 = parts (settle_fault c again h) _ e in
      both _ _ (settle_ok h e2.0) (use_ok again a values (settled c h).rows e2.1)

  option_ok : (a : Rule) (v : Option Text) (h : Held) → option_fault c again a v h ≡ [] → option_passes c again a v h ≡ true
  option_ok a (Some v) h e = react_ok a (v ∷ []) h e
  option_ok a None h e = settle_ok h e

  long_ok : (o : Option Rule) (v : Option Text) (h : Held) → long_fault c again o v h ≡ [] → long_passes c again o v h ≡ true
  long_ok None v h e = absurd cc
  long_ok (Some a) v h e = by_taking (takes_values a) e
    where
      flag : (o : Option Text) → cond (is_some o) (kind.TooManyValues ∷ []) (react_fault c again a [] h) ≡ []
          → (not (is_some o) && react_passes c again a [] h) ≡ true
      flag None e = react_ok a [] h e
      flag (Some x) e = absurd cc

      by_taking : (b : Bool) → cond b (option_fault c again a v h) (cond (is_some v) (kind.TooManyValues ∷ []) (react_fault c again a [] h)) ≡ []
          → cond b (option_passes c again a v h) (not (is_some v) && react_passes c again a [] h) ≡ true
      by_taking true e = option_ok a v h e
      by_taking false e = flag v e

  short_ok : (o : Option Rule) (rest : Text) (h : Held) (fault : Held → Kinds) (passes : Held → Bool) → ((g : Held) → fault g ≡ [] → passes g ≡ true)
      → short_fault c again o rest h fault ≡ [] → short_passes c again o rest h passes ≡ true
  short_ok None rest h fault passes later e = absurd cc
  short_ok (Some a) rest h fault passes later e = by_taking (takes_values a) e
    where
      by_taking : (b : Bool) → cond b (option_fault c again a (attached_value rest) h) (or_else (react_fault c again a [] h) (fault (reacted c a [] h))) ≡ []
          → cond b (option_passes c again a (attached_value rest) h) (react_passes c again a [] h && passes (reacted c a [] h)) ≡ true
      by_taking true e = option_ok a (attached_value rest) h e
      by_taking false e = let e2 = parts (react_fault c again a [] h) _ e in both _ _ (react_ok a [] h e2.0) (later (reacted c a [] h) e2.1)

  bundle_ok : (o : Option ℕ) (flags : Text) (skip : ℕ) (h : Held) (fault : Text → ℕ → Held → Kinds) (passes : Text → ℕ → Held → Bool)
      → ((t : Text) (n : ℕ) (g : Held) → fault t n g ≡ [] → passes t n g ≡ true)
      → bundle_step_fault c again o flags skip h fault ≡ [] → bundle_step_passes c again o flags skip h passes ≡ true
  bundle_ok None flags skip h fault passes later e = refl
  bundle_ok (Some x) flags zero h fault passes later e =
      let rest = drop (length (encode_utf8 x)) flags in
      short_ok (arg_by_short c x) rest h (fault rest 0) (passes rest 0) (later rest 0) e
  bundle_ok (Some x) flags (suc skip) h fault passes later e = later (drop (length (encode_utf8 x)) flags) skip h e

  flags_ok : (k : ℕ) (flags : Text) (skip : ℕ) (h : Held) → flags_fault c again k flags skip h ≡ [] → flags_pass c again k flags skip h ≡ true
  unfolding flags_fault flags_pass
  flags_ok zero flags skip h e = refl
  flags_ok (suc k) flags skip h e = bundle_ok (slice_get (chars flags) 0) flags skip h (flags_fault c again k) (flags_pass c again k) (flags_ok k) e

  flag_word_ok : (o : Option (Text × Option Text)) (word : Text) (h : Held) → flag_word_fault c again o word h ≡ [] → flag_word_passes c again o word h ≡ true
  flag_word_ok (Some p) word h e = long_ok (arg_by_long c p.0) p.1 h e
  flag_word_ok None word h e = by_short (short_of word) e
    where
      by_short : (o : Option Text) → option_map_or (λ flags. flags_fault c again (length flags) flags h.skip (record h { skip = 0 })) o [] ≡ []
          → option_map_or (λ flags. flags_pass c again (length flags) flags h.skip (record h { skip = 0 })) o true ≡ true
      by_short None e = refl
      by_short (Some flags) e = flags_ok (length flags) flags h.skip (record h { skip = 0 }) e

  positional_ok : (a : Rule) (h : Held) → positional_fault c again a h ≡ [] → positional_passes c again a h ≡ true
  positional_ok a h e = by_more (is_pending a h.pending && takes_several a) e
    where
      by_more : (b : Bool) → cond b [] (settle_fault c again h) ≡ [] → (b || settle_passes c again h) ≡ true
      by_more true e = refl
      by_more false e = settle_ok h e

module _ (s : Shape) where
  other_ok : (o : Option Text) (word : Text) (h : Held) → other_fault s o word h ≡ [] → other_passes s o word h ≡ true
  other_ok (Some name) word h e = no_help (bytes_eq name (codes "help")) s.disable_help_subcommand (unmet _ _ _ _ e).0
    where
      no_help : (help disabled : Bool) → (help && not disabled) ≡ false → (not help || disabled) ≡ true
      no_help true true h = refl
      no_help true false h = absurd cc
      no_help false disabled h = refl
  other_ok None word h e = by_dashes (bytes_eq word (45 ∷ 45 ∷ [])) e
    where
      by_dashes : (b : Bool) → cond b [] (flag_word_fault s.rules s.args_override_self (long_of word) word h) ≡ []
          → (b || flag_word_passes s.rules s.args_override_self (long_of word) word h) ≡ true
      by_dashes true e = refl
      by_dashes false e = flag_word_ok s.rules s.args_override_self (long_of word) word h e

  word_ok : (names : Names) (is_trailing : Bool) (waiting : Waiting) (word : Text) (h : Held) → word_fault s names is_trailing waiting word h ≡ []
      → word_passes s names is_trailing waiting word h ≡ true
  word_ok names true waiting word h e = refl
  word_ok names false waiting word h e = other_ok (subcommand_met names waiting word) word h e

  not_stray : stray_fault s ≡ [] → ⊥
  not_stray e = by_leaf s.is_leaf e
    where
      by_leaf : (b : Bool) → cond b (kind.UnknownArgument ∷ []) (kind.UnknownArgument ∷ kind.InvalidSubcommand ∷ []) ≡ [] → ⊥
      by_leaf true e = absurd cc
      by_leaf false e = absurd cc

  step_ok : (position : ℕ) (h : Held) (step : Step) → step_fault s position h step ≡ [] → step_passes s position h step ≡ true
  step_ok position h value e = by_rule (arg_by_index s.rules position) e
    where
      by_rule : (o : Option Rule) → option_map_or (λ a. positional_fault s.rules s.args_override_self a h) o (stray_fault s) ≡ []
          → option_map_or (λ a. positional_passes s.rules s.args_override_self a h) o false ≡ true
      by_rule None e = absurd (not_stray e)
      by_rule (Some a) e = positional_ok s.rules s.args_override_self a h e
  step_ok position h (next w) e = refl
  step_ok position h (trailing p) e = refl
  step_ok position h (subcommand name) e = refl

  turn_ok : (names : Names) (w : Walk) (word : Text) → turn_fault s names w word ≡ [] → turn_passes s names w word ≡ true
  turn_ok names w word e =
      let end = word_met s.rules names w.is_trailing w.waiting w.position word w.held in
      by_stop end (is_some w.stopped) e
    where
      by_stop : (end : Held × Step) (b : Bool)
          → cond b [] (or_else (word_fault s names w.is_trailing w.waiting word w.held) (step_fault s w.position end.0 end.1)) ≡ []
          → (b || (word_passes s names w.is_trailing w.waiting word w.held && step_passes s w.position end.0 end.1)) ≡ true
      by_stop end true e = refl
      by_stop end false e =
          let e2 = parts (word_fault s names w.is_trailing w.waiting word w.held) _ e in
          both _ _ (word_ok names w.is_trailing w.waiting word w.held e2.0) (step_ok w.position end.0 end.1 e2.1)

  walk_ok : (names : Names) (w : Walk) (words : List Text) → walk_fault s names w words ≡ [] → walk_passes s names w words ≡ true
  unfolding walk_fault walk_passes
  walk_ok names w [] e = refl
  walk_ok names w (word ∷ rest) e =
      let e2 = parts (turn_fault s names w word) _ e in
      both _ _ (turn_ok names w word e2.0) (walk_ok names (walked s.rules names w word) rest e2.1)

  -- ---- after the walk

  none_missing : (rows : List Row) (rules : List Rule) → list_any (λ a. a.required && not (is_given a.id rows)) rules ≡ false
      → list_all (λ a. not a.required || is_given a.id rows) rules ≡ true
  none_missing rows [] e = refl
  none_missing rows (a ∷ rules) e =
      by_first a.required (is_given a.id rows) (list_any (λ b. b.required && not (is_given b.id rows)) rules) e (none_missing rows rules)
    where
      by_first : (required given missing : Bool) → ((required && not given) || missing) ≡ false
          → (missing ≡ false → list_all (λ b. not b.required || is_given b.id rows) rules ≡ true)
          → ((not required || given) && list_all (λ b. not b.required || is_given b.id rows) rules) ≡ true
      by_first true true missing e rest = rest e
      by_first true false missing e rest = absurd cc
      by_first false given missing e rest = rest e

  valid : (rows : List Row) → list_all (λ a. a.is_free) s.rules ≡ true → check_fault s rows false ≡ [] → is_valid s rows false ≡ true
  valid rows free e =
      let given = list_any (λ r. explicit_source r.source) rows in
      let help = unmet (s.arg_required_else_help && not given) _ _ _ e in
      let sub = unmet s.subcommand_required _ _ _ help.1 in
      let missing = unmet (not (s.subcommand_negates_reqs && false) && list_any (λ a. a.required && not (is_given a.id rows)) s.rules) _ _ _ sub.1 in
      both _ _ (unwanted s.arg_required_else_help given help.0)
      (both _ _ (ap (λ b. not b || false) sub.0) (both _ _ free (required s.subcommand_negates_reqs (none_missing rows s.rules) missing.0)))
    where
      unwanted : (help given : Bool) → (help && not given) ≡ false → (not help || (false || given)) ≡ true
      unwanted true true e = refl
      unwanted true false e = absurd cc
      unwanted false given e = refl

      required : (negates : Bool)
          → (list_any (λ a. a.required && not (is_given a.id rows)) s.rules ≡ false → list_all (λ a. not a.required || is_given a.id rows) s.rules ≡ true)
          → (not (negates && false) && list_any (λ a. a.required && not (is_given a.id rows)) s.rules) ≡ false
          → ((negates && false) || list_all (λ a. not a.required || is_given a.id rows) s.rules) ≡ true
      required true none e = none e
      required false none e = none e

  level_ok : (words : List Text) → list_all default_passes s.rules ≡ true → list_all (λ a. a.is_free) s.rules ≡ true
      → level_fault s [] nothing_held words false [] ≡ [] → level_passes s [] nothing_held words false ≡ true
  level_ok words defaults free e =
      let end = (walk s.rules [] nothing_held words).held in
      let walked_on = parts (walk_fault s [] (walk_from nothing_held) words) _ e in
      let at_end = parts (settle_fault s.rules s.args_override_self end) _ walked_on.1 in
      let checked = parts (defaults_fault (settled s.rules end).rows s.rules) _ at_end.1 in
      both _ _ (walk_ok [] (walk_from nothing_held) words walked_on.0)
      (both _ _ (settle_ok s.rules s.args_override_self end at_end.0)
      (both _ _ defaults (valid (finished s.rules end) free checked.1)))

-- a command with no subcommand takes what its own level does
leaf_takes : (a : App) (words : List Text) → a.subs ≡ [] → level_passes a.top [] nothing_held words false ≡ true → built_takes a nothing_held words ≡ true
leaf_takes a words none passes =
    ap (λ subs. built_takes (record a { subs = subs }) nothing_held words) none ∙ by_stop (walk a.top.rules [] nothing_held words).stopped
  where
    by_stop : (stop : Option (Text × List Text))
        → (entered_passes (record a { subs = [] }) stop && level_passes a.top [] nothing_held words (is_some (entered (record a { subs = [] }) stop))) ≡ true
    by_stop None = passes
    by_stop (Some p) = passes

-- ---- plain commands

-- where `clap` finds no fault in the words of a plain command, it takes them
pub takes_where_no_fault : (app : App) (words : List Text) → IsPlain app → fault_of app words ≡ [] → takes app words ≡ true
takes_where_no_fault app words plain e =
    let a = built app in
    let rest = argument_words app words in
    both _ _ plain.simple (leaf_takes a rest plain.no_subcommand
    (level_ok a.top rest plain.defaults_pass plain.free (sym (leaf_fault a nothing_held rest plain.no_subcommand) ∙ e)))
