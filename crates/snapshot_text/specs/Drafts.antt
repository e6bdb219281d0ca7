-- What each line does to a snapshot section, as far as it was read.
use Rattle.std.specs.Prelude.{ℕ, ◌==◌, ◌&&◌, Bool, true, false, List, [], ◌∷◌, ◌++◌, length, map, slice_index_or, slice_set, Option, None, Some, Ok, Err, codes}
use Rattle.std.specs.Prelude.{if◌then◌else◌}
use Rattle.std.specs.List.{list_any, list_all}
use Rattle.elevator_model.specs.declared.CarSpec.{CarSpec}
use Rattle.elevator_model.specs.declared.CarState.{CarState}
use Rattle.elevator_model.specs.declared.Aboard.{Aboard}
use Rattle.elevator_model.specs.declared.Call.{Call}
use Rattle.elevator_model.specs.declared.Fault.{Fault}
use Rattle.elevator_model.specs.declared.Fault.TheVariants.{IdUsedBefore}
use Rattle.elevator_model.specs.Building.{Building}
use Rattle.elevator_model.specs.Snapshot.{Snapshot, no_state}
use Rattle.elevator_model.specs.Faults.{fault_of_state, fault_of_group, fault_of_call}
use Rattle.lift_text.specs.declared.codes.TextCode.TheVariants.{NoLineWord, NoState, NotInOpening, Item}
use Rattle.text_sections.specs.declared.sections.AfterLine.{AfterLine}
use Rattle.text_sections.specs.declared.sections.AfterLine.TheVariants.{Whole}
use Rattle.text_sections.specs.Judging.{Judged, ◌>>=◌, in_order}
use Rattle.text_sections.specs.Words.{is_word, exactly}
use Rattle.text_sections.specs.Sections.{Line, Step, goes_on, is_whole, is_bad}
use Rattle.snapshot_text.specs.declared.kinds.Due.{Due}
use Rattle.snapshot_text.specs.declared.kinds.Due.TheVariants.{Version, Moment, Items}
use Rattle.snapshot_text.specs.declared.kinds.LineWord.{LineWord}
use Rattle.snapshot_text.specs.declared.kinds.LineWord.TheVariants.{Snapshot as SnapshotWord, Now, Car, Aboard as AboardWord, Call as CallWord, End}
use Rattle.snapshot_text.specs.Words.{version_said, moment_said, form_of, car_said, group_said, call_said}

-- What was read of a snapshot section.
pub record Draft : Type 0 where
  -- it is the opening snapshot of a day
  pub is_opening : Bool
  pub building : Building
  -- the line that is due
  pub due : Due
  pub version : ℕ
  pub moment : ℕ
  -- where each car is, and whether a line has said so
  pub states : List CarState
  pub stated : List Bool
  pub aboard : List Aboard
  pub calls : List Call

-- before the first line
abbrev pub blank : Building → Bool → Draft
blank b is_opening =
    record {
      is_opening = is_opening;
      building = b;
      due = Version;
      version = 1;
      moment = 0;
      states = map (λ (x : CarSpec). no_state) b.cars;
      stated = map (λ (x : CarSpec). false) b.cars;
      aboard = [];
      calls = [];
    }

-- the snapshot that was read
abbrev pub snapshot_read : Draft → Snapshot
snapshot_read d =
    record {
      version = d.version;
      building = d.building;
      moment = d.moment;
      states = d.states;
      aboard = d.aboard;
      calls = d.calls;
    }

-- ---- the line words

abbrev pub any_word : Line → Judged LineWord
any_word words =
    if is_word words 0 (codes "snapshot") then Ok SnapshotWord
    else (if is_word words 0 (codes "now") then Ok Now
    else (if is_word words 0 (codes "car") then Ok Car
    else (if is_word words 0 (codes "aboard") then Ok AboardWord
    else (if is_word words 0 (codes "call") then Ok CallWord
    else (if is_word words 0 (codes "end") then Ok End
    else Err NoLineWord)))))

-- where the first line is due, its word is the only one
abbrev pub line_word : Due → Line → Judged LineWord
line_word Version words = if is_word words 0 (codes "snapshot") then Ok SnapshotWord else Err NoLineWord
line_word Moment words = any_word words
line_word Items words = any_word words

-- ---- the order of the lines

abbrev pub is_version_due : Due → Bool
is_version_due Version = true
is_version_due Moment = false
is_version_due Items = false

abbrev pub is_moment_due : Due → Bool
is_moment_due Version = false
is_moment_due Moment = true
is_moment_due Items = false

abbrev pub are_items_due : Due → Bool
are_items_due Version = false
are_items_due Moment = false
are_items_due Items = true

-- a line has said where some car is, or each
abbrev pub has_car : Draft → Bool
has_car d = list_any (λ (is : Bool). is) d.stated

abbrev pub has_all_cars : Draft → Bool
has_all_cars d = list_all (λ (is : Bool). is) d.stated

abbrev pub cars_in_order : Draft → Judged Unit
cars_in_order d = in_order (are_items_due d.due && ((length d.aboard == 0) && (length d.calls == 0)))

abbrev pub groups_in_order : Draft → Judged Unit
groups_in_order d = in_order (are_items_due d.due && (has_car d && (length d.calls == 0)))

abbrev pub calls_in_order : Draft → Judged Unit
calls_in_order d = in_order (are_items_due d.due && has_car d)

-- nobody is aboard and no call is open in the opening snapshot of a day
abbrev pub outside_opening : Draft → Judged Unit
outside_opening d = if d.is_opening then Err NotInOpening else Ok tt

abbrev pub with_all_cars : Draft → Judged Unit
with_all_cars d = if has_all_cars d then Ok tt else Err NoState

-- ---- what the line of each word says here

abbrev pub version_in : Draft → Line → Judged ℕ
version_in d words = in_order (is_version_due d.due) >>= λ _. version_said words

abbrev pub moment_in : Draft → Line → Judged ℕ
moment_in d words = in_order (is_moment_due d.due) >>= λ _. moment_said words

abbrev pub car_in : Draft → Line → Judged (ℕ × CarState)
car_in d words = form_of d.version words >>= λ form. (cars_in_order d >>= λ _. car_said d.building form words)

abbrev pub group_in : Draft → Line → Judged Aboard
group_in d words =
    groups_in_order d >>= λ _. (outside_opening d >>= λ _. (group_said d.building words >>= λ group. (with_all_cars d >>= λ _. Ok group)))

abbrev pub call_in : Draft → Line → Judged Call
call_in d words =
    calls_in_order d >>= λ _. (outside_opening d >>= λ _. (call_said d.building words >>= λ call. (with_all_cars d >>= λ _. Ok call)))

abbrev pub end_in : Draft → Line → Judged AfterLine
end_in d words = calls_in_order d >>= λ _. (exactly words 1 >>= λ _. (with_all_cars d >>= λ _. Ok Whole))

-- ---- what is wrong with the item of a line

abbrev pub fault_in_car : Draft → ℕ × CarState → Option Fault
fault_in_car d said =
    if slice_index_or d.stated said.0 false then Some IdUsedBefore else fault_of_state d.building d.moment said.0 said.1

abbrev pub fault_in_group : Draft → Aboard → Option Fault
fault_in_group d group = fault_of_group d.building d.moment d.states d.aboard group

abbrev pub fault_in_call : Draft → Call → Option Fault
fault_in_call d call = fault_of_call d.building d.moment d.aboard d.calls call

-- ---- the draft with one more line

abbrev pub with_version : Draft → ℕ → Draft
with_version d version = record d { due = Moment; version = version }

abbrev pub with_moment : Draft → ℕ → Draft
with_moment d moment = record d { due = Items; moment = moment }

abbrev pub with_car : Draft → ℕ × CarState → Draft
with_car d said = record d { states = slice_set d.states said.0 said.1; stated = slice_set d.stated said.0 true }

abbrev pub with_group : Draft → Aboard → Draft
with_group d group = record d { aboard = d.aboard ++ group ∷ [] }

abbrev pub with_call : Draft → Call → Draft
with_call d call = record d { calls = d.calls ++ call ∷ [] }

-- ---- what a line does

-- a line whose item has this fault, or none
abbrev pub unless_faulty : Option Fault → Draft → Step Draft
unless_faulty None d = goes_on d
unless_faulty (Some fault) d = is_bad (Item fault)

-- a line that says an item: it is judged by its words, then by the item
abbrev pub with_item : {X : Type 0} → Judged X → (X → Option Fault) → (X → Draft) → Step Draft
with_item (Ok x) fault_of with_one = unless_faulty (fault_of x) (with_one x)
with_item (Err code) fault_of with_one = is_bad code

-- the last line
abbrev pub ended : Judged AfterLine → Draft → Step Draft
ended (Ok turn) d = is_whole d
ended (Err code) d = is_bad code

abbrev pub after_word : LineWord → Draft → Line → Step Draft
after_word SnapshotWord d words = with_item (version_in d words) (λ version. None) (with_version d)
after_word Now d words = with_item (moment_in d words) (λ moment. None) (with_moment d)
after_word Car d words = with_item (car_in d words) (fault_in_car d) (with_car d)
after_word AboardWord d words = with_item (group_in d words) (fault_in_group d) (with_group d)
after_word CallWord d words = with_item (call_in d words) (fault_in_call d) (with_call d)
after_word End d words = ended (end_in d words) d

abbrev pub after_judged : Judged LineWord → Draft → Line → Step Draft
after_judged (Ok word) d words = after_word word d words
after_judged (Err code) d words = is_bad code

-- what a line of these words does
abbrev pub after : Draft → Line → Step Draft
after d words = after_judged (line_word d.due words) d words
