-- The numbers that are printed for what is wrong with a line.
use Rattle.std.specs.Prelude.{ℕ}
use Rattle.elevator_model.specs.Printed.{code_of}
use Rattle.lift_text.specs.declared.codes.TextCode.{TextCode}
use Rattle.lift_text.specs.declared.codes.TextCode.TheVariants.{ForbiddenByte, OverLong, NoLineWord, Missing, TooMany, NoNumber, OutOfRange, OutOfOrder}
use Rattle.lift_text.specs.declared.codes.TextCode.TheVariants.{CutShort, NoState, ClaimsPast, UnknownId, NotInOpening, NoHeader, ShorterWay, NoTime, Item}
use Rattle.command_ends.specs.declared.input_faults.OwnCode.{OwnCode}
use Rattle.command_ends.specs.declared.input_faults.OwnCode.TheVariants.{NothingAsked, UsedId, TooManyBanks}

abbrev pub number_of : TextCode → ℕ
number_of ForbiddenByte = 1
number_of OverLong = 2
number_of NoLineWord = 3
number_of Missing = 4
number_of TooMany = 5
number_of NoNumber = 6
number_of OutOfRange = 7
number_of OutOfOrder = 8
number_of CutShort = 9
number_of NoState = 23
number_of ClaimsPast = 24
number_of UnknownId = 25
number_of NotInOpening = 26
number_of NoHeader = 27
number_of ShorterWay = 52
number_of NoTime = 53
number_of (Item fault) = code_of fault

-- the numbers that are printed for what one command alone refuses
abbrev pub number_of_own : OwnCode → ℕ
number_of_own NothingAsked = 54
number_of_own UsedId = 55
number_of_own TooManyBanks = 56
