-- The numbers that are printed for faults and for rules.
use Rattle.std.specs.Prelude.{ℕ}
use Rattle.elevator_model.specs.declared.Fault.{Fault}
use Rattle.elevator_model.specs.declared.Fault.TheVariants.{OutOfRange, NotRising, IdUsedBefore, NoSuchFloor, OriginIsDestination, NoPossibleCar, PinCannotTake}
use Rattle.elevator_model.specs.declared.Fault.TheVariants.{WrongSide, OverCapacity, MomentOutOfRange, TooManyCalls, TooManyCars, NotServed, PersonsOutOfRange}
use Rattle.elevator_model.specs.declared.Fault.TheVariants.{NoTravelSquare, NoOpenFloor}
use Rattle.elevator_model.specs.declared.Rule.{Rule}
use Rattle.elevator_model.specs.declared.Rule.TheVariants.{FirstStop, SameFloorTwice, UselessStop, TurnWithPassengers, Capacity, QueueOrder, Car, Floor}
use Rattle.elevator_model.specs.declared.Rule.TheVariants.{Delivery, CallTwice, Origin, Unserved}

abbrev pub code_of : Fault → ℕ
code_of OutOfRange = 7
code_of NotRising = 10
code_of IdUsedBefore = 11
code_of NoSuchFloor = 12
code_of OriginIsDestination = 13
code_of NoPossibleCar = 14
code_of PinCannotTake = 15
code_of WrongSide = 16
code_of OverCapacity = 17
code_of MomentOutOfRange = 18
code_of TooManyCalls = 19
code_of TooManyCars = 20
code_of NotServed = 21
code_of PersonsOutOfRange = 22
code_of NoTravelSquare = 28
code_of NoOpenFloor = 51

abbrev pub number_of : Rule → ℕ
number_of FirstStop = 1
number_of SameFloorTwice = 2
number_of UselessStop = 3
number_of TurnWithPassengers = 4
number_of Capacity = 5
number_of QueueOrder = 6
number_of Car = 7
number_of Floor = 8
number_of Delivery = 9
number_of CallTwice = 10
number_of Origin = 11
number_of Unserved = 12
