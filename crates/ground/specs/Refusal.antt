-- Document 01, 'Refusal numbers': the table's numbers, each named once.
use Rattle.std.specs.Prelude.{ℕ}
use Rattle.ground.specs.declared.refusal.Refusal.{Refusal}
use Rattle.ground.specs.declared.refusal.Refusal.TheVariants.{Cards, Rounds, Sender, Own, Long, Value, Status, Path, Size, Mark, Version, Old, Ahead, Form, Foreign, Exception}

abbrev pub cards : ℕ
cards = 1

abbrev pub rounds : ℕ
rounds = 2

abbrev pub sender : ℕ
sender = 3

abbrev pub own : ℕ
own = 4

abbrev pub long : ℕ
long = 5

abbrev pub value : ℕ
value = 6

abbrev pub status : ℕ
status = 7

abbrev pub path : ℕ
path = 8

abbrev pub size : ℕ
size = 9

abbrev pub mark : ℕ
mark = 10

abbrev pub version : ℕ
version = 11

abbrev pub old : ℕ
old = 12

abbrev pub ahead : ℕ
ahead = 13

abbrev pub form : ℕ
form = 14

abbrev pub foreign : ℕ
foreign = 15

abbrev pub exception : ℕ
exception = 16

-- the number of each of the code's refusals
abbrev pub number : Refusal → ℕ
number Cards = cards
number Rounds = rounds
number Sender = sender
number Own = own
number Long = long
number Value = value
number Status = status
number Path = path
number Size = size
number Mark = mark
number Version = version
number Old = old
number Ahead = ahead
number Form = form
number Foreign = foreign
number Exception = exception
