-- `books::on_part` meets its contract: the sender's part is lent on, and comes back in its place.
use mathlib.Core.Path.{refl}
use Rattle.ground.proofs.Parts.{part_lent, part_back}
use Rattle.books.proofs.on_part.Goals as goal

pub returns-then-s-books-clause-called : goal.returns-then-s-books-clause-called
returns-then-s-books-clause-called g c =
    λ has. (c.call.new.arg2, record { shown = _; shows = part_lent 2222 c.args.s.t c.args.books.now refl; left = _; met = c.call.ensures; leaves = refl }, part_back 2222 c.args.s.t c.args.books.now refl c.call.new.arg2)
