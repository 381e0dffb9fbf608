-- Words reach a card one at a time: what calls on a book leave.
use Rattle.std.specs.Prelude.{List, [], ◌∷◌}
use Rattle.settings.specs.declared.Settings.{Settings}
use Rattle.book.specs.Book.{Book}
use Rattle.book.specs.Asked.{open_asked}
use Rattle.entering.specs.Asked.{enter_asked}
use Rattle.entering.specs.declared.Entry.{Entry}

-- calls of `enter`, one for each entry, the first of the list first
unfoldable pub calls : Settings → Book → List Entry → Book
calls s b [] = b
calls s b (e ∷ es) = calls s (enter_asked s b e.slot e.word).leaves es

-- `open`, and then those calls
abbrev pub open_calls : Settings → Book → List Entry → Book
open_calls s b es = calls s (open_asked s b).leaves es
