-- `arrivals::arrival` meets its contract: bytes that do not read are refused, then what their record is refused for.
use mathlib.Core.Path.{sym, ap, ◌∙◌}
use Rattle.ground.proofs.Answers.{leaves_answer, value-verdict, refused-verdict, refused-first}
use Rattle.frames.specs.Asked.{read_checks, read_asked}
use Rattle.arrivals.specs.Entry.{entry_asked, arrival_asked}
use Rattle.arrivals.proofs.Entering.{entry_arrives}
use Rattle.arrivals.proofs.arrival.Goals as goal

pub returns-in_err-read : goal.returns-in_err-read
unfolding read_asked arrival_asked
returns-in_err-read c =
    leaves_answer _ _ c.from_residual.ensures.1 (refused-first (read_checks c.args.bytes.now) _ tt _ (sym (refused-verdict _ _ (sym c.in_err-read.ensures)).0)) _

pub returns : goal.returns
unfolding read_asked
returns c =
    let a = c.args in
    let v = value-verdict _ _ (sym c.in_ok-read.ensures) in
    c.entry_of.ensures ∙ ap (entry_asked a.s a.current) (sym v.1) ∙ entry_arrives a.s a.current a.bytes.now v.0
