-- `trials::text_of` meets its contract: the file's reading decides between the refusal's line and the lines of its head.
use mathlib.Core.Path.{◌∙◌}
use Rattle.trials.proofs.Asking.{read_head, read-refused}
use Rattle.trials.proofs.Text.{refused-text, listed-text}
use Rattle.trials.proofs.text_of.Goals as goal

pub listed-requires : goal.listed-requires
listed-requires c = read_head c.args.file.now c.in-Ok.ensures

pub returns-in-Err : goal.returns-in-Err
returns-in-Err c =
    let told = read-refused c.args.file.now c.in-Err.ensures in
    c.refused.ensures ∙ refused-text c.args.file.now told.0 told.1

pub returns-in-Ok : goal.returns-in-Ok
returns-in-Ok c =
    c.listed.ensures ∙ listed-text c.args.file.now (read_head c.args.file.now c.in-Ok.ensures).passes
