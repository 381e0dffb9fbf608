-- `arrivals::entry_of` meets its contract: a record that is not timely is refused, then one that has no path.
use Prim.Native.Nat.{ℕ}
use mathlib.Core.Path.{refl, sym, ap₂}
use lib.IntN.{ℤ}
use Rattle.std.proofs.Common.{rules}
use Rattle.ground.proofs.Answers.{leaves_answer, answer-given, value-verdict, refused-verdict, refused-first, then-decided}
use Rattle.paths.specs.Asked.{slot_asked}
use Rattle.arrivals.specs.Entry.{timely_checks, entry_asked}
use Rattle.arrivals.proofs.entry_of.Goals as goal

pub returns-in_err-untimely : goal.returns-in_err-untimely
unfolding entry_asked
returns-in_err-untimely c =
    let a = c.args in
    leaves_answer _ _ c.from_residual.ensures.1 (refused-first (timely_checks a.s a.current a.f) _ tt _ c.in_err-untimely.ensures) _

pub returns-in_err-slot : goal.returns-in_err-slot
unfolding entry_asked slot_asked
returns-in_err-slot c =
    let a = c.args in
    leaves_answer _ _ c.from_residual-in_err-slot.ensures.1 (then-decided (timely_checks a.s a.current a.f) _ tt c.in_ok-untimely.ensures (sym (refused-verdict _ _ (sym c.in_err-slot.ensures)).0)) _

pub returns : goal.returns
unfolding entry_asked slot_asked
returns c =
    let a = c.args in
    let v = value-verdict _ _ (sym c.in_ok-slot.ensures) in
    answer-given (then-decided (timely_checks a.s a.current a.f) _ tt c.in_ok-untimely.ensures (sym v.0)) refl
    (ap₂ (λ (k : ℕ) (w : ℤ). record { slot = k; word = w }) (sym v.1) (search rules))
