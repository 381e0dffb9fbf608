-- `files::exceptions_bad` meets its contract: some exception is bad.
use Prim.Native.Nat.{ℕ, zero, suc}
use mathlib.Core.Path.{◌≡◌, refl, ◌∙◌}
use mathlib.Core.Bool.{Bool}
use native.Mathlib.Numerals.{add-one}
use Rattle.std.proofs.Common.{rules, tests, arith}
use Rattle.std.specs.List.{list_any, range_with_len}
use Rattle.std.proofs.lemmas.Iterator.{YieldsList-from_range}
use Rattle.std.proofs.lemmas.Iterator.Search.{any_from_yields_List}
use Rattle.ground.specs.Lists.{table, some_of}
use Rattle.files.specs.File.{exceptions, exception_bad}
use Rattle.files.proofs.exceptions_bad.Goals as goal

-- some of the n numbers from s on passes
any_table : (f : ℕ → Bool) (n s : ℕ) → list_any f (range_with_len s n) ≡ some_of (table n s f)
unfolding table some_of
any_table f zero s = refl
any_table f (suc n) s = rw (add-one s, any_table f n (suc s))

pub returns : goal.returns
returns c =
    let file = c.args.file.now in
    any_from_yields_List (exception_bad file) _ _ _ c.any.ensures.ran (YieldsList-from_range 0 _ (exceptions file) refl (omega (arith, c.exceptions.ensures))) (λ x b q k. search (rules, tests))
    ∙ any_table (exception_bad file) (exceptions file) 0
