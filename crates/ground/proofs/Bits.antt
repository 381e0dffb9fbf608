-- A signed local holds bits; what the machine reads back from a word's bits is the word, so a test of the bits is one of the words.
use mathlib.Core.Path.{◌≡◌, sym, ap, ◌∙◌}
use lib.IntN.{ℤ}
use mir.Syntax.{w32}
use mir.Val.{of_z, to_z, SFits}
use mir.ValLaws.{to_z-of_z}

-- what the machine reads back from the bits of x
abbrev pub back : ℤ → ℤ
back x = to_z w32 (of_z w32 x)

module _ {x : ℤ} (f : SFits w32 x) where
  pub back_is : back x ≡ x
  back_is = to_z-of_z w32 x f

  pub bits_eq : {y : ℤ} → SFits w32 y → of_z w32 x ≡ of_z w32 y → x ≡ y
  bits_eq {y} g e = sym back_is ∙ ap (to_z w32) e ∙ to_z-of_z w32 y g
