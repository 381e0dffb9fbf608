-- Laws of the three counts: which statuses each counts, and the bound by them.
use Prim.Native.Nat.{ℕ, ◌+◌, ◌*◌}
use mathlib.Core.Path.{◌≡◌, refl, ap, ◌∙◌}
use mathlib.Core.Bool.{Bool, ◌&&◌}
use lib.Dec.{ltb, leb}
use Rattle.settings.specs.Settings.{cards}
use Rattle.settings.specs.declared.Rack.{Rack}
use Rattle.exchange.specs.declared.Status.{Status}
use Rattle.exchange.specs.declared.Status.TheVariants.{Good, Arbitrary, Symmetric, Manifest}
use Rattle.bound.specs.Bound.{is, is_arbitrary, is_symmetric, is_manifest, those, enough, bounded}

-- two tests are the same where they are of each status
one_test : (f g : Status → Bool) → f Good ≡ g Good → f Arbitrary ≡ g Arbitrary → f Symmetric ≡ g Symmetric → f Manifest ≡ g Manifest → f ≡ g
one_test f g a b c d = λ i s. go s i
  where
    go : (s : Status) → f s ≡ g s
    go Good = a
    go Arbitrary = b
    go Symmetric = c
    go Manifest = d

pub bounded_by : (rack : Rack) (status : ℕ → Status) {a s c n : ℕ} → a ≡ those rack status (is Arbitrary) → s ≡ those rack status (is Symmetric) → c ≡ those rack status (is Manifest) → n ≡ cards rack → (ltb (2 * a + 2 * s + c + rack.m) n && leb a rack.m) ≡ bounded rack status
unfolding bounded enough
bounded_by rack status ea es ec en =
    let those_of = those rack status in
    rw (
      ea ∙ ap those_of (one_test (is Arbitrary) is_arbitrary refl refl refl refl),
      es ∙ ap those_of (one_test (is Symmetric) is_symmetric refl refl refl refl),
      ec ∙ ap those_of (one_test (is Manifest) is_manifest refl refl refl refl),
      en,
    )
