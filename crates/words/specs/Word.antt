-- Document 01, 'Words': the kinds of a word, reading at a level, wrapping and unwrapping.
use Rattle.std.specs.Prelude.{ℕ, ◌+◌, ◌-◌, Bool, cond, ◌&&◌, leb, ltb, ℤ, pos, neg_ℤ, nat_abs}
use Rattle.std.specs.Int.Signed.{le_z}
use Rattle.words.specs.declared.Kind.{Kind}
use Rattle.words.specs.declared.Kind.TheVariants.{Ordinary, Missing, Bad}

-- missing, wrapped w times
abbrev pub missing : ℕ → ℤ
missing w = pos (1000000000 + w)

-- missing, unwrapped
abbrev pub E : ℤ
E = missing 0

-- lo to hi, both included
abbrev pub within : ℤ → ℤ → ℤ → Bool
within lo hi x = le_z lo x && le_z x hi

-- ordinary; missing, wrapped w times for w from 0 to 3; every other number is bad
unfoldable pub kind_of : ℤ → Kind
kind_of x =
    cond (within (neg_ℤ (pos 999999999)) (pos 999999999) x) Ordinary
    (cond (within (missing 0) (missing 3) x) (Missing (nat_abs x - 1000000000)) Bad)

-- a word of this kind, read at level d: missing with w at most d is itself. A level over 3 reads as level 3, since w is at most 3.
abbrev pub read_as : Kind → ℕ → ℤ → ℤ
read_as Ordinary d x = x
read_as (Missing w) d x = cond (leb w d) x E
read_as Bad d x = E

-- wraps go up by one; a fourth wrap gives E
abbrev pub wrapped_as : Kind → ℤ → ℤ
wrapped_as Ordinary x = x
wrapped_as (Missing w) x = cond (ltb w 3) (missing (w + 1)) E
wrapped_as Bad x = E

-- wraps go down by one; E is E, since 0 - 1 is 0
abbrev pub unwrapped_as : Kind → ℤ → ℤ
unwrapped_as Ordinary x = x
unwrapped_as (Missing w) x = missing (w - 1)
unwrapped_as Bad x = E

unfoldable pub read_at : ℕ → ℤ → ℤ
read_at d x = read_as (kind_of x) d x

unfoldable pub wrapped : ℤ → ℤ
wrapped x = wrapped_as (kind_of x) x

unfoldable pub unwrapped : ℤ → ℤ
unwrapped x = unwrapped_as (kind_of x) x
