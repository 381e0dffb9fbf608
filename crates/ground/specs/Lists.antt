-- Lists: a place, a table, what goes over cards, and counts.
use Rattle.std.specs.Prelude.{ℕ, zero, suc, ◌*◌, Bool, true, false, cond, ◌&&◌, ◌||◌, List, [], ◌∷◌, ◌++◌, ℤ, pos, get_or, take, drop}

-- the word at place k of a lent list
abbrev pub at : List ℤ → ℕ → ℤ
at l k = get_or l k (pos 0)

-- the part of w places that is number t of a list of such parts
unfoldable pub part : {A : Type 0} → ℕ → ℕ → List A → List A
part w t l = take w (drop (w * t) l)

-- the list with that part replaced, everything else as it was
unfoldable pub with_part : {A : Type 0} → ℕ → ℕ → List A → List A → List A
with_part w t l new = take (w * t) l ++ (new ++ drop w (drop (w * t) l))

-- f at each of the n numbers from s on
unfoldable pub table : {A : Type 0} → ℕ → ℕ → (ℕ → A) → List A
table zero s f = []
table (suc n) s f = f s ∷ table n (suc s) f

-- f of each of the c cards from q on that passes
unfoldable pub over : (ℕ → Bool) → (ℕ → ℤ) → ℕ → ℕ → List ℤ
over passes f zero q = []
over passes f (suc c) q = cond (passes q) (f q ∷ over passes f c (suc q)) (over passes f c (suc q))

-- how many of the c cards from q on pass
unfoldable pub count : (ℕ → Bool) → ℕ → ℕ → ℕ
count passes zero q = 0
count passes (suc c) q = cond (passes q) (suc (count passes c (suc q))) (count passes c (suc q))

-- every number of a list passes
unfoldable pub all : (ℕ → Bool) → List ℕ → Bool
all f [] = true
all f (q ∷ qs) = f q && all f qs

-- one of the tests holds
unfoldable pub some_of : List Bool → Bool
some_of [] = false
some_of (b ∷ bs) = b || some_of bs
