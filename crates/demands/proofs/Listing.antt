-- Demand 1 of the listing: its text is a refusal's line exactly where that check is the first that applies, and the cards' lines and the bound's where none does.
use Prim.Native.Nat.{ℕ, zero, suc, ◌+◌, ◌*◌, ◌≤◌, ◌<◌}
use mathlib.Core.Path.{◌≡◌, refl, sym, ap, ◌∙◌}
use mathlib.Core.Bool.{Bool, true, false, cond, ◌&&◌}
use mathlib.Core.List.{List, [], ◌∷◌, ◌++◌, append_assoc}
use native.Mathlib.Omega.{arith}
use lib.Dec.{T, ltb, ltb→lt}
use lib.ListN.{length, get_or, drop}
use Rattle.ground.specs.Checks.{Check, verdict, NoneOf}
use Rattle.ground.specs.Answer.{answer}
use Rattle.ground.specs.Fixes.{Allows}
use Rattle.ground.proofs.Bools.{and_left, and_right}
use Rattle.ground.proofs.Verdicts.{none-verdict}
use Rattle.text.specs.Decimal.{digits_of, decimal_of}
use Rattle.text.proofs.Laws.{reading, reading-last, digits_read}
use Rattle.settings.specs.Settings.{fits}
use Rattle.exchange.specs.Exchange.{statuses_of}
use Rattle.bound.specs.Bound.{bounded}
use Rattle.files.specs.File.{turn_in, statuses, file_checks}
use Rattle.trials.specs.Listing.{line_of, lines, bound_line, refused_line, card_line, listed, text_of}
use Rattle.demands.specs.Refusing.{First}
use Rattle.demands.proofs.Order.{first-verdict, first_of}
use Rattle.trials.proofs.list.Kinds as list
use Rattle.trials.proofs.list.Reads as list_says
use Rattle.omh.proofs.omh_list.Kinds as c_list
use Rattle.omh.proofs.omh_list.Reads as c_list_says

-- ---- what the contracts say of a call: the text's length and bytes, and the places after it untouched

pub list_stores : Allows 2 list.ps list.r list_says.Post (λ κs a x e. let text = text_of a.0.now in (x ≡ length text) × (e.1.0.now ≡ text ++ drop (length text) a.1.0.now))
list_stores κs a x e p = p

pub c_list_stores : Allows 2 c_list.ps c_list.r c_list_says.Post (λ κs a x e. let text = text_of a.0.now in (x ≡ length text) × (e.1.0.now ≡ text ++ drop (length text) a.1.0.now))
c_list_stores κs a x e p = p

-- ---- a refusal's line tells its number

small : List Check → Bool
small [] = true
small (c ∷ cs) = ltb c.number 256 && small cs

verdict_small : (cs : List Check) → T (small cs) → verdict cs < 256
unfolding verdict small
verdict_small [] t = omega arith
verdict_small (c ∷ cs) t = go c.applies (verdict_small cs (and_right (ltb c.number 256) _ t))
  where
    go : (b : Bool) → verdict cs < 256 → cond b c.number (verdict cs) < 256
    go true ih = ltb→lt c.number 256 (and_left (ltb c.number 256) _ t)
    go false ih = ih

-- read as a number, LF and all, the line's end is ten times it
line_number : (k : ℕ) → k < 256 → reading 0 (drop 8 (refused_line k)) ≡ 10 * k
unfolding refused_line decimal_of
line_number k h = reading-last 0 (digits_of 10 k) 10 ∙ omega (arith, digits_read 10 k (omega arith))

line_tells : (j k : ℕ) → j < 256 → k < 256 → refused_line j ≡ refused_line k → j ≡ k
line_tells j k h g e =
    let same : 10 * j ≡ 10 * k = sym (line_number j h) ∙ ap (λ (l : List ℕ). reading 0 (drop 8 l)) e ∙ line_number k g in
    omega arith

-- ---- no other text is one: it begins with a card's digit or with `b`

begins : (passes : ℕ → Bool) (line : ℕ → List ℕ) → ((p : ℕ) (rest : List ℕ) → get_or (line p ++ rest) 0 0 ≡ 48 + p) → (c : ℕ) → c ≤ 10 → (rest : List ℕ) → get_or (lines passes line c ++ rest) 0 0 ≡ 114 → get_or rest 0 0 ≡ 114
unfolding lines
begins passes line digit zero h rest e = e
begins passes line digit (suc c) h rest e = go (passes c) (begins passes line digit c (omega arith) (cond (passes c) (line c) [] ++ rest) (ap (λ (l : List ℕ). get_or l 0 0) (sym (append_assoc (lines passes line c) (cond (passes c) (line c) []) rest)) ∙ e))
  where
    go : (b : Bool) → get_or (cond b (line c) [] ++ rest) 0 0 ≡ 114 → get_or rest 0 0 ≡ 114
    go true q = absurd (omega (arith, digit c rest, q))
    go false q = q

module _ (file : List ℕ) where
  listed_not_refused : (k : ℕ) → listed file ≡ refused_line k → ⊥
  unfolding refused_line line_of bound_line
  listed_not_refused k e = bound_first (bounded (turn_in file).rack (statuses_of (statuses file))) (begins (fits (turn_in file).rack) (card_line file) (λ p rest. refl) 10 (omega arith) _ (ap (λ (l : List ℕ). get_or l 0 0) e))
    where
      bound_first : (b : Bool) → get_or (bound_line b) 0 0 ≡ 114 → ⊥
      bound_first true q = omega arith
      bound_first false q = omega arith

  -- ---- the text

  pub listing_refused : (k : ℕ) → First (file_checks file) (suc k) → text_of file ≡ refused_line (suc k)
  unfolding text_of answer
  listing_refused k f = rw (first-verdict (file_checks file) (suc k) f)

  pub listing_printed : NoneOf (file_checks file) → text_of file ≡ listed file
  unfolding text_of answer
  listing_printed none = rw (none-verdict (file_checks file) none)

  pub listing_only : (k : ℕ) → k < 256 → text_of file ≡ refused_line k → First (file_checks file) k
  unfolding text_of answer small
  listing_only k h e = go (verdict (file_checks file)) refl (verdict_small (file_checks file) tt) e
    where
      go : (v : ℕ) → verdict (file_checks file) ≡ v → v < 256 → text_of file ≡ refused_line k → First (file_checks file) k
      go zero q g e = unfold text_of answer in absurd (listed_not_refused k (rw q at e))
      go (suc v) q g e = unfold text_of answer in (let same : suc v ≡ k = line_tells (suc v) k g h (rw q at e) in first_of (file_checks file) k (q ∙ same) (λ z. omega arith))
