-- What no verdict on what an exchange is given tells.
use Prim.Native.Nat.{ℕ, ◌<◌}
use mathlib.Core.Path.{◌≡◌, refl, sym, ap₂, ◌∙◌}
use mathlib.Core.Bool.{Bool, true, false, true≢false, and-eq-true_iff}
use mathlib.Core.List.{List, ◌++◌}
use lib.Dec.{eqb}
use lib.IntN.{ℤ}
use lib.ListN.{length}
use mir.Syntax.{w32}
use mir.Val.{SFits}
use borrow.Author.Tests.{not-false, eqb-true}
use Rattle.ground.specs.Checks.{verdict}
use Rattle.ground.proofs.Bits.{back, back_is}
use Rattle.ground.proofs.Verdicts.{no_verdict, no_verdicts}
use Rattle.words.specs.Word.{kind_of}
use Rattle.words.specs.declared.Kind.{Kind}
use Rattle.words.specs.declared.Kind.TheVariants.{Ordinary, Missing, Bad}
use Rattle.settings.specs.Settings.{turn_checks, settings_checks}
use Rattle.settings.specs.declared.Rack.{Rack}
use Rattle.settings.specs.declared.Turn.{Turn}
use Rattle.settings.specs.declared.Settings.{Settings}
use Rattle.settings.proofs.Good.{GoodTurn, Good, turn_good, settings_good, fits_ten}
use Rattle.exchange.specs.Asked.{table_words, inputs_long, statuses_bad, is_ordinary, value_checks, card_checks}
use Rattle.exchange.specs.Sending.{Deals}

ordinary : (k : Kind) → is_ordinary k ≡ true → k ≡ Ordinary
ordinary Ordinary e = refl
ordinary (Missing w) e = absurd (true≢false (sym e))
ordinary Bad e = absurd (true≢false (sym e))

-- the lengths are right, no status byte is bad, and the sender's value is ordinary
pub values_asked : (rack : Rack) (x : ℤ) (statuses : List ℕ) (long : Bool) → verdict (value_checks rack x statuses long) ≡ 0 → (long ≡ true) × (statuses_bad rack statuses ≡ false) × (kind_of x ≡ Ordinary)
values_asked rack x statuses long e =
    let none = no_verdict (value_checks rack x statuses long) tt e in
    (not-false long none.0, none.1.0, ordinary (kind_of x) (not-false _ none.1.1.0))

pub inputs_asked : (statuses : List ℕ) (words : List ℤ) → inputs_long statuses words ≡ true → (length statuses ≡ 10) × (length words ≡ table_words)
inputs_asked statuses words e =
    let both = (and-eq-true_iff (eqb (length statuses) 10) (eqb (length words) table_words)).0 e in
    (eqb-true _ 10 both.0, eqb-true _ table_words both.1)

-- settings and an exchange's inputs that are not refused
pub card-asked : (s : Settings) (x : ℤ) (statuses : List ℕ) (long : Bool) → verdict (card_checks s x statuses long) ≡ 0 → Good s × (long ≡ true)
card-asked s x statuses long e =
    let both = no_verdicts (settings_checks s) _ tt e in
    (settings_good s both.0, (values_asked s.rack x statuses long both.1).0)

-- the same of a call for all answers
pub turn-asked : (turn : Turn) (x : ℤ) (statuses : List ℕ) (long : Bool) → verdict (turn_checks turn ++ value_checks turn.rack x statuses long) ≡ 0 → GoodTurn turn × (long ≡ true)
turn-asked turn x statuses long e =
    let both = no_verdicts (turn_checks turn) _ tt e in
    (turn_good turn both.0, (values_asked turn.rack x statuses long both.1).0)

-- what a dealing is asked
pub deals : (turn : Turn) (statuses : List ℕ) (words : List ℤ) → GoodTurn turn → inputs_long statuses words ≡ true → Deals turn.t statuses words
deals turn statuses words g e =
    let long = inputs_asked statuses words e in
    record { sender = fits_ten turn.rack g.rack.few turn.t g.sender; statuses_long = long.0; table_long = long.1 }

-- the own card is one of the ten
pub own-card : (s : Settings) → Good s → s.p < 10
own-card s g = fits_ten s.rack g.turn.rack.few s.p g.own

-- the verdict as a caller has it, with the value read back from its bits
pub card-verdict : (s : Settings) (statuses : List ℕ) {x : ℤ} {b long : Bool} {k : ℕ} → SFits w32 x → b ≡ long → k ≡ verdict (card_checks s (back x) statuses b) → k ≡ verdict (card_checks s x statuses long)
card-verdict s statuses f e h = h ∙ ap₂ (λ (x : ℤ) (b : Bool). verdict (card_checks s x statuses b)) (back_is f) e
