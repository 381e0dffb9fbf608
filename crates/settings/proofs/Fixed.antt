-- Each public function's contract fixes its answer: two answers that it allows are equal.
use Prim.Native.Nat.{ℕ}
use mathlib.Core.Path.{sym, ◌∙◌}
use mathlib.Core.Bool.{Bool}
use mathlib.Core.List.{List}
use Rattle.ground.specs.Fixes.{Fixes}
use Rattle.std.specs.Prelude.{Result}
use Rattle.settings.specs.declared.Settings.{Settings}
use Rattle.ground.specs.declared.refusal.Refusal.{Refusal}
use Rattle.ground.proofs.Answers.{refusal_apart, result_apart}
use Rattle.settings.proofs.Settings.new.Kinds as new
use Rattle.settings.proofs.Settings.new.Reads as new_says
use Rattle.settings.proofs.cards.Kinds as cards
use Rattle.settings.proofs.cards.Reads as cards_says
use Rattle.settings.proofs.fits.Kinds as fits
use Rattle.settings.proofs.fits.Reads as fits_says
use Rattle.settings.proofs.fitted.Kinds as fitted
use Rattle.settings.proofs.fitted.Reads as fitted_says
use Rattle.settings.proofs.rack_refused.Kinds as rack_refused
use Rattle.settings.proofs.rack_refused.Reads as rack_refused_says
use Rattle.settings.proofs.turn_refused.Kinds as turn_refused
use Rattle.settings.proofs.turn_refused.Reads as turn_refused_says
use Rattle.settings.proofs.settings_refused.Kinds as settings_refused
use Rattle.settings.proofs.settings_refused.Reads as settings_refused_says

pub new_fixed : Fixes 0 new.ps new.r new_says.Post (Result Settings Refusal) (λ κs x s. x)
new_fixed κs a x y s t p q = result_apart x y (p ∙ sym q)

pub cards_fixed : Fixes 0 cards.ps cards.r cards_says.Post ℕ (λ κs x s. x)
cards_fixed κs a x y s t p q = p ∙ sym q

pub fits_fixed : Fixes 0 fits.ps fits.r fits_says.Post Bool (λ κs x s. x)
fits_fixed κs a x y s t p q = p ∙ sym q

pub fitted_fixed : Fixes 0 fitted.ps fitted.r fitted_says.Post (List Bool) (λ κs x s. x)
fitted_fixed κs a x y s t p q = p ∙ sym q

pub rack_refused_fixed : Fixes 0 rack_refused.ps rack_refused.r rack_refused_says.Post (Result (Unit {0}) Refusal) (λ κs x s. x)
rack_refused_fixed κs a x y s t p q = refusal_apart x y (p ∙ sym q)

pub turn_refused_fixed : Fixes 0 turn_refused.ps turn_refused.r turn_refused_says.Post (Result (Unit {0}) Refusal) (λ κs x s. x)
turn_refused_fixed κs a x y s t p q = refusal_apart x y (p ∙ sym q)

pub settings_refused_fixed : Fixes 0 settings_refused.ps settings_refused.r settings_refused_says.Post (Result (Unit {0}) Refusal) (λ κs x s. x)
settings_refused_fixed κs a x y s t p q = refusal_apart x y (p ∙ sym q)
