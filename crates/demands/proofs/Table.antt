-- Document 01's cases marked *, proved together over the definitions: every row of the table is right.
use mathlib.Core.Path.{◌≡◌, refl}
use mathlib.Core.Bool.{true}
use Rattle.words.specs.Word.{kind_of, read_at, wrapped, unwrapped}
use Rattle.words.specs.Majority.{same, kept, occurs, over_half, first, majority}
use Rattle.ground.specs.Checks.{verdict}
use Rattle.ground.specs.Answer.{answer}
use Rattle.ground.specs.Lists.{table, over, all}
use Rattle.settings.specs.Settings.{fits}
use Rattle.paths.specs.Slots.{slot_of, level, relays_by, none_of, different, may_relay, live}
use Rattle.paths.specs.Asked.{used, slot_asked, above_asked}
use Rattle.text.specs.Decimal.{digits_of, decimal_of}
use Rattle.vote.specs.Vote.{vote_from, vote_in, vote}
use Rattle.entering.specs.Accepted.{after_e, all_are, agreed, leaves}
use Rattle.ages.specs.Ages.{age_of, class_of}
use Rattle.exchange.specs.Exchange.{sent, dealt_at, received, answer_of}
use Rattle.demands.specs.Worked.{same_text, worked, shown, all_right}

pub table_is_right : all_right worked ≡ true
unfolding worked all_right kind_of read_at wrapped unwrapped same kept occurs over_half first majority slot_of level relays_by all none_of different fits may_relay live table over vote_from vote_in vote age_of class_of sent dealt_at received answer_of
table_is_right = refl

-- and of the further cases
pub further_is_right : all_right shown ≡ true
unfolding shown all_right same same_text slot_of level used all slot_asked above_asked verdict answer digits_of decimal_of leaves after_e all_are agreed
further_is_right = refl
