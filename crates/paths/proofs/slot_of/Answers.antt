-- `paths::slot_of` meets its contract: each return is a case of `slot_asked`.
use mathlib.Core.Path.{sym}
use native.Mathlib.Omega.{arith}
use Rattle.paths.proofs.Asking.{slot-deep, over_1, over_2, over_3, at_0, at_1, at_2, at_3}
use Rattle.paths.proofs.slot_of.Goals as goal

pub returns-then-level-gt-MAX_ROUNDS : goal.returns-then-level-gt-MAX_ROUNDS
returns-then-level-gt-MAX_ROUNDS c = sym (slot-deep _ _ _ _ c.if-level-gt-MAX_ROUNDS.true)

pub returns-then-level-eq0 : goal.returns-then-level-eq0
returns-then-level-eq0 c = sym (at_0 _ _ _ _ c.if-level-eq0.true)

pub returns-then-q1-ge-MAX_CARDS : goal.returns-then-q1-ge-MAX_CARDS
returns-then-q1-ge-MAX_CARDS c = sym (over_1 _ _ _ _ c.if-level-gt-MAX_ROUNDS.false c.if-level-eq0.false c.if-q1-ge-MAX_CARDS.true)

pub returns-then-level-eq1 : goal.returns-then-level-eq1
returns-then-level-eq1 c = sym (at_1 _ _ _ _ c.if-level-eq1.true c.if-q1-ge-MAX_CARDS.false)

pub returns-then-q2-ge-MAX_CARDS : goal.returns-then-q2-ge-MAX_CARDS
returns-then-q2-ge-MAX_CARDS c = sym (over_2 _ _ _ _ (omega arith) (omega arith) c.if-q2-ge-MAX_CARDS.true)

pub returns-then-level-eq2 : goal.returns-then-level-eq2
returns-then-level-eq2 c = sym (at_2 _ _ _ _ c.if-level-eq2.true (omega arith) c.if-q2-ge-MAX_CARDS.false)

pub returns-then-q3-ge-MAX_CARDS : goal.returns-then-q3-ge-MAX_CARDS
returns-then-q3-ge-MAX_CARDS c = sym (over_3 _ _ _ _ (omega arith) c.if-q3-ge-MAX_CARDS.true)

pub returns : goal.returns
returns c = sym (at_3 _ _ _ _ (omega arith) (omega arith) (omega arith) c.if-q3-ge-MAX_CARDS.false)
