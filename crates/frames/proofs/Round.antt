-- What is written reads back, and what reads was written so.
use Prim.Native.Nat.{ℕ, zero, suc, ◌^◌, ◌<◌}
use mathlib.Core.Path.{◌≡◌, refl, sym, ap, subst, ◌∙◌}
use mathlib.Core.Logic.{◌↔◌}
use mathlib.Core.Bool.{Bool, true, false, cond, not, true≢false}
use mathlib.Core.List.{List, [], ◌∷◌}
use native.Mathlib.Omega.{arith}
use borrow.Author.Tests.{eq-eqb, not-false}
use lib.ListN.{length}
use Rattle.ground.specs.Checks.{verdict, NoneOf}
use Rattle.ground.specs.Answer.{value, refused, answer, after, outcome_by}
use Rattle.ground.specs.Lists.{table}
use Rattle.ground.specs.Bytes.{byte, AllBytes, starts, be16, be32, bytes16, bytes32, bits32, signed32}
use Rattle.ground.proofs.Verdicts.{none-verdict, no_verdict}
use Rattle.ground.proofs.Answers.{answer-given, value-verdict}
use Rattle.ground.proofs.Lists.{is_table}
use Rattle.ground.proofs.Numbers.{join16, join32, bytes-be16, bytes-be32, be16_low, be32_low, mark-bytes}
use Rattle.ground.proofs.Twos.{bits_low, signed_fits, signed_bits, bits_signed}
use Rattle.frames.specs.Frame.{mark, version, InRange, frame_of, bytes_of, well_formed}
use Rattle.frames.specs.Asked.{read_checks, write_checks, read_asked, write_asked}
use Rattle.frames.specs.declared.Frame.{Frame}
use Rattle.frames.proofs.Asking.{Passed, passed_all}

-- ---- from a record to its frame and back

pub length-bytes : (f : Frame) → length (bytes_of f) ≡ 17
unfolding bytes_of bytes16 bytes32
length-bytes f = refl

module _ (f : Frame) (r : InRange f) where
  frame-bytes : frame_of (bytes_of f) ≡ f
  unfolding frame_of bytes_of bytes16 bytes32 be16 be32
  frame-bytes = λ i. record {
    exchange = join16 f.exchange i;
    sender = f.sender;
    level = f.level;
    q1 = f.q1;
    q2 = f.q2;
    q3 = f.q3;
    receiver = f.receiver;
    word = (ap signed32 (join32 (bits32 f.word)) ∙ signed_bits f.word r.word) i;
  }

  pub reads_back : well_formed f ≡ true → read_asked (bytes_of f) ≡ value f
  unfolding read_asked bytes_of bytes16 bytes32 starts be16
  reads_back w =
      let none : NoneOf (read_checks (bytes_of f)) = (refl, (refl, (refl, (ap not (ap well_formed frame-bytes ∙ w), tt)))) in
      sym (answer-given (sym (none-verdict (read_checks (bytes_of f)) none)) refl (sym frame-bytes))

  -- what `write` leaves where it is done reads back
  pub written_reads : (buffer : List ℕ) → (write_asked f buffer).yields ≡ value tt → read_asked (write_asked f buffer).leaves ≡ value f
  unfolding write_asked outcome_by after
  written_reads buffer e =
      let v = (value-verdict tt (verdict (write_checks f buffer)) e).0 in
      rw v (reads_back (not-false _ (no_verdict (write_checks f buffer) tt v).1.0))

-- ---- from a frame to its record and back

version-bytes : bytes16 version ≡ 0 ∷ 1 ∷ []
unfolding bytes16
version-bytes = refl

module _ (l : List ℕ) (b : AllBytes l) where
  by_places : Passed l → table 17 0 (byte l) ≡ bytes_of (frame_of l)
  unfolding table bytes_of frame_of
  by_places p =
      let m = mark-bytes l mark p.marked in
      let v = sym (bytes-be16 l b 3) ∙ ap bytes16 p.versioned ∙ version-bytes in
      let v3 : byte l 3 ≡ 0 = cc v in
      let v4 : byte l 4 ≡ 1 = cc v in
      rw (m.0, m.1, m.2, v3, v4, version-bytes, bytes-be16 l b 5, bits_signed (be32 l 13) (be32_low l b 13), bytes-be32 l b 13)

  pub written_so : (f : Frame) → read_asked l ≡ value f → l ≡ bytes_of f
  unfolding read_asked
  written_so f e =
      let a = value-verdict (frame_of l) (verdict (read_checks l)) e in
      let p = passed_all l a.0 in
      is_table 17 (byte l) 0 l p.size (λ i h. refl) ∙ by_places p ∙ ap bytes_of a.1

-- each record has one frame
pub one_frame : (l m : List ℕ) → AllBytes l → AllBytes m → (f : Frame) → read_asked l ≡ value f → read_asked m ≡ value f → l ≡ m
one_frame l m b c f p q = written_so l b f p ∙ sym (written_so m c f q)

-- ---- a record in range has bytes, and bytes a record in range

no_bytes : AllBytes []
no_bytes = record { at = λ k. omega arith }

more_bytes : {x : ℕ} {l : List ℕ} → x < 256 → AllBytes l → AllBytes (x ∷ l)
more_bytes {x} {l} h b = record { at = go }
  where
    go : (k : ℕ) → byte (x ∷ l) k < 256
    go zero = h
    go (suc k) = b.at k

pub all-bytes : (f : Frame) → InRange f → AllBytes (bytes_of f)
unfolding bytes_of bytes16 bytes32
all-bytes f r =
    let w : bits32 f.word < 2 ^ 32 = bits_low f.word r.word in
    more_bytes (omega arith) (more_bytes (omega arith) (more_bytes (omega arith) (more_bytes (omega arith) (more_bytes (omega arith) (
    more_bytes (omega arith) (more_bytes (omega arith) (more_bytes (omega arith) (more_bytes (omega arith) (more_bytes (omega arith) (
    more_bytes (omega arith) (more_bytes (omega arith) (more_bytes (omega arith) (more_bytes (omega arith) (more_bytes (omega arith) (
    more_bytes (omega arith) (more_bytes (omega arith) no_bytes))))))))))))))))

pub in_range : (l : List ℕ) → AllBytes l → InRange (frame_of l)
unfolding frame_of
in_range l b = record {
  exchange = be16_low l b 5;
  sender = b.at 7;
  level = b.at 8;
  q1 = b.at 9;
  q2 = b.at 10;
  q3 = b.at 11;
  receiver = b.at 12;
  word = signed_fits (be32 l 13) (be32_low l b 13);
}

-- what reads is well formed, with its fields in range
pub read_good : (l : List ℕ) → AllBytes l → (f : Frame) → read_asked l ≡ value f → InRange f × (well_formed f ≡ true)
unfolding read_asked
read_good l b f e =
    let a = value-verdict (frame_of l) (verdict (read_checks l)) e in
    (subst InRange a.1 (in_range l b), ap well_formed (sym a.1) ∙ (passed_all l a.0).formed)

-- ---- what the writer refuses

pub refused_unread : (f : Frame) (buffer : List ℕ) → InRange f → length buffer ≡ 17 → ((write_asked f buffer).yields ≡ refused 14) ↔ ((l : List ℕ) → AllBytes l → read_asked l ≡ value f → ⊥)
unfolding write_asked outcome_by verdict answer
refused_unread f buffer r n = rw (eq-eqb (length buffer) 17 n) (go (well_formed f) refl)
  where
    go : (w : Bool) → well_formed f ≡ w → (answer (cond (not w) 14 0) (tt {0}) ≡ refused 14) ↔ ((l : List ℕ) → AllBytes l → read_asked l ≡ value f → ⊥)
    go true w = (
      λ e. let z : ◌≡◌ {A = ℕ} 0 1 = cc e in absurd (omega arith),
      λ h. absurd (h (bytes_of f) (all-bytes f r) (reads_back f r w)),
    )
    go false w = (λ e l b q. true≢false (sym (read_good l b f q).1 ∙ w), λ h. refl)
