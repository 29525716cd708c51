-- Texts written piece by piece: what is left of a whole text, from its begin over one piece after the other to its end. Assumes
-- nothing.
use mathlib.Core.Path.{◌≡◌, refl, sym, ap, ◌∙◌, subst}
use mathlib.Core.List.{List, [], ◌++◌, append-nil, append_assoc}
use Prim.Native.Nat.{ℕ, ◌+◌, ◌≤◌}
use native.Mathlib.Nat.{add-zero}
use native.Mathlib.Omega.{arith}
use lib.ListN.{length, length-append}
use Rattle.writing.specs.Writing.{Written, Fits, Put}
use Rattle.writing.proofs.WritingLaws.{none_written, written-append, written-length}

-- of `whole`, which is to stand from `at` on, all is written but `left`, which comes at `next`
pub record Writing (text₀ : List ℕ) (at : ℕ) (whole text : List ℕ) (next : ℕ) (left : List ℕ) : Type 0 where
  pub fits : at + length whole ≤ length text₀
  pub done : List ℕ
  pub written : Written text₀ text at done
  pub ends : next ≡ at + length done
  pub all : done ++ left ≡ whole

pub begins : (text : List ℕ) (at : ℕ) (whole : List ℕ) → Fits text at whole → Writing text at whole text at whole
begins text at whole fits =
    record { fits = fits; done = []; written = none_written text at; ends = sym (add-zero at); all = refl }

module _ {text₀ : List ℕ} {at : ℕ} {whole text : List ℕ} {next : ℕ} where
  parts : {left : List ℕ} (w : Writing text₀ at whole text next left) → length w.done + length left ≡ length whole
  parts {left} w = sym (length-append w.done left) ∙ ap length w.all

  -- the text is as long as it was
  pub keeps_length : {left : List ℕ} → Writing text₀ at whole text next left → length text ≡ length text₀
  keeps_length w = written-length w.written (omega (arith, parts w, w.fits))

  -- there is room for what is left
  pub room_left : {left : List ℕ} → Writing text₀ at whole text next left → Fits text next left
  room_left w = omega (arith, parts w, w.fits, w.ends, keeps_length w)

  -- and so for the first piece of it
  pub room : (piece left : List ℕ) → Writing text₀ at whole text next (piece ++ left) → Fits text next piece
  room piece left w = omega (arith, room_left w, length-append piece left)

  -- the first piece written
  pub goes :
      (piece left : List ℕ) {text' : List ℕ} {after : ℕ} → Writing text₀ at whole text next (piece ++ left) →
      Put text text' next piece after → Writing text₀ at whole text' after left
  goes piece left w p =
      let far = w.ends in
      let end = p.ends in
      record {
        fits = w.fits;
        done = w.done ++ piece;
        written = written-append w.written p.written far (omega (arith, w.fits));
        ends = omega (arith, length-append w.done piece);
        all = append_assoc w.done piece left ∙ w.all;
      }

  -- nothing left
  pub finishes : Writing text₀ at whole text next [] → Put text₀ text at whole next
  finishes w =
      let is : w.done ≡ whole = sym (append-nil w.done) ∙ w.all in
      record {
        written = subst (Written text₀ text at) is w.written;
        ends = w.ends ∙ ap (λ (l : List ℕ). at + length l) is;
      }

  -- the last piece written
  pub ends_with :
      (piece : List ℕ) {text' : List ℕ} {after : ℕ} → Writing text₀ at whole text next piece → Put text text' next piece after →
      Put text₀ text' at whole after
  ends_with piece {text'} {after} w p =
      let far = w.ends in
      let end = p.ends in
      let size = parts w in
      record {
        written = subst (Written text₀ text' at) w.all (written-append w.written p.written far (omega (arith, w.fits)));
        ends = omega arith;
      }
