-- Bytes written piece by piece: what is left of them at the start, after one more piece, and at the end. Assumes nothing.
use mathlib.Core.Path.{◌≡◌, refl, sym, ap, ◌∙◌, subst}
use mathlib.Core.List.{List, [], ◌++◌, append-nil, append_assoc}
use Prim.Native.Nat.{ℕ, ◌+◌, ◌≤◌}
use native.Mathlib.Omega.{arith}
use lib.ListN.{length, length-append}
use Rattle.writing.specs.Writing.{Fits, Put}
use Rattle.writing.proofs.WritingLaws.{put_none, put_append, put_length}

-- of the bytes to be written from `at` on, those before `end` are written, and these are left
pub record BytesLeft (out₀ out : List ℕ) (at end : ℕ) (bytes left : List ℕ) : Type 0 where
  pub done : List ℕ
  pub whole : bytes ≡ done ++ left
  pub put : Put out₀ out at done end

pub left-all : (out : List ℕ) (at : ℕ) (bytes : List ℕ) → BytesLeft out out at at bytes bytes
left-all out at bytes = record { done = []; whole = refl; put = put_none out at }

module _ {out₀ mid : List ℕ} {at end : ℕ} {bytes left : List ℕ} (r : BytesLeft out₀ mid at end bytes left) where
  sizes : length bytes ≡ length r.done + length left
  sizes = ap length r.whole ∙ length-append r.done left

  -- one more piece
  pub left-more :
      (xs ys out : List ℕ) (after : ℕ) → left ≡ xs ++ ys → Put mid out end xs after → at ≤ length out₀ →
      BytesLeft out₀ out at after bytes ys
  left-more xs ys out after e p fits =
      record {
        done = r.done ++ xs;
        whole = r.whole ∙ ap (λ (l : List ℕ). r.done ++ l) e ∙ sym (append_assoc r.done xs ys);
        put = put_append r.put p fits;
      }

  -- the output keeps its length
  pub left-length : Fits out₀ at bytes → length mid ≡ length out₀
  left-length fits = put_length r.put (omega (arith, sizes))

  -- and the next piece fits
  pub left-room : (xs ys : List ℕ) → left ≡ xs ++ ys → Fits out₀ at bytes → Fits mid end xs
  left-room xs ys e fits =
      omega (arith, sizes, left-length fits, r.put.ends, ap length e, length-append xs ys)

  pub left-none : left ≡ [] → Put out₀ mid at bytes end
  left-none e =
      let done-is : bytes ≡ r.done = r.whole ∙ ap (λ (l : List ℕ). r.done ++ l) e ∙ append-nil r.done in
      subst (λ (l : List ℕ). Put out₀ mid at l end) (sym done-is) r.put
