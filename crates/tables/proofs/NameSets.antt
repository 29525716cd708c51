-- Sets of names in 64 bits: one more name put into the set. Assumes nothing.
use mathlib.Core.Path.{◌≡◌, sym, ap, ◌∙◌}
use mathlib.Core.List.{List, ◌∷◌}
use Prim.Native.Nat.{ℕ, suc, ◌+◌, ◌*◌, ◌^◌, ◌<◌}
use native.Mathlib.Nat.{one-mul, pow-suc}
use native.Mathlib.Omega.{arith}
use lib.Bits.{bit_or, or_shifted_r}
use Rattle.model.specs.Tables.{Arc, arc, name_set}

-- one more name above those in the set
with_name : {r : ℕ} (names a : ℕ) → names < 2 ^ a → r ≡ bit_or names (2 ^ a) → r ≡ names + 2 ^ a
with_name names a low is =
    is ∙ ap (bit_or names) (sym (one-mul (2 ^ a))) ∙ or_shifted_r 1 a names low ∙ omega arith

pub with_name_small : {r : ℕ} (names a : ℕ) → names < 2 ^ a → r ≡ bit_or names (2 ^ a) → r < 2 ^ suc a
with_name_small names a low is =
    let double : 2 ^ suc a ≡ 2 ^ a * 2 = pow-suc 2 a in
    omega (arith, with_name names a low is)

-- the set so far, with the next arc's name, and the set of the arcs after it
pub name_set-goes :
    {r : ℕ} (names a to : ℕ) (arcs : List Arc) → names < 2 ^ a → r ≡ bit_or names (2 ^ a) →
    r + name_set arcs ≡ names + name_set (arc a to ∷ arcs)
unfolding name_set
name_set-goes names a to arcs low is = omega (arith, with_name names a low is)
