-- Laws of writings: nothing written, bytes stored one by one, what stands before and after, two writings one after the other, a writing
-- from 0, the length kept, a writing or a byte in front, a copy's next byte; then of what the functions give back. Assumes nothing.
use mathlib.Core.Path.{◌≡◌, sym, ap, ◌∙◌}
use mathlib.Core.List.{List, [], ◌∷◌, ◌++◌, append_assoc}
use Prim.Native.Nat.{ℕ, suc, ◌+◌, ◌≤◌, ◌<◌}
use native.Mathlib.Nat.{add-zero, zero-add}
use native.Mathlib.Omega.{arith}
use lib.ListN.{length, set, take, drop, length-append, length-drop, take-append-drop}
use lib.Seq.{sets, sets-eq, take_at, drop_at, take-append-le, take-take, drop-drop, length-take-le}
use Rattle.writing.specs.Writing.{Written, Fits, Put}

-- nothing written: the output as it was
pub none_written : (out : List ℕ) (at : ℕ) → Written out out at []
none_written out at = record { becomes = rw (add-zero, take-append-drop) }

-- bytes that fit, stored one by one from `at` on
pub stores_written : (bytes out : List ℕ) (at : ℕ) → at + length bytes ≤ length out → Written out (sets out at bytes) at bytes
stores_written bytes out at fits =
    record { becomes = sets-eq bytes out at fits ∙ append_assoc (take at out) bytes (drop (at + length bytes) out) }

-- one byte
pub byte_written : (out : List ℕ) (at b : ℕ) → at < length out → Written out (set out at b) at (b ∷ [])
byte_written out at b fits = stores_written (b ∷ []) out at (omega arith)

-- the bytes written, with all that stands before them, are so many
head-length : (out bytes : List ℕ) (at : ℕ) → at ≤ length out → length (take at out ++ bytes) ≡ at + length bytes
head-length out bytes at fits = omega (arith, length-append (take at out) bytes, length-take-le at out fits)

-- the output in two: up to the end of the bytes, and after them
in_two :
    {out out' : List ℕ} {at : ℕ} {bytes : List ℕ} → Written out out' at bytes →
    out' ≡ (take at out ++ bytes) ++ drop (at + length bytes) out
in_two {out} {out'} {at} {bytes} w = w.becomes ∙ sym (append_assoc (take at out) bytes (drop (at + length bytes) out))

-- up to the end of the bytes the output has what it had before them, and the bytes
pub written-take :
    {out out' : List ℕ} {at : ℕ} {bytes : List ℕ} → Written out out' at bytes → at ≤ length out →
    take (at + length bytes) out' ≡ take at out ++ bytes
written-take {out} {out'} {at} {bytes} w fits =
    ap (λ (l : List ℕ). take (at + length bytes) l) (in_two w)
    ∙ take_at (take at out ++ bytes) (drop (at + length bytes) out) (at + length bytes) (head-length out bytes at fits)

-- after the bytes it has what it had there
pub written-drop :
    {out out' : List ℕ} {at : ℕ} {bytes : List ℕ} → Written out out' at bytes → at ≤ length out →
    drop (at + length bytes) out' ≡ drop (at + length bytes) out
written-drop {out} {out'} {at} {bytes} w fits =
    ap (λ (l : List ℕ). drop (at + length bytes) l) (in_two w)
    ∙ drop_at (take at out ++ bytes) (drop (at + length bytes) out) (at + length bytes) (head-length out bytes at fits)

-- and further on
pub written-drop_more :
    {out out' : List ℕ} {at : ℕ} {bytes : List ℕ} (n : ℕ) → Written out out' at bytes → at ≤ length out →
    drop (at + length bytes + n) out' ≡ drop (at + length bytes + n) out
written-drop_more {out} {out'} {at} {bytes} n w fits =
    sym (drop-drop n (at + length bytes) out')
    ∙ ap (λ (l : List ℕ). drop n l) (written-drop w fits)
    ∙ drop-drop n (at + length bytes) out

-- two writings one after the other are one writing of the appended bytes
pub written-append :
    {out mid out' : List ℕ} {at next : ℕ} {xs ys : List ℕ} →
    Written out mid at xs → Written mid out' next ys → next ≡ at + length xs → at ≤ length out → Written out out' at (xs ++ ys)
written-append {out} {mid} {out'} {at} {next} {xs} {ys} v w e fits =
    let far : at + length xs + length ys ≡ at + length (xs ++ ys) = omega (arith, length-append xs ys) in
    let rest = drop (at + length xs + length ys) out in
    record {
      becomes =
          w.becomes
          ∙ ap (λ (n : ℕ). take n mid ++ (ys ++ drop (n + length ys) mid)) e
          ∙ ap (λ (l : List ℕ). l ++ (ys ++ drop (at + length xs + length ys) mid)) (written-take v fits)
          ∙ ap (λ (l : List ℕ). (take at out ++ xs) ++ (ys ++ l)) (written-drop_more (length ys) v fits)
          ∙ append_assoc (take at out) xs (ys ++ rest)
          ∙ ap (λ (l : List ℕ). take at out ++ l) (sym (append_assoc xs ys rest))
          ∙ ap (λ (n : ℕ). take at out ++ ((xs ++ ys) ++ drop n out)) far;
    }

-- a writing from 0 is the bytes and what stood after them
pub written-from_zero : {out out' bytes : List ℕ} → Written out out' 0 bytes → out' ≡ bytes ++ drop (length bytes) out
written-from_zero {out} {out'} {bytes} w = w.becomes ∙ ap (λ (n : ℕ). bytes ++ drop n out) (zero-add (length bytes))

-- a writing that fits keeps the length
pub written-length :
    {out out' : List ℕ} {at : ℕ} {bytes : List ℕ} → Written out out' at bytes → at + length bytes ≤ length out →
    length out' ≡ length out
written-length {out} {out'} {at} {bytes} w fits =
    let rest = drop (at + length bytes) out in
    omega (
      arith,
      ap length w.becomes,
      length-append (take at out) (bytes ++ rest),
      length-append bytes rest,
      length-take-le at out (omega arith),
      length-drop (at + length bytes) out,
    )

-- a writing in front of one that is there already makes one writing of both
pub written-before :
    {out mid out' : List ℕ} {at next : ℕ} {xs ys : List ℕ} →
    Written out mid next ys → Written mid out' at xs → next ≡ at + length xs → next ≤ length out → Written out out' at (xs ++ ys)
written-before {out} {mid} {out'} {at} {next} {xs} {ys} v w e fits =
    let rest = drop (next + length ys) out in
    let size : length (take next out) ≡ next = length-take-le next out fits in
    let far : next + length ys ≡ at + length (xs ++ ys) = omega (arith, length-append xs ys) in
    record {
      becomes =
          w.becomes
          ∙ ap (λ (n : ℕ). take at mid ++ (xs ++ drop n mid)) (sym e)
          ∙ ap (λ (l : List ℕ). take at l ++ (xs ++ drop next l)) v.becomes
          ∙ ap (λ (l : List ℕ). take at (take next out ++ (ys ++ rest)) ++ (xs ++ l)) (drop_at (take next out) (ys ++ rest) next size)
          ∙ ap (λ (l : List ℕ). l ++ (xs ++ (ys ++ rest)))
          (take-append-le at (take next out) (ys ++ rest) (omega arith) ∙ take-take at next out (omega arith))
          ∙ ap (λ (l : List ℕ). take at out ++ l) (sym (append_assoc xs ys rest))
          ∙ ap (λ (n : ℕ). take at out ++ ((xs ++ ys) ++ drop n out)) far;
    }

-- a byte in front of what was written
pub byte_before :
    {out mid : List ℕ} {at : ℕ} {bytes : List ℕ} (b : ℕ) → Written out mid (suc at) bytes → at < length out →
    Written out (set mid at b) at (b ∷ bytes)
byte_before {out} {mid} {at} {bytes} b w fits =
    let rest = bytes ++ drop (suc at + length bytes) out in
    let low : at < length mid =
    omega (arith, ap length w.becomes, length-append (take (suc at) out) rest, length-take-le (suc at) out (omega arith)) in
    written-before w (byte_written mid at b low) (omega arith) (omega arith)

-- ---- of what the functions give back

-- nothing put
pub put_none : (out : List ℕ) (at : ℕ) → Put out out at [] at
put_none out at = record { written = none_written out at; ends = sym (add-zero at) }

-- two functions one after the other give what one would give for the appended bytes
pub put_append :
    {out mid out' : List ℕ} {at next after : ℕ} {xs ys : List ℕ} →
    Put out mid at xs next → Put mid out' next ys after → at ≤ length out → Put out out' at (xs ++ ys) after
put_append {out} {mid} {out'} {at} {next} {after} {xs} {ys} p q fits =
    let e : next ≡ at + length xs = p.ends in
    let f : after ≡ next + length ys = q.ends in
    record {
      written = written-append p.written q.written e fits;
      ends = omega (arith, length-append xs ys);
    }

-- and so do two functions of which the second writes in front of the first
pub put_before :
    {out mid out' : List ℕ} {at next after end : ℕ} {xs ys : List ℕ} →
    Put out mid next ys end → Put mid out' at xs after → next ≡ at + length xs → next ≤ length out → Put out out' at (xs ++ ys) end
put_before {out} {mid} {out'} {at} {next} {after} {end} {xs} {ys} p q e fits =
    record {
      written = written-before p.written q.written e fits;
      ends = omega (arith, p.ends, length-append xs ys);
    }

-- what fits keeps the length
pub put_length :
    {out out' : List ℕ} {at : ℕ} {bytes : List ℕ} {after : ℕ} → Put out out' at bytes after → Fits out at bytes →
    length out' ≡ length out
put_length p fits = written-length p.written fits
