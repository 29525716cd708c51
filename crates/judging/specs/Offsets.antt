-- Fields by their offsets in a file: the length that the field at an offset states, its bytes, where the next one begins, and the
-- bytes of a run of fields; and a name by its number. Assumes nothing.
use Rattle.std.specs.Prelude.{List, [], ◌∷◌, ℕ, zero, suc, ◌+◌, get_or, drop}
use Rattle.model.specs.Fields.{stated_length, body_of}

-- the length that the field at offset a states
unfoldable pub length_at : List ℕ → ℕ → ℕ
length_at s a = stated_length (drop a s)

-- the bytes of the field at offset a, after its mark and length
unfoldable pub body_at : List ℕ → ℕ → List ℕ
body_at s a = body_of (drop a s)

-- where the field after the one at offset a begins
abbrev pub next_at : List ℕ → ℕ → ℕ
next_at s a = a + (3 + length_at s a)

-- where the i-th field begins, counted from 0, of those that begin at offset a
unfoldable pub offset_at : List ℕ → ℕ → ℕ → ℕ
offset_at s a zero = a
offset_at s a (suc i) = offset_at s (next_at s a) i

-- the bytes of n fields, the first of them at offset a
unfoldable pub fields_at : List ℕ → ℕ → ℕ → List (List ℕ)
fields_at s a zero = []
fields_at s a (suc n) = body_at s a ∷ fields_at s (next_at s a) n

-- the n-th of `count` names, whose fields are the first; empty where there is none
abbrev pub name_at : List ℕ → ℕ → ℕ → List ℕ
name_at s count n = get_or (fields_at s 0 count) n []
