-- Runs of bytes, from one offset to another: of bytes that pass a test, of a name, and of bytes that agree with others. Assumes nothing.
use Rattle.std.specs.Prelude.{◌≡◌, Bool, true, false, List, [], ◌∷◌, ◌++◌, ℕ, ◌+◌, ◌-◌, ◌≤◌, ◌<◌, length, get_or, take, drop}
use Rattle.model.specs.Fields.{name_ok}
use Rattle.written_plans.specs.Reading.{begins_name}

-- the bytes from one offset to another
abbrev pub part : List ℕ → ℕ → ℕ → List ℕ
part s a e = take (e - a) (drop a s)

-- all bytes from `at` to `end` pass the test, and the one at `end`, if there is one, does not
pub record Skipped (test : ℕ → Bool) (s : List ℕ) (at end : ℕ) : Type 0 where
  pub onward : at ≤ end
  pub within : end ≤ length s
  pub passed : (i : ℕ) → at ≤ i → i < end → test (get_or s i 0) ≡ true
  pub stopped : end < length s → test (get_or s end 0) ≡ false

-- the bytes from `at` to `end` are a name, or nothing, and no name begins with these and the byte at `end`, if there is one
pub record NameEnds (s : List ℕ) (at end : ℕ) : Type 0 where
  pub onward : at ≤ end
  pub within : end ≤ length s
  pub begun : (i : ℕ) → at < i → i ≤ end → begins_name (part s at i) ≡ true
  pub whole : at < end → name_ok (part s at end) ≡ true
  pub stopped : end < length s → begins_name (part s at end ++ (get_or s end 0 ∷ [])) ≡ false

-- the bytes from `at` to `stop` agree with those from `from` on, which end at `end`; they are all of these, or the one at `stop`, if there
-- is one, does not agree
pub record Agrees (s : List ℕ) (from end at stop : ℕ) : Type 0 where
  pub onward : at ≤ stop
  pub within : stop ≤ length s
  pub not_beyond : from + (stop - at) ≤ end
  pub passed : (i : ℕ) → i < stop - at → get_or s (at + i) 0 ≡ get_or s (from + i) 0
  pub stopped : from + (stop - at) < end → stop < length s → get_or s stop 0 ≡ get_or s (from + (stop - at)) 0 → ⊥
