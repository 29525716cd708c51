-- A set of keys that may be missing, as a list: where it is, no state has a key. Assumes nothing.
use Rattle.std.specs.Prelude.{List, ℕ, replicate, Option, None, Some}
use Rattle.base.specs.Limits.{name_limit}

-- the keys, or n numbers that are none
abbrev pub given_keys : ℕ → Option (List ℕ) → List ℕ
given_keys n None = replicate n name_limit
given_keys n (Some keys) = keys
