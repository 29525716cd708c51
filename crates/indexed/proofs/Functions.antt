-- Passes of the rule of f, by number: its values are closed under forks, and for passes against the arcs the key of an arc is
-- the name before the last j, for the seen set the name, apart for arcs that enlarge the set. That the values are f's is of
-- Values, and is passed on here. Assumes nothing.
use mathlib.Core.Path.{◌≡◌, refl, sym, ap, ap₂, ◌∙◌, subst}
use mathlib.Core.Logic.{◌⊎◌, inl, inr}
use mathlib.Core.Bool.{Bool, true, false, beq}
use mathlib.Core.List.{List}
use Prim.Native.Nat.{ℕ, suc, ◌+◌, ◌<◌}
use native.Mathlib.Omega.{arith}
use lib.Dec.{eqb}
use lib.ListN.{get_or}
use Rattle.base.specs.Limits.{name_limit}
use Rattle.base.specs.Lists.{numbers_from}
use Rattle.indexed.specs.Trees.{Arrays, SameSuffix, up}
use Rattle.indexed.specs.Partitions.{Refines, KeyClosed, ForkClosed, BackClosed}
use Rattle.indexed.specs.Passes.{SuffixAlike, NamesAbove, SeenSets, KeysWhere}
use Rattle.base.proofs.Places.{number_at}
use Rattle.indexed.proofs.Keys.{named-not_root}
use Rattle.indexed.proofs.Suffixes.{parent_below, up-below, suffix_cast, suffix_up, suffix_more}
use Rattle.indexed.proofs.Contexts.{suffix_forks}
use Rattle.indexed.proofs.ArcKeys.{seen_forward, seen_before, key_is, keyed}
pub use Rattle.indexed.proofs.Values.{last_classes, seen_classes}

-- the values of f are closed under forks themselves: f of a word with one name more depends on f of the word
pub last_forks :
    (n j : ℕ) (parents names values : List ℕ) → Arrays n parents names → SuffixAlike n j parents names values →
    ForkClosed n parents names values
last_forks n j parents names values arrays by = suffix_forks n parents names arrays j values by

pub seen_forks :
    (n : ℕ) (parents names seen : List ℕ) → SeenSets n parents names seen → ForkClosed n parents names seen
seen_forks n parents names seen sets v w pv pw hv hw same_name one =
    seen_forward n parents names seen sets v w pv pw hv hw same_name one

-- closed against the arcs with keys is closed under the rule, where members of a group agree in f, and the other way round
module _ (n : ℕ) (parents names : List ℕ) (arrays : Arrays n parents names) where
  -- arcs whose keys are their names
  step_back :
      (keys groups : List ℕ) → KeyClosed n (numbers_from n 0) parents keys groups → (v w : ℕ) → v < n → w < n →
      get_or keys v 0 < name_limit → get_or keys v 0 ≡ get_or keys w 0 → get_or groups v 0 ≡ get_or groups w 0 →
      get_or groups (get_or parents v 0) 0 ≡ get_or groups (get_or parents w 0) 0
  step_back keys groups closed v w hv hw below keys-same one =
      closed v w hv hw below keys-same
      (ap (λ (x : ℕ). get_or groups x 0) (number_at n v hv) ∙ one ∙ ap (λ (x : ℕ). get_or groups x 0) (sym (number_at n w hw)))

  -- the groups of two states from those of their numbers
  from-numbers :
      (groups : List ℕ) (v w : ℕ) → v < n → w < n →
      get_or groups (get_or (numbers_from n 0) v 0) 0 ≡ get_or groups (get_or (numbers_from n 0) w 0) 0 →
      get_or groups v 0 ≡ get_or groups w 0
  from-numbers groups v w hv hw one =
      ap (λ (x : ℕ). get_or groups x 0) (sym (number_at n v hv)) ∙ one ∙ ap (λ (x : ℕ). get_or groups x 0) (number_at n w hw)

  -- last j names
  pub last_back :
      (j : ℕ) (values keys groups : List ℕ) → SuffixAlike n j parents names values → NamesAbove n j parents names keys →
      Refines n groups values → KeyClosed n (numbers_from n 0) parents keys groups → BackClosed n parents names values groups
  last_back j values keys groups by above agree closed v w pv pw hv hw same_name same-value one =
      let pv-below : get_or parents v 0 < n = parent_below n parents names arrays v hv in
      let pw-below : get_or parents w 0 < n = parent_below n parents names arrays w hw in
      go ((by.alike (get_or parents v 0) (get_or parents w 0) pv-below pw-below).0 same-value)
    where
      go :
          (get_or parents v 0 ≡ get_or parents w 0) ⊎ SameSuffix parents names j (get_or parents v 0) (get_or parents w 0) →
          get_or groups (get_or parents v 0) 0 ≡ get_or groups (get_or parents w 0) 0
      go (inl e) = ap (λ (x : ℕ). get_or groups x 0) e
      go (inr s) =
          let sum_is : suc j ≡ j + 1 = omega arith in
          let cut : SameSuffix parents names (j + 1) v w =
          suffix_cast n parents names arrays (suc j) (j + 1) v w sum_is (pv, pw, same_name, s) in
          let top : SameSuffix parents names 1 (up parents j v) (up parents j w) =
          suffix_up n parents names arrays j 1 v w cut in
          let below : get_or keys v 0 < name_limit =
          subst (λ (x : ℕ). x < name_limit) (sym (above.above v hv))
          (arrays.name_below (up parents j v) top.0 (up-below n parents (parent_below n parents names arrays) j v hv)) in
          step_back keys groups closed v w hv hw below (above.above v hv ∙ top.2 ∙ sym (above.above w hw)) one

  pub last_keys :
      (j : ℕ) (values keys groups : List ℕ) → SuffixAlike n j parents names values → NamesAbove n j parents names keys →
      Refines n groups values → BackClosed n parents names values groups → KeyClosed n (numbers_from n 0) parents keys groups
  last_keys j values keys groups by above agree closed v w hv hw below keys-same numbers-one =
      let one : get_or groups v 0 ≡ get_or groups w 0 = from-numbers groups v w hv hw numbers-one in
      go one ((by.alike v w hv hw).0 (agree v w hv hw one))
    where
      go :
          get_or groups v 0 ≡ get_or groups w 0 → (v ≡ w) ⊎ SameSuffix parents names j v w →
          get_or groups (get_or parents v 0) 0 ≡ get_or groups (get_or parents w 0) 0
      go one (inl e) = ap (λ (x : ℕ). get_or groups (get_or parents x 0) 0) e
      go one (inr s) =
          let key-v : get_or keys v 0 ≡ get_or names (up parents j v) 0 = above.above v hv in
          let key-w : get_or keys w 0 ≡ get_or names (up parents j w) 0 = above.above w hw in
          let top-v : 0 < up parents j v = named-not_root n parents names arrays (up parents j v) (omega arith) in
          let top-w : 0 < up parents j w = named-not_root n parents names arrays (up parents j w) (omega arith) in
          let long : SameSuffix parents names (suc j) v w =
          suffix_more n parents names arrays j v w s top-v top-w (sym key-v ∙ keys-same ∙ key-w) in
          let pv-below : get_or parents v 0 < n = parent_below n parents names arrays v hv in
          let pw-below : get_or parents w 0 < n = parent_below n parents names arrays w hw in
          closed v w long.0 long.1 hv hw long.2
          ((by.alike (get_or parents v 0) (get_or parents w 0) pv-below pw-below).1 (inr long.3)) one

  -- seen sets: two sets of keys
  pub seen_back :
      (seen enlarging others groups : List ℕ) → SeenSets n parents names seen →
      KeysWhere n true parents names seen enlarging → KeysWhere n false parents names seen others →
      KeyClosed n (numbers_from n 0) parents enlarging groups → KeyClosed n (numbers_from n 0) parents others groups →
      BackClosed n parents names seen groups
  seen_back seen enlarging others groups sets keys keys' closed closed' v w pv pw hv hw same_name parents-same one =
      go (eqb (get_or seen v 0) (get_or seen (get_or parents v 0) 0)) refl
    where
      -- the arc to w enlarges the set where that to v does
      test-same :
          eqb (get_or seen w 0) (get_or seen (get_or parents w 0) 0) ≡ eqb (get_or seen v 0) (get_or seen (get_or parents v 0) 0)
      test-same =
          ap₂ eqb (sym (seen_forward n parents names seen sets v w pv pw hv hw same_name parents-same)) (sym parents-same)

      by-keys :
          (b enlarge : Bool) (ks : List ℕ) → KeysWhere n enlarge parents names seen ks →
          KeyClosed n (numbers_from n 0) parents ks groups → eqb (get_or seen v 0) (get_or seen (get_or parents v 0) 0) ≡ b →
          beq b enlarge ≡ false → get_or groups (get_or parents v 0) 0 ≡ get_or groups (get_or parents w 0) 0
      by-keys b enlarge ks where-keys shut e d =
          let key-v : get_or ks v 0 ≡ get_or names v 0 = key_is n enlarge b parents names seen ks where-keys v pv hv e d in
          let key-w : get_or ks w 0 ≡ get_or names w 0 =
          key_is n enlarge b parents names seen ks where-keys w pw hw (test-same ∙ e) d in
          let below : get_or ks v 0 < name_limit = omega (arith, arrays.name_below v pv hv) in
          step_back ks groups shut v w hv hw below (key-v ∙ same_name ∙ sym key-w) one

      go :
          (b : Bool) → eqb (get_or seen v 0) (get_or seen (get_or parents v 0) 0) ≡ b →
          get_or groups (get_or parents v 0) 0 ≡ get_or groups (get_or parents w 0) 0
      go true e = by-keys true false others keys' closed' e refl
      go false e = by-keys false true enlarging keys closed e refl

  pub seen_keys :
      (enlarge : Bool) (seen keys groups : List ℕ) → SeenSets n parents names seen →
      KeysWhere n enlarge parents names seen keys → Refines n groups seen → BackClosed n parents names seen groups →
      KeyClosed n (numbers_from n 0) parents keys groups
  seen_keys enlarge seen keys groups sets keys-where agree closed v w hv hw below keys-same numbers-one =
      let one : get_or groups v 0 ≡ get_or groups w 0 = from-numbers groups v w hv hw numbers-one in
      let at-v = keyed n enlarge parents names seen keys keys-where v hv below in
      let at-w = keyed n enlarge parents names seen keys keys-where w hw (omega arith) in
      let same_name : get_or names v 0 ≡ get_or names w 0 = sym at-v.named ∙ keys-same ∙ at-w.named in
      let sets_same : get_or seen v 0 ≡ get_or seen w 0 = agree v w hv hw one in
      closed v w at-v.not_root at-w.not_root hv hw same_name
      (seen_before n enlarge parents names seen keys sets v w hv hw at-v at-w same_name sets_same) one
