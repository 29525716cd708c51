-- From codes to classes by last names: the classes of equal codes, those of short codes dropped. Then to the partition: the classes
-- of equal codes themselves. Assumes nothing.
use mathlib.Core.Path.{◌≡◌, sym, ap, ◌∙◌}
use mathlib.Core.Logic.{◌⊎◌, ⊎_elim}
use mathlib.Core.List.{List}
use Prim.Native.Nat.{ℕ, ◌<◌, ◌≤◌}
use native.Mathlib.Omega.{arith}
use lib.ListN.{get_or}
use Rattle.base.specs.Limits.{state_limit}
use Rattle.base.proofs.Tests.{decided, tells_ltb}
use Rattle.indexed.specs.Trees.{Arrays, SameSuffix}
use Rattle.indexed.specs.Passes.{SuffixClasses, BySuffix, ByValue}
use Rattle.suffixes.specs.Codes.{least, Coded}
use Rattle.suffixes.specs.Classes.{Dropped}
use Rattle.suffixes.proofs.CodeLaws.{code_alike}
use Rattle.suffixes.proofs.AboveLaws.{codes-alike}

-- the classes of equal codes, those of short codes dropped
module _ (n i : ℕ) (parents names values classes classes' : List ℕ) (arrays : Arrays n parents names)
    (coded : Coded n i parents names values) (by : ByValue n values classes)
    (dropped : Dropped n (least i) values classes classes') where
  long-or-short : (v : ℕ) → (get_or values v 0 < least i) ⊎ (get_or values v 0 < least i → ⊥)
  long-or-short v = decided (tells_ltb (get_or values v 0) (least i))

  -- a state with a class has a code that is not short, and the class of that code
  long : (v : ℕ) → v < n → get_or classes' v 0 < state_limit → least i ≤ get_or values v 0
  long v h few =
      ⊎_elim (λ short. absurd (omega (arith, (dropped.each v h).short short))) (λ not_IsShort. omega arith) (long-or-short v)

  same_class : (v : ℕ) → v < n → least i ≤ get_or values v 0 → get_or classes' v 0 ≡ get_or classes v 0
  same_class v h enough = (dropped.each v h).long enough

  below : (v : ℕ) → v < n → least i ≤ get_or values v 0 → get_or classes' v 0 < state_limit
  below v h enough = omega (arith, same_class v h enough, by.labelled.low v h, arrays.few_states)

  few : (v : ℕ) → v < n → get_or classes' v 0 ≤ state_limit
  few v h =
      ⊎_elim (λ short. omega (arith, (dropped.each v h).short short))
      (λ not_IsShort. omega (arith, below v h (omega arith))) (long-or-short v)

  own : (v : ℕ) → v < n → get_or classes' v 0 < state_limit → get_or classes' (get_or classes' v 0) 0 ≡ get_or classes' v 0
  own v h has =
      let enough : least i ≤ get_or values v 0 = long v h has in
      let same : get_or classes' v 0 ≡ get_or classes v 0 = same_class v h enough in
      let first : get_or classes v 0 < n = omega (arith, by.labelled.low v h) in
      let one_class : get_or classes (get_or classes v 0) 0 ≡ get_or classes v 0 = by.labelled.own v h in
      let one_value : get_or values (get_or classes v 0) 0 ≡ get_or values v 0 = (by.alike (get_or classes v 0) v first h).0 one_class in
      let first-enough : least i ≤ get_or values (get_or classes v 0) 0 = omega arith in
      ap (λ (x : ℕ). get_or classes' x 0) same ∙ same_class (get_or classes v 0) first first-enough ∙ one_class ∙ sym same

  -- one class is one code
  class_suffix :
      (v w : ℕ) → v < n → w < n → (get_or classes' v 0 < state_limit) × (get_or classes' v 0 ≡ get_or classes' w 0) →
      SameSuffix parents names i v w
  class_suffix v w hv hw (has, e) =
      let has-w : get_or classes' w 0 < state_limit = omega arith in
      let enough : least i ≤ get_or values v 0 = long v hv has in
      let one : get_or classes v 0 ≡ get_or classes w 0 =
      sym (same_class v hv enough) ∙ e ∙ same_class w hw (long w hw has-w) in
      let value : get_or values v 0 ≡ get_or values w 0 = (by.alike v w hv hw).0 one in
      (code_alike n parents names arrays i v w hv hw).0
      (omega (arith, coded.each v hv), sym (coded.each v hv) ∙ value ∙ coded.each w hw)

  suffix_class :
      (v w : ℕ) → v < n → w < n → SameSuffix parents names i v w →
      (get_or classes' v 0 < state_limit) × (get_or classes' v 0 ≡ get_or classes' w 0)
  suffix_class v w hv hw s =
      let codes = (code_alike n parents names arrays i v w hv hw).1 s in
      let value : get_or values v 0 ≡ get_or values w 0 = coded.each v hv ∙ codes.1 ∙ sym (coded.each w hw) in
      let enough : least i ≤ get_or values v 0 = omega (arith, coded.each v hv, codes.0) in
      let enough-w : least i ≤ get_or values w 0 = omega arith in
      (below v hv enough, same_class v hv enough ∙ (by.alike v w hv hw).1 value ∙ sym (same_class w hw enough-w))

  pub dropped_classes : SuffixClasses n i parents names classes'
  dropped_classes =
      record {
        size = dropped.size ∙ by.labelled.size;
        few = few;
        low = λ v h has. omega (arith, same_class v h (long v h has), by.labelled.low v h);
        own = own;
        alike = λ v w hv hw. (class_suffix v w hv hw, suffix_class v w hv hw);
      }

-- the classes of equal codes are the partition: a state with fewer names has a code of its own
pub coded_by_suffix :
    (n k : ℕ) (parents names values groups : List ℕ) → Arrays n parents names → Coded n k parents names values →
    ByValue n values groups → BySuffix n k parents names groups
coded_by_suffix n k parents names values groups arrays coded by =
    let codes = codes-alike n k parents names values arrays coded in
    record {
      labelled = by.labelled;
      alike = λ v w hv hw. (
        λ one. (codes.alike v w hv hw).0 ((by.alike v w hv hw).0 one),
        λ same. (by.alike v w hv hw).1 ((codes.alike v w hv hw).1 same),
      );
    }
