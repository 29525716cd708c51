-- What a walk shall tell by words leaves nothing open: two answers that tell it are one. Assumes nothing.
use mathlib.Core.Path.{◌≡◌, refl, sym, ap, ◌∙◌, subst}
use mathlib.Core.Logic.{◌⊎◌, inl, inr}
use mathlib.Core.Bool.{false}
use mathlib.Core.List.{List, [], ◌∷◌, ◌++◌}
use Prim.Native.Nat.{ℕ, ◌≤◌}
use native.Mathlib.Omega.{arith}
use lib.Count.{ones}
use lib.ListN.{length, take}
use lib.Seq.{take-append_seam}
use Rattle.base.specs.Limits.{admitted, on_the_way, stops}
use Rattle.base.proofs.Bits.{bits_told}
use Rattle.model.specs.Tables.{State, Told, told, admits}
use Rattle.model.specs.Classes.{Word}
use Rattle.endings.specs.Words.{BeginsAdmitted, TellsByWords}

-- two beginnings of one row, equally long, are one
same-beginning :
    (row u v more rest : Word) → u ++ more ≡ row → v ++ rest ≡ row → length u ≤ length v → length v ≤ length u → u ≡ v
same-beginning row u v more rest e f no_longer no_shorter =
    let size : length u ≡ length v = omega arith in
    sym (take-append_seam u more) ∙ ap (take (length u)) (e ∙ sym f) ∙ ap (λ (n : ℕ). take n (v ++ rest)) size
    ∙ take-append_seam v rest

module _ (states : List State) (row : Word) (a b : Told) (this : TellsByWords states row a) (that : TellsByWords states row b) where
  -- one outcome
  same_outcome : a.outcome ≡ b.outcome
  same_outcome = go this.one_of_three
    where
      go : (a.outcome ≡ admitted) ⊎ ((a.outcome ≡ on_the_way) ⊎ (a.outcome ≡ stops)) → a.outcome ≡ b.outcome
      go (inl e) = e ∙ sym (that.admitted_where.1 (this.admitted_where.0 e))
      go (inr (inl e)) = e ∙ sym (that.on_the_way_where.1 (this.on_the_way_where.0 e))
      go (inr (inr e)) = e ∙ sym (that.stops_where.1 (this.stops_where.0 e))

  -- one beginning, whether a row is admitted or none
  same-front : BeginsAdmitted states [] ⊎ ((w : Word) → admits states w ≡ false) → a.beginning ≡ b.beginning
  same-front (inl begins) =
      same-beginning row a.beginning b.beginning this.of_row.0 that.of_row.0 this.of_row.1 that.of_row.1
      (that.longest a.beginning this.of_row.0 this.of_row.1 (this.longest [] row refl begins).0).1
      (this.longest b.beginning that.of_row.0 that.of_row.1 (that.longest [] row refl begins).0).1
  same-front (inr none) = this.empty_where none ∙ sym (that.empty_where none)

  -- one set of next names, since the beginning is one
  same_names : a.beginning ≡ b.beginning → a.next_names ≡ b.next_names
  same_names front = bits_told a.next_names b.next_names (λ x. (
    λ h. (that.next_where x).1 (subst (λ (u : Word). BeginsAdmitted states (u ++ (x ∷ []))) front ((this.next_where x).0 h)),
    λ h. (this.next_where x).1 (subst (λ (u : Word). BeginsAdmitted states (u ++ (x ∷ []))) (sym front) ((that.next_where x).0 h)),
  ))

  -- so one answer
  pub one_told : BeginsAdmitted states [] ⊎ ((w : Word) → admits states w ≡ false) → a ≡ b
  one_told some_or_none =
      let front = same-front some_or_none in
      let names = same_names front in
      let count : a.next_count ≡ b.next_count = this.how_many_fact ∙ ap ones names ∙ sym that.how_many_fact in
      λ i. told (same_outcome i) (front i) (names i) (count i)
