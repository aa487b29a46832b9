-- One source more in the choice of a pull point's source.
use Rattle.std.proofs.Common.{◌≡◌, ℕ, ◌+◌, ◌<◌, ◌⊎◌, inl, inr, Bool, true, false, cond, List, slice_get, Option, Some, None, refl, ap, sym, ◌∙◌, arith}
use Rattle.std.specs.Cmp.{IsTotalOrder}
use Rattle.std.proofs.lemmas.Cmp.{alike_right, tied_itself}
use Rattle.std.proofs.Math.Nat.{eq-or-lt_of_le}
use Rattle.std.specs.Ordering.{is_lt, ordering_reverse}
use Rattle.std.specs.declared.cmp.Ordering.{Ordering}
use Rattle.std.specs.declared.cmp.Ordering.TheVariants.{Less, Equal, Greater}
use Rattle.std.proofs.lemmas.Cmp.{nat_list_cmp_total, nat_cmp_total, on_total, then_total}
use Rattle.cm_points.specs.declared.point.PullSource.{PullSource}
use Rattle.cm_points.specs.Pulls.{source_cmp, is_before, IsUsable, better, chosen, IsBest}

-- the order of sources is one
pub source_cmp_total : IsTotalOrder source_cmp
source_cmp_total = then_total (on_total (λ (source : PullSource). source.priority) nat_cmp_total) (on_total (λ (source : PullSource). source.point) nat_list_cmp_total)

less : (o : Ordering) → is_lt o ≡ true → o ≡ Less
less Less e = refl
less Equal e = absurd (cc)
less Greater e = absurd (cc)

follows_by : (source held other : PullSource) (o : Ordering) → source_cmp other held ≡ o → source_cmp source held ≡ Less → is_lt o ≡ false → source_cmp source other ≡ Less
follows_by source held other Less e h n = absurd (cc)
follows_by source held other Equal e h n = alike_right source_cmp_total other held source e ∙ h
follows_by source held other Greater e h n =
    let o : IsTotalOrder source_cmp = source_cmp_total in o.trans source held other h (o.antisymm held other ∙ ap ordering_reverse e)

-- what stands before one stands before each that does not
follows : (source held other : PullSource) → is_before source held ≡ true → is_before other held ≡ false → source_cmp source other ≡ Less
follows source held other e n = follows_by source held other (source_cmp other held) refl (less _ e) n

not_back : (source other : PullSource) → source_cmp source other ≡ Less → is_before other source ≡ false
not_back source other e = let o : IsTotalOrder source_cmp = source_cmp_total in ap is_lt (o.antisymm other source ∙ ap ordering_reverse e)

not_itself : (source : PullSource) → is_before source source ≡ false
not_itself source = ap is_lt (tied_itself source_cmp_total source)

at_or_below : (k many : ℕ) → k < many + 1 → (k ≡ many) ⊎ (k < many)
at_or_below k many l = eq-or-lt_of_le (omega arith)

same_source : (sources : List PullSource) (usable : List Bool) (k many : ℕ) (source other : PullSource) → k ≡ many → IsUsable sources usable many source → IsUsable sources usable k other → other ≡ source
same_source sources usable k many source other e u v =
    let there : slice_get sources k ≡ Some source = ap (λ n. slice_get sources n) e ∙ u.is in
    let both : Some other ≡ Some source = sym v.is ∙ there in cc

not_there : (usable : List Bool) (k many : ℕ) → k ≡ many → slice_get usable many ≡ Some false → slice_get usable k ≡ Some true → ⊥
not_there usable k many e u v =
    let there : slice_get usable k ≡ Some false = ap (λ n. slice_get usable n) e ∙ u in
    let both : Some true ≡ Some false = sym v ∙ there in cc

-- a further source that is not usable
IsBest-skip : (many : ℕ) (sources : List PullSource) (usable : List Bool) (choice : Option (ℕ × PullSource)) → slice_get usable many ≡ Some false → IsBest many sources usable choice → IsBest (many + 1) sources usable choice
IsBest-skip many sources usable None u h = λ k l v. elim (at_or_below k many l) [ inl e ↦ not_there usable k many e u v | inr below ↦ h k below v ]
IsBest-skip many sources usable (Some held) u h = record {
  within = let w : held.0 < many = h.within in omega arith;
  is = h.is;
  least = λ k other l v. elim (at_or_below k many l) [ inl e ↦ absurd (not_there usable k many e u v.usable) | inr below ↦ h.least k other below v ];
  first = h.first;
}

-- a further source that is usable
IsBest-better : (many : ℕ) (sources : List PullSource) (usable : List Bool) (choice : Option (ℕ × PullSource)) (source : PullSource) → IsUsable sources usable many source → IsBest many sources usable choice → IsBest (many + 1) sources usable (better choice many source)
IsBest-better many sources usable None source u h = record {
  within = omega arith;
  is = u;
  least = λ k other l v. elim (at_or_below k many l) [
    | inl e ↦ ap (λ o. is_before o source) (same_source sources usable k many source other e u v) ∙ not_itself source
    | inr below ↦ absurd (h k below v.usable)
  ];
  first = λ k other l v. absurd (h k l v.usable);
}
IsBest-better many sources usable (Some held) source u h =
    elim (is_before source held.1) as (λ b. is_before source held.1 ≡ b → IsBest (many + 1) sources usable (cond b (Some (many, source)) (Some held))) [
      | true ↦ λ before. record {
        within = omega arith;
        is = u;
        least = λ k other l v. elim (at_or_below k many l) [
          | inl e ↦ ap (λ o. is_before o source) (same_source sources usable k many source other e u v) ∙ not_itself source
          | inr below ↦ not_back source other (follows source held.1 other before (h.least k other below v))
        ];
        first = λ k other l v. ap is_lt (follows source held.1 other before (h.least k other l v));
      }
      | false ↦ λ behind. record {
        within = let w : held.0 < many = h.within in omega arith;
        is = h.is;
        least = λ k other l v. elim (at_or_below k many l) [
          | inl e ↦ ap (λ o. is_before o held.1) (same_source sources usable k many source other e u v) ∙ behind
          | inr below ↦ h.least k other below v
        ];
        first = h.first;
      }
    ] refl

-- a further source
pub IsBest-chosen : (many : ℕ) (sources : List PullSource) (usable : List Bool) (choice : Option (ℕ × PullSource)) (source : PullSource) (flag : Bool)
    → slice_get sources many ≡ Some source → slice_get usable many ≡ Some flag → IsBest many sources usable choice → IsBest (many + 1) sources usable (chosen choice many source flag)
IsBest-chosen many sources usable choice source true s u h = IsBest-better many sources usable choice source (record { is = s; usable = u }) h
IsBest-chosen many sources usable choice source false s u h = IsBest-skip many sources usable choice u h
