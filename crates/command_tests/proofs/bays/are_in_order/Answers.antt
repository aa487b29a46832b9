use Rattle.std.proofs.Common.{◌≡◌, ◌<◌, ◌≤◌, Bool, true, false, not, ℕ, List, [], ◌∷◌, length, drop, get_or, codes, refl, sym, ◌∙◌, ap, arith}
use Rattle.std.specs.Str.{bytes_eq}
use Rattle.std.proofs.lemmas.List.{take_rest}
use Rattle.std.proofs.lemmas.Slice.Eq.{bytes_eq-Decides}
use Rattle.cm_groups.specs.Names.{is_among}
use Rattle.cm_site.specs.Bays.{AreInOrder, names_of}
use Rattle.cm_site.specs.declared.bay.Bay.{Bay}
use Rattle.command_tests.proofs.bays.are_in_order.Goals as goal

-- the first of the bays has the site's name
module _ {D : Type 0} (first : Bay D) (text wanted : List ℕ) (text_is : text ≡ first.name) (wanted_is : wanted ≡ codes "site") (same : bytes_eq text wanted ≡ true) where
  named : (bay : Bay D) → first ≡ bay → bay.name ≡ codes "site"
  named bay is = ap (λ (b : Bay D). b.name) (sym is) ∙ (sym text_is ∙ ((bytes_eq-Decides text wanted).0 same ∙ wanted_is))

  one_bay : (bays : List (Bay D)) → 1 ≤ length bays → length bays < 2 → first ≡ get_or bays 0 first → AreInOrder (names_of bays)
  one_bay [] some few is = absurd (omega (arith, some))
  one_bay (bay ∷ []) some few is = named bay is
  one_bay (bay ∷ next ∷ rest) some few is = absurd (omega (arith, few))

  more_bays : (bays : List (Bay D)) → 2 ≤ length bays → first ≡ get_or bays 0 first → is_among (names_of (drop 2 bays)) (codes "records") ≡ false → AreInOrder (names_of bays)
  more_bays [] some is none = absurd (omega (arith, some))
  more_bays (bay ∷ []) some is none = absurd (omega (arith, some))
  more_bays (bay ∷ next ∷ rest) some is none = (named bay is, none)

is_false : (b : Bool) → not b ≡ true → b ≡ false
is_false true e = cc
is_false false e = refl

pub returns-in-len1 : goal.returns-in-len1
returns-in-len1 g c = λ is.
    one_bay c.first-item.result c.as_bytes.result.now c.as_slice.result.now c.as_bytes.ensures c.as_slice.ensures (sym c.eq.ensures ∙ is)
    c.args.bays.now c.in-len1.len_at_least c.in-len1.len_below c.first-item.is

pub returns-then-eq : goal.returns-then-eq
returns-then-eq g c = λ is.
    more_bays c.first-item-2.result c.as_bytes-in-len2-up.result.now c.as_slice-in-len2-up.result.now c.as_bytes-in-len2-up.ensures c.as_slice-in-len2-up.ensures (sym c.eq-in-len2-up.ensures ∙ c.if-eq.true)
    c.args.bays.now c.in-len2-up.len_at_least c.first-item-2.is (sym (simp take_rest at c.has_records.ensures) ∙ is_false c.has_records.result is)
