-- Findings are gathered, entry by entry.
use Rattle.std.proofs.Common.{◌≡◌, inl, inr, ℕ, ◌+◌, ◌<◌, List, [], ◌∷◌, ◌++◌, length, take, sym, ◌∙◌, ap, arith}
use Rattle.std.specs.Prelude.{slice_get, Option, Some}
use Rattle.std.specs.List.{cons_option}
use Rattle.std.proofs.lemmas.List.{take_more}
use Rattle.std.proofs.lemmas.List.Elements.{filter_map-append}
use Rattle.std.proofs.lemmas.Option.{slice_get-get_or, slice_get_cases, same_Some}
use Rattle.cm_disk.specs.Disk.{Files}
use Rattle.cm_tree.specs.declared.entry.Entry.{Entry}
use Rattle.cm_check.specs.declared.finding.Finding.{Finding}
use Rattle.cm_check.specs.Findings.{finding_of, findings}

-- one entry more
pub found_more : (files : Files) (manifest : List Entry) (n : ℕ) (entry : Entry) (finding : Option Finding) → slice_get manifest n ≡ Some entry → n < length manifest → finding ≡ finding_of files entry
    → findings files (take n manifest) ++ cons_option finding [] ≡ findings files (take (n + 1) manifest)
found_more files manifest n entry finding at lt is =
    ap (λ (l : List Finding). findings files (take n manifest) ++ l) (ap (λ (o : Option Finding). cons_option o []) is)
    ∙ sym (filter_map-append (finding_of files) (take n manifest) (entry ∷ []))
    ∙ ap (λ (e : Entry). findings files (take n manifest ++ e ∷ [])) (same_Some entry _ (sym at ∙ slice_get-get_or manifest n entry lt))
    ∙ ap (findings files) (sym (take_more manifest n entry lt))

pub found_next : (files : Files) (manifest : List Entry) (n : ℕ) (finding : Option Finding) → n < length manifest → ((e : Entry) → slice_get manifest n ≡ Some e → finding ≡ finding_of files e)
    → findings files (take n manifest) ++ cons_option finding [] ≡ findings files (take (n + 1) manifest)
found_next files manifest n finding lt here = elim (slice_get_cases manifest n).1 [
  | inl there ↦ found_more files manifest n there.0 finding there.2 lt (here there.0 there.2)
  | inr past ↦ let le = past.0 in absurd (omega (arith, lt, le))
]
