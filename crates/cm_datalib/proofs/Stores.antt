-- The header of a manifest, and its entries behind it.
use Rattle.std.proofs.Common.{◌≡◌, ℕ, ◌+◌, ◌≤◌, List, [], ◌++◌, length, refl, sym, ◌∙◌, ap, subst, arith, length-append}
use Rattle.std.specs.Prelude.{true, Option, None, Some, is_some}
use Rattle.std.specs.List.{flat_map}
use Rattle.std.specs.Option.{ForSome}
use Rattle.std.proofs.lemmas.List.{append-nil}
use Rattle.cm_disk.specs.Disk.{File, Files, bytes_of, put, written, shortened, IsPartly}
use Rattle.cm_tree.specs.declared.entry.Entry.{Entry}
use Rattle.cm_tree.specs.Manifests.{spelling, entry_bytes}
use Rattle.cm_datalib.specs.Spellings.{header}
use Rattle.cm_datalib.proofs.Writes.{Sent, sent_more, written_on, partly_of, partly_all, may_cut, sent_here, cut_written}

pub spelled : (manifest entries : List Entry) (front : List ℕ) → front ≡ header entries → entries ≡ manifest → spelling manifest ≡ front ++ flat_map entry_bytes entries
spelled manifest entries front is same = sym (ap (λ (l : List ℕ). l ++ flat_map entry_bytes entries) is ∙ ap (λ (e : List Entry). header e ++ flat_map entry_bytes e) same)

module _ (file : File) (front body whole : List ℕ) (is : whole ≡ front ++ body) where
  pub front_partly : IsPartly file (Some whole) (written 0 front file)
  front_partly = subst (λ (l : List ℕ). IsPartly file (Some l) (written 0 front file)) (sym is) (partly_of file (Some (front ++ body)) 0 front body (omega arith) refl)

  pub all_partly : IsPartly file (Some whole) (written 0 (front ++ body) file)
  all_partly = partly_of file (Some whole) 0 (front ++ body) [] (omega arith) (ap (λ (l : List ℕ). Some l) (is ∙ sym (append-nil (front ++ body))))

  pub body_partly : 9 ≡ length front → IsPartly file (Some whole) (written 9 body (written 0 front file))
  body_partly long =
      let behind : 9 ≡ 0 + length front = omega (arith, long) in
      subst (λ (f : File). IsPartly file (Some whole) f) (sym (ap (λ (n : ℕ). written n body (written 0 front file)) behind ∙ written_on file 0 front body (omega arith))) all_partly

  pub cut_partly : (end : ℕ) → end ≡ length (front ++ body) → IsPartly file (Some whole) (shortened end (written 0 (front ++ body) file))
  cut_partly end at = subst (λ (f : File). IsPartly file (Some whole) f) (ap (λ (l : List ℕ). Some l) is ∙ sym (cut_written file (front ++ body) end at)) (partly_all file (Some whole))

-- the header and the entries were sent
pub both_sent : (old one two : Option Files) (place front body : List ℕ) → 9 ≡ length front → ForSome old (λ (files : Files). one ≡ Some (put files place (written 0 front (files place)))) → (old ≡ None → one ≡ None)
    → ForSome one (λ (files : Files). two ≡ Some (put files place (written 9 body (files place)))) → (one ≡ None → two ≡ None) → Sent old two place 0 (front ++ body)
both_sent old one two place front body long first silent second mute =
    sent_more old one two place 0 9 front body (omega (arith, long)) (λ files told. omega arith) (record { told = first; silent = silent }) second mute

pub end_of : (front body : List ℕ) (end : ℕ) → 9 ≡ length front → end ≡ 9 + length body → end ≡ length (front ++ body)
end_of front body end long is = omega (arith, long, is, length-append front body)

pub cut_there : (old two : Option Files) (place whole : List ℕ) (end : ℕ) → end ≡ length whole → Sent old two place 0 whole → (x : Files) → two ≡ Some x → (is_some (x place) ≡ true) × (end ≤ length (bytes_of (x place)))
cut_there old two place whole end is sent x told =
    let h = sent_here old two place 0 whole sent x told in
    let may = may_cut (h.0 place) whole in
    subst (λ (f : File). (is_some f ≡ true) × (end ≤ length (bytes_of f))) (sym h.2) (may.0, omega (arith, is, may.1))
