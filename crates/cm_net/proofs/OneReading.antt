-- A text is read in one way.
use Rattle.std.proofs.Common.{◌≡◌, ◌∙◌, ℕ, sym, ap, refl, inl, inr, List, Option, Some, None, Result, Ok, Err}
use Rattle.cm_net.specs.declared.address.Address.{Address}
use Rattle.cm_net.specs.declared.boundary.Boundary.{Boundary}
use Rattle.cm_net.specs.declared.fault.NetFault.{NetFault}
use Rattle.cm_net.specs.declared.fault.NetFault.TheVariants.{BadAddress, BadLength, RangeBackwards, HostBitsSet, MixedFamilies}
use Rattle.cm_net.specs.Readings.{by_rule}
use Rattle.cm_net.specs.Written.{Written, IsWritten, IsFaultOf, IsBadPlace, judged}
use Rattle.cm_net.proofs.OneMeaning.{one_address, one_boundary}
use Rattle.cm_net.specs.Meanings.{IsAddressOf, IsBoundaryOf, rule_of}

-- a text that leaves the grammar of boundaries spells none
no_bad_place : (text : List ℕ) (place : ℕ) (what : Written) → IsBadPlace text place → IsWritten text what → ⊥
no_bad_place text place what (inl (wrong, start)) is = (wrong what is.body).0 is.is
no_bad_place text place what (inr (front, leaves)) is = leaves.none what is

-- what was written has no two faults
other_fault : {v w : Written} {f g : NetFault} → v ≡ w → judged v ≡ Err f → judged w ≡ Err g → (f ≡ g → ⊥) → ⊥
other_fault {v} {w} {f} {g} same at_v at_w apart =
    let e = ap judged same in
    apart (cc)

-- the faults of a text break one rule
same_rule : (text : List ℕ) → (f g : NetFault) → IsFaultOf text f → IsFaultOf text g → rule_of f ≡ rule_of g
same_rule text (BadAddress place) (BadAddress place') (bad, long) (bad', long') = refl
same_rule text (BadAddress place) BadLength (bad, long) (short', none') = absurd (long short')
same_rule text (BadAddress place) RangeBackwards (bad, long) (what', is', judged') = absurd (no_bad_place text place what' bad is')
same_rule text (BadAddress place) HostBitsSet (bad, long) (what', is', judged') = absurd (no_bad_place text place what' bad is')
same_rule text (BadAddress place) MixedFamilies (bad, long) (what', is', judged') = absurd (no_bad_place text place what' bad is')
same_rule text BadLength (BadAddress place') (short, none) (bad', long') = absurd (long' short)
same_rule text BadLength BadLength (short, none) (short', none') = refl
same_rule text BadLength RangeBackwards (short, none) (what', is', judged') = absurd (none what' is')
same_rule text BadLength HostBitsSet (short, none) (what', is', judged') = absurd (none what' is')
same_rule text BadLength MixedFamilies (short, none) (what', is', judged') = absurd (none what' is')
same_rule text RangeBackwards (BadAddress place') (what, is, judged) (bad', long') = absurd (no_bad_place text place' what bad' is)
same_rule text RangeBackwards BadLength (what, is, judged) (short', none') = absurd (none' what is)
same_rule text RangeBackwards RangeBackwards (what, is, judged) (what', is', judged') = refl
same_rule text RangeBackwards HostBitsSet (what, is, judged) (what', is', judged') = absurd (other_fault (one_boundary text what what' is is') judged judged' (λ e. cc))
same_rule text RangeBackwards MixedFamilies (what, is, judged) (what', is', judged') = absurd (other_fault (one_boundary text what what' is is') judged judged' (λ e. cc))
same_rule text HostBitsSet (BadAddress place') (what, is, judged) (bad', long') = absurd (no_bad_place text place' what bad' is)
same_rule text HostBitsSet BadLength (what, is, judged) (short', none') = absurd (none' what is)
same_rule text HostBitsSet RangeBackwards (what, is, judged) (what', is', judged') = absurd (other_fault (one_boundary text what what' is is') judged judged' (λ e. cc))
same_rule text HostBitsSet HostBitsSet (what, is, judged) (what', is', judged') = refl
same_rule text HostBitsSet MixedFamilies (what, is, judged) (what', is', judged') = absurd (other_fault (one_boundary text what what' is is') judged judged' (λ e. cc))
same_rule text MixedFamilies (BadAddress place') (what, is, judged) (bad', long') = absurd (no_bad_place text place' what bad' is)
same_rule text MixedFamilies BadLength (what, is, judged) (short', none') = absurd (none' what is)
same_rule text MixedFamilies RangeBackwards (what, is, judged) (what', is', judged') = absurd (other_fault (one_boundary text what what' is is') judged judged' (λ e. cc))
same_rule text MixedFamilies HostBitsSet (what, is, judged) (what', is', judged') = absurd (other_fault (one_boundary text what what' is is') judged judged' (λ e. cc))
same_rule text MixedFamilies MixedFamilies (what, is, judged) (what', is', judged') = refl

-- a text that spells a sound boundary has no fault
no_fault : (text : List ℕ) → (boundary : Boundary) (what : Written) → IsWritten text what → judged what ≡ Ok boundary → (f : NetFault) → IsFaultOf text f → ⊥
no_fault text boundary what is at (BadAddress place) (bad, long) = no_bad_place text place what bad is
no_fault text boundary what is at BadLength (short, none) = none what is
no_fault text boundary what is at RangeBackwards (what', is', at') = let e = ap judged (one_boundary text what what' is is') in cc
no_fault text boundary what is at HostBitsSet (what', is', at') = let e = ap judged (one_boundary text what what' is is') in cc
no_fault text boundary what is at MixedFamilies (what', is', at') = let e = ap judged (one_boundary text what what' is is') in cc

-- a text has one boundary, or breaks one rule first
pub one_boundary_of : (text : List ℕ) (r s : Result Boundary ℕ) → IsBoundaryOf text r → IsBoundaryOf text s → r ≡ s
one_boundary_of text (Ok b) (Ok c) (what, is, at) (what', is', at') = sym (ap by_rule at) ∙ ap (λ v. by_rule (judged v)) (one_boundary text what what' is is') ∙ ap by_rule at'
one_boundary_of text (Ok b) (Err n) (what, is, at) (fault, of, rule) = absurd (no_fault text b what is at fault of)
one_boundary_of text (Err m) (Ok c) (fault, of, rule) (what, is, at) = absurd (no_fault text c what is at fault of)
one_boundary_of text (Err m) (Err n) (f, of, m_is) (g, of', n_is) = ap Err (m_is ∙ same_rule text f g of of' ∙ sym n_is)

-- a text has one address or none
pub one_address_of : (text : List ℕ) (r s : Option Address) → IsAddressOf text r → IsAddressOf text s → r ≡ s
one_address_of text (Some x) (Some y) is is' = ap Some (one_address text x y is is')
one_address_of text (Some x) None is none = absurd (none x is)
one_address_of text None (Some y) none is = absurd (none y is)
one_address_of text None None none none' = refl
