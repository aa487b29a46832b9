-- What is written of a boundary is a text of it.
use Rattle.std.proofs.Common.{◌≡◌, ℕ, ◌-◌, ◌%◌, ◌^◌, List, ◌∷◌, ◌++◌, Ok, refl, codes}
use Rattle.std.proofs.lemmas.Bool.{eq-eqb, le-ltb}
use Rattle.cm_net.specs.declared.address.Address.{Address}
use Rattle.cm_net.specs.declared.address.Address.TheVariants.{V4, V6}
use Rattle.cm_net.specs.declared.boundary.Boundary.{Boundary}
use Rattle.cm_net.specs.declared.boundary.Boundary.TheVariants.{Subnet, Site, Prefix6, Range4, Range6}
use Rattle.cm_net.specs.Addresses.{decimal, IsAddress}
use Rattle.cm_net.specs.Boundaries.{IsSound}
use Rattle.cm_net.specs.Spellings.{address_text}
use Rattle.cm_net.specs.Written.{subnet, prefix, site, range, IsSite, IsWritten, judged, written_of}

pub subnet_reads : (net bits : ℕ) → IsSound (Subnet net bits) → IsAddress (address_text (V4 net)) (V4 net) → IsWritten (codes "subnet:" ++ (address_text (V4 net) ++ 47 ∷ decimal bits)) (subnet net bits)
subnet_reads net bits sound is = record {
  body = address_text (V4 net) ++ 47 ∷ decimal bits;
  is_body = record { first = address_text (V4 net); second = decimal bits; is_first = is; is_second = record { few = sound.0; spelled = refl }; is = refl };
  is = refl;
}

pub prefix_reads : (net bits : ℕ) → IsSound (Prefix6 net bits) → IsAddress (address_text (V6 net)) (V6 net) → IsWritten (codes "prefix:" ++ (address_text (V6 net) ++ 47 ∷ decimal bits)) (prefix net bits)
prefix_reads net bits sound is = record {
  body = address_text (V6 net) ++ 47 ∷ decimal bits;
  is_body = record { first = address_text (V6 net); second = decimal bits; is_first = is; is_second = record { few = sound.0; spelled = refl }; is = refl };
  is = refl;
}

pub site_reads : (name : List ℕ) → IsSite name name → IsWritten (codes "site:" ++ name) (site name)
site_reads name is = record { body = name; is_body = is; is = refl }

pub range_reads : (from to : Address) → IsAddress (address_text from) from → IsAddress (address_text to) to → IsWritten (codes "range:" ++ (address_text from ++ 45 ∷ address_text to)) (range from to)
range_reads from to p q = record {
  body = address_text from ++ 45 ∷ address_text to;
  is_body = record { first = address_text from; second = address_text to; is_first = p; is_second = q; is = refl };
  is = refl;
}

-- a sound boundary is judged to be itself
pub sound_judged : (b : Boundary) → IsSound b → judged (written_of b) ≡ Ok b
sound_judged (Subnet net bits) sound = rw (eq-eqb (net % 2 ^ (32 - bits)) 0 sound.1) refl
sound_judged (Site name) sound = refl
sound_judged (Prefix6 net bits) sound = rw (eq-eqb (net % 2 ^ (128 - bits)) 0 sound.1) refl
sound_judged (Range4 from to) sound = rw (le-ltb to from sound) refl
sound_judged (Range6 from to) sound = rw (le-ltb to from sound) refl
