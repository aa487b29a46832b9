-- What a value says: something of its form, or what is wrong with it.
use Rattle.std.specs.Prelude.{ℕ, ℤ, pos, negsuc, ◌||◌, nat_le, Bool, List, Option, Some, None, Result, Ok, Err, codes, if◌then◌else◌}
use Rattle.std.specs.Option.{ok_or}
use Rattle.std.specs.Str.{bytes_eq}
use Rattle.cm_base.specs.Names.{is_label, name_of, text_if}
use Rattle.cm_groups.specs.Codes.{is_site_code}
use Rattle.cm_groups.specs.declared.fallback.Fallback.{Fallback}
use Rattle.cm_groups.specs.declared.fallback.Fallback.TheVariants.{Never, After}
use Rattle.cm_net.specs.declared.address.Address.{Address}
use Rattle.cm_net.specs.declared.boundary.Boundary.{Boundary}
use Rattle.cm_net.specs.Readings.{address_in, boundary_in}
use Rattle.toml.specs.Data.{Data, as_bool, as_integer, as_str}
use Rattle.cm_topo.specs.declared.trouble.Trouble.{Trouble}
use Rattle.cm_topo.specs.declared.trouble.Trouble.TheVariants.{Shape, Broken}
use Rattle.cm_topo.specs.Rules.{bad_address, bad_name, too_long_fallback, most_minutes}
use Rattle.cm_topo.specs.Troubles.{result_map}

-- the value at a key, which must be there
abbrev pub needed : {X : Type 0} → (Data → Result X Trouble) → Option Data → Result X Trouble
needed said None = Err Shape
needed said (Some value) = said value

-- the value at a key, or what stands for its absence
abbrev pub otherwise : {X : Type 0} → X → (Data → Result X Trouble) → Option Data → Result X Trouble
otherwise absent said None = Ok absent
otherwise absent said (Some value) = said value

-- the value at a key, where there is one
abbrev pub perhaps : {X : Type 0} → (Data → Result X Trouble) → Option Data → Result (Option X) Trouble
perhaps said None = Ok None
perhaps said (Some value) = result_map (λ x. Some x) (said value)

-- a text of a form, or the rule that it breaks; it must be a text
abbrev pub formed : {X : Type 0} → ℕ → (List ℕ → Option X) → Option (List ℕ) → Result X Trouble
formed rule form None = Err Shape
formed rule form (Some text) = ok_or (form text) (Broken rule)

-- a label
abbrev pub label_of : List ℕ → Option (List ℕ)
label_of text = text_if (is_label text) text

abbrev pub label_said : Data → Result (List ℕ) Trouble
label_said value = formed bad_name label_of (as_str value)

-- the name of a server or of a site
abbrev pub name_said : Data → Result (List ℕ) Trouble
name_said value = formed bad_name name_of (as_str value)

-- a name that no point may have, since a shelf of the site has it
abbrev pub is_reserved : List ℕ → Bool
is_reserved name = bytes_eq name (codes "site") || bytes_eq name (codes "records")

-- the code of a site
abbrev pub code_of : List ℕ → Option (List ℕ)
code_of text = text_if (is_site_code text) text

abbrev pub code_said : Data → Result (List ℕ) Trouble
code_said value = formed bad_name code_of (as_str value)

-- an address
abbrev pub address_said : Data → Result Address Trouble
address_said value = formed bad_address address_in (as_str value)

-- a boundary, or the rule that its text breaks
abbrev pub unless_broken : Result Boundary ℕ → Result Boundary Trouble
unless_broken (Ok boundary) = Ok boundary
unless_broken (Err rule) = Err (Broken rule)

abbrev pub boundary_from : Option (List ℕ) → Result Boundary Trouble
boundary_from None = Err Shape
boundary_from (Some text) = unless_broken (boundary_in text)

abbrev pub boundary_said : Data → Result Boundary Trouble
boundary_said value = boundary_from (as_str value)

-- a truth value
abbrev pub flag_said : Data → Result Bool Trouble
flag_said value = ok_or (as_bool value) Shape

-- a number from 0 to the most
abbrev pub within : ℕ → ℤ → Option ℕ
within most (pos n) = if nat_le n most then Some n else None
within most (negsuc n) = None

abbrev pub number_in : ℕ → ℕ → Option ℤ → Result ℕ Trouble
number_in rule most None = Err Shape
number_in rule most (Some z) = ok_or (within most z) (Broken rule)

abbrev pub number_said : ℕ → Data → Result ℕ Trouble
number_said most value = number_in bad_name most (as_integer value)

-- the minutes of a relation: a number, or `never`
abbrev pub minutes_by : Option (List ℕ) → Option ℤ → Result Fallback Trouble
minutes_by None number = result_map After (number_in too_long_fallback most_minutes number)
minutes_by (Some text) number = if bytes_eq text (codes "never") then Ok Never else Err (Broken too_long_fallback)

abbrev pub minutes_said : Data → Result Fallback Trouble
minutes_said value = minutes_by (as_str value) (as_integer value)
