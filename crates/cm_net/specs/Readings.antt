-- What each text means, by functions. That they are right by the grammar is a law, `each_text_is_read`.
use Rattle.std.specs.Prelude.{ℕ, nat_le, ◌==◌, length, take, drop, List, [], ◌∷◌, Option, Some, None, option_map, Result, Ok, Err, codes, if◌then◌else◌}
use Rattle.std.specs.Option.{ok_or, option_and_then}
use Rattle.std.specs.Str.{bytes_eq}
use Rattle.cm_base.specs.Names.{name_of}
use Rattle.cm_net.specs.declared.address.Address.{Address}
use Rattle.cm_net.specs.declared.address.Address.TheVariants.{V4, V6}
use Rattle.cm_net.specs.declared.boundary.Boundary.{Boundary}
use Rattle.cm_net.specs.declared.fault.NetFault.{NetFault}
use Rattle.cm_net.specs.FourReader.{start4, step4, final4, lone4}
use Rattle.cm_net.specs.Machines.{run}
use Rattle.cm_net.specs.Meanings.{rule_of}
use Rattle.cm_net.specs.SixReader.{start6, step6, final6}
use Rattle.cm_net.specs.Written.{Written, subnet, prefix, site, range, judged}

-- the number of the address of each family, if the text spells one
abbrev pub four_in : List ℕ → Option ℕ
four_in text = option_and_then final4 (run step4 (Some start4) text)

abbrev pub six_in : List ℕ → Option ℕ
six_in text = option_and_then final6 (run step6 (Some start6) text)

-- the address of the family that has one
abbrev pub address_from : Option ℕ → Option ℕ → Option Address
address_from (Some four) six = Some (V4 four)
address_from None six = option_map V6 six

-- the address that a text spells, if it spells one
abbrev pub address_in : List ℕ → Option Address
address_in text = address_from (four_in text) (six_in text)

-- a number of bits up to the most
abbrev pub up_to : ℕ → ℕ → Option ℕ
up_to most bits = if nat_le bits most then Some bits else None

abbrev pub bits_in : ℕ → List ℕ → Option ℕ
bits_in most text = option_and_then (up_to most) (option_and_then lone4 (run step4 (Some start4) text))

-- what stands before the first separator, and behind it, where there is one
abbrev pub before : ℕ → List ℕ → List ℕ
before separator [] = []
before separator (b ∷ text) = if b == separator then [] else b ∷ before separator text

abbrev pub after : ℕ → List ℕ → Option (List ℕ)
after separator [] = None
after separator (b ∷ text) = if b == separator then Some text else after separator text

-- a net with its number of bits: without an address rule 1 is broken, without a number of bits rule 2
abbrev pub net_from : (ℕ → ℕ → Written) → Option ℕ → Option ℕ → Result Written ℕ
net_from what None bits = Err 1
net_from what (Some net) None = Err 2
net_from what (Some net) (Some bits) = Ok (what net bits)

abbrev pub subnet_in : List ℕ → Result Written ℕ
subnet_in body = net_from subnet (four_in (before 47 body)) (option_and_then (bits_in 32) (after 47 body))

abbrev pub prefix_in : List ℕ → Result Written ℕ
prefix_in body = net_from prefix (six_in (before 47 body)) (option_and_then (bits_in 128) (after 47 body))

abbrev pub site_in : List ℕ → Result Written ℕ
site_in body = ok_or (option_map site (name_of body)) 1

-- two ends of any families
abbrev pub range_from : Option Address → Option Address → Result Written ℕ
range_from None to = Err 1
range_from (Some from) None = Err 1
range_from (Some from) (Some to) = Ok (range from to)

abbrev pub range_in : List ℕ → Result Written ℕ
range_in body = range_from (address_in (before 45 body)) (option_and_then address_in (after 45 body))

-- what stands behind a word, where the text begins with it
abbrev pub behind : List ℕ → List ℕ → Option (List ℕ)
behind word text = if bytes_eq (take (length word) text) word then Some (drop (length word) text) else None

-- one way to read what stands behind a word, or another one for the whole text
abbrev pub either_in : (List ℕ → Result Written ℕ) → Option (List ℕ) → Result Written ℕ → Result Written ℕ
either_in body_in None other = other
either_in body_in (Some body) other = body_in body

-- what a boundary's text says, by its leading word
abbrev pub written_in : List ℕ → Result Written ℕ
written_in text =
    either_in subnet_in (behind (codes "subnet:") text)
    (either_in prefix_in (behind (codes "prefix:") text)
    (either_in site_in (behind (codes "site:") text)
    (either_in range_in (behind (codes "range:") text)
    (Err 1))))

-- the rule in place of the fault
abbrev pub by_rule : Result Boundary NetFault → Result Boundary ℕ
by_rule (Ok boundary) = Ok boundary
by_rule (Err fault) = Err (rule_of fault)

abbrev pub boundary_from : Result Written ℕ → Result Boundary ℕ
boundary_from (Ok what) = by_rule (judged what)
boundary_from (Err rule) = Err rule

-- the boundary that a text spells, or the rule that it breaks first
abbrev pub boundary_in : List ℕ → Result Boundary ℕ
boundary_in text = boundary_from (written_in text)
