-- The texts of boundaries.
use Rattle.std.specs.Prelude.{◌≡◌, ℕ, ◌-◌, ◌%◌, ◌^◌, ◌≤◌, nat_lt, ◌==◌, ◌⊎◌, List, ◌∷◌, ◌++◌, Some, Result, Ok, Err, codes, if◌then◌else◌}
use Rattle.cm_base.specs.Names.{name_of}
use Rattle.cm_net.specs.declared.address.Address.{Address}
use Rattle.cm_net.specs.declared.address.Address.TheVariants.{V4, V6}
use Rattle.cm_net.specs.declared.boundary.Boundary.{Boundary}
use Rattle.cm_net.specs.declared.boundary.Boundary.TheVariants.{Subnet, Site, Prefix6, Range4, Range6}
use Rattle.cm_net.specs.declared.fault.NetFault.{NetFault}
use Rattle.cm_net.specs.declared.fault.NetFault.TheVariants.{BadAddress, BadLength, RangeBackwards, HostBitsSet, MixedFamilies}
use Rattle.cm_net.specs.Addresses.{decimal, IsFour, IsSix, IsAddress}
use Rattle.cm_net.specs.Spellings.{address_text}
use Rattle.cm_net.specs.Texts.{LeavesAt}

-- what the text of a boundary says: a net with its number of bits, a site, or two ends of any families
pub data Written : Type 0 where
  subnet : (net bits : ℕ) → Written
  prefix : (net bits : ℕ) → Written
  site : List ℕ → Written
  range : (from to : Address) → Written

-- two texts with a separator between them
pub record Apart (First Second : List ℕ → Type 0) (separator : ℕ) (text : List ℕ) : Type 0 where
  pub first : List ℕ
  pub second : List ℕ
  pub is_first : First first
  pub is_second : Second second
  pub is : text ≡ first ++ separator ∷ second

-- a number of bits up to the most
pub record IsBits (most : ℕ) (text : List ℕ) (bits : ℕ) : Type 0 where
  pub few : bits ≤ most
  pub spelled : text ≡ decimal bits

-- the name of a site
abbrev pub IsSite : List ℕ → List ℕ → Type 0
IsSite text name = name_of text ≡ Some name

-- what stands behind the leading word
abbrev pub IsBody : List ℕ → Written → Type 0
IsBody text (subnet net bits) = Apart (λ first. IsFour first net) (λ second. IsBits 32 second bits) 47 text
IsBody text (prefix net bits) = Apart (λ first. IsSix first net) (λ second. IsBits 128 second bits) 47 text
IsBody text (site name) = IsSite text name
IsBody text (range from to) = Apart (λ first. IsAddress first from) (λ second. IsAddress second to) 45 text

-- the leading word
abbrev pub word_of : Written → List ℕ
word_of (subnet net bits) = codes "subnet:"
word_of (prefix net bits) = codes "prefix:"
word_of (site name) = codes "site:"
word_of (range from to) = codes "range:"

-- the text of a boundary: a leading word, and what stands behind it
pub record IsWritten (text : List ℕ) (what : Written) : Type 0 where
  pub body : List ℕ
  pub is_body : IsBody body what
  pub is : text ≡ word_of what ++ body

-- the ends of a range
abbrev pub range_of : Address → Address → Result Boundary NetFault
range_of (V4 from) (V4 to) = if nat_lt to from then Err RangeBackwards else Ok (Range4 from to)
range_of (V6 from) (V6 to) = if nat_lt to from then Err RangeBackwards else Ok (Range6 from to)
range_of (V4 from) (V6 to) = Err MixedFamilies
range_of (V6 from) (V4 to) = Err MixedFamilies

-- the boundary that was written, or what is wrong with it
abbrev pub judged : Written → Result Boundary NetFault
judged (subnet net bits) = if net % 2 ^ (32 - bits) == 0 then Ok (Subnet net bits) else Err HostBitsSet
judged (prefix net bits) = if net % 2 ^ (128 - bits) == 0 then Ok (Prefix6 net bits) else Err HostBitsSet
judged (site name) = Ok (Site name)
judged (range from to) = range_of from to

-- behind the word and a whole address of its family the text ends, or what stands behind the `/` is no number of bits
pub record LacksBits (Address : List ℕ → ℕ → Type 0) (word : List ℕ) (most : ℕ) (text : List ℕ) : Type 0 where
  pub address : List ℕ
  pub net : ℕ
  pub is_address : Address address net
  pub ends : (text ≡ word ++ address) ⊎ ((rest : List ℕ) × (text ≡ word ++ (address ++ 47 ∷ rest)) × ((bits : ℕ) → IsBits most rest bits → ⊥))

abbrev pub HasBadLength : List ℕ → Type 0
HasBadLength text = LacksBits IsFour (codes "subnet:") 32 text ⊎ LacksBits IsSix (codes "prefix:") 128 text

-- the text does not begin with a leading word, nor is it the front of one
abbrev pub HasWrongWord : List ℕ → Type 0
HasWrongWord text = (what : Written) (rest : List ℕ) → (text ≡ word_of what ++ rest → ⊥) × (text ++ rest ≡ word_of what → ⊥)

-- the text is no boundary's, and leaves their grammar at this place: a wrong leading word is wrong from its first byte on
abbrev pub IsBadPlace : List ℕ → ℕ → Type 0
IsBadPlace text place = (HasWrongWord text × (place ≡ 0)) ⊎ ((HasWrongWord text → ⊥) × LeavesAt IsWritten text place)

-- the fault of a text
abbrev pub IsFaultOf : List ℕ → NetFault → Type 0
IsFaultOf text (BadAddress place) = IsBadPlace text place × (HasBadLength text → ⊥)
IsFaultOf text BadLength = HasBadLength text × ((what : Written) → IsWritten text what → ⊥)
IsFaultOf text RangeBackwards = (what : Written) × IsWritten text what × (judged what ≡ Err RangeBackwards)
IsFaultOf text HostBitsSet = (what : Written) × IsWritten text what × (judged what ≡ Err HostBitsSet)
IsFaultOf text MixedFamilies = (what : Written) × IsWritten text what × (judged what ≡ Err MixedFamilies)

-- what the reader of a text answers
abbrev pub Answers : List ℕ → Result Boundary NetFault → Type 0
Answers text (Ok boundary) = (what : Written) × IsWritten text what × (judged what ≡ Ok boundary)
Answers text (Err fault) = IsFaultOf text fault

-- what a boundary is written as
abbrev pub written_of : Boundary → Written
written_of (Subnet net bits) = subnet net bits
written_of (Site name) = site name
written_of (Prefix6 net bits) = prefix net bits
written_of (Range4 from to) = range (V4 from) (V4 to)
written_of (Range6 from to) = range (V6 from) (V6 to)

-- the one spelling of a boundary
abbrev pub boundary_text : Boundary → List ℕ
boundary_text (Subnet net bits) = codes "subnet:" ++ (address_text (V4 net) ++ 47 ∷ decimal bits)
boundary_text (Site name) = codes "site:" ++ name
boundary_text (Prefix6 net bits) = codes "prefix:" ++ (address_text (V6 net) ++ 47 ∷ decimal bits)
boundary_text (Range4 from to) = codes "range:" ++ (address_text (V4 from) ++ 45 ∷ address_text (V4 to))
boundary_text (Range6 from to) = codes "range:" ++ (address_text (V6 from) ++ 45 ∷ address_text (V6 to))
