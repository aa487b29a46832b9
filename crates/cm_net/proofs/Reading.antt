-- What the reader of a boundary answers, kind by kind.
use Rattle.std.proofs.Common.{◌≡◌, ℕ, ◌+◌, ◌-◌, ◌%◌, ◌^◌, ◌<◌, ◌≤◌, Bool, true, false, cond, eqb, ltb, Bor, option_map, IfOk, IfErr, List, [], ◌∷◌, ◌++◌, length, drop, get_or, Option, Some, None, Result, Ok, Err, MatchOption, refl, sym, ap, ◌∙◌, subst, arith, append_assoc, length-append, take_all, codes, inl, inr, ◌⊎◌}
use Rattle.std.proofs.lemmas.Bool.{eqb-true, ltb-false}
use Rattle.cm_net.specs.Boundaries.{IsSound}
use Rattle.cm_net.specs.declared.address.Address.{Address}
use Rattle.cm_net.specs.declared.address.Address.TheVariants.{V4, V6}
use Rattle.cm_net.specs.Addresses.{IsFour, IsSix, IsAddress}
use Rattle.cm_net.specs.Free.{IsFree}
use Rattle.cm_net.specs.Texts.{LeavesAt}
use Rattle.cm_net.specs.Written.{Written, subnet, prefix, site, range, Apart, IsBits, IsSite, IsBody, word_of, IsWritten, range_of, judged, LacksBits, HasBadLength, IsBadPlace, IsFaultOf, Answers}
use Rattle.cm_net.specs.declared.boundary.Boundary.{Boundary}
use Rattle.cm_net.specs.declared.boundary.Boundary.TheVariants.{Subnet, Site, Prefix6, Range4, Range6}
use Rattle.cm_net.specs.declared.fault.NetFault.{NetFault}
use Rattle.cm_net.specs.declared.fault.NetFault.TheVariants.{RangeBackwards, HostBitsSet, MixedFamilies}
use Rattle.cm_net.specs.Spellings.{hexadecimal, joined_text}
use Rattle.cm_net.proofs.Apart.{leaves_alone, leaves_first, leaves_open, leaves_second}
use Rattle.cm_net.proofs.FreeTexts.{free_no, free_first}
use Rattle.cm_net.proofs.Spelled.{four_spelled, six_spelled}
use Rattle.cm_net.proofs.Words.{SubnetBody, PrefixBody, RangeBody, subnet_back, prefix_back, subnet_place, prefix_place, site_place, range_place, four_free_slash, six_free_slash, address_free}

-- ---- nets

-- what a split says
abbrev pub IsSplit : ℕ → List ℕ → List ℕ → Option (List ℕ) → Type 0
IsSplit sep body front None = body ≡ front
IsSplit sep body front (Some rest) = body ≡ front ++ sep ∷ rest

zero_bits : (most : ℕ) → IsBits most (48 ∷ []) 0
zero_bits most = record { few = omega arith; spelled = refl }

module _ (First : List ℕ → ℕ → Type 0) (free : (text : List ℕ) (n : ℕ) → First text n → IsFree 47 text) (most : ℕ) where
  abbrev pub NetBody : List ℕ → (ℕ × ℕ) → Type 0
  NetBody text x = Apart (λ first. First first x.0) (λ second. IsBits most second x.1) 47 text

  -- a first part that is no address
  pub net_leaves : (body front : List ℕ) (rest : Option (List ℕ)) (place : ℕ) → IsFree 47 front → IsSplit 47 body front rest → LeavesAt First front place → LeavesAt NetBody body place
  net_leaves body front None place none is leaves =
      subst (λ (t : List ℕ). LeavesAt NetBody t place) (sym is) (leaves_alone First (IsBits most) 47 free (48 ∷ []) 0 (zero_bits most) front place none leaves)
  net_leaves body front (Some rest) place none is leaves =
      leaves_first First (IsBits most) 47 free (48 ∷ []) 0 (zero_bits most) body front rest place none is leaves

  -- a body that begins with no address lacks no bits
  alone_lacks : (body front address : List ℕ) (rest : Option (List ℕ)) (n : ℕ) → IsSplit 47 body front rest → ((m : ℕ) → First front m → ⊥) → First address n → body ≡ address → ⊥
  alone_lacks body front address None n is never first same = never n (subst (λ (t : List ℕ). First t n) (sym same ∙ is) first)
  alone_lacks body front address (Some rest) n is never first same = free_no 47 address front rest (free address n first) (sym same ∙ is)

  first_lacks : (body front address : List ℕ) (rest : Option (List ℕ)) (tail : List ℕ) (n : ℕ) → IsFree 47 front → IsSplit 47 body front rest → ((m : ℕ) → First front m → ⊥) → First address n → body ≡ address ++ 47 ∷ tail → ⊥
  first_lacks body front address None tail n none is never first same = free_no 47 front address tail none (sym is ∙ same)
  first_lacks body front address (Some rest) tail n none is never first same =
      let both = free_first 47 front rest address tail none (free address n first) (sym is ∙ same) in
      never n (subst (λ (t : List ℕ). First t n) (sym both.0) first)

  -- a body that ends behind the address, or has no number of bits there, is none of the grammar
  pub short_none : (body : List ℕ) (x : ℕ × ℕ) → IsFree 47 body → NetBody body x → ⊥
  short_none body x none is = free_no 47 body is.first is.second none is.is

  pub bits_missing : (body front rest : List ℕ) (x : ℕ × ℕ) → IsFree 47 front → body ≡ front ++ 47 ∷ rest → ((bits : ℕ) → IsBits most rest bits → ⊥) → NetBody body x → ⊥
  bits_missing body front rest x none is never body_is =
      let both = free_first 47 front rest body_is.first body_is.second none (free body_is.first x.0 body_is.is_first) (sym is ∙ body_is.is) in
      never x.1 (subst (λ (t : List ℕ). IsBits most t x.1) (sym both.1) body_is.is_second)

  module _ (word : List ℕ) (cut : (a b : List ℕ) → word ++ a ≡ word ++ b → a ≡ b) where
    lacks_cases : (body front address : List ℕ) (rest : Option (List ℕ)) (n : ℕ) → IsFree 47 front → IsSplit 47 body front rest → ((m : ℕ) → First front m → ⊥) → First address n
        → (word ++ body ≡ word ++ address) ⊎ ((tail : List ℕ) × (word ++ body ≡ word ++ (address ++ 47 ∷ tail)) × ((bits : ℕ) → IsBits most tail bits → ⊥)) → ⊥
    lacks_cases body front address rest n none is never first (inl same) = alone_lacks body front address rest n is never first (cut body address same)
    lacks_cases body front address rest n none is never first (inr same) = first_lacks body front address rest same.0 n none is never first (cut body (address ++ 47 ∷ same.0) same.1)

    pub lacks_not : (body front : List ℕ) (rest : Option (List ℕ)) → IsFree 47 front → IsSplit 47 body front rest → ((m : ℕ) → First front m → ⊥) → LacksBits First word most (word ++ body) → ⊥
    lacks_not body front rest none is never lacks = lacks_cases body front lacks.address rest lacks.net none is never lacks.is_address lacks.ends

-- ---- words against each other

cut_subnet : (a b : List ℕ) → codes "subnet:" ++ a ≡ codes "subnet:" ++ b → a ≡ b
cut_subnet a b is = ap (λ (t : List ℕ). drop 7 t) is

cut_prefix : (a b : List ℕ) → codes "prefix:" ++ a ≡ codes "prefix:" ++ b → a ≡ b
cut_prefix a b is = ap (λ (t : List ℕ). drop 7 t) is

module _ (Address_ : List ℕ → ℕ → Type 0) (word other : List ℕ) (most : ℕ) (differs : (a b : List ℕ) → other ++ a ≡ word ++ b → ⊥) where
  ends_other : (body address : List ℕ) → (other ++ body ≡ word ++ address) ⊎ ((tail : List ℕ) × (other ++ body ≡ word ++ (address ++ 47 ∷ tail)) × ((bits : ℕ) → IsBits most tail bits → ⊥)) → ⊥
  ends_other body address (inl is) = differs body address is
  ends_other body address (inr is) = differs body (address ++ 47 ∷ is.0) is.1

  pub lacks_other : (body : List ℕ) → LacksBits Address_ word most (other ++ body) → ⊥
  lacks_other body lacks = ends_other body lacks.address lacks.ends

subnet_prefix : (a b : List ℕ) → codes "subnet:" ++ a ≡ codes "prefix:" ++ b → ⊥
subnet_prefix a b is = let byte : 115 ≡ 112 = ap (λ (t : List ℕ). get_or t 0 0) is in omega (arith, byte)

prefix_subnet : (a b : List ℕ) → codes "prefix:" ++ a ≡ codes "subnet:" ++ b → ⊥
prefix_subnet a b is = let byte : 112 ≡ 115 = ap (λ (t : List ℕ). get_or t 0 0) is in omega (arith, byte)

site_subnet : (a b : List ℕ) → codes "site:" ++ a ≡ codes "subnet:" ++ b → ⊥
site_subnet a b is = let byte : 105 ≡ 117 = ap (λ (t : List ℕ). get_or t 1 0) is in omega (arith, byte)

site_prefix : (a b : List ℕ) → codes "site:" ++ a ≡ codes "prefix:" ++ b → ⊥
site_prefix a b is = let byte : 115 ≡ 112 = ap (λ (t : List ℕ). get_or t 0 0) is in omega (arith, byte)

range_subnet : (a b : List ℕ) → codes "range:" ++ a ≡ codes "subnet:" ++ b → ⊥
range_subnet a b is = let byte : 114 ≡ 115 = ap (λ (t : List ℕ). get_or t 0 0) is in omega (arith, byte)

range_prefix : (a b : List ℕ) → codes "range:" ++ a ≡ codes "prefix:" ++ b → ⊥
range_prefix a b is = let byte : 114 ≡ 112 = ap (λ (t : List ℕ). get_or t 0 0) is in omega (arith, byte)

either_not : {A B : Type 0} → (A → ⊥) → (B → ⊥) → A ⊎ B → ⊥
either_not f g (inl a) = f a
either_not f g (inr b) = g b

-- ---- subnets

pub subnet_bad : (body front : List ℕ) (rest : Option (List ℕ)) (place : ℕ) → IsFree 47 front → IsSplit 47 body front rest → LeavesAt IsFour front place
    → IsBadPlace (codes "subnet:" ++ body) (7 + place) × (HasBadLength (codes "subnet:" ++ body) → ⊥)
subnet_bad body front rest place none is leaves = (
  subnet_place body place (net_leaves IsFour four_free_slash 32 body front rest place none is leaves),
  either_not (lacks_not IsFour four_free_slash 32 (codes "subnet:") cut_subnet body front rest none is leaves.none) (lacks_other IsSix (codes "prefix:") (codes "subnet:") 128 subnet_prefix body),
)

not_subnet : (body : List ℕ) → ((x : ℕ × ℕ) → SubnetBody body x → ⊥) → (what : Written) → IsWritten (codes "subnet:" ++ body) what → ⊥
not_subnet body never what written = let inner = subnet_back what body written.body written.is written.is_body in never inner.0 inner.1

pub subnet_short : (body front : List ℕ) (net : ℕ) → IsFree 47 front → body ≡ front → IsFour front net
    → HasBadLength (codes "subnet:" ++ body) × ((what : Written) → IsWritten (codes "subnet:" ++ body) what → ⊥)
subnet_short body front net none is four = (
  inl (record { address = front; net = net; is_address = four; ends = inl (ap (λ (t : List ℕ). codes "subnet:" ++ t) is) }),
  not_subnet body (λ x. short_none IsFour four_free_slash 32 body x (subst (λ (t : List ℕ). IsFree 47 t) (sym is) none)),
)

pub subnet_no_bits : (body front rest : List ℕ) (net : ℕ) → IsFree 47 front → body ≡ front ++ 47 ∷ rest → IsFour front net → ((bits : ℕ) → IsBits 32 rest bits → ⊥)
    → HasBadLength (codes "subnet:" ++ body) × ((what : Written) → IsWritten (codes "subnet:" ++ body) what → ⊥)
subnet_no_bits body front rest net none is four never = (
  inl (record { address = front; net = net; is_address = four; ends = inr (rest, ap (λ (t : List ℕ). codes "subnet:" ++ t) is, never) }),
  not_subnet body (λ x. bits_missing IsFour four_free_slash 32 body front rest x none is never),
)

pub subnet_written : (body front rest : List ℕ) (net bits : ℕ) → body ≡ front ++ 47 ∷ rest → IsFour front net → IsBits 32 rest bits → IsWritten (codes "subnet:" ++ body) (subnet net bits)
subnet_written body front rest net bits is four few = record { body = body; is_body = record { first = front; second = rest; is_first = four; is_second = few; is = is }; is = refl }

-- ---- prefixes

pub prefix_bad : (body front : List ℕ) (rest : Option (List ℕ)) (place : ℕ) → IsFree 47 front → IsSplit 47 body front rest → LeavesAt IsSix front place
    → IsBadPlace (codes "prefix:" ++ body) (7 + place) × (HasBadLength (codes "prefix:" ++ body) → ⊥)
prefix_bad body front rest place none is leaves = (
  prefix_place body place (net_leaves IsSix six_free_slash 128 body front rest place none is leaves),
  either_not (lacks_other IsFour (codes "subnet:") (codes "prefix:") 32 prefix_subnet body) (lacks_not IsSix six_free_slash 128 (codes "prefix:") cut_prefix body front rest none is leaves.none),
)

not_prefix : (body : List ℕ) → ((x : ℕ × ℕ) → PrefixBody body x → ⊥) → (what : Written) → IsWritten (codes "prefix:" ++ body) what → ⊥
not_prefix body never what written = let inner = prefix_back what body written.body written.is written.is_body in never inner.0 inner.1

pub prefix_short : (body front : List ℕ) (net : ℕ) → IsFree 47 front → body ≡ front → IsSix front net
    → HasBadLength (codes "prefix:" ++ body) × ((what : Written) → IsWritten (codes "prefix:" ++ body) what → ⊥)
prefix_short body front net none is six = (
  inr (record { address = front; net = net; is_address = six; ends = inl (ap (λ (t : List ℕ). codes "prefix:" ++ t) is) }),
  not_prefix body (λ x. short_none IsSix six_free_slash 128 body x (subst (λ (t : List ℕ). IsFree 47 t) (sym is) none)),
)

pub prefix_no_bits : (body front rest : List ℕ) (net : ℕ) → IsFree 47 front → body ≡ front ++ 47 ∷ rest → IsSix front net → ((bits : ℕ) → IsBits 128 rest bits → ⊥)
    → HasBadLength (codes "prefix:" ++ body) × ((what : Written) → IsWritten (codes "prefix:" ++ body) what → ⊥)
prefix_no_bits body front rest net none is six never = (
  inr (record { address = front; net = net; is_address = six; ends = inr (rest, ap (λ (t : List ℕ). codes "prefix:" ++ t) is, never) }),
  not_prefix body (λ x. bits_missing IsSix six_free_slash 128 body front rest x none is never),
)

pub prefix_written : (body front rest : List ℕ) (net bits : ℕ) → body ≡ front ++ 47 ∷ rest → IsSix front net → IsBits 128 rest bits → IsWritten (codes "prefix:" ++ body) (prefix net bits)
prefix_written body front rest net bits is six few = record { body = body; is_body = record { first = front; second = rest; is_first = six; is_second = few; is = is }; is = refl }

-- ---- sites

pub site_bad : (body : List ℕ) (place : ℕ) → LeavesAt IsSite body place → IsBadPlace (codes "site:" ++ body) (5 + place) × (HasBadLength (codes "site:" ++ body) → ⊥)
site_bad body place leaves = (
  site_place body place leaves,
  either_not (lacks_other IsFour (codes "subnet:") (codes "site:") 32 site_subnet body) (lacks_other IsSix (codes "prefix:") (codes "site:") 128 site_prefix body),
)

-- ---- ranges

zero_address : IsAddress (48 ∷ 46 ∷ 48 ∷ 46 ∷ 48 ∷ 46 ∷ 48 ∷ []) (V4 0)
zero_address = four_spelled 0 (omega arith)

abbrev not_range : (body : List ℕ) → HasBadLength (codes "range:" ++ body) → ⊥
not_range body = either_not (lacks_other IsFour (codes "subnet:") (codes "range:") 32 range_subnet body) (lacks_other IsSix (codes "prefix:") (codes "range:") 128 range_prefix body)

range_leaves : (body front : List ℕ) (rest : Option (List ℕ)) (place : ℕ) → IsFree 45 front → IsSplit 45 body front rest → LeavesAt IsAddress front place → LeavesAt RangeBody body place
range_leaves body front None place none is leaves =
    subst (λ (t : List ℕ). LeavesAt RangeBody t place) (sym is) (leaves_alone IsAddress IsAddress 45 address_free (48 ∷ 46 ∷ 48 ∷ 46 ∷ 48 ∷ 46 ∷ 48 ∷ []) (V4 0) zero_address front place none leaves)
range_leaves body front (Some rest) place none is leaves =
    leaves_first IsAddress IsAddress 45 address_free (48 ∷ 46 ∷ 48 ∷ 46 ∷ 48 ∷ 46 ∷ 48 ∷ []) (V4 0) zero_address body front rest place none is leaves

pub range_first : (body front : List ℕ) (rest : Option (List ℕ)) (place : ℕ) → IsFree 45 front → IsSplit 45 body front rest → LeavesAt IsAddress front place
    → IsBadPlace (codes "range:" ++ body) (6 + place) × (HasBadLength (codes "range:" ++ body) → ⊥)
range_first body front rest place none is leaves = (range_place body place (range_leaves body front rest place none is leaves), not_range body)

pub range_open : (body front : List ℕ) (from : Address) → IsFree 45 front → body ≡ front → IsAddress front from
    → IsBadPlace (codes "range:" ++ body) (6 + length front) × (HasBadLength (codes "range:" ++ body) → ⊥)
range_open body front from none is first =
    (range_place body (length front) (subst (λ (t : List ℕ). LeavesAt RangeBody t (length front)) (sym is) (leaves_open IsAddress IsAddress 45 address_free (48 ∷ 46 ∷ 48 ∷ 46 ∷ 48 ∷ 46 ∷ 48 ∷ []) (V4 0) zero_address front from none first)), not_range body)

pub range_second : (body front rest : List ℕ) (from : Address) (place : ℕ) → IsFree 45 front → body ≡ front ++ 45 ∷ rest → IsAddress front from → LeavesAt IsAddress rest place
    → IsBadPlace (codes "range:" ++ body) (6 + (length front + (1 + place))) × (HasBadLength (codes "range:" ++ body) → ⊥)
range_second body front rest from place none is first leaves =
    (range_place body (length front + (1 + place)) (leaves_second IsAddress IsAddress 45 address_free (48 ∷ 46 ∷ 48 ∷ 46 ∷ 48 ∷ 46 ∷ 48 ∷ []) (V4 0) zero_address body front rest from place none is first leaves), not_range body)

pub range_written : (body front rest : List ℕ) (from to : Address) → body ≡ front ++ 45 ∷ rest → IsAddress front from → IsAddress rest to → IsWritten (codes "range:" ++ body) (range from to)
range_written body front rest from to is first second = record { body = body; is_body = record { first = front; second = rest; is_first = first; is_second = second; is = is }; is = refl }

-- ---- for the reader's code

pub as_split : (sep : ℕ) (body front : List ℕ) (o : Option (Bor (List ℕ))) → MatchOption o (body ≡ front) (λ rest. body ≡ front ++ sep ∷ rest.now) → IsSplit sep body front (option_map (λ (r : Bor (List ℕ)). r.now) o)
as_split sep body front None is = is
as_split sep body front (Some rest) is = is

pub subnet_sound : (net bits n k : ℕ) → n ≡ net → k ≡ bits → true ≡ eqb (n % 2 ^ (32 - k)) 0 → judged (subnet net bits) ≡ Ok (Subnet net bits)
subnet_sound net bits n k p q is = let yes : eqb (net % 2 ^ (32 - bits)) 0 ≡ true = sym (rw (p, q) at is) in rw yes refl

pub subnet_hosts : (net bits n k : ℕ) → n ≡ net → k ≡ bits → false ≡ eqb (n % 2 ^ (32 - k)) 0 → judged (subnet net bits) ≡ Err HostBitsSet
subnet_hosts net bits n k p q is = let no : eqb (net % 2 ^ (32 - bits)) 0 ≡ false = sym (rw (p, q) at is) in rw no refl

pub prefix_sound : (net bits k : ℕ) → k ≡ bits → true ≡ eqb (net % 2 ^ (128 - k)) 0 → judged (prefix net bits) ≡ Ok (Prefix6 net bits)
prefix_sound net bits k q is = let yes : eqb (net % 2 ^ (128 - bits)) 0 ≡ true = sym (rw q at is) in rw yes refl

pub prefix_hosts : (net bits k : ℕ) → k ≡ bits → false ≡ eqb (net % 2 ^ (128 - k)) 0 → judged (prefix net bits) ≡ Err HostBitsSet
prefix_hosts net bits k q is = let no : eqb (net % 2 ^ (128 - bits)) 0 ≡ false = sym (rw q at is) in rw no refl

-- a range is answered as its ends say
pub from_ends : (text : List ℕ) (from to : Address) (result : Result Boundary NetFault) → range_of from to ≡ result → IsWritten text (range from to) → Answers text result
from_ends text (V4 from) (V4 to) result is written = by_order (ltb to from) refl
  where
    by_order : (less : Bool) → ltb to from ≡ less → Answers text result
    by_order true e =
        let err : range_of (V4 from) (V4 to) ≡ Err RangeBackwards = rw e refl in
        subst (λ (r : Result Boundary NetFault). Answers text r) (sym err ∙ is) (range (V4 from) (V4 to), written, err)
    by_order false e =
        let ok : range_of (V4 from) (V4 to) ≡ Ok (Range4 from to) = rw e refl in
        subst (λ (r : Result Boundary NetFault). Answers text r) (sym ok ∙ is) (range (V4 from) (V4 to), written, ok)
from_ends text (V6 from) (V6 to) result is written = by_order (ltb to from) refl
  where
    by_order : (less : Bool) → ltb to from ≡ less → Answers text result
    by_order true e =
        let err : range_of (V6 from) (V6 to) ≡ Err RangeBackwards = rw e refl in
        subst (λ (r : Result Boundary NetFault). Answers text r) (sym err ∙ is) (range (V6 from) (V6 to), written, err)
    by_order false e =
        let ok : range_of (V6 from) (V6 to) ≡ Ok (Range6 from to) = rw e refl in
        subst (λ (r : Result Boundary NetFault). Answers text r) (sym ok ∙ is) (range (V6 from) (V6 to), written, ok)
from_ends text (V4 from) (V6 to) result is written = subst (λ (r : Result Boundary NetFault). Answers text r) is (range (V4 from) (V6 to), written, refl)
from_ends text (V6 from) (V4 to) result is written = subst (λ (r : Result Boundary NetFault). Answers text r) is (range (V6 from) (V4 to), written, refl)

pub range_answers : (body front rest : List ℕ) (from to : Address) (result : Result Boundary NetFault) → body ≡ front ++ 45 ∷ rest → IsAddress front from → IsAddress rest to → result ≡ range_of from to → Answers (codes "range:" ++ body) result
range_answers body front rest from to result is first second answer = from_ends (codes "range:" ++ body) from to result (sym answer) (range_written body front rest from to is first second)

pub answers_ok : (text other : List ℕ) (result : Result Boundary NetFault) → text ≡ other → Answers other result → IfOk result (λ boundary. (what : Written) × IsWritten text what × (judged what ≡ Ok boundary))
answers_ok text other (Ok boundary) is answer = subst (λ (t : List ℕ). Answers t (Ok boundary)) (sym is) answer
answers_ok text other (Err fault) is answer = tt

pub answers_fault : (text other : List ℕ) (result : Result Boundary NetFault) → text ≡ other → Answers other result → IfErr result (λ fault. IsFaultOf text fault)
answers_fault text other (Ok boundary) is answer = tt
answers_fault text other (Err fault) is answer = subst (λ (t : List ℕ). Answers t (Err fault)) (sym is) answer

never_ok : (b : Boundary) → Ok b ≡ Err HostBitsSet → ⊥
never_ok b is = cc

never_back : (b : Boundary) → Ok b ≡ Err RangeBackwards → ⊥
never_back b is = cc

never_mixed : (b : Boundary) → Ok b ≡ Err MixedFamilies → ⊥
never_mixed b is = cc

subnet_cases : (net bits : ℕ) (b : Boundary) (zeros : Bool) → bits ≤ 32 → eqb (net % 2 ^ (32 - bits)) 0 ≡ zeros → cond zeros (Ok (Subnet net bits)) (Err HostBitsSet) ≡ Ok b → IsSound b
subnet_cases net bits b true few e is = let same : Subnet net bits ≡ b = cc in subst (λ (x : Boundary). IsSound x) same (few, eqb-true (net % 2 ^ (32 - bits)) 0 e)
subnet_cases net bits b false few e is = let never : Ok b ≡ Err HostBitsSet = sym is in absurd (never_ok b never)

prefix_cases : (net bits : ℕ) (b : Boundary) (zeros : Bool) → bits ≤ 128 → eqb (net % 2 ^ (128 - bits)) 0 ≡ zeros → cond zeros (Ok (Prefix6 net bits)) (Err HostBitsSet) ≡ Ok b → IsSound b
prefix_cases net bits b true few e is = let same : Prefix6 net bits ≡ b = cc in subst (λ (x : Boundary). IsSound x) same (few, eqb-true (net % 2 ^ (128 - bits)) 0 e)
prefix_cases net bits b false few e is = let never : Ok b ≡ Err HostBitsSet = sym is in absurd (never_ok b never)

order_cases : (from to : ℕ) (made b : Boundary) (less : Bool) → (from ≤ to → IsSound made) → ltb to from ≡ less → cond less (Err RangeBackwards) (Ok made) ≡ Ok b → IsSound b
order_cases from to made b true sound e is = let never : Ok b ≡ Err RangeBackwards = sym is in absurd (never_back b never)
order_cases from to made b false sound e is = let same : made ≡ b = cc in subst (λ (x : Boundary). IsSound x) same (sound (ltb-false to from e))

written_sound : (body : List ℕ) (w : Written) (b : Boundary) → IsBody body w → judged w ≡ Ok b → IsSound b
written_sound body (subnet net bits) b inner is = subnet_cases net bits b (eqb (net % 2 ^ (32 - bits)) 0) inner.is_second.few refl is
written_sound body (prefix net bits) b inner is = prefix_cases net bits b (eqb (net % 2 ^ (128 - bits)) 0) inner.is_second.few refl is
written_sound body (site name) b inner is = let same : Site name ≡ b = cc in subst (λ (x : Boundary). IsSound x) same tt
written_sound body (range (V4 from) (V4 to)) b inner is = order_cases from to (Range4 from to) b (ltb to from) (λ h. h) refl is
written_sound body (range (V6 from) (V6 to)) b inner is = order_cases from to (Range6 from to) b (ltb to from) (λ h. h) refl is
written_sound body (range (V4 from) (V6 to)) b inner is = absurd (never_mixed b (sym is))
written_sound body (range (V6 from) (V4 to)) b inner is = absurd (never_mixed b (sym is))

pub answers_sound : (text : List ℕ) (result : Result Boundary NetFault) → Answers text result → IfOk result (λ boundary. IsSound boundary)
answers_sound text (Ok boundary) answer = written_sound answer.1.body answer.0 boundary answer.1.is_body answer.2
answers_sound text (Err fault) answer = tt

-- ---- texts without a leading word

front_leaves : (text rest body : List ℕ) (w : Written) → word_of w ≡ text ++ rest → IsBody body w → ((what : Written) (b : List ℕ) → text ≡ word_of what ++ b → ⊥) → IsBadPlace text (length text)
front_leaves text rest body w is inner never = inr (
  (λ wrong. (wrong w rest).1 (sym is)),
  record {
    within = omega arith;
    front = (
      rest ++ body,
      w,
      record {
        body = body;
        is_body = inner;
        is = ap (λ (t : List ℕ). t ++ (rest ++ body)) (take_all (length text) text (omega arith)) ∙ (sym (append_assoc text rest body) ∙ ap (λ (t : List ℕ). t ++ body) (sym is));
      },
    );
    longest = λ below front. absurd (omega (arith, below));
    none = λ what written. never what written.body written.is;
  },
)

zero_six : IsSix (joined_text hexadecimal 58 65536 8 0) 0
zero_six = six_spelled 0 (omega arith)

pub front_subnet : (text rest : List ℕ) → codes "subnet:" ≡ text ++ rest → ((what : Written) (b : List ℕ) → text ≡ word_of what ++ b → ⊥) → IsBadPlace text (length text)
front_subnet text rest is never =
    front_leaves text rest ((48 ∷ 46 ∷ 48 ∷ 46 ∷ 48 ∷ 46 ∷ 48 ∷ []) ++ 47 ∷ 48 ∷ []) (subnet 0 0) is
    (record { first = 48 ∷ 46 ∷ 48 ∷ 46 ∷ 48 ∷ 46 ∷ 48 ∷ []; second = 48 ∷ []; is_first = zero_address; is_second = zero_bits 32; is = refl }) never

pub front_prefix : (text rest : List ℕ) → codes "prefix:" ≡ text ++ rest → ((what : Written) (b : List ℕ) → text ≡ word_of what ++ b → ⊥) → IsBadPlace text (length text)
front_prefix text rest is never =
    front_leaves text rest (joined_text hexadecimal 58 65536 8 0 ++ 47 ∷ 48 ∷ []) (prefix 0 0) is
    (record { first = joined_text hexadecimal 58 65536 8 0; second = 48 ∷ []; is_first = zero_six; is_second = zero_bits 128; is = refl }) never

pub front_site : (text rest : List ℕ) → codes "site:" ≡ text ++ rest → ((what : Written) (b : List ℕ) → text ≡ word_of what ++ b → ⊥) → IsBadPlace text (length text)
front_site text rest is never = front_leaves text rest (97 ∷ []) (site (97 ∷ [])) is refl never

pub front_range : (text rest : List ℕ) → codes "range:" ≡ text ++ rest → ((what : Written) (b : List ℕ) → text ≡ word_of what ++ b → ⊥) → IsBadPlace text (length text)
front_range text rest is never =
    front_leaves text rest ((48 ∷ 46 ∷ 48 ∷ 46 ∷ 48 ∷ 46 ∷ 48 ∷ []) ++ 45 ∷ (48 ∷ 46 ∷ 48 ∷ 46 ∷ 48 ∷ 46 ∷ 48 ∷ [])) (range (V4 0) (V4 0)) is
    (record { first = 48 ∷ 46 ∷ 48 ∷ 46 ∷ 48 ∷ 46 ∷ 48 ∷ []; second = 48 ∷ 46 ∷ 48 ∷ 46 ∷ 48 ∷ 46 ∷ 48 ∷ []; is_first = zero_address; is_second = zero_address; is = refl }) never

pub front_short : (text rest word : List ℕ) → word ≡ text ++ rest → length word ≤ 7 → length text < 1000
front_short text rest word is few = omega (arith, few, ap length is ∙ length-append text rest)
