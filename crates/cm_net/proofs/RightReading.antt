-- The reading by functions is right by the grammar, and no other one is.
use Rattle.std.proofs.Common.{◌≡◌, ℕ, ◌+◌, ◌-◌, ◌%◌, ◌^◌, ◌<◌, ◌↔◌, Bool, true, false, cond, eqb, leb, max, List, [], ◌∷◌, ◌++◌, length, take, drop, Option, None, Some, Result, Ok, Err, option_map, codes, refl, sym, ap, ◌∙◌, subst, arith, inl, inr, ◌⊎◌}
use Rattle.std.specs.Option.{ok_or, option_and_then}
use Rattle.std.specs.Str.{bytes_eq}
use Rattle.std.proofs.lemmas.Bool.{eqb-true, eqb-false, leb-true, le-leb}
use Rattle.cm_base.specs.Names.{name_of}
use Rattle.cm_net.specs.declared.address.Address.{Address}
use Rattle.cm_net.specs.declared.address.Address.TheVariants.{V4, V6}
use Rattle.cm_net.specs.declared.boundary.Boundary.{Boundary}
use Rattle.cm_net.specs.declared.boundary.Boundary.TheVariants.{Subnet, Prefix6}
use Rattle.cm_net.specs.declared.fault.NetFault.{NetFault}
use Rattle.cm_net.specs.declared.fault.NetFault.TheVariants.{BadAddress, BadLength, HostBitsSet}
use Rattle.cm_net.specs.Addresses.{IsFour, IsSix, IsAddress}
use Rattle.cm_net.specs.FourReader.{Four, start4, step4, final4, lone4}
use Rattle.cm_net.specs.Free.{IsFree}
use Rattle.cm_net.specs.Machines.{run}
use Rattle.cm_net.specs.Meanings.{rule_of, IsAddressOf, IsBoundaryOf}
use Rattle.cm_net.specs.Readings.{four_in, six_in, address_from, address_in, bits_in, before, after, net_from, subnet_in, prefix_in, site_in, range_from, range_in, behind, either_in, written_in, by_rule, boundary_from, boundary_in}
use Rattle.cm_net.specs.SixReader.{start6, step6, final6}
use Rattle.cm_net.specs.Texts.{LeavesAt}
use Rattle.cm_net.specs.Written.{Written, subnet, prefix, site, range, IsBits, IsWritten, IsFaultOf, IsBadPlace, LacksBits, HasBadLength, HasWrongWord, Answers, judged, range_of, word_of}
use Rattle.cm_net.proofs.BitTexts.{bits_read, bits_lone}
use Rattle.cm_net.proofs.FourTexts.{reads4}
use Rattle.cm_net.proofs.FreeTexts.{word_there, word_other}
use Rattle.cm_net.proofs.Fronts.{leaves_either}
use Rattle.cm_net.proofs.Machines.{by_option, means_read, leaves_somewhere}
use Rattle.cm_net.proofs.OneReading.{one_address_of, one_boundary_of}
use Rattle.cm_net.proofs.Reading.{IsSplit, from_ends, subnet_bad, subnet_short, subnet_no_bits, subnet_written, prefix_bad, prefix_short, prefix_no_bits, prefix_written, site_bad, range_first, range_open, range_second, range_written, front_subnet, front_prefix, front_site, front_range}
use Rattle.cm_net.proofs.SiteTexts.{name_leaves}
use Rattle.cm_net.proofs.SixTexts.{reads6}

-- ---- addresses

four_means : (text : List ℕ) (n : ℕ) → four_in text ≡ Some n → IsFour text n
four_means text n is = means_read step4 start4 final4 IsFour reads4 text n is

six_means : (text : List ℕ) (n : ℕ) → six_in text ≡ Some n → IsSix text n
six_means text n is = means_read step6 start6 final6 IsSix reads6 text n is

four_leaves : (text : List ℕ) → four_in text ≡ None → (place : ℕ) × LeavesAt IsFour text place
four_leaves text none = leaves_somewhere step4 start4 final4 IsFour reads4 text none

six_leaves : (text : List ℕ) → six_in text ≡ None → (place : ℕ) × LeavesAt IsSix text place
six_leaves text none = leaves_somewhere step6 start6 final6 IsSix reads6 text none

means_either : (text : List ℕ) (four six : Option ℕ) (x : Address) → four_in text ≡ four → six_in text ≡ six → address_from four six ≡ Some x → IsAddress text x
means_either text (Some n) six x p q is = let same : V4 n ≡ x = cc in subst (λ (y : Address). IsAddress text y) same (four_means text n p)
means_either text None (Some n) x p q is = let same : V6 n ≡ x = cc in subst (λ (y : Address). IsAddress text y) same (six_means text n q)
means_either text None None x p q is = let no : None ≡ Some x = is in cc

address_means : (text : List ℕ) (x : Address) → address_in text ≡ Some x → IsAddress text x
address_means text x is = means_either text (four_in text) (six_in text) x refl refl is

leaves_both : (text : List ℕ) (four six : Option ℕ) → four_in text ≡ four → six_in text ≡ six → address_from four six ≡ None → (place : ℕ) × LeavesAt IsAddress text place
leaves_both text (Some n) six p q none = let no : None ≡ Some (V4 n) = sym none in cc
leaves_both text None (Some n) p q none = let no : None ≡ Some (V6 n) = sym none in cc
leaves_both text None None p q none =
    let four = four_leaves text p in
    let six = six_leaves text q in
    (max four.0 six.0, leaves_either text four.0 six.0 four.1 six.1)

address_leaves : (text : List ℕ) → address_in text ≡ None → (place : ℕ) × LeavesAt IsAddress text place
address_leaves text none = leaves_both text (four_in text) (six_in text) refl refl none

address_right : (text : List ℕ) (o : Option Address) → address_in text ≡ o → IsAddressOf text o
address_right text (Some x) is = address_means text x is
address_right text None none = (address_leaves text none).1.none

-- ---- numbers of bits

bits_up_to : (most p q : ℕ) (text : List ℕ) (s : Four) (few : Bool) → run step4 (Some start4) text ≡ Some s → lone4 s ≡ Some q → leb q most ≡ few → cond few (Some q) None ≡ Some p → IsBits most text p
bits_up_to most p q text s true read lone e is =
    let same : q ≡ p = cc in
    subst (λ (n : ℕ). IsBits most text n) same (bits_lone most q text s read lone (leb-true q most e))
bits_up_to most p q text s false read lone e is = let no : None ≡ Some p = is in cc

bits_means : (most p : ℕ) (text : List ℕ) → bits_in most text ≡ Some p → IsBits most text p
bits_means most p text is =
    by_option (run step4 (Some start4) text) (λ e. let no : None ≡ Some p = rw e at is in cc)
    (λ s read. by_option (lone4 s) (λ e. let no : None ≡ Some p = rw (read, e) at is in cc)
    (λ q lone. bits_up_to most p q text s (leb q most) read lone refl (rw (read, lone) at is)))

bits_not : (most : ℕ) (text : List ℕ) → most < 256 → bits_in most text ≡ None → (bits : ℕ) → IsBits most text bits → ⊥
bits_not most text small none bits is =
    let there : bits_in most text ≡ Some bits = rw (bits_read most bits text small is, le-leb bits most is.few) refl in
    let no : None ≡ Some bits = sym none ∙ there in cc

-- ---- the first separator

free_before : (separator : ℕ) (text : List ℕ) → IsFree separator (before separator text)
free_before separator [] = tt
free_before separator (b ∷ text) = by_test (eqb b separator) refl (free_before separator text)
  where
    by_test : (same : Bool) → eqb b separator ≡ same → IsFree separator (before separator text) → IsFree separator (cond same [] (b ∷ before separator text))
    by_test true e free = tt
    by_test false e free = (eqb-false b separator e, free)

split_more : (separator b : ℕ) (text front : List ℕ) (rest : Option (List ℕ)) → IsSplit separator text front rest → IsSplit separator (b ∷ text) (b ∷ front) rest
split_more separator b text front None is = ap (λ (t : List ℕ). b ∷ t) is
split_more separator b text front (Some rest) is = ap (λ (t : List ℕ). b ∷ t) is

is_split : (separator : ℕ) (text : List ℕ) → IsSplit separator text (before separator text) (after separator text)
is_split separator [] = refl
is_split separator (b ∷ text) = by_test (eqb b separator) refl (is_split separator text)
  where
    by_test : (same : Bool) → eqb b separator ≡ same → IsSplit separator text (before separator text) (after separator text)
        → IsSplit separator (b ∷ text) (cond same [] (b ∷ before separator text)) (cond same (Some text) (after separator text))
    by_test true e split = ap (λ (c : ℕ). c ∷ text) (eqb-true b separator e)
    by_test false e split = split_more separator b text (before separator text) (after separator text) split

-- ---- what stands behind each word

-- what is written in a text, or a fault of it
abbrev Told : List ℕ → Result Written ℕ → Type 0
Told text (Ok what) = IsWritten text what
Told text (Err rule) = (fault : NetFault) × IsFaultOf text fault × (rule ≡ rule_of fault)

subnet_from : (body front : List ℕ) (rest : Option (List ℕ)) (net bits : Option ℕ) → IsFree 47 front → IsSplit 47 body front rest → four_in front ≡ net → option_and_then (bits_in 32) rest ≡ bits
    → Told (codes "subnet:" ++ body) (net_from subnet net bits)
subnet_from body front rest None bits free is p q = let place = four_leaves front p in (BadAddress (7 + place.0), subnet_bad body front rest place.0 free is place.1, refl)
subnet_from body front None (Some net) None free is p q = (BadLength, subnet_short body front net free is (four_means front net p), refl)
subnet_from body front None (Some net) (Some bits) free is p q = let no : None ≡ Some bits = q in cc
subnet_from body front (Some rest) (Some net) None free is p q = (BadLength, subnet_no_bits body front rest net free is (four_means front net p) (bits_not 32 rest (omega arith) q), refl)
subnet_from body front (Some rest) (Some net) (Some bits) free is p q = subnet_written body front rest net bits is (four_means front net p) (bits_means 32 bits rest q)

subnet_told : (body : List ℕ) → Told (codes "subnet:" ++ body) (subnet_in body)
subnet_told body = subnet_from body (before 47 body) (after 47 body) (four_in (before 47 body)) (option_and_then (bits_in 32) (after 47 body)) (free_before 47 body) (is_split 47 body) refl refl

prefix_from : (body front : List ℕ) (rest : Option (List ℕ)) (net bits : Option ℕ) → IsFree 47 front → IsSplit 47 body front rest → six_in front ≡ net → option_and_then (bits_in 128) rest ≡ bits
    → Told (codes "prefix:" ++ body) (net_from prefix net bits)
prefix_from body front rest None bits free is p q = let place = six_leaves front p in (BadAddress (7 + place.0), prefix_bad body front rest place.0 free is place.1, refl)
prefix_from body front None (Some net) None free is p q = (BadLength, prefix_short body front net free is (six_means front net p), refl)
prefix_from body front None (Some net) (Some bits) free is p q = let no : None ≡ Some bits = q in cc
prefix_from body front (Some rest) (Some net) None free is p q = (BadLength, prefix_no_bits body front rest net free is (six_means front net p) (bits_not 128 rest (omega arith) q), refl)
prefix_from body front (Some rest) (Some net) (Some bits) free is p q = prefix_written body front rest net bits is (six_means front net p) (bits_means 128 bits rest q)

prefix_told : (body : List ℕ) → Told (codes "prefix:" ++ body) (prefix_in body)
prefix_told body = prefix_from body (before 47 body) (after 47 body) (six_in (before 47 body)) (option_and_then (bits_in 128) (after 47 body)) (free_before 47 body) (is_split 47 body) refl refl

site_from : (body : List ℕ) (name : Option (List ℕ)) → name_of body ≡ name → Told (codes "site:" ++ body) (ok_or (option_map site name) 1)
site_from body None is = let place = name_leaves body is in (BadAddress (5 + place.0), site_bad body place.0 place.1, refl)
site_from body (Some name) is = record { body = body; is_body = is; is = refl }

site_told : (body : List ℕ) → Told (codes "site:" ++ body) (site_in body)
site_told body = site_from body (name_of body) refl

range_parts : (body front : List ℕ) (rest : Option (List ℕ)) (from to : Option Address) → IsFree 45 front → IsSplit 45 body front rest → address_in front ≡ from → option_and_then address_in rest ≡ to
    → Told (codes "range:" ++ body) (range_from from to)
range_parts body front rest None to free is p q = let place = address_leaves front p in (BadAddress (6 + place.0), range_first body front rest place.0 free is place.1, refl)
range_parts body front None (Some from) None free is p q = (BadAddress (6 + length front), range_open body front from free is (address_means front from p), refl)
range_parts body front None (Some from) (Some to) free is p q = let no : None ≡ Some to = q in cc
range_parts body front (Some rest) (Some from) None free is p q =
    let place = address_leaves rest q in
    (BadAddress (6 + (length front + (1 + place.0))), range_second body front rest from place.0 free is (address_means front from p) place.1, refl)
range_parts body front (Some rest) (Some from) (Some to) free is p q = range_written body front rest from to is (address_means front from p) (address_means rest to q)

range_told : (body : List ℕ) → Told (codes "range:" ++ body) (range_in body)
range_told body = range_parts body (before 45 body) (after 45 body) (address_in (before 45 body)) (option_and_then address_in (after 45 body)) (free_before 45 body) (is_split 45 body) refl refl

-- ---- the leading word

begins_with : (word text body : List ℕ) → behind word text ≡ Some body → text ≡ word ++ body
begins_with word text body is = by_test (bytes_eq (take (length word) text) word) refl is
  where
    by_test : (same : Bool) → bytes_eq (take (length word) text) word ≡ same → cond same (Some (drop (length word) text)) None ≡ Some body → text ≡ word ++ body
    by_test true e is' =
        let rest : drop (length word) text ≡ body = cc in
        word_there text word (take (length word) text) (drop (length word) text) refl refl e ∙ ap (λ (t : List ℕ). word ++ t) rest
    by_test false e is' = let no : None ≡ Some body = is' in cc

begins_not : (word text : List ℕ) → behind word text ≡ None → (body : List ℕ) → text ≡ word ++ body → ⊥
begins_not word text none body is = by_test (bytes_eq (take (length word) text) word) refl none
  where
    by_test : (same : Bool) → bytes_eq (take (length word) text) word ≡ same → cond same (Some (drop (length word) text)) None ≡ None → ⊥
    by_test true e none' = let no : None ≡ Some (drop (length word) text) = sym none' in cc
    by_test false e none' = word_other text word (take (length word) text) body refl e is

told_either : (word text : List ℕ) (body_in : List ℕ → Result Written ℕ) (body : Option (List ℕ)) (other : Result Written ℕ) → behind word text ≡ body
    → ((rest : List ℕ) → Told (word ++ rest) (body_in rest)) → (((rest : List ℕ) → text ≡ word ++ rest → ⊥) → Told text other) → Told text (either_in body_in body other)
told_either word text body_in None other is told next = next (begins_not word text is)
told_either word text body_in (Some body) other is told next = subst (λ (t : List ℕ). Told t (body_in body)) (sym (begins_with word text body is)) (told body)

lacks_word : (Net : List ℕ → ℕ → Type 0) (word : List ℕ) (most : ℕ) (text : List ℕ) → ((rest : List ℕ) → text ≡ word ++ rest → ⊥) → LacksBits Net word most text → ⊥
lacks_word Net word most text never lacks = by_end lacks.ends
  where
    by_end : (text ≡ word ++ lacks.address) ⊎ ((rest : List ℕ) × (text ≡ word ++ (lacks.address ++ 47 ∷ rest)) × ((bits : ℕ) → IsBits most rest bits → ⊥)) → ⊥
    by_end (inl is) = never lacks.address is
    by_end (inr is) = never (lacks.address ++ 47 ∷ is.0) is.1

-- no leading word stands there
module _ (text : List ℕ) (no_subnet : (rest : List ℕ) → text ≡ codes "subnet:" ++ rest → ⊥) (no_prefix : (rest : List ℕ) → text ≡ codes "prefix:" ++ rest → ⊥)
    (no_site : (rest : List ℕ) → text ≡ codes "site:" ++ rest → ⊥) (no_range : (rest : List ℕ) → text ≡ codes "range:" ++ rest → ⊥) where
  no_word : (what : Written) (rest : List ℕ) → text ≡ word_of what ++ rest → ⊥
  no_word (subnet net bits) = no_subnet
  no_word (prefix net bits) = no_prefix
  no_word (site name) = no_site
  no_word (range from to) = no_range

  not_short : HasBadLength text → ⊥
  not_short (inl lacks) = lacks_word IsFour (codes "subnet:") 32 text no_subnet lacks
  not_short (inr lacks) = lacks_word IsSix (codes "prefix:") 128 text no_prefix lacks

  bad : (place : ℕ) → IsBadPlace text place → Told text (Err 1)
  bad place is = (BadAddress place, (is, not_short), refl)

  wrong : behind text (codes "subnet:") ≡ None → behind text (codes "prefix:") ≡ None → behind text (codes "site:") ≡ None → behind text (codes "range:") ≡ None → HasWrongWord text
  wrong p q r s (subnet net bits) rest = (no_subnet rest, λ is. begins_not text (codes "subnet:") p rest (sym is))
  wrong p q r s (prefix net bits) rest = (no_prefix rest, λ is. begins_not text (codes "prefix:") q rest (sym is))
  wrong p q r s (site name) rest = (no_site rest, λ is. begins_not text (codes "site:") r rest (sym is))
  wrong p q r s (range from to) rest = (no_range rest, λ is. begins_not text (codes "range:") s rest (sym is))

  no_word_told : Told text (Err 1)
  no_word_told =
      by_option (behind text (codes "subnet:"))
      (λ p. by_option (behind text (codes "prefix:"))
      (λ q. by_option (behind text (codes "site:"))
      (λ r. by_option (behind text (codes "range:"))
      (λ s. bad 0 (inl (wrong p q r s, refl)))
      (λ rest s. bad (length text) (front_range text rest (begins_with text (codes "range:") rest s) no_word)))
      (λ rest r. bad (length text) (front_site text rest (begins_with text (codes "site:") rest r) no_word)))
      (λ rest q. bad (length text) (front_prefix text rest (begins_with text (codes "prefix:") rest q) no_word)))
      (λ rest p. bad (length text) (front_subnet text rest (begins_with text (codes "subnet:") rest p) no_word))

written_told : (text : List ℕ) → Told text (written_in text)
written_told text =
    told_either (codes "subnet:") text subnet_in (behind (codes "subnet:") text) _ refl subnet_told
    (λ no_subnet. told_either (codes "prefix:") text prefix_in (behind (codes "prefix:") text) _ refl prefix_told
    (λ no_prefix. told_either (codes "site:") text site_in (behind (codes "site:") text) _ refl site_told
    (λ no_site. told_either (codes "range:") text range_in (behind (codes "range:") text) _ refl range_told
    (λ no_range. no_word_told text no_subnet no_prefix no_site no_range))))

-- ---- the boundary

judged_right : (text : List ℕ) (what : Written) → IsWritten text what → Answers text (judged what)
judged_right text (subnet net bits) is = by_zeros (eqb (net % 2 ^ (32 - bits)) 0) refl
  where
    by_zeros : (zeros : Bool) → eqb (net % 2 ^ (32 - bits)) 0 ≡ zeros → Answers text (cond zeros (Ok (Subnet net bits)) (Err HostBitsSet))
    by_zeros true e = (subnet net bits, is, rw e refl)
    by_zeros false e = (subnet net bits, is, rw e refl)
judged_right text (prefix net bits) is = by_zeros (eqb (net % 2 ^ (128 - bits)) 0) refl
  where
    by_zeros : (zeros : Bool) → eqb (net % 2 ^ (128 - bits)) 0 ≡ zeros → Answers text (cond zeros (Ok (Prefix6 net bits)) (Err HostBitsSet))
    by_zeros true e = (prefix net bits, is, rw e refl)
    by_zeros false e = (prefix net bits, is, rw e refl)
judged_right text (site name) is = (site name, is, refl)
judged_right text (range from to) is = from_ends text from to (range_of from to) refl is

by_rule_right : (text : List ℕ) (answer : Result Boundary NetFault) → Answers text answer → IsBoundaryOf text (by_rule answer)
by_rule_right text (Ok boundary) is = is
by_rule_right text (Err fault) is = (fault, is, refl)

boundary_right : (text : List ℕ) (said : Result Written ℕ) → Told text said → IsBoundaryOf text (boundary_from said)
boundary_right text (Ok what) told = by_rule_right text (judged what) (judged_right text what told)
boundary_right text (Err rule) told = told

-- ---- and no other is

pub address_is : (text : List ℕ) (said : Option Address) → IsAddressOf text said ↔ (said ≡ address_in text)
address_is text said =
    let right : IsAddressOf text (address_in text) = address_right text (address_in text) refl in
    (λ is. one_address_of text said (address_in text) is right, λ same. subst (λ (o : Option Address). IsAddressOf text o) (sym same) right)

pub boundary_is : (text : List ℕ) (said : Result Boundary ℕ) → IsBoundaryOf text said ↔ (said ≡ boundary_in text)
boundary_is text said =
    let right : IsBoundaryOf text (boundary_in text) = boundary_right text (written_in text) (written_told text) in
    (λ is. one_boundary_of text said (boundary_in text) is right, λ same. subst (λ (r : Result Boundary ℕ). IsBoundaryOf text r) (sym same) right)
