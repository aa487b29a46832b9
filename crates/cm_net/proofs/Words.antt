-- Leading words, and where the text of a boundary leaves the grammar.
use Rattle.std.proofs.Common.{◌≡◌, ℕ, ◌+◌, List, [], ◌++◌, length, take, drop, get_or, None, refl, sym, ap, ◌∙◌, subst, arith, append_assoc, length-append, codes, inr}
use Rattle.std.proofs.Math.Seq.{take-append-add}
use Rattle.cm_net.specs.declared.address.Address.{Address}
use Rattle.cm_net.specs.declared.address.Address.TheVariants.{V4, V6}
use Rattle.cm_net.specs.Addresses.{IsFour, IsSix, IsAddress}
use Rattle.cm_net.specs.Free.{IsFree}
use Rattle.cm_net.specs.Texts.{IsFront, LeavesAt}
use Rattle.cm_net.specs.FourReader.{Four, start4, step4}
use Rattle.cm_net.specs.SixReader.{Six, start6, step6}
use Rattle.cm_net.specs.Written.{Written, subnet, prefix, site, range, Apart, IsBits, IsSite, IsBody, word_of, IsWritten, HasWrongWord, IsBadPlace}
use Rattle.cm_net.proofs.FreeTexts.{run_free}
use Rattle.cm_net.proofs.FourTexts.{complete4}
use Rattle.cm_net.proofs.SixTexts.{complete6}

-- ---- addresses have no separator

four_never_slash : (s : Four) → step4 s 47 ≡ None
four_never_slash s = refl

four_never_dash : (s : Four) → step4 s 45 ≡ None
four_never_dash s = refl

six_never_slash : (s : Six) → step6 s 47 ≡ None
six_never_slash s = refl

six_never_dash : (s : Six) → step6 s 45 ≡ None
six_never_dash s = refl

pub four_free_slash : (text : List ℕ) (n : ℕ) → IsFour text n → IsFree 47 text
four_free_slash text n is = let whole = complete4 text n is in run_free step4 47 four_never_slash text start4 whole.0 whole.1

pub six_free_slash : (text : List ℕ) (n : ℕ) → IsSix text n → IsFree 47 text
six_free_slash text n is = let whole = complete6 text n is in run_free step6 47 six_never_slash text start6 whole.0 whole.1

pub address_free : (text : List ℕ) (x : Address) → IsAddress text x → IsFree 45 text
address_free text (V4 n) is = let whole = complete4 text n is in run_free step4 45 four_never_dash text start4 whole.0 whole.1
address_free text (V6 n) is = let whole = complete6 text n is in run_free step6 45 six_never_dash text start6 whole.0 whole.1

-- ---- a leading word tells what stands behind it

module _ {X : Type 0} (word : List ℕ) (Body : List ℕ → X → Type 0) (what : X → Written)
    (same_word : (x : X) → word_of (what x) ≡ word) (there : (body : List ℕ) (x : X) → Body body x → IsBody body (what x))
    (back : (w : Written) (rest body : List ℕ) → word ++ rest ≡ word_of w ++ body → IsBody body w → (x : X) × Body rest x) where
  word_front : (body : List ℕ) → IsFront Body body → IsFront IsWritten (word ++ body)
  word_front body front = (
    front.0,
    what front.1,
    record {
      body = body ++ front.0;
      is_body = there (body ++ front.0) front.1 front.2;
      is = append_assoc word body front.0 ∙ ap (λ (w : List ℕ). w ++ (body ++ front.0)) (sym (same_word front.1));
    },
  )

  body_front : (body : List ℕ) → IsFront IsWritten (word ++ body) → IsFront Body body
  body_front body front =
      let written = front.2 in
      let inner = back front.1 (body ++ front.0) written.body (sym (append_assoc word body front.0) ∙ written.is) written.is_body in
      (front.0, inner.0, inner.1)

  pub word_leaves : (body : List ℕ) (place : ℕ) → LeavesAt Body body place → LeavesAt IsWritten (word ++ body) (length word + place)
  word_leaves body place leaves = record {
    within = omega (arith, leaves.within, length-append word body);
    front = subst (λ (t : List ℕ). IsFront IsWritten t) (sym (take-append-add word body place)) (word_front (take place body) leaves.front);
    longest = λ below front.
        let at : length word + place + 1 ≡ length word + (place + 1) = omega arith in
        let same : take (length word + place + 1) (word ++ body) ≡ word ++ take (place + 1) body =
        ap (λ (n : ℕ). take n (word ++ body)) at ∙ take-append-add word body (place + 1) in
        leaves.longest (omega (arith, below, length-append word body)) (body_front (take (place + 1) body) (subst (λ (t : List ℕ). IsFront IsWritten t) same front));
    none = λ w written.
        let inner = back w body written.body written.is written.is_body in leaves.none inner.0 inner.1;
  }

  -- a text with this word has no wrong one
  pub word_right : (body : List ℕ) (x : X) → HasWrongWord (word ++ body) → ⊥
  word_right body x wrong = (wrong (what x) body).0 (ap (λ (w : List ℕ). w ++ body) (sym (same_word x)))

abbrev pub SubnetBody : List ℕ → (ℕ × ℕ) → Type 0
SubnetBody text x = Apart (λ first. IsFour first x.0) (λ second. IsBits 32 second x.1) 47 text

abbrev pub PrefixBody : List ℕ → (ℕ × ℕ) → Type 0
PrefixBody text x = Apart (λ first. IsSix first x.0) (λ second. IsBits 128 second x.1) 47 text

abbrev pub SiteBody : List ℕ → List ℕ → Type 0
SiteBody text name = IsSite text name

abbrev pub RangeBody : List ℕ → (Address × Address) → Type 0
RangeBody text x = Apart (λ first. IsAddress first x.0) (λ second. IsAddress second x.1) 45 text

pub subnet_back : (w : Written) (rest body : List ℕ) → codes "subnet:" ++ rest ≡ word_of w ++ body → IsBody body w → (x : ℕ × ℕ) × SubnetBody rest x
subnet_back (subnet net bits) rest body is inner = let same : body ≡ rest = sym (ap (λ (t : List ℕ). drop 7 t) is) in ((net, bits), subst (λ (t : List ℕ). SubnetBody t (net, bits)) same inner)
subnet_back (prefix net bits) rest body is inner = let byte : 115 ≡ 112 = ap (λ (t : List ℕ). get_or t 0 0) is in absurd (omega (arith, byte))
subnet_back (site name) rest body is inner = let byte : 117 ≡ 105 = ap (λ (t : List ℕ). get_or t 1 0) is in absurd (omega (arith, byte))
subnet_back (range from to) rest body is inner = let byte : 115 ≡ 114 = ap (λ (t : List ℕ). get_or t 0 0) is in absurd (omega (arith, byte))

pub prefix_back : (w : Written) (rest body : List ℕ) → codes "prefix:" ++ rest ≡ word_of w ++ body → IsBody body w → (x : ℕ × ℕ) × PrefixBody rest x
prefix_back (subnet net bits) rest body is inner = let byte : 112 ≡ 115 = ap (λ (t : List ℕ). get_or t 0 0) is in absurd (omega (arith, byte))
prefix_back (prefix net bits) rest body is inner = let same : body ≡ rest = sym (ap (λ (t : List ℕ). drop 7 t) is) in ((net, bits), subst (λ (t : List ℕ). PrefixBody t (net, bits)) same inner)
prefix_back (site name) rest body is inner = let byte : 112 ≡ 115 = ap (λ (t : List ℕ). get_or t 0 0) is in absurd (omega (arith, byte))
prefix_back (range from to) rest body is inner = let byte : 112 ≡ 114 = ap (λ (t : List ℕ). get_or t 0 0) is in absurd (omega (arith, byte))

pub site_back : (w : Written) (rest body : List ℕ) → codes "site:" ++ rest ≡ word_of w ++ body → IsBody body w → (x : List ℕ) × SiteBody rest x
site_back (subnet net bits) rest body is inner = let byte : 105 ≡ 117 = ap (λ (t : List ℕ). get_or t 1 0) is in absurd (omega (arith, byte))
site_back (prefix net bits) rest body is inner = let byte : 115 ≡ 112 = ap (λ (t : List ℕ). get_or t 0 0) is in absurd (omega (arith, byte))
site_back (site name) rest body is inner = let same : body ≡ rest = sym (ap (λ (t : List ℕ). drop 5 t) is) in (name, subst (λ (t : List ℕ). SiteBody t name) same inner)
site_back (range from to) rest body is inner = let byte : 115 ≡ 114 = ap (λ (t : List ℕ). get_or t 0 0) is in absurd (omega (arith, byte))

pub range_back : (w : Written) (rest body : List ℕ) → codes "range:" ++ rest ≡ word_of w ++ body → IsBody body w → (x : Address × Address) × RangeBody rest x
range_back (subnet net bits) rest body is inner = let byte : 114 ≡ 115 = ap (λ (t : List ℕ). get_or t 0 0) is in absurd (omega (arith, byte))
range_back (prefix net bits) rest body is inner = let byte : 114 ≡ 112 = ap (λ (t : List ℕ). get_or t 0 0) is in absurd (omega (arith, byte))
range_back (site name) rest body is inner = let byte : 114 ≡ 115 = ap (λ (t : List ℕ). get_or t 0 0) is in absurd (omega (arith, byte))
range_back (range from to) rest body is inner = let same : body ≡ rest = sym (ap (λ (t : List ℕ). drop 6 t) is) in ((from, to), subst (λ (t : List ℕ). RangeBody t (from, to)) same inner)

-- ---- the places

pub subnet_place : (body : List ℕ) (place : ℕ) → LeavesAt SubnetBody body place → IsBadPlace (codes "subnet:" ++ body) (7 + place)
subnet_place body place leaves = inr (
  word_right (codes "subnet:") SubnetBody (λ x. subnet x.0 x.1) (λ x. refl) (λ b x i. i) subnet_back body (0, 0),
  word_leaves (codes "subnet:") SubnetBody (λ x. subnet x.0 x.1) (λ x. refl) (λ b x i. i) subnet_back body place leaves,
)

pub prefix_place : (body : List ℕ) (place : ℕ) → LeavesAt PrefixBody body place → IsBadPlace (codes "prefix:" ++ body) (7 + place)
prefix_place body place leaves = inr (
  word_right (codes "prefix:") PrefixBody (λ x. prefix x.0 x.1) (λ x. refl) (λ b x i. i) prefix_back body (0, 0),
  word_leaves (codes "prefix:") PrefixBody (λ x. prefix x.0 x.1) (λ x. refl) (λ b x i. i) prefix_back body place leaves,
)

pub site_place : (body : List ℕ) (place : ℕ) → LeavesAt SiteBody body place → IsBadPlace (codes "site:" ++ body) (5 + place)
site_place body place leaves = inr (
  word_right (codes "site:") SiteBody (λ x. site x) (λ x. refl) (λ b x i. i) site_back body [],
  word_leaves (codes "site:") SiteBody (λ x. site x) (λ x. refl) (λ b x i. i) site_back body place leaves,
)

pub range_place : (body : List ℕ) (place : ℕ) → LeavesAt RangeBody body place → IsBadPlace (codes "range:" ++ body) (6 + place)
range_place body place leaves = inr (
  word_right (codes "range:") RangeBody (λ x. range x.0 x.1) (λ x. refl) (λ b x i. i) range_back body (V4 0, V4 0),
  word_leaves (codes "range:") RangeBody (λ x. range x.0 x.1) (λ x. refl) (λ b x i. i) range_back body place leaves,
)
