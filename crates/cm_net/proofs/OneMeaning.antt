-- A text means one thing.
use Rattle.std.proofs.Common.{◌≡◌, ℕ, ◌<◌, List, ◌++◌, drop, get_or, Some, None, refl, sym, ap, ◌∙◌, subst, arith}
use Rattle.cm_net.specs.declared.address.Address.{Address}
use Rattle.cm_net.specs.declared.address.Address.TheVariants.{V4, V6}
use Rattle.cm_net.specs.Addresses.{IsFour, IsSix, IsAddress}
use Rattle.cm_net.specs.FourReader.{Four, start4, step4, final4}
use Rattle.cm_net.specs.SixReader.{Six, start6, step6, final6}
use Rattle.cm_net.specs.Free.{IsFree}
use Rattle.cm_net.specs.Written.{Written, subnet, prefix, site, range, Apart, IsBits, IsSite, IsBody, word_of, IsWritten}
use Rattle.cm_net.proofs.BitTexts.{alone, bits_read}
use Rattle.cm_net.proofs.FreeTexts.{free_no, free_first, run_free}
use Rattle.cm_net.proofs.Machines.{one_reading}
use Rattle.cm_net.proofs.FourTexts.{reads4}
use Rattle.cm_net.proofs.SixTexts.{reads6, complete6}
use Rattle.cm_net.proofs.Words.{four_free_slash, six_free_slash, address_free}

one_four : (text : List ℕ) (m n : ℕ) → IsFour text m → IsFour text n → m ≡ n
one_four text m n p q = one_reading step4 start4 final4 IsFour reads4 text m n p q

one_six : (text : List ℕ) (m n : ℕ) → IsSix text m → IsSix text n → m ≡ n
one_six text m n p q = one_reading step6 start6 final6 IsSix reads6 text m n p q

six_never_dot : (s : Six) → step6 s 46 ≡ None
six_never_dot s = refl

-- a text of IPv4 has a dot, and one of IPv6 none
not_both : (text : List ℕ) (m n : ℕ) → IsFour text m → IsSix text n → ⊥
not_both text m n (front, last, high, low, joined, item, is, number) six =
    let whole = complete6 text n six in
    free_no 46 text front last (run_free step6 46 six_never_dot text start6 whole.0 whole.1) is

pub one_address : (text : List ℕ) (x y : Address) → IsAddress text x → IsAddress text y → x ≡ y
one_address text (V4 m) (V4 n) p q = ap (λ (k : ℕ). V4 k) (one_four text m n p q)
one_address text (V6 m) (V6 n) p q = ap (λ (k : ℕ). V6 k) (one_six text m n p q)
one_address text (V4 m) (V6 n) p q = absurd (not_both text m n p q)
one_address text (V6 m) (V4 n) p q = absurd (not_both text n m q p)

one_bits : (most : ℕ) (text : List ℕ) (j k : ℕ) → most < 256 → IsBits most text j → IsBits most text k → j ≡ k
one_bits most text j k small p q =
    let both : Some (alone j) ≡ Some (alone k) = sym (bits_read most j text small p) ∙ bits_read most k text small q in
    let same : alone j ≡ alone k = cc in
    let part : Some j ≡ Some k = ap (λ (s : Four). s.part) same in cc

module _ {A C : Type 0} (First : List ℕ → A → Type 0) (Second : List ℕ → C → Type 0) (sep : ℕ)
    (free : (text : List ℕ) (a : A) → First text a → IsFree sep text)
    (one_first : (text : List ℕ) (a b : A) → First text a → First text b → a ≡ b) (one_second : (text : List ℕ) (c d : C) → Second text c → Second text d → c ≡ d) where
  pub one_apart : (text : List ℕ) (a b : A) (c d : C) → Apart (λ f. First f a) (λ s. Second s c) sep text → Apart (λ f. First f b) (λ s. Second s d) sep text → (a ≡ b) × (c ≡ d)
  one_apart text a b c d p q =
      let cut = free_first sep p.first p.second q.first q.second (free p.first a p.is_first) (free q.first b q.is_first) (sym p.is ∙ q.is) in (
        one_first q.first a b (subst (λ (t : List ℕ). First t a) cut.0 p.is_first) q.is_first,
        one_second q.second c d (subst (λ (t : List ℕ). Second t c) cut.1 p.is_second) q.is_second,
      )

one_body : (v w : Written) (a b : List ℕ) → word_of v ++ a ≡ word_of w ++ b → IsBody a v → IsBody b w → v ≡ w
one_body (subnet n1 k1) (subnet n2 k2) a b is p q =
    let same : b ≡ a = sym (ap (λ (t : List ℕ). drop 7 t) is) in
    let both = one_apart IsFour (IsBits 32) 47 four_free_slash one_four (λ t j k. one_bits 32 t j k (omega arith)) a n1 n2 k1 k2 p (subst (λ (t : List ℕ). IsBody t (subnet n2 k2)) same q) in
    ap (λ (n : ℕ). subnet n k1) both.0 ∙ ap (λ (k : ℕ). subnet n2 k) both.1
one_body (subnet n1 k1) (prefix n2 k2) a b is p q = let byte : 115 ≡ 112 = ap (λ (t : List ℕ). get_or t 0 0) is in absurd (omega (arith, byte))
one_body (subnet n1 k1) (site name2) a b is p q = let byte : 117 ≡ 105 = ap (λ (t : List ℕ). get_or t 1 0) is in absurd (omega (arith, byte))
one_body (subnet n1 k1) (range from2 to2) a b is p q = let byte : 115 ≡ 114 = ap (λ (t : List ℕ). get_or t 0 0) is in absurd (omega (arith, byte))
one_body (prefix n1 k1) (subnet n2 k2) a b is p q = let byte : 112 ≡ 115 = ap (λ (t : List ℕ). get_or t 0 0) is in absurd (omega (arith, byte))
one_body (prefix n1 k1) (prefix n2 k2) a b is p q =
    let same : b ≡ a = sym (ap (λ (t : List ℕ). drop 7 t) is) in
    let both = one_apart IsSix (IsBits 128) 47 six_free_slash one_six (λ t j k. one_bits 128 t j k (omega arith)) a n1 n2 k1 k2 p (subst (λ (t : List ℕ). IsBody t (prefix n2 k2)) same q) in
    ap (λ (n : ℕ). prefix n k1) both.0 ∙ ap (λ (k : ℕ). prefix n2 k) both.1
one_body (prefix n1 k1) (site name2) a b is p q = let byte : 112 ≡ 115 = ap (λ (t : List ℕ). get_or t 0 0) is in absurd (omega (arith, byte))
one_body (prefix n1 k1) (range from2 to2) a b is p q = let byte : 112 ≡ 114 = ap (λ (t : List ℕ). get_or t 0 0) is in absurd (omega (arith, byte))
one_body (site name1) (subnet n2 k2) a b is p q = let byte : 105 ≡ 117 = ap (λ (t : List ℕ). get_or t 1 0) is in absurd (omega (arith, byte))
one_body (site name1) (prefix n2 k2) a b is p q = let byte : 115 ≡ 112 = ap (λ (t : List ℕ). get_or t 0 0) is in absurd (omega (arith, byte))
one_body (site name1) (site name2) a b is p q =
    let same : b ≡ a = sym (ap (λ (t : List ℕ). drop 5 t) is) in
    let both : Some name1 ≡ Some name2 = sym p ∙ subst (λ (t : List ℕ). IsSite t name2) same q in
    let names : name1 ≡ name2 = cc in ap (λ (n : List ℕ). site n) names
one_body (site name1) (range from2 to2) a b is p q = let byte : 115 ≡ 114 = ap (λ (t : List ℕ). get_or t 0 0) is in absurd (omega (arith, byte))
one_body (range from1 to1) (subnet n2 k2) a b is p q = let byte : 114 ≡ 115 = ap (λ (t : List ℕ). get_or t 0 0) is in absurd (omega (arith, byte))
one_body (range from1 to1) (prefix n2 k2) a b is p q = let byte : 114 ≡ 112 = ap (λ (t : List ℕ). get_or t 0 0) is in absurd (omega (arith, byte))
one_body (range from1 to1) (site name2) a b is p q = let byte : 114 ≡ 115 = ap (λ (t : List ℕ). get_or t 0 0) is in absurd (omega (arith, byte))
one_body (range from1 to1) (range from2 to2) a b is p q =
    let same : b ≡ a = sym (ap (λ (t : List ℕ). drop 6 t) is) in
    let both = one_apart IsAddress IsAddress 45 address_free one_address one_address a from1 from2 to1 to2 p (subst (λ (t : List ℕ). IsBody t (range from2 to2)) same q) in
    ap (λ (x : Address). range x to1) both.0 ∙ ap (λ (x : Address). range from2 x) both.1

pub one_boundary : (text : List ℕ) (v w : Written) → IsWritten text v → IsWritten text w → v ≡ w
one_boundary text v w p q = one_body v w p.body q.body (sym p.is ∙ q.is) p.is_body q.is_body
