-- The addresses that begin with the first bits of a net are those from the net to its last.
use Rattle.std.proofs.Common.{◌≡◌, ℕ, ◌+◌, ◌-◌, ◌*◌, ◌/◌, ◌%◌, ◌^◌, ◌<◌, ◌≤◌, eqb, sym, ap, ◌∙◌, subst, arith}
use Rattle.std.proofs.Math.Nat.{div-lt_iff_lt-mul, le-div_iff_mul-le, lt_of_mul-lt-mul_right, mul-le-mul_right}
use Rattle.std.proofs.lemmas.Nat.{div-add-mod', pow-add, pow_pos}
use Rattle.std.proofs.lemmas.Bool.Decides.{nat_tests}
use Rattle.cm_net.specs.declared.address.Address.TheVariants.{V4, V6}
use Rattle.cm_net.specs.declared.boundary.Boundary.{Boundary}
use Rattle.cm_net.specs.declared.boundary.Boundary.TheVariants.{Subnet, Prefix6}
use Rattle.cm_net.specs.Boundaries.{IsSound, holds_address, is_between}

-- at net = q * m: a / m is q exactly for a from q * m to q * m + (m - 1)
between : (q m a : ℕ) → 0 < m → eqb q (a / m) ≡ is_between (q * m) (q * m + (m - 1)) a
between q m a pos =
    let low = le-div_iff_mul-le {k = m} {x = q} {y = a} pos in
    let high = div-lt_iff_lt-mul {k = m} {x = a} {y = q + 1} pos in
    grind (arith, nat_tests, low, high)

pub aligned : (net m a : ℕ) → 0 < m → net % m ≡ 0 → eqb (net / m) (a / m) ≡ is_between net (net + (m - 1)) a
aligned net m a pos rest =
    let is : net / m * m ≡ net = omega (arith, div-add-mod' net m) in
    subst (λ (n : ℕ). eqb (net / m) (a / m) ≡ is_between n (n + (m - 1)) a) is (between (net / m) m a pos)

pub subnet_is : (b : Boundary) (net bits r a : ℕ) → b ≡ Subnet net bits → IsSound b → r ≡ 2 ^ (32 - bits) - 1 → holds_address b (V4 a) ≡ is_between net (net + r) a
subnet_is b net bits r a is sound ones =
    let facts : IsSound (Subnet net bits) = rw is at sound in
    rw (is, ones) (aligned net (2 ^ (32 - bits)) a (pow_pos (32 - bits)) facts.1)

pub prefix_is : (b : Boundary) (net bits r a : ℕ) → b ≡ Prefix6 net bits → IsSound b → r ≡ 2 ^ (128 - bits) - 1 → holds_address b (V6 a) ≡ is_between net (net + r) a
prefix_is b net bits r a is sound ones =
    let facts : IsSound (Prefix6 net bits) = rw is at sound in
    rw (is, ones) (aligned net (2 ^ (128 - bits)) a (pow_pos (128 - bits)) facts.1)

-- a net of m addresses ends before a number that m divides and that it begins before
ends_before : (q m k : ℕ) → 0 < m → q * m < k * m → q * m + (m - 1) < k * m
ends_before q m k pos below =
    let less : q + 1 ≤ k = omega (arith, lt_of_mul-lt-mul_right m below) in
    let more : (q + 1) * m ≤ k * m = mul-le-mul_right m less in
    grind arith

pub net_fits : (net n m : ℕ) → m ≤ n → net < 2 ^ n → net % 2 ^ m ≡ 0 → net + (2 ^ m - 1) < 2 ^ n
net_fits net n m le small rest =
    let whole : net / 2 ^ m * 2 ^ m ≡ net = omega (arith, div-add-mod' net (2 ^ m)) in
    let all : 2 ^ (n - m) * 2 ^ m ≡ 2 ^ n = sym (pow-add 2 (n - m) m) ∙ ap (λ (k : ℕ). 2 ^ k) (omega arith) in
    let below : net / 2 ^ m * 2 ^ m < 2 ^ (n - m) * 2 ^ m = rw (whole, all) small in
    let ends = ends_before (net / 2 ^ m) (2 ^ m) (2 ^ (n - m)) (pow_pos m) below in
    rw (whole, all) at ends
