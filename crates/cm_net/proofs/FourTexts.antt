-- The machine for IPv4 addresses reads their texts and no others.
use Rattle.std.proofs.Common.{◌≡◌, ℕ, ◌+◌, ◌-◌, ◌*◌, ◌/◌, ◌%◌, ◌<◌, ◌≤◌, Bool, true, false, cond, eqb, ltb, leb, List, [], ◌∷◌, ◌++◌, Option, None, Some, refl, sym, ap, ◌∙◌, subst, arith, append_assoc, zero, suc, inl, inr}
use Rattle.std.proofs.lemmas.List.{append-nil}
use Rattle.std.proofs.lemmas.Bool.{cases_lt, lt-ltb, le-ltb, le-leb, leb-true, ltb-true, eqb-true, eqb-false, ne_eqb, and_parts}
use Rattle.cm_base.specs.Names.{is_digit}
use Rattle.cm_net.specs.Addresses.{decimal, IsPart, Joined, IsFour}
use Rattle.cm_net.specs.FourReader.{Four, start4, longer_part, with_part, next_part, step4, whole4, final4}
use Rattle.cm_net.specs.Texts.{IsFront}
use Rattle.cm_net.proofs.JoinedTexts.{Whole, join_more, whole_again}
use Rattle.cm_net.specs.Machines.{run}
use Rattle.cm_net.proofs.Machines.{run-append, kept, Reads}

-- ---- decimal numbers

pub decimal_one : (n : ℕ) → n < 10 → decimal n ≡ (48 + n) ∷ []
decimal_one n a = rw (lt-ltb n 10 a) refl

pub decimal_two : (n : ℕ) → 10 ≤ n → n < 100 → decimal n ≡ (48 + n / 10) ∷ (48 + n % 10) ∷ []
decimal_two n a b = rw (le-ltb n 10 a, lt-ltb n 100 b) refl

pub decimal_three : (n : ℕ) → 100 ≤ n → decimal n ≡ (48 + n / 100) ∷ (48 + n / 10 % 10) ∷ (48 + n % 10) ∷ []
decimal_three n a = rw (le-ltb n 10 (omega arith), le-ltb n 100 a) refl

-- a further digit
longer_two : (p d : ℕ) → 0 < p → p < 10 → d < 10 → decimal (p * 10 + d) ≡ decimal p ++ (48 + d) ∷ []
longer_two p d some small digit =
    let tens : (p * 10 + d) / 10 ≡ p = omega arith in
    let ones : (p * 10 + d) % 10 ≡ d = omega arith in
    rw (decimal_two (p * 10 + d) (omega arith) (omega arith), decimal_one p small, tens, ones) refl

longer_three : (p d : ℕ) → 10 ≤ p → p < 100 → d < 10 → decimal (p * 10 + d) ≡ decimal p ++ (48 + d) ∷ []
longer_three p d some small digit =
    let hundreds : (p * 10 + d) / 100 ≡ p / 10 = omega arith in
    let tens : (p * 10 + d) / 10 ≡ p = omega arith in
    let ones : (p * 10 + d) % 10 ≡ d = omega arith in
    rw (decimal_three (p * 10 + d) (omega arith), decimal_two p some small, hundreds, tens, ones) refl

pub decimal_longer : (p d : ℕ) → 0 < p → p < 100 → d < 10 → decimal (p * 10 + d) ≡ decimal p ++ (48 + d) ∷ []
decimal_longer p d some small digit =
    elim (cases_lt p 10) [ inl low ↦ longer_two p d some low digit | inr high ↦ longer_three p d high small digit ]

-- ---- the machine's steps

digit_is : (d : ℕ) → d < 10 → is_digit (48 + d) ≡ true
digit_is d small = rw (le-leb 48 (48 + d) (omega arith), le-leb (48 + d) 57 (omega arith)) refl

less_48 : (d : ℕ) → 48 + d - 48 ≡ d
less_48 d = omega arith

pub digit_step : (k v : ℕ) (part : Option ℕ) (d q : ℕ) → d < 10 → longer_part part d ≡ Some q → step4 (record { count = k; value = v; part = part }) (48 + d) ≡ Some (record { count = k; value = v; part = Some q })
digit_step k v part d q small is = rw (digit_is d small, less_48 d, is) refl

begins : (d : ℕ) → longer_part None d ≡ Some d
begins d = refl

goes_on : (p d n : ℕ) → 0 < p → p * 10 + d ≡ n → n < 256 → longer_part (Some p) d ≡ Some n
goes_on p d n some is small = rw (ne_eqb p 0 (λ e. omega arith), is, lt-ltb n 256 small) refl

run_digit : (k v : ℕ) (part : Option ℕ) (d q : ℕ) (rest : List ℕ) → d < 10 → longer_part part d ≡ Some q
    → run step4 (Some (record { count = k; value = v; part = part })) ((48 + d) ∷ rest) ≡ run step4 (Some (record { count = k; value = v; part = Some q })) rest
run_digit k v part d q rest small is = ap (λ (o : Option Four). run step4 o rest) (digit_step k v part d q small is)

read_one : (k v n : ℕ) → n < 10 → run step4 (Some (record { count = k; value = v; part = None })) (decimal n) ≡ Some (record { count = k; value = v; part = Some n })
read_one k v n small = rw (decimal_one n small) (run_digit k v None n n [] small refl)

read_two : (k v n : ℕ) → 10 ≤ n → n < 100 → run step4 (Some (record { count = k; value = v; part = None })) (decimal n) ≡ Some (record { count = k; value = v; part = Some n })
read_two k v n some small =
    rw (decimal_two n some small)
    (run_digit k v None (n / 10) (n / 10) ((48 + n % 10) ∷ []) (omega arith) refl
    ∙ run_digit k v (Some (n / 10)) (n % 10) n [] (omega arith) (goes_on (n / 10) (n % 10) n (omega arith) (omega arith) (omega arith)))

read_three : (k v n : ℕ) → 100 ≤ n → n < 256 → run step4 (Some (record { count = k; value = v; part = None })) (decimal n) ≡ Some (record { count = k; value = v; part = Some n })
read_three k v n some small =
    rw (decimal_three n some)
    (run_digit k v None (n / 100) (n / 100) ((48 + n / 10 % 10) ∷ (48 + n % 10) ∷ []) (omega arith) refl
    ∙ (run_digit k v (Some (n / 100)) (n / 10 % 10) (n / 10) ((48 + n % 10) ∷ []) (omega arith) (goes_on (n / 100) (n / 10 % 10) (n / 10) (omega arith) (omega arith) (omega arith))
    ∙ run_digit k v (Some (n / 10)) (n % 10) n [] (omega arith) (goes_on (n / 10) (n % 10) n (omega arith) (omega arith) (omega arith))))

pub read_decimal : (k v n : ℕ) → n < 256 → run step4 (Some (record { count = k; value = v; part = None })) (decimal n) ≡ Some (record { count = k; value = v; part = Some n })
read_decimal k v n small =
    elim (cases_lt n 10) [
      | inl one ↦ read_one k v n one
      | inr some ↦ elim (cases_lt n 100) [ inl two ↦ read_two k v n some two | inr more ↦ read_three k v n more small ]
    ]

dot_step : (k v p : ℕ) → k < 3 → step4 (record { count = k; value = v; part = Some p }) 46 ≡ Some (record { count = k + 1; value = v * 256 + p; part = None })
dot_step k v p few = rw (lt-ltb k 3 few) refl

-- ---- each text of the grammar is read

pub record Behind4 (k : ℕ) (text : List ℕ) (n : ℕ) : Type 0 where
  pub high : ℕ
  pub low : ℕ
  pub small : low < 256
  pub number : high * 256 + low ≡ n
  pub read : run step4 (Some start4) text ≡ Some (record { count = k; value = high; part = Some low })

read_part : (k v : ℕ) (text : List ℕ) (n : ℕ) → IsPart text n → run step4 (Some (record { count = k; value = v; part = None })) text ≡ Some (record { count = k; value = v; part = Some n })
read_part k v text n part = rw part.spelled (read_decimal k v n part.small)

read_next : (k : ℕ) (front last : List ℕ) (high low : ℕ) → k < 3 → Behind4 k front high → IsPart last low → Behind4 (k + 1) (front ++ 46 ∷ last) (high * 256 + low)
read_next k front last high low few was part = record {
  high = high;
  low = low;
  small = part.small;
  number = refl;
  read =
      run-append step4 (Some start4) front (46 ∷ last)
      ∙ (ap (λ (o : Option Four). run step4 o (46 ∷ last)) was.read
      ∙ (ap (λ (o : Option Four). run step4 o last) (dot_step k was.high was.low few)
      ∙ (ap (λ (v : ℕ). run step4 (Some (record { count = k + 1; value = v; part = None })) last) was.number
      ∙ read_part (k + 1) high last low part)));
}

read_parts : (k : ℕ) (text : List ℕ) (n : ℕ) → k < 4 → Joined IsPart 46 256 (suc k) text n → Behind4 k text n
read_parts zero text n few joined = record { high = 0; low = n; small = joined.small; number = omega arith; read = read_part 0 0 text n joined }
read_parts (suc k) text n few (front, last, high, low, joined, part, is, number) =
    let rest = read_next k front last high low (omega arith) (read_parts k front high (omega arith) joined) part in
    let count : k + 1 ≡ suc k = omega arith in
    subst (λ (j : ℕ). Behind4 j text n) count (subst (λ (m : ℕ). Behind4 (k + 1) text m) (sym number) (subst (λ (t : List ℕ). Behind4 (k + 1) t (high * 256 + low)) (sym is) rest))

pub complete4 : (text : List ℕ) (n : ℕ) → IsFour text n → (s : Four) × (run step4 (Some start4) text ≡ Some s) × (final4 s ≡ Some n)
complete4 text n four =
    let is = read_parts 3 text n (omega arith) four in
    (record { count = 3; value = is.high; part = Some is.low }, is.read, ap (λ (m : ℕ). Some m) is.number)

-- ---- what is read is a text of the grammar, or can be completed to one

-- the text so far: whole parts, and the digits of the part that is begun
abbrev pub Spelled4 : ℕ → ℕ → Option ℕ → List ℕ → Type 0
Spelled4 k v None text = (k < 4) × Whole IsPart 46 256 k text v
Spelled4 k v (Some p) text = (k < 4) × (p < 256) × (done : List ℕ) × Whole IsPart 46 256 k done v × (text ≡ done ++ decimal p)

abbrev pub SpelledFour : Four → List ℕ → Type 0
SpelledFour s text = Spelled4 s.count s.value s.part text

digit_bounds : (b : ℕ) → is_digit b ≡ true → (48 ≤ b) × (b ≤ 57)
digit_bounds b is = let both = and_parts (leb 48 b) (leb b 57) is in (leb-true 48 b both.0, leb-true b 57 both.1)

first_digit : (k v b : ℕ) (text : List ℕ) → is_digit b ≡ true → Spelled4 k v None text → Spelled4 k v (Some (b - 48)) (text ++ b ∷ [])
first_digit k v b text is was =
    let bounds = digit_bounds b is in
    let same : 48 + (b - 48) ≡ b = omega (arith, bounds.0) in
    let one : decimal (b - 48) ≡ b ∷ [] = decimal_one (b - 48) (omega (arith, bounds.1)) ∙ ap (λ (n : ℕ). n ∷ []) same in
    (was.0, omega (arith, bounds.1), text, was.1, ap (λ (t : List ℕ). text ++ t) (sym one))

further_digit : (k v p b : ℕ) (text : List ℕ) → is_digit b ≡ true → 0 < p → p * 10 + (b - 48) < 256 → Spelled4 k v (Some p) text → Spelled4 k v (Some (p * 10 + (b - 48))) (text ++ b ∷ [])
further_digit k v p b text is some small was =
    let bounds = digit_bounds b is in
    let same : 48 + (b - 48) ≡ b = omega (arith, bounds.0) in
    let more : decimal (p * 10 + (b - 48)) ≡ decimal p ++ b ∷ [] = decimal_longer p (b - 48) some (omega arith) (omega (arith, bounds.1)) ∙ ap (λ (n : ℕ). decimal p ++ n ∷ []) same in
    (was.0, small, was.2, was.3, ap (λ (t : List ℕ). t ++ b ∷ []) was.4 ∙ (append_assoc was.2 (decimal p) (b ∷ []) ∙ ap (λ (t : List ℕ). was.2 ++ t) (sym more)))

a_dot : (k v p : ℕ) (text : List ℕ) → k < 3 → Spelled4 k v (Some p) text → Spelled4 (k + 1) (v * 256 + p) None (text ++ 46 ∷ [])
a_dot k v p text few was =
    let part : IsPart (decimal p) p = record { small = was.1; spelled = refl } in
    let joined = join_more IsPart 46 256 k was.2 v (decimal p) p was.3 part in
    let whole = whole_again IsPart 46 256 k (was.2 ++ decimal p) (v * 256 + p) joined in
    let next : k + 1 ≡ suc k = omega arith in (
      omega arith,
      subst (λ (j : ℕ). Whole IsPart 46 256 j (text ++ 46 ∷ []) (v * 256 + p)) (sym next)
          (subst (λ (t : List ℕ). Whole IsPart 46 256 (suc k) (t ++ 46 ∷ []) (v * 256 + p)) (sym was.4) whole),
    )

longer_keeps : (k v b : ℕ) (part : Option ℕ) (text : List ℕ) (t : Four) → is_digit b ≡ true → Spelled4 k v part text
    → with_part (record { count = k; value = v; part = part }) (longer_part part (b - 48)) ≡ Some t → SpelledFour t (text ++ b ∷ [])
longer_keeps k v b None text t is was read =
    let same : record { count = k; value = v; part = Some (b - 48) } ≡ t = cc in
    subst (λ (u : Four). SpelledFour u (text ++ b ∷ [])) same (first_digit k v b text is was)
longer_keeps k v b (Some p) text t is was read =
    by_zero (eqb p 0) refl
  where
    by_size : (small : Bool) → 0 < p → ltb (p * 10 + (b - 48)) 256 ≡ small → with_part (record { count = k; value = v; part = Some p }) (cond small (Some (p * 10 + (b - 48))) None) ≡ Some t → SpelledFour t (text ++ b ∷ [])
    by_size true some size read' =
        let same : record { count = k; value = v; part = Some (p * 10 + (b - 48)) } ≡ t = cc in
        subst (λ (u : Four). SpelledFour u (text ++ b ∷ [])) same (further_digit k v p b text is some (ltb-true (p * 10 + (b - 48)) 256 size) was)
    by_size false some size read' = let no : None ≡ Some t = read' in cc

    by_zero : (zero_ : Bool) → eqb p 0 ≡ zero_ → SpelledFour t (text ++ b ∷ [])
    by_zero true e = let no : None ≡ Some t = rw e at read in cc
    by_zero false e = by_size (ltb (p * 10 + (b - 48)) 256) (let ne = eqb-false p 0 e in omega arith) refl (rw e at read)

dot_keeps : (k v : ℕ) (part : Option ℕ) (text : List ℕ) (t : Four) → Spelled4 k v part text → next_part (record { count = k; value = v; part = part }) part ≡ Some t → SpelledFour t (text ++ 46 ∷ [])
dot_keeps k v None text t was read = let no : None ≡ Some t = read in cc
dot_keeps k v (Some p) text t was read = by_count (ltb k 3) refl
  where
    by_count : (few : Bool) → ltb k 3 ≡ few → SpelledFour t (text ++ 46 ∷ [])
    by_count true e =
        let is : Some (record { count = k + 1; value = v * 256 + p; part = None }) ≡ Some t = rw e at read in
        let same : record { count = k + 1; value = v * 256 + p; part = None } ≡ t = cc in
        subst (λ (u : Four). SpelledFour u (text ++ 46 ∷ [])) same (a_dot k v p text (ltb-true k 3 e) was)
    by_count false e = let no : None ≡ Some t = rw e at read in cc

step_keeps : (s t : Four) (text : List ℕ) (b : ℕ) → SpelledFour s text → step4 s b ≡ Some t → SpelledFour t (text ++ b ∷ [])
step_keeps s t text b was read = by_digit (is_digit b) refl
  where
    by_dot : (dot : Bool) → eqb b 46 ≡ dot → cond (eqb b 46) (next_part s s.part) None ≡ Some t → SpelledFour t (text ++ b ∷ [])
    by_dot true e read' =
        let same : b ≡ 46 = eqb-true b 46 e in
        subst (λ (c : ℕ). SpelledFour t (text ++ c ∷ [])) (sym same) (dot_keeps s.count s.value s.part text t was (rw e at read'))
    by_dot false e read' = let no : None ≡ Some t = rw e at read' in cc

    by_digit : (digit : Bool) → is_digit b ≡ digit → SpelledFour t (text ++ b ∷ [])
    by_digit true e = longer_keeps s.count s.value b s.part text t e was (rw e at read)
    by_digit false e = by_dot (eqb b 46) refl (rw e at read)

pub spelled4 : (text : List ℕ) (s : Four) → run step4 (Some start4) text ≡ Some s → SpelledFour s text
spelled4 text s read = kept step4 SpelledFour step_keeps text [] start4 s (omega arith, (refl, refl)) read

whole_is : (k v : ℕ) (part : Option ℕ) (text : List ℕ) (n : ℕ) → Spelled4 k v part text → whole4 k v part ≡ Some n → IsFour text n
whole_is k v None text n was is = let no : None ≡ Some n = is in cc
whole_is k v (Some p) text n was is = by_count (eqb k 3) refl
  where
    by_count : (three : Bool) → eqb k 3 ≡ three → IsFour text n
    by_count true e =
        let count : k ≡ 3 = eqb-true k 3 e in
        let value : v * 256 + p ≡ n = let eq : Some (v * 256 + p) ≡ Some n = rw e at is in cc in
        let joined = join_more IsPart 46 256 k was.2 v (decimal p) p was.3 (record { small = was.1; spelled = refl }) in
        subst (λ (m : ℕ). IsFour text m) value
        (subst (λ (t : List ℕ). IsFour t (v * 256 + p)) (sym was.4)
        (subst (λ (j : ℕ). Joined IsPart 46 256 (suc j) (was.2 ++ decimal p) (v * 256 + p)) count joined))
    by_count false e = let no : None ≡ Some n = rw e at is in cc

-- whole parts, with so many more to come, can be completed by zeros
close4 : (more k v : ℕ) (text : List ℕ) → more + k ≡ 3 → Whole IsPart 46 256 k text v → IsFront IsFour text
close4 zero k v text count whole =
    let joined = join_more IsPart 46 256 k text v (48 ∷ []) 0 whole (record { small = omega arith; spelled = refl }) in
    let three : k ≡ 3 = omega arith in
    (48 ∷ [], v * 256 + 0, subst (λ (j : ℕ). Joined IsPart 46 256 (suc j) (text ++ 48 ∷ []) (v * 256 + 0)) three joined)
close4 (suc more) k v text count whole =
    let joined = join_more IsPart 46 256 k text v (48 ∷ []) 0 whole (record { small = omega arith; spelled = refl }) in
    let again = whole_again IsPart 46 256 k (text ++ 48 ∷ []) (v * 256 + 0) joined in
    let rest = close4 more (suc k) (v * 256 + 0) ((text ++ 48 ∷ []) ++ 46 ∷ []) (omega arith) again in
    (48 ∷ 46 ∷ rest.0, rest.1, subst (λ (t : List ℕ). IsFour t rest.1) (append_assoc (text ++ 48 ∷ []) (46 ∷ []) rest.0 ∙ append_assoc text (48 ∷ []) (46 ∷ rest.0)) rest.2)

-- a part that is begun is completed as it is
close_part : (more k v p : ℕ) (text done : List ℕ) → more + k ≡ 3 → p < 256 → Whole IsPart 46 256 k done v → text ≡ done ++ decimal p → IsFront IsFour text
close_part zero k v p text done count small whole is =
    let joined = join_more IsPart 46 256 k done v (decimal p) p whole (record { small = small; spelled = refl }) in
    let three : k ≡ 3 = omega arith in (
      [],
      v * 256 + p,
      subst (λ (t : List ℕ). IsFour t (v * 256 + p)) (sym (append-nil text ∙ is))
          (subst (λ (j : ℕ). Joined IsPart 46 256 (suc j) (done ++ decimal p) (v * 256 + p)) three joined),
    )
close_part (suc more) k v p text done count small whole is =
    let joined = join_more IsPart 46 256 k done v (decimal p) p whole (record { small = small; spelled = refl }) in
    let again = whole_again IsPart 46 256 k (done ++ decimal p) (v * 256 + p) joined in
    let rest = close4 more (suc k) (v * 256 + p) ((done ++ decimal p) ++ 46 ∷ []) (omega arith) again in
    (46 ∷ rest.0, rest.1, subst (λ (t : List ℕ). IsFour t rest.1) (append_assoc (done ++ decimal p) (46 ∷ []) rest.0 ∙ ap (λ (t : List ℕ). t ++ 46 ∷ rest.0) (sym is)) rest.2)

alive_from : (k v : ℕ) (part : Option ℕ) (text : List ℕ) → Spelled4 k v part text → IsFront IsFour text
alive_from k v None text was = close4 (3 - k) k v text (omega (arith, was.0)) was.1
alive_from k v (Some p) text was = close_part (3 - k) k v p text was.2 (omega (arith, was.0)) was.1 was.3 was.4

pub reads4 : Reads step4 start4 final4 IsFour
reads4 = record {
  complete = complete4;
  sound = λ text s n read whole. whole_is s.count s.value s.part text n (spelled4 text s read) whole;
  alive = λ text s read. alive_from s.count s.value s.part text (spelled4 text s read);
}
