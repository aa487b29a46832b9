-- Fronts of texts, and two grammars side by side.
use Rattle.std.proofs.Common.{◌≡◌, ℕ, ◌+◌, ◌*◌, ◌<◌, ◌≤◌, List, ◌∷◌, ◌++◌, length, take, drop, max, sym, ap, ◌∙◌, subst, arith, append_assoc, take-append-drop, take-take, length-append, length-take-le, zero, suc, inl, inr, ◌⊎◌}
use Rattle.std.proofs.lemmas.Bool.{cases_lt}
use Rattle.cm_net.specs.declared.address.Address.{Address}
use Rattle.cm_net.specs.declared.address.Address.TheVariants.{V4, V6}
use Rattle.cm_net.specs.Addresses.{decimal, IsPart, IsGroup, Joined, IsFour, IsSix, IsAddress}
use Rattle.cm_net.specs.Texts.{IsFront, LeavesAt}
use Rattle.cm_net.proofs.FourTexts.{decimal_one, decimal_two, decimal_three}

module _ {X : Type 0} where
  -- a front of a front is one
  pub front_shorter : (Means : List ℕ → X → Type 0) (text : List ℕ) (k m : ℕ) → k ≤ m → IsFront Means (take m text) → IsFront Means (take k text)
  front_shorter Means text k m less front =
      let same : take k text ++ (drop k (take m text) ++ front.0) ≡ take m text ++ front.0 =
      sym (append_assoc (take k text) (drop k (take m text)) front.0)
      ∙ ap (λ (t : List ℕ). t ++ front.0) (ap (λ (t : List ℕ). t ++ drop k (take m text)) (sym (take-take k m text less)) ∙ take-append-drop k (take m text)) in
      (drop k (take m text) ++ front.0, front.1, subst (λ (t : List ℕ). Means t front.1) (sym same) front.2)

front_of_four : (text : List ℕ) → IsFront IsFour text → IsFront IsAddress text
front_of_four text front = (front.0, V4 front.1, front.2)

front_of_six : (text : List ℕ) → IsFront IsSix text → IsFront IsAddress text
front_of_six text front = (front.0, V6 front.1, front.2)

either_front : (text : List ℕ) (a b : ℕ) → (a < b) ⊎ (b ≤ a) → IsFront IsFour (take a text) → IsFront IsSix (take b text) → IsFront IsAddress (take (max a b) text)
either_front text a b (inl less) four six =
    let is : max a b ≡ b = omega arith in
    subst (λ (n : ℕ). IsFront IsAddress (take n text)) (sym is) (front_of_six (take b text) six)
either_front text a b (inr more) four six =
    let is : max a b ≡ a = omega arith in
    subst (λ (n : ℕ). IsFront IsAddress (take n text)) (sym is) (front_of_four (take a text) four)

either_longest : (text : List ℕ) (a b : ℕ) (rest : List ℕ) (x : Address) → LeavesAt IsFour text a → LeavesAt IsSix text b → max a b < length text → IsAddress (take (max a b + 1) text ++ rest) x → ⊥
either_longest text a b rest (V4 n) four six below means =
    four.longest (omega (arith, below)) (front_shorter IsFour text (a + 1) (max a b + 1) (omega arith) (rest, n, means))
either_longest text a b rest (V6 n) four six below means =
    six.longest (omega (arith, below)) (front_shorter IsSix text (b + 1) (max a b + 1) (omega arith) (rest, n, means))

either_none : (text : List ℕ) (a b : ℕ) (x : Address) → LeavesAt IsFour text a → LeavesAt IsSix text b → IsAddress text x → ⊥
either_none text a b (V4 n) four six means = four.none n means
either_none text a b (V6 n) four six means = six.none n means

-- a text that leaves both grammars leaves the two together where it leaves the later one
pub leaves_either : (text : List ℕ) (a b : ℕ) → LeavesAt IsFour text a → LeavesAt IsSix text b → LeavesAt IsAddress text (max a b)
leaves_either text a b four six = record {
  within = omega (arith, four.within, six.within);
  front = either_front text a b (cases_lt a b) four.front six.front;
  longest = λ below front. either_longest text a b front.0 front.1 four six below front.2;
  none = λ x means. either_none text a b x four six means;
}

-- ---- how long the texts of addresses are

decimal_short : (n : ℕ) → length (decimal n) ≤ 3
decimal_short n =
    elim (cases_lt n 10) [
      | inl one ↦ rw (decimal_one n one) (omega arith)
      | inr some ↦ elim (cases_lt n 100) [ inl two ↦ rw (decimal_two n some two) (omega arith) | inr more ↦ rw (decimal_three n more) (omega arith) ]
    ]

joined_short : (Item : List ℕ → ℕ → Type 0) (sep base : ℕ) → ((text : List ℕ) (n : ℕ) → Item text n → length text ≤ 4)
    → (k : ℕ) (text : List ℕ) (n : ℕ) → Joined Item sep base k text n → length text ≤ 5 * k
joined_short Item sep base short zero text n joined = omega (arith, ap length joined.0)
joined_short Item sep base short (suc zero) text n joined = omega (arith, short text n joined)
joined_short Item sep base short (suc (suc k)) text n (front, last, high, low, joined, item, is, number) =
    omega (arith, joined_short Item sep base short (suc k) front high joined, short last low item, ap length is ∙ length-append front (sep ∷ last))

part_short : (text : List ℕ) (n : ℕ) → IsPart text n → length text ≤ 4
part_short text n is = omega (arith, ap length is.spelled, decimal_short n)

group_short : (text : List ℕ) (n : ℕ) → IsGroup text n → length text ≤ 4
group_short text n is = is.few

six_short : (text : List ℕ) (n : ℕ) → IsSix text n → length text ≤ 60
six_short text n (inl groups) = omega (arith, joined_short IsGroup 58 65536 group_short 8 text n groups)
six_short text n (inr gap) =
    omega (
      arith,
      joined_short IsGroup 58 65536 group_short gap.before gap.front gap.high gap.first,
      joined_short IsGroup 58 65536 group_short gap.after gap.back gap.low gap.last,
      gap.fewer,
      ap length gap.spelled ∙ length-append gap.front (58 ∷ 58 ∷ gap.back),
    )

pub address_short : (text : List ℕ) (x : Address) → IsAddress text x → length text ≤ 60
address_short text (V4 n) is = omega (arith, joined_short IsPart 46 256 part_short 4 text n is)
address_short text (V6 n) is = six_short text n is

-- so the place at which a text leaves their grammar is near
pub address_place : (text : List ℕ) (place : ℕ) → LeavesAt IsAddress text place → place ≤ 60
address_place text place leaves =
    omega (
      arith,
      address_short (take place text ++ leaves.front.0) leaves.front.1 leaves.front.2,
      length-append (take place text) leaves.front.0,
      length-take-le place text leaves.within,
    )

four_short : (text : List ℕ) (n : ℕ) → IsFour text n → length text ≤ 60
four_short text n is = omega (arith, joined_short IsPart 46 256 part_short 4 text n is)

pub four_place : (text : List ℕ) (place : ℕ) → LeavesAt IsFour text place → place ≤ 60
four_place text place leaves =
    omega (
      arith,
      four_short (take place text ++ leaves.front.0) leaves.front.1 leaves.front.2,
      length-append (take place text) leaves.front.0,
      length-take-le place text leaves.within,
    )

pub six_place : (text : List ℕ) (place : ℕ) → LeavesAt IsSix text place → place ≤ 60
six_place text place leaves =
    omega (
      arith,
      six_short (take place text ++ leaves.front.0) leaves.front.1 leaves.front.2,
      length-append (take place text) leaves.front.0,
      length-take-le place text leaves.within,
    )
