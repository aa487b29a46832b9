-- The machine for IPv6 addresses reads their texts and no others.
use Rattle.std.proofs.Common.{◌≡◌, ℕ, ◌+◌, ◌-◌, ◌*◌, ◌^◌, ◌<◌, ◌≤◌, Bool, true, false, cond, eqb, ltb, List, [], ◌∷◌, ◌++◌, length, Option, None, Some, refl, sym, ap, ◌∙◌, subst, arith, append_assoc, length-append, zero, suc, inl, inr, ◌⊎◌}
use Rattle.std.specs.Option.{option_and_then}
use Rattle.std.proofs.lemmas.List.{append-nil}
use Rattle.std.proofs.lemmas.Bool.{cases_lt, lt-ltb, ltb-true, eqb-true}
use Rattle.cm_net.specs.Addresses.{hex_of, hex_from, IsGroup, AreGroups, HasGap, IsSix}
use Rattle.cm_net.specs.SixReader.{Six, start6, begun, digit_at, colon_at, step6, final_at, final6}
use Rattle.cm_net.specs.declared.six_reader.Place.{Place}
use Rattle.cm_net.specs.declared.six_reader.Place.TheVariants.{Start, Colon, Group, Next, Gap, LastGroup, LastNext}
use Rattle.cm_net.specs.Texts.{IsFront}
use Rattle.cm_net.proofs.JoinedTexts.{Whole, join_more, whole_again}
use Rattle.cm_net.specs.Machines.{run}
use Rattle.cm_net.proofs.Machines.{run-append, kept, Reads}

abbrev pub six : Place → ℕ → ℕ → ℕ → ℕ → ℕ → ℕ → Six
six place count value last_count last_value digits number =
    record { place = place; count = count; value = value; last_count = last_count; last_value = last_value; digits = digits; number = number }

-- ---- digits

then_chain : {A B C : Type 0} (o : Option A) (f : A → Option C) (g : A → Option B) (h : B → Option C) → ((x : A) → f x ≡ option_and_then h (g x)) → option_and_then f o ≡ option_and_then h (option_and_then g o)
then_chain None f g h same = refl
then_chain (Some x) f g h same = same x

hex_from-append : (n : ℕ) (xs ys : List ℕ) → hex_from n (xs ++ ys) ≡ option_and_then (λ m. hex_from m ys) (hex_from n xs)
hex_from-append n [] ys = refl
hex_from-append n (c ∷ xs) ys =
    then_chain (hex_of c) (λ d. hex_from (n * 16 + d) (xs ++ ys)) (λ d. hex_from (n * 16 + d) xs) (λ m. hex_from m ys) (λ d. hex_from-append (n * 16 + d) xs ys)

-- a digit more behind the digits of a number
pub hex_more : (n : ℕ) (text : List ℕ) (m b d : ℕ) → hex_from n text ≡ Some m → hex_of b ≡ Some d → hex_from n (text ++ b ∷ []) ≡ Some (m * 16 + d)
hex_more n text m b d is digit = hex_from-append n text (b ∷ []) ∙ rw (is, digit) refl

-- ---- runs over groups

-- what a machine does with the groups from its state `first` on: `group` within a group, `next` behind a `:`
pub record Groups (first : Six) (group next : ℕ → ℕ → ℕ → ℕ → Six) (limit : ℕ) : Type 0 where
  pub begins : (b d : ℕ) → hex_of b ≡ Some d → step6 first b ≡ Some (group 0 0 1 d)
  pub goes_on : (k v n g b d : ℕ) → n < 4 → hex_of b ≡ Some d → step6 (group k v n g) b ≡ Some (group k v (n + 1) (g * 16 + d))
  pub ends : (k v n g : ℕ) → k < limit → step6 (group k v n g) 58 ≡ Some (next (k + 1) (v * 65536 + g) n g)
  pub again : (k v n g b d : ℕ) → hex_of b ≡ Some d → step6 (next k v n g) b ≡ Some (group k v 1 d)

module _ (first : Six) (group next : ℕ → ℕ → ℕ → ℕ → Six) (limit : ℕ) (groups : Groups first group next limit) where
  by_hex : (text : List ℕ) (n m : ℕ) (b : ℕ) → option_and_then (λ d. hex_from (n * 16 + d) text) (hex_of b) ≡ Some m → (d : ℕ) × (hex_of b ≡ Some d) × (hex_from (n * 16 + d) text ≡ Some m)
  by_hex text n m b is = choose (hex_of b) refl
    where
      choose : (o : Option ℕ) → hex_of b ≡ o → (d : ℕ) × (hex_of b ≡ Some d) × (hex_from (n * 16 + d) text ≡ Some m)
      choose None e = let no : None ≡ Some m = rw e at is in cc
      choose (Some d) e = (d, e, rw e at is)

  -- further digits of a group
  more_hex : (text : List ℕ) (k v n g m : ℕ) → n + length text ≤ 4 → hex_from g text ≡ Some m → run step6 (Some (group k v n g)) text ≡ Some (group k v (n + length text) m)
  more_hex [] k v n g m few is =
      let same : g ≡ m = cc in
      let none : n + 0 ≡ n = omega arith in
      rw (none, same) refl
  more_hex (b ∷ text) k v n g m few is =
      let first_ = by_hex text g m b is in
      let long : n + suc (length text) ≡ n + 1 + length text = omega arith in
      ap (λ (o : Option Six). run step6 o text) (groups.goes_on k v n g b first_.0 (omega (arith, few)) first_.1)
      ∙ (more_hex text k v (n + 1) (g * 16 + first_.0) m (omega (arith, few)) first_.2
      ∙ ap (λ (j : ℕ). Some (group k v j m)) (sym long))

  first_group : (text : List ℕ) (m : ℕ) → IsGroup text m → run step6 (Some first) text ≡ Some (group 0 0 (length text) m)
  first_group [] m is = absurd (omega (arith, is.some))
  first_group (b ∷ text) m is =
      let digit = by_hex text 0 m b is.spelled in
      let zero_ : 0 * 16 + digit.0 ≡ digit.0 = omega arith in
      let long : 1 + length text ≡ suc (length text) = omega arith in
      ap (λ (o : Option Six). run step6 o text) (groups.begins b digit.0 digit.1)
      ∙ (more_hex text 0 0 1 digit.0 m (omega (arith, is.few)) (rw zero_ at digit.2)
      ∙ ap (λ (j : ℕ). Some (group 0 0 j m)) long)

  later_group : (k v n g : ℕ) (text : List ℕ) (m : ℕ) → IsGroup text m → run step6 (Some (next k v n g)) text ≡ Some (group k v (length text) m)
  later_group k v n g [] m is = absurd (omega (arith, is.some))
  later_group k v n g (b ∷ text) m is =
      let digit = by_hex text 0 m b is.spelled in
      let zero_ : 0 * 16 + digit.0 ≡ digit.0 = omega arith in
      let long : 1 + length text ≡ suc (length text) = omega arith in
      ap (λ (o : Option Six). run step6 o text) (groups.again k v n g b digit.0 digit.1)
      ∙ (more_hex text k v 1 digit.0 m (omega (arith, is.few)) (rw zero_ at digit.2)
      ∙ ap (λ (j : ℕ). Some (group k v j m)) long)

  pub record Behind6 (k : ℕ) (text : List ℕ) (n : ℕ) : Type 0 where
    pub high : ℕ
    pub low : ℕ
    pub digits : ℕ
    pub number : high * 65536 + low ≡ n
    pub read : run step6 (Some first) text ≡ Some (group k high digits low)

  next_group : (k : ℕ) (front last : List ℕ) (high low : ℕ) → k < limit → Behind6 k front high → IsGroup last low → Behind6 (k + 1) (front ++ 58 ∷ last) (high * 65536 + low)
  next_group k front last high low few was is = record {
    high = high;
    low = low;
    digits = length last;
    number = refl;
    read =
        run-append step6 (Some first) front (58 ∷ last)
        ∙ (ap (λ (o : Option Six). run step6 o (58 ∷ last)) was.read
        ∙ (ap (λ (o : Option Six). run step6 o last) (groups.ends k was.high was.digits was.low few)
        ∙ (later_group (k + 1) (was.high * 65536 + was.low) was.digits was.low last low is
        ∙ ap (λ (v : ℕ). Some (group (k + 1) v (length last) low)) was.number)));
  }

  pub read_groups : (k : ℕ) (text : List ℕ) (n : ℕ) → k ≤ limit → AreGroups (suc k) text n → Behind6 k text n
  read_groups zero text n few joined = record { high = 0; low = n; digits = length text; number = omega arith; read = first_group text n joined }
  read_groups (suc k) text n few (front, last, high, low, joined, part, is, number) =
      let rest = next_group k front last high low (omega (arith, few)) (read_groups k front high (omega (arith, few)) joined) part in
      let count : k + 1 ≡ suc k = omega arith in
      subst (λ (j : ℕ). Behind6 j text n) count (subst (λ (m : ℕ). Behind6 (k + 1) text m) (sym number) (subst (λ (t : List ℕ). Behind6 (k + 1) t (high * 65536 + low)) (sym is) rest))

-- ---- from the start, and from the `::`

step_digit : (s : Six) (b d : ℕ) → hex_of b ≡ Some d → step6 s b ≡ digit_at s.place s d
step_digit s b d is = rw is refl

pub from_start : Groups start6 (λ k v n g. six Group k v 0 0 n g) (λ k v n g. six Next k v 0 0 n g) 7
from_start = record {
  begins = λ b d is. step_digit start6 b d is;
  goes_on = λ k v n g b d few is. step_digit (six Group k v 0 0 n g) b d is ∙ rw (lt-ltb n 4 few) refl;
  ends = λ k v n g few. rw (lt-ltb (k + 0) 7 (omega (arith, few))) refl;
  again = λ k v n g b d is. step_digit (six Next k v 0 0 n g) b d is;
}

pub from_gap : (i h x y : ℕ) → i < 7 → Groups (six Gap i h 0 0 x y) (λ k v n g. six LastGroup i h k v n g) (λ k v n g. six LastNext i h k v n g) (6 - i)
from_gap i h x y small = record {
  begins = λ b d is. step_digit (six Gap i h 0 0 x y) b d is ∙ rw (lt-ltb (i + 0) 7 (omega (arith, small))) refl;
  goes_on = λ k v n g b d few is. step_digit (six LastGroup i h k v n g) b d is ∙ rw (lt-ltb n 4 few) refl;
  ends = λ k v n g few. rw (lt-ltb (i + k) 6 (omega (arith, few))) refl;
  again = λ k v n g b d is. step_digit (six LastNext i h k v n g) b d is;
}

-- ---- each text of the grammar is read

pub record AtGap (i h : ℕ) (text : List ℕ) : Type 0 where
  pub digits : ℕ
  pub number : ℕ
  pub read : run step6 (Some start6) text ≡ Some (six Gap i h 0 0 digits number)

reach_gap : (i : ℕ) (front : List ℕ) (h : ℕ) → i < 8 → AreGroups i front h → AtGap i h (front ++ 58 ∷ 58 ∷ [])
reach_gap zero front h few groups = record {
  digits = 0;
  number = 0;
  read = rw (groups.0, groups.1) refl;
}
reach_gap (suc k) front h few groups =
    let was = read_groups start6 (λ k v n g. six Group k v 0 0 n g) (λ k v n g. six Next k v 0 0 n g) 7 from_start k front h (omega (arith, few)) groups in
    let count : k + 1 ≡ suc k = omega arith in
    record {
      digits = was.digits;
      number = was.low;
      read =
          run-append step6 (Some start6) front (58 ∷ 58 ∷ [])
          ∙ (ap (λ (o : Option Six). run step6 o (58 ∷ 58 ∷ [])) was.read
          ∙ (ap (λ (o : Option Six). run step6 o (58 ∷ [])) (from_start.ends k was.high was.digits was.low (omega (arith, few)))
          ∙ (ap (λ (j : ℕ). Some (six Gap j (was.high * 65536 + was.low) 0 0 was.digits was.low)) count
          ∙ ap (λ (v : ℕ). Some (six Gap (suc k) v 0 0 was.digits was.low)) was.number)));
    }

abbrev Complete : List ℕ → ℕ → Type 0
Complete text n = (s : Six) × (run step6 (Some start6) text ≡ Some s) × (final6 s ≡ Some n)

behind_gap : (i j : ℕ) (text back : List ℕ) (h low : ℕ) → i + j < 8 → AtGap i h text → AreGroups j back low → Complete (text ++ back) (h * 65536 ^ (8 - i) + low)
behind_gap i zero text back h low few at groups = (
  six Gap i h 0 0 at.digits at.number,
  ap (λ (t : List ℕ). run step6 (Some start6) (text ++ t)) groups.0 ∙ (ap (λ (t : List ℕ). run step6 (Some start6) t) (append-nil text) ∙ at.read),
  ap (λ (m : ℕ). Some (h * 65536 ^ (8 - i) + m)) (sym groups.1),
)
behind_gap i (suc j) text back h low few at groups =
    let was = read_groups (six Gap i h 0 0 at.digits at.number) (λ k v n g. six LastGroup i h k v n g) (λ k v n g. six LastNext i h k v n g) (6 - i)
    (from_gap i h at.digits at.number (omega (arith, few))) j back low (omega (arith, few)) groups in (
      six LastGroup i h j was.high was.digits was.low,
      run-append step6 (Some start6) text back ∙ (ap (λ (o : Option Six). run step6 o back) at.read ∙ was.read),
      ap (λ (m : ℕ). Some (h * 65536 ^ (8 - i) + m)) was.number,
    )

eight : (text : List ℕ) (n : ℕ) → AreGroups 8 text n → Complete text n
eight text n groups =
    let was = read_groups start6 (λ k v n g. six Group k v 0 0 n g) (λ k v n g. six Next k v 0 0 n g) 7 from_start 7 text n (omega arith) groups in
    (six Group 7 was.high 0 0 was.digits was.low, was.read, ap (λ (m : ℕ). Some m) was.number)

gapped : (text : List ℕ) (n : ℕ) → HasGap text n → Complete text n
gapped text n gap =
    let at = reach_gap gap.before gap.front gap.high (omega (arith, gap.fewer)) gap.first in
    let whole = behind_gap gap.before gap.after (gap.front ++ 58 ∷ 58 ∷ []) gap.back gap.high gap.low gap.fewer at gap.last in
    let same : (gap.front ++ 58 ∷ 58 ∷ []) ++ gap.back ≡ text = append_assoc gap.front (58 ∷ 58 ∷ []) gap.back ∙ sym gap.spelled in
    subst (λ (m : ℕ). Complete text m) (sym gap.number) (subst (λ (t : List ℕ). Complete t (gap.high * 65536 ^ (8 - gap.before) + gap.low)) same whole)

pub complete6 : (text : List ℕ) (n : ℕ) → IsSix text n → Complete text n
complete6 text n (inl groups) = eight text n groups
complete6 text n (inr gap) = gapped text n gap

-- ---- what is read is a text of the grammar, or can be completed to one

-- the digits of a group that is begun
pub record IsBegun (text : List ℕ) (digits number : ℕ) : Type 0 where
  pub long : length text ≡ digits
  pub some : 1 ≤ length text
  pub few : length text ≤ 4
  pub spelled : hex_from 0 text ≡ Some number

pub record NoLast (s : Six) : Type 0 where
  pub last_count : s.last_count ≡ 0
  pub last_value : s.last_value ≡ 0

pub record AtStart (s : Six) (text front : List ℕ) : Type 0 where
  pub last : NoLast s
  pub count : s.count ≡ 0
  pub value : s.value ≡ 0
  pub is : text ≡ front

pub record InGroup (s : Six) (text : List ℕ) : Type 0 where
  pub last : NoLast s
  pub few : s.count < 8
  pub done : List ℕ
  pub begun_ : List ℕ
  pub whole : Whole IsGroup 58 65536 s.count done s.value
  pub digits_ : IsBegun begun_ s.digits s.number
  pub is : text ≡ done ++ begun_

pub record BehindGroup (s : Six) (text : List ℕ) : Type 0 where
  pub last : NoLast s
  pub few : s.count < 8
  pub front : List ℕ
  pub groups : AreGroups s.count front s.value
  pub is : text ≡ front ++ 58 ∷ []
  pub whole : Whole IsGroup 58 65536 s.count text s.value

pub record BehindGap (s : Six) (text : List ℕ) : Type 0 where
  pub last : NoLast s
  pub few : s.count < 8
  pub front : List ℕ
  pub groups : AreGroups s.count front s.value
  pub is : text ≡ front ++ 58 ∷ 58 ∷ []

pub record InLast (s : Six) (text : List ℕ) : Type 0 where
  pub few : s.count + s.last_count < 7
  pub front : List ℕ
  pub done : List ℕ
  pub begun_ : List ℕ
  pub groups : AreGroups s.count front s.value
  pub whole : Whole IsGroup 58 65536 s.last_count done s.last_value
  pub digits_ : IsBegun begun_ s.digits s.number
  pub is : text ≡ (front ++ 58 ∷ 58 ∷ []) ++ (done ++ begun_)

pub record BehindLast (s : Six) (text : List ℕ) : Type 0 where
  pub few : s.count + s.last_count < 7
  pub front : List ℕ
  pub done : List ℕ
  pub groups : AreGroups s.count front s.value
  pub whole : Whole IsGroup 58 65536 s.last_count done s.last_value
  pub is : text ≡ (front ++ 58 ∷ 58 ∷ []) ++ done

abbrev pub SpelledAt : Place → Six → List ℕ → Type 0
SpelledAt Start s text = AtStart s text []
SpelledAt Colon s text = AtStart s text (58 ∷ [])
SpelledAt Group s text = InGroup s text
SpelledAt Next s text = BehindGroup s text
SpelledAt Gap s text = BehindGap s text
SpelledAt LastGroup s text = InLast s text
SpelledAt LastNext s text = BehindLast s text

abbrev pub SpelledSix : Six → List ℕ → Type 0
SpelledSix s text = SpelledAt s.place s text

one_digit : (b d : ℕ) → hex_of b ≡ Some d → IsBegun (b ∷ []) 1 d
one_digit b d is = record { long = refl; some = omega arith; few = omega arith; spelled = rw is (ap (λ (n : ℕ). Some n) (omega arith)) }

digit_more : (text : List ℕ) (n g b d : ℕ) → n < 4 → hex_of b ≡ Some d → IsBegun text n g → IsBegun (text ++ b ∷ []) (n + 1) (g * 16 + d)
digit_more text n g b d few is was = record {
  long = length-append text (b ∷ []) ∙ omega (arith, was.long);
  some = omega (arith, length-append text (b ∷ []));
  few = omega (arith, length-append text (b ∷ []), was.long, few);
  spelled = hex_more 0 text g b d was.spelled is;
}

is_group : (text : List ℕ) (n g : ℕ) → IsBegun text n g → IsGroup text g
is_group text n g was = record { some = was.some; few = was.few; spelled = was.spelled }

some_is : {A : Type 0} (x y : A) → Some x ≡ Some y → x ≡ y
some_is x y is = cc

-- a group begins behind whole groups
begin_group : (s t : Six) (text : List ℕ) (b d : ℕ) → hex_of b ≡ Some d → NoLast s → s.count < 8 → Whole IsGroup 58 65536 s.count text s.value
    → Some (begun s Group d) ≡ Some t → SpelledSix t (text ++ b ∷ [])
begin_group s t text b d is last few whole read =
    subst (λ (u : Six). SpelledSix u (text ++ b ∷ [])) (some_is (begun s Group d) t read)
    (record { last = record { last_count = last.last_count; last_value = last.last_value }; few = few; done = text; begun_ = b ∷ []; whole = whole; digits_ = one_digit b d is; is = refl })

begin_last : (s t : Six) (front done : List ℕ) (text : List ℕ) (b d : ℕ) → hex_of b ≡ Some d → s.count + s.last_count < 7 → AreGroups s.count front s.value
    → Whole IsGroup 58 65536 s.last_count done s.last_value → text ≡ (front ++ 58 ∷ 58 ∷ []) ++ done
    → Some (begun s LastGroup d) ≡ Some t → SpelledSix t (text ++ b ∷ [])
begin_last s t front done text b d is few groups whole spelled read =
    subst (λ (u : Six). SpelledSix u (text ++ b ∷ [])) (some_is (begun s LastGroup d) t read)
    (record {
      few = few;
      front = front;
      done = done;
      begun_ = b ∷ [];
      groups = groups;
      whole = whole;
      digits_ = one_digit b d is;
      is = ap (λ (x : List ℕ). x ++ b ∷ []) spelled ∙ append_assoc (front ++ 58 ∷ 58 ∷ []) done (b ∷ []);
    })

go_on_group : (s t : Six) (text : List ℕ) (b d : ℕ) (few : Bool) → s.place ≡ Group → ltb s.digits 4 ≡ few → hex_of b ≡ Some d → InGroup s text
    → cond few (Some (record s { digits = s.digits + 1; number = s.number * 16 + d })) None ≡ Some t → SpelledSix t (text ++ b ∷ [])
go_on_group s t text b d true at few is was read =
    let next : Six = record s { digits = s.digits + 1; number = s.number * 16 + d } in
    let in_group : InGroup next (text ++ b ∷ []) = record {
      last = record { last_count = was.last.last_count; last_value = was.last.last_value };
      few = was.few;
      done = was.done;
      begun_ = was.begun_ ++ b ∷ [];
      whole = was.whole;
      digits_ = digit_more was.begun_ s.digits s.number b d (ltb-true s.digits 4 few) is was.digits_;
      is = ap (λ (x : List ℕ). x ++ b ∷ []) was.is ∙ append_assoc was.done was.begun_ (b ∷ []);
    } in
    subst (λ (u : Six). SpelledSix u (text ++ b ∷ [])) (some_is next t read) (subst (λ (p : Place). SpelledAt p next (text ++ b ∷ [])) (sym at) in_group)
go_on_group s t text b d false at few is was read = let no : None ≡ Some t = read in cc

go_on_last : (s t : Six) (text : List ℕ) (b d : ℕ) (few : Bool) → s.place ≡ LastGroup → ltb s.digits 4 ≡ few → hex_of b ≡ Some d → InLast s text
    → cond few (Some (record s { digits = s.digits + 1; number = s.number * 16 + d })) None ≡ Some t → SpelledSix t (text ++ b ∷ [])
go_on_last s t text b d true at few is was read =
    let next : Six = record s { digits = s.digits + 1; number = s.number * 16 + d } in
    let in_last : InLast next (text ++ b ∷ []) = record {
      few = was.few;
      front = was.front;
      done = was.done;
      begun_ = was.begun_ ++ b ∷ [];
      groups = was.groups;
      whole = was.whole;
      digits_ = digit_more was.begun_ s.digits s.number b d (ltb-true s.digits 4 few) is was.digits_;
      is = ap (λ (x : List ℕ). x ++ b ∷ []) was.is
          ∙ (append_assoc (was.front ++ 58 ∷ 58 ∷ []) (was.done ++ was.begun_) (b ∷ [])
          ∙ ap (λ (x : List ℕ). (was.front ++ 58 ∷ 58 ∷ []) ++ x) (append_assoc was.done was.begun_ (b ∷ [])));
    } in
    subst (λ (u : Six). SpelledSix u (text ++ b ∷ [])) (some_is next t read) (subst (λ (p : Place). SpelledAt p next (text ++ b ∷ [])) (sym at) in_last)
go_on_last s t text b d false at few is was read = let no : None ≡ Some t = read in cc

none_whole : (s : Six) → s.count ≡ 0 → s.value ≡ 0 → Whole IsGroup 58 65536 s.count [] s.value
none_whole s count value = rw count (refl, value)

no_last_whole : (s : Six) → NoLast s → Whole IsGroup 58 65536 s.last_count [] s.last_value
no_last_whole s last = rw last.last_count (refl, last.last_value)

begin_at_gap : (s t : Six) (text : List ℕ) (b d : ℕ) (few : Bool) → ltb (s.count + s.last_count) 7 ≡ few → hex_of b ≡ Some d → BehindGap s text
    → cond few (Some (begun s LastGroup d)) None ≡ Some t → SpelledSix t (text ++ b ∷ [])
begin_at_gap s t text b d true few is was read =
    begin_last s t was.front [] text b d is (ltb-true (s.count + s.last_count) 7 few) was.groups (no_last_whole s was.last) (was.is ∙ sym (append-nil (was.front ++ 58 ∷ 58 ∷ []))) read
begin_at_gap s t text b d false few is was read = let no : None ≡ Some t = read in cc

digit_keeps : (p : Place) (s t : Six) (text : List ℕ) (b d : ℕ) → s.place ≡ p → hex_of b ≡ Some d → SpelledAt p s text → digit_at p s d ≡ Some t → SpelledSix t (text ++ b ∷ [])
digit_keeps Start s t text b d at is was read =
    begin_group s t text b d is was.last (rw was.count (omega arith)) (subst (λ (x : List ℕ). Whole IsGroup 58 65536 s.count x s.value) (sym was.is) (none_whole s was.count was.value)) read
digit_keeps Colon s t text b d at is was read = let no : None ≡ Some t = read in cc
digit_keeps Group s t text b d at is was read = go_on_group s t text b d (ltb s.digits 4) at refl is was read
digit_keeps Next s t text b d at is was read = begin_group s t text b d is was.last was.few was.whole read
digit_keeps Gap s t text b d at is was read = begin_at_gap s t text b d (ltb (s.count + s.last_count) 7) refl is was read
digit_keeps LastGroup s t text b d at is was read = go_on_last s t text b d (ltb s.digits 4) at refl is was read
digit_keeps LastNext s t text b d at is was read = begin_last s t was.front was.done text b d is was.few was.groups was.whole was.is read

-- ---- a `:`

end_group : (s t : Six) (text : List ℕ) (few : Bool) → ltb (s.count + s.last_count) 7 ≡ few → InGroup s text
    → cond few (Some (record s { place = Next; count = s.count + 1; value = s.value * 65536 + s.number })) None ≡ Some t → SpelledSix t (text ++ 58 ∷ [])
end_group s t text true few was read =
    let joined = join_more IsGroup 58 65536 s.count was.done s.value was.begun_ s.number was.whole (is_group was.begun_ s.digits s.number was.digits_) in
    let count : suc s.count ≡ s.count + 1 = omega arith in
    let groups : AreGroups (s.count + 1) text (s.value * 65536 + s.number) =
    subst (λ (j : ℕ). AreGroups j text (s.value * 65536 + s.number)) count (subst (λ (x : List ℕ). AreGroups (suc s.count) x (s.value * 65536 + s.number)) (sym was.is) joined) in
    let whole : Whole IsGroup 58 65536 (s.count + 1) (text ++ 58 ∷ []) (s.value * 65536 + s.number) =
    subst (λ (j : ℕ). Whole IsGroup 58 65536 j (text ++ 58 ∷ []) (s.value * 65536 + s.number)) count
    (whole_again IsGroup 58 65536 s.count text (s.value * 65536 + s.number) (subst (λ (x : List ℕ). AreGroups (suc s.count) x (s.value * 65536 + s.number)) (sym was.is) joined)) in
    subst (λ (u : Six). SpelledSix u (text ++ 58 ∷ [])) (some_is (record s { place = Next; count = s.count + 1; value = s.value * 65536 + s.number }) t read)
    (record { last = record { last_count = was.last.last_count; last_value = was.last.last_value }; few = omega (arith, ltb-true (s.count + s.last_count) 7 few); front = text; groups = groups; is = refl; whole = whole })
end_group s t text false few was read = let no : None ≡ Some t = read in cc

end_last : (s t : Six) (text : List ℕ) (few : Bool) → ltb (s.count + s.last_count) 6 ≡ few → InLast s text
    → cond few (Some (record s { place = LastNext; last_count = s.last_count + 1; last_value = s.last_value * 65536 + s.number })) None ≡ Some t → SpelledSix t (text ++ 58 ∷ [])
end_last s t text true few was read =
    let joined = join_more IsGroup 58 65536 s.last_count was.done s.last_value was.begun_ s.number was.whole (is_group was.begun_ s.digits s.number was.digits_) in
    let count : suc s.last_count ≡ s.last_count + 1 = omega arith in
    let whole : Whole IsGroup 58 65536 (s.last_count + 1) ((was.done ++ was.begun_) ++ 58 ∷ []) (s.last_value * 65536 + s.number) =
    subst (λ (j : ℕ). Whole IsGroup 58 65536 j ((was.done ++ was.begun_) ++ 58 ∷ []) (s.last_value * 65536 + s.number)) count
    (whole_again IsGroup 58 65536 s.last_count (was.done ++ was.begun_) (s.last_value * 65536 + s.number) joined) in
    subst (λ (u : Six). SpelledSix u (text ++ 58 ∷ [])) (some_is (record s { place = LastNext; last_count = s.last_count + 1; last_value = s.last_value * 65536 + s.number }) t read)
    (record {
      few = omega (arith, ltb-true (s.count + s.last_count) 6 few);
      front = was.front;
      done = (was.done ++ was.begun_) ++ 58 ∷ [];
      groups = was.groups;
      whole = whole;
      is = ap (λ (x : List ℕ). x ++ 58 ∷ []) was.is ∙ append_assoc (was.front ++ 58 ∷ 58 ∷ []) (was.done ++ was.begun_) (58 ∷ []);
    })
end_last s t text false few was read = let no : None ≡ Some t = read in cc

no_groups : (s : Six) → s.count ≡ 0 → s.value ≡ 0 → AreGroups s.count [] s.value
no_groups s count value = rw count (refl, value)

colon_keeps : (p : Place) (s t : Six) (text : List ℕ) → s.place ≡ p → SpelledAt p s text → colon_at p s ≡ Some t → SpelledSix t (text ++ 58 ∷ [])
colon_keeps Start s t text at was read =
    subst (λ (u : Six). SpelledSix u (text ++ 58 ∷ [])) (some_is (record s { place = Colon }) t read)
    (record { last = record { last_count = was.last.last_count; last_value = was.last.last_value }; count = was.count; value = was.value; is = ap (λ (x : List ℕ). x ++ 58 ∷ []) was.is })
colon_keeps Colon s t text at was read =
    subst (λ (u : Six). SpelledSix u (text ++ 58 ∷ [])) (some_is (record s { place = Gap }) t read)
    (record { last = record { last_count = was.last.last_count; last_value = was.last.last_value }; few = rw was.count (omega arith); front = []; groups = no_groups s was.count was.value; is = ap (λ (x : List ℕ). x ++ 58 ∷ []) was.is })
colon_keeps Group s t text at was read = end_group s t text (ltb (s.count + s.last_count) 7) refl was read
colon_keeps Next s t text at was read =
    subst (λ (u : Six). SpelledSix u (text ++ 58 ∷ [])) (some_is (record s { place = Gap }) t read)
    (record { last = record { last_count = was.last.last_count; last_value = was.last.last_value }; few = was.few; front = was.front; groups = was.groups; is = ap (λ (x : List ℕ). x ++ 58 ∷ []) was.is ∙ append_assoc was.front (58 ∷ []) (58 ∷ []) })
colon_keeps Gap s t text at was read = let no : None ≡ Some t = read in cc
colon_keeps LastGroup s t text at was read = end_last s t text (ltb (s.count + s.last_count) 6) refl was read
colon_keeps LastNext s t text at was read = let no : None ≡ Some t = read in cc

by_colon : (s t : Six) (text : List ℕ) (b : ℕ) (is_colon : Bool) → eqb b 58 ≡ is_colon → SpelledSix s text → cond is_colon (colon_at s.place s) None ≡ Some t → SpelledSix t (text ++ b ∷ [])
by_colon s t text b true is was read = subst (λ (c : ℕ). SpelledSix t (text ++ c ∷ [])) (sym (eqb-true b 58 is)) (colon_keeps s.place s t text refl was read)
by_colon s t text b false is was read = let no : None ≡ Some t = read in cc

step_keeps : (s t : Six) (text : List ℕ) (b : ℕ) → SpelledSix s text → step6 s b ≡ Some t → SpelledSix t (text ++ b ∷ [])
step_keeps s t text b was read = choose (hex_of b) refl
  where
    choose : (o : Option ℕ) → hex_of b ≡ o → SpelledSix t (text ++ b ∷ [])
    choose None e = by_colon s t text b (eqb b 58) refl was (rw e at read)
    choose (Some d) e = digit_keeps s.place s t text b d refl e was (rw e at read)

pub spelled6 : (text : List ℕ) (s : Six) → run step6 (Some start6) text ≡ Some s → SpelledSix s text
spelled6 text s read =
    kept step6 SpelledSix step_keeps text [] start6 s (record { last = record { last_count = refl; last_value = refl }; count = refl; value = refl; is = refl }) read

-- ---- whole texts

gap_text : (i j : ℕ) (front back : List ℕ) (h low : ℕ) → i + j < 8 → AreGroups i front h → AreGroups j back low → IsSix (front ++ 58 ∷ 58 ∷ back) (h * 65536 ^ (8 - i) + low)
gap_text i j front back h low few first last =
    inr (record { before = i; after = j; fewer = few; front = front; back = back; high = h; low = low; first = first; last = last; spelled = refl; number = refl })

whole_group : (s : Six) (text : List ℕ) (n : ℕ) (seven : Bool) → eqb s.count 7 ≡ seven → InGroup s text → cond seven (Some (s.value * 65536 + s.number)) None ≡ Some n → IsSix text n
whole_group s text n true count was is =
    let joined = join_more IsGroup 58 65536 s.count was.done s.value was.begun_ s.number was.whole (is_group was.begun_ s.digits s.number was.digits_) in
    inl (subst (λ (m : ℕ). AreGroups 8 text m) (some_is (s.value * 65536 + s.number) n is)
    (subst (λ (x : List ℕ). AreGroups 8 x (s.value * 65536 + s.number)) (sym was.is)
    (subst (λ (j : ℕ). AreGroups (suc j) (was.done ++ was.begun_) (s.value * 65536 + s.number)) (eqb-true s.count 7 count) joined)))
whole_group s text n false count was is = let no : None ≡ Some n = is in cc

gap_alone : (s : Six) (text : List ℕ) → BehindGap s text → IsSix text (s.value * 65536 ^ (8 - s.count) + s.last_value)
gap_alone s text was =
    subst (λ (x : List ℕ). IsSix x (s.value * 65536 ^ (8 - s.count) + s.last_value)) (sym was.is)
    (gap_text s.count 0 was.front [] s.value s.last_value (omega (arith, was.few)) was.groups (refl, was.last.last_value))

gap_and_groups : (s : Six) (text : List ℕ) → InLast s text → IsSix text (s.value * 65536 ^ (8 - s.count) + (s.last_value * 65536 + s.number))
gap_and_groups s text was =
    let joined = join_more IsGroup 58 65536 s.last_count was.done s.last_value was.begun_ s.number was.whole (is_group was.begun_ s.digits s.number was.digits_) in
    subst (λ (x : List ℕ). IsSix x (s.value * 65536 ^ (8 - s.count) + (s.last_value * 65536 + s.number))) (sym (was.is ∙ append_assoc was.front (58 ∷ 58 ∷ []) (was.done ++ was.begun_)))
    (gap_text s.count (suc s.last_count) was.front (was.done ++ was.begun_) s.value (s.last_value * 65536 + s.number) (omega (arith, was.few)) was.groups joined)

sound_at : (p : Place) (s : Six) (text : List ℕ) (n : ℕ) → SpelledAt p s text → final_at p s ≡ Some n → IsSix text n
sound_at Start s text n was is = let no : None ≡ Some n = is in cc
sound_at Colon s text n was is = let no : None ≡ Some n = is in cc
sound_at Group s text n was is = whole_group s text n (eqb s.count 7) refl was is
sound_at Next s text n was is = let no : None ≡ Some n = is in cc
sound_at Gap s text n was is = subst (λ (m : ℕ). IsSix text m) (some_is (s.value * 65536 ^ (8 - s.count) + s.last_value) n is) (gap_alone s text was)
sound_at LastGroup s text n was is = subst (λ (m : ℕ). IsSix text m) (some_is (s.value * 65536 ^ (8 - s.count) + (s.last_value * 65536 + s.number)) n is) (gap_and_groups s text was)
sound_at LastNext s text n was is = let no : None ≡ Some n = is in cc

-- ---- fronts

-- a text with the groups before a `::` can be completed by it
close_gap : (i : ℕ) (front : List ℕ) (h : ℕ) (text rest : List ℕ) → i < 8 → AreGroups i front h → text ++ rest ≡ front ++ 58 ∷ 58 ∷ [] → IsFront IsSix text
close_gap i front h text rest few groups is =
    (rest, h * 65536 ^ (8 - i) + 0, subst (λ (x : List ℕ). IsSix x (h * 65536 ^ (8 - i) + 0)) (sym is) (gap_text i 0 front [] h 0 (omega (arith, few)) groups (refl, refl)))

close_group : (s : Six) (text : List ℕ) → InGroup s text → (s.count < 7) ⊎ (7 ≤ s.count) → IsFront IsSix text
close_group s text was (inl few) =
    let joined = join_more IsGroup 58 65536 s.count was.done s.value was.begun_ s.number was.whole (is_group was.begun_ s.digits s.number was.digits_) in
    close_gap (suc s.count) text (s.value * 65536 + s.number) text (58 ∷ 58 ∷ []) (omega (arith, few)) (subst (λ (x : List ℕ). AreGroups (suc s.count) x (s.value * 65536 + s.number)) (sym was.is) joined) refl
close_group s text was (inr all) =
    let count : s.count ≡ 7 = omega (arith, was.few, all) in
    ([], s.value * 65536 + s.number, subst (λ (x : List ℕ). IsSix x (s.value * 65536 + s.number)) (sym (append-nil text)) (whole_group s text (s.value * 65536 + s.number) true (rw count refl) was refl))

one_zero : IsGroup (48 ∷ []) 0
one_zero = record { some = omega arith; few = omega arith; spelled = refl }

close_last : (s : Six) (text : List ℕ) → BehindLast s text → IsFront IsSix text
close_last s text was =
    let joined = join_more IsGroup 58 65536 s.last_count was.done s.last_value (48 ∷ []) 0 was.whole one_zero in
    let n : ℕ = s.value * 65536 ^ (8 - s.count) + (s.last_value * 65536 + 0) in (
      48 ∷ [],
      n,
      subst (λ (x : List ℕ). IsSix x n)
          (sym (ap (λ (x : List ℕ). x ++ 48 ∷ []) was.is ∙ (append_assoc (was.front ++ 58 ∷ 58 ∷ []) was.done (48 ∷ []) ∙ append_assoc was.front (58 ∷ 58 ∷ []) (was.done ++ 48 ∷ []))))
          (gap_text s.count (suc s.last_count) was.front (was.done ++ 48 ∷ []) s.value (s.last_value * 65536 + 0) (omega (arith, was.few)) was.groups joined),
    )

alive_at : (p : Place) (s : Six) (text : List ℕ) → SpelledAt p s text → IsFront IsSix text
alive_at Start s text was = close_gap 0 [] 0 text (58 ∷ 58 ∷ []) (omega arith) (refl, refl) (ap (λ (x : List ℕ). x ++ 58 ∷ 58 ∷ []) was.is)
alive_at Colon s text was = close_gap 0 [] 0 text (58 ∷ []) (omega arith) (refl, refl) (ap (λ (x : List ℕ). x ++ 58 ∷ []) was.is)
alive_at Group s text was = close_group s text was (cases_lt s.count 7)
alive_at Next s text was = close_gap s.count was.front s.value text (58 ∷ []) was.few was.groups (ap (λ (x : List ℕ). x ++ 58 ∷ []) was.is ∙ append_assoc was.front (58 ∷ []) (58 ∷ []))
alive_at Gap s text was = ([], s.value * 65536 ^ (8 - s.count) + s.last_value, subst (λ (x : List ℕ). IsSix x (s.value * 65536 ^ (8 - s.count) + s.last_value)) (sym (append-nil text)) (gap_alone s text was))
alive_at LastGroup s text was = ([], s.value * 65536 ^ (8 - s.count) + (s.last_value * 65536 + s.number), subst (λ (x : List ℕ). IsSix x (s.value * 65536 ^ (8 - s.count) + (s.last_value * 65536 + s.number))) (sym (append-nil text)) (gap_and_groups s text was))
alive_at LastNext s text was = close_last s text was

pub reads6 : Reads step6 start6 final6 IsSix
reads6 = record {
  complete = complete6;
  sound = λ text s n read whole. sound_at s.place s text n (spelled6 text s read) whole;
  alive = λ text s read. alive_at s.place s text (spelled6 text s read);
}
