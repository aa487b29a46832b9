-- Two texts with a separator between them, and where a text leaves their grammar.
use Rattle.std.proofs.Common.{◌≡◌, ℕ, ◌+◌, ◌<◌, ◌≤◌, List, [], ◌∷◌, ◌++◌, length, take, refl, sym, ap, ◌∙◌, subst, arith, append_assoc, take_all, length-append, suc, inl, inr, ◌⊎◌}
use Rattle.std.proofs.Math.Seq.{take-append-add}
use Rattle.std.proofs.lemmas.List.{take-append-le, append-nil}
use Rattle.std.proofs.lemmas.Bool.{cases_lt}
use Rattle.cm_net.specs.Free.{IsFree}
use Rattle.cm_net.specs.Texts.{IsFront, LeavesAt}
use Rattle.cm_net.specs.Written.{Apart}
use Rattle.cm_net.proofs.FreeTexts.{free_take, free_no, free_first, free_begins}

one_byte_more : (sep n : ℕ) (after : List ℕ) → take (1 + n) (sep ∷ after) ≡ sep ∷ take n after
one_byte_more sep n after = let same : 1 + n ≡ suc n = omega arith in rw same refl

module _ {A C : Type 0} (First : List ℕ → A → Type 0) (Second : List ℕ → C → Type 0) (sep : ℕ)
    (free : (text : List ℕ) (a : A) → First text a → IsFree sep text) (s0 : List ℕ) (c0 : C) (second : Second s0 c0) where
  abbrev pub Both : List ℕ → (A × C) → Type 0
  Both text x = Apart (λ first. First first x.0) (λ last. Second last x.1) sep text

  whole_at : (text before : List ℕ) (place : ℕ) (tail : List ℕ) → text ≡ before ++ tail → place ≤ length before → take place text ≡ take place before
  whole_at text before place tail is within = ap (λ (t : List ℕ). take place t) is ∙ take-append-le place before tail within

  front_first : (text before tail : List ℕ) (place : ℕ) → text ≡ before ++ tail → place ≤ length before → IsFront First (take place before) → IsFront Both (take place text)
  front_first text before tail place is within front = (
    front.0 ++ sep ∷ s0,
    (front.1, c0),
    record {
      first = take place before ++ front.0;
      second = s0;
      is_first = front.2;
      is_second = second;
      is = ap (λ (t : List ℕ). t ++ (front.0 ++ sep ∷ s0)) (whole_at text before place tail is within) ∙ sym (append_assoc (take place before) front.0 (sep ∷ s0));
    },
  )

  -- no text begins with what the first text does not begin with
  no_more : (before : List ℕ) (p rest : List ℕ) (x : A × C) → IsFree sep p → (IsFront First p → ⊥) → Both (p ++ rest) x → ⊥
  no_more before p rest x none never both =
      let more = free_begins sep p rest both.first both.second none both.is in
      never (more.0, x.0, subst (λ (t : List ℕ). First t x.0) more.1 both.is_first)

  first_other : (before after text : List ℕ) (x : A × C) → IsFree sep before → text ≡ before ++ sep ∷ after → ((a : A) → First before a → ⊥) → Both text x → ⊥
  first_other before after text x none is never both =
      let same = free_first sep before after both.first both.second none (free both.first x.0 both.is_first) (sym is ∙ both.is) in
      never x.0 (subst (λ (t : List ℕ). First t x.0) (sym same.0) both.is_first)

  -- the first text is none of its grammar, and no separator stands behind it
  pub leaves_alone : (before : List ℕ) (place : ℕ) → IsFree sep before → LeavesAt First before place → LeavesAt Both before place
  leaves_alone before place none leaves = record {
    within = leaves.within;
    front = front_first before before [] place (sym (append-nil before)) leaves.within leaves.front;
    longest = λ below front. no_more before (take (place + 1) before) front.0 front.1 (free_take sep (place + 1) before none) (leaves.longest below) front.2;
    none = λ x both. free_no sep before both.first both.second none both.is;
  }

  -- the same, with a separator behind it
  pub leaves_first : (text before after : List ℕ) (place : ℕ) → IsFree sep before → text ≡ before ++ sep ∷ after → LeavesAt First before place → LeavesAt Both text place
  leaves_first text before after place none is leaves = record {
    within = omega (arith, leaves.within, ap length is ∙ length-append before (sep ∷ after));
    front = front_first text before (sep ∷ after) place is leaves.within leaves.front;
    longest = λ below front. by_place (cases_lt place (length before)) front;
    none = λ x both. first_other before after text x none is leaves.none both;
  }
    where
      by_place : (place < length before) ⊎ (length before ≤ place) → IsFront Both (take (place + 1) text) → ⊥
      by_place (inl below) front =
          let same = whole_at text before (place + 1) (sep ∷ after) is (omega (arith, below)) in
          no_more before (take (place + 1) before) front.0 front.1 (free_take sep (place + 1) before none) (leaves.longest below)
          (subst (λ (t : List ℕ). Both (t ++ front.0) front.1) same front.2)
      by_place (inr all) front =
          let at : place + 1 ≡ length before + 1 = omega (arith, all, leaves.within) in
          let same : take (place + 1) text ≡ before ++ sep ∷ [] =
          ap (λ (n : ℕ). take n text) at ∙ (ap (λ (t : List ℕ). take (length before + 1) t) is ∙ take-append-add before (sep ∷ after) 1) in
          first_other before front.0 (take (place + 1) text ++ front.0) front.1 none
          (ap (λ (t : List ℕ). t ++ front.0) same ∙ append_assoc before (sep ∷ []) front.0) leaves.none front.2

  -- the first text is whole, and nothing stands behind it
  pub leaves_open : (before : List ℕ) (a : A) → IsFree sep before → First before a → LeavesAt Both before (length before)
  leaves_open before a none is = record {
    within = omega arith;
    front = (
      sep ∷ s0,
      (a, c0),
      record {
        first = before;
        second = s0;
        is_first = is;
        is_second = second;
        is = ap (λ (t : List ℕ). t ++ sep ∷ s0) (take_all (length before) before (omega arith));
      },
    );
    longest = λ below front. absurd (omega (arith, below));
    none = λ x both. free_no sep before both.first both.second none both.is;
  }

  -- the first text is whole, and the second leaves its grammar
  pub leaves_second : (text before after : List ℕ) (a : A) (place : ℕ) → IsFree sep before → text ≡ before ++ sep ∷ after → First before a → LeavesAt Second after place → LeavesAt Both text (length before + (1 + place))
  leaves_second text before after a place none is first leaves = record {
    within = omega (arith, leaves.within, ap length is ∙ length-append before (sep ∷ after));
    front = (
      leaves.front.0,
      (a, leaves.front.1),
      record {
        first = before;
        second = take place after ++ leaves.front.0;
        is_first = first;
        is_second = leaves.front.2;
        is = ap (λ (t : List ℕ). t ++ leaves.front.0) (cut place) ∙ append_assoc before (sep ∷ take place after) leaves.front.0;
      },
    );
    longest = λ below front. behind_ (place + 1) (omega (arith, ap length is ∙ length-append before (sep ∷ after), below)) front;
    none = λ x both. other (text) after x is both (leaves.none x.1);
  }
    where
      cut : (n : ℕ) → take (length before + (1 + n)) text ≡ before ++ sep ∷ take n after
      cut n =
          ap (λ (t : List ℕ). take (length before + (1 + n)) t) is
          ∙ (take-append-add before (sep ∷ after) (1 + n) ∙ ap (λ (t : List ℕ). before ++ t) (one_byte_more sep n after))

      other : (whole rest : List ℕ) (x : A × C) → whole ≡ before ++ sep ∷ rest → Both whole x → (Second rest x.1 → ⊥) → ⊥
      other whole rest x eq both never =
          let same = free_first sep before rest both.first both.second none (free both.first x.0 both.is_first) (sym eq ∙ both.is) in
          never (subst (λ (t : List ℕ). Second t x.1) (sym same.1) both.is_second)

      behind_ : (n : ℕ) → place < length after → IsFront Both (take (length before + (1 + place) + 1) text) → ⊥
      behind_ n below front =
          let at : length before + (1 + place) + 1 ≡ length before + (1 + (place + 1)) = omega arith in
          let eq : take (length before + (1 + place) + 1) text ++ front.0 ≡ before ++ sep ∷ (take (place + 1) after ++ front.0) =
          ap (λ (t : List ℕ). t ++ front.0) (ap (λ (k : ℕ). take k text) at ∙ cut (place + 1)) ∙ append_assoc before (sep ∷ take (place + 1) after) front.0 in
          other (take (length before + (1 + place) + 1) text ++ front.0) (take (place + 1) after ++ front.0) front.1 eq front.2 (λ s. leaves.longest below (front.0, front.1.1, s))
